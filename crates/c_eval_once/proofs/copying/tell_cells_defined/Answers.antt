use Rattle.std.proofs.Common.{◌∙◌, ◌-◌, true, false, refl, sym, ap}
use Rattle.c_syntax.specs.Shape.{def}
use Rattle.c_syntax.specs.View.{node_shape}
use Rattle.c_meaning.specs.State.{tells, repeats}
use Rattle.c_meaning.specs.Firsts.{quiet}
use Rattle.c_meaning.specs.Places.{cells_defined, first_of, marks}
use Rattle.c_world.specs.World.{state_of}
use Rattle.c_eval_once.specs.Forms.{told}
use Rattle.c_eval_once.proofs.Copied.{none_defined, defined_again, one_defined}
use Rattle.c_eval_once.proofs.copying.tell_cells_defined.Goals as goal

pub returns-then-is_bare-clause-told : goal.returns-then-is_bare-clause-told
returns-then-is_bare-clause-told c = λ h go.
    ap (λ xs. cells_defined tells xs (quiet 0) (first_of c.args.at) c.args.at.size (state_of c.args.world.now h) go) (c.is_bare.ensures c.if-is_bare.true def) ∙ none_defined tells (first_of c.args.at) c.args.at.size (state_of c.args.world.now h) go

pub loop-left-init : goal.loop-left-init
loop-left-init c =
    let xs = marks def (node_shape c.args.node.now) in
    record {
      told = λ h go. defined_again tells xs (first_of c.args.at) c.args.at.size (state_of c.args.world.now h) go ∙ ap (λ q. cells_defined repeats xs (quiet 0) q c.args.at.size (state_of c.args.world.now h) go) (sym c.in_ok-cell.ensures);
      kept = record { program = refl; limit = refl; names = refl };
      turns = refl;
    }

pub returns-then-not-branch-clause-told : goal.returns-then-not-branch-clause-told
returns-then-not-branch-clause-told c = λ h go.
    let s = state_of c.tell_definitions.new.world h in
    c.loop-left.invariant.told h go ∙ one_defined (marks def (node_shape c.args.node.now)) false c.loop-left.cell c.loop-left.left (c.loop-left.left - 1) (state_of c.loop-left.world h) s go c.loop-left-test.true refl (λ go. c.in_ok-tell_definitions.ensures.told h go ∙ ap (λ b. told b s go) c.if-not-branch.true)

pub loop-left-preserved : goal.loop-left-preserved
loop-left-preserved c =
    let xs = marks def (node_shape c.args.node.now) in
    let kept = c.loop-left.invariant.kept in
    let more = c.in_ok-tell_definitions.ensures.kept in
    record {
      told = λ h go.
          let s = state_of c.tell_definitions.new.world h in
          c.loop-left.invariant.told h go ∙
          one_defined xs true c.loop-left.cell c.loop-left.left (c.loop-left.left - 1) (state_of c.loop-left.world h) s go c.loop-left-test.true refl (λ go. c.in_ok-tell_definitions.ensures.told h go ∙ ap (λ b. told b s go) c.if-not-branch.false) ∙
          ap (λ q. cells_defined repeats xs (quiet 0) q (c.loop-left.left - 1) s go) (sym c.in_ok-cell-2.ensures);
      kept = record { program = more.program ∙ kept.program; limit = more.limit ∙ kept.limit; names = more.names ∙ kept.names };
      turns = c.in_ok-tell_definitions.ensures.turns ∙ c.loop-left.invariant.turns;
    }
