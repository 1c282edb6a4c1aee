use Rattle.std.proofs.Common.{◌≡◌, ap, subst, ◌∙◌, Vec, Global}
use Rattle.c_syntax.specs.declared.tree.Item.{Item}
use Rattle.c_syntax.specs.View.{node_shape, declarator_shape, item_list}
use Rattle.c_tree.specs.declared.program.Program.{Program}
use Rattle.c_tables.specs.Tables.{tables_shape}
use Rattle.c_meaning.specs.Firsts.{quiet}
use Rattle.c_meaning.specs.Results.{then_do}
use Rattle.c_meaning.specs.Declarations.{declared_name}
use Rattle.c_world.specs.World.{state_of, tables_of}
use Rattle.c_eval_once.specs.Parts.{value}
use Rattle.c_plan.specs.Parts.{names_ahead}
use Rattle.c_machine.specs.declared.parts.Declared.TheVariants as declared
use Rattle.c_machine.specs.Todo.{knot_of, uses, block_flow, declared_as, behind}
use Rattle.c_machine.proofs.Declared.{block_wants}
use Rattle.c_machine.proofs.Moves.{is_active}
use Rattle.c_machine.proofs.machine.Machine.declare.Goals as goal

pub returns-in-Value-clause-left : goal.returns-in-Value-clause-left
returns-in-Value-clause-left c = λ h.
    let t = tables_shape c.args.plan.now.program.now.tables in
    let k = knot_of c.args.plan.now.program.now in
    let b = c.loop-sequence.block in
    let i = c.in-Name in
    let e = node_shape c.in-Value.node.now in
    let u = c.in-Value.used in
    let s = state_of c.loop-sequence.world h in
    let s' = state_of c.declare_one.new.world h in
    let go = behind t k c.loop-sequence.self in
    let d = declarator_shape i.declarator.now in
    c.work_at.ensures.left t k s'
    ∙ ap (λ go. then_do (value t k e s') (uses t k u go)) (c.in_ok-wait-in-Value.ensures.behind t k)
    ∙ ap (λ (v : Vec Item Global). then_do (value t k e s') (uses t k u (λ f s. then_do (block_flow t k (names_ahead i.rest) (item_list v.items) i.rest.before s) go))) i.ensures.1
    ∙ block_wants t k (names_ahead b) d (names_ahead i.rest) (item_list b.items.now.items) b.before i.rest.before s s' e u go i.ensures.0 i.ensures.2
    (subst (λ (p : Program). declared_as (tables_shape p.tables) k (declared.Value c.in-Value.node u) s' ≡ declared_name (tables_shape p.tables) k d (quiet b.before) s) (c.loop-sequence.invariant.program ∙ c.requires.program)
    (subst (λ r. declared_as (tables_of c.loop-sequence.world) k r s' ≡ declared_name (tables_of c.loop-sequence.world) k d (quiet b.before) s) c.in-Value.is (c.in_ok-declare_one-in-Name.ensures.done k h b.before i.ensures.2)))
    ∙ ap (λ r. then_do r go) (c.loop-sequence.invariant.left h)
    ∙ ap (λ m. then_do (block_flow t k (names_ahead c.args.block) (item_list c.args.block.items.now.items) c.args.block.before (state_of c.args.world.now h)) (behind t k m)) c.loop-sequence.invariant.same

pub declare_one-requires : goal.declare_one-requires
declare_one-requires c = is_active c.loop-sequence.world.names.calls c.args.self.now.waiting.items (c.loop-sequence.invariant.counts ∙ c.requires.tied)
