use Rattle.std.proofs.Common.{sym, ap, ◌∙◌}
use Rattle.c_tables.specs.Tables.{tables_shape}
use Rattle.c_world.specs.World.{state_of}
use Rattle.c_eval.specs.Rest.{left, waiting, Val}
use Rattle.c_eval.proofs.Roles.{truth_taken}
use Rattle.c_eval.proofs.work.Work.take.Goals as goal

pub returns-in-Comma-clause-rest : goal.returns-in-Comma-clause-rest
returns-in-Comma-clause-rest c = λ k h. c.take_comma.ensures.rest (tables_shape c.args.tables.now) k c.args.value (state_of c.args.world.now h) ∙ ap (λ w. waiting (tables_shape c.args.tables.now) k c.args.frame.node.now w (left (tables_shape c.args.tables.now) k c.args.self.now) (Val c.args.value) (state_of c.args.world.now h)) (sym c.in-Comma.is)

pub returns-in-Truth-clause-rest : goal.returns-in-Truth-clause-rest
returns-in-Truth-clause-rest c = λ k h.
    let t = tables_shape c.args.tables.now in
    let s = state_of c.args.world.now h in
    c.now.ensures.rest t k s ∙ truth_taken t k c.args.frame.node.now c.args.frame.wait c.args.value c.in-Some.present c.truth_at.result s (left t k c.args.self.now) c.in-Truth.is c.in-Some.is c.truth_at.ensures
