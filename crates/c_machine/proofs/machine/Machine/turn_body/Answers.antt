use Rattle.std.proofs.Common.{false, ap, ◌∙◌}
use Rattle.c_syntax.specs.View.{form_shape, stmt_shape}
use Rattle.c_tables.specs.Tables.{tables_shape}
use Rattle.c_meaning.specs.Firsts.{quiet}
use Rattle.c_meaning.specs.Results.{then_do}
use Rattle.c_meaning.specs.Statements.{flow}
use Rattle.c_plan.specs.Parts.{first_in}
use Rattle.c_machine.specs.Todo.{loop_of, behind_body, knot_of, behind}
use Rattle.c_machine.proofs.Lists.{body_opens}
use Rattle.c_machine.proofs.machine.Machine.turn_body.Goals as goal

pub returns-in_ok-wait-in-Some-clause-left : goal.returns-in_ok-wait-in-Some-clause-left
returns-in_ok-wait-in-Some-clause-left c = λ p s.
    let t = tables_shape p.tables in
    let k = knot_of p in
    let i = c.in-Some in
    let f = form_shape c.args.placed.stmt.now.form in
    c.open_at.ensures.left p s
    ∙ ap (then_do (flow t k false (stmt_shape i.body.stmt.now) (quiet i.body.before) s)) (c.in_ok-wait-in-Some.ensures.behind t k)
    ∙ body_opens t k (first_in f) (stmt_shape i.body.stmt.now) i.body.before c.args.placed.before s (behind_body t k (loop_of t f c.args.placed.before)) (behind t k c.args.self.now) i.ensures.0 i.ensures.1
