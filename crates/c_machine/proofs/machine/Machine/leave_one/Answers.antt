use Rattle.std.proofs.Common.{false, map, ap, sym, ◌∙◌}
use Rattle.c_syntax.specs.View.{label_shape, stmt_shape}
use Rattle.c_tables.specs.Tables.{tables_shape}
use Rattle.c_meaning.specs.Firsts.{quiet}
use Rattle.c_meaning.specs.Results.{then_do}
use Rattle.c_meaning.specs.Statements.{here, after_one, flow, items_flow}
use Rattle.c_plan.specs.Parts.{items_left}
use Rattle.c_machine.specs.Todo.{knot_of, behind}
use Rattle.c_machine.proofs.Lists.{list_first}
use Rattle.c_machine.proofs.machine.Machine.leave_one.Goals as goal

pub returns-in_ok-wait-in-First-clause-left : goal.returns-in_ok-wait-in-First-clause-left
returns-in_ok-wait-in-First-clause-left c = λ p s.
    let t = tables_shape p.tables in
    let k = knot_of p in
    let i = c.in-First in
    c.open_at.ensures.left p s
    ∙ ap (then_do (flow t k false (stmt_shape i.first.stmt.now) (quiet i.first.before) s)) (c.in_ok-wait-in-First.ensures.behind t k)
    ∙ list_first t k (items_left c.args.sequence) (map label_shape i.field-0.now) (stmt_shape i.first.stmt.now) (items_left i.rest) c.args.sequence.before i.first.before i.rest.before s (behind t k c.args.self.now) i.ensures.0 i.ensures.1 i.ensures.2
    ∙ ap (λ f. then_do (after_one (items_flow t k here false (items_left c.args.sequence) (quiet c.args.sequence.before)) f s) (behind t k c.args.self.now)) (sym c.in-Next.is)
