use Rattle.std.proofs.Common.{false, ap, ◌∙◌}
use Rattle.c_syntax.specs.View.{form_shape, node_shape, item_list}
use Rattle.c_tables.specs.Tables.{tables_shape}
use Rattle.c_meaning.specs.Firsts.{quiet}
use Rattle.c_meaning.specs.Results.{then_do}
use Rattle.c_meaning.specs.Statements.{chosen_entry, items_flow}
use Rattle.c_plan.specs.Parts.{items_left}
use Rattle.c_plan.proofs.Forms.{switch_shape}
use Rattle.c_machine.specs.Forms.{entry_shape}
use Rattle.c_machine.specs.Todo.{knot_of, behind}
use Rattle.c_machine.proofs.Lists.{switch_opens}
use Rattle.c_machine.proofs.machine.Machine.switch.Goals as goal

pub returns-in_ok-step-in-Some-clause-left : goal.returns-in_ok-step-in-Some-clause-left
returns-in_ok-step-in-Some-clause-left c = λ p s.
    let t = tables_shape p.tables in
    let k = knot_of p in
    let i = c.in-Switch in
    let q = c.in-Some.sequence in
    c.in_ok-step-in-Some.ensures.left p s
    ∙ ap (then_do (items_flow t k (entry_shape c.in_ok-entry.entry) false (items_left q) (quiet q.before) s)) (c.in_ok-wait-in-Some.ensures.behind t k)
    ∙ switch_opens t k (form_shape c.args.placed.stmt.now.form) (node_shape i.chosen) (item_list i.items.items) (items_left q) (entry_shape c.in_ok-entry.entry) c.args.placed.before q.before c.args.value s (behind t k c.args.self.now)
    (switch_shape c.args.placed.stmt.now.form i.chosen i.items i.is) c.in-Some.ensures.0 c.in-Some.ensures.1 (c.in_ok-entry.ensures ∙ ap (λ l. chosen_entry (node_shape i.chosen) (item_list l) c.args.value) c.deref.ensures.value)
