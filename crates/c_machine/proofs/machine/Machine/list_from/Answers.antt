use Rattle.std.proofs.Common.{false, map, sym, ap, ◌∙◌}
use Rattle.c_syntax.specs.View.{label_shape, stmt_shape}
use Rattle.c_tables.specs.Tables.{tables_shape}
use Rattle.c_meaning.specs.Firsts.{quiet}
use Rattle.c_meaning.specs.Results.{then_do}
use Rattle.c_meaning.specs.Statements.{flow, items_flow}
use Rattle.c_plan.specs.Parts.{items_left}
use Rattle.c_machine.specs.Forms.{entry_shape}
use Rattle.c_machine.specs.Todo.{knot_of, behind}
use Rattle.c_machine.proofs.Lists.{list_first, from_here, from_next}
use Rattle.c_machine.proofs.machine.Machine.list_from.Goals as goal

pub returns-then-is_reached-clause-left : goal.returns-then-is_reached-clause-left
returns-then-is_reached-clause-left c = λ p s.
    let t = tables_shape p.tables in
    let k = knot_of p in
    let i = c.in-First in
    let q = c.loop-self.sequence in
    let go = behind t k c.loop-self.self in
    c.open_at.ensures.left p s
    ∙ ap (then_do (flow t k false (stmt_shape i.first.stmt.now) (quiet i.first.before) s)) (c.in_ok-wait-in-First.ensures.behind t k)
    ∙ list_first t k (items_left q) (map label_shape i.labels.now) (stmt_shape i.first.stmt.now) (items_left i.rest) q.before i.first.before i.rest.before s go i.ensures.0 i.ensures.1 i.ensures.2
    ∙ ap (λ r. then_do r go) (from_here t k (entry_shape c.loop-self.entry) (items_left q) (map label_shape i.labels.now) (stmt_shape i.first.stmt.now) (items_left i.rest) q.before s i.ensures.0 (sym c.is_reached.ensures ∙ c.if-is_reached.true) ∙ c.loop-self.invariant.rest t k s)
    ∙ ap (λ m. then_do (items_flow t k (entry_shape c.args.entry) false (items_left c.args.sequence) (quiet c.args.sequence.before) s) (behind t k m)) c.loop-self.invariant.same

pub loop-self-preserved : goal.loop-self-preserved
loop-self-preserved c =
    let i = c.in-First in
    let q = c.loop-self.sequence in
    record {
      same = c.loop-self.invariant.same;
      rest = λ t k s.
          from_next t k (entry_shape c.loop-self.entry) (entry_shape c.passed-entry.result) (items_left q) (map label_shape i.labels.now) (stmt_shape i.first.stmt.now) (items_left i.rest) q.before i.rest.before s i.ensures.0 (sym c.is_reached.ensures ∙ c.if-is_reached.false) c.passed-entry.ensures i.ensures.2
          ∙ c.loop-self.invariant.rest t k s;
    }
