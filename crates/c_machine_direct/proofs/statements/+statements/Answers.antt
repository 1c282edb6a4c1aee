use Rattle.std.proofs.Common.{◌≡◌, ◌+◌, ◌≤◌, ◌∙◌, [], length, true, false, refl, ap, sym, subst, arith}
use Rattle.c_syntax.specs.View.{stmt_shape, item_list}
use Rattle.c_tables.specs.Tables.{tables_shape}
use Rattle.c_walk.specs.Stating.{splits}
use Rattle.c_meaning.specs.declared.end.Flow.TheVariants.{Next, Break, Continue, Return}
use Rattle.c_meaning.specs.Counts.{stmt_variables}
use Rattle.c_meaning.specs.State.{State}
use Rattle.c_meaning.specs.Results.{Gives, Stops}
use Rattle.c_meaning.specs.Firsts.{quiet}
use Rattle.c_meaning.specs.Statements.{items_flow, here}
use Rattle.c_world.specs.Names.{Naming, scopes_in}
use Rattle.c_world.specs.World.{state_of}
use Rattle.c_machine_direct.proofs.Lists.{here_at, none_left, item_direct, item_stops, item_leaves}
use Rattle.c_machine_direct.proofs.Sizes.{compound_size, other_size, item_size}
use Rattle.c_machine_direct.proofs.Done.{list_direct, scoped_gives, scoped_stops, more_scopes, same_scopes, if_stops, other_direct, holds_leaves}
use Rattle.c_machine_direct.proofs.statements.+statements.Goals as goal

pub compound-items-requires : goal.compound-items-requires
compound-items-requires t c = (
  omega (arith, c.decreases, compound_size c.args.body.now c.deref.result.now c.deref.ensures.value),
  (list_direct c.args.body.now c.deref.result.now c.deref.ensures.value c.requires.direct, more_scopes c.args.world.now.names.calls c.begin_scope.new.self.names.calls c.in-Ok.ensures.counts c.requires.scoped),
)

pub compound-returns-in-Stopped-clause-is : goal.compound-returns-in-Stopped-clause-is
compound-returns-in-Stopped-clause-is t c = λ k h n.
    let u = state_of c.begin_scope.new.self h in
    let v = state_of c.items.new.world h in
    scoped_stops (tables_shape c.args.tables.now) k c.args.body.now n (state_of c.args.world.now h) u v c.in-Stopped.why c.requires.direct (c.in-Ok.ensures.begun h)
    (λ m. subst (λ l. items_flow (tables_shape c.args.tables.now) k here false (item_list l) (quiet m) u ≡ Stops c.in-Stopped.why v) c.deref.ensures.value (c.in-Stopped.ensures.is k h false m))

pub compound-returns-in-Left-clause-is : goal.compound-returns-in-Left-clause-is
compound-returns-in-Left-clause-is t c = λ k h n.
    let u = state_of c.begin_scope.new.self h in
    let v = state_of c.items.new.world h in
    scoped_gives (tables_shape c.args.tables.now) k c.args.body.now n (state_of c.args.world.now h) u v c.in-Left.flow c.requires.direct (c.in-Ok.ensures.begun h)
    (λ m. subst (λ l. items_flow (tables_shape c.args.tables.now) k here false (item_list l) (quiet m) u ≡ Gives c.in-Left.flow v) c.deref.ensures.value (c.in-Left.ensures.is k h false m))
    ∙ ap (λ s. Gives c.in-Left.flow s) (sym (c.end_scope.ensures.ended h))

pub compound-returns-in-Left-clause-turns : goal.compound-returns-in-Left-clause-turns
compound-returns-in-Left-clause-turns t c = omega (arith, c.in-Left.ensures.turns, ap (λ (s : State). s.turns) (c.in-Ok.ensures.begun []), ap (λ (s : State). s.turns) (c.end_scope.ensures.ended []))

pub form-statement-requires-in-Some : goal.form-statement-requires-in-Some
form-statement-requires-in-Some t c = (
  omega (arith, c.decreases, other_size c.args.form.now c.in-If.test c.in-If.first c.in-Some.other c.in-If.other c.deref-in-Some.result.now c.in-If.is c.in-Some.is c.deref-in-Some.ensures),
  (
    other_direct c.args.form.now c.in-If.test c.in-If.first c.in-If.other c.in-Some.other c.deref-in-Some.result.now c.requires.direct c.in-If.is c.in-Some.is c.deref-in-Some.ensures,
    subst (λ (n : Naming). 1 ≤ length (scopes_in n.calls)) (sym c.in-Is-false.ensures.names) c.requires.scoped,
  ),
)

pub form-returns-in-Stopped-clause-is : goal.form-returns-in-Stopped-clause-is
form-returns-in-Stopped-clause-is t c = λ k h n.
    if_stops (tables_shape c.args.tables.now) k c.args.form.now c.in-If.test c.in-If.first c.in-If.other n (state_of c.args.world.now h) (state_of c.truth.new.world h) c.in-Stopped.why c.in-If.is (c.in-Stopped.ensures.is k h)

pub form-returns-in-Is-true-clause-is : goal.form-returns-in-Is-true-clause-is
form-returns-in-Is-true-clause-is t c = λ k h n.
    holds_leaves c.statement.result (state_of c.statement.new.world h) (tables_shape c.args.tables.now) k c.args.form.now c.in-If.test c.in-If.first c.in-If.other c.deref.result.now n (state_of c.args.world.now h) (state_of c.truth.new.world h) c.in-Is-true.field-0
    c.in-Is-true.field-0-test c.in-If.is c.deref.ensures (c.in-Is-true.ensures.is k h) (c.statement.ensures.is k h true n)

pub items-statement-requires : goal.items-statement-requires
items-statement-requires t c =
    let at = here_at c.args.items.now c.loop-item.item-index c.item-item.result (omega arith) c.item-item.is in (
      omega (arith, c.decreases, item_size c.args.items.now c.loop-item.item-index c.item-item.result at),
      (
        (item_direct c.args.items.now c.loop-item.item-index c.item-item.result at c.loop-item.invariant.direct).0,
        omega (arith, same_scopes c.args.world.now.names.calls c.loop-item.world.names.calls c.loop-item.invariant.counts, c.requires.scoped),
      ),
    )

pub items-loop-item-init : goal.items-loop-item-init
items-loop-item-init t c = record {
  direct = c.requires.direct;
  is = λ k h after n. (after, n, refl);
  counts = refl;
  turns = omega arith;
  same = record { program = refl; limit = refl };
}

pub items-loop-item-preserved : goal.items-loop-item-preserved
items-loop-item-preserved t c =
    let r = c.item-item.result in
    let v = c.loop-item.invariant in
    let at = here_at c.args.items.now c.loop-item.item-index r (omega arith) c.item-item.is in
    record {
      direct = (item_direct c.args.items.now c.loop-item.item-index r at v.direct).1;
      is = λ k h after n.
          let w = v.is k h after n in
          let u = state_of c.statement.new.world h in
          (splits (stmt_shape r.stmt), w.1 + stmt_variables (stmt_shape r.stmt), w.2 ∙ item_leaves (tables_shape c.args.tables.now) k c.args.items.now c.loop-item.item-index r at w.0 w.1 (state_of c.loop-item.world h) u Next (λ b. c.in-Left.ensures.is k h b w.1 ∙ ap (λ f. Gives f u) c.in-Next.is));
      counts = c.in-Left.ensures.counts ∙ v.counts;
      turns = omega (arith, c.in-Left.ensures.fewer, v.turns);
      same = record { program = c.in-Left.ensures.same.program ∙ v.same.program; limit = c.in-Left.ensures.same.limit ∙ v.same.limit };
    }

pub items-returns-in-Stopped-clause-is : goal.items-returns-in-Stopped-clause-is
items-returns-in-Stopped-clause-is t c = λ k h after n.
    let w = c.loop-item.invariant.is k h after n in
    let at = here_at c.args.items.now c.loop-item.item-index c.item-item.result (omega arith) c.item-item.is in
    w.2 ∙ item_stops (tables_shape c.args.tables.now) k c.args.items.now c.loop-item.item-index c.item-item.result at w.0 w.1 (state_of c.loop-item.world h) (state_of c.statement.new.world h) c.in-Stopped.why (λ b. c.in-Stopped.ensures.is k h b w.1)

pub items-returns-in-Break-clause-is : goal.items-returns-in-Break-clause-is
items-returns-in-Break-clause-is t c = λ k h after n.
    let w = c.loop-item.invariant.is k h after n in
    let u = state_of c.statement.new.world h in
    let at = here_at c.args.items.now c.loop-item.item-index c.item-item.result (omega arith) c.item-item.is in
    w.2 ∙ item_leaves (tables_shape c.args.tables.now) k c.args.items.now c.loop-item.item-index c.item-item.result at w.0 w.1 (state_of c.loop-item.world h) u Break (λ b. c.in-Left.ensures.is k h b w.1 ∙ ap (λ f. Gives f u) c.in-Break.is)

pub items-returns-in-Continue-clause-is : goal.items-returns-in-Continue-clause-is
items-returns-in-Continue-clause-is t c = λ k h after n.
    let w = c.loop-item.invariant.is k h after n in
    let u = state_of c.statement.new.world h in
    let at = here_at c.args.items.now c.loop-item.item-index c.item-item.result (omega arith) c.item-item.is in
    w.2 ∙ item_leaves (tables_shape c.args.tables.now) k c.args.items.now c.loop-item.item-index c.item-item.result at w.0 w.1 (state_of c.loop-item.world h) u Continue (λ b. c.in-Left.ensures.is k h b w.1 ∙ ap (λ f. Gives f u) c.in-Continue.is)

pub items-returns-in-Return-clause-is : goal.items-returns-in-Return-clause-is
items-returns-in-Return-clause-is t c = λ k h after n.
    let w = c.loop-item.invariant.is k h after n in
    let u = state_of c.statement.new.world h in
    let at = here_at c.args.items.now c.loop-item.item-index c.item-item.result (omega arith) c.item-item.is in
    w.2 ∙ item_leaves (tables_shape c.args.tables.now) k c.args.items.now c.loop-item.item-index c.item-item.result at w.0 w.1 (state_of c.loop-item.world h) u (Return c.in-Return.value) (λ b. c.in-Left.ensures.is k h b w.1 ∙ ap (λ f. Gives f u) c.in-Return.is)

pub items-returns-clause-is : goal.items-returns-clause-is
items-returns-clause-is t c = λ k h after n.
    let w = c.loop-item.invariant.is k h after n in
    w.2 ∙ ap (λ l. items_flow (tables_shape c.args.tables.now) k here w.0 (item_list l) (quiet w.1) (state_of c.loop-item.world h)) (none_left c.args.items.now c.loop-item.item-index (omega arith))
