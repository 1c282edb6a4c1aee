use Rattle.std.proofs.Common.{rules, length, ◌≡◌, ◌≤◌, ◌<◌, ◌+◌, ◌*◌, ap, sym, subst, ◌∙◌, arith}
use Rattle.c_tables.specs.Tables.{tables_shape}
use Rattle.c_world.specs.World.{state_of}
use Rattle.c_machine.specs.declared.machine.Machine.{Machine}
use Rattle.c_machine.specs.Todo.{knot_of, at_end, gone_on, Tied, OnPassed, OnStep, OnNone, all_weights, machine_size, weight}
use Rattle.c_machine.proofs.Moves.{more_if}
use Rattle.c_machine.proofs.Stacks.{waits_pop, scopes_pop, weights_pop, fewer_pop}
use Rattle.c_machine.proofs.machine.Machine.pass.Goals as goal

pub go_on-requires-clause-tied : goal.go_on-requires-clause-tied
go_on-requires-clause-tied c = c.loop-waiting.invariant.tied ∙ scopes_pop c.loop-waiting.self.waiting.items c.pop.new.self.items c.in-Some.waiting c.in-Some.ensures.items

pub returns-in-Some-passed-clause-left : goal.returns-in-Some-passed-clause-left
returns-in-Some-passed-clause-left c = λ h.
    let p = c.args.plan.now.program.now in
    let t = tables_shape p.tables in
    let k = knot_of p in
    let m = c.loop-waiting.self in
    ap (λ a. gone_on t k a c.go_on.new.self c.args.flow (state_of c.go_on.new.world h)) (sym c.in-Some-passed.is)
    ∙ c.in_ok-passed.ensures.left h
    ∙ ap (λ go. go c.args.flow (state_of c.loop-waiting.world h)) (waits_pop t k m.waiting.items c.pop.new.self.items c.in-Some.waiting (at_end t m.function) c.in-Some.ensures.items)
    ∙ c.loop-waiting.invariant.passed h

pub returns-in-Some-passed-clause-tied : goal.returns-in-Some-passed-clause-tied
returns-in-Some-passed-clause-tied c = subst (λ a. OnPassed a (Tied c.go_on.new.self c.go_on.new.world)) c.in-Some-passed.is c.in_ok-passed.ensures.tied

pub returns-in-Some-passed-clause-falls : goal.returns-in-Some-passed-clause-falls
returns-in-Some-passed-clause-falls c =
    let falls = subst (λ a. OnStep a (12 * c.go_on.new.world.turns + machine_size c.go_on.new.self < 12 * c.loop-waiting.world.turns + 1 + weight c.in-Some.waiting + all_weights c.pop.new.self.items)) c.in-Some-passed.is c.in_ok-passed.ensures.falls in
    more_if c.in-Some-passed.step _ _ falls (λ h. omega (arith, h, c.loop-waiting.invariant.size, weights_pop c.loop-waiting.self.waiting.items c.pop.new.self.items c.in-Some.waiting c.in-Some.ensures.items))

pub loop-waiting-smaller : goal.loop-waiting-smaller
loop-waiting-smaller c =
    let m = record c.loop-waiting.self { waiting = c.pop.new.self } in
    let passed = subst (λ a. OnNone a (c.go_on.new.self ≡ m × c.go_on.new.world.turns ≤ c.loop-waiting.world.turns)) c.in_default-passed.is c.in_ok-passed.ensures.passed in
    subst (λ (m : Machine). length m.waiting.items < length c.loop-waiting.self.waiting.items) (sym passed.0) (fewer_pop c.loop-waiting.self.waiting.items c.pop.new.self.items c.in-Some.waiting c.in-Some.ensures.items)

pub loop-waiting-preserved : goal.loop-waiting-preserved
loop-waiting-preserved c =
    let p = c.args.plan.now.program.now in
    let t = tables_shape p.tables in
    let k = knot_of p in
    let m = c.loop-waiting.self in
    let popped = record m { waiting = c.pop.new.self } in
    let passed = subst (λ a. OnNone a (c.go_on.new.self ≡ popped × c.go_on.new.world.turns ≤ c.loop-waiting.world.turns)) c.in_default-passed.is c.in_ok-passed.ensures.passed in
    record {
      passed = λ h.
          ap (λ a. gone_on t k a c.go_on.new.self c.args.flow (state_of c.go_on.new.world h)) (sym c.in_default-passed.is)
          ∙ c.in_ok-passed.ensures.left h
          ∙ ap (λ go. go c.args.flow (state_of c.loop-waiting.world h)) (waits_pop t k m.waiting.items c.pop.new.self.items c.in-Some.waiting (at_end t m.function) c.in-Some.ensures.items)
          ∙ c.loop-waiting.invariant.passed h;
      tied = subst (λ a. OnPassed a (Tied c.go_on.new.self c.go_on.new.world)) c.in_default-passed.is c.in_ok-passed.ensures.tied;
      size = omega (arith, passed.1, ap (λ (m : Machine). all_weights m.waiting.items) passed.0, c.loop-waiting.invariant.size, weights_pop m.waiting.items c.pop.new.self.items c.in-Some.waiting c.in-Some.ensures.items);
      same = search rules;
    }
