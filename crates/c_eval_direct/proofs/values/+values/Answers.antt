use Rattle.std.proofs.Common.{◌∙◌, Some, None, Ok, Err, ap, sym, refl, arith}
use Rattle.c_syntax.specs.View.{node_shape, probe_shape}
use Rattle.c_tables.specs.Tables.{tables_shape}
use Rattle.c_meaning.specs.declared.end.Stop.TheVariants as stop
use Rattle.c_meaning.specs.Results.{Gives, Stops, then_do, settled}
use Rattle.c_meaning.specs.Expressions.{gives}
use Rattle.c_walk.specs.declared.around.Taken.TheVariants.{Read, Changed}
use Rattle.c_eval_once.specs.Parts.{value, replied}
use Rattle.c_syntax.specs.Shape.{probe}
use Rattle.c_world.specs.World.{state_of}
use Rattle.c_eval_once.proofs.Once.{no_turns, meets_as, stands_as}
use Rattle.c_eval_once.specs.Forms.{is_of_place}
use Rattle.c_meaning.specs.Firsts.{quiet}
use Rattle.c_eval_direct.specs.Direct.{parts}
use Rattle.c_eval_direct.proofs.Elements.{turned_value, two_size, one_size, at_place, at_judged, probe_stands, probe_parts, binary_parts, and_parts, or_parts, assign_parts, unary_parts, element_stands, element_parts, place_value, truth_value, changed_stops, changed_met}
use Rattle.c_eval_direct.proofs.values.+values.Goals as goal

pub met-returns-then-not-turn-clause-turns : goal.met-returns-then-not-turn-clause-turns
met-returns-then-not-turn-clause-turns n c = no_turns c.args.world.now c.turn.new.self (c.if-not-turn.ensures.none refl)

pub turned-returns-then-not-turn-clause-turns : goal.turned-returns-then-not-turn-clause-turns
turned-returns-then-not-turn-clause-turns n c = no_turns c.args.world.now c.turn.new.self (c.if-not-turn.ensures.none refl)

pub both-returns-then-not-turn-clause-turns : goal.both-returns-then-not-turn-clause-turns
both-returns-then-not-turn-clause-turns n c = no_turns c.args.world.now c.turn.new.self (c.if-not-turn.ensures.none refl)

pub either-returns-then-not-turn-clause-turns : goal.either-returns-then-not-turn-clause-turns
either-returns-then-not-turn-clause-turns n c = no_turns c.args.world.now c.turn.new.self (c.if-not-turn.ensures.none refl)

pub element-returns-then-not-turn-clause-turns : goal.element-returns-then-not-turn-clause-turns
element-returns-then-not-turn-clause-turns n c = no_turns c.args.world.now c.turn.new.self (c.if-not-turn.ensures.none refl)

pub pointed-returns-then-not-turn-clause-turns : goal.pointed-returns-then-not-turn-clause-turns
pointed-returns-then-not-turn-clause-turns n c = no_turns c.args.world.now c.turn.new.self (c.if-not-turn.ensures.none refl)

pub assigned-returns-then-not-turn-clause-turns : goal.assigned-returns-then-not-turn-clause-turns
assigned-returns-then-not-turn-clause-turns n c = no_turns c.args.world.now c.turn.new.self (c.if-not-turn.ensures.none refl)

pub changed-returns-then-not-turn-clause-turns : goal.changed-returns-then-not-turn-clause-turns
changed-returns-then-not-turn-clause-turns n c = no_turns c.args.world.now c.turn.new.self (c.if-not-turn.ensures.none refl)

pub stepped-returns-then-not-turn-clause-turns : goal.stepped-returns-then-not-turn-clause-turns
stepped-returns-then-not-turn-clause-turns n c = no_turns c.args.world.now c.turn.new.self (c.if-not-turn.ensures.none refl)

pub evaluate-met-requires : goal.evaluate-met-requires
evaluate-met-requires n c = (
  omega (arith, c.decreases, two_size c.args.node.now c.in-Binary.a c.in-Binary.b c.deref-in-Binary.result.now c.deref-in-Binary-2.result.now (ap parts c.in-Binary.is) c.deref-in-Binary.ensures c.deref-in-Binary-2.ensures),
  binary_parts c.args.node.now.note c.args.node.now.form c.in-Binary.op c.in-Binary.a c.in-Binary.b c.deref-in-Binary.result.now c.deref-in-Binary-2.result.now c.requires c.in-Binary.is c.deref-in-Binary.ensures c.deref-in-Binary-2.ensures,
)

pub evaluate-both-requires : goal.evaluate-both-requires
evaluate-both-requires n c = (
  omega (arith, c.decreases, two_size c.args.node.now c.in-And.a c.in-And.b c.deref-in-And.result.now c.deref-in-And-2.result.now (ap parts c.in-And.is) c.deref-in-And.ensures c.deref-in-And-2.ensures),
  and_parts c.args.node.now.note c.args.node.now.form c.in-And.a c.in-And.b c.deref-in-And.result.now c.deref-in-And-2.result.now c.requires c.in-And.is c.deref-in-And.ensures c.deref-in-And-2.ensures,
)

pub evaluate-either-requires : goal.evaluate-either-requires
evaluate-either-requires n c = (
  omega (arith, c.decreases, two_size c.args.node.now c.in-Or.a c.in-Or.b c.deref-in-Or.result.now c.deref-in-Or-2.result.now (ap parts c.in-Or.is) c.deref-in-Or.ensures c.deref-in-Or-2.ensures),
  or_parts c.args.node.now.note c.args.node.now.form c.in-Or.a c.in-Or.b c.deref-in-Or.result.now c.deref-in-Or-2.result.now c.requires c.in-Or.is c.deref-in-Or.ensures c.deref-in-Or-2.ensures,
)

pub evaluate-assigned-requires : goal.evaluate-assigned-requires
evaluate-assigned-requires n c = (
  omega (arith, c.decreases, two_size c.args.node.now c.in-Assign.a c.in-Assign.b c.deref-in-None.result.now c.deref-in-None-2.result.now (ap parts c.in-Assign.is) c.deref-in-None.ensures c.deref-in-None-2.ensures),
  assign_parts c.args.node.now.note c.args.node.now.form c.in-Assign.way None c.in-Assign.a c.in-Assign.b c.deref-in-None.result.now c.deref-in-None-2.result.now c.requires c.in-Assign.is c.in-None.is c.deref-in-None.ensures c.deref-in-None-2.ensures,
)

pub evaluate-changed-requires : goal.evaluate-changed-requires
evaluate-changed-requires n c =
    let parts_are = assign_parts c.args.node.now.note c.args.node.now.form c.in-Assign.way (Some c.in-Some.op) c.in-Assign.a c.in-Assign.b c.deref-in-Some.result.now c.deref-in-Some-2.result.now c.requires c.in-Assign.is c.in-Some.is c.deref-in-Some.ensures c.deref-in-Some-2.ensures in (
      omega (arith, c.decreases, two_size c.args.node.now c.in-Assign.a c.in-Assign.b c.deref-in-Some.result.now c.deref-in-Some-2.result.now (ap parts c.in-Assign.is) c.deref-in-Some.ensures c.deref-in-Some-2.ensures),
      (parts_are.0, parts_are.1.1),
    )

pub evaluate-turned-requires : goal.evaluate-turned-requires
evaluate-turned-requires n c =
    let parts_are = unary_parts c.args.node.now.note c.args.node.now.form c.in-Unary.op c.in-Unary.a c.deref-else-is_deref.result.now c.requires c.in-Unary.is c.deref-else-is_deref.ensures in (
      omega (arith, c.decreases, one_size c.args.node.now c.in-Unary.a c.deref-else-is_deref.result.now (ap parts c.in-Unary.is) c.deref-else-is_deref.ensures),
      (parts_are.0, (parts_are.1.0, (sym c.is_deref.ensures ∙ c.if-is_deref.false, parts_are.1.1))),
    )

pub evaluate-read-requires-in-Index : goal.evaluate-read-requires-in-Index
evaluate-read-requires-in-Index n c = (
  omega (arith, c.decreases),
  element_stands c.args.node.now.note c.args.node.now.form c.in-Index.field-0 c.in-Index.field-1 c.requires c.in-Index.is,
)

pub evaluate-read-requires-in-Use : goal.evaluate-read-requires-in-Use
evaluate-read-requires-in-Use n c = (
  omega (arith, c.decreases),
  probe_stands c.args.node.now.note c.args.node.now.form c.in-Probe.probe c.in-Probe.a c.requires c.in-Probe.is (at_place c.in-Probe.probe c.in-Use.is),
)

pub evaluate-entered-requires : goal.evaluate-entered-requires
evaluate-entered-requires n c =
    let parts_are = probe_parts c.args.node.now.note c.args.node.now.form c.in-Probe.probe c.in-Probe.a c.deref-in-Block.result.now c.requires c.in-Probe.is c.deref-in-Block.ensures (ap is_of_place c.in-Block.is) in (
      omega (arith, c.decreases, one_size c.args.node.now c.in-Probe.a c.deref-in-Block.result.now (ap parts c.in-Probe.is) c.deref-in-Block.ensures),
      (parts_are.0 ∙ ap (λ u. probe (probe_shape u) (node_shape c.deref-in-Block.result.now)) c.in-Block.is, parts_are.1),
    )

pub evaluate-judged-requires : goal.evaluate-judged-requires
evaluate-judged-requires n c =
    let judged = at_judged c.in-Probe.probe c.in-Test.is in
    let parts_are = probe_parts c.args.node.now.note c.args.node.now.form c.in-Probe.probe c.in-Probe.a c.deref-in-Test.result.now c.requires c.in-Probe.is c.deref-in-Test.ensures judged.1 in (
      omega (arith, c.decreases, one_size c.args.node.now c.in-Probe.a c.deref-in-Test.result.now (ap parts c.in-Probe.is) c.deref-in-Test.ensures),
      (parts_are.0, (judged.0, parts_are.1)),
    )

pub direct_place-element-requires : goal.direct_place-element-requires
direct_place-element-requires n c = (
  omega (arith, c.decreases, c.behind_probes-inner.ensures.parts, two_size c.behind_probes-inner.result.now c.in-Index.a c.in-Index.b c.deref.result.now c.deref-in-Index.result.now (ap parts c.in-Index.is) c.deref.ensures c.deref-in-Index.ensures),
  element_parts c.behind_probes-inner.result.now.note c.behind_probes-inner.result.now.form c.in-Index.a c.in-Index.b c.deref.result.now c.deref-in-Index.result.now c.behind_probes-inner.ensures.direct c.in-Index.is c.deref.ensures c.deref-in-Index.ensures,
)

pub direct_place-returns-in-Name-clause-is : goal.direct_place-returns-in-Name-clause-is
direct_place-returns-in-Name-clause-is n c = λ k r h.
    let t = tables_shape c.args.tables.now in
    let s = state_of c.args.world.now h in
    stands_as c.variable.result (state_of c.variable.new.world h) _ _ (c.behind_probes-inner.ensures.place t k r (quiet 0) s) (c.variable.ensures.is k r h)

pub direct_place-returns-in-Index-clause-is : goal.direct_place-returns-in-Index-clause-is
direct_place-returns-in-Index-clause-is n c = λ k r h.
    let t = tables_shape c.args.tables.now in
    let s = state_of c.args.world.now h in
    stands_as c.element.result (state_of c.element.new.world h) _ _ (c.behind_probes-inner.ensures.place t k r (quiet 0) s) (c.element.ensures.is k r h)

pub direct_place-returns-in-Unary-clause-is : goal.direct_place-returns-in-Unary-clause-is
direct_place-returns-in-Unary-clause-is n c = λ k r h.
    let t = tables_shape c.args.tables.now in
    let s = state_of c.args.world.now h in
    stands_as c.pointed.result (state_of c.pointed.new.world h) _ _ (c.behind_probes-inner.ensures.place t k r (quiet 0) s) (c.pointed.ensures.is k r h)

pub read-returns-in-Stopped-clause-is : goal.read-returns-in-Stopped-clause-is
read-returns-in-Stopped-clause-is n c = λ k h.
    c.put-in-Stopped.ensures.meets _ _
    (place_value (tables_shape c.args.tables.now) k c.args.node.now (state_of c.args.world.now h) (Stops c.in-Stopped.why (state_of c.direct_place.new.world h)) c.requires.stands (c.in-Stopped.ensures.is k Read h))

pub read-returns-in-At-clause-is : goal.read-returns-in-At-clause-is
read-returns-in-At-clause-is n c = λ k h.
    c.put-in-At.ensures.meets _ _
    (meets_as c.fetch.result (state_of c.fetch.new.world h) _ _
    (place_value (tables_shape c.args.tables.now) k c.args.node.now (state_of c.args.world.now h) (Gives c.in-At.at (state_of c.direct_place.new.world h)) c.requires.stands (c.in-At.ensures.is k Read h))
    (c.fetch.ensures.is h))

pub truth-returns-in-Value-clause-is : goal.truth-returns-in-Value-clause-is
truth-returns-in-Value-clause-is n c = λ k h.
    truth_value (tables_shape c.args.tables.now) k (node_shape c.args.node.now) (state_of c.args.world.now h) (state_of c.value_with.new.world h) c.in-Value.right c.truth_at.result (c.in-Value.ensures.is k h) (c.truth_at.ensures (state_of c.value_with.new.world h))

pub turned-returns-in-Value-clause-is : goal.turned-returns-in-Value-clause-is
turned-returns-in-Value-clause-is n c = λ k h.
    let t = tables_shape c.args.tables.now in
    let s = state_of c.value_with.new.world h in
    c.put-in-Value.ensures.meets _ _
    (meets_as c.settle.result s (value t k (node_shape c.args.node.now) (state_of c.args.world.now h)) (then_do (settled c.of_one.result s) gives)
    (ap (value t k (node_shape c.args.node.now)) (c.if-not-turn.ensures.taken refl h) ∙ turned_value t k c.args.node.now (node_shape c.args.a.now) c.args.op (state_of c.turn.new.self h) s c.in-Value.operand c.of_one.result c.requires.form c.requires.address c.requires.deref (c.in-Value.ensures.is k h) c.of_one.ensures)
    (c.settle.ensures s))
