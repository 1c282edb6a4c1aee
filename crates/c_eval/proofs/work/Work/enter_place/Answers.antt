use Rattle.std.proofs.Common.{◌∙◌, sym, refl, arith}
use Rattle.c_tables.specs.Tables.{tables_shape}
use Rattle.c_syntax.specs.View.{node_shape}
use Rattle.c_store.specs.declared.value.Fault.TheVariants.{NoResult}
use Rattle.c_meaning.specs.declared.end.Stop.TheVariants as stop
use Rattle.c_world.specs.World.{state_of}
use Rattle.c_eval.specs.Rest.{left, to_spot}
use Rattle.c_eval_once.specs.Parts.{place}
use Rattle.c_eval.proofs.Steps.{stops_at, lower_one}
use Rattle.c_eval.proofs.Roles.{not_place}
use Rattle.c_eval.proofs.work.Work.enter_place.Goals as goal

pub returns-then-not-has_place-clause-rest : goal.returns-then-not-has_place-clause-rest
returns-then-not-has_place-clause-rest c = λ k h.
    let t = tables_shape c.args.tables.now in
    let e = c.args.node.now in
    let s = state_of c.args.world.now h in
    stops_at (stop.Fault NoResult) (place t k (node_shape e) s) s s (to_spot (left t k c.args.self.now)) (not_place t k e.pos e.op e.note e.form s c.requires (sym c.has_place.ensures ∙ c.if-not-has_place.true)) refl

pub returns-clause-falls : goal.returns-clause-falls
returns-clause-falls c = lower_one c.in_ok-step.step _ _ _ c.in_ok-step.ensures.falls (omega (arith, c.turn.ensures.fewer c.if-not-turn.false))
