use Rattle.c_tables.specs.Tables.{tables_shape}
use Rattle.c_syntax.specs.View.{node_shape}
use Rattle.c_meaning.specs.declared.end.Stop.TheVariants as stop
use Rattle.c_world.specs.World.{state_of}
use Rattle.c_eval.specs.Rest.{left, to_value}
use Rattle.c_eval_once.specs.Parts.{value}
use Rattle.c_eval.proofs.Steps.{stops_at, lower_up}
use Rattle.c_eval.proofs.Roles.{value_no_turn}
use Rattle.std.proofs.Common.{arith}
use Rattle.c_eval.proofs.work.Work.enter.Goals as goal

pub returns-then-not-turn-clause-rest : goal.returns-then-not-turn-clause-rest
returns-then-not-turn-clause-rest c = λ k h.
    let t = tables_shape c.args.tables.now in
    let e = c.args.node.now in
    let s = state_of c.args.world.now h in
    let n = c.turn.ensures.none c.if-not-turn.true h in
    stops_at stop.Turns (value t k (node_shape e) s) s (state_of c.turn.new.self h) (to_value (left t k c.args.self.now)) (value_no_turn t k e.pos e.op e.note e.form s c.requires.bare c.requires.value n.0) n.1

pub returns-clause-falls : goal.returns-clause-falls
returns-clause-falls c = lower_up c.in_ok-step.step _ _ _ c.in_ok-step.ensures.falls (omega (arith, c.turn.ensures.fewer c.if-not-turn.false))
