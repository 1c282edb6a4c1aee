use Rattle.std.proofs.Common.{sym, ◌∙◌, ap, arith}
use Rattle.c_walk.specs.Units.{number_or}
use Rattle.c_walk.proofs.Numbering.{number_here, number_next}
use Rattle.flow_graph.proofs.programs.function_of.Goals as goal

pub returns-then-has_body : goal.returns-then-has_body
returns-then-has_body c =
    ap number_or (sym (number_here _ _ c.loop-i.i _ _ _ c.function.ensures (omega arith) (sym c.has_body.ensures ∙ c.if-has_body.true)) ∙ c.loop-i.invariant)

pub loop-i-preserved : goal.loop-i-preserved
loop-i-preserved c =
    sym (number_next _ _ c.loop-i.i _ _ _ c.function.ensures (omega arith) (sym c.has_body.ensures ∙ c.if-has_body.false)) ∙ c.loop-i.invariant
