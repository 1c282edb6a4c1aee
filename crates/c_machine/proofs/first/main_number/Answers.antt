use Rattle.std.proofs.Common.{sym, ◌∙◌, arith}
use Rattle.c_machine.proofs.Rows.{main_here, main_next}
use Rattle.c_machine.proofs.first.main_number.Goals as goal

pub returns-then-is_main : goal.returns-then-is_main
returns-then-is_main c = sym (main_here _ c.loop-i.i _ _ c.function.ensures (omega arith) (sym c.is_main.ensures ∙ c.if-is_main.true)) ∙ c.loop-i.invariant

pub loop-i-preserved : goal.loop-i-preserved
loop-i-preserved c = sym (main_next _ c.loop-i.i _ _ c.function.ensures (omega arith) (sym c.is_main.ensures ∙ c.if-is_main.false)) ∙ c.loop-i.invariant
