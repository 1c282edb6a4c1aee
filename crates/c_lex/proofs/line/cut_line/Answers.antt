use Rattle.std.proofs.Common.{arith, sym}
use Rattle.std.proofs.lemmas.Grind.{common_steps}
use Rattle.c_lex.proofs.Lines.{line_end, line_refused, line_stop, line_whole}
use Rattle.c_lex.proofs.line.cut_line.Goals as goal

pub returns-in-Refused-clause-line : goal.returns-in-Refused-clause-line
returns-in-Refused-clause-line c = line_whole _ _ (c.loop-rest.invariant.on _ (line_refused _ _ _ _ (grind (arith, common_steps)) (sym c.in-Refused.ensures.front)))

pub returns-in-Some-clause-line : goal.returns-in-Some-clause-line
returns-in-Some-clause-line c = line_whole _ _ (c.loop-rest.invariant.on _ (line_stop _ _ _ _ _ _ (grind (arith, common_steps)) (sym c.in-Piece.ensures.front) (sym c.in-Some.ensures)))

pub returns-clause-line : goal.returns-clause-line
returns-clause-line c = line_whole _ _ (c.loop-rest.invariant.on _ (line_end _ _ _ (grind (arith, common_steps))))
