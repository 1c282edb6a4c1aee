use Rattle.std.proofs.Common.{◌≡◌, drop, map}
use Rattle.c_lex.specs.Macros.{spelled}
use Rattle.c_lex.specs.Scan.{same_spelling}
use Rattle.c_lex.proofs.obey.same.Given as goal

abbrev pub invariant-loop-i : goal.invariant-loop-i
invariant-loop-i l = same_spelling (map spelled (drop l.i l.a)) (map spelled (drop l.i l.b)) ≡ same_spelling (map spelled l.a) (map spelled l.b)
