use Rattle.std.proofs.Common.{◌≡◌, ◌+◌, drop}
use Rattle.c_lex_pieces.specs.Bytes.{run}
use Rattle.c_lex_pieces.proofs.bytes.run_of.Given as goal

abbrev pub invariant-loop-i : goal.invariant-loop-i
invariant-loop-i l = l.i + run l.set (drop l.i l.text) ≡ run l.set l.text
