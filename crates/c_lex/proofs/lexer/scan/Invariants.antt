use Rattle.std.proofs.Common.{◌+◌, ◌≤◌, length}
use Rattle.c_lex.specs.Scan.{Scans, Scanned}
use Rattle.c_lex.specs.Scanner.{AllClosed, state_of}
use Rattle.c_lex.specs.Given.{begin}
use Rattle.c_lex.proofs.lexer.scan.Given as goal

abbrev pub invariant-loop-rest : goal.invariant-loop-rest
invariant-loop-rest l = record {
  line : l.scan.place.line + length l.rest ≤ length l.text + 1;
  col : l.scan.place.col + length l.rest ≤ length l.text + 1;
  closed : AllClosed l.scan;
  on : (r : Scanned) → Scans l.rest (state_of l.scan) r → Scans l.text (begin l.fn.kind) r;
}

abbrev pub decreases-loop-rest : goal.decreases-loop-rest
decreases-loop-rest l = length l.rest
