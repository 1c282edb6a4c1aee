use Rattle.std.proofs.Common.{◌≡◌, ◌+◌, ◌≤◌, drop}
use Rattle.c_lex.specs.Places.{moved}
use Rattle.c_lex.proofs.places.behind.Given as goal

abbrev pub invariant-loop-b : goal.invariant-loop-b
invariant-loop-b l = record {
  moved : moved l.at (drop l.b-index l.bytes) ≡ moved l.fn.place l.bytes;
  line : l.at.line ≤ l.fn.place.line + l.b-index;
  col : l.at.col ≤ l.fn.place.col + l.b-index;
}
