use Rattle.std.proofs.Common.{◌≡◌, ◌+◌, length, [], map}
use Rattle.c_lex.specs.Macros.{bytes_of, spelled}
use Rattle.c_lex.specs.Line.{Lines, LineCut}
use Rattle.c_lex.proofs.line.cut_line.Given as goal

abbrev pub invariant-loop-rest : goal.invariant-loop-rest
invariant-loop-rest l = record {
  within : l.size + length l.rest ≡ length l.text;
  size : bytes_of (map spelled l.pieces.items) ≡ l.size;
  on : (r : LineCut) → Lines l.rest (map spelled l.pieces.items) l.size r → Lines l.text [] 0 r;
}

abbrev pub decreases-loop-rest : goal.decreases-loop-rest
decreases-loop-rest l = length l.rest
