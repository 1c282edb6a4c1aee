use Rattle.std.proofs.Common.{◌≡◌, ◌+◌, ◌≤◌, drop, map, false}
use Rattle.c_lex.specs.Macros.{spelled, bytes_of}
use Rattle.c_lex.specs.Scan.{second_token}
use Rattle.c_lex.proofs.scan.second_place.Given as goal

abbrev pub invariant-loop-piece : goal.invariant-loop-piece
invariant-loop-piece l = record {
  second : second_token l.seen l.place (map spelled (drop l.piece-index l.pieces)) ≡ second_token false l.fn.start (map spelled l.pieces);
  line : l.place.line + bytes_of (map spelled (drop l.piece-index l.pieces)) ≤ l.fn.start.line + bytes_of (map spelled l.pieces);
  col : l.place.col + bytes_of (map spelled (drop l.piece-index l.pieces)) ≤ l.fn.start.col + bytes_of (map spelled l.pieces);
}
