use Rattle.std.proofs.Common.{◌≡◌, ◌<◌, ◌^◌, drop}
use Rattle.c_lex_pieces.specs.Numbers.{value, value_from}
use Rattle.c_lex_pieces.proofs.numbers.value_of.Given as goal

abbrev pub invariant-loop-d : goal.invariant-loop-d
invariant-loop-d l = record {
  below : l.sum < 2 ^ 64;
  worth : value_from l.base l.sum (drop l.d-index l.digits) ≡ value l.base l.digits;
}
