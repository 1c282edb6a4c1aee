use Rattle.std.proofs.Common.{◌≡◌, ◌+◌, ◌<◌, ◌^◌, drop}
use Rattle.c_lex_pieces.specs.declared.bytes.ByteSet.TheVariants.{Digit}
use Rattle.c_lex_pieces.specs.Bytes.{run}
use Rattle.c_lex_pieces.specs.Numbers.{value, value_from}
use Rattle.c_eval_once.proofs.number.digits.Given as goal

abbrev pub invariant-loop-b : goal.invariant-loop-b
invariant-loop-b l = record {
  below : l.sum < 2 ^ 30;
  run : l.b-index + run (Digit 10) (drop l.b-index l.text) ≡ run (Digit 10) l.text;
  worth : value_from 10 l.sum (drop l.b-index l.text) ≡ value 10 l.text;
}
