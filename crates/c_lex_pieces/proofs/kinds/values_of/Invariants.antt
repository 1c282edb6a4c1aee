use Rattle.std.proofs.Common.{◌≡◌, ◌+◌, ◌≤◌, length}
use Rattle.c_lex_pieces.specs.Quotes.{all_values, characters}
use Rattle.c_lex_pieces.proofs.Steps.{behind}
use Rattle.c_lex_pieces.proofs.kinds.values_of.Given as goal

abbrev pub invariant-loop-rest : goal.invariant-loop-rest
invariant-loop-rest l = record {
  few : length l.out + length l.rest ≤ length l.inside;
  values : behind l.out (all_values (characters l.rest)) ≡ all_values (characters l.inside);
}

abbrev pub decreases-loop-rest : goal.decreases-loop-rest
decreases-loop-rest l = length l.rest
