use Rattle.std.proofs.Common.{◌≡◌, length}
use Rattle.std.specs.Prelude.{is_some}
use Rattle.c_lex_pieces.specs.Quotes.{all_values, characters}
use Rattle.c_lex_pieces.proofs.quotes.all_right.Given as goal

abbrev pub invariant-loop-rest : goal.invariant-loop-rest
invariant-loop-rest l = is_some (all_values (characters l.rest)) ≡ is_some (all_values (characters l.inside))

abbrev pub decreases-loop-rest : goal.decreases-loop-rest
decreases-loop-rest l = length l.rest
