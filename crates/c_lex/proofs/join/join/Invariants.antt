use Rattle.std.proofs.Common.{◌≡◌, vec_len}
use Rattle.std.specs.Prelude.{reverse}
use Rattle.c_lex.specs.Joined.{joined, join_all}
use Rattle.c_lex.proofs.join.join.Given as goal

abbrev pub invariant-loop-token : goal.invariant-loop-token
invariant-loop-token l = join_all l.out.items (reverse l.rest.items) ≡ joined l.fn.tokens.items

abbrev pub decreases-loop-token : goal.decreases-loop-token
decreases-loop-token l = vec_len l.rest
