-- What the words so far and the words that are left have.
use Rattle.std.proofs.Common.{◌+◌, length}
use Rattle.atac_facts.proofs.Unions.{Keeps}
use Rattle.atac_facts.proofs.facts.union.Given as goal

abbrev pub invariant-loop-key : goal.invariant-loop-key
invariant-loop-key l = Keeps l.both.words l.rest_a l.rest_b l.a.words l.b.words

abbrev pub decreases-loop-key : goal.decreases-loop-key
decreases-loop-key l = length l.rest_a + length l.rest_b
