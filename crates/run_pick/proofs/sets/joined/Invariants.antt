use Rattle.std.proofs.Common.{◌≡◌, take}
use Rattle.atac_facts.specs.declared.fact.Fact.{Fact}
use Rattle.atac_facts.specs.Sets.{holds}
use Rattle.run_pick.specs.Kept.{some_shows}
use Rattle.run_pick.proofs.sets.joined.Given as goal

abbrev pub invariant-loop-run : goal.invariant-loop-run
invariant-loop-run l = (fact : Fact) → holds l.all fact ≡ some_shows (take l.run-index l.runs) fact
