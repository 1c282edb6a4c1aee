use Rattle.std.proofs.Common.{◌≡◌, not, take}
use Rattle.std.specs.List.{filter}
use Rattle.atac_facts.specs.Sets.{holds}
use Rattle.run_pick.proofs.sets.part.Given as goal

abbrev pub invariant-loop-fact : goal.invariant-loop-fact
invariant-loop-fact l = record {
  inside : l.inside.items ≡ filter (holds l.set) (take l.fact-index l.facts);
  outside : l.outside.items ≡ filter (λ fact. not (holds l.set fact)) (take l.fact-index l.facts);
}
