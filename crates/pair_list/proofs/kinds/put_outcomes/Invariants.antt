use Rattle.std.proofs.Common.{◌≡◌, ◌++◌, take}
use Rattle.pair_list.specs.Items.{outcome_rows}
use Rattle.pair_list.proofs.kinds.put_outcomes.Given as goal

abbrev pub invariant-loop-k : goal.invariant-loop-k
invariant-loop-k l = l.items ≡ record l.fn.items { outcomes = l.fn.items.outcomes ++ outcome_rows 0 (take l.k l.sites.lists.decisions.items) }
