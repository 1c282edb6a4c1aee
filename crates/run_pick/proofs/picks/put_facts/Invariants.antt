use Rattle.std.proofs.Common.{◌≡◌, ◌++◌, map, take}
use Rattle.cover_report.specs.ItemTexts.{of_kind}
use Rattle.run_pick.proofs.picks.put_facts.Given as goal

abbrev pub invariant-loop-i : goal.invariant-loop-i
invariant-loop-i l = l.facts.items ≡ l.fn.facts.items ++ map (λ item. item.fact) (take l.i (of_kind l.items l.kind))
