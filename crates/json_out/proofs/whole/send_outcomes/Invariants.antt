use Rattle.std.proofs.Common.{drop}
use Rattle.atac_facts.specs.Sets.{holds}
use Rattle.json_out.specs.Json.{each_json, outcome_json}
use Rattle.json_out.proofs.Lists.{Ends}
use Rattle.json_out.proofs.whole.send_outcomes.Given as goal

abbrev pub invariant-loop-i : goal.invariant-loop-i
invariant-loop-i g l = Ends (each_json (outcome_json (holds l.covered.facts.now)) (drop l.i l.covered.items.now.outcomes)) (each_json (outcome_json (holds l.covered.facts.now)) l.covered.items.now.outcomes) (g.S.Serializer.written l.initial.out) (g.S.Serializer.written l.out)
