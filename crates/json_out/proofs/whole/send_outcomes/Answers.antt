-- The list has its items.
use Rattle.std.proofs.Common.{arith, rules}
use Rattle.std.proofs.lemmas.List.{drop_all}
use Rattle.atac_facts.specs.Sets.{holds}
use Rattle.json_out.specs.Json.{outcome_json}
use Rattle.json_out.proofs.Lists.{one_each, all_each}
use Rattle.json_out.proofs.whole.send_outcomes.Goals as goal

pub loop-i-preserved : goal.loop-i-preserved
loop-i-preserved g c = one_each (outcome_json (holds c.args.covered.facts.now)) c.args.covered.items.now.outcomes c.loop-i.i c.outcome.result _ _ _ _ c.outcome.ensures c.in_ok-send_outcome.ensures c.loop-i.invariant

pub returns : goal.returns
returns g c = all_each (outcome_json (holds c.args.covered.facts.now)) c.args.covered.items.now.outcomes _ _ _ _ _ _ (search rules) (drop_all c.loop-i.i c.args.covered.items.now.outcomes (omega arith)) c.in_ok-begin_seq.ensures c.loop-i.invariant c.in_ok-end_seq.ensures
