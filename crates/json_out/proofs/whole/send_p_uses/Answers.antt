-- The list has its items.
use Rattle.std.proofs.Common.{arith, rules}
use Rattle.std.proofs.lemmas.List.{drop_all}
use Rattle.atac_facts.specs.Sets.{holds}
use Rattle.json_out.specs.Json.{p_use_json}
use Rattle.json_out.proofs.Lists.{one_each, all_each}
use Rattle.json_out.proofs.whole.send_p_uses.Goals as goal

pub loop-i-preserved : goal.loop-i-preserved
loop-i-preserved g c = one_each (p_use_json (holds c.args.covered.facts.now) c.args.covered.items.now.names) c.args.covered.items.now.p_uses c.loop-i.i c.p_use.result _ _ _ _ c.p_use.ensures.row c.in_ok-send_p_use.ensures c.loop-i.invariant

pub returns : goal.returns
returns g c = all_each (p_use_json (holds c.args.covered.facts.now) c.args.covered.items.now.names) c.args.covered.items.now.p_uses _ _ _ _ _ _ (search rules) (drop_all c.loop-i.i c.args.covered.items.now.p_uses (omega arith)) c.in_ok-begin_seq.ensures c.loop-i.invariant c.in_ok-end_seq.ensures
