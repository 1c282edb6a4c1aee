use Rattle.std.proofs.Common.{drop}
use Rattle.atac_facts.specs.Sets.{holds}
use Rattle.json_out.specs.Json.{blocks_json}
use Rattle.json_out.proofs.Lists.{Ends}
use Rattle.json_out.proofs.whole.send_blocks.Given as goal

abbrev pub invariant-loop-k : goal.invariant-loop-k
invariant-loop-k g l = Ends (blocks_json (holds l.covered.facts.now) l.k (drop l.k l.covered.items.now.blocks)) (blocks_json (holds l.covered.facts.now) 0 l.covered.items.now.blocks) (g.S.Serializer.written l.initial.out) (g.S.Serializer.written l.out)
