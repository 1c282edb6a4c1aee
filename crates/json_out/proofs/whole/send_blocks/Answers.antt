-- The list has its items.
use Rattle.std.proofs.Common.{arith, rules}
use Rattle.std.proofs.lemmas.List.{drop_all}
use Rattle.atac_facts.specs.Sets.{holds}
use Rattle.json_out.proofs.Lists.{one_block, all_blocks}
use Rattle.json_out.proofs.whole.send_blocks.Goals as goal

pub loop-k-preserved : goal.loop-k-preserved
loop-k-preserved g c = one_block (holds c.args.covered.facts.now) c.args.covered.items.now.blocks c.loop-k.k c.block.result _ _ _ _ c.block.ensures c.in_ok-send_block.ensures c.loop-k.invariant

pub returns : goal.returns
returns g c = all_blocks (holds c.args.covered.facts.now) c.args.covered.items.now.blocks _ c.loop-k.k _ _ _ _ _ (search rules) (drop_all c.loop-k.k c.args.covered.items.now.blocks (omega arith)) c.in_ok-begin_seq.ensures c.loop-k.invariant c.in_ok-end_seq.ensures
