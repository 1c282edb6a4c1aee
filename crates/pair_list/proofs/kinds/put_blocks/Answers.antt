use Rattle.std.proofs.Common.{◌≡◌, Some, subst, arith}
use Rattle.std.specs.Prelude.{slice_get}
use Rattle.pair_list.proofs.Rowing.{blocks_more}
use Rattle.pair_list.proofs.kinds.put_blocks.Goals as goal

pub loop-k-preserved : goal.loop-k-preserved
loop-k-preserved c =
    let blocks = c.args.sites.now.lists.blocks.items in
    blocks_more c.args.items.now c.loop-k.items c.put_block.new.items blocks c.loop-k.k c.block-pos.result (subst (λ n. slice_get blocks n ≡ Some c.block-pos.result) (omega arith) c.block-pos.ensures) c.loop-k.invariant c.in_ok-put_block.ensures
