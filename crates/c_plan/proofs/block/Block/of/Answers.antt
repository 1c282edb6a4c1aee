use Rattle.std.proofs.Common.{refl}
use Rattle.c_syntax.proofs.Open.{compound_open}
use Rattle.c_plan.proofs.Forms.{block_listed, block_fits}
use Rattle.c_plan.proofs.block.Block.of.Goals as goal

pub invariant_of-result : goal.invariant_of-result
invariant_of-result c = record {
  listed = block_listed c.args.body.now c.args.extents.now c.requires.listed;
  fits = rw c.deref.ensures.value (block_fits c.args.body.now c.args.before c.requires.fits);
}

pub returns : goal.returns
returns c = rw c.deref.ensures.value (_, _, compound_open c.args.body.now, refl, refl)
