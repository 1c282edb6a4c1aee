use Rattle.c_plan.proofs.Forms.{behind_listed, behind_fits}
use Rattle.c_plan.proofs.placed.behind.Goals as goal

pub invariant_of-result : goal.invariant_of-result
invariant_of-result c = record {
  listed = behind_listed c.args.first.stmt.now c.args.stmt.now c.args.first.extents.now _ c.requires.listed;
  fits = behind_fits c.args.first.stmt.now c.args.stmt.now c.args.first.extents.now _ c.args.first.before c.requires.listed c.requires.fits;
}
