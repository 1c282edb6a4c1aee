use Rattle.c_plan.proofs.Fronts.{placed_end}
use Rattle.c_plan.proofs.listing.end.Goals as goal

pub returns : goal.returns
returns c = λ front inner e h k. rw (c.len.ensures, c.args.out.now.ok.0) (placed_end c.args.out.now.items front inner e c.args.place c.args.variables h k)
