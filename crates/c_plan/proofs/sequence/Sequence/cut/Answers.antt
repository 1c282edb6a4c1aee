use Rattle.c_plan.proofs.Fronts.{item_at, first_listed, first_fits, rest_listed, rest_fits}
use Rattle.c_plan.proofs.sequence.Sequence.cut.Goals as goal

pub invariant_of-first : goal.invariant_of-first
invariant_of-first c =
    let at = item_at c.args.self.from c.args.self.items.now.items c.deref.result.now c.in-Some.item.now c.deref.ensures.value c.in-Some.ensures.lookup.3.0 c.in-Some.ensures.lookup.1 in
    record {
      listed = first_listed _ _ c.in-Some.item.now c.args.self.extents.now at c.args.self.listed;
      fits = first_fits _ _ c.in-Some.item.now c.args.self.before at c.args.self.fits;
    }

pub invariant_of-rest : goal.invariant_of-rest
invariant_of-rest c =
    let at = item_at c.args.self.from c.args.self.items.now.items c.deref.result.now c.in-Some.item.now c.deref.ensures.value c.in-Some.ensures.lookup.3.0 c.in-Some.ensures.lookup.1 in
    record {
      listed = rest_listed _ _ c.in-Some.item.now c.args.self.extents.now _ at c.args.self.listed;
      fits = rest_fits _ _ c.in-Some.item.now c.args.self.extents.now _ c.args.self.before at c.args.self.listed c.args.self.fits;
    }
