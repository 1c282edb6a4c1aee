use Rattle.std.proofs.Common.{◌≡◌, true, false, ap, ◌∙◌, arith}
use Rattle.std.specs.List.{list_any}
use Rattle.std.specs.Ordering.{int_eq}
use Rattle.c_checker.proofs.Apart.{value_meets, value_apart, value_seen}
use Rattle.c_checker.proofs.selects.differ.Goals as goal

pub returns-then-not-branch : goal.returns-then-not-branch
returns-then-not-branch c =
    let f : false ≡ c.in_ok-see.field-0 = cc in
    value_meets c.args.kind c.args.values.now c.loop-left.left _ _ c.loop-left.seen.keys (omega arith) c.loop-left.invariant.within c.loop-left.invariant.seen (f ∙ c.in_ok-see.ensures.fresh)

pub loop-left-preserved : goal.loop-left-preserved
loop-left-preserved c =
    let t : true ≡ c.in_ok-see.field-0 = cc in
    record {
      within = omega arith;
      apart = value_apart c.args.kind c.args.values.now c.loop-left.left _ _ c.loop-left.seen.keys (omega arith) c.loop-left.invariant.within c.loop-left.invariant.seen (t ∙ c.in_ok-see.ensures.fresh) c.loop-left.invariant.apart;
      seen = λ v. ap (list_any (int_eq v)) (c.in_ok-see.ensures.seen c.if-not-branch.false) ∙ value_seen c.args.kind c.args.values.now c.loop-left.left _ _ c.loop-left.seen.keys (omega arith) c.loop-left.invariant.within c.loop-left.invariant.seen v;
    }
