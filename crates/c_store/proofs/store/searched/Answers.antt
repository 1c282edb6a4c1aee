use Rattle.std.proofs.Common.{◌∙◌, ap, ◌<◌, ◌+◌, length, arith}
use Rattle.c_store.specs.declared.instance.Instance.{Instance}
use Rattle.c_store.proofs.Places.{stands_at, passed, ahead}
use Rattle.c_store.proofs.store.searched.Goals as goal
use Rattle.c_store.proofs.store.searched.Goals.{then-found-number-2, else-found-number-2}

pub returns-then-found-number : goal.returns-then-found-number
returns-then-found-number c =
    let looks = c.loop-low.invariant.look c.loop-low-test.true in
    stands_at c.requires.0 c.args.number c.args.instances.now _ c.index-instances-look.result c.requires.1 (omega (arith, looks.1, c.loop-low.invariant.within)) c.index-instances-look.is (ap (λ (q : Instance). q.number) c.index-instances-look.is ∙ c.if-found-number.true)

pub loop-low-preserved : goal.loop-low-preserved
loop-low-preserved c =
    let kept = c.loop-low.invariant in
    let looks = kept.look c.loop-low-test.true in
    let h : c.loop-low.look < length c.args.instances.now = omega (arith, looks.1, kept.within) in
    let number = ap (λ (q : Instance). q.number) c.index-instances-look.is in
    elim c.if-found-number-2.branch [
      | then-found-number-2 w ↦ rw (w.low-is, w.high-is) record {
        low_high = omega (arith, looks.1);
        within = kept.within;
        look = λ t. (omega (arith, t), omega (arith, t));
        before = passed 0 c.requires.0 c.args.number c.args.instances.now c.loop-low.look (c.loop-low.look + 1) c.index-instances-look.result c.requires.1 h c.index-instances-look.is (omega (arith, number, w.if-found-number-2.true)) (omega arith);
        after = kept.after;
      }
      | else-found-number-2 w ↦ rw (w.low-is, w.high-is) record {
        low_high = omega (arith, looks.0);
        within = omega (arith, h);
        look = λ t. (omega (arith, t), omega (arith, t));
        before = kept.before;
        after = ahead 0 c.requires.0 c.args.number c.args.instances.now c.loop-low.look c.index-instances-look.result c.requires.1 h c.index-instances-look.is (omega (arith, number, c.if-found-number.false, w.if-found-number-2.false));
      }
    ]
