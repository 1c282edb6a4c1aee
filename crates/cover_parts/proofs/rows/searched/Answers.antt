-- Each look halves what is left.
use Rattle.std.proofs.Common.{◌∙◌, ap, ◌<◌, ◌+◌, length, arith}
use Rattle.cover_parts.specs.declared.rows.Row.{Row}
use Rattle.cover_parts.proofs.Places.{stands_at, passed, ahead}
use Rattle.cover_parts.proofs.rows.searched.Goals as goal
use Rattle.cover_parts.proofs.rows.searched.Goals.{then-found-number-2, else-found-number-2}

pub returns-then-found-number : goal.returns-then-found-number
returns-then-found-number c =
    let looks = c.loop-low.invariant.look c.loop-low-test.true in
    stands_at c.requires.0 c.args.number c.args.rows.now _ c.index-rows-look.result c.requires.1 (omega (arith, looks.1, c.loop-low.invariant.within)) c.index-rows-look.is (ap (λ (q : Row). q.number) c.index-rows-look.is ∙ c.if-found-number.true)

pub loop-low-preserved : goal.loop-low-preserved
loop-low-preserved c =
    let kept = c.loop-low.invariant in
    let looks = kept.look c.loop-low-test.true in
    let h : c.loop-low.look < length c.args.rows.now = omega (arith, looks.1, kept.within) in
    let number = ap (λ (q : Row). q.number) c.index-rows-look.is in
    elim c.if-found-number-2.branch [
      | then-found-number-2 w ↦ rw (w.low-is, w.high-is) record {
        low_high = omega (arith, looks.1);
        within = kept.within;
        look = λ t. (omega (arith, t), omega (arith, t));
        before = passed 0 c.requires.0 c.args.number c.args.rows.now c.loop-low.look (c.loop-low.look + 1) c.index-rows-look.result c.requires.1 h c.index-rows-look.is (omega (arith, number, w.if-found-number-2.true)) (omega arith);
        after = kept.after;
      }
      | else-found-number-2 w ↦ rw (w.low-is, w.high-is) record {
        low_high = omega (arith, looks.0);
        within = omega (arith, h);
        look = λ t. (omega (arith, t), omega (arith, t));
        before = kept.before;
        after = ahead 0 c.requires.0 c.args.number c.args.rows.now c.loop-low.look c.index-rows-look.result c.requires.1 h c.index-rows-look.is (omega (arith, number, c.if-found-number.false, w.if-found-number-2.false));
      }
    ]
