use Rattle.std.proofs.Common.{ℕ, ◌<◌, ◌+◌, ◌≡◌, ◌∙◌, arith, sym, ap, get_or, subst}
use Rattle.std.specs.Prelude.{Contains}
use Rattle.flow_marks.proofs.Passing.{givers_more, givers_skip, within_more, within_skip}
use Rattle.flow_marks.proofs.words.givers.Goals as goal
use Rattle.flow_marks.proofs.words.givers.Goals.{then-gives-row-ne0+in_ok-wait, else-gives-row-ne0}

pub loop-row-preserved : goal.loop-row-preserved
loop-row-preserved c = elim c.if-gives-row-ne0.branch [
  | then-gives-row-ne0+in_ok-wait w ↦ (let e = ap (λ v. v.items) w.rows-is ∙ w.in_ok-wait.ensures in
      record {
        all = givers_more c.args.gives.now c.loop-row.rows.items c.if-gives-row-ne0.rows.items c.loop-row.row e c.loop-row.invariant.all;
        within = within_more c.loop-row.rows.items c.if-gives-row-ne0.rows.items c.loop-row.row e c.loop-row.invariant.within;
      })
  | else-gives-row-ne0 w ↦ (let e = ap (λ v. v.items) w.rows-is in
      record {
        all = subst (λ l. (row : ℕ) → row < c.loop-row.row + 1 → (get_or c.args.gives.now row 0 ≡ 0 → ⊥) → Contains l row) (sym e) (givers_skip c.args.gives.now c.loop-row.rows.items c.loop-row.row w.if-gives-row-ne0.false c.loop-row.invariant.all);
        within = subst (λ l. (row : ℕ) → Contains l row → row < c.loop-row.row + 1) (sym e) (within_skip c.loop-row.rows.items c.loop-row.row c.loop-row.invariant.within);
      })
]

pub returns-clause-within : goal.returns-clause-within
returns-clause-within c = λ row h. let lt = c.loop-row.invariant.within row h in let e = c.loop-row.auto.row-end in omega arith
