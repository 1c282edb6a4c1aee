use Rattle.std.proofs.Common.{ℕ, ◌≡◌, ◌⊎◌, ◌↔◌, ◌∙◌, true, false, get_or, subst, sym, arith}
use Rattle.std.specs.Int.{bit_at}
use Rattle.std.proofs.lemmas.List.{get_or_default}
use Rattle.flow_marks.specs.Paths.{IsReached}
use Rattle.pair_list.specs.Masks.{IsEntry}
use Rattle.pair_list.proofs.Finding.{rows_more, reached_iff, iff_then}
use Rattle.pair_list.proofs.reached.reached_rows.Goals as goal

pub loop-row-preserved : goal.loop-row-preserved
loop-row-preserved c =
    let entry = subst IsEntry (sym c.deref.ensures.value) c.in_ok-gives.ensures.entry in
    let none = subst (λ l. (row : ℕ) → get_or l row 0 ≡ 0) (sym c.deref-2.ensures.value) c.in_ok-stops.ensures.none in
    let is = reached_iff c.args.flow.now c.deref.result.now c.deref-2.result.now c.in_ok-come.come.items entry none c.in_ok-come.ensures.sound c.in_ok-come.ensures.complete c.loop-row.row in
    let word : c.index.result.now ≡ get_or c.in_ok-come.come.items c.loop-row.row 0 = c.index.ensures ∙ get_or_default c.in_ok-come.come.items c.loop-row.row c.index.result.now 0 (let lt = c.loop-row-test.true in let e = c.in_ok-come.ensures.size in omega arith) in
    let w = rows_more false (λ row flag. (flag ≡ true) ↔ IsReached c.args.flow.now row) c.loop-row.flags.items c.push_flag.new.flags.items c.loop-row.row c.has_come.result c.loop-row.invariant.count c.in_ok-push_flag.ensures c.loop-row.invariant.each
    (iff_then c.has_come.ensures (subst (λ x. ((c.loop-row.row ≡ 0) ⊎ (bit_at x 0 ≡ 1)) ↔ IsReached c.args.flow.now c.loop-row.row) (sym word) is)) in
    record { count = w.0; each = w.1 }
