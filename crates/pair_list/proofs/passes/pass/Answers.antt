use Rattle.std.proofs.Common.{ℕ, ◌∙◌, length, ap, sym, subst}
use Rattle.flow_marks.specs.Words.{HasBit, Arrives}
use Rattle.pair_list.specs.Masks.{AreGiven, AreStopped}
use Rattle.pair_list.proofs.Finding.{pass_adds}
use Rattle.pair_list.proofs.passes.pass.Goals as goal

pub returns : goal.returns
returns c =
    let g = c.args.flow.now in
    let gives = c.deref.result.now in
    let stops = c.deref-2.result.now in
    let came = c.deref-3.result.now in
    pass_adds g c.args.sites.now c.args.function c.args.marks.now c.args.start c.args.first gives stops came
    (ap length c.deref.ensures.value ∙ c.in_ok-gives.ensures.size)
    (ap length c.deref-2.ensures.value ∙ c.in_ok-stops.ensures.size)
    (subst (AreGiven g c.args.marks.now c.args.start) (sym c.deref.ensures.value) c.in_ok-gives.ensures.given)
    (subst (AreStopped g c.args.sites.now c.args.marks.now c.args.start) (sym c.deref-2.ensures.value) (c.in_ok-stops.ensures.stopped c.args.marks.now c.args.start c.requires.tables))
    (subst (λ x. (row i : ℕ) → HasBit x row i → Arrives g gives stops row i) (sym c.deref-3.ensures.value) c.in_ok-came.ensures.sound)
    (subst (λ x. (row i : ℕ) → Arrives g gives stops row i → HasBit x row i) (sym c.deref-3.ensures.value) c.in_ok-came.ensures.complete)
    c.args.low c.args.hits.now.items c.hit_rows.new.hits.items c.hit_rows.ensures
