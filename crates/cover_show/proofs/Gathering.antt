-- The items that are meant, and those of them on a line.
use Rattle.std.proofs.Common.{◌≡◌, ℕ, ◌+◌, ◌<◌, eqb, Bool, not, List, [], ◌∷◌, ◌++◌, length, get_or, take, map, refl, sym, ap, ◌∙◌, inl, inr}
use Rattle.std.proofs.lemmas.Bool.{cases_Bool, cond-true, cond-false}
use Rattle.std.proofs.lemmas.List.Elements.{All-head, All-tail, filter_more}
use Rattle.std.specs.List.{All, filter}
use Rattle.atac_facts.specs.declared.fact.Fact.{Fact}
use Rattle.atac_base.specs.Items.{ItemLists}
use Rattle.cover_report.specs.ItemTexts.{Item}
use Rattle.cover_report.specs.Texts.{is_covered}
use Rattle.cover_show.specs.declared.missed.Missed.{Missed}
use Rattle.cover_show.specs.Shown.{uncovered, on_line}
use Rattle.cover_show.specs.Missed.{meant, IsPlaced, is_on}

pub one_more : (covers : Fact → Bool) (xs : List Item) (i : ℕ) (d : Item) → i < length xs → uncovered covers (take (i + 1) xs) ≡ uncovered covers (take i xs) ++ uncovered covers (get_or xs i d ∷ [])
one_more covers xs i d h = filter_more (λ item. not (is_covered covers item)) xs i d h

-- those of a line
pub picked : (items : ItemLists) (n : ℕ) (ms : List Missed) → All (IsPlaced items) ms → map (meant items) (filter (is_on n) ms) ≡ on_line n (map (meant items) ms)
picked items n [] h = refl
picked items n (m ∷ ms) h =
    let placed = All-head (IsPlaced items) m ms h in
    let more = picked items n ms (All-tail (IsPlaced items) m ms h) in
    let same : eqb m.line n ≡ eqb (meant items m).line n = ap (λ line. eqb line n) placed.line in
    elim (cases_Bool (is_on n m)) [
      | inl e ↦ ap (map (meant items)) (cond-true _ _ _ e) ∙ ap (λ xs. meant items m ∷ xs) more ∙ sym (cond-true _ _ _ (sym same ∙ e))
      | inr e ↦ ap (map (meant items)) (cond-false _ _ _ e) ∙ more ∙ sym (cond-false _ _ _ (sym same ∙ e))
    ]

-- as a stable sort leaves them
pub by_line : (items : ItemLists) (ms ys : List Missed) (xs : List Item) → All (IsPlaced items) ms → All (IsPlaced items) ys → map (meant items) ms ≡ xs → ((n : ℕ) → filter (is_on n) ys ≡ filter (is_on n) ms) → (n : ℕ) → on_line n (map (meant items) ys) ≡ on_line n xs
by_line items ms ys xs placed placed_too are kept n =
    sym (picked items n ys placed_too) ∙ ap (map (meant items)) (kept n) ∙ picked items n ms placed ∙ ap (on_line n) are
