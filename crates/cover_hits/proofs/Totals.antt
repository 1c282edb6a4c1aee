-- The totals under the facts that a tally has are those of its counts.
use Rattle.std.proofs.Common.{◌≡◌, ℕ, ◌&&◌, ◌+◌, Bool, true, cond, List, [], ◌∷◌, ◌++◌, length, refl, sym, ap, ◌∙◌}
use Rattle.std.proofs.lemmas.Bool.{and_parts}
use Rattle.std.proofs.lemmas.List.Elements.{All-head, All-tail}
use Rattle.std.proofs.lemmas.List.Folds.{list_all-append}
use Rattle.std.proofs.lemmas.List.Sums.{sum_by-cons, AllPass-from_list_all}
use Rattle.std.specs.List.{AllPass, count_by}
use Rattle.std.specs.Prelude.{codes}
use mathlib.Core.Path.{fun_ext}
use Rattle.atac_facts.specs.declared.fact.Fact.{Fact}
use Rattle.atac_facts.specs.declared.tally.Counted.{Counted}
use Rattle.atac_facts.specs.Facts.{fits}
use Rattle.atac_facts.specs.Sets.{FactSet, holds}
use Rattle.atac_facts.specs.Tallies.{count_of, is_met}
use Rattle.atac_base.specs.Items.{ItemLists}
use Rattle.cover_report.specs.declared.kinds.Kind.TheVariants as kind
use Rattle.cover_report.specs.ItemTexts.{Item, of_kind, all_items}
use Rattle.cover_report.specs.Texts.{is_covered, total, total_line, totals_text}
use Rattle.cover_hits.specs.Hits.{some_run}
use Rattle.cover_hits.specs.Fitting.{all_fit}

abbrev fitting : Item → Bool
fitting item = fits item.fact

-- a list is of two parts
parts : (xs ys : List Item) → all_fit (xs ++ ys) ≡ true → (all_fit xs ≡ true) × (all_fit ys ≡ true)
parts xs ys fit = and_parts (all_fit xs) (all_fit ys) (sym (list_all-append fitting xs ys) ∙ fit)

same_count : (rows : List Counted) (xs : List Item) → AllPass fitting xs → count_by (is_covered (is_met rows)) xs ≡ count_by (is_covered (some_run (count_of rows))) xs
same_count rows [] fit = refl
same_count rows (x ∷ xs) fit =
    let P : Item → Type 0 = λ item. fitting item ≡ true in
    let here : is_met rows x.fact ≡ some_run (count_of rows) x.fact = ap (λ fits. fits && some_run (count_of rows) x.fact) (All-head P x xs fit) in
    sum_by-cons (λ y. cond (is_covered (is_met rows) y) 1 0) x xs
    ∙ ap (λ b. cond b 1 0 + count_by (is_covered (is_met rows)) xs) here
    ∙ ap (λ n. cond (some_run (count_of rows) x.fact) 1 0 + n) (same_count rows xs (All-tail P x xs fit))
    ∙ sym (sum_by-cons (λ y. cond (is_covered (some_run (count_of rows)) y) 1 0) x xs)

same_total : (rows : List Counted) (name : List ℕ) (xs : List Item) → all_fit xs ≡ true → total name (is_met rows) xs ≡ total name (some_run (count_of rows)) xs
same_total rows name xs fit = ap (λ n. total_line name n (length xs)) (same_count rows xs (AllPass-from_list_all fitting xs fit))

pub same_totals : (items : ItemLists) (rows : List Counted) (set : FactSet) → ((fact : Fact) → holds set fact ≡ is_met rows fact) → all_fit (all_items items) ≡ true → totals_text items (holds set) ≡ totals_text items (some_run (count_of rows))
same_totals items rows set has fit =
    let blocks = of_kind items kind.Block in
    let outcomes = of_kind items kind.Outcome in
    let c_uses = of_kind items kind.CUse in
    let p_uses = of_kind items kind.PUse in
    let one = parts blocks (outcomes ++ (c_uses ++ p_uses)) fit in
    let two = parts outcomes (c_uses ++ p_uses) one.1 in
    let three = parts c_uses p_uses two.1 in
    let a = same_total rows (codes "blocks ") blocks one.0 in
    let b = same_total rows (codes "decisions ") outcomes two.0 in
    let c = same_total rows (codes "c-uses ") c_uses three.0 in
    let d = same_total rows (codes "p-uses ") p_uses three.1 in
    let e = same_total rows (codes "all-uses ") (c_uses ++ p_uses) two.1 in
    ap (totals_text items) (fun_ext has) ∙ cc
