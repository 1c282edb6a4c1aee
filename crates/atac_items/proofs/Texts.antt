-- Texts of items whose facts fit: tests that agree on such facts make one text.
use Rattle.std.proofs.Common.{◌≡◌, ℕ, suc, ◌+◌, ◌++◌, List, [], ◌∷◌, length, Bool, true, cond, map, codes, refl, sym, ap, ap₂, ◌∙◌}
use Rattle.std.specs.Prelude.{nat_lt, not}
use Rattle.std.specs.List.{flat_map, count_by, fold}
use Rattle.c_base.specs.declared.place.Pos.{Pos}
use Rattle.serde_json.specs.Data.{Data, Items, item, no_items}
use Rattle.atac_facts.specs.declared.fact.Fact.{Fact}
use Rattle.atac_facts.specs.declared.fact.Fact.TheVariants.{Block, Outcome, Pair, PUse}
use Rattle.atac_facts.specs.Facts.{fits}
use Rattle.atac_base.specs.declared.rows.OutcomeRow.{OutcomeRow}
use Rattle.atac_base.specs.declared.rows.PairRow.{PairRow}
use Rattle.atac_base.specs.declared.rows.PUseRow.{PUseRow}
use Rattle.atac_base.specs.Items.{ItemLists}
use Rattle.cover_report.specs.declared.kinds.Kind.TheVariants as kind
use Rattle.cover_report.specs.ItemTexts.{Item, block_of, outcome_of, c_use_of, p_use_of, blocks_behind, of_kind, all_items}
use Rattle.cover_report.specs.Texts.{is_covered, total_line, total, totals_text, report_line, report_text}
use Rattle.cover_show.specs.Shown.{uncovered, lines_in, shown_behind, show_text}
use Rattle.cover_hits.specs.Hits.{hits_line, some_run, hits_text}
use Rattle.json_out.specs.Json.{block_json, outcome_json, c_use_json, p_use_json, blocks_json, each_json, json_of}
use Rattle.atac_items.specs.Fitting.{AllFit, ItemsFit, Agree, HasOneText, TestsHaveOneText, CountsHaveOneText}

both_fit : (xs ys : List Item) → AllFit xs → AllFit ys → AllFit (xs ++ ys)
both_fit [] ys h k = k
both_fit (x ∷ xs) ys h k = (h.0, both_fit xs ys h.1 k)

all_fit : (items : ItemLists) → ItemsFit items → AllFit (all_items items)
all_fit items h =
    both_fit (of_kind items kind.Block) _ (h kind.Block)
    (both_fit (of_kind items kind.Outcome) _ (h kind.Outcome) (both_fit (of_kind items kind.CUse) (of_kind items kind.PUse) (h kind.CUse) (h kind.PUse)))

-- ---- lists of items

lines_same : (f g : Item → List ℕ) (is : List Item) → AllFit is → ((i : Item) → fits i.fact ≡ true → f i ≡ g i) → flat_map f is ≡ flat_map g is
lines_same f g [] h same = refl
lines_same f g (i ∷ is) h same = ap₂ (λ a b. a ++ b) (same i h.0) (lines_same f g is h.1 same)

module _ (f g : Fact → Bool) (same : Agree f g) where
  counts_from : (n : ℕ) (is : List Item) → AllFit is → fold (λ m i. m + cond (is_covered f i) 1 0) n is ≡ fold (λ m i. m + cond (is_covered g i) 1 0) n is
  counts_from n [] h = refl
  counts_from n (i ∷ is) h =
      ap (λ b. fold (λ m j. m + cond (is_covered f j) 1 0) (n + cond b 1 0) is) (same i.fact h.0)
      ∙ counts_from (n + cond (is_covered g i) 1 0) is h.1

  counts_same : (is : List Item) → AllFit is → count_by (is_covered f) is ≡ count_by (is_covered g) is
  counts_same is h = counts_from 0 is h

  total_same : (name : List ℕ) (is : List Item) → AllFit is → total name f is ≡ total name g is
  total_same name is h = ap (λ n. total_line name n (length is)) (counts_same is h)

  pub totals_same : (items : ItemLists) → ItemsFit items → totals_text items f ≡ totals_text items g
  totals_same items h =
      let uses = both_fit (of_kind items kind.CUse) (of_kind items kind.PUse) (h kind.CUse) (h kind.PUse) in
      ap₂ (λ a b. a ++ b) (total_same (codes "blocks ") (of_kind items kind.Block) (h kind.Block))
      (ap₂ (λ a b. a ++ b) (total_same (codes "decisions ") (of_kind items kind.Outcome) (h kind.Outcome))
      (ap₂ (λ a b. a ++ b) (total_same (codes "c-uses ") (of_kind items kind.CUse) (h kind.CUse))
      (ap₂ (λ a b. a ++ b) (total_same (codes "p-uses ") (of_kind items kind.PUse) (h kind.PUse))
      (total_same (codes "all-uses ") (of_kind items kind.CUse ++ of_kind items kind.PUse) uses))))

  report_same : (items : ItemLists) → ItemsFit items → report_text items f ≡ report_text items g
  report_same items h =
      ap₂ (λ a b. a ++ b)
      (lines_same (report_line f) (report_line g) (all_items items) (all_fit items h) (λ i fit. let e = same i.fact fit in rw e refl))
      (totals_same items h)

  missed_same : (is : List Item) → AllFit is → uncovered f is ≡ uncovered g is
  missed_same [] h = refl
  missed_same (i ∷ is) h = ap₂ (λ b rest. cond (not b) (i ∷ rest) rest) (same i.fact h.0) (missed_same is h.1)

  show_same : (source : List ℕ) (items : ItemLists) → ItemsFit items → show_text source items f ≡ show_text source items g
  show_same source items h =
      ap₂ (λ a b. a ++ b) (ap (shown_behind 0 (lines_in source)) (missed_same (all_items items) (all_fit items h))) (totals_same items h)

  -- ---- JSON

  blocks_same : (k : ℕ) (ps : List Pos) → AllFit (blocks_behind k ps) → blocks_json f k ps ≡ blocks_json g k ps
  blocks_same k [] h = refl
  blocks_same k (p ∷ ps) h = let e = same (Block (suc k)) h.0 in ap₂ item (rw e refl) (blocks_same (suc k) ps h.1)

  outcomes_same : (rs : List OutcomeRow) → AllFit (map outcome_of rs) → each_json (outcome_json f) rs ≡ each_json (outcome_json g) rs
  outcomes_same [] h = refl
  outcomes_same (r ∷ rs) h = let e = same (Outcome r.decision r.outcome) h.0 in ap₂ item (rw e refl) (outcomes_same rs h.1)

  c_uses_same : (names : List (List ℕ)) (rs : List PairRow) → AllFit (map (c_use_of names) rs) → each_json (c_use_json f names) rs ≡ each_json (c_use_json g names) rs
  c_uses_same names [] h = refl
  c_uses_same names (r ∷ rs) h = let e = same (Pair r.def r.user) h.0 in ap₂ item (rw e refl) (c_uses_same names rs h.1)

  p_uses_same : (names : List (List ℕ)) (rs : List PUseRow) → AllFit (map (p_use_of names) rs) → each_json (p_use_json f names) rs ≡ each_json (p_use_json g names) rs
  p_uses_same names [] h = refl
  p_uses_same names (r ∷ rs) h = let e = same (PUse r.pair.def r.pair.user r.outcome) h.0 in ap₂ item (rw e refl) (p_uses_same names rs h.1)

  json_same : (items : ItemLists) → ItemsFit items → json_of items f ≡ json_of items g
  json_same items h =
      let blocks = blocks_same 0 items.blocks (h kind.Block) in
      let outcomes = outcomes_same items.outcomes (h kind.Outcome) in
      let c_uses = c_uses_same items.names items.c_uses (h kind.CUse) in
      let p_uses = p_uses_same items.names items.p_uses (h kind.PUse) in
      rw (blocks, outcomes, c_uses, p_uses) refl

pub tests_have_one_text : TestsHaveOneText
tests_have_one_text source items f g h same = record { report = report_same f g same items h; show = show_same f g same source items h; json = json_same f g same items h }

pub counts_have_one_text : CountsHaveOneText
counts_have_one_text exact items f g h same =
    ap₂ (λ a b. a ++ b)
    (lines_same (hits_line exact f) (hits_line exact g) (all_items items) (all_fit items h) (λ i fit. let e = same i.fact fit in rw e refl))
    (totals_same (some_run f) (some_run g) (λ x fit. ap (nat_lt 0) (same x fit)) items h)
