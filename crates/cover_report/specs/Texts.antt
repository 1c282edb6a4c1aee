-- The texts of a report and of its totals. Each holds for any test on facts: an item is covered where its fact passes.
use Rattle.std.specs.Prelude.{ℕ, Bool, true, false, List, [], ◌∷◌, ◌++◌, length, codes}
use Rattle.std.specs.List.{flat_map, count_by}
use Rattle.std.specs.Fmt.{decimal}
use Rattle.atac_facts.specs.declared.fact.Fact.{Fact}
use Rattle.atac_base.specs.Items.{ItemLists}
use Rattle.cover_report.specs.declared.kinds.Kind.TheVariants as kind
use Rattle.cover_report.specs.ItemTexts.{Item, of_kind, all_items}

abbrev pub is_covered : (Fact → Bool) → Item → Bool
is_covered covers item = covers item.fact

-- ---- totals

-- NAME C of N
abbrev pub total_line : List ℕ → ℕ → ℕ → List ℕ
total_line name c n = name ++ (decimal c ++ (codes " of " ++ (decimal n ++ 10 ∷ [])))

-- how many of the items are covered, and how many there are
abbrev pub total : List ℕ → (Fact → Bool) → List Item → List ℕ
total name covers items = total_line name (count_by (is_covered covers) items) (length items)

abbrev pub totals_text : ItemLists → (Fact → Bool) → List ℕ
totals_text items covers =
    total (codes "blocks ") covers (of_kind items kind.Block)
    ++ (total (codes "decisions ") covers (of_kind items kind.Outcome)
    ++ (total (codes "c-uses ") covers (of_kind items kind.CUse)
    ++ (total (codes "p-uses ") covers (of_kind items kind.PUse)
    ++ total (codes "all-uses ") covers (of_kind items kind.CUse ++ of_kind items kind.PUse))))

-- ---- the report

abbrev pub covered_text : Bool → List ℕ
covered_text true = codes "covered"
covered_text false = codes "uncovered"

-- ITEM covered, or ITEM uncovered
abbrev pub report_line : (Fact → Bool) → Item → List ℕ
report_line covers item = item.text ++ (codes " " ++ (covered_text (is_covered covers item) ++ 10 ∷ []))

abbrev pub report_text : ItemLists → (Fact → Bool) → List ℕ
report_text items covers = flat_map (report_line covers) (all_items items) ++ totals_text items covers
