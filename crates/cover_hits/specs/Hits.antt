-- The text of how many runs met each item: a line for each with this number, and the totals.
use Rattle.std.specs.Prelude.{ℕ, Bool, nat_lt, ◌==◌, ◌||◌, if◌then◌else◌, List, [], ◌∷◌, ◌++◌, codes}
use Rattle.std.specs.List.{flat_map}
use Rattle.std.specs.Fmt.{decimal}
use Rattle.atac_facts.specs.declared.fact.Fact.{Fact}
use Rattle.atac_base.specs.Items.{ItemLists}
use Rattle.cover_report.specs.ItemTexts.{Item, all_items}
use Rattle.cover_report.specs.Texts.{totals_text}

-- behind a number that isn't exact, but never behind 0
abbrev pub more_text : Bool → ℕ → List ℕ
more_text exact n = if exact || n == 0 then [] else codes " or more"

-- ITEM in N runs, or ITEM in N runs or more
abbrev pub hits_line : Bool → (Fact → ℕ) → Item → List ℕ
hits_line exact runs item = item.text ++ (codes " in " ++ (decimal (runs item.fact) ++ (codes " runs" ++ (more_text exact (runs item.fact) ++ 10 ∷ []))))

-- whether a run met the fact
abbrev pub some_run : (Fact → ℕ) → Fact → Bool
some_run runs fact = nat_lt 0 (runs fact)

-- the totals count an item as covered where a run met it
abbrev pub hits_text : Bool → ItemLists → (Fact → ℕ) → List ℕ
hits_text exact items runs = flat_map (hits_line exact runs) (all_items items) ++ totals_text items (some_run runs)
