-- The text of a source with its uncovered items: each line behind its number, and below it the items that stand on it.
use Rattle.std.specs.Prelude.{ℕ, suc, ◌-◌, ◌==◌, Bool, not, cond, List, [], ◌∷◌, ◌++◌, length, replicate, codes}
use Rattle.std.specs.List.{filter, flat_map, onto_first}
use Rattle.std.specs.Fmt.{decimal}
use Rattle.atac_facts.specs.declared.fact.Fact.{Fact}
use Rattle.atac_base.specs.Items.{ItemLists}
use Rattle.cover_report.specs.ItemTexts.{Item, all_items, list_line}
use Rattle.cover_report.specs.Texts.{is_covered, totals_text}

-- the lines of a text, cut at its newlines; an empty rest behind the last one is no line
abbrev pub lines_in : List ℕ → List (List ℕ)
lines_in [] = []
lines_in (byte ∷ bytes) = cond (byte == 10) ([] ∷ lines_in bytes) (onto_first byte (lines_in bytes))

abbrev pub uncovered : (Fact → Bool) → List Item → List Item
uncovered covers items = filter (λ item. not (is_covered covers item)) items

abbrev pub on_line : ℕ → List Item → List Item
on_line n items = filter (λ item. item.line == n) items

-- right in 6 places, or whole where it is longer
abbrev pub number_text : ℕ → List ℕ
number_text n = replicate (6 - length (decimal n)) 32 ++ decimal n

-- whether items stand on a line
abbrev pub mark_text : List Item → List ℕ
mark_text [] = codes "   "
mark_text (item ∷ items) = codes " ! "

-- behind nine spaces
abbrev pub shown_item : Item → List ℕ
shown_item item = codes "         " ++ list_line item

-- a line by its number, with the items that stand on it
abbrev pub shown_line : ℕ → List ℕ → List Item → List ℕ
shown_line n line items = number_text n ++ (mark_text items ++ (line ++ (10 ∷ flat_map shown_item items)))

-- the lines behind the first n, with those of the items that stand on each
abbrev pub shown_behind : ℕ → List (List ℕ) → List Item → List ℕ
shown_behind n [] items = []
shown_behind n (line ∷ lines) items = shown_line (suc n) line (on_line (suc n) items) ++ shown_behind (suc n) lines items

abbrev pub show_text : List ℕ → ItemLists → (Fact → Bool) → List ℕ
show_text text items covers = shown_behind 0 (lines_in text) (uncovered covers (all_items items)) ++ totals_text items covers
