-- The text of which runs are kept: a line for each, how many, and the totals of all runs.
use Rattle.std.specs.Prelude.{ℕ, Bool, true, false, List, [], ◌∷◌, ◌++◌, length, codes}
use Rattle.std.specs.List.{count_by}
use Rattle.atac_facts.specs.declared.fact.Fact.{Fact}
use Rattle.atac_base.specs.Items.{ItemLists}
use Rattle.cover_report.specs.Texts.{total_line, totals_text}

abbrev pub kept_word : Bool → List ℕ
kept_word true = codes "keep "
kept_word false = codes "drop "

-- keep INPUT, or drop INPUT
abbrev pub kept_line : Bool → List ℕ → List ℕ
kept_line mark name = kept_word mark ++ (name ++ 10 ∷ [])

-- a line for each input, in their order
abbrev pub kept_lines : List Bool → List (List ℕ) → List ℕ
kept_lines marks [] = []
kept_lines [] (name ∷ names) = []
kept_lines (mark ∷ marks) (name ∷ names) = kept_line mark name ++ kept_lines marks names

-- the lines, kept K of N, and the totals under what all runs show
abbrev pub pick_text : List Bool → List (List ℕ) → ItemLists → (Fact → Bool) → List ℕ
pick_text marks names items covers =
    kept_lines marks names ++ (total_line (codes "kept ") (count_by (λ mark. mark) marks) (length marks) ++ totals_text items covers)
