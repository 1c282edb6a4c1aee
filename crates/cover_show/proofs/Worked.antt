-- Worked examples: lines of a text, numbers of lines, and texts with their uncovered items.
use Rattle.std.proofs.Common.{◌≡◌, ℕ, ◌==◌, Bool, true, false, List, [], ◌∷◌, ◌++◌, refl}
use Rattle.std.specs.Prelude.{codes}
use Rattle.std.specs.List.{flat_map}
use Rattle.std.specs.Fmt.{digits}
use Rattle.c_base.specs.declared.place.Pos.{Pos}
use Rattle.c_base.specs.declared.labels.OutcomeLabel.TheVariants.{True, False}
use Rattle.atac_facts.specs.declared.fact.Fact.{Fact}
use Rattle.atac_facts.specs.declared.fact.Fact.TheVariants.{Block, Outcome, Pair, PUse}
use Rattle.atac_base.specs.declared.rows.PairRow.{PairRow}
use Rattle.atac_base.specs.Items.{ItemLists}
use Rattle.cover_report.specs.ItemTexts.{c_use_of}
use Rattle.cover_show.specs.Shown.{lines_in, number_text, shown_behind, show_text}

abbrev lines : List (List ℕ) → List ℕ
lines texts = flat_map (λ text. text ++ 10 ∷ []) texts

-- LINES

no_line : lines_in [] ≡ []
no_line = refl

empty_line : lines_in (10 ∷ []) ≡ [] ∷ []
empty_line = refl

ended : lines_in (codes "ab" ++ 10 ∷ []) ≡ codes "ab" ∷ []
ended = refl

not_ended : lines_in (codes "ab" ++ (10 ∷ 10 ∷ codes "c")) ≡ codes "ab" ∷ [] ∷ codes "c" ∷ []
not_ended = refl

-- NUMBERS

short : number_text 7 ≡ codes "     7"
unfolding digits
short = refl

long : number_text 1234567 ≡ codes "1234567"
unfolding digits
long = refl

-- A LINE WITH AN ITEM

abbrev at : ℕ → ℕ → Pos
at line col = record { line = line; col = col }

abbrev self_pair : PairRow
self_pair = record { def = 3; def_pos = at 7 13; user = 2; use_pos = at 7 13; name = 0 }

seventh : shown_behind 6 (codes "            n++;" ∷ []) (c_use_of (codes "n" ∷ []) self_pair ∷ []) ≡ lines (
    codes "     7 !             n++;"
    ∷ codes "         c-use n d3 7:13 u2 7:13" ∷ [])
unfolding digits
seventh = refl

-- A TEXT OF THREE LINES. Block 2 is not covered, nor is the outcome false, nor the pair of definition 1 and use 2, which
-- stands on its use's line.

abbrev items : ItemLists
items = record {
  blocks = at 1 1 ∷ at 3 1 ∷ [];
  outcomes = record { decision = 1; outcome = 1; pos = at 1 5; label = True } ∷ record { decision = 1; outcome = 2; pos = at 1 5; label = False } ∷ [];
  c_uses = record { def = 1; def_pos = at 1 3; user = 2; use_pos = at 3 4; name = 0 } ∷ [];
  p_uses = record { pair = record { def = 1; def_pos = at 1 3; user = 1; use_pos = at 1 5; name = 0 }; outcome = 1; label = True } ∷ [];
  names = codes "x" ∷ [];
}

abbrev covers : Fact → Bool
covers (Block k) = k == 1
covers (Outcome k o) = o == 1
covers (Pair d u) = false
covers (PUse d u o) = true

shown : show_text (codes "one" ++ (10 ∷ 10 ∷ codes "three")) items covers ≡ lines (
    codes "     1 ! one"
    ∷ codes "         decision 1 1:5 false"
    ∷ codes "     2   "
    ∷ codes "     3 ! three"
    ∷ codes "         block 2 3:1"
    ∷ codes "         c-use x d1 1:3 u2 3:4"
    ∷ codes "blocks 1 of 2"
    ∷ codes "decisions 1 of 2"
    ∷ codes "c-uses 0 of 1"
    ∷ codes "p-uses 1 of 1"
    ∷ codes "all-uses 1 of 2" ∷ [])
unfolding digits
shown = refl
