-- A worked example: the list, the report and the totals of 'int main(void){int x=0;while(x<2)x=x+1;return x;}'.
use Rattle.std.proofs.Common.{◌≡◌, ℕ, ◌==◌, Bool, true, not, ◌&&◌, List, [], ◌∷◌, ◌++◌, refl}
use Rattle.std.specs.Prelude.{codes}
use Rattle.std.specs.List.{flat_map}
use Rattle.std.specs.Fmt.{digits}
use Rattle.c_base.specs.declared.place.Pos.{Pos}
use Rattle.c_base.specs.declared.labels.OutcomeLabel.TheVariants.{True, False}
use Rattle.atac_facts.specs.declared.fact.Fact.{Fact}
use Rattle.atac_facts.specs.declared.fact.Fact.TheVariants.{Block, Outcome, Pair, PUse}
use Rattle.atac_base.specs.declared.rows.PairRow.{PairRow}
use Rattle.atac_base.specs.Items.{ItemLists}
use Rattle.cover_report.specs.ItemTexts.{list_text}
use Rattle.cover_report.specs.Texts.{totals_text, report_text}

abbrev at : ℕ → Pos
at col = record { line = 1; col = col }

abbrev pair : ℕ → ℕ → ℕ → ℕ → PairRow
pair d d_col u u_col = record { def = d; def_pos = at d_col; user = u; use_pos = at u_col; name = 0 }

abbrev items : ItemLists
items = record {
  blocks = at 15 ∷ at 30 ∷ at 34 ∷ at 40 ∷ [];
  outcomes = record { decision = 1; outcome = 1; pos = at 30; label = True } ∷ record { decision = 1; outcome = 2; pos = at 30; label = False } ∷ [];
  c_uses = pair 1 20 2 36 ∷ pair 1 20 3 47 ∷ pair 2 34 2 36 ∷ pair 2 34 3 47 ∷ [];
  p_uses =
      record { pair = pair 1 20 1 30; outcome = 1; label = True }
      ∷ record { pair = pair 1 20 1 30; outcome = 2; label = False }
      ∷ record { pair = pair 2 34 1 30; outcome = 1; label = True }
      ∷ record { pair = pair 2 34 1 30; outcome = 2; label = False } ∷ [];
  names = codes "x" ∷ [];
}

-- the first definition of x isn't used behind the loop, nor for its end
abbrev covers : Fact → Bool
covers (Block k) = true
covers (Outcome k o) = true
covers (Pair d u) = not (d == 1 && u == 3)
covers (PUse d u o) = not (d == 1 && o == 2)

abbrev lines : List (List ℕ) → List ℕ
lines texts = flat_map (λ text. text ++ 10 ∷ []) texts

list_is : list_text items ≡ lines (
    codes "block 1 1:15"
    ∷ codes "block 2 1:30"
    ∷ codes "block 3 1:34"
    ∷ codes "block 4 1:40"
    ∷ codes "decision 1 1:30 true"
    ∷ codes "decision 1 1:30 false"
    ∷ codes "c-use x d1 1:20 u2 1:36"
    ∷ codes "c-use x d1 1:20 u3 1:47"
    ∷ codes "c-use x d2 1:34 u2 1:36"
    ∷ codes "c-use x d2 1:34 u3 1:47"
    ∷ codes "p-use x d1 1:20 u1 1:30 true"
    ∷ codes "p-use x d1 1:20 u1 1:30 false"
    ∷ codes "p-use x d2 1:34 u1 1:30 true"
    ∷ codes "p-use x d2 1:34 u1 1:30 false"
    ∷ codes "blocks 4" ∷ codes "decisions 2" ∷ codes "c-uses 4" ∷ codes "p-uses 4" ∷ codes "all-uses 8" ∷ [])
unfolding digits
list_is = refl

totals_are : totals_text items covers ≡ lines (codes "blocks 4 of 4" ∷ codes "decisions 2 of 2" ∷ codes "c-uses 3 of 4" ∷ codes "p-uses 3 of 4" ∷ codes "all-uses 6 of 8" ∷ [])
unfolding digits
totals_are = refl

report_is : report_text items covers ≡ lines (
    codes "block 1 1:15 covered"
    ∷ codes "block 2 1:30 covered"
    ∷ codes "block 3 1:34 covered"
    ∷ codes "block 4 1:40 covered"
    ∷ codes "decision 1 1:30 true covered"
    ∷ codes "decision 1 1:30 false covered"
    ∷ codes "c-use x d1 1:20 u2 1:36 covered"
    ∷ codes "c-use x d1 1:20 u3 1:47 uncovered"
    ∷ codes "c-use x d2 1:34 u2 1:36 covered"
    ∷ codes "c-use x d2 1:34 u3 1:47 covered"
    ∷ codes "p-use x d1 1:20 u1 1:30 true covered"
    ∷ codes "p-use x d1 1:20 u1 1:30 false uncovered"
    ∷ codes "p-use x d2 1:34 u1 1:30 true covered"
    ∷ codes "p-use x d2 1:34 u1 1:30 false covered"
    ∷ codes "blocks 4 of 4" ∷ codes "decisions 2 of 2" ∷ codes "c-uses 3 of 4" ∷ codes "p-uses 3 of 4" ∷ codes "all-uses 6 of 8" ∷ [])
unfolding digits
report_is = refl
