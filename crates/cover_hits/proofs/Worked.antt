-- Worked examples: the text of exact numbers, and of numbers that may be too small.
use Rattle.std.proofs.Common.{◌≡◌, ℕ, ◌==◌, if◌then◌else◌, true, false, List, [], ◌∷◌, ◌++◌, refl}
use Rattle.std.specs.Prelude.{codes}
use Rattle.std.specs.List.{flat_map}
use Rattle.std.specs.Fmt.{digits}
use Rattle.c_base.specs.declared.place.Pos.{Pos}
use Rattle.c_base.specs.declared.labels.OutcomeLabel.TheVariants.{True, False}
use Rattle.atac_facts.specs.declared.fact.Fact.{Fact}
use Rattle.atac_facts.specs.declared.fact.Fact.TheVariants.{Block, Outcome, Pair, PUse}
use Rattle.atac_base.specs.declared.rows.PairRow.{PairRow}
use Rattle.atac_base.specs.Items.{ItemLists}
use Rattle.cover_hits.specs.Hits.{hits_text}

abbrev lines : List (List ℕ) → List ℕ
lines texts = flat_map (λ text. text ++ 10 ∷ []) texts

abbrev at : ℕ → Pos
at col = record { line = 1; col = col }

-- A BLOCK ALONE, MET BY TWO RUNS OF ALL THAT WERE COUNTED

abbrev block : ItemLists
block = record { blocks = at 15 ∷ []; outcomes = []; c_uses = []; p_uses = []; names = [] }

block_is : hits_text true block (λ fact. 2) ≡ lines (
    codes "block 1 1:15 in 2 runs"
    ∷ codes "blocks 1 of 1" ∷ codes "decisions 0 of 0" ∷ codes "c-uses 0 of 0" ∷ codes "p-uses 0 of 0" ∷ codes "all-uses 0 of 0" ∷ [])
unfolding digits
block_is = refl

-- 'int main(void){int x=0;while(x<2)x=x+1;return x;}', BUT FOR TWO C-USES

abbrev pair : ℕ → ℕ → ℕ → ℕ → PairRow
pair d d_col u u_col = record { def = d; def_pos = at d_col; user = u; use_pos = at u_col; name = 0 }

abbrev loop : ItemLists
loop = record {
  blocks = at 15 ∷ at 30 ∷ [];
  outcomes = record { decision = 1; outcome = 1; pos = at 30; label = True } ∷ record { decision = 1; outcome = 2; pos = at 30; label = False } ∷ [];
  c_uses = pair 1 20 2 36 ∷ pair 1 20 3 47 ∷ [];
  p_uses = record { pair = pair 1 20 1 30; outcome = 1; label = True } ∷ record { pair = pair 1 20 1 30; outcome = 2; label = False } ∷ [];
  names = codes "x" ∷ [];
}

-- the definition of x isn't used behind the loop, nor for its end
abbrev runs : Fact → ℕ
runs (Block k) = 12
runs (Outcome k o) = 1
runs (Pair d u) = if u == 3 then 0 else 1
runs (PUse d u o) = if o == 2 then 0 else 7

loop_is : hits_text false loop runs ≡ lines (
    codes "block 1 1:15 in 12 runs or more"
    ∷ codes "block 2 1:30 in 12 runs or more"
    ∷ codes "decision 1 1:30 true in 1 runs or more"
    ∷ codes "decision 1 1:30 false in 1 runs or more"
    ∷ codes "c-use x d1 1:20 u2 1:36 in 1 runs or more"
    ∷ codes "c-use x d1 1:20 u3 1:47 in 0 runs"
    ∷ codes "p-use x d1 1:20 u1 1:30 true in 7 runs or more"
    ∷ codes "p-use x d1 1:20 u1 1:30 false in 0 runs"
    ∷ codes "blocks 2 of 2" ∷ codes "decisions 2 of 2" ∷ codes "c-uses 1 of 2" ∷ codes "p-uses 1 of 2" ∷ codes "all-uses 2 of 4" ∷ [])
unfolding digits
loop_is = refl
