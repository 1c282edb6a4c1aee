-- Worked examples: which runs are kept, and the text of a pick.
use Rattle.std.proofs.Common.{◌≡◌, ℕ, ◌==◌, Bool, true, false, List, [], ◌∷◌, ◌++◌, refl}
use Rattle.std.specs.Prelude.{codes}
use Rattle.std.specs.List.{flat_map, list_any}
use Rattle.std.specs.Fmt.{digits}
use Rattle.c_base.specs.declared.place.Pos.{Pos}
use Rattle.atac_facts.specs.declared.fact.Fact.{Fact}
use Rattle.atac_facts.specs.declared.fact.Fact.TheVariants.{Block, Outcome, Pair, PUse}
use Rattle.atac_facts.specs.Sets.{FactSet}
use Rattle.atac_base.specs.Items.{ItemLists}
use Rattle.run_pick.specs.Kept.{facts_of, is_kept_for}
use Rattle.run_pick.specs.Lines.{pick_text}

-- the blocks whose bits a number has
abbrev blocks : ℕ → FactSet
blocks bits = record { words = (0, bits) ∷ []; spare = 0 }

abbrev three : List Fact
three = Block 1 ∷ Block 2 ∷ Block 3 ∷ []

-- BLOCKS 1 AND 2, BLOCKS 2 AND 3, BLOCKS 3 AND 1: the last run is dropped

abbrev in_turn : List FactSet
in_turn = blocks 6 ∷ blocks 12 ∷ blocks 10 ∷ []

abbrev keep_keep_drop : List Bool
keep_keep_drop = true ∷ true ∷ false ∷ []

first : list_any (is_kept_for in_turn keep_keep_drop 0) three ≡ true
first = refl

second : list_any (is_kept_for in_turn keep_keep_drop 1) three ≡ true
second = refl

third : list_any (is_kept_for in_turn keep_keep_drop 2) three ≡ false
third = refl

-- BLOCK 1, BLOCKS 1 AND 2: the first run is dropped, since the kept one behind it covers its block

abbrev growing : List FactSet
growing = blocks 2 ∷ blocks 6 ∷ []

smaller : list_any (is_kept_for growing (false ∷ true ∷ []) 0) three ≡ false
smaller = refl

larger : list_any (is_kept_for growing (false ∷ true ∷ []) 1) three ≡ true
larger = refl

-- A RUN THAT COVERS NO ITEM

nothing : list_any (is_kept_for (blocks 16 ∷ []) (false ∷ []) 0) three ≡ false
nothing = refl

-- THE TEXT

abbrev at : ℕ → Pos
at col = record { line = 1; col = col }

abbrev items : ItemLists
items = record { blocks = at 15 ∷ at 30 ∷ []; outcomes = []; c_uses = []; p_uses = []; names = [] }

facts : facts_of items ≡ Block 1 ∷ Block 2 ∷ []
facts = refl

abbrev covers : Fact → Bool
covers (Block k) = k == 1
covers (Outcome k o) = false
covers (Pair d u) = false
covers (PUse d u o) = false

lines : pick_text (true ∷ false ∷ []) (codes "e" ∷ codes "e" ∷ []) items covers ≡ flat_map (λ text. text ++ 10 ∷ []) (
    codes "keep e"
    ∷ codes "drop e"
    ∷ codes "kept 1 of 2"
    ∷ codes "blocks 1 of 2" ∷ codes "decisions 0 of 0" ∷ codes "c-uses 0 of 0" ∷ codes "p-uses 0 of 0" ∷ codes "all-uses 0 of 0" ∷ [])
unfolding digits
lines = refl
