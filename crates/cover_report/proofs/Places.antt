-- How many items of a kind there are, and the item at a place.
use Rattle.std.proofs.Common.{◌≡◌, ℕ, zero, suc, ◌+◌, ◌<◌, List, [], ◌∷◌, length, map, get_or, Some, refl, ap, ◌∙◌, arith}
use Rattle.std.proofs.lemmas.List.{length-map}
use Rattle.std.proofs.lemmas.Option.{slice_get-get_or}
use Rattle.std.specs.Prelude.{slice_get}
use Rattle.c_base.specs.declared.place.Pos.{Pos}
use Rattle.atac_facts.specs.declared.fact.Fact.TheVariants.{Block}
use Rattle.atac_base.specs.declared.rows.OutcomeRow.{OutcomeRow}
use Rattle.atac_base.specs.declared.rows.PairRow.{PairRow}
use Rattle.atac_base.specs.declared.rows.PUseRow.{PUseRow}
use Rattle.atac_base.specs.Items.{ItemLists}
use Rattle.cover_report.specs.declared.kinds.Kind.{Kind}
use Rattle.cover_report.specs.declared.kinds.Kind.TheVariants as kind
use Rattle.cover_report.specs.ItemTexts.{Item, block_of, outcome_of, c_use_of, p_use_of, blocks_behind, of_kind, item_at}

length-blocks_behind : (k : ℕ) (ps : List Pos) → length (blocks_behind k ps) ≡ length ps
length-blocks_behind k [] = refl
length-blocks_behind k (p ∷ ps) = ap suc (length-blocks_behind (suc k) ps)

block_at : (ps : List Pos) (k i : ℕ) (p : Pos) (d : Item) → slice_get ps i ≡ Some p → get_or (blocks_behind k ps) i d ≡ block_of (k + i + 1) p
block_at [] k i p d e = absurd (cc)
block_at (q ∷ ps) k zero p d e =
    let number : suc k ≡ k + 0 + 1 = omega arith in let same : q ≡ p = cc in ap (λ n. block_of n q) number ∙ ap (λ x. block_of (k + 0 + 1) x) same
block_at (q ∷ ps) k (suc i) p d e =
    let number : suc k + i + 1 ≡ k + suc i + 1 = omega arith in block_at ps (suc k) i p d e ∙ ap (λ n. block_of n p) number

row_at : {R : Type 0} (item : R → Item) (rows : List R) (i : ℕ) (r : R) (d : Item) → slice_get rows i ≡ Some r → get_or (map item rows) i d ≡ item r
row_at item [] i r d e = absurd (cc)
row_at item (q ∷ rows) zero r d e = let same : q ≡ r = cc in ap item same
row_at item (q ∷ rows) (suc i) r d e = row_at item rows i r d e

-- HOW MANY

pub blocks_count : (items : ItemLists) (k : Kind) → k ≡ kind.Block → length (of_kind items k) ≡ length items.blocks
blocks_count items k e = ap (λ k. length (of_kind items k)) e ∙ length-blocks_behind 0 items.blocks

pub outcomes_count : (items : ItemLists) (k : Kind) → k ≡ kind.Outcome → length (of_kind items k) ≡ length items.outcomes
outcomes_count items k e = ap (λ k. length (of_kind items k)) e ∙ length-map items.outcomes outcome_of

pub c_uses_count : (items : ItemLists) (k : Kind) → k ≡ kind.CUse → length (of_kind items k) ≡ length items.c_uses
c_uses_count items k e = ap (λ k. length (of_kind items k)) e ∙ length-map items.c_uses (c_use_of items.names)

pub p_uses_count : (items : ItemLists) (k : Kind) → k ≡ kind.PUse → length (of_kind items k) ≡ length items.p_uses
p_uses_count items k e = ap (λ k. length (of_kind items k)) e ∙ length-map items.p_uses (p_use_of items.names)

-- for the search
pub ruleset counts = (blocks_count, outcomes_count, c_uses_count, p_uses_count)

-- WHICH

pub block_is : (items : ItemLists) (k : Kind) (i : ℕ) (p : Pos) → k ≡ kind.Block → slice_get items.blocks i ≡ Some p → item_at items k i ≡ block_of (i + 1) p
block_is items k i p e at =
    let number : 0 + i + 1 ≡ i + 1 = omega arith in
    ap (λ k. item_at items k i) e ∙ block_at items.blocks 0 i p _ at ∙ ap (λ n. block_of n p) number

pub block_fact : (items : ItemLists) (k : Kind) (i : ℕ) → k ≡ kind.Block → i < length (of_kind items k) → (item_at items k i).fact ≡ Block (i + 1)
block_fact items k i e h =
    let p : Pos = record { line = 0; col = 0 } in
    let within : i < length items.blocks = omega (arith, h, blocks_count items k e) in
    ap (λ item. item.fact) (block_is items k i (get_or items.blocks i p) e (slice_get-get_or items.blocks i p within))

pub outcome_is : (items : ItemLists) (k : Kind) (i : ℕ) (r : OutcomeRow) → k ≡ kind.Outcome → slice_get items.outcomes i ≡ Some r → item_at items k i ≡ outcome_of r
outcome_is items k i r e at = ap (λ k. item_at items k i) e ∙ row_at outcome_of items.outcomes i r _ at

pub c_use_is : (items : ItemLists) (k : Kind) (i : ℕ) (r : PairRow) → k ≡ kind.CUse → slice_get items.c_uses i ≡ Some r → item_at items k i ≡ c_use_of items.names r
c_use_is items k i r e at = ap (λ k. item_at items k i) e ∙ row_at (c_use_of items.names) items.c_uses i r _ at

pub p_use_is : (items : ItemLists) (k : Kind) (i : ℕ) (r : PUseRow) → k ≡ kind.PUse → slice_get items.p_uses i ≡ Some r → item_at items k i ≡ p_use_of items.names r
p_use_is items k i r e at = ap (λ k. item_at items k i) e ∙ row_at (p_use_of items.names) items.p_uses i r _ at

-- for the search
pub ruleset rows = (block_is, outcome_is, c_use_is, p_use_is)
