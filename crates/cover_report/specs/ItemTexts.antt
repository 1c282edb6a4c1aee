-- The items of a program, each with its text, the fact that covers it and its line; and the list of all items.
use Rattle.std.specs.Prelude.{ℕ, suc, ◌+◌, List, [], ◌∷◌, ◌++◌, length, map, slice_get, slice_index_or, unwrap_or, codes}
use Rattle.std.specs.List.{flat_map}
use Rattle.std.specs.Fmt.{decimal, signed_decimal}
use Rattle.c_base.specs.declared.place.Pos.{Pos}
use Rattle.c_base.specs.declared.labels.OutcomeLabel.{OutcomeLabel}
use Rattle.c_base.specs.declared.labels.OutcomeLabel.TheVariants.{True, False, Case, Rest}
use Rattle.atac_facts.specs.declared.fact.Fact.{Fact}
use Rattle.atac_facts.specs.declared.fact.Fact.TheVariants.{Block, Outcome, Pair, PUse}
use Rattle.atac_base.specs.declared.rows.OutcomeRow.{OutcomeRow}
use Rattle.atac_base.specs.declared.rows.PairRow.{PairRow}
use Rattle.atac_base.specs.declared.rows.PUseRow.{PUseRow}
use Rattle.atac_base.specs.Items.{ItemLists}
use Rattle.cover_report.specs.declared.kinds.Kind.{Kind}
use Rattle.cover_report.specs.declared.kinds.Kind.TheVariants as kind

-- LINE:COL
abbrev pub place_text : Pos → List ℕ
place_text p = decimal p.line ++ (codes ":" ++ decimal p.col)

-- block K LINE:COL
abbrev pub block_item : ℕ → Pos → List ℕ
block_item k p = codes "block " ++ (decimal k ++ (codes " " ++ place_text p))

abbrev pub label_text : OutcomeLabel → List ℕ
label_text True = codes "true"
label_text False = codes "false"
label_text (Case v) = codes "case " ++ signed_decimal v
label_text Rest = codes "rest"

-- decision K LINE:COL OUTCOME
abbrev pub outcome_item : OutcomeRow → List ℕ
outcome_item r = codes "decision " ++ (decimal r.decision ++ (codes " " ++ (place_text r.pos ++ (codes " " ++ label_text r.label))))

abbrev pub name_of : List (List ℕ) → ℕ → List ℕ
name_of names i = unwrap_or (slice_get names i) []

-- NAME dD LINE:COL uU LINE:COL
abbrev pub pair_text : List ℕ → PairRow → List ℕ
pair_text name r = name ++ (codes " d" ++ (decimal r.def ++ (codes " " ++ (place_text r.def_pos ++ (codes " u" ++ (decimal r.user ++ (codes " " ++ place_text r.use_pos)))))))

abbrev pub c_use_item : List (List ℕ) → PairRow → List ℕ
c_use_item names r = codes "c-use " ++ pair_text (name_of names r.name) r

-- with the outcome behind it
abbrev pub p_use_item : List (List ℕ) → PUseRow → List ℕ
p_use_item names r = codes "p-use " ++ (pair_text (name_of names r.pair.name) r.pair ++ (codes " " ++ label_text r.label))

-- ---- items of all kinds

-- an item: its text, the fact that covers it, and the line that it stands on
pub record Item : Type 0 where
  pub text : List ℕ
  pub fact : Fact
  pub line : ℕ

abbrev pub block_of : ℕ → Pos → Item
block_of k p = record { text = block_item k p; fact = Block k; line = p.line }

abbrev pub outcome_of : OutcomeRow → Item
outcome_of r = record { text = outcome_item r; fact = Outcome r.decision r.outcome; line = r.pos.line }

-- a pair stands where its use does
abbrev pub c_use_of : List (List ℕ) → PairRow → Item
c_use_of names r = record { text = c_use_item names r; fact = Pair r.def r.user; line = r.use_pos.line }

abbrev pub p_use_of : List (List ℕ) → PUseRow → Item
p_use_of names r = record { text = p_use_item names r; fact = PUse r.pair.def r.pair.user r.outcome; line = r.pair.use_pos.line }

-- the blocks behind the first k
abbrev pub blocks_behind : ℕ → List Pos → List Item
blocks_behind k [] = []
blocks_behind k (p ∷ ps) = block_of (suc k) p ∷ blocks_behind (suc k) ps

-- the items of one kind, in the order of their numbers
abbrev pub of_kind : ItemLists → Kind → List Item
of_kind items kind.Block = blocks_behind 0 items.blocks
of_kind items kind.Outcome = map outcome_of items.outcomes
of_kind items kind.CUse = map (c_use_of items.names) items.c_uses
of_kind items kind.PUse = map (p_use_of items.names) items.p_uses

abbrev pub all_items : ItemLists → List Item
all_items items = of_kind items kind.Block ++ (of_kind items kind.Outcome ++ (of_kind items kind.CUse ++ of_kind items kind.PUse))

-- the item of a kind at a place, counted from 0
abbrev pub item_at : ItemLists → Kind → ℕ → Item
item_at items k i = slice_index_or (of_kind items k) i (record { text = []; fact = Block 0; line = 0 })

-- ---- the list

abbrev pub list_line : Item → List ℕ
list_line item = item.text ++ 10 ∷ []

-- KIND N
abbrev pub count_line : List ℕ → ℕ → List ℕ
count_line name n = name ++ (decimal n ++ 10 ∷ [])

abbrev pub counts_text : ItemLists → List ℕ
counts_text items =
    count_line (codes "blocks ") (length items.blocks)
    ++ (count_line (codes "decisions ") (length items.outcomes)
    ++ (count_line (codes "c-uses ") (length items.c_uses)
    ++ (count_line (codes "p-uses ") (length items.p_uses)
    ++ count_line (codes "all-uses ") (length items.c_uses + length items.p_uses))))

abbrev pub list_text : ItemLists → List ℕ
list_text items = flat_map list_line (all_items items) ++ counts_text items
