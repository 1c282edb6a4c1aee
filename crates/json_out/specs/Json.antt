-- The JSON of items: an object with a list for each kind, in which each item says whether it is covered. It holds for any test
-- on facts: an item is covered where its fact passes. Keys stand in the order of their bytes.
use Rattle.std.specs.Prelude.{ℕ, suc, Bool, List, [], ◌∷◌, codes}
use Rattle.std.specs.List.{flat_map}
use Rattle.c_base.specs.declared.place.Pos.{Pos}
use Rattle.atac_facts.specs.declared.fact.Fact.{Fact}
use Rattle.atac_facts.specs.declared.fact.Fact.TheVariants.{Block, Outcome, Pair, PUse}
use Rattle.atac_base.specs.declared.rows.OutcomeRow.{OutcomeRow}
use Rattle.atac_base.specs.declared.rows.PairRow.{PairRow}
use Rattle.atac_base.specs.declared.rows.PUseRow.{PUseRow}
use Rattle.atac_base.specs.Items.{ItemLists}
use Rattle.cover_report.specs.ItemTexts.{label_text, name_of, all_items}
use Rattle.cover_report.specs.Texts.{report_line}
use Rattle.serde_json.specs.Data.{unsigned, Data, boolean, number, string, array, object, Items, no_items, item, no_members, member}

abbrev pub numeral : ℕ → Data
numeral n = number (unsigned n)

-- {col, line, number}
abbrev pub site_json : ℕ → Pos → Data
site_json n p = object (member (codes "col") (numeral p.col) (member (codes "line") (numeral p.line) (member (codes "number") (numeral n) no_members)))

-- {col, covered, line, number}
abbrev pub block_json : (Fact → Bool) → ℕ → Pos → Data
block_json covers k p =
    object (member (codes "col") (numeral p.col) (member (codes "covered") (boolean (covers (Block k))) (member (codes "line") (numeral p.line)
    (member (codes "number") (numeral k) no_members))))

-- {col, covered, line, number, outcome}
abbrev pub outcome_json : (Fact → Bool) → OutcomeRow → Data
outcome_json covers r =
    object (member (codes "col") (numeral r.pos.col) (member (codes "covered") (boolean (covers (Outcome r.decision r.outcome)))
    (member (codes "line") (numeral r.pos.line) (member (codes "number") (numeral r.decision) (member (codes "outcome") (string (label_text r.label)) no_members)))))

-- {covered, def, name, use}
abbrev pub c_use_json : (Fact → Bool) → List (List ℕ) → PairRow → Data
c_use_json covers names r =
    object (member (codes "covered") (boolean (covers (Pair r.def r.user))) (member (codes "def") (site_json r.def r.def_pos)
    (member (codes "name") (string (name_of names r.name)) (member (codes "use") (site_json r.user r.use_pos) no_members))))

-- {covered, def, name, outcome, use}
abbrev pub p_use_json : (Fact → Bool) → List (List ℕ) → PUseRow → Data
p_use_json covers names r =
    object (member (codes "covered") (boolean (covers (PUse r.pair.def r.pair.user r.outcome))) (member (codes "def") (site_json r.pair.def r.pair.def_pos)
    (member (codes "name") (string (name_of names r.pair.name)) (member (codes "outcome") (string (label_text r.label))
    (member (codes "use") (site_json r.pair.user r.pair.use_pos) no_members)))))

-- the blocks behind the first k
abbrev pub blocks_json : (Fact → Bool) → ℕ → List Pos → Items
blocks_json covers k [] = no_items
blocks_json covers k (p ∷ ps) = item (block_json covers (suc k) p) (blocks_json covers (suc k) ps)

abbrev pub each_json : {X : Type 0} → (X → Data) → List X → Items
each_json f [] = no_items
each_json f (x ∷ xs) = item (f x) (each_json f xs)

-- {blocks, c-uses, decisions, p-uses}, each list in the order of its items
abbrev pub json_of : ItemLists → (Fact → Bool) → Data
json_of items covers =
    object (member (codes "blocks") (array (blocks_json covers 0 items.blocks))
    (member (codes "c-uses") (array (each_json (c_use_json covers items.names) items.c_uses))
    (member (codes "decisions") (array (each_json (outcome_json covers) items.outcomes))
    (member (codes "p-uses") (array (each_json (p_use_json covers items.names) items.p_uses)) no_members))))

-- the item lines of a report, with their marks
abbrev pub item_lines : ItemLists → (Fact → Bool) → List ℕ
item_lines items covers = flat_map (report_line covers) (all_items items)
