-- From the JSON alone the item lines are determined.
use Rattle.std.proofs.Common.{◌≡◌, ℕ, suc, Bool, List, [], ◌∷◌, ◌++◌, map, refl, sym, ap, ◌∙◌}
use Rattle.std.proofs.lemmas.List.Folds.{flat_map-map}
use Rattle.std.proofs.lemmas.List.Concat.{flat_map-append}
use Rattle.std.specs.Prelude.{codes}
use Rattle.std.specs.List.{flat_map}
use Rattle.c_base.specs.declared.place.Pos.{Pos}
use Rattle.atac_facts.specs.declared.fact.Fact.{Fact}
use Rattle.atac_base.specs.declared.rows.OutcomeRow.{OutcomeRow}
use Rattle.atac_base.specs.declared.rows.PairRow.{PairRow}
use Rattle.atac_base.specs.declared.rows.PUseRow.{PUseRow}
use Rattle.atac_base.specs.Items.{ItemLists}
use Rattle.cover_report.specs.declared.kinds.Kind.TheVariants as kind
use Rattle.cover_report.specs.ItemTexts.{Item, label_text, name_of, block_of, outcome_of, c_use_of, p_use_of, blocks_behind, of_kind}
use Rattle.cover_report.specs.Texts.{covered_text, report_line}
use Rattle.serde_json.specs.Data.{Data}
use Rattle.json_out.specs.Json.{block_json, outcome_json, c_use_json, p_use_json, blocks_json, each_json, json_of, item_lines}

-- ONE ITEM

-- a line is determined by its text and its mark
same_line : (covers covers' : Fact → Bool) (one other : Item) → one.text ≡ other.text → covers one.fact ≡ covers' other.fact → report_line covers one ≡ report_line covers' other
same_line covers covers' one other text mark =
    ap (λ t. t ++ (codes " " ++ (covered_text (covers one.fact) ++ 10 ∷ []))) text ∙ ap (λ b. other.text ++ (codes " " ++ (covered_text b ++ 10 ∷ []))) mark

block_line : (covers covers' : Fact → Bool) (k k' : ℕ) (p q : Pos) → block_json covers k p ≡ block_json covers' k' q → report_line covers (block_of k p) ≡ report_line covers' (block_of k' q)
block_line covers covers' k k' p q e =
    let number : k ≡ k' = cc in
    let line : p.line ≡ q.line = cc in
    let col : p.col ≡ q.col = cc in
    same_line covers covers' (block_of k p) (block_of k' q) (cc) (cc)

outcome_line : (covers covers' : Fact → Bool) (r s : OutcomeRow) → outcome_json covers r ≡ outcome_json covers' s → report_line covers (outcome_of r) ≡ report_line covers' (outcome_of s)
outcome_line covers covers' r s e =
    let number : r.decision ≡ s.decision = cc in
    let line : r.pos.line ≡ s.pos.line = cc in
    let col : r.pos.col ≡ s.pos.col = cc in
    let label : label_text r.label ≡ label_text s.label = cc in
    same_line covers covers' (outcome_of r) (outcome_of s) (cc) (cc)

c_use_line : (covers covers' : Fact → Bool) (names names' : List (List ℕ)) (r s : PairRow) → c_use_json covers names r ≡ c_use_json covers' names' s → report_line covers (c_use_of names r) ≡ report_line covers' (c_use_of names' s)
c_use_line covers covers' names names' r s e =
    let name : name_of names r.name ≡ name_of names' s.name = cc in
    let def : r.def ≡ s.def = cc in
    let def_line : r.def_pos.line ≡ s.def_pos.line = cc in
    let def_col : r.def_pos.col ≡ s.def_pos.col = cc in
    let user : r.user ≡ s.user = cc in
    let use_line : r.use_pos.line ≡ s.use_pos.line = cc in
    let use_col : r.use_pos.col ≡ s.use_pos.col = cc in
    same_line covers covers' (c_use_of names r) (c_use_of names' s) (cc) (cc)

p_use_line : (covers covers' : Fact → Bool) (names names' : List (List ℕ)) (r s : PUseRow) → p_use_json covers names r ≡ p_use_json covers' names' s → report_line covers (p_use_of names r) ≡ report_line covers' (p_use_of names' s)
p_use_line covers covers' names names' r s e =
    let name : name_of names r.pair.name ≡ name_of names' s.pair.name = cc in
    let def : r.pair.def ≡ s.pair.def = cc in
    let def_line : r.pair.def_pos.line ≡ s.pair.def_pos.line = cc in
    let def_col : r.pair.def_pos.col ≡ s.pair.def_pos.col = cc in
    let user : r.pair.user ≡ s.pair.user = cc in
    let use_line : r.pair.use_pos.line ≡ s.pair.use_pos.line = cc in
    let use_col : r.pair.use_pos.col ≡ s.pair.use_pos.col = cc in
    let label : label_text r.label ≡ label_text s.label = cc in
    same_line covers covers' (p_use_of names r) (p_use_of names' s) (cc) (cc)

-- LISTS

block_lines : (covers covers' : Fact → Bool) (k k' : ℕ) (ps qs : List Pos) → blocks_json covers k ps ≡ blocks_json covers' k' qs → flat_map (report_line covers) (blocks_behind k ps) ≡ flat_map (report_line covers') (blocks_behind k' qs)
block_lines covers covers' k k' [] [] e = refl
block_lines covers covers' k k' [] (q ∷ qs) e = cc
block_lines covers covers' k k' (p ∷ ps) [] e = cc
block_lines covers covers' k k' (p ∷ ps) (q ∷ qs) e =
    let first : block_json covers (suc k) p ≡ block_json covers' (suc k') q = cc in
    let rest : blocks_json covers (suc k) ps ≡ blocks_json covers' (suc k') qs = cc in
    ap (λ t. t ++ flat_map (report_line covers) (blocks_behind (suc k) ps)) (block_line covers covers' (suc k) (suc k') p q first)
    ∙ ap (λ t. report_line covers' (block_of (suc k') q) ++ t) (block_lines covers covers' (suc k) (suc k') ps qs rest)

each_line : {X : Type 0} (f g : X → Data) (u v : X → List ℕ) → ((x y : X) → f x ≡ g y → u x ≡ v y) → (xs ys : List X) → each_json f xs ≡ each_json g ys → flat_map u xs ≡ flat_map v ys
each_line f g u v one [] [] e = refl
each_line f g u v one [] (y ∷ ys) e = cc
each_line f g u v one (x ∷ xs) [] e = cc
each_line f g u v one (x ∷ xs) (y ∷ ys) e =
    let first : f x ≡ g y = cc in
    let rest : each_json f xs ≡ each_json g ys = cc in
    ap (λ t. t ++ flat_map u xs) (one x y first) ∙ ap (λ t. v y ++ t) (each_line f g u v one xs ys rest)

-- of items that are made of rows
row_lines : {X : Type 0} (f g : X → Data) (of of' : X → Item) (line line' : Item → List ℕ) → ((x y : X) → f x ≡ g y → line (of x) ≡ line' (of' y)) → (xs ys : List X) → each_json f xs ≡ each_json g ys → flat_map line (map of xs) ≡ flat_map line' (map of' ys)
row_lines f g of of' line line' one xs ys e =
    flat_map-map line of xs ∙ each_line f g (λ x. line (of x)) (λ y. line' (of' y)) one xs ys e ∙ sym (flat_map-map line' of' ys)

-- the lines of each kind behind one another
by_kinds : (items : ItemLists) (covers : Fact → Bool) → item_lines items covers ≡ flat_map (report_line covers) (of_kind items kind.Block) ++ (flat_map (report_line covers) (of_kind items kind.Outcome) ++ (flat_map (report_line covers) (of_kind items kind.CUse) ++ flat_map (report_line covers) (of_kind items kind.PUse)))
by_kinds items covers =
    let line = report_line covers in
    let blocks = of_kind items kind.Block in
    let outcomes = of_kind items kind.Outcome in
    let c_uses = of_kind items kind.CUse in
    let p_uses = of_kind items kind.PUse in
    flat_map-append line blocks (outcomes ++ (c_uses ++ p_uses)) ∙ ap (λ t. flat_map line blocks ++ t) (flat_map-append line outcomes (c_uses ++ p_uses)
    ∙ ap (λ t. flat_map line outcomes ++ t) (flat_map-append line c_uses p_uses))

pub determined : (items other : ItemLists) (covers covers' : Fact → Bool) → json_of items covers ≡ json_of other covers' → item_lines items covers ≡ item_lines other covers'
determined items other covers covers' e =
    let blocks : blocks_json covers 0 items.blocks ≡ blocks_json covers' 0 other.blocks = cc in
    let c_uses : each_json (c_use_json covers items.names) items.c_uses ≡ each_json (c_use_json covers' other.names) other.c_uses = cc in
    let outcomes : each_json (outcome_json covers) items.outcomes ≡ each_json (outcome_json covers') other.outcomes = cc in
    let p_uses : each_json (p_use_json covers items.names) items.p_uses ≡ each_json (p_use_json covers' other.names) other.p_uses = cc in
    let a = block_lines covers covers' 0 0 items.blocks other.blocks blocks in
    let b = row_lines (outcome_json covers) (outcome_json covers') outcome_of outcome_of (report_line covers) (report_line covers') (outcome_line covers covers') items.outcomes other.outcomes outcomes in
    let c = row_lines (c_use_json covers items.names) (c_use_json covers' other.names) (c_use_of items.names) (c_use_of other.names) (report_line covers) (report_line covers') (c_use_line covers covers' items.names other.names) items.c_uses other.c_uses c_uses in
    let d = row_lines (p_use_json covers items.names) (p_use_json covers' other.names) (p_use_of items.names) (p_use_of other.names) (report_line covers) (report_line covers') (p_use_line covers covers' items.names other.names) items.p_uses other.p_uses p_uses in
    by_kinds items covers
    ∙ ap (λ t. t ++ (flat_map (report_line covers) (of_kind items kind.Outcome) ++ (flat_map (report_line covers) (of_kind items kind.CUse) ++ flat_map (report_line covers) (of_kind items kind.PUse)))) a
    ∙ ap (λ t. flat_map (report_line covers') (of_kind other kind.Block) ++ (t ++ (flat_map (report_line covers) (of_kind items kind.CUse) ++ flat_map (report_line covers) (of_kind items kind.PUse)))) b
    ∙ ap (λ t. flat_map (report_line covers') (of_kind other kind.Block) ++ (flat_map (report_line covers') (of_kind other kind.Outcome) ++ (t ++ flat_map (report_line covers) (of_kind items kind.PUse)))) c
    ∙ ap (λ t. flat_map (report_line covers') (of_kind other kind.Block) ++ (flat_map (report_line covers') (of_kind other kind.Outcome) ++ (flat_map (report_line covers') (of_kind other kind.CUse) ++ t))) d
    ∙ sym (by_kinds other covers')
