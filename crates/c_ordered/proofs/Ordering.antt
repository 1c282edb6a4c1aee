-- The items of a unit are those of its parts in preorder; blocks and decisions by themselves.
use Rattle.std.proofs.Common.{◌≡◌, ℕ, ◌++◌, List, [], ◌∷◌, map, filter, flat_map, Bool, true, false, cond, Option, Some, None, is_some, refl, ap, ap₂, sym, subst, ◌∙◌, inl, inr}
use Rattle.std.specs.List.{AllByRecursion}
use Rattle.c_base.specs.declared.place.Pos.{Pos}
use Rattle.c_syntax.specs.Shape.{UnitShape}
use Rattle.c_tables.specs.Tables.{TablesShape}
use Rattle.c_walk.specs.Items as walk
use Rattle.c_walk.specs.Items.{Direct, Outcomes, Item}
use Rattle.c_walk.specs.Units.{walk_externals, no_items, in_function}
use Rattle.c_ordered.specs.Trees.{at, Standing, IsIn}
use Rattle.c_ordered.specs.Holders.{or_else, holder}
use Rattle.c_ordered.specs.Parts.{Part, is_block, is_decision, is_variable, is_definition, block, def, used, kind_if, kind_of_decision, decided, is_def, is_use}
use Rattle.c_ordered.specs.Outlines.{of_unit}
use Rattle.c_ordered.specs.Ordered.{parts_of, item, items_with, items_at, function_in, owner_in, direct_in, ItemsAreInPreorder, PartsAreInOrder, PartsAreAll, HoldersAreInnermost, block_places, decision_places, starts_block, decides, place, BlocksAreParts, DecisionsAreParts}
use Rattle.c_ordered.proofs.Preorder.{in_order, in_order_kept, leads, listed, all_any}
use Rattle.c_ordered.proofs.Innermost.{innermost}
use Rattle.c_ordered.proofs.Holding.{Known, Knows, made_of, told_found, flat_same, or_none, alike}
use Rattle.c_ordered.proofs.Adding.{tests, Fits, Says, within}
use Rattle.c_ordered.proofs.Heads.{whole_heads}
use Rattle.c_ordered.proofs.Statements.{externals_say}

-- ---- all items

abbrev at_first : Knows Part
at_first = let k : Known Part = record { last = None; passed = 0 } in record { one = k; two = k; three = k }

unit_says : (t : TablesShape) (u : UnitShape) → Says t (in_function 0) no_items (walk_externals t u.externals no_items) (of_unit u)
unit_says t u = within (whole_heads t u (in_function 0) no_items) (externals_say t u.externals no_items)

pub items_in_preorder : ItemsAreInPreorder
items_in_preorder t u =
    let fits : Fits t (in_function 0) no_items at_first = record { function = refl; owner = refl; decisions = refl; variables = refl } in
    let ss = parts_of u in
    ((unit_says t u).told at_first fits).items
    ∙ (told_found tests (items_with t) at_first (of_unit u)
    ∙ flat_same (made_of tests (items_with t) at_first ss) (items_at t ss) ss
    (all_any (λ s. made_of tests (items_with t) at_first ss s ≡ items_at t ss s) ss
    (λ s. alike (items_with t) (or_else (holder is_definition ss s.path) None) (or_else (holder is_decision ss s.path) None) (or_else (holder is_variable ss s.path) None) (holder is_definition ss s.path) (holder is_decision ss s.path) (holder is_variable ss s.path) s.part
    (or_none (holder is_definition ss s.path)) (or_none (holder is_decision ss s.path)) (or_none (holder is_variable ss s.path)))))

-- ---- all parts

pub parts_in_order : PartsAreInOrder
parts_in_order u = in_order (of_unit u)

all_in : (P : Standing Part → Type 0) (ss : List (Standing Part)) (s : Standing Part) → AllByRecursion P ss → IsIn s ss → P s
all_in P [] s h k = absurd k
all_in P (r ∷ ss) s h (inl e) = subst P (sym e) h.0
all_in P (r ∷ ss) s h (inr k) = all_in P ss s h.1 k

pub parts_all : PartsAreAll
parts_all u s = (λ k. all_in (λ r. at r.path (of_unit u) ≡ Some r.part) (parts_of u) s (leads (of_unit u)) k, λ e. listed s.path (of_unit u) s.part e)

pub holders_innermost : HoldersAreInnermost
holders_innermost u test q = innermost test (of_unit u) q

-- ---- blocks

blocks_both : (is js : List Item) → block_places (is ++ js) ≡ block_places is ++ block_places js
blocks_both [] js = refl
blocks_both (walk.block p ∷ is) js = ap (λ ps. p ∷ ps) (blocks_both is js)
blocks_both (walk.decision p o ∷ is) js = blocks_both is js
blocks_both (walk.def p f d ∷ is) js = blocks_both is js
blocks_both (walk.used p f d o ∷ is) js = blocks_both is js

abbrev place_if : Bool → Pos → List Pos
place_if true p = p ∷ []
place_if false p = []

blocks_of_sites : (b c : Bool) (p : Pos) (f : ℕ) (o : Option ℕ) (d : Option Direct) → block_places (map (item p f o d) (kind_if b def ++ kind_if c used)) ≡ []
blocks_of_sites true true p f o d = refl
blocks_of_sites true false p f o d = refl
blocks_of_sites false true p f o d = refl
blocks_of_sites false false p f o d = refl

blocks_of_others : (m : Option Outcomes) (b c : Bool) (p : Pos) (f : ℕ) (o : Option ℕ) (d : Option Direct) → block_places (map (item p f o d) (kind_of_decision m ++ (kind_if b def ++ kind_if c used))) ≡ []
blocks_of_others None b c p f o d = blocks_of_sites b c p f o d
blocks_of_others (Some m) b c p f o d = blocks_of_sites b c p f o d

blocks_of_kinds : (a : Bool) (m : Option Outcomes) (b c : Bool) (p : Pos) (f : ℕ) (o : Option ℕ) (d : Option Direct) → block_places (map (item p f o d) (kind_if a block ++ (kind_of_decision m ++ (kind_if b def ++ kind_if c used)))) ≡ place_if a p
blocks_of_kinds true m b c p f o d = ap (λ ps. p ∷ ps) (blocks_of_others m b c p f o d)
blocks_of_kinds false m b c p f o d = blocks_of_others m b c p f o d

-- where each part has the place that passes as its own
kept_places : (test : Standing Part → Bool) (s : Standing Part) (ss : List (Standing Part)) → place_if (test s) (place s) ++ map place (filter test ss) ≡ map place (filter test (s ∷ ss))
kept_places test s ss = by (test s)
  where
    by : (b : Bool) → place_if b (place s) ++ map place (filter test ss) ≡ map place (cond b (s ∷ filter test ss) (filter test ss))
    by true = refl
    by false = refl

blocks_of_parts : (t : TablesShape) (all ss : List (Standing Part)) → block_places (flat_map (items_at t all) ss) ≡ map place (filter starts_block ss)
blocks_of_parts t all [] = refl
blocks_of_parts t all (s ∷ ss) =
    let x = s.part in
    let v = holder is_variable all s.path in
    blocks_both (items_at t all s) (flat_map (items_at t all) ss)
    ∙ (ap₂ ◌++◌
    (blocks_of_kinds (is_block x.role) (decided x.role x.what) (is_def x.role x.what) (is_use x.role x.what) (place s) (function_in t (holder is_definition all s.path)) (owner_in (holder is_decision all s.path)) (direct_in t v x.what))
    (blocks_of_parts t all ss)
    ∙ kept_places starts_block s ss)

pub blocks_are_parts : BlocksAreParts
blocks_are_parts t u = (ap block_places (items_in_preorder t u) ∙ blocks_of_parts t (parts_of u) (parts_of u), in_order_kept starts_block (parts_of u) (in_order (of_unit u)))

-- ---- decisions

decisions_both : (is js : List Item) → decision_places (is ++ js) ≡ decision_places is ++ decision_places js
decisions_both [] js = refl
decisions_both (walk.block p ∷ is) js = decisions_both is js
decisions_both (walk.decision p o ∷ is) js = ap (λ ps. p ∷ ps) (decisions_both is js)
decisions_both (walk.def p f d ∷ is) js = decisions_both is js
decisions_both (walk.used p f d o ∷ is) js = decisions_both is js

decisions_of_sites : (b c : Bool) (p : Pos) (f : ℕ) (o : Option ℕ) (d : Option Direct) → decision_places (map (item p f o d) (kind_if b def ++ kind_if c used)) ≡ []
decisions_of_sites true true p f o d = refl
decisions_of_sites true false p f o d = refl
decisions_of_sites false true p f o d = refl
decisions_of_sites false false p f o d = refl

decisions_of_others : (m : Option Outcomes) (b c : Bool) (p : Pos) (f : ℕ) (o : Option ℕ) (d : Option Direct) → decision_places (map (item p f o d) (kind_of_decision m ++ (kind_if b def ++ kind_if c used))) ≡ place_if (is_some m) p
decisions_of_others None b c p f o d = decisions_of_sites b c p f o d
decisions_of_others (Some m) b c p f o d = ap (λ ps. p ∷ ps) (decisions_of_sites b c p f o d)

decisions_of_kinds : (a : Bool) (m : Option Outcomes) (b c : Bool) (p : Pos) (f : ℕ) (o : Option ℕ) (d : Option Direct) → decision_places (map (item p f o d) (kind_if a block ++ (kind_of_decision m ++ (kind_if b def ++ kind_if c used)))) ≡ place_if (is_some m) p
decisions_of_kinds true m b c p f o d = decisions_of_others m b c p f o d
decisions_of_kinds false m b c p f o d = decisions_of_others m b c p f o d

decisions_of_parts : (t : TablesShape) (all ss : List (Standing Part)) → decision_places (flat_map (items_at t all) ss) ≡ map place (filter decides ss)
decisions_of_parts t all [] = refl
decisions_of_parts t all (s ∷ ss) =
    let x = s.part in
    let v = holder is_variable all s.path in
    decisions_both (items_at t all s) (flat_map (items_at t all) ss)
    ∙ (ap₂ ◌++◌
    (decisions_of_kinds (is_block x.role) (decided x.role x.what) (is_def x.role x.what) (is_use x.role x.what) (place s) (function_in t (holder is_definition all s.path)) (owner_in (holder is_decision all s.path)) (direct_in t v x.what))
    (decisions_of_parts t all ss)
    ∙ kept_places decides s ss)

pub decisions_are_parts : DecisionsAreParts
decisions_are_parts t u = (ap decision_places (items_in_preorder t u) ∙ decisions_of_parts t (parts_of u) (parts_of u), in_order_kept decides (parts_of u) (in_order (of_unit u)))
