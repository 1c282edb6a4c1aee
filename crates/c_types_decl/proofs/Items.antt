-- The items of a list, typed one by one in place.
use Rattle.std.proofs.Common.{◌≡◌, ℕ, zero, suc, ◌+◌, ◌<◌, ◌≤◌, true, List, [], ◌∷◌, length, take, drop, get_or, Option, refl, ap, sym, ◌∙◌, arith, add-one}
use Rattle.std.proofs.Math.ListN.{set}
use Rattle.std.proofs.lemmas.List.{drop_all, take_all}
use Rattle.c_base.specs.declared.place.Pos.{Pos}
use Rattle.c_syntax.specs.declared.tree.Init.{Init}
use Rattle.c_syntax.specs.Shape.{TypeOf, InitShapes, no_inits, more_inits}
use Rattle.c_syntax.specs.View.{init_shape, init_list}
use Rattle.c_tree.specs.State.{State, step}
use Rattle.c_tree.specs.Rulings.{rule}
use Rattle.c_tree.specs.Initialisers.{Slots, slot, slot_rule, further, init_pos, TypedInit, TypedInits, type_init, type_inits}
use Rattle.c_types_decl.specs.Fronts.{front, behind}

-- what typing makes of the next item
abbrev item_typed : Slots → Init → State → TypedInit
item_typed l x s = type_init true (slot l) (init_shape x) (rule (slot_rule l) s.at (init_pos (init_shape x)) s)

-- a typed item in front of others
abbrev more : Init → TypedInits → TypedInits
more x r = record { inits = more_inits (init_shape x) r.inits; state = r.state }

-- the next item is typed, and stands with those before it
item_next : (items : List Init) (i : ℕ) (y d : Init) (l : Slots) (s u : State) → i < length items → init_shape y ≡ (item_typed l (get_or items i d) s).init → u ≡ step (item_typed l (get_or items i d) s).state → behind (take (suc i) (set items i y)) (type_inits (further l) (init_list (drop (suc i) (set items i y))) u) ≡ behind (take i items) (type_inits l (init_list (drop i items)) s)
item_next [] i y d l s u h e f = absurd (omega (arith, h))
item_next (x ∷ xs) zero y d l s u h e f = rw (e, f) refl
item_next (x ∷ xs) (suc i) y d l s u h e f = ap (more x) (item_next xs i y d l s u (omega (arith, h)) e f)

-- the same, by the steps of the code
pub next_item : (items : List Init) (i : ℕ) (x y : Init) (p : Pos) (k : Option TypeOf) (l m : Slots) (s t u v : State) → i < length items → x ≡ get_or items i x → p ≡ init_pos (init_shape x) → t ≡ rule (slot_rule l) s.at p s → k ≡ slot l → init_shape y ≡ (type_init true k (init_shape x) t).init → u ≡ (type_init true k (init_shape x) t).state → v ≡ step u → m ≡ further l → behind (take (i + 1) (set items i y)) (type_inits m (init_list (drop (i + 1) (set items i y))) v) ≡ behind (take i items) (type_inits l (init_list (drop i items)) s)
next_item items i x y p k l m s t u v h at place judged kind tree state stepped more =
    let typed : item_typed l (get_or items i x) s ≡ type_init true k (init_shape x) t = rw (← at, judged, kind, place) refl in
    rw (add-one, more) (item_next items i y x l s v h (tree ∙ ap (λ r. r.init) (sym typed)) (stepped ∙ ap step (state ∙ ap (λ r. r.state) (sym typed))))

-- every item is typed
front_all : (items : List Init) → front items no_inits ≡ init_list items
front_all [] = refl
front_all (i ∷ items) = ap (more_inits (init_shape i)) (front_all items)

abbrev with_state : State → InitShapes → TypedInits
with_state s r = record { inits = r; state = s }

-- no item is left
pub items_end : (items : List Init) (i : ℕ) (l : Slots) (s : State) → length items ≤ i → behind (take i items) (type_inits l (init_list (drop i items)) s) ≡ with_state s (init_list items)
items_end items i l s h = rw (drop_all i items h, take_all i items h) (ap (with_state s) (front_all items))
