-- The cells of initialisers.
use Rattle.std.proofs.Common.{◌≡◌, ℕ, zero, suc, ◌+◌, ◌-◌, ◌<◌, ◌≤◌, List, [], ◌∷◌, ◌++◌, length, drop, drop-cons, get_or, replicate, append-nil, ◌⊎◌, ⊎_elim, Bool, Option, Some, None, refl, sym, ap, ◌∙◌, arith}
use Rattle.std.specs.Prelude.{option_map}
use Rattle.std.specs.declared.vec.Vec.{Vec}
use Rattle.std.specs.declared.alloc.Global.{Global}
use Rattle.std.specs.declared.boxed.Box.{Box}
use Rattle.c_base.specs.declared.place.IntKind.{IntKind}
use Rattle.c_syntax.specs.declared.tree.CType.{CType}
use Rattle.c_syntax.specs.declared.tree.CType.TheVariants as ctype
use Rattle.c_base.specs.declared.place.Pos.{Pos}
use Rattle.c_syntax.specs.declared.text.Text.{Text}
use Rattle.c_syntax.specs.declared.tree.Init.{Init}
use Rattle.c_syntax.specs.declared.tree.Init.TheVariants as init
use Rattle.c_syntax.specs.View.{type_of, init_shape, init_list}
use Rattle.c_syntax.proofs.Open.{inits_open}
use Rattle.c_store.specs.declared.value.Value.{Value}
use Rattle.c_syntax.specs.Shape.{TypeOf, array, InitShapes, no_inits, more_inits, NodeShape, node, leaf, number, char, str, name, paren, call, prefix, size_of_type, cast, suffix, two, choose, probe}
use Rattle.c_tables.specs.Tables.{TablesShape}
use Rattle.c_meaning.specs.State.{Bound}
use Rattle.c_meaning.specs.Operators.{converted}
use Rattle.c_meaning.specs.Constants.{value_in, string_cells, one_cells, slot_kinds, init_cells, items_cells}
use Rattle.c_compute.specs.Kinds.{string_in}
use Rattle.c_compute.specs.Cells.{init_size, inits_size}
use Rattle.c_compute.proofs.Lists.{one_more, replicate_first}

-- a list for what has no slots gives nothing
pub no_slots : (t : TablesShape) (b : List Bound) (is : InitShapes) → items_cells t b [] is ≡ []
no_slots t b no_inits = refl
no_slots t b (more_inits i rest) = refl

pub nothing_listed : (t : TablesShape) (b : List Bound) (ks : List TypeOf) (c : List (Option Value)) (is : InitShapes) → ks ≡ [] → c ≡ c ++ items_cells t b ks is
nothing_listed t b ks c is e = sym (append-nil c) ∙ ap (λ x. c ++ x) (sym (ap (λ ks. items_cells t b ks is) e ∙ no_slots t b is))

pub not_listed : (t : TablesShape) (k : CType) → ((x : IntKind) × (k ≡ ctype.Int x)) ⊎ (((x : Box CType Global) × (k ≡ ctype.Pointer x)) ⊎ (k ≡ ctype.Void)) → slot_kinds t (type_of k) ≡ []
not_listed t k h = ⊎_elim (λ i. ap (λ k. slot_kinds t (type_of k)) i.1) (λ j. ⊎_elim (λ i. ap (λ k. slot_kinds t (type_of k)) i.1) (λ i. ap (λ k. slot_kinds t (type_of k)) i) j) h

pub string_cells_of : (t : TablesShape) (b : List Bound) (k : TypeOf) (n : ℕ) (a : NodeShape) (x : Text) → string_in a ≡ Some x → one_cells t b (array k n) a ≡ string_cells k n x
string_cells_of t b k n (node p o m (leaf (str y))) x e = ap (λ y. string_cells k n y) (cc)
string_cells_of t b k n (node p o m (leaf (number y))) x e = cc
string_cells_of t b k n (node p o m (leaf (char y))) x e = cc
string_cells_of t b k n (node p o m (leaf (name y))) x e = cc
string_cells_of t b k n (node p o m (paren a)) x e = cc
string_cells_of t b k n (node p o m (call y list)) x e = cc
string_cells_of t b k n (node p o m (prefix u a)) x e = cc
string_cells_of t b k n (node p o m (size_of_type y)) x e = cc
string_cells_of t b k n (node p o m (cast y a)) x e = cc
string_cells_of t b k n (node p o m (suffix a s)) x e = cc
string_cells_of t b k n (node p o m (two u a c)) x e = cc
string_cells_of t b k n (node p o m (choose a c d)) x e = cc
string_cells_of t b k n (node p o m (probe u a)) x e = cc

pub value_cells_of : (t : TablesShape) (b : List Bound) (k : TypeOf) (n : ℕ) (a : NodeShape) → string_in a ≡ None → one_cells t b (array k n) a ≡ option_map (converted (array k n)) (value_in t b a) ∷ []
value_cells_of t b k n (node p o m (leaf (str y))) e = cc
value_cells_of t b k n (node p o m (leaf (number y))) e = refl
value_cells_of t b k n (node p o m (leaf (char y))) e = refl
value_cells_of t b k n (node p o m (leaf (name y))) e = refl
value_cells_of t b k n (node p o m (paren a)) e = refl
value_cells_of t b k n (node p o m (call y list)) e = refl
value_cells_of t b k n (node p o m (prefix u a)) e = refl
value_cells_of t b k n (node p o m (size_of_type y)) e = refl
value_cells_of t b k n (node p o m (cast y a)) e = refl
value_cells_of t b k n (node p o m (suffix a s)) e = refl
value_cells_of t b k n (node p o m (two u a c)) e = refl
value_cells_of t b k n (node p o m (choose a c d)) e = refl
value_cells_of t b k n (node p o m (probe u a)) e = refl

-- ---- pushed one after the other

pub list_open : (t : TablesShape) (b : List Bound) (k : TypeOf) (i : Init) (p : Pos) (v : Vec Init Global) (last : Bool) (xs : List Init) → i ≡ init.List p v last → xs ≡ v.items → init_cells t b k (init_shape i) ≡ items_cells t b (slot_kinds t k) (init_list xs)
list_open t b k i p v last xs e same = ap (λ i. init_cells t b k i) (ap init_shape e ∙ inits_open p v last) ∙ ap (λ x. items_cells t b (slot_kinds t k) (init_list x)) (sym same)

pub elements_next : (t : TablesShape) (b : List Bound) (k : TypeOf) (left at : ℕ) (items : List Init) (i : Init) (c d : List (Option Value)) → (left ≡ 0 → ⊥) → at < length items → i ≡ get_or items at i → d ≡ c ++ init_cells t b k (init_shape i) → d ++ items_cells t b (replicate (left - 1) k) (init_list (drop (at + 1) items)) ≡ c ++ items_cells t b (replicate left k) (init_list (drop at items))
elements_next t b k left at items i c d some h is e =
    let positive : 0 < left = omega (arith, some) in
    let next : suc at ≡ at + 1 = omega arith in
    one_more c d (init_cells t b k (init_shape i)) (items_cells t b (replicate (left - 1) k) (init_list (drop (at + 1) items))) (items_cells t b (replicate left k) (init_list (drop at items))) e
    (ap (λ ks. items_cells t b ks (init_list (drop at items))) (replicate_first left k positive) ∙
    ap (λ x. items_cells t b (k ∷ replicate (left - 1) k) (init_list x)) (drop-cons items at i h ∙ ap (λ j. j ∷ drop (suc at) items) (sym is) ∙ ap (λ n. i ∷ drop n items) next))

-- ---- how large initialisers are

pub item_size : (items : List Init) (at : ℕ) (i : Init) → at < length items → i ≡ get_or items at i → init_size (init_shape i) ≤ inits_size (init_list items)
item_size [] at i h e = absurd (omega (arith, h))
item_size (j ∷ items) zero i h e = let k : init_size (init_shape i) ≡ init_size (init_shape j) = ap (λ i. init_size (init_shape i)) e in omega (arith, k)
item_size (j ∷ items) (suc at) i h e = let k : init_size (init_shape i) ≤ inits_size (init_list items) = item_size items at i (omega (arith, h)) e in omega (arith, k)

pub list_size : (i : Init) (p : Pos) (v : Vec Init Global) (last : Bool) (xs : List Init) → i ≡ init.List p v last → xs ≡ v.items → init_size (init_shape i) ≡ suc (inits_size (init_list xs))
list_size i p v last xs e same = ap init_size (ap init_shape e ∙ inits_open p v last) ∙ ap (λ x. suc (inits_size (init_list x))) (sym same)
