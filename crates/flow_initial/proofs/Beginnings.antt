-- What begins with a value gives some cell a value.
use Rattle.std.proofs.Common.{◌≡◌, ℕ, zero, suc, ◌≤◌, List, [], ◌∷◌, ◌++◌, Option, Some, None, true, refl, arith}
use Rattle.std.specs.Prelude.{slice_get, is_some, option_map, pos}
use Rattle.c_syntax.specs.declared.text.Text.{Text}
use Rattle.c_syntax.specs.Shape.{TypeOf, int, pointer, array, structure, nothing, str, NodeShape, node, leaf, InitShape, one, listed, InitShapes, no_inits, more_inits}
use Rattle.c_store.specs.declared.value.Value.{Value}
use Rattle.c_store.specs.declared.value.Value.TheVariants.{Int}
use Rattle.c_tables.specs.Tables.{TablesShape}
use Rattle.c_meaning.specs.State.{Bound}
use Rattle.c_meaning.specs.Operators.{converted}
use Rattle.c_meaning.specs.Constants.{value_in, slot_kinds, string_cells, one_cells, init_cells, items_cells}
use Rattle.flow_initial.specs.Values.{GivesValue, BeginsWith, Begins, ListBegins, BeginningsGiveValues}

-- a value in front stays, whatever follows
stays_in_front : (xs ys : List (Option Value)) (k : ℕ) (v : Value) → slice_get xs k ≡ Some (Some v) → slice_get (xs ++ ys) k ≡ Some (Some v)
stays_in_front [] ys k v e = cc
stays_in_front (x ∷ xs) ys zero v e = e
stays_in_front (x ∷ xs) ys (suc k) v e = stays_in_front xs ys k v e

gives_in_front : (xs ys : List (Option Value)) → GivesValue xs → GivesValue (xs ++ ys)
gives_in_front xs ys (k, v, e) = (k, v, stays_in_front xs ys k v e)

-- the first char, or the first zero
string_gives : (k : TypeOf) (n : ℕ) (x : Text) → 1 ≤ n → GivesValue (string_cells k n x)
string_gives k zero x le = absurd (omega (arith, le))
string_gives k (suc n) [] le = (0, Int (pos 0), refl)
string_gives k (suc n) (c ∷ x) le = (0, _, refl)

value_gives : (k : TypeOf) (v : Option Value) → is_some v ≡ true → GivesValue (option_map (converted k) v ∷ [])
value_gives k None e = cc
value_gives k (Some v) e = (0, converted k v, refl)

one_gives : (t : TablesShape) (b : List Bound) (k : TypeOf) (a : NodeShape) → BeginsWith t b k a → GivesValue (one_cells t b k a)
one_gives t b (array k n) (node p o m (leaf (str x))) h = string_gives k n x h.0
one_gives t b (array k n) (node p o m f) h = absurd h.1
one_gives t b (int k) a h = value_gives (int k) (value_in t b a) h
one_gives t b (pointer k) a h = value_gives (pointer k) (value_in t b a) h
one_gives t b (structure n) a h = value_gives (structure n) (value_in t b a) h
one_gives t b nothing a h = value_gives nothing (value_in t b a) h

mutual
  init_gives : (t : TablesShape) (b : List Bound) (k : TypeOf) (i : InitShape) → Begins t b k i → GivesValue (init_cells t b k i)
  init_gives t b k (one a) h = one_gives t b k a h
  init_gives t b k (listed p items last) h = list_gives t b (slot_kinds t k) items h

  list_gives : (t : TablesShape) (b : List Bound) (ks : List TypeOf) (items : InitShapes) → ListBegins t b ks items → GivesValue (items_cells t b ks items)
  list_gives t b ks no_inits h = absurd h
  list_gives t b [] (more_inits i rest) h = absurd h
  list_gives t b (k ∷ ks) (more_inits i rest) h = gives_in_front (init_cells t b k i) (items_cells t b ks rest) (init_gives t b k i h)

pub beginnings_give_values : BeginningsGiveValues
beginnings_give_values = init_gives
