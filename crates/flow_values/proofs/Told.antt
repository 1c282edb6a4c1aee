-- What holds of a typed node, by what typing knows of its constant: it has a value, or stands at a place.
use Rattle.std.proofs.Common.{◌≡◌, ℕ, ◌≤◌, List, Bool, true, false, Option, Some, None, refl, sym, ap, ◌∙◌, subst, nat_eq, arith}
use Rattle.std.specs.Prelude.{pos, ◌&&◌, ◌||◌, is_some, option_map, if◌then◌else◌}
use Rattle.std.proofs.lemmas.Bool.Decides.{nat_tests}
use Rattle.c_base.specs.declared.place.Pos.{Pos}
use Rattle.c_base.specs.declared.place.IntKind.TheVariants.{Int as AnInt}
use Rattle.c_syntax.specs.declared.text.Text.{Text}
use Rattle.c_syntax.specs.declared.tree.UnaryOp.TheVariants as front
use Rattle.c_syntax.specs.Shape.{TypeOf, int, pointer, array, structure, nothing, NoteShape, typed, name, unary, Access, dot, arrow, NodeShape, node, leaf, prefix, suffix, index, field}
use Rattle.c_type_rules.specs.Layouts.{Measure, known, incomplete, too_large, measure}
use Rattle.c_type_rules.specs.Verdicts.{element_type}
use Rattle.c_constants.specs.declared.constants.Constant.{Constant}
use Rattle.c_constants.specs.declared.constants.Constant.TheVariants.{No, Faulty, Known, Variable, Part, Address, Literal}
use Rattle.c_constants.specs.Constants as constants
use Rattle.c_store.specs.declared.value.Value.TheVariants.{At}
use Rattle.c_store.specs.declared.value.Pointer.{Pointer}
use Rattle.c_tables.specs.Tables.{VariableShape, TablesShape}
use Rattle.c_tables.specs.Rows.{row, fields_in}
use Rattle.c_tree.specs.declared.meaning.Entity.{Entity}
use Rattle.c_tree.specs.declared.meaning.Entity.TheVariants as entity
use Rattle.c_tree.specs.State.{State, is_set, field_type, fields_of}
use Rattle.c_tree.specs.Rulings.{by, then_rule, kind_at, of_kind, by_room, object, element_constant}
use Rattle.c_tree.specs.Sorts.{note_of}
use Rattle.c_tree.specs.Operators.{named_variable, named_parameter, named_entity, holder, found_field, field_rule, field_constant}
use Rattle.c_walk.specs.Places.{has_array}
use Rattle.c_meaning.specs.State.{Bound, found_in}
use Rattle.c_meaning.specs.Layout.{part_in}
use Rattle.c_meaning.specs.Constants.{constant, element_in, field_in, variable_in, place_in, integer_in, value_in}
use Rattle.probe_laws.proofs.Settled.{IsThere}
use Rattle.flow_initial.specs.Lengths.{IsFilled}
use Rattle.flow_initial.proofs.Cores.{core}
use Rattle.flow_values.specs.Bodies.{Good, Reaches}
use Rattle.flow_values.specs.Made.{HasRoom}
use Rattle.flow_values.proofs.Integers.{IsInteger, IsSame, note_in}
use Rattle.flow_values.proofs.Noted.{HasType}
use Rattle.flow_values.proofs.Standing.{Stands, object_stands, element_stands, field_stands}

module _ (t : TablesShape) (b : List Bound) where
  abbrev pub Has : NodeShape → Type 0
  Has a = is_some (value_in t b a) ≡ true

  -- of a node of that type
  abbrev pub ToldOf : TypeOf → Constant → NodeShape → Type 0
  ToldOf k No a = Unit {0}
  ToldOf k (Faulty j) a = Unit {0}
  ToldOf k (Known j v) a = Has a
  ToldOf k Address a = Has a
  ToldOf k Literal a = Has a
  ToldOf k Part a = Stands t k (place_in t b a)
  ToldOf k Variable a = Stands t k (place_in t b a) × (constants.is_array k ≡ true → Has a)

  abbrev pub Told : Option TypeOf → Constant → NodeShape → Type 0
  Told None c a = Unit {0}
  Told (Some k) c a = ToldOf k c a

  -- ---- integers

  integer_of : (k : TypeOf) (c : Constant) (a : NodeShape) → IsInteger c → value_in t b a ≡ integer_in (constant a) → IsSame a c → ToldOf k c a
  integer_of k No a is e same = tt
  integer_of k (Faulty j) a is e same = tt
  integer_of k (Known j v) a is e same = ap (λ o. is_some o) (e ∙ ap integer_in same)
  integer_of k Variable a is e same = cc
  integer_of k Part a is e same = cc
  integer_of k Address a is e same = cc
  integer_of k Literal a is e same = cc

  pub integer_told : (k : Option TypeOf) (c : Constant) (a : NodeShape) → IsInteger c → value_in t b a ≡ integer_in (constant a) → IsSame a c → Told k c a
  integer_told None c a is e same = tt
  integer_told (Some k) c a is e same = integer_of k c a is e same

  pub none_told : (k : Option TypeOf) (a : NodeShape) → Told k No a
  none_told None a = tt
  none_told (Some k) a = tt

  -- ---- places

  place_stands : (k : TypeOf) (c : Constant) (a : NodeShape) → constants.is_place c ≡ true → ToldOf k c a → Stands t k (place_in t b a)
  place_stands k Variable a e h = h.0
  place_stands k Part a e h = h
  place_stands k No a e h = cc
  place_stands k (Faulty j) a e h = cc
  place_stands k (Known j v) a e h = cc
  place_stands k Address a e h = cc
  place_stands k Literal a e h = cc

  part_if : (k : TypeOf) (is : Bool) (a : NodeShape) → (is ≡ true → Stands t k (place_in t b a)) → ToldOf k (if is then Part else No) a
  part_if k true a f = f refl
  part_if k false a f = tt

  address_has : (k : TypeOf) (p o : Pos) (n : NoteShape) (a : NodeShape) → Stands t k (place_in t b a) → Has (node p o n (prefix (unary front.AddressOf) a))
  address_has k p o n a h = ap (λ q. is_some (option_map At q)) h.is

  address_of : (k : Option TypeOf) (j : TypeOf) (c : Constant) (p o : Pos) (n : NoteShape) (a : NodeShape) → ToldOf j c a → Told k (constants.address c) (node p o n (prefix (unary front.AddressOf) a))
  address_of None j c p o n a h = tt
  address_of (Some k) j Variable p o n a h = address_has j p o n a h.0
  address_of (Some k) j Part p o n a h = address_has j p o n a h
  address_of (Some k) j No p o n a h = tt
  address_of (Some k) j (Faulty i) p o n a h = tt
  address_of (Some k) j (Known i v) p o n a h = tt
  address_of (Some k) j Address p o n a h = tt
  address_of (Some k) j Literal p o n a h = tt

  pub address_told : (k j : Option TypeOf) (c : Constant) (p o : Pos) (n : NoteShape) (a : NodeShape) → IsThere j → Told j c a → Told k (constants.address c) (node p o n (prefix (unary front.AddressOf) a))
  address_told k None c p o n a is h = absurd is
  address_told k (Some j) c p o n a is h = address_of k j c p o n a h

  -- ---- variables

  -- it stands for an instance, and has room
  abbrev pub IsMade : ℕ → TypeOf → Type 0
  IsMade n k = (is_some (found_in n b) ≡ true) × HasRoom t k

  zero_below : (n : ℕ) → 1 ≤ n → constants.is_index n (Some (pos 0)) ≡ true
  zero_below n h = grind (arith, nat_tests)

  named_has : (p o : Pos) (x : Text) (k : TypeOf) (n : ℕ) → IsFilled k → Stands t k (variable_in t b (typed k (Some n))) → constants.is_array k ≡ true → Has (node p o (typed k (Some n)) (leaf (name x)))
  named_has p o x (array k m) n f h e =
      ap (λ q. is_some (option_map At q)) (element_stands t k m (Known AnInt (pos 0)) (variable_in t b (typed (array k m) (Some n))) h (zero_below m f.0)).is
  named_has p o x (int k) n f h e = cc
  named_has p o x (pointer k) n f h e = cc
  named_has p o x (structure m) n f h e = cc
  named_has p o x nothing n f h e = cc

  owned_told : (p o : Pos) (x : Text) (n : ℕ) (v : VariableShape) (is : Bool) → nat_eq v.function 0 ≡ is → IsFilled v.kind → (v.function ≡ 0 → IsMade n v.kind)
      → ToldOf v.kind (if is then Variable else No) (node p o (typed v.kind (Some n)) (leaf (name x)))
  owned_told p o x n v true e f made = let m = made (grind (arith, nat_tests)) in let h = object_stands t v.kind (found_in n b) m.0 m.1 in (h, named_has p o x v.kind n f h)
  owned_told p o x n v false e f made = tt

  variable_told : (p o : Pos) (x : Text) (n : ℕ) (v : Option VariableShape) (s : State) → ((y : VariableShape) → v ≡ Some y → IsFilled y.kind × (y.function ≡ 0 → IsMade n y.kind))
      → (let y = (named_variable p n v s).typing in Told y.sort.kind y.sort.constant (node p o (note_in y) (leaf (name x))))
  variable_told p o x n None s f = tt
  variable_told p o x n (Some v) s f = let h = f v refl in owned_told p o x n v (nat_eq v.function 0) refl h.0 h.1

  parameter_told : (p o : Pos) (x : Text) (k : Option TypeOf) (s : State) → (let y = (named_parameter p k s).typing in Told y.sort.kind y.sort.constant (node p o (note_in y) (leaf (name x))))
  parameter_told p o x None s = tt
  parameter_told p o x (Some k) s = tt

  pub entity_told : (p o : Pos) (x : Text) (e : Option Entity) (s : State) → ((n : ℕ) (v : VariableShape) → row s.tables.variables n ≡ Some v → IsFilled v.kind × (v.function ≡ 0 → IsMade n v.kind))
      → (let y = (named_entity p e s).typing in Told y.sort.kind y.sort.constant (node p o (note_in y) (leaf (name x))))
  entity_told p o x (Some (entity.Variable n)) s f = variable_told p o x n (row s.tables.variables n) s (f n)
  entity_told p o x (Some (entity.Parameter n)) s f = parameter_told p o x (row s.params n) s
  entity_told p o x (Some (entity.Constant v)) s f = refl
  entity_told p o x (Some entity.Unknown) s f = tt
  entity_told p o x (Some (entity.Function n)) s f = tt
  entity_told p o x (Some (entity.Builtin y)) s f = tt
  entity_told p o x None s f = tt

  -- ---- elements

  chosen : (k : TypeOf) (is c : Bool) (q r : Option Pointer) → is ≡ c → Stands t k (if c then q else r) → Stands t k (if is then q else r)
  chosen k is c q r e h = subst (λ d. Stands t k (if d then q else r)) (sym e) h

  first_element : (k : TypeOf) (m : ℕ) (p o : Pos) (n : NoteShape) (a c : NodeShape) (y : Constant) → HasType (array k m) a → IsSame c y → Stands t (array k m) (place_in t b a) → constants.is_index m (constants.value y) ≡ true
      → Stands t k (place_in t b (node p o n (suffix a (index c))))
  first_element k m p o n a c y g same h e =
      chosen k (has_array a) true _ _ g.array (subst (λ z. Stands t k (element_in t z (constant c) (place_in t b a))) (sym g.type)
      (subst (λ z. Stands t k (element_in t (array k m) z (place_in t b a))) (sym same) (element_stands t k m y (place_in t b a) h e)))

  other_element : (j k : TypeOf) (m : ℕ) (p o : Pos) (n : NoteShape) (a c : NodeShape) (x : Constant) → constants.is_array j ≡ false → HasType j a → HasType (array k m) c → IsSame a x → Stands t (array k m) (place_in t b c)
      → constants.is_index m (constants.value x) ≡ true → Stands t k (place_in t b (node p o n (suffix a (index c))))
  other_element j k m p o n a c x none f g same h e =
      chosen k (has_array a) false _ _ (f.array ∙ none) (subst (λ z. Stands t k (element_in t z (constant a) (place_in t b c))) (sym g.type)
      (subst (λ z. Stands t k (element_in t (array k m) z (place_in t b c))) (sym same) (element_stands t k m x (place_in t b c) h e)))

  by_room_same : (m : Measure) (k : TypeOf) → IsThere (kind_at (by_room m k)) → kind_at (by_room m k) ≡ Some k
  by_room_same (known e) k h = refl
  by_room_same incomplete k h = absurd h
  by_room_same too_large k h = absurd h

  object_same : (rooms : List Measure) (k : TypeOf) → IsThere (kind_at (object rooms k)) → kind_at (object rooms k) ≡ Some k
  object_same rooms nothing h = refl
  object_same rooms (int j) h = by_room_same (measure rooms (int j)) (int j) h
  object_same rooms (pointer k) h = by_room_same (measure rooms (pointer k)) (pointer k) h
  object_same rooms (array k n) h = by_room_same (measure rooms (array k n)) (array k n) h
  object_same rooms (structure n) h = by_room_same (measure rooms (structure n)) (structure n) h

  both_hold : (x y : Bool) → (x && y || false) ≡ true → (x ≡ true) × (y ≡ true)
  both_hold true true e = (refl, refl)
  both_hold true false e = cc
  both_hold false y e = cc

  other_holds : (x y : Bool) → (false || x && y) ≡ true → (x ≡ true) × (y ≡ true)
  other_holds true true e = (refl, refl)
  other_holds true false e = cc
  other_holds false y e = cc

  -- of a type that the ruling allows
  settled_told : (r : Option TypeOf) (k : TypeOf) (c : Constant) (a : Option TypeOf → NodeShape) → r ≡ Some k → ToldOf k c (a (Some k)) → Told r c (a r)
  settled_told r k c a e h = subst (λ z. Told z c (a z)) (sym e) h

  -- the two operands of an index
  pub index_told : (rooms : List Measure) (x y : Option TypeOf) (d e : Constant) (p o : Pos) (a c : NodeShape) → ((k : TypeOf) → x ≡ Some k → HasType k a) → ((k : TypeOf) → y ≡ Some k → HasType k c) → IsSame a d → IsSame c e
      → Told x d a → Told y e c → IsThere (kind_at (then_rule (by 33 (element_type x y)) (object rooms)))
      → (let k = kind_at (then_rule (by 33 (element_type x y)) (object rooms)) in Told k (element_constant x d y e) (node p o (note_of k (element_constant x d y e) None false) (suffix a (index c))))
  index_told rooms None y d e p o a c f g same other h i is = absurd is
  index_told rooms (Some x) None d e p o a c f g same other h i is = absurd is
  index_told rooms (Some (array k m)) (Some (int j)) d e p o a c f g same other h i is =
      let B = constants.reaches (array k m) d e || false in
      let z = if B then Part else No in
      settled_told (kind_at (object rooms k)) k z (λ r. node p o (note_of r z None false) (suffix a (index c))) (object_same rooms k is)
      (part_if k B (node p o (note_of (Some k) z None false) (suffix a (index c)))
      (λ both. let q = both_hold (constants.is_place d) (constants.is_index m (constants.value e)) both in
      first_element k m p o (note_of (Some k) z None false) a c e (f (array k m) refl) other (place_stands (array k m) d a q.0 h) q.1))
  index_told rooms (Some (int j)) (Some (array k m)) d e p o a c f g same other h i is =
      let B = false || constants.reaches (array k m) e d in
      let z = if B then Part else No in
      settled_told (kind_at (object rooms k)) k z (λ r. node p o (note_of r z None false) (suffix a (index c))) (object_same rooms k is)
      (part_if k B (node p o (note_of (Some k) z None false) (suffix a (index c)))
      (λ both. let q = other_holds (constants.is_place e) (constants.is_index m (constants.value d)) both in
      other_element (int j) k m p o (note_of (Some k) z None false) a c d refl (f (int j) refl) (g (array k m) refl) same (place_stands (array k m) e c q.0 i) q.1))
  index_told rooms (Some (pointer k)) (Some (int j)) d e p o a c f g same other h i is = none_told (kind_at (object rooms k)) _
  index_told rooms (Some (int j)) (Some (pointer k)) d e p o a c f g same other h i is = none_told (kind_at (object rooms k)) _
  index_told rooms (Some x) (Some y) d e p o a c f g same other h i is = absurd is

  -- ---- fields

  found_told : (o : Option TypeOf) (is : Bool) (a : NodeShape) → (is ≡ true → (k : TypeOf) → o ≡ Some k → Stands t k (place_in t b a)) → Told (kind_at (found_field o)) (if is then Part else No) a
  found_told None is a f = tt
  found_told (Some k) is a f = part_if k is a (λ e. f e k refl)

  same_field : (s : State) (n : ℕ) (x : Text) (k : TypeOf) (is : Bool) → is_set (row s.begun n) ≡ is → Good (core s) → Reaches t (core s) → field_type x (fields_of n s) ≡ Some k → field_type x (fields_in (row t.structures n)) ≡ Some k
  same_field s n x k true e g reach f = ap (field_type x) (reach.fields n e) ∙ f
  same_field s n x k false e g reach f = let none = sym (ap (field_type x) (g.0.bare n e)) ∙ f in cc

  -- the structure before a point
  pub field_told : (g : Access) (rooms : List Measure) (y : Option TypeOf) (c : Constant) (x : Text) (q p o : Pos) (s : State) (a : NodeShape) → Good (core s) → Reaches t (core s) → ((k : TypeOf) → y ≡ Some k → HasType k a) → Told y c a
      → (let k = kind_at (of_kind (kind_at (holder g rooms y)) (field_rule x s)) in Told k (field_constant g c) (node p o (note_of k (field_constant g c) None false) (suffix a (field g x q))))
  field_told arrow rooms y c x q p o s a good reach f h = none_told (kind_at (of_kind (kind_at (holder arrow rooms y)) (field_rule x s))) _
  field_told dot rooms None c x q p o s a good reach f h = tt
  field_told dot rooms (Some (structure n)) c x q p o s a good reach f h =
      found_told (field_type x (fields_of n s)) (constants.is_place c) _ (λ e k is.
      subst (λ z. Stands t k (field_in t (part_in t x z) (place_in t b a))) (sym (f (structure n) refl).type)
      (field_stands t n x k (place_in t b a) (same_field s n x k (is_set (row s.begun n)) refl good reach is) (place_stands (structure n) c a e h)))
  field_told dot rooms (Some y) c x q p o s a good reach f h = tt
