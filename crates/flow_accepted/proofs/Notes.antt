-- The types that typing notes at places are those of the rows of that time, and of the rows at the end.
use Rattle.std.proofs.Common.{◌≡◌, ℕ, zero, suc, ◌+◌, ◌-◌, List, [], ◌∷◌, ◌++◌, Bool, true, false, Option, Some, None, refl, sym, ap, ◌∙◌, subst}
use Rattle.std.specs.Prelude.{slice_get, nat_eq, bytes_eq, option_map, if◌then◌else◌}
use Rattle.c_base.specs.declared.place.Pos.{Pos}
use Rattle.c_syntax.specs.declared.text.Text.{Text}
use Rattle.c_syntax.specs.Shape.{TypeOf, int, pointer, array, structure, nothing, NoteShape, bare, typed, known, NodeShape, node}
use Rattle.c_type_rules.specs.Kinds.{decay}
use Rattle.c_type_rules.specs.Layouts.{Measure, known as measured, incomplete, too_large, measure}
use Rattle.c_type_rules.specs.Verdicts.{on, sum_type, target_of, element_type, structure_type}
use Rattle.c_constants.specs.declared.constants.Constant.{Constant}
use Rattle.c_constants.specs.declared.constants.Constant.TheVariants as constant
use Rattle.c_tables.specs.Tables.{FieldShape, VariableShape, TablesShape}
use Rattle.c_tables.specs.Rows.{row, fields_in}
use Rattle.c_tree.specs.declared.meaning.Entity.{Entity}
use Rattle.c_tree.specs.declared.meaning.Entity.TheVariants as entity
use Rattle.c_tree.specs.State.{State, is_set, fields_of, field_type}
use Rattle.c_tree.specs.Rulings.{Ruled, by, then_rule, kind_at, of_kind, by_room, object}
use Rattle.c_tree.specs.Sorts.{Sort, Typing, value_note, note_of, cleared}
use Rattle.c_tree.specs.Operators.{named_variable, named_parameter, named_entity, field_rule, found_field}
use Rattle.c_tree.specs.Typing.{type_node}
use Rattle.c_walk.specs.Places.{has_array}
use Rattle.c_meaning.specs.Layout.{Part, cells, part_from, kind_in}
use Rattle.flow_initial.proofs.Cores.{core}
use Rattle.flow_values.specs.Bodies.{Good, Reaches}
use Rattle.flow_leaves.specs.Kinded.{noted_kind, kind_of, element_in, field_in, IsTyped, IsVariable}

-- ---- notes

value_noted : (k : TypeOf) (c : Constant) → noted_kind (value_note k c) ≡ Some k
value_noted k constant.No = refl
value_noted k (constant.Faulty j) = refl
value_noted k (constant.Known j v) = refl
value_noted k constant.Variable = refl
value_noted k constant.Part = refl
value_noted k constant.Address = refl
value_noted k constant.Literal = refl

noted : (k : Option TypeOf) (c : Constant) (n : Option ℕ) (v : Bool) → noted_kind (note_of k c n v) ≡ k
noted None c n v = refl
noted (Some k) c n true = value_noted k c
noted (Some k) c n false = refl

-- a node's note has the type of its sort
pub sort_noted : (a : NodeShape) (s : State) → kind_of (type_node a s).node ≡ (type_node a s).sort.kind
sort_noted (node p o n f) s = noted _ _ _ _

note_typed : (k : Option TypeOf) (c : Constant) (o : Option TypeOf) → ((y : TypeOf) → k ≡ Some y → o ≡ Some y) → IsTyped (note_of k c None false) o
note_typed None c o f = tt
note_typed (Some y) c o f = f y refl

-- where it has a type at all
pub typed_if : (b : Bool) (a : Sort) (c : Constant) (o : Option TypeOf) → ((y : TypeOf) → a.kind ≡ Some y → o ≡ Some y) → IsTyped (note_of (cleared b a).kind c None false) o
typed_if true a c o f = note_typed a.kind c o f
typed_if false a c o f = tt

pub itself : (n : NoteShape) → IsTyped n (noted_kind n)
itself bare = tt
itself (typed k m) = refl
itself (known k v) = refl

pub either_typed : (n : NoteShape) (x y : Bool) (o p : Option TypeOf) → (x ≡ true → IsTyped n o) → (y ≡ true → IsTyped n p) → IsTyped n (if x then o else if y then p else noted_kind n)
either_typed n true y o p f g = f refl
either_typed n false true o p f g = g refl
either_typed n false false o p f g = itself n

-- ---- names

slice_front : {A : Type 0} (xs ys : List A) (i : ℕ) (x : A) → slice_get xs i ≡ Some x → slice_get (xs ++ ys) i ≡ Some x
slice_front [] ys i x e = cc
slice_front (z ∷ xs) ys zero x e = e
slice_front (z ∷ xs) ys (suc i) x e = slice_front xs ys i x e

unless : {A : Type 0} (b : Bool) (o p : Option A) (x : A) → (o ≡ Some x → p ≡ Some x) → (if b then None else o) ≡ Some x → (if b then None else p) ≡ Some x
unless true o p x f e = e
unless false o p x f e = f e

row_front : {A : Type 0} (xs ys : List A) (n : ℕ) (x : A) → row xs n ≡ Some x → row (xs ++ ys) n ≡ Some x
row_front xs ys n x e = unless (nat_eq n 0) _ _ x (slice_front xs ys (n - 1) x) e

module _ (t : TablesShape) where
  abbrev pub note_there : Bool → Typing → Type 0
  note_there b y = IsVariable t (note_of (cleared b y.sort).kind y.sort.constant y.names y.valued)

  nameless : (k : Option TypeOf) (c : Constant) (v : Bool) → IsVariable t (note_of k c None v)
  nameless None c v = tt
  nameless (Some k) c false = tt
  nameless (Some k) constant.No true = tt
  nameless (Some k) (constant.Faulty j) true = tt
  nameless (Some k) (constant.Known j v) true = tt
  nameless (Some k) constant.Variable true = tt
  nameless (Some k) constant.Part true = tt
  nameless (Some k) constant.Address true = tt
  nameless (Some k) constant.Literal true = tt

  names_none : (b : Bool) (y : Typing) → y.names ≡ None → note_there b y
  names_none b y e = subst (λ (n : Option ℕ). IsVariable t (note_of (cleared b y.sort).kind y.sort.constant n y.valued)) (sym e) (nameless (cleared b y.sort).kind y.sort.constant y.valued)

  variable_there : (b : Bool) (p : Pos) (n : ℕ) (o : Option VariableShape) (s : State) → row s.tables.variables n ≡ o → Reaches t (core s) → note_there b (named_variable p n o s).typing
  variable_there b p n None s e reach = names_none b (named_variable p n None s).typing refl
  variable_there true p n (Some v) s e reach = ap kind_in (ap (λ (vs : List VariableShape). row vs n) reach.added ∙ row_front s.tables.variables reach.more n v e)
  variable_there false p n (Some v) s e reach = tt

  parameter_there : (b : Bool) (p : Pos) (o : Option TypeOf) (s : State) → note_there b (named_parameter p o s).typing
  parameter_there b p None s = names_none b (named_parameter p None s).typing refl
  parameter_there b p (Some k) s = names_none b (named_parameter p (Some k) s).typing refl

  -- a name that stands for a variable has the type of its row
  pub name_there : (b : Bool) (p : Pos) (e : Option Entity) (s : State) → Reaches t (core s) → note_there b (named_entity p e s).typing
  name_there b p (Some (entity.Variable n)) s reach = variable_there b p n (row s.tables.variables n) s refl reach
  name_there b p (Some (entity.Parameter n)) s reach = parameter_there b p (row s.params n) s
  name_there b p (Some (entity.Constant v)) s reach = names_none b (named_entity p (Some (entity.Constant v)) s).typing refl
  name_there b p (Some entity.Unknown) s reach = names_none b (named_entity p (Some entity.Unknown) s).typing refl
  name_there b p (Some (entity.Function n)) s reach = names_none b (named_entity p (Some (entity.Function n)) s).typing refl
  name_there b p (Some (entity.Builtin x)) s reach = names_none b (named_entity p (Some (entity.Builtin x)) s).typing refl
  name_there b p None s reach = names_none b (named_entity p None s).typing refl

-- ---- elements

room_kind : (m : Measure) (k y : TypeOf) → kind_at (by_room m k) ≡ Some y → k ≡ y
room_kind (measured e) k y h = cc
room_kind incomplete k y h = cc
room_kind too_large k y h = cc

object_kind : (rooms : List Measure) (k y : TypeOf) → kind_at (object rooms k) ≡ Some y → Some k ≡ Some y
object_kind rooms nothing y h = h
object_kind rooms (int j) y h = ap Some (room_kind (measure rooms (int j)) (int j) y h)
object_kind rooms (pointer j) y h = ap Some (room_kind (measure rooms (pointer j)) (pointer j) y h)
object_kind rooms (array j n) y h = ap Some (room_kind (measure rooms (array j n)) (array j n) y h)
object_kind rooms (structure n) y h = ap Some (room_kind (measure rooms (structure n)) (structure n) y h)

abbrev Element : List Measure → TypeOf → TypeOf → Ruled
Element rooms a b = then_rule (by 33 (on (sum_type a b) target_of)) (object rooms)

behind_pointer : (rooms : List Measure) (k b y : TypeOf) → kind_at (Element rooms (pointer k) b) ≡ Some y → Some k ≡ Some y
behind_pointer rooms k (int j) y h = object_kind rooms k y h
behind_pointer rooms k (pointer j) y h = cc
behind_pointer rooms k (array j n) y h = cc
behind_pointer rooms k (structure n) y h = cc
behind_pointer rooms k nothing y h = cc

before_pointer : (rooms : List Measure) (a k y : TypeOf) → kind_at (Element rooms a (pointer k)) ≡ Some y → Some k ≡ Some y
before_pointer rooms (int j) k y h = object_kind rooms k y h
before_pointer rooms (pointer j) k y h = cc
before_pointer rooms (array j n) k y h = cc
before_pointer rooms (structure n) k y h = cc
before_pointer rooms nothing k y h = cc

pub array_kind : (a : NodeShape) → has_array a ≡ true → (k : TypeOf) × (n : ℕ) × (kind_of a ≡ Some (array k n))
array_kind (node p o (typed (array k m) n) f) e = (k, m, refl)
array_kind (node p o (typed (int j) n) f) e = cc
array_kind (node p o (typed (pointer j) n) f) e = cc
array_kind (node p o (typed (structure m) n) f) e = cc
array_kind (node p o (typed nothing n) f) e = cc
array_kind (node p o bare f) e = cc
array_kind (node p o (known k v) f) e = cc

first_of : (rooms : List Measure) (k : TypeOf) (n : ℕ) (b : Option TypeOf) (y : TypeOf) → kind_at (then_rule (by 33 (element_type (Some (array k n)) b)) (object rooms)) ≡ Some y → Some k ≡ Some y
first_of rooms k n None y h = cc
first_of rooms k n (Some b) y h = behind_pointer rooms k (decay b) y h

second_of : (rooms : List Measure) (a : Option TypeOf) (k : TypeOf) (n : ℕ) (y : TypeOf) → kind_at (then_rule (by 33 (element_type a (Some (array k n)))) (object rooms)) ≡ Some y → Some k ≡ Some y
second_of rooms None k n y h = cc
second_of rooms (Some a) k n y h = before_pointer rooms (decay a) k y h

-- of the left or the right operand
pub left_element : (rooms : List Measure) (a : NodeShape) (x b : Option TypeOf) (y : TypeOf) → kind_of a ≡ x → has_array a ≡ true → kind_at (then_rule (by 33 (element_type x b)) (object rooms)) ≡ Some y → element_in (kind_of a) ≡ Some y
left_element rooms a x b y e is h =
    let g = array_kind a is in
    ap element_in g.2 ∙ first_of rooms g.0 g.1 b y (subst (λ z. kind_at (then_rule (by 33 (element_type z b)) (object rooms)) ≡ Some y) (sym e ∙ g.2) h)

pub right_element : (rooms : List Measure) (a : Option TypeOf) (b : NodeShape) (x : Option TypeOf) (y : TypeOf) → kind_of b ≡ x → has_array b ≡ true → kind_at (then_rule (by 33 (element_type a x)) (object rooms)) ≡ Some y → element_in (kind_of b) ≡ Some y
right_element rooms a b x y e is h =
    let g = array_kind b is in
    ap element_in g.2 ∙ second_of rooms a g.0 g.1 y (subst (λ z. kind_at (then_rule (by 33 (element_type a z)) (object rooms)) ≡ Some y) (sym e ∙ g.2) h)

-- ---- fields

part_or : (b : Bool) (offset : ℕ) (k : TypeOf) (r : Option Part) (q : Option TypeOf) → option_map (λ (p : Part). p.kind) r ≡ q
    → option_map (λ (p : Part). p.kind) (if b then Some (record { offset = offset; kind = k }) else r) ≡ (if b then Some k else q)
part_or true offset k r q e = refl
part_or false offset k r q e = e

-- a field is found by its name alike
part_kind : (t : TablesShape) (offset : ℕ) (x : Text) (fields : List FieldShape) → option_map (λ (p : Part). p.kind) (part_from t offset x fields) ≡ field_type x fields
part_kind t offset x [] = refl
part_kind t offset x (f ∷ fields) = part_or (bytes_eq x f.name) offset f.kind _ _ (part_kind t (offset + cells t f.kind) x fields)

found_kind : (o : Option TypeOf) (y : TypeOf) → kind_at (found_field o) ≡ Some y → o ≡ Some y
found_kind None y h = cc
found_kind (Some k) y h = h

fields_there : (t : TablesShape) (x : Text) (s : State) (n : ℕ) (y : TypeOf) (b : Bool) → is_set (row s.begun n) ≡ b → Good (core s) → Reaches t (core s) → field_type x (fields_of n s) ≡ Some y → field_type x (fields_in (row t.structures n)) ≡ Some y
fields_there t x s n y true e good reach h = ap (field_type x) (reach.fields n e) ∙ h
fields_there t x s n y false e good reach h = let none : fields_of n s ≡ [] = good.0.bare n e in let gone : field_type x (fields_of n s) ≡ None = ap (field_type x) none in cc

field_found : (t : TablesShape) (x : Text) (s : State) (k : Option TypeOf) (y : TypeOf) → Good (core s) → Reaches t (core s) → kind_at (of_kind (kind_at (by 33 (structure_type k))) (field_rule x s)) ≡ Some y → field_in t x k ≡ Some y
field_found t x s None y good reach h = cc
field_found t x s (Some (int j)) y good reach h = cc
field_found t x s (Some (pointer j)) y good reach h = cc
field_found t x s (Some (array j n)) y good reach h = cc
field_found t x s (Some nothing) y good reach h = cc
field_found t x s (Some (structure n)) y good reach h =
    part_kind t 0 x (fields_in (row t.structures n)) ∙ fields_there t x s n y (is_set (row s.begun n)) refl good reach (found_kind (field_type x (fields_of n s)) y h)

-- of the structure before a point
pub field_there : (t : TablesShape) (x : Text) (s : State) (a : NodeShape) (k : Option TypeOf) (y : TypeOf) → kind_of a ≡ k → Good (core s) → Reaches t (core s) → kind_at (of_kind (kind_at (by 33 (structure_type k))) (field_rule x s)) ≡ Some y
    → field_in t x (kind_of a) ≡ Some y
field_there t x s a k y e good reach h = ap (field_in t x) e ∙ field_found t x s k y good reach h
