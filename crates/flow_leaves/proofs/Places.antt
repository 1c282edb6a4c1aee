-- A direct place is at the part of its variable that it is called by.
use Rattle.std.proofs.Common.{◌≡◌, ◌∙◌, ℕ, ◌+◌, ◌*◌, ◌<◌, ◌++◌, [], ap, refl, sym, subst, arith, Option, Some, None, Ok, Bool, true, false}
use Rattle.std.specs.Prelude.{nat_le, option_map, if◌then◌else◌}
use Rattle.c_base.specs.declared.place.Pos.{Pos}
use Rattle.c_syntax.specs.declared.text.Text.{Text}
use Rattle.c_syntax.specs.Shape.{TypeOf, int, pointer, array, structure, nothing, NoteShape, bare, typed, known, number, char, str, name, dot, arrow, NodeShape, node, ExprShape, leaf, paren, call, prefix, size_of_type, cast, suffix, two, choose, probe, index, field, behind}
use Rattle.c_type_rules.specs.Kinds.{decay}
use Rattle.c_store.specs.declared.value.Value.{Value}
use Rattle.c_store.specs.declared.value.Value.TheVariants.{At}
use Rattle.c_store.specs.declared.value.Pointer.{Pointer}
use Rattle.c_store.specs.Cells.{cell_of}
use Rattle.c_tables.specs.Tables.{TablesShape}
use Rattle.c_walk.specs.declared.around.Taken.{Taken}
use Rattle.c_walk.specs.declared.around.Taken.TheVariants.{Read}
use Rattle.c_walk.specs.Items.{Direct}
use Rattle.c_walk.specs.Places.{has_array, direct, direct_form, with_part, element_text, field_text}
use Rattle.c_meaning.specs.State.{State, instance_of}
use Rattle.c_meaning.specs.Results.{Got, Gives, then_do, turn, untyped, settled, present, needed}
use Rattle.c_meaning.specs.Operators.{element_pointer, target}
use Rattle.c_meaning.specs.Layout.{Part, cells, part_in, variable_kind}
use Rattle.c_meaning.specs.Firsts.{First}
use Rattle.c_meaning.specs.Places.{room, whole, object_at, variable_place, selected_place, part_place, field_place, fetched}
use Rattle.c_meaning.specs.Constants.{type_at}
use Rattle.c_meaning.specs.Knot.{Knot}
use Rattle.c_meaning.specs.Expressions.{Meaning, as_place, operand, meaning, form_meaning}
use Rattle.flow_leaves.specs.Kinded.{noted_kind, kind_of, element_in, field_in, IsTyped, HasKind, IsKinded, HasKindedParts}
use Rattle.flow_leaves.specs.Parts.{IsPart, itself, element, member}
use Rattle.flow_leaves.specs.Standing.{root_of, form_root, StandsAt, BeginsAt}
use Rattle.flow_leaves.specs.DirectPlaces.{DirectPlacesStand, DirectArraysBegin}
use Rattle.flow_leaves.proofs.Layers.{some_same}
use Rattle.flow_names.specs.Keeping.{HasSameNames}
use Rattle.flow_names.proofs.Names.{keeping}
use Rattle.flow_names.proofs.Steps.{names_follow}
use Rattle.flow_names.proofs.Nodes.{Keeping, node_steady}
use Rattle.flow_leaves.proofs.Yields.{Yields, Any, still_there, yields, yields_then, yields_turn, yields_if, yields_settled, yields_present, yields_needed, yields_any, known as given}
use Rattle.flow_leaves.proofs.Stepping.{part_at, yields_part, IsAlong, left_along, right_along}

-- ---- types

-- a note with that type
noted_as : (n : NoteShape) (k : TypeOf) (o : Option TypeOf) → noted_kind n ≡ Some k → IsTyped n o → o ≡ Some k
noted_as bare k o e h = cc
noted_as (typed y m) k o e h = h ∙ e
noted_as (known y v) k o e h = h ∙ e

type_known : (a : NodeShape) (k : TypeOf) → kind_of a ≡ Some k → type_at a ≡ k
type_known (node p o bare f) k e = cc
type_known (node p o (typed y m) f) k e = cc
type_known (node p o (known y v) f) k e = cc

-- a value, which is a pointer to the first element
abbrev Begun : TablesShape → Text → Direct → TypeOf → ℕ → Option Value → State → Type 0
Begun t x d y n v u = (q : Pointer) × (v ≡ Some (At q)) × BeginsAt t x d y n u q

-- a direct expression as a place, and as a value where it is an array
record Stands (t : TablesShape) (x : Text) (d : Direct) (o : Option TypeOf) (m : Meaning) : Type 0 where
  place : (r : Taken) (i : First) (s : State) → Yields s (m.place r i s) (λ q u. StandsAt t x d u q)
  value : (y : TypeOf) (n : ℕ) → o ≡ Some (array y n) → (i : First) (s : State) → Yields s (m.value i s) (Begun t x d y n)

module _ (t : TablesShape) where
  -- ---- variables

  at_first : (x : Text) (y : TypeOf) (j n : ℕ) → IsPart t y x (cell_of (whole j n)) y x
  at_first x y j n = let e : 0 ≡ cell_of (whole j n) = omega arith in subst (λ (o : ℕ). IsPart t y x o y x) e itself

  variable_stands : (x : Text) (y : TypeOf) (v : ℕ) → variable_kind t v ≡ Some y → (s : State) → Yields s (turn s (variable_place t y v)) (λ q u. StandsAt t x (record { variable = v; name = x; kind = y }) u q)
  variable_stands x y v e s =
      let d : Direct = record { variable = v; name = x; kind = y } in
      yields_turn s (variable_place t y v) (λ q u. StandsAt t x d u q) (λ u.
      yields_then u (present (instance_of v u) u) (object_at (cells t y)) (λ j u. instance_of v u ≡ Some j) (λ q u. StandsAt t x d u q) (yields_present (instance_of v u) u _ (λ j h. h)) (λ j u n h.
      yields_if (nat_le (cells t y) room) u (Gives (whole j (cells t y)) u) (untyped u) (λ q u. StandsAt t x d u q) (yields u (whole j (cells t y)) (λ q u. StandsAt t x d u q) (record { kind = y; is = e; there = h; size = refl; part = λ lt. at_first x y j (cells t y) })) (record { by = tt })))

  -- ---- elements

  -- the first of an array, where the array stands
  begins : (x : Text) (d : Direct) (y : TypeOf) (n : ℕ) (u : State) (q : Pointer) → StandsAt t x d u q → d.kind ≡ array y n → q.index < q.length → BeginsAt t x d y n u (part_at q 0 n (cells t y))
  begins x d y n u q h e lt = record {
    kind = h.kind;
    is = h.is;
    there = h.there;
    first = refl;
    length = refl;
    size = refl;
    part = let z : cell_of q ≡ cell_of q + 0 = omega arith in subst (λ (o : ℕ). IsPart t h.kind x o (array y n) d.name) z (subst (λ k. IsPart t h.kind x (cell_of q) k d.name) e (h.part lt));
  }

  array_fetched : (x : Text) (d : Direct) (y : TypeOf) (n : ℕ) (m : Option ℕ) (i : First) (q : Pointer) (s : State) → StandsAt t x d s q → d.kind ≡ array y n → Yields s (fetched t (typed (array y n) m) [] i q s) (Begun t x d y n)
  array_fetched x d y n m i q s h e =
      yields_then s (selected_place q 0 n (cells t y) s) (λ q s. Gives (Some (At q)) s) (λ p u. BeginsAt t x d y n u p) (Begun t x d y n)
      (yields_part q 0 n (cells t y) s (λ p u. BeginsAt t x d y n u p) (λ lt. begins x d y n s q h e lt))
      (λ p u c g. yields u (Some (At p)) (Begun t x d y n) (p, refl, g))

  -- a further element, or one past the last
  element_stands : (x : Text) (d : Direct) (y : TypeOf) (n i : ℕ) (u : State) (q : Pointer) → BeginsAt t x d y n u q → StandsAt t x (record { variable = d.variable; name = d.name ++ element_text; kind = y }) u (record q { index = i })
  element_stands x d y n i u q h = record {
    kind = h.kind;
    is = h.is;
    there = h.there;
    size = h.size;
    part = λ lt. let e : q.base + i * cells t y ≡ q.base + i * q.size = ap (λ (c : ℕ). q.base + i * c) (sym h.size) in
        subst (λ (o : ℕ). IsPart t h.kind x o y (d.name ++ element_text)) e (element q.base n i y d.name h.part (subst (λ (m : ℕ). i < m) h.length lt));
  }

  pointed_stands : (x : Text) (d : Direct) (y : TypeOf) (n : ℕ) (u : State) (q : Pointer) (v : Value) → BeginsAt t x d y n u q → IsAlong q v → Yields u (settled (target v) u) (λ q u. StandsAt t x (record { variable = d.variable; name = d.name ++ element_text; kind = y }) u q)
  pointed_stands x d y n u q v h (i, e) =
      let Q : Pointer → State → Type 0 = λ q u. StandsAt t x (record { variable = d.variable; name = d.name ++ element_text; kind = y }) u q in
      subst (λ w. Yields u (settled (target w) u) Q) (sym e) (yields u (record q { index = i }) Q (element_stands x d y n i u q h))

  begun_there : (x : Text) (d : Direct) (y : TypeOf) (n : ℕ) (s u : State) (q : Pointer) → HasSameNames s u → BeginsAt t x d y n s q → BeginsAt t x d y n u q
  begun_there x d y n s u q g h = record { kind = h.kind; is = h.is; there = still_there d.variable (Some q.instance) s u g h.there; first = h.first; length = h.length; size = h.size; part = h.part }

  -- ---- fields

  member_stands : (x f : Text) (d : Direct) (m : ℕ) (p : Part) (y : TypeOf) (s : State) (q : Pointer) → StandsAt t x d s q → d.kind ≡ structure m → part_in t f (structure m) ≡ Some p → p.kind ≡ y → q.index < q.length
      → StandsAt t x (record { variable = d.variable; name = d.name ++ field_text f; kind = y }) s (part_at q p.offset 1 (cells t p.kind))
  member_stands x f d m p y s q h e there k lt = record {
    kind = h.kind;
    is = h.is;
    there = h.there;
    size = ap (cells t) k;
    part = λ one.
        let z : cell_of q + p.offset ≡ cell_of (part_at q p.offset 1 (cells t p.kind)) = omega arith in
        let whole : IsPart t h.kind x (cell_of q) (structure m) d.name = subst (λ k. IsPart t h.kind x (cell_of q) k d.name) e (h.part lt) in
        subst (λ k. IsPart t h.kind x (cell_of (part_at q p.offset 1 (cells t p.kind))) k (d.name ++ field_text f)) k (subst (λ (o : ℕ). IsPart t h.kind x o p.kind (d.name ++ field_text f)) z (member (cell_of q) m d.name f p whole there));
  }

  part_stands : (x f : Text) (d : Direct) (m : ℕ) (o : Option Part) (y : TypeOf) (s : State) (q : Pointer) → StandsAt t x d s q → d.kind ≡ structure m → part_in t f (structure m) ≡ o → option_map (λ (p : Part). p.kind) o ≡ Some y
      → Yields s (part_place t o q s) (λ q u. StandsAt t x (record { variable = d.variable; name = d.name ++ field_text f; kind = y }) u q)
  part_stands x f d m None y s q h e there k = record { by = tt }
  part_stands x f d m (Some p) y s q h e there k =
      yields_part q p.offset 1 (cells t p.kind) s (λ q u. StandsAt t x (record { variable = d.variable; name = d.name ++ field_text f; kind = y }) u q) (λ lt. member_stands x f d m p y s q h e there (some_same p.kind y k) lt)

  -- in a structure, which has such a field
  field_stands : (x f : Text) (d : Direct) (k y : TypeOf) (s : State) (q : Pointer) → StandsAt t x d s q → d.kind ≡ k → field_in t f (Some k) ≡ Some y
      → Yields s (field_place t f k q s) (λ q u. StandsAt t x (record { variable = d.variable; name = d.name ++ field_text f; kind = y }) u q)
  field_stands x f d (structure m) y s q h e k = part_stands x f d m (part_in t f (structure m)) y s q h e refl k
  field_stands x f d (int j) y s q h e k = cc
  field_stands x f d (pointer j) y s q h e k = cc
  field_stands x f d (array j n) y s q h e k = cc
  field_stands x f d nothing y s q h e k = cc

-- ---- direct expressions

array_of : (o : Option TypeOf) (y : TypeOf) → element_in o ≡ Some y → (n : ℕ) × (o ≡ Some (array y n))
array_of None y e = cc
array_of (Some (int j)) y e = cc
array_of (Some (pointer j)) y e = cc
array_of (Some (structure n)) y e = cc
array_of (Some nothing) y e = cc
array_of (Some (array k n)) y e = (n, ap (λ z. Some (array z n)) (some_same k y e))

part_of : (x : Text) (n : NoteShape) (o : Option Direct) (d : Direct) → with_part x n o ≡ Some d → (c : Direct) × (y : TypeOf) × (o ≡ Some c) × (noted_kind n ≡ Some y) × (record { variable = c.variable; name = c.name ++ x; kind = y } ≡ d)
part_of x (typed y m) (Some c) d e = (c, y, refl, refl, some_same _ d e)
part_of x (typed y m) None d e = cc
part_of x bare o d e = cc
part_of x (known y v) o d e = cc

module _ (t : TablesShape) where
  holder_of : (x : Text) (o : Option TypeOf) (y : TypeOf) → field_in t x o ≡ Some y → (k : TypeOf) × (o ≡ Some k)
  holder_of x None y e = cc
  holder_of x (Some k) y e = (k, refl)

  -- a direct expression has the type of its note
  mutual
    direct_kind : (a : NodeShape) (d : Direct) (k : TypeOf) → IsKinded t a → direct a ≡ Some d → kind_of a ≡ Some k → d.kind ≡ k
    direct_kind (node p o n f) d k g e h = form_kind n f d k g.0 g.1 e h

    form_kind : (n : NoteShape) (f : ExprShape) (d : Direct) (k : TypeOf) → HasKind t n f → HasKindedParts t f → direct_form n f ≡ Some d → noted_kind n ≡ Some k → d.kind ≡ k
    form_kind (typed y (Some v)) (leaf (name x)) d k g is e h = ap (λ (d : Direct). d.kind) (sym (some_same _ d e)) ∙ some_same y k h
    form_kind (typed y None) (leaf (name x)) d k g is e h = cc
    form_kind bare (leaf (name x)) d k g is e h = cc
    form_kind (known y v) (leaf (name x)) d k g is e h = cc
    form_kind n (paren a) d k g is e h = direct_kind a d k is e (noted_as n k (kind_of a) h g)
    form_kind n (suffix a (field dot x q)) d k g is e h = let s = part_of (field_text x) n (direct a) d e in ap (λ (d : Direct). d.kind) (sym s.4) ∙ some_same s.1 k (sym s.3 ∙ h)
    form_kind n (suffix a (index b)) d k g is e h = let s = part_of element_text n (if has_array a then direct a else if has_array b then direct b else None) d e in ap (λ (d : Direct). d.kind) (sym s.4) ∙ some_same s.1 k (sym s.3 ∙ h)
    form_kind n (suffix a (field arrow x q)) d k g is e h = cc
    form_kind n (suffix a (behind u)) d k g is e h = cc
    form_kind n (leaf (number x)) d k g is e h = cc
    form_kind n (leaf (char x)) d k g is e h = cc
    form_kind n (leaf (str x)) d k g is e h = cc
    form_kind n (call x args) d k g is e h = cc
    form_kind n (prefix u a) d k g is e h = cc
    form_kind n (size_of_type y) d k g is e h = cc
    form_kind n (cast y a) d k g is e h = cc
    form_kind n (two u a b) d k g is e h = cc
    form_kind n (choose a b c) d k g is e h = cc
    form_kind n (probe u a) d k g is e h = cc

  -- ---- places, whose values are fetched

  fetched_stands : (x : Text) (d : Direct) (n : NoteShape) (y : TypeOf) (m : ℕ) (i : First) (q : Pointer) (s : State) → noted_kind n ≡ Some (array y m) → d.kind ≡ array y m → StandsAt t x d s q → Yields s (fetched t n [] i q s) (Begun t x d y m)
  fetched_stands x d bare y m i q s e k h = cc
  fetched_stands x d (known z v) y m i q s e k h = record { by = tt }
  fetched_stands x d (typed z c) y m i q s e k h = subst (λ z. Yields s (fetched t (typed z c) [] i q s) (Begun t x d y m)) (sym (some_same z (array y m) e)) (array_fetched t x d y m c i q s h k)

  place_both : (x : Text) (d : Direct) (n : NoteShape) (at : Taken → First → State → Got Pointer) → ((k : TypeOf) → noted_kind n ≡ Some k → d.kind ≡ k) → ((r : Taken) (i : First) (s : State) → Yields s (at r i s) (λ q u. StandsAt t x d u q)) → Stands t x d (noted_kind n) (as_place t n [] at)
  place_both x d n at kind f = record {
    place = f;
    value = λ y m e i s. yields_then s (at Read i s) (fetched t n [] i) (λ q u. StandsAt t x d u q) (Begun t x d y m) (f Read i s) (λ q u c h. fetched_stands x d n y m i q u e (kind (array y m) e) h);
  }

  -- ---- expressions

  module _ (k : Knot) (keeps : Keeping HasSameNames k) where
    value_any : (a : NodeShape) (i : First) (s : State) → Yields s (needed ((meaning t k a).value i s)) Any
    value_any a i s = yields_needed s _ Any Any (yields_any s _ ((node_steady HasSameNames names_follow t k keeps a).value_steady i s)) (λ v u h. tt)

    -- the value of an array
    abbrev Pointing : Text → Direct → TypeOf → ℕ → Value → State → Type 0
    Pointing x d y n v u = (q : Pointer) × (v ≡ At q) × BeginsAt t x d y n u q

    pointing : (x : Text) (d : Direct) (y : TypeOf) (n : ℕ) (a : NodeShape) → Stands t x d (kind_of a) (meaning t k a) → kind_of a ≡ Some (array y n) → (i : First) (s : State) → Yields s (needed ((meaning t k a).value i s)) (Pointing x d y n)
    pointing x d y n a h e i s = yields_needed s _ (Begun t x d y n) (Pointing x d y n) (h.value y n e i s) (λ v u (q, is, g). (q, some_same v (At q) is, g))

    operand_of : (a : NodeShape) (y : TypeOf) (n : ℕ) → kind_of a ≡ Some (array y n) → operand a ≡ pointer y
    operand_of a y n e = ap decay (type_known a (array y n) e)

    abbrev Element : Text → Direct → TypeOf → Pointer → State → Type 0
    Element x d y q u = StandsAt t x (record { variable = d.variable; name = d.name ++ element_text; kind = y }) u q

    left_element : (x : Text) (d : Direct) (y : TypeOf) (n : ℕ) (a b : NodeShape) → Stands t x d (kind_of a) (meaning t k a) → kind_of a ≡ Some (array y n) → (i j : First) (s : State)
        → Yields s (then_do (needed ((meaning t k a).value i s)) (λ v s. then_do (needed ((meaning t k b).value j s)) (λ w s. then_do (settled (element_pointer (operand a) (operand b) v w) s) (λ v s. settled (target v) s)))) (Element x d y)
    left_element x d y n a b h e i j s =
        yields_then s _ _ (Pointing x d y n) (Element x d y) (pointing x d y n a h e i s) (λ v u c (q, is, g).
        yields_then u _ _ Any (Element x d y) (value_any b j u) (λ w z c l.
        yields_then z _ _ (λ r m. IsAlong q r) (Element x d y) (yields_settled _ z _ (λ r f. left_along (operand b) y q w r (subst (λ (l : TypeOf). element_pointer l (operand b) (At q) w ≡ Ok r) (operand_of a y n e) (subst (λ (l : Value). element_pointer (operand a) (operand b) l w ≡ Ok r) is f)))) (λ r m c2 l.
        pointed_stands t x d y n m q r (begun_there t x d y n z m q c2 (begun_there t x d y n u z q c g)) l)))

    right_element : (x : Text) (d : Direct) (y : TypeOf) (n : ℕ) (a b : NodeShape) → Stands t x d (kind_of b) (meaning t k b) → kind_of b ≡ Some (array y n) → (i j : First) (s : State)
        → Yields s (then_do (needed ((meaning t k a).value i s)) (λ v s. then_do (needed ((meaning t k b).value j s)) (λ w s. then_do (settled (element_pointer (operand a) (operand b) v w) s) (λ v s. settled (target v) s)))) (Element x d y)
    right_element x d y n a b h e i j s =
        yields_then s _ _ Any (Element x d y) (value_any a i s) (λ v u c l.
        yields_then u _ _ (Pointing x d y n) (Element x d y) (pointing x d y n b h e j u) (λ w z c (q, is, g).
        yields_then z _ _ (λ r m. IsAlong q r) (Element x d y) (yields_settled _ z _ (λ r f. right_along (operand a) y q v r (subst (λ (l : TypeOf). element_pointer (operand a) l v (At q) ≡ Ok r) (operand_of b y n e) (subst (λ (l : Value). element_pointer (operand a) (operand b) v l ≡ Ok r) is f)))) (λ r m c2 l.
        pointed_stands t x d y n m q r (begun_there t x d y n z m q c2 g) l)))

    element_both : (x z : Bool) (n : NoteShape) (a b : NodeShape) (d : Direct) (y : TypeOf) → (if x then direct a else if z then direct b else None) ≡ Some d → IsTyped n (if x then element_in (kind_of a) else if z then element_in (kind_of b) else noted_kind n) → noted_kind n ≡ Some y
        → ((d : Direct) → direct a ≡ Some d → Stands t (root_of a) d (kind_of a) (meaning t k a)) → ((d : Direct) → direct b ≡ Some d → Stands t (root_of b) d (kind_of b) (meaning t k b)) → (i j : First) (s : State)
        → Yields s (then_do (needed ((meaning t k a).value i s)) (λ v s. then_do (needed ((meaning t k b).value j s)) (λ w s. then_do (settled (element_pointer (operand a) (operand b) v w) s) (λ v s. settled (target v) s)))) (Element (if x then root_of a else root_of b) d y)
    element_both true z n a b d y e g h f l i j s = let m = array_of (kind_of a) y (noted_as n y (element_in (kind_of a)) h g) in left_element (root_of a) d y m.0 a b (f d e) m.1 i j s
    element_both false true n a b d y e g h f l i j s = let m = array_of (kind_of b) y (noted_as n y (element_in (kind_of b)) h g) in right_element (root_of b) d y m.0 a b (l d e) m.1 i j s
    element_both false false n a b d y e g h f l i j s = cc

    mutual
      both : (a : NodeShape) (d : Direct) → IsKinded t a → direct a ≡ Some d → Stands t (root_of a) d (kind_of a) (meaning t k a)
      both (node p o n f) d g e = form_both p n f d g.0 g.1 e

      form_both : (p : Pos) (n : NoteShape) (f : ExprShape) (d : Direct) → HasKind t n f → HasKindedParts t f → direct_form n f ≡ Some d → Stands t (form_root f) d (noted_kind n) (form_meaning t k p n f)
      form_both p (typed y (Some v)) (leaf (name x)) d g is e =
          subst (λ (d : Direct). Stands t x d (Some y) (form_meaning t k p (typed y (Some v)) (leaf (name x)))) (some_same _ d e)
          (place_both x (record { variable = v; name = x; kind = y }) (typed y (Some v)) _ (λ k h. some_same y k h) (λ r i s. variable_stands t x y v g s))
      form_both p (typed y None) (leaf (name x)) d g is e = cc
      form_both p bare (leaf (name x)) d g is e = cc
      form_both p (known y v) (leaf (name x)) d g is e = cc
      form_both p n (paren a) d g is e =
          let h = both a d is e in
          record { place = h.place; value = λ y m q i s. h.value y m (noted_as n (array y m) (kind_of a) q g) i s }
      form_both p n (suffix a (field dot x q)) d g is e =
          let s = part_of (field_text x) n (direct a) d e in
          let l : Direct = record { variable = s.0.variable; name = s.0.name ++ field_text x; kind = s.1 } in
          let there = noted_as n s.1 (field_in t x (kind_of a)) s.3 g in
          let h = holder_of x (kind_of a) s.1 there in
          let kind = direct_kind a s.0 h.0 is s.2 h.1 in
          subst (λ (d : Direct). Stands t (root_of a) d (noted_kind n) (form_meaning t k p n (suffix a (field dot x q)))) s.4
          (place_both (root_of a) l n _ (λ k z. some_same s.1 k (sym s.3 ∙ z)) (λ r i z. yields_turn z _ (λ q u. StandsAt t (root_of a) l u q) (λ z.
          yields_then z _ (field_place t x (type_at a)) (λ q u. StandsAt t (root_of a) s.0 u q) (λ q u. StandsAt t (root_of a) l u q) ((both a s.0 is s.2).place Read _ z) (λ q u c st.
          subst (λ (y : TypeOf). Yields u (field_place t x y q u) (λ q u. StandsAt t (root_of a) l u q)) (sym (type_known a h.0 h.1)) (field_stands t (root_of a) x s.0 h.0 s.1 u q st kind (sym (ap (field_in t x) h.1) ∙ there))))))
      form_both p n (suffix a (index b)) d g is e =
          let s = part_of element_text n (if has_array a then direct a else if has_array b then direct b else None) d e in
          let l : Direct = record { variable = s.0.variable; name = s.0.name ++ element_text; kind = s.1 } in
          let root = if has_array a then root_of a else root_of b in
          subst (λ (d : Direct). Stands t root d (noted_kind n) (form_meaning t k p n (suffix a (index b)))) s.4
          (place_both root l n _ (λ k z. some_same s.1 k (sym s.3 ∙ z)) (λ r i z. yields_turn z _ (λ q u. StandsAt t root l u q) (λ z.
          element_both (has_array a) (has_array b) n a b s.0 s.1 s.2 g s.3 (λ d h. both a d is.0 h) (λ d h. both b d is.1 h) _ _ z)))
      form_both p n (suffix a (field arrow x q)) d g is e = cc
      form_both p n (suffix a (behind u)) d g is e = cc
      form_both p n (leaf (number x)) d g is e = cc
      form_both p n (leaf (char x)) d g is e = cc
      form_both p n (leaf (str x)) d g is e = cc
      form_both p n (call x args) d g is e = cc
      form_both p n (prefix u a) d g is e = cc
      form_both p n (size_of_type y) d g is e = cc
      form_both p n (cast y a) d g is e = cc
      form_both p n (two u a b) d g is e = cc
      form_both p n (choose a b c) d g is e = cc
      form_both p n (probe u a) d g is e = cc

-- ---- the laws

pub places_stand : DirectPlacesStand
places_stand t k keeps a d is e r i s u q g = given s u ((meaning t k a).place r i s) q (λ q u. StandsAt t (root_of a) d u q) ((both t k (keeping k keeps) a d is e).place r i s) g

pub arrays_begin : DirectArraysBegin
arrays_begin t k keeps a d y n is e h i s u v g =
    let one = given s u ((meaning t k a).value i s) (Some v) (Begun t (root_of a) d y n) ((both t k (keeping k keeps) a d is e).value y n h i s) g in
    (one.0, (one.1.0, some_same v (At one.1.0) one.1.1, one.1.2))
