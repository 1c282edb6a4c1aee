-- An initialiser of which typing complains of nothing gives its variable a value, where constants have values.
use Rattle.std.proofs.Common.{◌≡◌, ℕ, zero, suc, ◌-◌, ◌≤◌, ◌⊎◌, inl, inr, List, [], ◌∷◌, map, Bool, true, false, Option, Some, None, nat_eq, refl, sym, subst, arith}
use Rattle.std.specs.Prelude.{slice_get, is_some, if◌then◌else◌}
use Rattle.std.specs.List.{AllByRecursion}
use Rattle.c_base.specs.declared.place.Pos.{Pos}
use Rattle.c_syntax.specs.Shape.{TypeOf, int, pointer, array, structure, nothing, str, NodeShape, node, leaf, InitShape, one, listed, InitShapes, no_inits, more_inits}
use Rattle.c_syntax.specs.Shaped.{Shaped, ShapedInit}
use Rattle.c_type_rules.specs.Verdicts.{Verdict, wrong, fits_type}
use Rattle.c_constants.specs.declared.constants.Constant.{Constant}
use Rattle.c_constants.specs.Constants as constants
use Rattle.c_store.specs.declared.value.Value.{Value}
use Rattle.c_tables.specs.Tables.{FieldShape, StructShape, TablesShape}
use Rattle.c_tables.specs.Rows.{row, fields_in}
use Rattle.c_tree.specs.State.{State, is_set, step, complain, fields_of}
use Rattle.c_tree.specs.Rulings.{by, rule, of_kind, allowed_if}
use Rattle.c_tree.specs.Complaints.{not_constant}
use Rattle.c_tree.specs.Sorts.{null, pos_in}
use Rattle.c_tree.specs.Typing.{type_node}
use Rattle.c_tree.specs.Initialisers.{is_char, form_in, filled, constant_init, fits, value_init, one_init_of, Slots, repeated, these, anything, init_pos, type_init, type_inits}
use Rattle.c_tree.proofs.Grows.{rule_grows}
use Rattle.c_tree.proofs.GrowsUnits.{inits_grow}
use Rattle.c_meaning.specs.State.{Bound}
use Rattle.c_meaning.specs.Constants.{value_in}
use Rattle.probe_laws.proofs.Settled.{IsThere, IsClean, mended}
use Rattle.probe_laws.proofs.Rules.{back}
use Rattle.probe_laws.proofs.Known.{Knows}
use Rattle.probe_laws.proofs.KnownNodes.{node_knows}
use Rattle.flow_calls.specs.Orderly.{HasValue}
use Rattle.flow_values.specs.Initialised.{IsInitialised}
use Rattle.flow_initial.specs.Lengths.{IsFilled, HasFilledFields}
use Rattle.flow_initial.specs.Values.{GivesValue, Begins, ListBegins}
use Rattle.flow_initial.proofs.Beginnings.{beginnings_give_values}
use Rattle.flow_initial.proofs.Filling.{AreFields}
use Rattle.flow_initial.proofs.Cores.{core, ◌▸◌}
use Rattle.flow_initial.proofs.KeepsNodes as nodes
use Rattle.flow_initial.proofs.KeepsParts as parts
use Rattle.flow_values.specs.Bodies.{Good, Reaches, ConstantsHaveValues, InitsGive, ConstantsSuffice}
use Rattle.flow_values.proofs.Reaching.{passed, before}

-- ---- values among cells

value_there : (vs : List (Option Value)) (k : ℕ) (v : Value) → slice_get vs k ≡ Some (Some v) → HasValue vs
value_there [] k v e = cc
value_there (None ∷ vs) zero v e = cc
value_there (None ∷ vs) (suc k) v e = value_there vs k v e
value_there (Some x ∷ vs) k v e = tt

has_value : (vs : List (Option Value)) → GivesValue vs → HasValue vs
has_value vs (k, v, e) = value_there vs k v e

-- ---- fields of a structure

fields_at : (rows : List StructShape) (i : ℕ) → AllByRecursion HasFilledFields rows → AreFields (fields_in (slice_get rows i))
fields_at [] i h = tt
fields_at (r ∷ rows) zero h = h.0
fields_at (r ∷ rows) (suc i) h = fields_at rows i h.1

where_there : (b : Bool) (rows : List StructShape) (i : ℕ) → AllByRecursion HasFilledFields rows → AreFields (fields_in (if b then None else slice_get rows i))
where_there true rows i h = tt
where_there false rows i h = fields_at rows i h

kinds_filled : (fields : List FieldShape) → AreFields fields → AllByRecursion IsFilled (map (λ (f : FieldShape). f.kind) fields)
kinds_filled [] h = tt
kinds_filled (f ∷ fields) h = (h.0, kinds_filled fields h.1)

-- ---- what is allowed

-- nothing may be stored in an object of that type
abbrev Unstored : TypeOf → Type 0
Unstored y = (o : TypeOf) (is_null : Bool) → fits_type (Some y) (Some o) is_null ≡ wrong

not_stored : (y : TypeOf) → Unstored y → (o : Option TypeOf) (is_null : Bool) (token : ℕ) (p : Pos) (s : State) → IsThere o → IsClean (rule (by 33 (fits_type (Some y) o is_null)) token p s) → ⊥
not_stored y un None is_null token p s is clean = is
not_stored y un (Some x) is_null token p s is clean = mended 33 token p s (subst (λ (v : Verdict). IsClean (rule (by 33 v) token p s)) (un x is_null) clean)

-- an array takes no value but a string, and a structure none
refuted : (c : Bool) (y : TypeOf) → Unstored y → (a : NodeShape) (s : State) → Shaped a → Knows false s → IsClean (value_init c (Some y) s.at (pos_in a) (type_node a s)).state → ⊥
refuted c y un a s is h clean =
    let t = type_node a s in
    let r = fits (Some y) t.sort in
    let fit = back (rule_grows (constant_init c t.sort) s.at (pos_in a) (rule r s.at (pos_in a) t.state)) clean in
    not_stored y un t.sort.kind (null t.sort) s.at (pos_in a) t.state (node_knows a s is h (back (rule_grows r s.at (pos_in a) t.state) fit)).0 fit

allowed_so : (b : Bool) (n token : ℕ) (k : TypeOf) (p : Pos) (s : State) → IsClean (rule (allowed_if b n k) token p s) → b ≡ true
allowed_so true n token k p s clean = refl
allowed_so false n token k p s clean = absurd (mended n token p s clean)

constant_so : (o : Option TypeOf) (x : Constant) (token : ℕ) (p : Pos) (s : State) → IsThere o → IsClean (rule (of_kind o (λ t. allowed_if (constants.initialises t x) not_constant t)) token p s) → (k : TypeOf) × (o ≡ Some k) × (constants.initialises k x ≡ true)
constant_so None x token p s is clean = absurd is
constant_so (Some k) x token p s is clean = (k, refl, allowed_so (constants.initialises k x) not_constant token k p s clean)

same_fields : (t : TablesShape) (s : State) (n : ℕ) (b : Bool) → is_set (row s.begun n) ≡ b → Good (core s) → Reaches t (core s) → (fields_of n s ≡ fields_in (row t.structures n)) ⊎ (fields_of n s ≡ [])
same_fields t s n true e g reach = inl (sym (reach.fields n e))
same_fields t s n false e g reach = inr (g.0.bare n e)

module _ (t : TablesShape) (b : List Bound) (given : ConstantsHaveValues t b) where
  array_begins : (c : Bool) (k : TypeOf) (n : ℕ) (is : Bool) (a : NodeShape) (s : State) → 1 ≤ n → Shaped a → Knows false s → IsClean (one_init_of (filled (if is then Some n else None) (form_in a)) c (Some (array k n)) a s).state
      → Begins t b (array k n) (one_init_of (filled (if is then Some n else None) (form_in a)) c (Some (array k n)) a s).init
  array_begins c k n true (node p o m (leaf (str x))) s le shaped h clean = (le, tt)
  array_begins c k n true (node p o m f) s le shaped h clean = absurd (refuted c (array k n) (λ o is_null. refl) (node p o m f) s shaped h clean)
  array_begins c k n false a s le shaped h clean = absurd (refuted c (array k n) (λ o is_null. refl) a s shaped h clean)

  value_begins : (k : TypeOf) (a : NodeShape) (s : State) → Shaped a → Knows false s → Good (core s) → Reaches t (core (value_init true (Some k) s.at (pos_in a) (type_node a s)).state)
      → IsClean (value_init true (Some k) s.at (pos_in a) (type_node a s)).state → is_some (value_in t b (type_node a s).node) ≡ true
  value_begins k a s is h g reach clean =
      let y = type_node a s in
      let v = rule (fits (Some k) y.sort) s.at (pos_in a) y.state in
      let r = constant_init true y.sort in
      let typed = back (rule_grows (fits (Some k) y.sort) s.at (pos_in a) y.state) (back (rule_grows r s.at (pos_in a) v) clean) in
      let constant = constant_so y.sort.kind y.sort.constant s.at (pos_in a) v (node_knows a s is h typed).0 clean in
      let later = passed s y.state (λ J kept. nodes.node_keeps J kept.types a s) g in
      let near = before t (core y.state) (core (rule r s.at (pos_in a) v)) (passed y.state (rule r s.at (pos_in a) v) (λ J kept. nodes.rule_keeps J kept.types (fits (Some k) y.sort) s.at (pos_in a) y.state ▸ nodes.rule_keeps J kept.types r s.at (pos_in a) v) later.1).0 reach in
      given a constant.0 s is h g near typed constant.1 constant.2

  struct_begins : (n : ℕ) (s : State) (items : InitShapes) → (fields_of n s ≡ fields_in (row t.structures n)) ⊎ (fields_of n s ≡ []) → ListBegins t b (map (λ (f : FieldShape). f.kind) (fields_of n s)) items
      → ListBegins t b (map (λ (f : FieldShape). f.kind) (fields_in (row t.structures n))) items
  struct_begins n s items (inl e) x = subst (λ fs. ListBegins t b (map (λ (f : FieldShape). f.kind) fs) items) e x
  struct_begins n s no_inits (inr e) x = absurd x
  struct_begins n s (more_inits i rest) (inr e) x = absurd (subst (λ fs. ListBegins t b (map (λ (f : FieldShape). f.kind) fs) (more_inits i rest)) e x)

  -- the first item alone, where such slots are left behind it
  first_alone : (k : TypeOf) (left : Slots) (i : InitShape) (rest : InitShapes) (s : State) → Good (core s) → Reaches t (core (type_inits left rest (step (type_init true (Some k) i s).state)).state)
      → IsClean (type_inits left rest (step (type_init true (Some k) i s).state)).state → Reaches t (core (type_init true (Some k) i s).state) × IsClean (type_init true (Some k) i s).state
  first_alone k left i rest s g reach clean =
      let y = type_init true (Some k) i s in
      let u = step y.state in
      let good = (passed s y.state (λ J kept. parts.init_keeps J kept.types true (Some k) i s) g).1 in
      (before t (core y.state) (core (type_inits left rest u).state) (passed u (type_inits left rest u).state (λ J kept. parts.inits_keep J kept.types left rest u) good).0 reach, back (inits_grow left rest u) clean)

  fields_begin : (kinds : List TypeOf) (i : InitShape) (rest : InitShapes) (s : State) → Good (core s) → AllByRecursion IsFilled kinds → Reaches t (core (type_inits (these kinds) (more_inits i rest) s).state)
      → IsClean (type_inits (these kinds) (more_inits i rest) s).state
      → ((k : TypeOf) → IsFilled k → Reaches t (core (type_init true (Some k) i s).state) → IsClean (type_init true (Some k) i s).state → Begins t b k (type_init true (Some k) i s).init)
      → ListBegins t b kinds (type_inits (these kinds) (more_inits i rest) s).inits
  fields_begin [] i rest s g f reach clean begins = absurd (mended 33 s.at (init_pos i) s (back (inits_grow anything (more_inits i rest) (complain 33 s.at (init_pos i) s)) clean))
  fields_begin (k ∷ kinds) i rest s g f reach clean begins = let one = first_alone k (these kinds) i rest s g reach clean in begins k f.0 one.0 one.1

  mutual
    item_begins : (k : TypeOf) (i : InitShape) (s : State) → ShapedInit i → Knows false s → Good (core s) → IsFilled k → Reaches t (core (type_init true (Some k) i s).state) → IsClean (type_init true (Some k) i s).state
        → Begins t b k (type_init true (Some k) i s).init
    item_begins (array k n) (one a) s is h g f reach clean = array_begins true k n (is_char k) a s f.0 is.1 h clean
    item_begins (int k) (one a) s is h g f reach clean = value_begins (int k) a s is.1 h g reach clean
    item_begins (pointer k) (one a) s is h g f reach clean = value_begins (pointer k) a s is.1 h g reach clean
    item_begins (structure n) (one a) s is h g f reach clean = value_begins (structure n) a s is.1 h g reach clean
    item_begins nothing (one a) s is h g f reach clean = value_begins nothing a s is.1 h g reach clean
    item_begins k (listed p items last) s is h g f reach clean = list_begins true k p items last s is h g f reach clean

    -- for which what begins is written as the list is typed
    list_begins : (c : Bool) (k : TypeOf) (p : Pos) (items : InitShapes) (last : Bool) (s : State) → ShapedInit (listed p items last) → Knows false s → Good (core s) → IsFilled k
        → Reaches t (core (type_init c (Some k) (listed p items last) s).state) → IsClean (type_init c (Some k) (listed p items last) s).state → Begins t b k (type_init c (Some k) (listed p items last) s).init
    list_begins c k p no_inits last s is h g f reach clean = absurd is
    list_begins c (int k) p (more_inits i rest) last s is h g f reach clean = absurd (mended 33 s.at p s (back (inits_grow anything (more_inits i rest) (step (complain 33 s.at p s))) clean))
    list_begins c (pointer k) p (more_inits i rest) last s is h g f reach clean = absurd (mended 33 s.at p s (back (inits_grow anything (more_inits i rest) (step (complain 33 s.at p s))) clean))
    list_begins c nothing p (more_inits i rest) last s is h g f reach clean = absurd (mended 33 s.at p s (back (inits_grow anything (more_inits i rest) (step (complain 33 s.at p s))) clean))
    list_begins c (array k zero) p (more_inits i rest) last s is h g f reach clean = absurd (omega (arith, f.0))
    list_begins c (array k (suc n)) p (more_inits i rest) last s is h g f reach clean =
        let one = first_alone k (repeated k n) i rest (step s) g (record { fields = reach.fields; more = reach.more; added = reach.added }) clean in
        item_begins k i (step s) is.0 h g f.1 one.0 one.1
    list_begins c (structure n) p (more_inits i rest) last s is h g f reach clean =
        let u = step s in
        let kinds = map (λ (f : FieldShape). f.kind) (fields_of n s) in
        let r = type_inits (these kinds) (more_inits i rest) u in
        let near : Reaches t (core r.state) = record { fields = reach.fields; more = reach.more; added = reach.added } in
        let x = fields_begin kinds i rest u g (kinds_filled (fields_of n s) (where_there (nat_eq n 0) s.tables.structures (n - 1) g.1.0)) near clean (λ k f reach clean. item_begins k i u is.0 h g f reach clean) in
        let begun = before t (core s) (core r.state) (passed u r.state (λ J kept. parts.inits_keep J kept.types (these kinds) (more_inits i rest) u) g).0 near in
        struct_begins n s r.inits (same_fields t s n (is_set (row s.begun n)) refl g begun) x

  -- ---- initialisers of variables

  chars_given : (k : TypeOf) (n : ℕ) (i : InitShape) → Begins t b (array k n) i → IsInitialised t b (array k n) i
  chars_given k n (one (node p o m (leaf (str x)))) h = (tt, has_value _ (beginnings_give_values t b (array k n) (one (node p o m (leaf (str x)))) h))
  chars_given k n (one (node p o m f)) h = absurd h.1
  chars_given k n (listed p items last) h = has_value _ (beginnings_give_values t b (array k n) (listed p items last) h)

  inits_give : InitsGive t b
  inits_give c (array k n) (one a) s is h g f reach clean = chars_given k n _ (array_begins c k n (is_char k) a s f.0 is.1 h clean)
  inits_give c (int k) (one a) s is h g f reach clean = tt
  inits_give c (pointer k) (one a) s is h g f reach clean = tt
  inits_give c (structure n) (one a) s is h g f reach clean = refuted c (structure n) (λ o is_null. refl) a s is.1 h clean
  inits_give c nothing (one a) s is h g f reach clean = refuted c nothing (λ o is_null. refl) a s is.1 h clean
  inits_give c k (listed p items last) s is h g f reach clean = has_value _ (beginnings_give_values t b k (type_init c (Some k) (listed p items last) s).init (list_begins c k p items last s is h g f reach clean))

pub constants_suffice : ConstantsSuffice
constants_suffice t b given = inits_give t b given
