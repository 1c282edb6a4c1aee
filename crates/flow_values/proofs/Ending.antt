-- What holds at each token of a unit, and what the tables at its end have of it.
use Rattle.std.proofs.Common.{◌≡◌, ℕ, suc, ◌-◌, ◌<◌, ◌≤◌, List, [], ◌∷◌, length, length-append, Bool, true, false, Option, Some, None, refl, arith}
use Rattle.std.specs.Prelude.{nat_le}
use Rattle.std.proofs.lemmas.Bool.Decides.{nat_tests}
use Rattle.c_base.specs.declared.place.Pos.{Pos}
use Rattle.c_syntax.specs.declared.text.Text.{Text}
use Rattle.c_syntax.specs.Shape.{TypeOf}
use Rattle.c_type_rules.specs.Layouts.{Extent, Measure, known, incomplete, too_large, measure}
use Rattle.c_tables.specs.Tables.{FieldShape, StructShape, VariableShape, TablesShape}
use Rattle.c_tables.specs.Rows.{row}
use Rattle.c_tables.proofs.Rows.{length_changed}
use Rattle.c_tree.specs.declared.meaning.Tag.{Tag}
use Rattle.c_tree.specs.State.{State}
use Rattle.c_tree.specs.Parts.{with_structure, opened, begun_at, closed, listed_enumeration}
use Rattle.flow_initial.proofs.Cores.{Core, core, lines_of, Kept, KeptByUnits}
use Rattle.flow_initial.proofs.Openings.{opened_keeps}
use Rattle.flow_initial.proofs.Follows.{Follows}
use Rattle.flow_values.specs.Bodies.{Good, Reaches}
use Rattle.flow_values.proofs.Reaching.{passed_units, itself, before}
use Rattle.flow_values.specs.Made.{HasRoom}
use Rattle.flow_values.proofs.Laid.{complete, IsKept, extent_kept, type_extent, laid_nested}
use Rattle.flow_values.proofs.LaidKept.{IsLaidOut, units_laid}

-- ---- structures are added

abbrev pub HasMore : ℕ → Core → Type 0
HasMore n c = n ≤ length c.structures

new_more : (n : ℕ) (x : Option Text) (s : State) → HasMore n (core s) → HasMore n (core (with_structure x s))
new_more n x s h = omega (arith, h, length-append s.tables.structures (record { tag = x; fields = [] } ∷ []))

begun_more : (n : ℕ) (m : Option ℕ) (s : State) → HasMore n (core s) → HasMore n (core (begun_at m s))
begun_more n None s h = h
begun_more n (Some m) s h = h

closed_more : (n : ℕ) (m : Option ℕ) (fields : List FieldShape) (s : State) → HasMore n (core s) → HasMore n (core (closed m fields s))
closed_more n None fields s h = h
closed_more n (Some m) fields s h = omega (arith, h, length_changed (λ (r : StructShape). record r { fields = fields }) (m - 1) s.tables.structures)

listed_more : (n : ℕ) (p : Pos) (x : Text) (t : Option Tag) (s : State) → HasMore n (core s) → HasMore n (core (listed_enumeration p x t s))
listed_more n p x None s h = h
listed_more n p x (Some t) s h = h

types_more : (n : ℕ) → Kept (HasMore n)
types_more n = record {
  opening = opened_keeps (HasMore n) (new_more n None) (λ x s h. new_more n (Some x) s h);
  beginning = begun_more n;
  closing = λ alone x ds s h g. closed_more n (opened alone true x s).number (lines_of alone x ds s).fields (lines_of alone x ds s).state g;
  listing = listed_more n;
  entering = λ s h. h;
  leaving = λ s h. h;
  hushing = λ s t f h. f h;
}

units_more : (n : ℕ) → KeptByUnits (HasMore n)
units_more n = record { all = record { types = types_more n; declaring = λ x k s g h. h }; turning = λ m s h. h }

-- ---- at each token, and at the end

abbrev pub IsFine : Core → Type 0
IsFine c = Good c × IsLaidOut c

abbrev pub Passing : State → State → Type 1
Passing s u = (J : Core → Type 0) → KeptByUnits J → J (core s) → J (core u)

pub onward : (s u : State) → Passing s u → IsFine (core s) → IsFine (core u)
onward s u f g = ((passed_units s u f g.0).1, (f (λ c. Follows (core s) c × IsLaidOut c) (units_laid (core s)) ((itself (core s) g.0).0, g.1)).1)

-- these tables have what is there, and as many structures or more
abbrev pub EndsIn : TablesShape → Core → Type 0
EndsIn t c = Reaches t c × (length c.structures ≤ length t.structures)

pub earlier : (t : TablesShape) (s u : State) → Passing s u → IsFine (core s) → EndsIn t (core u) → EndsIn t (core s)
earlier t s u f g e =
    let more = f (HasMore (length s.tables.structures)) (units_more (length s.tables.structures)) (omega arith) in
    (before t (core s) (core u) (passed_units s u f g.0).0 e.0, omega (arith, more, e.1))

-- ---- types that have room

few_complete : (rooms : List Measure) → complete rooms ≤ length rooms
few_complete [] = omega arith
few_complete (known e ∷ rooms) = omega (arith, few_complete rooms)
few_complete (incomplete ∷ rooms) = omega (arith, few_complete rooms)
few_complete (too_large ∷ rooms) = omega (arith, few_complete rooms)

pub known_room : (t : TablesShape) (s : State) (k : TypeOf) (e : Extent) → IsFine (core s) → EndsIn t (core s) → measure s.rooms k ≡ known e → HasRoom t k
known_room t s k e g ends h =
    let rooms = s.rooms in
    let rows = s.tables.structures in
    let depth = length t.structures in
    let kept : IsKept rooms rows rooms t.structures = λ n x y. (y, ends.0.fields n (g.1.1 n x y)) in
    let even = g.1.0.even in
    let at_end = extent_kept (suc (complete rooms)) (suc depth) rooms rooms rows t.structures k e.cells kept (omega (arith, few_complete rooms, even, ends.1)) (type_extent rooms rows g.1.0 k e h) in
    let few = at_end.few in
    let count = at_end.count in
    (laid_nested (suc depth) rooms t.structures k at_end.laid, omega (arith, count, few))

-- ---- rows between two others

-- of file scope
abbrev pub Between : TablesShape → (ℕ → VariableShape → Type 0) → ℕ → ℕ → Type 0
Between t Q p q = (n : ℕ) (v : VariableShape) → p < n → n ≤ q → row t.variables n ≡ Some v → v.function ≡ 0 → Q n v

pub between_none : (t : TablesShape) (Q : ℕ → VariableShape → Type 0) (p q : ℕ) → p ≡ q → Between t Q p q
between_none t Q p q e n v low high at owner = absurd (omega (arith, e, low, high))

pub between_both : (t : TablesShape) (Q : ℕ → VariableShape → Type 0) (p q r : ℕ) → Between t Q p q → Between t Q q r → Between t Q p r
between_both t Q p q r f g n v low high at owner = by (nat_le n q) refl
  where
    by : (b : Bool) → nat_le n q ≡ b → Q n v
    by true e = f n v low (grind (arith, nat_tests)) at owner
    by false e = g n v (grind (arith, nat_tests)) high at owner
