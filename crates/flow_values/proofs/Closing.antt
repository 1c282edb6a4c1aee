-- A structure's list is complete: it has room now, where its fields have, and all else stays.
use Rattle.std.proofs.Common.{◌≡◌, ℕ, zero, suc, ◌+◌, ◌-◌, ◌<◌, ◌≤◌, List, [], ◌∷◌, ◌++◌, length, length-append, map, nat_eq, ne_eqb, Bool, true, false, Option, refl, sym, ap, ◌∙◌, subst, arith}
use Rattle.std.specs.Prelude.{slice_get, if◌then◌else◌}
use Rattle.std.specs.List.{AllByRecursion}
use Rattle.std.proofs.lemmas.Bool.Decides.{nat_tests}
use Rattle.c_syntax.specs.declared.text.Text.{Text}
use Rattle.c_syntax.specs.Shape.{structure}
use Rattle.c_type_rules.specs.Layouts.{Extent, Measure, known, incomplete, too_large, in_row, numbered, empty, structure_measure}
use Rattle.c_tables.specs.Tables.{FieldShape, StructShape, changed_at}
use Rattle.c_tables.specs.Rows.{row, fields_in}
use Rattle.c_tables.proofs.Rows.{length_changed}
use Rattle.c_meaning.specs.Layout.{field_scalars, scalars_to}
use Rattle.flow_initial.proofs.RowLists.{where_fields, fields_in_front, fields_apart, counted_from_one, row_at}
use Rattle.flow_values.proofs.Nesting.{all_over, scalars_same}
use Rattle.flow_values.proofs.Laid.{complete, IsLaid, IsKept, HasExtent, extent_kept, laid_more, laid_kept, laid_nested, scalars_kept, fields_kept, is_known, Laid, fields_laid}

-- ---- a new structure has no room yet

where_numbered : (b : Bool) (o p : Measure) (e : Extent) → (o ≡ known e → p ≡ known e) → (if b then incomplete else o) ≡ known e → (if b then incomplete else p) ≡ known e
where_numbered true o p e f h = h
where_numbered false o p e f h = f h

in_front : (rooms : List Measure) (i : ℕ) (e : Extent) → in_row (slice_get rooms i) ≡ known e → in_row (slice_get (rooms ++ incomplete ∷ []) i) ≡ known e
in_front [] i e h = cc
in_front (m ∷ rooms) zero e h = h
in_front (m ∷ rooms) (suc i) e h = in_front rooms i e h

from_front : (rooms : List Measure) (i : ℕ) (e : Extent) → in_row (slice_get (rooms ++ incomplete ∷ []) i) ≡ known e → in_row (slice_get rooms i) ≡ known e
from_front [] zero e h = cc
from_front [] (suc i) e h = cc
from_front (m ∷ rooms) zero e h = h
from_front (m ∷ rooms) (suc i) e h = from_front rooms i e h

complete_more : (rooms : List Measure) → complete (rooms ++ incomplete ∷ []) ≡ complete rooms
complete_more [] = refl
complete_more (known e ∷ rooms) = ap suc (complete_more rooms)
complete_more (incomplete ∷ rooms) = complete_more rooms
complete_more (too_large ∷ rooms) = complete_more rooms

pub new_known : (rooms : List Measure) (n : ℕ) (e : Extent) → numbered (rooms ++ incomplete ∷ []) n ≡ known e → numbered rooms n ≡ known e
new_known rooms n e = where_numbered (nat_eq n 0) (in_row (slice_get (rooms ++ incomplete ∷ []) (n - 1))) (in_row (slice_get rooms (n - 1))) e (from_front rooms (n - 1) e)

pub new_laid : (x : Option Text) (rooms : List Measure) (rows : List StructShape) → Laid rooms rows → Laid (rooms ++ incomplete ∷ []) (rows ++ record { tag = x; fields = [] } ∷ [])
new_laid x rooms rows h =
    let r : StructShape = record { tag = x; fields = [] } in
    let kept : IsKept rooms rows (rooms ++ incomplete ∷ []) (rows ++ r ∷ []) = λ n e g. (
      where_numbered (nat_eq n 0) (in_row (slice_get rooms (n - 1))) (in_row (slice_get (rooms ++ incomplete ∷ []) (n - 1))) e (in_front rooms (n - 1) e) g,
      where_fields (nat_eq n 0) (slice_get (rows ++ r ∷ []) (n - 1)) (slice_get rows (n - 1)) (λ f. fields_in_front rows x (n - 1)),
    ) in
    record {
      even = omega (arith, h.even, length-append rooms (incomplete ∷ []), length-append rows (r ∷ []));
      extents = λ n e g. extent_kept (suc (complete rooms)) (suc (complete (rooms ++ incomplete ∷ []))) rooms (rooms ++ incomplete ∷ []) rows (rows ++ r ∷ []) (structure n) e.cells kept (omega (arith, complete_more rooms)) (h.extents n e (new_known rooms n e g));
    }

-- ---- one that had none gets room

abbrev changed : Measure → ℕ → List Measure → List Measure
changed m i rooms = changed_at (λ (x : Measure). m) i rooms

room_apart : (m : Measure) (j i : ℕ) (rooms : List Measure) → (i ≡ j → ⊥) → slice_get (changed m j rooms) i ≡ slice_get rooms i
room_apart m j i [] g = refl
room_apart m zero zero (x ∷ rooms) g = absurd (g refl)
room_apart m zero (suc i) (x ∷ rooms) g = refl
room_apart m (suc j) zero (x ∷ rooms) g = refl
room_apart m (suc j) (suc i) (x ∷ rooms) g = room_apart m j i rooms (λ e. g (ap suc e))

where_same : (b : Bool) (o p : Measure) → (b ≡ false → o ≡ p) → (if b then incomplete else o) ≡ (if b then incomplete else p)
where_same true o p f = refl
where_same false o p f = f refl

pub number_apart : (m : Measure) (n j : ℕ) (rooms : List Measure) → 1 ≤ n → (j ≡ n → ⊥) → numbered (changed m (n - 1) rooms) j ≡ numbered rooms j
number_apart m n j rooms le g = where_same (nat_eq j 0) _ _ (λ e. ap in_row (room_apart m (n - 1) (j - 1) rooms (λ same. g (omega (arith, le, counted_from_one j e, same)))))

rows_apart : (fields : List FieldShape) (n j : ℕ) (rows : List StructShape) → 1 ≤ n → (j ≡ n → ⊥) → fields_in (row (changed_at (λ r. record r { fields = fields }) (n - 1) rows) j) ≡ fields_in (row rows j)
rows_apart fields n j rows le g = where_fields (nat_eq j 0) _ _ (λ e. fields_apart (λ r. record r { fields = fields }) (n - 1) (j - 1) rows (λ same. g (omega (arith, le, counted_from_one j e, same))))

behind : (m : Measure) (rooms : List Measure) → complete rooms ≤ complete (m ∷ rooms)
behind (known e) rooms = omega arith
behind incomplete rooms = omega arith
behind too_large rooms = omega arith

as_many : (m : Measure) (a b : List Measure) (k : ℕ) → k + complete a ≤ complete b → k + complete (m ∷ a) ≤ complete (m ∷ b)
as_many (known e) a b k h = omega (arith, h)
as_many incomplete a b k h = h
as_many too_large a b k h = h

none_here : (x : Measure) (rooms : List Measure) → ((e : Extent) → x ≡ known e → ⊥) → complete (x ∷ rooms) ≡ complete rooms
none_here (known e) rooms g = absurd (g e refl)
none_here incomplete rooms g = refl
none_here too_large rooms g = refl

fewer : (m : Measure) (i : ℕ) (rooms : List Measure) → ((e : Extent) → in_row (slice_get rooms i) ≡ known e → ⊥) → complete rooms ≤ complete (changed m i rooms)
fewer m i [] g = omega arith
fewer m zero (x ∷ rooms) g = omega (arith, none_here x rooms g, behind m rooms)
fewer m (suc i) (x ∷ rooms) g = let k = fewer m i rooms g in omega (arith, as_many x rooms (changed m i rooms) 0 (omega (arith, k)))

known_behind : (m : Measure) (e : Extent) (rooms : List Measure) → m ≡ known e → suc (complete rooms) ≤ complete (m ∷ rooms)
known_behind (known x) e rooms h = omega arith
known_behind incomplete e rooms h = cc
known_behind too_large e rooms h = cc

one_more : (m : Measure) (e : Extent) (i : ℕ) (rooms : List Measure) → ((e : Extent) → in_row (slice_get rooms i) ≡ known e → ⊥) → in_row (slice_get (changed m i rooms) i) ≡ known e
    → (m ≡ known e) × (suc (complete rooms) ≤ complete (changed m i rooms)) × (i < length rooms)
one_more m e i [] g h = cc
one_more m e zero (x ∷ rooms) g h = (h, omega (arith, none_here x rooms g, known_behind m e rooms h), omega arith)
one_more m e (suc i) (x ∷ rooms) g h =
    let one = one_more m e i rooms g h in
    let more = one.1 in
    (one.0, omega (arith, as_many x rooms (changed m i rooms) 1 (omega (arith, more))), omega (arith, one.2))

fields_there : (fields : List FieldShape) (i : ℕ) (rows : List StructShape) → i < length rows → fields_in (slice_get (changed_at (λ r. record r { fields = fields }) i rows) i) ≡ fields
fields_there fields i [] le = absurd (omega (arith, le))
fields_there fields zero (r ∷ rows) le = refl
fields_there fields (suc i) (r ∷ rows) le = fields_there fields i rows (omega (arith, le))

numbered_at : (rooms : List Measure) (n : ℕ) → 1 ≤ n → numbered rooms n ≡ in_row (slice_get rooms (n - 1))
numbered_at rooms zero h = absurd (omega (arith, h))
numbered_at rooms (suc n) h = rw (ne_eqb (suc n) 0 (λ f. absurd (omega (arith, f)))) refl

module _ (fields : List FieldShape) (n : ℕ) (rooms : List Measure) (rows : List StructShape) (le : 1 ≤ n) (none : (e : Extent) → numbered rooms n ≡ known e → ⊥) (h : Laid rooms rows) where
  abbrev room : Measure
  room = structure_measure rooms (map (λ (f : FieldShape). f.kind) fields)

  abbrev rooms_then : List Measure
  rooms_then = changed room (n - 1) rooms

  abbrev rows_then : List StructShape
  rows_then = changed_at (λ r. record r { fields = fields }) (n - 1) rows

  kept : IsKept rooms rows rooms_then rows_then
  kept j x y =
      let other : j ≡ n → ⊥ = λ same. none x (subst (λ i. numbered rooms i ≡ known x) same y) in
      (number_apart room n j rooms le other ∙ y, rows_apart fields n j rows le other)

  this_extent : (e : Extent) → numbered rooms_then n ≡ known e → HasExtent (suc (complete rooms_then)) rooms_then rows_then (structure n) e.cells
  this_extent e g =
      let c = complete rooms in
      let d = complete rooms_then in
      let one = one_more room e (n - 1) rooms (λ x y. none x (numbered_at rooms n le ∙ y)) (sym (numbered_at rooms_then n le) ∙ g) in
      let deep : suc c ≤ d = one.1 in
      let all = fields_laid rooms rows h fields (known empty) e one.0 in
      let start : empty ≡ all.before = let i = all.is in cc in
      let zero_cells : all.before.cells ≡ 0 = ap (λ (y : Extent). y.cells) (sym start) in
      let there = ap fields_in (row_at rows_then n le) ∙ fields_there fields (n - 1) rows (omega (arith, one.2, h.even)) in
      let same = fields_kept (IsLaid (suc c) rooms rows) (scalars_to (suc c) rows) (scalars_to d rows_then)
      (λ k l. scalars_same (suc c) d rows_then k deep (laid_nested (suc c) rooms_then rows_then k (laid_kept (suc c) rooms rooms_then rows rows_then kept k l)) ∙ scalars_kept (suc c) rooms rooms_then rows rows_then kept k l) fields all.each in
      let total = all.count in
      record {
        laid = (
          is_known (numbered rooms_then n) e g,
          subst (λ fs. AllByRecursion (λ (f : FieldShape). IsLaid d rooms_then rows_then f.kind) fs) (sym there)
              (all_over (IsLaid (suc c) rooms rows) (IsLaid d rooms_then rows_then) (λ k l. laid_more (suc c) d rooms_then rows_then k deep (laid_kept (suc c) rooms rooms_then rows rows_then kept k l)) fields all.each),
        );
        count = ap (λ fs. length (field_scalars (scalars_to d rows_then) fs)) there ∙ (ap length same ∙ omega (arith, total, zero_cells));
        few = all.few (omega (arith, zero_cells));
      }

  either_extent : (m : ℕ) (e : Extent) (b : Bool) → nat_eq m n ≡ b → numbered rooms_then m ≡ known e → HasExtent (suc (complete rooms_then)) rooms_then rows_then (structure m) e.cells
  either_extent m e true i g =
      let same : m ≡ n = grind (arith, nat_tests) in
      subst (λ j. HasExtent (suc (complete rooms_then)) rooms_then rows_then (structure j) e.cells) (sym same) (this_extent e (subst (λ j. numbered rooms_then j ≡ known e) same g))
  either_extent m e false i g =
      let other : m ≡ n → ⊥ = grind (arith, nat_tests) in
      let more = fewer room (n - 1) rooms (λ x y. none x (numbered_at rooms n le ∙ y)) in
      extent_kept (suc (complete rooms)) (suc (complete rooms_then)) rooms rooms_then rows rows_then (structure m) e.cells kept (omega (arith, more)) (h.extents m e (sym (number_apart room n m rooms le other) ∙ g))

  pub closed_laid : Laid rooms_then rows_then
  closed_laid = record {
    even = length_changed (λ (x : Measure). room) (n - 1) rooms ∙ (h.even ∙ sym (length_changed (λ (r : StructShape). record r { fields = fields }) (n - 1) rows));
    extents = λ m e g. either_extent m e (nat_eq m n) refl g;
  }
