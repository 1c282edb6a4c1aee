-- Structures that have room: their fields have room, and lie no deeper one in another than there are such structures.
use Rattle.std.proofs.Common.{◌≡◌, ℕ, zero, suc, ◌+◌, ◌*◌, ◌≤◌, List, [], ◌∷◌, ◌++◌, length, length-append, map, Bool, true, false, refl, sym, ap, ap₂, ◌∙◌, subst, arith}
use Rattle.std.specs.Prelude.{nat_le, if◌then◌else◌}
use Rattle.std.specs.List.{AllByRecursion, repeat}
use Rattle.std.proofs.lemmas.Bool.Decides.{nat_tests}
use Rattle.c_syntax.specs.Shape.{TypeOf, int, pointer, array, structure, nothing}
use Rattle.c_type_rules.specs.Layouts.{Extent, Measure, known, incomplete, too_large, onward, limited, repeated, scalar, int_align, numbered, measure, joined, closed, followed, laid_out}
use Rattle.c_type_rules.specs.declared.extent.Align.TheVariants.{Eight}
use Rattle.c_tables.specs.Tables.{FieldShape, StructShape}
use Rattle.c_tables.specs.Rows.{row, fields_in}
use Rattle.c_meaning.specs.Layout.{field_scalars, type_scalars, scalars_to}
use Rattle.flow_values.specs.Made.{IsOver, IsNested}
use Rattle.flow_values.proofs.Nesting.{repeat_length, all_over, scalars_same}

abbrev pub IsKnown : Measure → Type 0
IsKnown (known e) = Unit {0}
IsKnown incomplete = ⊥
IsKnown too_large = ⊥

known_some : (m : Measure) → IsKnown m → (e : Extent) × (m ≡ known e)
known_some (known e) h = (e, refl)
known_some incomplete h = absurd h
known_some too_large h = absurd h

pub is_known : (m : Measure) (e : Extent) → m ≡ known e → IsKnown m
is_known (known x) e h = tt
is_known incomplete e h = cc
is_known too_large e h = cc

-- how many have room
abbrev pub complete : List Measure → ℕ
complete [] = 0
complete (known e ∷ ms) = suc (complete ms)
complete (incomplete ∷ ms) = complete ms
complete (too_large ∷ ms) = complete ms

-- each structure in it has room
abbrev pub IsLaidOver : (TypeOf → Type 0) → List Measure → List StructShape → TypeOf → Type 0
IsLaidOver inner rooms rows (array k n) = IsLaidOver inner rooms rows k
IsLaidOver inner rooms rows (structure n) = IsKnown (numbered rooms n) × AllByRecursion (λ (f : FieldShape). inner f.kind) (fields_in (row rows n))
IsLaidOver inner rooms rows (int k) = Unit {0}
IsLaidOver inner rooms rows (pointer k) = Unit {0}
IsLaidOver inner rooms rows nothing = Unit {0}

abbrev pub IsLaid : ℕ → List Measure → List StructShape → TypeOf → Type 0
IsLaid zero rooms rows k = ⊥
IsLaid (suc depth) rooms rows k = IsLaidOver (IsLaid depth rooms rows) rooms rows k

over_more : (P Q : TypeOf → Type 0) (rooms : List Measure) (rows : List StructShape) → ((k : TypeOf) → P k → Q k) → (k : TypeOf) → IsLaidOver P rooms rows k → IsLaidOver Q rooms rows k
over_more P Q rooms rows g (array k n) h = over_more P Q rooms rows g k h
over_more P Q rooms rows g (structure n) h = (h.0, all_over P Q g (fields_in (row rows n)) h.1)
over_more P Q rooms rows g (int k) h = tt
over_more P Q rooms rows g (pointer k) h = tt
over_more P Q rooms rows g nothing h = tt

pub laid_more : (d e : ℕ) (rooms : List Measure) (rows : List StructShape) (k : TypeOf) → d ≤ e → IsLaid d rooms rows k → IsLaid e rooms rows k
laid_more zero e rooms rows k le h = absurd h
laid_more (suc d) zero rooms rows k le h = absurd (omega (arith, le))
laid_more (suc d) (suc e) rooms rows k le h = over_more (IsLaid d rooms rows) (IsLaid e rooms rows) rooms rows (λ j g. laid_more d e rooms rows j (omega (arith, le)) g) k h

-- ---- where other rows come, or rows change that have no room

-- what has room has as much, and the same fields
abbrev pub IsKept : List Measure → List StructShape → List Measure → List StructShape → Type 0
IsKept rooms rows others more = (n : ℕ) (e : Extent) → numbered rooms n ≡ known e → (numbered others n ≡ known e) × (fields_in (row more n) ≡ fields_in (row rows n))

over_kept : (P Q : TypeOf → Type 0) (rooms others : List Measure) (rows more : List StructShape) → IsKept rooms rows others more → ((k : TypeOf) → P k → Q k) → (k : TypeOf) → IsLaidOver P rooms rows k → IsLaidOver Q others more k
over_kept P Q rooms others rows more kept g (array k n) h = over_kept P Q rooms others rows more kept g k h
over_kept P Q rooms others rows more kept g (structure n) h =
    let e = known_some (numbered rooms n) h.0 in
    let same = kept n e.0 e.1 in
    (is_known (numbered others n) e.0 same.0, subst (λ fs. AllByRecursion (λ (f : FieldShape). Q f.kind) fs) (sym same.1) (all_over P Q g (fields_in (row rows n)) h.1))
over_kept P Q rooms others rows more kept g (int k) h = tt
over_kept P Q rooms others rows more kept g (pointer k) h = tt
over_kept P Q rooms others rows more kept g nothing h = tt

pub laid_kept : (d : ℕ) (rooms others : List Measure) (rows more : List StructShape) → IsKept rooms rows others more → (k : TypeOf) → IsLaid d rooms rows k → IsLaid d others more k
laid_kept zero rooms others rows more kept k h = absurd h
laid_kept (suc d) rooms others rows more kept k h = over_kept (IsLaid d rooms rows) (IsLaid d others more) rooms others rows more kept (laid_kept d rooms others rows more kept) k h

pub fields_kept : (P : TypeOf → Type 0) (f g : TypeOf → List TypeOf) → ((k : TypeOf) → P k → g k ≡ f k) → (fields : List FieldShape) → AllByRecursion (λ (f : FieldShape). P f.kind) fields → field_scalars g fields ≡ field_scalars f fields
fields_kept P f g same [] h = refl
fields_kept P f g same (x ∷ fields) h = ap₂ (λ xs ys. xs ++ ys) (same x.kind h.0) (fields_kept P f g same fields h.1)

over_scalars : (P : TypeOf → Type 0) (f g : TypeOf → List TypeOf) (rooms others : List Measure) (rows more : List StructShape) → IsKept rooms rows others more → ((k : TypeOf) → P k → g k ≡ f k) → (k : TypeOf) → IsLaidOver P rooms rows k → type_scalars g more k ≡ type_scalars f rows k
over_scalars P f g rooms others rows more kept same (array k n) h = ap (repeat n) (over_scalars P f g rooms others rows more kept same k h)
over_scalars P f g rooms others rows more kept same (structure n) h =
    let e = known_some (numbered rooms n) h.0 in
    ap (field_scalars g) (kept n e.0 e.1).1 ∙ fields_kept P f g same (fields_in (row rows n)) h.1
over_scalars P f g rooms others rows more kept same (int k) h = refl
over_scalars P f g rooms others rows more kept same (pointer k) h = refl
over_scalars P f g rooms others rows more kept same nothing h = refl

pub scalars_kept : (d : ℕ) (rooms others : List Measure) (rows more : List StructShape) → IsKept rooms rows others more → (k : TypeOf) → IsLaid d rooms rows k → scalars_to d more k ≡ scalars_to d rows k
scalars_kept zero rooms others rows more kept k h = absurd h
scalars_kept (suc d) rooms others rows more kept k h = over_scalars (IsLaid d rooms rows) (scalars_to d rows) (scalars_to d more) rooms others rows more kept (scalars_kept d rooms others rows more kept) k h

over_nested : (P Q : TypeOf → Type 0) (rooms : List Measure) (rows : List StructShape) → ((k : TypeOf) → P k → Q k) → (k : TypeOf) → IsLaidOver P rooms rows k → IsOver Q rows k
over_nested P Q rooms rows g (array k n) h = over_nested P Q rooms rows g k h
over_nested P Q rooms rows g (structure n) h = all_over P Q g (fields_in (row rows n)) h.1
over_nested P Q rooms rows g (int k) h = tt
over_nested P Q rooms rows g (pointer k) h = tt
over_nested P Q rooms rows g nothing h = tt

pub laid_nested : (d : ℕ) (rooms : List Measure) (rows : List StructShape) (k : TypeOf) → IsLaid d rooms rows k → IsNested d rows k
laid_nested zero rooms rows k h = h
laid_nested (suc d) rooms rows k h = over_nested (IsLaid d rooms rows) (IsNested d rows) rooms rows (laid_nested d rooms rows) k h

-- ---- extents

-- so many cells, and no more than may live
pub record HasExtent (d : ℕ) (rooms : List Measure) (rows : List StructShape) (k : TypeOf) (cells : ℕ) : Type 0 where
  pub laid : IsLaid d rooms rows k
  pub count : length (scalars_to d rows k) ≡ cells
  pub few : cells ≤ 1048576

pub extent_kept : (d e : ℕ) (rooms others : List Measure) (rows more : List StructShape) (k : TypeOf) (cells : ℕ) → IsKept rooms rows others more → d ≤ e → HasExtent d rooms rows k cells → HasExtent e others more k cells
extent_kept d e rooms others rows more k cells kept le h =
    let laid = laid_kept d rooms others rows more kept k h.laid in
    let deeper = scalars_same d e more k le (laid_nested d others more k laid) in
    record { laid = laid_more d e others more k le laid; count = ap length (deeper ∙ scalars_kept d rooms others rows more kept k h.laid) ∙ h.count; few = h.few }

-- what holds of the structures of a unit
pub record Laid (rooms : List Measure) (rows : List StructShape) : Type 0 where
  pub even : length rooms ≡ length rows
  pub extents : (n : ℕ) (e : Extent) → numbered rooms n ≡ known e → HasExtent (suc (complete rooms)) rooms rows (structure n) e.cells

if_limited : (x e : Extent) (b : Bool) → nat_le x.cells 1048576 ≡ b → (if b then known x else too_large) ≡ known e → (x ≡ e) × (x.cells ≤ 1048576)
if_limited x e true le h = (cc, grind (arith, nat_tests))
if_limited x e false le h = cc

module _ (rooms : List Measure) (rows : List StructShape) (laid : Laid rooms rows) where
  scalar_extent : (k : TypeOf) (x e : Extent) → x.cells ≡ 1 → known x ≡ known e → IsLaid (suc (complete rooms)) rooms rows k → length (scalars_to (suc (complete rooms)) rows k) ≡ 1 → HasExtent (suc (complete rooms)) rooms rows k e.cells
  scalar_extent k x e one h is count =
      let same : x ≡ e = cc in
      let cells = ap (λ (y : Extent). y.cells) same in
      record { laid = is; count = count ∙ (sym one ∙ cells); few = omega (arith, one, cells) }

  array_extent : (k : TypeOf) (n : ℕ) (m : Measure) (e : Extent) → ((x : Extent) → m ≡ known x → HasExtent (suc (complete rooms)) rooms rows k x.cells) → onward m (λ x. limited (repeated n x)) ≡ known e → HasExtent (suc (complete rooms)) rooms rows (array k n) e.cells
  array_extent k n (known x) e inner h =
      let one = inner x refl in
      let lim = if_limited (repeated n x) e (nat_le (n * x.cells) 1048576) refl h in
      let cells : n * x.cells ≡ e.cells = ap (λ (y : Extent). y.cells) lim.0 in
      record { laid = one.laid; count = repeat_length n (scalars_to (suc (complete rooms)) rows k) ∙ (ap (λ c. n * c) one.count ∙ cells); few = omega (arith, lim.1, cells) }
  array_extent k n incomplete e inner h = cc
  array_extent k n too_large e inner h = cc

  pub type_extent : (k : TypeOf) (e : Extent) → measure rooms k ≡ known e → HasExtent (suc (complete rooms)) rooms rows k e.cells
  type_extent (int j) e h = scalar_extent (int j) (scalar (int_align j)) e refl h tt refl
  type_extent (pointer k) e h = scalar_extent (pointer k) (scalar Eight) e refl h tt refl
  type_extent (array k n) e h = array_extent k n (measure rooms k) e (type_extent k) h
  type_extent (structure n) e h = laid.extents n e h
  type_extent nothing e h = cc

  -- ---- fields, one behind the other

  -- behind so many cells
  pub record FieldsLaid (s : Measure) (fields : List FieldShape) (cells : ℕ) : Type 0 where
    pub before : Extent
    pub is : s ≡ known before
    pub each : AllByRecursion (λ (f : FieldShape). IsLaid (suc (complete rooms)) rooms rows f.kind) fields
    pub count : before.cells + length (field_scalars (scalars_to (suc (complete rooms)) rows) fields) ≡ cells
    pub few : before.cells ≤ 1048576 → cells ≤ 1048576

  none_laid : (s : Measure) (e : Extent) → onward s (λ x. known (closed x)) ≡ known e → FieldsLaid s [] e.cells
  none_laid (known x) e h =
      let same : closed x ≡ e = cc in
      let cells : x.cells ≡ e.cells = ap (λ (y : Extent). y.cells) same in
      record { before = x; is = refl; each = tt; count = omega (arith, cells); few = λ le. omega (arith, le, cells) }
  none_laid incomplete e h = cc
  none_laid too_large e h = cc

  one_laid : (s m : Measure) (f : FieldShape) (fields : List FieldShape) (cells : ℕ) → measure rooms f.kind ≡ m → FieldsLaid (followed s m) fields cells → FieldsLaid s (f ∷ fields) cells
  one_laid (known x) (known y) f fields cells e h =
      let lim = if_limited (joined x y) h.before (nat_le (x.cells + y.cells) 1048576) refl h.is in
      let sum : x.cells + y.cells ≡ h.before.cells = ap (λ (z : Extent). z.cells) lim.0 in
      let one = type_extent f.kind y e in
      let here = one.count in
      let rest = h.count in
      let inner = scalars_to (suc (complete rooms)) rows in
      record { before = x; is = refl; each = (one.laid, h.each); count = omega (arith, sum, here, rest, length-append (inner f.kind) (field_scalars inner fields)); few = λ le. h.few (omega (arith, lim.1, sum)) }
  one_laid (known x) incomplete f fields cells e h = let i = h.is in cc
  one_laid (known x) too_large f fields cells e h = let i = h.is in cc
  one_laid incomplete m f fields cells e h = let i = h.is in cc
  one_laid too_large m f fields cells e h = let i = h.is in cc

  pub fields_laid : (fields : List FieldShape) (s : Measure) (e : Extent) → laid_out rooms s (map (λ (f : FieldShape). f.kind) fields) ≡ known e → FieldsLaid s fields e.cells
  fields_laid [] s e h = none_laid s e h
  fields_laid (f ∷ fields) s e h = one_laid s (measure rooms f.kind) f fields e.cells refl (fields_laid fields (followed s (measure rooms f.kind)) e h)
