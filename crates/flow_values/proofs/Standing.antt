-- Places of file scope: variables that were made, their elements and their fields.
use Rattle.std.proofs.Common.{◌≡◌, ℕ, zero, suc, ◌+◌, ◌*◌, ◌<◌, ◌≤◌, List, [], ◌∷◌, length, Bool, true, false, Option, Some, None, refl, sym, ap, ◌∙◌, subst, arith}
use Rattle.std.specs.Prelude.{pos, negsuc, nat_le, nat_lt, ◌&&◌, bytes_eq, is_some, if◌then◌else◌}
use Rattle.std.specs.List.{AllByRecursion}
use Rattle.std.proofs.lemmas.Bool.Decides.{nat_tests}
use Rattle.c_syntax.specs.declared.text.Text.{Text}
use Rattle.c_syntax.specs.Shape.{TypeOf, array, structure}
use Rattle.c_constants.specs.declared.constants.Constant.{Constant}
use Rattle.c_constants.specs.declared.constants.Constant.TheVariants.{No, Faulty, Known, Variable, Part as APart, Address, Literal}
use Rattle.c_constants.specs.Constants as constants
use Rattle.c_store.specs.declared.value.Pointer.{Pointer}
use Rattle.c_tables.specs.Tables.{FieldShape, TablesShape}
use Rattle.c_tables.specs.Rows.{row, fields_in}
use Rattle.c_tree.specs.State.{field_type}
use Rattle.c_meaning.specs.Layout.{Part, scalars, cells, part_from, part_in}
use Rattle.c_meaning.specs.Places.{room, whole, has_part}
use Rattle.c_meaning.specs.Constants.{object_in, part_of, element_in, field_in}
use Rattle.flow_values.specs.Made.{IsNested, HasRoom}
use Rattle.flow_values.proofs.Nesting.{repeat_length, nested_more, fields_cells, holds_fields}

-- a pointer to an object of that type, which has room
pub record Stands (t : TablesShape) (k : TypeOf) (o : Option Pointer) : Type 0 where
  pub at : Pointer
  pub is : o ≡ Some at
  pub size : at.size ≡ cells t k
  pub room : HasRoom t k

pick_stands : (t : TablesShape) (k : TypeOf) (b : Bool) (q : Pointer) → b ≡ true → q.size ≡ cells t k → HasRoom t k → Stands t k (if b then Some q else None)
pick_stands t k true q e size has = record { at = q; is = refl; size = size; room = has }
pick_stands t k false q e size has = cc

all_three : (a b c : Bool) → a ≡ true → b ≡ true → c ≡ true → (a && (b && c)) ≡ true
all_three true true true e f g = refl
all_three false b c e f g = cc
all_three true false c e f g = cc
all_three true true false e f g = cc

is_below : (a b : ℕ) → a ≤ b → nat_le a b ≡ true
is_below a b h = grind (arith, nat_tests)

part_stands : (t : TablesShape) (k : TypeOf) (q : Pointer) (offset n at : ℕ) → offset ≤ room → HasRoom t k → offset + n * cells t k ≤ q.size → Stands t k (part_of q offset n (cells t k) at)
part_stands t k q offset n at low has inside =
    let size = cells t k in
    pick_stands t k (has_part q offset n size) _ (all_three (nat_le offset room) (nat_le size room) (nat_le (offset + n * size) q.size) (is_below offset room low) (is_below size room has.1) (is_below (offset + n * size) q.size inside)) refl has

-- ---- variables

pub object_stands : (t : TablesShape) (k : TypeOf) (o : Option ℕ) → is_some o ≡ true → HasRoom t k → Stands t k (object_in (cells t k) o)
object_stands t k None e has = cc
object_stands t k (Some j) e has = pick_stands t k (nat_le (cells t k) room) (whole j (cells t k)) (is_below (cells t k) room has.1) refl has

-- ---- elements

array_cells : (t : TablesShape) (k : TypeOf) (n : ℕ) → cells t (array k n) ≡ n * cells t k
array_cells t k n = repeat_length n (scalars t k)

no_more : (n c : ℕ) → 1 ≤ n → c ≤ n * c
no_more zero c h = absurd (omega (arith, h))
no_more (suc n) c h = let e : suc n * c ≡ c + n * c = grind arith in omega (arith, e)

second_holds : (a b : Bool) → (a && b) ≡ true → b ≡ true
second_holds true b e = e
second_holds false b e = cc

index_below : (n v : ℕ) → constants.is_index n (Some (pos v)) ≡ true → v < n
index_below n v e = let f : nat_lt v n ≡ true = second_holds (nat_le 0 v) (nat_lt v n) e in grind (arith, nat_tests)

negative : (n v : ℕ) → constants.is_index n (Some (negsuc v)) ≡ true → ⊥
negative n v e = cc

below_stands : (t : TablesShape) (k : TypeOf) (n v : ℕ) (q : Pointer) (b : Bool) → v < n → nat_lt v n ≡ b → q.size ≡ n * cells t k → q.size ≤ room → IsNested (suc (length t.structures)) t.structures k → Stands t k (if b then part_of q 0 n (cells t k) v else None)
below_stands t k n v q true below e size few deep =
    let less = no_more n (cells t k) (omega (arith, below)) in
    part_stands t k q 0 n v (omega arith) (deep, omega (arith, less, size, few)) (omega (arith, size))
below_stands t k n v q false below e size few deep = let f : nat_lt v n ≡ true = grind (arith, nat_tests) in cc

at_size : (t : TablesShape) (k : TypeOf) (q : Pointer) → Stands t k (Some q) → q.size ≡ cells t k
at_size t k q h = let e : q ≡ h.at = let x = h.is in cc in ap (λ (p : Pointer). p.size) e ∙ h.size

pub element_stands : (t : TablesShape) (k : TypeOf) (n : ℕ) (i : Constant) (o : Option Pointer) → Stands t (array k n) o → constants.is_index n (constants.value i) ≡ true → Stands t k (element_in t (array k n) (constants.probed i) o)
element_stands t k n (Known j (pos v)) (Some q) h e =
    let size = at_size t (array k n) q h in
    let all = array_cells t k n in
    below_stands t k n v q (nat_lt v n) (index_below n v e) refl (size ∙ all) (omega (arith, size, h.room.1)) h.room.0
element_stands t k n (Known j (pos v)) None h e = let x = h.is in cc
element_stands t k n (Known j (negsuc v)) o h e = absurd (negative n v e)
element_stands t k n No o h e = cc
element_stands t k n (Faulty j) o h e = cc
element_stands t k n Variable o h e = cc
element_stands t k n APart o h e = cc
element_stands t k n Address o h e = cc
element_stands t k n Literal o h e = cc

-- ---- fields

-- a field that typing finds is one of the layout, inside its structure
pub record Found (t : TablesShape) (x : Text) (k : TypeOf) (offset : ℕ) (fields : List FieldShape) : Type 0 where
  pub part : Part
  pub is : part_from t offset x fields ≡ Some part
  pub kind : part.kind ≡ k
  pub inside : part.offset + cells t k ≤ offset + fields_cells t fields

picked : {A : Type 0} (c b : Bool) (x y : A) → c ≡ b → (if c then x else y) ≡ (if b then x else y)
picked c b x y e = ap (λ z. if z then x else y) e

found_one : (t : TablesShape) (x : Text) (k : TypeOf) (offset : ℕ) (f : FieldShape) (fields : List FieldShape) (b : Bool) → bytes_eq x f.name ≡ b → (if b then Some f.kind else field_type x fields) ≡ Some k
    → (field_type x fields ≡ Some k → Found t x k (offset + cells t f.kind) fields) → Found t x k offset (f ∷ fields)
found_one t x k offset f fields true here e rest =
    let same : f.kind ≡ k = cc in
    record { part = record { offset = offset; kind = f.kind }; is = picked (bytes_eq x f.name) true (Some (record { offset = offset; kind = f.kind })) (part_from t (offset + cells t f.kind) x fields) here; kind = same; inside = subst (λ j. offset + cells t j ≤ offset + (cells t f.kind + fields_cells t fields)) same (omega arith) }
found_one t x k offset f fields false here e rest =
    let r = rest e in
    record { part = r.part; is = picked (bytes_eq x f.name) false _ _ here ∙ r.is; kind = r.kind; inside = omega (arith, r.inside) }

pub found : (t : TablesShape) (x : Text) (k : TypeOf) (offset : ℕ) (fields : List FieldShape) → field_type x fields ≡ Some k → Found t x k offset fields
found t x k offset [] e = cc
found t x k offset (f ∷ fields) e = found_one t x k offset f fields (bytes_eq x f.name) refl e (found t x k (offset + cells t f.kind) fields)

field_all : (P : TypeOf → Type 0) (x : Text) (k : TypeOf) (fields : List FieldShape) → field_type x fields ≡ Some k → AllByRecursion (λ (f : FieldShape). P f.kind) fields → P k
field_all P x k [] e h = cc
field_all P x k (f ∷ fields) e h = picked_all P x k f fields (bytes_eq x f.name) e h (λ e. field_all P x k fields e h.1)
  where
    picked_all : (P : TypeOf → Type 0) (x : Text) (k : TypeOf) (f : FieldShape) (fields : List FieldShape) (b : Bool) → (if b then Some f.kind else field_type x fields) ≡ Some k → AllByRecursion (λ (f : FieldShape). P f.kind) (f ∷ fields) → (field_type x fields ≡ Some k → P k) → P k
    picked_all P x k f fields true e h g = let same : f.kind ≡ k = cc in subst P same h.0
    picked_all P x k f fields false e h g = g e

pub field_stands : (t : TablesShape) (n : ℕ) (x : Text) (k : TypeOf) (o : Option Pointer) → field_type x (fields_in (row t.structures n)) ≡ Some k → Stands t (structure n) o → Stands t k (field_in t (part_in t x (structure n)) o)
field_stands t n x k None e h = let y = h.is in cc
field_stands t n x k (Some q) e h =
    let fields = fields_in (row t.structures n) in
    let depth = length t.structures in
    let f = found t x k 0 fields e in
    let size = at_size t (structure n) q h in
    let all = holds_fields t n h.room.0 in
    let few = h.room.1 in
    let inside : f.part.offset + 1 * cells t k ≤ q.size = omega (arith, f.inside, all, size) in
    let deep = nested_more depth (suc depth) t.structures k (omega arith) (field_all (IsNested depth t.structures) x k fields e h.room.0) in
    subst (λ o. Stands t k (field_in t o (Some q))) (sym f.is)
    (subst (λ j. Stands t k (part_of q f.part.offset 1 (cells t j) 0)) (sym f.kind) (part_stands t k q f.part.offset 1 0 (omega (arith, inside, size, few)) (deep, omega (arith, inside, size, few)) inside))
