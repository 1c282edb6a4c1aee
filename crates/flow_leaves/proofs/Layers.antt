-- The cells of a part have the names that they have in the whole.
use Rattle.std.proofs.Common.{rules, ◌≡◌, ◌∙◌, ℕ, zero, suc, ◌+◌, ◌*◌, ◌<◌, ◌≤◌, ◌++◌, List, [], ◌∷◌, length, length-append, ap, refl, sym, subst, arith, Option, Some, None, Bool, true, false}
use Rattle.std.specs.Prelude.{slice_get, bytes_eq, if◌then◌else◌}
use Rattle.std.specs.List.{repeat, AllByRecursion}
use Rattle.c_syntax.specs.declared.text.Text.{Text}
use Rattle.c_syntax.specs.Shape.{TypeOf, int, pointer, array, structure, nothing}
use Rattle.c_tables.specs.Tables.{StructShape, FieldShape, TablesShape}
use Rattle.c_tables.specs.Rows.{row, fields_in}
use Rattle.std.proofs.lemmas.Slice.Eq.{bytes_eq-Decides}
use Rattle.c_walk.specs.Places.{element_text, field_text}
use Rattle.c_meaning.specs.Layout.{Part, field_scalars, type_scalars, scalars_to, scalars, cells, part_from, part_in}
use Rattle.flow_leaves.specs.Parts.{IsPart, itself, element, member}
use Rattle.flow_leaves.specs.CellNames.{field_names, type_names, names_to, cell_names, depth_in, AreLayered, PartsHaveNames}

-- of two that are the same where they are there
pub some_same : {A : Type 0} (a b : A) → Some a ≡ Some b → a ≡ b
some_same a b e = ap (λ o. or_other a o) e
  where
    or_other : {A : Type 0} → A → Option A → A
    or_other a None = a
    or_other a (Some b) = b

-- ---- lists

slice_left : {A : Type 0} (xs ys : List A) (i : ℕ) → i < length xs → slice_get (xs ++ ys) i ≡ slice_get xs i
slice_left [] ys i lt = absurd (omega (arith, lt))
slice_left (x ∷ xs) ys zero lt = refl
slice_left (x ∷ xs) ys (suc i) lt = slice_left xs ys i (omega (arith, lt))

slice_right : {A : Type 0} (xs ys : List A) (i : ℕ) → slice_get (xs ++ ys) (length xs + i) ≡ slice_get ys i
slice_right [] ys i = ap (slice_get ys) (omega arith)
slice_right (x ∷ xs) ys i = let e : suc (length xs) + i ≡ suc (length xs + i) = omega arith in ap (slice_get (x ∷ (xs ++ ys))) e ∙ slice_right xs ys i

slice_repeat : {A : Type 0} (n j i : ℕ) (xs : List A) → j < n → i < length xs → slice_get (repeat n xs) (j * length xs + i) ≡ slice_get xs i
slice_repeat zero j i xs lt less = absurd (omega (arith, lt))
slice_repeat (suc n) zero i xs lt less = let e : zero * length xs + i ≡ i = omega arith in ap (slice_get (xs ++ repeat n xs)) e ∙ slice_left xs (repeat n xs) i less
slice_repeat (suc n) (suc j) i xs lt less =
    let e : suc j * length xs + i ≡ length xs + (j * length xs + i) = grind arith in
    ap (slice_get (xs ++ repeat n xs)) e ∙ slice_right xs (repeat n xs) (j * length xs + i) ∙ slice_repeat n j i xs (omega (arith, lt)) less

repeat_length : {A : Type 0} (n : ℕ) (xs : List A) → length (repeat n xs) ≡ n * length xs
repeat_length zero xs = grind arith
repeat_length (suc n) xs = let k = repeat_length n xs in length-append xs (repeat n xs) ∙ grind (arith, k)

below_product : (n j i m : ℕ) → j < n → i < m → j * m + i < n * m
below_product zero j i m lt less = absurd (omega (arith, lt))
below_product (suc n) zero i m lt less = let e : suc n * m ≡ m + n * m = grind arith in let f : zero * m + i ≡ i = omega arith in omega (arith, e, f, less)
below_product (suc n) (suc j) i m lt less =
    let e : suc n * m ≡ m + n * m = grind arith in
    let f : suc j * m + i ≡ m + (j * m + i) = grind arith in
    let rest = below_product n j i m (omega (arith, lt)) less in
    omega (arith, e, f, rest)

same_name : (x y : Text) → bytes_eq x y ≡ true → x ≡ y
same_name x y e = let d = bytes_eq-Decides x y in search (rules, d, e)

-- ---- a name for each cell

module _ (rows : List StructShape) where
  counted_fields : (names : Text → TypeOf → List Text) (kinds : TypeOf → List TypeOf) → ((x : Text) (k : TypeOf) → length (names x k) ≡ length (kinds k)) → (x : Text) (fs : List FieldShape) → length (field_names names x fs) ≡ length (field_scalars kinds fs)
  counted_fields names kinds h x [] = refl
  counted_fields names kinds h x (f ∷ fs) =
      let here = h (x ++ field_text f.name) f.kind in
      let rest = counted_fields names kinds h x fs in
      let left = length-append (names (x ++ field_text f.name) f.kind) (field_names names x fs) in
      let right = length-append (kinds f.kind) (field_scalars kinds fs) in
      omega (arith, here, rest, left, right)

  counted_type : (names : Text → TypeOf → List Text) (kinds : TypeOf → List TypeOf) → ((x : Text) (k : TypeOf) → length (names x k) ≡ length (kinds k)) → (x : Text) (k : TypeOf) → length (type_names names rows x k) ≡ length (type_scalars kinds rows k)
  counted_type names kinds h x (int k) = refl
  counted_type names kinds h x (pointer k) = refl
  counted_type names kinds h x (array k n) =
      repeat_length n (type_names names rows (x ++ element_text) k) ∙ ap (λ (m : ℕ). n * m) (counted_type names kinds h (x ++ element_text) k) ∙ sym (repeat_length n (type_scalars kinds rows k))
  counted_type names kinds h x (structure n) = counted_fields names kinds h x (fields_in (row rows n))
  counted_type names kinds h x nothing = refl

  counted : (depth : ℕ) (x : Text) (k : TypeOf) → length (names_to depth rows x k) ≡ length (scalars_to depth rows k)
  counted zero x k = refl
  counted (suc depth) x k = counted_type (names_to depth rows) (scalars_to depth rows) (counted depth) x k

pub names_counted : (t : TablesShape) (x : Text) (k : TypeOf) → length (cell_names t x k) ≡ cells t k
names_counted t x k = counted t.structures (suc (length t.structures)) x k

-- ---- how deep structures lie doesn't matter beyond their depth

module _ (t : TablesShape) (l : AreLayered t) where
  same_fields : (a b : Text → TypeOf → List Text) (n : ℕ) → ((x : Text) (k : TypeOf) → depth_in l.depths k < n → a x k ≡ b x k) → (x : Text) (fs : List FieldShape) → AllByRecursion (λ (f : FieldShape). depth_in l.depths f.kind < n) fs
      → field_names a x fs ≡ field_names b x fs
  same_fields a b n h x [] g = refl
  same_fields a b n h x (f ∷ fs) g = ap (λ xs. xs ++ field_names a x fs) (h (x ++ field_text f.name) f.kind g.0) ∙ ap (λ xs. b (x ++ field_text f.name) f.kind ++ xs) (same_fields a b n h x fs g.1)

  same_type : (a b : Text → TypeOf → List Text) (n : ℕ) → n ≤ length t.structures → ((x : Text) (k : TypeOf) → depth_in l.depths k < n → a x k ≡ b x k) → (x : Text) (k : TypeOf) → depth_in l.depths k ≤ n → type_names a t.structures x k ≡ type_names b t.structures x k
  same_type a b n small h x (int k) le = refl
  same_type a b n small h x (pointer k) le = refl
  same_type a b n small h x (array k c) le = ap (repeat c) (same_type a b n small h (x ++ element_text) k le)
  same_type a b n small h x (structure m) le = same_fields a b (l.depths m) (λ x k lt. h x k (omega (arith, lt, le))) x (fields_in (row t.structures m)) (l.below m (omega (arith, le, small)))
  same_type a b n small h x nothing le = refl

  deep : (d e : ℕ) (x : Text) (k : TypeOf) → depth_in l.depths k ≤ length t.structures → depth_in l.depths k < d → depth_in l.depths k < e → names_to d t.structures x k ≡ names_to e t.structures x k
  deep zero e x k small lt less = absurd (omega (arith, lt))
  deep (suc d) zero x k small lt less = absurd (omega (arith, less))
  deep (suc d) (suc e) x k small lt less =
      same_type (names_to d t.structures) (names_to e t.structures) (depth_in l.depths k) small (λ y j g. deep d e y j (omega (arith, g, small)) (omega (arith, g, lt)) (omega (arith, g, less))) x k (omega arith)

  -- a structure has the names of its fields
  opened : (x : Text) (m : ℕ) → l.depths m ≤ length t.structures → cell_names t x (structure m) ≡ field_names (cell_names t) x (fields_in (row t.structures m))
  opened x m small =
      let n = length t.structures in
      same_fields (names_to n t.structures) (names_to (suc n) t.structures) (l.depths m) (λ y k lt. deep n (suc n) y k (omega (arith, lt, small)) (omega (arith, lt, small)) (omega (arith, lt, small))) x (fields_in (row t.structures m)) (l.below m small)

  -- ---- fields

  -- the cells of a field, among those of the fields from that offset on
  abbrev FieldAt : Text → Text → ℕ → List FieldShape → Part → Type 0
  FieldAt z f a fs p = (i : ℕ) → i < cells t p.kind
      → (o : ℕ) × (p.offset ≡ a + o) × (o + i < length (field_names (cell_names t) z fs)) × (slice_get (field_names (cell_names t) z fs) (o + i) ≡ slice_get (cell_names t (z ++ field_text f) p.kind) i)

  first_field : (z f : Text) (a : ℕ) (g : FieldShape) (fs : List FieldShape) → f ≡ g.name → FieldAt z f a (g ∷ fs) (record { offset = a; kind = g.kind })
  first_field z f a g fs e i lt =
      let here = cell_names t (z ++ field_text g.name) g.kind in
      let rest = field_names (cell_names t) z fs in
      let size = names_counted t (z ++ field_text g.name) g.kind in
      let at : 0 + i ≡ i = omega arith in (
        0,
        omega arith,
        omega (arith, lt, size, length-append here rest),
        ap (slice_get (here ++ rest)) at ∙ slice_left here rest i (omega (arith, lt, size)) ∙ ap (λ (x : Text). slice_get (cell_names t (z ++ field_text x) g.kind) i) (sym e),
      )

  later_field : (z f : Text) (a : ℕ) (g : FieldShape) (fs : List FieldShape) (p : Part) → FieldAt z f (a + cells t g.kind) fs p → FieldAt z f a (g ∷ fs) p
  later_field z f a g fs p h i lt =
      let here = cell_names t (z ++ field_text g.name) g.kind in
      let rest = field_names (cell_names t) z fs in
      let size = names_counted t (z ++ field_text g.name) g.kind in
      let one = h i lt in
      let at : (length here + one.0) + i ≡ length here + (one.0 + i) = omega arith in (
        length here + one.0,
        omega (arith, one.1, size),
        omega (arith, one.2, length-append here rest),
        ap (slice_get (here ++ rest)) at ∙ slice_right here rest (one.0 + i) ∙ one.3,
      )

  either_field : (z f : Text) (a : ℕ) (g : FieldShape) (fs : List FieldShape) (p : Part) (b : Bool) → bytes_eq f g.name ≡ b → (part_from t (a + cells t g.kind) f fs ≡ Some p → FieldAt z f (a + cells t g.kind) fs p)
      → (if b then Some (record { offset = a; kind = g.kind }) else part_from t (a + cells t g.kind) f fs) ≡ Some p → FieldAt z f a (g ∷ fs) p
  either_field z f a g fs p true e h is = subst (FieldAt z f a (g ∷ fs)) (some_same _ p is) (first_field z f a g fs (same_name f g.name e))
  either_field z f a g fs p false e h is = later_field z f a g fs p (h is)

  field_at : (z f : Text) (a : ℕ) (fs : List FieldShape) (p : Part) → part_from t a f fs ≡ Some p → FieldAt z f a fs p
  field_at z f a [] p is = cc
  field_at z f a (g ∷ fs) p is = either_field z f a g fs p (bytes_eq f g.name) refl (field_at z f (a + cells t g.kind) fs p) is

  -- ---- parts

  abbrev IsNamed : TypeOf → Text → ℕ → TypeOf → Text → Type 0
  IsNamed k x o j y = (i : ℕ) → i < cells t j → (o + i < cells t k) × (slice_get (cell_names t x k) (o + i) ≡ slice_get (cell_names t y j) i)

  named_itself : (k : TypeOf) (x : Text) → IsNamed k x 0 k x
  named_itself k x i lt = let e : 0 + i ≡ i = omega arith in (omega (arith, lt), ap (slice_get (cell_names t x k)) e)

  named_element : (k : TypeOf) (x : Text) (o n c : ℕ) (y : TypeOf) (z : Text) → IsNamed k x o (array y n) z → c < n → IsNamed k x (o + c * cells t y) y (z ++ element_text)
  named_element k x o n c y z h less i lt =
      let names = cell_names t (z ++ element_text) y in
      let size : length names ≡ cells t y = names_counted t (z ++ element_text) y in
      let whole : cells t (array y n) ≡ n * cells t y = repeat_length n (scalars t y) in
      let at = c * cells t y + i in
      let inside : at < cells t (array y n) = subst (λ (m : ℕ). at < m) (sym whole) (below_product n c i (cells t y) less lt) in
      let one = h at inside in
      let e : (o + c * cells t y) + i ≡ o + at = omega arith in
      let f : at ≡ c * length names + i = ap (λ (m : ℕ). c * m + i) (sym size) in
      (subst (λ (m : ℕ). m < cells t k) (sym e) one.0, ap (slice_get (cell_names t x k)) e ∙ one.1 ∙ ap (slice_get (repeat n names)) f ∙ slice_repeat n c i names less (omega (arith, lt, size)))

  named_member : (k : TypeOf) (x : Text) (o m : ℕ) (z f : Text) (p : Part) → l.depths m ≤ length t.structures → IsNamed k x o (structure m) z → part_in t f (structure m) ≡ Some p → IsNamed k x (o + p.offset) p.kind (z ++ field_text f)
  named_member k x o m z f p small h is i lt =
      let fields = fields_in (row t.structures m) in
      let at = field_at z f 0 fields p is i lt in
      let size : length (field_names (cell_names t) z fields) ≡ cells t (structure m) = sym (ap length (opened z m small)) ∙ names_counted t z (structure m) in
      let one = h (at.0 + i) (omega (arith, at.2, size)) in
      let e : (o + p.offset) + i ≡ o + (at.0 + i) = omega (arith, at.1) in
      (subst (λ (n : ℕ). n < cells t k) (sym e) one.0, ap (slice_get (cell_names t x k)) e ∙ one.1 ∙ ap (λ xs. slice_get xs (at.0 + i)) (opened z m small) ∙ at.3)

  -- a field lies less deep than its structure
  either_below : (n a : ℕ) (f : Text) (g : FieldShape) (fs : List FieldShape) (p : Part) (b : Bool) → depth_in l.depths g.kind < n → (part_from t (a + cells t g.kind) f fs ≡ Some p → depth_in l.depths p.kind < n)
      → (if b then Some (record { offset = a; kind = g.kind }) else part_from t (a + cells t g.kind) f fs) ≡ Some p → depth_in l.depths p.kind < n
  either_below n a f g fs p true here later is = subst (λ (p : Part). depth_in l.depths p.kind < n) (some_same _ p is) here
  either_below n a f g fs p false here later is = later is

  field_below : (n a : ℕ) (f : Text) (fs : List FieldShape) (p : Part) → AllByRecursion (λ (g : FieldShape). depth_in l.depths g.kind < n) fs → part_from t a f fs ≡ Some p → depth_in l.depths p.kind < n
  field_below n a f [] p all is = cc
  field_below n a f (g ∷ fs) p all is = either_below n a f g fs p (bytes_eq f g.name) all.0 (field_below n (a + cells t g.kind) f fs p all.1) is

  part_below : (k : TypeOf) (x : Text) (o : ℕ) (j : TypeOf) (y : Text) → depth_in l.depths k ≤ length t.structures → IsPart t k x o j y → depth_in l.depths j ≤ length t.structures
  part_below k x o j y small itself = small
  part_below k x o j y small (element p n i y2 z h lt) = part_below k x p (array y2 n) z small h
  part_below k x o j y small (member p m z f q h is) =
      let whole = part_below k x p (structure m) z small h in
      let less = field_below (l.depths m) 0 f (fields_in (row t.structures m)) q (l.below m whole) is in
      omega (arith, less, whole)

  named : (k : TypeOf) (x : Text) (o : ℕ) (j : TypeOf) (y : Text) → depth_in l.depths k ≤ length t.structures → IsPart t k x o j y → IsNamed k x o j y
  named k x o j y small itself = named_itself k x
  named k x o j y small (element p n i y2 z h lt) = named_element k x p n i y2 z (named k x p (array y2 n) z small h) lt
  named k x o j y small (member p m z f q h is) = named_member k x p m z f q (part_below k x p (structure m) z small h) (named k x p (structure m) z small h) is

pub parts_have_names : PartsHaveNames
parts_have_names t l v k j x y o e h = named t l k x o j y (l.few v k e) h
