-- Leaf names without `[]` are those of one cell.
use Rattle.std.proofs.Common.{inl, inr, ◌≡◌, ◌∙◌, ◌⊎◌, ℕ, zero, suc, ◌+◌, ◌++◌, List, [], ◌∷◌, length, append_assoc, append-nil, ap, refl, sym, subst, arith, Option, Some, None, Bool, true, false}
use Rattle.std.specs.Prelude.{slice_get, nat_eq, not, ◌||◌}
use Rattle.std.specs.List.{repeat, AllByRecursion}
use Rattle.std.proofs.lemmas.Bool.{true≢false, and_parts}
use Rattle.c_syntax.specs.declared.text.Text.{Text}
use Rattle.c_syntax.specs.Shape.{TypeOf, int, pointer, array, structure, nothing}
use Rattle.c_tables.specs.Tables.{StructShape, FieldShape}
use Rattle.c_tables.specs.Rows.{row, fields_in}
use Rattle.c_walk.specs.Places.{element_text, field_text}
use Rattle.c_meaning.specs.Layout.{variable_kind}
use Rattle.flow_leaves.specs.CellNames.{field_names, names_to, cell_names}
use Rattle.flow_leaves.proofs.Layers.{some_same}
use Rattle.flow_leaves.specs.Leaves.{text_in, name_in}
use Rattle.flow_owned.specs.Own as owned
use Rattle.flow_owned.specs.Fields.{is_plain, AreApart}
use Rattle.flow_parts.specs.Strong.{HasIndex, PartNamesAreStrong}

-- ---- lists

pub none_some : {A : Type 0} (x : A) → None ≡ Some x → ⊥
none_some x e = cc

-- in two lists, one behind the other, it is in the first or in the second
side : {A : Type 0} (xs ys : List A) (i : ℕ) (x : A) → slice_get (xs ++ ys) i ≡ Some x → (slice_get xs i ≡ Some x) ⊎ ((j : ℕ) × (i ≡ length xs + j) × (slice_get ys j ≡ Some x))
side [] ys i x e = inr (i, omega arith, e)
side (y ∷ xs) ys zero x e = inl e
side (y ∷ xs) ys (suc i) x e = elim (side xs ys i x e) [ inl h ↦ inl h | inr h ↦ let k = h.1 in inr (h.0, omega (arith, k), h.2) ]

of_repeated : {A : Type 0} (n : ℕ) (xs : List A) (i : ℕ) (x : A) → slice_get (repeat n xs) i ≡ Some x → (j : ℕ) × (slice_get xs j ≡ Some x)
of_repeated zero xs i x e = absurd (none_some x e)
of_repeated (suc n) xs i x e = elim (side xs (repeat n xs) i x e) [ inl h ↦ (i, h) | inr h ↦ of_repeated n xs h.0 x h.2 ]

-- the head and the rest of a text
abbrev pub head_of : Text → ℕ
head_of [] = 0
head_of (b ∷ bs) = b

abbrev rest_of : Text → Text
rest_of [] = []
rest_of (b ∷ bs) = bs

pub not_empty : (b : ℕ) (bs : Text) → b ∷ bs ≡ [] → ⊥
not_empty b bs e = cc

past : (x y z : Text) → x ++ y ≡ x ++ z → y ≡ z
past [] y z e = e
past (b ∷ x) y z e = past x y z (ap rest_of e)

-- ---- texts

abbrev is_part_byte : ℕ → Bool
is_part_byte b = nat_eq b 46 || nat_eq b 91

-- what follows a name in a leaf name: nothing, or a text from `.` or `[` on
abbrev is_behind : Text → Bool
is_behind [] = true
is_behind (b ∷ bs) = is_part_byte b

never_both : (b : Bool) → b ≡ true → not b ≡ true → ⊥
never_both true e h = true≢false (sym h)
never_both false e h = true≢false (sym e)

-- a plain name ends where another text begins so
same_plain : (a b p q : Text) → is_plain a ≡ true → is_plain b ≡ true → is_behind p ≡ true → is_behind q ≡ true → a ++ p ≡ b ++ q → a ≡ b
same_plain [] [] p q h k u v e = refl
same_plain [] (c ∷ b) p q h k u v e = absurd (never_both (is_part_byte c) (ap is_behind (sym e) ∙ u) (and_parts (not (is_part_byte c)) (is_plain b) k).0)
same_plain (c ∷ a) [] p q h k u v e = absurd (never_both (is_part_byte c) (ap is_behind e ∙ v) (and_parts (not (is_part_byte c)) (is_plain a) h).0)
same_plain (c ∷ a) (d ∷ b) p q h k u v e =
    let one = same_plain a b p q (and_parts (not (is_part_byte c)) (is_plain a) h).1 (and_parts (not (is_part_byte d)) (is_plain b) k).1 u v (ap rest_of e) in
    ap (λ (z : ℕ). z ∷ a) (ap head_of e) ∙ ap (λ z. d ∷ z) one

-- ---- names begin with the object's

record Begun (x y : Text) : Type 0 where
  rest : Text
  is : y ≡ x ++ rest
  behind : is_behind rest ≡ true

index_there : (x y : Text) → HasIndex (x ++ 91 ∷ 93 ∷ y)
index_there [] y = (0, refl, refl)
index_there (b ∷ x) y =
    let h = index_there x y in
    let e : suc h.0 + 1 ≡ suc (h.0 + 1) = omega arith in
    (suc h.0, h.1, ap (slice_get (b ∷ (x ++ 91 ∷ 93 ∷ y))) e ∙ h.2)

indexed : (x y : Text) → Begun (x ++ element_text) y → HasIndex y
indexed x y b = subst HasIndex (sym (b.is ∙ append_assoc x element_text b.rest)) (index_there x b.rest)

begun_further : (x z y : Text) → is_behind z ≡ true → (z ≡ [] → ⊥) → Begun (x ++ z) y → Begun x y
begun_further x [] y h some b = absurd (some refl)
begun_further x (c ∷ z) y h some b = record { rest = c ∷ (z ++ b.rest); is = b.is ∙ append_assoc x (c ∷ z) b.rest; behind = h }

itself : (x y : Text) (i : ℕ) → slice_get (x ∷ []) i ≡ Some y → (i ≡ 0) × (y ≡ x)
itself x y zero e = (refl, sym (some_same x y e))
itself x y (suc i) e = absurd (none_some y e)

begun_itself : (x y : Text) → y ≡ x → Begun x y
begun_itself x y e = record { rest = []; is = e ∙ sym (append-nil x); behind = refl }

module _ (rows : List StructShape) where
  abbrev AreBegun : (Text → TypeOf → List Text) → Type 0
  AreBegun names = (x : Text) (k : TypeOf) (i : ℕ) (y : Text) → slice_get (names x k) i ≡ Some y → Begun x y

  fields_begun : (names : Text → TypeOf → List Text) → AreBegun names → (x : Text) (fs : List FieldShape) (i : ℕ) (y : Text) → slice_get (field_names names x fs) i ≡ Some y → Begun x y
  fields_begun names h x [] i y e = absurd (none_some y e)
  fields_begun names h x (f ∷ fs) i y e = elim (side (names (x ++ field_text f.name) f.kind) (field_names names x fs) i y e) [
    | inl g ↦ begun_further x (field_text f.name) y refl (λ k. not_empty 46 f.name k) (h (x ++ field_text f.name) f.kind i y g)
    | inr g ↦ fields_begun names h x fs g.0 y g.2
  ]

  begun : (depth : ℕ) → AreBegun (names_to depth rows)
  begun zero x k i y e = absurd (none_some y e)
  begun (suc depth) x (int j) i y e = begun_itself x y (itself x y i e).1
  begun (suc depth) x (pointer k) i y e = begun_itself x y (itself x y i e).1
  begun (suc depth) x (array k n) i y e =
      let one = of_repeated n (names_to (suc depth) rows (x ++ element_text) k) i y e in
      begun_further x element_text y refl (λ k. not_empty 91 (93 ∷ []) k) (begun (suc depth) (x ++ element_text) k one.0 y one.1)
  begun (suc depth) x (structure n) i y e = fields_begun (names_to depth rows) (begun depth) x (fields_in (row rows n)) i y e
  begun (suc depth) x nothing i y e = absurd (none_some y e)

  -- ---- and no two cells have one without `[]`

  abbrev AreSingle : (Text → TypeOf → List Text) → Type 0
  AreSingle names = (x : Text) (k : TypeOf) (y : Text) → (HasIndex y → ⊥) → (i j : ℕ) → slice_get (names x k) i ≡ Some y → slice_get (names x k) j ≡ Some y → i ≡ j

  -- a name in a field isn't one in fields of other names
  not_further : (names : Text → TypeOf → List Text) → AreBegun names → (x a : Text) (fs : List FieldShape) (y : Text) → is_plain a ≡ true → AllByRecursion (λ (g : FieldShape). a ≡ g.name → ⊥) fs → AreApart fs
      → Begun (x ++ field_text a) y → (j : ℕ) → slice_get (field_names names x fs) j ≡ Some y → ⊥
  not_further names h x a [] y plain others apart b j e = none_some y e
  not_further names h x a (f ∷ fs) y plain others apart b j e = elim (side (names (x ++ field_text f.name) f.kind) (field_names names x fs) j y e) [
    | inl g ↦
        let c = h (x ++ field_text f.name) f.kind j y g in
        let both = sym (b.is ∙ append_assoc x (field_text a) b.rest) ∙ (c.is ∙ append_assoc x (field_text f.name) c.rest) in
        others.0 (same_plain a f.name b.rest c.rest plain apart.0 b.behind c.behind (ap rest_of (past x (field_text a ++ b.rest) (field_text f.name ++ c.rest) both)))
    | inr g ↦ not_further names h x a fs y plain others.1 apart.2 b g.0 g.2
  ]

  fields_single : (names : Text → TypeOf → List Text) → AreBegun names → AreSingle names → (x : Text) (fs : List FieldShape) → AreApart fs → (y : Text) → (HasIndex y → ⊥) → (i j : ℕ) → slice_get (field_names names x fs) i ≡ Some y
      → slice_get (field_names names x fs) j ≡ Some y → i ≡ j
  fields_single names h one x [] apart y free i j e g = absurd (none_some y e)
  fields_single names h one x (f ∷ fs) apart y free i j e g =
      let z = x ++ field_text f.name in
      let front = names z f.kind in
      let rest = field_names names x fs in
      elim (side front rest i y e) [
        | inl a ↦ elim (side front rest j y g) [
          | inl b ↦ one z f.kind y free i j a b
          | inr b ↦ absurd (not_further names h x f.name fs y apart.0 apart.1 apart.2 (h z f.kind i y a) b.0 b.2)
        ]
        | inr a ↦ elim (side front rest j y g) [
          | inl b ↦ absurd (not_further names h x f.name fs y apart.0 apart.1 apart.2 (h z f.kind j y b) a.0 a.2)
          | inr b ↦ let k = fields_single names h one x fs apart.2 y free a.0 b.0 a.2 b.2 in a.1 ∙ ap (λ (m : ℕ). length front + m) k ∙ sym b.1
        ]
      ]

  single : ((n : ℕ) → AreApart (fields_in (row rows n))) → (depth : ℕ) → AreSingle (names_to depth rows)
  single apart zero x k y free i j e g = absurd (none_some y e)
  single apart (suc depth) x (int k) y free i j e g = (itself x y i e).0 ∙ sym (itself x y j g).0
  single apart (suc depth) x (pointer k) y free i j e g = (itself x y i e).0 ∙ sym (itself x y j g).0
  single apart (suc depth) x (array k n) y free i j e g =
      let one = of_repeated n (names_to (suc depth) rows (x ++ element_text) k) i y e in
      absurd (free (indexed x y (begun (suc depth) (x ++ element_text) k one.0 y one.1)))
  single apart (suc depth) x (structure n) y free i j e g = fields_single (names_to depth rows) (begun depth) (single apart depth) x (fields_in (row rows n)) (apart n) y free i j e g
  single apart (suc depth) x nothing y free i j e g = absurd (none_some y e)

-- ---- the law

-- a cell past the end is called `[]`
past_index : (n : Text) → (HasIndex n → ⊥) → 91 ∷ 93 ∷ [] ≡ n → ⊥
past_index n free e = free (subst HasIndex e (index_there [] []))

text_there : (o : Option Text) (n : Text) → (HasIndex n → ⊥) → text_in o ≡ n → o ≡ Some n
text_there None n free e = absurd (past_index n free e)
text_there (Some x) n free e = ap Some e

pub part_names_are_strong : PartNamesAreStrong
part_names_are_strong P apart x n free i j e g = in_kind (variable_kind P.tables x) e g
  where
    in_kind : (o : Option TypeOf) → name_in P.tables (owned.name_in (row P.tables.variables x)) o i ≡ n → name_in P.tables (owned.name_in (row P.tables.variables x)) o j ≡ n → i ≡ j
    in_kind None e g = absurd (past_index n free e)
    in_kind (Some k) e g =
        let y = owned.name_in (row P.tables.variables x) in
        single P.tables.structures apart (suc (length P.tables.structures)) y k n free i j (text_there (slice_get (cell_names P.tables y k) i) n free e) (text_there (slice_get (cell_names P.tables y k) j) n free g)
