-- Leaf names through arrays, and by the depth.
use Rattle.std.proofs.Common.{◌≡◌, ℕ, zero, suc, ◌+◌, ◌-◌, ◌<◌, ◌++◌, List, [], ◌∷◌, length, take, true, refl, sym, ap, ◌∙◌, append_assoc, append-nil, arith}
use Rattle.std.proofs.Math.Seq.{take-append_seam}
use Rattle.c_syntax.specs.declared.text.Text.{Text}
use Rattle.c_syntax.specs.Shape.{TypeOf, int, pointer, array, structure, nothing}
use Rattle.c_type_rules.specs.Kinds.{is_scalar}
use Rattle.c_tables.specs.Tables.{StructShape, FieldShape}
use Rattle.c_walk.specs.Places.{element_text, field_text}
use Rattle.c_sites.specs.Names.{field_leaves, type_leaves, leaves}
use Rattle.c_sites.specs.Elements.{element, elements_text, element_leaves}

through : (inner : Text → TypeOf → List Text) (rows : List StructShape) (x : Text) (t : TypeOf) → type_leaves inner rows x t ≡ element_leaves inner rows (elements_text x t) (element t)
through inner rows x (int k) = refl
through inner rows x (pointer t) = refl
through inner rows x (array t n) = through inner rows (x ++ element_text) t
through inner rows x (structure n) = refl
through inner rows x nothing = refl

pub none_deep : (depth : ℕ) (rows : List StructShape) (x : Text) (t : TypeOf) → depth ≡ 0 → leaves depth rows x t ≡ []
none_deep depth rows x t h = ap (λ d. leaves d rows x t) h

pub leaves_deep : (depth : ℕ) (rows : List StructShape) (x : Text) (t : TypeOf) → 0 < depth → leaves depth rows x t ≡ element_leaves (leaves (depth - 1) rows) rows (elements_text x t) (element t)
leaves_deep zero rows x t h = absurd (omega (arith, h))
leaves_deep (suc depth) rows x t h = let e : suc depth - 1 ≡ depth = omega arith in rw e (through (leaves depth rows) rows x t)

-- an integer or a pointer has its own name alone
pub scalar_leaves : (depth : ℕ) (rows : List StructShape) (x : Text) (t : TypeOf) → is_scalar t ≡ true → leaves (depth + 1) rows x t ≡ x ∷ []
scalar_leaves depth rows x t h = let e : depth + 1 ≡ suc depth = omega arith in rw e (scalar (leaves depth rows) rows x t h)
  where
    scalar : (inner : Text → TypeOf → List Text) (rows : List StructShape) (x : Text) (t : TypeOf) → is_scalar t ≡ true → type_leaves inner rows x t ≡ x ∷ []
    scalar inner rows x (int k) h = refl
    scalar inner rows x (pointer t) h = refl
    scalar inner rows x (array t n) h = cc
    scalar inner rows x (structure n) h = cc
    scalar inner rows x nothing h = cc

-- one field more
pub fields_more : (inner : Text → TypeOf → List Text) (x : Text) (fs gs : List FieldShape) → field_leaves inner x (fs ++ gs) ≡ field_leaves inner x fs ++ field_leaves inner x gs
fields_more inner x [] gs = refl
fields_more inner x (f ∷ fs) gs =
    let own = inner (x ++ field_text f.name) f.kind in
    ap (λ l. own ++ l) (fields_more inner x fs gs) ∙ sym (append_assoc own (field_leaves inner x fs) (field_leaves inner x gs))

-- ---- the text of a part

elements_more : (x : Text) (t : TypeOf) → (y : Text) × (elements_text x t ≡ x ++ y)
elements_more x (int k) = ([], sym (append-nil x))
elements_more x (pointer t) = ([], sym (append-nil x))
elements_more x (array t n) = let m = elements_more (x ++ element_text) t in (element_text ++ m.0, m.1 ∙ append_assoc x element_text m.0)
elements_more x (structure n) = ([], sym (append-nil x))
elements_more x nothing = ([], sym (append-nil x))

-- what stands in front is found again
pub elements_taken : (x : Text) (t : TypeOf) → take (length x) (elements_text x t) ≡ x
elements_taken x t = let m = elements_more x t in ap (take (length x)) m.1 ∙ take-append_seam x m.0
