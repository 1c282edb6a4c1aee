-- The cells before a field, kept.
use Rattle.std.proofs.Common.{◌≡◌, ℕ, suc, ◌+◌, ◌-◌, ◌^◌, ◌<◌, ◌≤◌, Bool, true, false, List, [], ◌∷◌, length, map, drop, get_or, Option, Some, refl, sym, ap, ◌∙◌, arith, add-one, drop-cons, bytes_eq}
use Rattle.std.specs.Prelude.{if◌then◌else◌}
use Rattle.c_syntax.specs.declared.text.Text.{Text}
use Rattle.c_syntax.specs.View.{type_of}
use Rattle.c_tables.specs.declared.tables.FieldRow.{FieldRow}
use Rattle.c_tables.specs.Tables.{TablesShape, FieldShape, field_shape}
use Rattle.c_meaning.specs.Layout.{Part, cells, part_from}
use Rattle.c_base.specs.Kept.{kept}
use Rattle.c_compute.specs.Parts.{kept_part}
use Rattle.c_compute.proofs.Sizes.{kept_small}

more : (a b c : ℕ) → kept a ≡ kept b → kept (a + c) ≡ kept (b + c)
more a b c e = omega (arith, e)

chosen : (b : Bool) (p q : Option Part) (r s : Option Part) → kept_part p ≡ kept_part q → kept_part r ≡ kept_part s → kept_part (if b then p else r) ≡ kept_part (if b then q else s)
chosen true p q r s e f = e
chosen false p q r s e f = f

-- offsets that are kept alike give parts that are kept alike
part_kept : (t : TablesShape) (a b : ℕ) (x : Text) (fs : List FieldShape) → kept a ≡ kept b → kept_part (part_from t a x fs) ≡ kept_part (part_from t b x fs)
part_kept t a b x [] e = refl
part_kept t a b x (f ∷ fs) e =
    let P : ℕ → Option Part = λ n. Some (record { offset = n; kind = f.kind }) in
    chosen (bytes_eq x f.name) (P a) (P b) (part_from t (a + cells t f.kind) x fs) (part_from t (b + cells t f.kind) x fs) (ap P e) (part_kept t (a + cells t f.kind) (b + cells t f.kind) x fs (more a b (cells t f.kind) e))

offset_kept : (offset size : ℕ) → kept (kept (offset + kept size)) ≡ kept (offset + size)
offset_kept offset size = omega arith

-- ---- at a field of the list

here : (fields : List FieldRow) (i : ℕ) (f : FieldRow) → i < length fields → f ≡ get_or fields i f → drop i fields ≡ f ∷ drop (suc i) fields
here fields i f h is = drop-cons fields i f h ∙ ap (λ g. g ∷ drop (suc i) fields) (sym is)

pub part_here : (t : TablesShape) (fields : List FieldRow) (i o : ℕ) (f : FieldRow) (x : Text) → i < length fields → f ≡ get_or fields i f → bytes_eq x f.name ≡ true → o ≤ 2 ^ 32 - 1 → kept_part (part_from t o x (map field_shape (drop i fields))) ≡ Some (record { offset = o; kind = type_of f.kind })
part_here t fields i o f x h is e small =
    rw (here fields i f h is, e) (ap (λ (n : ℕ). Some (record { offset = n; kind = type_of f.kind })) (kept_small o small))

pub part_past : (t : TablesShape) (fields : List FieldRow) (i o next : ℕ) (f : FieldRow) (x : Text) → i < length fields → f ≡ get_or fields i f → bytes_eq x f.name ≡ false → next ≡ kept (o + kept (cells t (type_of f.kind))) → kept_part (part_from t next x (map field_shape (drop (i + 1) fields))) ≡ kept_part (part_from t o x (map field_shape (drop i fields)))
part_past t fields i o next f x h is e behind =
    rw (add-one, here fields i f h is, e) (part_kept t next (o + cells t (type_of f.kind)) x (map field_shape (drop (suc i) fields)) (ap kept behind ∙ offset_kept o (cells t (type_of f.kind))))
