-- Fields by their names.
use Rattle.std.proofs.Common.{◌≡◌, ℕ, Bool, true, false, Option, Some, None, List, [], ◌∷◌, ◌++◌, map, refl, sym, ap, ◌∙◌}
use Rattle.std.specs.Prelude.{bytes_eq, cond, if◌then◌else◌}
use Rattle.c_scopes.specs.Scoping.{named}
use Rattle.c_scopes.specs.Rows.{Scope}
use Rattle.c_tables.specs.declared.tables.FieldRow.{FieldRow}
use Rattle.c_tables.specs.Tables.{FieldShape, field_shape}
use Rattle.c_tree.specs.State.{field_type}
use Rattle.c_tree.specs.Parts.{is_free}
use Rattle.c_types_expr.specs.FieldNames.{names_of}

pub free_none : (x : List ℕ) (fs : List FieldShape) → None ≡ named x (names_of fs) → is_free (field_type x fs) ≡ true
free_none x [] e = refl
free_none x (f ∷ fs) e = by (bytes_eq x f.name) e (free_none x fs)
  where
    by : (b : Bool) → None ≡ cond b (Some 0) (named x (names_of fs)) → (None ≡ named x (names_of fs) → is_free (field_type x fs) ≡ true) → is_free (if b then Some f.kind else field_type x fs) ≡ true
    by true e k = cc
    by false e k = k e

pub taken_some : (x : List ℕ) (fs : List FieldShape) (n : ℕ) → Some n ≡ named x (names_of fs) → is_free (field_type x fs) ≡ false
taken_some x [] n e = cc
taken_some x (f ∷ fs) n e = by (bytes_eq x f.name) e (taken_some x fs n)
  where
    by : (b : Bool) → Some n ≡ cond b (Some 0) (named x (names_of fs)) → (Some n ≡ named x (names_of fs) → is_free (field_type x fs) ≡ false) → is_free (if b then Some f.kind else field_type x fs) ≡ false
    by true e k = refl
    by false e k = k e

pub free_named : (x : List ℕ) (fs : List FieldShape) → is_free (field_type x fs) ≡ true → named x (names_of fs) ≡ None
free_named x [] e = refl
free_named x (f ∷ fs) e = by (bytes_eq x f.name) e (free_named x fs)
  where
    by : (b : Bool) → is_free (if b then Some f.kind else field_type x fs) ≡ true → (is_free (field_type x fs) ≡ true → named x (names_of fs) ≡ None) → cond b (Some 0) (named x (names_of fs)) ≡ None
    by true e k = cc
    by false e k = k e

names_rows : (rows : List FieldRow) (row : FieldRow) → names_of (map field_shape (rows ++ row ∷ [])) ≡ names_of (map field_shape rows) ++ (row.name, 0) ∷ []
names_rows [] row = refl
names_rows (r ∷ rows) row = ap (λ ns. (r.name, 0) ∷ ns) (names_rows rows row)

pub named_more : (rows more : List FieldRow) (row : FieldRow) (x : List ℕ) (ns ms : Scope ℕ) → ns ≡ names_of (map field_shape rows) → more ≡ rows ++ row ∷ [] → row.name ≡ x → ms ≡ ns ++ (x, 0) ∷ [] → ms ≡ names_of (map field_shape more)
named_more rows more row x ns ms n m e d =
    d ∙ ap (λ y. ns ++ (y, 0) ∷ []) (sym e) ∙ ap (λ zs. zs ++ (row.name, 0) ∷ []) n ∙ sym (names_rows rows row) ∙ ap (λ rs. names_of (map field_shape rs)) (sym m)
