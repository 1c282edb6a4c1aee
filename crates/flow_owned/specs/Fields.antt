-- Tables in which the fields of a structure have different names, in which neither `.` nor `[` stands.
use Rattle.std.specs.Prelude.{◌≡◌, ℕ, ◌&&◌, ◌||◌, List, [], ◌∷◌, nat_eq, not, Bool, true}
use Rattle.std.specs.List.{AllByRecursion}
use Rattle.c_syntax.specs.declared.text.Text.{Text}
use Rattle.c_tables.specs.Tables.{FieldShape, TablesShape}
use Rattle.c_tables.specs.Rows.{row, fields_in}

-- neither `.` nor `[` stands in the name
abbrev pub is_plain : Text → Bool
is_plain [] = true
is_plain (b ∷ bs) = not (nat_eq b 46 || nat_eq b 91) && is_plain bs

-- the names of fields are different, and neither `.` nor `[` stands in one
abbrev pub AreApart : List FieldShape → Type 0
AreApart [] = Unit {0}
AreApart (f ∷ fs) = (is_plain f.name ≡ true) × AllByRecursion (λ (g : FieldShape). f.name ≡ g.name → ⊥) fs × AreApart fs

abbrev pub HaveApartFields : TablesShape → Type 0
HaveApartFields t = (n : ℕ) → AreApart (fields_in (row t.structures n))
