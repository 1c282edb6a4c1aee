-- Leaf names without `[]`: each is that of one cell of its variable, where the fields of a structure have different names.
use Rattle.std.specs.Prelude.{◌≡◌, ℕ, ◌+◌, slice_get, Some}
use Rattle.c_syntax.specs.declared.text.Text.{Text}
use Rattle.c_meaning.specs.Calls.{Source}
use Rattle.flow_calls.specs.Placing.{IsStrong}
use Rattle.flow_owned.specs.Fields.{HaveApartFields}
use Rattle.flow_parts.specs.Parts.{parts_of}

-- `[]` stands in the name
abbrev pub HasIndex : Text → Type 0
HasIndex x = (i : ℕ) × (slice_get x i ≡ Some 91) × (slice_get x (i + 1) ≡ Some 93)

-- ---- the law

abbrev pub PartNamesAreStrong : Type 0
PartNamesAreStrong = (P : Source) → HaveApartFields P.tables → (x : ℕ) (n : Text) → (HasIndex n → ⊥) → IsStrong (parts_of P) x n
