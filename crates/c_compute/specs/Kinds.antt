-- Types behind references, and places within objects.
use Rattle.std.specs.Prelude.{ℕ, ◌+◌, ◌≤◌, pos, nat_lt, Option, Some, None, if◌then◌else◌}
use Rattle.std.specs.Borrow.{Bor}
use Rattle.c_syntax.specs.declared.text.Text.{Text}
use Rattle.c_syntax.specs.declared.tree.CType.{CType}
use Rattle.c_syntax.specs.Shape.{TypeOf, nothing, NodeShape, node, leaf, str}
use Rattle.c_syntax.specs.View.{type_of}
use Rattle.c_constants.specs.declared.constants.Constant.{Constant}
use Rattle.c_constants.specs.declared.constants.Constant.TheVariants.{Known}
use Rattle.c_store.specs.declared.value.Pointer.{Pointer}
use Rattle.c_store.specs.Cells.{cell_of}

-- the type behind a reference; void, where there is none
abbrev pub type_behind : Option (Bor CType) → TypeOf
type_behind None = nothing
type_behind (Some t) = type_of t.now

abbrev pub text_behind : Option (Bor Text) → Option Text
text_behind None = None
text_behind (Some x) = Some x.now

-- the element lies where an object has cells
abbrev pub IsWithin : Pointer → Type 0
IsWithin q = cell_of q + q.size ≤ 1048576

-- the index that a constant is, where it is one below the length
abbrev pub index_below : Constant → ℕ → Option ℕ
index_below (Known k (pos v)) n = if nat_lt v n then Some v else None
index_below c n = None

-- the string that an expression is
abbrev pub string_in : NodeShape → Option Text
string_in (node p o n (leaf (str x))) = Some x
string_in (node p o n f) = None
