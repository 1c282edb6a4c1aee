-- The parts of an object (C89, 3.1.2.5), each by its first cell, its type and its name: the object itself, elements and fields.
use Rattle.std.specs.Prelude.{◌≡◌, ◌<◌, ℕ, ◌+◌, ◌*◌, ◌++◌, Some}
use Rattle.c_syntax.specs.declared.text.Text.{Text}
use Rattle.c_syntax.specs.Shape.{TypeOf, array, structure}
use Rattle.c_tables.specs.Tables.{TablesShape}
use Rattle.c_walk.specs.Places.{element_text, field_text}
use Rattle.c_meaning.specs.Layout.{Part, cells, part_in}

-- of an object of that type and name
pub data IsPart (t : TablesShape) (k : TypeOf) (x : Text) : ℕ → TypeOf → Text → Type 0 where
  itself : IsPart t k x 0 k x
  element : (o n i : ℕ) (y : TypeOf) (z : Text) → IsPart t k x o (array y n) z → i < n → IsPart t k x (o + i * cells t y) y (z ++ element_text)
  member : (o m : ℕ) (z f : Text) (p : Part) → IsPart t k x o (structure m) z → part_in t f (structure m) ≡ Some p → IsPart t k x (o + p.offset) p.kind (z ++ field_text f)
