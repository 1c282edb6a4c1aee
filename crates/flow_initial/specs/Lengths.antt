-- Types in which each array has an element.
use Rattle.std.specs.Prelude.{◌≤◌}
use Rattle.std.specs.List.{AllByRecursion}
use Rattle.c_syntax.specs.Shape.{TypeOf, array, UnitShape}
use Rattle.c_syntax.specs.Shaped.{ShapedUnit}
use Rattle.c_tables.specs.Tables.{FieldShape, StructShape, VariableShape, TablesShape}
use Rattle.c_tree.specs.Units.{typed_unit}

-- it is no array, or one of at least one element, and so is the element; behind a pointer may stand anything
abbrev pub IsFilled : TypeOf → Type 0
IsFilled (array k n) = (1 ≤ n) × IsFilled k
IsFilled k = Unit {0}

abbrev pub HasFilledFields : StructShape → Type 0
HasFilledFields s = AllByRecursion (λ (f : FieldShape). IsFilled f.kind) s.fields

abbrev pub AreFilled : TablesShape → Type 0
AreFilled t = AllByRecursion HasFilledFields t.structures × AllByRecursion (λ (v : VariableShape). IsFilled v.kind) t.variables

-- each array among the variables and the fields of a unit that the grammar allows has an element, whatever is complained of
abbrev pub ArraysAreFilled : Type 0
ArraysAreFilled = (u : UnitShape) → ShapedUnit u → AreFilled (typed_unit u).state.tables
