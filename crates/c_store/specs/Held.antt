-- The cells that an instance holds.
use Rattle.std.specs.Prelude.{List, [], ◌∷◌, Option, Some, None}
use Rattle.c_store.specs.declared.value.Value.{Value}
use Rattle.c_store.specs.declared.instance.Held.{Held}
use Rattle.c_store.specs.declared.instance.Held.TheVariants.{Unset, One, Many}

-- the cells in order
abbrev pub cells_in : Held → List (Option Value)
cells_in Unset = None ∷ []
cells_in (One value) = Some value ∷ []
cells_in (Many cells) = cells.items
