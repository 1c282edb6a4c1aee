-- The cells of types, by what arrays have as elements; and the sizes of initialisers.
use Rattle.std.specs.Prelude.{ℕ, suc, ◌+◌, List, [], ◌∷◌}
use Rattle.c_syntax.specs.Shape.{TypeOf, int, pointer, structure, InitShape, one, listed, InitShapes, no_inits, more_inits}
use Rattle.c_tables.specs.Tables.{StructShape}
use Rattle.c_tables.specs.Rows.{row, fields_in}
use Rattle.c_meaning.specs.Layout.{field_scalars}

-- the scalars of a type that is no array, where these are the scalars of a field's type
abbrev pub element_scalars : (TypeOf → List TypeOf) → List StructShape → TypeOf → List TypeOf
element_scalars inner rows (int k) = int k ∷ []
element_scalars inner rows (pointer t) = pointer t ∷ []
element_scalars inner rows (structure n) = field_scalars inner (fields_in (row rows n))
element_scalars inner rows t = []

-- ---- how many initialisers stand in one

abbrev mutual
  pub init_size : InitShape → ℕ
  init_size (one a) = 1
  init_size (listed p items last) = suc (inits_size items)

  pub inits_size : InitShapes → ℕ
  inits_size no_inits = 0
  inits_size (more_inits i rest) = init_size i + inits_size rest
