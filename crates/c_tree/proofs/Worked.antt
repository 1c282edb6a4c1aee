-- Worked rows: struct s and a structure with no tag, both incomplete, and int f(char).
use Rattle.std.proofs.Common.{◌≡◌, [], ◌∷◌, Some, None, refl}
use Rattle.c_base.specs.declared.place.IntKind.TheVariants.{Char, Int}
use Rattle.c_syntax.specs.Shape.{int}
use Rattle.c_tables.specs.Tables.{FieldShape, StructShape, FunctionShape, TablesShape, with_fields, with_definition}

abbrev s : StructShape
s = record { tag = Some (115 ∷ []); fields = [] }

abbrev untagged : StructShape
untagged = record { tag = None; fields = [] }

abbrev a : FieldShape
a = record { name = 97 ∷ []; kind = int Int }

abbrev f : FunctionShape
f = record { name = 102 ∷ []; result = int Int; params = int Char ∷ []; defined = None }

abbrev rows : TablesShape
rows = record { structures = s ∷ untagged ∷ []; functions = f ∷ []; variables = []; literals = [] }

-- the second structure is struct { int a; }
second_has_member : with_fields 2 (a ∷ []) rows ≡ record { structures = s ∷ record { tag = None; fields = a ∷ [] } ∷ []; functions = f ∷ []; variables = []; literals = [] }
second_has_member = refl

-- f is defined, and its parameter is the variable with number 4
first_is_defined : with_definition 1 (4 ∷ []) rows ≡ record { structures = s ∷ untagged ∷ []; functions = record { name = 102 ∷ []; result = int Int; params = int Char ∷ []; defined = Some (4 ∷ []) } ∷ []; variables = []; literals = [] }
first_is_defined = refl
