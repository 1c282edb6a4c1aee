-- A worked element of a local array: it may be told of by its leaf name.
use Rattle.std.proofs.Common.{◌≤◌, ℕ, ◌-◌, [], ◌∷◌, refl, arith, Bool, true, false, Some, None}
use Rattle.std.specs.Prelude.{nat_eq, slice_get, if◌then◌else◌}
use Rattle.std.specs.List.{AllByRecursion}
use Rattle.c_base.specs.declared.place.Pos.{Pos}
use Rattle.c_base.specs.declared.place.IntKind.TheVariants.{Int}
use Rattle.c_syntax.specs.declared.text.Text.{Text}
use Rattle.c_syntax.specs.Shape.{TypeOf, int, pointer, array, structure, nothing, typed, number, name, NodeShape, node, leaf, suffix, index}
use Rattle.c_tables.specs.Tables.{FieldShape, TablesShape}
use Rattle.c_tables.specs.Rows.{fields_in}
use Rattle.c_walk.specs.Items.{Direct}
use Rattle.flow_calls.specs.Placing.{Local, Sites}
use Rattle.flow_places.specs.Sited.{IsUsedAt, IsDefinedAt}
use Rattle.flow_leaves.specs.CellNames.{depth_in, AreLayered}
use Rattle.flow_leaves.specs.Leaves.{leaf_in, IsLocalScalar}
use Rattle.flow_leaves.proofs.Leaves.{sites_may_be_told}

abbrev at : Pos
at = record { line = 1; col = 1 }

abbrev a_text : Text
a_text = 97 ∷ []

-- int a[2];
abbrev tables : TablesShape
tables = record { structures = []; functions = []; variables = record { name = a_text; kind = array (int Int) 2; function = 1 } ∷ []; literals = [] }

-- a[1], which is called a[]
abbrev second : NodeShape
second = node at at (typed (int Int) None) (suffix (node at at (typed (array (int Int) 2) (Some 1)) (leaf (name a_text))) (index (node at at (typed (int Int) None) (leaf (number (49 ∷ []))))))

abbrev called : Direct
called = record { variable = 1; name = 97 ∷ 91 ∷ 93 ∷ []; kind = int Int }

abbrev site : Local
site = record { variable = 1; names = called.name ∷ []; parameter = false }

abbrev sites : Sites
sites = record { defined = λ d. Some site; used = λ u. Some site; leaf = leaf_in tables a_text }

-- there is no structure
no_rows : (P : FieldShape → Type 0) (b : Bool) (i : ℕ) → AllByRecursion P (fields_in (if b then None else slice_get [] i))
no_rows P true i = tt
no_rows P false i = tt

flat : (k : TypeOf) → depth_in (λ n. 0) k ≤ 0
flat (int j) = omega arith
flat (pointer k) = omega arith
flat (array k n) = flat k
flat (structure n) = omega arith
flat nothing = omega arith

layered : AreLayered tables
layered = record { depths = λ n. 0; below = λ n le. no_rows _ (nat_eq n 0) (n - 1); few = λ v k e. flat k }

a_scalar : IsLocalScalar tables [] second called
a_scalar = record { kinded = (refl, ((refl, tt), (tt, tt))); is = refl; scalar = refl; local = refl }

told : IsUsedAt sites [] tables second (Some site)
told = (sites_may_be_told tables layered sites [] second called site a_scalar refl refl (λ c. refl)).0

told_too : IsDefinedAt sites [] tables second (Some site)
told_too = (sites_may_be_told tables layered sites [] second called site a_scalar refl refl (λ c. refl)).1 refl
