-- Scalars in local variables are found at cells of their leaf names, and may be told of by these; structures and arrays stand as wholes.
use Rattle.std.specs.Prelude.{◌≡◌, ◌<◌, ◌+◌, ℕ, List, [], ◌∷◌, slice_get, true, false, Option, Some, None}
use Rattle.c_syntax.specs.declared.text.Text.{Text}
use Rattle.c_syntax.specs.Shape.{TypeOf, NodeShape}
use Rattle.c_type_rules.specs.Kinds.{is_scalar}
use Rattle.c_store.specs.declared.value.Pointer.{Pointer}
use Rattle.c_store.specs.Cells.{cell_of}
use Rattle.c_tables.specs.Tables.{TablesShape}
use Rattle.c_walk.specs.Items.{Direct}
use Rattle.c_walk.specs.Places.{direct}
use Rattle.c_meaning.specs.State.{Bound, found_in}
use Rattle.c_meaning.specs.Layout.{cells, variable_kind}
use Rattle.flow_calls.specs.Placing.{Local, Sites}
use Rattle.flow_places.specs.Sited.{StandsFor, IsUsedAt, IsDefinedAt, StandsWhole}
use Rattle.flow_leaves.specs.Kinded.{IsKinded}
use Rattle.flow_leaves.specs.Standing.{root_of}
use Rattle.flow_leaves.specs.CellNames.{cell_names, AreLayered}

-- ---- leaf names

-- past the end stands `[]`, which no cell has alone
abbrev pub text_in : Option Text → Text
text_in None = 91 ∷ 93 ∷ []
text_in (Some x) = x

abbrev pub name_in : TablesShape → Text → Option TypeOf → ℕ → Text
name_in t x None c = 91 ∷ 93 ∷ []
name_in t x (Some k) c = text_in (slice_get (cell_names t x k) c)

-- of a variable's cell, where the variable has that name
abbrev pub leaf_in : TablesShape → Text → ℕ → ℕ → Text
leaf_in t x v c = name_in t x (variable_kind t v) c

-- ---- the laws

-- a scalar that is no variable of file scope, nor in one
pub record IsLocalScalar (t : TablesShape) (F : List Bound) (a : NodeShape) (d : Direct) : Type 0 where
  pub kinded : IsKinded t a
  pub is : direct a ≡ Some d
  pub scalar : is_scalar d.kind ≡ true
  pub local : found_in d.variable F ≡ None

abbrev pub DirectPlacesAreFound : Type 0
DirectPlacesAreFound = (t : TablesShape) → AreLayered t → (F : List Bound) (a : NodeShape) (d : Direct) → IsLocalScalar t F a d → StandsFor F t a d.variable (λ c. leaf_in t (root_of a) d.variable c ≡ d.name)

-- by that one name, where the leaf names of the variable's cells are these
abbrev pub DirectSitesMayBeTold : Type 0
DirectSitesMayBeTold = (t : TablesShape) → AreLayered t → (S : Sites) (F : List Bound) (a : NodeShape) (d : Direct) (v : Local) → IsLocalScalar t F a d → v.variable ≡ d.variable → v.names ≡ d.name ∷ []
    → ((c : ℕ) → S.leaf v.variable c ≡ leaf_in t (root_of a) v.variable c) → IsUsedAt S F t a (Some v) × (v.parameter ≡ false → IsDefinedAt S F t a (Some v))

-- a pointer to so many cells as the place's type has, which have the names of that type's, where the variable has that name
pub record HasCells (t : TablesShape) (x : Text) (d : Direct) (q : Pointer) : Type 0 where
  pub size : q.size ≡ cells t d.kind
  pub named : (i : ℕ) → i < cells t d.kind → slice_get (cell_names t d.name d.kind) i ≡ Some (leaf_in t x d.variable (cell_of q + i))

-- a place in a local variable, of any type, stands as a whole
abbrev pub DirectWholesAreFound : Type 0
DirectWholesAreFound = (t : TablesShape) → AreLayered t → (F : List Bound) (a : NodeShape) (d : Direct) → IsKinded t a → direct a ≡ Some d → found_in d.variable F ≡ None → StandsWhole F t a d.variable (HasCells t (root_of a) d)
