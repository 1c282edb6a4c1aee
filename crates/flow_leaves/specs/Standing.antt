-- Where the place of a direct expression is: at that part of its variable's instance.
use Rattle.std.specs.Prelude.{◌≡◌, ◌<◌, ℕ, [], Some, if◌then◌else◌}
use Rattle.c_syntax.specs.declared.text.Text.{Text}
use Rattle.c_syntax.specs.Shape.{TypeOf, array, name, NodeShape, node, ExprShape, leaf, paren, suffix, index, field}
use Rattle.c_store.specs.declared.value.Pointer.{Pointer}
use Rattle.c_store.specs.Cells.{cell_of}
use Rattle.c_tables.specs.Tables.{TablesShape}
use Rattle.c_walk.specs.Items.{Direct}
use Rattle.c_walk.specs.Places.{has_array}
use Rattle.c_meaning.specs.State.{State, instance_of}
use Rattle.c_meaning.specs.Layout.{cells, variable_kind}
use Rattle.flow_leaves.specs.Parts.{IsPart}

-- ---- names

-- that of the variable with which a direct expression begins
abbrev mutual
  pub root_of : NodeShape → Text
  root_of (node p o n f) = form_root f

  pub form_root : ExprShape → Text
  form_root (leaf (name x)) = x
  form_root (paren a) = root_of a
  form_root (suffix a (field h x q)) = root_of a
  form_root (suffix a (index b)) = if has_array a then root_of a else root_of b
  form_root f = []

-- ---- places

-- of the instance that the variable stands for, where its name is that; one past the end of an array the pointer stands at nothing
pub record StandsAt (t : TablesShape) (x : Text) (d : Direct) (s : State) (q : Pointer) : Type 0 where
  pub kind : TypeOf
  pub is : variable_kind t d.variable ≡ Some kind
  pub there : instance_of d.variable s ≡ Some q.instance
  pub size : q.size ≡ cells t d.kind
  pub part : q.index < q.length → IsPart t kind x (cell_of q) d.kind d.name

-- the first of so many elements of that type, which are those of an array
pub record BeginsAt (t : TablesShape) (x : Text) (d : Direct) (y : TypeOf) (n : ℕ) (s : State) (q : Pointer) : Type 0 where
  pub kind : TypeOf
  pub is : variable_kind t d.variable ≡ Some kind
  pub there : instance_of d.variable s ≡ Some q.instance
  pub first : q.index ≡ 0
  pub length : q.length ≡ n
  pub size : q.size ≡ cells t y
  pub part : IsPart t kind x q.base (array y n) d.name
