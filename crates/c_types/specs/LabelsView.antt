-- The labels of a switch, wherever they lie in memory, and one label.
use Rattle.std.specs.Prelude.{◌≡◌, ℤ, List, map, Option, Some, None, option_map}
use Rattle.std.specs.Ordering.{int_eq}
use Rattle.indexmap.specs.IndexSet.{insert_key}
use Rattle.c_base.specs.declared.place.IntKind.{IntKind}
use Rattle.c_syntax.specs.Shape.{LabelShape, case, default}
use Rattle.c_constants.specs.Constants as constants
use Rattle.c_tree.specs.State.{State, step, steps}
use Rattle.c_tree.specs.Sorts.{pos_in}
use Rattle.c_tree.specs.Operators.{is_among}
use Rattle.c_tree.specs.Parts.{judged_constant}
use Rattle.c_tree.specs.Typing.{type_node}
use Rattle.c_tree.specs.Stating as stating
use Rattle.c_tree.specs.Stating.{case_state, case_labels, default_state, default_labels}
use Rattle.c_types.specs.declared.labels.Labels.{Labels}

-- values that were seen, with another one
abbrev pub with_inserted : List ℤ → Option ℤ → List ℤ
with_inserted seen None = seen
with_inserted seen (Some v) = insert_key int_eq seen v

abbrev pub labels_of : Labels → stating.Labels
labels_of l = record { kind = l.kind; values = map Some l.seen.keys; default = l.default }

-- those of the switch in which a statement directly stands, if it does
abbrev pub labels_in : Option Labels → Option stating.Labels
labels_in o = option_map labels_of o

-- the same labels, in whatever order: a value of a known type is among the ones where it is among the others
pub record Alike (a b : stating.Labels) : Type 0 where
  pub kind : a.kind ≡ b.kind
  pub values : (k : IntKind) → a.kind ≡ Some k → (v : ℤ) → is_among v a.values ≡ is_among v b.values
  pub default : a.default ≡ b.default

-- both or neither
pub data BothAlike : Option stating.Labels → Option stating.Labels → Type 0 where
  neither : BothAlike None None
  both : {a b : stating.Labels} → Alike a b → BothAlike (Some a) (Some b)

-- the same labels are typed, with the same state behind them
pub record LabelsAlike (a b : stating.TypedLabels) : Type 0 where
  pub labels : a.labels ≡ b.labels
  pub so_far : BothAlike a.so_far b.so_far
  pub state : a.state ≡ b.state

-- one label, and what is known behind it
pub record TypedLabel : Type 0 where
  pub label : LabelShape
  pub so_far : Option stating.Labels
  pub state : State

abbrev pub type_label : Option stating.Labels → LabelShape → State → TypedLabel
type_label o (case p a) s =
    let t = type_node a (step s) in
    let v = constants.value t.sort.constant in
    record {
      label = case p t.node;
      so_far = case_labels o v;
      state = step (case_state s.at p o v (judged_constant (step s).at (pos_in a) t.sort t.state));
    }
type_label o (default p) s = record { label = default p; so_far = default_labels o; state = steps 2 (default_state s.at p o s) }
