-- What it means that a part of a tree is laid at a row, and what stays where more is laid.
use Rattle.std.specs.Prelude.{◌≡◌, ℕ, suc, ◌≤◌, ◌<◌, List, [], length, Some, None, slice_get, Contains}
use Rattle.c_walk.specs.declared.around.Around.{Around}
use Rattle.c_walk.specs.Walked.{Walked}
use Rattle.flow_walks.specs.Comes.{Met, leave, Comes, Ways, value, test}
use Rattle.flow_walks.specs.Statements.{Exits}
use Rattle.flow_rows.specs.Paths.{Row, Graph, HasRow, from, From}
use Rattle.flow_rows.specs.Counts.{counts}
use Rattle.flow_rows.specs.declared.numbers.Numbers.{Numbers}
use Rattle.flow_rows.specs.declared.targets.To.{To}
use Rattle.flow_rows.specs.declared.targets.To.TheVariants.{Value, Test}
use Rattle.flow_rows.specs.declared.targets.Targets.{Targets}

-- ---- graphs that grow

-- a row that nothing is known of yet
abbrev pub hole : Row
hole = record { met = None; next = [] }

-- all other rows stay
abbrev pub Keeps : Graph → Graph → Type 0
Keeps g h = (i : ℕ) (row : Row) → (row ≡ hole → ⊥) → slice_get g i ≡ Some row → slice_get h i ≡ Some row

-- each next row is a row
abbrev pub IsWithin : Graph → Type 0
IsWithin g = (i t : ℕ) (row : Row) → slice_get g i ≡ Some row → Contains row.next t → t < length g

-- at no other row the body is left
abbrev pub LeavesAt : Graph → Graph → Type 0
LeavesAt g h = (i : ℕ) (ts : List ℕ) → HasRow h i (Some leave) ts → HasRow g i (Some leave) ts

pub record Grown (g h : Graph) : Type 0 where
  pub keeps : Keeps g h
  pub within : IsWithin g → IsWithin h
  pub leaves : LeavesAt g h

-- ---- what is laid at a row

-- the paths from a row spell what `goes` says of the paths from other rows. A path from there has come past one row when it is at those
pub record Lays (h : Graph) (r : ℕ) (goes : (ℕ → Comes) → Comes) : Type 0 where
  pub down : (m n : ℕ) → n ≤ suc m → (w : List Met) → from h n r w → goes (from h m) w
  pub up : (w : List Met) → goes (From h) w → From h r w

-- the same of a row that may be one of those itself
pub record Leads (h : Graph) (r : ℕ) (goes : (ℕ → Comes) → Comes) : Type 0 where
  pub down : (m n : ℕ) → n ≤ m → (w : List Met) → from h n r w → goes (from h m) w
  pub up : (w : List Met) → goes (From h) w → From h r w

-- it is so in each graph that keeps these rows
abbrev pub LaidAt : Graph → ℕ → ((ℕ → Comes) → Comes) → Type 0
LaidAt g r goes = (h : Graph) → Keeps g h → Lays h r goes

abbrev pub LedAt : Graph → ℕ → ((ℕ → Comes) → Comes) → Type 0
LedAt g r goes = (h : Graph) → Keeps g h → Leads h r goes

-- a part is laid at a row, and counted, wherever it stands behind a walk with the first numbers
pub record Placed (g h : Graph) (n m : Numbers) (r : ℕ) (goes : Around → Walked → (ℕ → Comes) → Comes) (walk : Around → Walked → Walked) : Type 0 where
  pub grown : Grown g h
  pub laid : (c : Around) (w : Walked) → counts w ≡ n → LaidAt h r (goes c w)
  pub counted : (c : Around) (w : Walked) → counts w ≡ n → counts (walk c w) ≡ m

-- ---- where a part leads

abbrev pub ways : (ℕ → Comes) → To → Ways
ways k (Value r) = value (k r)
ways k (Test d j i) = test d (k j) (k i)

abbrev pub yes_of : To → ℕ
yes_of (Value r) = r
yes_of (Test d j i) = j

abbrev pub no_of : To → ℕ
no_of (Value r) = r
no_of (Test d j i) = i

abbrev pub exits : (ℕ → Comes) → Targets → Exits
exits k x = record { next = k x.next; broken = k x.broken; continued = k x.continued; returned = k x.returned }

-- within a loop that goes on at that row; and with another row behind the end
abbrev pub loop_targets : ℕ → Targets → Targets
loop_targets again x = record { next = again; broken = x.next; continued = again; returned = x.returned }

abbrev pub then_targets : ℕ → Targets → Targets
then_targets next x = record { next = next; broken = x.broken; continued = x.continued; returned = x.returned }

-- within a switch: a `break` leads behind it
abbrev pub switch_targets : Targets → Targets
switch_targets x = record { next = x.next; broken = x.next; continued = x.continued; returned = x.returned }
