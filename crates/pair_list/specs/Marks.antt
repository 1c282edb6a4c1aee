-- Marks: a definition and one of its leaf names.
use Rattle.std.specs.Prelude.{ℕ, ◌+◌, ◌<◌, ◌≤◌, ◌≡◌, ◌↔◌, ◌⊎◌, List, Some, true, slice_get, Contains}
use Rattle.std.proofs.Math.ListN.{get_or}
use Rattle.flow_walks.specs.declared.action.Action.{Action}
use Rattle.flow_walks.specs.declared.action.Action.TheVariants.{Define, Use, Block, Test, Kill, Nothing}
use Rattle.flow_marks.specs.declared.flow.FlowRow.{FlowRow}
use Rattle.flow_marks.specs.Paths.{action_at, Leads, IsReached}
use Rattle.c_sites.specs.declared.lists.DefSite.{DefSite}
use Rattle.c_sites.specs.declared.lists.UseSite.{UseSite}
use Rattle.c_sites.specs.declared.numbered.Sites.{Sites}
use Rattle.pair_list.specs.declared.marks.Mark.{Mark}
use Rattle.pair_list.specs.Sites.{IsDef, IsUse, IsStrong}

-- a mark of a definition in the function f
pub record IsMark (s : Sites) (f : ℕ) (m : Mark) : Type 0 where
  pub def : DefSite
  pub is_def : IsDef s m.def def
  pub function : def.function ≡ f
  pub variable : def.variable ≡ Some m.variable
  pub name : Contains def.names m.name
  pub strong : (m.strong ≡ true) ↔ IsStrong s m.name

-- the mark of this definition, variable and name is among these
abbrev pub HasMark : List Mark → ℕ → ℕ → ℕ → Type 0
HasMark marks d x n = (i : ℕ) × (m : Mark) × (slice_get marks i ≡ Some m) × (m.def ≡ d) × (m.variable ≡ x) × (m.name ≡ n)

-- all marks of that many definitions from the first on
pub record AreMarks (s : Sites) (f first count : ℕ) (marks : List Mark) : Type 0 where
  pub each : (i : ℕ) (m : Mark) → slice_get marks i ≡ Some m → IsMark s f m × (first ≤ m.def) × (m.def < first + count)
  pub all : (d : ℕ) (def : DefSite) (x n : ℕ) → first ≤ d → d < first + count → IsDef s d def → def.function ≡ f → def.variable ≡ Some x → Contains def.names n → HasMark marks d x n

-- after this action what the mark stands for no longer stands
abbrev pub EndsMark : Sites → Mark → Action → Type 0
EndsMark s m (Define d) = (def : DefSite) × IsDef s d def × (def.variable ≡ Some m.variable) × Contains def.names m.name × (m.strong ≡ true)
EndsMark s m (Kill v) = v ≡ m.variable
EndsMark s m (Use u) = ⊥
EndsMark s m (Block k) = ⊥
EndsMark s m (Test k o) = ⊥
EndsMark s m Nothing = ⊥

-- the use is of the mark's variable and has its name
abbrev pub Meets : UseSite → Mark → Type 0
Meets used m = (used.variable ≡ Some m.variable) × Contains used.names m.name

-- from a reached row of the mark's definition, rows that don't end it lead to a row of the use
pub record Finds (g : List FlowRow) (s : Sites) (f : ℕ) (m : Mark) (u : ℕ) : Type 0 where
  pub used : UseSite
  pub is_use : IsUse s u used
  pub function : used.function ≡ f
  pub meets : Meets used m
  pub from : ℕ
  pub to : ℕ
  pub reached : IsReached g from
  pub defines : action_at g from ≡ Define m.def
  pub uses : action_at g to ≡ Use u
  pub leads : Leads g (λ row. EndsMark s m (action_at g row)) from to

-- ---- while marks are made

-- a mark for each of the first n names
pub record AddsNames (s : Sites) (d x : ℕ) (names : List ℕ) (old new : List Mark) (n : ℕ) : Type 0 where
  pub kept : (i : ℕ) (m : Mark) → slice_get old i ≡ Some m → slice_get new i ≡ Some m
  pub each : (i : ℕ) (m : Mark) → slice_get new i ≡ Some m → (slice_get old i ≡ Some m) ⊎ ((m.def ≡ d) × (m.variable ≡ x) × Contains names m.name × ((m.strong ≡ true) ↔ IsStrong s m.name))
  pub all : (j : ℕ) → j < n → HasMark new d x (get_or names j 0)

-- the marks of the definition d
pub record AddsMarks (s : Sites) (f d : ℕ) (old new : List Mark) : Type 0 where
  pub kept : (i : ℕ) (m : Mark) → slice_get old i ≡ Some m → slice_get new i ≡ Some m
  pub each : (i : ℕ) (m : Mark) → slice_get new i ≡ Some m → (slice_get old i ≡ Some m) ⊎ (IsMark s f m × (m.def ≡ d))
  pub all : (def : DefSite) (x n : ℕ) → IsDef s d def → def.function ≡ f → def.variable ≡ Some x → Contains def.names n → HasMark new d x n
