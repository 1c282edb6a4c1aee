-- Which pairs of a definition and a use are listed, by walks.
use Rattle.std.specs.Prelude.{ℕ, List, ◌∷◌, ◌++◌, ◌≡◌, Some, Contains}
use Rattle.flow_walks.specs.declared.action.Action.{Action}
use Rattle.flow_walks.specs.declared.action.Action.TheVariants.{Define, Use, Block, Test, Kill, Nothing}
use Rattle.c_sites.specs.declared.lists.DefSite.{DefSite}
use Rattle.c_sites.specs.declared.lists.UseSite.{UseSite}
use Rattle.c_sites.specs.declared.numbered.Sites.{Sites}
use Rattle.pair_list.specs.Sites.{IsDef, IsUse, IsStrong}

-- after this action what was defined before under the leaf name n of the variable x no longer stands: another definition
-- of the variable has the name, which names one cell, or the variable is declared anew
abbrev pub Ends : Sites → ℕ → ℕ → Action → Type 0
Ends s x n (Define d) = (def : DefSite) × IsDef s d def × (def.variable ≡ Some x) × Contains def.names n × IsStrong s n
Ends s x n (Kill v) = v ≡ x
Ends s x n (Use u) = ⊥
Ends s x n (Block k) = ⊥
Ends s x n (Test k o) = ⊥
Ends s x n Nothing = ⊥

-- both are direct sites of the variable x in the function f, and have the leaf name n in common
pub record Share (s : Sites) (f x n d u : ℕ) : Type 0 where
  pub def : DefSite
  pub is_def : IsDef s d def
  pub def_function : def.function ≡ f
  pub def_variable : def.variable ≡ Some x
  pub def_name : Contains def.names n
  pub used : UseSite
  pub is_use : IsUse s u used
  pub use_function : used.function ≡ f
  pub use_variable : used.variable ≡ Some x
  pub use_name : Contains used.names n

-- some walk has the definition and later the use, and no action strictly between ends what was defined
pub record IsPair (walk : List Action → Type 0) (s : Sites) (f d u : ℕ) : Type 0 where
  pub variable : ℕ
  pub name : ℕ
  pub sites : Share s f variable name d u
  pub before : List Action
  pub between : List Action
  pub after : List Action
  pub is_walk : walk (before ++ Define d ∷ (between ++ Use u ∷ after))
  pub stands : (a : Action) → Contains between a → Ends s variable name a → ⊥
