-- Instances that live as long as the scopes in which names stand for them.
use Rattle.std.specs.Prelude.{◌≡◌, ℕ, ◌<◌, List, [], ◌∷◌, ◌++◌, length, true}
use Rattle.std.specs.Option.{is_some}
use Rattle.std.specs.Coded.{×_prop, Unit-prop, le_prop}
use mathlib.Core.Bool.{Bool-set}
use Rattle.c_store.specs.Cells.{Cells, find, IsLive}
use Rattle.c_meaning.specs.State.{Bound, Call, in_call, tail_of, top_within}
use Rattle.c_meaning.specs.Statements.{ended_all}
use Rattle.c_world.specs.Names.{Naming, scopes_in}

-- ---- the instances that end with scopes, the last one made first

abbrev pub bound_instances : List Bound → List ℕ
bound_instances [] = []
bound_instances (b ∷ bs) = b.instance ∷ bound_instances bs

abbrev pub scope_instances : List (List Bound) → List ℕ
scope_instances [] = []
scope_instances (scope ∷ rest) = bound_instances scope ++ scope_instances rest

abbrev pub call_instances : List Call → List ℕ
call_instances [] = []
call_instances (c ∷ rest) = scope_instances c.scopes ++ call_instances rest

-- each lives, and was made before the one in front of it
abbrev pub Living : ℕ → List ℕ → Cells → Type 0
Living above [] c = Unit {0}
Living above (j ∷ js) c = (j < above) × (IsLive j c × Living j js c)

pub Living-prop : (above : ℕ) (js : List ℕ) (c : Cells) → IsProp (Living above js c)
Living-prop above [] c = Unit-prop
Living-prop above (j ∷ js) c = ×_prop le_prop (×_prop (Bool-set (is_some (find j c.live)) true) (Living-prop j js c))

-- ---- the end of a scope

-- bindings of the innermost scope are undone, and their instances end
pub record Emptying (old now : Naming) (c d : Cells) : Type 0 where
  pub file : now.file ≡ old.file
  pub rest : in_call tail_of now.calls ≡ in_call tail_of old.calls
  pub scopes : length (scopes_in now.calls) ≡ length (scopes_in old.calls)
  pub ended : ended_all (top_within now.calls) d ≡ ended_all (top_within old.calls) c
  pub living : (above : ℕ) → Living above (call_instances old.calls) c → Living above (call_instances now.calls) d

-- all of them
pub record Emptied (old new : Naming) (c d : Cells) : Type 0 where
  pub file : new.file ≡ old.file
  pub rest : in_call tail_of new.calls ≡ in_call tail_of old.calls
  pub empty : top_within new.calls ≡ []
  pub scopes : length (scopes_in new.calls) ≡ length (scopes_in old.calls)
  pub ended : d ≡ ended_all (top_within old.calls) c
  pub living : (above : ℕ) → Living above (call_instances old.calls) c → Living above (call_instances new.calls) d
