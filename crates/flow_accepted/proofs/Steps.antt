-- Parts of what typing does, which add only variables in whose types no structure lies in itself.
use Rattle.std.proofs.Common.{◌≡◌, ℕ, List, [], ◌∷◌, ◌++◌, refl, sym, ap, subst}
use Rattle.c_tables.specs.Tables.{VariableShape, TablesShape}
use Rattle.c_tree.specs.State.{State}
use Rattle.flow_initial.proofs.Cores.{Core, core, Kept, KeptByUnits}
use Rattle.flow_values.proofs.Reaching.{Variables, none_added}
use Rattle.flow_values.proofs.Ending.{IsFine, onward, EndsIn, earlier}
use Rattle.flow_accepted.proofs.Depths.{AreNested}

-- what is kept over it, and variables, where these are the tables at the end
pub record Step (t : TablesShape) (s u : State) : Type 1 where
  pub passing : (J : Core → Type 0) → KeptByUnits J → J (core s) → J (core u)
  pub nested : IsFine (core s) → EndsIn t (core u) → AreNested t s.tables.variables → AreNested t u.tables.variables

both : (t : TablesShape) (s u v : State) → Step t s u → Step t u v → Step t s v
both t s u v f g = record {
  passing = λ J kept h. g.passing J kept (f.passing J kept h);
  nested = λ fine ends h. let there = onward s u f.passing fine in g.nested there ends (f.nested fine (earlier t u v g.passing there ends) h);
}

infixl 5 ◌▹◌
pub ◌▹◌ : {t : TablesShape} {s u v : State} → Step t s u → Step t u v → Step t s v
f ▹ g = both _ _ _ _ f g

module _ (t : TablesShape) where
  pub stays : (s : State) → Step t s s
  stays s = record { passing = λ J kept h. h; nested = λ fine ends h. h }

  -- one that adds none
  pub adds_none : (s u : State) → ((J : Core → Type 0) → Kept J → J (core s) → J (core u)) → Step t s u
  adds_none s u f = record {
    passing = λ J kept h. f J kept.all.types h;
    nested = λ fine ends h. subst (AreNested t) (sym (f (Variables s.tables.variables) (none_added s.tables.variables) refl)) h;
  }

  -- and where functions' bodies begin and end
  pub turns : (n : ℕ) (s u : State) → core u ≡ core (record s { function = n }) → Step t s u
  turns n s u e = record { passing = λ J kept h. subst J (sym e) (kept.turning n s h); nested = λ fine ends h. subst (AreNested t) (sym (ap (λ (c : Core). c.variables) e)) h }

pub one_more : (t : TablesShape) (vs : List VariableShape) (v : VariableShape) → AreNested t vs → AreNested t (v ∷ []) → AreNested t (vs ++ v ∷ [])
one_more t [] v h g = g
one_more t (x ∷ vs) v h g = (h.0, one_more t vs v h.1 g)
