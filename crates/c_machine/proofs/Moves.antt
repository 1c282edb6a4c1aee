-- What a step moves.
use Rattle.std.proofs.Common.{◌≡◌, ℕ, suc, ◌≤◌, List, [], ◌∷◌, length, sym, subst, arith}
use Rattle.c_meaning.specs.State.{Call}
use Rattle.c_world.specs.Names.{IsActive, scopes_in, scope_counts, one_more}
use Rattle.c_machine.specs.declared.parts.Step.{Step}
use Rattle.c_machine.specs.declared.parts.Step.TheVariants as step
use Rattle.c_machine.specs.declared.parts.Waiting.{Waiting}
use Rattle.c_machine.specs.declared.parts.Waiting.TheVariants as waiting
use Rattle.c_machine.specs.Todo.{scopes_with, scopes_on, open_scopes, OnMore}

-- ---- where the run goes on

pub more_if : (a : Step) (A B : Type 0) → OnMore a A → (A → B) → OnMore a B
more_if step.More A B h f = f h
more_if step.Ended A B h f = tt

pub on_more : (a : Step) (A : Type 0) → A → OnMore a A
on_more step.More A h = h
on_more step.Ended A h = tt

-- ---- scopes

-- each call has a scope
abbrev All_of : List ℕ → Type 0
All_of [] = Unit {0}
All_of (n ∷ ns) = (1 ≤ n) × All_of ns

abbrev Some_of : List ℕ → Type 0
Some_of [] = ⊥
Some_of (n ∷ ns) = (1 ≤ n) × All_of ns

all_some : (ns : List ℕ) → Some_of ns → All_of ns
all_some [] h = absurd h
all_some (n ∷ ns) h = h

some_more : (ns : List ℕ) → Some_of ns → Some_of (one_more ns)
some_more [] h = h
some_more (n ∷ ns) h = (omega (arith, h.0), h.1)

some_with : (w : Waiting) (ns : List ℕ) → Some_of ns → Some_of (scopes_with w ns)
some_with (waiting.Rest q) ns h = h
some_with (waiting.Loop p) ns h = h
some_with waiting.Scope ns h = some_more ns h
some_with waiting.Switch ns h = h
some_with (waiting.Names b) ns h = h
some_with (waiting.Caller g frames u) ns h = (omega arith, all_some ns h)

some_on : (ws : List Waiting) (ns : List ℕ) → Some_of ns → Some_of (scopes_on ws ns)
some_on [] ns h = h
some_on (w ∷ ws) ns h = some_on ws (scopes_with w ns) (some_with w ns h)

pub some_open : (ws : List Waiting) → Some_of (open_scopes ws)
some_open ws = some_on ws (1 ∷ []) (omega arith, tt)

active_counts : (cs : List Call) → Some_of (scope_counts cs) → IsActive cs
active_counts [] h = absurd h
active_counts (c ∷ cs) h = tt

-- a call is active
pub is_active : (cs : List Call) (ws : List Waiting) → scope_counts cs ≡ open_scopes ws → IsActive cs
is_active cs ws e = active_counts cs (subst Some_of (sym e) (some_open ws))

scoped_counts : (cs : List Call) → Some_of (scope_counts cs) → 1 ≤ length (scopes_in cs)
scoped_counts [] h = absurd h
scoped_counts (c ∷ cs) h = h.0

-- and has a scope
pub is_scoped : (cs : List Call) (ws : List Waiting) → scope_counts cs ≡ open_scopes ws → 1 ≤ length (scopes_in cs)
is_scoped cs ws e = scoped_counts cs (subst Some_of (sym e) (some_open ws))

-- another scope is open below that one
two_counts : (cs : List Call) (ns : List ℕ) → scope_counts cs ≡ one_more ns → Some_of ns → 2 ≤ length (scopes_in cs)
two_counts cs [] e h = absurd h
two_counts [] (n ∷ ns) e h = cc
two_counts (c ∷ cs) (n ∷ ns) e h = let k : length c.scopes ≡ suc n = cc in omega (arith, h.0)

pub is_inner : (cs : List Call) (ws : List Waiting) → scope_counts cs ≡ one_more (open_scopes ws) → 2 ≤ length (scopes_in cs)
is_inner cs ws e = two_counts cs (open_scopes ws) e (some_open ws)

-- the scope of the parameters alone
pub is_last : (cs : List Call) (ns : List ℕ) → scope_counts cs ≡ 1 ∷ ns → length (scopes_in cs) ≡ 1
is_last [] ns e = cc
is_last (c ∷ cs) ns e = cc
