-- While a unit is typed, each name that stands for a variable is the variable's own, and no variable is lost.
use Rattle.std.proofs.Common.{◌≡◌, ℕ, zero, suc, ◌+◌, ◌-◌, ◌++◌, List, [], ◌∷◌, Bool, true, false, Option, Some, None, refl, ap, sym, subst, ◌∙◌, arith, append_assoc, append-nil, length, slice_get}
use Rattle.std.specs.Prelude.{bytes_eq, nat_eq, cond, if◌then◌else◌}
use Rattle.std.specs.List.{AllByRecursion}
use Rattle.std.specs.Option.{option_or}
use Rattle.std.proofs.lemmas.Bool.Decides.{nat_tests}
use Rattle.std.proofs.lemmas.Slice.Eq.{bytes_eq-Decides}
use Rattle.c_syntax.specs.declared.text.Text.{Text}
use Rattle.c_syntax.specs.Shape.{TypeOf}
use Rattle.c_scopes.specs.Rows.{Scope, Scoped}
use Rattle.c_scopes.specs.Scoping.{named, find_outer, find_here, find, declared, entered, last_of, but_last, left}
use Rattle.c_tables.specs.Tables.{VariableShape}
use Rattle.c_tables.specs.Rows.{row}
use Rattle.c_tree.specs.declared.meaning.Entity.{Entity}
use Rattle.c_tree.specs.declared.meaning.Entity.TheVariants as entity
use Rattle.c_tree.specs.State.{State}
use Rattle.c_tree.specs.Declaring.{with_row, next_variable, opened_scope, closed_scope}
use Rattle.c_tree.specs.Parts.{with_name}
use Rattle.flow_owned.specs.Own.{name_in}

-- ---- entries of scopes, where these are the variables

abbrev pub Names : List VariableShape → Text → Entity → Type 0
Names R x (entity.Variable n) = (v : VariableShape) × ((row R n ≡ Some v) × (v.name ≡ x))
Names R x (entity.Parameter n) = Unit {0}
Names R x (entity.Constant v) = Unit {0}
Names R x (entity.Function n) = Unit {0}
Names R x (entity.Builtin b) = Unit {0}
Names R x entity.Unknown = Unit {0}

abbrev Entry : List VariableShape → (List ℕ × Entity) → Type 0
Entry R e = Names R e.0 e.1

abbrev Here : List VariableShape → Scope Entity → Type 0
Here R s = AllByRecursion (Entry R) s

abbrev Outer : List VariableShape → List (Scope Entity) → Type 0
Outer R ss = AllByRecursion (Here R) ss

abbrev pub Holds : List VariableShape → Scoped Entity → Type 0
Holds R s = Outer R s.outer × Here R s.top

-- the names in scope and the variables so far
pub record Core : Type 0 where
  pub names : Scoped Entity
  pub variables : List VariableShape

abbrev pub core : State → Core
core s = record { names = s.names; variables = s.tables.variables }

abbrev pub Good : Core → Type 0
Good a = Holds a.variables a.names

-- ---- longer lists of variables

abbrev pub Begins : List VariableShape → List VariableShape → Type 0
Begins R T = (more : List VariableShape) × (T ≡ R ++ more)

pub begins_same : (R : List VariableShape) → Begins R R
begins_same R = ([], sym (append-nil R))

pub begins_on : (R S T : List VariableShape) → Begins R S → Begins S T → Begins R T
begins_on R S T a b = (a.0 ++ b.0, b.1 ∙ ap (λ l. l ++ b.0) a.1 ∙ append_assoc R a.0 b.0)

no_row : (v : VariableShape) → None ≡ Some v → ⊥
no_row v e = cc

get_longer : (R more : List VariableShape) (k : ℕ) (v : VariableShape) → slice_get R k ≡ Some v → slice_get (R ++ more) k ≡ Some v
get_longer [] more k v e = absurd (no_row v e)
get_longer (r ∷ R) more zero v e = e
get_longer (r ∷ R) more (suc k) v e = get_longer R more k v e

row_longer : (R more : List VariableShape) (n : ℕ) (v : VariableShape) → row R n ≡ Some v → row (R ++ more) n ≡ Some v
row_longer R more n v e = by (nat_eq n 0) e
  where
    by : (b : Bool) → (if b then None else slice_get R (n - 1)) ≡ Some v → (if b then None else slice_get (R ++ more) (n - 1)) ≡ Some v
    by true h = h
    by false h = get_longer R more (n - 1) v h

names_longer : (R more : List VariableShape) (x : Text) (e : Entity) → Names R x e → Names (R ++ more) x e
names_longer R more x (entity.Variable n) h = (h.0, (row_longer R more n h.0 h.1.0, h.1.1))
names_longer R more x (entity.Parameter n) h = tt
names_longer R more x (entity.Constant v) h = tt
names_longer R more x (entity.Function n) h = tt
names_longer R more x (entity.Builtin b) h = tt
names_longer R more x entity.Unknown h = tt

here_longer : (R more : List VariableShape) (s : Scope Entity) → Here R s → Here (R ++ more) s
here_longer R more [] h = tt
here_longer R more (e ∷ s) h = (names_longer R more e.0 e.1 h.0, here_longer R more s h.1)

outer_longer : (R more : List VariableShape) (ss : List (Scope Entity)) → Outer R ss → Outer (R ++ more) ss
outer_longer R more [] h = tt
outer_longer R more (s ∷ ss) h = (here_longer R more s h.0, outer_longer R more ss h.1)

get_last : (R : List VariableShape) (r : VariableShape) (k : ℕ) → k ≡ length R → slice_get (R ++ r ∷ []) k ≡ Some r
get_last [] r zero e = refl
get_last [] r (suc k) e = absurd (omega (arith, e))
get_last (q ∷ R) r zero e = absurd (omega (arith, e))
get_last (q ∷ R) r (suc k) e = get_last R r k (omega (arith, e))

row_last : (R : List VariableShape) (r : VariableShape) (n : ℕ) → n ≡ length R + 1 → row (R ++ r ∷ []) n ≡ Some r
row_last R r n e = by (nat_eq n 0) refl
  where
    by : (b : Bool) → nat_eq n 0 ≡ b → (if b then None else slice_get (R ++ r ∷ []) (n - 1)) ≡ Some r
    by true h = absurd (zero_not n h e)
      where
        zero_not : (n : ℕ) → nat_eq n 0 ≡ true → n ≡ length R + 1 → ⊥
        zero_not n h e = grind (arith, nat_tests)
    by false h = get_last R r (n - 1) (omega (arith, e))

-- ---- scopes

here_more : (R : List VariableShape) (s : Scope Entity) (x : Text) (e : Entity) → Here R s → Names R x e → Here R (s ++ (x, e) ∷ [])
here_more R [] x e h n = (n, tt)
here_more R (y ∷ s) x e h n = (h.0, here_more R s x e h.1 n)

outer_more : (R : List VariableShape) (ss : List (Scope Entity)) (s : Scope Entity) → Outer R ss → Here R s → Outer R (ss ++ s ∷ [])
outer_more R [] s h k = (k, tt)
outer_more R (t ∷ ss) s h k = (h.0, outer_more R ss s h.1 k)

last_here : (R : List VariableShape) (ss : List (Scope Entity)) (top : Scope Entity) → Outer R ss → Here R top → Here R (last_of ss top)
last_here R [] top h k = k
last_here R (s ∷ ss) top h k = last_here R ss s h.1 h.0

but_last_outer : (R : List VariableShape) (ss : List (Scope Entity)) → Outer R ss → Outer R (but_last ss)
but_last_outer R [] h = tt
but_last_outer R (s ∷ []) h = tt
but_last_outer R (s ∷ t ∷ ss) h = (h.0, but_last_outer R (t ∷ ss) h.1)

pub declared_holds : (R : List VariableShape) (x : Text) (e : Entity) (s : Scoped Entity) → Names R x e → Holds R s → Holds R (declared x e s)
declared_holds R x e s n h = (h.0, here_more R s.top x e h.1 n)

pub entered_holds : (R : List VariableShape) (s : Scoped Entity) → Holds R s → Holds R (entered s)
entered_holds R s h = (outer_more R s.outer s.top h.0 h.1, tt)

pub left_holds : (R : List VariableShape) (s : Scoped Entity) → Holds R s → Holds R (left s)
left_holds R s h = (but_last_outer R s.outer h.0, last_here R s.outer s.top h.0 h.1)

-- a further variable is declared
pub row_holds : (x : Text) (t : TypeOf) (s : State) → Good (core s) → Good (core (with_name x (entity.Variable (next_variable s)) (with_row x t s)))
row_holds x t s h =
    let R = s.tables.variables in
    let r : VariableShape = record { name = x; kind = t; function = s.function } in
    declared_holds (R ++ r ∷ []) x (entity.Variable (next_variable s)) s.names (r, (row_last R r (next_variable s) refl, refl)) (outer_longer R (r ∷ []) s.names.outer h.0, here_longer R (r ∷ []) s.names.top h.1)

-- ---- what a name is found to stand for

abbrev pub Found : List VariableShape → Text → Option Entity → Type 0
Found R x None = Unit {0}
Found R x (Some e) = Names R x e

here_found : (R : List VariableShape) (x : Text) (s : Scope Entity) → Here R s → Found R x (named x s)
here_found R x [] h = tt
here_found R x (e ∷ s) h = by (bytes_eq x e.0) refl (here_found R x s h.1)
  where
    by : (b : Bool) → bytes_eq x e.0 ≡ b → Found R x (named x s) → Found R x (cond b (Some e.1) (named x s))
    by true t rest = subst (λ y. Names R y e.1) (sym ((bytes_eq-Decides x e.0).0 t)) h.0
    by false t rest = rest

or_found : (R : List VariableShape) (x : Text) (a b : Option Entity) → Found R x a → Found R x b → Found R x (option_or a b)
or_found R x None b h k = k
or_found R x (Some e) b h k = h

outer_found : (R : List VariableShape) (x : Text) (ss : List (Scope Entity)) → Outer R ss → Found R x (find_outer x ss)
outer_found R x [] h = tt
outer_found R x (s ∷ ss) h = or_found R x (find_outer x ss) (named x s) (outer_found R x ss h.1) (here_found R x s h.0)

pub all_found : (R : List VariableShape) (x : Text) (s : Scoped Entity) → Holds R s → Found R x (find x s)
all_found R x s h = or_found R x (find_here x s) (find_outer x s.outer) (here_found R x s.top h.1) (outer_found R x s.outer h.0)

pub entry_later : (R T : List VariableShape) (x : Text) (n : ℕ) → Begins R T → Names R x (entity.Variable n) → name_in (row T n) ≡ x
entry_later R T x n b h = ap (λ l. name_in (row l n)) b.1 ∙ ap name_in (row_longer R b.0 n h.0 h.1.0) ∙ h.1.1

-- ---- from a state to a later one, with something of the variables from then on

pub record Went (a b : Core) (T : List VariableShape → Type 0) : Type 0 where
  pub good : Good b
  pub more : Begins a.variables b.variables
  pub own : (R : List VariableShape) → Begins b.variables R → T R

abbrev pub Goes : State → State → (List VariableShape → Type 0) → Type 0
Goes s t T = Good (core s) → Went (core s) (core t) T

abbrev pub Nothing : List VariableShape → Type 0
Nothing R = Unit {0}

abbrev pub Keeps : State → State → Type 0
Keeps s t = Goes s t Nothing

pub as_it_was : (s : State) → Keeps s s
as_it_was s h = record { good = h; more = begins_same s.tables.variables; own = λ R b. tt }

module _ {a b c : Core} {A : List VariableShape → Type 0} where
  infixl 5 ◌▸◌
  pub ◌▸◌ : (Good a → Went a b Nothing) → (Good b → Went b c A) → Good a → Went a c A
  (f ▸ g) h = let x = f h in let y = g x.good in record { good = y.good; more = begins_on a.variables b.variables c.variables x.more y.more; own = y.own }

  infixl 5 ◌◂◌
  pub ◌◂◌ : (Good a → Went a b A) → (Good b → Went b c Nothing) → Good a → Went a c A
  (f ◂ g) h =
      let x = f h in
      let y = g x.good in
      record { good = y.good; more = begins_on a.variables b.variables c.variables x.more y.more; own = λ R z. x.own R (begins_on b.variables c.variables R y.more z) }

pub both_own : {a b c : Core} {A B : List VariableShape → Type 0} → (Good a → Went a b A) → (Good b → Went b c B) → Good a → Went a c (λ R. A R × B R)
both_own {a} {b} {c} {A} {B} f g h =
    let x = f h in
    let y = g x.good in
    record { good = y.good; more = begins_on a.variables b.variables c.variables x.more y.more; own = λ R z. (x.own R (begins_on b.variables c.variables R y.more z), y.own R z) }

pub forget : {a b : Core} {A : List VariableShape → Type 0} → (Good a → Went a b A) → Good a → Went a b Nothing
forget {a} {b} {A} f h = let x = f h in record { good = x.good; more = x.more; own = λ R c. tt }

-- scopes come and go
pub entering_keeps : (s : State) → Keeps s (opened_scope s)
entering_keeps s h = record { good = entered_holds s.tables.variables s.names h; more = begins_same s.tables.variables; own = λ R b. tt }

pub leaving_keeps : (s : State) → Keeps s (closed_scope s)
leaving_keeps s h = record { good = left_holds s.tables.variables s.names h; more = begins_same s.tables.variables; own = λ R b. tt }

pub naming_keeps : (x : Text) (e : Entity) (s : State) → Names s.tables.variables x e → Keeps s (with_name x e s)
naming_keeps x e s n h = record { good = declared_holds s.tables.variables x e s.names n h; more = begins_same s.tables.variables; own = λ R b. tt }

pub row_keeps : (x : Text) (t : TypeOf) (s : State) → Keeps s (with_name x (entity.Variable (next_variable s)) (with_row x t s))
row_keeps x t s h = record { good = row_holds x t s h; more = (record { name = x; kind = t; function = s.function } ∷ [], refl); own = λ R b. tt }
