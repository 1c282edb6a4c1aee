-- What the steps of a declaration are together: the declarator's meaning.
use Rattle.std.proofs.Common.{◌≡◌, ℕ, suc, List, [], ◌∷◌, Option, Some, None, eq-eqb, Bool, true, false, refl, sym, ap}
use Rattle.std.specs.Prelude.{nat_le, if◌then◌else◌, ◌-◌, replicate, Result, Ok, Err}
use Rattle.c_base.specs.declared.place.Pos.{Pos}
use Rattle.c_syntax.specs.declared.tree.Named.{Named}
use Rattle.c_syntax.specs.declared.tree.Star.{Star}
use Rattle.c_syntax.specs.Shape.{TypeOf, array, NodeShape, LengthShapes, MaybeInit, InitShapes, declarator, arrays, no_init, one_init, one, listed}
use Rattle.c_tables.specs.Tables.{TablesShape}
use Rattle.c_meaning.specs.declared.end.Flow.{Flow}
use Rattle.c_meaning.specs.declared.end.Flow.TheVariants.{Next}
use Rattle.c_meaning.specs.State.{Bound, Call, State, found_in, found_among, found_within, or_else, with_bound, in_call, instance_of}
use Rattle.c_meaning.specs.Results.{Got, Gives, Stops, then_do, turns, present}
use Rattle.c_meaning.specs.Firsts.{quiet}
use Rattle.c_store.specs.declared.value.MakeErr.{MakeErr}
use Rattle.c_store.specs.Cells.{Cells, made}
use Rattle.c_meaning.specs.declared.end.Stop.TheVariants as stop
use Rattle.c_meaning.specs.Counts.{past_name}
use Rattle.c_meaning.specs.Knot.{Knot}
use Rattle.c_meaning.specs.Layout.{cells, variable_kind}
use Rattle.c_meaning.specs.Declarations.{new_instance, make, bind, initialised, bound_variable, made_variable, declared_variable, declared_name}
use Rattle.c_meaning.proofs.Steps.{then_then, then_same}
use Rattle.c_world.specs.Names.{IsActive}
use Rattle.c_world.specs.Steps.{placed, declared, filled_object}

if_same : {A : Type 0} (b : Bool) (r q e : Got A) → r ≡ q → (if b then r else e) ≡ (if b then q else e)
if_same b r q e same = ap (λ x. if b then x else e) same

turns_same : {A : Type 0} (n : ℕ) (s : State) (g h : State → Got A) → ((s : State) → g s ≡ h s) → turns n s g ≡ turns n s h
turns_same n s g h same = if_same (nat_le n s.turns) (g (record s { turns = s.turns - n })) (h (record s { turns = s.turns - n })) _ (same (record s { turns = s.turns - n }))

-- a declarator without an initialiser
pub declares : (t : TablesShape) (k : Knot) (stars : List Star) (x : Option Named) (ls : LengthShapes) (n : ℕ) (s : State) → declared_name t k (declarator stars x (arrays ls) no_init) (quiet n) s ≡ declared t (suc n) s
declares t k stars x ls n s =
    then_same (present (variable_kind t (suc n)) s) _ _ (λ y s. turns_same (cells t y) s _ _ (λ s. sym (then_then (make t y s) (λ j s. Gives j (bind (suc n) j s)) (λ j s. Gives Next s))))

-- ---- and with one

found_same : (v j : ℕ) (scopes : List (List Bound)) (file : List Bound) → or_else (found_among v (with_bound (record { variable = v; instance = j }) scopes)) (found_in v file) ≡ Some j
found_same v j [] file = rw (eq-eqb v v refl) refl
found_same v j (scope ∷ rest) file = rw (eq-eqb v v refl) refl

bound_in_calls : (v j : ℕ) (cs : List Call) (file : List Bound) → IsActive cs → or_else (found_within v (in_call (with_bound (record { variable = v; instance = j })) cs)) (found_in v file) ≡ Some j
bound_in_calls v j [] file is = absurd is
bound_in_calls v j (c ∷ cs) file is = found_same v j c.scopes file

-- a variable that was just bound stands for that instance
pub bound_found : (v j : ℕ) (s : State) → IsActive s.calls → instance_of v (bind v j s) ≡ Some j
bound_found v j s is = bound_in_calls v j s.calls s.file is

-- the initialiser of the variable behind so many, where it was just bound
abbrev pub then_initialised : TablesShape → Knot → Option Named → MaybeInit → ℕ → State → Got Flow
then_initialised t k x init n s = then_do (present (variable_kind t (suc n)) s) (λ y s. then_do (present (instance_of (suc n) s) s) (λ j s. initialised t k y x (past_name (quiet n)) j init s))

module _ (t : TablesShape) (k : Knot) (x : Option Named) (init : MaybeInit) (n : ℕ) (y : TypeOf) (kind : variable_kind t (suc n) ≡ Some y) where
  after_made : (s : State) → IsActive s.calls → (r : Result Cells MakeErr) → then_do (new_instance r s) (bound_variable t k x init (quiet n) y) ≡ then_do (then_do (then_do (new_instance r s) (λ j s. Gives j (bind (suc n) j s))) (λ j s. Gives Next s)) (λ f s. then_initialised t k x init n s)
  after_made s is (Ok c) = rw kind (rw (bound_found (suc n) c.count (record s { store = c }) is) refl)
  after_made s is (Err why) = refl

  after_turns : (s : State) → IsActive s.calls → (b : Bool) → (if b then made_variable t k x init (quiet n) y (record s { turns = s.turns - cells t y }) else Stops stop.Turns (record s { turns = 0 })) ≡ then_do (if b then then_do (placed (suc n) (cells t y) (record s { turns = s.turns - cells t y })) (λ j s. Gives Next s) else Stops stop.Turns (record s { turns = 0 })) (λ f s. then_initialised t k x init n s)
  after_turns s is true = after_made (record s { turns = s.turns - cells t y }) is (made s.store true (replicate (cells t y) None))
  after_turns s is false = refl

after_kind : (t : TablesShape) (k : Knot) (x : Option Named) (init : MaybeInit) (n : ℕ) (s : State) → IsActive s.calls → (o : Option TypeOf) → variable_kind t (suc n) ≡ o → then_do (present o s) (λ y s. declared_variable t k x init (quiet n) y s) ≡ then_do (then_do (present o s) (λ y s. turns (cells t y) s (λ s. then_do (placed (suc n) (cells t y) s) (λ j s. Gives Next s)))) (λ f s. then_initialised t k x init n s)
after_kind t k x init n s is None e = refl
after_kind t k x init n s is (Some y) e = after_turns t k x init n y e s is (nat_le (cells t y) s.turns)

-- ---- what the initialiser of an object does
