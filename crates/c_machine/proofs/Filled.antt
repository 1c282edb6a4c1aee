-- Declarators with their initialisers.
use Rattle.std.proofs.Common.{◌≡◌, ℕ, suc, ◌+◌, ◌-◌, List, [], ◌∷◌, Option, Some, None, Result, Ok, Err, Bool, true, false, refl, ap, subst, eq-eqb}
use Rattle.std.specs.Prelude.{if◌then◌else◌, nat_le, nat_eq, replicate}
use Rattle.c_base.specs.declared.place.Pos.{Pos}
use Rattle.c_syntax.specs.declared.tree.Star.{Star}
use Rattle.c_syntax.specs.declared.tree.Named.{Named}
use Rattle.c_syntax.specs.Shape.{TypeOf, int, pointer, array, structure, nothing, NodeShape, LengthShapes, declarator, arrays, MaybeInit, one_init, InitShapes, one, listed}
use Rattle.c_store.specs.declared.value.Value.{Value}
use Rattle.c_store.specs.declared.value.MakeErr.{MakeErr}
use Rattle.c_store.specs.Cells.{Cells, made}
use Rattle.c_tables.specs.Tables.{TablesShape}
use Rattle.c_meaning.specs.declared.end.Flow.{Flow}
use Rattle.c_meaning.specs.declared.end.Flow.TheVariants.{Next}
use Rattle.c_meaning.specs.declared.end.Stop.{Stop}
use Rattle.c_meaning.specs.declared.end.Stop.TheVariants as stop
use Rattle.c_meaning.specs.State.{State, Call, Bound, instance_of, or_else, found_in, found_among, found_within, in_call, with_bound}
use Rattle.c_meaning.specs.Results.{Got, Gives, Stops, then_do, turns, present, needed}
use Rattle.c_meaning.specs.Operators.{converted}
use Rattle.c_meaning.specs.Layout.{cells, variable_kind}
use Rattle.c_meaning.specs.Firsts.{quiet}
use Rattle.c_meaning.specs.Knot.{Knot}
use Rattle.c_meaning.specs.Declarations.{new_instance, bind, scalar_written, initialised, bound_variable, made_variable, declared_variable, declared_name}
use Rattle.c_world.specs.Names.{IsActive}
use Rattle.c_world.specs.Steps.{placed, declared, filled_object}
use Rattle.c_world.specs.World.{answered}
use Rattle.c_eval_once.specs.Parts.{value}
use Rattle.c_machine.specs.Forms.{is_array_kind}
use Rattle.c_machine.specs.Todo.{init_flow}

-- ---- an initialiser

-- a list
pub list_is : (t : TablesShape) (k : Knot) (y : TypeOf) (x : Option Named) (v n j : ℕ) (p : Pos) (items : InitShapes) (last : Bool) (s : State) → variable_kind t v ≡ Some y → instance_of v s ≡ Some j
    → filled_object t v x (listed p items last) (quiet n) s ≡ initialised t k y x (quiet n) j (one_init (listed p items last)) s
list_is t k y x v n j p items last s e g = rw (e, g) refl

-- a string
pub array_is : (t : TablesShape) (k : Knot) (y : TypeOf) (x : Option Named) (v n j : ℕ) (a : NodeShape) (s : State) → variable_kind t v ≡ Some y → instance_of v s ≡ Some j → is_array_kind (Some y) ≡ true
    → filled_object t v x (one a) (quiet n) s ≡ initialised t k y x (quiet n) j (one_init (one a)) s
array_is t k (array y m) x v n j a s e g h = rw (e, g) refl
array_is t k (int i) x v n j a s e g h = cc
array_is t k (pointer y) x v n j a s e g h = cc
array_is t k (structure m) x v n j a s e g h = cc
array_is t k nothing x v n j a s e g h = cc

-- a value
on_value : (r : Got (Option Value)) (g h : Value → State → Got Flow) → ((v : Value) (s : State) → g v s ≡ h v s) → then_do r (λ v s. then_do (present v s) g) ≡ then_do (needed r) h
on_value (Gives None s) g h same = refl
on_value (Gives (Some v) s) g h same = same v s
on_value (Stops why s) g h same = refl

init_is : (t : TablesShape) (y : TypeOf) (x : Option Named) (v j : ℕ) (a : Value) (s : State) → variable_kind t v ≡ Some y → init_flow t j v x a s ≡ scalar_written x (quiet 0) j (converted y a) s
init_is t y x v j a s e = rw e refl

pub value_is : (t : TablesShape) (k : Knot) (y : TypeOf) (x : Option Named) (v n j : ℕ) (a : NodeShape) (s : State) → variable_kind t v ≡ Some y → is_array_kind (Some y) ≡ false
    → then_do (value t k a s) (λ w s. then_do (present w s) (init_flow t j v x)) ≡ initialised t k y x (quiet n) j (one_init (one a)) s
value_is t k (array y m) x v n j a s e h = cc
value_is t k (int i) x v n j a s e h = on_value (value t k a s) _ _ (λ w s. init_is t (int i) x v j w s e)
value_is t k (pointer y) x v n j a s e h = on_value (value t k a s) _ _ (λ w s. init_is t (pointer y) x v j w s e)
value_is t k (structure m) x v n j a s e h = on_value (value t k a s) _ _ (λ w s. init_is t (structure m) x v j w s e)
value_is t k nothing x v n j a s e h = on_value (value t k a s) _ _ (λ w s. init_is t nothing x v j w s e)

-- ---- the instance of a variable

same_number : (v : ℕ) (a b : Option ℕ) → (if nat_eq v v then a else b) ≡ a
same_number v a b = let e : nat_eq v v ≡ true = eq-eqb v v refl in rw e refl

bound_here : (cs : List Call) (v j : ℕ) (other : Option ℕ) → IsActive cs → or_else (found_within v (in_call (with_bound (record { variable = v; instance = j })) cs)) other ≡ Some j
bound_here [] v j other a = absurd a
bound_here (c ∷ cs) v j other a = in_scopes c.scopes v j other
  where
    in_scopes : (scopes : List (List Bound)) (v j : ℕ) (other : Option ℕ) → or_else (found_among v (with_bound (record { variable = v; instance = j }) scopes)) other ≡ Some j
    in_scopes [] v j other = ap (λ o. or_else (or_else o None) other) (same_number v (Some j) None)
    in_scopes (scope ∷ rest) v j other = ap (λ o. or_else (or_else o (found_among v rest)) other) (same_number v (Some j) (found_in v scope))

-- the variable is made and its initialiser is left; or the run stops
abbrev pub Outcome : TablesShape → Knot → Option Named → MaybeInit → ℕ → Option TypeOf → Got Flow → Got Flow → Type 0
Outcome t k x init n o (Gives f s) q = (y : TypeOf) × (j : ℕ) × (o ≡ Some y) × (instance_of (suc n) s ≡ Some j) × (initialised t k y x (quiet (n + 1)) j init s ≡ q)
Outcome t k x init n o (Stops why s) q = Stops why s ≡ q

made_outcome : (t : TablesShape) (k : Knot) (x : Option Named) (init : MaybeInit) (n : ℕ) (y : TypeOf) (s : State) (r : Result Cells MakeErr) → IsActive s.calls
    → Outcome t k x init n (Some y) (then_do (then_do (new_instance r s) (λ j s. Gives j (bind (suc n) j s))) (λ j s. Gives Next s)) (then_do (new_instance r s) (bound_variable t k x init (quiet n) y))
made_outcome t k x init n y s (Ok c) a = (y, c.count, refl, bound_here s.calls (suc n) c.count (found_in (suc n) s.file) a, refl)
made_outcome t k x init n y s (Err why) a = refl

turns_outcome : (t : TablesShape) (k : Knot) (x : Option Named) (init : MaybeInit) (n : ℕ) (y : TypeOf) (s : State) (b : Bool) → IsActive s.calls
    → Outcome t k x init n (Some y)
    (if b then then_do (placed (suc n) (cells t y) (record s { turns = s.turns - cells t y })) (λ j s. Gives Next s) else Stops stop.Turns (record s { turns = 0 }))
    (if b then made_variable t k x init (quiet n) y (record s { turns = s.turns - cells t y }) else Stops stop.Turns (record s { turns = 0 }))
turns_outcome t k x init n y s true a = made_outcome t k x init n y (record s { turns = s.turns - cells t y }) (made s.store true (replicate (cells t y) None)) a
turns_outcome t k x init n y s false a = refl

kind_outcome : (t : TablesShape) (k : Knot) (x : Option Named) (init : MaybeInit) (n : ℕ) (s : State) (o : Option TypeOf) → IsActive s.calls
    → Outcome t k x init n o (then_do (present o s) (λ y s. turns (cells t y) s (λ s. then_do (placed (suc n) (cells t y) s) (λ j s. Gives Next s)))) (then_do (present o s) (declared_variable t k x init (quiet n)))
kind_outcome t k x init n s None a = refl
kind_outcome t k x init n s (Some y) a = turns_outcome t k x init n y s (nat_le (cells t y) s.turns) a

pub declared_outcome : (t : TablesShape) (k : Knot) (stars : List Star) (x : Option Named) (ls : LengthShapes) (init : MaybeInit) (n : ℕ) (s s' : State) (o : Option Stop) → IsActive s.calls → declared t (suc n) s ≡ answered o s'
    → Outcome t k x init n (variable_kind t (suc n)) (answered o s') (declared_name t k (declarator stars x (arrays ls) init) (quiet n) s)
declared_outcome t k stars x ls init n s s' o a e =
    subst (λ r. Outcome t k x init n (variable_kind t (suc n)) r (declared_name t k (declarator stars x (arrays ls) init) (quiet n) s)) e (kind_outcome t k x init n s (variable_kind t (suc n)) a)
