-- What takes no turns, or not more than there are.
use Rattle.std.proofs.Common.{◌≡◌, ℕ, suc, ◌+◌, ◌-◌, ◌≤◌, List, [], ◌∷◌, Option, Some, None, Result, Ok, Err, Bool, true, false, refl, subst, arith}
use Rattle.std.specs.Prelude.{if◌then◌else◌, nat_lt, nat_le, length, replicate}
use Rattle.c_events.specs.declared.events.Event.{Event}
use Rattle.c_syntax.specs.declared.text.Text.{Text}
use Rattle.c_syntax.specs.declared.tree.Named.{Named}
use Rattle.c_syntax.specs.Shape.{TypeOf, DeclShape, decl, DeclShapes, no_decls, more_decls, declarator, no_declarators, more_declarators, DeclFormShape, arrays, function, ParamsShape, empty, void, params, InitShape}
use Rattle.c_constants.specs.Probes.{probe_number_of}
use Rattle.c_store.specs.declared.value.Value.{Value}
use Rattle.c_store.specs.declared.value.Fault.{Fault}
use Rattle.c_store.specs.declared.value.MakeErr.{MakeErr}
use Rattle.c_store.specs.declared.value.Pointer.{Pointer}
use Rattle.c_store.specs.Cells.{Cells, made, write_of}
use Rattle.c_tables.specs.Tables.{TablesShape}
use Rattle.c_meaning.specs.declared.end.Flow.{Flow}
use Rattle.c_meaning.specs.declared.end.Flow.TheVariants.{Next}
use Rattle.c_meaning.specs.State.{Act, tells, repeats, State, instance_of}
use Rattle.c_meaning.specs.Results.{Got, Gives, Stops, then_do, turns, present, settled}
use Rattle.c_meaning.specs.Layout.{cells, variable_kind}
use Rattle.c_meaning.specs.Firsts.{quiet}
use Rattle.c_meaning.specs.Places.{whole, first_cell, next_cell, logs_one, logs, log_def, stored}
use Rattle.c_meaning.specs.Counts.{decl_variables}
use Rattle.c_meaning.specs.Declarations.{new_instance, make, bind, name_marks, filled, scalar_written}
use Rattle.c_meaning.specs.Calls.{given_variable, given, given_params, given_all, activated, entered}
use Rattle.c_meaning.specs.declared.end.Stop.{Stop}
use Rattle.c_meaning.specs.declared.end.Stop.TheVariants as stop
use Rattle.c_syntax.specs.View.{decl_form_shape}
use Rattle.c_plan.specs.declared.routines.Routine as code
use Rattle.c_plan.specs.Routines.{routine_of}
use Rattle.c_meaning.specs.Constants.{init_cells}
use Rattle.c_world.specs.Steps.{placed, declared, filled_object}
use Rattle.c_world.specs.World.{answered}

-- ---- parameters take no turn

abbrev Still : {A : Type 0} → State → Got A → Type 0
Still s (Gives a t) = t.turns ≡ s.turns
Still s (Stops why t) = t.turns ≡ s.turns

still_then : {A B : Type 0} (s : State) (r : Got A) (go : A → State → Got B) → Still s r → ((a : A) (t : State) → t.turns ≡ s.turns → Still s (go a t)) → Still s (then_do r go)
still_then s (Gives a t) go h g = g a t h
still_then s (Stops why t) go h g = h

present_still : {A : Type 0} (s t : State) (o : Option A) → t.turns ≡ s.turns → Still s (present o t)
present_still s t None h = h
present_still s t (Some a) h = h

instance_still : (s t : State) (r : Result Cells MakeErr) → t.turns ≡ s.turns → Still s (new_instance r t)
instance_still s t (Ok c) h = h
instance_still s t (Err why) h = h

settled_still : {A : Type 0} (s t : State) (r : Result A Fault) → t.turns ≡ s.turns → Still s (settled r t)
settled_still s t (Ok a) h = h
settled_still s t (Err why) h = h

one_still : {A : Type 0} (s t : State) (q : Pointer) (o : Option ℕ) (go : State → Got A) → t.turns ≡ s.turns → ((t : State) → t.turns ≡ s.turns → Still s (go t)) → Still s (logs_one (log_def q) o t go)
one_still s t q None go h g = h
one_still s t q (Some k) go h g = g (log_def q k t) h

logs_still : {A : Type 0} (s t : State) (q : Pointer) (xs : List Text) (go : State → Got A) → t.turns ≡ s.turns → ((t : State) → t.turns ≡ s.turns → Still s (go t)) → Still s (logs (log_def q) xs t go)
logs_still s t q [] go h g = g t h
logs_still s t q (x ∷ xs) go h g = one_still s t q (probe_number_of x) (λ t. logs (log_def q) xs t go) h (λ t h. logs_still s t q xs go h g)

written_still : (s t : State) (x : Option Named) (n j : ℕ) (v : Value) → t.turns ≡ s.turns → Still s (scalar_written x (quiet n) j v t)
written_still s t x n j v h =
    still_then s (stored tells (name_marks x) (quiet n) (whole j 1) v t) (λ v. Gives Next)
    (still_then s (settled (write_of t.store (whole j 1) v) t) _ (settled_still s t (write_of t.store (whole j 1) v) h) (λ c t h. logs_still s (record t { store = c }) (whole j 1) (name_marks x) (λ t. Gives v t) h (λ t h. h)))
    (λ v t h. h)

made_still : (s u : State) (x : Option Named) (n j : ℕ) (v : Value) (t : TablesShape) (k : TypeOf) → u.turns ≡ s.turns → Still s (then_do (make t k u) (λ j s. scalar_written x (quiet (n + 1)) j v (bind (suc n) j s)))
made_still s u x n j v t k h = still_then s (make t k u) _ (instance_still s u (made u.store true (replicate (cells t k) None)) h) (λ j t h. written_still s (bind (suc n) j t) x (n + 1) j v h)

variable_still : (t : TablesShape) (s u : State) (d : DeclShape) (n : ℕ) (v : Value) (k : TypeOf) → u.turns ≡ s.turns → Still s (given_variable t d (quiet n) v k u)
variable_still t s u (decl p specs (more_declarators (declarator stars x (arrays ls) e) no_declarators)) n v k h = made_still s u x n 0 v t k h
variable_still t s u d n v k h = h

given_still : (t : TablesShape) (s u : State) (ds : DeclShapes) (n : ℕ) (vs : List Value) → u.turns ≡ s.turns → Still s (given t ds (quiet n) vs u)
given_still t s u no_decls n [] h = h
given_still t s u no_decls n (v ∷ vs) h = h
given_still t s u (more_decls d rest) n [] h = h
given_still t s u (more_decls d rest) n (v ∷ vs) h =
    still_then s (present (variable_kind t (suc n)) u) _ (present_still s u (variable_kind t (suc n)) h)
    (λ k u h. still_then s (given_variable t d (quiet n) v k u) _ (variable_still t s u d n v k h) (λ f u h. given_still t s u rest (n + decl_variables d) vs h))

none_still : (s u : State) (ps : ParamsShape) (t : TablesShape) (n : ℕ) (vs : List Value) → u.turns ≡ s.turns → Still s (given_params t ps (quiet n) vs u)
none_still s u empty t n [] h = h
none_still s u empty t n (v ∷ vs) h = h
none_still s u void t n [] h = h
none_still s u void t n (v ∷ vs) h = h
none_still s u (params ds) t n vs h = given_still t s u ds n vs h

all_still : (t : TablesShape) (s u : State) (d : DeclFormShape) (n : ℕ) (vs : List Value) → u.turns ≡ s.turns → Still s (given_all t d (quiet n) vs u)
all_still t s u (function ps) n vs h = none_still s u ps t n vs h
all_still t s u (arrays ls) n vs h = h

deep_still : (b : Bool) (s : State) (r : Got Flow) → Still s r → Still s (if b then r else Stops stop.Depth s)
deep_still true s r h = h
deep_still false s r h = refl

entered_still : (t : TablesShape) (f : ℕ) (r : code.Routine) (vs : List Value) (s : State) → Still s (entered t f (routine_of r) vs s)
entered_still t f r vs s = deep_still (nat_lt (length s.calls) 4000) s _ (all_still t s (activated f s) (decl_form_shape r.params.now) r.before vs refl)

answered_turns : (s s' : State) (o : Option Stop) → Still s (answered o s') → s'.turns ≡ s.turns
answered_turns s s' None h = h
answered_turns s s' (Some why) h = h

pub entered_turns : (t : TablesShape) (f : ℕ) (r : code.Routine) (vs : List Value) (s s' : State) (o : Option Stop) → entered t f (routine_of r) vs s ≡ answered o s' → s'.turns ≡ s.turns
entered_turns t f r vs s s' o e = answered_turns s s' o (subst (Still s) e (entered_still t f r vs s))

-- ---- initialisers take none

stored_still : (way : Event → Act) (xs : List Text) (s t : State) (n : ℕ) (q : Pointer) (v : Value) → t.turns ≡ s.turns → Still s (stored way xs (quiet n) q v t)
stored_still way xs s t n q v h =
    still_then s (settled (write_of t.store q v) t) _ (settled_still s t (write_of t.store q v) h) (λ c t h. logs_still s (record t { store = c }) q xs (λ t. Gives v t) h (λ t h. h))

filled_still : (way : Event → Act) (xs : List Text) (s t : State) (n : ℕ) (q : Pointer) (vs : List (Option Value)) → t.turns ≡ s.turns → Still s (filled way xs (quiet n) q vs t)
filled_still way xs s t n q [] h = h
filled_still way xs s t n q (None ∷ vs) h = filled_still way xs s t n (next_cell q) vs h
filled_still way xs s t n q (Some v ∷ vs) h = still_then s (stored way xs (quiet n) q v t) _ (stored_still way xs s t n q v h) (λ v t h. filled_still repeats xs s t n (next_cell q) vs h)

object_still : (t : TablesShape) (v : ℕ) (x : Option Named) (a : InitShape) (n : ℕ) (s : State) → Still s (filled_object t v x a (quiet n) s)
object_still t v x a n s =
    still_then s (present (variable_kind t v) s) _ (present_still s s (variable_kind t v) refl) (λ k u h.
    still_then s (present (instance_of v u) u) _ (present_still s u (instance_of v u) h) (λ j u h. filled_still tells (name_marks x) s u n (first_cell j (cells t k)) (init_cells t u.file k a) h))

pub object_turns : (t : TablesShape) (v : ℕ) (x : Option Named) (a : InitShape) (n : ℕ) (s s' : State) (o : Option Stop) → filled_object t v x a (quiet n) s ≡ answered o s' → s'.turns ≡ s.turns
object_turns t v x a n s s' o e = answered_turns s s' o (subst (Still s) e (object_still t v x a n s))

pub scalar_turns : (x : Option Named) (n j : ℕ) (v : Value) (s s' : State) (o : Option Stop) → scalar_written x (quiet n) j v s ≡ answered o s' → s'.turns ≡ s.turns
scalar_turns x n j v s s' o e = answered_turns s s' o (subst (Still s) e (written_still s s x n j v refl))

-- ---- a declarator takes no more than there are

abbrev Less : {A : Type 0} → State → Got A → Type 0
Less s (Gives a t) = t.turns ≤ s.turns
Less s (Stops why t) = t.turns ≤ s.turns

still_less : {A : Type 0} (s t : State) (r : Got A) → Still t r → t.turns ≤ s.turns → Less s r
still_less s t (Gives a u) h g = omega (arith, h, g)
still_less s t (Stops why u) h g = omega (arith, h, g)

less_if : {A : Type 0} (b : Bool) (s : State) (r q : Got A) → Less s r → Less s q → Less s (if b then r else q)
less_if true s r q h g = h
less_if false s r q h g = g

placed_still : (s : State) (v n : ℕ) → Still s (then_do (placed v n s) (λ j s. Gives Next s))
placed_still s v n =
    still_then s (placed v n s) _ (still_then s (new_instance (made s.store true (replicate n None)) s) _ (instance_still s s (made s.store true (replicate n None)) refl) (λ j t h. h)) (λ j t h. h)

turns_less : (s : State) (v n : ℕ) → Less s (turns n s (λ s. then_do (placed v n s) (λ j s. Gives Next s)))
turns_less s v n =
    less_if (nat_le n s.turns) s _ (Stops stop.Turns (record s { turns = 0 }))
    (still_less s (record s { turns = s.turns - n }) _ (placed_still (record s { turns = s.turns - n }) v n) (omega arith)) (omega arith)

kind_less : (t : TablesShape) (v : ℕ) (o : Option TypeOf) (s : State) → Less s (then_do (present o s) (λ k s. turns (cells t k) s (λ s. then_do (placed v (cells t k) s) (λ j s. Gives Next s))))
kind_less t v None s = omega arith
kind_less t v (Some k) s = turns_less s v (cells t k)

answered_less : (s s' : State) (o : Option Stop) → Less s (answered o s') → s'.turns ≤ s.turns
answered_less s s' None h = h
answered_less s s' (Some why) h = h

pub declared_turns : (t : TablesShape) (v : ℕ) (s s' : State) (o : Option Stop) → declared t v s ≡ answered o s' → s'.turns ≤ s.turns
declared_turns t v s s' o e = answered_less s s' o (subst (Less s) e (kind_less t v (variable_kind t v) s))
