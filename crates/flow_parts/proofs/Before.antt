-- Before main is called no test is told, and then all is done by calls: so each test of a run is told by a call.
use Rattle.std.proofs.Common.{ℕ, ◌≤◌, ◌⊎◌, inl, inr, List, [], ◌∷◌, subst, arith, Option, Some, None, Result, Ok, Err, true, false}
use Rattle.std.specs.Prelude.{All, replicate}
use Rattle.std.proofs.lemmas.List.Elements.{All-nil, All-cons, All-append, All-weaker}
use Rattle.c_events.specs.declared.events.Cell.{Cell}
use Rattle.c_events.specs.declared.events.Event.{Event}
use Rattle.c_events.specs.declared.events.Event.TheVariants as event
use Rattle.c_syntax.specs.declared.text.Text.{Text}
use Rattle.c_syntax.specs.declared.tree.Named.{Named}
use Rattle.c_syntax.specs.Shape.{TypeOf, decl, DeclaratorShape, declarator, DeclaratorShapes, no_declarators, more_declarators, arrays, function, MaybeInit, ExternalShape, defined, declared}
use Rattle.c_constants.specs.Probes.{probe_number_of}
use Rattle.c_store.specs.declared.value.Value.{Value}
use Rattle.c_store.specs.declared.value.Pointer.{Pointer}
use Rattle.c_store.specs.declared.value.Fault.{Fault}
use Rattle.c_store.specs.declared.value.MakeErr.{MakeErr}
use Rattle.c_store.specs.Cells.{Cells, write_of, made, literal_cells}
use Rattle.c_tables.specs.Tables.{TablesShape}
use Rattle.c_meaning.specs.State.{Act, tells, repeats, Deed, State, start, activation, did}
use Rattle.c_meaning.specs.Results.{Got, Gives, Stops, then_do, settled, present}
use Rattle.c_meaning.specs.Layout.{cells, variable_kind}
use Rattle.c_meaning.specs.Firsts.{First, quiet, heard, noted_def}
use Rattle.c_meaning.specs.Places.{first_cell, next_cell, logs_one, logs, log_def, stored}
use Rattle.c_meaning.specs.Counts.{past_name, past_defined, past_external}
use Rattle.c_meaning.specs.Declarations.{new_instance, bind_file, next_variable, name_marks, filled, file_cells, file_variable, file_name, file_names}
use Rattle.c_meaning.specs.Lasting.{IsNew, HasDone, IsOver, Lasted}
use Rattle.c_meaning.specs.Calls.{Source, calls}
use Rattle.c_meaning.specs.Runs.{main_number, literals_made, external_made, externals_made, all_made, outcome, audible, run_heard}
use Rattle.c_meaning.proofs.Apart.{calls_apart}

-- no test is told
abbrev pub IsUntested : Act → Type 0
IsUntested (tells (event.Test k o a)) = ⊥
IsUntested (repeats (event.Test k o a)) = ⊥
IsUntested b = Unit {0}

-- told by a call, if it is a test
abbrev pub IsByCall : Deed → Type 0
IsByCall d = IsUntested d.act ⊎ (1 ≤ d.activation)

pub record Early (s : State) : Type 0 where
  pub all : All IsByCall s.deeds

abbrev EarlyAt : {A : Type 0} → Got A → Type 0
EarlyAt (Gives a t) = Early t
EarlyAt (Stops why t) = Early t

abbrev Defines : (Event → Act) → Type 0
Defines way = (d : ℕ) (c : Cell) → IsUntested (way (event.Def d c))

then_early : {A B : Type 0} (r : Got A) (go : A → State → Got B) → EarlyAt r → ((a : A) (t : State) → Early t → EarlyAt (go a t)) → EarlyAt (then_do r go)
then_early (Gives a t) go e f = f a t e
then_early (Stops why t) go e f = e

settled_early : {A : Type 0} (r : Result A Fault) (s : State) → Early s → EarlyAt (settled r s)
settled_early (Ok a) s e = e
settled_early (Err why) s e = e

present_early : {A : Type 0} (r : Option A) (s : State) → Early s → EarlyAt (present r s)
present_early (Some a) s e = e
present_early None s e = e

did_early : (b : Act) (s : State) → IsUntested b → Early s → Early (did b s)
did_early b s h e = record { all = All-append IsByCall s.deeds _ e.all (All-cons IsByCall (record { activation = activation s; act = b }) [] (inl h) (All-nil IsByCall)) }

def_early : (way : Event → Act) → Defines way → (i : First) (q : Pointer) (s : State) → Early s → Early (noted_def way i q s)
def_early way h (quiet n) q s e = e
def_early way h (heard c w) q s e = did_early _ s (h _ _) e

one_early : {A : Type 0} (q : Pointer) (x : Option ℕ) (s : State) (go : State → Got A) → Early s → ((t : State) → Early t → EarlyAt (go t)) → EarlyAt (logs_one (log_def q) x s go)
one_early q None s go e f = e
one_early q (Some m) s go e f = f _ (record { all = e.all })

logs_early : {A : Type 0} (q : Pointer) (xs : List Text) (s : State) (go : State → Got A) → Early s → ((t : State) → Early t → EarlyAt (go t)) → EarlyAt (logs (log_def q) xs s go)
logs_early q [] s go e f = f s e
logs_early q (x ∷ xs) s go e f = one_early q (probe_number_of x) s _ e (λ t d. logs_early q xs t go d f)

stored_early : (way : Event → Act) → Defines way → (xs : List Text) (i : First) (q : Pointer) (v : Value) (s : State) → Early s → EarlyAt (stored way xs i q v s)
stored_early way h xs i q v s e = then_early (settled (write_of s.store q v) s) _ (settled_early (write_of s.store q v) s e) (λ m t d.
    let u : State = record t { store = m } in
    let early : Early u = record { all = d.all } in
    logs_early q xs (noted_def way i q u) (λ s. Gives v s) (def_early way h i q u early) (λ t g. g))

filled_early : (way : Event → Act) → Defines way → (xs : List Text) (i : First) (q : Pointer) (vs : List (Option Value)) (s : State) → Early s → EarlyAt (filled way xs i q vs s)
filled_early way h xs i q [] s e = e
filled_early way h xs i q (None ∷ vs) s e = filled_early way h xs i (next_cell q) vs s e
filled_early way h xs i q (Some v ∷ vs) s e = then_early (stored way xs i q v s) _ (stored_early way h xs i q v s e) (λ v t d. filled_early repeats (λ d c. tt) xs i (next_cell q) vs t d)

new_early : (r : Result Cells MakeErr) (s : State) → Early s → EarlyAt (new_instance r s)
new_early (Ok m) s e = record { all = e.all }
new_early (Err why) s e = e

literals_early : (xs : List Text) (s : State) → Early s → EarlyAt (literals_made xs s)
literals_early [] s e = e
literals_early (x ∷ xs) s e = then_early _ _ (new_early (made s.store false (literal_cells x)) s e) (λ j t d. literals_early xs t d)

variable_early : (t : TablesShape) (x : Option Named) (init : MaybeInit) (i : First) (y : TypeOf) (s : State) → Early s → EarlyAt (file_variable t x init i y s)
variable_early t x init i y s e = then_early _ _ (new_early (made s.store true (replicate (cells t y) None)) s e) (λ j u d.
    let b = bind_file (next_variable i) j u in
    filled_early tells (λ d c. tt) (name_marks x) (past_name i) (first_cell j (cells t y)) (file_cells t b.file y init) b (record { all = d.all }))

name_early : (t : TablesShape) (d : DeclaratorShape) (i : First) (s : State) → Early s → EarlyAt (file_name t d i s)
name_early t (declarator stars x (arrays ls) init) i s e = then_early (present (variable_kind t (next_variable i)) s) _ (present_early (variable_kind t (next_variable i)) s e) (λ y u d. variable_early t x init i y u d)
name_early t (declarator stars x (function ps) init) i s e = e

names_early : (t : TablesShape) (ds : DeclaratorShapes) (i : First) (s : State) → Early s → EarlyAt (file_names t ds i s)
names_early t no_declarators i s e = e
names_early t (more_declarators d rest) i s e = then_early (file_name t d i s) _ (name_early t d i s e) (λ f u g. names_early t rest (past_defined t d i) u g)

external_early : (t : TablesShape) (a : ExternalShape) (i : First) (s : State) → Early s → EarlyAt (external_made t a i s)
external_early t (declared (decl p specs names)) i s e = names_early t names i s e
external_early t (defined specs d ms c) i s e = e

externals_early : (t : TablesShape) (es : List ExternalShape) (i : First) (s : State) → Early s → EarlyAt (externals_made t es i s)
externals_early t [] i s e = e
externals_early t (a ∷ rest) i s e = then_early (external_made t a i s) _ (external_early t a i s e) (λ f u g. externals_early t rest (past_external t a i) u g)

made_early : (P : Source) (i : First) (s : State) → Early s → EarlyAt (all_made P i s)
made_early P i s e = then_early (literals_made P.tables.literals s) _ (literals_early P.tables.literals s e) (λ f u g. externals_early P.tables P.unit.externals i u g)

-- ---- main is called

new_by_call : (s : State) (d : Deed) → IsNew s d → IsByCall d
new_by_call s d lt = inr (omega (arith, lt))

done_early : (s t : State) → HasDone IsNew s t → Early s → Early t
done_early s t h e = record { all = subst (All IsByCall) h.is (All-append IsByCall s.deeds h.deeds e.all (All-weaker (IsNew s) IsByCall (new_by_call s) h.deeds h.all)) }

call_early : (s : State) (r : Got (Option Value)) → Lasted IsOver (HasDone IsNew) s r → Early s → EarlyAt r
call_early s (Gives v t) l e = done_early s t l.holds.done e
call_early s (Stops why t) l e = done_early s t l.holds e

outcome_early : (t : TablesShape) (limit : ℕ) (r : Got (Option Value)) → EarlyAt r → All IsByCall (outcome t limit r).deeds
outcome_early t limit (Gives v s) e = e.all
outcome_early t limit (Stops why s) e = e.all

-- what a run does is untested, or done by a call
pub tests_by_calls : (P : Source) (input : List ℕ) (limit : ℕ) → All IsByCall (run_heard P input limit).deeds
tests_by_calls P input limit =
    let s = start input limit in
    outcome_early P.tables limit _ (then_early (all_made P audible s) _ (made_early P audible s (record { all = All-nil IsByCall })) (λ f u e. then_early (present (main_number P.tables) u) _ (present_early (main_number P.tables) u e)
    (λ f v d. call_early v ((calls P audible).call f [] v) ((calls_apart P audible).call_keeps f [] v) d)))
