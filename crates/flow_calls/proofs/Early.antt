-- Before main is called nothing is done but by activation 0, and no call begins.
use Rattle.std.proofs.Common.{ℕ, ◌≤◌, List, [], ◌∷◌, ◌++◌, ◌≡◌, ap, ◌∙◌, append-nil, arith, Option, Some, None, Result, Ok, Err, true, false}
use Rattle.std.specs.Prelude.{replicate}
use Rattle.c_events.specs.declared.events.Event.{Event}
use Rattle.c_syntax.specs.declared.text.Text.{Text}
use Rattle.c_syntax.specs.declared.tree.Named.{Named}
use Rattle.c_syntax.specs.Shape.{TypeOf, decl, DeclaratorShape, declarator, DeclaratorShapes, no_declarators, more_declarators, arrays, function, MaybeInit, ExternalShape, defined, declared}
use Rattle.c_constants.specs.Probes.{probe_number_of}
use Rattle.c_store.specs.declared.value.Value.{Value}
use Rattle.c_store.specs.declared.value.Pointer.{Pointer}
use Rattle.c_store.specs.declared.value.Fault.{Fault}
use Rattle.c_store.specs.declared.value.MakeErr.{MakeErr}
use Rattle.c_store.specs.Cells.{Cells, write_of, made, literal_cells}
use Rattle.c_tables.specs.Tables.{TablesShape}
use Rattle.c_meaning.specs.State.{Act, tells, repeats, State, activation, activation_in, did}
use Rattle.c_meaning.specs.Deeds.{own}
use Rattle.c_meaning.specs.Results.{Got, Gives, Stops, then_do, settled, present}
use Rattle.c_meaning.specs.Layout.{cells, variable_kind}
use Rattle.c_meaning.specs.Firsts.{First, quiet, heard, noted_def}
use Rattle.c_meaning.specs.Places.{first_cell, next_cell, logs_one, logs, log_def, stored}
use Rattle.c_meaning.specs.Counts.{past_name, past_defined, past_external}
use Rattle.c_meaning.specs.Declarations.{new_instance, bind_file, next_variable, name_marks, filled, file_cells, file_variable, file_name, file_names}
use Rattle.c_meaning.specs.Calls.{Source}
use Rattle.c_meaning.specs.Runs.{literals_made, external_made, externals_made, all_made}
use Rattle.c_meaning.proofs.Apart.{own_append}
use Rattle.flow_calls.proofs.Own.{own_other}

pub record Early (s : State) : Type 0 where
  pub calls : s.calls ≡ []
  pub last : s.last ≡ 0
  pub none : (a : ℕ) → 1 ≤ a → own a s.deeds ≡ []

abbrev pub EarlyAt : {A : Type 0} → Got A → Type 0
EarlyAt (Gives a t) = Early t
EarlyAt (Stops why t) = Early t

then_early : {A B : Type 0} (r : Got A) (go : A → State → Got B) → EarlyAt r → ((a : A) (t : State) → Early t → EarlyAt (go a t)) → EarlyAt (then_do r go)
then_early (Gives a t) go e f = f a t e
then_early (Stops why t) go e f = e

settled_early : {A : Type 0} (r : Result A Fault) (s : State) → Early s → EarlyAt (settled r s)
settled_early (Ok a) s e = e
settled_early (Err why) s e = e

present_early : {A : Type 0} (r : Option A) (s : State) → Early s → EarlyAt (present r s)
present_early (Some a) s e = e
present_early None s e = e

did_early : (b : Act) (s : State) → Early s → Early (did b s)
did_early b s e = record {
  calls = e.calls;
  last = e.last;
  none = λ a le.
      let active : activation s ≡ 0 = ap activation_in e.calls in
      own_append a s.deeds _ ∙ ap (λ x. own a s.deeds ++ x) (own_other (activation s) a b (λ same. omega (arith, same, active, le))) ∙ append-nil (own a s.deeds) ∙ e.none a le;
}

def_early : (way : Event → Act) (i : First) (q : Pointer) (s : State) → Early s → Early (noted_def way i q s)
def_early way (quiet n) q s e = e
def_early way (heard c w) q s e = did_early _ s e

one_early : {A : Type 0} (q : Pointer) (x : Option ℕ) (s : State) (go : State → Got A) → Early s → ((t : State) → Early t → EarlyAt (go t)) → EarlyAt (logs_one (log_def q) x s go)
one_early q None s go e f = e
one_early q (Some m) s go e f = f _ (record { calls = e.calls; last = e.last; none = e.none })

logs_early : {A : Type 0} (q : Pointer) (xs : List Text) (s : State) (go : State → Got A) → Early s → ((t : State) → Early t → EarlyAt (go t)) → EarlyAt (logs (log_def q) xs s go)
logs_early q [] s go e f = f s e
logs_early q (x ∷ xs) s go e f = one_early q (probe_number_of x) s _ e (λ t d. logs_early q xs t go d f)

stored_early : (way : Event → Act) (xs : List Text) (i : First) (q : Pointer) (v : Value) (s : State) → Early s → EarlyAt (stored way xs i q v s)
stored_early way xs i q v s e = then_early (settled (write_of s.store q v) s) _ (settled_early (write_of s.store q v) s e) (λ m t d.
    let u : State = record t { store = m } in
    let early : Early u = record { calls = d.calls; last = d.last; none = d.none } in
    logs_early q xs (noted_def way i q u) (λ s. Gives v s) (def_early way i q u early) (λ t g. g))

filled_early : (way : Event → Act) (xs : List Text) (i : First) (q : Pointer) (vs : List (Option Value)) (s : State) → Early s → EarlyAt (filled way xs i q vs s)
filled_early way xs i q [] s e = e
filled_early way xs i q (None ∷ vs) s e = filled_early way xs i (next_cell q) vs s e
filled_early way xs i q (Some v ∷ vs) s e = then_early (stored way xs i q v s) _ (stored_early way xs i q v s e) (λ v t d. filled_early repeats xs i (next_cell q) vs t d)

new_early : (r : Result Cells MakeErr) (s : State) → Early s → EarlyAt (new_instance r s)
new_early (Ok m) s e = record { calls = e.calls; last = e.last; none = e.none }
new_early (Err why) s e = e

literals_early : (xs : List Text) (s : State) → Early s → EarlyAt (literals_made xs s)
literals_early [] s e = e
literals_early (x ∷ xs) s e = then_early _ _ (new_early (made s.store false (literal_cells x)) s e) (λ j t d. literals_early xs t d)

variable_early : (t : TablesShape) (x : Option Named) (init : MaybeInit) (i : First) (y : TypeOf) (s : State) → Early s → EarlyAt (file_variable t x init i y s)
variable_early t x init i y s e = then_early _ _ (new_early (made s.store true (replicate (cells t y) None)) s e) (λ j u d.
    let b = bind_file (next_variable i) j u in
    filled_early tells (name_marks x) (past_name i) (first_cell j (cells t y)) (file_cells t b.file y init) b (record { calls = d.calls; last = d.last; none = d.none }))

name_early : (t : TablesShape) (d : DeclaratorShape) (i : First) (s : State) → Early s → EarlyAt (file_name t d i s)
name_early t (declarator stars x (arrays ls) init) i s e = then_early (present (variable_kind t (next_variable i)) s) _ (present_early (variable_kind t (next_variable i)) s e) (λ y u d. variable_early t x init i y u d)
name_early t (declarator stars x (function ps) init) i s e = e

names_early : (t : TablesShape) (ds : DeclaratorShapes) (i : First) (s : State) → Early s → EarlyAt (file_names t ds i s)
names_early t no_declarators i s e = e
names_early t (more_declarators d rest) i s e = then_early (file_name t d i s) _ (name_early t d i s e) (λ f u g. names_early t rest (past_defined t d i) u g)

external_early : (t : TablesShape) (a : ExternalShape) (i : First) (s : State) → Early s → EarlyAt (external_made t a i s)
external_early t (declared (decl p specs names)) i s e = names_early t names i s e
external_early t (defined specs d ms c) i s e = e

externals_early : (t : TablesShape) (es : List ExternalShape) (i : First) (s : State) → Early s → EarlyAt (externals_made t es i s)
externals_early t [] i s e = e
externals_early t (a ∷ rest) i s e = then_early (external_made t a i s) _ (external_early t a i s e) (λ f u g. externals_early t rest (past_external t a i) u g)

pub made_early : (P : Source) (i : First) (s : State) → Early s → EarlyAt (all_made P i s)
made_early P i s e = then_early (literals_made P.tables.literals s) _ (literals_early P.tables.literals s e) (λ f u g. externals_early P.tables P.unit.externals i u g)
