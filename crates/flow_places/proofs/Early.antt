-- Before main is called nothing is done but that variables of file scope are defined, and no site there is one that is told of.
use Rattle.std.proofs.Common.{ℕ, suc, List, [], ◌∷◌, ◌≡◌, refl, sym, subst, arith, Option, Some, None, Result, Ok, Err, true, false}
use Rattle.std.specs.Prelude.{replicate}
use Rattle.c_events.specs.declared.events.Event.{Event}
use Rattle.c_events.specs.declared.events.Event.TheVariants as event
use Rattle.c_syntax.specs.declared.text.Text.{Text}
use Rattle.c_syntax.specs.declared.tree.Named.{Named}
use Rattle.c_syntax.specs.Shape.{TypeOf, decl, DeclaratorShape, declarator, DeclaratorShapes, no_declarators, more_declarators, arrays, function, MaybeInit, ExternalShape, defined, declared}
use Rattle.c_constants.specs.Probes.{probe_number_of}
use Rattle.c_store.specs.declared.value.Value.{Value}
use Rattle.c_store.specs.declared.value.Pointer.{Pointer}
use Rattle.c_store.specs.declared.value.Fault.{Fault}
use Rattle.c_store.specs.declared.value.MakeErr.{MakeErr}
use Rattle.c_store.specs.Cells.{Cells, write_of, made, literal_cells}
use Rattle.c_walk.specs.declared.around.Around.{Around}
use Rattle.c_walk.specs.Walked.{Walked}
use Rattle.c_walk.specs.Counted.{next_def}
use Rattle.c_walk.specs.Stating.{with_variable}
use Rattle.c_walk.specs.Units.{in_function, define_declarator, walk_external}
use Rattle.c_meaning.specs.State.{Act, tells, repeats, State, activation, did}
use Rattle.c_meaning.specs.Results.{Got, Gives, Stops, then_do, settled, present}
use Rattle.c_meaning.specs.Layout.{cells, variable_kind}
use Rattle.c_meaning.specs.Firsts.{heard, cell_at, noted_def}
use Rattle.c_meaning.specs.Places.{first_cell, next_cell, logs_one, logs, log_def, stored}
use Rattle.c_meaning.specs.Declarations.{new_instance, bind_file, name_marks, filled, file_cells, file_variable, file_name, file_names}
use Rattle.c_meaning.specs.Calls.{Source}
use Rattle.c_meaning.specs.Runs.{literals_made, external_made, externals_made, all_made}
use Rattle.flow_calls.specs.Placing.{Sites, IsNewest, DefinedAt, IsRepeated, At}
use Rattle.flow_places.specs.Declared.{IsUnsited, AreUnsited, AreUnsitedExternals}
use Rattle.flow_places.proofs.Bound.{newest_more, placed_more}
use Rattle.flow_places.proofs.Finished.{AreRight, IsOne, OneAt, finished_more}
use Rattle.flow_places.proofs.Good.{IsQuiet, IsOther, def_quiet, repeats_quiet}

module _ (S : Sites) where
  pub record Early (s : State) : Type 0 where
    pub calls : s.calls ≡ []
    pub right : AreRight S s.deeds
    pub counted : IsNewest S s.deeds 1

  abbrev pub EarlyAt : {A : Type 0} → Got A → Type 0
  EarlyAt (Gives a t) = Early t
  EarlyAt (Stops why t) = Early t

  then_early : {A B : Type 0} (r : Got A) (go : A → State → Got B) → EarlyAt r → ((a : A) (t : State) → Early t → EarlyAt (go a t)) → EarlyAt (then_do r go)
  then_early (Gives a t) go e f = f a t e
  then_early (Stops why t) go e f = e

  settled_early : {A : Type 0} (r : Result A Fault) (s : State) → Early s → EarlyAt (settled r s)
  settled_early (Ok a) s e = e
  settled_early (Err why) s e = e

  present_early : {A : Type 0} (r : Option A) (s : State) → Early s → EarlyAt (present r s)
  present_early (Some a) s e = e
  present_early None s e = e

  to_early : (s t : State) → t.calls ≡ s.calls → t.deeds ≡ s.deeds → Early s → Early t
  to_early s t c d e = record { calls = subst (λ cs. cs ≡ []) (sym c) e.calls; right = subst (AreRight S) (sym d) e.right; counted = subst (λ ds. IsNewest S ds 1) (sym d) e.counted }

  did_early : (b : Act) (s : State) → IsQuiet S b → At S s.deeds (activation s) b → OneAt S s.deeds (activation s) b → Early s → Early (did b s)
  did_early b s k h o e =
      let z = k.number in
      record { calls = e.calls; right = (placed_more S s.deeds (activation s) b h e.right.0, finished_more S s.deeds (activation s) b o e.right.1); counted = newest_more S 1 1 s.deeds (activation s) b (omega arith) (omega (arith, z)) e.counted }

  none_other : (d : ℕ) → S.defined d ≡ None → IsOther S (S.defined d)
  none_other d h = subst (IsOther S) (sym h) tt

  -- ways to tell of a definition
  pub record IsWay (way : Event → Act) (d : ℕ) : Type 0 where
    pub quiet : (q : Pointer) → IsQuiet S (way (event.Def d (cell_at q)))
    pub placed : (ds : _) (a : ℕ) (q : Pointer) → At S ds a (way (event.Def d (cell_at q)))
    pub one : (ds : _) (a : ℕ) (q : Pointer) → OneAt S ds a (way (event.Def d (cell_at q)))

  tells_way : (d : ℕ) → S.defined d ≡ None → IsWay tells d
  tells_way d h = record { quiet = λ q. def_quiet S d (cell_at q) (none_other d h); placed = λ ds a q. subst (DefinedAt S ds a (cell_at q)) (sym h) tt; one = λ ds a q. subst (IsOne S ds a (cell_at q)) (sym h) tt }

  repeats_way : (d : ℕ) → S.defined d ≡ None → IsWay repeats d
  repeats_way d h = record { quiet = λ q. repeats_quiet S (event.Def d (cell_at q)); placed = λ ds a q. subst (IsRepeated S ds a d (cell_at q)) (sym h) tt; one = λ ds a q. tt }

  one_early : {A : Type 0} (q : Pointer) (x : Option ℕ) (s : State) (go : State → Got A) → Early s → ((t : State) → Early t → EarlyAt (go t)) → EarlyAt (logs_one (log_def q) x s go)
  one_early q None s go e f = e
  one_early q (Some m) s go e f = f _ (to_early s (log_def q m s) refl refl e)

  logs_early : {A : Type 0} (q : Pointer) (xs : List Text) (s : State) (go : State → Got A) → Early s → ((t : State) → Early t → EarlyAt (go t)) → EarlyAt (logs (log_def q) xs s go)
  logs_early q [] s go e f = f s e
  logs_early q (x ∷ xs) s go e f = one_early q (probe_number_of x) s _ e (λ t d. logs_early q xs t go d f)

  stored_early : (way : Event → Act) (xs : List Text) (c : Around) (w : Walked) (q : Pointer) (v : Value) (s : State) → IsWay way (next_def w) → Early s → EarlyAt (stored way xs (heard c w) q v s)
  stored_early way xs c w q v s k e = then_early (settled (write_of s.store q v) s) _ (settled_early (write_of s.store q v) s e) (λ m t d.
      let u : State = record t { store = m } in
      logs_early q xs (noted_def way (heard c w) q u) (λ s. Gives v s) (did_early (way (event.Def (next_def w) (cell_at q))) u (k.quiet q) (k.placed u.deeds (activation u) q) (k.one u.deeds (activation u) q) (to_early t u refl refl d)) (λ t g. g))

  filled_early : (way : Event → Act) (xs : List Text) (c : Around) (w : Walked) (q : Pointer) (vs : List (Option Value)) (s : State) → IsWay way (next_def w) → S.defined (next_def w) ≡ None → Early s → EarlyAt (filled way xs (heard c w) q vs s)
  filled_early way xs c w q [] s k h e = e
  filled_early way xs c w q (None ∷ vs) s k h e = filled_early way xs c w (next_cell q) vs s k h e
  filled_early way xs c w q (Some v ∷ vs) s k h e = then_early (stored way xs (heard c w) q v s) _ (stored_early way xs c w q v s k e) (λ v t d. filled_early repeats xs c w (next_cell q) vs t (repeats_way (next_def w) h) h d)

  new_early : (r : Result Cells MakeErr) (s : State) → Early s → EarlyAt (new_instance r s)
  new_early (Ok m) s e = to_early s (record s { store = m }) refl refl e
  new_early (Err why) s e = e

  literals_early : (xs : List Text) (s : State) → Early s → EarlyAt (literals_made xs s)
  literals_early [] s e = e
  literals_early (x ∷ xs) s e = then_early _ _ (new_early (made s.store false (literal_cells x)) s e) (λ j t d. literals_early xs t d)

  module _ (P : Source) where
    variable_early : (x : Option Named) (init : MaybeInit) (c : Around) (w : Walked) (y : TypeOf) (s : State) → S.defined (next_def (with_variable w)) ≡ None → Early s → EarlyAt (file_variable P.tables x init (heard c w) y s)
    variable_early x init c w y s h e = then_early _ _ (new_early (made s.store true (replicate (cells P.tables y) None)) s e) (λ j u d.
        let b = bind_file (suc w.variables) j u in
        filled_early tells (name_marks x) c (with_variable w) (first_cell j (cells P.tables y)) (file_cells P.tables b.file y init) b (tells_way (next_def (with_variable w)) h) h (to_early u b refl refl d))

    name_early : (d : DeclaratorShape) (c : Around) (w : Walked) (s : State) → IsUnsited S [] P.tables d w → Early s → EarlyAt (file_name P.tables d (heard c w) s)
    name_early (declarator stars x (arrays ls) init) c w s h e = then_early (present (variable_kind P.tables (suc w.variables)) s) _ (present_early (variable_kind P.tables (suc w.variables)) s e) (λ y u d. variable_early x init c w y u h d)
    name_early (declarator stars x (function ps) init) c w s h e = e

    names_early : (ds : DeclaratorShapes) (w : Walked) (s : State) → AreUnsited S [] P.tables ds w → Early s → EarlyAt (file_names P.tables ds (heard (in_function 0) w) s)
    names_early no_declarators w s h e = e
    names_early (more_declarators d rest) w s h e = then_early (file_name P.tables d (heard (in_function 0) w) s) _ (name_early d (in_function 0) w s h.0 e) (λ f u g. names_early rest (define_declarator P.tables 0 d w) u h.1 g)

    externals_early : (es : List ExternalShape) (w : Walked) (s : State) → AreUnsitedExternals S [] P.tables es w → Early s → EarlyAt (externals_made P.tables es (heard (in_function 0) w) s)
    externals_early [] w s h e = e
    externals_early (declared (decl p specs names) ∷ rest) w s h e =
        then_early (external_made P.tables (declared (decl p specs names)) (heard (in_function 0) w) s) _ (names_early names w s h.0 e) (λ f u g. externals_early rest (walk_external P.tables (declared (decl p specs names)) w) u h.1 g)
    externals_early (defined specs d ms a ∷ rest) w s h e = externals_early rest (walk_external P.tables (defined specs d ms a) w) s h e

    pub made_early : (w : Walked) (s : State) → AreUnsitedExternals S [] P.tables P.unit.externals w → Early s → EarlyAt (all_made P (heard (in_function 0) w) s)
    made_early w s h e = then_early (literals_made P.tables.literals s) _ (literals_early P.tables.literals s e) (λ f u g. externals_early P.unit.externals w u h g)
