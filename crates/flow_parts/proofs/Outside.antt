-- The variables that are bound at file scope before main is called are those that are declared outside of functions.
use Rattle.std.proofs.Common.{ℕ, suc, ◌++◌, ◌≡◌, List, [], ◌∷◌, refl, subst, ap, ◌∙◌, Option, Some, None, Result, Ok, Err, true, false}
use Rattle.std.specs.Prelude.{nat_eq, ◌||◌, replicate}
use Rattle.std.proofs.lemmas.Bool.{or_parts}
use Rattle.c_events.specs.declared.events.Event.{Event}
use Rattle.c_syntax.specs.declared.text.Text.{Text}
use Rattle.c_syntax.specs.declared.tree.Named.{Named}
use Rattle.c_syntax.specs.Shape.{TypeOf, decl, declarator, DeclaratorShapes, no_declarators, more_declarators, arrays, function, MaybeInit, ExternalShape, defined, declared}
use Rattle.c_constants.specs.Probes.{probe_number_of}
use Rattle.c_store.specs.declared.value.Value.{Value}
use Rattle.c_store.specs.declared.value.Pointer.{Pointer}
use Rattle.c_store.specs.declared.value.Fault.{Fault}
use Rattle.c_store.specs.declared.value.MakeErr.{MakeErr}
use Rattle.c_store.specs.Cells.{Cells, write_of, made, literal_cells}
use Rattle.c_walk.specs.declared.around.Around.{Around}
use Rattle.c_walk.specs.Walked.{Walked}
use Rattle.c_walk.specs.Stating.{with_variable}
use Rattle.c_walk.specs.Units.{in_function, define_declarator, walk_external}
use Rattle.c_meaning.specs.State.{Act, tells, repeats, Bound, State, found_in}
use Rattle.c_meaning.specs.Results.{Got, Gives, Stops, then_do, settled, present}
use Rattle.c_meaning.specs.Layout.{cells, variable_kind}
use Rattle.c_meaning.specs.Firsts.{heard, noted_def}
use Rattle.c_meaning.specs.Places.{first_cell, next_cell, logs_one, logs, log_def, stored}
use Rattle.c_meaning.specs.Declarations.{new_instance, bind_file, name_marks, filled, file_cells, file_variable, file_name, file_names}
use Rattle.c_meaning.specs.Calls.{Source}
use Rattle.c_meaning.specs.Runs.{literals_made, external_made, externals_made, all_made}
use Rattle.flow_calls.proofs.Lists.{if_off}
use Rattle.flow_parts.specs.Items.{is_among, outer_names, outer_variables}

pub among_parts : (x : ℕ) (xs ys : List ℕ) → is_among x (xs ++ ys) ≡ false → (is_among x xs ≡ false) × (is_among x ys ≡ false)
among_parts x [] ys h = (refl, h)
among_parts x (y ∷ xs) ys h = let p = or_parts (nat_eq y x) (is_among x (xs ++ ys)) h in let q = among_parts x xs ys p.1 in (ap (λ b. b || is_among x xs) p.0 ∙ q.0, q.1)

module _ (x : ℕ) where
  -- the variable isn't bound there
  abbrev pub NoneAt : {A : Type 0} → Got A → Type 0
  NoneAt (Gives a t) = found_in x t.file ≡ None
  NoneAt (Stops why t) = Unit {0}

  then_none : {A B : Type 0} (r : Got A) (go : A → State → Got B) → NoneAt r → ((a : A) (t : State) → found_in x t.file ≡ None → NoneAt (go a t)) → NoneAt (then_do r go)
  then_none (Gives a t) go e f = f a t e
  then_none (Stops why t) go e f = tt

  settled_none : {A : Type 0} (r : Result A Fault) (s : State) → found_in x s.file ≡ None → NoneAt (settled r s)
  settled_none (Ok a) s e = e
  settled_none (Err why) s e = tt

  present_none : {A : Type 0} (r : Option A) (s : State) → found_in x s.file ≡ None → NoneAt (present r s)
  present_none (Some a) s e = e
  present_none None s e = tt

  one_none : {A : Type 0} (q : Pointer) (o : Option ℕ) (s : State) (go : State → Got A) → found_in x s.file ≡ None → ((t : State) → found_in x t.file ≡ None → NoneAt (go t)) → NoneAt (logs_one (log_def q) o s go)
  one_none q None s go e f = tt
  one_none q (Some m) s go e f = f _ e

  logs_none : {A : Type 0} (q : Pointer) (xs : List Text) (s : State) (go : State → Got A) → found_in x s.file ≡ None → ((t : State) → found_in x t.file ≡ None → NoneAt (go t)) → NoneAt (logs (log_def q) xs s go)
  logs_none q [] s go e f = f s e
  logs_none q (y ∷ xs) s go e f = one_none q (probe_number_of y) s _ e (λ t d. logs_none q xs t go d f)

  stored_none : (way : Event → Act) (xs : List Text) (c : Around) (w : Walked) (q : Pointer) (v : Value) (s : State) → found_in x s.file ≡ None → NoneAt (stored way xs (heard c w) q v s)
  stored_none way xs c w q v s e = then_none (settled (write_of s.store q v) s) _ (settled_none (write_of s.store q v) s e) (λ m t d. logs_none q xs (noted_def way (heard c w) q (record t { store = m })) (λ s. Gives v s) d (λ t g. g))

  filled_none : (way : Event → Act) (xs : List Text) (c : Around) (w : Walked) (q : Pointer) (vs : List (Option Value)) (s : State) → found_in x s.file ≡ None → NoneAt (filled way xs (heard c w) q vs s)
  filled_none way xs c w q [] s e = e
  filled_none way xs c w q (None ∷ vs) s e = filled_none way xs c w (next_cell q) vs s e
  filled_none way xs c w q (Some v ∷ vs) s e = then_none (stored way xs (heard c w) q v s) _ (stored_none way xs c w q v s e) (λ v t d. filled_none repeats xs c w (next_cell q) vs t d)

  new_none : (r : Result Cells MakeErr) (s : State) → found_in x s.file ≡ None → NoneAt (new_instance r s)
  new_none (Ok m) s e = e
  new_none (Err why) s e = tt

  literals_none : (xs : List Text) (s : State) → found_in x s.file ≡ None → NoneAt (literals_made xs s)
  literals_none [] s e = e
  literals_none (y ∷ xs) s e = then_none _ _ (new_none (made s.store false (literal_cells y)) s e) (λ j t d. literals_none xs t d)

  module _ (P : Source) where
    bound_none : (n j : ℕ) (bs : List Bound) → nat_eq n x ≡ false → found_in x bs ≡ None → found_in x (record { variable = n; instance = j } ∷ bs) ≡ None
    bound_none n j bs h e = if_off (nat_eq n x) (Some j) (found_in x bs) h ∙ e

    variable_none : (y : Option Named) (init : MaybeInit) (c : Around) (w : Walked) (k : TypeOf) (s : State) → nat_eq (suc w.variables) x ≡ false → found_in x s.file ≡ None → NoneAt (file_variable P.tables y init (heard c w) k s)
    variable_none y init c w k s h e = then_none _ _ (new_none (made s.store true (replicate (cells P.tables k) None)) s e) (λ j u d.
        let b = bind_file (suc w.variables) j u in
        filled_none tells (name_marks y) c (with_variable w) (first_cell j (cells P.tables k)) (file_cells P.tables b.file k init) b (bound_none (suc w.variables) j u.file h d))

    names_none : (ds : DeclaratorShapes) (w : Walked) (s : State) → is_among x (outer_names P.tables ds w) ≡ false → found_in x s.file ≡ None → NoneAt (file_names P.tables ds (heard (in_function 0) w) s)
    names_none no_declarators w s h e = e
    names_none (more_declarators (declarator stars y (arrays ls) init) rest) w s h e =
        let d = declarator stars y (arrays ls) init in
        let u = define_declarator P.tables 0 d w in
        let p = or_parts (nat_eq (suc w.variables) x) (is_among x (outer_names P.tables rest u)) h in
        then_none (file_name P.tables d (heard (in_function 0) w) s) _
        (then_none (present (variable_kind P.tables (suc w.variables)) s) _ (present_none (variable_kind P.tables (suc w.variables)) s e) (λ k t z. variable_none y init (in_function 0) w k t p.0 z))
        (λ f t g. names_none rest u t p.1 g)
    names_none (more_declarators (declarator stars y (function ps) init) rest) w s h e = names_none rest (define_declarator P.tables 0 (declarator stars y (function ps) init) w) s h e

    externals_none : (es : List ExternalShape) (w : Walked) (s : State) → is_among x (outer_variables P.tables es w) ≡ false → found_in x s.file ≡ None → NoneAt (externals_made P.tables es (heard (in_function 0) w) s)
    externals_none [] w s h e = e
    externals_none (declared (decl p specs names) ∷ rest) w s h e =
        let u = walk_external P.tables (declared (decl p specs names)) w in
        let q = among_parts x (outer_names P.tables names w) (outer_variables P.tables rest u) h in
        then_none (external_made P.tables (declared (decl p specs names)) (heard (in_function 0) w) s) _ (names_none names w s q.0 e) (λ f t g. externals_none rest u t q.1 g)
    externals_none (defined specs d ms a ∷ rest) w s h e = externals_none rest (walk_external P.tables (defined specs d ms a) w) s h e

    pub made_none : (w : Walked) (s : State) → is_among x (outer_variables P.tables P.unit.externals w) ≡ false → found_in x s.file ≡ None → NoneAt (all_made P (heard (in_function 0) w) s)
    made_none w s h e = then_none (literals_made P.tables.literals s) _ (literals_none P.tables.literals s e) (λ f t g. externals_none P.unit.externals w t h g)

pub at_gives : {A : Type 0} (x : ℕ) (r : Got A) (a : A) (t : State) → r ≡ Gives a t → NoneAt x r → found_in x t.file ≡ None
at_gives x r a t e h = subst (NoneAt x) e h
