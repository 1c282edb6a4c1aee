-- What declarations keep: each variable that is declared stands for its new instance, in the innermost scope alone.
use Rattle.std.proofs.Common.{ℕ, zero, suc, ◌+◌, ◌-◌, ◌≤◌, ◌<◌, List, [], ◌∷◌, ◌++◌, ◌≡◌, inr, refl, sym, subst, ap, ◌∙◌, arith, length, Option, Some, None, Result, Ok, Err, Bool, true, false}
use Rattle.std.specs.Prelude.{nat_le, replicate, Contains, if◌then◌else◌}
use Rattle.c_events.specs.declared.events.Event.{Event}
use Rattle.c_events.specs.declared.events.Event.TheVariants as event
use Rattle.c_syntax.specs.declared.text.Text.{Text}
use Rattle.c_syntax.specs.declared.tree.Named.{Named}
use Rattle.c_syntax.specs.Shape.{TypeOf, int, pointer, array, structure, nothing, NodeShape, DeclShape, decl, DeclShapes, no_decls, more_decls, DeclaratorShape, declarator, DeclaratorShapes, no_declarators, more_declarators, arrays, function, MaybeInit, no_init, one_init, InitShape, one, listed}
use Rattle.c_constants.specs.Probes.{probe_number_of}
use Rattle.c_store.specs.declared.value.Value.{Value}
use Rattle.c_store.specs.declared.value.Pointer.{Pointer}
use Rattle.c_store.specs.declared.value.Fault.{Fault}
use Rattle.c_store.specs.declared.value.MakeErr.TheVariants.{Room}
use Rattle.c_store.specs.Cells.{Cells, write_of, cell_count}
use Rattle.c_walk.specs.declared.around.Around.{Around}
use Rattle.c_walk.specs.declared.around.Taken.TheVariants.{Read}
use Rattle.c_walk.specs.Walked.{Walked}
use Rattle.c_walk.specs.Counted.{next_def}
use Rattle.c_walk.specs.Stating.{with_variable, with_whole_def, walk_declarator, walk_declarators, walk_decl, walk_decls}
use Rattle.c_meaning.specs.declared.end.Stop.{Stop}
use Rattle.c_meaning.specs.declared.end.Stop.TheVariants as stop
use Rattle.c_meaning.specs.declared.end.Flow.TheVariants.{Next}
use Rattle.c_meaning.specs.State.{Act, makes, tells, repeats, Bound, Call, Deed, State, activation, did, found_within, in_call, tail_of}
use Rattle.c_meaning.specs.Deeds.{own}
use Rattle.c_meaning.specs.Results.{Got, Gives, Stops, then_do, turn_of, turn, turns, settled, present, needed}
use Rattle.c_meaning.specs.Layout.{cells, variable_kind}
use Rattle.c_meaning.specs.Operators.{converted}
use Rattle.c_meaning.specs.Firsts.{heard, cell_at, noted_def}
use Rattle.c_meaning.specs.Places.{whole, first_cell, logs_one, logs, log_def}
use Rattle.c_meaning.specs.Constants.{one_cells, init_cells}
use Rattle.c_meaning.specs.Knot.{Knot}
use Rattle.c_meaning.specs.Expressions.{meaning}
use Rattle.c_meaning.specs.Declarations.{new_instance, name_marks, filled, scalar_written, initialised, bound_variable, made_variable, declared_variable, declared_name, declared_names, declared_decl, declared_all}
use Rattle.c_meaning.specs.Calls.{Source}
use Rattle.c_meaning.proofs.Apart.{own_append}
use Rattle.c_meaning.proofs.Declared.{declarator_count}
use Rattle.flow_walks.specs.declared.action.Action.TheVariants.{Define}
use Rattle.flow_calls.proofs.Own.{own_here}
use Rattle.flow_calls.specs.Placing.{Local, Sites, InPlace, HasOneName, IsDefined, DefinedAt, IsRepeated, At}
use Rattle.flow_places.specs.Sited.{IsSited}
use Rattle.flow_places.specs.Declared.{AreNamed, DefinesBy, IsInitial, IsSitedVariable, IsSitedDeclarator, AreSitedDeclarators, IsSitedDecl, AreSitedDecls}
use Rattle.flow_places.proofs.Bound.{Below, below_more, made_below, made_tail, found_is, found_made}
use Rattle.flow_places.proofs.Finished.{AreRight, HasOne, IsOne, OneAt}
use Rattle.flow_places.proofs.Ends.{EndsWith, ends_told, ends_again}
use Rattle.flow_places.proofs.Good.{IsQuiet, IsOther, def_quiet, repeats_quiet, Good, good_act, good_bound, with_instance, makes_it, makes_other, Still, good_still}
use Rattle.flow_places.proofs.Safe.{Any, GoodAt, Safe, Logging, at_from, safe_gives, safe_then, safe_needed, ForDef}
use Rattle.flow_places.proofs.Parts.{written_within, SameCount, write_count, stored_safe}
use Rattle.flow_names.specs.Keeping.{KeepsNames}
use Rattle.flow_places.proofs.Nodes.{Calling, value_safe}

-- ---- probes that log a definition change the log alone

module _ {B : Type 0} (goal : Got B → Type 0) (q : Pointer) (v : Value) (go : Value → State → Got B) where
  one_then : (o : Option ℕ) (s : State) (rest : State → Got Value) → ((m : ℕ) → goal (then_do (rest (log_def q m s)) go)) → ((why : Stop) (l : List Event) → goal (Stops why (record s { log = l }))) → goal (then_do (logs_one (log_def q) o s rest) go)
  one_then None s rest f g = g _ s.log
  one_then (Some m) s rest f g = f m

  pub logs_then : (xs : List Text) (s : State) → ((l : List Event) → goal (go v (record s { log = l }))) → ((why : Stop) (l : List Event) → goal (Stops why (record s { log = l }))) → goal (then_do (logs (log_def q) xs s (λ s. Gives v s)) go)
  logs_then [] s f g = f s.log
  logs_then (x ∷ xs) s f g = one_then (probe_number_of x) s (λ s. logs (log_def q) xs s (λ s. Gives v s)) (λ m. logs_then xs (log_def q m s) f g) g

module _ (S : Sites) (F : List Bound) where
  -- ---- the items of a block: only the innermost scope grows

  abbrev pub TopAt : {A : Type 0} → ℕ → State → Got A → Type 0
  TopAt m s (Gives a t) = Good S F t × (in_call tail_of t.calls ≡ in_call tail_of s.calls) × Below m t.calls
  TopAt m s (Stops why t) = AreRight S t.deeds

  -- before it the active call's variables are at most the first number, and behind it the second
  pub record Opens {A : Type 0} (n m : ℕ) (s : State) (r : Got A) : Type 0 where
    pub by : Good S F s → Below n s.calls → TopAt m s r

  top_from : {A : Type 0} (m : ℕ) (s t : State) (r : Got A) → in_call tail_of t.calls ≡ in_call tail_of s.calls → TopAt m t r → TopAt m s r
  top_from m s t (Gives a u) e h = (h.0, h.1 ∙ e, h.2)
  top_from m s t (Stops why u) e h = h

  then_top : {A B : Type 0} (m k : ℕ) (s : State) (r : Got A) (go : A → State → Got B) → TopAt m s r → ((a : A) (t : State) → Opens m k t (go a t)) → TopAt k s (then_do r go)
  then_top m k s (Gives a t) go h f = let g = f a t in top_from k s t (go a t) h.1 (g.by h.0 h.2)
  then_top m k s (Stops why t) go h f = h

  pub opens_then : {A B : Type 0} (n m k : ℕ) (s : State) (r : Got A) (go : A → State → Got B) → Opens n m s r → ((a : A) (t : State) → Opens m k t (go a t)) → Opens n k s (then_do r go)
  opens_then n m k s r go h f = record { by = λ g w. then_top m k s r go (h.by g w) f }

  safe_top : {A : Type 0} (n m : ℕ) (s : State) (r : Got A) → n ≤ m → GoodAt S F s r Any → Below n s.calls → TopAt m s r
  safe_top n m s (Gives a t) le h w = (h.0, ap (in_call tail_of) h.1, below_more n m le t.calls (subst (Below n) (sym h.1) w))
  safe_top n m s (Stops why t) le h w = h

  pub opens_safe : {A : Type 0} (n m : ℕ) (s : State) (r : Got A) → n ≤ m → Safe S F n s r Any → Opens n m s r
  opens_safe n m s r le h = record { by = λ g w. safe_top n m s r le (h.by g w) w }

  pub opens_stops : {A : Type 0} (n m : ℕ) (why : Stop) (s t : State) → Still S F s t → Opens {A = A} n m s (Stops why t)
  opens_stops n m why s t e = record { by = λ g w. (good_still S F s t e g).right }

  opens_still : {A : Type 0} (n m : ℕ) (s t : State) (r : Got A) → Still S F s t → Opens n m t r → Opens n m s r
  opens_still n m s t r e h = record { by = λ g w. top_from m s t r (ap (in_call tail_of) e.calls) (h.by (good_still S F s t e g) (subst (Below n) (sym e.calls) w)) }

  opens_if : {A : Type 0} (n m : ℕ) (b : Bool) (s : State) (r u : Got A) → Opens n m s r → Opens n m s u → Opens n m s (if b then r else u)
  opens_if n m true s r u f g = f
  opens_if n m false s r u f g = g

  opens_turns : {A : Type 0} (n m k : ℕ) (s : State) (go : State → Got A) → ((t : State) → Opens n m t (go t)) → Opens n m s (turns k s go)
  opens_turns n m k s go f =
      let t : State = record s { turns = s.turns - k } in
      opens_if n m (nat_le k s.turns) s (go t) (Stops stop.Turns (record s { turns = 0 })) (opens_still n m s t (go t) (record { deeds = refl; calls = refl; count = omega arith; last = refl; file = refl }) (f t))
      (opens_stops n m stop.Turns s (record s { turns = 0 }) (record { deeds = refl; calls = refl; count = omega arith; last = refl; file = refl }))

  pub opens_present : {A B : Type 0} (n m : ℕ) (o : Option A) (s : State) (go : A → State → Got B) → ((a : A) → o ≡ Some a → Opens n m s (go a s)) → Opens n m s (then_do (present o s) go)
  opens_present n m (Some a) s go f = f a refl
  opens_present n m None s go f = opens_stops n m _ s s (record { deeds = refl; calls = refl; count = omega arith; last = refl; file = refl })

  turn_of_opens : {A : Type 0} (n m k : ℕ) (s : State) (go : State → Got A) → ((t : State) → Opens n m t (go t)) → Opens n m s (turn_of k s go)
  turn_of_opens n m zero s go f = opens_stops n m stop.Turns s s (record { deeds = refl; calls = refl; count = omega arith; last = refl; file = refl })
  turn_of_opens n m (suc k) s go f = let t : State = record s { turns = k } in opens_still n m s t (go t) (record { deeds = refl; calls = refl; count = omega arith; last = refl; file = refl }) (f t)

  pub opens_turn : {A : Type 0} (n m : ℕ) (s : State) (go : State → Got A) → ((t : State) → Opens n m t (go t)) → Opens n m s (turn s go)
  opens_turn n m s go f = turn_of_opens n m s.turns s go f

  one_logs : {A : Type 0} (n m : ℕ) (log : ℕ → State → State) (x : Option ℕ) (s : State) (go : State → Got A) → Logging S F log → ((t : State) → Opens n m t (go t)) → Opens n m s (logs_one log x s go)
  one_logs n m log None s go l f = opens_stops n m _ s s (record { deeds = refl; calls = refl; count = omega arith; last = refl; file = refl })
  one_logs n m log (Some k) s go l f = opens_still n m s (log k s) (go (log k s)) (l k s) (f (log k s))

  pub opens_logs : {A : Type 0} (n m : ℕ) (log : ℕ → State → State) (xs : List Text) (s : State) (go : State → Got A) → Logging S F log → ((t : State) → Opens n m t (go t)) → Opens n m s (logs log xs s go)
  opens_logs n m log [] s go l f = f s
  opens_logs n m log (x ∷ xs) s go l f = one_logs n m log (probe_number_of x) s _ l (λ t. opens_logs n m log xs t go l f)

  pub opens_did : {A : Type 0} (n m : ℕ) (b : Act) (s : State) (r : Got A) → IsQuiet S b → (Good S F s → At S s.deeds (activation s) b) → OneAt S s.deeds (activation s) b → Opens n m (did b s) r → Opens n m s r
  opens_did n m b s r k h o f = record { by = λ g w. top_from m s (did b s) r refl (f.by (good_act S F s b k (h g) o g) w) }

  -- ---- a new instance

  -- its number is one more than there were
  pub fits_opens : {B : Type 0} (n m : ℕ) (b : Bool) (c : Cells) (s : State) (go : ℕ → State → Got B) → Opens n m s (go c.count (record s { store = c })) → Opens n m s (then_do (new_instance (if b then Ok c else Err Room) s) go)
  fits_opens n m true c s go f = f
  fits_opens n m false c s go f = opens_stops n m _ s s (record { deeds = refl; calls = refl; count = omega arith; last = refl; file = refl })

  abbrev pub grown : List (Option Value) → Cells → Cells
  grown xs c = record { most = c.most; count = suc c.count; live = c.live ++ record { number = suc c.count; writable = true; cells = xs } ∷ [] }

  -- ---- cells that are filled in order

  -- what the activation did last is that it made the instance
  abbrev pub EndsMade : ℕ → ℕ → State → Type 0
  EndsMade x j s = (front : List Act) × (own (activation s) s.deeds ≡ front ++ makes x j ∷ [])

  abbrev pub IsFilled : ℕ → ℕ → Option Local → Type 0
  IsFilled x m None = Unit {0}
  IsFilled x m (Some v) = (v.variable ≡ x) × (v.parameter ≡ false) × ((i : ℕ) → i < m → Contains v.names (S.leaf v.variable i))

  filled_other : (x m : ℕ) (o : Option Local) → IsFilled x m o → IsOther S o
  filled_other x m None h = tt
  filled_other x m (Some v) h = h.1

  abbrev cell_in : ℕ → ℕ → ℕ → Pointer
  cell_in j m k = record { instance = j; base = 0; length = m; size = 1; index = k }

  cell_place : (s : State) (x j m k : ℕ) (v : Local) → IsFilled x m (Some v) → found_within x s.calls ≡ Some j → k < m → Good S F s → InPlace S s.deeds (activation s) v (cell_at (cell_in j m k))
  cell_place s x j m k v h found lt g = record {
    made = found_is S s.deeds v.variable j s.calls (subst (λ (y : ℕ). found_within y s.calls ≡ Some j) (sym h.0) found) g.bound;
    named = subst (λ (i : ℕ). Contains v.names (S.leaf v.variable i)) (omega arith) (h.2 k lt);
  }

  repeated_at : (s : State) (x j m k d : ℕ) (o : Option Local) → IsFilled x m o → found_within x s.calls ≡ Some j → k < m → EndsWith (Define d) s → Good S F s → IsRepeated S s.deeds (activation s) d (cell_at (cell_in j m k)) o
  repeated_at s x j m k d None h found lt e g = tt
  repeated_at s x j m k d (Some v) h found lt e g = record { no_parameter = h.1; place = cell_place s x j m k v h found lt g; before = e.0; last = e.1 }

  first_at : (s : State) (x j m k : ℕ) (o : Option Local) → IsFilled x m o → found_within x s.calls ≡ Some j → k < m → Good S F s → DefinedAt S s.deeds (activation s) (cell_at (cell_in j m k)) o
  first_at s x j m k None h found lt g = tt
  first_at s x j m k (Some v) h found lt g = subst (IsDefined S s.deeds (activation s) v (cell_at (cell_in j m k))) (sym h.1) (cell_place s x j m k v h found lt g)

  first_one : (s : State) (x j m k : ℕ) (o : Option Local) → IsFilled x m o → EndsMade x j s → IsOne S s.deeds (activation s) (cell_at (cell_in j m k)) o
  first_one s x j m k None h e = tt
  first_one s x j m k (Some v) h e =
      let one : HasOneName S s.deeds (activation s) v (cell_at (cell_in j m k)) = inr (e.0, j, subst (λ (y : ℕ). own (activation s) s.deeds ≡ e.0 ++ makes y j ∷ []) (sym h.0) e.1) in
      subst (HasOne S s.deeds (activation s) (cell_at (cell_in j m k)) v) (sym h.1) one

  stored_still : (s : State) (c : Cells) → c.count ≡ s.store.count → Still S F s (record s { store = c })
  stored_still s c e = record { deeds = refl; calls = refl; count = omega (arith, e); last = refl; file = refl }

  logged_still : (s : State) (l : List Event) → Still S F s (record s { log = l })
  logged_still s l = record { deeds = refl; calls = refl; count = omega arith; last = refl; file = refl }

  module _ (x j m : ℕ) (xs : List Text) (c : Around) (w : Walked) (h : IsFilled x m (S.defined (next_def w))) where
    -- what follows a cell that was written
    abbrev Follows : (way : Event → Act) → ℕ → List (Option Value) → Type 0
    Follows way k vs = (s : State) → Good S F s → found_within x s.calls ≡ Some j → EndsWith (Define (next_def w)) s → GoodAt S F s (filled way xs (heard c w) (cell_in j m k) vs s) Any

    more_by : (k : ℕ) (v : Value) (vs : List (Option Value)) (s : State) (r : Result Cells Fault) → write_of s.store (cell_in j m k) v ≡ r → SameCount S F s.store.count r → Follows repeats (suc k) vs → Good S F s → found_within x s.calls ≡ Some j
        → EndsWith (Define (next_def w)) s
        → GoodAt S F s (then_do (then_do (settled r s) (λ p s. logs (log_def (cell_in j m k)) xs (noted_def repeats (heard c w) (cell_in j m k) (record s { store = p })) (λ s. Gives v s))) (λ v. filled repeats xs (heard c w) (cell_in j m (suc k)) vs)) Any
    more_by k v vs s (Err why) e n ih g found ends = g.right
    more_by k v vs s (Ok p) e n ih g found ends =
        let q = cell_in j m k in
        let t : State = record s { store = p } in
        let b = repeats (event.Def (next_def w) (cell_at q)) in
        let gt = good_still S F s t (stored_still s p n) g in
        let lt = written_within s.store p q v e in
        let gu = good_act S F t b (repeats_quiet S (event.Def (next_def w) (cell_at q))) (repeated_at t x j m k (next_def w) (S.defined (next_def w)) h found lt ends gt) tt gt in
        logs_then (λ r. GoodAt S F s r Any) q v (λ v. filled repeats xs (heard c w) (cell_in j m (suc k)) vs) xs (did b t)
        (λ l. let u : State = record (did b t) { log = l } in at_from S F s u _ Any refl (ih u (good_still S F (did b t) u (logged_still (did b t) l) gu) found (ends_again (Define (next_def w)) (event.Def (next_def w) (cell_at q)) t ends)))
        (λ why l. gu.right)

    further : (k : ℕ) (vs : List (Option Value)) → Follows repeats k vs
    further k [] s g found ends = (g, refl, tt)
    further k (None ∷ vs) s g found ends = further (suc k) vs s g found ends
    further k (Some v ∷ vs) s g found ends = more_by k v vs s (write_of s.store (cell_in j m k) v) refl (write_count S F s.store (cell_in j m k) v) (further (suc k) vs) g found ends

    first_by : (k : ℕ) (v : Value) (vs : List (Option Value)) (s : State) (r : Result Cells Fault) → write_of s.store (cell_in j m k) v ≡ r → SameCount S F s.store.count r → Good S F s → found_within x s.calls ≡ Some j → EndsMade x j s
        → GoodAt S F s (then_do (then_do (settled r s) (λ p s. logs (log_def (cell_in j m k)) xs (noted_def tells (heard c w) (cell_in j m k) (record s { store = p })) (λ s. Gives v s))) (λ v. filled repeats xs (heard c w) (cell_in j m (suc k)) vs)) Any
    first_by k v vs s (Err why) e n g found ends = g.right
    first_by k v vs s (Ok p) e n g found ends =
        let q = cell_in j m k in
        let t : State = record s { store = p } in
        let b = tells (event.Def (next_def w) (cell_at q)) in
        let gt = good_still S F s t (stored_still s p n) g in
        let lt = written_within s.store p q v e in
        let gu = good_act S F t b (def_quiet S (next_def w) (cell_at q) (filled_other x m (S.defined (next_def w)) h)) (first_at t x j m k (S.defined (next_def w)) h found lt gt) (first_one t x j m k (S.defined (next_def w)) h ends) gt in
        logs_then (λ r. GoodAt S F s r Any) q v (λ v. filled repeats xs (heard c w) (cell_in j m (suc k)) vs) xs (did b t)
        (λ l. let u : State = record (did b t) { log = l } in at_from S F s u _ Any refl (further (suc k) vs u (good_still S F (did b t) u (logged_still (did b t) l) gu) found (ends_told (event.Def (next_def w) (cell_at q)) t)))
        (λ why l. gu.right)

    filled_at : (k : ℕ) (vs : List (Option Value)) (s : State) → Good S F s → found_within x s.calls ≡ Some j → EndsMade x j s → GoodAt S F s (filled tells xs (heard c w) (cell_in j m k) vs s) Any
    filled_at k [] s g found ends = (g, refl, tt)
    filled_at k (None ∷ vs) s g found ends = filled_at (suc k) vs s g found ends
    filled_at k (Some v ∷ vs) s g found ends = first_by k v vs s (write_of s.store (cell_in j m k) v) refl (write_count S F s.store (cell_in j m k) v) g found ends

    pub filled_safe : (n : ℕ) (vs : List (Option Value)) (s : State) → found_within x s.calls ≡ Some j → EndsMade x j s → Safe S F n s (filled tells xs (heard c w) (first_cell j m) vs s) Any
    filled_safe n vs s found ends = record { by = λ g b. filled_at 0 vs s g found ends }

  -- ---- initialisers

  -- by its one name
  abbrev IsFirst : ℕ → Option Local → Type 0
  IsFirst x None = Unit {0}
  IsFirst x (Some v) = (v.variable ≡ x) × (v.parameter ≡ false) × (v.names ≡ S.leaf v.variable 0 ∷ [])

  first_named : (x j : ℕ) (o : Option Local) (cs : List Call) → IsFirst x o → found_within x cs ≡ Some j → ForDef S F o (whole j 1) cs
  first_named x j None cs h found = tt
  first_named x j (Some v) cs h found = (h.1, subst (λ (y : ℕ). found_within y cs ≡ Some j) (sym h.0) found, subst (λ (i : ℕ). v.names ≡ S.leaf v.variable i ∷ []) (omega arith) h.2)

  module _ (P : Source) (kn : Knot) (keeps : KeepsNames kn) where
    initial_filled : (x : ℕ) (y : TypeOf) (i : InitShape) (o : Option Local) → ((v : Local) → DefinesBy S P.tables y i v → AreNamed S P.tables y v) → IsInitial S P.tables x y i o → IsFilled x (cells P.tables y) o
    initial_filled x y i None f h = tt
    initial_filled x y i (Some v) f h = (h.0, h.1, f v h.2)

    initial_first : (x : ℕ) (y : TypeOf) (i : InitShape) (o : Option Local) → ((v : Local) → DefinesBy S P.tables y i v → v.names ≡ S.leaf v.variable 0 ∷ []) → IsInitial S P.tables x y i o → IsFirst x o
    initial_first x y i None f h = tt
    initial_first x y i (Some v) f h = (h.0, h.1, f v h.2)

    scalar_safe : (n x j : ℕ) (name : Option Named) (c : Around) (w : Walked) (v : Value) (s : State) → IsFirst x (S.defined (next_def w)) → found_within x s.calls ≡ Some j → Safe S F n s (scalar_written name (heard c w) j v s) Any
    scalar_safe n x j name c w v s h found = safe_then S F n s _ _ Any Any (stored_safe S F n (name_marks name) c w (whole j 1) v s (λ lt. first_named x j (S.defined (next_def w)) s.calls h found)) (λ v t e k. safe_gives S F n t Next Any tt)

    module _ (calling : Calling S F P kn keeps) where
      expression_safe : (n x j : ℕ) (y : TypeOf) (name : Option Named) (a : NodeShape) (c : Around) (w : Walked) (s : State) → IsFirst x (S.defined (next_def w)) → IsSited S F P.tables c Read a (with_whole_def P.tables c.function name w) → found_within x s.calls ≡ Some j
          → Safe S F n s (then_do (needed ((meaning P.tables kn a).value (heard c (with_whole_def P.tables c.function name w)) s)) (λ v s. scalar_written name (heard c w) j (converted y v) s)) Any
      expression_safe n x j y name a c w s h g found =
          safe_then S F n s _ _ Any Any (safe_needed S F n s _ (value_safe S F P kn keeps calling c a (with_whole_def P.tables c.function name w) g n s)) (λ v t e k.
          scalar_safe n x j name c w (converted y v) t h (ap (found_within x) e ∙ found))

      init_safe : (n x j : ℕ) (y : TypeOf) (name : Option Named) (init : MaybeInit) (c : Around) (w : Walked) (s : State) → IsSitedVariable S F P.tables c name x (Some y) init w → found_within x s.calls ≡ Some j → EndsMade x j s
          → Safe S F n s (initialised P.tables kn y name (heard c w) j init s) Any
      init_safe n x j y name no_init c w s h found ends = safe_gives S F n s Next Any tt
      init_safe n x j (array k z) name (one_init (one a)) c w s h found ends =
          filled_safe x j (cells P.tables (array k z)) (name_marks name) c w (initial_filled x (array k z) (one a) (S.defined (next_def w)) (λ v f. f) h.0) n (one_cells P.tables s.file (array k z) a) s found ends
      init_safe n x j (int k) name (one_init (one a)) c w s h found ends = expression_safe n x j (int k) name a c w s (initial_first x (int k) (one a) (S.defined (next_def w)) (λ v f. f) h.0) h.1 found
      init_safe n x j (pointer k) name (one_init (one a)) c w s h found ends = expression_safe n x j (pointer k) name a c w s (initial_first x (pointer k) (one a) (S.defined (next_def w)) (λ v f. f) h.0) h.1 found
      init_safe n x j (structure k) name (one_init (one a)) c w s h found ends = expression_safe n x j (structure k) name a c w s (initial_first x (structure k) (one a) (S.defined (next_def w)) (λ v f. f) h.0) h.1 found
      init_safe n x j nothing name (one_init (one a)) c w s h found ends = expression_safe n x j nothing name a c w s (initial_first x nothing (one a) (S.defined (next_def w)) (λ v f. f) h.0) h.1 found
      init_safe n x j y name (one_init (listed p items last)) c w s h found ends =
          filled_safe x j (cells P.tables y) (name_marks name) c w (initial_filled x y (listed p items last) (S.defined (next_def w)) (λ v f. f) h) n (init_cells P.tables s.file y (listed p items last)) s found ends

      -- ---- declarators

      ended_by : (a : ℕ) (ds : List Deed) (b : Act) → own a (ds ++ record { activation = a; act = b } ∷ []) ≡ own a ds ++ b ∷ []
      ended_by a ds b = own_append a ds _ ∙ ap (λ x. own a ds ++ x) (own_here a b)

      bound_by : (n : ℕ) (name : Option Named) (init : MaybeInit) (y : TypeOf) (c : Around) (w : Walked) (xs : List (Option Value)) (s : State) → n ≤ w.variables → IsSitedVariable S F P.tables c name (suc w.variables) (Some y) init (with_variable w) → Good S F s → Below n s.calls
          → TopAt (suc w.variables) s (bound_variable P.tables kn name init (heard c w) y (suc s.store.count) (record s { store = grown xs s.store }))
      bound_by n name init y c w xs s le h g b =
          let x = suc w.variables in
          let j = suc s.store.count in
          let t = did (makes x j) (with_instance S F (grown xs s.store) x j s) in
          let gt : Good S F t = good_bound S F n s (grown xs s.store) x j (makes x j) (omega (arith, le)) (omega arith) (omega arith) (omega arith) g.counted tt (makes_it S F x j) (makes_other S F x j) b g in
          let found : found_within x t.calls ≡ Some j = found_made n x j s.calls b in
          let below : Below x t.calls = made_below n x j (omega (arith, le)) s.calls b in
          let inner = init_safe x x j y name init c (with_variable w) t h found (own (activation t) s.deeds, ended_by (activation t) s.deeds (makes x j)) in
          top_from x s t _ (made_tail (record { variable = x; instance = j }) s.calls) (safe_top x x t _ (omega arith) (inner.by gt below) below)

      declared_opens : (n : ℕ) (name : Option Named) (init : MaybeInit) (y : TypeOf) (c : Around) (w : Walked) (s : State) → n ≤ w.variables → IsSitedVariable S F P.tables c name (suc w.variables) (Some y) init (with_variable w)
          → Opens n (suc w.variables) s (declared_variable P.tables kn name init (heard c w) y s)
      declared_opens n name init y c w s le h = opens_turns n (suc w.variables) (cells P.tables y) s (made_variable P.tables kn name init (heard c w) y) (λ s.
          let xs = replicate (cells P.tables y) None in
          fits_opens n (suc w.variables) (nat_le (cell_count s.store.live + length xs) s.store.most) (grown xs s.store) s (bound_variable P.tables kn name init (heard c w) y) (record { by = λ g b. bound_by n name init y c w xs s le h g b }))

      name_opens : (n : ℕ) (d : DeclaratorShape) (c : Around) (w : Walked) (s : State) → n ≤ w.variables → IsSitedDeclarator S F P.tables c d w → Opens n (walk_declarator P.tables c d w).variables s (declared_name P.tables kn d (heard c w) s)
      name_opens n (declarator stars name (arrays ls) init) c w s le h =
          subst (λ (m : ℕ). Opens n m s (declared_name P.tables kn (declarator stars name (arrays ls) init) (heard c w) s)) (let e = declarator_count P.tables c (declarator stars name (arrays ls) init) w in omega (arith, e))
          (opens_present n (suc w.variables) (variable_kind P.tables (suc w.variables)) s _ (λ y e. declared_opens n name init y c w s le (subst (λ (o : Option TypeOf). IsSitedVariable S F P.tables c name (suc w.variables) o init (with_variable w)) e h)))
      name_opens n (declarator stars name (function ps) init) c w s le h = opens_safe n w.variables s _ le (safe_gives S F n s Next Any tt)

      names_open : (n : ℕ) (ds : DeclaratorShapes) (c : Around) (w : Walked) (s : State) → n ≤ w.variables → AreSitedDeclarators S F P.tables c ds w → Opens n (walk_declarators P.tables c ds w).variables s (declared_names P.tables kn ds (heard c w) s)
      names_open n no_declarators c w s le h = opens_safe n w.variables s _ le (safe_gives S F n s Next Any tt)
      names_open n (more_declarators d rest) c w s le h =
          let u = walk_declarator P.tables c d w in
          opens_then n u.variables _ s _ _ (name_opens n d c w s le h.0) (λ f t. names_open u.variables rest c u t (omega arith) h.1)

      decl_opens : (n : ℕ) (d : DeclShape) (c : Around) (w : Walked) (s : State) → n ≤ w.variables → IsSitedDecl S F P.tables c d w → Opens n (walk_decl P.tables c d w).variables s (declared_decl P.tables kn d (heard c w) s)
      decl_opens n (decl p specs names) c w s le h = names_open n names c w s le h

      pub decls_open : (n : ℕ) (ds : DeclShapes) (c : Around) (w : Walked) (s : State) → n ≤ w.variables → AreSitedDecls S F P.tables c ds w → Opens n (walk_decls P.tables c ds w).variables s (declared_all P.tables kn ds (heard c w) s)
      decls_open n no_decls c w s le h = opens_safe n w.variables s _ le (safe_gives S F n s Next Any tt)
      decls_open n (more_decls d rest) c w s le h =
          let u = walk_decl P.tables c d w in
          opens_then n u.variables _ s _ _ (decl_opens n d c w s le h.0) (λ f t. decls_open u.variables rest c u t (omega arith) h.1)
