-- What a part of a run keeps: the states are good, and the active calls are as they were, scopes and all.
use Rattle.std.proofs.Common.{ℕ, zero, suc, List, [], ◌∷◌, ◌≡◌, inl, refl, subst, sym, ◌∙◌, arith, Option, Some, None, Result, Ok, Err, Bool, true, false}
use Rattle.std.specs.Prelude.{Contains, if◌then◌else◌}
use Rattle.c_events.specs.declared.events.Event.TheVariants as event
use Rattle.c_syntax.specs.declared.text.Text.{Text}
use Rattle.c_constants.specs.Probes.{probe_number_of}
use Rattle.c_store.specs.declared.value.Value.{Value}
use Rattle.c_store.specs.declared.value.Pointer.{Pointer}
use Rattle.c_store.specs.declared.value.Fault.{Fault}
use Rattle.c_store.specs.Cells.{cell_of}
use Rattle.c_meaning.specs.declared.end.Stop.{Stop}
use Rattle.c_meaning.specs.declared.end.Stop.TheVariants as stop
use Rattle.c_meaning.specs.State.{Act, tells, Bound, Call, Deed, State, activation, did, found_within}
use Rattle.c_meaning.specs.Results.{Got, Gives, Stops, then_do, turn_of, turn, settled, present, needed}
use Rattle.c_meaning.specs.Firsts.{cell_at}
use Rattle.c_meaning.specs.Places.{logs_one, logs}
use Rattle.flow_calls.specs.Placing.{Local, Sites, InPlace, IsDefined, DefinedAt, UsedAt, At}
use Rattle.flow_places.proofs.Bound.{Below, one_active, found_is}
use Rattle.flow_places.proofs.Finished.{AreRight, HasOne, IsOne, OneAt}
use Rattle.flow_places.proofs.Good.{IsQuiet, use_quiet, def_quiet, IsOther, Good, good_act, Still, good_still}

-- nothing is said of the result
abbrev pub Any : {A : Type 0} → A → List Call → Type 0
Any a cs = Unit {0}

module _ (S : Sites) (F : List Bound) where
  -- the calls are the same, and of the result that is known, with these calls
  abbrev pub GoodAt : {A : Type 0} → State → Got A → (A → List Call → Type 0) → Type 0
  GoodAt s (Gives a t) Q = Good S F t × (t.calls ≡ s.calls) × Q a s.calls
  GoodAt s (Stops why t) Q = AreRight S t.deeds

  -- from a state in which the active call's variables are at most that number
  pub record Safe {A : Type 0} (n : ℕ) (s : State) (r : Got A) (Q : A → List Call → Type 0) : Type 0 where
    pub by : Good S F s → Below n s.calls → GoodAt s r Q

  pub at_from : {A : Type 0} (s t : State) (r : Got A) (Q : A → List Call → Type 0) → t.calls ≡ s.calls → GoodAt t r Q → GoodAt s r Q
  at_from s t (Gives a u) Q e h = (h.0, h.1 ∙ e, subst (Q a) e h.2)
  at_from s t (Stops why u) Q e h = h

  pub safe_gives : {A : Type 0} (n : ℕ) (s : State) (a : A) (Q : A → List Call → Type 0) → Q a s.calls → Safe n s (Gives a s) Q
  safe_gives n s a Q h = record { by = λ g w. (g, refl, h) }

  pub safe_stops : {A : Type 0} (n : ℕ) (why : Stop) (s : State) (Q : A → List Call → Type 0) → Safe n s (Stops why s) Q
  safe_stops n why s Q = record { by = λ g w. g.right }

  then_at : {A B : Type 0} (n : ℕ) (s : State) (r : Got A) (go : A → State → Got B) (Q : A → List Call → Type 0) (R : B → List Call → Type 0) → GoodAt s r Q → Below n s.calls
      → ((a : A) (t : State) → t.calls ≡ s.calls → Q a s.calls → Safe n t (go a t) R) → GoodAt s (then_do r go) R
  then_at n s (Gives a t) go Q R h w f = let k = f a t h.1 h.2 in at_from s t (go a t) R h.1 (k.by h.0 (subst (Below n) (sym h.1) w))
  then_at n s (Stops why t) go Q R h w f = h

  pub safe_then : {A B : Type 0} (n : ℕ) (s : State) (r : Got A) (go : A → State → Got B) (Q : A → List Call → Type 0) (R : B → List Call → Type 0) → Safe n s r Q
      → ((a : A) (t : State) → t.calls ≡ s.calls → Q a s.calls → Safe n t (go a t) R) → Safe n s (then_do r go) R
  safe_then n s r go Q R h f = record { by = λ g w. then_at n s r go Q R (h.by g w) w f }

  pub safe_still : {A : Type 0} (n : ℕ) (s t : State) (r : Got A) (Q : A → List Call → Type 0) → Still S F s t → Safe n t r Q → Safe n s r Q
  safe_still n s t r Q e h = record { by = λ g w. at_from s t r Q e.calls (h.by (good_still S F s t e g) (subst (Below n) (sym e.calls) w)) }

  pub same : (s : State) → Still S F s s
  same s = record { deeds = refl; calls = refl; count = omega arith; last = refl; file = refl }

  pub safe_gives_at : {A : Type 0} (n : ℕ) (s t : State) (a : A) (Q : A → List Call → Type 0) → Still S F s t → Q a s.calls → Safe n s (Gives a t) Q
  safe_gives_at n s t a Q e h = record { by = λ g w. (good_still S F s t e g, e.calls, h) }

  pub safe_stops_at : {A : Type 0} (n : ℕ) (why : Stop) (s t : State) (Q : A → List Call → Type 0) → Still S F s t → Safe n s (Stops why t) Q
  safe_stops_at n why s t Q e = record { by = λ g w. (good_still S F s t e g).right }

  turn_of_safe : {A : Type 0} (n m : ℕ) (s : State) (go : State → Got A) (Q : A → List Call → Type 0) → ((t : State) → t.calls ≡ s.calls → Safe n t (go t) Q) → Safe n s (turn_of m s go) Q
  turn_of_safe n zero s go Q f = safe_stops n stop.Turns s Q
  turn_of_safe n (suc m) s go Q f =
      let t : State = record s { turns = m } in
      safe_still n s t (go t) Q (record { deeds = refl; calls = refl; count = omega arith; last = refl; file = refl }) (f t refl)

  pub safe_turn : {A : Type 0} (n : ℕ) (s : State) (go : State → Got A) (Q : A → List Call → Type 0) → ((t : State) → t.calls ≡ s.calls → Safe n t (go t) Q) → Safe n s (turn s go) Q
  safe_turn n s go Q f = turn_of_safe n s.turns s go Q f

  pub safe_if : {A : Type 0} (n : ℕ) (b : Bool) (s : State) (r u : Got A) (Q : A → List Call → Type 0) → Safe n s r Q → Safe n s u Q → Safe n s (if b then r else u) Q
  safe_if n true s r u Q f g = f
  safe_if n false s r u Q f g = g

  pub safe_settled : {A : Type 0} (n : ℕ) (r : Result A Fault) (s : State) (Q : A → List Call → Type 0) → ((a : A) → r ≡ Ok a → Q a s.calls) → Safe n s (settled r s) Q
  safe_settled n (Ok a) s Q h = safe_gives n s a Q (h a refl)
  safe_settled n (Err why) s Q h = safe_stops n _ s Q

  pub safe_present : {A : Type 0} (n : ℕ) (r : Option A) (s : State) (Q : A → List Call → Type 0) → ((a : A) → r ≡ Some a → Q a s.calls) → Safe n s (present r s) Q
  safe_present n (Some a) s Q h = safe_gives n s a Q (h a refl)
  safe_present n None s Q h = safe_stops n _ s Q

  pub safe_needed : (n : ℕ) (s : State) (r : Got (Option Value)) → Safe n s r Any → Safe n s (needed r) Any
  safe_needed n s r h = safe_then n s r present Any Any h (λ v t e k. safe_present n v t Any (λ a e. tt))

  -- ---- what is told, and logged

  pub safe_did : {A : Type 0} (n : ℕ) (b : Act) (s : State) (r : Got A) (Q : A → List Call → Type 0) → IsQuiet S b → (Good S F s → At S s.deeds (activation s) b) → OneAt S s.deeds (activation s) b → Safe n (did b s) r Q → Safe n s r Q
  safe_did n b s r Q k h o f = record { by = λ g w. at_from s (did b s) r Q refl (f.by (good_act S F s b k (h g) o g) w) }

  -- a way to log
  abbrev pub Logging : (ℕ → State → State) → Type 0
  Logging log = (m : ℕ) (s : State) → Still S F s (log m s)

  one_logs : {A : Type 0} (n : ℕ) (log : ℕ → State → State) (x : Option ℕ) (s : State) (go : State → Got A) (Q : A → List Call → Type 0) → Logging log → ((t : State) → t.calls ≡ s.calls → Safe n t (go t) Q) → Safe n s (logs_one log x s go) Q
  one_logs n log None s go Q l f = safe_stops n _ s Q
  one_logs n log (Some m) s go Q l f = let e = l m s in safe_still n s (log m s) (go (log m s)) Q e (f (log m s) e.calls)

  pub safe_logs : {A : Type 0} (n : ℕ) (log : ℕ → State → State) (xs : List Text) (s : State) (go : State → Got A) (Q : A → List Call → Type 0) → Logging log → ((t : State) → t.calls ≡ s.calls → Safe n t (go t) Q) → Safe n s (logs log xs s go) Q
  safe_logs n log [] s go Q l f = f s refl
  safe_logs n log (x ∷ xs) s go Q l f = one_logs n log (probe_number_of x) s _ Q l (λ t e. safe_logs n log xs t go Q l (λ u k. f u (k ∙ e)))

  -- ---- sites

  -- a place that a use or a definition may be at: in the instance that the variable stands for, at a cell of the site's name
  abbrev pub ForUse : Option Local → Pointer → List Call → Type 0
  ForUse None q cs = Unit {0}
  ForUse (Some v) q cs = (found_within v.variable cs ≡ Some q.instance) × Contains v.names (S.leaf v.variable (cell_of q))

  abbrev pub ForDef : Option Local → Pointer → List Call → Type 0
  ForDef None q cs = Unit {0}
  ForDef (Some v) q cs = (v.parameter ≡ false) × (found_within v.variable cs ≡ Some q.instance) × (v.names ≡ S.leaf v.variable (cell_of q) ∷ [])

  pub used_there : (s : State) (o : Option Local) (q : Pointer) → ForUse o q s.calls → Good S F s → UsedAt S s.deeds (activation s) (cell_at q) o
  used_there s None q k g = tt
  used_there s (Some v) q k g = (one_active (suc s.last) v.variable q.instance s.calls k.0 g.falling, record { made = found_is S s.deeds v.variable q.instance s.calls k.0 g.bound; named = k.1 })

  head_in : (x : Text) → Contains (x ∷ []) x
  head_in x = (0, omega arith, refl)

  pub defined_there : (s : State) (o : Option Local) (q : Pointer) → ForDef o q s.calls → Good S F s → DefinedAt S s.deeds (activation s) (cell_at q) o
  defined_there s None q k g = tt
  defined_there s (Some v) q k g =
      let x = S.leaf v.variable (cell_of q) in
      let there : InPlace S s.deeds (activation s) v (cell_at q) =
      record { made = found_is S s.deeds v.variable q.instance s.calls k.1 g.bound; named = subst (λ l. Contains l x) (sym k.2) (head_in x) } in
      subst (IsDefined S s.deeds (activation s) v (cell_at q)) (sym k.0) there

  pub one_def : (ds : List Deed) (a : ℕ) (o : Option Local) (q : Pointer) (cs : List Call) → ForDef o q cs → IsOne S ds a (cell_at q) o
  one_def ds a None q cs k = tt
  one_def ds a (Some v) q cs k = subst (HasOne S ds a (cell_at q) v) (sym k.0) (inl k.2)

  pub other_def : (o : Option Local) (q : Pointer) (cs : List Call) → ForDef o q cs → IsOther S o
  other_def None q cs k = tt
  other_def (Some v) q cs k = k.0

  pub safe_use : {A : Type 0} (n u : ℕ) (q : Pointer) (s : State) (r : Got A) (Q : A → List Call → Type 0) → ForUse (S.used u) q s.calls → Safe n (did (tells (event.Use u (cell_at q) (activation s))) s) r Q → Safe n s r Q
  safe_use n u q s r Q k f = safe_did n (tells (event.Use u (cell_at q) (activation s))) s r Q (use_quiet S u (cell_at q) (activation s)) (λ g. used_there s (S.used u) q k g) tt f

  pub safe_def : {A : Type 0} (n d : ℕ) (q : Pointer) (s : State) (r : Got A) (Q : A → List Call → Type 0) → ForDef (S.defined d) q s.calls → Safe n (did (tells (event.Def d (cell_at q))) s) r Q → Safe n s r Q
  safe_def n d q s r Q k f = safe_did n (tells (event.Def d (cell_at q))) s r Q (def_quiet S d (cell_at q) (other_def (S.defined d) q s.calls k)) (λ g. defined_there s (S.defined d) q k g) (one_def s.deeds (activation s) (S.defined d) q s.calls k) f
