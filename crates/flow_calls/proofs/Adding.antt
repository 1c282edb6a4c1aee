-- What a part of a run adds to what its own activation did, and that each call inside it is a walk.
use Rattle.std.proofs.Common.{ℕ, zero, suc, ◌≤◌, ◌<◌, List, [], ◌∷◌, ◌++◌, ◌≡◌, ◌⊎◌, inl, inr, refl, subst, sym, ap, ◌∙◌, append-nil, append_assoc, arith, Bool, true, false}
use Rattle.c_events.specs.declared.events.Event.{Event}
use Rattle.c_meaning.specs.declared.end.Stop.{Stop}
use Rattle.c_meaning.specs.State.{Act, begins, tells, repeats, Bound, Deed, Call, State, activation, activation_in, did, in_call, tail_of}
use Rattle.c_meaning.specs.Deeds.{own}
use Rattle.c_meaning.specs.Results.{Got, Gives, Stops, then_do, turn_of, turn}
use Rattle.c_meaning.specs.Lasting.{activations}
use Rattle.c_meaning.specs.Calls.{Source, activated, left}
use Rattle.c_meaning.proofs.Apart.{own_append}
use Rattle.flow_walks.specs.Comes.{Met, act, leave, Comes, emit}
use Rattle.flow_walks.specs.Walks.{Goes, actions}
use Rattle.flow_calls.specs.Readings.{action_of, readings}
use Rattle.flow_calls.proofs.Own.{own_here, own_other, readings_append, actions_append}

-- ---- active calls

head_or : List ℕ → ℕ
head_or [] = 0
head_or (x ∷ xs) = x

active_is : (cs : List Call) → activation_in cs ≡ head_or (activations cs)
unfolding head_or
active_is [] = refl
active_is (c ∷ cs) = refl

pub same_active : (cs ds : List Call) → activations cs ≡ activations ds → activation_in cs ≡ activation_in ds
same_active cs ds e = active_is cs ∙ ap head_or e ∙ sym (active_is ds)

pub in_call_activations : (f : List (List Bound) → List (List Bound)) (cs : List Call) → activations (in_call f cs) ≡ activations cs
in_call_activations f [] = refl
in_call_activations f (c ∷ cs) = refl

rest_of : List ℕ → List ℕ
rest_of [] = []
rest_of (x ∷ xs) = xs

rest_activations : (f : List (List Bound) → List (List Bound)) (cs : List Call) → activations (tail_of (in_call f cs)) ≡ rest_of (activations cs)
unfolding rest_of
rest_activations f [] = refl
rest_activations f (c ∷ cs) = refl

pub back_activations : (f : List (List Bound) → List (List Bound)) (cs : List Call) (x : ℕ) (xs : List ℕ) → activations cs ≡ x ∷ xs → activations (tail_of (in_call f cs)) ≡ xs
unfolding rest_of
back_activations f cs x xs e = rest_activations f cs ∙ ap rest_of e

-- nothing is done, and no call begins or ends
pub record Still (s t : State) : Type 0 where
  pub deeds : t.deeds ≡ s.deeds
  pub last : t.last ≡ s.last
  pub calls : activations t.calls ≡ activations s.calls
  pub file : t.file ≡ s.file

-- one act more
pub record Did (a : Act) (s t : State) : Type 0 where
  pub deeds : t.deeds ≡ s.deeds ++ record { activation = activation s; act = a } ∷ []
  pub last : t.last ≡ s.last
  pub calls : activations t.calls ≡ activations s.calls
  pub file : t.file ≡ s.file

-- of a walk that is over its function's body is left
abbrev pub ending : Bool → List Met
ending true = leave ∷ []
ending false = []

pub split : (a b : ℕ) → (a ≤ b) ⊎ (b < a)
split zero b = inl (omega arith)
split (suc a) zero = inr (omega arith)
split (suc a) (suc b) = elim (split a b) [ inl h ↦ inl (omega (arith, h)) | inr h ↦ inr (omega (arith, h)) ]

module _ (P : Source) (F : List Bound) where
  -- what activation a did by itself is that a function begins, and then a walk of it, that leaves its body or not
  pub record IsCall (whole : Bool) (ds : List Deed) (a : ℕ) : Type 0 where
    pub f : ℕ
    pub acts : List Act
    pub own_is : own a ds ≡ begins f ∷ acts
    pub walk : List Met
    pub goes : Goes P.tables P.unit f (walk ++ ending whole)
    pub reads : actions walk ≡ readings acts

  -- no activation above the last one did anything, and these are the variables of file scope
  pub record Ok (s : State) : Type 0 where
    pub active : activation s ≤ s.last
    pub beyond : (a : ℕ) → s.last < a → own a s.deeds ≡ []
    pub file : s.file ≡ F

  -- from s to t the activation that was active in s did these acts by itself; earlier ones nothing; and each later one a walk
  pub record Kept (whole : Bool) (s : State) (acts : List Act) (t : State) : Type 0 where
    pub own_is : own (activation s) t.deeds ≡ own (activation s) s.deeds ++ acts
    pub others : (a : ℕ) → a ≤ s.last → (a ≡ activation s → ⊥) → own a t.deeds ≡ own a s.deeds
    pub new : (a : ℕ) → s.last < a → a ≤ t.last → IsCall whole t.deeds a
    pub beyond : (a : ℕ) → t.last < a → own a t.deeds ≡ []
    pub last : s.last ≤ t.last
    pub file : t.file ≡ s.file

  -- from s to t a beginning of a walk of j was met, behind which k goes on
  pub record Onward (j : Comes) (s t : State) (k : Comes) : Type 0 where
    pub acts : List Act
    pub kept : Kept true s acts t
    pub calls : activations t.calls ≡ activations s.calls
    pub met : List Met
    pub reads : actions met ≡ readings acts
    pub on : (w : List Met) → k w → j (met ++ w)

  -- from s to t a walk of j was met; the active call of t may be another, in which the run stopped
  pub record Halted (j : Comes) (s t : State) : Type 0 where
    pub acts : List Act
    pub kept : Kept false s acts t
    pub met : List Met
    pub reads : actions met ≡ readings acts
    pub allowed : j met

  -- r, from the state s, adds a beginning of a walk of j, and after it K goes on
  abbrev pub AddsBy : {A : Type 0} → Comes → State → Got A → (A → Comes) → Type 0
  AddsBy j s (Gives a t) K = Onward j s t (K a)
  AddsBy j s (Stops why t) K = Halted j s t

  pub record Adds {A : Type 0} (j : Comes) (s : State) (r : Got A) (K : A → Comes) : Type 0 where
    pub by : Ok s → AddsBy j s r K

  moved : (whole : Bool) (a : ℕ) (ds es : List Deed) → own a es ≡ own a ds → IsCall whole ds a → IsCall whole es a
  moved whole a ds es e c = record { f = c.f; acts = c.acts; own_is = e ∙ c.own_is; walk = c.walk; goes = c.goes; reads = c.reads }

  -- a walk that leaves its body is one
  pub cut : (b : Bool) (a : ℕ) (ds : List Deed) → IsCall true ds a → IsCall b ds a
  cut true a ds c = c
  cut false a ds c = record {
    f = c.f;
    acts = c.acts;
    own_is = c.own_is;
    walk = c.walk ++ leave ∷ [];
    goes = subst (Goes P.tables P.unit c.f) (sym (append-nil (c.walk ++ leave ∷ []))) c.goes;
    reads = actions_append c.walk (leave ∷ []) ∙ append-nil (actions c.walk) ∙ c.reads;
  }

  pub kept_cut : (s t : State) (l : List Act) → Kept true s l t → Kept false s l t
  kept_cut s t l k = record { own_is = k.own_is; others = k.others; new = λ a lt h. cut false a t.deeds (k.new a lt h); beyond = k.beyond; last = k.last; file = k.file }

  kept_ok : (s t : State) (l : List Act) → Ok s → Kept true s l t → activations t.calls ≡ activations s.calls → Ok t
  kept_ok s t l o k c = record { active = (let e = same_active t.calls s.calls c in let le = o.active in let ge = k.last in omega (arith, e, le, ge)); beyond = k.beyond; file = k.file ∙ o.file }

  kept_new : (b : Bool) (s t u : State) (l m : List Act) → Ok s → Kept true s l t → activation t ≡ activation s → Kept b t m u → (a : ℕ) → s.last < a → a ≤ u.last → (a ≤ t.last) ⊎ (t.last < a) → IsCall b u.deeds a
  kept_new b s t u l m o p e q a lt le (inl before) = moved b a t.deeds u.deeds (q.others a before (λ same. let h = o.active in omega (arith, same, e, h, lt))) (cut b a t.deeds (p.new a lt before))
  kept_new b s t u l m o p e q a lt le (inr after) = q.new a after le

  kept_then : (b : Bool) (s t u : State) (l m : List Act) → Ok s → Kept true s l t → activations t.calls ≡ activations s.calls → Kept b t m u → Kept b s (l ++ m) u
  kept_then b s t u l m o p c q =
      let e = same_active t.calls s.calls c in
      let le = o.active in
      let pl = p.last in
      let ql = q.last in
      record {
        own_is = subst (λ n. own n u.deeds ≡ own n t.deeds ++ m) e q.own_is ∙ ap (λ x. x ++ m) p.own_is ∙ append_assoc (own (activation s) s.deeds) l m;
        others = λ a h ne. q.others a (omega (arith, h, pl)) (λ same. ne (same ∙ e)) ∙ p.others a h ne;
        new = λ a lt h. kept_new b s t u l m o p e q a lt h (split a t.last);
        beyond = q.beyond;
        last = omega (arith, pl, ql);
        file = q.file ∙ p.file;
      }

  kept_still : (b : Bool) (s t : State) → Ok s → Still s t → Kept b s [] t
  kept_still b s t o h =
      let l = h.last in
      record {
        own_is = ap (own (activation s)) h.deeds ∙ sym (append-nil (own (activation s) s.deeds));
        others = λ a le ne. ap (own a) h.deeds;
        new = λ a lt le. absurd (omega (arith, lt, le, l));
        beyond = λ a lt. ap (own a) h.deeds ∙ o.beyond a (omega (arith, lt, l));
        last = omega (arith, l);
        file = h.file;
      }

  own_did : (b : Act) (s t : State) → Did b s t → (a : ℕ) → (a ≡ activation s → ⊥) → own a t.deeds ≡ own a s.deeds
  own_did b s t d a ne = ap (own a) d.deeds ∙ own_append a s.deeds _ ∙ ap (λ x. own a s.deeds ++ x) (own_other (activation s) a b (λ e. ne (sym e))) ∙ append-nil (own a s.deeds)

  kept_did : (b : Act) (s t : State) → Ok s → Did b s t → Kept true s (b ∷ []) t
  kept_did b s t o d =
      let l = d.last in
      let h = o.active in
      record {
        own_is = ap (own (activation s)) d.deeds ∙ own_append (activation s) s.deeds _ ∙ ap (λ x. own (activation s) s.deeds ++ x) (own_here (activation s) b);
        others = λ a le ne. own_did b s t d a ne;
        new = λ a lt le. absurd (omega (arith, lt, le, l));
        beyond = λ a lt. own_did b s t d a (λ e. omega (arith, e, h, l, lt)) ∙ o.beyond a (omega (arith, lt, l));
        last = omega (arith, l);
        file = d.file;
      }

  -- ---- the parts of the meaning

  pub still_same : (s : State) → Still s s
  still_same s = record { deeds = refl; last = refl; calls = refl; file = refl }

  pub adds_none : {A : Type 0} (j : Comes) (s t : State) (a : A) (K : A → Comes) → Still s t → ((w : List Met) → K a w → j w) → Adds j s (Gives a t) K
  adds_none j s t a K st h = record { by = λ o. record { acts = []; kept = kept_still true s t o st; calls = st.calls; met = []; reads = refl; on = h } }

  pub adds_still : {A : Type 0} (j : Comes) (s : State) (a : A) (K : A → Comes) → ((w : List Met) → K a w → j w) → Adds j s (Gives a s) K
  adds_still j s a K h = adds_none j s s a K (still_same s) h

  pub stops_at : {A : Type 0} (why : Stop) (j : Comes) (s t : State) (K : A → Comes) → Still s t → j [] → Adds {A = A} j s (Stops why t) K
  stops_at why j s t K st h = record { by = λ o. record { acts = []; kept = kept_still false s t o st; met = []; reads = refl; allowed = h } }

  pub stops_none : {A : Type 0} (why : Stop) (j : Comes) (s : State) (K : A → Comes) → j [] → Adds {A = A} j s (Stops why s) K
  stops_none why j s K h = stops_at why j s s K (still_same s) h

  both_read : (v w : List Met) (l m : List Act) → actions v ≡ readings l → actions w ≡ readings m → actions (v ++ w) ≡ readings (l ++ m)
  both_read v w l m p q = actions_append v w ∙ ap (λ x. x ++ actions w) p ∙ ap (λ x. readings l ++ x) q ∙ sym (readings_append l m)

  adds_more : {A : Type 0} (j : Comes) (l : List Act) (v : List Met) (s t : State) (r : Got A) (i : Comes) (K : A → Comes) → Ok s → Kept true s l t → activations t.calls ≡ activations s.calls → actions v ≡ readings l → ((w : List Met) → i w → j (v ++ w)) → Adds i t r K → AddsBy j s r K
  adds_more j l v s t (Gives a u) i K o k c e h r =
      let g = r.by (kept_ok s t l o k c) in
      record {
        acts = l ++ g.acts;
        kept = kept_then true s t u l g.acts o k c g.kept;
        calls = g.calls ∙ c;
        met = v ++ g.met;
        reads = both_read v g.met l g.acts e g.reads;
        on = λ w p. subst j (sym (append_assoc v g.met w)) (h (g.met ++ w) (g.on w p));
      }
  adds_more j l v s t (Stops why u) i K o k c e h r =
      let g = r.by (kept_ok s t l o k c) in
      record { acts = l ++ g.acts; kept = kept_then false s t u l g.acts o k c g.kept; met = v ++ g.met; reads = both_read v g.met l g.acts e g.reads; allowed = h g.met g.allowed }

  pub adds_from : {A : Type 0} (j : Comes) (s t : State) (r : Got A) (K : A → Comes) → Still s t → Adds j t r K → Adds j s r K
  adds_from j s t r K st h = record { by = λ o. adds_more j [] [] s t r j K o (kept_still true s t o st) st.calls refl (λ w p. p) h }

  then_by : {A B : Type 0} (j : Comes) (s : State) (r : Got A) (go : A → State → Got B) (K : A → Comes) (L : B → Comes) → Ok s → AddsBy j s r K → ((a : A) (t : State) → Adds (K a) t (go a t) L) → AddsBy j s (then_do r go) L
  then_by j s (Gives a t) go K L o h f = adds_more j h.acts h.met s t (go a t) (K a) L o h.kept h.calls h.reads h.on (f a t)
  then_by j s (Stops why t) go K L o h f = h

  pub adds_then : {A B : Type 0} (j : Comes) (s : State) (r : Got A) (go : A → State → Got B) (K : A → Comes) (L : B → Comes) → Adds j s r K → ((a : A) (t : State) → Adds (K a) t (go a t) L) → Adds j s (then_do r go) L
  adds_then j s r go K L h f = record { by = λ o. then_by j s r go K L o (h.by o) f }

  adds_turn_of : {A : Type 0} (n : ℕ) (j : Comes) (s : State) (go : State → Got A) (L : A → Comes) → j [] → ((t : State) → Adds j t (go t) L) → Adds j s (turn_of n s go) L
  adds_turn_of zero j s go L h f = stops_none _ j s L h
  adds_turn_of (suc n) j s go L h f = adds_from j s (record s { turns = n }) (go (record s { turns = n })) L (record { deeds = refl; last = refl; calls = refl; file = refl }) (f (record s { turns = n }))

  pub adds_turn : {A : Type 0} (j : Comes) (s : State) (go : State → Got A) (L : A → Comes) → j [] → ((t : State) → Adds j t (go t) L) → Adds j s (turn s go) L
  adds_turn j s go L h f = adds_turn_of s.turns j s go L h f

  pub adds_did : {A : Type 0} (a : Act) (v : List Met) (j i : Comes) (s t : State) (r : Got A) (L : A → Comes) → Did a s t → actions v ≡ readings (a ∷ []) → ((w : List Met) → i w → j (v ++ w)) → Adds i t r L → Adds j s r L
  adds_did a v j i s t r L d e h f = record { by = λ o. adds_more j (a ∷ []) v s t r i L o (kept_did a s t o d) d.calls e h f }

  pub adds_told : {A : Type 0} (e : Event) (i : Comes) (s : State) (r : Got A) (L : A → Comes) → Adds i (did (tells e) s) r L → Adds (emit (act (action_of e)) i) s r L
  adds_told e i s r L f = adds_did (tells e) (act (action_of e) ∷ []) (emit (act (action_of e)) i) i s (did (tells e) s) r L (record { deeds = refl; last = refl; calls = refl; file = refl }) refl (λ w p. (refl, p)) f

  pub adds_repeated : {A : Type 0} (e : Event) (i : Comes) (s : State) (r : Got A) (L : A → Comes) → Adds i (did (repeats e) s) r L → Adds i s r L
  adds_repeated e i s r L f = adds_did (repeats e) [] i i s (did (repeats e) s) r L (record { deeds = refl; last = refl; calls = refl; file = refl }) refl (λ w p. p) f

  to_by : {A : Type 0} (j : Comes) (s : State) (r : Got A) (K L : A → Comes) → ((a : A) (w : List Met) → L a w → K a w) → AddsBy j s r K → AddsBy j s r L
  to_by j s (Gives a t) K L h g = record { acts = g.acts; kept = g.kept; calls = g.calls; met = g.met; reads = g.reads; on = λ w l. g.on w (h a w l) }
  to_by j s (Stops why t) K L h g = g

  pub adds_to : {A : Type 0} (j : Comes) (s : State) (r : Got A) (K L : A → Comes) → ((a : A) (w : List Met) → L a w → K a w) → Adds j s r K → Adds j s r L
  adds_to j s r K L h g = record { by = λ o. to_by j s r K L h (g.by o) }

  in_by : {A : Type 0} (i j : Comes) (s : State) (r : Got A) (K : A → Comes) → ((w : List Met) → i w → j w) → AddsBy i s r K → AddsBy j s r K
  in_by i j s (Gives a t) K h g = record { acts = g.acts; kept = g.kept; calls = g.calls; met = g.met; reads = g.reads; on = λ w k. h (g.met ++ w) (g.on w k) }
  in_by i j s (Stops why t) K h g = record { acts = g.acts; kept = g.kept; met = g.met; reads = g.reads; allowed = h g.met g.allowed }

  pub adds_in : {A : Type 0} (i j : Comes) (s : State) (r : Got A) (K : A → Comes) → ((w : List Met) → i w → j w) → Adds i s r K → Adds j s r K
  adds_in i j s r K h g = record { by = λ o. in_by i j s r K h (g.by o) }

  -- what needs the variables of file scope
  pub adds_ok : {A : Type 0} (j : Comes) (s : State) (r : Got A) (K : A → Comes) → (s.file ≡ F → Adds j s r K) → Adds j s r K
  adds_ok j s r K h = record { by = λ o. (h o.file).by o }

  -- ---- a call

  abbrev pub begun : ℕ → State → State
  begun f s = did (begins f) (activated f s)

  begun_own : (f : ℕ) (s : State) (a : ℕ) → a ≤ s.last → own a (begun f s).deeds ≡ own a s.deeds
  begun_own f s a le = own_append a s.deeds _ ∙ ap (λ x. own a s.deeds ++ x) (own_other (suc s.last) a (begins f) (λ e. omega (arith, e, le))) ∙ append-nil (own a s.deeds)

  begun_begins : (f : ℕ) (s : State) → Ok s → own (suc s.last) (begun f s).deeds ≡ begins f ∷ []
  begun_begins f s o = own_append (suc s.last) s.deeds _ ∙ ap (λ x. x ++ own (suc s.last) (record { activation = suc s.last; act = begins f } ∷ [])) (o.beyond (suc s.last) (omega arith)) ∙ own_here (suc s.last) (begins f)

  pub begun_ok : (f : ℕ) (s : State) → Ok s → Ok (begun f s)
  begun_ok f s o = record {
    active = omega arith;
    beyond = λ a lt. own_append a s.deeds _ ∙ ap (λ x. x ++ own a (record { activation = suc s.last; act = begins f } ∷ [])) (o.beyond a (omega (arith, lt))) ∙ own_other (suc s.last) a (begins f) (λ e. omega (arith, e, lt));
    file = o.file;
  }

  call_new : (b : Bool) (f : ℕ) (s t : State) (acts : List Act) (v : List Met) → Ok s → Kept b (begun f s) acts t → actions v ≡ readings acts → Goes P.tables P.unit f (v ++ ending b) → (a : ℕ) → s.last < a → a ≤ t.last → (a ≤ suc s.last) ⊎ (suc s.last < a) → IsCall b t.deeds a
  call_new b f s t acts v o k e g a lt le (inl here) = subst (λ n. IsCall b t.deeds n) (omega (arith, lt, here)) (record { f = f; acts = acts; own_is = k.own_is ∙ ap (λ x. x ++ acts) (begun_begins f s o); walk = v; goes = g; reads = e })
  call_new b f s t acts v o k e g a lt le (inr later) = k.new a later le

  -- what the caller did stays; what the call did is a walk, also if the run stops in it
  pub call_kept : (b : Bool) (f : ℕ) (s t : State) (acts : List Act) (v : List Met) → Ok s → Kept b (begun f s) acts t → actions v ≡ readings acts → Goes P.tables P.unit f (v ++ ending b) → Kept b s [] t
  call_kept b f s t acts v o k e g =
      let le = o.active in
      let l = k.last in
      let earlier : (a : ℕ) → a ≤ s.last → own a t.deeds ≡ own a s.deeds = λ a h. k.others a (omega (arith, h)) (λ e. omega (arith, e, h)) ∙ begun_own f s a h in
      record {
        own_is = earlier (activation s) le ∙ sym (append-nil (own (activation s) s.deeds));
        others = λ a h ne. earlier a h;
        new = λ a lt h. call_new b f s t acts v o k e g a lt h (split a (suc s.last));
        beyond = k.beyond;
        last = omega (arith, l);
        file = k.file;
      }

  pub kept_left : (b : Bool) (s t : State) (acts : List Act) → Kept b s acts t → Kept b s acts (left t)
  kept_left b s t acts k = record { own_is = k.own_is; others = k.others; new = k.new; beyond = k.beyond; last = k.last; file = k.file }

  -- the active call did nothing by itself; each call inside it is a walk, also if the run stops in it
  abbrev pub SilentBy : {A : Type 0} → State → Got A → Type 0
  SilentBy s (Gives a t) = Kept true s [] t × (activations t.calls ≡ activations s.calls)
  SilentBy s (Stops why t) = Kept false s [] t

  pub record Silent {A : Type 0} (s : State) (r : Got A) : Type 0 where
    pub by : Ok s → SilentBy s r

  pub silent_stops : {A : Type 0} (why : Stop) (s : State) → Silent {A = A} s (Stops why s)
  silent_stops why s = record { by = λ o. kept_still false s s o (still_same s) }

  silent_by : {A : Type 0} (s : State) (r : Got A) (j : Comes) → j [] → SilentBy s r → AddsBy j s r (λ v. j)
  silent_by s (Gives a t) j h q = record { acts = []; kept = q.0; calls = q.1; met = []; reads = refl; on = λ w v. v }
  silent_by s (Stops why t) j h q = record { acts = []; kept = q; met = []; reads = refl; allowed = h }

  pub silent_adds : {A : Type 0} (s : State) (r : Got A) (j : Comes) → j [] → Silent s r → Adds j s r (λ v. j)
  silent_adds s r j h q = record { by = λ o. silent_by s r j h (q.by o) }
