-- Each call is kept apart: what is done in it is done by its own activation and later ones, and the call that it stands in does nothing
-- meanwhile.
use Rattle.std.proofs.Common.{◌≡◌, ℕ, suc, ◌<◌, ◌≤◌, inl, inr, List, [], ◌∷◌, ◌++◌, Option, Bool, true, false, ◌∙◌, refl, sym, ap, subst, append-nil, append_assoc, arith}
use Rattle.std.specs.Prelude.{All, nat_eq, if◌then◌else◌}
use Rattle.std.proofs.lemmas.List.Elements.{All-nil, All-cons, All-append, All-head, All-tail}
use Rattle.std.proofs.lemmas.Bool.{ne_eqb, true≢false}
use Rattle.c_events.specs.declared.events.Event.{Event}
use Rattle.c_store.specs.declared.value.Value.{Value}
use Rattle.c_meaning.specs.State.{Act, begins, makes, tells, repeats, Bound, Call, Deed, State, activation_in, activation, logged, in_call, tail_of}
use Rattle.c_meaning.specs.Results.{Got, Gives, Stops}
use Rattle.c_meaning.specs.declared.end.Stop.{Stop}
use Rattle.c_meaning.specs.Firsts.{First}
use Rattle.c_meaning.specs.Calls.{Source, activated, calls}
use Rattle.c_meaning.specs.Deeds.{told_by, told, own}
use Rattle.c_meaning.specs.Lasting.{Lasts, Lasted, Keeps, IsOwnOrNew, IsNew, activations, HasDone, IsInside, IsOver}
use Rattle.c_meaning.proofs.SteadyRuns.{calls_keep}

-- ---- what was done

none : (by : State → Deed → Type 0) (s t : State) → s.deeds ≡ t.deeds → s.last ≤ t.last → HasDone by s t
none by s t e le = record { deeds = []; is = append-nil s.deeds ∙ e; all = All-nil (by s); last = le }

-- the same by others, of which each is one of these
widened : (P Q : Deed → Type 0) → ((d : Deed) → P d → Q d) → (ds : List Deed) → All P ds → All Q ds
widened P Q f ds all = λ k d lt. f _ (all k d lt)

joined : (by : State → Deed → Type 0) (s t u : State) → ((d : Deed) → by t d → by s d) → HasDone by s t → HasDone by t u → HasDone by s u
joined by s t u f p q = record {
  deeds = p.deeds ++ q.deeds;
  is = sym (append_assoc s.deeds p.deeds q.deeds) ∙ ap (λ l. l ++ q.deeds) p.is ∙ q.is;
  all = All-append (by s) p.deeds q.deeds p.all (widened (by t) (by s) f q.deeds q.all);
  last = omega (arith, p.last, q.last);
}

-- ---- who is active

head_or : List ℕ → ℕ
head_or [] = 0
head_or (x ∷ xs) = x

active_is : (cs : List Call) → activation_in cs ≡ head_or (activations cs)
unfolding head_or
active_is [] = refl
active_is (c ∷ cs) = refl

same_active : (cs ds : List Call) → activations cs ≡ activations ds → activation_in cs ≡ activation_in ds
same_active cs ds e = active_is cs ∙ ap head_or e ∙ sym (active_is ds)

in_call_activations : (f : List (List Bound) → List (List Bound)) (cs : List Call) → activations (in_call f cs) ≡ activations cs
in_call_activations f [] = refl
in_call_activations f (c ∷ cs) = refl

rest_of : List ℕ → List ℕ
rest_of [] = []
rest_of (x ∷ xs) = xs

rest_activations : (f : List (List Bound) → List (List Bound)) (cs : List Call) → activations (tail_of (in_call f cs)) ≡ rest_of (activations cs)
unfolding rest_of
rest_activations f [] = refl
rest_activations f (c ∷ cs) = refl

back_activations : (f : List (List Bound) → List (List Bound)) (cs : List Call) (x : ℕ) (xs : List ℕ) → activations cs ≡ x ∷ xs → activations (tail_of (in_call f cs)) ≡ xs
unfolding rest_of
back_activations f cs x xs e = rest_activations f cs ∙ ap rest_of e

-- ---- each step

own_or_new : (s t : State) → activations t.calls ≡ activations s.calls → s.last ≤ t.last → (d : Deed) → IsOwnOrNew t d → IsOwnOrNew s d
own_or_new s t e le d (inl own) = inl (own ∙ same_active t.calls s.calls e)
own_or_new s t e le d (inr new) = inr (omega (arith, new, le))

inside_new : (s : State) (f : ℕ) (d : Deed) → IsOwnOrNew (activated f s) d → IsNew s d
inside_new s f d (inl own) = omega (arith, own)
inside_new s f d (inr new) = omega (arith, new)

inside : (s t : State) → s.deeds ≡ t.deeds → s.last ≤ t.last → activations t.calls ≡ activations s.calls → IsInside s t
inside s t e le c = record { done = none IsOwnOrNew s t e le; calls = c }

pub apart_lasts : Lasts IsInside IsOver (HasDone IsOwnOrNew) (HasDone IsNew)
apart_lasts = record {
  same = λ s. inside s s refl (omega arith) refl;
  further = λ s t u p q. record { done = joined IsOwnOrNew s t u (own_or_new s t p.calls p.done.last) p.done q.done; calls = q.calls ∙ p.calls };
  turned = λ s n le. inside s (record s { turns = n }) refl (omega arith) refl;
  kept_in = λ s c le. inside s (record s { store = c }) refl (omega arith) refl;
  read = λ s bs. inside s (record s { input = bs }) refl (omega arith) refl;
  put = λ s bs. inside s (record s { output = s.output ++ bs }) refl (omega arith) refl;
  done = λ s a. record {
    done = record { deeds = record { activation = activation s; act = a } ∷ []; is = refl; all = All-cons (IsOwnOrNew s) (record { activation = activation s; act = a }) [] (inl refl) (All-nil (IsOwnOrNew s)); last = omega arith };
    calls = refl;
  };
  told = λ s e n. inside s (logged e s) refl (omega arith) refl;
  named = λ s bs. inside s (record s { file = bs }) refl (omega arith) refl;
  scoped = λ s f. inside s (record s { calls = in_call f s.calls }) refl (omega arith) (in_call_activations f s.calls);
  whole = λ s f t p. record {
    done = record { deeds = p.done.deeds; is = p.done.is; all = widened (IsOwnOrNew (activated f s)) (IsNew s) (inside_new s f) p.done.deeds p.done.all; last = omega (arith, p.done.last) };
    calls = back_activations tail_of t.calls (suc s.last) (activations s.calls) p.calls;
  };
  called = λ s t p. record {
    done = record { deeds = p.done.deeds; is = p.done.is; all = widened (IsNew s) (IsOwnOrNew s) (λ d new. inr new) p.done.deeds p.done.all; last = p.done.last };
    calls = p.calls;
  };
  stopped = λ s t p. p.done;
  further_stop = λ s t u p q. joined IsOwnOrNew s t u (own_or_new s t p.calls p.done.last) p.done q;
  call_stop = λ s f t p. record { deeds = p.deeds; is = p.is; all = widened (IsOwnOrNew (activated f s)) (IsNew s) (inside_new s f) p.deeds p.all; last = omega (arith, p.last) };
  not_begun = λ s. none IsNew s s refl (omega arith);
  inside_stop = λ s t p. record { deeds = p.deeds; is = p.is; all = widened (IsNew s) (IsOwnOrNew s) (λ d new. inr new) p.deeds p.all; last = p.last };
}

-- of calls and loops
pub calls_apart : (P : Source) (i : First) → Keeps IsInside IsOver (HasDone IsOwnOrNew) (HasDone IsNew) (calls P i)
calls_apart P i = calls_keep IsInside IsOver (HasDone IsOwnOrNew) (HasDone IsNew) apart_lasts P i

-- ---- the events of all, and what an activation did by itself

by_append : (a : Act) (xs ys zs : List Event) → zs ≡ xs ++ ys → told_by a zs ≡ told_by a xs ++ ys
by_append (tells x) xs ys zs e = ap (λ l. x ∷ l) e
by_append (repeats x) xs ys zs e = ap (λ l. x ∷ l) e
by_append (begins f) xs ys zs e = e
by_append (makes v j) xs ys zs e = e

pub told_append : (xs ys : List Deed) → told (xs ++ ys) ≡ told xs ++ told ys
told_append [] ys = refl
told_append (x ∷ xs) ys = by_append x.act (told xs) (told ys) (told (xs ++ ys)) (told_append xs ys)

pick : (b : Bool) (x : Act) (zs xs ys : List Act) → zs ≡ xs ++ ys → (if b then x ∷ zs else zs) ≡ (if b then x ∷ xs else xs) ++ ys
pick true x zs xs ys e = ap (λ l. x ∷ l) e
pick false x zs xs ys e = e

pub own_append : (a : ℕ) (xs ys : List Deed) → own a (xs ++ ys) ≡ own a xs ++ own a ys
own_append a [] ys = refl
own_append a (x ∷ xs) ys = pick (nat_eq x.activation a) x.act (own a (xs ++ ys)) (own a xs) (own a ys) (own_append a xs ys)

differs : (n a : ℕ) → a < n → nat_eq n a ≡ false
differs n a lt = ne_eqb n a (λ e. omega (arith, e, lt))

other : (b : Bool) (x : Act) (xs : List Act) → b ≡ false → xs ≡ [] → (if b then x ∷ xs else xs) ≡ []
other true x xs b e = absurd (true≢false b)
other false x xs b e = e

passed_by : (n a : ℕ) (x : Act) (xs : List Act) → a < n → xs ≡ [] → (if nat_eq n a then x ∷ xs else xs) ≡ []
passed_by n a x xs lt e = other (nat_eq n a) x xs (differs n a lt) e

others_none : (s : State) (a : ℕ) → a ≤ s.last → (ds : List Deed) → All (IsNew s) ds → own a ds ≡ []
others_none s a le [] all = refl
others_none s a le (d ∷ ds) all = passed_by d.activation a d.act (own a ds) (omega (arith, All-head (IsNew s) d ds all, le)) (others_none s a le ds (All-tail (IsNew s) d ds all))

over_adds_none : (s t : State) → IsOver s t → (a : ℕ) → a ≤ s.last → own a t.deeds ≡ own a s.deeds
over_adds_none s t p a le =
    ap (own a) (sym p.done.is) ∙ own_append a s.deeds p.done.deeds ∙ ap (λ l. own a s.deeds ++ l) (others_none s a le p.done.deeds p.done.all) ∙ append-nil (own a s.deeds)

given_holds : (s : State) (v : Option Value) (t : State) (r : Got (Option Value)) → r ≡ Gives v t → Lasted IsOver (HasDone IsNew) s r → IsOver s t
given_holds s v t r e p = (subst (λ r. Lasted IsOver (HasDone IsNew) s r) e p).holds

-- a call adds nothing to what the activations before it did by themselves
pub call_adds_none : (P : Source) (i : First) (f : ℕ) (vs : List Value) (s : State) (v : Option Value) (t : State) → (calls P i).call f vs s ≡ Gives v t → (a : ℕ) → a ≤ s.last → own a t.deeds ≡ own a s.deeds
call_adds_none P i f vs s v t e a le = over_adds_none s t (given_holds s v t ((calls P i).call f vs s) e ((calls_apart P i).call_keeps f vs s)) a le

stop_holds : (s : State) (why : Stop) (t : State) (r : Got (Option Value)) → r ≡ Stops why t → Lasted IsOver (HasDone IsNew) s r → HasDone IsNew s t
stop_holds s why t r e p = (subst (λ r. Lasted IsOver (HasDone IsNew) s r) e p).holds

-- nor does a call in which the run stops
pub stopped_adds_none : (P : Source) (i : First) (f : ℕ) (vs : List Value) (s : State) (why : Stop) (t : State) → (calls P i).call f vs s ≡ Stops why t → (a : ℕ) → a ≤ s.last → own a t.deeds ≡ own a s.deeds
stopped_adds_none P i f vs s why t e a le =
    let p = stop_holds s why t ((calls P i).call f vs s) e ((calls_apart P i).call_keeps f vs s) in
    ap (own a) (sym p.is) ∙ own_append a s.deeds p.deeds ∙ ap (λ l. own a s.deeds ++ l) (others_none s a le p.deeds p.all) ∙ append-nil (own a s.deeds)
