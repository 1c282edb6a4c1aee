-- What is bound in the active calls: each variable stands for the instance that its call made last, and so it stays.
use Rattle.std.proofs.Common.{ℕ, ◌≤◌, ◌<◌, List, [], ◌∷◌, ◌++◌, ◌≡◌, inl, inr, refl, subst, sym, ap, ◌∙◌, arith, Option, Some, None, Bool, true, false}
use Rattle.std.specs.Prelude.{nat_eq, if◌then◌else◌}
use Rattle.std.proofs.lemmas.Bool.{ne_eqb, true≢false}
use Rattle.c_meaning.specs.State.{Act, Deed, Bound, Call, activation_in, found_in, found_among, found_within, or_else, with_bound, in_call, opened, tail_of}
use Rattle.flow_calls.specs.Placing.{Sites, made_in, made_by, last_made, number_of, IsNewest, At, AreInPlace}
use Rattle.flow_calls.proofs.Lists.{snoc_split, or_none, or_some, if_some, if_on, if_off, are_equal, same_eq, some_not}
use Rattle.flow_calls.proofs.Made.{last_append}

if_none : (b : Bool) (j : ℕ) (o : Option ℕ) → (if b then Some j else o) ≡ None → (b ≡ false) × (o ≡ None)
if_none true j o e = absurd (some_not j (sym e))
if_none false j o e = (refl, e)

nones : (b : Bool) (o : Option ℕ) → (if b then o else o) ≡ o
nones true o = refl
nones false o = refl

differ : (a b : ℕ) → nat_eq a b ≡ false → a ≡ b → ⊥
differ a b e h = true≢false (sym (same_eq a) ∙ subst (λ x. nat_eq a x ≡ false) (sym h) e)

-- ---- the active calls

-- the activations of active calls, the innermost first, are below that number and fall; each is one of a call
abbrev pub Falling : ℕ → List Call → Type 0
Falling n [] = Unit {0}
Falling n (c ∷ rest) = (c.activation < n) × (1 ≤ c.activation) × Falling c.activation rest

pub falling_in : (f : List (List Bound) → List (List Bound)) (n : ℕ) (cs : List Call) → Falling n cs → Falling n (in_call f cs)
falling_in f n [] h = tt
falling_in f n (c ∷ cs) h = h

pub falling_more : (n m : ℕ) (cs : List Call) → n ≤ m → Falling n cs → Falling m cs
falling_more n m [] le h = tt
falling_more n m (c ∷ cs) le h = ((let lt = h.0 in omega (arith, lt, le)), h.1, h.2)

pub falling_left : (n : ℕ) (cs : List Call) → Falling n cs → Falling n (tail_of cs)
falling_left n [] h = tt
falling_left n (c ∷ cs) h = falling_more c.activation n cs (let lt = h.0 in omega (arith, lt)) h.2

pub one_active : (n x j : ℕ) (cs : List Call) → found_within x cs ≡ Some j → Falling n cs → 1 ≤ activation_in cs
one_active n x j [] e h = absurd (some_not j e)
one_active n x j (c ∷ cs) e h = h.1

-- ---- a call is active, and the variables that are bound in it are at most that number

abbrev pub BoundBelow : ℕ → List Bound → Type 0
BoundBelow n [] = Unit {0}
BoundBelow n (b ∷ bs) = (b.variable ≤ n) × BoundBelow n bs

abbrev pub ScopesBelow : ℕ → List (List Bound) → Type 0
ScopesBelow n [] = Unit {0}
ScopesBelow n (s ∷ ss) = BoundBelow n s × ScopesBelow n ss

abbrev pub Below : ℕ → List Call → Type 0
Below n [] = ⊥
Below n (c ∷ cs) = ScopesBelow n c.scopes

bound_not : (n x : ℕ) → n < x → (bs : List Bound) → BoundBelow n bs → found_in x bs ≡ None
bound_not n x lt [] h = refl
bound_not n x lt (b ∷ bs) h = if_off (nat_eq b.variable x) (Some b.instance) (found_in x bs) (ne_eqb b.variable x (λ e. let le = h.0 in omega (arith, e, lt, le))) ∙ bound_not n x lt bs h.1

scopes_not : (n x : ℕ) → n < x → (ss : List (List Bound)) → ScopesBelow n ss → found_among x ss ≡ None
scopes_not n x lt [] h = refl
scopes_not n x lt (s ∷ ss) h = ap (λ o. or_else o (found_among x ss)) (bound_not n x lt s h.0) ∙ scopes_not n x lt ss h.1

pub not_found : (n x : ℕ) → n < x → (cs : List Call) → Below n cs → found_within x cs ≡ None
not_found n x lt [] h = refl
not_found n x lt (c ∷ cs) h = scopes_not n x lt c.scopes h

bound_more : (n m : ℕ) → n ≤ m → (bs : List Bound) → BoundBelow n bs → BoundBelow m bs
bound_more n m le [] h = tt
bound_more n m le (b ∷ bs) h = ((let k = h.0 in omega (arith, k, le)), bound_more n m le bs h.1)

scopes_more : (n m : ℕ) → n ≤ m → (ss : List (List Bound)) → ScopesBelow n ss → ScopesBelow m ss
scopes_more n m le [] h = tt
scopes_more n m le (s ∷ ss) h = (bound_more n m le s h.0, scopes_more n m le ss h.1)

pub below_more : (n m : ℕ) → n ≤ m → (cs : List Call) → Below n cs → Below m cs
below_more n m le [] h = h
below_more n m le (c ∷ cs) h = scopes_more n m le c.scopes h

with_below : (n : ℕ) (b : Bound) (ss : List (List Bound)) → b.variable ≤ n → ScopesBelow n ss → ScopesBelow n (with_bound b ss)
with_below n b [] le h = ((le, tt), tt)
with_below n b (s ∷ ss) le h = ((le, h.0), h.1)

pub made_below : (n x j : ℕ) → n ≤ x → (cs : List Call) → Below n cs → Below x (in_call (with_bound (record { variable = x; instance = j })) cs)
made_below n x j le [] h = h
made_below n x j le (c ∷ cs) h = with_below x (record { variable = x; instance = j }) c.scopes (omega arith) (scopes_more n x le c.scopes h)

pub opened_below : (n : ℕ) (cs : List Call) → Below n cs → Below n (in_call opened cs)
opened_below n [] h = h
opened_below n (c ∷ cs) h = (tt, h)

found_here : (x j : ℕ) (ss : List (List Bound)) → found_among x (with_bound (record { variable = x; instance = j }) ss) ≡ Some j
found_here x j [] = ap (λ o. or_else o None) (if_on (nat_eq x x) (Some j) None (same_eq x))
found_here x j (s ∷ ss) = ap (λ o. or_else o (found_among x ss)) (if_on (nat_eq x x) (Some j) (found_in x s) (same_eq x))

pub found_made : (n x j : ℕ) (cs : List Call) → Below n cs → found_within x (in_call (with_bound (record { variable = x; instance = j })) cs) ≡ Some j
found_made n x j [] h = absurd h
found_made n x j (c ∷ cs) h = found_here x j c.scopes

pub active_in : (f : List (List Bound) → List (List Bound)) (cs : List Call) → activation_in (in_call f cs) ≡ activation_in cs
active_in f [] = refl
active_in f (c ∷ cs) = refl

tail_bound : (b : Bound) (ss : List (List Bound)) → tail_of (with_bound b ss) ≡ tail_of ss
tail_bound b [] = refl
tail_bound b (s ∷ ss) = refl

pub made_tail : (b : Bound) (cs : List Call) → in_call tail_of (in_call (with_bound b) cs) ≡ in_call tail_of cs
made_tail b [] = refl
made_tail b (c ∷ cs) = ap (λ ss. record c { scopes = ss } ∷ cs) (tail_bound b c.scopes)

pub opened_tail : (cs : List Call) → in_call tail_of (in_call opened cs) ≡ cs
opened_tail [] = refl
opened_tail (c ∷ cs) = refl

abbrev pub deed : ℕ → Act → Deed
deed a b = record { activation = a; act = b }

module _ (S : Sites) where
  -- each variable that stands for an instance in an active call stands for the one that this activation made last
  abbrev pub ScopeBound : List Deed → ℕ → List Bound → Type 0
  ScopeBound ds a [] = Unit {0}
  ScopeBound ds a (b ∷ bs) = (last_made S a b.variable ds ≡ Some b.instance) × ScopeBound ds a bs

  abbrev pub ScopesBound : List Deed → ℕ → List (List Bound) → Type 0
  ScopesBound ds a [] = Unit {0}
  ScopesBound ds a (scope ∷ rest) = ScopeBound ds a scope × ScopesBound ds a rest

  abbrev pub AllBound : List Deed → List Call → Type 0
  AllBound ds [] = Unit {0}
  AllBound ds (c ∷ rest) = ScopesBound ds c.activation c.scopes × AllBound ds rest

  scope_to : (ds es : List Deed) (a : ℕ) (bs : List Bound) → ((x : ℕ) → last_made S a x es ≡ last_made S a x ds) → ScopeBound ds a bs → ScopeBound es a bs
  scope_to ds es a [] f h = tt
  scope_to ds es a (b ∷ bs) f h = (f b.variable ∙ h.0, scope_to ds es a bs f h.1)

  scopes_to : (ds es : List Deed) (a : ℕ) (ss : List (List Bound)) → ((x : ℕ) → last_made S a x es ≡ last_made S a x ds) → ScopesBound ds a ss → ScopesBound es a ss
  scopes_to ds es a [] f h = tt
  scopes_to ds es a (s ∷ ss) f h = (scope_to ds es a s f h.0, scopes_to ds es a ss f h.1)

  -- of calls below an activation, where only that one made something
  pub calls_to : (ds es : List Deed) (n : ℕ) (cs : List Call) → ((a x : ℕ) → a < n → last_made S a x es ≡ last_made S a x ds) → Falling n cs → AllBound ds cs → AllBound es cs
  calls_to ds es n [] f g h = tt
  calls_to ds es n (c ∷ cs) f g h = (scopes_to ds es c.activation c.scopes (λ x. f c.activation x g.0) h.0, calls_to ds es c.activation cs (λ a x lt. f a x (let u = g.0 in omega (arith, lt, u))) g.2 h.1)

  -- of the active call, where the variable of which an instance is made isn't bound
  scope_made : (ds es : List Deed) (a x : ℕ) (bs : List Bound) → found_in x bs ≡ None → ((y : ℕ) → (y ≡ x → ⊥) → last_made S a y es ≡ last_made S a y ds) → ScopeBound ds a bs → ScopeBound es a bs
  scope_made ds es a x [] e f h = tt
  scope_made ds es a x (b ∷ bs) e f h = let g = if_none (nat_eq b.variable x) b.instance (found_in x bs) e in (f b.variable (differ b.variable x g.0) ∙ h.0, scope_made ds es a x bs g.1 f h.1)

  scopes_made : (ds es : List Deed) (a x : ℕ) (ss : List (List Bound)) → found_among x ss ≡ None → ((y : ℕ) → (y ≡ x → ⊥) → last_made S a y es ≡ last_made S a y ds) → ScopesBound ds a ss → ScopesBound es a ss
  scopes_made ds es a x [] e f h = tt
  scopes_made ds es a x (s ∷ ss) e f h = let g = or_none (found_in x s) (found_among x ss) e in (scope_made ds es a x s g.0 f h.0, scopes_made ds es a x ss g.1 f h.1)

  with_scope : (es : List Deed) (a : ℕ) (b : Bound) (ss : List (List Bound)) → last_made S a b.variable es ≡ Some b.instance → ScopesBound es a ss → ScopesBound es a (with_bound b ss)
  with_scope es a b [] e h = ((e, tt), tt)
  with_scope es a b (s ∷ ss) e h = ((e, h.0), h.1)

  -- ---- what is found is bound

  scope_found : (ds : List Deed) (a x j : ℕ) (bs : List Bound) → found_in x bs ≡ Some j → ScopeBound ds a bs → last_made S a x ds ≡ Some j
  scope_found ds a x j [] e h = absurd (some_not j e)
  scope_found ds a x j (b ∷ bs) e h = elim (if_some (nat_eq b.variable x) b.instance j (found_in x bs) e) [
    | inl s ↦ subst (λ y. last_made S a y ds ≡ Some j) (are_equal b.variable x s.0) (h.0 ∙ ap Some s.1)
    | inr s ↦ scope_found ds a x j bs s h.1
  ]

  scopes_found : (ds : List Deed) (a x j : ℕ) (ss : List (List Bound)) → found_among x ss ≡ Some j → ScopesBound ds a ss → last_made S a x ds ≡ Some j
  scopes_found ds a x j [] e h = absurd (some_not j e)
  scopes_found ds a x j (s ∷ ss) e h = elim (or_some (found_in x s) (found_among x ss) j e) [
    | inl t ↦ scope_found ds a x j s t h.0
    | inr t ↦ scopes_found ds a x j ss t.1 h.1
  ]

  pub found_is : (ds : List Deed) (x j : ℕ) (cs : List Call) → found_within x cs ≡ Some j → AllBound ds cs → last_made S (activation_in cs) x ds ≡ Some j
  found_is ds x j [] e h = absurd (some_not j e)
  found_is ds x j (c ∷ cs) e h = scopes_found ds c.activation x j c.scopes e h.0

  -- ---- one deed more

  pub one_more : (a x n : ℕ) (ds : List Deed) (b : Act) → made_by S a x (deed n b) ≡ None → last_made S a x (ds ++ deed n b ∷ []) ≡ last_made S a x ds
  one_more a x n ds b e = last_append S a x ds (deed n b ∷ []) ∙ ap (λ o. or_else o (last_made S a x ds)) e

  -- that makes nothing
  pub bound_quiet : (ds : List Deed) (n last : ℕ) (b : Act) (cs : List Call) → ((x : ℕ) → made_in S x b ≡ None) → Falling last cs → AllBound ds cs → AllBound (ds ++ deed n b ∷ []) cs
  bound_quiet ds n last b cs f g h = calls_to ds (ds ++ deed n b ∷ []) last cs (λ a x lt. one_more a x n ds b (ap (λ o. if nat_eq n a then o else None) (f x) ∙ nones (nat_eq n a) None)) g h

  -- that makes the instance of a variable
  pub bound_made : (x j : ℕ) (b : Act) (ds : List Deed) (last : ℕ) (cs : List Call) → found_within x cs ≡ None → made_in S x b ≡ Some j → ((y : ℕ) → (y ≡ x → ⊥) → made_in S y b ≡ None) → Falling last cs → AllBound ds cs
      → AllBound (ds ++ deed (activation_in cs) b ∷ []) (in_call (with_bound (record { variable = x; instance = j })) cs)
  bound_made x j b ds last [] e m f g h = tt
  bound_made x j b ds last (c ∷ cs) e m f g h =
      let n = c.activation in
      let es : List Deed = ds ++ deed n b ∷ [] in (
        with_scope es n (record { variable = x; instance = j }) c.scopes
            (last_append S n x ds (deed n b ∷ []) ∙ ap (λ o. or_else o (last_made S n x ds)) (if_on (nat_eq n n) (made_in S x b) None (same_eq n) ∙ m))
            (scopes_made ds es n x c.scopes e (λ y ne. one_more n y n ds b (ap (λ o. if nat_eq n n then o else None) (f y ne) ∙ nones (nat_eq n n) None)) h.0),
        calls_to ds es n cs (λ a y lt. one_more a y n ds b (if_off (nat_eq n a) (made_in S y b) None (ne_eqb n a (λ e. omega (arith, e, lt))))) g.2 h.1,
      )

  pub newest_more : (j k : ℕ) (ds : List Deed) (n : ℕ) (b : Act) → j ≤ k → number_of S b < k → IsNewest S ds j → IsNewest S (ds ++ deed n b ∷ []) k
  newest_more j k ds n b le h c p q d is = elim (snoc_split ds (deed n b) p q d is) [
    | inl s ↦ subst (λ (d : Deed). number_of S d.act < k) (sym s.1) h
    | inr s ↦ (let m = c p s.0 d s.1 in omega (arith, m, le))
  ]

  pub newest_at : (j k : ℕ) (ds : List Deed) → j ≤ k → IsNewest S ds j → IsNewest S ds k
  newest_at j k ds le c p q d is = let m = c p q d is in omega (arith, m, le)

  pub placed_more : (ds : List Deed) (n : ℕ) (b : Act) → At S ds n b → AreInPlace S ds → AreInPlace S (ds ++ deed n b ∷ [])
  placed_more ds n b h c p q d is = elim (snoc_split ds (deed n b) p q d is) [
    | inl s ↦ subst (λ p. At S p d.activation d.act) (sym s.0) (subst (λ (d : Deed). At S ds d.activation d.act) (sym s.1) h)
    | inr s ↦ c p s.0 d s.1
  ]

  -- ---- scopes and calls

  pub bound_opened : (ds : List Deed) (cs : List Call) → AllBound ds cs → AllBound ds (in_call opened cs)
  bound_opened ds [] h = tt
  bound_opened ds (c ∷ cs) h = ((tt, h.0), h.1)

  scopes_tail : (ds : List Deed) (a : ℕ) (ss : List (List Bound)) → ScopesBound ds a ss → ScopesBound ds a (tail_of ss)
  scopes_tail ds a [] h = tt
  scopes_tail ds a (s ∷ ss) h = h.1

  pub bound_closed : (ds : List Deed) (cs : List Call) → AllBound ds cs → AllBound ds (in_call tail_of cs)
  bound_closed ds [] h = tt
  bound_closed ds (c ∷ cs) h = (scopes_tail ds c.activation c.scopes h.0, h.1)

  pub bound_left : (ds : List Deed) (cs : List Call) → AllBound ds cs → AllBound ds (tail_of cs)
  bound_left ds [] h = tt
  bound_left ds (c ∷ cs) h = h.1
