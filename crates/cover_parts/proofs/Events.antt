-- What one more event does to what a list of events covers.
use Rattle.std.proofs.Common.{◌≡◌, ◌<◌, ℕ, zero, suc, List, [], ◌∷◌, ◌++◌, length, Option, Some, None, refl, sym, subst, arith, inl, inr}
use Rattle.std.specs.Prelude.{◌↔◌, ◌⊎◌}
use Rattle.c_events.specs.declared.events.Cell.{Cell}
use Rattle.c_events.specs.declared.events.Event.{Event}
use Rattle.c_events.specs.declared.events.Event.TheVariants as event
use Rattle.atac_facts.specs.declared.fact.Fact.{Fact}
use Rattle.atac_facts.specs.declared.fact.Fact.TheVariants as fact
use Rattle.cover_parts.specs.Covered.{At, Reaches, IsPair, IsPUse, Covered, IsPending, LastIs, IsFree}
use Rattle.cover_parts.proofs.Cases.{either}

-- POSITIONS AND ONE MORE EVENT

pub within : (es : List Event) (i : ℕ) (x : Event) → At es i x → i < length es
within [] i x h = absurd (cc)
within (e ∷ es) zero x h = omega arith
within (e ∷ es) (suc i) x h = omega (arith, within es i x h)

pub earlier : (es : List Event) (e : Event) (i : ℕ) (x : Event) → At es i x → At (es ++ e ∷ []) i x
earlier [] e i x h = absurd (cc)
earlier (d ∷ es) e zero x h = h
earlier (d ∷ es) e (suc i) x h = earlier es e i x h

pub newest : (es : List Event) (e : Event) → At (es ++ e ∷ []) (length es) e
newest [] e = refl
newest (d ∷ es) e = newest es e

same_event : (e x : Event) → Some e ≡ Some x → x ≡ e
same_event e x h = cc

pub places : (es : List Event) (e : Event) (i : ℕ) (x : Event) → At (es ++ e ∷ []) i x → At es i x ⊎ ((i ≡ length es) × (x ≡ e))
places [] e zero x h = inr (refl, same_event e x h)
places [] e (suc i) x h = absurd (cc)
places (d ∷ es) e zero x h = inl h
places (d ∷ es) e (suc i) x h = either (λ a. inl a) (λ b. inr (omega (arith, b.0), b.1)) (places es e i x h)

-- a place before the last one
pub back : (es : List Event) (e : Event) (i : ℕ) (x : Event) → i < length es → At (es ++ e ∷ []) i x → At es i x
back es e i x l h = either (λ a. a) (λ b. absurd (omega (arith, b.0, l))) (places es e i x h)

-- LAST DEFINITIONS

order : (m n : ℕ) → (m < n) ⊎ ((n < m) ⊎ (m ≡ n))
order zero zero = inr (inr refl)
order zero (suc n) = inl (omega arith)
order (suc m) zero = inr (inl (omega arith))
order (suc m) (suc n) = either (λ a. inl (omega (arith, a))) (λ b. either (λ a. inr (inl (omega (arith, a)))) (λ e. inr (inr (omega (arith, e)))) b) (order m n)

same_def : (es : List Event) (c : Cell) (d e i j : ℕ) → i ≡ j → At es i (event.Def d c) → At es j (event.Def e c) → ◌≡◌ {A = Option ℕ} (Some e) (Some d)
same_def es c d e i j q a b = cc

pub last_unique : (es : List Event) (c : Cell) (d : ℕ) (w : Option ℕ) → LastIs es c (Some d) → LastIs es c w → w ≡ Some d
last_unique es c d None l m = absurd (m l.0 d l.1)
last_unique es c d (Some e) l m = either (λ a. absurd (l.2 m.0 e a m.1)) (λ b. either (λ a. absurd (m.2 l.0 d a l.1)) (λ q. same_def es c d e l.0 m.0 q l.1 m.1) b) (order l.0 m.0)

pub last_defined : (es : List Event) (d : ℕ) (c : Cell) → LastIs (es ++ event.Def d c ∷ []) c (Some d)
last_defined es d c = (length es, newest es (event.Def d c), λ j e l h. either (λ a. absurd (omega (arith, within es j (event.Def e c) a, l))) (λ b. absurd (omega (arith, b.0, l))) (places es (event.Def d c) j (event.Def e c) h))

-- what the event leaves of a cell that it does not define
pub last_other : (es : List Event) (e : Event) (c : Cell) (w : Option ℕ) → ((d : ℕ) → event.Def d c ≡ e → ⊥) → LastIs es c w → LastIs (es ++ e ∷ []) c w
last_other es e c None n l = λ i d h. either (λ a. l i d a) (λ b. n d b.1) (places es e i (event.Def d c) h)
last_other es e c (Some d) n l = (l.0, earlier es e l.0 (event.Def d c) l.1, λ j x g h. either (λ a. l.2 j x g a) (λ b. n x b.1) (places es e j (event.Def x c) h))

-- PAIRS

reaches_earlier : (es : List Event) (e : Event) (d u : ℕ) (c : Cell) (a h i : ℕ) → Reaches es d u c a h i → Reaches (es ++ e ∷ []) d u c a h i
reaches_earlier es e d u c a h i r = record {
  before = r.before;
  defined = earlier es e h (event.Def d c) r.defined;
  used = earlier es e i (event.Use u c a) r.used;
  kept = λ j x g k at. r.kept j x g k (back es e j (event.Def x c) (omega (arith, within es i (event.Use u c a) r.used, k)) at);
}

reaches_back : (es : List Event) (e : Event) (d u : ℕ) (c : Cell) (a h i : ℕ) → i < length es → Reaches (es ++ e ∷ []) d u c a h i → Reaches es d u c a h i
reaches_back es e d u c a h i l r = record {
  before = r.before;
  defined = back es e h (event.Def d c) (omega (arith, r.before, l)) r.defined;
  used = back es e i (event.Use u c a) l r.used;
  kept = λ j x g k at. r.kept j x g k (earlier es e j (event.Def x c) at);
}

-- the event is that use, and the definition the cell's last one
pub record Ends (es : List Event) (e : Event) (d u : ℕ) (c : Cell) (a : ℕ) : Type 0 where
  pub is : e ≡ event.Use u c a
  pub last : LastIs es c (Some d)

reaches_new : (es : List Event) (e : Event) (d u : ℕ) (c : Cell) (a h i : ℕ) → i ≡ length es → event.Use u c a ≡ e → Reaches (es ++ e ∷ []) d u c a h i → Ends es e d u c a
reaches_new es e d u c a h i q is r = record {
  is = sym is;
  last = (h, back es e h (event.Def d c) (omega (arith, r.before, q)) r.defined, λ j x g at. r.kept j x g (omega (arith, q, within es j (event.Def x c) at)) (earlier es e j (event.Def x c) at));
}

reaches_made : (es : List Event) (e : Event) (d u : ℕ) (c : Cell) (a : ℕ) (n : Ends es e d u c a) → Reaches (es ++ e ∷ []) d u c a n.last.0 (length es)
reaches_made es e d u c a n = record {
  before = within es n.last.0 (event.Def d c) n.last.1;
  defined = earlier es e n.last.0 (event.Def d c) n.last.1;
  used = subst (λ (x : Event). At (es ++ e ∷ []) (length es) x) n.is (newest es e);
  kept = λ j x g k at. n.last.2 j x g (back es e j (event.Def x c) k at);
}

pub pair_push : (es : List Event) (e : Event) (d u : ℕ) → IsPair (es ++ e ∷ []) d u ↔ (IsPair es d u ⊎ ((c : Cell) × (a : ℕ) × Ends es e d u c a))
pair_push es e d u =
    (λ p. either (λ at. inl (p.0, p.1, p.2, p.3, reaches_back es e d u p.0 p.1 p.2 p.3 (within es p.3 (event.Use u p.0 p.1) at) p.4)) (λ b. inr (p.0, p.1, reaches_new es e d u p.0 p.1 p.2 p.3 b.0 b.1 p.4)) (places es e p.3 (event.Use u p.0 p.1) p.4.used), λ s. either (λ p. (p.0, p.1, p.2, p.3, reaches_earlier es e d u p.0 p.1 p.2 p.3 p.4)) (λ n. (n.0, n.1, n.2.last.0, length es, reaches_made es e d u n.0 n.1 n.2)) s)

-- PENDING USES

-- the event is no test of decision k in activation a
abbrev pub Passes : Event → ℕ → ℕ → Type 0
Passes e k a = (o : ℕ) → event.Test k o a ≡ e → ⊥

-- the event makes the pair wait for decision k in activation a
abbrev pub Waits : (ℕ → Option ℕ) → List Event → Event → ℕ → ℕ → ℕ → ℕ → Type 0
Waits owner es e k a d u = (owner u ≡ Some k) × ((c : Cell) × Ends es e d u c a)

pub pending_push : (owner : ℕ → Option ℕ) (es : List Event) (e : Event) (k a d u : ℕ) → IsPending owner (es ++ e ∷ []) k a d u ↔ ((IsPending owner es k a d u × Passes e k a) ⊎ Waits owner es e k a d u)
pending_push owner es e k a d u = (
  λ p. either
      (λ at. inl ((p.0, (p.1.0, p.1.1, p.1.2, reaches_back es e d u p.1.0 a p.1.1 p.1.2 (within es p.1.2 (event.Use u p.1.0 a) at) p.1.3, λ m o g l t. p.1.4 m o g (within (es ++ e ∷ []) m (event.Test k o a) (earlier es e m (event.Test k o a) t)) (earlier es e m (event.Test k o a) t))), λ o q. p.1.4 (length es) o (within es p.1.2 (event.Use u p.1.0 a) at) (within (es ++ e ∷ []) (length es) e (newest es e)) (subst (λ (x : Event). At (es ++ e ∷ []) (length es) x) (sym q) (newest es e))))
      (λ b. inr (p.0, (p.1.0, reaches_new es e d u p.1.0 a p.1.1 p.1.2 b.0 b.1 p.1.3)))
      (places es e p.1.2 (event.Use u p.1.0 a) p.1.3.used),
  λ s. either
      (λ p. (p.0.0, (p.0.1.0, p.0.1.1, p.0.1.2, reaches_earlier es e d u p.0.1.0 a p.0.1.1 p.0.1.2 p.0.1.3, λ m o g l t. either (λ at. p.0.1.4 m o g (within es m (event.Test k o a) at) at) (λ b. p.1 o b.1) (places es e m (event.Test k o a) t))))
      (λ n. (n.0, (n.1.0, n.1.1.last.0, length es, reaches_made es e d u n.1.0 a n.1.1, λ m o g l t. either (λ at. absurd (omega (arith, g, within es m (event.Test k o a) at))) (λ b. absurd (omega (arith, b.0, g))) (places es e m (event.Test k o a) t))))
      s,
)

-- FACTS

-- the event ends decision k with that outcome in an activation in which the pair waits for it
pub record Tested (owner : ℕ → Option ℕ) (es : List Event) (e : Event) (d u o k a : ℕ) : Type 0 where
  pub is : event.Test k o a ≡ e
  pub waited : IsPending owner es k a d u

pub puse_push : (owner : ℕ → Option ℕ) (es : List Event) (e : Event) (d u o : ℕ) → Covered owner (es ++ e ∷ []) (fact.PUse d u o) ↔ (Covered owner es (fact.PUse d u o) ⊎ ((k a : ℕ) × Tested owner es e d u o k a))
puse_push owner es e d u o = (λ f. forth f.0 f.1 f.2, λ s. either (λ f. back_old f.0 f.1 f.2) (λ t. made t.0 t.1 t.2) s)
  where
    forth : (k : ℕ) → owner u ≡ Some k → IsPUse (es ++ e ∷ []) k d u o → Covered owner es (fact.PUse d u o) ⊎ ((k a : ℕ) × Tested owner es e d u o k a)
    forth k own p = either
        (λ at. let l = within es p.4 (event.Test k o p.1) at in inl (k, own, (p.0, p.1, p.2, p.3, p.4, reaches_back es e d u p.0 p.1 p.2 p.3 (omega (arith, l, p.6)) p.5, p.6, at, λ m x g n t. p.8 m x g n (earlier es e m (event.Test k x p.1) t))))
        (λ b. inr (k, p.1, record { is = b.1; waited = (own, (p.0, p.2, p.3, reaches_back es e d u p.0 p.1 p.2 p.3 (omega (arith, b.0, p.6)) p.5, λ m x g l t. p.8 m x g (omega (arith, b.0, l)) (earlier es e m (event.Test k x p.1) t))) }))
        (places es e p.4 (event.Test k o p.1) p.7)

    back_old : (k : ℕ) → owner u ≡ Some k → IsPUse es k d u o → Covered owner (es ++ e ∷ []) (fact.PUse d u o)
    back_old k own p = (k, own, (p.0, p.1, p.2, p.3, p.4, reaches_earlier es e d u p.0 p.1 p.2 p.3 p.5, p.6, earlier es e p.4 (event.Test k o p.1) p.7, λ m x g n t. p.8 m x g n (back es e m (event.Test k x p.1) (omega (arith, n, within es p.4 (event.Test k o p.1) p.7)) t)))

    made : (k a : ℕ) → Tested owner es e d u o k a → Covered owner (es ++ e ∷ []) (fact.PUse d u o)
    made k a t =
        let w = t.waited in
        (k, w.0, (w.1.0, a, w.1.1, w.1.2, length es, reaches_earlier es e d u w.1.0 a w.1.1 w.1.2 w.1.3, within es w.1.2 (event.Use u w.1.0 a) w.1.3.used, subst (λ (x : Event). At (es ++ e ∷ []) (length es) x) (sym t.is) (newest es e), λ m x g l at. w.1.4 m x g l (back es e m (event.Test k x a) l at)))

-- what the event adds to the facts
abbrev pub Brings : (ℕ → Option ℕ) → List Event → Event → Fact → Type 0
Brings owner es e (fact.Block k) = event.Block k ≡ e
Brings owner es e (fact.Outcome k o) = (a : ℕ) × (event.Test k o a ≡ e)
Brings owner es e (fact.Pair d u) = (c : Cell) × (a : ℕ) × Ends es e d u c a
Brings owner es e (fact.PUse d u o) = (k a : ℕ) × Tested owner es e d u o k a

pub covered_push : (owner : ℕ → Option ℕ) (es : List Event) (e : Event) (f : Fact) → Covered owner (es ++ e ∷ []) f ↔ (Covered owner es f ⊎ Brings owner es e f)
covered_push owner es e (fact.Block k) =
    (λ p. either (λ a. inl (p.0, a)) (λ b. inr b.1) (places es e p.0 (event.Block k) p.1), λ s. either (λ p. (p.0, earlier es e p.0 (event.Block k) p.1)) (λ q. (length es, subst (λ (x : Event). At (es ++ e ∷ []) (length es) x) (sym q) (newest es e))) s)
covered_push owner es e (fact.Outcome k o) =
    (λ p. either (λ a. inl (p.0, p.1, a)) (λ b. inr (p.1, b.1)) (places es e p.0 (event.Test k o p.1) p.2), λ s. either (λ p. (p.0, p.1, earlier es e p.0 (event.Test k o p.1) p.2)) (λ q. (length es, q.0, subst (λ (x : Event). At (es ++ e ∷ []) (length es) x) (sym q.1) (newest es e))) s)
covered_push owner es e (fact.Pair d u) = pair_push es e d u
covered_push owner es e (fact.PUse d u o) = puse_push owner es e d u o

-- NO EVENT YET

pub covered_none : (owner : ℕ → Option ℕ) (f : Fact) → Covered owner [] f → ⊥
covered_none owner (fact.Block k) p = absurd (omega (arith, within [] p.0 (event.Block k) p.1))
covered_none owner (fact.Outcome k o) p = absurd (omega (arith, within [] p.0 (event.Test k o p.1) p.2))
covered_none owner (fact.Pair d u) p = absurd (omega (arith, within [] p.3 (event.Use u p.0 p.1) p.4.used))
covered_none owner (fact.PUse d u o) p = absurd (omega (arith, within [] p.2.3 (event.Use u p.2.0 p.2.1) p.2.5.used))

pub pending_none : (owner : ℕ → Option ℕ) (k a d u : ℕ) → IsPending owner [] k a d u → ⊥
pending_none owner k a d u p = absurd (omega (arith, within [] p.1.2 (event.Use u p.1.0 a) p.1.3.used))

pub last_none : (c : Cell) → LastIs [] c None
last_none c = λ i d h. absurd (omega (arith, within [] i (event.Def d c) h))

-- DEFINITIONS ARE FREE

pub def_free : (owner : ℕ → Option ℕ) (es : List Event) (d : ℕ) (c : Cell) → IsFree owner es (event.Def d c)
def_free owner es d c = record {
  facts = λ f p. either (λ a. a) (λ b. absurd (no_fact f b)) ((covered_push owner es (event.Def d c) f).0 p);
  pending = λ k a e u p. either (λ w. w.0) (λ w. absurd (no_use e u w.1.0 a w.1.1)) ((pending_push owner es (event.Def d c) k a e u).0 p);
}
  where
    no_use : (e u : ℕ) (c' : Cell) (a : ℕ) → Ends es (event.Def d c) e u c' a → ⊥
    no_use e u c' a n = let q : event.Def d c ≡ event.Use u c' a = n.is in absurd (cc)

    no_fact : (f : Fact) → Brings owner es (event.Def d c) f → ⊥
    no_fact (fact.Block k) b = absurd (cc)
    no_fact (fact.Outcome k o) b = let q : event.Test k o b.0 ≡ event.Def d c = b.1 in absurd (cc)
    no_fact (fact.Pair e u) b = no_use e u b.0 b.1 b.2
    no_fact (fact.PUse e u o) b = let q : event.Test b.0 o b.1 ≡ event.Def d c = b.2.is in absurd (cc)
