-- The test says what positions show.
use Rattle.std.proofs.Common.{◌≡◌, ℕ, Bool, true, false, List, [], ◌∷◌, ◌++◌, Option, Some, None, refl, sym, ap, ◌∙◌, subst, inl, inr, reverse}
use Rattle.std.specs.Prelude.{◌↔◌, ◌⊎◌, ◌&&◌, ◌||◌, not, nat_eq, IsTrue}
use Rattle.std.proofs.lemmas.List.{reverse-reverse}
use Rattle.c_events.specs.declared.events.Cell.{Cell}
use Rattle.c_events.specs.declared.events.Event.{Event}
use Rattle.c_events.specs.declared.events.Event.TheVariants as event
use Rattle.atac_facts.specs.declared.fact.Fact.{Fact}
use Rattle.atac_facts.specs.declared.fact.Fact.TheVariants as fact
use Rattle.cover_parts.specs.Covered.{Covered, IsPending, LastIs}
use Rattle.cover_parts.proofs.Cases.{either}
use Rattle.cover_parts.proofs.Events.{Ends, Passes, Tested, Brings, pending_push, covered_push, covered_none, pending_none}
use Rattle.cover_law.specs.Covers.{is_number, last_of, joins_in, tests, waits, brings, shows, covers}
use Rattle.cover_law.proofs.Tests.{both, make_both, one_of, make_first, make_second, no, refused, make_not, same, make_same, numbered, make_numbered}
use Rattle.cover_law.proofs.Lasts.{later, is_last, make_last, joined, make_joined}

-- ---- pairs that wait

tested : (e : Event) (k o a : ℕ) → event.Test k o a ≡ e → IsTrue (tests e k a)
tested (event.Test j p b) k o a q = let i : k ≡ j = cc in let l : a ≡ b = cc in make_both (nat_eq k j) (nat_eq a b) (make_same k j i) (make_same a b l)
tested (event.Block j) k o a q = absurd (cc)
tested (event.Def d c) k o a q = absurd (cc)
tested (event.Use v c b) k o a q = absurd (cc)

is_test : (e : Event) (k a : ℕ) → IsTrue (tests e k a) → (o : ℕ) × (event.Test k o a ≡ e)
is_test (event.Test j p b) k a h =
    let q = both (nat_eq k j) (nat_eq a b) h in
    (p, ap (λ x. event.Test x p a) (same k j q.0) ∙ ap (λ x. event.Test j p x) (same a b q.1))
is_test (event.Block j) k a h = absurd (no h)
is_test (event.Def d c) k a h = absurd (no h)
is_test (event.Use v c b) k a h = absurd (no h)

module _ (owner : ℕ → Option ℕ) where
  waiting : (es : List Event) (k a d u : ℕ) → IsTrue (waits owner es k a d u) → IsPending owner (reverse es) k a d u
  waiting [] k a d u h = absurd (no h)
  waiting (e ∷ es) k a d u h =
      subst (λ r. IsPending owner r k a d u) (later e es)
      ((pending_push owner (reverse es) e k a d u).1
      (either
      (λ x. let p = both (waits owner es k a d u) (not (tests e k a)) x in inl (waiting es k a d u p.0, λ o q. refused (tests e k a) p.1 (tested e k o a q)))
      (λ x. let p = both (is_number k (owner u)) (joins_in es e a d u) x in inr (numbered k (owner u) p.0, joined es e a d u p.1))
      (one_of (waits owner es k a d u && not (tests e k a)) (is_number k (owner u) && joins_in es e a d u) h)))

  make_waiting : (es : List Event) (k a d u : ℕ) → IsPending owner (reverse es) k a d u → IsTrue (waits owner es k a d u)
  make_waiting [] k a d u p = absurd (pending_none owner k a d u p)
  make_waiting (e ∷ es) k a d u p =
      either
      (λ x. make_first (waits owner es k a d u && not (tests e k a)) (is_number k (owner u) && joins_in es e a d u)
      (make_both (waits owner es k a d u) (not (tests e k a)) (make_waiting es k a d u x.0) (make_not (tests e k a) (λ h. let t = is_test e k a h in x.1 t.0 t.1))))
      (λ x. make_second (waits owner es k a d u && not (tests e k a)) (is_number k (owner u) && joins_in es e a d u)
      (make_both (is_number k (owner u)) (joins_in es e a d u) (make_numbered k (owner u) x.0) (make_joined es e a d u x.1.0 x.1.1)))
      ((pending_push owner (reverse es) e k a d u).0 (subst (λ r. IsPending owner r k a d u) (sym (later e es)) p))

  -- ---- facts

  brought : (es : List Event) (e : Event) (f : Fact) → IsTrue (brings owner es e f) → Brings owner (reverse es) e f
  brought es (event.Block j) (fact.Block k) h = ap event.Block (same k j h)
  brought es (event.Test j p a) (fact.Outcome k o) h =
      let q = both (nat_eq k j) (nat_eq o p) h in
      (a, ap (λ x. event.Test x o a) (same k j q.0) ∙ ap (λ x. event.Test j x a) (same o p q.1))
  brought es (event.Use v c a) (fact.Pair d u) h =
      let q = both (nat_eq u v) (is_number d (last_of c es)) h in
      (c, a, record { is = ap (λ x. event.Use x c a) (sym (same u v q.0)); last = is_last c es d q.1 })
  brought es (event.Test k p a) (fact.PUse d u o) h =
      let q = both (nat_eq o p) (waits owner es k a d u) h in
      (k, a, record { is = ap (λ x. event.Test k x a) (same o p q.0); waited = waiting es k a d u q.1 })
  brought es (event.Block j) (fact.Outcome k o) h = absurd (no h)
  brought es (event.Block j) (fact.Pair d u) h = absurd (no h)
  brought es (event.Block j) (fact.PUse d u o) h = absurd (no h)
  brought es (event.Def x c) (fact.Block k) h = absurd (no h)
  brought es (event.Def x c) (fact.Outcome k o) h = absurd (no h)
  brought es (event.Def x c) (fact.Pair d u) h = absurd (no h)
  brought es (event.Def x c) (fact.PUse d u o) h = absurd (no h)
  brought es (event.Use v c a) (fact.Block k) h = absurd (no h)
  brought es (event.Use v c a) (fact.Outcome k o) h = absurd (no h)
  brought es (event.Use v c a) (fact.PUse d u o) h = absurd (no h)
  brought es (event.Test j p a) (fact.Block k) h = absurd (no h)
  brought es (event.Test j p a) (fact.Pair d u) h = absurd (no h)

  make_brought : (es : List Event) (e : Event) (f : Fact) → Brings owner (reverse es) e f → IsTrue (brings owner es e f)
  make_brought es (event.Block j) (fact.Block k) q = let i : k ≡ j = cc in make_same k j i
  make_brought es (event.Test j p a) (fact.Outcome k o) b =
      let q : event.Test k o b.0 ≡ event.Test j p a = b.1 in
      let i : k ≡ j = cc in
      let l : o ≡ p = cc in
      make_both (nat_eq k j) (nat_eq o p) (make_same k j i) (make_same o p l)
  make_brought es (event.Use v x b) (fact.Pair d u) n =
      let q : event.Use v x b ≡ event.Use u n.0 n.1 = n.2.is in
      let i : u ≡ v = cc in
      let l : n.0 ≡ x = cc in
      make_both (nat_eq u v) (is_number d (last_of x es)) (make_same u v i) (make_last x es d (subst (λ y. LastIs (reverse es) y (Some d)) l n.2.last))
  make_brought es (event.Test j p b) (fact.PUse d u o) t =
      let q : event.Test t.0 o t.1 ≡ event.Test j p b = t.2.is in
      let i : o ≡ p = cc in
      let l : t.0 ≡ j = cc in
      let m : t.1 ≡ b = cc in
      make_both (nat_eq o p) (waits owner es j b d u) (make_same o p i)
      (subst (λ x. IsTrue (waits owner es j x d u)) m (subst (λ x. IsTrue (waits owner es x t.1 d u)) l (make_waiting es t.0 t.1 d u t.2.waited)))
  make_brought es (event.Block j) (fact.Outcome k o) b = absurd (let q : event.Test k o b.0 ≡ event.Block j = b.1 in cc)
  make_brought es (event.Block j) (fact.Pair d u) n = absurd (let q : event.Block j ≡ event.Use u n.0 n.1 = n.2.is in cc)
  make_brought es (event.Block j) (fact.PUse d u o) t = absurd (let q : event.Test t.0 o t.1 ≡ event.Block j = t.2.is in cc)
  make_brought es (event.Def x c) (fact.Block k) q = absurd (cc)
  make_brought es (event.Def x c) (fact.Outcome k o) b = absurd (let q : event.Test k o b.0 ≡ event.Def x c = b.1 in cc)
  make_brought es (event.Def x c) (fact.Pair d u) n = absurd (let q : event.Def x c ≡ event.Use u n.0 n.1 = n.2.is in cc)
  make_brought es (event.Def x c) (fact.PUse d u o) t = absurd (let q : event.Test t.0 o t.1 ≡ event.Def x c = t.2.is in cc)
  make_brought es (event.Use v c a) (fact.Block k) q = absurd (cc)
  make_brought es (event.Use v c a) (fact.Outcome k o) b = absurd (let q : event.Test k o b.0 ≡ event.Use v c a = b.1 in cc)
  make_brought es (event.Use v c a) (fact.PUse d u o) t = absurd (let q : event.Test t.0 o t.1 ≡ event.Use v c a = t.2.is in cc)
  make_brought es (event.Test j p a) (fact.Block k) q = absurd (cc)
  make_brought es (event.Test j p a) (fact.Pair d u) n = absurd (let q : event.Test j p a ≡ event.Use u n.0 n.1 = n.2.is in cc)

  shown : (es : List Event) (f : Fact) → IsTrue (shows owner es f) → Covered owner (reverse es) f
  shown [] f h = absurd (no h)
  shown (e ∷ es) f h =
      subst (λ r. Covered owner r f) (later e es)
      ((covered_push owner (reverse es) e f).1
      (either (λ x. inl (shown es f x)) (λ x. inr (brought es e f x)) (one_of (shows owner es f) (brings owner es e f) h)))

  make_shown : (es : List Event) (f : Fact) → Covered owner (reverse es) f → IsTrue (shows owner es f)
  make_shown [] f c = absurd (covered_none owner f c)
  make_shown (e ∷ es) f c =
      either (λ x. make_first (shows owner es f) (brings owner es e f) (make_shown es f x)) (λ x. make_second (shows owner es f) (brings owner es e f) (make_brought es e f x))
      ((covered_push owner (reverse es) e f).0 (subst (λ r. Covered owner r f) (sym (later e es)) c))

pub covered_law : (owner : ℕ → Option ℕ) (events : List Event) (f : Fact) → IsTrue (covers owner events f) ↔ Covered owner events f
covered_law owner events f = (
  λ h. subst (λ r. Covered owner r f) (reverse-reverse events) (shown owner (reverse events) f h),
  λ c. make_shown owner (reverse events) f (subst (λ r. Covered owner r f) (sym (reverse-reverse events)) c),
)

-- ---- the same owners

module _ (o p : ℕ → Option ℕ) (same_owner : (u : ℕ) → o u ≡ p u) where
  same_waits : (es : List Event) (k a d u : ℕ) → waits o es k a d u ≡ waits p es k a d u
  same_waits [] k a d u = refl
  same_waits (e ∷ es) k a d u =
      ap (λ b. (b && not (tests e k a)) || (is_number k (o u) && joins_in es e a d u)) (same_waits es k a d u)
      ∙ ap (λ w. (waits p es k a d u && not (tests e k a)) || (is_number k w && joins_in es e a d u)) (same_owner u)

  same_brings : (es : List Event) (e : Event) (f : Fact) → brings o es e f ≡ brings p es e f
  same_brings es (event.Test k q a) (fact.PUse d u x) = ap (λ b. nat_eq x q && b) (same_waits es k a d u)
  same_brings es (event.Test j q a) (fact.Block k) = refl
  same_brings es (event.Test j q a) (fact.Outcome k x) = refl
  same_brings es (event.Test j q a) (fact.Pair d u) = refl
  same_brings es (event.Block j) (fact.Block k) = refl
  same_brings es (event.Block j) (fact.Outcome k x) = refl
  same_brings es (event.Block j) (fact.Pair d u) = refl
  same_brings es (event.Block j) (fact.PUse d u x) = refl
  same_brings es (event.Def x c) f = refl
  same_brings es (event.Use v c a) (fact.Block k) = refl
  same_brings es (event.Use v c a) (fact.Outcome k x) = refl
  same_brings es (event.Use v c a) (fact.Pair d u) = refl
  same_brings es (event.Use v c a) (fact.PUse d u x) = refl

  same_shows : (es : List Event) (f : Fact) → shows o es f ≡ shows p es f
  same_shows [] f = refl
  same_shows (e ∷ es) f = ap (λ b. b || brings o es e f) (same_shows es f) ∙ ap (λ b. shows p es f || b) (same_brings es e f)

pub same_owners : (o p : ℕ → Option ℕ) → ((u : ℕ) → o u ≡ p u) → (events : List Event) (f : Fact) → covers o events f ≡ covers p events f
same_owners o p same_owner events f = same_shows o p same_owner (reverse events) f
