-- The holder of a part is the innermost part that passes and holds it, and none if no such part does.
use Rattle.std.proofs.Common.{◌≡◌, ℕ, suc, ◌&&◌, List, [], ◌∷◌, nat_eq, Bool, true, false, cond, Option, Some, None, if◌then◌else◌, refl, ap, sym, subst, ◌∙◌, inl, inr, true≢false, arith}
use Rattle.std.proofs.lemmas.Bool.Decides.{nat_tests}
use Rattle.std.specs.List.{AllByRecursion}
use Rattle.c_ordered.specs.Trees.{Tree, Path, at, IsBefore, Standing, preorder, AreInOrder, IsIn}
use Rattle.c_ordered.specs.Holders.{leads_into, or_else, last_into, passing, holder, IsInnermost}
use Rattle.c_ordered.proofs.Preorder.{in_order, in_order_kept, leads, listed}

-- ---- paths

both_true : (a b : Bool) → (a && b) ≡ true → (a ≡ true) × (b ≡ true)
both_true true b h = (refl, h)
both_true false b h = cc

leads_to_itself : (p : Path) → leads_into p p ≡ true
leads_to_itself [] = refl
leads_to_itself (i ∷ p) = let e : nat_eq i i ≡ true = grind (arith, nat_tests) in ap (λ b. b && leads_into p p) e ∙ leads_to_itself p

-- of two that lead to one part, the first one in preorder leads to the second one
first_leads : (p r q : Path) → IsBefore p r → leads_into p q ≡ true → leads_into r q ≡ true → leads_into p r ≡ true
first_leads [] r q b x y = refl
first_leads (i ∷ p) [] q b x y = absurd b
first_leads (i ∷ p) (j ∷ r) [] b x y = cc
first_leads (i ∷ p) (j ∷ r) (k ∷ q) (inl b) x y =
    let e = (both_true (nat_eq i k) (leads_into p q) x).0 in
    let f = (both_true (nat_eq j k) (leads_into r q) y).0 in
    absurd (grind (arith, nat_tests, b, e, f))
first_leads (i ∷ p) (j ∷ r) (k ∷ q) (inr b) x y =
    let same = b.0 in
    let e : nat_eq i j ≡ true = grind (arith, nat_tests, same) in
    ap (λ c. c && leads_into p r) e ∙ first_leads p r q b.1 (both_true (nat_eq i k) (leads_into p q) x).1 (both_true (nat_eq j k) (leads_into r q) y).1

-- ---- the last one of a list in order

module _ {A : Type 0} where
  -- what a search in these parts finds
  abbrev IsLast : List (Standing A) → Path → Option (ℕ × A) → Type 0
  IsLast ss q None = (r : Standing A) → IsIn r ss → leads_into r.path q ≡ true → ⊥
  IsLast ss q (Some h) = (s : Standing A) × IsIn s ss × (s.part ≡ h.1) × (leads_into s.path q ≡ true) × ((r : Standing A) → IsIn r ss → leads_into r.path q ≡ true → leads_into r.path s.path ≡ true)

  holds_in : (P : Standing A → Type 0) (ss : List (Standing A)) (s : Standing A) → AllByRecursion P ss → IsIn s ss → P s
  holds_in P [] s h k = absurd k
  holds_in P (r ∷ ss) s h (inl e) = subst P (sym e) h.0
  holds_in P (r ∷ ss) s h (inr k) = holds_in P ss s h.1 k

  last_found : (n : ℕ) (ss : List (Standing A)) (q : Path) → AreInOrder ss → IsLast ss q (last_into n ss q)
  last_found n [] q o = λ r k e. k
  last_found n (s ∷ ss) q o = deeper (last_into (suc n) ss q) (last_found (suc n) ss q o.1)
    where
      found_here : (b : Bool) → leads_into s.path q ≡ b → ((r : Standing A) → IsIn r ss → leads_into r.path q ≡ true → ⊥) → IsLast (s ∷ ss) q (if b then Some (n, s.part) else None)
      found_here true e none = (s, inl refl, refl, e, λ r k x. first_or_none r k x)
        where
          first_or_none : (r : Standing A) → IsIn r (s ∷ ss) → leads_into r.path q ≡ true → leads_into r.path s.path ≡ true
          first_or_none r (inl k) x = subst (λ p. leads_into p s.path ≡ true) (sym (ap (λ z. z.path) k)) (leads_to_itself s.path)
          first_or_none r (inr k) x = absurd (none r k x)
      found_here false e none = λ r k x. none_at_all r k x
        where
          none_at_all : (r : Standing A) → IsIn r (s ∷ ss) → leads_into r.path q ≡ true → ⊥
          none_at_all r (inl k) x = true≢false (sym x ∙ (ap (λ z. leads_into z.path q) k ∙ e))
          none_at_all r (inr k) x = none r k x

      deeper : (found : Option (ℕ × A)) → IsLast ss q found → IsLast (s ∷ ss) q (or_else found (if leads_into s.path q then Some (n, s.part) else None))
      deeper None h = found_here (leads_into s.path q) refl h
      deeper (Some f) h = (h.0, inr h.1, h.2, h.3, λ r k x. before_or_in r k x)
        where
          before_or_in : (r : Standing A) → IsIn r (s ∷ ss) → leads_into r.path q ≡ true → leads_into r.path h.0.path ≡ true
          before_or_in r (inl k) x =
              let here : leads_into s.path q ≡ true = subst (λ z. leads_into z.path q ≡ true) k x in
              subst (λ z. leads_into z.path h.0.path ≡ true) (sym k) (first_leads s.path h.0.path q (holds_in (λ z. IsBefore s.path z.path) ss h.0 o.0 h.1) here h.3)
          before_or_in r (inr k) x = h.4 r k x

  -- ---- those that pass

  kept_in : (test : A → Bool) (ss : List (Standing A)) (s : Standing A) → IsIn s ss → test s.part ≡ true → IsIn s (passing test ss)
  kept_in test [] s k e = k
  kept_in test (r ∷ ss) s (inl k) e = subst (λ b. IsIn s (cond b (r ∷ passing test ss) (passing test ss))) (sym (ap (λ z. test z.part) (sym k) ∙ e)) (inl k)
  kept_in test (r ∷ ss) s (inr k) e = by (test r.part) (kept_in test ss s k e)
    where
      by : (b : Bool) → IsIn s (passing test ss) → IsIn s (cond b (r ∷ passing test ss) (passing test ss))
      by true h = inr h
      by false h = h

  passes : (test : A → Bool) (ss : List (Standing A)) (s : Standing A) → IsIn s (passing test ss) → (test s.part ≡ true) × IsIn s ss
  passes test [] s k = absurd k
  passes test (r ∷ ss) s k = by (test r.part) refl k (passes test ss s)
    where
      by : (b : Bool) → test r.part ≡ b → IsIn s (cond b (r ∷ passing test ss) (passing test ss)) → (IsIn s (passing test ss) → (test s.part ≡ true) × IsIn s ss) → (test s.part ≡ true) × IsIn s (r ∷ ss)
      by true e (inl j) f = (ap (λ z. test z.part) j ∙ e, inl j)
      by true e (inr j) f = ((f j).0, inr (f j).1)
      by false e j f = ((f j).0, inr (f j).1)

  pub innermost : (test : A → Bool) (t : Tree A) (q : Path) → IsInnermost test t q (holder test (preorder t) q)
  innermost test t q = by (holder test (preorder t) q) (last_found 1 (passing test (preorder t)) q (in_order_kept (λ s. test s.part) (preorder t) (in_order t)))
    where
      by : (found : Option (ℕ × A)) → IsLast (passing test (preorder t)) q found → IsInnermost test t q found
      by None h = λ p x e y z. h (record { path = p; part = x }) (kept_in test (preorder t) (record { path = p; part = x }) (listed p t x e) y) z
      by (Some f) h =
          let s = h.0 in
          let k = passes test (preorder t) s h.1 in
          let same = h.2 in
          let there : at s.path t ≡ Some s.part = holds_in (λ r. at r.path t ≡ Some r.part) (preorder t) s (leads t) k.1 in
          (s.path, there ∙ ap (λ x. Some x) same, sym (ap test same) ∙ k.0, h.3, λ p x e y z. h.4 (record { path = p; part = x }) (kept_in test (preorder t) (record { path = p; part = x }) (listed p t x e) y) z)
