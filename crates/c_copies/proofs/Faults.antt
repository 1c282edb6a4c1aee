-- When there is a copy, and which fault comes where there is none.
use Rattle.std.proofs.Common.{◌≡◌, ◌⊎◌, inl, inr, length, Option, Some, None, Result, Ok, Err, true, false, refl, sym, ap, ◌∙◌, subst, arith}
use Rattle.std.proofs.lemmas.Bool.{false≢true}
use Rattle.std.proofs.lemmas.Bool.Decides.{nat_tests}
use Rattle.c_store.specs.declared.value.Pointer.{Pointer}
use Rattle.c_store.specs.declared.value.Fault.{Fault}
use Rattle.c_store.specs.declared.value.Fault.TheVariants.{Dangling, OutOfBounds, WriteLiteral}
use Rattle.c_store.specs.Cells.{Slot, Cells, is_inside, find, element_of}
use Rattle.c_store.specs.Copies.{copy_of}
use Rattle.c_copies.specs.Laws.{IsWithin, IsThere, IsMissing, MayCopy, MayNotCopy, CopiesAreMade, CopiesFail}
use Rattle.c_copies.proofs.Lists.{by_test}
use Rattle.c_copies.proofs.Made.{store_with, no_store}

-- ---- one element

within : (p : Pointer) (s : Slot) → is_inside p (length s.cells) ≡ true → IsWithin p s
within p s t = (grind (arith, nat_tests), grind (arith, nat_tests), grind (arith, nat_tests))

inside : (p : Pointer) (s : Slot) → IsWithin p s → is_inside p (length s.cells) ≡ true
inside p s (a, b, e) = grind (arith, nat_tests)

outside : (p : Pointer) (s : Slot) → (IsWithin p s → ⊥) → is_inside p (length s.cells) ≡ false
outside p s f = by_test (is_inside p (length s.cells)) (λ t. absurd (f (within p s t))) (λ t. t)

there : (c : Cells) (p : Pointer) (s : Slot) → IsThere c p s → element_of c.live p ≡ Ok s
there c p s h = rw (h.0, inside p s h.1) refl

missing : (c : Cells) (p : Pointer) (f : Fault) → IsMissing c p f → element_of c.live p ≡ Err f
missing c p f (inl h) = rw (h.0, h.1) refl
missing c p f (inr h) = rw (h.1, h.2, outside p h.0 h.3) refl

looked_at : (c : Cells) (p : Pointer) (o : Option Slot) → find p.instance c.live ≡ o → ((s : Slot) × IsThere c p s) ⊎ ((f : Fault) × IsMissing c p f)
looked_at c p None e = inr (Dangling, inl (refl, e))
looked_at c p (Some s) e = by_test (is_inside p (length s.cells)) (λ t. inl (s, (e, within p s t))) (λ t. inr (OutOfBounds, inr (s, refl, e, λ h. absurd (false≢true (sym t ∙ inside p s h)))))

looked : (c : Cells) (p : Pointer) → ((s : Slot) × IsThere c p s) ⊎ ((f : Fault) × IsMissing c p f)
looked c p = looked_at c p (find p.instance c.live) refl

-- ---- both

either : {A B P : Type 0} → (A → P) → (B → P) → A ⊎ B → P
either f g (inl a) = f a
either f g (inr b) = g b

pub is_made : (c : Cells) (p q : Pointer) → (m : MayCopy c p q) → copy_of c p q ≡ Ok (store_with c m.0 p m.1 q)
is_made c p q m = rw (there c p m.0 m.2, there c q m.1 m.3, m.4) refl

is_not_made : (c : Cells) (p q : Pointer) (f : Fault) → MayNotCopy c p q f → copy_of c p q ≡ Err f
is_not_made c p q f (inl h) = rw (missing c p f h) refl
is_not_made c p q f (inr (inl h)) = rw (there c p h.0 h.1, missing c q f h.2) refl
is_not_made c p q f (inr (inr h)) = rw (there c p h.0 h.2, there c q h.1 h.3, h.4, h.5) refl

abbrev Decided : Cells → Pointer → Pointer → Type 0
Decided c p q = MayCopy c p q ⊎ ((f : Fault) × MayNotCopy c p q f)

decided : (c : Cells) (p q : Pointer) → Decided c p q
decided c p q = either
    (λ s. either
    (λ t. by_test t.0.writable
    (λ w. inl (s.0, t.0, s.1, t.1, w))
    (λ w. inr (WriteLiteral, inr (inr (s.0, t.0, s.1, t.1, w, refl)))))
    (λ g. inr (g.0, inr (inl (s.0, s.1, g.1))))
    (looked c q))
    (λ g. inr (g.0, inl g.1))
    (looked c p)

abbrev fault_of : Fault → Result Cells Fault → Fault
fault_of f (Ok c) = f
fault_of f (Err g) = g

pub copies_are_made : CopiesAreMade
copies_are_made c p q = (
  λ h. either (λ m. m) (λ g. no_store g.0 h.0 (sym (is_not_made c p q g.0 g.1) ∙ h.1)) (decided c p q),
  λ m. (store_with c m.0 p m.1 q, is_made c p q m),
)

pub copies_fail : CopiesFail
copies_fail c p q f = (
  λ e. either
      (λ m. no_store f (store_with c m.0 p m.1 q) (sym e ∙ is_made c p q m))
      (λ g. subst (MayNotCopy c p q) (ap (fault_of f) (sym (is_not_made c p q g.0 g.1) ∙ e)) g.1)
      (decided c p q),
  is_not_made c p q f,
)
