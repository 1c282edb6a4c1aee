-- Lists cut at an element; and tests and options.
use Rattle.std.proofs.Common.{ℕ, List, [], ◌∷◌, ◌++◌, ◌≡◌, ◌⊎◌, inl, inr, refl, sym, ap, ◌∙◌, arith, Option, Some, None, Bool, true, false, length}
use Rattle.std.specs.Prelude.{nat_eq, if◌then◌else◌}
use Rattle.std.proofs.lemmas.Bool.{true≢false}
use Rattle.std.proofs.lemmas.Bool.Decides.{nat_tests}
use Rattle.c_meaning.specs.State.{or_else, tail_of}

abbrev first : {A : Type 0} → A → List A → A
first a [] = a
first a (x ∷ xs) = x

pub heads : {A : Type 0} (x y : A) (xs ys : List A) → x ∷ xs ≡ y ∷ ys → x ≡ y
heads x y xs ys e = ap (first x) e

pub tails : {A : Type 0} (x y : A) (xs ys : List A) → x ∷ xs ≡ y ∷ ys → xs ≡ ys
tails x y xs ys e = ap tail_of e

pub longer : {A : Type 0} (p q : List A) (e : A) → [] ≡ p ++ e ∷ q → ⊥
longer [] q e h = (let l = ap length h in omega (arith, l))
longer (x ∷ p) q e h = (let l = ap length h in omega (arith, l))

pub snoc_split : {A : Type 0} (ds : List A) (x : A) (p q : List A) (e : A) → ds ++ x ∷ [] ≡ p ++ e ∷ q → ((p ≡ ds) × (e ≡ x)) ⊎ ((r : List A) × (ds ≡ p ++ e ∷ r))
snoc_split [] x [] q e h = inl (refl, sym (heads x e [] q h))
snoc_split [] x (y ∷ p) q e h = absurd (longer p q e (tails x y [] (p ++ e ∷ q) h))
snoc_split (d ∷ ds) x [] q e h = inr (ds, ap (λ z. z ∷ ds) (heads d e (ds ++ x ∷ []) q h))
snoc_split (d ∷ ds) x (y ∷ p) q e h = elim (snoc_split ds x p q e (tails d y (ds ++ x ∷ []) (p ++ e ∷ q) h)) [
  | inl s ↦ inl (ap (λ z. z ∷ p) (sym (heads d y (ds ++ x ∷ []) (p ++ e ∷ q) h)) ∙ ap (λ z. d ∷ z) s.0, s.1)
  | inr s ↦ inr (s.0, ap (λ z. z ∷ ds) (heads d y (ds ++ x ∷ []) (p ++ e ∷ q) h) ∙ ap (λ z. y ∷ z) s.1)
]

-- a list cut twice: at one place, or one before the other
pub data Cuts {A : Type 0} (p q : List A) (e : A) (s t : List A) (f : A) : Type 0 where
  same : (ps : p ≡ s) (ef : e ≡ f) (qt : q ≡ t) → Cuts p q e s t f
  before : (r : List A) (is : s ≡ p ++ e ∷ r) → Cuts p q e s t f
  behind : (r : List A) (is : p ≡ s ++ f ∷ r) → Cuts p q e s t f

cuts_more : {A : Type 0} (x y : A) (p q : List A) (e : A) (s t : List A) (f : A) → x ≡ y → Cuts p q e s t f → Cuts (x ∷ p) q e (y ∷ s) t f
cuts_more x y p q e s t f h (same ps ef qt) = same (ap (λ z. z ∷ p) h ∙ ap (λ z. y ∷ z) ps) ef qt
cuts_more x y p q e s t f h (before r is) = before r (ap (λ z. z ∷ s) (sym h) ∙ ap (λ z. x ∷ z) is)
cuts_more x y p q e s t f h (behind r is) = behind r (ap (λ z. z ∷ p) h ∙ ap (λ z. y ∷ z) is)

pub two_cuts : {A : Type 0} (p q : List A) (e : A) (s t : List A) (f : A) → p ++ e ∷ q ≡ s ++ f ∷ t → Cuts p q e s t f
two_cuts [] q e [] t f h = same refl (heads e f q t h) (tails e f q t h)
two_cuts [] q e (y ∷ s) t f h = before s (ap (λ z. z ∷ s) (sym (heads e y q (s ++ f ∷ t) h)))
two_cuts (x ∷ p) q e [] t f h = behind p (ap (λ z. z ∷ p) (heads x f (p ++ e ∷ q) t h))
two_cuts (x ∷ p) q e (y ∷ s) t f h = cuts_more x y p q e s t f (heads x y (p ++ e ∷ q) (s ++ f ∷ t) h) (two_cuts p q e s t f (tails x y (p ++ e ∷ q) (s ++ f ∷ t) h))

-- ---- options

abbrev unsome : ℕ → Option ℕ → ℕ
unsome n None = n
unsome n (Some j) = j

abbrev is_some : Option ℕ → Bool
is_some None = false
is_some (Some j) = true

pub some_not : (j : ℕ) → None ≡ Some j → ⊥
some_not j e = true≢false (sym (ap is_some e))

pub some_is : (i j : ℕ) → Some i ≡ Some j → i ≡ j
some_is i j e = ap (unsome 0) e

pub or_assoc : (p q r : Option ℕ) → or_else (or_else p q) r ≡ or_else p (or_else q r)
or_assoc None q r = refl
or_assoc (Some j) q r = refl

pub or_none : (p q : Option ℕ) → or_else p q ≡ None → (p ≡ None) × (q ≡ None)
or_none None q e = (refl, e)
or_none (Some j) q e = absurd (some_not j (sym e))

pub or_some : (p q : Option ℕ) (j : ℕ) → or_else p q ≡ Some j → (p ≡ Some j) ⊎ ((p ≡ None) × (q ≡ Some j))
or_some None q j e = inr (refl, e)
or_some (Some i) q j e = inl e

pub if_some : (b : Bool) (i j : ℕ) (o : Option ℕ) → (if b then Some i else o) ≡ Some j → ((b ≡ true) × (i ≡ j)) ⊎ (o ≡ Some j)
if_some true i j o e = inl (refl, some_is i j e)
if_some false i j o e = inr e

pub if_on : (b : Bool) (o r : Option ℕ) → b ≡ true → (if b then o else r) ≡ o
if_on true o r e = refl
if_on false o r e = absurd (true≢false (sym e))

pub if_off : (b : Bool) (o r : Option ℕ) → b ≡ false → (if b then o else r) ≡ r
if_off true o r e = absurd (true≢false e)
if_off false o r e = refl

pub are_equal : (a b : ℕ) → nat_eq a b ≡ true → a ≡ b
are_equal a b e = grind (arith, nat_tests)

pub same_eq : (a : ℕ) → nat_eq a a ≡ true
same_eq a = grind arith

-- the same front is taken off
pub cancel : {A : Type 0} (xs ys zs : List A) → xs ++ ys ≡ xs ++ zs → ys ≡ zs
cancel [] ys zs e = e
cancel (x ∷ xs) ys zs e = cancel xs ys zs (tails x x (xs ++ ys) (xs ++ zs) e)
