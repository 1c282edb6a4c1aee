-- Which part of a tree holds another one, and which number it has among its like.
use Rattle.std.specs.Prelude.{◌≡◌, ℕ, suc, ◌&&◌, List, [], ◌∷◌, filter, nat_eq, Bool, true, false, Option, Some, None, if◌then◌else◌}
use Rattle.c_ordered.specs.Trees.{Tree, Path, at, Standing}

-- what stands at the first path is what stands at the second one, or holds it
abbrev pub leads_into : Path → Path → Bool
leads_into [] q = true
leads_into (i ∷ p) [] = false
leads_into (i ∷ p) (j ∷ q) = nat_eq i j && leads_into p q

abbrev pub or_else : {X : Type 0} → Option X → Option X → Option X
or_else None o = o
or_else (Some x) o = Some x

-- the last of these parts that is the one at q or holds it, with its number, where they are numbered from n on
abbrev pub last_into : {A : Type 0} → ℕ → List (Standing A) → Path → Option (ℕ × A)
last_into n [] q = None
last_into n (s ∷ ss) q = or_else (last_into (suc n) ss q) (if leads_into s.path q then Some (n, s.part) else None)

abbrev pub passing : {A : Type 0} → (A → Bool) → List (Standing A) → List (Standing A)
passing test ss = filter (λ s. test s.part) ss

-- the innermost part that passes the test and is the one at q or holds it, with its number among those that pass, counted from 1: in
-- preorder a part stands behind all that hold it, so it is the last one
abbrev pub holder : {A : Type 0} → (A → Bool) → List (Standing A) → Path → Option (ℕ × A)
holder test ss q = last_into 1 (passing test ss) q

-- the innermost part that passes and is the one at q or holds it: each other such part holds it; or there is none
abbrev pub IsInnermost : {A : Type 0} → (A → Bool) → Tree A → Path → Option (ℕ × A) → Type 0
IsInnermost {A} test t q None = (p : Path) (x : A) → at p t ≡ Some x → test x ≡ true → leads_into p q ≡ true → ⊥
IsInnermost {A} test t q (Some h) =
    (p : Path) × (at p t ≡ Some h.1) × (test h.1 ≡ true) × (leads_into p q ≡ true)
    × ((r : Path) (x : A) → at r t ≡ Some x → test x ≡ true → leads_into r q ≡ true → leads_into r p ≡ true)
