-- Pointers, a star at a time.
use Rattle.std.proofs.Common.{◌≡◌, ℕ, zero, suc, ◌+◌, ◌<◌, List, [], ◌∷◌, length, drop, Option, option_map, refl, arith, add-one}
use Rattle.c_syntax.specs.Shape.{TypeOf, pointer}
use Rattle.c_syntax.specs.declared.tree.Star.{Star}
use Rattle.c_tree.specs.Parts.{pointed}

next_star : (xs : List Star) (i : ℕ) (k : Option TypeOf) → i < length xs → pointed (drop (suc i) xs) (option_map pointer k) ≡ pointed (drop i xs) k
next_star [] i k h = absurd (omega (arith, h))
next_star (x ∷ xs) zero k h = refl
next_star (x ∷ xs) (suc i) k h = next_star xs i k (omega (arith, h))

pub pointed_next : (xs : List Star) (i : ℕ) (k l : Option TypeOf) → i < length xs → l ≡ option_map pointer k → pointed (drop (i + 1) xs) l ≡ pointed (drop i xs) k
pointed_next xs i k l h e = rw (add-one, e) (next_star xs i k h)
