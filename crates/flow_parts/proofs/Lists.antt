-- What lists contain.
use Rattle.std.proofs.Common.{◌≡◌, zero, suc, List, [], ◌∷◌, map, refl, arith}
use Rattle.std.specs.Prelude.{Contains}

pub none_there : {A : Type 0} (x : A) → Contains [] x → ⊥
none_there x c = let l = c.1 in omega arith

pub one_there : {A : Type 0} (y x : A) → Contains (y ∷ []) x → y ≡ x
one_there y x (zero, l, e) = e
one_there y x (suc k, l, e) = absurd (omega (arith, l))

-- what a mapped list contains is mapped
pub record Mapped {A B : Type 0} (f : A → B) (xs : List A) (y : B) : Type 0 where
  pub from : A
  pub there : Contains xs from
  pub is : f from ≡ y

pub mapped : {A B : Type 0} (f : A → B) (xs : List A) (y : B) → Contains (map f xs) y → Mapped f xs y
mapped f [] y c = absurd (none_there y c)
mapped f (x ∷ xs) y (zero, l, e) = record { from = x; there = (0, omega arith, refl); is = e }
mapped f (x ∷ xs) y (suc k, l, e) = let m = mapped f xs y (k, omega (arith, l), e) in record { from = m.from; there = (suc m.there.0, (let n = m.there.1 in omega arith), m.there.2); is = m.is }
