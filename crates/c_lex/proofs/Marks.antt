-- Marks of rows that are all closed.
use Rattle.std.proofs.Common.{◌≡◌, ℕ, zero, suc, ◌-◌, List, [], ◌∷◌, ◌++◌, take, Bool, false, refl, ap, ◌∙◌, arith}
use Rattle.std.specs.Prelude.{replicate}

none_left : (k d : ℕ) → d ≡ 0 → take zero (replicate k false) ++ replicate d false ≡ []
none_left zero d e = rw e refl
none_left (suc k) d e = rw e refl

fill : (n k d : ℕ) → d ≡ n - k → take n (replicate k false) ++ replicate d false ≡ replicate n false
fill zero k d e = none_left k d (omega (arith, e))
fill (suc n) zero d e = let s : d ≡ suc n = omega (arith, e) in rw s refl
fill (suc n) (suc k) d e = ap (λ l. false ∷ l) (fill n k d (omega (arith, e)))

-- marks that are all closed, made as many as there are rows
pub all_closed : (n k d : ℕ) (h more : List Bool) → h ≡ replicate k false → d ≡ n - k → more ≡ take n h ++ replicate d false → more ≡ replicate n false
all_closed n k d h more e f g = g ∙ ap (λ l. take n l ++ replicate d false) e ∙ fill n k d f
