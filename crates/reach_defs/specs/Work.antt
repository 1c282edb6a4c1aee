-- The rows that wait to be taken.
use Rattle.std.specs.Prelude.{ℕ, ◌≡◌, ◌==◌, ◌⊎◌, ◌++◌, List, [], ◌∷◌, Bool, false, Contains, count_by, cond, refl}
use Rattle.std.specs.Coded.{Coded, code_by, coded×, coded_ℕ, coded_list}
use Rattle.std.proofs.Math.ListN.{get_or}

-- how many rows there are, and those that wait
pub record Work : Type 0 where
  pub rows : ℕ
  pub queue : List ℕ

-- how it is stored
abbrev pub work_code : Coded Work
work_code = code_by (ℕ × List ℕ) (coded× coded_ℕ (coded_list coded_ℕ)) (λ w. (w.rows, w.queue)) (λ p. record { rows = p.0; queue = p.1 }) (λ _. refl)

-- a row waits once where its flag is set, and else not at all
abbrev pub IsMarked : List ℕ → List Bool → Type 0
IsMarked queue waiting = (row : ℕ) → count_by (λ x. x == row) queue ≡ cond (get_or waiting row false) 1 0

-- a number is put behind the others, unless it is there
abbrev pub Puts : List ℕ → ℕ → List ℕ → Type 0
Puts old row new = (Contains old row × (new ≡ old)) ⊎ ((Contains old row → ⊥) × (new ≡ old ++ row ∷ []))
