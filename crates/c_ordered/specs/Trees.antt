-- Trees of parts, and their parts in preorder: a part before its own parts, and these in their order. A part's path says where it stands.
use Rattle.std.specs.Prelude.{◌≡◌, ℕ, zero, suc, ◌⊎◌, ◌<◌, List, [], ◌∷◌, ◌++◌, map, Option, Some, None}
use Rattle.std.specs.List.{AllByRecursion}

mutual
  -- a part with its own parts
  pub data Tree (A : Type 0) : Type 0 where
    tree : A → Trees A → Tree A

  pub data Trees (A : Type 0) : Type 0 where
    none : Trees A
    more : Tree A → Trees A → Trees A

-- ---- paths

-- from the root on: which of its parts, counted from 0, then which of that one's parts, and so on
abbrev pub Path : Type 0
Path = List ℕ

abbrev mutual
  -- the part to which a path leads
  pub at : {A : Type 0} → Path → Tree A → Option A
  at [] (tree x ts) = Some x
  at (i ∷ p) (tree x ts) = at_one i p ts

  pub at_one : {A : Type 0} → ℕ → Path → Trees A → Option A
  at_one i p none = None
  at_one zero p (more t ts) = at p t
  at_one (suc i) p (more t ts) = at_one i p ts

-- a part stands before another one in preorder: it holds it, or where their paths part it takes the lower number
abbrev pub IsBefore : Path → Path → Type 0
IsBefore [] [] = ⊥
IsBefore [] (j ∷ q) = Unit
IsBefore (i ∷ p) [] = ⊥
IsBefore (i ∷ p) (j ∷ q) = (i < j) ⊎ ((i ≡ j) × IsBefore p q)

-- ---- preorder

-- a part, where it stands
pub record Standing (A : Type 0) : Type 0 where
  pub path : Path
  pub part : A

abbrev pub below : {A : Type 0} → ℕ → Standing A → Standing A
below i s = record s { path = i ∷ s.path }

abbrev mutual
  pub preorder : {A : Type 0} → Tree A → List (Standing A)
  preorder (tree x ts) = record { path = []; part = x } ∷ preorder_from 0 ts

  -- of parts that are numbered from i on
  pub preorder_from : {A : Type 0} → ℕ → Trees A → List (Standing A)
  preorder_from i none = []
  preorder_from i (more t ts) = map (below i) (preorder t) ++ preorder_from (suc i) ts

-- each stands before all behind it, so none stands there twice
abbrev pub AreInOrder : {A : Type 0} → List (Standing A) → Type 0
AreInOrder [] = Unit
AreInOrder (s ∷ ss) = AllByRecursion (λ r. IsBefore s.path r.path) ss × AreInOrder ss

abbrev pub IsIn : {A : Type 0} → Standing A → List (Standing A) → Type 0
IsIn s [] = ⊥
IsIn s (r ∷ rs) = (s ≡ r) ⊎ IsIn s rs
