-- Lists of pairs in order, and how many items they stand for.
use Rattle.std.specs.Prelude.{ℕ, zero, suc, ◌+◌, ◌<◌, ◌≡◌, ◌⊎◌, ◌==◌, List, [], ◌∷◌, ◌++◌, Option, Some, None, cond, length, slice_get, sum_by}
use Rattle.std.specs.Int.{bit_at}
use Rattle.std.proofs.Math.ListN.{get_or}
use Rattle.c_base.specs.declared.labels.OutcomeLabel.{OutcomeLabel}
use Rattle.c_sites.specs.declared.lists.Decision.{Decision}
use Rattle.c_sites.specs.declared.lists.UseSite.{UseSite}
use Rattle.c_sites.specs.declared.numbered.Sites.{Sites}
use Rattle.pair_list.specs.declared.pairs.Pair.{Pair}

-- ys are those of xs that P holds of, in their order
abbrev pub AreThose : (Pair → Type 0) → List Pair → List Pair → Type 0
AreThose P [] ys = ys ≡ []
AreThose P (x ∷ xs) ys = ((rest : List Pair) × P x × (ys ≡ x ∷ rest) × AreThose P xs rest) ⊎ ((P x → ⊥) × AreThose P xs ys)

-- the definition d with that many uses from the first on
abbrev pub with_uses : ℕ → ℕ → ℕ → List Pair
with_uses d first zero = []
with_uses d first (suc n) = with_uses d first n ++ record { def = d; used = first + n } ∷ []

-- that many definitions from the first on, each with all uses
abbrev pub pairs_from : ℕ → ℕ → ℕ → List Pair
pairs_from uses first zero = []
pairs_from uses first (suc n) = pairs_from uses first n ++ with_uses (first + n) 1 uses

-- all pairs of a definition and a use, in order
abbrev pub all_pairs : Sites → List Pair
all_pairs s = pairs_from (length s.lists.uses.items) 1 (length s.lists.defs.items)

-- ---- how many items a pair stands for: one, or one for each outcome of the decision that its use belongs to

abbrev pub labels_of : Option Decision → List (ℕ × OutcomeLabel)
labels_of None = []
labels_of (Some k) = k.labels

abbrev pub labels_at : Sites → ℕ → List (ℕ × OutcomeLabel)
labels_at s zero = []
labels_at s (suc k) = labels_of (slice_get s.lists.decisions.items k)

abbrev pub owned : Sites → Option ℕ → ℕ
owned s None = 1
owned s (Some k) = length (labels_at s k)

abbrev pub weight_of : Sites → Option UseSite → ℕ
weight_of s None = 0
weight_of s (Some used) = owned s used.owner

abbrev pub weight : Sites → ℕ → ℕ
weight s zero = 0
weight s (suc u) = weight_of s (slice_get s.lists.uses.items u)

abbrev pub items_in : Sites → List Pair → ℕ
items_in s pairs = sum_by (λ p. weight s p.used) pairs

-- a beginning of all pairs has such ones that stand for more items than the limit
pub record HasMore (P : Pair → Type 0) (all : List Pair) (s : Sites) (base : List Pair) (limit : ℕ) : Type 0 where
  pub first : List Pair
  pub rest : List Pair
  pub is_all : all ≡ first ++ rest
  pub some : List Pair
  pub are : AreThose P first some
  pub more : limit < items_in s (base ++ some)

-- those of all that P holds of are put behind the others
abbrev pub Appends : (Pair → Type 0) → List Pair → List Pair → List Pair → Type 0
Appends P all old new = (some : List Pair) × AreThose P all some × (new ≡ old ++ some)

-- ---- pairs that bits say

-- the pairs of d with the first n uses from the low one on whose words have the bit j
abbrev pub picked : ℕ → ℕ → ℕ → List ℕ → ℕ → List Pair
picked d low j hits zero = []
picked d low j hits (suc n) = picked d low j hits n ++ cond (bit_at (get_or hits n 0) j == 1) (record { def = d; used = low + n } ∷ []) []
