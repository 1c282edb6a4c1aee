-- Which uses which marks meet.
use Rattle.std.specs.Prelude.{ℕ, ◌+◌, ◌<◌, ◌≡◌, ◌⊎◌, List, length}
use Rattle.std.specs.Int.{bit_at}
use Rattle.std.proofs.Math.ListN.{get_or}
use Rattle.flow_walks.specs.declared.action.Action.{Action}
use Rattle.flow_walks.specs.declared.action.Action.TheVariants.{Use}
use Rattle.flow_marks.specs.declared.flow.FlowRow.{FlowRow}
use Rattle.flow_marks.specs.Paths.{action_at}
use Rattle.flow_marks.specs.Words.{HasBit}
use Rattle.c_sites.specs.declared.lists.UseSite.{UseSite}
use Rattle.c_sites.specs.declared.numbered.Sites.{Sites}
use Rattle.pair_list.specs.declared.marks.Mark.{Mark}
use Rattle.pair_list.specs.Sites.{IsUse}
use Rattle.pair_list.specs.Marks.{Meets, Finds}
use Rattle.pair_list.specs.Masks.{MarkAt}

-- one of the marks of a word is of the definition first + j and meets the use
abbrev pub MeetsOne : List Mark → ℕ → ℕ → ℕ → UseSite → ℕ → Type 0
MeetsOne marks start first word used j = (i : ℕ) × (i < 64) × (bit_at word i ≡ 1) × MarkAt marks (start + i) (λ m. Meets used m × (m.def ≡ first + j))

-- one of the marks of a word is of the definition first + j
abbrev pub DefOf : List Mark → ℕ → ℕ → ℕ → ℕ → Type 0
DefOf marks start first word j = (i : ℕ) × (bit_at word i ≡ 1) × MarkAt marks (start + i) (λ m. m.def ≡ first + j)

-- the use u stands in the function, and such a mark meets it
pub record UseMeets (s : Sites) (f : ℕ) (marks : List Mark) (start first word u j : ℕ) : Type 0 where
  pub used : UseSite
  pub is_use : IsUse s u used
  pub function : used.function ≡ f
  pub meets : MeetsOne marks start first word used j

-- the row has that use
abbrev pub RowHits : Sites → ℕ → List Mark → ℕ → ℕ → ℕ → Action → ℕ → ℕ → Type 0
RowHits s f marks start first word a u j = (a ≡ Use u) × UseMeets s f marks start first word u j

-- one of the first n rows has
pub record SomeHits (g : List FlowRow) (s : Sites) (f : ℕ) (marks : List Mark) (start first : ℕ) (words : List ℕ) (n u j : ℕ) : Type 0 where
  pub row : ℕ
  pub below : row < n
  pub hits : RowHits s f marks start first (get_or words row 0) (action_at g row) u j

-- one of 64 marks from start on is of the definition first + j, and finds the use
abbrev pub FindsOne : List FlowRow → Sites → ℕ → List Mark → ℕ → ℕ → ℕ → ℕ → Type 0
FindsOne g s f marks start first u j = (i : ℕ) × (i < 64) × MarkAt marks (start + i) (λ m. Finds g s f m u × (m.def ≡ first + j))

-- bits are added: those that P says
pub record AddsBits (P : ℕ → ℕ → Type 0) (old new : List ℕ) : Type 0 where
  pub size : length new ≡ length old
  pub kept : (k j : ℕ) → HasBit old k j → HasBit new k j
  pub here : (k j : ℕ) → k < length old → P k j → HasBit new k j
  pub only : (k j : ℕ) → HasBit new k j → HasBit old k j ⊎ P k j

-- one of the first n marks does
abbrev pub FindsAny : List FlowRow → Sites → ℕ → List Mark → ℕ → ℕ → ℕ → ℕ → Type 0
FindsAny g s f marks n first u j = (i : ℕ) × (i < n) × MarkAt marks i (λ m. Finds g s f m u × (m.def ≡ first + j))
