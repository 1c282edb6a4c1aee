-- Words with a bit for each of 64 marks.
use Rattle.std.specs.Prelude.{ℕ, ◌+◌, ◌<◌, ◌≡◌, ◌↔◌, List, Some, Bool, true, false, length, slice_get}
use Rattle.std.specs.Int.{bit_at}
use Rattle.std.proofs.Math.ListN.{get_or}
use Rattle.flow_walks.specs.declared.action.Action.TheVariants.{Define}
use Rattle.flow_marks.specs.declared.flow.FlowRow.{FlowRow}
use Rattle.flow_marks.specs.Paths.{action_at, IsReached}
use Rattle.flow_marks.specs.Words.{HasBit}
use Rattle.c_sites.specs.declared.numbered.Sites.{Sites}
use Rattle.pair_list.specs.declared.marks.Mark.{Mark}
use Rattle.pair_list.specs.Marks.{EndsMark}

-- the mark at that index is there, and P holds of it
abbrev pub MarkAt : List Mark → ℕ → (Mark → Type 0) → Type 0
MarkAt marks i P = (m : Mark) × (slice_get marks i ≡ Some m) × P m

-- the bits of a word are those marks, among 64 from start on, that P holds of
abbrev pub IsMask : List Mark → ℕ → (Mark → Type 0) → ℕ → Type 0
IsMask marks start P word = (i : ℕ) → (bit_at word i ≡ 1) ↔ ((i < 64) × MarkAt marks (start + i) P)

-- the flags say which rows are reached
pub record AreReached (g : List FlowRow) (flags : List Bool) : Type 0 where
  pub count : length flags ≡ length g
  pub flagged : (row : ℕ) → row < length g → (get_or flags row false ≡ true) ↔ IsReached g row

-- the words give the marks of the definitions of reached rows
abbrev pub AreGiven : List FlowRow → List Mark → ℕ → List ℕ → Type 0
AreGiven g marks start words = (row : ℕ) → row < length g → IsMask marks start (λ m. IsReached g row × (action_at g row ≡ Define m.def)) (get_or words row 0)

-- and stop those that the actions of rows end
abbrev pub AreStopped : List FlowRow → Sites → List Mark → ℕ → List ℕ → Type 0
AreStopped g s marks start words = (row : ℕ) → row < length g → IsMask marks start (λ m. EndsMark s m (action_at g row)) (get_or words row 0)

-- row 0 alone gives the mark 0
abbrev pub IsEntry : List ℕ → Type 0
IsEntry words = (row i : ℕ) → HasBit words row i ↔ ((row ≡ 0) × (i ≡ 0))
