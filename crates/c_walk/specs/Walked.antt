-- The items that come before a part of the tree, and how one more comes.
use Rattle.std.specs.Prelude.{ℕ, ◌+◌, ◌++◌, List, [], ◌∷◌, Bool, true, false, Option, Some, None, if◌then◌else◌}
use Rattle.c_base.specs.declared.place.Pos.{Pos}
use Rattle.c_syntax.specs.declared.tree.UnaryOp.{UnaryOp}
use Rattle.c_syntax.specs.declared.tree.UnaryOp.TheVariants as front
use Rattle.c_syntax.specs.declared.tree.BinaryOp.{BinaryOp}
use Rattle.c_syntax.specs.Shape.{NoteShape, NodeShape, node, ExprShape}
use Rattle.c_walk.specs.Items.{Direct, Outcomes, Item, block, decision, def, used}
use Rattle.c_walk.specs.Places.{is_place, has_scalar, has_structure, holds_structure, direct_form}
use Rattle.c_walk.specs.declared.around.Around.{Around}
use Rattle.c_walk.specs.declared.around.Taken.{Taken}
use Rattle.c_walk.specs.declared.around.Taken.TheVariants.{Read, Written, Changed, Copied, Addressed}
use Rattle.c_walk.specs.Tests.{is_logical_form, outcomes_of_form}

-- the items so far, how many decisions are among them, and how many variables were declared so far
pub record Walked : Type 0 where
  pub items : List Item
  pub decisions : ℕ
  pub variables : ℕ

abbrev pub with_item : Item → Walked → Walked
with_item i s = record s { items = s.items ++ i ∷ [] }

abbrev pub is_read : Taken → Bool
is_read Read = true
is_read Changed = true
is_read _ = false

abbrev pub is_written : Taken → Bool
is_written Written = true
is_written Changed = true
is_written _ = false

-- of a place with that note the value is used: a scalar that is read, or a structure that is copied
abbrev pub is_used : Taken → NoteShape → Bool
is_used Copied n = has_structure n
is_used r n = if is_read r then has_scalar n else false

-- the operand of `&` has its address taken
abbrev pub operand_taken : UnaryOp → Taken
operand_taken front.AddressOf = Addressed
operand_taken _ = Read

-- to the left of `=` a place is written, of another assignment it is read too
abbrev pub left_taken : Option BinaryOp → Taken
left_taken None = Written
left_taken (Some u) = Changed

-- to the right of `=` a structure is copied, where one stands to the left
abbrev pub right_taken : Option BinaryOp → NodeShape → Taken
right_taken None a = if holds_structure a then Copied else Read
right_taken (Some u) a = Read

-- ---- blocks

abbrev pub with_block : Pos → Walked → Walked
with_block p s = with_item (block p) s

abbrev pub with_block_if : Bool → Pos → Walked → Walked
with_block_if true p s = with_block p s
with_block_if false p s = s

-- ---- decisions

abbrev pub pos_of : NodeShape → Pos
pos_of (node p o n f) = p

-- the number of the next decision
abbrev pub next_decision : Walked → ℕ
next_decision s = s.decisions + 1

abbrev pub with_decision : Pos → Outcomes → Walked → Walked
with_decision p o s = record (with_item (decision p o) s) { decisions = next_decision s }

-- inside the next decision
abbrev pub inside : Around → Walked → Around
inside c s = record c { owner = Some (next_decision s) }

-- the expression at a test position is one of a decision, but for `&&` and `||`
abbrev pub inside_test : Around → ExprShape → Walked → Around
inside_test c f s = if is_logical_form f then c else inside c s

abbrev pub with_test : Pos → ExprShape → Walked → Walked
with_test p f s = if is_logical_form f then s else with_decision p (outcomes_of_form f) s

-- ---- sites

-- a place that is written is a definition
abbrev pub with_def : Bool → Around → Pos → Option Direct → Walked → Walked
with_def false c p d s = s
with_def true c p d s = with_item (def p c.function d) s

-- a scalar place that is read is a use, and so is a structure's that is copied
abbrev pub with_use : Bool → Around → Pos → Option Direct → Walked → Walked
with_use false c p d s = s
with_use true c p d s = with_item (used p c.function d c.owner) s

abbrev pub with_sites : Around → Taken → Pos → Option Direct → Bool → Walked → Walked
with_sites c r p d value s = with_use value c p d (with_def (is_written r) c p d s)

-- the sites of an expression by itself
abbrev pub with_site : Around → Taken → Pos → NoteShape → ExprShape → Walked → Walked
with_site c r p n f s = if is_place f then with_sites c r p (direct_form n f) (is_used r n) s else s
