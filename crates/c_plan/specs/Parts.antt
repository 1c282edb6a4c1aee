-- The parts of statements, with how many variables are declared before each.
use Rattle.std.specs.Prelude.{◌≡◌, ◌+◌, ℕ, drop, map, Option, Some, None}
use Rattle.c_base.specs.declared.place.Pos.{Pos}
use Rattle.c_syntax.specs.Shape.{DeclShapes, DeclaratorShapes, no_declarators, more_declarators, ItemShapes, no_items, more_items, StmtShape, FormShape, when, either, while, do_while, for, switch, CompoundShape, braces}
use Rattle.c_syntax.specs.View.{declarator_shape, declarator_list, decl_list, label_shape, stmt_shape, item_list}
use Rattle.c_meaning.specs.Counts.{variables_of, stmt_variables}
use Rattle.c_plan.specs.Names.{joined, names_of}
use Rattle.c_plan.specs.declared.placed.Placed.{Placed}
use Rattle.c_plan.specs.declared.sequence.Sequence.{Sequence}
use Rattle.c_plan.specs.declared.sequence.Cut.{Cut}
use Rattle.c_plan.specs.declared.sequence.Cut.TheVariants as cut
use Rattle.c_plan.specs.declared.block.Block.{Block}
use Rattle.c_plan.specs.declared.block.Ahead.{Ahead}
use Rattle.c_plan.specs.declared.block.Ahead.TheVariants as ahead

-- ---- lists of statements

abbrev pub items_left : Sequence → ItemShapes
items_left s = item_list (drop s.from s.items.now.items)

-- no statement; or the first one with its labels, and the others behind its variables
abbrev pub IsCut : Sequence → Cut → Type 0
IsCut s cut.Done = items_left s ≡ no_items
IsCut s (cut.First labels a rest) =
    (items_left s ≡ more_items (map label_shape labels.now) (stmt_shape a.stmt.now) (items_left rest))
    × (a.before ≡ s.before) × (rest.before ≡ s.before + stmt_variables (stmt_shape a.stmt.now))

-- ---- declarations with the statements behind them

-- the declarators that are to come
abbrev pub names_ahead : Block → DeclaratorShapes
names_ahead b = joined (declarator_list b.names.now) (names_of (decl_list b.decls.now))

-- the statements, where no declarator is left; or the next declarator, and what is behind it
abbrev pub IsAhead : Block → Ahead → Type 0
IsAhead b (ahead.Done s) = (names_ahead b ≡ no_declarators) × (items_left s ≡ item_list b.items.now.items) × (s.before ≡ b.before)
IsAhead b (ahead.Name d rest) =
    (names_ahead b ≡ more_declarators (declarator_shape d.now) (names_ahead rest))
    × (rest.items.now ≡ b.items.now) × (rest.before ≡ b.before + variables_of (declarator_shape d.now))

-- all of a compound statement behind so many variables
abbrev pub IsBlock : CompoundShape → ℕ → Block → Type 0
IsBlock c n b = (p : Pos) × (ds : DeclShapes) × (c ≡ braces p ds (item_list b.items.now.items)) × (names_ahead b ≡ names_of ds) × (b.before ≡ n)

-- ---- parts of a statement

abbrev pub first_in : FormShape → Option StmtShape
first_in (when e a) = Some a
first_in (either e a b) = Some a
first_in (while e a) = Some a
first_in (do_while a e) = Some a
first_in (for e f g a) = Some a
first_in f = None

-- it has no such part; or this is it, behind so many variables
abbrev pub IsFirst : FormShape → ℕ → Option Placed → Type 0
IsFirst f n None = first_in f ≡ None
IsFirst f n (Some a) = (first_in f ≡ Some (stmt_shape a.stmt.now)) × (a.before ≡ n)

-- behind an `else`, with how many variables are declared before it in the `if`
abbrev pub other_in : FormShape → Option (StmtShape × ℕ)
other_in (either e a b) = Some (b, stmt_variables a)
other_in f = None

abbrev pub IsOther : FormShape → ℕ → Option Placed → Type 0
IsOther f n None = other_in f ≡ None
IsOther f n (Some b) = (m : ℕ) × (other_in f ≡ Some (stmt_shape b.stmt.now, m)) × (b.before ≡ n + m)

abbrev pub items_in : FormShape → Option ItemShapes
items_in (switch e items) = Some items
items_in f = None

abbrev pub AreItems : FormShape → ℕ → Option Sequence → Type 0
AreItems f n None = items_in f ≡ None
AreItems f n (Some s) = (items_in f ≡ Some (items_left s)) × (s.before ≡ n)
