-- The probes that stand round a node. Each is numbered by what is counted before the node, and has the node's place and operator.
use Rattle.std.specs.Prelude.{ℕ, suc, ℤ, pos, negsuc, List, [], ◌∷◌, Bool, true, false, Option, Some, None}
use Rattle.std.specs.Fmt.{decimal}
use Rattle.c_base.specs.declared.place.Pos.{Pos}
use Rattle.c_base.specs.declared.place.IntKind.{IntKind}
use Rattle.c_syntax.specs.declared.tree.Named.{Named}
use Rattle.c_syntax.specs.declared.tree.ProbeMark.{ProbeMark}
use Rattle.c_syntax.specs.declared.tree.UnaryOp.TheVariants as front
use Rattle.c_syntax.specs.Shape.{int, NoteShape, bare, typed, known, number, unary, block, test, used, def, simple, select, ProbeShape, NodeShape, node, leaf, prefix, probe, NodeShapes, no_nodes, more_nodes}
use Rattle.c_type_rules.specs.declared.kinds.Radix.TheVariants.{Decimal}
use Rattle.c_type_rules.specs.Kinds.{decay, promote, constant_type}
use Rattle.c_walk.specs.Counted.{next_block, next_def, next_use}
use Rattle.c_walk.specs.Walked.{Walked, next_decision}
use Rattle.c_walk.specs.Counted.{block_count, def_count, use_count}

-- ---- what is known of a probe

-- a block, test or select is the value of what stands in it: an array is a pointer there
abbrev pub value_note : NoteShape → NoteShape
value_note (typed t n) = typed (decay t) None
value_note (known t v) = typed (decay t) None
value_note bare = bare

-- a use or a definition is the place that stands in it, and has no name of its own
abbrev pub place_note : NoteShape → NoteShape
place_note (typed t n) = typed t None
place_note n = n

-- ---- probes

abbrev pub round_value : ProbeShape → NodeShape → NodeShape
round_value u (node p o n f) = node p o (value_note n) (probe u (node p o n f))

abbrev pub round_place : ProbeShape → NodeShape → NodeShape
round_place u (node p o n f) = node p o (place_note n) (probe u (node p o n f))

-- round an expression that is a block
abbrev pub in_block : Walked → NodeShape → NodeShape
in_block w a = round_value (simple block (decimal (next_block w))) a

-- round the expression of a test, but for `&&` and `||`
abbrev pub in_test : Bool → Walked → NodeShape → NodeShape
in_test true w a = a
in_test false w a = round_value (simple test (decimal (next_decision w))) a

-- round a place that is read, and one that is written
abbrev pub in_use : Bool → Walked → NodeShape → NodeShape
in_use true w a = round_place (simple used (decimal (next_use w))) a
in_use false w a = a

abbrev pub in_def : Bool → Walked → NodeShape → NodeShape
in_def true w a = round_place (simple def (decimal (next_def w))) a
in_def false w a = a

-- ---- the constants of a select

-- the type of a number without a suffix
abbrev pub decimal_kind : ℕ → IntKind
decimal_kind n = constant_type n Decimal (record { unsigned = false; long = false })

abbrev pub number_at : Pos → Pos → ℕ → NodeShape
number_at p o n = node p o (typed (int (decimal_kind n)) None) (leaf (number (decimal n)))

-- behind a minus where it is negative
abbrev pub constant_at : Pos → Pos → ℤ → NodeShape
constant_at p o (pos n) = number_at p o n
constant_at p o (negsuc n) = node p o (typed (int (promote (decimal_kind (suc n)))) None) (prefix (unary front.Minus) (number_at p o (suc n)))

abbrev pub constants_at : Pos → Pos → List ℤ → NodeShapes
constants_at p o [] = no_nodes
constants_at p o (v ∷ vs) = more_nodes (constant_at p o v) (constants_at p o vs)

-- round what a switch chooses by, with its case constants
abbrev pub in_select : List ℤ → Walked → NodeShape → NodeShape
in_select vs w (node p o n f) = round_value (select (decimal (next_decision w)) (constants_at p o vs)) (node p o n f)

-- ---- marks

abbrev pub mark_at : Pos → ℕ → ProbeMark
mark_at p k = record { pos = p; number = decimal k }

-- in front of a statement that is a block
abbrev pub block_marks : Bool → Pos → Walked → List ProbeMark
block_marks true p w = mark_at p (next_block w) ∷ []
block_marks false p w = []

-- round a declared name that is defined there
abbrev pub defined_name : Option Named → Walked → Option Named
defined_name (Some x) w = Some (record x { probe = Some (mark_at x.pos (next_def w)) })
defined_name None w = None
