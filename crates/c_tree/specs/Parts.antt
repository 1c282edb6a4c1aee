-- The parts of declarations that hold expressions: array lengths, specifiers, tags, fields and enumerators (C89, 3.5).
use Rattle.std.specs.Prelude.{ℕ, ℤ, pos, ◌+◌, ◌-◌, ◌++◌, ◌^◌, int_le, ◌+ℤ◌, min, unsigned_abs, List, [], ◌∷◌, length, map, Bool, true, false, not, Option, Some, None, option_map, if◌then◌else◌}
use Rattle.c_base.specs.declared.place.Pos.{Pos}
use Rattle.c_base.specs.declared.place.IntKind.TheVariants.{Int}
use Rattle.c_arith.specs.Arith.{in_range}
use Rattle.c_syntax.specs.declared.text.Text.{Text}
use Rattle.c_syntax.specs.declared.token.Key.{Key}
use Rattle.c_syntax.specs.declared.token.Key.TheVariants as key
use Rattle.c_syntax.specs.declared.tree.Named.{Named}
use Rattle.c_syntax.specs.declared.tree.Star.{Star}
use Rattle.c_syntax.specs.Shape.{TypeOf, int, pointer, array, structure, nothing, known, number, name, before, and, or, node, field, behind, NodeShapes, no_nodes, more_nodes, MaybeNode, no_node, one_node, LengthShapes, no_lengths, more_lengths, SpecShapes, more_specs, SpecShape, rows, EnumerShapes, DeclShapes, DeclaratorShapes, arrays}
use Rattle.c_type_rules.specs.Layouts.{incomplete, structure_measure}
use Rattle.c_constants.specs.Constants as constants
use Rattle.c_constants.specs.declared.words.Words.{Words}
use Rattle.c_constants.specs.declared.words.Base.{Base}
use Rattle.c_constants.specs.declared.words.Base.TheVariants as base
use Rattle.c_constants.specs.Words as words
use Rattle.c_scopes.specs.Scoping.{find, find_here, declared}
use Rattle.c_tables.specs.Tables.{FieldShape, changed_at, with_fields}
use Rattle.c_tree.specs.declared.meaning.Entity.{Entity}
use Rattle.c_tree.specs.declared.meaning.Entity.TheVariants as entity
use Rattle.c_tree.specs.declared.meaning.Tag.{Tag}
use Rattle.c_tree.specs.declared.meaning.Tag.TheVariants as tag
use Rattle.c_tree.specs.State.{State, complain, demand, is_set, counts}
use Rattle.c_tables.specs.Rows.{row}
use Rattle.c_tree.specs.Rulings.{Ruled, allowed, refused, rule, of_kind, allowed_if, whole, object, complete}
use Rattle.c_tree.specs.Sorts.{Sort, TypedNode, pos_in}
use Rattle.c_tree.specs.Operators.{Given, given_at, constant_rule}
use Rattle.c_tree.specs.Complaints.{declared_twice, not_constant, unknown_name, wrong_type}

-- ---- lists of expressions

-- the arguments so far stand with what is known of each
pub record TypedNodes : Type 0 where
  pub nodes : NodeShapes
  pub given : List Given
  pub state : State

abbrev pub no_more : List Given → State → TypedNodes
no_more gs s = record { nodes = no_nodes; given = gs; state = s }

abbrev pub one_more : TypedNode → TypedNodes → TypedNodes
one_more a r = record r { nodes = more_nodes a.node r.nodes }

-- the values of constants, with none where a complaint stands inside
pub record TypedCases : Type 0 where
  pub nodes : NodeShapes
  pub values : List (Option ℤ)
  pub state : State

abbrev pub no_cases : List (Option ℤ) → State → TypedCases
no_cases vs s = record { nodes = no_nodes; values = vs; state = s }

-- the constant began at that token; its state is that behind its own complaint
abbrev pub judged_constant : ℕ → Pos → Sort → State → State
judged_constant token p a s = rule (constant_rule a) token p s

abbrev pub one_case : TypedNode → TypedCases → TypedCases
one_case a r = record r { nodes = more_nodes a.node r.nodes }

-- what stands in brackets: a number of elements, nothing, or a complaint
pub data Length : Type 0 where
  counted : ℕ → Length
  left_out : Length
  unclear : Length

pub record TypedLengths : Type 0 where
  pub lengths : LengthShapes
  pub counts : List Length
  pub state : State

abbrev pub no_more_lengths : List Length → State → TypedLengths
no_more_lengths ls s = record { lengths = no_lengths; counts = ls; state = s }

-- a length is kept up to the greatest of 32 bits: an object of that length is too large in any case
abbrev pub count_of : Option ℤ → Length
count_of None = unclear
count_of (Some v) = if int_le (pos 1) v then counted (min (unsigned_abs v) (2 ^ 32 - 1)) else unclear

abbrev pub length_of : Sort → Length
length_of a = count_of (constants.value a.constant)

abbrev pub is_count : Length → Bool
is_count (counted n) = true
is_count _ = false

abbrev pub length_rule : Sort → Ruled
length_rule a = of_kind a.kind (allowed_if (is_count (length_of a)) not_constant)

abbrev pub judged_length : ℕ → Pos → Sort → State → State
judged_length token p a s = rule (length_rule a) token p s

abbrev pub open_length : TypedLengths → TypedLengths
open_length r = record r { lengths = more_lengths no_node r.lengths }

abbrev pub one_length : TypedNode → TypedLengths → TypedLengths
one_length a r = record r { lengths = more_lengths (one_node a.node) r.lengths }

-- ---- types

abbrev pub pointed : List Star → Option TypeOf → Option TypeOf
pointed [] k = k
pointed (x ∷ xs) k = pointed xs (option_map pointer k)

abbrev pub star_tokens : List Star → ℕ
star_tokens [] = 0
star_tokens (x ∷ xs) = 1 + x.consts + star_tokens xs

-- arrays of so many elements, the first length outermost; unclear without a length
abbrev pub array_of : Length → Option TypeOf → Option TypeOf
array_of (counted n) k = option_map (λ t. array t n) k
array_of _ k = None

abbrev pub arrays_of : List Length → Option TypeOf → Option TypeOf
arrays_of [] k = k
arrays_of (l ∷ ls) k = array_of l (arrays_of ls k)

-- ---- specifiers

-- the words so far, and the type of the structure or enumeration among them
pub record Spelled : Type 0 where
  pub words : Words
  pub tagged : Option TypeOf

pub record TypedSpecs : Type 0 where
  pub specs : SpecShapes
  pub spelled : Spelled
  pub state : State

pub record TypedSpec : Type 0 where
  pub spec : SpecShape
  pub kind : Option TypeOf
  pub state : State

abbrev pub unspelled : Spelled
unspelled = record { words = words.none; tagged = None }

abbrev pub with_word : Key → Spelled → Spelled
with_word k a = record a { words = words.added a.words k }

abbrev pub with_tagged : Option TypeOf → Spelled → Spelled
with_tagged k a = record { words = words.tagged a.words; tagged = k }

-- static stands at file scope alone
abbrev pub static_fits : Key → Bool → Bool
static_fits key.Static file = file
static_fits _ file = true

abbrev pub base_rule : Base → Option TypeOf → Ruled
base_rule base.Void k = allowed nothing
base_rule (base.Int i) k = allowed (int i)
base_rule base.Tagged k = of_kind k allowed
base_rule base.Wrong k = refused wrong_type

abbrev pub spelled_rule : Spelled → Ruled
spelled_rule a = base_rule (words.base_of a.words) a.tagged

abbrev pub more_spec : Pos → SpecShape → TypedSpecs → TypedSpecs
more_spec p f r = record { specs = more_specs p f r.specs; spelled = r.spelled; state = r.state }

-- ---- tags

-- a structure that wasn't there before
abbrev pub with_structure : Option Text → State → State
with_structure t s = record s {
  tables = record s.tables { structures = s.tables.structures ++ record { tag = t; fields = [] } ∷ [] };
  rooms = s.rooms ++ incomplete ∷ [];
  begun = s.begun ++ false ∷ [];
}

abbrev pub next_structure : State → ℕ
next_structure s = length s.tables.structures + 1

abbrev pub with_tag : Text → Tag → State → State
with_tag x t s = record s { tags = declared x t s.tags }

-- a number, where no complaint came, and what is known then
pub record Opened : Type 0 where
  pub number : Option ℕ
  pub state : State

abbrev pub new_structure : Text → State → Opened
new_structure x s = record { number = Some (next_structure s); state = with_tag x (tag.Structure (next_structure s)) (with_structure (Some x) s) }

abbrev pub twice : Pos → State → Opened
twice p s = record { number = None; state = complain declared_twice s.at p s }

-- a structure's tag without a list, as the scopes have it
abbrev pub known_structure : Pos → Text → Option Tag → State → Opened
known_structure p x None s = new_structure x s
known_structure p x (Some (tag.Structure n)) s = record { number = Some n; state = s }
known_structure p x (Some tag.Enumeration) s = twice p s

-- a structure's tag before a list: it gets one list in its scope
abbrev pub listed_structure : Pos → Text → Option Tag → State → Opened
listed_structure p x None s = new_structure x s
listed_structure p x (Some (tag.Structure n)) s = if is_set (row s.begun n) then twice p s else record { number = Some n; state = s }
listed_structure p x (Some tag.Enumeration) s = twice p s

-- alone in its declaration it is declared in the present scope
abbrev pub bare_structure : Bool → Pos → Text → State → Opened
bare_structure alone p x s = known_structure p x (if alone then find_here x s.tags else find x s.tags) s

abbrev pub begun_at : Option ℕ → State → State
begun_at None s = s
begun_at (Some n) s = record s { begun = changed_at (λ b. true) (n - 1) s.begun }

abbrev pub unnamed_structure : State → Opened
unnamed_structure s = record { number = Some (next_structure s); state = with_structure None s }

-- the tag of a structure, behind its key
abbrev pub opened : Bool → Bool → Option Named → State → Opened
opened alone true None s = unnamed_structure s
opened alone true (Some x) s = listed_structure x.pos x.text (find_here x.text s.tags) s
opened alone false None s = record { number = None; state = s }
opened alone false (Some x) s = bare_structure alone x.pos x.text s

abbrev pub tag_tokens : Option Named → ℕ
tag_tokens None = 0
tag_tokens (Some x) = 1

-- the list of a structure is complete
abbrev pub closed : Option ℕ → List FieldShape → State → State
closed None fields s = s
closed (Some n) fields s = record s {
  tables = with_fields n fields s.tables;
  rooms = changed_at (λ m. structure_measure s.rooms (map (λ f. f.kind) fields)) (n - 1) s.rooms;
}

abbrev pub structure_kind : Option ℕ → Option TypeOf
structure_kind n = option_map structure n

abbrev pub kind_if : Bool → Option TypeOf → Option TypeOf
kind_if true k = k
kind_if false k = None

-- inside a member list
abbrev pub within : State → State
within s = record s { file = false }

abbrev pub outside : Bool → State → State
outside file s = record s { file = file }

-- ---- fields

pub record TypedDecls : Type 0 where
  pub decls : DeclShapes
  pub fields : List FieldShape
  pub state : State

pub record TypedNames : Type 0 where
  pub names : DeclaratorShapes
  pub fields : List FieldShape
  pub state : State

abbrev pub is_free : Option TypeOf → Bool
is_free None = true
is_free (Some t) = false

-- the field behind those before it, where it has a type and a name of its own
abbrev pub with_field : Bool → Text → Option TypeOf → List FieldShape → List FieldShape
with_field true x (Some t) fields = fields ++ record { name = x; kind = t } ∷ []
with_field _ x k fields = fields

-- a field: its name is new in its structure, and its type complete
abbrev pub field_state : ℕ → Pos → Bool → Option TypeOf → State → State
field_state token p free k s = rule (of_kind k (whole s.rooms)) token p (demand free declared_twice token p s)

-- ---- enumerators

pub record TypedRows : Type 0 where
  pub rows : EnumerShapes
  pub state : State

-- the value of an enumerator, if it is clear; and what is known behind it
pub record Valued : Type 0 where
  pub node : MaybeNode
  pub value : Option ℤ
  pub state : State

abbrev pub in_int : Option ℤ → Bool
in_int None = false
in_int (Some v) = in_range Int v

abbrev pub only_int : Option ℤ → Option ℤ
only_int v = if in_int v then v else None

abbrev pub value_rule : Sort → Ruled
value_rule a = of_kind a.kind (allowed_if (in_int (constants.value a.constant)) not_constant)

abbrev pub given_value : ℕ → Pos → TypedNode → Valued
given_value token p a = record {
  node = one_node a.node;
  value = only_int (constants.value a.sort.constant);
  state = rule (value_rule a.sort) token p a.state;
}

abbrev pub passes : Option ℤ → Bool
passes None = false
passes (Some v) = not (in_range Int v)

-- without a value it has the next one
abbrev pub next_value : ℕ → Pos → Option ℤ → State → Valued
next_value token p v s = record { node = no_node; value = only_int v; state = demand (not (passes v)) not_constant token p s }

abbrev pub entity_of : Option ℤ → Entity
entity_of None = entity.Unknown
entity_of (Some v) = entity.Constant v

abbrev pub with_name : Text → Entity → State → State
with_name x e s = record s { names = declared x e s.names }

-- an ordinary name is new in its scope
abbrev pub declared_at : ℕ → Pos → Text → Entity → Option Entity → State → State
declared_at token p x e None s = with_name x e s
declared_at token p x e (Some other) s = complain declared_twice token p s

abbrev pub declare : ℕ → Pos → Text → Entity → State → State
declare token p x e s = declared_at token p x e (find_here x s.names) s

abbrev pub after : Option ℤ → Option ℤ
after v = option_map (λ n. n +ℤ pos 1) v

-- an enumeration's tag without a list
abbrev pub known_enumeration : Pos → Option Tag → State → State
known_enumeration p (Some tag.Enumeration) s = s
known_enumeration p (Some (tag.Structure n)) s = complain declared_twice s.at p s
known_enumeration p None s = complain unknown_name s.at p s

abbrev pub listed_enumeration : Pos → Text → Option Tag → State → State
listed_enumeration p x None s = with_tag x tag.Enumeration s
listed_enumeration p x (Some t) s = complain declared_twice s.at p s

-- the tag of an enumeration, behind its key
abbrev pub enumeration : Bool → Option Named → State → State
enumeration listed None s = s
enumeration true (Some x) s = listed_enumeration x.pos x.text (find_here x.text s.tags) s
enumeration false (Some x) s = known_enumeration x.pos (find x.text s.tags) s
