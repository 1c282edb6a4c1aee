-- What the constants, names, calls, operators and probes of an expression come to (C89, 3.3), by what is known of their operands.
use Rattle.std.specs.Prelude.{ℕ, ℤ, pos, ◌+◌, ◌-◌, ◌++◌, ◌&&◌, ◌||◌, List, [], ◌∷◌, length, map, nat_eq, Bool, true, false, not, Option, Some, None, option_map, if◌then◌else◌}
use Rattle.std.specs.Ordering.{int_eq}
use Rattle.c_base.specs.declared.place.Pos.{Pos}
use Rattle.c_base.specs.declared.place.IntKind.{IntKind}
use Rattle.c_base.specs.declared.place.IntKind.TheVariants.{Char, Int}
use Rattle.c_arith.specs.Arith.{wrap}
use Rattle.c_syntax.specs.declared.text.Text.{Text}
use Rattle.c_syntax.specs.declared.tree.UnaryOp.{UnaryOp}
use Rattle.c_syntax.specs.declared.tree.UnaryOp.TheVariants as front
use Rattle.c_syntax.specs.declared.tree.BinaryOp.{BinaryOp}
use Rattle.c_syntax.specs.Shape.{TypeOf, int, pointer, array, structure, known, number, name, before, Infix, plain, and, or, assign, comma, Access, dot, arrow, Probing, block, test, used, def, ExprShape, paren, two, probe, simple, field, behind, select, function}
use Rattle.c_type_rules.specs.Layouts.{Measure}
use Rattle.c_type_rules.specs.Verdicts.{binary_type, truth_type, logical_type, conditional_type, fits_type, assigned_type, compound_type, step_type, promoted_type, target_type, element_type, address_type, structure_type, pointed_type, cast_type, probed_type}
use Rattle.c_type_rules.specs.Kinds.{decay, is_structure}
use Rattle.c_constants.specs.declared.numbers.Number.{Number}
use Rattle.c_constants.specs.Numbers.{number_of}
use Rattle.c_constants.specs.declared.constants.Constant.{Constant}
use Rattle.c_constants.specs.declared.constants.Constant.TheVariants.{No, Known, Variable, Literal}
use Rattle.c_constants.specs.Constants as constants
use Rattle.c_constants.specs.Probes.{probe_number_of}
use Rattle.c_scopes.specs.Rows.{Scope}
use Rattle.c_scopes.specs.Scoping.{find, named}
use Rattle.c_tables.specs.Tables.{FunctionShape, VariableShape}
use Rattle.c_tree.specs.declared.meaning.Entity.{Entity}
use Rattle.c_tree.specs.declared.meaning.Entity.TheVariants as entity
use Rattle.c_tree.specs.declared.meaning.Side.{Side}
use Rattle.c_tree.specs.declared.meaning.Side.TheVariants.{Neither, Left, Right}
use Rattle.c_tree.specs.State.{Seen, State, step, complain, demand, fields_of, field_type, Numbered, mention, counts}
use Rattle.c_tables.specs.Rows.{row}
use Rattle.c_tree.specs.Rulings.{Ruled, allowed, unsettled, refused, by, then_rule, kind_at, rule, of_kind, allowed_if, whole, object, complete, moved, size_constant, sized, as_size, cast_constant, element_constant, comma_kind}
use Rattle.c_tables.specs.Builtins.{builtin_name, builtin_result, builtin_params}
use Rattle.c_tree.specs.Sorts.{Sort, no_sort, a_value, a_place, plainly, naming, valuing, Outcome, comes_to, null, changeable}
use Rattle.c_tree.specs.Complaints.{not_constant, stray, undefined, unknown_field, unknown_name, wrong_arg_count, wrong_type}

-- ---- constants and names

abbrev pub number_sort : Option Number → Sort
number_sort None = no_sort
number_sort (Some n) = a_value (Some (int n.kind)) (Known n.kind (pos n.value))

abbrev pub has_value : Option Number → Bool
has_value None = false
has_value (Some n) = true

abbrev pub typed_number : Pos → Text → State → Outcome
typed_number p t s = comes_to (plainly (number_sort (number_of t))) (step (demand (has_value (number_of t)) wrong_type s.at p s))

-- a character is an int
abbrev pub typed_char : ℕ → State → Outcome
typed_char c s = comes_to (plainly (a_value (Some (int Int)) (Known Int (wrap Char (pos c))))) (step s)

abbrev pub string_type : Text → TypeOf
string_type t = array (int Char) (length t + 1)

-- a string outside of a sizeof is an object with a number
abbrev pub with_literal : Text → State → State
with_literal t s = if s.quiet then s else record s { tables = record s.tables { literals = s.tables.literals ++ t ∷ [] } }

abbrev pub literal_number : State → Option ℕ
literal_number s = if s.quiet then None else Some (length s.tables.literals + 1)

abbrev pub typed_string : Pos → Text → State → Outcome
typed_string p t s =
    comes_to (naming (a_value (kind_at (whole s.rooms (string_type t))) Literal) (literal_number s))
    (step (rule (whole s.rooms (string_type t)) s.at p (with_literal t s)))

abbrev pub variable_constant : ℕ → Constant
variable_constant owner = if nat_eq owner 0 then Variable else No

-- a name that stands for a variable with this row
abbrev pub named_variable : Pos → ℕ → Option VariableShape → State → Outcome
named_variable p n None s = comes_to (plainly no_sort) (step (complain unknown_name s.at p s))
named_variable p n (Some v) s = comes_to (naming (a_place (Some v.kind) (variable_constant v.function)) (Some n)) (step s)

-- a name of a parameter, while the list is read
abbrev pub named_parameter : Pos → Option TypeOf → State → Outcome
named_parameter p None s = comes_to (plainly no_sort) (step (complain unknown_name s.at p s))
named_parameter p (Some t) s = comes_to (plainly (a_place (Some t) No)) (step s)

abbrev pub named_entity : Pos → Option Entity → State → Outcome
named_entity p (Some (entity.Variable n)) s = named_variable p n (row s.tables.variables n) s
named_entity p (Some (entity.Parameter n)) s = named_parameter p (row s.params n) s
named_entity p (Some (entity.Constant v)) s = comes_to (valuing (a_value (Some (int Int)) (Known Int v))) (step s)
named_entity p (Some entity.Unknown) s = comes_to (plainly no_sort) (step s)
named_entity p _ s = comes_to (plainly no_sort) (step (complain unknown_name s.at p s))

abbrev pub typed_name : Pos → Text → State → Outcome
typed_name p x s = named_entity p (find x s.names) s

-- ---- calls

-- a function that is called, if it is one, and what is known behind its name
pub record Called : Type 0 where
  pub function : Option ℕ
  pub state : State

abbrev pub called_row : Pos → ℕ → State → Called
called_row p n s = record { function = Some n; state = demand (counts s.known n) undefined s.at p s }

abbrev pub called_builtin : Numbered → Called
called_builtin n = record { function = Some n.number; state = n.state }

abbrev pub called_entity : Pos → Option Entity → State → Called
called_entity p (Some (entity.Function n)) s = called_row p n s
called_entity p (Some (entity.Builtin b)) s = called_builtin (mention (builtin_name b) (builtin_result b) (builtin_params b) s)
called_entity p (Some entity.Unknown) s = record { function = None; state = s }
called_entity p _ s = record { function = None; state = complain unknown_name s.at p s }

abbrev pub called : Pos → Text → State → Called
called p x s = called_entity p (find x s.names) s

-- an argument: its first token, that token's place, its type, and whether it is a null constant
pub record Given : Type 0 where
  pub token : ℕ
  pub pos : Pos
  pub kind : Option TypeOf
  pub null : Bool

abbrev pub given_at : ℕ → Pos → Sort → Given
given_at token p a = record { token = token; pos = p; kind = a.kind; null = null a }

-- each argument fits into its parameter
abbrev pub fit_all : List TypeOf → List Given → State → State
fit_all [] gs s = s
fit_all (t ∷ ts) [] s = s
fit_all (t ∷ ts) (g ∷ gs) s = fit_all ts gs (rule (by wrong_type (fits_type (Some t) g.kind g.null)) g.token g.pos s)

-- their number is judged where no complaint stands inside
abbrev pub judged : ℕ → Pos → Bool → List TypeOf → List Given → State → State
judged token p clean ts gs s = if clean && not (nat_eq (length ts) (length gs)) then complain wrong_arg_count token p s else fit_all ts gs s

abbrev pub call_of : Pos → ℕ → Bool → ℕ → Option FunctionShape → List Given → State → Outcome
call_of p token clean n None gs s = comes_to (plainly no_sort) (step s)
call_of p token clean n (Some f) gs s = comes_to (naming (a_value (Some f.result) No) (Some n)) (step (judged token p clean f.params gs s))

-- behind its arguments, in which no complaint came if that test holds
abbrev pub typed_call : Pos → ℕ → Bool → Option ℕ → List Given → State → Outcome
typed_call p token clean None gs s = comes_to (plainly no_sort) (step s)
typed_call p token clean (Some n) gs s = call_of p token clean n (row s.tables.functions n) gs s

-- ---- operators, by what is known of their operands, and behind them

abbrev pub typed_paren : Sort → State → Outcome
typed_paren a s = comes_to (plainly a) (step s)

-- & of a place; * of a pointer; the others of a value
abbrev pub unary_rule : UnaryOp → List Measure → Sort → Ruled
unary_rule front.AddressOf rooms a = by wrong_type (address_type (kind_at (changeable a)))
unary_rule front.Deref rooms a = then_rule (by wrong_type (target_type a.kind)) (object rooms)
unary_rule front.Not rooms a = by wrong_type (truth_type a.kind)
unary_rule _ rooms a = by wrong_type (promoted_type a.kind)

abbrev pub unary_sort : UnaryOp → Option TypeOf → Constant → Sort
unary_sort front.Deref k c = a_place k No
unary_sort u k c = a_value k (constants.unary u c)

-- the operand is a place, or the operator asks for none
abbrev pub place_rule : UnaryOp → Sort → Ruled
place_rule front.AddressOf a = changeable a
place_rule _ a = unsettled

-- the operator is the first of the two tokens, and its operand begins at the second, at that place
abbrev pub typed_unary : ℕ → Pos → ℕ → Pos → UnaryOp → Sort → State → Outcome
typed_unary token o first p u a s =
    comes_to (plainly (unary_sort u (kind_at (unary_rule u s.rooms a)) a.constant))
    (rule (unary_rule u s.rooms a) token o (rule (place_rule u a) first p s))

-- ++ and --, before or behind their operand
abbrev pub step_rule : List Measure → Sort → Ruled
step_rule rooms a = then_rule (by wrong_type (step_type (kind_at (changeable a)))) (moved rooms)

abbrev pub typed_step : ℕ → Pos → ℕ → Pos → Sort → State → Outcome
typed_step token o first p a s =
    comes_to (plainly (a_value (kind_at (step_rule s.rooms a)) No)) (rule (step_rule s.rooms a) token o (rule (changeable a) first p s))

-- the operand of a sizeof is not evaluated
abbrev pub hushed : State → State
hushed s = record s { quiet = true }

abbrev pub heard : Bool → State → State
heard quiet s = record s { quiet = quiet }

abbrev pub size_outcome : ℕ → Pos → Ruled → Constant → State → Outcome
size_outcome token o r c s = comes_to (valuing (a_value (kind_at (then_rule r as_size)) c)) (rule r token o s)

abbrev pub typed_size : ℕ → Pos → Option TypeOf → State → Outcome
typed_size token o k s = size_outcome token o (of_kind k (sized s.rooms)) (size_constant s.rooms k) s

abbrev pub typed_type_size : ℕ → Pos → Option TypeOf → State → Outcome
typed_type_size token o k s = size_outcome token o (of_kind k (whole s.rooms)) (size_constant s.rooms k) (step s)

abbrev pub typed_cast : ℕ → Pos → Option TypeOf → Sort → State → Outcome
typed_cast token o k a s =
    comes_to (plainly (a_value (kind_at (by wrong_type (cast_type k a.kind))) (cast_constant k a.constant))) (rule (by wrong_type (cast_type k a.kind)) token o s)

abbrev pub plain_rule : BinaryOp → List Measure → Sort → Sort → Ruled
plain_rule u rooms a b = then_rule (by wrong_type (binary_type u a.kind (null a) b.kind (null b))) (moved rooms)

abbrev pub typed_plain : ℕ → Pos → BinaryOp → Sort → Sort → State → Outcome
typed_plain token o u a b s =
    comes_to (plainly (a_value (kind_at (plain_rule u s.rooms a b)) (constants.binary u a.constant b.constant))) (rule (plain_rule u s.rooms a b) token o s)

abbrev pub logical : ℕ → Pos → Constant → Sort → Sort → State → Outcome
logical token o c a b s = comes_to (plainly (a_value (kind_at (by wrong_type (logical_type a.kind b.kind))) c)) (rule (by wrong_type (logical_type a.kind b.kind)) token o s)

abbrev pub typed_and : ℕ → Pos → Sort → Sort → State → Outcome
typed_and token o a b s = logical token o (constants.both a.constant b.constant) a b s

abbrev pub typed_or : ℕ → Pos → Sort → Sort → State → Outcome
typed_or token o a b s = logical token o (constants.either a.constant b.constant) a b s

-- where an operand of the operator stands: the right one, where the left one has that type; a structure may be unknown
abbrev pub left_of : Infix → Side
left_of (assign None) = Left
left_of _ = Neither

abbrev pub may_copy : Option TypeOf → Side
may_copy None = Right
may_copy (Some t) = if is_structure t then Right else Neither

abbrev pub right_of : Infix → Option TypeOf → Side
right_of (assign None) k = may_copy k
right_of _ k = Neither

abbrev pub sided : Side → State → State
sided d s = record s { side = d }

-- parentheses are looked through, and so are the probes of places
abbrev pub kept_side : ExprShape → Side → Side
kept_side (paren a) d = d
kept_side (probe (simple used x) a) d = d
kept_side (probe (simple def x) a) d = d
kept_side _ d = Neither

-- an expression of that form begins
abbrev pub entering : ExprShape → State → State
entering f s = sided (kept_side f s.side) s

-- the left side is a place; nothing is said of it where a complaint stands inside the right one
abbrev pub left_side : Sort → Sort → Ruled
left_side a b = of_kind b.kind (λ t. changeable a)

abbrev pub assigned_rule : Option BinaryOp → List Measure → Sort → Sort → Ruled
assigned_rule None rooms a b = by wrong_type (assigned_type (kind_at (left_side a b)) b.kind (null b) b.place)
assigned_rule (Some u) rooms a b = then_rule (by wrong_type (compound_type u (kind_at (left_side a b)) b.kind)) (moved rooms)

-- the left side begins at the second of the tokens, at that place
abbrev pub typed_assign : ℕ → Pos → ℕ → Pos → Option BinaryOp → Sort → Sort → State → Outcome
typed_assign token o first p u a b s =
    comes_to (plainly (a_value (kind_at (assigned_rule u s.rooms a b)) No)) (rule (assigned_rule u s.rooms a b) token o (rule (left_side a b) first p s))

abbrev pub typed_comma : Sort → Sort → State → Outcome
typed_comma a b s = comes_to (plainly (a_value (kind_at (comma_kind a.kind b.kind)) No)) s

abbrev pub typed_infix : ℕ → Pos → ℕ → Pos → Infix → Sort → Sort → State → Outcome
typed_infix token o first p (plain u) a b s = typed_plain token o u a b s
typed_infix token o first p and a b s = typed_and token o a b s
typed_infix token o first p or a b s = typed_or token o a b s
typed_infix token o first p (assign u) a b s = typed_assign token o first p u a b s
typed_infix token o first p comma a b s = typed_comma a b s

abbrev pub choice_rule : Sort → Sort → Sort → Ruled
choice_rule a b c = by wrong_type (conditional_type a.kind b.kind (null b) c.kind (null c))

abbrev pub typed_choice : ℕ → Pos → Sort → Sort → Sort → State → Outcome
typed_choice token o a b c s =
    comes_to (plainly (a_value (kind_at (choice_rule a b c)) (constants.choice a.constant b.constant c.constant))) (rule (choice_rule a b c) token o s)

abbrev pub element_rule : List Measure → Sort → Sort → Ruled
element_rule rooms a b = then_rule (by wrong_type (element_type a.kind b.kind)) (object rooms)

abbrev pub typed_index : ℕ → Pos → Sort → Sort → State → Outcome
typed_index token o a b s =
    comes_to (plainly (a_place (kind_at (element_rule s.rooms a b)) (element_constant a.kind a.constant b.kind b.constant)))
    (step (rule (element_rule s.rooms a b) token o s))

-- the structure before a point or an arrow
abbrev pub holder : Access → List Measure → Option TypeOf → Ruled
holder dot rooms k = by wrong_type (structure_type k)
holder arrow rooms k = then_rule (by wrong_type (pointed_type k)) (complete rooms)

abbrev pub found_field : Option TypeOf → Ruled
found_field None = refused unknown_field
found_field (Some t) = allowed t

abbrev pub field_rule : Text → State → TypeOf → Ruled
field_rule x s (structure n) = found_field (field_type x (fields_of n s))
field_rule x s t = unsettled

abbrev pub field_constant : Access → Constant → Constant
field_constant dot a = constants.field a
field_constant arrow a = No

-- the field of what stands before the point or arrow, in this state
abbrev pub held_field : Pos → Ruled → Constant → State → Outcome
held_field q f c s = comes_to (plainly (a_place (kind_at f) c)) (step (rule f s.at q s))

abbrev pub typed_field : ℕ → Pos → Access → Text → Pos → Sort → State → Outcome
typed_field token o h x q a s =
    held_field q (of_kind (kind_at (holder h s.rooms a.kind)) (field_rule x s)) (field_constant h a.constant) (step (rule (holder h s.rooms a.kind) token o s))

-- ---- probes

abbrev pub seen_of : Probing → Seen → Scope ℕ
seen_of block s = s.blocks
seen_of test s = s.tests
seen_of used s = s.uses
seen_of def s = s.defs

abbrev pub with_seen : Probing → Text → ℕ → Seen → Seen
with_seen block x n s = record s { blocks = s.blocks ++ (x, n) ∷ [] }
with_seen test x n s = record s { tests = s.tests ++ (x, n) ∷ [] }
with_seen used x n s = record s { uses = s.uses ++ (x, n) ∷ [] }
with_seen def x n s = record s { defs = s.defs ++ (x, n) ∷ [] }

abbrev pub claimed : Probing → Text → ℕ → Pos → Option ℕ → Option ℕ → State → State
claimed u x token p (Some n) None s = record s { seen = with_seen u x n s.seen }
claimed u x token p _ _ s = complain stray token p s

-- a probe's number: from 1 to 16383, in decimal, and new for its kind
abbrev pub claim : Probing → Text → ℕ → Pos → State → State
claim u x token p s = claimed u x token p (probe_number_of x) (named x (seen_of u s.seen)) s

abbrev pub as_decayed : TypeOf → Ruled
as_decayed t = allowed (decay t)

-- a probe of a definition to the left of `=`, or of a use to the right of a structure's, is one of each cell that is copied
abbrev pub is_copied : Probing → Side → Bool
is_copied used Right = true
is_copied def Left = true
is_copied u d = false

-- a block round anything; a test round a scalar; the other two round a place of one, or of a structure that is copied
abbrev pub probe_rule : Probing → Side → Sort → Ruled
probe_rule block d a = of_kind a.kind as_decayed
probe_rule test d a = then_rule (by wrong_type (truth_type a.kind)) (λ t. of_kind a.kind as_decayed)
probe_rule u d a = then_rule (by wrong_type (probed_type (is_copied u d) a.kind)) (allowed_if a.place wrong_type)

abbrev pub probe_sort : Probing → Option TypeOf → Constant → Sort
probe_sort block k c = a_value k (constants.probed c)
probe_sort test k c = a_value k (constants.probed c)
probe_sort used k c = a_place k c
probe_sort def k c = a_place k c

-- on that side of an assignment
abbrev pub typed_probe : ℕ → Pos → Probing → Side → Sort → State → Outcome
typed_probe token p u d a s = comes_to (plainly (probe_sort u (kind_at (probe_rule u d a)) a.constant)) (step (rule (probe_rule u d a) token p s))

abbrev pub is_there : Option ℤ → Bool
is_there None = false
is_there (Some v) = true

-- an integer constant expression without fault, where no complaint stands inside
abbrev pub constant_rule : Sort → Ruled
constant_rule a = of_kind a.kind (allowed_if (is_there (constants.value a.constant)) not_constant)

abbrev pub is_among : ℤ → List (Option ℤ) → Bool
is_among v [] = false
is_among v (None ∷ vs) = is_among v vs
is_among v (Some w ∷ vs) = int_eq v w || is_among v vs

abbrev pub wrapped : IntKind → Option ℤ → Option ℤ
wrapped k v = option_map (wrap k) v

-- they differ as values of the type
abbrev pub differ : IntKind → List (Option ℤ) → Bool
differ k [] = true
differ k (None ∷ vs) = differ k vs
differ k (Some v ∷ vs) = not (is_among (wrap k v) (map (wrapped k) vs)) && differ k vs

abbrev pub select_cases : List (Option ℤ) → TypeOf → Ruled
select_cases vs (int k) = allowed_if (differ k vs) wrong_type (int k)
select_cases vs t = unsettled

-- a select probe round an integer, with constants that differ in its promoted type, if no complaint stands inside
abbrev pub select_rule : Bool → List (Option ℤ) → Sort → Ruled
select_rule false vs a = unsettled
select_rule true vs a = then_rule (then_rule (by wrong_type (promoted_type a.kind)) (select_cases vs)) (λ t. of_kind a.kind allowed)

-- no complaint came in its constants and its expression if that test holds
abbrev pub typed_select : ℕ → Pos → Bool → List (Option ℤ) → Sort → State → Outcome
typed_select token p clean vs a s = comes_to (plainly (a_value (kind_at (select_rule clean vs a)) No)) (step (rule (select_rule clean vs a) token p s))
