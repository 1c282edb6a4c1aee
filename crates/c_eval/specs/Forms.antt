-- The groups of forms that a step tells apart, and what its parts hand on.
use Rattle.std.specs.Prelude.{◌≡◌, ℕ, ◌<◌, Bool, true, false, Option, Some, None, Result, Ok, Err, if◌then◌else◌}
use Rattle.c_syntax.specs.declared.text.Text.{Text}
use Rattle.c_syntax.specs.declared.tree.CType.{CType}
use Rattle.c_syntax.specs.declared.tree.CType.TheVariants as ctype
use Rattle.c_syntax.specs.declared.tree.Note.{Note}
use Rattle.c_syntax.specs.declared.tree.Note.TheVariants as note
use Rattle.c_syntax.specs.declared.tree.Expr.{Expr}
use Rattle.c_syntax.specs.declared.tree.Expr.TheVariants.{Number, Char, Str, Name, Paren', Index', Member', Arrow', Unary', Step', SizeOf', SizeOfType, Cast', Binary', And', Or', Cond', Assign', Comma', Probe'}
use Rattle.c_syntax.specs.declared.tree.ExprProbe.{ExprProbe}
use Rattle.c_syntax.specs.declared.tree.ExprProbe.TheVariants as probes
use Rattle.c_syntax.specs.declared.tree.UnaryOp.{UnaryOp}
use Rattle.c_syntax.specs.declared.tree.UnaryOp.TheVariants as front
use Rattle.c_syntax.specs.Shape.{TypeOf, NoteShape, NodeShape, typed, known, bare}
use Rattle.c_syntax.specs.View.{node_shape}
use Rattle.c_constants.specs.Probes.{probe_number_of}
use Rattle.c_store.specs.declared.value.Value.{Value}
use Rattle.c_store.specs.declared.value.Pointer.{Pointer}
use Rattle.c_tables.specs.Tables.{TablesShape}
use Rattle.c_meaning.specs.declared.end.Stop.{Stop}
use Rattle.c_store.specs.Cells.{read_of}
use Rattle.c_meaning.specs.State.{State, instance_of}
use Rattle.c_meaning.specs.Results.{Got, Gives, Stops, then_do, turn, untyped, settled, present}
use Rattle.c_meaning.specs.Places.{variable_place, whole}
use Rattle.c_meaning.specs.Knot.{Knot}
use Rattle.c_meaning.specs.Expressions.{gives}
use Rattle.c_world.specs.Steps.{found}
use Rattle.c_world.specs.declared.world.World.{World}
use Rattle.c_eval.specs.declared.frame.Wait.{Wait}
use Rattle.c_eval.specs.declared.frame.Wait.TheVariants as wait
use Rattle.c_eval.specs.declared.frame.Passed.{Passed}
use Rattle.c_eval.specs.declared.frame.Passed.TheVariants as passed
use Rattle.c_eval_once.specs.declared.reply.Reply.{Reply}
use Rattle.c_eval_once.specs.declared.reply.Reply.TheVariants as reply
use Rattle.c_eval_once.specs.Parts.{value, place, replied}
use Rattle.c_eval_once.specs.Forms.{is_variable, is_deref, is_of_place}

-- ---- groups of forms

-- a place without parentheses and probes, or a comma
abbrev pub has_place : Note → Expr → Bool
has_place n (Name x) = is_variable n
has_place n (Index' _ p o m a _ p' o' m' b) = true
has_place n (Member' _ p o m a x q) = true
has_place n (Arrow' _ p o m a x q) = true
has_place n (Unary' u _ p o m a) = is_deref u
has_place n (Comma' _ p o m a _ p' o' m' b) = true
has_place n _ = false

-- no parenthesis, and no probe but one of a place
abbrev pub is_bare : Expr → Bool
is_bare (Paren' _ p o m a) = false
is_bare (Probe' u _ p o m a) = is_of_place u
is_bare _ = true

-- no parenthesis, and no probe through which a place is found
abbrev pub is_block : ExprProbe → Bool
is_block (probes.Block x) = true
is_block _ = false

abbrev pub is_bare_place : Expr → Bool
is_bare_place (Paren' _ p o m a) = false
is_bare_place (Probe' (probes.Test x) _ p o m a) = true
is_bare_place (Probe' (probes.Select' x n cs) _ p o m a) = true
is_bare_place (Probe' u _ p o m a) = false
is_bare_place _ = true

abbrev pub IsBare : Passed → Type 0
IsBare (passed.Node e) = is_bare e.now.form ≡ true
IsBare (passed.Stopped why) = Unit {0}

abbrev pub IsBarePlace : Passed → Type 0
IsBarePlace (passed.Node e) = is_bare_place e.now.form ≡ true
IsBarePlace (passed.Stopped why) = Unit {0}

abbrev pub is_prefix : Expr → Bool
is_prefix (Unary' front.Deref _ p o m a) = false
is_prefix (Unary' u _ p o m a) = true
is_prefix (Step' u _ p o m a) = true
is_prefix (Cast' y _ p o m a) = true
is_prefix _ = false

abbrev pub is_infix : Expr → Bool
is_infix (Binary' u _ p o m a _ p' o' m' b) = true
is_infix (And' _ p o m a _ p' o' m' b) = true
is_infix (Or' _ p o m a _ p' o' m' b) = true
is_infix (Cond' _ p o m a _ p' o' m' b _ p'' o'' m'' c) = true
is_infix (Assign' u _ p o m a _ p' o' m' b) = true
is_infix (Comma' _ p o m a _ p' o' m' b) = true
is_infix _ = false

-- an operator behind whose first operand another one is evaluated or not, or a comma
abbrev pub is_choosing : Expr → Bool
is_choosing (And' _ p o m a _ p' o' m' b) = true
is_choosing (Or' _ p o m a _ p' o' m' b) = true
is_choosing (Cond' _ p o m a _ p' o' m' b _ p'' o'' m'' c) = true
is_choosing (Comma' _ p o m a _ p' o' m' b) = true
is_choosing _ = false

-- ---- what is handed on

-- a node behind parentheses and probes, or a stop
abbrev pub passed_value : TablesShape → Knot → Passed → State → Got (Option Value)
passed_value t k (passed.Node e) s = value t k (node_shape e.now) s
passed_value t k (passed.Stopped why) s = Stops why s

abbrev pub passed_place : TablesShape → Knot → Passed → State → Got Pointer
passed_place t k (passed.Node e) s = place t k (node_shape e.now) s
passed_place t k (passed.Stopped why) s = Stops why s

-- ---- waits

-- a probe waits
abbrev pub is_probe : Wait → Bool
is_probe wait.Probe = true
is_probe wait.Operand = false
is_probe wait.Place = false
is_probe wait.Read = false
is_probe (wait.Second v) = false
is_probe wait.Truth = false
is_probe (wait.Into q) = false
is_probe (wait.Combine q x) = false
is_probe (wait.Copy q) = false
is_probe wait.Chosen = false
is_probe wait.Comma = false
is_probe (wait.Argument kinds others done) = false

-- what can do with no value
abbrev pub takes_none : Wait → Bool
takes_none wait.Operand = true
takes_none wait.Chosen = true
takes_none wait.Comma = true
takes_none wait.Probe = false
takes_none wait.Place = false
takes_none wait.Read = false
takes_none (wait.Second v) = false
takes_none wait.Truth = false
takes_none (wait.Into q) = false
takes_none (wait.Combine q x) = false
takes_none (wait.Copy q) = false
takes_none (wait.Argument kinds others done) = false

-- behind it nothing of the node is evaluated
abbrev pub is_last : Wait → Bool
is_last (wait.Second v) = true
is_last wait.Truth = true
is_last (wait.Into q) = true
is_last (wait.Combine q x) = true
is_last wait.Chosen = true
is_last wait.Operand = false
is_last wait.Probe = false
is_last wait.Place = false
is_last wait.Read = false
is_last (wait.Copy q) = false
is_last wait.Comma = false
is_last (wait.Argument kinds others done) = false
