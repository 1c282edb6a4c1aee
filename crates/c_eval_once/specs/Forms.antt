-- The groups of forms that are told apart, and what is handed on at once.
use Rattle.std.specs.Prelude.{◌≡◌, ℕ, ◌<◌, Bool, true, false, Option, Some, None, Result, Ok, Err, if◌then◌else◌}
use Rattle.c_syntax.specs.declared.text.Text.{Text}
use Rattle.c_syntax.specs.declared.tree.CType.{CType}
use Rattle.c_syntax.specs.declared.tree.CType.TheVariants as ctype
use Rattle.c_syntax.specs.declared.tree.Note.{Note}
use Rattle.c_syntax.specs.declared.tree.Note.TheVariants as note
use Rattle.c_syntax.specs.declared.tree.Expr.{Expr}
use Rattle.c_syntax.specs.declared.tree.Expr.TheVariants.{Number, Char, Str, Name, Paren', Index', Member', Arrow', Unary', Step', SizeOf', SizeOfType, Cast', Binary', And', Or', Cond', Assign', Comma', Probe'}
use Rattle.c_syntax.specs.declared.tree.ExprProbe.{ExprProbe}
use Rattle.c_syntax.specs.declared.tree.ExprProbe.TheVariants as probes
use Rattle.c_syntax.specs.declared.tree.UnaryOp.{UnaryOp}
use Rattle.c_syntax.specs.declared.tree.UnaryOp.TheVariants as front
use Rattle.c_syntax.specs.Shape.{TypeOf, NoteShape, NodeShape, typed, known, bare}
use Rattle.c_syntax.specs.View.{node_shape}
use Rattle.c_constants.specs.Probes.{probe_number_of}
use Rattle.c_store.specs.declared.value.Value.{Value}
use Rattle.c_store.specs.declared.value.Pointer.{Pointer}
use Rattle.c_tables.specs.Tables.{TablesShape}
use Rattle.c_meaning.specs.declared.end.Stop.{Stop}
use Rattle.c_store.specs.Cells.{read_of}
use Rattle.c_meaning.specs.State.{State, instance_of}
use Rattle.c_meaning.specs.Results.{Got, Gives, Stops, then_do, turn, untyped, settled, present}
use Rattle.c_meaning.specs.Places.{variable_place, whole}
use Rattle.c_meaning.specs.Knot.{Knot}
use Rattle.c_meaning.specs.Expressions.{gives}
use Rattle.c_world.specs.Steps.{found}
use Rattle.c_world.specs.declared.world.World.{World}
use Rattle.c_eval_once.specs.declared.reply.Answer.{Answer}
use Rattle.c_eval_once.specs.declared.reply.Answer.TheVariants as answer
use Rattle.c_eval_once.specs.declared.reply.Spot.{Spot}
use Rattle.c_eval_once.specs.declared.reply.Spot.TheVariants as spot
use Rattle.c_eval_once.specs.Parts.{value, place}

-- the program, the limit of turns and the names are the same
pub record Kept (v w : World) : Type 0 where
  pub program : w.program.now ≡ v.program.now
  pub limit : w.limit ≡ v.limit
  pub names : w.names ≡ v.names

-- it names a variable
abbrev pub is_variable : Note → Bool
is_variable (note.Typed t (Some n)) = true
is_variable (note.Typed t None) = false
is_variable (note.Known t v) = false
is_variable note.Bare = false

abbrev pub is_deref : UnaryOp → Bool
is_deref front.AddressOf = false
is_deref front.Deref = true
is_deref front.Plus = false
is_deref front.Minus = false
is_deref front.Flip = false
is_deref front.Not = false

abbrev pub is_address : UnaryOp → Bool
is_address front.AddressOf = true
is_address front.Deref = false
is_address front.Plus = false
is_address front.Minus = false
is_address front.Flip = false
is_address front.Not = false

-- the probe stands round a place
abbrev pub is_of_place : ExprProbe → Bool
is_of_place (probes.Block x) = false
is_of_place (probes.Test x) = false
is_of_place (probes.Select' x n cs) = false
is_of_place (probes.Use x) = true
is_of_place (probes.Def x) = true

-- a place, whose value is read from it
abbrev pub standing : Note → Expr → Bool
standing n (Name x) = is_variable n
standing n (Index' _ p o m a _ p' o' m' b) = true
standing n (Member' _ p o m a x q) = true
standing n (Arrow' _ p o m a x q) = true
standing n (Unary' u _ p o m a) = is_deref u
standing n (Probe' u _ p o m a) = is_of_place u
standing n _ = false

-- constants, literals, names of constants, and `sizeof`
abbrev pub is_leaf : Note → Expr → Bool
is_leaf n (Number x) = true
is_leaf n (Char c) = true
is_leaf n (Str x) = true
is_leaf (note.Typed t (Some v)) (Name x) = false
is_leaf n (Name x) = true
is_leaf n (SizeOf' _ p o m a) = true
is_leaf n (SizeOfType y) = true
is_leaf n _ = false

-- a scalar or an array, whose value needs no more than its place
abbrev pub has_value : CType → Bool
has_value (ctype.Int k) = true
has_value (ctype.Pointer' _ t) = true
has_value (ctype.Array' _ t n) = true
has_value (ctype.Struct n) = false
has_value ctype.Void = false

abbrev pub is_valued : Note → Bool
is_valued (note.Typed t n) = has_value t
is_valued (note.Known t v) = false
is_valued note.Bare = false

-- a constant, or a variable that has a value
abbrev pub is_name : Note → Bool
is_name (note.Typed t (Some v)) = has_value t
is_name (note.Typed t None) = true
is_name (note.Known t v) = true
is_name note.Bare = true

abbrev pub IsNamed : Expr → Type 0
IsNamed f = (x : Text) × (f ≡ Name x)

-- a value or none, or why the run stops
abbrev pub fetched_as : Result (Option Value) Stop → State → Got (Option Value)
fetched_as (Ok v) s = Gives v s
fetched_as (Err why) s = Stops why s

-- nothing, where cells were copied, which has no value; or why the run stops
abbrev pub copied_as : Option Stop → State → Got (Option Value)
copied_as None s = Gives None s
copied_as (Some why) s = Stops why s

-- the value of a variable that has one cell, with its turn
abbrev pub scalar_value : ℕ → State → Got Value
scalar_value v s = turn s (λ s. then_do (present (instance_of v s) s) (λ j s. settled (read_of s.store (whole j 1)) s))

-- the answer is what is come to, with the state after it; nothing is said of want of memory. As an expression's value, as a cell's, as a
-- place
abbrev pub Meets : Answer → State → Got (Option Value) → Type 0
Meets (answer.Value v) s r = r ≡ gives v s
Meets (answer.Stopped why) s r = r ≡ Stops why s
Meets answer.NoMemory s r = Unit {0}

abbrev pub Loads : Answer → State → Got Value → Type 0
Loads (answer.Value v) s r = r ≡ Gives v s
Loads (answer.Stopped why) s r = r ≡ Stops why s
Loads answer.NoMemory s r = Unit {0}

abbrev pub Stands : Spot → State → Got Pointer → Type 0
Stands (spot.At q) s r = r ≡ Gives q s
Stands (spot.Stopped why) s r = r ≡ Stops why s
Stands spot.NoMemory s r = Unit {0}

-- a node's turn and value were taken, or nothing was done
abbrev pub IsAtOnce : Option Answer → TablesShape → Knot → NodeShape → State → State → Type 0
IsAtOnce None t k e s s' = s' ≡ s
IsAtOnce (Some a) t k e s s' = Meets a s' (value t k e s)

-- a turn was taken before a value, or a place
abbrev pub IsFewer : Answer → ℕ → ℕ → Type 0
IsFewer (answer.Value v) n m = n < m
IsFewer (answer.Stopped why) n m = Unit {0}
IsFewer answer.NoMemory n m = Unit {0}

abbrev pub IsNearer : Spot → ℕ → ℕ → Type 0
IsNearer (spot.At q) n m = n < m
IsNearer (spot.Stopped why) n m = Unit {0}
IsNearer spot.NoMemory n m = Unit {0}

-- the same of a place
abbrev pub IsPlaceAtOnce : Option (Result Pointer Stop) → TablesShape → Knot → NodeShape → State → State → Type 0
IsPlaceAtOnce None t k e s s' = s' ≡ s
IsPlaceAtOnce (Some r) t k e s s' = place t k e s ≡ found r s'

-- the variable that is noted
abbrev pub noted_place : TablesShape → NoteShape → State → Got Pointer
noted_place t (typed k (Some v)) s = variable_place t k v s
noted_place t n s = untyped s

-- the noted type, where there is one
abbrev pub noted_kind : NoteShape → Option TypeOf
noted_kind (typed k n) = Some k
noted_kind (known k v) = Some k
noted_kind bare = None

-- the probe logged, or has no number
abbrev pub Tells : Bool → (ℕ → State → State) → Text → State → State → Type 0
Tells true log x s s' = (k : ℕ) × (probe_number_of x ≡ Some k) × (s' ≡ log k s)
Tells false log x s s' = (probe_number_of x ≡ None) × (s' ≡ s)

abbrev pub told : {A : Type 0} → Bool → State → (State → Got A) → Got A
told true s go = go s
told false s go = untyped s
