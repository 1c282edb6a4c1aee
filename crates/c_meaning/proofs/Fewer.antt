-- What asks for no call and no loop leaves no more turns than there were.
use Rattle.std.proofs.Common.{ℕ, ◌<◌, List, [], ◌∷◌, Option, Some, None, Result, Ok, Err, Bool, true, false, refl, arith}
use Rattle.std.specs.Prelude.{nat_le, nat_lt, ◌+◌, length, bytes_eq, replicate}
use Rattle.c_events.specs.declared.events.Event.{Event}
use Rattle.c_syntax.specs.declared.text.Text.{Text}
use Rattle.c_syntax.specs.declared.tree.Named.{Named}
use Rattle.c_syntax.specs.Shape.{TypeOf, int, pointer, array, structure, nothing, NoteShape, bare, typed, known}
use Rattle.c_constants.specs.declared.numbers.Number.{Number}
use Rattle.c_store.specs.declared.value.Value.{Value}
use Rattle.c_store.specs.declared.value.Value.TheVariants.{Int, Null, At}
use Rattle.c_store.specs.declared.value.Pointer.{Pointer}
use Rattle.c_store.specs.declared.value.MakeErr.{MakeErr}
use Rattle.c_store.specs.Cells.{Cells, read_of, write_of, selected, made}
use Rattle.c_tables.specs.Tables.{TablesShape}
use Rattle.c_tables.specs.Builtins.{builtin_name}
use Rattle.c_tables.specs.declared.builtins.Builtin.TheVariants.{GetChar, PutChar, Exit}
use Rattle.c_meaning.specs.State.{Act, tells, repeats, State, instance_of}
use Rattle.c_meaning.specs.Results.{Gives, untyped}
use Rattle.c_meaning.specs.Layout.{Part, cells, part_in}
use Rattle.c_meaning.specs.Firsts.{First, noted_use, noted_def}
use Rattle.c_meaning.specs.Places.{whole, first_cell, log_use, log_def, loaded, stored, fetched, variable_place, part_place, field_place, room, has_part, selected_place}
use Rattle.c_meaning.specs.Builtins.{next_byte, put_byte, exits, built_in}
use Rattle.c_meaning.specs.Expressions.{gives, number_value, literal_value, noted_value, written, stepped_from}
use Rattle.c_meaning.specs.Declarations.{new_instance, make, name_marks, filled, filled_whole, scalar_written}
use Rattle.c_meaning.proofs.Alike.{Left, left_then, if_left, settled_left, present_left, logs_left, use_turns, def_turns}

-- ---- places

pub loaded_left : (n : ℕ) (xs : List Text) (i : First) (q : Pointer) (s : State) → s.turns < n → Left n (loaded xs i q s)
loaded_left n xs i q s lt = left_then n _ _ (settled_left n (read_of s.store q) s lt) (λ v s lt. logs_left n (log_use q) xs (noted_use tells i q s) _ (λ m s. refl) (omega (arith, use_turns tells i q s)) (λ s lt. lt))

pub stored_left : (n : ℕ) (way : Event → Act) (xs : List Text) (i : First) (q : Pointer) (v : Value) (s : State) → s.turns < n → Left n (stored way xs i q v s)
stored_left n way xs i q v s lt = left_then n _ _ (settled_left n (write_of s.store q v) s lt) (λ c s lt. logs_left n (log_def q) xs (noted_def way i q (record s { store = c })) _ (λ m s. refl) (omega (arith, def_turns way i q (record s { store = c }))) (λ s lt. lt))

selected_left : (n : ℕ) (q : Pointer) (offset m size : ℕ) (s : State) → s.turns < n → Left n (selected_place q offset m size s)
selected_left n q offset m size s lt = if_left n (has_part q offset m size) _ _ (settled_left n (selected s.store q offset m size) s lt) tt

pub fetched_left : (t : TablesShape) (n : ℕ) (m : NoteShape) (xs : List Text) (i : First) (q : Pointer) (s : State) → s.turns < n → Left n (fetched t m xs i q s)
fetched_left t n (typed (int k) c) xs i q s lt = left_then n _ _ (loaded_left n xs i q s lt) (λ v s lt. lt)
fetched_left t n (typed (pointer k) c) xs i q s lt = left_then n _ _ (loaded_left n xs i q s lt) (λ v s lt. lt)
fetched_left t n (typed (array k m) c) xs i q s lt = left_then n _ _ (selected_left n q 0 m (cells t k) s lt) (λ q s lt. lt)
fetched_left t n (typed (structure m) c) xs i q s lt = lt
fetched_left t n (typed nothing c) xs i q s lt = lt
fetched_left t n (known k v) xs i q s lt = tt
fetched_left t n bare xs i q s lt = tt

pub variable_left : (t : TablesShape) (n : ℕ) (k : TypeOf) (v : ℕ) (s : State) → s.turns < n → Left n (variable_place t k v s)
variable_left t n k v s lt = left_then n _ _ (present_left n (instance_of v s) s lt) (λ j s lt. if_left n (nat_le (cells t k) room) (Gives (whole j (cells t k)) s) (untyped s) lt tt)

part_left : (t : TablesShape) (n : ℕ) (part : Option Part) (q : Pointer) (s : State) → s.turns < n → Left n (part_place t part q s)
part_left t n None q s lt = tt
part_left t n (Some part) q s lt = selected_left n q part.offset 1 (cells t part.kind) s lt

pub field_left : (t : TablesShape) (n : ℕ) (x : Text) (k : TypeOf) (q : Pointer) (s : State) → s.turns < n → Left n (field_place t x k q s)
field_left t n x k q s lt = part_left t n (part_in t x k) q s lt

pub written_left : (n : ℕ) (k : TypeOf) (xs : List Text) (i : First) (q : Pointer) (v : Value) (s : State) → s.turns < n → Left n (written k xs i q v s)
written_left n k xs i q v s lt = left_then n _ _ (stored_left n tells xs i q _ s lt) (λ v s lt. lt)

pub stepped_left : (n : ℕ) (front : Bool) (x : Value) (v : Option Value) (s : State) → s.turns < n → Left n (stepped_from front x v s)
stepped_left n true x v s lt = lt
stepped_left n false x v s lt = lt

-- ---- constants

pub number_left : (n : ℕ) (x : Option Number) (s : State) → s.turns < n → Left n (number_value x s)
number_left n None s lt = tt
number_left n (Some x) s lt = lt

pub literal_left : (n : ℕ) (m : NoteShape) (x : Text) (s : State) → s.turns < n → Left n (literal_value m x s)
literal_left n (typed k (Some j)) x s lt = if_left n (nat_lt (length x) room) (gives (At (first_cell j (length x + 1))) s) (untyped s) lt tt
literal_left n (typed k None) x s lt = tt
literal_left n (known k v) x s lt = tt
literal_left n bare x s lt = tt

pub noted_left : (n : ℕ) (m : NoteShape) (s : State) → s.turns < n → Left n (noted_value m s)
noted_left n (known k v) s lt = lt
noted_left n (typed k j) s lt = tt
noted_left n bare s lt = tt

-- ---- functions that every program has

next_left : (n : ℕ) (bs : List ℕ) (s : State) → s.turns < n → Left n (next_byte bs s)
next_left n [] s lt = lt
next_left n (b ∷ bs) s lt = lt

put_left : (n : ℕ) (vs : List Value) (s : State) → s.turns < n → Left n (put_byte vs s)
put_left n (Int z ∷ []) s lt = lt
put_left n [] s lt = tt
put_left n (Null ∷ vs) s lt = tt
put_left n (At q ∷ vs) s lt = tt
put_left n (Int z ∷ v ∷ vs) s lt = tt

exits_left : (n : ℕ) (vs : List Value) (s : State) → Left n (exits vs s)
exits_left n (Int z ∷ []) s = tt
exits_left n [] s = tt
exits_left n (Null ∷ vs) s = tt
exits_left n (At q ∷ vs) s = tt
exits_left n (Int z ∷ v ∷ vs) s = tt

pub built_in_left : (n : ℕ) (x : Text) (vs : List Value) (s : State) → s.turns < n → Left n (built_in x vs s)
built_in_left n x vs s lt =
    if_left n (bytes_eq x (builtin_name GetChar)) _ _ (next_left n s.input s lt)
    (if_left n (bytes_eq x (builtin_name PutChar)) _ _ (put_left n vs s lt) (if_left n (bytes_eq x (builtin_name Exit)) _ _ (exits_left n vs s) tt))

-- ---- instances

new_left : (n : ℕ) (r : Result Cells MakeErr) (s : State) → s.turns < n → Left n (new_instance r s)
new_left n (Ok c) s lt = lt
new_left n (Err why) s lt = tt

pub make_left : (t : TablesShape) (n : ℕ) (k : TypeOf) (s : State) → s.turns < n → Left n (make t k s)
make_left t n k s lt = new_left n (made s.store true (replicate (cells t k) None)) s lt

pub filled_left : (n : ℕ) (way : Event → Act) (xs : List Text) (i : First) (q : Pointer) (vs : List (Option Value)) (s : State) → s.turns < n → Left n (filled way xs i q vs s)
filled_left n way xs i q [] s lt = lt
filled_left n way xs i q (None ∷ vs) s lt = filled_left n way xs i _ vs s lt
filled_left n way xs i q (Some v ∷ vs) s lt = left_then n _ _ (stored_left n way xs i q v s lt) (λ v s lt. filled_left n repeats xs i _ vs s lt)

pub scalar_left : (n : ℕ) (x : Option Named) (i : First) (j : ℕ) (v : Value) (s : State) → s.turns < n → Left n (scalar_written x i j v s)
scalar_left n x i j v s lt = left_then n _ _ (stored_left n tells (name_marks x) i (whole j 1) v s lt) (λ v s lt. lt)

pub whole_left : (t : TablesShape) (n : ℕ) (k : TypeOf) (x : Option Named) (i : First) (j : ℕ) (vs : List (Option Value)) (s : State) → s.turns < n → Left n (filled_whole t k x i j vs s)
whole_left t n k x i j vs s lt = filled_left n tells (name_marks x) i (first_cell j (cells t k)) vs s lt
