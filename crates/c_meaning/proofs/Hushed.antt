-- A run of which nothing is told, beside one of which all is told: the states are the same but for the deeds. What asks for no call and
-- no loop keeps this.
use Rattle.std.proofs.Common.{◌≡◌, ℕ, zero, suc, ◌-◌, List, [], ◌∷◌, Option, Some, None, Result, Ok, Err, Bool, true, false, ◌∙◌, refl, ap}
use Rattle.std.specs.Prelude.{nat_le, nat_lt, ◌+◌, length, bytes_eq, replicate, if◌then◌else◌}
use Rattle.c_events.specs.declared.events.Event.{Event}
use Rattle.c_syntax.specs.declared.text.Text.{Text}
use Rattle.c_syntax.specs.declared.tree.Named.{Named}
use Rattle.c_syntax.specs.Shape.{TypeOf, int, pointer, array, structure, nothing, NoteShape, bare, typed, known, NodeShape}
use Rattle.c_constants.specs.declared.numbers.Number.{Number}
use Rattle.c_constants.specs.Probes.{probe_number_of}
use Rattle.c_store.specs.declared.value.Value.{Value}
use Rattle.c_store.specs.declared.value.Value.TheVariants.{Int, Null, At}
use Rattle.c_store.specs.declared.value.Pointer.{Pointer}
use Rattle.c_store.specs.declared.value.Fault.{Fault}
use Rattle.c_store.specs.declared.value.MakeErr.{MakeErr}
use Rattle.c_store.specs.Cells.{Cells, read_of, write_of, selected, made}
use Rattle.c_tables.specs.Tables.{TablesShape}
use Rattle.c_tables.specs.Builtins.{builtin_name}
use Rattle.c_tables.specs.declared.builtins.Builtin.TheVariants.{GetChar, PutChar, Exit}
use Rattle.c_walk.specs.Tests.{is_logical}
use Rattle.c_meaning.specs.State.{Act, tells, repeats, State, instance_of}
use Rattle.c_meaning.specs.Results.{Got, Gives, Stops, then_do, turn_of, turn, turns, untyped, settled, present, needed}
use Rattle.c_meaning.specs.Layout.{Part, cells, part_in}
use Rattle.c_meaning.specs.Firsts.{First, quiet, heard, noted_block, noted_outcome, noted_test, noted_use, noted_def, noted_made, noted_begun}
use Rattle.c_meaning.specs.Places.{whole, first_cell, next_cell, logs_one, logs, log_use, log_def, loaded, stored, fetched, variable_place, part_place, field_place, room, has_part, selected_place}
use Rattle.c_meaning.specs.Builtins.{next_byte, put_byte, exits, built_in}
use Rattle.c_meaning.specs.Expressions.{gives, number_value, literal_value, noted_value, written, stepped_from}
use Rattle.c_meaning.specs.Declarations.{new_instance, make, name_marks, filled, filled_whole, scalar_written}

abbrev pub hush : State → State
hush s = record s { deeds = [] }

abbrev pub hushed : {A : Type 0} → Got A → Got A
hushed (Gives a s) = Gives a (hush s)
hushed (Stops why s) = Stops why (hush s)

-- ---- in general

pub hush_then : {A B : Type 0} (q r : Got A) (h g : A → State → Got B) → q ≡ hushed r → ((a : A) (s : State) → h a (hush s) ≡ hushed (g a s)) → then_do q h ≡ hushed (then_do r g)
hush_then q (Gives a s) h g e go = ap (λ z. then_do z h) e ∙ go a s
hush_then q (Stops why s) h g e go = ap (λ z. then_do z h) e

hush_turn_of : {A : Type 0} (m : ℕ) (s : State) (h g : State → Got A) → ((s : State) → h (hush s) ≡ hushed (g s)) → turn_of m (hush s) h ≡ hushed (turn_of m s g)
hush_turn_of zero s h g go = refl
hush_turn_of (suc m) s h g go = go (record s { turns = m })

pub hush_turn : {A : Type 0} (s : State) (h g : State → Got A) → ((s : State) → h (hush s) ≡ hushed (g s)) → turn (hush s) h ≡ hushed (turn s g)
hush_turn s h g go = hush_turn_of s.turns s h g go

pub hush_if : {A : Type 0} (b : Bool) (q r q' r' : Got A) → q ≡ hushed r → q' ≡ hushed r' → (if b then q else q') ≡ hushed (if b then r else r')
hush_if true q r q' r' d e = d
hush_if false q r q' r' d e = e

pub hush_turns : {A : Type 0} (m : ℕ) (s : State) (h g : State → Got A) → ((s : State) → h (hush s) ≡ hushed (g s)) → turns m (hush s) h ≡ hushed (turns m s g)
hush_turns m s h g go = hush_if (nat_le m s.turns) _ _ _ _ (go (record s { turns = s.turns - m })) refl

pub hush_settled : {A : Type 0} (r : Result A Fault) (s : State) → settled r (hush s) ≡ hushed (settled r s)
hush_settled (Ok a) s = refl
hush_settled (Err why) s = refl

pub hush_present : {A : Type 0} (r : Option A) (s : State) → present r (hush s) ≡ hushed (present r s)
hush_present (Some a) s = refl
hush_present None s = refl

pub hush_needed : (q r : Got (Option Value)) → q ≡ hushed r → needed q ≡ hushed (needed r)
hush_needed q r e = hush_then q r present present e hush_present

-- ---- probes

-- a way to log that looks at no deed
abbrev pub Deaf : (ℕ → State → State) → Type 0
Deaf log = (m : ℕ) (s : State) → log m (hush s) ≡ hush (log m s)

hush_one : {A : Type 0} (log : ℕ → State → State) (x : Option ℕ) (q s : State) (h g : State → Got A) → Deaf log → q ≡ hush s → ((q s : State) → q ≡ hush s → h q ≡ hushed (g s)) → logs_one log x q h ≡ hushed (logs_one log x s g)
hush_one log None q s h g deaf e go = ap (λ z. logs_one log None z h) e
hush_one log (Some m) q s h g deaf e go = go (log m q) (log m s) (ap (log m) e ∙ deaf m s)

pub hush_logs : {A : Type 0} (log : ℕ → State → State) (xs : List Text) (q s : State) (h g : State → Got A) → Deaf log → q ≡ hush s → ((s : State) → h (hush s) ≡ hushed (g s)) → logs log xs q h ≡ hushed (logs log xs s g)
hush_logs log [] q s h g deaf e go = ap h e ∙ go s
hush_logs log (x ∷ xs) q s h g deaf e go = hush_one log (probe_number_of x) q s _ _ deaf e (λ q s e. hush_logs log xs q s h g deaf e go)

-- ---- what is told

pub block_hush : (b : Bool) (i : First) (s : State) → hush s ≡ hush (noted_block b i s)
block_hush b (quiet m) s = refl
block_hush true (heard c w) s = refl
block_hush false (heard c w) s = refl

pub outcome_hush : (i : First) (o : ℕ) (s : State) → hush s ≡ hush (noted_outcome i o s)
outcome_hush (quiet m) o s = refl
outcome_hush (heard c w) o s = refl

pick_hush : (b : Bool) (q s : State) → hush s ≡ hush q → hush s ≡ hush (if b then s else q)
pick_hush true q s e = refl
pick_hush false q s e = e

pub test_hush : (a : NodeShape) (i : First) (b : Bool) (s : State) → hush s ≡ hush (noted_test a i b s)
test_hush a (quiet m) b s = refl
test_hush a (heard c w) b s = pick_hush (is_logical a) _ s refl

pub use_hush : (way : Event → Act) (i : First) (q : Pointer) (s : State) → hush s ≡ hush (noted_use way i q s)
use_hush way (quiet m) q s = refl
use_hush way (heard c w) q s = refl

pub def_hush : (way : Event → Act) (i : First) (q : Pointer) (s : State) → hush s ≡ hush (noted_def way i q s)
def_hush way (quiet m) q s = refl
def_hush way (heard c w) q s = refl

pub made_hush : (i : First) (v : ℕ) (s : State) → hush s ≡ hush (noted_made i v s)
made_hush (quiet m) v s = refl
made_hush (heard c w) v s = refl

pub begun_hush : (i : First) (f : ℕ) (s : State) → hush s ≡ hush (noted_begun i f s)
begun_hush (quiet m) f s = refl
begun_hush (heard c w) f s = refl

-- ---- places

pub loaded_hush : (xs : List Text) (m : ℕ) (i : First) (q : Pointer) (s : State) → loaded xs (quiet m) q (hush s) ≡ hushed (loaded xs i q s)
loaded_hush xs m i q s = hush_then _ _ _ _ (hush_settled (read_of s.store q) s) (λ v s. hush_logs (log_use q) xs (hush s) (noted_use tells i q s) _ _ (λ m s. refl) (use_hush tells i q s) (λ s. refl))

pub stored_hush : (way : Event → Act) (xs : List Text) (m : ℕ) (i : First) (q : Pointer) (v : Value) (s : State) → stored way xs (quiet m) q v (hush s) ≡ hushed (stored way xs i q v s)
stored_hush way xs m i q v s = hush_then _ _ _ _ (hush_settled (write_of s.store q v) s) (λ c s. hush_logs (log_def q) xs (hush (record s { store = c })) (noted_def way i q (record s { store = c })) _ _ (λ m s. refl) (def_hush way i q (record s { store = c })) (λ s. refl))

selected_hush : (q : Pointer) (offset n size : ℕ) (s : State) → selected_place q offset n size (hush s) ≡ hushed (selected_place q offset n size s)
selected_hush q offset n size s = hush_if (has_part q offset n size) _ _ (untyped (hush s)) (untyped s) (hush_settled (selected s.store q offset n size) s) refl

pub fetched_hush : (t : TablesShape) (n : NoteShape) (xs : List Text) (m : ℕ) (i : First) (q : Pointer) (s : State) → fetched t n xs (quiet m) q (hush s) ≡ hushed (fetched t n xs i q s)
fetched_hush t (typed (int k) c) xs m i q s = hush_then _ _ _ _ (loaded_hush xs m i q s) (λ v s. refl)
fetched_hush t (typed (pointer k) c) xs m i q s = hush_then _ _ _ _ (loaded_hush xs m i q s) (λ v s. refl)
fetched_hush t (typed (array k n) c) xs m i q s = hush_then _ _ _ _ (selected_hush q 0 n (cells t k) s) (λ q s. refl)
fetched_hush t (typed (structure n) c) xs m i q s = refl
fetched_hush t (typed nothing c) xs m i q s = refl
fetched_hush t (known k v) xs m i q s = refl
fetched_hush t bare xs m i q s = refl

pub variable_hush : (t : TablesShape) (k : TypeOf) (v : ℕ) (s : State) → variable_place t k v (hush s) ≡ hushed (variable_place t k v s)
variable_hush t k v s = hush_then _ _ _ _ (hush_present (instance_of v s) s) (λ j s. hush_if (nat_le (cells t k) room) (Gives (whole j (cells t k)) (hush s)) (Gives (whole j (cells t k)) s) (untyped (hush s)) (untyped s) refl refl)

part_hush : (t : TablesShape) (part : Option Part) (q : Pointer) (s : State) → part_place t part q (hush s) ≡ hushed (part_place t part q s)
part_hush t None q s = refl
part_hush t (Some part) q s = selected_hush q part.offset 1 (cells t part.kind) s

pub field_hush : (t : TablesShape) (x : Text) (k : TypeOf) (q : Pointer) (s : State) → field_place t x k q (hush s) ≡ hushed (field_place t x k q s)
field_hush t x k q s = part_hush t (part_in t x k) q s

pub written_hush : (k : TypeOf) (xs : List Text) (m : ℕ) (i : First) (q : Pointer) (v : Value) (s : State) → written k xs (quiet m) q v (hush s) ≡ hushed (written k xs i q v s)
written_hush k xs m i q v s = hush_then _ _ _ _ (stored_hush tells xs m i q _ s) (λ v s. refl)

pub stepped_hush : (front : Bool) (x : Value) (v : Option Value) (s : State) → stepped_from front x v (hush s) ≡ hushed (stepped_from front x v s)
stepped_hush true x v s = refl
stepped_hush false x v s = refl

-- ---- constants

pub number_hush : (x : Option Number) (s : State) → number_value x (hush s) ≡ hushed (number_value x s)
number_hush None s = refl
number_hush (Some x) s = refl

pub literal_hush : (n : NoteShape) (x : Text) (s : State) → literal_value n x (hush s) ≡ hushed (literal_value n x s)
literal_hush (typed k (Some j)) x s = hush_if (nat_lt (length x) room) (gives (At (first_cell j (length x + 1))) (hush s)) (gives (At (first_cell j (length x + 1))) s) (untyped (hush s)) (untyped s) refl refl
literal_hush (typed k None) x s = refl
literal_hush (known k v) x s = refl
literal_hush bare x s = refl

pub noted_hush : (n : NoteShape) (s : State) → noted_value n (hush s) ≡ hushed (noted_value n s)
noted_hush (known k v) s = refl
noted_hush (typed k j) s = refl
noted_hush bare s = refl

-- ---- functions that every program has

next_hush : (bs : List ℕ) (s : State) → next_byte bs (hush s) ≡ hushed (next_byte bs s)
next_hush [] s = refl
next_hush (b ∷ bs) s = refl

put_hush : (vs : List Value) (s : State) → put_byte vs (hush s) ≡ hushed (put_byte vs s)
put_hush (Int z ∷ []) s = refl
put_hush [] s = refl
put_hush (Null ∷ vs) s = refl
put_hush (At q ∷ vs) s = refl
put_hush (Int z ∷ v ∷ vs) s = refl

exits_hush : (vs : List Value) (s : State) → exits vs (hush s) ≡ hushed (exits vs s)
exits_hush (Int z ∷ []) s = refl
exits_hush [] s = refl
exits_hush (Null ∷ vs) s = refl
exits_hush (At q ∷ vs) s = refl
exits_hush (Int z ∷ v ∷ vs) s = refl

pub built_in_hush : (x : Text) (vs : List Value) (s : State) → built_in x vs (hush s) ≡ hushed (built_in x vs s)
built_in_hush x vs s =
    hush_if (bytes_eq x (builtin_name GetChar)) _ _ _ _ (next_hush s.input s)
    (hush_if (bytes_eq x (builtin_name PutChar)) _ _ _ _ (put_hush vs s) (hush_if (bytes_eq x (builtin_name Exit)) _ _ _ _ (exits_hush vs s) refl))

-- ---- instances

pub new_hush : (r : Result Cells MakeErr) (s : State) → new_instance r (hush s) ≡ hushed (new_instance r s)
new_hush (Ok c) s = refl
new_hush (Err why) s = refl

pub make_hush : (t : TablesShape) (k : TypeOf) (s : State) → make t k (hush s) ≡ hushed (make t k s)
make_hush t k s = new_hush (made s.store true (replicate (cells t k) None)) s

filled_hush : (way : Event → Act) (xs : List Text) (m : ℕ) (i : First) (q : Pointer) (vs : List (Option Value)) (s : State) → filled way xs (quiet m) q vs (hush s) ≡ hushed (filled way xs i q vs s)
filled_hush way xs m i q [] s = refl
filled_hush way xs m i q (None ∷ vs) s = filled_hush way xs m i (next_cell q) vs s
filled_hush way xs m i q (Some v ∷ vs) s = hush_then _ _ _ _ (stored_hush way xs m i q v s) (λ v s. filled_hush repeats xs m i (next_cell q) vs s)

pub whole_hush : (t : TablesShape) (k : TypeOf) (x : Option Named) (m : ℕ) (i : First) (j : ℕ) (vs : List (Option Value)) (s : State) → filled_whole t k x (quiet m) j vs (hush s) ≡ hushed (filled_whole t k x i j vs s)
whole_hush t k x m i j vs s = filled_hush tells (name_marks x) m i (first_cell j (cells t k)) vs s

pub scalar_hush : (x : Option Named) (m : ℕ) (i : First) (j : ℕ) (v : Value) (s : State) → scalar_written x (quiet m) j v (hush s) ≡ hushed (scalar_written x i j v s)
scalar_hush x m i j v s = hush_then _ _ _ _ (stored_hush tells (name_marks x) m i (whole j 1) v s) (λ v s. refl)
