-- A run of a program with its probes, beside the program's own run: the states are the same, but that what the one logs the other does at its
-- nodes. What asks for no call and no loop keeps this.
use Rattle.std.proofs.Common.{◌≡◌, ℕ, zero, suc, ◌-◌, List, [], ◌∷◌, Option, Some, None, Result, Ok, Err, Bool, true, false, ◌∙◌, refl, ap, sym, append-nil, true≢false, arith}
use Rattle.std.specs.Prelude.{◌<◌, ◌≤◌, nat_le, nat_lt, ◌+◌, ◌++◌, length, bytes_eq, replicate, if◌then◌else◌}
use Rattle.std.specs.Fmt.{decimal}
use Rattle.c_events.specs.declared.events.Event.{Event}
use Rattle.c_events.specs.declared.events.Event.TheVariants.{Block, Def, Use, Test}
use Rattle.c_syntax.specs.declared.text.Text.{Text}
use Rattle.c_syntax.specs.declared.tree.Named.{Named}
use Rattle.c_syntax.specs.declared.tree.ProbeMark.{ProbeMark}
use Rattle.c_syntax.specs.Shape.{TypeOf, int, pointer, array, structure, nothing, NoteShape, bare, typed, known}
use Rattle.c_constants.specs.declared.numbers.Number.{Number}
use Rattle.c_store.specs.declared.value.Value.{Value}
use Rattle.c_store.specs.declared.value.Value.TheVariants.{Int, Null, At}
use Rattle.c_store.specs.declared.value.Pointer.{Pointer}
use Rattle.c_store.specs.declared.value.Fault.{Fault}
use Rattle.c_store.specs.declared.value.MakeErr.{MakeErr}
use Rattle.c_store.specs.Cells.{Cells, read_of, write_of, selected, made}
use Rattle.c_tables.specs.Tables.{TablesShape}
use Rattle.c_tables.specs.Builtins.{builtin_name}
use Rattle.c_tables.specs.declared.builtins.Builtin.TheVariants.{GetChar, PutChar, Exit}
use Rattle.c_walk.specs.declared.around.Around.{Around}
use Rattle.c_walk.specs.Places.{has_scalar}
use Rattle.c_walk.specs.Walked.{Walked, next_decision}
use Rattle.c_meaning.specs.State.{Act, begins, makes, tells, repeats, Deed, State, activation, did, logged, instance_of}
use Rattle.c_meaning.specs.Deeds.{told, told_by}
use Rattle.c_meaning.specs.Results.{Got, Gives, Stops, then_do, turn_of, turn, turns, untyped, settled, present, needed}
use Rattle.c_meaning.specs.Operators.{converted}
use Rattle.c_meaning.specs.declared.end.Flow.TheVariants.{Next}
use Rattle.c_meaning.specs.Layout.{Part, cells, part_in}
use Rattle.c_meaning.specs.Firsts.{quiet, heard, cell_at, noted_block, noted_outcome, noted_use, noted_def, noted_made, noted_begun}
use Rattle.c_walk.specs.Counted.{use_count, def_count}
use Rattle.c_meaning.specs.Places.{whole, first_cell, next_cell, logs_one, logs, log_use, log_def, loaded, stored, fetched, variable_place, part_place, field_place, room, has_part, selected_place}
use Rattle.c_meaning.specs.Builtins.{next_byte, put_byte, exits, built_in}
use Rattle.c_meaning.specs.Expressions.{gives, number_value, literal_value, noted_value, written, stepped_from, log_block, log_test}
use Rattle.c_meaning.specs.Declarations.{new_instance, make, mark_texts, name_marks, filled, filled_whole, scalar_written}
use Rattle.probe_rules.specs.Marks.{place_note, defined_name}
use Rattle.c_walk.specs.Counted.{next_block, next_def, next_use}
use Rattle.probe_rules.proofs.Ready.{HasNoProbe, IsNamed}
use Rattle.probe_rules.proofs.ReadNumbers.{number_read}

-- what the one did, the other logged
abbrev pub as_log : State → State
as_log s = record s { deeds = []; log = told s.deeds }

abbrev pub with_log : {A : Type 0} → Got A → Got A
with_log (Gives a s) = Gives a (as_log s)
with_log (Stops why s) = Stops why (as_log s)

-- ---- in general

pub sim_then : {A B : Type 0} (q r : Got A) (h g : A → State → Got B) → q ≡ with_log r → ((a : A) (s : State) → h a (as_log s) ≡ with_log (g a s)) → then_do q h ≡ with_log (then_do r g)
sim_then q (Gives a s) h g e go = ap (λ z. then_do z h) e ∙ go a s
sim_then q (Stops why s) h g e go = ap (λ z. then_do z h) e

sim_turn_of : {A : Type 0} (m : ℕ) (s : State) (h g : State → Got A) → ((s : State) → h (as_log s) ≡ with_log (g s)) → turn_of m (as_log s) h ≡ with_log (turn_of m s g)
sim_turn_of zero s h g go = refl
sim_turn_of (suc m) s h g go = go (record s { turns = m })

pub sim_turn : {A : Type 0} (s : State) (h g : State → Got A) → ((s : State) → h (as_log s) ≡ with_log (g s)) → turn (as_log s) h ≡ with_log (turn s g)
sim_turn s h g go = sim_turn_of s.turns s h g go

pub sim_if : {A : Type 0} (b : Bool) (q r q' r' : Got A) → q ≡ with_log r → q' ≡ with_log r' → (if b then q else q') ≡ with_log (if b then r else r')
sim_if true q r q' r' d e = d
sim_if false q r q' r' d e = e

pub sim_turns : {A : Type 0} (m : ℕ) (s : State) (h g : State → Got A) → ((s : State) → h (as_log s) ≡ with_log (g s)) → turns m (as_log s) h ≡ with_log (turns m s g)
sim_turns m s h g go = sim_if (nat_le m s.turns) _ _ _ _ (go (record s { turns = s.turns - m })) refl

pub sim_settled : {A : Type 0} (r : Result A Fault) (s : State) → settled r (as_log s) ≡ with_log (settled r s)
sim_settled (Ok a) s = refl
sim_settled (Err why) s = refl

pub sim_present : {A : Type 0} (r : Option A) (s : State) → present r (as_log s) ≡ with_log (present r s)
sim_present (Some a) s = refl
sim_present None s = refl

pub sim_needed : (q r : Got (Option Value)) → q ≡ with_log r → needed q ≡ with_log (needed r)
sim_needed q r e = sim_then q r present present e sim_present

-- ---- what is told is what is logged

told_front : (b : Act) (q r rest : List Event) → q ≡ r ++ rest → told_by b q ≡ told_by b r ++ rest
told_front (begins f) q r rest e = e
told_front (makes v j) q r rest e = e
told_front (tells a) q r rest e = ap (λ z. a ∷ z) e
told_front (repeats a) q r rest e = ap (λ z. a ∷ z) e

told_then : (ds : List Deed) (n : ℕ) (a : Act) → told (ds ++ record { activation = n; act = a } ∷ []) ≡ told ds ++ told_by a []
told_then [] n a = refl
told_then (d ∷ ds) n a = told_front d.act _ (told ds) (told_by a []) (told_then ds n a)

-- a way to tell an event
abbrev pub Tells : (Event → Act) → Type 0
Tells way = (e : Event) (rest : List Event) → told_by (way e) rest ≡ e ∷ rest

pub did_told : (way : Event → Act) → Tells way → (e : Event) (s : State) → logged e (as_log s) ≡ as_log (did (way e) s)
did_told way tell e s = ap (λ z. record s { deeds = []; log = z }) (ap (λ z. told s.deeds ++ z) (sym (tell e [])) ∙ sym (told_then s.deeds (activation s) (way e)))

-- a probe with a number that is read back logs, and the run goes on
pub logs_is : {A : Type 0} (log : ℕ → State → State) (k : ℕ) (s : State) (go : State → Got A) → 1 ≤ k → k ≤ 16383 → logs log (decimal k ∷ []) s go ≡ go (log k s)
logs_is log k s go one few = ap (λ z. logs_one log z s (λ s. logs log [] s go)) (number_read k one few)

-- so what goes on from the one state goes on from the other
pub logs_sim : {A : Type 0} (log : ℕ → State → State) (k : ℕ) (s q : State) (h g : State → Got A) → 1 ≤ k → k ≤ 16383 → log k (as_log s) ≡ as_log q → ((s : State) → h (as_log s) ≡ with_log (g s)) → logs log (decimal k ∷ []) (as_log s) h ≡ with_log (g q)
logs_sim log k s q h g one few e go = logs_is log k (as_log s) h one few ∙ (ap h e ∙ go q)

pub tells_tells : Tells tells
tells_tells e rest = refl

pub repeats_tells : Tells repeats
repeats_tells e rest = refl

pub block_told : (c : Around) (w : Walked) (s : State) → log_block (next_block w) (as_log s) ≡ as_log (noted_block true (heard c w) s)
block_told c w s = did_told tells tells_tells (Block (next_block w)) s

pub outcome_told : (c : Around) (w : Walked) (o : ℕ) (s : State) → log_test o (next_decision w) (as_log s) ≡ as_log (noted_outcome (heard c w) o s)
outcome_told c w o s = did_told tells tells_tells (Test (next_decision w) o (activation s)) s

pub use_told : (way : Event → Act) → Tells way → (c : Around) (w : Walked) (q : Pointer) (s : State) → log_use q (next_use w) (as_log s) ≡ as_log (noted_use way (heard c w) q s)
use_told way tell c w q s = did_told way tell (Use (next_use w) (cell_at q) (activation s)) s

pub def_told : (way : Event → Act) → Tells way → (c : Around) (w : Walked) (q : Pointer) (s : State) → log_def q (next_def w) (as_log s) ≡ as_log (noted_def way (heard c w) q s)
def_told way tell c w q s = did_told way tell (Def (next_def w) (cell_at q)) s

-- what is no event is not told
pub made_told : (c : Around) (w : Walked) (v : ℕ) (s : State) → as_log s ≡ as_log (noted_made (heard c w) v s)
made_told c w v s = ap (λ z. record s { deeds = []; log = z }) (sym (append-nil (told s.deeds)) ∙ sym (told_then s.deeds (activation s) (makes v s.store.count)))

pub begun_told : (c : Around) (w : Walked) (f : ℕ) (s : State) → as_log s ≡ as_log (noted_begun (heard c w) f s)
begun_told c w f s = ap (λ z. record s { deeds = []; log = z }) (sym (append-nil (told s.deeds)) ∙ sym (told_then s.deeds (activation s) (begins f)))

-- ---- places

pub loaded_sim : (m : ℕ) (c : Around) (w : Walked) (q : Pointer) (s : State) → use_count w.items < 16383 → loaded (decimal (next_use w) ∷ []) (quiet m) q (as_log s) ≡ with_log (loaded [] (heard c w) q s)
loaded_sim m c w q s few = sim_then _ _ _ _ (sim_settled (read_of s.store q) s) (λ v s.
    logs_sim (log_use q) (next_use w) s (noted_use tells (heard c w) q s) (Gives v) (Gives v) (omega arith) (omega arith) (use_told tells tells_tells c w q s) (λ s. refl))

pub stored_sim : (way : Event → Act) → Tells way → (m : ℕ) (c : Around) (w : Walked) (q : Pointer) (v : Value) (s : State) → def_count w.items < 16383 → stored way (decimal (next_def w) ∷ []) (quiet m) q v (as_log s) ≡ with_log (stored way [] (heard c w) q v s)
stored_sim way tell m c w q v s few = sim_then _ _ _ _ (sim_settled (write_of s.store q v) s) (λ z s.
    logs_sim (log_def q) (next_def w) (record s { store = z }) (noted_def way (heard c w) q (record s { store = z })) (Gives v) (Gives v) (omega arith) (omega arith) (def_told way tell c w q (record s { store = z })) (λ s. refl))

selected_sim : (q : Pointer) (offset n size : ℕ) (s : State) → selected_place q offset n size (as_log s) ≡ with_log (selected_place q offset n size s)
selected_sim q offset n size s = sim_if (has_part q offset n size) _ _ (untyped (as_log s)) (untyped s) (sim_settled (selected s.store q offset n size) s) refl

-- a scalar is read at a probe, and nothing else is read
pub fetched_use : (t : TablesShape) (n : NoteShape) (m : ℕ) (c : Around) (w : Walked) (q : Pointer) (s : State) → has_scalar n ≡ true → use_count w.items < 16383 → fetched t (place_note n) (decimal (next_use w) ∷ []) (quiet m) q (as_log s) ≡ with_log (fetched t n [] (heard c w) q s)
fetched_use t (typed (int k) j) m c w q s scalar few = sim_then _ _ _ _ (loaded_sim m c w q s few) (λ v s. refl)
fetched_use t (typed (pointer k) j) m c w q s scalar few = sim_then _ _ _ _ (loaded_sim m c w q s few) (λ v s. refl)
fetched_use t (typed (array k n) j) m c w q s scalar few = absurd (true≢false (sym scalar))
fetched_use t (typed (structure n) j) m c w q s scalar few = absurd (true≢false (sym scalar))
fetched_use t (typed nothing j) m c w q s scalar few = absurd (true≢false (sym scalar))
fetched_use t (known k v) m c w q s scalar few = absurd (true≢false (sym scalar))
fetched_use t bare m c w q s scalar few = absurd (true≢false (sym scalar))

pub fetched_other : (t : TablesShape) (n : NoteShape) (m : ℕ) (c : Around) (w : Walked) (q : Pointer) (s : State) → has_scalar n ≡ false → fetched t n [] (quiet m) q (as_log s) ≡ with_log (fetched t n [] (heard c w) q s)
fetched_other t (typed (int k) j) m c w q s other = absurd (true≢false other)
fetched_other t (typed (pointer k) j) m c w q s other = absurd (true≢false other)
fetched_other t (typed (array k n) j) m c w q s other = sim_then _ _ _ _ (selected_sim q 0 n (cells t k) s) (λ q s. refl)
fetched_other t (typed (structure n) j) m c w q s other = refl
fetched_other t (typed nothing j) m c w q s other = refl
fetched_other t (known k v) m c w q s other = refl
fetched_other t bare m c w q s other = refl

pub variable_sim : (t : TablesShape) (k : TypeOf) (v : ℕ) (s : State) → variable_place t k v (as_log s) ≡ with_log (variable_place t k v s)
variable_sim t k v s = sim_then _ _ _ _ (sim_present (instance_of v s) s) (λ j s. sim_if (nat_le (cells t k) room) (Gives (whole j (cells t k)) (as_log s)) (Gives (whole j (cells t k)) s) (untyped (as_log s)) (untyped s) refl refl)

part_sim : (t : TablesShape) (part : Option Part) (q : Pointer) (s : State) → part_place t part q (as_log s) ≡ with_log (part_place t part q s)
part_sim t None q s = refl
part_sim t (Some part) q s = selected_sim q part.offset 1 (cells t part.kind) s

pub field_sim : (t : TablesShape) (x : Text) (k : TypeOf) (q : Pointer) (s : State) → field_place t x k q (as_log s) ≡ with_log (field_place t x k q s)
field_sim t x k q s = part_sim t (part_in t x k) q s

pub written_sim : (k : TypeOf) (m : ℕ) (c : Around) (w : Walked) (q : Pointer) (v : Value) (s : State) → def_count w.items < 16383 → written k (decimal (next_def w) ∷ []) (quiet m) q v (as_log s) ≡ with_log (written k [] (heard c w) q v s)
written_sim k m c w q v s few = sim_then _ _ _ _ (stored_sim tells tells_tells m c w q (converted k v) s few) (λ v s. refl)

pub stepped_sim : (front : Bool) (x : Value) (v : Option Value) (s : State) → stepped_from front x v (as_log s) ≡ with_log (stepped_from front x v s)
stepped_sim true x v s = refl
stepped_sim false x v s = refl

-- ---- constants

pub number_sim : (x : Option Number) (s : State) → number_value x (as_log s) ≡ with_log (number_value x s)
number_sim None s = refl
number_sim (Some x) s = refl

pub literal_sim : (n : NoteShape) (x : Text) (s : State) → literal_value n x (as_log s) ≡ with_log (literal_value n x s)
literal_sim (typed k (Some j)) x s = sim_if (nat_lt (length x) room) (gives (At (first_cell j (length x + 1))) (as_log s)) (gives (At (first_cell j (length x + 1))) s) (untyped (as_log s)) (untyped s) refl refl
literal_sim (typed k None) x s = refl
literal_sim (known k v) x s = refl
literal_sim bare x s = refl

pub noted_sim : (n : NoteShape) (s : State) → noted_value n (as_log s) ≡ with_log (noted_value n s)
noted_sim (known k v) s = refl
noted_sim (typed k j) s = refl
noted_sim bare s = refl

-- ---- functions that every program has

next_sim : (bs : List ℕ) (s : State) → next_byte bs (as_log s) ≡ with_log (next_byte bs s)
next_sim [] s = refl
next_sim (b ∷ bs) s = refl

put_sim : (vs : List Value) (s : State) → put_byte vs (as_log s) ≡ with_log (put_byte vs s)
put_sim (Int z ∷ []) s = refl
put_sim [] s = refl
put_sim (Null ∷ vs) s = refl
put_sim (At q ∷ vs) s = refl
put_sim (Int z ∷ v ∷ vs) s = refl

exits_sim : (vs : List Value) (s : State) → exits vs (as_log s) ≡ with_log (exits vs s)
exits_sim (Int z ∷ []) s = refl
exits_sim [] s = refl
exits_sim (Null ∷ vs) s = refl
exits_sim (At q ∷ vs) s = refl
exits_sim (Int z ∷ v ∷ vs) s = refl

pub built_in_sim : (x : Text) (vs : List Value) (s : State) → built_in x vs (as_log s) ≡ with_log (built_in x vs s)
built_in_sim x vs s =
    sim_if (bytes_eq x (builtin_name GetChar)) _ _ _ _ (next_sim s.input s)
    (sim_if (bytes_eq x (builtin_name PutChar)) _ _ _ _ (put_sim vs s) (sim_if (bytes_eq x (builtin_name Exit)) _ _ _ _ (exits_sim vs s) refl))

-- ---- instances

pub new_sim : (r : Result Cells MakeErr) (s : State) → new_instance r (as_log s) ≡ with_log (new_instance r s)
new_sim (Ok c) s = refl
new_sim (Err why) s = refl

pub make_sim : (t : TablesShape) (k : TypeOf) (s : State) → make t k (as_log s) ≡ with_log (make t k s)
make_sim t k s = new_sim (made s.store true (replicate (cells t k) None)) s

filled_sim : (way : Event → Act) → Tells way → (m : ℕ) (c : Around) (w : Walked) (q : Pointer) (vs : List (Option Value)) (s : State) → def_count w.items < 16383 → filled way (decimal (next_def w) ∷ []) (quiet m) q vs (as_log s) ≡ with_log (filled way [] (heard c w) q vs s)
filled_sim way tell m c w q [] s few = refl
filled_sim way tell m c w q (None ∷ vs) s few = filled_sim way tell m c w (next_cell q) vs s few
filled_sim way tell m c w q (Some v ∷ vs) s few = sim_then _ _ _ _ (stored_sim way tell m c w q v s few) (λ v s. filled_sim repeats repeats_tells m c w (next_cell q) vs s few)

no_logs : (m : Option ProbeMark) → HasNoProbe m → mark_texts m ≡ []
no_logs None none = refl
no_logs (Some m) none = absurd none

-- a name without a probe, and the same with one
pub name_logs : (x : Option Named) → IsNamed x → name_marks x ≡ []
name_logs None named = absurd named
name_logs (Some x) named = no_logs x.probe named

pub whole_sim : (t : TablesShape) (k : TypeOf) (x : Option Named) (m : ℕ) (c : Around) (w : Walked) (j : ℕ) (vs : List (Option Value)) (s : State) → IsNamed x → def_count w.items < 16383 → filled_whole t k (defined_name x w) (quiet m) j vs (as_log s) ≡ with_log (filled_whole t k x (heard c w) j vs s)
whole_sim t k None m c w j vs s named few = absurd named
whole_sim t k (Some x) m c w j vs s named few =
    filled_sim tells tells_tells m c w (first_cell j (cells t k)) vs s few ∙ ap (λ z. with_log (filled tells z (heard c w) (first_cell j (cells t k)) vs s)) (sym (name_logs (Some x) named))

pub scalar_sim : (x : Option Named) (m : ℕ) (c : Around) (w : Walked) (j : ℕ) (v : Value) (s : State) → IsNamed x → def_count w.items < 16383 → scalar_written (defined_name x w) (quiet m) j v (as_log s) ≡ with_log (scalar_written x (heard c w) j v s)
scalar_sim None m c w j v s named few = absurd named
scalar_sim (Some x) m c w j v s named few =
    sim_then _ _ _ _ (stored_sim tells tells_tells m c w (whole j 1) v s few) (λ v s. refl) ∙ ap (λ z. with_log (then_do (stored tells z (heard c w) (whole j 1) v s) (λ v. Gives Next))) (sym (name_logs (Some x) named))
