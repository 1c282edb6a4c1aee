-- What the small parts of the meaning keep: turns, reading, writing, places, and the functions that every program has.
use Rattle.std.proofs.Common.{ℕ, ◌-◌, ◌<◌, length, List, [], ◌∷◌, ◌≡◌, refl, sym, subst, arith, Option, Some, None, Result, Ok, Err, Bool, true, false}
use Rattle.std.specs.Prelude.{nat_le, nat_lt, bytes_eq, if◌then◌else◌}
use Rattle.std.proofs.lemmas.Bool.{and_parts}
use Rattle.std.proofs.lemmas.Bool.Decides.{nat_tests}
use Rattle.c_events.specs.declared.events.Event.TheVariants as event
use Rattle.c_syntax.specs.declared.text.Text.{Text}
use Rattle.c_syntax.specs.Shape.{TypeOf, int, pointer, array, structure, nothing, NoteShape, bare, typed, known}
use Rattle.c_store.specs.declared.value.Value.{Value}
use Rattle.c_store.specs.declared.value.Value.TheVariants.{Int, Null, At}
use Rattle.c_store.specs.declared.value.Pointer.{Pointer}
use Rattle.c_store.specs.declared.value.Fault.{Fault}
use Rattle.c_store.specs.declared.value.Fault.TheVariants.{WriteLiteral}
use Rattle.c_store.specs.Cells.{Cells, Slot, find, is_inside, element_in, read_in, read_of, write_of, write_in, element_of, replace, with_value, cell_of, selected}
use Rattle.c_tables.specs.Tables.{TablesShape}
use Rattle.c_tables.specs.Builtins.{builtin_name}
use Rattle.c_tables.specs.declared.builtins.Builtin.TheVariants.{GetChar, PutChar, Exit}
use Rattle.c_walk.specs.declared.around.Around.{Around}
use Rattle.c_walk.specs.Places.{has_scalar}
use Rattle.c_walk.specs.Walked.{Walked, next_decision}
use Rattle.c_walk.specs.Counted.{next_block, next_def, next_use}
use Rattle.c_meaning.specs.declared.end.Stop.TheVariants as stop
use Rattle.c_meaning.specs.State.{tells, Bound, Call, State, activation, instance_of}
use Rattle.c_meaning.specs.Results.{Got, Gives, Stops, then_do, turns, untyped, settled, present}
use Rattle.c_meaning.specs.Layout.{Part, cells, part_in}
use Rattle.c_meaning.specs.Firsts.{heard, noted_block, noted_outcome, noted_use, noted_def}
use Rattle.c_meaning.specs.Places.{whole, log_use, log_def, loaded, stored, fetched, variable_place, part_place, field_place, room, has_part, selected_place}
use Rattle.c_meaning.specs.Builtins.{next_byte, put_byte, exits, built_in}
use Rattle.flow_calls.specs.Placing.{Local, Sites}
use Rattle.flow_places.proofs.Good.{block_quiet, test_quiet, Still}
use Rattle.flow_places.proofs.Safe.{Any, Safe, safe_gives, safe_stops, safe_then, safe_still, safe_gives_at, safe_stops_at, safe_if, safe_settled, safe_present, safe_did, safe_logs, ForUse, ForDef, safe_use, safe_def}

-- ---- what is read or written is in its array

abbrev pub IsWithin : {A : Type 0} → Pointer → A → List Call → Type 0
IsWithin q a cs = q.index < q.length

pub inside_of : (p : Pointer) (n : ℕ) → is_inside p n ≡ true → p.index < p.length
inside_of p n e = let h = (and_parts (nat_lt p.index p.length) _ e).0 in grind (arith, nat_tests)

read_if : (b : Bool) (slot : Slot) (why : Fault) (p : Pointer) (v : Value) → read_in (if b then Ok slot else Err why) p ≡ Ok v → b ≡ true
read_if true slot why p v e = refl
read_if false slot why p v e = cc

read_found : (o : Option Slot) (p : Pointer) (v : Value) → read_in (element_in o p) p ≡ Ok v → p.index < p.length
read_found None p v e = cc
read_found (Some slot) p v e = inside_of p (length slot.cells) (read_if (is_inside p (length slot.cells)) slot _ p v e)

read_within : (c : Cells) (p : Pointer) (v : Value) → read_of c p ≡ Ok v → p.index < p.length
read_within c p v e = read_found (find p.instance c.live) p v e

write_if : (b : Bool) (c m : Cells) (slot : Slot) (why : Fault) (p : Pointer) (v : Value) → write_in c (if b then Ok slot else Err why) p v ≡ Ok m → b ≡ true
write_if true c m slot why p v e = refl
write_if false c m slot why p v e = cc

write_found : (o : Option Slot) (c m : Cells) (p : Pointer) (v : Value) → write_in c (element_in o p) p v ≡ Ok m → p.index < p.length
write_found None c m p v e = cc
write_found (Some slot) c m p v e = inside_of p (length slot.cells) (write_if (is_inside p (length slot.cells)) c m slot _ p v e)

pub written_within : (c m : Cells) (p : Pointer) (v : Value) → write_of c p v ≡ Ok m → p.index < p.length
written_within c m p v e = write_found (find p.instance c.live) c m p v e

module _ (S : Sites) (F : List Bound) where
  -- where the pointer isn't past the end of its array
  abbrev pub MayUse : Option Local → Pointer → List Call → Type 0
  MayUse o q cs = q.index < q.length → ForUse S F o q cs

  abbrev pub MayDef : Option Local → Pointer → List Call → Type 0
  MayDef o q cs = q.index < q.length → ForDef S F o q cs

  pub turns_safe : {A : Type 0} (n m : ℕ) (s : State) (go : State → Got A) (Q : A → List Call → Type 0) → ((t : State) → t.calls ≡ s.calls → Safe S F n t (go t) Q) → Safe S F n s (turns m s go) Q
  turns_safe n m s go Q f =
      let t : State = record s { turns = s.turns - m } in
      safe_if S F n (nat_le m s.turns) s (go t) (Stops stop.Turns (record s { turns = 0 })) Q
      (safe_still S F n s t (go t) Q (record { deeds = refl; calls = refl; count = omega arith; last = refl; file = refl }) (f t refl))
      (safe_stops_at S F n stop.Turns s (record s { turns = 0 }) Q (record { deeds = refl; calls = refl; count = omega arith; last = refl; file = refl }))

  -- ---- what is told

  pub block_safe : {A : Type 0} (n : ℕ) (b : Bool) (c : Around) (w : Walked) (s : State) (r : Got A) (Q : A → List Call → Type 0) → Safe S F n (noted_block b (heard c w) s) r Q → Safe S F n s r Q
  block_safe n true c w s r Q f = safe_did S F n (tells (event.Block (next_block w))) s r Q (block_quiet S (next_block w)) (λ g. tt) tt f
  block_safe n false c w s r Q f = f

  pub outcome_safe : {A : Type 0} (n : ℕ) (c : Around) (w : Walked) (o : ℕ) (s : State) (r : Got A) (Q : A → List Call → Type 0) → Safe S F n (noted_outcome (heard c w) o s) r Q → Safe S F n s r Q
  outcome_safe n c w o s r Q f = safe_did S F n (tells (event.Test (next_decision w) o (activation s))) s r Q (test_quiet S (next_decision w) o (activation s)) (λ g. tt) tt f

  -- ---- reading and writing

  pub use_still : (q : Pointer) (m : ℕ) (s : State) → Still S F s (log_use q m s)
  use_still q m s = record { deeds = refl; calls = refl; count = omega arith; last = refl; file = refl }

  pub def_still : (q : Pointer) (m : ℕ) (s : State) → Still S F s (log_def q m s)
  def_still q m s = record { deeds = refl; calls = refl; count = omega arith; last = refl; file = refl }

  pub loaded_safe : (n : ℕ) (xs : List Text) (c : Around) (w : Walked) (q : Pointer) (s : State) → MayUse (S.used (next_use w)) q s.calls → Safe S F n s (loaded xs (heard c w) q s) Any
  loaded_safe n xs c w q s k = safe_then S F n s (settled (read_of s.store q) s) _ (IsWithin q) Any (safe_settled S F n (read_of s.store q) s (IsWithin q) (λ a e. read_within s.store q a e)) (λ v t e h.
      safe_use S F n (next_use w) q t _ Any (subst (ForUse S F (S.used (next_use w)) q) (sym e) (k h))
      (safe_logs S F n (log_use q) xs (noted_use tells (heard c w) q t) (λ s. Gives v s) Any (λ m s. use_still q m s) (λ t e. safe_gives S F n t v Any tt)))

  abbrev pub SameCount : ℕ → Result Cells Fault → Type 0
  SameCount m (Ok c) = c.count ≡ m
  SameCount m (Err why) = Unit {0}

  pub if_count : (m : ℕ) (b : Bool) (c : Cells) (why : Fault) → c.count ≡ m → SameCount m (if b then Ok c else Err why)
  if_count m true c why e = e
  if_count m false c why e = tt

  write_in_count : (c : Cells) (r : Result Slot Fault) (p : Pointer) (v : Value) → SameCount c.count (write_in c r p v)
  write_in_count c (Err why) p v = tt
  write_in_count c (Ok slot) p v = if_count c.count slot.writable (record c { live = replace p.instance (with_value slot (cell_of p) v) c.live }) WriteLiteral refl

  pub write_count : (c : Cells) (p : Pointer) (v : Value) → SameCount c.count (write_of c p v)
  write_count c p v = write_in_count c (element_of c.live p) p v

  store_still : (s : State) (c : Cells) → c.count ≡ s.store.count → Still S F s (record s { store = c })
  store_still s c e = record { deeds = refl; calls = refl; count = omega (arith, e); last = refl; file = refl }

  -- the store that a write gives
  pub wrote_safe : {A : Type 0} (n : ℕ) (r : Result Cells Fault) (s : State) (go : Cells → State → Got A) (Q : A → List Call → Type 0) → SameCount s.store.count r → ((c : Cells) → r ≡ Ok c → Safe S F n (record s { store = c }) (go c s) Q) → Safe S F n s (then_do (settled r s) go) Q
  wrote_safe n (Ok c) s go Q e f = safe_still S F n s (record s { store = c }) (go c s) Q (store_still s c e) (f c refl)
  wrote_safe n (Err why) s go Q e f = safe_stops S F n _ s Q

  pub stored_safe : (n : ℕ) (xs : List Text) (c : Around) (w : Walked) (q : Pointer) (v : Value) (s : State) → MayDef (S.defined (next_def w)) q s.calls → Safe S F n s (stored tells xs (heard c w) q v s) Any
  stored_safe n xs c w q v s k = wrote_safe n (write_of s.store q v) s _ Any (write_count s.store q v) (λ m e.
      let t : State = record s { store = m } in
      safe_def S F n (next_def w) q t _ Any (k (written_within s.store m q v e))
      (safe_logs S F n (log_def q) xs (noted_def tells (heard c w) q t) (λ s. Gives v s) Any (λ m s. def_still q m s) (λ t e. safe_gives S F n t v Any tt)))

  -- ---- places

  pub selected_safe : (n : ℕ) (q : Pointer) (offset m size : ℕ) (s : State) → Safe S F n s (selected_place q offset m size s) Any
  selected_safe n q offset m size s = safe_if S F n (has_part q offset m size) s _ _ Any (safe_settled S F n (selected s.store q offset m size) s Any (λ a e. tt)) (safe_stops S F n _ s Any)

  -- what a place gives as a value: a scalar's is read
  pub fetched_safe : (n : ℕ) (t : TablesShape) (y : NoteShape) (xs : List Text) (c : Around) (w : Walked) (q : Pointer) (s : State) → (has_scalar y ≡ true → MayUse (S.used (next_use w)) q s.calls) → Safe S F n s (fetched t y xs (heard c w) q s) Any
  fetched_safe n t (typed (int y) m) xs c w q s k = safe_then S F n s _ _ Any Any (loaded_safe n xs c w q s (k refl)) (λ v s e h. safe_gives S F n s (Some v) Any tt)
  fetched_safe n t (typed (pointer y) m) xs c w q s k = safe_then S F n s _ _ Any Any (loaded_safe n xs c w q s (k refl)) (λ v s e h. safe_gives S F n s (Some v) Any tt)
  fetched_safe n t (typed (array y z) m) xs c w q s k = safe_then S F n s _ _ Any Any (selected_safe n q 0 z (cells t y) s) (λ q s e h. safe_gives S F n s (Some (At q)) Any tt)
  fetched_safe n t (typed (structure z) m) xs c w q s k = safe_gives S F n s None Any tt
  fetched_safe n t (typed nothing m) xs c w q s k = safe_gives S F n s None Any tt
  fetched_safe n t (known y v) xs c w q s k = safe_stops S F n _ s Any
  fetched_safe n t bare xs c w q s k = safe_stops S F n _ s Any

  pub variable_safe : (n : ℕ) (t : TablesShape) (y : TypeOf) (v : ℕ) (s : State) (Q : Pointer → List Call → Type 0) → ((j : ℕ) → instance_of v s ≡ Some j → Q (whole j (cells t y)) s.calls) → Safe S F n s (variable_place t y v s) Q
  variable_safe n t y v s Q h = safe_then S F n s (present (instance_of v s) s) _ (λ j cs. Q (whole j (cells t y)) cs) Q (safe_present S F n (instance_of v s) s (λ j cs. Q (whole j (cells t y)) cs) h) (λ j s e k.
      safe_if S F n (nat_le (cells t y) room) s (Gives (whole j (cells t y)) s) (untyped s) Q (safe_gives S F n s (whole j (cells t y)) Q (subst (Q (whole j (cells t y))) (sym e) k)) (safe_stops S F n _ s Q))

  part_safe : (n : ℕ) (t : TablesShape) (part : Option Part) (q : Pointer) (s : State) → Safe S F n s (part_place t part q s) Any
  part_safe n t None q s = safe_stops S F n _ s Any
  part_safe n t (Some part) q s = selected_safe n q part.offset 1 (cells t part.kind) s

  pub field_safe : (n : ℕ) (t : TablesShape) (x : Text) (y : TypeOf) (q : Pointer) (s : State) → Safe S F n s (field_place t x y q s) Any
  field_safe n t x y q s = part_safe n t (part_in t x y) q s

  -- ---- functions that every program has

  next_safe : (n : ℕ) (bs : List ℕ) (s : State) → Safe S F n s (next_byte bs s) Any
  next_safe n [] s = safe_gives S F n s _ Any tt
  next_safe n (b ∷ bs) s = safe_gives_at S F n s (record s { input = bs }) _ Any (record { deeds = refl; calls = refl; count = omega arith; last = refl; file = refl }) tt

  put_safe : (n : ℕ) (vs : List Value) (s : State) → Safe S F n s (put_byte vs s) Any
  put_safe n (Int z ∷ []) s = safe_gives_at S F n s (record s { output = _ }) _ Any (record { deeds = refl; calls = refl; count = omega arith; last = refl; file = refl }) tt
  put_safe n [] s = safe_stops S F n _ s Any
  put_safe n (Null ∷ vs) s = safe_stops S F n _ s Any
  put_safe n (At q ∷ vs) s = safe_stops S F n _ s Any
  put_safe n (Int z ∷ v ∷ vs) s = safe_stops S F n _ s Any

  exits_safe : (n : ℕ) (vs : List Value) (s : State) → Safe S F n s (exits vs s) Any
  exits_safe n (Int z ∷ []) s = safe_stops S F n _ s Any
  exits_safe n [] s = safe_stops S F n _ s Any
  exits_safe n (Null ∷ vs) s = safe_stops S F n _ s Any
  exits_safe n (At q ∷ vs) s = safe_stops S F n _ s Any
  exits_safe n (Int z ∷ v ∷ vs) s = safe_stops S F n _ s Any

  pub built_in_safe : (n : ℕ) (x : Text) (vs : List Value) (s : State) → Safe S F n s (built_in x vs s) Any
  built_in_safe n x vs s =
      safe_if S F n (bytes_eq x (builtin_name GetChar)) s _ _ Any (next_safe n s.input s)
      (safe_if S F n (bytes_eq x (builtin_name PutChar)) s _ _ Any (put_safe n vs s) (safe_if S F n (bytes_eq x (builtin_name Exit)) s _ _ Any (exits_safe n vs s) (safe_stops S F n _ s Any)))
