-- What the small parts of the meaning add: results, probes, reading, writing, and the functions that every program has.
use Rattle.std.proofs.Common.{ℕ, ◌-◌, List, [], ◌∷◌, refl, Option, Some, None, Result, Ok, Err, Bool, true, false}
use Rattle.std.specs.Prelude.{nat_le, bytes_eq, replicate, if◌then◌else◌}
use Rattle.c_events.specs.declared.events.Event.TheVariants as event
use Rattle.c_syntax.specs.declared.text.Text.{Text}
use Rattle.c_syntax.specs.Shape.{TypeOf, int, pointer, array, structure, nothing, NoteShape, bare, typed, known}
use Rattle.c_constants.specs.Probes.{probe_number_of}
use Rattle.c_store.specs.declared.value.Value.{Value}
use Rattle.c_store.specs.declared.value.Value.TheVariants.{Int, Null, At}
use Rattle.c_store.specs.declared.value.Pointer.{Pointer}
use Rattle.c_store.specs.declared.value.Fault.{Fault}
use Rattle.c_store.specs.declared.value.MakeErr.{MakeErr}
use Rattle.c_store.specs.Cells.{Cells, read_of, write_of, selected, made}
use Rattle.c_tables.specs.Tables.{TablesShape}
use Rattle.c_tables.specs.Builtins.{builtin_name}
use Rattle.c_tables.specs.declared.builtins.Builtin.TheVariants.{GetChar, PutChar, Exit}
use Rattle.c_walk.specs.declared.around.Around.{Around}
use Rattle.c_walk.specs.Places.{has_scalar}
use Rattle.c_walk.specs.Walked.{Walked, next_decision}
use Rattle.c_walk.specs.Counted.{next_block, next_def, next_use}
use Rattle.c_meaning.specs.declared.end.Stop.TheVariants as stop
use Rattle.c_meaning.specs.State.{tells, repeats, Bound, State, activation, instance_of}
use Rattle.c_meaning.specs.Results.{Got, Gives, Stops, turns, untyped, settled, present, needed}
use Rattle.c_meaning.specs.Layout.{Part, cells, part_in}
use Rattle.c_meaning.specs.Firsts.{heard, cell_at, noted_block, noted_outcome, noted_use, noted_def}
use Rattle.c_meaning.specs.Places.{whole, logs_one, logs, log_use, log_def, loaded, stored, fetched, variable_place, part_place, field_place, room, has_part, selected_place}
use Rattle.c_meaning.specs.Builtins.{next_byte, put_byte, exits, built_in}
use Rattle.c_meaning.specs.Declarations.{new_instance, make}
use Rattle.flow_walks.specs.declared.action.Action.TheVariants.{Define, Use, Block, Test}
use Rattle.flow_walks.specs.Comes.{Met, act, Comes, emit, emit_if, choice}
use Rattle.c_meaning.specs.Calls.{Source}
use Rattle.flow_calls.proofs.Adding.{Still, Adds, adds_none, adds_still, stops_at, stops_none, adds_from, adds_then, adds_told, adds_repeated}

module _ (P : Source) (F : List Bound) where
  -- ---- results

  pub adds_if : {A : Type 0} (b : Bool) (j : Comes) (s : State) (r u : Got A) (L : A → Comes) → Adds P F j s r L → Adds P F j s u L → Adds P F j s (if b then r else u) L
  adds_if true j s r u L f g = f
  adds_if false j s r u L f g = g

  pub adds_choice : {A : Type 0} (b : Bool) (i j : Comes) (s : State) (r u : Got A) (L : A → Comes) → Adds P F i s r L → Adds P F j s u L → Adds P F (choice b i j) s (if b then r else u) L
  adds_choice true i j s r u L f g = f
  adds_choice false i j s r u L f g = g

  pub adds_settled : {A : Type 0} (r : Result A Fault) (j : Comes) (s : State) → j [] → Adds P F j s (settled r s) (λ a. j)
  adds_settled (Ok a) j s h = adds_still P F j s a _ (λ w p. p)
  adds_settled (Err why) j s h = stops_none P F _ j s _ h

  pub adds_present : {A : Type 0} (r : Option A) (j : Comes) (s : State) → j [] → Adds P F j s (present r s) (λ a. j)
  adds_present (Some a) j s h = adds_still P F j s a _ (λ w p. p)
  adds_present None j s h = stops_none P F _ j s _ h

  value_there : (v : Option Value) (s : State) (K : Option Value → Comes) (L : Value → Comes) → K None [] → ((v : Value) (w : List Met) → L v w → K (Some v) w) → Adds P F (K v) s (present v s) L
  value_there None s K L h g = stops_none P F _ (K None) s L h
  value_there (Some v) s K L h g = adds_still P F (K (Some v)) s v L (g v)

  pub adds_needed : (j : Comes) (s : State) (r : Got (Option Value)) (K : Option Value → Comes) (L : Value → Comes) → K None [] → ((v : Value) (w : List Met) → L v w → K (Some v) w) → Adds P F j s r K → Adds P F j s (needed r) L
  adds_needed j s r K L h g f = adds_then P F j s r present K L f (λ v s. value_there v s K L h g)

  -- behind any value
  pub adds_wanted : (j : Comes) (s : State) (r : Got (Option Value)) (k : Comes) → k [] → Adds P F j s r (λ v. k) → Adds P F j s (needed r) (λ v. k)
  adds_wanted j s r k h f = adds_needed j s r (λ v. k) (λ v. k) h (λ v w p. p) f

  pub adds_turns : {A : Type 0} (n : ℕ) (j : Comes) (s : State) (go : State → Got A) (L : A → Comes) → j [] → ((t : State) → Adds P F j t (go t) L) → Adds P F j s (turns n s go) L
  adds_turns n j s go L h f =
      adds_if (nat_le n s.turns) j s (go (record s { turns = s.turns - n })) (Stops stop.Turns (record s { turns = 0 })) L
      (adds_from P F j s (record s { turns = s.turns - n }) _ L (record { deeds = refl; last = refl; calls = refl; file = refl }) (f (record s { turns = s.turns - n })))
      (stops_at P F _ j s (record s { turns = 0 }) L (record { deeds = refl; last = refl; calls = refl; file = refl }) h)

  -- ---- probes

  -- a way to log
  abbrev pub Logging : (ℕ → State → State) → Type 0
  Logging log = (m : ℕ) (s : State) → Still s (log m s)

  one_logs : {A : Type 0} (log : ℕ → State → State) (x : Option ℕ) (j : Comes) (s : State) (go : State → Got A) (L : A → Comes) → Logging log → j [] → ((t : State) → Adds P F j t (go t) L) → Adds P F j s (logs_one log x s go) L
  one_logs log None j s go L l h f = stops_none P F _ j s L h
  one_logs log (Some m) j s go L l h f = adds_from P F j s (log m s) (go (log m s)) L (l m s) (f (log m s))

  pub adds_logs : {A : Type 0} (log : ℕ → State → State) (xs : List Text) (j : Comes) (s : State) (go : State → Got A) (L : A → Comes) → Logging log → j [] → ((t : State) → Adds P F j t (go t) L) → Adds P F j s (logs log xs s go) L
  adds_logs log [] j s go L l h f = f s
  adds_logs log (x ∷ xs) j s go L l h f = one_logs log (probe_number_of x) j s _ L l h (λ t. adds_logs log xs j t go L l h f)

  -- ---- what is told

  pub adds_block : {A : Type 0} (b : Bool) (c : Around) (w : Walked) (i : Comes) (s : State) (r : Got A) (L : A → Comes) → Adds P F i (noted_block b (heard c w) s) r L → Adds P F (emit_if b (act (Block (next_block w))) i) s r L
  adds_block true c w i s r L f = adds_told P F (event.Block (next_block w)) i s r L f
  adds_block false c w i s r L f = f

  pub adds_outcome : {A : Type 0} (c : Around) (w : Walked) (o : ℕ) (i : Comes) (s : State) (r : Got A) (L : A → Comes) → Adds P F i (noted_outcome (heard c w) o s) r L → Adds P F (emit (act (Test (next_decision w) o)) i) s r L
  adds_outcome c w o i s r L f = adds_told P F (event.Test (next_decision w) o (activation s)) i s r L f

  pub adds_use : {A : Type 0} (c : Around) (w : Walked) (q : Pointer) (i : Comes) (s : State) (r : Got A) (L : A → Comes) → Adds P F i (noted_use tells (heard c w) q s) r L → Adds P F (emit (act (Use (next_use w))) i) s r L
  adds_use c w q i s r L f = adds_told P F (event.Use (next_use w) (cell_at q) (activation s)) i s r L f

  pub adds_use_again : {A : Type 0} (c : Around) (w : Walked) (q : Pointer) (i : Comes) (s : State) (r : Got A) (L : A → Comes) → Adds P F i (noted_use repeats (heard c w) q s) r L → Adds P F i s r L
  adds_use_again c w q i s r L f = adds_repeated P F (event.Use (next_use w) (cell_at q) (activation s)) i s r L f

  pub adds_def : {A : Type 0} (c : Around) (w : Walked) (q : Pointer) (i : Comes) (s : State) (r : Got A) (L : A → Comes) → Adds P F i (noted_def tells (heard c w) q s) r L → Adds P F (emit (act (Define (next_def w))) i) s r L
  adds_def c w q i s r L f = adds_told P F (event.Def (next_def w) (cell_at q)) i s r L f

  pub adds_def_again : {A : Type 0} (c : Around) (w : Walked) (q : Pointer) (i : Comes) (s : State) (r : Got A) (L : A → Comes) → Adds P F i (noted_def repeats (heard c w) q s) r L → Adds P F i s r L
  adds_def_again c w q i s r L f = adds_repeated P F (event.Def (next_def w) (cell_at q)) i s r L f

  -- ---- places

  pub adds_loaded : (xs : List Text) (c : Around) (w : Walked) (q : Pointer) (k : Comes) (s : State) → k [] → Adds P F (emit (act (Use (next_use w))) k) s (loaded xs (heard c w) q s) (λ v. k)
  adds_loaded xs c w q k s h = adds_then P F _ s (settled (read_of s.store q) s) _ _ _ (adds_settled (read_of s.store q) _ s tt) (λ v s.
      adds_use c w q k s _ _ (adds_logs (log_use q) xs k (noted_use tells (heard c w) q s) _ _ (λ m s. record { deeds = refl; last = refl; calls = refl; file = refl }) h (λ s. adds_still P F k s v _ (λ w p. p))))

  pub stored_in : (s : State) (c : Cells) → Still s (record s { store = c })
  stored_in s c = record { deeds = refl; last = refl; calls = refl; file = refl }

  pub adds_stored : (xs : List Text) (c : Around) (w : Walked) (q : Pointer) (v : Value) (k : Comes) (s : State) → k [] → Adds P F (emit (act (Define (next_def w))) k) s (stored tells xs (heard c w) q v s) (λ v. k)
  adds_stored xs c w q v k s h = adds_then P F _ s (settled (write_of s.store q v) s) _ _ _ (adds_settled (write_of s.store q v) _ s tt) (λ m s.
      adds_from P F _ s (record s { store = m }) _ _ (stored_in s m)
      (adds_def c w q k (record s { store = m }) _ _ (adds_logs (log_def q) xs k (noted_def tells (heard c w) q (record s { store = m })) _ _ (λ m s. record { deeds = refl; last = refl; calls = refl; file = refl }) h (λ s. adds_still P F k s v _ (λ w p. p)))))

  pub adds_stored_again : (xs : List Text) (c : Around) (w : Walked) (q : Pointer) (v : Value) (k : Comes) (s : State) → k [] → Adds P F k s (stored repeats xs (heard c w) q v s) (λ v. k)
  adds_stored_again xs c w q v k s h = adds_then P F k s (settled (write_of s.store q v) s) _ _ _ (adds_settled (write_of s.store q v) k s h) (λ m s.
      adds_from P F _ s (record s { store = m }) _ _ (stored_in s m)
      (adds_def_again c w q k (record s { store = m }) _ _ (adds_logs (log_def q) xs k (noted_def repeats (heard c w) q (record s { store = m })) _ _ (λ m s. record { deeds = refl; last = refl; calls = refl; file = refl }) h (λ s. adds_still P F k s v _ (λ w p. p)))))

  adds_selected : (q : Pointer) (offset n size : ℕ) (k : Comes) (s : State) → k [] → Adds P F k s (selected_place q offset n size s) (λ q. k)
  adds_selected q offset n size k s h = adds_if (has_part q offset n size) k s _ _ _ (adds_settled (selected s.store q offset n size) k s h) (stops_none P F _ k s _ h)

  -- a scalar's place is used
  pub adds_fetched : (t : TablesShape) (n : NoteShape) (xs : List Text) (c : Around) (w : Walked) (q : Pointer) (k : Comes) (s : State) → k [] → Adds P F (emit_if (has_scalar n) (act (Use (next_use w))) k) s (fetched t n xs (heard c w) q s) (λ v. k)
  adds_fetched t (typed (int y) m) xs c w q k s h = adds_then P F _ s _ _ _ _ (adds_loaded xs c w q k s h) (λ v s. adds_still P F k s _ _ (λ w p. p))
  adds_fetched t (typed (pointer y) m) xs c w q k s h = adds_then P F _ s _ _ _ _ (adds_loaded xs c w q k s h) (λ v s. adds_still P F k s _ _ (λ w p. p))
  adds_fetched t (typed (array y n) m) xs c w q k s h = adds_then P F k s _ _ _ _ (adds_selected q 0 n (cells t y) k s h) (λ q s. adds_still P F k s _ _ (λ w p. p))
  adds_fetched t (typed (structure n) m) xs c w q k s h = adds_still P F k s _ _ (λ w p. p)
  adds_fetched t (typed nothing m) xs c w q k s h = adds_still P F k s _ _ (λ w p. p)
  adds_fetched t (known y v) xs c w q k s h = stops_none P F _ k s _ h
  adds_fetched t bare xs c w q k s h = stops_none P F _ k s _ h

  pub adds_variable : (t : TablesShape) (y : TypeOf) (v : ℕ) (k : Comes) (s : State) → k [] → Adds P F k s (variable_place t y v s) (λ q. k)
  adds_variable t y v k s h = adds_then P F k s (present (instance_of v s) s) _ _ _ (adds_present (instance_of v s) k s h) (λ j s.
      adds_if (nat_le (cells t y) room) k s (Gives (whole j (cells t y)) s) (untyped s) _ (adds_still P F k s _ _ (λ w p. p)) (stops_none P F _ k s _ h))

  part_adds : (t : TablesShape) (part : Option Part) (q : Pointer) (k : Comes) (s : State) → k [] → Adds P F k s (part_place t part q s) (λ q. k)
  part_adds t None q k s h = stops_none P F _ k s _ h
  part_adds t (Some part) q k s h = adds_selected q part.offset 1 (cells t part.kind) k s h

  pub adds_field : (t : TablesShape) (x : Text) (y : TypeOf) (q : Pointer) (k : Comes) (s : State) → k [] → Adds P F k s (field_place t x y q s) (λ q. k)
  adds_field t x y q k s h = part_adds t (part_in t x y) q k s h

  -- ---- functions that every program has

  next_adds : (bs : List ℕ) (k : Comes) (s : State) → Adds P F k s (next_byte bs s) (λ v. k)
  next_adds [] k s = adds_still P F k s _ _ (λ w p. p)
  next_adds (b ∷ bs) k s = adds_none P F k s (record s { input = bs }) _ _ (record { deeds = refl; last = refl; calls = refl; file = refl }) (λ w p. p)

  put_adds : (vs : List Value) (k : Comes) (s : State) → k [] → Adds P F k s (put_byte vs s) (λ v. k)
  put_adds (Int z ∷ []) k s h = adds_none P F k s (record s { output = _ }) _ _ (record { deeds = refl; last = refl; calls = refl; file = refl }) (λ w p. p)
  put_adds [] k s h = stops_none P F _ k s _ h
  put_adds (Null ∷ vs) k s h = stops_none P F _ k s _ h
  put_adds (At q ∷ vs) k s h = stops_none P F _ k s _ h
  put_adds (Int z ∷ v ∷ vs) k s h = stops_none P F _ k s _ h

  exits_adds : (vs : List Value) (k : Comes) (s : State) → k [] → Adds P F k s (exits vs s) (λ v. k)
  exits_adds (Int z ∷ []) k s h = stops_none P F _ k s _ h
  exits_adds [] k s h = stops_none P F _ k s _ h
  exits_adds (Null ∷ vs) k s h = stops_none P F _ k s _ h
  exits_adds (At q ∷ vs) k s h = stops_none P F _ k s _ h
  exits_adds (Int z ∷ v ∷ vs) k s h = stops_none P F _ k s _ h

  pub adds_built_in : (x : Text) (vs : List Value) (k : Comes) (s : State) → k [] → Adds P F k s (built_in x vs s) (λ v. k)
  adds_built_in x vs k s h =
      adds_if (bytes_eq x (builtin_name GetChar)) k s _ _ _ (next_adds s.input k s)
      (adds_if (bytes_eq x (builtin_name PutChar)) k s _ _ _ (put_adds vs k s h) (adds_if (bytes_eq x (builtin_name Exit)) k s _ _ _ (exits_adds vs k s h) (stops_none P F _ k s _ h)))

  -- ---- instances

  new_adds : (r : Result Cells MakeErr) (k : Comes) (s : State) → k [] → Adds P F k s (new_instance r s) (λ j. k)
  new_adds (Ok m) k s h = adds_none P F k s (record s { store = m }) _ _ (stored_in s m) (λ w p. p)
  new_adds (Err why) k s h = stops_none P F _ k s _ h

  pub adds_make : (t : TablesShape) (y : TypeOf) (k : Comes) (s : State) → k [] → Adds P F k s (make t y s) (λ j. k)
  adds_make t y k s h = new_adds (made s.store true (replicate (cells t y) None)) k s h
