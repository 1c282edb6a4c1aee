-- What leaves names as they were, the parts of expressions leave so.
use Rattle.std.proofs.Common.{◌≡◌, ◌∙◌, ℕ, zero, suc, ◌-◌, ◌+◌, List, [], ◌∷◌, ◌++◌, length, Option, Some, None, Result, Ok, Err, Bool, true, false, refl}
use Rattle.std.specs.Prelude.{nat_le, nat_lt, bytes_eq, replicate, if◌then◌else◌}
use Rattle.c_events.specs.declared.events.Event.{Event}
use Rattle.c_syntax.specs.declared.text.Text.{Text}
use Rattle.c_syntax.specs.declared.tree.Named.{Named}
use Rattle.c_syntax.specs.Shape.{TypeOf, int, pointer, array, structure, nothing, NoteShape, bare, typed, known, NodeShape}
use Rattle.c_constants.specs.declared.numbers.Number.{Number}
use Rattle.c_constants.specs.Probes.{probe_number_of}
use Rattle.c_store.specs.declared.value.Value.{Value}
use Rattle.c_store.specs.declared.value.Value.TheVariants.{Int, Null, At}
use Rattle.c_store.specs.declared.value.Pointer.{Pointer}
use Rattle.c_store.specs.declared.value.Fault.{Fault}
use Rattle.c_store.specs.declared.value.MakeErr.TheVariants.{Room}
use Rattle.c_store.specs.Cells.{Cells, cell_count, read_of, write_of, selected, made}
use Rattle.c_tables.specs.Tables.{TablesShape}
use Rattle.c_tables.specs.Builtins.{builtin_name}
use Rattle.c_tables.specs.declared.builtins.Builtin.TheVariants.{GetChar, PutChar, Exit}
use Rattle.c_walk.specs.Tests.{is_logical}
use Rattle.c_meaning.specs.State.{Act, tells, repeats, State, instance_of}
use Rattle.c_meaning.specs.Results.{Got, Gives, Stops, then_do, turn_of, turn, turns, untyped, settled, present, needed}
use Rattle.c_meaning.specs.Layout.{Part, cells, part_in}
use Rattle.c_meaning.specs.Firsts.{First, quiet, heard, noted_block, noted_outcome, noted_test, noted_use, noted_def, noted_made, noted_begun}
use Rattle.c_meaning.specs.Places.{whole, first_cell, next_cell, logs_one, logs, log_use, log_def, loaded, stored, fetched, variable_place, part_place, field_place, room, has_part, selected_place}
use Rattle.c_meaning.specs.Builtins.{next_byte, put_byte, exits, built_in}
use Rattle.c_meaning.specs.Expressions.{gives, number_value, literal_value, noted_value, written, stepped_from}
use Rattle.c_meaning.specs.Declarations.{new_instance, make, name_marks, filled, filled_whole, scalar_written}
use Rattle.c_meaning.specs.Lasting.{Lasted}
use Rattle.flow_names.specs.Keeping.{HasSameNames}

-- nothing is said of a run that stops
abbrev pub Leaves : (State → State → Type 0) → {A : Type 0} → State → Got A → Type 0
Leaves R s r = Lasted R (λ s t. Unit {0}) s r

-- a relation that steps have which leave names as they were
pub record Follows (R : State → State → Type 0) : Type 0 where
  pub unmoved : (s t : State) → HasSameNames s t → R s t
  pub further : (s t u : State) → R s t → R t u → R s u

pub names_follow : Follows HasSameNames
names_follow = record { unmoved = λ s t h. h; further = λ s t u p q. record { calls = q.calls ∙ p.calls; file = q.file ∙ p.file } }

-- the state after a result, or when the run stops
abbrev pub state_in : {A : Type 0} → Got A → State
state_in (Gives a s) = s
state_in (Stops why s) = s

module _ (R : State → State → Type 0) (lasts : Follows R) where
  -- ---- in general

  pub stays : (s t : State) → t.calls ≡ s.calls → t.file ≡ s.file → R s t
  stays s t e f = lasts.unmoved s t (record { calls = e; file = f })

  pub same : (s : State) → R s s
  same s = stays s s refl refl

  pub at_rest : {A : Type 0} (r : Got A) (s : State) → R s (state_in r) → Leaves R s r
  at_rest (Gives a t) s p = record { holds = p }
  at_rest (Stops why t) s p = record { holds = tt }

  -- behind a step that keeps it
  pub behind_step : {A : Type 0} (s t : State) (r : Got A) → R s t → Leaves R t r → Leaves R s r
  behind_step s t (Gives a u) p q = record { holds = lasts.further s t u p q.holds }
  behind_step s t (Stops why u) p q = record { holds = tt }

  pub then_kept : {A B : Type 0} (s : State) (r : Got A) (g : A → State → Got B) → Leaves R s r → ((a : A) (t : State) → Leaves R t (g a t)) → Leaves R s (then_do r g)
  then_kept s (Gives a t) g p go = behind_step s t (g a t) p.holds (go a t)
  then_kept s (Stops why t) g p go = record { holds = tt }

  pub if_kept : {A : Type 0} (s : State) (b : Bool) (r q : Got A) → Leaves R s r → Leaves R s q → Leaves R s (if b then r else q)
  if_kept s true r q l m = l
  if_kept s false r q l m = m

  turn_of_kept : {A : Type 0} (m : ℕ) (s : State) (g : State → Got A) → ((t : State) → Leaves R t (g t)) → Leaves R s (turn_of m s g)
  turn_of_kept zero s g go = at_rest _ _ (same s)
  turn_of_kept (suc m) s g go = behind_step s (record s { turns = m }) _ (stays s _ refl refl) (go (record s { turns = m }))

  pub turn_kept : {A : Type 0} (s : State) (g : State → Got A) → ((t : State) → Leaves R t (g t)) → Leaves R s (turn s g)
  turn_kept s g go = turn_of_kept s.turns s g go

  pub turns_kept : {A : Type 0} (n : ℕ) (s : State) (g : State → Got A) → ((t : State) → Leaves R t (g t)) → Leaves R s (turns n s g)
  turns_kept n s g go =
      if_kept s (nat_le n s.turns) (g (record s { turns = s.turns - n })) _
      (behind_step s (record s { turns = s.turns - n }) _ (stays s _ refl refl) (go (record s { turns = s.turns - n }))) (at_rest _ _ (stays s _ refl refl))

  pub settled_kept : {A : Type 0} (r : Result A Fault) (s : State) → Leaves R s (settled r s)
  settled_kept (Ok a) s = at_rest _ _ (same s)
  settled_kept (Err why) s = at_rest _ _ (same s)

  pub present_kept : {A : Type 0} (r : Option A) (s : State) → Leaves R s (present r s)
  present_kept (Some a) s = at_rest _ _ (same s)
  present_kept None s = at_rest _ _ (same s)

  pub needed_kept : (s : State) (r : Got (Option Value)) → Leaves R s r → Leaves R s (needed r)
  needed_kept s r p = then_kept s r present p (λ v t. present_kept v t)

  -- the store that comes of a step is the state's
  pub store_kept : {A : Type 0} (r : Result Cells Fault) (s : State) (g : Cells → State → Got A) → ((c : Cells) → Leaves R (record s { store = c }) (g c s)) → Leaves R s (then_do (settled r s) g)
  store_kept (Ok c) s g go = behind_step s (record s { store = c }) _ (stays s _ refl refl) (go c)
  store_kept (Err why) s g go = at_rest _ _ (same s)

  -- ---- probes

  -- a way to log
  abbrev pub Logging : (ℕ → State → State) → Type 0
  Logging log = (m : ℕ) (s : State) → R s (log m s)

  one_kept : {A : Type 0} (log : ℕ → State → State) (x : Option ℕ) (s : State) (g : State → Got A) → Logging log → ((t : State) → Leaves R t (g t)) → Leaves R s (logs_one log x s g)
  one_kept log None s g l go = at_rest _ _ (same s)
  one_kept log (Some m) s g l go = behind_step s (log m s) _ (l m s) (go (log m s))

  pub logs_kept : {A : Type 0} (log : ℕ → State → State) (xs : List Text) (s : State) (g : State → Got A) → Logging log → ((t : State) → Leaves R t (g t)) → Leaves R s (logs log xs s g)
  logs_kept log [] s g l go = go s
  logs_kept log (x ∷ xs) s g l go = one_kept log (probe_number_of x) s _ l (λ t. logs_kept log xs t g l go)

  -- ---- what is told

  pub block_kept : (b : Bool) (i : First) (s : State) → R s (noted_block b i s)
  block_kept b (quiet m) s = same s
  block_kept true (heard c w) s = stays s _ refl refl
  block_kept false (heard c w) s = same s

  pub outcome_kept : (i : First) (o : ℕ) (s : State) → R s (noted_outcome i o s)
  outcome_kept (quiet m) o s = same s
  outcome_kept (heard c w) o s = stays s _ refl refl

  pick_kept : (b : Bool) (q s : State) → R s q → R s (if b then s else q)
  pick_kept true q s p = same s
  pick_kept false q s p = p

  pub test_kept : (a : NodeShape) (i : First) (b : Bool) (s : State) → R s (noted_test a i b s)
  test_kept a (quiet m) b s = same s
  test_kept a (heard c w) b s = pick_kept (is_logical a) _ s (stays s _ refl refl)

  pub use_kept : (way : Event → Act) (i : First) (q : Pointer) (s : State) → R s (noted_use way i q s)
  use_kept way (quiet m) q s = same s
  use_kept way (heard c w) q s = stays s _ refl refl

  pub def_kept : (way : Event → Act) (i : First) (q : Pointer) (s : State) → R s (noted_def way i q s)
  def_kept way (quiet m) q s = same s
  def_kept way (heard c w) q s = stays s _ refl refl

  pub made_kept : (i : First) (v : ℕ) (s : State) → R s (noted_made i v s)
  made_kept (quiet m) v s = same s
  made_kept (heard c w) v s = stays s _ refl refl

  pub begun_kept : (i : First) (f : ℕ) (s : State) → R s (noted_begun i f s)
  begun_kept (quiet m) f s = same s
  begun_kept (heard c w) f s = stays s _ refl refl

  -- ---- places

  pub loaded_kept : (xs : List Text) (i : First) (q : Pointer) (s : State) → Leaves R s (loaded xs i q s)
  loaded_kept xs i q s =
      then_kept s _ _ (settled_kept (read_of s.store q) s) (λ v s. behind_step s (noted_use tells i q s) _ (use_kept tells i q s) (logs_kept (log_use q) xs (noted_use tells i q s) _ (λ m s. stays s _ refl refl) (λ s. at_rest _ _ (same s))))

  pub stored_kept : (way : Event → Act) (xs : List Text) (i : First) (q : Pointer) (v : Value) (s : State) → Leaves R s (stored way xs i q v s)
  stored_kept way xs i q v s =
      store_kept (write_of s.store q v) s _ (λ c.
      behind_step (record s { store = c }) (noted_def way i q (record s { store = c })) _ (def_kept way i q (record s { store = c })) (logs_kept (log_def q) xs (noted_def way i q (record s { store = c })) _ (λ m s. stays s _ refl refl) (λ s. at_rest _ _ (same s))))

  selected_kept : (q : Pointer) (offset n size : ℕ) (s : State) → Leaves R s (selected_place q offset n size s)
  selected_kept q offset n size s = if_kept s (has_part q offset n size) _ _ (settled_kept (selected s.store q offset n size) s) (at_rest _ _ (same s))

  pub fetched_kept : (t : TablesShape) (n : NoteShape) (xs : List Text) (i : First) (q : Pointer) (s : State) → Leaves R s (fetched t n xs i q s)
  fetched_kept t (typed (int k) c) xs i q s = then_kept s _ _ (loaded_kept xs i q s) (λ v s. at_rest _ _ (same s))
  fetched_kept t (typed (pointer k) c) xs i q s = then_kept s _ _ (loaded_kept xs i q s) (λ v s. at_rest _ _ (same s))
  fetched_kept t (typed (array k n) c) xs i q s = then_kept s _ _ (selected_kept q 0 n (cells t k) s) (λ q s. at_rest _ _ (same s))
  fetched_kept t (typed (structure n) c) xs i q s = at_rest _ _ (same s)
  fetched_kept t (typed nothing c) xs i q s = at_rest _ _ (same s)
  fetched_kept t (known k v) xs i q s = at_rest _ _ (same s)
  fetched_kept t bare xs i q s = at_rest _ _ (same s)

  pub variable_kept : (t : TablesShape) (k : TypeOf) (v : ℕ) (s : State) → Leaves R s (variable_place t k v s)
  variable_kept t k v s = then_kept s _ _ (present_kept (instance_of v s) s) (λ j s. if_kept s (nat_le (cells t k) room) (Gives (whole j (cells t k)) s) (untyped s) (at_rest _ _ (same s)) (at_rest _ _ (same s)))

  part_kept : (t : TablesShape) (part : Option Part) (q : Pointer) (s : State) → Leaves R s (part_place t part q s)
  part_kept t None q s = at_rest _ _ (same s)
  part_kept t (Some part) q s = selected_kept q part.offset 1 (cells t part.kind) s

  pub field_kept : (t : TablesShape) (x : Text) (k : TypeOf) (q : Pointer) (s : State) → Leaves R s (field_place t x k q s)
  field_kept t x k q s = part_kept t (part_in t x k) q s

  pub written_kept : (k : TypeOf) (xs : List Text) (i : First) (q : Pointer) (v : Value) (s : State) → Leaves R s (written k xs i q v s)
  written_kept k xs i q v s = then_kept s _ _ (stored_kept tells xs i q _ s) (λ v s. at_rest _ _ (same s))

  pub stepped_kept : (front : Bool) (x : Value) (v : Option Value) (s : State) → Leaves R s (stepped_from front x v s)
  stepped_kept true x v s = at_rest _ _ (same s)
  stepped_kept false x v s = at_rest _ _ (same s)

  -- ---- constants

  pub number_kept : (x : Option Number) (s : State) → Leaves R s (number_value x s)
  number_kept None s = at_rest _ _ (same s)
  number_kept (Some x) s = at_rest _ _ (same s)

  pub literal_kept : (n : NoteShape) (x : Text) (s : State) → Leaves R s (literal_value n x s)
  literal_kept (typed k (Some j)) x s = if_kept s (nat_lt (length x) room) (gives (At (first_cell j (length x + 1))) s) (untyped s) (at_rest _ _ (same s)) (at_rest _ _ (same s))
  literal_kept (typed k None) x s = at_rest _ _ (same s)
  literal_kept (known k v) x s = at_rest _ _ (same s)
  literal_kept bare x s = at_rest _ _ (same s)

  pub noted_kept : (n : NoteShape) (s : State) → Leaves R s (noted_value n s)
  noted_kept (known k v) s = at_rest _ _ (same s)
  noted_kept (typed k j) s = at_rest _ _ (same s)
  noted_kept bare s = at_rest _ _ (same s)

  -- ---- functions that every program has

  next_kept : (bs : List ℕ) (s : State) → Leaves R s (next_byte bs s)
  next_kept [] s = at_rest _ _ (same s)
  next_kept (b ∷ bs) s = at_rest _ _ (stays s _ refl refl)

  put_kept : (vs : List Value) (s : State) → Leaves R s (put_byte vs s)
  put_kept (Int z ∷ []) s = at_rest _ _ (stays s _ refl refl)
  put_kept [] s = at_rest _ _ (same s)
  put_kept (Null ∷ vs) s = at_rest _ _ (same s)
  put_kept (At q ∷ vs) s = at_rest _ _ (same s)
  put_kept (Int z ∷ v ∷ vs) s = at_rest _ _ (same s)

  exits_kept : (vs : List Value) (s : State) → Leaves R s (exits vs s)
  exits_kept (Int z ∷ []) s = at_rest _ _ (same s)
  exits_kept [] s = at_rest _ _ (same s)
  exits_kept (Null ∷ vs) s = at_rest _ _ (same s)
  exits_kept (At q ∷ vs) s = at_rest _ _ (same s)
  exits_kept (Int z ∷ v ∷ vs) s = at_rest _ _ (same s)

  pub built_in_kept : (x : Text) (vs : List Value) (s : State) → Leaves R s (built_in x vs s)
  built_in_kept x vs s =
      if_kept s (bytes_eq x (builtin_name GetChar)) _ _ (next_kept s.input s)
      (if_kept s (bytes_eq x (builtin_name PutChar)) _ _ (put_kept vs s) (if_kept s (bytes_eq x (builtin_name Exit)) _ _ (exits_kept vs s) (at_rest _ _ (same s))))

  -- ---- instances

  fits_kept : (b : Bool) (c : Cells) (s : State) → Leaves R s (new_instance (if b then Ok c else Err Room) s)
  fits_kept true c s = at_rest _ _ (stays s _ refl refl)
  fits_kept false c s = at_rest _ _ (same s)

  pub new_kept : (writable : Bool) (xs : List (Option Value)) (s : State) → Leaves R s (new_instance (made s.store writable xs) s)
  new_kept writable xs s =
      fits_kept (nat_le (cell_count s.store.live + length xs) s.store.most)
      (record { most = s.store.most; count = suc s.store.count; live = s.store.live ++ record { number = suc s.store.count; writable = writable; cells = xs } ∷ [] }) s

  pub make_kept : (t : TablesShape) (k : TypeOf) (s : State) → Leaves R s (make t k s)
  make_kept t k s = new_kept true (replicate (cells t k) None) s

  filled_kept : (way : Event → Act) (xs : List Text) (i : First) (q : Pointer) (vs : List (Option Value)) (s : State) → Leaves R s (filled way xs i q vs s)
  filled_kept way xs i q [] s = at_rest _ _ (same s)
  filled_kept way xs i q (None ∷ vs) s = filled_kept way xs i (next_cell q) vs s
  filled_kept way xs i q (Some v ∷ vs) s = then_kept s _ _ (stored_kept way xs i q v s) (λ v s. filled_kept repeats xs i (next_cell q) vs s)

  pub whole_kept : (t : TablesShape) (k : TypeOf) (x : Option Named) (i : First) (j : ℕ) (vs : List (Option Value)) (s : State) → Leaves R s (filled_whole t k x i j vs s)
  whole_kept t k x i j vs s = filled_kept tells (name_marks x) i (first_cell j (cells t k)) vs s

  pub scalar_kept : (x : Option Named) (i : First) (j : ℕ) (v : Value) (s : State) → Leaves R s (scalar_written x i j v s)
  scalar_kept x i j v s = then_kept s _ _ (stored_kept tells (name_marks x) i (whole j 1) v s) (λ v s. at_rest _ _ (same s))
