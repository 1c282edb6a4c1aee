-- What each step of a run keeps, the parts of expressions keep.
use Rattle.std.proofs.Common.{◌≡◌, ℕ, zero, suc, ◌≤◌, ◌-◌, ◌+◌, List, [], ◌∷◌, ◌++◌, length, Option, Some, None, Result, Ok, Err, Bool, true, false, refl, arith}
use Rattle.std.specs.Prelude.{nat_le, nat_lt, bytes_eq, replicate, if◌then◌else◌}
use Rattle.c_events.specs.declared.events.Event.{Event}
use Rattle.c_syntax.specs.declared.text.Text.{Text}
use Rattle.c_syntax.specs.declared.tree.Named.{Named}
use Rattle.c_syntax.specs.Shape.{TypeOf, int, pointer, array, structure, nothing, NoteShape, bare, typed, known, NodeShape}
use Rattle.c_constants.specs.declared.numbers.Number.{Number}
use Rattle.c_constants.specs.Probes.{probe_number_of}
use Rattle.c_store.specs.declared.value.Value.{Value}
use Rattle.c_store.specs.declared.value.Value.TheVariants.{Int, Null, At}
use Rattle.c_store.specs.declared.value.Pointer.{Pointer}
use Rattle.c_store.specs.declared.value.Fault.{Fault}
use Rattle.c_store.specs.declared.value.Fault.TheVariants.{WriteLiteral}
use Rattle.c_store.specs.declared.value.MakeErr.TheVariants.{Room}
use Rattle.c_store.specs.Cells.{Cells, Slot, cell_count, read_of, write_of, write_in, replace, with_value, cell_of, selected, element_of, made}
use Rattle.c_tables.specs.Tables.{TablesShape}
use Rattle.c_tables.specs.Builtins.{builtin_name}
use Rattle.c_tables.specs.declared.builtins.Builtin.TheVariants.{GetChar, PutChar, Exit}
use Rattle.c_walk.specs.Tests.{is_logical}
use Rattle.c_meaning.specs.State.{Act, tells, repeats, State, instance_of}
use Rattle.c_meaning.specs.Results.{Got, Gives, Stops, then_do, turn_of, turn, turns, untyped, settled, present, needed}
use Rattle.c_meaning.specs.Layout.{Part, cells, part_in}
use Rattle.c_meaning.specs.Firsts.{First, quiet, heard, noted_block, noted_outcome, noted_test, noted_use, noted_def, noted_made, noted_begun}
use Rattle.c_meaning.specs.Places.{whole, first_cell, next_cell, logs_one, logs, log_use, log_def, loaded, stored, fetched, variable_place, part_place, field_place, room, has_part, selected_place}
use Rattle.c_meaning.specs.Builtins.{next_byte, put_byte, exits, built_in}
use Rattle.c_meaning.specs.Expressions.{gives, number_value, literal_value, noted_value, written, stepped_from}
use Rattle.c_meaning.specs.Declarations.{new_instance, make, name_marks, filled, filled_whole, scalar_written}
use Rattle.c_meaning.specs.Lasting.{IsProbeNumber, Lasts, Lasted}
use Rattle.c_meaning.proofs.Numbered.{AllProbeNumbers, probe_numbered}

-- the store has given as many numbers as before
abbrev pub SameCount : ℕ → Result Cells Fault → Type 0
SameCount n (Ok c) = n ≡ c.count
SameCount n (Err why) = Unit {0}

pub if_count : (n : ℕ) (b : Bool) (c : Cells) (why : Fault) → n ≡ c.count → SameCount n (if b then Ok c else Err why)
if_count n true c why e = e
if_count n false c why e = tt

write_count : (c : Cells) (r : Result Slot Fault) (p : Pointer) (v : Value) → SameCount c.count (write_in c r p v)
write_count c (Err why) p v = tt
write_count c (Ok slot) p v = if_count c.count slot.writable (record c { live = replace p.instance (with_value slot (cell_of p) v) c.live }) WriteLiteral refl

-- the state after a result, or when the run stops
abbrev pub state_in : {A : Type 0} → Got A → State
state_in (Gives a s) = s
state_in (Stops why s) = s

module _ (R C Q S : State → State → Type 0) (lasts : Lasts R C Q S) where
  -- ---- in general

  pub at_rest : {A : Type 0} (r : Got A) (s : State) → R s (state_in r) → Lasted R Q s r
  at_rest (Gives a t) s p = record { holds = p }
  at_rest (Stops why t) s p = record { holds = lasts.stopped s t p }

  -- behind a step that keeps it
  pub behind_step : {A : Type 0} (s t : State) (r : Got A) → R s t → Lasted R Q t r → Lasted R Q s r
  behind_step s t (Gives a u) p q = record { holds = lasts.further s t u p q.holds }
  behind_step s t (Stops why u) p q = record { holds = lasts.further_stop s t u p q.holds }

  pub then_kept : {A B : Type 0} (s : State) (r : Got A) (g : A → State → Got B) → Lasted R Q s r → ((a : A) (t : State) → Lasted R Q t (g a t)) → Lasted R Q s (then_do r g)
  then_kept s (Gives a t) g p go = behind_step s t (g a t) p.holds (go a t)
  then_kept s (Stops why t) g p go = record { holds = p.holds }

  -- a whole call, as a part of the call that it stands in
  pub call_kept : {A : Type 0} (s : State) (r : Got A) → Lasted C S s r → Lasted R Q s r
  call_kept s (Gives a t) p = record { holds = lasts.called s t p.holds }
  call_kept s (Stops why t) p = record { holds = lasts.inside_stop s t p.holds }

  pub if_kept : {A : Type 0} (s : State) (b : Bool) (r q : Got A) → Lasted R Q s r → Lasted R Q s q → Lasted R Q s (if b then r else q)
  if_kept s true r q l m = l
  if_kept s false r q l m = m

  turn_of_kept : {A : Type 0} (m : ℕ) (s : State) (g : State → Got A) → m ≡ s.turns → ((t : State) → Lasted R Q t (g t)) → Lasted R Q s (turn_of m s g)
  turn_of_kept zero s g e go = at_rest _ _ (lasts.same s)
  turn_of_kept (suc m) s g e go = behind_step s (record s { turns = m }) _ (lasts.turned s m (omega (arith, e))) (go (record s { turns = m }))

  pub turn_kept : {A : Type 0} (s : State) (g : State → Got A) → ((t : State) → Lasted R Q t (g t)) → Lasted R Q s (turn s g)
  turn_kept s g go = turn_of_kept s.turns s g refl go

  pub turns_kept : {A : Type 0} (n : ℕ) (s : State) (g : State → Got A) → ((t : State) → Lasted R Q t (g t)) → Lasted R Q s (turns n s g)
  turns_kept n s g go =
      if_kept s (nat_le n s.turns) (g (record s { turns = s.turns - n })) _
      (behind_step s (record s { turns = s.turns - n }) _ (lasts.turned s (s.turns - n) (omega arith)) (go (record s { turns = s.turns - n }))) (at_rest _ _ (lasts.turned s 0 (omega arith)))

  pub settled_kept : {A : Type 0} (r : Result A Fault) (s : State) → Lasted R Q s (settled r s)
  settled_kept (Ok a) s = at_rest _ _ (lasts.same s)
  settled_kept (Err why) s = at_rest _ _ (lasts.same s)

  pub present_kept : {A : Type 0} (r : Option A) (s : State) → Lasted R Q s (present r s)
  present_kept (Some a) s = at_rest _ _ (lasts.same s)
  present_kept None s = at_rest _ _ (lasts.same s)

  pub needed_kept : (s : State) (r : Got (Option Value)) → Lasted R Q s r → Lasted R Q s (needed r)
  needed_kept s r p = then_kept s r present p (λ v t. present_kept v t)

  -- the store that comes of a step is the state's
  pub store_kept : {A : Type 0} (r : Result Cells Fault) (s : State) (g : Cells → State → Got A) → SameCount s.store.count r → ((c : Cells) → Lasted R Q (record s { store = c }) (g c s)) → Lasted R Q s (then_do (settled r s) g)
  store_kept (Ok c) s g e go = behind_step s (record s { store = c }) _ (lasts.kept_in s c (omega (arith, e))) (go c)
  store_kept (Err why) s g e go = at_rest _ _ (lasts.same s)

  -- ---- probes

  -- a way to log
  abbrev pub Logging : (ℕ → State → State) → Type 0
  Logging log = (m : ℕ) (s : State) → IsProbeNumber m → R s (log m s)

  one_kept : {A : Type 0} (log : ℕ → State → State) (x : Option ℕ) (s : State) (g : State → Got A) → AllProbeNumbers x → Logging log → ((t : State) → Lasted R Q t (g t)) → Lasted R Q s (logs_one log x s g)
  one_kept log None s g n l go = at_rest _ _ (lasts.same s)
  one_kept log (Some m) s g n l go = behind_step s (log m s) _ (l m s n) (go (log m s))

  pub logs_kept : {A : Type 0} (log : ℕ → State → State) (xs : List Text) (s : State) (g : State → Got A) → Logging log → ((t : State) → Lasted R Q t (g t)) → Lasted R Q s (logs log xs s g)
  logs_kept log [] s g l go = go s
  logs_kept log (x ∷ xs) s g l go = one_kept log (probe_number_of x) s _ (probe_numbered x) l (λ t. logs_kept log xs t g l go)

  -- ---- what is told

  pub block_kept : (b : Bool) (i : First) (s : State) → R s (noted_block b i s)
  block_kept b (quiet m) s = lasts.same s
  block_kept true (heard c w) s = lasts.done s _
  block_kept false (heard c w) s = lasts.same s

  pub outcome_kept : (i : First) (o : ℕ) (s : State) → R s (noted_outcome i o s)
  outcome_kept (quiet m) o s = lasts.same s
  outcome_kept (heard c w) o s = lasts.done s _

  pick_kept : (b : Bool) (q s : State) → R s q → R s (if b then s else q)
  pick_kept true q s p = lasts.same s
  pick_kept false q s p = p

  pub test_kept : (a : NodeShape) (i : First) (b : Bool) (s : State) → R s (noted_test a i b s)
  test_kept a (quiet m) b s = lasts.same s
  test_kept a (heard c w) b s = pick_kept (is_logical a) _ s (lasts.done s _)

  pub use_kept : (way : Event → Act) (i : First) (q : Pointer) (s : State) → R s (noted_use way i q s)
  use_kept way (quiet m) q s = lasts.same s
  use_kept way (heard c w) q s = lasts.done s _

  pub def_kept : (way : Event → Act) (i : First) (q : Pointer) (s : State) → R s (noted_def way i q s)
  def_kept way (quiet m) q s = lasts.same s
  def_kept way (heard c w) q s = lasts.done s _

  pub made_kept : (i : First) (v : ℕ) (s : State) → R s (noted_made i v s)
  made_kept (quiet m) v s = lasts.same s
  made_kept (heard c w) v s = lasts.done s _

  pub begun_kept : (i : First) (f : ℕ) (s : State) → R s (noted_begun i f s)
  begun_kept (quiet m) f s = lasts.same s
  begun_kept (heard c w) f s = lasts.done s _

  -- ---- places

  pub loaded_kept : (xs : List Text) (i : First) (q : Pointer) (s : State) → Lasted R Q s (loaded xs i q s)
  loaded_kept xs i q s =
      then_kept s _ _ (settled_kept (read_of s.store q) s) (λ v s. behind_step s (noted_use tells i q s) _ (use_kept tells i q s) (logs_kept (log_use q) xs (noted_use tells i q s) _ (λ m s n. lasts.told s _ n) (λ s. at_rest _ _ (lasts.same s))))

  pub stored_kept : (way : Event → Act) (xs : List Text) (i : First) (q : Pointer) (v : Value) (s : State) → Lasted R Q s (stored way xs i q v s)
  stored_kept way xs i q v s =
      store_kept (write_of s.store q v) s _ (write_count s.store (element_of s.store.live q) q v) (λ c.
      behind_step (record s { store = c }) (noted_def way i q (record s { store = c })) _ (def_kept way i q (record s { store = c })) (logs_kept (log_def q) xs (noted_def way i q (record s { store = c })) _ (λ m s n. lasts.told s _ n) (λ s. at_rest _ _ (lasts.same s))))

  selected_kept : (q : Pointer) (offset n size : ℕ) (s : State) → Lasted R Q s (selected_place q offset n size s)
  selected_kept q offset n size s = if_kept s (has_part q offset n size) _ _ (settled_kept (selected s.store q offset n size) s) (at_rest _ _ (lasts.same s))

  pub fetched_kept : (t : TablesShape) (n : NoteShape) (xs : List Text) (i : First) (q : Pointer) (s : State) → Lasted R Q s (fetched t n xs i q s)
  fetched_kept t (typed (int k) c) xs i q s = then_kept s _ _ (loaded_kept xs i q s) (λ v s. at_rest _ _ (lasts.same s))
  fetched_kept t (typed (pointer k) c) xs i q s = then_kept s _ _ (loaded_kept xs i q s) (λ v s. at_rest _ _ (lasts.same s))
  fetched_kept t (typed (array k n) c) xs i q s = then_kept s _ _ (selected_kept q 0 n (cells t k) s) (λ q s. at_rest _ _ (lasts.same s))
  fetched_kept t (typed (structure n) c) xs i q s = at_rest _ _ (lasts.same s)
  fetched_kept t (typed nothing c) xs i q s = at_rest _ _ (lasts.same s)
  fetched_kept t (known k v) xs i q s = at_rest _ _ (lasts.same s)
  fetched_kept t bare xs i q s = at_rest _ _ (lasts.same s)

  pub variable_kept : (t : TablesShape) (k : TypeOf) (v : ℕ) (s : State) → Lasted R Q s (variable_place t k v s)
  variable_kept t k v s = then_kept s _ _ (present_kept (instance_of v s) s) (λ j s. if_kept s (nat_le (cells t k) room) (Gives (whole j (cells t k)) s) (untyped s) (at_rest _ _ (lasts.same s)) (at_rest _ _ (lasts.same s)))

  part_kept : (t : TablesShape) (part : Option Part) (q : Pointer) (s : State) → Lasted R Q s (part_place t part q s)
  part_kept t None q s = at_rest _ _ (lasts.same s)
  part_kept t (Some part) q s = selected_kept q part.offset 1 (cells t part.kind) s

  pub field_kept : (t : TablesShape) (x : Text) (k : TypeOf) (q : Pointer) (s : State) → Lasted R Q s (field_place t x k q s)
  field_kept t x k q s = part_kept t (part_in t x k) q s

  pub written_kept : (k : TypeOf) (xs : List Text) (i : First) (q : Pointer) (v : Value) (s : State) → Lasted R Q s (written k xs i q v s)
  written_kept k xs i q v s = then_kept s _ _ (stored_kept tells xs i q _ s) (λ v s. at_rest _ _ (lasts.same s))

  pub stepped_kept : (front : Bool) (x : Value) (v : Option Value) (s : State) → Lasted R Q s (stepped_from front x v s)
  stepped_kept true x v s = at_rest _ _ (lasts.same s)
  stepped_kept false x v s = at_rest _ _ (lasts.same s)

  -- ---- constants

  pub number_kept : (x : Option Number) (s : State) → Lasted R Q s (number_value x s)
  number_kept None s = at_rest _ _ (lasts.same s)
  number_kept (Some x) s = at_rest _ _ (lasts.same s)

  pub literal_kept : (n : NoteShape) (x : Text) (s : State) → Lasted R Q s (literal_value n x s)
  literal_kept (typed k (Some j)) x s = if_kept s (nat_lt (length x) room) (gives (At (first_cell j (length x + 1))) s) (untyped s) (at_rest _ _ (lasts.same s)) (at_rest _ _ (lasts.same s))
  literal_kept (typed k None) x s = at_rest _ _ (lasts.same s)
  literal_kept (known k v) x s = at_rest _ _ (lasts.same s)
  literal_kept bare x s = at_rest _ _ (lasts.same s)

  pub noted_kept : (n : NoteShape) (s : State) → Lasted R Q s (noted_value n s)
  noted_kept (known k v) s = at_rest _ _ (lasts.same s)
  noted_kept (typed k j) s = at_rest _ _ (lasts.same s)
  noted_kept bare s = at_rest _ _ (lasts.same s)

  -- ---- functions that every program has

  next_kept : (bs : List ℕ) (s : State) → Lasted R Q s (next_byte bs s)
  next_kept [] s = at_rest _ _ (lasts.same s)
  next_kept (b ∷ bs) s = at_rest _ _ (lasts.read s bs)

  put_kept : (vs : List Value) (s : State) → Lasted R Q s (put_byte vs s)
  put_kept (Int z ∷ []) s = at_rest _ _ (lasts.put s _)
  put_kept [] s = at_rest _ _ (lasts.same s)
  put_kept (Null ∷ vs) s = at_rest _ _ (lasts.same s)
  put_kept (At q ∷ vs) s = at_rest _ _ (lasts.same s)
  put_kept (Int z ∷ v ∷ vs) s = at_rest _ _ (lasts.same s)

  exits_kept : (vs : List Value) (s : State) → Lasted R Q s (exits vs s)
  exits_kept (Int z ∷ []) s = at_rest _ _ (lasts.same s)
  exits_kept [] s = at_rest _ _ (lasts.same s)
  exits_kept (Null ∷ vs) s = at_rest _ _ (lasts.same s)
  exits_kept (At q ∷ vs) s = at_rest _ _ (lasts.same s)
  exits_kept (Int z ∷ v ∷ vs) s = at_rest _ _ (lasts.same s)

  pub built_in_kept : (x : Text) (vs : List Value) (s : State) → Lasted R Q s (built_in x vs s)
  built_in_kept x vs s =
      if_kept s (bytes_eq x (builtin_name GetChar)) _ _ (next_kept s.input s)
      (if_kept s (bytes_eq x (builtin_name PutChar)) _ _ (put_kept vs s) (if_kept s (bytes_eq x (builtin_name Exit)) _ _ (exits_kept vs s) (at_rest _ _ (lasts.same s))))

  -- ---- instances

  fits_kept : (b : Bool) (c : Cells) (s : State) → s.store.count ≤ c.count → Lasted R Q s (new_instance (if b then Ok c else Err Room) s)
  fits_kept true c s le = at_rest _ _ (lasts.kept_in s c le)
  fits_kept false c s le = at_rest _ _ (lasts.same s)

  pub new_kept : (writable : Bool) (xs : List (Option Value)) (s : State) → Lasted R Q s (new_instance (made s.store writable xs) s)
  new_kept writable xs s =
      fits_kept (nat_le (cell_count s.store.live + length xs) s.store.most)
      (record { most = s.store.most; count = suc s.store.count; live = s.store.live ++ record { number = suc s.store.count; writable = writable; cells = xs } ∷ [] }) s (omega arith)

  pub make_kept : (t : TablesShape) (k : TypeOf) (s : State) → Lasted R Q s (make t k s)
  make_kept t k s = new_kept true (replicate (cells t k) None) s

  filled_kept : (way : Event → Act) (xs : List Text) (i : First) (q : Pointer) (vs : List (Option Value)) (s : State) → Lasted R Q s (filled way xs i q vs s)
  filled_kept way xs i q [] s = at_rest _ _ (lasts.same s)
  filled_kept way xs i q (None ∷ vs) s = filled_kept way xs i (next_cell q) vs s
  filled_kept way xs i q (Some v ∷ vs) s = then_kept s _ _ (stored_kept way xs i q v s) (λ v s. filled_kept repeats xs i (next_cell q) vs s)

  pub whole_kept : (t : TablesShape) (k : TypeOf) (x : Option Named) (i : First) (j : ℕ) (vs : List (Option Value)) (s : State) → Lasted R Q s (filled_whole t k x i j vs s)
  whole_kept t k x i j vs s = filled_kept tells (name_marks x) i (first_cell j (cells t k)) vs s

  pub scalar_kept : (x : Option Named) (i : First) (j : ℕ) (v : Value) (s : State) → Lasted R Q s (scalar_written x i j v s)
  scalar_kept x i j v s = then_kept s _ _ (stored_kept tells (name_marks x) i (whole j 1) v s) (λ v s. at_rest _ _ (lasts.same s))
