-- What is done with places (C89, 3.2.2.1): variables, parts, reading and writing; and the probes round them.
use Rattle.std.specs.Prelude.{ℕ, zero, suc, ◌+◌, ◌*◌, nat_le, nat_lt, nat_eq, ◌&&◌, Bool, ◌++◌, List, [], ◌∷◌, Option, Some, None, if◌then◌else◌}
use Rattle.c_events.specs.declared.events.Event.{Event}
use Rattle.c_events.specs.declared.events.Event.TheVariants.{Def, Use}
use Rattle.c_syntax.specs.declared.text.Text.{Text}
use Rattle.c_syntax.specs.Shape.{TypeOf, int, pointer, array, structure, nothing, NoteShape, typed, Probing, used, def, NodeShape, node, ExprShape, paren, probe, simple}
use Rattle.c_constants.specs.Probes.{probe_number_of}
use Rattle.c_store.specs.declared.value.Value.{Value}
use Rattle.c_store.specs.declared.value.Value.TheVariants.{At}
use Rattle.c_store.specs.declared.value.Pointer.{Pointer}
use Rattle.c_store.specs.Cells.{cell_of, read_of, write_of, selected}
use Rattle.c_store.specs.Copies.{reach_of, copy_of}
use Rattle.c_tables.specs.Tables.{TablesShape}
use Rattle.c_meaning.specs.State.{Act, tells, repeats, State, logged, activation, instance_of}
use Rattle.c_meaning.specs.Results.{Got, Gives, then_do, turns, untyped, settled, present}
use Rattle.c_meaning.specs.Layout.{Part, cells, part_in}
use Rattle.c_meaning.specs.Firsts.{First, cell_at, noted_use, noted_def}

-- ---- pointers

-- to the whole of an instance of so many cells
abbrev pub whole : ℕ → ℕ → Pointer
whole j size = record { instance = j; base = 0; length = 1; size = size; index = 0 }

-- to the first of an instance's cells, of which there are so many
abbrev pub first_cell : ℕ → ℕ → Pointer
first_cell j n = record { instance = j; base = 0; length = n; size = 1; index = 0 }

-- no more cells live at once, so no object has more
abbrev pub room : ℕ
room = 1048576

abbrev pub object_at : ℕ → ℕ → State → Got Pointer
object_at n j s = if nat_le n room then Gives (whole j n) s else untyped s

-- the variable of that number and type
abbrev pub variable_place : TablesShape → TypeOf → ℕ → State → Got Pointer
variable_place t k n s = then_do (present (instance_of n s) s) (object_at (cells t k))

-- so many elements of that size, from the offset on, lie in the element at that place
abbrev pub has_part : Pointer → ℕ → ℕ → ℕ → Bool
has_part q offset n size = nat_le offset room && (nat_le size room && nat_le (offset + n * size) q.size)

-- a pointer to the first of them
abbrev pub selected_place : Pointer → ℕ → ℕ → ℕ → State → Got Pointer
selected_place q offset n size s = if has_part q offset n size then settled (selected s.store q offset n size) s else untyped s

-- the first element of an array at that place
abbrev pub first_element : TablesShape → TypeOf → ℕ → Pointer → State → Got Pointer
first_element t k n q s = selected_place q 0 n (cells t k) s

abbrev pub part_place : TablesShape → Option Part → Pointer → State → Got Pointer
part_place t None q s = untyped s
part_place t (Some part) q s = selected_place q part.offset 1 (cells t part.kind) s

-- the field of that name in a structure of that type
abbrev pub field_place : TablesShape → Text → TypeOf → Pointer → State → Got Pointer
field_place t x k q s = part_place t (part_in t x k) q s

-- to its next cell
abbrev pub next_cell : Pointer → Pointer
next_cell q = record q { index = suc q.index }

-- ---- probes

-- one with that number logs, and the run goes on
abbrev pub logs_one : {A : Type 0} → (ℕ → State → State) → Option ℕ → State → (State → Got A) → Got A
logs_one log None s go = untyped s
logs_one log (Some k) s go = go (log k s)

abbrev pub logs : {A : Type 0} → (ℕ → State → State) → List Text → State → (State → Got A) → Got A
logs log [] s go = go s
logs log (x ∷ xs) s go = logs_one log (probe_number_of x) s (λ s. logs log xs s go)

-- the probes of a kind that stand round a place, the inner ones first
abbrev mutual
  pub marks : Probing → NodeShape → List Text
  marks u (node p o n f) = marks_in u f

  pub marks_in : Probing → ExprShape → List Text
  marks_in u (paren a) = marks u a
  marks_in used (probe (simple used x) a) = marks used a ++ x ∷ []
  marks_in used (probe (simple def x) a) = marks used a
  marks_in def (probe (simple def x) a) = marks def a ++ x ∷ []
  marks_in def (probe (simple used x) a) = marks def a
  marks_in u f = []

abbrev pub log_use : Pointer → ℕ → State → State
log_use q k s = logged (Use k (cell_at q) (activation s)) s

abbrev pub log_def : Pointer → ℕ → State → State
log_def q k s = logged (Def k (cell_at q)) s

-- ---- reading and writing

-- the value in a cell, of which it is told that it was used
abbrev pub loaded : List Text → First → Pointer → State → Got Value
loaded xs i q s = then_do (settled (read_of s.store q) s) (λ v s. logs (log_use q) xs (noted_use tells i q s) (λ s. Gives v s))

-- the value is written, and it is told that the cell was defined
abbrev pub stored : (Event → Act) → List Text → First → Pointer → Value → State → Got Value
stored way xs i q v s =
    then_do (settled (write_of s.store q v) s) (λ c s. logs (log_def q) xs (noted_def way i q (record s { store = c })) (λ s. Gives v s))

-- ---- copying

-- to the first cell of the element at that place
abbrev pub first_of : Pointer → Pointer
first_of q = record q { base = cell_of q; length = q.size; size = 1; index = 0 }

-- of so many cells it is told one by one that each was used, or defined
abbrev pub cells_used : {A : Type 0} → (Event → Act) → List Text → First → Pointer → ℕ → State → (State → Got A) → Got A
cells_used way xs i q zero s go = go s
cells_used way xs i q (suc n) s go = logs (log_use q) xs (noted_use way i q s) (λ s. cells_used repeats xs i (next_cell q) n s go)

abbrev pub cells_defined : {A : Type 0} → (Event → Act) → List Text → First → Pointer → ℕ → State → (State → Got A) → Got A
cells_defined way xs i q zero s go = go s
cells_defined way xs i q (suc n) s go = logs (log_def q) xs (noted_def way i q s) (λ s. cells_defined repeats xs i (next_cell q) n s go)

-- the cells of one element are copied into those of the other, of as many: both lists of probes stand round their places
abbrev pub copied_cells : List Text → List Text → First → First → Pointer → Pointer → State → Got (Option Value)
copied_cells ds us i j q r s =
    turns r.size s (λ s.
    then_do (settled (reach_of s.store r) s) (λ done s.
    cells_used tells us j (first_of r) r.size s (λ s.
    then_do (settled (copy_of s.store r q) s) (λ c s.
    cells_defined tells ds i (first_of q) q.size (record s { store = c }) (λ s. Gives None s)))))

-- two elements of as many cells, of which there are some
abbrev pub alike_in_size : Pointer → Pointer → Bool
alike_in_size q r = nat_eq q.size r.size && nat_lt 0 r.size

abbrev pub copied : List Text → List Text → First → First → Pointer → Pointer → State → Got (Option Value)
copied ds us i j q r s = if alike_in_size q r then copied_cells ds us i j q r s else untyped s

-- what a place gives as a value: a scalar's is read, an array's is a pointer to its first element; a structure gives none, and neither
-- does what a pointer to void points to
abbrev pub fetched : TablesShape → NoteShape → List Text → First → Pointer → State → Got (Option Value)
fetched t (typed (int k) n) xs i q s = then_do (loaded xs i q s) (λ v s. Gives (Some v) s)
fetched t (typed (pointer k) n) xs i q s = then_do (loaded xs i q s) (λ v s. Gives (Some v) s)
fetched t (typed (array k m) n) xs i q s = then_do (first_element t k m q s) (λ q s. Gives (Some (At q)) s)
fetched t (typed (structure m) n) xs i q s = Gives None s
fetched t (typed nothing n) xs i q s = Gives None s
fetched t n xs i q s = untyped s
