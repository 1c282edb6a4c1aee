-- A copy of a structure beside one of which nothing is told, the turns that it leaves, and what it keeps.
use Rattle.std.proofs.Common.{◌≡◌, ℕ, zero, suc, ◌-◌, ◌<◌, List, Option, None, Result, Ok, Err, ◌∙◌, refl, ap, arith}
use Rattle.std.specs.Prelude.{nat_le}
use Rattle.c_events.specs.declared.events.Event.{Event}
use Rattle.c_syntax.specs.declared.text.Text.{Text}
use Rattle.c_store.specs.declared.value.Value.{Value}
use Rattle.c_store.specs.declared.value.Pointer.{Pointer}
use Rattle.c_store.specs.declared.value.Fault.{Fault}
use Rattle.c_store.specs.declared.value.Fault.TheVariants.{WriteLiteral}
use Rattle.c_store.specs.Cells.{Cells, Slot, cell_of, element_of, replace}
use Rattle.c_store.specs.Copies.{reach_of, copy_of, copied_in, with_part, cells_at}
use Rattle.c_meaning.specs.State.{Act, tells, repeats, State}
use Rattle.c_meaning.specs.Results.{Got, Gives, then_do, turns, untyped, settled}
use Rattle.c_meaning.specs.Firsts.{First, quiet, noted_use, noted_def}
use Rattle.c_meaning.specs.Places.{next_cell, log_use, log_def, first_of, cells_used, cells_defined, alike_in_size, copied_cells, copied}
use Rattle.c_meaning.specs.Lasting.{Lasts, Lasted}
use Rattle.c_meaning.proofs.Hushed.{hush, hushed, hush_then, hush_turns, hush_if, hush_settled, hush_logs, use_hush, def_hush}
use Rattle.c_meaning.proofs.Alike.{Left, left_then, if_left, settled_left, logs_left, use_turns, def_turns}
use Rattle.c_meaning.proofs.Steadily.{SameCount, if_count, at_rest, behind_step, then_kept, if_kept, turns_kept, settled_kept, store_kept, logs_kept, use_kept, def_kept}

-- ---- parts of a copy, the last one first

abbrev telling : List Text → First → Pointer → Cells → State → Got (Option Value)
telling ds i q c s = cells_defined tells ds i (first_of q) q.size (record s { store = c }) (λ s. Gives None s)

abbrev copying : List Text → First → Pointer → Pointer → State → Got (Option Value)
copying ds i q r s = then_do (settled (copy_of s.store r q) s) (telling ds i q)

abbrev using : List Text → List Text → First → First → Pointer → Pointer → Unit {0} → State → Got (Option Value)
using ds us i j q r done s = cells_used tells us j (first_of r) r.size s (copying ds i q r)

abbrev reaching : List Text → List Text → First → First → Pointer → Pointer → State → Got (Option Value)
reaching ds us i j q r s = then_do (settled (reach_of s.store r) s) (using ds us i j q r)

-- ---- told of, or not

used_hush : {A : Type 0} (way : Event → Act) (xs : List Text) (m : ℕ) (i : First) (q : Pointer) (n : ℕ) (x s : State) (h g : State → Got A) → x ≡ hush s → ((s : State) → h (hush s) ≡ hushed (g s)) → cells_used way xs (quiet m) q n x h ≡ hushed (cells_used way xs i q n s g)
used_hush way xs m i q zero x s h g e go = ap h e ∙ go s
used_hush way xs m i q (suc n) x s h g e go =
    hush_logs (log_use q) xs x (noted_use way i q s) _ _ (λ m s. refl) (e ∙ use_hush way i q s) (λ s. used_hush repeats xs m i (next_cell q) n (hush s) s h g refl go)

defined_hush : {A : Type 0} (way : Event → Act) (xs : List Text) (m : ℕ) (i : First) (q : Pointer) (n : ℕ) (x s : State) (h g : State → Got A) → x ≡ hush s → ((s : State) → h (hush s) ≡ hushed (g s)) → cells_defined way xs (quiet m) q n x h ≡ hushed (cells_defined way xs i q n s g)
defined_hush way xs m i q zero x s h g e go = ap h e ∙ go s
defined_hush way xs m i q (suc n) x s h g e go =
    hush_logs (log_def q) xs x (noted_def way i q s) _ _ (λ m s. refl) (e ∙ def_hush way i q s) (λ s. defined_hush repeats xs m i (next_cell q) n (hush s) s h g refl go)

pub copied_hush : (ds us : List Text) (m m' : ℕ) (i j : First) (q r : Pointer) (s : State) → copied ds us (quiet m) (quiet m') q r (hush s) ≡ hushed (copied ds us i j q r s)
copied_hush ds us m m' i j q r s =
    hush_if (alike_in_size q r) (copied_cells ds us (quiet m) (quiet m') q r (hush s)) (copied_cells ds us i j q r s) (untyped (hush s)) (untyped s)
    (hush_turns r.size s (reaching ds us (quiet m) (quiet m') q r) (reaching ds us i j q r) (λ s.
    hush_then (settled (reach_of s.store r) (hush s)) (settled (reach_of s.store r) s) (using ds us (quiet m) (quiet m') q r) (using ds us i j q r) (hush_settled (reach_of s.store r) s) (λ done s.
    used_hush tells us m' j (first_of r) r.size (hush s) s (copying ds (quiet m) q r) (copying ds i q r) refl (λ s.
    hush_then (settled (copy_of s.store r q) (hush s)) (settled (copy_of s.store r q) s) (telling ds (quiet m) q) (telling ds i q) (hush_settled (copy_of s.store r q) s) (λ c s.
    defined_hush tells ds m i (first_of q) q.size (hush (record s { store = c })) (record s { store = c }) (λ s. Gives None s) (λ s. Gives None s) refl (λ s. refl))))))
    refl

-- ---- turns

used_left : {A : Type 0} (n : ℕ) (way : Event → Act) (xs : List Text) (i : First) (q : Pointer) (k : ℕ) (s : State) (g : State → Got A) → s.turns < n → ((s : State) → s.turns < n → Left n (g s)) → Left n (cells_used way xs i q k s g)
used_left n way xs i q zero s g lt go = go s lt
used_left n way xs i q (suc k) s g lt go = logs_left n (log_use q) xs (noted_use way i q s) _ (λ m s. refl) (omega (arith, use_turns way i q s)) (λ s lt. used_left n repeats xs i (next_cell q) k s g lt go)

defined_left : {A : Type 0} (n : ℕ) (way : Event → Act) (xs : List Text) (i : First) (q : Pointer) (k : ℕ) (s : State) (g : State → Got A) → s.turns < n → ((s : State) → s.turns < n → Left n (g s)) → Left n (cells_defined way xs i q k s g)
defined_left n way xs i q zero s g lt go = go s lt
defined_left n way xs i q (suc k) s g lt go = logs_left n (log_def q) xs (noted_def way i q s) _ (λ m s. refl) (omega (arith, def_turns way i q s)) (λ s lt. defined_left n repeats xs i (next_cell q) k s g lt go)

turns_left : {A : Type 0} (n m : ℕ) (s : State) (g : State → Got A) → s.turns < n → ((s : State) → s.turns < n → Left n (g s)) → Left n (turns m s g)
turns_left n m s g lt go = if_left n (nat_le m s.turns) _ _ (go (record s { turns = s.turns - m }) (omega arith)) tt

pub copied_left : (n : ℕ) (ds us : List Text) (i j : First) (q r : Pointer) (s : State) → s.turns < n → Left n (copied ds us i j q r s)
copied_left n ds us i j q r s lt =
    if_left n (alike_in_size q r) (copied_cells ds us i j q r s) (untyped s)
    (turns_left n r.size s (reaching ds us i j q r) lt (λ s lt.
    left_then n (settled (reach_of s.store r) s) (using ds us i j q r) (settled_left n (reach_of s.store r) s lt) (λ done s lt.
    used_left n tells us j (first_of r) r.size s (copying ds i q r) lt (λ s lt.
    left_then n (settled (copy_of s.store r q) s) (telling ds i q) (settled_left n (copy_of s.store r q) s lt) (λ c s lt.
    defined_left n tells ds i (first_of q) q.size (record s { store = c }) (λ s. Gives None s) lt (λ s lt. lt))))))
    tt

-- ---- what lasts

copy_count : (c : Cells) (from : Result Slot Fault) (p : Pointer) (to : Result Slot Fault) (q : Pointer) → SameCount c.count (copied_in c from p to q)
copy_count c (Err why) p to q = tt
copy_count c (Ok s) p (Err why) q = tt
copy_count c (Ok s) p (Ok t) q = if_count c.count t.writable (record c { live = replace q.instance (record t { cells = with_part t.cells (cell_of q) (cells_at s p) }) c.live }) WriteLiteral refl

module _ (R C Q S : State → State → Type 0) (lasts : Lasts R C Q S) where
  cells_used_kept : {A : Type 0} (way : Event → Act) (xs : List Text) (i : First) (q : Pointer) (n : ℕ) (s : State) (g : State → Got A) → ((t : State) → Lasted R Q t (g t)) → Lasted R Q s (cells_used way xs i q n s g)
  cells_used_kept way xs i q zero s g go = go s
  cells_used_kept way xs i q (suc n) s g go =
      behind_step R C Q S lasts s (noted_use way i q s) _ (use_kept R C Q S lasts way i q s) (logs_kept R C Q S lasts (log_use q) xs (noted_use way i q s) _ (λ m s n. lasts.told s _ n) (λ s. cells_used_kept repeats xs i (next_cell q) n s g go))

  cells_defined_kept : {A : Type 0} (way : Event → Act) (xs : List Text) (i : First) (q : Pointer) (n : ℕ) (s : State) (g : State → Got A) → ((t : State) → Lasted R Q t (g t)) → Lasted R Q s (cells_defined way xs i q n s g)
  cells_defined_kept way xs i q zero s g go = go s
  cells_defined_kept way xs i q (suc n) s g go =
      behind_step R C Q S lasts s (noted_def way i q s) _ (def_kept R C Q S lasts way i q s) (logs_kept R C Q S lasts (log_def q) xs (noted_def way i q s) _ (λ m s n. lasts.told s _ n) (λ s. cells_defined_kept repeats xs i (next_cell q) n s g go))

  pub copied_kept : (ds us : List Text) (i j : First) (q r : Pointer) (s : State) → Lasted R Q s (copied ds us i j q r s)
  copied_kept ds us i j q r s =
      if_kept R C Q S lasts s (alike_in_size q r) (copied_cells ds us i j q r s) (untyped s)
      (turns_kept R C Q S lasts r.size s (reaching ds us i j q r) (λ s.
      then_kept R C Q S lasts s (settled (reach_of s.store r) s) (using ds us i j q r) (settled_kept R C Q S lasts (reach_of s.store r) s) (λ done s.
      cells_used_kept tells us j (first_of r) r.size s (copying ds i q r) (λ s.
      store_kept R C Q S lasts (copy_of s.store r q) s (telling ds i q) (copy_count s.store (element_of s.store.live r) r (element_of s.store.live q) q) (λ c.
      cells_defined_kept tells ds i (first_of q) q.size (record s { store = c }) (λ s. Gives None s) (λ s. at_rest R C Q S lasts _ _ (lasts.same s)))))))
      (at_rest R C Q S lasts _ _ (lasts.same s))
