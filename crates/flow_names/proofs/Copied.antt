-- What leaves names as they were, a copy of a structure leaves so.
use Rattle.std.proofs.Common.{refl, ℕ, zero, suc, List, Option, None, refl}
use Rattle.c_events.specs.declared.events.Event.{Event}
use Rattle.c_syntax.specs.declared.text.Text.{Text}
use Rattle.c_store.specs.declared.value.Value.{Value}
use Rattle.c_store.specs.declared.value.Pointer.{Pointer}
use Rattle.c_store.specs.Cells.{Cells}
use Rattle.c_store.specs.Copies.{reach_of, copy_of}
use Rattle.c_meaning.specs.State.{Act, tells, repeats, State}
use Rattle.c_meaning.specs.Results.{Got, Gives, then_do, untyped, settled}
use Rattle.c_meaning.specs.Firsts.{First, noted_use, noted_def}
use Rattle.c_meaning.specs.Places.{next_cell, log_use, log_def, first_of, cells_used, cells_defined, alike_in_size, copied_cells, copied}
use Rattle.flow_names.proofs.Steps.{Leaves, Follows, stays, same, at_rest, behind_step, then_kept, if_kept, turns_kept, settled_kept, store_kept, logs_kept, use_kept, def_kept}

-- ---- parts of a copy, the last one first

abbrev telling : List Text → First → Pointer → Cells → State → Got (Option Value)
telling ds i q c s = cells_defined tells ds i (first_of q) q.size (record s { store = c }) (λ s. Gives None s)

abbrev copying : List Text → First → Pointer → Pointer → State → Got (Option Value)
copying ds i q r s = then_do (settled (copy_of s.store r q) s) (telling ds i q)

abbrev using : List Text → List Text → First → First → Pointer → Pointer → Unit {0} → State → Got (Option Value)
using ds us i j q r done s = cells_used tells us j (first_of r) r.size s (copying ds i q r)

abbrev reaching : List Text → List Text → First → First → Pointer → Pointer → State → Got (Option Value)
reaching ds us i j q r s = then_do (settled (reach_of s.store r) s) (using ds us i j q r)

-- ---- copies

module _ (R : State → State → Type 0) (lasts : Follows R) where
  cells_used_kept : {A : Type 0} (way : Event → Act) (xs : List Text) (i : First) (q : Pointer) (n : ℕ) (s : State) (g : State → Got A) → ((t : State) → Leaves R t (g t)) → Leaves R s (cells_used way xs i q n s g)
  cells_used_kept way xs i q zero s g go = go s
  cells_used_kept way xs i q (suc n) s g go =
      behind_step R lasts s (noted_use way i q s) _ (use_kept R lasts way i q s) (logs_kept R lasts (log_use q) xs (noted_use way i q s) _ (λ m s. stays R lasts s _ refl refl) (λ s. cells_used_kept repeats xs i (next_cell q) n s g go))

  cells_defined_kept : {A : Type 0} (way : Event → Act) (xs : List Text) (i : First) (q : Pointer) (n : ℕ) (s : State) (g : State → Got A) → ((t : State) → Leaves R t (g t)) → Leaves R s (cells_defined way xs i q n s g)
  cells_defined_kept way xs i q zero s g go = go s
  cells_defined_kept way xs i q (suc n) s g go =
      behind_step R lasts s (noted_def way i q s) _ (def_kept R lasts way i q s) (logs_kept R lasts (log_def q) xs (noted_def way i q s) _ (λ m s. stays R lasts s _ refl refl) (λ s. cells_defined_kept repeats xs i (next_cell q) n s g go))

  pub copied_kept : (ds us : List Text) (i j : First) (q r : Pointer) (s : State) → Leaves R s (copied ds us i j q r s)
  copied_kept ds us i j q r s =
      if_kept R lasts s (alike_in_size q r) (copied_cells ds us i j q r s) (untyped s)
      (turns_kept R lasts r.size s (reaching ds us i j q r) (λ s.
      then_kept R lasts s (settled (reach_of s.store r) s) (using ds us i j q r) (settled_kept R lasts (reach_of s.store r) s) (λ done s.
      cells_used_kept tells us j (first_of r) r.size s (copying ds i q r) (λ s.
      store_kept R lasts (copy_of s.store r q) s (telling ds i q) (λ c.
      cells_defined_kept tells ds i (first_of q) q.size (record s { store = c }) (λ s. Gives None s) (λ s. at_rest R lasts _ _ (same R lasts s)))))))
      (at_rest R lasts _ _ (same R lasts s))
