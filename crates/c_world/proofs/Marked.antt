-- What is written into the cells of a declared object, and told of the probe round its name.
use Rattle.std.proofs.Common.{◌≡◌, ℕ, List, [], ◌∷◌, Option, Some, None, Result, Ok, Err, refl, sym, ap, ◌∙◌}
use Rattle.c_events.specs.declared.events.Event.{Event}
use Rattle.c_syntax.specs.declared.tree.Named.{Named}
use Rattle.c_syntax.specs.declared.tree.ProbeMark.{ProbeMark}
use Rattle.c_constants.specs.Probes.{probe_number_of}
use Rattle.c_store.specs.declared.value.Value.{Value}
use Rattle.c_store.specs.declared.value.Pointer.{Pointer}
use Rattle.c_store.specs.declared.value.Fault.{Fault}
use Rattle.c_store.specs.Cells.{Cells, write_of}
use Rattle.c_meaning.specs.declared.end.Flow.TheVariants.{Next}
use Rattle.c_meaning.specs.State.{Act, repeats, State}
use Rattle.c_meaning.specs.Results.{Gives, then_do, settled}
use Rattle.c_meaning.specs.Firsts.{quiet, noted_def}
use Rattle.c_meaning.specs.Places.{next_cell, logs_one, logs, log_def, stored}
use Rattle.c_meaning.specs.Declarations.{mark_texts, name_marks, filled}
use Rattle.c_meaning.proofs.Steps.{then_then, then_same}
use Rattle.c_world.specs.Steps.{numbered_site, mark_site, name_site, marked, stored_at, filled_at}

number_logs : (o : Option ℕ) (q : Pointer) (v : Value) (s : State) → then_do (logs_one (log_def q) o s (λ s. Gives v s)) (λ v s. Gives Next s) ≡ marked (numbered_site o) q s
number_logs None q v s = refl
number_logs (Some k) q v s = refl

mark_logs : (m : Option ProbeMark) (q : Pointer) (v : Value) (s : State) → then_do (logs (log_def q) (mark_texts m) s (λ s. Gives v s)) (λ v s. Gives Next s) ≡ marked (mark_site m) q s
mark_logs None q v s = refl
mark_logs (Some m) q v s = number_logs (probe_number_of m.number) q v s

name_logs : (x : Option Named) (q : Pointer) (v : Value) (s : State) → then_do (logs (log_def q) (name_marks x) s (λ s. Gives v s)) (λ v s. Gives Next s) ≡ marked (name_site x) q s
name_logs None q v s = refl
name_logs (Some x) q v s = mark_logs x.probe q v s

written_logs : (way : Event → Act) (x : Option Named) (n : ℕ) (q : Pointer) (v : Value) (s : State) (r : Result Cells Fault) → then_do (then_do (settled r s) (λ c s. logs (log_def q) (name_marks x) (noted_def way (quiet n) q (record s { store = c })) (λ s. Gives v s))) (λ v s. Gives Next s) ≡ then_do (settled r s) (λ c s. marked (name_site x) q (record s { store = c }))
written_logs way x n q v s (Ok c) = name_logs x q v (record s { store = c })
written_logs way x n q v s (Err fault) = refl

-- one cell
pub stored_is : (way : Event → Act) (x : Option Named) (n : ℕ) (q : Pointer) (v : Value) (s : State) → then_do (stored way (name_marks x) (quiet n) q v s) (λ v s. Gives Next s) ≡ stored_at (name_site x) q v s
stored_is way x n q v s = written_logs way x n q v s (write_of s.store q v)

-- all cells
pub filled_is : (way : Event → Act) (x : Option Named) (n : ℕ) (q : Pointer) (vs : List (Option Value)) (s : State) → filled way (name_marks x) (quiet n) q vs s ≡ filled_at (name_site x) q vs s
filled_is way x n q [] s = refl
filled_is way x n q (None ∷ vs) s = filled_is way x n (next_cell q) vs s
filled_is way x n q (Some v ∷ vs) s =
    sym (then_then (stored way (name_marks x) (quiet n) q v s) (λ v s. Gives Next s) (λ f. filled repeats (name_marks x) (quiet n) (next_cell q) vs)) ∙
    ap (λ r. then_do r (λ f. filled repeats (name_marks x) (quiet n) (next_cell q) vs)) (stored_is way x n q v s) ∙
    then_same (stored_at (name_site x) q v s) _ _ (λ f s. filled_is repeats x n (next_cell q) vs s)
