-- A copy of a structure's cells in a program with its probes does what the program's own copy does, and logs what that tells.
use Rattle.std.proofs.Common.{◌≡◌, ℕ, zero, suc, ◌<◌, List, [], ◌∷◌, None, ◌∙◌, refl, sym, ap₂, arith, Option}
use Rattle.std.specs.Fmt.{decimal}
use Rattle.c_events.specs.declared.events.Event.{Event}
use Rattle.c_syntax.specs.declared.text.Text.{Text}
use Rattle.c_store.specs.declared.value.Pointer.{Pointer}
use Rattle.c_store.specs.Copies.{reach_of, copy_of}
use Rattle.c_walk.specs.declared.around.Around.{Around}
use Rattle.c_walk.specs.Walked.{Walked}
use Rattle.c_walk.specs.Counted.{use_count, def_count, next_def, next_use}
use Rattle.c_meaning.specs.State.{Act, tells, repeats, State}
use Rattle.c_meaning.specs.Results.{Got, Gives, untyped, then_do, settled}
use Rattle.c_meaning.specs.Firsts.{quiet, heard, noted_use, noted_def, First}
use Rattle.c_meaning.specs.Places.{next_cell, log_use, log_def, first_of, cells_used, cells_defined, alike_in_size, copied}
use Rattle.probe_rules.proofs.Told.{as_log, with_log, Tells, tells_tells, repeats_tells, sim_then, sim_if, sim_turns, sim_settled, logs_sim, use_told, def_told}
use Rattle.c_store.specs.declared.value.Value.{Value}

used_sim : {A : Type 0} (way : Event → Act) → Tells way → (m : ℕ) (c : Around) (w : Walked) (q : Pointer) (n : ℕ) (s : State) (h g : State → Got A) → use_count w.items < 16383 → ((s : State) → h (as_log s) ≡ with_log (g s)) → cells_used way (decimal (next_use w) ∷ []) (quiet m) q n (as_log s) h ≡ with_log (cells_used way [] (heard c w) q n s g)
used_sim way tell m c w q zero s h g few go = go s
used_sim way tell m c w q (suc n) s h g few go =
    logs_sim (log_use q) (next_use w) s (noted_use way (heard c w) q s) (λ s. cells_used repeats (decimal (next_use w) ∷ []) (quiet m) (next_cell q) n s h) (λ s. cells_used repeats [] (heard c w) (next_cell q) n s g) (omega arith) (omega arith) (use_told way tell c w q s)
    (λ s. used_sim repeats repeats_tells m c w (next_cell q) n s h g few go)

defined_sim : {A : Type 0} (way : Event → Act) → Tells way → (m : ℕ) (c : Around) (w : Walked) (q : Pointer) (n : ℕ) (s : State) (h g : State → Got A) → def_count w.items < 16383 → ((s : State) → h (as_log s) ≡ with_log (g s)) → cells_defined way (decimal (next_def w) ∷ []) (quiet m) q n (as_log s) h ≡ with_log (cells_defined way [] (heard c w) q n s g)
defined_sim way tell m c w q zero s h g few go = go s
defined_sim way tell m c w q (suc n) s h g few go =
    logs_sim (log_def q) (next_def w) s (noted_def way (heard c w) q s) (λ s. cells_defined repeats (decimal (next_def w) ∷ []) (quiet m) (next_cell q) n s h) (λ s. cells_defined repeats [] (heard c w) (next_cell q) n s g) (omega arith) (omega arith) (def_told way tell c w q s)
    (λ s. defined_sim repeats repeats_tells m c w (next_cell q) n s h g few go)

-- the second part of a copy: the cells are written
abbrev copied_into : List Text → First → Pointer → Pointer → State → Got (Option Value)
copied_into ds i q r s = then_do (settled (copy_of s.store r q) s) (λ c s. cells_defined tells ds i (first_of q) q.size (record s { store = c }) (λ s. Gives None s))

into_sim : (m : ℕ) (c : Around) (w : Walked) (q r : Pointer) (s : State) → def_count w.items < 16383 → copied_into (decimal (next_def w) ∷ []) (quiet m) q r (as_log s) ≡ with_log (copied_into [] (heard c w) q r s)
into_sim m c w q r s few =
    sim_then _ _ _ _ (sim_settled (copy_of s.store r q) s) (λ z s. defined_sim tells tells_tells m c w (first_of q) q.size (record s { store = z }) (λ s. Gives None s) (λ s. Gives None s) few (λ s. refl))

-- and the first: they are read
abbrev copied_from : List Text → List Text → First → First → Pointer → Pointer → State → Got (Option Value)
copied_from ds us i j q r s = then_do (settled (reach_of s.store r) s) (λ done s. cells_used tells us j (first_of r) r.size s (copied_into ds i q r))

from_sim : (m : ℕ) (c : Around) (w v : Walked) (q r : Pointer) (s : State) → def_count w.items < 16383 → use_count v.items < 16383 → copied_from (decimal (next_def w) ∷ []) (decimal (next_use v) ∷ []) (quiet m) (quiet m) q r (as_log s) ≡ with_log (copied_from [] [] (heard c w) (heard c v) q r s)
from_sim m c w v q r s few_defs few_uses =
    sim_then _ _ _ _ (sim_settled (reach_of s.store r) s) (λ done s. used_sim tells tells_tells m c v (first_of r) r.size s (copied_into (decimal (next_def w) ∷ []) (quiet m) q r) (copied_into [] (heard c w) q r) few_uses (λ s. into_sim m c w q r s few_defs))

copied_sim : (m : ℕ) (c : Around) (w v : Walked) (q r : Pointer) (s : State) → def_count w.items < 16383 → use_count v.items < 16383 → copied (decimal (next_def w) ∷ []) (decimal (next_use v) ∷ []) (quiet m) (quiet m) q r (as_log s) ≡ with_log (copied [] [] (heard c w) (heard c v) q r s)
copied_sim m c w v q r s few_defs few_uses =
    sim_if (alike_in_size q r) _ _ (untyped (as_log s)) (untyped s)
    (sim_turns r.size s (copied_from (decimal (next_def w) ∷ []) (decimal (next_use v) ∷ []) (quiet m) (quiet m) q r) (copied_from [] [] (heard c w) (heard c v) q r) (λ s. from_sim m c w v q r s few_defs few_uses)) refl

-- round the places stand the probes of the definition and of the use, and no others
pub copied_to : (ds es us vs : List Text) (m : ℕ) (c : Around) (w v : Walked) (q r : Pointer) (s : State) → ds ≡ decimal (next_def w) ∷ [] → es ≡ [] → us ≡ decimal (next_use v) ∷ [] → vs ≡ [] → def_count w.items < 16383 → use_count v.items < 16383 → copied ds us (quiet m) (quiet m) q r (as_log s) ≡ with_log (copied es vs (heard c w) (heard c v) q r s)
copied_to ds es us vs m c w v q r s one no_def once no_use few_defs few_uses =
    ap₂ (λ x y. copied x y (quiet m) (quiet m) q r (as_log s)) one once
    ∙ (copied_sim m c w v q r s few_defs few_uses ∙ ap₂ (λ x y. with_log (copied x y (heard c w) (heard c v) q r s)) (sym no_def) (sym no_use))
