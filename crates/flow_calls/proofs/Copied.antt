-- A copy of a structure is a use of the one place, and then a definition of the other.
use Rattle.std.proofs.Common.{◌≡◌, ℕ, zero, suc, ◌<◌, List, [], refl, Option, None, Bool, true, false, arith}
use Rattle.std.proofs.lemmas.Bool.Decides.{nat_tests}
use Rattle.std.specs.Prelude.{nat_eq, nat_lt, ◌&&◌, if◌then◌else◌}
use Rattle.c_syntax.specs.declared.text.Text.{Text}
use Rattle.c_store.specs.declared.value.Pointer.{Pointer}
use Rattle.c_store.specs.Copies.{reach_of, copy_of}
use Rattle.c_walk.specs.declared.around.Around.{Around}
use Rattle.c_walk.specs.Walked.{Walked}
use Rattle.c_walk.specs.Counted.{next_def, next_use}
use Rattle.c_meaning.specs.State.{tells, repeats, Bound, State}
use Rattle.c_meaning.specs.Results.{Got, untyped}
use Rattle.c_meaning.specs.Firsts.{heard, noted_use, noted_def}
use Rattle.c_meaning.specs.Places.{next_cell, log_use, log_def, first_of, cells_used, cells_defined, alike_in_size, copied_cells, copied}
use Rattle.c_meaning.specs.Calls.{Source}
use Rattle.flow_walks.specs.declared.action.Action.TheVariants.{Define, Use}
use Rattle.flow_walks.specs.Comes.{act, Comes, emit}
use Rattle.flow_calls.proofs.Adding.{Adds, adds_still, stops_none, adds_from, adds_then}
use Rattle.flow_calls.proofs.Parts.{adds_settled, adds_turns, adds_logs, adds_use, adds_use_again, adds_def, adds_def_again, stored_in}

-- the sizes are equal, and not none
sizes : (m n : ℕ) → (nat_eq m n && nat_lt 0 n) ≡ true → (m ≡ n) × (0 < n)
sizes m n e = (grind (arith, nat_tests), grind (arith, nat_tests))

module _ (P : Source) (F : List Bound) where
  used_again : {A : Type 0} (xs : List Text) (c : Around) (w : Walked) (q : Pointer) (n : ℕ) (k : Comes) (s : State) (go : State → Got A) (L : A → Comes) → k [] → ((t : State) → Adds P F k t (go t) L) → Adds P F k s (cells_used repeats xs (heard c w) q n s go) L
  used_again xs c w q zero k s go L h f = f s
  used_again xs c w q (suc n) k s go L h f =
      adds_use_again P F c w q k s _ _ (adds_logs P F (log_use q) xs k (noted_use repeats (heard c w) q s) _ _ (λ m s. record { deeds = refl; last = refl; calls = refl; file = refl }) h (λ s. used_again xs c w (next_cell q) n k s go L h f))

  cells_use : {A : Type 0} (xs : List Text) (c : Around) (w : Walked) (q : Pointer) (n : ℕ) (k : Comes) (s : State) (go : State → Got A) (L : A → Comes) → 0 < n → k [] → ((t : State) → Adds P F k t (go t) L)
      → Adds P F (emit (act (Use (next_use w))) k) s (cells_used tells xs (heard c w) q n s go) L
  cells_use xs c w q zero k s go L some h f = absurd (omega (arith, some))
  cells_use xs c w q (suc n) k s go L some h f =
      adds_use P F c w q k s _ _ (adds_logs P F (log_use q) xs k (noted_use tells (heard c w) q s) _ _ (λ m s. record { deeds = refl; last = refl; calls = refl; file = refl }) h (λ s. used_again xs c w (next_cell q) n k s go L h f))

  defined_again : {A : Type 0} (xs : List Text) (c : Around) (w : Walked) (q : Pointer) (n : ℕ) (k : Comes) (s : State) (go : State → Got A) (L : A → Comes) → k [] → ((t : State) → Adds P F k t (go t) L) → Adds P F k s (cells_defined repeats xs (heard c w) q n s go) L
  defined_again xs c w q zero k s go L h f = f s
  defined_again xs c w q (suc n) k s go L h f =
      adds_def_again P F c w q k s _ _ (adds_logs P F (log_def q) xs k (noted_def repeats (heard c w) q s) _ _ (λ m s. record { deeds = refl; last = refl; calls = refl; file = refl }) h (λ s. defined_again xs c w (next_cell q) n k s go L h f))

  cells_define : {A : Type 0} (xs : List Text) (c : Around) (w : Walked) (q : Pointer) (n : ℕ) (k : Comes) (s : State) (go : State → Got A) (L : A → Comes) → 0 < n → k [] → ((t : State) → Adds P F k t (go t) L)
      → Adds P F (emit (act (Define (next_def w))) k) s (cells_defined tells xs (heard c w) q n s go) L
  cells_define xs c w q zero k s go L some h f = absurd (omega (arith, some))
  cells_define xs c w q (suc n) k s go L some h f =
      adds_def P F c w q k s _ _ (adds_logs P F (log_def q) xs k (noted_def tells (heard c w) q s) _ _ (λ m s. record { deeds = refl; last = refl; calls = refl; file = refl }) h (λ s. defined_again xs c w (next_cell q) n k s go L h f))

  copied_by : (b : Bool) (ds us : List Text) (c : Around) (w v : Walked) (q r : Pointer) (k : Comes) (s : State) → alike_in_size q r ≡ b → k []
      → Adds P F (emit (act (Use (next_use v))) (emit (act (Define (next_def w))) k)) s (if b then copied_cells ds us (heard c w) (heard c v) q r s else untyped s) (λ x. k)
  copied_by false ds us c w v q r k s e h = stops_none P F _ _ s _ tt
  copied_by true ds us c w v q r k s e h =
      let both = sizes q.size r.size e in
      let same = both.0 in
      let some = both.1 in
      adds_turns P F r.size _ s _ _ tt (λ s.
      adds_then P F _ s _ _ _ _ (adds_settled P F (reach_of s.store r) _ s tt) (λ done s.
      cells_use us c v (first_of r) r.size (emit (act (Define (next_def w))) k) s _ _ some tt (λ s.
      adds_then P F _ s _ _ _ _ (adds_settled P F (copy_of s.store r q) _ s tt) (λ m s.
      adds_from P F _ s (record s { store = m }) _ _ (stored_in P F s m)
      (cells_define ds c w (first_of q) q.size k (record s { store = m }) _ _ (omega (arith, same, some)) h (λ s. adds_still P F k s None _ (λ w p. p)))))))

  pub adds_copied : (ds us : List Text) (c : Around) (w v : Walked) (q r : Pointer) (k : Comes) (s : State) → k []
      → Adds P F (emit (act (Use (next_use v))) (emit (act (Define (next_def w))) k)) s (copied ds us (heard c w) (heard c v) q r s) (λ x. k)
  adds_copied ds us c w v q r k s h = copied_by (alike_in_size q r) ds us c w v q r k s refl h
