-- What each event leaves of what the collector stands for.
use Rattle.std.proofs.Common.{◌≡◌, ◌≢◌, ◌<◌, ◌≤◌, ℕ, zero, suc, List, [], ◌∷◌, ◌++◌, true, false, Option, Some, None, refl, sym, ap, ◌∙◌, subst, arith, inl, inr, eq-eqb}
use Rattle.std.specs.Prelude.{◌↔◌, ◌⊎◌, IsSome, nat_eq, not, slice_get, replicate}
use Rattle.std.specs.List.{Contains}
use Rattle.std.proofs.lemmas.Bool.{eqb-true}
use Rattle.std.proofs.lemmas.List.Elements.{Contains-append_cases, Contains-append_right}
use Rattle.c_events.specs.declared.events.Cell.{Cell}
use Rattle.c_events.specs.declared.events.Event.{Event}
use Rattle.c_events.specs.declared.events.Event.TheVariants as event
use Rattle.atac_facts.specs.declared.fact.Fact.{Fact}
use Rattle.atac_facts.specs.declared.fact.Fact.TheVariants as fact
use Rattle.atac_facts.specs.Sets.{FactSet, holds}
use Rattle.atac_base.specs.Telling.{IsOf}
use Rattle.cover_parts.specs.declared.pending.Wait.{Wait}
use Rattle.cover_parts.specs.Covered.{At, Covered, IsPending, LastIs, IsFree}
use Rattle.cover_parts.specs.Gaining.{Has, Gains, Same}
use Rattle.cover_parts.specs.Rows.{Slot, Table, IsTable, word_of, put, without}
use Rattle.cover_parts.specs.Waits.{is_in, is_for, those_in, others}
use Rattle.cover_parts.specs.Settled.{puses, settled, IsWait}
use Rattle.cover_parts.proofs.Cases.{either, by_test, not_true, only}
use Rattle.cover_parts.proofs.Events.{places, Brings, Waits, Passes, Ends, covered_push, pending_push, last_unique, last_defined, last_other, covered_none, pending_none}
use Rattle.cover_parts.proofs.Order.{filter_in, in_filter}
use Rattle.cover_parts.proofs.Places.{put_at, put_other, new_other, new_at, ended_other, ended_at, word_below}
use Rattle.cover_parts.proofs.Calls.{word}
use Rattle.cover_core.specs.Stands.{StandsFor}

module _ (owner : ℕ → Option ℕ) where
  -- THE PARTS OF A STEP

  covered_step : (F F' : FactSet) (h : List Event) (e : Event) (P : Fact → Type 0) → ((f : Fact) → Has F f ↔ Covered owner h f) → Gains F F' P → ((f : Fact) → P f ↔ Brings owner h e f) → (f : Fact) → Has F' f ↔ Covered owner (h ++ e ∷ []) f
  covered_step F F' h e P s g b f =
      (λ a. (covered_push owner h e f).1 (either (λ o. inl ((s f).0 o)) (λ p. inr ((b f).0 p)) ((g f).0 a)), λ a. (g f).1 (either (λ o. inl ((s f).1 o)) (λ p. inr ((b f).1 p)) ((covered_push owner h e f).0 a)))

  pending_step : (W W' : List Wait) (h : List Event) (e : Event) (P : Wait → Type 0) → ((w : Wait) → Contains W w ↔ IsPending owner h w.decision w.activation w.definition w.user) → ((w : Wait) → Contains W' w ↔ (Contains W w ⊎ P w)) → ((w : Wait) → P w ↔ Waits owner h e w.decision w.activation w.definition w.user) → ((k a : ℕ) → Passes e k a) → (w : Wait) → Contains W' w ↔ IsPending owner (h ++ e ∷ []) w.decision w.activation w.definition w.user
  pending_step W W' h e P s g b n w =
      let q = pending_push owner h e w.decision w.activation w.definition w.user in
      (λ a. q.1 (either (λ o. inl ((s w).0 o, n w.decision w.activation)) (λ p. inr ((b w).0 p)) ((g w).0 a)), λ a. (g w).1 (either (λ o. inl ((s w).1 o.0)) (λ p. inr ((b w).1 p)) (q.0 a)))

  below_step : (top : ℕ) (h : List Event) (e : Event) → ((i : ℕ) (x : Event) → At h i x → IsOf (λ c. c.instance ≤ top) x) → IsOf (λ c. c.instance ≤ top) e → (i : ℕ) (x : Event) → At (h ++ e ∷ []) i x → IsOf (λ c. c.instance ≤ top) x
  below_step top h e s l i x a = either (λ o. s i x o) (λ q. subst (λ y. IsOf (λ c. c.instance ≤ top) y) (sym q.1) l) (places h e i x a)

  -- facts and pending uses that stay
  none_gained : (F : FactSet) → Gains F F (λ f. ⊥)
  none_gained F f = (λ a. inl a, λ a. either (λ o. o) (λ n. absurd n) a)

  none_waits : (W : List Wait) (w : Wait) → Contains W w ↔ (Contains W w ⊎ ⊥)
  none_waits W w = (λ a. inl a, λ a. either (λ o. o) (λ n. absurd n) a)

  -- BLOCKS

  block_brings : (h : List Event) (k : ℕ) (f : Fact) → (f ≡ fact.Block k) ↔ Brings owner h (event.Block k) f
  block_brings h k (fact.Block j) = (λ q. cc, λ q. cc)
  block_brings h k (fact.Outcome j o) = (λ q. absurd (cc), λ q. let r : event.Test j o q.0 ≡ event.Block k = q.1 in absurd (cc))
  block_brings h k (fact.Pair d u) = (λ q. absurd (cc), λ q. let r : event.Block k ≡ event.Use u q.0 q.1 = q.2.is in absurd (cc))
  block_brings h k (fact.PUse d u o) = (λ q. absurd (cc), λ q. let r : event.Test q.0 o q.1 ≡ event.Block k = q.2.is in absurd (cc))

  block_waits : (h : List Event) (b k a d u : ℕ) → ⊥ ↔ Waits owner h (event.Block b) k a d u
  block_waits h b k a d u = (λ n. absurd n, λ n. let r : event.Block b ≡ event.Use u n.1.0 a = n.1.1.is in absurd (cc))

  pub block_stands : (F F' : FactSet) (W : List Wait) (R : Table) (h : List Event) (k : ℕ) → Gains F F' (λ f. f ≡ fact.Block k) → StandsFor owner F W R h → StandsFor owner F' W R (h ++ event.Block k ∷ [])
  block_stands F F' W R h k g s = record {
    covered = covered_step F F' h (event.Block k) (λ f. f ≡ fact.Block k) s.covered g (block_brings h k);
    pending = pending_step W W h (event.Block k) (λ w. ⊥) s.pending (none_waits W) (λ w. block_waits h k w.decision w.activation w.definition w.user) (λ j a o q. absurd (cc));
    last = λ c w e. last_other h (event.Block k) c w (λ d q. absurd (cc)) (s.last c w e);
    below = below_step R.top h (event.Block k) s.below tt;
  }

  -- USES

  same_cell : (u v : ℕ) (c c' : Cell) (a a' : ℕ) → event.Use u c a ≡ event.Use v c' a' → c' ≡ c
  same_cell u v c c' a a' q = cc

  no_brings : (h : List Event) (u : ℕ) (c : Cell) (a : ℕ) → LastIs h c None → (f : Fact) → ⊥ ↔ Brings owner h (event.Use u c a) f
  no_brings h u c a l (fact.Block j) = (λ n. absurd n, λ q. absurd (cc))
  no_brings h u c a l (fact.Outcome j o) = (λ n. absurd n, λ q. let r : event.Test j o q.0 ≡ event.Use u c a = q.1 in absurd (cc))
  no_brings h u c a l (fact.Pair d v) = (λ n. absurd n, λ q. none_last h u v c q.0 a q.1 d l q.2)
    where
      none_last : (h : List Event) (u v : ℕ) (c c' : Cell) (a a' d : ℕ) → LastIs h c None → Ends h (event.Use u c a) d v c' a' → ⊥
      none_last h u v c c' a a' d l n = let m : LastIs h c (Some d) = subst (λ x. LastIs h x (Some d)) (same_cell u v c c' a a' n.is) n.last in l m.0 d m.1
  no_brings h u c a l (fact.PUse d v o) = (λ n. absurd n, λ q. let r : event.Test q.0 o q.1 ≡ event.Use u c a = q.2.is in absurd (cc))

  same_user : (u v : ℕ) (c c' : Cell) (a a' : ℕ) → event.Use u c a ≡ event.Use v c' a' → v ≡ u
  same_user u v c c' a a' q = cc

  same_activation : (u v : ℕ) (c c' : Cell) (a a' : ℕ) → event.Use u c a ≡ event.Use v c' a' → a' ≡ a
  same_activation u v c c' a a' q = cc

  some_same : (d e : ℕ) → ◌≡◌ {A = Option ℕ} (Some d) (Some e) → d ≡ e
  some_same d e q = cc

  -- which definition a use ends with
  ends_with : (h : List Event) (d e u v : ℕ) (c c' : Cell) (a a' : ℕ) → LastIs h c (Some d) → Ends h (event.Use u c a) e v c' a' → e ≡ d
  ends_with h d e u v c c' a a' l n = some_same e d (last_unique h c d (Some e) l (subst (λ x. LastIs h x (Some e)) (same_cell u v c c' a a' n.is) n.last))

  use_brings : (h : List Event) (d u : ℕ) (c : Cell) (a : ℕ) → LastIs h c (Some d) → (f : Fact) → (f ≡ fact.Pair d u) ↔ Brings owner h (event.Use u c a) f
  use_brings h d u c a l (fact.Block j) = (λ q. absurd (cc), λ q. absurd (cc))
  use_brings h d u c a l (fact.Outcome j o) = (λ q. absurd (cc), λ q. let r : event.Test j o q.0 ≡ event.Use u c a = q.1 in absurd (cc))
  use_brings h d u c a l (fact.Pair e v) =
      (λ q. (c, a, record { is = ap (λ x. event.Use x c a) (sym (users e v q)); last = subst (λ x. LastIs h c (Some x)) (sym (defs e v q)) l }), λ q. pairs e v (ends_with h d e u v c q.0 a q.1 l q.2) (same_user u v c q.0 a q.1 q.2.is))
    where
      users : (e v : ℕ) → fact.Pair e v ≡ fact.Pair d u → v ≡ u
      users e v q = cc

      defs : (e v : ℕ) → fact.Pair e v ≡ fact.Pair d u → e ≡ d
      defs e v q = cc

      pairs : (e v : ℕ) → e ≡ d → v ≡ u → fact.Pair e v ≡ fact.Pair d u
      pairs e v p q = cc
  use_brings h d u c a l (fact.PUse e v o) = (λ q. absurd (cc), λ q. let r : event.Test q.0 o q.1 ≡ event.Use u c a = q.2.is in absurd (cc))

  use_waits : (h : List Event) (d u : ℕ) (c : Cell) (a : ℕ) → LastIs h c (Some d) → (w : Wait) → IsWait (owner u) d u a w ↔ Waits owner h (event.Use u c a) w.decision w.activation w.definition w.user
  use_waits h d u c a l w = (
    λ q. (ap owner q.3 ∙ q.0, (c, record { is = ap (λ x. event.Use x c a) (sym q.3) ∙ ap (λ x. event.Use w.user c x) (sym q.1); last = subst (λ x. LastIs h c (Some x)) (sym q.2) l })),
    λ n.
        let v : w.user ≡ u = same_user u w.user c n.1.0 a w.activation n.1.1.is in
        (ap owner (sym v) ∙ n.0, same_activation u w.user c n.1.0 a w.activation n.1.1.is, ends_with h d w.definition u w.user c n.1.0 a w.activation l n.1.1, v),
  )

  no_waits : (h : List Event) (u : ℕ) (c : Cell) (b : ℕ) → LastIs h c None → (k a d v : ℕ) → ⊥ ↔ Waits owner h (event.Use u c b) k a d v
  no_waits h u c b l k a d v = (λ n. absurd n, λ n. let m : LastIs h c (Some d) = subst (λ x. LastIs h x (Some d)) (same_cell u v c n.1.0 b a n.1.1.is) n.1.1.last in l m.0 d m.1)

  pub first_use_stands : (F : FactSet) (W : List Wait) (R : Table) (h : List Event) (u : ℕ) (c : Cell) (a : ℕ) → IsTable R → word_of R.live c ≡ Some None → StandsFor owner F W R h → StandsFor owner F W R (h ++ event.Use u c a ∷ [])
  first_use_stands F W R h u c a t e s =
      let l : LastIs h c None = s.last c None e in
      record {
        covered = covered_step F F h (event.Use u c a) (λ f. ⊥) s.covered (none_gained F) (no_brings h u c a l);
        pending = pending_step W W h (event.Use u c a) (λ w. ⊥) s.pending (none_waits W) (λ w. no_waits h u c a l w.decision w.activation w.definition w.user) (λ j b o q. absurd (cc));
        last = λ x w q. last_other h (event.Use u c a) x w (λ d q. absurd (cc)) (s.last x w q);
        below = below_step R.top h (event.Use u c a) s.below (word_below R c None t e);
      }

  pub use_stands : (F F' : FactSet) (W W' : List Wait) (R : Table) (h : List Event) (o : Option ℕ) (d u : ℕ) (c : Cell) (a : ℕ) → IsTable R → word_of R.live c ≡ Some (Some d) → o ≡ owner u → Gains F F' (λ f. f ≡ fact.Pair d u) → ((w : Wait) → Contains W' w ↔ (Contains W w ⊎ IsWait o d u a w)) → StandsFor owner F W R h → StandsFor owner F' W' R (h ++ event.Use u c a ∷ [])
  use_stands F F' W W' R h o d u c a t e q g k s =
      let l : LastIs h c (Some d) = s.last c (Some d) e in
      record {
        covered = covered_step F F' h (event.Use u c a) (λ f. f ≡ fact.Pair d u) s.covered g (use_brings h d u c a l);
        pending = pending_step W W' h (event.Use u c a) (λ w. IsWait (owner u) d u a w) s.pending (subst (λ (o : Option ℕ). (w : Wait) → Contains W' w ↔ (Contains W w ⊎ IsWait o d u a w)) q k) (use_waits h d u c a l) (λ j b o q. absurd (cc));
        last = λ x w q. last_other h (event.Use u c a) x w (λ d q. absurd (cc)) (s.last x w q);
        below = below_step R.top h (event.Use u c a) s.below (word_below R c (Some d) t e);
      }

  -- TESTS

  test_number : (k o a j p b : ℕ) → event.Test j p b ≡ event.Test k o a → j ≡ k
  test_number k o a j p b q = cc

  test_outcome : (k o a j p b : ℕ) → event.Test j p b ≡ event.Test k o a → p ≡ o
  test_outcome k o a j p b q = cc

  test_activation : (k o a j p b : ℕ) → event.Test j p b ≡ event.Test k o a → b ≡ a
  test_activation k o a j p b q = cc

  -- a p-use among those of these pairs
  record Among (k o : ℕ) (ws : List Wait) (f : Fact) : Type 0 where
    wait : Wait
    stands : Contains ws wait
    decision : wait.decision ≡ k
    is : f ≡ fact.PUse wait.definition wait.user o

  among_more : (k o : ℕ) (x : Wait) (ws : List Wait) (f : Fact) → Among k o ws f → Among k o (x ∷ ws) f
  among_more k o x ws f m = record { wait = m.wait; stands = Contains-append_right (x ∷ []) ws m.wait m.stands; decision = m.decision; is = m.is }

  puses_among : (k o : ℕ) (ws : List Wait) (f : Fact) → Contains (puses k o ws) f → Among k o ws f
  puses_among k o [] f c = absurd (omega (arith, c.1))
  puses_among k o (x ∷ ws) f c = by_test (nat_eq x.decision k)
      (λ b. either (λ l. record { wait = x; stands = (0, omega arith, refl); decision = eqb-true x.decision k b; is = only (fact.PUse x.definition x.user o) f l }) (λ r. among_more k o x ws f (puses_among k o ws f r)) (Contains-append_cases (fact.PUse x.definition x.user o ∷ []) (puses k o ws) f (rw b at c)))
      (λ b. among_more k o x ws f (puses_among k o ws f (rw b at c)))

  among_puses : (k o : ℕ) (ws : List Wait) (w : Wait) → Contains ws w → w.decision ≡ k → Contains (puses k o ws) (fact.PUse w.definition w.user o)
  among_puses k o [] w c e = absurd (omega (arith, c.1))
  among_puses k o (x ∷ ws) w c e = either
      (λ l. let q : w ≡ x = only x w l in rw (eq-eqb x.decision k (ap (λ (y : Wait). y.decision) (sym q) ∙ e)) (subst (λ (y : Wait). Contains (fact.PUse x.definition x.user o ∷ puses k o ws) (fact.PUse y.definition y.user o)) (sym q) (0, omega arith, refl)))
      (λ r. by_test (nat_eq x.decision k) (λ b. rw b (Contains-append_right (fact.PUse x.definition x.user o ∷ []) (puses k o ws) (fact.PUse w.definition w.user o) (among_puses k o ws w r e))) (λ b. rw b (among_puses k o ws w r e)))
      (Contains-append_cases (x ∷ []) ws w c)

  test_brings : (W : List Wait) (h : List Event) (k o a : ℕ) → ((w : Wait) → Contains W w ↔ IsPending owner h w.decision w.activation w.definition w.user) → (f : Fact) → Contains (settled k o (those_in a W)) f ↔ Brings owner h (event.Test k o a) f
  test_brings W h k o a s f = (forth f, back f)
    where
      forth_at : (f : Fact) → (f ≡ fact.Outcome k o) ⊎ Among k o (those_in a W) f → Brings owner h (event.Test k o a) f
      forth_at f (inl q) = subst (Brings owner h (event.Test k o a)) (sym q) (a, refl)
      forth_at f (inr m) =
          let i = filter_in (is_in a) W m.wait m.stands in
          subst (Brings owner h (event.Test k o a)) (sym m.is) (k, a, record { is = refl; waited = subst (λ x. IsPending owner h k x m.wait.definition m.wait.user) (eqb-true m.wait.activation a i.1) (subst (λ x. IsPending owner h x m.wait.activation m.wait.definition m.wait.user) m.decision ((s m.wait).0 i.0)) })

      forth : (f : Fact) → Contains (settled k o (those_in a W)) f → Brings owner h (event.Test k o a) f
      forth f c = forth_at f (either (λ l. inl (only (fact.Outcome k o) f l)) (λ r. inr (puses_among k o (those_in a W) f r)) (Contains-append_cases (fact.Outcome k o ∷ []) (puses k o (those_in a W)) f c))

      back : (f : Fact) → Brings owner h (event.Test k o a) f → Contains (settled k o (those_in a W)) f
      back (fact.Block j) q = absurd (cc)
      back (fact.Outcome j p) q =
          let x : j ≡ k = test_number k o a j p q.0 q.1 in
          let y : p ≡ o = test_outcome k o a j p q.0 q.1 in
          let z : fact.Outcome k o ≡ fact.Outcome j p = cc in
          subst (λ f. Contains (settled k o (those_in a W)) f) z (0, omega arith, refl)
      back (fact.Pair d u) q = let r : event.Test k o a ≡ event.Use u q.0 q.1 = q.2.is in absurd (cc)
      back (fact.PUse d u p) q =
          let x : q.0 ≡ k = test_number k o a q.0 p q.1 q.2.is in
          let y : p ≡ o = test_outcome k o a q.0 p q.1 q.2.is in
          let z : q.1 ≡ a = test_activation k o a q.0 p q.1 q.2.is in
          let w : Wait = record { activation = q.1; decision = q.0; definition = d; user = u } in
          let c : Contains W w = (s w).1 q.2.waited in
          let t : Contains (those_in a W) w = in_filter (is_in a) W w c (eq-eqb q.1 a z) in
          Contains-append_right (fact.Outcome k o ∷ []) (puses k o (those_in a W)) (fact.PUse d u p) (subst (λ x. Contains (puses k o (those_in a W)) (fact.PUse d u x)) (sym y) (among_puses k o (those_in a W) w t x))

  -- those that stay are those whose end the test is not
  stays_on : (k o a : ℕ) (w : Wait) → (not (is_for k a w) ≡ true) ↔ Passes (event.Test k o a) w.decision w.activation
  stays_on k o a w =
      (λ n p q. absurd (gone (test_number k o a w.decision p w.activation q) (test_activation k o a w.decision p w.activation q) n), λ n. by_test (nat_eq w.activation a) (λ x. by_test (nat_eq w.decision k) (λ y. absurd (n o (same_test (eqb-true w.decision k y) (eqb-true w.activation a x)))) (λ y. rw (x, y) refl)) (λ x. rw x refl))
    where
      gone : w.decision ≡ k → w.activation ≡ a → not (is_for k a w) ≡ true → ⊥
      gone p q n = let m : false ≡ true = rw (eq-eqb w.activation a q, eq-eqb w.decision k p) at n in absurd (cc)

      same_test : w.decision ≡ k → w.activation ≡ a → event.Test w.decision o w.activation ≡ event.Test k o a
      same_test p q = ap (λ x. event.Test x o w.activation) p ∙ ap (λ x. event.Test k o x) q

  test_pending : (W : List Wait) (h : List Event) (k o a : ℕ) → ((w : Wait) → Contains W w ↔ IsPending owner h w.decision w.activation w.definition w.user) → (w : Wait) → Contains (others k a W) w ↔ IsPending owner (h ++ event.Test k o a ∷ []) w.decision w.activation w.definition w.user
  test_pending W h k o a s w =
      let q = pending_push owner h (event.Test k o a) w.decision w.activation w.definition w.user in
      let t = stays_on k o a w in
      (λ c. let i = filter_in (λ w. not (is_for k a w)) W w c in q.1 (inl ((s w).0 i.0, t.0 i.1)), λ p. either (λ l. in_filter (λ w. not (is_for k a w)) W w ((s w).1 l.0) (t.1 l.1)) (λ n. let r : event.Test k o a ≡ event.Use w.user n.1.0 w.activation = n.1.1.is in absurd (cc)) (q.0 p))

  pub test_stands : (F F' : FactSet) (W W' : List Wait) (R : Table) (h : List Event) (k o a : ℕ) → Gains F F' (λ f. Contains (settled k o (those_in a W)) f) → W' ≡ others k a W → StandsFor owner F W R h → StandsFor owner F' W' R (h ++ event.Test k o a ∷ [])
  test_stands F F' W W' R h k o a g e s = record {
    covered = covered_step F F' h (event.Test k o a) (λ f. Contains (settled k o (those_in a W)) f) s.covered g (test_brings W h k o a s.pending);
    pending = λ w. subst (λ (l : List Wait). Contains l w ↔ IsPending owner (h ++ event.Test k o a ∷ []) w.decision w.activation w.definition w.user) (sym e) (test_pending W h k o a s.pending w);
    last = λ c w q. last_other h (event.Test k o a) c w (λ d q. absurd (cc)) (s.last c w q);
    below = below_step R.top h (event.Test k o a) s.below tt;
  }

  -- DEFINITIONS

  def_brings : (h : List Event) (d : ℕ) (c : Cell) (f : Fact) → ⊥ ↔ Brings owner h (event.Def d c) f
  def_brings h d c (fact.Block j) = (λ n. absurd n, λ q. absurd (cc))
  def_brings h d c (fact.Outcome j o) = (λ n. absurd n, λ q. let r : event.Test j o q.0 ≡ event.Def d c = q.1 in absurd (cc))
  def_brings h d c (fact.Pair e u) = (λ n. absurd n, λ q. let r : event.Def d c ≡ event.Use u q.0 q.1 = q.2.is in absurd (cc))
  def_brings h d c (fact.PUse e u o) = (λ n. absurd n, λ q. let r : event.Test q.0 o q.1 ≡ event.Def d c = q.2.is in absurd (cc))

  def_waits : (h : List Event) (d : ℕ) (c : Cell) (k a e u : ℕ) → ⊥ ↔ Waits owner h (event.Def d c) k a e u
  def_waits h d c k a e u = (λ n. absurd n, λ n. let r : event.Def d c ≡ event.Use u n.1.0 a = n.1.1.is in absurd (cc))

  same_some : (w v : Option ℕ) → ◌≡◌ {A = Option (Option ℕ)} (Some w) (Some v) → w ≡ v
  same_some w v q = cc

  cells_same : (c b : Cell) → c.instance ≡ b.instance → c.index ≡ b.index → c ≡ b
  cells_same c b p q =
      let one : ◌≡◌ {A = Cell} c (record { instance = b.instance; index = c.index }) = ap (λ (x : ℕ). record { instance = x; index = c.index }) p in
      let two : ◌≡◌ {A = Cell} (record { instance = b.instance; index = c.index }) b = ap (λ (x : ℕ). record { instance = b.instance; index = x }) q in
      one ∙ two

  def_last : (live : List Slot) (h : List Event) (d : ℕ) (c : Cell) (v : Option ℕ) → word_of live c ≡ Some v → ((b : Cell) (w : Option ℕ) → word_of live b ≡ Some w → LastIs h b w) → (b : Cell) (w : Option ℕ) → word_of (put c d live) b ≡ Some w → LastIs (h ++ event.Def d c ∷ []) b w
  def_last live h d c v t s b w q = by_test (nat_eq c.instance b.instance)
      (λ x. by_test (nat_eq c.index b.index)
      (λ y. here (cells_same c b (eqb-true c.instance b.instance x) (eqb-true c.index b.index y)))
      (λ y. there (inr (λ e. not_true (nat_eq c.index b.index) y (eq-eqb c.index b.index e)))))
      (λ x. there (inl (λ e. not_true (nat_eq c.instance b.instance) x (eq-eqb c.instance b.instance e))))
    where
      here : c ≡ b → LastIs (h ++ event.Def d c ∷ []) b w
      here e =
          let p : word_of (put c d live) b ≡ Some (Some d) = ap (λ (x : Cell). word_of (put c d live) x) (sym e) ∙ put_at live c d v t in
          let n : w ≡ Some d = same_some w (Some d) (sym q ∙ p) in
          subst (λ x. LastIs (h ++ event.Def d c ∷ []) b x) (sym n) (subst (λ (x : Cell). LastIs (h ++ event.Def d c ∷ []) x (Some d)) e (last_defined h d c))

      apart : (c.instance ≢ b.instance) ⊎ (c.index ≢ b.index) → (e : ℕ) → event.Def e b ≡ event.Def d c → ⊥
      apart ne e r = let m : c ≡ b = cc in either (λ x. x (ap (λ (z : Cell). z.instance) m)) (λ x. x (ap (λ (z : Cell). z.index) m)) ne

      there : (c.instance ≢ b.instance) ⊎ (c.index ≢ b.index) → LastIs (h ++ event.Def d c ∷ []) b w
      there ne = last_other h (event.Def d c) b w (apart ne) (s b w (sym (put_other live c b d ne) ∙ q))

  pub def_stands : (F : FactSet) (W : List Wait) (R R' : Table) (h : List Event) (d : ℕ) (c : Cell) → IsTable R → IsSome (word_of R.live c) → R' ≡ record { top = R.top; live = put c d R.live } → StandsFor owner F W R h → StandsFor owner F W R' (h ++ event.Def d c ∷ [])
  def_stands F W R R' h d c t i q s = let w = word (word_of R.live c) i in subst (λ (x : Table). StandsFor owner F W x (h ++ event.Def d c ∷ [])) (sym q) (record {
    covered = covered_step F F h (event.Def d c) (λ f. ⊥) s.covered (none_gained F) (def_brings h d c);
    pending = pending_step W W h (event.Def d c) (λ w. ⊥) s.pending (none_waits W) (λ w. def_waits h d c w.decision w.activation w.definition w.user) (λ j b o q. absurd (cc));
    last = def_last R.live h d c w.0 w.1 s.last;
    below = below_step R.top h (event.Def d c) s.below (word_below R c w.0 t w.1);
  })

  -- INSTANCES

  no_word : (n k : ℕ) (w : Option ℕ) → slice_get (replicate n None) k ≡ Some w → w ≡ None
  no_word zero k w h = absurd (cc)
  no_word (suc n) zero w h = cc
  no_word (suc n) (suc k) w h = no_word n k w h

  weaker : (m n : ℕ) → m ≤ n → (e : Event) → IsOf (λ c. c.instance ≤ m) e → IsOf (λ c. c.instance ≤ n) e
  weaker m n l (event.Block k) h = tt
  weaker m n l (event.Def d c) h = omega (arith, l, h)
  weaker m n l (event.Use u c a) h = omega (arith, l, h)
  weaker m n l (event.Test k o a) h = tt

  pub made_stands : (F : FactSet) (W : List Wait) (R R' : Table) (h : List Event) (n cells : ℕ) → IsTable R → R.top < n → R' ≡ record { top = n; live = R.live ++ record { number = n; words = replicate cells None } ∷ [] } → StandsFor owner F W R h → StandsFor owner F W R' h
  made_stands F W R R' h n cells r l q s = subst (λ (x : Table). StandsFor owner F W x h) (sym q) (record {
    covered = s.covered;
    pending = s.pending;
    last = λ c w e. by_test (nat_eq n c.instance)
        (λ b.
        let i : n ≡ c.instance = eqb-true n c.instance b in
        let v : w ≡ None = no_word cells c.index w (sym (new_at R.top R.live (record { number = n; words = replicate cells None }) c r l i) ∙ e) in
        subst (λ x. LastIs h c x) (sym v) (λ j d a. let t : c.instance ≤ R.top = s.below j (event.Def d c) a in absurd (omega (arith, t, i, l))))
        (λ b. s.last c w (sym (new_other R.live (record { number = n; words = replicate cells None }) c (λ e. not_true (nat_eq n c.instance) b (eq-eqb n c.instance e))) ∙ e));
    below = λ i e a. weaker R.top n (omega (arith, l)) e (s.below i e a);
  })

  pub ended_stands : (F : FactSet) (W : List Wait) (R R' : Table) (h : List Event) (n : ℕ) → IsTable R → R' ≡ record { top = R.top; live = without n R.live } → StandsFor owner F W R h → StandsFor owner F W R' h
  ended_stands F W R R' h n r q s = subst (λ (x : Table). StandsFor owner F W x h) (sym q) (record {
    covered = s.covered;
    pending = s.pending;
    last = λ c w e. by_test (nat_eq n c.instance)
        (λ b. let i : n ≡ c.instance = eqb-true n c.instance b in let k : None ≡ Some w = sym (ended_at R.top n R.live c r i) ∙ e in absurd (cc))
        (λ b. s.last c w (sym (ended_other R.live n c (λ e. not_true (nat_eq n c.instance) b (eq-eqb n c.instance e))) ∙ e));
    below = s.below;
  })

  none_had : (F : FactSet) → ((f : Fact) → holds F f ≡ false) → (f : Fact) → Has F f → ⊥
  unfolding Has
  none_had F e f h = let r : false ≡ true = sym (e f) ∙ h in absurd (cc)

  pub none_stands : (F : FactSet) (W : List Wait) (R : Table) → ((f : Fact) → holds F f ≡ false) → W ≡ [] → R ≡ record { top = 0; live = [] } → StandsFor owner F W R []
  none_stands F W R f w r = record {
    covered = λ g. (λ h. absurd (none_had F f g h), λ c. absurd (covered_none owner g c));
    pending = λ x. (λ c. absurd (empty x (subst (λ (l : List Wait). Contains l x) w c)), λ p. absurd (pending_none owner x.decision x.activation x.definition x.user p));
    last = λ c v e. let k : None ≡ Some v = sym (ap (λ (t : Table). word_of t.live c) r) ∙ e in absurd (cc);
    below = λ i e a. absurd (cc);
  }
    where
      empty : (x : Wait) → Contains [] x → ⊥
      empty x c = absurd (omega (arith, c.1))

  pub same_stands : (F F' : FactSet) (W W' : List Wait) (R : Table) (h : List Event) → Same F F' → W' ≡ W → StandsFor owner F W R h → StandsFor owner F' W' R h
  same_stands F F' W W' R h e q s = record {
    covered = λ f. (λ a. (s.covered f).0 ((e f).0 a), λ c. (e f).1 ((s.covered f).1 c));
    pending = λ w. subst (λ (l : List Wait). Contains l w ↔ IsPending owner h w.decision w.activation w.definition w.user) (sym q) (s.pending w);
    last = s.last;
    below = s.below;
  }

  -- FREE EVENTS

  free_fact : (F : FactSet) (W : List Wait) (R : Table) (h : List Event) (e : Event) (f : Fact) → StandsFor owner F W R h → IsFree owner h e → Brings owner h e f → Has F f
  free_fact F W R h e f s r b = (s.covered f).1 (r.facts f ((covered_push owner h e f).1 (inr b)))

  pub free_block : (F : FactSet) (W : List Wait) (R : Table) (h : List Event) (k : ℕ) → StandsFor owner F W R h → IsFree owner h (event.Block k) → Has F (fact.Block k)
  free_block F W R h k s r = free_fact F W R h (event.Block k) (fact.Block k) s r refl

  pub free_pair : (F : FactSet) (W : List Wait) (R : Table) (h : List Event) (d u : ℕ) (c : Cell) (a : ℕ) → word_of R.live c ≡ Some (Some d) → StandsFor owner F W R h → IsFree owner h (event.Use u c a) → Has F (fact.Pair d u)
  free_pair F W R h d u c a e s r = free_fact F W R h (event.Use u c a) (fact.Pair d u) s r ((use_brings h d u c a (s.last c (Some d) e) (fact.Pair d u)).0 refl)

  pub free_wait : (F : FactSet) (W : List Wait) (R : Table) (h : List Event) (o : Option ℕ) (d u : ℕ) (c : Cell) (a : ℕ) → word_of R.live c ≡ Some (Some d) → o ≡ owner u → StandsFor owner F W R h → IsFree owner h (event.Use u c a) → (w : Wait) → IsWait o d u a w → Contains W w
  free_wait F W R h o d u c a e q s r w i = (s.pending w).1 (r.pending w.decision w.activation w.definition w.user ((pending_push owner h (event.Use u c a) w.decision w.activation w.definition w.user).1 (inr ((use_waits h d u c a (s.last c (Some d) e) w).0 (subst (λ (o : Option ℕ). IsWait o d u a w) q i)))))

  pub free_test : (F : FactSet) (W : List Wait) (R : Table) (h : List Event) (k o a : ℕ) → StandsFor owner F W R h → IsFree owner h (event.Test k o a) → (f : Fact) → Contains (settled k o (those_in a W)) f → Has F f
  free_test F W R h k o a s r f c = free_fact F W R h (event.Test k o a) f s r ((test_brings W h k o a s.pending f).0 c)
