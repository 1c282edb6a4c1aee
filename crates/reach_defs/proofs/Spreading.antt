-- Passing marks on.
use Rattle.std.proofs.Common.{ℕ, zero, suc, ◌+◌, ◌*◌, ◌<◌, ◌≤◌, ◌≡◌, ◌⊎◌, inl, inr, List, [], ◌∷◌, ◌++◌, length, get_or, refl, ap, sym, subst, ◌∙◌, arith}
use Rattle.std.specs.Prelude.{slice_get, Contains}
use Rattle.std.proofs.Math.Nat.{mul-le-mul_right}
use Rattle.std.proofs.lemmas.Bool.{cases_lt}
use Rattle.std.proofs.lemmas.Option.{slice_get_read, slice_get_past}
use Rattle.std.proofs.lemmas.List.Elements.{Contains-push_cases, Contains-get_or}
use Rattle.std.proofs.lemmas.List.{get_or_default}
use Rattle.reach_defs.specs.declared.rows.ReachRow.{ReachRow}
use Rattle.reach_defs.specs.declared.table.Grid.{Grid}
use Rattle.reach_defs.proofs.Cells.{same_or_not, held_bound}
use Rattle.reach_defs.specs.Work.{Puts}
use Rattle.reach_defs.proofs.Putting.{put_here, put_kept, put_only, put_length}
use Rattle.reach_defs.specs.Held.{Holds, held_count}
use Rattle.reach_defs.specs.Paths.{Gives, IsEdge, Path, Arrives, next_of, IsListed}
use Rattle.reach_defs.specs.Passing.{LetsOut, IsSound, IsClosed, NoMore, Passed, Spread}

pub next_at : (rows : List ReachRow) (i : ℕ) (row : ReachRow) → i < length rows → row ≡ get_or rows i row → next_of (slice_get rows i) ≡ row.next
next_at rows i row lt is = ap next_of (slice_get_read rows (length rows) i row refl lt is)

module _ (rows : List ReachRow) (marks : List ℕ) where
  -- what a row lets out to a next one arrives there
  arrives : (h : Grid) (c t i : ℕ) → i < length marks → IsEdge rows c t → IsSound rows marks h → LetsOut rows marks h c i → Arrives rows t (get_or marks i 0)
  arrives h c t i lt e sound (inl g) = (c, 0, g, e)
  arrives h c t i lt e sound (inr m) = let a = sound c i lt m.0 in (a.0, suc a.1, a.2, (c, a.3, m.1, e))

  out_back : (h k : Grid) (c i : ℕ) → (Holds k c i → Holds h c i) → LetsOut rows marks k c i → LetsOut rows marks h c i
  out_back h k c i f (inl g) = inl g
  out_back h k c i f (inr m) = inr (f m.0, m.1)

  pub record IsSet (to i : ℕ) (h k : Grid) : Type 0 where
    pub height : k.height ≡ h.height
    pub width : k.width ≡ h.width
    pub here : Holds k to i
    pub kept : (q j : ℕ) → Holds h q j → Holds k q j
    pub only : (q j : ℕ) → j < k.width → Holds k q j → Holds h q j ⊎ ((q ≡ to) × (j ≡ i))

  set_sound : (from to i : ℕ) (h k : Grid) → i < length marks → h.width ≡ length marks → IsEdge rows from to → LetsOut rows marks h from i → IsSet to i h k → IsSound rows marks h → IsSound rows marks k
  set_sound from to i h k lt w e o s sound q j below m = elim (s.only q j (let sw = s.width in omega arith) m) [
    | inl was ↦ sound q j below was
    | inr new ↦ subst (λ q. Arrives rows q (get_or marks j 0)) (sym new.0) (subst (λ j. Arrives rows to (get_or marks j 0)) (sym new.1) (arrives h from to i lt e sound o))
  ]

  set_full : (from to i : ℕ) (h k : Grid) → i < length marks → h.width ≡ length marks → IsSet to i h k → ((j : ℕ) → j < i → LetsOut rows marks h from j → Holds h to j) → (j : ℕ) → j < i + 1 → LetsOut rows marks k from j → Holds k to j
  set_full from to i h k lt w s full j below o = elim (cases_lt j i) [
    | inl less ↦ s.kept to j (full j less (out_back h k from j (λ m. elim (s.only from j (let sw = s.width in omega arith) m) [ inl was ↦ was | inr new ↦ absurd (let e = new.1 in omega arith) ]) o))
    | inr ge ↦ (let e : i ≡ j = omega arith in subst (λ j. Holds k to j) e s.here)
  ]

  pub pass_set : (from to n : ℕ) (h k l : Grid) → n < length marks → k.width ≡ length marks → IsEdge rows from to → Passed rows marks from to h k n → LetsOut rows marks k from n → IsSet to n k l → Passed rows marks from to h l (n + 1)
  pass_set from to n h k l lt w e p o s = record {
    height = s.height ∙ p.height;
    width = s.width ∙ p.width;
    kept = λ q i m. s.kept q i (p.kept q i m);
    rest = λ q ne i below m. elim (s.only q i (let sw = s.width in omega arith) m) [ inl was ↦ p.rest q ne i below was | inr new ↦ absurd (ne new.0) ];
    sound = λ sound. set_sound from to n k l lt w e o s (p.sound sound);
    full = set_full from to n k l lt w s p.full;
  }

  pub pass_skip : (from to n : ℕ) (h k : Grid) → Passed rows marks from to h k n → (LetsOut rows marks k from n → ⊥) → Passed rows marks from to h k (n + 1)
  pass_skip from to n h k p none = record {
    height = p.height;
    width = p.width;
    kept = p.kept;
    rest = p.rest;
    sound = p.sound;
    full = λ j below o. elim (cases_lt j n) [
      | inl less ↦ p.full j less o
      | inr ge ↦ (let e : j ≡ n = omega arith in absurd (none (subst (λ j. LetsOut rows marks k from j) e o)))
    ];
  }

  pub pass_start : (from to : ℕ) (h : Grid) → Passed rows marks from to h h 0
  pass_start from to h = record { height = refl; width = refl; kept = λ q i m. m; rest = λ q ne i below m. m; sound = λ s. s; full = λ j lt. absurd (omega arith) }

  nexts_of : ℕ → List ℕ
  nexts_of from = next_of (slice_get rows from)

  pub spread_start : (from : ℕ) (h : Grid) (queue : List ℕ) → Spread rows marks from h queue h queue 0
  spread_start from h queue = record { height = refl; width = refl; kept = λ q i m. m; sound = λ s. s; waits = λ q c. c; within = λ w. w; rest = λ q. inr (λ i below m. m); full = inr (λ j lt. absurd (omega arith)); count = omega arith }

  full_step : (from to n : ℕ) (k l : Grid) → to ≡ get_or (next_of (slice_get rows from)) n 0 → Passed rows marks from to k l (length marks) → NoMore marks k l from →
      ((j : ℕ) → j < n → (i : ℕ) → i < length marks → LetsOut rows marks k from i → Holds k (get_or (next_of (slice_get rows from)) j 0) i) →
      (j : ℕ) → j < n + 1 → (i : ℕ) → i < length marks → LetsOut rows marks l from i → Holds l (get_or (next_of (slice_get rows from)) j 0) i
  full_step from to n k l e p none_new full j below i lt o = elim (cases_lt j n) [
    | inl less ↦ p.kept _ i (full j less i lt (out_back k l from i (none_new i lt) o))
    | inr ge ↦ (let at : j ≡ n = omega arith in subst (λ j. Holds l (get_or (next_of (slice_get rows from)) j 0) i) (sym at) (subst (λ t. Holds l t i) e (p.full i lt o)))
  ]

  pub spread_same : (from to n : ℕ) (h k l : Grid) (queue queue' : List ℕ) → to ≡ get_or (next_of (slice_get rows from)) n 0 → Spread rows marks from h queue k queue' n → Passed rows marks from to k l (length marks) → l ≡ k → Spread rows marks from h queue l queue' (n + 1)
  spread_same from to n h k l queue queue' at s p e = record {
    height = p.height ∙ s.height;
    width = p.width ∙ s.width;
    kept = λ q i m. p.kept q i (s.kept q i m);
    sound = λ sound. p.sound (s.sound sound);
    waits = s.waits;
    within = s.within;
    rest = λ q. elim (s.rest q) [ inl c ↦ inl c | inr none_new ↦ inr (λ i below m. none_new i below (subst (λ g. Holds g q i) e m)) ];
    full = elim s.full [ inl c ↦ inl c | inr full ↦ inr (full_step from to n k l at p (λ i below m. subst (λ g. Holds g from i) e m) full) ];
    count = let c = s.count in let m = ap held_count e in omega arith;
  }

  no_more : (q to : ℕ) (h k l : Grid) (from : ℕ) → Passed rows marks from to k l (length marks) → (q ≡ to → ⊥) → NoMore marks h k q → NoMore marks h l q
  no_more q to h k l from p ne none_new i below m = none_new i below (p.rest q ne i below m)

  pub spread_more : (from to n : ℕ) (h k l : Grid) (queue queue' put : List ℕ) → to ≡ get_or (next_of (slice_get rows from)) n 0 → Spread rows marks from h queue k queue' n → Passed rows marks from to k l (length marks) → held_count k < held_count l → to < length rows → Puts queue' to put → Spread rows marks from h queue l put (n + 1)
  spread_more from to n h k l queue queue' put at s p grown lt is = record {
    height = p.height ∙ s.height;
    width = p.width ∙ s.width;
    kept = λ q i m. p.kept q i (s.kept q i m);
    sound = λ sound. p.sound (s.sound sound);
    within = λ w q c. elim (put_only queue' put to is q c) [ inl was ↦ s.within w q was | inr e ↦ subst (λ x. x < length rows) e lt ];
    waits = λ q c. put_kept queue' put to is q (s.waits q c);
    rest = λ q. elim (same_or_not q to) [
      | inl e ↦ inl (subst (Contains put) (sym e) (put_here queue' put to is))
      | inr ne ↦ elim (s.rest q) [ inl c ↦ inl (put_kept queue' put to is q c) | inr none_new ↦ inr (no_more q to h k l from p ne none_new) ]
    ];
    full = elim (same_or_not from to) [
      | inl e ↦ inl (subst (Contains put) (sym e) (put_here queue' put to is))
      | inr ne ↦ elim s.full [ inl c ↦ inl (put_kept queue' put to is from c) | inr full ↦ inr (full_step from to n k l at p (p.rest from ne) full) ]
    ];
    count = let c = s.count in let m = put_length queue' put to is in omega arith;
  }

  pub closed_after : (from : ℕ) (h k : Grid) (queue queue' : List ℕ) → Spread rows marks from h queue k queue' (length (next_of (slice_get rows from))) → (q : ℕ) → (q ≡ from) ⊎ (Contains queue q ⊎ IsClosed rows marks h q) → Contains queue' q ⊎ IsClosed rows marks k q
  closed_after from h k queue queue' s q (inl e) = elim s.full [
    | inl c ↦ inl (subst (λ x. Contains queue' x) (sym e) c)
    | inr full ↦ inr (subst (λ x. IsClosed rows marks k x) (sym e) (λ t i edge lt o. subst (λ x. Holds k x i) (sym (get_or_default (next_of (slice_get rows from)) edge.0 t 0 edge.1) ∙ edge.2) (full edge.0 edge.1 i lt o)))
  ]
  closed_after from h k queue queue' s q (inr (inl c)) = inl (s.waits q c)
  closed_after from h k queue queue' s q (inr (inr closed)) = elim (s.rest q) [
    | inl c ↦ inl c
    | inr none_new ↦ inr (λ t i edge lt o. s.kept t i (closed t i edge lt (out_back h k q i (none_new i lt) o)))
  ]

  -- where every row is closed, a mark stands wherever it arrives
  module _ (h : Grid) (closed : (q : ℕ) → IsClosed rows marks h q) where
    pub stands : (i : ℕ) → i < length marks → (a n r : ℕ) → Gives rows a (get_or marks i 0) → Path rows (get_or marks i 0) a r n → Holds h r i
    stands i lt a zero r g w = closed a r i w lt (inl g)
    stands i lt a (suc n) r g w = closed w.0 r i w.3 lt (inr (stands i lt a n w.0 g w.1, w.2))

  next_in : (a : ℕ) (n : ℕ) (next : List ℕ) → next ≡ next_of (slice_get rows a) → n < length next → IsEdge rows a (get_or next n 0)
  next_in a n next e lt = subst (λ l. Contains l (get_or next n 0)) e (Contains-get_or next n 0 lt)

  past_closed : (h : Grid) (q : ℕ) → length rows ≤ q → IsClosed rows marks h q
  past_closed h q le t i edge lt o = absurd (let e = ap (λ r. length (next_of r)) (slice_get_past rows q le) in let l = edge.1 in omega arith)

  -- before the first round, every row waits
  pub start_open : (h : Grid) (queue : List ℕ) → ((q : ℕ) → q < length rows → Contains queue q) → (q : ℕ) → Contains queue q ⊎ IsClosed rows marks h q
  start_open h queue all q = elim (cases_lt q (length rows)) [ inl lt ↦ inl (all q lt) | inr ge ↦ inr (past_closed h q ge) ]

  pub start_sound : (h : Grid) → ((q i : ℕ) → Holds h q i → ⊥) → IsSound rows marks h
  start_sound h none q i lt m = absurd (none q i m)

  pub next_open : (from : ℕ) (h k : Grid) (was queue queue' : List ℕ) → was ≡ queue ++ from ∷ [] → Spread rows marks from h queue k queue' (length (next_of (slice_get rows from))) → ((q : ℕ) → Contains was q ⊎ IsClosed rows marks h q) → (q : ℕ) → Contains queue' q ⊎ IsClosed rows marks k q
  next_open from h k was queue queue' e s opened q = closed_after from h k queue queue' s q (elim (opened q) [
    | inr closed ↦ inr (inr closed)
    | inl c ↦ elim (Contains-push_cases queue from q (subst (λ l. Contains l q) e c)) [ inl still ↦ inr (inl still) | inr is ↦ inl (sym is) ]
  ])

  pub none_left : (h : Grid) (queue : List ℕ) → queue ≡ [] → ((q : ℕ) → Contains queue q ⊎ IsClosed rows marks h q) → (q : ℕ) → IsClosed rows marks h q
  none_left h queue e opened q = elim (opened q) [ inl c ↦ absurd (let l = ap length e in let lt = c.1 in omega arith) | inr closed ↦ closed ]

module _ (rows : List ReachRow) where
  -- a round: its marks and its next rows are borrowed
  pub round : (marks marks' next : List ℕ) (from n : ℕ) (h : Grid) (queue : List ℕ) (k : Grid) (queue' : List ℕ) → marks' ≡ marks → next ≡ next_of (slice_get rows from) → Spread rows marks' from h queue k queue' (length next) → Spread rows marks from h queue k queue' (length (next_of (slice_get rows from)))
  round marks marks' next from n h queue k queue' e f s = subst (λ l. Spread rows marks from h queue k queue' (length l)) f (subst (λ m. Spread rows m from h queue k queue' (length next)) e s)

  pub has_all : (marks : List ℕ) (h : Grid) (queue : List ℕ) → queue ≡ [] → IsListed rows marks → ((q : ℕ) → Contains queue q ⊎ IsClosed rows marks h q) → (r m : ℕ) → Arrives rows r m → (i : ℕ) × i < length marks × (get_or marks i 0 ≡ m) × Holds h r i
  has_all marks h queue e listed opened r m a =
      let c = listed a.0 m a.2 in
      let at : get_or marks c.0 0 ≡ m = sym (get_or_default marks c.0 m 0 c.1) ∙ c.2 in
      (c.0, c.1, at, stands rows marks h (none_left rows marks h queue e opened) c.0 c.1 a.0 a.1 r (subst (λ x. Gives rows a.0 x) (sym at) a.2) (subst (λ x. Path rows x a.0 r a.1) (sym at) a.3))

pub marks_bound : (h : Grid) (r w : ℕ) → h.height ≡ r → h.width ≡ w → held_count h ≤ r * w
marks_bound h r w e f = subst (λ x. held_count h ≤ x * w) e (subst (λ x. held_count h ≤ h.height * x) f (held_bound h))

-- the bound, at any list of the marks
pub steps_fit : (r w n : ℕ) → w ≤ n → r * w + r ≤ r * (n + 1)
steps_fit r w n le = omega (arith, mul-le-mul_right {m = w + 1} {n = n + 1} r (omega arith))
