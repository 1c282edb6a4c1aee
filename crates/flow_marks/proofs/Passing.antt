-- Passing marks on.
use Rattle.std.proofs.Common.{ℕ, zero, suc, ◌+◌, ◌*◌, ◌^◌, ◌<◌, ◌≤◌, ◌≡◌, ◌⊎◌, ◌↔◌, inl, inr, List, [], ◌∷◌, ◌++◌, length, get_or, set, refl, ap, sym, subst, ◌∙◌, arith, bit_or, bit_and, bit_xor, get_or-set_same, get_or-set_other, suc-mul}
use Rattle.std.specs.Prelude.{slice_get, Contains, sum}
use Rattle.std.specs.Int.{bit_at}
use Rattle.std.proofs.lemmas.Bool.{cases_lt}
use Rattle.std.proofs.lemmas.Option.{slice_get_read}
use Rattle.std.proofs.lemmas.List.{length-append, get_or_default, get_or_past, length-set}
use Rattle.std.proofs.lemmas.List.Sums.{sum_by-set, sum_by-cons}
use Rattle.std.proofs.lemmas.List.Elements.{Contains-push, Contains-push_cases, Contains-append_left, Contains-get_or}
use Rattle.std.proofs.lemmas.Nat.Bits.{bit_at_or, bit_at_and, bit_at_xor, bit_at-lt, bit_at-zero}
use Rattle.std.proofs.lemmas.Nat.{le_or_l}
use Rattle.flow_marks.specs.declared.flow.FlowRow.{FlowRow}
use Rattle.flow_marks.specs.Paths.{next_of, IsStep, Way}
use Rattle.flow_marks.specs.Words.{HasBit, Arrives, LetsOut, IsClosed, Puts, Spread}

pub same_or_not : (a b : ℕ) → (a ≡ b) ⊎ (a ≡ b → ⊥)
same_or_not a b = elim (cases_lt a b) [ inl lt ↦ inr (λ e. omega arith) | inr ge ↦ elim (cases_lt b a) [ inl lt ↦ inr (λ e. omega arith) | inr le ↦ inl (omega arith) ] ]

-- the bits of two words together
pub or_left : (a b i : ℕ) → bit_at a i ≡ 1 → bit_at (bit_or a b) i ≡ 1
or_left a b i e = omega (arith, bit_at_or a b i, bit_at-lt b i)

pub or_right : (a b i : ℕ) → bit_at b i ≡ 1 → bit_at (bit_or a b) i ≡ 1
or_right a b i e = omega (arith, bit_at_or a b i, bit_at-lt a i)

pub or_only : (a b i : ℕ) → bit_at (bit_or a b) i ≡ 1 → (bit_at a i ≡ 1) ⊎ (bit_at b i ≡ 1)
or_only a b i e = elim (same_or_not (bit_at a i) 1) [
  | inl h ↦ inl h
  | inr h ↦ inr (omega (arith, bit_at_or a b i, bit_at-lt a i, bit_at-lt b i))
]

pub out_bits : (gives held stops i : ℕ) → (bit_at (bit_or gives (bit_and held (bit_xor held stops))) i ≡ 1) ↔ ((bit_at gives i ≡ 1) ⊎ ((bit_at held i ≡ 1) × (bit_at stops i ≡ 1 → ⊥)))
out_bits gives held stops i = (
  (λ e. elim (or_only gives (bit_and held (bit_xor held stops)) i e) [
    | inl h ↦ inl h
    | inr h ↦ (let b = both h in inr (b.0, (λ s. let z = b.1 in omega arith)))
  ]),
  (λ h. elim h [
    | inl g ↦ or_left gives (bit_and held (bit_xor held stops)) i g
    | inr k ↦ or_right gives (bit_and held (bit_xor held stops)) i (elim (same_or_not (bit_at stops i) 1) [ inl s ↦ absurd (k.1 s) | inr ne ↦ (let b = bit_at_and held (bit_xor held stops) i in let x = bit_at_xor held stops i in let l = bit_at-lt stops i in let h = k.0 in omega arith) ])
  ]),
)
  where
    both : bit_at (bit_and held (bit_xor held stops)) i ≡ 1 → (bit_at held i ≡ 1) × (bit_at stops i ≡ 0)
    both h = let b = bit_at_and held (bit_xor held stops) i in let x = bit_at_xor held stops i in let l = bit_at-lt stops i in let m = bit_at-lt held i in (omega arith, omega arith)

-- a row that is given the marks of a word
module _ (word to : ℕ) (held waiting held' waiting' : List ℕ) (lt : to < length held) where
  at_to : held' ≡ set held to (bit_or (get_or held to 0) word) → get_or held' to 0 ≡ bit_or (get_or held to 0) word
  at_to e = ap (λ l. get_or l to 0) e ∙ get_or-set_same held to (bit_or (get_or held to 0) word) 0 lt

  at_other : held' ≡ set held to (bit_or (get_or held to 0) word) → (row : ℕ) → (row ≡ to → ⊥) → get_or held' row 0 ≡ get_or held row 0
  at_other e row ne = ap (λ l. get_or l row 0) e ∙ get_or-set_other held to row (bit_or (get_or held to 0) word) 0 ne

  pub put_size : Puts word to held waiting held' waiting' → length held' ≡ length held
  put_size (inl p) = ap length p.0
  put_size (inr p) = ap length p.0 ∙ length-set held to (bit_or (get_or held to 0) word)

  pub put_kept : Puts word to held waiting held' waiting' → (row i : ℕ) → HasBit held row i → HasBit held' row i
  put_kept (inl p) row i h = subst (λ l. HasBit l row i) (sym p.0) h
  put_kept (inr p) row i h = elim (same_or_not row to) [
    | inl e ↦ subst (λ r. HasBit held' r i) (sym e) (subst (λ w. bit_at w i ≡ 1) (sym (at_to p.0)) (or_left (get_or held to 0) word i (subst (λ r. HasBit held r i) e h)))
    | inr ne ↦ subst (λ w. bit_at w i ≡ 1) (sym (at_other p.0 row ne)) h
  ]

  pub put_only : Puts word to held waiting held' waiting' → (row i : ℕ) → HasBit held' row i → HasBit held row i ⊎ ((bit_at word i ≡ 1) × (row ≡ to))
  put_only (inl p) row i h = inl (subst (λ l. HasBit l row i) p.0 h)
  put_only (inr p) row i h = elim (same_or_not row to) [
    | inl e ↦ elim (or_only (get_or held to 0) word i (subst (λ w. bit_at w i ≡ 1) (at_to p.0) (subst (λ r. HasBit held' r i) e h))) [
      | inl was ↦ inl (subst (λ r. HasBit held r i) (sym e) was)
      | inr new ↦ inr (new, e)
    ]
    | inr ne ↦ inl (subst (λ w. bit_at w i ≡ 1) (at_other p.0 row ne) h)
  ]

  pub put_full : Puts word to held waiting held' waiting' → (i : ℕ) → bit_at word i ≡ 1 → HasBit held' to i
  put_full (inl p) i h = subst (λ l. HasBit l to i) (sym p.0) (subst (λ w. bit_at w i ≡ 1) p.2 (or_right (get_or held to 0) word i h))
  put_full (inr p) i h = subst (λ w. bit_at w i ≡ 1) (sym (at_to p.0)) (or_right (get_or held to 0) word i h)

  pub put_waits : Puts word to held waiting held' waiting' → (row : ℕ) → Contains waiting row → Contains waiting' row
  put_waits (inl p) row c = subst (λ l. Contains l row) (sym p.1) c
  put_waits (inr p) row c = subst (λ l. Contains l row) (sym p.1) (Contains-append_left waiting (to ∷ []) row c)

  pub put_within : Puts word to held waiting held' waiting' → (row : ℕ) → Contains waiting' row → Contains waiting row ⊎ (to ≡ row)
  put_within (inl p) row c = inl (subst (λ l. Contains l row) p.1 c)
  put_within (inr p) row c = Contains-push_cases waiting to row (subst (λ l. Contains l row) p.1 c)

  pub put_rest : Puts word to held waiting held' waiting' → (row : ℕ) → Contains waiting' row ⊎ (get_or held' row 0 ≡ get_or held row 0)
  put_rest (inl p) row = inr (ap (λ l. get_or l row 0) p.0)
  put_rest (inr p) row = elim (same_or_not row to) [
    | inl e ↦ inl (subst (Contains waiting') (sym e) (subst (λ l. Contains l to) (sym p.1) (Contains-push waiting to)))
    | inr ne ↦ inr (at_other p.0 row ne)
  ]

  pub put_else : Puts word to held waiting held' waiting' → (row : ℕ) → (row ≡ to → ⊥) → get_or held' row 0 ≡ get_or held row 0
  put_else (inl p) row ne = ap (λ l. get_or l row 0) p.0
  put_else (inr p) row ne = at_other p.0 row ne

  pub put_count : Puts word to held waiting held' waiting' → length waiting' + sum held ≤ length waiting + sum held'
  put_count (inl p) = omega (arith, ap length p.1, ap sum p.0)
  put_count (inr p) = omega (arith, ap length p.1, length-append waiting (to ∷ []), ap sum p.0, p.2, sum_by-set (λ x. x) held to (bit_or (get_or held to 0) word) 0 lt)

-- what is put
pub put_none : (word old to : ℕ) (held waiting : List ℕ) → to < length held → old ≡ get_or held to old → bit_or old word ≡ old → Puts word to held waiting held waiting
put_none word old to held waiting lt is same =
    let e : old ≡ get_or held to 0 = is ∙ get_or_default held to old 0 lt in
    inl (refl, refl, subst (λ x. bit_or x word ≡ x) e same)

pub put_some : (word old to : ℕ) (held waiting waiting' : List ℕ) → to < length held → old ≡ get_or held to old → (bit_or old word ≡ old → ⊥) → waiting' ≡ waiting ++ to ∷ [] → Puts word to held waiting (set held to (bit_or old word)) waiting'
put_some word old to held waiting waiting' lt is more w =
    let e : old ≡ get_or held to 0 = is ∙ get_or_default held to old 0 lt in
    inr (ap (λ x. set held to (bit_or x word)) e, w, subst (λ x. x < bit_or x word) e (let l = le_or_l old word in elim (cases_lt old (bit_or old word)) [ inl lt ↦ lt | inr ge ↦ absurd (more (omega arith)) ]))

pub spread_start : (word : ℕ) (next held waiting : List ℕ) → Spread word next held waiting held waiting 0
spread_start word next held waiting = record { size = refl; kept = λ row i h. h; only = λ row i h. inl h; full = λ j lt. absurd (omega arith); waits = λ row c. c; within = λ row c. inl c; rest = λ row. inr refl; fits = λ h. h; count = omega arith }

pub spread_more : (word n to : ℕ) (next held waiting held' waiting' held'' waiting'' : List ℕ) → to ≡ get_or next n 0 → n < length next → to < length held' → Spread word next held waiting held' waiting' n → Puts word to held' waiting' held'' waiting'' → get_or held'' to 0 < 2 ^ 64 → Spread word next held waiting held'' waiting'' (n + 1)
spread_more word n to next held waiting held' waiting' held'' waiting'' at below lt s p small =
    let there : Contains next to = subst (Contains next) (sym at) (Contains-get_or next n 0 below) in
    record {
      size = put_size word to held' waiting' held'' waiting'' lt p ∙ s.size;
      kept = λ row i h. put_kept word to held' waiting' held'' waiting'' lt p row i (s.kept row i h);
      only = λ row i h. elim (put_only word to held' waiting' held'' waiting'' lt p row i h) [
        | inl was ↦ s.only row i was
        | inr new ↦ inr (new.0, subst (Contains next) (sym new.1) there)
      ];
      full = λ j less i h. elim (cases_lt j n) [
        | inl l ↦ put_kept word to held' waiting' held'' waiting'' lt p (get_or next j 0) i (s.full j l i h)
        | inr ge ↦ (let e : n ≡ j = omega arith in subst (λ j. HasBit held'' (get_or next j 0) i) e (subst (λ r. HasBit held'' r i) at (put_full word to held' waiting' held'' waiting'' lt p i h)))
      ];
      waits = λ row c. put_waits word to held' waiting' held'' waiting'' lt p row (s.waits row c);
      within = λ row c. elim (put_within word to held' waiting' held'' waiting'' lt p row c) [
        | inl was ↦ s.within row was
        | inr e ↦ inr (subst (Contains next) e there)
      ];
      rest = λ row. elim (put_rest word to held' waiting' held'' waiting'' lt p row) [
        | inl c ↦ inl c
        | inr same ↦ elim (s.rest row) [ inl c ↦ inl (put_waits word to held' waiting' held'' waiting'' lt p row c) | inr was ↦ inr (same ∙ was) ]
      ];
      fits = λ fit row. elim (same_or_not row to) [
        | inl e ↦ subst (λ r. get_or held'' r 0 < 2 ^ 64) (sym e) small
        | inr ne ↦ subst (λ w. w < 2 ^ 64) (sym (put_else word to held' waiting' held'' waiting'' lt p row ne)) (s.fits fit row)
      ];
      count = omega (arith, s.count, put_count word to held' waiting' held'' waiting'' lt p);
    }

-- rows that give marks
pub givers_more : (gives old new : List ℕ) (n : ℕ) → new ≡ old ++ n ∷ [] → ((row : ℕ) → row < n → (get_or gives row 0 ≡ 0 → ⊥) → Contains old row) → (row : ℕ) → row < n + 1 → (get_or gives row 0 ≡ 0 → ⊥) → Contains new row
givers_more gives old new n e all row lt h = elim (cases_lt row n) [
  | inl less ↦ subst (λ l. Contains l row) (sym e) (Contains-append_left old (n ∷ []) row (all row less h))
  | inr ge ↦ (let same : n ≡ row = omega arith in subst (λ l. Contains l row) (sym e) (subst (Contains (old ++ n ∷ [])) same (Contains-push old n)))
]

pub givers_skip : (gives old : List ℕ) (n : ℕ) → get_or gives n 0 ≡ 0 → ((row : ℕ) → row < n → (get_or gives row 0 ≡ 0 → ⊥) → Contains old row) → (row : ℕ) → row < n + 1 → (get_or gives row 0 ≡ 0 → ⊥) → Contains old row
givers_skip gives old n none all row lt h = elim (cases_lt row n) [
  | inl less ↦ all row less h
  | inr ge ↦ (let same : row ≡ n = omega arith in absurd (h (ap (λ r. get_or gives r 0) same ∙ none)))
]

pub within_more : (old new : List ℕ) (n : ℕ) → new ≡ old ++ n ∷ [] → ((row : ℕ) → Contains old row → row < n) → (row : ℕ) → Contains new row → row < n + 1
within_more old new n e within row c = elim (Contains-push_cases old n row (subst (λ l. Contains l row) e c)) [ inl was ↦ (let lt = within row was in omega arith) | inr same ↦ omega arith ]

pub givers_all : (gives old : List ℕ) (n : ℕ) → length gives ≤ n → ((row : ℕ) → row < n → (get_or gives row 0 ≡ 0 → ⊥) → Contains old row) → (row : ℕ) → (get_or gives row 0 ≡ 0 → ⊥) → Contains old row
givers_all gives old n le all row h = elim (cases_lt row n) [
  | inl less ↦ all row less h
  | inr ge ↦ absurd (h (get_or_past gives row 0 (omega arith)))
]

pub next_at : (g : List FlowRow) (i : ℕ) (row : FlowRow) → i < length g → row ≡ get_or g i row → next_of (slice_get g i) ≡ row.next.items
next_at g i row lt is = ap next_of (slice_get_read g (length g) i row refl lt is)

module _ (g : List FlowRow) (gives stops : List ℕ) where
  -- before the first turn
  pub start_open : (held waiting : List ℕ) → ((row : ℕ) → get_or held row 0 ≡ 0) → ((row : ℕ) → (get_or gives row 0 ≡ 0 → ⊥) → Contains waiting row) → (row : ℕ) → Contains waiting row ⊎ IsClosed g gives stops held row
  start_open held waiting none all row = elim (same_or_not (get_or gives row 0) 0) [
    | inr ne ↦ inl (all row ne)
    | inl e ↦ inr (λ to i step out. elim out [
      | inl h ↦ absurd (no_bit (get_or gives row 0) i e h)
      | inr h ↦ absurd (no_bit (get_or held row 0) i (none row) h.0)
    ])
  ]
    where
      no_bit : (w i : ℕ) → w ≡ 0 → bit_at w i ≡ 1 → ⊥
      no_bit w i e h = let z : bit_at w i ≡ 0 = ap (λ w. bit_at w i) e ∙ bit_at-zero i in omega arith

  pub start_sound : (held : List ℕ) → ((row : ℕ) → get_or held row 0 ≡ 0) → (row i : ℕ) → HasBit held row i → Arrives g gives stops row i
  start_sound held none row i h = absurd (let z : bit_at (get_or held row 0) i ≡ 0 = ap (λ w. bit_at w i) (none row) ∙ bit_at-zero i in omega arith)

  -- one turn: a row is taken, and what it lets out is spread
  module _ (from word : ℕ) (was waiting held waiting' held' : List ℕ) (took : was ≡ waiting ++ from ∷ []) (lets : (i : ℕ) → (bit_at word i ≡ 1) ↔ LetsOut gives stops held from i) (s : Spread word (next_of (slice_get g from)) held waiting held' waiting' (length (next_of (slice_get g from)))) where
    arrives : ((row i : ℕ) → HasBit held row i → Arrives g gives stops row i) → (i to : ℕ) → LetsOut gives stops held from i → IsStep g from to → Arrives g gives stops to i
    arrives sound i to (inl h) step = (from, h, (0, step))
    arrives sound i to (inr h) step = let a = sound from i h.0 in (a.0, a.1, (suc a.2.0, (from, a.2.1, h.1, step)))

    pub turn_sound : ((row i : ℕ) → HasBit held row i → Arrives g gives stops row i) → (row i : ℕ) → HasBit held' row i → Arrives g gives stops row i
    turn_sound sound row i h = elim (s.only row i h) [
      | inl old ↦ sound row i old
      | inr new ↦ arrives sound i row ((lets i).0 new.0) new.1
    ]

    same_out : (row i : ℕ) → get_or held' row 0 ≡ get_or held row 0 → LetsOut gives stops held' row i → LetsOut gives stops held row i
    same_out row i e (inl h) = inl h
    same_out row i e (inr h) = inr (subst (λ w. bit_at w i ≡ 1) e h.0, h.1)

    here_closed : get_or held' from 0 ≡ get_or held from 0 → IsClosed g gives stops held' from
    here_closed e to i step out =
        let next = next_of (slice_get g from) in
        subst (λ r. HasBit held' r i) (sym (get_or_default next step.0 to 0 step.1) ∙ step.2) (s.full step.0 step.1 i ((lets i).1 (same_out from i e out)))

    pub turn_open : ((row : ℕ) → Contains was row ⊎ IsClosed g gives stops held row) → (row : ℕ) → Contains waiting' row ⊎ IsClosed g gives stops held' row
    turn_open opened row = elim (s.rest row) [
      | inl c ↦ inl c
      | inr same ↦ elim (opened row) [
        | inr closed ↦ inr (λ to i step out. s.kept to i (closed to i step (same_out row i same out)))
        | inl c ↦ elim (Contains-push_cases waiting from row (subst (λ l. Contains l row) took c)) [
          | inl still ↦ inl (s.waits row still)
          | inr e ↦ inr (subst (IsClosed g gives stops held') e (here_closed (subst (λ r. get_or held' r 0 ≡ get_or held r 0) (sym e) same)))
        ]
      ]
    ]

    pub turn_within : ((row to : ℕ) → IsStep g row to → to < length g) → ((row : ℕ) → Contains was row → row < length g) → (row : ℕ) → Contains waiting' row → row < length g
    turn_within in_range within row c = elim (s.within row c) [
      | inl old ↦ within row (subst (λ l. Contains l row) (sym took) (Contains-append_left waiting (from ∷ []) row old))
      | inr new ↦ in_range from row new
    ]

  -- after the last turn
  pub all_arrive : (held waiting : List ℕ) → waiting ≡ [] → ((row : ℕ) → Contains waiting row ⊎ IsClosed g gives stops held row) → (row i : ℕ) → Arrives g gives stops row i → HasBit held row i
  all_arrive held waiting e opened row i a = stands a.2.0 row a.2.1
    where
      closed : (row : ℕ) → IsClosed g gives stops held row
      closed row = elim (opened row) [ inl c ↦ absurd (let l = ap length e in let lt = c.1 in omega arith) | inr c ↦ c ]

      stands : (n row : ℕ) → Way g (λ r. HasBit stops r i) a.0 row n → HasBit held row i
      stands zero row w = closed a.0 row i w (inl a.1)
      stands (suc n) row w = closed w.0 row i w.3 (inr (stands n w.0 w.1, w.2))

pub last_in : (was rest : List ℕ) (row : ℕ) → was ≡ rest ++ row ∷ [] → Contains was row
last_in was rest row e = subst (λ l. Contains l row) (sym e) (Contains-push rest row)

pub sum_bound : (words : List ℕ) (bound : ℕ) → ((i : ℕ) → get_or words i 0 < bound) → sum words ≤ length words * bound
sum_bound [] bound h = omega arith
sum_bound (w ∷ ws) bound h = (let first = h 0 in let rest = sum_bound ws bound (λ i. h (suc i)) in let m : suc (length ws) * bound ≡ bound + length ws * bound = omega (arith, suc-mul (length ws) bound) in let s : sum (w ∷ ws) ≡ w + sum ws = sum_by-cons (λ x. x) w ws in omega arith)

pub there : (next held held' : List ℕ) (i : ℕ) → i < length next → length held' ≡ length held → ((to : ℕ) → Contains next to → to < length held) → get_or next i 0 < length held'
there next held held' i lt e h = subst (λ n. get_or next i 0 < n) (sym e) (h (get_or next i 0) (Contains-get_or next i 0 lt))

pub within_skip : (old : List ℕ) (n : ℕ) → ((row : ℕ) → Contains old row → row < n) → (row : ℕ) → Contains old row → row < n + 1
within_skip old n within row c = let lt = within row c in omega arith

-- what is read of the row that is taken
pub lets_at : (gives held stops : List ℕ) (from h word : ℕ) → from < length held → h ≡ get_or held from h → ((i : ℕ) → (bit_at word i ≡ 1) ↔ ((bit_at (get_or gives from 0) i ≡ 1) ⊎ ((bit_at h i ≡ 1) × (bit_at (get_or stops from 0) i ≡ 1 → ⊥)))) → (i : ℕ) → (bit_at word i ≡ 1) ↔ LetsOut gives stops held from i
lets_at gives held stops from h word lt is lets i =
    subst (λ x. (bit_at word i ≡ 1) ↔ ((bit_at (get_or gives from 0) i ≡ 1) ⊎ ((bit_at x i ≡ 1) × (HasBit stops from i → ⊥)))) (is ∙ get_or_default held from h 0 lt) (lets i)

pub spread_at : (g : List FlowRow) (from word : ℕ) (next held waiting held' waiting' : List ℕ) → next ≡ next_of (slice_get g from) → Spread word next held waiting held' waiting' (length next) → Spread word (next_of (slice_get g from)) held waiting held' waiting' (length (next_of (slice_get g from)))
spread_at g from word next held waiting held' waiting' e s = subst (λ l. Spread word l held waiting held' waiting' (length l)) e s

pub in_next : (g : List FlowRow) (from size : ℕ) (next : List ℕ) → next ≡ next_of (slice_get g from) → size ≡ length g → ((row to : ℕ) → IsStep g row to → to < length g) → (to : ℕ) → Contains next to → to < size
in_next g from size next e f h to c = subst (λ n. to < n) (sym f) (h from to (subst (λ l. Contains l to) e c))

pub turn_count : (was waiting : List ℕ) (from : ℕ) → was ≡ waiting ++ from ∷ [] → length was ≡ length waiting + 1
turn_count was waiting from took = omega (arith, ap length took, length-append waiting (from ∷ []))
