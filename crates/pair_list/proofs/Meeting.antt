-- Which uses which marks meet.
use Rattle.std.proofs.Common.{ℕ, ◌+◌, ◌-◌, ◌<◌, ◌≤◌, ◌≡◌, ◌⊎◌, ◌↔◌, inl, inr, List, length, get_or, set, Some, true, refl, ap, sym, subst, ◌∙◌, arith, bit_or, get_or-set_same, get_or-set_other}
use Rattle.std.specs.Prelude.{slice_get}
use Rattle.std.specs.Int.{bit_at}
use Rattle.std.proofs.lemmas.Bool.{cases_lt}
use Rattle.std.proofs.lemmas.Nat.Bits.{bit_at-zero}
use Rattle.std.proofs.lemmas.List.{get_or_default, length-set}
use Rattle.flow_walks.specs.declared.action.Action.{Action}
use Rattle.flow_walks.specs.declared.action.Action.TheVariants.{Use}
use Rattle.flow_marks.specs.declared.flow.FlowRow.{FlowRow}
use Rattle.flow_marks.specs.Paths.{action_at}
use Rattle.flow_marks.specs.Words.{HasBit}
use Rattle.flow_marks.proofs.Passing.{or_left, or_right, or_only, same_or_not}
use Rattle.c_sites.specs.declared.lists.UseSite.{UseSite}
use Rattle.c_sites.specs.declared.numbered.Sites.{Sites}
use Rattle.pair_list.specs.declared.marks.Mark.{Mark}
use Rattle.pair_list.specs.Marks.{Meets}
use Rattle.pair_list.specs.Masks.{MarkAt}
use Rattle.pair_list.specs.Hits.{MeetsOne, DefOf, UseMeets, RowHits, SomeHits, AddsBits}
use Rattle.pair_list.proofs.Making.{some_is}

-- the definitions of the marks of a word: some of them are found, the others' marks are left
pub record DefsLeft (marks : List Mark) (start first word left bits : ℕ) : Type 0 where
  pub sub : (i : ℕ) → bit_at left i ≡ 1 → bit_at word i ≡ 1
  pub sound : (j : ℕ) → bit_at bits j ≡ 1 → DefOf marks start first word j
  pub all : (i j : ℕ) → bit_at word i ≡ 1 → MarkAt marks (start + i) (λ m. m.def ≡ first + j) → (bit_at left i ≡ 1) ⊎ (bit_at bits j ≡ 1)

pub defs_start : (marks : List Mark) (start first word : ℕ) → DefsLeft marks start first word word 0
defs_start marks start first word = record { sub = λ i h. h; sound = λ j h. absurd (let z = bit_at-zero j in omega arith); all = λ i j h m. inl h }

pub defs_more : (marks : List Mark) (start first word left bits i at d left' bits' : ℕ) → at ≡ start + i → bit_at left i ≡ 1 → DefsLeft marks start first word left bits → ((j : ℕ) → (j ≡ d) ↔ MarkAt marks at (λ m. m.def ≡ first + j)) → ((j : ℕ) → (bit_at bits' j ≡ 1) ↔ ((bit_at bits j ≡ 1) ⊎ ((j ≡ d) × (true ≡ true)))) → ((j : ℕ) → (bit_at left' j ≡ 1) ↔ ((bit_at left j ≡ 1) × (j ≡ i → ⊥))) → DefsLeft marks start first word left' bits'
defs_more marks start first word left bits i at d left' bits' e has l def put took = record {
  sub = λ q h. l.sub q ((took q).0 h).0;
  sound = λ j h. elim ((put j).0 h) [
    | inl was ↦ l.sound j was
    | inr now ↦ (i, l.sub i has, subst (λ q. MarkAt marks q (λ m. m.def ≡ first + j)) e ((def j).0 now.0))
  ];
  all = λ q j h m. elim (l.all q j h m) [
    | inr b ↦ inr ((put j).1 (inl b))
    | inl b ↦ elim (same_or_not q i) [
      | inl same ↦ inr ((put j).1 (inr ((def j).1 (subst (λ q. MarkAt marks q (λ m. m.def ≡ first + j)) (omega arith) m), refl)))
      | inr ne ↦ inl ((took q).1 (b, ne))
    ]
  ];
}

pub defs_end : (marks : List Mark) (start first word left bits : ℕ) → left ≡ 0 → DefsLeft marks start first word left bits → (j : ℕ) → (bit_at bits j ≡ 1) ↔ DefOf marks start first word j
defs_end marks start first word left bits e l j = (
  (λ h. l.sound j h),
  (λ d. elim (l.all d.0 j d.1 d.2) [
    | inl b ↦ absurd (let z : bit_at left d.0 ≡ 0 = ap (λ w. bit_at w d.0) e ∙ bit_at-zero d.0 in omega arith)
    | inr b ↦ b
  ]),
)

pub defs_meet : (marks : List Mark) (start first came word : ℕ) (used : UseSite) → ((i : ℕ) → (bit_at word i ≡ 1) ↔ ((i < 64) × (bit_at came i ≡ 1) × MarkAt marks (start + i) (λ m. Meets used m))) → (j : ℕ) → DefOf marks start first word j ↔ MeetsOne marks start first came used j
defs_meet marks start first came word used w j = (
  (λ d. let h = (w d.0).0 d.1 in (d.0, h.0, h.1, (d.2.0, d.2.1, (subst (Meets used) (some_is h.2.0 d.2.0 (sym h.2.1 ∙ d.2.1)) h.2.2, d.2.2)))),
  (λ o. (o.0, (w o.0).1 (o.1, o.2, (o.3.0, o.3.1, o.3.2.0)), (o.3.0, o.3.1, o.3.2.1))),
)

-- bits that are added
pub adds_none : (P : ℕ → ℕ → Type 0) (old : List ℕ) → ((k j : ℕ) → k < length old → P k j → ⊥) → AddsBits P old old
adds_none P old none = record { size = refl; kept = λ k j h. h; here = λ k j lt p. absurd (none k j lt p); only = λ k j h. inl h }

pub adds_then : (P Q R : ℕ → ℕ → Type 0) (a b c : List ℕ) → ((k j : ℕ) → R k j → P k j ⊎ Q k j) → ((k j : ℕ) → P k j → R k j) → ((k j : ℕ) → Q k j → R k j) → AddsBits P a b → AddsBits Q b c → AddsBits R a c
adds_then P Q R a b c cases left right p q = record {
  size = q.size ∙ p.size;
  kept = λ k j h. q.kept k j (p.kept k j h);
  here = λ k j lt r. elim (cases k j r) [ inl x ↦ q.kept k j (p.here k j lt x) | inr x ↦ q.here k j (let e = p.size in omega arith) x ];
  only = λ k j h. elim (q.only k j h) [
    | inr x ↦ inr (right k j x)
    | inl was ↦ elim (p.only k j was) [ inl old ↦ inl old | inr x ↦ inr (left k j x) ]
  ];
}

pub adds_same : (P Q : ℕ → ℕ → Type 0) (a b : List ℕ) → ((k j : ℕ) → P k j ↔ Q k j) → AddsBits P a b → AddsBits Q a b
adds_same P Q a b same p = record {
  size = p.size;
  kept = p.kept;
  here = λ k j lt q. p.here k j lt ((same k j).1 q);
  only = λ k j h. elim (p.only k j h) [ inl was ↦ inl was | inr x ↦ inr ((same k j).0 x) ];
}

pub adds_word : (old : List ℕ) (k word was : ℕ) → k < length old → was ≡ get_or old k was → AddsBits (λ q j. (q ≡ k) × (bit_at word j ≡ 1)) old (set old k (bit_or was word))
adds_word old k word was lt is =
    let read : was ≡ get_or old k 0 = is ∙ get_or_default old k was 0 lt in
    let here : get_or (set old k (bit_or was word)) k 0 ≡ bit_or was word = get_or-set_same old k (bit_or was word) 0 lt in
    let else_where : (q : ℕ) → (q ≡ k → ⊥) → get_or (set old k (bit_or was word)) q 0 ≡ get_or old q 0 = λ q ne. get_or-set_other old k q (bit_or was word) 0 ne in
    record {
      size = length-set old k (bit_or was word);
      kept = λ q j h. elim (same_or_not q k) [
        | inl e ↦ subst (λ r. HasBit (set old k (bit_or was word)) r j) (sym e) (subst (λ w. bit_at w j ≡ 1) (sym here) (or_left was word j (subst (λ w. bit_at w j ≡ 1) (sym read) (subst (λ r. HasBit old r j) e h))))
        | inr ne ↦ subst (λ w. bit_at w j ≡ 1) (sym (else_where q ne)) h
      ];
      here = λ q j l p. subst (λ r. HasBit (set old k (bit_or was word)) r j) (sym p.0) (subst (λ w. bit_at w j ≡ 1) (sym here) (or_right was word j p.1));
      only = λ q j h. elim (same_or_not q k) [
        | inl e ↦ elim (or_only was word j (subst (λ w. bit_at w j ≡ 1) here (subst (λ r. HasBit (set old k (bit_or was word)) r j) e h))) [
          | inl x ↦ inl (subst (λ r. HasBit old r j) (sym e) (subst (λ w. bit_at w j ≡ 1) read x))
          | inr x ↦ inr (e, x)
        ]
        | inr ne ↦ inl (subst (λ w. bit_at w j ≡ 1) (else_where q ne) h)
      ];
    }

-- a use's word
pub use_none : (s : Sites) (f : ℕ) (marks : List Mark) (start first word u : ℕ) → ((j : ℕ) → UseMeets s f marks start first word u j → ⊥) → (j : ℕ) → (bit_at 0 j ≡ 1) ↔ UseMeets s f marks start first word u j
use_none s f marks start first word u none j = ((λ e. absurd (let z = bit_at-zero j in omega arith)), (λ h. absurd (none j h)))

use_same : Action → ℕ
use_same (Use u) = u
use_same _ = 0

pub use_is : (u v : ℕ) → Use u ≡ Use v → u ≡ v
unfolding use_same
use_is u v e = ap use_same e

pub row_is : (s : Sites) (f : ℕ) (marks : List Mark) (start first word low u k bits : ℕ) (a : Action) → a ≡ Use u → u ≡ low + k → ((j : ℕ) → (bit_at bits j ≡ 1) ↔ UseMeets s f marks start first word u j) → (q j : ℕ) → ((q ≡ k) × (bit_at bits j ≡ 1)) ↔ RowHits s f marks start first word a (low + q) j
row_is s f marks start first word low u k bits a is at meets q j = (
  (λ h. let e : u ≡ low + q = at ∙ ap (λ k. low + k) (sym h.0) in (is ∙ ap Use e, subst (λ u. UseMeets s f marks start first word u j) e ((meets j).0 h.1))),
  (λ h. let e : u ≡ low + q = use_is u (low + q) (sym is ∙ h.0) in (omega arith, (meets j).1 (subst (λ u. UseMeets s f marks start first word u j) (sym e) h.1))),
)

pub hits_start : (g : List FlowRow) (s : Sites) (f : ℕ) (marks : List Mark) (start first low : ℕ) (words old : List ℕ) → AddsBits (λ k j. SomeHits g s f marks start first words 0 (low + k) j) old old
hits_start g s f marks start first low words old = adds_none (λ k j. SomeHits g s f marks start first words 0 (low + k) j) old (λ k j lt h. let b = h.below in omega arith)

pub hits_more : (g : List FlowRow) (s : Sites) (f : ℕ) (marks : List Mark) (start first low n : ℕ) (words a b c : List ℕ) (word : ℕ) (action : Action) → word ≡ get_or words n 0 → action ≡ action_at g n → AddsBits (λ k j. SomeHits g s f marks start first words n (low + k) j) a b → AddsBits (λ k j. RowHits s f marks start first word action (low + k) j) b c → AddsBits (λ k j. SomeHits g s f marks start first words (n + 1) (low + k) j) a c
hits_more g s f marks start first low n words a b c word action is act p q = adds_then (λ k j. SomeHits g s f marks start first words n (low + k) j) (λ k j. RowHits s f marks start first word action (low + k) j) (λ k j. SomeHits g s f marks start first words (n + 1) (low + k) j) a b c
    (λ k j h. elim (cases_lt h.row n) [
      | inl less ↦ inl (record { row = h.row; below = less; hits = h.hits })
      | inr ge ↦ (let lt = h.below in let e : h.row ≡ n = omega arith in
          inr (subst (λ x. RowHits s f marks start first x action (low + k) j) (sym is) (subst (λ x. RowHits s f marks start first (get_or words n 0) x (low + k) j) (sym act) (subst (λ r. RowHits s f marks start first (get_or words r 0) (action_at g r) (low + k) j) e h.hits))))
    ])
    (λ k j h. let lt = h.below in record { row = h.row; below = omega arith; hits = h.hits })
    (λ k j h. record { row = n; below = omega arith; hits = subst (λ x. RowHits s f marks start first x (action_at g n) (low + k) j) is (subst (λ x. RowHits s f marks start first word x (low + k) j) act h) })
    p q

pub use_meets : (s : Sites) (f : ℕ) (marks : List Mark) (start first word u bits : ℕ) (used : UseSite) → 1 ≤ u → slice_get s.lists.uses.items (u - 1) ≡ Some used → used.function ≡ f → ((j : ℕ) → (bit_at bits j ≡ 1) ↔ MeetsOne marks start first word used j) → (j : ℕ) → (bit_at bits j ≡ 1) ↔ UseMeets s f marks start first word u j
use_meets s f marks start first word u bits used le at fun meets j = (
  (λ h. record { used = used; is_use = (le, at); function = fun; meets = (meets j).0 h }),
  (λ h. (meets j).1 (subst (λ x. MeetsOne marks start first word x j) (some_is h.used used (sym h.is_use.1 ∙ at)) h.meets)),
)
