-- Which of 64 marks have a name or a variable.
use Rattle.std.proofs.Common.{ℕ, ◌+◌, ◌-◌, ◌<◌, ◌≤◌, ◌≡◌, ◌⊎◌, ◌↔◌, inl, inr, List, length, get_or, set, Option, Some, true, refl, ap, sym, subst, ◌∙◌, arith, ◌*◌, ◌%◌, ◌^◌, w64, bit_or, bit_and, get_or-set_same, get_or-set_other}
use Rattle.std.specs.Prelude.{slice_get, Contains}
use Rattle.std.specs.Int.{bit_at, bit_not}
use Rattle.std.proofs.lemmas.Bool.{cases_lt}
use Rattle.std.proofs.lemmas.Nat.Bits.{bit_at-zero, bit_at_and, bit_at-lt, bit_at_above, bit_at_clear_same, bit_at_clear_other}
use Rattle.std.proofs.lemmas.Option.{slice_get_within, get_or_from_slice_get, slice_get-get_or}
use Rattle.flow_marks.specs.Words.{HasBit}
use Rattle.flow_marks.proofs.Passing.{or_left, or_right, or_only, same_or_not}
use Rattle.flow_walks.specs.declared.action.Action.TheVariants.{Define}
use Rattle.c_sites.specs.declared.lists.DefSite.{DefSite}
use Rattle.c_sites.specs.declared.numbered.Sites.{Sites}
use Rattle.pair_list.specs.Sites.{IsDef}
use Rattle.pair_list.specs.Marks.{EndsMark}
use Rattle.pair_list.specs.declared.marks.Mark.{Mark}
use Rattle.pair_list.specs.declared.tables.By.{By}
use Rattle.pair_list.specs.Masks.{MarkAt, IsMask}
use Rattle.pair_list.specs.Hits.{AddsBits}
use Rattle.pair_list.specs.Tables.{key_of, Covers, IsTable, IsEmpty, IsLeft}
use Rattle.pair_list.proofs.Making.{some_is}
use Rattle.pair_list.proofs.Masking.{mask_none, mask_same}
use Rattle.pair_list.proofs.Meeting.{adds_same, adds_none}

no_bit : {A : Type 0} → (word i : ℕ) → word ≡ 0 → bit_at word i ≡ 1 → A
no_bit word i e h = absurd (let z : bit_at word i ≡ 0 = ap (λ w. bit_at w i) e ∙ bit_at-zero i in omega arith)

pub or_bits : (a b i : ℕ) → (bit_at (bit_or a b) i ≡ 1) ↔ ((bit_at a i ≡ 1) ⊎ (bit_at b i ≡ 1))
or_bits a b i = ((λ h. or_only a b i h), (λ h. elim h [ inl x ↦ or_left a b i x | inr x ↦ or_right a b i x ]))

pub and_bits : (a b i : ℕ) → (bit_at (bit_and a b) i ≡ 1) ↔ ((bit_at a i ≡ 1) × (bit_at b i ≡ 1))
and_bits a b i = (
  (λ h. let e = bit_at_and a b i in let l = bit_at-lt a i in let r = bit_at-lt b i in (omega arith, omega arith)),
  (λ h. let e = bit_at_and a b i in let l = h.0 in let r = h.1 in omega arith),
)

pub one_bits : (i bit : ℕ) → ((j : ℕ) → (bit_at bit j ≡ 1) ↔ ((bit_at 0 j ≡ 1) ⊎ ((j ≡ i) × (true ≡ true)))) → (j : ℕ) → (bit_at bit j ≡ 1) ↔ (j ≡ i)
one_bits i bit put j = ((λ h. elim ((put j).0 h) [ inl z ↦ no_bit 0 j refl z | inr x ↦ x.0 ]), (λ e. (put j).1 (inr (e, refl))))

-- masks of two words together, and of what both have
pub mask_or : (marks : List Mark) (start : ℕ) (P Q R : Mark → Type 0) (a b c : ℕ) → IsMask marks start P a → IsMask marks start Q b → ((i : ℕ) → (bit_at c i ≡ 1) ↔ ((bit_at a i ≡ 1) ⊎ (bit_at b i ≡ 1))) → ((m : Mark) → R m ↔ (P m ⊎ Q m)) → IsMask marks start R c
mask_or marks start P Q R a b c p q bits same i = (
  (λ e. elim ((bits i).0 e) [
    | inl x ↦ (let h = (p i).0 x in (h.0, (h.1.0, h.1.1, (same h.1.0).1 (inl h.1.2))))
    | inr x ↦ (let h = (q i).0 x in (h.0, (h.1.0, h.1.1, (same h.1.0).1 (inr h.1.2))))
  ]),
  (λ h. elim ((same h.1.0).0 h.1.2) [
    | inl x ↦ (bits i).1 (inl ((p i).1 (h.0, (h.1.0, h.1.1, x))))
    | inr x ↦ (bits i).1 (inr ((q i).1 (h.0, (h.1.0, h.1.1, x))))
  ]),
)

pub mask_and : (marks : List Mark) (start : ℕ) (P Q R : Mark → Type 0) (a b c : ℕ) → IsMask marks start P a → IsMask marks start Q b → ((i : ℕ) → (bit_at c i ≡ 1) ↔ ((bit_at a i ≡ 1) × (bit_at b i ≡ 1))) → ((m : Mark) → R m ↔ (P m × Q m)) → IsMask marks start R c
mask_and marks start P Q R a b c p q bits same i = (
  (λ e.
      let t = (bits i).0 e in
      let x = (p i).0 t.0 in
      let y = (q i).0 t.1 in
      (x.0, (x.1.0, x.1.1, (same x.1.0).1 (x.1.2, subst Q (some_is y.1.0 x.1.0 (sym y.1.1 ∙ x.1.1)) y.1.2)))),
  (λ h. let s = (same h.1.0).0 h.1.2 in (bits i).1 ((p i).1 (h.0, (h.1.0, h.1.1, s.0)), (q i).1 (h.0, (h.1.0, h.1.1, s.1)))),
)

-- the word of a key
module _ (by : By) (marks : List Mark) (start low : ℕ) (words : List ℕ) (t : IsTable by marks start low 64 words) (key : ℕ) where
  pub word_below : key < low → IsMask marks start (λ m. key ≡ key_of by m) 0
  word_below lt i = (
    (λ e. no_bit 0 i refl e),
    (λ h. absurd (let c = (t.covers (start + i) h.1.0 h.1.1).0 in let e = h.1.2 in omega arith)),
  )

  pub word_past : low ≤ key → length words ≤ key - low → IsMask marks start (λ m. key ≡ key_of by m) 0
  word_past le past i = (
    (λ e. no_bit 0 i refl e),
    (λ h. absurd (let c = (t.covers (start + i) h.1.0 h.1.1).1 in let e = h.1.2 in omega arith)),
  )

  pub word_here : (word : ℕ) → low ≤ key → word ≡ get_or words (key - low) 0 → IsMask marks start (λ m. key ≡ key_of by m) word
  word_here word le is i = (
    (λ e. let h = (t.bits (key - low) i).0 (subst (λ w. bit_at w i ≡ 1) is e) in (h.0, (h.1.0, h.1.1, (let x = h.1.2 in omega arith)))),
    (λ h. subst (λ w. bit_at w i ≡ 1) (sym is) ((t.bits (key - low) i).1 (h.0, (h.1.0, h.1.1, (let x = h.1.2 in omega arith))))),
  )

-- the marks of names
abbrev pub NamedBelow : List ℕ → ℕ → Mark → Type 0
NamedBelow names n m = (q : ℕ) × (q < n) × (slice_get names q ≡ Some m.name)

pub names_start : (marks : List Mark) (start : ℕ) (names : List ℕ) → IsMask marks start (NamedBelow names 0) 0
names_start marks start names i = ((λ e. no_bit 0 i refl e), (λ h. absurd (let l = h.1.2.1 in omega arith)))

pub names_more : (marks : List Mark) (start : ℕ) (names : List ℕ) (n name old more new : ℕ) → slice_get names n ≡ Some name → IsMask marks start (NamedBelow names n) old → IsMask marks start (λ m. name ≡ m.name) more → ((i : ℕ) → (bit_at new i ≡ 1) ↔ ((bit_at old i ≡ 1) ⊎ (bit_at more i ≡ 1))) → IsMask marks start (NamedBelow names (n + 1)) new
names_more marks start names n name old more new at was here bits = mask_or marks start (NamedBelow names n) (λ m. name ≡ m.name) (NamedBelow names (n + 1)) old more new was here bits
    (λ m. (
      (λ h. elim (cases_lt h.0 n) [
        | inl less ↦ inl (h.0, less, h.2)
        | inr ge ↦ (let lt = h.1 in let e : h.0 ≡ n = omega arith in inr (some_is name m.name (sym at ∙ subst (λ q. slice_get names q ≡ Some m.name) e h.2)))
      ]),
      (λ h. elim h [
        | inl x ↦ (let lt = x.1 in (x.0, omega arith, x.2))
        | inr x ↦ (n, omega arith, at ∙ ap Some x)
      ]),
    ))

pub names_all : (marks : List Mark) (start : ℕ) (names : List ℕ) (n word : ℕ) → length names ≤ n → IsMask marks start (NamedBelow names n) word → IsMask marks start (λ m. Contains names m.name) word
names_all marks start names n word le is i = (
  (λ e. let h = (is i).0 e in (h.0, (h.1.0, h.1.1, contained h.1.0 h.1.2))),
  (λ h. (is i).1 (h.0, (h.1.0, h.1.1, named h.1.0 h.1.2))),
)
  where
    contained : (m : Mark) → NamedBelow names n m → Contains names m.name
    contained m h = (h.0, slice_get_within names h.0 m.name h.2, get_or_from_slice_get names h.0 m.name m.name h.2)

    named : (m : Mark) → Contains names m.name → NamedBelow names n m
    named m h = let lt = h.1 in (h.0, omega arith, slice_get-get_or names h.0 m.name h.1 ∙ ap Some h.2)

-- the bits of marks, put in one after another
pub fill_start : (by : By) (marks : List Mark) (start low : ℕ) (words : List ℕ) → IsEmpty by marks low words → IsTable by marks start low 0 words
fill_start by marks start low words e = record { covers = e.covers; bits = λ k i. ((λ h. absurd (e.none k i h)), (λ h. absurd (let l = h.0 in omega arith))) }

pub fill_more : (by : By) (marks : List Mark) (start low n at : ℕ) (old new : List ℕ) → at ≡ start + n → IsTable by marks start low n old → AddsBits (λ k j. (j ≡ n) × MarkAt marks at (λ m. key_of by m ≡ low + k)) old new → IsTable by marks start low (n + 1) new
fill_more by marks start low n at old new e t a = record {
  covers = subst (Covers by marks low) (sym a.size) t.covers;
  bits = λ k i. (
    (λ h. elim (a.only k i h) [
      | inl was ↦ (let p = (t.bits k i).0 was in let l = p.0 in (omega arith, p.1))
      | inr x ↦ (let same = x.0 in (omega arith, subst (λ q. MarkAt marks q (λ m. key_of by m ≡ low + k)) (omega arith) x.1))
    ]),
    (λ h. elim (cases_lt i n) [
      | inl less ↦ a.kept k i ((t.bits k i).1 (less, h.1))
      | inr ge ↦ (
          let lt = h.0 in
          let c = (t.covers (start + i) h.1.0 h.1.1).1 in
          let x = h.1.2 in
          let same : i ≡ n = omega arith in
          a.here k i (omega arith) (same, subst (λ q. MarkAt marks q (λ m. key_of by m ≡ low + k)) (omega arith) h.1))
    ]),
  );
}

pub enter_adds : (by : By) (marks : List Mark) (low at i k bit : ℕ) (m : Mark) (old new : List ℕ) → slice_get marks at ≡ Some m → low ≤ key_of by m → k ≡ key_of by m - low → ((j : ℕ) → (bit_at bit j ≡ 1) ↔ (j ≡ i)) → AddsBits (λ q j. (q ≡ k) × (bit_at bit j ≡ 1)) old new → AddsBits (λ q j. (j ≡ i) × MarkAt marks at (λ m. key_of by m ≡ low + q)) old new
enter_adds by marks low at i k bit m old new here le is bits a = adds_same (λ q j. (q ≡ k) × (bit_at bit j ≡ 1)) (λ q j. (j ≡ i) × MarkAt marks at (λ m. key_of by m ≡ low + q)) old new
    (λ q j. (
      (λ h. ((bits j).0 h.1, (m, here, (let e = h.0 in omega arith)))),
      (λ h. ((let e : key_of by m ≡ low + q = subst (λ x. key_of by x ≡ low + q) (some_is h.1.0 m (sym h.1.1 ∙ here)) h.1.2 in omega arith), (bits j).1 h.0)),
    ))
    a

pub enter_none : (by : By) (marks : List Mark) (low at i : ℕ) (old : List ℕ) → length marks ≤ at → AddsBits (λ q j. (j ≡ i) × MarkAt marks at (λ m. key_of by m ≡ low + q)) old old
enter_none by marks low at i old past = adds_none (λ q j. (j ≡ i) × MarkAt marks at (λ m. key_of by m ≡ low + q)) old (λ q j lt h. let w = slice_get_within marks at h.1.0 h.1.1 in omega arith)

-- and taken out
module _ (k : ℕ) (old : List ℕ) (lt : k < length old) where
  blank_at : (q i : ℕ) → q ≡ k → HasBit (set old k 0) q i → ⊥
  blank_at q i e h = no_bit (get_or (set old k 0) q 0) i (ap (λ q. get_or (set old k 0) q 0) e ∙ get_or-set_same old k 0 0 lt) h

  pub blank_kept : (q i : ℕ) → HasBit (set old k 0) q i → HasBit old q i
  blank_kept q i h = elim (same_or_not q k) [
    | inl e ↦ absurd (blank_at q i e h)
    | inr ne ↦ subst (λ w. bit_at w i ≡ 1) (get_or-set_other old k q 0 0 ne) h
  ]

  pub blank_gone : (by : By) (marks : List Mark) (low at : ℕ) (m : Mark) → slice_get marks at ≡ Some m → k ≡ key_of by m - low → (q i : ℕ) → HasBit (set old k 0) q i → MarkAt marks at (λ m. key_of by m ≡ low + q) → ⊥
  blank_gone by marks low at m here is q i h g = blank_at q i (let e : key_of by m ≡ low + q = subst (λ x. key_of by x ≡ low + q) (some_is g.0 m (sym g.1 ∙ here)) g.2 in omega arith) h

pub clear_start : (by : By) (marks : List Mark) (start low : ℕ) (words : List ℕ) → IsTable by marks start low 64 words → IsLeft by marks start low 0 words
clear_start by marks start low words t = record { covers = t.covers; only = λ k i h. let p = (t.bits k i).0 h in (omega arith, p.0, p.1) }

pub clear_more : (by : By) (marks : List Mark) (start low n at : ℕ) (old new : List ℕ) → at ≡ start + n → length new ≡ length old → IsLeft by marks start low n old → ((k i : ℕ) → HasBit new k i → HasBit old k i) → ((k i : ℕ) → HasBit new k i → MarkAt marks at (λ m. key_of by m ≡ low + k) → ⊥) → IsLeft by marks start low (n + 1) new
clear_more by marks start low n at old new e size l kept gone = record {
  covers = subst (Covers by marks low) (sym size) l.covers;
  only = λ k i h.
      let o = l.only k i (kept k i h) in
      elim (cases_lt n i) [
        | inl less ↦ (omega arith, o.1, o.2)
        | inr le ↦ absurd (gone k i h (subst (λ q. MarkAt marks q (λ m. key_of by m ≡ low + k)) (let ge = o.0 in omega arith) o.2))
      ];
}

pub clear_end : (by : By) (marks : List Mark) (start low n : ℕ) (words : List ℕ) → 64 ≤ n → IsLeft by marks start low n words → IsEmpty by marks low words
clear_end by marks start low n words le l = record { covers = l.covers; none = λ k i h. let o = l.only k i h in let a = o.0 in let b = o.1 in omega arith }

-- what a definition ends: marks of its variable that name one cell, by its names
module _ (marks : List Mark) (start : ℕ) (variable : Option ℕ) (names : List ℕ) (v strong of both : ℕ) (e : variable ≡ Some v) (is_strong : IsMask marks start (λ m. m.strong ≡ true) strong) (is_of : IsMask marks start (λ m. v ≡ m.variable) of) (bits : (i : ℕ) → (bit_at both i ≡ 1) ↔ ((bit_at strong i ≡ 1) × (bit_at of i ≡ 1))) where
  both_mask : IsMask marks start (λ m. (m.strong ≡ true) × (v ≡ m.variable)) both
  both_mask = mask_and marks start (λ m. m.strong ≡ true) (λ m. v ≡ m.variable) (λ m. (m.strong ≡ true) × (v ≡ m.variable)) strong of both is_strong is_of bits (λ m. ((λ h. h), (λ h. h)))

  pub ended_none : both ≡ 0 → IsMask marks start (λ m. (variable ≡ Some m.variable) × Contains names m.name × (m.strong ≡ true)) 0
  ended_none z i = (
    (λ b. no_bit 0 i refl b),
    (λ h. no_bit both i z ((both_mask i).1 (h.0, (h.1.0, h.1.1, (h.1.2.2, some_is v h.1.0.variable (sym e ∙ h.1.2.0)))))),
  )

  pub ended_mask : (named word : ℕ) → IsMask marks start (λ m. Contains names m.name) named → ((i : ℕ) → (bit_at word i ≡ 1) ↔ ((bit_at named i ≡ 1) × (bit_at both i ≡ 1))) → IsMask marks start (λ m. (variable ≡ Some m.variable) × Contains names m.name × (m.strong ≡ true)) word
  ended_mask named word is_named out = mask_and marks start (λ m. Contains names m.name) (λ m. (m.strong ≡ true) × (v ≡ m.variable)) (λ m. (variable ≡ Some m.variable) × Contains names m.name × (m.strong ≡ true)) named both word is_named both_mask out
      (λ m. ((λ h. (h.1, (h.2, some_is v m.variable (sym e ∙ h.0)))), (λ h. (e ∙ ap Some h.1.1, h.0, h.1.0))))

-- those marks of a word that a use meets
module _ (marks : List Mark) (start came : ℕ) (variable : Option ℕ) (names : List ℕ) (v of both : ℕ) (e : variable ≡ Some v) (is_of : IsMask marks start (λ m. v ≡ m.variable) of) (bits : (i : ℕ) → (bit_at both i ≡ 1) ↔ ((bit_at came i ≡ 1) × (bit_at of i ≡ 1))) where
  in_both : (i : ℕ) (m : Mark) → i < 64 → slice_get marks (start + i) ≡ Some m → bit_at came i ≡ 1 → variable ≡ Some m.variable → bit_at both i ≡ 1
  in_both i m lt at c same = (bits i).1 (c, (is_of i).1 (lt, (m, at, some_is v m.variable (sym e ∙ same))))

  pub met_none : both ≡ 0 → (i : ℕ) → (bit_at 0 i ≡ 1) ↔ ((i < 64) × (bit_at came i ≡ 1) × MarkAt marks (start + i) (λ m. (variable ≡ Some m.variable) × Contains names m.name))
  met_none z i = ((λ b. no_bit 0 i refl b), (λ h. no_bit both i z (in_both i h.2.0 h.0 h.2.1 h.1 h.2.2.0)))

  pub met_mask : (named word : ℕ) → IsMask marks start (λ m. Contains names m.name) named → ((i : ℕ) → (bit_at word i ≡ 1) ↔ ((bit_at named i ≡ 1) × (bit_at both i ≡ 1))) → (i : ℕ) → (bit_at word i ≡ 1) ↔ ((i < 64) × (bit_at came i ≡ 1) × MarkAt marks (start + i) (λ m. (variable ≡ Some m.variable) × Contains names m.name))
  met_mask named word is_named out i = (
    (λ h.
        let t = (out i).0 h in
        let n = (is_named i).0 t.0 in
        let b = (bits i).0 t.1 in
        let f = (is_of i).0 b.1 in
        (n.0, b.0, (n.1.0, n.1.1, (e ∙ ap Some (subst (λ m. v ≡ m.variable) (some_is f.1.0 n.1.0 (sym f.1.1 ∙ n.1.1)) f.1.2), n.1.2)))),
    (λ h. (out i).1 ((is_named i).1 (h.0, (h.2.0, h.2.1, h.2.2.1)), in_both i h.2.0 h.0 h.2.1 h.1 h.2.2.0)),
  )

-- what the definition of a number ends
pub define_out : (s : Sites) (marks : List Mark) (start d : ℕ) → (d ≡ 0) ⊎ (length s.lists.defs.items < d) → IsMask marks start (λ m. EndsMark s m (Define d)) 0
define_out s marks start d out = mask_none marks start (λ m. EndsMark s m (Define d)) (λ m h. none h.0 h.1 out)
  where
    none : (def : DefSite) → IsDef s d def → (d ≡ 0) ⊎ (length s.lists.defs.items < d) → ⊥
    none def is (inl z) = let le = is.0 in omega arith
    none def is (inr past) = let le = is.0 in let lt = slice_get_within s.lists.defs.items (d - 1) def is.1 in omega arith

pub define_in : (s : Sites) (marks : List Mark) (start d word : ℕ) (def : DefSite) → 1 ≤ d → slice_get s.lists.defs.items (d - 1) ≡ Some def → IsMask marks start (λ m. (def.variable ≡ Some m.variable) × Contains def.names m.name × (m.strong ≡ true)) word → IsMask marks start (λ m. EndsMark s m (Define d)) word
define_in s marks start d word def le at is = mask_same marks start (λ m. (def.variable ≡ Some m.variable) × Contains def.names m.name × (m.strong ≡ true)) (λ m. EndsMark s m (Define d)) word
    (λ m. (
      (λ h. (def, (le, at), h.0, h.1, h.2)),
      (λ h. subst (λ q. (q.variable ≡ Some m.variable) × Contains q.names m.name × (m.strong ≡ true)) (some_is h.0 def (sym h.1.1 ∙ at)) (h.2, h.3, h.4)),
    ))
    is

-- a word without a bit that it has
pub cleared : (word i : ℕ) → i < 64 → word < 2 ^ 64 → (j : ℕ) → (bit_at (bit_and word (bit_not w64 (1 * 2 ^ i % 2 ^ 64))) j ≡ 1) ↔ ((bit_at word j ≡ 1) × (j ≡ i → ⊥))
cleared word i lt fits j = (
  (λ h. ((let m = bit_at_and word (bit_not w64 (1 * 2 ^ i % 2 ^ 64)) j in let l = bit_at-lt word j in omega arith), (λ e. let z : bit_at (bit_and word (bit_not w64 (1 * 2 ^ i % 2 ^ 64))) j ≡ 0 = subst (λ k. bit_at (bit_and word (bit_not w64 (1 * 2 ^ i % 2 ^ 64))) k ≡ 0) (sym e) (bit_at_clear_same w64 word i lt) in omega arith))),
  (λ h. elim (cases_lt j 64) [
    | inl less ↦ bit_at_clear_other w64 word i lt j less h.1 ∙ h.0
    | inr ge ↦ absurd (let z = bit_at_above word 64 j fits ge in let o = h.0 in omega arith)
  ]),
)

pub cleared_less : (word i out : ℕ) → i < 64 → out ≡ bit_and word (bit_not w64 (1 * 2 ^ i % 2 ^ 64)) → out ≤ word → bit_at word i ≡ 1 → out < word
cleared_less word i out lt is le has = elim (cases_lt out word) [
  | inl less ↦ less
  | inr ge ↦ absurd (
      let same : out ≡ word = omega arith in
      let z : bit_at out i ≡ 0 = ap (λ w. bit_at w i) is ∙ bit_at_clear_same w64 word i lt in
      let o : bit_at out i ≡ 1 = ap (λ w. bit_at w i) same ∙ has in
      omega arith)
]
