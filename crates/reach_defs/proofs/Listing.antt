-- Lists of different marks.
use Rattle.std.proofs.Common.{ℕ, ◌+◌, ◌<◌, ◌≤◌, ◌≡◌, inl, inr, List, [], length, get_or, false, subst, sym, arith, refl, ap, ◌∙◌}
use Rattle.std.specs.Prelude.{Contains, slice_get}
use Rattle.std.specs.List.{IsDistinct, list_any}
use Rattle.std.proofs.Math.Dec.{eqb}
use Rattle.std.proofs.lemmas.Bool.{cases_lt, false_from_ne_true}
use Rattle.std.proofs.lemmas.Bool.Decides.{Decides-eqb}
use Rattle.std.specs.Cmp.{nat_eq_equiv}
use Rattle.std.proofs.lemmas.List.Elements.{Contains-get_or}
use Rattle.std.proofs.lemmas.List.{get_or_default}
use Rattle.std.proofs.lemmas.Option.{slice_get_past, slice_get_read}
use Rattle.std.proofs.lemmas.Map.Made.{length-le_from_is_member, is_member-Decides}
use Rattle.std.proofs.lemmas.Map.Keys.{IsDistinct-push}
use Rattle.reach_defs.specs.declared.rows.ReachRow.{ReachRow}
use Rattle.reach_defs.specs.Paths.{Gives, IsListed, gives_of}
use Rattle.reach_defs.specs.Listing.{AddsMarks}
use Rattle.reach_defs.specs.Work.{Puts}
use Rattle.reach_defs.proofs.Putting.{put_here, put_kept, put_only}

not_any : (marks : List ℕ) (mark : ℕ) → (Contains marks mark → ⊥) → list_any (eqb mark) marks ≡ false
not_any marks mark none = false_from_ne_true _ (λ is. none ((is_member-Decides Decides-eqb marks mark).0 is))

-- nothing has been looked at
pub add_none : (old more : List ℕ) → AddsMarks old more old 0
add_none old more = record { distinct = λ d. d; kept = λ mark c. c; added = λ j lt. absurd (omega arith); only = λ mark c. inl c }

-- one more mark is put
module _ (old more now put : List ℕ) (n : ℕ) (adds : AddsMarks old more now n) (lt : n < length more) (puts : Puts now (get_or more n 0) put) where
  still_distinct : Puts now (get_or more n 0) put → IsDistinct eqb old → IsDistinct eqb put
  still_distinct (inl was) d = subst (IsDistinct eqb) (sym was.1) (adds.distinct d)
  still_distinct (inr new) d = subst (IsDistinct eqb) (sym new.1) (IsDistinct-push nat_eq_equiv now (get_or more n 0) (adds.distinct d) (not_any now (get_or more n 0) new.0))

  pub add_more : AddsMarks old more put (n + 1)
  add_more = record {
    distinct = still_distinct puts;
    kept = λ mark c. put_kept now put (get_or more n 0) puts mark (adds.kept mark c);
    added = λ j below. elim (cases_lt j n) [
      | inl less ↦ put_kept now put (get_or more n 0) puts (get_or more j 0) (adds.added j less)
      | inr ge ↦ (let e : n ≡ j = omega arith in subst (λ j. Contains put (get_or more j 0)) e (put_here now put (get_or more n 0) puts))
    ];
    only = λ mark c. elim (put_only now put (get_or more n 0) puts mark c) [
      | inl was ↦ adds.only mark was
      | inr is ↦ inr (subst (Contains more) is (Contains-get_or more n 0 lt))
    ];
  }

-- the marks that the first n rows give, each once
pub record Lists (rows : List ReachRow) (marks : List ℕ) (n : ℕ) : Type 0 where
  pub distinct : IsDistinct eqb marks
  pub listed : (row mark : ℕ) → row < n → Gives rows row mark → Contains marks mark
  pub given : (mark : ℕ) → Contains marks mark → (row : ℕ) × Gives rows row mark

pub lists_none : (rows : List ReachRow) → Lists rows [] 0
unfolding IsDistinct
lists_none rows = record { distinct = tt; listed = λ row mark lt. absurd (omega arith); given = λ mark c. absurd (let lt = c.1 in omega arith) }

pub gives_at : (rows : List ReachRow) (i : ℕ) (row : ReachRow) → i < length rows → row ≡ get_or rows i row → gives_of (slice_get rows i) ≡ row.gives
gives_at rows i row lt is = ap gives_of (slice_get_read rows (length rows) i row refl lt is)

pub lists_more : (rows : List ReachRow) (old new more : List ℕ) (n : ℕ) → gives_of (slice_get rows n) ≡ more → Lists rows old n → AddsMarks old more new (length more) → Lists rows new (n + 1)
lists_more rows old new more n is l a = record {
  distinct = a.distinct l.distinct;
  listed = λ row mark lt g. elim (cases_lt row n) [
    | inl less ↦ a.kept mark (l.listed row mark less g)
    | inr ge ↦ (let e : row ≡ n = omega arith in
        let c : Contains more mark = subst (λ m. Contains m mark) is (subst (λ r. Gives rows r mark) e g) in
        subst (Contains new) (sym (get_or_default more c.0 mark 0 c.1) ∙ c.2) (a.added c.0 c.1))
  ];
  given = λ mark c. elim (a.only mark c) [
    | inl was ↦ l.given mark was
    | inr m ↦ (n, subst (λ x. Contains x mark) (sym is) m)
  ];
}

pub all_listed : (rows : List ReachRow) (marks : List ℕ) (n : ℕ) → length rows ≤ n → Lists rows marks n → IsListed rows marks
all_listed rows marks n all l row mark g = elim (cases_lt row n) [
  | inl lt ↦ l.listed row mark lt g
  | inr ge ↦ absurd (let e = ap (λ r. length (gives_of r)) (slice_get_past rows row (omega arith)) in let lt = g.1 in omega arith)
]

pub fewest : (rows : List ReachRow) (marks : List ℕ) (n : ℕ) → Lists rows marks n → (others : List ℕ) → IsListed rows others → length marks ≤ length others
fewest rows marks n l others listed = length-le_from_is_member nat_eq_equiv marks others l.distinct (λ q is.
    let given = l.given q ((is_member-Decides Decides-eqb marks q).0 is) in
    (is_member-Decides Decides-eqb others q).1 (listed given.0 q given.1))
