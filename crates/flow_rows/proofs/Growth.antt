-- A graph grows where a row is put behind it, or where a row is set of which nothing was known.
use Rattle.std.proofs.Common.{ℕ, zero, suc, ◌+◌, ◌<◌, List, [], ◌∷◌, ◌++◌, ◌≡◌, ◌≢◌, ◌⊎◌, inl, inr, Option, Some, None, refl, subst, sym, ap, ◌∙◌, arith, length, get_or}
use Rattle.std.proofs.Math.ListN.{set}
use Rattle.std.specs.Prelude.{slice_get, Contains}
use Rattle.std.proofs.lemmas.Option.{slice_get_within, get_or_from_slice_get, slice_get-get_or}
use Rattle.std.proofs.lemmas.List.{length-append, get_or-set_same, get_or-set_other, length-set}
use Rattle.flow_walks.specs.declared.action.Action.{Action}
use Rattle.flow_walks.specs.declared.action.Action.TheVariants.{Define, Use, Block, Test, Kill, Nothing}
use Rattle.flow_walks.specs.Comes.{Met, leave, either}
use Rattle.flow_rows.specs.Paths.{Row, Graph, HasRow, tells}
use Rattle.flow_rows.specs.Laying.{hole, Keeps, IsWithin, LeavesAt, Grown, LaidAt}
use Rattle.flow_rows.specs.View.{met_of}
use Rattle.flow_rows.specs.declared.row.Step.TheVariants.{Act, Enter}
use Rattle.flow_rows.proofs.Laws.{row_lays, fork_lays}

-- ---- what is no hole, and what is no leaving

abbrev a_row : Option Met → List ℕ → Row
a_row a ts = record { met = a; next = ts }

abbrev nexts : Row → ℕ
nexts row = length row.next

pub filled : (a : Option Met) (t : ℕ) (ts : List ℕ) → record { met = a; next = t ∷ ts } ≡ hole → ⊥
filled a t ts e = let h = ap nexts e in absurd (omega arith)

abbrev left : Option Met → ℕ
left (Some leave) = 1
left a = 0

pub act_stays : (a : Action) → met_of (Act a) ≡ Some leave → ⊥
act_stays (Define d) e = let h = ap left e in absurd (omega arith)
act_stays (Use d) e = let h = ap left e in absurd (omega arith)
act_stays (Block d) e = let h = ap left e in absurd (omega arith)
act_stays (Test d o) e = let h = ap left e in absurd (omega arith)
act_stays (Kill d) e = let h = ap left e in absurd (omega arith)
act_stays Nothing e = let h = ap left e in absurd (omega arith)

pub enter_stays : (f : ℕ) → met_of (Enter f) ≡ Some leave → ⊥
enter_stays f e = let h = ap left e in absurd (omega arith)

abbrev met_in : Option Row → Option Met
met_in None = None
met_in (Some row) = row.met

-- ---- the next rows

pub none_below : (n t : ℕ) → Contains [] t → t < n
none_below n t c = absurd (let h = c.1 in omega arith)

same_one : (x t j : ℕ) → j < 1 → get_or (x ∷ []) j t ≡ t → x ≡ t
same_one x t zero lt e = e
same_one x t (suc j) lt e = absurd (omega arith)

pub one_below : (n x t : ℕ) → x < n → Contains (x ∷ []) t → t < n
one_below n x t lt c = let e = same_one x t c.0 c.1 c.2 in omega arith

same_two : (x y t j : ℕ) → j < 2 → get_or (x ∷ y ∷ []) j t ≡ t → (x ≡ t) ⊎ (y ≡ t)
same_two x y t zero lt e = inl e
same_two x y t (suc zero) lt e = inr e
same_two x y t (suc (suc j)) lt e = absurd (omega arith)

pub two_below : (n x y t : ℕ) → x < n → y < n → Contains (x ∷ y ∷ []) t → t < n
two_below n x y t lt lt' c = elim (same_two x y t c.0 c.1 c.2) [ inl e ↦ omega arith | inr e ↦ omega arith ]

-- ---- a row more

at : (g : Graph) (i : ℕ) (row : Row) → i < length g → get_or g i row ≡ row → slice_get g i ≡ Some row
at g i row lt e = slice_get-get_or g i row lt ∙ ap Some e

pub append_has : (g : Graph) (row : Row) → slice_get (g ++ row ∷ []) (length g) ≡ Some row
append_has [] row = refl
append_has (x ∷ g) row = append_has g row

append_keeps : (g : Graph) (row : Row) (i : ℕ) (r : Row) → slice_get g i ≡ Some r → slice_get (g ++ row ∷ []) i ≡ Some r
append_keeps [] row i r e = absurd (cc)
append_keeps (x ∷ g) row zero r e = e
append_keeps (x ∷ g) row (suc i) r e = append_keeps g row i r e

-- a row behind it is one of it, or that one
append_splits : (g : Graph) (row : Row) (i : ℕ) (r : Row) → slice_get (g ++ row ∷ []) i ≡ Some r → (slice_get g i ≡ Some r) ⊎ (Some row ≡ Some r)
append_splits [] row zero r e = inr e
append_splits [] row (suc i) r e = absurd (cc)
append_splits (x ∷ g) row zero r e = inl e
append_splits (x ∷ g) row (suc i) r e = append_splits g row i r e

abbrev next_in : Option Row → List ℕ
next_in None = []
next_in (Some row) = row.next

module _ (g h : Graph) (a : Option Met) (ts : List ℕ) (e : h ≡ g ++ record { met = a; next = ts } ∷ []) where
  pub pushed_keeps : Keeps g h
  pushed_keeps i row f p = subst (λ l. slice_get l i ≡ Some row) (sym e) (append_keeps g _ i row p)

  pushed_length : length h ≡ length g + 1
  pushed_length = ap length e ∙ length-append g (record { met = a; next = ts } ∷ [])

  pub pushed_within : ((t : ℕ) → Contains ts t → t < length g) → IsWithin g → IsWithin h
  pushed_within below old i t row p c =
      let n = pushed_length in
      elim (append_splits g _ i row (subst (λ l. slice_get l i ≡ Some row) e p)) [
        | inl q ↦ (let lt = old i t row q c in omega arith)
        | inr q ↦ (let lt = below t (subst (λ l. Contains l t) (sym (ap next_in q)) c) in omega arith)
      ]

  pushed_leaves : (a ≡ Some leave → ⊥) → LeavesAt g h
  pushed_leaves stays i us p = elim (append_splits g (a_row a ts) i (a_row (Some leave) us) (subst (λ l. HasRow l i (Some leave) us) e p)) [
    | inl q ↦ q
    | inr q ↦ absurd (stays (ap met_in q))
  ]

  pub pushed_grown : ((t : ℕ) → Contains ts t → t < length g) → (a ≡ Some leave → ⊥) → Grown g h
  pushed_grown below stays = record { keeps = pushed_keeps; within = pushed_within below; leaves = pushed_leaves stays }

pub pushed_laid : (g h : Graph) (a : Option Met) (x r : ℕ) → h ≡ g ++ record { met = a; next = x ∷ [] } ∷ [] → r ≡ length g → LaidAt h r (λ k. tells a (k x))
pushed_laid g h a x r e f j k =
    let row : Row = record { met = a; next = x ∷ [] } in
    let here : slice_get h r ≡ Some row = subst (λ i. slice_get h i ≡ Some row) (sym f) (subst (λ l. slice_get l (length g) ≡ Some row) (sym e) (append_has g row)) in
    row_lays j r x a (k r row (filled a x []) here)

-- ---- a row that is set

other : (g : Graph) (r i : ℕ) (row x : Row) → i ≢ r → slice_get g i ≡ Some x → slice_get (set g r row) i ≡ Some x
other g r i row x ne e = at (set g r row) i x (let lt = slice_get_within g i x e in omega (arith, length-set g r row)) (get_or-set_other g r i row x ne ∙ get_or_from_slice_get g i x x e)

here : (g : Graph) (r : ℕ) (row : Row) → r < length g → slice_get (set g r row) r ≡ Some row
here g r row lt = at (set g r row) r row (omega (arith, length-set g r row)) (get_or-set_same g r row row lt)

set_splits : (g : Graph) (r i : ℕ) (row x : Row) → slice_get (set g r row) i ≡ Some x → (slice_get g i ≡ Some x) ⊎ (Some row ≡ Some x)
set_splits [] r i row x e = inl e
set_splits (y ∷ g) zero zero row x e = inr e
set_splits (y ∷ g) zero (suc i) row x e = inl e
set_splits (y ∷ g) (suc r) zero row x e = inl e
set_splits (y ∷ g) (suc r) (suc i) row x e = set_splits g r i row x e

row_or : Row → Option Row → Row
row_or d None = d
row_or d (Some row) = row

some_same : (x y : Row) → Some x ≡ Some y → x ≡ y
some_same x y q = cc

module _ (g h : Graph) (r : ℕ) (a : Option Met) (ts : List ℕ) (was : slice_get g r ≡ Some hole) (e : h ≡ set g r (record { met = a; next = ts })) where
  set_keeps : Keeps g h
  set_keeps i row full p = subst (λ l. slice_get l i ≡ Some row) (sym e) (other g r i _ row (λ same. full (some_same row hole (sym p ∙ ap (slice_get g) same ∙ was))) p)

  pub set_grown : ((t : ℕ) → Contains ts t → t < length g) → (a ≡ Some leave → ⊥) → Grown g h
  set_grown below stays = record {
    keeps = set_keeps;
    within = λ old i t row p c.
        let n = ap length e ∙ length-set g r _ in
        elim (set_splits g r i _ row (subst (λ l. slice_get l i ≡ Some row) e p)) [
          | inl q ↦ (let lt = old i t row q c in omega arith)
          | inr q ↦ (let lt = below t (subst (λ l. Contains l t) (sym (ap next_in q)) c) in omega arith)
        ];
    leaves = λ i us p. elim (set_splits g r i (a_row a ts) (a_row (Some leave) us) (subst (λ l. HasRow l i (Some leave) us) e p)) [
      | inl q ↦ q
      | inr q ↦ absurd (stays (ap met_in q))
    ];
  }

  pub set_has : HasRow h r a ts
  set_has = subst (λ l. HasRow l r a ts) (sym e) (here g r (a_row a ts) (slice_get_within g r hole was))

pub set_laid : (g h : Graph) (r : ℕ) (a : Option Met) (x : ℕ) → slice_get g r ≡ Some hole → h ≡ set g r (record { met = a; next = x ∷ [] }) → LaidAt h r (λ k. tells a (k x))
set_laid g h r a x was e j k = row_lays j r x a (k r _ (filled a x []) (set_has g h r a (x ∷ []) was e))

pub set_forked : (g h : Graph) (r p q : ℕ) → slice_get g r ≡ Some hole → h ≡ set g r (record { met = None; next = p ∷ q ∷ [] }) → LaidAt h r (λ k. either (k p) (k q))
set_forked g h r p q was e j k = fork_lays j r p q (k r _ (filled None p (q ∷ [])) (set_has g h r None (p ∷ q ∷ []) was e))

-- ---- with the next rows as the code has them

module _ (g h : Graph) (a : Option Met) (ts : List ℕ) (x : ℕ) (is : ts ≡ x ∷ []) (lt : x < length g) (stays : a ≡ Some leave → ⊥) where
  below_one : (t : ℕ) → Contains ts t → t < length g
  below_one t m = one_below (length g) x t lt (subst (λ l. Contains l t) is m)

  pub push_one : h ≡ g ++ record { met = a; next = ts } ∷ [] → Grown g h
  push_one e = pushed_grown g h a ts e below_one stays

  pub push_laid : (r : ℕ) → h ≡ g ++ record { met = a; next = ts } ∷ [] → r ≡ length g → LaidAt h r (λ k. tells a (k x))
  push_laid r e = pushed_laid g h a x r (e ∙ ap (λ us. g ++ a_row a us ∷ []) is)

  pub set_one : (r : ℕ) → slice_get g r ≡ Some hole → h ≡ set g r (record { met = a; next = ts }) → Grown g h
  set_one r was e = set_grown g h r a ts was e below_one stays

  pub set_one_laid : (r : ℕ) → slice_get g r ≡ Some hole → h ≡ set g r (record { met = a; next = ts }) → LaidAt h r (λ k. tells a (k x))
  set_one_laid r was e = set_laid g h r a x was (e ∙ ap (λ us. set g r (a_row a us)) is)

pub push_none : (g h : Graph) (ts : List ℕ) → ts ≡ [] → h ≡ g ++ record { met = None; next = ts } ∷ [] → Grown g h
push_none g h ts is e = pushed_grown g h None ts e (λ t m. none_below (length g) t (subst (λ l. Contains l t) is m)) (λ q. let z = ap left q in absurd (omega arith))

module _ (g h : Graph) (ts : List ℕ) (x y r : ℕ) (is : ts ≡ x ∷ y ∷ []) (was : slice_get g r ≡ Some hole) (e : h ≡ set g r (record { met = None; next = ts })) where
  pub set_two : x < length g → y < length g → Grown g h
  set_two lt lt' = set_grown g h r None ts was e (λ t m. two_below (length g) x y t lt lt' (subst (λ l. Contains l t) is m)) (λ q. let z = ap left q in absurd (omega arith))

  pub set_two_laid : LaidAt h r (λ k. either (k x) (k y))
  set_two_laid = set_forked g h r x y was (e ∙ ap (λ us. set g r (a_row None us)) is)
