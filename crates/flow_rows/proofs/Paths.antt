-- What the paths from a row spell, by lists of rows, and as a set of lists.
use Rattle.std.proofs.Common.{ℕ, zero, suc, ◌<◌, ◌≤◌, List, [], ◌∷◌, ◌≡◌, ◌⊎◌, inl, inr, Option, Some, None, refl, subst, sym, ap, ◌∙◌, arith, length, get_or, ◌↔◌}
use Rattle.std.specs.Prelude.{slice_get, Contains}
use Rattle.flow_walks.specs.Comes.{Met, Comes, ends}
use Rattle.flow_walks.proofs.More.{In, emit_in}
use Rattle.flow_rows.specs.Paths.{Row, Graph, tells, from, From, row_gives, one_next, IsPath, put, met_at, spelled, Spells}

-- ---- lists that are cut, and longer paths

pub tells_nil : (a : Option Met) (k : Comes) → k [] → tells a k []
tells_nil None k h = h
tells_nil (Some a) k h = tt

next_nil : (k : ℕ → Comes) (ts : List ℕ) → ((t : ℕ) → k t []) → one_next k ts []
next_nil k [] h = tt
next_nil k (t ∷ []) h = h t
next_nil k (t ∷ u ∷ ts) h = inl (h t)

row_nil : (k : ℕ → Comes) (row : Option Row) → ((t : ℕ) → k t []) → row_gives k row []
row_nil k None h = tt
row_nil k (Some row) h = tells_nil row.met _ (next_nil k row.next h)

pub from_nil : (g : Graph) (n r : ℕ) → from g n r []
from_nil g zero r = tt
from_nil g (suc n) r = row_nil (from g n) (slice_get g r) (from_nil g n)

pub ends_in : (k : Comes) → k [] → In ends k
ends_in k h [] p = h
ends_in k h (a ∷ v) p = absurd p

pub tells_in : (a : Option Met) (j k : Comes) → In j k → In (tells a j) (tells a k)
tells_in None j k h = h
tells_in (Some a) j k h = emit_in a j k h

next_in : (j k : ℕ → Comes) (ts : List ℕ) → ((t : ℕ) → In (j t) (k t)) → In (one_next j ts) (one_next k ts)
next_in j k [] h w p = p
next_in j k (t ∷ []) h w p = h t w p
next_in j k (t ∷ u ∷ ts) h w (inl p) = inl (h t w p)
next_in j k (t ∷ u ∷ ts) h w (inr p) = inr (next_in j k (u ∷ ts) h w p)

row_in : (j k : ℕ → Comes) (row : Option Row) → ((t : ℕ) → In (j t) (k t)) → In (row_gives j row) (row_gives k row)
row_in j k None h w p = p
row_in j k (Some row) h w p = tells_in row.met _ _ (next_in j k row.next h) w p

pub from_more : (g : Graph) (n m r : ℕ) → n ≤ m → In (from g n r) (from g m r)
from_more g zero m r le w p = ends_in (from g m r) (from_nil g m r) w p
from_more g (suc n) zero r le w p = absurd (omega arith)
from_more g (suc n) (suc m) r le w p = row_in (from g n) (from g m) (slice_get g r) (λ t. from_more g n m t (omega arith)) w p

-- ---- paths

next_there : (k : ℕ → Comes) (ts : List ℕ) (j d : ℕ) (v : List Met) → j < length ts → k (get_or ts j d) v → one_next k ts v
next_there k [] j d v lt p = absurd (omega arith)
next_there k (t ∷ []) zero d v lt p = p
next_there k (t ∷ []) (suc j) d v lt p = absurd (omega arith)
next_there k (t ∷ u ∷ ts) zero d v lt p = inl p
next_there k (t ∷ u ∷ ts) (suc j) d v lt p = inr (next_there k (u ∷ ts) j d v (omega arith) p)

put_tells : (a : Option Met) (k : Comes) (v : List Met) → k v → tells a k (put a v)
put_tells None k v p = p
put_tells (Some a) k v p = (refl, p)

-- what is met on a path comes from its first row
path_from : (g : Graph) (r : ℕ) (ts : List ℕ) → IsPath g r ts → from g (suc (length ts)) r (spelled g r ts)
path_from g r [] p = subst (λ o. row_gives (from g 0) o (put (met_at o) [])) (sym p.1) (put_tells p.0.met _ [] (next_nil (from g 0) p.0.next (from_nil g 0)))
path_from g r (t ∷ ts) p = subst (λ o. row_gives (from g (suc (length ts))) o (put (met_at o) (spelled g t ts))) (sym p.1)
    (put_tells p.0.met _ (spelled g t ts) (next_there (from g (suc (length ts))) p.0.next p.2.0 t _ p.2.1 (subst (λ x. from g (suc (length ts)) x (spelled g t ts)) (sym p.2.2) (path_from g t ts p.3))))

-- the other way
record Chosen (k : ℕ → Comes) (ts : List ℕ) (v : List Met) : Type 0 where
  t : ℕ
  there : Contains ts t
  goes_on : k t v

choose_next : (k : ℕ → Comes) (ts : List ℕ) (v : List Met) → one_next k ts v → (v ≡ []) ⊎ Chosen k ts v
choose_next k [] [] p = inl refl
choose_next k [] (a ∷ v) p = absurd p
choose_next k (t ∷ []) v p = inr (record { t = t; there = (0, omega arith, refl); goes_on = p })
choose_next k (t ∷ u ∷ ts) v (inl p) = inr (record { t = t; there = (0, omega arith, refl); goes_on = p })
choose_next k (t ∷ u ∷ ts) v (inr p) = elim (choose_next k (u ∷ ts) v p) [
  | inl e ↦ inl e
  | inr c ↦ inr (record { t = c.t; there = (suc c.there.0, (let lt = c.there.1 in omega arith), c.there.2); goes_on = c.goes_on })
]

tells_put : (a : Option Met) (k : Comes) (w : List Met) → tells a k w → (w ≡ []) ⊎ ((v : List Met) × (w ≡ put a v) × k v)
tells_put None k w p = inr (w, refl, p)
tells_put (Some a) k [] p = inl refl
tells_put (Some a) k (b ∷ v) p = inr (v, ap (λ b. b ∷ v) p.0, p.1)

alone : (g : Graph) (r : ℕ) (row : Row) (w v : List Met) → slice_get g r ≡ Some row → w ≡ put row.met v → v ≡ [] → Spells g r w
alone g r row w v e f h = ([], (row, e), ap (λ o. put (met_at o) []) e ∙ ap (put row.met) (sym h) ∙ sym f)

row_spells : (g : Graph) (n r : ℕ) (row : Row) → slice_get g r ≡ Some row → ((t : ℕ) (w : List Met) → from g n t w → (w ≡ []) ⊎ Spells g t w) → (w : List Met) → row_gives (from g n) (Some row) w → (w ≡ []) ⊎ Spells g r w
row_spells g n r row e ih w p = elim (tells_put row.met _ w p) [
  | inl nil ↦ inl nil
  | inr q ↦ elim (choose_next (from g n) row.next q.0 q.2) [
    | inl nil ↦ inr (alone g r row w q.0 e q.1 nil)
    | inr c ↦ elim (ih c.t q.0 c.goes_on) [
      | inl nil ↦ inr (alone g r row w q.0 e q.1 nil)
      | inr s ↦ inr (c.t ∷ s.0, (row, e, c.there, s.1), ap (λ o. put (met_at o) (spelled g c.t s.0)) e ∙ ap (put row.met) s.2 ∙ sym q.1)
    ]
  ]
]

option_of : (o : Option Row) → (o ≡ None) ⊎ ((row : Row) × (o ≡ Some row))
option_of None = inl refl
option_of (Some row) = inr (row, refl)

nil_of : (w : List Met) → ends w → w ≡ []
nil_of [] p = refl
nil_of (a ∷ w) p = absurd p

from_spells : (g : Graph) (n r : ℕ) (w : List Met) → from g n r w → (w ≡ []) ⊎ Spells g r w
from_spells g zero r w p = inl (nil_of w p)
from_spells g (suc n) r w p = elim (option_of (slice_get g r)) [
  | inl none ↦ inl (nil_of w (subst (λ o. row_gives (from g n) o w) none p))
  | inr some ↦ row_spells g n r some.0 some.1 (λ t w q. from_spells g n t w q) w (subst (λ o. row_gives (from g n) o w) some.1 p)
]

-- from a row at which nothing is met, the paths spell exactly what comes
pub spells : (g : Graph) (r : ℕ) (next : List ℕ) → slice_get g r ≡ Some (record { met = None; next = next }) → (w : List Met) → Spells g r w ↔ From g r w
spells g r next e w = (
  λ s. (suc (length s.0), subst (from g (suc (length s.0)) r) s.2 (path_from g r s.0 s.1)),
  λ p. elim (from_spells g p.0 r w p.1) [ inl nil ↦ alone g r (record { met = None; next = next }) w [] e nil refl | inr s ↦ s ],
)
