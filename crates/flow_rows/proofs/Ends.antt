-- The first row of a graph, and the row at which a body has been left.
use Rattle.std.proofs.Common.{ℕ, zero, suc, ◌<◌, List, [], ◌∷◌, ◌++◌, ◌≡◌, ◌⊎◌, inl, inr, Option, Some, None, refl, subst, sym, ap, ◌∙◌, length}
use Rattle.std.proofs.Math.ListN.{set}
use Rattle.std.specs.Prelude.{slice_get, Contains}
use Rattle.flow_walks.specs.Comes.{Met, leave}
use Rattle.flow_rows.specs.Paths.{Row, Graph, HasRow}
use Rattle.flow_rows.specs.Laying.{hole}
use Rattle.flow_rows.specs.Ends.{Left}
use Rattle.flow_rows.proofs.Growth.{one_below, append_has, pushed_keeps, pushed_within, set_has}

abbrev a_row : Option Met → List ℕ → Row
a_row a ts = record { met = a; next = ts }

-- a row behind it is one of it, or stands at its end
behind : (g : Graph) (row : Row) (i : ℕ) (r : Row) → slice_get (g ++ row ∷ []) i ≡ Some r → (slice_get g i ≡ Some r) ⊎ (i ≡ length g)
behind [] row zero r e = inr refl
behind [] row (suc i) r e = absurd (cc)
behind (x ∷ g) row zero r e = inl e
behind (x ∷ g) row (suc i) r e = elim (behind g row i r e) [ inl p ↦ inl p | inr p ↦ inr (ap suc p) ]

pub push_left : (g h : Graph) (ts : List ℕ) (to r : ℕ) → ts ≡ to ∷ [] → to < length g → h ≡ g ++ record { met = Some leave; next = ts } ∷ [] → r ≡ length g → Left g h r to
push_left g h ts to r is lt e f = record {
  keeps = pushed_keeps g h (Some leave) ts e;
  within = pushed_within g h (Some leave) ts e (λ t m. one_below (length g) to t lt (subst (λ l. Contains l t) is m));
  row = subst (λ us. HasRow h r (Some leave) us) is (subst (λ i. slice_get h i ≡ Some (a_row (Some leave) ts)) (sym f) (subst (λ l. slice_get l (length g) ≡ Some (a_row (Some leave) ts)) (sym e) (append_has g (a_row (Some leave) ts))));
  alone = λ i us p. elim (behind g (a_row (Some leave) ts) i (a_row (Some leave) us) (subst (λ l. HasRow l i (Some leave) us) e p)) [
    | inl q ↦ inl q
    | inr q ↦ inr (q ∙ sym f)
  ];
}

pub set_start : (g h : Graph) (ts : List ℕ) (r to : ℕ) → ts ≡ to ∷ [] → slice_get g r ≡ Some hole → h ≡ set g r (record { met = None; next = ts }) → HasRow h r None (to ∷ [])
set_start g h ts r to is was e = subst (λ us. HasRow h r None us) is (set_has g h r None ts was e)
