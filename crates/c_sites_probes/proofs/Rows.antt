-- Rows of owners.
use Rattle.std.proofs.Common.{◌≡◌, ℕ, zero, suc, ◌+◌, ◌<◌, ◌++◌, List, [], ◌∷◌, length, replicate, get_or, take, slice_get, slice_set, is_some, not, Bool, true, false, true≢false, Option, Some, None, if◌then◌else◌, refl, sym, ap, ◌∙◌, add-one, arith}
use Rattle.std.proofs.Math.Seq.{take-suc}
use Rattle.std.proofs.lemmas.Bool.{eqb-true, eqb-false}
use Rattle.std.specs.Prelude.{nat_eq}
use Rattle.c_sites_probes.specs.Owned.{owner_of}
use Rattle.c_sites_probes.specs.Owners.{AreOwners}

module _ {X : Type 0} where
  pub here_in : (n : ℕ) (x : X) (rows : List X) (u : ℕ) → rows ≡ replicate n x → u < n → slice_get rows u ≡ Some x
  here_in n x rows u e h = ap (λ r. slice_get r u) e ∙ each n u h
    where
      each : (n u : ℕ) → u < n → slice_get (replicate n x) u ≡ Some x
      each zero u h = absurd (omega (arith, h))
      each (suc n) zero h = refl
      each (suc n) (suc u) h = each n u (omega arith)

  set_here : (rows : List X) (n : ℕ) (v : X) → n < length rows → slice_get (slice_set rows n v) n ≡ Some v
  set_here [] n v h = absurd (omega (arith, h))
  set_here (x ∷ xs) zero v h = refl
  set_here (x ∷ xs) (suc n) v h = set_here xs n v (omega arith)

  set_other : (rows : List X) (n u : ℕ) (v : X) → (u ≡ n → ⊥) → slice_get (slice_set rows n v) u ≡ slice_get rows u
  set_other [] n u v h = refl
  set_other (x ∷ xs) zero zero v h = absurd (h refl)
  set_other (x ∷ xs) zero (suc u) v h = refl
  set_other (x ∷ xs) (suc n) zero v h = refl
  set_other (x ∷ xs) (suc n) (suc u) v h = set_other xs n u v (λ e. h (ap suc e))

-- ---- one owner more

or_else : Option ℕ → Option ℕ → Option ℕ
or_else None q = q
or_else (Some k) q = Some k

owner_last : (u : ℕ) (found : List (ℕ × ℕ)) (p : ℕ × ℕ) → owner_of u (found ++ p ∷ []) ≡ or_else (owner_of u found) (if nat_eq u p.0 then Some p.1 else None)
unfolding or_else
owner_last u [] p = refl
owner_last u (q ∷ found) p = by (nat_eq u q.0) (owner_last u found p)
  where
    by : (b : Bool) → owner_of u (found ++ p ∷ []) ≡ or_else (owner_of u found) (if nat_eq u p.0 then Some p.1 else None)
        → (if b then Some q.1 else owner_of u (found ++ p ∷ [])) ≡ or_else (if b then Some q.1 else owner_of u found) (if nat_eq u p.0 then Some p.1 else None)
    by true e = refl
    by false e = e

or_none : (o : Option ℕ) → or_else o None ≡ o
unfolding or_else
or_none None = refl
or_none (Some k) = refl

-- of another use probe the owner is the same
other_last : (u n k : ℕ) (found : List (ℕ × ℕ)) → nat_eq u n ≡ false → owner_of u (found ++ (n, k) ∷ []) ≡ owner_of u found
other_last u n k found e = owner_last u found (n, k) ∙ ap (λ b. or_else (owner_of u found) (if b then Some k else None)) e ∙ or_none (owner_of u found)

-- where there was none it is this one
first_last : (u n k : ℕ) (found : List (ℕ × ℕ)) → nat_eq u n ≡ true → owner_of u found ≡ None → owner_of u (found ++ (n, k) ∷ []) ≡ Some k
unfolding or_else
first_last u n k found e h = owner_last u found (n, k) ∙ ap (λ b. or_else (owner_of u found) (if b then Some k else None)) e ∙ ap (λ o. or_else o (Some k)) h

-- where there was one it stays
later_last : (u j : ℕ) (found : List (ℕ × ℕ)) (p : ℕ × ℕ) → owner_of u found ≡ Some j → owner_of u (found ++ p ∷ []) ≡ Some j
unfolding or_else
later_last u j found p h = owner_last u found p ∙ ap (λ o. or_else o (if nat_eq u p.0 then Some p.1 else None)) h

row_is : (found : List (ℕ × ℕ)) (rows : List (Option ℕ)) (u n : ℕ) (o : Option ℕ) → AreOwners found rows → u < 65536 → u ≡ n → slice_get rows n ≡ Some o → owner_of u found ≡ o
row_is found rows u n o h b e r = let s : Some (owner_of u found) ≡ Some o = sym (h u b) ∙ ap (slice_get rows) e ∙ r in cc

pub put_owned : (found : List (ℕ × ℕ)) (rows : List (Option ℕ)) (n k : ℕ) → length rows ≡ 65536 → n < 65536 → slice_get rows n ≡ Some None → AreOwners found rows → AreOwners (found ++ (n, k) ∷ []) (slice_set rows n (Some k))
put_owned found rows n k l lt r h u b = by (nat_eq u n) refl
  where
    by : (t : Bool) → nat_eq u n ≡ t → slice_get (slice_set rows n (Some k)) u ≡ Some (owner_of u (found ++ (n, k) ∷ []))
    by true e =
        let same : u ≡ n = eqb-true u n e in
        ap (slice_get (slice_set rows n (Some k))) same ∙ set_here rows n (Some k) (omega arith) ∙ ap Some (sym (first_last u n k found e (row_is found rows u n None h b same r)))
    by false e = set_other rows n u (Some k) (eqb-false u n e) ∙ h u b ∙ ap Some (sym (other_last u n k found e))

pub kept_owned : (found : List (ℕ × ℕ)) (rows : List (Option ℕ)) (n j k : ℕ) → slice_get rows n ≡ Some (Some j) → AreOwners found rows → AreOwners (found ++ (n, k) ∷ []) rows
kept_owned found rows n j k r h u b = by (nat_eq u n) refl
  where
    by : (t : Bool) → nat_eq u n ≡ t → slice_get rows u ≡ Some (owner_of u (found ++ (n, k) ∷ []))
    by true e =
        let same : u ≡ n = eqb-true u n e in
        ap (slice_get rows) same ∙ r ∙ ap Some (sym (later_last u j found (n, k) (row_is found rows u n (Some j) h b same r)))
    by false e = h u b ∙ ap Some (sym (other_last u n k found e))

-- the owners so far and the next one
pub more_taken : (found : List (ℕ × ℕ)) (i : ℕ) (d : ℕ × ℕ) → i < length found → take (i + 1) found ≡ take i found ++ get_or found i d ∷ []
more_taken found i d h = ap (λ k. take k found) (add-one i) ∙ take-suc found i d h

pub only_none : (P : Option ℕ → Type 0) → ((x : ℕ) → P (Some x) → ⊥) → (y : Option ℕ) → P y → y ≡ None
only_none P h None k = refl
only_none P h (Some x) k = absurd (h x k)

pub is_empty : (o : Option ℕ) (b : Bool) → is_some o ≡ not b → b ≡ true → o ≡ None
is_empty None b h e = refl
is_empty (Some k) b h e = let f : true ≡ false = h ∙ ap not e in cc

pub is_full : (o : Option ℕ) (b : Bool) → is_some o ≡ not b → b ≡ false → (j : ℕ) × (o ≡ Some j)
is_full None b h e = let f : false ≡ true = h ∙ ap not e in absurd (true≢false (sym f))
is_full (Some k) b h e = (k, refl)
