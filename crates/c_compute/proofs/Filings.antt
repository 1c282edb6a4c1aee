-- The table of the variables of file scope.
use Rattle.std.proofs.Common.{◌≡◌, ℕ, zero, suc, ◌<◌, List, [], ◌∷◌, ◌++◌, length, get_or, Option, Some, None, refl, sym, ap, ◌∙◌, subst, nat_eq, if◌then◌else◌, Bool, true, false}
use Rattle.std.specs.Prelude.{slice_set, reverse}
use Rattle.std.proofs.lemmas.Bool.{eqb-true, eqb-false}
use Rattle.std.proofs.lemmas.List.{reverse-append, get_or-set_other, get_or-set_same}
use Rattle.c_meaning.specs.State.{Bound, found_in}
use Rattle.c_compute.specs.declared.filing.Filed.{Filed}
use Rattle.c_compute.specs.Filing.{file_of, IsFiled}

grown_same : (t : List (Option ℕ)) (v : ℕ) → get_or (t ++ None ∷ []) v None ≡ get_or t v None
grown_same [] zero = refl
grown_same [] (suc v) = refl
grown_same (x ∷ t) zero = refl
grown_same (x ∷ t) (suc v) = grown_same t v

pub grown : (bs : List Bound) (t : List (Option ℕ)) → IsFiled bs t → IsFiled bs (t ++ None ∷ [])
grown bs t s v = grown_same t v ∙ s v

filed_at : (bs : List Bound) (t : List (Option ℕ)) (w j v : ℕ) → IsFiled bs t → w < length t → (same : Bool) → nat_eq w v ≡ same → get_or (slice_set t w (Some j)) v None ≡ (if same then Some j else found_in v bs)
filed_at bs t w j v filed in_table true e = let P : ℕ → Type 0 = λ v. get_or (slice_set t w (Some j)) v None ≡ Some j in subst P (eqb-true w v e) (get_or-set_same t w (Some j) None in_table)
filed_at bs t w j v filed in_table false e = get_or-set_other t w v (Some j) None (λ f. eqb-false w v e (sym f)) ∙ filed v

pub filed_here : (fs new : List Filed) (t : List (Option ℕ)) (w j : ℕ) → IsFiled (file_of (reverse fs)) t → w < length t → new ≡ fs ++ record { variable = w; instance = j } ∷ [] → IsFiled (file_of (reverse new)) (slice_set t w (Some j))
filed_here fs new t w j filed in_table pushed =
    let back : reverse new ≡ record { variable = w; instance = j } ∷ reverse fs = ap (λ x. reverse x) pushed ∙ reverse-append fs (record { variable = w; instance = j } ∷ []) in
    subst (λ x. IsFiled (file_of x) (slice_set t w (Some j))) (sym back) (λ v. filed_at (file_of (reverse fs)) t w j v filed in_table (nat_eq w v) refl)
