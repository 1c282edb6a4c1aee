-- A value with those that were seen.
use Rattle.std.proofs.Common.{◌≡◌, ℤ, Bool, true, false, ◌||◌, List, [], ◌∷◌, ◌++◌, map, Some, refl, sym, ap, ◌∙◌}
use Rattle.std.specs.List.{list_any}
use Rattle.std.specs.Ordering.{int_eq}
use Rattle.std.proofs.lemmas.Bool.Decides.{Decides-int_eq}
use Rattle.indexmap.specs.IndexSet.{insert_key}
use Rattle.c_tree.specs.Operators.{is_among}

pub among_keys : (v : ℤ) (ks : List ℤ) → is_among v (map Some ks) ≡ list_any (int_eq v) ks
among_keys v [] = refl
among_keys v (k ∷ ks) = ap (λ b. int_eq v k || b) (among_keys v ks)

-- one more at the end
or_moved : (a b c : Bool) → (a || (b || c)) ≡ (b || (a || c))
or_moved true true c = refl
or_moved true false c = refl
or_moved false true c = refl
or_moved false false c = refl

any_pushed : (v w : ℤ) (ks : List ℤ) → list_any (int_eq v) (ks ++ w ∷ []) ≡ (int_eq v w || list_any (int_eq v) ks)
any_pushed v w [] = refl
any_pushed v w (k ∷ ks) = ap (λ b. int_eq v k || b) (any_pushed v w ks) ∙ or_moved (int_eq v k) (int_eq v w) (list_any (int_eq v) ks)

any_there : (v w : ℤ) (ks : List ℤ) → list_any (int_eq w) ks ≡ true → list_any (int_eq v) ks ≡ (int_eq v w || list_any (int_eq v) ks)
any_there v w ks h = by (int_eq v w) refl
  where
    by : (b : Bool) → int_eq v w ≡ b → list_any (int_eq v) ks ≡ (int_eq v w || list_any (int_eq v) ks)
    by true e = rw e (ap (λ x. list_any (int_eq x) ks) ((Decides-int_eq v w).0 e) ∙ h)
    by false e = rw e refl

any_inserted : (v w : ℤ) (ks : List ℤ) → list_any (int_eq v) (insert_key int_eq ks w) ≡ (int_eq v w || list_any (int_eq v) ks)
any_inserted v w ks = by (list_any (int_eq w) ks) refl
  where
    by : (b : Bool) → list_any (int_eq w) ks ≡ b → list_any (int_eq v) (insert_key int_eq ks w) ≡ (int_eq v w || list_any (int_eq v) ks)
    by true e = rw e (any_there v w ks e)
    by false e = rw e (any_pushed v w ks)

-- a value is among those with one more where it is that one or among the others
pub among_inserted : (v w : ℤ) (ks : List ℤ) → is_among v (map Some (insert_key int_eq ks w)) ≡ (int_eq v w || is_among v (map Some ks))
among_inserted v w ks = among_keys v (insert_key int_eq ks w) ∙ any_inserted v w ks ∙ ap (λ b. int_eq v w || b) (sym (among_keys v ks))
