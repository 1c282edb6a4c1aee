-- Values that differ, from the last one on.
use Rattle.std.proofs.Common.{◌≡◌, ℕ, ℤ, zero, suc, ◌≤◌, Bool, true, false, not, ◌&&◌, ◌||◌, List, [], ◌∷◌, ◌++◌, length, map, drop, get_or, Option, Some, None, refl, ap, sym, ◌∙◌, arith, drop-cons}
use Rattle.std.specs.List.{list_any}
use Rattle.std.specs.Ordering.{int_eq}
use Rattle.c_base.specs.declared.place.IntKind.{IntKind}
use Rattle.c_arith.specs.Arith.{wrap}
use Rattle.c_tree.specs.Operators.{is_among, wrapped, differ}
use Rattle.c_checker.specs.Among.{is_fresh, with_seen}

-- a value is one of these and another, in either order
or_moved : (a b c : Bool) → (a || (b || c)) ≡ (b || (a || c))
or_moved true true c = refl
or_moved true false c = refl
or_moved false true c = refl
or_moved false false c = refl

any_pushed : (v w : ℤ) (seen : List ℤ) → list_any (int_eq v) (seen ++ w ∷ []) ≡ (int_eq v w || list_any (int_eq v) seen)
any_pushed v w [] = refl
any_pushed v w (x ∷ seen) = ap (λ b. int_eq v x || b) (any_pushed v w seen) ∙ or_moved (int_eq v x) (int_eq v w) (list_any (int_eq v) seen)

-- what is seen with one more is that one and the others
seen_pushed : (v : ℤ) (seen : List ℤ) (x : Option ℤ) (rest : List (Option ℤ)) → list_any (int_eq v) seen ≡ is_among v rest → list_any (int_eq v) (with_seen seen x) ≡ is_among v (x ∷ rest)
seen_pushed v seen None rest e = e
seen_pushed v seen (Some w) rest e = any_pushed v w seen ∙ ap (λ b. int_eq v w || b) e

-- values from one on differ where it is new and those behind it differ
fresh_cons : (k : IntKind) (x : Option ℤ) (xs : List (Option ℤ)) (seen : List ℤ) → ((v : ℤ) → list_any (int_eq v) seen ≡ is_among v (map (wrapped k) xs)) → differ k (x ∷ xs) ≡ (is_fresh seen (wrapped k x) && differ k xs)
fresh_cons k None xs seen e = refl
fresh_cons k (Some v) xs seen e = ap (λ b. not b && differ k xs) (sym (e (wrap k v)))

-- where those from an index on don't differ, neither do all
false_grows : (k : IntKind) (x : Option ℤ) (xs : List (Option ℤ)) → differ k xs ≡ false → differ k (x ∷ xs) ≡ false
false_grows k None xs e = e
false_grows k (Some v) xs e = rw e (by (not (is_among (wrap k v) (map (wrapped k) xs))))
  where
    by : (b : Bool) → (b && false) ≡ false
    by true = refl
    by false = refl

pub all_meet : (k : IntKind) (i : ℕ) (values : List (Option ℤ)) → differ k (drop i values) ≡ false → differ k values ≡ false
all_meet k zero values e = e
all_meet k (suc i) [] e = e
all_meet k (suc i) (x ∷ xs) e = false_grows k x xs (all_meet k i xs e)

module _ (k : IntKind) (values : List (Option ℤ)) (left i : ℕ) (d : Option ℤ) (seen : List ℤ) (e : left ≡ suc i) (h : left ≤ length values)
    (all : (v : ℤ) → list_any (int_eq v) seen ≡ is_among v (map (wrapped k) (drop left values))) where
  at_index : differ k (drop i values) ≡ (is_fresh seen (wrapped k (get_or values i d)) && differ k (drop left values))
  at_index = ap (differ k) (drop-cons values i d (omega (arith, e, h))) ∙ fresh_cons k (get_or values i d) (drop (suc i) values) seen (λ v. all v ∙ ap (λ j. is_among v (map (wrapped k) (drop j values))) e) ∙ ap (λ j. is_fresh seen (wrapped k (get_or values i d)) && differ k (drop j values)) (sym e)

  -- the value is there already
  pub value_meets : false ≡ is_fresh seen (wrapped k (get_or values i d)) → false ≡ differ k values
  value_meets f = sym (all_meet k i values (at_index ∙ ap (λ b. b && differ k (drop left values)) (sym f)))

  -- it is new
  pub value_apart : true ≡ is_fresh seen (wrapped k (get_or values i d)) → differ k (drop left values) ≡ true → differ k (drop i values) ≡ true
  value_apart f t = at_index ∙ ap (λ b. b && differ k (drop left values)) (sym f) ∙ t

  -- and seen from now on
  pub value_seen : (v : ℤ) → list_any (int_eq v) (with_seen seen (wrapped k (get_or values i d))) ≡ is_among v (map (wrapped k) (drop i values))
  value_seen v = seen_pushed v seen (wrapped k (get_or values i d)) (map (wrapped k) (drop (suc i) values)) (all v ∙ ap (λ j. is_among v (map (wrapped k) (drop j values))) e) ∙ ap (λ xs. is_among v (map (wrapped k) xs)) (sym (drop-cons values i d (omega (arith, e, h))))
