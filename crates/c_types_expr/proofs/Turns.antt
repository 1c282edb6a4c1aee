-- A turn of a loop that changes a list in place, and its end.
use Rattle.std.proofs.Common.{◌≡◌, ℕ, suc, ◌+◌, ◌<◌, ◌≤◌, List, [], ◌∷◌, ◌++◌, length, take, drop, get_or, refl, sym, ap, ◌∙◌, arith, add-one, drop-cons}
use Rattle.std.proofs.Math.ListN.{set}
use Rattle.std.proofs.lemmas.List.{take_more_set, drop-set-lt, take_all, drop_all}
use Rattle.c_types_expr.specs.Turns.{in_front}

module _ {T R : Type 0} (one : T → R → R) where
  front_append : (xs : List T) (x : T) (r : R) → in_front one (xs ++ x ∷ []) r ≡ in_front one xs (one x r)
  front_append [] x r = refl
  front_append (y ∷ xs) x r = ap (one y) (front_append xs x r)

  -- the item at the index is done
  pub turned : (before after : List T → R) (xs : List T) (i : ℕ) (a x : T) → i < length xs → a ≡ get_or xs i a → ((rest : List T) → before (a ∷ rest) ≡ one x (after rest)) → in_front one (take (i + 1) (set xs i x)) (after (drop (i + 1) (set xs i x))) ≡ in_front one (take i xs) (before (drop i xs))
  turned before after xs i a x h e step =
      rw (take_more_set xs i x h, drop-set-lt (i + 1) xs i x (omega arith), front_append (take i xs) x (after (drop (i + 1) xs)), drop-cons xs i a h, add-one i)
      (ap (in_front one (take i xs)) (sym (step (drop (suc i) xs)) ∙ ap (λ b. before (b ∷ drop (suc i) xs)) e))

  -- all are done
  pub ended : (typed : List T → R) (xs : List T) (i : ℕ) → length xs ≤ i → in_front one xs (typed []) ≡ in_front one (take i xs) (typed (drop i xs))
  ended typed xs i h = rw (take_all i xs h, drop_all i xs h) refl

module _ {T : Type 0} (weight : List T → ℕ) (lighter : (x : T) (xs : List T) → weight xs ≤ weight (x ∷ xs)) where
  -- what is left weighs no more
  pub rest_lighter : (xs : List T) (i n : ℕ) (x : T) → i < length xs → weight (drop i xs) ≤ n → weight (drop (i + 1) (set xs i x)) ≤ n
  rest_lighter xs i n x h e = rw (drop-set-lt (i + 1) xs i x (omega arith), add-one i) (omega (arith, lighter (get_or xs i x) (drop (suc i) xs), rw (drop-cons xs i x h) at e))
