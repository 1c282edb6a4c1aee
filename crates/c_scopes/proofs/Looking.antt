-- Looking names up in several scopes.
use Rattle.std.proofs.Common.{◌≡◌, ℕ, ◌+◌, ◌-◌, ◌<◌, ◌≤◌, arith, List, [], ◌∷◌, ◌++◌, Option, Some, None, refl, sym, ap, ◌∙◌, length, take, get_or, add-one, take-suc}
use Rattle.std.specs.Option.{option_or}
use Rattle.c_scopes.specs.Rows.{Scope}
use Rattle.c_scopes.specs.Scoping.{named, find_outer, last_of, but_last, left, closed}

module _ {T : Type 0} where
  or_assoc : (a b c : Option T) → option_or (option_or a b) c ≡ option_or a (option_or b c)
  or_assoc None b c = refl
  or_assoc (Some e) b c = refl

  or_none : (a : Option T) → option_or a None ≡ a
  or_none None = refl
  or_none (Some e) = refl

  -- the last scope comes first
  pub find_last : (x : List ℕ) (ss : List (Scope T)) (s : Scope T) → find_outer x (ss ++ s ∷ []) ≡ option_or (named x s) (find_outer x ss)
  find_last x [] s = sym (or_none (named x s))
  find_last x (t ∷ ss) s = rw (find_last x ss s) (or_assoc (named x s) (find_outer x ss) (named x t))

  find_take : (x : List ℕ) (ss : List (Scope T)) (i : ℕ) (d : Scope T) → i < length ss → find_outer x (take (i + 1) ss) ≡ option_or (named x (get_or ss i d)) (find_outer x (take i ss))
  find_take x ss i d h = rw (add-one, take-suc ss i d h) (find_last x (take i ss) (get_or ss i d))

  -- one scope more
  at_last : (x : List ℕ) (ss : List (Scope T)) (i : ℕ) (s : Scope T) → 0 < i → i ≤ length ss → s ≡ get_or ss (i - 1) s → find_outer x (take i ss) ≡ option_or (named x s) (find_outer x (take (i - 1) ss))
  at_last x ss i s h k e =
      let n : i ≡ (i - 1) + 1 = omega arith in
      ap (λ m. find_outer x (take m ss)) n ∙ find_take x ss (i - 1) s (omega arith) ∙ ap (λ r. option_or (named x r) (find_outer x (take (i - 1) ss))) (sym e)

  -- the last of the first i scopes has the name
  pub stops : (x : List ℕ) (ss : List (Scope T)) (i : ℕ) (s : Scope T) (o : Option T) (what : T) → find_outer x (take i ss) ≡ find_outer x ss → 0 < i → i ≤ length ss → s ≡ get_or ss (i - 1) s → o ≡ named x s → o ≡ Some what → Some what ≡ find_outer x ss
  stops x ss i s o what rest h k e f n = sym (sym rest ∙ at_last x ss i s h k e ∙ ap (λ p. option_or p (find_outer x (take (i - 1) ss))) (sym f ∙ n))

  -- it doesn't have it
  pub goes_on : (x : List ℕ) (ss : List (Scope T)) (i : ℕ) (s : Scope T) (o : Option T) → find_outer x (take i ss) ≡ find_outer x ss → 0 < i → i ≤ length ss → s ≡ get_or ss (i - 1) s → o ≡ named x s → o ≡ None → find_outer x (take (i - 1) ss) ≡ find_outer x ss
  goes_on x ss i s o rest h k e f n = sym (ap (λ p. option_or p (find_outer x (take (i - 1) ss))) (sym f ∙ n)) ∙ (sym (at_last x ss i s h k e) ∙ rest)

  last_there : (ss : List (Scope T)) (s t : Scope T) → last_of (ss ++ s ∷ []) t ≡ s
  last_there [] s t = refl
  last_there (u ∷ ss) s t = last_there ss s u

  others_there : (ss : List (Scope T)) (s : Scope T) → but_last (ss ++ s ∷ []) ≡ ss
  others_there [] s = refl
  others_there (u ∷ []) s = refl
  others_there (u ∷ v ∷ ss) s = ap (λ r. u ∷ r) (others_there (v ∷ ss) s)

  -- the last of the outer scopes is the innermost one again
  pub left_last : (all ss : List (Scope T)) (s t : Scope T) → all ≡ ss ++ s ∷ [] → left (record { outer = all; top = t }) ≡ record { outer = ss; top = s }
  left_last all ss s t e = rw (e, last_there ss s t, others_there ss s) refl

  -- and the names of the one before go
  pub closed_last : (all ss : List (Scope T)) (s t : Scope T) → all ≡ ss ++ s ∷ [] → t ≡ closed (record { outer = all; top = t })
  closed_last all [] s t e = rw e refl
  closed_last all (u ∷ ss) s t e = rw e refl
