-- What one activation did by itself, and its readings, over lists.
use Rattle.std.proofs.Common.{◌≡◌, ℕ, List, [], ◌∷◌, ◌++◌, Bool, true, false, refl, sym, ap, arith}
use Rattle.std.specs.Prelude.{nat_eq, if◌then◌else◌}
use Rattle.std.proofs.lemmas.Bool.{ne_eqb, true≢false}
use Rattle.c_meaning.specs.State.{Act, begins, makes, tells, repeats}
use Rattle.c_meaning.specs.Deeds.{own}
use Rattle.flow_walks.specs.declared.action.Action.TheVariants.{Kill}
use Rattle.flow_walks.specs.Comes.{Met, act, enter, leave}
use Rattle.flow_walks.specs.Walks.{actions}
use Rattle.flow_calls.specs.Readings.{action_of, readings}

if_false : (b : Bool) (x xs : List Act) → b ≡ false → (if b then x else xs) ≡ xs
if_false true x xs b = absurd (true≢false b)
if_false false x xs b = refl

if_true : (b : Bool) (x xs : List Act) → b ≡ true → (if b then x else xs) ≡ x
if_true true x xs b = refl
if_true false x xs b = absurd (true≢false (sym b))

same_eq : (a : ℕ) → nat_eq a a ≡ true
same_eq a = grind arith

pub own_here : (a : ℕ) (x : Act) → own a (record { activation = a; act = x } ∷ []) ≡ x ∷ []
own_here a x = if_true (nat_eq a a) (x ∷ []) [] (same_eq a)

pub own_other : (n a : ℕ) (x : Act) → (n ≡ a → ⊥) → own a (record { activation = n; act = x } ∷ []) ≡ []
own_other n a x ne = if_false (nat_eq n a) (x ∷ []) [] (ne_eqb n a ne)

pub readings_append : (xs ys : List Act) → readings (xs ++ ys) ≡ readings xs ++ readings ys
readings_append [] ys = refl
readings_append (begins f ∷ xs) ys = readings_append xs ys
readings_append (makes x j ∷ xs) ys = ap (λ l. Kill x ∷ l) (readings_append xs ys)
readings_append (tells e ∷ xs) ys = ap (λ l. action_of e ∷ l) (readings_append xs ys)
readings_append (repeats e ∷ xs) ys = readings_append xs ys

pub actions_append : (v w : List Met) → actions (v ++ w) ≡ actions v ++ actions w
actions_append [] w = refl
actions_append (act a ∷ v) w = ap (λ l. a ∷ l) (actions_append v w)
actions_append (enter f ∷ v) w = actions_append v w
actions_append (leave ∷ v) w = actions_append v w
