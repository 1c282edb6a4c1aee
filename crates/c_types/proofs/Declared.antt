-- External declarations, one at a time and in place.
use Rattle.std.proofs.Common.{◌≡◌, ℕ, ◌+◌, ◌<◌, ◌≤◌, List, [], ◌∷◌, ◌++◌, length, map, get_or, take, drop, refl, sym, ap, ◌∙◌, arith, add-one, drop-cons}
use Rattle.std.proofs.Math.ListN.{set}
use Rattle.std.proofs.Math.Seq.{take-suc-set}
use Rattle.std.proofs.lemmas.List.{drop-set-lt, drop_all, take_all}
use Rattle.c_syntax.specs.Shape.{ExternalShape}
use Rattle.c_syntax.specs.declared.tree.External.{External}
use Rattle.c_syntax.specs.View.{external_shape}
use Rattle.c_tree.specs.State.{State}
use Rattle.c_tree.specs.Units.{TypedExternals, type_external, type_externals}

one_external : ExternalShape → TypedExternals → TypedExternals
one_external e r = record { externals = e ∷ r.externals; state = r.state }

externals_cons : (e : ExternalShape) (rest : List ExternalShape) (s : State) → type_externals (e ∷ rest) s ≡ one_external (type_external e s).external (type_externals rest (type_external e s).state)
unfolding one_external
externals_cons e rest s = refl

-- declarations that stand before others
pub before_externals : List External → TypedExternals → TypedExternals
before_externals [] r = r
before_externals (x ∷ xs) r = one_external (external_shape x) (before_externals xs r)

before_pushed : (xs : List External) (x : External) (r : TypedExternals) → before_externals (xs ++ x ∷ []) r ≡ before_externals xs (one_external (external_shape x) r)
unfolding before_externals
before_pushed [] y r = refl
before_pushed (x ∷ xs) y r = ap (one_external (external_shape x)) (before_pushed xs y r)

module _ (ls : List External) (i : ℕ) (old new : External) (h : i < length ls) where
  before_set : (r : TypedExternals) → before_externals (take (i + 1) (set ls i new)) r ≡ before_externals (take i ls) (one_external (external_shape new) r)
  before_set r = rw (add-one, take-suc-set ls i new h) (before_pushed (take i ls) new r)

  rest_set : map external_shape (drop (i + 1) (set ls i new)) ≡ map external_shape (drop (i + 1) ls)
  rest_set = ap (map external_shape) (drop-set-lt (i + 1) ls i new (omega arith))

  rest_cons : old ≡ get_or ls i old → map external_shape (drop i ls) ≡ external_shape old ∷ map external_shape (drop (i + 1) ls)
  rest_cons e = ap (map external_shape) (drop-cons ls i old h) ∙ rw (← e, add-one) refl

  -- the one at the index, in place
  pub next_external : (s t : State) (all : TypedExternals) → old ≡ get_or ls i old → external_shape new ≡ (type_external (external_shape old) s).external → t ≡ (type_external (external_shape old) s).state →
      before_externals (take i ls) (type_externals (map external_shape (drop i ls)) s) ≡ all →
      before_externals (take (i + 1) (set ls i new)) (type_externals (map external_shape (drop (i + 1) (set ls i new))) t) ≡ all
  next_external s t all w d g r =
      before_set (type_externals (map external_shape (drop (i + 1) (set ls i new))) t)
      ∙ ap (before_externals (take i ls)) (rw (rest_set, d, g) (sym (externals_cons (external_shape old) (map external_shape (drop (i + 1) ls)) s) ∙ ap (λ x. type_externals x s) (sym (rest_cons w))))
      ∙ r

all_externals : (xs : List External) (s : State) → before_externals xs (type_externals [] s) ≡ record { externals = map external_shape xs; state = s }
unfolding before_externals one_external
all_externals [] s = refl
all_externals (x ∷ xs) s = ap (one_external (external_shape x)) (all_externals xs s)

pub externals_done : (ls : List External) (i : ℕ) (s : State) (all : TypedExternals) → length ls ≤ i → before_externals (take i ls) (type_externals (map external_shape (drop i ls)) s) ≡ all → record { externals = map external_shape ls; state = s } ≡ all
externals_done ls i s all h r = sym (all_externals ls s) ∙ rw (drop_all i ls h, take_all i ls h) at r

pub none_before : (r : TypedExternals) → before_externals [] r ≡ r
unfolding before_externals
none_before r = refl
