-- Names at their numbers.
use Rattle.std.proofs.Common.{◌≡◌, ℕ, zero, suc, ◌+◌, ◌-◌, ◌<◌, ◌++◌, List, [], ◌∷◌, map, length, get_or, Bool, true, false, not, ◌||◌, cond, if◌then◌else◌, Some, option_map, slice_get, refl, sym, ap, ◌∙◌, subst, arith}
use Rattle.std.specs.Prelude.{nat_eq, bytes_eq, ◌&&◌, Contains}
use Rattle.std.proofs.lemmas.Bool.{eqb-true}
use Rattle.std.proofs.lemmas.Slice.Eq.{bytes_eq-Decides}
use Rattle.std.proofs.lemmas.Option.{slice_get-map}
use Rattle.std.specs.List.{list_any, position_or_len}
use Rattle.c_tables.specs.Tables.{StructShape}
use Rattle.c_walk.specs.Items.{Item}
use Rattle.c_sites.specs.Names.{LeafName, all_names}
use Rattle.c_sites.specs.Numbers.{same_name, with_name, with_names, names_of, number_of}
use Rattle.c_sites.specs.Spelled.{spelling}
use Rattle.c_sites.specs.Leaf.{AreApart, AreSpelled}
use Rattle.c_sites.proofs.Numbering.{same_itself}

both_true : (a b : Bool) → (a && b) ≡ true → (a ≡ true) × (b ≡ true)
both_true true b h = (refl, h)
both_true false b h = cc

same : (x y : LeafName) → same_name x y ≡ true → y ≡ x
same x y h =
    let p = both_true (nat_eq x.variable y.variable) (bytes_eq x.text y.text) h in
    let v : x.variable ≡ y.variable = eqb-true x.variable y.variable p.0 in
    let t : x.text ≡ y.text = (bytes_eq-Decides x.text y.text).0 p.1 in
    λ j. record { variable = sym v j; text = sym t j }

-- what is among the names stands at its number
module _ (x : LeafName) where
  at_place : (ns : List LeafName) → list_any (same_name x) ns ≡ true → slice_get ns (position_or_len (same_name x) ns) ≡ Some x
  at_place [] h = cc
  at_place (n ∷ ns) h = by (same_name x n) refl h (at_place ns)
    where
      by : (b : Bool) → same_name x n ≡ b → (b || list_any (same_name x) ns) ≡ true → (list_any (same_name x) ns ≡ true → slice_get ns (position_or_len (same_name x) ns) ≡ Some x)
          → slice_get (n ∷ ns) (cond (not b) (1 + position_or_len (same_name x) ns) 0) ≡ Some x
      by true e h rest = ap Some (same x n e)
      by false e h rest = let k = position_or_len (same_name x) ns in let s : 1 + k ≡ suc k = omega arith in ap (slice_get (n ∷ ns)) s ∙ rest h

  pub at_number : (ns : List LeafName) → list_any (same_name x) ns ≡ true → slice_get ns (number_of ns x - 1) ≡ Some x
  at_number ns h = let k = position_or_len (same_name x) ns in let s : k + 1 - 1 ≡ k = omega arith in ap (slice_get ns) s ∙ at_place ns h

pub numbers_apart : (ns : List LeafName) (x y : LeafName) → list_any (same_name x) ns ≡ true → list_any (same_name y) ns ≡ true → number_of ns x ≡ number_of ns y → x ≡ y
numbers_apart ns x y h k e =
    let s : Some x ≡ Some y = sym (at_number x ns h) ∙ ap (λ n. slice_get ns (n - 1)) e ∙ at_number y ns k in
    cc

-- ---- what is named is among the names

or_right : (a b : Bool) → b ≡ true → (a || b) ≡ true
or_right true b h = refl
or_right false b h = h

module _ (p : LeafName → Bool) where
  any_front : (ns more : List LeafName) → list_any p ns ≡ true → list_any p (ns ++ more) ≡ true
  any_front [] more h = cc
  any_front (n ∷ ns) more h = by (p n) h (any_front ns more)
    where
      by : (b : Bool) → (b || list_any p ns) ≡ true → (list_any p ns ≡ true → list_any p (ns ++ more) ≡ true) → (b || list_any p (ns ++ more)) ≡ true
      by true h rest = refl
      by false h rest = rest h

  any_last : (ns : List LeafName) (x : LeafName) → p x ≡ true → list_any p (ns ++ x ∷ []) ≡ true
  any_last [] x h = ap (λ b. b || false) h
  any_last (n ∷ ns) x h = or_right (p n) (list_any p (ns ++ x ∷ [])) (any_last ns x h)

  any_with : (ns : List LeafName) (y : LeafName) → list_any p ns ≡ true → list_any p (with_name ns y) ≡ true
  any_with ns y h = by (list_any (same_name y) ns)
    where
      by : (b : Bool) → list_any p (if b then ns else ns ++ y ∷ []) ≡ true
      by true = h
      by false = any_front ns (y ∷ []) h

  pub any_more : (ns xs : List LeafName) → list_any p ns ≡ true → list_any p (with_names ns xs) ≡ true
  any_more ns [] h = h
  any_more ns (y ∷ xs) h = any_more (with_name ns y) xs (any_with ns y h)

pub named_now : (ns : List LeafName) (x : LeafName) → list_any (same_name x) (with_name ns x) ≡ true
named_now ns x = by (list_any (same_name x) ns) refl
  where
    by : (b : Bool) → list_any (same_name x) ns ≡ b → list_any (same_name x) (if b then ns else ns ++ x ∷ []) ≡ true
    by true e = e
    by false e = any_last (same_name x) ns x (same_itself x)

named_at : (ns xs : List LeafName) (x : LeafName) (k : ℕ) → k < length xs → get_or xs k x ≡ x → list_any (same_name x) (with_names ns xs) ≡ true
named_at ns [] x k h e = absurd (omega (arith, h))
named_at ns (y ∷ xs) x zero h e = any_more (same_name x) (with_name ns y) xs (subst (λ y. list_any (same_name x) (with_name ns y) ≡ true) (sym e) (named_now ns x))
named_at ns (y ∷ xs) x (suc k) h e = named_at (with_name ns y) xs x k (omega arith) e

pub named : (ns xs : List LeafName) (x : LeafName) → Contains xs x → list_any (same_name x) (with_names ns xs) ≡ true
named ns xs x c = named_at ns xs x c.0 c.1 c.2

-- ---- the sites of a list

pub are_apart : (rows : List StructShape) (is : List Item) → AreApart rows is
are_apart rows is x y h k e =
    numbers_apart (names_of rows is) x y (named [] (all_names rows is) x h) (named [] (all_names rows is) y k) e

pub are_spelled : (rows : List StructShape) (is : List Item) (texts : List (List ℕ)) → texts ≡ map spelling (names_of rows is) → AreSpelled rows is texts
are_spelled rows is texts e x h =
    let n = number_of (names_of rows is) x - 1 in
    ap (λ t. slice_get t n) e ∙ slice_get-map spelling (names_of rows is) n ∙ ap (option_map spelling) (at_number x (names_of rows is) (named [] (all_names rows is) x h))
