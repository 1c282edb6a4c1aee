-- The numbers of leaf names are at most as many as the names.
use Rattle.std.proofs.Common.{◌≡◌, ℕ, zero, suc, ◌+◌, ◌≤◌, ◌<◌, ◌++◌, ◌⊎◌, inl, inr, List, [], ◌∷◌, map, length, get_or, Bool, true, false, not, ◌||◌, cond, sym, ap, ◌∙◌, subst, arith}
use Rattle.std.proofs.lemmas.List.{length-map}
use Rattle.std.specs.List.{list_any, position_or_len, Any, Contains, AllByRecursion}
use Rattle.c_tables.specs.Tables.{StructShape}
use Rattle.c_walk.specs.Items.{Item, block, decision, def, used}
use Rattle.c_sites.specs.declared.lists.Lists.{Lists}
use Rattle.c_sites.specs.declared.lists.DefSite as code_def
use Rattle.c_sites.specs.declared.lists.UseSite as code_use
use Rattle.c_sites.specs.Names.{LeafName, own_names, site_names, all_names}
use Rattle.c_sites.specs.Numbers.{same_name, with_name, with_names, names_of, number_of, first_number}
use Rattle.c_sites.specs.Kinds.{DefSite, defs, UseSite, uses}
use Rattle.c_sites.specs.Lists.{lists_of}
use Rattle.c_sites.specs.ListsView.{def_shape, use_shape, lists_shape}
use Rattle.c_sites.specs.Spelled.{spelling}
use Rattle.c_sites.specs.Leaf.{HaveTexts}
use Rattle.c_sites.proofs.Apart.{any_more, named_now}

module _ {X : Type 0} where
  at_of : (P : X → Type 0) (xs : List X) → AllByRecursion P xs → (k : ℕ) (x : X) → k < length xs → get_or xs k x ≡ x → P x
  at_of P [] h k x lt e = absurd (omega (arith, lt))
  at_of P (y ∷ xs) h zero x lt e = subst P e h.0
  at_of P (y ∷ xs) h (suc k) x lt e = at_of P xs h.1 k x (omega arith) e

  all_front : (P : X → Type 0) (xs ys : List X) → AllByRecursion P (xs ++ ys) → AllByRecursion P xs
  all_front P [] ys h = tt
  all_front P (x ∷ xs) ys h = (h.0, all_front P xs ys h.1)

  all_back : (P : X → Type 0) (xs ys : List X) → AllByRecursion P (xs ++ ys) → AllByRecursion P ys
  all_back P [] ys h = h
  all_back P (x ∷ xs) ys h = all_back P xs ys h.1

  pub all_unmap : {Y : Type 0} (P : Y → Type 0) (f : X → Y) (xs : List X) → AllByRecursion P (map f xs) → AllByRecursion (λ x. P (f x)) xs
  all_unmap P f [] h = tt
  all_unmap P f (x ∷ xs) h = (h.0, all_unmap P f xs h.1)

-- ---- of names that are among them

abbrev IsAmong : List LeafName → LeafName → Type 0
IsAmong ns x = list_any (same_name x) ns ≡ true

abbrev AreBelow : ℕ → List ℕ → Type 0
AreBelow m xs = AllByRecursion (λ n. n ≤ m) xs

all_named : (ns xs : List LeafName) → AllByRecursion (IsAmong (with_names ns xs)) xs
all_named ns [] = tt
all_named ns (x ∷ xs) = (any_more (same_name x) (with_name ns x) xs (named_now ns x), all_named (with_name ns x) xs)

place_within : (p : LeafName → Bool) (ns : List LeafName) → list_any p ns ≡ true → position_or_len p ns < length ns
place_within p [] h = cc
place_within p (n ∷ ns) h = by (p n) h (place_within p ns)
  where
    by : (b : Bool) → (b || list_any p ns) ≡ true → (list_any p ns ≡ true → position_or_len p ns < length ns) → cond (not b) (1 + position_or_len p ns) 0 < suc (length ns)
    by true h rest = omega arith
    by false h rest = let r = rest h in omega arith

numbers_below : (ns xs : List LeafName) → AllByRecursion (IsAmong ns) xs → AreBelow (length ns) (map (number_of ns) xs)
numbers_below ns [] h = tt
numbers_below ns (x ∷ xs) h = let p = place_within (same_name x) ns h.0 in (omega arith, numbers_below ns xs h.1)

first_below : (m : ℕ) (xs : List ℕ) → AreBelow m xs → first_number xs ≤ m
first_below m [] h = omega arith
first_below m (n ∷ rest) h = h.0

-- ---- of the sites of a list

module _ (ns : List LeafName) (rows : List StructShape) where
  defs_below : (is : List Item) → AllByRecursion (IsAmong ns) (all_names rows is) → AllByRecursion (λ (d : DefSite). AreBelow (length ns) d.names) (defs ns rows is)
  defs_below [] h = tt
  defs_below (block p ∷ is) h = defs_below is h
  defs_below (decision p o ∷ is) h = defs_below is h
  defs_below (def p f d ∷ is) h = (numbers_below ns (site_names rows d) (all_front (IsAmong ns) (site_names rows d) (all_names rows is) h), defs_below is (all_back (IsAmong ns) (site_names rows d) (all_names rows is) h))
  defs_below (used p f d o ∷ is) h = defs_below is (all_back (IsAmong ns) (own_names d ++ site_names rows d) (all_names rows is) h)

  uses_below : (is : List Item) → AllByRecursion (IsAmong ns) (all_names rows is) → AllByRecursion (λ (u : UseSite). u.name ≤ length ns) (uses ns rows is)
  uses_below [] h = tt
  uses_below (block p ∷ is) h = uses_below is h
  uses_below (decision p o ∷ is) h = uses_below is h
  uses_below (def p f d ∷ is) h = uses_below is (all_back (IsAmong ns) (site_names rows d) (all_names rows is) h)
  uses_below (used p f d o ∷ is) h =
      let names = own_names d ++ site_names rows d in
      let own = all_front (IsAmong ns) (own_names d) (site_names rows d) (all_front (IsAmong ns) names (all_names rows is) h) in
      (first_below (length ns) (map (number_of ns) (own_names d)) (numbers_below ns (own_names d) own), uses_below is (all_back (IsAmong ns) names (all_names rows is) h))

module _ (rows : List StructShape) (is : List Item) (ns : List LeafName) (l : Lists) (same : ns ≡ names_of rows is) (shape : lists_shape l ≡ lists_of ns rows is) where
  among : AllByRecursion (IsAmong ns) (all_names rows is)
  among = subst (λ ns. AllByRecursion (IsAmong ns) (all_names rows is)) (sym same) (all_named [] (all_names rows is))

  def_below : (n : ℕ) → Any (λ d. Contains d.names n) l.defs.items → n ≤ length ns
  def_below n a =
      let e : map def_shape l.defs.items ≡ defs ns rows is = ap (λ l. l.defs) shape in
      let all = subst (AllByRecursion (λ (d : DefSite). AreBelow (length ns) d.names)) (sym e) (defs_below ns rows is among) in
      let own = at_of (λ (d : code_def.DefSite). AreBelow (length ns) d.names) l.defs.items (all_unmap (λ (d : DefSite). AreBelow (length ns) d.names) def_shape l.defs.items all) a.0 a.1 a.2 a.3 in
      at_of (λ n. n ≤ length ns) a.1.names own a.4.0 n a.4.1 a.4.2

  use_below : (n : ℕ) → Any (λ u. u.name ≡ n) l.uses.items → n ≤ length ns
  use_below n a =
      let e : map use_shape l.uses.items ≡ uses ns rows is = ap (λ l. l.uses) shape in
      let all = subst (AllByRecursion (λ (u : UseSite). u.name ≤ length ns)) (sym e) (uses_below ns rows is among) in
      let own = at_of (λ (u : code_use.UseSite). u.name ≤ length ns) l.uses.items (all_unmap (λ (u : UseSite). u.name ≤ length ns) use_shape l.uses.items all) a.0 a.1 a.2 a.3 in
      subst (λ n. n ≤ length ns) a.4 own

  either_below : (n : ℕ) → ((Any (λ d. Contains d.names n) l.defs.items) ⊎ (Any (λ u. u.name ≡ n) l.uses.items)) → n ≤ length ns
  either_below n (inl a) = def_below n a
  either_below n (inr a) = use_below n a

  pub have_texts : (texts : List (List ℕ)) → texts ≡ map spelling ns → HaveTexts l texts
  have_texts texts spelt n leaf =
      let count : length texts ≡ length ns = ap length spelt ∙ length-map ns spelling in
      let below = either_below n leaf.1 in
      omega arith
