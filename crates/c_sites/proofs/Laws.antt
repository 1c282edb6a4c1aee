-- For whoever asks whether a leaf name of one site is among those of another: the numbers decide it.
use Rattle.std.proofs.Common.{◌≡◌, ℕ, zero, suc, ◌<◌, List, [], ◌∷◌, map, length, get_or, true, refl, sym, ap, subst, arith}
use Rattle.std.proofs.lemmas.List.Elements.{Contains-append_left, Contains-append_right}
use Rattle.std.specs.Prelude.{Contains}
use Rattle.std.specs.List.{list_any}
use Rattle.c_tables.specs.Tables.{StructShape}
use Rattle.c_walk.specs.Items.{Item}
use Rattle.c_sites.specs.Names.{LeafName, item_names, all_names}
use Rattle.c_sites.specs.Numbers.{same_name, names_of, number_of}
use Rattle.c_sites.proofs.Apart.{numbers_apart, named}

-- the leaf names of an item of a list are among those of the list
pub names_in : (rows : List StructShape) (is : List Item) (i : Item) (x : LeafName) → Contains is i → Contains (item_names rows i) x → Contains (all_names rows is) x
names_in rows is i x c h = at is c.0 c.1 c.2
  where
    at : (is : List Item) (k : ℕ) → k < length is → get_or is k i ≡ i → Contains (all_names rows is) x
    at [] k lt e = absurd (omega (arith, lt))
    at (j ∷ is) zero lt e = Contains-append_left (item_names rows j) (all_names rows is) x (subst (λ i. Contains (item_names rows i) x) (sym e) h)
    at (j ∷ is) (suc k) lt e = Contains-append_right (item_names rows j) (all_names rows is) x (at is k (omega arith) e)

-- a number is among those of some leaf names where its name is among these, and only there
pub number_in : (rows : List StructShape) (is : List Item) (xs : List LeafName) (x : LeafName) → Contains xs x → Contains (map (number_of (names_of rows is)) xs) (number_of (names_of rows is) x)
number_in rows is xs x c = at xs c.0 c.1 c.2
  where
    at : (xs : List LeafName) (k : ℕ) → k < length xs → get_or xs k x ≡ x → Contains (map (number_of (names_of rows is)) xs) (number_of (names_of rows is) x)
    at [] k h e = absurd (omega (arith, h))
    at (y ∷ xs) zero h e = (0, omega arith, ap (number_of (names_of rows is)) e)
    at (y ∷ xs) (suc k) h e = let c = at xs k (omega arith) e in let h = c.1 in (suc c.0, omega arith, c.2)

pub name_in : (rows : List StructShape) (is : List Item) (xs : List LeafName) (x : LeafName) → ((y : LeafName) → Contains xs y → Contains (all_names rows is) y) → Contains (all_names rows is) x
    → Contains (map (number_of (names_of rows is)) xs) (number_of (names_of rows is) x) → Contains xs x
name_in rows is xs x all known c = at xs all c.0 c.1 c.2
  where
    among : (y : LeafName) → Contains (all_names rows is) y → list_any (same_name y) (names_of rows is) ≡ true
    among y h = named [] (all_names rows is) y h

    at : (xs : List LeafName) → ((y : LeafName) → Contains xs y → Contains (all_names rows is) y) → (k : ℕ) → k < length (map (number_of (names_of rows is)) xs)
        → get_or (map (number_of (names_of rows is)) xs) k (number_of (names_of rows is) x) ≡ number_of (names_of rows is) x → Contains xs x
    at [] all k h e = absurd (omega (arith, h))
    at (y ∷ xs) all zero h e = (0, omega arith, numbers_apart (names_of rows is) y x (among y (all y (0, omega arith, refl))) (among x known) e)
    at (y ∷ xs) all (suc k) h e =
        let c = at xs (λ z d. let g = d.1 in all z (suc d.0, omega arith, d.2)) k (omega arith) e in
        let h = c.1 in
        (suc c.0, omega arith, c.2)
