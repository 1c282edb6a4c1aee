-- Numbers of names, whichever names come behind them.
use Rattle.std.proofs.Common.{◌≡◌, ℕ, ◌+◌, ◌++◌, List, [], ◌∷◌, map, Bool, true, false, not, ◌||◌, cond, if◌then◌else◌, Option, None, refl, sym, ap, ap₂, ◌∙◌, append_assoc, append-nil}
use Rattle.std.proofs.lemmas.List.{map-append}
use Rattle.std.proofs.lemmas.Slice.Eq.{bytes_eq-Decides}
use Rattle.std.specs.Prelude.{nat_eq, bytes_eq, ◌&&◌}
use Rattle.std.specs.List.{list_any, position_or_len}
use Rattle.std.specs.Cmp.{nat_eq_equiv}
use Rattle.indexmap.specs.IndexSet.{insert_key}
use Rattle.c_base.specs.declared.place.Pos.{Pos}
use Rattle.c_tables.specs.Tables.{StructShape}
use Rattle.c_walk.specs.Items.{Direct}
use Rattle.c_sites.specs.Names.{LeafName, own_names, site_names}
use Rattle.c_sites.specs.Numbers.{same_name, with_name, with_names, number_of, first_number}
use Rattle.c_sites.specs.Kinds.{UseSite, variable_of}
use Rattle.c_sites.specs.Added.{IsUse}
use Rattle.c_sites.specs.Spelled.{IsNumber, AreNamed}

-- ---- the names grow

beyond_one : Bool → LeafName → List LeafName
beyond_one true x = []
beyond_one false x = x ∷ []

grown_one : (b : Bool) (ns : List LeafName) (x : LeafName) → (if b then ns else ns ++ x ∷ []) ≡ ns ++ beyond_one b x
unfolding beyond_one
grown_one true ns x = sym (append-nil ns)
grown_one false ns x = refl

-- what stands behind the names once these are among them
pub beyond : List LeafName → List LeafName → List LeafName
beyond ns [] = []
beyond ns (x ∷ xs) = beyond_one (list_any (same_name x) ns) x ++ beyond (with_name ns x) xs

pub grown : (ns xs : List LeafName) → with_names ns xs ≡ ns ++ beyond ns xs
unfolding beyond
grown ns [] = sym (append-nil ns)
grown ns (x ∷ xs) =
    let one = beyond_one (list_any (same_name x) ns) x in
    let rest = beyond (with_name ns x) xs in
    grown (with_name ns x) xs ∙ ap (λ l. l ++ rest) (grown_one (list_any (same_name x) ns) ns x) ∙ append_assoc ns one rest

pub with_both : (ns xs ys : List LeafName) → with_names ns (xs ++ ys) ≡ with_names (with_names ns xs) ys
with_both ns [] ys = refl
with_both ns (x ∷ xs) ys = with_both (with_name ns x) xs ys

-- ---- a name's place

module _ (p : LeafName → Bool) where
  found : (ns more : List LeafName) → list_any p ns ≡ true → position_or_len p (ns ++ more) ≡ position_or_len p ns
  found [] more h = cc
  found (n ∷ ns) more h = by (p n) h (found ns more)
    where
      by : (b : Bool) → (b || list_any p ns) ≡ true → (list_any p ns ≡ true → position_or_len p (ns ++ more) ≡ position_or_len p ns) → cond (not b) (1 + position_or_len p (ns ++ more)) 0 ≡ cond (not b) (1 + position_or_len p ns) 0
      by true h rest = refl
      by false h rest = ap (λ n. 1 + n) (rest h)

  placed : (x : LeafName) → p x ≡ true → (ns more : List LeafName) → list_any p ns ≡ false → position_or_len p ((ns ++ x ∷ []) ++ more) ≡ position_or_len p ns
  placed x t [] more h = ap (λ b. cond (not b) (1 + position_or_len p more) 0) t
  placed x t (n ∷ ns) more h = by (p n) h (placed x t ns more)
    where
      by : (b : Bool) → (b || list_any p ns) ≡ false → (list_any p ns ≡ false → position_or_len p ((ns ++ x ∷ []) ++ more) ≡ position_or_len p ns) → cond (not b) (1 + position_or_len p ((ns ++ x ∷ []) ++ more)) 0 ≡ cond (not b) (1 + position_or_len p ns) 0
      by true h rest = cc
      by false h rest = ap (λ n. 1 + n) (rest h)

  stays : (x : LeafName) → p x ≡ true → (ns more : List LeafName) → position_or_len p ((if list_any p ns then ns else ns ++ x ∷ []) ++ more) ≡ position_or_len p ns
  stays x t ns more = by (list_any p ns) refl
    where
      by : (b : Bool) → list_any p ns ≡ b → position_or_len p ((if b then ns else ns ++ x ∷ []) ++ more) ≡ position_or_len p ns
      by true e = found ns more e
      by false e = placed x t ns more e

pub same_itself : (x : LeafName) → same_name x x ≡ true
same_itself x =
    let v : nat_eq x.variable x.variable ≡ true = nat_eq_equiv.refl x.variable in
    let t : bytes_eq x.text x.text ≡ true = (bytes_eq-Decides x.text x.text).1 refl in
    ap (λ b. b && bytes_eq x.text x.text) v ∙ t

-- ---- names as keys

module _ {K : Type 0} (f : K → LeafName) where
  abbrev eq : K → K → Bool
  eq a b = same_name (f a) (f b)

  any_map : (k : K) (ks : List K) → list_any (eq k) ks ≡ list_any (same_name (f k)) (map f ks)
  any_map k [] = refl
  any_map k (j ∷ ks) = ap (λ b. same_name (f k) (f j) || b) (any_map k ks)

  place_map : (k : K) (ks : List K) → position_or_len (eq k) ks ≡ position_or_len (same_name (f k)) (map f ks)
  place_map k [] = refl
  place_map k (j ∷ ks) = ap (λ n. cond (not (same_name (f k) (f j))) (1 + n) 0) (place_map k ks)

  chosen_map : (b : Bool) (k : K) (ks : List K) → map f (if b then ks else ks ++ k ∷ []) ≡ (if b then map f ks else map f ks ++ f k ∷ [])
  chosen_map true k ks = refl
  chosen_map false k ks = map-append f ks (k ∷ [])

  pub inserted_name : (k : K) (ks new : List K) → new ≡ insert_key eq ks k → map f new ≡ with_name (map f ks) (f k)
  inserted_name k ks new e = ap (map f) e ∙ chosen_map (list_any (eq k) ks) k ks ∙ ap (λ b. if b then map f ks else map f ks ++ f k ∷ []) (any_map k ks)

  pub inserted_number : (k : K) (ks : List K) (i n : ℕ) → i ≡ position_or_len (eq k) ks → n ≡ i + 1 → IsNumber (with_name (map f ks) (f k)) (f k) n
  inserted_number k ks i n a b more =
      b ∙ ap (λ i. i + 1) (a ∙ place_map k ks ∙ sym (stays (same_name (f k)) (f k) (same_itself (f k)) (map f ks) more))

-- ---- names in turn

pub named_none : (ns : List LeafName) (a : List ℕ) → AreNamed ns ns [] a a
named_none ns a = record { names = refl; numbers = λ more. sym (append-nil a) }

pub named_one : (n m : List LeafName) (x : LeafName) (k : ℕ) (a b : List ℕ) → m ≡ with_name n x → IsNumber m x k → b ≡ a ++ k ∷ [] → AreNamed n m (x ∷ []) a b
named_one n m x k a b e h t = record { names = e; numbers = λ more. t ∙ ap (λ j. a ++ j ∷ []) (h more) }

pub named_before : (n m o : List LeafName) (xs ys : List LeafName) (a b c d : List ℕ) → AreNamed n m xs a b → AreNamed m o ys c d → (more : List LeafName) → b ≡ a ++ map (number_of (o ++ more)) xs
named_before n m o xs ys a b c d first second more =
    let behind = beyond m ys in
    let whole : m ++ (behind ++ more) ≡ o ++ more = sym (append_assoc m behind more) ∙ ap (λ l. l ++ more) (sym (second.names ∙ grown m ys)) in
    first.numbers (behind ++ more) ∙ ap (λ l. a ++ map (number_of l) xs) whole

-- a use, whose own name is named before its leaf names
pub use_named : (old mid new : List LeafName) (rows : List StructShape) (p : Pos) (f : ℕ) (d : Option Direct) (a b : List ℕ) (s : UseSite) → AreNamed old mid (own_names d) [] a → AreNamed mid new (site_names rows d) [] b
    → s ≡ record { pos = p; function = f; variable = variable_of d; name = first_number a; names = b; owner = None } → IsUse old new rows p f d None s
use_named old mid new rows p f d a b s own leaves is = record {
  names = leaves.names ∙ ap (λ m. with_names m (site_names rows d)) own.names ∙ sym (with_both old (own_names d) (site_names rows d));
  site = λ more. is ∙ ap₂ (λ (n : List ℕ) (m : List ℕ). record { pos = p; function = f; variable = variable_of d; name = first_number n; names = m; owner = None })
      (named_before old mid new (own_names d) (site_names rows d) [] a [] b own leaves more) (leaves.numbers more);
}

pub named_both : (n m o : List LeafName) (xs ys : List LeafName) (a b c : List ℕ) → AreNamed n m xs a b → AreNamed m o ys b c → AreNamed n o (xs ++ ys) a c
named_both n m o xs ys a b c first second =
    let behind = beyond m ys in
    record {
      names = second.names ∙ ap (λ m. with_names m ys) first.names ∙ sym (with_both n xs ys);
      numbers = λ more.
          let f = number_of (o ++ more) in
          let whole : m ++ (behind ++ more) ≡ o ++ more = sym (append_assoc m behind more) ∙ ap (λ l. l ++ more) (sym (second.names ∙ grown m ys)) in
          let front : b ≡ a ++ map f xs = first.numbers (behind ++ more) ∙ ap (λ l. a ++ map (number_of l) xs) whole in
          second.numbers more ∙ ap (λ b. b ++ map f ys) front ∙ append_assoc a (map f xs) (map f ys) ∙ ap (λ l. a ++ l) (sym (map-append f xs ys));
    }
