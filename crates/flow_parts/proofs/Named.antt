-- The sites of variables that are declared in functions are the program's parts, under the same numbers and names.
use Rattle.std.proofs.Common.{◌≡◌, ℕ, suc, ◌-◌, ◌++◌, List, [], ◌∷◌, map, Option, Some, None, false, refl, ap, sym, subst, ◌∙◌, arith, append-nil}
use Rattle.std.specs.Prelude.{Contains, zero}
use Rattle.std.proofs.lemmas.List.Elements.{Contains-append_left, Contains-append_right}
use Rattle.c_syntax.specs.declared.text.Text.{Text}
use Rattle.c_tables.specs.Tables.{StructShape}
use Rattle.c_walk.specs.Items.{Direct, Item, def, used}
use Rattle.c_walk.specs.Counted.{def_count, use_count}
use Rattle.c_walk.specs.Units as units
use Rattle.c_sites.specs.Names as names
use Rattle.c_sites.specs.Names.{LeafName, leaf_name, own_names, site_leaves, site_names, item_names}
use Rattle.c_sites.specs.Numbers.{site_numbers}
use Rattle.c_sites.specs.Kinds.{DefSite, UseSite, variable_of}
use Rattle.c_meaning.specs.Calls.{Source}
use Rattle.flow_walks.proofs.Appended.{defs_both}
use Rattle.flow_parts.specs.Items.{def_at, use_at, is_among}
use Rattle.flow_parts.specs.Parts.{site_of, part_of, parts_of}
use Rattle.flow_parts.specs.Sites.{all_items, all_names, all_sites, IsAt, IsInner, IsPart, DefinitionsAreParts, UsesAreParts}
use Rattle.flow_parts.proofs.Lists.{none_there}
use Rattle.flow_parts.proofs.Found.{def_there, use_there}
use Rattle.flow_parts.proofs.Numbers.{site_back, use_back}
use Rattle.flow_parts.proofs.Told.{outside, part_site, told}

no_number : (n : ℕ) → None ≡ Some n → ⊥
no_number n e = cc

same_number : (m n : ℕ) → Some m ≡ Some n → m ≡ n
same_number m n e = cc

mapped_there : (x : ℕ) (ys : List Text) (y : Text) → Contains ys y → Contains (map (leaf_name x) ys) (leaf_name x y)
mapped_there x [] y c = absurd (none_there y c)
mapped_there x (z ∷ ys) y (zero, l, e) = (0, omega arith, ap (leaf_name x) e)
mapped_there x (z ∷ ys) y (suc k, l, e) = let m = mapped_there x ys y (k, omega (arith, l), e) in Contains-append_right (leaf_name x z ∷ []) (map (leaf_name x) ys) (leaf_name x y) m

-- a name of an item is one of all
named_there : (rows : List StructShape) (pre : List Item) (i : Item) (rest : List Item) (x : LeafName) → Contains (item_names rows i) x → Contains (names.all_names rows (pre ++ i ∷ rest)) x
named_there rows [] i rest x c = Contains-append_left (item_names rows i) (names.all_names rows rest) x c
named_there rows (j ∷ pre) i rest x c = Contains-append_right (item_names rows j) (names.all_names rows (pre ++ i ∷ rest)) x (named_there rows pre i rest x c)

-- a site that has a variable is direct
record IsDirect (o : Option Direct) (x : ℕ) : Type 0 where
  direct : Direct
  is : o ≡ Some direct
  variable : direct.variable ≡ x

direct_is : (o : Option Direct) (x : ℕ) → variable_of o ≡ Some x → IsDirect o x
direct_is None x e = absurd (no_number x e)
direct_is (Some d) x e = record { direct = d; is = refl; variable = same_number d.variable x e }

module _ (P : Source) where
  abbrev rows : List StructShape
  rows = P.tables.structures

  abbrev all : List Item
  all = all_items P

  abbrev ns : List LeafName
  ns = all_names P

  definition : (d n : ℕ) (x : DefSite) → IsAt (all_sites P).defs d x → x.variable ≡ Some n → IsInner P n → IsPart P n x.names ((parts_of P).defined d)
  definition d n x at xv inner =
      let s = site_back ns rows all (d - 1) x at.1 in
      let i = direct_is s.direct n (sym (ap (λ (y : DefSite). y.variable) s.site) ∙ xv) in
      let D = i.direct in
      let cut : all ≡ s.pre ++ def s.place s.function (Some D) ∷ s.rest = s.cut ∙ ap (λ o. s.pre ++ def s.place s.function o ∷ s.rest) i.is in
      let number = s.number in
      let first = at.0 in
      let is : suc (def_count s.pre) ≡ d = omega (arith, number, first) in
      let here : def_at d all ≡ Some D = ap (def_at d) cut ∙ ap (λ (k : ℕ). def_at k (s.pre ++ def s.place s.function (Some D) ∷ s.rest)) (sym is) ∙ def_there s.pre s.place s.function (Some D) s.rest in
      let free : is_among D.variable (outside P) ≡ false = ap (λ (k : ℕ). is_among k (outside P)) i.variable ∙ inner in
      let size = ap def_count cut ∙ defs_both s.pre (def s.place s.function (Some D) ∷ s.rest) in
      let t = told P d D here free P.unit.externals units.no_items ([], sym (append-nil all)) (omega (arith, first)) (omega (arith, size, number, first)) free in
      record {
        site = site_of P.tables t.is_parameter D;
        is = t.is;
        variable = i.variable;
        numbered = ap (λ (y : DefSite). y.names) s.site ∙ ap (site_numbers ns rows) i.is;
        named = λ y c. subst (λ (is : List Item). Contains (names.all_names rows is) (leaf_name D.variable y)) (sym cut)
            (named_there rows s.pre (def s.place s.function (Some D)) s.rest (leaf_name D.variable y) (mapped_there D.variable (site_leaves rows (Some D)) y c));
      }

  use_part : (u n : ℕ) (x : UseSite) → IsAt (all_sites P).uses u x → x.variable ≡ Some n → IsInner P n → IsPart P n x.names ((parts_of P).used u)
  use_part u n x at xv inner =
      let s = use_back ns rows all (u - 1) x at.1 in
      let i = direct_is s.direct n (sym (ap (λ (y : UseSite). y.variable) s.site) ∙ xv) in
      let D = i.direct in
      let item = used s.place s.function (Some D) s.owner in
      let cut : all ≡ s.pre ++ item ∷ s.rest = s.cut ∙ ap (λ o. s.pre ++ used s.place s.function o s.owner ∷ s.rest) i.is in
      let number = s.number in
      let first = at.0 in
      let is : suc (use_count s.pre) ≡ u = omega (arith, number, first) in
      let here : use_at u all ≡ Some D = ap (use_at u) cut ∙ ap (λ (k : ℕ). use_at k (s.pre ++ item ∷ s.rest)) (sym is) ∙ use_there s.pre s.place s.function (Some D) s.owner s.rest in
      let free : is_among D.variable (outside P) ≡ false = ap (λ (k : ℕ). is_among k (outside P)) i.variable ∙ inner in
      record {
        site = site_of P.tables false D;
        is = ap (part_of P.tables (outside P)) here ∙ part_site P D free;
        variable = i.variable;
        numbered = ap (λ (y : UseSite). y.names) s.site ∙ ap (site_numbers ns rows) i.is;
        named = λ y c. subst (λ (is : List Item). Contains (names.all_names rows is) (leaf_name D.variable y)) (sym cut) (named_there rows s.pre item s.rest (leaf_name D.variable y)
            (Contains-append_right (own_names (Some D)) (site_names rows (Some D)) (leaf_name D.variable y) (mapped_there D.variable (site_leaves rows (Some D)) y c)));
      }

pub definitions_are_parts : DefinitionsAreParts
definitions_are_parts P d n x at xv inner = definition P d n x at xv inner

pub uses_are_parts : UsesAreParts
uses_are_parts P u n x at xv inner = use_part P u n x at xv inner
