-- Lists of items one behind the other.
use Rattle.std.proofs.Common.{◌≡◌, ◌++◌, List, [], ◌∷◌, length, refl, sym, ap, ◌∙◌, append_assoc, append-nil, arith}
use Rattle.c_tables.specs.Tables.{StructShape}
use Rattle.c_walk.specs.Items.{Item, block, decision, def, used}
use Rattle.c_sites.specs.Names.{LeafName, item_names, all_names}
use Rattle.c_sites.specs.Numbers.{with_names}
use Rattle.c_sites.specs.Lists.{Lists, lists_of, added, joined}
use Rattle.c_sites.specs.Added.{IsAdded}
use Rattle.c_sites.proofs.Numbering.{beyond, grown, with_both}

joined_more : (ns : List LeafName) (rows : List StructShape) (i : Item) (rest : List Item) (l : Lists) → joined (added ns rows i l) (lists_of ns rows rest) ≡ joined l (lists_of ns rows (i ∷ rest))
joined_more ns rows (block p) rest l = rw append_assoc refl
joined_more ns rows (decision p o) rest l = rw append_assoc refl
joined_more ns rows (def p f d) rest l = rw append_assoc refl
joined_more ns rows (used p f d o) rest l = rw append_assoc refl

joined_none : (ns : List LeafName) (rows : List StructShape) (l : Lists) → joined l (lists_of ns rows []) ≡ l
joined_none ns rows l = rw (append-nil l.blocks, append-nil l.decisions, append-nil l.defs, append-nil l.uses) refl

-- lists so far, of whose items these are still to come, where those are the leaf names of all
pub record AreLeft (ns all : List LeafName) (rows : List StructShape) (rest is : List Item) (l : Lists) : Type 0 where
  pub names : with_names ns (all_names rows rest) ≡ all
  pub lists : joined l (lists_of all rows rest) ≡ lists_of all rows is

pub one_left : (n m all : List LeafName) (rows : List StructShape) (i : Item) (rest is : List Item) (l k : Lists) → IsAdded n m rows i l k → AreLeft n all rows (i ∷ rest) is l → AreLeft m all rows rest is k
one_left n m all rows i rest is l k a h =
    let behind = beyond m (all_names rows rest) in
    let names : with_names m (all_names rows rest) ≡ all = ap (λ m. with_names m (all_names rows rest)) a.names ∙ sym (with_both n (item_names rows i) (all_names rows rest)) ∙ h.names in
    let whole : m ++ behind ≡ all = sym (grown m (all_names rows rest)) ∙ names in
    record {
      names = names;
      lists = ap (λ k. joined k (lists_of all rows rest)) (a.lists behind ∙ ap (λ ns. added ns rows i l) whole) ∙ joined_more all rows i rest l ∙ h.lists;
    }

pub none_left : (ns all : List LeafName) (rows : List StructShape) (rest is : List Item) (l : Lists) → rest ≡ [] → AreLeft ns all rows rest is l → l ≡ lists_of all rows is
none_left ns all rows rest is l e h = sym (joined_none all rows l) ∙ ap (λ r. joined l (lists_of all rows r)) (sym e) ∙ h.lists

pub names_left : (ns all : List LeafName) (rows : List StructShape) (rest is : List Item) (l : Lists) → rest ≡ [] → AreLeft ns all rows rest is l → ns ≡ all
names_left ns all rows rest is l e h = ap (λ r. with_names ns (all_names rows r)) (sym e) ∙ h.names

pub nothing_left : {X : Type 0} (l : List X) → length l ≡ 0 → l ≡ []
nothing_left [] h = refl
nothing_left (x ∷ xs) h = absurd (omega (arith, h))
