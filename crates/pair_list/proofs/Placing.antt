-- The sites of pairs that are listed are there.
use Rattle.std.proofs.Common.{ℕ, ◌+◌, ◌-◌, ◌<◌, ◌≤◌, ◌≡◌, inr, List, length, map, Some, refl, ap, sym, subst, ◌∙◌, arith}
use Rattle.std.specs.Prelude.{slice_get, All, IsSome}
use Rattle.std.specs.String.{string_bytes}
use Rattle.std.proofs.lemmas.List.{length-map}
use Rattle.std.proofs.lemmas.List.Elements.{All-from_recursion, All-get_or}
use Rattle.std.proofs.lemmas.Option.{slice_get_within, get_or_from_slice_get}
use Rattle.c_syntax.specs.Shape.{UnitShape}
use Rattle.c_tables.specs.Tables.{TablesShape}
use Rattle.c_sites.specs.declared.lists.UseSite.{UseSite}
use Rattle.c_sites.specs.declared.numbered.Sites.{Sites}
use Rattle.c_sites.specs.Refused.{IsRead}
use Rattle.pair_list.specs.declared.pairs.Pair.{Pair}
use Rattle.pair_list.specs.PairLists.{AreThose, all_pairs, items_in}
use Rattle.atac_base.specs.Items.{ItemLists}
use Rattle.pair_list.specs.Items.{IsListed, most_items, outcome_rows, c_use_rows, p_use_rows, AreItems, AreTooMany}
use Rattle.pair_list.specs.Placed.{IsPlaced}
use Rattle.pair_list.proofs.Among.{each_from, those_each, not_both}

-- a use with a variable has a leaf name, and that has a text
named_text : (s : Sites) → All (IsRead (length s.lists.decisions.items)) s.lists.uses.items → (j : ℕ) (used : UseSite) (x : ℕ) → slice_get s.lists.uses.items j ≡ Some used → used.variable ≡ Some x → (1 ≤ used.name) × (used.name ≤ length s.texts.items)
named_text s reads j used x at is =
    let within = slice_get_within s.lists.uses.items j used at in
    let same = get_or_from_slice_get s.lists.uses.items j used used at in
    let read : IsRead (length s.lists.decisions.items) used = subst (IsRead (length s.lists.decisions.items)) same (All-get_or (IsRead (length s.lists.decisions.items)) s.lists.uses.items j used within reads) in
    let some : 1 ≤ used.name = read.1 (subst IsSome (sym is) refl) in
    let below = s.named used.name (some, inr (j, used, within, same, refl)) in
    let size = length-map s.texts.items string_bytes in
    (some, omega arith)

pub listed_placed : (t : TablesShape) (u : UnitShape) (s : Sites) → All (IsRead (length s.lists.decisions.items)) s.lists.uses.items → (p : Pair) → 1 ≤ p.def → p.def < 1 + length s.lists.defs.items → 1 ≤ p.used → p.used < 1 + length s.lists.uses.items → IsListed t u s p → IsPlaced s p
listed_placed t u s reads p a b c d q = record {
  def_some = a;
  def_there = omega arith;
  use_some = c;
  use_there = omega arith;
  named = λ used at.
      let other = q.1.sites.is_use in
      let same : q.1.sites.used ≡ used = some_same q.1.sites.used used (sym other.1 ∙ at) in
      named_text s reads (p.used - 1) used q.1.variable at (sym (ap (λ (y : UseSite). y.variable) same) ∙ q.1.sites.use_variable);
}
  where
    some_same : (y z : UseSite) → Some y ≡ Some z → y ≡ z
    some_same y z e = cc

pub all_placed : (t : TablesShape) (u : UnitShape) (s : Sites) → All (IsRead (length s.lists.decisions.items)) s.lists.uses.items → (pairs : List Pair) → AreThose (IsListed t u s) (all_pairs s) pairs → All (IsPlaced s) pairs
all_placed t u s reads pairs are = All-from_recursion (IsPlaced s) pairs (those_each (IsListed t u s) (IsPlaced s) (all_pairs s) pairs
    (each_from (λ p. IsListed t u s p → IsPlaced s p) (length s.lists.uses.items) 1 (length s.lists.defs.items) (λ d v a b c e. listed_placed t u s reads (record { def = d; used = v }) a b c e)) are)

-- ---- the items

pub are_items : (t : TablesShape) (u : UnitShape) (s : Sites) (pairs : List Pair) (items : ItemLists) → AreThose (IsListed t u s) (all_pairs s) pairs → items_in s pairs ≤ most_items
    → items ≡ record { blocks = s.lists.blocks.items; outcomes = outcome_rows 0 s.lists.decisions.items; c_uses = c_use_rows s pairs; p_uses = p_use_rows s pairs; names = map string_bytes s.texts.items } → AreItems t u s items
are_items t u s pairs items are few e = record {
  pairs = pairs;
  are = are;
  few = few;
  blocks = ap (λ (i : ItemLists). i.blocks) e;
  outcomes = ap (λ (i : ItemLists). i.outcomes) e;
  c_uses = ap (λ (i : ItemLists). i.c_uses) e;
  p_uses = ap (λ (i : ItemLists). i.p_uses) e;
  names = ap (λ (i : ItemLists). i.names) e;
}

-- no program has both a list of items and too many
pub excluded : (t : TablesShape) (u : UnitShape) (s : Sites) → AreTooMany t u s → (items : ItemLists) → AreItems t u s items → ⊥
excluded t u s m items a = not_both (IsListed t u s) (all_pairs s) s most_items a.pairs a.are a.few m
