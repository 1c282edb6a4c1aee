-- Owners are decisions, and direct uses have leaf names.
use Rattle.std.proofs.Common.{◌≡◌, ℕ, zero, suc, ◌+◌, ◌≤◌, List, [], ◌∷◌, map, length, Option, Some, None, true≢false, refl, sym, ap, ◌∙◌, subst, arith}
use Rattle.std.proofs.lemmas.List.{length-map}
use Rattle.std.specs.Prelude.{All, IsSome}
use Rattle.std.specs.List.{AllByRecursion}
use Rattle.c_tables.specs.Tables.{StructShape}
use Rattle.c_walk.specs.Items.{Direct, Item, block, decision, def, used}
use Rattle.c_walk.specs.Sound.{decision_count, IsOwner, IsSound, AreSound}
use Rattle.c_sites.specs.declared.lists.Lists.{Lists}
use Rattle.c_sites.specs.Names.{LeafName}
use Rattle.c_sites.specs.Numbers.{own_numbers, first_number}
use Rattle.c_sites.specs.Kinds.{decisions, UseSite, variable_of, uses}
use Rattle.c_sites.specs.Lists.{lists_of}
use Rattle.c_sites.specs.ListsView.{decision_shape, use_shape, lists_shape}
use Rattle.c_sites.specs.Few.{IsShort, HasShortOwner}
use Rattle.c_sites.specs.Refused.{IsRead}
use Rattle.c_sites.proofs.Bounds.{all_unmap}

-- the same of a use by itself
abbrev IsUsed : ℕ → UseSite → Type 0
IsUsed n u = IsOwner n u.owner × (IsSome u.variable → 1 ≤ u.name)

counted : (is : List Item) → decision_count is ≡ length (decisions is)
counted [] = refl
counted (block p ∷ is) = counted is
counted (decision p o ∷ is) = ap suc (counted is)
counted (def p f d ∷ is) = counted is
counted (used p f d o ∷ is) = counted is

-- a direct use has its own name
one_name : (ns : List LeafName) (d : Option Direct) → IsSome (variable_of d) → 1 ≤ first_number (own_numbers ns d)
one_name ns None s = absurd (true≢false (sym s))
one_name ns (Some d) s = omega arith

uses_read : (ns : List LeafName) (rows : List StructShape) (n : ℕ) (is : List Item) → AllByRecursion (IsSound n) is → AllByRecursion (IsUsed n) (uses ns rows is)
uses_read ns rows n [] h = tt
uses_read ns rows n (block p ∷ is) h = uses_read ns rows n is h.1
uses_read ns rows n (decision p o ∷ is) h = uses_read ns rows n is h.1
uses_read ns rows n (def p f d ∷ is) h = uses_read ns rows n is h.1
uses_read ns rows n (used p f d o ∷ is) h = ((h.0.0, one_name ns d), uses_read ns rows n is h.1)

each_of : {X : Type 0} (P : X → Type 0) (xs : List X) → AllByRecursion P xs → All P xs
each_of P [] h k d lt = absurd (omega (arith, lt))
each_of P (x ∷ xs) h zero d lt = h.0
each_of P (x ∷ xs) h (suc k) d lt = each_of P xs h.1 k d (omega arith)

pub are_read : (ns : List LeafName) (rows : List StructShape) (is : List Item) (l : Lists) → AreSound is → lists_shape l ≡ lists_of ns rows is → All (IsRead (length l.decisions.items)) l.uses.items
are_read ns rows is l sound shape =
    let count : decision_count is ≡ length l.decisions.items = counted is ∙ sym (ap (λ l. length l.decisions) shape) ∙ length-map l.decisions.items decision_shape in
    let all = subst (λ n. AllByRecursion (IsUsed n) (uses ns rows is)) count (uses_read ns rows (decision_count is) is sound) in
    let n = length l.decisions.items in
    let own = subst (AllByRecursion (IsUsed n)) (sym (ap (λ l. l.uses) shape)) all in
    each_of (IsRead n) l.uses.items (all_unmap (IsUsed n) use_shape l.uses.items own)

-- ---- 16 bits hold an owner

short : (n : ℕ) (o : Option ℕ) → n ≤ 16383 → IsOwner n o → IsShort o
short n None h k = tt
short n (Some i) h k = let below = k.1 in omega arith

all_short : (n : ℕ) (is : List Item) → n ≤ 16383 → AllByRecursion (IsSound n) is → AllByRecursion HasShortOwner is
all_short n [] h k = tt
all_short n (block p ∷ is) h k = (tt, all_short n is h k.1)
all_short n (decision p o ∷ is) h k = (tt, all_short n is h k.1)
all_short n (def p f d ∷ is) h k = (tt, all_short n is h k.1)
all_short n (used p f d o ∷ is) h k = (short n o h k.0.0, all_short n is h k.1)

pub owners_short : (is : List Item) → length (decisions is) ≤ 16383 → AreSound is → AllByRecursion HasShortOwner is
owners_short is h sound = let c = counted is in all_short (decision_count is) is (omega arith) sound
