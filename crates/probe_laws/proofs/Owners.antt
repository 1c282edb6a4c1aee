-- With its probes a program's uses belong to the decisions that they belong to without.
use Rattle.std.proofs.Common.{◌≡◌, ℕ, zero, suc, ◌+◌, ◌<◌, ◌≤◌, true, false, List, [], ◌∷◌, Option, None, Some, refl, ap, ◌∙◌, arith, if◌then◌else◌, slice_get}
use Rattle.std.specs.Prelude.{nat_eq, unwrap_or}
use Rattle.std.proofs.lemmas.Bool.Decides.{nat_tests}
use Rattle.c_walk.specs.Items.{Item, block, decision, def, used}
use Rattle.c_sites_probes.specs.Owned.{owner_of}
use Rattle.probe_rules.specs.Owning.{owned_from}
use Rattle.probe_rules.specs.Simulation.{all_walked}
use Rattle.probe_rules.proofs.OwnUnits.{owns}
use Rattle.c_walk.specs.Counted.{use_count}
use Rattle.probe_laws.specs.Owners.{use_owners}
use Rattle.probe_laws.specs.Owning.{ProgramOwns, ProgramOwnsFew}
use Rattle.probe_laws.proofs.FewItems.{few_items, is_plain}

other : (u n k : ℕ) (rest : Option ℕ) → u < n → (if nat_eq u n then Some k else rest) ≡ rest
other u n k rest h = let e : nat_eq u n ≡ false = grind (arith, nat_tests) in rw e refl

-- no use that comes later has a smaller number
none_below : (n : ℕ) (items : List Item) (u : ℕ) → u < n → owner_of u (owned_from n items) ≡ None
none_below n [] u h = refl
none_below n (used p f d (Some k) ∷ items) u h = other u n k (owner_of u (owned_from (n + 1) items)) h ∙ none_below (n + 1) items u (omega arith)
none_below n (used p f d None ∷ items) u h = none_below (n + 1) items u (omega arith)
none_below n (block p ∷ items) u h = none_below n items u h
none_below n (decision p o ∷ items) u h = none_below n items u h
none_below n (def p f d ∷ items) u h = none_below n items u h

this : (n k : ℕ) (rest : Option ℕ) → (if nat_eq (n + 0) n then Some k else rest) ≡ Some k
this n k rest = let e : nat_eq (n + 0) n ≡ true = grind (arith, nat_tests) in rw e refl

later : (n v k : ℕ) (rest : Option ℕ) → (if nat_eq (n + suc v) n then Some k else rest) ≡ rest
later n v k rest = let e : nat_eq (n + suc v) n ≡ false = grind (arith, nat_tests) in rw e refl

moved : (n v : ℕ) → n + suc v ≡ (n + 1) + v
moved n v = omega arith

-- the use of number n + u is the one at u
by_number : (n : ℕ) (items : List Item) (u : ℕ) → owner_of (n + u) (owned_from n items) ≡ unwrap_or (slice_get (use_owners items) u) None
by_number n [] u = refl
by_number n (used p f d (Some k) ∷ items) zero = this n k (owner_of (n + 0) (owned_from (n + 1) items))
by_number n (used p f d (Some k) ∷ items) (suc v) =
    later n v k (owner_of (n + suc v) (owned_from (n + 1) items)) ∙ ap (λ m. owner_of m (owned_from (n + 1) items)) (moved n v) ∙ by_number (n + 1) items v
by_number n (used p f d None ∷ items) zero = none_below (n + 1) items (n + 0) (omega arith)
by_number n (used p f d None ∷ items) (suc v) = ap (λ m. owner_of m (owned_from (n + 1) items)) (moved n v) ∙ by_number (n + 1) items v
by_number n (block p ∷ items) u = by_number n items u
by_number n (decision p o ∷ items) u = by_number n items u
by_number n (def p f d ∷ items) u = by_number n items u

one_more : (v : ℕ) → suc v ≡ 1 + v
one_more v = omega arith

all_numbers : (items : List Item) (u : ℕ) → owner_of u (owned_from 1 items) ≡ unwrap_or (slice_get (None ∷ use_owners items) u) None
all_numbers items zero = none_below 1 items 0 (omega arith)
all_numbers items (suc v) = ap (λ m. owner_of m (owned_from 1 items)) (one_more v) ∙ by_number 1 items v

pub program_owns : ProgramOwns
program_owns P taken digest u =
    ap (owner_of u) (owns digest P (is_plain P taken) (few_items P taken)) ∙ all_numbers (all_walked P).items u

-- behind the last use there is none
past_uses : (items : List Item) (u : ℕ) → use_count items ≤ u → unwrap_or (slice_get (use_owners items) u) None ≡ None
past_uses [] u h = refl
past_uses (used p f d k ∷ items) zero h = absurd (omega arith)
past_uses (used p f d k ∷ items) (suc u) h = past_uses items u (omega arith)
past_uses (block p ∷ items) u h = past_uses items u h
past_uses (decision p o ∷ items) u h = past_uses items u h
past_uses (def p f d ∷ items) u h = past_uses items u h

past : (items : List Item) (u : ℕ) → use_count items ≤ 16383 → 16383 < u → unwrap_or (slice_get (None ∷ use_owners items) u) None ≡ None
past items zero few h = absurd (omega arith)
past items (suc u) few h = past_uses items u (omega (arith, few, h))

pub program_owns_few : ProgramOwnsFew
program_owns_few P taken u h = past (all_walked P).items u (few_items P taken).uses h
