-- A program that isn't refused has no probe, and as few items of each kind as probes may have numbers.
use Rattle.std.proofs.Common.{◌≡◌, ℕ, ◌+◌, ◌≤◌, Bool, true, false, nat_lt, List, [], ◌∷◌, Option, Some, None, refl, arith, if◌then◌else◌}
use Rattle.std.proofs.lemmas.Bool.{or_parts}
use Rattle.std.proofs.lemmas.Bool.Decides.{nat_tests}
use Rattle.c_base.specs.declared.place.Pos.{Pos}
use Rattle.c_tables.specs.Tables.{StructShape}
use Rattle.c_walk.specs.Items.{Item, block, decision, def, used}
use Rattle.c_walk.specs.Sound.{decision_count}
use Rattle.c_walk.specs.Units.{items_of, no_items}
use Rattle.c_sites_probes.specs.Marked.{unit_mark}
use Rattle.c_meaning.specs.Calls.{Source}
use Rattle.c_walk.specs.Counted.{block_count, def_count, use_count}
use Rattle.c_sites.specs.declared.limits.Counts.{Counts}
use Rattle.c_sites.specs.Limits.{no_counts, with_one, too_many, place_of, excess}
use Rattle.c_sites.specs.Refused.{refusal_at, refusal}
use Rattle.probe_rules.specs.Fitting.{HasFewItems}
use Rattle.probe_rules.specs.Simulation.{all_walked, IsPlain}
use Rattle.probe_laws.proofs.Counted.{externals_walked}

-- so many before, and these behind them
record Fit (c : Counts) (is : List Item) : Type 0 where
  blocks_fit : c.blocks + block_count is ≤ 16383
  decisions_fit : c.decisions + decision_count is ≤ 16383
  defs_fit : c.defs + def_count is ≤ 16383
  uses_fit : c.uses + use_count is ≤ 16383

below : (n : ℕ) → nat_lt 16383 n ≡ false → n ≤ 16383
below n h = grind (arith, nat_tests)

none_fit : (c : Counts) → too_many c ≡ false → Fit c []
none_fit c h =
    let b = or_parts (nat_lt 16383 c.blocks) _ h in
    let d = or_parts (nat_lt 16383 c.decisions) _ b.1 in
    let f = or_parts (nat_lt 16383 c.defs) _ d.1 in
    let u = or_parts (nat_lt 16383 c.uses) _ f.1 in
    let b_below = below c.blocks b.0 in
    let d_below = below c.decisions d.0 in
    let f_below = below c.defs f.0 in
    let u_below = below c.uses u.0 in
    record { blocks_fit = omega arith; decisions_fit = omega arith; defs_fit = omega arith; uses_fit = omega arith }

one_fits : (rows : List StructShape) (c : Counts) (i : Item) (rest : List Item) → Fit (with_one rows i c) rest → Fit c (i ∷ rest)
one_fits rows c (block p) rest f = let h = f.blocks_fit in record { blocks_fit = omega arith; decisions_fit = f.decisions_fit; defs_fit = f.defs_fit; uses_fit = f.uses_fit }
one_fits rows c (decision p o) rest f = let h = f.decisions_fit in record { blocks_fit = f.blocks_fit; decisions_fit = omega arith; defs_fit = f.defs_fit; uses_fit = f.uses_fit }
one_fits rows c (def p g d) rest f = let h = f.defs_fit in record { blocks_fit = f.blocks_fit; decisions_fit = f.decisions_fit; defs_fit = omega arith; uses_fit = f.uses_fit }
one_fits rows c (used p g d o) rest f = let h = f.uses_fit in record { blocks_fit = f.blocks_fit; decisions_fit = f.decisions_fit; defs_fit = f.defs_fit; uses_fit = omega arith }

not_here : (b : Bool) (p : Pos) (o : Option Pos) → (if b then Some p else o) ≡ None → (b ≡ false) × (o ≡ None)
not_here true p o h = cc
not_here false p o h = (refl, h)

all_fit : (rows : List StructShape) (c : Counts) (is : List Item) → excess rows c is ≡ None → too_many c ≡ false → Fit c is
all_fit rows c [] h t = none_fit c t
all_fit rows c (i ∷ rest) h t =
    let n = not_here (too_many (with_one rows i c)) (place_of i) (excess rows (with_one rows i c) rest) h in
    one_fits rows c i rest (all_fit rows (with_one rows i c) rest n.1 n.0)

unrefused : (p q : Option Pos) → refusal_at p q ≡ None → (p ≡ None) × (q ≡ None)
unrefused None None h = (refl, refl)
unrefused None (Some q) h = cc
unrefused (Some p) q h = cc

-- the walk's counts, in a program that isn't refused
pub few_items : (P : Source) → refusal P.tables P.unit ≡ None → HasFewItems (all_walked P)
few_items P h =
    let is = items_of P.tables P.unit in
    let f = all_fit P.tables.structures no_counts is (unrefused (unit_mark P.unit) (excess P.tables.structures no_counts is) h).1 refl in
    let counted = externals_walked P.tables P.unit.externals no_items refl in
    let bs = f.blocks_fit in
    let ds = f.decisions_fit in
    let fs = f.defs_fit in
    let us = f.uses_fit in
    record { blocks = omega arith; decisions = omega arith; defs = omega arith; uses = omega arith }

pub is_plain : (P : Source) → refusal P.tables P.unit ≡ None → IsPlain P
is_plain P h = (unrefused (unit_mark P.unit) (excess P.tables.structures no_counts (items_of P.tables P.unit)) h).0
