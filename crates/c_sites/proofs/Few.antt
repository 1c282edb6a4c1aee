-- Where there are not too many items there are at most 16,383 of each kind.
use Rattle.std.proofs.Common.{◌≡◌, ℕ, ◌+◌, ◌≤◌, Bool, true, false, nat_lt, List, [], ◌∷◌, length, map, Option, Some, None, refl, ap, arith, if◌then◌else◌}
use Rattle.std.proofs.lemmas.Bool.{or_parts}
use Rattle.std.proofs.lemmas.Bool.Decides.{nat_tests}
use Rattle.c_base.specs.declared.place.Pos.{Pos}
use Rattle.c_tables.specs.Tables.{StructShape}
use Rattle.c_sites.specs.declared.limits.Counts.{Counts}
use Rattle.c_walk.specs.Items.{Item, block, decision, def, used}
use Rattle.c_sites.specs.Names.{LeafName}
use Rattle.c_sites.specs.Kinds.{blocks, decisions, defs, uses}
use Rattle.c_sites.specs.Limits.{no_counts, with_one, too_many, place_of, excess}
use Rattle.std.proofs.lemmas.List.{length-map}
use Rattle.c_sites.specs.declared.lists.Lists.{Lists}
use Rattle.c_sites.specs.Lists.{lists_of}
use Rattle.c_sites.specs.ListsView.{decision_shape, def_shape, use_shape, lists_shape}
use Rattle.c_sites.specs.Few.{AreFew}

-- so many before, and these behind them
record Fit (ns : List LeafName) (rows : List StructShape) (c : Counts) (is : List Item) : Type 0 where
  blocks_fit : c.blocks + length (blocks is) ≤ 16383
  decisions_fit : c.decisions + length (decisions is) ≤ 16383
  defs_fit : c.defs + length (defs ns rows is) ≤ 16383
  uses_fit : c.uses + length (uses ns rows is) ≤ 16383

below : (n : ℕ) → nat_lt 16383 n ≡ false → n ≤ 16383
below n h = grind (arith, nat_tests)

none_fit : (ns : List LeafName) (rows : List StructShape) (c : Counts) → too_many c ≡ false → Fit ns rows c []
none_fit ns rows c h =
    let b = or_parts (nat_lt 16383 c.blocks) _ h in
    let d = or_parts (nat_lt 16383 c.decisions) _ b.1 in
    let f = or_parts (nat_lt 16383 c.defs) _ d.1 in
    let u = or_parts (nat_lt 16383 c.uses) _ f.1 in
    let b_below = below c.blocks b.0 in
    let d_below = below c.decisions d.0 in
    let f_below = below c.defs f.0 in
    let u_below = below c.uses u.0 in
    record { blocks_fit = omega arith; decisions_fit = omega arith; defs_fit = omega arith; uses_fit = omega arith }

one_fits : (ns : List LeafName) (rows : List StructShape) (c : Counts) (i : Item) (rest : List Item) → Fit ns rows (with_one rows i c) rest → Fit ns rows c (i ∷ rest)
one_fits ns rows c (block p) rest f = let h = f.blocks_fit in record { blocks_fit = omega arith; decisions_fit = f.decisions_fit; defs_fit = f.defs_fit; uses_fit = f.uses_fit }
one_fits ns rows c (decision p o) rest f = let h = f.decisions_fit in record { blocks_fit = f.blocks_fit; decisions_fit = omega arith; defs_fit = f.defs_fit; uses_fit = f.uses_fit }
one_fits ns rows c (def p g d) rest f = let h = f.defs_fit in record { blocks_fit = f.blocks_fit; decisions_fit = f.decisions_fit; defs_fit = omega arith; uses_fit = f.uses_fit }
one_fits ns rows c (used p g d o) rest f = let h = f.uses_fit in record { blocks_fit = f.blocks_fit; decisions_fit = f.decisions_fit; defs_fit = f.defs_fit; uses_fit = omega arith }

not_here : (b : Bool) (p : Pos) (o : Option Pos) → (if b then Some p else o) ≡ None → (b ≡ false) × (o ≡ None)
not_here true p o h = cc
not_here false p o h = (refl, h)

all_fit : (ns : List LeafName) (rows : List StructShape) (c : Counts) (is : List Item) → excess rows c is ≡ None → too_many c ≡ false → Fit ns rows c is
all_fit ns rows c [] h t = none_fit ns rows c t
all_fit ns rows c (i ∷ rest) h t =
    let n = not_here (too_many (with_one rows i c)) (place_of i) (excess rows (with_one rows i c) rest) h in
    one_fits ns rows c i rest (all_fit ns rows (with_one rows i c) rest n.1 n.0)

counted : {X Y : Type 0} (f : X → Y) (xs : List X) (ys : List Y) → map f xs ≡ ys → 0 + length ys ≤ 16383 → length xs ≤ 16383
counted f xs ys e h = let n = length-map xs f in let m = ap length e in omega arith

pub are_few : (ns : List LeafName) (rows : List StructShape) (is : List Item) (l : Lists) → excess rows no_counts is ≡ None → lists_shape l ≡ lists_of ns rows is → AreFew l
are_few ns rows is l h e =
    let f = all_fit ns rows no_counts is h refl in
    record {
      blocks = let b = ap (λ l. length l.blocks) e in let n = f.blocks_fit in omega arith;
      decisions = counted decision_shape l.decisions.items (decisions is) (ap (λ l. l.decisions) e) f.decisions_fit;
      defs = counted def_shape l.defs.items (defs ns rows is) (ap (λ l. l.defs) e) f.defs_fit;
      uses = counted use_shape l.uses.items (uses ns rows is) (ap (λ l. l.uses) e) f.uses_fit;
    }

pub decisions_few : (rows : List StructShape) (is : List Item) → excess rows no_counts is ≡ None → length (decisions is) ≤ 16383
decisions_few rows is h = let f = (all_fit [] rows no_counts is h refl).decisions_fit in omega arith
