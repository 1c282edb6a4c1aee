-- Where there are not too many items, counting one by one gives the lengths of their lists.
use Rattle.std.proofs.Common.{◌≡◌, ℕ, suc, ◌+◌, ◌≤◌, ◌-◌, ◌^◌, min, Bool, true, false, nat_lt, List, [], ◌∷◌, length, Option, Some, None, refl, sym, ap, ◌∙◌, arith, if◌then◌else◌}
use Rattle.std.proofs.lemmas.Bool.{or_parts}
use Rattle.std.proofs.lemmas.Bool.Decides.{nat_tests}
use Rattle.c_base.specs.declared.place.Pos.{Pos}
use Rattle.c_tables.specs.Tables.{StructShape}
use Rattle.c_walk.specs.Items.{Item, block, decision, def, used}
use Rattle.c_sites.specs.declared.limits.Counts.{Counts}
use Rattle.c_sites.specs.Names.{LeafName}
use Rattle.c_sites.specs.Kinds.{blocks, decisions, defs, uses}
use Rattle.c_sites.specs.Lists.{lists_of}
use Rattle.c_sites.specs.Limits as limits
use Rattle.c_sites_counts.specs.declared.counting.SiteCounts.{SiteCounts}
use Rattle.c_sites_counts.specs.Counts.{counts_in, no_counts, kept, with_one, with_all}

below : (n : ℕ) → nat_lt 16383 n ≡ false → n ≤ 16383
below n h = grind (arith, nat_tests)

-- so many as the limits count are not too many
record Few (c : SiteCounts) : Type 0 where
  blocks : c.blocks ≤ 16383
  decisions : c.decisions ≤ 16383
  defs : c.defs ≤ 16383
  uses : c.uses ≤ 16383

-- the same numbers, without those of leaf names
abbrev plain : Counts → SiteCounts
plain c = record { blocks = c.blocks; decisions = c.decisions; defs = c.defs; uses = c.uses }

few : (c : Counts) → limits.too_many c ≡ false → Few (plain c)
few c h =
    let b = or_parts (nat_lt 16383 c.blocks) _ h in
    let d = or_parts (nat_lt 16383 c.decisions) _ b.1 in
    let f = or_parts (nat_lt 16383 c.defs) _ d.1 in
    let u = or_parts (nat_lt 16383 c.uses) _ f.1 in
    record { blocks = below c.blocks b.0; decisions = below c.decisions d.0; defs = below c.defs f.0; uses = below c.uses u.0 }

-- so many before, and those of the lists behind them
abbrev further : SiteCounts → SiteCounts → SiteCounts
further a b = record { blocks = a.blocks + b.blocks; decisions = a.decisions + b.decisions; defs = a.defs + b.defs; uses = a.uses + b.uses }

plain_one : (rows : List StructShape) (i : Item) (c : Counts) → plain (limits.with_one rows i c) ≡ with_one i (plain c)
plain_one rows (block p) c = refl
plain_one rows (decision p o) c = refl
plain_one rows (def p f d) c = refl
plain_one rows (used p f d o) c = refl

kept_one : (n : ℕ) → n ≤ 16383 → kept (n + 1) ≡ n + 1
kept_one n h = omega arith

one_further : (ns : List LeafName) (rows : List StructShape) (i : Item) (rest : List Item) (c : SiteCounts) → Few c → further (with_one i c) (counts_in (lists_of ns rows rest)) ≡ further c (counts_in (lists_of ns rows (i ∷ rest)))
one_further ns rows (block p) rest c h = let e : kept (c.blocks + 1) + length (blocks rest) ≡ c.blocks + suc (length (blocks rest)) = omega (arith, h.blocks) in ap (λ n. record { blocks = n; decisions = c.decisions + length (decisions rest); defs = c.defs + length (defs ns rows rest); uses = c.uses + length (uses ns rows rest) }) e
one_further ns rows (decision p o) rest c h = let e : kept (c.decisions + 1) + length (decisions rest) ≡ c.decisions + suc (length (decisions rest)) = omega (arith, h.decisions) in ap (λ n. record { blocks = c.blocks + length (blocks rest); decisions = n; defs = c.defs + length (defs ns rows rest); uses = c.uses + length (uses ns rows rest) }) e
one_further ns rows (def p f d) rest c h = let e : kept (c.defs + 1) + length (defs ns rows rest) ≡ c.defs + suc (length (defs ns rows rest)) = omega (arith, h.defs) in ap (λ n. record { blocks = c.blocks + length (blocks rest); decisions = c.decisions + length (decisions rest); defs = n; uses = c.uses + length (uses ns rows rest) }) e
one_further ns rows (used p f d o) rest c h = let e : kept (c.uses + 1) + length (uses ns rows rest) ≡ c.uses + suc (length (uses ns rows rest)) = omega (arith, h.uses) in ap (λ n. record { blocks = c.blocks + length (blocks rest); decisions = c.decisions + length (decisions rest); defs = c.defs + length (defs ns rows rest); uses = n }) e

same_counts : (a b : SiteCounts) → a.blocks ≡ b.blocks → a.decisions ≡ b.decisions → a.defs ≡ b.defs → a.uses ≡ b.uses → a ≡ b
same_counts a b p q r s =
    ap (λ n. record { blocks = n; decisions = a.decisions; defs = a.defs; uses = a.uses }) p
    ∙ ap (λ n. record { blocks = b.blocks; decisions = n; defs = a.defs; uses = a.uses }) q
    ∙ ap (λ n. record { blocks = b.blocks; decisions = b.decisions; defs = n; uses = a.uses }) r
    ∙ ap (λ n. record { blocks = b.blocks; decisions = b.decisions; defs = b.defs; uses = n }) s

none_further : (c : SiteCounts) → c ≡ further c no_counts
none_further c = same_counts c (further c no_counts) (omega arith) (omega arith) (omega arith) (omega arith)

none_before : (c : SiteCounts) → further no_counts c ≡ c
none_before c = same_counts (further no_counts c) c (omega arith) (omega arith) (omega arith) (omega arith)

not_here : (b : Bool) (p : Pos) (o : Option Pos) → (if b then Some p else o) ≡ None → (b ≡ false) × (o ≡ None)
not_here true p o h = cc
not_here false p o h = (refl, h)

all_counted : (ns : List LeafName) (rows : List StructShape) (is : List Item) (c : Counts) → limits.too_many c ≡ false → limits.excess rows c is ≡ None → with_all is (plain c) ≡ further (plain c) (counts_in (lists_of ns rows is))
all_counted ns rows [] c few_c h = none_further (plain c)
all_counted ns rows (i ∷ rest) c few_c h =
    let n = not_here (limits.too_many (limits.with_one rows i c)) (limits.place_of i) (limits.excess rows (limits.with_one rows i c) rest) h in
    ap (λ m. with_all rest m) (sym (plain_one rows i c))
    ∙ all_counted ns rows rest (limits.with_one rows i c) n.0 n.1
    ∙ ap (λ m. further m (counts_in (lists_of ns rows rest))) (plain_one rows i c)
    ∙ one_further ns rows i rest (plain c) (few c few_c)

pub counted : (ns : List LeafName) (rows : List StructShape) (is : List Item) → limits.excess rows limits.no_counts is ≡ None → with_all is no_counts ≡ counts_in (lists_of ns rows is)
counted ns rows is h = all_counted ns rows is limits.no_counts refl h ∙ none_before (counts_in (lists_of ns rows is))
