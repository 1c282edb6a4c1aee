-- How one item more is counted.
use Rattle.std.proofs.Common.{◌≡◌, ◌+◌, List, [], ◌∷◌, ◌++◌, Option, true, false, sym, ap, ◌∙◌, arith}
use Rattle.c_base.specs.declared.place.Pos.{Pos}
use Rattle.c_walk.specs.Items.{Item, block, decision, def, used, Direct, Outcomes}
use Rattle.c_syntax.specs.Shape.{ExprShape}
use Rattle.c_walk.specs.Tests.{is_logical_form, outcomes_of_form}
use Rattle.c_walk.specs.Walked.{with_block, with_decision, with_def, with_use, with_test}
use Rattle.c_walk.specs.Counted.{block_count, def_count, use_count}
use Rattle.flow_rows.specs.declared.numbers.Numbers.{Numbers}
use Rattle.flow_rows.specs.Counts.{Counted}

blocks_behind : (xs ys : List Item) → block_count (xs ++ ys) ≡ block_count xs + block_count ys
blocks_behind [] ys = omega arith
blocks_behind (block p ∷ xs) ys = omega (arith, blocks_behind xs ys)
blocks_behind (decision p o ∷ xs) ys = blocks_behind xs ys
blocks_behind (def p f d ∷ xs) ys = blocks_behind xs ys
blocks_behind (used p f d o ∷ xs) ys = blocks_behind xs ys

defs_behind : (xs ys : List Item) → def_count (xs ++ ys) ≡ def_count xs + def_count ys
defs_behind [] ys = omega arith
defs_behind (block p ∷ xs) ys = defs_behind xs ys
defs_behind (decision p o ∷ xs) ys = defs_behind xs ys
defs_behind (def p f d ∷ xs) ys = omega (arith, defs_behind xs ys)
defs_behind (used p f d o ∷ xs) ys = defs_behind xs ys

uses_behind : (xs ys : List Item) → use_count (xs ++ ys) ≡ use_count xs + use_count ys
uses_behind [] ys = omega arith
uses_behind (block p ∷ xs) ys = uses_behind xs ys
uses_behind (decision p o ∷ xs) ys = uses_behind xs ys
uses_behind (def p f d ∷ xs) ys = uses_behind xs ys
uses_behind (used p f d o ∷ xs) ys = omega (arith, uses_behind xs ys)

pub block_counted : (n m : Numbers) → m ≡ record n { blocks = n.blocks + 1 } → (p : Pos) → Counted n m (λ c w. with_block p w)
block_counted n m e p c w h =
    let i = block p in
    let blocks : block_count (w.items ++ i ∷ []) ≡ block_count w.items + 1 = blocks_behind w.items (i ∷ []) in
    let defs : def_count (w.items ++ i ∷ []) ≡ def_count w.items = omega (arith, defs_behind w.items (i ∷ [])) in
    let uses : use_count (w.items ++ i ∷ []) ≡ use_count w.items = omega (arith, uses_behind w.items (i ∷ [])) in
    rw (blocks, defs, uses) (ap (λ (x : Numbers). record x { blocks = x.blocks + 1 }) h ∙ sym e)

pub decision_counted : (n m : Numbers) → m ≡ record n { decisions = n.decisions + 1 } → (p : Pos) (o : Outcomes) → Counted n m (λ c w. with_decision p o w)
decision_counted n m e p o c w h =
    let i = decision p o in
    let blocks : block_count (w.items ++ i ∷ []) ≡ block_count w.items = omega (arith, blocks_behind w.items (i ∷ [])) in
    let defs : def_count (w.items ++ i ∷ []) ≡ def_count w.items = omega (arith, defs_behind w.items (i ∷ [])) in
    let uses : use_count (w.items ++ i ∷ []) ≡ use_count w.items = omega (arith, uses_behind w.items (i ∷ [])) in
    rw (blocks, defs, uses) (ap (λ (x : Numbers). record x { decisions = x.decisions + 1 }) h ∙ sym e)

pub def_counted : (n m : Numbers) → m ≡ record n { defs = n.defs + 1 } → (p : Pos) (d : Option Direct) → Counted n m (λ c w. with_def true c p d w)
def_counted n m e p d c w h =
    let i = def p c.function d in
    let blocks : block_count (w.items ++ i ∷ []) ≡ block_count w.items = omega (arith, blocks_behind w.items (i ∷ [])) in
    let defs : def_count (w.items ++ i ∷ []) ≡ def_count w.items + 1 = defs_behind w.items (i ∷ []) in
    let uses : use_count (w.items ++ i ∷ []) ≡ use_count w.items = omega (arith, uses_behind w.items (i ∷ [])) in
    rw (blocks, defs, uses) (ap (λ (x : Numbers). record x { defs = x.defs + 1 }) h ∙ sym e)

pub use_counted : (n m : Numbers) → m ≡ record n { uses = n.uses + 1 } → (p : Pos) (d : Option Direct) → Counted n m (λ c w. with_use true c p d w)
use_counted n m e p d c w h =
    let i = used p c.function d c.owner in
    let blocks : block_count (w.items ++ i ∷ []) ≡ block_count w.items = omega (arith, blocks_behind w.items (i ∷ [])) in
    let defs : def_count (w.items ++ i ∷ []) ≡ def_count w.items = omega (arith, defs_behind w.items (i ∷ [])) in
    let uses : use_count (w.items ++ i ∷ []) ≡ use_count w.items + 1 = uses_behind w.items (i ∷ []) in
    rw (blocks, defs, uses) (ap (λ (x : Numbers). record x { uses = x.uses + 1 }) h ∙ sym e)

pub test_counted : (n m : Numbers) (p : Pos) (f : ExprShape) → is_logical_form f ≡ false → ((p : Pos) (o : Outcomes) → Counted n m (λ c w. with_decision p o w)) → Counted n m (λ c w. with_test p f w)
test_counted n m p f e d c w h = rw e (d p (outcomes_of_form f) c w h)
