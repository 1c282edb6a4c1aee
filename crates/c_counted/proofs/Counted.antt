-- Behind a unit typing has counted its tokens: what is counted needs no place.
use Rattle.std.proofs.Common.{◌≡◌, ℕ, ◌+◌, length, Some, arith}
use Rattle.c_base.specs.declared.place.Pos.{Pos}
use Rattle.c_syntax.specs.Forms.{Form, nothing, is, at, starts, seq}
use Rattle.c_syntax.specs.Grammar.{unit_form, tokens_of}
use Rattle.c_syntax.specs.Shape.{UnitShape}
use Rattle.c_syntax.specs.Shaped.{ShapedUnit}
use Rattle.c_tree.specs.Units.{typed_unit, bodies}
use Rattle.c_counted.specs.Places.{CanBeCounted}
use Rattle.c_counted.proofs.Counting.{behind, Stands}
use Rattle.c_counted.proofs.Units.{unit_held}
use Rattle.c_counted.proofs.Adding.{count, count_kinds}

pub behind_count : (n : ℕ) (f : Form) → behind n f ≡ n + count f
behind_count n nothing = omega arith
behind_count n (is k) = omega arith
behind_count n (at p k) = omega arith
behind_count n (starts p f) = behind_count n f
behind_count n (seq f g) = omega (arith, behind_count n f, behind_count (behind n f) g)

abbrev Anything : ℕ → Pos → Type 0
Anything n p = Unit {0}

all_stand : (n : ℕ) (f : Form) → Stands Anything n f
all_stand n nothing = tt
all_stand n (is k) = tt
all_stand n (at p k) = tt
all_stand n (starts p f) = (λ i. tt, all_stand n f)
all_stand n (seq f g) = (all_stand n f, all_stand (behind n f) g)

pub tokens_are_counted : (u : UnitShape) → ShapedUnit u → CanBeCounted u → (typed_unit u).state.at ≡ length (tokens_of u)
tokens_are_counted u e l =
    let h = unit_held {P = Anything} (Some (bodies u)) u e (all_stand 0 (unit_form u)) tt in
    omega (arith, h.count, behind_count 0 (unit_form u), count_kinds (unit_form u), l)
