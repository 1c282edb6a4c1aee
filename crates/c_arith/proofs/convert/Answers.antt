use Rattle.std.proofs.Common.{◌<◌, ◌^◌, ◌≡◌, ◌∙◌, ℕ, ℤ, pos, ◌+ℤ◌, ◌*ℤ◌, ap, sym, subst, to_z, of_z}
use Rattle.std.specs.Int.{w128}
use Rattle.std.proofs.lemmas.Int.{to_z-of_z}
use Rattle.c_arith.specs.Arith.{width, wrap, pattern, value_of, InRange}
use Rattle.c_arith.proofs.Patterns.{pattern_below, value_of-in_range, wrap-law, wrap-only}
use Rattle.c_arith.proofs.convert.Goals as goal

pub value_of-requires : goal.value_of-requires
value_of-requires c =
    let P : ℕ → Type 0 = λ n. n < 2 ^ width c.args.to in
    subst P (sym (c.pattern.ensures ∙ ap (pattern c.args.to) (to_z-of_z w128 c.args.value c.ranges.value))) (pattern_below c.args.to c.args.value)

pub returns : goal.returns
returns c =
    let kind = c.args.to in
    let z = c.args.value in
    let is : to_z w128 (of_z w128 c.value_of.result) ≡ wrap kind z =
    to_z-of_z w128 c.value_of.result (record { sfits = c.value_of.type_inv })
    ∙ c.value_of.ensures ∙ ap (value_of kind) (c.pattern.ensures ∙ ap (pattern kind) (to_z-of_z w128 z c.ranges.value)) in
    record {
      value = is;
      in_range = subst (InRange kind) (sym is) (value_of-in_range kind (pattern kind z) (pattern_below kind z));
      congruent = let P : ℤ → Type 0 = λ v. (m : ℤ) × (z ≡ (v +ℤ m *ℤ pos (2 ^ width kind))) in subst P (sym is) (wrap-law kind z);
      only = λ x m f e. wrap-only kind z x m f e ∙ sym is;
    }
