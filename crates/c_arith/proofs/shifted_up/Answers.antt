use Rattle.std.proofs.Common.{◌≡◌, ◌∙◌, ◌*◌, ◌^◌, ◌%◌, ap, sym, Ok, Err, rules}
use Rattle.std.specs.Int.{w128}
use Rattle.std.proofs.lemmas.Int.{to_z-of_z}
use Rattle.c_arith.specs.Arith.{shift_count, pattern, value_of, width}
use Rattle.c_arith.proofs.Results.{shift-left, shift-fault, shifted_bits}
use Rattle.c_arith.proofs.shifted_up.Goals as goal

pub returns-in_err-count : goal.returns-in_err-count
returns-in_err-count c =
    let fault = c.in_err-count.field-0.0 in
    let is : c.from_residual.result ≡ Err fault = search rules in
    let count = sym (c.shift_count.ensures.value ∙ ap (shift_count c.args.kind) (to_z-of_z w128 c.args.b c.ranges.b)) ∙ c.in_err-count.was in
    is ∙ sym (shift-fault c.args.kind c.args.a c.args.b fault count).0

pub returns : goal.returns
returns c =
    let kind = c.args.kind in
    let n = c.in_ok-count.count in
    let count = sym (c.shift_count.ensures.value ∙ ap (shift_count kind) (to_z-of_z w128 c.args.b c.ranges.b)) ∙ c.in_ok-count.was in
    let bits : c.pattern.result ≡ pattern kind c.args.a = c.pattern.ensures ∙ ap (pattern kind) (to_z-of_z w128 c.args.a c.ranges.a) in
    ap Ok (to_z-of_z w128 c.value_of.result (record { sfits = c.value_of.type_inv })
    ∙ c.value_of.ensures
    ∙ ap (value_of kind) (shifted_bits kind (c.pattern.result * 2 ^ n) c.mask.result c.mask.ensures ∙ ap (λ m. m * 2 ^ n % 2 ^ width kind) bits))
    ∙ sym (shift-left kind c.args.a c.args.b n count)
