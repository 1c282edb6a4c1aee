use Rattle.std.proofs.Common.{◌∙◌, ap, sym, Ok}
use Rattle.std.specs.Int.{w128}
use Rattle.std.proofs.lemmas.Int.{to_z-of_z}
use Rattle.c_arith.specs.Arith.{overflows, wrap}
use Rattle.c_arith.proofs.Results.{fitted-over, fitted-held}
use Rattle.c_arith.proofs.fitted.Goals as goal

pub returns-then-overflows : goal.returns-then-overflows
returns-then-overflows c =
    let back = to_z-of_z w128 c.args.exact c.ranges.exact in
    sym (fitted-over c.args.kind c.args.exact (sym (c.if-overflows.ensures ∙ ap (overflows c.args.kind) back)))

pub returns-else-overflows : goal.returns-else-overflows
returns-else-overflows c =
    let back = to_z-of_z w128 c.args.exact c.ranges.exact in
    ap Ok (to_z-of_z w128 c.convert.result (record { sfits = c.convert.type_inv }) ∙ c.convert.ensures.value ∙ ap (wrap c.args.kind) back)
    ∙ sym (fitted-held c.args.kind c.args.exact (sym (c.if-overflows.ensures ∙ ap (overflows c.args.kind) back)))
