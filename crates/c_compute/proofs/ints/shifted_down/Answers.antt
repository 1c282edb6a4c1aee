use Rattle.std.proofs.Common.{◌∙◌, sym, ap, arith}
use Rattle.std.proofs.lemmas.Int.{ints}
use Rattle.c_base.specs.declared.place.IntKind.TheVariants.{Int}
use Rattle.c_arith.specs.declared.ArithFault.TheVariants.{ShiftCount}
use Rattle.c_arith.proofs.Results.{shift_count-below, shift_count-above, shift-fault}
use Rattle.c_meaning.specs.Operators.{integer}
use Rattle.c_compute.proofs.Integers.{down_is}
use Rattle.c_compute.proofs.ints.shifted_down.Goals as goal

pub returns-then-b-lt0 : goal.returns-then-b-lt0
returns-then-b-lt0 c =
    let fault = shift-fault Int c.args.a c.args.b ShiftCount (shift_count-below Int c.args.b (omega (arith, ints))) in
    sym (ap integer fault.1)

pub returns-then-b-ge32 : goal.returns-then-b-ge32
returns-then-b-ge32 c =
    let fault = shift-fault Int c.args.a c.args.b ShiftCount (shift_count-above Int c.args.b (omega (arith, ints))) in
    sym (ap integer fault.1)

pub returns : goal.returns
returns c = c.int.ensures ∙ down_is c.args.a c.args.b c.ranges.a c.ranges.b c.if-b-lt0.false c.if-b-ge32.false
