use Rattle.std.proofs.Common.{◌∙◌, sym, ap, arith}
use Rattle.std.proofs.lemmas.Int.{ints}
use Rattle.c_meaning.specs.Operators.{integer}
use Rattle.c_compute.specs.Narrow.{given}
use Rattle.c_compute.proofs.Integers.{fitted_in, fitted_below, fitted_above}
use Rattle.c_compute.proofs.ints.fitted.Goals as goal
use Rattle.c_compute.proofs.ints.fitted.Goals.{else-exact-geminus2147483648-via-then-exact-geminus2147483648+else-exact-le2147483647, else-exact-geminus2147483648-via-else-exact-geminus2147483648}

pub returns-then-exact-le2147483647 : goal.returns-then-exact-le2147483647
returns-then-exact-le2147483647 c =
    ap given (omega (arith, ints, c.from.ensures)) ∙ sym (ap integer (fitted_in c.args.exact (omega (arith, ints)) (omega (arith, ints))))

pub returns-else-exact-geminus2147483648 : goal.returns-else-exact-geminus2147483648
returns-else-exact-geminus2147483648 c =
    elim c.else-exact-geminus2147483648.branch [
      | else-exact-geminus2147483648-via-then-exact-geminus2147483648+else-exact-le2147483647 w ↦ sym (ap integer (fitted_above c.args.exact (omega (arith, ints, w.if-exact-le2147483647.false))))
      | else-exact-geminus2147483648-via-else-exact-geminus2147483648 w ↦ sym (ap integer (fitted_below c.args.exact (omega (arith, ints, w.if-exact-geminus2147483648.false))))
    ]
