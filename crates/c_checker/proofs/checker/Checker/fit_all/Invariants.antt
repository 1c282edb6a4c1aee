use Rattle.std.proofs.Common.{◌≡◌, drop, map}
use Rattle.c_syntax.specs.View.{type_of}
use Rattle.c_tree.specs.Operators.{fit_all}
use Rattle.c_checker.specs.CheckerView.{state_of}
use Rattle.c_checker.specs.CallView.{given_of}
use Rattle.c_checker.proofs.checker.Checker.fit_all.Given as goal

-- those that are left lead to the same
abbrev pub invariant-loop-i : goal.invariant-loop-i
invariant-loop-i l =
    fit_all (map type_of (drop l.i l.params)) (map given_of (drop l.i l.given)) (state_of l.self) ≡ fit_all (map type_of l.params) (map given_of l.given) (state_of l.fn.self)
