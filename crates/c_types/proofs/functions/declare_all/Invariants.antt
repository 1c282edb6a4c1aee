use Rattle.std.proofs.Common.{◌≡◌, drop, map}
use Rattle.c_tree.specs.Units.{with_variables}
use Rattle.c_checker.specs.CheckerView.{state_of}
use Rattle.c_types_decl.specs.GivenView.{parameter_of}
use Rattle.c_types.proofs.functions.declare_all.Given as goal

-- the parameters that are left lead to the same
abbrev pub invariant-loop-parameter : goal.invariant-loop-parameter
invariant-loop-parameter l = with_variables (map parameter_of (drop l.parameter-index l.given)) (state_of l.checker) ≡ with_variables (map parameter_of l.given) (state_of l.fn.checker)
