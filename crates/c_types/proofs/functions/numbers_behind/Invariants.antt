use Rattle.std.proofs.Common.{◌≡◌, ◌+◌, ◌≤◌, ◌++◌, length, drop, map}
use Rattle.c_tree.specs.Units.{numbers_from}
use Rattle.c_types_decl.specs.GivenView.{parameter_of}
use Rattle.c_types.proofs.functions.numbers_behind.Given as goal

-- the numbers so far and those of the parameters that are left are those of all
abbrev pub invariant-loop-parameter : goal.invariant-loop-parameter
invariant-loop-parameter l = record {
  numbers : l.numbers ++ numbers_from (l.last + 1) (map parameter_of (drop l._parameter-index l.given)) ≡ numbers_from (l.before + 1) (map parameter_of l.given);
  few : length l.numbers ≤ l.last;
}
