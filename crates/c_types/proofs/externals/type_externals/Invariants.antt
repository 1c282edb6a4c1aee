use Rattle.std.proofs.Common.{◌≡◌, length, take, drop, map}
use Rattle.c_syntax.specs.View.{external_shape}
use Rattle.c_tree.specs.Units.{type_externals}
use Rattle.c_checker.specs.CheckerView.{state_of}
use Rattle.c_types.proofs.Declared.{before_externals}
use Rattle.c_types.proofs.externals.type_externals.Given as goal

-- the declarations that are left lead to the same
abbrev pub invariant-loop-i : goal.invariant-loop-i
invariant-loop-i l = record {
  same : before_externals (take l.i l.externals.items) (type_externals (map external_shape (drop l.i l.externals.items)) (state_of l.checker)) ≡ type_externals (map external_shape l.fn.externals.items) (state_of l.fn.checker);
  count : length l.externals.items ≡ l.i-end;
}
