use Rattle.std.proofs.Common.{◌≡◌, ◌++◌, length, map, take, drop}
use Rattle.c_syntax.specs.Shape.{more_decls}
use Rattle.c_syntax.specs.View.{param_shape, param_list}
use Rattle.c_tree.specs.Declaring.{type_param_list}
use Rattle.c_checker.specs.CheckerView.{state_of}
use Rattle.c_types_decl.specs.GivenView.{parameter_of}
use Rattle.c_types_decl.specs.Rows.{in_front}
use Rattle.c_types_decl.proofs.signatures.type_list.Given as goal

-- those that are left, behind those before them, lead to the same
abbrev pub invariant-loop-i : goal.invariant-loop-i
invariant-loop-i l =
    let left = type_param_list l.defining (param_list (drop l.i l.params.items)) (state_of l.checker) in
    let all = type_param_list l.fn.defining (param_list l.fn.params.items) (state_of l.fn.checker) in
    record {
      tree : in_front param_shape more_decls (take l.i l.params.items) left.params ≡ all.params;
      given : map parameter_of l.given.items ++ left.given ≡ all.given;
      state : left.state ≡ all.state;
      count : length l.params.items ≡ length l.fn.params.items;
    }
