use Rattle.std.proofs.Common.{◌≡◌, length, take, drop}
use Rattle.c_type_rules.specs.Kinds.{type_in}
use Rattle.c_syntax.specs.Shape.{more_declarators}
use Rattle.c_syntax.specs.View.{declarator_shape, declarator_list}
use Rattle.c_tree.specs.Declaring.{type_declarators}
use Rattle.c_checker.specs.CheckerView.{state_of}
use Rattle.c_types_decl.specs.Rows.{in_front}
use Rattle.c_types_decl.proofs.declarations.type_declarators.Given as goal

-- those that are left, behind those before them, lead to the same
abbrev pub invariant-loop-i : goal.invariant-loop-i
invariant-loop-i l =
    let left = type_declarators (type_in l.kind) (declarator_list (drop l.i l.names.items)) (state_of l.checker) in
    let all = type_declarators (type_in l.fn.kind) (declarator_list l.fn.names.items) (state_of l.fn.checker) in
    record {
      tree : in_front declarator_shape more_declarators (take l.i l.names.items) left.names ≡ all.names;
      state : left.state ≡ all.state;
      count : length l.names.items ≡ length l.fn.names.items;
    }
