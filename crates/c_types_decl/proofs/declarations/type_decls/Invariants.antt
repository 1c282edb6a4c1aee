use Rattle.std.proofs.Common.{◌≡◌, length, take, drop}
use Rattle.c_syntax.specs.Shape.{more_decls}
use Rattle.c_syntax.specs.View.{decl_shape, decl_list}
use Rattle.c_tree.specs.Declaring.{type_decls}
use Rattle.c_checker.specs.CheckerView.{state_of}
use Rattle.c_types_decl.specs.Rows.{in_front}
use Rattle.c_types_decl.proofs.declarations.type_decls.Given as goal

-- those that are left, behind those before them, lead to the same
abbrev pub invariant-loop-i : goal.invariant-loop-i
invariant-loop-i l =
    let left = type_decls (decl_list (drop l.i l.decls.items)) (state_of l.checker) in
    let all = type_decls (decl_list l.fn.decls.items) (state_of l.fn.checker) in
    record {
      tree : in_front decl_shape more_decls (take l.i l.decls.items) left.decls ≡ all.decls;
      state : left.state ≡ all.state;
      count : length l.decls.items ≡ length l.fn.decls.items;
    }
