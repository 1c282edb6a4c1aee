use Rattle.std.proofs.Common.{◌≡◌, take, drop}
use Rattle.c_syntax.specs.View.{init_list}
use Rattle.c_tree.specs.Initialisers.{type_inits}
use Rattle.c_checker.specs.CheckerView.{state_of}
use Rattle.c_types_decl.specs.SlotsView.{slots_of}
use Rattle.c_types_decl.specs.Fronts.{behind}
use Rattle.c_types_decl.proofs.initialisers.+initialisers.Given as goal

-- the items that are left come behind those so far
abbrev pub invariant-type_items-loop-i : goal.invariant-type_items-loop-i
invariant-type_items-loop-i l = record {
  typed : behind (take l.i l.items.items) (type_inits (slots_of l.slots) (init_list (drop l.i l.items.items)) (state_of l.checker)) ≡ type_inits (slots_of l.fn.slots) (init_list l.fn.items.items) (state_of l.fn.checker);
  unvisited : goal.unvisited-type_items-loop-i l;
}
