use Rattle.std.proofs.Common.{◌≡◌, ◌++◌, map, option_map, drop}
use Rattle.c_syntax.specs.View.{type_of}
use Rattle.c_tree.specs.Declaring.{all_kinds}
use Rattle.c_types_decl.specs.GivenView.{parameter_of}
use Rattle.c_types_decl.proofs.signatures.all_kinds.Given as goal

-- the types so far, and those that are left
abbrev pub invariant-loop-i : goal.invariant-loop-i
invariant-loop-i l =
    option_map (λ ts. map type_of l.kinds.items ++ ts) (all_kinds (map parameter_of (drop l.i l.given))) ≡ all_kinds (map parameter_of l.given)
