-- The items of a list, from its brace on.
use Rattle.std.specs.Prelude.{Option}
use Rattle.c_base.specs.declared.place.Pos.{Pos}
use Rattle.c_syntax.specs.Shape.{TypeOf, InitShapes}
use Rattle.c_tree.specs.State.{State, step}
use Rattle.c_tree.specs.Rulings.{rule, of_kind}
use Rattle.c_tree.specs.Initialisers.{slots, list_rule, TypedInits, type_inits}

-- the list stands at that place, for an object of that type, if it is known
abbrev pub in_braces : Option TypeOf → Pos → InitShapes → State → TypedInits
in_braces k p items s = type_inits (slots k s) items (step (rule (of_kind k list_rule) s.at p s))
