-- Items of a list that are typed already, in front of the others.
use Rattle.std.specs.Prelude.{List, [], ◌∷◌}
use Rattle.c_syntax.specs.declared.tree.Init.{Init}
use Rattle.c_syntax.specs.Shape.{InitShapes, more_inits}
use Rattle.c_syntax.specs.View.{init_shape}
use Rattle.c_tree.specs.Initialisers.{TypedInits}

abbrev pub front : List Init → InitShapes → InitShapes
front [] rest = rest
front (i ∷ items) rest = more_inits (init_shape i) (front items rest)

abbrev pub behind : List Init → TypedInits → TypedInits
behind items r = record { inits = front items r.inits; state = r.state }
