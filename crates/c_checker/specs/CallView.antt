-- An argument, wherever its type lies in memory.
use Rattle.c_type_rules.specs.Kinds.{type_in}
use Rattle.c_tree.specs.Operators as operators
use Rattle.c_checker.specs.declared.calls.Given.{Given}

abbrev pub given_of : Given → operators.Given
given_of g = record { token = g.token; pos = g.pos; kind = type_in g.kind; null = g.null }
