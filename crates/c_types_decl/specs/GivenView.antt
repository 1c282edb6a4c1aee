-- A parameter of a function, wherever its type lies in memory.
use Rattle.std.specs.Prelude.{Option}
use Rattle.c_syntax.specs.declared.text.Text.{Text}
use Rattle.c_syntax.specs.Shape.{TypeOf}
use Rattle.c_type_rules.specs.Kinds.{type_in}
use Rattle.c_types_decl.specs.declared.functions.Parameter.{Parameter}

abbrev pub parameter_of : Parameter → Text × Option TypeOf
parameter_of p = (p.name, type_in p.kind)
