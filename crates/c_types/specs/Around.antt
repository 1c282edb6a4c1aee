-- What stands round a statement.
use Rattle.std.specs.Prelude.{Option}
use Rattle.c_syntax.specs.Shape.{TypeOf}
use Rattle.c_tree.specs.Stating.{Surroundings}
use Rattle.c_types.specs.declared.jumps.Jumps.{Jumps}

abbrev pub around : Jumps → Option TypeOf → Surroundings
around j k = record { loop = j.looped; breakable = j.breakable; result = k }
