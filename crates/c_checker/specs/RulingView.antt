-- A ruling, wherever its type lies in memory.
use Rattle.c_syntax.specs.View.{type_of}
use Rattle.c_tree.specs.Rulings.{Ruled, allowed, unsettled, refused}
use Rattle.c_checker.specs.declared.ruling.Ruling.{Ruling}
use Rattle.c_checker.specs.declared.ruling.Ruling.TheVariants.{Allowed, Unsettled, Refused}

abbrev pub ruled_of : Ruling → Ruled
ruled_of (Allowed t) = allowed (type_of t)
ruled_of Unsettled = unsettled
ruled_of (Refused number) = refused number
