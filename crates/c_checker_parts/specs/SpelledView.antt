-- Specifiers, wherever the type among them lies in memory.
use Rattle.c_type_rules.specs.Kinds.{type_in}
use Rattle.c_tree.specs.Parts as parts
use Rattle.c_checker_parts.specs.declared.specifiers.Spelled.{Spelled}

abbrev pub spelled_of : Spelled → parts.Spelled
spelled_of a = record { words = a.words; tagged = type_in a.tagged }
