-- What stands in the brackets of an array.
use Rattle.c_tree.specs.Parts as parts
use Rattle.c_checker_parts.specs.declared.lengths.Length.{Length}
use Rattle.c_checker_parts.specs.declared.lengths.Length.TheVariants.{Counted, LeftOut, Unclear}

abbrev pub length_shape : Length → parts.Length
length_shape (Counted n) = parts.counted n
length_shape LeftOut = parts.left_out
length_shape Unclear = parts.unclear
