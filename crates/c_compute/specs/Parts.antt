-- The fields of structures, with the cells before them.
use Rattle.std.specs.Prelude.{Option, Some, None}
use Rattle.c_syntax.specs.View.{type_of}
use Rattle.c_meaning.specs.Layout.{Part}
use Rattle.c_compute.specs.declared.layout.Part as code
use Rattle.c_base.specs.Kept.{kept}

-- what the code gives of one
abbrev pub part_shape : code.Part → Part
part_shape p = record { offset = p.offset; kind = type_of p.kind.now }

-- its offset is kept up to the greatest number of 32 bits
abbrev pub kept_part : Option Part → Option Part
kept_part None = None
kept_part (Some p) = Some (record p { offset = kept p.offset })
