-- A leaf name, wherever its text lies in memory.
use Rattle.c_sites.specs.declared.names.Leaf as code_leaf
use Rattle.c_sites.specs.Names.{LeafName}

abbrev pub leaf_shape : code_leaf.Leaf → LeafName
leaf_shape l = record { variable = l.variable; text = l.text.items }
