use Rattle.std.proofs.Common.{◌≡◌, ◌++◌, map}
use Rattle.std.specs.String.{string_bytes}
use Rattle.c_sites.specs.LeafView.{leaf_shape}
use Rattle.c_sites.specs.Spelled.{spelling}
use Rattle.c_sites.proofs.names.Names.into_texts.Given as goal

abbrev pub invariant-loop-leaf : goal.invariant-loop-leaf
invariant-loop-leaf l =
    map string_bytes l.texts.items ++ map spelling (map leaf_shape l.leaf-iterator) ≡ map spelling (map leaf_shape l.initial.leaf-iterator)
