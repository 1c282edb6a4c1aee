use Rattle.std.proofs.Common.{◌≡◌, drop}
use Rattle.c_type_rules.specs.Kinds.{type_in}
use Rattle.c_tree.specs.Parts.{pointed}
use Rattle.c_checker_parts.proofs.lengths.pointed.Given as goal

-- the stars that are left lead to the same
abbrev pub invariant-loop-star : goal.invariant-loop-star
invariant-loop-star l = pointed (drop l._star-index l.stars) (type_in l.kind) ≡ pointed l.stars (type_in l.fn.kind)
