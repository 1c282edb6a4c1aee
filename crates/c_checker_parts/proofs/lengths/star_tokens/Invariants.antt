use Rattle.std.proofs.Common.{◌≡◌, ◌+◌, ◌-◌, ◌^◌, ◌≤◌, min, drop}
use Rattle.c_tree.specs.Parts.{star_tokens}
use Rattle.c_checker_parts.proofs.lengths.star_tokens.Given as goal

-- those of the stars that are left come to the ones so far
abbrev pub invariant-loop-star : goal.invariant-loop-star
invariant-loop-star l = record {
  count : min (l.total + star_tokens (drop l.star-index l.stars)) (2 ^ 32 - 1) ≡ min (star_tokens l.stars) (2 ^ 32 - 1);
  small : l.total ≤ 2 ^ 32 - 1;
}
