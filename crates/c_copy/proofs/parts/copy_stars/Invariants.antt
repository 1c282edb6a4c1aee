use Rattle.std.proofs.Common.{◌≡◌, take}
use Rattle.c_copy.proofs.parts.copy_stars.Given as goal

abbrev pub invariant-loop-star : goal.invariant-loop-star
invariant-loop-star l = l.copies.items ≡ take l.star-index l.stars
