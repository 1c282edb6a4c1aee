use Rattle.std.proofs.Common.{◌≡◌, ◌++◌, drop}
use Rattle.c_syntax.specs.Forms.{kinds}
use Rattle.c_syntax.specs.Grammar.{stars_form}
use Rattle.c_syntax.proofs.words.put_stars.Given as goal

abbrev pub invariant-loop-star : goal.invariant-loop-star
invariant-loop-star l = l.out ++ kinds (stars_form (drop l.star-index l.stars)) ≡ l.initial.out ++ kinds (stars_form l.stars)
