-- What a loop has done already stands in front of what is to come.
use Rattle.std.specs.Prelude.{List, [], ◌∷◌}

abbrev pub in_front : {T R : Type 0} → (T → R → R) → List T → R → R
in_front one [] r = r
in_front one (x ∷ xs) r = one x (in_front one xs r)
