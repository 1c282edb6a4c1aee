-- A declarator declares one variable at most.
use Rattle.std.proofs.Common.{◌≡◌, refl}
use Rattle.c_syntax.specs.Shape.{DeclaratorShape, declarator, arrays, function}
use Rattle.c_meaning.specs.Counts.{variables_of}
use Rattle.c_base.specs.Kept.{kept}

pub one_at_most : (d : DeclaratorShape) → variables_of d ≡ kept (variables_of d)
one_at_most (declarator stars x (arrays ls) i) = refl
one_at_most (declarator stars x (function ps) i) = refl
