-- A probe is its front, its expression and its closing parenthesis.
use Rattle.std.proofs.Common.{◌≡◌, refl, [], ◌∷◌, ◌++◌, arith}
use Rattle.std.proofs.lemmas.Grind.{common_steps}
use Rattle.c_base.specs.declared.place.Pos.{Pos}
use Rattle.c_syntax.specs.declared.token.TokenKind.TheVariants as kind
use Rattle.c_syntax.specs.declared.token.Mark.TheVariants as m
use Rattle.c_syntax.specs.Forms.{Form, kinds}
use Rattle.c_syntax.specs.Shape.{ProbeShape, simple, select}
use Rattle.c_syntax.specs.Grammar.{probe_form}
use Rattle.c_syntax.specs.Fronts.{front_form}

pub probe_split : (o : Pos) (p : ProbeShape) (f : Form) → kinds (probe_form o p f) ≡ kinds (front_form p) ++ (kinds f ++ kind.Mark m.RightParen ∷ [])
probe_split o (simple u n) f = refl
probe_split o (select n cases) f = grind (arith, common_steps)
