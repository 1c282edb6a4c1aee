-- The kinds of a unit's tokens are those that it is written with.
use Rattle.std.proofs.Common.{◌≡◌, List, [], ◌∷◌, ◌++◌, refl, sym, ap, ◌∙◌, append_assoc, append-nil}
use Rattle.c_syntax.specs.declared.token.Token.{Token}
use Rattle.c_syntax.specs.declared.token.TokenKind.{TokenKind}
use Rattle.c_syntax.specs.Forms.{Form, nothing, is, at, starts, seq, kinds, kinds_of, Head, a_token, no_token, head, Written}
use Rattle.c_syntax.specs.Grammar.{unit_form, tokens_of, Placed}
use Rattle.c_syntax.specs.Shape.{UnitShape}

abbrev kinds_at_head : Head → List TokenKind
kinds_at_head no_token = []
kinds_at_head (a_token k ts) = k ∷ kinds_of ts

by_head : (ts : List Token) → kinds_of ts ≡ kinds_at_head (head ts)
by_head [] = refl
by_head (t ∷ ts) = refl

pub written_kinds : (f : Form) (ts rest : List Token) → Written f ts rest → kinds_of ts ≡ kinds f ++ kinds_of rest
written_kinds nothing ts rest w = ap kinds_of w
written_kinds (is k) ts rest w = by_head ts ∙ ap kinds_at_head w
written_kinds (at p k) ts rest w = by_head ts ∙ ap kinds_at_head w.1
written_kinds (starts p f) ts rest w = written_kinds f ts rest w.1
written_kinds (seq f g) ts rest w =
    written_kinds f ts w.middle w.first ∙ (ap (λ x. kinds f ++ x) (written_kinds g w.middle rest w.second) ∙ sym (append_assoc (kinds f) (kinds g) (kinds_of rest)))

pub placed_kinds : (u : UnitShape) (ts : List Token) → Placed u ts → kinds_of ts ≡ tokens_of u
placed_kinds u ts p = written_kinds (unit_form u) ts [] p.written ∙ append-nil (kinds (unit_form u))
