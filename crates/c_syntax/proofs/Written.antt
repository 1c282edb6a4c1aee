-- What is written has the kinds of its form.
use Rattle.std.proofs.Common.{◌≡◌, List, [], ◌∷◌, ◌++◌, refl, sym, ap, ◌∙◌, append_assoc}
use Rattle.c_syntax.specs.declared.token.Token.{Token}
use Rattle.c_syntax.specs.declared.token.TokenKind.{TokenKind}
use Rattle.c_syntax.specs.Forms.{Form, nothing, is, at, starts, seq, kinds, kinds_of, Head, a_token, no_token, head, Written}

pub head_kinds : (ts : List Token) (k : TokenKind) (rest : List Token) → head ts ≡ a_token k rest → kinds_of ts ≡ k ∷ kinds_of rest
head_kinds [] k rest e = absurd (let h : no_token ≡ a_token k rest = e in cc)
head_kinds (t ∷ ts) k rest e =
    let same : t.kind ≡ k = cc in
    let last : ts ≡ rest = cc in
    ap (λ x. x ∷ kinds_of ts) same ∙ ap (λ l. k ∷ kinds_of l) last

pub written_kinds : (f : Form) (ts rest : List Token) → Written f ts rest → kinds_of ts ≡ kinds f ++ kinds_of rest
written_kinds nothing ts rest w = ap kinds_of w
written_kinds (is k) ts rest w = head_kinds ts k rest w
written_kinds (at p k) ts rest w = head_kinds ts k rest w.1
written_kinds (starts p f) ts rest w = written_kinds f ts rest w.1
written_kinds (seq f g) ts rest w =
    written_kinds f ts w.middle w.first ∙ ap (λ l. kinds f ++ l) (written_kinds g w.middle rest w.second) ∙ sym (append_assoc (kinds f) (kinds g) (kinds_of rest))
