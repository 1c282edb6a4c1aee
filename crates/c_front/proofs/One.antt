-- No text has two readings.
use Rattle.std.proofs.Common.{◌≡◌, ℕ, ◌≤◌, ◌<◌, List, [], ◌∷◌, ◌++◌, length, sym, ap, ◌∙◌, subst, arith, inl, inr}
use Rattle.std.proofs.lemmas.List.{append_assoc, length-append}
use Rattle.std.proofs.lemmas.List.Elements.{All-contains}
use Rattle.std.specs.List.{Contains}
use Rattle.c_base.specs.declared.place.Pos.{Pos}
use Rattle.c_syntax.specs.declared.token.Token.{Token}
use Rattle.c_syntax.specs.declared.token.TokenKind.{TokenKind}
use Rattle.c_syntax.specs.Forms.{Form, nothing, is, at, starts, seq, Written, head, a_token, no_token, place}
use Rattle.c_syntax.specs.Shape.{UnitShape}
use Rattle.c_syntax.specs.Grammar.{Placed, line_form, unit_form}
use Rattle.c_lex.specs.declared.lexer.TextKind.{TextKind}
use Rattle.c_lex.specs.Scan.{scanned}
use Rattle.c_lex.specs.Scan as lexed
use Rattle.c_lex.specs.Given.{given}
use Rattle.c_grammar_stmt.specs.StmtParts.{Front, SyntaxAt}
use Rattle.c_tables.specs.Tables.{TablesShape}
use Rattle.c_tree.specs.Units.{typed_unit, complaints, comes_before, order}
use Rattle.c_types.specs.Checked.{IsFirstAt}
use Rattle.c_front.specs.Front.{Understanding, program, refused, AreTokens, IsUnit, IsNoUnit, HasProgram, IsRefusedAt, by_lexer, by_parser, by_checker, IsRead, IsOne}
use Rattle.c_parse.proofs.UnitWhole.{one_unit}

-- THE PLACE OF A SYNTAX ERROR

token_in_front : (k : TokenKind) (ts rest : List Token) → head ts ≡ a_token k rest → (front : List Token) × (ts ≡ front ++ rest)
token_in_front k [] rest e = absurd (let h : no_token ≡ a_token k rest = e in cc)
token_in_front k (t ∷ ts) rest e = (t ∷ [], ap (λ l. t ∷ l) (let h : a_token t.kind ts ≡ a_token k rest = e in cc))

in_front : (f : Form) (ts rest : List Token) → Written f ts rest → (front : List Token) × (ts ≡ front ++ rest)
in_front nothing ts rest w = ([], w)
in_front (is k) ts rest w = token_in_front k ts rest w
in_front (at p k) ts rest w = token_in_front k ts rest w.1
in_front (starts p f) ts rest w = in_front f ts rest w.1
in_front (seq f g) ts rest w =
    let a = in_front f ts w.middle w.first in
    let b = in_front g w.middle rest w.second in
    (a.0 ++ b.0, a.1 ∙ ap (λ l. a.0 ++ l) b.1 ∙ sym (append_assoc a.0 b.0 rest))

front_is : (ts rest : List Token) → Front ts rest → (front : List Token) × (ts ≡ front ++ rest)
front_is ts rest (inl e) = ([], e)
front_is ts rest (inr (inl w)) = in_front (line_form w.0) ts rest w.1
front_is ts rest (inr (inr w)) = in_front (unit_form w.0) ts rest w.2

-- two ends of one list that are as long
same_end : (f g a b : List Token) → f ++ a ≡ g ++ b → length a ≡ length b → a ≡ b
same_end [] [] a b e n = e
same_end [] (y ∷ g) a b e n = absurd (let h = length-append (y ∷ g) b in let i = ap length e in omega (arith, h, i, n))
same_end (x ∷ f) [] a b e n = absurd (let h = length-append (x ∷ f) a in let i = ap length e in omega (arith, h, i, n))
same_end (x ∷ f) (y ∷ g) a b e n = same_end f g a b (let h : x ∷ (f ++ a) ≡ y ∷ (g ++ b) = e in cc) n

same_place : (ts : List Token) (p q : Pos) → SyntaxAt ts p → SyntaxAt ts q → p ≡ q
same_place [] p q a b = a ∙ sym b
same_place (t ∷ ts) p q a b =
    let f = front_is (t ∷ ts) a.rest a.front in
    let g = front_is (t ∷ ts) b.rest b.front in
    let n = a.longest b.rest b.front b.proper in
    let m = b.longest a.rest a.front a.proper in
    a.at' ∙ ap place (same_end f.0 g.0 a.rest b.rest (sym f.1 ∙ g.1) (omega (arith, n, m))) ∙ sym b.at'

-- COMPLAINTS

first_before : (u : UnitShape) (n m : ℕ) (p q : Pos) (a : IsFirstAt u n p) (b : IsFirstAt u m q) → order a.complaint ≤ order b.complaint
first_before u n m p q a b = All-contains (comes_before a.complaint) (complaints u) b.complaint a.first.first b.first.one

same_number : (u : UnitShape) (n m : ℕ) (p q : Pos) → IsFirstAt u n p → IsFirstAt u m q → n < 256 → m < 256 → n ≡ m
same_number u n m p q a b k l =
    let f = first_before u n m p q a b in
    let g = first_before u m n q p b a in
    let x = a.number_is in
    let y = b.number_is in
    omega (arith, f, g, x, y, k, l)

no_complaint : (u : UnitShape) (n : ℕ) (p : Pos) → IsFirstAt u n p → complaints u ≡ [] → ⊥
no_complaint u n p a e = let h = (subst (λ l. Contains l a.complaint) e a.first.one).1 in omega (arith, h)

module _ (kind : TextKind) where
  -- TOKENS AND UNITS

  same_tokens : (source : List ℕ) (a b : List Token) → AreTokens kind source a → AreTokens kind source b → a ≡ b
  same_tokens source a b p q = (let e : scanned a ≡ scanned b = sym p ∙ q in cc)

  tokens_or_refused : (source : List ℕ) (ts : List Token) (n : ℕ) (p : Pos) → AreTokens kind source ts → given kind source ≡ lexed.refused n p → ⊥
  tokens_or_refused source ts n p a b = (let e : scanned ts ≡ lexed.refused n p = sym a ∙ b in cc)

  same_unit : (source : List ℕ) (u v : UnitShape) → IsUnit kind source u → IsUnit kind source v → u ≡ v
  same_unit source u v a b = one_unit u v a.tokens a.shaped a.placed b.shaped (subst (Placed v) (same_tokens source b.tokens a.tokens b.given a.given) b.placed)

  unit_or_none : (source : List ℕ) (u : UnitShape) (p : Pos) → IsUnit kind source u → IsNoUnit kind source p → ⊥
  unit_or_none source u p a b = b.none u a.shaped (subst (Placed u) (same_tokens source a.tokens b.tokens a.given b.given) a.placed)

  same_error : (source : List ℕ) (p q : Pos) → IsNoUnit kind source p → IsNoUnit kind source q → p ≡ q
  same_error source p q a b = same_place a.tokens p q a.at' (subst (λ ts. SyntaxAt ts q) (same_tokens source b.tokens a.tokens b.given a.given) b.at')

  -- READINGS

  typed_same : (source : List ℕ) (v w : UnitShape) (t s : TablesShape) → HasProgram kind source v t → HasProgram kind source w s → program w s ≡ program v t
  typed_same source v w t s a b =
      let e = same_unit source b.unit a.unit b.written a.written in
      ap (λ x. program x s) (b.typed.unit ∙ ap (λ u. (typed_unit u).unit) e ∙ sym a.typed.unit)
      ∙ ap (λ x. program v x) (b.typed.tables ∙ ap (λ u. (typed_unit u).state.tables) e ∙ sym a.typed.tables)

  program_or_refused : (source : List ℕ) (v : UnitShape) (t : TablesShape) (n : ℕ) (p : Pos) → HasProgram kind source v t → IsRefusedAt kind source n p → ⊥
  program_or_refused source v t n p a (by_lexer e) = tokens_or_refused source a.written.tokens n p a.written.given e
  program_or_refused source v t n p a (by_parser e i) = unit_or_none source a.unit p a.written i
  program_or_refused source v t n p a (by_checker u i c l) = no_complaint u n p c (subst (λ u. complaints u ≡ []) (same_unit source a.unit u a.written i) a.typed.clean)

  program_alone : (source : List ℕ) (v : UnitShape) (t : TablesShape) (a : Understanding) → IsRead kind source (program v t) → IsRead kind source a → a ≡ program v t
  program_alone source v t (program w s) a b = typed_same source v w t s a b
  program_alone source v t (refused n p) a b = absurd (program_or_refused source v t n p a b)

  one_number : (source : List ℕ) (n m : ℕ) (p q : Pos) → IsRefusedAt kind source n p → IsRefusedAt kind source m q → n ≡ m
  one_number source n m p q (by_lexer e) (by_lexer f) = (let h : lexed.refused n p ≡ lexed.refused m q = sym e ∙ f in cc)
  one_number source n m p q (by_lexer e) (by_parser f j) = absurd (tokens_or_refused source j.tokens n p j.given e)
  one_number source n m p q (by_lexer e) (by_checker v j d l) = absurd (tokens_or_refused source j.tokens n p j.given e)
  one_number source n m p q (by_parser e i) (by_lexer f) = absurd (tokens_or_refused source i.tokens m q i.given f)
  one_number source n m p q (by_parser e i) (by_parser f j) = e ∙ sym f
  one_number source n m p q (by_parser e i) (by_checker v j d l) = absurd (unit_or_none source v p j i)
  one_number source n m p q (by_checker u i c k) (by_lexer f) = absurd (tokens_or_refused source i.tokens m q i.given f)
  one_number source n m p q (by_checker u i c k) (by_parser f j) = absurd (unit_or_none source u q i j)
  one_number source n m p q (by_checker u i c k) (by_checker v j d l) = same_number u n m p q c (subst (λ w. IsFirstAt w m q) (same_unit source v u j i) d) k l

  one_place : (source : List ℕ) (n m : ℕ) (p q : Pos) → ((u : UnitShape) → IsUnit kind source u → ⊥) → IsRefusedAt kind source n p → IsRefusedAt kind source m q → p ≡ q
  one_place source n m p q z (by_lexer e) (by_lexer f) = (let h : lexed.refused n p ≡ lexed.refused m q = sym e ∙ f in cc)
  one_place source n m p q z (by_lexer e) (by_parser f j) = absurd (tokens_or_refused source j.tokens n p j.given e)
  one_place source n m p q z a (by_checker v j d l) = absurd (z v j)
  one_place source n m p q z (by_parser e i) (by_lexer f) = absurd (tokens_or_refused source i.tokens m q i.given f)
  one_place source n m p q z (by_parser e i) (by_parser f j) = same_error source p q i j
  one_place source n m p q z (by_checker u i c k) b = absurd (z u i)

  unread : (source : List ℕ) (a b : Understanding) → ((u : UnitShape) → IsUnit kind source u → ⊥) → IsRead kind source a → IsRead kind source b → a ≡ b
  unread source (program v t) b z x y = absurd (z x.unit x.written)
  unread source (refused n p) (program w s) z x y = absurd (z y.unit y.written)
  unread source (refused n p) (refused m q) z x y = ap (λ k. refused k p) (one_number source n m p q x y) ∙ ap (λ r. refused m r) (one_place source n m p q z x y)

  pub is_one : (source : List ℕ) → IsOne kind source
  is_one source = record { program_alone = λ v t a x y. program_alone source v t a x y; one_number = λ n m p q x y. one_number source n m p q x y; one_place = λ a b z x y. unread source a b z x y }
