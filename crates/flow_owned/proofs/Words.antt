-- Forms in which each word is a plain name, as in what a text gives.
use Rattle.std.proofs.Common.{◌≡◌, ℕ, List, [], ◌∷◌, ◌++◌, Bool, true, false, Option, Some, None, arith, refl}
use Rattle.std.specs.Prelude.{◌&&◌, ◌||◌, nat_eq, not}
use Rattle.std.proofs.lemmas.Bool.Decides.{nat_tests}
use Rattle.c_base.specs.declared.place.Pos.{Pos}
use Rattle.c_syntax.specs.declared.text.Text.{Text}
use Rattle.c_syntax.specs.declared.token.TokenKind.{TokenKind}
use Rattle.c_syntax.specs.declared.token.TokenKind.TheVariants as kind
use Rattle.c_syntax.specs.declared.tree.Named.{Named}
use Rattle.c_syntax.specs.declared.tree.ProbeMark.{ProbeMark}
use Rattle.c_syntax.specs.Forms.{Form, nothing, is, at, starts, seq, kinds}
use Rattle.c_syntax.specs.Grammar.{named_as, maybe_named_form, nodes_form, led_nodes_form, enumers_form, led_enumers_form, declarators_form, led_declarators_form, param_list_form, led_params_form, inits_form, led_inits_form}
use Rattle.c_syntax.specs.Shape.{NodeShapes, no_nodes, more_nodes, EnumerShapes, no_enumers, more_enumers, DeclaratorShapes, no_declarators, more_declarators, DeclShapes, no_decls, more_decls, InitShapes, no_inits, more_inits}
use Rattle.c_tables.specs.Rows.{text_of}
use Rattle.c_lex_pieces.specs.declared.bytes.ByteSet.TheVariants.{InWord}
use Rattle.c_lex_pieces.specs.Bytes.{AllIn, is_letter, is_in_word}
use Rattle.c_lex_pieces.specs.Written.{IsToken, IsWord}
use Rattle.c_lex.specs.ReadBack.{AreTokens}
use Rattle.flow_owned.specs.Fields.{is_plain}

abbrev pub IsPlainToken : TokenKind → Type 0
IsPlainToken (kind.Word w) = is_plain w ≡ true
IsPlainToken (kind.Number w) = Unit {0}
IsPlainToken (kind.Char v) = Unit {0}
IsPlainToken (kind.Str vs) = Unit {0}
IsPlainToken (kind.Mark m) = Unit {0}
IsPlainToken (kind.Key k) = Unit {0}
IsPlainToken (kind.Probe p) = Unit {0}

abbrev pub HasPlainWords : Form → Type 0
HasPlainWords nothing = Unit {0}
HasPlainWords (is k) = IsPlainToken k
HasPlainWords (at p k) = IsPlainToken k
HasPlainWords (starts p f) = HasPlainWords f
HasPlainWords (seq f g) = HasPlainWords f × HasPlainWords g

-- ---- words of a text

letter_plain : (b : ℕ) → is_letter b ≡ true → not (nat_eq b 46 || nat_eq b 91) ≡ true
letter_plain b h = grind (arith, nat_tests)

byte_plain : (b : ℕ) → is_in_word b ≡ true → not (nat_eq b 46 || nat_eq b 91) ≡ true
byte_plain b h = grind (arith, nat_tests)

both_true : (a b : Bool) → a ≡ true → b ≡ true → a && b ≡ true
both_true true b h g = g
both_true false b h g = h

bytes_plain : (bs : List ℕ) → AllIn InWord bs → is_plain bs ≡ true
bytes_plain [] h = refl
bytes_plain (b ∷ bs) h = both_true (not (nat_eq b 46 || nat_eq b 91)) (is_plain bs) (byte_plain b h.0) (bytes_plain bs h.1)

word_plain : (w : List ℕ) → IsWord w → is_plain w ≡ true
word_plain [] h = absurd h
word_plain (b ∷ bs) h = both_true (not (nat_eq b 46 || nat_eq b 91)) (is_plain bs) (letter_plain b h.0) (bytes_plain bs h.1)

token_plain : (k : TokenKind) → IsToken k → IsPlainToken k
token_plain (kind.Word w) h = word_plain w h.0
token_plain (kind.Number w) h = tt
token_plain (kind.Char v) h = tt
token_plain (kind.Str vs) h = tt
token_plain (kind.Mark m) h = tt
token_plain (kind.Key k) h = tt
token_plain (kind.Probe p) h = tt

tokens_before : (ks ls : List TokenKind) → AreTokens (ks ++ ls) → AreTokens ks
tokens_before [] ls h = tt
tokens_before (k ∷ ks) ls h = (h.0, tokens_before ks ls h.1)

tokens_behind : (ks ls : List TokenKind) → AreTokens (ks ++ ls) → AreTokens ls
tokens_behind [] ls h = h
tokens_behind (k ∷ ks) ls h = tokens_behind ks ls h.1

pub tokens_plain : (f : Form) → AreTokens (kinds f) → HasPlainWords f
tokens_plain nothing h = tt
tokens_plain (is k) h = token_plain k h.0
tokens_plain (at p k) h = token_plain k h.0
tokens_plain (starts p f) h = tokens_plain f h
tokens_plain (seq f g) h = (tokens_plain f (tokens_before (kinds f) (kinds g) h), tokens_plain g (tokens_behind (kinds f) (kinds g) h))

-- ---- names and lists

text_plain : (p : Pos) (x : Text) (d : Option ProbeMark) → HasPlainWords (named_as p x d) → is_plain x ≡ true
text_plain p x None h = h
text_plain p x (Some d) h = h.1.1.0.1.1

pub name_plain : (x : Option Named) → HasPlainWords (maybe_named_form x) → is_plain (text_of x) ≡ true
name_plain None h = refl
name_plain (Some n) h = text_plain n.pos n.text n.probe h

pub led_nodes : (es : NodeShapes) → HasPlainWords (nodes_form es) → HasPlainWords (led_nodes_form es)
led_nodes no_nodes h = tt
led_nodes (more_nodes a rest) h = (tt, h)

pub led_enumers : (es : EnumerShapes) → HasPlainWords (enumers_form es) → HasPlainWords (led_enumers_form es)
led_enumers no_enumers h = tt
led_enumers (more_enumers n v rest) h = (tt, h)

pub led_declarators : (ds : DeclaratorShapes) → HasPlainWords (declarators_form ds) → HasPlainWords (led_declarators_form ds)
led_declarators no_declarators h = tt
led_declarators (more_declarators d rest) h = (tt, h)

pub led_params : (ds : DeclShapes) → HasPlainWords (param_list_form ds) → HasPlainWords (led_params_form ds)
led_params no_decls h = tt
led_params (more_decls d rest) h = (tt, h)

pub led_inits : (is : InitShapes) → HasPlainWords (inits_form is) → HasPlainWords (led_inits_form is)
led_inits no_inits h = tt
led_inits (more_inits i rest) h = (tt, h)
