-- What the operator at the front, and how an expression or a declaration begins, say of the first token.
use Rattle.std.proofs.Common.{◌≡◌, List, Some, None, Bool, true, refl, sym, ap, ◌∙◌, subst}
use Rattle.std.specs.Prelude.{◌≢◌}
use Rattle.c_syntax.specs.declared.token.Mark.{Mark}
use Rattle.c_syntax.specs.declared.token.Mark.TheVariants as marks
use Rattle.c_syntax.specs.declared.token.Key.{Key}
use Rattle.c_syntax.specs.declared.token.Key.TheVariants as keys
use Rattle.c_syntax.specs.declared.token.ProbeWord.{ProbeWord}
use Rattle.c_syntax.specs.declared.token.ProbeWord.TheVariants as words
use Rattle.c_syntax.specs.declared.token.Token.{Token}
use Rattle.c_syntax.specs.declared.token.TokenKind.TheVariants as kind
use Rattle.c_syntax.specs.declared.tree.UnaryOp.TheVariants as unary_op
use Rattle.c_syntax.specs.declared.tree.BinaryOp.TheVariants as op
use Rattle.c_syntax.specs.Forms.{Head, a_token, no_token, head}
use Rattle.c_syntax.specs.Shape.{Leaf, number, char, str, name, up, down, Prefix, unary, before, size_of, Infix, plain, and, or, assign, comma, Probing, block, test, used, def}
use Rattle.c_syntax.specs.Grammar.{leaf_kind, prefix_kind, infix_mark, access_mark, step_mark, probing_word}
use Rattle.c_syntax.specs.Shaped.{infix_fits, is_spec_word}
use Rattle.c_grammar.specs.Starts.{Oper, infix_oper, question, bracket, access, step, open_paren, MaybeOper, an_oper, no_oper, mark_oper, a_sign, no_sign, sign_of, sign_head, sign, Start, at_leaf, at_prefix, at_paren, at_simple, at_select, no_start, start_mark, start_key, start_word, start_kind, start_head, start, SpecHead, a_spec_word, a_struct, an_enum, no_spec, spec_key, spec_of_head, spec_head}
use Rattle.c_grammar.proofs.Looking.{apart}

-- OPERATORS

abbrev pub oper_mark : Oper → Mark
oper_mark (infix_oper u) = infix_mark u
oper_mark question = marks.Question
oper_mark bracket = marks.LeftBracket
oper_mark (access h) = access_mark h
oper_mark (step s) = step_mark s
oper_mark open_paren = marks.LeftParen

abbrev oper_fits : Oper → Bool
oper_fits (infix_oper u) = infix_fits u
oper_fits question = true
oper_fits bracket = true
oper_fits (access h) = true
oper_fits (step s) = true
oper_fits open_paren = true

-- what a sign says of the tokens
abbrev SignSays : MaybeOper → Mark → Type 0
SignSays (an_oper o) x = (x ≡ oper_mark o) × (oper_fits o ≡ true)
SignSays no_oper x = Unit {0}

mark_says : (x : Mark) → SignSays (mark_oper x) x
mark_says marks.LeftBracket = (refl, refl)
mark_says marks.RightBracket = tt
mark_says marks.LeftParen = (refl, refl)
mark_says marks.RightParen = tt
mark_says marks.LeftBrace = tt
mark_says marks.RightBrace = tt
mark_says marks.Dot = (refl, refl)
mark_says marks.Arrow = (refl, refl)
mark_says marks.PlusPlus = (refl, refl)
mark_says marks.MinusMinus = (refl, refl)
mark_says marks.Ampersand = (refl, refl)
mark_says marks.Star = (refl, refl)
mark_says marks.Plus = (refl, refl)
mark_says marks.Minus = (refl, refl)
mark_says marks.Tilde = tt
mark_says marks.Bang = tt
mark_says marks.Slash = (refl, refl)
mark_says marks.Percent = (refl, refl)
mark_says marks.ShiftLeft = (refl, refl)
mark_says marks.ShiftRight = (refl, refl)
mark_says marks.Less = (refl, refl)
mark_says marks.Greater = (refl, refl)
mark_says marks.LessEqual = (refl, refl)
mark_says marks.GreaterEqual = (refl, refl)
mark_says marks.EqualEqual = (refl, refl)
mark_says marks.NotEqual = (refl, refl)
mark_says marks.Caret = (refl, refl)
mark_says marks.Bar = (refl, refl)
mark_says marks.AndAnd = (refl, refl)
mark_says marks.OrOr = (refl, refl)
mark_says marks.Question = (refl, refl)
mark_says marks.Colon = tt
mark_says marks.Semicolon = tt
mark_says marks.Equal = (refl, refl)
mark_says marks.StarEqual = (refl, refl)
mark_says marks.SlashEqual = (refl, refl)
mark_says marks.PercentEqual = (refl, refl)
mark_says marks.PlusEqual = (refl, refl)
mark_says marks.MinusEqual = (refl, refl)
mark_says marks.LeftEqual = (refl, refl)
mark_says marks.RightEqual = (refl, refl)
mark_says marks.AndEqual = (refl, refl)
mark_says marks.CaretEqual = (refl, refl)
mark_says marks.BarEqual = (refl, refl)
mark_says marks.Comma = (refl, refl)

abbrev pub SignIs : Oper → List Token → Head → Type 0
SignIs o r h = (h ≡ a_token (kind.Mark (oper_mark o)) r) × (oper_fits o ≡ true)

sign_back : (x : Mark) (b : MaybeOper) (ts : List Token) (o : Oper) (r : List Token) → SignSays b x → sign_of b ts ≡ a_sign o r → SignIs o r (a_token (kind.Mark x) ts)
sign_back x no_oper ts o r s e = absurd (let h : no_sign ≡ a_sign o r = e in cc)
sign_back x (an_oper q) ts o r s e =
    let same : q ≡ o = cc in
    let rest : ts ≡ r = cc in
    (ap (λ z. a_token (kind.Mark z) ts) (s.0 ∙ ap oper_mark same) ∙ ap (λ l. a_token (kind.Mark (oper_mark o)) l) rest, sym (ap oper_fits same) ∙ s.1)

sign_head_is : (h : Head) (o : Oper) (r : List Token) → sign_head h ≡ a_sign o r → SignIs o r h
sign_head_is no_token o r e = absurd (let h : no_sign ≡ a_sign o r = e in cc)
sign_head_is (a_token (kind.Word y) ts) o r e = absurd (let h : no_sign ≡ a_sign o r = e in cc)
sign_head_is (a_token (kind.Number y) ts) o r e = absurd (let h : no_sign ≡ a_sign o r = e in cc)
sign_head_is (a_token (kind.Char y) ts) o r e = absurd (let h : no_sign ≡ a_sign o r = e in cc)
sign_head_is (a_token (kind.Str y) ts) o r e = absurd (let h : no_sign ≡ a_sign o r = e in cc)
sign_head_is (a_token (kind.Key y) ts) o r e = absurd (let h : no_sign ≡ a_sign o r = e in cc)
sign_head_is (a_token (kind.Probe y) ts) o r e = absurd (let h : no_sign ≡ a_sign o r = e in cc)
sign_head_is (a_token (kind.Mark x) ts) o r e = sign_back x (mark_oper x) ts o r (mark_says x) e

pub sign_is : (ts : List Token) (o : Oper) (r : List Token) → sign ts ≡ a_sign o r → SignIs o r (head ts)
sign_is ts o r e = sign_head_is (head ts) o r e

infix_says : (u : Infix) → infix_fits u ≡ true → mark_oper (infix_mark u) ≡ an_oper (infix_oper u)
infix_says (plain op.Mul) h = refl
infix_says (plain op.Div) h = refl
infix_says (plain op.Rem) h = refl
infix_says (plain op.Add) h = refl
infix_says (plain op.Sub) h = refl
infix_says (plain op.Shl) h = refl
infix_says (plain op.Shr) h = refl
infix_says (plain op.Lt) h = refl
infix_says (plain op.Gt) h = refl
infix_says (plain op.Le) h = refl
infix_says (plain op.Ge) h = refl
infix_says (plain op.Eq) h = refl
infix_says (plain op.Ne) h = refl
infix_says (plain op.BitAnd) h = refl
infix_says (plain op.BitXor) h = refl
infix_says (plain op.BitOr) h = refl
infix_says and h = refl
infix_says or h = refl
infix_says (assign None) h = refl
infix_says (assign (Some op.Mul)) h = refl
infix_says (assign (Some op.Div)) h = refl
infix_says (assign (Some op.Rem)) h = refl
infix_says (assign (Some op.Add)) h = refl
infix_says (assign (Some op.Sub)) h = refl
infix_says (assign (Some op.Shl)) h = refl
infix_says (assign (Some op.Shr)) h = refl
infix_says (assign (Some op.Lt)) h = apart (sym h)
infix_says (assign (Some op.Gt)) h = apart (sym h)
infix_says (assign (Some op.Le)) h = apart (sym h)
infix_says (assign (Some op.Ge)) h = apart (sym h)
infix_says (assign (Some op.Eq)) h = apart (sym h)
infix_says (assign (Some op.Ne)) h = apart (sym h)
infix_says (assign (Some op.BitAnd)) h = refl
infix_says (assign (Some op.BitXor)) h = refl
infix_says (assign (Some op.BitOr)) h = refl
infix_says comma h = refl

pub infix_sign : (u : Infix) (ts r : List Token) → infix_fits u ≡ true → head ts ≡ a_token (kind.Mark (infix_mark u)) r → sign ts ≡ a_sign (infix_oper u) r
infix_sign u ts r h e = ap sign_head e ∙ ap (λ b. sign_of b r) (infix_says u h)

-- HOW EXPRESSIONS BEGIN

-- what a start says of the first token
abbrev StartSays : Start → Head → Type 0
StartSays (at_leaf l r) h = h ≡ a_token (leaf_kind l) r
StartSays (at_prefix u r) h = h ≡ a_token (prefix_kind u) r
StartSays (at_paren r) h = h ≡ a_token (kind.Mark marks.LeftParen) r
StartSays (at_simple u r) h = h ≡ a_token (kind.Probe (probing_word u)) r
StartSays (at_select r) h = h ≡ a_token (kind.Probe words.Select) r
StartSays no_start h = Unit {0}

start_mark_says : (x : Mark) (ts : List Token) → StartSays (start_mark x ts) (a_token (kind.Mark x) ts)
start_mark_says marks.LeftBracket ts = tt
start_mark_says marks.RightBracket ts = tt
start_mark_says marks.LeftParen ts = refl
start_mark_says marks.RightParen ts = tt
start_mark_says marks.LeftBrace ts = tt
start_mark_says marks.RightBrace ts = tt
start_mark_says marks.Dot ts = tt
start_mark_says marks.Arrow ts = tt
start_mark_says marks.PlusPlus ts = refl
start_mark_says marks.MinusMinus ts = refl
start_mark_says marks.Ampersand ts = refl
start_mark_says marks.Star ts = refl
start_mark_says marks.Plus ts = refl
start_mark_says marks.Minus ts = refl
start_mark_says marks.Tilde ts = refl
start_mark_says marks.Bang ts = refl
start_mark_says marks.Slash ts = tt
start_mark_says marks.Percent ts = tt
start_mark_says marks.ShiftLeft ts = tt
start_mark_says marks.ShiftRight ts = tt
start_mark_says marks.Less ts = tt
start_mark_says marks.Greater ts = tt
start_mark_says marks.LessEqual ts = tt
start_mark_says marks.GreaterEqual ts = tt
start_mark_says marks.EqualEqual ts = tt
start_mark_says marks.NotEqual ts = tt
start_mark_says marks.Caret ts = tt
start_mark_says marks.Bar ts = tt
start_mark_says marks.AndAnd ts = tt
start_mark_says marks.OrOr ts = tt
start_mark_says marks.Question ts = tt
start_mark_says marks.Colon ts = tt
start_mark_says marks.Semicolon ts = tt
start_mark_says marks.Equal ts = tt
start_mark_says marks.StarEqual ts = tt
start_mark_says marks.SlashEqual ts = tt
start_mark_says marks.PercentEqual ts = tt
start_mark_says marks.PlusEqual ts = tt
start_mark_says marks.MinusEqual ts = tt
start_mark_says marks.LeftEqual ts = tt
start_mark_says marks.RightEqual ts = tt
start_mark_says marks.AndEqual ts = tt
start_mark_says marks.CaretEqual ts = tt
start_mark_says marks.BarEqual ts = tt
start_mark_says marks.Comma ts = tt

start_key_says : (x : Key) (ts : List Token) → StartSays (start_key x ts) (a_token (kind.Key x) ts)
start_key_says keys.Break ts = tt
start_key_says keys.Case ts = tt
start_key_says keys.Char ts = tt
start_key_says keys.Const ts = tt
start_key_says keys.Continue ts = tt
start_key_says keys.Default ts = tt
start_key_says keys.Do ts = tt
start_key_says keys.Else ts = tt
start_key_says keys.Enum ts = tt
start_key_says keys.For ts = tt
start_key_says keys.If ts = tt
start_key_says keys.Int ts = tt
start_key_says keys.Long ts = tt
start_key_says keys.Return ts = tt
start_key_says keys.Short ts = tt
start_key_says keys.Signed ts = tt
start_key_says keys.Sizeof ts = refl
start_key_says keys.Static ts = tt
start_key_says keys.Struct ts = tt
start_key_says keys.Switch ts = tt
start_key_says keys.Unsigned ts = tt
start_key_says keys.Void ts = tt
start_key_says keys.While ts = tt

start_word_says : (x : ProbeWord) (ts : List Token) → StartSays (start_word x ts) (a_token (kind.Probe x) ts)
start_word_says words.Program ts = tt
start_word_says words.Block ts = refl
start_word_says words.Test ts = refl
start_word_says words.Select ts = refl
start_word_says words.Use ts = refl
start_word_says words.Def ts = refl

start_head_says : (h : Head) → StartSays (start_head h) h
start_head_says no_token = tt
start_head_says (a_token (kind.Word x) ts) = refl
start_head_says (a_token (kind.Number x) ts) = refl
start_head_says (a_token (kind.Char x) ts) = refl
start_head_says (a_token (kind.Str x) ts) = refl
start_head_says (a_token (kind.Mark x) ts) = start_mark_says x ts
start_head_says (a_token (kind.Key x) ts) = start_key_says x ts
start_head_says (a_token (kind.Probe x) ts) = start_word_says x ts

pub start_is : (ts : List Token) (s : Start) → start ts ≡ s → StartSays s (head ts)
start_is ts s e = subst (λ z. StartSays z (head ts)) e (start_head_says (head ts))

leaf_start : (l : Leaf) (r : List Token) → start_kind (leaf_kind l) r ≡ at_leaf l r
leaf_start (number x) r = refl
leaf_start (char x) r = refl
leaf_start (str x) r = refl
leaf_start (name x) r = refl

prefix_start : (u : Prefix) (r : List Token) → start_kind (prefix_kind u) r ≡ at_prefix u r
prefix_start (unary unary_op.AddressOf) r = refl
prefix_start (unary unary_op.Deref) r = refl
prefix_start (unary unary_op.Plus) r = refl
prefix_start (unary unary_op.Minus) r = refl
prefix_start (unary unary_op.Flip) r = refl
prefix_start (unary unary_op.Not) r = refl
prefix_start (before up) r = refl
prefix_start (before down) r = refl
prefix_start size_of r = refl

probing_start : (u : Probing) (r : List Token) → start_word (probing_word u) r ≡ at_simple u r
probing_start block r = refl
probing_start test r = refl
probing_start used r = refl
probing_start def r = refl

-- a start is seen where it says so
pub start_of : (ts : List Token) (s : Start) → StartSays s (head ts) → s ≢ no_start → start ts ≡ s
start_of ts (at_leaf l r) h n = ap start_head h ∙ leaf_start l r
start_of ts (at_prefix u r) h n = ap start_head h ∙ prefix_start u r
start_of ts (at_paren r) h n = ap start_head h
start_of ts (at_simple u r) h n = ap start_head h ∙ probing_start u r
start_of ts (at_select r) h n = ap start_head h
start_of ts no_start h n = absurd (n refl)

-- HOW DECLARATIONS BEGIN

abbrev SpecSays : SpecHead → Head → Type 0
SpecSays (a_spec_word x r) h = (h ≡ a_token (kind.Key x) r) × (is_spec_word x ≡ true)
SpecSays (a_struct r) h = h ≡ a_token (kind.Key keys.Struct) r
SpecSays (an_enum r) h = h ≡ a_token (kind.Key keys.Enum) r
SpecSays no_spec h = Unit {0}

spec_key_says : (x : Key) (ts : List Token) → SpecSays (spec_key x ts) (a_token (kind.Key x) ts)
spec_key_says keys.Break ts = tt
spec_key_says keys.Case ts = tt
spec_key_says keys.Char ts = (refl, refl)
spec_key_says keys.Const ts = (refl, refl)
spec_key_says keys.Continue ts = tt
spec_key_says keys.Default ts = tt
spec_key_says keys.Do ts = tt
spec_key_says keys.Else ts = tt
spec_key_says keys.Enum ts = refl
spec_key_says keys.For ts = tt
spec_key_says keys.If ts = tt
spec_key_says keys.Int ts = (refl, refl)
spec_key_says keys.Long ts = (refl, refl)
spec_key_says keys.Return ts = tt
spec_key_says keys.Short ts = (refl, refl)
spec_key_says keys.Signed ts = (refl, refl)
spec_key_says keys.Sizeof ts = tt
spec_key_says keys.Static ts = (refl, refl)
spec_key_says keys.Struct ts = refl
spec_key_says keys.Switch ts = tt
spec_key_says keys.Unsigned ts = (refl, refl)
spec_key_says keys.Void ts = (refl, refl)
spec_key_says keys.While ts = tt

spec_head_says : (h : Head) → SpecSays (spec_of_head h) h
spec_head_says no_token = tt
spec_head_says (a_token (kind.Word x) ts) = tt
spec_head_says (a_token (kind.Number x) ts) = tt
spec_head_says (a_token (kind.Char x) ts) = tt
spec_head_says (a_token (kind.Str x) ts) = tt
spec_head_says (a_token (kind.Mark x) ts) = tt
spec_head_says (a_token (kind.Key x) ts) = spec_key_says x ts
spec_head_says (a_token (kind.Probe x) ts) = tt

pub spec_is : (ts : List Token) (s : SpecHead) → spec_head ts ≡ s → SpecSays s (head ts)
spec_is ts s e = subst (λ z. SpecSays z (head ts)) e (spec_head_says (head ts))

pub spec_word_key : (x : Key) (ts : List Token) → is_spec_word x ≡ true → spec_key x ts ≡ a_spec_word x ts
spec_word_key keys.Break ts h = apart (sym h)
spec_word_key keys.Case ts h = apart (sym h)
spec_word_key keys.Char ts h = refl
spec_word_key keys.Const ts h = refl
spec_word_key keys.Continue ts h = apart (sym h)
spec_word_key keys.Default ts h = apart (sym h)
spec_word_key keys.Do ts h = apart (sym h)
spec_word_key keys.Else ts h = apart (sym h)
spec_word_key keys.Enum ts h = apart (sym h)
spec_word_key keys.For ts h = apart (sym h)
spec_word_key keys.If ts h = apart (sym h)
spec_word_key keys.Int ts h = refl
spec_word_key keys.Long ts h = refl
spec_word_key keys.Return ts h = apart (sym h)
spec_word_key keys.Short ts h = refl
spec_word_key keys.Signed ts h = refl
spec_word_key keys.Sizeof ts h = apart (sym h)
spec_word_key keys.Static ts h = refl
spec_word_key keys.Struct ts h = apart (sym h)
spec_word_key keys.Switch ts h = apart (sym h)
spec_word_key keys.Unsigned ts h = refl
spec_word_key keys.Void ts h = refl
spec_word_key keys.While ts h = apart (sym h)
