-- The operator at the front of tokens, and how an expression or a declaration begins.
use Rattle.std.specs.Prelude.{ℕ, List, Option, Some, None, Bool, true, false}
use Rattle.c_syntax.specs.declared.token.Mark.{Mark}
use Rattle.c_syntax.specs.declared.token.Mark.TheVariants as marks
use Rattle.c_syntax.specs.declared.token.Key.{Key}
use Rattle.c_syntax.specs.declared.token.Key.TheVariants as keys
use Rattle.c_syntax.specs.declared.token.ProbeWord.{ProbeWord}
use Rattle.c_syntax.specs.declared.token.ProbeWord.TheVariants as words
use Rattle.c_syntax.specs.declared.token.Token.{Token}
use Rattle.c_syntax.specs.declared.token.TokenKind.{TokenKind}
use Rattle.c_syntax.specs.declared.token.TokenKind.TheVariants as kind
use Rattle.c_syntax.specs.declared.tree.UnaryOp.TheVariants as unary_op
use Rattle.c_syntax.specs.declared.tree.BinaryOp.TheVariants as op
use Rattle.c_syntax.specs.Forms.{Head, a_token, no_token, head}
use Rattle.c_syntax.specs.Shape.{Leaf, number, char, str, name, Step, up, down, Prefix, unary, before, size_of, Infix, plain, and, or, assign, comma, Access, dot, arrow, Probing, block, test, used, def}
use Rattle.c_syntax.specs.Shaped.{infix_level, left_least}
use Rattle.c_grammar.specs.Look.{after}

-- OPERATORS BEHIND AN OPERAND

pub data Oper : Type 0 where
  infix_oper : Infix → Oper
  question : Oper
  bracket : Oper
  access : Access → Oper
  step : Step → Oper
  -- no operator: it would make a call of a name
  open_paren : Oper

pub data MaybeOper : Type 0 where
  an_oper : Oper → MaybeOper
  no_oper : MaybeOper

abbrev pub mark_oper : Mark → MaybeOper
mark_oper marks.LeftBracket = an_oper bracket
mark_oper marks.RightBracket = no_oper
mark_oper marks.LeftParen = an_oper open_paren
mark_oper marks.RightParen = no_oper
mark_oper marks.LeftBrace = no_oper
mark_oper marks.RightBrace = no_oper
mark_oper marks.Dot = an_oper (access dot)
mark_oper marks.Arrow = an_oper (access arrow)
mark_oper marks.PlusPlus = an_oper (step up)
mark_oper marks.MinusMinus = an_oper (step down)
mark_oper marks.Ampersand = an_oper (infix_oper (plain op.BitAnd))
mark_oper marks.Star = an_oper (infix_oper (plain op.Mul))
mark_oper marks.Plus = an_oper (infix_oper (plain op.Add))
mark_oper marks.Minus = an_oper (infix_oper (plain op.Sub))
mark_oper marks.Tilde = no_oper
mark_oper marks.Bang = no_oper
mark_oper marks.Slash = an_oper (infix_oper (plain op.Div))
mark_oper marks.Percent = an_oper (infix_oper (plain op.Rem))
mark_oper marks.ShiftLeft = an_oper (infix_oper (plain op.Shl))
mark_oper marks.ShiftRight = an_oper (infix_oper (plain op.Shr))
mark_oper marks.Less = an_oper (infix_oper (plain op.Lt))
mark_oper marks.Greater = an_oper (infix_oper (plain op.Gt))
mark_oper marks.LessEqual = an_oper (infix_oper (plain op.Le))
mark_oper marks.GreaterEqual = an_oper (infix_oper (plain op.Ge))
mark_oper marks.EqualEqual = an_oper (infix_oper (plain op.Eq))
mark_oper marks.NotEqual = an_oper (infix_oper (plain op.Ne))
mark_oper marks.Caret = an_oper (infix_oper (plain op.BitXor))
mark_oper marks.Bar = an_oper (infix_oper (plain op.BitOr))
mark_oper marks.AndAnd = an_oper (infix_oper and)
mark_oper marks.OrOr = an_oper (infix_oper or)
mark_oper marks.Question = an_oper question
mark_oper marks.Colon = no_oper
mark_oper marks.Semicolon = no_oper
mark_oper marks.Equal = an_oper (infix_oper (assign None))
mark_oper marks.StarEqual = an_oper (infix_oper (assign (Some op.Mul)))
mark_oper marks.SlashEqual = an_oper (infix_oper (assign (Some op.Div)))
mark_oper marks.PercentEqual = an_oper (infix_oper (assign (Some op.Rem)))
mark_oper marks.PlusEqual = an_oper (infix_oper (assign (Some op.Add)))
mark_oper marks.MinusEqual = an_oper (infix_oper (assign (Some op.Sub)))
mark_oper marks.LeftEqual = an_oper (infix_oper (assign (Some op.Shl)))
mark_oper marks.RightEqual = an_oper (infix_oper (assign (Some op.Shr)))
mark_oper marks.AndEqual = an_oper (infix_oper (assign (Some op.BitAnd)))
mark_oper marks.CaretEqual = an_oper (infix_oper (assign (Some op.BitXor)))
mark_oper marks.BarEqual = an_oper (infix_oper (assign (Some op.BitOr)))
mark_oper marks.Comma = an_oper (infix_oper comma)

-- an operator, and what follows it
pub data Sign : Type 0 where
  a_sign : Oper → List Token → Sign
  no_sign : Sign

abbrev pub sign_of : MaybeOper → List Token → Sign
sign_of (an_oper o) ts = a_sign o ts
sign_of no_oper ts = no_sign

abbrev pub sign_kind : TokenKind → List Token → Sign
sign_kind (kind.Word x) ts = no_sign
sign_kind (kind.Number x) ts = no_sign
sign_kind (kind.Char x) ts = no_sign
sign_kind (kind.Str x) ts = no_sign
sign_kind (kind.Mark x) ts = sign_of (mark_oper x) ts
sign_kind (kind.Key x) ts = no_sign
sign_kind (kind.Probe x) ts = no_sign

abbrev pub sign_head : Head → Sign
sign_head (a_token x ts) = sign_kind x ts
sign_head no_token = no_sign

abbrev pub sign : List Token → Sign
sign ts = sign_head (head ts)

-- how tightly an operator binds, and the loosest operand that it takes on its left
abbrev pub oper_level : Oper → ℕ
oper_level (infix_oper u) = infix_level u
oper_level question = 2
oper_level bracket = 15
oper_level (access h) = 15
oper_level (step s) = 15
oper_level open_paren = 16

abbrev pub oper_least : Oper → ℕ
oper_least (infix_oper u) = left_least u
oper_least question = 3
oper_least bracket = 15
oper_least (access h) = 15
oper_least (step s) = 15
oper_least open_paren = 17

-- HOW AN EXPRESSION BEGINS

pub data Start : Type 0 where
  at_leaf : Leaf → List Token → Start
  at_prefix : Prefix → List Token → Start
  at_paren : List Token → Start
  at_simple : Probing → List Token → Start
  at_select : List Token → Start
  no_start : Start

abbrev pub start_mark : Mark → List Token → Start
start_mark marks.LeftBracket ts = no_start
start_mark marks.RightBracket ts = no_start
start_mark marks.LeftParen ts = at_paren ts
start_mark marks.RightParen ts = no_start
start_mark marks.LeftBrace ts = no_start
start_mark marks.RightBrace ts = no_start
start_mark marks.Dot ts = no_start
start_mark marks.Arrow ts = no_start
start_mark marks.PlusPlus ts = at_prefix (before up) ts
start_mark marks.MinusMinus ts = at_prefix (before down) ts
start_mark marks.Ampersand ts = at_prefix (unary unary_op.AddressOf) ts
start_mark marks.Star ts = at_prefix (unary unary_op.Deref) ts
start_mark marks.Plus ts = at_prefix (unary unary_op.Plus) ts
start_mark marks.Minus ts = at_prefix (unary unary_op.Minus) ts
start_mark marks.Tilde ts = at_prefix (unary unary_op.Flip) ts
start_mark marks.Bang ts = at_prefix (unary unary_op.Not) ts
start_mark marks.Slash ts = no_start
start_mark marks.Percent ts = no_start
start_mark marks.ShiftLeft ts = no_start
start_mark marks.ShiftRight ts = no_start
start_mark marks.Less ts = no_start
start_mark marks.Greater ts = no_start
start_mark marks.LessEqual ts = no_start
start_mark marks.GreaterEqual ts = no_start
start_mark marks.EqualEqual ts = no_start
start_mark marks.NotEqual ts = no_start
start_mark marks.Caret ts = no_start
start_mark marks.Bar ts = no_start
start_mark marks.AndAnd ts = no_start
start_mark marks.OrOr ts = no_start
start_mark marks.Question ts = no_start
start_mark marks.Colon ts = no_start
start_mark marks.Semicolon ts = no_start
start_mark marks.Equal ts = no_start
start_mark marks.StarEqual ts = no_start
start_mark marks.SlashEqual ts = no_start
start_mark marks.PercentEqual ts = no_start
start_mark marks.PlusEqual ts = no_start
start_mark marks.MinusEqual ts = no_start
start_mark marks.LeftEqual ts = no_start
start_mark marks.RightEqual ts = no_start
start_mark marks.AndEqual ts = no_start
start_mark marks.CaretEqual ts = no_start
start_mark marks.BarEqual ts = no_start
start_mark marks.Comma ts = no_start

abbrev pub start_key : Key → List Token → Start
start_key keys.Break ts = no_start
start_key keys.Case ts = no_start
start_key keys.Char ts = no_start
start_key keys.Const ts = no_start
start_key keys.Continue ts = no_start
start_key keys.Default ts = no_start
start_key keys.Do ts = no_start
start_key keys.Else ts = no_start
start_key keys.Enum ts = no_start
start_key keys.For ts = no_start
start_key keys.If ts = no_start
start_key keys.Int ts = no_start
start_key keys.Long ts = no_start
start_key keys.Return ts = no_start
start_key keys.Short ts = no_start
start_key keys.Signed ts = no_start
start_key keys.Sizeof ts = at_prefix size_of ts
start_key keys.Static ts = no_start
start_key keys.Struct ts = no_start
start_key keys.Switch ts = no_start
start_key keys.Unsigned ts = no_start
start_key keys.Void ts = no_start
start_key keys.While ts = no_start

abbrev pub start_word : ProbeWord → List Token → Start
start_word words.Program ts = no_start
start_word words.Block ts = at_simple block ts
start_word words.Test ts = at_simple test ts
start_word words.Select ts = at_select ts
start_word words.Use ts = at_simple used ts
start_word words.Def ts = at_simple def ts

abbrev pub start_kind : TokenKind → List Token → Start
start_kind (kind.Word x) ts = at_leaf (name x) ts
start_kind (kind.Number x) ts = at_leaf (number x) ts
start_kind (kind.Char x) ts = at_leaf (char x) ts
start_kind (kind.Str x) ts = at_leaf (str x) ts
start_kind (kind.Mark x) ts = start_mark x ts
start_kind (kind.Key x) ts = start_key x ts
start_kind (kind.Probe x) ts = start_word x ts

abbrev pub start_head : Head → Start
start_head (a_token x ts) = start_kind x ts
start_head no_token = no_start

abbrev pub start : List Token → Start
start ts = start_head (head ts)

-- HOW A DECLARATION BEGINS

pub data SpecHead : Type 0 where
  a_spec_word : Key → List Token → SpecHead
  a_struct : List Token → SpecHead
  an_enum : List Token → SpecHead
  no_spec : SpecHead

abbrev pub spec_key : Key → List Token → SpecHead
spec_key keys.Break ts = no_spec
spec_key keys.Case ts = no_spec
spec_key keys.Char ts = a_spec_word keys.Char ts
spec_key keys.Const ts = a_spec_word keys.Const ts
spec_key keys.Continue ts = no_spec
spec_key keys.Default ts = no_spec
spec_key keys.Do ts = no_spec
spec_key keys.Else ts = no_spec
spec_key keys.Enum ts = an_enum ts
spec_key keys.For ts = no_spec
spec_key keys.If ts = no_spec
spec_key keys.Int ts = a_spec_word keys.Int ts
spec_key keys.Long ts = a_spec_word keys.Long ts
spec_key keys.Return ts = no_spec
spec_key keys.Short ts = a_spec_word keys.Short ts
spec_key keys.Signed ts = a_spec_word keys.Signed ts
spec_key keys.Sizeof ts = no_spec
spec_key keys.Static ts = a_spec_word keys.Static ts
spec_key keys.Struct ts = a_struct ts
spec_key keys.Switch ts = no_spec
spec_key keys.Unsigned ts = a_spec_word keys.Unsigned ts
spec_key keys.Void ts = a_spec_word keys.Void ts
spec_key keys.While ts = no_spec

abbrev pub spec_kind : TokenKind → List Token → SpecHead
spec_kind (kind.Word x) ts = no_spec
spec_kind (kind.Number x) ts = no_spec
spec_kind (kind.Char x) ts = no_spec
spec_kind (kind.Str x) ts = no_spec
spec_kind (kind.Mark x) ts = no_spec
spec_kind (kind.Key x) ts = spec_key x ts
spec_kind (kind.Probe x) ts = no_spec

abbrev pub spec_of_head : Head → SpecHead
spec_of_head (a_token x ts) = spec_kind x ts
spec_of_head no_token = no_spec

abbrev pub spec_head : List Token → SpecHead
spec_head ts = spec_of_head (head ts)

abbrev pub is_spec : SpecHead → Bool
is_spec (a_spec_word x ts) = true
is_spec (a_struct ts) = true
is_spec (an_enum ts) = true
is_spec no_spec = false

-- the tokens behind `(`, where a type name begins there
abbrev pub type_if : List Token → Bool → Option (List Token)
type_if ts true = Some ts
type_if ts false = None

abbrev pub type_in : Option (List Token) → Option (List Token)
type_in None = None
type_in (Some ts) = type_if ts (is_spec (spec_head ts))

abbrev pub type_ahead : List Token → Option (List Token)
type_ahead ts = type_in (after marks.LeftParen ts)
