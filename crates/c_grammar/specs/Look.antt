-- Answers that leave a rest, and a mark, a keyword or a word at the front of tokens.
use Rattle.std.specs.Prelude.{◌≡◌, ℕ, ◌≤◌, List, Option, Some, None, Bool, true, false, nat_eq}
use Rattle.c_syntax.specs.declared.text.Text.{Text}
use Rattle.c_syntax.specs.declared.token.Mark.{Mark}
use Rattle.c_syntax.specs.declared.token.Mark.TheVariants as marks
use Rattle.c_syntax.specs.declared.token.Key.{Key}
use Rattle.c_syntax.specs.declared.token.Key.TheVariants as keys
use Rattle.c_syntax.specs.declared.token.ProbeWord.{ProbeWord}
use Rattle.c_syntax.specs.declared.token.ProbeWord.TheVariants as words
use Rattle.c_syntax.specs.declared.token.Token.{Token}
use Rattle.c_syntax.specs.declared.token.TokenKind.{TokenKind}
use Rattle.c_syntax.specs.declared.token.TokenKind.TheVariants as kind
use Rattle.c_syntax.specs.Forms.{Head, a_token, no_token, head}

-- ANSWERS

-- an answer and the tokens behind it
abbrev pub Got : Type 0 → Type 0
Got A = Option (A × List Token)

abbrev pub got : {A : Type 0} → A → List Token → Got A
got a ts = Some (a, ts)

abbrev pub then_go : {A B : Type 0} → Got A → (A → List Token → Got B) → Got B
then_go None go = None
then_go (Some p) go = go p.0 p.1

-- on behind what was wanted
abbrev pub go_after : {A : Type 0} → Option (List Token) → (List Token → Got A) → Got A
go_after None go = None
go_after (Some ts) go = go ts

-- one of two ways, by what follows a first token
abbrev pub either_way : {A : Type 0} → Option (List Token) → (List Token → Got A) → Got A → Got A
either_way (Some ts) go other = go ts
either_way None go other = other

abbrev pub where_true : {A : Type 0} → Bool → Got A → Got A
where_true true go = go
where_true false go = None

abbrev pub if_so : {A : Type 0} → Bool → A → A → A
if_so true a b = a
if_so false a b = b

-- from some number of steps on, a reader finds this
pub record Finds {A : Type 0} (f : ℕ → List Token → Got A) (ts : List Token) (r : Got A) : Type 0 where
  pub from : ℕ
  pub holds : (k : ℕ) → from ≤ k → f k ts ≡ r

-- MARKS AND KEYWORDS

abbrev pub mark_code : Mark → ℕ
mark_code marks.LeftBracket = 0
mark_code marks.RightBracket = 1
mark_code marks.LeftParen = 2
mark_code marks.RightParen = 3
mark_code marks.LeftBrace = 4
mark_code marks.RightBrace = 5
mark_code marks.Dot = 6
mark_code marks.Arrow = 7
mark_code marks.PlusPlus = 8
mark_code marks.MinusMinus = 9
mark_code marks.Ampersand = 10
mark_code marks.Star = 11
mark_code marks.Plus = 12
mark_code marks.Minus = 13
mark_code marks.Tilde = 14
mark_code marks.Bang = 15
mark_code marks.Slash = 16
mark_code marks.Percent = 17
mark_code marks.ShiftLeft = 18
mark_code marks.ShiftRight = 19
mark_code marks.Less = 20
mark_code marks.Greater = 21
mark_code marks.LessEqual = 22
mark_code marks.GreaterEqual = 23
mark_code marks.EqualEqual = 24
mark_code marks.NotEqual = 25
mark_code marks.Caret = 26
mark_code marks.Bar = 27
mark_code marks.AndAnd = 28
mark_code marks.OrOr = 29
mark_code marks.Question = 30
mark_code marks.Colon = 31
mark_code marks.Semicolon = 32
mark_code marks.Equal = 33
mark_code marks.StarEqual = 34
mark_code marks.SlashEqual = 35
mark_code marks.PercentEqual = 36
mark_code marks.PlusEqual = 37
mark_code marks.MinusEqual = 38
mark_code marks.LeftEqual = 39
mark_code marks.RightEqual = 40
mark_code marks.AndEqual = 41
mark_code marks.CaretEqual = 42
mark_code marks.BarEqual = 43
mark_code marks.Comma = 44

abbrev pub key_code : Key → ℕ
key_code keys.Break = 0
key_code keys.Case = 1
key_code keys.Char = 2
key_code keys.Const = 3
key_code keys.Continue = 4
key_code keys.Default = 5
key_code keys.Do = 6
key_code keys.Else = 7
key_code keys.Enum = 8
key_code keys.For = 9
key_code keys.If = 10
key_code keys.Int = 11
key_code keys.Long = 12
key_code keys.Return = 13
key_code keys.Short = 14
key_code keys.Signed = 15
key_code keys.Sizeof = 16
key_code keys.Static = 17
key_code keys.Struct = 18
key_code keys.Switch = 19
key_code keys.Unsigned = 20
key_code keys.Void = 21
key_code keys.While = 22

abbrev pub word_code : ProbeWord → ℕ
word_code words.Program = 0
word_code words.Block = 1
word_code words.Test = 2
word_code words.Select = 3
word_code words.Use = 4
word_code words.Def = 5

abbrev pub rest_if : Bool → List Token → Option (List Token)
rest_if true ts = Some ts
rest_if false ts = None

abbrev pub after_mark : Mark → TokenKind → List Token → Option (List Token)
after_mark m (kind.Word x) ts = None
after_mark m (kind.Number x) ts = None
after_mark m (kind.Char x) ts = None
after_mark m (kind.Str x) ts = None
after_mark m (kind.Mark n) ts = rest_if (nat_eq (mark_code m) (mark_code n)) ts
after_mark m (kind.Key x) ts = None
after_mark m (kind.Probe x) ts = None

abbrev pub after_head : Mark → Head → Option (List Token)
after_head m (a_token x ts) = after_mark m x ts
after_head m no_token = None

-- what follows this mark, where the tokens begin with it
abbrev pub after : Mark → List Token → Option (List Token)
after m ts = after_head m (head ts)

abbrev pub after_key_kind : Key → TokenKind → List Token → Option (List Token)
after_key_kind k (kind.Word x) ts = None
after_key_kind k (kind.Number x) ts = None
after_key_kind k (kind.Char x) ts = None
after_key_kind k (kind.Str x) ts = None
after_key_kind k (kind.Mark x) ts = None
after_key_kind k (kind.Key j) ts = rest_if (nat_eq (key_code k) (key_code j)) ts
after_key_kind k (kind.Probe x) ts = None

abbrev pub after_key_head : Key → Head → Option (List Token)
after_key_head k (a_token x ts) = after_key_kind k x ts
after_key_head k no_token = None

-- the same of a keyword
abbrev pub after_key : Key → List Token → Option (List Token)
after_key k ts = after_key_head k (head ts)

abbrev pub after_word_kind : ProbeWord → TokenKind → List Token → Option (List Token)
after_word_kind w (kind.Word x) ts = None
after_word_kind w (kind.Number x) ts = None
after_word_kind w (kind.Char x) ts = None
after_word_kind w (kind.Str x) ts = None
after_word_kind w (kind.Mark x) ts = None
after_word_kind w (kind.Key x) ts = None
after_word_kind w (kind.Probe v) ts = rest_if (nat_eq (word_code w) (word_code v)) ts

abbrev pub after_probe_head : ProbeWord → Head → Option (List Token)
after_probe_head w (a_token x ts) = after_word_kind w x ts
after_probe_head w no_token = None

-- the same of a probe word
abbrev pub after_probe : ProbeWord → List Token → Option (List Token)
after_probe w ts = after_probe_head w (head ts)

-- this answer, where the mark follows
abbrev pub wanted : {A : Type 0} → A → Option (List Token) → Got A
wanted a None = None
wanted a (Some ts) = Some (a, ts)

abbrev pub expect : {A : Type 0} → Mark → A → List Token → Got A
expect m a ts = wanted a (after m ts)

-- a number, a string or a word at the front

abbrev pub number_kind : TokenKind → List Token → Got Text
number_kind (kind.Word x) ts = None
number_kind (kind.Number x) ts = Some (x, ts)
number_kind (kind.Char x) ts = None
number_kind (kind.Str x) ts = None
number_kind (kind.Mark x) ts = None
number_kind (kind.Key x) ts = None
number_kind (kind.Probe x) ts = None

abbrev pub number_head : Head → Got Text
number_head (a_token x ts) = number_kind x ts
number_head no_token = None

abbrev pub a_number : List Token → Got Text
a_number ts = number_head (head ts)

abbrev pub string_kind : TokenKind → List Token → Got Text
string_kind (kind.Word x) ts = None
string_kind (kind.Number x) ts = None
string_kind (kind.Char x) ts = None
string_kind (kind.Str x) ts = Some (x, ts)
string_kind (kind.Mark x) ts = None
string_kind (kind.Key x) ts = None
string_kind (kind.Probe x) ts = None

abbrev pub string_head : Head → Got Text
string_head (a_token x ts) = string_kind x ts
string_head no_token = None

abbrev pub a_string : List Token → Got Text
a_string ts = string_head (head ts)

abbrev pub word_kind : TokenKind → List Token → Got Text
word_kind (kind.Word x) ts = Some (x, ts)
word_kind (kind.Number x) ts = None
word_kind (kind.Char x) ts = None
word_kind (kind.Str x) ts = None
word_kind (kind.Mark x) ts = None
word_kind (kind.Key x) ts = None
word_kind (kind.Probe x) ts = None

abbrev pub word_head : Head → Got Text
word_head (a_token x ts) = word_kind x ts
word_head no_token = None

abbrev pub a_word : List Token → Got Text
a_word ts = word_head (head ts)
