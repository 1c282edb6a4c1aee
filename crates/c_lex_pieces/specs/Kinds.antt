-- The token that a piece spells (C89, 3.1).
use Rattle.std.specs.Prelude.{ℕ, ◌||◌, List, [], ◌∷◌, Option, Some, None, Bool, false, cond, codes, bytes_eq, option_map}
use Rattle.c_syntax.specs.declared.token.Key.{Key}
use Rattle.c_syntax.specs.declared.token.Key.TheVariants as key
use Rattle.c_syntax.specs.declared.token.ProbeWord.{ProbeWord}
use Rattle.c_syntax.specs.declared.token.ProbeWord.TheVariants as probe
use Rattle.c_syntax.specs.declared.token.TokenKind.{TokenKind}
use Rattle.c_syntax.specs.declared.token.TokenKind.TheVariants as token
use Rattle.c_lex_pieces.specs.declared.quotes.Constant.{Constant}
use Rattle.c_lex_pieces.specs.declared.quotes.Constant.TheVariants.{Value, BadEscape, NotOne}
use Rattle.c_lex_pieces.specs.declared.front.Class.{Class}
use Rattle.c_lex_pieces.specs.declared.front.Class.TheVariants as class
use Rattle.c_lex_pieces.specs.Quotes.{inside, characters, constant, all_values}

-- how a keyword is written
abbrev pub key_bytes : Key → List ℕ
key_bytes key.Break = codes "break"
key_bytes key.Case = codes "case"
key_bytes key.Char = codes "char"
key_bytes key.Const = codes "const"
key_bytes key.Continue = codes "continue"
key_bytes key.Default = codes "default"
key_bytes key.Do = codes "do"
key_bytes key.Else = codes "else"
key_bytes key.Enum = codes "enum"
key_bytes key.For = codes "for"
key_bytes key.If = codes "if"
key_bytes key.Int = codes "int"
key_bytes key.Long = codes "long"
key_bytes key.Return = codes "return"
key_bytes key.Short = codes "short"
key_bytes key.Signed = codes "signed"
key_bytes key.Sizeof = codes "sizeof"
key_bytes key.Static = codes "static"
key_bytes key.Struct = codes "struct"
key_bytes key.Switch = codes "switch"
key_bytes key.Unsigned = codes "unsigned"
key_bytes key.Void = codes "void"
key_bytes key.While = codes "while"

abbrev pub keys : List Key
keys =
    key.Break ∷ key.Case ∷ key.Char ∷ key.Const ∷ key.Continue ∷ key.Default ∷ key.Do ∷ key.Else ∷ key.Enum ∷ key.For ∷ key.If ∷ key.Int
    ∷ key.Long ∷ key.Return ∷ key.Short ∷ key.Signed ∷ key.Sizeof ∷ key.Static ∷ key.Struct ∷ key.Switch ∷ key.Unsigned ∷ key.Void ∷ key.While ∷ []

-- how a probe word is written
abbrev pub probe_bytes : ProbeWord → List ℕ
probe_bytes probe.Program = codes "__atac_program"
probe_bytes probe.Block = codes "__atac_block"
probe_bytes probe.Test = codes "__atac_test"
probe_bytes probe.Select = codes "__atac_select"
probe_bytes probe.Use = codes "__atac_use"
probe_bytes probe.Def = codes "__atac_def"

abbrev pub probe_words : List ProbeWord
probe_words = probe.Program ∷ probe.Block ∷ probe.Test ∷ probe.Select ∷ probe.Use ∷ probe.Def ∷ []

-- the first of them that is written so
abbrev pub written_so : {X : Type 0} → (X → List ℕ) → List X → List ℕ → Option X
written_so bytes_of [] w = None
written_so bytes_of (x ∷ xs) w = cond (bytes_eq w (bytes_of x)) (Some x) (written_so bytes_of xs w)

abbrev pub key_of : List ℕ → Option Key
key_of w = written_so key_bytes keys w

abbrev pub probe_of : List ℕ → Option ProbeWord
probe_of w = written_so probe_bytes probe_words w

-- the words of C89 that the language leaves out
abbrev pub left_out_words : List (List ℕ)
left_out_words =
    codes "auto" ∷ codes "double" ∷ codes "extern" ∷ codes "float" ∷ codes "goto" ∷ codes "register" ∷ codes "typedef" ∷ codes "union"
    ∷ codes "volatile" ∷ []

abbrev pub is_one_of : List (List ℕ) → List ℕ → Bool
is_one_of [] w = false
is_one_of (x ∷ xs) w = bytes_eq w x || is_one_of xs w

abbrev pub left_out : List ℕ → Bool
left_out w = is_one_of left_out_words w

abbrev pub word_kind : Option Key → Option ProbeWord → List ℕ → TokenKind
word_kind (Some k) p w = token.Key k
word_kind None (Some p) w = token.Probe p
word_kind None None w = token.Word w

abbrev pub char_kind : Constant → Option TokenKind
char_kind (Value v) = Some (token.Char v)
char_kind BadEscape = None
char_kind NotOne = None

-- the token that a piece of a class spells; None for blanks, comments, line ends and `#`
abbrev pub kind : Class → List ℕ → Option TokenKind
kind class.Space spelled = None
kind class.Newline spelled = None
kind class.Comment spelled = None
kind class.Word spelled = Some (word_kind (key_of spelled) (probe_of spelled) spelled)
kind class.Number spelled = Some (token.Number spelled)
kind class.Char spelled = char_kind (constant (characters (inside spelled)))
kind class.Str spelled = option_map (λ values. token.Str values) (all_values (characters (inside spelled)))
kind (class.Mark m) spelled = Some (token.Mark m)
kind class.Hash spelled = None
