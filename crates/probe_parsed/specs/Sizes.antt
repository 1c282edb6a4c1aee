-- How long a written text is.
use Rattle.std.specs.Prelude.{◌≤◌, List, ◌∷◌, length}
use Rattle.c_syntax.specs.declared.token.Token.{Token}
use Rattle.c_syntax.specs.Forms.{kinds_of}
use Rattle.c_lex.specs.Written.{written}
use Rattle.probe_parsed.specs.Readable.{AreWithin}

-- tokens are within the limits where they are few and their text is short
abbrev pub ShortIsWithin : Type 0
ShortIsWithin = (t : Token) (ts : List Token) → length (t ∷ ts) ≤ 350000 → length (written (t ∷ ts)) ≤ 67108864 → AreWithin (kinds_of (t ∷ ts))
