-- How long a written text is.
use Rattle.std.proofs.Common.{◌≡◌, ◌≤◌, ◌+◌, List, [], ◌∷◌, ◌++◌, length, refl, arith, length-append}
use Rattle.c_syntax.specs.declared.token.Token.{Token}
use Rattle.c_syntax.specs.Forms.{kinds_of}
use Rattle.c_lex_pieces.specs.Written.{token_bytes}
use Rattle.c_lex.specs.Macros.{bytes_of}
use Rattle.c_lex.specs.ReadBack.{spellings}
use Rattle.c_lex.specs.Written.{end_byte, lines, written}
use Rattle.c_lex.proofs.ReadBack.{count_kinds}
use Rattle.probe_parsed.specs.Readable.{AreWithin}

lines_size : (ts : List Token) → length (lines ts) ≡ bytes_of (spellings (kinds_of ts)) + length ts
lines_size [] = refl
lines_size (t ∷ ts) =
    let bytes = token_bytes t.kind in
    let end' = end_byte t.kind (length ts) in
    omega (arith, length-append (bytes ++ end' ∷ []) (lines ts), length-append bytes (end' ∷ []), lines_size ts)

pub short_is_within : (t : Token) (ts : List Token) → length (t ∷ ts) ≤ 350000 → length (written (t ∷ ts)) ≤ 67108864 → AreWithin (kinds_of (t ∷ ts))
short_is_within t ts few short = record { few = omega (arith, few, count_kinds (t ∷ ts)); short = omega (arith, short, lines_size (t ∷ ts)) }
