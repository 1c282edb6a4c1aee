-- What is written goes by the kinds of the tokens, and is longer than the tokens themselves.
use Rattle.std.proofs.Common.{◌≡◌, ◌<◌, ◌≤◌, ℕ, suc, List, [], ◌∷◌, ◌++◌, length, map, refl, sym, ap, ◌∙◌, arith}
use Rattle.std.proofs.lemmas.List.{length-map, length-append}
use Rattle.c_syntax.specs.declared.token.Token.{Token}
use Rattle.c_syntax.specs.declared.token.TokenKind.{TokenKind}
use Rattle.c_syntax.specs.Forms.{kinds_of}
use Rattle.c_syntax.specs.Grammar.{tokens_of}
use Rattle.c_syntax.specs.Shape.{UnitShape}
use Rattle.c_lex_pieces.specs.Written.{token_bytes}
use Rattle.c_lex.specs.Macros.{bytes_of}
use Rattle.c_lex.specs.ReadBack.{spellings}
use Rattle.c_lex.specs.Written.{end_byte, lines, written}
use Rattle.probe_text.specs.Text.{Fits, placed}

abbrev as_kinds : List Token → List Token
as_kinds ts = map placed (kinds_of ts)

same_length : (ts : List Token) → length ts ≡ length (as_kinds ts)
same_length [] = refl
same_length (t ∷ ts) = ap suc (same_length ts)

same_lines : (ts : List Token) → lines ts ≡ lines (as_kinds ts)
same_lines [] = refl
same_lines (t ∷ ts) =
    ap (λ n. (token_bytes t.kind ++ end_byte t.kind n ∷ []) ++ lines ts) (same_length ts)
    ∙ ap (λ ls. (token_bytes t.kind ++ end_byte t.kind (length (as_kinds ts)) ∷ []) ++ ls) (same_lines ts)

same_written : (ts : List Token) → written ts ≡ written (as_kinds ts)
same_written [] = refl
same_written (t ∷ ts) = same_lines (t ∷ ts)

-- behind each token stands one byte more
shorter_lines : (ks : List TokenKind) → bytes_of (spellings ks) ≤ length (lines (map placed ks))
shorter_lines [] = omega arith
shorter_lines (k ∷ ks) =
    let rest = shorter_lines ks in
    let ls = lines (map placed ks) in
    let e = end_byte k (length (map placed ks)) in
    let outer = length-append (token_bytes k ++ e ∷ []) ls in
    let inner = length-append (token_bytes k) (e ∷ []) in
    omega (arith, rest, outer, inner)

shorter : (ks : List TokenKind) → bytes_of (spellings ks) ≤ length (written (map placed ks))
shorter [] = omega arith
shorter (k ∷ ks) = shorter_lines (k ∷ ks)

count_of : (ts : List Token) (ks : List TokenKind) → kinds_of ts ≡ ks → length ts ≡ length ks
count_of ts ks e = sym (length-map ts _) ∙ ap length e

pub is_text : (text : List ℕ) (us ts : List Token) (ks : List TokenKind) → text ≡ written us → us ≡ ts → kinds_of ts ≡ ks → text ≡ written (map placed ks)
is_text text us ts ks is same e = is ∙ ap written same ∙ same_written ts ∙ ap (λ ks. written (map placed ks)) e

pub too_many : (u : UnitShape) (ts : List Token) → kinds_of ts ≡ tokens_of u → 350000 < length ts → Fits u → ⊥
too_many u ts e more fits = omega (arith, count_of ts (tokens_of u) e, more, fits.tokens)

pub too_long : (u : UnitShape) (text : List ℕ) (us ts : List Token) → text ≡ written us → us ≡ ts → kinds_of ts ≡ tokens_of u → 67108864 < length text → Fits u → ⊥
too_long u text us ts is same e more fits = omega (arith, ap length (is_text text us ts (tokens_of u) is same e), more, fits.text)

pub few_tokens : (ts : List Token) (ks : List TokenKind) → kinds_of ts ≡ ks → length ts ≤ 350000 → length ks ≤ 350000
few_tokens ts ks e few = omega (arith, count_of ts ks e, few)

pub short_text : (text : List ℕ) (us ts : List Token) (ks : List TokenKind) → text ≡ written us → us ≡ ts → kinds_of ts ≡ ks → length text ≤ 67108864 → length (written (map placed ks)) ≤ 67108864
short_text text us ts ks is same e short = omega (arith, ap length (is_text text us ts ks is same e), short)

pub short_tokens : (text : List ℕ) (us ts : List Token) (ks : List TokenKind) → text ≡ written us → us ≡ ts → kinds_of ts ≡ ks → length text ≤ 67108864 → bytes_of (spellings ks) ≤ 67108864
short_tokens text us ts ks is same e short = omega (arith, shorter ks, short_text text us ts ks is same e short)
