-- The pieces of a text: blanks, comments, directives and tokens, and where one is refused the rest as it is.
use Rattle.std.specs.Prelude.{ℕ, zero, suc, List, [], ◌∷◌, length, take, drop, ◌==◌, cond}
use Rattle.c_lex_pieces.specs.Front.{front}
use Rattle.c_lex.specs.declared.lexer.TextKind.{TextKind}
use Rattle.c_lex.specs.Scan.{State, Taken, goes, refuses, taken}
use Rattle.c_lex.specs.Given.{begin}

abbrev pub piece_then : (List ℕ → State → List (List ℕ)) → Taken → List ℕ → List (List ℕ)
piece_then rec (goes n s) text = take n text ∷ rec (drop n text) s
piece_then rec (refuses r p) text = text ∷ []

abbrev pub pieces_in : ℕ → List ℕ → State → List (List ℕ)
pieces_in zero text s = []
pieces_in (suc k) text s = cond (length text == 0) [] (piece_then (pieces_in k) (taken (front text) text s) text)

-- each piece has a byte, so there are no more pieces than bytes
unfoldable pub pieces : TextKind → List ℕ → List (List ℕ)
pieces kind text = pieces_in (suc (length text)) text (begin kind)
