-- The rest of a directive's line: its pieces up to the next newline outside a comment (C89, 2.1.1.2).
use Rattle.std.specs.Prelude.{ℕ, zero, suc, ◌+◌, ◌<◌, ◌≡◌, List, [], ◌∷◌, ◌++◌, length, take, drop, Option, Some, None, ◌==◌, cond}
use Rattle.c_lex_pieces.specs.declared.front.Class.{Class}
use Rattle.c_lex_pieces.specs.declared.front.Class.TheVariants as class
use Rattle.c_lex_pieces.specs.declared.front.Front.{Front}
use Rattle.c_lex_pieces.specs.declared.front.Front.TheVariants as front_is
use Rattle.c_lex_pieces.specs.Front.{front}
use Rattle.c_lex.specs.declared.line.End.{End}
use Rattle.c_lex.specs.declared.line.End.TheVariants as ends
use Rattle.c_lex.specs.Macros.{Spelled}

-- the pieces, their length in bytes, and what stands behind them: the line's end, or what is refused there
pub record LineCut : Type 0 where
  pub pieces : List Spelled
  pub size : ℕ
  pub end : End

-- a newline ends the line, and a further `#` begins no token
abbrev pub end_at : Class → Option End
end_at class.Space = None
end_at class.Newline = Some ends.Whole
end_at class.Comment = None
end_at class.Word = None
end_at class.Number = None
end_at class.Char = None
end_at class.Str = None
end_at (class.Mark m) = None
end_at class.Hash = Some (ends.Refused 1)

abbrev pub line_to : List Spelled → ℕ → End → LineCut
line_to ps n e = record { pieces = ps; size = n; end = e }

abbrev pub line_piece : (List ℕ → List Spelled → ℕ → LineCut) → Option End → Class → ℕ → List ℕ → List Spelled → ℕ → LineCut
line_piece rec (Some e) c m text ps n = line_to ps n e
line_piece rec None c m text ps n = rec (drop m text) (ps ++ (c, take m text) ∷ []) (n + m)

abbrev pub line_front : (List ℕ → List Spelled → ℕ → LineCut) → Front → List ℕ → List Spelled → ℕ → LineCut
line_front rec (front_is.Refused r) text ps n = line_to ps n (ends.Refused r)
line_front rec (front_is.Piece c m) text ps n = line_piece rec (end_at c) c m text ps n

-- in so many steps; each takes a byte or more
abbrev pub line_in : ℕ → List ℕ → List Spelled → ℕ → LineCut
line_in zero text ps n = line_to ps n ends.Whole
line_in (suc k) text ps n = cond (length text == 0) (line_to ps n ends.Whole) (line_front (line_in k) (front text) text ps n)

unfoldable pub line_of : List ℕ → LineCut
line_of text = line_in (suc (length text)) text [] 0

-- what the line comes to, with any number of steps above the length
pub record Lines (text : List ℕ) (ps : List Spelled) (n : ℕ) (r : LineCut) : Type 0 where
  pub holds : (k : ℕ) → length text < k → line_in k text ps n ≡ r
