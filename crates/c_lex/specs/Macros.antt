-- Tokens as they are spelled, and what names stand for (C89, 3.8.3).
use Rattle.std.specs.Prelude.{ℕ, ◌+◌, length, List, [], ◌∷◌, Option, Some, None, bytes_eq, cond, map, option_map, position, slice_get, Vec}
use Rattle.std.specs.Global.{Global}
use Rattle.std.specs.Borrow.{Bor}
use Rattle.c_lex_pieces.specs.declared.front.Class.{Class}
use Rattle.c_lex.specs.declared.table.Piece.{Piece}

-- a token as it is spelled: its class and its bytes
abbrev pub Spelled : Type 0
Spelled = Class × List ℕ

abbrev pub spelled : Piece → Spelled
spelled p = (p.class, p.bytes.now)

-- the bytes of all of them
abbrev pub bytes_of : List Spelled → ℕ
bytes_of [] = 0
bytes_of (p ∷ ps) = length p.1 + bytes_of ps

-- a name, and what it stands for; nothing where it stands for itself
abbrev pub Row : Type 0
Row = List ℕ × Option (List Spelled)

abbrev pub row_of : Bor (List ℕ) × Option (Vec Piece Global) → Row
row_of e = (e.0.now, option_map (λ v. map spelled v.items) e.1)

abbrev pub rows_of : List (Bor (List ℕ) × Option (Vec Piece Global)) → List Row
rows_of es = map row_of es

abbrev pub numbered : ℕ → Option Row → Option (ℕ × List Spelled)
numbered i None = None
numbered i (Some r) = option_map (λ body. (i, body)) r.1

abbrev pub in_row : List Row → Option ℕ → Option (ℕ × List Spelled)
in_row T None = None
in_row T (Some i) = numbered i (slice_get T i)

-- the number of the name's row, and what the name stands for
abbrev pub found : List ℕ → List Row → Option (ℕ × List Spelled)
found name T = in_row T (position (λ r. bytes_eq name r.0) T)

-- the table where the name stands for this from here on
abbrev pub set_row : List ℕ → Option (List Spelled) → List Row → List Row
set_row name body [] = (name, body) ∷ []
set_row name body (r ∷ T) = cond (bytes_eq name r.0) ((r.0, body) ∷ T) (r ∷ set_row name body T)
