-- Places in a text: lines and columns count from 1, and a column counts bytes.
use Rattle.std.specs.Prelude.{ℕ, ◌+◌, List, [], ◌∷◌, Bool, true, false, nat_eq}
use Rattle.c_base.specs.declared.place.Pos.{Pos}

abbrev pub next_place : Bool → Pos → Pos
next_place true p = record { line = p.line + 1; col = 1 }
next_place false p = record { line = p.line; col = p.col + 1 }

-- the place behind these bytes
abbrev pub moved : Pos → List ℕ → Pos
moved p [] = p
moved p (b ∷ bs) = moved (next_place (nat_eq b 10) p) bs
