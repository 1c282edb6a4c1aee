-- Macro replacement (C89, 3.8.3): a name gives its tokens, in which it is hidden, replaced in turn.
use Rattle.std.specs.Prelude.{ℕ, zero, suc, ◌+◌, ◌-◌, ◌&&◌, ◌||◌, nat_le, length, List, [], ◌∷◌, ◌++◌, flat_map, Option, Some, None, Bool, true, false, not, cond, slice_get, slice_set}
use Rattle.c_base.specs.declared.place.Pos.{Pos}
use Rattle.std.specs.List.{list_any}
use Rattle.c_lex_pieces.specs.Kinds.{kind}
use Rattle.c_lex.specs.declared.output.Room.{Room}
use Rattle.c_lex.specs.Macros.{Spelled, bytes_of, Row, found}
use Rattle.c_lex.specs.Output.{Made, is_word, is_left_out, tokens_at}

-- OPEN is a mark for each row of the table: a name whose tokens are being replaced is open, and so hidden

abbrev pub is_closed : Option Bool → Bool
is_closed None = false
is_closed (Some b) = not b

abbrev pub unless_open : List Bool → Option (ℕ × List Spelled) → Option (ℕ × List Spelled)
unless_open open_rows None = None
unless_open open_rows (Some m) = cond (is_closed (slice_get open_rows m.0)) (Some m) None

-- what a token stands for: a word or a key that the table defines and that isn't hidden
abbrev pub macro_of : List Row → List Bool → Spelled → Option (ℕ × List Spelled)
macro_of T h t = cond (is_word t.0) (unless_open h (found t.1 T)) None

-- what replacing does, in order
pub data Step : Type 0 where
  replaced : Step
  gave : Spelled → Step

abbrev pub one_step : (List Bool → List Spelled → List Step) → List Bool → Spelled → Option (ℕ × List Spelled) → List Step
one_step rec h t None = gave t ∷ []
one_step rec h t (Some m) = replaced ∷ rec (slice_set h m.0 true) m.1

-- in so many levels
abbrev pub steps : ℕ → List Row → List Bool → List Spelled → List Step
steps zero T h ts = []
steps (suc k) T h ts = flat_map (λ t. one_step (steps k T) h t (macro_of T h t)) ts

abbrev pub closed_rows : List Bool → ℕ
closed_rows [] = 0
closed_rows (true ∷ h) = closed_rows h
closed_rows (false ∷ h) = 1 + closed_rows h

-- what replacing a list does: each level opens a row, so there are no more levels than closed rows
unfoldable pub expansion : List Row → List Bool → List Spelled → List Step
expansion T h ts = steps (suc (closed_rows h)) T h ts

-- the tokens that are given, in order, and how many replacements there are
abbrev pub gives : List Step → List Spelled
gives [] = []
gives (replaced ∷ ss) = gives ss
gives (gave t ∷ ss) = t ∷ gives ss

abbrev pub replacements : List Step → ℕ
replacements [] = 0
replacements (replaced ∷ ss) = 1 + replacements ss
replacements (gave t ∷ ss) = replacements ss

-- whether no limit is passed: of tokens, of their bytes as spelled, of replacements
abbrev pub fits : Room → List Step → Bool
fits room ss = nat_le (length (gives ss)) room.tokens && (nat_le (bytes_of (gives ss)) room.bytes && nat_le (replacements ss) room.replacements)

-- an expansion is given at a place; nothing where it passes a limit
abbrev pub all_given : Pos → Made → List Step → Option Made
all_given p m ss =
    cond (fits m.room ss)
    (Some (record {
      tokens = m.tokens ++ flat_map (λ t. tokens_at p (kind t.0 t.1)) (gives ss);
      room = record { tokens = m.room.tokens - length (gives ss); bytes = m.room.bytes - bytes_of (gives ss); replacements = m.room.replacements - replacements ss };
      left_out = m.left_out || list_any is_left_out (gives ss);
    }))
    None
