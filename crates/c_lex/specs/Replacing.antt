-- How replacing goes, step by step: what is counted, and the stack of lists that are being replaced.
use Rattle.std.specs.Prelude.{◌-◌, ◌&&◌, ◌||◌, List, [], ◌∷◌, ◌++◌, length, map, Option, Some, None, Bool, false, nat_lt, nat_le, cond, slice_set, option_and_then, reverse}
use Rattle.c_base.specs.declared.place.Pos.{Pos}
use Rattle.c_lex_pieces.specs.Kinds.{kind}
use Rattle.c_lex.specs.declared.expand.Frame.{Frame}
use Rattle.c_lex.specs.Macros.{Spelled, spelled, Row}
use Rattle.c_lex.specs.Output.{Made, is_left_out, tokens_at}
use Rattle.c_lex.specs.Expand.{Step, replaced, gave, expansion}

-- a token is given: one token, and its bytes as spelled
abbrev pub put_token : Pos → Spelled → Made → Option Made
put_token p t m =
    cond (nat_lt 0 m.room.tokens && nat_le (length t.1) m.room.bytes)
    (Some (record {
      tokens = m.tokens ++ tokens_at p (kind t.0 t.1);
      room = record { tokens = m.room.tokens - 1; bytes = m.room.bytes - length t.1; replacements = m.room.replacements };
      left_out = m.left_out || is_left_out t;
    }))
    None

-- a macro is replaced
abbrev pub replace_one : Made → Option Made
replace_one m =
    cond (nat_lt 0 m.room.replacements)
    (Some (record m { room = record { tokens = m.room.tokens; bytes = m.room.bytes; replacements = m.room.replacements - 1 } }))
    None

-- what comes of the steps, one after the other; nothing where one passes a limit
abbrev pub spent : Pos → Made → List Step → Option Made
spent p m [] = Some m
spent p m (replaced ∷ ss) = option_and_then (λ n. spent p n ss) (replace_one m)
spent p m (gave t ∷ ss) = option_and_then (λ n. spent p n ss) (put_token p t m)

-- THE STACK of lists that are being replaced, the innermost last

abbrev pub left_in : List Row → List Bool → List Frame → List Step
left_in T h [] = []
left_in T h (f ∷ fs) = expansion T h (map spelled f.rest.now) ++ left_in T (slice_set h f.row false) fs

-- what is left to do
abbrev pub left_of : List Row → List Bool → List Frame → List Step
left_of T h fs = left_in T h (reverse fs)

abbrev pub closed_in : List Bool → List Frame → List Bool
closed_in h [] = h
closed_in h (f ∷ fs) = closed_in (slice_set h f.row false) fs

-- the marks once all are done
abbrev pub closed_of : List Bool → List Frame → List Bool
closed_of h fs = closed_in h (reverse fs)
