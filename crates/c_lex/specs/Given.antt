-- The tokens of a text, or its first refusal.
use Rattle.std.specs.Prelude.{◌≡◌, ℕ, suc, List, [], length, true, false}
use Rattle.c_lex.specs.declared.output.Room.{Room}
use Rattle.c_lex.specs.declared.lexer.TextKind.{TextKind}
use Rattle.c_lex.specs.declared.lexer.TextKind.TheVariants.{Plain, Probed}
use Rattle.c_lex.specs.declared.scan.LexRefusal.{LexRefusal}
use Rattle.c_lex.specs.declared.scan.LexRefusal.TheVariants.{At, NoMemory}
use Rattle.c_lex.specs.Joined.{joined}
use Rattle.c_lex.specs.Scan.{State, Scanned, scanned, refused, scan_in, Scans}

-- how many tokens, bytes of tokens and replacements of macros a text may have
abbrev pub room_of : TextKind → Room
room_of Plain = record { tokens = 100000; bytes = 4194304; replacements = 1000000 }
room_of Probed = record { tokens = 350000; bytes = 67108864; replacements = 1000000 }

abbrev pub begin : TextKind → State
begin k = record { place = record { line = 1; col = 1 }; fresh = true; table = []; made = record { tokens = []; room = room_of k; left_out = false } }

-- each piece takes a byte or more, so there are no more steps than bytes
unfoldable pub scan : TextKind → List ℕ → Scanned
scan k text = scan_in (suc (length text)) text (begin k)

abbrev pub join_scanned : Scanned → Scanned
join_scanned (scanned ts) = scanned (joined ts)
join_scanned (refused r p) = refused r p

-- the tokens of a text, adjacent strings joined, or its first refusal
abbrev pub given : TextKind → List ℕ → Scanned
given k text = join_scanned (scan k text)

abbrev pub IsRefused : LexRefusal → Scanned → Type 0
IsRefused (At r p) s = s ≡ refused r p
IsRefused NoMemory s = Unit {0}

abbrev pub Refuses : LexRefusal → List ℕ → State → Type 0
Refuses (At r p) text s = Scans text s (refused r p)
Refuses NoMemory text s = Unit {0}
