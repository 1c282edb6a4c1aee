-- The state of the scanner, as the code keeps it.
use Rattle.std.specs.Prelude.{◌≡◌, length, replicate, false}
use Rattle.c_lex.specs.declared.scan.Scan.{Scan}
use Rattle.c_lex.specs.declared.scan.LexRefusal.{LexRefusal}
use Rattle.c_lex.specs.declared.scan.LexRefusal.TheVariants.{At, NoMemory}
use Rattle.c_lex.specs.Macros.{rows_of}
use Rattle.c_lex.specs.Output.{made_of}
use Rattle.c_lex.specs.Scan.{State, Taken, refuses}

abbrev pub state_of : Scan → State
state_of s = record { place = s.place; fresh = s.fresh; table = rows_of s.table.entries; made = made_of s.out }

-- between two pieces no name is open
abbrev pub AllClosed : Scan → Type 0
AllClosed s = s.opened.items ≡ replicate (length s.table.entries) false

-- a refusal is the one that a piece leads to
abbrev pub IsRefusal : LexRefusal → Taken → Type 0
IsRefusal (At r p) t = t ≡ refuses r p
IsRefusal NoMemory t = Unit {0}
