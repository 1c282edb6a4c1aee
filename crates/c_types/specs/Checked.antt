-- What checking a unit answers.
use Rattle.std.specs.Prelude.{◌≡◌, ℕ, []}
use Rattle.c_base.specs.declared.place.Pos.{Pos}
use Rattle.c_syntax.specs.Shape.{UnitShape}
use Rattle.c_syntax.specs.View.{unit_shape}
use Rattle.c_tables.specs.Tables.{tables_shape}
use Rattle.c_tree.specs.Units.{typed_unit, complaints, IsFirst}
use Rattle.c_tree.specs.declared.meaning.Complaint.{Complaint}
use Rattle.c_tree.specs.declared.program.Program.{Program}
use Rattle.c_types.specs.declared.checking.TypeRefusal.{TypeRefusal}
use Rattle.c_types.specs.declared.checking.TypeRefusal.TheVariants.{At, NoMemory}

-- the program of a unit without complaint: that unit with its notes, and its tables
pub record IsChecked (u : UnitShape) (p : Program) : Type 0 where
  pub unit : unit_shape p.unit ≡ (typed_unit u).unit
  pub tables : tables_shape p.tables ≡ (typed_unit u).state.tables
  pub clean : complaints u ≡ []

-- the first complaint of a unit has that number and that place
pub record IsFirstAt (u : UnitShape) (number : ℕ) (p : Pos) : Type 0 where
  pub complaint : Complaint
  pub first : IsFirst complaint (complaints u)
  pub number_is : number ≡ complaint.number
  pub place_is : p ≡ complaint.pos

-- why a unit is no program: its first complaint, or no memory
abbrev pub IsRefused : UnitShape → TypeRefusal → Type 0
IsRefused u (At number p) = IsFirstAt u number p
IsRefused u NoMemory = Unit
