-- What a text is: a program, or refused.
use Rattle.std.specs.Prelude.{◌≡◌, ◌<◌, ℕ, List, []}
use Rattle.c_base.specs.declared.place.Pos.{Pos}
use Rattle.c_syntax.specs.declared.token.Token.{Token}
use Rattle.c_syntax.specs.Shape.{UnitShape}
use Rattle.c_syntax.specs.Shaped.{ShapedUnit}
use Rattle.c_syntax.specs.Grammar.{Placed}
use Rattle.c_syntax.specs.View.{unit_shape}
use Rattle.c_lex.specs.declared.lexer.TextKind.{TextKind}
use Rattle.c_lex.specs.Scan.{scanned}
use Rattle.c_lex.specs.Scan as lexed
use Rattle.c_lex.specs.Given.{given}
use Rattle.c_grammar_stmt.specs.StmtParts.{NoUnit, SyntaxAt}
use Rattle.c_tables.specs.Tables.{TablesShape, tables_shape}
use Rattle.c_tree.specs.Units.{typed_unit, complaints}
use Rattle.c_tree.specs.declared.program.Program.{Program}
use Rattle.c_types.specs.Checked.{IsFirstAt}
use Rattle.c_front.specs.declared.front.FrontRefusal.{FrontRefusal}
use Rattle.c_front.specs.declared.front.FrontRefusal.TheVariants.{At, NoMemory}

-- a text is a unit whose expressions are noted with their types, and its tables; or it is refused, by a number and a place
pub data Understanding : Type 0 where
  program : UnitShape → TablesShape → Understanding
  refused : ℕ → Pos → Understanding

-- the text gives these tokens, read as a plain text or as a probed one
abbrev pub AreTokens : TextKind → List ℕ → List Token → Type 0
AreTokens kind source ts = given kind source ≡ scanned ts

-- the text's tokens are the unit's, which is one that the grammar allows
pub record IsUnit (kind : TextKind) (source : List ℕ) (u : UnitShape) : Type 0 where
  pub tokens : List Token
  pub given : AreTokens kind source tokens
  pub shaped : ShapedUnit u
  pub placed : Placed u tokens

-- the text's tokens are no unit that the grammar allows, and p is the place of the error
pub record IsNoUnit (kind : TextKind) (source : List ℕ) (p : Pos) : Type 0 where
  pub tokens : List Token
  pub given : AreTokens kind source tokens
  pub none : NoUnit tokens
  pub at' : SyntaxAt tokens p

-- nothing is complained of in the unit; v is that unit with its notes, and t are its tables
pub record IsTyped (u v : UnitShape) (t : TablesShape) : Type 0 where
  pub unit : v ≡ (typed_unit u).unit
  pub tables : t ≡ (typed_unit u).state.tables
  pub clean : complaints u ≡ []

-- the text is a unit without complaint, which typing makes v and t
pub record HasProgram (kind : TextKind) (source : List ℕ) (v : UnitShape) (t : TablesShape) : Type 0 where
  pub unit : UnitShape
  pub written : IsUnit kind source unit
  pub typed : IsTyped unit v t

-- who refuses a text: the lexer, at the first thing that it refuses; else the parser, where the tokens are no unit; else the
-- checker, by the first complaint, whose number is a byte
pub data IsRefusedAt (kind : TextKind) (source : List ℕ) (number : ℕ) (p : Pos) : Type 0 where
  by_lexer : given kind source ≡ lexed.refused number p → IsRefusedAt kind source number p
  by_parser : number ≡ 20 → IsNoUnit kind source p → IsRefusedAt kind source number p
  by_checker : (u : UnitShape) → IsUnit kind source u → IsFirstAt u number p → number < 256 → IsRefusedAt kind source number p

-- HOW A TEXT IS UNDERSTOOD
abbrev pub IsRead : TextKind → List ℕ → Understanding → Type 0
IsRead kind source (program v t) = HasProgram kind source v t
IsRead kind source (refused number p) = IsRefusedAt kind source number p

-- NO TEXT HAS TWO READINGS
pub record IsOne (kind : TextKind) (source : List ℕ) : Type 0 where
  -- what is a program is no other program, and is not refused
  pub program_alone : (v : UnitShape) (t : TablesShape) (a : Understanding) → IsRead kind source (program v t) → IsRead kind source a → a ≡ program v t
  -- what is refused is refused by one number
  pub one_number : (n m : ℕ) (p q : Pos) → IsRead kind source (refused n p) → IsRead kind source (refused m q) → n ≡ m
  -- and at one place, where the text is no unit; nothing is said of the places of two complaints of one token
  pub one_place : (a b : Understanding) → ((u : UnitShape) → IsUnit kind source u → ⊥) → IsRead kind source a → IsRead kind source b → a ≡ b

-- WHAT READING ANSWERS

abbrev pub GivesProgram : TextKind → List ℕ → Program → Type 0
GivesProgram kind source p = IsRead kind source (program (unit_shape p.unit) (tables_shape p.tables))

-- nothing is said where memory is wanting
abbrev pub IsRefused : TextKind → List ℕ → FrontRefusal → Type 0
IsRefused kind source (At number p) = IsRead kind source (refused number p)
IsRefused kind source NoMemory = Unit {0}
