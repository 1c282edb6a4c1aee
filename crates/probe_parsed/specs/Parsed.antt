-- The text of a program with its probes is read as tokens, and these as the program's unit but for places and notes.
use Rattle.std.specs.Prelude.{◌≡◌, ℕ, List}
use Rattle.c_syntax.specs.declared.text.Text.{Text}
use Rattle.c_syntax.specs.declared.token.Token.{Token}
use Rattle.c_syntax.specs.Forms.{kinds_of}
use Rattle.c_syntax.specs.Grammar.{tokens_of, Placed}
use Rattle.c_syntax.specs.Shape.{UnitShape}
use Rattle.c_syntax.specs.Shaped.{ShapedUnit}
use Rattle.c_lex_pieces.specs.Written.{AreBytes}
use Rattle.c_lex.specs.declared.lexer.TextKind.TheVariants.{Probed}
use Rattle.c_lex.specs.Scan.{scanned}
use Rattle.c_lex.specs.Given.{given}
use Rattle.c_lex.specs.Written.{written}
use Rattle.c_tree.specs.Unnoted.{bare_unit}
use Rattle.c_meaning.specs.Calls.{Source}
use Rattle.probe_rules.specs.Instrumented.{instrumented}
use Rattle.probe_rules.specs.Fitting.{HasFewItems}
use Rattle.probe_rules.specs.Simulation.{IsPlain, all_walked}
use Rattle.c_tree.specs.Lexed.{AreLexed}
use Rattle.probe_parsed.specs.Readable.{AreWithin}
use Rattle.c_placing.specs.Unplaced.{EqualButForPlaces}

-- the text gives tokens, which are this unit's, one that the grammar allows
pub record IsParsed (source : List ℕ) (u : UnitShape) : Type 0 where
  pub tokens : List Token
  pub read : given Probed source ≡ scanned tokens
  pub unit : UnitShape
  pub shaped : ShapedUnit unit
  pub placed : Placed unit tokens
  pub equal : EqualButForPlaces unit (bare_unit u)

-- a program that may have probes, which the grammar allows, whose tokens a text can give
pub record IsWritable (digest : Text) (P : Source) : Type 0 where
  pub bytes : AreBytes digest
  pub plain : IsPlain P
  pub few : HasFewItems (all_walked P)
  pub lexed : AreLexed (tokens_of P.unit)
  pub shaped : ShapedUnit (bare_unit P.unit)
  pub within : AreWithin (tokens_of (instrumented digest P).unit)

abbrev pub InstrumentedIsParsed : Type 0
InstrumentedIsParsed = (digest : Text) (P : Source) (ts : List Token) → IsWritable digest P → kinds_of ts ≡ tokens_of (instrumented digest P).unit → IsParsed (written ts) (instrumented digest P).unit
