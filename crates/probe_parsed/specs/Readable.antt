-- The tokens of a program with its probes are tokens that a text can give, where those of the program are.
use Rattle.std.specs.Prelude.{◌≡◌, ◌≤◌, List, length}
use Rattle.c_syntax.specs.declared.text.Text.{Text}
use Rattle.c_syntax.specs.declared.token.TokenKind.{TokenKind}
use Rattle.c_syntax.specs.Grammar.{tokens_of}
use Rattle.c_syntax.specs.Shape.{UnitShape}
use Rattle.c_syntax.specs.Shaped.{ShapedUnit}
use Rattle.c_lex_pieces.specs.Written.{AreBytes}
use Rattle.c_lex.specs.declared.lexer.TextKind.TheVariants.{Probed}
use Rattle.c_lex.specs.Macros.{bytes_of}
use Rattle.c_lex.specs.Given.{room_of}
use Rattle.c_lex.specs.ReadBack.{AreReadable, spellings}
use Rattle.c_tree.specs.Lexed.{AreLexed}
use Rattle.c_tree.specs.Unnoted.{bare_unit}
use Rattle.c_meaning.specs.Calls.{Source}
use Rattle.probe_rules.specs.Instrumented.{instrumented}
use Rattle.probe_rules.specs.Fitting.{HasFewItems}
use Rattle.probe_rules.specs.Simulation.{IsPlain, all_walked}

-- so many tokens and bytes a text with probes may have
pub record AreWithin (ks : List TokenKind) : Type 0 where
  pub few : length ks ≤ (room_of Probed).tokens
  pub short : bytes_of (spellings ks) ≤ (room_of Probed).bytes

abbrev pub InstrumentedIsReadable : Type 0
InstrumentedIsReadable = (digest : Text) (P : Source) → AreBytes digest → IsPlain P → HasFewItems (all_walked P) → AreLexed (tokens_of P.unit) → AreWithin (tokens_of (instrumented digest P).unit) → AreReadable Probed (tokens_of (instrumented digest P).unit)

-- the grammar allows it too
abbrev pub InstrumentedIsShaped : Type 0
InstrumentedIsShaped = (digest : Text) (P : Source) → IsPlain P → HasFewItems (all_walked P) → ShapedUnit (bare_unit P.unit) → ShapedUnit (bare_unit (instrumented digest P).unit)

-- a unit is written as it is without its notes
abbrev pub WrittenBare : Type 0
WrittenBare = (u : UnitShape) → tokens_of (bare_unit u) ≡ tokens_of u
