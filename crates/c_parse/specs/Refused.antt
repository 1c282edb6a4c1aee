-- What the code reads of units, and where it refuses.
use Rattle.std.specs.Prelude.{◌≡◌, List, length, None}
use Rattle.c_base.specs.declared.place.Pos.{Pos}
use Rattle.c_syntax.specs.declared.token.Token.{Token}
use Rattle.c_syntax.specs.declared.tree.External.{External}
use Rattle.c_syntax.specs.Forms.{place}
use Rattle.c_grammar.specs.Look.{Finds}
use Rattle.c_parse.specs.declared.refusal.ParseRefusal.{ParseRefusal}
use Rattle.c_parse.specs.declared.refusal.ParseRefusal.TheVariants as refusals
use Rattle.c_grammar_stmt.specs.StmtReader.{reads_external}
use Rattle.c_grammar_stmt.specs.StmtParts.{ExternalsFrom, NoUnit, SyntaxAt}

-- these external declarations are all of the tokens
pub record ExternalsRead (list : List External) (ts : List Token) : Type 0 where
  pub rest : List Token
  pub read : ExternalsFrom list ts rest
  pub end' : length rest ≡ 0

-- behind some external declarations, at p, none can be read
pub record BrokenAt (ts : List Token) (p : Pos) : Type 0 where
  pub list : List External
  pub rest : List Token
  pub read : ExternalsFrom list ts rest
  pub more : length rest ≡ 0 → ⊥
  pub none : Finds reads_external rest None
  pub at' : p ≡ place rest

abbrev pub BrokenBy : ParseRefusal → List Token → Type 0
BrokenBy (refusals.Syntax p) ts = BrokenAt ts p
BrokenBy refusals.NoMemory ts = Unit {0}

-- the tokens are no unit that the grammar allows, and p is the place of the error; nothing is said where memory is wanting
abbrev pub Refused : ParseRefusal → List Token → Type 0
Refused (refusals.Syntax p) ts = NoUnit ts × SyntaxAt ts p
Refused refusals.NoMemory ts = Unit {0}
