-- How typing counts tokens, and where complaints stand.
use Rattle.std.specs.Prelude.{◌≡◌, ◌<◌, ◌^◌, ℕ, All, List, length, slice_get, Option, Some, option_map}
use Rattle.c_base.specs.declared.place.Pos.{Pos}
use Rattle.c_syntax.specs.declared.token.Token.{Token}
use Rattle.c_syntax.specs.Shape.{UnitShape}
use Rattle.c_syntax.specs.Shaped.{ShapedUnit}
use Rattle.c_syntax.specs.Grammar.{Placed, tokens_of}
use Rattle.c_tree.specs.declared.meaning.Complaint.{Complaint}
use Rattle.c_tree.specs.Units.{typed_unit, complaints}

-- the place of the token before which so many others stand, if there is one
abbrev pub place_of_token : List Token → ℕ → Option Pos
place_of_token ts n = option_map (λ t. t.pos) (slice_get ts n)

-- the complaint's place is that of its token
abbrev pub IsAtItsToken : List Token → Complaint → Type 0
IsAtItsToken ts c = place_of_token ts c.token ≡ Some c.pos

-- the unit has so few tokens that their number has 32 bits
abbrev pub CanBeCounted : UnitShape → Type 0
CanBeCounted u = length (tokens_of u) < 2 ^ 32

-- behind a unit that the grammar allows typing has counted its tokens
abbrev pub TokensAreCounted : Type 0
TokensAreCounted = (u : UnitShape) → ShapedUnit u → CanBeCounted u → (typed_unit u).state.at ≡ length (tokens_of u)

-- each complaint of such a unit stands at its token, where the unit stands on these tokens
abbrev pub ComplaintsAreAtTokens : Type 0
ComplaintsAreAtTokens = (u : UnitShape) (ts : List Token) → ShapedUnit u → CanBeCounted u → Placed u ts → All (IsAtItsToken ts) (complaints u)
