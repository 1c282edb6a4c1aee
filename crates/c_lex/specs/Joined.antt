-- Adjacent strings are one (C89, 2.1.1.2), with the first one's place.
use Rattle.std.specs.Prelude.{ℕ, List, [], ◌∷◌, ◌++◌, Option, Some, None}
use Rattle.c_syntax.specs.declared.token.Token.{Token}
use Rattle.c_syntax.specs.declared.token.TokenKind.{TokenKind}
use Rattle.c_syntax.specs.declared.token.TokenKind.TheVariants as kinds

-- the bytes of a string
abbrev pub string_of : TokenKind → Option (List ℕ)
string_of (kinds.Word w) = None
string_of (kinds.Number w) = None
string_of (kinds.Char b) = None
string_of (kinds.Str s) = Some s
string_of (kinds.Mark m) = None
string_of (kinds.Key k) = None
string_of (kinds.Probe p) = None

-- two tokens in front of others
abbrev pub join_two : Token → Option (List ℕ) → Token → Option (List ℕ) → List Token → List Token
join_two t None u b ts = t ∷ u ∷ ts
join_two t (Some a) u None ts = t ∷ u ∷ ts
join_two t (Some a) u (Some b) ts = record { kind = kinds.Str (a ++ b); pos = t.pos } ∷ ts

-- a token in front of tokens that are joined
abbrev pub join_front : Token → List Token → List Token
join_front t [] = t ∷ []
join_front t (u ∷ ts) = join_two t (string_of t.kind) u (string_of u.kind) ts

abbrev pub joined : List Token → List Token
joined [] = []
joined (t ∷ ts) = join_front t (joined ts)

-- a token behind tokens that are joined, and more of them
abbrev pub join_behind : List Token → Token → List Token
join_behind [] t = t ∷ []
join_behind (u ∷ []) t = join_two u (string_of u.kind) t (string_of t.kind) []
join_behind (u ∷ v ∷ us) t = u ∷ join_behind (v ∷ us) t

abbrev pub join_all : List Token → List Token → List Token
join_all us [] = us
join_all us (t ∷ ts) = join_all (join_behind us t) ts
