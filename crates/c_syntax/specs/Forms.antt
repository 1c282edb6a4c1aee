-- How something is written: a sequence of tokens, some of them at a place that is known.
use Rattle.std.specs.Prelude.{◌≡◌, List, [], ◌∷◌, ◌++◌, map}
use Rattle.c_base.specs.declared.place.Pos.{Pos}
use Rattle.c_syntax.specs.declared.token.TokenKind.{TokenKind}
use Rattle.c_syntax.specs.declared.token.TokenKind.TheVariants as kind
use Rattle.c_syntax.specs.declared.token.Mark.{Mark}
use Rattle.c_syntax.specs.declared.token.Key.{Key}
use Rattle.c_syntax.specs.declared.token.ProbeWord.{ProbeWord}
use Rattle.c_syntax.specs.declared.token.Token.{Token}

pub data Form : Type 0 where
  nothing : Form
  is : TokenKind → Form
  -- a token at this place
  at : Pos → TokenKind → Form
  -- what begins at this place
  starts : Pos → Form → Form
  -- one, and another behind it
  seq : Form → Form → Form

infixr 6 ◌▷◌
abbrev pub ◌▷◌ : Form → Form → Form
f ▷ g = seq f g

abbrev pub mark : Mark → Form
mark m = is (kind.Mark m)

abbrev pub mark_at : Pos → Mark → Form
mark_at p m = at p (kind.Mark m)

abbrev pub key : Key → Form
key k = is (kind.Key k)

abbrev pub key_at : Pos → Key → Form
key_at p k = at p (kind.Key k)

abbrev pub probe_at : Pos → ProbeWord → Form
probe_at p w = at p (kind.Probe w)

-- the kinds of its tokens
abbrev pub kinds : Form → List TokenKind
kinds nothing = []
kinds (is k) = k ∷ []
kinds (at p k) = k ∷ []
kinds (starts p f) = kinds f
kinds (seq f g) = kinds f ++ kinds g

abbrev pub kinds_of : List Token → List TokenKind
kinds_of ts = map (λ t. t.kind) ts

-- the first token, and those that follow it
pub data Head : Type 0 where
  a_token : TokenKind → List Token → Head
  no_token : Head

abbrev pub head : List Token → Head
head [] = no_token
head (t ∷ ts) = a_token t.kind ts

-- the place of the first token
abbrev pub place : List Token → Pos
place [] = record { line = 1; col = 1 }
place (t ∷ ts) = t.pos

-- the place of the last token
abbrev pub last_place : List Token → Pos
last_place [] = record { line = 1; col = 1 }
last_place (t ∷ []) = t.pos
last_place (t ∷ u ∷ ts) = last_place (u ∷ ts)

pub record Then (First Second : List Token → List Token → Type 0) (ts rest : List Token) : Type 0 where
  pub middle : List Token
  pub first : First ts middle
  pub second : Second middle rest

-- it stands at the front of the tokens ts, and the tokens rest follow
abbrev pub Written : Form → List Token → List Token → Type 0
Written nothing ts rest = ts ≡ rest
Written (is k) ts rest = head ts ≡ a_token k rest
Written (at p k) ts rest = (p ≡ place ts) × (head ts ≡ a_token k rest)
Written (starts p f) ts rest = (p ≡ place ts) × Written f ts rest
Written (seq f g) ts rest = Then (Written f) (Written g) ts rest
