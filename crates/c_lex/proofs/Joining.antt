-- Joining from the first token on is joining from the last one on.
use Rattle.std.proofs.Common.{◌≡◌, ℕ, List, [], ◌∷◌, ◌++◌, Option, Some, None, refl, sym, ap, ◌∙◌, append_assoc, append-nil}
use Rattle.std.specs.Prelude.{reverse}
use Rattle.std.proofs.lemmas.List.{reverse-append, reverse-reverse}
use Rattle.c_syntax.specs.declared.token.Token.{Token}
use Rattle.c_syntax.specs.declared.token.TokenKind.TheVariants as kinds
use Rattle.c_lex.specs.Joined.{string_of, join_two, join_front, joined, join_behind, join_all}

-- a token behind the last one
pub behind_last : (us : List Token) (u t : Token) → join_behind (us ++ u ∷ []) t ≡ us ++ join_two u (string_of u.kind) t (string_of t.kind) []
behind_last [] u t = refl
behind_last (v ∷ []) u t = refl
behind_last (v ∷ w ∷ us) u t = ap (λ l. v ∷ l) (behind_last (w ∷ us) u t)

pub last_two : (x y t : Token) (a b c : Option (List ℕ)) → string_of x.kind ≡ a → string_of y.kind ≡ b → string_of t.kind ≡ c → join_behind (join_two x a y b []) t ≡ join_front x (join_two y b t c [])
last_two x y t None None None e f g = rw (e, f) refl
last_two x y t None None (Some c) e f g = rw (e, f) refl
last_two x y t None (Some b) None e f g = rw (e, f, g) refl
last_two x y t None (Some b) (Some c) e f g = rw (e, f, g) refl
last_two x y t (Some a) None None e f g = rw (e, f) refl
last_two x y t (Some a) None (Some c) e f g = rw (e, f) refl
last_two x y t (Some a) (Some b) None e f g = rw (e, f, g) refl
last_two x y t (Some a) (Some b) (Some c) e f g = rw (e, g) (ap (λ s. record { kind = kinds.Str s; pos = x.pos } ∷ []) (append_assoc a b c))

longer : (x y z t : Token) (zs : List Token) (a b : Option (List ℕ)) → join_behind (join_two x a y b (z ∷ zs)) t ≡ join_two x a y b (join_behind (z ∷ zs) t)
longer x y z t zs None b = refl
longer x y z t zs (Some a) None = refl
longer x y z t zs (Some a) (Some b) = refl

-- joining in front and behind commute
both : (x t : Token) (ys : List Token) → join_behind (join_front x ys) t ≡ join_front x (join_behind ys t)
both x t [] = refl
both x t (y ∷ []) = last_two x y t (string_of x.kind) (string_of y.kind) (string_of t.kind) refl refl refl
both x t (y ∷ z ∷ zs) = longer x y z t zs (string_of x.kind) (string_of y.kind)

one_more : (xs : List Token) (t : Token) → join_behind (joined xs) t ≡ joined (xs ++ t ∷ [])
one_more [] t = refl
one_more (x ∷ xs) t = both x t (joined xs) ∙ ap (join_front x) (one_more xs t)

all_from : (xs ts : List Token) → join_all (joined xs) ts ≡ joined (xs ++ ts)
all_from xs [] = ap joined (sym (append-nil xs))
all_from xs (t ∷ ts) = ap (λ us. join_all us ts) (one_more xs t) ∙ all_from (xs ++ t ∷ []) ts ∙ ap joined (append_assoc xs (t ∷ []) ts)

pub all_joined : (ts : List Token) → join_all [] ts ≡ joined ts
all_joined ts = all_from [] ts

pub begin_joining : (ts rest out : List Token) → rest ≡ reverse ts → out ≡ [] → join_all out (reverse rest) ≡ joined ts
begin_joining ts rest out e f = rw (e, f, reverse-reverse) (all_joined ts)

-- the next token of a list that is kept from its end on
pub next_token : (us rest : List Token) (t : Token) → join_all us (reverse (rest ++ t ∷ [])) ≡ join_all (join_behind us t) (reverse rest)
next_token us rest t = ap (join_all us) (reverse-append rest (t ∷ []))
