-- Tokens that come of others by putting tokens of probes between them: where the others can be given by a text, so can these.
use Rattle.std.proofs.Common.{◌≡◌, ◌<◌, ◌^◌, ℕ, List, [], ◌∷◌, ◌++◌, length, get_or, Bool, true, false, not, ◌∙◌, refl, sym, ap, ap₂, subst, arith, append-nil, cond}
use Rattle.std.specs.Prelude.{◌&&◌, ◌||◌, is_some, nat_lt, nat_eq, take, drop}
use Rattle.std.specs.List.{list_any}
use Rattle.std.specs.Fmt.{decimal}
use Rattle.std.specs.Str.Parse.{AllDigits}
use Rattle.std.proofs.lemmas.Fmt.{decimal_is_IsNumeral, decimal_digit, first_decimal}
use Rattle.std.proofs.lemmas.Bool.{and_from, and_parts}
use Rattle.c_syntax.specs.declared.token.ProbeWord.{ProbeWord}
use Rattle.c_syntax.specs.declared.token.ProbeWord.TheVariants as word
use Rattle.c_syntax.specs.declared.token.TokenKind.{TokenKind}
use Rattle.c_syntax.specs.declared.token.TokenKind.TheVariants as kind
use Rattle.c_lex_pieces.specs.declared.bytes.ByteSet.TheVariants.{InNumber}
use Rattle.c_lex_pieces.specs.Bytes.{AllIn}
use Rattle.c_lex_pieces.specs.Numbers.{is_right_in, is_suffix, value, begins_with_x}
use Rattle.c_lex_pieces.specs.Written.{IsToken, IsNumber, class_of, token_bytes}
use Rattle.c_lex.specs.Joined.{string_of}
use Rattle.c_lex.specs.Output.{is_left_out}
use Rattle.c_lex.specs.ReadBack.{AreTokens, spellings, is_string_pair, are_apart}
use Rattle.probe_rules.proofs.ReadNumbers.{value_same, run_all}
use Rattle.c_tree.specs.Lexed.{AreLexed}

-- ---- where a token comes from

pub data Origin : Type 0 where
  old : TokenKind → Origin
  put : TokenKind → Origin

abbrev pub all_kinds : List Origin → List TokenKind
all_kinds [] = []
all_kinds (old k ∷ os) = k ∷ all_kinds os
all_kinds (put k ∷ os) = k ∷ all_kinds os

abbrev pub old_kinds : List Origin → List TokenKind
old_kinds [] = []
old_kinds (old k ∷ os) = k ∷ old_kinds os
old_kinds (put k ∷ os) = old_kinds os

-- words of probes, marks and numbers are put; nothing else is
abbrev pub IsPut : TokenKind → Type 0
IsPut (kind.Word x) = ⊥
IsPut (kind.Number x) = IsNumber x
IsPut (kind.Char c) = ⊥
IsPut (kind.Str x) = ⊥
IsPut (kind.Mark m) = Unit {0}
IsPut (kind.Key k) = ⊥
IsPut (kind.Probe w) = Unit {0}

abbrev pub ArePut : List Origin → Type 0
ArePut [] = Unit {0}
ArePut (old k ∷ os) = ArePut os
ArePut (put k ∷ os) = IsPut k × ArePut os

pub record Woven (ks ls : List TokenKind) : Type 0 where
  pub origins : List Origin
  pub was : old_kinds origins ≡ ks
  pub is : all_kinds origins ≡ ls
  pub fine : ArePut origins

-- ---- one behind the other

all_then : (os ps : List Origin) → all_kinds (os ++ ps) ≡ all_kinds os ++ all_kinds ps
all_then [] ps = refl
all_then (old k ∷ os) ps = ap (λ xs. k ∷ xs) (all_then os ps)
all_then (put k ∷ os) ps = ap (λ xs. k ∷ xs) (all_then os ps)

old_then : (os ps : List Origin) → old_kinds (os ++ ps) ≡ old_kinds os ++ old_kinds ps
old_then [] ps = refl
old_then (old k ∷ os) ps = ap (λ xs. k ∷ xs) (old_then os ps)
old_then (put k ∷ os) ps = old_then os ps

put_then : (os ps : List Origin) → ArePut os → ArePut ps → ArePut (os ++ ps)
put_then [] ps f g = g
put_then (old k ∷ os) ps f g = put_then os ps f g
put_then (put k ∷ os) ps f g = (f.0, put_then os ps f.1 g)

pub both : {ks ls js ms : List TokenKind} → Woven ks ls → Woven js ms → Woven (ks ++ js) (ls ++ ms)
both {ks} {ls} {js} {ms} a b = record {
  origins = a.origins ++ b.origins;
  was = old_then a.origins b.origins ∙ ap₂ (λ xs ys. xs ++ ys) a.was b.was;
  is = all_then a.origins b.origins ∙ ap₂ (λ xs ys. xs ++ ys) a.is b.is;
  fine = put_then a.origins b.origins a.fine b.fine;
}

pub nothing_put : Woven [] []
nothing_put = record { origins = []; was = refl; is = refl; fine = tt }

pub kept : (k : TokenKind) {ks ls : List TokenKind} → Woven ks ls → Woven (k ∷ ks) (k ∷ ls)
kept k {ks} {ls} a = record { origins = old k ∷ a.origins; was = ap (λ xs. k ∷ xs) a.was; is = ap (λ xs. k ∷ xs) a.is; fine = a.fine }

pub before : (k : TokenKind) {ks ls : List TokenKind} → IsPut k → Woven ks ls → Woven ks (k ∷ ls)
before k {ks} {ls} f a = record { origins = put k ∷ a.origins; was = a.was; is = ap (λ xs. k ∷ xs) a.is; fine = (f, a.fine) }

pub behind : (k : TokenKind) {ks ls : List TokenKind} → IsPut k → Woven ks ls → Woven ks (ls ++ k ∷ [])
behind k {ks} {ls} f a = subst (λ xs. Woven xs (ls ++ k ∷ [])) (append-nil ks) (both a (before k f nothing_put))

pub same : (ks : List TokenKind) → Woven ks ks
same [] = nothing_put
same (k ∷ ks) = kept k (same ks)

-- ---- what holds of the others

put_token : (k : TokenKind) → IsPut k → IsToken k
put_token (kind.Word x) f = absurd f
put_token (kind.Number x) f = f
put_token (kind.Char c) f = absurd f
put_token (kind.Str x) f = absurd f
put_token (kind.Mark m) f = tt
put_token (kind.Key k) f = absurd f
put_token (kind.Probe w) f = tt

tokens_put : (os : List Origin) → ArePut os → AreTokens (old_kinds os) → AreTokens (all_kinds os)
tokens_put [] f are = tt
tokens_put (old k ∷ os) f are = (are.0, tokens_put os f are.1)
tokens_put (put k ∷ os) f are = (put_token k f.0, tokens_put os f.1 are)

probe_kept : (w : ProbeWord) → is_left_out (class_of (kind.Probe w), token_bytes (kind.Probe w)) ≡ false
probe_kept word.Program = refl
probe_kept word.Block = refl
probe_kept word.Test = refl
probe_kept word.Select = refl
probe_kept word.Use = refl
probe_kept word.Def = refl

put_kept : (k : TokenKind) → IsPut k → is_left_out (class_of k, token_bytes k) ≡ false
put_kept (kind.Word x) f = absurd f
put_kept (kind.Number x) f = refl
put_kept (kind.Char c) f = absurd f
put_kept (kind.Str x) f = absurd f
put_kept (kind.Mark m) f = refl
put_kept (kind.Key k) f = absurd f
put_kept (kind.Probe w) f = probe_kept w

neither : (a b : Bool) → (a || b) ≡ false → (a ≡ false) × (b ≡ false)
neither true b e = absurd (subst (λ c. elim c as (λ _. Type 0) [ true ↦ Unit {0} | false ↦ ⊥ ]) e tt)
neither false b e = (refl, e)

none_of : (a b : Bool) → a ≡ false → b ≡ false → (a || b) ≡ false
none_of a b e f = ap₂ (λ x y. x || y) e f

kept_put : (os : List Origin) → ArePut os → list_any is_left_out (spellings (old_kinds os)) ≡ false → list_any is_left_out (spellings (all_kinds os)) ≡ false
kept_put [] f e = refl
kept_put (old k ∷ os) f e =
    let i = neither (is_left_out (class_of k, token_bytes k)) (list_any is_left_out (spellings (old_kinds os))) e in
    none_of (is_left_out (class_of k, token_bytes k)) (list_any is_left_out (spellings (all_kinds os))) i.0 (kept_put os f i.1)
kept_put (put k ∷ os) f e = none_of (is_left_out (class_of k, token_bytes k)) (list_any is_left_out (spellings (all_kinds os))) (put_kept k f.0) (kept_put os f.1 e)

-- what is put is no string
put_plain : (k : TokenKind) → IsPut k → is_some (string_of k) ≡ false
put_plain (kind.Word x) f = absurd f
put_plain (kind.Number x) f = refl
put_plain (kind.Char c) f = absurd f
put_plain (kind.Str x) f = absurd f
put_plain (kind.Mark m) f = refl
put_plain (kind.Key k) f = absurd f
put_plain (kind.Probe w) f = refl

pub plain_first : (k : TokenKind) (ks : List TokenKind) → is_some (string_of k) ≡ false → is_string_pair k ks ≡ false
plain_first k [] e = refl
plain_first k (l ∷ ls) e = ap (λ b. b && is_some (string_of l)) e

and_false : (b : Bool) → (b && false) ≡ false
and_false true = refl
and_false false = refl

plain_second : (k l : TokenKind) → is_some (string_of l) ≡ false → (is_some (string_of k) && is_some (string_of l)) ≡ false
plain_second k l e = ap (λ b. is_some (string_of k) && b) e ∙ and_false (is_some (string_of k))

pair_put : (k : TokenKind) (os : List Origin) → ArePut os → is_string_pair k (old_kinds os) ≡ false → is_string_pair k (all_kinds os) ≡ false
pair_put k [] f e = refl
pair_put k (old l ∷ os) f e = e
pair_put k (put l ∷ os) f e = plain_second k l (put_plain l f.0)

off : (b : Bool) → not b ≡ true → b ≡ false
off true e = sym e
off false e = refl

apart_put : (os : List Origin) → ArePut os → are_apart (old_kinds os) ≡ true → are_apart (all_kinds os) ≡ true
apart_put [] f e = refl
apart_put (old k ∷ os) f e =
    let i = and_parts (not (is_string_pair k (old_kinds os))) (are_apart (old_kinds os)) e in
    and_from (not (is_string_pair k (all_kinds os))) (are_apart (all_kinds os)) (ap not (pair_put k os f (off (is_string_pair k (old_kinds os)) i.0))) (apart_put os f i.1)
apart_put (put k ∷ os) f e =
    and_from (not (is_string_pair k (all_kinds os))) (are_apart (all_kinds os)) (ap not (plain_first k (all_kinds os) (put_plain k f.0))) (apart_put os f.1 e)

pub woven_lexed : (ks ls : List TokenKind) → Woven ks ls → AreLexed ks → AreLexed ls
woven_lexed ks ls a lexed =
    let was : AreLexed (old_kinds a.origins) = subst AreLexed (sym a.was) lexed in
    subst AreLexed a.is (record { tokens = tokens_put a.origins a.fine was.tokens; kept = kept_put a.origins a.fine was.kept; apart = apart_put a.origins a.fine was.apart })

-- ---- numbers that are written in decimal

digits_in : (ds : List ℕ) → AllDigits 10 ds → AllIn InNumber ds
digits_in [] d = tt
digits_in (c ∷ cs) d = (grind arith, digits_in cs d.1)

whole_right : (ds : List ℕ) → AllDigits 10 ds → 0 < length ds → value 10 ds < 2 ^ 64 → is_right_in 10 ds ≡ true
whole_right ds d some small =
    ap (λ r. nat_lt 0 r && (nat_lt (value 10 (take r ds)) (2 ^ 64) && is_suffix (drop r ds))) (run_all ds d)
    ∙ (ap₂ (λ xs ys. nat_lt 0 (length ds) && (nat_lt (value 10 xs) (2 ^ 64) && is_suffix ys)) (take_whole ds) (drop_all ds) ∙ grind arith)
  where
    take_whole : (xs : List ℕ) → take (length xs) xs ≡ xs
    take_whole [] = refl
    take_whole (x ∷ xs) = ap (λ z. x ∷ z) (take_whole xs)

    drop_all : (xs : List ℕ) → drop (length xs) xs ≡ []
    drop_all [] = refl
    drop_all (x ∷ xs) = drop_all xs

numeral_right : (ds : List ℕ) → AllDigits 10 ds → 0 < length ds → 48 < get_or ds 0 0 → value 10 ds < 2 ^ 64 → IsNumber ds
numeral_right [] d some lead small = absurd (omega arith)
numeral_right (c ∷ cs) d some lead small =
    let other : nat_eq c 48 ≡ false = grind arith in (
      grind arith,
      digits_in cs d.1,
      ap (λ b. cond b (cond (begins_with_x cs) (is_right_in 16 (drop 1 cs)) (is_right_in 8 (c ∷ cs))) (is_right_in 10 (c ∷ cs))) other ∙ whole_right (c ∷ cs) d some small,
    )

zero_right : IsNumber (48 ∷ [])
zero_right = (refl, tt, refl)

pub number_right : (n : ℕ) → n < 2 ^ 64 → IsNumber (decimal n)
number_right n small = by_zero (nat_eq n 0) refl
  where
    by_zero : (b : Bool) → nat_eq n 0 ≡ b → IsNumber (decimal n)
    by_zero true e = let z : n ≡ 0 = grind arith in subst (λ m. IsNumber (decimal m)) (sym z) (subst IsNumber (sym (decimal_digit 0 (omega arith))) zero_right)
    by_zero false e =
        let some : 0 < n = grind arith in
        let d = decimal_is_IsNumeral n small in
        let is : value 10 (decimal n) ≡ n = value_same 0 (decimal n) d.0.1 ∙ d.1 in
        numeral_right (decimal n) d.0.1 d.0.0 (first_decimal n some small) (omega (arith, is))
