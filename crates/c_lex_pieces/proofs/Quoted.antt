-- Written characters and strings are read back.
use Rattle.std.proofs.Common.{◌≡◌, ℕ, suc, ◌+◌, ◌-◌, ◌*◌, ◌/◌, ◌%◌, ◌<◌, List, [], ◌∷◌, ◌++◌, length, take, Option, Some, None, refl, ap, sym, ◌∙◌, arith, append_assoc, append-nil, length-append}
use Rattle.std.proofs.lemmas.Bool.{ne_eqb, and_from, le-leb, lt-ltb, cond-true, cond-false}
use Rattle.std.specs.Prelude.{Bool, true, false, cond, nat_eq, nat_le, option_map}
use Rattle.c_syntax.specs.declared.token.TokenKind.TheVariants as token
use Rattle.c_lex_pieces.specs.declared.bytes.ByteSet.TheVariants.{Digit}
use Rattle.c_lex_pieces.specs.declared.front.Class.TheVariants as class
use Rattle.c_lex_pieces.specs.declared.front.Front.TheVariants.{Piece}
use Rattle.c_lex_pieces.specs.Bytes.{more, is_in, is_digit, digit_of, run}
use Rattle.c_lex_pieces.specs.Numbers.{value}
use Rattle.c_lex_pieces.specs.Quotes.{before_quote, byte_of, character_of, octal_escape, escape, characters, characters_from, constant, all_values, with_first, inside}
use Rattle.c_lex_pieces.specs.Front.{front, char_piece, str_piece, constant_piece, values_piece}
use Rattle.c_lex_pieces.specs.Kinds.{kind, char_kind}
use Rattle.c_lex_pieces.specs.Written.{is_plain, octal_digits, value_bytes, values_bytes, char_bytes, str_bytes, AreBytes}
use Rattle.c_lex_pieces.proofs.Steps.{add_more}
use Rattle.c_lex_pieces.proofs.Runs.{run_whole}

pub take_whole : (w rest : List ℕ) → take (length w) (w ++ rest) ≡ w
take_whole [] rest = refl
take_whole (b ∷ bs) rest = ap (λ x. b ∷ x) (take_whole bs rest)

-- OCTAL DIGITS

digit_is : (k : ℕ) → k < 8 → digit_of (48 + k) ≡ k
digit_is k h = cond-true (is_digit (48 + k)) _ _ (and_from _ _ (le-leb 48 (48 + k) (omega arith)) (le-leb (48 + k) 57 (omega (arith, h)))) ∙ omega arith

in_eight : (k : ℕ) → k < 8 → is_in (Digit 8) (48 + k) ≡ true
in_eight k h = lt-ltb (digit_of (48 + k)) 8 (omega (arith, h, digit_is k h))

high : (v : ℕ) → v < 256 → v / 64 < 8
high v h = omega (arith, h)

middle : (v : ℕ) → v / 8 % 8 < 8
middle v = omega arith

low : (v : ℕ) → v % 8 < 8
low v = omega arith

joined : (v : ℕ) → ((0 * 8 + v / 64) * 8 + v / 8 % 8) * 8 + v % 8 ≡ v
joined v = omega arith

digits_joined : (v : ℕ) → v < 256 → value 8 (octal_digits v) ≡ v
digits_joined v h =
    ap (λ a. ((0 * 8 + a) * 8 + digit_of (48 + v / 8 % 8)) * 8 + digit_of (48 + v % 8)) (digit_is (v / 64) (high v h))
    ∙ ap (λ a. ((0 * 8 + v / 64) * 8 + a) * 8 + digit_of (48 + v % 8)) (digit_is (v / 8 % 8) (middle v))
    ∙ ap (λ a. ((0 * 8 + v / 64) * 8 + v / 8 % 8) * 8 + a) (digit_is (v % 8) (low v))
    ∙ joined v

three : (v : ℕ) → v < 256 → run (Digit 8) (octal_digits v) ≡ 3
three v h = run_whole (Digit 8) (octal_digits v) [] (in_eight _ (high v h), (in_eight _ (middle v), (in_eight _ (low v), tt))) tt

octal_read : (v : ℕ) → v < 256 → octal_escape (octal_digits v) ≡ character_of 4 (Some v)
octal_read v h =
    ap (λ n. character_of (1 + n) (byte_of (value 8 (take n (octal_digits v))))) (three v h)
    ∙ ap (λ n. character_of 4 (byte_of n)) (digits_joined v h)
    ∙ ap (character_of 4) (cond-true (nat_le v 255) _ _ (le-leb v 255 (omega (arith, h))))

escape_read : (v : ℕ) (rest : List ℕ) → v < 256 → escape (octal_digits v ++ rest) ≡ character_of 4 (Some v)
escape_read v rest h =
    cond-false (nat_eq (48 + v / 64) 120) _ _ (ne_eqb _ 120 (λ e. omega (arith, e, high v h)))
    ∙ cond-true (nat_eq (run (Digit 8) ((48 + v / 64) ∷ [])) 1) _ _ (ap (λ t. nat_eq (cond t 1 0) 1) (in_eight _ (high v h)))
    ∙ octal_read v h

-- THE VALUES

plain_not : (v : ℕ) → is_plain v ≡ true → (nat_eq v 92 ≡ false) × (nat_eq v 39 ≡ false) × (nat_eq v 34 ≡ false) × (nat_eq v 10 ≡ false)
plain_not v e = grind arith

value_by : (t : Bool) (v : ℕ) (rest : List ℕ) → v < 256 → is_plain v ≡ t → characters (cond t (v ∷ []) (92 ∷ octal_digits v) ++ rest) ≡ Some v ∷ characters rest
value_by true v rest h e = ap (λ c. c.value ∷ characters_from (c.size - 1) rest) (cond-false (nat_eq v 92) (escape rest) (character_of 1 (Some v)) ((plain_not v e).0))
value_by false v rest h e = ap (λ c. c.value ∷ characters_from (c.size - 1) (octal_digits v ++ rest)) (escape_read v rest h)

value_read : (v : ℕ) (rest : List ℕ) → v < 256 → characters (value_bytes v ++ rest) ≡ Some v ∷ characters rest
value_read v rest h = value_by (is_plain v) v rest h refl

values_read : (vs : List ℕ) → AreBytes vs → all_values (characters (values_bytes vs)) ≡ Some vs
values_read [] h = refl
values_read (v ∷ vs) h = ap all_values (value_read v (values_bytes vs) (h.0)) ∙ ap (with_first (Some v)) (values_read vs (h.1))

-- THE CLOSING QUOTE

plain_step : (q b : ℕ) (bs : List ℕ) → nat_eq b 10 ≡ false → nat_eq b q ≡ false → nat_eq b 92 ≡ false → before_quote q false (b ∷ bs) ≡ more (before_quote q false bs)
plain_step q b bs line quote slash = cond-false (nat_eq b 10) _ _ line ∙ cond-false (nat_eq b q) _ _ quote ∙ ap (λ t. more (before_quote q t bs)) slash

escape_step : (q b : ℕ) (bs : List ℕ) → nat_eq 92 q ≡ false → nat_eq b 10 ≡ false → before_quote q false (92 ∷ b ∷ bs) ≡ more (more (before_quote q false bs))
escape_step q b bs quote line = cond-false (nat_eq 92 q) _ _ quote ∙ ap more (cond-false (nat_eq b 10) _ _ line)

more_more : (k : ℕ) (o : Option ℕ) → more (add_more k o) ≡ add_more (suc k) o
more_more k None = refl
more_more k (Some n) = ap Some (omega arith)

add_none : (o : Option ℕ) → add_more 0 o ≡ o
add_none None = refl
add_none (Some n) = ap Some (omega arith)

add_add : (j k : ℕ) (o : Option ℕ) → add_more j (add_more k o) ≡ add_more (j + k) o
add_add j k None = refl
add_add j k (Some n) = ap Some (omega arith)

-- one of the two quotes
pub record IsQuote (q : ℕ) : Type 0 where
  pub slash : nat_eq 92 q ≡ false
  pub small : q < 48
  pub plain : (v : ℕ) → is_plain v ≡ true → nat_eq v q ≡ false
  pub end : (rest : List ℕ) → before_quote q false (q ∷ rest) ≡ Some 0

step : (q k : ℕ) (bs : List ℕ) → IsQuote q → k < 8 → before_quote q false ((48 + k) ∷ bs) ≡ more (before_quote q false bs)
step q k bs is h = plain_step q (48 + k) bs (ne_eqb _ 10 (λ e. omega (arith, e))) (ne_eqb _ q (λ e. omega (arith, e, is.small))) (ne_eqb _ 92 (λ e. omega (arith, e, h)))

before_by : (t : Bool) (q v : ℕ) (rest : List ℕ) → IsQuote q → v < 256 → is_plain v ≡ t → before_quote q false (cond t (v ∷ []) (92 ∷ octal_digits v) ++ rest) ≡ add_more (length (cond t (v ∷ []) (92 ∷ octal_digits v))) (before_quote q false rest)
before_by true q v rest is h e =
    plain_step q v rest ((plain_not v e).3) (is.plain v e) ((plain_not v e).0) ∙ ap more (sym (add_none (before_quote q false rest))) ∙ more_more 0 _
before_by false q v rest is h e =
    escape_step q (48 + v / 64) ((48 + v / 8 % 8) ∷ (48 + v % 8) ∷ rest) is.slash (ne_eqb _ 10 (λ f. omega (arith, f)))
    ∙ ap (λ o. more (more o)) (step q (v / 8 % 8) ((48 + v % 8) ∷ rest) is (middle v) ∙ ap more (step q (v % 8) rest is (low v) ∙ ap more (sym (add_none (before_quote q false rest))) ∙ more_more 0 _) ∙ more_more 1 _)
    ∙ ap more (more_more 2 _)
    ∙ more_more 3 _

value_before : (q v : ℕ) (rest : List ℕ) → IsQuote q → v < 256 → before_quote q false (value_bytes v ++ rest) ≡ add_more (length (value_bytes v)) (before_quote q false rest)
value_before q v rest is h = before_by (is_plain v) q v rest is h refl

values_before : (q : ℕ) (vs rest : List ℕ) → IsQuote q → AreBytes vs → before_quote q false (values_bytes vs ++ rest) ≡ add_more (length (values_bytes vs)) (before_quote q false rest)
values_before q [] rest is h = sym (add_none (before_quote q false rest))
values_before q (v ∷ vs) rest is h =
    ap (before_quote q false) (append_assoc (value_bytes v) (values_bytes vs) rest)
    ∙ value_before q v (values_bytes vs ++ rest) is (h.0)
    ∙ ap (add_more (length (value_bytes v))) (values_before q vs rest is (h.1))
    ∙ add_add (length (value_bytes v)) (length (values_bytes vs)) (before_quote q false rest)
    ∙ ap (λ n. add_more n (before_quote q false rest)) (sym (length-append (value_bytes v) (values_bytes vs)))

single : IsQuote 39
single = record { slash = refl; small = omega arith; plain = λ v e. (plain_not v e).1; end = λ rest. refl }

double : IsQuote 34
double = record { slash = refl; small = omega arith; plain = λ v e. (plain_not v e).2; end = λ rest. refl }

closed : (q n : ℕ) (rest : List ℕ) → IsQuote q → add_more n (before_quote q false (q ∷ rest)) ≡ Some n
closed q n rest is = ap (add_more n) (is.end rest) ∙ ap Some (omega arith)

inside_quotes : (q : ℕ) (b : List ℕ) → inside (q ∷ b ++ q ∷ []) ≡ b
inside_quotes q b = ap (λ n. take n (b ++ q ∷ [])) (omega (arith, length-append b (q ∷ []))) ∙ take_whole b (q ∷ [])

size : (q : ℕ) (b : List ℕ) → length b + 2 ≡ length (q ∷ b ++ q ∷ [])
size q b = omega (arith, length-append b (q ∷ []))

value_alone : (v : ℕ) → v < 256 → characters (value_bytes v) ≡ Some v ∷ []
value_alone v h = ap characters (sym (append-nil (value_bytes v))) ∙ value_read v [] h

pub char_read : (v : ℕ) (rest : List ℕ) → v < 256 → front (char_bytes v ++ rest) ≡ Piece class.Char (length (char_bytes v))
char_read v rest h =
    let body = value_bytes v in
    ap (λ bs. char_piece bs (before_quote 39 false bs)) (append_assoc body (39 ∷ []) rest)
    ∙ ap (char_piece (body ++ 39 ∷ rest)) (value_before 39 v (39 ∷ rest) single h ∙ closed 39 (length body) rest single)
    ∙ ap (λ w. constant_piece (length body) (constant (characters w))) (take_whole body (39 ∷ rest))
    ∙ ap (λ cs. constant_piece (length body) (constant cs)) (value_alone v h)
    ∙ ap (Piece class.Char) (size 39 body)

pub char_kind_read : (v : ℕ) → v < 256 → kind class.Char (char_bytes v) ≡ Some (token.Char v)
char_kind_read v h = ap (λ w. char_kind (constant (characters w))) (inside_quotes 39 (value_bytes v)) ∙ ap (λ cs. char_kind (constant cs)) (value_alone v h)

pub str_read : (vs rest : List ℕ) → AreBytes vs → front (str_bytes vs ++ rest) ≡ Piece class.Str (length (str_bytes vs))
str_read vs rest h =
    let body = values_bytes vs in
    ap (λ bs. str_piece bs (before_quote 34 false bs)) (append_assoc body (34 ∷ []) rest)
    ∙ ap (str_piece (body ++ 34 ∷ rest)) (values_before 34 vs (34 ∷ rest) double h ∙ closed 34 (length body) rest double)
    ∙ ap (λ w. values_piece (length body) (all_values (characters w))) (take_whole body (34 ∷ rest))
    ∙ ap (values_piece (length body)) (values_read vs h)
    ∙ ap (Piece class.Str) (size 34 body)

pub str_kind_read : (vs : List ℕ) → AreBytes vs → kind class.Str (str_bytes vs) ≡ Some (token.Str vs)
str_kind_read vs h =
    ap (λ w. option_map (λ values. token.Str values) (all_values (characters w))) (inside_quotes 34 (values_bytes vs))
    ∙ ap (option_map (λ values. token.Str values)) (values_read vs h)
