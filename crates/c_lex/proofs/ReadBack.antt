-- What is written is read back.
use Rattle.std.proofs.Common.{◌≡◌, ℕ, suc, ◌+◌, ◌-◌, ◌<◌, ◌≤◌, List, [], ◌∷◌, ◌++◌, Option, Some, None, Bool, true, false, not, refl, sym, ap, subst, ◌∙◌, arith, cond, append_assoc, append-nil, ◌⊎◌, inl, inr, length, drop, nat_eq, nat_lt}
use Rattle.std.specs.Prelude.{is_some, replicate, option_and_then, ◌&&◌, ◌||◌, nat_le}
use Rattle.std.specs.List.{list_any}
use Rattle.std.proofs.lemmas.Bool.{or_left, ne_eqb, cond-true, cond-false}
use Rattle.std.proofs.lemmas.Bool.Decides.{nat_tests}
use Rattle.c_base.specs.declared.place.Pos.{Pos}
use Rattle.c_syntax.specs.declared.token.Mark.{Mark}
use Rattle.c_syntax.specs.declared.token.Mark.TheVariants as mark
use Rattle.c_syntax.specs.declared.token.Key.{Key}
use Rattle.c_syntax.specs.declared.token.Key.TheVariants as key
use Rattle.c_syntax.specs.declared.token.ProbeWord.{ProbeWord}
use Rattle.c_syntax.specs.declared.token.ProbeWord.TheVariants as probe
use Rattle.c_syntax.specs.declared.token.Token.{Token}
use Rattle.c_syntax.specs.declared.token.TokenKind.{TokenKind}
use Rattle.c_syntax.specs.declared.token.TokenKind.TheVariants as token
use Rattle.c_lex_pieces.specs.declared.bytes.ByteSet.TheVariants.{Blank, InWord, InNumber}
use Rattle.c_lex_pieces.specs.declared.front.Class.{Class}
use Rattle.c_lex_pieces.specs.declared.front.Class.TheVariants as class
use Rattle.c_lex_pieces.specs.declared.front.Front.TheVariants.{Refused, Piece}
use Rattle.c_lex_pieces.specs.Bytes.{is_letter, is_digit, is_blank, is_in, run}
use Rattle.c_lex_pieces.specs.Numbers.{is_right}
use Rattle.c_lex_pieces.specs.Front.{front, number_piece}
use Rattle.c_lex_pieces.specs.Kinds.{kind, key_bytes, probe_bytes}
use Rattle.c_lex_pieces.specs.Marks.{mark_bytes}
use Rattle.c_lex_pieces.specs.Written.{IsToken, IsWord, IsNumber, class_of, token_bytes}
use Rattle.c_lex_pieces.proofs.Quoted.{take_whole, char_read, str_read}
use Rattle.c_lex_pieces.proofs.Runs.{IsPast, run_whole, run_none}
use Rattle.c_lex_pieces.proofs.ReadBack.{letter_bounds, digit_bounds, above_blanks, no_letter, third, token_front, token_kind}
use Rattle.c_lex.specs.declared.lexer.TextKind.{TextKind}
use Rattle.c_lex.specs.Macros.{Spelled, bytes_of, Row}
use Rattle.c_lex.specs.Places.{moved}
use Rattle.c_lex.specs.Output.{Made, is_word, is_left_out, tokens_at}
use Rattle.c_lex.specs.Expand.{gave, unless_open, expansion, all_given}
use Rattle.c_lex.specs.Scan.{State, goes, refuses, token_taken, given_taken, class_taken, taken, Scanned, scanned, Scans}
use Rattle.c_lex.specs.Given.{begin, given}
use Rattle.c_lex.specs.Joined.{string_of, join_two, join_front, joined}
use Rattle.c_lex.specs.Written.{end_byte, lines, written}
use Rattle.c_lex.specs.ReadBack.{kinds_of, AreTokens, spellings, are_apart, AreReadable}
use Rattle.c_lex.specs.Replacing.{put_token}
use Rattle.c_lex.proofs.Levels.{expand_token}
use Rattle.c_lex.proofs.Spent.{spent_all}
use Rattle.c_lex.proofs.Scanning.{scan_end, scan_on, whole}

-- A TOKEN BEFORE A LINE'S END
mark_line : (m : Mark) (rest : List ℕ) → front (mark_bytes m ++ 10 ∷ rest) ≡ Piece (class.Mark m) (length (mark_bytes m))
mark_line mark.LeftBracket rest = refl
mark_line m rest = refl

key_line : (k : Key) (rest : List ℕ) → front (key_bytes k ++ 10 ∷ rest) ≡ Piece class.Word (length (key_bytes k))
key_line key.Break rest = refl
key_line k rest = refl

probe_line : (p : ProbeWord) (rest : List ℕ) → front (probe_bytes p ++ 10 ∷ rest) ≡ Piece class.Word (length (probe_bytes p))
probe_line probe.Program rest = refl
probe_line p rest = refl

word_line : (w rest : List ℕ) → IsWord w → front (w ++ 10 ∷ rest) ≡ Piece class.Word (length w)
word_line [] rest h = absurd h
word_line (b ∷ bs) rest h =
    let low : 65 ≤ b = letter_bounds b (h.0) in
    third (nat_eq b 10) (is_blank b) (is_letter b) _ _ _ _ (ne_eqb b 10 (λ e. omega (arith, e, low))) (above_blanks b (omega (arith, low))) (h.0)
    ∙ ap (λ n. Piece class.Word (suc n)) (run_whole InWord bs (10 ∷ rest) (h.1) refl)

number_byte : (b : ℕ) → is_digit b ≡ true → is_in InNumber b ≡ true
number_byte b e = grind arith

number_line : (w rest : List ℕ) → IsNumber w → front (w ++ 10 ∷ rest) ≡ Piece class.Number (length w)
number_line [] rest h = absurd h
number_line (b ∷ bs) rest h =
    let bounds = digit_bounds b (h.0) in
    let run_is : run InNumber (b ∷ bs ++ 10 ∷ rest) ≡ length (b ∷ bs) = run_whole InNumber (b ∷ bs) (10 ∷ rest) (number_byte b (h.0), h.1) refl in
    cond-false (nat_eq b 10) _ _ (ne_eqb b 10 (λ e. omega (arith, e, bounds)))
    ∙ third (is_blank b) (is_letter b) _ _ _ _ _ (above_blanks b (omega (arith, bounds))) (no_letter b (omega (arith, bounds))) (or_left (is_digit b) _ (h.0))
    ∙ ap (number_piece (b ∷ bs ++ 10 ∷ rest)) run_is
    ∙ ap (λ x. cond (is_right x) (Piece class.Number (length (b ∷ bs))) (Refused 5)) (take_whole (b ∷ bs) (10 ∷ rest))
    ∙ cond-true (is_right (b ∷ bs)) _ _ (h.2)

token_line : (t : TokenKind) (rest : List ℕ) → IsToken t → front (token_bytes t ++ 10 ∷ rest) ≡ Piece (class_of t) (length (token_bytes t))
token_line (token.Word w) rest h = word_line w rest (h.0)
token_line (token.Number w) rest h = number_line w rest h
token_line (token.Char v) rest h = char_read v (10 ∷ rest) h
token_line (token.Str vs) rest h = str_read vs (10 ∷ rest) h
token_line (token.Mark m) rest h = mark_line m rest
token_line (token.Key k) rest h = key_line k rest
token_line (token.Probe p) rest h = probe_line p rest

-- THE FIRST BYTE of a token is no blank
mark_first : (m : Mark) (rest : List ℕ) → IsPast Blank (mark_bytes m ++ rest)
mark_first mark.LeftBracket rest = refl
mark_first m rest = refl

key_first : (k : Key) (rest : List ℕ) → IsPast Blank (key_bytes k ++ rest)
key_first key.Break rest = refl
key_first k rest = refl

probe_first : (p : ProbeWord) (rest : List ℕ) → IsPast Blank (probe_bytes p ++ rest)
probe_first probe.Program rest = refl
probe_first p rest = refl

word_first : (w rest : List ℕ) → IsWord w → IsPast Blank (w ++ rest)
word_first [] rest h = absurd h
word_first (b ∷ bs) rest h = let low : 65 ≤ b = letter_bounds b (h.0) in above_blanks b (omega (arith, low))

number_first : (w rest : List ℕ) → IsNumber w → IsPast Blank (w ++ rest)
number_first [] rest h = absurd h
number_first (b ∷ bs) rest h = let bounds = digit_bounds b (h.0) in above_blanks b (omega (arith, bounds))

token_first : (t : TokenKind) (rest : List ℕ) → IsToken t → IsPast Blank (token_bytes t ++ rest)
token_first (token.Word w) rest h = word_first w rest (h.0)
token_first (token.Number w) rest h = number_first w rest h
token_first (token.Char v) rest h = refl
token_first (token.Str vs) rest h = refl
token_first (token.Mark m) rest h = mark_first m rest
token_first (token.Key k) rest h = key_first k rest
token_first (token.Probe p) rest h = probe_first p rest

-- a token has a byte
pub mark_size : (m : Mark) → 1 ≤ length (mark_bytes m)
mark_size mark.LeftBracket = omega arith
mark_size m = omega arith

key_size : (k : Key) → 1 ≤ length (key_bytes k)
key_size key.Break = omega arith
key_size k = omega arith

probe_size : (p : ProbeWord) → 1 ≤ length (probe_bytes p)
probe_size probe.Program = omega arith
probe_size p = omega arith

word_size : (w : List ℕ) → IsWord w → 1 ≤ length w
word_size [] h = absurd h
word_size (b ∷ bs) h = omega arith

number_size : (w : List ℕ) → IsNumber w → 1 ≤ length w
number_size [] h = absurd h
number_size (b ∷ bs) h = omega arith

token_size : (t : TokenKind) → IsToken t → 1 ≤ length (token_bytes t)
token_size (token.Word w) h = word_size w (h.0)
token_size (token.Number w) h = number_size w h
token_size (token.Char v) h = omega arith
token_size (token.Str vs) h = omega arith
token_size (token.Mark m) h = mark_size m
token_size (token.Key k) h = key_size k
token_size (token.Probe p) h = probe_size p

-- A TOKEN IS TAKEN where no name stands for anything
nothing_stands : (b : Bool) (h : List Bool) → cond b (unless_open h None) None ≡ None
nothing_stands true h = refl
nothing_stands false h = refl

plain_token : (c : Class) (w : List ℕ) (h : List Bool) → expansion [] h ((c, w) ∷ []) ≡ gave (c, w) ∷ []
plain_token c w h = expand_token [] h (c, w) (nothing_stands (is_word c) h)

put_one : Pos → Spelled → Made → Made
put_one p t m = record {
  tokens = m.tokens ++ tokens_at p (kind t.0 t.1);
  room = record { tokens = m.room.tokens - 1; bytes = m.room.bytes - length t.1; replacements = m.room.replacements };
  left_out = m.left_out || is_left_out t;
}

put_fits : (p : Pos) (t : Spelled) (m : Made) → 1 ≤ m.room.tokens → length t.1 ≤ m.room.bytes → put_token p t m ≡ Some (put_one p t m)
unfolding put_one
put_fits p t m few short =
    let a : nat_lt 0 m.room.tokens ≡ true = grind (arith, nat_tests) in
    let b : nat_le (length t.1) m.room.bytes ≡ true = grind (arith, nat_tests) in
    rw (a, b) refl

one_given : (p : Pos) (c : Class) (w : List ℕ) (m : Made) (h : List Bool) → 1 ≤ m.room.tokens → length w ≤ m.room.bytes → all_given p m (expansion [] h ((c, w) ∷ [])) ≡ Some (put_one p (c, w) m)
one_given p c w m h few short =
    ap (all_given p m) (plain_token c w h) ∙ sym (spent_all p m (gave (c, w) ∷ [])) ∙ ap (λ o. option_and_then (λ n. Some n) o) (put_fits p (c, w) m few short)

behind_token : State → TokenKind → State
behind_token s k = record { place = moved s.place (token_bytes k); fresh = false; table = s.table; made = put_one s.place (class_of k, token_bytes k) s.made }

kept_one : (m : Made) (w : List ℕ) (s : State) → m.left_out ≡ false → given_taken (Some m) w s ≡ goes (length w) (record { place = moved s.place w; fresh = false; table = s.table; made = m })
kept_one m w s e = ap (λ x. cond x (refuses 9 s.place) (goes (length w) (record { place = moved s.place w; fresh = false; table = s.table; made = m }))) e

pub neither : (a b : Bool) → a ≡ false → b ≡ false → (a || b) ≡ false
neither a b e f = rw (e, f) refl

taken_token : (s : State) (k : TokenKind) → s.table ≡ [] → s.made.left_out ≡ false → is_left_out (class_of k, token_bytes k) ≡ false → 1 ≤ s.made.room.tokens → length (token_bytes k) ≤ s.made.room.bytes → token_taken (class_of k) (token_bytes k) s ≡ goes (length (token_bytes k)) (behind_token s k)
unfolding behind_token put_one
taken_token s k e l o few short =
    ap (λ (T : List Row). given_taken (all_given s.place s.made (expansion T (replicate (length T) false) ((class_of k, token_bytes k) ∷ []))) (token_bytes k) s) e
    ∙ ap (λ m. given_taken m (token_bytes k) s) (one_given s.place (class_of k) (token_bytes k) s.made (replicate (length {A = Row} []) false) few short)
    ∙ kept_one (put_one s.place (class_of k, token_bytes k) s.made) (token_bytes k) s (neither s.made.left_out (is_left_out (class_of k, token_bytes k)) l o)

class_token : (k : TokenKind) (w text : List ℕ) (s : State) → class_taken (class_of k) w text s ≡ token_taken (class_of k) w s
class_token (token.Word v) w text s = refl
class_token (token.Number v) w text s = refl
class_token (token.Char v) w text s = refl
class_token (token.Str v) w text s = refl
class_token (token.Mark v) w text s = refl
class_token (token.Key v) w text s = refl
class_token (token.Probe v) w text s = refl

drop_whole : (w rest : List ℕ) → drop (length w) (w ++ rest) ≡ rest
drop_whole [] rest = refl
drop_whole (b ∷ bs) rest = drop_whole bs rest

some_bytes : (w rest : List ℕ) → 1 ≤ length w → 0 < length (w ++ rest)
some_bytes [] rest h = absurd (omega (arith, h))
some_bytes (b ∷ bs) rest h = omega arith

-- a token, and what follows it
token_step : (k : TokenKind) (rest : List ℕ) (s : State) (r : Scanned) → front (token_bytes k ++ rest) ≡ Piece (class_of k) (length (token_bytes k)) → IsToken k → s.table ≡ [] → s.made.left_out ≡ false → is_left_out (class_of k, token_bytes k) ≡ false → 1 ≤ s.made.room.tokens → length (token_bytes k) ≤ s.made.room.bytes → Scans rest (behind_token s k) r → Scans (token_bytes k ++ rest) s r
token_step k rest s r f is e l o few short on =
    scan_on (token_bytes k ++ rest) s (behind_token s k) (length (token_bytes k)) r (some_bytes (token_bytes k) rest (token_size k is))
    (ap (λ x. taken x (token_bytes k ++ rest) s) f
    ∙ ap (λ w. class_taken (class_of k) w (token_bytes k ++ rest) s) (take_whole (token_bytes k) rest)
    ∙ class_token k (token_bytes k) (token_bytes k ++ rest) s
    ∙ taken_token s k e l o few short)
    (token_size k is)
    (subst (λ t. Scans t (behind_token s k) r) (sym (drop_whole (token_bytes k) rest)) on)

-- a newline, and a space before what is no blank
behind_gap : State → Bool → ℕ → State
behind_gap s fresh b = record { place = moved s.place (b ∷ []); fresh = fresh; table = s.table; made = s.made }

line_step : (rest : List ℕ) (s : State) (r : Scanned) → Scans rest (behind_gap s true 10) r → Scans (10 ∷ rest) s r
unfolding behind_gap
line_step rest s r on = scan_on (10 ∷ rest) s (behind_gap s true 10) 1 r (omega arith) refl (omega arith) on

space_step : (rest : List ℕ) (s : State) (r : Scanned) → IsPast Blank rest → Scans rest (behind_gap s s.fresh 32) r → Scans (32 ∷ rest) s r
unfolding behind_gap
space_step rest s r past on = scan_on (32 ∷ rest) s (behind_gap s s.fresh 32) 1 r (omega arith) (ap (λ n. taken (Piece class.Space (suc n)) (32 ∷ rest) s) (run_none Blank rest past)) (omega arith) on

-- ALL TOKENS, from a state on
pub record Reads (ts : List Token) (s : State) : Type 0 where
  pub tokens : List Token
  pub scans : Scans (lines ts) s (scanned (s.made.tokens ++ tokens))
  pub same : kinds_of tokens ≡ kinds_of ts

ends_by : (n e : ℕ) (b : Bool) → e ≡ cond b 10 32 → nat_eq n 0 ≡ b → (e ≡ 10) ⊎ ((e ≡ 32) × (0 < n))
ends_by n e true q f = inl q
ends_by n e false q f = inr (q, grind (arith, nat_tests))

end_cases : (k : TokenKind) (n : ℕ) → (end_byte k n ≡ 10) ⊎ ((end_byte k n ≡ 32) × (0 < n))
end_cases (token.Mark mark.Semicolon) n = inl refl
end_cases (token.Mark mark.LeftBrace) n = inl refl
end_cases (token.Mark mark.RightBrace) n = inl refl
end_cases k n = ends_by n (end_byte k n) (nat_eq n 0) refl refl

first_past : (ts : List Token) → 0 < length ts → AreTokens (kinds_of ts) → IsPast Blank (lines ts)
first_past [] h all = absurd (omega (arith, h))
first_past (t ∷ ts) h all = subst (IsPast Blank) (sym (append_assoc (token_bytes t.kind) (end_byte t.kind (length ts) ∷ []) (lines ts))) (token_first t.kind ((end_byte t.kind (length ts) ∷ []) ++ lines ts) (all.0))

with_end : (k : TokenKind) (e d : ℕ) (rest : List ℕ) (s : State) (r : Scanned) → e ≡ d → Scans (token_bytes k ++ d ∷ rest) s r → Scans ((token_bytes k ++ e ∷ []) ++ rest) s r
with_end k e d rest s r q on = subst (λ text. Scans text s r) (sym (ap (λ x. (token_bytes k ++ x ∷ []) ++ rest) q ∙ append_assoc (token_bytes k) (d ∷ []) rest)) on

tokens_so_far : (t : Token) (s : State) (us : List Token) → IsToken t.kind → (behind_token s t.kind).made.tokens ++ us ≡ s.made.tokens ++ record { kind = t.kind; pos = s.place } ∷ us
unfolding behind_token put_one
tokens_so_far t s us is = ap (λ o. (s.made.tokens ++ tokens_at s.place o) ++ us) (token_kind t.kind is) ∙ append_assoc s.made.tokens (record { kind = t.kind; pos = s.place } ∷ []) us

reads_one : (t : Token) (ts : List Token) (s g : State) → IsToken t.kind → g.made ≡ (behind_token s t.kind).made → Reads ts g → ((r : Scanned) → Scans (lines ts) g r → Scans (lines (t ∷ ts)) s r) → Reads (t ∷ ts) s
reads_one t ts s g is m next step = record {
  tokens = record { kind = t.kind; pos = s.place } ∷ next.tokens;
  scans = subst (λ l. Scans (lines (t ∷ ts)) s (scanned l)) (ap (λ (n : Made). n.tokens ++ next.tokens) m ∙ tokens_so_far t s next.tokens is) (step _ next.scans);
  same = ap (λ ks. t.kind ∷ ks) next.same;
}

-- what the rest of the tokens asks of a state
pub record Waits (ts : List Token) (s : State) : Type 0 where
  pub all : AreTokens (kinds_of ts)
  pub kept : list_any is_left_out (spellings (kinds_of ts)) ≡ false
  pub few : length ts ≤ s.made.room.tokens
  pub short : bytes_of (spellings (kinds_of ts)) ≤ s.made.room.bytes
  pub none : s.table ≡ []
  pub clean : s.made.left_out ≡ false

pub or_first : (a b : Bool) → (a || b) ≡ false → a ≡ false
or_first true b e = e
or_first false b e = refl

pub or_rest : (a b : Bool) → (a || b) ≡ false → b ≡ false
or_rest true b e = cc
or_rest false b e = e

waits_on : (t : Token) (ts : List Token) (s : State) (fresh : Bool) (b : ℕ) → Waits (t ∷ ts) s → Waits ts (behind_gap (behind_token s t.kind) fresh b)
unfolding behind_gap behind_token put_one
waits_on t ts s fresh b w =
    let first : is_left_out (class_of t.kind, token_bytes t.kind) ≡ false = or_first _ _ w.kept in
    let rest : list_any is_left_out (spellings (kinds_of ts)) ≡ false = or_rest (is_left_out (class_of t.kind, token_bytes t.kind)) _ w.kept in
    let few : suc (length ts) ≤ s.made.room.tokens = w.few in
    let short : length (token_bytes t.kind) + bytes_of (spellings (kinds_of ts)) ≤ s.made.room.bytes = w.short in
    record { all = w.all.1; kept = rest; few = omega (arith, few); short = omega (arith, short); none = w.none; clean = neither s.made.left_out (is_left_out (class_of t.kind, token_bytes t.kind)) w.clean first }

one_step : (t : Token) (ts : List Token) (s : State) (rest : List ℕ) (r : Scanned) → Waits (t ∷ ts) s → front (token_bytes t.kind ++ rest) ≡ Piece (class_of t.kind) (length (token_bytes t.kind)) → Scans rest (behind_token s t.kind) r → Scans (token_bytes t.kind ++ rest) s r
one_step t ts s rest r w f on =
    let few : suc (length ts) ≤ s.made.room.tokens = w.few in
    let short : length (token_bytes t.kind) + bytes_of (spellings (kinds_of ts)) ≤ s.made.room.bytes = w.short in
    token_step t.kind rest s r f (w.all.0) w.none w.clean (or_first _ _ w.kept) (omega (arith, few)) (omega (arith, short)) on

reads_on : (t : Token) (ts : List Token) (s : State) → Waits (t ∷ ts) s → ((g : State) → Waits ts g → Reads ts g) → (end_byte t.kind (length ts) ≡ 10) ⊎ ((end_byte t.kind (length ts) ≡ 32) × (0 < length ts)) → Reads (t ∷ ts) s
unfolding behind_gap
reads_on t ts s w next (inl e) =
    let g = behind_gap (behind_token s t.kind) true 10 in
    reads_one t ts s g (w.all.0) refl (next g (waits_on t ts s true 10 w))
    (λ r on. with_end t.kind (end_byte t.kind (length ts)) 10 (lines ts) s r e (one_step t ts s (10 ∷ lines ts) r w (token_line t.kind (lines ts) (w.all.0)) (line_step (lines ts) (behind_token s t.kind) r on)))
reads_on t ts s w next (inr e) =
    let g = behind_gap (behind_token s t.kind) (behind_token s t.kind).fresh 32 in
    reads_one t ts s g (w.all.0) refl (next g (waits_on t ts s (behind_token s t.kind).fresh 32 w))
    (λ r on. with_end t.kind (end_byte t.kind (length ts)) 32 (lines ts) s r (e.0) (one_step t ts s (32 ∷ lines ts) r w (token_front t.kind (lines ts) (w.all.0)) (space_step (lines ts) (behind_token s t.kind) r (first_past ts (e.1) (w.all.1)) on)))

lines_read : (ts : List Token) (s : State) → Waits ts s → Reads ts s
lines_read [] s w = record { tokens = []; scans = subst (λ l. Scans [] s (scanned l)) (sym (append-nil s.made.tokens)) (scan_end [] s refl); same = refl }
lines_read (t ∷ ts) s w = reads_on t ts s w (λ g v. lines_read ts g v) (end_cases t.kind (length ts))

-- TOKENS THAT ARE APART are joined already
join_apart : (t u : Token) (a b : Option (List ℕ)) (us : List Token) → (is_some a && is_some b) ≡ false → join_two t a u b us ≡ t ∷ u ∷ us
join_apart t u None b us e = refl
join_apart t u (Some a) None us e = refl
join_apart t u (Some a) (Some b) us e = cc

not_true : (a b : Bool) → (not a && b) ≡ true → (a ≡ false) × (b ≡ true)
not_true true b e = cc
not_true false b e = (refl, e)

joined_apart : (ts : List Token) → are_apart (kinds_of ts) ≡ true → joined ts ≡ ts
joined_apart [] e = refl
joined_apart (t ∷ []) e = refl
joined_apart (t ∷ u ∷ us) e =
    let two = not_true (is_some (string_of t.kind) && is_some (string_of u.kind)) (are_apart (kinds_of (u ∷ us))) e in
    ap (join_front t) (joined_apart (u ∷ us) (two.1)) ∙ join_apart t u (string_of t.kind) (string_of u.kind) us (two.0)

pub count_kinds : (ts : List Token) → length (kinds_of ts) ≡ length ts
count_kinds [] = refl
count_kinds (t ∷ ts) = ap suc (count_kinds ts)

empty_read : (kind : TextKind) → Scans (10 ∷ []) (begin kind) (scanned [])
unfolding behind_gap
empty_read kind = line_step [] (begin kind) (scanned []) (scan_end [] (behind_gap (begin kind) true 10) refl)

pub written_reads : (kind : TextKind) (ts : List Token) → AreReadable kind (kinds_of ts) → (us : List Token) × (given kind (written ts) ≡ scanned us) × (kinds_of us ≡ kinds_of ts)
written_reads kind [] a = ([], whole kind (10 ∷ []) (scanned []) (empty_read kind), refl)
written_reads kind (t ∷ ts) a =
    let w : Waits (t ∷ ts) (begin kind) = record { all = a.tokens; kept = a.kept; few = omega (arith, a.few, count_kinds (t ∷ ts)); short = a.short; none = refl; clean = refl } in
    let read = lines_read (t ∷ ts) (begin kind) w in
    let apart : are_apart (kinds_of read.tokens) ≡ true = ap are_apart read.same ∙ a.apart in
    (read.tokens, whole kind (written (t ∷ ts)) (scanned read.tokens) read.scans ∙ ap scanned (joined_apart read.tokens apart), read.same)
