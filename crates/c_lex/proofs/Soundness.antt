-- Every token that a text gives is one that a piece can spell.
use Rattle.std.proofs.Common.{◌≡◌, ℕ, zero, suc, ◌+◌, ◌≤◌, List, [], ◌∷◌, ◌++◌, Option, Some, None, Bool, true, false, not, refl, sym, ap, subst, ◌∙◌, arith, length, length-append, take, drop, nat_eq}
use Rattle.std.proofs.lemmas.Bool.{cond_both}
use Rattle.std.proofs.lemmas.Bool.Decides.{nat_tests}
use Rattle.std.specs.Prelude.{flat_map, slice_get, slice_set, option_map, bytes_eq, replicate, is_some, codes, ◌&&◌, ◌||◌, nat_le, ◌==◌}
use Rattle.std.specs.List.{list_any}
use Rattle.c_base.specs.declared.place.Pos.{Pos}
use Rattle.c_syntax.specs.declared.token.Mark.{Mark}
use Rattle.c_syntax.specs.declared.token.Mark.TheVariants as mark
use Rattle.c_syntax.specs.declared.token.Key.{Key}
use Rattle.c_syntax.specs.declared.token.Key.TheVariants as key
use Rattle.c_syntax.specs.declared.token.ProbeWord.{ProbeWord}
use Rattle.c_syntax.specs.declared.token.ProbeWord.TheVariants as probe
use Rattle.c_syntax.specs.declared.token.Token.{Token}
use Rattle.c_syntax.specs.declared.token.TokenKind.{TokenKind}
use Rattle.c_syntax.specs.declared.token.TokenKind.TheVariants as token
use Rattle.c_lex_pieces.specs.declared.quotes.Constant.{Constant}
use Rattle.c_lex_pieces.specs.declared.quotes.Constant.TheVariants.{Value, BadEscape, NotOne}
use Rattle.c_lex_pieces.specs.declared.front.Class.{Class}
use Rattle.c_lex_pieces.specs.declared.front.Class.TheVariants as class
use Rattle.c_lex_pieces.specs.declared.front.Front.{Front}
use Rattle.c_lex_pieces.specs.declared.front.Front.TheVariants as front_is
use Rattle.c_lex_pieces.specs.Front.{front}
use Rattle.c_lex_pieces.specs.Quotes.{inside, characters, constant, all_values}
use Rattle.c_lex_pieces.specs.Kinds.{kind, char_kind, word_kind, key_of, probe_of, key_bytes, probe_bytes, left_out}
use Rattle.c_lex_pieces.specs.Written.{IsToken, class_of, token_bytes, AreBytes}
use Rattle.c_lex_pieces.proofs.Spelled.{piece_spells}
use Rattle.c_lex.specs.declared.line.End.{End}
use Rattle.c_lex.specs.declared.line.End.TheVariants as ends
use Rattle.c_lex.specs.declared.directive.Header.{Header}
use Rattle.c_lex.specs.declared.directive.Header.TheVariants as header
use Rattle.c_lex.specs.declared.lexer.TextKind.{TextKind}
use Rattle.c_lex.specs.Macros.{Spelled, Row, numbered, in_row, found, set_row}
use Rattle.c_lex.specs.Output.{Made, is_word, is_left_out, tokens_at}
use Rattle.c_lex.specs.Expand.{is_closed, unless_open, macro_of, Step, replaced, gave, one_step, steps, closed_rows, expansion, gives, fits, all_given}
use Rattle.c_lex.specs.Line.{LineCut, end_at, line_to, line_piece, line_front, line_in, line_of}
use Rattle.c_lex.specs.Directive.{Directive, nothing, defines, undefines, includes, unknown, stops, is_gap, behind_gaps, tokens_in, is_name, at_end, only, with_body, define_as, define, undefine, header_named, include_of, include, by_word, by_first, directive}
use Rattle.c_lex.specs.Joined.{string_of, join_two, join_front, joined}
use Rattle.c_lex.specs.ReadBack.{kinds_of, AreTokens, spellings, is_string_pair, are_apart, AreSound}
use Rattle.c_lex.specs.Scan.{Effect, leaves, at_hash, at_stop, at_name, same_spelling, defined, null_body, eof_body, included, effect, State, Taken, goes, refuses, obeyed, directive_taken, given_taken, token_taken, gap_taken, class_taken, taken, Scanned, scanned, refused, behind, scan_in}
use Rattle.c_lex.specs.Given.{room_of, begin, scan, join_scanned, given}
use Rattle.c_lex.proofs.ReadBack.{or_first, or_rest, neither, count_kinds}

gives_append : (a b : List Step) → gives (a ++ b) ≡ gives a ++ gives b
gives_append [] b = refl
gives_append (replaced ∷ a) b = gives_append a b
gives_append (gave t ∷ a) b = ap (λ l. t ∷ l) (gives_append a b)

abbrev pub pair : ℕ → List Spelled → ℕ × List Spelled
pair i b = (i, b)

-- A piece spells tokens alone
abbrev pub Spells : Spelled → Type 0
Spells t = (k : TokenKind) → kind t.0 t.1 ≡ Some k → IsToken k

abbrev pub AllSpell : List Spelled → Type 0
AllSpell [] = Unit {0}
AllSpell (t ∷ ts) = Spells t × AllSpell ts

spell_append : (ts us : List Spelled) → AllSpell ts → AllSpell us → AllSpell (ts ++ us)
spell_append [] us a b = b
spell_append (t ∷ ts) us a b = (a.0, spell_append ts us (a.1) b)

-- TABLES whose names stand for such pieces
abbrev pub BodySpells : Option (List Spelled) → Type 0
BodySpells None = Unit {0}
BodySpells (Some body) = AllSpell body

abbrev pub RowsSpell : List Row → Type 0
RowsSpell [] = Unit {0}
RowsSpell (r ∷ rs) = BodySpells r.1 × RowsSpell rs

abbrev pub FoundSpells : Option (ℕ × List Spelled) → Type 0
FoundSpells None = Unit {0}
FoundSpells (Some m) = AllSpell m.1

numbered_spells : (i : ℕ) (body : Option (List Spelled)) → BodySpells body → FoundSpells (option_map (λ b. pair i b) body)
numbered_spells i None a = tt
numbered_spells i (Some body) a = a

row_spells : (T : List Row) (i j : ℕ) → RowsSpell T → FoundSpells (numbered j (slice_get T i))
row_spells [] i j a = tt
row_spells (r ∷ T) zero j a = numbered_spells j r.1 (a.0)
row_spells (r ∷ T) (suc i) j a = row_spells T i j (a.1)

in_row_spells : (T : List Row) (o : Option ℕ) → RowsSpell T → FoundSpells (in_row T o)
in_row_spells T None a = tt
in_row_spells T (Some i) a = row_spells T i i a

unless_spells : (h : List Bool) (o : Option (ℕ × List Spelled)) → FoundSpells o → FoundSpells (unless_open h o)
unless_spells h None a = tt
unless_spells h (Some m) a = cond_both (is_closed (slice_get h m.0)) (Some m) None FoundSpells (λ e. a) (λ e. tt)

macro_spells : (T : List Row) (h : List Bool) (t : Spelled) → RowsSpell T → FoundSpells (macro_of T h t)
macro_spells T h t a = cond_both (is_word t.0) (unless_open h (found t.1 T)) None FoundSpells (λ e. unless_spells h (found t.1 T) (in_row_spells T _ a)) (λ e. tt)

-- what replacing gives are such pieces
one_spells : (k : ℕ) (T : List Row) (h : List Bool) (t : Spelled) (o : Option (ℕ × List Spelled)) → Spells t → FoundSpells o → ((g : List Bool) (us : List Spelled) → AllSpell us → AllSpell (gives (steps k T g us))) → AllSpell (gives (one_step (steps k T) h t o))
one_spells k T h t None a b f = (a, tt)
one_spells k T h t (Some m) a b f = f (slice_set h m.0 true) m.1 b

steps_spell : (k : ℕ) (T : List Row) (h : List Bool) (ts : List Spelled) → RowsSpell T → AllSpell ts → AllSpell (gives (steps k T h ts))
steps_spell zero T h ts a b = tt
steps_spell (suc k) T h [] a b = tt
steps_spell (suc k) T h (t ∷ ts) a b =
    subst AllSpell (sym (gives_append (one_step (steps k T) h t (macro_of T h t)) (steps (suc k) T h ts)))
    (spell_append _ _ (one_spells k T h t (macro_of T h t) (b.0) (macro_spells T h t a) (λ g us c. steps_spell k T g us a c)) (steps_spell (suc k) T h ts a (b.1)))

expansion_spells : (T : List Row) (h : List Bool) (ts : List Spelled) → RowsSpell T → AllSpell ts → AllSpell (gives (expansion T h ts))
unfolding expansion
expansion_spells T h ts a b = steps_spell (suc (closed_rows h)) T h ts a b

-- PIECES OF A TEXT
bytes_behind : (n : ℕ) (text : List ℕ) → AreBytes text → AreBytes (drop n text)
bytes_behind zero text a = a
bytes_behind (suc n) [] a = tt
bytes_behind (suc n) (b ∷ bs) a = bytes_behind n bs (a.1)

piece_of : (text : List ℕ) (c : Class) (n : ℕ) → AreBytes text → front text ≡ front_is.Piece c n → Spells (c, take n text)
piece_of text c n a e = λ k q. piece_spells text c n k a e q

piece_line : (k : ℕ) (o : Option End) (c : Class) (m : ℕ) (text : List ℕ) (ps : List Spelled) (n : ℕ) → AllSpell ps → Spells (c, take m text) → (AllSpell (ps ++ (c, take m text) ∷ []) → AllSpell (line_in k (drop m text) (ps ++ (c, take m text) ∷ []) (n + m)).pieces) → AllSpell (line_piece (line_in k) o c m text ps n).pieces
piece_line k (Some d) c m text ps n a b f = a
piece_line k None c m text ps n a b f = f (spell_append ps ((c, take m text) ∷ []) a (b, tt))

front_line : (k : ℕ) (f : Front) (text : List ℕ) (ps : List Spelled) (n : ℕ) → AreBytes text → front text ≡ f → AllSpell ps → ((t : List ℕ) (qs : List Spelled) (m : ℕ) → AreBytes t → AllSpell qs → AllSpell (line_in k t qs m).pieces) → AllSpell (line_front (line_in k) f text ps n).pieces
front_line k (front_is.Refused r) text ps n a e b g = b
front_line k (front_is.Piece c m) text ps n a e b g = piece_line k (end_at c) c m text ps n b (piece_of text c m a e) (λ more. g (drop m text) (ps ++ (c, take m text) ∷ []) (n + m) (bytes_behind m text a) more)

line_spells : (k : ℕ) (text : List ℕ) (ps : List Spelled) (n : ℕ) → AreBytes text → AllSpell ps → AllSpell (line_in k text ps n).pieces
line_spells zero text ps n a b = b
line_spells (suc k) text ps n a b =
    cond_both (length text == 0) (line_to ps n ends.Whole) (line_front (line_in k) (front text) text ps n) (λ l. AllSpell l.pieces) (λ e. b)
    (λ e. front_line k (front text) text ps n a refl b (λ t qs m c d. line_spells k t qs m c d))

whole_line_spells : (text : List ℕ) → AreBytes text → AllSpell (line_of text).pieces
unfolding line_of
whole_line_spells text a = line_spells (suc (length text)) text [] 0 a tt

-- DIRECTIVES that define such pieces
abbrev pub DirectiveSpells : Directive → Type 0
DirectiveSpells nothing = Unit {0}
DirectiveSpells (defines name body) = AllSpell body
DirectiveSpells (undefines name) = Unit {0}
DirectiveSpells (includes h) = Unit {0}
DirectiveSpells unknown = Unit {0}
DirectiveSpells (stops r) = Unit {0}

gaps_spell : (ps : List Spelled) → AllSpell ps → AllSpell (behind_gaps ps)
gaps_spell [] a = tt
gaps_spell (p ∷ ps) a = cond_both (is_gap p.0) (behind_gaps ps) (p ∷ ps) AllSpell (λ e. gaps_spell ps (a.1)) (λ e. a)

tokens_spell : (ps : List Spelled) → AllSpell ps → AllSpell (tokens_in ps)
tokens_spell [] a = tt
tokens_spell (p ∷ ps) a = cond_both (not (is_gap p.0)) (p ∷ tokens_in ps) (tokens_in ps) AllSpell (λ e. (a.0, tokens_spell ps (a.1))) (λ e. tokens_spell ps (a.1))

end_spells : (d : Directive) (e : End) → DirectiveSpells d → DirectiveSpells (at_end d e)
end_spells d ends.Whole a = a
end_spells d (ends.Refused r) a = cond_both (nat_eq r 2) (stops 2) unknown DirectiveSpells (λ e. tt) (λ e. tt)

only_spells : (d : Directive) (ps : List Spelled) (e : End) → DirectiveSpells d → DirectiveSpells (only d ps e)
only_spells d [] e a = end_spells d e a
only_spells d (p ∷ ps) e a = tt

body_spells : (d : Directive) (e : End) → DirectiveSpells d → DirectiveSpells (with_body d e)
body_spells d ends.Whole a = a
body_spells d (ends.Refused r) a = tt

define_as_spells : (name : List ℕ) (ps : List Spelled) (e : End) → AllSpell ps → DirectiveSpells (define_as name ps e)
define_as_spells name [] e a = end_spells (defines name []) e tt
define_as_spells name (p ∷ ps) e a = cond_both (is_gap p.0) (with_body (defines name (tokens_in ps)) e) unknown DirectiveSpells (λ q. body_spells (defines name (tokens_in ps)) e (tokens_spell ps (a.1))) (λ q. tt)

define_spells : (ps : List Spelled) (e : End) → AllSpell ps → DirectiveSpells (define ps e)
define_spells [] e a = end_spells unknown e tt
define_spells (p ∷ ps) e a = cond_both (is_name p) (define_as p.1 ps e) unknown DirectiveSpells (λ q. define_as_spells p.1 ps e (a.1)) (λ q. tt)

undefine_spells : (ps : List Spelled) (e : End) → DirectiveSpells (undefine ps e)
undefine_spells [] e = end_spells unknown e tt
undefine_spells (p ∷ ps) e = cond_both (is_name p) (only (undefines p.1) (behind_gaps ps) e) unknown DirectiveSpells (λ q. only_spells (undefines p.1) (behind_gaps ps) e tt) (λ q. tt)

header_spells : (o : Option Header) (ps : List Spelled) (e : End) → DirectiveSpells (include_of o ps e)
header_spells None ps e = tt
header_spells (Some h) ps e = only_spells (includes h) (behind_gaps ps) e tt

include_spells : (ps : List Spelled) (e : End) → DirectiveSpells (include ps e)
include_spells [] e = end_spells unknown e tt
include_spells (a ∷ b ∷ c ∷ d ∷ f ∷ ps) e =
    cond_both (bytes_eq a.1 (codes "<") && (bytes_eq c.1 (codes ".") && (bytes_eq d.1 (codes "h") && bytes_eq f.1 (codes ">")))) (include_of (header_named b.1) ps e) unknown DirectiveSpells (λ q. header_spells (header_named b.1) ps e) (λ q. tt)
include_spells ps e = tt

word_spells : (w : List ℕ) (ps : List Spelled) (e : End) → AllSpell ps → DirectiveSpells (by_word w ps e)
word_spells w ps e a =
    cond_both (bytes_eq w (codes "define")) (define ps e) _ DirectiveSpells (λ q. define_spells ps e a) (λ q.
    cond_both (bytes_eq w (codes "undef")) (undefine ps e) _ DirectiveSpells (λ q. undefine_spells ps e) (λ q.
    cond_both (bytes_eq w (codes "include")) (include ps e) unknown DirectiveSpells (λ q. include_spells ps e) (λ q. tt)))

first_spells : (ps : List Spelled) (e : End) → AllSpell ps → DirectiveSpells (by_first ps e)
first_spells [] e a = end_spells nothing e tt
first_spells (p ∷ ps) e a = cond_both (is_word p.0) (by_word p.1 (behind_gaps ps) e) unknown DirectiveSpells (λ q. word_spells p.1 (behind_gaps ps) e (gaps_spell ps (a.1))) (λ q. tt)

pub directive_spells : (ps : List Spelled) (e : End) → AllSpell ps → DirectiveSpells (directive ps e)
unfolding directive
directive_spells ps e a = first_spells (behind_gaps ps) e (gaps_spell ps a)

-- THE TABLE behind a directive
set_spells : (name : List ℕ) (body : Option (List Spelled)) (T : List Row) → BodySpells body → RowsSpell T → RowsSpell (set_row name body T)
set_spells name body [] a b = (a, tt)
set_spells name body (r ∷ T) a b = cond_both (bytes_eq name r.0) ((r.0, body) ∷ T) (r ∷ set_row name body T) RowsSpell (λ e. (a, b.1)) (λ e. (b.0, set_spells name body T a (b.1)))

abbrev pub EffectSpells : Effect → Type 0
EffectSpells (leaves T) = RowsSpell T
EffectSpells at_hash = Unit {0}
EffectSpells (at_stop r) = Unit {0}
EffectSpells at_name = Unit {0}

number_zero : Spells (class.Number, codes "0")
number_zero k e = let q : token.Number (codes "0") ≡ k = cc in subst IsToken q (refl, tt, refl)

number_one : Spells (class.Number, codes "1")
number_one k e = let q : token.Number (codes "1") ≡ k = cc in subst IsToken q (refl, tt, refl)

a_mark : (m : Mark) (w : List ℕ) → Spells (class.Mark m, w)
a_mark m w k e = let q : token.Mark m ≡ k = cc in subst IsToken q tt

included_spells : (h : Header) (T : List Row) → RowsSpell T → RowsSpell (included h T)
included_spells header.Stdio T a =
    set_spells (codes "NULL") (Some null_body) (set_row (codes "EOF") (Some eof_body) T) (number_zero, tt)
    (set_spells (codes "EOF") (Some eof_body) T (a_mark mark.LeftParen (codes "("), (a_mark mark.Minus (codes "-"), (number_one, (a_mark mark.RightParen (codes ")"), tt)))) a)
included_spells header.Stdlib T a = set_spells (codes "NULL") (Some null_body) T (number_zero, tt) a

defined_spells : (T : List Row) (name : List ℕ) (body : List Spelled) (o : Option (ℕ × List Spelled)) → AllSpell body → RowsSpell T → EffectSpells (defined T name body o)
defined_spells T name body None a b = set_spells name (Some body) T a b
defined_spells T name body (Some m) a b = cond_both (same_spelling m.1 body) (leaves T) at_name EffectSpells (λ e. b) (λ e. tt)

effect_spells : (d : Directive) (T : List Row) → DirectiveSpells d → RowsSpell T → EffectSpells (effect d T)
effect_spells nothing T a b = b
effect_spells (defines name body) T a b = defined_spells T name body (found name T) a b
effect_spells (undefines name) T a b = set_spells name None T tt b
effect_spells (includes h) T a b = included_spells h T b
effect_spells unknown T a b = tt
effect_spells (stops r) T a b = tt

le_from : (a b : ℕ) → nat_le a b ≡ true → a ≤ b
le_from a b e = grind (arith, nat_tests)

and_first : (a b : Bool) → (a && b) ≡ true → a ≡ true
and_first true b e = refl
and_first false b e = e

-- TOKENS that are given
abbrev pub IsKept : TokenKind → Type 0
IsKept k = IsToken k × (is_left_out (class_of k, token_bytes k) ≡ false)

abbrev pub AreKept : List Token → Type 0
AreKept [] = Unit {0}
AreKept (t ∷ ts) = IsKept t.kind × AreKept ts

kept_append : (ts us : List Token) → AreKept ts → AreKept us → AreKept (ts ++ us)
kept_append [] us a b = b
kept_append (t ∷ ts) us a b = (a.0, kept_append ts us (a.1) b)

key_kept : (k : Key) → left_out (key_bytes k) ≡ false
key_kept key.Break = refl
key_kept k = refl

probe_kept : (p : ProbeWord) → left_out (probe_bytes p) ≡ false
probe_kept probe.Program = refl
probe_kept p = refl

word_kept : (o : Option Key) (p : Option ProbeWord) (w : List ℕ) → left_out w ≡ false → is_left_out (class_of (word_kind o p w), token_bytes (word_kind o p w)) ≡ false
word_kept (Some k) p w e = key_kept k
word_kept None (Some p) w e = probe_kept p
word_kept None None w e = e

abbrev KindKept : Option TokenKind → Type 0
KindKept None = Unit {0}
KindKept (Some k) = is_left_out (class_of k, token_bytes k) ≡ false

char_kept : (v : Constant) → KindKept (char_kind v)
char_kept (Value v) = refl
char_kept BadEscape = tt
char_kept NotOne = tt

str_kept : (o : Option (List ℕ)) → KindKept (option_map (λ values. token.Str values) o)
str_kept None = tt
str_kept (Some vs) = refl

kind_kept : (c : Class) (w : List ℕ) → is_left_out (c, w) ≡ false → KindKept (kind c w)
kind_kept class.Space w e = tt
kind_kept class.Newline w e = tt
kind_kept class.Comment w e = tt
kind_kept class.Word w e = word_kept (key_of w) (probe_of w) w e
kind_kept class.Number w e = refl
kind_kept class.Char w e = char_kept (constant (characters (inside w)))
kind_kept class.Str w e = str_kept (all_values (characters (inside w)))
kind_kept (class.Mark m) w e = refl
kind_kept class.Hash w e = tt

-- at most one token a piece
abbrev pub GivenSound : ℕ → List Token → Type 0
GivenSound n ts = AreKept ts × (length ts ≤ n)

one_at : (p : Pos) (o : Option TokenKind) → ((k : TokenKind) → o ≡ Some k → IsToken k) → KindKept o → GivenSound 1 (tokens_at p o)
one_at p None a b = (tt, omega arith)
one_at p (Some k) a b = (((a k refl, b), tt), omega arith)

all_at : (p : Pos) (ts : List Spelled) → AllSpell ts → list_any is_left_out ts ≡ false → GivenSound (length ts) (flat_map (λ t. tokens_at p (kind t.0 t.1)) ts)
all_at p [] a b = (tt, omega arith)
all_at p (t ∷ ts) a b =
    let first = one_at p (kind t.0 t.1) (a.0) (kind_kept t.0 t.1 (or_first _ _ b)) in
    let rest = all_at p ts (a.1) (or_rest (is_left_out t) _ b) in
    (kept_append _ _ (first.0) (rest.0), omega (arith, length-append (tokens_at p (kind t.0 t.1)) (flat_map (λ (u : Spelled). tokens_at p (kind u.0 u.1)) ts), first.1, rest.1))

-- A STATE
pub record IsSound (most : ℕ) (s : State) : Type 0 where
  pub tokens : AreKept s.made.tokens
  pub clean : s.made.left_out ≡ false
  pub rows : RowsSpell s.table
  pub few : length s.made.tokens + s.made.room.tokens ≤ most

abbrev pub TakenSound : ℕ → Taken → Type 0
TakenSound most (goes n s) = IsSound most s
TakenSound most (refuses r p) = Unit {0}

given_none : (most : ℕ) (w : List ℕ) (s : State) → TakenSound most (given_taken None w s)
given_none most w s = tt

given_sound : (most : ℕ) (p : Pos) (m : Made) (ss : List Step) (w : List ℕ) (s : State) → m ≡ s.made → IsSound most s → AllSpell (gives ss) → TakenSound most (given_taken (all_given p m ss) w s)
given_sound most p m ss w s q a b =
    cond_both (fits m.room ss) _ None (λ o. TakenSound most (given_taken o w s))
    (λ e. cond_both (m.left_out || list_any is_left_out (gives ss)) _ _ (TakenSound most) (λ f. tt)
    (λ f.
    let more = all_at p (gives ss) b (or_rest m.left_out _ f) in
    let enough : length (gives ss) ≤ m.room.tokens = le_from (length (gives ss)) m.room.tokens (and_first _ _ e) in
    let few : length m.tokens + m.room.tokens ≤ most = subst (λ (n : Made). length n.tokens + n.room.tokens ≤ most) (sym q) a.few in
    record {
      tokens = kept_append m.tokens _ (subst (λ (n : Made). AreKept n.tokens) (sym q) a.tokens) (more.0);
      clean = f;
      rows = a.rows;
      few = omega (arith, length-append m.tokens (flat_map (λ (u : Spelled). tokens_at p (kind u.0 u.1)) (gives ss)), more.1, enough, few);
    }))
    (λ e. tt)

token_sound : (most : ℕ) (c : Class) (w : List ℕ) (s : State) → IsSound most s → Spells (c, w) → TakenSound most (token_taken c w s)
token_sound most c w s a b = given_sound most s.place s.made (expansion s.table (replicate (length s.table) false) ((c, w) ∷ [])) w s refl a (expansion_spells s.table (replicate (length s.table) false) ((c, w) ∷ []) a.rows (b, tt))

obeyed_sound : (most : ℕ) (f : Effect) (line : LineCut) (text : List ℕ) (s : State) → IsSound most s → EffectSpells f → TakenSound most (obeyed f line text s)
obeyed_sound most (leaves T) line text s a b = record { tokens = a.tokens; clean = a.clean; rows = b; few = a.few }
obeyed_sound most at_hash line text s a b = tt
obeyed_sound most (at_stop r) line text s a b = tt
obeyed_sound most at_name line text s a b = tt

gap_sound : (most : ℕ) (fresh : Bool) (w : List ℕ) (s : State) → IsSound most s → TakenSound most (gap_taken fresh w s)
gap_sound most fresh w s a = record { tokens = a.tokens; clean = a.clean; rows = a.rows; few = a.few }

hash_sound : (most : ℕ) (text : List ℕ) (s : State) → AreBytes text → IsSound most s → TakenSound most (directive_taken (line_of (drop 1 text)) text s)
hash_sound most text s a b =
    obeyed_sound most _ (line_of (drop 1 text)) text s b
    (effect_spells (directive (line_of (drop 1 text)).pieces (line_of (drop 1 text)).end) s.table
    (directive_spells (line_of (drop 1 text)).pieces (line_of (drop 1 text)).end (whole_line_spells (drop 1 text) (bytes_behind 1 text a))) b.rows)

class_sound : (most : ℕ) (c : Class) (w text : List ℕ) (s : State) → AreBytes text → IsSound most s → Spells (c, w) → TakenSound most (class_taken c w text s)
class_sound most class.Space w text s a b p = gap_sound most s.fresh w s b
class_sound most class.Newline w text s a b p = gap_sound most true w s b
class_sound most class.Comment w text s a b p = gap_sound most (s.fresh || list_any (λ x. nat_eq x 10) w) w s b
class_sound most class.Hash w text s a b p = cond_both s.fresh (directive_taken (line_of (drop 1 text)) text s) (refuses 1 s.place) (TakenSound most) (λ e. hash_sound most text s a b) (λ e. tt)
class_sound most class.Word w text s a b p = token_sound most class.Word w s b p
class_sound most class.Number w text s a b p = token_sound most class.Number w s b p
class_sound most class.Char w text s a b p = token_sound most class.Char w s b p
class_sound most class.Str w text s a b p = token_sound most class.Str w s b p
class_sound most (class.Mark m) w text s a b p = token_sound most (class.Mark m) w s b p

taken_sound : (most : ℕ) (f : Front) (text : List ℕ) (s : State) → AreBytes text → front text ≡ f → IsSound most s → TakenSound most (taken f text s)
taken_sound most (front_is.Refused r) text s a e b = tt
taken_sound most (front_is.Piece c n) text s a e b = class_sound most c (take n text) text s a b (piece_of text c n a e)

-- THE WHOLE
abbrev pub ScannedSound : ℕ → Scanned → Type 0
ScannedSound most (scanned ts) = GivenSound most ts
ScannedSound most (refused r p) = Unit {0}

done_sound : (most : ℕ) (s : State) → IsSound most s → ScannedSound most (scanned s.made.tokens)
done_sound most s a = let few : length s.made.tokens + s.made.room.tokens ≤ most = a.few in (a.tokens, omega (arith, few))

behind_sound : (most k : ℕ) (t : Taken) (text : List ℕ) → AreBytes text → TakenSound most t → ((u : List ℕ) (s : State) → AreBytes u → IsSound most s → ScannedSound most (scan_in k u s)) → ScannedSound most (behind (scan_in k) t text)
behind_sound most k (goes n s) text a b f = f (drop n text) s (bytes_behind n text a) b
behind_sound most k (refuses r p) text a b f = tt

scan_sound : (most k : ℕ) (text : List ℕ) (s : State) → AreBytes text → IsSound most s → ScannedSound most (scan_in k text s)
scan_sound most zero text s a b = done_sound most s b
scan_sound most (suc k) text s a b =
    cond_both (length text == 0) (scanned s.made.tokens) (behind (scan_in k) (taken (front text) text s) text) (ScannedSound most) (λ e. done_sound most s b)
    (λ e. behind_sound most k (taken (front text) text s) text a (taken_sound most (front text) text s a refl b) (λ u g c d. scan_sound most k u g c d))

-- JOINED
bytes_append : (a b : List ℕ) → AreBytes a → AreBytes b → AreBytes (a ++ b)
bytes_append [] b p q = q
bytes_append (x ∷ a) b p q = (p.0, bytes_append a b (p.1) q)

string_bytes_of : (k : TokenKind) (a : List ℕ) → string_of k ≡ Some a → IsToken k → AreBytes a
string_bytes_of (token.Word w) a e h = cc
string_bytes_of (token.Number w) a e h = cc
string_bytes_of (token.Char v) a e h = cc
string_bytes_of (token.Str s) a e h = let q : s ≡ a = cc in subst AreBytes q h
string_bytes_of (token.Mark m) a e h = cc
string_bytes_of (token.Key k) a e h = cc
string_bytes_of (token.Probe p) a e h = cc

-- joined tokens are such tokens, no two strings of them are adjacent, and there are no more of them
pub record JoinedSound (n : ℕ) (ts : List Token) : Type 0 where
  pub tokens : AreKept ts
  pub apart : are_apart (kinds_of ts) ≡ true
  pub few : length ts ≤ n

same_pair : (k l : TokenKind) (ks : List TokenKind) → is_some (string_of k) ≡ is_some (string_of l) → is_string_pair k ks ≡ is_string_pair l ks
same_pair k l [] e = refl
same_pair k l (x ∷ ks) e = ap (λ b. b && is_some (string_of x)) e

two_sound : (n : ℕ) (t u : Token) (a b : Option (List ℕ)) (us : List Token) → string_of t.kind ≡ a → string_of u.kind ≡ b → IsKept t.kind → JoinedSound n (u ∷ us) → JoinedSound (suc n) (join_two t a u b us)
two_sound n t u None b us e f h r =
    let few : suc (length us) ≤ n = r.few in
    record { tokens = (h, r.tokens); apart = ap (λ o. not (is_some o && is_some (string_of u.kind)) && are_apart (kinds_of (u ∷ us))) e ∙ r.apart; few = omega (arith, few) }
two_sound n t u (Some a) None us e f h r =
    let few : suc (length us) ≤ n = r.few in
    record { tokens = (h, r.tokens); apart = ap (λ o. not (is_some o && is_some (string_of u.kind)) && are_apart (kinds_of (u ∷ us))) e ∙ ap (λ o. not (is_some o) && are_apart (kinds_of (u ∷ us))) f ∙ r.apart; few = omega (arith, few) }
two_sound n t u (Some a) (Some b) us e f h r =
    let few : suc (length us) ≤ n = r.few in
    record {
      tokens = ((bytes_append a b (string_bytes_of t.kind a e (h.0)) (string_bytes_of u.kind b f (r.tokens.0.0)), refl), r.tokens.1);
      apart = ap (λ x. not x && are_apart (kinds_of us)) (same_pair (token.Str (a ++ b)) u.kind (kinds_of us) (sym (ap is_some f))) ∙ r.apart;
      few = omega (arith, few);
    }

front_sound : (n : ℕ) (t : Token) (us : List Token) → IsKept t.kind → JoinedSound n us → JoinedSound (suc n) (join_front t us)
front_sound n t [] h r = record { tokens = (h, tt); apart = refl; few = omega arith }
front_sound n t (u ∷ us) h r = two_sound n t u (string_of t.kind) (string_of u.kind) us refl refl h r

joined_sound : (ts : List Token) → AreKept ts → JoinedSound (length ts) (joined ts)
joined_sound [] a = record { tokens = tt; apart = refl; few = omega arith }
joined_sound (t ∷ ts) a = front_sound (length ts) t (joined ts) (a.0) (joined_sound ts (a.1))

tokens_kept : (ts : List Token) → AreKept ts → AreTokens (kinds_of ts) × (list_any is_left_out (spellings (kinds_of ts)) ≡ false)
tokens_kept [] a = (tt, refl)
tokens_kept (t ∷ ts) a = let rest = tokens_kept ts (a.1) in ((a.0.0, rest.0), neither (is_left_out (class_of t.kind, token_bytes t.kind)) (list_any is_left_out (spellings (kinds_of ts))) (a.0.1) (rest.1))

abbrev GivenTokens : TextKind → Scanned → Type 0
GivenTokens kind (scanned ts) = AreSound kind (kinds_of ts)
GivenTokens kind (refused r p) = Unit {0}

joined_tokens : (kind : TextKind) (r : Scanned) → ScannedSound (room_of kind).tokens r → GivenTokens kind (join_scanned r)
joined_tokens kind (refused r p) a = tt
joined_tokens kind (scanned ts) a =
    let j = joined_sound ts (a.0) in
    let k = tokens_kept (joined ts) j.tokens in
    record { tokens = k.0; kept = k.1; apart = j.apart; few = omega (arith, count_kinds (joined ts), j.few, a.1) }

-- every text
pub given_is_sound : (kind : TextKind) (text : List ℕ) (ts : List Token) → AreBytes text → given kind text ≡ scanned ts → AreSound kind (kinds_of ts)
unfolding scan
given_is_sound kind text ts a e =
    subst (GivenTokens kind) e (joined_tokens kind (scan kind text) (scan_sound (room_of kind).tokens (suc (length text)) text (begin kind) a (record { tokens = tt; clean = refl; rows = tt; few = omega arith })))
