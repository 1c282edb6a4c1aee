-- Answers and steps, and a mark, a keyword or a word at the front of tokens.
use Rattle.std.proofs.Common.{◌≡◌, ℕ, zero, suc, ◌+◌, ◌≤◌, List, [], ◌∷◌, Option, Some, None, Bool, true, false, refl, sym, ap, ◌∙◌, subst, arith}
use Rattle.std.proofs.lemmas.Bool.{eqb-true, eq-eqb}
use Rattle.std.specs.Prelude.{nat_eq, ◌&&◌}
use Rattle.c_syntax.specs.declared.text.Text.{Text}
use Rattle.c_syntax.specs.declared.token.Mark.{Mark}
use Rattle.c_syntax.specs.declared.token.Mark.TheVariants as marks
use Rattle.c_syntax.specs.declared.token.Key.{Key}
use Rattle.c_syntax.specs.declared.token.Key.TheVariants as keys
use Rattle.c_syntax.specs.declared.token.ProbeWord.{ProbeWord}
use Rattle.c_syntax.specs.declared.token.ProbeWord.TheVariants as words
use Rattle.c_syntax.specs.declared.token.Token.{Token}
use Rattle.c_syntax.specs.declared.token.TokenKind.TheVariants as kind
use Rattle.c_syntax.specs.Forms.{Head, a_token, no_token, head}
use Rattle.c_grammar.specs.Look.{Got, got, then_go, go_after, where_true, Finds, mark_code, key_code, word_code, rest_if, after_head, after, after_key_head, after_key, after_probe_head, after_probe, wanted, expect, number_head, a_number, string_head, a_string, word_head, a_word}

-- ANSWERS

abbrev pair_in : {A : Type 0} → Got A → A × List Token → A × List Token
pair_in None d = d
pair_in (Some p) d = p

pub got_eq : {A : Type 0} (a b : A) (x y : List Token) → got a x ≡ got b y → (a ≡ b) × (x ≡ y)
got_eq {A} a b x y e = let d : A × List Token = (a, x) in (ap (λ (f : Got A). (pair_in f d).0) e, ap (λ (f : Got A). (pair_in f d).1) e)

pub not_got : {A : Type 0} {P : Type 0} (b : A) (y : List Token) → None ≡ got b y → P
not_got {A} b y e = absurd (let x : None ≡ got b y = e in cc)

pub went : {A B : Type 0} (f : Got A) (go : A → List Token → Got B) (t : B) (rest : List Token) → then_go f go ≡ got t rest → (b : A) × (ts : List Token) × (f ≡ got b ts) × (go b ts ≡ got t rest)
went None go t rest e = absurd (let h : None ≡ got t rest = e in cc)
went (Some p) go t rest e = (p.0, p.1, refl, e)

pub opened : {A : Type 0} (o : Option (List Token)) (go : List Token → Got A) (t : A) (rest : List Token) → go_after o go ≡ got t rest → (r : List Token) × (o ≡ Some r) × (go r ≡ got t rest)
opened None go t rest e = absurd (let h : None ≡ got t rest = e in cc)
opened (Some r) go t rest e = (r, refl, e)

pub passed : {A : Type 0} (b : Bool) (go : Got A) (t : A) (rest : List Token) → where_true b go ≡ got t rest → (b ≡ true) × (go ≡ got t rest)
passed false go t rest e = absurd (let h : None ≡ got t rest = e in cc)
passed true go t rest e = (refl, e)

pub both : (a b : Bool) → (a && b) ≡ true → (a ≡ true) × (b ≡ true)
both true true e = (refl, refl)
both true false e = absurd (let h : false ≡ true = e in cc)
both false b e = absurd (let h : false ≡ true = e in cc)

pub apart : {P : Type 0} → true ≡ false → P
apart e = absurd (let h : true ≡ false = e in cc)

abbrev pub or_else : Option (List Token) → List Token → List Token
or_else None d = d
or_else (Some ts) d = ts

pub some_eq : (a b : List Token) → Some a ≡ Some b → a ≡ b
some_eq a b e = ap (λ (o : Option (List Token)). or_else o []) e

-- STEPS

-- at least one step is left
pub more : (n k : ℕ) → suc n ≤ k → (j : ℕ) × (k ≡ suc j) × (n ≤ j)
more n zero h = absurd (omega (arith, h))
more n (suc j) h = (j, refl, omega (arith, h))

pub find_from : {A : Type 0} (f : ℕ → List Token → Got A) (ts : List Token) (r : Got A) (n : ℕ) → ((j : ℕ) → n ≤ j → f (suc j) ts ≡ r) → Finds f ts r
find_from f ts r n g =
    record { from = suc n; holds = λ k h. let w = more n k h in subst (λ q. f q ts ≡ r) (sym w.1) (g w.0 w.2) }

-- two answers are one
pub same_answer : {A : Type 0} (f : ℕ → List Token → Got A) (ts : List Token) (r s : Got A) → Finds f ts r → Finds f ts s → r ≡ s
same_answer f ts r s p q = sym (p.holds (p.from + q.from) (omega arith)) ∙ q.holds (p.from + q.from) (omega arith)

-- MARKS, KEYWORDS AND PROBE WORDS

abbrev pick_mark : List Mark → ℕ → Mark
pick_mark [] n = marks.LeftBracket
pick_mark (x ∷ xs) zero = x
pick_mark (x ∷ xs) (suc n) = pick_mark xs n

abbrev all_mark : List Mark
all_mark = marks.LeftBracket ∷ marks.RightBracket ∷ marks.LeftParen ∷ marks.RightParen ∷ marks.LeftBrace ∷ marks.RightBrace ∷ marks.Dot ∷ marks.Arrow ∷ marks.PlusPlus ∷ marks.MinusMinus ∷ marks.Ampersand ∷ marks.Star ∷ marks.Plus ∷ marks.Minus ∷ marks.Tilde ∷ marks.Bang ∷ marks.Slash ∷ marks.Percent ∷ marks.ShiftLeft ∷ marks.ShiftRight ∷ marks.Less ∷ marks.Greater ∷ marks.LessEqual ∷ marks.GreaterEqual ∷ marks.EqualEqual ∷ marks.NotEqual ∷ marks.Caret ∷ marks.Bar ∷ marks.AndAnd ∷ marks.OrOr ∷ marks.Question ∷ marks.Colon ∷ marks.Semicolon ∷ marks.Equal ∷ marks.StarEqual ∷ marks.SlashEqual ∷ marks.PercentEqual ∷ marks.PlusEqual ∷ marks.MinusEqual ∷ marks.LeftEqual ∷ marks.RightEqual ∷ marks.AndEqual ∷ marks.CaretEqual ∷ marks.BarEqual ∷ marks.Comma ∷ []

picked_mark : (x : Mark) → pick_mark all_mark (mark_code x) ≡ x
picked_mark marks.LeftBracket = refl
picked_mark marks.RightBracket = refl
picked_mark marks.LeftParen = refl
picked_mark marks.RightParen = refl
picked_mark marks.LeftBrace = refl
picked_mark marks.RightBrace = refl
picked_mark marks.Dot = refl
picked_mark marks.Arrow = refl
picked_mark marks.PlusPlus = refl
picked_mark marks.MinusMinus = refl
picked_mark marks.Ampersand = refl
picked_mark marks.Star = refl
picked_mark marks.Plus = refl
picked_mark marks.Minus = refl
picked_mark marks.Tilde = refl
picked_mark marks.Bang = refl
picked_mark marks.Slash = refl
picked_mark marks.Percent = refl
picked_mark marks.ShiftLeft = refl
picked_mark marks.ShiftRight = refl
picked_mark marks.Less = refl
picked_mark marks.Greater = refl
picked_mark marks.LessEqual = refl
picked_mark marks.GreaterEqual = refl
picked_mark marks.EqualEqual = refl
picked_mark marks.NotEqual = refl
picked_mark marks.Caret = refl
picked_mark marks.Bar = refl
picked_mark marks.AndAnd = refl
picked_mark marks.OrOr = refl
picked_mark marks.Question = refl
picked_mark marks.Colon = refl
picked_mark marks.Semicolon = refl
picked_mark marks.Equal = refl
picked_mark marks.StarEqual = refl
picked_mark marks.SlashEqual = refl
picked_mark marks.PercentEqual = refl
picked_mark marks.PlusEqual = refl
picked_mark marks.MinusEqual = refl
picked_mark marks.LeftEqual = refl
picked_mark marks.RightEqual = refl
picked_mark marks.AndEqual = refl
picked_mark marks.CaretEqual = refl
picked_mark marks.BarEqual = refl
picked_mark marks.Comma = refl

pub same_mark : (x y : Mark) → nat_eq (mark_code x) (mark_code y) ≡ true → x ≡ y
same_mark x y h = sym (picked_mark x) ∙ ap (pick_mark all_mark) (eqb-true (mark_code x) (mark_code y) h) ∙ picked_mark y

abbrev pick_key : List Key → ℕ → Key
pick_key [] n = keys.Break
pick_key (x ∷ xs) zero = x
pick_key (x ∷ xs) (suc n) = pick_key xs n

abbrev all_key : List Key
all_key = keys.Break ∷ keys.Case ∷ keys.Char ∷ keys.Const ∷ keys.Continue ∷ keys.Default ∷ keys.Do ∷ keys.Else ∷ keys.Enum ∷ keys.For ∷ keys.If ∷ keys.Int ∷ keys.Long ∷ keys.Return ∷ keys.Short ∷ keys.Signed ∷ keys.Sizeof ∷ keys.Static ∷ keys.Struct ∷ keys.Switch ∷ keys.Unsigned ∷ keys.Void ∷ keys.While ∷ []

picked_key : (x : Key) → pick_key all_key (key_code x) ≡ x
picked_key keys.Break = refl
picked_key keys.Case = refl
picked_key keys.Char = refl
picked_key keys.Const = refl
picked_key keys.Continue = refl
picked_key keys.Default = refl
picked_key keys.Do = refl
picked_key keys.Else = refl
picked_key keys.Enum = refl
picked_key keys.For = refl
picked_key keys.If = refl
picked_key keys.Int = refl
picked_key keys.Long = refl
picked_key keys.Return = refl
picked_key keys.Short = refl
picked_key keys.Signed = refl
picked_key keys.Sizeof = refl
picked_key keys.Static = refl
picked_key keys.Struct = refl
picked_key keys.Switch = refl
picked_key keys.Unsigned = refl
picked_key keys.Void = refl
picked_key keys.While = refl

pub same_key : (x y : Key) → nat_eq (key_code x) (key_code y) ≡ true → x ≡ y
same_key x y h = sym (picked_key x) ∙ ap (pick_key all_key) (eqb-true (key_code x) (key_code y) h) ∙ picked_key y

abbrev pick_word : List ProbeWord → ℕ → ProbeWord
pick_word [] n = words.Program
pick_word (x ∷ xs) zero = x
pick_word (x ∷ xs) (suc n) = pick_word xs n

abbrev all_word : List ProbeWord
all_word = words.Program ∷ words.Block ∷ words.Test ∷ words.Select ∷ words.Use ∷ words.Def ∷ []

picked_word : (x : ProbeWord) → pick_word all_word (word_code x) ≡ x
picked_word words.Program = refl
picked_word words.Block = refl
picked_word words.Test = refl
picked_word words.Select = refl
picked_word words.Use = refl
picked_word words.Def = refl

pub same_word : (x y : ProbeWord) → nat_eq (word_code x) (word_code y) ≡ true → x ≡ y
same_word x y h = sym (picked_word x) ∙ ap (pick_word all_word) (eqb-true (word_code x) (word_code y) h) ∙ picked_word y

kind_after_is : (x y : Mark) (ts rest : List Token) (b : Bool) → nat_eq (mark_code x) (mark_code y) ≡ b → rest_if b ts ≡ Some rest → a_token (kind.Mark y) ts ≡ a_token (kind.Mark x) rest
kind_after_is x y ts rest false h e = absurd (let z : None ≡ Some rest = e in cc)
kind_after_is x y ts rest true h e = ap (λ k. a_token (kind.Mark k) ts) (sym (same_mark x y h)) ∙ ap (λ l. a_token (kind.Mark x) l) (some_eq ts rest e)

head_after_is : (x : Mark) (h : Head) (rest : List Token) → after_head x h ≡ Some rest → h ≡ a_token (kind.Mark x) rest
head_after_is x no_token rest e = absurd (let z : None ≡ Some rest = e in cc)
head_after_is x (a_token (kind.Word y) ts) rest e = absurd (let z : None ≡ Some rest = e in cc)
head_after_is x (a_token (kind.Number y) ts) rest e = absurd (let z : None ≡ Some rest = e in cc)
head_after_is x (a_token (kind.Char y) ts) rest e = absurd (let z : None ≡ Some rest = e in cc)
head_after_is x (a_token (kind.Str y) ts) rest e = absurd (let z : None ≡ Some rest = e in cc)
head_after_is x (a_token (kind.Key y) ts) rest e = absurd (let z : None ≡ Some rest = e in cc)
head_after_is x (a_token (kind.Probe y) ts) rest e = absurd (let z : None ≡ Some rest = e in cc)
head_after_is x (a_token (kind.Mark y) ts) rest e = kind_after_is x y ts rest (nat_eq (mark_code x) (mark_code y)) refl e

pub after_is : (x : Mark) (ts rest : List Token) → after x ts ≡ Some rest → head ts ≡ a_token (kind.Mark x) rest
after_is x ts rest e = head_after_is x (head ts) rest e

pub after_yes : (x y : Mark) (ts : List Token) → x ≡ y → rest_if (nat_eq (mark_code x) (mark_code y)) ts ≡ Some ts
after_yes x y ts h = ap (λ b. rest_if b ts) (eq-eqb (mark_code x) (mark_code y) (ap mark_code h))

pub after_no : (x y : Mark) (ts : List Token) → (x ≡ y → ⊥) → rest_if (nat_eq (mark_code x) (mark_code y)) ts ≡ None
after_no x y ts h = go (nat_eq (mark_code x) (mark_code y)) refl
  where
    go : (b : Bool) → nat_eq (mark_code x) (mark_code y) ≡ b → rest_if b ts ≡ None
    go false e = refl
    go true e = absurd (h (same_mark x y e))

pub after_of : (x : Mark) (ts rest : List Token) → head ts ≡ a_token (kind.Mark x) rest → after x ts ≡ Some rest
after_of x ts rest e = ap (after_head x) e ∙ after_yes x x rest refl

kind_after_key_is : (x y : Key) (ts rest : List Token) (b : Bool) → nat_eq (key_code x) (key_code y) ≡ b → rest_if b ts ≡ Some rest → a_token (kind.Key y) ts ≡ a_token (kind.Key x) rest
kind_after_key_is x y ts rest false h e = absurd (let z : None ≡ Some rest = e in cc)
kind_after_key_is x y ts rest true h e = ap (λ k. a_token (kind.Key k) ts) (sym (same_key x y h)) ∙ ap (λ l. a_token (kind.Key x) l) (some_eq ts rest e)

head_after_key_is : (x : Key) (h : Head) (rest : List Token) → after_key_head x h ≡ Some rest → h ≡ a_token (kind.Key x) rest
head_after_key_is x no_token rest e = absurd (let z : None ≡ Some rest = e in cc)
head_after_key_is x (a_token (kind.Word y) ts) rest e = absurd (let z : None ≡ Some rest = e in cc)
head_after_key_is x (a_token (kind.Number y) ts) rest e = absurd (let z : None ≡ Some rest = e in cc)
head_after_key_is x (a_token (kind.Char y) ts) rest e = absurd (let z : None ≡ Some rest = e in cc)
head_after_key_is x (a_token (kind.Str y) ts) rest e = absurd (let z : None ≡ Some rest = e in cc)
head_after_key_is x (a_token (kind.Mark y) ts) rest e = absurd (let z : None ≡ Some rest = e in cc)
head_after_key_is x (a_token (kind.Probe y) ts) rest e = absurd (let z : None ≡ Some rest = e in cc)
head_after_key_is x (a_token (kind.Key y) ts) rest e = kind_after_key_is x y ts rest (nat_eq (key_code x) (key_code y)) refl e

pub after_key_is : (x : Key) (ts rest : List Token) → after_key x ts ≡ Some rest → head ts ≡ a_token (kind.Key x) rest
after_key_is x ts rest e = head_after_key_is x (head ts) rest e

pub after_key_yes : (x y : Key) (ts : List Token) → x ≡ y → rest_if (nat_eq (key_code x) (key_code y)) ts ≡ Some ts
after_key_yes x y ts h = ap (λ b. rest_if b ts) (eq-eqb (key_code x) (key_code y) (ap key_code h))

pub after_key_no : (x y : Key) (ts : List Token) → (x ≡ y → ⊥) → rest_if (nat_eq (key_code x) (key_code y)) ts ≡ None
after_key_no x y ts h = go (nat_eq (key_code x) (key_code y)) refl
  where
    go : (b : Bool) → nat_eq (key_code x) (key_code y) ≡ b → rest_if b ts ≡ None
    go false e = refl
    go true e = absurd (h (same_key x y e))

pub after_key_of : (x : Key) (ts rest : List Token) → head ts ≡ a_token (kind.Key x) rest → after_key x ts ≡ Some rest
after_key_of x ts rest e = ap (after_key_head x) e ∙ after_key_yes x x rest refl

kind_after_probe_is : (x y : ProbeWord) (ts rest : List Token) (b : Bool) → nat_eq (word_code x) (word_code y) ≡ b → rest_if b ts ≡ Some rest → a_token (kind.Probe y) ts ≡ a_token (kind.Probe x) rest
kind_after_probe_is x y ts rest false h e = absurd (let z : None ≡ Some rest = e in cc)
kind_after_probe_is x y ts rest true h e = ap (λ k. a_token (kind.Probe k) ts) (sym (same_word x y h)) ∙ ap (λ l. a_token (kind.Probe x) l) (some_eq ts rest e)

head_after_probe_is : (x : ProbeWord) (h : Head) (rest : List Token) → after_probe_head x h ≡ Some rest → h ≡ a_token (kind.Probe x) rest
head_after_probe_is x no_token rest e = absurd (let z : None ≡ Some rest = e in cc)
head_after_probe_is x (a_token (kind.Word y) ts) rest e = absurd (let z : None ≡ Some rest = e in cc)
head_after_probe_is x (a_token (kind.Number y) ts) rest e = absurd (let z : None ≡ Some rest = e in cc)
head_after_probe_is x (a_token (kind.Char y) ts) rest e = absurd (let z : None ≡ Some rest = e in cc)
head_after_probe_is x (a_token (kind.Str y) ts) rest e = absurd (let z : None ≡ Some rest = e in cc)
head_after_probe_is x (a_token (kind.Mark y) ts) rest e = absurd (let z : None ≡ Some rest = e in cc)
head_after_probe_is x (a_token (kind.Key y) ts) rest e = absurd (let z : None ≡ Some rest = e in cc)
head_after_probe_is x (a_token (kind.Probe y) ts) rest e = kind_after_probe_is x y ts rest (nat_eq (word_code x) (word_code y)) refl e

pub after_probe_is : (x : ProbeWord) (ts rest : List Token) → after_probe x ts ≡ Some rest → head ts ≡ a_token (kind.Probe x) rest
after_probe_is x ts rest e = head_after_probe_is x (head ts) rest e

pub after_probe_yes : (x y : ProbeWord) (ts : List Token) → x ≡ y → rest_if (nat_eq (word_code x) (word_code y)) ts ≡ Some ts
after_probe_yes x y ts h = ap (λ b. rest_if b ts) (eq-eqb (word_code x) (word_code y) (ap word_code h))

pub after_probe_no : (x y : ProbeWord) (ts : List Token) → (x ≡ y → ⊥) → rest_if (nat_eq (word_code x) (word_code y)) ts ≡ None
after_probe_no x y ts h = go (nat_eq (word_code x) (word_code y)) refl
  where
    go : (b : Bool) → nat_eq (word_code x) (word_code y) ≡ b → rest_if b ts ≡ None
    go false e = refl
    go true e = absurd (h (same_word x y e))

pub after_probe_of : (x : ProbeWord) (ts rest : List Token) → head ts ≡ a_token (kind.Probe x) rest → after_probe x ts ≡ Some rest
after_probe_of x ts rest e = ap (after_probe_head x) e ∙ after_probe_yes x x rest refl

wanted_is : {A : Type 0} (a b : A) (o : Option (List Token)) (rest : List Token) → wanted a o ≡ got b rest → (a ≡ b) × (o ≡ Some rest)
wanted_is a b None rest e = absurd (let h : None ≡ got b rest = e in cc)
wanted_is a b (Some ts) rest e = let p = got_eq a b ts rest e in (p.0, ap (λ (l : List Token). Some l) p.1)

pub expect_is : {A : Type 0} (x : Mark) (a b : A) (ts rest : List Token) → expect x a ts ≡ got b rest → (a ≡ b) × (head ts ≡ a_token (kind.Mark x) rest)
expect_is x a b ts rest e = let p = wanted_is a b (after x ts) rest e in (p.0, after_is x ts rest p.1)

-- something and a mark behind it
pub closed_by : {A : Type 0} (x : Mark) (f : Got A) (a : A) (rest : List Token) → then_go f (expect x) ≡ got a rest → (ts : List Token) × (f ≡ got a ts) × (head ts ≡ a_token (kind.Mark x) rest)
closed_by x f a rest e =
    let w = went f (expect x) a rest e in
    let p = expect_is x w.0 a w.1 rest w.3 in
    (w.1, w.2 ∙ ap (λ c. got c w.1) p.0, p.1)

number_head_is : (h : Head) (x : Text) (rest : List Token) → number_head h ≡ got x rest → h ≡ a_token (kind.Number x) rest
number_head_is no_token x rest e = not_got x rest e
number_head_is (a_token (kind.Word y) ts) x rest e = not_got x rest e
number_head_is (a_token (kind.Number y) ts) x rest e = let p = got_eq y x ts rest e in ap (λ z. a_token (kind.Number z) ts) p.0 ∙ ap (λ l. a_token (kind.Number x) l) p.1
number_head_is (a_token (kind.Char y) ts) x rest e = not_got x rest e
number_head_is (a_token (kind.Str y) ts) x rest e = not_got x rest e
number_head_is (a_token (kind.Mark y) ts) x rest e = not_got x rest e
number_head_is (a_token (kind.Key y) ts) x rest e = not_got x rest e
number_head_is (a_token (kind.Probe y) ts) x rest e = not_got x rest e

pub number_is : (ts : List Token) (x : Text) (rest : List Token) → a_number ts ≡ got x rest → head ts ≡ a_token (kind.Number x) rest
number_is ts x rest e = number_head_is (head ts) x rest e

string_head_is : (h : Head) (x : Text) (rest : List Token) → string_head h ≡ got x rest → h ≡ a_token (kind.Str x) rest
string_head_is no_token x rest e = not_got x rest e
string_head_is (a_token (kind.Word y) ts) x rest e = not_got x rest e
string_head_is (a_token (kind.Number y) ts) x rest e = not_got x rest e
string_head_is (a_token (kind.Char y) ts) x rest e = not_got x rest e
string_head_is (a_token (kind.Str y) ts) x rest e = let p = got_eq y x ts rest e in ap (λ z. a_token (kind.Str z) ts) p.0 ∙ ap (λ l. a_token (kind.Str x) l) p.1
string_head_is (a_token (kind.Mark y) ts) x rest e = not_got x rest e
string_head_is (a_token (kind.Key y) ts) x rest e = not_got x rest e
string_head_is (a_token (kind.Probe y) ts) x rest e = not_got x rest e

pub string_is : (ts : List Token) (x : Text) (rest : List Token) → a_string ts ≡ got x rest → head ts ≡ a_token (kind.Str x) rest
string_is ts x rest e = string_head_is (head ts) x rest e

word_head_is : (h : Head) (x : Text) (rest : List Token) → word_head h ≡ got x rest → h ≡ a_token (kind.Word x) rest
word_head_is no_token x rest e = not_got x rest e
word_head_is (a_token (kind.Word y) ts) x rest e = let p = got_eq y x ts rest e in ap (λ z. a_token (kind.Word z) ts) p.0 ∙ ap (λ l. a_token (kind.Word x) l) p.1
word_head_is (a_token (kind.Number y) ts) x rest e = not_got x rest e
word_head_is (a_token (kind.Char y) ts) x rest e = not_got x rest e
word_head_is (a_token (kind.Str y) ts) x rest e = not_got x rest e
word_head_is (a_token (kind.Mark y) ts) x rest e = not_got x rest e
word_head_is (a_token (kind.Key y) ts) x rest e = not_got x rest e
word_head_is (a_token (kind.Probe y) ts) x rest e = not_got x rest e

pub word_is : (ts : List Token) (x : Text) (rest : List Token) → a_word ts ≡ got x rest → head ts ≡ a_token (kind.Word x) rest
word_is ts x rest e = word_head_is (head ts) x rest e
