-- The steps of the loops over a text.
use Rattle.std.proofs.Common.{◌≡◌, ℕ, zero, suc, ◌+◌, ◌-◌, ◌<◌, ◌≤◌, List, [], ◌∷◌, ◌++◌, length, drop, Option, Some, None, get_or, refl, ap, subst, sym, ◌∙◌, arith, length-drop, append_assoc, append-nil}
use Rattle.std.proofs.lemmas.Bool.{and_parts, eqb-true, false≢true}
use Rattle.std.proofs.lemmas.Option.{none-some}
use Rattle.std.specs.Prelude.{is_some, unwrap_or, codes, Bool, true, false, cond, nat_eq}
use Rattle.c_syntax.specs.declared.token.Mark.{Mark}
use Rattle.c_lex_pieces.specs.declared.quotes.Character.{Character}
use Rattle.c_lex_pieces.specs.declared.quotes.Constant.TheVariants.{NotOne}
use Rattle.c_lex_pieces.specs.Quotes.{character, characters, characters_from, constant, only, all_values, with_first}
use Rattle.c_lex_pieces.specs.Front.{front, comment_piece, comment_end, mark_piece}
use Rattle.c_lex_pieces.specs.Marks.{mark_bytes, marks, mark_front, first_in_front, is_front}

abbrev pub add_more : ℕ → Option ℕ → Option ℕ
add_more k None = None
add_more k (Some n) = Some (k + n)

from_drop : (k : ℕ) (bs : List ℕ) → characters_from k bs ≡ characters (drop k bs)
from_drop zero bs = refl
from_drop (suc k) [] = refl
from_drop (suc k) (b ∷ bs) = from_drop k bs

drop_less : (n b : ℕ) (bs : List ℕ) → 1 ≤ n → drop (n - 1) bs ≡ drop n (b ∷ bs)
drop_less zero b bs one = absurd (omega (arith, one))
drop_less (suc n) b bs one = ap (λ k. drop k bs) (omega arith)

-- the first character, and then the others
pub characters_on : (bs : List ℕ) → 0 < length bs → 1 ≤ (character bs).size → characters bs ≡ (character bs).value ∷ characters (drop (character bs).size bs)
characters_on [] some one = absurd (omega (arith, some))
characters_on (b ∷ bs) some one = ap (λ cs. (character (b ∷ bs)).value ∷ cs) (from_drop _ bs ∙ ap characters (drop_less _ b bs one))

pub no_characters : (bs : List ℕ) → length bs ≡ 0 → characters bs ≡ []
no_characters [] none = refl
no_characters (b ∷ bs) none = absurd (omega (arith, none))

several_in : (v : Option ℕ) (bs : List ℕ) → 0 < length bs → constant (v ∷ characters bs) ≡ NotOne
several_in v [] some = absurd (omega (arith, some))
several_in v (b ∷ bs) some = refl

pub several : (bs : List ℕ) (f : Character) → f ≡ character bs → 0 < length bs → 1 ≤ f.size → f.size < length bs → constant (characters bs) ≡ NotOne
several bs f is some one less =
    ap constant (characters_on bs some (omega (arith, one, ap (λ c. c.size) is)))
    ∙ several_in _ (drop (character bs).size bs) (omega (arith, less, ap (λ c. c.size) is, length-drop (character bs).size bs))

pub single : (bs : List ℕ) (f : Character) → f ≡ character bs → 0 < length bs → 1 ≤ f.size → length bs ≤ f.size → constant (characters bs) ≡ only f.value
single bs f is some one all =
    ap constant (characters_on bs some (omega (arith, one, ap (λ c. c.size) is)))
    ∙ ap (λ cs. constant ((character bs).value ∷ cs)) (no_characters (drop (character bs).size bs) (omega (arith, all, ap (λ c. c.size) is, length-drop (character bs).size bs)))
    ∙ ap (λ c. only c.value) (sym is)

values_on : (bs : List ℕ) (f : Character) → f ≡ character bs → 0 < length bs → 1 ≤ f.size → all_values (characters bs) ≡ with_first f.value (all_values (characters (drop f.size bs)))
values_on bs f is some one =
    ap all_values (characters_on bs some (omega (arith, one, ap (λ c. c.size) is))) ∙ ap (λ c. with_first c.value (all_values (characters (drop c.size bs)))) (sym is)

pub bad_value : (bs : List ℕ) (f : Character) → f ≡ character bs → 0 < length bs → 1 ≤ f.size → f.value ≡ None → all_values (characters bs) ≡ None
bad_value bs f is some one e = values_on bs f is some one ∙ ap (λ v. with_first v (all_values (characters (drop f.size bs)))) e

some_behind : (v : ℕ) (r : Option (List ℕ)) → is_some (with_first (Some v) r) ≡ is_some r
some_behind v None = refl
some_behind v (Some vs) = refl

pub right_value : (bs : List ℕ) (f : Character) (v : ℕ) → f ≡ character bs → 0 < length bs → 1 ≤ f.size → f.value ≡ Some v → is_some (all_values (characters bs)) ≡ is_some (all_values (characters (drop f.size bs)))
right_value bs f v is some one e =
    ap is_some (values_on bs f is some one ∙ ap (λ o. with_first o (all_values (characters (drop f.size bs)))) e) ∙ some_behind v _

-- the values so far, and behind them those of the rest
abbrev pub behind : List ℕ → Option (List ℕ) → Option (List ℕ)
behind out None = None
behind out (Some vs) = Some (out ++ vs)

behind_first : (out : List ℕ) (v : ℕ) (r : Option (List ℕ)) → behind out (with_first (Some v) r) ≡ behind (out ++ v ∷ []) r
behind_first out v None = refl
behind_first out v (Some vs) = ap Some (sym (append_assoc out (v ∷ []) vs))

pub value_behind : (out bs : List ℕ) (f : Character) (v : ℕ) → f ≡ character bs → 0 < length bs → 1 ≤ f.size → f.value ≡ Some v → behind out (all_values (characters bs)) ≡ behind (out ++ v ∷ []) (all_values (characters (drop f.size bs)))
value_behind out bs f v is some one e =
    ap (behind out) (values_on bs f is some one ∙ ap (λ o. with_first o (all_values (characters (drop f.size bs)))) e) ∙ behind_first out v _

pub behind_bad : (out bs : List ℕ) (f : Character) → f ≡ character bs → 0 < length bs → 1 ≤ f.size → f.value ≡ None → behind out (all_values (characters bs)) ≡ None
behind_bad out bs f is some one e = ap (behind out) (bad_value bs f is some one e)

pub behind_end : (out bs : List ℕ) → length bs ≡ 0 → behind out (all_values (characters bs)) ≡ Some out
behind_end out bs none = ap (λ cs. behind out (all_values cs)) (no_characters bs none) ∙ ap Some (append-nil out)

pub behind_nil : (r : Option (List ℕ)) → behind [] r ≡ r
behind_nil None = refl
behind_nil (Some vs) = refl

-- three bytes decide
pub mark_by_three : (text : List ℕ) → mark_front text ≡ mark_front (get_or text 0 0 ∷ get_or text 1 0 ∷ get_or text 2 0 ∷ [])
mark_by_three [] = refl
mark_by_three (a ∷ []) = refl
mark_by_three (a ∷ b ∷ []) = refl
mark_by_three (a ∷ b ∷ c ∷ rest) = refl

front_fits : (p text : List ℕ) → is_front p text ≡ true → length p ≤ length text
front_fits [] text e = omega arith
front_fits (m ∷ ms) [] e = absurd (false≢true e)
front_fits (m ∷ ms) (b ∷ bs) e = omega (arith, front_fits ms bs ((and_parts (nat_eq b m) (is_front ms bs) e).1))

first_fits_by : (t : Bool) (k m : Mark) (text : List ℕ) (rest : Option Mark) → is_front (mark_bytes k) text ≡ t → (rest ≡ Some m → length (mark_bytes m) ≤ length text) → cond t (Some k) rest ≡ Some m → length (mark_bytes m) ≤ length text
first_fits_by true k m text rest is on e = subst (λ x. length (mark_bytes x) ≤ length text) (ap (λ o. unwrap_or o k) e) (front_fits (mark_bytes k) text is)
first_fits_by false k m text rest is on e = on e

first_fits : (ms : List Mark) (text : List ℕ) (m : Mark) → first_in_front ms text ≡ Some m → length (mark_bytes m) ≤ length text
first_fits [] text m e = absurd (none-some m e)
first_fits (k ∷ ks) text m e = first_fits_by (is_front (mark_bytes k) text) k m text (first_in_front ks text) refl (λ f. first_fits ks text m f) e

pub mark_fits : (text : List ℕ) (m : Mark) → Some m ≡ mark_front text → length (mark_bytes m) ≤ length text
mark_fits text m e = first_fits marks text m (sym e)

pub front_comment : (text : List ℕ) → is_front (codes "/*") text ≡ true → front text ≡ comment_piece (comment_end false (drop 2 text))
front_comment [] e = absurd (false≢true e)
front_comment (b ∷ bs) e =
    let is : b ≡ 47 = eqb-true b 47 ((and_parts (nat_eq b 47) (is_front (42 ∷ []) bs) e).0) in
    subst (λ x. front (x ∷ bs) ≡ comment_piece (comment_end false (drop 2 (x ∷ bs)))) (sym is)
    (ap (λ t. cond t (comment_piece (comment_end false (drop 1 bs))) (mark_piece (mark_front (47 ∷ bs)))) ((and_parts (nat_eq b 47) (is_front (42 ∷ []) bs) e).1))
