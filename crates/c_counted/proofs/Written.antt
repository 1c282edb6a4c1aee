-- What is written by tokens says of each place in it that its token stands there; so complaints stand at their tokens.
use Rattle.std.proofs.Common.{◌≡◌, ℕ, suc, ◌+◌, ◌-◌, ◌≤◌, ◌<◌, List, [], ◌∷◌, length, Some, refl, sym, ap, ◌∙◌, subst, arith}
use Rattle.std.specs.Prelude.{slice_get, option_map, All, ◌^◌}
use Rattle.std.specs.List.{AllByRecursion}
use Rattle.std.proofs.lemmas.List.Elements.{All-from_recursion}
use Rattle.c_base.specs.declared.place.Pos.{Pos}
use Rattle.c_syntax.specs.declared.token.Token.{Token}
use Rattle.c_syntax.specs.declared.token.TokenKind.{TokenKind}
use Rattle.c_syntax.specs.Forms.{Form, nothing, is, at, starts, seq, a_token, no_token, head, place, last_place, Written}
use Rattle.c_syntax.specs.Grammar.{unit_form, Placed}
use Rattle.c_syntax.specs.Shape.{UnitShape}
use Rattle.c_syntax.specs.Shaped.{ShapedUnit}
use Rattle.c_tree.specs.declared.meaning.Complaint.{Complaint}
use Rattle.c_tree.specs.Units.{bodies, complaints}
use Rattle.c_counted.specs.Places.{place_of_token, IsAtItsToken, CanBeCounted}
use Rattle.c_counted.proofs.Counting.{behind, kept, Stands, Fine}
use Rattle.c_counted.proofs.Adding.{count_kinds}
use Rattle.c_counted.proofs.Counted.{behind_count}
use Rattle.c_counted.proofs.Units.{unit_some, unit_held}

-- the place of a token of these, by its number
abbrev pub At : List Token → ℕ → Pos → Type 0
At all n p = place_of_token all n ≡ Some p

-- those are the tokens from that number on
pub record From (all : List Token) (n : ℕ) (ts : List Token) : Type 0 where
  pub same : (i : ℕ) → slice_get all (n + i) ≡ slice_get ts i
  pub whole : n + length ts ≡ length all

one_on : (all : List Token) (n : ℕ) (t : Token) (ts : List Token) → From all n (t ∷ ts) → From all (n + 1) ts
one_on all n t ts f = record {
  same = λ i. ap (slice_get all) (let e : n + 1 + i ≡ n + suc i = omega arith in e) ∙ f.same (suc i);
  whole = omega (arith, f.whole);
}

from_here : (all : List Token) (n : ℕ) (t : Token) (ts : List Token) → length all < 2 ^ 32 → From all n (t ∷ ts) → At all (kept n) t.pos
from_here all n t ts l f =
    let e : kept n ≡ n + 0 = omega (arith, l, f.whole) in
    ap (option_map (λ u. u.pos)) (ap (slice_get all) e ∙ f.same 0)

-- a token of that kind comes first
token_on : (all : List Token) (n : ℕ) (ts : List Token) (k : TokenKind) (rest : List Token) → head ts ≡ a_token k rest → From all n ts → From all (n + 1) rest
token_on all n [] k rest e f = absurd (let h : no_token ≡ a_token k rest = e in cc)
token_on all n (t ∷ ts) k rest e f = subst (From all (n + 1)) (let same : ts ≡ rest = cc in same) (one_on all n t ts f)

place_on : (all : List Token) (n : ℕ) (p : Pos) (ts : List Token) (k : TokenKind) (rest : List Token) → length all < 2 ^ 32 → p ≡ place ts → head ts ≡ a_token k rest → From all n ts → At all (kept n) p
place_on all n p [] k rest l q e f = absurd (let h : no_token ≡ a_token k rest = e in cc)
place_on all n p (t ∷ ts) k rest l q e f = from_here all n t ts l f ∙ ap (λ x. Some x) (sym q)

-- what begins there has a first token
begin_on : (all : List Token) (n m : ℕ) (p : Pos) (ts rest : List Token) → length all < 2 ^ 32 → p ≡ place ts → From all n ts → From all m rest → n + 1 ≤ m → At all (kept n) p
begin_on all n m p [] rest l q f g i = absurd (omega (arith, f.whole, g.whole, i))
begin_on all n m p (t ∷ ts) rest l q f g i = from_here all n t ts l f ∙ ap (λ x. Some x) (sym q)

pub written_from : (all : List Token) (n : ℕ) (f : Form) (ts rest : List Token) → Written f ts rest → From all n ts → From all (behind n f) rest
written_from all n nothing ts rest w f = subst (From all n) w f
written_from all n (is k) ts rest w f = token_on all n ts k rest w f
written_from all n (at p k) ts rest w f = token_on all n ts k rest w.1 f
written_from all n (starts p g) ts rest w f = written_from all n g ts rest w.1 f
written_from all n (seq g h) ts rest w f = written_from all (behind n g) h w.middle rest w.second (written_from all n g ts w.middle w.first f)

pub written_stands : (all : List Token) (n : ℕ) (f : Form) (ts rest : List Token) → length all < 2 ^ 32 → Written f ts rest → From all n ts → Stands (At all) n f
written_stands all n nothing ts rest l w f = tt
written_stands all n (is k) ts rest l w f = tt
written_stands all n (at p k) ts rest l w f = place_on all n p ts k rest l w.0 w.1 f
written_stands all n (starts p g) ts rest l w f =
    (begin_on all n (behind n g) p ts rest l w.0 f (written_from all n g ts rest w.1 f), written_stands all n g ts rest l w.1 f)
written_stands all n (seq g h) ts rest l w f =
    (written_stands all n g ts w.middle l w.first f, written_stands all (behind n g) h w.middle rest l w.second (written_from all n g ts w.middle w.first f))

-- ---- units

last_at : (t : Token) (ts : List Token) → At (t ∷ ts) (length ts) (last_place (t ∷ ts))
last_at t [] = refl
last_at t (u ∷ ts) = last_at u ts

last_of : (ts : List Token) (n : ℕ) → n ≡ length ts → 1 ≤ n → At ts (n - 1) (last_place ts)
last_of [] n e i = absurd (omega (arith, e, i))
last_of (t ∷ ts) n e i = subst (λ k. At (t ∷ ts) k (last_place (t ∷ ts))) (let d : length ts ≡ n - 1 = omega (arith, e) in d) (last_at t ts)

fine_each : (ts : List Token) (cs : List Complaint) → Fine (At ts) cs → AllByRecursion (IsAtItsToken ts) cs
fine_each ts [] h = tt
fine_each ts (c ∷ cs) h = (h.0, fine_each ts cs h.1)

pub complaints_at_tokens : (u : UnitShape) (ts : List Token) → ShapedUnit u → CanBeCounted u → Placed u ts → All (IsAtItsToken ts) (complaints u)
complaints_at_tokens u ts e few p =
    let n = behind 0 (unit_form u) in
    let f : From ts 0 ts = record { same = λ i. ap (slice_get ts) (let z : 0 + i ≡ i = omega arith in z); whole = omega arith } in
    let g = written_from ts 0 (unit_form u) ts [] p.written f in
    let l : length ts < 2 ^ 32 = omega (arith, few, g.whole, behind_count 0 (unit_form u), count_kinds (unit_form u)) in
    let k : kept n ≡ length ts = omega (arith, l, g.whole) in
    let i : 1 ≤ kept n = omega (arith, unit_some u e, l, g.whole) in
    let x = subst (λ q. At ts (kept n - 1) q) (sym p.last) (last_of ts (kept n) k i) in
    let h = unit_held (Some (bodies u)) u e (written_stands ts 0 (unit_form u) ts [] l p.written f) x in
    All-from_recursion (IsAtItsToken ts) (complaints u) (fine_each ts (complaints u) h.fine)
