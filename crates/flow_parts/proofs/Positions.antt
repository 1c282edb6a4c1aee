-- From positions of events to where a list of events is cut; and the laws of what is covered.
use Rattle.std.proofs.Common.{ℕ, zero, suc, ◌+◌, ◌-◌, ◌++◌, ◌≡◌, List, [], ◌∷◌, refl, sym, ap, ◌∙◌, append_assoc, length, slice_get, arith, Some}
use Rattle.c_events.specs.declared.events.Cell.{Cell}
use Rattle.c_events.specs.declared.events.Event.{Event}
use Rattle.c_events.specs.declared.events.Event.TheVariants as event
use Rattle.cover_parts.specs.Covered.{Reaches}
use Rattle.flow_calls.specs.Pairs.{HasPair}
use Rattle.flow_parts.specs.Parts.{CoveredPartsAreListed, CoveredPartPUsesAreListed}
use Rattle.flow_parts.proofs.Laws.{part_pairs_are_listed}

-- a list at a position: what stands before it, as long as that, and behind it
record Split (es : List Event) (h : ℕ) (x : Event) : Type 0 where
  pre : List Event
  rest : List Event
  is : es ≡ pre ++ x ∷ rest
  long : length pre ≡ h

some_event : (x y : Event) → Some x ≡ Some y → x ≡ y
some_event x y e = cc

split : (es : List Event) (h : ℕ) (x : Event) → slice_get es h ≡ Some x → Split es h x
split [] h x e = cc
split (y ∷ es) zero x e = record { pre = []; rest = es; is = ap (λ z. z ∷ es) (some_event y x e); long = refl }
split (y ∷ es) (suc h) x e = let s = split es h x e in record { pre = y ∷ s.pre; rest = s.rest; is = ap (λ l. y ∷ l) s.is; long = ap suc s.long }

-- the element behind a front of that length, and those behind it
at_length : (xs : List Event) (y : Event) (ys : List Event) (n : ℕ) → length xs ≡ n → slice_get (xs ++ y ∷ ys) n ≡ Some y
at_length [] y ys zero e = refl
at_length [] y ys (suc n) e = absurd (omega (arith, e))
at_length (x ∷ xs) y ys zero e = absurd (omega (arith, e))
at_length (x ∷ xs) y ys (suc n) e = at_length xs y ys n (omega (arith, e))

past_length : (xs : List Event) (y : Event) (ys : List Event) (k : ℕ) → slice_get (xs ++ y ∷ ys) (suc (length xs + k)) ≡ slice_get ys k
past_length [] y ys k = ap (slice_get ys) (omega arith)
past_length (x ∷ xs) y ys k = ap (slice_get (xs ++ y ∷ ys)) (omega arith) ∙ past_length xs y ys k

lengths : (xs : List Event) (y : Event) (ys : List Event) → length (xs ++ y ∷ ys) ≡ suc (length xs + length ys)
lengths [] y ys = omega arith
lengths (x ∷ xs) y ys = let e = lengths xs y ys in omega (arith, e)

pair_from : (es : List Event) (d u : ℕ) (c : Cell) (a h i : ℕ) → Reaches es d u c a h i → HasPair es d u
pair_from es d u c a h i r =
    let D = event.Def d c in
    let U = event.Use u c a in
    let s = split es h D r.defined in
    let k = i - suc h in
    let lt = r.before in
    let l = s.long in
    let there : slice_get s.rest k ≡ Some U =
    sym (past_length s.pre D s.rest k) ∙ ap (λ (n : ℕ). slice_get (s.pre ++ D ∷ s.rest) n) (omega (arith, lt, l)) ∙ ap (λ z. slice_get z i) (sym s.is) ∙ r.used in
    let t = split s.rest k U there in
    record {
      cell = c;
      user = a;
      pre = s.pre;
      mid = t.pre;
      post = t.rest;
      is = s.is ∙ ap (λ z. s.pre ++ D ∷ z) t.is;
      none = λ p q e m.
          let E = event.Def e c in
          let j = suc (h + length p) in
          let at : es ≡ (s.pre ++ D ∷ p) ++ E ∷ (q ++ U ∷ t.rest) =
          s.is ∙ ap (λ z. s.pre ++ D ∷ z) (t.is ∙ ap (λ z. z ++ U ∷ t.rest) m ∙ append_assoc p (E ∷ q) (U ∷ t.rest)) ∙ sym (append_assoc s.pre (D ∷ p) (E ∷ (q ++ U ∷ t.rest))) in
          let long : length (s.pre ++ D ∷ p) ≡ j = lengths s.pre D p ∙ ap (λ (n : ℕ). suc (n + length p)) l in
          let short : length t.pre ≡ k = t.long in
          let size = ap length m in
          let parts = lengths p E q in
          r.kept j e (omega arith) (omega (arith, lt, short, size, parts)) (ap (λ z. slice_get z j) at ∙ at_length (s.pre ++ D ∷ p) E (q ++ U ∷ t.rest) j long);
    }

pub covered_parts : CoveredPartsAreListed
covered_parts P has owner input limit d u v r dv ur same g = part_pairs_are_listed P has input limit d u v r dv ur same (pair_from _ d u g.0 g.1 g.2 g.3 g.4)

pub covered_part_p_uses : CoveredPartPUsesAreListed
covered_part_p_uses P has owner input limit d u o v r dv ur same g = part_pairs_are_listed P has input limit d u v r dv ur same (pair_from _ d u g.2.0 g.2.1 g.2.2 g.2.3 g.2.5)
