-- What a number in decimal is worth.
use Rattle.std.proofs.Common.{◌≡◌, ◌≢◌, ℕ, ◌^◌, zero, suc, ◌<◌, ◌≤◌, List, length, get_or, Result, Ok, Err, Option, Some, None, Bool, true, false, refl, sym, ap, ◌∙◌, subst, arith, cond}
use Rattle.std.proofs.lemmas.Bool.{leb-true, le-leb}
use Rattle.std.proofs.lemmas.Slice.Eq.{bytes_eq-Decides}
use Rattle.std.proofs.lemmas.Fmt.{decimal_is_IsNumeral, decimal_nonempty, decimal_digit, first_decimal, parse-decimal, decimal-digits_value}
use Rattle.std.proofs.lemmas.Str.Parse.{IsNumeralModel, numerals_by_value, tells_digits, parse_plain}
use Rattle.std.specs.Prelude.{leb, ◌&&◌, bytes_eq}
use Rattle.std.specs.Fmt.{decimal}
use Rattle.std.specs.Str.Parse.{digits_value, AllDigits, ParsesUnsigned}
use Rattle.atac_words.specs.Words.{number_in}

own : IsNumeralModel (AllDigits 10) (digits_value 10)
own = numerals_by_value (AllDigits 10) tells_digits

-- a word that is a number of so many at the most
record IsNumber (most : ℕ) (word : List ℕ) (n : ℕ) : Type 0 where
  is : word ≡ decimal n
  some : 1 ≤ n
  few : n ≤ most

module _ (most : ℕ) (small : most < 2 ^ 64) where
  abbrev value_if : Bool → Bool → Bool → ℕ → Option ℕ
  value_if a b c v = cond (a && (b && c)) (Some v) None

  value_is : (t : List ℕ) (w v : ℕ) (a b c : Bool) → bytes_eq t (decimal w) ≡ a → leb 1 w ≡ b → leb w most ≡ c → value_if a b c w ≡ Some v → IsNumber most t v
  value_is t w v true true true e l m h =
      let same : w ≡ v = cc in
      let t_is : t ≡ decimal w = (bytes_eq-Decides t (decimal w)).0 e in
      let low : 1 ≤ w = leb-true 1 w l in
      let high : w ≤ most = leb-true w most m in
      record { is = t_is ∙ ap decimal same; some = omega (arith, same, low, small); few = omega (arith, same, high) }
  value_is t w v true true false e l m h = absurd (let x : None ≡ Some v = h in cc)
  value_is t w v true false c e l m h = absurd (let x : None ≡ Some v = h in cc)
  value_is t w v false b c e l m h = absurd (let x : None ≡ Some v = h in cc)

  limit_is : (t : List ℕ) (v : ℕ) → number_in most t ≡ Some v → IsNumber most t v
  unfolding number_in
  limit_is t v h = value_is t (digits_value 10 t) v (bytes_eq t (decimal (digits_value 10 t))) (leb 1 (digits_value 10 t)) (leb (digits_value 10 t) most) refl refl refl h

  is_number_of : (t : List ℕ) (v : ℕ) → IsNumber most t v → number_in most t ≡ Some v
  unfolding number_in
  is_number_of t v h =
      let worth : digits_value 10 t ≡ v = ap (digits_value 10) h.is ∙ (decimal_is_IsNumeral v (omega (arith, h.few, small))).1 in
      let same : bytes_eq t (decimal v) ≡ true = (bytes_eq-Decides t (decimal v)).1 h.is in
      ap (λ w. value_if (bytes_eq t (decimal w)) (leb 1 w) (leb w most) w) worth
      ∙ ap (λ a. value_if a (leb 1 v) (leb v most) v) same
      ∙ ap (λ b. value_if true b (leb v most) v) (le-leb 1 v h.some)
      ∙ ap (λ c. value_if true true c v) (le-leb v most h.few)

  -- WHAT THE CODE FINDS

  none_at : (t : List ℕ) → ((v : ℕ) → IsNumber most t v → ⊥) → (o : Option ℕ) → number_in most t ≡ o → o ≡ None
  none_at t never None e = refl
  none_at t never (Some v) e = absurd (never v (limit_is t v e))

  no_limit : (t : List ℕ) → ((v : ℕ) → IsNumber most t v → ⊥) → None ≡ number_in most t
  no_limit t never = sym (none_at t never (number_in most t) refl)

  -- its first byte is neither a sign nor a zero
  first_of : (t : List ℕ) (v : ℕ) → IsNumber most t v → 48 < get_or t 0 0
  first_of t v h = let same : get_or t 0 0 ≡ get_or (decimal v) 0 0 = ap (λ l. get_or l 0 0) h.is in let first = first_decimal v h.some (omega (arith, h.few, small)) in omega (arith, same, first)

  pub empty_none : (t : List ℕ) → length t ≡ 0 → None ≡ number_in most t
  empty_none t e = no_limit t (λ v h. let some : 0 < length (decimal v) = decimal_nonempty v (omega (arith, h.few, small)) in let same : length t ≡ length (decimal v) = ap length h.is in omega (arith, e, some, same))

  pub plus_none : (t : List ℕ) → get_or t 0 0 ≡ 43 → None ≡ number_in most t
  plus_none t e = no_limit t (λ v h. let first = first_of t v h in omega (arith, e, first))

  pub zero_none : (t : List ℕ) → get_or t 0 0 ≡ 48 → None ≡ number_in most t
  zero_none t e = no_limit t (λ v h. let first = first_of t v h in omega (arith, e, first))

  pub parse_none : {E : Type 0} (t bs : List ℕ) (r : Result ℕ E) (e : E) → bs ≡ t → ParsesUnsigned 64 10 bs r → r ≡ Err e → None ≡ number_in most t
  parse_none t bs r e s p q = no_limit t (λ v h. let x : r ≡ Ok v = parse-decimal 64 v bs r (omega (arith, h.few, small)) (omega (arith, h.few, small)) (s ∙ h.is) p in cc)

  pub large_none : {E : Type 0} (t bs : List ℕ) (r : Result ℕ E) (w : ℕ) → bs ≡ t → ParsesUnsigned 64 10 bs r → r ≡ Ok w → most < w → None ≡ number_in most t
  large_none t bs r w s p q large = no_limit t (λ v h. let x : r ≡ Ok v = parse-decimal 64 v bs r (omega (arith, h.few, small)) (omega (arith, h.few, small)) (s ∙ h.is) p in let y : w ≡ v = cc in let few = h.few in omega (arith, y, few, large))

  -- digits that don't begin with a zero are worth one or more
  pub parse_some : {E : Type 0} (t bs : List ℕ) (r : Result ℕ E) (w : ℕ) → bs ≡ t → ParsesUnsigned 64 10 bs r → r ≡ Ok w → get_or t 0 0 ≢ 43 → get_or t 0 0 ≢ 48 → w ≤ most → Some w ≡ number_in most t
  parse_some {E} t bs r w s p q plain first low =
      let o : Result ℕ E = Ok w in
      let here : ParsesUnsigned 64 10 t o = subst (λ x. ParsesUnsigned 64 10 t x) q (subst (λ l. ParsesUnsigned 64 10 l r) s p) in
      let d = parse_plain own 64 t o here plain in
      let same : w ≡ digits_value 10 t = d.1 in
      let back : decimal (digits_value 10 t) ≡ t = decimal-digits_value own t d.0.0 d.0.1 (λ e. absurd (first e)) (omega (arith, same, low, small)) in
      let is : t ≡ decimal w = sym back ∙ ap decimal (sym same) in
      sym (is_number_of t w (record { is = is; some = positive w is; few = low }))
    where
      positive : (n : ℕ) → t ≡ decimal n → 1 ≤ n
      positive zero is = absurd (first (ap (λ l. get_or l 0 0) (is ∙ decimal_digit 0 (omega arith))))
      positive (suc n) is = omega arith
