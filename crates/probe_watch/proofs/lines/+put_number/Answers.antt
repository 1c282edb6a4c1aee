-- A number's last digit stands behind the others.
use Rattle.std.proofs.Common.{◌≡◌, ◌++◌, ℕ, ◌+◌, ◌%◌, ◌/◌, ◌<◌, ◌≤◌, ◌^◌, List, [], ◌∷◌, sym, ap, ◌∙◌, append_assoc, arith}
use Rattle.std.proofs.lemmas.Fmt.{decimal_step, decimal_digit}
use Rattle.std.specs.Fmt.{decimal}
use Rattle.probe_watch.proofs.lines.+put_number.Goals.{then-n-ge10+in_ok-put_number, else-n-ge10}
use Rattle.probe_watch.proofs.lines.+put_number.Goals as goal

behind : (old new out : List ℕ) (n : ℕ) → 10 ≤ n → n < 2 ^ 64 → new ≡ old ++ decimal (n / 10) → out ≡ new ++ (48 + n % 10) ∷ [] → out ≡ old ++ decimal n
behind old new out n ten fits e f = f ∙ ap (λ x. x ++ (48 + n % 10) ∷ []) e ∙ append_assoc old (decimal (n / 10)) ((48 + n % 10) ∷ []) ∙ ap (λ x. old ++ x) (sym (decimal_step n ten fits))

alone : (old out : List ℕ) (n : ℕ) → n < 10 → out ≡ old ++ (48 + n % 10) ∷ [] → out ≡ old ++ decimal n
alone old out n small e = let m : n % 10 ≡ n = omega arith in e ∙ ap (λ d. old ++ (48 + d) ∷ []) m ∙ ap (λ x. old ++ x) (sym (decimal_digit n small))

pub returns-clause-whole : goal.returns-clause-whole
returns-clause-whole t c =
    let at_end = c.in_ok-push.ensures.items in
    elim c.if-n-ge10.branch [
      | then-n-ge10+in_ok-put_number w ↦ behind _ c.if-n-ge10.text.items _ c.args.n w.if-n-ge10.true (omega arith) (ap (λ v. v.items) w.text-is ∙ w.in_ok-put_number.ensures.whole) at_end
      | else-n-ge10 w ↦ alone _ _ c.args.n w.if-n-ge10.false (at_end ∙ ap (λ v. v.items ++ (48 + c.args.n % 10) ∷ []) w.text-is)
    ]
