-- Lines of runs, one after the other.
use Rattle.std.proofs.Common.{◌≡◌, ℕ, zero, suc, ◌+◌, ◌<◌, Bool, List, [], ◌∷◌, ◌++◌, length, get_or, drop, map, sym, ap, ◌∙◌, append_assoc, arith, Some, slice_get, String, string_bytes, add-one}
use Rattle.std.specs.declared.alloc.Global.{Global}
use Rattle.run_pick.specs.Lines.{kept_word, kept_line, kept_lines}

lines_at : (marks : List Bool) (names : List (String Global)) (i : ℕ) (mark : Bool) (name : String Global) → slice_get marks i ≡ Some mark → i < length names → name ≡ get_or names i name → kept_lines (drop i marks) (map string_bytes (drop i names)) ≡ kept_line mark (string_bytes name) ++ kept_lines (drop (suc i) marks) (map string_bytes (drop (suc i) names))
lines_at [] names i mark name m l n = cc
lines_at (x ∷ marks) [] i mark name m l n = absurd (omega (arith, l))
lines_at (x ∷ marks) (y ∷ names) zero mark name m l n = cc
lines_at (x ∷ marks) (y ∷ names) (suc i) mark name m l n = lines_at marks names i mark name m (omega (arith, l)) n

-- one line more
pub next_line : (marks : List Bool) (names : List (String Global)) (i : ℕ) (mark : Bool) (name : String Global) (t u word text all : List ℕ) → slice_get marks i ≡ Some mark → i < length names → name ≡ get_or names i name → word ≡ kept_word mark → text ≡ string_bytes name → u ≡ t ++ (word ++ (text ++ 10 ∷ [])) → t ++ kept_lines (drop i marks) (map string_bytes (drop i names)) ≡ all → u ++ kept_lines (drop (i + 1) marks) (map string_bytes (drop (i + 1) names)) ≡ all
next_line marks names i mark name t u word text all m l n w x put kept =
    let here : kept_lines (drop i marks) (map string_bytes (drop i names)) ≡ kept_line mark (string_bytes name) ++ kept_lines (drop (i + 1) marks) (map string_bytes (drop (i + 1) names)) = lines_at marks names i mark name m l n ∙ ap (λ j. kept_line mark (string_bytes name) ++ kept_lines (drop j marks) (map string_bytes (drop j names))) (sym (add-one i)) in
    let line : word ++ (text ++ 10 ∷ []) ≡ kept_line mark (string_bytes name) = ap (λ s. s ++ (text ++ 10 ∷ [])) w ∙ ap (λ s. kept_word mark ++ (s ++ 10 ∷ [])) x in
    ap (λ s. s ++ kept_lines (drop (i + 1) marks) (map string_bytes (drop (i + 1) names))) (put ∙ ap (λ s. t ++ s) line)
    ∙ append_assoc t (kept_line mark (string_bytes name)) _ ∙ ap (λ s. t ++ s) (sym here) ∙ kept
