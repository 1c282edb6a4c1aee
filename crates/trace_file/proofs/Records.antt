-- A record that is read is the record that was written, and what was written is read again.
use Rattle.std.proofs.Common.{◌≡◌, ℕ, ◌+◌, ◌^◌, ◌<◌, ◌≤◌, Bool, true, false, List, [], ◌∷◌, ◌++◌, length, take, drop, refl, sym, ap, ◌∙◌, append_assoc, arith, inl, inr}
use Rattle.std.proofs.Math.Seq.{take-add}
use Rattle.std.proofs.lemmas.Bool.{cases_lt}
use Rattle.std.proofs.lemmas.List.{append-nil, length-append, length-take, length-drop, get_or-drop, get_or-take, get_or_past}
use Rattle.std.proofs.lemmas.Nat.{be_bytes_2, be_bytes_4}
use Rattle.byteorder.specs.Endian.{big_bytes, big_number}
use Rattle.byteorder.specs.Numbers.{big_number-reads_back, big_from-lt}
use Rattle.atac_facts.specs.declared.fact.Fact.{Fact}
use Rattle.atac_facts.specs.declared.fact.Fact.TheVariants.{Block, Outcome, Pair, PUse}
use Rattle.atac_facts.specs.declared.tally.Counted.{Counted}
use Rattle.trace_file.specs.declared.kind.Kind.{Kind}
use Rattle.trace_file.specs.declared.kind.Kind.TheVariants.{Blocks, Outcomes, Pairs, PUses}
use Rattle.trace_file.specs.Layout.{kind_of, numbers, count_bytes, record_of, size, size_of_numbers}
use Rattle.trace_file.specs.Sound.{SoundFact, SoundRow}
pub use Rattle.trace_file.specs.Lists.{IsBytes}
use Rattle.trace_file.specs.Reading.{fact_at, count_at, row_at}

pub IsBytes-drop : (n : ℕ) (bytes : List ℕ) → IsBytes bytes → IsBytes (drop n bytes)
IsBytes-drop n bytes h i = rw get_or-drop (h (n + i))

pub IsBytes-take : (n : ℕ) (bytes : List ℕ) → IsBytes bytes → IsBytes (take n bytes)
IsBytes-take n bytes h i =
    elim (cases_lt i n) [
      | inl lt ↦ rw (get_or-take n bytes i 0 lt) (h i)
      | inr le ↦ rw (get_or_past (take n bytes) i 0 (omega (arith, length-take n bytes))) (omega arith)
    ]

-- ---- numbers

pub back2 : (bytes : List ℕ) → IsBytes bytes → 2 ≤ length bytes → big_bytes 2 (big_number 2 bytes) ≡ take 2 bytes
back2 [] fits long = absurd (omega arith)
back2 (a ∷ []) fits long = absurd (omega arith)
back2 (a ∷ b ∷ rest) fits long =
    be_bytes_2 (a ∷ b ∷ []) (big_number 2 (a ∷ b ∷ rest)) refl (IsBytes-take 2 (a ∷ b ∷ rest) fits) (omega arith)

pub back4 : (bytes : List ℕ) → IsBytes bytes → 4 ≤ length bytes → big_bytes 4 (big_number 4 bytes) ≡ take 4 bytes
back4 [] fits long = absurd (omega arith)
back4 (a ∷ []) fits long = absurd (omega arith)
back4 (a ∷ b ∷ []) fits long = absurd (omega arith)
back4 (a ∷ b ∷ c ∷ []) fits long = absurd (omega arith)
back4 (a ∷ b ∷ c ∷ d ∷ rest) fits long =
    be_bytes_4 (a ∷ b ∷ c ∷ d ∷ []) (big_number 4 (a ∷ b ∷ c ∷ d ∷ rest)) refl (IsBytes-take 4 (a ∷ b ∷ c ∷ d ∷ rest) fits) (omega arith)

pub below4 : (bytes : List ℕ) → IsBytes bytes → big_number 4 bytes < 2 ^ 32
below4 bytes fits = big_from-lt 0 4 bytes fits

pub again2 : (n : ℕ) (rest : List ℕ) → n < 65536 → big_number 2 (big_bytes 2 n ++ rest) ≡ n
again2 n rest lt = big_number-reads_back 2 n rest lt

pub again4 : (n : ℕ) (rest : List ℕ) → n < 2 ^ 32 → big_number 4 (big_bytes 4 n ++ rest) ≡ n
again4 n rest lt = big_number-reads_back 4 n rest lt

-- ---- what was read is spelled so

numbers_back : (kind : Kind) (bytes : List ℕ) → IsBytes bytes → size_of_numbers kind ≤ length bytes → numbers (fact_at kind bytes) ≡ take (size_of_numbers kind) bytes
numbers_back Blocks bytes fits long = back2 bytes fits long
numbers_back Outcomes bytes fits long =
    let len = length-drop 2 bytes in
    let first = back2 bytes fits (omega arith) in
    let second = back4 (drop 2 bytes) (IsBytes-drop 2 bytes fits) (omega arith) in
    ap (λ (x : List ℕ). x ++ big_bytes 4 (big_number 4 (drop 2 bytes))) first ∙ ap (λ (x : List ℕ). take 2 bytes ++ x) second ∙ sym (take-add 2 4 bytes)
numbers_back Pairs bytes fits long =
    let len = length-drop 2 bytes in
    let first = back2 bytes fits (omega arith) in
    let second = back2 (drop 2 bytes) (IsBytes-drop 2 bytes fits) (omega arith) in
    ap (λ (x : List ℕ). x ++ big_bytes 2 (big_number 2 (drop 2 bytes))) first ∙ ap (λ (x : List ℕ). take 2 bytes ++ x) second ∙ sym (take-add 2 2 bytes)
numbers_back PUses bytes fits long =
    let len2 = length-drop 2 bytes in
    let len4 = length-drop 4 bytes in
    let first = back2 bytes fits (omega arith) in
    let second = back2 (drop 2 bytes) (IsBytes-drop 2 bytes fits) (omega arith) in
    let third = back4 (drop 4 bytes) (IsBytes-drop 4 bytes fits) (omega arith) in
    ap (λ (x : List ℕ). x ++ (big_bytes 2 (big_number 2 (drop 2 bytes)) ++ big_bytes 4 (big_number 4 (drop 4 bytes)))) first
    ∙ ap (λ (x : List ℕ). take 2 bytes ++ (x ++ big_bytes 4 (big_number 4 (drop 4 bytes)))) second
    ∙ ap (λ (x : List ℕ). take 2 bytes ++ (take 2 (drop 2 bytes) ++ x)) third
    ∙ sym (append_assoc (take 2 bytes) (take 2 (drop 2 bytes)) (take 4 (drop 4 bytes)))
    ∙ ap (λ (x : List ℕ). x ++ take 4 (drop 4 bytes)) (sym (take-add 2 2 bytes))
    ∙ sym (take-add 4 4 bytes)

pub row_back : (counted : Bool) (kind : Kind) (bytes : List ℕ) → IsBytes bytes → size counted kind ≤ length bytes → record_of counted (row_at counted kind bytes) ≡ take (size counted kind) bytes
row_back true kind bytes fits long =
    let n = size_of_numbers kind in
    let len = length-drop n bytes in
    let first = numbers_back kind bytes fits (omega arith) in
    let second = back4 (drop n bytes) (IsBytes-drop n bytes fits) (omega arith) in
    ap (λ (x : List ℕ). x ++ big_bytes 4 (big_number 4 (drop n bytes))) first ∙ ap (λ (x : List ℕ). take n bytes ++ x) second ∙ sym (take-add n 4 bytes)
row_back false kind bytes fits long = simp append-nil (numbers_back kind bytes fits long)

pub kind_at : (kind : Kind) (bytes : List ℕ) → kind_of (fact_at kind bytes) ≡ kind
kind_at Blocks bytes = refl
kind_at Outcomes bytes = refl
kind_at Pairs bytes = refl
kind_at PUses bytes = refl

-- ---- what was written is read again

-- where no count is written it is 1
abbrev pub IsWritten : Bool → ℕ → Type 0
IsWritten true n = Unit {0}
IsWritten false n = n ≡ 1

fact_again : (f : Fact) (rest : List ℕ) → SoundFact f → fact_at (kind_of f) (numbers f ++ rest) ≡ f
fact_again (Block k) rest sound = ap Block (again2 k rest (omega arith))
fact_again (Outcome k o) rest sound =
    let a = again2 k (big_bytes 4 o ++ rest) (omega arith) in
    let b = again4 o rest (omega arith) in
    ap (λ (x : ℕ). Outcome x (big_number 4 (big_bytes 4 o ++ rest))) a ∙ ap (Outcome k) b
fact_again (Pair d u) rest sound =
    let a = again2 d (big_bytes 2 u ++ rest) (omega arith) in
    let b = again2 u rest (omega arith) in
    ap (λ (x : ℕ). Pair x (big_number 2 (big_bytes 2 u ++ rest))) a ∙ ap (Pair d) b
fact_again (PUse d u o) rest sound =
    let a = again2 d (big_bytes 2 u ++ (big_bytes 4 o ++ rest)) (omega arith) in
    let b = again2 u (big_bytes 4 o ++ rest) (omega arith) in
    let c = again4 o rest (omega arith) in
    ap (λ (x : ℕ). PUse x (big_number 2 (big_bytes 2 u ++ (big_bytes 4 o ++ rest))) (big_number 4 (big_bytes 4 o ++ rest))) a
    ∙ ap (λ (x : ℕ). PUse d x (big_number 4 (big_bytes 4 o ++ rest))) b ∙ ap (PUse d u) c

drop_numbers : (f : Fact) (rest : List ℕ) → drop (size_of_numbers (kind_of f)) (numbers f ++ rest) ≡ rest
drop_numbers (Block k) rest = refl
drop_numbers (Outcome k o) rest = refl
drop_numbers (Pair d u) rest = refl
drop_numbers (PUse d u o) rest = refl

count_again : (counted : Bool) (n : ℕ) (rest : List ℕ) → n < 2 ^ 32 → IsWritten counted n → count_at counted (count_bytes counted n ++ rest) ≡ n
count_again true n rest lt written = again4 n rest lt
count_again false n rest lt written = sym written

pub row_again : (counted : Bool) (row : Counted) (rest : List ℕ) → SoundRow row → IsWritten counted row.count → row_at counted (kind_of row.fact) (record_of counted row ++ rest) ≡ row
row_again counted row rest sound written =
    let regrouped : record_of counted row ++ rest ≡ numbers row.fact ++ (count_bytes counted row.count ++ rest) = append_assoc (numbers row.fact) (count_bytes counted row.count) rest in
    let fact-is : fact_at (kind_of row.fact) (record_of counted row ++ rest) ≡ row.fact = ap (fact_at (kind_of row.fact)) regrouped ∙ fact_again row.fact (count_bytes counted row.count ++ rest) sound.0 in
    let left : drop (size_of_numbers (kind_of row.fact)) (record_of counted row ++ rest) ≡ count_bytes counted row.count ++ rest = ap (drop (size_of_numbers (kind_of row.fact))) regrouped ∙ drop_numbers row.fact (count_bytes counted row.count ++ rest) in
    let count-is : count_at counted (drop (size_of_numbers (kind_of row.fact)) (record_of counted row ++ rest)) ≡ row.count = ap (count_at counted) left ∙ count_again counted row.count rest (omega arith) written in
    let made : Fact → ℕ → Counted = λ f n. record { fact = f; count = n } in
    ap (λ (f : Fact). made f (count_at counted (drop (size_of_numbers (kind_of row.fact)) (record_of counted row ++ rest)))) fact-is ∙ ap (made row.fact) count-is

len_numbers : (f : Fact) → length (numbers f) ≡ size_of_numbers (kind_of f)
len_numbers (Block k) = refl
len_numbers (Outcome k o) = refl
len_numbers (Pair d u) = refl
len_numbers (PUse d u o) = refl

pub len_record : (counted : Bool) (row : Counted) → length (record_of counted row) ≡ size counted (kind_of row.fact)
len_record true row =
    length-append (numbers row.fact) (big_bytes 4 row.count) ∙ ap (λ (n : ℕ). n + 4) (len_numbers row.fact)
len_record false row =
    ap length (append-nil (numbers row.fact)) ∙ len_numbers row.fact
