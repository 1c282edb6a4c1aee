-- Lists of records that are read and written, and the four lists of a tally.
use Rattle.std.proofs.Common.{◌≡◌, ℕ, zero, suc, ◌+◌, ◌*◌, ◌^◌, ◌≤◌, Bool, true, false, cond, List, [], ◌∷◌, ◌++◌, length, take, drop, refl, sym, ap, ◌∙◌, append_assoc, arith}
use Rattle.std.specs.List.{flat_map, AllByRecursion}
use Rattle.std.proofs.Math.Seq.{take-add}
use Rattle.std.proofs.lemmas.List.{length-append, length-drop, drop_at}
use Rattle.atac_facts.specs.declared.fact.Fact.{Fact}
use Rattle.atac_facts.specs.declared.fact.Fact.TheVariants.{Block, Outcome, Pair, PUse}
use Rattle.atac_facts.specs.declared.tally.Counted.{Counted}
use Rattle.atac_facts.specs.Facts.{rank}
use Rattle.trace_file.specs.declared.kind.Kind.{Kind}
use Rattle.trace_file.specs.declared.kind.Kind.TheVariants.{Blocks, Outcomes, Pairs, PUses}
use Rattle.trace_file.specs.Layout.{kind_of, same_kind, record_of, size, rows_in}
use Rattle.trace_file.specs.Sound.{SoundFact, SoundRow, Orderly}
use Rattle.trace_file.specs.Reading.{row_at, rows_at}
use Rattle.trace_file.proofs.Records.{IsBytes, IsBytes-drop, row_back, row_again, len_record, IsWritten, kind_at}

abbrev nil : List Counted
nil = []

pub length-rows_at : (counted : Bool) (kind : Kind) (n : ℕ) (bytes : List ℕ) → length (rows_at counted kind n bytes) ≡ n
length-rows_at counted kind zero bytes = refl
length-rows_at counted kind (suc n) bytes = ap suc (length-rows_at counted kind n (drop (size counted kind) bytes))

-- ---- what was read is spelled so

pub rows_back : (counted : Bool) (kind : Kind) (n : ℕ) (bytes : List ℕ) → IsBytes bytes → n * size counted kind ≤ length bytes → flat_map (record_of counted) (rows_at counted kind n bytes) ≡ take (n * size counted kind) bytes
rows_back counted kind zero bytes fits long =
    let none : 0 * size counted kind ≡ 0 = omega arith in rw none refl
rows_back counted kind (suc n) bytes fits long =
    let s = size counted kind in
    let split : suc n * s ≡ s + n * s = omega arith in
    let len = length-drop s bytes in
    let first = row_back counted kind bytes fits (omega arith) in
    let others = rows_back counted kind n (drop s bytes) (IsBytes-drop s bytes fits) (omega arith) in
    ap (λ (x : List ℕ). x ++ flat_map (record_of counted) (rows_at counted kind n (drop s bytes))) first ∙ ap (λ (x : List ℕ). take s bytes ++ x) others
    ∙ sym (take-add s (n * s) bytes) ∙ ap (λ (k : ℕ). take k bytes) (sym split)

-- ---- what was written is read again

-- a row of this list, as it can be written
pub record Fits (counted : Bool) (kind : Kind) (row : Counted) : Type 0 where
  pub right : kind_of row.fact ≡ kind
  pub sound : SoundRow row
  pub written : IsWritten counted row.count

row_first : (counted : Bool) (kind : Kind) (row : Counted) (rest : List ℕ) → Fits counted kind row → row_at counted kind (record_of counted row ++ rest) ≡ row
row_first counted kind row rest fits =
    ap (λ (k : Kind). row_at counted k (record_of counted row ++ rest)) (sym fits.right) ∙ row_again counted row rest fits.sound fits.written

row_after : (counted : Bool) (kind : Kind) (row : Counted) (rest : List ℕ) → Fits counted kind row → drop (size counted kind) (record_of counted row ++ rest) ≡ rest
row_after counted kind row rest fits =
    drop_at (record_of counted row) rest (size counted kind) (len_record counted row ∙ ap (size counted) fits.right)

pub rows_again : (counted : Bool) (kind : Kind) (rows : List Counted) (rest : List ℕ) → AllByRecursion (Fits counted kind) rows → rows_at counted kind (length rows) (flat_map (record_of counted) rows ++ rest) ≡ rows
rows_again counted kind [] rest fits = refl
rows_again counted kind (row ∷ rows) rest fits =
    let tail = flat_map (record_of counted) rows ++ rest in
    let regrouped : flat_map (record_of counted) (row ∷ rows) ++ rest ≡ record_of counted row ++ tail = append_assoc (record_of counted row) (flat_map (record_of counted) rows) rest in
    let made : List ℕ → List Counted = λ bytes. row_at counted kind bytes ∷ rows_at counted kind (length rows) (drop (size counted kind) bytes) in
    ap made regrouped
    ∙ ap (λ (r : Counted). r ∷ rows_at counted kind (length rows) (drop (size counted kind) (record_of counted row ++ tail))) (row_first counted kind row tail fits.0)
    ∙ ap (λ (bytes : List ℕ). row ∷ rows_at counted kind (length rows) bytes) (row_after counted kind row tail fits.0)
    ∙ ap (λ (rs : List Counted). row ∷ rs) (rows_again counted kind rows rest fits.1)

pub len_rows : (counted : Bool) (kind : Kind) (rows : List Counted) → AllByRecursion (Fits counted kind) rows → length (flat_map (record_of counted) rows) ≡ length rows * size counted kind
len_rows counted kind [] fits = let none : 0 * size counted kind ≡ 0 = omega arith in sym none
len_rows counted kind (row ∷ rows) fits =
    let one = len_record counted row ∙ ap (size counted) fits.0.right in
    let others = len_rows counted kind rows fits.1 in
    let both = length-append (record_of counted row) (flat_map (record_of counted) rows) in
    omega arith

-- ---- the rows of one list among all

one_kind : (b : Bool) (row : Counted) (rows kept : List Counted) → kept ≡ cond b rows [] → cond b (row ∷ kept) kept ≡ cond b (row ∷ rows) []
one_kind true row rows kept is = ap (λ (rs : List Counted). row ∷ rs) is
one_kind false row rows kept is = is

no_kind : (b : Bool) → cond b nil nil ≡ nil
no_kind true = refl
no_kind false = refl

-- what was read for one list is in that list alone
pub rows_in-rows_at : (counted : Bool) (kind other : Kind) (n : ℕ) (bytes : List ℕ) → rows_in other (rows_at counted kind n bytes) ≡ cond (same_kind kind other) (rows_at counted kind n bytes) []
rows_in-rows_at counted kind other zero bytes = sym (no_kind (same_kind kind other))
rows_in-rows_at counted kind other (suc n) bytes =
    let row = row_at counted kind bytes in
    let rest = rows_at counted kind n (drop (size counted kind) bytes) in
    let others = rows_in-rows_at counted kind other n (drop (size counted kind) bytes) in
    ap (λ (k : Kind). cond (same_kind k other) (row ∷ rows_in other rest) (rows_in other rest)) (kind_at kind bytes) ∙ one_kind (same_kind kind other) row rest (rows_in other rest) others

-- the ranks of a list's facts are below this
abbrev end_of : Kind → ℕ
end_of Blocks = 2 ^ 64
end_of Outcomes = 2 * 2 ^ 64
end_of Pairs = 3 * 2 ^ 64
end_of PUses = 4 * 2 ^ 64

apart : (f : Fact) (k : Kind) → SoundFact f → end_of k ≤ rank f → same_kind (kind_of f) k ≡ false
apart (Block n) Blocks sound after = absurd (omega arith)
apart (Block n) Outcomes sound after = refl
apart (Block n) Pairs sound after = refl
apart (Block n) PUses sound after = refl
apart (Outcome n o) Blocks sound after = refl
apart (Outcome n o) Outcomes sound after = absurd (omega arith)
apart (Outcome n o) Pairs sound after = refl
apart (Outcome n o) PUses sound after = refl
apart (Pair d u) Blocks sound after = refl
apart (Pair d u) Outcomes sound after = refl
apart (Pair d u) Pairs sound after = absurd (omega arith)
apart (Pair d u) PUses sound after = refl
apart (PUse d u o) Blocks sound after = refl
apart (PUse d u o) Outcomes sound after = refl
apart (PUse d u o) Pairs sound after = refl
apart (PUse d u o) PUses sound after = absurd (omega arith)

without : (b : Bool) (row : Counted) (kept : List Counted) → b ≡ false → kept ≡ nil → cond b (row ∷ kept) kept ≡ nil
without true row kept is none = absurd cc
without false row kept is none = none

-- rows from a rank on have none of the lists before
none_from : (k : Kind) (low : ℕ) (rows : List Counted) → end_of k ≤ low → Orderly low rows → rows_in k rows ≡ nil
none_from k low [] after ordered = refl
none_from k low (row ∷ rows) after ordered =
    let here : end_of k ≤ rank row.fact = omega arith in
    let on : end_of k ≤ rank row.fact + 1 = omega arith in
    without (same_kind (kind_of row.fact) k) row (rows_in k rows) (apart row.fact k ordered.1.0 here) (none_from k (rank row.fact + 1) rows on ordered.2)

pull1 : (a b : List Counted) (row : Counted) (rows : List Counted) → a ≡ nil → a ++ b ≡ rows → a ++ (row ∷ b) ≡ row ∷ rows
pull1 a b row rows none e =
    ap (λ (x : List Counted). x ++ (row ∷ b)) none ∙ ap (λ (r : List Counted). row ∷ r) (sym (ap (λ (x : List Counted). x ++ b) none) ∙ e)

pull2 : (a b c : List Counted) (row : Counted) (rows : List Counted) → a ≡ nil → b ≡ nil → a ++ (b ++ c) ≡ rows → a ++ (b ++ (row ∷ c)) ≡ row ∷ rows
pull2 a b c row rows none second e =
    ap (λ (x : List Counted). a ++ (x ++ (row ∷ c))) second ∙ pull1 a c row rows none (sym (ap (λ (x : List Counted). a ++ (x ++ c)) second) ∙ e)

pull3 : (a b c d : List Counted) (row : Counted) (rows : List Counted) → a ≡ nil → b ≡ nil → c ≡ nil → a ++ (b ++ (c ++ d)) ≡ rows → a ++ (b ++ (c ++ (row ∷ d))) ≡ row ∷ rows
pull3 a b c d row rows none second third e =
    ap (λ (x : List Counted). a ++ (b ++ (x ++ (row ∷ d)))) third ∙ pull2 a b d row rows none second (sym (ap (λ (x : List Counted). a ++ (b ++ (x ++ d))) third) ∙ e)

-- the four lists one after the other
abbrev pub joined : List Counted → List Counted
joined rows = rows_in Blocks rows ++ (rows_in Outcomes rows ++ (rows_in Pairs rows ++ rows_in PUses rows))

joined_more : (f : Fact) (n : ℕ) (rows : List Counted) → SoundFact f → Orderly (rank f + 1) rows → joined rows ≡ rows → joined (record { fact = f; count = n } ∷ rows) ≡ record { fact = f; count = n } ∷ rows
joined_more (Block k) n rows sound ordered same = ap (λ (r : List Counted). record { fact = Block k; count = n } ∷ r) same
joined_more (Outcome k o) n rows sound ordered same =
    pull1 _ _ _ rows (none_from Blocks (rank (Outcome k o) + 1) rows (omega arith) ordered) same
joined_more (Pair d u) n rows sound ordered same =
    pull2 _ _ _ _ rows (none_from Blocks (rank (Pair d u) + 1) rows (omega arith) ordered) (none_from Outcomes (rank (Pair d u) + 1) rows (omega arith) ordered) same
joined_more (PUse d u o) n rows sound ordered same =
    pull3 _ _ _ _ _ rows (none_from Blocks (rank (PUse d u o) + 1) rows (omega arith) ordered) (none_from Outcomes (rank (PUse d u o) + 1) rows (omega arith) ordered) (none_from Pairs (rank (PUse d u o) + 1) rows (omega arith) ordered) same

pub joined_is : (low : ℕ) (rows : List Counted) → Orderly low rows → joined rows ≡ rows
joined_is low [] ordered = refl
joined_is low (row ∷ rows) ordered =
    joined_more row.fact row.count rows ordered.1.0 ordered.2 (joined_is (rank row.fact + 1) rows ordered.2)

-- ---- the rows of a list can be written

same_kind-true : (j k : Kind) → same_kind j k ≡ true → j ≡ k
same_kind-true Blocks Blocks is = refl
same_kind-true Outcomes Outcomes is = refl
same_kind-true Pairs Pairs is = refl
same_kind-true PUses PUses is = refl
same_kind-true Blocks Outcomes is = absurd cc
same_kind-true Blocks Pairs is = absurd cc
same_kind-true Blocks PUses is = absurd cc
same_kind-true Outcomes Blocks is = absurd cc
same_kind-true Outcomes Pairs is = absurd cc
same_kind-true Outcomes PUses is = absurd cc
same_kind-true Pairs Blocks is = absurd cc
same_kind-true Pairs Outcomes is = absurd cc
same_kind-true Pairs PUses is = absurd cc
same_kind-true PUses Blocks is = absurd cc
same_kind-true PUses Outcomes is = absurd cc
same_kind-true PUses Pairs is = absurd cc

fits_more : (counted : Bool) (k : Kind) (b : Bool) (row : Counted) (kept : List Counted) → same_kind (kind_of row.fact) k ≡ b → SoundRow row → IsWritten counted row.count → AllByRecursion (Fits counted k) kept → AllByRecursion (Fits counted k) (cond b (row ∷ kept) kept)
fits_more counted k true row kept is sound written fits = (record { right = same_kind-true (kind_of row.fact) k is; sound = sound; written = written }, fits)
fits_more counted k false row kept is sound written fits = fits

pub fits_in : (counted : Bool) (k : Kind) (low : ℕ) (rows : List Counted) → Orderly low rows → AllByRecursion (λ row. IsWritten counted row.count) rows → AllByRecursion (Fits counted k) (rows_in k rows)
fits_in counted k low [] ordered written = tt
fits_in counted k low (row ∷ rows) ordered written =
    fits_more counted k (same_kind (kind_of row.fact) k) row (rows_in k rows) refl ordered.1 written.0 (fits_in counted k (rank row.fact + 1) rows ordered.2 written.1)

-- ---- where no count is written

pub ones_at : (kind : Kind) (n : ℕ) (bytes : List ℕ) → AllByRecursion (λ row. row.count ≡ 1) (rows_at false kind n bytes)
ones_at kind zero bytes = tt
ones_at kind (suc n) bytes = (refl, ones_at kind n (drop (size false kind) bytes))

pub ones_append : (xs ys : List Counted) → AllByRecursion (λ row. row.count ≡ 1) xs → AllByRecursion (λ row. row.count ≡ 1) ys → AllByRecursion (λ row. row.count ≡ 1) (xs ++ ys)
ones_append [] ys first second = second
ones_append (x ∷ xs) ys first second = (first.0, ones_append xs ys first.1 second)

pub all_written : (rows : List Counted) → AllByRecursion (λ row. IsWritten true row.count) rows
all_written [] = tt
all_written (row ∷ rows) = (tt, all_written rows)
