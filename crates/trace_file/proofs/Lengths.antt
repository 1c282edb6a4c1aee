-- How long a trace file is.
use Rattle.std.proofs.Common.{◌≡◌, ℕ, ◌+◌, ◌-◌, ◌^◌, ◌<◌, ◌≤◌, Bool, true, false, cond, leb, List, [], ◌∷◌, ◌++◌, length, refl, sym, ap, ◌∙◌, arith}
use Rattle.std.specs.List.{flat_map, sum_by}
use Rattle.std.proofs.lemmas.Bool.{leb-true, leb-false}
use Rattle.std.proofs.lemmas.List.{length-append}
use Rattle.std.proofs.lemmas.List.Sums.{sum_by-cons}
use Rattle.byteorder.specs.Endian.{big_bytes}
use Rattle.sha2.specs.Sha256.{sha256}
use Rattle.atac_facts.specs.declared.tally.Counted.{Counted}
use Rattle.trace_file.specs.declared.kind.Kind.{Kind}
use Rattle.trace_file.specs.declared.kind.Kind.TheVariants.{Blocks, Outcomes, Pairs, PUses}
use Rattle.trace_file.specs.declared.trace.Trace.{Trace}
use Rattle.trace_file.specs.Layout.{kind_of, same_kind, record_of, size, rows_in, list_of, lists_of, opening_of, front_of, bytes_of, Spells}
use Rattle.trace_file.proofs.Records.{len_record}
use Rattle.trace_file.proofs.Digest.{length-sha256}
use Rattle.trace_file.proofs.Whole.{len_opening}

abbrev pub size_of : Counted → ℕ
size_of row = size true (kind_of row.fact)

-- the bytes of a list's records
abbrev bytes_in : Kind → List Counted → ℕ
bytes_in k rows = length (flat_map (record_of true) (rows_in k rows))

one_in : (b : Bool) (row : Counted) (kept : List Counted) → length (flat_map (record_of true) (cond b (row ∷ kept) kept)) ≡ cond b (size_of row) 0 + length (flat_map (record_of true) kept)
one_in true row kept =
    length-append (record_of true row) (flat_map (record_of true) kept) ∙ ap (λ (n : ℕ). n + length (flat_map (record_of true) kept)) (len_record true row)
one_in false row kept = omega arith

abbrev pick : Kind → Kind → ℕ → ℕ
pick j k n = cond (same_kind j k) n 0

one_kind : (k : Kind) (n : ℕ) → pick k Blocks n + pick k Outcomes n + pick k Pairs n + pick k PUses n ≡ n
one_kind Blocks n = omega arith
one_kind Outcomes n = omega arith
one_kind Pairs n = omega arith
one_kind PUses n = omega arith

all_in : (rows : List Counted) → bytes_in Blocks rows + bytes_in Outcomes rows + bytes_in Pairs rows + bytes_in PUses rows ≡ sum_by size_of rows
all_in [] = refl
all_in (row ∷ rows) =
    let k = kind_of row.fact in
    let n = size_of row in
    let a = one_in (same_kind k Blocks) row (rows_in Blocks rows) in
    let b = one_in (same_kind k Outcomes) row (rows_in Outcomes rows) in
    let c = one_in (same_kind k Pairs) row (rows_in Pairs rows) in
    let d = one_in (same_kind k PUses) row (rows_in PUses rows) in
    let here = one_kind k n in
    let others = all_in rows in
    let whole = sum_by-cons size_of row rows in
    omega arith

len_list : (k : Kind) (rows : List Counted) → length (list_of true k rows) ≡ 4 + bytes_in k rows
len_list k rows = length-append (big_bytes 4 (length (rows_in k rows))) (flat_map (record_of true) (rows_in k rows))

len_lists : (rows : List Counted) → length (lists_of true rows) ≡ 16 + sum_by size_of rows
len_lists rows =
    let a = len_list Blocks rows in
    let b = len_list Outcomes rows in
    let c = len_list Pairs rows in
    let d = len_list PUses rows in
    let e = length-append (list_of true Pairs rows) (list_of true PUses rows) in
    let f = length-append (list_of true Outcomes rows) (list_of true Pairs rows ++ list_of true PUses rows) in
    let g = length-append (list_of true Blocks rows) (list_of true Outcomes rows ++ (list_of true Pairs rows ++ list_of true PUses rows)) in
    let all = all_in rows in
    omega arith

pub length-bytes_of : (t : Trace) → length t.digest ≡ 32 → length (bytes_of t) ≡ 94 + sum_by size_of t.tally
length-bytes_of t len =
    let o = len_opening true t len in
    let l = len_lists t.tally in
    let d = length-sha256 (front_of true t) in
    let e = length-append (opening_of true t) (lists_of true t.tally) in
    let f = length-append (front_of true t) (sha256 (front_of true t)) in
    omega arith

size_pos : (k : Kind) → 1 ≤ size true k
size_pos k = omega arith

pub length-sum : (rows : List Counted) → length rows ≤ sum_by size_of rows
length-sum [] = omega arith
length-sum (row ∷ rows) =
    let one = size_pos (kind_of row.fact) in
    let others = length-sum rows in
    let whole = sum_by-cons size_of row rows in
    omega arith

pub few_rows : (rows : List Counted) (most : ℕ) (b : Bool) → b ≡ true → b ≡ leb (sum_by size_of rows) (most - 94) → most ≤ 67108864 → length rows < 2 ^ 32
few_rows rows most b is test few =
    let fits = leb-true (sum_by size_of rows) (most - 94) (sym test ∙ is) in
    let all = length-sum rows in
    omega arith

pub enough : (t : Trace) (most : ℕ) (b : Bool) → length t.digest ≡ 32 → 94 ≤ most → b ≡ true → b ≡ leb (sum_by size_of t.tally) (most - 94) → length (bytes_of t) ≤ most
enough t most b len least is test =
    let fits = leb-true (sum_by size_of t.tally) (most - 94) (sym test ∙ is) in
    let whole = length-bytes_of t len in
    omega arith

pub too_much : (t : Trace) (most : ℕ) (b : Bool) → length t.digest ≡ 32 → 94 ≤ most → b ≡ false → b ≡ leb (sum_by size_of t.tally) (most - 94) → most < length (bytes_of t)
too_much t most b len least is test =
    let over = leb-false (sum_by size_of t.tally) (most - 94) (sym test ∙ is) in
    let whole = length-bytes_of t len in
    omega arith

pub too_small : (t : Trace) (most : ℕ) → length t.digest ≡ 32 → most < 94 → most < length (bytes_of t)
too_small t most len small = let whole = length-bytes_of t len in omega arith

few_in : (b : Bool) (row : Counted) (kept : List Counted) (n : ℕ) → length kept ≤ n → length (cond b (row ∷ kept) kept) ≤ n + 1
few_in true row kept n le = omega arith
few_in false row kept n le = omega arith

fewer_in : (k : Kind) (rows : List Counted) → length (rows_in k rows) ≤ length rows
fewer_in k [] = omega arith
fewer_in k (row ∷ rows) =
    let more = few_in (same_kind (kind_of row.fact) k) row (rows_in k rows) (length rows) (fewer_in k rows) in omega arith

pub written_so : (bytes : List ℕ) (t : Trace) → bytes ≡ bytes_of t → length t.tally < 2 ^ 32 → Spells bytes t
written_so bytes t is few = (true, is, tt, λ k. let le = fewer_in k t.tally in omega arith)
