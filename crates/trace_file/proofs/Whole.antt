-- The two laws: what is read is spelled so, and what is spelled so is read.
use Rattle.std.proofs.Common.{◌≡◌, ◌≢◌, ℕ, ◌+◌, ◌-◌, ◌^◌, ◌<◌, ◌≤◌, Bool, true, false, cond, ltb, eqb, List, [], ◌++◌, length, take, drop, Option, Some, None, refl, sym, ap, subst, ◌∙◌, append_assoc, arith, inl, inr}
use Rattle.std.specs.Prelude.{Result, Ok, Err, MatchResult, IfOk}
use Rattle.std.specs.List.{flat_map, AllByRecursion}
use Rattle.std.proofs.Math.Seq.{take-add}
use Rattle.std.proofs.lemmas.Bool.{ltb-false, le-ltb, ne_eqb, eq-eqb, cases_eq}
use Rattle.std.proofs.lemmas.List.{append-nil, length-append, length-drop, take_at, drop_at, drop-drop, take-append-drop}
use Rattle.byteorder.specs.Endian.{big_bytes, big_number}
use Rattle.sha2.specs.Sha256.{sha256}
use Rattle.atac_facts.specs.declared.tally.Counted.{Counted}
use Rattle.trace_file.specs.declared.kind.Kind.{Kind}
use Rattle.trace_file.specs.declared.kind.Kind.TheVariants.{Blocks, Outcomes, Pairs, PUses}
use Rattle.trace_file.specs.declared.refusal.DecodeRefusal.{DecodeRefusal}
use Rattle.trace_file.specs.declared.refusal.DecodeRefusal.TheVariants.{NotATrace, Version, Length, Order, Damaged, NoMemory}
use Rattle.trace_file.specs.declared.trace.Trace.{Trace}
use Rattle.trace_file.specs.Layout.{record_of, rows_in, lists_of, atac, version, count_bytes, opening_of, front_of, spelling, IsSaid, Spells}
use Rattle.trace_file.specs.Sound.{IsSound, IsTyped}
use Rattle.trace_file.specs.Reading.{FourLists, rows_at, rows_of, parts_of, opening_size, old_runs_at, trace_at, Begins, version_at, IsOther, counted_at, layout, IsSigned, IsLaidOut, Refuses, Accepts}
use Rattle.trace_file.proofs.Records.{IsBytes, IsBytes-drop, back2, back4, again2, again4, IsWritten}
use Rattle.trace_file.proofs.Lists.{Fits, rows_again, joined_is, fits_in, ones_at, ones_append, all_written}
use Rattle.trace_file.proofs.Parts.{same_some, parts_take, parts_again, read_back}
use Rattle.trace_file.proofs.Digest.{length-sha256}

-- ---- what is read is spelled so

version_is : (v n : ℕ) → 6 ≤ n → ((6 ≤ n) × (v ≢ 1) × (v ≢ 2) → ⊥) → v ≡ version (eqb v 2)
version_is v n long known =
    elim (cases_eq v 2) [
      | inl two ↦ rw (eq-eqb v 2 two) two
      | inr other ↦ let not_two : eqb v 2 ≡ false = ne_eqb v 2 other in elim (cases_eq v 1) [
        | inl one ↦ rw (not_two) one
        | inr neither ↦ absurd (known (long, neither, other))
      ]
    ]

shifted : (m n : ℕ) (bytes : List ℕ) (k : ℕ) → n + m ≡ k → drop m (drop n bytes) ≡ drop k bytes
shifted m n bytes k is = drop-drop m n bytes ∙ ap (λ (j : ℕ). drop j bytes) is

abbrev pieces : List ℕ → List ℕ → List ℕ → List ℕ → List ℕ → List ℕ
pieces a v d r o = a ++ (v ++ (d ++ (r ++ o)))

pieces_same : (a v d r o a' v' d' r' o' : List ℕ) → a ≡ a' → v ≡ v' → d ≡ d' → r ≡ r' → o ≡ o' → pieces a v d r o ≡ pieces a' v' d' r' o'
pieces_same a v d r o a' v' d' r' o' e1 e2 e3 e4 e5 =
    ap (λ (x : List ℕ). pieces x v d r o) e1 ∙ ap (λ (x : List ℕ). pieces a' x d r o) e2 ∙ ap (λ (x : List ℕ). pieces a' v' x r o) e3
    ∙ ap (λ (x : List ℕ). pieces a' v' d' x o) e4 ∙ ap (pieces a' v' d' r') e5

-- the opening, in pieces
opening_cut : (n : ℕ) (bytes : List ℕ) → take (42 + n) bytes ≡ pieces (take 4 bytes) (take 2 (drop 4 bytes)) (take 32 (drop 6 bytes)) (take 4 (drop 38 bytes)) (take n (drop 42 bytes))
opening_cut n bytes =
    let k4 : 42 + n ≡ 4 + (38 + n) = omega arith in
    let k2 : 38 + n ≡ 2 + (36 + n) = omega arith in
    let k32 : 36 + n ≡ 32 + (4 + n) = omega arith in
    ap (λ (k : ℕ). take k bytes) k4 ∙ take-add 4 (38 + n) bytes
    ∙ ap (λ (x : List ℕ). take 4 bytes ++ x) (ap (λ (k : ℕ). take k (drop 4 bytes)) k2 ∙ take-add 2 (36 + n) (drop 4 bytes)
    ∙ ap (λ (x : List ℕ). take 2 (drop 4 bytes) ++ x) (ap (take (36 + n)) (shifted 2 4 bytes 6 refl) ∙ ap (λ (k : ℕ). take k (drop 6 bytes)) k32 ∙ take-add 32 (4 + n) (drop 6 bytes)
    ∙ ap (λ (x : List ℕ). take 32 (drop 6 bytes) ++ x) (ap (take (4 + n)) (shifted 32 6 bytes 38 refl) ∙ take-add 4 n (drop 38 bytes)
    ∙ ap (λ (x : List ℕ). take 4 (drop 38 bytes) ++ take n x) (shifted 4 38 bytes 42 refl))))

number4_back : (n : ℕ) (bytes : List ℕ) → IsBytes bytes → n + 4 ≤ length bytes → take 4 (drop n bytes) ≡ big_bytes 4 (big_number 4 (drop n bytes))
number4_back n bytes fits long =
    let len = length-drop n bytes in sym (back4 (drop n bytes) (IsBytes-drop n bytes fits) (omega arith))

number2_back : (bytes : List ℕ) (v : ℕ) → IsBytes bytes → 6 ≤ length bytes → version_at bytes ≡ v → take 2 (drop 4 bytes) ≡ big_bytes 2 v
number2_back bytes v fits long is =
    let len = length-drop 4 bytes in sym (back2 (drop 4 bytes) (IsBytes-drop 4 bytes fits) (omega arith)) ∙ ap (big_bytes 2) is

opening_back : (counted : Bool) (bytes : List ℕ) (parts : FourLists) → IsBytes bytes → Begins bytes → version_at bytes ≡ version counted → opening_size counted ≤ length bytes → take (opening_size counted) bytes ≡ opening_of counted (trace_at counted bytes parts)
opening_back false bytes parts fits begins version-is long =
    opening_cut 0 bytes ∙ pieces_same _ _ _ _ _ atac (big_bytes 2 (version false)) (take 32 (drop 6 bytes)) (big_bytes 4 (big_number 4 (drop 38 bytes))) []
    begins (number2_back bytes 1 fits (omega arith) version-is) refl (number4_back 38 bytes fits (omega arith)) refl
opening_back true bytes parts fits begins version-is long =
    opening_cut 4 bytes ∙ pieces_same _ _ _ _ _ atac (big_bytes 2 (version true)) (take 32 (drop 6 bytes)) (big_bytes 4 (big_number 4 (drop 38 bytes))) (big_bytes 4 (big_number 4 (drop 42 bytes)))
    begins (number2_back bytes 2 fits (omega arith) version-is) refl (number4_back 38 bytes fits (omega arith)) (number4_back 42 bytes fits (omega arith))

-- a signed file is its front and the front's digest
signed_is : (bytes front rest : List ℕ) → bytes ≡ front ++ rest → length rest ≡ 32 → IsSigned bytes → bytes ≡ front ++ sha256 front
signed_is bytes front rest whole len signed =
    let both = length-append front rest in
    let all : length bytes ≡ length (front ++ rest) = ap length whole in
    let n : length bytes - 32 ≡ length front = omega arith in
    let back : drop (length bytes - 32) bytes ≡ rest = ap (λ (k : ℕ). drop k bytes) n ∙ ap (drop (length front)) whole ∙ drop_at front rest (length front) refl in
    let start : take (length bytes - 32) bytes ≡ front = ap (λ (k : ℕ). take k bytes) n ∙ ap (take (length front)) whole ∙ take_at front rest (length front) refl in
    whole ∙ ap (λ (x : List ℕ). front ++ x) (sym back ∙ signed ∙ ap sha256 start)

layout_on : (b : Bool) (o : Option FourLists) (parts : FourLists) → cond b None o ≡ Some parts → (b ≡ false) × (o ≡ Some parts)
layout_on true o parts e = absurd cc
layout_on false o parts e = (refl, e)

said_at : (counted : Bool) (bytes : List ℕ) (parts : FourLists) → IsSaid counted (trace_at counted bytes parts)
said_at true bytes parts = tt
said_at false bytes parts = (
  refl,
  ones_append _ _ (ones_at Blocks parts.blocks.count parts.blocks.records) (ones_append _ _ (ones_at Outcomes parts.outcomes.count parts.outcomes.records)
      (ones_append _ _ (ones_at Pairs parts.pairs.count parts.pairs.records) (ones_at PUses parts.p_uses.count parts.p_uses.records))),
)

pub read_is_spelled : (bytes : List ℕ) (t : Trace) → IsBytes bytes → Accepts bytes t → IsSound t × Spells bytes t
read_is_spelled bytes t fits accepts =
    let parts = accepts.0 in
    let known = accepts.1.0 in
    let l = layout_on (ltb (length bytes) 6) (parts_of (counted_at bytes) bytes) parts accepts.1.1 in
    let long6 : 6 ≤ length bytes = ltb-false _ _ l.0 in
    let counted = counted_at bytes in
    let made = trace_at counted bytes parts in
    let took = parts_take counted bytes parts fits l.1 in
    let v = version_is (version_at bytes) (length bytes) long6 known.1 in
    let front : List ℕ = front_of counted made in
    let whole : bytes ≡ front ++ parts.p_uses.rest =
    sym (take-append-drop (opening_size counted) bytes) ∙ ap (λ (x : List ℕ). x ++ drop (opening_size counted) bytes) (opening_back counted bytes parts fits known.0 v took.long)
    ∙ ap (λ (x : List ℕ). opening_of counted made ++ x) took.whole ∙ sym (append_assoc (opening_of counted made) (lists_of counted made.tally) parts.p_uses.rest) in
    let spelled : bytes ≡ spelling counted made = signed_is bytes front parts.p_uses.rest whole took.trailer accepts.4 in
    (accepts.3, subst (Spells bytes) (sym accepts.2) (counted, spelled, said_at counted bytes parts, took.few))

-- ---- what is spelled so is read

pub record Reads (bytes : List ℕ) (t : Trace) : Type 0 where
  pub parts : FourLists
  pub laid : IsLaidOut bytes parts
  pub same : trace_at (counted_at bytes) bytes parts ≡ t
  pub signed : IsSigned bytes

small_version : (counted : Bool) → version counted < 65536
small_version true = omega arith
small_version false = omega arith

version_tells : (counted : Bool) → eqb (version counted) 2 ≡ counted
version_tells true = refl
version_tells false = refl

not_other : (counted : Bool) (bytes : List ℕ) → version_at bytes ≡ version counted → IsOther bytes → ⊥
not_other true bytes is other = other.2 is
not_other false bytes is other = other.1 is

flat : (a v d r o l z : List ℕ) → (pieces a v d r o ++ l) ++ z ≡ pieces a v d r (o ++ (l ++ z))
flat a v d r o l z = simp append_assoc

pub len_opening : (counted : Bool) (t : Trace) → length t.digest ≡ 32 → length (opening_of counted t) ≡ opening_size counted
len_opening false t len =
    let e = length-append t.digest (big_bytes 4 t.runs ++ []) in
    let f : length (big_bytes 4 t.runs ++ []) ≡ 4 = refl in
    omega arith
len_opening true t len =
    let e = length-append t.digest (big_bytes 4 t.runs ++ big_bytes 4 t.old_runs) in
    let f : length (big_bytes 4 t.runs ++ big_bytes 4 t.old_runs) ≡ 8 = refl in
    omega arith

rows_alone : (counted : Bool) (kind : Kind) (rows : List Counted) → AllByRecursion (Fits counted kind) rows → rows_at counted kind (length rows) (flat_map (record_of counted) rows) ≡ rows
rows_alone counted kind rows fits =
    ap (rows_at counted kind (length rows)) (sym (append-nil (flat_map (record_of counted) rows))) ∙ rows_again counted kind rows [] fits

written_all : (counted : Bool) (t : Trace) → IsSaid counted t → AllByRecursion (λ row. IsWritten counted row.count) t.tally
written_all true t said = all_written t.tally
written_all false t said = said.1

rows_found : (counted : Bool) (a b c d : List Counted) (trailer : List ℕ) → AllByRecursion (Fits counted Blocks) a → AllByRecursion (Fits counted Outcomes) b → AllByRecursion (Fits counted Pairs) c → AllByRecursion (Fits counted PUses) d → rows_of counted (read_back counted a b c d trailer) ≡ a ++ (b ++ (c ++ d))
rows_found counted a b c d trailer fa fb fc fd =
    let ra = rows_at counted Blocks (length a) (flat_map (record_of counted) a) in
    let rb = rows_at counted Outcomes (length b) (flat_map (record_of counted) b) in
    let rc = rows_at counted Pairs (length c) (flat_map (record_of counted) c) in
    let rd = rows_at counted PUses (length d) (flat_map (record_of counted) d) in
    ap (λ (x : List Counted). x ++ (rb ++ (rc ++ rd))) (rows_alone counted Blocks a fa) ∙ ap (λ (x : List Counted). a ++ (x ++ (rc ++ rd))) (rows_alone counted Outcomes b fb)
    ∙ ap (λ (x : List Counted). a ++ (b ++ (x ++ rd))) (rows_alone counted Pairs c fc) ∙ ap (λ (x : List Counted). a ++ (b ++ (c ++ x))) (rows_alone counted PUses d fd)

old_again : (counted : Bool) (t : Trace) (bytes rest : List ℕ) → t.runs < 2 ^ 32 → t.old_runs ≤ t.runs → IsSaid counted t → big_number 4 (drop 38 bytes) ≡ t.runs → drop 42 bytes ≡ count_bytes counted t.old_runs ++ rest → old_runs_at counted bytes ≡ t.old_runs
old_again true t bytes rest few old said runs-is after = ap (big_number 4) after ∙ again4 t.old_runs rest (omega arith)
old_again false t bytes rest few old said runs-is after = runs-is ∙ sym said.0

abbrev trace_of : List ℕ → ℕ → ℕ → List Counted → Trace
trace_of d r o rows = record { digest = d; runs = r; old_runs = o; tally = rows }

trace_same : (d d' : List ℕ) (r r' o o' : ℕ) (rows rows' : List Counted) → d ≡ d' → r ≡ r' → o ≡ o' → rows ≡ rows' → trace_of d r o rows ≡ trace_of d' r' o' rows'
trace_same d d' r r' o o' rows rows' e1 e2 e3 e4 =
    ap (λ (x : List ℕ). trace_of x r o rows) e1 ∙ ap (λ (x : ℕ). trace_of d' x o rows) e2 ∙ ap (λ (x : ℕ). trace_of d' r' x rows) e3 ∙ ap (trace_of d' r' o') e4

signed_so : (bytes front : List ℕ) → bytes ≡ front ++ sha256 front → IsSigned bytes
signed_so bytes front whole =
    let len = length-sha256 front in
    let both = length-append front (sha256 front) in
    let all : length bytes ≡ length (front ++ sha256 front) = ap length whole in
    let n : length bytes - 32 ≡ length front = omega arith in
    let back : drop (length bytes - 32) bytes ≡ sha256 front = ap (λ (k : ℕ). drop k bytes) n ∙ ap (drop (length front)) whole ∙ drop_at front (sha256 front) (length front) refl in
    let start : take (length bytes - 32) bytes ≡ front = ap (λ (k : ℕ). take k bytes) n ∙ ap (take (length front)) whole ∙ take_at front (sha256 front) (length front) refl in
    back ∙ ap sha256 (sym start)

-- what stands where in a spelling
record Opens (counted : Bool) (bytes : List ℕ) (t : Trace) : Type 0 where
  begins : Begins bytes
  version : version_at bytes ≡ version counted
  digest : take 32 (drop 6 bytes) ≡ t.digest
  runs : big_number 4 (drop 38 bytes) ≡ t.runs
  old : old_runs_at counted bytes ≡ t.old_runs

opens : (counted : Bool) (bytes : List ℕ) (t : Trace) (more : List ℕ) → IsTyped t → t.old_runs ≤ t.runs → IsSaid counted t → bytes ≡ pieces atac (big_bytes 2 (version counted)) t.digest (big_bytes 4 t.runs) (count_bytes counted t.old_runs ++ more) → Opens counted bytes t
opens counted bytes t more typed old said is =
    let o = count_bytes counted t.old_runs ++ more in
    let r = big_bytes 4 t.runs ++ o in
    let d6 : drop 6 bytes ≡ t.digest ++ r = ap (drop 6) is in
    let d38 : drop 38 bytes ≡ r = sym (shifted 32 6 bytes 38 refl) ∙ ap (drop 32) d6 ∙ drop_at t.digest r 32 typed.digest in
    let d42 : drop 42 bytes ≡ o = sym (shifted 4 38 bytes 42 refl) ∙ ap (drop 4) d38 in
    let runs-is : big_number 4 (drop 38 bytes) ≡ t.runs = ap (big_number 4) d38 ∙ again4 t.runs o typed.runs in
    let v : version_at bytes ≡ version counted = ap (λ (b : List ℕ). big_number 2 (drop 4 b)) is ∙ again2 (version counted) (t.digest ++ r) (small_version counted) in
    let start : take 4 bytes ≡ atac = ap (take 4) is in
    record {
      begins = start;
      version = v;
      digest = ap (take 32) d6 ∙ take_at t.digest r 32 typed.digest;
      runs = runs-is;
      old = old_again counted t bytes more typed.runs old said runs-is d42;
    }

laid_out : (counted : Bool) (bytes : List ℕ) (t : Trace) (parts : FourLists) → Opens counted bytes t → 6 ≤ length bytes → parts_of counted bytes ≡ Some parts → rows_of counted parts ≡ t.tally → IsSigned bytes → Reads bytes t
laid_out counted bytes t parts at long found rows-is signed =
    let right : counted_at bytes ≡ counted = ap (λ (v : ℕ). eqb v 2) at.version ∙ version_tells counted in
    let there : layout bytes ≡ Some parts =
    ap (λ (b : Bool). cond b None (parts_of (counted_at bytes) bytes)) (le-ltb (length bytes) 6 long) ∙ ap (λ (c : Bool). parts_of c bytes) right ∙ found in
    let made : trace_at counted bytes parts ≡ t = trace_same _ _ _ _ _ _ _ _ at.digest at.runs at.old rows-is in
    record {
      parts = parts;
      laid = ((at.begins, not_other counted bytes at.version), there);
      same = ap (λ (c : Bool). trace_at c bytes parts) right ∙ made;
      signed = signed;
    }

pub spelled_is_read : (bytes : List ℕ) (t : Trace) → IsTyped t → IsSound t → Spells bytes t → Reads bytes t
spelled_is_read bytes t typed sound spells =
    let counted = spells.0 in
    let is = spells.1 in
    let said = spells.2 in
    let few = spells.3 in
    let front : List ℕ = front_of counted t in
    let trailer : List ℕ = sha256 front in
    let opening : List ℕ = opening_of counted t in
    let len = len_opening counted t typed.digest in
    let w = written_all counted t said in
    let a = rows_in Blocks t.tally in
    let b = rows_in Outcomes t.tally in
    let c = rows_in Pairs t.tally in
    let d = rows_in PUses t.tally in
    let fa = fits_in counted Blocks 0 t.tally sound.1 w in
    let fb = fits_in counted Outcomes 0 t.tally sound.1 w in
    let fc = fits_in counted Pairs 0 t.tally sound.1 w in
    let fd = fits_in counted PUses 0 t.tally sound.1 w in
    let found : parts_of counted bytes ≡ Some (read_back counted a b c d trailer) =
    ap (parts_of counted) is ∙ parts_again counted opening a b c d trailer len fa fb fc fd (few Blocks) (few Outcomes) (few Pairs) (few PUses) (length-sha256 front) in
    let rows-is : rows_of counted (read_back counted a b c d trailer) ≡ t.tally = rows_found counted a b c d trailer fa fb fc fd ∙ joined_is 0 t.tally sound.1 in
    let shape : bytes ≡ pieces atac (big_bytes 2 (version counted)) t.digest (big_bytes 4 t.runs) (count_bytes counted t.old_runs ++ (lists_of counted t.tally ++ trailer)) =
    is ∙ flat atac (big_bytes 2 (version counted)) t.digest (big_bytes 4 t.runs) (count_bytes counted t.old_runs) (lists_of counted t.tally) trailer in
    let long : 6 ≤ length bytes = subst (λ (x : List ℕ). 6 ≤ length x) (sym shape) (omega arith) in
    laid_out counted bytes t (read_back counted a b c d trailer) (opens counted bytes t (lists_of counted t.tally ++ trailer) typed sound.0 said shape) long found rows-is (signed_so bytes front is)

read_same : (bytes : List ℕ) (u t : Trace) → Accepts bytes u → Reads bytes t → u ≡ t
read_same bytes u t accepts reads =
    let parts-is : accepts.0 ≡ reads.parts = same_some _ _ (sym accepts.1.1 ∙ reads.laid.1) in
    accepts.2 ∙ ap (trace_at (counted_at bytes) bytes) parts-is ∙ reads.same

refused_not : (bytes : List ℕ) (e : DecodeRefusal) (t : Trace) → IsSound t → Refuses bytes e → Reads bytes t → e ≡ NoMemory
refused_not bytes NoMemory t sound refuses reads = refl
refused_not bytes NotATrace t sound refuses reads = absurd (refuses reads.laid.0.0)
refused_not bytes Version t sound refuses reads = absurd (reads.laid.0.1 refuses.1)
refused_not bytes Length t sound refuses reads =
    let e = sym refuses.1 ∙ reads.laid.1 in absurd cc
refused_not bytes Order t sound refuses reads =
    let parts-is : reads.parts ≡ refuses.0 = same_some _ _ (sym reads.laid.1 ∙ refuses.1.1) in
    let same : t ≡ trace_at (counted_at bytes) bytes refuses.0 = sym reads.same ∙ ap (trace_at (counted_at bytes) bytes) parts-is in
    absurd (refuses.2 (subst IsSound same sound))
refused_not bytes Damaged t sound refuses reads = absurd (refuses.3 reads.signed)

pub is_only : (bytes : List ℕ) (r : Result Trace DecodeRefusal) (t : Trace) → MatchResult r (Accepts bytes) (Refuses bytes) → IsTyped t → IsSound t → Spells bytes t → MatchResult r (λ u. u ≡ t) (λ e. e ≡ NoMemory)
is_only bytes (Ok u) t answers typed sound spells = read_same bytes u t answers (spelled_is_read bytes t typed sound spells)
is_only bytes (Err e) t answers typed sound spells = refused_not bytes e t sound answers (spelled_is_read bytes t typed sound spells)

pub is_found : (bytes : List ℕ) (r : Result Trace DecodeRefusal) → IsBytes bytes → MatchResult r (Accepts bytes) (Refuses bytes) → IfOk r (λ t. IsSound t × Spells bytes t)
is_found bytes (Ok t) fits answers = read_is_spelled bytes t fits answers
is_found bytes (Err e) fits answers = tt
