-- Reading records one after the other, as a loop does.
use Rattle.std.proofs.Common.{◌≡◌, ℕ, suc, ◌+◌, ◌-◌, ◌*◌, ◌^◌, ◌<◌, ◌≤◌, Bool, true, false, leb, List, [], ◌∷◌, ◌++◌, length, drop, refl, sym, ap, subst, ◌∙◌, append_assoc, arith}
use Rattle.std.specs.Prelude.{IsTrue, ◌↔◌}
use Rattle.std.proofs.lemmas.List.{append-nil, length-drop}
use Rattle.std.proofs.lemmas.Bool.{leb-true, le-leb}
use Rattle.atac_facts.specs.declared.tally.Counted.{Counted}
use Rattle.atac_facts.specs.Facts.{rank}
use Rattle.atac_facts.specs.Tallies.{end_from}
use Rattle.trace_file.specs.declared.kind.Kind.{Kind}
use Rattle.trace_file.specs.declared.refusal.DecodeRefusal.{DecodeRefusal}
use Rattle.trace_file.specs.declared.refusal.DecodeRefusal.TheVariants.{NotATrace, Version, Length, Order, Damaged, NoMemory}
use Rattle.trace_file.specs.declared.trace.Trace.{Trace}
use Rattle.trace_file.specs.Layout.{size}
use Rattle.trace_file.specs.Sound.{SoundRow, Orderly}
use Rattle.trace_file.specs.Reading.{row_at, rows_at, EndsAt, StopsAt, StopsTrace}
use Rattle.trace_file.proofs.Ordered.{orderly_at, orderly_push}

-- what is left to read begins with a row
pub next_row : (counted : Bool) (kind : Kind) (n i : ℕ) (bytes : List ℕ) → i < n → rows_at counted kind (n - i) bytes ≡ row_at counted kind bytes ∷ rows_at counted kind (n - (i + 1)) (drop (size counted kind) bytes)
next_row counted kind n i bytes lt =
    let k : n - i ≡ suc (n - (i + 1)) = omega arith in rw k refl

pub goes_on : (counted : Bool) (kind : Kind) (n i : ℕ) (bytes : List ℕ) (front total : List Counted) → i < n → front ++ rows_at counted kind (n - i) bytes ≡ total
    → (front ++ row_at counted kind bytes ∷ []) ++ rows_at counted kind (n - (i + 1)) (drop (size counted kind) bytes) ≡ total
goes_on counted kind n i bytes front total lt so_far =
    append_assoc front (row_at counted kind bytes ∷ []) (rows_at counted kind (n - (i + 1)) (drop (size counted kind) bytes))
    ∙ ap (λ (rows : List Counted). front ++ rows) (sym (next_row counted kind n i bytes lt)) ∙ so_far

pub stops : (counted : Bool) (kind : Kind) (n i : ℕ) (bytes : List ℕ) (front total : List Counted) → i < n → front ++ rows_at counted kind (n - i) bytes ≡ total
    → ((end_from 0 front ≤ rank (row_at counted kind bytes).fact) × SoundRow (row_at counted kind bytes) → ⊥) → StopsAt Order total
stops counted kind n i bytes front total lt so_far bad more ordered =
    let row = row_at counted kind bytes in
    let rest = rows_at counted kind (n - (i + 1)) (drop (size counted kind) bytes) in
    let split : total ++ more ≡ front ++ row ∷ (rest ++ more) = ap (λ (rows : List Counted). rows ++ more) (sym so_far ∙ ap (λ (rows : List Counted). front ++ rows) (next_row counted kind n i bytes lt)) ∙ append_assoc front (row ∷ rest) more in
    bad (orderly_at 0 front row (rest ++ more) (subst (λ (rows : List Counted). Orderly 0 rows) split ordered))

pub ends : (counted : Bool) (kind : Kind) (n i : ℕ) (bytes : List ℕ) (front total : List Counted) → n ≤ i → front ++ rows_at counted kind (n - i) bytes ≡ total → front ≡ total
ends counted kind n i bytes front total le so_far =
    let k : n - i ≡ 0 = omega arith in
    let none : front ++ rows_at counted kind (n - i) bytes ≡ front = rw k (append-nil front) in
    sym none ∙ so_far

-- the bytes of the records that are left
pub long_enough : (n i s : ℕ) (bytes : List ℕ) → i < n → (n - i) * s ≤ length bytes → (s ≤ length bytes) × ((n - (i + 1)) * s ≤ length (drop s bytes))
long_enough n i s bytes lt long =
    let k : n - i ≡ suc (n - (i + 1)) = omega arith in
    let more : suc (n - (i + 1)) * s ≤ length bytes = subst (λ (m : ℕ). m * s ≤ length bytes) k long in
    let len = length-drop s bytes in
    (omega arith, omega arith)

-- what a test said
pub refuted : (P : Type 0) (b : Bool) → b ≡ false → (IsTrue b ↔ P) → P → ⊥
refuted P true is test holds = absurd cc
refuted P false is test holds = let no : IsTrue false = test.1 holds in absurd cc

pub is_unsound : (row read : Counted) (b : Bool) (front : List Counted) → row ≡ read → b ≡ false → (IsTrue b ↔ SoundRow row) → (end_from 0 front ≤ rank read.fact) × SoundRow read → ⊥
is_unsound row read b front same is test good =
    refuted (SoundRow row) b is test (subst SoundRow (sym same) good.1)

pub comes_too_early : (row read : Counted) (b : Bool) (front : List Counted) → row ≡ read → b ≡ false → b ≡ leb (end_from 0 front) (rank row.fact) → (end_from 0 front ≤ rank read.fact) × SoundRow read → ⊥
comes_too_early row read b front same is test good =
    let fits : leb (end_from 0 front) (rank read.fact) ≡ true = le-leb _ _ good.0 in
    let said : leb (end_from 0 front) (rank read.fact) ≡ false = ap (λ (r : Counted). leb (end_from 0 front) (rank r.fact)) (sym same) ∙ sym test ∙ is in
    absurd cc

pub confirmed : (P : Type 0) (b : Bool) → b ≡ true → (IsTrue b ↔ P) → P
confirmed P true is test = test.0 refl
confirmed P false is test = absurd cc

-- one more row
pub keeps_on : (counted : Bool) (kind : Kind) (n i : ℕ) (bytes : List ℕ) (front : List Counted) (row : Counted) (sound after : Bool)
    → row ≡ row_at counted kind bytes → sound ≡ true → (IsTrue sound ↔ SoundRow row) → after ≡ true → after ≡ leb (end_from 0 front) (rank row.fact)
    → (before new total : List Counted) (rest : List ℕ) (s : ℕ) → i < n → front ++ rows_at counted kind (n - i) bytes ≡ total → (Orderly 0 before → Orderly 0 front)
    → (n - i) * size counted kind ≤ length bytes → new ≡ front ++ row ∷ [] → s ≡ size counted kind → rest ≡ drop s bytes
    → (new ++ rows_at counted kind (n - (i + 1)) rest ≡ total) × (Orderly 0 before → Orderly 0 new) × ((n - (i + 1)) * size counted kind ≤ length rest)
keeps_on counted kind n i bytes front row sound after row-is sound-is sound-test after-is after-test before new total rest s lt whole ordered long new-is s-is rest-is =
    let rest-at : rest ≡ drop (size counted kind) bytes = rest-is ∙ ap (λ (k : ℕ). drop k bytes) s-is in
    let new-at : new ≡ front ++ row_at counted kind bytes ∷ [] = new-is ∙ ap (λ (r : Counted). front ++ r ∷ []) row-is in
    let is_sound : SoundRow row = confirmed (SoundRow row) sound sound-is sound-test in
    let follows : end_from 0 front ≤ rank row.fact = leb-true _ _ (sym after-test ∙ after-is) in (
      rw (new-at, rest-at) (goes_on counted kind n i bytes front total lt whole),
      (λ first. subst (Orderly 0) (sym new-is) (orderly_push 0 front row (ordered first) follows is_sound)),
      rw rest-at ((long_enough n i (size counted kind) bytes lt long).1),
    )

-- reading that stopped within a part of the lists
pub stops_more : (e : DecodeRefusal) (front more total : List Counted) → front ++ more ≡ total → StopsAt e front → StopsAt e total
stops_more NoMemory front more total same stop = tt
stops_more Order front more total same stop = λ rest ordered.
    let split : total ++ rest ≡ front ++ (more ++ rest) = ap (λ (rows : List Counted). rows ++ rest) (sym same) ∙ append_assoc front more rest in
    stop (more ++ rest) (subst (λ (rows : List Counted). Orderly 0 rows) split ordered)
stops_more NotATrace front more total same stop = absurd stop
stops_more Version front more total same stop = absurd stop
stops_more Length front more total same stop = absurd stop
stops_more Damaged front more total same stop = absurd stop

pub stops_third : (e : DecodeRefusal) (a b c d none first second : List Counted) → none ≡ [] → first ≡ none ++ a → second ≡ first ++ b → StopsAt e (second ++ c) → StopsAt e (a ++ (b ++ (c ++ d)))
stops_third e a b c d none first second none-is first-is second-is stop =
    let two : second ≡ a ++ b = second-is ∙ ap (λ (rows : List Counted). rows ++ b) (first-is ∙ ap (λ (rows : List Counted). rows ++ a) none-is) in
    stops_more e (second ++ c) d (a ++ (b ++ (c ++ d))) (ap (λ (rows : List Counted). (rows ++ c) ++ d) two ∙ simp append_assoc) stop

pub stops_trace : (e : DecodeRefusal) (t : Trace) → StopsAt e t.tally → StopsTrace e t
stops_trace NoMemory t stop = tt
stops_trace Order t stop = λ sound. stop [] (subst (λ (rows : List Counted). Orderly 0 rows) (sym (append-nil t.tally)) sound.1)
stops_trace NotATrace t stop = absurd stop
stops_trace Version t stop = absurd stop
stops_trace Length t stop = absurd stop
stops_trace Damaged t stop = absurd stop

-- ---- the same without keeping the rows

-- what is known of all records after some: all are orderly just where those that are left are, from this rank on
pub record Checks (low now : ℕ) (total left : List Counted) : Type 0 where
  pub whole : Orderly now left → Orderly low total
  pub back : Orderly low total → Orderly now left
  pub end : end_from now left ≡ end_from low total
  pub small : now ≤ 2 ^ 66

pub checks_on : (counted : Bool) (kind : Kind) (n i : ℕ) (bytes : List ℕ) (low now : ℕ) (total : List Counted) (row : Counted) (sound : Bool) (r : ℕ) → i < n
    → Checks low now total (rows_at counted kind (n - i) bytes) → row ≡ row_at counted kind bytes → sound ≡ true → (IsTrue sound ↔ SoundRow row) → r ≡ rank row.fact → now ≤ r → r < 2 ^ 66
    → (rest : List ℕ) (s : ℕ) → s ≡ size counted kind → rest ≡ drop s bytes → Checks low (r + 1) total (rows_at counted kind (n - (i + 1)) rest)
checks_on counted kind n i bytes low now total row sound r lt h row-is sound-is sound-test r-is after few rest s s-is rest-is =
    let rest-at : rest ≡ drop (size counted kind) bytes = rest-is ∙ ap (λ (k : ℕ). drop k bytes) s-is in
    let first = row_at counted kind bytes in
    let others = rows_at counted kind (n - (i + 1)) (drop (size counted kind) bytes) in
    let rank-is : r ≡ rank first.fact = r-is ∙ ap (λ (x : Counted). rank x.fact) row-is in
    let good : SoundRow first = subst SoundRow row-is (confirmed (SoundRow row) sound sound-is sound-test) in
    let k : Checks low now total (first ∷ others) = subst (Checks low now total) (next_row counted kind n i bytes lt) h in
    let early : now ≤ rank first.fact = subst (λ (x : ℕ). now ≤ x) rank-is after in
    let next : Checks low (rank first.fact + 1) total others = record {
      whole = λ ordered. k.whole (early, good, ordered);
      back = λ ordered. (k.back ordered).2;
      end = k.end;
      small = let f : rank first.fact < 2 ^ 66 = subst (λ (x : ℕ). x < 2 ^ 66) rank-is few in omega (arith, f);
    } in
    rw (rest-at, rank-is) next

pub checks_unsound : (counted : Bool) (kind : Kind) (n i : ℕ) (bytes : List ℕ) (low now : ℕ) (total : List Counted) (row : Counted) (sound : Bool) → i < n
    → Checks low now total (rows_at counted kind (n - i) bytes) → row ≡ row_at counted kind bytes → sound ≡ false → (IsTrue sound ↔ SoundRow row) → Orderly low total → ⊥
checks_unsound counted kind n i bytes low now total row sound lt h row-is sound-is sound-test ordered =
    let k = subst (Orderly now) (next_row counted kind n i bytes lt) (h.back ordered) in
    refuted (SoundRow row) sound sound-is sound-test (subst SoundRow (sym row-is) k.1)

pub checks_early : (counted : Bool) (kind : Kind) (n i : ℕ) (bytes : List ℕ) (low now : ℕ) (total : List Counted) (row : Counted) (r : ℕ) → i < n
    → Checks low now total (rows_at counted kind (n - i) bytes) → row ≡ row_at counted kind bytes → r ≡ rank row.fact → r < now → Orderly low total → ⊥
checks_early counted kind n i bytes low now total row r lt h row-is r-is before ordered =
    let k = subst (Orderly now) (next_row counted kind n i bytes lt) (h.back ordered) in
    let rank-is : r ≡ rank (row_at counted kind bytes).fact = r-is ∙ ap (λ (x : Counted). rank x.fact) row-is in
    let early : now ≤ r = subst (λ (x : ℕ). now ≤ x) (sym rank-is) k.0 in
    absurd (omega (arith, early, before))

pub checks_end : (counted : Bool) (kind : Kind) (n i : ℕ) (bytes : List ℕ) (low now : ℕ) (total : List Counted) → n ≤ i
    → Checks low now total (rows_at counted kind (n - i) bytes) → EndsAt low total now
checks_end counted kind n i bytes low now total le h =
    let k : n - i ≡ 0 = omega arith in
    let none : Checks low now total [] = subst (λ (m : ℕ). Checks low now total (rows_at counted kind m bytes)) k h in
    record { orderly = none.whole tt; end_is = none.end; small = none.small }

-- ---- lists of rows, one behind the other

pub orderly_first : (low : ℕ) (a b : List Counted) → Orderly low (a ++ b) → Orderly low a
orderly_first low [] b ordered = tt
orderly_first low (row ∷ a) b ordered = (ordered.0, ordered.1, orderly_first (rank row.fact + 1) a b ordered.2)

pub orderly_second : (low : ℕ) (a b : List Counted) → Orderly low (a ++ b) → Orderly (end_from low a) b
orderly_second low [] b ordered = ordered
orderly_second low (row ∷ a) b ordered = orderly_second (rank row.fact + 1) a b ordered.2

pub orderly_both : (low : ℕ) (a b : List Counted) → Orderly low a → Orderly (end_from low a) b → Orderly low (a ++ b)
orderly_both low [] b first second = second
orderly_both low (row ∷ a) b first second = (first.0, first.1, orderly_both (rank row.fact + 1) a b first.2 second)

-- the first list ends at a rank, from which the others go on
pub goes_behind : (low end : ℕ) (a b : List Counted) → EndsAt low a end → Orderly low (a ++ b) ↔ Orderly end b
goes_behind low end a b h = (
  (λ ordered. subst (λ (n : ℕ). Orderly n b) (sym h.end_is) (orderly_second low a b ordered)),
  (λ ordered. orderly_both low a b h.orderly (subst (λ (n : ℕ). Orderly n b) h.end_is ordered)),
)

pub no_first : (low : ℕ) (a b : List Counted) → (Orderly low a → ⊥) → Orderly low (a ++ b) → ⊥
no_first low a b bad ordered = bad (orderly_first low a b ordered)

pub neither : (P : Type 0) → (P → ⊥) → IsTrue false ↔ P
neither P bad = ((λ e. absurd cc), (λ p. absurd (bad p)))
