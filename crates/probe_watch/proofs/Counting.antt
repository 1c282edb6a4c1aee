-- A table of counts, with one event more; and the lines that are written from it.
use Rattle.std.proofs.Common.{◌≡◌, ◌≢◌, ℕ, ◌+◌, ◌-◌, ◌^◌, ◌<◌, ◌≤◌, min, max, Bool, true, false, nat_eq, cond, zero, suc, List, [], ◌∷◌, ◌++◌, length, get_or, set, count_by, slice_index, refl, sym, ap, ◌∙◌, append-nil, append_assoc, arith, add-one}
use Rattle.std.proofs.lemmas.List.{length-set, get_or-set_same, get_or-set_other, get_or_default}
use Rattle.std.proofs.lemmas.List.Sums.{sum_by-append}
use Rattle.std.proofs.lemmas.Bool.Decides.{nat_tests}
use Rattle.std.proofs.lemmas.Bool.{eqb-true, eqb-false}
use Rattle.c_events.specs.declared.events.Event.{Event}
use Rattle.c_events.specs.declared.events.Event.TheVariants as event
use Rattle.probe_watch.specs.Texts.{count_line}
use Rattle.probe_watch.specs.Counts.{enters, times, past_block, past_blocks, line_of, lines_below, counts_text, Counts}

-- ---- one event more

past_more : (h : List Event) (e : Event) → past_blocks (h ++ e ∷ []) ≡ max (past_blocks h) (past_block e)
past_more [] e = omega arith
past_more (d ∷ h) e = let r = past_more h e in omega arith

count_more : (h : List Event) (e : Event) (k : ℕ) → count_by (enters k) (h ++ e ∷ []) ≡ count_by (enters k) h + cond (enters k e) 1 0
count_more h e k = sum_by-append (λ x. cond (enters k x) 1 0) h (e ∷ []) ∙ ap (λ n. count_by (enters k) h + n) (omega arith)

-- an event that enters no block
pub passed : (counts : List ℕ) (h : List Event) (e : Event) → past_block e ≡ 0 → ((k : ℕ) → enters k e ≡ false) → Counts counts h → Counts counts (h ++ e ∷ [])
passed counts h e low none c = record {
  far = let f = c.far in let p = past_more h e in omega arith;
  each = λ k. c.each k ∙ ap (λ n. min n (2 ^ 64 - 1)) (sym (count_more h e k ∙ ap (λ b. count_by (enters k) h + cond b 1 0) (none k) ∙ omega arith));
}

pub other_passes : (counts : List ℕ) (h : List Event) (e : Event) → ((k : ℕ) → e ≡ event.Block k → ⊥) → Counts counts h → Counts counts (h ++ e ∷ [])
other_passes counts h (event.Block k) other c = absurd (other k refl)
other_passes counts h (event.Def d cell) other c = passed counts h (event.Def d cell) refl (λ k. refl) c
other_passes counts h (event.Use u cell a) other c = passed counts h (event.Use u cell a) refl (λ k. refl) c
other_passes counts h (event.Test k o a) other c = passed counts h (event.Test k o a) refl (λ k. refl) c

-- the entry of a block
own_more : (h : List Event) (k n m : ℕ) → n ≡ times k h → m ≡ min (n + 1) (2 ^ 64 - 1) → m ≡ times k (h ++ event.Block k ∷ [])
own_more h k n m e f = let r = count_more h (event.Block k) k in grind (arith, nat_tests)

other_more : (h : List Event) (k j n : ℕ) → j ≢ k → n ≡ times j h → n ≡ times j (h ++ event.Block k ∷ [])
other_more h k j n d e = let r = count_more h (event.Block k) j in grind (arith, nat_tests)

each_more : (old new : List ℕ) (h : List Event) (k : ℕ) → slice_index new k ≡ min (slice_index old k + 1) (2 ^ 64 - 1) → ((j : ℕ) → j ≢ k → slice_index new j ≡ slice_index old j) → Counts old h → (j : ℕ) → (b : Bool) → nat_eq j k ≡ b → slice_index new j ≡ times j (h ++ event.Block k ∷ [])
each_more old new h k here others c j true e = rw (eqb-true j k e) (own_more h k (slice_index old k) (slice_index new k) (c.each k) here)
each_more old new h k here others c j false e = let d : j ≢ k = eqb-false j k e in other_more h k j (slice_index new j) d (others j d ∙ c.each j)

pub counted : (old new : List ℕ) (h : List Event) (k : ℕ) → k < length new → length old ≤ length new → slice_index new k ≡ min (slice_index old k + 1) (2 ^ 64 - 1) → ((j : ℕ) → j ≢ k → slice_index new j ≡ slice_index old j) → Counts old h → Counts new (h ++ event.Block k ∷ [])
counted old new h k in_new longer here others c = record {
  far = let f = c.far in let p = past_more h (event.Block k) in omega arith;
  each = λ j. each_more old new h k here others c j (nat_eq j k) refl;
}

-- the same where the table was widened first
pub set_counted : (old wide : List ℕ) (h : List Event) (k read more : ℕ) → k < length wide → length old ≤ length wide → ((j : ℕ) → slice_index wide j ≡ slice_index old j) → read ≡ get_or wide k read → more ≡ min (read + 1) (2 ^ 64 - 1) → Counts old h → Counts (set wide k more) (h ++ event.Block k ∷ [])
set_counted old wide h k read more inside longer same is sum c =
    let r : read ≡ slice_index old k = is ∙ get_or_default wide k read 0 inside ∙ same k in
    counted old (set wide k more) h k (omega (arith, length-set wide k more)) (omega (arith, length-set wide k more))
    (get_or-set_same wide k more 0 inside ∙ sum ∙ ap (λ n. min (n + 1) (2 ^ 64 - 1)) r) (λ j d. get_or-set_other wide k j more 0 d ∙ same j) c

-- ---- the lines

past_none : (h : List Event) (k : ℕ) → past_blocks h ≤ k → count_by (enters k) h ≡ 0
past_none [] k p = refl
past_none (event.Block j ∷ h) k p = let r = past_none h k (omega arith) in grind (arith, nat_tests)
past_none (event.Def d c ∷ h) k p = let r = past_none h k (omega arith) in omega arith
past_none (event.Use u c a ∷ h) k p = let r = past_none h k (omega arith) in omega arith
past_none (event.Test j o a ∷ h) k p = let r = past_none h k (omega arith) in omega arith

no_line : (h : List Event) (k : ℕ) → past_blocks h ≤ k → line_of k (times k h) ≡ []
no_line h k p = ap (λ n. line_of k (min n (2 ^ 64 - 1))) (past_none h k p)

lines_on : (h : List Event) (d : ℕ) → lines_below (d + past_blocks h) h ≡ counts_text h
lines_on h zero = let e : 0 + past_blocks h ≡ past_blocks h = omega arith in ap (λ n. lines_below n h) e
lines_on h (suc d) =
    let e : suc d + past_blocks h ≡ suc (d + past_blocks h) = omega arith in
    ap (λ n. lines_below n h) e ∙ ap (λ l. lines_below (d + past_blocks h) h ++ l) (no_line h (d + past_blocks h) (omega arith))
    ∙ append-nil (lines_below (d + past_blocks h) h) ∙ lines_on h d

-- no line stands behind that of the greatest number
pub lines_past : (h : List Event) (n : ℕ) → past_blocks h ≤ n → lines_below n h ≡ counts_text h
lines_past h n p =
    let e : n ≡ n - past_blocks h + past_blocks h = omega arith in
    ap (λ m. lines_below m h) e ∙ lines_on h (n - past_blocks h)

-- the lines of one number more
pub lines_more : (h : List Event) (k : ℕ) → lines_below (k + 1) h ≡ lines_below k h ++ line_of k (times k h)
lines_more h k = ap (λ n. lines_below n h) (add-one k)

-- a number that was counted, and one that wasn't
pub line_with : (old text new : List ℕ) (counts : List ℕ) (h : List Event) (k : ℕ) → Counts counts h → 0 < slice_index counts k → text ≡ old ++ lines_below k h → new ≡ text ++ count_line k (slice_index counts k) → new ≡ old ++ lines_below (k + 1) h
line_with old text new counts h k c some e f =
    let n = slice_index counts k in
    let b : nat_eq n 0 ≡ false = grind (arith, nat_tests) in
    let l : line_of k n ≡ count_line k n = ap (λ x. cond x [] (count_line k n)) b in
    f ∙ ap (λ x. x ++ count_line k n) e ∙ append_assoc old (lines_below k h) (count_line k n)
    ∙ ap (λ x. old ++ (lines_below k h ++ x)) (sym l ∙ ap (line_of k) (c.each k)) ∙ ap (λ x. old ++ x) (sym (lines_more h k))

pub line_without : (old new : List ℕ) (counts : List ℕ) (h : List Event) (k : ℕ) → Counts counts h → slice_index counts k ≤ 0 → new ≡ old ++ lines_below k h → new ≡ old ++ lines_below (k + 1) h
line_without old new counts h k c none e =
    let z : slice_index counts k ≡ 0 = omega arith in
    let l : line_of k (times k h) ≡ [] = ap (line_of k) (sym (c.each k) ∙ z) in
    e ∙ ap (λ x. old ++ x) (sym (append-nil (lines_below k h)) ∙ ap (λ x. lines_below k h ++ x) (sym l) ∙ sym (lines_more h k))
