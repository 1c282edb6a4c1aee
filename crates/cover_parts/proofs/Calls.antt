-- The collector's calls, over its parts.
use Rattle.std.proofs.Common.{◌≡◌, ◌≢◌, ◌+◌, ◌<◌, ◌≤◌, ℕ, zero, suc, List, [], ◌∷◌, ◌++◌, length, Option, Some, None, Result, Ok, Err, refl, sym, ap, ◌∙◌, subst, arith, inl, inr, eq-eqb}
use Rattle.std.specs.Prelude.{nat_eq, IsSome, OnOk, OnErr, slice_get, slice_set, replicate}
use Rattle.std.proofs.lemmas.Bool.{eqb-true}
use Rattle.c_events.specs.declared.events.Cell.{Cell}
use Rattle.c_base.specs.declared.place.NoMemory.{NoMemory}
use Rattle.cover_parts.specs.Rows.{Slot, Table, IsTable, cell_count, word_of, put, find, replace, without}
use Rattle.cover_parts.specs.Lives.{lives, cells_of, less}
use Rattle.cover_parts.proofs.Places.{put_at, put_none, put_other, new_other, new_at, ended_other, word_below}
use Rattle.cover_parts.proofs.Cases.{by_test, not_true}

pub cells_counted : (live : List Slot) → cell_count live ≡ cells_of (lives live)
cells_counted [] = refl
cells_counted (s ∷ rest) = ap (λ n. length s.words + n) (cells_counted rest)

-- THE WORD OF A CELL THAT IS TAKEN

pub word : (o : Option (Option ℕ)) → IsSome o → (w : Option ℕ) × (o ≡ Some w)
word None h = absurd (cc)
word (Some w) h = (w, refl)

is_word : (o : Option (Option ℕ)) (w : Option ℕ) → o ≡ Some w → IsSome o
is_word o w e = rw e refl

pub taken_below : (R : Table) (c : Cell) → IsTable R → IsSome (word_of R.live c) → c.instance ≤ R.top
taken_below R c t h = let w = word (word_of R.live c) h in word_below R c w.0 t w.1

-- CELLS STAY TAKEN

pub put_stays : (R R' : Table) (c b : Cell) (d : ℕ) → R' ≡ record { top = R.top; live = put c d R.live } → IsSome (word_of R.live b) → IsSome (word_of R'.live b)
put_stays R R' c b d q h = subst (λ (x : Table). IsSome (word_of x.live b)) (sym q) (by_test (nat_eq c.instance b.instance)
    (λ x. by_test (nat_eq c.index b.index)
    (λ y.
    let e : c ≡ b = cells c b (eqb-true c.instance b.instance x) (eqb-true c.index b.index y) in
    let w = word (word_of R.live b) h in
    is_word (word_of (put c d R.live) b) (Some d) (ap (λ (z : Cell). word_of (put z d R.live) b) e ∙ put_at R.live b d w.0 w.1))
    (λ y. subst IsSome (sym (put_other R.live c b d (inr (λ e. not_true (nat_eq c.index b.index) y (eq-eqb c.index b.index e))))) h))
    (λ x. subst IsSome (sym (put_other R.live c b d (inl (λ e. not_true (nat_eq c.instance b.instance) x (eq-eqb c.instance b.instance e))))) h))
  where
    cells : (c b : Cell) → c.instance ≡ b.instance → c.index ≡ b.index → c ≡ b
    cells c b p q =
        let one : ◌≡◌ {A = Cell} c (record { instance = b.instance; index = c.index }) = ap (λ (x : ℕ). record { instance = x; index = c.index }) p in
        let two : ◌≡◌ {A = Cell} (record { instance = b.instance; index = c.index }) b = ap (λ (x : ℕ). record { instance = b.instance; index = x }) q in
        one ∙ two

-- a definition of a cell that isn't taken changes nothing
pub put_untaken : (R R' : Table) (c : Cell) (d : ℕ) → R' ≡ record { top = R.top; live = put c d R.live } → (IsSome (word_of R.live c) → ⊥) → R' ≡ R
put_untaken R R' c d q n = q ∙ ap (λ (l : List Slot). record { top = R.top; live = l }) (put_none R.live c d (none (word_of R.live c) n))
  where
    none : (o : Option (Option ℕ)) → (IsSome o → ⊥) → o ≡ None
    none None n = refl
    none (Some w) n = absurd (n refl)

abbrev no_word : Option ℕ
no_word = None

has_word : (n k : ℕ) → k < n → slice_get (replicate n no_word) k ≡ Some None
has_word zero k h = absurd (omega arith)
has_word (suc n) zero h = refl
has_word (suc n) (suc k) h = has_word n k (omega arith)

pub made_taken : (R R' : Table) (n cells : ℕ) (b : Cell) → IsTable R → R.top < n → R' ≡ record { top = n; live = R.live ++ record { number = n; words = replicate cells None } ∷ [] } → b.instance ≡ n → b.index < cells → IsSome (word_of R'.live b)
made_taken R R' n cells b t l q e k = subst (λ (x : Table). IsSome (word_of x.live b)) (sym q) (is_word _ None (new_at R.top R.live (record { number = n; words = replicate cells None }) b t l (sym e) ∙ has_word cells b.index k))

pub made_stays : (R R' : Table) (n cells : ℕ) (b : Cell) → IsTable R → R.top < n → R' ≡ record { top = n; live = R.live ++ record { number = n; words = replicate cells None } ∷ [] } → IsSome (word_of R.live b) → IsSome (word_of R'.live b)
made_stays R R' n cells b t l q h = subst (λ (x : Table). IsSome (word_of x.live b)) (sym q) (subst IsSome (sym (new_other R.live (record { number = n; words = replicate cells None }) b (λ e. absurd (omega (arith, taken_below R b t h, e, l))))) h)

pub ended_stays : (R R' : Table) (n : ℕ) (b : Cell) → b.instance ≢ n → R' ≡ record { top = R.top; live = without n R.live } → IsSome (word_of R.live b) → IsSome (word_of R'.live b)
ended_stays R R' n b ne q h = subst (λ (x : Table). IsSome (word_of x.live b)) (sym q) (subst IsSome (sym (ended_other R.live n b (λ e. ne (sym e)))) h)

-- BOTH ANSWERS OF `made`

pub on_both : (r : Result (Unit {0}) NoMemory) (P : Type 0) → OnOk r P → OnErr r P → P
on_both (Ok x) P a b = a
on_both (Err e) P a b = b

pub both_err : {A B C : Type 0} (r : Result (Unit {0}) NoMemory) → (A → B → C) → OnErr r A → OnErr r B → OnErr r C
both_err (Ok x) f h k = tt
both_err (Err e) f h k = f h k

pub both_ok : {A B C : Type 0} (r : Result (Unit {0}) NoMemory) → (A → B → C) → OnOk r A → OnOk r B → OnOk r C
both_ok (Ok x) f h k = f h k
both_ok (Err e) f h k = tt

-- THE LIVE INSTANCES AND THEIR CELLS

pub lives_without : (n : ℕ) (live : List Slot) → lives (without n live) ≡ less n (lives live)
lives_without n [] = refl
lives_without n (s ∷ rest) = by_test (nat_eq s.number n) (λ b. rw b refl) (λ b. rw b (ap (λ l. (s.number, length s.words) ∷ l) (lives_without n rest)))

lives_replaced : (n : ℕ) (t s : Slot) (live : List Slot) → find n live ≡ Some s → t.number ≡ s.number → length t.words ≡ length s.words → lives (replace n t live) ≡ lives live
lives_replaced n t s [] f e l = refl
lives_replaced n t s (x ∷ rest) f e l = by_test (nat_eq x.number n)
    (λ b. let k : Some x ≡ Some s = rw b at f in let q : x ≡ s = cc in rw b (ap (λ (p : ℕ × ℕ). p ∷ lives rest) (ap (λ (j : ℕ). (j, length t.words)) e ∙ ap (λ (j : ℕ). (s.number, j)) l ∙ ap (λ (y : Slot). (y.number, length y.words)) (sym q))))
    (λ b. rw b (ap (λ r. (x.number, length x.words) ∷ r) (lives_replaced n t s rest (rw b at f) e l)))

set_length : (words : List (Option ℕ)) (k : ℕ) (v : Option ℕ) → length (slice_set words k v) ≡ length words
set_length [] k v = refl
set_length (x ∷ words) zero v = refl
set_length (x ∷ words) (suc k) v = ap suc (set_length words k v)

pub lives_put : (c : Cell) (d : ℕ) (live : List Slot) → lives (put c d live) ≡ lives live
lives_put c d live = go (find c.instance live) refl
  where
    go : (o : Option Slot) → find c.instance live ≡ o → lives (put c d live) ≡ lives live
    go None e = rw e refl
    go (Some s) e = rw e (lives_replaced c.instance (record { number = s.number; words = slice_set s.words c.index (Some d) }) s live e refl (set_length s.words c.index (Some d)))
