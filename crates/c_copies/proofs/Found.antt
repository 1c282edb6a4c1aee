-- Which instance is found, what its cells read, and what another instance in its place leaves as it was.
use Rattle.std.proofs.Common.{◌≡◌, ℕ, List, [], ◌∷◌, length, Option, Some, None, Result, Ok, Err, Bool, true, false, nat_eq, refl, sym, ap, ◌∙◌, arith, eq-eqb, ne_eqb, if◌then◌else◌}
use Rattle.std.specs.Prelude.{map, slice_get}
use Rattle.std.proofs.lemmas.Bool.{eqb-true}
use Rattle.std.proofs.lemmas.Bool.Decides.{nat_tests}
use Rattle.std.proofs.lemmas.Option.{slice_get_past}
use Rattle.c_store.specs.declared.value.Value.{Value}
use Rattle.c_store.specs.declared.value.Fault.{Fault}
use Rattle.c_store.specs.declared.value.Fault.TheVariants.{Dangling, OutOfBounds}
use Rattle.c_store.specs.Cells.{Slot, Cells, is_inside, find, replace, cell_value, element_in, read_in}
use Rattle.c_copies.specs.Laws.{cell_at, reads, outline}
use Rattle.c_copies.proofs.Lists.{by_test}

-- ---- what a cell reads

abbrev pub read_at : Option Slot → ℕ → Result Value Fault
read_at None k = Err Dangling
read_at (Some s) k = cell_value (slice_get s.cells k)

read_by : (s : Slot) (n k : ℕ) (b : Bool) → is_inside (cell_at n k) (length s.cells) ≡ b → read_in (if b then Ok s else Err OutOfBounds) (cell_at n k) ≡ cell_value (slice_get s.cells k)
read_by s n k true t = ap (λ i. cell_value (slice_get s.cells i)) (omega arith)
read_by s n k false t = ap cell_value (sym (slice_get_past s.cells k (grind (arith, nat_tests))))

read_found : (o : Option Slot) (n k : ℕ) → read_in (element_in o (cell_at n k)) (cell_at n k) ≡ read_at o k
read_found None n k = refl
read_found (Some s) n k = read_by s n k (is_inside (cell_at n k) (length s.cells)) refl

pub reads_found : (c : Cells) (n k : ℕ) → reads c n k ≡ read_at (find n c.live) k
reads_found c n k = read_found (find n c.live) n k

-- ---- instances by number

pub find_number : (n : ℕ) (live : List Slot) (s : Slot) → find n live ≡ Some s → s.number ≡ n
find_number n [] s f = cc
find_number n (x ∷ rest) s f = by_test (nat_eq x.number n) (λ t. let g : Some x ≡ Some s = rw t at f in let e : x ≡ s = cc in ap (λ (q : Slot). q.number) (sym e) ∙ eqb-true x.number n t) (λ t. find_number n rest s (rw t at f))

pub find_same : (n : ℕ) (u s : Slot) (live : List Slot) → u.number ≡ n → find n live ≡ Some s → find n (replace n u live) ≡ Some u
find_same n u s [] e f = absurd (let g : None ≡ Some s = f in cc)
find_same n u s (x ∷ rest) e f = by_test (nat_eq x.number n) (λ t. rw t (rw (eq-eqb u.number n e) refl)) (λ t. rw (t, t) (find_same n u s rest e (rw t at f)))

pub find_other : (n m : ℕ) (u : Slot) (live : List Slot) → u.number ≡ m → (n ≡ m → ⊥) → find n (replace m u live) ≡ find n live
find_other n m u [] e f = refl
find_other n m u (x ∷ rest) e f = by_test (nat_eq x.number m)
    (λ t. rw t (rw (ne_eqb u.number n (λ h. f (sym h ∙ e)), ne_eqb x.number n (λ h. f (sym h ∙ eqb-true x.number m t))) refl))
    (λ t. rw t (by_test (nat_eq x.number n) (λ h. rw h refl) (λ h. rw h (find_other n m u rest e f))))

pub outlines_stay : (n : ℕ) (u s : Slot) (live : List Slot) → find n live ≡ Some s → outline u ≡ outline s → map outline (replace n u live) ≡ map outline live
outlines_stay n u s [] f e = refl
outlines_stay n u s (x ∷ rest) f e = by_test (nat_eq x.number n)
    (λ t. let g : Some x ≡ Some s = rw t at f in let h : x ≡ s = cc in rw t (ap (λ o. o ∷ map outline rest) (e ∙ ap outline (sym h))))
    (λ t. rw t (ap (λ l. outline x ∷ l) (outlines_stay n u s rest (rw t at f) e)))

pub replace_same : (n : ℕ) (s : Slot) (live : List Slot) → find n live ≡ Some s → replace n s live ≡ live
replace_same n s [] f = refl
replace_same n s (x ∷ rest) f = by_test (nat_eq x.number n)
    (λ t. let g : Some x ≡ Some s = rw t at f in let h : x ≡ s = cc in rw t (ap (λ y. y ∷ rest) (sym h)))
    (λ t. rw t (ap (λ l. x ∷ l) (replace_same n s rest (rw t at f))))
