-- A cell is written, or an element's cells are copied, and what lived lives on.
use Rattle.std.proofs.Common.{◌≡◌, ℕ, suc, List, [], ◌∷◌, Option, Some, None, Result, Ok, Err, refl, sym, ap, ◌∙◌, subst, eq-eqb, nat_eq, if◌then◌else◌, Bool, true, false}
use Rattle.std.specs.Prelude.{IsSome, length}
use Rattle.std.proofs.lemmas.Bool.{eqb-true, false≢true}
use Rattle.c_store.specs.declared.value.Value.{Value}
use Rattle.c_store.specs.declared.value.Pointer.{Pointer}
use Rattle.c_store.specs.declared.value.Fault.{Fault}
use Rattle.c_store.specs.declared.value.Fault.TheVariants.{WriteLiteral, OutOfBounds}
use Rattle.c_store.specs.Cells.{Cells, Slot, cell_of, is_inside, find, replace, with_value, element_in, element_of, write_in, write_of, IsWritten, IsLive}
use Rattle.c_store.specs.Copies.{cells_at, with_part, copied_in, copy_of}
use Rattle.std.proofs.Common.{OnErr}
use Rattle.c_world.specs.Lives.{Living}
use Rattle.c_world.proofs.Made.{living_on}

abbrev the : Slot → Option Slot → Slot
the d None = d
the d (Some s) = s

abbrev is_there : Option Slot → Bool
is_there None = false
is_there (Some s) = true

abbrev the_slot : Slot → Result Slot Fault → Slot
the_slot d (Ok s) = s
the_slot d (Err f) = d

abbrev is_ok : Result Slot Fault → Bool
is_ok (Ok s) = true
is_ok (Err f) = false

abbrev the_cells : Cells → Result Cells Fault → Cells
the_cells d (Ok c) = c
the_cells d (Err f) = d

abbrev cells_ok : Result Cells Fault → Bool
cells_ok (Ok c) = true
cells_ok (Err f) = false

some_first : (b : Bool) (t : Slot) (o : Option Slot) → IsSome o → IsSome (if b then Some t else o)
some_first true t o h = refl
some_first false t o h = h

number_at : (n : ℕ) (s t : Slot) (rest : List Slot) → (find n rest ≡ Some t → t.number ≡ n) → (b : Bool) → nat_eq s.number n ≡ b → (if b then Some s else find n rest) ≡ Some t → t.number ≡ n
number_at n s t rest on true b e = sym (ap (λ x. (the s x).number) e) ∙ eqb-true s.number n b
number_at n s t rest on false b e = on e

find_number : (n : ℕ) (live : List Slot) (t : Slot) → find n live ≡ Some t → t.number ≡ n
find_number n [] t e = absurd (false≢true (ap is_there e))
find_number n (s ∷ rest) t e = number_at n s t rest (find_number n rest t) (nat_eq s.number n) refl e

replaced_at : (n m : ℕ) (s t : Slot) (rest : List Slot) → t.number ≡ m → (IsSome (find n rest) → IsSome (find n (replace m t rest))) → (b : Bool) → nat_eq s.number m ≡ b → (d : Bool) → nat_eq s.number n ≡ d → IsSome (if d then Some s else find n rest) → IsSome (find n (if b then t ∷ rest else s ∷ replace m t rest))
replaced_at n m s t rest number on true b true d h = rw (eq-eqb t.number n (number ∙ sym (eqb-true s.number m b) ∙ eqb-true s.number n d)) refl
replaced_at n m s t rest number on true b false d h = some_first (nat_eq t.number n) t (find n rest) h
replaced_at n m s t rest number on false b true d h = rw d refl
replaced_at n m s t rest number on false b false d h = rw d (on h)

replaced : (n m : ℕ) (t : Slot) (live : List Slot) → t.number ≡ m → IsSome (find n live) → IsSome (find n (replace m t live))
replaced n m t [] number h = h
replaced n m t (s ∷ rest) number h = replaced_at n m s t rest number (replaced n m t rest number) (nat_eq s.number m) refl (nat_eq s.number n) refl h

-- ---- the store

pub record Alike (c d : Cells) : Type 0 where
  pub most : d.most ≡ c.most
  pub count : d.count ≡ c.count
  pub live : (n : ℕ) → IsLive n c → IsLive n d

found_at : (s t : Slot) (p : Pointer) (b : Bool) → (if b then Ok s else Err OutOfBounds) ≡ Ok t → s ≡ t
found_at s t p true e = ap (λ x. the_slot s x) e
found_at s t p false e = absurd (false≢true (ap is_ok e))

element_number : (o : Option Slot) (p : Pointer) (t : Slot) → ((s : Slot) → o ≡ Some s → s.number ≡ p.instance) → element_in o p ≡ Ok t → t.number ≡ p.instance
element_number None p t on e = absurd (false≢true (ap is_ok e))
element_number (Some s) p t on e = let k : s ≡ t = found_at s t p (is_inside p (length s.cells)) e in sym (ap (λ (x : Slot). x.number) k) ∙ on s refl

written_at : (c d : Cells) (s : Slot) (n : ℕ) → s.number ≡ n → (b : Bool) → (if b then Ok (record c { live = replace n s c.live }) else Err WriteLiteral) ≡ Ok d → Alike c d
written_at c d s n number true e = subst (λ x. Alike c x) (ap (λ x. the_cells c x) e) (record { most = refl; count = refl; live = λ m h. replaced m n s c.live number h })
written_at c d s n number false e = absurd (false≢true (ap cells_ok e))

written_in : (c d : Cells) (r : Result Slot Fault) (p : Pointer) (v : Value) → ((s : Slot) → r ≡ Ok s → s.number ≡ p.instance) → write_in c r p v ≡ Ok d → Alike c d
written_in c d (Err fault) p v on e = absurd (false≢true (ap cells_ok e))
written_in c d (Ok s) p v on e = written_at c d (with_value s (cell_of p) v) p.instance (on s refl) s.writable e

copied_within : (c d : Cells) (r : Result Slot Fault) (p : Pointer) (r' : Result Slot Fault) (q : Pointer) → ((s : Slot) → r' ≡ Ok s → s.number ≡ q.instance) → copied_in c r p r' q ≡ Ok d → Alike c d
copied_within c d (Err fault) p r' q on e = absurd (false≢true (ap cells_ok e))
copied_within c d (Ok s) p (Err fault) q on e = absurd (false≢true (ap cells_ok e))
copied_within c d (Ok s) p (Ok t) q on e = written_at c d (record t { cells = with_part t.cells (cell_of q) (cells_at s p) }) q.instance (on t refl) t.writable e

numbered : (c : Cells) (p : Pointer) (s : Slot) → element_of c.live p ≡ Ok s → s.number ≡ p.instance
numbered c p s k = element_number (find p.instance c.live) p s (λ t f. find_number p.instance c.live t f) k

written : (c d : Cells) (p : Pointer) (v : Value) → write_of c p v ≡ Ok d → Alike c d
written c d p v e = written_in c d (element_of c.live p) p v (numbered c p) e

copied : (c d : Cells) (p q : Pointer) → copy_of c p q ≡ Ok d → Alike c d
copied c d p q e = copied_within c d (element_of c.live p) p (element_of c.live q) q (numbered c q) e

pub record Kept (c d : Cells) (js : List ℕ) : Type 0 where
  pub most : d.most ≡ c.most
  pub count : d.count ≡ c.count
  pub living : Living (suc d.count) js d

alike_kept : (c d : Cells) (js : List ℕ) → Alike c d → Living (suc c.count) js c → Kept c d js
alike_kept c d js a living = record { most = a.most; count = a.count; living = subst (λ n. Living (suc n) js d) (sym a.count) (living_on (suc c.count) js c d a.live living) }

either_way : (c d : Cells) (js : List ℕ) (r : Result (Unit {0}) Fault) (w : Result Cells Fault) → (w ≡ Ok d → Alike c d) → IsWritten r d w → OnErr r (d ≡ c) → Living (suc c.count) js c → Kept c d js
either_way c d js (Ok u) w alike is kept living = alike_kept c d js (alike is) living
either_way c d js (Err fault) w alike is kept living = subst (λ x. Kept c x js) (sym kept) (record { most = refl; count = refl; living = living })

pub either : (c d : Cells) (p : Pointer) (v : Value) (js : List ℕ) (r : Result (Unit {0}) Fault) → IsWritten r d (write_of c p v) → OnErr r (d ≡ c) → Living (suc c.count) js c → Kept c d js
either c d p v js r is kept living = either_way c d js r (write_of c p v) (written c d p v) is kept living

-- the same of a copy
pub either_copied : (c d : Cells) (p q : Pointer) (js : List ℕ) (r : Result (Unit {0}) Fault) → IsWritten r d (copy_of c p q) → OnErr r (d ≡ c) → Living (suc c.count) js c → Kept c d js
either_copied c d p q js r is kept living = either_way c d js r (copy_of c p q) (copied c d p q) is kept living
