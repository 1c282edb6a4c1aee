-- Instances of which the probes are told, one after the other.
use Rattle.std.proofs.Common.{◌≡◌, ℕ, suc, ◌+◌, ◌<◌, ◌≤◌, List, [], ◌∷◌, ◌++◌, ◌⊎◌, length, get_or, take, drop, Option, Some, None, Result, Ok, Err, Bool, true, false, if◌then◌else◌, refl, sym, ap, ◌∙◌, subst, arith, append_assoc, append-nil, add-one, min}
use Rattle.std.specs.Prelude.{slice_get}
use Rattle.c_base.specs.Kept.{kept}
use Rattle.c_syntax.specs.declared.text.Text.{Text}
use Rattle.std.specs.Option.{is_some}
use Rattle.std.proofs.Math.Seq.{drop-cons}
use Rattle.std.proofs.lemmas.List.{take_more}
use Rattle.c_events.specs.declared.events.Cell.{Cell}
use Rattle.c_store.specs.declared.value.Value.{Value}
use Rattle.c_store.specs.declared.value.Pointer.{Pointer}
use Rattle.c_store.specs.declared.value.Fault.{Fault}
use Rattle.c_store.specs.declared.value.Fault.TheVariants.{Dangling, OutOfBounds}
use Rattle.c_store.specs.Cells.{Cells, Slot, cell_value, is_inside, element_in, read_in}
use Rattle.c_world.specs.declared.world.Made.{Made}
use Rattle.c_world.specs.Shown.{noted, Rising, HasCell, if_living, living_of}

-- ---- whether an instance lives, by what a read of it gives

in_value : (o : Option (Option Value)) → cell_value o ≡ Err Dangling → ⊥
in_value None e = cc
in_value (Some None) e = cc
in_value (Some (Some v)) e = cc

in_element : (s : Slot) (p : Pointer) (b : Bool) → read_in (if b then Ok s else Err OutOfBounds) p ≡ Err Dangling → ⊥
in_element s p true e = in_value _ e
in_element s p false e = cc

pub read_lives : (o : Option Slot) (p : Pointer) (v : Value) → Ok v ≡ read_in (element_in o p) p → true ≡ is_some o
read_lives None p v e = cc
read_lives (Some s) p v e = refl

pub dangling_ended : (o : Option Slot) (p : Pointer) → Err Dangling ≡ read_in (element_in o p) p → false ≡ is_some o
dangling_ended None p e = refl
dangling_ended (Some s) p e = absurd (in_element s p (is_inside p (length s.cells)) (sym e))

pub fault_lives : (o : Option Slot) (p : Pointer) (f : Fault) → Err f ≡ read_in (element_in o p) p → (f ≡ Dangling → ⊥) → true ≡ is_some o
fault_lives None p f e not = absurd (not (cc))
fault_lives (Some s) p f e not = refl

-- ---- the numbers and cells of fresh instances

opened : (ms : List Made) (i : ℕ) (d : Made) → i < length ms → drop i ms ≡ get_or ms i d ∷ drop (i + 1) ms
opened ms i d h = rw add-one (drop-cons ms i d h)

pub rising_next : (ms : List Made) (i : ℕ) (d : Made) (top : ℕ) → i < length ms → Rising top (drop i ms) → Rising top (get_or ms i d ∷ drop (i + 1) ms)
rising_next ms i d top h r = subst (λ ms. Rising top ms) (opened ms i d h) r

pub rising_above : (a b : ℕ) (ms : List Made) → a ≤ b → Rising b ms → Rising a ms
rising_above a b [] h r = r
rising_above a b (m ∷ ms) h r = (omega (arith, h, r.0), r.1)

pub cell_next : (ms : List Made) (i : ℕ) (d : Made) (c : Cell) → i < length ms → HasCell c (drop i ms) → HasCell c (get_or ms i d ∷ drop (i + 1) ms)
cell_next ms i d c h r = subst (λ ms. HasCell c ms) (opened ms i d h) r

-- ---- those that live

living_last : (ms : List Made) (m : Made) (c : Cells) → living_of (ms ++ m ∷ []) c ≡ living_of ms c ++ if_living m.instance c
living_last [] m c = append-nil (if_living m.instance c)
living_last (x ∷ ms) m c = ap (λ js. if_living x.instance c ++ js) (living_last ms m c) ∙ sym (append_assoc (if_living x.instance c) (living_of ms c) (if_living m.instance c))

pub living_more : (ms : List Made) (i : ℕ) (d : Made) (c : Cells) (js : List ℕ) → i < length ms → js ++ living_of (take (i + 1) ms) c ≡ (js ++ living_of (take i ms) c) ++ if_living (get_or ms i d).instance c
living_more ms i d c js h =
    ap (λ xs. js ++ living_of xs c) (take_more ms i d h) ∙ ap (λ ks. js ++ ks) (living_last (take i ms) (get_or ms i d) c) ∙ sym (append_assoc js (living_of (take i ms) c) (if_living (get_or ms i d).instance c))

-- ---- and those that have ended

pub one_gone : (old now new gone : List ℕ) (j : ℕ) → old ≡ now ++ gone → now ≡ new ++ j ∷ [] → old ≡ new ++ j ∷ gone
one_gone old now new gone j e k = e ∙ ap (λ x. x ++ gone) k ∙ append_assoc new (j ∷ []) gone

-- ---- what is noted of a literal

pub literal_noted : (new old : List Made) (xs ys : List Text) (i k : ℕ) (x y : Text) (j count cells n : ℕ) → new ≡ old ++ record { instance = j; cells = cells } ∷ [] → j ≡ count → cells ≡ min (n + 1) 4294967295 → n ≡ length y → slice_get ys k ≡ Some y → ys ≡ xs → k ≡ i → slice_get xs i ≡ Some x → new ≡ old ++ noted (Some count) (kept (suc (length x)))
literal_noted new old xs ys i k x y j count cells n is number size len row same behind at =
    let one : Some y ≡ Some x = sym row ∙ ap (λ ys. slice_get ys k) same ∙ ap (λ k. slice_get xs k) behind ∙ at in
    let alike : y ≡ x = cc in
    let longer : n + 1 ≡ suc (length x) = omega (arith, len, ap length alike) in
    let same_size : cells ≡ kept (suc (length x)) = size ∙ ap (λ m. min m 4294967295) longer in
    is ∙ ap (λ j. old ++ record { instance = j; cells = cells } ∷ []) number ∙ ap (λ c. old ++ record { instance = count; cells = c } ∷ []) same_size
