-- Where a live instance stands.
use Rattle.std.proofs.Common.{◌≡◌, ℕ, ℤ, pos, ◌+ℤ◌, le-leb, zero, suc, ◌+◌, ◌-◌, ◌<◌, ◌≤◌, List, [], ◌∷◌, ◌++◌, length, get_or, take, drop, Option, Some, None, refl, sym, ap, ◌∙◌, subst, arith, eq-eqb, ne_eqb, Ok, Err, Bool, true, false, nat_eq, if◌then◌else◌}
use Rattle.std.proofs.lemmas.Bool.{eqb-true}
use Rattle.std.proofs.lemmas.Bool.Decides.{nat_tests}
use Rattle.c_store.specs.declared.value.Value.TheVariants.{At}
use Rattle.c_store.specs.declared.value.Fault.TheVariants.{OutOfBounds}
use Rattle.std.specs.Prelude.{map, slice_get, slice_set}
use Rattle.c_store.specs.declared.instance.Instance.{Instance}
use Rattle.c_store.specs.declared.value.Value.{Value}
use Rattle.c_store.specs.declared.value.Pointer.{Pointer}
use Rattle.c_store.specs.Held.{cells_in}
use Rattle.c_store.specs.Cells.{Slot, Cells, slot_of, cell_count, cell_of, is_inside, with_value, write_of, find, replace, without, stepped, Ascending, IsPlace, IsElement, element_of}

record Stands (low : ℕ) (all : List Instance) (i : ℕ) (item : Instance) : Type 0 where
  above : low < item.number
  got : slice_get (map slot_of all) i ≡ Some (slot_of item)
  found : find item.number (map slot_of all) ≡ Some (slot_of item)
  replaced : (t : Slot) → replace item.number t (map slot_of all) ≡ slice_set (map slot_of all) i t

stands_first : (low : ℕ) (x : Instance) (all : List Instance) → low < x.number → Stands low (x ∷ all) 0 x
stands_first low x all h = record { above = h; got = refl; found = rw (eq-eqb x.number x.number refl) refl; replaced = λ t. rw (eq-eqb x.number x.number refl) refl }

stands : (low top : ℕ) (all : List Instance) (i : ℕ) (item : Instance) → Ascending low top (map slot_of all) → i < length all → item ≡ get_or all i item → Stands low all i item
stands low top [] i item r h e = absurd (omega arith)
stands low top (x ∷ all) zero item r h e = subst (λ y. Stands low (x ∷ all) 0 y) (sym e) (stands_first low x all r.0)
stands low top (x ∷ all) (suc i) item r h e =
    let s = stands x.number top all i item r.1 (omega arith) e in
    let n = ne_eqb x.number item.number (λ y. absurd (omega (arith, y, s.above))) in
    record { above = omega (arith, r.0, s.above); got = s.got; found = rw n s.found; replaced = λ t. rw n (ap (λ l. slot_of x ∷ l) (s.replaced t)) }

pub stands_at : (top n : ℕ) (all : List Instance) (i : ℕ) (item : Instance) → Ascending 0 top (map slot_of all) → i < length all → item ≡ get_or all i item → item.number ≡ n → IsPlace n (map slot_of all) (Some i)
stands_at top n all i item r h e m =
    let s = stands 0 top all i item r h e in
    subst (λ n. IsPlace n (map slot_of all) (Some i)) m (slot_of item, s.got, s.found, s.replaced)

passed_by : (low top n : ℕ) (all : List Instance) (i : ℕ) (item : Instance) → Ascending low top (map slot_of all) → i < length all → item ≡ get_or all i item → item.number < n → find n (map slot_of (drop (suc i) all)) ≡ None → find n (map slot_of all) ≡ None
passed_by low top n [] i item r h e m z = absurd (omega arith)
passed_by low top n (x ∷ all) zero item r h e m z = rw (ne_eqb x.number n (λ y. absurd (omega (arith, y, m, ap (λ (q : Instance). q.number) e)))) z
passed_by low top n (x ∷ all) (suc i) item r h e m z =
    let s = stands x.number top all i item r.1 (omega arith) e in
    rw (ne_eqb x.number n (λ y. absurd (omega (arith, y, m, s.above)))) (passed_by x.number top n all i item r.1 (omega arith) e m z)

-- from an instance with a lower number on, only what stands after it may be the one
pub passed : (low top n : ℕ) (all : List Instance) (i j : ℕ) (item : Instance) → Ascending low top (map slot_of all) → i < length all → item ≡ get_or all i item → item.number < n → j ≡ suc i → find n (map slot_of (drop j all)) ≡ None → find n (map slot_of all) ≡ None
passed low top n all i j item r h e m k z = passed_by low top n all i item r h e m (subst (λ j. find n (map slot_of (drop j all)) ≡ None) k z)

none_above : (low top n : ℕ) (live : List Slot) → n ≤ low → Ascending low top live → find n live ≡ None
none_above low top n [] h r = refl
none_above low top n (s ∷ rest) h r = rw (ne_eqb s.number n (λ y. absurd (omega (arith, y, h, r.0)))) (none_above s.number top n rest (omega (arith, h, r.0)) r.1)

-- from an instance with a higher number on, none is the one
pub ahead : (low top n : ℕ) (all : List Instance) (i : ℕ) (item : Instance) → Ascending low top (map slot_of all) → i < length all → item ≡ get_or all i item → n < item.number → find n (map slot_of (drop i all)) ≡ None
ahead low top n [] i item r h e m = absurd (omega arith)
ahead low top n (x ∷ all) zero item r h e m = none_above (x.number - 1) top n (map slot_of (x ∷ all)) (omega (arith, m, ap (λ (q : Instance). q.number) e)) (omega (arith, m, ap (λ (q : Instance). q.number) e), r.1)
ahead low top n (x ∷ all) (suc i) item r h e m = ahead x.number top n all i item r.1 (omega arith) e m

pub map_set : (all : List Instance) (i : ℕ) (y : Instance) → map slot_of (slice_set all i y) ≡ slice_set (map slot_of all) i (slot_of y)
map_set [] i y = refl
map_set (x ∷ all) zero y = refl
map_set (x ∷ all) (suc i) y = ap (λ l. slot_of x ∷ l) (map_set all i y)

abbrev the : Option Slot → Slot → Slot
the None d = d
the (Some s) d = s

abbrev Empty : Option Slot → Type 0
Empty None = Unit {0}
Empty (Some s) = ⊥

pub same_slot : (all : List Instance) (i : ℕ) (item : Instance) (s : Slot) → slice_get (map slot_of all) i ≡ Some s → item ≡ get_or all i item → s ≡ slot_of item
same_slot [] i item s g e = absurd (subst Empty g tt)
same_slot (x ∷ all) zero item s g e = sym (ap (λ o. the o s) g) ∙ ap slot_of (sym e)
same_slot (x ∷ all) (suc i) item s g e = same_slot all i item s g e

pub chosen : {A : Type 0} (b : Bool) (x y : A) → b ≡ true → (if b then x else y) ≡ x
chosen b x y e = rw e refl

pub write_done : (now : Cells) (most made : ℕ) (all : List Instance) (p : Pointer) (v : Value) (i : ℕ) (item y : Instance) → record { most = most; count = made; live = map slot_of all } ≡ now → IsElement p now.live (Ok i) → item ≡ get_or all i item → item.writable ≡ true → slot_of y ≡ with_value (slot_of item) (cell_of p) v → write_of now p v ≡ Ok (record { most = most; count = made; live = map slot_of (slice_set all i y) })
write_done now most made all p v i item y view element e w sy =
    let P : Cells → Type 0 = λ c. IsElement p c.live (Ok i) in
    let el : IsElement p (map slot_of all) (Ok i) = subst P (sym view) element in
    let f : element_of (map slot_of all) p ≡ Ok (slot_of item) = el.2 ∙ ap (λ (s : Slot). Ok s) (same_slot all i item el.0 el.1 e) in
    let g : replace p.instance (with_value (slot_of item) (cell_of p) v) (map slot_of all) ≡ map slot_of (slice_set all i y) = el.3 (with_value (slot_of item) (cell_of p) v) ∙ ap (λ t. slice_set (map slot_of all) i t) (sym sy) ∙ sym (map_set all i y) in
    let Q : Cells → Type 0 = λ c. write_of c p v ≡ Ok (record { most = most; count = made; live = map slot_of (slice_set all i y) }) in
    subst Q view (rw f (chosen _ _ _ w ∙ ap (λ l. Ok (record { most = most; count = made; live = l })) g))

pub inside_first : (p : Pointer) (n : ℕ) → is_inside p n ≡ true → cell_of p < n
inside_first p n t = grind (arith, nat_tests)

pub room_at : (now : Cells) (most made : ℕ) (all : List Instance) (p : Pointer) (i : ℕ) (item : Instance) → record { most = most; count = made; live = map slot_of all } ≡ now → IsElement p now.live (Ok i) → item ≡ get_or all i item → cell_of p < length (cells_in item.cells)
room_at now most made all p i item view element e =
    let P : Cells → Type 0 = λ c. IsElement p c.live (Ok i) in
    let el : IsElement p (map slot_of all) (Ok i) = subst P (sym view) element in
    inside_first p (length (cells_in item.cells)) (ap (λ (s : Slot). is_inside p (length s.cells)) (sym (same_slot all i item el.0 el.1 e)) ∙ el.4)

pub cells_set : (all : List Instance) (i : ℕ) (item y : Instance) → item ≡ get_or all i item → length (cells_in y.cells) ≡ length (cells_in item.cells) → cell_count (map slot_of (slice_set all i y)) ≡ cell_count (map slot_of all)
cells_set [] i item y e n = refl
cells_set (x ∷ all) zero item y e n = ap (λ k. k + cell_count (map slot_of all)) (n ∙ ap (λ (q : Instance). length (cells_in q.cells)) e)
cells_set (x ∷ all) (suc i) item y e n = ap (λ k. length (cells_in x.cells) + k) (cells_set all i item y e n)

pub ascending_set : (low top : ℕ) (all : List Instance) (i : ℕ) (item y : Instance) → Ascending low top (map slot_of all) → item ≡ get_or all i item → y.number ≡ item.number → Ascending low top (map slot_of (slice_set all i y))
ascending_set low top [] i item y r e n = r
ascending_set low top (x ∷ all) zero item y r e n = let m : x.number ≡ y.number = sym (ap (λ (q : Instance). q.number) e) ∙ sym n in subst (λ k. (low < k) × Ascending k top (map slot_of all)) m r
ascending_set low top (x ∷ all) (suc i) item y r e n = (r.0, ascending_set x.number top all i item y r.1 e n)

pub ascending_push : (low top up : ℕ) (all : List Instance) (y : Instance) → Ascending low top (map slot_of all) → up ≡ suc top → y.number ≡ up → Ascending low up (map slot_of (all ++ y ∷ []))
ascending_push low top up [] y r u n = (omega (arith, r, u, n), omega (arith, n))
ascending_push low top up (x ∷ all) y r u n = (r.0, ascending_push x.number top up all y r.1 u n)

pub map_push : (all : List Instance) (y : Instance) → map slot_of (all ++ y ∷ []) ≡ map slot_of all ++ slot_of y ∷ []
map_push [] y = refl
map_push (x ∷ all) y = ap (λ l. slot_of x ∷ l) (map_push all y)

pub cells_push : (all : List Instance) (y : Instance) → cell_count (map slot_of (all ++ y ∷ [])) ≡ cell_count (map slot_of all) + length (cells_in y.cells)
cells_push [] y = omega arith
cells_push (x ∷ all) y = omega (arith, cells_push all y)

-- an instance taken out
abbrev pub rest_of : List Instance → ℕ → List Instance
rest_of all i = take i all ++ drop (suc i) all

pub cells_removed : (all : List Instance) (i : ℕ) (item : Instance) → i < length all → item ≡ get_or all i item → cell_count (map slot_of all) ≡ length (cells_in item.cells) + cell_count (map slot_of (rest_of all i))
cells_removed [] i item h e = absurd (omega arith)
cells_removed (x ∷ all) zero item h e = ap (λ (q : Instance). length (cells_in q.cells) + cell_count (map slot_of all)) (sym e)
cells_removed (x ∷ all) (suc i) item h e = omega (arith, cells_removed all i item (omega arith) e)

lower : (low mid top : ℕ) (live : List Slot) → low ≤ mid → Ascending mid top live → Ascending low top live
lower low mid top [] h r = omega (arith, r)
lower low mid top (s ∷ rest) h r = (omega (arith, r.0), r.1)

pub ascending_removed : (low top : ℕ) (all : List Instance) (i : ℕ) → Ascending low top (map slot_of all) → Ascending low top (map slot_of (rest_of all i))
ascending_removed low top [] zero r = r
ascending_removed low top [] (suc i) r = r
ascending_removed low top (x ∷ all) zero r = lower low x.number top (map slot_of all) (omega (arith, r.0)) r.1
ascending_removed low top (x ∷ all) (suc i) r = (r.0, ascending_removed x.number top all i r.1)

without_removed : (low top : ℕ) (all : List Instance) (i : ℕ) (item : Instance) → Ascending low top (map slot_of all) → i < length all → item ≡ get_or all i item → without item.number (map slot_of all) ≡ map slot_of (rest_of all i)
without_removed low top [] i item r h e = absurd (omega arith)
without_removed low top (x ∷ all) zero item r h e = rw (eq-eqb x.number item.number (ap (λ (q : Instance). q.number) (sym e))) refl
without_removed low top (x ∷ all) (suc i) item r h e =
    let s = stands x.number top all i item r.1 (omega arith) e in
    rw (ne_eqb x.number item.number (λ y. absurd (omega (arith, y, s.above)))) (ap (λ l. slot_of x ∷ l) (without_removed x.number top all i item r.1 (omega arith) e))

by_test : {P : Type 0} (b : Bool) → (b ≡ true → P) → (b ≡ false → P) → P
by_test true f g = f refl
by_test false f g = g refl

find_number : (n : ℕ) (live : List Slot) (s : Slot) → find n live ≡ Some s → s.number ≡ n
find_number n [] s f = cc
find_number n (x ∷ rest) s f = by_test (nat_eq x.number n) (λ t. let g : Some x ≡ Some s = rw t at f in let e : x ≡ s = cc in ap (λ (q : Slot). q.number) (sym e) ∙ eqb-true x.number n t) (λ t. find_number n rest s (rw t at f))

placed : (all : List Instance) (i : ℕ) (s : Slot) → slice_get (map slot_of all) i ≡ Some s → i < length all
placed [] i s g = absurd (subst Empty g tt)
placed (x ∷ all) zero s g = omega arith
placed (x ∷ all) (suc i) s g = omega (arith, placed all i s g)

-- the instance of that number was taken out
pub record Ends (all new : List Instance) (live : List Slot) (n : ℕ) (item : Instance) : Type 0 where
  pub counted : cell_count (map slot_of all) ≡ length (cells_in item.cells) + cell_count (map slot_of new)
  pub done : map slot_of new ≡ without n live

pub end_done : (now : Cells) (most made top : ℕ) (all new : List Instance) (i n : ℕ) (item : Instance) → record { most = most; count = made; live = map slot_of all } ≡ now → IsPlace n now.live (Some i) → Ascending 0 top (map slot_of all) → item ≡ get_or all i item → new ≡ rest_of all i → Ends all new now.live n item
end_done now most made top all new i n item view place r e w =
    let P : Cells → Type 0 = λ c. IsPlace n c.live (Some i) in
    let pl : IsPlace n (map slot_of all) (Some i) = subst P (sym view) place in
    let h : i < length all = placed all i pl.0 pl.1 in
    let same : pl.0 ≡ slot_of item = same_slot all i item pl.0 pl.1 e in
    let m : item.number ≡ n = ap (λ (q : Slot). q.number) (sym same) ∙ find_number n (map slot_of all) pl.0 pl.2 in
    record {
      counted = cells_removed all i item h e ∙ ap (λ l. length (cells_in item.cells) + cell_count (map slot_of l)) (sym w);
      done = ap (λ l. map slot_of l) w ∙ sym (without_removed 0 top all i item r h e) ∙ ap (λ k. without k (map slot_of all)) m ∙ ap (λ (c : Cells). without n c.live) view;
    }

-- ---- selection and steps

pub found_at : (now : Cells) (most made : ℕ) (all : List Instance) (i n : ℕ) (item : Instance) → record { most = most; count = made; live = map slot_of all } ≡ now → IsPlace n now.live (Some i) → item ≡ get_or all i item → find n now.live ≡ Some (slot_of item)
found_at now most made all i n item view place e =
    let g : slice_get (map slot_of all) i ≡ Some place.0 = ap (λ (c : Cells). slice_get c.live i) view ∙ place.1 in
    place.2 ∙ ap (λ (s : Slot). Some s) (same_slot all i item place.0 g e)

pub not_inside : (live : List Slot) (p : Pointer) (s : Slot) → find p.instance live ≡ Some s → is_inside p (length s.cells) ≡ false → element_of live p ≡ Err OutOfBounds
not_inside live p s f t = rw (f, t) refl

pub few_cells : (now : Cells) (most made : ℕ) (all : List Instance) (i n : ℕ) (item : Instance) → record { most = most; count = made; live = map slot_of all } ≡ now → IsPlace n now.live (Some i) → item ≡ get_or all i item → length (cells_in item.cells) ≤ cell_count (map slot_of all)
few_cells now most made all i n item view place e =
    let g : slice_get (map slot_of all) i ≡ Some place.0 = ap (λ (c : Cells). slice_get c.live i) view ∙ place.1 in
    omega (arith, cells_removed all i item (placed all i place.0 g) e)

pub inside_room : (p : Pointer) (n : ℕ) → is_inside p n ≡ true → cell_of p + p.size ≤ n
inside_room p n t = grind (arith, nat_tests)

pub step_done : (from : Value) (at : Pointer) (by : ℤ) (k : ℕ) → from ≡ At at → (pos at.index +ℤ by) ≡ pos k → k ≤ at.length → Ok (At (record at { index = k })) ≡ stepped from by
step_done from at by k e q h = rw (e, q, le-leb 0 k (omega arith), le-leb k at.length h) refl
