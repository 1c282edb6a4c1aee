-- Where a live instance stands, and what the words' changes leave.
use Rattle.std.proofs.Common.{◌≡◌, ◌≢◌, ℕ, zero, suc, ◌+◌, ◌-◌, ◌<◌, ◌≤◌, List, [], ◌∷◌, ◌++◌, length, get_or, take, drop, Bool, Option, Some, None, refl, sym, ap, ◌∙◌, subst, arith, eq-eqb, ne_eqb, nat_eq, if◌then◌else◌}
use Rattle.std.proofs.lemmas.Bool.{eqb-true}
use Rattle.std.specs.Prelude.{◌⊎◌, ◌↔◌, IsTrue, IsSome, map, slice_get, slice_set}
use Rattle.cover_parts.specs.declared.rows.Row.{Row}
use Rattle.c_events.specs.declared.events.Cell.{Cell}
use Rattle.cover_parts.specs.Rows.{put, word_of, word_in, Slot, Table, slot_of, words_in, cell_count, find, replace, without, Ascending, IsPlace}
use Rattle.cover_parts.proofs.Cases.{either, by_test, not_true}

record Stands (low : ℕ) (all : List Row) (i : ℕ) (item : Row) : Type 0 where
  above : low < item.number
  got : slice_get (map slot_of all) i ≡ Some (slot_of item)
  found : find item.number (map slot_of all) ≡ Some (slot_of item)
  replaced : (t : Slot) → replace item.number t (map slot_of all) ≡ slice_set (map slot_of all) i t

stands_first : (low : ℕ) (x : Row) (all : List Row) → low < x.number → Stands low (x ∷ all) 0 x
stands_first low x all h = record { above = h; got = refl; found = rw (eq-eqb x.number x.number refl) refl; replaced = λ t. rw (eq-eqb x.number x.number refl) refl }

stands : (low top : ℕ) (all : List Row) (i : ℕ) (item : Row) → Ascending low top (map slot_of all) → i < length all → item ≡ get_or all i item → Stands low all i item
stands low top [] i item r h e = absurd (omega arith)
stands low top (x ∷ all) zero item r h e = subst (λ y. Stands low (x ∷ all) 0 y) (sym e) (stands_first low x all r.0)
stands low top (x ∷ all) (suc i) item r h e =
    let s = stands x.number top all i item r.1 (omega arith) e in
    let n = ne_eqb x.number item.number (λ y. absurd (omega (arith, y, s.above))) in
    record { above = omega (arith, r.0, s.above); got = s.got; found = rw n s.found; replaced = λ t. rw n (ap (λ l. slot_of x ∷ l) (s.replaced t)) }

pub stands_at : (top n : ℕ) (all : List Row) (i : ℕ) (item : Row) → Ascending 0 top (map slot_of all) → i < length all → item ≡ get_or all i item → item.number ≡ n → IsPlace n (map slot_of all) (Some i)
stands_at top n all i item r h e m =
    let s = stands 0 top all i item r h e in
    subst (λ n. IsPlace n (map slot_of all) (Some i)) m (slot_of item, s.got, s.found, s.replaced)

passed_by : (low top n : ℕ) (all : List Row) (i : ℕ) (item : Row) → Ascending low top (map slot_of all) → i < length all → item ≡ get_or all i item → item.number < n → find n (map slot_of (drop (suc i) all)) ≡ None → find n (map slot_of all) ≡ None
passed_by low top n [] i item r h e m z = absurd (omega arith)
passed_by low top n (x ∷ all) zero item r h e m z = rw (ne_eqb x.number n (λ y. absurd (omega (arith, y, m, ap (λ (q : Row). q.number) e)))) z
passed_by low top n (x ∷ all) (suc i) item r h e m z =
    let s = stands x.number top all i item r.1 (omega arith) e in
    rw (ne_eqb x.number n (λ y. absurd (omega (arith, y, m, s.above)))) (passed_by x.number top n all i item r.1 (omega arith) e m z)

-- from an instance with a lower number on, only what stands after it may be the one
pub passed : (low top n : ℕ) (all : List Row) (i j : ℕ) (item : Row) → Ascending low top (map slot_of all) → i < length all → item ≡ get_or all i item → item.number < n → j ≡ suc i → find n (map slot_of (drop j all)) ≡ None → find n (map slot_of all) ≡ None
passed low top n all i j item r h e m k z = passed_by low top n all i item r h e m (subst (λ j. find n (map slot_of (drop j all)) ≡ None) k z)

none_above : (low top n : ℕ) (live : List Slot) → n ≤ low → Ascending low top live → find n live ≡ None
none_above low top n [] h r = refl
none_above low top n (s ∷ rest) h r = rw (ne_eqb s.number n (λ y. absurd (omega (arith, y, h, r.0)))) (none_above s.number top n rest (omega (arith, h, r.0)) r.1)

-- from an instance with a higher number on, none is the one
pub ahead : (low top n : ℕ) (all : List Row) (i : ℕ) (item : Row) → Ascending low top (map slot_of all) → i < length all → item ≡ get_or all i item → n < item.number → find n (map slot_of (drop i all)) ≡ None
ahead low top n [] i item r h e m = absurd (omega arith)
ahead low top n (x ∷ all) zero item r h e m = none_above (x.number - 1) top n (map slot_of (x ∷ all)) (omega (arith, m, ap (λ (q : Row). q.number) e)) (omega (arith, m, ap (λ (q : Row). q.number) e), r.1)
ahead low top n (x ∷ all) (suc i) item r h e m = ahead x.number top n all i item r.1 (omega arith) e m

pub map_set : (all : List Row) (i : ℕ) (y : Row) → map slot_of (slice_set all i y) ≡ slice_set (map slot_of all) i (slot_of y)
map_set [] i y = refl
map_set (x ∷ all) zero y = refl
map_set (x ∷ all) (suc i) y = ap (λ l. slot_of x ∷ l) (map_set all i y)

abbrev the : Option Slot → Slot → Slot
the None d = d
the (Some s) d = s

abbrev Empty : Option Slot → Type 0
Empty None = Unit {0}
Empty (Some s) = ⊥

same_slot : (all : List Row) (i : ℕ) (item : Row) (s : Slot) → slice_get (map slot_of all) i ≡ Some s → item ≡ get_or all i item → s ≡ slot_of item
same_slot [] i item s g e = absurd (subst Empty g tt)
same_slot (x ∷ all) zero item s g e = sym (ap (λ o. the o s) g) ∙ ap slot_of (sym e)
same_slot (x ∷ all) (suc i) item s g e = same_slot all i item s g e

pub cells_set : (all : List Row) (i : ℕ) (item y : Row) → item ≡ get_or all i item → length (words_in y.words) ≡ length (words_in item.words) → cell_count (map slot_of (slice_set all i y)) ≡ cell_count (map slot_of all)
cells_set [] i item y e n = refl
cells_set (x ∷ all) zero item y e n = ap (λ k. k + cell_count (map slot_of all)) (n ∙ ap (λ (q : Row). length (words_in q.words)) e)
cells_set (x ∷ all) (suc i) item y e n = ap (λ k. length (words_in x.words) + k) (cells_set all i item y e n)

pub ascending_set : (low top : ℕ) (all : List Row) (i : ℕ) (item y : Row) → Ascending low top (map slot_of all) → item ≡ get_or all i item → y.number ≡ item.number → Ascending low top (map slot_of (slice_set all i y))
ascending_set low top [] i item y r e n = r
ascending_set low top (x ∷ all) zero item y r e n = let m : x.number ≡ y.number = sym (ap (λ (q : Row). q.number) e) ∙ sym n in subst (λ k. (low < k) × Ascending k top (map slot_of all)) m r
ascending_set low top (x ∷ all) (suc i) item y r e n = (r.0, ascending_set x.number top all i item y r.1 e n)

pub ascending_push : (low top up : ℕ) (all : List Row) (y : Row) → Ascending low top (map slot_of all) → top < up → y.number ≡ up → Ascending low up (map slot_of (all ++ y ∷ []))
ascending_push low top up [] y r u n = (omega (arith, r, u, n), omega (arith, n))
ascending_push low top up (x ∷ all) y r u n = (r.0, ascending_push x.number top up all y r.1 u n)

pub map_push : (all : List Row) (y : Row) → map slot_of (all ++ y ∷ []) ≡ map slot_of all ++ slot_of y ∷ []
map_push [] y = refl
map_push (x ∷ all) y = ap (λ l. slot_of x ∷ l) (map_push all y)

pub cells_push : (all : List Row) (y : Row) → cell_count (map slot_of (all ++ y ∷ [])) ≡ cell_count (map slot_of all) + length (words_in y.words)
cells_push [] y = omega arith
cells_push (x ∷ all) y = omega (arith, cells_push all y)

-- an instance taken out
abbrev pub rest_of : List Row → ℕ → List Row
rest_of all i = take i all ++ drop (suc i) all

pub cells_removed : (all : List Row) (i : ℕ) (item : Row) → i < length all → item ≡ get_or all i item → cell_count (map slot_of all) ≡ length (words_in item.words) + cell_count (map slot_of (rest_of all i))
cells_removed [] i item h e = absurd (omega arith)
cells_removed (x ∷ all) zero item h e = ap (λ (q : Row). length (words_in q.words) + cell_count (map slot_of all)) (sym e)
cells_removed (x ∷ all) (suc i) item h e = omega (arith, cells_removed all i item (omega arith) e)

lower : (low mid top : ℕ) (live : List Slot) → low ≤ mid → Ascending mid top live → Ascending low top live
lower low mid top [] h r = omega (arith, r)
lower low mid top (s ∷ rest) h r = (omega (arith, r.0), r.1)

pub ascending_removed : (low top : ℕ) (all : List Row) (i : ℕ) → Ascending low top (map slot_of all) → Ascending low top (map slot_of (rest_of all i))
ascending_removed low top [] zero r = r
ascending_removed low top [] (suc i) r = r
ascending_removed low top (x ∷ all) zero r = lower low x.number top (map slot_of all) (omega (arith, r.0)) r.1
ascending_removed low top (x ∷ all) (suc i) r = (r.0, ascending_removed x.number top all i r.1)

without_removed : (low top : ℕ) (all : List Row) (i : ℕ) (item : Row) → Ascending low top (map slot_of all) → i < length all → item ≡ get_or all i item → without item.number (map slot_of all) ≡ map slot_of (rest_of all i)
without_removed low top [] i item r h e = absurd (omega arith)
without_removed low top (x ∷ all) zero item r h e = rw (eq-eqb x.number item.number (ap (λ (q : Row). q.number) (sym e))) refl
without_removed low top (x ∷ all) (suc i) item r h e =
    let s = stands x.number top all i item r.1 (omega arith) e in
    rw (ne_eqb x.number item.number (λ y. absurd (omega (arith, y, s.above)))) (ap (λ l. slot_of x ∷ l) (without_removed x.number top all i item r.1 (omega arith) e))

find_number : (n : ℕ) (live : List Slot) (s : Slot) → find n live ≡ Some s → s.number ≡ n
find_number n [] s f = cc
find_number n (x ∷ rest) s f = by_test (nat_eq x.number n) (λ t. let g : Some x ≡ Some s = rw t at f in let e : x ≡ s = cc in ap (λ (q : Slot). q.number) (sym e) ∙ eqb-true x.number n t) (λ t. find_number n rest s (rw t at f))

placed : (all : List Row) (i : ℕ) (s : Slot) → slice_get (map slot_of all) i ≡ Some s → i < length all
placed [] i s g = absurd (subst Empty g tt)
placed (x ∷ all) zero s g = omega arith
placed (x ∷ all) (suc i) s g = omega (arith, placed all i s g)

-- THE CALLS OF THE ROWS

pub put_done : (now : Table) (top : ℕ) (all : List Row) (at : Cell) (d i : ℕ) (item y : Row) → record { top = top; live = map slot_of all } ≡ now → IsPlace at.instance now.live (Some i) → item ≡ get_or all i item → slot_of y ≡ record { number = item.number; words = slice_set (words_in item.words) at.index (Some d) } → ◌≡◌ {A = Table} (record { top = top; live = map slot_of (slice_set all i y) }) (record { top = now.top; live = put at d now.live })
put_done now top all at d i item y view place e sy =
    let P : Table → Type 0 = λ t. IsPlace at.instance t.live (Some i) in
    let el : IsPlace at.instance (map slot_of all) (Some i) = subst P (sym view) place in
    let f : find at.instance (map slot_of all) ≡ Some (slot_of item) = el.2 ∙ ap (λ (s : Slot). Some s) (same_slot all i item el.0 el.1 e) in
    let g : map slot_of (slice_set all i y) ≡ put at d (map slot_of all) = rw f (map_set all i y ∙ ap (λ t. slice_set (map slot_of all) i t) sy ∙ sym (el.3 (record { number = item.number; words = slice_set (words_in item.words) at.index (Some d) }))) in
    let Q : Table → Type 0 = λ t. ◌≡◌ {A = Table} (record { top = top; live = map slot_of (slice_set all i y) }) (record { top = t.top; live = put at d t.live }) in
    subst Q view (ap (λ (l : List Slot). record { top = top; live = l }) g)

some_within : (words : List (Option ℕ)) (k : ℕ) → (k < length words → IsSome (slice_get words k)) × (IsSome (slice_get words k) → k < length words)
some_within [] k = (λ h. absurd (omega (arith, h)), λ h. absurd (cc))
some_within (x ∷ words) zero = (λ h. refl, λ h. omega arith)
some_within (x ∷ words) (suc k) = let w = some_within words k in (λ h. w.0 (omega (arith, h)), λ h. omega (arith, w.1 h))

-- the cell has a word where its instance has that many cells
pub put_there : (now : Table) (top : ℕ) (all : List Row) (at : Cell) (i : ℕ) (item : Row) (there : Bool) → record { top = top; live = map slot_of all } ≡ now → IsPlace at.instance now.live (Some i) → item ≡ get_or all i item → IsTrue there ↔ (at.index < length (words_in item.words)) → IsTrue there ↔ IsSome (word_of now.live at)
put_there now top all at i item there view place e t =
    let P : Table → Type 0 = λ t. IsPlace at.instance t.live (Some i) in
    let el : IsPlace at.instance (map slot_of all) (Some i) = subst P (sym view) place in
    let f : find at.instance (map slot_of all) ≡ Some (slot_of item) = el.2 ∙ ap (λ (s : Slot). Some s) (same_slot all i item el.0 el.1 e) in
    let w = some_within (words_in item.words) at.index in
    let Q : Option Slot → Type 0 = λ o. IsTrue there ↔ IsSome (word_in o at.index) in
    let R : Table → Type 0 = λ t. IsTrue there ↔ IsSome (word_of t.live at) in
    subst R view (subst Q (sym f) (λ h. w.0 (t.0 h), λ h. t.1 (w.1 h)))

-- the instance of that number was taken out
pub record Ended (all new : List Row) (live : List Slot) (n : ℕ) (item : Row) : Type 0 where
  pub counted : cell_count (map slot_of all) ≡ length (words_in item.words) + cell_count (map slot_of new)
  pub done : map slot_of new ≡ without n live

pub end_done : (now : Table) (top : ℕ) (all new : List Row) (i n : ℕ) (item : Row) → record { top = top; live = map slot_of all } ≡ now → IsPlace n now.live (Some i) → Ascending 0 top (map slot_of all) → item ≡ get_or all i item → new ≡ rest_of all i → Ended all new now.live n item
end_done now top all new i n item view place r e w =
    let P : Table → Type 0 = λ t. IsPlace n t.live (Some i) in
    let pl : IsPlace n (map slot_of all) (Some i) = subst P (sym view) place in
    let h : i < length all = placed all i pl.0 pl.1 in
    let same : pl.0 ≡ slot_of item = same_slot all i item pl.0 pl.1 e in
    let m : item.number ≡ n = ap (λ (q : Slot). q.number) (sym same) ∙ find_number n (map slot_of all) pl.0 pl.2 in
    record {
      counted = cells_removed all i item h e ∙ ap (λ l. length (words_in item.words) + cell_count (map slot_of l)) (sym w);
      done = ap (λ l. map slot_of l) w ∙ sym (without_removed 0 top all i item r h e) ∙ ap (λ k. without k (map slot_of all)) m ∙ ap (λ (t : Table). without n t.live) view;
    }

pub without_none : (n : ℕ) (live : List Slot) → find n live ≡ None → without n live ≡ live
without_none n [] f = refl
without_none n (s ∷ rest) f = by_test (nat_eq s.number n) (λ t. let g : Some s ≡ None = rw t at f in absurd (cc)) (λ t. rw t (ap (λ l. s ∷ l) (without_none n rest (rw t at f))))

-- THE WORDS AFTER A CHANGE

find_replaced : (n : ℕ) (t : Slot) (live : List Slot) (s : Slot) → t.number ≡ n → find n live ≡ Some s → find n (replace n t live) ≡ Some t
find_replaced n t [] s e f = absurd (cc)
find_replaced n t (x ∷ rest) s e f = by_test (nat_eq x.number n) (λ b. rw (b, eq-eqb t.number n e) refl) (λ b. rw (b, b) (find_replaced n t rest s e (rw b at f)))

find_other : (n m : ℕ) (t : Slot) (live : List Slot) → t.number ≡ n → n ≢ m → find m (replace n t live) ≡ find m live
find_other n m t [] e ne = refl
find_other n m t (x ∷ rest) e ne =
    by_test (nat_eq x.number n) (λ b. rw (b, ne_eqb t.number m (λ q. ne (sym e ∙ q)), ne_eqb x.number m (λ q. ne (sym (eqb-true x.number n b) ∙ q))) refl) (λ b. rw b (ap (λ o. if nat_eq x.number m then Some x else o) (find_other n m t rest e ne)))

get_set : (words : List (Option ℕ)) (k : ℕ) (v w : Option ℕ) → slice_get words k ≡ Some w → slice_get (slice_set words k v) k ≡ Some v
get_set [] k v w h = absurd (cc)
get_set (x ∷ words) zero v w h = refl
get_set (x ∷ words) (suc k) v w h = get_set words k v w h

get_other : (words : List (Option ℕ)) (k j : ℕ) (v : Option ℕ) → k ≢ j → slice_get (slice_set words k v) j ≡ slice_get words j
get_other [] k j v ne = refl
get_other (x ∷ words) zero zero v ne = absurd (ne refl)
get_other (x ∷ words) zero (suc j) v ne = refl
get_other (x ∷ words) (suc k) zero v ne = refl
get_other (x ∷ words) (suc k) (suc j) v ne = get_other words k j v (λ q. ne (omega (arith, q)))

abbrev Known : Option (Option ℕ) → Type 0
Known None = ⊥
Known (Some w) = Unit {0}

-- the word that is put, and the others
pub put_at : (live : List Slot) (c : Cell) (d : ℕ) (w : Option ℕ) → word_of live c ≡ Some w → word_of (put c d live) c ≡ Some (Some d)
put_at live c d w h = go (find c.instance live) refl
  where
    go : (o : Option Slot) → find c.instance live ≡ o → word_of (put c d live) c ≡ Some (Some d)
    go None e = let k : word_in None c.index ≡ Some w = rw e at h in absurd (cc)
    go (Some s) e =
        let k : slice_get s.words c.index ≡ Some w = rw e at h in
        rw (e, find_replaced c.instance (record { number = s.number; words = slice_set s.words c.index (Some d) }) live s (find_number c.instance live s e) e) (get_set s.words c.index (Some d) w k)

set_none : (words : List (Option ℕ)) (k : ℕ) (v : Option ℕ) → slice_get words k ≡ None → slice_set words k v ≡ words
set_none [] k v h = refl
set_none (x ∷ words) zero v h = absurd (cc)
set_none (x ∷ words) (suc k) v h = ap (λ l. x ∷ l) (set_none words k v h)

replace_same : (n : ℕ) (s : Slot) (live : List Slot) → find n live ≡ Some s → replace n s live ≡ live
replace_same n s [] f = refl
replace_same n s (x ∷ rest) f = by_test (nat_eq x.number n) (λ b. let k : Some x ≡ Some s = rw b at f in let e : x ≡ s = cc in rw b (ap (λ y. y ∷ rest) (sym e))) (λ b. rw b (ap (λ l. x ∷ l) (replace_same n s rest (rw b at f))))

-- a cell without word is left as it is
pub put_none : (live : List Slot) (c : Cell) (d : ℕ) → word_of live c ≡ None → put c d live ≡ live
put_none live c d h = go (find c.instance live) refl
  where
    go : (o : Option Slot) → find c.instance live ≡ o → put c d live ≡ live
    go None e = rw e refl
    go (Some s) e =
        let k : slice_get s.words c.index ≡ None = rw e at h in
        rw e (ap (λ w. replace c.instance (record { number = s.number; words = w }) live) (set_none s.words c.index (Some d) k) ∙ replace_same c.instance s live e)

pub put_other : (live : List Slot) (c b : Cell) (d : ℕ) → (c.instance ≢ b.instance) ⊎ (c.index ≢ b.index) → word_of (put c d live) b ≡ word_of live b
put_other live c b d ne = go (find c.instance live) refl
  where
    go : (o : Option Slot) → find c.instance live ≡ o → word_of (put c d live) b ≡ word_of live b
    go None e = rw e refl
    go (Some s) e =
        let t : Slot = record { number = s.number; words = slice_set s.words c.index (Some d) } in
        let n : s.number ≡ c.instance = find_number c.instance live s e in
        by_test (nat_eq c.instance b.instance)
        (λ q.
        let i : c.instance ≡ b.instance = eqb-true c.instance b.instance q in
        let f : find b.instance live ≡ Some s = ap (λ x. find x live) (sym i) ∙ e in
        let r : find b.instance (replace c.instance t live) ≡ Some t = ap (λ x. find x (replace c.instance t live)) (sym i) ∙ find_replaced c.instance t live s n e in
        let j : c.index ≢ b.index = either (λ x. absurd (x i)) (λ x. x) ne in
        rw (e, r, f) (get_other s.words c.index b.index (Some d) j))
        (λ q. rw (e, find_other c.instance b.instance t live n (λ i. not_true (nat_eq c.instance b.instance) q (eq-eqb c.instance b.instance i))) refl)

-- every live instance is among those that were made
pub live_below : (low top n : ℕ) (live : List Slot) (s : Slot) → Ascending low top live → find n live ≡ Some s → n ≤ top
live_below low top n [] s r f = absurd (cc)
live_below low top n (x ∷ rest) s r f = by_test (nat_eq x.number n) (λ b. omega (arith, eqb-true x.number n b, top_above x.number top rest r.1)) (λ b. live_below x.number top n rest s r.1 (rw b at f))
  where
    top_above : (low top : ℕ) (live : List Slot) → Ascending low top live → low ≤ top
    top_above low top [] r = r
    top_above low top (x ∷ rest) r = omega (arith, r.0, top_above x.number top rest r.1)

pub word_below : (t : Table) (c : Cell) (w : Option ℕ) → Ascending 0 t.top t.live → word_of t.live c ≡ Some w → c.instance ≤ t.top
word_below t c w r h = go (find c.instance t.live) refl
  where
    go : (o : Option Slot) → find c.instance t.live ≡ o → c.instance ≤ t.top
    go None e = let k : word_in None c.index ≡ Some w = rw e at h in absurd (cc)
    go (Some s) e = live_below 0 t.top c.instance t.live s r e

-- a new instance
find_new : (live : List Slot) (s : Slot) (n : ℕ) → s.number ≢ n → find n (live ++ s ∷ []) ≡ find n live
find_new [] s n ne = rw (ne_eqb s.number n ne) refl
find_new (x ∷ rest) s n ne = ap (λ o. if nat_eq x.number n then Some x else o) (find_new rest s n ne)

find_made : (live : List Slot) (s : Slot) (n : ℕ) → find n live ≡ None → s.number ≡ n → find n (live ++ s ∷ []) ≡ Some s
find_made [] s n f e = rw (eq-eqb s.number n e) refl
find_made (x ∷ rest) s n f e = by_test (nat_eq x.number n) (λ b. let k : Some x ≡ None = rw b at f in absurd (cc)) (λ b. rw b (find_made rest s n (rw b at f) e))

pub none_yet : (low top n : ℕ) (live : List Slot) → top < n → Ascending low top live → find n live ≡ None
none_yet low top n live h r = go (find n live) refl
  where
    go : (o : Option Slot) → find n live ≡ o → find n live ≡ None
    go None e = e
    go (Some s) e = absurd (omega (arith, h, live_below low top n live s r e))

pub new_other : (live : List Slot) (s : Slot) (c : Cell) → s.number ≢ c.instance → word_of (live ++ s ∷ []) c ≡ word_of live c
new_other live s c ne = ap (λ o. word_in o c.index) (find_new live s c.instance ne)

pub new_at : (top : ℕ) (live : List Slot) (s : Slot) (c : Cell) → Ascending 0 top live → top < s.number → s.number ≡ c.instance → word_of (live ++ s ∷ []) c ≡ slice_get s.words c.index
new_at top live s c r h e = ap (λ o. word_in o c.index) (find_made live s c.instance (none_yet 0 top c.instance live (omega (arith, h, e)) r) e)

-- an instance that ends
find_without : (live : List Slot) (n m : ℕ) → n ≢ m → find m (without n live) ≡ find m live
find_without [] n m ne = refl
find_without (x ∷ rest) n m ne = by_test (nat_eq x.number n) (λ b. rw (b, ne_eqb x.number m (λ q. ne (sym (eqb-true x.number n b) ∙ q))) refl) (λ b. rw b (ap (λ o. if nat_eq x.number m then Some x else o) (find_without rest n m ne)))

find_ended : (low top n : ℕ) (live : List Slot) → Ascending low top live → find n (without n live) ≡ None
find_ended low top n [] r = refl
find_ended low top n (x ∷ rest) r = by_test (nat_eq x.number n) (λ b. rw b (none_above x.number top n rest (omega (arith, eqb-true x.number n b)) r.1)) (λ b. rw (b, b) (find_ended x.number top n rest r.1))

pub ended_other : (live : List Slot) (n : ℕ) (c : Cell) → n ≢ c.instance → word_of (without n live) c ≡ word_of live c
ended_other live n c ne = ap (λ o. word_in o c.index) (find_without live n c.instance ne)

pub ended_at : (top n : ℕ) (live : List Slot) (c : Cell) → Ascending 0 top live → n ≡ c.instance → word_of (without n live) c ≡ None
ended_at top n live c r e = ap (λ m. word_of (without m live) c) e ∙ ap (λ o. word_in o c.index) (find_ended 0 top c.instance live r)
