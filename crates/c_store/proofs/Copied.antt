-- What a copy leaves in a list of cells and in a list of instances.
use Rattle.std.proofs.Common.{◌≡◌, ℕ, ◌+◌, ◌<◌, ◌≤◌, zero, suc, List, [], ◌∷◌, length, get_or, set, take, drop, Option, Some, Ok, true, refl, sym, ap, ◌∙◌, subst, add-one, append_assoc, arith}
use Rattle.std.specs.Prelude.{map, slice_get, slice_set}
use Rattle.std.proofs.lemmas.List.{drop_more, set_split, set-set, get_or-set_same, length-append, length-take, length-drop}
use Rattle.c_store.specs.declared.value.Value.{Value}
use Rattle.c_store.specs.declared.value.Pointer.{Pointer}
use Rattle.c_store.specs.declared.instance.Instance.{Instance}
use Rattle.c_store.specs.declared.instance.Held.{Held}
use Rattle.c_store.specs.Held.{cells_in}
use Rattle.c_store.specs.Cells.{Slot, Cells, Ascending, IsElement, cell_count, cell_of, element_of, is_inside, replace, slot_of}
use Rattle.c_store.specs.Copies.{cells_at, copy_of, with_part}
use Rattle.c_store.proofs.Places.{chosen, inside_first, inside_room, map_set, same_slot}

-- one cell
pub part_of_one : (from to : List (Option Value)) (start dest size : ℕ) (v : Option Value) → size ≡ 1 → start < length from → dest < length to → v ≡ get_or from start v → set to dest v ≡ with_part to dest (take size (drop start from))
part_of_one from to start dest size v one s d e =
    let dropped : drop start from ≡ v ∷ drop (start + 1) from = drop_more from start v s ∙ ap (λ x. x ∷ drop (start + 1) from) (sym e) in
    let part : take size (drop start from) ≡ v ∷ [] = rw (one, dropped) refl in
    rw part (set_split to dest v d ∙ rw (add-one, append_assoc) refl)

-- the cells of an element lie in its instance
pub room : (all : List Instance) (p : Pointer) (i : ℕ) (item : Instance) → IsElement p (map slot_of all) (Ok i) → item ≡ get_or all i item → (cell_of p < length (cells_in item.cells)) × (cell_of p + p.size ≤ length (cells_in item.cells))
room all p i item el e =
    let inside : is_inside p (length (cells_in item.cells)) ≡ true = ap (λ (s : Slot). is_inside p (length s.cells)) (sym (same_slot all i item el.0 el.1 e)) ∙ el.4 in
    (inside_first p (length (cells_in item.cells)) inside, inside_room p (length (cells_in item.cells)) inside)

slot_at : (all : List Instance) (p : Pointer) (i : ℕ) (item : Instance) (s : Slot) → IsElement p (map slot_of all) (Ok i) → item ≡ get_or all i item → element_of (map slot_of all) p ≡ Ok s → s ≡ slot_of item
slot_at all p i item s el e f =
    let g : Ok el.0 ≡ Ok s = sym el.2 ∙ f in
    let same : el.0 ≡ s = cc in
    sym same ∙ same_slot all i item el.0 el.1 e

-- the instances, once one has the copied cells
abbrev pub Copied : List Instance → List Instance → Pointer → Pointer → Type 0
Copied all new p q = (s t : Slot) → element_of (map slot_of all) p ≡ Ok s → element_of (map slot_of all) q ≡ Ok t → map slot_of new ≡ replace q.instance (record t { cells = with_part t.cells (cell_of q) (cells_at s p) }) (map slot_of all)

pub copied_at : (all : List Instance) (p q : Pointer) (i j : ℕ) (x y : Instance) (new : Held) → IsElement p (map slot_of all) (Ok i) → IsElement q (map slot_of all) (Ok j) → x ≡ get_or all i x → y ≡ get_or all j y → cells_in new ≡ with_part (cells_in y.cells) (cell_of q) (take p.size (drop (cell_of p) (cells_in x.cells))) → Copied all (slice_set all j (record y { cells = new })) p q
copied_at all p q i j x y new from to e f is s t source target =
    let same_source : s ≡ slot_of x = slot_at all p i x s from e source in
    let same_target : t ≡ slot_of y = slot_at all q j y t to f target in
    let put : Slot = record t { cells = with_part t.cells (cell_of q) (cells_at s p) } in
    let slot : slot_of (record y { cells = new }) ≡ put = rw (same_source, same_target) (ap (λ l. record (slot_of y) { cells = l }) is) in
    map_set all j (record y { cells = new }) ∙ ap (λ u. slice_set (map slot_of all) j u) slot ∙ sym (to.3 put)

-- the same, where the cells were taken out before and another instance stood there in between
pub copied_across : (all : List Instance) (p q : Pointer) (i j : ℕ) (x y held r : Instance) (new : Held) → IsElement p (map slot_of all) (Ok i) → IsElement q (map slot_of all) (Ok j) → j < length all → x ≡ get_or all i x → y ≡ get_or all j y → held.number ≡ y.number → held.writable ≡ y.writable → cells_in new ≡ with_part (cells_in y.cells) (cell_of q) (take p.size (drop (cell_of p) (cells_in x.cells))) → Copied all (slice_set (slice_set all j held) j (record { number = (get_or (slice_set all j held) j r).number; writable = (get_or (slice_set all j held) j r).writable; cells = new })) p q
copied_across all p q i j x y held r new from to within e f number writable is =
    let there : get_or (slice_set all j held) j r ≡ held = get_or-set_same all j held r within in
    rw (there, number, writable, set-set) (copied_at all p q i j x y new from to e f is)

length_part : (cells part : List (Option Value)) (k : ℕ) → k + length part ≤ length cells → length (with_part cells k part) ≡ length cells
length_part cells part k h = simp (length-append, length-take, length-drop) (omega arith)

part_length : (s t : Slot) (p q : Pointer) → p.size ≡ q.size → is_inside q (length t.cells) ≡ true → length (with_part t.cells (cell_of q) (cells_at s p)) ≡ length t.cells
part_length s t p q size inside = length_part t.cells (cells_at s p) (cell_of q) (simp length-take (omega (arith, inside_room q (length t.cells) inside)))

ascending_at : (low top : ℕ) (live : List Slot) (j : ℕ) (t u : Slot) → Ascending low top live → slice_get live j ≡ Some t → u.number ≡ t.number → Ascending low top (slice_set live j u)
ascending_at low top [] j t u r g n = r
ascending_at low top (x ∷ live) zero t u r g n = let e : x ≡ t = cc in let m : x.number ≡ u.number = ap (λ (s : Slot). s.number) e ∙ sym n in subst (λ k. (low < k) × Ascending k top live) m r
ascending_at low top (x ∷ live) (suc j) t u r g n = (r.0, ascending_at x.number top live j t u r.1 g n)

count_at : (live : List Slot) (j : ℕ) (t u : Slot) → slice_get live j ≡ Some t → length u.cells ≡ length t.cells → cell_count (slice_set live j u) ≡ cell_count live
count_at [] j t u g n = refl
count_at (x ∷ live) zero t u g n = let e : x ≡ t = cc in ap (λ k. k + cell_count live) (n ∙ ap (λ (s : Slot). length s.cells) (sym e))
count_at (x ∷ live) (suc j) t u g n = ap (λ k. length x.cells + k) (count_at live j t u g n)

-- the store is in order after a copy, and is as it is defined
pub record CopyDone (now : Cells) (most made : ℕ) (all new : List Instance) (p q : Pointer) : Type 0 where
  pub ascending : Ascending 0 made (map slot_of new)
  pub counted : cell_count (map slot_of all) ≡ cell_count (map slot_of new)
  pub done : copy_of now p q ≡ Ok (record { most = most; count = made; live = map slot_of new })

pub copy_done : (now : Cells) (most made : ℕ) (all new : List Instance) (p q : Pointer) (i j : ℕ) (item : Instance) → record { most = most; count = made; live = map slot_of all } ≡ now → IsElement p now.live (Ok i) → IsElement q now.live (Ok j) → p.size ≡ q.size → Copied all new p q → item ≡ get_or all j item → item.writable ≡ true → Ascending 0 made (map slot_of all) → CopyDone now most made all new p q
copy_done now most made all new p q i j item view from to size copied e w r =
    let P : Pointer → ℕ → Cells → Type 0 = λ p i c. IsElement p c.live (Ok i) in
    let source : IsElement p (map slot_of all) (Ok i) = subst (P p i) (sym view) from in
    let target : IsElement q (map slot_of all) (Ok j) = subst (P q j) (sym view) to in
    let s : Slot = source.0 in
    let t : Slot = target.0 in
    let u : Slot = record t { cells = with_part t.cells (cell_of q) (cells_at s p) } in
    let put : map slot_of new ≡ replace q.instance u (map slot_of all) = copied s t source.2 target.2 in
    let at : map slot_of new ≡ slice_set (map slot_of all) j u = put ∙ target.3 u in
    let writable : t.writable ≡ true = ap (λ (x : Slot). x.writable) (same_slot all j item t target.1 e) ∙ w in
    let Q : Cells → Type 0 = λ c. copy_of c p q ≡ Ok (record { most = most; count = made; live = map slot_of new }) in
    record {
      ascending = rw at (ascending_at 0 made (map slot_of all) j t u r target.1 refl);
      counted = sym (ap (λ l. cell_count l) at ∙ count_at (map slot_of all) j t u target.1 (part_length s t p q size target.4));
      done = subst Q view (rw (source.2, target.2) (chosen _ _ _ writable ∙ ap (λ l. Ok (record { most = most; count = made; live = l })) (sym put)));
    }
