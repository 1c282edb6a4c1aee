-- What a copy leaves: the target reads as the source did, and all else as before.
use Rattle.std.proofs.Common.{◌≡◌, ℕ, ◌+◌, ◌≤◌, length, Some, Ok, nat_eq, refl, sym, ap, ap₂, ◌∙◌, subst, take, drop, arith, eq-eqb}
use Rattle.std.specs.Prelude.{map, slice_get}
use Rattle.std.proofs.lemmas.Bool.{eqb-true, false≢true}
use Rattle.c_store.specs.declared.value.Pointer.{Pointer}
use Rattle.c_store.specs.Cells.{Slot, Cells, cell_of, find, replace, cell_value}
use Rattle.c_store.specs.Copies.{cells_at, with_part, copy_of}
use Rattle.c_store.proofs.Places.{inside_room}
use Rattle.c_copies.specs.Laws.{IsPartOf, ReadsAsSource, OthersStay, InstancesStay, IsCopied, outline, reads, TargetsReadAsSources, OtherCellsStay, AllInstancesStay, SelfCopiesChangeNothing}
use Rattle.c_copies.proofs.Lists.{by_test, sided, got_part, got_before, got_behind, got_cut, cut_length, part_length, put_back}
use Rattle.c_copies.proofs.Found.{read_at, reads_found, find_number, find_same, find_other, outlines_stay, replace_same}
use Rattle.c_copies.proofs.Made.{filled, Made, made}

module _ (c d : Cells) (p q : Pointer) (size : p.size ≡ q.size) (m : Made c p q d) where
  source_room : cell_of p + p.size ≤ length m.source.cells
  source_room = inside_room p (length m.source.cells) m.from_inside

  target_room : cell_of q + q.size ≤ length m.target.cells
  target_room = inside_room q (length m.target.cells) m.to_inside

  part_size : length (cells_at m.source p) ≡ p.size
  part_size = cut_length m.source.cells p.size (cell_of p) source_room

  live_is : d.live ≡ replace q.instance (filled m.source p m.target q) c.live
  live_is = ap (λ (x : Cells). x.live) m.is

  number : m.target.number ≡ q.instance
  number = find_number q.instance c.live m.target m.to

  found : find q.instance d.live ≡ Some (filled m.source p m.target q)
  found = ap (find q.instance) live_is ∙ find_same q.instance (filled m.source p m.target q) m.target c.live number m.to

  pub as_source : ReadsAsSource c p q d
  as_source i h =
      reads_found d q.instance (cell_of q + i)
      ∙ (ap (λ o. read_at o (cell_of q + i)) found
      ∙ (ap cell_value (got_part m.target.cells (cells_at m.source p) (cell_of q) i (omega (arith, target_room)) (omega (arith, part_size)) ∙ got_cut m.source.cells p.size (cell_of p) i h)
      ∙ sym (reads_found c p.instance (cell_of p + i) ∙ ap (λ o. read_at o (cell_of p + i)) m.from)))

  stays_beside : (k : ℕ) → (IsPartOf q q.instance k → ⊥) → slice_get (filled m.source p m.target q).cells k ≡ slice_get m.target.cells k
  stays_beside k f = sided (cell_of q) q.size k
      (λ b. got_before m.target.cells (cells_at m.source p) (cell_of q) k (omega (arith, target_room)) b)
      (λ i b e. absurd (f (refl, omega (arith, e), omega (arith, e, b))))
      (λ b. got_behind m.target.cells (cells_at m.source p) (cell_of q) k (omega (arith, target_room)) (omega (arith, part_size, b)))

  stays_in : (k : ℕ) → (IsPartOf q q.instance k → ⊥) → reads d q.instance k ≡ reads c q.instance k
  stays_in k f =
      reads_found d q.instance k
      ∙ (ap (λ o. read_at o k) found
      ∙ (ap cell_value (stays_beside k f)
      ∙ sym (reads_found c q.instance k ∙ ap (λ o. read_at o k) m.to)))

  stays_out : (n k : ℕ) → (n ≡ q.instance → ⊥) → reads d n k ≡ reads c n k
  stays_out n k f =
      reads_found d n k
      ∙ (ap (λ o. read_at o k) (ap (find n) live_is ∙ find_other n q.instance (filled m.source p m.target q) c.live number f)
      ∙ sym (reads_found c n k))

  pub others : OthersStay c q d
  others n k f = by_test (nat_eq n q.instance)
      (λ t. let e : n ≡ q.instance = eqb-true n q.instance t in subst (λ n. (IsPartOf q n k → ⊥) → reads d n k ≡ reads c n k) (sym e) (stays_in k) f)
      (λ t. stays_out n k (λ e. absurd (false≢true (sym t ∙ eq-eqb n q.instance e))))

  same_outline : outline (filled m.source p m.target q) ≡ outline m.target
  same_outline = ap (λ l. record { number = m.target.number; writable = m.target.writable; length = l }) (part_length m.target.cells (cells_at m.source p) (cell_of q) (omega (arith, part_size, target_room)))

  pub instances : InstancesStay c d
  instances = (
    ap (λ (x : Cells). x.most) m.is,
    ap (λ (x : Cells). x.count) m.is,
    ap (map outline) live_is ∙ outlines_stay q.instance (filled m.source p m.target q) m.target c.live m.to same_outline,
  )

  same_found : p.instance ≡ q.instance → m.source ≡ m.target
  same_found e = let g : Some m.source ≡ Some m.target = sym m.from ∙ (ap (λ n. find n c.live) e ∙ m.to) in cc

  pub unchanged : p.instance ≡ q.instance → cell_of p ≡ cell_of q → d ≡ c
  unchanged e f =
      let same : with_part m.target.cells (cell_of q) (cells_at m.source p) ≡ m.target.cells =
      ap₂ (λ (s : Slot) k. with_part m.target.cells (cell_of q) (take p.size (drop k s.cells))) (same_found e) f
      ∙ put_back m.target.cells p.size (cell_of q) (omega (arith, target_room)) in
      m.is ∙ ap (λ l. record c { live = l }) (ap (λ l. replace q.instance (record m.target { cells = l }) c.live) same ∙ replace_same q.instance m.target c.live m.to)

pub targets : TargetsReadAsSources
targets c d p q size e = as_source c d p q size (made c d p q e)

pub other_cells : OtherCellsStay
other_cells c d p q size e = others c d p q size (made c d p q e)

pub all_instances : AllInstancesStay
all_instances c d p q size e = instances c d p q size (made c d p q e)

pub self_copies : SelfCopiesChangeNothing
self_copies c d p q size i k e = unchanged c d p q size (made c d p q e) i k

pub copied : (c d : Cells) (p q : Pointer) → p.size ≡ q.size → copy_of c p q ≡ Ok d → IsCopied c p q d
copied c d p q size e = record { target = targets c d p q size e; others = other_cells c d p q size e; instances = all_instances c d p q size e }
