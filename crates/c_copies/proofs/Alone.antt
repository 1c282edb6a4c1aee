-- No store but the one that a copy leaves reads so.
use Rattle.std.proofs.Common.{◌≡◌, ℕ, ◌<◌, ◌≤◌, List, [], ◌∷◌, Option, Some, None, Result, Ok, Err, false, nat_eq, nat_le, refl, sym, ap, ap₂, ◌∙◌, subst, arith, eq-eqb, ne_eqb}
use Rattle.std.specs.Prelude.{map, slice_get}
use Rattle.std.proofs.lemmas.Bool.{eqb-true, false≢true}
use Rattle.std.proofs.lemmas.Bool.Decides.{nat_tests}
use Rattle.c_store.specs.declared.value.Value.{Value}
use Rattle.c_store.specs.declared.value.Pointer.{Pointer}
use Rattle.c_store.specs.declared.value.Fault.{Fault}
use Rattle.c_store.specs.declared.value.Fault.TheVariants.{Uninitialised}
use Rattle.c_store.specs.Cells.{Slot, Cells, IsStore, Ascending, cell_of, find, cell_value}
use Rattle.c_store.specs.Copies.{copy_of}
use Rattle.c_copies.specs.Laws.{IsPartOf, IsCopied, Outline, outline, reads, CopiesAreDetermined}
use Rattle.c_copies.proofs.Lists.{by_test, same_lists, sided}
use Rattle.c_copies.proofs.Found.{read_at, reads_found}
use Rattle.c_copies.proofs.Left.{copied}
use Rattle.c_copies.proofs.Made.{store_with}
use Rattle.c_copies.proofs.Faults.{is_made}

-- ---- what a cell reads says what it holds

abbrev held_by : Result Value Fault → Option (Option Value)
held_by (Ok v) = Some (Some v)
held_by (Err Uninitialised) = Some None
held_by (Err f) = None

held : (x : Option (Option Value)) → held_by (cell_value x) ≡ x
held None = refl
held (Some None) = refl
held (Some (Some v)) = refl

same_held : (x y : Option (Option Value)) → cell_value x ≡ cell_value y → x ≡ y
same_held x y e = sym (held x) ∙ (ap held_by e ∙ held y)

same_slots : (s t : Slot) → outline s ≡ outline t → ((k : ℕ) → read_at (Some s) k ≡ read_at (Some t) k) → s ≡ t
same_slots s t o h =
    let cells : s.cells ≡ t.cells = same_lists s.cells t.cells (λ k. same_held (slice_get s.cells k) (slice_get t.cells k) (h k)) in
    ap₂ (λ (x : Outline) (l : List (Option Value)). record { number = x.number; writable = x.writable; cells = l }) o cells

-- ---- instances, in order

none_below : (n low top : ℕ) (live : List Slot) → n ≤ low → Ascending low top live → find n live ≡ None
none_below n low top [] h r = refl
none_below n low top (s ∷ rest) h r = rw (ne_eqb s.number n (λ y. absurd (omega (arith, y, h, r.0)))) (none_below n s.number top rest (omega (arith, h, r.0)) r.1)

abbrev first_of : Outline → List Outline → Outline
first_of d [] = d
first_of d (x ∷ xs) = x

abbrev rest_of : List Outline → List Outline
rest_of [] = []
rest_of (x ∷ xs) = xs

same_live : (low top : ℕ) (xs ys : List Slot) → Ascending low top xs → Ascending low top ys → map outline ys ≡ map outline xs → ((n k : ℕ) → read_at (find n ys) k ≡ read_at (find n xs) k) → ys ≡ xs
same_live low top [] [] r s o h = refl
same_live low top [] (y ∷ ys) r s o h = absurd (let e : outline y ∷ map outline ys ≡ [] = o in cc)
same_live low top (x ∷ xs) [] r s o h = absurd (let e : [] ≡ outline x ∷ map outline xs = o in cc)
same_live low top (x ∷ xs) (y ∷ ys) r s o h =
    let first : outline y ≡ outline x = ap (first_of (outline y)) o in
    let number : y.number ≡ x.number = ap (λ (l : Outline). l.number) first in
    let above : Ascending x.number top ys = subst (λ n. Ascending n top ys) number s.1 in
    let found_y : find x.number (y ∷ ys) ≡ Some y = rw (eq-eqb y.number x.number number) refl in
    let found_x : find x.number (x ∷ xs) ≡ Some x = rw (eq-eqb x.number x.number refl) refl in
    let head : y ≡ x = same_slots y x first (λ k. sym (ap (λ f. read_at f k) found_y) ∙ (h x.number k ∙ ap (λ f. read_at f k) found_x)) in
    let tail : ys ≡ xs = same_live x.number top xs ys r.1 above (ap rest_of o) (λ n k. by_test (nat_le n x.number)
    (λ t. ap (λ f. read_at f k) (none_below n x.number top ys (grind (arith, nat_tests)) above ∙ sym (none_below n x.number top xs (grind (arith, nat_tests)) r.1)))
    (λ t. let apart : x.number ≡ n → ⊥ = λ e. absurd (omega (arith, e, le_not n x.number t)) in
    sym (ap (λ f. read_at f k) (passed n y ys (λ e. apart (sym number ∙ e)))) ∙ (h n k ∙ ap (λ f. read_at f k) (passed n x xs apart)))) in
    ap₂ (λ a l. a ∷ l) head tail
  where
    passed : (n : ℕ) (s : Slot) (rest : List Slot) → (s.number ≡ n → ⊥) → find n (s ∷ rest) ≡ find n rest
    passed n s rest f = rw (ne_eqb s.number n f) refl

    le_not : (n m : ℕ) → nat_le n m ≡ false → m < n
    le_not n m t = grind (arith, nat_tests)

ascending_same : (low top : ℕ) (xs ys : List Slot) → map outline ys ≡ map outline xs → Ascending low top xs → Ascending low top ys
ascending_same low top [] [] o r = r
ascending_same low top [] (y ∷ ys) o r = absurd (let e : outline y ∷ map outline ys ≡ [] = o in cc)
ascending_same low top (x ∷ xs) [] o r = absurd (let e : [] ≡ outline x ∷ map outline xs = o in cc)
ascending_same low top (x ∷ xs) (y ∷ ys) o r =
    let number : x.number ≡ y.number = sym (ap (λ (l : Outline). l.number) (ap (first_of (outline y)) o)) in
    subst (λ n. (low < n) × Ascending n top ys) number (r.0, ascending_same x.number top xs ys (ap rest_of o) r.1)

same_store : (d e : Cells) → d.most ≡ e.most → d.count ≡ e.count → d.live ≡ e.live → d ≡ e
same_store d e m n l = ap₂ (λ m n. record { most = m; count = n; live = d.live }) m n ∙ ap (λ l. record { most = e.most; count = e.count; live = l }) l

-- ---- two stores of which a copy's laws hold

module _ (c d e : Cells) (p q : Pointer) (size : p.size ≡ q.size) (a : IsCopied c p q d) (b : IsCopied c p q e) where
  apart : (n k : ℕ) → (IsPartOf q n k → ⊥) → reads d n k ≡ reads e n k
  apart n k f = a.others n k f ∙ sym (b.others n k f)

  part : (k : ℕ) → reads d q.instance k ≡ reads e q.instance k
  part k = sided (cell_of q) q.size k
      (λ h. apart q.instance k (λ i. absurd (omega (arith, i.1, h))))
      (λ i h f. subst (λ k. reads d q.instance k ≡ reads e q.instance k) (sym f) (a.target i (omega arith) ∙ sym (b.target i (omega arith))))
      (λ h. apart q.instance k (λ i. absurd (omega (arith, i.2, h))))

  read_alike : (n k : ℕ) → reads d n k ≡ reads e n k
  read_alike n k = by_test (nat_eq n q.instance)
      (λ t. subst (λ n. reads d n k ≡ reads e n k) (sym (eqb-true n q.instance t)) (part k))
      (λ t. apart n k (λ i. absurd (false≢true (sym t ∙ eq-eqb n q.instance i.0))))

  pub one_store : IsStore c → d ≡ e
  one_store s = same_store d e (a.instances.0 ∙ sym b.instances.0) (a.instances.1 ∙ sym b.instances.1)
      (same_live 0 c.count e.live d.live
      (ascending_same 0 c.count c.live e.live b.instances.2 s.ascending)
      (ascending_same 0 c.count c.live d.live a.instances.2 s.ascending)
      (a.instances.2 ∙ sym b.instances.2)
      (λ n k. sym (reads_found d n k) ∙ (read_alike n k ∙ reads_found e n k)))

pub determined : CopiesAreDetermined
determined c d p q store size may a =
    let e : Cells = store_with c may.0 p may.1 q in
    let done : copy_of c p q ≡ Ok e = is_made c p q may in
    done ∙ ap (λ x. Ok x) (sym (one_store c d e p q size a (copied c e p q size done) store))
