-- Rows of items while they are made, one kind after the other.
use Rattle.std.proofs.Common.{ℕ, zero, suc, ◌+◌, ◌-◌, ◌<◌, ◌≤◌, ◌≡◌, List, [], ◌∷◌, ◌++◌, length, take, Some, None, refl, ap, sym, ◌∙◌, arith, append_assoc}
use Rattle.std.specs.Prelude.{slice_get}
use Rattle.std.proofs.lemmas.Option.{slice_get_past}
use Rattle.std.proofs.lemmas.List.{append-nil, length-take-le}
use Rattle.c_base.specs.declared.place.Pos.{Pos}
use Rattle.c_base.specs.declared.labels.OutcomeLabel.{OutcomeLabel}
use Rattle.atac_base.specs.declared.rows.PairRow.{PairRow}
use Rattle.atac_base.specs.Items.{ItemLists}
use Rattle.c_sites.specs.declared.lists.Decision.{Decision}
use Rattle.c_sites.specs.declared.lists.DefSite.{DefSite}
use Rattle.c_sites.specs.declared.lists.UseSite.{UseSite}
use Rattle.c_sites.specs.declared.numbered.Sites.{Sites}
use Rattle.pair_list.specs.declared.pairs.Pair.{Pair}
use Rattle.pair_list.specs.Placed.{IsPlaced}
use Rattle.pair_list.specs.PairLists.{labels_at, labels_of}
use Rattle.pair_list.specs.Items.{label_rows, outcome_rows, pair_row, with_outcomes, c_use_of, p_uses_of, c_use_at, p_uses_at, c_use_rows, p_use_rows}

-- ---- one more of a list

module _ {X : Type 0} where
  pub taken_more : (xs : List X) (i : ℕ) (x : X) → slice_get xs i ≡ Some x → take (i + 1) xs ≡ take i xs ++ x ∷ []
  taken_more xs i x h = let e : i + 1 ≡ suc i = omega arith in ap (λ n. take n xs) e ∙ by xs i h
    where
      by : (xs : List X) (i : ℕ) → slice_get xs i ≡ Some x → take (suc i) xs ≡ take i xs ++ x ∷ []
      by [] i h = cc
      by (y ∷ ys) zero h = let same : y ≡ x = cc in ap (λ z. z ∷ []) same
      by (y ∷ ys) (suc i) h = ap (λ l. y ∷ l) (by ys i h)

labels_both : (k : ℕ) (p : Pos) (xs ys : List (ℕ × OutcomeLabel)) → label_rows k p (xs ++ ys) ≡ label_rows k p xs ++ label_rows k p ys
labels_both k p [] ys = refl
labels_both k p (x ∷ xs) ys = ap (λ l. record { decision = k; outcome = x.0; pos = p; label = x.1 } ∷ l) (labels_both k p xs ys)

outcomes_both : (k : ℕ) (xs ys : List Decision) → outcome_rows k (xs ++ ys) ≡ outcome_rows k xs ++ outcome_rows (k + length xs) ys
outcomes_both k [] ys = let e : k ≡ k + 0 = omega arith in ap (λ n. outcome_rows n ys) e
outcomes_both k (x ∷ xs) ys =
    let e : suc k + length xs ≡ k + suc (length xs) = omega arith in
    ap (λ l. label_rows (suc k) x.pos x.labels ++ l) (outcomes_both (suc k) xs ys ∙ ap (λ n. outcome_rows (suc k) xs ++ outcome_rows n ys) e)
    ∙ sym (append_assoc (label_rows (suc k) x.pos x.labels) (outcome_rows (suc k) xs) (outcome_rows (k + suc (length xs)) ys))

with_both : (row : PairRow) (xs ys : List (ℕ × OutcomeLabel)) → with_outcomes row (xs ++ ys) ≡ with_outcomes row xs ++ with_outcomes row ys
with_both row [] ys = refl
with_both row (x ∷ xs) ys = ap (λ l. record { pair = row; outcome = x.0; label = x.1 } ∷ l) (with_both row xs ys)

c_uses_both : (s : Sites) (xs ys : List Pair) → c_use_rows s (xs ++ ys) ≡ c_use_rows s xs ++ c_use_rows s ys
c_uses_both s [] ys = refl
c_uses_both s (p ∷ xs) ys =
    let here = c_use_at p (slice_get s.lists.defs.items (p.def - 1)) (slice_get s.lists.uses.items (p.used - 1)) in
    ap (λ l. here ++ l) (c_uses_both s xs ys) ∙ sym (append_assoc here (c_use_rows s xs) (c_use_rows s ys))

p_uses_both : (s : Sites) (xs ys : List Pair) → p_use_rows s (xs ++ ys) ≡ p_use_rows s xs ++ p_use_rows s ys
p_uses_both s [] ys = refl
p_uses_both s (p ∷ xs) ys =
    let here = p_uses_at s p (slice_get s.lists.defs.items (p.def - 1)) (slice_get s.lists.uses.items (p.used - 1)) in
    ap (λ l. here ++ l) (p_uses_both s xs ys) ∙ sym (append_assoc here (p_use_rows s xs) (p_use_rows s ys))

-- ---- while they are put

pub blocks_more : (old mid new : ItemLists) (xs : List Pos) (i : ℕ) (p : Pos) → slice_get xs i ≡ Some p → mid ≡ record old { blocks = old.blocks ++ take i xs } → new ≡ record mid { blocks = mid.blocks ++ p ∷ [] } → new ≡ record old { blocks = old.blocks ++ take (i + 1) xs }
blocks_more old mid new xs i p h e f =
    f ∙ ap (λ (m : ItemLists). record m { blocks = m.blocks ++ p ∷ [] }) e ∙ ap (λ l. record old { blocks = l }) (append_assoc old.blocks (take i xs) (p ∷ []) ∙ ap (λ l. old.blocks ++ l) (sym (taken_more xs i p h)))

pub labels_more : (old mid new : ItemLists) (k : ℕ) (p : Pos) (xs : List (ℕ × OutcomeLabel)) (i : ℕ) (x : ℕ × OutcomeLabel) → slice_get xs i ≡ Some x → mid ≡ record old { outcomes = old.outcomes ++ label_rows k p (take i xs) }
    → new ≡ record mid { outcomes = mid.outcomes ++ record { decision = k; outcome = x.0; pos = p; label = x.1 } ∷ [] } → new ≡ record old { outcomes = old.outcomes ++ label_rows k p (take (i + 1) xs) }
labels_more old mid new k p xs i x h e f =
    let more = label_rows k p (x ∷ []) in
    f ∙ ap (λ (m : ItemLists). record m { outcomes = m.outcomes ++ more }) e ∙ ap (λ l. record old { outcomes = l }) (append_assoc old.outcomes (label_rows k p (take i xs)) more
    ∙ ap (λ l. old.outcomes ++ l) (sym (ap (label_rows k p) (taken_more xs i x h) ∙ labels_both k p (take i xs) (x ∷ []))))

pub outcomes_more : (old mid new : ItemLists) (xs : List Decision) (i n : ℕ) (d : Decision) → slice_get xs i ≡ Some d → i ≤ length xs → n ≡ i + 1 → mid ≡ record old { outcomes = old.outcomes ++ outcome_rows 0 (take i xs) }
    → new ≡ record mid { outcomes = mid.outcomes ++ label_rows n d.pos d.labels } → new ≡ record old { outcomes = old.outcomes ++ outcome_rows 0 (take (i + 1) xs) }
outcomes_more old mid new xs i n d h le is e f =
    let more = label_rows n d.pos d.labels in
    let size : length (take i xs) ≡ i = length-take-le i xs le in
    let number : suc (0 + length (take i xs)) ≡ n = omega arith in
    let last : outcome_rows (0 + length (take i xs)) (d ∷ []) ≡ more = append-nil (label_rows (suc (0 + length (take i xs))) d.pos d.labels) ∙ ap (λ m. label_rows m d.pos d.labels) number in
    f ∙ ap (λ (m : ItemLists). record m { outcomes = m.outcomes ++ more }) e ∙ ap (λ l. record old { outcomes = l }) (append_assoc old.outcomes (outcome_rows 0 (take i xs)) more
    ∙ ap (λ l. old.outcomes ++ l) (sym (ap (outcome_rows 0) (taken_more xs i d h) ∙ outcomes_both 0 (take i xs) (d ∷ []) ∙ ap (λ l. outcome_rows 0 (take i xs) ++ l) last)))

pub names_more : (old mid new : ItemLists) (xs : List (List ℕ)) (i : ℕ) (x : List ℕ) → slice_get xs i ≡ Some x → mid ≡ record old { names = old.names ++ take i xs } → new ≡ record mid { names = mid.names ++ x ∷ [] } → new ≡ record old { names = old.names ++ take (i + 1) xs }
names_more old mid new xs i x h e f =
    f ∙ ap (λ (m : ItemLists). record m { names = m.names ++ x ∷ [] }) e ∙ ap (λ l. record old { names = l }) (append_assoc old.names (take i xs) (x ∷ []) ∙ ap (λ l. old.names ++ l) (sym (taken_more xs i x h)))

pub with_more : (old mid new : ItemLists) (row : PairRow) (xs : List (ℕ × OutcomeLabel)) (i : ℕ) (x : ℕ × OutcomeLabel) → slice_get xs i ≡ Some x → mid ≡ record old { p_uses = old.p_uses ++ with_outcomes row (take i xs) }
    → new ≡ record mid { p_uses = mid.p_uses ++ record { pair = row; outcome = x.0; label = x.1 } ∷ [] } → new ≡ record old { p_uses = old.p_uses ++ with_outcomes row (take (i + 1) xs) }
with_more old mid new row xs i x h e f =
    let more = with_outcomes row (x ∷ []) in
    f ∙ ap (λ (m : ItemLists). record m { p_uses = m.p_uses ++ more }) e ∙ ap (λ l. record old { p_uses = l }) (append_assoc old.p_uses (with_outcomes row (take i xs)) more
    ∙ ap (λ l. old.p_uses ++ l) (sym (ap (with_outcomes row) (taken_more xs i x h) ∙ with_both row (take i xs) (x ∷ []))))

pub c_uses_more : (s : Sites) (old mid new : ItemLists) (xs : List Pair) (i : ℕ) (p : Pair) → slice_get xs i ≡ Some p → mid ≡ record old { c_uses = old.c_uses ++ c_use_rows s (take i xs) }
    → new ≡ record mid { c_uses = mid.c_uses ++ c_use_at p (slice_get s.lists.defs.items (p.def - 1)) (slice_get s.lists.uses.items (p.used - 1)) } → new ≡ record old { c_uses = old.c_uses ++ c_use_rows s (take (i + 1) xs) }
c_uses_more s old mid new xs i p h e f =
    let more = c_use_at p (slice_get s.lists.defs.items (p.def - 1)) (slice_get s.lists.uses.items (p.used - 1)) in
    f ∙ ap (λ (m : ItemLists). record m { c_uses = m.c_uses ++ more }) e ∙ ap (λ l. record old { c_uses = l }) (append_assoc old.c_uses (c_use_rows s (take i xs)) more
    ∙ ap (λ l. old.c_uses ++ l) (sym (ap (c_use_rows s) (taken_more xs i p h) ∙ c_uses_both s (take i xs) (p ∷ []) ∙ ap (λ l. c_use_rows s (take i xs) ++ l) (append-nil more))))

pub p_uses_more : (s : Sites) (old mid new : ItemLists) (xs : List Pair) (i : ℕ) (p : Pair) → slice_get xs i ≡ Some p → mid ≡ record old { p_uses = old.p_uses ++ p_use_rows s (take i xs) }
    → new ≡ record mid { p_uses = mid.p_uses ++ p_uses_at s p (slice_get s.lists.defs.items (p.def - 1)) (slice_get s.lists.uses.items (p.used - 1)) } → new ≡ record old { p_uses = old.p_uses ++ p_use_rows s (take (i + 1) xs) }
p_uses_more s old mid new xs i p h e f =
    let more = p_uses_at s p (slice_get s.lists.defs.items (p.def - 1)) (slice_get s.lists.uses.items (p.used - 1)) in
    f ∙ ap (λ (m : ItemLists). record m { p_uses = m.p_uses ++ more }) e ∙ ap (λ l. record old { p_uses = l }) (append_assoc old.p_uses (p_use_rows s (take i xs)) more
    ∙ ap (λ l. old.p_uses ++ l) (sym (ap (p_use_rows s) (taken_more xs i p h) ∙ p_uses_both s (take i xs) (p ∷ []) ∙ ap (λ l. p_use_rows s (take i xs) ++ l) (append-nil more))))

-- ---- the rows of one pair

there_is : {X : Type 0} (xs : List X) (k : ℕ) → k < length xs → (x : X) × (slice_get xs k ≡ Some x)
there_is [] k l = absurd (omega arith)
there_is (x ∷ xs) zero l = (x, refl)
there_is (x ∷ xs) (suc k) l = there_is xs k (omega arith)

pub c_use_put : (s : Sites) (p : Pair) (row : PairRow) (old new : ItemLists) → IsPlaced s p
    → ((d : DefSite) (u : UseSite) → slice_get s.lists.defs.items (p.def - 1) ≡ Some d → slice_get s.lists.uses.items (p.used - 1) ≡ Some u → row ≡ pair_row p d u)
    → (used : UseSite) → slice_get s.lists.uses.items (p.used - 1) ≡ Some used → used.owner ≡ None → new ≡ record old { c_uses = old.c_uses ++ row ∷ [] }
    → new ≡ record old { c_uses = old.c_uses ++ c_use_at p (slice_get s.lists.defs.items (p.def - 1)) (slice_get s.lists.uses.items (p.used - 1)) }
c_use_put s p row old new placed is used at none e =
    let a = placed.def_some in
    let b = placed.def_there in
    let d = there_is s.lists.defs.items (p.def - 1) (omega arith) in
    let here : c_use_at p (slice_get s.lists.defs.items (p.def - 1)) (slice_get s.lists.uses.items (p.used - 1)) ≡ row ∷ [] =
    ap (λ x. c_use_at p x (slice_get s.lists.uses.items (p.used - 1))) d.1 ∙ ap (c_use_at p (Some d.0)) at ∙ ap (c_use_of (pair_row p d.0 used)) none ∙ ap (λ r. r ∷ []) (sym (is d.0 used d.1 at)) in
    e ∙ ap (λ l. record old { c_uses = old.c_uses ++ l }) (sym here)

labels_there : (s : Sites) (k : ℕ) (d : Decision) → 1 ≤ k → slice_get s.lists.decisions.items (k - 1) ≡ Some d → labels_at s k ≡ d.labels
labels_there s zero d l at = absurd (omega arith)
labels_there s (suc k) d l at = let e : k ≡ suc k - 1 = omega arith in ap labels_of (ap (slice_get s.lists.decisions.items) e ∙ at)

pub p_uses_put : (s : Sites) (p : Pair) (row : PairRow) (old new : ItemLists) → IsPlaced s p
    → ((d : DefSite) (u : UseSite) → slice_get s.lists.defs.items (p.def - 1) ≡ Some d → slice_get s.lists.uses.items (p.used - 1) ≡ Some u → row ≡ pair_row p d u)
    → (used : UseSite) (k : ℕ) (decision : Decision) → slice_get s.lists.uses.items (p.used - 1) ≡ Some used → used.owner ≡ Some k → 1 ≤ k → slice_get s.lists.decisions.items (k - 1) ≡ Some decision
    → new ≡ record old { p_uses = old.p_uses ++ with_outcomes row decision.labels }
    → new ≡ record old { p_uses = old.p_uses ++ p_uses_at s p (slice_get s.lists.defs.items (p.def - 1)) (slice_get s.lists.uses.items (p.used - 1)) }
p_uses_put s p row old new placed is used k decision at owner some there e =
    let a = placed.def_some in
    let b = placed.def_there in
    let d = there_is s.lists.defs.items (p.def - 1) (omega arith) in
    let here : p_uses_at s p (slice_get s.lists.defs.items (p.def - 1)) (slice_get s.lists.uses.items (p.used - 1)) ≡ with_outcomes row decision.labels =
    ap (λ x. p_uses_at s p x (slice_get s.lists.uses.items (p.used - 1))) d.1 ∙ ap (p_uses_at s p (Some d.0)) at ∙ ap (p_uses_of s (pair_row p d.0 used)) owner ∙ ap (with_outcomes (pair_row p d.0 used)) (labels_there s k decision some there)
    ∙ ap (λ r. with_outcomes r decision.labels) (sym (is d.0 used d.1 at)) in
    e ∙ ap (λ l. record old { p_uses = old.p_uses ++ l }) (sym here)

pub no_p_uses : (old : ItemLists) → old ≡ record old { p_uses = old.p_uses ++ [] }
no_p_uses old = ap (λ l. record old { p_uses = l }) (sym (append-nil old.p_uses))

labels_past : (s : Sites) (k : ℕ) → length s.lists.decisions.items < k → labels_at s k ≡ []
labels_past s zero l = refl
labels_past s (suc k) l = ap labels_of (slice_get_past s.lists.decisions.items k (omega arith))

pub p_uses_past : (s : Sites) (p : Pair) (old : ItemLists) → IsPlaced s p → (used : UseSite) (k : ℕ) → slice_get s.lists.uses.items (p.used - 1) ≡ Some used → used.owner ≡ Some k → length s.lists.decisions.items < k
    → old ≡ record old { p_uses = old.p_uses ++ p_uses_at s p (slice_get s.lists.defs.items (p.def - 1)) (slice_get s.lists.uses.items (p.used - 1)) }
p_uses_past s p old placed used k at owner past =
    let a = placed.def_some in
    let b = placed.def_there in
    let d = there_is s.lists.defs.items (p.def - 1) (omega arith) in
    let none : p_uses_at s p (slice_get s.lists.defs.items (p.def - 1)) (slice_get s.lists.uses.items (p.used - 1)) ≡ [] =
    ap (λ x. p_uses_at s p x (slice_get s.lists.uses.items (p.used - 1))) d.1 ∙ ap (p_uses_at s p (Some d.0)) at ∙ ap (p_uses_of s (pair_row p d.0 used)) owner ∙ ap (with_outcomes (pair_row p d.0 used)) (labels_past s k past) in
    no_p_uses old ∙ ap (λ l. record old { p_uses = old.p_uses ++ l }) (sym none)

-- ---- nothing is put

pub no_blocks : (old : ItemLists) → old ≡ record old { blocks = old.blocks ++ [] }
no_blocks old = ap (λ l. record old { blocks = l }) (sym (append-nil old.blocks))

pub no_outcomes : (old : ItemLists) → old ≡ record old { outcomes = old.outcomes ++ [] }
no_outcomes old = ap (λ l. record old { outcomes = l }) (sym (append-nil old.outcomes))

pub no_names : (old : ItemLists) → old ≡ record old { names = old.names ++ [] }
no_names old = ap (λ l. record old { names = l }) (sym (append-nil old.names))

pub no_c_uses : (old : ItemLists) → old ≡ record old { c_uses = old.c_uses ++ [] }
no_c_uses old = ap (λ l. record old { c_uses = l }) (sym (append-nil old.c_uses))
