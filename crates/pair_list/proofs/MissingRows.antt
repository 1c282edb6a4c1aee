-- A pair that is listed has its rows: so the list misses nothing that runs cover between direct sites of one local variable or parameter.
use Rattle.std.proofs.Common.{ℕ, zero, suc, ◌-◌, ◌≡◌, ◌⊎◌, inl, inr, List, [], ◌∷◌, ◌++◌, length, Option, Some, None, refl, ap, sym, subst, ◌∙◌, arith}
use Rattle.std.specs.Prelude.{slice_get, Contains}
use Rattle.std.proofs.lemmas.List.Elements.{Contains-append_left, Contains-append_right}
use Rattle.std.proofs.lemmas.Option.{slice_get_within}
use Rattle.c_base.specs.declared.labels.OutcomeLabel.{OutcomeLabel}
use Rattle.c_syntax.specs.View.{unit_shape}
use Rattle.c_tables.specs.Tables.{tables_shape}
use Rattle.c_tree.specs.declared.program.Program.{Program}
use Rattle.c_tree.specs.Programs.{HoldsProgram}
use Rattle.atac_base.specs.declared.rows.PairRow.{PairRow}
use Rattle.atac_base.specs.declared.rows.PUseRow.{PUseRow}
use Rattle.atac_base.specs.Items.{ItemLists}
use Rattle.atac_facts.specs.declared.fact.Fact.TheVariants as fact
use Rattle.c_sites.specs.declared.lists.DefSite.{DefSite}
use Rattle.c_sites.specs.declared.lists.UseSite.{UseSite}
use Rattle.c_sites.specs.declared.numbered.Sites.{Sites}
use Rattle.c_sites.specs.Refused.{AreSites}
use Rattle.c_meaning.specs.Calls.{Source}
use Rattle.c_meaning.specs.Sources.{source_of}
use Rattle.flow_owned.specs.Fields.{HaveApartFields}
use Rattle.flow_owned.proofs.Programs.{programs_have_apart_fields}
use Rattle.flow_parts.specs.Parts.{HasParts}
use Rattle.flow_parts.proofs.Positions.{covered_parts, covered_part_p_uses}
use Rattle.flow_accepted.proofs.Programs.{taken_has_parts}
use Rattle.flow_parts.proofs.Lists.{none_there}
use Rattle.flow_parts.proofs.Tested.{covered_p_uses_have_outcomes}
use Rattle.pair_list.specs.declared.pairs.Pair.{Pair}
use Rattle.pair_list.specs.Sites.{IsDef, IsUse}
use Rattle.pair_list.specs.PairLists.{all_pairs, labels_at}
use Rattle.pair_list.specs.Items.{IsListed, pair_row, with_outcomes, c_use_of, p_uses_of, c_use_at, p_uses_at, c_use_rows, p_use_rows, AreItems}
use Rattle.pair_list.specs.Missing.{owner_at, AreLocal, Covers, IsCUse, IsPUse, IsAmong, MissesNone}
use Rattle.pair_list.proofs.Searched.{either, there}
use Rattle.pair_list.proofs.Missing.{pair_of, pair_there, those_there, labels_here, owner_is, the_definition, the_use, same, listed}

-- ---- the rows of a pair

outcome_there : (row : PairRow) (ls : List (ℕ × OutcomeLabel)) (o : ℕ) (l : OutcomeLabel) → Contains ls (o, l) → Contains (with_outcomes row ls) (record { pair = row; outcome = o; label = l })
outcome_there row [] o l c = absurd (none_there (o, l) c)
outcome_there row (x ∷ ls) o l (zero, lt, e) = (0, omega arith, ap (λ (z : ℕ × OutcomeLabel). record { pair = row; outcome = z.0; label = z.1 }) e)
outcome_there row (x ∷ ls) o l (suc k, lt, e) = let m = outcome_there row ls o l (k, omega (arith, lt), e) in Contains-append_right (record { pair = row; outcome = x.0; label = x.1 } ∷ []) (with_outcomes row ls) (record { pair = row; outcome = o; label = l }) m

module _ (s : Sites) where
  c_use_here : (row : PairRow) (o : Option ℕ) → o ≡ None → Contains (c_use_of row o) row
  c_use_here row o e = subst (λ z. Contains (c_use_of row z) row) (sym e) (0, omega arith, refl)

  p_use_here : (row : PairRow) (q : Option ℕ) (k o : ℕ) (l : OutcomeLabel) → q ≡ Some k → Contains (labels_at s k) (o, l) → Contains (p_uses_of s row q) (record { pair = row; outcome = o; label = l })
  p_use_here row q k o l e c = subst (λ z. Contains (p_uses_of s row z) (record { pair = row; outcome = o; label = l })) (sym e) (outcome_there row (labels_at s k) o l c)

  module _ (p : Pair) (def : DefSite) (used : UseSite) (is_def : IsDef s p.def def) (is_use : IsUse s p.used used) where
    abbrev row : PairRow
    row = pair_row p def used

    c_use_there : used.owner ≡ None → (pairs : List Pair) → Contains pairs p → Contains (c_use_rows s pairs) row
    c_use_there e [] c = absurd (none_there p c)
    c_use_there e (q ∷ rest) (zero, l, same) =
        let here : Contains (c_use_at p (slice_get s.lists.defs.items (p.def - 1)) (slice_get s.lists.uses.items (p.used - 1))) row =
        subst (λ d. Contains (c_use_at p d (slice_get s.lists.uses.items (p.used - 1))) row) (sym is_def.1) (subst (λ u. Contains (c_use_at p (Some def) u) row) (sym is_use.1) (c_use_here row used.owner e)) in
        subst (λ (z : Pair). Contains (c_use_at z (slice_get s.lists.defs.items (z.def - 1)) (slice_get s.lists.uses.items (z.used - 1)) ++ c_use_rows s rest) row) (sym same)
        (Contains-append_left (c_use_at p (slice_get s.lists.defs.items (p.def - 1)) (slice_get s.lists.uses.items (p.used - 1))) (c_use_rows s rest) row here)
    c_use_there e (q ∷ rest) (suc k, l, same) =
        Contains-append_right (c_use_at q (slice_get s.lists.defs.items (q.def - 1)) (slice_get s.lists.uses.items (q.used - 1))) (c_use_rows s rest) row (c_use_there e rest (k, omega (arith, l), same))

    p_use_there : (k o : ℕ) (l : OutcomeLabel) → used.owner ≡ Some k → Contains (labels_at s k) (o, l) → (pairs : List Pair) → Contains pairs p → Contains (p_use_rows s pairs) (record { pair = row; outcome = o; label = l })
    p_use_there k o l e m [] c = absurd (none_there p c)
    p_use_there k o l e m (q ∷ rest) (zero, lt, same) =
        let w : PUseRow = record { pair = row; outcome = o; label = l } in
        let here : Contains (p_uses_at s p (slice_get s.lists.defs.items (p.def - 1)) (slice_get s.lists.uses.items (p.used - 1))) w =
        subst (λ d. Contains (p_uses_at s p d (slice_get s.lists.uses.items (p.used - 1))) w) (sym is_def.1) (subst (λ u. Contains (p_uses_at s p (Some def) u) w) (sym is_use.1) (p_use_here row used.owner k o l e m)) in
        subst (λ (z : Pair). Contains (p_uses_at s z (slice_get s.lists.defs.items (z.def - 1)) (slice_get s.lists.uses.items (z.used - 1)) ++ p_use_rows s rest) w) (sym same)
        (Contains-append_left (p_uses_at s p (slice_get s.lists.defs.items (p.def - 1)) (slice_get s.lists.uses.items (p.used - 1))) (p_use_rows s rest) w here)
    p_use_there k o l e m (q ∷ rest) (suc n, lt, same) =
        Contains-append_right (p_uses_at s q (slice_get s.lists.defs.items (q.def - 1)) (slice_get s.lists.uses.items (q.used - 1))) (p_use_rows s rest) (record { pair = row; outcome = o; label = l })
        (p_use_there k o l e m rest (n, omega (arith, lt), same))

-- ---- the list

both : {A B : Type 0} → A ⊎ (A → ⊥) → B ⊎ (B → ⊥) → (A × B) ⊎ (A × B → ⊥)
both (inl a) (inl b) = inl (a, b)
both (inl a) (inr no_b) = inr (λ h. no_b h.1)
both (inr no_a) b = inr (λ h. no_a h.0)

module _ (program : Program) (s : Sites) (sites : AreSites program s) (items : ItemLists) (are : AreItems (tables_shape program.tables) (unit_shape program.unit) s items) where
  abbrev P : Source
  P = source_of program

  -- the pair is one of the program's, with these sites
  record Found (d u : ℕ) : Type 0 where
    def : DefSite
    is_def : IsDef s d def
    used : UseSite
    is_use : IsUse s u used
    there : Contains are.pairs (pair_of d u)

  found : (d u : ℕ) → IsListed P.tables P.unit s (pair_of d u) → Found d u
  found d u q =
      let m = q.1.sites in
      let a = slice_get_within s.lists.defs.items (d - 1) m.def m.is_def.1 in
      let b = slice_get_within s.lists.uses.items (u - 1) m.used m.is_use.1 in
      let first = m.is_def.0 in
      let second = m.is_use.0 in
      let all : Contains (all_pairs s) (pair_of d u) = pair_there (length s.lists.uses.items) 1 (length s.lists.defs.items) d u first (omega (arith, a, first)) second (omega (arith, b, second)) in
      record { def = m.def; is_def = m.is_def; used = m.used; is_use = m.is_use; there = those_there (IsListed P.tables P.unit s) (all_pairs s) are.pairs (pair_of d u) are.are all q }

  p_use_of : (d u k o : ℕ) (l : OutcomeLabel) (f : Found d u) → f.used.owner ≡ Some k → Contains (labels_at s k) (o, l) → IsPUse items d u o
  p_use_of d u k o l f e c =
      let w : PUseRow = record { pair = pair_row (pair_of d u) f.def f.used; outcome = o; label = l } in
      (w, subst (λ rows. Contains rows w) (sym are.p_uses) (p_use_there s (pair_of d u) f.def f.used f.is_def f.is_use k o l e c are.pairs f.there), refl, refl, refl)

  among : (d u : ℕ) (f : Found d u) (q : Option ℕ) → f.used.owner ≡ q → IsAmong s items d u q
  among d u f None e =
      let w = pair_row (pair_of d u) f.def f.used in
      (w, subst (λ rows. Contains rows w) (sym are.c_uses) (c_use_there s (pair_of d u) f.def f.used f.is_def f.is_use e are.pairs f.there), refl, refl)
  among d u f (Some k) e = λ o l c. p_use_of d u k o l f e c

  -- ---- of a program of the checker

  module _ (holds : HoldsProgram P.unit P.tables) where
    has : HasParts P
    has = taken_has_parts P holds.program sites.clean

    fields : HaveApartFields P.tables
    fields = programs_have_apart_fields P.unit P.tables holds.program

    pairs_among : (input : List ℕ) (limit d u : ℕ) → AreLocal P s d u → Covers P s input limit (fact.Pair d u) → IsAmong s items d u (owner_at s u)
    pairs_among input limit d u a c =
        let v = the_definition P s sites.numbered d u a in
        let r = the_use P s sites.numbered d u a in
        let m = covered_parts P has (owner_at s) input limit d u v.site r.site v.is r.is (same P s sites.numbered d u a) c in
        let f = found d u (listed P s sites.numbered d u a fields m.0 m.1) in
        among d u f (owner_at s u) (sym (owner_is P s sites.numbered u f.used f.is_use))

    p_uses_among : (input : List ℕ) (limit d u o : ℕ) → AreLocal P s d u → Covers P s input limit (fact.PUse d u o) → IsPUse items d u o
    p_uses_among input limit d u o a c =
        let v = the_definition P s sites.numbered d u a in
        let r = the_use P s sites.numbered d u a in
        let m = covered_part_p_uses P has (owner_at s) input limit d u o v.site r.site v.is r.is (same P s sites.numbered d u a) c in
        let f = found d u (listed P s sites.numbered d u a fields m.0 m.1) in
        let h = labels_here P s sites.numbered c.0 o (covered_p_uses_have_outcomes P has (owner_at s) input limit d u c.0 o c.1 c) in
        p_use_of d u c.0 o h.0 f (sym (owner_is P s sites.numbered u f.used f.is_use) ∙ c.1) h.1

  -- ---- and of what a program holds

  module _ (held : ∥ HoldsProgram P.unit P.tables ∥₁) where
    abbrev IsPRow : ℕ → ℕ → ℕ → PUseRow → Type 0
    IsPRow d u o row = (row.pair.def ≡ d) × ((row.pair.user ≡ u) × (row.outcome ≡ o))

    p_use : (d u o : ℕ) → (HoldsProgram P.unit P.tables → IsPUse items d u o) → IsPUse items d u o
    p_use d u o f =
        let r = there (IsPRow d u o) (λ row. both (either row.pair.def d) (both (either row.pair.user u) (either row.outcome o))) items.p_uses held (λ h. let g = f h in (g.0, g.1, (g.2, (g.3, g.4)))) in
        (r.0, r.1, r.2.0, r.2.1.0, r.2.1.1)

    abbrev IsCRow : ℕ → ℕ → PairRow → Type 0
    IsCRow d u row = (row.def ≡ d) × (row.user ≡ u)

    c_use : (d u : ℕ) → (HoldsProgram P.unit P.tables → IsCUse items d u) → IsCUse items d u
    c_use d u f =
        let r = there (IsCRow d u) (λ row. both (either row.def d) (either row.user u)) items.c_uses held (λ h. let g = f h in (g.0, g.1, (g.2, g.3))) in
        (r.0, r.1, r.2.0, r.2.1)

    is_among : (d u : ℕ) (q : Option ℕ) → (HoldsProgram P.unit P.tables → IsAmong s items d u q) → IsAmong s items d u q
    is_among d u None f = c_use d u f
    is_among d u (Some k) f = λ o l c. p_use d u o (λ h. f h o l c)

pub misses_none : (program : Program) (s : Sites) → AreSites program s → (items : ItemLists) → AreItems (tables_shape program.tables) (unit_shape program.unit) s items → ∥ HoldsProgram (unit_shape program.unit) (tables_shape program.tables) ∥₁ → MissesNone (source_of program) s items
misses_none program s sites items are held = record {
  pairs = λ input limit d u a c. is_among program s sites items are held d u (owner_at s u) (λ h. pairs_among program s sites items are h input limit d u a c);
  p_uses = λ input limit d u o a c. p_use program s sites items are held d u o (λ h. p_uses_among program s sites items are h input limit d u o a c);
}
