-- One external declaration after the other: the pairs so far, and those that come behind them.
use Rattle.std.proofs.Common.{ℕ, zero, suc, ◌+◌, ◌-◌, ◌<◌, ◌≤◌, ◌≡◌, ◌↔◌, List, [], ◌∷◌, length, Some, refl, ap, sym, subst, ◌∙◌, arith}
use Rattle.std.specs.Prelude.{slice_get}
use Rattle.std.specs.List.{AllByRecursion}
use Rattle.std.proofs.lemmas.List.{append-nil, take_all}
use Rattle.c_syntax.specs.Shape.{ExternalShape, UnitShape}
use Rattle.c_tables.specs.Tables.{TablesShape}
use Rattle.c_walk.specs.Counted.{def_count}
use Rattle.c_walk.specs.Walked.{Walked}
use Rattle.c_walk.specs.Units.{walk_external, walk_externals, no_items, items_of}
use Rattle.flow_walks.specs.declared.action.Action.{Action}
use Rattle.flow_rows.specs.declared.numbers.Numbers.{Numbers}
use Rattle.flow_rows.specs.Counts.{counts}
use Rattle.flow_marks.specs.declared.flow.FlowRow.{FlowRow}
use Rattle.flow_marks.specs.Paths.{Spells}
use Rattle.flow_graph.specs.Graphs.{FlowGraph, IsGraph, IsDeclared, walks_of}
use Rattle.flow_graph.specs.Flow.{SpellsActions}
use Rattle.c_sites.specs.declared.lists.DefSite.{DefSite}
use Rattle.c_sites.specs.declared.numbered.Sites.{Sites}
use Rattle.c_sites.specs.Refused.{AreNumbered}
use Rattle.pair_list.specs.declared.pairs.Pair.{Pair}
use Rattle.pair_list.specs.Sites.{IsDef}
use Rattle.pair_list.specs.PairLists.{AreThose, pairs_from, all_pairs, items_in, HasMore, Appends}
use Rattle.pair_list.specs.Found.{IsSpelledPair}
use Rattle.pair_list.specs.Items.{IsListed, AreTooMany, most_items}
use Rattle.pair_list.specs.Runs.{StandTogether, IsPathPair, behind, AreRowsOf, AreSoFar}
use Rattle.pair_list.proofs.Running.{appends_none, appends_both, more_later}
use Rattle.pair_list.proofs.Among.{each_from, none_among, appends_among, more_among}
use Rattle.pair_list.proofs.Belonging.{behind_more, all_counted, low_high, high_within, together, none_listed, path_listed}

pub there_is : {X : Type 0} (xs : List X) (k : ℕ) → k < length xs → (x : X) × (slice_get xs k ≡ Some x)
there_is [] k l = absurd (omega arith)
there_is (x ∷ xs) zero l = (x, refl)
there_is (x ∷ xs) (suc k) l = there_is xs k (omega arith)

-- the rows of a function's graph are those of its walks
pub rows_are : (t : TablesShape) (e : ExternalShape) (s : Walked) (g : FlowGraph) (flow now : List FlowRow) → now ≡ flow → IsGraph (walks_of t e s) g → ((v : List Action) → Spells flow 0 v ↔ SpellsActions g.rows v) → AreRowsOf t e s now
rows_are t e s g flow now same laid spells v = (
  (λ a. let x = (spells v).0 (subst (λ l. Spells l 0 v) same a) in (x.0, (laid.walks x.0).0 x.1, x.2)),
  (λ x. subst (λ l. Spells l 0 v) (sym same) ((spells v).1 (x.0, (laid.walks x.0).1 x.1, x.2))),
)

-- ---- a run in one function

module _ (g : List FlowRow) (s : Sites) (f first count : ℕ) (site : DefSite) (some : 0 < count) (is : IsDef s first site) (function : f ≡ site.function) (stand : StandTogether s first count) where
  path_same : (p : Pair) → first ≤ p.def → p.def < first + count → IsSpelledPair g s f p ↔ IsPathPair g s p
  path_same p l h = ((λ a. (f, a)), back)
    where
      back : IsPathPair g s p → IsSpelledPair g s f p
      back q =
          let own : q.0 ≡ f = sym q.1.sites.def_function ∙ stand p.def first q.1.sites.def site l h q.1.sites.is_def (omega arith) (omega arith) is ∙ sym function in
          subst (λ n. IsSpelledPair g s n p) own q.1

  path_each : (uses : ℕ) → AllByRecursion (λ p. IsSpelledPair g s f p ↔ IsPathPair g s p) (pairs_from uses first count)
  path_each uses = each_from (λ p. IsSpelledPair g s f p ↔ IsPathPair g s p) uses first count (λ d u l h m n. path_same (record { def = d; used = u }) l h)

  pub path_appends : (uses : ℕ) (old new : List Pair) → Appends (IsSpelledPair g s f) (pairs_from uses first count) old new → Appends (IsPathPair g s) (pairs_from uses first count) old new
  path_appends uses old new a = appends_among (IsSpelledPair g s f) (IsPathPair g s) (pairs_from uses first count) old new (path_each uses) a

  pub path_more : (uses limit : ℕ) (old : List Pair) → HasMore (IsSpelledPair g s f) (pairs_from uses first count) s old limit → HasMore (IsPathPair g s) (pairs_from uses first count) s old limit
  path_more uses limit old m = more_among (IsSpelledPair g s f) (IsPathPair g s) (pairs_from uses first count) old s limit (path_each uses) m

pub no_run : (P : Pair → Type 0) (uses first count : ℕ) (old : List Pair) → count ≡ 0 → Appends P (pairs_from uses first count) old old
no_run P uses first count old e = subst (λ n. Appends P (pairs_from uses first n) old old) (sym e) (appends_none P uses first old)

-- ---- before all, and behind all

pub so_far_start : (t : TablesShape) (u : UnitShape) (s : Sites) (n : Numbers) → n ≡ counts no_items → AreSoFar t u s 0 n [] 0
so_far_start t u s n e = subst (λ m. AreSoFar t u s 0 m [] 0) (sym e) (record { counted = refl; listed = ([], refl, refl); count = refl; within = omega arith })

pub so_far_all : (t : TablesShape) (u : UnitShape) (s : Sites) (k : ℕ) (n : Numbers) (pairs : List Pair) (items : ℕ) → AreNumbered t.structures (items_of t u) s → length u.externals ≤ k → AreSoFar t u s k n pairs items → AreThose (IsListed t u s) (all_pairs s) pairs
so_far_all t u s k n pairs items numbered le a =
    let whole : behind t u k ≡ walk_externals t u.externals no_items = ap (λ l. walk_externals t l no_items) (take_all k u.externals le) in
    let size : n.defs ≡ length s.lists.defs.items = ap (λ (m : Numbers). m.defs) (sym a.counted) ∙ ap (λ (w : Walked). def_count w.items) whole ∙ all_counted t u s numbered in
    let uses = length s.lists.uses.items in
    subst (λ l. AreThose (IsListed t u s) (pairs_from uses 1 l) pairs) size (subst (AreThose (IsListed t u s) (pairs_from uses 1 n.defs)) (sym a.listed.2) a.listed.1)

-- ---- one external declaration more

module _ (t : TablesShape) (u : UnitShape) (s : Sites) (numbered : AreNumbered t.structures (items_of t u) s) (k : ℕ) (e : ExternalShape) (here : slice_get u.externals k ≡ Some e)
    (before now : Numbers) (old : List Pair) (items : ℕ) (so_far : AreSoFar t u s k before old items) (counted : counts (behind t u (k + 1)) ≡ now) where
  low_is : before.defs ≡ def_count (behind t u k).items
  low_is = ap (λ (n : Numbers). n.defs) (sym so_far.counted)

  high_is : now.defs ≡ def_count (walk_external t e (behind t u k)).items
  high_is = ap (λ (n : Numbers). n.defs) (sym counted) ∙ ap (λ (w : Walked). def_count w.items) (behind_more t u k (k + 1) e (omega arith) here)

  pub no_fewer : before.defs ≤ now.defs
  no_fewer = let l = low_is in let h = high_is in let m = low_high t u s numbered k e here in omega arith

  pub all_there : now.defs ≤ length s.lists.defs.items
  all_there = let h = high_is in let m = high_within t u s numbered k e here in omega arith

  pub stand_there : StandTogether s (before.defs + 1) (now.defs - before.defs)
  stand_there = let l = low_is in let h = high_is in let n = no_fewer in together t u s numbered k e here (before.defs + 1) (now.defs - before.defs) (omega arith) (omega arith)

  listed_next : (new : List Pair) → Appends (IsListed t u s) (pairs_from (length s.lists.uses.items) (before.defs + 1) (now.defs - before.defs)) old new → Appends (IsListed t u s) (pairs_from (length s.lists.uses.items) 1 now.defs) [] new
  listed_next new a =
      let n = no_fewer in
      let first : before.defs + 1 ≡ 1 + before.defs = omega arith in
      let total : before.defs + (now.defs - before.defs) ≡ now.defs = omega arith in
      let uses = length s.lists.uses.items in
      subst (λ d. Appends (IsListed t u s) (pairs_from uses 1 d) [] new) total
      (appends_both (IsListed t u s) uses 1 before.defs (now.defs - before.defs) [] old new so_far.listed (subst (λ d. Appends (IsListed t u s) (pairs_from uses d (now.defs - before.defs)) old new) first a))

  -- one that defines no function
  pub so_far_none : IsDeclared e → AreSoFar t u s (k + 1) now old items
  so_far_none is =
      let l = low_is in
      let h = high_is in
      let n = no_fewer in
      let none = each_from (λ p. IsListed t u s p → ⊥) (length s.lists.uses.items) (before.defs + 1) (now.defs - before.defs) (λ d v a b m o. none_listed t u s numbered k e here is (record { def = d; used = v }) (omega arith) (omega arith)) in
      record {
        counted = counted;
        listed = listed_next old ([], none_among (IsListed t u s) (pairs_from (length s.lists.uses.items) (before.defs + 1) (now.defs - before.defs)) none, sym (append-nil old));
        count = so_far.count;
        within = so_far.within;
      }

  module _ (g : List FlowRow) (rows : AreRowsOf t e (behind t u k) g) where
    listed_each : AllByRecursion (λ p. IsPathPair g s p ↔ IsListed t u s p) (pairs_from (length s.lists.uses.items) (before.defs + 1) (now.defs - before.defs))
    listed_each =
        let l = low_is in
        let h = high_is in
        let n = no_fewer in
        each_from (λ p. IsPathPair g s p ↔ IsListed t u s p) (length s.lists.uses.items) (before.defs + 1) (now.defs - before.defs) (λ d v a b m o. path_listed t u s numbered k e here g rows (record { def = d; used = v }) (omega arith) (omega arith))

    pub so_far_next : (new : List Pair) (more : ℕ) → Appends (IsPathPair g s) (pairs_from (length s.lists.uses.items) (before.defs + 1) (now.defs - before.defs)) old new → more ≡ items_in s new → more ≤ most_items → AreSoFar t u s (k + 1) now new more
    so_far_next new more a is few = record {
      counted = counted;
      listed = listed_next new (appends_among (IsPathPair g s) (IsListed t u s) (pairs_from (length s.lists.uses.items) (before.defs + 1) (now.defs - before.defs)) old new listed_each a);
      count = is;
      within = few;
    }

    pub too_many : HasMore (IsPathPair g s) (pairs_from (length s.lists.uses.items) (before.defs + 1) (now.defs - before.defs)) s old most_items → AreTooMany t u s
    too_many m =
        let n = no_fewer in
        let o = all_there in
        let first : before.defs + 1 ≡ 1 + before.defs = omega arith in
        let uses = length s.lists.uses.items in
        more_later (IsListed t u s) s uses 1 before.defs (now.defs - before.defs) (length s.lists.defs.items) most_items [] old (omega arith) so_far.listed
        (subst (λ d. HasMore (IsListed t u s) (pairs_from uses d (now.defs - before.defs)) s old most_items) first
        (more_among (IsPathPair g s) (IsListed t u s) (pairs_from uses (before.defs + 1) (now.defs - before.defs)) old s most_items listed_each m))
