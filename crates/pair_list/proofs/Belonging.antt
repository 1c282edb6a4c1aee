-- The pairs of the definitions that are counted in an external declaration are those that its walks have.
use Rattle.std.proofs.Common.{ℕ, zero, suc, ◌+◌, ◌-◌, ◌<◌, ◌≤◌, ◌≡◌, ◌↔◌, List, [], ◌∷◌, ◌++◌, length, take, drop, map, option_map, Some, refl, ap, sym, subst, ◌∙◌, arith, append_assoc}
use Rattle.std.specs.Prelude.{slice_get, Contains}
use Rattle.std.proofs.lemmas.List.{length-map}
use Rattle.std.proofs.lemmas.Option.{slice_get-map}
use Rattle.std.proofs.lemmas.List.Elements.{Contains-append_right}
use Rattle.c_syntax.specs.Shape.{declarator, ExternalShape, defined, declared, UnitShape}
use Rattle.c_tables.specs.Tables.{TablesShape, StructShape}
use Rattle.c_walk.specs.Items.{Item, block, decision, def, used}
use Rattle.c_walk.specs.Counted.{def_count}
use Rattle.c_walk.specs.Walked.{Walked}
use Rattle.c_walk.specs.Units.{walk_external, walk_externals, no_items, items_of}
use Rattle.flow_walks.specs.declared.action.Action.{Action}
use Rattle.flow_walks.specs.declared.action.Action.TheVariants.{Define, Use}
use Rattle.flow_walks.specs.Comes.{Met}
use Rattle.flow_walks.specs.Walks.{external_goes, externals_go, function_goes, actions, Goes, Walk}
use Rattle.flow_walks.proofs.Appended.{AreOwn, defs_both, more_defs, number_of, external_adds, externals_follow}
use Rattle.flow_walks.proofs.Ranges.{follow_defs, out_of, into}
use Rattle.flow_marks.specs.declared.flow.FlowRow.{FlowRow}
use Rattle.flow_marks.specs.Paths.{Spells}
use Rattle.flow_graph.specs.Graphs.{walks_of, IsDeclared}
use Rattle.c_sites.specs.declared.lists.DefSite as code
use Rattle.c_sites.specs.declared.numbered.Sites.{Sites}
use Rattle.c_sites.specs.Kinds.{DefSite, defs}
use Rattle.c_sites.specs.ListsView.{def_shape}
use Rattle.c_sites.specs.Lists.{Lists}
use Rattle.c_sites.specs.Names.{LeafName}
use Rattle.c_sites.specs.Numbers.{names_of}
use Rattle.c_sites.specs.Refused.{AreNumbered}
use Rattle.pair_list.specs.declared.pairs.Pair.{Pair}
use Rattle.pair_list.specs.Sites.{IsDef}
use Rattle.pair_list.specs.Listed.{IsPair}
use Rattle.pair_list.specs.Items.{IsListed}
use Rattle.pair_list.specs.Runs.{StandTogether, IsPathPair, behind, AreRowsOf}

-- ---- the definitions among items, in the order of their numbers

length_defs : (ns : List LeafName) (rows : List StructShape) (is : List Item) → length (defs ns rows is) ≡ def_count is
length_defs ns rows [] = refl
length_defs ns rows (block p ∷ is) = length_defs ns rows is
length_defs ns rows (decision p o ∷ is) = length_defs ns rows is
length_defs ns rows (def p f d ∷ is) = ap suc (length_defs ns rows is)
length_defs ns rows (used p f d o ∷ is) = length_defs ns rows is

own_at : (ns : List LeafName) (rows : List StructShape) (f : ℕ) (is post : List Item) (k : ℕ) (x : DefSite) → AreOwn f is → k < def_count is → slice_get (defs ns rows (is ++ post)) k ≡ Some x → x.function ≡ f
own_at ns rows f [] post k x own l e = absurd (omega arith)
own_at ns rows f (block p ∷ is) post k x own l e = own_at ns rows f is post k x own l e
own_at ns rows f (decision p o ∷ is) post k x own l e = own_at ns rows f is post k x own l e
own_at ns rows f (used p g d o ∷ is) post k x own l e = own_at ns rows f is post k x own l e
own_at ns rows f (def p g d ∷ is) post zero x own l e = sym (ap (λ (y : DefSite). y.function) (some_same e)) ∙ own.0
  where
    some_same : {y : DefSite} → Some y ≡ Some x → y ≡ x
    some_same h = cc
own_at ns rows f (def p g d ∷ is) post (suc k) x own l e = own_at ns rows f is post k x own.1 (omega arith) e

-- behind others
own_behind : (ns : List LeafName) (rows : List StructShape) (f : ℕ) (pre is post : List Item) (k : ℕ) (x : DefSite) → AreOwn f is → def_count pre ≤ k → k < def_count pre + def_count is → slice_get (defs ns rows (pre ++ (is ++ post))) k ≡ Some x → x.function ≡ f
own_behind ns rows f [] is post k x own l h e = own_at ns rows f is post k x own (omega arith) e
own_behind ns rows f (block p ∷ pre) is post k x own l h e = own_behind ns rows f pre is post k x own l h e
own_behind ns rows f (decision p o ∷ pre) is post k x own l h e = own_behind ns rows f pre is post k x own l h e
own_behind ns rows f (used p g d o ∷ pre) is post k x own l h e = own_behind ns rows f pre is post k x own l h e
own_behind ns rows f (def p g d ∷ pre) is post zero x own l h e = absurd (omega arith)
own_behind ns rows f (def p g d ∷ pre) is post (suc k) x own l h e = own_behind ns rows f pre is post k x own (omega arith) (omega arith) e

-- ---- external declarations in turn

walked_more : (t : TablesShape) (es : List ExternalShape) (e : ExternalShape) (s : Walked) → walk_externals t (es ++ e ∷ []) s ≡ walk_external t e (walk_externals t es s)
walked_more t [] e s = refl
walked_more t (d ∷ es) e s = walked_more t es e (walk_external t d s)

taken_more : (es : List ExternalShape) (k : ℕ) (e : ExternalShape) → slice_get es k ≡ Some e → take (suc k) es ≡ take k es ++ e ∷ []
taken_more [] k e h = cc
taken_more (d ∷ es) zero e h = let same : d ≡ e = cc in ap (λ x. x ∷ []) same
taken_more (d ∷ es) (suc k) e h = ap (λ l. d ∷ l) (taken_more es k e h)

parted : (es : List ExternalShape) (k : ℕ) (e : ExternalShape) → slice_get es k ≡ Some e → es ≡ take k es ++ e ∷ drop (suc k) es
parted [] k e h = cc
parted (d ∷ es) zero e h = let same : d ≡ e = cc in ap (λ x. x ∷ es) same
parted (d ∷ es) (suc k) e h = ap (λ l. d ∷ l) (parted es k e h)

walked_parts : (t : TablesShape) (es fs : List ExternalShape) (s : Walked) → walk_externals t (es ++ fs) s ≡ walk_externals t fs (walk_externals t es s)
walked_parts t [] fs s = refl
walked_parts t (e ∷ es) fs s = walked_parts t es fs (walk_external t e s)

-- one more of them
pub behind_more : (t : TablesShape) (u : UnitShape) (k m : ℕ) (e : ExternalShape) → m ≡ suc k → slice_get u.externals k ≡ Some e → behind t u m ≡ walk_external t e (behind t u k)
behind_more t u k m e n h = ap (behind t u) n ∙ ap (λ l. walk_externals t l no_items) (taken_more u.externals k e h) ∙ walked_more t (take k u.externals) e no_items

-- ---- walks and paths

-- a pair by one set of walks is one by another, if each walk of the first with the definition is one of the second
pair_moved : (P Q : List Action → Type 0) (s : Sites) (f d u : ℕ) → ((v : List Action) → Contains v (Define d) → P v → Q v) → IsPair P s f d u → IsPair Q s f d u
pair_moved P Q s f d u h p =
    let rest = Define d ∷ (p.between ++ Use u ∷ p.after) in
    record {
      variable = p.variable;
      name = p.name;
      sites = p.sites;
      before = p.before;
      between = p.between;
      after = p.after;
      is_walk = h (p.before ++ rest) (Contains-append_right p.before rest (Define d) (0, omega arith, refl)) p.is_walk;
      stands = p.stands;
    }

goes_walks : (t : TablesShape) (f : ℕ) (e : ExternalShape) (s : Walked) (w : List Met) → external_goes t f e s w → walks_of t e s w
goes_walks t f (declared d) s w p = p
goes_walks t f (defined specs (declarator stars x d i) marks c) s w p = subst (λ g. function_goes t g d c s w) (sym p.0) p.1

walks_goes : (t : TablesShape) (e : ExternalShape) (s : Walked) (w : List Met) → walks_of t e s w → external_goes t (number_of t e) e s w
walks_goes t (declared d) s w p = p
walks_goes t (defined specs (declarator stars x d i) marks c) s w p = (refl, p)

no_walks : (t : TablesShape) (e : ExternalShape) (s : Walked) (w : List Met) → IsDeclared e → walks_of t e s w → ⊥
no_walks t (declared d) s w h p = p
no_walks t (defined specs (declarator stars x d i) marks c) s w h p = h

-- the definitions of a program are those that are counted in it
pub all_counted : (t : TablesShape) (u : UnitShape) (s : Sites) → AreNumbered t.structures (items_of t u) s → def_count (items_of t u) ≡ length s.lists.defs.items
all_counted t u s numbered =
    let ns = names_of t.structures (items_of t u) in
    let all_defs : map def_shape s.lists.defs.items ≡ defs ns t.structures (items_of t u) = ap (λ (l : Lists). l.defs) numbered.lists in
    sym (length_defs ns t.structures (items_of t u)) ∙ sym (ap length all_defs) ∙ length-map s.lists.defs.items def_shape

module _ (t : TablesShape) (u : UnitShape) (s : Sites) (numbered : AreNumbered t.structures (items_of t u) s) (k : ℕ) (e : ExternalShape) (here : slice_get u.externals k ≡ Some e) where
  abbrev pub low : ℕ
  low = def_count (behind t u k).items

  abbrev pub high : ℕ
  high = def_count (walk_external t e (behind t u k)).items

  all_walked : walk_externals t u.externals no_items ≡ walk_externals t (drop (suc k) u.externals) (walk_external t e (behind t u k))
  all_walked = ap (λ l. walk_externals t l no_items) (parted u.externals k e here) ∙ walked_parts t (take k u.externals) (e ∷ drop (suc k) u.externals) no_items

  pub low_high : low ≤ high
  low_high = more_defs (external_adds t e (behind t u k))

  pub high_within : high ≤ length s.lists.defs.items
  high_within =
      let m = follow_defs (externals_follow t (drop (suc k) u.externals) (walk_external t e (behind t u k))) in
      let n : def_count (items_of t u) ≡ def_count (walk_externals t (drop (suc k) u.externals) (walk_external t e (behind t u k))).items = ap (λ (w : Walked). def_count w.items) all_walked in
      let o = all_counted t u s numbered in
      omega arith

  -- a definition that is counted there stands in its function
  stands_there : (d : ℕ) (x : code.DefSite) → IsDef s d x → low < d → d ≤ high → x.function ≡ number_of t e
  stands_there d x is l h =
      let a = external_adds t e (behind t u k) in
      let b = externals_follow t (drop (suc k) u.externals) (walk_external t e (behind t u k)) in
      let is_all : items_of t u ≡ (behind t u k).items ++ (a.more ++ b.more) = ap (λ (w : Walked). w.items) all_walked ∙ b.items ∙ ap (λ l. l ++ b.more) a.items ∙ append_assoc (behind t u k).items a.more b.more in
      let ns = names_of t.structures (items_of t u) in
      let all_defs : map def_shape s.lists.defs.items ≡ defs ns t.structures (items_of t u) = ap (λ (l : Lists). l.defs) numbered.lists in
      let at : slice_get (defs ns t.structures ((behind t u k).items ++ (a.more ++ b.more))) (d - 1) ≡ Some (def_shape x) =
      sym (ap (λ l. slice_get (defs ns t.structures l) (d - 1)) is_all) ∙ sym (ap (λ l. slice_get l (d - 1)) all_defs) ∙ slice_get-map def_shape s.lists.defs.items (d - 1) ∙ ap (option_map def_shape) is.1 in
      let more : high ≡ low + def_count a.more = ap def_count a.items ∙ defs_both (behind t u k).items a.more in
      own_behind ns t.structures (number_of t e) (behind t u k).items a.more b.more (d - 1) (def_shape x) a.own (omega arith) (omega arith) at

  pub together : (first count : ℕ) → low < first → first + count ≤ high + 1 → StandTogether s first count
  together first count l h d c x y ld hd is_x lc hc is_y = stands_there d x is_x (omega arith) (omega arith) ∙ sym (stands_there c y is_y (omega arith) (omega arith))

  -- a walk of the program with such a definition is one of the external declaration, and that is one of the program
  out_there : (f : ℕ) (w : List Met) (d : ℕ) → Contains (actions w) (Define d) → low < d → d ≤ high → Goes t u f w → walks_of t e (behind t u k) w
  out_there f w d c l h p = goes_walks t f e (behind t u k) w (out_of t f (take k u.externals) e (drop (suc k) u.externals) no_items w d c l h (subst (λ es. externals_go t f es no_items w) (parted u.externals k e here) p))

  in_there : (w : List Met) → walks_of t e (behind t u k) w → Goes t u (number_of t e) w
  in_there w p = subst (λ es. externals_go t (number_of t e) es no_items w) (sym (parted u.externals k e here)) (into t (number_of t e) (take k u.externals) e (drop (suc k) u.externals) no_items w (walks_goes t e (behind t u k) w p))

  pub none_listed : IsDeclared e → (p : Pair) → low < p.def → p.def ≤ high → IsListed t u s p → ⊥
  none_listed is p l h q =
      let m = pair_moved (Walk t u q.0) (λ v. ⊥) s q.0 p.def p.used (λ v c w. no_walks t e (behind t u k) w.0 is (out_there q.0 w.0 p.def (subst (λ a. Contains a (Define p.def)) (sym w.2) c) l h w.1)) q.1 in
      m.is_walk

  pub path_listed : (g : List FlowRow) → AreRowsOf t e (behind t u k) g → (p : Pair) → low < p.def → p.def ≤ high → IsPathPair g s p ↔ IsListed t u s p
  path_listed g rows p l h = (there, back)
    where
      there : IsPathPair g s p → IsListed t u s p
      there q =
          let own : q.0 ≡ number_of t e = sym q.1.sites.def_function ∙ stands_there p.def q.1.sites.def q.1.sites.is_def l h in
          (q.0, pair_moved (Spells g 0) (Walk t u q.0) s q.0 p.def p.used (λ v c a. let w = (rows v).0 a in (w.0, subst (λ n. Goes t u n w.0) (sym own) (in_there w.0 w.1), w.2)) q.1)

      back : IsListed t u s p → IsPathPair g s p
      back q = (q.0, pair_moved (Walk t u q.0) (Spells g 0) s q.0 p.def p.used (λ v c w. (rows v).1 (w.0, out_there q.0 w.0 p.def (subst (λ a. Contains a (Define p.def)) (sym w.2) c) l h w.1, w.2)) q.1)
