-- Bodies behind parameters, and the graph of a function.
use Rattle.std.proofs.Common.{ℕ, zero, suc, ◌<◌, ◌≡◌, inl, inr, ◌↔◌, List, [], ◌∷◌, Some, None, refl, sym, subst, ap, arith, length}
use Rattle.std.specs.Prelude.{slice_get}
use Rattle.std.proofs.lemmas.Option.{slice_get_within}
use Rattle.c_base.specs.declared.place.Pos.{Pos}
use Rattle.c_syntax.specs.Shape.{DeclFormShape, CompoundShape, braces}
use Rattle.c_tables.specs.Tables.{TablesShape}
use Rattle.c_walk.specs.declared.around.Around.{Around}
use Rattle.c_walk.specs.Walked.{Walked, with_block}
use Rattle.c_walk.specs.Counted.{next_block}
use Rattle.c_walk.specs.Stating.{walk_compound}
use Rattle.c_walk.specs.Units.{in_function, define_parameters, walk_function}
use Rattle.flow_walks.specs.declared.action.Action.TheVariants.{Block}
use Rattle.flow_walks.specs.Comes.{Met, act, leave, Comes, ends, emit}
use Rattle.flow_walks.specs.Statements.{Exits, compound_goes}
use Rattle.flow_walks.specs.Walks.{parameters_go, body_exits, function_goes}
use Rattle.flow_walks.proofs.More.{In, emit_in, UnderExits, compound_in}
use Rattle.flow_rows.specs.Paths.{Row, Graph, HasRow, row_gives, from, From, Spells}
use Rattle.flow_rows.specs.Counts.{counts, Counted}
use Rattle.flow_rows.specs.Laying.{Keeps, IsWithin, Grown, Lays, LaidAt, Placed, exits}
use Rattle.flow_rows.specs.declared.numbers.Numbers.{Numbers}
use Rattle.flow_rows.specs.declared.targets.Targets.{Targets}
use Rattle.flow_rows.specs.Ends.{Left}
use Rattle.flow_rows.proofs.Paths.{ends_in, spells}
use Rattle.flow_rows.proofs.Laws.{row_lays, grown_then, keeps_then, then_placed, grown_placed}
use Rattle.flow_rows.proofs.Growth.{filled}
use Rattle.flow_rows.proofs.Joins.{block_placed}
use Rattle.flow_graph.specs.Graphs.{flow_graph, IsGraph}
use Rattle.flow_graph.specs.Bodies.{block_goes, walk_block, whole_goes, walk_whole, Framed}
use Rattle.flow_graph.proofs.Defined.{parameters_in}

-- ---- bodies

module _ (t : TablesShape) where
  pub body_placed : (x : Targets) (g h i j : Graph) (n l m : Numbers) (b at z : ℕ) (y : CompoundShape) → Grown g h → Grown h i → LaidAt i at (λ k. emit (act (Block b)) (k z))
      → ((w : Walked) → counts w ≡ n → b ≡ next_block w) → ((p : Pos) → Counted n l (λ c w. with_block p w)) → Placed i j l m z (λ c w k. compound_goes t c y w (exits k x)) (λ c w. walk_compound t c y w)
      → Placed g j n m at (λ c w k. block_goes t c y w (exits k x)) (λ c w. walk_block t c y w)
  body_placed x g h i j n l m b at z (braces p ds items) gh hi row number count part =
      block_placed g h i j n l m b at z p (λ c w k. compound_goes t c (braces p ds items) w (exits k x)) (λ c w. walk_compound t c (braces p ds items) w) gh hi row number count part

  pub whole_placed : (x : Targets) (g h i j : Graph) (n l m : Numbers) (at z : ℕ) (d : DeclFormShape) (y : CompoundShape) → Grown g h
      → Placed h i n l at (λ c w k. parameters_go t c.function d w (k z)) (λ c w. define_parameters t c.function d w) → Placed i j l m z (λ c w k. block_goes t c y w (exits k x)) (λ c w. walk_block t c y w)
      → Placed g j n m at (λ c w k. whole_goes t c d y w (exits k x)) (λ c w. walk_whole t c d y w)
  whole_placed x g h i j n l m at z d y gh first second =
      grown_placed n g h j m at _ _ gh (then_placed n h i j l m at z (λ c w k v. parameters_go t c.function d w v) (λ c w k. block_goes t c y w (exits k x)) (λ c w. define_parameters t c.function d w) (λ c w. walk_block t c y w)
      (λ c w k u v q. parameters_in t c.function d w u v q) first second)

  block_in : (c : Around) (y : CompoundShape) (s : Walked) (e x : Exits) → UnderExits e x → In (block_goes t c y s e) (block_goes t c y s x)
  block_in c (braces p ds items) s e x u = emit_in _ _ _ (compound_in t c (braces p ds items) (with_block p s) e x u)

  whole_in : (c : Around) (d : DeclFormShape) (y : CompoundShape) (s : Walked) (e x : Exits) → UnderExits e x → In (whole_goes t c d y s e) (whole_goes t c d y s x)
  whole_in c d y s e x u = parameters_in t c.function d s _ _ (block_in c y (define_parameters t c.function d s) e x u)

  -- in a function
  function_is : (f : ℕ) (d : DeclFormShape) (y : CompoundShape) (s : Walked) → whole_goes t (in_function f) d y s body_exits ≡ function_goes t f d y s
  function_is f d (braces p ds items) s = refl

  walk_is : (f : ℕ) (d : DeclFormShape) (y : CompoundShape) (s : Walked) → walk_whole t (in_function f) d y s ≡ walk_function t f d y s
  walk_is f d (braces p ds items) s = refl

-- ---- the rows around it

none_left : (g : Graph) (i : ℕ) (row : Row) → g ≡ [] → slice_get g i ≡ Some row → ⊥
none_left [] i row is e = absurd (cc)
none_left (x ∷ g) i row is e = let n = ap length is in absurd (omega arith)

pub framed : (o g h i j l m : Graph) (start stop last : ℕ) → o ≡ [] → Grown o g → Grown g h → Grown h i → HasRow i 0 None (start ∷ []) → Grown i j → Grown j l → LaidAt l stop (λ k. k stop) → Left l m last stop → Framed m start stop last
framed o g h i j l m start stop last is og gh hi first ij jl self left =
    let all : Grown o l = grown_then o j l (grown_then o i j (grown_then o h i (grown_then o g h og gh) hi) ij) jl in
    let keeps : Keeps i m = keeps_then i l m (keeps_then i j l ij.keeps jl.keeps) left.keeps in
    record {
      within = left.within (all.within (λ i t row e c. absurd (none_left o i row is e)));
      begins = keeps 0 _ (filled None start []) first;
      stops = λ q k. self q (keeps_then l m q left.keeps k);
      left = left.row;
      alone = λ i ts e. elim (left.alone i ts e) [ inl p ↦ absurd (none_left o i _ is (all.leaves i ts p)) | inr p ↦ p ];
    }

-- ---- what comes from them

module _ (h : Graph) (stop last : ℕ) (stops : Lays h stop (λ k. k stop)) (left : HasRow h last (Some leave) (stop ∷ [])) where
  stop_down : (n : ℕ) → In (from h n stop) ends
  stop_down zero w p = p
  stop_down (suc n) w p = stop_down n w (stops.down n (suc n) (omega arith) w p)

  stop_up : In ends (From h stop)
  stop_up w p = (0, p)

  last_down : (n : ℕ) → In (from h n last) (emit leave ends)
  last_down zero w p = ends_in (emit leave ends) tt w p
  last_down (suc n) w p = emit_in leave _ _ (stop_down n) w (subst (λ o. row_gives (from h n) o w) left p)

  last_up : In (emit leave ends) (From h last)
  last_up w p = (1, subst (λ o. row_gives (from h 0) o w) (sym left) p)

  abbrev ends_at : Targets
  ends_at = record { next = last; broken = stop; continued = stop; returned = last }

  under_down : (n : ℕ) → UnderExits (exits (from h n) ends_at) body_exits
  under_down n = record { next_in = last_down n; broken_in = stop_down n; continued_in = stop_down n; returned_in = last_down n }

  under_up : UnderExits body_exits (exits (From h) ends_at)
  under_up = record { next_in = last_up; broken_in = stop_up; continued_in = stop_up; returned_in = last_up }

  module _ (t : TablesShape) (f : ℕ) (d : DeclFormShape) (y : CompoundShape) (s : Walked) (start : ℕ) (begins : HasRow h 0 None (start ∷ [])) (whole : Lays h start (λ k. whole_goes t (in_function f) d y s (exits k ends_at))) where
    walks_down : In (From h 0) (function_goes t f d y s)
    walks_down w p =
        let first = (row_lays h 0 start None begins).down p.0 p.0 (omega arith) w p.1 in
        subst (λ (C : Comes). C w) (function_is t f d y s) (whole_in t (in_function f) d y s _ _ (under_down p.0) w (whole.down p.0 p.0 (omega arith) w first))

    walks_up : In (function_goes t f d y s) (From h 0)
    walks_up w p =
        (row_lays h 0 start None begins).up w (whole.up w (whole_in t (in_function f) d y s _ _ under_up w (subst (λ (C : Comes). C w) (sym (function_is t f d y s)) p)))

    pub walks_are : (w : List Met) → Spells h 0 w ↔ function_goes t f d y s w
    walks_are w =
        let e = spells h 0 (start ∷ []) begins w in
        (λ p. walks_down w (e.0 p), λ p. e.1 (walks_up w p))

-- ---- the graph

module _ (t : TablesShape) (d : DeclFormShape) (y : CompoundShape) (g h : Graph) (n m : Numbers) (start stop last : ℕ) (x : Targets)
    (frame : Framed g start stop last) (part : Placed g h n m start (λ c w k. whole_goes t c d y w (exits k x)) (λ c w. walk_whole t c d y w)) where
  pub graph_left : HasRow h last (Some leave) (stop ∷ [])
  graph_left = part.grown.keeps last _ (filled (Some leave) stop []) frame.left

  pub graph_last : last < length h
  graph_last = slice_get_within h last _ graph_left

  graph_begins : HasRow h 0 None (start ∷ [])
  graph_begins = part.grown.keeps 0 _ (filled None start []) frame.begins

  pub graph_within : IsWithin h
  graph_within = part.grown.within frame.within

  pub graph_counted : (f : ℕ) (w : Walked) → counts w ≡ n → counts (walk_function t f d y w) ≡ m
  graph_counted f w e = subst (λ v. counts v ≡ m) (walk_is t f d y w) (part.counted (in_function f) w e)

  pub graph_is : x ≡ record { next = last; broken = stop; continued = stop; returned = last } → (f : ℕ) (w : Walked) → counts w ≡ n → IsGraph (function_goes t f d y w) (flow_graph h last)
  graph_is is f w e = record {
    some = slice_get_within h 0 _ graph_begins;
    within = graph_within;
    walks = walks_are h stop last (frame.stops h part.grown.keeps) graph_left t f d y w start graph_begins
        (subst (λ x. Lays h start (λ k. whole_goes t (in_function f) d y w (exits k x))) is (part.laid (in_function f) w e h (λ i row full p. p)));
    left = (stop ∷ [], graph_left);
    alone = λ i ts p. frame.alone i ts (part.grown.leaves i ts p);
  }
