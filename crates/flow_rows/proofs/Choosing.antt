-- A switch from its expression and its statements.
use Rattle.std.proofs.Common.{ℕ, suc, length, Option, false, ◌≡◌, subst}
use Rattle.c_base.specs.declared.place.IntKind.{IntKind}
use Rattle.c_base.specs.declared.place.Pos.{Pos}
use Rattle.c_syntax.specs.Shape.{NodeShape, ItemShapes, switch}
use Rattle.c_tables.specs.Tables.{TablesShape}
use Rattle.c_walk.specs.declared.around.Around.{Around}
use Rattle.c_walk.specs.declared.around.Taken.TheVariants.{Read}
use Rattle.c_walk.specs.Items.{Outcomes, cases}
use Rattle.c_walk.specs.Tests.{choosing, case_values}
use Rattle.c_walk.specs.Walked.{Walked, pos_of, next_decision, inside, with_decision}
use Rattle.c_walk.specs.Walking.{walk_node}
use Rattle.c_walk.specs.Stating.{walk_choice, walk_items, walk_body}
use Rattle.flow_walks.specs.declared.action.Action.TheVariants.{Test}
use Rattle.flow_walks.specs.Comes.{Comes, act, emit, value}
use Rattle.flow_walks.specs.Expressions.{node_goes}
use Rattle.flow_walks.specs.Statements.{at_cases, at_default, body_goes}
use Rattle.flow_walks.proofs.More.{value_in}
use Rattle.flow_rows.specs.Paths.{Graph}
use Rattle.flow_rows.specs.Counts.{counts, Counted}
use Rattle.flow_rows.specs.Laying.{Grown, Lays, Placed, exits, switch_targets}
use Rattle.flow_rows.specs.Listed.{choice_goes}
use Rattle.flow_rows.specs.declared.numbers.Numbers.{Numbers}
use Rattle.flow_rows.specs.declared.targets.Targets.{Targets}
use Rattle.flow_rows.proofs.Laws.{grown_then, keeps_then, leads, lays_then}

module _ (t : TablesShape) (e : NodeShape) (items : ItemShapes) where
  abbrev values : Outcomes
  values = cases (case_values (choosing e) items)

  pub choice_placed : (g h : Graph) (n l m : Numbers) (at y : ℕ) → ((p : Pos) (o : Outcomes) → Counted n l (λ c w. with_decision p o w)) → Placed g h l m at (λ c w k. node_goes t c Read e w (value (k y))) (λ c w. walk_node c Read e w)
      → Placed g h n m at (λ c w k. choice_goes t c e items w (k y)) (λ c w. walk_choice c e items w)
  choice_placed g h n l m at y count first = record {
    grown = first.grown;
    laid = λ c w u. first.laid (inside c w) (with_decision (pos_of e) values w) (count (pos_of e) values c w u);
    counted = λ c w u. first.counted (inside c w) (with_decision (pos_of e) values w) (count (pos_of e) values c w u);
  }

  -- the list from where the value is known
  abbrev ListGoes : ℕ → Targets → Around → Walked → (ℕ → Comes) → Comes
  ListGoes d x c w k = at_cases t c d 1 false items w (exits k x) (emit (act (Test d (suc (length (case_values (choosing e) items))))) (at_default t c false items w (exits k x)))

  switch_laid : (x : Targets) (g h i j : Graph) (n m o : Numbers) (d at y : ℕ) → Grown g h → ((w : Walked) → counts w ≡ n → d ≡ next_decision w)
      → Placed h i n m at (λ c w k. choice_goes t c e items w (k y)) (λ c w. walk_choice c e items w) → Placed i j m o y (ListGoes d (switch_targets x)) (λ c w. walk_items t c false items w)
      → Placed g j n o at (λ c w k. body_goes t c (switch e items) w (exits k x)) (λ c w. walk_body t c (switch e items) w)
  switch_laid x g h i j n m o d at y gh number first list = record {
    grown = grown_then g i j (grown_then g h i gh first.grown) list.grown;
    laid = λ c w u q k.
        let z = walk_choice c e items w in
        let rest = subst (λ d. Lays q y (ListGoes d (switch_targets x) c z)) (number w u) (list.laid c z (first.counted c w u) q k) in
        lays_then q at y (λ k r. choice_goes t c e items w r) (ListGoes (next_decision w) (switch_targets x) c z) (λ k r s p. value_in t (inside c w) Read e (with_decision (pos_of e) values w) r s p)
        (first.laid c w u q (keeps_then i j q list.grown.keeps k)) (leads q y (ListGoes (next_decision w) (switch_targets x) c z) rest);
    counted = λ c w u. list.counted c (walk_choice c e items w) (first.counted c w u);
  }

  pub switch_placed : (x z : Targets) (g h i j : Graph) (n m o : Numbers) (d at y : ℕ) → z ≡ switch_targets x → Grown g h → ((w : Walked) → counts w ≡ n → d ≡ next_decision w)
      → ((items : ItemShapes) → Placed h i n m at (λ c w k. choice_goes t c e items w (k y)) (λ c w. walk_choice c e items w))
      → ((kind : Option IntKind) → Placed i j m o y (λ c w k. at_cases t c d 1 false items w (exits k z) (emit (act (Test d (suc (length (case_values kind items))))) (at_default t c false items w (exits k z)))) (λ c w. walk_items t c false items w))
      → Placed g j n o at (λ c w k. body_goes t c (switch e items) w (exits k x)) (λ c w. walk_body t c (switch e items) w)
  switch_placed x z g h i j n m o d at y is gh number first list =
      switch_laid x g h i j n m o d at y gh number (first items) (subst (λ z. Placed i j m o y (ListGoes d z) (λ c w. walk_items t c false items w)) is (list (choosing e)))
