-- Typing notes in statements the types of the rows.
use Rattle.std.proofs.Common.{ℕ, Option, Some, None}
use Rattle.c_base.specs.declared.place.Pos.{Pos}
use Rattle.c_syntax.specs.Shape.{TypeOf, NodeShape, MaybeNode, no_node, one_node, StmtShape, stmt, FormShape, compound, simply, when, either, while, do_while, for, switch, break, continue, return, CompoundShape, braces, ItemShapes, no_items, more_items}
use Rattle.c_syntax.specs.Shaped.{ShapedStmt, ShapedForm, ShapedCompound, ShapedItems}
use Rattle.c_tables.specs.Tables.{TablesShape}
use Rattle.c_tree.specs.State.{State, step, steps}
use Rattle.c_tree.specs.Rulings.{rule}
use Rattle.c_tree.specs.Sorts.{pos_in}
use Rattle.c_tree.specs.Typing.{type_node}
use Rattle.c_tree.specs.Declaring.{type_decls, opened_scope}
use Rattle.c_tree.specs.Stating.{Surroundings, in_loop, in_switch, Labels, no_labels, tested, switched, result_rule, type_maybe, type_test, type_result, type_marks, type_labels, type_stmt, type_body, type_compound, type_items}
use Rattle.flow_initial.proofs.Cores.{Core, core, KeptByAll, ◌▸◌}
use Rattle.flow_initial.proofs.KeepsNodes as nodes
use Rattle.flow_initial.proofs.KeepsParts as parts
use Rattle.flow_initial.proofs.KeepsUnits as units
use Rattle.flow_leaves.specs.Kinded.{IsKinded, IsKindedMaybe}
use Rattle.flow_leaves.specs.KindedPrograms.{IsKindedStmt, IsKindedBody, IsKindedCompound, AreKindedItems}
use Rattle.flow_accepted.proofs.Along.{Along, up_to, onward}
use Rattle.flow_accepted.proofs.KindedNodes.{node_kinded}
use Rattle.flow_accepted.proofs.KindedDecls.{decls_kinded}

module _ (t : TablesShape) where
  -- ---- expressions

  test_kinded : (token : ℕ) (a : NodeShape) (s : State) → Along t s (tested token (type_node a s)) → IsKinded t (type_node a s).node
  test_kinded token a s g =
      let y = type_node a s in
      node_kinded t a s (up_to t s y.state (tested token y) (λ J kept. nodes.node_keeps J kept.types a s) (λ J kept. nodes.rule_keeps J kept.types _ token (pos_in y.node) y.state) g)

  maybe_kinded : (e : MaybeNode) (s : State) → Along t s (type_maybe e s).state → IsKindedMaybe t (type_maybe e s).node
  maybe_kinded no_node s g = tt
  maybe_kinded (one_node a) s g = node_kinded t a s g

  maybe_test_kinded : (e : MaybeNode) (s : State) → Along t s (type_test e s).state → IsKindedMaybe t (type_test e s).node
  maybe_test_kinded no_node s g = tt
  maybe_test_kinded (one_node a) s g = test_kinded s.at a s g

  result_kinded : (token : ℕ) (p : Pos) (k : Option TypeOf) (e : MaybeNode) (s : State) → Along t s (type_result token p k e s).state → IsKindedMaybe t (type_result token p k e s).node
  result_kinded token p k no_node s g = tt
  result_kinded token p k (one_node a) s g =
      let y = type_node a s in
      node_kinded t a s (up_to t s y.state (type_result token p k (one_node a) s).state (λ J kept. nodes.node_keeps J kept.types a s) (λ J kept. nodes.rule_keeps J kept.types (result_rule k y.sort) token p y.state) g)

  -- ---- statements

  -- a test, and the statement behind it
  tested_kinded : (e : Surroundings) (x : NodeShape) (a : StmtShape) (s : State) → ShapedStmt a → ((v : State) → Along t v (type_stmt e a v).state → IsKindedStmt t (type_stmt e a v).stmt)
      → (let y = type_node x s in let v = step (tested s.at y) in Along t s (type_stmt e a v).state → IsKinded t y.node × IsKindedStmt t (type_stmt e a v).stmt)
  tested_kinded e x a s is f g =
      let y = type_node x s in
      let v = step (tested s.at y) in
      let end = (type_stmt e a v).state in
      let first : (J : Core → Type 0) → KeptByAll J → J (core s) → J (core v) = λ J kept. parts.test_keeps J kept.types s.at x s in
      (test_kinded s.at x s (up_to t s v end first (λ J kept. units.stmt_keeps J kept e a v is) g), f v (onward t s v end first g))

  mutual
    stmt_kinded : (e : Surroundings) (a : StmtShape) (s : State) → ShapedStmt a → Along t s (type_stmt e a s).state → IsKindedStmt t (type_stmt e a s).stmt
    stmt_kinded e (stmt p ms q f) s is g = body_kinded e q f (type_marks ms s) is (onward t s (type_marks ms s) (type_stmt e (stmt p ms q f) s).state (λ J kept. parts.marks_keep J kept.types ms s) g)

    body_kinded : (e : Surroundings) (p : Pos) (f : FormShape) (s : State) → ShapedForm f → Along t s (type_body e p f s).state → IsKindedBody t (type_body e p f s).form
    body_kinded e p (compound a) s is g =
        let v = opened_scope s in
        let y = (type_compound e a v).state in
        let h = onward t s v y (λ J kept. kept.types.entering s) (g.0, record { fields = g.1.fields; more = g.1.more; added = g.1.added }) in
        compound_kinded e a v is h
    body_kinded e p (simply x) s is g = maybe_kinded x s g
    body_kinded e p (when x a) s is g = tested_kinded e x a (steps 2 s) is.1 (λ v h. stmt_kinded e a v is.1 h) g
    body_kinded e p (either x a d) s is g =
        let u = steps 2 s in
        let y = type_node x u in
        let v = step (tested u.at y) in
        let z = (type_stmt e a v).state in
        let end = (type_stmt e d (step z)).state in
        let first : (J : Core → Type 0) → KeptByAll J → J (core s) → J (core z) = λ J kept. parts.test_keeps J kept.types u.at x u ▸ units.stmt_keeps J kept e a v is.1 in
        let one = tested_kinded e x a u is.1 (λ v h. stmt_kinded e a v is.1 h) (up_to t s z end first (λ J kept. units.stmt_keeps J kept e d (step z) is.3) g) in
        (one.0, one.1, stmt_kinded e d (step z) is.3 (onward t s z end first g))
    body_kinded e p (while x a) s is g = tested_kinded (in_loop e) x a (steps 2 s) is.1 (λ v h. stmt_kinded (in_loop e) a v is.1 h) g
    body_kinded e p (do_while a x) s is g =
        let z = type_stmt (in_loop e) a (step s) in
        let u = steps 2 z.state in
        let end = tested u.at (type_node x u) in
        let first : (J : Core → Type 0) → KeptByAll J → J (core s) → J (core u) = λ J kept. units.stmt_keeps J kept (in_loop e) a (step s) is.0 in
        (stmt_kinded (in_loop e) a (step s) is.0 (up_to t s u end first (λ J kept. parts.test_keeps J kept.types u.at x u) g), test_kinded u.at x u (onward t s u end first g))
    body_kinded e p (for x y z a) s is g =
        let i = (type_maybe x (steps 2 s)).state in
        let j = (type_test y (step i)).state in
        let k = (type_maybe z (step j)).state in
        let end = (type_stmt (in_loop e) a (step k)).state in
        let to_i : (J : Core → Type 0) → KeptByAll J → J (core s) → J (core i) = λ J kept. parts.maybe_keeps J kept.types x (steps 2 s) in
        let to_j : (J : Core → Type 0) → KeptByAll J → J (core i) → J (core j) = λ J kept. parts.maybe_test_keeps J kept.types y (step i) in
        let to_k : (J : Core → Type 0) → KeptByAll J → J (core j) → J (core k) = λ J kept. parts.maybe_keeps J kept.types z (step j) in
        let last : (J : Core → Type 0) → KeptByAll J → J (core k) → J (core end) = λ J kept. units.stmt_keeps J kept (in_loop e) a (step k) is.3 in
        let from_i = onward t s i end to_i g in
        let from_j = onward t i j end to_j from_i in (
          maybe_kinded x (steps 2 s) (up_to t s i end to_i (λ J kept. to_j J kept ▸ to_k J kept ▸ last J kept) g),
          maybe_test_kinded y (step i) (up_to t i j end to_j (λ J kept. to_k J kept ▸ last J kept) from_i),
          maybe_kinded z (step j) (up_to t j k end to_k last from_j),
          stmt_kinded (in_loop e) a (step k) is.3 (onward t j k end to_k from_j),
        )
    body_kinded e p (switch x items) s is g =
        let u = steps 2 s in
        let y = type_node x u in
        let r = switched y in
        let v = steps 2 (rule r u.at (pos_in y.node) y.state) in
        let o = Some (no_labels r) in
        let end = (type_items (in_switch e) o items v).state in
        let first : (J : Core → Type 0) → KeptByAll J → J (core s) → J (core y.state) = λ J kept. nodes.node_keeps J kept.types x u in
        let second : (J : Core → Type 0) → KeptByAll J → J (core y.state) → J (core v) = λ J kept. nodes.rule_keeps J kept.types r u.at (pos_in y.node) y.state in (
          node_kinded t x u (up_to t s y.state end first (λ J kept. second J kept ▸ units.items_keep J kept (in_switch e) o items v is.1) g),
          items_kinded (in_switch e) o items v is.1 (onward t s v end (λ J kept. first J kept ▸ second J kept) g),
        )
    body_kinded e p break s is g = tt
    body_kinded e p continue s is g = tt
    body_kinded e p (return x) s is g = result_kinded s.at p e.result x (step s) g

    pub compound_kinded : (e : Surroundings) (b : CompoundShape) (s : State) → ShapedCompound b → Along t s (type_compound e b s).state → IsKindedCompound t (type_compound e b s).compound
    compound_kinded e (braces p ds items) s is g =
        let d = (type_decls ds (step s)).state in
        let end = (type_items e None items d).state in
        let first : (J : Core → Type 0) → KeptByAll J → J (core s) → J (core d) = λ J kept. units.decls_keep J kept ds (step s) is.0 in
        (decls_kinded t ds (step s) is.0 (up_to t s d end first (λ J kept. units.items_keep J kept e None items d is.1) g), items_kinded e None items d is.1 (onward t s d end first g))

    items_kinded : (e : Surroundings) (o : Option Labels) (items : ItemShapes) (s : State) → ShapedItems items → Along t s (type_items e o items s).state → AreKindedItems t (type_items e o items s).items
    items_kinded e o no_items s is g = tt
    items_kinded e o (more_items labels a rest) s is g =
        let l = type_labels o labels s in
        let y = (type_stmt e a l.state).state in
        let end = (type_items e l.so_far rest y).state in
        let h = onward t s l.state end (λ J kept. parts.labels_keep J kept.types o labels s) g in
        let first : (J : Core → Type 0) → KeptByAll J → J (core l.state) → J (core y) = λ J kept. units.stmt_keeps J kept e a l.state is.1 in
        (stmt_kinded e a l.state is.1 (up_to t l.state y end first (λ J kept. units.items_keep J kept e l.so_far rest y is.2) h), items_kinded e l.so_far rest y is.2 (onward t l.state y end first h))
