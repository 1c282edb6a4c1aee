-- Each site of a body stands where the walk counts it.
use Rattle.std.proofs.Common.{ℕ, suc, ◌<◌, ◌≡◌, List, [], ◌∷◌, refl, sym, subst, ap, ◌∙◌, arith, Option, Some, None, Bool, true, false}
use Rattle.std.specs.Prelude.{◌||◌, Contains, option_map, if◌then◌else◌}
use Rattle.std.proofs.lemmas.Bool.{true≢false}
use Rattle.c_syntax.specs.declared.text.Text.{Text}
use Rattle.c_syntax.specs.declared.tree.Named.{Named}
use Rattle.c_syntax.specs.Shape.{TypeOf, int, pointer, array, structure, nothing, str, NodeShape, node, leaf, paren, call, prefix, size_of_type, cast, suffix, two, choose, probe, number, char, name, one_node, DeclShape, decl, DeclShapes, no_decls, more_decls, DeclaratorShape, declarator, DeclaratorShapes, no_declarators, more_declarators, arrays, function, MaybeInit, no_init, one_init, InitShape, one, listed, StmtShape, stmt, FormShape, compound, simply, when, either, while, do_while, for, switch, break, continue, return, CompoundShape, braces, ItemShapes, no_items, more_items}
use Rattle.c_type_rules.specs.Kinds.{is_scalar}
use Rattle.c_tables.specs.Tables.{TablesShape, VariableShape}
use Rattle.c_tables.specs.Rows.{row, first_place, name_pos}
use Rattle.c_walk.specs.declared.around.Around.{Around}
use Rattle.c_walk.specs.declared.around.Taken.TheVariants.{Read}
use Rattle.c_walk.specs.Items.{Direct, cases}
use Rattle.c_walk.specs.Tests.{choosing, case_values}
use Rattle.c_walk.specs.Walked.{Walked, with_block, with_block_if, pos_of, inside, with_decision}
use Rattle.c_walk.specs.Counted.{next_def}
use Rattle.c_walk.specs.Walking.{walk_node, walk_test, walk_maybe, walk_loop_test, walk_maybe_test, walk_step}
use Rattle.c_walk.specs.Stating.{whole_of, whole, with_variable, with_whole_def, walk_maybe_init, walk_declarator, walk_declarators, walk_decl, walk_decls, splits, is_labelled, pos_of_stmt, walk_choice, walk_stmt, walk_body, walk_part, walk_compound, walk_items}
use Rattle.c_meaning.specs.State.{Bound}
use Rattle.c_sites.specs.Names.{site_leaves}
use Rattle.c_meaning.specs.Layout.{cells, kind_in, variable_kind}
use Rattle.c_meaning.specs.Calls.{Source}
use Rattle.flow_calls.specs.Orderly.{IsString, IsOrderly, IsOrderlyInit, IsOrderlyVariable, IsOrderlyDeclarator, AreOrderlyDeclarators, IsOrderlyDecl, AreOrderlyDecls, IsOrderlyStmt, IsOrderlyBody, IsOrderlyPart, IsOrderlyCompound, AreOrderlyItems}
use Rattle.flow_initial.specs.Lengths.{AreFilled}
use Rattle.flow_places.specs.Declared.{AreNamed, DefinesBy, IsInitial, IsSitedVariable, IsSitedDeclarator, AreSitedDeclarators, IsSitedDecl, AreSitedDecls, IsSitedStmt, IsSitedBody, IsSitedPart, IsSitedCompound, AreSitedItems}
use Rattle.flow_leaves.specs.Kinded.{IsKinded}
use Rattle.flow_leaves.specs.KindedPrograms.{IsKindedMaybeInit, IsKindedDeclarator, AreKindedDeclarators, IsKindedDecl, AreKindedDecls, IsKindedStmt, IsKindedBody, IsKindedCompound, AreKindedItems}
use Rattle.flow_leaves.specs.CellNames.{AreLayered}
use Rattle.flow_leaves.specs.Leaves.{name_in, leaf_in}
use Rattle.flow_leaves.proofs.Wholes.{whole_named}
use Rattle.flow_owned.specs.Own as owned
use Rattle.flow_owned.specs.Own.{IsOwnNode, IsOwnMaybeInit, IsOwnDeclarator, AreOwnDeclarators, IsOwnDecl, AreOwnDecls, IsOwnStmt, IsOwnBody, IsOwnCompound, AreOwnItems}
use Rattle.flow_parts.specs.Items.{is_among}
use Rattle.flow_parts.specs.Parts.{leaf_at, site_of, part_of}
use Rattle.flow_parts.proofs.More.{More, on_further, decision_on, variable_on, whole_on, test_node_on, maybe_on, maybe_test_on, loop_test_on, step_on, choice_on, node_on, declarator_on, declarators_on, decl_on, decls_on, block_on, block_if_on, stmt_on, part_on, items_on}
use Rattle.flow_parts.proofs.Sites.{AreOutside, Body, S, outside, R, one_leaf, def_value, sited, test_sited, maybe_sited, loop_sited, step_sited}

string_orderly : (a : NodeShape) → IsString a → IsOrderly a
string_orderly (node p o n (leaf (str x))) h = tt
string_orderly (node p o n (leaf (number x))) h = absurd h
string_orderly (node p o n (leaf (char x))) h = absurd h
string_orderly (node p o n (leaf (name x))) h = absurd h
string_orderly (node p o n (paren a)) h = absurd h
string_orderly (node p o n (call x args)) h = absurd h
string_orderly (node p o n (prefix u a)) h = absurd h
string_orderly (node p o n (size_of_type y)) h = absurd h
string_orderly (node p o n (cast y a)) h = absurd h
string_orderly (node p o n (suffix a u)) h = absurd h
string_orderly (node p o n (two u a b)) h = absurd h
string_orderly (node p o n (choose a b d)) h = absurd h
string_orderly (node p o n (probe u a)) h = absurd h

-- the definition at a name is of that variable, by the name and type of its row
record IsWhole (m : ℕ) (o : Option VariableShape) (d : Direct) : Type 0 where
  variable : d.variable ≡ m
  kind : kind_in o ≡ Some d.kind
  name : d.name ≡ owned.name_in o

whole_row : (m : ℕ) (v : VariableShape) → IsWhole m (Some v) (whole_of m v)
whole_row m v = record { variable = refl; kind = refl; name = refl }

same_direct : (d e : Direct) → Some d ≡ Some e → d ≡ e
same_direct d e h = cc

whole_is : (m : ℕ) (o : Option VariableShape) (d : Direct) → option_map (whole_of m) o ≡ Some d → IsWhole m o d
whole_is m None d e = cc
whole_is m (Some v) d e = subst (IsWhole m (Some v)) (same_direct (whole_of m v) d e) (whole_row m v)

-- a scalar's one cell has its name
pub own_name : (t : TablesShape) (x : Text) (y : TypeOf) → is_scalar y ≡ true → name_in t x (Some y) 0 ≡ x
own_name t x (int k) e = refl
own_name t x (pointer k) e = refl
own_name t x (array k n) e = absurd (true≢false (sym e))
own_name t x (structure n) e = absurd (true≢false (sym e))
own_name t x nothing e = absurd (true≢false (sym e))

pub one_there : (x y : Text) → x ≡ y → Contains (x ∷ []) y
one_there x y e = (0, omega arith, e)

module _ (P : Source) (F : List Bound) where
  -- ---- a variable's definition at its name

  same_kind : (y z : TypeOf) → Some y ≡ Some z → z ≡ y
  same_kind y z e = cc

  row_name : (n : ℕ) (d : Direct) → IsWhole n (row P.tables.variables n) d → d.name ≡ owned.name_in (row P.tables.variables d.variable)
  row_name n d w = w.name ∙ ap (λ (m : ℕ). owned.name_in (row P.tables.variables m)) (sym w.variable)

  row_kind : (n : ℕ) (d : Direct) → IsWhole n (row P.tables.variables n) d → variable_kind P.tables d.variable ≡ Some d.kind
  row_kind n d w = ap (variable_kind P.tables) w.variable ∙ w.kind

  -- the name at the first cell of a scalar variable
  first_name : (n : ℕ) (d : Direct) → IsWhole n (row P.tables.variables n) d → is_scalar d.kind ≡ true → d.name ≡ leaf_at P.tables d.variable 0
  first_name n d w e =
      let x = owned.name_in (row P.tables.variables d.variable) in
      row_name n d w ∙ sym (own_name P.tables x d.kind e) ∙ ap (λ k. name_in P.tables x k 0) (sym (row_kind n d w))

  scalar_names : (n : ℕ) (d : Direct) → IsWhole n (row P.tables.variables n) d → is_scalar d.kind ≡ true → site_leaves P.tables.structures (Some d) ≡ leaf_at P.tables d.variable 0 ∷ []
  scalar_names n d w e = one_leaf P.tables.structures d.name d.kind e ∙ ap (λ x. x ∷ []) (first_name n d w e)

  module _ (layered : AreLayered P.tables) where
    -- each cell of a variable has one of its leaf names
    all_named : (n : ℕ) (d : Direct) → IsWhole n (row P.tables.variables n) d → (y : TypeOf) → d.kind ≡ y → AreNamed (S P F) P.tables y (site_of P.tables false d)
    all_named n d w y e = λ i lt.
        subst (λ (x : Text). Contains (site_leaves P.tables.structures (Some d)) (leaf_in P.tables x d.variable i)) (row_name n d w)
        (whole_named P.tables layered d (row_kind n d w) i (subst (λ (k : TypeOf). i < cells P.tables k) (sym e) lt))

    defines_by : (n : ℕ) (d : Direct) → IsWhole n (row P.tables.variables n) d → (y : TypeOf) → d.kind ≡ y → (i : InitShape) → IsOrderlyInit P.tables F y i → DefinesBy (S P F) P.tables y i (site_of P.tables false d)
    defines_by n d w (int k) e (one a) g = scalar_names n d w (ap is_scalar e)
    defines_by n d w (pointer k) e (one a) g = scalar_names n d w (ap is_scalar e)
    defines_by n d w (array k m) e (one a) g = all_named n d w (array k m) e
    defines_by n d w (structure m) e (one a) g = absurd g
    defines_by n d w nothing e (one a) g = absurd g
    defines_by n d w (int k) e (listed p items last) g = all_named n d w (int k) e
    defines_by n d w (pointer k) e (listed p items last) g = all_named n d w (pointer k) e
    defines_by n d w (array k m) e (listed p items last) g = all_named n d w (array k m) e
    defines_by n d w (structure m) e (listed p items last) g = all_named n d w (structure m) e
    defines_by n d w nothing e (listed p items last) g = all_named n d w nothing e

    initial_if : (y : TypeOf) (i : InitShape) → IsOrderlyInit P.tables F y i → (n : ℕ) (d : Direct) (b : Bool) → IsWhole n (row P.tables.variables n) d → variable_kind P.tables n ≡ Some y → IsInitial (S P F) P.tables n y i (if b then None else Some (site_of P.tables false d))
    initial_if y i g n d true w k = tt
    initial_if y i g n d false w k = (w.variable, refl, defines_by n d w y (same_kind y d.kind (sym k ∙ w.kind)) i g)

    initial_told : (y : TypeOf) (i : InitShape) → IsOrderlyInit P.tables F y i → (n : ℕ) (o : Option Direct) → ((d : Direct) → o ≡ Some d → IsWhole n (row P.tables.variables n) d) → variable_kind P.tables n ≡ Some y → IsInitial (S P F) P.tables n y i (part_of P.tables (outside P F) o)
    initial_told y i g n None h k = tt
    initial_told y i g n (Some d) h k = initial_if y i g n d (is_among d.variable (outside P F)) (h d refl) k

  module _ (layered : AreLayered P.tables) (filled : AreFilled P.tables) (free : AreOutside P F) (start end : Walked) (body : Body P F start end) where
    initial_sited : (c : Around) (x : Option Named) (y : TypeOf) (i : InitShape) → IsOrderlyInit P.tables F y i → (n : ℕ) (w : Walked) → w.variables ≡ n → variable_kind P.tables n ≡ Some y → More start w → More (with_whole_def P.tables c.function x w) end → IsInitial (S P F) P.tables n y i ((S P F).defined (next_def w))
    initial_sited c x y i g n w e k lo m =
        subst (IsInitial (S P F) P.tables n y i) (sym (def_value P F layered filled free start end body c.function (name_pos first_place x) (whole P.tables w.variables) w m lo))
        (initial_told layered y i g n (whole P.tables w.variables) (λ d h. whole_is n (row P.tables.variables n) d (ap (whole P.tables) (sym e) ∙ h)) k)

    -- ---- declarations

    value_sited : (c : Around) (x : Option Named) (y : TypeOf) (a : NodeShape) (n : ℕ) (w : Walked) → IsOrderlyInit P.tables F y (one a) → IsOrderly a → IsKinded P.tables a → IsOwnNode (R P F) a → w.variables ≡ n → variable_kind P.tables n ≡ Some y → More start w → More (walk_maybe_init P.tables c x (one_init (one a)) w) end
        → IsSitedVariable (S P F) F P.tables c x n (Some y) (one_init (one a)) w
    value_sited c x y a n w v g h j e k lo m =
        let u = with_whole_def P.tables c.function x w in
        (initial_sited c x y (one a) v n w e k lo (on_further u (walk_node c Read a u) end (node_on c Read a u) m), sited P F layered filled free start end body c Read a u g h j (on_further start w u lo (whole_on P.tables c.function x w)) m)

    variable_sited : (c : Around) (x : Option Named) (o : Option TypeOf) (init : MaybeInit) (n : ℕ) (w : Walked) → w.variables ≡ n → variable_kind P.tables n ≡ o → IsOrderlyVariable P.tables F o init → IsKindedMaybeInit P.tables init → IsOwnMaybeInit (R P F) init → More start w → More (walk_maybe_init P.tables c x init w) end
        → IsSitedVariable (S P F) F P.tables c x n o init w
    variable_sited c x None init n w e k g h j lo m = tt
    variable_sited c x (Some y) no_init n w e k g h j lo m = tt
    variable_sited c x (Some (array t z)) (one_init (one a)) n w e k g h j lo m = value_sited c x (array t z) a n w g (string_orderly a g.0) h j e k lo m
    variable_sited c x (Some (int t)) (one_init (one a)) n w e k g h j lo m = value_sited c x (int t) a n w g g h j e k lo m
    variable_sited c x (Some (pointer t)) (one_init (one a)) n w e k g h j lo m = value_sited c x (pointer t) a n w g g h j e k lo m
    variable_sited c x (Some (structure z)) (one_init (one a)) n w e k g h j lo m = absurd g
    variable_sited c x (Some nothing) (one_init (one a)) n w e k g h j lo m = absurd g
    variable_sited c x (Some y) (one_init (listed p items last)) n w e k g h j lo m = initial_sited c x y (listed p items last) g n w e k lo m

    declarator_sited : (c : Around) (d : DeclaratorShape) (w : Walked) → IsOrderlyDeclarator P.tables F d w → IsKindedDeclarator P.tables d → IsOwnDeclarator (R P F) d → More start w → More (walk_declarator P.tables c d w) end → IsSitedDeclarator (S P F) F P.tables c d w
    declarator_sited c (declarator stars x (arrays ls) init) w g h j lo m =
        variable_sited c x (variable_kind P.tables (suc w.variables)) init (suc w.variables) (with_variable w) (omega arith) refl g h j (on_further start w (with_variable w) lo (variable_on w)) m
    declarator_sited c (declarator stars x (function ps) init) w g h j lo m = tt

    declarators_sited : (c : Around) (ds : DeclaratorShapes) (w : Walked) → AreOrderlyDeclarators P.tables F c ds w → AreKindedDeclarators P.tables ds → AreOwnDeclarators (R P F) ds → More start w → More (walk_declarators P.tables c ds w) end → AreSitedDeclarators (S P F) F P.tables c ds w
    declarators_sited c no_declarators w g h j lo m = tt
    declarators_sited c (more_declarators d rest) w g h j lo m =
        let v = walk_declarator P.tables c d w in
        (declarator_sited c d w g.0 h.0 j.0 lo (on_further v (walk_declarators P.tables c rest v) end (declarators_on P.tables c rest v) m), declarators_sited c rest v g.1 h.1 j.1 (on_further start w v lo (declarator_on P.tables c d w)) m)

    decl_sited : (c : Around) (d : DeclShape) (w : Walked) → IsOrderlyDecl P.tables F c d w → IsKindedDecl P.tables d → IsOwnDecl (R P F) d → More start w → More (walk_decl P.tables c d w) end → IsSitedDecl (S P F) F P.tables c d w
    decl_sited c (decl p specs names) w g h j lo m = declarators_sited c names w g h j lo m

    decls_sited : (c : Around) (ds : DeclShapes) (w : Walked) → AreOrderlyDecls P.tables F c ds w → AreKindedDecls P.tables ds → AreOwnDecls (R P F) ds → More start w → More (walk_decls P.tables c ds w) end → AreSitedDecls (S P F) F P.tables c ds w
    decls_sited c no_decls w g h j lo m = tt
    decls_sited c (more_decls d rest) w g h j lo m =
        let v = walk_decl P.tables c d w in
        (decl_sited c d w g.0 h.0 j.0 lo (on_further v (walk_decls P.tables c rest v) end (decls_on P.tables c rest v) m), decls_sited c rest v g.1 h.1 j.1 (on_further start w v lo (decl_on P.tables c d w)) m)

    -- ---- statements

    mutual
      stmt_sited : (c : Around) (a : StmtShape) (w : Walked) → IsOrderlyStmt P.tables F c a w → IsKindedStmt P.tables a → IsOwnStmt (R P F) a → More start w → More (walk_stmt P.tables c a w) end → IsSitedStmt (S P F) F P.tables c a w
      stmt_sited c (stmt p ms q f) w g h j lo m = body_sited c f w g h j lo m

      body_sited : (c : Around) (f : FormShape) (w : Walked) → IsOrderlyBody P.tables F c f w → IsKindedBody P.tables f → IsOwnBody (R P F) f → More start w → More (walk_body P.tables c f w) end → IsSitedBody (S P F) F P.tables c f w
      body_sited c (compound a) w g h j lo m = compound_sited c a w g h j lo m
      body_sited c (simply e) w g h j lo m = maybe_sited P F layered filled free start end body c e w g h j lo m
      body_sited c (when e a) w g h j lo m =
          let v = walk_test c e w in
          (test_sited P F layered filled free start end body c e w g.0 h.0 j.0 lo (on_further v (walk_part P.tables c a v) end (part_on P.tables c a v) m), part_sited c a v g.1 h.1 j.1 (on_further start w v lo (test_node_on c e w)) m)
      body_sited c (either e a d) w g h j lo m =
          let u = walk_test c e w in
          let v = walk_part P.tables c a u in
          let back = on_further v (walk_part P.tables c d v) end (part_on P.tables c d v) m in
          let on = on_further start w u lo (test_node_on c e w) in
          (test_sited P F layered filled free start end body c e w g.0 h.0 j.0 lo (on_further u v end (part_on P.tables c a u) back), part_sited c a u g.1 h.1 j.1.0 on back, part_sited c d v g.2 h.2 j.1.1 (on_further start u v on (part_on P.tables c a u)) m)
      body_sited c (while e a) w g h j lo m =
          let v = walk_loop_test c e w in
          (loop_sited P F layered filled free start end body c (one_node e) w g.0 h.0 j.0 lo (on_further v (walk_part P.tables c a v) end (part_on P.tables c a v) m), part_sited c a v g.1 h.1 j.1 (on_further start w v lo (loop_test_on c e w)) m)
      body_sited c (do_while a e) w g h j lo m =
          let v = walk_part P.tables c a w in
          (part_sited c a w g.0 h.0 j.0 lo (on_further v (walk_loop_test c e v) end (loop_test_on c e v) m), loop_sited P F layered filled free start end body c (one_node e) v g.1 h.1 j.1 (on_further start w v lo (part_on P.tables c a w)) m)
      body_sited c (for e f b a) w g h j lo m =
          let s = walk_maybe c e w in
          let u = walk_maybe_test c f s in
          let v = walk_step c b u in
          let three = on_further v (walk_part P.tables c a v) end (part_on P.tables c a v) m in
          let two = on_further u v end (step_on c b u) three in
          let one = on_further s u end (maybe_test_on c f s) two in
          let a1 = on_further start w s lo (maybe_on c e w) in
          let a2 = on_further start s u a1 (maybe_test_on c f s) in (
            maybe_sited P F layered filled free start end body c e w g.0 h.0 j.0 lo one,
            loop_sited P F layered filled free start end body c f s g.1 h.1 j.1.0 a1 two,
            step_sited P F layered filled free start end body c b u g.2 h.2 j.1.1.0 a2 three,
            part_sited c a v g.3 h.3 j.1.1.1 (on_further start u v a2 (step_on c b u)) m,
          )
      body_sited c (switch e items) w g h j lo m =
          let v = walk_choice c e items w in
          let d = with_decision (pos_of e) (cases (case_values (choosing e) items)) w in (
            sited P F layered filled free start end body (inside c w) Read e d g.0 h.0 j.0 (on_further start w d lo (decision_on (pos_of e) (cases (case_values (choosing e) items)) w)) (on_further v (walk_items P.tables c false items v) end (items_on P.tables c false items v) m),
            items_sited c false items v g.1 h.1 j.1 (on_further start w v lo (choice_on c e items w)) m,
          )
      body_sited c break w g h j lo m = tt
      body_sited c continue w g h j lo m = tt
      body_sited c (return e) w g h j lo m = maybe_sited P F layered filled free start end body c e w g h j lo m

      part_sited : (c : Around) (a : StmtShape) (w : Walked) → IsOrderlyPart P.tables F c a w → IsKindedStmt P.tables a → IsOwnStmt (R P F) a → More start w → More (walk_part P.tables c a w) end → IsSitedPart (S P F) F P.tables c a w
      part_sited c (stmt p ms q f) w g h j lo m = body_sited c f (with_block p w) g h j (on_further start w (with_block p w) lo (block_on p w)) m

      pub compound_sited : (c : Around) (a : CompoundShape) (w : Walked) → IsOrderlyCompound P.tables F c a w → IsKindedCompound P.tables a → IsOwnCompound (R P F) a → More start w → More (walk_compound P.tables c a w) end → IsSitedCompound (S P F) F P.tables c a w
      compound_sited c (braces p ds items) w g h j lo m =
          let v = walk_decls P.tables c ds w in
          (decls_sited c ds w g.0 h.0 j.0 lo (on_further v (walk_items P.tables c false items v) end (items_on P.tables c false items v) m), items_sited c false items v g.1 h.1 j.1 (on_further start w v lo (decls_on P.tables c ds w)) m)

      items_sited : (c : Around) (after : Bool) (items : ItemShapes) (w : Walked) → AreOrderlyItems P.tables F c after items w → AreKindedItems P.tables items → AreOwnItems (R P F) items → More start w → More (walk_items P.tables c after items w) end → AreSitedItems (S P F) F P.tables c after items w
      items_sited c after no_items w g h j lo m = tt
      items_sited c after (more_items labels a rest) w g h j lo m =
          let b = after || is_labelled labels in
          let u = with_block_if b (pos_of_stmt a) w in
          let v = walk_stmt P.tables c a u in
          let on = on_further start w u lo (block_if_on b (pos_of_stmt a) w) in (
            stmt_sited c a u g.0 h.0 j.0 on (on_further v (walk_items P.tables c (splits a) rest v) end (items_on P.tables c (splits a) rest v) m),
            items_sited c (splits a) rest v g.1 h.1 j.1 (on_further start u v on (stmt_on P.tables c a u)) m,
          )
