-- Where the grammar allows a unit without its notes, notes stand in it only where typing writes some.
use Rattle.std.proofs.Common.{◌≡◌, ℕ, List, [], ◌∷◌, map, Bool, false, refl, ap, ap₂, ◌∙◌}
use Rattle.c_syntax.specs.Shape.{NodeShape, node, ExprShape, leaf, paren, call, prefix, size_of_type, cast, suffix, two, choose, probe, SuffixShape, index, field, behind, ProbeShape, simple, select, NodeShapes, no_nodes, more_nodes, MaybeNode, no_node, one_node, LengthShapes, no_lengths, more_lengths, TypeShape, type_name, SpecShapes, no_specs, more_specs, SpecShape, word, struct, enum, MaybeDecls, no_members, members, MaybeEnumers, no_rows, rows, EnumerShapes, no_enumers, more_enumers, DeclShape, decl, DeclShapes, no_decls, more_decls, DeclaratorShape, declarator, DeclaratorShapes, no_declarators, more_declarators, arrays, function, ParamsShape, empty, void, params, MaybeInit, no_init, one_init, InitShape, one, listed, InitShapes, no_inits, more_inits, LabelShape, case, default, StmtShape, stmt, FormShape, compound, simply, when, either, while, do_while, for, switch, break, continue, return, CompoundShape, braces, ItemShapes, no_items, more_items, ExternalShape, defined, declared, UnitShape}
use Rattle.c_syntax.specs.Shaped.{Standing, in_members, in_names, in_params, level, may_begin, may_be_open, Shaped, ShapedExpr, ShapedSuffix, ShapedProbe, ShapedNodes, ShapedMaybe, ShapedLengths, ShapedType, SomeSpecs, AllSpecs, ShapedSpec, ShapedMembers, ShapedRows, ShapedEnumers, ShapedDecls, ShapedDecl, ShapedDeclarators, ShapedDeclarator, ShapedInitOf, ShapedParams, ShapedParamList, ShapedParam, ShapedInit, ShapedInits, ShapedLabels, ShapedStmt, ShapedForm, ShapedCompound, ShapedItems, ShapedExternal, ShapedExternals, ShapedUnit}
use Rattle.c_tree.specs.Unnoted.{bare_node, bare_form, bare_suffix, bare_probe, bare_nodes, bare_maybe, bare_lengths, bare_type, bare_specs, bare_spec, bare_members, bare_rows, bare_enumers, bare_decl, bare_decls, bare_name, bare_names, bare_params, bare_maybe_init, bare_init, bare_inits, bare_label, bare_stmt, bare_body, bare_compound, bare_items, bare_external, bare_unit}
use Rattle.c_unnoted.specs.Written.{written_node, written_form, written_suffix, written_probe, written_nodes, written_maybe, written_lengths, written_type, written_specs, written_spec, written_members, written_lines, written_fields, written_rows, written_enumers, written_init, written_inits, written_maybe_init, written_param, written_param_list, written_params, written_name, written_names, written_decl, written_decls, written_label, written_stmt, written_body, written_compound, written_items, written_external, written_unit}

three : {A B C D : Type 0} (k : A → B → C → D) {a b : A} {c d : B} {e f : C} → a ≡ b → c ≡ d → e ≡ f → k a c e ≡ k b d f
three k {a} {b} {c} {d} {e} {f} p q r = ap (λ x. k x c e) p ∙ ap₂ (k b) q r

mutual
  node_written : (a : NodeShape) → Shaped (bare_node a) → written_node a ≡ a
  node_written (node p o n f) h = ap (node p o n) (form_written f h.1)

  form_written : (f : ExprShape) → ShapedExpr (bare_form f) → written_form f ≡ f
  form_written (leaf l) h = refl
  form_written (paren a) h = ap paren (node_written a h)
  form_written (call x args) h = ap (call x) (nodes_written 1 args h)
  form_written (prefix u a) h = ap (prefix u) (node_written a h.1)
  form_written (size_of_type t) h = ap size_of_type (type_written t h)
  form_written (cast t a) h = ap₂ cast (type_written t h.0) (node_written a h.2)
  form_written (suffix a s) h = ap₂ suffix (node_written a h.1) (suffix_written s h.2)
  form_written (two u a b) h = ap₂ (two u) (node_written a h.2) (node_written b h.4)
  form_written (choose a b c) h = three choose (node_written a h.1) (node_written b h.2) (node_written c h.4)
  form_written (probe u a) h = ap₂ probe (probe_written u (level (bare_node a)) h.0) (node_written a h.1)

  suffix_written : (s : SuffixShape) → ShapedSuffix (bare_suffix s) → written_suffix s ≡ s
  suffix_written (index b) h = ap index (node_written b h)
  suffix_written (field a x p) h = refl
  suffix_written (behind u) h = refl

  probe_written : (u : ProbeShape) (l : ℕ) → ShapedProbe (bare_probe u) l → written_probe u ≡ u
  probe_written (simple u x) l h = refl
  probe_written (select x cases) l h = ap (select x) (nodes_written 2 cases h)

  nodes_written : (l : ℕ) (xs : NodeShapes) → ShapedNodes l (bare_nodes xs) → written_nodes xs ≡ xs
  nodes_written l no_nodes h = refl
  nodes_written l (more_nodes a rest) h = ap₂ more_nodes (node_written a h.1) (nodes_written l rest h.2)

  maybe_written : (l : ℕ) (x : MaybeNode) → ShapedMaybe l (bare_maybe x) → written_maybe x ≡ x
  maybe_written l no_node h = refl
  maybe_written l (one_node a) h = ap one_node (node_written a h.1)

  lengths_written : (free : Bool) (ls : LengthShapes) → ShapedLengths free (bare_lengths ls) → written_lengths ls ≡ ls
  lengths_written free no_lengths h = refl
  lengths_written free (more_lengths no_node rest) h = ap (more_lengths no_node) (lengths_written free rest h.1)
  lengths_written free (more_lengths (one_node a) rest) h = ap₂ (λ x y. more_lengths (one_node x) y) (node_written a h.1) (lengths_written free rest h.2)

  type_written : (t : TypeShape) → ShapedType (bare_type t) → written_type t ≡ t
  type_written (type_name p specs stars ls) h = ap₂ (λ x y. type_name p x stars y) (some_written specs h.0) (lengths_written false ls h.1)

  some_written : (specs : SpecShapes) → SomeSpecs (bare_specs specs) → written_specs specs ≡ specs
  some_written no_specs h = absurd h
  some_written (more_specs p s rest) h = ap₂ (more_specs p) (spec_written s h.0) (specs_written rest h.1)

  specs_written : (specs : SpecShapes) → AllSpecs (bare_specs specs) → written_specs specs ≡ specs
  specs_written no_specs h = refl
  specs_written (more_specs p s rest) h = ap₂ (more_specs p) (spec_written s h.0) (specs_written rest h.1)

  spec_written : (s : SpecShape) → ShapedSpec (bare_spec s) → written_spec s ≡ s
  spec_written (word x) h = refl
  spec_written (struct t ds) h = ap (struct t) (members_written ds h.2)
  spec_written (enum t es) h = ap (enum t) (rows_written es h.2)

  members_written : (m : MaybeDecls) → ShapedMembers (bare_members m) → written_members m ≡ m
  members_written no_members h = refl
  members_written (members no_decls) h = absurd h
  members_written (members (more_decls d rest)) h = ap members (lines_written (more_decls d rest) (h.0, h.1))

  rows_written : (m : MaybeEnumers) → ShapedRows (bare_rows m) → written_rows m ≡ m
  rows_written no_rows h = refl
  rows_written (rows no_enumers) h = absurd h
  rows_written (rows (more_enumers n v rest)) h = ap₂ (λ x y. rows (more_enumers n x y)) (maybe_written 2 v h.1) (enumers_written rest h.2)

  enumers_written : (es : EnumerShapes) → ShapedEnumers (bare_enumers es) → written_enumers es ≡ es
  enumers_written no_enumers h = refl
  enumers_written (more_enumers n v rest) h = ap₂ (more_enumers n) (maybe_written 2 v h.1) (enumers_written rest h.2)

  lines_written : (ds : DeclShapes) → ShapedDecls in_members (bare_decls ds) → written_lines ds ≡ ds
  lines_written no_decls h = refl
  lines_written (more_decls (decl p specs no_declarators) rest) h = ap₂ (λ x y. more_decls (decl p x no_declarators) y) (some_written specs h.0.1) (lines_written rest h.1)
  lines_written (more_decls (decl p specs (more_declarators d more)) rest) h =
      three (λ x y z. more_decls (decl p x y) z) (some_written specs h.0.0) (fields_written (more_declarators d more) (h.0.1, h.0.2)) (lines_written rest h.1)

  fields_written : (ds : DeclaratorShapes) → ShapedDeclarators in_members (bare_names ds) → written_fields ds ≡ ds
  fields_written no_declarators h = refl
  fields_written (more_declarators (declarator stars x (arrays ls) no_init) rest) h = ap₂ (λ y z. more_declarators (declarator stars x (arrays y) no_init) z) (lengths_written (may_be_open in_members) ls h.0.1) (fields_written rest h.1)
  fields_written (more_declarators (declarator stars x (arrays ls) (one_init i)) rest) h = let e = h.0.2.0 in absurd (cc)
  fields_written (more_declarators (declarator stars x (function ps) i) rest) h = let e = h.0.1.0 in absurd (cc)

  decls_written : (s : Standing) (ds : DeclShapes) → ShapedDecls s (bare_decls ds) → written_decls ds ≡ ds
  decls_written s no_decls h = refl
  decls_written s (more_decls d rest) h = ap₂ more_decls (decl_written s d h.0) (decls_written s rest h.1)

  decl_written : (s : Standing) (d : DeclShape) → ShapedDecl s (bare_decl d) → written_decl d ≡ d
  decl_written s (decl p specs no_declarators) h = ap (λ x. decl p x no_declarators) (some_written specs h.1)
  decl_written s (decl p specs (more_declarators d rest)) h = three (λ x y z. decl p x (more_declarators y z)) (some_written specs h.0) (declarator_written s d h.1) (declarators_written s rest h.2)

  declarators_written : (s : Standing) (ds : DeclaratorShapes) → ShapedDeclarators s (bare_names ds) → written_names ds ≡ ds
  declarators_written s no_declarators h = refl
  declarators_written s (more_declarators d rest) h = ap₂ more_declarators (declarator_written s d h.0) (declarators_written s rest h.1)

  declarator_written : (s : Standing) (d : DeclaratorShape) → ShapedDeclarator s (bare_name d) → written_name d ≡ d
  declarator_written s (declarator stars n (arrays ls) i) h = ap₂ (λ x y. declarator stars n (arrays x) y) (lengths_written (may_be_open s) ls h.1) (init_of_written (may_begin s (arrays (bare_lengths ls))) i h.2)
  declarator_written s (declarator stars n (function ps) no_init) h = ap (λ x. declarator stars n (function x) no_init) (params_written ps h.1.1)
  declarator_written s (declarator stars n (function ps) (one_init i)) h = let e = h.2.0 in absurd (cc)

  init_of_written : (may : Bool) (i : MaybeInit) → ShapedInitOf may (bare_maybe_init i) → written_maybe_init i ≡ i
  init_of_written may no_init h = refl
  init_of_written may (one_init i) h = ap one_init (init_written i h.1)

  params_written : (ps : ParamsShape) → ShapedParams (bare_params ps) → written_params ps ≡ ps
  params_written empty h = refl
  params_written void h = refl
  params_written (params no_decls) h = absurd h
  params_written (params (more_decls d rest)) h = ap₂ (λ x y. params (more_decls x y)) (param_written d h.0) (param_list_written rest h.1)

  param_list_written : (ds : DeclShapes) → ShapedParamList (bare_decls ds) → written_param_list ds ≡ ds
  param_list_written no_decls h = refl
  param_list_written (more_decls d rest) h = ap₂ more_decls (param_written d h.0) (param_list_written rest h.1)

  param_written : (d : DeclShape) → ShapedParam (bare_decl d) → written_param d ≡ d
  param_written (decl p specs no_declarators) h = absurd h
  param_written (decl p specs (more_declarators d (more_declarators e rest))) h = absurd h
  param_written (decl p specs (more_declarators (declarator stars x (arrays ls) no_init) no_declarators)) h = ap₂ (λ y z. decl p y (more_declarators (declarator stars x (arrays z) no_init) no_declarators)) (some_written specs h.0) (lengths_written (may_be_open in_params) ls h.1.1)
  param_written (decl p specs (more_declarators (declarator stars x (arrays ls) (one_init i)) no_declarators)) h = let e = h.1.2.0 in absurd (cc)
  param_written (decl p specs (more_declarators (declarator stars x (function ps) i) no_declarators)) h = let e = h.1.1.0 in absurd (cc)

  init_written : (i : InitShape) → ShapedInit (bare_init i) → written_init i ≡ i
  init_written (one a) h = ap one (node_written a h.1)
  init_written (listed p no_inits last) h = absurd h
  init_written (listed p (more_inits i rest) last) h = ap₂ (λ x y. listed p (more_inits x y) last) (init_written i h.0) (inits_written rest h.1)

  inits_written : (is : InitShapes) → ShapedInits (bare_inits is) → written_inits is ≡ is
  inits_written no_inits h = refl
  inits_written (more_inits i rest) h = ap₂ more_inits (init_written i h.0) (inits_written rest h.1)

labels_written : (ls : List LabelShape) → ShapedLabels (map bare_label ls) → map written_label ls ≡ ls
labels_written [] h = refl
labels_written (case p e ∷ rest) h = ap₂ (λ x y. case p x ∷ y) (node_written e h.1) (labels_written rest h.2)
labels_written (default p ∷ rest) h = ap (λ y. default p ∷ y) (labels_written rest h)

mutual
  stmt_written : (a : StmtShape) → ShapedStmt (bare_stmt a) → written_stmt a ≡ a
  stmt_written (stmt p marks q f) h = ap (stmt p marks q) (body_written f h)

  body_written : (f : FormShape) → ShapedForm (bare_body f) → written_body f ≡ f
  body_written (compound c) h = ap compound (compound_written c h)
  body_written (simply e) h = ap simply (maybe_written 0 e h)
  body_written (when e a) h = ap₂ when (node_written e h.0) (stmt_written a h.1)
  body_written (either e a b) h = three either (node_written e h.0) (stmt_written a h.1) (stmt_written b h.3)
  body_written (while e a) h = ap₂ while (node_written e h.0) (stmt_written a h.1)
  body_written (do_while a e) h = ap₂ do_while (stmt_written a h.0) (node_written e h.1)
  body_written (for e f g a) h = three (λ x y z. for x y z (written_stmt a)) (maybe_written 0 e h.0) (maybe_written 0 f h.1) (maybe_written 0 g h.2) ∙ ap (for e f g) (stmt_written a h.3)
  body_written (switch e items) h = ap₂ switch (node_written e h.0) (items_written items h.1)
  body_written break h = refl
  body_written continue h = refl
  body_written (return e) h = ap return (maybe_written 0 e h)

  compound_written : (c : CompoundShape) → ShapedCompound (bare_compound c) → written_compound c ≡ c
  compound_written (braces p ds items) h = ap₂ (braces p) (decls_written in_names ds h.0) (items_written items h.1)

  items_written : (items : ItemShapes) → ShapedItems (bare_items items) → written_items items ≡ items
  items_written no_items h = refl
  items_written (more_items labels a rest) h = three more_items (labels_written labels h.0) (stmt_written a h.1) (items_written rest h.2)

external_written : (e : ExternalShape) → ShapedExternal (bare_external e) → written_external e ≡ e
external_written (defined specs (declarator stars n (function ps) i) marks c) h = three (λ x y z. defined x y marks z) (some_written specs h.0) (declarator_written in_names (declarator stars n (function ps) i) h.2) (compound_written c h.3)
external_written (defined specs (declarator stars n (arrays ls) i) marks c) h = absurd h.1
external_written (declared d) h = ap declared (decl_written in_names d h)

externals_written : (es : List ExternalShape) → ShapedExternals (map bare_external es) → map written_external es ≡ es
externals_written [] h = refl
externals_written (e ∷ rest) h = ap₂ (λ x y. x ∷ y) (external_written e h.0) (externals_written rest h.1)

pub shaped_written : (u : UnitShape) → ShapedUnit (bare_unit u) → written_unit u ≡ u
shaped_written u h = ap (λ es. record u { externals = es }) (externals_written u.externals h.all)
