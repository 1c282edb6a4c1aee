-- A unit that the grammar allows has no notes: without them it is itself.
use Rattle.std.proofs.Common.{◌≡◌, ℕ, List, [], ◌∷◌, map, Bool, false, refl, sym, ap, ap₂, ◌∙◌}
use Rattle.c_syntax.specs.Shape.{NodeShape, node, ExprShape, leaf, paren, call, prefix, size_of_type, cast, suffix, two, choose, probe, SuffixShape, index, field, behind, ProbeShape, simple, select, NodeShapes, no_nodes, more_nodes, MaybeNode, no_node, one_node, LengthShapes, no_lengths, more_lengths, TypeShape, type_name, SpecShapes, no_specs, more_specs, SpecShape, word, struct, enum, MaybeDecls, no_members, members, MaybeEnumers, no_rows, rows, EnumerShapes, no_enumers, more_enumers, DeclShape, decl, DeclShapes, no_decls, more_decls, DeclaratorShape, declarator, DeclaratorShapes, no_declarators, more_declarators, DeclFormShape, arrays, function, ParamsShape, empty, void, params, MaybeInit, no_init, one_init, InitShape, one, listed, InitShapes, no_inits, more_inits, LabelShape, case, default, StmtShape, stmt, FormShape, compound, simply, when, either, while, do_while, for, switch, break, continue, return, CompoundShape, braces, ItemShapes, no_items, more_items, ExternalShape, defined, declared, UnitShape}
use Rattle.c_syntax.specs.Shaped.{Standing, in_members, in_names, in_params, level, may_begin, may_be_open, Shaped, ShapedExpr, ShapedSuffix, ShapedProbe, ShapedNodes, ShapedMaybe, ShapedLengths, ShapedType, SomeSpecs, AllSpecs, ShapedSpec, ShapedMembers, ShapedRows, ShapedEnumers, ShapedDecls, ShapedDecl, ShapedDeclarators, ShapedDeclarator, ShapedBehind, ShapedInitOf, ShapedParams, ShapedParamList, ShapedParam, ShapedInit, ShapedInits, ShapedLabels, ShapedStmt, ShapedForm, ShapedCompound, ShapedItems, ShapedExternal, ShapedExternals, ShapedUnit}
use Rattle.c_tree.specs.Unnoted.{bare_node, bare_form, bare_suffix, bare_probe, bare_nodes, bare_maybe, bare_lengths, bare_type, bare_specs, bare_spec, bare_members, bare_rows, bare_enumers, bare_decl, bare_decls, bare_name, bare_names, bare_behind, bare_params, bare_maybe_init, bare_init, bare_inits, bare_label, bare_stmt, bare_body, bare_compound, bare_items, bare_external, bare_unit}

three : {A B C D : Type 0} (k : A → B → C → D) {a b : A} {c d : B} {e f : C} → a ≡ b → c ≡ d → e ≡ f → k a c e ≡ k b d f
three k {a} {b} {c} {d} {e} {f} p q r = ap (λ x. k x c e) p ∙ ap₂ (k b) q r

mutual
  node_bare : (a : NodeShape) → Shaped a → bare_node a ≡ a
  node_bare (node p o n f) h = ap₂ (node p o) (sym h.0) (form_bare f h.1)

  form_bare : (f : ExprShape) → ShapedExpr f → bare_form f ≡ f
  form_bare (leaf l) h = refl
  form_bare (paren a) h = ap paren (node_bare a h)
  form_bare (call x args) h = ap (call x) (nodes_bare 1 args h)
  form_bare (prefix u a) h = ap (prefix u) (node_bare a h.1)
  form_bare (size_of_type t) h = ap size_of_type (type_bare t h)
  form_bare (cast t a) h = ap₂ cast (type_bare t h.0) (node_bare a h.2)
  form_bare (suffix a s) h = ap₂ suffix (node_bare a h.1) (suffix_bare s h.2)
  form_bare (two u a b) h = ap₂ (two u) (node_bare a h.2) (node_bare b h.4)
  form_bare (choose a b c) h = three choose (node_bare a h.1) (node_bare b h.2) (node_bare c h.4)
  form_bare (probe u a) h = ap₂ probe (probe_bare u (level a) h.0) (node_bare a h.1)

  suffix_bare : (s : SuffixShape) → ShapedSuffix s → bare_suffix s ≡ s
  suffix_bare (index b) h = ap index (node_bare b h)
  suffix_bare (field a x p) h = refl
  suffix_bare (behind u) h = refl

  probe_bare : (u : ProbeShape) (l : ℕ) → ShapedProbe u l → bare_probe u ≡ u
  probe_bare (simple u x) l h = refl
  probe_bare (select x cases) l h = ap (select x) (nodes_bare 2 cases h)

  nodes_bare : (l : ℕ) (xs : NodeShapes) → ShapedNodes l xs → bare_nodes xs ≡ xs
  nodes_bare l no_nodes h = refl
  nodes_bare l (more_nodes a rest) h = ap₂ more_nodes (node_bare a h.1) (nodes_bare l rest h.2)

  maybe_bare : (l : ℕ) (x : MaybeNode) → ShapedMaybe l x → bare_maybe x ≡ x
  maybe_bare l no_node h = refl
  maybe_bare l (one_node a) h = ap one_node (node_bare a h.1)

  lengths_bare : (free : Bool) (ls : LengthShapes) → ShapedLengths free ls → bare_lengths ls ≡ ls
  lengths_bare free no_lengths h = refl
  lengths_bare free (more_lengths no_node rest) h = ap (more_lengths no_node) (lengths_bare free rest h.1)
  lengths_bare free (more_lengths (one_node a) rest) h = ap₂ (λ x y. more_lengths (one_node x) y) (node_bare a h.1) (lengths_bare free rest h.2)

  type_bare : (t : TypeShape) → ShapedType t → bare_type t ≡ t
  type_bare (type_name p specs stars ls) h = ap₂ (λ x y. type_name p x stars y) (some_bare specs h.0) (lengths_bare false ls h.1)

  some_bare : (specs : SpecShapes) → SomeSpecs specs → bare_specs specs ≡ specs
  some_bare no_specs h = absurd h
  some_bare (more_specs p s rest) h = ap₂ (more_specs p) (spec_bare s h.0) (specs_bare rest h.1)

  specs_bare : (specs : SpecShapes) → AllSpecs specs → bare_specs specs ≡ specs
  specs_bare no_specs h = refl
  specs_bare (more_specs p s rest) h = ap₂ (more_specs p) (spec_bare s h.0) (specs_bare rest h.1)

  spec_bare : (s : SpecShape) → ShapedSpec s → bare_spec s ≡ s
  spec_bare (word x) h = refl
  spec_bare (struct t ds) h = ap (struct t) (members_bare ds h.2)
  spec_bare (enum t es) h = ap (enum t) (rows_bare es h.2)

  members_bare : (m : MaybeDecls) → ShapedMembers m → bare_members m ≡ m
  members_bare no_members h = refl
  members_bare (members no_decls) h = absurd h
  members_bare (members (more_decls d rest)) h = ap₂ (λ x y. members (more_decls x y)) (decl_bare in_members d h.0) (decls_bare in_members rest h.1)

  rows_bare : (m : MaybeEnumers) → ShapedRows m → bare_rows m ≡ m
  rows_bare no_rows h = refl
  rows_bare (rows no_enumers) h = absurd h
  rows_bare (rows (more_enumers n v rest)) h = ap₂ (λ x y. rows (more_enumers n x y)) (maybe_bare 2 v h.1) (enumers_bare rest h.2)

  enumers_bare : (es : EnumerShapes) → ShapedEnumers es → bare_enumers es ≡ es
  enumers_bare no_enumers h = refl
  enumers_bare (more_enumers n v rest) h = ap₂ (more_enumers n) (maybe_bare 2 v h.1) (enumers_bare rest h.2)

  decls_bare : (s : Standing) (ds : DeclShapes) → ShapedDecls s ds → bare_decls ds ≡ ds
  decls_bare s no_decls h = refl
  decls_bare s (more_decls d rest) h = ap₂ more_decls (decl_bare s d h.0) (decls_bare s rest h.1)

  decl_bare : (s : Standing) (d : DeclShape) → ShapedDecl s d → bare_decl d ≡ d
  decl_bare s (decl p specs no_declarators) h = ap (λ x. decl p x no_declarators) (some_bare specs h.1)
  decl_bare s (decl p specs (more_declarators d rest)) h = three (λ x y z. decl p x (more_declarators y z)) (some_bare specs h.0) (declarator_bare s d h.1) (declarators_bare s rest h.2)

  declarators_bare : (s : Standing) (ds : DeclaratorShapes) → ShapedDeclarators s ds → bare_names ds ≡ ds
  declarators_bare s no_declarators h = refl
  declarators_bare s (more_declarators d rest) h = ap₂ more_declarators (declarator_bare s d h.0) (declarators_bare s rest h.1)

  declarator_bare : (s : Standing) (d : DeclaratorShape) → ShapedDeclarator s d → bare_name d ≡ d
  declarator_bare s (declarator stars n f i) h = ap₂ (declarator stars n) (behind_bare s f h.1) (init_of_bare (may_begin s f) i h.2)

  behind_bare : (s : Standing) (f : DeclFormShape) → ShapedBehind s f → bare_behind f ≡ f
  behind_bare s (arrays ls) h = ap arrays (lengths_bare (may_be_open s) ls h)
  behind_bare s (function ps) h = ap function (params_bare ps h.1)

  init_of_bare : (may : Bool) (i : MaybeInit) → ShapedInitOf may i → bare_maybe_init i ≡ i
  init_of_bare may no_init h = refl
  init_of_bare may (one_init i) h = ap one_init (init_bare i h.1)

  params_bare : (ps : ParamsShape) → ShapedParams ps → bare_params ps ≡ ps
  params_bare empty h = refl
  params_bare void h = refl
  params_bare (params no_decls) h = absurd h
  params_bare (params (more_decls d rest)) h = ap₂ (λ x y. params (more_decls x y)) (param_bare d h.0) (param_list_bare rest h.1)

  param_list_bare : (ds : DeclShapes) → ShapedParamList ds → bare_decls ds ≡ ds
  param_list_bare no_decls h = refl
  param_list_bare (more_decls d rest) h = ap₂ more_decls (param_bare d h.0) (param_list_bare rest h.1)

  param_bare : (d : DeclShape) → ShapedParam d → bare_decl d ≡ d
  param_bare (decl p specs no_declarators) h = absurd h
  param_bare (decl p specs (more_declarators d (more_declarators e rest))) h = absurd h
  param_bare (decl p specs (more_declarators d no_declarators)) h = ap₂ (λ x y. decl p x (more_declarators y no_declarators)) (some_bare specs h.0) (declarator_bare in_params d h.1)

  init_bare : (i : InitShape) → ShapedInit i → bare_init i ≡ i
  init_bare (one a) h = ap one (node_bare a h.1)
  init_bare (listed p no_inits last) h = absurd h
  init_bare (listed p (more_inits i rest) last) h = ap₂ (λ x y. listed p (more_inits x y) last) (init_bare i h.0) (inits_bare rest h.1)

  inits_bare : (is : InitShapes) → ShapedInits is → bare_inits is ≡ is
  inits_bare no_inits h = refl
  inits_bare (more_inits i rest) h = ap₂ more_inits (init_bare i h.0) (inits_bare rest h.1)

labels_bare : (ls : List LabelShape) → ShapedLabels ls → map bare_label ls ≡ ls
labels_bare [] h = refl
labels_bare (case p e ∷ rest) h = ap₂ (λ x y. case p x ∷ y) (node_bare e h.1) (labels_bare rest h.2)
labels_bare (default p ∷ rest) h = ap (λ y. default p ∷ y) (labels_bare rest h)

mutual
  stmt_bare : (a : StmtShape) → ShapedStmt a → bare_stmt a ≡ a
  stmt_bare (stmt p marks q f) h = ap (stmt p marks q) (body_bare f h)

  body_bare : (f : FormShape) → ShapedForm f → bare_body f ≡ f
  body_bare (compound c) h = ap compound (compound_bare c h)
  body_bare (simply e) h = ap simply (maybe_bare 0 e h)
  body_bare (when e a) h = ap₂ when (node_bare e h.0) (stmt_bare a h.1)
  body_bare (either e a b) h = three either (node_bare e h.0) (stmt_bare a h.1) (stmt_bare b h.3)
  body_bare (while e a) h = ap₂ while (node_bare e h.0) (stmt_bare a h.1)
  body_bare (do_while a e) h = ap₂ do_while (stmt_bare a h.0) (node_bare e h.1)
  body_bare (for e f g a) h = three (λ x y z. for x y z (bare_stmt a)) (maybe_bare 0 e h.0) (maybe_bare 0 f h.1) (maybe_bare 0 g h.2) ∙ ap (for e f g) (stmt_bare a h.3)
  body_bare (switch e items) h = ap₂ switch (node_bare e h.0) (items_bare items h.1)
  body_bare break h = refl
  body_bare continue h = refl
  body_bare (return e) h = ap return (maybe_bare 0 e h)

  compound_bare : (c : CompoundShape) → ShapedCompound c → bare_compound c ≡ c
  compound_bare (braces p ds items) h = ap₂ (braces p) (decls_bare in_names ds h.0) (items_bare items h.1)

  items_bare : (items : ItemShapes) → ShapedItems items → bare_items items ≡ items
  items_bare no_items h = refl
  items_bare (more_items labels a rest) h = three more_items (labels_bare labels h.0) (stmt_bare a h.1) (items_bare rest h.2)

external_bare : (e : ExternalShape) → ShapedExternal e → bare_external e ≡ e
external_bare (defined specs d marks c) h = three (λ x y z. defined x y marks z) (some_bare specs h.0) (declarator_bare in_names d h.2) (compound_bare c h.3)
external_bare (declared d) h = ap declared (decl_bare in_names d h)

externals_bare : (es : List ExternalShape) → ShapedExternals es → map bare_external es ≡ es
externals_bare [] h = refl
externals_bare (e ∷ rest) h = ap₂ (λ x y. x ∷ y) (external_bare e h.0) (externals_bare rest h.1)

pub shaped_bare : (u : UnitShape) → ShapedUnit u → bare_unit u ≡ u
shaped_bare u h = ap (λ es. record u { externals = es }) (externals_bare u.externals h.all)
