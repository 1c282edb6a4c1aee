-- Which decision a use probe belongs to depends on no place.
use Rattle.std.proofs.Common.{◌≡◌, ℕ, List, [], ◌∷◌, map, Option, None, refl, sym, ap, ◌∙◌}
use Rattle.c_syntax.specs.Shape.{NodeShape, node, ExprShape, leaf, paren, call, prefix, size_of_type, cast, suffix, two, choose, probe, SuffixShape, index, field, behind, simple, select, NodeShapes, no_nodes, more_nodes, MaybeNode, no_node, one_node, LengthShapes, no_lengths, more_lengths, TypeShape, type_name, SpecShapes, no_specs, more_specs, SpecShape, word, struct, enum, MaybeDecls, no_members, members, MaybeEnumers, no_rows, rows, EnumerShapes, no_enumers, more_enumers, DeclShape, decl, DeclShapes, no_decls, more_decls, DeclaratorShape, declarator, DeclaratorShapes, no_declarators, more_declarators, DeclFormShape, arrays, function, ParamsShape, empty, void, params, MaybeInit, no_init, one_init, InitShape, one, listed, InitShapes, no_inits, more_inits, LabelShape, case, default, StmtShape, stmt, FormShape, compound, simply, when, either, while, do_while, for, switch, break, continue, return, CompoundShape, braces, ItemShapes, no_items, more_items, ExternalShape, defined, declared, UnitShape, block, test, used, def}
use Rattle.c_constants.specs.Probes.{probe_number_of}
use Rattle.c_placing.specs.Unplaced.{unplaced_node, unplaced_form, unplaced_suffix, unplaced_nodes, unplaced_maybe, unplaced_lengths, unplaced_type, unplaced_specs, unplaced_spec, unplaced_members, unplaced_rows, unplaced_enumers, unplaced_decls, unplaced_decl, unplaced_names, unplaced_name, unplaced_behind, unplaced_params, unplaced_maybe_init, unplaced_init, unplaced_inits, unplaced_stmt, unplaced_body, unplaced_compound, unplaced_items, unplaced_external, unplaced_label, unplaced, EqualButForPlaces}
use Rattle.c_sites_probes.specs.Owned.{with_owner, own_node, own_form, own_suffix, own_nodes, own_maybe, own_lengths, own_type, own_specs, own_spec, own_members, own_rows, own_enumers, own_decls, own_decl, own_declarators, own_declarator, own_behind, own_params, own_maybe_init, own_init, own_inits, own_stmt, own_body, own_compound, own_items, own_external, own_labels, own_externals, owned_in}

mutual
  node_same : (o : Option ℕ) (a : NodeShape) (s : List (ℕ × ℕ)) → own_node o (unplaced_node a) s ≡ own_node o a s
  node_same o (node p q n f) s = form_same o f s

  form_same : (o : Option ℕ) (a : ExprShape) (s : List (ℕ × ℕ)) → own_form o (unplaced_form a) s ≡ own_form o a s
  form_same o (leaf l) s = refl
  form_same o (paren a) s = node_same o a s
  form_same o (call x args) s = nodes_same o args s
  form_same o (prefix u a) s = node_same o a s
  form_same o (size_of_type t) s = type_same o t s
  form_same o (cast t a) s = ap (own_node o (unplaced_node a)) (type_same o t s) ∙ node_same o a (own_type o t s)
  form_same o (suffix a b) s = ap (own_suffix o (unplaced_suffix b)) (node_same o a s) ∙ suffix_same o b (own_node o a s)
  form_same o (two u a b) s = ap (own_node o (unplaced_node b)) (node_same o a s) ∙ node_same o b (own_node o a s)
  form_same o (choose a b c) s = ap (own_node o (unplaced_node c)) (ap (own_node o (unplaced_node b)) (node_same o a s) ∙ node_same o b (own_node o a s)) ∙ node_same o c (own_node o b (own_node o a s))
  form_same o (probe (simple block x) a) s = node_same o a s
  form_same o (probe (simple test x) a) s = node_same (probe_number_of x) a s
  form_same o (probe (simple used x) a) s = node_same o a (with_owner (probe_number_of x) o s)
  form_same o (probe (simple def x) a) s = node_same o a s
  form_same o (probe (select x cs) a) s =
      let k = probe_number_of x in
      ap (own_node k (unplaced_node a)) (nodes_same k cs s) ∙ node_same k a (own_nodes k cs s)

  suffix_same : (o : Option ℕ) (a : SuffixShape) (s : List (ℕ × ℕ)) → own_suffix o (unplaced_suffix a) s ≡ own_suffix o a s
  suffix_same o (index b) s = node_same o b s
  suffix_same o (field h x p) s = refl
  suffix_same o (behind u) s = refl

  nodes_same : (o : Option ℕ) (a : NodeShapes) (s : List (ℕ × ℕ)) → own_nodes o (unplaced_nodes a) s ≡ own_nodes o a s
  nodes_same o no_nodes s = refl
  nodes_same o (more_nodes a rest) s = ap (own_nodes o (unplaced_nodes rest)) (node_same o a s) ∙ nodes_same o rest (own_node o a s)

  maybe_same : (o : Option ℕ) (a : MaybeNode) (s : List (ℕ × ℕ)) → own_maybe o (unplaced_maybe a) s ≡ own_maybe o a s
  maybe_same o no_node s = refl
  maybe_same o (one_node a) s = node_same o a s

  lengths_same : (o : Option ℕ) (a : LengthShapes) (s : List (ℕ × ℕ)) → own_lengths o (unplaced_lengths a) s ≡ own_lengths o a s
  lengths_same o no_lengths s = refl
  lengths_same o (more_lengths l rest) s = ap (own_lengths o (unplaced_lengths rest)) (maybe_same o l s) ∙ lengths_same o rest (own_maybe o l s)

  type_same : (o : Option ℕ) (a : TypeShape) (s : List (ℕ × ℕ)) → own_type o (unplaced_type a) s ≡ own_type o a s
  type_same o (type_name p specs stars lengths) s = ap (own_lengths o (unplaced_lengths lengths)) (specs_same o specs s) ∙ lengths_same o lengths (own_specs o specs s)

  specs_same : (o : Option ℕ) (a : SpecShapes) (s : List (ℕ × ℕ)) → own_specs o (unplaced_specs a) s ≡ own_specs o a s
  specs_same o no_specs s = refl
  specs_same o (more_specs p x rest) s = ap (own_specs o (unplaced_specs rest)) (spec_same o x s) ∙ specs_same o rest (own_spec o x s)

  spec_same : (o : Option ℕ) (a : SpecShape) (s : List (ℕ × ℕ)) → own_spec o (unplaced_spec a) s ≡ own_spec o a s
  spec_same o (word x) s = refl
  spec_same o (struct tag ds) s = members_same o ds s
  spec_same o (enum tag es) s = rows_same o es s

  members_same : (o : Option ℕ) (a : MaybeDecls) (s : List (ℕ × ℕ)) → own_members o (unplaced_members a) s ≡ own_members o a s
  members_same o no_members s = refl
  members_same o (members ds) s = decls_same o ds s

  rows_same : (o : Option ℕ) (a : MaybeEnumers) (s : List (ℕ × ℕ)) → own_rows o (unplaced_rows a) s ≡ own_rows o a s
  rows_same o no_rows s = refl
  rows_same o (rows es) s = enumers_same o es s

  enumers_same : (o : Option ℕ) (a : EnumerShapes) (s : List (ℕ × ℕ)) → own_enumers o (unplaced_enumers a) s ≡ own_enumers o a s
  enumers_same o no_enumers s = refl
  enumers_same o (more_enumers x v rest) s = ap (own_enumers o (unplaced_enumers rest)) (maybe_same o v s) ∙ enumers_same o rest (own_maybe o v s)

  decls_same : (o : Option ℕ) (a : DeclShapes) (s : List (ℕ × ℕ)) → own_decls o (unplaced_decls a) s ≡ own_decls o a s
  decls_same o no_decls s = refl
  decls_same o (more_decls d rest) s = ap (own_decls o (unplaced_decls rest)) (decl_same o d s) ∙ decls_same o rest (own_decl o d s)

  decl_same : (o : Option ℕ) (a : DeclShape) (s : List (ℕ × ℕ)) → own_decl o (unplaced_decl a) s ≡ own_decl o a s
  decl_same o (decl p specs ds) s = ap (own_declarators o (unplaced_names ds)) (specs_same o specs s) ∙ declarators_same o ds (own_specs o specs s)

  declarators_same : (o : Option ℕ) (a : DeclaratorShapes) (s : List (ℕ × ℕ)) → own_declarators o (unplaced_names a) s ≡ own_declarators o a s
  declarators_same o no_declarators s = refl
  declarators_same o (more_declarators d rest) s = ap (own_declarators o (unplaced_names rest)) (declarator_same o d s) ∙ declarators_same o rest (own_declarator o d s)

  declarator_same : (o : Option ℕ) (a : DeclaratorShape) (s : List (ℕ × ℕ)) → own_declarator o (unplaced_name a) s ≡ own_declarator o a s
  declarator_same o (declarator stars x f i) s = ap (own_maybe_init o (unplaced_maybe_init i)) (behind_same o f s) ∙ maybe_init_same o i (own_behind o f s)

  behind_same : (o : Option ℕ) (a : DeclFormShape) (s : List (ℕ × ℕ)) → own_behind o (unplaced_behind a) s ≡ own_behind o a s
  behind_same o (arrays lengths) s = lengths_same o lengths s
  behind_same o (function list) s = params_same o list s

  params_same : (o : Option ℕ) (a : ParamsShape) (s : List (ℕ × ℕ)) → own_params o (unplaced_params a) s ≡ own_params o a s
  params_same o empty s = refl
  params_same o void s = refl
  params_same o (params list) s = decls_same o list s

  maybe_init_same : (o : Option ℕ) (a : MaybeInit) (s : List (ℕ × ℕ)) → own_maybe_init o (unplaced_maybe_init a) s ≡ own_maybe_init o a s
  maybe_init_same o no_init s = refl
  maybe_init_same o (one_init i) s = init_same o i s

  init_same : (o : Option ℕ) (a : InitShape) (s : List (ℕ × ℕ)) → own_init o (unplaced_init a) s ≡ own_init o a s
  init_same o (one a) s = node_same o a s
  init_same o (listed p list last) s = inits_same o list s

  inits_same : (o : Option ℕ) (a : InitShapes) (s : List (ℕ × ℕ)) → own_inits o (unplaced_inits a) s ≡ own_inits o a s
  inits_same o no_inits s = refl
  inits_same o (more_inits i rest) s = ap (own_inits o (unplaced_inits rest)) (init_same o i s) ∙ inits_same o rest (own_init o i s)

labels_same : (ls : List LabelShape) (s : List (ℕ × ℕ)) → own_labels (map unplaced_label ls) s ≡ own_labels ls s
labels_same [] s = refl
labels_same (case p a ∷ rest) s = ap (own_labels (map unplaced_label rest)) (node_same None a s) ∙ labels_same rest (own_node None a s)
labels_same (default p ∷ rest) s = labels_same rest s

mutual
  stmt_same : (a : StmtShape) (s : List (ℕ × ℕ)) → own_stmt (unplaced_stmt a) s ≡ own_stmt a s
  stmt_same (stmt p marks q f) s = body_same f s

  body_same : (a : FormShape) (s : List (ℕ × ℕ)) → own_body (unplaced_body a) s ≡ own_body a s
  body_same (compound c) s = compound_same c s
  body_same (simply e) s = maybe_same None e s
  body_same (when e a) s = ap (own_stmt (unplaced_stmt a)) (node_same None e s) ∙ stmt_same a (own_node None e s)
  body_same (either e a b) s = ap (own_stmt (unplaced_stmt b)) (ap (own_stmt (unplaced_stmt a)) (node_same None e s) ∙ stmt_same a (own_node None e s)) ∙ stmt_same b (own_stmt a (own_node None e s))
  body_same (while e a) s = ap (own_stmt (unplaced_stmt a)) (node_same None e s) ∙ stmt_same a (own_node None e s)
  body_same (do_while a e) s = ap (own_node None (unplaced_node e)) (stmt_same a s) ∙ node_same None e (own_stmt a s)
  body_same (for e f g a) s = ap (own_stmt (unplaced_stmt a)) (ap (own_maybe None (unplaced_maybe g)) (ap (own_maybe None (unplaced_maybe f)) (maybe_same None e s) ∙ maybe_same None f (own_maybe None e s)) ∙ maybe_same None g (own_maybe None f (own_maybe None e s))) ∙ stmt_same a (own_maybe None g (own_maybe None f (own_maybe None e s)))
  body_same (switch e items) s = ap (own_items (unplaced_items items)) (node_same None e s) ∙ items_same items (own_node None e s)
  body_same break s = refl
  body_same continue s = refl
  body_same (return e) s = maybe_same None e s

  compound_same : (a : CompoundShape) (s : List (ℕ × ℕ)) → own_compound (unplaced_compound a) s ≡ own_compound a s
  compound_same (braces p ds items) s = ap (own_items (unplaced_items items)) (decls_same None ds s) ∙ items_same items (own_decls None ds s)

  items_same : (a : ItemShapes) (s : List (ℕ × ℕ)) → own_items (unplaced_items a) s ≡ own_items a s
  items_same no_items s = refl
  items_same (more_items labels a rest) s = ap (own_items (unplaced_items rest)) (ap (own_stmt (unplaced_stmt a)) (labels_same labels s) ∙ stmt_same a (own_labels labels s)) ∙ items_same rest (own_stmt a (own_labels labels s))

external_same : (a : ExternalShape) (s : List (ℕ × ℕ)) → own_external (unplaced_external a) s ≡ own_external a s
external_same (defined specs d marks c) s = ap (own_compound (unplaced_compound c)) (ap (own_declarator None (unplaced_name d)) (specs_same None specs s) ∙ declarator_same None d (own_specs None specs s)) ∙ compound_same c (own_declarator None d (own_specs None specs s))
external_same (declared d) s = decl_same None d s

externals_same : (es : List ExternalShape) (s : List (ℕ × ℕ)) → own_externals (map unplaced_external es) s ≡ own_externals es s
externals_same [] s = refl
externals_same (e ∷ rest) s = ap (own_externals (map unplaced_external rest)) (external_same e s) ∙ externals_same rest (own_external e s)

unit_same : (u : UnitShape) → owned_in (unplaced u) ≡ owned_in u
unit_same u = externals_same u.externals []

-- units that are equal but for places have the same
pub owned_same : (u v : UnitShape) → EqualButForPlaces u v → owned_in u ≡ owned_in v
owned_same u v e = sym (unit_same u) ∙ (ap owned_in e ∙ unit_same v)
