-- Whether a tree is plain doesn't depend on its notes.
use Rattle.std.proofs.Common.{◌≡◌, List, [], ◌∷◌, Option, Some, map, refl, sym, ap, ◌∙◌}
use Rattle.c_base.specs.declared.place.Pos.{Pos}
use Rattle.c_syntax.specs.Shape.{NodeShape, node, ExprShape, leaf, paren, call, prefix, size_of_type, cast, suffix, two, choose, probe, SuffixShape, index, field, behind, NodeShapes, no_nodes, more_nodes, MaybeNode, no_node, one_node, LengthShapes, no_lengths, more_lengths, TypeShape, type_name, SpecShapes, no_specs, more_specs, SpecShape, word, struct, enum, MaybeDecls, no_members, members, MaybeEnumers, no_rows, rows, EnumerShapes, no_enumers, more_enumers, DeclShape, decl, DeclShapes, no_decls, more_decls, DeclaratorShape, declarator, DeclaratorShapes, no_declarators, more_declarators, DeclFormShape, arrays, function, ParamsShape, empty, void, params, MaybeInit, no_init, one_init, InitShape, one, listed, InitShapes, no_inits, more_inits, LabelShape, case, default, StmtShape, stmt, FormShape, compound, simply, when, either, while, do_while, for, switch, break, continue, return, CompoundShape, braces, ItemShapes, no_items, more_items, ExternalShape, defined, declared, UnitShape}
use Rattle.c_tree.specs.Unnoted.{bare_node, bare_form, bare_suffix, bare_nodes, bare_maybe, bare_lengths, bare_type, bare_specs, bare_spec, bare_members, bare_rows, bare_enumers, bare_decl, bare_decls, bare_name, bare_names, bare_behind, bare_params, bare_maybe_init, bare_init, bare_inits, bare_label, bare_stmt, bare_body, bare_compound, bare_items, bare_external, bare_unit}
use Rattle.c_tree.specs.Units.{typed_unit, bodies}
use Rattle.c_tree.proofs.Bare.{unit_bare}
use Rattle.c_sites_probes.specs.Marked.{first, mark_in, name_mark, mark_among, node_mark, form_mark, suffix_mark, nodes_mark, maybe_mark, lengths_mark, type_mark, specs_mark, spec_mark, members_mark, rows_mark, enumers_mark, decls_mark, decl_mark, declarators_mark, declarator_mark, behind_mark, params_mark, maybe_init_mark, init_mark, inits_mark, labels_mark, stmt_mark, body_mark, compound_mark, items_mark, external_mark, externals_mark, line_mark, unit_mark}

both : {a b c d : Option Pos} → a ≡ b → c ≡ d → first a c ≡ first b d
both {a} {b} {c} {d} e f = ap (λ x. first x c) e ∙ ap (first b) f

mutual
  node_same : (a : NodeShape) → node_mark (bare_node a) ≡ node_mark a
  node_same (node p o n f) = form_same p f

  form_same : (p : Pos) (f : ExprShape) → form_mark p (bare_form f) ≡ form_mark p f
  form_same p (leaf l) = refl
  form_same p (paren a) = node_same a
  form_same p (call x args) = nodes_same args
  form_same p (prefix u a) = node_same a
  form_same p (size_of_type t) = type_same t
  form_same p (cast t a) = both (type_same t) (node_same a)
  form_same p (suffix a s) = both (node_same a) (suffix_same s)
  form_same p (two u a b) = both (node_same a) (node_same b)
  form_same p (choose a b c) = both (node_same a) (both (node_same b) (node_same c))
  form_same p (probe u a) = refl

  suffix_same : (s : SuffixShape) → suffix_mark (bare_suffix s) ≡ suffix_mark s
  suffix_same (index b) = node_same b
  suffix_same (field h x q) = refl
  suffix_same (behind u) = refl

  nodes_same : (l : NodeShapes) → nodes_mark (bare_nodes l) ≡ nodes_mark l
  nodes_same no_nodes = refl
  nodes_same (more_nodes a rest) = both (node_same a) (nodes_same rest)

  maybe_same : (e : MaybeNode) → maybe_mark (bare_maybe e) ≡ maybe_mark e
  maybe_same no_node = refl
  maybe_same (one_node a) = node_same a

  lengths_same : (l : LengthShapes) → lengths_mark (bare_lengths l) ≡ lengths_mark l
  lengths_same no_lengths = refl
  lengths_same (more_lengths l rest) = both (maybe_same l) (lengths_same rest)

  type_same : (t : TypeShape) → type_mark (bare_type t) ≡ type_mark t
  type_same (type_name p specs stars ls) = both (specs_same specs) (lengths_same ls)

  specs_same : (l : SpecShapes) → specs_mark (bare_specs l) ≡ specs_mark l
  specs_same no_specs = refl
  specs_same (more_specs p s rest) = both (spec_same s) (specs_same rest)

  spec_same : (s : SpecShape) → spec_mark (bare_spec s) ≡ spec_mark s
  spec_same (word k) = refl
  spec_same (struct t ds) = ap (first (name_mark t)) (members_same ds)
  spec_same (enum t es) = ap (first (name_mark t)) (rows_same es)

  members_same : (ds : MaybeDecls) → members_mark (bare_members ds) ≡ members_mark ds
  members_same no_members = refl
  members_same (members ds) = decls_same ds

  rows_same : (es : MaybeEnumers) → rows_mark (bare_rows es) ≡ rows_mark es
  rows_same no_rows = refl
  rows_same (rows es) = enumers_same es

  enumers_same : (es : EnumerShapes) → enumers_mark (bare_enumers es) ≡ enumers_mark es
  enumers_same no_enumers = refl
  enumers_same (more_enumers x v rest) = ap (first (mark_in x.probe)) (both (maybe_same v) (enumers_same rest))

  decls_same : (ds : DeclShapes) → decls_mark (bare_decls ds) ≡ decls_mark ds
  decls_same no_decls = refl
  decls_same (more_decls d rest) = both (decl_same d) (decls_same rest)

  decl_same : (d : DeclShape) → decl_mark (bare_decl d) ≡ decl_mark d
  decl_same (decl p specs ds) = both (specs_same specs) (names_same ds)

  names_same : (ds : DeclaratorShapes) → declarators_mark (bare_names ds) ≡ declarators_mark ds
  names_same no_declarators = refl
  names_same (more_declarators d rest) = both (name_same d) (names_same rest)

  name_same : (d : DeclaratorShape) → declarator_mark (bare_name d) ≡ declarator_mark d
  name_same (declarator stars x f i) = ap (first (name_mark x)) (both (behind_same f) (maybe_init_same i))

  behind_same : (f : DeclFormShape) → behind_mark (bare_behind f) ≡ behind_mark f
  behind_same (arrays ls) = lengths_same ls
  behind_same (function ps) = params_same ps

  params_same : (ps : ParamsShape) → params_mark (bare_params ps) ≡ params_mark ps
  params_same empty = refl
  params_same void = refl
  params_same (params ds) = decls_same ds

  maybe_init_same : (i : MaybeInit) → maybe_init_mark (bare_maybe_init i) ≡ maybe_init_mark i
  maybe_init_same no_init = refl
  maybe_init_same (one_init i) = init_same i

  init_same : (i : InitShape) → init_mark (bare_init i) ≡ init_mark i
  init_same (one a) = node_same a
  init_same (listed p is last) = inits_same is

  inits_same : (is : InitShapes) → inits_mark (bare_inits is) ≡ inits_mark is
  inits_same no_inits = refl
  inits_same (more_inits i rest) = both (init_same i) (inits_same rest)

labels_same : (ls : List LabelShape) → labels_mark (map bare_label ls) ≡ labels_mark ls
labels_same [] = refl
labels_same (case p a ∷ rest) = both (node_same a) (labels_same rest)
labels_same (default p ∷ rest) = labels_same rest

mutual
  stmt_same : (a : StmtShape) → stmt_mark (bare_stmt a) ≡ stmt_mark a
  stmt_same (stmt p ms q f) = ap (first (mark_among ms)) (body_same f)

  body_same : (f : FormShape) → body_mark (bare_body f) ≡ body_mark f
  body_same (compound c) = compound_same c
  body_same (simply e) = maybe_same e
  body_same (when e a) = both (node_same e) (stmt_same a)
  body_same (either e a b) = both (node_same e) (both (stmt_same a) (stmt_same b))
  body_same (while e a) = both (node_same e) (stmt_same a)
  body_same (do_while a e) = both (stmt_same a) (node_same e)
  body_same (for e f g a) = both (maybe_same e) (both (maybe_same f) (both (maybe_same g) (stmt_same a)))
  body_same (switch e items) = both (node_same e) (items_same items)
  body_same break = refl
  body_same continue = refl
  body_same (return e) = maybe_same e

  compound_same : (c : CompoundShape) → compound_mark (bare_compound c) ≡ compound_mark c
  compound_same (braces p ds items) = both (decls_same ds) (items_same items)

  items_same : (items : ItemShapes) → items_mark (bare_items items) ≡ items_mark items
  items_same no_items = refl
  items_same (more_items labels a rest) = both (labels_same labels) (both (stmt_same a) (items_same rest))

external_same : (e : ExternalShape) → external_mark (bare_external e) ≡ external_mark e
external_same (defined specs d ms c) = both (specs_same specs) (both (name_same d) (ap (first (mark_among ms)) (compound_same c)))
external_same (declared d) = decl_same d

externals_same : (es : List ExternalShape) → externals_mark (map bare_external es) ≡ externals_mark es
externals_same [] = refl
externals_same (e ∷ rest) = both (external_same e) (externals_same rest)

unit_same : (u : UnitShape) → unit_mark (bare_unit u) ≡ unit_mark u
unit_same u = ap (first (line_mark u.line)) (externals_same u.externals)

-- nor on typing, which makes the notes
pub typed_mark : (u : UnitShape) → unit_mark (typed_unit u).unit ≡ unit_mark u
typed_mark u = sym (unit_same (typed_unit u).unit) ∙ ap unit_mark (unit_bare (Some (bodies u)) u) ∙ unit_same u
