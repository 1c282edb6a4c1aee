-- How many levels a part has. A probe takes no level, and so do declarations, type names, labels and parameter lists themselves.
use Rattle.std.specs.Prelude.{ℕ, ◌+◌, suc, max, List, [], ◌∷◌, length}
use Rattle.c_syntax.specs.declared.tree.Star.{Star}
use Rattle.c_syntax.specs.Shape.{NodeShape, node, ExprShape, leaf, paren, call, prefix, size_of_type, cast, suffix, two, choose, probe, SuffixShape, index, field, behind, ProbeShape, simple, select, NodeShapes, no_nodes, more_nodes, MaybeNode, no_node, one_node, LengthShapes, no_lengths, more_lengths, TypeShape, type_name, SpecShapes, no_specs, more_specs, SpecShape, word, struct, enum, MaybeDecls, no_members, members, MaybeEnumers, no_rows, rows, EnumerShapes, no_enumers, more_enumers, DeclShape, decl, DeclShapes, no_decls, more_decls, DeclaratorShape, declarator, DeclaratorShapes, no_declarators, more_declarators, DeclFormShape, arrays, function, ParamsShape, empty, void, params, MaybeInit, no_init, one_init, InitShape, one, listed, InitShapes, no_inits, more_inits, LabelShape, case, default, StmtShape, stmt, FormShape, compound, simply, when, either, while, do_while, for, switch, break, continue, return, CompoundShape, braces, ItemShapes, no_items, more_items, ExternalShape, defined, declared, UnitShape}

abbrev mutual
  pub height : NodeShape → ℕ
  height (node p o n f) = expr_height f

  pub expr_height : ExprShape → ℕ
  expr_height (leaf l) = 1
  expr_height (paren a) = suc (height a)
  expr_height (call x args) = suc (nodes_height args)
  expr_height (prefix u a) = suc (height a)
  expr_height (size_of_type t) = suc (type_height t)
  expr_height (cast t a) = suc (max (type_height t) (height a))
  expr_height (suffix a s) = suc (max (height a) (suffix_height s))
  expr_height (two u a b) = suc (max (height a) (height b))
  expr_height (choose a b c) = suc (max (height a) (max (height b) (height c)))
  expr_height (probe u a) = max (cases_height u) (height a)

  pub suffix_height : SuffixShape → ℕ
  suffix_height (index b) = height b
  suffix_height (field h x p) = 0
  suffix_height (behind s) = 0

  pub cases_height : ProbeShape → ℕ
  cases_height (simple u n) = 0
  cases_height (select n cases) = nodes_height cases

  pub nodes_height : NodeShapes → ℕ
  nodes_height no_nodes = 0
  nodes_height (more_nodes a rest) = max (height a) (nodes_height rest)

  pub maybe_height : MaybeNode → ℕ
  maybe_height no_node = 0
  maybe_height (one_node a) = height a

  -- each bracket is one level below the one before it
  pub lengths_height : LengthShapes → ℕ
  lengths_height no_lengths = 0
  lengths_height (more_lengths l rest) = suc (max (maybe_height l) (lengths_height rest))

  -- each star is one level below the one before it, and the first bracket below the last star
  pub type_height : TypeShape → ℕ
  type_height (type_name p specs stars lengths) = max (specs_height specs) (length stars + lengths_height lengths)

  pub specs_height : SpecShapes → ℕ
  specs_height no_specs = 0
  specs_height (more_specs p s rest) = max (spec_height s) (specs_height rest)

  pub spec_height : SpecShape → ℕ
  spec_height (word x) = 0
  spec_height (struct tag ds) = members_height ds
  spec_height (enum tag es) = rows_height es

  -- a member list is one level below what holds the specifiers
  pub members_height : MaybeDecls → ℕ
  members_height no_members = 0
  members_height (members ds) = suc (decls_height ds)

  pub rows_height : MaybeEnumers → ℕ
  rows_height no_rows = 0
  rows_height (rows es) = enumers_height es

  pub enumers_height : EnumerShapes → ℕ
  enumers_height no_enumers = 0
  enumers_height (more_enumers n v rest) = max (maybe_height v) (enumers_height rest)

  pub decls_height : DeclShapes → ℕ
  decls_height no_decls = 0
  decls_height (more_decls d rest) = max (decl_height d) (decls_height rest)

  pub decl_height : DeclShape → ℕ
  decl_height (decl p specs ds) = max (specs_height specs) (declarators_height ds)

  pub declarators_height : DeclaratorShapes → ℕ
  declarators_height no_declarators = 0
  declarators_height (more_declarators d rest) = max (declarator_height d) (declarators_height rest)

  pub declarator_height : DeclaratorShape → ℕ
  declarator_height (declarator stars n f i) = suc (max (behind_height stars f) (init_of_height i))

  -- stars and brackets stand one below the other; parameters stand below their function's declarator
  pub behind_height : List Star → DeclFormShape → ℕ
  behind_height stars (arrays lengths) = length stars + lengths_height lengths
  behind_height stars (function list) = max (length stars) (params_height list)

  pub params_height : ParamsShape → ℕ
  params_height empty = 0
  params_height void = 0
  params_height (params list) = decls_height list

  pub init_of_height : MaybeInit → ℕ
  init_of_height no_init = 0
  init_of_height (one_init i) = init_height i

  pub init_height : InitShape → ℕ
  init_height (one a) = suc (height a)
  init_height (listed p list last) = suc (inits_height list)

  pub inits_height : InitShapes → ℕ
  inits_height no_inits = 0
  inits_height (more_inits i rest) = max (init_height i) (inits_height rest)

abbrev pub case_height : LabelShape → ℕ
case_height (case p e) = height e
case_height (default p) = 0

abbrev pub labels_height : List LabelShape → ℕ
labels_height [] = 0
labels_height (l ∷ rest) = max (case_height l) (labels_height rest)

-- an item shares its level with its statement where it has no label
abbrev pub item_height : List LabelShape → ℕ → ℕ
item_height [] h = h
item_height (l ∷ rest) h = suc (max (labels_height (l ∷ rest)) h)

abbrev mutual
  pub stmt_height : StmtShape → ℕ
  stmt_height (stmt p marks q f) = suc (form_height f)

  pub form_height : FormShape → ℕ
  form_height (compound c) = compound_height c
  form_height (simply e) = maybe_height e
  form_height (when e s) = max (height e) (stmt_height s)
  form_height (either e s t) = max (height e) (max (stmt_height s) (stmt_height t))
  form_height (while e s) = max (height e) (stmt_height s)
  form_height (do_while s e) = max (stmt_height s) (height e)
  form_height (for a b c s) = max (maybe_height a) (max (maybe_height b) (max (maybe_height c) (stmt_height s)))
  form_height (switch e items) = max (height e) (items_height items)
  form_height break = 0
  form_height continue = 0
  form_height (return e) = maybe_height e

  pub compound_height : CompoundShape → ℕ
  compound_height (braces p ds items) = suc (max (decls_height ds) (items_height items))

  pub items_height : ItemShapes → ℕ
  items_height no_items = 0
  items_height (more_items labels s rest) = max (item_height labels (stmt_height s)) (items_height rest)

abbrev pub external_height : ExternalShape → ℕ
external_height (defined specs d marks c) = suc (max (specs_height specs) (max (declarator_height d) (compound_height c)))
external_height (declared d) = suc (decl_height d)

abbrev pub externals_height : List ExternalShape → ℕ
externals_height [] = 0
externals_height (e ∷ rest) = max (external_height e) (externals_height rest)

abbrev pub unit_height : UnitShape → ℕ
unit_height u = externals_height u.externals

-- how many probes stand directly one inside another, from this node on
abbrev mutual
  pub chain : NodeShape → ℕ
  chain (node p o n f) = expr_chain f

  pub expr_chain : ExprShape → ℕ
  expr_chain (leaf l) = 0
  expr_chain (paren a) = 0
  expr_chain (call x args) = 0
  expr_chain (prefix u a) = 0
  expr_chain (size_of_type t) = 0
  expr_chain (cast t a) = 0
  expr_chain (suffix a s) = 0
  expr_chain (two u a b) = 0
  expr_chain (choose a b c) = 0
  expr_chain (probe u a) = suc (max (cases_chain u) (chain a))

  pub cases_chain : ProbeShape → ℕ
  cases_chain (simple u n) = 0
  cases_chain (select n cases) = nodes_chain cases

  pub nodes_chain : NodeShapes → ℕ
  nodes_chain no_nodes = 0
  nodes_chain (more_nodes a rest) = max (chain a) (nodes_chain rest)
