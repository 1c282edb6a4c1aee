-- The first probe, in the order of tokens: its place, where there is one.
use Rattle.std.specs.Prelude.{List, [], ◌∷◌, Option, Some, None}
use Rattle.c_base.specs.declared.place.Pos.{Pos}
use Rattle.c_syntax.specs.declared.tree.Named.{Named}
use Rattle.c_syntax.specs.declared.tree.ProbeMark.{ProbeMark}
use Rattle.c_syntax.specs.declared.tree.ProgramLine.{ProgramLine}
use Rattle.c_syntax.specs.Shape.{NodeShape, node, ExprShape, leaf, paren, call, prefix, size_of_type, cast, suffix, two, choose, probe, SuffixShape, index, field, behind, NodeShapes, no_nodes, more_nodes, MaybeNode, no_node, one_node, LengthShapes, no_lengths, more_lengths, TypeShape, type_name, SpecShapes, no_specs, more_specs, SpecShape, word, struct, enum, MaybeDecls, no_members, members, MaybeEnumers, no_rows, rows, EnumerShapes, no_enumers, more_enumers, DeclShape, decl, DeclShapes, no_decls, more_decls, DeclaratorShape, declarator, DeclaratorShapes, no_declarators, more_declarators, DeclFormShape, arrays, function, ParamsShape, empty, void, params, MaybeInit, no_init, one_init, InitShape, one, listed, InitShapes, no_inits, more_inits, LabelShape, case, default, StmtShape, stmt, FormShape, compound, simply, when, either, while, do_while, for, switch, break, continue, return, CompoundShape, braces, ItemShapes, no_items, more_items, ExternalShape, defined, declared, UnitShape}

-- the first of the two that is there
abbrev pub first : Option Pos → Option Pos → Option Pos
first (Some p) q = Some p
first None q = q

abbrev pub mark_in : Option ProbeMark → Option Pos
mark_in None = None
mark_in (Some m) = Some m.pos

abbrev pub name_mark : Option Named → Option Pos
name_mark None = None
name_mark (Some x) = mark_in x.probe

abbrev pub mark_among : List ProbeMark → Option Pos
mark_among [] = None
mark_among (m ∷ ms) = Some m.pos

abbrev mutual
  pub node_mark : NodeShape → Option Pos
  node_mark (node p o n f) = form_mark p f

  -- of an expression at that place
  pub form_mark : Pos → ExprShape → Option Pos
  form_mark p (leaf l) = None
  form_mark p (paren a) = node_mark a
  form_mark p (call x args) = nodes_mark args
  form_mark p (prefix u a) = node_mark a
  form_mark p (size_of_type t) = type_mark t
  form_mark p (cast t a) = first (type_mark t) (node_mark a)
  form_mark p (suffix a s) = first (node_mark a) (suffix_mark s)
  form_mark p (two u a b) = first (node_mark a) (node_mark b)
  form_mark p (choose a b c) = first (node_mark a) (first (node_mark b) (node_mark c))
  form_mark p (probe u a) = Some p

  pub suffix_mark : SuffixShape → Option Pos
  suffix_mark (index b) = node_mark b
  suffix_mark (field h x p) = None
  suffix_mark (behind s) = None

  pub nodes_mark : NodeShapes → Option Pos
  nodes_mark no_nodes = None
  nodes_mark (more_nodes a rest) = first (node_mark a) (nodes_mark rest)

  pub maybe_mark : MaybeNode → Option Pos
  maybe_mark no_node = None
  maybe_mark (one_node a) = node_mark a

  pub lengths_mark : LengthShapes → Option Pos
  lengths_mark no_lengths = None
  lengths_mark (more_lengths l rest) = first (maybe_mark l) (lengths_mark rest)

  pub type_mark : TypeShape → Option Pos
  type_mark (type_name p specs stars lengths) = first (specs_mark specs) (lengths_mark lengths)

  pub specs_mark : SpecShapes → Option Pos
  specs_mark no_specs = None
  specs_mark (more_specs p s rest) = first (spec_mark s) (specs_mark rest)

  pub spec_mark : SpecShape → Option Pos
  spec_mark (word x) = None
  spec_mark (struct tag ds) = first (name_mark tag) (members_mark ds)
  spec_mark (enum tag es) = first (name_mark tag) (rows_mark es)

  pub members_mark : MaybeDecls → Option Pos
  members_mark no_members = None
  members_mark (members ds) = decls_mark ds

  pub rows_mark : MaybeEnumers → Option Pos
  rows_mark no_rows = None
  rows_mark (rows es) = enumers_mark es

  pub enumers_mark : EnumerShapes → Option Pos
  enumers_mark no_enumers = None
  enumers_mark (more_enumers x v rest) = first (mark_in x.probe) (first (maybe_mark v) (enumers_mark rest))

  pub decls_mark : DeclShapes → Option Pos
  decls_mark no_decls = None
  decls_mark (more_decls d rest) = first (decl_mark d) (decls_mark rest)

  pub decl_mark : DeclShape → Option Pos
  decl_mark (decl p specs ds) = first (specs_mark specs) (declarators_mark ds)

  pub declarators_mark : DeclaratorShapes → Option Pos
  declarators_mark no_declarators = None
  declarators_mark (more_declarators d rest) = first (declarator_mark d) (declarators_mark rest)

  pub declarator_mark : DeclaratorShape → Option Pos
  declarator_mark (declarator stars x f i) = first (name_mark x) (first (behind_mark f) (maybe_init_mark i))

  pub behind_mark : DeclFormShape → Option Pos
  behind_mark (arrays lengths) = lengths_mark lengths
  behind_mark (function list) = params_mark list

  pub params_mark : ParamsShape → Option Pos
  params_mark empty = None
  params_mark void = None
  params_mark (params list) = decls_mark list

  pub maybe_init_mark : MaybeInit → Option Pos
  maybe_init_mark no_init = None
  maybe_init_mark (one_init i) = init_mark i

  pub init_mark : InitShape → Option Pos
  init_mark (one a) = node_mark a
  init_mark (listed p list last) = inits_mark list

  pub inits_mark : InitShapes → Option Pos
  inits_mark no_inits = None
  inits_mark (more_inits i rest) = first (init_mark i) (inits_mark rest)

-- ---- statements and units

abbrev pub label_mark : LabelShape → Option Pos
label_mark (case p a) = node_mark a
label_mark (default p) = None

abbrev pub labels_mark : List LabelShape → Option Pos
labels_mark [] = None
labels_mark (l ∷ rest) = first (label_mark l) (labels_mark rest)

abbrev mutual
  pub stmt_mark : StmtShape → Option Pos
  stmt_mark (stmt p marks q f) = first (mark_among marks) (body_mark f)

  pub body_mark : FormShape → Option Pos
  body_mark (compound c) = compound_mark c
  body_mark (simply e) = maybe_mark e
  body_mark (when e a) = first (node_mark e) (stmt_mark a)
  body_mark (either e a b) = first (node_mark e) (first (stmt_mark a) (stmt_mark b))
  body_mark (while e a) = first (node_mark e) (stmt_mark a)
  body_mark (do_while a e) = first (stmt_mark a) (node_mark e)
  body_mark (for e f g a) = first (maybe_mark e) (first (maybe_mark f) (first (maybe_mark g) (stmt_mark a)))
  body_mark (switch e items) = first (node_mark e) (items_mark items)
  body_mark break = None
  body_mark continue = None
  body_mark (return e) = maybe_mark e

  pub compound_mark : CompoundShape → Option Pos
  compound_mark (braces p ds items) = first (decls_mark ds) (items_mark items)

  pub items_mark : ItemShapes → Option Pos
  items_mark no_items = None
  items_mark (more_items labels a rest) = first (labels_mark labels) (first (stmt_mark a) (items_mark rest))

abbrev pub external_mark : ExternalShape → Option Pos
external_mark (defined specs d marks c) = first (specs_mark specs) (first (declarator_mark d) (first (mark_among marks) (compound_mark c)))
external_mark (declared d) = decl_mark d

abbrev pub externals_mark : List ExternalShape → Option Pos
externals_mark [] = None
externals_mark (e ∷ rest) = first (external_mark e) (externals_mark rest)

abbrev pub line_mark : Option ProgramLine → Option Pos
line_mark None = None
line_mark (Some l) = Some l.pos

-- the first probe of a unit, or its program line
abbrev pub unit_mark : UnitShape → Option Pos
unit_mark u = first (line_mark u.line) (externals_mark u.externals)
