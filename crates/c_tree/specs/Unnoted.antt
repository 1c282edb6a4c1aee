-- A tree without its notes.
use Rattle.std.specs.Prelude.{List, [], ◌∷◌, map}
use Rattle.c_syntax.specs.Shape.{bare, NodeShape, node, ExprShape, leaf, paren, call, prefix, size_of_type, cast, suffix, two, choose, probe, SuffixShape, index, field, behind, ProbeShape, simple, select, NodeShapes, no_nodes, more_nodes, MaybeNode, no_node, one_node, LengthShapes, no_lengths, more_lengths, TypeShape, type_name, SpecShapes, no_specs, more_specs, SpecShape, word, struct, enum, MaybeDecls, no_members, members, MaybeEnumers, no_rows, rows, EnumerShapes, no_enumers, more_enumers, DeclShape, decl, DeclShapes, no_decls, more_decls, DeclaratorShape, declarator, DeclaratorShapes, no_declarators, more_declarators, DeclFormShape, arrays, function, ParamsShape, empty, void, params, MaybeInit, no_init, one_init, InitShape, one, listed, InitShapes, no_inits, more_inits, LabelShape, case, default, StmtShape, stmt, FormShape, compound, simply, when, either, while, do_while, for, switch, break, continue, return, CompoundShape, braces, ItemShapes, no_items, more_items, ExternalShape, defined, declared, UnitShape}

abbrev mutual
  pub bare_node : NodeShape → NodeShape
  bare_node (node p o n f) = node p o bare (bare_form f)

  pub bare_form : ExprShape → ExprShape
  bare_form (leaf l) = leaf l
  bare_form (paren a) = paren (bare_node a)
  bare_form (call x args) = call x (bare_nodes args)
  bare_form (prefix u a) = prefix u (bare_node a)
  bare_form (size_of_type t) = size_of_type (bare_type t)
  bare_form (cast t a) = cast (bare_type t) (bare_node a)
  bare_form (suffix a s) = suffix (bare_node a) (bare_suffix s)
  bare_form (two u a b) = two u (bare_node a) (bare_node b)
  bare_form (choose a b c) = choose (bare_node a) (bare_node b) (bare_node c)
  bare_form (probe u a) = probe (bare_probe u) (bare_node a)

  pub bare_suffix : SuffixShape → SuffixShape
  bare_suffix (index b) = index (bare_node b)
  bare_suffix (field h x q) = field h x q
  bare_suffix (behind u) = behind u

  pub bare_probe : ProbeShape → ProbeShape
  bare_probe (simple u x) = simple u x
  bare_probe (select x cs) = select x (bare_nodes cs)

  pub bare_nodes : NodeShapes → NodeShapes
  bare_nodes no_nodes = no_nodes
  bare_nodes (more_nodes a rest) = more_nodes (bare_node a) (bare_nodes rest)

  pub bare_maybe : MaybeNode → MaybeNode
  bare_maybe no_node = no_node
  bare_maybe (one_node a) = one_node (bare_node a)

  pub bare_lengths : LengthShapes → LengthShapes
  bare_lengths no_lengths = no_lengths
  bare_lengths (more_lengths l rest) = more_lengths (bare_maybe l) (bare_lengths rest)

  pub bare_type : TypeShape → TypeShape
  bare_type (type_name p specs stars ls) = type_name p (bare_specs specs) stars (bare_lengths ls)

  pub bare_specs : SpecShapes → SpecShapes
  bare_specs no_specs = no_specs
  bare_specs (more_specs p s rest) = more_specs p (bare_spec s) (bare_specs rest)

  pub bare_spec : SpecShape → SpecShape
  bare_spec (word k) = word k
  bare_spec (struct t ds) = struct t (bare_members ds)
  bare_spec (enum t es) = enum t (bare_rows es)

  pub bare_members : MaybeDecls → MaybeDecls
  bare_members no_members = no_members
  bare_members (members ds) = members (bare_decls ds)

  pub bare_rows : MaybeEnumers → MaybeEnumers
  bare_rows no_rows = no_rows
  bare_rows (rows es) = rows (bare_enumers es)

  pub bare_enumers : EnumerShapes → EnumerShapes
  bare_enumers no_enumers = no_enumers
  bare_enumers (more_enumers x v rest) = more_enumers x (bare_maybe v) (bare_enumers rest)

  pub bare_decl : DeclShape → DeclShape
  bare_decl (decl p specs names) = decl p (bare_specs specs) (bare_names names)

  pub bare_decls : DeclShapes → DeclShapes
  bare_decls no_decls = no_decls
  bare_decls (more_decls d rest) = more_decls (bare_decl d) (bare_decls rest)

  pub bare_name : DeclaratorShape → DeclaratorShape
  bare_name (declarator stars x f i) = declarator stars x (bare_behind f) (bare_maybe_init i)

  pub bare_names : DeclaratorShapes → DeclaratorShapes
  bare_names no_declarators = no_declarators
  bare_names (more_declarators d rest) = more_declarators (bare_name d) (bare_names rest)

  pub bare_behind : DeclFormShape → DeclFormShape
  bare_behind (arrays ls) = arrays (bare_lengths ls)
  bare_behind (function ps) = function (bare_params ps)

  pub bare_params : ParamsShape → ParamsShape
  bare_params empty = empty
  bare_params void = void
  bare_params (params ds) = params (bare_decls ds)

  pub bare_maybe_init : MaybeInit → MaybeInit
  bare_maybe_init no_init = no_init
  bare_maybe_init (one_init i) = one_init (bare_init i)

  pub bare_init : InitShape → InitShape
  bare_init (one a) = one (bare_node a)
  bare_init (listed p is last) = listed p (bare_inits is) last

  pub bare_inits : InitShapes → InitShapes
  bare_inits no_inits = no_inits
  bare_inits (more_inits i rest) = more_inits (bare_init i) (bare_inits rest)

-- ---- statements

abbrev pub bare_label : LabelShape → LabelShape
bare_label (case p a) = case p (bare_node a)
bare_label (default p) = default p

abbrev mutual
  pub bare_stmt : StmtShape → StmtShape
  bare_stmt (stmt p marks q f) = stmt p marks q (bare_body f)

  pub bare_body : FormShape → FormShape
  bare_body (compound c) = compound (bare_compound c)
  bare_body (simply e) = simply (bare_maybe e)
  bare_body (when e a) = when (bare_node e) (bare_stmt a)
  bare_body (either e a b) = either (bare_node e) (bare_stmt a) (bare_stmt b)
  bare_body (while e a) = while (bare_node e) (bare_stmt a)
  bare_body (do_while a e) = do_while (bare_stmt a) (bare_node e)
  bare_body (for e f g a) = for (bare_maybe e) (bare_maybe f) (bare_maybe g) (bare_stmt a)
  bare_body (switch e items) = switch (bare_node e) (bare_items items)
  bare_body break = break
  bare_body continue = continue
  bare_body (return e) = return (bare_maybe e)

  pub bare_compound : CompoundShape → CompoundShape
  bare_compound (braces p ds items) = braces p (bare_decls ds) (bare_items items)

  pub bare_items : ItemShapes → ItemShapes
  bare_items no_items = no_items
  bare_items (more_items labels a rest) = more_items (map bare_label labels) (bare_stmt a) (bare_items rest)

-- ---- units

abbrev pub bare_external : ExternalShape → ExternalShape
bare_external (defined specs d marks c) = defined (bare_specs specs) (bare_name d) marks (bare_compound c)
bare_external (declared d) = declared (bare_decl d)

abbrev pub bare_unit : UnitShape → UnitShape
bare_unit u = record u { externals = map bare_external u.externals }
