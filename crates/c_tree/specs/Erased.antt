-- A tree without its probes: what stands in a probe stands there alone.
use Rattle.std.specs.Prelude.{List, [], ◌∷◌, map, Option, None, option_map}
use Rattle.c_base.specs.declared.place.Pos.{Pos}
use Rattle.c_syntax.specs.declared.tree.Named.{Named}
use Rattle.c_syntax.specs.Shape.{NoteShape, NodeShape, node, ExprShape, leaf, paren, call, prefix, size_of_type, cast, suffix, two, choose, probe, SuffixShape, index, field, behind, NodeShapes, no_nodes, more_nodes, MaybeNode, no_node, one_node, LengthShapes, no_lengths, more_lengths, TypeShape, type_name, SpecShapes, no_specs, more_specs, SpecShape, word, struct, enum, MaybeDecls, no_members, members, MaybeEnumers, no_rows, rows, EnumerShapes, no_enumers, more_enumers, DeclShape, decl, DeclShapes, no_decls, more_decls, DeclaratorShape, declarator, DeclaratorShapes, no_declarators, more_declarators, DeclFormShape, arrays, function, ParamsShape, empty, void, params, MaybeInit, no_init, one_init, InitShape, one, listed, InitShapes, no_inits, more_inits, LabelShape, case, default, StmtShape, stmt, FormShape, compound, simply, when, either, while, do_while, for, switch, break, continue, return, CompoundShape, braces, ItemShapes, no_items, more_items, ExternalShape, defined, declared, UnitShape}

abbrev pub erased_name : Named → Named
erased_name x = record x { probe = None }

abbrev mutual
  pub erased_node : NodeShape → NodeShape
  erased_node (node p o n f) = erased_form p o n f

  -- a node of that form
  pub erased_form : Pos → Pos → NoteShape → ExprShape → NodeShape
  erased_form p o n (leaf l) = node p o n (leaf l)
  erased_form p o n (paren a) = node p o n (paren (erased_node a))
  erased_form p o n (call x args) = node p o n (call x (erased_nodes args))
  erased_form p o n (prefix u a) = node p o n (prefix u (erased_node a))
  erased_form p o n (size_of_type t) = node p o n (size_of_type (erased_type t))
  erased_form p o n (cast t a) = node p o n (cast (erased_type t) (erased_node a))
  erased_form p o n (suffix a s) = node p o n (suffix (erased_node a) (erased_suffix s))
  erased_form p o n (two u a b) = node p o n (two u (erased_node a) (erased_node b))
  erased_form p o n (choose a b c) = node p o n (choose (erased_node a) (erased_node b) (erased_node c))
  erased_form p o n (probe u a) = erased_node a

  pub erased_suffix : SuffixShape → SuffixShape
  erased_suffix (index b) = index (erased_node b)
  erased_suffix (field h x q) = field h x q
  erased_suffix (behind u) = behind u

  pub erased_nodes : NodeShapes → NodeShapes
  erased_nodes no_nodes = no_nodes
  erased_nodes (more_nodes a rest) = more_nodes (erased_node a) (erased_nodes rest)

  pub erased_maybe : MaybeNode → MaybeNode
  erased_maybe no_node = no_node
  erased_maybe (one_node a) = one_node (erased_node a)

  pub erased_lengths : LengthShapes → LengthShapes
  erased_lengths no_lengths = no_lengths
  erased_lengths (more_lengths l rest) = more_lengths (erased_maybe l) (erased_lengths rest)

  pub erased_type : TypeShape → TypeShape
  erased_type (type_name p specs stars ls) = type_name p (erased_specs specs) stars (erased_lengths ls)

  pub erased_specs : SpecShapes → SpecShapes
  erased_specs no_specs = no_specs
  erased_specs (more_specs p s rest) = more_specs p (erased_spec s) (erased_specs rest)

  pub erased_spec : SpecShape → SpecShape
  erased_spec (word k) = word k
  erased_spec (struct t ds) = struct (option_map erased_name t) (erased_members ds)
  erased_spec (enum t es) = enum (option_map erased_name t) (erased_rows es)

  pub erased_members : MaybeDecls → MaybeDecls
  erased_members no_members = no_members
  erased_members (members ds) = members (erased_decls ds)

  pub erased_rows : MaybeEnumers → MaybeEnumers
  erased_rows no_rows = no_rows
  erased_rows (rows es) = rows (erased_enumers es)

  pub erased_enumers : EnumerShapes → EnumerShapes
  erased_enumers no_enumers = no_enumers
  erased_enumers (more_enumers x v rest) = more_enumers (erased_name x) (erased_maybe v) (erased_enumers rest)

  pub erased_decl : DeclShape → DeclShape
  erased_decl (decl p specs names) = decl p (erased_specs specs) (erased_declarators names)

  pub erased_decls : DeclShapes → DeclShapes
  erased_decls no_decls = no_decls
  erased_decls (more_decls d rest) = more_decls (erased_decl d) (erased_decls rest)

  pub erased_declarator : DeclaratorShape → DeclaratorShape
  erased_declarator (declarator stars x f i) = declarator stars (option_map erased_name x) (erased_behind f) (erased_maybe_init i)

  pub erased_declarators : DeclaratorShapes → DeclaratorShapes
  erased_declarators no_declarators = no_declarators
  erased_declarators (more_declarators d rest) = more_declarators (erased_declarator d) (erased_declarators rest)

  pub erased_behind : DeclFormShape → DeclFormShape
  erased_behind (arrays ls) = arrays (erased_lengths ls)
  erased_behind (function ps) = function (erased_params ps)

  pub erased_params : ParamsShape → ParamsShape
  erased_params empty = empty
  erased_params void = void
  erased_params (params ds) = params (erased_decls ds)

  pub erased_maybe_init : MaybeInit → MaybeInit
  erased_maybe_init no_init = no_init
  erased_maybe_init (one_init i) = one_init (erased_init i)

  pub erased_init : InitShape → InitShape
  erased_init (one a) = one (erased_node a)
  erased_init (listed p is last) = listed p (erased_inits is) last

  pub erased_inits : InitShapes → InitShapes
  erased_inits no_inits = no_inits
  erased_inits (more_inits i rest) = more_inits (erased_init i) (erased_inits rest)

-- ---- statements

abbrev pub erased_label : LabelShape → LabelShape
erased_label (case p a) = case p (erased_node a)
erased_label (default p) = default p

abbrev mutual
  pub erased_stmt : StmtShape → StmtShape
  erased_stmt (stmt p marks q f) = stmt p [] q (erased_body f)

  pub erased_body : FormShape → FormShape
  erased_body (compound c) = compound (erased_compound c)
  erased_body (simply e) = simply (erased_maybe e)
  erased_body (when e a) = when (erased_node e) (erased_stmt a)
  erased_body (either e a b) = either (erased_node e) (erased_stmt a) (erased_stmt b)
  erased_body (while e a) = while (erased_node e) (erased_stmt a)
  erased_body (do_while a e) = do_while (erased_stmt a) (erased_node e)
  erased_body (for e f g a) = for (erased_maybe e) (erased_maybe f) (erased_maybe g) (erased_stmt a)
  erased_body (switch e items) = switch (erased_node e) (erased_items items)
  erased_body break = break
  erased_body continue = continue
  erased_body (return e) = return (erased_maybe e)

  pub erased_compound : CompoundShape → CompoundShape
  erased_compound (braces p ds items) = braces p (erased_decls ds) (erased_items items)

  pub erased_items : ItemShapes → ItemShapes
  erased_items no_items = no_items
  erased_items (more_items labels a rest) = more_items (map erased_label labels) (erased_stmt a) (erased_items rest)

-- ---- units

abbrev pub erased_external : ExternalShape → ExternalShape
erased_external (defined specs d marks c) = defined (erased_specs specs) (erased_declarator d) [] (erased_compound c)
erased_external (declared d) = declared (erased_decl d)

abbrev pub erased_unit : UnitShape → UnitShape
erased_unit u = record u { line = None; externals = map erased_external u.externals }
