-- A tree with the notes that typing writes. Without notes is what typing leaves as it stands: initialisers of fields, parameters and functions, fields that are functions, parameters in another form, and definitions of anything but functions.
use Rattle.std.specs.Prelude.{map}
use Rattle.c_syntax.specs.Shape.{NodeShape, node, ExprShape, leaf, paren, call, prefix, size_of_type, cast, suffix, two, choose, probe, SuffixShape, index, field, behind, ProbeShape, simple, select, NodeShapes, no_nodes, more_nodes, MaybeNode, no_node, one_node, LengthShapes, no_lengths, more_lengths, TypeShape, type_name, SpecShapes, no_specs, more_specs, SpecShape, word, struct, enum, MaybeDecls, no_members, members, MaybeEnumers, no_rows, rows, EnumerShapes, no_enumers, more_enumers, DeclShape, decl, DeclShapes, no_decls, more_decls, DeclaratorShape, declarator, DeclaratorShapes, no_declarators, more_declarators, arrays, function, ParamsShape, empty, void, params, MaybeInit, no_init, one_init, InitShape, one, listed, InitShapes, no_inits, more_inits, LabelShape, case, default, StmtShape, stmt, FormShape, compound, simply, when, either, while, do_while, for, switch, break, continue, return, CompoundShape, braces, ItemShapes, no_items, more_items, ExternalShape, defined, declared, UnitShape}
use Rattle.c_tree.specs.Unnoted.{bare_decl, bare_name, bare_maybe_init, bare_external}

-- ---- expressions, and the types that they name

abbrev mutual
  pub written_node : NodeShape → NodeShape
  written_node (node p o n f) = node p o n (written_form f)

  pub written_form : ExprShape → ExprShape
  written_form (leaf l) = leaf l
  written_form (paren a) = paren (written_node a)
  written_form (call x args) = call x (written_nodes args)
  written_form (prefix u a) = prefix u (written_node a)
  written_form (size_of_type t) = size_of_type (written_type t)
  written_form (cast t a) = cast (written_type t) (written_node a)
  written_form (suffix a s) = suffix (written_node a) (written_suffix s)
  written_form (two u a b) = two u (written_node a) (written_node b)
  written_form (choose a b c) = choose (written_node a) (written_node b) (written_node c)
  written_form (probe u a) = probe (written_probe u) (written_node a)

  pub written_suffix : SuffixShape → SuffixShape
  written_suffix (index b) = index (written_node b)
  written_suffix (field h x q) = field h x q
  written_suffix (behind u) = behind u

  pub written_probe : ProbeShape → ProbeShape
  written_probe (simple u x) = simple u x
  written_probe (select x cs) = select x (written_nodes cs)

  pub written_nodes : NodeShapes → NodeShapes
  written_nodes no_nodes = no_nodes
  written_nodes (more_nodes a rest) = more_nodes (written_node a) (written_nodes rest)

  pub written_maybe : MaybeNode → MaybeNode
  written_maybe no_node = no_node
  written_maybe (one_node a) = one_node (written_node a)

  pub written_lengths : LengthShapes → LengthShapes
  written_lengths no_lengths = no_lengths
  written_lengths (more_lengths l rest) = more_lengths (written_maybe l) (written_lengths rest)

  pub written_type : TypeShape → TypeShape
  written_type (type_name p specs stars ls) = type_name p (written_specs specs) stars (written_lengths ls)

  pub written_specs : SpecShapes → SpecShapes
  written_specs no_specs = no_specs
  written_specs (more_specs p s rest) = more_specs p (written_spec s) (written_specs rest)

  pub written_spec : SpecShape → SpecShape
  written_spec (word k) = word k
  written_spec (struct t ds) = struct t (written_members ds)
  written_spec (enum t es) = enum t (written_rows es)

  pub written_members : MaybeDecls → MaybeDecls
  written_members no_members = no_members
  written_members (members ds) = members (written_lines ds)

  pub written_lines : DeclShapes → DeclShapes
  written_lines no_decls = no_decls
  written_lines (more_decls (decl p specs names) rest) = more_decls (decl p (written_specs specs) (written_fields names)) (written_lines rest)

  pub written_fields : DeclaratorShapes → DeclaratorShapes
  written_fields no_declarators = no_declarators
  written_fields (more_declarators d rest) = more_declarators (written_field d) (written_fields rest)

  pub written_field : DeclaratorShape → DeclaratorShape
  written_field (declarator stars x (arrays ls) i) = declarator stars x (arrays (written_lengths ls)) (bare_maybe_init i)
  written_field (declarator stars x (function ps) i) = bare_name (declarator stars x (function ps) i)

  pub written_rows : MaybeEnumers → MaybeEnumers
  written_rows no_rows = no_rows
  written_rows (rows es) = rows (written_enumers es)

  pub written_enumers : EnumerShapes → EnumerShapes
  written_enumers no_enumers = no_enumers
  written_enumers (more_enumers x v rest) = more_enumers x (written_maybe v) (written_enumers rest)

-- ---- declarations

abbrev mutual
  pub written_init : InitShape → InitShape
  written_init (one a) = one (written_node a)
  written_init (listed p is last) = listed p (written_inits is) last

  pub written_inits : InitShapes → InitShapes
  written_inits no_inits = no_inits
  written_inits (more_inits i rest) = more_inits (written_init i) (written_inits rest)

abbrev pub written_maybe_init : MaybeInit → MaybeInit
written_maybe_init no_init = no_init
written_maybe_init (one_init i) = one_init (written_init i)

abbrev pub written_param : DeclShape → DeclShape
written_param (decl p specs (more_declarators (declarator stars x (arrays ls) i) no_declarators)) =
    decl p (written_specs specs) (more_declarators (declarator stars x (arrays (written_lengths ls)) (bare_maybe_init i)) no_declarators)
written_param d = bare_decl d

abbrev pub written_param_list : DeclShapes → DeclShapes
written_param_list no_decls = no_decls
written_param_list (more_decls d rest) = more_decls (written_param d) (written_param_list rest)

abbrev pub written_params : ParamsShape → ParamsShape
written_params empty = empty
written_params void = void
written_params (params ds) = params (written_param_list ds)

abbrev pub written_name : DeclaratorShape → DeclaratorShape
written_name (declarator stars x (arrays ls) i) = declarator stars x (arrays (written_lengths ls)) (written_maybe_init i)
written_name (declarator stars x (function ps) i) = declarator stars x (function (written_params ps)) (bare_maybe_init i)

abbrev pub written_names : DeclaratorShapes → DeclaratorShapes
written_names no_declarators = no_declarators
written_names (more_declarators d rest) = more_declarators (written_name d) (written_names rest)

abbrev pub written_decl : DeclShape → DeclShape
written_decl (decl p specs names) = decl p (written_specs specs) (written_names names)

abbrev pub written_decls : DeclShapes → DeclShapes
written_decls no_decls = no_decls
written_decls (more_decls d rest) = more_decls (written_decl d) (written_decls rest)

-- ---- statements

abbrev pub written_label : LabelShape → LabelShape
written_label (case p a) = case p (written_node a)
written_label (default p) = default p

abbrev mutual
  pub written_stmt : StmtShape → StmtShape
  written_stmt (stmt p marks q f) = stmt p marks q (written_body f)

  pub written_body : FormShape → FormShape
  written_body (compound c) = compound (written_compound c)
  written_body (simply e) = simply (written_maybe e)
  written_body (when e a) = when (written_node e) (written_stmt a)
  written_body (either e a b) = either (written_node e) (written_stmt a) (written_stmt b)
  written_body (while e a) = while (written_node e) (written_stmt a)
  written_body (do_while a e) = do_while (written_stmt a) (written_node e)
  written_body (for e f g a) = for (written_maybe e) (written_maybe f) (written_maybe g) (written_stmt a)
  written_body (switch e items) = switch (written_node e) (written_items items)
  written_body break = break
  written_body continue = continue
  written_body (return e) = return (written_maybe e)

  pub written_compound : CompoundShape → CompoundShape
  written_compound (braces p ds items) = braces p (written_decls ds) (written_items items)

  pub written_items : ItemShapes → ItemShapes
  written_items no_items = no_items
  written_items (more_items labels a rest) = more_items (map written_label labels) (written_stmt a) (written_items rest)

-- ---- units

abbrev pub written_external : ExternalShape → ExternalShape
written_external (defined specs (declarator stars x (function ps) i) marks c) = defined (written_specs specs) (written_name (declarator stars x (function ps) i)) marks (written_compound c)
written_external (defined specs (declarator stars x (arrays ls) i) marks c) = bare_external (defined specs (declarator stars x (arrays ls) i) marks c)
written_external (declared d) = declared (written_decl d)

abbrev pub written_unit : UnitShape → UnitShape
written_unit u = record u { externals = map written_external u.externals }
