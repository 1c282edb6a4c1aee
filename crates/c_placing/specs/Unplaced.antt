-- A tree without its places: each is line 1, column 1. Two trees are equal but for their places where these are equal.
use Rattle.std.specs.Prelude.{◌≡◌, List, map, option_map}
use Rattle.c_syntax.specs.declared.token.Token.{Token}
use Rattle.c_syntax.specs.declared.tree.Named.{Named}
use Rattle.c_syntax.specs.declared.tree.ProbeMark.{ProbeMark}
use Rattle.c_syntax.specs.declared.tree.ProgramLine.{ProgramLine}
use Rattle.c_syntax.specs.declared.tree.Star.{Star}
use Rattle.c_syntax.specs.Start.{start}
use Rattle.c_syntax.specs.Shape.{NodeShape, node, ExprShape, leaf, paren, call, prefix, size_of_type, cast, suffix, two, choose, probe, SuffixShape, index, field, behind, ProbeShape, simple, select, NodeShapes, no_nodes, more_nodes, MaybeNode, no_node, one_node, LengthShapes, no_lengths, more_lengths, TypeShape, type_name, SpecShapes, no_specs, more_specs, SpecShape, word, struct, enum, MaybeDecls, no_members, members, MaybeEnumers, no_rows, rows, EnumerShapes, no_enumers, more_enumers, DeclShape, decl, DeclShapes, no_decls, more_decls, DeclaratorShape, declarator, DeclaratorShapes, no_declarators, more_declarators, DeclFormShape, arrays, function, ParamsShape, empty, void, params, MaybeInit, no_init, one_init, InitShape, one, listed, InitShapes, no_inits, more_inits, LabelShape, case, default, StmtShape, stmt, FormShape, compound, simply, when, either, while, do_while, for, switch, break, continue, return, CompoundShape, braces, ItemShapes, no_items, more_items, ExternalShape, defined, declared, UnitShape}
use Rattle.c_placing.specs.Placing.{at_unit}

abbrev pub unplaced_mark : ProbeMark → ProbeMark
unplaced_mark d = record d { pos = start }

abbrev pub unplaced_named : Named → Named
unplaced_named n = record n { pos = start; probe = option_map unplaced_mark n.probe }

abbrev pub unplaced_star : Star → Star
unplaced_star s = record s { pos = start }

abbrev mutual
  pub unplaced_node : NodeShape → NodeShape
  unplaced_node (node p o n f) = node start start n (unplaced_form f)

  pub unplaced_form : ExprShape → ExprShape
  unplaced_form (leaf l) = leaf l
  unplaced_form (paren a) = paren (unplaced_node a)
  unplaced_form (call x args) = call x (unplaced_nodes args)
  unplaced_form (prefix u a) = prefix u (unplaced_node a)
  unplaced_form (size_of_type t) = size_of_type (unplaced_type t)
  unplaced_form (cast t a) = cast (unplaced_type t) (unplaced_node a)
  unplaced_form (suffix a s) = suffix (unplaced_node a) (unplaced_suffix s)
  unplaced_form (two u a b) = two u (unplaced_node a) (unplaced_node b)
  unplaced_form (choose a b c) = choose (unplaced_node a) (unplaced_node b) (unplaced_node c)
  unplaced_form (probe u a) = probe (unplaced_probe u) (unplaced_node a)

  pub unplaced_suffix : SuffixShape → SuffixShape
  unplaced_suffix (index b) = index (unplaced_node b)
  unplaced_suffix (field h x q) = field h x start
  unplaced_suffix (behind u) = behind u

  pub unplaced_probe : ProbeShape → ProbeShape
  unplaced_probe (simple u x) = simple u x
  unplaced_probe (select x cs) = select x (unplaced_nodes cs)

  pub unplaced_nodes : NodeShapes → NodeShapes
  unplaced_nodes no_nodes = no_nodes
  unplaced_nodes (more_nodes a rest) = more_nodes (unplaced_node a) (unplaced_nodes rest)

  pub unplaced_maybe : MaybeNode → MaybeNode
  unplaced_maybe no_node = no_node
  unplaced_maybe (one_node a) = one_node (unplaced_node a)

  pub unplaced_lengths : LengthShapes → LengthShapes
  unplaced_lengths no_lengths = no_lengths
  unplaced_lengths (more_lengths l rest) = more_lengths (unplaced_maybe l) (unplaced_lengths rest)

  pub unplaced_type : TypeShape → TypeShape
  unplaced_type (type_name p specs stars ls) = type_name start (unplaced_specs specs) (map unplaced_star stars) (unplaced_lengths ls)

  pub unplaced_specs : SpecShapes → SpecShapes
  unplaced_specs no_specs = no_specs
  unplaced_specs (more_specs p s rest) = more_specs start (unplaced_spec s) (unplaced_specs rest)

  pub unplaced_spec : SpecShape → SpecShape
  unplaced_spec (word k) = word k
  unplaced_spec (struct t ds) = struct (option_map unplaced_named t) (unplaced_members ds)
  unplaced_spec (enum t es) = enum (option_map unplaced_named t) (unplaced_rows es)

  pub unplaced_members : MaybeDecls → MaybeDecls
  unplaced_members no_members = no_members
  unplaced_members (members ds) = members (unplaced_decls ds)

  pub unplaced_rows : MaybeEnumers → MaybeEnumers
  unplaced_rows no_rows = no_rows
  unplaced_rows (rows es) = rows (unplaced_enumers es)

  pub unplaced_enumers : EnumerShapes → EnumerShapes
  unplaced_enumers no_enumers = no_enumers
  unplaced_enumers (more_enumers x v rest) = more_enumers (unplaced_named x) (unplaced_maybe v) (unplaced_enumers rest)

  pub unplaced_decl : DeclShape → DeclShape
  unplaced_decl (decl p specs names) = decl start (unplaced_specs specs) (unplaced_names names)

  pub unplaced_decls : DeclShapes → DeclShapes
  unplaced_decls no_decls = no_decls
  unplaced_decls (more_decls d rest) = more_decls (unplaced_decl d) (unplaced_decls rest)

  pub unplaced_name : DeclaratorShape → DeclaratorShape
  unplaced_name (declarator stars x f i) = declarator (map unplaced_star stars) (option_map unplaced_named x) (unplaced_behind f) (unplaced_maybe_init i)

  pub unplaced_names : DeclaratorShapes → DeclaratorShapes
  unplaced_names no_declarators = no_declarators
  unplaced_names (more_declarators d rest) = more_declarators (unplaced_name d) (unplaced_names rest)

  pub unplaced_behind : DeclFormShape → DeclFormShape
  unplaced_behind (arrays ls) = arrays (unplaced_lengths ls)
  unplaced_behind (function ps) = function (unplaced_params ps)

  pub unplaced_params : ParamsShape → ParamsShape
  unplaced_params empty = empty
  unplaced_params void = void
  unplaced_params (params ds) = params (unplaced_decls ds)

  pub unplaced_maybe_init : MaybeInit → MaybeInit
  unplaced_maybe_init no_init = no_init
  unplaced_maybe_init (one_init i) = one_init (unplaced_init i)

  pub unplaced_init : InitShape → InitShape
  unplaced_init (one a) = one (unplaced_node a)
  unplaced_init (listed p list last) = listed start (unplaced_inits list) last

  pub unplaced_inits : InitShapes → InitShapes
  unplaced_inits no_inits = no_inits
  unplaced_inits (more_inits i rest) = more_inits (unplaced_init i) (unplaced_inits rest)

-- ---- statements

abbrev pub unplaced_label : LabelShape → LabelShape
unplaced_label (case p a) = case start (unplaced_node a)
unplaced_label (default p) = default start

abbrev mutual
  pub unplaced_stmt : StmtShape → StmtShape
  unplaced_stmt (stmt p marks q f) = stmt start (map unplaced_mark marks) start (unplaced_body f)

  pub unplaced_body : FormShape → FormShape
  unplaced_body (compound c) = compound (unplaced_compound c)
  unplaced_body (simply e) = simply (unplaced_maybe e)
  unplaced_body (when e a) = when (unplaced_node e) (unplaced_stmt a)
  unplaced_body (either e a b) = either (unplaced_node e) (unplaced_stmt a) (unplaced_stmt b)
  unplaced_body (while e a) = while (unplaced_node e) (unplaced_stmt a)
  unplaced_body (do_while a e) = do_while (unplaced_stmt a) (unplaced_node e)
  unplaced_body (for e f g a) = for (unplaced_maybe e) (unplaced_maybe f) (unplaced_maybe g) (unplaced_stmt a)
  unplaced_body (switch e items) = switch (unplaced_node e) (unplaced_items items)
  unplaced_body break = break
  unplaced_body continue = continue
  unplaced_body (return e) = return (unplaced_maybe e)

  pub unplaced_compound : CompoundShape → CompoundShape
  unplaced_compound (braces p ds items) = braces start (unplaced_decls ds) (unplaced_items items)

  pub unplaced_items : ItemShapes → ItemShapes
  unplaced_items no_items = no_items
  unplaced_items (more_items labels a rest) = more_items (map unplaced_label labels) (unplaced_stmt a) (unplaced_items rest)

-- ---- units

abbrev pub unplaced_external : ExternalShape → ExternalShape
unplaced_external (defined specs d marks c) = defined (unplaced_specs specs) (unplaced_name d) (map unplaced_mark marks) (unplaced_compound c)
unplaced_external (declared d) = declared (unplaced_decl d)

abbrev pub unplaced_line : ProgramLine → ProgramLine
unplaced_line l = record l { pos = start }

abbrev pub unplaced : UnitShape → UnitShape
unplaced u = record { pos = start; line = option_map unplaced_line u.line; externals = map unplaced_external u.externals; last = start }

-- ---- equal but for places

abbrev pub EqualButForPlaces : UnitShape → UnitShape → Type 0
EqualButForPlaces u v = unplaced u ≡ unplaced v

-- a unit at tokens is the unit but for places
abbrev pub PlacedIsEqual : Type 0
PlacedIsEqual = (ts : List Token) (u : UnitShape) → EqualButForPlaces (at_unit ts u) u
