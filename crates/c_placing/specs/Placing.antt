-- A tree at given tokens: the tree as it is, but with each place that of its own token.
use Rattle.std.specs.Prelude.{◌≡◌, List, [], ◌∷◌, Option, Some, None}
use Rattle.c_syntax.specs.declared.token.Token.{Token}
use Rattle.c_syntax.specs.declared.tree.Named.{Named}
use Rattle.c_syntax.specs.declared.tree.ProbeMark.{ProbeMark}
use Rattle.c_syntax.specs.declared.tree.ProgramLine.{ProgramLine}
use Rattle.c_syntax.specs.declared.tree.Star.{Star}
use Rattle.c_syntax.specs.Forms.{Form, nothing, is, at, starts, seq, kinds_of, place, last_place}
use Rattle.c_syntax.specs.Grammar.{named_form, maybe_named_form, consts_form, stars_form, node_form, led_nodes_form, maybe_node_form, type_form, specs_form, spec_form, value_form, decl_form, decls_form, declarator_form, behind_form, param_form, init_form, marks_form, labels_form, stmt_form, maybe_line_form, external_form, tokens_of, Placed}
use Rattle.c_syntax.specs.Shaped.{ShapedUnit}
use Rattle.c_syntax.specs.Shape.{NodeShape, node, ExprShape, leaf, paren, call, prefix, size_of_type, cast, suffix, two, choose, probe, SuffixShape, index, field, behind, simple, select, NodeShapes, no_nodes, more_nodes, MaybeNode, no_node, one_node, LengthShapes, no_lengths, more_lengths, TypeShape, type_name, SpecShapes, no_specs, more_specs, SpecShape, word, struct, enum, MaybeDecls, no_members, members, MaybeEnumers, no_rows, rows, EnumerShapes, no_enumers, more_enumers, DeclShape, decl, DeclShapes, no_decls, more_decls, DeclaratorShape, declarator, DeclaratorShapes, no_declarators, more_declarators, DeclFormShape, arrays, function, ParamsShape, empty, void, params, MaybeInit, no_init, one_init, InitShape, one, listed, InitShapes, no_inits, more_inits, LabelShape, case, default, StmtShape, stmt, FormShape, compound, simply, when, either, while, do_while, for, switch, break, continue, return, CompoundShape, braces, ItemShapes, no_items, more_items, ExternalShape, defined, declared, UnitShape}

-- behind the first token
abbrev pub past : List Token → List Token
past [] = []
past (t ∷ ts) = ts

-- behind what is written so
abbrev pub after : Form → List Token → List Token
after nothing ts = ts
after (is k) ts = past ts
after (at p k) ts = past ts
after (starts p f) ts = after f ts
after (seq f g) ts = after g (after f ts)

abbrev pub at_form : List Token → Form → Form
at_form ts nothing = nothing
at_form ts (is k) = is k
at_form ts (at p k) = at (place ts) k
at_form ts (starts p f) = starts (place ts) (at_form ts f)
at_form ts (seq f g) = seq (at_form ts f) (at_form (after f ts) g)

-- ---- names and stars

abbrev pub at_probe : List Token → Option ProbeMark → Option ProbeMark
at_probe ts None = None
at_probe ts (Some d) = Some (record d { pos = place ts })

abbrev pub name_at : List Token → Option ProbeMark → List Token
name_at ts None = ts
name_at ts (Some d) = past (past (past (past ts)))

abbrev pub at_named : List Token → Named → Named
at_named ts n = record n { pos = place (name_at ts n.probe); probe = at_probe ts n.probe }

abbrev pub at_tag : List Token → Option Named → Option Named
at_tag ts None = None
at_tag ts (Some n) = Some (at_named ts n)

abbrev pub at_stars : List Token → List Star → List Star
at_stars ts [] = []
at_stars ts (s ∷ rest) = record s { pos = place ts } ∷ at_stars (after (consts_form s.consts) (past ts)) rest

-- ---- expressions, types and declarations

-- from its operator on, or its first token, where it has none
abbrev pub operator_at : List Token → ExprShape → List Token
operator_at ts (suffix a s) = after (node_form a) ts
operator_at ts (two u a b) = after (node_form a) ts
operator_at ts (choose a b c) = after (node_form a) ts
operator_at ts f = ts

abbrev mutual
  pub at_node : List Token → NodeShape → NodeShape
  at_node ts (node p o n f) = node (place ts) (place (operator_at ts f)) n (at_expr ts f)

  pub at_expr : List Token → ExprShape → ExprShape
  at_expr ts (leaf l) = leaf l
  at_expr ts (paren a) = paren (at_node (past ts) a)
  at_expr ts (call x args) = call x (at_nodes (past (past ts)) args)
  at_expr ts (prefix u a) = prefix u (at_node (past ts) a)
  at_expr ts (size_of_type t) = size_of_type (at_type (past (past ts)) t)
  at_expr ts (cast t a) = cast (at_type (past ts) t) (at_node (past (after (type_form t) (past ts))) a)
  at_expr ts (suffix a s) = suffix (at_node ts a) (at_suffix (after (node_form a) ts) s)
  at_expr ts (two u a b) = two u (at_node ts a) (at_node (past (after (node_form a) ts)) b)
  at_expr ts (choose a b c) =
      let t = past (after (node_form a) ts) in
      choose (at_node ts a) (at_node t b) (at_node (past (after (node_form b) t)) c)
  at_expr ts (probe (simple u x) a) = probe (simple u x) (at_node (past (past (past (past ts)))) a)
  at_expr ts (probe (select x cs) a) =
      let t = past (past (past ts)) in
      probe (select x (at_led t cs)) (at_node (past (after (led_nodes_form cs) t)) a)

  pub at_suffix : List Token → SuffixShape → SuffixShape
  at_suffix ts (index b) = index (at_node (past ts) b)
  at_suffix ts (field h x p) = field h x (place (past ts))
  at_suffix ts (behind s) = behind s

  pub at_nodes : List Token → NodeShapes → NodeShapes
  at_nodes ts no_nodes = no_nodes
  at_nodes ts (more_nodes a rest) = more_nodes (at_node ts a) (at_led (after (node_form a) ts) rest)

  -- each with a comma in front
  pub at_led : List Token → NodeShapes → NodeShapes
  at_led ts no_nodes = no_nodes
  at_led ts (more_nodes a rest) = more_nodes (at_node (past ts) a) (at_led (after (node_form a) (past ts)) rest)

  pub at_maybe : List Token → MaybeNode → MaybeNode
  at_maybe ts no_node = no_node
  at_maybe ts (one_node a) = one_node (at_node ts a)

  pub at_lengths : List Token → LengthShapes → LengthShapes
  at_lengths ts no_lengths = no_lengths
  at_lengths ts (more_lengths l rest) = more_lengths (at_maybe (past ts) l) (at_lengths (past (after (maybe_node_form l) (past ts))) rest)

  pub at_type : List Token → TypeShape → TypeShape
  at_type ts (type_name p specs stars ls) =
      let t = after (specs_form specs) ts in
      type_name (place ts) (at_specs ts specs) (at_stars t stars) (at_lengths (after (stars_form stars) t) ls)

  pub at_specs : List Token → SpecShapes → SpecShapes
  at_specs ts no_specs = no_specs
  at_specs ts (more_specs p s rest) = more_specs (place ts) (at_spec ts s) (at_specs (after (spec_form s) ts) rest)

  pub at_spec : List Token → SpecShape → SpecShape
  at_spec ts (word x) = word x
  at_spec ts (struct tag ds) = struct (at_tag (past ts) tag) (at_members (after (maybe_named_form tag) (past ts)) ds)
  at_spec ts (enum tag es) = enum (at_tag (past ts) tag) (at_rows (after (maybe_named_form tag) (past ts)) es)

  pub at_members : List Token → MaybeDecls → MaybeDecls
  at_members ts no_members = no_members
  at_members ts (members ds) = members (at_decls (past ts) ds)

  pub at_rows : List Token → MaybeEnumers → MaybeEnumers
  at_rows ts no_rows = no_rows
  at_rows ts (rows es) = rows (at_enumers (past ts) es)

  pub at_enumers : List Token → EnumerShapes → EnumerShapes
  at_enumers ts no_enumers = no_enumers
  at_enumers ts (more_enumers n v rest) =
      let t = after (named_form n) ts in
      more_enumers (at_named ts n) (at_value t v) (at_led_enumers (after (value_form v) t) rest)

  pub at_led_enumers : List Token → EnumerShapes → EnumerShapes
  at_led_enumers ts no_enumers = no_enumers
  at_led_enumers ts (more_enumers n v rest) =
      let t = after (named_form n) (past ts) in
      more_enumers (at_named (past ts) n) (at_value t v) (at_led_enumers (after (value_form v) t) rest)

  pub at_value : List Token → MaybeNode → MaybeNode
  at_value ts no_node = no_node
  at_value ts (one_node a) = one_node (at_node (past ts) a)

  pub at_decls : List Token → DeclShapes → DeclShapes
  at_decls ts no_decls = no_decls
  at_decls ts (more_decls d rest) = more_decls (at_decl ts d) (at_decls (after (decl_form d) ts) rest)

  pub at_decl : List Token → DeclShape → DeclShape
  at_decl ts (decl p specs ds) = decl (place ts) (at_specs ts specs) (at_names (after (specs_form specs) ts) ds)

  pub at_names : List Token → DeclaratorShapes → DeclaratorShapes
  at_names ts no_declarators = no_declarators
  at_names ts (more_declarators d rest) = more_declarators (at_name ts d) (at_led_names (after (declarator_form d) ts) rest)

  pub at_led_names : List Token → DeclaratorShapes → DeclaratorShapes
  at_led_names ts no_declarators = no_declarators
  at_led_names ts (more_declarators d rest) = more_declarators (at_name (past ts) d) (at_led_names (after (declarator_form d) (past ts)) rest)

  pub at_name : List Token → DeclaratorShape → DeclaratorShape
  at_name ts (declarator stars n f i) =
      let t = after (stars_form stars) ts in
      let u = after (maybe_named_form n) t in
      declarator (at_stars ts stars) (at_tag t n) (at_behind u f) (at_maybe_init (after (behind_form f) u) i)

  pub at_behind : List Token → DeclFormShape → DeclFormShape
  at_behind ts (arrays ls) = arrays (at_lengths ts ls)
  at_behind ts (function ps) = function (at_params (past ts) ps)

  pub at_params : List Token → ParamsShape → ParamsShape
  at_params ts empty = empty
  at_params ts void = void
  at_params ts (params ds) = params (at_param_list ts ds)

  pub at_param_list : List Token → DeclShapes → DeclShapes
  at_param_list ts no_decls = no_decls
  at_param_list ts (more_decls d rest) = more_decls (at_decl ts d) (at_led_params (after (param_form d) ts) rest)

  pub at_led_params : List Token → DeclShapes → DeclShapes
  at_led_params ts no_decls = no_decls
  at_led_params ts (more_decls d rest) = more_decls (at_decl (past ts) d) (at_led_params (after (param_form d) (past ts)) rest)

  pub at_maybe_init : List Token → MaybeInit → MaybeInit
  at_maybe_init ts no_init = no_init
  at_maybe_init ts (one_init i) = one_init (at_init (past ts) i)

  pub at_init : List Token → InitShape → InitShape
  at_init ts (one a) = one (at_node ts a)
  at_init ts (listed p list last) = listed (place ts) (at_inits (past ts) list) last

  pub at_inits : List Token → InitShapes → InitShapes
  at_inits ts no_inits = no_inits
  at_inits ts (more_inits i rest) = more_inits (at_init ts i) (at_led_inits (after (init_form i) ts) rest)

  pub at_led_inits : List Token → InitShapes → InitShapes
  at_led_inits ts no_inits = no_inits
  at_led_inits ts (more_inits i rest) = more_inits (at_init (past ts) i) (at_led_inits (after (init_form i) (past ts)) rest)

-- ---- statements

abbrev pub at_labels : List Token → List LabelShape → List LabelShape
at_labels ts [] = []
at_labels ts (case p e ∷ rest) = case (place ts) (at_node (past ts) e) ∷ at_labels (past (after (node_form e) (past ts))) rest
at_labels ts (default p ∷ rest) = default (place ts) ∷ at_labels (past (past ts)) rest

abbrev pub at_marks : List Token → List ProbeMark → List ProbeMark
at_marks ts [] = []
at_marks ts (b ∷ rest) = record b { pos = place ts } ∷ at_marks (past (past (past (past (past ts))))) rest

abbrev mutual
  pub at_stmt : List Token → StmtShape → StmtShape
  at_stmt ts (stmt p marks q f) = let t = after (marks_form marks) ts in stmt (place ts) (at_marks ts marks) (place t) (at_body t f)

  pub at_body : List Token → FormShape → FormShape
  at_body ts (compound c) = compound (at_compound ts c)
  at_body ts (simply e) = simply (at_maybe ts e)
  at_body ts (when e s) = let t = past (past ts) in when (at_node t e) (at_stmt (past (after (node_form e) t)) s)
  at_body ts (either e s r) =
      let t = past (past ts) in
      let u = past (after (node_form e) t) in
      either (at_node t e) (at_stmt u s) (at_stmt (past (after (stmt_form s) u)) r)
  at_body ts (while e s) = let t = past (past ts) in while (at_node t e) (at_stmt (past (after (node_form e) t)) s)
  at_body ts (do_while s e) = do_while (at_stmt (past ts) s) (at_node (past (past (after (stmt_form s) (past ts)))) e)
  at_body ts (for a b c s) =
      let t = past (past ts) in
      let u = past (after (maybe_node_form a) t) in
      let v = past (after (maybe_node_form b) u) in
      for (at_maybe t a) (at_maybe u b) (at_maybe v c) (at_stmt (past (after (maybe_node_form c) v)) s)
  at_body ts (switch e items) = let t = past (past ts) in switch (at_node t e) (at_items (past (past (after (node_form e) t))) items)
  at_body ts break = break
  at_body ts continue = continue
  at_body ts (return e) = return (at_maybe (past ts) e)

  pub at_compound : List Token → CompoundShape → CompoundShape
  at_compound ts (braces p ds items) = braces (place ts) (at_decls (past ts) ds) (at_items (after (decls_form ds) (past ts)) items)

  pub at_items : List Token → ItemShapes → ItemShapes
  at_items ts no_items = no_items
  at_items ts (more_items labels s rest) =
      let t = after (labels_form labels) ts in
      more_items (at_labels ts labels) (at_stmt t s) (at_items (after (stmt_form s) t) rest)

-- ---- units

abbrev pub at_external : List Token → ExternalShape → ExternalShape
at_external ts (defined specs d marks c) =
    let t = after (specs_form specs) ts in
    let u = after (declarator_form d) t in
    defined (at_specs ts specs) (at_name t d) (at_marks u marks) (at_compound (after (marks_form marks) u) c)
at_external ts (declared d) = declared (at_decl ts d)

abbrev pub at_externals : List Token → List ExternalShape → List ExternalShape
at_externals ts [] = []
at_externals ts (e ∷ rest) = at_external ts e ∷ at_externals (after (external_form e) ts) rest

abbrev pub at_line : List Token → Option ProgramLine → Option ProgramLine
at_line ts None = None
at_line ts (Some l) = Some (record l { pos = place ts })

abbrev pub at_unit : List Token → UnitShape → UnitShape
at_unit ts u = record {
  pos = place ts;
  line = at_line ts u.line;
  externals = at_externals (after (maybe_line_form u.line) ts) u.externals;
  last = last_place ts;
}

-- each unit can be placed on tokens of its kinds
abbrev pub UnitIsPlaced : Type 0
UnitIsPlaced = (ts : List Token) (u : UnitShape) → kinds_of ts ≡ tokens_of u → Placed (at_unit ts u) ts

-- and the grammar allows it there, where it allows it at all
abbrev pub PlacedIsShaped : Type 0
PlacedIsShaped = (ts : List Token) (u : UnitShape) → ShapedUnit u → ShapedUnit (at_unit ts u)

-- a unit's tokens have the kinds that it is written with
abbrev pub PlacedHasKinds : Type 0
PlacedHasKinds = (u : UnitShape) (ts : List Token) → Placed u ts → kinds_of ts ≡ tokens_of u
