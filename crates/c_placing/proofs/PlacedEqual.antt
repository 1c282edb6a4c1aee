-- A tree at tokens is the tree but for its places.
use Rattle.std.proofs.Common.{◌≡◌, List, [], ◌∷◌, map, Option, Some, None, refl, ap, ap₂, ◌∙◌}
use Rattle.std.specs.Prelude.{option_map}
use Rattle.c_syntax.specs.declared.token.Token.{Token}
use Rattle.c_syntax.specs.declared.tree.Named.{Named}
use Rattle.c_syntax.specs.declared.tree.ProbeMark.{ProbeMark}
use Rattle.c_syntax.specs.declared.tree.ProgramLine.{ProgramLine}
use Rattle.c_syntax.specs.declared.tree.Star.{Star}
use Rattle.c_syntax.specs.Start.{start}
use Rattle.c_syntax.specs.Grammar.{consts_form, named_form, value_form}
use Rattle.c_syntax.specs.Shape.{NodeShape, node, ExprShape, leaf, paren, call, prefix, size_of_type, cast, suffix, two, choose, probe, SuffixShape, index, field, behind, simple, select, NodeShapes, no_nodes, more_nodes, MaybeNode, no_node, one_node, LengthShapes, no_lengths, more_lengths, TypeShape, type_name, SpecShapes, no_specs, more_specs, SpecShape, word, struct, enum, MaybeDecls, no_members, members, MaybeEnumers, no_rows, rows, EnumerShapes, no_enumers, more_enumers, DeclShape, decl, DeclShapes, no_decls, more_decls, DeclaratorShape, declarator, DeclaratorShapes, no_declarators, more_declarators, DeclFormShape, arrays, function, ParamsShape, empty, void, params, MaybeInit, no_init, one_init, InitShape, one, listed, InitShapes, no_inits, more_inits, LabelShape, case, default, StmtShape, stmt, FormShape, compound, simply, when, either, while, do_while, for, switch, break, continue, return, CompoundShape, braces, ItemShapes, no_items, more_items, ExternalShape, defined, declared, UnitShape}
use Rattle.c_placing.specs.Placing.{past, after, at_probe, at_named, at_tag, at_stars, at_node, at_expr, at_suffix, at_nodes, at_led, at_maybe, at_lengths, at_type, at_specs, at_spec, at_members, at_rows, at_enumers, at_led_enumers, at_value, at_decls, at_decl, at_names, at_led_names, at_name, at_behind, at_params, at_param_list, at_led_params, at_maybe_init, at_init, at_inits, at_led_inits, at_labels, at_marks, at_stmt, at_body, at_compound, at_items, at_external, at_externals, at_line, at_unit}
use Rattle.c_placing.specs.Unplaced.{unplaced_mark, unplaced_named, unplaced_star, unplaced_node, unplaced_form, unplaced_suffix, unplaced_nodes, unplaced_maybe, unplaced_lengths, unplaced_type, unplaced_specs, unplaced_spec, unplaced_members, unplaced_rows, unplaced_enumers, unplaced_decl, unplaced_decls, unplaced_name, unplaced_names, unplaced_behind, unplaced_params, unplaced_maybe_init, unplaced_init, unplaced_inits, unplaced_label, unplaced_stmt, unplaced_body, unplaced_compound, unplaced_items, unplaced_external, unplaced_line, unplaced}

three : {A B C D : Type 0} (h : A → B → C → D) {a b : A} {c d : B} {e f : C} → a ≡ b → c ≡ d → e ≡ f → h a c e ≡ h b d f
three h {a} {b} {c} {d} {e} {f} p q r = ap (λ x. h x c e) p ∙ ap₂ (h b) q r

four : {A B C D E : Type 0} (k : A → B → C → D → E) {a b : A} {c d : B} {e f : C} {g h : D} → a ≡ b → c ≡ d → e ≡ f → g ≡ h → k a c e g ≡ k b d f h
four k {a} {b} {c} {d} {e} {f} {g} {h} p q r s = ap (λ x. k x c e g) p ∙ three (k b) q r s

probe_equal : (ts : List Token) (o : Option ProbeMark) → option_map unplaced_mark (at_probe ts o) ≡ option_map unplaced_mark o
probe_equal ts None = refl
probe_equal ts (Some d) = refl

named_equal : (ts : List Token) (n : Named) → unplaced_named (at_named ts n) ≡ unplaced_named n
named_equal ts n = ap (λ o. record n { pos = start; probe = o }) (probe_equal ts n.probe)

tag_equal : (ts : List Token) (n : Option Named) → option_map unplaced_named (at_tag ts n) ≡ option_map unplaced_named n
tag_equal ts None = refl
tag_equal ts (Some n) = ap (λ x. Some x) (named_equal ts n)

stars_equal : (ts : List Token) (s : List Star) → map unplaced_star (at_stars ts s) ≡ map unplaced_star s
stars_equal ts [] = refl
stars_equal ts (s ∷ rest) = ap (λ x. unplaced_star s ∷ x) (stars_equal (after (consts_form s.consts) (past ts)) rest)

marks_equal : (ts : List Token) (ms : List ProbeMark) → map unplaced_mark (at_marks ts ms) ≡ map unplaced_mark ms
marks_equal ts [] = refl
marks_equal ts (b ∷ rest) = ap (λ x. unplaced_mark b ∷ x) (marks_equal (past (past (past (past (past ts))))) rest)

mutual
  node_equal : (ts : List Token) (a : NodeShape) → unplaced_node (at_node ts a) ≡ unplaced_node a
  node_equal ts (node p o n f) = ap (node start start n) (form_equal ts f)

  form_equal : (ts : List Token) (f : ExprShape) → unplaced_form (at_expr ts f) ≡ unplaced_form f
  form_equal ts (leaf l) = refl
  form_equal ts (paren a) = ap paren (node_equal _ a)
  form_equal ts (call x args) = ap (call x) (nodes_equal _ args)
  form_equal ts (prefix u a) = ap (prefix u) (node_equal _ a)
  form_equal ts (size_of_type t) = ap size_of_type (type_equal _ t)
  form_equal ts (cast t a) = ap₂ cast (type_equal _ t) (node_equal _ a)
  form_equal ts (suffix a s) = ap₂ suffix (node_equal _ a) (suffix_equal _ s)
  form_equal ts (two u a b) = ap₂ (two u) (node_equal _ a) (node_equal _ b)
  form_equal ts (choose a b c) = three choose (node_equal _ a) (node_equal _ b) (node_equal _ c)
  form_equal ts (probe (simple u x) a) = ap (probe (simple u x)) (node_equal _ a)
  form_equal ts (probe (select x cs) a) = ap₂ (λ y z. probe (select x y) z) (led_equal _ cs) (node_equal _ a)

  suffix_equal : (ts : List Token) (s : SuffixShape) → unplaced_suffix (at_suffix ts s) ≡ unplaced_suffix s
  suffix_equal ts (index b) = ap index (node_equal _ b)
  suffix_equal ts (field h x p) = refl
  suffix_equal ts (behind s) = refl

  nodes_equal : (ts : List Token) (es : NodeShapes) → unplaced_nodes (at_nodes ts es) ≡ unplaced_nodes es
  nodes_equal ts no_nodes = refl
  nodes_equal ts (more_nodes a rest) = ap₂ more_nodes (node_equal _ a) (led_equal _ rest)

  led_equal : (ts : List Token) (es : NodeShapes) → unplaced_nodes (at_led ts es) ≡ unplaced_nodes es
  led_equal ts no_nodes = refl
  led_equal ts (more_nodes a rest) = ap₂ more_nodes (node_equal _ a) (led_equal _ rest)

  maybe_equal : (ts : List Token) (e : MaybeNode) → unplaced_maybe (at_maybe ts e) ≡ unplaced_maybe e
  maybe_equal ts no_node = refl
  maybe_equal ts (one_node a) = ap one_node (node_equal _ a)

  value_equal : (ts : List Token) (e : MaybeNode) → unplaced_maybe (at_value ts e) ≡ unplaced_maybe e
  value_equal ts no_node = refl
  value_equal ts (one_node a) = ap one_node (node_equal _ a)

  lengths_equal : (ts : List Token) (ls : LengthShapes) → unplaced_lengths (at_lengths ts ls) ≡ unplaced_lengths ls
  lengths_equal ts no_lengths = refl
  lengths_equal ts (more_lengths l rest) = ap₂ more_lengths (maybe_equal _ l) (lengths_equal _ rest)

  type_equal : (ts : List Token) (t : TypeShape) → unplaced_type (at_type ts t) ≡ unplaced_type t
  type_equal ts (type_name p specs stars ls) = three (type_name start) (specs_equal _ specs) (stars_equal _ stars) (lengths_equal _ ls)

  specs_equal : (ts : List Token) (s : SpecShapes) → unplaced_specs (at_specs ts s) ≡ unplaced_specs s
  specs_equal ts no_specs = refl
  specs_equal ts (more_specs p s rest) = ap₂ (more_specs start) (spec_equal _ s) (specs_equal _ rest)

  spec_equal : (ts : List Token) (s : SpecShape) → unplaced_spec (at_spec ts s) ≡ unplaced_spec s
  spec_equal ts (word x) = refl
  spec_equal ts (struct tag ds) = ap₂ struct (tag_equal _ tag) (members_equal _ ds)
  spec_equal ts (enum tag es) = ap₂ enum (tag_equal _ tag) (rows_equal _ es)

  members_equal : (ts : List Token) (ds : MaybeDecls) → unplaced_members (at_members ts ds) ≡ unplaced_members ds
  members_equal ts no_members = refl
  members_equal ts (members ds) = ap members (decls_equal _ ds)

  rows_equal : (ts : List Token) (es : MaybeEnumers) → unplaced_rows (at_rows ts es) ≡ unplaced_rows es
  rows_equal ts no_rows = refl
  rows_equal ts (rows es) = ap rows (enumers_equal _ es)

  enumers_equal : (ts : List Token) (es : EnumerShapes) → unplaced_enumers (at_enumers ts es) ≡ unplaced_enumers es
  enumers_equal ts no_enumers = refl
  enumers_equal ts (more_enumers n v rest) =
      let t = after (named_form n) ts in
      three more_enumers (named_equal ts n) (value_equal t v) (led_enumers_equal (after (value_form v) t) rest)

  led_enumers_equal : (ts : List Token) (es : EnumerShapes) → unplaced_enumers (at_led_enumers ts es) ≡ unplaced_enumers es
  led_enumers_equal ts no_enumers = refl
  led_enumers_equal ts (more_enumers n v rest) =
      let t = after (named_form n) (past ts) in
      three more_enumers (named_equal (past ts) n) (value_equal t v) (led_enumers_equal (after (value_form v) t) rest)

  decls_equal : (ts : List Token) (ds : DeclShapes) → unplaced_decls (at_decls ts ds) ≡ unplaced_decls ds
  decls_equal ts no_decls = refl
  decls_equal ts (more_decls d rest) = ap₂ more_decls (decl_equal _ d) (decls_equal _ rest)

  decl_equal : (ts : List Token) (d : DeclShape) → unplaced_decl (at_decl ts d) ≡ unplaced_decl d
  decl_equal ts (decl p specs ds) = ap₂ (decl start) (specs_equal _ specs) (names_equal _ ds)

  names_equal : (ts : List Token) (ds : DeclaratorShapes) → unplaced_names (at_names ts ds) ≡ unplaced_names ds
  names_equal ts no_declarators = refl
  names_equal ts (more_declarators d rest) = ap₂ more_declarators (name_equal _ d) (led_names_equal _ rest)

  led_names_equal : (ts : List Token) (ds : DeclaratorShapes) → unplaced_names (at_led_names ts ds) ≡ unplaced_names ds
  led_names_equal ts no_declarators = refl
  led_names_equal ts (more_declarators d rest) = ap₂ more_declarators (name_equal _ d) (led_names_equal _ rest)

  name_equal : (ts : List Token) (d : DeclaratorShape) → unplaced_name (at_name ts d) ≡ unplaced_name d
  name_equal ts (declarator stars n f i) = four declarator (stars_equal _ stars) (tag_equal _ n) (behind_equal _ f) (maybe_init_equal _ i)

  behind_equal : (ts : List Token) (f : DeclFormShape) → unplaced_behind (at_behind ts f) ≡ unplaced_behind f
  behind_equal ts (arrays ls) = ap arrays (lengths_equal _ ls)
  behind_equal ts (function ps) = ap function (params_equal _ ps)

  params_equal : (ts : List Token) (ps : ParamsShape) → unplaced_params (at_params ts ps) ≡ unplaced_params ps
  params_equal ts empty = refl
  params_equal ts void = refl
  params_equal ts (params ds) = ap params (param_list_equal _ ds)

  param_list_equal : (ts : List Token) (ds : DeclShapes) → unplaced_decls (at_param_list ts ds) ≡ unplaced_decls ds
  param_list_equal ts no_decls = refl
  param_list_equal ts (more_decls d rest) = ap₂ more_decls (decl_equal _ d) (led_params_equal _ rest)

  led_params_equal : (ts : List Token) (ds : DeclShapes) → unplaced_decls (at_led_params ts ds) ≡ unplaced_decls ds
  led_params_equal ts no_decls = refl
  led_params_equal ts (more_decls d rest) = ap₂ more_decls (decl_equal _ d) (led_params_equal _ rest)

  maybe_init_equal : (ts : List Token) (i : MaybeInit) → unplaced_maybe_init (at_maybe_init ts i) ≡ unplaced_maybe_init i
  maybe_init_equal ts no_init = refl
  maybe_init_equal ts (one_init i) = ap one_init (init_equal _ i)

  init_equal : (ts : List Token) (i : InitShape) → unplaced_init (at_init ts i) ≡ unplaced_init i
  init_equal ts (one a) = ap one (node_equal _ a)
  init_equal ts (listed p list last) = ap (λ x. listed start x last) (inits_equal _ list)

  inits_equal : (ts : List Token) (list : InitShapes) → unplaced_inits (at_inits ts list) ≡ unplaced_inits list
  inits_equal ts no_inits = refl
  inits_equal ts (more_inits i rest) = ap₂ more_inits (init_equal _ i) (led_inits_equal _ rest)

  led_inits_equal : (ts : List Token) (list : InitShapes) → unplaced_inits (at_led_inits ts list) ≡ unplaced_inits list
  led_inits_equal ts no_inits = refl
  led_inits_equal ts (more_inits i rest) = ap₂ more_inits (init_equal _ i) (led_inits_equal _ rest)

-- ---- statements

labels_equal : (ts : List Token) (ls : List LabelShape) → map unplaced_label (at_labels ts ls) ≡ map unplaced_label ls
labels_equal ts [] = refl
labels_equal ts (case p e ∷ rest) = ap₂ (λ x y. case start x ∷ y) (node_equal _ e) (labels_equal _ rest)
labels_equal ts (default p ∷ rest) = ap (λ y. default start ∷ y) (labels_equal _ rest)

mutual
  stmt_equal : (ts : List Token) (a : StmtShape) → unplaced_stmt (at_stmt ts a) ≡ unplaced_stmt a
  stmt_equal ts (stmt p marks q f) = ap₂ (λ x y. stmt start x start y) (marks_equal _ marks) (body_equal _ f)

  body_equal : (ts : List Token) (f : FormShape) → unplaced_body (at_body ts f) ≡ unplaced_body f
  body_equal ts (compound c) = ap compound (compound_equal _ c)
  body_equal ts (simply e) = ap simply (maybe_equal _ e)
  body_equal ts (when e s) = ap₂ when (node_equal _ e) (stmt_equal _ s)
  body_equal ts (either e s r) = three either (node_equal _ e) (stmt_equal _ s) (stmt_equal _ r)
  body_equal ts (while e s) = ap₂ while (node_equal _ e) (stmt_equal _ s)
  body_equal ts (do_while s e) = ap₂ do_while (stmt_equal _ s) (node_equal _ e)
  body_equal ts (for a b c s) = four (λ x y z w. for x y z w) (maybe_equal _ a) (maybe_equal _ b) (maybe_equal _ c) (stmt_equal _ s)
  body_equal ts (switch e items) = ap₂ switch (node_equal _ e) (items_equal _ items)
  body_equal ts break = refl
  body_equal ts continue = refl
  body_equal ts (return e) = ap return (maybe_equal _ e)

  compound_equal : (ts : List Token) (c : CompoundShape) → unplaced_compound (at_compound ts c) ≡ unplaced_compound c
  compound_equal ts (braces p ds items) = ap₂ (braces start) (decls_equal _ ds) (items_equal _ items)

  items_equal : (ts : List Token) (items : ItemShapes) → unplaced_items (at_items ts items) ≡ unplaced_items items
  items_equal ts no_items = refl
  items_equal ts (more_items labels s rest) = three more_items (labels_equal _ labels) (stmt_equal _ s) (items_equal _ rest)

-- ---- units

external_equal : (ts : List Token) (e : ExternalShape) → unplaced_external (at_external ts e) ≡ unplaced_external e
external_equal ts (defined specs d marks c) = four defined (specs_equal _ specs) (name_equal _ d) (marks_equal _ marks) (compound_equal _ c)
external_equal ts (declared d) = ap declared (decl_equal _ d)

externals_equal : (ts : List Token) (es : List ExternalShape) → map unplaced_external (at_externals ts es) ≡ map unplaced_external es
externals_equal ts [] = refl
externals_equal ts (e ∷ rest) = ap₂ (λ x y. x ∷ y) (external_equal _ e) (externals_equal _ rest)

line_equal : (ts : List Token) (l : Option ProgramLine) → option_map unplaced_line (at_line ts l) ≡ option_map unplaced_line l
line_equal ts None = refl
line_equal ts (Some l) = refl

pub placed_is_equal : (ts : List Token) (u : UnitShape) → unplaced (at_unit ts u) ≡ unplaced u
placed_is_equal ts u = ap₂ (λ x y. record { pos = start; line = x; externals = y; last = start }) (line_equal ts u.line) (externals_equal _ u.externals)
