-- A tree is written as it is without its notes.
use Rattle.std.proofs.Common.{◌≡◌, List, [], ◌∷◌, map, refl, ap, ap₂, ◌∙◌}
use Rattle.c_base.specs.declared.place.Pos.{Pos}
use Rattle.c_syntax.specs.declared.token.Key.TheVariants as k
use Rattle.c_syntax.specs.declared.token.Mark.TheVariants as m
use Rattle.c_syntax.specs.declared.token.ProbeWord.TheVariants as w
use Rattle.c_syntax.specs.declared.token.TokenKind.TheVariants as kind
use Rattle.c_syntax.specs.Forms.{is, at, starts, ◌▷◌, mark, mark_at, key, key_at, probe_at, kinds}
use Rattle.c_syntax.specs.Grammar.{prefix_kind, infix_mark, named_form, maybe_named_form, stars_form, comma_form, in_parens, node_form, expr_form, suffix_form, probe_form, nodes_form, led_nodes_form, maybe_node_form, lengths_form, type_form, specs_form, spec_form, members_form, rows_form, enumers_form, led_enumers_form, value_form, decls_form, decl_form, declarators_form, led_declarators_form, declarator_form, behind_form, params_form, param_list_form, led_params_form, param_form, maybe_init_form, init_form, inits_form, led_inits_form, marks_form, labels_form, ended, stmt_form, body_form, compound_form, items_form, maybe_line_form, external_form, externals_form, unit_form, tokens_of}
use Rattle.c_syntax.specs.Shape.{NodeShape, node, ExprShape, leaf, paren, call, prefix, size_of_type, cast, suffix, two, choose, probe, SuffixShape, index, field, behind, simple, select, NodeShapes, no_nodes, more_nodes, MaybeNode, no_node, one_node, LengthShapes, no_lengths, more_lengths, TypeShape, type_name, SpecShapes, no_specs, more_specs, SpecShape, word, struct, enum, MaybeDecls, no_members, members, MaybeEnumers, no_rows, rows, EnumerShapes, no_enumers, more_enumers, DeclShape, decl, DeclShapes, no_decls, more_decls, DeclaratorShape, declarator, DeclaratorShapes, no_declarators, more_declarators, DeclFormShape, arrays, function, ParamsShape, empty, void, params, MaybeInit, no_init, one_init, InitShape, one, listed, InitShapes, no_inits, more_inits, LabelShape, case, default, StmtShape, stmt, FormShape, compound, simply, when, either, while, do_while, for, switch, break, continue, return, CompoundShape, braces, ItemShapes, no_items, more_items, ExternalShape, defined, declared, UnitShape}
use Rattle.c_tree.specs.Unnoted.{bare_node, bare_form, bare_suffix, bare_nodes, bare_maybe, bare_lengths, bare_type, bare_specs, bare_spec, bare_members, bare_rows, bare_enumers, bare_decl, bare_decls, bare_name, bare_names, bare_behind, bare_params, bare_maybe_init, bare_init, bare_inits, bare_label, bare_stmt, bare_body, bare_compound, bare_items, bare_external, bare_unit}

three : {A B C D : Type 0} (k : A → B → C → D) {a b : A} {c d : B} {e f : C} → a ≡ b → c ≡ d → e ≡ f → k a c e ≡ k b d f
three k {a} {b} {c} {d} {e} {f} p q r = ap (λ x. k x c e) p ∙ ap₂ (k b) q r

mutual
  pub node_same : (a : NodeShape) → node_form (bare_node a) ≡ node_form a
  node_same (node p o n f) = ap (starts p) (expr_same o f)

  expr_same : (o : Pos) (f : ExprShape) → expr_form o (bare_form f) ≡ expr_form o f
  expr_same o (leaf l) = refl
  expr_same o (paren a) = ap (λ x. mark_at o m.LeftParen ▷ x ▷ mark m.RightParen) (node_same a)
  expr_same o (call x args) = ap (λ y. at o (kind.Word x) ▷ mark m.LeftParen ▷ y ▷ mark m.RightParen) (nodes_same args)
  expr_same o (prefix u a) = ap (λ x. at o (prefix_kind u) ▷ x) (node_same a)
  expr_same o (size_of_type t) = ap (λ x. key_at o k.Sizeof ▷ in_parens x) (type_same t)
  expr_same o (cast t a) = ap₂ (λ x y. mark_at o m.LeftParen ▷ x ▷ mark m.RightParen ▷ y) (type_same t) (node_same a)
  expr_same o (suffix a s) = ap₂ (λ x y. x ▷ y) (node_same a) (suffix_same o s)
  expr_same o (two u a b) = ap₂ (λ x y. x ▷ mark_at o (infix_mark u) ▷ y) (node_same a) (node_same b)
  expr_same o (choose a b c) = three (λ x y z. x ▷ mark_at o m.Question ▷ y ▷ mark m.Colon ▷ z) (node_same a) (node_same b) (node_same c)
  expr_same o (probe (simple u x) a) = ap (λ y. probe_form o (simple u x) y) (node_same a)
  expr_same o (probe (select x cs) a) = ap₂ (λ y z. probe_at o w.Select ▷ in_parens (is (kind.Number x) ▷ y ▷ mark m.Semicolon ▷ z)) (led_same cs) (node_same a)

  suffix_same : (o : Pos) (s : SuffixShape) → suffix_form o (bare_suffix s) ≡ suffix_form o s
  suffix_same o (index b) = ap (λ x. mark_at o m.LeftBracket ▷ x ▷ mark m.RightBracket) (node_same b)
  suffix_same o (field h x p) = refl
  suffix_same o (behind s) = refl

  nodes_same : (es : NodeShapes) → nodes_form (bare_nodes es) ≡ nodes_form es
  nodes_same no_nodes = refl
  nodes_same (more_nodes a rest) = ap₂ (λ x y. x ▷ y) (node_same a) (led_same rest)

  led_same : (es : NodeShapes) → led_nodes_form (bare_nodes es) ≡ led_nodes_form es
  led_same no_nodes = refl
  led_same (more_nodes a rest) = ap₂ (λ x y. mark m.Comma ▷ x ▷ y) (node_same a) (led_same rest)

  maybe_same : (e : MaybeNode) → maybe_node_form (bare_maybe e) ≡ maybe_node_form e
  maybe_same no_node = refl
  maybe_same (one_node a) = node_same a

  lengths_same : (ls : LengthShapes) → lengths_form (bare_lengths ls) ≡ lengths_form ls
  lengths_same no_lengths = refl
  lengths_same (more_lengths l rest) = ap₂ (λ x y. mark m.LeftBracket ▷ x ▷ mark m.RightBracket ▷ y) (maybe_same l) (lengths_same rest)

  type_same : (t : TypeShape) → type_form (bare_type t) ≡ type_form t
  type_same (type_name p specs stars ls) = ap₂ (λ x y. starts p (x ▷ stars_form stars ▷ y)) (specs_same specs) (lengths_same ls)

  specs_same : (s : SpecShapes) → specs_form (bare_specs s) ≡ specs_form s
  specs_same no_specs = refl
  specs_same (more_specs p s rest) = ap₂ (λ x y. starts p x ▷ y) (spec_same s) (specs_same rest)

  spec_same : (s : SpecShape) → spec_form (bare_spec s) ≡ spec_form s
  spec_same (word x) = refl
  spec_same (struct tag ds) = ap (λ x. key k.Struct ▷ maybe_named_form tag ▷ x) (members_same ds)
  spec_same (enum tag es) = ap (λ x. key k.Enum ▷ maybe_named_form tag ▷ x) (rows_same es)

  members_same : (ds : MaybeDecls) → members_form (bare_members ds) ≡ members_form ds
  members_same no_members = refl
  members_same (members ds) = ap (λ x. mark m.LeftBrace ▷ x ▷ mark m.RightBrace) (decls_same ds)

  rows_same : (es : MaybeEnumers) → rows_form (bare_rows es) ≡ rows_form es
  rows_same no_rows = refl
  rows_same (rows es) = ap (λ x. mark m.LeftBrace ▷ x ▷ mark m.RightBrace) (enumers_same es)

  enumers_same : (es : EnumerShapes) → enumers_form (bare_enumers es) ≡ enumers_form es
  enumers_same no_enumers = refl
  enumers_same (more_enumers n v rest) = ap₂ (λ x y. named_form n ▷ x ▷ y) (value_same v) (led_enumers_same rest)

  led_enumers_same : (es : EnumerShapes) → led_enumers_form (bare_enumers es) ≡ led_enumers_form es
  led_enumers_same no_enumers = refl
  led_enumers_same (more_enumers n v rest) = ap₂ (λ x y. mark m.Comma ▷ named_form n ▷ x ▷ y) (value_same v) (led_enumers_same rest)

  value_same : (v : MaybeNode) → value_form (bare_maybe v) ≡ value_form v
  value_same no_node = refl
  value_same (one_node a) = ap (λ x. mark m.Equal ▷ x) (node_same a)

  decls_same : (ds : DeclShapes) → decls_form (bare_decls ds) ≡ decls_form ds
  decls_same no_decls = refl
  decls_same (more_decls d rest) = ap₂ (λ x y. x ▷ y) (decl_same d) (decls_same rest)

  decl_same : (d : DeclShape) → decl_form (bare_decl d) ≡ decl_form d
  decl_same (decl p specs ds) = ap₂ (λ x y. starts p (x ▷ y ▷ mark m.Semicolon)) (specs_same specs) (names_same ds)

  names_same : (ds : DeclaratorShapes) → declarators_form (bare_names ds) ≡ declarators_form ds
  names_same no_declarators = refl
  names_same (more_declarators d rest) = ap₂ (λ x y. x ▷ y) (name_same d) (led_names_same rest)

  led_names_same : (ds : DeclaratorShapes) → led_declarators_form (bare_names ds) ≡ led_declarators_form ds
  led_names_same no_declarators = refl
  led_names_same (more_declarators d rest) = ap₂ (λ x y. mark m.Comma ▷ x ▷ y) (name_same d) (led_names_same rest)

  name_same : (d : DeclaratorShape) → declarator_form (bare_name d) ≡ declarator_form d
  name_same (declarator stars n f i) = ap₂ (λ x y. stars_form stars ▷ maybe_named_form n ▷ x ▷ y) (behind_same f) (maybe_init_same i)

  behind_same : (f : DeclFormShape) → behind_form (bare_behind f) ≡ behind_form f
  behind_same (arrays ls) = lengths_same ls
  behind_same (function ps) = ap in_parens (params_same ps)

  params_same : (ps : ParamsShape) → params_form (bare_params ps) ≡ params_form ps
  params_same empty = refl
  params_same void = refl
  params_same (params ds) = param_list_same ds

  pub param_list_same : (ds : DeclShapes) → param_list_form (bare_decls ds) ≡ param_list_form ds
  param_list_same no_decls = refl
  param_list_same (more_decls d rest) = ap₂ (λ x y. x ▷ y) (param_same d) (led_params_same rest)

  led_params_same : (ds : DeclShapes) → led_params_form (bare_decls ds) ≡ led_params_form ds
  led_params_same no_decls = refl
  led_params_same (more_decls d rest) = ap₂ (λ x y. mark m.Comma ▷ x ▷ y) (param_same d) (led_params_same rest)

  param_same : (d : DeclShape) → param_form (bare_decl d) ≡ param_form d
  param_same (decl p specs ds) = ap₂ (λ x y. starts p (x ▷ y)) (specs_same specs) (names_same ds)

  maybe_init_same : (i : MaybeInit) → maybe_init_form (bare_maybe_init i) ≡ maybe_init_form i
  maybe_init_same no_init = refl
  maybe_init_same (one_init i) = ap (λ x. mark m.Equal ▷ x) (init_same i)

  init_same : (i : InitShape) → init_form (bare_init i) ≡ init_form i
  init_same (one a) = node_same a
  init_same (listed p list last) = ap (λ x. mark_at p m.LeftBrace ▷ x ▷ comma_form last ▷ mark m.RightBrace) (inits_same list)

  inits_same : (list : InitShapes) → inits_form (bare_inits list) ≡ inits_form list
  inits_same no_inits = refl
  inits_same (more_inits i rest) = ap₂ (λ x y. x ▷ y) (init_same i) (led_inits_same rest)

  led_inits_same : (list : InitShapes) → led_inits_form (bare_inits list) ≡ led_inits_form list
  led_inits_same no_inits = refl
  led_inits_same (more_inits i rest) = ap₂ (λ x y. mark m.Comma ▷ x ▷ y) (init_same i) (led_inits_same rest)

labels_same : (ls : List LabelShape) → labels_form (map bare_label ls) ≡ labels_form ls
labels_same [] = refl
labels_same (case p e ∷ rest) = ap₂ (λ x y. key_at p k.Case ▷ x ▷ mark m.Colon ▷ y) (node_same e) (labels_same rest)
labels_same (default p ∷ rest) = ap (λ x. key_at p k.Default ▷ mark m.Colon ▷ x) (labels_same rest)

mutual
  stmt_same : (a : StmtShape) → stmt_form (bare_stmt a) ≡ stmt_form a
  stmt_same (stmt p marks q f) = ap (λ x. starts p (marks_form marks ▷ starts q x)) (body_same f)

  body_same : (f : FormShape) → body_form (bare_body f) ≡ body_form f
  body_same (compound c) = compound_same c
  body_same (simply e) = ap ended (maybe_same e)
  body_same (when e s) = ap₂ (λ x y. key k.If ▷ in_parens x ▷ y) (node_same e) (stmt_same s)
  body_same (either e s t) = three (λ x y z. key k.If ▷ in_parens x ▷ y ▷ key k.Else ▷ z) (node_same e) (stmt_same s) (stmt_same t)
  body_same (while e s) = ap₂ (λ x y. key k.While ▷ in_parens x ▷ y) (node_same e) (stmt_same s)
  body_same (do_while s e) = ap₂ (λ x y. key k.Do ▷ x ▷ key k.While ▷ ended (in_parens y)) (stmt_same s) (node_same e)
  body_same (for a b c s) =
      three (λ x y z. key k.For ▷ in_parens (ended x ▷ ended y ▷ z) ▷ stmt_form (bare_stmt s)) (maybe_same a) (maybe_same b) (maybe_same c)
      ∙ ap (λ z. key k.For ▷ in_parens (ended (maybe_node_form a) ▷ ended (maybe_node_form b) ▷ maybe_node_form c) ▷ z) (stmt_same s)
  body_same (switch e items) = ap₂ (λ x y. key k.Switch ▷ in_parens x ▷ mark m.LeftBrace ▷ y ▷ mark m.RightBrace) (node_same e) (items_same items)
  body_same break = refl
  body_same continue = refl
  body_same (return e) = ap (λ x. ended (key k.Return ▷ x)) (maybe_same e)

  compound_same : (c : CompoundShape) → compound_form (bare_compound c) ≡ compound_form c
  compound_same (braces p ds items) = ap₂ (λ x y. mark_at p m.LeftBrace ▷ x ▷ y ▷ mark m.RightBrace) (decls_same ds) (items_same items)

  items_same : (items : ItemShapes) → items_form (bare_items items) ≡ items_form items
  items_same no_items = refl
  items_same (more_items labels s rest) = three (λ x y z. x ▷ y ▷ z) (labels_same labels) (stmt_same s) (items_same rest)

external_same : (e : ExternalShape) → external_form (bare_external e) ≡ external_form e
external_same (defined specs d marks c) = three (λ x y z. x ▷ y ▷ marks_form marks ▷ z) (specs_same specs) (name_same d) (compound_same c)
external_same (declared d) = decl_same d

externals_same : (es : List ExternalShape) → externals_form (map bare_external es) ≡ externals_form es
externals_same [] = refl
externals_same (e ∷ rest) = ap₂ (λ x y. x ▷ y) (external_same e) (externals_same rest)

pub unit_same : (u : UnitShape) → unit_form (bare_unit u) ≡ unit_form u
unit_same u = ap (λ x. starts u.pos (maybe_line_form u.line ▷ x)) (externals_same u.externals)

pub tokens_same : (u : UnitShape) → tokens_of (bare_unit u) ≡ tokens_of u
tokens_same u = ap kinds (unit_same u)
