-- A tree at tokens is one that the grammar allows, where the tree is, and has as many levels.
use Rattle.std.proofs.Common.{◌≡◌, ◌≢◌, ◌≤◌, ℕ, suc, ◌+◌, max, List, [], ◌∷◌, ◌++◌, length, Bool, false, Option, Some, None, refl, sym, ap, ap₂, ◌∙◌, subst}
use Rattle.std.specs.Prelude.{is_none, ◌||◌}
use Rattle.c_syntax.specs.declared.token.Token.{Token}
use Rattle.c_syntax.specs.declared.tree.Named.{Named}
use Rattle.c_syntax.specs.declared.tree.ProbeMark.{ProbeMark}
use Rattle.c_syntax.specs.declared.tree.Star.{Star}
use Rattle.c_syntax.specs.Forms.{Form, nothing, is, at, starts, seq, kinds}
use Rattle.c_syntax.specs.Grammar.{maybe_named_form, consts_form, param_list_form}
use Rattle.c_syntax.specs.Levels.{height, expr_height, suffix_height, nodes_height, maybe_height, lengths_height, type_height, specs_height, spec_height, enumers_height, decls_height, decl_height, declarators_height, declarator_height, params_height, init_of_height, init_height, inits_height, labels_height, item_height, stmt_height, form_height, compound_height, items_height, external_height, externals_height, chain, expr_chain, nodes_chain}
use Rattle.c_syntax.specs.Shaped.{expr_level, level, probe_least, Standing, name_fits, in_members, in_names, in_params, may_be_open, unprobed, is_there, has_members, has_rows, Shaped, ShapedExpr, ShapedSuffix, ShapedNodes, ShapedMaybe, ShapedLengths, ShapedType, SomeSpecs, AllSpecs, ShapedSpec, ShapedMembers, ShapedRows, ShapedEnumers, ShapedDecls, ShapedDecl, ShapedDeclarators, ShapedDeclarator, ShapedInitOf, ShapedParams, ShapedParamList, ShapedParam, ShapedInit, ShapedInits, Closed, ClosedForm, ShapedLabels, ShapedStmt, ShapedForm, ShapedCompound, ShapedItems, IsFunction, ShapedExternal, ShapedExternals, ShapedUnit}
use Rattle.c_syntax.specs.Shape.{NodeShape, node, ExprShape, leaf, paren, call, prefix, size_of_type, cast, suffix, two, choose, probe, SuffixShape, index, field, behind, simple, select, NodeShapes, no_nodes, more_nodes, MaybeNode, no_node, one_node, LengthShapes, no_lengths, more_lengths, TypeShape, type_name, SpecShapes, no_specs, more_specs, SpecShape, word, struct, enum, MaybeDecls, no_members, members, MaybeEnumers, no_rows, rows, EnumerShapes, no_enumers, more_enumers, DeclShape, decl, DeclShapes, no_decls, more_decls, DeclaratorShape, declarator, DeclaratorShapes, no_declarators, more_declarators, arrays, function, ParamsShape, empty, void, params, MaybeInit, no_init, one_init, InitShape, one, listed, InitShapes, no_inits, more_inits, LabelShape, case, default, StmtShape, stmt, FormShape, compound, simply, when, either, while, do_while, for, switch, break, continue, return, CompoundShape, braces, ItemShapes, no_items, more_items, ExternalShape, defined, declared, UnitShape}
use Rattle.c_placing.specs.Placing.{past, after, at_form, at_probe, at_tag, at_stars, at_node, at_expr, at_suffix, at_nodes, at_led, at_maybe, at_lengths, at_type, at_specs, at_spec, at_members, at_rows, at_enumers, at_led_enumers, at_value, at_decls, at_decl, at_names, at_led_names, at_name, at_params, at_param_list, at_led_params, at_maybe_init, at_init, at_inits, at_led_inits, at_labels, at_stmt, at_body, at_compound, at_items, at_external, at_externals, at_unit}
use Rattle.c_placing.proofs.Placing.{param_list_at}

three : {A B C D : Type 0} (h : A → B → C → D) {a b : A} {c d : B} {e f : C} → a ≡ b → c ≡ d → e ≡ f → h a c e ≡ h b d f
three h {a} {b} {c} {d} {e} {f} p q r = ap (λ x. h x c e) p ∙ ap₂ (h b) q r

-- ---- how many levels

stars_many : (ts : List Token) (s : List Star) → length (at_stars ts s) ≡ length s
stars_many ts [] = refl
stars_many ts (s ∷ rest) = ap suc (stars_many (after (consts_form s.consts) (past ts)) rest)

mutual
  node_high : (ts : List Token) (a : NodeShape) → height (at_node ts a) ≡ height a
  node_high ts (node p o n f) = expr_high ts f

  expr_high : (ts : List Token) (f : ExprShape) → expr_height (at_expr ts f) ≡ expr_height f
  expr_high ts (leaf l) = refl
  expr_high ts (paren a) = ap suc (node_high _ a)
  expr_high ts (call x args) = ap suc (nodes_high _ args)
  expr_high ts (prefix u a) = ap suc (node_high _ a)
  expr_high ts (size_of_type t) = ap suc (type_high _ t)
  expr_high ts (cast t a) = ap₂ (λ x y. suc (max x y)) (type_high _ t) (node_high _ a)
  expr_high ts (suffix a s) = ap₂ (λ x y. suc (max x y)) (node_high _ a) (suffix_high _ s)
  expr_high ts (two u a b) = ap₂ (λ x y. suc (max x y)) (node_high _ a) (node_high _ b)
  expr_high ts (choose a b c) = three (λ x y z. suc (max x (max y z))) (node_high _ a) (node_high _ b) (node_high _ c)
  expr_high ts (probe (simple u x) a) = ap (max 0) (node_high _ a)
  expr_high ts (probe (select x cs) a) = ap₂ max (led_high _ cs) (node_high _ a)

  suffix_high : (ts : List Token) (s : SuffixShape) → suffix_height (at_suffix ts s) ≡ suffix_height s
  suffix_high ts (index b) = node_high _ b
  suffix_high ts (field h x p) = refl
  suffix_high ts (behind s) = refl

  nodes_high : (ts : List Token) (es : NodeShapes) → nodes_height (at_nodes ts es) ≡ nodes_height es
  nodes_high ts no_nodes = refl
  nodes_high ts (more_nodes a rest) = ap₂ max (node_high _ a) (led_high _ rest)

  led_high : (ts : List Token) (es : NodeShapes) → nodes_height (at_led ts es) ≡ nodes_height es
  led_high ts no_nodes = refl
  led_high ts (more_nodes a rest) = ap₂ max (node_high _ a) (led_high _ rest)

  maybe_high : (ts : List Token) (e : MaybeNode) → maybe_height (at_maybe ts e) ≡ maybe_height e
  maybe_high ts no_node = refl
  maybe_high ts (one_node a) = node_high _ a

  value_high : (ts : List Token) (e : MaybeNode) → maybe_height (at_value ts e) ≡ maybe_height e
  value_high ts no_node = refl
  value_high ts (one_node a) = node_high _ a

  lengths_high : (ts : List Token) (ls : LengthShapes) → lengths_height (at_lengths ts ls) ≡ lengths_height ls
  lengths_high ts no_lengths = refl
  lengths_high ts (more_lengths l rest) = ap₂ (λ x y. suc (max x y)) (maybe_high _ l) (lengths_high _ rest)

  type_high : (ts : List Token) (t : TypeShape) → type_height (at_type ts t) ≡ type_height t
  type_high ts (type_name p specs stars ls) = three (λ x y z. max x (y + z)) (specs_high _ specs) (stars_many _ stars) (lengths_high _ ls)

  specs_high : (ts : List Token) (s : SpecShapes) → specs_height (at_specs ts s) ≡ specs_height s
  specs_high ts no_specs = refl
  specs_high ts (more_specs p s rest) = ap₂ max (spec_high _ s) (specs_high _ rest)

  spec_high : (ts : List Token) (s : SpecShape) → spec_height (at_spec ts s) ≡ spec_height s
  spec_high ts (word x) = refl
  spec_high ts (struct tag no_members) = refl
  spec_high ts (struct tag (members ds)) = ap suc (decls_high _ ds)
  spec_high ts (enum tag no_rows) = refl
  spec_high ts (enum tag (rows es)) = enumers_high _ es

  enumers_high : (ts : List Token) (es : EnumerShapes) → enumers_height (at_enumers ts es) ≡ enumers_height es
  enumers_high ts no_enumers = refl
  enumers_high ts (more_enumers n v rest) = ap₂ max (value_high _ v) (led_enumers_high _ rest)

  led_enumers_high : (ts : List Token) (es : EnumerShapes) → enumers_height (at_led_enumers ts es) ≡ enumers_height es
  led_enumers_high ts no_enumers = refl
  led_enumers_high ts (more_enumers n v rest) = ap₂ max (value_high _ v) (led_enumers_high _ rest)

  decls_high : (ts : List Token) (ds : DeclShapes) → decls_height (at_decls ts ds) ≡ decls_height ds
  decls_high ts no_decls = refl
  decls_high ts (more_decls d rest) = ap₂ max (decl_high _ d) (decls_high _ rest)

  decl_high : (ts : List Token) (d : DeclShape) → decl_height (at_decl ts d) ≡ decl_height d
  decl_high ts (decl p specs ds) = ap₂ max (specs_high _ specs) (names_high _ ds)

  names_high : (ts : List Token) (ds : DeclaratorShapes) → declarators_height (at_names ts ds) ≡ declarators_height ds
  names_high ts no_declarators = refl
  names_high ts (more_declarators d rest) = ap₂ max (name_high _ d) (led_names_high _ rest)

  led_names_high : (ts : List Token) (ds : DeclaratorShapes) → declarators_height (at_led_names ts ds) ≡ declarators_height ds
  led_names_high ts no_declarators = refl
  led_names_high ts (more_declarators d rest) = ap₂ max (name_high _ d) (led_names_high _ rest)

  name_high : (ts : List Token) (d : DeclaratorShape) → declarator_height (at_name ts d) ≡ declarator_height d
  name_high ts (declarator stars n (arrays ls) i) = three (λ x y z. suc (max (x + y) z)) (stars_many _ stars) (lengths_high _ ls) (maybe_init_high _ i)
  name_high ts (declarator stars n (function ps) i) = three (λ x y z. suc (max (max x y) z)) (stars_many _ stars) (params_high _ ps) (maybe_init_high _ i)

  params_high : (ts : List Token) (ps : ParamsShape) → params_height (at_params ts ps) ≡ params_height ps
  params_high ts empty = refl
  params_high ts void = refl
  params_high ts (params ds) = param_list_high _ ds

  param_list_high : (ts : List Token) (ds : DeclShapes) → decls_height (at_param_list ts ds) ≡ decls_height ds
  param_list_high ts no_decls = refl
  param_list_high ts (more_decls d rest) = ap₂ max (decl_high _ d) (led_params_high _ rest)

  led_params_high : (ts : List Token) (ds : DeclShapes) → decls_height (at_led_params ts ds) ≡ decls_height ds
  led_params_high ts no_decls = refl
  led_params_high ts (more_decls d rest) = ap₂ max (decl_high _ d) (led_params_high _ rest)

  maybe_init_high : (ts : List Token) (i : MaybeInit) → init_of_height (at_maybe_init ts i) ≡ init_of_height i
  maybe_init_high ts no_init = refl
  maybe_init_high ts (one_init i) = init_high _ i

  init_high : (ts : List Token) (i : InitShape) → init_height (at_init ts i) ≡ init_height i
  init_high ts (one a) = ap suc (node_high _ a)
  init_high ts (listed p list last) = ap suc (inits_high _ list)

  inits_high : (ts : List Token) (list : InitShapes) → inits_height (at_inits ts list) ≡ inits_height list
  inits_high ts no_inits = refl
  inits_high ts (more_inits i rest) = ap₂ max (init_high _ i) (led_inits_high _ rest)

  led_inits_high : (ts : List Token) (list : InitShapes) → inits_height (at_led_inits ts list) ≡ inits_height list
  led_inits_high ts no_inits = refl
  led_inits_high ts (more_inits i rest) = ap₂ max (init_high _ i) (led_inits_high _ rest)

labels_high : (ts : List Token) (ls : List LabelShape) → labels_height (at_labels ts ls) ≡ labels_height ls
labels_high ts [] = refl
labels_high ts (case p e ∷ rest) = ap₂ max (node_high _ e) (labels_high _ rest)
labels_high ts (default p ∷ rest) = ap (max 0) (labels_high _ rest)

item_high : (ts : List Token) (ls : List LabelShape) (m n : ℕ) → m ≡ n → item_height (at_labels ts ls) m ≡ item_height ls n
item_high ts [] m n e = e
item_high ts (case p a ∷ rest) m n e = ap₂ (λ x y. suc (max x y)) (labels_high ts (case p a ∷ rest)) e
item_high ts (default p ∷ rest) m n e = ap₂ (λ x y. suc (max x y)) (labels_high ts (default p ∷ rest)) e

mutual
  stmt_high : (ts : List Token) (a : StmtShape) → stmt_height (at_stmt ts a) ≡ stmt_height a
  stmt_high ts (stmt p marks q f) = ap suc (body_high _ f)

  body_high : (ts : List Token) (f : FormShape) → form_height (at_body ts f) ≡ form_height f
  body_high ts (compound c) = compound_high _ c
  body_high ts (simply e) = maybe_high _ e
  body_high ts (when e s) = ap₂ max (node_high _ e) (stmt_high _ s)
  body_high ts (either e s r) = three (λ x y z. max x (max y z)) (node_high _ e) (stmt_high _ s) (stmt_high _ r)
  body_high ts (while e s) = ap₂ max (node_high _ e) (stmt_high _ s)
  body_high ts (do_while s e) = ap₂ max (stmt_high _ s) (node_high _ e)
  body_high ts (for a b c s) = ap₂ max (maybe_high _ a) (three (λ x y z. max x (max y z)) (maybe_high _ b) (maybe_high _ c) (stmt_high _ s))
  body_high ts (switch e items) = ap₂ max (node_high _ e) (items_high _ items)
  body_high ts break = refl
  body_high ts continue = refl
  body_high ts (return e) = maybe_high _ e

  compound_high : (ts : List Token) (c : CompoundShape) → compound_height (at_compound ts c) ≡ compound_height c
  compound_high ts (braces p ds items) = ap₂ (λ x y. suc (max x y)) (decls_high _ ds) (items_high _ items)

  items_high : (ts : List Token) (items : ItemShapes) → items_height (at_items ts items) ≡ items_height items
  items_high ts no_items = refl
  items_high ts (more_items labels s rest) = ap₂ max (item_high ts labels _ _ (stmt_high _ s)) (items_high _ rest)

external_high : (ts : List Token) (e : ExternalShape) → external_height (at_external ts e) ≡ external_height e
external_high ts (defined specs d marks c) = three (λ x y z. suc (max x (max y z))) (specs_high _ specs) (name_high _ d) (compound_high _ c)
external_high ts (declared d) = ap suc (decl_high _ d)

externals_high : (ts : List Token) (es : List ExternalShape) → externals_height (at_externals ts es) ≡ externals_height es
externals_high ts [] = refl
externals_high ts (e ∷ rest) = ap₂ max (external_high _ e) (externals_high _ rest)

-- ---- how tightly forms bind, and how many probes stand one inside another

expr_tight : (ts : List Token) (f : ExprShape) → expr_level (at_expr ts f) ≡ expr_level f
expr_tight ts (leaf l) = refl
expr_tight ts (paren a) = refl
expr_tight ts (call x args) = refl
expr_tight ts (prefix u a) = refl
expr_tight ts (size_of_type t) = refl
expr_tight ts (cast t a) = refl
expr_tight ts (suffix a s) = refl
expr_tight ts (two u a b) = refl
expr_tight ts (choose a b c) = refl
expr_tight ts (probe (simple u x) a) = refl
expr_tight ts (probe (select x cs) a) = refl

node_tight : (ts : List Token) (a : NodeShape) → level (at_node ts a) ≡ level a
node_tight ts (node p o n f) = expr_tight ts f

as_tight : (l : ℕ) (ts : List Token) (a : NodeShape) → l ≤ level a → l ≤ level (at_node ts a)
as_tight l ts a le = subst (λ x. l ≤ x) (sym (node_tight ts a)) le

mutual
  node_chain : (ts : List Token) (a : NodeShape) → chain (at_node ts a) ≡ chain a
  node_chain ts (node p o n f) = form_chain ts f

  form_chain : (ts : List Token) (f : ExprShape) → expr_chain (at_expr ts f) ≡ expr_chain f
  form_chain ts (leaf l) = refl
  form_chain ts (paren a) = refl
  form_chain ts (call x args) = refl
  form_chain ts (prefix u a) = refl
  form_chain ts (size_of_type t) = refl
  form_chain ts (cast t a) = refl
  form_chain ts (suffix a s) = refl
  form_chain ts (two u a b) = refl
  form_chain ts (choose a b c) = refl
  form_chain ts (probe (simple u x) a) = ap (λ y. suc (max 0 y)) (node_chain _ a)
  form_chain ts (probe (select x cs) a) = ap₂ (λ y z. suc (max y z)) (led_chain _ cs) (node_chain _ a)

  led_chain : (ts : List Token) (es : NodeShapes) → nodes_chain (at_led ts es) ≡ nodes_chain es
  led_chain ts no_nodes = refl
  led_chain ts (more_nodes a rest) = ap₂ max (node_chain _ a) (led_chain _ rest)

-- ---- names

kinds_at : (ts : List Token) (f : Form) → kinds (at_form ts f) ≡ kinds f
kinds_at ts nothing = refl
kinds_at ts (is x) = refl
kinds_at ts (at p x) = refl
kinds_at ts (starts p f) = kinds_at ts f
kinds_at ts (seq f g) = ap₂ (λ x y. x ++ y) (kinds_at ts f) (kinds_at (after f ts) g)

none_at : (ts : List Token) (o : Option ProbeMark) → is_none (at_probe ts o) ≡ is_none o
none_at ts None = refl
none_at ts (Some d) = refl

unprobed_at : (ts : List Token) (n : Option Named) → unprobed (at_tag ts n) ≡ unprobed n
unprobed_at ts None = refl
unprobed_at ts (Some n) = none_at ts n.probe

there_at : (ts : List Token) (n : Option Named) → is_there (at_tag ts n) ≡ is_there n
there_at ts None = refl
there_at ts (Some n) = refl

fits_at : (st : Standing) (ts : List Token) (n : Option Named) → name_fits st (at_tag ts n) ≡ name_fits st n
fits_at in_members ts None = refl
fits_at in_members ts (Some n) = none_at ts n.probe
fits_at in_names ts None = refl
fits_at in_names ts (Some n) = refl
fits_at in_params ts None = refl
fits_at in_params ts (Some n) = refl

members_there : (ts : List Token) (ds : MaybeDecls) → has_members (at_members ts ds) ≡ has_members ds
members_there ts no_members = refl
members_there ts (members ds) = refl

rows_there : (ts : List Token) (es : MaybeEnumers) → has_rows (at_rows ts es) ≡ has_rows es
rows_there ts no_rows = refl
rows_there ts (rows es) = refl

-- ---- expressions, types and declarations

mutual
  node_shaped : (ts : List Token) (a : NodeShape) → Shaped a → Shaped (at_node ts a)
  node_shaped ts (node p o n f) s = (s.0, expr_shaped ts f s.1)

  expr_shaped : (ts : List Token) (f : ExprShape) → ShapedExpr f → ShapedExpr (at_expr ts f)
  expr_shaped ts (leaf l) s = tt
  expr_shaped ts (paren a) s = node_shaped _ a s
  expr_shaped ts (call x args) s = nodes_shaped 1 _ args s
  expr_shaped ts (prefix u a) s = (as_tight _ _ a s.0, node_shaped _ a s.1)
  expr_shaped ts (size_of_type t) s = type_shaped _ t s
  expr_shaped ts (cast t a) s = (type_shaped _ t s.0, as_tight 13 _ a s.1, node_shaped _ a s.2)
  expr_shaped ts (suffix a u) s = (as_tight 15 _ a s.0, node_shaped _ a s.1, suffix_shaped _ u s.2)
  expr_shaped ts (two u a b) s = (s.0, as_tight _ _ a s.1, node_shaped _ a s.2, as_tight _ _ b s.3, node_shaped _ b s.4)
  expr_shaped ts (choose a b c) s = (as_tight 3 _ a s.0, node_shaped _ a s.1, node_shaped _ b s.2, as_tight 2 _ c s.3, node_shaped _ c s.4)
  expr_shaped ts (probe (simple u x) a) s = (as_tight (probe_least u) _ a s.0, node_shaped _ a s.1, subst (λ y. y ≤ 4) (sym (form_chain ts (probe (simple u x) a))) s.2)
  expr_shaped ts (probe (select x cs) a) s = (led_shaped 2 _ cs s.0, node_shaped _ a s.1, subst (λ y. y ≤ 4) (sym (form_chain ts (probe (select x cs) a))) s.2)

  suffix_shaped : (ts : List Token) (u : SuffixShape) → ShapedSuffix u → ShapedSuffix (at_suffix ts u)
  suffix_shaped ts (index b) s = node_shaped _ b s
  suffix_shaped ts (field h x p) s = tt
  suffix_shaped ts (behind u) s = tt

  nodes_shaped : (l : ℕ) (ts : List Token) (es : NodeShapes) → ShapedNodes l es → ShapedNodes l (at_nodes ts es)
  nodes_shaped l ts no_nodes s = tt
  nodes_shaped l ts (more_nodes a rest) s = (as_tight l _ a s.0, node_shaped _ a s.1, led_shaped l _ rest s.2)

  led_shaped : (l : ℕ) (ts : List Token) (es : NodeShapes) → ShapedNodes l es → ShapedNodes l (at_led ts es)
  led_shaped l ts no_nodes s = tt
  led_shaped l ts (more_nodes a rest) s = (as_tight l _ a s.0, node_shaped _ a s.1, led_shaped l _ rest s.2)

  maybe_shaped : (l : ℕ) (ts : List Token) (e : MaybeNode) → ShapedMaybe l e → ShapedMaybe l (at_maybe ts e)
  maybe_shaped l ts no_node s = tt
  maybe_shaped l ts (one_node a) s = (as_tight l _ a s.0, node_shaped _ a s.1)

  value_shaped : (l : ℕ) (ts : List Token) (e : MaybeNode) → ShapedMaybe l e → ShapedMaybe l (at_value ts e)
  value_shaped l ts no_node s = tt
  value_shaped l ts (one_node a) s = (as_tight l _ a s.0, node_shaped _ a s.1)

  lengths_shaped : (free : Bool) (ts : List Token) (ls : LengthShapes) → ShapedLengths free ls → ShapedLengths free (at_lengths ts ls)
  lengths_shaped free ts no_lengths s = tt
  lengths_shaped free ts (more_lengths no_node rest) s = (s.0, lengths_shaped free _ rest s.1)
  lengths_shaped free ts (more_lengths (one_node a) rest) s = (as_tight 2 _ a s.0, node_shaped _ a s.1, lengths_shaped free _ rest s.2)

  type_shaped : (ts : List Token) (t : TypeShape) → ShapedType t → ShapedType (at_type ts t)
  type_shaped ts (type_name p specs stars ls) s = (some_specs_shaped _ specs s.0, lengths_shaped false _ ls s.1)

  some_specs_shaped : (ts : List Token) (x : SpecShapes) → SomeSpecs x → SomeSpecs (at_specs ts x)
  some_specs_shaped ts no_specs s = absurd s
  some_specs_shaped ts (more_specs p x rest) s = (spec_shaped _ x s.0, all_specs_shaped _ rest s.1)

  all_specs_shaped : (ts : List Token) (x : SpecShapes) → AllSpecs x → AllSpecs (at_specs ts x)
  all_specs_shaped ts no_specs s = tt
  all_specs_shaped ts (more_specs p x rest) s = (spec_shaped _ x s.0, all_specs_shaped _ rest s.1)

  spec_shaped : (ts : List Token) (x : SpecShape) → ShapedSpec x → ShapedSpec (at_spec ts x)
  spec_shaped ts (word x) s = s
  spec_shaped ts (struct tag ds) s =
      (unprobed_at (past ts) tag ∙ s.0, ap₂ (λ x y. x || y) (there_at (past ts) tag) (members_there (after (maybe_named_form tag) (past ts)) ds) ∙ s.1, members_shaped _ ds s.2)
  spec_shaped ts (enum tag es) s =
      (unprobed_at (past ts) tag ∙ s.0, ap₂ (λ x y. x || y) (there_at (past ts) tag) (rows_there (after (maybe_named_form tag) (past ts)) es) ∙ s.1, rows_shaped _ es s.2)

  members_shaped : (ts : List Token) (ds : MaybeDecls) → ShapedMembers ds → ShapedMembers (at_members ts ds)
  members_shaped ts no_members s = tt
  members_shaped ts (members no_decls) s = absurd s
  members_shaped ts (members (more_decls d rest)) s = (decl_shaped in_members _ d s.0, decls_shaped in_members _ rest s.1)

  rows_shaped : (ts : List Token) (es : MaybeEnumers) → ShapedRows es → ShapedRows (at_rows ts es)
  rows_shaped ts no_rows s = tt
  rows_shaped ts (rows no_enumers) s = absurd s
  rows_shaped ts (rows (more_enumers n v rest)) s = (ap (at_probe (past ts)) s.0, value_shaped 2 _ v s.1, led_enumers_shaped _ rest s.2)

  led_enumers_shaped : (ts : List Token) (es : EnumerShapes) → ShapedEnumers es → ShapedEnumers (at_led_enumers ts es)
  led_enumers_shaped ts no_enumers s = tt
  led_enumers_shaped ts (more_enumers n v rest) s = (ap (at_probe (past ts)) s.0, value_shaped 2 _ v s.1, led_enumers_shaped _ rest s.2)

  decls_shaped : (st : Standing) (ts : List Token) (ds : DeclShapes) → ShapedDecls st ds → ShapedDecls st (at_decls ts ds)
  decls_shaped st ts no_decls s = tt
  decls_shaped st ts (more_decls d rest) s = (decl_shaped st _ d s.0, decls_shaped st _ rest s.1)

  decl_shaped : (st : Standing) (ts : List Token) (d : DeclShape) → ShapedDecl st d → ShapedDecl st (at_decl ts d)
  decl_shaped st ts (decl p specs no_declarators) s = (s.0, some_specs_shaped _ specs s.1)
  decl_shaped st ts (decl p specs (more_declarators d rest)) s = (some_specs_shaped _ specs s.0, name_shaped st _ d s.1, led_names_shaped st _ rest s.2)

  led_names_shaped : (st : Standing) (ts : List Token) (ds : DeclaratorShapes) → ShapedDeclarators st ds → ShapedDeclarators st (at_led_names ts ds)
  led_names_shaped st ts no_declarators s = tt
  led_names_shaped st ts (more_declarators d rest) s = (name_shaped st _ d s.0, led_names_shaped st _ rest s.1)

  name_shaped : (st : Standing) (ts : List Token) (d : DeclaratorShape) → ShapedDeclarator st d → ShapedDeclarator st (at_name ts d)
  name_shaped st ts (declarator stars n (arrays ls) i) s = (fits_at st _ n ∙ s.0, lengths_shaped (may_be_open st) _ ls s.1, init_of_shaped _ _ i s.2)
  name_shaped st ts (declarator stars n (function ps) i) s = (fits_at st _ n ∙ s.0, (s.1.0, params_shaped _ ps s.1.1), init_of_shaped _ _ i s.2)

  params_shaped : (ts : List Token) (ps : ParamsShape) → ShapedParams ps → ShapedParams (at_params ts ps)
  params_shaped ts empty s = tt
  params_shaped ts void s = tt
  params_shaped ts (params no_decls) s = absurd s
  params_shaped ts (params (more_decls d rest)) s =
      (param_shaped _ d s.0, led_params_shaped _ rest s.1, λ e. s.2 (sym (kinds_at ts (param_list_form (more_decls d rest))) ∙ (ap kinds (param_list_at ts (more_decls d rest)) ∙ e)))

  led_params_shaped : (ts : List Token) (ds : DeclShapes) → ShapedParamList ds → ShapedParamList (at_led_params ts ds)
  led_params_shaped ts no_decls s = tt
  led_params_shaped ts (more_decls d rest) s = (param_shaped _ d s.0, led_params_shaped _ rest s.1)

  param_shaped : (ts : List Token) (d : DeclShape) → ShapedParam d → ShapedParam (at_decl ts d)
  param_shaped ts (decl p specs no_declarators) s = absurd s
  param_shaped ts (decl p specs (more_declarators d no_declarators)) s = (some_specs_shaped _ specs s.0, name_shaped in_params _ d s.1)
  param_shaped ts (decl p specs (more_declarators d (more_declarators e rest))) s = absurd s

  init_of_shaped : (may : Bool) (ts : List Token) (i : MaybeInit) → ShapedInitOf may i → ShapedInitOf may (at_maybe_init ts i)
  init_of_shaped may ts no_init s = tt
  init_of_shaped may ts (one_init i) s = (s.0, init_shaped _ i s.1)

  init_shaped : (ts : List Token) (i : InitShape) → ShapedInit i → ShapedInit (at_init ts i)
  init_shaped ts (one a) s = (as_tight 1 _ a s.0, node_shaped _ a s.1)
  init_shaped ts (listed p no_inits last) s = absurd s
  init_shaped ts (listed p (more_inits i rest) last) s = (init_shaped _ i s.0, led_inits_shaped _ rest s.1)

  led_inits_shaped : (ts : List Token) (list : InitShapes) → ShapedInits list → ShapedInits (at_led_inits ts list)
  led_inits_shaped ts no_inits s = tt
  led_inits_shaped ts (more_inits i rest) s = (init_shaped _ i s.0, led_inits_shaped _ rest s.1)

-- ---- statements

mutual
  stmt_closed : (ts : List Token) (a : StmtShape) → Closed a → Closed (at_stmt ts a)
  stmt_closed ts (stmt p marks q f) s = body_closed _ f s

  body_closed : (ts : List Token) (f : FormShape) → ClosedForm f → ClosedForm (at_body ts f)
  body_closed ts (compound c) s = tt
  body_closed ts (simply e) s = tt
  body_closed ts (when e a) s = absurd s
  body_closed ts (either e a b) s = stmt_closed _ b s
  body_closed ts (while e a) s = stmt_closed _ a s
  body_closed ts (do_while a e) s = tt
  body_closed ts (for a b c d) s = stmt_closed _ d s
  body_closed ts (switch e items) s = tt
  body_closed ts break s = tt
  body_closed ts continue s = tt
  body_closed ts (return e) s = tt

labels_shaped : (ts : List Token) (ls : List LabelShape) → ShapedLabels ls → ShapedLabels (at_labels ts ls)
labels_shaped ts [] s = tt
labels_shaped ts (case p e ∷ rest) s = (as_tight 2 _ e s.0, node_shaped _ e s.1, labels_shaped _ rest s.2)
labels_shaped ts (default p ∷ rest) s = labels_shaped _ rest s

mutual
  stmt_shaped : (ts : List Token) (a : StmtShape) → ShapedStmt a → ShapedStmt (at_stmt ts a)
  stmt_shaped ts (stmt p marks q f) s = body_shaped _ f s

  body_shaped : (ts : List Token) (f : FormShape) → ShapedForm f → ShapedForm (at_body ts f)
  body_shaped ts (compound c) s = compound_shaped _ c s
  body_shaped ts (simply e) s = maybe_shaped 0 _ e s
  body_shaped ts (when e a) s = (node_shaped _ e s.0, stmt_shaped _ a s.1)
  body_shaped ts (either e a b) s = (node_shaped _ e s.0, stmt_shaped _ a s.1, stmt_closed _ a s.2, stmt_shaped _ b s.3)
  body_shaped ts (while e a) s = (node_shaped _ e s.0, stmt_shaped _ a s.1)
  body_shaped ts (do_while a e) s = (stmt_shaped _ a s.0, node_shaped _ e s.1)
  body_shaped ts (for a b c d) s = (maybe_shaped 0 _ a s.0, maybe_shaped 0 _ b s.1, maybe_shaped 0 _ c s.2, stmt_shaped _ d s.3)
  body_shaped ts (switch e items) s = (node_shaped _ e s.0, items_shaped _ items s.1)
  body_shaped ts break s = tt
  body_shaped ts continue s = tt
  body_shaped ts (return e) s = maybe_shaped 0 _ e s

  compound_shaped : (ts : List Token) (c : CompoundShape) → ShapedCompound c → ShapedCompound (at_compound ts c)
  compound_shaped ts (braces p ds items) s = (decls_shaped in_names _ ds s.0, items_shaped _ items s.1)

  items_shaped : (ts : List Token) (items : ItemShapes) → ShapedItems items → ShapedItems (at_items ts items)
  items_shaped ts no_items s = tt
  items_shaped ts (more_items labels a rest) s = (labels_shaped _ labels s.0, stmt_shaped _ a s.1, items_shaped _ rest s.2)

-- ---- units

function_at : (ts : List Token) (d : DeclaratorShape) → IsFunction d → IsFunction (at_name ts d)
function_at ts (declarator stars n (arrays ls) i) s = absurd s
function_at ts (declarator stars n (function ps) i) s = tt

external_shaped : (ts : List Token) (e : ExternalShape) → ShapedExternal e → ShapedExternal (at_external ts e)
external_shaped ts (defined specs d marks c) s = (some_specs_shaped _ specs s.0, function_at _ d s.1, name_shaped in_names _ d s.2, compound_shaped _ c s.3)
external_shaped ts (declared d) s = decl_shaped in_names _ d s

externals_shaped : (ts : List Token) (es : List ExternalShape) → ShapedExternals es → ShapedExternals (at_externals ts es)
externals_shaped ts [] s = tt
externals_shaped ts (e ∷ rest) s = (external_shaped _ e s.0, externals_shaped _ rest s.1)

abbrev NoneOf : List ExternalShape → Type 0
NoneOf [] = Unit {0}
NoneOf (e ∷ es) = ⊥

some_at : (ts : List Token) (es : List ExternalShape) → es ≢ [] → at_externals ts es ≢ []
some_at ts [] some e = some e
some_at ts (x ∷ es) some e = absurd (subst NoneOf (sym e) tt)

pub placed_is_shaped : (ts : List Token) (u : UnitShape) → ShapedUnit u → ShapedUnit (at_unit ts u)
placed_is_shaped ts u s = record {
  some = some_at _ u.externals s.some;
  all = externals_shaped _ u.externals s.all;
  low = subst (λ n. n ≤ 400) (sym (externals_high _ u.externals)) s.low;
}
