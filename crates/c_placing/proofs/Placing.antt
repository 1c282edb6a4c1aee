-- A tree at tokens of its kinds is written by them, each place that of its own token.
use Rattle.std.proofs.Common.{◌≡◌, ℕ, zero, suc, List, [], ◌∷◌, ◌++◌, Option, Some, None, true, false, refl, sym, ap, ap₂, ◌∙◌, subst, append_assoc, append-nil}
use Rattle.c_base.specs.declared.place.Pos.{Pos}
use Rattle.c_syntax.specs.declared.text.Text.{Text}
use Rattle.c_syntax.specs.declared.token.Key.TheVariants as k
use Rattle.c_syntax.specs.declared.token.Mark.TheVariants as m
use Rattle.c_syntax.specs.declared.token.ProbeWord.TheVariants as w
use Rattle.c_syntax.specs.declared.token.Token.{Token}
use Rattle.c_syntax.specs.declared.token.TokenKind.{TokenKind}
use Rattle.c_syntax.specs.declared.token.TokenKind.TheVariants as kind
use Rattle.c_syntax.specs.declared.tree.Named.{Named}
use Rattle.c_syntax.specs.declared.tree.ProbeMark.{ProbeMark}
use Rattle.c_syntax.specs.declared.tree.ProgramLine.{ProgramLine}
use Rattle.c_syntax.specs.declared.tree.Star.{Star}
use Rattle.c_syntax.specs.Forms.{Form, nothing, is, at, starts, seq, ◌▷◌, mark, mark_at, key, key_at, probe_at, kinds, kinds_of, a_token, head, place, Written}
use Rattle.c_syntax.specs.Grammar.{prefix_kind, infix_mark, in_parens, named_as, named_form, maybe_named_form, consts_form, stars_form, comma_form, node_form, expr_form, suffix_form, probe_form, nodes_form, led_nodes_form, maybe_node_form, lengths_form, type_form, specs_form, spec_form, members_form, rows_form, enumers_form, led_enumers_form, value_form, decls_form, decl_form, declarators_form, led_declarators_form, declarator_form, behind_form, params_form, param_list_form, led_params_form, param_form, maybe_init_form, init_form, inits_form, led_inits_form, marks_form, labels_form, ended, stmt_form, body_form, compound_form, items_form, maybe_line_form, external_form, externals_form, unit_form, tokens_of, Placed}
use Rattle.c_syntax.specs.Shape.{NodeShape, node, ExprShape, leaf, paren, call, prefix, size_of_type, cast, suffix, two, choose, probe, SuffixShape, index, field, behind, simple, select, NodeShapes, no_nodes, more_nodes, MaybeNode, no_node, one_node, LengthShapes, no_lengths, more_lengths, TypeShape, type_name, SpecShapes, no_specs, more_specs, SpecShape, word, struct, enum, MaybeDecls, no_members, members, MaybeEnumers, no_rows, rows, EnumerShapes, no_enumers, more_enumers, DeclShape, decl, DeclShapes, no_decls, more_decls, DeclaratorShape, declarator, DeclaratorShapes, no_declarators, more_declarators, DeclFormShape, arrays, function, ParamsShape, empty, void, params, MaybeInit, no_init, one_init, InitShape, one, listed, InitShapes, no_inits, more_inits, LabelShape, case, default, StmtShape, stmt, FormShape, compound, simply, when, either, while, do_while, for, switch, break, continue, return, CompoundShape, braces, ItemShapes, no_items, more_items, ExternalShape, defined, declared, UnitShape}
use Rattle.c_placing.specs.Placing.{past, after, at_form, at_probe, name_at, at_named, at_tag, at_stars, operator_at, at_node, at_expr, at_suffix, at_nodes, at_led, at_maybe, at_lengths, at_type, at_specs, at_spec, at_members, at_rows, at_enumers, at_led_enumers, at_value, at_decls, at_decl, at_names, at_led_names, at_name, at_behind, at_params, at_param_list, at_led_params, at_maybe_init, at_init, at_inits, at_led_inits, at_labels, at_marks, at_stmt, at_body, at_compound, at_items, at_external, at_externals, at_line, at_unit}

-- ---- forms at tokens of their kinds

abbrev HasKind : List TokenKind → Type 0
HasKind [] = ⊥
HasKind (x ∷ xs) = Unit {0}

abbrev first_of : TokenKind → List TokenKind → TokenKind
first_of d [] = d
first_of d (x ∷ xs) = x

abbrev rest_of : List TokenKind → List TokenKind
rest_of [] = []
rest_of (x ∷ xs) = xs

token_at : (ts : List Token) (x : TokenKind) (ks : List TokenKind) → kinds_of ts ≡ x ∷ ks → (head ts ≡ a_token x (past ts)) × (kinds_of (past ts) ≡ ks)
token_at [] x ks e = absurd (subst HasKind (sym e) tt)
token_at (t ∷ ts) x ks e = (ap (λ y. a_token y ts) (ap (first_of x) e), ap rest_of e)

written_at : (f : Form) (ts : List Token) (ks : List TokenKind) → kinds_of ts ≡ kinds f ++ ks → Written (at_form ts f) ts (after f ts) × (kinds_of (after f ts) ≡ ks)
written_at nothing ts ks e = (refl, e)
written_at (is x) ts ks e = token_at ts x ks e
written_at (at p x) ts ks e = let i = token_at ts x ks e in ((refl, i.0), i.1)
written_at (starts p f) ts ks e = let i = written_at f ts ks e in ((refl, i.0), i.1)
written_at (seq f g) ts ks e =
    let i = written_at f ts (kinds g ++ ks) (e ∙ append_assoc (kinds f) (kinds g) ks) in
    let j = written_at g (after f ts) ks i.1 in
    (record { middle = after f ts; first = i.0; second = j.0 }, j.1)

-- ---- what a tree at tokens is written as

three : {A B C D : Type 0} (h : A → B → C → D) {a b : A} {c d : B} {e f : C} → a ≡ b → c ≡ d → e ≡ f → h a c e ≡ h b d f
three h {a} {b} {c} {d} {e} {f} p q r = ap (λ x. h x c e) p ∙ ap₂ (h b) q r

consts_at : (ts : List Token) (n : ℕ) → at_form ts (consts_form n) ≡ consts_form n
consts_at ts zero = refl
consts_at ts (suc n) = ap (λ x. key k.Const ▷ x) (consts_at (past ts) n)

stars_at : (ts : List Token) (s : List Star) → at_form ts (stars_form s) ≡ stars_form (at_stars ts s)
stars_at ts [] = refl
stars_at ts (s ∷ rest) = ap₂ (λ x y. mark_at (place ts) m.Star ▷ x ▷ y) (consts_at (past ts) s.consts) (stars_at (after (consts_form s.consts) (past ts)) rest)

named_as_at : (ts : List Token) (p : Pos) (x : Text) (o : Option ProbeMark) → at_form ts (named_as p x o) ≡ named_as (place (name_at ts o)) x (at_probe ts o)
named_as_at ts p x None = refl
named_as_at ts p x (Some d) = refl

named_at : (ts : List Token) (n : Named) → at_form ts (named_form n) ≡ named_form (at_named ts n)
named_at ts n = named_as_at ts n.pos n.text n.probe

tag_at : (ts : List Token) (n : Option Named) → at_form ts (maybe_named_form n) ≡ maybe_named_form (at_tag ts n)
tag_at ts None = refl
tag_at ts (Some n) = named_at ts n

mutual
  pub node_at : (ts : List Token) (a : NodeShape) → at_form ts (node_form a) ≡ node_form (at_node ts a)
  node_at ts (node p o n f) = ap (starts (place ts)) (expr_at ts o f)

  expr_at : (ts : List Token) (o : Pos) (f : ExprShape) → at_form ts (expr_form o f) ≡ expr_form (place (operator_at ts f)) (at_expr ts f)
  expr_at ts o (leaf l) = refl
  expr_at ts o (paren a) = ap (λ x. mark_at (place ts) m.LeftParen ▷ x ▷ mark m.RightParen) (node_at (past ts) a)
  expr_at ts o (call x args) = ap (λ y. at (place ts) (kind.Word x) ▷ mark m.LeftParen ▷ y ▷ mark m.RightParen) (nodes_at (past (past ts)) args)
  expr_at ts o (prefix u a) = ap (λ x. at (place ts) (prefix_kind u) ▷ x) (node_at (past ts) a)
  expr_at ts o (size_of_type t) = ap (λ x. key_at (place ts) k.Sizeof ▷ in_parens x) (type_at (past (past ts)) t)
  expr_at ts o (cast t a) = ap₂ (λ x y. mark_at (place ts) m.LeftParen ▷ x ▷ mark m.RightParen ▷ y) (type_at (past ts) t) (node_at (past (after (type_form t) (past ts))) a)
  expr_at ts o (suffix a s) = ap₂ (λ x y. x ▷ y) (node_at ts a) (suffix_at (after (node_form a) ts) o s)
  expr_at ts o (two u a b) =
      let t = after (node_form a) ts in
      ap₂ (λ x y. x ▷ mark_at (place t) (infix_mark u) ▷ y) (node_at ts a) (node_at (past t) b)
  expr_at ts o (choose a b c) =
      let t = after (node_form a) ts in
      three (λ x y z. x ▷ mark_at (place t) m.Question ▷ y ▷ mark m.Colon ▷ z) (node_at ts a) (node_at (past t) b) (node_at (past (after (node_form b) (past t))) c)
  expr_at ts o (probe (simple u x) a) = ap (λ y. probe_form (place ts) (simple u x) y) (node_at (past (past (past (past ts)))) a)
  expr_at ts o (probe (select x cs) a) =
      let t = past (past (past ts)) in
      ap₂ (λ y z. probe_at (place ts) w.Select ▷ in_parens (is (kind.Number x) ▷ y ▷ mark m.Semicolon ▷ z)) (led_at t cs) (node_at (past (after (led_nodes_form cs) t)) a)

  suffix_at : (ts : List Token) (o : Pos) (s : SuffixShape) → at_form ts (suffix_form o s) ≡ suffix_form (place ts) (at_suffix ts s)
  suffix_at ts o (index b) = ap (λ x. mark_at (place ts) m.LeftBracket ▷ x ▷ mark m.RightBracket) (node_at (past ts) b)
  suffix_at ts o (field h x p) = refl
  suffix_at ts o (behind s) = refl

  nodes_at : (ts : List Token) (es : NodeShapes) → at_form ts (nodes_form es) ≡ nodes_form (at_nodes ts es)
  nodes_at ts no_nodes = refl
  nodes_at ts (more_nodes a rest) = ap₂ (λ x y. x ▷ y) (node_at ts a) (led_at (after (node_form a) ts) rest)

  led_at : (ts : List Token) (es : NodeShapes) → at_form ts (led_nodes_form es) ≡ led_nodes_form (at_led ts es)
  led_at ts no_nodes = refl
  led_at ts (more_nodes a rest) = ap₂ (λ x y. mark m.Comma ▷ x ▷ y) (node_at (past ts) a) (led_at (after (node_form a) (past ts)) rest)

  maybe_at : (ts : List Token) (e : MaybeNode) → at_form ts (maybe_node_form e) ≡ maybe_node_form (at_maybe ts e)
  maybe_at ts no_node = refl
  maybe_at ts (one_node a) = node_at ts a

  lengths_at : (ts : List Token) (ls : LengthShapes) → at_form ts (lengths_form ls) ≡ lengths_form (at_lengths ts ls)
  lengths_at ts no_lengths = refl
  lengths_at ts (more_lengths l rest) = ap₂ (λ x y. mark m.LeftBracket ▷ x ▷ mark m.RightBracket ▷ y) (maybe_at (past ts) l) (lengths_at (past (after (maybe_node_form l) (past ts))) rest)

  type_at : (ts : List Token) (t : TypeShape) → at_form ts (type_form t) ≡ type_form (at_type ts t)
  type_at ts (type_name p specs stars ls) =
      let t = after (specs_form specs) ts in
      three (λ x y z. starts (place ts) (x ▷ y ▷ z)) (specs_at ts specs) (stars_at t stars) (lengths_at (after (stars_form stars) t) ls)

  specs_at : (ts : List Token) (s : SpecShapes) → at_form ts (specs_form s) ≡ specs_form (at_specs ts s)
  specs_at ts no_specs = refl
  specs_at ts (more_specs p s rest) = ap₂ (λ x y. starts (place ts) x ▷ y) (spec_at ts s) (specs_at (after (spec_form s) ts) rest)

  spec_at : (ts : List Token) (s : SpecShape) → at_form ts (spec_form s) ≡ spec_form (at_spec ts s)
  spec_at ts (word x) = refl
  spec_at ts (struct tag ds) = ap₂ (λ x y. key k.Struct ▷ x ▷ y) (tag_at (past ts) tag) (members_at (after (maybe_named_form tag) (past ts)) ds)
  spec_at ts (enum tag es) = ap₂ (λ x y. key k.Enum ▷ x ▷ y) (tag_at (past ts) tag) (rows_at (after (maybe_named_form tag) (past ts)) es)

  members_at : (ts : List Token) (ds : MaybeDecls) → at_form ts (members_form ds) ≡ members_form (at_members ts ds)
  members_at ts no_members = refl
  members_at ts (members ds) = ap (λ x. mark m.LeftBrace ▷ x ▷ mark m.RightBrace) (decls_at (past ts) ds)

  rows_at : (ts : List Token) (es : MaybeEnumers) → at_form ts (rows_form es) ≡ rows_form (at_rows ts es)
  rows_at ts no_rows = refl
  rows_at ts (rows es) = ap (λ x. mark m.LeftBrace ▷ x ▷ mark m.RightBrace) (enumers_at (past ts) es)

  enumers_at : (ts : List Token) (es : EnumerShapes) → at_form ts (enumers_form es) ≡ enumers_form (at_enumers ts es)
  enumers_at ts no_enumers = refl
  enumers_at ts (more_enumers n v rest) =
      let t = after (named_form n) ts in
      three (λ x y z. x ▷ y ▷ z) (named_at ts n) (value_at t v) (led_enumers_at (after (value_form v) t) rest)

  led_enumers_at : (ts : List Token) (es : EnumerShapes) → at_form ts (led_enumers_form es) ≡ led_enumers_form (at_led_enumers ts es)
  led_enumers_at ts no_enumers = refl
  led_enumers_at ts (more_enumers n v rest) =
      let t = after (named_form n) (past ts) in
      three (λ x y z. mark m.Comma ▷ x ▷ y ▷ z) (named_at (past ts) n) (value_at t v) (led_enumers_at (after (value_form v) t) rest)

  value_at : (ts : List Token) (v : MaybeNode) → at_form ts (value_form v) ≡ value_form (at_value ts v)
  value_at ts no_node = refl
  value_at ts (one_node a) = ap (λ x. mark m.Equal ▷ x) (node_at (past ts) a)

  decls_at : (ts : List Token) (ds : DeclShapes) → at_form ts (decls_form ds) ≡ decls_form (at_decls ts ds)
  decls_at ts no_decls = refl
  decls_at ts (more_decls d rest) = ap₂ (λ x y. x ▷ y) (decl_at ts d) (decls_at (after (decl_form d) ts) rest)

  decl_at : (ts : List Token) (d : DeclShape) → at_form ts (decl_form d) ≡ decl_form (at_decl ts d)
  decl_at ts (decl p specs ds) = ap₂ (λ x y. starts (place ts) (x ▷ y ▷ mark m.Semicolon)) (specs_at ts specs) (names_at (after (specs_form specs) ts) ds)

  names_at : (ts : List Token) (ds : DeclaratorShapes) → at_form ts (declarators_form ds) ≡ declarators_form (at_names ts ds)
  names_at ts no_declarators = refl
  names_at ts (more_declarators d rest) = ap₂ (λ x y. x ▷ y) (declarator_at ts d) (led_names_at (after (declarator_form d) ts) rest)

  led_names_at : (ts : List Token) (ds : DeclaratorShapes) → at_form ts (led_declarators_form ds) ≡ led_declarators_form (at_led_names ts ds)
  led_names_at ts no_declarators = refl
  led_names_at ts (more_declarators d rest) = ap₂ (λ x y. mark m.Comma ▷ x ▷ y) (declarator_at (past ts) d) (led_names_at (after (declarator_form d) (past ts)) rest)

  declarator_at : (ts : List Token) (d : DeclaratorShape) → at_form ts (declarator_form d) ≡ declarator_form (at_name ts d)
  declarator_at ts (declarator stars n f i) =
      let t = after (stars_form stars) ts in
      let u = after (maybe_named_form n) t in
      ap₂ (λ x y. x ▷ y) (stars_at ts stars) (three (λ x y z. x ▷ y ▷ z) (tag_at t n) (behind_at u f) (maybe_init_at (after (behind_form f) u) i))

  behind_at : (ts : List Token) (f : DeclFormShape) → at_form ts (behind_form f) ≡ behind_form (at_behind ts f)
  behind_at ts (arrays ls) = lengths_at ts ls
  behind_at ts (function ps) = ap in_parens (params_at (past ts) ps)

  params_at : (ts : List Token) (ps : ParamsShape) → at_form ts (params_form ps) ≡ params_form (at_params ts ps)
  params_at ts empty = refl
  params_at ts void = refl
  params_at ts (params ds) = param_list_at ts ds

  pub param_list_at : (ts : List Token) (ds : DeclShapes) → at_form ts (param_list_form ds) ≡ param_list_form (at_param_list ts ds)
  param_list_at ts no_decls = refl
  param_list_at ts (more_decls d rest) = ap₂ (λ x y. x ▷ y) (param_at ts d) (led_params_at (after (param_form d) ts) rest)

  led_params_at : (ts : List Token) (ds : DeclShapes) → at_form ts (led_params_form ds) ≡ led_params_form (at_led_params ts ds)
  led_params_at ts no_decls = refl
  led_params_at ts (more_decls d rest) = ap₂ (λ x y. mark m.Comma ▷ x ▷ y) (param_at (past ts) d) (led_params_at (after (param_form d) (past ts)) rest)

  param_at : (ts : List Token) (d : DeclShape) → at_form ts (param_form d) ≡ param_form (at_decl ts d)
  param_at ts (decl p specs ds) = ap₂ (λ x y. starts (place ts) (x ▷ y)) (specs_at ts specs) (names_at (after (specs_form specs) ts) ds)

  maybe_init_at : (ts : List Token) (i : MaybeInit) → at_form ts (maybe_init_form i) ≡ maybe_init_form (at_maybe_init ts i)
  maybe_init_at ts no_init = refl
  maybe_init_at ts (one_init i) = ap (λ x. mark m.Equal ▷ x) (init_at (past ts) i)

  init_at : (ts : List Token) (i : InitShape) → at_form ts (init_form i) ≡ init_form (at_init ts i)
  init_at ts (one a) = node_at ts a
  init_at ts (listed p list true) = ap (λ x. mark_at (place ts) m.LeftBrace ▷ x ▷ comma_form true ▷ mark m.RightBrace) (inits_at (past ts) list)
  init_at ts (listed p list false) = ap (λ x. mark_at (place ts) m.LeftBrace ▷ x ▷ comma_form false ▷ mark m.RightBrace) (inits_at (past ts) list)

  inits_at : (ts : List Token) (list : InitShapes) → at_form ts (inits_form list) ≡ inits_form (at_inits ts list)
  inits_at ts no_inits = refl
  inits_at ts (more_inits i rest) = ap₂ (λ x y. x ▷ y) (init_at ts i) (led_inits_at (after (init_form i) ts) rest)

  led_inits_at : (ts : List Token) (list : InitShapes) → at_form ts (led_inits_form list) ≡ led_inits_form (at_led_inits ts list)
  led_inits_at ts no_inits = refl
  led_inits_at ts (more_inits i rest) = ap₂ (λ x y. mark m.Comma ▷ x ▷ y) (init_at (past ts) i) (led_inits_at (after (init_form i) (past ts)) rest)

-- ---- statements

labels_at : (ts : List Token) (ls : List LabelShape) → at_form ts (labels_form ls) ≡ labels_form (at_labels ts ls)
labels_at ts [] = refl
labels_at ts (case p e ∷ rest) = ap₂ (λ x y. key_at (place ts) k.Case ▷ x ▷ mark m.Colon ▷ y) (node_at (past ts) e) (labels_at (past (after (node_form e) (past ts))) rest)
labels_at ts (default p ∷ rest) = ap (λ x. key_at (place ts) k.Default ▷ mark m.Colon ▷ x) (labels_at (past (past ts)) rest)

marks_at : (ts : List Token) (ms : List ProbeMark) → at_form ts (marks_form ms) ≡ marks_form (at_marks ts ms)
marks_at ts [] = refl
marks_at ts (b ∷ rest) = ap (λ x. probe_at (place ts) w.Block ▷ in_parens (is (kind.Number b.number)) ▷ mark m.Colon ▷ x) (marks_at (past (past (past (past (past ts))))) rest)

mutual
  stmt_at : (ts : List Token) (a : StmtShape) → at_form ts (stmt_form a) ≡ stmt_form (at_stmt ts a)
  stmt_at ts (stmt p marks q f) =
      let t = after (marks_form marks) ts in
      ap₂ (λ x y. starts (place ts) (x ▷ starts (place t) y)) (marks_at ts marks) (body_at t f)

  body_at : (ts : List Token) (f : FormShape) → at_form ts (body_form f) ≡ body_form (at_body ts f)
  body_at ts (compound c) = compound_at ts c
  body_at ts (simply e) = ap ended (maybe_at ts e)
  body_at ts (when e s) =
      let t = past (past ts) in
      ap₂ (λ x y. key k.If ▷ in_parens x ▷ y) (node_at t e) (stmt_at (past (after (node_form e) t)) s)
  body_at ts (either e s r) =
      let t = past (past ts) in
      let u = past (after (node_form e) t) in
      three (λ x y z. key k.If ▷ in_parens x ▷ y ▷ key k.Else ▷ z) (node_at t e) (stmt_at u s) (stmt_at (past (after (stmt_form s) u)) r)
  body_at ts (while e s) =
      let t = past (past ts) in
      ap₂ (λ x y. key k.While ▷ in_parens x ▷ y) (node_at t e) (stmt_at (past (after (node_form e) t)) s)
  body_at ts (do_while s e) = ap₂ (λ x y. key k.Do ▷ x ▷ key k.While ▷ ended (in_parens y)) (stmt_at (past ts) s) (node_at (past (past (after (stmt_form s) (past ts)))) e)
  body_at ts (for a b c s) =
      let t = past (past ts) in
      let u = past (after (maybe_node_form a) t) in
      let v = past (after (maybe_node_form b) u) in
      ap₂ (λ x y. key k.For ▷ in_parens x ▷ y) (three (λ x y z. ended x ▷ ended y ▷ z) (maybe_at t a) (maybe_at u b) (maybe_at v c)) (stmt_at (past (after (maybe_node_form c) v)) s)
  body_at ts (switch e items) =
      let t = past (past ts) in
      ap₂ (λ x y. key k.Switch ▷ in_parens x ▷ mark m.LeftBrace ▷ y ▷ mark m.RightBrace) (node_at t e) (items_at (past (past (after (node_form e) t))) items)
  body_at ts break = refl
  body_at ts continue = refl
  body_at ts (return e) = ap (λ x. ended (key k.Return ▷ x)) (maybe_at (past ts) e)

  compound_at : (ts : List Token) (c : CompoundShape) → at_form ts (compound_form c) ≡ compound_form (at_compound ts c)
  compound_at ts (braces p ds items) = ap₂ (λ x y. mark_at (place ts) m.LeftBrace ▷ x ▷ y ▷ mark m.RightBrace) (decls_at (past ts) ds) (items_at (after (decls_form ds) (past ts)) items)

  items_at : (ts : List Token) (items : ItemShapes) → at_form ts (items_form items) ≡ items_form (at_items ts items)
  items_at ts no_items = refl
  items_at ts (more_items labels s rest) =
      let t = after (labels_form labels) ts in
      three (λ x y z. x ▷ y ▷ z) (labels_at ts labels) (stmt_at t s) (items_at (after (stmt_form s) t) rest)

-- ---- units

external_at : (ts : List Token) (e : ExternalShape) → at_form ts (external_form e) ≡ external_form (at_external ts e)
external_at ts (defined specs d marks c) =
    let t = after (specs_form specs) ts in
    let u = after (declarator_form d) t in
    ap₂ (λ x y. x ▷ y) (specs_at ts specs) (three (λ x y z. x ▷ y ▷ z) (declarator_at t d) (marks_at u marks) (compound_at (after (marks_form marks) u) c))
external_at ts (declared d) = decl_at ts d

externals_at : (ts : List Token) (es : List ExternalShape) → at_form ts (externals_form es) ≡ externals_form (at_externals ts es)
externals_at ts [] = refl
externals_at ts (e ∷ rest) = ap₂ (λ x y. x ▷ y) (external_at ts e) (externals_at (after (external_form e) ts) rest)

line_at : (ts : List Token) (l : Option ProgramLine) → at_form ts (maybe_line_form l) ≡ maybe_line_form (at_line ts l)
line_at ts None = refl
line_at ts (Some l) = refl

unit_at : (ts : List Token) (u : UnitShape) → at_form ts (unit_form u) ≡ unit_form (at_unit ts u)
unit_at ts u = ap₂ (λ x y. starts (place ts) (x ▷ y)) (line_at ts u.line) (externals_at (after (maybe_line_form u.line) ts) u.externals)

nothing_left : (ts : List Token) → kinds_of ts ≡ [] → ts ≡ []
nothing_left [] e = refl
nothing_left (t ∷ ts) e = absurd (subst HasKind e tt)

-- so the unit can be placed on them
pub unit_is_placed : (ts : List Token) (u : UnitShape) → kinds_of ts ≡ tokens_of u → Placed (at_unit ts u) ts
unit_is_placed ts u e =
    let i = written_at (unit_form u) ts [] (e ∙ sym (append-nil (kinds (unit_form u)))) in
    record {
      written = subst (λ f. Written f ts []) (unit_at ts u) (subst (λ rest. Written (at_form ts (unit_form u)) ts rest) (nothing_left (after (unit_form u) ts) i.1) i.0);
      last = refl;
    }
