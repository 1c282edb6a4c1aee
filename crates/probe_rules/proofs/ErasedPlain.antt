-- Where no probe stands, the tree without its probes is the tree.
use Rattle.std.proofs.Common.{◌≡◌, List, [], ◌∷◌, map, Option, Some, None, refl, ap, ap₂}
use Rattle.std.specs.Prelude.{option_map}
use Rattle.c_base.specs.declared.place.Pos.{Pos}
use Rattle.c_syntax.specs.declared.tree.Named.{Named}
use Rattle.c_syntax.specs.declared.tree.ProbeMark.{ProbeMark}
use Rattle.c_syntax.specs.declared.tree.ProgramLine.{ProgramLine}
use Rattle.c_syntax.specs.Shape.{NoteShape, NodeShape, node, ExprShape, leaf, paren, call, prefix, size_of_type, cast, suffix, two, choose, probe, SuffixShape, index, field, behind, NodeShapes, no_nodes, more_nodes, MaybeNode, no_node, one_node, LengthShapes, no_lengths, more_lengths, TypeShape, type_name, SpecShapes, no_specs, more_specs, SpecShape, word, struct, enum, MaybeDecls, no_members, members, MaybeEnumers, no_rows, rows, EnumerShapes, no_enumers, more_enumers, DeclShape, decl, DeclShapes, no_decls, more_decls, DeclaratorShape, declarator, DeclaratorShapes, no_declarators, more_declarators, DeclFormShape, arrays, function, ParamsShape, empty, void, params, MaybeInit, no_init, one_init, InitShape, one, listed, InitShapes, no_inits, more_inits, LabelShape, case, default, StmtShape, stmt, FormShape, compound, simply, when, either, while, do_while, for, switch, break, continue, return, CompoundShape, braces, ItemShapes, no_items, more_items, ExternalShape, defined, declared, UnitShape}
use Rattle.c_tree.specs.Erased.{erased_name, erased_node, erased_form, erased_suffix, erased_nodes, erased_maybe, erased_lengths, erased_type, erased_specs, erased_spec, erased_members, erased_rows, erased_enumers, erased_decl, erased_decls, erased_declarator, erased_declarators, erased_behind, erased_params, erased_maybe_init, erased_init, erased_inits, erased_label, erased_stmt, erased_body, erased_compound, erased_items, erased_external, erased_unit}
use Rattle.c_sites_probes.specs.Marked.{first, mark_in, name_mark, mark_among, node_mark, form_mark, suffix_mark, nodes_mark, maybe_mark, lengths_mark, type_mark, specs_mark, spec_mark, members_mark, rows_mark, enumers_mark, decls_mark, decl_mark, declarators_mark, declarator_mark, behind_mark, params_mark, maybe_init_mark, init_mark, inits_mark, label_mark, labels_mark, stmt_mark, body_mark, compound_mark, items_mark, external_mark, externals_mark, line_mark, unit_mark}
use Rattle.probe_rules.proofs.ReadyUnits.{some_none, none_first, none_second}

-- of two parts, where neither has a probe
pub both_plain : {A B C : Type 0} (k : A → B → C) {x y : A} {z w : B} (m n : Option Pos) → first m n ≡ None → (m ≡ None → x ≡ y) → (n ≡ None → z ≡ w) → k x z ≡ k y w
both_plain k m n none go next = ap₂ k (go (none_first m n none)) (next (none_second m n none))

-- ---- probes round a name, in front of a statement, and the line of a program

mark_none : (m : Option ProbeMark) → mark_in m ≡ None → None ≡ m
mark_none None none = refl
mark_none (Some m) none = absurd (some_none m.pos none)

named_plain : (x : Named) → mark_in x.probe ≡ None → erased_name x ≡ x
named_plain x none = ap (λ m. record x { probe = m }) (mark_none x.probe none)

pub name_plain : (x : Option Named) → name_mark x ≡ None → option_map erased_name x ≡ x
name_plain None none = refl
name_plain (Some x) none = ap Some (named_plain x none)

pub among_none : (ms : List ProbeMark) → mark_among ms ≡ None → [] ≡ ms
among_none [] none = refl
among_none (m ∷ ms) none = absurd (some_none m.pos none)

pub line_none : (l : Option ProgramLine) → line_mark l ≡ None → None ≡ l
line_none None none = refl
line_none (Some l) none = absurd (some_none l.pos none)

-- ---- expressions, types and declarations

mutual
  pub node_plain : (a : NodeShape) → node_mark a ≡ None → erased_node a ≡ a
  node_plain (node p o n f) none = form_plain p o n f none

  pub form_plain : (p o : Pos) (n : NoteShape) (f : ExprShape) → form_mark p f ≡ None → erased_form p o n f ≡ node p o n f
  form_plain p o n (leaf l) none = refl
  form_plain p o n (paren a) none = ap (λ x. node p o n (paren x)) (node_plain a none)
  form_plain p o n (call x args) none = ap (λ y. node p o n (call x y)) (nodes_plain args none)
  form_plain p o n (prefix u a) none = ap (λ x. node p o n (prefix u x)) (node_plain a none)
  form_plain p o n (size_of_type t) none = ap (λ x. node p o n (size_of_type x)) (type_plain t none)
  form_plain p o n (cast t a) none = both_plain (λ x y. node p o n (cast x y)) (type_mark t) (node_mark a) none (λ e. type_plain t e) (λ e. node_plain a e)
  form_plain p o n (suffix a s) none = both_plain (λ x y. node p o n (suffix x y)) (node_mark a) (suffix_mark s) none (λ e. node_plain a e) (λ e. suffix_plain s e)
  form_plain p o n (two u a b) none = both_plain (λ x y. node p o n (two u x y)) (node_mark a) (node_mark b) none (λ e. node_plain a e) (λ e. node_plain b e)
  form_plain p o n (choose a b c) none =
      both_plain (λ x (y : NodeShape × NodeShape). node p o n (choose x y.0 y.1)) (node_mark a) (first (node_mark b) (node_mark c)) none (λ e. node_plain a e) (λ e.
      both_plain (λ y z. (y, z)) (node_mark b) (node_mark c) e (λ e. node_plain b e) (λ e. node_plain c e))
  form_plain p o n (probe u a) none = absurd (some_none p none)

  suffix_plain : (s : SuffixShape) → suffix_mark s ≡ None → erased_suffix s ≡ s
  suffix_plain (index b) none = ap index (node_plain b none)
  suffix_plain (field h x q) none = refl
  suffix_plain (behind u) none = refl

  pub nodes_plain : (l : NodeShapes) → nodes_mark l ≡ None → erased_nodes l ≡ l
  nodes_plain no_nodes none = refl
  nodes_plain (more_nodes a rest) none = both_plain more_nodes (node_mark a) (nodes_mark rest) none (λ e. node_plain a e) (λ e. nodes_plain rest e)

  pub maybe_plain : (e : MaybeNode) → maybe_mark e ≡ None → erased_maybe e ≡ e
  maybe_plain no_node none = refl
  maybe_plain (one_node a) none = ap one_node (node_plain a none)

  pub lengths_plain : (l : LengthShapes) → lengths_mark l ≡ None → erased_lengths l ≡ l
  lengths_plain no_lengths none = refl
  lengths_plain (more_lengths l rest) none = both_plain more_lengths (maybe_mark l) (lengths_mark rest) none (λ e. maybe_plain l e) (λ e. lengths_plain rest e)

  pub type_plain : (t : TypeShape) → type_mark t ≡ None → erased_type t ≡ t
  type_plain (type_name p specs stars ls) none = both_plain (λ x y. type_name p x stars y) (specs_mark specs) (lengths_mark ls) none (λ e. specs_plain specs e) (λ e. lengths_plain ls e)

  pub specs_plain : (l : SpecShapes) → specs_mark l ≡ None → erased_specs l ≡ l
  specs_plain no_specs none = refl
  specs_plain (more_specs p s rest) none = both_plain (more_specs p) (spec_mark s) (specs_mark rest) none (λ e. spec_plain s e) (λ e. specs_plain rest e)

  spec_plain : (s : SpecShape) → spec_mark s ≡ None → erased_spec s ≡ s
  spec_plain (word k) none = refl
  spec_plain (struct t ds) none = both_plain struct (name_mark t) (members_mark ds) none (name_plain t) (λ e. members_plain ds e)
  spec_plain (enum t es) none = both_plain enum (name_mark t) (rows_mark es) none (name_plain t) (λ e. rows_plain es e)

  members_plain : (ds : MaybeDecls) → members_mark ds ≡ None → erased_members ds ≡ ds
  members_plain no_members none = refl
  members_plain (members ds) none = ap members (decls_plain ds none)

  rows_plain : (es : MaybeEnumers) → rows_mark es ≡ None → erased_rows es ≡ es
  rows_plain no_rows none = refl
  rows_plain (rows es) none = ap rows (enumers_plain es none)

  enumers_plain : (es : EnumerShapes) → enumers_mark es ≡ None → erased_enumers es ≡ es
  enumers_plain no_enumers none = refl
  enumers_plain (more_enumers x v rest) none =
      both_plain (λ x (y : MaybeNode × EnumerShapes). more_enumers x y.0 y.1) (mark_in x.probe) (first (maybe_mark v) (enumers_mark rest)) none (named_plain x) (λ e.
      both_plain (λ y z. (y, z)) (maybe_mark v) (enumers_mark rest) e (λ e. maybe_plain v e) (λ e. enumers_plain rest e))

  pub decl_plain : (d : DeclShape) → decl_mark d ≡ None → erased_decl d ≡ d
  decl_plain (decl p specs ds) none = both_plain (decl p) (specs_mark specs) (declarators_mark ds) none (λ e. specs_plain specs e) (λ e. declarators_plain ds e)

  pub decls_plain : (ds : DeclShapes) → decls_mark ds ≡ None → erased_decls ds ≡ ds
  decls_plain no_decls none = refl
  decls_plain (more_decls d rest) none = both_plain more_decls (decl_mark d) (decls_mark rest) none (λ e. decl_plain d e) (λ e. decls_plain rest e)

  pub declarator_plain : (d : DeclaratorShape) → declarator_mark d ≡ None → erased_declarator d ≡ d
  declarator_plain (declarator stars x f i) none =
      both_plain (λ x (y : DeclFormShape × MaybeInit). declarator stars x y.0 y.1) (name_mark x) (first (behind_mark f) (maybe_init_mark i)) none (name_plain x) (λ e.
      both_plain (λ y z. (y, z)) (behind_mark f) (maybe_init_mark i) e (λ e. behind_plain f e) (λ e. maybe_init_plain i e))

  pub declarators_plain : (ds : DeclaratorShapes) → declarators_mark ds ≡ None → erased_declarators ds ≡ ds
  declarators_plain no_declarators none = refl
  declarators_plain (more_declarators d rest) none = both_plain more_declarators (declarator_mark d) (declarators_mark rest) none (λ e. declarator_plain d e) (λ e. declarators_plain rest e)

  pub behind_plain : (f : DeclFormShape) → behind_mark f ≡ None → erased_behind f ≡ f
  behind_plain (arrays ls) none = ap arrays (lengths_plain ls none)
  behind_plain (function ps) none = ap function (params_plain ps none)

  params_plain : (ps : ParamsShape) → params_mark ps ≡ None → erased_params ps ≡ ps
  params_plain empty none = refl
  params_plain void none = refl
  params_plain (params ds) none = ap params (decls_plain ds none)

  pub maybe_init_plain : (i : MaybeInit) → maybe_init_mark i ≡ None → erased_maybe_init i ≡ i
  maybe_init_plain no_init none = refl
  maybe_init_plain (one_init i) none = ap one_init (init_plain i none)

  init_plain : (i : InitShape) → init_mark i ≡ None → erased_init i ≡ i
  init_plain (one a) none = ap one (node_plain a none)
  init_plain (listed p is last) none = ap (λ x. listed p x last) (inits_plain is none)

  pub inits_plain : (is : InitShapes) → inits_mark is ≡ None → erased_inits is ≡ is
  inits_plain no_inits none = refl
  inits_plain (more_inits i rest) none = both_plain more_inits (init_mark i) (inits_mark rest) none (λ e. init_plain i e) (λ e. inits_plain rest e)

-- ---- statements

label_plain : (l : LabelShape) → label_mark l ≡ None → erased_label l ≡ l
label_plain (case p a) none = ap (case p) (node_plain a none)
label_plain (default p) none = refl

pub labels_plain : (ls : List LabelShape) → labels_mark ls ≡ None → map erased_label ls ≡ ls
labels_plain [] none = refl
labels_plain (l ∷ rest) none = both_plain (λ x xs. x ∷ xs) (label_mark l) (labels_mark rest) none (label_plain l) (λ e. labels_plain rest e)

mutual
  stmt_plain : (a : StmtShape) → stmt_mark a ≡ None → erased_stmt a ≡ a
  stmt_plain (stmt p ms q f) none = both_plain (λ x y. stmt p x q y) (mark_among ms) (body_mark f) none (among_none ms) (λ e. body_plain f e)

  body_plain : (f : FormShape) → body_mark f ≡ None → erased_body f ≡ f
  body_plain (compound c) none = ap compound (compound_plain c none)
  body_plain (simply e) none = ap simply (maybe_plain e none)
  body_plain (when e a) none = both_plain when (node_mark e) (stmt_mark a) none (node_plain e) (λ e. stmt_plain a e)
  body_plain (either e a b) none =
      both_plain (λ x (y : StmtShape × StmtShape). either x y.0 y.1) (node_mark e) (first (stmt_mark a) (stmt_mark b)) none (node_plain e) (λ e.
      both_plain (λ y z. (y, z)) (stmt_mark a) (stmt_mark b) e (λ e. stmt_plain a e) (λ e. stmt_plain b e))
  body_plain (while e a) none = both_plain while (node_mark e) (stmt_mark a) none (node_plain e) (λ e. stmt_plain a e)
  body_plain (do_while a e) none = both_plain do_while (stmt_mark a) (node_mark e) none (λ e. stmt_plain a e) (node_plain e)
  body_plain (for e f g a) none =
      both_plain (λ x (y : MaybeNode × MaybeNode × StmtShape). for x y.0 y.1 y.2) (maybe_mark e) (first (maybe_mark f) (first (maybe_mark g) (stmt_mark a))) none (maybe_plain e) (λ e.
      both_plain (λ y (z : MaybeNode × StmtShape). (y, z.0, z.1)) (maybe_mark f) (first (maybe_mark g) (stmt_mark a)) e (maybe_plain f) (λ e.
      both_plain (λ y z. (y, z)) (maybe_mark g) (stmt_mark a) e (maybe_plain g) (λ e. stmt_plain a e)))
  body_plain (switch e items) none = both_plain switch (node_mark e) (items_mark items) none (node_plain e) (λ e. items_plain items e)
  body_plain break none = refl
  body_plain continue none = refl
  body_plain (return e) none = ap return (maybe_plain e none)

  compound_plain : (c : CompoundShape) → compound_mark c ≡ None → erased_compound c ≡ c
  compound_plain (braces p ds items) none = both_plain (braces p) (decls_mark ds) (items_mark items) none (decls_plain ds) (λ e. items_plain items e)

  items_plain : (items : ItemShapes) → items_mark items ≡ None → erased_items items ≡ items
  items_plain no_items none = refl
  items_plain (more_items labels a rest) none =
      both_plain (λ x (y : StmtShape × ItemShapes). more_items x y.0 y.1) (labels_mark labels) (first (stmt_mark a) (items_mark rest)) none (labels_plain labels) (λ e.
      both_plain (λ y z. (y, z)) (stmt_mark a) (items_mark rest) e (λ e. stmt_plain a e) (λ e. items_plain rest e))

-- ---- units

external_plain : (e : ExternalShape) → external_mark e ≡ None → erased_external e ≡ e
external_plain (defined specs d ms c) none =
    both_plain (λ x (y : DeclaratorShape × List ProbeMark × CompoundShape). defined x y.0 y.1 y.2) (specs_mark specs) (first (declarator_mark d) (first (mark_among ms) (compound_mark c))) none (specs_plain specs) (λ e.
    both_plain (λ y (z : List ProbeMark × CompoundShape). (y, z.0, z.1)) (declarator_mark d) (first (mark_among ms) (compound_mark c)) e (declarator_plain d) (λ e.
    both_plain (λ y z. (y, z)) (mark_among ms) (compound_mark c) e (among_none ms) (compound_plain c)))
external_plain (declared d) none = ap declared (decl_plain d none)

externals_plain : (es : List ExternalShape) → externals_mark es ≡ None → map erased_external es ≡ es
externals_plain [] none = refl
externals_plain (e ∷ rest) none = both_plain (λ x xs. x ∷ xs) (external_mark e) (externals_mark rest) none (external_plain e) (λ e. externals_plain rest e)

-- a unit in which neither a probe nor a program line stands
pub plain_erased : (u : UnitShape) → unit_mark u ≡ None → erased_unit u ≡ u
plain_erased u none = both_plain (λ l es. record u { line = l; externals = es }) (line_mark u.line) (externals_mark u.externals) none (line_none u.line) (externals_plain u.externals)
