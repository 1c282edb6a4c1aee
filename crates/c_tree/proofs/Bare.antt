-- Typing changes the notes of a tree, and nothing else of it.
use Rattle.std.proofs.Common.{◌≡◌, ℕ, ℤ, pos, List, [], ◌∷◌, ◌++◌, Option, Some, None, Bool, true, false, refl, sym, ap, ◌∙◌, map}
use Rattle.c_base.specs.declared.place.Pos.{Pos}
use Rattle.c_syntax.specs.declared.tree.Named.{Named}
use Rattle.c_syntax.specs.declared.tree.Star.{Star}
use Rattle.c_syntax.specs.Shape.{TypeOf, bare, Leaf, number, char, str, name, Prefix, unary, before, size_of, Infix, NodeShape, node, ExprShape, leaf, paren, call, prefix, size_of_type, cast, suffix, two, choose, probe, SuffixShape, index, field, behind, ProbeShape, simple, select, NodeShapes, no_nodes, more_nodes, MaybeNode, no_node, one_node, LengthShapes, no_lengths, more_lengths, TypeShape, type_name, SpecShapes, no_specs, more_specs, SpecShape, word, struct, enum, MaybeDecls, no_members, members, MaybeEnumers, no_rows, rows, EnumerShapes, no_enumers, more_enumers, DeclShape, decl, DeclShapes, no_decls, more_decls, DeclaratorShape, declarator, DeclaratorShapes, no_declarators, more_declarators, DeclFormShape, arrays, function, ParamsShape, empty, void, params, MaybeInit, no_init, one_init, InitShape, one, listed, InitShapes, no_inits, more_inits, LabelShape, case, default, StmtShape, stmt, FormShape, compound, simply, when, either, while, do_while, for, switch, break, continue, return, CompoundShape, braces, ItemShapes, no_items, more_items, ExternalShape, defined, declared, UnitShape}
use Rattle.c_constants.specs.Constants as constants
use Rattle.c_tables.specs.Tables.{FieldShape}
use Rattle.c_tree.specs.State.{State, step, steps}
use Rattle.c_tree.specs.Operators.{Given}
use Rattle.c_tree.specs.Parts.{Length, Spelled}
use Rattle.c_tree.specs.Typing.{type_node, type_form, type_arguments, type_cases, type_type, type_lengths, type_specs, type_struct, type_lines, type_fields, type_enum, rows_types, type_value}
use Rattle.c_tree.specs.Initialisers.{Slots, form_in, filled, chars_of, one_init_of, type_init, type_inits}
use Rattle.c_tree.specs.Declaring.{type_maybe_init, type_param_list, type_params, type_declarator, type_declarators, type_decl, type_decls}
use Rattle.c_tree.specs.Stating.{Surroundings, Labels, case_labels, default_labels, type_maybe, type_test, type_result, type_labels, type_stmt, type_body, type_compound, type_items}
use Rattle.c_tree.specs.Units.{type_external, type_externals, type_unit}
use Rattle.c_tree.specs.Unnoted.{bare_node, bare_form, bare_suffix, bare_probe, bare_nodes, bare_maybe, bare_lengths, bare_type, bare_specs, bare_spec, bare_members, bare_rows, bare_enumers, bare_decl, bare_decls, bare_name, bare_names, bare_behind, bare_params, bare_maybe_init, bare_init, bare_inits, bare_label, bare_stmt, bare_body, bare_compound, bare_items, bare_external, bare_unit}

both : {A B C : Type 0} (k : A → B → C) {x y : A} {z w : B} → x ≡ y → z ≡ w → k x z ≡ k y w
both k {x} {y} {z} {w} e f = ap (λ a. k a z) e ∙ ap (k y) f

three : {A B C D : Type 0} (k : A → B → C → D) {a b : A} {c d : B} {e f : C} → a ≡ b → c ≡ d → e ≡ f → k a c e ≡ k b d f
three k {a} {b} {c} {d} {e} {f} p q r = ap (λ x. k x c e) p ∙ ap (λ x. k b x e) q ∙ ap (k b d) r

four : {A B C D E : Type 0} (k : A → B → C → D → E) {a b : A} {c d : B} {e f : C} {g h : D} → a ≡ b → c ≡ d → e ≡ f → g ≡ h → k a c e g ≡ k b d f h
four k {a} {b} {c} {d} {e} {f} {g} {h} p q r s = ap (λ x. k x c e g) p ∙ ap (λ x. k b x e g) q ∙ ap (λ x. k b d x g) r ∙ ap (k b d f) s

abbrev bare_of : Pos → Pos → ExprShape → NodeShape
bare_of p o f = node p o bare f

mutual
  pub node_bare : (a : NodeShape) (s : State) → bare_node (type_node a s).node ≡ bare_node a
  node_bare (node p o n f) s = ap (bare_of p o) (form_bare p o f _)

  pub form_bare : (p o : Pos) (f : ExprShape) (s : State) → bare_form (type_form p o f s).form ≡ bare_form f
  form_bare p o (leaf (number t)) s = refl
  form_bare p o (leaf (char c)) s = refl
  form_bare p o (leaf (str t)) s = refl
  form_bare p o (leaf (name x)) s = refl
  form_bare p o (paren a) s = ap paren (node_bare a _)
  form_bare p o (call x args) s = ap (call x) (arguments_bare [] args _)
  form_bare p o (prefix (unary u) a) s = ap (prefix (unary u)) (node_bare a _)
  form_bare p o (prefix (before u) a) s = ap (prefix (before u)) (node_bare a _)
  form_bare p o (prefix size_of a) s = ap (prefix size_of) (node_bare a _)
  form_bare p o (size_of_type t) s = ap size_of_type (type_bare t _)
  form_bare p o (cast t a) s = both cast (type_bare t _) (node_bare a _)
  form_bare p o (suffix a (index b)) s = both (λ x y. suffix x (index y)) (node_bare a _) (node_bare b _)
  form_bare p o (suffix a (field h x q)) s = ap (λ y. suffix y (field h x q)) (node_bare a _)
  form_bare p o (suffix a (behind u)) s = ap (λ y. suffix y (behind u)) (node_bare a _)
  form_bare p o (two u a b) s = both (two u) (node_bare a _) (node_bare b _)
  form_bare p o (choose a b c) s = three (λ x y z. choose x y z) (node_bare a _) (node_bare b _) (node_bare c _)
  form_bare p o (probe (simple u x) a) s = ap (probe (simple u x)) (node_bare a _)
  form_bare p o (probe (select x cs) a) s = both (λ y z. probe (select x y) z) (cases_bare [] cs _) (node_bare a _)

  pub arguments_bare : (gs : List Given) (args : NodeShapes) (s : State) → bare_nodes (type_arguments gs args s).nodes ≡ bare_nodes args
  arguments_bare gs no_nodes s = refl
  arguments_bare gs (more_nodes a rest) s = both more_nodes (node_bare a _) (arguments_bare _ rest _)

  pub cases_bare : (vs : List (Option ℤ)) (cs : NodeShapes) (s : State) → bare_nodes (type_cases vs cs s).nodes ≡ bare_nodes cs
  cases_bare vs no_nodes s = refl
  cases_bare vs (more_nodes a rest) s = both more_nodes (node_bare a _) (cases_bare _ rest _)

  pub type_bare : (t : TypeShape) (s : State) → bare_type (type_type t s).type ≡ bare_type t
  type_bare (type_name p specs stars ls) s = both (λ x y. type_name p x stars y) (specs_bare false specs _ s) (lengths_bare [] ls _)

  pub lengths_bare : (cs : List Length) (ls : LengthShapes) (s : State) → bare_lengths (type_lengths cs ls s).lengths ≡ bare_lengths ls
  lengths_bare cs no_lengths s = refl
  lengths_bare cs (more_lengths no_node rest) s = ap (more_lengths no_node) (lengths_bare _ rest _)
  lengths_bare cs (more_lengths (one_node a) rest) s = both (λ x y. more_lengths (one_node x) y) (node_bare a _) (lengths_bare _ rest _)

  pub specs_bare : (alone : Bool) (specs : SpecShapes) (a : Spelled) (s : State) → bare_specs (type_specs alone specs a s).specs ≡ bare_specs specs
  specs_bare alone no_specs a s = refl
  specs_bare alone (more_specs p (word k) rest) a s = ap (more_specs p (word k)) (specs_bare alone rest _ _)
  specs_bare alone (more_specs p (struct t no_members) rest) a s = ap (more_specs p (struct t no_members)) (specs_bare alone rest _ _)
  specs_bare alone (more_specs p (struct t (members ds)) rest) a s = both (λ x y. more_specs p (struct t (members x)) y) (lines_bare ds [] _) (specs_bare alone rest _ _)
  specs_bare alone (more_specs p (enum t no_rows) rest) a s = ap (more_specs p (enum t no_rows)) (specs_bare alone rest _ _)
  specs_bare alone (more_specs p (enum t (rows es)) rest) a s = both (λ x y. more_specs p (enum t (rows x)) y) (rows_bare (Some (pos 0)) es _) (specs_bare alone rest _ _)

  pub lines_bare : (ds : DeclShapes) (fields : List FieldShape) (s : State) → bare_decls (type_lines ds fields s).decls ≡ bare_decls ds
  lines_bare no_decls fields s = refl
  lines_bare (more_decls (decl p specs names) rest) fields s = both more_decls (both (decl p) (specs_bare false specs _ s) (fields_bare p _ names fields _)) (lines_bare rest _ _)

  pub fields_bare : (p : Pos) (k : Option TypeOf) (names : DeclaratorShapes) (fields : List FieldShape) (s : State) → bare_names (type_fields p k names fields s).names ≡ bare_names names
  fields_bare p k no_declarators fields s = refl
  fields_bare p k (more_declarators (declarator stars x (arrays ls) i) rest) fields s = both (λ y z. more_declarators (declarator stars x (arrays y) (bare_maybe_init i)) z) (lengths_bare [] ls _) (fields_bare p k rest _ _)
  fields_bare p k (more_declarators (declarator stars x (function ps) i) rest) fields s = ap (more_declarators (declarator stars x (function (bare_params ps)) (bare_maybe_init i))) (fields_bare p k rest _ _)

  pub rows_bare : (v : Option ℤ) (es : EnumerShapes) (s : State) → bare_enumers (rows_types v es s).rows ≡ bare_enumers es
  rows_bare v no_enumers s = refl
  rows_bare v (more_enumers x no_node rest) s = ap (more_enumers x no_node) (rows_bare _ rest _)
  rows_bare v (more_enumers x (one_node a) rest) s = both (λ y z. more_enumers x (one_node y) z) (node_bare a _) (rows_bare _ rest _)

-- INITIALISERS

one_bare : (r : Option (ℕ × ℕ)) (c : Bool) (k : Option TypeOf) (a : NodeShape) (s : State) → bare_init (one_init_of r c k a s).init ≡ one (bare_node a)
one_bare (Some (n, m)) c k a s = ap one (node_bare a _)
one_bare None c k a s = ap one (node_bare a _)

mutual
  pub init_bare : (c : Bool) (k : Option TypeOf) (i : InitShape) (s : State) → bare_init (type_init c k i s).init ≡ bare_init i
  init_bare c k (one a) s = one_bare (filled (chars_of k) (form_in a)) c k a s
  init_bare c k (listed p is last) s = ap (λ x. listed p x last) (inits_bare _ is _)

  pub inits_bare : (l : Slots) (is : InitShapes) (s : State) → bare_inits (type_inits l is s).inits ≡ bare_inits is
  inits_bare l no_inits s = refl
  inits_bare l (more_inits i rest) s = both more_inits (init_bare true _ i _) (inits_bare _ rest _)

maybe_init_bare : (c : Bool) (k : Option TypeOf) (i : MaybeInit) (s : State) → bare_maybe_init (type_maybe_init c k i s).init ≡ bare_maybe_init i
maybe_init_bare c k no_init s = refl
maybe_init_bare c k (one_init i) s = ap one_init (init_bare c k i _)

-- DECLARATIONS

params_list_bare : (defining : Bool) (ds : DeclShapes) (s : State) → bare_decls (type_param_list defining ds s).params ≡ bare_decls ds
params_list_bare defining no_decls s = refl
params_list_bare defining (more_decls (decl p specs no_declarators) rest) s = ap (more_decls (decl p (bare_specs specs) no_declarators)) (params_list_bare defining rest _)
params_list_bare defining (more_decls (decl p specs (more_declarators (declarator stars x (arrays ls) i) no_declarators)) rest) s =
    both (λ y z. more_decls y z) (both (λ y z. decl p y (more_declarators (declarator stars x (arrays z) (bare_maybe_init i)) no_declarators)) (specs_bare false specs _ s) (lengths_bare [] ls _)) (params_list_bare defining rest _)
params_list_bare defining (more_decls (decl p specs (more_declarators (declarator stars x (arrays ls) i) (more_declarators e names))) rest) s = ap (more_decls (bare_decl (decl p specs (more_declarators (declarator stars x (arrays ls) i) (more_declarators e names))))) (params_list_bare defining rest _)
params_list_bare defining (more_decls (decl p specs (more_declarators (declarator stars x (function ps) i) names)) rest) s = ap (more_decls (bare_decl (decl p specs (more_declarators (declarator stars x (function ps) i) names)))) (params_list_bare defining rest _)

params_bare : (defining : Bool) (ps : ParamsShape) (s : State) → bare_params (type_params defining ps s).params ≡ bare_params ps
params_bare defining empty s = refl
params_bare defining void s = refl
params_bare defining (params ds) s = ap params (params_list_bare defining ds _)

declarator_bare : (k : Option TypeOf) (d : DeclaratorShape) (s : State) → bare_name (type_declarator k d s).name ≡ bare_name d
declarator_bare k (declarator stars x (arrays ls) i) s = both (λ y z. declarator stars x (arrays y) z) (lengths_bare [] ls _) (maybe_init_bare _ _ i _)
declarator_bare k (declarator stars x (function ps) i) s = ap (λ y. declarator stars x (function y) (bare_maybe_init i)) (params_bare false ps _)

names_bare : (k : Option TypeOf) (names : DeclaratorShapes) (s : State) → bare_names (type_declarators k names s).names ≡ bare_names names
names_bare k no_declarators s = refl
names_bare k (more_declarators d rest) s = both more_declarators (declarator_bare k d s) (names_bare k rest _)

decl_bare : (d : DeclShape) (s : State) → bare_decl (type_decl d s).decl ≡ bare_decl d
decl_bare (decl p specs names) s = both (decl p) (specs_bare _ specs _ s) (names_bare _ names _)

decls_bare : (ds : DeclShapes) (s : State) → bare_decls (type_decls ds s).decls ≡ bare_decls ds
decls_bare no_decls s = refl
decls_bare (more_decls d rest) s = both more_decls (decl_bare d s) (decls_bare rest _)

-- STATEMENTS

maybe_bare : (e : MaybeNode) (s : State) → bare_maybe (type_maybe e s).node ≡ bare_maybe e
maybe_bare no_node s = refl
maybe_bare (one_node a) s = ap one_node (node_bare a s)

test_bare : (e : MaybeNode) (s : State) → bare_maybe (type_test e s).node ≡ bare_maybe e
test_bare no_node s = refl
test_bare (one_node a) s = ap one_node (node_bare a s)

result_bare : (t : ℕ) (p : Pos) (k : Option TypeOf) (e : MaybeNode) (s : State) → bare_maybe (type_result t p k e s).node ≡ bare_maybe e
result_bare t p k no_node s = refl
result_bare t p k (one_node a) s = ap one_node (node_bare a s)

labels_bare : (o : Option Labels) (ls : List LabelShape) (s : State) → map bare_label (type_labels o ls s).labels ≡ map bare_label ls
labels_bare o [] s = refl
labels_bare o (case p a ∷ rest) s = both (λ x y. case p x ∷ y) (node_bare a _) (labels_bare (case_labels o (constants.value (type_node a (step s)).sort.constant)) rest _)
labels_bare o (default p ∷ rest) s = ap (λ y. default p ∷ y) (labels_bare (default_labels o) rest _)

mutual
  pub stmt_bare : (c : Surroundings) (a : StmtShape) (s : State) → bare_stmt (type_stmt c a s).stmt ≡ bare_stmt a
  stmt_bare c (stmt p marks q f) s = ap (stmt p marks q) (body_bare c q f _)

  pub body_bare : (c : Surroundings) (p : Pos) (f : FormShape) (s : State) → bare_body (type_body c p f s).form ≡ bare_body f
  body_bare c p (compound b) s = ap compound (compound_bare c b _)
  body_bare c p (simply x) s = ap simply (maybe_bare x s)
  body_bare c p (when x a) s = both when (node_bare x _) (stmt_bare c a _)
  body_bare c p (either x a b) s = three (λ x y z. either x y z) (node_bare x _) (stmt_bare c a _) (stmt_bare c b _)
  body_bare c p (while x a) s = both while (node_bare x _) (stmt_bare _ a _)
  body_bare c p (do_while a x) s = both do_while (stmt_bare _ a _) (node_bare x _)
  body_bare c p (for x y z a) s = four (λ x y z w. for x y z w) (maybe_bare x _) (test_bare y _) (maybe_bare z _) (stmt_bare _ a _)
  body_bare c p (switch x items) s = both switch (node_bare x _) (items_bare _ _ items _)
  body_bare c p break s = refl
  body_bare c p continue s = refl
  body_bare c p (return x) s = ap return (result_bare _ _ _ x _)

  pub compound_bare : (c : Surroundings) (b : CompoundShape) (s : State) → bare_compound (type_compound c b s).compound ≡ bare_compound b
  compound_bare c (braces p ds items) s = both (braces p) (decls_bare ds _) (items_bare c None items _)

  pub items_bare : (c : Surroundings) (o : Option Labels) (items : ItemShapes) (s : State) → bare_items (type_items c o items s).items ≡ bare_items items
  items_bare c o no_items s = refl
  items_bare c o (more_items labels a rest) s = three (λ x y z. more_items x y z) (labels_bare o labels s) (stmt_bare c a _) (items_bare c _ rest _)

-- UNITS

external_bare : (x : ExternalShape) (s : State) → bare_external (type_external x s).external ≡ bare_external x
external_bare (declared d) s = ap declared (decl_bare d s)
external_bare (defined specs (declarator stars x (arrays ls) i) marks c) s = refl
external_bare (defined specs (declarator stars x (function ps) i) marks c) s =
    three (λ y z w. defined y (declarator stars x (function z) (bare_maybe_init i)) marks w) (specs_bare false specs _ s) (params_bare true ps _) (compound_bare _ c _)

externals_bare : (xs : List ExternalShape) (s : State) → map bare_external (type_externals xs s).externals ≡ map bare_external xs
externals_bare [] s = refl
externals_bare (x ∷ rest) s = both (λ y z. y ∷ z) (external_bare x s) (externals_bare rest _)

-- typing keeps the unit
pub unit_bare : (k : Option (List Bool)) (u : UnitShape) → bare_unit (type_unit k u).unit ≡ bare_unit u
unit_bare k u = ap (λ xs. record u { externals = xs }) (externals_bare u.externals _)
