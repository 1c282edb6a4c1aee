-- What is known of a tree before a run depends on no place: types, constants, probes, counts of variables, and initial values.
use Rattle.std.proofs.Common.{◌≡◌, suc, ◌+◌, ◌++◌, List, [], ◌∷◌, map, Option, Some, None, option_map, Bool, if◌then◌else◌, refl, ap, ap₂, ◌∙◌}
use Rattle.c_base.specs.declared.place.IntKind.{IntKind}
use Rattle.c_syntax.specs.declared.tree.Named.{Named}
use Rattle.c_syntax.specs.declared.tree.ProbeMark.{ProbeMark}
use Rattle.c_syntax.specs.declared.tree.UnaryOp.TheVariants as front
use Rattle.c_syntax.specs.Shape.{TypeOf, int, pointer, array, structure, nothing, NoteShape, bare, typed, known, number, char, str, name, unary, before, size_of, dot, arrow, block, test, used, def, NodeShape, node, ExprShape, leaf, paren, call, prefix, size_of_type, cast, suffix, two, choose, probe, index, field, behind, simple, select, NodeShapes, no_nodes, more_nodes, DeclShape, decl, DeclShapes, no_decls, more_decls, DeclaratorShape, declarator, DeclaratorShapes, no_declarators, more_declarators, DeclFormShape, arrays, function, ParamsShape, empty, void, params, InitShape, one, listed, InitShapes, no_inits, more_inits, LabelShape, case, default, StmtShape, stmt, FormShape, compound, simply, when, either, while, do_while, for, switch, break, continue, return, CompoundShape, braces, ItemShapes, no_items, more_items, ExternalShape, defined, declared}
use Rattle.c_constants.specs.Constants as constants
use Rattle.c_store.specs.declared.value.Value.TheVariants.{At}
use Rattle.c_tables.specs.Tables.{TablesShape}
use Rattle.c_tables.specs.Rows.{text_of}
use Rattle.c_placing.specs.Unplaced.{unplaced_mark, unplaced_named, unplaced_node, unplaced_form, unplaced_nodes, unplaced_decl, unplaced_decls, unplaced_name, unplaced_names, unplaced_behind, unplaced_params, unplaced_init, unplaced_inits, unplaced_label, unplaced_stmt, unplaced_body, unplaced_compound, unplaced_items, unplaced_external}
use Rattle.c_walk.specs.Places.{has_array, holds_structure}
use Rattle.c_walk.specs.Stating.{splits, case_count, has_default, is_labelled}
use Rattle.c_walk.specs.Tests.{choosing, noted_constant, cast_to, joined, case_value}
use Rattle.c_meaning.specs.State.{Bound}
use Rattle.c_meaning.specs.Layout.{part_in}
use Rattle.c_meaning.specs.Constants.{constant, constant_form, label_constants, case_constants, select_constants, type_at, place_in, form_place_in, element_in, field_in, value_in, integer_in, one_cells, slot_kinds, init_cells, items_cells}
use Rattle.c_meaning.specs.Operators.{converted}
use Rattle.c_meaning.specs.Places.{marks}
use Rattle.c_meaning.specs.Expressions.{operand}
use Rattle.c_meaning.specs.Declarations.{name_marks}
use Rattle.c_meaning.specs.Counts.{variables_of, variables_among, decl_variables, decls_variables, stmt_variables, form_variables, compound_variables, items_variables, params_variables, signature_variables, external_variables}

three : {A B C D : Type 0} (k : A → B → C → D) {a b : A} {c d : B} {e f : C} → a ≡ b → c ≡ d → e ≡ f → k a c e ≡ k b d f
three k {a} {b} {c} {d} {e} {f} p q r = ap (λ x. k x c e) p ∙ ap₂ (k b) q r

-- ---- types and probes

pub type_same : (a : NodeShape) → type_at (unplaced_node a) ≡ type_at a
type_same (node p o n f) = refl

pub structure_same : (a : NodeShape) → holds_structure (unplaced_node a) ≡ holds_structure a
structure_same (node p o n f) = refl

pub operand_same : (a : NodeShape) → operand (unplaced_node a) ≡ operand a
operand_same (node p o n f) = refl

pub array_same : (a : NodeShape) → has_array (unplaced_node a) ≡ has_array a
array_same (node p o (typed (int k) n) f) = refl
array_same (node p o (typed (pointer t) n) f) = refl
array_same (node p o (typed (array t m) n) f) = refl
array_same (node p o (typed (structure m) n) f) = refl
array_same (node p o (typed nothing n) f) = refl
array_same (node p o (known k v) f) = refl
array_same (node p o bare f) = refl

pub choosing_same : (a : NodeShape) → choosing (unplaced_node a) ≡ choosing a
choosing_same (node p o (typed (int k) n) f) = refl
choosing_same (node p o (typed (pointer t) n) f) = refl
choosing_same (node p o (typed (array t m) n) f) = refl
choosing_same (node p o (typed (structure m) n) f) = refl
choosing_same (node p o (typed nothing n) f) = refl
choosing_same (node p o (known (int k) v) f) = refl
choosing_same (node p o (known (pointer t) v) f) = refl
choosing_same (node p o (known (array t m) v) f) = refl
choosing_same (node p o (known (structure m) v) f) = refl
choosing_same (node p o (known nothing v) f) = refl
choosing_same (node p o bare f) = refl

pub uses_same : (a : NodeShape) → marks used (unplaced_node a) ≡ marks used a
uses_same (node p o n (leaf l)) = refl
uses_same (node p o n (paren a)) = uses_same a
uses_same (node p o n (call x args)) = refl
uses_same (node p o n (prefix u a)) = refl
uses_same (node p o n (size_of_type y)) = refl
uses_same (node p o n (cast y a)) = refl
uses_same (node p o n (suffix a s)) = refl
uses_same (node p o n (two u a b)) = refl
uses_same (node p o n (choose a b c)) = refl
uses_same (node p o n (probe (simple block x) a)) = refl
uses_same (node p o n (probe (simple test x) a)) = refl
uses_same (node p o n (probe (simple used x) a)) = ap (λ xs. xs ++ x ∷ []) (uses_same a)
uses_same (node p o n (probe (simple def x) a)) = uses_same a
uses_same (node p o n (probe (select x cs) a)) = refl

pub defs_same : (a : NodeShape) → marks def (unplaced_node a) ≡ marks def a
defs_same (node p o n (leaf l)) = refl
defs_same (node p o n (paren a)) = defs_same a
defs_same (node p o n (call x args)) = refl
defs_same (node p o n (prefix u a)) = refl
defs_same (node p o n (size_of_type y)) = refl
defs_same (node p o n (cast y a)) = refl
defs_same (node p o n (suffix a s)) = refl
defs_same (node p o n (two u a b)) = refl
defs_same (node p o n (choose a b c)) = refl
defs_same (node p o n (probe (simple block x) a)) = refl
defs_same (node p o n (probe (simple test x) a)) = refl
defs_same (node p o n (probe (simple used x) a)) = defs_same a
defs_same (node p o n (probe (simple def x) a)) = ap (λ xs. xs ++ x ∷ []) (defs_same a)
defs_same (node p o n (probe (select x cs) a)) = refl

-- the probes in front of a statement, and round a declared name
pub numbers_same : (ms : List ProbeMark) → map (λ m. m.number) (map unplaced_mark ms) ≡ map (λ m. m.number) ms
numbers_same [] = refl
numbers_same (m ∷ ms) = ap (λ xs. m.number ∷ xs) (numbers_same ms)

named_same : (p : Option ProbeMark) (x : Named) → name_marks (Some (unplaced_named (record x { probe = p }))) ≡ name_marks (Some (record x { probe = p }))
named_same None x = refl
named_same (Some m) x = refl

pub name_marks_same : (x : Option Named) → name_marks (option_map unplaced_named x) ≡ name_marks x
name_marks_same None = refl
name_marks_same (Some x) = named_same x.probe x

pub text_same : (x : Option Named) → text_of (option_map unplaced_named x) ≡ text_of x
text_same None = refl
text_same (Some x) = refl

-- ---- constants

mutual
  pub constant_same : (a : NodeShape) → constant (unplaced_node a) ≡ constant a
  constant_same (node p o n f) = ap (noted_constant n) (form_same n f)

  form_same : (n : NoteShape) (f : ExprShape) → constant_form n (unplaced_form f) ≡ constant_form n f
  form_same n (leaf (number x)) = refl
  form_same n (leaf (char c)) = refl
  form_same n (leaf (str x)) = refl
  form_same n (leaf (name x)) = refl
  form_same n (paren a) = constant_same a
  form_same n (call x args) = refl
  form_same n (prefix (unary u) a) = ap (constants.unary u) (constant_same a)
  form_same n (prefix (before u) a) = refl
  form_same n (prefix size_of a) = refl
  form_same n (size_of_type y) = refl
  form_same n (cast y a) = ap (cast_to n) (constant_same a)
  form_same n (suffix a s) = refl
  form_same n (two u a b) = ap₂ (joined u) (constant_same a) (constant_same b)
  form_same n (choose a b c) = three constants.choice (constant_same a) (constant_same b) (constant_same c)
  form_same n (probe (simple block x) a) = ap constants.probed (constant_same a)
  form_same n (probe (simple test x) a) = ap constants.probed (constant_same a)
  form_same n (probe (simple used x) a) = refl
  form_same n (probe (simple def x) a) = refl
  form_same n (probe (select x cs) a) = refl

labels_same : (k : Option IntKind) (ls : List LabelShape) → label_constants k (map unplaced_label ls) ≡ label_constants k ls
labels_same k [] = refl
labels_same k (case p a ∷ ls) = ap₂ (λ x y. x ∷ y) (ap (case_value k) (constant_same a)) (labels_same k ls)
labels_same k (default p ∷ ls) = labels_same k ls

pub cases_same : (k : Option IntKind) (items : ItemShapes) → case_constants k (unplaced_items items) ≡ case_constants k items
cases_same k no_items = refl
cases_same k (more_items labels a rest) = ap₂ (λ x y. x ++ y) (labels_same k labels) (cases_same k rest)

pub select_same : (k : Option IntKind) (cs : NodeShapes) → select_constants k (unplaced_nodes cs) ≡ select_constants k cs
select_same k no_nodes = refl
select_same k (more_nodes a rest) = ap₂ (λ x y. x ∷ y) (ap (case_value k) (constant_same a)) (select_same k rest)

-- ---- labels

pub case_count_same : (ls : List LabelShape) → case_count (map unplaced_label ls) ≡ case_count ls
case_count_same [] = refl
case_count_same (case p a ∷ ls) = ap suc (case_count_same ls)
case_count_same (default p ∷ ls) = case_count_same ls

pub default_same : (ls : List LabelShape) → has_default (map unplaced_label ls) ≡ has_default ls
default_same [] = refl
default_same (case p a ∷ ls) = default_same ls
default_same (default p ∷ ls) = refl

pub labelled_same : (ls : List LabelShape) → is_labelled (map unplaced_label ls) ≡ is_labelled ls
labelled_same [] = refl
labelled_same (l ∷ ls) = refl

pub splits_same : (a : StmtShape) → splits (unplaced_stmt a) ≡ splits a
splits_same (stmt p ms q (compound c)) = refl
splits_same (stmt p ms q (simply e)) = refl
splits_same (stmt p ms q (when e a)) = refl
splits_same (stmt p ms q (either e a b)) = refl
splits_same (stmt p ms q (while e a)) = refl
splits_same (stmt p ms q (do_while a e)) = refl
splits_same (stmt p ms q (for e f g a)) = refl
splits_same (stmt p ms q (switch e items)) = refl
splits_same (stmt p ms q break) = refl
splits_same (stmt p ms q continue) = refl
splits_same (stmt p ms q (return e)) = refl

-- ---- how many variables are declared

pub variable_count : (d : DeclaratorShape) → variables_of (unplaced_name d) ≡ variables_of d
variable_count (declarator stars x (arrays ls) i) = refl
variable_count (declarator stars x (function ps) i) = refl

names_count : (ds : DeclaratorShapes) → variables_among (unplaced_names ds) ≡ variables_among ds
names_count no_declarators = refl
names_count (more_declarators d rest) = ap₂ (λ x y. x + y) (variable_count d) (names_count rest)

pub decl_count : (d : DeclShape) → decl_variables (unplaced_decl d) ≡ decl_variables d
decl_count (decl p specs names) = names_count names

pub decls_count : (ds : DeclShapes) → decls_variables (unplaced_decls ds) ≡ decls_variables ds
decls_count no_decls = refl
decls_count (more_decls d rest) = ap₂ (λ x y. x + y) (decl_count d) (decls_count rest)

mutual
  pub stmt_count : (a : StmtShape) → stmt_variables (unplaced_stmt a) ≡ stmt_variables a
  stmt_count (stmt p ms q f) = body_count f

  body_count : (f : FormShape) → form_variables (unplaced_body f) ≡ form_variables f
  body_count (compound c) = compound_count c
  body_count (simply e) = refl
  body_count (when e a) = stmt_count a
  body_count (either e a b) = ap₂ (λ x y. x + y) (stmt_count a) (stmt_count b)
  body_count (while e a) = stmt_count a
  body_count (do_while a e) = stmt_count a
  body_count (for e f g a) = stmt_count a
  body_count (switch e items) = items_count items
  body_count break = refl
  body_count continue = refl
  body_count (return e) = refl

  compound_count : (c : CompoundShape) → compound_variables (unplaced_compound c) ≡ compound_variables c
  compound_count (braces p ds items) = ap₂ (λ x y. x + y) (decls_count ds) (items_count items)

  items_count : (items : ItemShapes) → items_variables (unplaced_items items) ≡ items_variables items
  items_count no_items = refl
  items_count (more_items labels a rest) = ap₂ (λ x y. x + y) (stmt_count a) (items_count rest)

pub params_count : (ps : ParamsShape) → params_variables (unplaced_params ps) ≡ params_variables ps
params_count empty = refl
params_count void = refl
params_count (params ds) = decls_count ds

signature_count : (d : DeclFormShape) → signature_variables (unplaced_behind d) ≡ signature_variables d
signature_count (function ps) = params_count ps
signature_count (arrays ls) = refl

pub external_count : (e : ExternalShape) → external_variables (unplaced_external e) ≡ external_variables e
external_count (declared d) = decl_count d
external_count (defined specs (declarator stars x d i) ms c) = ap₂ (λ x y. x + y) (signature_count d) (compound_count c)

-- ---- initial values

module _ (t : TablesShape) (b : List Bound) where
  if_same : {A : Type 0} (p q : Bool) {x y u v : A} → p ≡ q → x ≡ u → y ≡ v → (if p then x else y) ≡ (if q then u else v)
  if_same p q {x} {y} {u} {v} e f g = ap (λ r. if r then x else y) e ∙ ap₂ (λ m n. if q then m else n) f g

  mutual
    place_same : (a : NodeShape) → place_in t b (unplaced_node a) ≡ place_in t b a
    place_same (node p o n f) = form_place_same n f

    form_place_same : (n : NoteShape) (f : ExprShape) → form_place_in t b n (unplaced_form f) ≡ form_place_in t b n f
    form_place_same n (leaf (number x)) = refl
    form_place_same n (leaf (char c)) = refl
    form_place_same n (leaf (str x)) = refl
    form_place_same n (leaf (name x)) = refl
    form_place_same n (paren a) = place_same a
    form_place_same n (call x args) = refl
    form_place_same n (prefix u a) = refl
    form_place_same n (size_of_type y) = refl
    form_place_same n (cast y a) = refl
    form_place_same n (suffix a (index c)) =
        if_same (has_array (unplaced_node a)) (has_array a) (array_same a)
        (three (element_in t) (type_same a) (constant_same c) (place_same a))
        (three (element_in t) (type_same c) (constant_same a) (place_same c))
    form_place_same n (suffix a (field dot x q)) = ap₂ (field_in t) (ap (part_in t x) (type_same a)) (place_same a)
    form_place_same n (suffix a (field arrow x q)) = refl
    form_place_same n (suffix a (behind u)) = refl
    form_place_same n (two u a c) = refl
    form_place_same n (choose a c d) = refl
    form_place_same n (probe (simple block x) a) = refl
    form_place_same n (probe (simple test x) a) = refl
    form_place_same n (probe (simple used x) a) = place_same a
    form_place_same n (probe (simple def x) a) = place_same a
    form_place_same n (probe (select x cs) a) = refl

  whole_value : (a : NodeShape) → integer_in (constant (unplaced_node a)) ≡ integer_in (constant a)
  whole_value a = ap integer_in (constant_same a)

  value_same : (a : NodeShape) → value_in t b (unplaced_node a) ≡ value_in t b a
  value_same (node p o n (leaf (number x))) = whole_value (node p o n (leaf (number x)))
  value_same (node p o n (leaf (char c))) = whole_value (node p o n (leaf (char c)))
  value_same (node p o n (leaf (str x))) = refl
  value_same (node p o n (leaf (name x))) = refl
  value_same (node p o n (paren a)) = value_same a
  value_same (node p o n (call x args)) = whole_value (node p o n (call x args))
  value_same (node p o n (prefix (unary front.AddressOf) a)) = ap (option_map At) (place_same a)
  value_same (node p o n (prefix (unary front.Deref) a)) = whole_value (node p o n (prefix (unary front.Deref) a))
  value_same (node p o n (prefix (unary front.Plus) a)) = whole_value (node p o n (prefix (unary front.Plus) a))
  value_same (node p o n (prefix (unary front.Minus) a)) = whole_value (node p o n (prefix (unary front.Minus) a))
  value_same (node p o n (prefix (unary front.Flip) a)) = whole_value (node p o n (prefix (unary front.Flip) a))
  value_same (node p o n (prefix (unary front.Not) a)) = whole_value (node p o n (prefix (unary front.Not) a))
  value_same (node p o n (prefix (before u) a)) = whole_value (node p o n (prefix (before u) a))
  value_same (node p o n (prefix size_of a)) = whole_value (node p o n (prefix size_of a))
  value_same (node p o n (size_of_type y)) = whole_value (node p o n (size_of_type y))
  value_same (node p o n (cast y a)) = whole_value (node p o n (cast y a))
  value_same (node p o n (suffix a s)) = whole_value (node p o n (suffix a s))
  value_same (node p o n (two u a c)) = whole_value (node p o n (two u a c))
  value_same (node p o n (choose a c d)) = whole_value (node p o n (choose a c d))
  value_same (node p o n (probe u a)) = whole_value (node p o n (probe u a))

  scalar_cells : (k : TypeOf) (a : NodeShape) → option_map (converted k) (value_in t b (unplaced_node a)) ∷ [] ≡ option_map (converted k) (value_in t b a) ∷ []
  scalar_cells k a = ap (λ v. option_map (converted k) v ∷ []) (value_same a)

  pub one_same : (k : TypeOf) (a : NodeShape) → one_cells t b k (unplaced_node a) ≡ one_cells t b k a
  one_same (int k) a = scalar_cells (int k) a
  one_same (pointer k) a = scalar_cells (pointer k) a
  one_same (structure n) a = scalar_cells (structure n) a
  one_same nothing a = scalar_cells nothing a
  one_same (array k n) (node p o m (leaf (number x))) = scalar_cells (array k n) (node p o m (leaf (number x)))
  one_same (array k n) (node p o m (leaf (char c))) = scalar_cells (array k n) (node p o m (leaf (char c)))
  one_same (array k n) (node p o m (leaf (str x))) = refl
  one_same (array k n) (node p o m (leaf (name x))) = scalar_cells (array k n) (node p o m (leaf (name x)))
  one_same (array k n) (node p o m (paren a)) = scalar_cells (array k n) (node p o m (paren a))
  one_same (array k n) (node p o m (call x args)) = scalar_cells (array k n) (node p o m (call x args))
  one_same (array k n) (node p o m (prefix u a)) = scalar_cells (array k n) (node p o m (prefix u a))
  one_same (array k n) (node p o m (size_of_type y)) = scalar_cells (array k n) (node p o m (size_of_type y))
  one_same (array k n) (node p o m (cast y a)) = scalar_cells (array k n) (node p o m (cast y a))
  one_same (array k n) (node p o m (suffix a s)) = scalar_cells (array k n) (node p o m (suffix a s))
  one_same (array k n) (node p o m (two u a c)) = scalar_cells (array k n) (node p o m (two u a c))
  one_same (array k n) (node p o m (choose a c d)) = scalar_cells (array k n) (node p o m (choose a c d))
  one_same (array k n) (node p o m (probe u a)) = scalar_cells (array k n) (node p o m (probe u a))

  mutual
    pub cells_same : (k : TypeOf) (i : InitShape) → init_cells t b k (unplaced_init i) ≡ init_cells t b k i
    cells_same k (one a) = one_same k a
    cells_same k (listed p items last) = list_same (slot_kinds t k) items

    list_same : (ks : List TypeOf) (is : InitShapes) → items_cells t b ks (unplaced_inits is) ≡ items_cells t b ks is
    list_same ks no_inits = refl
    list_same [] (more_inits i rest) = refl
    list_same (k ∷ ks) (more_inits i rest) = ap₂ (λ x y. x ++ y) (cells_same k i) (list_same ks rest)
