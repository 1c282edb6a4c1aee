-- Lists of specifiers, lines, fields and enumerators that are typed in place.
use Rattle.std.proofs.Common.{◌≡◌, ℕ, ℤ, ◌+◌, ◌<◌, ◌≤◌, Bool, Option, List, [], ◌∷◌, length, take, drop, get_or, refl, sym, ap, ◌∙◌, arith}
use Rattle.std.proofs.Math.ListN.{set}
use Rattle.c_base.specs.declared.place.Pos.{Pos}
use Rattle.c_syntax.specs.declared.tree.Spec.{Spec}
use Rattle.c_syntax.specs.declared.tree.Decl.{Decl}
use Rattle.c_syntax.specs.declared.tree.Declarator.{Declarator}
use Rattle.c_syntax.specs.declared.tree.Enumer.{Enumer, out-Enumer}
use Rattle.c_syntax.specs.Shape.{TypeOf, SpecShape, word, struct, enum, SpecShapes, no_specs, more_specs, DeclShape, decl, DeclShapes, no_decls, more_decls, DeclaratorShape, declarator, arrays, function, DeclaratorShapes, no_declarators, more_declarators, no_enumers, more_enumers}
use Rattle.c_syntax.specs.View.{spec_shape, spec_list, decl_shape, decl_list, declarator_shape, declarator_list, maybe_node, enumer_list}
use Rattle.c_tables.specs.Tables.{FieldShape}
use Rattle.c_tree.specs.State.{State}
use Rattle.c_tree.specs.Parts.{Spelled, TypedSpecs, more_spec, TypedDecls, TypedNames, TypedRows}
use Rattle.c_tree.specs.Typing.{type_specs, type_lines, type_fields, rows_types}
use Rattle.c_types_expr.specs.Parts.{specified, lined, fielded, enumerated}
use Rattle.c_types_expr.specs.Turns.{in_front}
use Rattle.c_types_expr.proofs.Turns.{turned, ended, rest_lighter}
use Rattle.c_types_expr.proofs.Weights.{specs_weight, decls_weight, declarators_weight, enumers_weight}

-- ---- specifiers

abbrev pub a_spec : Spec → TypedSpecs → TypedSpecs
a_spec x r = more_spec x.pos (spec_shape x.form) r

spec_first : (alone : Bool) (p : Pos) (f : SpecShape) (rest : SpecShapes) (b : Spelled) (s : State) → type_specs alone (more_specs p f rest) b s ≡ more_spec p (specified alone p f b s).spec (type_specs alone rest (specified alone p f b s).spelled (specified alone p f b s).state)
spec_first alone p (word k) rest b s = refl
spec_first alone p (struct t ds) rest b s = refl
spec_first alone p (enum t es) rest b s = refl

pub spec_done : (alone : Bool) (xs : List Spec) (i : ℕ) (a x : Spec) (b c : Spelled) (s u : State) (r : TypedSpecs) → i < length xs → a ≡ get_or xs i a → x.pos ≡ a.pos → spec_shape x.form ≡ (specified alone a.pos (spec_shape a.form) b s).spec → c ≡ (specified alone a.pos (spec_shape a.form) b s).spelled → u ≡ (specified alone a.pos (spec_shape a.form) b s).state → in_front a_spec (take i xs) (type_specs alone (spec_list (drop i xs)) b s) ≡ r → in_front a_spec (take (i + 1) (set xs i x)) (type_specs alone (spec_list (drop (i + 1) (set xs i x))) c u) ≡ r
spec_done alone xs i a x b c s u r h e p t g v k = turned a_spec (λ ys. type_specs alone (spec_list ys) b s) (λ ys. type_specs alone (spec_list ys) c u) xs i a x h e (λ rest. rw (p, t, g, v) (spec_first alone a.pos (spec_shape a.form) (spec_list rest) b s)) ∙ k

specs_front : (xs : List Spec) (b : Spelled) (s : State) → record { specs = spec_list xs; spelled = b; state = s } ≡ in_front a_spec xs (record { specs = no_specs; spelled = b; state = s })
specs_front [] b s = refl
specs_front (x ∷ xs) b s = ap (a_spec x) (specs_front xs b s)

pub specs_done : (alone : Bool) (xs : List Spec) (i : ℕ) (b : Spelled) (s : State) (r : TypedSpecs) → length xs ≤ i → in_front a_spec (take i xs) (type_specs alone (spec_list (drop i xs)) b s) ≡ r → record { specs = spec_list xs; spelled = b; state = s } ≡ r
specs_done alone xs i b s r h k = specs_front xs b s ∙ ended a_spec (λ ys. type_specs alone (spec_list ys) b s) xs i h ∙ k

pub specs_lighter : (xs : List Spec) (i n : ℕ) (x : Spec) → i < length xs → specs_weight (spec_list (drop i xs)) ≤ n → specs_weight (spec_list (drop (i + 1) (set xs i x))) ≤ n
specs_lighter xs i n x h e = rest_lighter (λ ys. specs_weight (spec_list ys)) (λ y ys. omega arith) xs i n x h e

-- ---- lines of a member list

abbrev pub a_line : Decl → TypedDecls → TypedDecls
a_line x r = record r { decls = more_decls (decl_shape x) r.decls }

line_first : (d : DeclShape) (rest : DeclShapes) (fields : List FieldShape) (s : State) → type_lines (more_decls d rest) fields s ≡ record (type_lines rest (lined d fields s).fields (lined d fields s).state) { decls = more_decls (lined d fields s).decl (type_lines rest (lined d fields s).fields (lined d fields s).state).decls }
line_first (decl p specs names) rest fields s = refl

pub line_done : (xs : List Decl) (i : ℕ) (a x : Decl) (f g : List FieldShape) (s u : State) (r : TypedDecls) → i < length xs → a ≡ get_or xs i a → decl_shape x ≡ (lined (decl_shape a) f s).decl → g ≡ (lined (decl_shape a) f s).fields → u ≡ (lined (decl_shape a) f s).state → in_front a_line (take i xs) (type_lines (decl_list (drop i xs)) f s) ≡ r → in_front a_line (take (i + 1) (set xs i x)) (type_lines (decl_list (drop (i + 1) (set xs i x))) g u) ≡ r
line_done xs i a x f g s u r h e t m v k = turned a_line (λ ys. type_lines (decl_list ys) f s) (λ ys. type_lines (decl_list ys) g u) xs i a x h e (λ rest. rw (t, m, v) (line_first (decl_shape a) (decl_list rest) f s)) ∙ k

lines_front : (xs : List Decl) (f : List FieldShape) (s : State) → record { decls = decl_list xs; fields = f; state = s } ≡ in_front a_line xs (record { decls = no_decls; fields = f; state = s })
lines_front [] f s = refl
lines_front (x ∷ xs) f s = ap (a_line x) (lines_front xs f s)

pub lines_done : (xs : List Decl) (i : ℕ) (f : List FieldShape) (s : State) (r : TypedDecls) → length xs ≤ i → in_front a_line (take i xs) (type_lines (decl_list (drop i xs)) f s) ≡ r → record { decls = decl_list xs; fields = f; state = s } ≡ r
lines_done xs i f s r h k = lines_front xs f s ∙ ended a_line (λ ys. type_lines (decl_list ys) f s) xs i h ∙ k

pub lines_lighter : (xs : List Decl) (i n : ℕ) (x : Decl) → i < length xs → decls_weight (decl_list (drop i xs)) ≤ n → decls_weight (decl_list (drop (i + 1) (set xs i x))) ≤ n
lines_lighter xs i n x h e = rest_lighter (λ ys. decls_weight (decl_list ys)) (λ y ys. omega arith) xs i n x h e

-- ---- fields

abbrev pub a_field : Declarator → TypedNames → TypedNames
a_field x r = record r { names = more_declarators (declarator_shape x) r.names }

field_first : (p : Pos) (k : Option TypeOf) (d : DeclaratorShape) (rest : DeclaratorShapes) (f : List FieldShape) (s : State) → type_fields p k (more_declarators d rest) f s ≡ record (type_fields p k rest (fielded p k d f s).fields (fielded p k d f s).state) { names = more_declarators (fielded p k d f s).name (type_fields p k rest (fielded p k d f s).fields (fielded p k d f s).state).names }
field_first p k (declarator stars x (arrays ls) i) rest f s = refl
field_first p k (declarator stars x (function ps) i) rest f s = refl

pub field_done : (p : Pos) (k : Option TypeOf) (xs : List Declarator) (i : ℕ) (a x : Declarator) (f g : List FieldShape) (s u : State) (r : TypedNames) → i < length xs → a ≡ get_or xs i a → declarator_shape x ≡ (fielded p k (declarator_shape a) f s).name → g ≡ (fielded p k (declarator_shape a) f s).fields → u ≡ (fielded p k (declarator_shape a) f s).state → in_front a_field (take i xs) (type_fields p k (declarator_list (drop i xs)) f s) ≡ r → in_front a_field (take (i + 1) (set xs i x)) (type_fields p k (declarator_list (drop (i + 1) (set xs i x))) g u) ≡ r
field_done p k xs i a x f g s u r h e t m v q = turned a_field (λ ys. type_fields p k (declarator_list ys) f s) (λ ys. type_fields p k (declarator_list ys) g u) xs i a x h e (λ rest. rw (t, m, v) (field_first p k (declarator_shape a) (declarator_list rest) f s)) ∙ q

fields_front : (xs : List Declarator) (f : List FieldShape) (s : State) → record { names = declarator_list xs; fields = f; state = s } ≡ in_front a_field xs (record { names = no_declarators; fields = f; state = s })
fields_front [] f s = refl
fields_front (x ∷ xs) f s = ap (a_field x) (fields_front xs f s)

pub fields_done : (p : Pos) (k : Option TypeOf) (xs : List Declarator) (i : ℕ) (f : List FieldShape) (s : State) (r : TypedNames) → length xs ≤ i → in_front a_field (take i xs) (type_fields p k (declarator_list (drop i xs)) f s) ≡ r → record { names = declarator_list xs; fields = f; state = s } ≡ r
fields_done p k xs i f s r h q = fields_front xs f s ∙ ended a_field (λ ys. type_fields p k (declarator_list ys) f s) xs i h ∙ q

pub fields_lighter : (xs : List Declarator) (i n : ℕ) (x : Declarator) → i < length xs → declarators_weight (declarator_list (drop i xs)) ≤ n → declarators_weight (declarator_list (drop (i + 1) (set xs i x))) ≤ n
fields_lighter xs i n x h e = rest_lighter (λ ys. declarators_weight (declarator_list ys)) (λ y ys. omega arith) xs i n x h e

-- ---- enumerators

abbrev pub a_row : Enumer → TypedRows → TypedRows
a_row x r = record r { rows = more_enumers (out-Enumer x).name (maybe_node (out-Enumer x).value) r.rows }

pub row_done : (xs : List Enumer) (i : ℕ) (a x : Enumer) (n m : Option ℤ) (s u : State) (r : TypedRows) → i < length xs → a ≡ get_or xs i a → (out-Enumer x).name ≡ (out-Enumer a).name → maybe_node (out-Enumer x).value ≡ (enumerated n (out-Enumer a).name (maybe_node (out-Enumer a).value) s).node → m ≡ (enumerated n (out-Enumer a).name (maybe_node (out-Enumer a).value) s).next → u ≡ (enumerated n (out-Enumer a).name (maybe_node (out-Enumer a).value) s).state → in_front a_row (take i xs) (rows_types n (enumer_list (drop i xs)) s) ≡ r → in_front a_row (take (i + 1) (set xs i x)) (rows_types m (enumer_list (drop (i + 1) (set xs i x))) u) ≡ r
row_done xs i a x n m s u r h e p t g v k = turned a_row (λ ys. rows_types n (enumer_list ys) s) (λ ys. rows_types m (enumer_list ys) u) xs i a x h e (λ rest. rw (p, t, g, v) refl) ∙ k

rows_front : (xs : List Enumer) (s : State) → record { rows = enumer_list xs; state = s } ≡ in_front a_row xs (record { rows = no_enumers; state = s })
rows_front [] s = refl
rows_front (x ∷ xs) s = ap (a_row x) (rows_front xs s)

pub rows_done : (xs : List Enumer) (i : ℕ) (n : Option ℤ) (s : State) (r : TypedRows) → length xs ≤ i → in_front a_row (take i xs) (rows_types n (enumer_list (drop i xs)) s) ≡ r → record { rows = enumer_list xs; state = s } ≡ r
rows_done xs i n s r h k = rows_front xs s ∙ ended a_row (λ ys. rows_types n (enumer_list ys) s) xs i h ∙ k

pub rows_lighter : (xs : List Enumer) (i n : ℕ) (x : Enumer) → i < length xs → enumers_weight (enumer_list (drop i xs)) ≤ n → enumers_weight (enumer_list (drop (i + 1) (set xs i x))) ≤ n
rows_lighter xs i n x h e = rest_lighter (λ ys. enumers_weight (enumer_list ys)) (λ y ys. omega arith) xs i n x h e
