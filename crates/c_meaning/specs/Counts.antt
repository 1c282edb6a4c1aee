-- How many variables declarations and statements declare, and what stands before what follows them.
use Rattle.std.specs.Prelude.{ℕ, ◌+◌, Option, Bool, ◌≤◌}
use Rattle.c_syntax.specs.declared.tree.Named.{Named}
use Rattle.c_syntax.specs.Shape.{DeclShape, decl, DeclShapes, no_decls, more_decls, DeclaratorShape, declarator, DeclaratorShapes, no_declarators, more_declarators, DeclFormShape, arrays, function, ParamsShape, params, StmtShape, stmt, FormShape, compound, when, either, while, do_while, for, switch, CompoundShape, braces, ItemShapes, no_items, more_items, ExternalShape, defined, declared, MaybeNode}
use Rattle.c_tables.specs.Tables.{TablesShape}
use Rattle.c_walk.specs.Walked.{Walked, with_block_if}
use Rattle.c_walk.specs.Walking.{walk_maybe, walk_maybe_test, walk_step}
use Rattle.c_walk.specs.Stating.{with_variable, with_whole_def, walk_declarator, walk_decl, walk_decls, walk_stmt, pos_of_stmt}
use Rattle.c_walk.specs.Units.{define_declarator, define_decl, define_params, walk_external}
use Rattle.c_meaning.specs.Firsts.{First, on, past}
use Rattle.c_walk.specs.Counted.{block_count, def_count, use_count}

-- ---- variables

-- a declarator of a function declares none
abbrev pub variables_of : DeclaratorShape → ℕ
variables_of (declarator stars x (arrays ls) i) = 1
variables_of (declarator stars x (function ps) i) = 0

abbrev pub variables_among : DeclaratorShapes → ℕ
variables_among no_declarators = 0
variables_among (more_declarators d rest) = variables_of d + variables_among rest

abbrev pub decl_variables : DeclShape → ℕ
decl_variables (decl p specs names) = variables_among names

abbrev pub decls_variables : DeclShapes → ℕ
decls_variables no_decls = 0
decls_variables (more_decls d rest) = decl_variables d + decls_variables rest

abbrev mutual
  pub stmt_variables : StmtShape → ℕ
  stmt_variables (stmt p marks q f) = form_variables f

  pub form_variables : FormShape → ℕ
  form_variables (compound c) = compound_variables c
  form_variables (when e a) = stmt_variables a
  form_variables (either e a b) = stmt_variables a + stmt_variables b
  form_variables (while e a) = stmt_variables a
  form_variables (do_while a e) = stmt_variables a
  form_variables (for e f g a) = stmt_variables a
  form_variables (switch e items) = items_variables items
  form_variables f = 0

  pub compound_variables : CompoundShape → ℕ
  compound_variables (braces p ds items) = decls_variables ds + items_variables items

  pub items_variables : ItemShapes → ℕ
  items_variables no_items = 0
  items_variables (more_items labels a rest) = stmt_variables a + items_variables rest

abbrev pub params_variables : ParamsShape → ℕ
params_variables (params ds) = decls_variables ds
params_variables ps = 0

abbrev pub signature_variables : DeclFormShape → ℕ
signature_variables (function ps) = params_variables ps
signature_variables (arrays ls) = 0

abbrev pub external_variables : ExternalShape → ℕ
external_variables (declared d) = decl_variables d
external_variables (defined specs (declarator stars x d i) marks c) = signature_variables d + compound_variables c

-- ---- declarations

-- behind the name of a variable, and behind its definition there
abbrev pub past_name : First → First
past_name i = past 1 (λ c w. with_variable w) i

abbrev pub past_def : TablesShape → Option Named → First → First
past_def t x i = on (λ c w. with_whole_def t c.function x w) i

abbrev pub past_declarator : TablesShape → DeclaratorShape → First → First
past_declarator t d i = past (variables_of d) (λ c w. walk_declarator t c d w) i

abbrev pub past_decl : TablesShape → DeclShape → First → First
past_decl t d i = past (decl_variables d) (λ c w. walk_decl t c d w) i

abbrev pub past_decls : TablesShape → DeclShapes → First → First
past_decls t ds i = past (decls_variables ds) (λ c w. walk_decls t c ds w) i

-- the same of file scope, and of parameters
abbrev pub past_defined : TablesShape → DeclaratorShape → First → First
past_defined t d i = past (variables_of d) (λ c w. define_declarator t c.function d w) i

abbrev pub past_param : TablesShape → DeclShape → First → First
past_param t d i = past (decl_variables d) (λ c w. define_decl t c.function d w) i

abbrev pub past_params : TablesShape → ParamsShape → First → First
past_params t ps i = past (params_variables ps) (λ c w. define_params t c.function ps w) i

abbrev pub past_external : TablesShape → ExternalShape → First → First
past_external t e i = past (external_variables e) (λ c w. walk_external t e w) i

-- ---- statements

-- behind a statement that is a block or not
abbrev pub past_stmt : TablesShape → Bool → StmtShape → First → First
past_stmt t b a i = past (stmt_variables a) (λ c w. walk_stmt t c a (with_block_if b (pos_of_stmt a) w)) i

-- behind an expression that may be left out; as the test of a loop; as the step of a `for`
abbrev pub behind_maybe : MaybeNode → First → First
behind_maybe e i = on (λ c w. walk_maybe c e w) i

abbrev pub behind_maybe_test : MaybeNode → First → First
behind_maybe_test e i = on (λ c w. walk_maybe_test c e w) i

abbrev pub behind_step : MaybeNode → First → First
behind_step e i = on (λ c w. walk_step c e w) i

-- ---- further on

-- what is counted at the first is counted at the second
pub record IsBefore (v w : Walked) : Type 0 where
  pub blocks : block_count v.items ≤ block_count w.items
  pub defs : def_count v.items ≤ def_count w.items
  pub uses : use_count v.items ≤ use_count w.items
  pub decisions : v.decisions ≤ w.decisions
