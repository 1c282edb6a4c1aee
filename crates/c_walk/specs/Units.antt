-- The items of a program (C89, 3.7).
use Rattle.std.specs.Prelude.{ℕ, ◌&&◌, List, [], ◌∷◌, bytes_eq, Bool, is_some, Option, Some, None}
use Rattle.c_syntax.specs.declared.text.Text.{Text}
use Rattle.c_syntax.specs.Shape.{DeclShape, decl, DeclShapes, no_decls, more_decls, DeclaratorShape, declarator, DeclaratorShapes, no_declarators, more_declarators, DeclFormShape, arrays, function, ParamsShape, params, CompoundShape, braces, ExternalShape, defined, declared, UnitShape}
use Rattle.c_tables.specs.Tables.{TablesShape, FunctionShape}
use Rattle.c_tables.specs.Rows.{number_from, text_of}
use Rattle.c_walk.specs.Items.{Item}
use Rattle.c_walk.specs.declared.around.Around.{Around}
use Rattle.c_walk.specs.Walked.{Walked, with_block}
use Rattle.c_walk.specs.Stating.{with_variable, with_whole_def, walk_compound}

-- the variables that declarators of a function or of file scope declare are defined there
abbrev pub define_declarator : TablesShape → ℕ → DeclaratorShape → Walked → Walked
define_declarator t f (declarator stars x (arrays ls) i) s = with_whole_def t f x (with_variable s)
define_declarator t f (declarator stars x (function ps) i) s = s

abbrev pub define_declarators : TablesShape → ℕ → DeclaratorShapes → Walked → Walked
define_declarators t f no_declarators s = s
define_declarators t f (more_declarators d rest) s = define_declarators t f rest (define_declarator t f d s)

abbrev pub define_decl : TablesShape → ℕ → DeclShape → Walked → Walked
define_decl t f (decl p specs names) s = define_declarators t f names s

abbrev pub define_decls : TablesShape → ℕ → DeclShapes → Walked → Walked
define_decls t f no_decls s = s
define_decls t f (more_decls d rest) s = define_decls t f rest (define_decl t f d s)

abbrev pub define_params : TablesShape → ℕ → ParamsShape → Walked → Walked
define_params t f (params ds) s = define_decls t f ds s
define_params t f _ s = s

abbrev pub define_parameters : TablesShape → ℕ → DeclFormShape → Walked → Walked
define_parameters t f (function ps) s = define_params t f ps s
define_parameters t f (arrays ls) s = s

-- ---- functions

-- the function of that name that has a body
abbrev pub has_body : Text → FunctionShape → Bool
has_body x f = bytes_eq x f.name && is_some f.defined

abbrev pub number_or : Option ℕ → ℕ
number_or None = 0
number_or (Some n) = n

abbrev pub function_of : TablesShape → Text → ℕ
function_of t x = number_or (number_from (has_body x) 1 t.functions)

abbrev pub in_function : ℕ → Around
in_function f = record { function = f; owner = None }

-- a function's parameters, and its body, which is a block
abbrev pub walk_function : TablesShape → ℕ → DeclFormShape → CompoundShape → Walked → Walked
walk_function t f d (braces p ds items) s = walk_compound t (in_function f) (braces p ds items) (with_block p (define_parameters t f d s))

abbrev pub walk_external : TablesShape → ExternalShape → Walked → Walked
walk_external t (declared d) s = define_decl t 0 d s
walk_external t (defined specs (declarator stars x d i) marks c) s = walk_function t (function_of t (text_of x)) d c s

abbrev pub walk_externals : TablesShape → List ExternalShape → Walked → Walked
walk_externals t [] s = s
walk_externals t (e ∷ rest) s = walk_externals t rest (walk_external t e s)

abbrev pub no_items : Walked
no_items = record { items = []; decisions = 0; variables = 0 }

-- the items of a unit whose tables these are
abbrev pub items_of : TablesShape → UnitShape → List Item
items_of t u = (walk_externals t u.externals no_items).items
