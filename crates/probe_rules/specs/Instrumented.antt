-- Programs with their probes, behind a line with the digest of their text. A program with its probes logs the events of the program.
use Rattle.std.specs.Prelude.{ℕ, List, [], ◌∷◌, Some}
use Rattle.c_syntax.specs.declared.text.Text.{Text}
use Rattle.c_syntax.specs.Shape.{DeclShape, decl, DeclShapes, no_decls, more_decls, DeclaratorShape, declarator, DeclaratorShapes, no_declarators, more_declarators, DeclFormShape, arrays, function, ParamsShape, empty, void, params, SpecShapes, CompoundShape, braces, ExternalShape, defined, declared, UnitShape}
use Rattle.c_tables.specs.Tables.{TablesShape}
use Rattle.c_tables.specs.Rows.{first_place, text_of}
use Rattle.c_walk.specs.Walked.{Walked, with_block}
use Rattle.c_walk.specs.Stating.{with_variable}
use Rattle.c_walk.specs.Units.{define_declarator, define_decl, define_parameters, function_of, in_function, walk_external, no_items}
use Rattle.c_meaning.specs.Calls.{Source}
use Rattle.probe_rules.specs.Marks.{mark_at, defined_name}
use Rattle.c_walk.specs.Counted.{next_block}
use Rattle.probe_rules.specs.ProbedStatements.{probed_compound}

-- ---- what is defined at its name: variables of file scope, and parameters of a function with that number

abbrev pub defined_declarator : TablesShape → ℕ → DeclaratorShape → Walked → DeclaratorShape
defined_declarator t f (declarator stars x (arrays ls) i) w = declarator stars (defined_name x (with_variable w)) (arrays ls) i
defined_declarator t f (declarator stars x (function ps) i) w = declarator stars x (function ps) i

abbrev pub defined_declarators : TablesShape → ℕ → DeclaratorShapes → Walked → DeclaratorShapes
defined_declarators t f no_declarators w = no_declarators
defined_declarators t f (more_declarators d rest) w = more_declarators (defined_declarator t f d w) (defined_declarators t f rest (define_declarator t f d w))

abbrev pub defined_decl : TablesShape → ℕ → DeclShape → Walked → DeclShape
defined_decl t f (decl p specs names) w = decl p specs (defined_declarators t f names w)

abbrev pub defined_decls : TablesShape → ℕ → DeclShapes → Walked → DeclShapes
defined_decls t f no_decls w = no_decls
defined_decls t f (more_decls d rest) w = more_decls (defined_decl t f d w) (defined_decls t f rest (define_decl t f d w))

abbrev pub defined_params : TablesShape → ℕ → ParamsShape → Walked → ParamsShape
defined_params t f (params ds) w = params (defined_decls t f ds w)
defined_params t f empty w = empty
defined_params t f void w = void

abbrev pub defined_signature : TablesShape → ℕ → DeclFormShape → Walked → DeclFormShape
defined_signature t f (function ps) w = function (defined_params t f ps w)
defined_signature t f (arrays ls) w = arrays ls

-- ---- programs

-- the function of that name: its parameters, and its body, which is a block
abbrev pub probed_function : TablesShape → SpecShapes → DeclaratorShape → CompoundShape → Walked → ExternalShape
probed_function t specs (declarator stars x d i) (braces p ds items) w =
    let f = function_of t (text_of x) in
    let v = define_parameters t f d w in
    defined specs (declarator stars x (defined_signature t f d w) i) (mark_at p (next_block v) ∷ []) (probed_compound t (in_function f) (braces p ds items) (with_block p v))

abbrev pub probed_external : TablesShape → ExternalShape → Walked → ExternalShape
probed_external t (declared d) w = declared (defined_decl t 0 d w)
probed_external t (defined specs d ms c) w = probed_function t specs d c w

abbrev pub probed_externals : TablesShape → List ExternalShape → Walked → List ExternalShape
probed_externals t [] w = []
probed_externals t (e ∷ rest) w = probed_external t e w ∷ probed_externals t rest (walk_external t e w)

-- the line stands first, at 1:1
abbrev pub instrumented_unit : Text → TablesShape → UnitShape → UnitShape
instrumented_unit digest t u = record u {
  line = Some (record { pos = first_place; digest = digest });
  externals = probed_externals t u.externals no_items;
}

-- the instrumented program has the variables, functions and literals of the program
abbrev pub instrumented : Text → Source → Source
instrumented digest P = record P { unit = instrumented_unit digest P.tables P.unit }
