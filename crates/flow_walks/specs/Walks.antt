-- The walks of a function: what its parameters and its body meet, from its call on.
use Rattle.std.specs.Prelude.{◌≡◌, ◌⊎◌, ℕ, ◌++◌, Contains, List, [], ◌∷◌}
use Rattle.c_syntax.specs.Shape.{DeclShape, decl, DeclShapes, no_decls, more_decls, DeclaratorShape, declarator, DeclaratorShapes, no_declarators, more_declarators, DeclFormShape, arrays, function, empty, void, params, CompoundShape, braces, ExternalShape, defined, declared, UnitShape}
use Rattle.c_tables.specs.Tables.{TablesShape}
use Rattle.c_tables.specs.Rows.{text_of}
use Rattle.c_walk.specs.Walked.{Walked, with_block}
use Rattle.c_walk.specs.Counted.{next_block, next_def}
use Rattle.c_walk.specs.Stating.{with_variable}
use Rattle.c_walk.specs.Units as units
use Rattle.c_walk.specs.Units.{function_of, in_function, define_declarator, define_decl, define_parameters, walk_external}
use Rattle.flow_walks.specs.declared.action.Action.{Action}
use Rattle.flow_walks.specs.declared.action.Action.TheVariants.{Define, Block}
use Rattle.flow_walks.specs.Comes.{Met, act, enter, leave, Comes, ends, emit}
use Rattle.flow_walks.specs.Statements.{Exits, compound_goes}

-- ---- parameters: each is defined, in their order

abbrev pub parameter_goes : TablesShape → ℕ → DeclaratorShape → Walked → Comes → Comes
parameter_goes t f (declarator stars x (arrays ls) i) s k = emit (act (Define (next_def (with_variable s)))) k
parameter_goes t f (declarator stars x (function ps) i) s k = k

abbrev pub parameters_of : TablesShape → ℕ → DeclaratorShapes → Walked → Comes → Comes
parameters_of t f no_declarators s k = k
parameters_of t f (more_declarators d rest) s k = parameter_goes t f d s (parameters_of t f rest (define_declarator t f d s) k)

abbrev pub parameter_line : TablesShape → ℕ → DeclShape → Walked → Comes → Comes
parameter_line t f (decl p specs names) s k = parameters_of t f names s k

abbrev pub parameter_lines : TablesShape → ℕ → DeclShapes → Walked → Comes → Comes
parameter_lines t f no_decls s k = k
parameter_lines t f (more_decls d rest) s k = parameter_line t f d s (parameter_lines t f rest (define_decl t f d s) k)

abbrev pub parameters_go : TablesShape → ℕ → DeclFormShape → Walked → Comes → Comes
parameters_go t f (function (params ds)) s k = parameter_lines t f ds s k
parameters_go t f (function empty) s k = k
parameters_go t f (function void) s k = k
parameters_go t f (arrays ls) s k = k

-- ---- bodies

-- the body is left by its end or by a `return`; a `break` or `continue` stands in a loop or a switch
abbrev pub body_exits : Exits
body_exits = record { next = emit leave ends; broken = ends; continued = ends; returned = emit leave ends }

abbrev pub function_goes : TablesShape → ℕ → DeclFormShape → CompoundShape → Walked → Comes
function_goes t f d (braces p ds items) s =
    let j = define_parameters t f d s in
    parameters_go t f d s (emit (act (Block (next_block j))) (compound_goes t (in_function f) (braces p ds items) (with_block p j) body_exits))

-- a function of that number, among external declarations behind these items; a program has one at most
abbrev pub external_goes : TablesShape → ℕ → ExternalShape → Walked → Comes
external_goes t f (declared d) s w = ⊥
external_goes t f (defined specs (declarator stars x d i) marks c) s w = (function_of t (text_of x) ≡ f) × function_goes t f d c s w

abbrev pub externals_go : TablesShape → ℕ → List ExternalShape → Walked → Comes
externals_go t f [] s w = ⊥
externals_go t f (e ∷ rest) s w = external_goes t f e s w ⊎ externals_go t f rest (walk_external t e s) w

-- ---- walks

-- with the calls of defined functions, and with the leaving of the body
abbrev pub Goes : TablesShape → UnitShape → ℕ → List Met → Type 0
Goes t u f w = externals_go t f u.externals units.no_items w

-- a marked walk: the calls are told in it, the leaving of the body isn't; and one that leaves the body
abbrev pub Marked : TablesShape → UnitShape → ℕ → List Met → Type 0
Marked t u f w = Goes t u f w × (Contains w leave → ⊥)

abbrev pub Leaving : TablesShape → UnitShape → ℕ → List Met → Type 0
Leaving t u f w = Goes t u f (w ++ leave ∷ [])

-- a list without its marks
abbrev pub actions : List Met → List Action
actions [] = []
actions (act a ∷ w) = a ∷ actions w
actions (enter f ∷ w) = actions w
actions (leave ∷ w) = actions w

-- a walk: a marked one without its marks
abbrev pub Walk : TablesShape → UnitShape → ℕ → List Action → Type 0
Walk t u f v = (w : List Met) × Goes t u f w × (actions w ≡ v)
