-- How worked programs are spelled: bare units, which the checker's definition types. All places are 1:1.
use Rattle.std.proofs.Common.{ℕ, ◌+◌, List, [], ◌∷◌, Option, Some, None}
use Rattle.c_base.specs.declared.place.Pos.{Pos}
use Rattle.c_syntax.specs.declared.text.Text.{Text}
use Rattle.c_syntax.specs.declared.token.Key.TheVariants as key
use Rattle.c_syntax.specs.declared.tree.Named.{Named}
use Rattle.c_syntax.specs.declared.tree.Star.{Star}
use Rattle.c_syntax.specs.declared.tree.BinaryOp.{BinaryOp}
use Rattle.c_syntax.specs.declared.tree.UnaryOp.{UnaryOp}
use Rattle.c_syntax.specs.Shape.{bare, number, name, unary, plain, assign, dot, NodeShape, node, ExprShape, leaf, call, prefix, suffix, two, index, field, NodeShapes, no_nodes, more_nodes, one_node, no_lengths, more_lengths, SpecShapes, no_specs, more_specs, word, DeclShape, decl, DeclShapes, no_decls, more_decls, DeclaratorShape, declarator, no_declarators, more_declarators, arrays, function, void, params, MaybeInit, no_init, one_init, one, StmtShape, stmt, FormShape, compound, simply, return, braces, ItemShapes, no_items, more_items, ExternalShape, defined, UnitShape}
use Rattle.c_tree.specs.Units.{TypedUnit, typed_unit}
use Rattle.c_events.specs.declared.events.Event.{Event}
use Rattle.c_meaning.specs.declared.end.End.{End}
use Rattle.c_meaning.specs.Calls.{Source}
use Rattle.c_meaning.specs.Runs.{Outcome, run_heard}
use Rattle.c_meaning.specs.Deeds.{told}

abbrev pub p : Pos
p = record { line = 1; col = 1 }

-- ---- names

abbrev pub named : Text → Option Named
named x = Some (record { pos = p; text = x; probe = None })

-- a letter, counted from a
abbrev pub letter : ℕ → Text
letter n = (97 + n) ∷ []

abbrev pub a : Text
a = letter 0

abbrev pub b : Text
b = letter 1

abbrev pub f : Text
f = letter 5

abbrev pub g : Text
g = letter 6

abbrev pub i : Text
i = letter 8

abbrev pub n : Text
n = letter 13

abbrev pub q : Text
q = letter 16

abbrev pub v : Text
v = letter 21

abbrev pub x : Text
x = letter 23

abbrev pub y : Text
y = letter 24

abbrev pub main_text : Text
main_text = 109 ∷ 97 ∷ 105 ∷ 110 ∷ []

abbrev pub getchar_text : Text
getchar_text = 103 ∷ 101 ∷ 116 ∷ 99 ∷ 104 ∷ 97 ∷ 114 ∷ []

abbrev pub putchar_text : Text
putchar_text = 112 ∷ 117 ∷ 116 ∷ 99 ∷ 104 ∷ 97 ∷ 114 ∷ []

abbrev pub exit_text : Text
exit_text = 101 ∷ 120 ∷ 105 ∷ 116 ∷ []

-- ---- expressions

abbrev pub e : ExprShape → NodeShape
e form = node p p bare form

abbrev pub digit : ℕ → NodeShape
digit d = e (leaf (number ((48 + d) ∷ [])))

abbrev pub digits : Text → NodeShape
digits t = e (leaf (number t))

abbrev pub var : Text → NodeShape
var t = e (leaf (name t))

abbrev pub set : NodeShape → NodeShape → NodeShape
set l r = e (two (assign None) l r)

abbrev pub bin : BinaryOp → NodeShape → NodeShape → NodeShape
bin u l r = e (two (plain u) l r)

abbrev pub pre : UnaryOp → NodeShape → NodeShape
pre u l = e (prefix (unary u) l)

abbrev pub dotted : NodeShape → Text → NodeShape
dotted l t = e (suffix l (field dot t p))

abbrev pub at : NodeShape → NodeShape → NodeShape
at l r = e (suffix l (index r))

abbrev pub call_of : Text → NodeShapes → NodeShape
call_of t args = e (call t args)

abbrev pub of_one : NodeShape → NodeShapes
of_one l = more_nodes l no_nodes

-- ---- statements

abbrev pub s : FormShape → StmtShape
s form = stmt p [] p form

abbrev pub on : FormShape → ItemShapes → ItemShapes
on form rest = more_items [] (s form) rest

abbrev pub does : NodeShape → ItemShapes → ItemShapes
does l rest = on (simply (one_node l)) rest

abbrev pub do_it : NodeShape → StmtShape
do_it l = s (simply (one_node l))

abbrev pub give : NodeShape → ItemShapes
give l = on (return (one_node l)) no_items

abbrev pub back : NodeShape → StmtShape
back l = s (return (one_node l))

abbrev pub block_of : ItemShapes → StmtShape
block_of items = s (compound (braces p no_decls items))

-- ---- declarations

abbrev pub star : Star
star = record { pos = p; consts = 0 }

abbrev pub ints : SpecShapes
ints = more_specs p (word key.Int) no_specs

abbrev pub of : SpecShapes → DeclaratorShape → DeclShape
of specs d = decl p specs (more_declarators d no_declarators)

abbrev pub an_int : Text → DeclShape
an_int t = of ints (declarator [] (named t) (arrays no_lengths) no_init)

abbrev pub an_int_of : Text → NodeShape → DeclShape
an_int_of t l = of ints (declarator [] (named t) (arrays no_lengths) (one_init (one l)))

abbrev pub an_array : Text → NodeShape → DeclShape
an_array t l = of ints (declarator [] (named t) (arrays (more_lengths (one_node l) no_lengths)) no_init)

abbrev pub a_pointer : Text → MaybeInit → DeclShape
a_pointer t init = of ints (declarator (star ∷ []) (named t) (arrays no_lengths) init)

abbrev pub decls : List DeclShape → DeclShapes
decls [] = no_decls
decls (d ∷ ds) = more_decls d (decls ds)

abbrev pub do_block : List DeclShape → ItemShapes → StmtShape
do_block ds items = s (compound (braces p (decls ds) items))

-- ---- programs

-- int main(void) with a body
abbrev pub main_with : List DeclShape → ItemShapes → ExternalShape
main_with ds items = defined ints (declarator [] (named main_text) (function void) no_init) [] (braces p (decls ds) items)

-- int t(void), and int t(int u), with bodies
abbrev pub function_of_none : Text → List DeclShape → ItemShapes → ExternalShape
function_of_none t ds items = defined ints (declarator [] (named t) (function void) no_init) [] (braces p (decls ds) items)

abbrev pub function_of_int : Text → Text → List DeclShape → ItemShapes → ExternalShape
function_of_int t u ds items = defined ints (declarator [] (named t) (function (params (decls (an_int u ∷ [])))) no_init) [] (braces p (decls ds) items)

abbrev pub unit : List ExternalShape → UnitShape
unit es = record { pos = p; line = None; externals = es; last = p }

abbrev pub source_of : TypedUnit → Source
source_of t = record { unit = t.unit; tables = t.state.tables }

-- the program of these declarations, typed
abbrev pub program : List ExternalShape → Source
program es = source_of (typed_unit (unit es))

-- ---- runs

-- what is seen of a run: the bytes written, the turns taken, the end, and the events
pub record Seen : Type 0 where
  pub output : List ℕ
  pub turns : ℕ
  pub end : End
  pub events : List Event

abbrev pub seen : Outcome → Seen
seen o = record { output = o.output; turns = o.turns; end = o.end; events = told o.deeds }

-- the run of these declarations on an input within a limit
abbrev pub runs : List ExternalShape → List ℕ → ℕ → Seen
runs es input limit = seen (run_heard (program es) input limit)
