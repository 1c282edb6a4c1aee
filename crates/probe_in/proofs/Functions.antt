-- What is defined at its name, and functions.
use Rattle.std.proofs.Common.{◌≡◌, ℕ, List, [], ◌∷◌, Option, true, ap, sym, ◌∙◌}
use Rattle.c_base.specs.declared.place.Pos.{Pos}
use Rattle.c_syntax.specs.declared.tree.Star.{Star}
use Rattle.c_syntax.specs.declared.tree.Named.{Named}
use Rattle.c_syntax.specs.declared.tree.ProbeMark.{ProbeMark}
use Rattle.c_syntax.specs.Shape.{DeclShape, decl, no_declarators, more_declarators, DeclShapes, ItemShapes, SpecShapes, DeclaratorShape, declarator, DeclFormShape, arrays, LengthShapes, MaybeInit, CompoundShape, braces, ExternalShape, defined}
use Rattle.c_tables.specs.Tables.{TablesShape}
use Rattle.c_tables.specs.Rows.{name_pos, text_of, first_place}
use Rattle.c_walk.specs.Items.{Direct}
use Rattle.c_walk.specs.Walked.{Walked, with_def, with_block}
use Rattle.c_walk.specs.Stating.{whole, with_variable, walk_compound}
use Rattle.c_walk.specs.Units.{define_declarator, define_decl, define_parameters, in_function, function_of, walk_function}
use Rattle.probe_rules.specs.Marks.{defined_name, mark_at}
use Rattle.c_walk.specs.Counted.{next_block}
use Rattle.probe_rules.specs.ProbedStatements.{probed_compound}
use Rattle.probe_rules.specs.Instrumented.{defined_declarator, defined_decl, defined_signature, probed_function}
use Rattle.probe_expr.specs.declared.numbers.Numbers.{Numbers}
use Rattle.probe_expr.specs.Numbers.{counts, Counted, Numbered}
use Rattle.probe_in.specs.Defined.{Defined}

pub variable_defined : (t : TablesShape) (f : ℕ) (n m : Numbers) (s r : List Star) (x y : Option Named) (d : DeclFormShape) (ls : LengthShapes) (i j : MaybeInit) (made : DeclaratorShape) → made ≡ declarator r y d j → r ≡ s → ((w : Walked) → counts w ≡ n → y ≡ defined_name x w) → d ≡ arrays ls → j ≡ i → ((p : Pos) (d : Option Direct) → Counted n m (λ c w. with_def true c p d w)) → Defined n m made (λ w. defined_declarator t f (declarator s x (arrays ls) i) w) (λ w. define_declarator t f (declarator s x (arrays ls) i) w)
variable_defined t f n m s r x y d ls i j made is stars named form init counted w h =
    let v = with_variable w in
    (is ∙ ap (λ z. declarator z y d j) stars ∙ ap (λ z. declarator s z d j) (named v h) ∙ ap (λ z. declarator s (defined_name x v) z j) form ∙ ap (declarator s (defined_name x v) (arrays ls)) init, counted (name_pos first_place x) (whole t v.variables) (in_function f) v h)

pub param_defined : (t : TablesShape) (f : ℕ) (n m : Numbers) (p : Pos) (specs copied : SpecShapes) (a b : DeclaratorShape) (q made : DeclShape) → q ≡ decl p specs (more_declarators a no_declarators) → made ≡ decl p copied (more_declarators b no_declarators) → copied ≡ specs → Defined n m b (λ w. defined_declarator t f a w) (λ w. define_declarator t f a w) → Defined n m made (λ w. defined_decl t f q w) (λ w. define_decl t f q w)
param_defined t f n m p specs copied a b q made opened is same named w h =
    let r = named w h in
    let parts : made ≡ decl p specs (more_declarators (defined_declarator t f a w) no_declarators) =
    is ∙ ap (λ z. decl p z (more_declarators b no_declarators)) same ∙ ap (λ z. decl p specs (more_declarators z no_declarators)) r.0 in
    (parts ∙ sym (ap (λ z. defined_decl t f z w) opened), ap (λ z. counts (define_decl t f z w)) opened ∙ r.1)

pub function_probed : (t : TablesShape) (n m k l : Numbers) (specs copied : SpecShapes) (s : List Star) (x : Option Named) (d : DeclFormShape) (i : MaybeInit) (name : DeclaratorShape) (mark : ProbeMark) (marks : List ProbeMark) (p : Pos) (ds : DeclShapes) (items : ItemShapes) (body b : CompoundShape) (made : ExternalShape) → made ≡ defined copied name marks body → copied ≡ specs → ((f : ℕ) → Defined n m name (λ w. declarator s x (defined_signature t f d w) i) (λ w. define_parameters t f d w)) → ((w : Walked) → counts w ≡ m → mark ≡ mark_at p (next_block w)) → marks ≡ mark ∷ [] → ((p : Pos) → Counted m k (λ c w. with_block p w)) → Numbered k l body (λ c w. probed_compound t c b w) (λ c w. walk_compound t c b w) → b ≡ braces p ds items → Defined n l made (λ w. probed_function t specs (declarator s x d i) b w) (λ w. walk_function t (function_of t (text_of x)) d b w)
function_probed t n m k l specs copied s x d i name mark marks p ds items body b made is same signed marked listed counted bodied opened w h =
    let f = function_of t (text_of x) in
    let v = define_parameters t f d w in
    let c = in_function f in
    let q = signed f w h in
    let r = bodied c (with_block p v) (counted p c v q.1) in
    let y = declarator s x (defined_signature t f d w) i in
    let one = mark_at p (next_block v) ∷ [] in
    let whole : made ≡ defined specs y one (probed_compound t c b (with_block p v)) =
    is ∙ ap (λ z. defined z name marks body) same ∙ ap (λ z. defined specs z marks body) q.0 ∙ ap (λ z. defined specs y z body) (listed ∙ ap (λ z. z ∷ []) (marked v q.1)) ∙ ap (defined specs y one) r.0 in
    (whole ∙ ap (λ z. defined specs y one (probed_compound t c z (with_block p v))) opened ∙ sym (ap (λ z. probed_function t specs (declarator s x d i) z w) opened), ap (λ z. counts (walk_function t f d z w)) opened ∙ sym (ap (λ z. counts (walk_compound t c z (with_block p v))) opened) ∙ r.1)
