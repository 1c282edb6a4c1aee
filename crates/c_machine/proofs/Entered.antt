-- Calls of functions.
use Rattle.std.proofs.Common.{◌≡◌, ℕ, ◌+◌, List, Option, Some, None, refl, sym, ap, ◌∙◌, arith}
use Rattle.c_syntax.specs.declared.tree.ProbeMark.{ProbeMark}
use Rattle.c_syntax.specs.Shape.{DeclFormShape, arrays, function, CompoundShape, braces}
use Rattle.c_store.specs.declared.value.Value.{Value}
use Rattle.c_tables.specs.Tables.{TablesShape, tables_shape}
use Rattle.c_tables.specs.Rows.{row}
use Rattle.c_meaning.specs.State.{State}
use Rattle.c_meaning.specs.declared.end.Flow.{Flow}
use Rattle.c_meaning.specs.declared.end.Flow.TheVariants.{Next}
use Rattle.c_meaning.specs.Results.{Got, Gives, then_do, turn}
use Rattle.c_meaning.specs.Firsts.{quiet}
use Rattle.c_meaning.specs.Counts.{signature_variables}
use Rattle.c_meaning.specs.Knot.{Knot}
use Rattle.c_meaning.specs.Statements.{marks_log, compound_flow}
use Rattle.c_meaning.specs.Calls.{Routine, routine, entered, past_signature, result_in, returned, called_found, body_flow}
use Rattle.c_meaning.specs.Runs.{silent}
use Rattle.c_meaning.proofs.Steps.{then_then}
use Rattle.c_meaning.proofs.Knots.{call_is}
use Rattle.c_tree.specs.declared.program.Program.{Program}
use Rattle.c_meaning.specs.Sources.{source_of}
use Rattle.c_machine.specs.Todo.{entered_flow, knot_of}

-- ---- a body

past_quiet : (t : TablesShape) (d : DeclFormShape) (n : ℕ) → past_signature t d (quiet n) ≡ quiet (n + signature_variables d)
past_quiet t (function ps) n = refl
past_quiet t (arrays ls) n = ap quiet (omega arith)

body_marks : (t : TablesShape) (k : Knot) (ms : List ProbeMark) (c : CompoundShape) (n : ℕ) (s : State) → marks_log ms s (λ s. turn s (compound_flow t k c (quiet n))) ≡ body_flow t k ms c (quiet n) s
body_marks t k ms (braces p ds items) n s = refl

-- ---- the call of a function

found_is : (t : TablesShape) (k : Knot) (f : ℕ) (o : Option Routine) (vs : List Value) (s : State) → then_do (entered_flow t k f o vs s) (returned (result_in (row t.functions f))) ≡ called_found t k f o vs s
found_is t k f None vs s = refl
found_is t k f (Some r) vs s = then_then (entered t f r vs s) (λ g. body_flow t k r.marks r.body (past_signature t r.params r.first)) (returned (result_in (row t.functions f)))

pub called_is : (p : Program) (f : ℕ) (vs : List Value) (s : State) → then_do (entered_flow (tables_shape p.tables) (knot_of p) f (routine (source_of p) silent f) vs s) (returned (result_in (row (tables_shape p.tables).functions f))) ≡ (knot_of p).call f vs s
called_is p f vs s = found_is (tables_shape p.tables) (knot_of p) f (routine (source_of p) silent f) vs s ∙ sym (call_is (source_of p) silent f vs s)

pub called_then : (p : Program) (f : ℕ) (vs : List Value) (s : State) (go : Option Value → State → Got (Option Value))
    → then_do (entered_flow (tables_shape p.tables) (knot_of p) f (routine (source_of p) silent f) vs s) (λ g s. then_do (returned (result_in (row (tables_shape p.tables).functions f)) g s) go) ≡ then_do ((knot_of p).call f vs s) go
called_then p f vs s go =
    sym (then_then (entered_flow (tables_shape p.tables) (knot_of p) f (routine (source_of p) silent f) vs s) (returned (result_in (row (tables_shape p.tables).functions f))) go)
    ∙ ap (λ r. then_do r go) (called_is p f vs s)

-- ---- a function is entered, and then its body goes on

pub begun_body : (t : TablesShape) (k : Knot) (ms : List ProbeMark) (d : DeclFormShape) (c : CompoundShape) (n : ℕ) (s : State)
    → marks_log ms s (λ s. turn s (compound_flow t k c (quiet (n + signature_variables d)))) ≡ body_flow t k ms c (past_signature t d (quiet n)) s
begun_body t k ms d c n s = body_marks t k ms c (n + signature_variables d) s ∙ ap (λ q. body_flow t k ms c q s) (sym (past_quiet t d n))

pub entered_then : (t : TablesShape) (k : Knot) (f : ℕ) (o : Option Routine) (r : Routine) (vs : List Value) (s u : State) (go : Flow → State → Got (Option Value))
    → o ≡ Some r → entered t f r vs s ≡ Gives Next u → then_do (body_flow t k r.marks r.body (past_signature t r.params r.first) u) go ≡ then_do (entered_flow t k f o vs s) go
entered_then t k f o r vs s u go is e =
    sym (ap (λ o. then_do (entered_flow t k f o vs s) go) is ∙ ap (λ g. then_do (then_do g (λ f. body_flow t k r.marks r.body (past_signature t r.params r.first))) go) e)
