-- The beginnings of statements.
use Rattle.std.proofs.Common.{◌≡◌, ℕ, Option, Some, None, sym, ap, ◌∙◌, Box, Vec, Global}
use Rattle.c_syntax.specs.declared.tree.Node.{Node}
use Rattle.c_syntax.specs.declared.tree.Item.{Item}
use Rattle.c_syntax.specs.declared.tree.Stmt.{Stmt}
use Rattle.c_syntax.specs.declared.tree.StmtForm.{StmtForm}
use Rattle.c_syntax.specs.declared.tree.StmtForm.TheVariants as form
use Rattle.c_syntax.specs.Shape.{NodeShape, MaybeNode, one_node, simply, switch, return, CompoundShape}
use Rattle.c_syntax.specs.View.{node_shape, stmt_shape, form_shape, item_list}
use Rattle.c_syntax.specs.Options.{if_form}
use Rattle.c_syntax.proofs.Open.{if_open, switch_open}
use Rattle.c_tables.specs.Tables.{TablesShape}
use Rattle.c_meaning.specs.declared.end.Flow.TheVariants.{Next, Return}
use Rattle.c_meaning.specs.State.{State}
use Rattle.c_meaning.specs.Results.{Gives, then_do, present}
use Rattle.c_meaning.specs.Operators.{is_true}
use Rattle.c_meaning.specs.Firsts.{quiet}
use Rattle.c_meaning.specs.Knot.{Knot}
use Rattle.c_meaning.specs.Statements.{scoped, scope_opened, scope_closed, form_flow, compound_flow}
use Rattle.c_eval_once.specs.Parts.{value}
use Rattle.c_plan.specs.Parts.{names_ahead, IsBlock}
use Rattle.c_plan.specs.declared.block.Block.{Block}
use Rattle.c_meaning.proofs.Steps.{then_then}
use Rattle.c_machine.specs.declared.parts.Use.TheVariants as used
use Rattle.c_machine.specs.Todo.{Leaver, uses, block_flow, chosen_flow, switch_flow}
use Rattle.c_machine.proofs.Loops.{on_truth, on_needed}
use Rattle.c_machine.proofs.Declared.{compound_opens}

-- a compound statement
pub block_is : (t : TablesShape) (k : Knot) (b : Block) (c : CompoundShape) (n : ℕ) (s : State) → IsBlock c n b → block_flow t k (names_ahead b) (item_list b.items.now.items) b.before s ≡ compound_flow t k c (quiet n) s
block_is t k b c n s is = rw (is.2, is.3, is.4) (compound_opens t k is.0 is.1 (item_list b.items.now.items) n s)

pub scoped_is : (t : TablesShape) (k : Knot) (b : Block) (c : CompoundShape) (n : ℕ) (s : State) → IsBlock c n b → scoped s (block_flow t k (names_ahead b) (item_list b.items.now.items) b.before) ≡ scoped s (compound_flow t k c (quiet n))
scoped_is t k b c n s is = ap (λ r. then_do r (λ f s. Gives f (scope_closed s))) (block_is t k b c n (scope_opened s) is)

-- an `if`
if_begins : (t : TablesShape) (k : Knot) (e : Node) (a : Box Stmt Global) (other : Option (Box Stmt Global)) (n : ℕ) (s : State) (go : Leaver)
    → then_do (value t k (node_shape e) s) (λ v s. then_do (then_do (present v s) (λ v. chosen_flow t k (if_form (node_shape e) (stmt_shape a.value) other) n (is_true v))) go) ≡ then_do (form_flow t k (if_form (node_shape e) (stmt_shape a.value) other) (quiet n) s) go
if_begins t k e a None n s go = on_truth (value t k (node_shape e) s) (chosen_flow t k (if_form (node_shape e) (stmt_shape a.value) None) n) go
if_begins t k e a (Some b) n s go = on_truth (value t k (node_shape e) s) (chosen_flow t k (if_form (node_shape e) (stmt_shape a.value) (Some b)) n) go

pub if_opens : (t : TablesShape) (k : Knot) (f : StmtForm) (e : Node) (a : Box Stmt Global) (other : Option (Box Stmt Global)) (n : ℕ) (s : State) (go : Leaver) → f ≡ form.If e a other
    → then_do (value t k (node_shape e) s) (λ v s. then_do (then_do (present v s) (λ v. chosen_flow t k (form_shape f) n (is_true v))) go) ≡ then_do (form_flow t k (form_shape f) (quiet n) s) go
if_opens t k f e a other n s go is =
    let shape : form_shape f ≡ if_form (node_shape e) (stmt_shape a.value) other = ap form_shape is ∙ if_open e a other in
    rw shape (if_begins t k e a other n s go)

-- a `switch`
pub switch_begins : (t : TablesShape) (k : Knot) (f : StmtForm) (e : Node) (items : Vec Item Global) (n : ℕ) (s : State) (go : Leaver) → f ≡ form.Switch e items
    → then_do (value t k (node_shape e) s) (λ v s. then_do (then_do (present v s) (switch_flow t k (form_shape f) n)) go) ≡ then_do (form_flow t k (form_shape f) (quiet n) s) go
switch_begins t k f e items n s go is =
    let shape : form_shape f ≡ switch (node_shape e) (item_list items.items) = ap form_shape is ∙ switch_open e items in
    rw shape (on_needed (value t k (node_shape e) s) (switch_flow t k (switch (node_shape e) (item_list items.items)) n) go)

-- an expression statement, and a `return` with a value
pub discards : (t : TablesShape) (k : Knot) (m : MaybeNode) (e : NodeShape) (s : State) (go : Leaver) → m ≡ one_node e → then_do (value t k e s) (uses t k used.Discard go) ≡ then_do (form_flow t k (simply m) (quiet 0) s) go
discards t k m e s go is = rw is (sym (then_then (value t k e s) (λ v. Gives Next) go))

pub gives_back : (t : TablesShape) (k : Knot) (m : MaybeNode) (e : NodeShape) (s : State) (go : Leaver) → m ≡ one_node e → then_do (value t k e s) (uses t k used.Return go) ≡ then_do (form_flow t k (return m) (quiet 0) s) go
gives_back t k m e s go is = rw is (on_needed (value t k e s) (λ v. Gives (Return (Some v))) go)
