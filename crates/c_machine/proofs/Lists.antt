-- The statements of a list.
use Rattle.std.proofs.Common.{◌≡◌, ℕ, suc, ◌+◌, ◌<◌, arith, Bool, true, false, Option, Some, refl, sym, ap, ◌∙◌, List}
use Rattle.std.specs.Prelude.{if◌then◌else◌}
use Rattle.c_syntax.specs.Shape.{NodeShape, StmtShape, stmt, FormShape, switch, LabelShape, ItemShapes, no_items, more_items}
use Rattle.c_store.specs.declared.value.Value.{Value}
use Rattle.c_tables.specs.Tables.{TablesShape}
use Rattle.c_walk.specs.Stating.{splits}
use Rattle.c_meaning.specs.declared.end.Flow.{Flow}
use Rattle.c_meaning.specs.declared.end.Flow.TheVariants.{Next, Break, Continue, Return}
use Rattle.c_meaning.specs.State.{State}
use Rattle.c_meaning.specs.Results.{Got, then_do}
use Rattle.c_meaning.specs.Firsts.{quiet}
use Rattle.c_meaning.specs.Counts.{stmt_variables}
use Rattle.c_meaning.specs.Knot.{Knot}
use Rattle.c_meaning.specs.Statements.{Entry, here, is_reached, passed, out_of_switch, after_one, chosen_entry, flow, items_flow}
use Rattle.c_meaning.proofs.Steps.{then_then, then_same}
use Rattle.c_plan.specs.Parts.{items_in}
use Rattle.c_machine.specs.Todo.{Leaver, part_flow, switch_flow}

-- where nothing is observed it plays no part what a list stands behind
pub any_after : (t : TablesShape) (k : Knot) (e : Entry) (b : Bool) (items : ItemShapes) (n : ℕ) (s : State) → items_flow t k e b items (quiet n) s ≡ items_flow t k e false items (quiet n) s
any_after t k e b no_items n s = refl
any_after t k e b (more_items labels (stmt p ms q f) rest) n s = refl

one_same : (g h : State → Got Flow) (f : Flow) (s : State) → ((s : State) → g s ≡ h s) → after_one g f s ≡ after_one h f s
one_same g h Next s e = e s
one_same g h Break s e = refl
one_same g h Continue s e = refl
one_same g h (Return v) s e = refl

-- the first of them
list_shape : (t : TablesShape) (k : Knot) (labels : List LabelShape) (a : StmtShape) (rest : ItemShapes) (n : ℕ) (s : State) (go : Leaver)
    → then_do (flow t k false a (quiet n) s) (λ f s. then_do (after_one (items_flow t k here false rest (quiet (n + stmt_variables a))) f s) go) ≡ then_do (items_flow t k here false (more_items labels a rest) (quiet n) s) go
list_shape t k labels (stmt p ms q f) rest n s go =
    let a = stmt p ms q f in
    let m = n + stmt_variables a in
    sym (then_then (flow t k false a (quiet n) s) (after_one (items_flow t k here false rest (quiet m))) go)
    ∙ ap (λ r. then_do r go) (then_same (flow t k false a (quiet n) s) (after_one (items_flow t k here false rest (quiet m))) (after_one (items_flow t k here (splits a) rest (quiet m))) (λ f s. one_same _ _ f s (λ s. sym (any_after t k here (splits a) rest m s))))

pub list_first : (t : TablesShape) (k : Knot) (items : ItemShapes) (labels : List LabelShape) (a : StmtShape) (rest : ItemShapes) (n n' m : ℕ) (s : State) (go : Leaver) → items ≡ more_items labels a rest → n' ≡ n → m ≡ n + stmt_variables a
    → then_do (flow t k false a (quiet n') s) (λ f s. then_do (after_one (items_flow t k here false rest (quiet m)) f s) go) ≡ then_do (items_flow t k here false items (quiet n) s) go
list_first t k items labels a rest n n' m s go is e g = rw (is, e, g) (list_shape t k labels a rest n s go)

-- nor whether a statement is a block
pub any_block : (t : TablesShape) (k : Knot) (b : Bool) (a : StmtShape) (n : ℕ) (s : State) → flow t k b a (quiet n) s ≡ flow t k false a (quiet n) s
any_block t k b (stmt p ms q f) n s = refl

pub part_opens : (t : TablesShape) (k : Knot) (o : Option StmtShape) (a : StmtShape) (m n : ℕ) (s : State) → o ≡ Some a → m ≡ n → flow t k false a (quiet m) s ≡ part_flow t k o n s
part_opens t k o a m n s is e = rw (is, e) (sym (any_block t k true a n s))

pub body_opens : (t : TablesShape) (k : Knot) (o : Option StmtShape) (a : StmtShape) (m n : ℕ) (s : State) (g : Flow → State → Got Flow) (go : Leaver) → o ≡ Some a → m ≡ n
    → then_do (flow t k false a (quiet m) s) (λ f s. then_do (g f s) go) ≡ then_do (then_do (part_flow t k o n s) g) go
body_opens t k o a m n s g go is e = sym (then_then (flow t k false a (quiet m) s) g go) ∙ ap (λ r. then_do (then_do r g) go) (part_opens t k o a m n s is e)

-- ---- from an entry on

abbrev pub item_total : ItemShapes → ℕ
item_total no_items = 0
item_total (more_items labels a rest) = suc (item_total rest)

reached_shape : (t : TablesShape) (k : Knot) (e : Entry) (labels : List LabelShape) (a : StmtShape) (rest : ItemShapes) (n : ℕ) (s : State) (b : Bool) → is_reached e labels ≡ b
    → items_flow t k e false (more_items labels a rest) (quiet n) s ≡ (if b then items_flow t k here false (more_items labels a rest) (quiet n) s else items_flow t k (passed e labels) false rest (quiet (n + stmt_variables a)) s)
reached_shape t k e labels (stmt p ms q f) rest n s true is = rw is refl
reached_shape t k e labels (stmt p ms q f) rest n s false is = rw is (any_after t k (passed e labels) (splits (stmt p ms q f)) rest (n + stmt_variables (stmt p ms q f)) s)

-- it is reached
pub from_here : (t : TablesShape) (k : Knot) (e : Entry) (items : ItemShapes) (labels : List LabelShape) (a : StmtShape) (rest : ItemShapes) (n : ℕ) (s : State) → items ≡ more_items labels a rest → is_reached e labels ≡ true
    → items_flow t k here false items (quiet n) s ≡ items_flow t k e false items (quiet n) s
from_here t k e items labels a rest n s is e' = rw is (sym (reached_shape t k e labels a rest n s true e'))

-- it is passed by
pub from_next : (t : TablesShape) (k : Knot) (e e' : Entry) (items : ItemShapes) (labels : List LabelShape) (a : StmtShape) (rest : ItemShapes) (n m : ℕ) (s : State) → items ≡ more_items labels a rest → is_reached e labels ≡ false → e' ≡ passed e labels → m ≡ n + stmt_variables a
    → items_flow t k e' false rest (quiet m) s ≡ items_flow t k e false items (quiet n) s
from_next t k e e' items labels a rest n m s is not_here g h = rw (is, g, h) (sym (reached_shape t k e labels a rest n s false not_here))

pub fewer : (items : ItemShapes) (labels : List LabelShape) (a : StmtShape) (rest : ItemShapes) → items ≡ more_items labels a rest → item_total rest < item_total items
fewer items labels a rest is = rw is (omega arith)

-- ---- switches

pub switch_opens : (t : TablesShape) (k : Knot) (f : FormShape) (e : NodeShape) (items q : ItemShapes) (at : Entry) (n m : ℕ) (v : Value) (s : State) (go : Leaver) → f ≡ switch e items → items_in f ≡ Some q → m ≡ n → at ≡ chosen_entry e items v
    → then_do (items_flow t k at false q (quiet m) s) (λ f s. then_do (out_of_switch f s) go) ≡ then_do (switch_flow t k f n v s) go
switch_opens t k f e items q at n m v s go is i g h =
    let same : items ≡ q = (let j : Some items ≡ Some q = ap items_in (sym is) ∙ i in cc) in
    rw (sym same, g, h, is) (sym (then_then (items_flow t k (chosen_entry e items v) false items (quiet n) s) out_of_switch go))
