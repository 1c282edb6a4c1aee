-- What statements come to that are done at once.
use Rattle.std.proofs.Common.{◌≡◌, ℕ, ◌+◌, suc, ◌≤◌, List, [], ◌∷◌, length, Bool, true, false, Option, Some, None, ap, sym, subst, refl, ◌∙◌, arith}
use Rattle.std.specs.Prelude.{if◌then◌else◌}
use Rattle.std.specs.declared.boxed.Box.{Box}
use Rattle.std.specs.declared.alloc.Global.{Global}
use Rattle.c_syntax.specs.declared.tree.Node.{Node}
use Rattle.c_syntax.specs.declared.tree.Decl.{Decl}
use Rattle.c_syntax.specs.declared.tree.Item.{Item}
use Rattle.c_syntax.specs.declared.tree.Stmt.{Stmt}
use Rattle.c_syntax.specs.declared.tree.StmtForm.{StmtForm}
use Rattle.c_syntax.specs.declared.tree.StmtForm.TheVariants as form
use Rattle.c_syntax.specs.declared.tree.Compound.{Compound, out-Compound}
use Rattle.c_syntax.specs.Shape.{NodeShape, no_decls}
use Rattle.c_syntax.specs.View.{node_shape, decl_list, stmt_shape, form_shape, compound_shape, item_list}
use Rattle.c_syntax.proofs.Open.{compound_open}
use Rattle.c_store.specs.declared.value.Value.{Value}
use Rattle.c_tables.specs.Tables.{TablesShape}
use Rattle.c_meaning.specs.declared.end.Stop.{Stop}
use Rattle.c_meaning.specs.declared.end.Flow.{Flow}
use Rattle.c_meaning.specs.declared.end.Flow.TheVariants.{Next}
use Rattle.c_meaning.specs.State.{Call, State}
use Rattle.c_meaning.specs.Results.{Got, Gives, Stops, then_do, needed}
use Rattle.c_meaning.specs.Operators.{is_true}
use Rattle.c_meaning.specs.Firsts.{quiet, noted_test}
use Rattle.c_meaning.specs.Knot.{Knot}
use Rattle.c_meaning.specs.Expressions.{meaning, tested}
use Rattle.c_meaning.specs.Counts.{stmt_variables}
use Rattle.c_meaning.specs.Statements.{flow, form_flow, compound_flow, items_flow, scoped, scope_opened, scope_closed, here}
use Rattle.c_world.specs.Names.{scopes_in, scope_counts, one_more, one_less}
use Rattle.c_eval_direct.specs.Direct.{is_direct}
use Rattle.c_machine_direct.specs.declared.statements.Way.{Way}
use Rattle.c_machine_direct.specs.Ways.{Leaves}
use Rattle.c_machine_direct.specs.Forms.{has_none, is_direct_form, is_direct_compound, are_direct}
use Rattle.c_machine_direct.proofs.Lists.{compound_direct, both}
use Rattle.c_eval_once.specs.Parts.{value}

pub tests_stops : (t : TablesShape) (k : Knot) (e : NodeShape) (s s' : State) (why : Stop) → value t k e s ≡ Stops why s' → tested e (meaning t k e) (quiet 0) s ≡ Stops why s'
tests_stops t k e s s' why h = ap (λ r. then_do (needed r) (λ v s. Gives (is_true v) (noted_test e (quiet 0) (is_true v) s))) h

pub tests_gives : (t : TablesShape) (k : Knot) (e : NodeShape) (s s' : State) (v : Value) → value t k e s ≡ Gives (Some v) s' → tested e (meaning t k e) (quiet 0) s ≡ Gives (is_true v) s'
tests_gives t k e s s' v h = ap (λ r. then_do (needed r) (λ v s. Gives (is_true v) (noted_test e (quiet 0) (is_true v) s))) h

-- ---- compound statements

abbrev Items : TablesShape → Knot → Compound → ℕ → State → Got Flow
Items t k c n s = items_flow t k here false (item_list (out-Compound c).items.items) (quiet n) s

none_declared : (ds : List Decl) → has_none ds ≡ true → decl_list ds ≡ no_decls
none_declared [] h = refl
none_declared (d ∷ ds) h = cc

-- its statements are done at once
pub items_direct : (c : Compound) → is_direct_compound c ≡ true → (has_none (out-Compound c).decls.items ≡ true) × (are_direct (out-Compound c).items.items ≡ true)
items_direct c h = both (has_none (out-Compound c).decls.items) (are_direct (out-Compound c).items.items) (sym (compound_direct c) ∙ h)

pub list_direct : (c : Compound) (l : List Item) → l ≡ (out-Compound c).items.items → is_direct_compound c ≡ true → are_direct l ≡ true
list_direct c l e h = subst (λ l. are_direct l ≡ true) (sym e) (items_direct c h).1

-- without declarations
compound_is : (t : TablesShape) (k : Knot) (c : Compound) (n : ℕ) (s : State) → is_direct_compound c ≡ true → compound_flow t k (compound_shape c) (quiet n) s ≡ Items t k c (n + 0) s
compound_is t k c n s h = rw (compound_open c, none_declared (out-Compound c).decls.items (items_direct c h).0)

pub scoped_gives : (t : TablesShape) (k : Knot) (c : Compound) (n : ℕ) (s u v : State) (f : Flow) → is_direct_compound c ≡ true → u ≡ scope_opened s → ((m : ℕ) → Items t k c m u ≡ Gives f v) → scoped s (compound_flow t k (compound_shape c) (quiet n)) ≡ Gives f (scope_closed v)
scoped_gives t k c n s u v f h e given = ap (λ r. then_do r (λ f s. Gives f (scope_closed s))) (compound_is t k c n (scope_opened s) h ∙ subst (λ x. Items t k c (n + 0) x ≡ Gives f v) e (given (n + 0)))

pub scoped_stops : (t : TablesShape) (k : Knot) (c : Compound) (n : ℕ) (s u v : State) (why : Stop) → is_direct_compound c ≡ true → u ≡ scope_opened s → ((m : ℕ) → Items t k c m u ≡ Stops why v) → scoped s (compound_flow t k (compound_shape c) (quiet n)) ≡ Stops why v
scoped_stops t k c n s u v why h e given = ap (λ r. then_do r (λ f s. Gives f (scope_closed s))) (compound_is t k c n (scope_opened s) h ∙ subst (λ x. Items t k c (n + 0) x ≡ Stops why v) e (given (n + 0)))

-- ---- scopes

pub two_scopes : (bs cs : List Call) → scope_counts cs ≡ one_more (scope_counts bs) → 1 ≤ length (scopes_in bs) → 2 ≤ length (scopes_in cs)
two_scopes [] cs e h = absurd (omega (arith, h))
two_scopes (b ∷ bs) [] e h = cc
two_scopes (b ∷ bs) (c ∷ cs) e h = let k : length c.scopes ≡ suc (length b.scopes) = cc in omega (arith, h)

pub more_scopes : (bs cs : List Call) → scope_counts cs ≡ one_more (scope_counts bs) → 1 ≤ length (scopes_in bs) → 1 ≤ length (scopes_in cs)
more_scopes bs cs e h = omega (arith, two_scopes bs cs e h)

pub same_scopes : (bs cs : List Call) → scope_counts cs ≡ scope_counts bs → length (scopes_in cs) ≡ length (scopes_in bs)
same_scopes [] [] e = refl
same_scopes [] (c ∷ cs) e = cc
same_scopes (b ∷ bs) [] e = cc
same_scopes (b ∷ bs) (c ∷ cs) e = cc

closed_counts : (ns : List ℕ) → one_less (one_more ns) ≡ ns
closed_counts [] = refl
closed_counts (n ∷ ns) = ap (λ m. m ∷ ns) (omega arith)

-- a scope was opened and closed
pub counts_back : (xs bs cs ds : List Call) → scope_counts bs ≡ one_more (scope_counts xs) → scope_counts cs ≡ scope_counts bs → scope_counts ds ≡ one_less (scope_counts cs) → scope_counts ds ≡ scope_counts xs
counts_back xs bs cs ds e f g = g ∙ ap one_less (f ∙ e) ∙ closed_counts (scope_counts xs)

-- ---- an `if`

-- where its test fails
abbrev pub otherwise : TablesShape → Knot → Box Stmt Global → Option (Box Stmt Global) → ℕ → State → Got Flow
otherwise t k a None n s = Gives Next s
otherwise t k a (Some b) n s = flow t k true (stmt_shape b.value) (quiet (n + stmt_variables (stmt_shape a.value))) s

if_is : (t : TablesShape) (k : Knot) (f : StmtForm) (e : Node) (a : Box Stmt Global) (o : Option (Box Stmt Global)) (n : ℕ) (s : State) (r : Got Bool) → f ≡ form.If e a o → tested (node_shape e) (meaning t k (node_shape e)) (quiet 0) s ≡ r
    → form_flow t k (form_shape f) (quiet n) s ≡ then_do r (λ x s. if x then flow t k true (stmt_shape a.value) (quiet n) s else otherwise t k a o n s)
if_is t k f e a None n s r is h = rw is (ap (λ r. then_do r (λ x s. if x then flow t k true (stmt_shape a.value) (quiet n) s else Gives Next s)) h)
if_is t k f e a (Some b) n s r is h = rw is (ap (λ r. then_do r (λ x s. if x then flow t k true (stmt_shape a.value) (quiet n) s else flow t k true (stmt_shape b.value) (quiet (n + stmt_variables (stmt_shape a.value))) s)) h)

pub if_stops : (t : TablesShape) (k : Knot) (f : StmtForm) (e : Node) (a : Box Stmt Global) (o : Option (Box Stmt Global)) (n : ℕ) (s s' : State) (why : Stop) → f ≡ form.If e a o → tested (node_shape e) (meaning t k (node_shape e)) (quiet 0) s ≡ Stops why s' → form_flow t k (form_shape f) (quiet n) s ≡ Stops why s'
if_stops t k f e a o n s s' why is h = if_is t k f e a o n s (Stops why s') is h

pub if_holds : (t : TablesShape) (k : Knot) (f : StmtForm) (e : Node) (a : Box Stmt Global) (o : Option (Box Stmt Global)) (n : ℕ) (s s' : State) → f ≡ form.If e a o → tested (node_shape e) (meaning t k (node_shape e)) (quiet 0) s ≡ Gives true s' → form_flow t k (form_shape f) (quiet n) s ≡ flow t k true (stmt_shape a.value) (quiet n) s'
if_holds t k f e a o n s s' is h = if_is t k f e a o n s (Gives true s') is h

pub if_fails : (t : TablesShape) (k : Knot) (f : StmtForm) (e : Node) (a : Box Stmt Global) (o : Option (Box Stmt Global)) (n : ℕ) (s s' : State) → f ≡ form.If e a o → tested (node_shape e) (meaning t k (node_shape e)) (quiet 0) s ≡ Gives false s' → form_flow t k (form_shape f) (quiet n) s ≡ otherwise t k a o n s'
if_fails t k f e a o n s s' is h = if_is t k f e a o n s (Gives false s') is h

-- both statements of an `if` are done at once
pub other_direct : (f : StmtForm) (e : Node) (a : Box Stmt Global) (o : Option (Box Stmt Global)) (b : Box Stmt Global) (d : Stmt) → is_direct_form f ≡ true → f ≡ form.If e a o → o ≡ Some b → d ≡ b.value → is_direct_form d.form ≡ true
other_direct f e a o b d h is other same = subst (λ (d : Stmt). is_direct_form d.form ≡ true) (sym same) (both (is_direct_form a.value.form) (is_direct_form b.value.form) (both (is_direct e.note e.form) _ (sym (ap is_direct_form (is ∙ ap (λ o. form.If e a o) other)) ∙ h)).1).1

-- as the statement leaves that it chooses
pub holds_leaves : (w : Way) (u : State) (t : TablesShape) (k : Knot) (f : StmtForm) (e : Node) (a : Box Stmt Global) (o : Option (Box Stmt Global)) (b : Stmt) (n : ℕ) (s s' : State) (x : Bool) → x ≡ true → f ≡ form.If e a o → b ≡ a.value
    → tested (node_shape e) (meaning t k (node_shape e)) (quiet 0) s ≡ Gives x s' → Leaves w u (flow t k true (stmt_shape b) (quiet n) s') → Leaves w u (form_flow t k (form_shape f) (quiet n) s)
holds_leaves w u t k f e a o b n s s' x holds is same h leaves =
    subst (λ r. Leaves w u r) (sym (if_holds t k f e a o n s s' is (h ∙ ap (λ b. Gives b s') holds))) (subst (λ (b : Stmt). Leaves w u (flow t k true (stmt_shape b) (quiet n) s')) same leaves)

pub fails_leaves : (w : Way) (u : State) (t : TablesShape) (k : Knot) (f : StmtForm) (e : Node) (a c : Box Stmt Global) (o : Option (Box Stmt Global)) (b : Stmt) (n : ℕ) (s s' : State) (x : Bool) → x ≡ false → f ≡ form.If e a o → o ≡ Some c → b ≡ c.value
    → tested (node_shape e) (meaning t k (node_shape e)) (quiet 0) s ≡ Gives x s' → ((m : ℕ) → Leaves w u (flow t k true (stmt_shape b) (quiet m) s')) → Leaves w u (form_flow t k (form_shape f) (quiet n) s)
fails_leaves w u t k f e a c o b n s s' x fails is other same h leaves =
    subst (λ r. Leaves w u r) (sym (if_fails t k f e a (Some c) n s s' (is ∙ ap (λ o. form.If e a o) other) (h ∙ ap (λ b. Gives b s') fails)))
    (subst (λ (b : Stmt). Leaves w u (flow t k true (stmt_shape b) (quiet (n + stmt_variables (stmt_shape a.value))) s')) same (leaves (n + stmt_variables (stmt_shape a.value))))
