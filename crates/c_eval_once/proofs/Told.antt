-- What is told of probes, one by one and in order.
use Rattle.std.proofs.Common.{◌≡◌, ℕ, List, [], ◌∷◌, ◌++◌, Option, Some, None, Bool, true, false, Vec, Box, Global, refl, sym, ap, ◌∙◌}
use Rattle.std.specs.Option.{is_some}
use Rattle.std.proofs.lemmas.Bool.{true≢false}
use Rattle.c_syntax.specs.declared.text.Text.{Text}
use Rattle.c_syntax.specs.Shape.{TypeOf, nothing, NoteShape, bare, typed, known, probe, select, used, def}
use Rattle.c_syntax.specs.declared.tree.BinaryOp.{BinaryOp}
use Rattle.c_syntax.specs.declared.tree.Node.{Node}
use Rattle.c_syntax.specs.declared.tree.Expr.{Probe}
use Rattle.c_syntax.specs.declared.tree.ExprProbe.{ExprProbe, Select}
use Rattle.c_syntax.specs.declared.tree.ExprProbe.TheVariants as probes
use Rattle.c_syntax.specs.View.{expr_shape, probe_shape, node_shape, node_list}
use Rattle.c_syntax.proofs.Open.{select_open}
use Rattle.c_type_rules.specs.Kinds.{decay}
use Rattle.c_constants.specs.Probes.{probe_number_of}
use Rattle.c_store.specs.declared.value.Value.{Value}
use Rattle.c_store.specs.declared.value.Pointer.{Pointer}
use Rattle.c_tables.specs.Tables.{TablesShape}
use Rattle.c_walk.specs.Tests.{choosing}
use Rattle.c_meaning.specs.State.{State, instance_of}
use Rattle.c_meaning.specs.Results.{Got, untyped}
use Rattle.c_meaning.specs.Layout.{cells}
use Rattle.c_meaning.specs.Operators.{operated}
use Rattle.c_meaning.specs.Places.{logs_one, logs, marks, object_at, variable_place}
use Rattle.c_meaning.specs.Constants.{kind_noted, select_constants, chosen_among}
use Rattle.c_meaning.specs.Expressions.{gives, log_test}
use Rattle.c_eval_once.specs.Parts.{probed}
use Rattle.c_eval_once.specs.Forms.{Tells, told, noted_kind}

pub tells_one : {A : Type 0} (r : Bool) (log : ℕ → State → State) (x : Text) (s s' : State) (go : State → Got A) → Tells r log x s s' → logs log (x ∷ []) s go ≡ told r s' go
tells_one true log x s s' go w = rw w.1 (ap go (sym w.2))
tells_one false log x s s' go w = rw w.0 (ap (λ s. untyped s) (sym w.1))

one_same : {A : Type 0} (log : ℕ → State → State) (n : Option ℕ) (s : State) (g h : State → Got A) → ((s : State) → g s ≡ h s) → logs_one log n s g ≡ logs_one log n s h
one_same log None s g h same = refl
one_same log (Some n) s g h same = same (log n s)

pub logs_append : {A : Type 0} (log : ℕ → State → State) (xs ys : List Text) (s : State) (go : State → Got A) → logs log (xs ++ ys) s go ≡ logs log xs s (λ s. logs log ys s go)
logs_append log [] ys s go = refl
logs_append log (x ∷ xs) ys s go = one_same log (probe_number_of x) s _ _ (λ s. logs_append log xs ys s go)

-- a probe of that kind behind those in it
pub behind_marks : {A : Type 0} (log : ℕ → State → State) (xs : List Text) (x : Text) (r : Bool) (s s' s'' : State) (go : State → Got A) → ((go : State → Got A) → logs log xs s go ≡ told true s' go) → Tells r log x s' s'' → logs log (xs ++ x ∷ []) s go ≡ told r s'' go
behind_marks log xs x r s s' s'' go inner one = logs_append log xs (x ∷ []) s go ∙ inner (λ s. logs log (x ∷ []) s go) ∙ tells_one r log x s' s'' go one

-- one in it has no number
pub no_marks : {A : Type 0} (log : ℕ → State → State) (xs : List Text) (x : Text) (s s' : State) (go : State → Got A) → ((go : State → Got A) → logs log xs s go ≡ told false s' go) → logs log (xs ++ x ∷ []) s go ≡ told false s' go
no_marks log xs x s s' go inner = logs_append log xs (x ∷ []) s go ∙ inner (λ s. logs log (x ∷ []) s go)

-- the marks of a node by its form
pub use_marks : (e a : Node) (u : ExprProbe) (x : Text) → expr_shape e.form ≡ probe (probe_shape u) (node_shape a) → u ≡ probes.Use x → marks used (node_shape e) ≡ marks used (node_shape a) ++ x ∷ []
use_marks e a u x is i = rw (is, i) refl

pub definition_marks : (e a : Node) (u : ExprProbe) (x : Text) → expr_shape e.form ≡ probe (probe_shape u) (node_shape a) → u ≡ probes.Def x → marks def (node_shape e) ≡ marks def (node_shape a) ++ x ∷ []
definition_marks e a u x is i = rw (is, i) refl

-- the shape of a probe
pub probe_form : (e a : Node) (u : ExprProbe) (b : Box Node Global) → e.form ≡ Probe u b → a ≡ b.value → expr_shape e.form ≡ probe (probe_shape u) (node_shape a)
probe_form e a u b is i = rw i (ap expr_shape is)

-- what a select tells
pub select_told : (e a : Node) (u : ExprProbe) (x : Text) (cs : Vec Node Global) (xs : List Node) (n : ℕ) (v : Value) (r : Bool) (s s' : State) → expr_shape e.form ≡ probe (probe_shape u) (node_shape a) → u ≡ Select x cs → xs ≡ cs.items → n ≡ chosen_among (choosing (node_shape a)) v (select_constants (choosing (node_shape a)) (node_list xs)) → Tells r (log_test n) x s s' → probed (expr_shape e.form) v s ≡ told r s' (gives v)
select_told e a u x cs xs n v r s s' is i l m one =
    let shape : expr_shape e.form ≡ probe (select x (node_list cs.items)) (node_shape a) = is ∙ ap (λ p. probe p (node_shape a)) (ap probe_shape i ∙ select_open x cs) in
    rw shape (ap (λ k. logs (log_test k) (x ∷ []) s (gives v)) (sym (m ∙ ap (λ ys. chosen_among (choosing (node_shape a)) v (select_constants (choosing (node_shape a)) (node_list ys))) l)) ∙ tells_one r (log_test n) x s s' (gives v) one)

-- ---- noted types

abbrev kind_or : TypeOf → Option TypeOf → TypeOf
kind_or k None = k
kind_or k (Some y) = y

pub noted_some : (n : NoteShape) (k : TypeOf) → Some k ≡ noted_kind n → k ≡ kind_noted n
noted_some (typed y v) k is = ap (kind_or k) is
noted_some (known y v) k is = ap (kind_or k) is
noted_some bare k is = absurd (true≢false (ap is_some is))

pub noted_none : (n : NoteShape) → None ≡ noted_kind n → kind_noted n ≡ nothing
noted_none (typed y v) is = absurd (true≢false (ap is_some (sym is)))
noted_none (known y v) is = absurd (true≢false (ap is_some (sym is)))
noted_none bare is = refl

pub both_noted : (u : BinaryOp) (n m : NoteShape) (j k : TypeOf) (v w : Value) → Some j ≡ noted_kind n → Some k ≡ noted_kind m → operated u (decay j) (decay k) v w ≡ operated u (decay (kind_noted n)) (decay (kind_noted m)) v w
both_noted u n m j k v w a b = rw (sym (noted_some n j a), sym (noted_some m k b)) refl

-- ---- variables

pub no_variable : (t : TablesShape) (k : TypeOf) (n : ℕ) (s : State) → None ≡ instance_of n s → variable_place t k n s ≡ untyped s
no_variable t k n s e = rw (sym e) refl

pub a_variable : (t : TablesShape) (k : TypeOf) (n j : ℕ) (s : State) (r : Got Pointer) → Some j ≡ instance_of n s → object_at (cells t k) j s ≡ r → variable_place t k n s ≡ r
a_variable t k n j s r e o = rw (sym e) o
