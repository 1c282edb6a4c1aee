-- A walk that counts puts items behind those before it, and each definition among them stands in the walk's function.
use Rattle.std.proofs.Common.{◌≡◌, ℕ, ◌+◌, ◌≤◌, ◌++◌, ◌||◌, List, [], ◌∷◌, Bool, true, false, Option, if◌then◌else◌, refl, ap, sym, subst, ◌∙◌, arith, append_assoc}
use Rattle.std.proofs.lemmas.List.{append-nil}
use Rattle.c_base.specs.declared.place.Pos.{Pos}
use Rattle.c_syntax.specs.declared.tree.Named.{Named}
use Rattle.c_syntax.specs.Shape.{NoteShape, unary, before, size_of, plain, and, or, assign, comma, NodeShape, node, ExprShape, leaf, paren, call, prefix, size_of_type, cast, suffix, two, choose, probe, index, field, behind, NodeShapes, no_nodes, more_nodes, MaybeNode, no_node, one_node, DeclShape, decl, DeclShapes, no_decls, more_decls, DeclaratorShape, declarator, DeclaratorShapes, no_declarators, more_declarators, DeclFormShape, arrays, function, empty, void, params, MaybeInit, no_init, one_init, InitShape, one, listed, StmtShape, stmt, FormShape, compound, simply, when, either, while, do_while, for, switch, break, continue, return, CompoundShape, braces, ItemShapes, no_items, more_items, ExternalShape, defined, declared}
use Rattle.c_tables.specs.Tables.{TablesShape}
use Rattle.c_tables.specs.Rows.{first_place, name_pos, text_of}
use Rattle.c_walk.specs.Items.{Direct, Outcomes, cases, Item, block, decision, def, used}
use Rattle.c_walk.specs.Places.{is_place, direct_form}
use Rattle.c_walk.specs.declared.around.Around.{Around}
use Rattle.c_walk.specs.declared.around.Taken.{Taken}
use Rattle.c_walk.specs.declared.around.Taken.TheVariants.{Read, Changed}
use Rattle.c_walk.specs.Tests.{is_logical_form, outcomes_of_form, choosing, case_values}
use Rattle.c_walk.specs.Counted.{def_count}
use Rattle.c_walk.specs.Walked.{Walked, operand_taken, left_taken, right_taken, is_used, is_written, with_block, with_block_if, with_decision, with_test, with_def, with_use, with_sites, with_site, inside, inside_test, pos_of}
use Rattle.c_walk.specs.Walking.{walk_node, walk_form, walk_test, walk_arm, walk_nodes, walk_maybe, walk_loop_test, walk_maybe_test, walk_step}
use Rattle.c_walk.specs.Stating.{whole, with_variable, with_whole_def, walk_init, walk_maybe_init, walk_declarator, walk_declarators, walk_decl, walk_decls, pos_of_stmt, splits, is_labelled, walk_choice, walk_stmt, walk_body, walk_part, walk_compound, walk_items}
use Rattle.c_walk.specs.Units.{define_declarator, define_declarators, define_decl, define_decls, define_parameters, function_of, in_function, walk_function, walk_external, walk_externals}

-- each definition among the items stands in the function f
abbrev pub AreOwn : ℕ → List Item → Type 0
AreOwn f [] = Unit {0}
AreOwn f (def p g d ∷ items) = (g ≡ f) × AreOwn f items
AreOwn f (i ∷ items) = AreOwn f items

pub record Adds (f : ℕ) (s t : Walked) : Type 0 where
  pub more : List Item
  pub items : t.items ≡ s.items ++ more
  pub own : AreOwn f more

own_both : (f : ℕ) (is js : List Item) → AreOwn f is → AreOwn f js → AreOwn f (is ++ js)
own_both f [] js a b = b
own_both f (block p ∷ is) js a b = own_both f is js a b
own_both f (decision p o ∷ is) js a b = own_both f is js a b
own_both f (def p g d ∷ is) js a b = (a.0, own_both f is js a.1 b)
own_both f (used p g d o ∷ is) js a b = own_both f is js a b

pub adds_none : (f : ℕ) (s : Walked) → Adds f s s
adds_none f s = record { more = []; items = sym (append-nil s.items); own = tt }

pub adds_on : {f : ℕ} {s t u : Walked} → Adds f s t → Adds f t u → Adds f s u
adds_on {f} {s} {t} {u} a b = record {
  more = a.more ++ b.more;
  items = b.items ∙ ap (λ l. l ++ b.more) a.items ∙ append_assoc s.items a.more b.more;
  own = own_both f a.more b.more a.own b.own;
}

-- ---- how many definitions there are

pub defs_both : (is js : List Item) → def_count (is ++ js) ≡ def_count is + def_count js
defs_both [] js = omega arith
defs_both (block p ∷ is) js = defs_both is js
defs_both (decision p o ∷ is) js = defs_both is js
defs_both (def p f d ∷ is) js = omega (arith, defs_both is js)
defs_both (used p f d o ∷ is) js = defs_both is js

pub more_defs : {f : ℕ} {s t : Walked} → Adds f s t → def_count s.items ≤ def_count t.items
more_defs {f} {s} {t} a = let e : def_count t.items ≡ def_count s.items + def_count a.more = ap def_count a.items ∙ defs_both s.items a.more in omega arith

-- ---- one item more

pub block_adds : (f : ℕ) (p : Pos) (s : Walked) → Adds f s (with_block p s)
block_adds f p s = record { more = block p ∷ []; items = refl; own = tt }

pub block_if_adds : (f : ℕ) (b : Bool) (p : Pos) (s : Walked) → Adds f s (with_block_if b p s)
block_if_adds f true p s = block_adds f p s
block_if_adds f false p s = adds_none f s

pub decision_adds : (f : ℕ) (p : Pos) (o : Outcomes) (s : Walked) → Adds f s (with_decision p o s)
decision_adds f p o s = record { more = decision p o ∷ []; items = refl; own = tt }

pub test_item_adds : (g : ℕ) (p : Pos) (f : ExprShape) (s : Walked) → Adds g s (with_test p f s)
test_item_adds g p f s = by (is_logical_form f)
  where
    by : (b : Bool) → Adds g s (if b then s else with_decision p (outcomes_of_form f) s)
    by true = adds_none g s
    by false = decision_adds g p (outcomes_of_form f) s

pub variable_adds : (f : ℕ) (s : Walked) → Adds f s (with_variable s)
variable_adds f s = record { more = []; items = sym (append-nil s.items); own = tt }

pub whole_adds : (t : TablesShape) (f : ℕ) (x : Option Named) (s : Walked) → Adds f s (with_whole_def t f x s)
whole_adds t f x s = record { more = def (name_pos first_place x) f (whole t s.variables) ∷ []; items = refl; own = (refl, tt) }

def_adds : (b : Bool) (c : Around) (p : Pos) (d : Option Direct) (s : Walked) → Adds c.function s (with_def b c p d s)
def_adds true c p d s = record { more = def p c.function d ∷ []; items = refl; own = (refl, tt) }
def_adds false c p d s = adds_none c.function s

pub use_adds : (b : Bool) (c : Around) (p : Pos) (d : Option Direct) (s : Walked) → Adds c.function s (with_use b c p d s)
use_adds true c p d s = record { more = used p c.function d c.owner ∷ []; items = refl; own = tt }
use_adds false c p d s = adds_none c.function s

pub sites_adds : (c : Around) (r : Taken) (p : Pos) (d : Option Direct) (scalar : Bool) (s : Walked) → Adds c.function s (with_sites c r p d scalar s)
sites_adds c r p d value s = adds_on (def_adds (is_written r) c p d s) (use_adds value c p d (with_def (is_written r) c p d s))

pub site_adds : (c : Around) (r : Taken) (p : Pos) (n : NoteShape) (f : ExprShape) (s : Walked) → Adds c.function s (with_site c r p n f s)
site_adds c r p n f s = by (is_place f)
  where
    by : (b : Bool) → Adds c.function s (if b then with_sites c r p (direct_form n f) (is_used r n) s else s)
    by true = sites_adds c r p (direct_form n f) (is_used r n) s
    by false = adds_none c.function s

same_function : (c : Around) (f : ExprShape) (s : Walked) → (inside_test c f s).function ≡ c.function
same_function c f s = by (is_logical_form f)
  where
    by : (b : Bool) → (if b then c else inside c s).function ≡ c.function
    by true = refl
    by false = refl

-- ---- expressions

mutual
  pub node_adds : (c : Around) (r : Taken) (a : NodeShape) (s : Walked) → Adds c.function s (walk_node c r a s)
  node_adds c r (node p o n f) s = adds_on (site_adds c r p n f s) (form_adds c r f (with_site c r p n f s))

  pub form_adds : (c : Around) (r : Taken) (f : ExprShape) (s : Walked) → Adds c.function s (walk_form c r f s)
  form_adds c r (leaf l) s = adds_none c.function s
  form_adds c r (paren a) s = node_adds c r a s
  form_adds c r (call x args) s = nodes_add c args s
  form_adds c r (prefix (unary u) a) s = node_adds c (operand_taken u) a s
  form_adds c r (prefix (before u) a) s = node_adds c Changed a s
  form_adds c r (prefix size_of a) s = adds_none c.function s
  form_adds c r (size_of_type y) s = adds_none c.function s
  form_adds c r (cast y a) s = node_adds c Read a s
  form_adds c r (suffix a (index b)) s = adds_on (node_adds c Read a s) (node_adds c Read b (walk_node c Read a s))
  form_adds c r (suffix a (field h x q)) s = node_adds c Read a s
  form_adds c r (suffix a (behind u)) s = node_adds c Changed a s
  form_adds c r (two and a b) s = let j = walk_test c a s in adds_on (test_adds c a s) (adds_on (block_adds c.function (pos_of b) j) (test_adds c b (with_block (pos_of b) j)))
  form_adds c r (two or a b) s = let j = walk_test c a s in adds_on (test_adds c a s) (adds_on (block_adds c.function (pos_of b) j) (test_adds c b (with_block (pos_of b) j)))
  form_adds c r (two (assign u) a b) s = adds_on (node_adds c (left_taken u) a s) (node_adds c (right_taken u a) b (walk_node c (left_taken u) a s))
  form_adds c r (two (plain u) a b) s = adds_on (node_adds c Read a s) (node_adds c Read b (walk_node c Read a s))
  form_adds c r (two comma a b) s = adds_on (node_adds c Read a s) (node_adds c Read b (walk_node c Read a s))
  form_adds c r (choose a b d) s = let j = walk_test c a s in adds_on (test_adds c a s) (adds_on (arm_adds c b j) (arm_adds c d (walk_arm c b j)))
  form_adds c r (probe u a) s = node_adds c r a s

  pub test_adds : (c : Around) (a : NodeShape) (s : Walked) → Adds c.function s (walk_test c a s)
  test_adds c (node p o n f) s =
      let d = inside_test c f s in
      let j = with_test p f s in
      adds_on (test_item_adds c.function p f s)
      (subst (λ g. Adds g j (walk_form d Read f (with_site d Read p n f j))) (same_function c f s)
      (adds_on (site_adds d Read p n f j) (form_adds d Read f (with_site d Read p n f j))))

  pub arm_adds : (c : Around) (a : NodeShape) (s : Walked) → Adds c.function s (walk_arm c a s)
  arm_adds c (node p o n f) s =
      let j = with_block p s in
      adds_on (block_adds c.function p s) (adds_on (site_adds c Read p n f j) (form_adds c Read f (with_site c Read p n f j)))

  pub nodes_add : (c : Around) (args : NodeShapes) (s : Walked) → Adds c.function s (walk_nodes c args s)
  nodes_add c no_nodes s = adds_none c.function s
  nodes_add c (more_nodes a rest) s = adds_on (node_adds c Read a s) (nodes_add c rest (walk_node c Read a s))

pub maybe_adds : (c : Around) (a : MaybeNode) (s : Walked) → Adds c.function s (walk_maybe c a s)
maybe_adds c no_node s = adds_none c.function s
maybe_adds c (one_node a) s = node_adds c Read a s

pub loop_test_adds : (c : Around) (a : NodeShape) (s : Walked) → Adds c.function s (walk_loop_test c a s)
loop_test_adds c a s = adds_on (block_adds c.function (pos_of a) s) (test_adds c a (with_block (pos_of a) s))

pub maybe_test_adds : (c : Around) (a : MaybeNode) (s : Walked) → Adds c.function s (walk_maybe_test c a s)
maybe_test_adds c no_node s = adds_none c.function s
maybe_test_adds c (one_node a) s = loop_test_adds c a s

pub step_adds : (c : Around) (a : MaybeNode) (s : Walked) → Adds c.function s (walk_step c a s)
step_adds c no_node s = adds_none c.function s
step_adds c (one_node a) s = arm_adds c a s

-- ---- declarations

pub init_adds : (c : Around) (i : InitShape) (s : Walked) → Adds c.function s (walk_init c i s)
init_adds c (one a) s = node_adds c Read a s
init_adds c (listed p items last) s = adds_none c.function s

pub maybe_init_adds : (t : TablesShape) (c : Around) (x : Option Named) (i : MaybeInit) (s : Walked) → Adds c.function s (walk_maybe_init t c x i s)
maybe_init_adds t c x no_init s = adds_none c.function s
maybe_init_adds t c x (one_init i) s = adds_on (whole_adds t c.function x s) (init_adds c i (with_whole_def t c.function x s))

pub declarator_adds : (t : TablesShape) (c : Around) (d : DeclaratorShape) (s : Walked) → Adds c.function s (walk_declarator t c d s)
declarator_adds t c (declarator stars x (arrays ls) i) s = adds_on (variable_adds c.function s) (maybe_init_adds t c x i (with_variable s))
declarator_adds t c (declarator stars x (function ps) i) s = adds_none c.function s

pub declarators_add : (t : TablesShape) (c : Around) (ds : DeclaratorShapes) (s : Walked) → Adds c.function s (walk_declarators t c ds s)
declarators_add t c no_declarators s = adds_none c.function s
declarators_add t c (more_declarators d rest) s = adds_on (declarator_adds t c d s) (declarators_add t c rest (walk_declarator t c d s))

pub decl_adds : (t : TablesShape) (c : Around) (d : DeclShape) (s : Walked) → Adds c.function s (walk_decl t c d s)
decl_adds t c (decl p specs names) s = declarators_add t c names s

pub decls_add : (t : TablesShape) (c : Around) (ds : DeclShapes) (s : Walked) → Adds c.function s (walk_decls t c ds s)
decls_add t c no_decls s = adds_none c.function s
decls_add t c (more_decls d rest) s = adds_on (decl_adds t c d s) (decls_add t c rest (walk_decl t c d s))

-- ---- statements

pub choice_adds : (c : Around) (e : NodeShape) (items : ItemShapes) (s : Walked) → Adds c.function s (walk_choice c e items s)
choice_adds c e items s =
    let j = with_decision (pos_of e) (cases (case_values (choosing e) items)) s in
    adds_on (decision_adds c.function (pos_of e) (cases (case_values (choosing e) items)) s) (node_adds (inside c s) Read e j)

module _ (t : TablesShape) (c : Around) where
  mutual
    pub stmt_adds : (a : StmtShape) (s : Walked) → Adds c.function s (walk_stmt t c a s)
    stmt_adds (stmt p marks q f) s = body_adds f s

    pub body_adds : (f : FormShape) (s : Walked) → Adds c.function s (walk_body t c f s)
    body_adds (compound b) s = compound_adds b s
    body_adds (simply e) s = maybe_adds c e s
    body_adds (when e a) s = adds_on (test_adds c e s) (part_adds a (walk_test c e s))
    body_adds (either e a b) s = let j = walk_test c e s in adds_on (test_adds c e s) (adds_on (part_adds a j) (part_adds b (walk_part t c a j)))
    body_adds (while e a) s = adds_on (loop_test_adds c e s) (part_adds a (walk_loop_test c e s))
    body_adds (do_while a e) s = adds_on (part_adds a s) (loop_test_adds c e (walk_part t c a s))
    body_adds (for e f g a) s =
        let j = walk_maybe c e s in
        let k = walk_maybe_test c f j in
        adds_on (maybe_adds c e s) (adds_on (maybe_test_adds c f j) (adds_on (step_adds c g k) (part_adds a (walk_step c g k))))
    body_adds (switch e items) s = adds_on (choice_adds c e items s) (items_add false items (walk_choice c e items s))
    body_adds break s = adds_none c.function s
    body_adds continue s = adds_none c.function s
    body_adds (return e) s = maybe_adds c e s

    pub part_adds : (a : StmtShape) (s : Walked) → Adds c.function s (walk_part t c a s)
    part_adds (stmt p marks q f) s = adds_on (block_adds c.function p s) (body_adds f (with_block p s))

    pub compound_adds : (b : CompoundShape) (s : Walked) → Adds c.function s (walk_compound t c b s)
    compound_adds (braces p ds items) s = adds_on (decls_add t c ds s) (items_add false items (walk_decls t c ds s))

    pub items_add : (after : Bool) (items : ItemShapes) (s : Walked) → Adds c.function s (walk_items t c after items s)
    items_add after no_items s = adds_none c.function s
    items_add after (more_items labels a rest) s =
        let b = after || is_labelled labels in
        let j = with_block_if b (pos_of_stmt a) s in
        adds_on (block_if_adds c.function b (pos_of_stmt a) s) (adds_on (stmt_adds a j) (items_add (splits a) rest (walk_stmt t c a j)))

-- ---- units

pub define_adds : (t : TablesShape) (f : ℕ) (d : DeclaratorShape) (s : Walked) → Adds f s (define_declarator t f d s)
define_adds t f (declarator stars x (arrays ls) i) s = adds_on (variable_adds f s) (whole_adds t f x (with_variable s))
define_adds t f (declarator stars x (function ps) i) s = adds_none f s

pub defines_add : (t : TablesShape) (f : ℕ) (ds : DeclaratorShapes) (s : Walked) → Adds f s (define_declarators t f ds s)
defines_add t f no_declarators s = adds_none f s
defines_add t f (more_declarators d rest) s = adds_on (define_adds t f d s) (defines_add t f rest (define_declarator t f d s))

pub define_decl_adds : (t : TablesShape) (f : ℕ) (d : DeclShape) (s : Walked) → Adds f s (define_decl t f d s)
define_decl_adds t f (decl p specs names) s = defines_add t f names s

pub define_decls_add : (t : TablesShape) (f : ℕ) (ds : DeclShapes) (s : Walked) → Adds f s (define_decls t f ds s)
define_decls_add t f no_decls s = adds_none f s
define_decls_add t f (more_decls d rest) s = adds_on (define_decl_adds t f d s) (define_decls_add t f rest (define_decl t f d s))

pub parameters_add : (t : TablesShape) (f : ℕ) (d : DeclFormShape) (s : Walked) → Adds f s (define_parameters t f d s)
parameters_add t f (function (params ds)) s = define_decls_add t f ds s
parameters_add t f (function empty) s = adds_none f s
parameters_add t f (function void) s = adds_none f s
parameters_add t f (arrays ls) s = adds_none f s

pub function_adds : (t : TablesShape) (f : ℕ) (d : DeclFormShape) (b : CompoundShape) (s : Walked) → Adds f s (walk_function t f d b s)
function_adds t f d (braces p ds items) s =
    let j = define_parameters t f d s in
    adds_on (parameters_add t f d s) (adds_on (block_adds f p j) (compound_adds t (in_function f) (braces p ds items) (with_block p j)))

-- the number of the function that an external declaration defines; 0 where it defines none
abbrev pub number_of : TablesShape → ExternalShape → ℕ
number_of t (declared d) = 0
number_of t (defined specs (declarator stars x d i) marks b) = function_of t (text_of x)

pub external_adds : (t : TablesShape) (e : ExternalShape) (s : Walked) → Adds (number_of t e) s (walk_external t e s)
external_adds t (declared d) s = define_decl_adds t 0 d s
external_adds t (defined specs (declarator stars x d i) marks b) s = function_adds t (function_of t (text_of x)) d b s

-- some items behind others, whatever they are
pub record Follows (s t : Walked) : Type 0 where
  pub more : List Item
  pub items : t.items ≡ s.items ++ more

pub externals_follow : (t : TablesShape) (es : List ExternalShape) (s : Walked) → Follows s (walk_externals t es s)
externals_follow t [] s = record { more = []; items = sym (append-nil s.items) }
externals_follow t (e ∷ rest) s =
    let a = external_adds t e s in
    let b = externals_follow t rest (walk_external t e s) in
    record { more = a.more ++ b.more; items = b.items ∙ ap (λ l. l ++ b.more) a.items ∙ append_assoc s.items a.more b.more }
