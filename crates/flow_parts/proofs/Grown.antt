-- A walk that counts puts items behind those before it, and tells how many decisions are among them.
use Rattle.std.proofs.Common.{◌≡◌, ℕ, ◌+◌, ◌++◌, ◌||◌, List, [], ◌∷◌, Bool, true, false, Option, if◌then◌else◌, refl, ap, sym, ◌∙◌, arith, append_assoc}
use Rattle.std.proofs.lemmas.List.{append-nil}
use Rattle.c_base.specs.declared.place.Pos.{Pos}
use Rattle.c_syntax.specs.declared.tree.Named.{Named}
use Rattle.c_syntax.specs.Shape.{NoteShape, unary, before, size_of, plain, and, or, assign, comma, NodeShape, node, ExprShape, leaf, paren, call, prefix, size_of_type, cast, suffix, two, choose, probe, index, field, behind, NodeShapes, no_nodes, more_nodes, MaybeNode, no_node, one_node, DeclShape, decl, DeclShapes, no_decls, more_decls, DeclaratorShape, declarator, DeclaratorShapes, no_declarators, more_declarators, DeclFormShape, arrays, function, empty, void, params, MaybeInit, no_init, one_init, InitShape, one, listed, StmtShape, stmt, FormShape, compound, simply, when, either, while, do_while, for, switch, break, continue, return, CompoundShape, braces, ItemShapes, no_items, more_items, ExternalShape, defined, declared}
use Rattle.c_tables.specs.Tables.{TablesShape}
use Rattle.c_tables.specs.Rows.{first_place, name_pos, text_of}
use Rattle.c_walk.specs.Items.{Direct, Outcomes, cases, Item, block, decision, def, used}
use Rattle.c_walk.specs.Places.{is_place, direct_form}
use Rattle.c_walk.specs.declared.around.Around.{Around}
use Rattle.c_walk.specs.declared.around.Taken.{Taken}
use Rattle.c_walk.specs.declared.around.Taken.TheVariants.{Read, Changed}
use Rattle.c_walk.specs.Tests.{is_logical_form, outcomes_of_form, choosing, case_values}
use Rattle.c_walk.specs.Sound.{decision_count}
use Rattle.c_walk.specs.Walked.{Walked, operand_taken, left_taken, right_taken, is_used, is_written, with_block, with_block_if, with_decision, with_test, with_def, with_use, with_sites, with_site, inside, inside_test, pos_of}
use Rattle.c_walk.specs.Walking.{walk_node, walk_form, walk_test, walk_arm, walk_nodes, walk_maybe, walk_loop_test, walk_maybe_test, walk_step}
use Rattle.c_walk.specs.Stating.{whole, with_variable, with_whole_def, walk_init, walk_maybe_init, walk_declarator, walk_declarators, walk_decl, walk_decls, pos_of_stmt, splits, is_labelled, walk_choice, walk_stmt, walk_body, walk_part, walk_compound, walk_items}
use Rattle.c_walk.specs.Units.{define_declarator, define_declarators, define_decl, define_decls, define_parameters, function_of, in_function, walk_function, walk_external, walk_externals}

-- ---- how many there are

pub decisions_both : (is js : List Item) → decision_count (is ++ js) ≡ decision_count is + decision_count js
decisions_both [] js = omega arith
decisions_both (block p ∷ is) js = decisions_both is js
decisions_both (decision p o ∷ is) js = let e = decisions_both is js in omega (arith, e)
decisions_both (def p f d ∷ is) js = decisions_both is js
decisions_both (used p f d o ∷ is) js = decisions_both is js

pub record Grows (s t : Walked) : Type 0 where
  pub more : List Item
  pub items : t.items ≡ s.items ++ more
  pub decisions : t.decisions ≡ s.decisions + decision_count more

pub grows_none : (s : Walked) → Grows s s
grows_none s = record { more = []; items = sym (append-nil s.items); decisions = omega arith }

pub grows_on : {s t u : Walked} → Grows s t → Grows t u → Grows s u
grows_on {s} {t} {u} a b =
    let m = a.decisions in
    let n = b.decisions in
    let e = decisions_both a.more b.more in
    record {
      more = a.more ++ b.more;
      items = b.items ∙ ap (λ l. l ++ b.more) a.items ∙ append_assoc s.items a.more b.more;
      decisions = omega (arith, m, n, e);
    }

-- the decisions are counted as they are among the items
abbrev pub Counts : Walked → Type 0
Counts s = s.decisions ≡ decision_count s.items

pub counts_on : {s t : Walked} → Grows s t → Counts s → Counts t
counts_on {s} {t} g c =
    let m = g.decisions in
    let e = ap decision_count g.items in
    let d = decisions_both s.items g.more in
    omega (arith, m, e, d, c)

-- ---- one item more

pub block_grows : (p : Pos) (s : Walked) → Grows s (with_block p s)
block_grows p s = record { more = block p ∷ []; items = refl; decisions = omega arith }

pub block_if_grows : (b : Bool) (p : Pos) (s : Walked) → Grows s (with_block_if b p s)
block_if_grows true p s = block_grows p s
block_if_grows false p s = grows_none s

pub decision_grows : (p : Pos) (o : Outcomes) (s : Walked) → Grows s (with_decision p o s)
decision_grows p o s = record { more = decision p o ∷ []; items = refl; decisions = omega arith }

pub test_item_grows : (p : Pos) (f : ExprShape) (s : Walked) → Grows s (with_test p f s)
test_item_grows p f s = by (is_logical_form f)
  where
    by : (b : Bool) → Grows s (if b then s else with_decision p (outcomes_of_form f) s)
    by true = grows_none s
    by false = decision_grows p (outcomes_of_form f) s

pub variable_grows : (s : Walked) → Grows s (with_variable s)
variable_grows s = record { more = []; items = sym (append-nil s.items); decisions = omega arith }

pub whole_grows : (t : TablesShape) (f : ℕ) (x : Option Named) (s : Walked) → Grows s (with_whole_def t f x s)
whole_grows t f x s = record { more = def (name_pos first_place x) f (whole t s.variables) ∷ []; items = refl; decisions = omega arith }

def_grows : (b : Bool) (c : Around) (p : Pos) (d : Option Direct) (s : Walked) → Grows s (with_def b c p d s)
def_grows true c p d s = record { more = def p c.function d ∷ []; items = refl; decisions = omega arith }
def_grows false c p d s = grows_none s

pub use_grows : (b : Bool) (c : Around) (p : Pos) (d : Option Direct) (s : Walked) → Grows s (with_use b c p d s)
use_grows true c p d s = record { more = used p c.function d c.owner ∷ []; items = refl; decisions = omega arith }
use_grows false c p d s = grows_none s

pub sites_grows : (c : Around) (r : Taken) (p : Pos) (d : Option Direct) (scalar : Bool) (s : Walked) → Grows s (with_sites c r p d scalar s)
sites_grows c r p d value s = grows_on (def_grows (is_written r) c p d s) (use_grows value c p d (with_def (is_written r) c p d s))

pub site_grows : (c : Around) (r : Taken) (p : Pos) (n : NoteShape) (f : ExprShape) (s : Walked) → Grows s (with_site c r p n f s)
site_grows c r p n f s = by (is_place f)
  where
    by : (b : Bool) → Grows s (if b then with_sites c r p (direct_form n f) (is_used r n) s else s)
    by true = sites_grows c r p (direct_form n f) (is_used r n) s
    by false = grows_none s

-- ---- expressions

mutual
  pub node_grows : (c : Around) (r : Taken) (a : NodeShape) (s : Walked) → Grows s (walk_node c r a s)
  node_grows c r (node p o n f) s = grows_on (site_grows c r p n f s) (form_grows c r f (with_site c r p n f s))

  pub form_grows : (c : Around) (r : Taken) (f : ExprShape) (s : Walked) → Grows s (walk_form c r f s)
  form_grows c r (leaf l) s = grows_none s
  form_grows c r (paren a) s = node_grows c r a s
  form_grows c r (call x args) s = nodes_grow c args s
  form_grows c r (prefix (unary u) a) s = node_grows c (operand_taken u) a s
  form_grows c r (prefix (before u) a) s = node_grows c Changed a s
  form_grows c r (prefix size_of a) s = grows_none s
  form_grows c r (size_of_type y) s = grows_none s
  form_grows c r (cast y a) s = node_grows c Read a s
  form_grows c r (suffix a (index b)) s = grows_on (node_grows c Read a s) (node_grows c Read b (walk_node c Read a s))
  form_grows c r (suffix a (field h x q)) s = node_grows c Read a s
  form_grows c r (suffix a (behind u)) s = node_grows c Changed a s
  form_grows c r (two and a b) s = let j = walk_test c a s in grows_on (test_grows c a s) (grows_on (block_grows (pos_of b) j) (test_grows c b (with_block (pos_of b) j)))
  form_grows c r (two or a b) s = let j = walk_test c a s in grows_on (test_grows c a s) (grows_on (block_grows (pos_of b) j) (test_grows c b (with_block (pos_of b) j)))
  form_grows c r (two (assign u) a b) s = grows_on (node_grows c (left_taken u) a s) (node_grows c (right_taken u a) b (walk_node c (left_taken u) a s))
  form_grows c r (two (plain u) a b) s = grows_on (node_grows c Read a s) (node_grows c Read b (walk_node c Read a s))
  form_grows c r (two comma a b) s = grows_on (node_grows c Read a s) (node_grows c Read b (walk_node c Read a s))
  form_grows c r (choose a b d) s = let j = walk_test c a s in grows_on (test_grows c a s) (grows_on (arm_grows c b j) (arm_grows c d (walk_arm c b j)))
  form_grows c r (probe u a) s = node_grows c r a s

  pub test_grows : (c : Around) (a : NodeShape) (s : Walked) → Grows s (walk_test c a s)
  test_grows c (node p o n f) s =
      let d = inside_test c f s in
      let j = with_test p f s in
      grows_on (test_item_grows p f s)
      (grows_on (site_grows d Read p n f j) (form_grows d Read f (with_site d Read p n f j)))

  pub arm_grows : (c : Around) (a : NodeShape) (s : Walked) → Grows s (walk_arm c a s)
  arm_grows c (node p o n f) s =
      let j = with_block p s in
      grows_on (block_grows p s) (grows_on (site_grows c Read p n f j) (form_grows c Read f (with_site c Read p n f j)))

  pub nodes_grow : (c : Around) (args : NodeShapes) (s : Walked) → Grows s (walk_nodes c args s)
  nodes_grow c no_nodes s = grows_none s
  nodes_grow c (more_nodes a rest) s = grows_on (node_grows c Read a s) (nodes_grow c rest (walk_node c Read a s))

pub maybe_grows : (c : Around) (a : MaybeNode) (s : Walked) → Grows s (walk_maybe c a s)
maybe_grows c no_node s = grows_none s
maybe_grows c (one_node a) s = node_grows c Read a s

pub loop_test_grows : (c : Around) (a : NodeShape) (s : Walked) → Grows s (walk_loop_test c a s)
loop_test_grows c a s = grows_on (block_grows (pos_of a) s) (test_grows c a (with_block (pos_of a) s))

pub maybe_test_grows : (c : Around) (a : MaybeNode) (s : Walked) → Grows s (walk_maybe_test c a s)
maybe_test_grows c no_node s = grows_none s
maybe_test_grows c (one_node a) s = loop_test_grows c a s

pub step_grows : (c : Around) (a : MaybeNode) (s : Walked) → Grows s (walk_step c a s)
step_grows c no_node s = grows_none s
step_grows c (one_node a) s = arm_grows c a s

-- ---- declarations

pub init_grows : (c : Around) (i : InitShape) (s : Walked) → Grows s (walk_init c i s)
init_grows c (one a) s = node_grows c Read a s
init_grows c (listed p items last) s = grows_none s

pub maybe_init_grows : (t : TablesShape) (c : Around) (x : Option Named) (i : MaybeInit) (s : Walked) → Grows s (walk_maybe_init t c x i s)
maybe_init_grows t c x no_init s = grows_none s
maybe_init_grows t c x (one_init i) s = grows_on (whole_grows t c.function x s) (init_grows c i (with_whole_def t c.function x s))

pub declarator_grows : (t : TablesShape) (c : Around) (d : DeclaratorShape) (s : Walked) → Grows s (walk_declarator t c d s)
declarator_grows t c (declarator stars x (arrays ls) i) s = grows_on (variable_grows s) (maybe_init_grows t c x i (with_variable s))
declarator_grows t c (declarator stars x (function ps) i) s = grows_none s

pub declarators_grow : (t : TablesShape) (c : Around) (ds : DeclaratorShapes) (s : Walked) → Grows s (walk_declarators t c ds s)
declarators_grow t c no_declarators s = grows_none s
declarators_grow t c (more_declarators d rest) s = grows_on (declarator_grows t c d s) (declarators_grow t c rest (walk_declarator t c d s))

pub decl_grows : (t : TablesShape) (c : Around) (d : DeclShape) (s : Walked) → Grows s (walk_decl t c d s)
decl_grows t c (decl p specs names) s = declarators_grow t c names s

pub decls_grow : (t : TablesShape) (c : Around) (ds : DeclShapes) (s : Walked) → Grows s (walk_decls t c ds s)
decls_grow t c no_decls s = grows_none s
decls_grow t c (more_decls d rest) s = grows_on (decl_grows t c d s) (decls_grow t c rest (walk_decl t c d s))

-- ---- statements

pub choice_grows : (c : Around) (e : NodeShape) (items : ItemShapes) (s : Walked) → Grows s (walk_choice c e items s)
choice_grows c e items s =
    let j = with_decision (pos_of e) (cases (case_values (choosing e) items)) s in
    grows_on (decision_grows (pos_of e) (cases (case_values (choosing e) items)) s) (node_grows (inside c s) Read e j)

module _ (t : TablesShape) (c : Around) where
  mutual
    pub stmt_grows : (a : StmtShape) (s : Walked) → Grows s (walk_stmt t c a s)
    stmt_grows (stmt p marks q f) s = body_grows f s

    pub body_grows : (f : FormShape) (s : Walked) → Grows s (walk_body t c f s)
    body_grows (compound b) s = compound_grows b s
    body_grows (simply e) s = maybe_grows c e s
    body_grows (when e a) s = grows_on (test_grows c e s) (part_grows a (walk_test c e s))
    body_grows (either e a b) s = let j = walk_test c e s in grows_on (test_grows c e s) (grows_on (part_grows a j) (part_grows b (walk_part t c a j)))
    body_grows (while e a) s = grows_on (loop_test_grows c e s) (part_grows a (walk_loop_test c e s))
    body_grows (do_while a e) s = grows_on (part_grows a s) (loop_test_grows c e (walk_part t c a s))
    body_grows (for e f g a) s =
        let j = walk_maybe c e s in
        let k = walk_maybe_test c f j in
        grows_on (maybe_grows c e s) (grows_on (maybe_test_grows c f j) (grows_on (step_grows c g k) (part_grows a (walk_step c g k))))
    body_grows (switch e items) s = grows_on (choice_grows c e items s) (items_grow false items (walk_choice c e items s))
    body_grows break s = grows_none s
    body_grows continue s = grows_none s
    body_grows (return e) s = maybe_grows c e s

    pub part_grows : (a : StmtShape) (s : Walked) → Grows s (walk_part t c a s)
    part_grows (stmt p marks q f) s = grows_on (block_grows p s) (body_grows f (with_block p s))

    pub compound_grows : (b : CompoundShape) (s : Walked) → Grows s (walk_compound t c b s)
    compound_grows (braces p ds items) s = grows_on (decls_grow t c ds s) (items_grow false items (walk_decls t c ds s))

    pub items_grow : (after : Bool) (items : ItemShapes) (s : Walked) → Grows s (walk_items t c after items s)
    items_grow after no_items s = grows_none s
    items_grow after (more_items labels a rest) s =
        let b = after || is_labelled labels in
        let j = with_block_if b (pos_of_stmt a) s in
        grows_on (block_if_grows b (pos_of_stmt a) s) (grows_on (stmt_grows a j) (items_grow (splits a) rest (walk_stmt t c a j)))

-- ---- units

pub define_grows : (t : TablesShape) (f : ℕ) (d : DeclaratorShape) (s : Walked) → Grows s (define_declarator t f d s)
define_grows t f (declarator stars x (arrays ls) i) s = grows_on (variable_grows s) (whole_grows t f x (with_variable s))
define_grows t f (declarator stars x (function ps) i) s = grows_none s

pub defines_grow : (t : TablesShape) (f : ℕ) (ds : DeclaratorShapes) (s : Walked) → Grows s (define_declarators t f ds s)
defines_grow t f no_declarators s = grows_none s
defines_grow t f (more_declarators d rest) s = grows_on (define_grows t f d s) (defines_grow t f rest (define_declarator t f d s))

pub define_decl_grows : (t : TablesShape) (f : ℕ) (d : DeclShape) (s : Walked) → Grows s (define_decl t f d s)
define_decl_grows t f (decl p specs names) s = defines_grow t f names s

pub define_decls_grow : (t : TablesShape) (f : ℕ) (ds : DeclShapes) (s : Walked) → Grows s (define_decls t f ds s)
define_decls_grow t f no_decls s = grows_none s
define_decls_grow t f (more_decls d rest) s = grows_on (define_decl_grows t f d s) (define_decls_grow t f rest (define_decl t f d s))

pub parameters_grow : (t : TablesShape) (f : ℕ) (d : DeclFormShape) (s : Walked) → Grows s (define_parameters t f d s)
parameters_grow t f (function (params ds)) s = define_decls_grow t f ds s
parameters_grow t f (function empty) s = grows_none s
parameters_grow t f (function void) s = grows_none s
parameters_grow t f (arrays ls) s = grows_none s

pub function_grows : (t : TablesShape) (f : ℕ) (d : DeclFormShape) (b : CompoundShape) (s : Walked) → Grows s (walk_function t f d b s)
function_grows t f d (braces p ds items) s =
    let j = define_parameters t f d s in
    grows_on (parameters_grow t f d s) (grows_on (block_grows p j) (compound_grows t (in_function f) (braces p ds items) (with_block p j)))

pub external_grows : (t : TablesShape) (e : ExternalShape) (s : Walked) → Grows s (walk_external t e s)
external_grows t (declared d) s = define_decl_grows t 0 d s
external_grows t (defined specs (declarator stars x d i) marks b) s = function_grows t (function_of t (text_of x)) d b s

pub externals_grow : (t : TablesShape) (es : List ExternalShape) (s : Walked) → Grows s (walk_externals t es s)
externals_grow t [] s = grows_none s
externals_grow t (e ∷ rest) s = grows_on (external_grows t e s) (externals_grow t rest (walk_external t e s))
