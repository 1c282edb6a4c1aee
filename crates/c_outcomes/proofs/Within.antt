-- The decisions of a walk have few outcomes: a test has two, and a switch one for each label and one more, which are fewer than its tokens.
use Rattle.std.proofs.Common.{ℕ, ◌+◌, ◌≤◌, ◌++◌, List, [], ◌∷◌, length, Option, Bool, true, false, arith}
use Rattle.std.specs.Prelude.{ℤ, ◌||◌, if◌then◌else◌}
use Rattle.std.proofs.lemmas.List.{length-append}
use Rattle.c_base.specs.declared.place.Pos.{Pos}
use Rattle.c_base.specs.declared.place.IntKind.{IntKind}
use Rattle.c_syntax.specs.declared.tree.Named.{Named}
use Rattle.c_syntax.specs.Shape.{NoteShape, number, char, str, name, unary, before, size_of, plain, and, or, assign, comma, NodeShape, node, ExprShape, leaf, paren, call, prefix, size_of_type, cast, suffix, two, choose, probe, index, field, behind, NodeShapes, no_nodes, more_nodes, MaybeNode, no_node, one_node, DeclShape, decl, DeclShapes, no_decls, more_decls, DeclaratorShape, declarator, DeclaratorShapes, no_declarators, more_declarators, DeclFormShape, arrays, function, ParamsShape, empty, void, params, MaybeInit, no_init, one_init, one, listed, LabelShape, case, default, StmtShape, stmt, FormShape, compound, simply, when, either, while, do_while, for, switch, break, continue, return, CompoundShape, braces, ItemShapes, no_items, more_items, ExternalShape, defined, declared}
use Rattle.c_tables.specs.Tables.{TablesShape}
use Rattle.c_walk.specs.declared.around.Around.{Around}
use Rattle.c_walk.specs.declared.around.Taken.{Taken}
use Rattle.c_walk.specs.declared.around.Taken.TheVariants.{Read, Changed}
use Rattle.c_tables.specs.Rows.{first_place, name_pos, text_of}
use Rattle.c_walk.specs.Items.{Direct, Item, Outcomes, both, only_true, only_false, block, decision, def, used, cases, case_labels, labels}
use Rattle.c_walk.specs.Places.{is_place, direct_form}
use Rattle.c_walk.specs.Tests.{is_logical_form, outcome_of, number_constant, outcomes, outcomes_of_form, choosing, label_values, case_values}
use Rattle.c_walk.specs.Walked.{Walked, with_item, is_used, is_written, operand_taken, left_taken, right_taken, with_block, with_block_if, pos_of, inside, inside_test, with_decision, with_test, with_def, with_use, with_sites, with_site}
use Rattle.c_walk.specs.Walking.{walk_node, walk_form, walk_test, walk_arm, walk_nodes, walk_maybe, walk_loop_test, walk_maybe_test, walk_step}
use Rattle.c_walk.specs.Stating.{whole, with_variable, with_whole_def, walk_maybe_init, walk_declarator, walk_declarators, walk_decl, walk_decls, pos_of_stmt, splits, is_labelled, walk_choice, walk_stmt, walk_body, walk_part, walk_compound, walk_items}
use Rattle.c_walk.specs.Units.{no_items as nothing_walked, define_declarator, define_declarators, define_decl, define_decls, define_params, define_parameters, function_of, in_function, walk_function, walk_external, walk_externals}
use Rattle.c_constants.specs.declared.constants.Constant.{Constant}
use Rattle.c_constants.specs.declared.constants.Constant.TheVariants.{No, Known, Faulty, Variable, Part, Address, Literal}
use Rattle.c_constants.specs.Numbers.{number_of}
use Rattle.c_constants.specs.Constants.{is_zero, character}
use Rattle.c_syntax.specs.Grammar.{labels_form, stmt_form, body_form, compound_form, items_form, external_form, externals_form, unit_form}
use Rattle.c_outcomes.specs.Outcomes.{AreWithin, IsWithin, AllWithin, OutcomesAreFew}
use Rattle.c_outcomes.proofs.Sizes.{size, size_counts}

-- ---- outcomes

one_more : (limit : ℕ) (is : List Item) (i : Item) → AllWithin limit is → IsWithin limit i → AllWithin limit (is ++ i ∷ [])
one_more limit [] i h here = (here, tt)
one_more limit (x ∷ is) i h here = (h.0, one_more limit is i h.1 here)

pub cases_within : (limit i : ℕ) (vs : List ℤ) → i + length vs ≤ limit → AreWithin limit (case_labels i vs)
cases_within limit i [] h = (omega (arith, h), tt)
cases_within limit i (v ∷ vs) h = (omega (arith, h), cases_within limit (i + 1) vs (omega (arith, h)))

zero_within : (limit : ℕ) (b : Bool) → 2 ≤ limit → AreWithin limit (labels (if b then only_false else only_true))
zero_within limit true h = (h, tt)
zero_within limit false h = (omega (arith, h), tt)

constant_within : (limit : ℕ) (k : Constant) → 2 ≤ limit → AreWithin limit (labels (outcome_of k))
constant_within limit (Known k v) h = zero_within limit (is_zero v) h
constant_within limit No h = (omega (arith, h), (h, tt))
constant_within limit (Faulty f) h = (omega (arith, h), (h, tt))
constant_within limit Variable h = (omega (arith, h), (h, tt))
constant_within limit Part h = (omega (arith, h), (h, tt))
constant_within limit Address h = (omega (arith, h), (h, tt))
constant_within limit Literal h = (omega (arith, h), (h, tt))

both_within : (limit : ℕ) → 2 ≤ limit → AreWithin limit (labels both)
both_within limit h = (omega (arith, h), (h, tt))

mutual
  test_within : (limit : ℕ) (a : NodeShape) → 2 ≤ limit → AreWithin limit (labels (outcomes a))
  test_within limit (node p o n f) h = form_within limit f h

  form_within : (limit : ℕ) (f : ExprShape) → 2 ≤ limit → AreWithin limit (labels (outcomes_of_form f))
  form_within limit (paren a) h = test_within limit a h
  form_within limit (leaf (number t)) h = constant_within limit (number_constant (number_of t)) h
  form_within limit (leaf (char c)) h = constant_within limit (character c) h
  form_within limit (leaf (str x)) h = both_within limit h
  form_within limit (leaf (name x)) h = both_within limit h
  form_within limit (call x args) h = both_within limit h
  form_within limit (prefix u a) h = both_within limit h
  form_within limit (size_of_type y) h = both_within limit h
  form_within limit (cast y a) h = both_within limit h
  form_within limit (suffix a s) h = both_within limit h
  form_within limit (two u a b) h = both_within limit h
  form_within limit (choose a b c) h = both_within limit h
  form_within limit (probe u a) h = both_within limit h

-- ---- in general

-- where all that was counted is within the limit, so is all that is counted then
pub record Keeps (limit : ℕ) (v w : Walked) : Type 0 where
  pub keeps : AllWithin limit v.items → AllWithin limit w.items

pub on_same : (limit : ℕ) (enough : 2 ≤ limit) (w : Walked) → Keeps limit w w
on_same limit enough w = record { keeps = λ h. h }

pub on_further : (limit : ℕ) (enough : 2 ≤ limit) (u v w : Walked) → Keeps limit u v → Keeps limit v w → Keeps limit u w
on_further limit enough u v w p q = record { keeps = λ h. q.keeps (p.keeps h) }

pub if_on : (limit : ℕ) (enough : 2 ≤ limit) (w : Walked) (b : Bool) (u v : Walked) → Keeps limit w u → Keeps limit w v → Keeps limit w (if b then u else v)
if_on limit enough w true u v p q = p
if_on limit enough w false u v p q = q

item_within : (limit : ℕ) (i : Item) (w : Walked) → IsWithin limit i → Keeps limit w (with_item i w)
item_within limit i w here = record { keeps = λ h. one_more limit w.items i h here }

decision_within : (limit : ℕ) (p : Pos) (o : Outcomes) (w : Walked) → AreWithin limit (labels o) → Keeps limit w (with_decision p o w)
decision_within limit p o w here = record { keeps = λ h. one_more limit w.items (decision p o) h here }

pub variable_on : (limit : ℕ) (enough : 2 ≤ limit) (w : Walked) → Keeps limit w (with_variable w)
variable_on limit enough w = record { keeps = λ h. h }

-- ---- expressions

pub def_on : (limit : ℕ) (enough : 2 ≤ limit) (b : Bool) (c : Around) (p : Pos) (d : Option Direct) (w : Walked) → Keeps limit w (with_def b c p d w)
def_on limit enough true c p d w = item_within limit (def p c.function d) w tt
def_on limit enough false c p d w = on_same limit enough w

pub use_on : (limit : ℕ) (enough : 2 ≤ limit) (b : Bool) (c : Around) (p : Pos) (d : Option Direct) (w : Walked) → Keeps limit w (with_use b c p d w)
use_on limit enough true c p d w = item_within limit (used p c.function d c.owner) w tt
use_on limit enough false c p d w = on_same limit enough w

pub sites_on : (limit : ℕ) (enough : 2 ≤ limit) (c : Around) (r : Taken) (p : Pos) (d : Option Direct) (value : Bool) (w : Walked) → Keeps limit w (with_sites c r p d value w)
sites_on limit enough c r p d value w =
    let v = with_def (is_written r) c p d w in
    on_further limit enough w v (with_use value c p d v) (def_on limit enough (is_written r) c p d w) (use_on limit enough value c p d v)

pub site_on : (limit : ℕ) (enough : 2 ≤ limit) (c : Around) (r : Taken) (p : Pos) (n : NoteShape) (f : ExprShape) (w : Walked) → Keeps limit w (with_site c r p n f w)
site_on limit enough c r p n f w = if_on limit enough w (is_place f) (with_sites c r p (direct_form n f) (is_used r n) w) w (sites_on limit enough c r p (direct_form n f) (is_used r n) w) (on_same limit enough w)

pub test_on : (limit : ℕ) (enough : 2 ≤ limit) (p : Pos) (f : ExprShape) (w : Walked) → Keeps limit w (with_test p f w)
test_on limit enough p f w = if_on limit enough w (is_logical_form f) w (with_decision p (outcomes_of_form f) w) (on_same limit enough w) (decision_within limit p (outcomes_of_form f) w (form_within limit f enough))

pub block_on : (limit : ℕ) (enough : 2 ≤ limit) (p : Pos) (w : Walked) → Keeps limit w (with_block p w)
block_on limit enough p w = item_within limit (block p) w tt

pub block_if_on : (limit : ℕ) (enough : 2 ≤ limit) (b : Bool) (p : Pos) (w : Walked) → Keeps limit w (with_block_if b p w)
block_if_on limit enough true p w = block_on limit enough p w
block_if_on limit enough false p w = on_same limit enough w

mutual
  pub node_on : (limit : ℕ) (enough : 2 ≤ limit) (c : Around) (r : Taken) (a : NodeShape) (w : Walked) → Keeps limit w (walk_node c r a w)
  node_on limit enough c r (node p o n f) w =
      let v = with_site c r p n f w in
      on_further limit enough w v (walk_form c r f v) (site_on limit enough c r p n f w) (form_on limit enough c r f v)

  pub form_on : (limit : ℕ) (enough : 2 ≤ limit) (c : Around) (r : Taken) (f : ExprShape) (w : Walked) → Keeps limit w (walk_form c r f w)
  form_on limit enough c r (leaf l) w = on_same limit enough w
  form_on limit enough c r (paren a) w = node_on limit enough c r a w
  form_on limit enough c r (call x args) w = nodes_on limit enough c args w
  form_on limit enough c r (prefix (unary u) a) w = node_on limit enough c (operand_taken u) a w
  form_on limit enough c r (prefix (before u) a) w = node_on limit enough c Changed a w
  form_on limit enough c r (prefix size_of a) w = on_same limit enough w
  form_on limit enough c r (size_of_type y) w = on_same limit enough w
  form_on limit enough c r (cast y a) w = node_on limit enough c Read a w
  form_on limit enough c r (suffix a (index b)) w = let v = walk_node c Read a w in on_further limit enough w v (walk_node c Read b v) (node_on limit enough c Read a w) (node_on limit enough c Read b v)
  form_on limit enough c r (suffix a (field h x q)) w = node_on limit enough c Read a w
  form_on limit enough c r (suffix a (behind u)) w = node_on limit enough c Changed a w
  form_on limit enough c r (two and a b) w =
      let u = walk_test c a w in
      let v = with_block (pos_of b) u in
      on_further limit enough w u (walk_test c b v) (test_node_on limit enough c a w) (on_further limit enough u v (walk_test c b v) (block_on limit enough (pos_of b) u) (test_node_on limit enough c b v))
  form_on limit enough c r (two or a b) w =
      let u = walk_test c a w in
      let v = with_block (pos_of b) u in
      on_further limit enough w u (walk_test c b v) (test_node_on limit enough c a w) (on_further limit enough u v (walk_test c b v) (block_on limit enough (pos_of b) u) (test_node_on limit enough c b v))
  form_on limit enough c r (two (assign u) a b) w = let v = walk_node c (left_taken u) a w in on_further limit enough w v (walk_node c (right_taken u a) b v) (node_on limit enough c (left_taken u) a w) (node_on limit enough c (right_taken u a) b v)
  form_on limit enough c r (two (plain u) a b) w = let v = walk_node c Read a w in on_further limit enough w v (walk_node c Read b v) (node_on limit enough c Read a w) (node_on limit enough c Read b v)
  form_on limit enough c r (two comma a b) w = let v = walk_node c Read a w in on_further limit enough w v (walk_node c Read b v) (node_on limit enough c Read a w) (node_on limit enough c Read b v)
  form_on limit enough c r (choose a b d) w =
      let u = walk_test c a w in
      let v = walk_arm c b u in
      on_further limit enough w u (walk_arm c d v) (test_node_on limit enough c a w) (on_further limit enough u v (walk_arm c d v) (arm_on limit enough c b u) (arm_on limit enough c d v))
  form_on limit enough c r (probe u a) w = node_on limit enough c r a w

  pub test_node_on : (limit : ℕ) (enough : 2 ≤ limit) (c : Around) (a : NodeShape) (w : Walked) → Keeps limit w (walk_test c a w)
  test_node_on limit enough c (node p o n f) w =
      let k = inside_test c f w in
      let u = with_test p f w in
      let v = with_site k Read p n f u in
      on_further limit enough w u (walk_form k Read f v) (test_on limit enough p f w) (on_further limit enough u v (walk_form k Read f v) (site_on limit enough k Read p n f u) (form_on limit enough k Read f v))

  pub arm_on : (limit : ℕ) (enough : 2 ≤ limit) (c : Around) (a : NodeShape) (w : Walked) → Keeps limit w (walk_arm c a w)
  arm_on limit enough c (node p o n f) w =
      let u = with_block p w in
      let v = with_site c Read p n f u in
      on_further limit enough w u (walk_form c Read f v) (block_on limit enough p w) (on_further limit enough u v (walk_form c Read f v) (site_on limit enough c Read p n f u) (form_on limit enough c Read f v))

  pub nodes_on : (limit : ℕ) (enough : 2 ≤ limit) (c : Around) (es : NodeShapes) (w : Walked) → Keeps limit w (walk_nodes c es w)
  nodes_on limit enough c no_nodes w = on_same limit enough w
  nodes_on limit enough c (more_nodes a rest) w = let v = walk_node c Read a w in on_further limit enough w v (walk_nodes c rest v) (node_on limit enough c Read a w) (nodes_on limit enough c rest v)

pub maybe_on : (limit : ℕ) (enough : 2 ≤ limit) (c : Around) (e : MaybeNode) (w : Walked) → Keeps limit w (walk_maybe c e w)
maybe_on limit enough c no_node w = on_same limit enough w
maybe_on limit enough c (one_node a) w = node_on limit enough c Read a w

pub loop_test_on : (limit : ℕ) (enough : 2 ≤ limit) (c : Around) (e : NodeShape) (w : Walked) → Keeps limit w (walk_loop_test c e w)
loop_test_on limit enough c a w = let v = with_block (pos_of a) w in on_further limit enough w v (walk_test c a v) (block_on limit enough (pos_of a) w) (test_node_on limit enough c a v)

pub maybe_test_on : (limit : ℕ) (enough : 2 ≤ limit) (c : Around) (e : MaybeNode) (w : Walked) → Keeps limit w (walk_maybe_test c e w)
maybe_test_on limit enough c no_node w = on_same limit enough w
maybe_test_on limit enough c (one_node a) w = loop_test_on limit enough c a w

pub step_on : (limit : ℕ) (enough : 2 ≤ limit) (c : Around) (e : MaybeNode) (w : Walked) → Keeps limit w (walk_step c e w)
step_on limit enough c no_node w = on_same limit enough w
step_on limit enough c (one_node a) w = arm_on limit enough c a w

-- ---- declarations

pub whole_on : (limit : ℕ) (enough : 2 ≤ limit) (t : TablesShape) (f : ℕ) (x : Option Named) (w : Walked) → Keeps limit w (with_whole_def t f x w)
whole_on limit enough t f x w = item_within limit (def (name_pos first_place x) f (whole t w.variables)) w tt

pub init_on : (limit : ℕ) (enough : 2 ≤ limit) (t : TablesShape) (c : Around) (x : Option Named) (i : MaybeInit) (w : Walked) → Keeps limit w (walk_maybe_init t c x i w)
init_on limit enough t c x no_init w = on_same limit enough w
init_on limit enough t c x (one_init (one a)) w = let v = with_whole_def t c.function x w in on_further limit enough w v (walk_node c Read a v) (whole_on limit enough t c.function x w) (node_on limit enough c Read a v)
init_on limit enough t c x (one_init (listed p items last)) w = whole_on limit enough t c.function x w

pub declarator_on : (limit : ℕ) (enough : 2 ≤ limit) (t : TablesShape) (c : Around) (d : DeclaratorShape) (w : Walked) → Keeps limit w (walk_declarator t c d w)
declarator_on limit enough t c (declarator stars x (arrays ls) i) w = on_further limit enough w (with_variable w) (walk_maybe_init t c x i (with_variable w)) (variable_on limit enough w) (init_on limit enough t c x i (with_variable w))
declarator_on limit enough t c (declarator stars x (function ps) i) w = on_same limit enough w

pub declarators_on : (limit : ℕ) (enough : 2 ≤ limit) (t : TablesShape) (c : Around) (ds : DeclaratorShapes) (w : Walked) → Keeps limit w (walk_declarators t c ds w)
declarators_on limit enough t c no_declarators w = on_same limit enough w
declarators_on limit enough t c (more_declarators d rest) w = let v = walk_declarator t c d w in on_further limit enough w v (walk_declarators t c rest v) (declarator_on limit enough t c d w) (declarators_on limit enough t c rest v)

pub decl_on : (limit : ℕ) (enough : 2 ≤ limit) (t : TablesShape) (c : Around) (d : DeclShape) (w : Walked) → Keeps limit w (walk_decl t c d w)
decl_on limit enough t c (decl p specs names) w = declarators_on limit enough t c names w

pub decls_on : (limit : ℕ) (enough : 2 ≤ limit) (t : TablesShape) (c : Around) (ds : DeclShapes) (w : Walked) → Keeps limit w (walk_decls t c ds w)
decls_on limit enough t c no_decls w = on_same limit enough w
decls_on limit enough t c (more_decls d rest) w = let v = walk_decl t c d w in on_further limit enough w v (walk_decls t c rest v) (decl_on limit enough t c d w) (decls_on limit enough t c rest v)

-- ---- statements, whose tokens are within the limit

label_cases : (k : Option IntKind) (ls : List LabelShape) → length (label_values k ls) ≤ size (labels_form ls)
label_cases k [] = omega arith
label_cases k (case p a ∷ ls) = let h = label_cases k ls in omega (arith, h)
label_cases k (default p ∷ ls) = let h = label_cases k ls in omega (arith, h)

pub cases_in : (k : Option IntKind) (items : ItemShapes) → length (case_values k items) ≤ size (items_form items)
cases_in k no_items = omega arith
cases_in k (more_items ls a rest) =
    let here = label_cases k ls in
    let more = cases_in k rest in
    let e = length-append (label_values k ls) (case_values k rest) in
    omega (arith, here, more, e)

pub choice_on : (limit : ℕ) (enough : 2 ≤ limit) (c : Around) (e : NodeShape) (items : ItemShapes) (w : Walked) → 1 + size (items_form items) ≤ limit → Keeps limit w (walk_choice c e items w)
choice_on limit enough c e items w fits =
    let o = cases (case_values (choosing e) items) in
    let v = with_decision (pos_of e) o w in
    let few = cases_in (choosing e) items in
    on_further limit enough w v (walk_node (inside c w) Read e v)
    (decision_within limit (pos_of e) o w (cases_within limit 1 (case_values (choosing e) items) (omega (arith, few, fits))))
    (node_on limit enough (inside c w) Read e v)

mutual
  pub stmt_on : (limit : ℕ) (enough : 2 ≤ limit) (t : TablesShape) (c : Around) (a : StmtShape) (w : Walked) → size (stmt_form a) ≤ limit → Keeps limit w (walk_stmt t c a w)
  stmt_on limit enough t c (stmt p ms q f) w fits = body_on limit enough t c f w (omega (arith, fits))

  pub body_on : (limit : ℕ) (enough : 2 ≤ limit) (t : TablesShape) (c : Around) (f : FormShape) (w : Walked) → size (body_form f) ≤ limit → Keeps limit w (walk_body t c f w)
  body_on limit enough t c (compound b) w fits = compound_on limit enough t c b w fits
  body_on limit enough t c (simply e) w fits = maybe_on limit enough c e w
  body_on limit enough t c (when e a) w fits = let v = walk_test c e w in on_further limit enough w v (walk_part t c a v) (test_node_on limit enough c e w) (part_on limit enough t c a v (omega (arith, fits)))
  body_on limit enough t c (either e a b) w fits =
      let u = walk_test c e w in
      let v = walk_part t c a u in
      on_further limit enough w u (walk_part t c b v) (test_node_on limit enough c e w) (on_further limit enough u v (walk_part t c b v) (part_on limit enough t c a u (omega (arith, fits))) (part_on limit enough t c b v (omega (arith, fits))))
  body_on limit enough t c (while e a) w fits = let v = walk_loop_test c e w in on_further limit enough w v (walk_part t c a v) (loop_test_on limit enough c e w) (part_on limit enough t c a v (omega (arith, fits)))
  body_on limit enough t c (do_while a e) w fits = let v = walk_part t c a w in on_further limit enough w v (walk_loop_test c e v) (part_on limit enough t c a w (omega (arith, fits))) (loop_test_on limit enough c e v)
  body_on limit enough t c (for e f g a) w fits =
      let s = walk_maybe c e w in
      let u = walk_maybe_test c f s in
      let v = walk_step c g u in
      on_further limit enough w s (walk_part t c a v) (maybe_on limit enough c e w) (on_further limit enough s u (walk_part t c a v) (maybe_test_on limit enough c f s) (on_further limit enough u v (walk_part t c a v) (step_on limit enough c g u) (part_on limit enough t c a v (omega (arith, fits)))))
  body_on limit enough t c (switch e items) w fits = let v = walk_choice c e items w in on_further limit enough w v (walk_items t c false items v) (choice_on limit enough c e items w (omega (arith, fits))) (items_on limit enough t c false items v (omega (arith, fits)))
  body_on limit enough t c break w fits = on_same limit enough w
  body_on limit enough t c continue w fits = on_same limit enough w
  body_on limit enough t c (return e) w fits = maybe_on limit enough c e w

  pub part_on : (limit : ℕ) (enough : 2 ≤ limit) (t : TablesShape) (c : Around) (a : StmtShape) (w : Walked) → size (stmt_form a) ≤ limit → Keeps limit w (walk_part t c a w)
  part_on limit enough t c (stmt p ms q f) w fits = let v = with_block p w in on_further limit enough w v (walk_body t c f v) (block_on limit enough p w) (body_on limit enough t c f v (omega (arith, fits)))

  pub compound_on : (limit : ℕ) (enough : 2 ≤ limit) (t : TablesShape) (c : Around) (b : CompoundShape) (w : Walked) → size (compound_form b) ≤ limit → Keeps limit w (walk_compound t c b w)
  compound_on limit enough t c (braces p ds items) w fits = let v = walk_decls t c ds w in on_further limit enough w v (walk_items t c false items v) (decls_on limit enough t c ds w) (items_on limit enough t c false items v (omega (arith, fits)))

  pub items_on : (limit : ℕ) (enough : 2 ≤ limit) (t : TablesShape) (c : Around) (after : Bool) (items : ItemShapes) (w : Walked) → size (items_form items) ≤ limit → Keeps limit w (walk_items t c after items w)
  items_on limit enough t c after no_items w fits = on_same limit enough w
  items_on limit enough t c after (more_items labels a rest) w fits =
      let u = with_block_if (after || is_labelled labels) (pos_of_stmt a) w in
      let v = walk_stmt t c a u in
      on_further limit enough w u (walk_items t c (splits a) rest v) (block_if_on limit enough (after || is_labelled labels) (pos_of_stmt a) w)
      (on_further limit enough u v (walk_items t c (splits a) rest v) (stmt_on limit enough t c a u (omega (arith, fits))) (items_on limit enough t c (splits a) rest v (omega (arith, fits))))

-- ---- file scope and functions

pub defined_on : (limit : ℕ) (enough : 2 ≤ limit) (t : TablesShape) (f : ℕ) (d : DeclaratorShape) (w : Walked) → Keeps limit w (define_declarator t f d w)
defined_on limit enough t f (declarator stars x (arrays ls) i) w = on_further limit enough w (with_variable w) (with_whole_def t f x (with_variable w)) (variable_on limit enough w) (whole_on limit enough t f x (with_variable w))
defined_on limit enough t f (declarator stars x (function ps) i) w = on_same limit enough w

pub all_defined_on : (limit : ℕ) (enough : 2 ≤ limit) (t : TablesShape) (f : ℕ) (ds : DeclaratorShapes) (w : Walked) → Keeps limit w (define_declarators t f ds w)
all_defined_on limit enough t f no_declarators w = on_same limit enough w
all_defined_on limit enough t f (more_declarators d rest) w = let v = define_declarator t f d w in on_further limit enough w v (define_declarators t f rest v) (defined_on limit enough t f d w) (all_defined_on limit enough t f rest v)

pub param_on : (limit : ℕ) (enough : 2 ≤ limit) (t : TablesShape) (f : ℕ) (d : DeclShape) (w : Walked) → Keeps limit w (define_decl t f d w)
param_on limit enough t f (decl p specs names) w = all_defined_on limit enough t f names w

pub given_on : (limit : ℕ) (enough : 2 ≤ limit) (t : TablesShape) (f : ℕ) (ds : DeclShapes) (w : Walked) → Keeps limit w (define_decls t f ds w)
given_on limit enough t f no_decls w = on_same limit enough w
given_on limit enough t f (more_decls d rest) w = let v = define_decl t f d w in on_further limit enough w v (define_decls t f rest v) (param_on limit enough t f d w) (given_on limit enough t f rest v)

pub params_on : (limit : ℕ) (enough : 2 ≤ limit) (t : TablesShape) (f : ℕ) (ps : ParamsShape) (w : Walked) → Keeps limit w (define_params t f ps w)
params_on limit enough t f (params ds) w = given_on limit enough t f ds w
params_on limit enough t f empty w = on_same limit enough w
params_on limit enough t f void w = on_same limit enough w

pub signature_on : (limit : ℕ) (enough : 2 ≤ limit) (t : TablesShape) (f : ℕ) (d : DeclFormShape) (w : Walked) → Keeps limit w (define_parameters t f d w)
signature_on limit enough t f (function ps) w = params_on limit enough t f ps w
signature_on limit enough t f (arrays ls) w = on_same limit enough w

pub function_on : (limit : ℕ) (enough : 2 ≤ limit) (t : TablesShape) (f : ℕ) (d : DeclFormShape) (b : CompoundShape) (w : Walked) → size (compound_form b) ≤ limit → Keeps limit w (walk_function t f d b w)
function_on limit enough t f d (braces p ds items) w fits =
    let u = define_parameters t f d w in
    let v = with_block p u in
    on_further limit enough w u (walk_compound t (in_function f) (braces p ds items) v) (signature_on limit enough t f d w)
    (on_further limit enough u v (walk_compound t (in_function f) (braces p ds items) v) (block_on limit enough p u) (compound_on limit enough t (in_function f) (braces p ds items) v fits))

pub external_on : (limit : ℕ) (enough : 2 ≤ limit) (t : TablesShape) (e : ExternalShape) (w : Walked) → size (external_form e) ≤ limit → Keeps limit w (walk_external t e w)
external_on limit enough t (declared d) w fits = param_on limit enough t 0 d w
external_on limit enough t (defined specs (declarator stars x d i) ms b) w fits = function_on limit enough t (function_of t (text_of x)) d b w (omega (arith, fits))

pub externals_on : (limit : ℕ) (enough : 2 ≤ limit) (t : TablesShape) (es : List ExternalShape) (w : Walked) → size (externals_form es) ≤ limit → Keeps limit w (walk_externals t es w)
externals_on limit enough t [] w fits = on_same limit enough w
externals_on limit enough t (e ∷ rest) w fits = let v = walk_external t e w in on_further limit enough w v (walk_externals t rest v) (external_on limit enough t e w (omega (arith, fits))) (externals_on limit enough t rest v (omega (arith, fits)))

pub outcomes_are_few : OutcomesAreFew
outcomes_are_few t u limit enough few =
    let e = size_counts (unit_form u) in
    (externals_on limit enough t u.externals nothing_walked (omega (arith, e, few))).keeps tt
