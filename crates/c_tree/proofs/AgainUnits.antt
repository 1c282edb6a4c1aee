-- A unit that was typed can be typed again: initialisers, declarations, statements and functions.
use Rattle.std.specs.Prelude.{nat_eq, ◌||◌}
use Rattle.std.proofs.Common.{◌≡◌, ℕ, ◌+◌, ℤ, pos, List, [], ◌∷◌, ◌++◌, length, Option, Some, None, Bool, true, false, refl, sym, ap, ◌∙◌, map}
use Rattle.c_base.specs.declared.place.Pos.{Pos}
use Rattle.c_syntax.specs.Shape.{TypeOf, Leaf, number, char, str, name, Prefix, unary, before, size_of, NodeShape, node, ExprShape, leaf, paren, call, prefix, size_of_type, cast, suffix, two, choose, probe, SuffixShape, index, field, behind, ProbeShape, simple, select, InitShape, one, listed, InitShapes, no_inits, more_inits, MaybeInit, no_init, one_init, MaybeNode, no_node, one_node, LabelShape, case, default, StmtShape, stmt, FormShape, compound, simply, when, either, while, do_while, for, switch, break, continue, return, CompoundShape, braces, ItemShapes, no_items, more_items, ExternalShape, defined, declared, UnitShape, LengthShapes, SpecShapes, no_specs, more_specs, word, struct, enum, DeclShape, decl, DeclShapes, no_decls, more_decls, DeclaratorShape, declarator, DeclaratorShapes, no_declarators, more_declarators, DeclFormShape, arrays, function, ParamsShape, empty, void, params}
use Rattle.c_syntax.specs.declared.tree.Named.{Named}
use Rattle.c_syntax.specs.declared.tree.Star.{Star}
use Rattle.c_tree.specs.State.{State, step, steps}
use Rattle.c_tables.specs.Rows.{first_place, text_of, name_pos}
use Rattle.c_tree.specs.Rulings.{rule, of_kind, kind_at, by}
use Rattle.c_constants.specs.Constants as constants
use Rattle.c_tree.specs.Stating.{Surroundings, in_loop, in_switch, Labels, no_labels, tested, switched, TypedMaybe, TypedLabels, type_maybe, type_test, type_result, type_marks, case_state, case_labels, default_labels, one_label, type_labels, TypedStmt, TypedBody, TypedCompound, TypedItems, type_stmt, type_body, type_compound, type_items}
use Rattle.c_tree.specs.Parts.{judged_constant, Length, counted, left_out, unclear, TypedLengths, TypedSpecs, Spelled, pointed, star_tokens, unspelled, spelled_rule}
use Rattle.c_tree.specs.Declaring.{TypedFunction, name_tokens, claim_name, token_of_name, declare_variable, variable_rule, has_init, TypedMaybeInit, an_init, type_maybe_init, TypedDeclarator, type_variable, TypedParam, TypedParams, declare_parameter, parameter_rule, name_demand, type_param, one_param, type_param_list, listed_params, type_params, type_function, TypedDeclarators, plain_declarator, type_declarator, type_declarators, none_declared, semicolon, opened_scope, closed_scope, TypedDecl, type_decl, TypedDeclList, type_decls}
use Rattle.c_tree.specs.Sorts.{TypedNode, pos_in}
use Rattle.c_tree.specs.Operators.{hushed}
use Rattle.c_tree.specs.Typing.{type_node, type_form, type_specs, type_lengths}
use Rattle.c_tree.specs.Initialisers.{TypedInit, TypedInits, one_item, form_in, filled, chars_of, one_init_of, string_init, value_init, slots, slot, slot_rule, further, Slots, init_pos, list_rule, list_end, type_init, type_inits, length_in, length_in_form, count_items, lengths_with}
use Rattle.c_tree.specs.Units.{specs_place, begun_function, ended_function, TypedExternal, type_external, TypedExternals, type_externals, type_line, start, type_unit}
use Rattle.c_type_rules.specs.Verdicts.{result_type}
use Rattle.c_syntax.specs.declared.tree.ProbeMark.{ProbeMark}
use Rattle.c_tree.proofs.Again.{chain, node_again, pos_again, specs_again, lengths_again}
use Rattle.c_tree.specs.Complaints.{wrong_type}

-- INITIALISERS

filled_form : (c : Option ℕ) (p o : Pos) (f : ExprShape) (s : State) → filled c (type_form p o f s).form ≡ filled c f
filled_form None p o f s = refl
filled_form (Some n) p o (leaf (number t)) s = refl
filled_form (Some n) p o (leaf (char b)) s = refl
filled_form (Some n) p o (leaf (str t)) s = refl
filled_form (Some n) p o (leaf (name x)) s = refl
filled_form (Some n) p o (paren a) s = refl
filled_form (Some n) p o (call x args) s = refl
filled_form (Some n) p o (prefix (unary u) a) s = refl
filled_form (Some n) p o (prefix (before u) a) s = refl
filled_form (Some n) p o (prefix size_of a) s = refl
filled_form (Some n) p o (size_of_type t) s = refl
filled_form (Some n) p o (cast t a) s = refl
filled_form (Some n) p o (suffix a (index b)) s = refl
filled_form (Some n) p o (suffix a (field h x q)) s = refl
filled_form (Some n) p o (suffix a (behind u)) s = refl
filled_form (Some n) p o (two u a b) s = refl
filled_form (Some n) p o (choose a b c) s = refl
filled_form (Some n) p o (probe (simple u x) a) s = refl
filled_form (Some n) p o (probe (select x cs) a) s = refl

filled_again : (c : Option ℕ) (a : NodeShape) (s : State) → filled c (form_in (type_node a s).node) ≡ filled c (form_in a)
filled_again c (node p o n f) s = filled_form c p o f _

length_form : (p o : Pos) (f : ExprShape) (s : State) → length_in_form (type_form p o f s).form ≡ length_in_form f
length_form p o (leaf (number t)) s = refl
length_form p o (leaf (char b)) s = refl
length_form p o (leaf (str t)) s = refl
length_form p o (leaf (name x)) s = refl
length_form p o (paren a) s = refl
length_form p o (call x args) s = refl
length_form p o (prefix (unary u) a) s = refl
length_form p o (prefix (before u) a) s = refl
length_form p o (prefix size_of a) s = refl
length_form p o (size_of_type t) s = refl
length_form p o (cast t a) s = refl
length_form p o (suffix a (index b)) s = refl
length_form p o (suffix a (field h x q)) s = refl
length_form p o (suffix a (behind u)) s = refl
length_form p o (two u a b) s = refl
length_form p o (choose a b c) s = refl
length_form p o (probe (simple u x) a) s = refl
length_form p o (probe (select x cs) a) s = refl

-- the state in which one value is typed
abbrev value_state : Option (ℕ × ℕ) → State → State
value_state (Some r) s = hushed s
value_state None s = s

one_is : (r : Option (ℕ × ℕ)) (c : Bool) (k : Option TypeOf) (a : NodeShape) (s : State) → (one_init_of r c k a s).init ≡ one (type_node a (value_state r s)).node
one_is (Some (n, m)) c k a s = refl
one_is None c k a s = refl

one_same : (r : Option (ℕ × ℕ)) (c : Bool) (k : Option TypeOf) (x a : NodeShape) (u : State) → pos_in x ≡ pos_in a → ((v : State) → type_node x v ≡ type_node a v) → one_init_of r c k x u ≡ one_init_of r c k a u
one_same (Some (n, m)) c k x a u q h = rw (q, h (hushed u)) refl
one_same None c k x a u q h = rw (q, h u) refl

value_again : (c : Bool) (k : Option TypeOf) (a : NodeShape) (s u : State) → type_init c k (one (type_node a s).node) u ≡ type_init c k (one a) u
value_again c k a s u =
    ap (λ f. one_init_of f c k (type_node a s).node u) (filled_again (chars_of k) a s)
    ∙ one_same (filled (chars_of k) (form_in a)) c k (type_node a s).node a u (pos_again a s) (λ v. node_again a s v)

place_again : (i : InitShape) (c : Bool) (k : Option TypeOf) (s : State) → init_pos (type_init c k i s).init ≡ init_pos i
place_again (one a) c k s = ap init_pos (one_is (filled (chars_of k) (form_in a)) c k a s) ∙ pos_again a _
place_again (listed p is last) c k s = refl

count_again : (l : Slots) (is : InitShapes) (s : State) → count_items (type_inits l is s).inits ≡ count_items is
count_again l no_inits s = refl
count_again l (more_inits i rest) s = ap (λ n. 1 + n) (count_again (further l) rest _)

length_one : (a : NodeShape) (s : State) → length_in (one (type_node a s).node) ≡ length_in (one a)
length_one (node p o n f) s = length_form p o f _

pub length_again : (i : InitShape) (c : Bool) (k : Option TypeOf) (s : State) → length_in (type_init c k i s).init ≡ length_in i
length_again (one a) c k s = ap length_in (one_is (filled (chars_of k) (form_in a)) c k a s) ∙ length_one a _
length_again (listed p is last) c k s = rw (count_again (slots k s) is _) refl

mutual
  pub init_again : (c d : Bool) (k j : Option TypeOf) (i : InitShape) (s u : State) → type_init c k (type_init d j i s).init u ≡ type_init c k i u
  init_again c d k j (one a) s u =
      ap (λ x. type_init c k x u) (one_is (filled (chars_of j) (form_in a)) d j a s) ∙ value_again c k a (value_state (filled (chars_of j) (form_in a)) s) u
  init_again c d k j (listed p is last) s u = rw (inits_again (slots j s) (slots k u) is _ _) refl

  pub inits_again : (l m : Slots) (is : InitShapes) (s u : State) → type_inits m (type_inits l is s).inits u ≡ type_inits m is u
  inits_again l m no_inits s u = refl
  inits_again l m (more_inits i rest) s u =
      let w = rule (slot_rule l) s.at (init_pos i) s in
      let x = (type_init true (slot l) i w).init in
      let e = step (type_init true (slot l) i w).state in
      let y = (type_inits (further l) rest e).inits in
      ap (λ q. one_item (type_init true (slot m) x (rule (slot_rule m) u.at q u)) (type_inits (further m) y (step (type_init true (slot m) x (rule (slot_rule m) u.at q u)).state))) (place_again i true (slot l) w)
      ∙ chain one_item (λ t. type_inits (further m) y (step t.state)) (λ t. type_inits (further m) rest (step t.state)) _ _ (init_again true true (slot m) (slot l) i w (rule (slot_rule m) u.at (init_pos i) u)) (λ t. inits_again (further l) (further m) rest e (step t.state))

-- DECLARATIONS

maybe_again : (c d : Bool) (k j : Option TypeOf) (i : MaybeInit) (s u : State) → type_maybe_init c k (type_maybe_init d j i s).init u ≡ type_maybe_init c k i u
maybe_again c d k j no_init s u = refl
maybe_again c d k j (one_init i) s u = ap an_init (init_again c d k j i (step s) (step u))

has_again : (d : Bool) (j : Option TypeOf) (i : MaybeInit) (s : State) → has_init (type_maybe_init d j i s).init ≡ has_init i
has_again d j no_init s = refl
has_again d j (one_init i) s = refl

with_again : (d : Bool) (j : Option TypeOf) (i : MaybeInit) (s : State) (ls : List Length) → lengths_with (type_maybe_init d j i s).init ls ≡ lengths_with i ls
with_again d j no_init s ls = refl
with_again d j (one_init i) s [] = refl
with_again d j (one_init i) s (left_out ∷ ls) = ap (λ l. l ∷ ls) (length_again i d j (step s))
with_again d j (one_init i) s (counted n ∷ ls) = refl
with_again d j (one_init i) s (unclear ∷ ls) = refl

-- a variable behind its lengths, of which the first may be that of its initialiser
abbrev behind_lengths : Option TypeOf → List Star → Option Named → State → MaybeInit → TypedLengths → List Length → TypedMaybeInit
behind_lengths k stars x u i l cs =
    let begun = steps (star_tokens stars) u in
    let token = token_of_name begun.at x begun in
    let p = name_pos first_place x in
    let r = variable_rule l.state.rooms cs (pointed stars k) in
    type_maybe_init (nat_eq u.function 0) (kind_at r) i (declare_variable token p (text_of x) (kind_at r) (rule r token p l.state))

abbrev variable_of : List Star → Option Named → TypedLengths → TypedMaybeInit → TypedDeclarator
variable_of stars x l j = record { name = declarator stars x (arrays l.lengths) j.init; state = j.state }

abbrev at_lengths : List Star → Option Named → State → Bool → State
at_lengths stars x u b = steps (name_tokens x) (claim_name (nat_eq u.function 0 || b) x (steps (star_tokens stars) u))

same_variable : (k : Option TypeOf) (stars : List Star) (x : Option Named) (ms ls : LengthShapes) (h i : MaybeInit) (u : State) → has_init h ≡ has_init i → ((cs : List Length) → lengths_with h cs ≡ lengths_with i cs) → ((v : State) → type_lengths [] ms v ≡ type_lengths [] ls v) → ((c : Bool) (j : Option TypeOf) (v : State) → type_maybe_init c j h v ≡ type_maybe_init c j i v) → type_variable k stars x ms h u ≡ type_variable k stars x ls i u
same_variable k stars x ms ls h i u a b e f =
    ap (λ q. variable_of stars x (type_lengths [] ms (at_lengths stars x u q)) (behind_lengths k stars x u h (type_lengths [] ms (at_lengths stars x u q)) (lengths_with h (type_lengths [] ms (at_lengths stars x u q)).counts))) a
    ∙ chain (variable_of stars x) (λ l. behind_lengths k stars x u h l (lengths_with h l.counts)) (λ l. behind_lengths k stars x u i l (lengths_with i l.counts)) _ _ (e (at_lengths stars x u (has_init i)))
    (λ l. ap (behind_lengths k stars x u h l) (b l.counts) ∙ f _ _ _)

-- PARAMETERS

abbrev param_of : Bool → Pos → List Star → Option Named → MaybeInit → State → TypedSpecs → TypedLengths → TypedParam
param_of defining p stars x i s t l =
    let begun = steps (star_tokens stars) (rule (spelled_rule t.spelled) s.at p t.state) in
    let token = token_of_name s.at x begun in
    let k = parameter_rule l.state.rooms l.counts (pointed stars (kind_at (spelled_rule t.spelled))) in
    record {
      param = decl p t.specs (more_declarators (declarator stars x (arrays l.lengths) i) no_declarators);
      kind = kind_at k;
      state = declare_parameter token x (kind_at k) (rule k token (name_pos p x) (name_demand defining x s.at p l.state));
    }

abbrev param_lengths : Bool → Pos → List Star → Option Named → State → TypedSpecs → State
param_lengths defining p stars x s t = steps (name_tokens x) (claim_name defining x (steps (star_tokens stars) (rule (spelled_rule t.spelled) s.at p t.state)))

param_again : (defining : Bool) (p : Pos) (specs : SpecShapes) (stars : List Star) (x : Option Named) (ls : LengthShapes) (i : MaybeInit) (s v u : State) → type_param defining p (type_specs false specs unspelled s).specs stars x (type_lengths [] ls v).lengths i u ≡ type_param defining p specs stars x ls i u
param_again defining p specs stars x ls i s v u =
    chain (param_of defining p stars x i u) (λ t. type_lengths [] (type_lengths [] ls v).lengths (param_lengths defining p stars x u t)) (λ t. type_lengths [] ls (param_lengths defining p stars x u t)) _ _ (specs_again false specs unspelled unspelled s u) (λ t. lengths_again [] [] ls v _)

abbrev with_other : DeclShape → TypedParams → TypedParams
with_other d r = record r { params = more_decls d r.params }

params_list_again : (defining : Bool) (ds : DeclShapes) (s u : State) → type_param_list defining (type_param_list defining ds s).params u ≡ type_param_list defining ds u
params_list_again defining no_decls s u = refl
params_list_again defining (more_decls (decl p specs no_declarators) rest) s u = ap (with_other (decl p specs no_declarators)) (params_list_again defining rest _ _)
params_list_again defining (more_decls (decl p specs (more_declarators (declarator stars x (arrays ls) i) no_declarators)) rest) s u =
    let a = type_param defining p specs stars x ls i s in
    let y = (type_param_list defining rest (step a.state)).params in
    chain (one_param x) (λ t. type_param_list defining y (step t.state)) (λ t. type_param_list defining rest (step t.state)) _ _ (param_again defining p specs stars x ls i s (param_lengths defining p stars x s (type_specs false specs unspelled s)) u) (λ t. params_list_again defining rest (step a.state) (step t.state))
params_list_again defining (more_decls (decl p specs (more_declarators (declarator stars x (arrays ls) i) (more_declarators e names))) rest) s u = ap (with_other (decl p specs (more_declarators (declarator stars x (arrays ls) i) (more_declarators e names)))) (params_list_again defining rest _ _)
params_list_again defining (more_decls (decl p specs (more_declarators (declarator stars x (function ps) i) names)) rest) s u = ap (with_other (decl p specs (more_declarators (declarator stars x (function ps) i) names))) (params_list_again defining rest _ _)

params_again : (defining : Bool) (ps : ParamsShape) (s u : State) → type_params defining (type_params defining ps s).params u ≡ type_params defining ps u
params_again defining empty s u = refl
params_again defining void s u = refl
params_again defining (params ds) s u = ap listed_params (params_list_again defining ds _ _)

same_function_type : (defining : Bool) (k : Option TypeOf) (stars : List Star) (x : Option Named) (qs ps : ParamsShape) (i : MaybeInit) (u : State) → ((v : State) → type_params defining qs v ≡ type_params defining ps v) → type_function defining k stars x qs i u ≡ type_function defining k stars x ps i u
same_function_type defining k stars x qs ps i u h = rw (h _) refl

pub function_again : (defining : Bool) (k : Option TypeOf) (stars : List Star) (x : Option Named) (ps : ParamsShape) (i : MaybeInit) (v u : State) → type_function defining k stars x (type_params defining ps v).params i u ≡ type_function defining k stars x ps i u
function_again defining k stars x ps i v u = same_function_type defining k stars x _ ps i u (λ z. params_again defining ps v z)

-- DECLARATORS

declarator_again : (k j : Option TypeOf) (d : DeclaratorShape) (s u : State) → type_declarator k (type_declarator j d s).name u ≡ type_declarator k d u
declarator_again k j (declarator stars x (arrays ls) i) s u =
    same_variable k stars x _ ls _ i u (has_again _ _ i _) (λ cs. with_again _ _ i _ cs) (λ v. lengths_again [] [] ls _ v) (λ c m v. maybe_again c _ m _ i _ v)
declarator_again k j (declarator stars x (function ps) i) s u = ap plain_declarator (same_function_type false k stars x _ ps i u (λ v. params_again false ps _ v))

abbrev one_name : TypedDeclarator → TypedDeclarators → TypedDeclarators
one_name t r = record { names = more_declarators t.name r.names; state = r.state }

names_again : (k j : Option TypeOf) (names : DeclaratorShapes) (s u : State) → type_declarators k (type_declarators j names s).names u ≡ type_declarators k names u
names_again k j no_declarators s u = refl
names_again k j (more_declarators d rest) s u =
    let e = step (type_declarator j d s).state in
    let y = (type_declarators j rest e).names in
    chain one_name (λ t. type_declarators k y (step t.state)) (λ t. type_declarators k rest (step t.state)) _ _ (declarator_again k j d s u) (λ t. names_again k j rest e (step t.state))

none_again : (k : Option TypeOf) (names : DeclaratorShapes) (s : State) → none_declared (type_declarators k names s).names ≡ none_declared names
none_again k no_declarators s = refl
none_again k (more_declarators d rest) s = refl

semicolon_again : (k : Option TypeOf) (names : DeclaratorShapes) (s : State) → semicolon (type_declarators k names s).names ≡ semicolon names
semicolon_again k no_declarators s = refl
semicolon_again k (more_declarators d rest) s = refl

abbrev decl_of : Pos → TypedSpecs → TypedDeclarators → TypedDecl
decl_of p t n = record { decl = decl p t.specs n.names; state = n.state }

abbrev at_names : Pos → State → ℕ → TypedSpecs → State
at_names p s n t = steps n (rule (spelled_rule t.spelled) s.at p t.state)

abbrev decl_with : Pos → Bool → ℕ → SpecShapes → DeclaratorShapes → State → TypedDecl
decl_with p b n specs names u =
    let t = type_specs b specs unspelled u in
    decl_of p t (type_declarators (kind_at (spelled_rule t.spelled)) names (at_names p u n t))

pub decl_again : (d : DeclShape) (s u : State) → type_decl (type_decl d s).decl u ≡ type_decl d u
decl_again (decl p specs names) s u =
    let b = none_declared names in
    let t = type_specs b specs unspelled s in
    let k = kind_at (spelled_rule t.spelled) in
    let v = at_names p s (semicolon names) t in
    let y = (type_declarators k names v).names in
    ap (λ c. decl_with p c (semicolon y) t.specs y u) (none_again k names v)
    ∙ ap (λ n. decl_with p b n t.specs y u) (semicolon_again k names v)
    ∙ chain (decl_of p) (λ r. type_declarators (kind_at (spelled_rule r.spelled)) y (at_names p u (semicolon names) r)) (λ r. type_declarators (kind_at (spelled_rule r.spelled)) names (at_names p u (semicolon names) r)) _ _ (specs_again b specs unspelled unspelled s u)
    (λ r. names_again (kind_at (spelled_rule r.spelled)) k names v (at_names p u (semicolon names) r))

abbrev one_decl : TypedDecl → TypedDeclList → TypedDeclList
one_decl t r = record { decls = more_decls t.decl r.decls; state = r.state }

pub decls_again : (ds : DeclShapes) (s u : State) → type_decls (type_decls ds s).decls u ≡ type_decls ds u
decls_again no_decls s u = refl
decls_again (more_decls d rest) s u =
    let e = (type_decl d s).state in
    let y = (type_decls rest e).decls in
    chain one_decl (λ t. type_decls y t.state) (λ t. type_decls rest t.state) _ _ (decl_again d s u) (λ t. decls_again rest e t.state)

-- STATEMENTS

maybe_node_again : (e : MaybeNode) (s u : State) → type_maybe (type_maybe e s).node u ≡ type_maybe e u
maybe_node_again no_node s u = refl
maybe_node_again (one_node a) s u = rw (node_again a s u) refl

test_again : (e : MaybeNode) (s u : State) → type_test (type_test e s).node u ≡ type_test e u
test_again no_node s u = refl
test_again (one_node a) s u = rw (node_again a s u) refl

result_again : (t r : ℕ) (p q : Pos) (k j : Option TypeOf) (e : MaybeNode) (s u : State) → type_result r q j (type_result t p k e s).node u ≡ type_result r q j e u
result_again t r p q k j no_node s u = refl
result_again t r p q k j (one_node a) s u = rw (node_again a s u) refl

abbrev case_behind : ℕ → ℕ → Pos → Pos → Option Labels → State → TypedNode → State
case_behind token first p q o s t = step (case_state token p o (constants.value t.sort.constant) (judged_constant first q t.sort t.state))

pub labels_again : (o w : Option Labels) (ls : List LabelShape) (s u : State) → type_labels w (type_labels o ls s).labels u ≡ type_labels w ls u
labels_again o w [] s u = refl
labels_again o w (case p a ∷ rest) s u =
    let t = type_node a (step s) in
    let e = case_behind s.at (step s).at p (pos_in a) o s t in
    let y = (type_labels (case_labels o (constants.value t.sort.constant)) rest e).labels in
    ap (λ q. one_label (case p (type_node t.node (step u)).node) (type_labels (case_labels w (constants.value (type_node t.node (step u)).sort.constant)) y (case_behind u.at (step u).at p q w u (type_node t.node (step u))))) (pos_again a (step s))
    ∙ chain (λ t r. one_label (case p t.node) r) (λ t. type_labels (case_labels w (constants.value t.sort.constant)) y (case_behind u.at (step u).at p (pos_in a) w u t)) (λ t. type_labels (case_labels w (constants.value t.sort.constant)) rest (case_behind u.at (step u).at p (pos_in a) w u t)) _ _ (node_again a (step s) (step u))
    (λ r. labels_again (case_labels o (constants.value t.sort.constant)) (case_labels w (constants.value r.sort.constant)) rest e _)
labels_again o w (default p ∷ rest) s u = ap (one_label (default p)) (labels_again (default_labels o) (default_labels w) rest _ _)

abbrev when_of : TypedNode → TypedStmt → TypedBody
when_of t v = record { form = when t.node v.stmt; state = v.state }

abbrev either_of : TypedNode → TypedStmt → TypedStmt → TypedBody
either_of t v w = record { form = either t.node v.stmt w.stmt; state = w.state }

abbrev while_of : TypedNode → TypedStmt → TypedBody
while_of t v = record { form = while t.node v.stmt; state = v.state }

abbrev do_of : TypedStmt → TypedNode → TypedBody
do_of v t = record { form = do_while v.stmt t.node; state = steps 2 (tested (steps 2 v.state).at t) }

abbrev for_of : TypedMaybe → TypedMaybe → TypedMaybe → TypedStmt → TypedBody
for_of t v w b = record { form = for t.node v.node w.node b.stmt; state = b.state }

abbrev switch_of : TypedNode → TypedItems → TypedBody
switch_of t v = record { form = switch t.node v.items; state = step v.state }

abbrev behind_switch : State → TypedNode → State
behind_switch u t = steps 2 (rule (switched t) (steps 2 u).at (pos_in t.node) t.state)

abbrev braces_of : Pos → TypedDeclList → TypedItems → TypedCompound
braces_of p d t = record { compound = braces p d.decls t.items; state = step t.state }

abbrev item_of : TypedLabels → TypedStmt → TypedItems → TypedItems
item_of l t r = record { items = more_items l.labels t.stmt r.items; state = r.state }

mutual
  pub stmt_again : (c e : Surroundings) (a : StmtShape) (s u : State) → type_stmt e (type_stmt c a s).stmt u ≡ type_stmt e a u
  stmt_again c e (stmt p marks q f) s u = ap (λ (t : TypedBody). record { stmt = stmt p marks q t.form; state = t.state }) (body_again c e q f _ (type_marks marks u))

  pub body_again : (c e : Surroundings) (p : Pos) (f : FormShape) (s u : State) → type_body e p (type_body c p f s).form u ≡ type_body e p f u
  body_again c e p (compound b) s u = ap (λ (t : TypedCompound). record { form = compound t.compound; state = closed_scope t.state }) (compound_again c e b (opened_scope s) (opened_scope u))
  body_again c e p (simply x) s u = ap (λ (t : TypedMaybe). record { form = simply t.node; state = step t.state }) (maybe_node_again x s u)
  body_again c e p (when x a) s u =
      let t = type_node x (steps 2 s) in
      let v = step (tested (steps 2 s).at t) in
      let y = (type_stmt c a v).stmt in
      chain when_of (λ r. type_stmt e y (step (tested (steps 2 u).at r))) (λ r. type_stmt e a (step (tested (steps 2 u).at r))) _ _ (node_again x (steps 2 s) (steps 2 u)) (λ r. stmt_again c e a v _)
  body_again c e p (either x a b) s u =
      let t = type_node x (steps 2 s) in
      let v = step (tested (steps 2 s).at t) in
      let y = (type_stmt c a v).stmt in
      let w = step (type_stmt c a v).state in
      let z = (type_stmt c b w).stmt in
      let r = type_node x (steps 2 u) in
      let q = type_stmt e a (step (tested (steps 2 u).at r)) in
      ap (λ t. either_of t (type_stmt e y (step (tested (steps 2 u).at t))) (type_stmt e z (step (type_stmt e y (step (tested (steps 2 u).at t))).state))) (node_again x (steps 2 s) (steps 2 u))
      ∙ ap (λ v. either_of r v (type_stmt e z (step v.state))) (stmt_again c e a v (step (tested (steps 2 u).at r)))
      ∙ ap (either_of r q) (stmt_again c e b w (step q.state))
  body_again c e p (while x a) s u =
      let t = type_node x (steps 2 s) in
      let v = step (tested (steps 2 s).at t) in
      let y = (type_stmt (in_loop c) a v).stmt in
      chain while_of (λ r. type_stmt (in_loop e) y (step (tested (steps 2 u).at r))) (λ r. type_stmt (in_loop e) a (step (tested (steps 2 u).at r))) _ _ (node_again x (steps 2 s) (steps 2 u)) (λ r. stmt_again (in_loop c) (in_loop e) a v _)
  body_again c e p (do_while a x) s u =
      let v = type_stmt (in_loop c) a (step s) in
      let y = (type_node x (steps 2 v.state)).node in
      chain do_of (λ r. type_node y (steps 2 r.state)) (λ r. type_node x (steps 2 r.state)) _ _ (stmt_again (in_loop c) (in_loop e) a (step s) (step u)) (λ r. node_again x (steps 2 v.state) _)
  body_again c e p (for x y z a) s u =
      let t = type_maybe x (steps 2 s) in
      let v = type_test y (step t.state) in
      let w = type_maybe z (step v.state) in
      let b = (type_stmt (in_loop c) a (step w.state)).stmt in
      let f = type_maybe x (steps 2 u) in
      let g = type_test y (step f.state) in
      let h = type_maybe z (step g.state) in
      ap (λ f. for_of f (type_test v.node (step f.state)) (type_maybe w.node (step (type_test v.node (step f.state)).state)) (type_stmt (in_loop e) b (step (type_maybe w.node (step (type_test v.node (step f.state)).state)).state))) (maybe_node_again x (steps 2 s) (steps 2 u))
      ∙ ap (λ g. for_of f g (type_maybe w.node (step g.state)) (type_stmt (in_loop e) b (step (type_maybe w.node (step g.state)).state))) (test_again y (step t.state) (step f.state))
      ∙ ap (λ h. for_of f g h (type_stmt (in_loop e) b (step h.state))) (maybe_node_again z (step v.state) (step g.state))
      ∙ ap (for_of f g h) (stmt_again (in_loop c) (in_loop e) a (step w.state) (step h.state))
  body_again c e p (switch x items) s u =
      let t = type_node x (steps 2 s) in
      let y = (type_items (in_switch c) (Some (no_labels (switched t))) items (behind_switch s t)).items in
      chain switch_of (λ r. type_items (in_switch e) (Some (no_labels (switched r))) y (behind_switch u r)) (λ r. type_items (in_switch e) (Some (no_labels (switched r))) items (behind_switch u r)) _ _ (node_again x (steps 2 s) (steps 2 u))
      (λ r. items_again (in_switch c) (in_switch e) (Some (no_labels (switched t))) (Some (no_labels (switched r))) items (behind_switch s t) (behind_switch u r))
  body_again c e p break s u = refl
  body_again c e p continue s u = refl
  body_again c e p (return x) s u = ap (λ (t : TypedMaybe). record { form = return t.node; state = step t.state }) (result_again s.at u.at p p c.result e.result x (step s) (step u))

  pub compound_again : (c e : Surroundings) (b : CompoundShape) (s u : State) → type_compound e (type_compound c b s).compound u ≡ type_compound e b u
  compound_again c e (braces p ds items) s u =
      let d = type_decls ds (step s) in
      let y = (type_items c None items d.state).items in
      chain (braces_of p) (λ r. type_items e None y r.state) (λ r. type_items e None items r.state) _ _ (decls_again ds (step s) (step u)) (λ r. items_again c e None None items d.state r.state)

  pub items_again : (c e : Surroundings) (o w : Option Labels) (items : ItemShapes) (s u : State) → type_items e w (type_items c o items s).items u ≡ type_items e w items u
  items_again c e o w no_items s u = refl
  items_again c e o w (more_items labels a rest) s u =
      let l = type_labels o labels s in
      let t = type_stmt c a l.state in
      let y = (type_items c l.so_far rest t.state).items in
      let m = type_labels w labels u in
      let v = type_stmt e a m.state in
      ap (λ m. item_of m (type_stmt e t.stmt m.state) (type_items e m.so_far y (type_stmt e t.stmt m.state).state)) (labels_again o w labels s u)
      ∙ ap (λ v. item_of m v (type_items e m.so_far y v.state)) (stmt_again c e a l.state m.state)
      ∙ ap (item_of m v) (items_again c e l.so_far m.so_far rest t.state v.state)

-- UNITS

abbrev defined_of : TypedSpecs → TypedFunction → List ProbeMark → TypedCompound → TypedExternal
defined_of t f marks b = record { external = defined t.specs f.name marks b.compound; state = ended_function b.state }

abbrev body_result : List Star → TypedSpecs → Option TypeOf
body_result stars t = kind_at (by wrong_type (result_type (pointed stars (kind_at (spelled_rule t.spelled)))))

abbrev surrounded : Option TypeOf → Surroundings
surrounded k = record { loop = false; breakable = false; result = k }

abbrev body_state : List ProbeMark → TypedFunction → State
body_state marks f = type_marks marks (begun_function f f.state)

abbrev params_in : DeclaratorShape → ParamsShape
params_in (declarator stars x (arrays ls) i) = empty
params_in (declarator stars x (function ps) i) = ps

-- specifiers begin where they did
specs_place_again : (specs : SpecShapes) (a : Spelled) (s : State) → specs_place (type_specs false specs a s).specs ≡ specs_place specs
specs_place_again no_specs a s = refl
specs_place_again (more_specs p (word k) rest) a s = refl
specs_place_again (more_specs p (struct t ds) rest) a s = refl
specs_place_again (more_specs p (enum t es) rest) a s = refl

abbrev at_declarator : Pos → State → TypedSpecs → State
at_declarator p s t = rule (spelled_rule t.spelled) s.at p t.state

abbrev external_with : Pos → SpecShapes → List Star → Option Named → ParamsShape → MaybeInit → List ProbeMark → CompoundShape → State → TypedExternal
external_with q specs stars x ps i marks c u =
    let r = type_specs false specs unspelled u in
    let g = type_function true (kind_at (spelled_rule r.spelled)) stars x ps i (at_declarator q u r) in
    defined_of r g marks (type_compound (surrounded (body_result stars r)) c (body_state marks g))

pub external_again : (x : ExternalShape) (s u : State) → type_external (type_external x s).external u ≡ type_external x u
external_again (declared d) s u = ap (λ (t : TypedDecl). record { external = declared t.decl; state = t.state }) (decl_again d s u)
external_again (defined specs (declarator stars x (arrays ls) i) marks c) s u = refl
external_again (defined specs (declarator stars x (function ps) i) marks c) s u =
    let t = type_specs false specs unspelled s in
    let q = specs_place specs in
    let f = type_function true (kind_at (spelled_rule t.spelled)) stars x ps i (at_declarator q s t) in
    let b = type_compound (surrounded (body_result stars t)) c (body_state marks f) in
    let r = type_specs false specs unspelled u in
    let g = type_function true (kind_at (spelled_rule r.spelled)) stars x ps i (at_declarator q u r) in
    ap (λ q. external_with q t.specs stars x (params_in f.name) i marks b.compound u) (specs_place_again specs unspelled s)
    ∙ ap (λ r. defined_of r (type_function true (kind_at (spelled_rule r.spelled)) stars x (params_in f.name) i (at_declarator q u r)) marks (type_compound (surrounded (body_result stars r)) b.compound (body_state marks (type_function true (kind_at (spelled_rule r.spelled)) stars x (params_in f.name) i (at_declarator q u r))))) (specs_again false specs unspelled unspelled s u)
    ∙ ap (λ g. defined_of r g marks (type_compound (surrounded (body_result stars r)) b.compound (body_state marks g))) (same_function_type true (kind_at (spelled_rule r.spelled)) stars x _ ps i (at_declarator q u r) (λ v. params_again true ps _ v))
    ∙ ap (defined_of r g marks) (compound_again (surrounded (body_result stars t)) (surrounded (body_result stars r)) c (body_state marks f) (body_state marks g))

abbrev one_external : TypedExternal → TypedExternals → TypedExternals
one_external t r = record { externals = t.external ∷ r.externals; state = r.state }

externals_again : (xs : List ExternalShape) (s u : State) → type_externals (type_externals xs s).externals u ≡ type_externals xs u
externals_again [] s u = refl
externals_again (x ∷ rest) s u =
    let e = (type_external x s).state in
    let y = (type_externals rest e).externals in
    chain one_external (λ t. type_externals y t.state) (λ t. type_externals rest t.state) _ _ (external_again x s u) (λ t. externals_again rest e t.state)

-- a unit that was typed, typed again
pub unit_again : (k j : Option (List Bool)) (u : UnitShape) → type_unit j (type_unit k u).unit ≡ type_unit j u
unit_again k j u = rw (externals_again u.externals (type_line u.line (start k)) (type_line u.line (start j))) refl
