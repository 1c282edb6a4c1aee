-- Typing reads no note, and leaves all else of a tree as it is: so a tree that was typed can be typed again, from whatever is known then,
-- and comes out as the tree itself would.
use Rattle.std.proofs.Common.{◌≡◌, ℕ, ℤ, pos, List, [], ◌∷◌, ◌++◌, Option, Some, None, Bool, true, false, refl, sym, ap, ◌∙◌, map}
use Rattle.c_base.specs.declared.place.Pos.{Pos}
use Rattle.c_syntax.specs.declared.tree.Named.{Named}
use Rattle.c_syntax.specs.declared.tree.Star.{Star}
use Rattle.c_syntax.specs.Shape.{TypeOf, int, block, test, used, def, Leaf, number, char, str, name, Prefix, unary, before, size_of, Infix, NodeShape, node, ExprShape, leaf, paren, call, prefix, size_of_type, cast, suffix, two, choose, probe, SuffixShape, index, field, behind, ProbeShape, simple, select, NodeShapes, no_nodes, more_nodes, MaybeNode, no_node, one_node, LengthShapes, no_lengths, more_lengths, TypeShape, type_name, SpecShapes, no_specs, more_specs, SpecShape, word, struct, enum, MaybeDecls, no_members, members, MaybeEnumers, no_rows, rows, EnumerShapes, no_enumers, more_enumers, DeclShape, decl, DeclShapes, no_decls, more_decls, DeclaratorShape, declarator, DeclaratorShapes, no_declarators, more_declarators, DeclFormShape, arrays, function, ParamsShape, MaybeInit}
use Rattle.c_constants.specs.Constants as constants
use Rattle.c_tables.specs.Tables.{FieldShape}
use Rattle.c_tree.specs.declared.meaning.Side.{Side}
use Rattle.c_tree.specs.State.{State, step, steps, complain, demand, is_clean}
use Rattle.c_tree.specs.Rulings.{rule, kind_at}
use Rattle.c_tree.specs.Sorts.{Formed, formed, TypedNode, TypedType, noted, pos_in}
use Rattle.c_tree.specs.Operators.{Given, given_at, claim, called, typed_call, typed_cast, typed_index, typed_infix, typed_choice, typed_select, left_of, right_of, sided, kept_side, entering}
use Rattle.c_tree.specs.Parts.{Length, length_of, left_out, judged_length, TypedLengths, one_length, open_length, judged_constant, TypedCases, one_case, TypedNodes, one_more, Spelled, unspelled, spelled_rule, with_tagged, more_spec, TypedSpecs, TypedSpec, TypedDecls, TypedNames, star_tokens, pointed, arrays_of, is_free, with_field, field_state, entity_of, declare, after, TypedRows, Valued, given_value, tag_tokens, enumeration, kind_if, opened, begun_at, within, outside, closed, structure_kind}
use Rattle.c_tables.specs.Rows.{text_of, name_pos}
use Rattle.c_tree.specs.State.{field_type}
use Rattle.c_tree.specs.Typing.{type_node, type_form, type_arguments, type_cases, type_type, type_lengths, type_specs, type_struct, type_lines, type_fields, type_enum, rows_types, type_value, opening}

-- two steps, the second of which goes on from what the first one found
pub chain : {A B C : Type 0} (k : A → B → C) (f g : A → B) (x y : A) → x ≡ y → ((z : A) → f z ≡ g z) → k x (f x) ≡ k y (g y)
chain k f g x y e h = ap (λ z. k z (f z)) e ∙ ap (k y) (h y)

pub pos_again : (a : NodeShape) (s : State) → pos_in (type_node a s).node ≡ pos_in a
pos_again (node p o n f) s = refl

opening_again : (gs : List Given) (args : NodeShapes) (s : State) → opening (type_arguments gs args s).nodes ≡ opening args
opening_again gs no_nodes s = refl
opening_again gs (more_nodes a rest) s = refl

-- an operator between two operands, the left of which begins at that place
abbrev between : Pos → State → Pos → Infix → TypedNode → TypedNode → Formed
between o s p u t v = formed (two u t.node v.node) (typed_infix t.state.at o s.at p u t.sort v.sort v.state)

-- where its right operand begins
abbrev behind_left : Infix → TypedNode → State
behind_left u t = sided (right_of u t.sort.kind) (step t.state)

abbrev chosen : Pos → TypedNode → TypedNode → TypedNode → Formed
chosen o t v w = formed (choose t.node v.node w.node) (typed_choice t.state.at o t.sort v.sort w.sort w.state)

struct_with : (alone : Bool) (t : Option Named) (x y : DeclShapes) (u : State) → ((v : State) → type_lines x [] v ≡ type_lines y [] v) → type_struct alone t (members x) u ≡ type_struct alone t (members y) u
struct_with alone t x y u h = rw (h _) refl

enum_with : (t : Option Named) (x y : EnumerShapes) (u : State) → ((v : State) → rows_types (Some (pos 0)) x v ≡ rows_types (Some (pos 0)) y v) → type_enum t (rows x) u ≡ type_enum t (rows y) u
enum_with t x y u h = rw (h _) refl

-- a line of a member list, by its specifiers, its fields and the lines behind it
abbrev line : Pos → TypedSpecs → TypedNames → TypedDecls → TypedDecls
line p t n l = record { decls = more_decls (decl p t.specs n.names) l.decls; fields = l.fields; state = l.state }

-- an array or a plain field, by its lengths and the fields behind it
abbrev member : List Star → Option Named → MaybeInit → TypedLengths → TypedNames → TypedNames
member stars x i l n = record { names = more_declarators (declarator stars x (arrays l.lengths) i) n.names; fields = n.fields; state = n.state }

abbrev enumerator : Named → Valued → TypedRows → TypedRows
enumerator x r l = record { rows = more_enumers x r.node l.rows; state = l.state }

-- where it stands, as far as a form that was typed looks through
side_again : (p o : Pos) (f : ExprShape) (s : State) (d : Side) → kept_side (type_form p o f s).form d ≡ kept_side f d
side_again p o (leaf (number t)) s d = refl
side_again p o (leaf (char c)) s d = refl
side_again p o (leaf (str t)) s d = refl
side_again p o (leaf (name x)) s d = refl
side_again p o (paren a) s d = refl
side_again p o (call x args) s d = refl
side_again p o (prefix (unary v) a) s d = refl
side_again p o (prefix (before v) a) s d = refl
side_again p o (prefix size_of a) s d = refl
side_again p o (size_of_type t) s d = refl
side_again p o (cast t a) s d = refl
side_again p o (suffix a (index b)) s d = refl
side_again p o (suffix a (field h x q)) s d = refl
side_again p o (suffix a (behind v)) s d = refl
side_again p o (two v a b) s d = refl
side_again p o (choose a b c) s d = refl
side_again p o (probe (simple block x) a) s d = refl
side_again p o (probe (simple test x) a) s d = refl
side_again p o (probe (simple used x) a) s d = refl
side_again p o (probe (simple def x) a) s d = refl
side_again p o (probe (select x cs) a) s d = refl

mutual
  pub node_again : (a : NodeShape) (s u : State) → type_node (type_node a s).node u ≡ type_node a u
  node_again (node p o n f) s u =
      ap (λ d. noted p o u (type_form p o (type_form p o f (entering f s)).form (sided d u))) (side_again p o f (entering f s) u.side)
      ∙ ap (noted p o u) (form_again p o f (entering f s) (entering f u))

  pub form_again : (p o : Pos) (f : ExprShape) (s u : State) → type_form p o (type_form p o f s).form u ≡ type_form p o f u
  form_again p o (leaf (number t)) s u = refl
  form_again p o (leaf (char c)) s u = refl
  form_again p o (leaf (str t)) s u = refl
  form_again p o (leaf (name x)) s u = refl
  form_again p o (paren a) s u = rw (node_again a _ (step u)) refl
  form_again p o (call x args) s u = rw (opening_again [] args _, arguments_again [] [] args _ _) refl
  form_again p o (prefix (unary v) a) s u = rw (pos_again a _, node_again a _ (step u)) refl
  form_again p o (prefix (before v) a) s u = rw (pos_again a _, node_again a _ (step u)) refl
  form_again p o (prefix size_of a) s u = rw (node_again a _ _) refl
  form_again p o (size_of_type t) s u = rw (type_again t _ _) refl
  form_again p o (cast t a) s u =
      let x = (type_node a (step (type_type t (step s)).state)).node in
      chain (λ k v. formed (cast k.type v.node) (typed_cast u.at o k.kind v.sort v.state)) (λ k. type_node x (step k.state)) (λ k. type_node a (step k.state)) _ _ (type_again t (step s) (step u)) (λ k. node_again a (step (type_type t (step s)).state) (step k.state))
  form_again p o (suffix a (index b)) s u =
      let x = (type_node b (step (type_node a s).state)).node in
      chain (λ t v. formed (suffix t.node (index v.node)) (typed_index t.state.at o t.sort v.sort v.state)) (λ t. type_node x (step t.state)) (λ t. type_node b (step t.state)) _ _ (node_again a s u) (λ t. node_again b (step (type_node a s).state) (step t.state))
  form_again p o (suffix a (field h x q)) s u = rw (node_again a _ u) refl
  form_again p o (suffix a (behind v)) s u = rw (pos_again a _, node_again a _ u) refl
  form_again p o (two v a b) s u =
      let w = behind_left v (type_node a (sided (left_of v) s)) in
      let x = (type_node b w).node in
      let y = (type_node a (sided (left_of v) s)).node in
      ap (λ q. between o u q v (type_node y (sided (left_of v) u)) (type_node x (behind_left v (type_node y (sided (left_of v) u))))) (pos_again a (sided (left_of v) s))
      ∙ chain (between o u (pos_in a) v) (λ t. type_node x (behind_left v t)) (λ t. type_node b (behind_left v t)) _ _ (node_again a (sided (left_of v) s) (sided (left_of v) u)) (λ t. node_again b w (behind_left v t))
  form_again p o (choose a b c) s u =
      let x = (type_node b (step (type_node a s).state)).node in
      let y = (type_node c (step (type_node b (step (type_node a s).state)).state)).node in
      chain (λ t r. r) (λ t. chosen o t (type_node x (step t.state)) (type_node y (step (type_node x (step t.state)).state))) (λ t. chosen o t (type_node b (step t.state)) (type_node c (step (type_node b (step t.state)).state))) _ _ (node_again a s u)
      (λ t. chain (chosen o t) (λ v. type_node y (step v.state)) (λ v. type_node c (step v.state)) _ _ (node_again b (step (type_node a s).state) (step t.state)) (λ v. node_again c (step (type_node b (step (type_node a s).state)).state) (step v.state)))
  form_again p o (probe (simple v x) a) s u = rw (node_again a _ _) refl
  form_again p o (probe (select x cs) a) s u =
      let w = step (type_cases [] cs (steps 3 (claim test x s.at p s))).state in
      let y = (type_node a w).node in
      chain (λ t v. formed (probe (select x t.nodes) v.node) (typed_select u.at p (is_clean (steps 3 (claim test x u.at p u)) v.state) t.values v.sort v.state)) (λ t. type_node y (step t.state)) (λ t. type_node a (step t.state)) _ _ (cases_again [] [] cs _ _) (λ t. node_again a w (step t.state))

  pub arguments_again : (gs hs : List Given) (args : NodeShapes) (s u : State) → type_arguments hs (type_arguments gs args s).nodes u ≡ type_arguments hs args u
  arguments_again gs hs no_nodes s u = refl
  arguments_again gs hs (more_nodes a rest) s u =
      let x = (type_node a (step s)).node in
      let y = (type_arguments (gs ++ given_at (step s).at (pos_in a) (type_node a (step s)).sort ∷ []) rest (type_node a (step s)).state).nodes in
      ap (λ q. one_more (type_node x (step u)) (type_arguments (hs ++ given_at (step u).at q (type_node x (step u)).sort ∷ []) y (type_node x (step u)).state)) (pos_again a _)
      ∙ chain one_more (λ t. type_arguments (hs ++ given_at (step u).at (pos_in a) t.sort ∷ []) y t.state) (λ t. type_arguments (hs ++ given_at (step u).at (pos_in a) t.sort ∷ []) rest t.state) _ _ (node_again a _ (step u)) (λ t. arguments_again _ _ rest _ _)

  pub cases_again : (vs ws : List (Option ℤ)) (cs : NodeShapes) (s u : State) → type_cases ws (type_cases vs cs s).nodes u ≡ type_cases ws cs u
  cases_again vs ws no_nodes s u = refl
  cases_again vs ws (more_nodes a rest) s u =
      let x = (type_node a (step s)).node in
      let y = (type_cases (vs ++ constants.value (type_node a (step s)).sort.constant ∷ []) rest (judged_constant (step s).at (pos_in a) (type_node a (step s)).sort (type_node a (step s)).state)).nodes in
      ap (λ q. one_case (type_node x (step u)) (type_cases (ws ++ constants.value (type_node x (step u)).sort.constant ∷ []) y (judged_constant (step u).at q (type_node x (step u)).sort (type_node x (step u)).state))) (pos_again a _)
      ∙ chain one_case (λ t. type_cases (ws ++ constants.value t.sort.constant ∷ []) y (judged_constant (step u).at (pos_in a) t.sort t.state)) (λ t. type_cases (ws ++ constants.value t.sort.constant ∷ []) rest (judged_constant (step u).at (pos_in a) t.sort t.state)) _ _ (node_again a _ (step u)) (λ t. cases_again _ _ rest _ _)

  pub type_again : (t : TypeShape) (s u : State) → type_type (type_type t s).type u ≡ type_type t u
  type_again (type_name p specs stars ls) s u =
      let w = steps (star_tokens stars) (rule (spelled_rule (type_specs false specs unspelled s).spelled) s.at p (type_specs false specs unspelled s).state) in
      let y = (type_lengths [] ls w).lengths in
      chain (λ t l. record { type = type_name p t.specs stars l.lengths; kind = arrays_of l.counts (pointed stars (kind_at (spelled_rule t.spelled))); state = l.state })
      (λ t. type_lengths [] y (steps (star_tokens stars) (rule (spelled_rule t.spelled) u.at p t.state)))
      (λ t. type_lengths [] ls (steps (star_tokens stars) (rule (spelled_rule t.spelled) u.at p t.state))) _ _ (specs_again false specs unspelled unspelled s u) (λ t. lengths_again [] [] ls w _)

  pub lengths_again : (cs ds : List Length) (ls : LengthShapes) (s u : State) → type_lengths ds (type_lengths cs ls s).lengths u ≡ type_lengths ds ls u
  lengths_again cs ds no_lengths s u = refl
  lengths_again cs ds (more_lengths no_node rest) s u = ap open_length (lengths_again _ _ rest _ _)
  lengths_again cs ds (more_lengths (one_node a) rest) s u =
      let x = (type_node a (step s)).node in
      let y = (type_lengths (cs ++ length_of (type_node a (step s)).sort ∷ []) rest (step (judged_length (step s).at (pos_in a) (type_node a (step s)).sort (type_node a (step s)).state))).lengths in
      ap (λ q. one_length (type_node x (step u)) (type_lengths (ds ++ length_of (type_node x (step u)).sort ∷ []) y (step (judged_length (step u).at q (type_node x (step u)).sort (type_node x (step u)).state)))) (pos_again a _)
      ∙ chain one_length (λ t. type_lengths (ds ++ length_of t.sort ∷ []) y (step (judged_length (step u).at (pos_in a) t.sort t.state))) (λ t. type_lengths (ds ++ length_of t.sort ∷ []) rest (step (judged_length (step u).at (pos_in a) t.sort t.state))) _ _ (node_again a _ (step u)) (λ t. lengths_again _ _ rest _ _)

  pub specs_again : (alone : Bool) (specs : SpecShapes) (a b : Spelled) (s u : State) → type_specs alone (type_specs alone specs a s).specs b u ≡ type_specs alone specs b u
  specs_again alone no_specs a b s u = refl
  specs_again alone (more_specs p (word k) rest) a b s u = ap (more_spec p (word k)) (specs_again alone rest _ _ _ _)
  specs_again alone (more_specs p (struct t no_members) rest) a b s u = ap (more_spec p (struct t no_members)) (specs_again alone rest _ _ _ _)
  specs_again alone (more_specs p (struct t (members ds)) rest) a b s u =
      let w = type_struct alone t (members ds) (step s) in
      let y = (type_specs alone rest (with_tagged w.kind a) w.state).specs in
      let begun = step (steps (tag_tokens t) (begun_at (opened alone true t (step s)).number (opened alone true t (step s)).state)) in
      let x = (type_lines ds [] (within begun)).decls in
      chain (λ r q. more_spec p r.spec q) (λ r. type_specs alone y (with_tagged r.kind b) r.state) (λ r. type_specs alone rest (with_tagged r.kind b) r.state) _ _ (struct_with alone t x ds (step u) (λ v. lines_again ds [] [] (within begun) v)) (λ r. specs_again alone rest (with_tagged w.kind a) (with_tagged r.kind b) w.state r.state)
  specs_again alone (more_specs p (enum t no_rows) rest) a b s u = ap (more_spec p (enum t no_rows)) (specs_again alone rest _ _ _ _)
  specs_again alone (more_specs p (enum t (rows es)) rest) a b s u =
      let w = type_enum t (rows es) (step s) in
      let y = (type_specs alone rest (with_tagged w.kind a) w.state).specs in
      let begun = step (steps (tag_tokens t) (enumeration true t (step s))) in
      let x = (rows_types (Some (pos 0)) es begun).rows in
      chain (λ r q. more_spec p r.spec q) (λ r. type_specs alone y (with_tagged r.kind b) r.state) (λ r. type_specs alone rest (with_tagged r.kind b) r.state) _ _ (enum_with t x es (step u) (λ v. rows_again (Some (pos 0)) (Some (pos 0)) es begun v)) (λ r. specs_again alone rest (with_tagged w.kind a) (with_tagged r.kind b) w.state r.state)

  pub lines_again : (ds : DeclShapes) (fields others : List FieldShape) (s u : State) → type_lines (type_lines ds fields s).decls others u ≡ type_lines ds others u
  lines_again no_decls fields others s u = refl
  lines_again (more_decls (decl p specs names) rest) fields others s u =
      let t = type_specs false specs unspelled s in
      let n = type_fields p (kind_at (spelled_rule t.spelled)) names fields (rule (spelled_rule t.spelled) s.at p t.state) in
      let x = n.names in
      let y = (type_lines rest n.fields n.state).decls in
      chain (λ t r. r) (λ t. line p t (type_fields p (kind_at (spelled_rule t.spelled)) x others (rule (spelled_rule t.spelled) u.at p t.state)) (type_lines y (type_fields p (kind_at (spelled_rule t.spelled)) x others (rule (spelled_rule t.spelled) u.at p t.state)).fields (type_fields p (kind_at (spelled_rule t.spelled)) x others (rule (spelled_rule t.spelled) u.at p t.state)).state))
      (λ t. line p t (type_fields p (kind_at (spelled_rule t.spelled)) names others (rule (spelled_rule t.spelled) u.at p t.state)) (type_lines rest (type_fields p (kind_at (spelled_rule t.spelled)) names others (rule (spelled_rule t.spelled) u.at p t.state)).fields (type_fields p (kind_at (spelled_rule t.spelled)) names others (rule (spelled_rule t.spelled) u.at p t.state)).state)) _ _ (specs_again false specs unspelled unspelled s u)
      (λ t. chain (line p t) (λ n. type_lines y n.fields n.state) (λ n. type_lines rest n.fields n.state) _ _ (fields_again p (kind_at (spelled_rule (type_specs false specs unspelled s).spelled)) (kind_at (spelled_rule t.spelled)) names fields others (rule (spelled_rule (type_specs false specs unspelled s).spelled) s.at p (type_specs false specs unspelled s).state) (rule (spelled_rule t.spelled) u.at p t.state)) (λ r. lines_again rest n.fields r.fields n.state r.state))

  pub fields_again : (p : Pos) (k j : Option TypeOf) (names : DeclaratorShapes) (fields others : List FieldShape) (s u : State) → type_fields p j (type_fields p k names fields s).names others u ≡ type_fields p j names others u
  fields_again p k j no_declarators fields others s u = refl
  fields_again p k j (more_declarators (declarator stars x (arrays ls) i) rest) fields others s u =
      let m = type_lengths [] ls (step (steps (star_tokens stars) s)) in
      let free = is_free (field_type (text_of x) fields) in
      let e = arrays_of m.counts (pointed stars k) in
      let w = step (field_state (steps (star_tokens stars) s).at (name_pos p x) free e m.state) in
      let y = (type_fields p k rest (with_field free (text_of x) e fields) w).names in
      chain (member stars x i)
      (λ l. type_fields p j y (with_field (is_free (field_type (text_of x) others)) (text_of x) (arrays_of l.counts (pointed stars j)) others) (step (field_state (steps (star_tokens stars) u).at (name_pos p x) (is_free (field_type (text_of x) others)) (arrays_of l.counts (pointed stars j)) l.state)))
      (λ l. type_fields p j rest (with_field (is_free (field_type (text_of x) others)) (text_of x) (arrays_of l.counts (pointed stars j)) others) (step (field_state (steps (star_tokens stars) u).at (name_pos p x) (is_free (field_type (text_of x) others)) (arrays_of l.counts (pointed stars j)) l.state))) _ _ (lengths_again [] [] ls _ (step (steps (star_tokens stars) u))) (λ l. fields_again p k j rest (with_field free (text_of x) e fields) _ w _)
  fields_again p k j (more_declarators (declarator stars x (function ps) i) rest) fields others s u = rw (fields_again p k j rest fields others _ _) refl

  pub rows_again : (v w : Option ℤ) (es : EnumerShapes) (s u : State) → rows_types w (rows_types v es s).rows u ≡ rows_types w es u
  rows_again v w no_enumers s u = refl
  rows_again v w (more_enumers x no_node rest) s u = rw (rows_again _ _ rest _ _) refl
  rows_again v w (more_enumers x (one_node a) rest) s u =
      let b = (type_node a (step (step s))).node in
      let r = given_value (step (step s)).at (pos_in a) (type_node a (step (step s))) in
      let y = (rows_types (after r.value) rest (step (declare s.at x.pos x.text (entity_of r.value) r.state))).rows in
      ap (λ q. enumerator x (given_value (step (step u)).at q (type_node b (step (step u)))) (rows_types (after (given_value (step (step u)).at q (type_node b (step (step u)))).value) y (step (declare u.at x.pos x.text (entity_of (given_value (step (step u)).at q (type_node b (step (step u)))).value) (given_value (step (step u)).at q (type_node b (step (step u)))).state)))) (pos_again a _)
      ∙ chain (λ t l. enumerator x (given_value (step (step u)).at (pos_in a) t) l) (λ t. rows_types (after (given_value (step (step u)).at (pos_in a) t).value) y (step (declare u.at x.pos x.text (entity_of (given_value (step (step u)).at (pos_in a) t).value) (given_value (step (step u)).at (pos_in a) t).state))) (λ t. rows_types (after (given_value (step (step u)).at (pos_in a) t).value) rest (step (declare u.at x.pos x.text (entity_of (given_value (step (step u)).at (pos_in a) t).value) (given_value (step (step u)).at (pos_in a) t).state))) _ _ (node_again a _ (step (step u))) (λ t. rows_again _ _ rest _ _)
