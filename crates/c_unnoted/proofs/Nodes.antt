-- Expressions, and the types that they name, are typed alike without their notes.
use Rattle.std.proofs.Common.{◌≡◌, ℕ, ℤ, pos, List, [], ◌∷◌, ◌++◌, Option, Some, Bool, true, false, refl, ap, ◌∙◌}
use Rattle.c_base.specs.declared.place.Pos.{Pos}
use Rattle.c_base.specs.declared.place.IntKind.TheVariants.{Int}
use Rattle.c_syntax.specs.declared.tree.Named.{Named}
use Rattle.c_syntax.specs.declared.tree.Star.{Star}
use Rattle.c_syntax.specs.Shape.{TypeOf, int, block, test, used, def, number, char, str, name, unary, before, size_of, NodeShape, node, ExprShape, leaf, paren, call, prefix, size_of_type, cast, suffix, two, choose, probe, index, field, behind, simple, select, NodeShapes, no_nodes, more_nodes, MaybeNode, no_node, one_node, LengthShapes, no_lengths, more_lengths, TypeShape, type_name, SpecShapes, no_specs, more_specs, word, struct, enum, MaybeDecls, no_members, members, MaybeEnumers, no_rows, rows, EnumerShapes, no_enumers, more_enumers, decl, DeclShapes, no_decls, more_decls, declarator, DeclaratorShapes, no_declarators, more_declarators, MaybeInit, arrays, function}
use Rattle.c_constants.specs.Constants as constants
use Rattle.c_tables.specs.Tables.{FieldShape}
use Rattle.c_tables.specs.Rows.{text_of, name_pos}
use Rattle.c_tree.specs.declared.meaning.Side.{Side}
use Rattle.c_tree.specs.Complaints.{stray, wrong_type}
use Rattle.c_tree.specs.State.{State, steps, step, complain, demand, is_clean, field_type}
use Rattle.c_tree.specs.Rulings.{rule, kind_at}
use Rattle.c_tree.specs.Sorts.{Formed, formed, TypedNode, TypedType, noted, pos_in}
use Rattle.c_tree.specs.Operators.{Given, given_at, claim, called, typed_call, typed_paren, typed_unary, typed_step, heard, hushed, typed_size, typed_type_size, typed_cast, typed_index, typed_field, typed_infix, typed_choice, typed_probe, typed_select, left_of, right_of, sided, kept_side, entering}
use Rattle.c_tree.specs.Parts.{Length, length_of, left_out, judged_length, TypedNodes, one_more, TypedCases, one_case, judged_constant, TypedLengths, open_length, one_length, pointed, star_tokens, arrays_of, Spelled, unspelled, with_word, with_tagged, static_fits, spelled_rule, more_spec, TypedSpecs, TypedSpec, opened, begun_at, tag_tokens, closed, structure_kind, kind_if, within, outside, TypedDecls, TypedNames, is_free, with_field, field_state, TypedRows, Valued, given_value, entity_of, declare, after, enumeration}
use Rattle.c_tree.specs.Typing.{opening, type_node, type_form, type_arguments, type_cases, type_type, type_lengths, type_specs, type_struct, type_lines, type_fields, type_enum, rows_types, type_value}
use Rattle.c_tree.specs.Unnoted.{bare_node, bare_form, bare_nodes, bare_maybe, bare_lengths, bare_type, bare_specs, bare_members, bare_rows, bare_enumers, bare_decls, bare_name, bare_names, bare_maybe_init}
use Rattle.c_unnoted.specs.Written.{written_node, written_form, written_nodes, written_maybe, written_lengths, written_type, written_specs, written_spec, written_lines, written_fields, written_enumers}

-- ---- what is typed, with the notes that typing writes

abbrev pub written_typed : TypedNode → TypedNode
written_typed t = record { node = written_node t.node; sort = t.sort; state = t.state }

abbrev written_formed : Formed → Formed
written_formed f = record { form = written_form f.form; typing = f.typing; state = f.state }

abbrev written_arguments : TypedNodes → TypedNodes
written_arguments t = record { nodes = written_nodes t.nodes; given = t.given; state = t.state }

abbrev written_cases : TypedCases → TypedCases
written_cases t = record { nodes = written_nodes t.nodes; values = t.values; state = t.state }

abbrev pub written_counts : TypedLengths → TypedLengths
written_counts t = record { lengths = written_lengths t.lengths; counts = t.counts; state = t.state }

abbrev written_kind : TypedType → TypedType
written_kind t = record { type = written_type t.type; kind = t.kind; state = t.state }

abbrev pub written_spelled : TypedSpecs → TypedSpecs
written_spelled t = record { specs = written_specs t.specs; spelled = t.spelled; state = t.state }

abbrev written_tagged : TypedSpec → TypedSpec
written_tagged t = record { spec = written_spec t.spec; kind = t.kind; state = t.state }

abbrev written_line_list : TypedDecls → TypedDecls
written_line_list t = record { decls = written_lines t.decls; fields = t.fields; state = t.state }

abbrev written_field_list : TypedNames → TypedNames
written_field_list t = record { names = written_fields t.names; fields = t.fields; state = t.state }

abbrev written_list : TypedRows → TypedRows
written_list t = record { rows = written_enumers t.rows; state = t.state }

abbrev written_value : Valued → Valued
written_value v = record { node = written_maybe v.node; value = v.value; state = v.state }

-- ---- parts of what is typed, by what they are typed from

pub pos_same : (a : NodeShape) → pos_in (bare_node a) ≡ pos_in a
pos_same (node p o n f) = refl

-- where it stands, as far as a form looks through
side_same : (f : ExprShape) (d : Side) → kept_side (bare_form f) d ≡ kept_side f d
side_same (leaf l) d = refl
side_same (paren a) d = refl
side_same (call x args) d = refl
side_same (prefix u a) d = refl
side_same (size_of_type y) d = refl
side_same (cast y a) d = refl
side_same (suffix a u) d = refl
side_same (two u a b) d = refl
side_same (choose a b c) d = refl
side_same (probe (simple block x) a) d = refl
side_same (probe (simple test x) a) d = refl
side_same (probe (simple used x) a) d = refl
side_same (probe (simple def x) a) d = refl
side_same (probe (select x cs) a) d = refl

opening_same : (args : NodeShapes) → opening (bare_nodes args) ≡ opening args
opening_same no_nodes = refl
opening_same (more_nodes a rest) = refl

-- a structure with its list, begun in the last state
abbrev list_of : Option Named → State → State → Option ℕ → TypedDecls → TypedSpec
list_of y s begun m r = record {
  spec = struct y (members r.decls);
  kind = kind_if (is_clean s r.state) (structure_kind m);
  state = step (outside begun.file (closed m r.fields r.state));
}

abbrev line_end : Pos → SpecShapes → DeclaratorShapes → TypedDecls → TypedDecls
line_end p specs names l = record { decls = more_decls (decl p specs names) l.decls; fields = l.fields; state = l.state }

abbrev line_of : Pos → DeclShapes → SpecShapes → TypedNames → TypedDecls
line_of p rest specs n = line_end p specs n.names (type_lines (bare_decls rest) n.fields n.state)

abbrev member_end : List Star → Option Named → MaybeInit → LengthShapes → TypedNames → TypedNames
member_end stars x i ls n = record { names = more_declarators (declarator stars x (arrays ls) (bare_maybe_init i)) n.names; fields = n.fields; state = n.state }

-- a field of a member list, by its lengths
abbrev member_of : Pos → List Star → Option Named → MaybeInit → DeclaratorShapes → Option TypeOf → List FieldShape → ℕ → TypedLengths → TypedNames
member_of p stars x i rest k fields token l =
    let t = arrays_of l.counts (pointed stars k) in
    let free = is_free (field_type (text_of x) fields) in
    member_end stars x i l.lengths (type_fields p k (bare_names rest) (with_field free (text_of x) t fields) (step (field_state token (name_pos p x) free t l.state)))

-- an enumerator, by its value
abbrev row_end : Named → MaybeNode → TypedRows → TypedRows
row_end x v l = record { rows = more_enumers x v l.rows; state = l.state }

abbrev row_of : Named → ℕ → EnumerShapes → Valued → TypedRows
row_of x token rest r = row_end x r.node (rows_types (after r.value) (bare_enumers rest) (step (declare token x.pos x.text (entity_of r.value) r.state)))

-- ---- everything that holds expressions, and is held by them

mutual
  pub node_typed : (a : NodeShape) (s : State) → type_node (bare_node a) s ≡ written_typed (type_node a s)
  node_typed (node p o n f) s =
      ap (λ d. noted p o s (type_form p o (bare_form f) (sided d s))) (side_same f s.side)
      ∙ ap (noted p o s) (form_typed p o f (entering f s))

  form_typed : (p o : Pos) (f : ExprShape) (s : State) → type_form p o (bare_form f) s ≡ written_formed (type_form p o f s)
  form_typed p o (leaf (number t)) s = refl
  form_typed p o (leaf (char c)) s = refl
  form_typed p o (leaf (str t)) s = refl
  form_typed p o (leaf (name x)) s = refl
  form_typed p o (paren a) s = ap (λ t. formed (paren t.node) (typed_paren t.sort t.state)) (node_typed a (step s))
  form_typed p o (call x args) s =
      let c = called p x s in
      ap (λ n. let t = type_arguments [] (bare_nodes args) (steps n c.state) in formed (call x t.nodes) (typed_call p s.at (is_clean c.state t.state) c.function t.given t.state)) (opening_same args)
      ∙ ap (λ t. formed (call x t.nodes) (typed_call p s.at (is_clean c.state t.state) c.function t.given t.state)) (arguments_typed [] args (steps (opening args) c.state))
  form_typed p o (prefix (unary u) a) s =
      ap (λ q. let t = type_node (bare_node a) (step s) in formed (prefix (unary u) t.node) (typed_unary s.at o (step s).at q u t.sort t.state)) (pos_same a)
      ∙ ap (λ t. formed (prefix (unary u) t.node) (typed_unary s.at o (step s).at (pos_in a) u t.sort t.state)) (node_typed a (step s))
  form_typed p o (prefix (before u) a) s =
      ap (λ q. let t = type_node (bare_node a) (step s) in formed (prefix (before u) t.node) (typed_step s.at o (step s).at q t.sort t.state)) (pos_same a)
      ∙ ap (λ t. formed (prefix (before u) t.node) (typed_step s.at o (step s).at (pos_in a) t.sort t.state)) (node_typed a (step s))
  form_typed p o (prefix size_of a) s = ap (λ t. formed (prefix size_of t.node) (typed_size s.at o t.sort.kind (heard s.quiet t.state))) (node_typed a (hushed (step s)))
  form_typed p o (size_of_type y) s = ap (λ t. formed (size_of_type t.type) (typed_type_size s.at o t.kind t.state)) (type_typed y (steps 2 s))
  form_typed p o (cast y a) s =
      let k = type_type y (step s) in
      ap (λ j. let t = type_node (bare_node a) (step j.state) in formed (cast j.type t.node) (typed_cast s.at o j.kind t.sort t.state)) (type_typed y (step s))
      ∙ ap (λ t. formed (cast (written_type k.type) t.node) (typed_cast s.at o k.kind t.sort t.state)) (node_typed a (step k.state))
  form_typed p o (suffix a (index b)) s =
      let t = type_node a s in
      ap (λ x. let y = type_node (bare_node b) (step x.state) in formed (suffix x.node (index y.node)) (typed_index x.state.at o x.sort y.sort y.state)) (node_typed a s)
      ∙ ap (λ y. formed (suffix (written_node t.node) (index y.node)) (typed_index t.state.at o t.sort y.sort y.state)) (node_typed b (step t.state))
  form_typed p o (suffix a (field h x q)) s = ap (λ t. formed (suffix t.node (field h x q)) (typed_field t.state.at o h x q t.sort t.state)) (node_typed a s)
  form_typed p o (suffix a (behind u)) s =
      ap (λ q. let t = type_node (bare_node a) s in formed (suffix t.node (behind u)) (typed_step t.state.at o s.at q t.sort (step t.state))) (pos_same a)
      ∙ ap (λ t. formed (suffix t.node (behind u)) (typed_step t.state.at o s.at (pos_in a) t.sort (step t.state))) (node_typed a s)
  form_typed p o (two u a b) s =
      let l = sided (left_of u) s in
      let t = type_node a l in
      let r = sided (right_of u t.sort.kind) (step t.state) in
      ap (λ q. let x = type_node (bare_node a) l in let y = type_node (bare_node b) (sided (right_of u x.sort.kind) (step x.state)) in formed (two u x.node y.node) (typed_infix x.state.at o s.at q u x.sort y.sort y.state)) (pos_same a)
      ∙ (ap (λ x. let y = type_node (bare_node b) (sided (right_of u x.sort.kind) (step x.state)) in formed (two u x.node y.node) (typed_infix x.state.at o s.at (pos_in a) u x.sort y.sort y.state)) (node_typed a l)
      ∙ ap (λ y. formed (two u (written_node t.node) y.node) (typed_infix t.state.at o s.at (pos_in a) u t.sort y.sort y.state)) (node_typed b r))
  form_typed p o (choose a b c) s =
      let t = type_node a s in
      let v = type_node b (step t.state) in
      ap (λ x. let y = type_node (bare_node b) (step x.state) in let z = type_node (bare_node c) (step y.state) in formed (choose x.node y.node z.node) (typed_choice x.state.at o x.sort y.sort z.sort z.state)) (node_typed a s)
      ∙ (ap (λ y. let z = type_node (bare_node c) (step y.state) in formed (choose (written_node t.node) y.node z.node) (typed_choice t.state.at o t.sort y.sort z.sort z.state)) (node_typed b (step t.state))
      ∙ ap (λ z. formed (choose (written_node t.node) (written_node v.node) z.node) (typed_choice t.state.at o t.sort v.sort z.sort z.state)) (node_typed c (step v.state)))
  form_typed p o (probe (simple u x) a) s = ap (λ t. formed (probe (simple u x) t.node) (typed_probe s.at p u s.side t.sort t.state)) (node_typed a (steps 4 (claim u x s.at p s)))
  form_typed p o (probe (select x cs) a) s =
      let c = steps 3 (claim test x s.at p s) in
      let t = type_cases [] cs c in
      ap (λ y. let z = type_node (bare_node a) (step y.state) in formed (probe (select x y.nodes) z.node) (typed_select s.at p (is_clean c z.state) y.values z.sort z.state)) (cases_typed [] cs c)
      ∙ ap (λ z. formed (probe (select x (written_nodes t.nodes)) z.node) (typed_select s.at p (is_clean c z.state) t.values z.sort z.state)) (node_typed a (step t.state))

  arguments_typed : (gs : List Given) (args : NodeShapes) (s : State) → type_arguments gs (bare_nodes args) s ≡ written_arguments (type_arguments gs args s)
  arguments_typed gs no_nodes s = refl
  arguments_typed gs (more_nodes a rest) s =
      let t = type_node a (step s) in
      ap (λ q. let v = type_node (bare_node a) (step s) in one_more v (type_arguments (gs ++ given_at (step s).at q v.sort ∷ []) (bare_nodes rest) v.state)) (pos_same a)
      ∙ (ap (λ v. one_more v (type_arguments (gs ++ given_at (step s).at (pos_in a) v.sort ∷ []) (bare_nodes rest) v.state)) (node_typed a (step s))
      ∙ ap (one_more (written_typed t)) (arguments_typed (gs ++ given_at (step s).at (pos_in a) t.sort ∷ []) rest t.state))

  cases_typed : (vs : List (Option ℤ)) (cs : NodeShapes) (s : State) → type_cases vs (bare_nodes cs) s ≡ written_cases (type_cases vs cs s)
  cases_typed vs no_nodes s = refl
  cases_typed vs (more_nodes a rest) s =
      let t = type_node a (step s) in
      ap (λ q. let v = type_node (bare_node a) (step s) in one_case v (type_cases (vs ++ constants.value v.sort.constant ∷ []) (bare_nodes rest) (judged_constant (step s).at q v.sort v.state))) (pos_same a)
      ∙ (ap (λ v. one_case v (type_cases (vs ++ constants.value v.sort.constant ∷ []) (bare_nodes rest) (judged_constant (step s).at (pos_in a) v.sort v.state))) (node_typed a (step s))
      ∙ ap (one_case (written_typed t)) (cases_typed (vs ++ constants.value t.sort.constant ∷ []) rest (judged_constant (step s).at (pos_in a) t.sort t.state)))

  type_typed : (t : TypeShape) (s : State) → type_type (bare_type t) s ≡ written_kind (type_type t s)
  type_typed (type_name p specs stars ls) s =
      let t = type_specs false specs unspelled s in
      let r = spelled_rule t.spelled in
      ap (λ x. let y = type_lengths [] (bare_lengths ls) (steps (star_tokens stars) (rule (spelled_rule x.spelled) s.at p x.state)) in record { type = type_name p x.specs stars y.lengths; kind = arrays_of y.counts (pointed stars (kind_at (spelled_rule x.spelled))); state = y.state }) (specs_typed false specs unspelled s)
      ∙ ap (λ y. record { type = type_name p (written_specs t.specs) stars y.lengths; kind = arrays_of y.counts (pointed stars (kind_at r)); state = y.state }) (lengths_typed [] ls (steps (star_tokens stars) (rule r s.at p t.state)))

  pub lengths_typed : (cs : List Length) (ls : LengthShapes) (s : State) → type_lengths cs (bare_lengths ls) s ≡ written_counts (type_lengths cs ls s)
  lengths_typed cs no_lengths s = refl
  lengths_typed cs (more_lengths no_node rest) s = ap open_length (lengths_typed (cs ++ left_out ∷ []) rest (steps 2 s))
  lengths_typed cs (more_lengths (one_node a) rest) s =
      let t = type_node a (step s) in
      ap (λ q. let v = type_node (bare_node a) (step s) in one_length v (type_lengths (cs ++ length_of v.sort ∷ []) (bare_lengths rest) (step (judged_length (step s).at q v.sort v.state)))) (pos_same a)
      ∙ (ap (λ v. one_length v (type_lengths (cs ++ length_of v.sort ∷ []) (bare_lengths rest) (step (judged_length (step s).at (pos_in a) v.sort v.state)))) (node_typed a (step s))
      ∙ ap (one_length (written_typed t)) (lengths_typed (cs ++ length_of t.sort ∷ []) rest (step (judged_length (step s).at (pos_in a) t.sort t.state))))

  pub specs_typed : (alone : Bool) (specs : SpecShapes) (a : Spelled) (s : State) → type_specs alone (bare_specs specs) a s ≡ written_spelled (type_specs alone specs a s)
  specs_typed alone no_specs a s = refl
  specs_typed alone (more_specs p (word k) rest) a s = ap (more_spec p (word k)) (specs_typed alone rest (with_word k a) (step (demand (static_fits k s.file) stray s.at p s)))
  specs_typed alone (more_specs p (struct t ds) rest) a s =
      let r = type_struct alone t ds (step s) in
      ap (λ x. more_spec p x.spec (type_specs alone (bare_specs rest) (with_tagged x.kind a) x.state)) (struct_typed alone t ds (step s))
      ∙ ap (more_spec p (written_spec r.spec)) (specs_typed alone rest (with_tagged r.kind a) r.state)
  specs_typed alone (more_specs p (enum t es) rest) a s =
      let r = type_enum t es (step s) in
      ap (λ x. more_spec p x.spec (type_specs alone (bare_specs rest) (with_tagged x.kind a) x.state)) (enum_typed t es (step s))
      ∙ ap (more_spec p (written_spec r.spec)) (specs_typed alone rest (with_tagged r.kind a) r.state)

  struct_typed : (alone : Bool) (t : Option Named) (ds : MaybeDecls) (s : State) → type_struct alone t (bare_members ds) s ≡ written_tagged (type_struct alone t ds s)
  struct_typed alone t no_members s = refl
  struct_typed alone t (members ds) s =
      let o = opened alone true t s in
      let begun = step (steps (tag_tokens t) (begun_at o.number o.state)) in
      ap (list_of t s begun o.number) (lines_typed ds [] (within begun))

  lines_typed : (ds : DeclShapes) (fields : List FieldShape) (s : State) → type_lines (bare_decls ds) fields s ≡ written_line_list (type_lines ds fields s)
  lines_typed no_decls fields s = refl
  lines_typed (more_decls (decl p specs names) rest) fields s =
      let t = type_specs false specs unspelled s in
      let r = spelled_rule t.spelled in
      let u = rule r s.at p t.state in
      let n = type_fields p (kind_at r) names fields u in
      ap (λ x. line_of p rest x.specs (type_fields p (kind_at (spelled_rule x.spelled)) (bare_names names) fields (rule (spelled_rule x.spelled) s.at p x.state))) (specs_typed false specs unspelled s)
      ∙ (ap (line_of p rest (written_specs t.specs)) (fields_typed p (kind_at r) names fields u)
      ∙ ap (line_end p (written_specs t.specs) (written_fields n.names)) (lines_typed rest n.fields n.state))

  fields_typed : (p : Pos) (k : Option TypeOf) (names : DeclaratorShapes) (fields : List FieldShape) (s : State) → type_fields p k (bare_names names) fields s ≡ written_field_list (type_fields p k names fields s)
  fields_typed p k no_declarators fields s = refl
  fields_typed p k (more_declarators (declarator stars x (arrays ls) i) rest) fields s =
      let begun = steps (star_tokens stars) s in
      let l = type_lengths [] ls (step begun) in
      let t = arrays_of l.counts (pointed stars k) in
      let free = is_free (field_type (text_of x) fields) in
      ap (member_of p stars x i rest k fields begun.at) (lengths_typed [] ls (step begun))
      ∙ ap (member_end stars x i (written_lengths l.lengths)) (fields_typed p k rest (with_field free (text_of x) t fields) (step (field_state begun.at (name_pos p x) free t l.state)))
  fields_typed p k (more_declarators (declarator stars x (function ps) i) rest) fields s =
      let begun = steps (star_tokens stars) s in
      ap (λ n. record { names = more_declarators (bare_name (declarator stars x (function ps) i)) n.names; fields = n.fields; state = n.state }) (fields_typed p k rest fields (complain wrong_type begun.at (name_pos p x) (step begun)))

  enum_typed : (t : Option Named) (es : MaybeEnumers) (s : State) → type_enum t (bare_rows es) s ≡ written_tagged (type_enum t es s)
  enum_typed t no_rows s = refl
  enum_typed t (rows es) s =
      ap (λ x. record { spec = enum t (rows x.rows); kind = kind_if (is_clean s x.state) (Some (int Int)); state = x.state }) (rows_typed (Some (pos 0)) es (step (steps (tag_tokens t) (enumeration true t s))))

  rows_typed : (next : Option ℤ) (es : EnumerShapes) (s : State) → rows_types next (bare_enumers es) s ≡ written_list (rows_types next es s)
  rows_typed next no_enumers s = refl
  rows_typed next (more_enumers x v rest) s =
      let r = type_value s.at x.pos next v (step s) in
      ap (row_of x s.at rest) (value_typed s.at x.pos next v (step s))
      ∙ ap (row_end x (written_maybe r.node)) (rows_typed (after r.value) rest (step (declare s.at x.pos x.text (entity_of r.value) r.state)))

  value_typed : (token : ℕ) (p : Pos) (next : Option ℤ) (v : MaybeNode) (s : State) → type_value token p next (bare_maybe v) s ≡ written_value (type_value token p next v s)
  value_typed token p next no_node s = refl
  value_typed token p next (one_node a) s =
      ap (λ q. given_value (step s).at q (type_node (bare_node a) (step s))) (pos_same a)
      ∙ ap (given_value (step s).at (pos_in a)) (node_typed a (step s))
