-- Expressions, and the types that they name, are typed alike in the first pass, where nothing is complained of.
use Rattle.std.proofs.Common.{◌≡◌, ℕ, ℤ, pos, List, [], ◌∷◌, ◌++◌, Option, Some, None, Bool, true, false, not, if◌then◌else◌, refl, ap, ◌∙◌}
use Rattle.c_base.specs.declared.place.Pos.{Pos}
use Rattle.c_base.specs.declared.place.IntKind.TheVariants.{Int}
use Rattle.c_syntax.specs.declared.text.Text.{Text}
use Rattle.c_syntax.specs.declared.tree.Named.{Named}
use Rattle.c_syntax.specs.declared.tree.Star.{Star}
use Rattle.c_syntax.specs.Shape.{TypeOf, int, test, number, char, str, name, unary, before, size_of, NodeShape, node, ExprShape, leaf, paren, call, prefix, size_of_type, cast, suffix, two, choose, probe, index, field, behind, simple, select, NodeShapes, no_nodes, more_nodes, MaybeNode, no_node, one_node, LengthShapes, no_lengths, more_lengths, TypeShape, type_name, SpecShapes, no_specs, more_specs, word, struct, enum, MaybeDecls, no_members, members, MaybeEnumers, no_rows, rows, EnumerShapes, no_enumers, more_enumers, decl, DeclShapes, no_decls, more_decls, declarator, DeclaratorShape, DeclaratorShapes, no_declarators, more_declarators, MaybeInit, arrays, function}
use Rattle.c_constants.specs.Constants as constants
use Rattle.c_type_rules.specs.Verdicts.{cast_type}
use Rattle.c_scopes.specs.Scoping.{find, find_here}
use Rattle.c_tables.specs.Tables.{FieldShape}
use Rattle.c_tables.specs.Rows.{row, text_of, name_pos}
use Rattle.c_tree.specs.declared.meaning.Entity.{Entity}
use Rattle.c_tree.specs.declared.meaning.Tag.{Tag}
use Rattle.c_tree.specs.declared.meaning.Tag.TheVariants as tag
use Rattle.c_tree.specs.Complaints.{declared_twice, not_constant, stray, wrong_type}
use Rattle.c_tree.specs.State.{State, steps, step, complain, demand, is_clean, is_set, field_type}
use Rattle.c_tree.specs.Rulings.{by, rule, kind_at, of_kind, whole, sized}
use Rattle.c_tree.specs.Sorts.{Formed, formed, TypedNode, TypedType, noted, pos_in, changeable}
use Rattle.c_tree.specs.Operators.{Called, Given, given_at, claim, called, typed_call, typed_paren, typed_unary, typed_step, heard, hushed, typed_size, typed_type_size, typed_cast, typed_index, typed_field, typed_infix, typed_choice, typed_probe, typed_select, constant_rule, place_rule, unary_rule, step_rule, choice_rule, element_rule, holder, field_rule, probe_rule, select_rule, left_of, right_of, sided, entering}
use Rattle.c_tree.specs.Parts.{Length, length_of, left_out, length_rule, judged_length, TypedNodes, one_more, TypedCases, one_case, judged_constant, TypedLengths, open_length, one_length, pointed, star_tokens, arrays_of, Spelled, unspelled, with_word, with_tagged, static_fits, spelled_rule, more_spec, TypedSpecs, TypedSpec, Opened, opened, known_structure, listed_structure, begun_at, tag_tokens, closed, structure_kind, kind_if, within, outside, TypedDecls, TypedNames, is_free, with_field, field_state, TypedRows, Valued, value_rule, passes, only_int, entity_of, declared_at, declare, after, known_enumeration, listed_enumeration, enumeration}
use Rattle.c_tree.specs.Typing.{opening, type_node, type_form, type_arguments, type_cases, type_type, type_lengths, type_specs, type_struct, type_lines, type_fields, type_enum, rows_types, type_value}
use Rattle.c_tree.proofs.Grows.{◌▸◌, rule_grows, typed_call_grows, infix_grows, closed_grows, field_grows, declared_grows, node_grows, arguments_grows, cases_grow, lengths_grow, specs_grow, lines_grow, fields_grow, rows_grow}
use Rattle.probe_passes.specs.Passes.{first_pass}
use Rattle.probe_passes.proofs.Rules.{IsClean, ruled, demanded, numbered, stringed, name_typed, name_called, call_typed, unary_typed, step_typed, size_typed, type_size_typed, cast_typed, infix_typed, choice_typed, index_typed, field_typed, number_taken, probe_typed, select_typed}

-- ---- what is typed, in the first pass

abbrev pub first_typed : TypedNode → TypedNode
first_typed t = record t { state = first_pass t.state }

abbrev pub first_formed : Formed → Formed
first_formed f = record f { state = first_pass f.state }

abbrev pub first_arguments : TypedNodes → TypedNodes
first_arguments t = record t { state = first_pass t.state }

abbrev pub first_cases : TypedCases → TypedCases
first_cases t = record t { state = first_pass t.state }

abbrev pub first_counts : TypedLengths → TypedLengths
first_counts t = record t { state = first_pass t.state }

abbrev pub first_kind : TypedType → TypedType
first_kind t = record t { state = first_pass t.state }

abbrev pub first_spelled : TypedSpecs → TypedSpecs
first_spelled t = record t { state = first_pass t.state }

abbrev pub first_tagged : TypedSpec → TypedSpec
first_tagged t = record t { state = first_pass t.state }

abbrev pub first_lines : TypedDecls → TypedDecls
first_lines t = record t { state = first_pass t.state }

abbrev pub first_fields : TypedNames → TypedNames
first_fields t = record t { state = first_pass t.state }

abbrev pub first_list : TypedRows → TypedRows
first_list t = record t { state = first_pass t.state }

abbrev pub first_value : Valued → Valued
first_value v = record v { state = first_pass v.state }

abbrev pub first_opened : Opened → Opened
first_opened o = record o { state = first_pass o.state }

-- ---- tags, fields and enumerators

known_opened : (p : Pos) (x : Text) (t : Option Tag) (s : State) → known_structure p x t (first_pass s) ≡ first_opened (known_structure p x t s)
known_opened p x None s = refl
known_opened p x (Some (tag.Structure n)) s = refl
known_opened p x (Some tag.Enumeration) s = refl

listed_or : (b : Bool) (p : Pos) (n : ℕ) (s : State) → (if b then record { number = None; state = complain declared_twice s.at p (first_pass s) } else record { number = Some n; state = first_pass s }) ≡ first_opened (if b then record { number = None; state = complain declared_twice s.at p s } else record { number = Some n; state = s })
listed_or true p n s = refl
listed_or false p n s = refl

listed_opened : (p : Pos) (x : Text) (t : Option Tag) (s : State) → listed_structure p x t (first_pass s) ≡ first_opened (listed_structure p x t s)
listed_opened p x None s = refl
listed_opened p x (Some (tag.Structure n)) s = listed_or (is_set (row s.begun n)) p n s
listed_opened p x (Some tag.Enumeration) s = refl

tag_opened : (alone listed : Bool) (t : Option Named) (s : State) → opened alone listed t (first_pass s) ≡ first_opened (opened alone listed t s)
tag_opened alone true None s = refl
tag_opened alone true (Some x) s = listed_opened x.pos x.text (find_here x.text s.tags) s
tag_opened alone false None s = refl
tag_opened alone false (Some x) s = known_opened x.pos x.text (if alone then find_here x.text s.tags else find x.text s.tags) s

list_begun : (n : Option ℕ) (s : State) → begun_at n (first_pass s) ≡ first_pass (begun_at n s)
list_begun None s = refl
list_begun (Some n) s = refl

list_closed : (n : Option ℕ) (fields : List FieldShape) (s : State) → closed n fields (first_pass s) ≡ first_pass (closed n fields s)
list_closed None fields s = refl
list_closed (Some n) fields s = refl

enumeration_known : (p : Pos) (t : Option Tag) (s : State) → known_enumeration p t (first_pass s) ≡ first_pass (known_enumeration p t s)
enumeration_known p (Some tag.Enumeration) s = refl
enumeration_known p (Some (tag.Structure n)) s = refl
enumeration_known p None s = refl

enumeration_listed : (p : Pos) (x : Text) (t : Option Tag) (s : State) → listed_enumeration p x t (first_pass s) ≡ first_pass (listed_enumeration p x t s)
enumeration_listed p x None s = refl
enumeration_listed p x (Some t) s = refl

tag_enumerated : (listed : Bool) (t : Option Named) (s : State) → enumeration listed t (first_pass s) ≡ first_pass (enumeration listed t s)
tag_enumerated true None s = refl
tag_enumerated false None s = refl
tag_enumerated true (Some x) s = enumeration_listed x.pos x.text (find_here x.text s.tags) s
tag_enumerated false (Some x) s = enumeration_known x.pos (find x.text s.tags) s

name_declared : (token : ℕ) (p : Pos) (x : Text) (e : Entity) (s : State) → declare token p x e (first_pass s) ≡ first_pass (declare token p x e s)
name_declared token p x e s = at_it (find_here x s.names)
  where
    at_it : (o : Option Entity) → declared_at token p x e o (first_pass s) ≡ first_pass (declared_at token p x e o s)
    at_it None = refl
    at_it (Some other) = refl

field_judged : (token : ℕ) (p : Pos) (free : Bool) (k : Option TypeOf) (s : State) → field_state token p free k (first_pass s) ≡ first_pass (field_state token p free k s)
field_judged token p free k s =
    let r = of_kind k (whole s.rooms) in
    ap (rule r token p) (demanded free declared_twice token p s) ∙ ruled r token p (demand free declared_twice token p s)

-- ---- parts of what is typed, by what they are typed from

-- a call, by what is known of its name
abbrev called_with : Pos → NodeShapes → Text → ℕ → Called → Formed
called_with p args x token c =
    let t = type_arguments [] args (steps (opening args) c.state) in
    formed (call x t.nodes) (typed_call p token (is_clean c.state t.state) c.function t.given t.state)

-- a type, by its specifiers, and behind its stars
abbrev type_with : Pos → List Star → LengthShapes → TypedSpecs → State → TypedType
type_with p stars ls t u =
    let l = type_lengths [] ls (steps (star_tokens stars) u) in
    record { type = type_name p t.specs stars l.lengths; kind = arrays_of l.counts (pointed stars (kind_at (spelled_rule t.spelled))); state = l.state }

-- a structure with its list, begun in the last state; and at the end of its list
abbrev list_end : Option Named → State → Bool → Option ℕ → TypedDecls → TypedSpec
list_end t s file m r = record {
  spec = struct t (members r.decls);
  kind = kind_if (is_clean s r.state) (structure_kind m);
  state = step (outside file (closed m r.fields r.state));
}

abbrev list_of : Option Named → DeclShapes → State → Option ℕ → State → TypedSpec
list_of t ds s m u =
    let begun = step (steps (tag_tokens t) u) in
    list_end t s begun.file m (type_lines ds [] (within begun))

abbrev line_of : Pos → DeclShapes → SpecShapes → TypedNames → TypedDecls
line_of p rest specs n =
    let l = type_lines rest n.fields n.state in
    record { decls = more_decls (decl p specs n.names) l.decls; fields = l.fields; state = l.state }

-- a field of a member list, at its end and by its lengths
abbrev field_end : DeclaratorShape → TypedNames → TypedNames
field_end d n = record { names = more_declarators d n.names; fields = n.fields; state = n.state }

abbrev field_with : Pos → List Star → Option Named → MaybeInit → DeclaratorShapes → Option TypeOf → List FieldShape → ℕ → TypedLengths → TypedNames
field_with p stars x i rest k fields token l =
    let t = arrays_of l.counts (pointed stars k) in
    let free = is_free (field_type (text_of x) fields) in
    field_end (declarator stars x (arrays l.lengths) i) (type_fields p k rest (with_field free (text_of x) t fields) (step (field_state token (name_pos p x) free t l.state)))

-- an enumeration with its list
abbrev enum_end : Option Named → State → TypedRows → TypedSpec
enum_end t s r = record { spec = enum t (rows r.rows); kind = kind_if (is_clean s r.state) (Some (int Int)); state = r.state }

-- an enumerator, by its value
abbrev row_end : Named → MaybeNode → TypedRows → TypedRows
row_end x v l = record { rows = more_enumers x v l.rows; state = l.state }

abbrev row_of : Named → ℕ → EnumerShapes → Valued → TypedRows
row_of x token rest r = row_end x r.node (rows_types (after r.value) rest (step (declare token x.pos x.text (entity_of r.value) r.state)))

-- ---- everything that holds expressions, and is held by them

mutual
  pub node_typed : (a : NodeShape) (s : State) → IsClean (type_node a s).state → type_node a (first_pass s) ≡ first_typed (type_node a s)
  node_typed (node p o n f) s c = ap (noted p o (first_pass s)) (form_typed p o f (entering f s) c)

  form_typed : (p o : Pos) (f : ExprShape) (s : State) → IsClean (type_form p o f s).state → type_form p o f (first_pass s) ≡ first_formed (type_form p o f s)
  form_typed p o (leaf (number t)) s c = ap (formed (leaf (number t))) (numbered p t s)
  form_typed p o (leaf (char x)) s c = refl
  form_typed p o (leaf (str t)) s c = ap (formed (leaf (str t))) (stringed p t s)
  form_typed p o (leaf (name x)) s c = ap (formed (leaf (name x))) (name_typed p x s)
  form_typed p o (paren a) s c = ap (λ t. formed (paren t.node) (typed_paren t.sort t.state)) (node_typed a (step s) c)
  form_typed p o (call x args) s c =
      let f = called p x s in
      let t = type_arguments [] args (steps (opening args) f.state) in
      let clean = is_clean f.state t.state in
      let late = typed_call_grows p s.at clean f.function t.given t.state ▸ c in
      ap (called_with p args x s.at) (name_called p x s (arguments_grows [] args (steps (opening args) f.state) ▸ late))
      ∙ (ap (λ v. formed (call x v.nodes) (typed_call p s.at (is_clean (first_pass f.state) v.state) f.function v.given v.state)) (arguments_typed [] args (steps (opening args) f.state) late)
      ∙ ap (formed (call x t.nodes)) (call_typed p s.at clean f.function t.given t.state))
  form_typed p o (prefix (unary u) a) s c =
      let t = type_node a (step s) in
      let v = rule (place_rule u t.sort) (step s).at (pos_in a) t.state in
      let late = rule_grows (place_rule u t.sort) (step s).at (pos_in a) t.state ▸ (rule_grows (unary_rule u t.state.rooms t.sort) s.at o v ▸ c) in
      ap (λ v. formed (prefix (unary u) v.node) (typed_unary s.at o (step s).at (pos_in a) u v.sort v.state)) (node_typed a (step s) late)
      ∙ ap (formed (prefix (unary u) t.node)) (unary_typed s.at o (step s).at (pos_in a) u t.sort t.state)
  form_typed p o (prefix (before u) a) s c =
      let t = type_node a (step s) in
      let v = rule (changeable t.sort) (step s).at (pos_in a) t.state in
      let late = rule_grows (changeable t.sort) (step s).at (pos_in a) t.state ▸ (rule_grows (step_rule t.state.rooms t.sort) s.at o v ▸ c) in
      ap (λ v. formed (prefix (before u) v.node) (typed_step s.at o (step s).at (pos_in a) v.sort v.state)) (node_typed a (step s) late)
      ∙ ap (formed (prefix (before u) t.node)) (step_typed s.at o (step s).at (pos_in a) t.sort t.state)
  form_typed p o (prefix size_of a) s c =
      let t = type_node a (hushed (step s)) in
      let v = heard s.quiet t.state in
      ap (λ v. formed (prefix size_of v.node) (typed_size s.at o v.sort.kind (heard s.quiet v.state))) (node_typed a (hushed (step s)) (rule_grows (of_kind t.sort.kind (sized t.state.rooms)) s.at o v ▸ c))
      ∙ ap (formed (prefix size_of t.node)) (size_typed s.at o t.sort.kind v)
  form_typed p o (size_of_type y) s c =
      let t = type_type y (steps 2 s) in
      ap (λ v. formed (size_of_type v.type) (typed_type_size s.at o v.kind v.state)) (type_typed y (steps 2 s) (rule_grows (of_kind t.kind (whole t.state.rooms)) s.at o (step t.state) ▸ c))
      ∙ ap (formed (size_of_type t.type)) (type_size_typed s.at o t.kind t.state)
  form_typed p o (cast y a) s c =
      let k = type_type y (step s) in
      let t = type_node a (step k.state) in
      let late = rule_grows (by wrong_type (cast_type k.kind t.sort.kind)) s.at o t.state ▸ c in
      ap (λ j. let v = type_node a (step j.state) in formed (cast j.type v.node) (typed_cast s.at o j.kind v.sort v.state)) (type_typed y (step s) (node_grows a (step k.state) ▸ late))
      ∙ (ap (λ v. formed (cast k.type v.node) (typed_cast s.at o k.kind v.sort v.state)) (node_typed a (step k.state) late)
      ∙ ap (formed (cast k.type t.node)) (cast_typed s.at o k.kind t.sort t.state))
  form_typed p o (suffix a (index b)) s c =
      let t = type_node a s in
      let v = type_node b (step t.state) in
      let late = rule_grows (element_rule v.state.rooms t.sort v.sort) t.state.at o v.state ▸ c in
      ap (λ x. let y = type_node b (step x.state) in formed (suffix x.node (index y.node)) (typed_index x.state.at o x.sort y.sort y.state)) (node_typed a s (node_grows b (step t.state) ▸ late))
      ∙ (ap (λ y. formed (suffix t.node (index y.node)) (typed_index t.state.at o t.sort y.sort y.state)) (node_typed b (step t.state) late)
      ∙ ap (formed (suffix t.node (index v.node))) (index_typed t.state.at o t.sort v.sort v.state))
  form_typed p o (suffix a (field h x q)) s c =
      let t = type_node a s in
      let r = holder h t.state.rooms t.sort.kind in
      let v = step (rule r t.state.at o t.state) in
      let late = rule_grows r t.state.at o t.state ▸ (rule_grows (of_kind (kind_at r) (field_rule x t.state)) v.at q v ▸ c) in
      ap (λ v. formed (suffix v.node (field h x q)) (typed_field v.state.at o h x q v.sort v.state)) (node_typed a s late)
      ∙ ap (formed (suffix t.node (field h x q))) (field_typed t.state.at o h x q t.sort t.state)
  form_typed p o (suffix a (behind u)) s c =
      let t = type_node a s in
      let v = rule (changeable t.sort) s.at (pos_in a) (step t.state) in
      let late = rule_grows (changeable t.sort) s.at (pos_in a) (step t.state) ▸ (rule_grows (step_rule t.state.rooms t.sort) t.state.at o v ▸ c) in
      ap (λ v. formed (suffix v.node (behind u)) (typed_step v.state.at o s.at (pos_in a) v.sort (step v.state))) (node_typed a s late)
      ∙ ap (formed (suffix t.node (behind u))) (step_typed t.state.at o s.at (pos_in a) t.sort (step t.state))
  form_typed p o (two u a b) s c =
      let l = sided (left_of u) s in
      let t = type_node a l in
      let r = sided (right_of u t.sort.kind) (step t.state) in
      let v = type_node b r in
      let late = infix_grows t.state.at o s.at (pos_in a) u t.sort v.sort v.state ▸ c in
      ap (λ x. let y = type_node b (sided (right_of u x.sort.kind) (step x.state)) in formed (two u x.node y.node) (typed_infix x.state.at o s.at (pos_in a) u x.sort y.sort y.state)) (node_typed a l (node_grows b r ▸ late))
      ∙ (ap (λ y. formed (two u t.node y.node) (typed_infix t.state.at o s.at (pos_in a) u t.sort y.sort y.state)) (node_typed b r late)
      ∙ ap (formed (two u t.node v.node)) (infix_typed t.state.at o s.at (pos_in a) u t.sort v.sort v.state))
  form_typed p o (choose a b e) s c =
      let t = type_node a s in
      let v = type_node b (step t.state) in
      let w = type_node e (step v.state) in
      let late = rule_grows (choice_rule t.sort v.sort w.sort) t.state.at o w.state ▸ c in
      let mid = node_grows e (step v.state) ▸ late in
      ap (λ x. let y = type_node b (step x.state) in let z = type_node e (step y.state) in formed (choose x.node y.node z.node) (typed_choice x.state.at o x.sort y.sort z.sort z.state)) (node_typed a s (node_grows b (step t.state) ▸ mid))
      ∙ (ap (λ y. let z = type_node e (step y.state) in formed (choose t.node y.node z.node) (typed_choice t.state.at o t.sort y.sort z.sort z.state)) (node_typed b (step t.state) mid)
      ∙ (ap (λ z. formed (choose t.node v.node z.node) (typed_choice t.state.at o t.sort v.sort z.sort z.state)) (node_typed e (step v.state) late)
      ∙ ap (formed (choose t.node v.node w.node)) (choice_typed t.state.at o t.sort v.sort w.sort w.state)))
  form_typed p o (probe (simple u x) a) s c =
      let d = steps 4 (claim u x s.at p s) in
      let t = type_node a d in
      ap (λ w. let v = type_node a (steps 4 w) in formed (probe (simple u x) v.node) (typed_probe s.at p u s.side v.sort v.state)) (number_taken u x s.at p s)
      ∙ (ap (λ v. formed (probe (simple u x) v.node) (typed_probe s.at p u s.side v.sort v.state)) (node_typed a d (rule_grows (probe_rule u s.side t.sort) s.at p t.state ▸ c))
      ∙ ap (formed (probe (simple u x) t.node)) (probe_typed s.at p u s.side t.sort t.state))
  form_typed p o (probe (select x cs) a) s c =
      let d = steps 3 (claim test x s.at p s) in
      let t = type_cases [] cs d in
      let v = type_node a (step t.state) in
      let clean = is_clean d v.state in
      let late = rule_grows (select_rule clean t.values v.sort) s.at p v.state ▸ c in
      ap (λ w. let y = type_cases [] cs (steps 3 w) in let z = type_node a (step y.state) in formed (probe (select x y.nodes) z.node) (typed_select s.at p (is_clean (steps 3 w) z.state) y.values z.sort z.state)) (number_taken test x s.at p s)
      ∙ (ap (λ y. let z = type_node a (step y.state) in formed (probe (select x y.nodes) z.node) (typed_select s.at p (is_clean (first_pass d) z.state) y.values z.sort z.state)) (cases_typed [] cs d (node_grows a (step t.state) ▸ late))
      ∙ (ap (λ z. formed (probe (select x t.nodes) z.node) (typed_select s.at p (is_clean (first_pass d) z.state) t.values z.sort z.state)) (node_typed a (step t.state) late)
      ∙ ap (formed (probe (select x t.nodes) v.node)) (select_typed s.at p clean t.values v.sort v.state)))

  arguments_typed : (gs : List Given) (args : NodeShapes) (s : State) → IsClean (type_arguments gs args s).state → type_arguments gs args (first_pass s) ≡ first_arguments (type_arguments gs args s)
  arguments_typed gs no_nodes s c = refl
  arguments_typed gs (more_nodes a rest) s c =
      let t = type_node a (step s) in
      let hs = gs ++ given_at (step s).at (pos_in a) t.sort ∷ [] in
      ap (λ v. one_more v (type_arguments (gs ++ given_at (step s).at (pos_in a) v.sort ∷ []) rest v.state)) (node_typed a (step s) (arguments_grows hs rest t.state ▸ c))
      ∙ ap (one_more t) (arguments_typed hs rest t.state c)

  cases_typed : (vs : List (Option ℤ)) (cs : NodeShapes) (s : State) → IsClean (type_cases vs cs s).state → type_cases vs cs (first_pass s) ≡ first_cases (type_cases vs cs s)
  cases_typed vs no_nodes s c = refl
  cases_typed vs (more_nodes a rest) s c =
      let t = type_node a (step s) in
      let r = constant_rule t.sort in
      let u = rule r (step s).at (pos_in a) t.state in
      let ws = vs ++ constants.value t.sort.constant ∷ [] in
      ap (λ v. one_case v (type_cases (vs ++ constants.value v.sort.constant ∷ []) rest (judged_constant (step s).at (pos_in a) v.sort v.state))) (node_typed a (step s) (rule_grows r (step s).at (pos_in a) t.state ▸ (cases_grow ws rest u ▸ c)))
      ∙ (ap (λ w. one_case t (type_cases ws rest w)) (ruled r (step s).at (pos_in a) t.state)
      ∙ ap (one_case t) (cases_typed ws rest u c))

  type_typed : (t : TypeShape) (s : State) → IsClean (type_type t s).state → type_type t (first_pass s) ≡ first_kind (type_type t s)
  type_typed (type_name p specs stars ls) s c =
      let t = type_specs false specs unspelled s in
      let r = spelled_rule t.spelled in
      let u = rule r s.at p t.state in
      let v = steps (star_tokens stars) u in
      ap (λ x. type_with p stars ls x (rule (spelled_rule x.spelled) s.at p x.state)) (specs_typed false specs unspelled s (rule_grows r s.at p t.state ▸ (lengths_grow [] ls v ▸ c)))
      ∙ (ap (type_with p stars ls (first_spelled t)) (ruled r s.at p t.state)
      ∙ ap (λ l. record { type = type_name p t.specs stars l.lengths; kind = arrays_of l.counts (pointed stars (kind_at r)); state = l.state }) (lengths_typed [] ls v c))

  pub lengths_typed : (cs : List Length) (ls : LengthShapes) (s : State) → IsClean (type_lengths cs ls s).state → type_lengths cs ls (first_pass s) ≡ first_counts (type_lengths cs ls s)
  lengths_typed cs no_lengths s c = refl
  lengths_typed cs (more_lengths no_node rest) s c = ap open_length (lengths_typed (cs ++ left_out ∷ []) rest (steps 2 s) c)
  lengths_typed cs (more_lengths (one_node a) rest) s c =
      let t = type_node a (step s) in
      let r = length_rule t.sort in
      let u = rule r (step s).at (pos_in a) t.state in
      let ds = cs ++ length_of t.sort ∷ [] in
      ap (λ v. one_length v (type_lengths (cs ++ length_of v.sort ∷ []) rest (step (judged_length (step s).at (pos_in a) v.sort v.state)))) (node_typed a (step s) (rule_grows r (step s).at (pos_in a) t.state ▸ (lengths_grow ds rest (step u) ▸ c)))
      ∙ (ap (λ w. one_length t (type_lengths ds rest (step w))) (ruled r (step s).at (pos_in a) t.state)
      ∙ ap (one_length t) (lengths_typed ds rest (step u) c))

  pub specs_typed : (alone : Bool) (specs : SpecShapes) (a : Spelled) (s : State) → IsClean (type_specs alone specs a s).state → type_specs alone specs a (first_pass s) ≡ first_spelled (type_specs alone specs a s)
  specs_typed alone no_specs a s c = refl
  specs_typed alone (more_specs p (word k) rest) a s c =
      let d = demand (static_fits k s.file) stray s.at p s in
      ap (λ u. more_spec p (word k) (type_specs alone rest (with_word k a) (step u))) (demanded (static_fits k s.file) stray s.at p s)
      ∙ ap (more_spec p (word k)) (specs_typed alone rest (with_word k a) (step d) c)
  specs_typed alone (more_specs p (struct t ds) rest) a s c =
      let r = type_struct alone t ds (step s) in
      ap (λ x. more_spec p x.spec (type_specs alone rest (with_tagged x.kind a) x.state)) (struct_typed alone t ds (step s) (specs_grow alone rest (with_tagged r.kind a) r.state ▸ c))
      ∙ ap (more_spec p r.spec) (specs_typed alone rest (with_tagged r.kind a) r.state c)
  specs_typed alone (more_specs p (enum t es) rest) a s c =
      let r = type_enum t es (step s) in
      ap (λ x. more_spec p x.spec (type_specs alone rest (with_tagged x.kind a) x.state)) (enum_typed t es (step s) (specs_grow alone rest (with_tagged r.kind a) r.state ▸ c))
      ∙ ap (more_spec p r.spec) (specs_typed alone rest (with_tagged r.kind a) r.state c)

  struct_typed : (alone : Bool) (t : Option Named) (ds : MaybeDecls) (s : State) → IsClean (type_struct alone t ds s).state → type_struct alone t ds (first_pass s) ≡ first_tagged (type_struct alone t ds s)
  struct_typed alone t no_members s c = ap (λ x. record { spec = struct t no_members; kind = structure_kind x.number; state = steps (tag_tokens t) x.state }) (tag_opened alone false t s)
  struct_typed alone t (members ds) s c =
      let o = opened alone true t s in
      let begun = step (steps (tag_tokens t) (begun_at o.number o.state)) in
      let r = type_lines ds [] (within begun) in
      ap (λ x. list_of t ds (first_pass s) x.number (begun_at x.number x.state)) (tag_opened alone true t s)
      ∙ (ap (list_of t ds (first_pass s) o.number) (list_begun o.number o.state)
      ∙ (ap (list_end t (first_pass s) begun.file o.number) (lines_typed ds [] (within begun) (closed_grows o.number r.fields r.state ▸ c))
      ∙ ap (λ u. record { spec = struct t (members r.decls); kind = kind_if (is_clean s r.state) (structure_kind o.number); state = step (outside begun.file u) }) (list_closed o.number r.fields r.state)))

  lines_typed : (ds : DeclShapes) (fields : List FieldShape) (s : State) → IsClean (type_lines ds fields s).state → type_lines ds fields (first_pass s) ≡ first_lines (type_lines ds fields s)
  lines_typed no_decls fields s c = refl
  lines_typed (more_decls (decl p specs names) rest) fields s c =
      let t = type_specs false specs unspelled s in
      let r = spelled_rule t.spelled in
      let u = rule r s.at p t.state in
      let n = type_fields p (kind_at r) names fields u in
      let late = lines_grow rest n.fields n.state ▸ c in
      ap (λ x. line_of p rest x.specs (type_fields p (kind_at (spelled_rule x.spelled)) names fields (rule (spelled_rule x.spelled) s.at p x.state))) (specs_typed false specs unspelled s (rule_grows r s.at p t.state ▸ (fields_grow p (kind_at r) names fields u ▸ late)))
      ∙ (ap (λ v. line_of p rest t.specs (type_fields p (kind_at r) names fields v)) (ruled r s.at p t.state)
      ∙ (ap (line_of p rest t.specs) (fields_typed p (kind_at r) names fields u late)
      ∙ ap (λ l. record { decls = more_decls (decl p t.specs n.names) l.decls; fields = l.fields; state = l.state }) (lines_typed rest n.fields n.state c)))

  fields_typed : (p : Pos) (k : Option TypeOf) (names : DeclaratorShapes) (fields : List FieldShape) (s : State) → IsClean (type_fields p k names fields s).state → type_fields p k names fields (first_pass s) ≡ first_fields (type_fields p k names fields s)
  fields_typed p k no_declarators fields s c = refl
  fields_typed p k (more_declarators (declarator stars x (arrays ls) i) rest) fields s c =
      let begun = steps (star_tokens stars) s in
      let l = type_lengths [] ls (step begun) in
      let t = arrays_of l.counts (pointed stars k) in
      let free = is_free (field_type (text_of x) fields) in
      let d = field_state begun.at (name_pos p x) free t l.state in
      let e = declarator stars x (arrays l.lengths) i in
      let late = field_grows begun.at (name_pos p x) free t l.state ▸ (fields_grow p k rest (with_field free (text_of x) t fields) (step d) ▸ c) in
      ap (field_with p stars x i rest k fields begun.at) (lengths_typed [] ls (step begun) late)
      ∙ (ap (λ u. field_end e (type_fields p k rest (with_field free (text_of x) t fields) (step u))) (field_judged begun.at (name_pos p x) free t l.state)
      ∙ ap (field_end e) (fields_typed p k rest (with_field free (text_of x) t fields) (step d) c))
  fields_typed p k (more_declarators (declarator stars x (function ps) i) rest) fields s c =
      let begun = steps (star_tokens stars) s in
      ap (field_end (declarator stars x (function ps) i)) (fields_typed p k rest fields (complain wrong_type begun.at (name_pos p x) (step begun)) c)

  enum_typed : (t : Option Named) (es : MaybeEnumers) (s : State) → IsClean (type_enum t es s).state → type_enum t es (first_pass s) ≡ first_tagged (type_enum t es s)
  enum_typed t no_rows s c = ap (λ u. record { spec = enum t no_rows; kind = kind_if (is_clean (first_pass s) u) (Some (int Int)); state = steps (tag_tokens t) u }) (tag_enumerated false t s)
  enum_typed t (rows es) s c =
      let o = enumeration true t s in
      ap (λ u. enum_end t (first_pass s) (rows_types (Some (pos 0)) es (step (steps (tag_tokens t) u)))) (tag_enumerated true t s)
      ∙ ap (enum_end t (first_pass s)) (rows_typed (Some (pos 0)) es (step (steps (tag_tokens t) o)) c)

  rows_typed : (next : Option ℤ) (es : EnumerShapes) (s : State) → IsClean (rows_types next es s).state → rows_types next es (first_pass s) ≡ first_list (rows_types next es s)
  rows_typed next no_enumers s c = refl
  rows_typed next (more_enumers x v rest) s c =
      let r = type_value s.at x.pos next v (step s) in
      let d = declare s.at x.pos x.text (entity_of r.value) r.state in
      let late = declared_grows s.at x.pos x.text (entity_of r.value) (find_here x.text r.state.names) r.state ▸ (rows_grow (after r.value) rest (step d) ▸ c) in
      ap (row_of x s.at rest) (value_typed s.at x.pos next v (step s) late)
      ∙ (ap (λ u. row_end x r.node (rows_types (after r.value) rest (step u))) (name_declared s.at x.pos x.text (entity_of r.value) r.state)
      ∙ ap (row_end x r.node) (rows_typed (after r.value) rest (step d) c))

  value_typed : (token : ℕ) (p : Pos) (next : Option ℤ) (v : MaybeNode) (s : State) → IsClean (type_value token p next v s).state → type_value token p next v (first_pass s) ≡ first_value (type_value token p next v s)
  value_typed token p next no_node s c = ap (λ u. record { node = no_node; value = only_int next; state = u }) (demanded (not (passes next)) not_constant token p s)
  value_typed token p next (one_node a) s c =
      let t = type_node a (step s) in
      let r = value_rule t.sort in
      ap (λ v. record { node = one_node v.node; value = only_int (constants.value v.sort.constant); state = rule (value_rule v.sort) (step s).at (pos_in a) v.state }) (node_typed a (step s) (rule_grows r (step s).at (pos_in a) t.state ▸ c))
      ∙ ap (λ u. record { node = one_node t.node; value = only_int (constants.value t.sort.constant); state = u }) (ruled r (step s).at (pos_in a) t.state)
