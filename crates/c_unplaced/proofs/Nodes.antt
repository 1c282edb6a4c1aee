-- Expressions, and the types that they name, are typed alike without their places.
use Rattle.std.proofs.Common.{◌≡◌, ℕ, ℤ, pos, ◌+◌, List, [], ◌∷◌, ◌++◌, map, Option, Some, None, option_map, Bool, true, false, not, if◌then◌else◌, refl, sym, ap, ◌∙◌}
use Rattle.std.proofs.lemmas.List.{map-append}
use Rattle.c_base.specs.declared.place.Pos.{Pos}
use Rattle.c_base.specs.declared.place.IntKind.TheVariants.{Int}
use Rattle.c_syntax.specs.declared.text.Text.{Text}
use Rattle.c_syntax.specs.declared.tree.Named.{Named}
use Rattle.c_syntax.specs.declared.tree.Star.{Star}
use Rattle.c_syntax.specs.Start.{start}
use Rattle.c_syntax.specs.Shape.{TypeOf, int, block, test, used, def, number, char, str, name, unary, before, size_of, NodeShape, node, ExprShape, leaf, paren, call, prefix, size_of_type, cast, suffix, two, choose, probe, index, field, behind, simple, select, NodeShapes, no_nodes, more_nodes, MaybeNode, no_node, one_node, LengthShapes, no_lengths, more_lengths, TypeShape, type_name, SpecShapes, no_specs, more_specs, word, struct, enum, MaybeDecls, no_members, members, MaybeEnumers, no_rows, rows, EnumerShapes, no_enumers, more_enumers, decl, DeclShapes, no_decls, more_decls, declarator, DeclaratorShape, DeclaratorShapes, no_declarators, more_declarators, DeclFormShape, MaybeInit, arrays, function}
use Rattle.c_constants.specs.Constants as constants
use Rattle.c_scopes.specs.Scoping.{find, find_here}
use Rattle.c_tables.specs.Tables.{FieldShape}
use Rattle.c_tables.specs.Rows.{row, text_of, name_pos}
use Rattle.c_tree.specs.declared.meaning.Entity.{Entity}
use Rattle.c_tree.specs.declared.meaning.Side.{Side}
use Rattle.c_tree.specs.declared.meaning.Tag.{Tag}
use Rattle.c_tree.specs.declared.meaning.Tag.TheVariants as tag
use Rattle.c_tree.specs.Complaints.{declared_twice, not_constant, stray, unknown_name, wrong_type}
use Rattle.c_tree.specs.State.{State, steps, step, complain, demand, is_clean, is_set, field_type}
use Rattle.c_tree.specs.Rulings.{rule, kind_at, of_kind, whole}
use Rattle.c_tree.specs.Sorts.{Formed, formed, TypedNode, TypedType, noted, note_of, cleared, pos_in}
use Rattle.c_tree.specs.Operators.{Called, Given, given_at, claim, called, typed_call, typed_paren, typed_unary, typed_step, heard, hushed, typed_size, typed_type_size, typed_cast, typed_index, typed_field, typed_infix, typed_choice, typed_probe, typed_select, constant_rule, left_of, right_of, sided, kept_side, entering}
use Rattle.c_tree.specs.Parts.{Length, length_of, left_out, length_rule, judged_length, TypedNodes, one_more, TypedCases, one_case, judged_constant, TypedLengths, open_length, one_length, pointed, star_tokens, arrays_of, Spelled, unspelled, with_word, with_tagged, static_fits, spelled_rule, more_spec, TypedSpecs, TypedSpec, Opened, opened, known_structure, listed_structure, begun_at, tag_tokens, closed, structure_kind, kind_if, within, outside, TypedDecls, TypedNames, is_free, with_field, field_state, TypedRows, Valued, value_rule, passes, only_int, entity_of, declared_at, declare, after, known_enumeration, listed_enumeration, enumeration}
use Rattle.c_tree.specs.Typing.{opening, type_node, type_form, type_arguments, type_cases, type_type, type_lengths, type_specs, type_struct, type_lines, type_fields, type_enum, rows_types, type_value}
use Rattle.c_placing.specs.Unplaced.{unplaced_named, unplaced_star, unplaced_node, unplaced_form, unplaced_nodes, unplaced_maybe, unplaced_lengths, unplaced_type, unplaced_specs, unplaced_spec, unplaced_members, unplaced_rows, unplaced_enumers, unplaced_decls, unplaced_name, unplaced_names, unplaced_maybe_init}
use Rattle.c_unplaced.specs.Unplaced.{unplaced_state}
use Rattle.c_unplaced.proofs.Rules.{unplaced_given, complained, ruled, demanded, as_clean, numbered, stringed, name_typed, name_called, call_typed, unary_typed, step_typed, size_typed, type_size_typed, cast_typed, infix_typed, choice_typed, index_typed, field_typed, number_taken, probe_typed, select_typed}

-- ---- what is typed, without its places

abbrev pub unplaced_typed : TypedNode → TypedNode
unplaced_typed t = record { node = unplaced_node t.node; sort = t.sort; state = unplaced_state t.state }

abbrev pub unplaced_formed : Formed → Formed
unplaced_formed f = record { form = unplaced_form f.form; typing = f.typing; state = unplaced_state f.state }

abbrev pub unplaced_arguments : TypedNodes → TypedNodes
unplaced_arguments t = record { nodes = unplaced_nodes t.nodes; given = map unplaced_given t.given; state = unplaced_state t.state }

abbrev pub unplaced_cases : TypedCases → TypedCases
unplaced_cases t = record { nodes = unplaced_nodes t.nodes; values = t.values; state = unplaced_state t.state }

abbrev pub unplaced_counts : TypedLengths → TypedLengths
unplaced_counts t = record { lengths = unplaced_lengths t.lengths; counts = t.counts; state = unplaced_state t.state }

abbrev pub unplaced_kind : TypedType → TypedType
unplaced_kind t = record { type = unplaced_type t.type; kind = t.kind; state = unplaced_state t.state }

abbrev pub unplaced_spelled : TypedSpecs → TypedSpecs
unplaced_spelled t = record { specs = unplaced_specs t.specs; spelled = t.spelled; state = unplaced_state t.state }

abbrev pub unplaced_tagged : TypedSpec → TypedSpec
unplaced_tagged t = record { spec = unplaced_spec t.spec; kind = t.kind; state = unplaced_state t.state }

abbrev pub unplaced_lines : TypedDecls → TypedDecls
unplaced_lines t = record { decls = unplaced_decls t.decls; fields = t.fields; state = unplaced_state t.state }

abbrev pub unplaced_fields : TypedNames → TypedNames
unplaced_fields t = record { names = unplaced_names t.names; fields = t.fields; state = unplaced_state t.state }

abbrev pub unplaced_list : TypedRows → TypedRows
unplaced_list t = record { rows = unplaced_enumers t.rows; state = unplaced_state t.state }

abbrev pub unplaced_value : Valued → Valued
unplaced_value v = record { node = unplaced_maybe v.node; value = v.value; state = unplaced_state v.state }

abbrev pub unplaced_opened : Opened → Opened
unplaced_opened o = record { number = o.number; state = unplaced_state o.state }

-- ---- names, stars and tags

pub pos_start : (a : NodeShape) → pos_in (unplaced_node a) ≡ start
pos_start (node p o n f) = refl

-- where it stands, as far as a form looks through
side_same : (f : ExprShape) (d : Side) → kept_side (unplaced_form f) d ≡ kept_side f d
side_same (leaf l) d = refl
side_same (paren a) d = refl
side_same (call x args) d = refl
side_same (prefix u a) d = refl
side_same (size_of_type y) d = refl
side_same (cast y a) d = refl
side_same (suffix a u) d = refl
side_same (two u a b) d = refl
side_same (choose a b c) d = refl
side_same (probe (simple block x) a) d = refl
side_same (probe (simple test x) a) d = refl
side_same (probe (simple used x) a) d = refl
side_same (probe (simple def x) a) d = refl
side_same (probe (select x cs) a) d = refl

opening_same : (args : NodeShapes) → opening (unplaced_nodes args) ≡ opening args
opening_same no_nodes = refl
opening_same (more_nodes a rest) = refl

pub stars_same : (stars : List Star) → star_tokens (map unplaced_star stars) ≡ star_tokens stars
stars_same [] = refl
stars_same (x ∷ xs) = ap (λ n. 1 + x.consts + n) (stars_same xs)

pub pointed_same : (stars : List Star) (k : Option TypeOf) → pointed (map unplaced_star stars) k ≡ pointed stars k
pointed_same [] k = refl
pointed_same (x ∷ xs) k = pointed_same xs _

pub text_same : (x : Option Named) → text_of (option_map unplaced_named x) ≡ text_of x
text_same None = refl
text_same (Some x) = refl

pub name_start : (x : Option Named) → name_pos start (option_map unplaced_named x) ≡ start
name_start None = refl
name_start (Some x) = refl

tag_same : (t : Option Named) → tag_tokens (option_map unplaced_named t) ≡ tag_tokens t
tag_same None = refl
tag_same (Some x) = refl

twice_typed : (p : Pos) (s : State) → record { number = None; state = complain declared_twice s.at start (unplaced_state s) } ≡ unplaced_opened (record { number = None; state = complain declared_twice s.at p s })
twice_typed p s = ap (λ u. record { number = None; state = u }) (complained declared_twice s.at p s)

known_opened : (p : Pos) (x : Text) (t : Option Tag) (s : State) → known_structure start x t (unplaced_state s) ≡ unplaced_opened (known_structure p x t s)
known_opened p x None s = refl
known_opened p x (Some (tag.Structure n)) s = refl
known_opened p x (Some tag.Enumeration) s = twice_typed p s

listed_or : (b : Bool) (p : Pos) (n : ℕ) (s : State) → (if b then record { number = None; state = complain declared_twice s.at start (unplaced_state s) } else record { number = Some n; state = unplaced_state s }) ≡ unplaced_opened (if b then record { number = None; state = complain declared_twice s.at p s } else record { number = Some n; state = s })
listed_or true p n s = twice_typed p s
listed_or false p n s = refl

listed_opened : (p : Pos) (x : Text) (t : Option Tag) (s : State) → listed_structure start x t (unplaced_state s) ≡ unplaced_opened (listed_structure p x t s)
listed_opened p x None s = refl
listed_opened p x (Some (tag.Structure n)) s = listed_or (is_set (row s.begun n)) p n s
listed_opened p x (Some tag.Enumeration) s = twice_typed p s

tag_opened : (alone listed : Bool) (t : Option Named) (s : State) → opened alone listed (option_map unplaced_named t) (unplaced_state s) ≡ unplaced_opened (opened alone listed t s)
tag_opened alone true None s = refl
tag_opened alone true (Some x) s = listed_opened x.pos x.text (find_here x.text s.tags) s
tag_opened alone false None s = refl
tag_opened alone false (Some x) s = known_opened x.pos x.text (if alone then find_here x.text s.tags else find x.text s.tags) s

list_begun : (n : Option ℕ) (s : State) → begun_at n (unplaced_state s) ≡ unplaced_state (begun_at n s)
list_begun None s = refl
list_begun (Some n) s = refl

list_closed : (n : Option ℕ) (fields : List FieldShape) (s : State) → closed n fields (unplaced_state s) ≡ unplaced_state (closed n fields s)
list_closed None fields s = refl
list_closed (Some n) fields s = refl

enumeration_known : (p : Pos) (t : Option Tag) (s : State) → known_enumeration start t (unplaced_state s) ≡ unplaced_state (known_enumeration p t s)
enumeration_known p (Some tag.Enumeration) s = refl
enumeration_known p (Some (tag.Structure n)) s = complained declared_twice s.at p s
enumeration_known p None s = complained unknown_name s.at p s

enumeration_listed : (p : Pos) (x : Text) (t : Option Tag) (s : State) → listed_enumeration start x t (unplaced_state s) ≡ unplaced_state (listed_enumeration p x t s)
enumeration_listed p x None s = refl
enumeration_listed p x (Some t) s = complained declared_twice s.at p s

tag_enumerated : (listed : Bool) (t : Option Named) (s : State) → enumeration listed (option_map unplaced_named t) (unplaced_state s) ≡ unplaced_state (enumeration listed t s)
tag_enumerated true None s = refl
tag_enumerated false None s = refl
tag_enumerated true (Some x) s = enumeration_listed x.pos x.text (find_here x.text s.tags) s
tag_enumerated false (Some x) s = enumeration_known x.pos (find x.text s.tags) s

pub name_declared : (token : ℕ) (p : Pos) (x : Text) (e : Entity) (s : State) → declare token start x e (unplaced_state s) ≡ unplaced_state (declare token p x e s)
name_declared token p x e s = at_it (find_here x s.names)
  where
    at_it : (o : Option Entity) → declared_at token start x e o (unplaced_state s) ≡ unplaced_state (declared_at token p x e o s)
    at_it None = refl
    at_it (Some other) = complained declared_twice token p s

field_judged : (token : ℕ) (p : Pos) (free : Bool) (k : Option TypeOf) (s : State) → field_state token start free k (unplaced_state s) ≡ unplaced_state (field_state token p free k s)
field_judged token p free k s =
    let r = of_kind k (whole s.rooms) in
    ap (rule r token start) (demanded free declared_twice token p s) ∙ ruled r token p (demand free declared_twice token p s)

noted_alike : (p o : Pos) (s : State) (f : Formed) → noted start start (unplaced_state s) (unplaced_formed f) ≡ unplaced_typed (noted p o s f)
noted_alike p o s f =
    ap (λ b. record { node = node start start (note_of (cleared b f.typing.sort).kind f.typing.sort.constant f.typing.names f.typing.valued) (unplaced_form f.form); sort = cleared b f.typing.sort; state = unplaced_state f.state }) (as_clean s f.state)

-- ---- parts of what is typed, by what they are typed from

-- a call, by what is known of its name
abbrev called_with : ℕ → NodeShapes → Text → ℕ → Called → Formed
called_with n args x token c =
    let t = type_arguments [] (unplaced_nodes args) (steps n c.state) in
    formed (call x t.nodes) (typed_call start token (is_clean c.state t.state) c.function t.given t.state)

-- a structure with its list, begun in the last state
abbrev list_of : Option Named → DeclShapes → State → ℕ → Option ℕ → State → TypedSpec
list_of y ds s n m u =
    let begun = step (steps n u) in
    let r = type_lines ds [] (within begun) in
    record {
      spec = struct y (members r.decls);
      kind = kind_if (is_clean (unplaced_state s) r.state) (structure_kind m);
      state = step (outside begun.file (closed m r.fields r.state));
    }

abbrev line_of : DeclShapes → SpecShapes → TypedNames → TypedDecls
line_of rest specs n =
    let l = type_lines (unplaced_decls rest) n.fields n.state in
    record { decls = more_decls (decl start specs n.names) l.decls; fields = l.fields; state = l.state }

-- a field of a member list: at its end, by its place and name, by its type, by its lengths, and from its stars on
abbrev member_end : (DeclFormShape → MaybeInit → DeclaratorShape) → MaybeInit → TypedLengths → TypedNames → TypedNames
member_end e i l n = record { names = more_declarators (e (arrays l.lengths) (unplaced_maybe_init i)) n.names; fields = n.fields; state = n.state }

abbrev member_at : (DeclFormShape → MaybeInit → DeclaratorShape) → MaybeInit → DeclaratorShapes → Option TypeOf → List FieldShape → ℕ → Pos → Text → TypedLengths → Option TypeOf → TypedNames
member_at e i rest k fields token q v l t =
    let free = is_free (field_type v fields) in
    member_end e i l (type_fields start k (unplaced_names rest) (with_field free v t fields) (step (field_state token q free t l.state)))

abbrev member_by : (DeclFormShape → MaybeInit → DeclaratorShape) → MaybeInit → DeclaratorShapes → Option TypeOf → List FieldShape → ℕ → Option Named → TypedLengths → Option TypeOf → TypedNames
member_by e i rest k fields token x l t = member_at e i rest k fields token (name_pos start x) (text_of x) l t

abbrev member_with : (DeclFormShape → MaybeInit → DeclaratorShape) → MaybeInit → DeclaratorShapes → Option TypeOf → List FieldShape → ℕ → List Star → Option Named → TypedLengths → TypedNames
member_with e i rest k fields token stars x l = member_by e i rest k fields token x l (arrays_of l.counts (pointed stars k))

abbrev member_of : (DeclFormShape → MaybeInit → DeclaratorShape) → MaybeInit → LengthShapes → DeclaratorShapes → Option TypeOf → List FieldShape → List Star → Option Named → State → TypedNames
member_of e i ls rest k fields stars x begun = member_with e i rest k fields begun.at stars x (type_lengths [] (unplaced_lengths ls) (step begun))

abbrev function_end : DeclaratorShape → TypedNames → TypedNames
function_end d n = record { names = more_declarators d n.names; fields = n.fields; state = n.state }

abbrev function_field : DeclaratorShape → DeclaratorShapes → Option TypeOf → List FieldShape → ℕ → Pos → State → TypedNames
function_field d rest k fields token q u = function_end d (type_fields start k (unplaced_names rest) fields (complain wrong_type token q u))

-- an enumerator, by its value
abbrev row_end : Named → MaybeNode → TypedRows → TypedRows
row_end x v l = record { rows = more_enumers (unplaced_named x) v l.rows; state = l.state }

abbrev row_of : Named → ℕ → EnumerShapes → Valued → TypedRows
row_of x token rest r = row_end x r.node (rows_types (after r.value) (unplaced_enumers rest) (step (declare token start x.text (entity_of r.value) r.state)))

-- ---- everything that holds expressions, and is held by them

mutual
  pub node_typed : (a : NodeShape) (s : State) → type_node (unplaced_node a) (unplaced_state s) ≡ unplaced_typed (type_node a s)
  node_typed (node p o n f) s =
      ap (λ d. noted start start (unplaced_state s) (type_form start start (unplaced_form f) (sided d (unplaced_state s)))) (side_same f s.side)
      ∙ (ap (noted start start (unplaced_state s)) (form_typed p o f (entering f s)) ∙ noted_alike p o s (type_form p o f (entering f s)))

  pub form_typed : (p o : Pos) (f : ExprShape) (s : State) → type_form start start (unplaced_form f) (unplaced_state s) ≡ unplaced_formed (type_form p o f s)
  form_typed p o (leaf (number t)) s = ap (formed (leaf (number t))) (numbered p t s)
  form_typed p o (leaf (char c)) s = refl
  form_typed p o (leaf (str t)) s = ap (formed (leaf (str t))) (stringed p t s)
  form_typed p o (leaf (name x)) s = ap (formed (leaf (name x))) (name_typed p x s)
  form_typed p o (paren a) s = ap (λ t. formed (paren t.node) (typed_paren t.sort t.state)) (node_typed a (step s))
  form_typed p o (call x args) s =
      let c = called p x s in
      let t = type_arguments [] args (steps (opening args) c.state) in
      ap (λ n. called_with n args x s.at (called start x (unplaced_state s))) (opening_same args)
      ∙ (ap (called_with (opening args) args x s.at) (name_called p x s)
      ∙ (ap (λ v. formed (call x v.nodes) (typed_call start s.at (is_clean (unplaced_state c.state) v.state) c.function v.given v.state)) (arguments_typed [] args (steps (opening args) c.state))
      ∙ (ap (λ b. formed (call x (unplaced_nodes t.nodes)) (typed_call start s.at b c.function (map unplaced_given t.given) (unplaced_state t.state))) (as_clean c.state t.state)
      ∙ ap (formed (call x (unplaced_nodes t.nodes))) (call_typed p s.at (is_clean c.state t.state) c.function t.given t.state))))
  form_typed p o (prefix (unary u) a) s =
      let t = type_node a (step s) in
      ap (λ q. let v = type_node (unplaced_node a) (unplaced_state (step s)) in formed (prefix (unary u) v.node) (typed_unary s.at start (step s).at q u v.sort v.state)) (pos_start a)
      ∙ (ap (λ v. formed (prefix (unary u) v.node) (typed_unary s.at start (step s).at start u v.sort v.state)) (node_typed a (step s))
      ∙ ap (formed (prefix (unary u) (unplaced_node t.node))) (unary_typed s.at o (step s).at (pos_in a) u t.sort t.state))
  form_typed p o (prefix (before u) a) s =
      let t = type_node a (step s) in
      ap (λ q. let v = type_node (unplaced_node a) (unplaced_state (step s)) in formed (prefix (before u) v.node) (typed_step s.at start (step s).at q v.sort v.state)) (pos_start a)
      ∙ (ap (λ v. formed (prefix (before u) v.node) (typed_step s.at start (step s).at start v.sort v.state)) (node_typed a (step s))
      ∙ ap (formed (prefix (before u) (unplaced_node t.node))) (step_typed s.at o (step s).at (pos_in a) t.sort t.state))
  form_typed p o (prefix size_of a) s =
      let t = type_node a (hushed (step s)) in
      ap (λ v. formed (prefix size_of v.node) (typed_size s.at start v.sort.kind (heard s.quiet v.state))) (node_typed a (hushed (step s)))
      ∙ ap (formed (prefix size_of (unplaced_node t.node))) (size_typed s.at o t.sort.kind (heard s.quiet t.state))
  form_typed p o (size_of_type y) s =
      let t = type_type y (steps 2 s) in
      ap (λ v. formed (size_of_type v.type) (typed_type_size s.at start v.kind v.state)) (type_typed y (steps 2 s))
      ∙ ap (formed (size_of_type (unplaced_type t.type))) (type_size_typed s.at o t.kind t.state)
  form_typed p o (cast y a) s =
      let k = type_type y (step s) in
      let t = type_node a (step k.state) in
      ap (λ j. let v = type_node (unplaced_node a) (step j.state) in formed (cast j.type v.node) (typed_cast s.at start j.kind v.sort v.state)) (type_typed y (step s))
      ∙ (ap (λ v. formed (cast (unplaced_type k.type) v.node) (typed_cast s.at start k.kind v.sort v.state)) (node_typed a (step k.state))
      ∙ ap (formed (cast (unplaced_type k.type) (unplaced_node t.node))) (cast_typed s.at o k.kind t.sort t.state))
  form_typed p o (suffix a (index b)) s =
      let t = type_node a s in
      let v = type_node b (step t.state) in
      ap (λ x. let y = type_node (unplaced_node b) (step x.state) in formed (suffix x.node (index y.node)) (typed_index x.state.at start x.sort y.sort y.state)) (node_typed a s)
      ∙ (ap (λ y. formed (suffix (unplaced_node t.node) (index y.node)) (typed_index t.state.at start t.sort y.sort y.state)) (node_typed b (step t.state))
      ∙ ap (formed (suffix (unplaced_node t.node) (index (unplaced_node v.node)))) (index_typed t.state.at o t.sort v.sort v.state))
  form_typed p o (suffix a (field h x q)) s =
      let t = type_node a s in
      ap (λ v. formed (suffix v.node (field h x start)) (typed_field v.state.at start h x start v.sort v.state)) (node_typed a s)
      ∙ ap (formed (suffix (unplaced_node t.node) (field h x start))) (field_typed t.state.at o h x q t.sort t.state)
  form_typed p o (suffix a (behind u)) s =
      let t = type_node a s in
      ap (λ q. let v = type_node (unplaced_node a) (unplaced_state s) in formed (suffix v.node (behind u)) (typed_step v.state.at start s.at q v.sort (step v.state))) (pos_start a)
      ∙ (ap (λ v. formed (suffix v.node (behind u)) (typed_step v.state.at start s.at start v.sort (step v.state))) (node_typed a s)
      ∙ ap (formed (suffix (unplaced_node t.node) (behind u))) (step_typed t.state.at o s.at (pos_in a) t.sort (step t.state)))
  form_typed p o (two u a b) s =
      let l = sided (left_of u) s in
      let t = type_node a l in
      let r = sided (right_of u t.sort.kind) (step t.state) in
      let v = type_node b r in
      ap (λ q. let x = type_node (unplaced_node a) (unplaced_state l) in let y = type_node (unplaced_node b) (sided (right_of u x.sort.kind) (step x.state)) in formed (two u x.node y.node) (typed_infix x.state.at start s.at q u x.sort y.sort y.state)) (pos_start a)
      ∙ (ap (λ x. let y = type_node (unplaced_node b) (sided (right_of u x.sort.kind) (step x.state)) in formed (two u x.node y.node) (typed_infix x.state.at start s.at start u x.sort y.sort y.state)) (node_typed a l)
      ∙ (ap (λ y. formed (two u (unplaced_node t.node) y.node) (typed_infix t.state.at start s.at start u t.sort y.sort y.state)) (node_typed b r)
      ∙ ap (formed (two u (unplaced_node t.node) (unplaced_node v.node))) (infix_typed t.state.at o s.at (pos_in a) u t.sort v.sort v.state)))
  form_typed p o (choose a b c) s =
      let t = type_node a s in
      let v = type_node b (step t.state) in
      let w = type_node c (step v.state) in
      ap (λ x. let y = type_node (unplaced_node b) (step x.state) in let z = type_node (unplaced_node c) (step y.state) in formed (choose x.node y.node z.node) (typed_choice x.state.at start x.sort y.sort z.sort z.state)) (node_typed a s)
      ∙ (ap (λ y. let z = type_node (unplaced_node c) (step y.state) in formed (choose (unplaced_node t.node) y.node z.node) (typed_choice t.state.at start t.sort y.sort z.sort z.state)) (node_typed b (step t.state))
      ∙ (ap (λ z. formed (choose (unplaced_node t.node) (unplaced_node v.node) z.node) (typed_choice t.state.at start t.sort v.sort z.sort z.state)) (node_typed c (step v.state))
      ∙ ap (formed (choose (unplaced_node t.node) (unplaced_node v.node) (unplaced_node w.node))) (choice_typed t.state.at o t.sort v.sort w.sort w.state)))
  form_typed p o (probe (simple u x) a) s =
      let t = type_node a (steps 4 (claim u x s.at p s)) in
      ap (λ c. let v = type_node (unplaced_node a) (steps 4 c) in formed (probe (simple u x) v.node) (typed_probe s.at start u s.side v.sort v.state)) (number_taken u x s.at p s)
      ∙ (ap (λ v. formed (probe (simple u x) v.node) (typed_probe s.at start u s.side v.sort v.state)) (node_typed a (steps 4 (claim u x s.at p s)))
      ∙ ap (formed (probe (simple u x) (unplaced_node t.node))) (probe_typed s.at p u s.side t.sort t.state))
  form_typed p o (probe (select x cs) a) s =
      let c = steps 3 (claim test x s.at p s) in
      let t = type_cases [] cs c in
      let v = type_node a (step t.state) in
      ap (λ d. let y = type_cases [] (unplaced_nodes cs) (steps 3 d) in let z = type_node (unplaced_node a) (step y.state) in formed (probe (select x y.nodes) z.node) (typed_select s.at start (is_clean (steps 3 d) z.state) y.values z.sort z.state)) (number_taken test x s.at p s)
      ∙ (ap (λ y. let z = type_node (unplaced_node a) (step y.state) in formed (probe (select x y.nodes) z.node) (typed_select s.at start (is_clean (unplaced_state c) z.state) y.values z.sort z.state)) (cases_typed [] cs c)
      ∙ (ap (λ z. formed (probe (select x (unplaced_nodes t.nodes)) z.node) (typed_select s.at start (is_clean (unplaced_state c) z.state) t.values z.sort z.state)) (node_typed a (step t.state))
      ∙ (ap (λ b. formed (probe (select x (unplaced_nodes t.nodes)) (unplaced_node v.node)) (typed_select s.at start b t.values v.sort (unplaced_state v.state))) (as_clean c v.state)
      ∙ ap (formed (probe (select x (unplaced_nodes t.nodes)) (unplaced_node v.node))) (select_typed s.at p (is_clean c v.state) t.values v.sort v.state))))

  pub arguments_typed : (gs : List Given) (args : NodeShapes) (s : State) → type_arguments (map unplaced_given gs) (unplaced_nodes args) (unplaced_state s) ≡ unplaced_arguments (type_arguments gs args s)
  arguments_typed gs no_nodes s = refl
  arguments_typed gs (more_nodes a rest) s =
      let t = type_node a (step s) in
      ap (λ q. let v = type_node (unplaced_node a) (unplaced_state (step s)) in one_more v (type_arguments (map unplaced_given gs ++ given_at (step s).at q v.sort ∷ []) (unplaced_nodes rest) v.state)) (pos_start a)
      ∙ (ap (λ v. one_more v (type_arguments (map unplaced_given gs ++ given_at (step s).at start v.sort ∷ []) (unplaced_nodes rest) v.state)) (node_typed a (step s))
      ∙ (ap (λ hs. one_more (unplaced_typed t) (type_arguments hs (unplaced_nodes rest) (unplaced_state t.state))) (sym (map-append unplaced_given gs (given_at (step s).at (pos_in a) t.sort ∷ [])))
      ∙ ap (one_more (unplaced_typed t)) (arguments_typed (gs ++ given_at (step s).at (pos_in a) t.sort ∷ []) rest t.state)))

  pub cases_typed : (vs : List (Option ℤ)) (cs : NodeShapes) (s : State) → type_cases vs (unplaced_nodes cs) (unplaced_state s) ≡ unplaced_cases (type_cases vs cs s)
  cases_typed vs no_nodes s = refl
  cases_typed vs (more_nodes a rest) s =
      let t = type_node a (step s) in
      let ws = vs ++ constants.value t.sort.constant ∷ [] in
      ap (λ q. let v = type_node (unplaced_node a) (unplaced_state (step s)) in one_case v (type_cases (vs ++ constants.value v.sort.constant ∷ []) (unplaced_nodes rest) (judged_constant (step s).at q v.sort v.state))) (pos_start a)
      ∙ (ap (λ v. one_case v (type_cases (vs ++ constants.value v.sort.constant ∷ []) (unplaced_nodes rest) (judged_constant (step s).at start v.sort v.state))) (node_typed a (step s))
      ∙ (ap (λ u. one_case (unplaced_typed t) (type_cases ws (unplaced_nodes rest) u)) (ruled (constant_rule t.sort) (step s).at (pos_in a) t.state)
      ∙ ap (one_case (unplaced_typed t)) (cases_typed ws rest (judged_constant (step s).at (pos_in a) t.sort t.state))))

  pub type_typed : (t : TypeShape) (s : State) → type_type (unplaced_type t) (unplaced_state s) ≡ unplaced_kind (type_type t s)
  type_typed (type_name p specs stars ls) s =
      let t = type_specs false specs unspelled s in
      let r = spelled_rule t.spelled in
      let u = rule r s.at p t.state in
      let l = type_lengths [] ls (steps (star_tokens stars) u) in
      let xs = map unplaced_star stars in
      ap (λ x. let y = type_lengths [] (unplaced_lengths ls) (steps (star_tokens xs) (rule (spelled_rule x.spelled) s.at start x.state)) in record { type = type_name start x.specs xs y.lengths; kind = arrays_of y.counts (pointed xs (kind_at (spelled_rule x.spelled))); state = y.state }) (specs_typed false specs unspelled s)
      ∙ (ap (λ v. let y = type_lengths [] (unplaced_lengths ls) (steps (star_tokens xs) v) in record { type = type_name start (unplaced_specs t.specs) xs y.lengths; kind = arrays_of y.counts (pointed xs (kind_at r)); state = y.state }) (ruled r s.at p t.state)
      ∙ (ap (λ n. let y = type_lengths [] (unplaced_lengths ls) (steps n (unplaced_state u)) in record { type = type_name start (unplaced_specs t.specs) xs y.lengths; kind = arrays_of y.counts (pointed xs (kind_at r)); state = y.state }) (stars_same stars)
      ∙ (ap (λ y. record { type = type_name start (unplaced_specs t.specs) xs y.lengths; kind = arrays_of y.counts (pointed xs (kind_at r)); state = y.state }) (lengths_typed [] ls (steps (star_tokens stars) u))
      ∙ ap (λ k. record { type = type_name start (unplaced_specs t.specs) xs (unplaced_lengths l.lengths); kind = arrays_of l.counts k; state = unplaced_state l.state }) (pointed_same stars (kind_at r)))))

  pub lengths_typed : (cs : List Length) (ls : LengthShapes) (s : State) → type_lengths cs (unplaced_lengths ls) (unplaced_state s) ≡ unplaced_counts (type_lengths cs ls s)
  lengths_typed cs no_lengths s = refl
  lengths_typed cs (more_lengths no_node rest) s = ap open_length (lengths_typed (cs ++ left_out ∷ []) rest (steps 2 s))
  lengths_typed cs (more_lengths (one_node a) rest) s =
      let t = type_node a (step s) in
      let ds = cs ++ length_of t.sort ∷ [] in
      ap (λ q. let v = type_node (unplaced_node a) (unplaced_state (step s)) in one_length v (type_lengths (cs ++ length_of v.sort ∷ []) (unplaced_lengths rest) (step (judged_length (step s).at q v.sort v.state)))) (pos_start a)
      ∙ (ap (λ v. one_length v (type_lengths (cs ++ length_of v.sort ∷ []) (unplaced_lengths rest) (step (judged_length (step s).at start v.sort v.state)))) (node_typed a (step s))
      ∙ (ap (λ u. one_length (unplaced_typed t) (type_lengths ds (unplaced_lengths rest) (step u))) (ruled (length_rule t.sort) (step s).at (pos_in a) t.state)
      ∙ ap (one_length (unplaced_typed t)) (lengths_typed ds rest (step (judged_length (step s).at (pos_in a) t.sort t.state)))))

  pub specs_typed : (alone : Bool) (specs : SpecShapes) (a : Spelled) (s : State) → type_specs alone (unplaced_specs specs) a (unplaced_state s) ≡ unplaced_spelled (type_specs alone specs a s)
  specs_typed alone no_specs a s = refl
  specs_typed alone (more_specs p (word k) rest) a s =
      let d = demand (static_fits k s.file) stray s.at p s in
      ap (λ u. more_spec start (word k) (type_specs alone (unplaced_specs rest) (with_word k a) (step u))) (demanded (static_fits k s.file) stray s.at p s)
      ∙ ap (more_spec start (word k)) (specs_typed alone rest (with_word k a) (step d))
  specs_typed alone (more_specs p (struct t ds) rest) a s =
      let r = type_struct alone t ds (step s) in
      ap (λ x. more_spec start x.spec (type_specs alone (unplaced_specs rest) (with_tagged x.kind a) x.state)) (struct_typed alone t ds (step s))
      ∙ ap (more_spec start (unplaced_spec r.spec)) (specs_typed alone rest (with_tagged r.kind a) r.state)
  specs_typed alone (more_specs p (enum t es) rest) a s =
      let r = type_enum t es (step s) in
      ap (λ x. more_spec start x.spec (type_specs alone (unplaced_specs rest) (with_tagged x.kind a) x.state)) (enum_typed t es (step s))
      ∙ ap (more_spec start (unplaced_spec r.spec)) (specs_typed alone rest (with_tagged r.kind a) r.state)

  pub struct_typed : (alone : Bool) (t : Option Named) (ds : MaybeDecls) (s : State) → type_struct alone (option_map unplaced_named t) (unplaced_members ds) (unplaced_state s) ≡ unplaced_tagged (type_struct alone t ds s)
  struct_typed alone t no_members s =
      let o = opened alone false t s in
      let y = option_map unplaced_named t in
      ap (λ x. record { spec = struct y no_members; kind = structure_kind x.number; state = steps (tag_tokens y) x.state }) (tag_opened alone false t s)
      ∙ ap (λ n. record { spec = struct y no_members; kind = structure_kind o.number; state = steps n (unplaced_state o.state) }) (tag_same t)
  struct_typed alone t (members ds) s =
      let o = opened alone true t s in
      let b = begun_at o.number o.state in
      let begun = step (steps (tag_tokens t) b) in
      let r = type_lines ds [] (within begun) in
      let y = option_map unplaced_named t in
      let xs = unplaced_decls ds in
      ap (λ x. list_of y xs s (tag_tokens y) x.number (begun_at x.number x.state)) (tag_opened alone true t s)
      ∙ (ap (list_of y xs s (tag_tokens y) o.number) (list_begun o.number o.state)
      ∙ (ap (λ n. list_of y xs s n o.number (unplaced_state b)) (tag_same t)
      ∙ (ap (λ x. record { spec = struct y (members x.decls); kind = kind_if (is_clean (unplaced_state s) x.state) (structure_kind o.number); state = step (outside begun.file (closed o.number x.fields x.state)) }) (lines_typed ds [] (within begun))
      ∙ (ap (λ c. record { spec = struct y (members (unplaced_decls r.decls)); kind = kind_if c (structure_kind o.number); state = step (outside begun.file (closed o.number r.fields (unplaced_state r.state))) }) (as_clean s r.state)
      ∙ ap (λ u. record { spec = struct y (members (unplaced_decls r.decls)); kind = kind_if (is_clean s r.state) (structure_kind o.number); state = step (outside begun.file u) }) (list_closed o.number r.fields r.state)))))

  pub lines_typed : (ds : DeclShapes) (fields : List FieldShape) (s : State) → type_lines (unplaced_decls ds) fields (unplaced_state s) ≡ unplaced_lines (type_lines ds fields s)
  lines_typed no_decls fields s = refl
  lines_typed (more_decls (decl p specs names) rest) fields s =
      let t = type_specs false specs unspelled s in
      let r = spelled_rule t.spelled in
      let u = rule r s.at p t.state in
      let n = type_fields p (kind_at r) names fields u in
      ap (λ x. line_of rest x.specs (type_fields start (kind_at (spelled_rule x.spelled)) (unplaced_names names) fields (rule (spelled_rule x.spelled) s.at start x.state))) (specs_typed false specs unspelled s)
      ∙ (ap (λ v. line_of rest (unplaced_specs t.specs) (type_fields start (kind_at r) (unplaced_names names) fields v)) (ruled r s.at p t.state)
      ∙ (ap (line_of rest (unplaced_specs t.specs)) (fields_typed p (kind_at r) names fields u)
      ∙ ap (λ l. record { decls = more_decls (decl start (unplaced_specs t.specs) (unplaced_names n.names)) l.decls; fields = l.fields; state = l.state }) (lines_typed rest n.fields n.state)))

  pub fields_typed : (p : Pos) (k : Option TypeOf) (names : DeclaratorShapes) (fields : List FieldShape) (s : State) → type_fields start k (unplaced_names names) fields (unplaced_state s) ≡ unplaced_fields (type_fields p k names fields s)
  fields_typed p k no_declarators fields s = refl
  fields_typed p k (more_declarators (declarator stars x (arrays ls) i) rest) fields s =
      let begun = steps (star_tokens stars) s in
      let l = type_lengths [] ls (step begun) in
      let t = arrays_of l.counts (pointed stars k) in
      let free = is_free (field_type (text_of x) fields) in
      let d = field_state begun.at (name_pos p x) free t l.state in
      let e = declarator (map unplaced_star stars) (option_map unplaced_named x) in
      ap (λ n. member_of e i ls rest k fields (map unplaced_star stars) (option_map unplaced_named x) (steps n (unplaced_state s))) (stars_same stars)
      ∙ (ap (λ y. member_with e i rest k fields begun.at (map unplaced_star stars) (option_map unplaced_named x) y) (lengths_typed [] ls (step begun))
      ∙ (ap (λ j. member_by e i rest k fields begun.at (option_map unplaced_named x) (unplaced_counts l) (arrays_of l.counts j)) (pointed_same stars k)
      ∙ (ap (λ q. member_at e i rest k fields begun.at q (text_of (option_map unplaced_named x)) (unplaced_counts l) t) (name_start x)
      ∙ (ap (λ v. member_at e i rest k fields begun.at start v (unplaced_counts l) t) (text_same x)
      ∙ (ap (λ u. member_end e i (unplaced_counts l) (type_fields start k (unplaced_names rest) (with_field free (text_of x) t fields) (step u))) (field_judged begun.at (name_pos p x) free t l.state)
      ∙ ap (member_end e i (unplaced_counts l)) (fields_typed p k rest (with_field free (text_of x) t fields) (step d)))))))
  fields_typed p k (more_declarators (declarator stars x (function ps) i) rest) fields s =
      let begun = steps (star_tokens stars) s in
      let y = option_map unplaced_named x in
      let d = unplaced_name (declarator stars x (function ps) i) in
      ap (λ n. function_field d rest k fields (steps n (unplaced_state s)).at (name_pos start y) (step (steps n (unplaced_state s)))) (stars_same stars)
      ∙ (ap (λ q. function_field d rest k fields begun.at q (unplaced_state (step begun))) (name_start x)
      ∙ (ap (λ u. function_end d (type_fields start k (unplaced_names rest) fields u)) (complained wrong_type begun.at (name_pos p x) (step begun))
      ∙ ap (function_end d) (fields_typed p k rest fields (complain wrong_type begun.at (name_pos p x) (step begun)))))

  pub enum_typed : (t : Option Named) (es : MaybeEnumers) (s : State) → type_enum (option_map unplaced_named t) (unplaced_rows es) (unplaced_state s) ≡ unplaced_tagged (type_enum t es s)
  enum_typed t no_rows s =
      let o = enumeration false t s in
      let y = option_map unplaced_named t in
      ap (λ u. record { spec = enum y no_rows; kind = kind_if (is_clean (unplaced_state s) u) (Some (int Int)); state = steps (tag_tokens y) u }) (tag_enumerated false t s)
      ∙ (ap (λ b. record { spec = enum y no_rows; kind = kind_if b (Some (int Int)); state = steps (tag_tokens y) (unplaced_state o) }) (as_clean s o)
      ∙ ap (λ n. record { spec = enum y no_rows; kind = kind_if (is_clean s o) (Some (int Int)); state = steps n (unplaced_state o) }) (tag_same t))
  enum_typed t (rows es) s =
      let o = enumeration true t s in
      let y = option_map unplaced_named t in
      let r = rows_types (Some (pos 0)) es (step (steps (tag_tokens t) o)) in
      ap (λ u. let x = rows_types (Some (pos 0)) (unplaced_enumers es) (step (steps (tag_tokens y) u)) in record { spec = enum y (rows x.rows); kind = kind_if (is_clean (unplaced_state s) x.state) (Some (int Int)); state = x.state }) (tag_enumerated true t s)
      ∙ (ap (λ n. let x = rows_types (Some (pos 0)) (unplaced_enumers es) (step (steps n (unplaced_state o))) in record { spec = enum y (rows x.rows); kind = kind_if (is_clean (unplaced_state s) x.state) (Some (int Int)); state = x.state }) (tag_same t)
      ∙ (ap (λ x. record { spec = enum y (rows x.rows); kind = kind_if (is_clean (unplaced_state s) x.state) (Some (int Int)); state = x.state }) (rows_typed (Some (pos 0)) es (step (steps (tag_tokens t) o)))
      ∙ ap (λ b. record { spec = enum y (rows (unplaced_enumers r.rows)); kind = kind_if b (Some (int Int)); state = unplaced_state r.state }) (as_clean s r.state)))

  pub rows_typed : (next : Option ℤ) (es : EnumerShapes) (s : State) → rows_types next (unplaced_enumers es) (unplaced_state s) ≡ unplaced_list (rows_types next es s)
  rows_typed next no_enumers s = refl
  rows_typed next (more_enumers x v rest) s =
      let r = type_value s.at x.pos next v (step s) in
      let d = declare s.at x.pos x.text (entity_of r.value) r.state in
      ap (λ y. row_of x s.at rest y) (value_typed s.at x.pos next v (step s))
      ∙ (ap (λ u. row_end x (unplaced_maybe r.node) (rows_types (after r.value) (unplaced_enumers rest) (step u))) (name_declared s.at x.pos x.text (entity_of r.value) r.state)
      ∙ ap (row_end x (unplaced_maybe r.node)) (rows_typed (after r.value) rest (step d)))

  pub value_typed : (token : ℕ) (p : Pos) (next : Option ℤ) (v : MaybeNode) (s : State) → type_value token start next (unplaced_maybe v) (unplaced_state s) ≡ unplaced_value (type_value token p next v s)
  value_typed token p next no_node s = ap (λ u. record { node = no_node; value = only_int next; state = u }) (demanded (not (passes next)) not_constant token p s)
  value_typed token p next (one_node a) s =
      let t = type_node a (step s) in
      ap (λ q. let v = type_node (unplaced_node a) (unplaced_state (step s)) in record { node = one_node v.node; value = only_int (constants.value v.sort.constant); state = rule (value_rule v.sort) (step s).at q v.state }) (pos_start a)
      ∙ (ap (λ v. record { node = one_node v.node; value = only_int (constants.value v.sort.constant); state = rule (value_rule v.sort) (step s).at start v.state }) (node_typed a (step s))
      ∙ ap (λ u. record { node = one_node (unplaced_node t.node); value = only_int (constants.value t.sort.constant); state = u }) (ruled (value_rule t.sort) (step s).at (pos_in a) t.state))
