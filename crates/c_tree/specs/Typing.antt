-- How an expression is typed (C89, 3.3), with the types that it names and the structures and enumerations that they declare (3.5).
use Rattle.std.specs.Prelude.{ℕ, ℤ, pos, ◌-◌, ◌++◌, List, [], ◌∷◌, Bool, true, false, Option, Some}
use Rattle.c_base.specs.declared.place.Pos.{Pos}
use Rattle.c_base.specs.declared.place.IntKind.TheVariants.{Int}
use Rattle.c_syntax.specs.declared.text.Text.{Text}
use Rattle.c_syntax.specs.declared.tree.UnaryOp.{UnaryOp}
use Rattle.c_syntax.specs.declared.tree.StepOp.{StepOp}
use Rattle.c_syntax.specs.declared.tree.StepOp.TheVariants as way
use Rattle.c_syntax.specs.declared.tree.Named.{Named}
use Rattle.c_syntax.specs.Shape.{Access, Step, up, down, Probing, TypeOf, int, structure, number, char, str, name, unary, before, size_of, and, or, comma, test, NodeShape, node, ExprShape, leaf, paren, call, prefix, size_of_type, cast, suffix, two, choose, probe, index, field, behind, simple, select, NodeShapes, no_nodes, more_nodes, MaybeNode, no_node, one_node, LengthShapes, no_lengths, more_lengths, TypeShape, type_name, SpecShapes, no_specs, more_specs, word, struct, enum, MaybeDecls, no_members, members, MaybeEnumers, no_rows, rows, EnumerShapes, no_enumers, more_enumers, decl, DeclShapes, no_decls, more_decls, declarator, DeclaratorShapes, no_declarators, more_declarators, arrays, function}
use Rattle.c_constants.specs.Constants as constants
use Rattle.c_tables.specs.Tables.{FieldShape}
use Rattle.c_tree.specs.State.{State, steps, step, complain, demand, is_clean, field_type}
use Rattle.c_tree.specs.Rulings.{by, kind_at, rule}
use Rattle.c_tree.specs.Sorts.{Formed, formed, TypedNode, TypedType, noted, pos_in}
use Rattle.c_tree.specs.Operators.{Given, given_at, typed_number, typed_char, typed_string, typed_name, called, typed_call, typed_paren, typed_unary, typed_step, hushed, heard, typed_size, typed_type_size, typed_cast, typed_infix, typed_choice, typed_index, typed_field, claim, typed_probe, typed_select, left_of, right_of, sided, entering}
use Rattle.c_tree.specs.Parts.{Length, left_out, length_of, TypedNodes, no_more, one_more, TypedCases, no_cases, judged_constant, one_case, TypedLengths, no_more_lengths, judged_length, open_length, one_length, pointed, star_tokens, arrays_of, Spelled, TypedSpecs, TypedSpec, unspelled, with_word, with_tagged, static_fits, spelled_rule, more_spec, begun_at, opened, tag_tokens, closed, structure_kind, kind_if, within, outside, TypedDecls, TypedNames, is_free, with_field, field_state, TypedRows, Valued, given_value, next_value, entity_of, declare, after, enumeration}
use Rattle.c_tables.specs.Rows.{text_of, name_pos}
use Rattle.c_tree.specs.Complaints.{stray, wrong_type}

-- the parenthesis before arguments, where none follows; otherwise it is the first one's
abbrev pub opening : NodeShapes → ℕ
opening no_nodes = 2
opening (more_nodes a rest) = 1

-- ---- everything that holds expressions, and is held by them

abbrev mutual
  pub type_node : NodeShape → State → TypedNode
  type_node (node p o n f) s = noted p o s (type_form p o f (entering f s))

  pub type_form : Pos → Pos → ExprShape → State → Formed
  type_form p o (leaf (number t)) s = formed (leaf (number t)) (typed_number p t s)
  type_form p o (leaf (char c)) s = formed (leaf (char c)) (typed_char c s)
  type_form p o (leaf (str t)) s = formed (leaf (str t)) (typed_string p t s)
  type_form p o (leaf (name x)) s = formed (leaf (name x)) (typed_name p x s)
  type_form p o (paren a) s =
      let t = type_node a (step s) in
      formed (paren t.node) (typed_paren t.sort t.state)
  type_form p o (call x args) s =
      let c = called p x s in
      let t = type_arguments [] args (steps (opening args) c.state) in
      formed (call x t.nodes) (typed_call p s.at (is_clean c.state t.state) c.function t.given t.state)
  type_form p o (prefix (unary u) a) s =
      let t = type_node a (step s) in
      formed (prefix (unary u) t.node) (typed_unary s.at o (step s).at (pos_in a) u t.sort t.state)
  type_form p o (prefix (before u) a) s =
      let t = type_node a (step s) in
      formed (prefix (before u) t.node) (typed_step s.at o (step s).at (pos_in a) t.sort t.state)
  type_form p o (prefix size_of a) s =
      let t = type_node a (hushed (step s)) in
      formed (prefix size_of t.node) (typed_size s.at o t.sort.kind (heard s.quiet t.state))
  type_form p o (size_of_type y) s =
      let t = type_type y (steps 2 s) in
      formed (size_of_type t.type) (typed_type_size s.at o t.kind t.state)
  type_form p o (cast y a) s =
      let k = type_type y (step s) in
      let t = type_node a (step k.state) in
      formed (cast k.type t.node) (typed_cast s.at o k.kind t.sort t.state)
  type_form p o (suffix a (index b)) s =
      let t = type_node a s in
      let v = type_node b (step t.state) in
      formed (suffix t.node (index v.node)) (typed_index t.state.at o t.sort v.sort v.state)
  type_form p o (suffix a (field h x q)) s =
      let t = type_node a s in
      formed (suffix t.node (field h x q)) (typed_field t.state.at o h x q t.sort t.state)
  type_form p o (suffix a (behind u)) s =
      let t = type_node a s in
      formed (suffix t.node (behind u)) (typed_step t.state.at o s.at (pos_in a) t.sort (step t.state))
  type_form p o (two u a b) s =
      let t = type_node a (sided (left_of u) s) in
      let v = type_node b (sided (right_of u t.sort.kind) (step t.state)) in
      formed (two u t.node v.node) (typed_infix t.state.at o s.at (pos_in a) u t.sort v.sort v.state)
  type_form p o (choose a b c) s =
      let t = type_node a s in
      let v = type_node b (step t.state) in
      let w = type_node c (step v.state) in
      formed (choose t.node v.node w.node) (typed_choice t.state.at o t.sort v.sort w.sort w.state)
  type_form p o (probe (simple u x) a) s =
      let t = type_node a (steps 4 (claim u x s.at p s)) in
      formed (probe (simple u x) t.node) (typed_probe s.at p u s.side t.sort t.state)
  type_form p o (probe (select x cs) a) s =
      let c = steps 3 (claim test x s.at p s) in
      let t = type_cases [] cs c in
      let v = type_node a (step t.state) in
      formed (probe (select x t.nodes) v.node) (typed_select s.at p (is_clean c v.state) t.values v.sort v.state)

  -- arguments, each with the comma or parenthesis before it, behind those so far
  pub type_arguments : List Given → NodeShapes → State → TypedNodes
  type_arguments gs no_nodes s = no_more gs s
  type_arguments gs (more_nodes a rest) s =
      let t = type_node a (step s) in
      one_more t (type_arguments (gs ++ given_at (step s).at (pos_in a) t.sort ∷ []) rest t.state)

  -- constants, each with a comma before it, behind the values so far
  pub type_cases : List (Option ℤ) → NodeShapes → State → TypedCases
  type_cases vs no_nodes s = no_cases vs s
  type_cases vs (more_nodes a rest) s =
      let t = type_node a (step s) in
      one_case t (type_cases (vs ++ constants.value t.sort.constant ∷ []) rest (judged_constant (step s).at (pos_in a) t.sort t.state))

  pub type_type : TypeShape → State → TypedType
  type_type (type_name p specs stars ls) s =
      let t = type_specs false specs unspelled s in
      let r = spelled_rule t.spelled in
      let l = type_lengths [] ls (steps (star_tokens stars) (rule r s.at p t.state)) in
      record { type = type_name p t.specs stars l.lengths; kind = arrays_of l.counts (pointed stars (kind_at r)); state = l.state }

  -- brackets, behind the lengths so far
  pub type_lengths : List Length → LengthShapes → State → TypedLengths
  type_lengths ls no_lengths s = no_more_lengths ls s
  type_lengths ls (more_lengths no_node rest) s = open_length (type_lengths (ls ++ left_out ∷ []) rest (steps 2 s))
  type_lengths ls (more_lengths (one_node a) rest) s =
      let t = type_node a (step s) in
      one_length t (type_lengths (ls ++ length_of t.sort ∷ []) rest (step (judged_length (step s).at (pos_in a) t.sort t.state)))

  -- alone: no declarator follows
  pub type_specs : Bool → SpecShapes → Spelled → State → TypedSpecs
  type_specs alone no_specs a s = record { specs = no_specs; spelled = a; state = s }
  type_specs alone (more_specs p (word k) rest) a s =
      more_spec p (word k) (type_specs alone rest (with_word k a) (step (demand (static_fits k s.file) stray s.at p s)))
  type_specs alone (more_specs p (struct t ds) rest) a s =
      let r = type_struct alone t ds (step s) in
      more_spec p r.spec (type_specs alone rest (with_tagged r.kind a) r.state)
  type_specs alone (more_specs p (enum t es) rest) a s =
      let r = type_enum t es (step s) in
      more_spec p r.spec (type_specs alone rest (with_tagged r.kind a) r.state)

  -- a structure behind its key
  pub type_struct : Bool → Option Named → MaybeDecls → State → TypedSpec
  type_struct alone t no_members s =
      let o = opened alone false t s in
      record { spec = struct t no_members; kind = structure_kind o.number; state = steps (tag_tokens t) o.state }
  type_struct alone t (members ds) s =
      let o = opened alone true t s in
      let begun = step (steps (tag_tokens t) (begun_at o.number o.state)) in
      let r = type_lines ds [] (within begun) in
      record {
        spec = struct t (members r.decls);
        kind = kind_if (is_clean s r.state) (structure_kind o.number);
        state = step (outside begun.file (closed o.number r.fields r.state));
      }

  -- the lines of a member list, behind these fields
  pub type_lines : DeclShapes → List FieldShape → State → TypedDecls
  type_lines no_decls fields s = record { decls = no_decls; fields = fields; state = s }
  type_lines (more_decls (decl p specs names) rest) fields s =
      let t = type_specs false specs unspelled s in
      let r = spelled_rule t.spelled in
      let n = type_fields p (kind_at r) names fields (rule r s.at p t.state) in
      let l = type_lines rest n.fields n.state in
      record { decls = more_decls (decl p t.specs n.names) l.decls; fields = l.fields; state = l.state }

  -- each field with the comma or the semicolon behind it
  pub type_fields : Pos → Option TypeOf → DeclaratorShapes → List FieldShape → State → TypedNames
  type_fields p k no_declarators fields s = record { names = no_declarators; fields = fields; state = s }
  type_fields p k (more_declarators (declarator stars x (arrays ls) i) rest) fields s =
      let begun = steps (star_tokens stars) s in
      let l = type_lengths [] ls (step begun) in
      let t = arrays_of l.counts (pointed stars k) in
      let free = is_free (field_type (text_of x) fields) in
      let n = type_fields p k rest (with_field free (text_of x) t fields) (step (field_state begun.at (name_pos p x) free t l.state)) in
      record { names = more_declarators (declarator stars x (arrays l.lengths) i) n.names; fields = n.fields; state = n.state }
  type_fields p k (more_declarators (declarator stars x (function ps) i) rest) fields s =
      let begun = steps (star_tokens stars) s in
      let n = type_fields p k rest fields (complain wrong_type begun.at (name_pos p x) (step begun)) in
      record { names = more_declarators (declarator stars x (function ps) i) n.names; fields = n.fields; state = n.state }

  -- an enumeration behind its key
  pub type_enum : Option Named → MaybeEnumers → State → TypedSpec
  type_enum t no_rows s =
      let o = enumeration false t s in
      record { spec = enum t no_rows; kind = kind_if (is_clean s o) (Some (int Int)); state = steps (tag_tokens t) o }
  type_enum t (rows es) s =
      let r = rows_types (Some (pos 0)) es (step (steps (tag_tokens t) (enumeration true t s))) in
      record { spec = enum t (rows r.rows); kind = kind_if (is_clean s r.state) (Some (int Int)); state = r.state }

  -- each enumerator with the comma or the brace behind it; the value of one that has none
  pub rows_types : Option ℤ → EnumerShapes → State → TypedRows
  rows_types next no_enumers s = record { rows = no_enumers; state = s }
  rows_types next (more_enumers x v rest) s =
      let r = type_value s.at x.pos next v (step s) in
      let l = rows_types (after r.value) rest (step (declare s.at x.pos x.text (entity_of r.value) r.state)) in
      record { rows = more_enumers x r.node l.rows; state = l.state }

  -- the value of the enumerator that is that token
  pub type_value : ℕ → Pos → Option ℤ → MaybeNode → State → Valued
  type_value token p next no_node s = next_value token p next s
  type_value token p next (one_node a) s = given_value (step s).at (pos_in a) (type_node a (step s))

-- ---- forms of one operand, and calls, by themselves

abbrev pub type_call : Pos → Text → NodeShapes → State → Formed
type_call p x args s =
    let c = called p x s in
    let t = type_arguments [] args (steps (opening args) c.state) in
    formed (call x t.nodes) (typed_call p s.at (is_clean c.state t.state) c.function t.given t.state)

abbrev pub type_unary : Pos → UnaryOp → NodeShape → State → Formed
type_unary o u a s =
    let t = type_node a (step s) in
    formed (prefix (unary u) t.node) (typed_unary s.at o (step s).at (pos_in a) u t.sort t.state)

abbrev pub type_before : Pos → Step → NodeShape → State → Formed
type_before o u a s =
    let t = type_node a (step s) in
    formed (prefix (before u) t.node) (typed_step s.at o (step s).at (pos_in a) t.sort t.state)

abbrev pub type_behind : Pos → Step → NodeShape → State → Formed
type_behind o u a s =
    let t = type_node a s in
    formed (suffix t.node (behind u)) (typed_step t.state.at o s.at (pos_in a) t.sort (step t.state))

-- a step, where it stands
abbrev pub type_step : Pos → StepOp → NodeShape → State → Formed
type_step o way.PreInc a s = type_before o up a s
type_step o way.PreDec a s = type_before o down a s
type_step o way.PostInc a s = type_behind o up a s
type_step o way.PostDec a s = type_behind o down a s

-- the operand of a sizeof is not evaluated
abbrev pub type_size : Pos → NodeShape → State → Formed
type_size o a s =
    let t = type_node a (hushed (step s)) in
    formed (prefix size_of t.node) (typed_size s.at o t.sort.kind (heard s.quiet t.state))

abbrev pub type_probe : Pos → Probing → Text → NodeShape → State → Formed
type_probe p u x a s =
    let t = type_node a (steps 4 (claim u x s.at p s)) in
    formed (probe (simple u x) t.node) (typed_probe s.at p u s.side t.sort t.state)

abbrev pub type_select : Pos → Text → NodeShapes → NodeShape → State → Formed
type_select p x cs a s =
    let c = steps 3 (claim test x s.at p s) in
    let t = type_cases [] cs c in
    let v = type_node a (step t.state) in
    formed (probe (select x t.nodes) v.node) (typed_select s.at p (is_clean c v.state) t.values v.sort v.state)

abbrev pub type_paren : NodeShape → State → Formed
type_paren a s =
    let t = type_node a (step s) in
    formed (paren t.node) (typed_paren t.sort t.state)

abbrev pub type_access : Pos → Access → Text → Pos → NodeShape → State → Formed
type_access o h x q a s =
    let t = type_node a s in
    formed (suffix t.node (field h x q)) (typed_field t.state.at o h x q t.sort t.state)

abbrev pub type_type_size : Pos → TypeShape → State → Formed
type_type_size o y s =
    let t = type_type y (steps 2 s) in
    formed (size_of_type t.type) (typed_type_size s.at o t.kind t.state)

abbrev pub type_cast : Pos → TypeShape → NodeShape → State → Formed
type_cast o y a s =
    let k = type_type y (step s) in
    let t = type_node a (step k.state) in
    formed (cast k.type t.node) (typed_cast s.at o k.kind t.sort t.state)

abbrev pub type_choice : Pos → NodeShape → NodeShape → NodeShape → State → Formed
type_choice o a b c s =
    let t = type_node a s in
    let v = type_node b (step t.state) in
    let w = type_node c (step v.state) in
    formed (choose t.node v.node w.node) (typed_choice t.state.at o t.sort v.sort w.sort w.state)
