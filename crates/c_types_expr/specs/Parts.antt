-- Brackets, specifiers, lines of member lists, fields and enumerators by themselves.
use Rattle.std.specs.Prelude.{ℤ, List, [], Option, Bool, false}
use Rattle.c_base.specs.declared.place.Pos.{Pos}
use Rattle.c_syntax.specs.declared.tree.Named.{Named}
use Rattle.c_syntax.specs.Shape.{TypeOf, SpecShape, word, struct, enum, MaybeNode, no_node, one_node, DeclShape, decl, DeclaratorShape, declarator, arrays, function}
use Rattle.c_tables.specs.Tables.{FieldShape}
use Rattle.c_tree.specs.State.{State, step, steps, complain, demand, field_type}
use Rattle.c_tree.specs.Rulings.{kind_at, rule}
use Rattle.c_tree.specs.Sorts.{pos_in}
use Rattle.c_tree.specs.Parts.{Length, left_out, length_of, judged_length, Spelled, TypedSpec, unspelled, with_word, with_tagged, static_fits, spelled_rule, Valued, entity_of, declare, after, star_tokens, arrays_of, pointed, is_free, with_field, field_state}
use Rattle.c_tables.specs.Rows.{text_of, name_pos}
use Rattle.c_tree.specs.Typing.{type_node, type_specs, type_struct, type_enum, type_lengths, type_fields, type_value}
use Rattle.c_tree.specs.Complaints.{stray, wrong_type}

-- a specifier, what is spelled with it, and what is known behind it
pub record Specified : Type 0 where
  pub spec : SpecShape
  pub spelled : Spelled
  pub state : State

abbrev pub with_tag_of : Spelled → TypedSpec → Specified
with_tag_of a r = record { spec = r.spec; spelled = with_tagged r.kind a; state = r.state }

abbrev pub specified : Bool → Pos → SpecShape → Spelled → State → Specified
specified alone p (word k) a s = record { spec = word k; spelled = with_word k a; state = step (demand (static_fits k s.file) stray s.at p s) }
specified alone p (struct t ds) a s = with_tag_of a (type_struct alone t ds (step s))
specified alone p (enum t es) a s = with_tag_of a (type_enum t es (step s))

-- a line of a member list, behind these fields
pub record Lined : Type 0 where
  pub decl : DeclShape
  pub fields : List FieldShape
  pub state : State

abbrev pub lined : DeclShape → List FieldShape → State → Lined
lined (decl p specs names) fields s =
    let t = type_specs false specs unspelled s in
    let r = spelled_rule t.spelled in
    let n = type_fields p (kind_at r) names fields (rule r s.at p t.state) in
    record { decl = decl p t.specs n.names; fields = n.fields; state = n.state }

-- a field, behind these
pub record Fielded : Type 0 where
  pub name : DeclaratorShape
  pub fields : List FieldShape
  pub state : State

abbrev pub fielded : Pos → Option TypeOf → DeclaratorShape → List FieldShape → State → Fielded
fielded p k (declarator stars x (arrays ls) i) fields s =
    let begun = steps (star_tokens stars) s in
    let l = type_lengths [] ls (step begun) in
    let t = arrays_of l.counts (pointed stars k) in
    let free = is_free (field_type (text_of x) fields) in
    record { name = declarator stars x (arrays l.lengths) i; fields = with_field free (text_of x) t fields; state = step (field_state begun.at (name_pos p x) free t l.state) }
fielded p k (declarator stars x (function ps) i) fields s =
    let begun = steps (star_tokens stars) s in
    record { name = declarator stars x (function ps) i; fields = fields; state = complain wrong_type begun.at (name_pos p x) (step begun) }

-- an enumerator, and the value of the next one, if that is clear
pub record Enumerated : Type 0 where
  pub node : MaybeNode
  pub next : Option ℤ
  pub state : State

abbrev pub enumerated : Option ℤ → Named → MaybeNode → State → Enumerated
enumerated next x v s =
    let r = type_value s.at x.pos next v (step s) in
    record { node = r.node; next = after r.value; state = step (declare s.at x.pos x.text (entity_of r.value) r.state) }

-- brackets with or without a length, and what stands in them
pub record Bracketed : Type 0 where
  pub length : MaybeNode
  pub count : Length
  pub state : State

abbrev pub bracketed : MaybeNode → State → Bracketed
bracketed no_node s = record { length = no_node; count = left_out; state = steps 2 s }
bracketed (one_node a) s =
    let t = type_node a (step s) in
    record { length = one_node t.node; count = length_of t.sort; state = step (judged_length (step s).at (pos_in a) t.sort t.state) }
