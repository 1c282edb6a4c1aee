-- Expressions, type names, names and specifiers, each read by the readers of what stands below it.
use Rattle.std.specs.Prelude.{ℕ, zero, suc, ◌+◌, max, List, [], ◌∷◌, length, Option, Some, None, Bool, ◌&&◌, nat_lt, nat_le}
use Rattle.c_base.specs.declared.place.Pos.{Pos}
use Rattle.c_syntax.specs.declared.text.Text.{Text}
use Rattle.c_syntax.specs.declared.token.Mark.TheVariants as marks
use Rattle.c_syntax.specs.declared.token.Key.TheVariants as keys
use Rattle.c_syntax.specs.declared.token.ProbeWord.TheVariants as words
use Rattle.c_syntax.specs.declared.token.Token.{Token}
use Rattle.c_syntax.specs.declared.tree.Star.{Star}
use Rattle.c_syntax.specs.declared.tree.Named.{Named}
use Rattle.c_syntax.specs.Forms.{place}
use Rattle.c_syntax.specs.Shape.{bare, Leaf, number, char, str, name, Prefix, unary, before, size_of, Infix, Access, Probing, NodeShape, node, leaf, paren, call, prefix, size_of_type, cast, suffix, two, choose, probe, index, field, behind, ProbeShape, simple, select, NodeShapes, no_nodes, more_nodes, MaybeNode, no_node, one_node, LengthShapes, more_lengths, TypeShape, type_name, SpecShapes, no_specs, more_specs, SpecShape, word, struct, enum, no_members, members, no_rows, rows, EnumerShapes, more_enumers, DeclShapes, listed}
use Rattle.c_syntax.specs.Levels.{height, chain, cases_chain}
use Rattle.c_syntax.specs.Shaped.{right_least, prefix_least, probe_least, level, is_there}
use Rattle.c_grammar.specs.Look.{Got, got, then_go, go_after, either_way, where_true, if_so, after, after_key, after_probe, expect, a_number, a_word}
use Rattle.c_grammar.specs.Starts.{Oper, infix_oper, question, bracket, access, step, open_paren, Sign, a_sign, no_sign, oper_level, oper_least, Start, at_leaf, at_prefix, at_paren, at_simple, at_select, no_start, SpecHead, a_spec_word, a_struct, an_enum, no_spec, spec_head, is_spec, type_ahead}

abbrev pub place_of : NodeShape → Pos
place_of (node p o n f) = p

-- the most probes round a part: four at each level
abbrev pub most_probes : ℕ
most_probes = 1600

-- OPERANDS

-- the readers of what stands below an expression
pub record Below : Type 0 where
  -- an operand that binds at least as tightly as this
  pub operand : ℕ → List Token → Got NodeShape
  -- the same, inside a probe
  pub inner : ℕ → List Token → Got NodeShape
  -- further arguments
  pub listed : List Token → Got NodeShapes
  -- the case constants of a probe
  pub cases : List Token → Got NodeShapes
  pub type : List Token → Got TypeShape

abbrev pub onto : NodeShape → NodeShapes → List Token → Got NodeShapes
onto a as' ts = Some (more_nodes a as', ts)

abbrev pub one_more : (List Token → Got NodeShapes) → NodeShape → List Token → Got NodeShapes
one_more more a ts = then_go (more ts) (onto a)

-- arguments and the closing parenthesis
abbrev pub args : (List Token → Got NodeShape) → (List Token → Got NodeShapes) → List Token → Got NodeShapes
args e more ts = either_way (after marks.RightParen ts) (got no_nodes) (then_go (then_go (e ts) (one_more more)) (expect marks.RightParen))

abbrev pub leaf_at : Pos → Leaf → NodeShape
leaf_at p l = node p p bare (leaf l)

abbrev pub call_at : Pos → Text → NodeShapes → List Token → Got NodeShape
call_at p x as' ts = Some (node p p bare (call x as'), ts)

abbrev pub calling : Below → Pos → Text → List Token → Got NodeShape
calling B p x ts = then_go (args (B.operand 1) B.listed ts) (call_at p x)

abbrev pub leaf_or_call : Below → Pos → Leaf → List Token → Got NodeShape
leaf_or_call B p (number t) ts = got (leaf_at p (number t)) ts
leaf_or_call B p (char c) ts = got (leaf_at p (char c)) ts
leaf_or_call B p (str t) ts = got (leaf_at p (str t)) ts
leaf_or_call B p (name x) ts = either_way (after marks.LeftParen ts) (calling B p x) (got (leaf_at p (name x)) ts)

abbrev pub prefix_at : Pos → Prefix → NodeShape → List Token → Got NodeShape
prefix_at p u a ts = Some (node p p bare (prefix u a), ts)

abbrev pub size_at : Pos → TypeShape → List Token → Got NodeShape
size_at p t ts = Some (node p p bare (size_of_type t), ts)

abbrev pub paren_at : Pos → NodeShape → List Token → Got NodeShape
paren_at p a ts = Some (node p p bare (paren a), ts)

abbrev pub cast_at : Pos → TypeShape → NodeShape → List Token → Got NodeShape
cast_at p t a ts = Some (node p p bare (cast t a), ts)

-- a type name and the closing parenthesis
abbrev pub in_type : Below → List Token → Got TypeShape
in_type B ts = then_go (B.type ts) (expect marks.RightParen)

abbrev pub sizing : Below → Pos → List Token → Got NodeShape
sizing B p ts = then_go (in_type B ts) (size_at p)

abbrev pub casting : Below → Pos → TypeShape → List Token → Got NodeShape
casting B p t ts = then_go (B.operand 13 ts) (cast_at p t)

abbrev pub casting_from : Below → Pos → List Token → Got NodeShape
casting_from B p ts = then_go (in_type B ts) (casting B p)

-- `sizeof` and a type name in parentheses
abbrev pub type_behind : Prefix → List Token → Option (List Token)
type_behind (unary u) ts = None
type_behind (before s) ts = None
type_behind size_of ts = type_ahead ts

-- the number behind a probe word and a parenthesis
abbrev pub numbered : List Token → Got Text
numbered ts = go_after (after marks.LeftParen ts) a_number

abbrev pub probe_at : Pos → ProbeShape → NodeShape → List Token → Got NodeShape
probe_at p u a ts = where_true (nat_lt (max (cases_chain u) (chain a)) 4) (Some (node p p bare (probe u a), ts))

-- a probe's expression and the closing parenthesis
abbrev pub probing : Below → ℕ → Pos → ProbeShape → List Token → Got NodeShape
probing B l p u ts = then_go (then_go (B.inner l ts) (expect marks.RightParen)) (probe_at p u)

abbrev pub simple_from : Below → Pos → Probing → Text → List Token → Got NodeShape
simple_from B p u n ts = go_after (after marks.Comma ts) (probing B (probe_least u) p (simple u n))

abbrev pub selected : Below → Pos → Text → NodeShapes → List Token → Got NodeShape
selected B p n cs ts = go_after (after marks.Semicolon ts) (probing B 0 p (select n cs))

abbrev pub select_from : Below → Pos → Text → List Token → Got NodeShape
select_from B p n ts = then_go (B.cases ts) (selected B p n)

-- an operand, round which there are g probes
abbrev pub front : Below → ℕ → List Token → Start → Got NodeShape
front B g ts (at_leaf l r) = leaf_or_call B (place ts) l r
front B g ts (at_prefix u r) = either_way (type_behind u r) (sizing B (place ts)) (then_go (B.operand (prefix_least u) r) (prefix_at (place ts) u))
front B g ts (at_paren r) = either_way (type_ahead ts) (casting_from B (place ts)) (then_go (then_go (B.operand 0 r) (expect marks.RightParen)) (paren_at (place ts)))
front B g ts (at_simple u r) = where_true (nat_lt g most_probes) (then_go (numbered r) (simple_from B (place ts) u))
front B g ts (at_select r) = where_true (nat_lt g most_probes) (then_go (numbered r) (select_from B (place ts)))
front B g ts no_start = None

-- OPERATORS

abbrev pub two_on : (NodeShape → List Token → Got NodeShape) → NodeShape → Pos → Infix → NodeShape → List Token → Got NodeShape
two_on on a q u b ts = on (node (place_of a) q bare (two u a b)) ts

abbrev pub choose_on : (NodeShape → List Token → Got NodeShape) → NodeShape → Pos → NodeShape → NodeShape → List Token → Got NodeShape
choose_on on a q b c ts = on (node (place_of a) q bare (choose a b c)) ts

abbrev pub choose_from : Below → (NodeShape → List Token → Got NodeShape) → NodeShape → Pos → NodeShape → List Token → Got NodeShape
choose_from B on a q b ts = then_go (B.operand 2 ts) (choose_on on a q b)

abbrev pub index_on : (NodeShape → List Token → Got NodeShape) → NodeShape → Pos → NodeShape → List Token → Got NodeShape
index_on on a q b ts = on (node (place_of a) q bare (suffix a (index b))) ts

abbrev pub field_on : (NodeShape → List Token → Got NodeShape) → NodeShape → Pos → Access → Pos → Text → List Token → Got NodeShape
field_on on a q h p x ts = on (node (place_of a) q bare (suffix a (field h x p))) ts

-- the tree so far with one operator more, whose place is q and behind which r follows
abbrev pub grow : Below → (NodeShape → List Token → Got NodeShape) → NodeShape → Pos → List Token → Oper → Got NodeShape
grow B on a q r (infix_oper u) = then_go (B.operand (right_least u) r) (two_on on a q u)
grow B on a q r question = then_go (then_go (B.operand 0 r) (expect marks.Colon)) (choose_from B on a q)
grow B on a q r bracket = then_go (then_go (B.operand 0 r) (expect marks.RightBracket)) (index_on on a q)
grow B on a q r (access h) = then_go (a_word r) (field_on on a q h (place r))
grow B on a q r (step s) = on (node (place_of a) q bare (suffix a (behind s))) r
grow B on a q r open_paren = None

-- the operator binds at least as tightly as n, and takes this operand on its left
abbrev pub takes : ℕ → NodeShape → Oper → Bool
takes n a o = nat_le n (oper_level o) && nat_le (oper_least o) (level a)

abbrev pub next : Below → (NodeShape → List Token → Got NodeShape) → ℕ → ℕ → NodeShape → List Token → Sign → Got NodeShape
next B on n d a ts (a_sign o r) = if_so (takes n a o) (where_true (nat_lt (height a + d) 400) (grow B on a (place ts) r o)) (got a ts)
next B on n d a ts no_sign = got a ts

-- TYPES

abbrev pub one_got : NodeShape → List Token → Got MaybeNode
one_got a ts = Some (one_node a, ts)

abbrev pub length_onto : MaybeNode → LengthShapes → List Token → Got LengthShapes
length_onto l ls ts = Some (more_lengths l ls, ts)

abbrev pub length_more : (List Token → Got LengthShapes) → MaybeNode → List Token → Got LengthShapes
length_more more l ts = then_go (more ts) (length_onto l)

-- a length, which may be left out or not, and the closing bracket
abbrev pub length_from : Bool → (List Token → Got NodeShape) → List Token → Got MaybeNode
length_from free e ts = either_way (after marks.RightBracket ts) (λ r. where_true free (got no_node r)) (then_go (then_go (e ts) one_got) (expect marks.RightBracket))

abbrev pub const_more : ℕ → List Token → Got ℕ
const_more n ts = Some (suc n, ts)

abbrev pub reads_consts : ℕ → List Token → Got ℕ
reads_consts zero ts = None
reads_consts (suc k) ts = either_way (after_key keys.Const ts) (λ r. then_go (reads_consts k r) const_more) (got 0 ts)

abbrev pub star_onto : Pos → ℕ → List Star → List Token → Got (List Star)
star_onto p n ss ts = Some (record { pos = p; consts = n } ∷ ss, ts)

abbrev pub star_more : (List Token → Got (List Star)) → Pos → ℕ → List Token → Got (List Star)
star_more more p n ts = then_go (more ts) (star_onto p n)

-- stars, with d levels above the first
abbrev pub reads_stars : ℕ → ℕ → List Token → Got (List Star)
reads_stars d zero ts = None
reads_stars d (suc k) ts =
    either_way (after marks.Star ts) (λ r. where_true (nat_lt d 400) (then_go (reads_consts k r) (star_more (λ l. reads_stars (suc d) k l) (place ts)))) (got [] ts)

abbrev pub type_made : Pos → SpecShapes → List Star → LengthShapes → List Token → Got TypeShape
type_made p specs ss ls ts = Some (type_name p specs ss ls, ts)

abbrev pub type_lengths : (ℕ → List Token → Got LengthShapes) → Pos → SpecShapes → List Star → List Token → Got TypeShape
type_lengths ls p specs ss ts = then_go (ls (length ss) ts) (type_made p specs ss)

abbrev pub type_stars : (List Token → Got (List Star)) → (ℕ → List Token → Got LengthShapes) → Pos → SpecShapes → List Token → Got TypeShape
type_stars stars ls p specs ts = then_go (stars ts) (type_lengths ls p specs)

-- a type name; the reader of its lengths takes the number of its stars
abbrev pub type_from : (List Token → Got SpecShapes) → (List Token → Got (List Star)) → (ℕ → List Token → Got LengthShapes) → List Token → Got TypeShape
type_from specs stars ls ts = then_go (specs ts) (type_stars stars ls (place ts))

-- NAMES

abbrev pub plain_name : Pos → Text → Named
plain_name p x = record { pos = p; text = x; probe = None }

abbrev pub tag_from : Pos → List Token → Got Text → Got (Option Named)
tag_from p ts None = got None ts
tag_from p ts (Some x) = got (Some (plain_name p x.0)) x.1

-- a word, where there is one
abbrev pub tag : List Token → Got (Option Named)
tag ts = tag_from (place ts) ts (a_word ts)

abbrev pub probed_name : Pos → Text → Pos → Text → Option Named
probed_name p n q x = Some (record { pos = q; text = x; probe = Some (record { pos = p; number = n }) })

abbrev pub named_in : Pos → Text → Pos → Text → List Token → Got (Option Named)
named_in p n q x ts = expect marks.RightParen (probed_name p n q x) ts

abbrev pub named_word : Pos → Text → List Token → Got (Option Named)
named_word p n ts = then_go (a_word ts) (named_in p n (place ts))

abbrev pub named_number : Pos → Text → List Token → Got (Option Named)
named_number p n ts = go_after (after marks.Comma ts) (named_word p n)

-- a declared name, where there is one, with the probe round it
abbrev pub maybe_named : List Token → Got (Option Named)
maybe_named ts = either_way (after_probe words.Def ts) (λ r. then_go (numbered r) (named_number (place ts))) (tag ts)

-- SPECIFIERS

-- the readers of what stands in braces
pub record Lists : Type 0 where
  pub fields : List Token → Got DeclShapes
  pub value : List Token → Got NodeShape
  pub constants : List Token → Got EnumerShapes

abbrev pub struct_made : Option Named → DeclShapes → List Token → Got SpecShape
struct_made n ds ts = Some (struct n (members ds), ts)

-- a member list, one level below the d levels above the specifiers
abbrev pub struct_list : Lists → ℕ → Option Named → List Token → Got SpecShape
struct_list L d n ts = where_true (nat_lt d 400) (where_true (is_spec (spec_head ts)) (then_go (then_go (L.fields ts) (expect marks.RightBrace)) (struct_made n)))

abbrev pub struct_tag : Lists → ℕ → Option Named → List Token → Got SpecShape
struct_tag L d n ts = either_way (after marks.LeftBrace ts) (struct_list L d n) (where_true (is_there n) (got (struct n no_members) ts))

abbrev pub enum_made : Option Named → EnumerShapes → List Token → Got SpecShape
enum_made n es ts = Some (enum n (rows es), ts)

abbrev pub enumer_onto : Named → MaybeNode → EnumerShapes → List Token → Got EnumerShapes
enumer_onto n v es ts = Some (more_enumers n v es, ts)

abbrev pub enumer_more : (List Token → Got EnumerShapes) → Named → MaybeNode → List Token → Got EnumerShapes
enumer_more more n v ts = then_go (more ts) (enumer_onto n v)

abbrev pub value_from : (List Token → Got NodeShape) → List Token → Got MaybeNode
value_from e ts = either_way (after marks.Equal ts) (λ r. then_go (e r) one_got) (got no_node ts)

abbrev pub enumer_value : (List Token → Got NodeShape) → (List Token → Got EnumerShapes) → Pos → Text → List Token → Got EnumerShapes
enumer_value e more p x ts = then_go (value_from e ts) (enumer_more more (plain_name p x))

abbrev pub enumer_from : (List Token → Got NodeShape) → (List Token → Got EnumerShapes) → List Token → Got EnumerShapes
enumer_from e more ts = then_go (a_word ts) (enumer_value e more (place ts))

abbrev pub enum_list : Lists → Option Named → List Token → Got SpecShape
enum_list L n ts = then_go (then_go (enumer_from L.value L.constants ts) (expect marks.RightBrace)) (enum_made n)

abbrev pub enum_tag : Lists → Option Named → List Token → Got SpecShape
enum_tag L n ts = either_way (after marks.LeftBrace ts) (enum_list L n) (where_true (is_there n) (got (enum n no_rows) ts))

abbrev pub spec_onto : Pos → SpecShape → SpecShapes → List Token → Got SpecShapes
spec_onto p s ss ts = Some (more_specs p s ss, ts)

abbrev pub spec_more : (List Token → Got SpecShapes) → Pos → SpecShape → List Token → Got SpecShapes
spec_more more p s ts = then_go (more ts) (spec_onto p s)

abbrev pub spec_list : Lists → ℕ → (List Token → Got SpecShapes) → List Token → SpecHead → Got SpecShapes
spec_list L d more ts (a_spec_word x r) = spec_more more (place ts) (word x) r
spec_list L d more ts (a_struct r) = then_go (then_go (tag r) (struct_tag L d)) (spec_more more (place ts))
spec_list L d more ts (an_enum r) = then_go (then_go (tag r) (enum_tag L)) (spec_more more (place ts))
spec_list L d more ts no_spec = got no_specs ts

-- one specifier at least
abbrev pub some_from : (List Token → Got SpecShapes) → List Token → Got SpecShapes
some_from specs ts = where_true (is_spec (spec_head ts)) (specs ts)
