-- Where a form is written, places behind it are places of its tokens and those behind them; and the blocks of an expression stand at its tokens.
use Rattle.std.proofs.Common.{◌≡◌, List, [], ◌∷◌, Bool, true, false, ap, sym, subst, inl, inr}
use Rattle.c_base.specs.declared.place.Pos.{Pos}
use Rattle.c_syntax.specs.declared.token.Token.{Token}
use Rattle.c_syntax.specs.declared.token.TokenKind.{TokenKind}
use Rattle.c_syntax.specs.Forms.{Form, nothing, is, at, starts, seq, Head, a_token, no_token, head, place, Written}
use Rattle.c_syntax.specs.Grammar.{node_form, expr_form, suffix_form, nodes_form, led_nodes_form, in_parens, type_form}
use Rattle.c_syntax.specs.Shape.{unary, before, size_of, plain, and, or, assign, comma, NodeShape, node, ExprShape, leaf, paren, call, prefix, size_of_type, cast, suffix, two, choose, probe, index, field, behind, simple, select, NodeShapes, no_nodes, more_nodes, ItemShapes}
use Rattle.c_walk.specs.declared.around.Taken.{Taken}
use Rattle.c_walk.specs.declared.around.Taken.TheVariants.{Read, Changed}
use Rattle.c_walk.specs.Walked.{operand_taken, left_taken, right_taken}
use Rattle.c_ordered.specs.Parts.{Part, is_block, place_of, operand, tested, tested_apart, apart, chosen_by}
use Rattle.c_ordered.specs.Outlines.{Outline, Outlines, of_node, in_form, of_nodes}
use Rattle.c_ordered.specs.Texts.{StandAt}
use Rattle.c_ordered.proofs.Preorder.{and_tree, and_trees}

-- ---- tokens

abbrev pub past : List Token → List Token
past [] = []
past (t ∷ ts) = ts

abbrev pub IsToken : Head → Type 0
IsToken (a_token k ts) = Unit {0}
IsToken no_token = ⊥

abbrev pub rest_of : Head → List Token
rest_of (a_token k ts) = ts
rest_of no_token = []

-- places behind some tokens
pub later : (t : Token) (ps : List Pos) (ts : List Token) → StandAt ps ts → StandAt ps (t ∷ ts)
later t ps ts h = inl h

pub from_past : (ps : List Pos) (ts : List Token) → StandAt ps (past ts) → StandAt ps ts
from_past ps [] h = h
from_past ps (t ∷ ts) h = inl h

-- behind one token
pub behind_token : (k : TokenKind) (ts rest : List Token) (ps : List Pos) → head ts ≡ a_token k rest → StandAt ps rest → StandAt ps (past ts)
behind_token k [] rest ps e h = absurd (subst IsToken (sym e) tt)
behind_token k (t ∷ ts) rest ps e h = subst (λ xs. StandAt ps xs) (sym (ap rest_of e)) h

-- one more place, that of the first token
pub first_place : (k : TokenKind) (ts rest : List Token) (p : Pos) (ps : List Pos) → p ≡ place ts → head ts ≡ a_token k rest → StandAt ps (past ts) → StandAt (p ∷ ps) ts
first_place k [] rest p ps q e h = absurd (subst IsToken (sym e) tt)
first_place k (t ∷ ts) rest p ps q e h = inr (ps, ap (λ x. x ∷ ps) q, h)

pub skips : (f : Form) (ts rest : List Token) (ps : List Pos) → Written f ts rest → StandAt ps rest → StandAt ps ts
skips nothing ts rest ps w h = subst (λ xs. StandAt ps xs) (sym w) h
skips (is k) ts rest ps w h = from_past ps ts (behind_token k ts rest ps w h)
skips (at p k) ts rest ps w h = from_past ps ts (behind_token k ts rest ps w.1 h)
skips (starts p f) ts rest ps w h = skips f ts rest ps w.1 h
skips (seq f g) ts rest ps w h = skips f ts w.middle ps w.first (skips g w.middle rest ps w.second h)

-- ---- blocks, in front of further places

abbrev pub place_if : Bool → Pos → List Pos
place_if true p = p ∷ []
place_if false p = []

abbrev pub own : Part → List Pos
own x = place_if (is_block x.role) (place_of x.what)

abbrev pub and_blocks : Outline → List Pos → List Pos
and_blocks a ps = and_tree own a ps

abbrev pub and_all : Outlines → List Pos → List Pos
and_all ts ps = and_trees own ts ps

-- ---- expressions

-- one behind another
pub over : (k : TokenKind) (ts rest : List Token) (ps : List Pos) → head ts ≡ a_token k rest → StandAt ps rest → StandAt ps ts
over k ts rest ps e h = from_past ps ts (behind_token k ts rest ps e h)

pub token_first : (k : TokenKind) (ts rest : List Token) → head ts ≡ a_token k rest → IsToken (head ts)
token_first k ts rest e = subst IsToken (sym e) tt

-- an expression has a first token
mutual
  pub node_begins : (a : NodeShape) (ts rest : List Token) → Written (node_form a) ts rest → IsToken (head ts)
  node_begins (node p o n f) ts rest w = form_begins o f ts rest w.1

  pub form_begins : (o : Pos) (f : ExprShape) (ts rest : List Token) → Written (expr_form o f) ts rest → IsToken (head ts)
  form_begins o (leaf l) ts rest w = token_first _ ts rest w.1
  form_begins o (paren a) ts rest w = token_first _ ts w.middle w.first.1
  form_begins o (call x args) ts rest w = token_first _ ts w.middle w.first.1
  form_begins o (prefix u a) ts rest w = token_first _ ts w.middle w.first.1
  form_begins o (size_of_type t) ts rest w = token_first _ ts w.middle w.first.1
  form_begins o (cast t a) ts rest w = token_first _ ts w.middle w.first.1
  form_begins o (suffix a s) ts rest w = node_begins a ts w.middle w.first
  form_begins o (two u a b) ts rest w = node_begins a ts w.middle w.first
  form_begins o (choose a b c) ts rest w = node_begins a ts w.middle w.first
  form_begins o (probe (simple u x) a) ts rest w = token_first _ ts w.middle w.first.1
  form_begins o (probe (select x cs) a) ts rest w = token_first _ ts w.middle w.first.1

pub begins_here : (ts : List Token) (p : Pos) (ps : List Pos) → p ≡ place ts → IsToken (head ts) → StandAt ps (past ts) → StandAt (p ∷ ps) ts
begins_here [] p ps q e h = absurd e
begins_here (t ∷ ts) p ps q e h = inr (ps, ap (λ x. x ∷ ps) q, h)

-- the blocks in an expression stand behind its first token; one that is a block itself stands at it
mutual
  pub operand_stands : (k : Taken) (a : NodeShape) (ts rest : List Token) (ps : List Pos) → Written (node_form a) ts rest → StandAt ps rest → StandAt (and_blocks (of_node (operand k) a) ps) (past ts)
  operand_stands k (node p o n f) ts rest ps w h = form_stands k o f ts rest ps w.1 h

  pub tested_stands : (a : NodeShape) (ts rest : List Token) (ps : List Pos) → Written (node_form a) ts rest → StandAt ps rest → StandAt (and_blocks (of_node tested a) ps) (past ts)
  tested_stands (node p o n f) ts rest ps w h = form_stands Read o f ts rest ps w.1 h

  pub chosen_stands : (items : ItemShapes) (a : NodeShape) (ts rest : List Token) (ps : List Pos) → Written (node_form a) ts rest → StandAt ps rest → StandAt (and_blocks (of_node (chosen_by items) a) ps) (past ts)
  chosen_stands items (node p o n f) ts rest ps w h = form_stands Read o f ts rest ps w.1 h

  pub apart_test_stands : (a : NodeShape) (ts rest : List Token) (ps : List Pos) → Written (node_form a) ts rest → StandAt ps rest → StandAt (and_blocks (of_node tested_apart a) ps) ts
  apart_test_stands (node p o n f) ts rest ps w h = begins_here ts p (and_all (in_form Read f) ps) w.0 (form_begins o f ts rest w.1) (form_stands Read o f ts rest ps w.1 h)

  pub apart_stands : (a : NodeShape) (ts rest : List Token) (ps : List Pos) → Written (node_form a) ts rest → StandAt ps rest → StandAt (and_blocks (of_node apart a) ps) ts
  apart_stands (node p o n f) ts rest ps w h = begins_here ts p (and_all (in_form Read f) ps) w.0 (form_begins o f ts rest w.1) (form_stands Read o f ts rest ps w.1 h)

  -- behind a token that stands in front
  pub led_stands : (k : Taken) (a : NodeShape) (ts rest : List Token) (ps : List Pos) → Written (node_form a) ts rest → StandAt ps rest → StandAt (and_blocks (of_node (operand k) a) ps) ts
  led_stands k (node p o n f) ts rest ps w h = from_past (and_all (in_form k f) ps) ts (form_stands k o f ts rest ps w.1 h)

  form_stands : (k : Taken) (o : Pos) (f : ExprShape) (ts rest : List Token) (ps : List Pos) → Written (expr_form o f) ts rest → StandAt ps rest → StandAt (and_all (in_form k f) ps) (past ts)
  form_stands k o (leaf l) ts rest ps w h = behind_token _ ts rest ps w.1 h
  form_stands k o (paren a) ts rest ps w h =
      let u = w.second in
      behind_token _ ts w.middle _ w.first.1 (led_stands k a w.middle u.middle ps u.first (over _ u.middle rest ps u.second h))
  form_stands k o (call x args) ts rest ps w h =
      let u = w.second in
      let v = u.second in
      behind_token _ ts w.middle _ w.first.1 (over _ w.middle u.middle _ u.first (nodes_stand args u.middle v.middle ps v.first (over _ v.middle rest ps v.second h)))
  form_stands k o (prefix (unary u) a) ts rest ps w h = behind_token _ ts w.middle _ w.first.1 (led_stands (operand_taken u) a w.middle rest ps w.second h)
  form_stands k o (prefix (before u) a) ts rest ps w h = behind_token _ ts w.middle _ w.first.1 (led_stands Changed a w.middle rest ps w.second h)
  form_stands k o (prefix size_of a) ts rest ps w h = behind_token _ ts w.middle ps w.first.1 (skips (node_form a) w.middle rest ps w.second h)
  form_stands k o (size_of_type t) ts rest ps w h = behind_token _ ts w.middle ps w.first.1 (skips (in_parens (type_form t)) w.middle rest ps w.second h)
  form_stands k o (cast t a) ts rest ps w h =
      let u = w.second in
      let v = u.second in
      behind_token _ ts w.middle _ w.first.1 (skips (type_form t) w.middle u.middle _ u.first (over _ u.middle v.middle _ v.first (led_stands Read a v.middle rest ps v.second h)))
  form_stands k o (suffix a (index b)) ts rest ps w h =
      let u = w.second in
      let v = u.second in
      operand_stands Read a ts w.middle _ w.first (over _ w.middle u.middle _ u.first.1 (led_stands Read b u.middle v.middle ps v.first (over _ v.middle rest ps v.second h)))
  form_stands k o (suffix a (field y x q)) ts rest ps w h = operand_stands Read a ts w.middle ps w.first (skips (suffix_form o (field y x q)) w.middle rest ps w.second h)
  form_stands k o (suffix a (behind u)) ts rest ps w h = operand_stands Changed a ts w.middle ps w.first (skips (suffix_form o (behind u)) w.middle rest ps w.second h)
  form_stands k o (two and a b) ts rest ps w h = let u = w.second in tested_stands a ts w.middle _ w.first (over _ w.middle u.middle _ u.first.1 (apart_test_stands b u.middle rest ps u.second h))
  form_stands k o (two or a b) ts rest ps w h = let u = w.second in tested_stands a ts w.middle _ w.first (over _ w.middle u.middle _ u.first.1 (apart_test_stands b u.middle rest ps u.second h))
  form_stands k o (two (assign x) a b) ts rest ps w h = let u = w.second in operand_stands (left_taken x) a ts w.middle _ w.first (over _ w.middle u.middle _ u.first.1 (led_stands (right_taken x a) b u.middle rest ps u.second h))
  form_stands k o (two (plain x) a b) ts rest ps w h = let u = w.second in operand_stands Read a ts w.middle _ w.first (over _ w.middle u.middle _ u.first.1 (led_stands Read b u.middle rest ps u.second h))
  form_stands k o (two comma a b) ts rest ps w h = let u = w.second in operand_stands Read a ts w.middle _ w.first (over _ w.middle u.middle _ u.first.1 (led_stands Read b u.middle rest ps u.second h))
  form_stands k o (choose a b c) ts rest ps w h =
      let u = w.second in
      let v = u.second in
      let x = v.second in
      tested_stands a ts w.middle _ w.first (over _ w.middle u.middle _ u.first.1 (apart_stands b u.middle v.middle _ v.first (over _ v.middle x.middle _ x.first (apart_stands c x.middle rest ps x.second h))))
  form_stands k o (probe (simple y n) a) ts rest ps w h =
      let u = w.second in
      let v = u.second in
      let x = v.first in
      let z = x.second in
      behind_token _ ts w.middle _ w.first.1 (over _ w.middle u.middle _ u.first (over _ u.middle x.middle _ x.first (over _ x.middle z.middle _ z.first (led_stands k a z.middle v.middle ps z.second (over _ v.middle rest ps v.second h)))))
  form_stands k o (probe (select n cs) a) ts rest ps w h =
      let u = w.second in
      let v = u.second in
      let x = v.first in
      let z = x.second in
      let y = z.second in
      behind_token _ ts w.middle _ w.first.1 (over _ w.middle u.middle _ u.first (over _ u.middle x.middle _ x.first (skips (led_nodes_form cs) x.middle z.middle _ z.first (over _ z.middle y.middle _ y.first (led_stands k a y.middle v.middle ps y.second (over _ v.middle rest ps v.second h))))))

  nodes_stand : (args : NodeShapes) (ts rest : List Token) (ps : List Pos) → Written (nodes_form args) ts rest → StandAt ps rest → StandAt (and_all (of_nodes args) ps) ts
  nodes_stand no_nodes ts rest ps w h = skips nothing ts rest ps w h
  nodes_stand (more_nodes a args) ts rest ps w h = led_stands Read a ts w.middle _ w.first (led_nodes_stand args w.middle rest ps w.second h)

  led_nodes_stand : (args : NodeShapes) (ts rest : List Token) (ps : List Pos) → Written (led_nodes_form args) ts rest → StandAt ps rest → StandAt (and_all (of_nodes args) ps) ts
  led_nodes_stand no_nodes ts rest ps w h = skips nothing ts rest ps w h
  led_nodes_stand (more_nodes a args) ts rest ps w h =
      let u = w.second in
      over _ ts w.middle _ w.first (led_stands Read a w.middle u.middle _ u.first (led_nodes_stand args u.middle rest ps u.second h))
