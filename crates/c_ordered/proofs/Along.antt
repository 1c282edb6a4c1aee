-- The parts of expressions and declarations stand in the order of their tokens.
use Rattle.std.proofs.Common.{◌≡◌, suc, List, [], ◌∷◌, ◌++◌, Option, Some, None, refl, ap, sym, subst, ◌∙◌}
use Rattle.c_base.specs.declared.place.Pos.{Pos}
use Rattle.c_syntax.specs.declared.text.Text.{Text}
use Rattle.c_syntax.specs.declared.token.Token.{Token}
use Rattle.c_syntax.specs.declared.token.TokenKind.{TokenKind}
use Rattle.c_syntax.specs.declared.tree.Named.{Named}
use Rattle.c_syntax.specs.declared.tree.ProbeMark.{ProbeMark}
use Rattle.c_syntax.specs.Forms.{Form, nothing, is, at, starts, seq, a_token, head, place, Written}
use Rattle.c_syntax.specs.Grammar.{named_as, maybe_named_form, node_form, expr_form, suffix_form, nodes_form, led_nodes_form, maybe_node_form, type_form, specs_form, stars_form, behind_form, led_params_form, param_form, maybe_init_form, declarator_form, declarators_form, led_declarators_form, decl_form, decls_form}
use Rattle.c_syntax.specs.Shape.{unary, before, size_of, plain, and, or, assign, comma, NodeShape, node, ExprShape, leaf, paren, call, prefix, size_of_type, cast, suffix, two, choose, probe, index, field, behind, simple, select, NodeShapes, no_nodes, more_nodes, MaybeNode, no_node, one_node, DeclShape, decl, DeclShapes, no_decls, more_decls, DeclaratorShape, declarator, DeclaratorShapes, no_declarators, more_declarators, DeclFormShape, arrays, function, empty, void, params, no_init, one_init, one, listed}
use Rattle.c_walk.specs.declared.around.Taken.{Taken}
use Rattle.c_walk.specs.declared.around.Taken.TheVariants.{Read, Changed}
use Rattle.c_walk.specs.Walked.{operand_taken, left_taken, right_taken}
use Rattle.c_ordered.specs.Parts.{Part, Role, What, name, definition, body, place_of, operand, tested, tested_apart, apart, chosen_by, controlled, taken}
use Rattle.c_ordered.specs.Parts as parts
use Rattle.c_ordered.specs.Outlines.{Outline, Outlines, of_node, in_form, of_nodes, and_maybe, of_locals, and_declared, of_valued, of_outer, and_outer, and_parameters}
use Rattle.c_ordered.specs.Texts.{StandAlong, has_place}
use Rattle.c_ordered.proofs.Preorder.{and_tree, and_trees}
use Rattle.c_ordered.proofs.Tokens.{IsToken, rest_of, token_first, form_begins, place_if}

-- ---- places along tokens

behind_token : (t : Token) (ps : List Pos) (ts : List Token) → StandAlong ps ts → StandAlong ps (t ∷ ts)
behind_token t ps ts h = (0, ps, refl, h)

pub over : (k : TokenKind) (ts rest : List Token) (ps : List Pos) → head ts ≡ a_token k rest → StandAlong ps rest → StandAlong ps ts
over k [] rest ps e h = absurd (subst IsToken (sym e) tt)
over k (t ∷ ts) rest ps e h = behind_token t ps ts (subst (λ xs. StandAlong ps xs) (sym (ap rest_of e)) h)

-- one more place, that of the first token
pub here : (ts : List Token) (p : Pos) (ps : List Pos) → p ≡ place ts → IsToken (head ts) → StandAlong ps ts → StandAlong (p ∷ ps) ts
here [] p ps q e h = absurd e
here (t ∷ ts) p ps q e h = (suc h.0, h.1, ap (λ x. x ∷ ps) q ∙ ap (λ xs. t.pos ∷ xs) h.2, h.3)

pub skips : (f : Form) (ts rest : List Token) (ps : List Pos) → Written f ts rest → StandAlong ps rest → StandAlong ps ts
skips nothing ts rest ps w h = subst (λ xs. StandAlong ps xs) (sym w) h
skips (is k) ts rest ps w h = over k ts rest ps w h
skips (at p k) ts rest ps w h = over k ts rest ps w.1 h
skips (starts p f) ts rest ps w h = skips f ts rest ps w.1 h
skips (seq f g) ts rest ps w h = skips f ts w.middle ps w.first (skips g w.middle rest ps w.second h)

-- there is a token where there is one behind
pub begins : (f : Form) (ts rest : List Token) → Written f ts rest → IsToken (head rest) → IsToken (head ts)
begins nothing ts rest w h = subst (λ xs. IsToken (head xs)) (sym w) h
begins (is k) ts rest w h = token_first k ts rest w
begins (at p k) ts rest w h = token_first k ts rest w.1
begins (starts p f) ts rest w h = begins f ts rest w.1 h
begins (seq f g) ts rest w h = begins f ts w.middle w.first (begins g w.middle rest w.second h)

-- ---- places of parts, in front of further places

abbrev pub own : Part → List Pos
own x = place_if (has_place x.what) (place_of x.what)

abbrev pub and_places : Outline → List Pos → List Pos
and_places a ps = and_tree own a ps

abbrev pub and_all : Outlines → List Pos → List Pos
and_all ts ps = and_trees own ts ps

-- ---- expressions

mutual
  pub node_along : (r : Role) (a : NodeShape) (ts rest : List Token) (ps : List Pos) → Written (node_form a) ts rest → StandAlong ps rest → StandAlong (and_places (of_node r a) ps) ts
  node_along r (node p o n f) ts rest ps w h = here ts p (and_all (in_form (taken r) f) ps) w.0 (form_begins o f ts rest w.1) (form_along (taken r) o f ts rest ps w.1 h)

  form_along : (k : Taken) (o : Pos) (f : ExprShape) (ts rest : List Token) (ps : List Pos) → Written (expr_form o f) ts rest → StandAlong ps rest → StandAlong (and_all (in_form k f) ps) ts
  form_along k o (leaf l) ts rest ps w h = over _ ts rest ps w.1 h
  form_along k o (paren a) ts rest ps w h =
      let u = w.second in
      over _ ts w.middle _ w.first.1 (node_along (operand k) a w.middle u.middle ps u.first (over _ u.middle rest ps u.second h))
  form_along k o (call x args) ts rest ps w h =
      let u = w.second in
      let v = u.second in
      over _ ts w.middle _ w.first.1 (over _ w.middle u.middle _ u.first (nodes_along args u.middle v.middle ps v.first (over _ v.middle rest ps v.second h)))
  form_along k o (prefix (unary u) a) ts rest ps w h = over _ ts w.middle _ w.first.1 (node_along (operand (operand_taken u)) a w.middle rest ps w.second h)
  form_along k o (prefix (before u) a) ts rest ps w h = over _ ts w.middle _ w.first.1 (node_along (operand Changed) a w.middle rest ps w.second h)
  form_along k o (prefix size_of a) ts rest ps w h = skips (expr_form o (prefix size_of a)) ts rest ps w h
  form_along k o (size_of_type t) ts rest ps w h = skips (expr_form o (size_of_type t)) ts rest ps w h
  form_along k o (cast t a) ts rest ps w h =
      let u = w.second in
      let v = u.second in
      over _ ts w.middle _ w.first.1 (skips (type_form t) w.middle u.middle _ u.first (over _ u.middle v.middle _ v.first (node_along (operand Read) a v.middle rest ps v.second h)))
  form_along k o (suffix a (index b)) ts rest ps w h =
      let u = w.second in
      let v = u.second in
      node_along (operand Read) a ts w.middle _ w.first (over _ w.middle u.middle _ u.first.1 (node_along (operand Read) b u.middle v.middle ps v.first (over _ v.middle rest ps v.second h)))
  form_along k o (suffix a (field y x q)) ts rest ps w h = node_along (operand Read) a ts w.middle ps w.first (skips (suffix_form o (field y x q)) w.middle rest ps w.second h)
  form_along k o (suffix a (behind u)) ts rest ps w h = node_along (operand Changed) a ts w.middle ps w.first (skips (suffix_form o (behind u)) w.middle rest ps w.second h)
  form_along k o (two and a b) ts rest ps w h = let u = w.second in node_along tested a ts w.middle _ w.first (over _ w.middle u.middle _ u.first.1 (node_along tested_apart b u.middle rest ps u.second h))
  form_along k o (two or a b) ts rest ps w h = let u = w.second in node_along tested a ts w.middle _ w.first (over _ w.middle u.middle _ u.first.1 (node_along tested_apart b u.middle rest ps u.second h))
  form_along k o (two (assign x) a b) ts rest ps w h = let u = w.second in node_along (operand (left_taken x)) a ts w.middle _ w.first (over _ w.middle u.middle _ u.first.1 (node_along (operand (right_taken x a)) b u.middle rest ps u.second h))
  form_along k o (two (plain x) a b) ts rest ps w h = let u = w.second in node_along (operand Read) a ts w.middle _ w.first (over _ w.middle u.middle _ u.first.1 (node_along (operand Read) b u.middle rest ps u.second h))
  form_along k o (two comma a b) ts rest ps w h = let u = w.second in node_along (operand Read) a ts w.middle _ w.first (over _ w.middle u.middle _ u.first.1 (node_along (operand Read) b u.middle rest ps u.second h))
  form_along k o (choose a b c) ts rest ps w h =
      let u = w.second in
      let v = u.second in
      let x = v.second in
      node_along tested a ts w.middle _ w.first (over _ w.middle u.middle _ u.first.1 (node_along apart b u.middle v.middle _ v.first (over _ v.middle x.middle _ x.first (node_along apart c x.middle rest ps x.second h))))
  form_along k o (probe (simple y n) a) ts rest ps w h =
      let u = w.second in
      let v = u.second in
      let x = v.first in
      let z = x.second in
      over _ ts w.middle _ w.first.1 (over _ w.middle u.middle _ u.first (over _ u.middle x.middle _ x.first (over _ x.middle z.middle _ z.first (node_along (operand k) a z.middle v.middle ps z.second (over _ v.middle rest ps v.second h)))))
  form_along k o (probe (select n cs) a) ts rest ps w h =
      let u = w.second in
      let v = u.second in
      let x = v.first in
      let z = x.second in
      let y = z.second in
      over _ ts w.middle _ w.first.1 (over _ w.middle u.middle _ u.first (over _ u.middle x.middle _ x.first (skips (led_nodes_form cs) x.middle z.middle _ z.first (over _ z.middle y.middle _ y.first (node_along (operand k) a y.middle v.middle ps y.second (over _ v.middle rest ps v.second h))))))

  nodes_along : (args : NodeShapes) (ts rest : List Token) (ps : List Pos) → Written (nodes_form args) ts rest → StandAlong ps rest → StandAlong (and_all (of_nodes args) ps) ts
  nodes_along no_nodes ts rest ps w h = skips nothing ts rest ps w h
  nodes_along (more_nodes a args) ts rest ps w h = node_along (operand Read) a ts w.middle _ w.first (led_nodes_along args w.middle rest ps w.second h)

  led_nodes_along : (args : NodeShapes) (ts rest : List Token) (ps : List Pos) → Written (led_nodes_form args) ts rest → StandAlong ps rest → StandAlong (and_all (of_nodes args) ps) ts
  led_nodes_along no_nodes ts rest ps w h = skips nothing ts rest ps w h
  led_nodes_along (more_nodes a args) ts rest ps w h =
      let u = w.second in
      over _ ts w.middle _ w.first (node_along (operand Read) a w.middle u.middle _ u.first (led_nodes_along args u.middle rest ps u.second h))

pub maybe_along : (r : Role) (e : MaybeNode) (ts rest : List Token) (us : Outlines) (ps : List Pos) → Written (maybe_node_form e) ts rest → StandAlong (and_all us ps) rest → StandAlong (and_all (and_maybe r e us) ps) ts
maybe_along r no_node ts rest us ps w h = skips nothing ts rest (and_all us ps) w h
maybe_along r (one_node a) ts rest us ps w h = node_along r a ts rest (and_all us ps) w h

-- ---- declarations

named_along : (p : Pos) (x : Text) (d : Option ProbeMark) (ts rest : List Token) (ps : List Pos) → Written (named_as p x d) ts rest → StandAlong ps rest → StandAlong (p ∷ ps) ts
named_along p x None ts rest ps w h = here ts p ps w.0 (token_first _ ts rest w.1) (over _ ts rest ps w.1 h)
named_along p x (Some d) ts rest ps w h =
    let u = w.second in
    let v = u.second in
    let y = v.first in
    let z = y.second in
    let n = z.second in
    over _ ts w.middle _ w.first.1 (over _ w.middle u.middle _ u.first (over _ u.middle y.middle _ y.first (over _ y.middle z.middle _ z.first
    (here z.middle p ps n.0 (token_first _ z.middle v.middle n.1) (over _ z.middle v.middle ps n.1 (over _ v.middle rest ps v.second h))))))

-- a declared name, or none
name_along : (x : Option Named) (r : Role) (ts rest : List Token) (ps : List Pos) → Written (maybe_named_form x) ts rest → StandAlong ps rest → StandAlong (own (record { role = r; what = name x }) ++ ps) ts
name_along None r ts rest ps w h = skips nothing ts rest ps w h
name_along (Some x) r ts rest ps w h = named_along x.pos x.text x.probe ts rest ps w h

pub definition_along : (x : Option Named) (r : Role) (ts rest : List Token) (ps : List Pos) → Written (maybe_named_form x) ts rest → StandAlong ps rest → StandAlong (own (record { role = r; what = definition x }) ++ ps) ts
definition_along None r ts rest ps w h = skips nothing ts rest ps w h
definition_along (Some x) r ts rest ps w h = named_along x.pos x.text x.probe ts rest ps w h

local_along : (d : DeclaratorShape) (ds : DeclaratorShapes) (ts rest : List Token) (ps : List Pos) → Written (declarator_form d) ts rest → StandAlong (and_all (of_locals ds) ps) rest → StandAlong (and_all (of_locals (more_declarators d ds)) ps) ts
local_along (declarator stars x (arrays ls) no_init) ds ts rest ps w h =
    let u = w.second in
    let v = u.second in
    skips (stars_form stars) ts w.middle _ w.first (name_along x parts.other w.middle u.middle _ u.first (skips (behind_form (arrays ls)) u.middle v.middle _ v.first (skips nothing v.middle rest _ v.second h)))
local_along (declarator stars x (arrays ls) (one_init (one a))) ds ts rest ps w h =
    let u = w.second in
    let v = u.second in
    let y = v.second in
    skips (stars_form stars) ts w.middle _ w.first (name_along x parts.defined w.middle u.middle _ u.first (skips (behind_form (arrays ls)) u.middle v.middle _ v.first (over _ v.middle y.middle _ y.first (node_along (operand Read) a y.middle rest _ y.second h))))
local_along (declarator stars x (arrays ls) (one_init (listed p list last))) ds ts rest ps w h =
    let u = w.second in
    let v = u.second in
    skips (stars_form stars) ts w.middle _ w.first (name_along x parts.defined w.middle u.middle _ u.first (skips (behind_form (arrays ls)) u.middle v.middle _ v.first (skips (maybe_init_form (one_init (listed p list last))) v.middle rest _ v.second h)))
local_along (declarator stars x (function fs) i) ds ts rest ps w h = skips (declarator_form (declarator stars x (function fs) i)) ts rest _ w h

led_locals_along : (ds : DeclaratorShapes) (ts rest : List Token) (ps : List Pos) → Written (led_declarators_form ds) ts rest → StandAlong ps rest → StandAlong (and_all (of_locals ds) ps) ts
led_locals_along no_declarators ts rest ps w h = skips nothing ts rest ps w h
led_locals_along (more_declarators d ds) ts rest ps w h =
    let u = w.second in
    over _ ts w.middle _ w.first (local_along d ds w.middle u.middle ps u.first (led_locals_along ds u.middle rest ps u.second h))

locals_along : (ds : DeclaratorShapes) (ts rest : List Token) (ps : List Pos) → Written (declarators_form ds) ts rest → StandAlong ps rest → StandAlong (and_all (of_locals ds) ps) ts
locals_along no_declarators ts rest ps w h = skips nothing ts rest ps w h
locals_along (more_declarators d ds) ts rest ps w h = local_along d ds ts w.middle ps w.first (led_locals_along ds w.middle rest ps w.second h)

pub declared_along : (ds : DeclShapes) (ts rest : List Token) (us : Outlines) (ps : List Pos) → Written (decls_form ds) ts rest → StandAlong (and_all us ps) rest → StandAlong (and_all (and_declared ds us) ps) ts
declared_along no_decls ts rest us ps w h = skips nothing ts rest (and_all us ps) w h
declared_along (more_decls (decl p specs names) ds) ts rest us ps w h =
    let u = w.first.1 in
    let v = u.second in
    here ts p _ w.first.0 (begins (specs_form specs) ts u.middle u.first (begins (declarators_form names) u.middle v.middle v.first (token_first _ v.middle w.middle v.second)))
    (skips (specs_form specs) ts u.middle _ u.first (locals_along names u.middle v.middle _ v.first (over _ v.middle w.middle _ v.second (declared_along ds w.middle rest us ps w.second h))))

-- parameters and variables outside of functions
valued_along : (d : DeclaratorShape) (ds : DeclaratorShapes) (ts rest : List Token) (ps : List Pos) → Written (declarator_form d) ts rest → StandAlong (and_all (of_valued ds) ps) rest → StandAlong (and_all (of_valued (more_declarators d ds)) ps) ts
valued_along (declarator stars x (arrays ls) i) ds ts rest ps w h =
    let u = w.second in
    let v = u.second in
    skips (stars_form stars) ts w.middle _ w.first (name_along x parts.defined w.middle u.middle _ u.first (skips (behind_form (arrays ls)) u.middle v.middle _ v.first (skips (maybe_init_form i) v.middle rest _ v.second h)))
valued_along (declarator stars x (function fs) i) ds ts rest ps w h = skips (declarator_form (declarator stars x (function fs) i)) ts rest _ w h

led_valued_along : (ds : DeclaratorShapes) (ts rest : List Token) (ps : List Pos) → Written (led_declarators_form ds) ts rest → StandAlong ps rest → StandAlong (and_all (of_valued ds) ps) ts
led_valued_along no_declarators ts rest ps w h = skips nothing ts rest ps w h
led_valued_along (more_declarators d ds) ts rest ps w h =
    let u = w.second in
    over _ ts w.middle _ w.first (valued_along d ds w.middle u.middle ps u.first (led_valued_along ds u.middle rest ps u.second h))

all_valued_along : (ds : DeclaratorShapes) (ts rest : List Token) (ps : List Pos) → Written (declarators_form ds) ts rest → StandAlong ps rest → StandAlong (and_all (of_valued ds) ps) ts
all_valued_along no_declarators ts rest ps w h = skips nothing ts rest ps w h
all_valued_along (more_declarators d ds) ts rest ps w h = valued_along d ds ts w.middle ps w.first (led_valued_along ds w.middle rest ps w.second h)

pub outer_along : (d : DeclShape) (ts rest : List Token) (ps : List Pos) → Written (decl_form d) ts rest → StandAlong ps rest → StandAlong (and_places (of_outer d) ps) ts
outer_along (decl p specs names) ts rest ps w h =
    let u = w.1 in
    let v = u.second in
    here ts p _ w.0 (begins (specs_form specs) ts u.middle u.first (begins (declarators_form names) u.middle v.middle v.first (token_first _ v.middle rest v.second)))
    (skips (specs_form specs) ts u.middle _ u.first (all_valued_along names u.middle v.middle _ v.first (over _ v.middle rest _ v.second h)))

-- there is a token behind it
param_along : (d : DeclShape) (ts rest : List Token) (ps : List Pos) → Written (param_form d) ts rest → IsToken (head rest) → StandAlong ps rest → StandAlong (and_places (of_outer d) ps) ts
param_along (decl p specs names) ts rest ps w e h =
    let u = w.1 in
    here ts p _ w.0 (begins (specs_form specs) ts u.middle u.first (begins (declarators_form names) u.middle rest u.second e))
    (skips (specs_form specs) ts u.middle _ u.first (all_valued_along names u.middle rest _ u.second h))

led_params_along : (ds : DeclShapes) (ts rest : List Token) (us : Outlines) (ps : List Pos) → Written (led_params_form ds) ts rest → IsToken (head rest) → StandAlong (and_all us ps) rest → StandAlong (and_all (and_outer ds us) ps) ts
led_params_along no_decls ts rest us ps w e h = skips nothing ts rest (and_all us ps) w h
led_params_along (more_decls d ds) ts rest us ps w e h =
    let u = w.second in
    over _ ts w.middle _ w.first (param_along d w.middle u.middle _ u.first (begins (led_params_form ds) u.middle rest u.second e) (led_params_along ds u.middle rest us ps u.second e h))

pub params_along : (f : DeclFormShape) (ts rest : List Token) (us : Outlines) (ps : List Pos) → Written (behind_form f) ts rest → StandAlong (and_all us ps) rest → StandAlong (and_all (and_parameters f us) ps) ts
params_along (arrays ls) ts rest us ps w h = skips (behind_form (arrays ls)) ts rest (and_all us ps) w h
params_along (function empty) ts rest us ps w h = skips (behind_form (function empty)) ts rest (and_all us ps) w h
params_along (function void) ts rest us ps w h = skips (behind_form (function void)) ts rest (and_all us ps) w h
params_along (function (params no_decls)) ts rest us ps w h = skips (behind_form (function (params no_decls))) ts rest (and_all us ps) w h
params_along (function (params (more_decls d ds))) ts rest us ps w h =
    let u = w.second in
    let v = u.first in
    let e = token_first _ u.middle rest u.second in
    over _ ts w.middle _ w.first (param_along d w.middle v.middle _ v.first (begins (led_params_form ds) v.middle u.middle v.second e) (led_params_along ds v.middle u.middle us ps v.second e (over _ u.middle rest (and_all us ps) u.second h)))
