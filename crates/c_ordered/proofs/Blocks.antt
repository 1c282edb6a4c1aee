-- The blocks of declarations, statements and units stand at tokens of their own, in the order of the text.
use Rattle.std.proofs.Common.{◌≡◌, List, [], ◌∷◌, ◌++◌, ◌||◌, map, filter, flat_map, Bool, true, false, cond, refl, ap, sym, subst, ◌∙◌}
use Rattle.c_base.specs.declared.place.Pos.{Pos}
use Rattle.c_syntax.specs.declared.token.Token.{Token}
use Rattle.c_syntax.specs.declared.tree.ProbeMark.{ProbeMark}
use Rattle.c_syntax.specs.declared.token.TokenKind.TheVariants as kind
use Rattle.c_syntax.specs.Forms.{nothing, is, place, head, Written}
use Rattle.c_syntax.specs.Grammar.{in_parens, maybe_node_form, specs_form, stars_form, maybe_named_form, behind_form, declarator_form, declarators_form, led_declarators_form, decl_form, decls_form, marks_form, labels_form, stmt_form, body_form, node_form, compound_form, items_form, maybe_line_form, external_form, externals_form, Placed}
use Rattle.c_syntax.specs.Shape.{NodeShape, MaybeNode, no_node, one_node, DeclShape, decl, DeclShapes, no_decls, more_decls, DeclaratorShape, declarator, DeclaratorShapes, no_declarators, more_declarators, arrays, function, empty, void, params, no_init, one_init, one, listed, StmtShape, stmt, FormShape, compound, simply, when, either, while, do_while, for, switch, break, continue, return, CompoundShape, braces, ItemShapes, no_items, more_items, ExternalShape, defined, declared, UnitShape}
use Rattle.c_walk.specs.declared.around.Taken.TheVariants.{Read}
use Rattle.c_walk.specs.Stating.{splits}
use Rattle.c_ordered.specs.Trees.{none, more, Standing}
use Rattle.c_ordered.specs.Parts.{Part, has_label, operand, tested, tested_apart, apart, chosen_by, controlled, body}
use Rattle.c_ordered.specs.Outlines.{Outlines, holding, of_node, and_maybe, of_locals, and_declared, of_valued, of_outer, and_outer, and_parameters, of_stmt, in_body, in_compound, of_items, of_external, of_externals, of_unit}
use Rattle.c_ordered.specs.Ordered.{parts_of, starts_block}
use Rattle.c_ordered.specs.Ordered as ordered
use Rattle.c_ordered.specs.Texts.{StandAt, BlocksStandAtTokens}
use Rattle.c_ordered.proofs.Preorder.{made_first}
use Rattle.c_ordered.proofs.Tokens.{past, from_past, behind_token, over, skips, place_if, own, and_blocks, and_all, begins_here, IsToken, token_first, node_begins, operand_stands, tested_stands, chosen_stands, apart_test_stands, apart_stands, led_stands}
use Rattle.c_ordered.proofs.Ordering.{blocks_are_parts}

-- ---- optional expressions

maybe_stands : (e : MaybeNode) (ts rest : List Token) (us : Outlines) (ps : List Pos) → Written (maybe_node_form e) ts rest → StandAt (and_all us ps) rest → StandAt (and_all (and_maybe (operand Read) e us) ps) ts
maybe_stands no_node ts rest us ps w h = skips nothing ts rest (and_all us ps) w h
maybe_stands (one_node a) ts rest us ps w h = led_stands Read a ts rest (and_all us ps) w h

maybe_test_stands : (e : MaybeNode) (ts rest : List Token) (us : Outlines) (ps : List Pos) → Written (maybe_node_form e) ts rest → StandAt (and_all us ps) rest → StandAt (and_all (and_maybe tested_apart e us) ps) ts
maybe_test_stands no_node ts rest us ps w h = skips nothing ts rest (and_all us ps) w h
maybe_test_stands (one_node a) ts rest us ps w h = apart_test_stands a ts rest (and_all us ps) w h

step_stands : (e : MaybeNode) (ts rest : List Token) (us : Outlines) (ps : List Pos) → Written (maybe_node_form e) ts rest → StandAt (and_all us ps) rest → StandAt (and_all (and_maybe apart e us) ps) ts
step_stands no_node ts rest us ps w h = skips nothing ts rest (and_all us ps) w h
step_stands (one_node a) ts rest us ps w h = apart_stands a ts rest (and_all us ps) w h

-- with a semicolon behind it, in front of which no place has to be left out
maybe_first : (e : MaybeNode) (ts middle rest : List Token) (ps : List Pos) → Written (maybe_node_form e) ts middle → StandAt ps (past middle) → StandAt (and_all (and_maybe (operand Read) e none) ps) (past ts)
maybe_first no_node ts middle rest ps w h = subst (λ xs. StandAt ps (past xs)) (sym w) h
maybe_first (one_node a) ts middle rest ps w h = operand_stands Read a ts middle ps w (from_past ps middle h)

-- ---- declarations

declarator_stands : (d : DeclaratorShape) (more_names : DeclaratorShapes) (ts rest : List Token) (ps : List Pos) → Written (declarator_form d) ts rest → StandAt (and_all (of_locals more_names) ps) rest → StandAt (and_all (of_locals (more_declarators d more_names)) ps) ts
declarator_stands (declarator stars x (arrays ls) no_init) names ts rest ps w h = skips (declarator_form (declarator stars x (arrays ls) no_init)) ts rest _ w h
declarator_stands (declarator stars x (arrays ls) (one_init (one a))) names ts rest ps w h =
    let u = w.second in
    let v = u.second in
    let y = v.second in
    skips (stars_form stars) ts w.middle _ w.first (skips (maybe_named_form x) w.middle u.middle _ u.first (skips (behind_form (arrays ls)) u.middle v.middle _ v.first (over _ v.middle y.middle _ y.first (led_stands Read a y.middle rest _ y.second h))))
declarator_stands (declarator stars x (arrays ls) (one_init (listed p list last))) names ts rest ps w h = skips (declarator_form (declarator stars x (arrays ls) (one_init (listed p list last)))) ts rest _ w h
declarator_stands (declarator stars x (function fs) i) names ts rest ps w h = skips (declarator_form (declarator stars x (function fs) i)) ts rest _ w h

led_names_stand : (ds : DeclaratorShapes) (ts rest : List Token) (ps : List Pos) → Written (led_declarators_form ds) ts rest → StandAt ps rest → StandAt (and_all (of_locals ds) ps) ts
led_names_stand no_declarators ts rest ps w h = skips nothing ts rest ps w h
led_names_stand (more_declarators d ds) ts rest ps w h =
    let u = w.second in
    over _ ts w.middle _ w.first (declarator_stands d ds w.middle u.middle ps u.first (led_names_stand ds u.middle rest ps u.second h))

names_stand : (ds : DeclaratorShapes) (ts rest : List Token) (ps : List Pos) → Written (declarators_form ds) ts rest → StandAt ps rest → StandAt (and_all (of_locals ds) ps) ts
names_stand no_declarators ts rest ps w h = skips nothing ts rest ps w h
names_stand (more_declarators d ds) ts rest ps w h = declarator_stands d ds ts w.middle ps w.first (led_names_stand ds w.middle rest ps w.second h)

declared_stand : (ds : DeclShapes) (ts rest : List Token) (us : Outlines) (ps : List Pos) → Written (decls_form ds) ts rest → StandAt (and_all us ps) rest → StandAt (and_all (and_declared ds us) ps) ts
declared_stand no_decls ts rest us ps w h = skips nothing ts rest (and_all us ps) w h
declared_stand (more_decls (decl p specs names) ds) ts rest us ps w h =
    let u = w.first.1 in
    let v = u.second in
    skips (specs_form specs) ts u.middle _ u.first (names_stand names u.middle v.middle _ v.first (over _ v.middle w.middle _ v.second (declared_stand ds w.middle rest us ps w.second h)))

-- no block stands outside of functions
no_block_in_names : (ds : DeclaratorShapes) (ps : List Pos) → and_all (of_valued ds) ps ≡ ps
no_block_in_names no_declarators ps = refl
no_block_in_names (more_declarators (declarator stars x (arrays ls) i) ds) ps = no_block_in_names ds ps
no_block_in_names (more_declarators (declarator stars x (function fs) i) ds) ps = no_block_in_names ds ps

no_block_outside : (d : DeclShape) (ps : List Pos) → and_blocks (of_outer d) ps ≡ ps
no_block_outside (decl p specs names) ps = no_block_in_names names ps

no_block_in_decls : (ds : DeclShapes) (us : Outlines) (ps : List Pos) → and_all (and_outer ds us) ps ≡ and_all us ps
no_block_in_decls no_decls us ps = refl
no_block_in_decls (more_decls d ds) us ps = no_block_outside d (and_all (and_outer ds us) ps) ∙ no_block_in_decls ds us ps

no_block_in_parameters : (d : _) (us : Outlines) (ps : List Pos) → and_all (and_parameters d us) ps ≡ and_all us ps
no_block_in_parameters (function (params ds)) us ps = no_block_in_decls ds us ps
no_block_in_parameters (function empty) us ps = refl
no_block_in_parameters (function void) us ps = refl
no_block_in_parameters (arrays ls) us ps = refl

-- ---- statements

-- block probes in front
marks_first : (marks : List ProbeMark) (ts rest : List Token) (ps : List Pos) → Written (marks_form marks) ts rest → StandAt ps (past rest) → StandAt ps (past ts)
marks_first [] ts rest ps w h = subst (λ xs. StandAt ps (past xs)) (sym w) h
marks_first (b ∷ marks) ts rest ps w h =
    let u = w.second in
    let v = u.second in
    behind_token _ ts w.middle ps w.first.1 (skips (in_parens (is (kind.Number b.number))) w.middle u.middle ps u.first (over _ u.middle v.middle ps v.first (from_past ps v.middle (marks_first marks v.middle rest ps v.second h))))

pub marks_begin : (marks : List ProbeMark) (ts rest : List Token) → Written (marks_form marks) ts rest → IsToken (head rest) → IsToken (head ts)
marks_begin [] ts rest w h = subst (λ xs. IsToken (head xs)) (sym w) h
marks_begin (b ∷ marks) ts rest w h = token_first _ ts w.middle w.first.1

pub body_begins : (f : FormShape) (ts rest : List Token) → Written (body_form f) ts rest → IsToken (head ts)
body_begins (compound (braces p ds items)) ts rest w = token_first _ ts w.middle w.first.1
body_begins (simply no_node) ts rest w = subst (λ xs. IsToken (head xs)) (sym w.first) (token_first _ w.middle rest w.second)
body_begins (simply (one_node a)) ts rest w = node_begins a ts w.middle w.first
body_begins (when e a) ts rest w = token_first _ ts w.middle w.first
body_begins (either e a b) ts rest w = token_first _ ts w.middle w.first
body_begins (while e a) ts rest w = token_first _ ts w.middle w.first
body_begins (do_while a e) ts rest w = token_first _ ts w.middle w.first
body_begins (for e f g a) ts rest w = token_first _ ts w.middle w.first
body_begins (switch e items) ts rest w = token_first _ ts w.middle w.first
body_begins break ts rest w = token_first _ ts w.middle w.first
body_begins continue ts rest w = token_first _ ts w.middle w.first
body_begins (return e) ts rest w = let v = w.first in token_first _ ts v.middle v.first

tested_led : (a : NodeShape) (ts rest : List Token) (ps : List Pos) → Written (node_form a) ts rest → StandAt ps rest → StandAt (and_blocks (of_node tested a) ps) ts
tested_led a ts rest ps w h = from_past (and_blocks (of_node tested a) ps) ts (tested_stands a ts rest ps w h)

chosen_led : (items : ItemShapes) (a : NodeShape) (ts rest : List Token) (ps : List Pos) → Written (node_form a) ts rest → StandAt ps rest → StandAt (and_blocks (of_node (chosen_by items) a) ps) ts
chosen_led items a ts rest ps w h = from_past (and_blocks (of_node (chosen_by items) a) ps) ts (chosen_stands items a ts rest ps w h)

-- a statement that is a block stands at its first token; so where it may be one
begins_if : (b : Bool) (ts : List Token) (p : Pos) (ps : List Pos) → p ≡ place ts → IsToken (head ts) → StandAt ps (past ts) → StandAt (place_if b p ++ ps) ts
begins_if true ts p ps q e h = begins_here ts p ps q e h
begins_if false ts p ps q e h = from_past ps ts h

mutual
  body_stands : (f : FormShape) (ts rest : List Token) (ps : List Pos) → Written (body_form f) ts rest → StandAt ps rest → StandAt (and_all (in_body f) ps) (past ts)
  body_stands (compound b) ts rest ps w h = compound_stands b ts rest ps w h
  body_stands (simply e) ts rest ps w h = maybe_first e ts w.middle rest ps w.first (behind_token _ w.middle rest ps w.second h)
  body_stands (when e a) ts rest ps w h =
      let u = w.second in
      let p = u.first in
      let q = p.second in
      behind_token _ ts w.middle _ w.first (over _ w.middle p.middle _ p.first (tested_led e p.middle q.middle _ q.first (over _ q.middle u.middle _ q.second (part_stands a u.middle rest ps u.second h))))
  body_stands (either e a b) ts rest ps w h =
      let u = w.second in
      let p = u.first in
      let q = p.second in
      let v = u.second in
      let x = v.second in
      behind_token _ ts w.middle _ w.first (over _ w.middle p.middle _ p.first (tested_led e p.middle q.middle _ q.first (over _ q.middle u.middle _ q.second
      (part_stands a u.middle v.middle _ v.first (over _ v.middle x.middle _ x.first (part_stands b x.middle rest ps x.second h))))))
  body_stands (while e a) ts rest ps w h =
      let u = w.second in
      let p = u.first in
      let q = p.second in
      behind_token _ ts w.middle _ w.first (over _ w.middle p.middle _ p.first (apart_test_stands e p.middle q.middle _ q.first (over _ q.middle u.middle _ q.second (part_stands a u.middle rest ps u.second h))))
  body_stands (do_while a e) ts rest ps w h =
      let u = w.second in
      let v = u.second in
      let x = v.second in
      let p = x.first in
      let q = p.second in
      behind_token _ ts w.middle _ w.first (part_stands a w.middle u.middle _ u.first (over _ u.middle v.middle _ v.first (over _ v.middle p.middle _ p.first
      (apart_test_stands e p.middle q.middle ps q.first (over _ q.middle x.middle ps q.second (over _ x.middle rest ps x.second h))))))
  body_stands (for e f g a) ts rest ps w h =
      let u = w.second in
      let p = u.first in
      let q = p.second in
      let x = q.first in
      let i = x.first in
      let y = x.second in
      let j = y.first in
      behind_token _ ts w.middle _ w.first (over _ w.middle p.middle _ p.first
      (maybe_stands e p.middle i.middle _ ps i.first (over _ i.middle x.middle _ i.second
      (maybe_test_stands f x.middle j.middle _ ps j.first (over _ j.middle y.middle _ j.second
      (step_stands g y.middle q.middle (more (of_stmt controlled a) none) ps y.second (over _ q.middle u.middle _ q.second (part_stands a u.middle rest ps u.second h))))))))
  body_stands (switch e items) ts rest ps w h =
      let u = w.second in
      let p = u.first in
      let q = p.second in
      let v = u.second in
      let x = v.second in
      behind_token _ ts w.middle _ w.first (over _ w.middle p.middle _ p.first (chosen_led items e p.middle q.middle _ q.first (over _ q.middle u.middle _ q.second
      (over _ u.middle v.middle _ v.first (items_stand false items v.middle x.middle ps x.first (over _ x.middle rest ps x.second h))))))
  body_stands break ts rest ps w h = behind_token _ ts w.middle ps w.first (over _ w.middle rest ps w.second h)
  body_stands continue ts rest ps w h = behind_token _ ts w.middle ps w.first (over _ w.middle rest ps w.second h)
  body_stands (return e) ts rest ps w h =
      let v = w.first in
      behind_token _ ts v.middle _ v.first (maybe_stands e v.middle w.middle none ps v.second (over _ w.middle rest ps w.second h))

  part_stands : (a : StmtShape) (ts rest : List Token) (ps : List Pos) → Written (stmt_form a) ts rest → StandAt ps rest → StandAt (and_blocks (of_stmt controlled a) ps) ts
  part_stands (stmt p marks q f) ts rest ps w h =
      let u = w.1 in
      let b = u.second.1 in
      begins_here ts p _ w.0 (marks_begin marks ts u.middle u.first (body_begins f u.middle rest b)) (marks_first marks ts u.middle _ u.first (body_stands f u.middle rest ps b h))

  compound_stands : (c : CompoundShape) (ts rest : List Token) (ps : List Pos) → Written (compound_form c) ts rest → StandAt ps rest → StandAt (and_all (in_compound c) ps) (past ts)
  compound_stands (braces p ds items) ts rest ps w h =
      let u = w.second in
      let v = u.second in
      behind_token _ ts w.middle _ w.first.1 (declared_stand ds w.middle u.middle (of_items false items) ps u.first (items_stand false items u.middle v.middle ps v.first (over _ v.middle rest ps v.second h)))

  items_stand : (after : Bool) (items : ItemShapes) (ts rest : List Token) (ps : List Pos) → Written (items_form items) ts rest → StandAt ps rest → StandAt (and_all (of_items after items) ps) ts
  items_stand after no_items ts rest ps w h = skips nothing ts rest ps w h
  items_stand after (more_items labels (stmt p marks q f) items) ts rest ps w h =
      let a = stmt p marks q f in
      let u = w.second in
      let v = u.first.1 in
      let b = v.second.1 in
      skips (labels_form labels) ts w.middle _ w.first
      (begins_if (after || has_label labels) w.middle p _ u.first.0 (marks_begin marks w.middle v.middle v.first (body_begins f v.middle u.middle b))
      (marks_first marks w.middle v.middle _ v.first (body_stands f v.middle u.middle _ b (items_stand (splits a) items u.middle rest ps u.second h))))

-- ---- units

external_stands : (e : ExternalShape) (ts rest : List Token) (ps : List Pos) → Written (external_form e) ts rest → StandAt ps rest → StandAt (and_blocks (of_external e) ps) ts
external_stands (declared d) ts rest ps w h = subst (λ xs. StandAt xs ts) (sym (no_block_outside d ps)) (skips (decl_form d) ts rest ps w h)
external_stands (defined specs (declarator stars x d i) marks (braces p ds items)) ts rest ps w h =
    let u = w.second in
    let v = u.second in
    let c = braces p ds items in
    let b = v.second in
    subst (λ xs. StandAt xs ts) (sym (no_block_in_parameters d (more (holding controlled (body c) (in_compound c)) none) ps))
    (skips (specs_form specs) ts w.middle _ w.first (skips (declarator_form (declarator stars x d i)) w.middle u.middle _ u.first (skips (marks_form marks) u.middle v.middle _ v.first
    (begins_here v.middle p _ b.first.0 (token_first _ v.middle b.middle b.first.1) (compound_stands c v.middle rest ps b h)))))

externals_stand : (es : List ExternalShape) (ts rest : List Token) (ps : List Pos) → Written (externals_form es) ts rest → StandAt ps rest → StandAt (and_all (of_externals es) ps) ts
externals_stand [] ts rest ps w h = skips nothing ts rest ps w h
externals_stand (e ∷ es) ts rest ps w h = external_stands e ts w.middle _ w.first (externals_stand es w.middle rest ps w.second h)

unit_stands : (u : UnitShape) (ts : List Token) → Placed u ts → StandAt (and_blocks (of_unit u) []) ts
unit_stands u ts w = let v = w.written.1 in skips (maybe_line_form u.line) ts v.middle _ v.first (externals_stand u.externals v.middle [] [] v.second refl)

-- ---- by the items

own_places : (ss : List (Standing Part)) → map ordered.place (filter starts_block ss) ≡ flat_map (λ s. own s.part) ss
own_places [] = refl
own_places (s ∷ ss) = by (starts_block s) ∙ ap (λ ps. own s.part ++ ps) (own_places ss)
  where
    by : (b : Bool) → map ordered.place (cond b (s ∷ filter starts_block ss) (filter starts_block ss)) ≡ place_if b (ordered.place s) ++ map ordered.place (filter starts_block ss)
    by true = refl
    by false = refl

pub blocks_stand : BlocksStandAtTokens
blocks_stand t u ts w =
    let same = (blocks_are_parts t u).0 ∙ (own_places (parts_of u) ∙ made_first own (of_unit u)) in
    subst (λ ps. StandAt ps ts) (sym same) (unit_stands u ts w)
