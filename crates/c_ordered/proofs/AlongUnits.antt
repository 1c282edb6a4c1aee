-- The parts of statements and units stand in the order of their tokens.
use Rattle.std.proofs.Common.{◌≡◌, List, [], ◌∷◌, ◌++◌, map, filter, flat_map, Bool, true, false, cond, refl, ap, sym, subst, ◌∙◌}
use Rattle.c_base.specs.declared.place.Pos.{Pos}
use Rattle.c_syntax.specs.declared.token.Token.{Token}
use Rattle.c_syntax.specs.Forms.{nothing, Written}
use Rattle.c_syntax.specs.Grammar.{specs_form, stars_form, maybe_init_form, marks_form, labels_form, stmt_form, body_form, compound_form, items_form, maybe_line_form, external_form, externals_form}
use Rattle.c_syntax.specs.Shape.{declarator, StmtShape, stmt, FormShape, compound, simply, when, either, while, do_while, for, switch, break, continue, return, CompoundShape, braces, ItemShapes, no_items, more_items, ExternalShape, defined, declared}
use Rattle.c_walk.specs.declared.around.Taken.TheVariants.{Read}
use Rattle.c_walk.specs.Stating.{splits}
use Rattle.c_ordered.specs.Trees.{none, more, Standing}
use Rattle.c_ordered.specs.Parts.{Part, Role, What, name, definition, body, place_of, operand, tested, tested_apart, apart, chosen_by, controlled, taken}
use Rattle.c_ordered.specs.Parts as parts
use Rattle.c_ordered.specs.Outlines.{holding, of_stmt, in_body, in_compound, of_items, of_external, of_externals, of_unit}
use Rattle.c_ordered.specs.Ordered.{parts_of}
use Rattle.c_ordered.specs.Ordered as ordered
use Rattle.c_ordered.specs.Texts.{StandAlong, is_somewhere, PartsStandAlongTokens}
use Rattle.c_ordered.proofs.Preorder.{made_first}
use Rattle.c_ordered.proofs.Tokens.{token_first, place_if}
use Rattle.c_ordered.proofs.Blocks.{marks_begin, body_begins}
use Rattle.c_ordered.proofs.Along.{over, here, skips, own, and_places, and_all, node_along, maybe_along, declared_along, outer_along, params_along, definition_along}

mutual
  body_along : (f : FormShape) (ts rest : List Token) (ps : List Pos) → Written (body_form f) ts rest → StandAlong ps rest → StandAlong (and_all (in_body f) ps) ts
  body_along (compound b) ts rest ps w h = compound_along b ts rest ps w h
  body_along (simply e) ts rest ps w h = maybe_along (operand Read) e ts w.middle none ps w.first (over _ w.middle rest ps w.second h)
  body_along (when e a) ts rest ps w h =
      let u = w.second in
      let p = u.first in
      let q = p.second in
      over _ ts w.middle _ w.first (over _ w.middle p.middle _ p.first (node_along tested e p.middle q.middle _ q.first (over _ q.middle u.middle _ q.second (stmt_along controlled a u.middle rest ps u.second h))))
  body_along (either e a b) ts rest ps w h =
      let u = w.second in
      let p = u.first in
      let q = p.second in
      let v = u.second in
      let x = v.second in
      over _ ts w.middle _ w.first (over _ w.middle p.middle _ p.first (node_along tested e p.middle q.middle _ q.first (over _ q.middle u.middle _ q.second
      (stmt_along controlled a u.middle v.middle _ v.first (over _ v.middle x.middle _ x.first (stmt_along controlled b x.middle rest ps x.second h))))))
  body_along (while e a) ts rest ps w h =
      let u = w.second in
      let p = u.first in
      let q = p.second in
      over _ ts w.middle _ w.first (over _ w.middle p.middle _ p.first (node_along tested_apart e p.middle q.middle _ q.first (over _ q.middle u.middle _ q.second (stmt_along controlled a u.middle rest ps u.second h))))
  body_along (do_while a e) ts rest ps w h =
      let u = w.second in
      let v = u.second in
      let x = v.second in
      let p = x.first in
      let q = p.second in
      over _ ts w.middle _ w.first (stmt_along controlled a w.middle u.middle _ u.first (over _ u.middle v.middle _ v.first (over _ v.middle p.middle _ p.first
      (node_along tested_apart e p.middle q.middle ps q.first (over _ q.middle x.middle ps q.second (over _ x.middle rest ps x.second h))))))
  body_along (for e f g a) ts rest ps w h =
      let u = w.second in
      let p = u.first in
      let q = p.second in
      let x = q.first in
      let i = x.first in
      let y = x.second in
      let j = y.first in
      over _ ts w.middle _ w.first (over _ w.middle p.middle _ p.first
      (maybe_along (operand Read) e p.middle i.middle _ ps i.first (over _ i.middle x.middle _ i.second
      (maybe_along tested_apart f x.middle j.middle _ ps j.first (over _ j.middle y.middle _ j.second
      (maybe_along apart g y.middle q.middle (more (of_stmt controlled a) none) ps y.second (over _ q.middle u.middle _ q.second (stmt_along controlled a u.middle rest ps u.second h))))))))
  body_along (switch e items) ts rest ps w h =
      let u = w.second in
      let p = u.first in
      let q = p.second in
      let v = u.second in
      let x = v.second in
      over _ ts w.middle _ w.first (over _ w.middle p.middle _ p.first (node_along (chosen_by items) e p.middle q.middle _ q.first (over _ q.middle u.middle _ q.second
      (over _ u.middle v.middle _ v.first (items_along false items v.middle x.middle ps x.first (over _ x.middle rest ps x.second h))))))
  body_along break ts rest ps w h = skips (body_form break) ts rest ps w h
  body_along continue ts rest ps w h = skips (body_form continue) ts rest ps w h
  body_along (return e) ts rest ps w h =
      let v = w.first in
      over _ ts v.middle _ v.first (maybe_along (operand Read) e v.middle w.middle none ps v.second (over _ w.middle rest ps w.second h))

  stmt_along : (r : Role) (a : StmtShape) (ts rest : List Token) (ps : List Pos) → Written (stmt_form a) ts rest → StandAlong ps rest → StandAlong (and_places (of_stmt r a) ps) ts
  stmt_along r (stmt p marks q f) ts rest ps w h =
      let u = w.1 in
      let b = u.second.1 in
      here ts p _ w.0 (marks_begin marks ts u.middle u.first (body_begins f u.middle rest b)) (skips (marks_form marks) ts u.middle _ u.first (body_along f u.middle rest ps b h))

  compound_along : (c : CompoundShape) (ts rest : List Token) (ps : List Pos) → Written (compound_form c) ts rest → StandAlong ps rest → StandAlong (and_all (in_compound c) ps) ts
  compound_along (braces p ds items) ts rest ps w h =
      let u = w.second in
      let v = u.second in
      over _ ts w.middle _ w.first.1 (declared_along ds w.middle u.middle (of_items false items) ps u.first (items_along false items u.middle v.middle ps v.first (over _ v.middle rest ps v.second h)))

  items_along : (after : Bool) (items : ItemShapes) (ts rest : List Token) (ps : List Pos) → Written (items_form items) ts rest → StandAlong ps rest → StandAlong (and_all (of_items after items) ps) ts
  items_along after no_items ts rest ps w h = skips nothing ts rest ps w h
  items_along after (more_items labels a items) ts rest ps w h =
      let u = w.second in
      skips (labels_form labels) ts w.middle _ w.first (stmt_along (parts.listed after labels) a w.middle u.middle _ u.first (items_along (splits a) items u.middle rest ps u.second h))

-- ---- units

external_along : (e : ExternalShape) (ts rest : List Token) (ps : List Pos) → Written (external_form e) ts rest → StandAlong ps rest → StandAlong (and_places (of_external e) ps) ts
external_along (declared d) ts rest ps w h = outer_along d ts rest ps w h
external_along (defined specs (declarator stars x d i) marks (braces p ds items)) ts rest ps w h =
    let u = w.second in
    let v = u.second in
    let c = braces p ds items in
    let b = v.second in
    let y = u.first in
    let z = y.second in
    let n = z.second in
    skips (specs_form specs) ts w.middle _ w.first (skips (stars_form stars) w.middle y.middle _ y.first (definition_along x parts.other y.middle z.middle _ z.first
    (params_along d z.middle n.middle (more (holding controlled (body c) (in_compound c)) none) ps n.first (skips (maybe_init_form i) n.middle u.middle _ n.second (skips (marks_form marks) u.middle v.middle _ v.first
    (here v.middle p _ b.first.0 (token_first _ v.middle b.middle b.first.1) (compound_along c v.middle rest ps b h)))))))

externals_along : (es : List ExternalShape) (ts rest : List Token) (ps : List Pos) → Written (externals_form es) ts rest → StandAlong ps rest → StandAlong (and_all (of_externals es) ps) ts
externals_along [] ts rest ps w h = skips nothing ts rest ps w h
externals_along (e ∷ es) ts rest ps w h = external_along e ts w.middle _ w.first (externals_along es w.middle rest ps w.second h)

own_places : (ss : List (Standing Part)) → map ordered.place (filter is_somewhere ss) ≡ flat_map (λ s. own s.part) ss
own_places [] = refl
own_places (s ∷ ss) = by (is_somewhere s) ∙ ap (λ ps. own s.part ++ ps) (own_places ss)
  where
    by : (b : Bool) → map ordered.place (cond b (s ∷ filter is_somewhere ss) (filter is_somewhere ss)) ≡ place_if b (ordered.place s) ++ map ordered.place (filter is_somewhere ss)
    by true = refl
    by false = refl

pub parts_along : PartsStandAlongTokens
parts_along u ts w =
    let v = w.written.1 in
    subst (λ ps. StandAlong ps ts) (sym (own_places (parts_of u) ∙ made_first own (of_unit u)))
    (skips (maybe_line_form u.line) ts v.middle _ v.first (externals_along u.externals v.middle [] [] v.second refl))
