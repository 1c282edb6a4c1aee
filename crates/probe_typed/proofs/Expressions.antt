-- An expression with its probes is typed as it stands: it has again its own notes, and the sort of the expression without probes.
use Rattle.std.proofs.Common.{◌≡◌, ℕ, List, [], ◌∷◌, ◌++◌, length, Bool, true, false, Option, None, ◌∙◌, refl, sym, ap, ap₂, subst}
use Rattle.std.specs.Prelude.{if◌then◌else◌}
use Rattle.c_base.specs.declared.place.Pos.{Pos}
use Rattle.c_syntax.specs.Shape.{number, char, str, name, unary, before, size_of, Infix, plain, and, or, assign, comma, NodeShape, node, ExprShape, leaf, paren, call, prefix, size_of_type, cast, suffix, two, choose, probe, index, field, behind, NodeShapes, no_nodes, more_nodes, TypeShape}
use Rattle.c_syntax.specs.Shaped.{Shaped, ShapedExpr, ShapedNodes}
use Rattle.c_type_rules.specs.Verdicts.{cast_type}
use Rattle.c_constants.specs.Numbers.{number_of}
use Rattle.c_scopes.specs.Scoping.{find}
use Rattle.c_tree.specs.State.{State, step, steps, is_clean}
use Rattle.c_tree.specs.Rulings.{by, rule, kind_at, of_kind}
use Rattle.c_tree.specs.Sorts.{Sort, plainly, pos_in, null, note_of, cleared, noted, Formed, TypedNode, changeable}
use Rattle.c_tree.specs.Operators.{has_value, called, Given, given_at, typed_call, place_rule, unary_rule, step_rule, typed_unary, typed_step, typed_infix, element_rule, holder, field_rule, choice_rule, sided, entering, kept_side, left_of, right_of}
use Rattle.c_tree.specs.Typing.{opening, type_node, type_form, type_arguments, type_type}
use Rattle.c_tree.proofs.Again.{node_again, pos_again, type_again}
use Rattle.c_walk.specs.declared.around.Around.{Around}
use Rattle.c_walk.specs.declared.around.Taken.{Taken}
use Rattle.c_walk.specs.declared.around.Taken.TheVariants.{Read, Changed}
use Rattle.c_walk.specs.Places.{is_place, direct_form}
use Rattle.c_walk.specs.Walked.{Walked, is_written, operand_taken, left_taken, with_site, is_used, right_taken}
use Rattle.c_walk.specs.Walking.{walk_node, walk_form, walk_test, walk_arm, walk_nodes, walk_loop_test}
use Rattle.c_meaning.proofs.Walks.{node_on, arm_on}
use Rattle.c_sites_probes.specs.Marked.{first, node_mark, form_mark, nodes_mark, type_mark}
use Rattle.probe_rules.specs.Fitting.{HasFewItems}
use Rattle.probe_rules.specs.Marks.{in_use, in_def}
use Rattle.probe_rules.specs.ProbedExpressions.{in_sites, probed_node, probed_form, probed_test, probed_arm, probed_nodes}
use Rattle.probe_rules.proofs.ReadyUnits.{some_none, none_first, none_second}
use Rattle.c_tree.proofs.Grows.{rule_grows, typed_call_grows, infix_grows, node_grows, form_grows, arguments_grows}
use Rattle.probe_rules.proofs.Moved.{AlikeOutcome, AlikeNode, AlikeType, AlikeGiven, steps_alike, demand_alike, quiet_alike, name_alike, called_alike, given_then, typed_call_alike, string_alike, unary_alike, step_alike, size_alike, type_size_alike, cast_alike, infix_alike, index_alike, field_alike, sided_alike}
use Rattle.probe_rules.proofs.MovedNodes.{node_alike, type_alike}
use Rattle.probe_rules.proofs.Claims.{seen_at}
use Rattle.probe_rules.proofs.Few.{few_before, nodes_before, right_before, form_before}
use Rattle.probe_laws.proofs.Settled.{IsClean}
use Rattle.probe_laws.proofs.Rules.{back, infix_there, choice_there}
use Rattle.probe_laws.proofs.Known.{Knows, find_sure}
use Rattle.probe_laws.proofs.KnownParts.{called_knows, is_still_clean}
use Rattle.probe_laws.proofs.KnownNodes.{node_knows, type_knows}
use Rattle.probe_typed.specs.Typed.{Follows, MayBeTaken, IsTypedAs, AreTypedAs}
use Rattle.probe_typed.proofs.Follows.{clean_too, IsFormTypedAs, formed_typed, note_at, noted_typed, side_too}
use Rattle.probe_typed.proofs.Near.{and_near, or_near, choice_typed, three}
use Rattle.probe_typed.proofs.Sites.{AreSites, sited_typed}
use Rattle.probe_typed.proofs.Tests.{test_from, arm_from, loop_from, read_from, beside}
use Rattle.probe_typed.proofs.Written.{operand_taken_so, left_taken_so, step_taken_so, logical_tested, chosen_tested, written_place, right_taken_so, placed_plain, used_place}
use Rattle.c_tree.specs.declared.meaning.Side.{Side}
use Rattle.c_tree.specs.declared.meaning.Side.TheVariants.{Neither}
use Rattle.probe_typed.proofs.Sides.{side_formed, side_probed}
use Rattle.probe_laws.proofs.FitNodes.{node_structure, right_allows}

-- ---- where a node stands

pos_used : (b : Bool) (w : Walked) (a : NodeShape) → pos_in (in_use b w a) ≡ pos_in a
pos_used true w (node p o n f) = refl
pos_used false w a = refl

pos_defined : (b : Bool) (w : Walked) (a : NodeShape) → pos_in (in_def b w a) ≡ pos_in a
pos_defined true w (node p o n f) = refl
pos_defined false w a = refl

pos_sited : (here : Bool) (r : Taken) (b : Bool) (w : Walked) (a : NodeShape) → pos_in (if here then in_sites r b w a else a) ≡ pos_in a
pos_sited true r b w a = pos_defined (is_written r) w (in_use b w a) ∙ pos_used b w a
pos_sited false r b w a = refl

pos_probed : (c : Around) (r : Taken) (a : NodeShape) (w : Walked) → pos_in (probed_node c r a w) ≡ pos_in a
pos_probed c r (node p o n f) w = pos_sited (is_place f) r (is_used r n) w (node p o n (probed_form c r f (with_site c r p n f w)))

pos_typed : (c : Around) (r : Taken) (a : NodeShape) (s : State) (w : Walked) → pos_in (probed_node c r (type_node a s).node w) ≡ pos_in a
pos_typed c r a s w = pos_probed c r (type_node a s).node w ∙ pos_again a s

opening_typed : (c : Around) (gs : List Given) (es : NodeShapes) (s : State) (w : Walked) → opening (probed_nodes c (type_arguments gs es s).nodes w) ≡ opening es
opening_typed c gs no_nodes s w = refl
opening_typed c gs (more_nodes a rest) s w = refl

-- ---- the sites of a form

abbrev node_at : Bool → Pos → Pos → Formed → TypedNode
node_at b p o x = record { node = node p o (note_of (cleared b x.typing.sort).kind x.typing.sort.constant x.typing.names x.typing.valued) x.form; sort = cleared b x.typing.sort; state = x.state }

abbrev HasSites : Bool → Taken → Side → Pos → Pos → Formed → ExprShape → Type 0
HasSites b r d p o x g = let z = node_at b p o x in MayBeTaken r d z.sort → is_place x.form ≡ true → AreSites r (is_used r (note_at z.node)) d z (node p o (note_at z.node) g)

form_sites : (r : Taken) (d : Side) (p o : Pos) (f : ExprShape) (s : State) (g : ExprShape) → HasSites true r d p o (type_form p o f s) g
form_sites r d p o f s g able here =
    let a = (type_form p o f s).typing.sort in
    let plain = placed_plain p o f s here in (
      record { place = λ e. written_place r d a e able; noted = λ e. let h = written_place r d a e able in plain h.0 },
      record { place = λ e. used_place r d p o f s here e able; noted = λ e. let h = used_place r d p o f s here e able in plain h.0 },
    )

-- ---- arguments

given_any : (w v : Walked) (gs hs : List Given) → AlikeGiven 0 0 (seen_at w) gs hs → AlikeGiven 0 0 (seen_at v) gs hs
given_any w v [] [] same = tt
given_any w v [] (h ∷ hs) same = absurd same
given_any w v (g ∷ gs) [] same = absurd same
given_any w v (g ∷ gs) (h ∷ hs) same = (same.0, same.1, given_any w v gs hs same.2)

-- ---- calls

call_typed : (v : Walked) (p : Pos) (token token' : ℕ) (k k' : Bool) (f f' : Option ℕ) (gs hs : List Given) {s t : State} → k ≡ true → k' ≡ true → f' ≡ f → AlikeGiven 0 0 (seen_at v) gs hs → Follows v s t
    → AlikeOutcome 0 0 (seen_at v) (typed_call p token k f gs s) (typed_call p token' k' f' hs t)
call_typed v p token token' k k' f f' gs hs {s} {t} e d same given al =
    subst (λ y. AlikeOutcome 0 0 (seen_at v) (typed_call p token k f gs s) (typed_call p token' y f' hs t)) (e ∙ sym d)
    (subst (λ z. AlikeOutcome 0 0 (seen_at v) (typed_call p token k f gs s) (typed_call p token' k z hs t)) (sym same) (typed_call_alike 0 0 (seen_at v) p token token' k f gs hs given al))

infix_typed : (v : Walked) (token token' : ℕ) (o : Pos) (head head' : ℕ) (p q : Pos) (u : Infix) (a a' b b' : Sort) {s t : State} → q ≡ p → a' ≡ a → b' ≡ b → Follows v s t
    → AlikeOutcome 0 0 (seen_at v) (typed_infix token o head p u a b s) (typed_infix token' o head' q u a' b' t)
infix_typed v token token' o head head' p q u a a' b b' {s} {t} at e d al =
    subst (λ q. AlikeOutcome 0 0 (seen_at v) (typed_infix token o head p u a b s) (typed_infix token' o head' q u a' b' t)) (sym at) (infix_alike 0 0 (seen_at v) token token' o head head' p u a a' b b' e d al)

-- ---- what stays as it is

plain_node : (w : Walked) (a : NodeShape) {s t : State} → node_mark a ≡ None → Follows w s t → AlikeNode 0 0 (seen_at w) (type_node a s) (type_node (type_node a s).node t)
plain_node w a {s} {t} m al = subst (AlikeNode 0 0 (seen_at w) (type_node a s)) (sym (node_again a s t)) (node_alike 0 0 (seen_at w) a m al)

plain_type : (w : Walked) (y : TypeShape) {s t : State} → type_mark y ≡ None → Follows w s t → AlikeType 0 0 (seen_at w) (type_type y s) (type_type (type_type y s).type t)
plain_type w y {s} {t} m al = subst (AlikeType 0 0 (seen_at w) (type_type y s)) (sym (type_again y s t)) (type_alike 0 0 (seen_at w) y m al)

was_quiet : (w : Walked) {s t : State} → Follows w s t → t.quiet ≡ s.quiet
was_quiet w al = ap (λ (z : State). z.quiet) al.is

-- ---- expressions

mutual
  pub node_typed : {b : Bool} (c : Around) (r : Taken) (a : NodeShape) (w : Walked) {s t : State} → Shaped a → node_mark a ≡ None → Knows b s → (
      let x = type_node a s in
      let q = probed_node c r x.node w in
      let v = walk_node c r x.node w in
      IsClean x.state → MayBeTaken r s.side x.sort → HasFewItems v → Follows w s t → IsTypedAs v x q (type_node q t))
  node_typed c r (node p o n f) w {s} {t} is m h clean able few al =
      let d = s.side in
      let first = entering f s in
      let x = type_form p o f first in
      let begun = back (form_grows p o f first) clean in
      let k = (noted p o s x).node in
      let note = note_at k in
      let u = with_site c r p note x.form w in
      let v = walk_form c r x.form u in
      let g = probed_form c r x.form u in
      let e = is_still_clean s x.state begun clean in
      let sites = subst (λ b. HasSites b r d p o x g) (sym e) (form_sites r d p o f first g) in
      let taken = subst (λ b. MayBeTaken r d (cleared b x.typing.sort)) e able in
      let through : kept_side g d ≡ kept_side f d = side_probed c r x.form u d ∙ side_formed p o f first d in
      sited_typed (is_place x.form) c r p (direct_form note x.form) (is_used r note) w v (noted p o s x) (node p o note g) s (sites able) begun clean (few_before (form_before c r x.form u) few)
      (λ t' al'. noted_typed v p o s t' x (type_form p o g (entering g t')) g begun clean (clean_too u al' begun)
      (form_typed c r d p o f u is.1 m refl h clean taken few (sided_alike 0 0 (seen_at u) (kept_side f d) (kept_side g t'.side) (ap (kept_side g) (side_too u al') ∙ through) al'))) t al

  form_typed : {b : Bool} (c : Around) (r : Taken) (d : Side) (p o : Pos) (f : ExprShape) (w : Walked) {s t : State} → ShapedExpr f → form_mark p f ≡ None → kept_side f d ≡ s.side → Knows b s → (
      let x = type_form p o f s in
      let g = probed_form c r x.form w in
      let v = walk_form c r x.form w in
      IsClean x.state → MayBeTaken r d x.typing.sort → HasFewItems v → Follows w s t → IsFormTypedAs v x g (type_form p o g t))
  form_typed c r d p o (leaf (number x)) w {s} {t} is m here h clean able few al = formed_typed w _ _ _ _ _ refl (record { typing = refl; state = steps_alike 0 0 (seen_at w) 1 (demand_alike 0 0 (seen_at w) (has_value (number_of x)) 33 s.at t.at p al) })
  form_typed c r d p o (leaf (char x)) w is m here h clean able few al = formed_typed w _ _ _ _ _ refl (record { typing = refl; state = steps_alike 0 0 (seen_at w) 1 al })
  form_typed c r d p o (leaf (str x)) w is m here h clean able few al = formed_typed w _ _ _ _ _ refl (string_alike 0 0 (seen_at w) p x al)
  form_typed c r d p o (leaf (name x)) w is m here h clean able few al = formed_typed w _ _ _ _ _ refl (name_alike 0 0 (seen_at w) p x al)
  form_typed c r d p o (paren a) w {s} is m here h clean able few al =
      let x = type_node a (step s) in
      let i = node_typed c r a w is m h clean (subst (λ l. MayBeTaken r l x.sort) here able) few (steps_alike 0 0 (seen_at w) 1 al) in
      let v = walk_node c r x.node w in
      formed_typed v _ _ _ _ _ (ap paren i.node) (record { typing = ap plainly i.sort; state = steps_alike 0 0 (seen_at v) 1 i.state })
  form_typed {b} c r d p o (call x args) w {s} {t} is m here h clean able few al =
      let f = called p x s in
      let begun = steps (opening args) f.state in
      let z = type_arguments [] args begun in
      let late = back (typed_call_grows p s.at (is_clean f.state z.state) f.function z.given z.state) clean in
      let early = back (arguments_grows [] args begun) late in
      let one = called_knows b p (find x s.names) s (find_sure b (length s.tables.functions) x s.names h) h early in
      let g = called_alike 0 0 (seen_at w) p x al in
      let es = probed_nodes c z.nodes w in
      let v = walk_nodes c z.nodes w in
      let so : Follows w begun (steps (opening es) (called p x t).state) = subst (λ k. Follows w begun (steps k (called p x t).state)) (sym (opening_typed c [] args begun w)) (steps_alike 0 0 (seen_at w) (opening args) g.state) in
      let i = arguments_typed c [] [] args w is m one.0.0 late few tt so in
      let y = type_arguments [] es (steps (opening es) (called p x t).state) in
      formed_typed v _ _ _ _ _ (ap (call x) i.nodes)
      (call_typed v p s.at t.at _ _ _ _ z.given y.given (is_still_clean f.state z.state early late) (is_still_clean (called p x t).state y.state (clean_too w g.state early) (clean_too v i.state late)) g.function i.given i.state)
  form_typed c r d p o (prefix (unary u) a) w {s} {t} is m here h clean able few al =
      let x = type_node a (step s) in
      let late = back (rule_grows (place_rule u x.sort) (step s).at (pos_in a) x.state) (back (rule_grows (unary_rule u x.state.rooms x.sort) s.at o (rule (place_rule u x.sort) (step s).at (pos_in a) x.state)) clean) in
      let i = node_typed c (operand_taken u) a w is.1 m h late (operand_taken_so u (step s).side x.sort) few (steps_alike 0 0 (seen_at w) 1 al) in
      let v = walk_node c (operand_taken u) x.node w in
      let y = type_node (probed_node c (operand_taken u) x.node w) (step t) in
      formed_typed v _ _ _ _ _ (ap (prefix (unary u)) i.node)
      (subst (λ q. AlikeOutcome 0 0 (seen_at v) (typed_unary s.at o (step s).at (pos_in a) u x.sort x.state) (typed_unary t.at o (step t).at q u y.sort y.state)) (sym (pos_typed c (operand_taken u) a (step s) w))
      (unary_alike 0 0 (seen_at v) s.at t.at o (step s).at (step t).at (pos_in a) u x.sort y.sort i.sort i.state))
  form_typed c r d p o (prefix (before u) a) w {s} {t} is m here h clean able few al =
      let x = type_node a (step s) in
      let late = back (rule_grows (changeable x.sort) (step s).at (pos_in a) x.state) (back (rule_grows (step_rule x.state.rooms x.sort) s.at o (rule (changeable x.sort) (step s).at (pos_in a) x.state)) clean) in
      let one = node_knows a (step s) is.1 h late in
      let i = node_typed c Changed a w is.1 m h late (step_taken_so x.state.rooms (step s).side x.sort s.at o (step s).at (pos_in a) x.state one.0 clean) few (steps_alike 0 0 (seen_at w) 1 al) in
      let v = walk_node c Changed x.node w in
      let y = type_node (probed_node c Changed x.node w) (step t) in
      formed_typed v _ _ _ _ _ (ap (prefix (before u)) i.node)
      (subst (λ q. AlikeOutcome 0 0 (seen_at v) (typed_step s.at o (step s).at (pos_in a) x.sort x.state) (typed_step t.at o (step t).at q y.sort y.state)) (sym (pos_typed c Changed a (step s) w))
      (step_alike 0 0 (seen_at v) s.at t.at o (step s).at (step t).at (pos_in a) x.sort y.sort i.sort i.state))
  form_typed c r d p o (prefix size_of a) w {s} {t} is m here h clean able few al =
      let i = plain_node w a m (quiet_alike 0 0 (seen_at w) true true refl (steps_alike 0 0 (seen_at w) 1 al)) in
      formed_typed w _ _ _ _ _ (ap (prefix size_of) i.node) (size_alike 0 0 (seen_at w) s.at t.at o _ _ (ap (λ (z : Sort). z.kind) i.sort) (quiet_alike 0 0 (seen_at w) s.quiet t.quiet (was_quiet w al) i.state))
  form_typed c r d p o (size_of_type y) w {s} {t} is m here h clean able few al =
      let i = plain_type w y m (steps_alike 0 0 (seen_at w) 2 al) in
      formed_typed w _ _ _ _ _ (ap size_of_type i.type) (type_size_alike 0 0 (seen_at w) s.at t.at o _ _ i.kind i.state)
  form_typed c r d p o (cast y a) w {s} {t} is m here h clean able few al =
      let k = type_type y (step s) in
      let x = type_node a (step k.state) in
      let late = back (rule_grows (by 33 (cast_type k.kind x.sort.kind)) s.at o x.state) clean in
      let one = type_knows y (step s) is.0 h (back (node_grows a (step k.state)) late) in
      let i = plain_type w y (none_first (type_mark y) (node_mark a) m) (steps_alike 0 0 (seen_at w) 1 al) in
      let j = node_typed c Read a w is.2 (none_second (type_mark y) (node_mark a) m) one.1.0 late tt few (steps_alike 0 0 (seen_at w) 1 i.state) in
      let v = walk_node c Read x.node w in
      formed_typed v _ _ _ _ _ (ap₂ cast i.type j.node) (cast_alike 0 0 (seen_at v) s.at t.at o _ _ _ _ i.kind j.sort j.state)
  form_typed c r d p o (suffix a (index e)) w {s} {t} is m here h clean able few al =
      let x = type_node a s in
      let y = type_node e (step x.state) in
      let late = back (rule_grows (element_rule y.state.rooms x.sort y.sort) x.state.at o y.state) clean in
      let early = back (node_grows e (step x.state)) late in
      let one = node_knows a s is.1 h early in
      let u = walk_node c Read x.node w in
      let v = walk_node c Read y.node u in
      let i = node_typed c Read a w is.1 (none_first (node_mark a) (node_mark e) m) h early tt (few_before (node_on c Read y.node u) few) al in
      let j = node_typed c Read e u is.2 (none_second (node_mark a) (node_mark e) m) one.1.0 late tt few (steps_alike 0 0 (seen_at u) 1 i.state) in
      formed_typed v _ _ _ _ _ (ap₂ (λ x y. suffix x (index y)) i.node j.node) (index_alike 0 0 (seen_at v) _ _ o _ _ _ _ i.sort j.sort j.state)
  form_typed c r d p o (suffix a (field g x q)) w {s} {t} is m here h clean able few al =
      let z = type_node a s in
      let d = holder g z.state.rooms z.sort.kind in
      let u = step (rule d z.state.at o z.state) in
      let f = of_kind (kind_at d) (field_rule x z.state) in
      let late = back (rule_grows d z.state.at o z.state) (back (rule_grows f u.at q u) clean) in
      let i = node_typed c Read a w is.1 (none_first (node_mark a) None m) h late tt few al in
      let v = walk_node c Read z.node w in
      formed_typed v _ _ _ _ _ (ap (λ z. suffix z (field g x q)) i.node) (field_alike 0 0 (seen_at v) _ _ o g x q _ _ i.sort i.state)
  form_typed c r d p o (suffix a (behind u)) w {s} {t} is m here h clean able few al =
      let x = type_node a s in
      let late = back (rule_grows (changeable x.sort) s.at (pos_in a) (step x.state)) (back (rule_grows (step_rule x.state.rooms x.sort) x.state.at o (rule (changeable x.sort) s.at (pos_in a) (step x.state))) clean) in
      let one = node_knows a s is.1 h late in
      let i = node_typed c Changed a w is.1 (none_first (node_mark a) None m) h late (step_taken_so x.state.rooms s.side x.sort x.state.at o s.at (pos_in a) (step x.state) one.0 clean) few al in
      let v = walk_node c Changed x.node w in
      let y = type_node (probed_node c Changed x.node w) t in
      formed_typed v _ _ _ _ _ (ap (λ z. suffix z (behind u)) i.node)
      (subst (λ q. AlikeOutcome 0 0 (seen_at v) (typed_step x.state.at o s.at (pos_in a) x.sort (step x.state)) (typed_step y.state.at o t.at q y.sort (step y.state))) (sym (pos_typed c Changed a s w))
      (step_alike 0 0 (seen_at v) x.state.at y.state.at o s.at t.at (pos_in a) x.sort y.sort i.sort (steps_alike 0 0 (seen_at v) 1 i.state)))
  form_typed c r d p o (two (plain k) a e) w {s} {t} is m here h clean able few al =
      let first = sided Neither s in
      let x = type_node a first in
      let second = sided Neither (step x.state) in
      let y = type_node e second in
      let late = back (infix_grows x.state.at o s.at (pos_in a) (plain k) x.sort y.sort y.state) clean in
      let early = back (node_grows e second) late in
      let one = node_knows a first is.2 h early in
      let u = walk_node c Read x.node w in
      let v = walk_node c Read y.node u in
      let i = node_typed c Read a w is.2 (none_first (node_mark a) (node_mark e) m) h early tt (few_before (node_on c Read y.node u) few) (beside w al) in
      let j = node_typed c Read e u is.4 (none_second (node_mark a) (node_mark e) m) one.1.0 late tt few (beside u (steps_alike 0 0 (seen_at u) 1 i.state)) in
      formed_typed v _ _ _ _ _ (ap₂ (two (plain k)) i.node j.node) (infix_typed v x.state.at (type_node (probed_node c Read x.node w) (sided Neither t)).state.at o s.at t.at (pos_in a) _ (plain k) _ _ _ _ (pos_typed c Read a first w) i.sort j.sort j.state)
  form_typed c r d p o (two comma a e) w {s} {t} is m here h clean able few al =
      let first = sided Neither s in
      let x = type_node a first in
      let second = sided Neither (step x.state) in
      let y = type_node e second in
      let late = back (infix_grows x.state.at o s.at (pos_in a) comma x.sort y.sort y.state) clean in
      let early = back (node_grows e second) late in
      let one = node_knows a first is.2 h early in
      let u = walk_node c Read x.node w in
      let v = walk_node c Read y.node u in
      let i = node_typed c Read a w is.2 (none_first (node_mark a) (node_mark e) m) h early tt (few_before (node_on c Read y.node u) few) (beside w al) in
      let j = node_typed c Read e u is.4 (none_second (node_mark a) (node_mark e) m) one.1.0 late tt few (beside u (steps_alike 0 0 (seen_at u) 1 i.state)) in
      formed_typed v _ _ _ _ _ (ap₂ (two comma) i.node j.node) (infix_typed v x.state.at (type_node (probed_node c Read x.node w) (sided Neither t)).state.at o s.at t.at (pos_in a) _ comma _ _ _ _ (pos_typed c Read a first w) i.sort j.sort j.state)
  form_typed c r d p o (two (assign k) a e) w {s} {t} is m here h clean able few al =
      let l = left_of (assign k) in
      let first = sided l s in
      let x = type_node a first in
      let second = sided (right_of (assign k) x.sort.kind) (step x.state) in
      let y = type_node e second in
      let late = back (infix_grows x.state.at o s.at (pos_in a) (assign k) x.sort y.sort y.state) clean in
      let early = back (node_grows e second) late in
      let one = node_knows a first is.2 h early in
      let other = node_knows e second is.4 one.1.0 late in
      let so = left_taken_so k x.sort y.sort x.state.at o s.at (pos_in a) y.state one.0 other.0 clean in
      let holds = node_structure a first in
      let q = right_taken k x.node in
      let also = right_taken_so k x.node x.sort y.sort holds (right_allows k x.node x.sort y.sort x.state.at o s.at (pos_in a) y.state holds one.0 other.0 clean) in
      let u = walk_node c (left_taken k) x.node w in
      let v = walk_node c q y.node u in
      let i = node_typed c (left_taken k) a w is.2 (none_first (node_mark a) (node_mark e) m) h early so (few_before (node_on c q y.node u) few) (sided_alike 0 0 (seen_at w) l l refl al) in
      let j = node_typed c q e u is.4 (none_second (node_mark a) (node_mark e) m) one.1.0 late also few (sided_alike 0 0 (seen_at u) _ _ (ap (λ (z : Sort). right_of (assign k) z.kind) i.sort) (steps_alike 0 0 (seen_at u) 1 i.state)) in
      formed_typed v _ _ _ _ _ (ap₂ (two (assign k)) i.node j.node) (infix_typed v x.state.at (type_node (probed_node c (left_taken k) x.node w) (sided l t)).state.at o s.at t.at (pos_in a) _ (assign k) _ _ _ _ (pos_typed c (left_taken k) a first w) i.sort j.sort j.state)
  form_typed c r d p o (two and a e) w {s} {t} is m here h clean able few al =
      let first = sided Neither s in
      let x = type_node a first in
      let second = sided Neither (step x.state) in
      let y = type_node e second in
      let late = back (infix_grows x.state.at o s.at (pos_in a) and x.sort y.sort y.state) clean in
      let early = back (node_grows e second) late in
      let one = node_knows a first is.2 h early in
      let other = node_knows e second is.4 one.1.0 late in
      let tests = logical_tested x.sort y.sort (infix_there x.state.at o s.at (pos_in a) and x.sort y.sort y.state one.0 other.0 clean) in
      let u = walk_test c x.node w in
      let v = walk_loop_test c y.node u in
      let read = read_from a first (none_first (node_mark a) (node_mark e) m) early (λ l d v t al clean few. node_typed d Read a v is.2 (none_first (node_mark a) (node_mark e) m) h clean tt few al) in
      let i = test_from c a w first read (back (node_grows a first) early) early tests.0 (few_before (right_before c x.node y.node w) few) Neither (sided Neither t) (beside w al) in
      let x' = type_node (probed_test c x.node w) (sided Neither t) in
      let last = read_from e second (none_second (node_mark a) (node_mark e) m) late (λ l d v t al clean few. node_typed d Read e v is.4 (none_second (node_mark a) (node_mark e) m) one.1.0 clean tt few al) in
      let j = loop_from c e u second last early late tests.1 few (sided Neither (step x'.state)) (beside u (steps_alike 0 0 (seen_at u) 1 i.state)) in
      formed_typed v _ _ _ _ _ (ap₂ (two and) i.node j.node) (and_near v _ _ o _ _ _ _ i.sort j.sort j.state)
  form_typed c r d p o (two or a e) w {s} {t} is m here h clean able few al =
      let first = sided Neither s in
      let x = type_node a first in
      let second = sided Neither (step x.state) in
      let y = type_node e second in
      let late = back (infix_grows x.state.at o s.at (pos_in a) or x.sort y.sort y.state) clean in
      let early = back (node_grows e second) late in
      let one = node_knows a first is.2 h early in
      let other = node_knows e second is.4 one.1.0 late in
      let tests = logical_tested x.sort y.sort (infix_there x.state.at o s.at (pos_in a) or x.sort y.sort y.state one.0 other.0 clean) in
      let u = walk_test c x.node w in
      let v = walk_loop_test c y.node u in
      let read = read_from a first (none_first (node_mark a) (node_mark e) m) early (λ l d v t al clean few. node_typed d Read a v is.2 (none_first (node_mark a) (node_mark e) m) h clean tt few al) in
      let i = test_from c a w first read (back (node_grows a first) early) early tests.0 (few_before (right_before c x.node y.node w) few) Neither (sided Neither t) (beside w al) in
      let x' = type_node (probed_test c x.node w) (sided Neither t) in
      let last = read_from e second (none_second (node_mark a) (node_mark e) m) late (λ l d v t al clean few. node_typed d Read e v is.4 (none_second (node_mark a) (node_mark e) m) one.1.0 clean tt few al) in
      let j = loop_from c e u second last early late tests.1 few (sided Neither (step x'.state)) (beside u (steps_alike 0 0 (seen_at u) 1 i.state)) in
      formed_typed v _ _ _ _ _ (ap₂ (two or) i.node j.node) (or_near v _ _ o _ _ _ _ i.sort j.sort j.state)
  form_typed c r d p o (choose a e g) w {s} {t} is m here h clean able few al =
      let x = type_node a s in
      let y = type_node e (step x.state) in
      let z = type_node g (step y.state) in
      let late = back (rule_grows (choice_rule x.sort y.sort z.sort) x.state.at o z.state) clean in
      let mid = back (node_grows g (step y.state)) late in
      let early = back (node_grows e (step x.state)) mid in
      let rest = none_second (node_mark a) (first (node_mark e) (node_mark g)) m in
      let one = node_knows a s is.1 h early in
      let other = node_knows e (step x.state) is.2 one.1.0 mid in
      let last = node_knows g (step y.state) is.4 other.1.0 late in
      let tested = chosen_tested x.sort y.sort z.sort (choice_there x.sort y.sort z.sort x.state.at o z.state one.0 other.0 last.0 clean) in
      let u = walk_test c x.node w in
      let v = walk_arm c y.node u in
      let few_there = few_before (arm_on c z.node v) few in
      let none = none_first (node_mark a) (first (node_mark e) (node_mark g)) m in
      let read = read_from a s none early (λ l d v t al clean few. node_typed d Read a v is.1 none h clean tt few al) in
      let i = test_from c a w s read (back (node_grows a s) early) early tested (few_before (arm_on c y.node u) few_there) s.side t al in
      let x' = type_node (probed_test c x.node w) t in
      let one_read = read_from e (step x.state) (none_first (node_mark e) (node_mark g) rest) mid (λ l d v t al clean few. node_typed d Read e v is.2 (none_first (node_mark e) (node_mark g) rest) one.1.0 clean tt few al) in
      let j = arm_from c e u (step x.state) one_read early mid few_there (step x'.state) (steps_alike 0 0 (seen_at u) 1 i.state) in
      let y' = type_node (probed_arm c y.node u) (step x'.state) in
      let other_read = read_from g (step y.state) (none_second (node_mark e) (node_mark g) rest) late (λ l d v t al clean few. node_typed d Read g v is.4 (none_second (node_mark e) (node_mark g) rest) other.1.0 clean tt few al) in
      let l = arm_from c g v (step y.state) other_read mid late few (step y'.state) (steps_alike 0 0 (seen_at v) 1 j.state) in
      formed_typed (walk_arm c z.node v) _ _ _ _ _ (three choose i.node j.node l.node) (choice_typed (walk_arm c z.node v) _ _ o _ _ _ _ _ _ i.sort j.sort l.sort l.state)
  form_typed c r d p o (probe u a) w is m here h clean able few al = absurd (some_none p m)

  pub arguments_typed : {b : Bool} (c : Around) (gs hs : List Given) (es : NodeShapes) (w : Walked) {s t : State} → ShapedNodes 1 es → nodes_mark es ≡ None → Knows b s → (
      let x = type_arguments gs es s in
      let qs = probed_nodes c x.nodes w in
      let v = walk_nodes c x.nodes w in
      IsClean x.state → HasFewItems v → AlikeGiven 0 0 (seen_at w) gs hs → Follows w s t → AreTypedAs v x qs (type_arguments hs qs t))
  arguments_typed c gs hs no_nodes w is m h clean few same al = record { nodes = refl; given = same; state = al }
  arguments_typed c gs hs (more_nodes a rest) w {s} {t} is m h clean few same al =
      let x = type_node a (step s) in
      let gs' = gs ++ given_at (step s).at (pos_in a) x.sort ∷ [] in
      let y = type_arguments gs' rest x.state in
      let early = back (arguments_grows gs' rest x.state) clean in
      let one = node_knows a (step s) is.1 h early in
      let u = walk_node c Read x.node w in
      let q = probed_node c Read x.node w in
      let x' = type_node q (step t) in
      let hs' = hs ++ given_at (step t).at (pos_in q) x'.sort ∷ [] in
      let i = node_typed c Read a w is.1 (none_first (node_mark a) (nodes_mark rest) m) h early tt (few_before (nodes_before c y.nodes u) few) (steps_alike 0 0 (seen_at w) 1 al) in
      let j = arguments_typed c gs' hs' rest u is.2 (none_second (node_mark a) (nodes_mark rest) m) one.1.0 clean few (given_any w u gs' hs' (given_then 0 0 (seen_at w) gs hs _ _ same (ap (λ (z : Sort). z.kind) i.sort) (ap null i.sort))) i.state in
      record { nodes = ap₂ more_nodes i.node j.nodes; given = j.given; state = j.state }
