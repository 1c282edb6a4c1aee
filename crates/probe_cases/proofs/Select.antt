-- A select probe is typed as it stands, where its expression is; and the case constants of a switch are what such a probe may hold.
use Rattle.std.proofs.Common.{◌≡◌, ℕ, ℤ, List, [], ◌∷◌, length, nat_eq, Option, Some, None, Bool, true, false, refl, sym, ap, ap₂, subst, ◌∙◌, arith}
use Rattle.std.specs.Fmt.{decimal}
use Rattle.std.proofs.lemmas.Bool.Decides.{nat_tests}
use Rattle.c_base.specs.declared.place.Pos.{Pos}
use Rattle.c_base.specs.declared.place.IntKind.{IntKind}
use Rattle.c_scopes.specs.Rows.{Scope}
use Rattle.c_syntax.specs.declared.text.Text.{Text}
use Rattle.c_syntax.specs.Shape.{TypeOf, int, pointer, array, structure, nothing, NoteShape, typed, test, NodeShape, node, ExprShape, probe, select, NodeShapes, ItemShapes, switch}
use Rattle.c_syntax.specs.Shaped.{ShapedForm}
use Rattle.c_type_rules.specs.Kinds.{promote}
use Rattle.c_type_rules.specs.Verdicts.{promoted_type}
use Rattle.c_constants.specs.declared.constants.Constant.{Constant}
use Rattle.c_constants.specs.declared.constants.Constant.TheVariants.{No, Faulty, Known, Variable, Part, Address, Literal}
use Rattle.c_tree.specs.declared.meaning.Entity.{Entity}
use Rattle.c_tree.specs.declared.meaning.Entity.TheVariants as entity
use Rattle.c_tree.specs.Complaints.{wrong_type}
use Rattle.c_tree.specs.State.{State, step, steps, is_clean}
use Rattle.c_tree.specs.Rulings.{Ruled, allowed, by, then_rule, kind_at, rule, of_kind, allowed_if}
use Rattle.c_tree.specs.Sorts.{Sort, a_value, TypedNode, Formed, formed, plainly, comes_to, note_of, noted, pos_in}
use Rattle.c_tree.specs.Operators.{claim, differ, select_cases, select_rule, sided, entering}
use Rattle.c_tree.specs.Typing.{type_node, type_form, type_cases}
use Rattle.c_tree.specs.Stating.{Surroundings, in_switch, no_labels, kind_of_switch, switched, type_items, type_body}
use Rattle.c_sites_probes.specs.Marked.{node_mark, items_mark, body_mark}
use Rattle.c_walk.specs.Tests.{choosing, case_values}
use Rattle.c_walk.specs.Walked.{next_decision}
use Rattle.probe_rules.specs.Marks.{value_note, constants_at}
use Rattle.c_tree.proofs.Grows.{rule_grows}
use Rattle.c_tree.proofs.GrowsUnits.{items_grow}
use Rattle.probe_rules.proofs.ReadyUnits.{none_second}
use Rattle.probe_rules.proofs.SelectConstants.{AreCases, items_are_cases}
use Rattle.probe_laws.proofs.Settled.{IsThere, IsClean, mended}
use Rattle.probe_laws.proofs.Rules.{back}
use Rattle.probe_laws.proofs.Known.{IsSure, AllSure, AllOuter, Knows, rule_goes}
use Rattle.probe_laws.proofs.KnownNodes.{node_knows}
use Rattle.probe_cases.specs.Cases.{IsFurther, AreInRange, AreDifferent, IsKnown, AreKnown, AreKnownAround, KnowsNames, CasesDiffer, Stands, SelectsAreTyped}
use Rattle.probe_cases.proofs.Spelled.{noted_if, claimed_side, list_typed}
use Rattle.probe_cases.proofs.Different.{HasSeen, values_differ, items_differ}
use Rattle.c_tree.specs.declared.meaning.Side.TheVariants.{Neither}

-- ---- the rule

ruled_so : (j : IntKind) (clean : Bool) (vs : List (Option ℤ)) (x : Sort) → clean ≡ true → x.kind ≡ Some (int j) → differ (promote j) vs ≡ true → select_rule clean vs x ≡ allowed (int j)
ruled_so j clean vs x c e d =
    ap (λ b. select_rule b vs x) c
    ∙ (ap (λ k. then_rule (then_rule (by wrong_type (promoted_type k)) (select_cases vs)) (λ t. of_kind k allowed)) e
    ∙ ap (λ b. then_rule (allowed_if b wrong_type (int (promote j))) (λ t. allowed (int j))) d)

-- ---- the note

abbrev note_in : NodeShape → NoteShape
note_in (node p o n f) = n

valued_note : (j : IntKind) (c : Constant) (m : Option ℕ) (v : Bool) → value_note (note_of (Some (int j)) c m v) ≡ typed (int j) None
valued_note j c m false = refl
valued_note j No m true = refl
valued_note j (Faulty k) m true = refl
valued_note j (Known k z) m true = refl
valued_note j Variable m true = refl
valued_note j Part m true = refl
valued_note j Address m true = refl
valued_note j Literal m true = refl

-- an integer that is typed as it stands has the note of its type
note_so : (j : IntKind) (p o : Pos) (n : NoteShape) (f : ExprShape) (s : State) → Stands j (node p o n f) s → value_note n ≡ typed (int j) None
note_so j p o n f s is =
    let t = type_form p o f (entering f s) in
    ap value_note (sym (ap note_in is.node))
    ∙ (ap (λ k. value_note (note_of k t.typing.sort.constant t.typing.names t.typing.valued)) is.kind ∙ valued_note j t.typing.sort.constant t.typing.names t.typing.valued)

-- ---- the probe

pub clean_then : (n m k : ℕ) → nat_eq n m ≡ true → nat_eq m k ≡ true → nat_eq n k ≡ true
clean_then n m k e d = grind (arith, nat_tests)

pub further_clean : (s t u : State) → IsFurther s t → is_clean t u ≡ true → is_clean s u ≡ true
further_clean s t u further e = sym (ap (λ (x : State). is_clean x u) further) ∙ e

-- what is known of the probe, by what is known behind its constants
pub select_so : (j : IntKind) (zs : List ℤ) → AreInRange (promote j) zs → AreDifferent zs → (x : Text) (p o : Pos) (n : NoteShape) (f : ExprShape) (s : State)
    → (let c = steps 3 (claim test x s.at p (sided Neither s)) in is_clean s c ≡ true → ((t : State) → IsFurther c t → Stands j (node p o n f) t)
    → (let a = node p o (value_note n) (probe (select x (constants_at p o zs)) (node p o n f)) in
    (t : State) × IsFurther c t × (type_node a s ≡ record { node = a; sort = a_value (Some (int j)) No; state = step (type_node (node p o n f) t).state })))
select_so j zs range apart x p o n f s clean stands =
    let b = node p o n f in
    let cs = constants_at p o zs in
    let c = steps 3 (claim test x s.at p (sided Neither s)) in
    let list = list_typed (promote j) zs range p o c (claimed_side test x s.at p (sided Neither s)) in
    let l = type_cases [] cs c in
    let t = step l.state in
    let further : IsFurther c t = ap step list.state in
    let is = stands t further in
    let v = type_node b t in
    let behind = further_clean c t v.state further is.clean in
    let whole : Ruled → NodeShapes → NodeShape → Formed = λ r ds a. formed (probe (select x ds) a) (comes_to (plainly (a_value (kind_at r) No)) (step (rule r s.at p v.state))) in
    let r = select_rule (is_clean c v.state) l.values v.sort in
    let ruled : r ≡ allowed (int j) = ruled_so j (is_clean c v.state) l.values v.sort behind is.kind (values_differ (promote j) l.values zs list.values apart) in (
      t,
      further,
      ap (λ q. noted p o s (whole q l.nodes v.node)) ruled
          ∙ (ap₂ (λ ds a. noted p o s (whole (allowed (int j)) ds a)) list.nodes is.node
          ∙ (ap (λ d. noted_if d p o (whole (allowed (int j)) cs b)) (clean_then (length s.complaints) (length c.complaints) (length v.state.complaints) clean behind)
          ∙ ap (λ m. record { node = node p o m (probe (select x cs) b); sort = a_value (Some (int j)) No; state = step v.state }) (sym (note_so j p o n f t is)))),
    )

pub selects_are_typed : SelectsAreTyped
selects_are_typed j zs range apart w (node p o n f) s clean stands =
    let r = select_so j zs range apart (decimal (next_decision w)) p o n f s clean stands in
    (ap (λ (y : TypedNode). y.node) r.2, ap (λ (y : TypedNode). y.sort) r.2, (r.0, r.1, ap (λ (y : TypedNode). y.state) r.2))

-- ---- the constants of a switch

known_sure : (n : ℕ) (e : Entity) → IsKnown n e → IsSure false n e
known_sure n (entity.Variable k) h = tt
known_sure n (entity.Parameter k) h = absurd h
known_sure n (entity.Function k) h = h
known_sure n (entity.Builtin b) h = tt
known_sure n (entity.Constant v) h = tt
known_sure n entity.Unknown h = h

all_sure : (n : ℕ) (names : Scope Entity) → AreKnown n names → AllSure false n names
all_sure n [] h = tt
all_sure n (x ∷ rest) h = (known_sure n x.1 h.0, all_sure n rest h.1)

around_sure : (n : ℕ) (outer : List (Scope Entity)) → AreKnownAround n outer → AllOuter n outer
around_sure n [] h = tt
around_sure n (names ∷ rest) h = (all_sure n names h.0, around_sure n rest h.1)

pub knows : (s : State) → KnowsNames s → Knows false s
knows s h = let n = length s.tables.functions in record { sure = all_sure n s.names.top h.0; around = around_sure n s.names.outer h.1; inside = tt }

-- a switch of which nothing is complained chooses by an integer
chosen_by : (k : Option TypeOf) (token : ℕ) (p : Pos) (s : State) → IsThere k → IsClean (rule (by wrong_type (promoted_type k)) token p s) → (j : IntKind) × (k ≡ Some (int j))
chosen_by None token p s h c = absurd h
chosen_by (Some (int j)) token p s h c = (j, refl)
chosen_by (Some (pointer t)) token p s h c = absurd (mended wrong_type token p s c)
chosen_by (Some (array t n)) token p s h c = absurd (mended wrong_type token p s c)
chosen_by (Some (structure n)) token p s h c = absurd (mended wrong_type token p s c)
chosen_by (Some nothing) token p s h c = absurd (mended wrong_type token p s c)

choosing_noted : (p o : Pos) (f : ExprShape) (j : IntKind) (c : Constant) (m : Option ℕ) (v : Bool) → choosing (node p o (note_of (Some (int j)) c m v) f) ≡ Some (promote j)
choosing_noted p o f j c m false = refl
choosing_noted p o f j No m true = refl
choosing_noted p o f j (Faulty k) m true = refl
choosing_noted p o f j (Known k z) m true = refl
choosing_noted p o f j Variable m true = refl
choosing_noted p o f j Part m true = refl
choosing_noted p o f j Address m true = refl
choosing_noted p o f j Literal m true = refl

pub choosing_so : (e : NodeShape) (s : State) (j : IntKind) → (type_node e s).sort.kind ≡ Some (int j) → choosing (type_node e s).node ≡ Some (promote j)
choosing_so (node p o n f) s j e =
    let t = type_form p o f (entering f s) in
    ap (λ k. choosing (node p o (note_of k t.typing.sort.constant t.typing.names t.typing.valued) t.form)) e ∙ choosing_noted p o t.form j t.typing.sort.constant t.typing.names t.typing.valued

all_in_range : (k : IntKind) (zs : List ℤ) → AreCases (Some k) zs → AreInRange k zs
all_in_range k [] are = tt
all_in_range k (z ∷ zs) are = (are.0, all_in_range k zs are.1)

-- by that integer's type, the case constants are its values and different
pub record Chooses (x : TypedNode) (zs : List ℤ) : Type 0 where
  pub kind : IntKind
  pub is : x.sort.kind ≡ Some (int kind)
  pub in_range : AreInRange (promote kind) zs
  pub apart : AreDifferent zs

pub switch_chooses : (c : Surroundings) (p : Pos) (e : NodeShape) (items : ItemShapes) (s : State) → ShapedForm (switch e items) → Knows false s → body_mark (type_body c p (switch e items) s).form ≡ None
    → IsClean (type_body c p (switch e items) s).state
    → (let x = type_node e (steps 2 s) in let y = type_items (in_switch c) (Some (no_labels (switched x))) items (steps 2 (rule (switched x) (steps 2 s).at (pos_in x.node) x.state)) in Chooses x (case_values (choosing x.node) y.items))
switch_chooses c p e items s is g m clean =
    let x = type_node e (steps 2 s) in
    let r = switched x in
    let v = rule r (steps 2 s).at (pos_in x.node) x.state in
    let l = no_labels r in
    let y = type_items (in_switch c) (Some l) items (steps 2 v) in
    let late = back (items_grow (in_switch c) (Some l) items (steps 2 v)) clean in
    let one = node_knows e (steps 2 s) is.0 g (back (rule_grows r (steps 2 s).at (pos_in x.node) x.state) late) in
    let two = rule_goes r (steps 2 s).at (pos_in x.node) x.state one.1.0 in
    let chosen = chosen_by x.sort.kind (steps 2 s).at (pos_in x.node) x.state one.0 late in
    let k = promote chosen.0 in
    let so = sym (choosing_so e (steps 2 s) chosen.0 chosen.1) in
    let seen : HasSeen k [] (Some l) = (ap (λ q. kind_of_switch (kind_at (by wrong_type (promoted_type q)))) chosen.1, refl) in
    record {
      kind = chosen.0;
      is = chosen.1;
      in_range = subst (λ q. AreInRange k (case_values q y.items)) so (all_in_range k (case_values (Some k) y.items) (items_are_cases (Some k) y.items));
      apart = subst (λ q. AreDifferent (case_values q y.items)) so (items_differ (in_switch c) k l items (steps 2 v) seen is.1 (none_second (node_mark x.node) (items_mark y.items) m) two.0 clean);
    }

pub cases_differ : CasesDiffer
cases_differ c p e items s is h m clean = (switch_chooses c p e items s is (knows s h) m (ap length clean)).apart
