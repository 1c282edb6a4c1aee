-- A probe round a node, behind the claim of its number: round a place that may have one it is that place, and round a value that value.
use Rattle.std.proofs.Common.{◌≡◌, ℕ, Option, Some, None, Bool, true, false, ◌∙◌, refl, sym, ap, ap₂, subst}
use Rattle.std.specs.Prelude.{option_map}
use Rattle.c_base.specs.declared.place.Pos.{Pos}
use Rattle.c_syntax.specs.declared.text.Text.{Text}
use Rattle.c_syntax.specs.Shape.{TypeOf, NoteShape, bare, typed, known, Probing, block, test, used, def, NodeShape, node, probe, simple}
use Rattle.c_type_rules.specs.Kinds.{decay}
use Rattle.c_type_rules.specs.Verdicts.{Verdict, fine, unknown, wrong, fine_if, truth_type, probed_type}
use Rattle.c_constants.specs.declared.constants.Constant.{Constant}
use Rattle.c_constants.specs.declared.constants.Constant.TheVariants.{No, Faulty, Known, Variable, Part, Address, Literal}
use Rattle.c_constants.specs.Constants as constants
use Rattle.c_tree.specs.declared.meaning.Side.{Side}
use Rattle.c_tree.specs.State.{State, step, steps}
use Rattle.c_tree.specs.Rulings.{Ruled, by, then_rule, kind_at, rule, of_kind, allowed_if}
use Rattle.c_tree.specs.Sorts.{Sort, a_value, a_place, plainly, comes_to, TypedNode, formed, noted, note_of, cleared, pos_in}
use Rattle.c_tree.specs.Operators.{claim, as_decayed, is_copied, kept_side, entering, typed_probe}
use Rattle.c_tree.specs.Typing.{type_node}
use Rattle.c_walk.specs.Walked.{Walked}
use Rattle.probe_rules.specs.Marks.{value_note, place_note, round_value, round_place}
use Rattle.probe_laws.proofs.Settled.{IsThere, IsClean}
use Rattle.probe_laws.proofs.KnownParts.{is_still_clean}
use Rattle.probe_typed.specs.Typed.{HasProbedType, IsProbedPlace, MayBeTested, IsTypedAs, IsTypedNear}
use Rattle.probe_typed.proofs.Follows.{goes_on, clean_too, IsPlainNote, note_at}
use Rattle.probe_typed.proofs.Near.{as_value, near_value}

-- ---- notes

plain_noted : (k : Option TypeOf) (c d : Constant) (n : Option ℕ) (valued : Bool) → IsPlainNote (note_of k c n valued) → place_note (note_of k c n valued) ≡ note_of k d None false
plain_noted None c d n valued h = refl
plain_noted (Some t) c d n false h = refl
plain_noted (Some t) No d n true h = refl
plain_noted (Some t) (Faulty k) d n true h = refl
plain_noted (Some t) (Known k v) d n true h = absurd h
plain_noted (Some t) Variable d n true h = refl
plain_noted (Some t) Part d n true h = refl
plain_noted (Some t) Address d n true h = refl
plain_noted (Some t) Literal d n true h = refl

value_noted : (k : Option TypeOf) (c d : Constant) (n : Option ℕ) (valued : Bool) → value_note (note_of k c n valued) ≡ note_of (option_map decay k) d None false
value_noted None c d n valued = refl
value_noted (Some t) c d n false = refl
value_noted (Some t) No d n true = refl
value_noted (Some t) (Faulty k) d n true = refl
value_noted (Some t) (Known k v) d n true = refl
value_noted (Some t) Variable d n true = refl
value_noted (Some t) Part d n true = refl
value_noted (Some t) Address d n true = refl
value_noted (Some t) Literal d n true = refl

pub plain_still : (n : NoteShape) → IsPlainNote n → IsPlainNote (place_note n)
plain_still (typed t n) h = tt
plain_still (known t v) h = h
plain_still bare h = tt

-- ---- what probes come to

-- on that side of `=`
abbrev pub ComesTo : Probing → Side → Sort → Sort → Type 0
ComesTo u d a b = (token : ℕ) (p : Pos) (s : State) → typed_probe token p u d a s ≡ comes_to (plainly b) (step s)

decayed_at : (k : Option TypeOf) (c : Constant) (token : ℕ) (p : Pos) (s : State) →
    comes_to (plainly (a_value (kind_at (of_kind k as_decayed)) c)) (step (rule (of_kind k as_decayed) token p s)) ≡ comes_to (plainly (a_value (option_map decay k) c)) (step s)
decayed_at None c token p s = refl
decayed_at (Some t) c token p s = refl

pub block_comes : (d : Side) (a : Sort) → ComesTo block d a (as_value a)
block_comes d a token p s = decayed_at a.kind (constants.probed a.constant) token p s

past : (v : Verdict) (r : Ruled) → IsThere (kind_at (by 33 v)) → then_rule (by 33 v) (λ t. r) ≡ r
past (fine t) r h = refl
past unknown r h = absurd h
past wrong r h = absurd h

pub test_comes : (d : Side) (a : Sort) → MayBeTested a → ComesTo test d a (as_value a)
test_comes d a h token p s =
    let c = constants.probed a.constant in
    ap (λ r. comes_to (plainly (a_value (kind_at r) c)) (step (rule r token p s))) (past (truth_type a.kind) (of_kind a.kind as_decayed) h) ∙ decayed_at a.kind c token p s

abbrev place_ruled : Bool → Option TypeOf → Bool → Ruled
place_ruled copied k b = then_rule (by 33 (probed_type copied k)) (allowed_if b 33)

placed_at : (copied : Bool) (k : Option TypeOf) (c : Constant) (b : Bool) (token : ℕ) (p : Pos) (s : State) → b ≡ true → HasProbedType copied k →
    comes_to (plainly (a_place (kind_at (place_ruled copied k b)) c)) (step (rule (place_ruled copied k b) token p s)) ≡ comes_to (plainly (record { kind = k; constant = c; place = b })) (step s)
placed_at copied None c b token p s e h = absurd h
placed_at copied (Some t) c false token p s e h = cc
placed_at copied (Some t) c true token p s e h =
    ap (λ z. let r = then_rule (by 33 (fine_if z t)) (allowed_if true 33) in comes_to (plainly (a_place (kind_at r) c)) (step (rule r token p s))) h

pub used_comes : (d : Side) (a : Sort) → IsProbedPlace (is_copied used d) a → ComesTo used d a a
used_comes d a h token p s = placed_at (is_copied used d) a.kind a.constant a.place token p s h.0 h.1

pub def_comes : (d : Side) (a : Sort) → IsProbedPlace (is_copied def d) a → ComesTo def d a a
def_comes d a h token p s = placed_at (is_copied def d) a.kind a.constant a.place token p s h.0 h.1

-- ---- the node of a probe

-- the state behind the claim, in which the inner node begins
abbrev pub claimed_at : Probing → Text → NodeShape → State → State
claimed_at u x b t = steps 4 (claim u x t.at (pos_in b) (entering (probe (simple u x) b) t))

abbrev probe_node : Pos → Pos → Probing → Text → TypedNode → Sort → TypedNode
probe_node p o u x y a = record { node = node p o (note_of a.kind a.constant None false) (probe (simple u x) y.node); sort = a; state = step y.state }

probe_noted : (u : Probing) (d : Side) (x : Text) (p o : Pos) (t : State) (y : TypedNode) (a : Sort) → ComesTo u d y.sort a → IsClean t → IsClean y.state → noted p o t (formed (probe (simple u x) y.node) (typed_probe t.at p u d y.sort y.state)) ≡ probe_node p o u x y a
probe_noted u d x p o t y a comes begun ended =
    ap (λ z. noted p o t (formed (probe (simple u x) y.node) z)) (comes t.at p y.state)
    ∙ ap (λ b. record { node = node p o (note_of (cleared b a).kind a.constant None false) (probe (simple u x) y.node); sort = cleared b a; state = step y.state }) (is_still_clean t y.state begun ended)

pub place_round : (u : Probing) (x : Text) (v : Walked) (z : TypedNode) (b : NodeShape) (t : State) → (let d = kept_side (probe (simple u x) b) t.side in ((a : Sort) → a ≡ z.sort → ComesTo u d a a) → IsPlainNote (note_at b) → IsClean t → IsClean z.state
    → IsTypedAs v z b (type_node b (claimed_at u x b t)) → IsTypedAs v z (round_place (simple u x) b) (type_node (round_place (simple u x) b) t))
place_round u x v z (node p o n g) t comes plain begun ended i =
    let d = kept_side (probe (simple u x) (node p o n g)) t.side in
    let y = type_node (node p o n g) (claimed_at u x (node p o n g) t) in
    let e = ap note_at i.node in
    subst (IsTypedAs v z (node p o (place_note n) (probe (simple u x) (node p o n g))))
    (sym (probe_noted u d x p o t y y.sort (comes y.sort i.sort) begun (clean_too v i.state ended)))
    (record {
      node = ap₂ (λ q m. node p o q (probe (simple u x) m)) (sym (plain_noted _ _ _ _ _ (subst IsPlainNote (sym e) plain)) ∙ ap place_note e) i.node;
      sort = i.sort;
      state = goes_on 1 v i.state;
    })

pub value_round : (u : Probing) (x : Text) (v : Walked) (z : TypedNode) (b : NodeShape) (t : State) → (let d = kept_side (probe (simple u x) b) t.side in let y = type_node b (claimed_at u x b t) in ComesTo u d y.sort (as_value y.sort) → IsClean t → IsClean z.state → IsTypedNear v z b y → IsTypedNear v z (round_value (simple u x) b) (type_node (round_value (simple u x) b) t))
value_round u x v z (node p o n g) t comes begun ended i =
    let y = type_node (node p o n g) (claimed_at u x (node p o n g) t) in
    let e = ap note_at i.node in
    subst (IsTypedNear v z (node p o (value_note n) (probe (simple u x) (node p o n g))))
    (sym (probe_noted u (kept_side (probe (simple u x) (node p o n g)) t.side) x p o t y (as_value y.sort) comes begun (clean_too v i.state ended)))
    (record {
      node = ap₂ (λ q m. node p o q (probe (simple u x) m)) (sym (value_noted _ _ _ _ _) ∙ ap value_note e) i.node;
      sort = near_value i.sort;
      state = goes_on 1 v i.state;
    })
