-- A place with the probes of its sites is typed as the place is: a definition round a use, each behind the claim of its number.
use Rattle.std.proofs.Common.{◌≡◌, Option, Bool, true, false, refl, sym, ap, subst, arith}
use Rattle.std.specs.Prelude.{if◌then◌else◌}
use Rattle.std.specs.Fmt.{decimal}
use Rattle.c_base.specs.declared.place.Pos.{Pos}
use Rattle.c_syntax.specs.Shape.{Probing, used, def, NodeShape, node, simple}
use Rattle.c_tree.specs.declared.meaning.Side.{Side}
use Rattle.c_tree.specs.State.{State}
use Rattle.c_tree.specs.Operators.{is_copied}
use Rattle.c_tree.specs.Sorts.{Sort, TypedNode, pos_in}
use Rattle.c_tree.specs.Typing.{type_node}
use Rattle.c_walk.specs.declared.around.Around.{Around}
use Rattle.c_walk.specs.declared.around.Taken.{Taken}
use Rattle.c_walk.specs.Counted.{use_count, next_use, next_def}
use Rattle.c_walk.specs.Items.{Direct, def as a_def}
use Rattle.c_walk.specs.Walked.{Walked, is_written, with_def, with_use, with_sites}
use Rattle.probe_rules.specs.Fitting.{HasFewItems}
use Rattle.probe_rules.specs.Marks.{round_place, in_use, in_def}
use Rattle.probe_rules.specs.ProbedExpressions.{in_sites}
use Rattle.probe_rules.proofs.Claims.{use_claimed, def_claimed}
use Rattle.probe_rules.proofs.Few.{uses_then, few_use, few_uses, few_defs}
use Rattle.probe_laws.proofs.Settled.{IsClean}
use Rattle.probe_typed.specs.Typed.{Follows, IsProbedPlace, IsTypedAs}
use Rattle.probe_typed.proofs.Follows.{goes_on, clean_too, side_too, IsPlainNote, note_at}
use Rattle.probe_typed.proofs.Probes.{plain_still, used_comes, def_comes, claimed_at, place_round}

-- typed as it stands, from each state that follows
abbrev pub IsTypedFrom : Walked → Walked → State → TypedNode → NodeShape → Type 0
IsTypedFrom w v s x a = (t : State) → Follows w s t → IsTypedAs v x a (type_node a t)

-- where such probes stand, on that side of `=`, the place may have them, and its note holds no value
pub record IsSite (u : Probing) (b : Bool) (l : Side) (x : TypedNode) (a : NodeShape) : Type 0 where
  pub place : b ≡ true → IsProbedPlace (is_copied u l) x.sort
  pub noted : b ≡ true → IsPlainNote (note_at a)

-- also where it stands in a state that follows
place_too : (u : Probing) (w : Walked) (x : TypedNode) (a : Sort) {s t : State} → Follows w s t → a ≡ x.sort → IsProbedPlace (is_copied u s.side) x.sort → IsProbedPlace (is_copied u t.side) a
place_too u w x a {s} {t} al e h = subst (λ l. IsProbedPlace (is_copied u l) a) (sym (side_too w al)) (subst (IsProbedPlace (is_copied u s.side)) (sym e) h)

used_typed : (b : Bool) (c : Around) (q : Pos) (d : Option Direct) (w v : Walked) (x : TypedNode) (a : NodeShape) (s : State) → IsSite used b s.side x a → IsClean s → IsClean x.state → HasFewItems (with_use b c q d w)
    → IsTypedFrom (with_use b c q d w) v s x a → IsTypedFrom w v s x (in_use b w a)
used_typed false c q d w v x a s site begun ended few inner t al = inner t al
used_typed true c q d w v x a s site begun ended few inner t al =
    let num = decimal (next_use w) in
    place_round used num v x a t (λ z e. used_comes t.side z (place_too used w x z al e (site.place refl))) (site.noted refl) (clean_too w al begun) ended
    (inner (claimed_at used num a t) (goes_on 4 (with_use true c q d w) (use_claimed 0 0 t.at (pos_in a) q c.function d c.owner w (few_uses true c q d w refl few) al)))

-- a definition changes no number of uses
same_uses : (b : Bool) (c : Around) (q : Pos) (d : Option Direct) (w : Walked) → use_count (with_def b c q d w).items ≡ use_count w.items
same_uses false c q d w = refl
same_uses true c q d w = omega (arith, uses_then w.items (a_def q c.function d))

next_uses : (w u : Walked) → use_count u.items ≡ use_count w.items → next_use u ≡ next_use w
next_uses w u e = omega (arith, e)

in_use_by : (b : Bool) (w u : Walked) (a : NodeShape) → use_count u.items ≡ use_count w.items → in_use b u a ≡ in_use b w a
in_use_by false w u a e = refl
in_use_by true w u a e = ap (λ k. round_place (simple used (decimal k)) a) (next_uses w u e)

def_typed : (b : Bool) (c : Around) (q : Pos) (d : Option Direct) (w v : Walked) (x : TypedNode) (a : NodeShape) (s : State) → IsSite def b s.side x a → IsClean s → IsClean x.state → HasFewItems (with_def b c q d w)
    → IsTypedFrom (with_def b c q d w) v s x a → IsTypedFrom w v s x (in_def b w a)
def_typed false c q d w v x a s site begun ended few inner t al = inner t al
def_typed true c q d w v x a s site begun ended few inner t al =
    let num = decimal (next_def w) in
    place_round def num v x a t (λ z e. def_comes t.side z (place_too def w x z al e (site.place refl))) (site.noted refl) (clean_too w al begun) ended
    (inner (claimed_at def num a t) (goes_on 4 (with_def true c q d w) (def_claimed 0 0 t.at (pos_in a) q c.function d w (few_defs q c.function d w few) al)))

use_noted : (b : Bool) (w : Walked) (a : NodeShape) → IsPlainNote (note_at a) → IsPlainNote (note_at (in_use b w a))
use_noted false w a h = h
use_noted true w (node p o n g) h = plain_still n h

-- both, where the walk counts both
abbrev pub AreSites : Taken → Bool → Side → TypedNode → NodeShape → Type 0
AreSites r b l x a = IsSite def (is_written r) l x a × IsSite used b l x a

sites_typed : (c : Around) (r : Taken) (q : Pos) (d : Option Direct) (b : Bool) (w v : Walked) (x : TypedNode) (a : NodeShape) (s : State) → AreSites r b s.side x a → IsClean s → IsClean x.state → HasFewItems (with_sites c r q d b w)
    → IsTypedFrom (with_sites c r q d b w) v s x a → IsTypedFrom w v s x (in_sites r b w a)
sites_typed c r q d b w v x a s sites begun ended few inner =
    let u = with_def (is_written r) c q d w in
    let site : IsSite def (is_written r) s.side x (in_use b w a) = record { place = sites.0.place; noted = λ e. use_noted b w a (sites.0.noted e) } in
    def_typed (is_written r) c q d w v x (in_use b w a) s site begun ended (few_use b c q d u few)
    (subst (IsTypedFrom u v s x) (in_use_by b w u a (same_uses (is_written r) c q d w)) (used_typed b c q d u v x a s sites.1 begun ended few inner))

-- so of an expression, place or none
pub sited_typed : (here : Bool) (c : Around) (r : Taken) (q : Pos) (d : Option Direct) (b : Bool) (w v : Walked) (x : TypedNode) (a : NodeShape) (s : State) → (here ≡ true → AreSites r b s.side x a) → IsClean s → IsClean x.state
    → HasFewItems (if here then with_sites c r q d b w else w)
    → IsTypedFrom (if here then with_sites c r q d b w else w) v s x a → IsTypedFrom w v s x (if here then in_sites r b w a else a)
sited_typed false c r q d b w v x a s sites begun ended few inner = inner
sited_typed true c r q d b w v x a s sites begun ended few inner = sites_typed c r q d b w v x a s (sites refl) begun ended few inner
