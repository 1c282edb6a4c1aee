-- States that follow one another, and the node of a form that is typed as it stands.
use Rattle.std.proofs.Common.{◌≡◌, ℕ, ◌+◌, length, ◌∙◌, sym, ap, ap₂, arith}
use Rattle.std.specs.Prelude.{min, ◌-◌, ◌^◌}
use Rattle.c_base.specs.declared.place.Pos.{Pos}
use Rattle.c_syntax.specs.Shape.{NoteShape, known, NodeShape, node, ExprShape}
use Rattle.c_tree.specs.State.{State, steps}
use Rattle.c_tree.specs.Sorts.{Sort, Typing, Outcome, Formed, formed, noted, note_of, node_sort, cleared}
use Rattle.c_walk.specs.Walked.{Walked}
use Rattle.probe_rules.proofs.Moved.{AlikeOutcome}
use Rattle.probe_rules.proofs.Claims.{seen_at}
use Rattle.probe_laws.proofs.Settled.{IsClean}
use Rattle.probe_laws.proofs.KnownParts.{is_still_clean}
use Rattle.probe_typed.specs.Typed.{Follows, IsTypedAs}

-- ---- states

-- behind further tokens
pub goes_on : (k : ℕ) (w : Walked) {s t : State} → Follows w s t → Follows w s (steps k t)
goes_on k w al = record { at = min (al.at + k) (2 ^ 32 - 1); complaints = al.complaints; is = ap (steps k) al.is; count = al.count }

pub clean_too : (w : Walked) {s t : State} → Follows w s t → IsClean s → IsClean t
clean_too w {s} {t} al c =
    let e : length t.complaints ≡ length al.complaints = ap (λ (z : State). length z.complaints) al.is in
    omega (arith, e, al.count, c)

pub side_too : (w : Walked) {s t : State} → Follows w s t → t.side ≡ s.side
side_too w al = ap (λ (z : State). z.side) al.is

-- ---- forms and their nodes

pub record IsFormTypedAs (v : Walked) (x : Formed) (g : ExprShape) (y : Formed) : Type 0 where
  pub form : y.form ≡ g
  pub typing : y.typing ≡ x.typing
  pub state : Follows v x.state y.state

pub formed_typed : (v : Walked) (f g h : ExprShape) (x y : Outcome) → h ≡ g → AlikeOutcome 0 0 (seen_at v) x y → IsFormTypedAs v (formed f x) g (formed h y)
formed_typed v f g h x y e al = record { form = e; typing = al.typing; state = al.state }

-- a note that holds no value
abbrev pub IsPlainNote : NoteShape → Type 0
IsPlainNote (known t v) = ⊥
IsPlainNote n = Unit {0}

abbrev pub note_at : NodeShape → NoteShape
note_at (node p o n f) = n

pub noted_typed : (v : Walked) (p o : Pos) (s t : State) (x y : Formed) (g : ExprShape) → IsClean s → IsClean x.state → IsClean t → IsFormTypedAs v x g y → IsTypedAs v (noted p o s x) (node p o (note_at (noted p o s x).node) g) (noted p o t y)
noted_typed v p o s t x y g begun ended too i =
    let first = is_still_clean s x.state begun ended in
    let second = is_still_clean t y.state too (clean_too v i.state ended) in
    let sort : node_sort t y ≡ node_sort s x = ap₂ (λ b (z : Typing). cleared b z.sort) (second ∙ sym first) i.typing in
    record {
      node = ap (λ (z : Sort). node p o (note_of z.kind y.typing.sort.constant y.typing.names y.typing.valued) y.form) sort
          ∙ (ap (λ (z : Typing). node p o (note_of (node_sort s x).kind z.sort.constant z.names z.valued) y.form) i.typing ∙ ap (λ z. node p o (note_of (node_sort s x).kind x.typing.sort.constant x.typing.names x.typing.valued) z) i.form);
      sort = sort;
      state = i.state;
    }
