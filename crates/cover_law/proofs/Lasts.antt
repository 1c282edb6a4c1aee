-- The last definition of a cell, and the pairs that an event joins, as tests and by positions.
use Rattle.std.proofs.Common.{◌≡◌, ℕ, Bool, true, false, List, [], ◌∷◌, ◌++◌, Option, Some, None, refl, sym, ap, ◌∙◌, subst, inl, inr, reverse}
use Rattle.std.specs.Prelude.{◌↔◌, ◌⊎◌, ◌&&◌, nat_eq, IsTrue, if◌then◌else◌}
use Rattle.std.proofs.lemmas.List.{reverse-append}
use Rattle.c_events.specs.declared.events.Cell.{Cell}
use Rattle.c_events.specs.declared.events.Event.{Event}
use Rattle.c_events.specs.declared.events.Event.TheVariants as event
use Rattle.cover_parts.specs.Covered.{LastIs}
use Rattle.cover_parts.proofs.Events.{last_none, last_defined, last_other, last_unique, Ends}
use Rattle.cover_law.specs.Covers.{is_number, same_cell, last_of, joins_in}
use Rattle.cover_law.proofs.Tests.{both, make_both, same, make_same, numbered, make_numbered, cell_same, make_cell_same, no}

pub later : (e : Event) (es : List Event) → reverse es ++ e ∷ [] ≡ reverse (e ∷ es)
later e es = sym (reverse-append (e ∷ []) es)

other_cell : (es : List Event) (e : Event) (c : Cell) (w : Option ℕ) → ((d : ℕ) → event.Def d c ≡ e → ⊥) → LastIs (reverse es) c w → LastIs (reverse (e ∷ es)) c w
other_cell es e c w n l = subst (λ h. LastIs h c w) (later e es) (last_other (reverse es) e c w n l)

pub last_law : (c : Cell) (es : List Event) → LastIs (reverse es) c (last_of c es)
last_law c [] = last_none c
last_law c (event.Def d e ∷ es) = by (last_law c es) (same_cell c e) refl
  where
    by : LastIs (reverse es) c (last_of c es) → (b : Bool) → same_cell c e ≡ b → LastIs (reverse (event.Def d e ∷ es)) c (if b then Some d else last_of c es)
    by l true h = subst (λ x. LastIs (reverse (event.Def d x ∷ es)) c (Some d)) (cell_same c e h) (subst (λ h. LastIs h c (Some d)) (later (event.Def d c) es) (last_defined (reverse es) d c))
    by l false h = other_cell es (event.Def d e) c (last_of c es) (λ x q. let s : c ≡ e = cc in no (sym h ∙ make_cell_same c e s)) l
last_law c (event.Block k ∷ es) = other_cell es (event.Block k) c (last_of c es) (λ x q. absurd (cc)) (last_law c es)
last_law c (event.Use u e a ∷ es) = other_cell es (event.Use u e a) c (last_of c es) (λ x q. absurd (cc)) (last_law c es)
last_law c (event.Test k o a ∷ es) = other_cell es (event.Test k o a) c (last_of c es) (λ x q. absurd (cc)) (last_law c es)

-- the cell's last definition is d
pub is_last : (c : Cell) (es : List Event) (d : ℕ) → IsTrue (is_number d (last_of c es)) → LastIs (reverse es) c (Some d)
is_last c es d h = subst (λ w. LastIs (reverse es) c w) (numbered d (last_of c es) h) (last_law c es)

pub make_last : (c : Cell) (es : List Event) (d : ℕ) → LastIs (reverse es) c (Some d) → IsTrue (is_number d (last_of c es))
make_last c es d l = make_numbered d (last_of c es) (last_unique (reverse es) c d (last_of c es) l (last_law c es))

pub joined : (es : List Event) (e : Event) (a d u : ℕ) → IsTrue (joins_in es e a d u) → (c : Cell) × Ends (reverse es) e d u c a
joined es (event.Use v c b) a d u h =
    let p = both (nat_eq a b) (nat_eq u v && is_number d (last_of c es)) h in
    let q = both (nat_eq u v) (is_number d (last_of c es)) p.1 in
    let i : a ≡ b = same a b p.0 in
    let j : u ≡ v = same u v q.0 in
    (c, record { is = ap (λ x. event.Use x c b) (sym j) ∙ ap (λ x. event.Use u c x) (sym i); last = is_last c es d q.1 })
joined es (event.Block k) a d u h = absurd (no h)
joined es (event.Def k c) a d u h = absurd (no h)
joined es (event.Test k o b) a d u h = absurd (no h)

pub make_joined : (es : List Event) (e : Event) (a d u : ℕ) (c : Cell) → Ends (reverse es) e d u c a → IsTrue (joins_in es e a d u)
make_joined es (event.Use v x b) a d u c n =
    let q : event.Use v x b ≡ event.Use u c a = n.is in
    let i : a ≡ b = cc in
    let j : u ≡ v = cc in
    let k : c ≡ x = cc in
    make_both (nat_eq a b) (nat_eq u v && is_number d (last_of x es)) (make_same a b i)
    (make_both (nat_eq u v) (is_number d (last_of x es)) (make_same u v j) (make_last x es d (subst (λ y. LastIs (reverse es) y (Some d)) k n.last)))
make_joined es (event.Block k) a d u c n = absurd (let q : event.Block k ≡ event.Use u c a = n.is in cc)
make_joined es (event.Def k x) a d u c n = absurd (let q : event.Def k x ≡ event.Use u c a = n.is in cc)
make_joined es (event.Test k o b) a d u c n = absurd (let q : event.Test k o b ≡ event.Use u c a = n.is in cc)
