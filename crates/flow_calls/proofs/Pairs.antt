-- The pairs that a run makes are listed.
use Rattle.std.proofs.Common.{ℕ, zero, suc, List, [], ◌∷◌, ◌++◌, ◌≡◌, ◌⊎◌, inl, inr, refl, subst, sym, ap, ◌∙◌, append_assoc, arith, Option, Some, None, Bool, true, false}
use Rattle.std.specs.Prelude.{nat_eq, ◌&&◌, ◌≤◌, Contains, map, if◌then◌else◌}
use Rattle.std.proofs.lemmas.Bool.{true≢false}
use Rattle.std.proofs.lemmas.List.Elements.{Contains-push_cases}
use Rattle.c_events.specs.declared.events.Cell.{Cell}
use Rattle.c_events.specs.declared.events.Event.{Event}
use Rattle.c_events.specs.declared.events.Event.TheVariants.{Block, Def, Use, Test}
use Rattle.c_syntax.specs.declared.text.Text.{Text}
use Rattle.c_meaning.specs.State.{Act, begins, makes, tells, repeats, Deed, or_else}
use Rattle.c_meaning.specs.Deeds.{told_by, told, own}
use Rattle.c_meaning.specs.Calls.{Source}
use Rattle.c_meaning.proofs.Apart.{told_append, own_append}
use Rattle.flow_walks.specs.declared.action.Action.{Action}
use Rattle.flow_walks.specs.declared.action.Action.TheVariants as action
use Rattle.flow_walks.specs.Walks.{Walk}
use Rattle.flow_calls.specs.Readings.{read_as, readings}
use Rattle.flow_calls.specs.Walking.{IsWalking}
use Rattle.flow_calls.proofs.Own.{own_here, readings_append}
use Rattle.flow_calls.specs.Placing.{Local, Sites, given_in, given_number, made_in, made_by, last_made, number_of, IsNewest, InPlace, IsDefined, DefinedAt, UsedAt, IsRepeated, IsUsedAgain, At, AreInPlace, IsStrong, further, IsWhole, IsFinished, AreFinished}
use Rattle.flow_calls.specs.Pairs.{HasPair, IsListed, PairsAreListed}
use Rattle.flow_calls.proofs.Lists.{heads, tails, longer, cancel, snoc_split, two_cuts, Cuts, same, before, behind, or_none, some_not, some_is, if_on, if_some, same_eq}
use Rattle.flow_calls.proofs.Made.{last_append, last_without, made_there}
use Rattle.flow_calls.proofs.Told.{deed, cut, There, actions_there, own_there, kill_is, define_is}

-- a parameter's definition gives the instance
given_facts : (b t : Bool) (c : Cell) (j : ℕ) → (if b && t then Some c.instance else None) ≡ Some j → (b ≡ true) × (c.instance ≡ j)
given_facts true true c j e = (refl, some_is c.instance j e)
given_facts true false c j e = absurd (some_not j e)
given_facts false t c j e = absurd (some_not j e)

if_given : (b : Bool) (n m : ℕ) → b ≡ true → (if b then n else m) ≡ n
if_given true n m e = refl
if_given false n m e = absurd (true≢false (sym e))

both_true : (b t : Bool) (o r : Option ℕ) → b ≡ true → t ≡ true → (if b && t then o else r) ≡ o
both_true true true o r e h = refl
both_true true false o r e h = absurd (true≢false (sym h))
both_true false t o r e h = absurd (true≢false (sym e))

one_of : (n m : Text) → Contains (n ∷ []) m → n ≡ m
one_of n m c = elim (Contains-push_cases [] n m c) [ inl z ↦ absurd (let l = z.1 in omega arith) | inr e ↦ e ]

abbrev is_making : Act → Bool
is_making (makes x j) = true
is_making a = false

tells_not : (e : Event) (x i : ℕ) → tells e ≡ makes x i → ⊥
tells_not e x i h = true≢false (sym (ap is_making h))

repeats_not : (e : Event) (x i : ℕ) → repeats e ≡ makes x i → ⊥
repeats_not e x i h = true≢false (sym (ap is_making h))

not_given : (b t : Bool) (o : Option ℕ) → b ≡ false → (if b && t then o else None) ≡ None
not_given true t o e = absurd (true≢false e)
not_given false t o e = refl

abbrev is_event : Event → Bool
is_event (Def d c) = true
is_event e = false

abbrev is_further : Act → Bool
is_further (repeats e) = is_event e
is_further a = false

own_cut : (a : ℕ) (p q : List Deed) (act : Act) → own a (p ++ deed a act ∷ q) ≡ own a p ++ act ∷ own a q
own_cut a p q act = own_append a p (deed a act ∷ q) ∙ ap (λ z. own a p ++ z) (own_append a (deed a act ∷ []) q ∙ ap (λ z. z ++ own a q) (own_here a act))

abbrev is_use : Action → Bool
is_use (action.Use u) = true
is_use a = false

no_action : (d u : ℕ) → action.Define d ≡ action.Use u → ⊥
no_action d u e = true≢false (sym (ap is_use e))

-- an event of those deeds is told there
abbrev IsTold : Act → Event → Type 0
IsTold a e = (a ≡ tells e) ⊎ (a ≡ repeats e)

told_there : (a : ℕ) (act : Act) (e : Event) (q : List Deed) → IsTold act e → told (deed a act ∷ q) ≡ e ∷ told q
told_there a act e q (inl f) = ap (λ b. told_by b (told q)) f
told_there a act e q (inr f) = ap (λ b. told_by b (told q)) f

-- a use is no further definition
use_other : (act : Act) (a d u n : ℕ) (c k : Cell) (b : ℕ) → IsTold act (Use u c n) → deed a act ≡ further b d k → ⊥
use_other act a d u n c k b (inl f) h = true≢false (sym (ap (λ (x : Deed). is_further x.act) h) ∙ ap is_further f)
use_other act a d u n c k b (inr f) h = true≢false (sym (ap (λ (x : Deed). is_further x.act) h) ∙ ap is_further f)

-- a further definition of one of the cells stands before the use
further_there : (a d : ℕ) (cells : List Cell) (rest xs post : List Deed) (x : Deed) → ((c : Cell) → x ≡ further a d c → ⊥) → xs ++ x ∷ post ≡ map (further a d) cells ++ rest → (c : Cell) → Contains cells c → There xs a (repeats (Def d c))
further_there a d [] rest xs post x other e c (k, l, h) = absurd (omega (arith, l))
further_there a d (b ∷ cells) rest [] post x other e c h = absurd (other b (heads x (further a d b) post (map (further a d) cells ++ rest) e))
further_there a d (b ∷ cells) rest (y ∷ xs) post x other e c (zero, l, h) = record { front = []; rest = xs; is = ap (λ z. z ∷ xs) (heads y (further a d b) (xs ++ x ∷ post) (map (further a d) cells ++ rest) e ∙ ap (further a d) h) }
further_there a d (b ∷ cells) rest (y ∷ xs) post x other e c (suc k, l, h) =
    let t = further_there a d cells rest xs post x other (tails y (further a d b) (xs ++ x ∷ post) (map (further a d) cells ++ rest) e) c (k, omega (arith, l), h) in
    record { front = y ∷ t.front; rest = t.rest; is = ap (λ z. y ∷ z) t.is }

-- in these deeds the cell is defined at d, and then used at u, and not defined between
record Pair (ds : List Deed) (d u : ℕ) : Type 0 where
  cell : Cell
  definer : ℕ
  first : Act
  way : IsTold first (Def d cell)
  user : ℕ
  last : Act
  noted : ℕ
  used : IsTold last (Use u cell noted)
  pre : List Deed
  mid : List Deed
  post : List Deed
  is : ds ≡ pre ++ deed definer first ∷ (mid ++ deed user last ∷ post)
  none : (p q : List Deed) (a e : ℕ) (act : Act) → IsTold act (Def e cell) → mid ≡ p ++ deed a act ∷ q → ⊥

pair_of : (ds : List Deed) (d u : ℕ) → HasPair (told ds) d u → Pair ds d u
pair_of ds d u pair =
    let c = cut ds pair.pre (pair.mid ++ Use u pair.cell pair.user ∷ pair.post) (Def d pair.cell) pair.is in
    let k = cut c.rest pair.mid pair.post (Use u pair.cell pair.user) c.behind in
    record {
      cell = pair.cell;
      definer = c.by;
      first = c.act;
      way = c.way;
      user = k.by;
      last = k.act;
      noted = pair.user;
      used = k.way;
      pre = c.front;
      mid = k.front;
      post = k.rest;
      is = c.is ∙ ap (λ z. c.front ++ deed c.by c.act ∷ z) k.is;
      none = λ p q a e act way h. pair.none (told p) (told q) e (sym k.before ∙ ap told h ∙ told_append p (deed a act ∷ q) ∙ ap (λ z. told p ++ z) (told_there a act (Def e pair.cell) q way));
    }

module _ (S : Sites) (ds : List Deed) (placed : AreInPlace S ds) (finished : AreFinished S ds) where
  -- ---- makings

  given_is : (x j : ℕ) (c : Cell) (o : Option Local) → given_in x c o ≡ Some j → given_number c o ≡ j
  given_is x j c None e = absurd (some_not j e)
  given_is x j c (Some w) e = let g = given_facts w.parameter (nat_eq w.variable x) c j e in if_given w.parameter c.instance 0 g.0 ∙ g.1

  -- an act that makes an instance makes one that no act before it made
  numbers : (act : Act) (x j : ℕ) → made_in S x act ≡ Some j → number_of S act ≡ j
  numbers (begins f) x j e = absurd (some_not j e)
  numbers (repeats t) x j e = absurd (some_not j e)
  numbers (makes y i) x j e = elim (if_some (nat_eq y x) i j None e) [ inl s ↦ s.1 | inr s ↦ absurd (some_not j s) ]
  numbers (tells (Def d c)) x j e = given_is x j c (S.defined d) e
  numbers (tells (Use u c a)) x j e = absurd (some_not j e)
  numbers (tells (Block k)) x j e = absurd (some_not j e)
  numbers (tells (Test k o a)) x j e = absurd (some_not j e)

  given_newest : (x j : ℕ) (es : List Deed) (a : ℕ) (c : Cell) (o : Option Local) → given_in x c o ≡ Some j → DefinedAt S es a c o → IsNewest S es j
  given_newest x j es a c None e h = absurd (some_not j e)
  given_newest x j es a c (Some w) e h =
      let g = given_facts w.parameter (nat_eq w.variable x) c j e in
      subst (IsNewest S es) g.1 (subst (IsDefined S es a w c) g.0 h).0

  newest : (act : Act) (x j : ℕ) (es : List Deed) (a : ℕ) → made_in S x act ≡ Some j → At S es a act → IsNewest S es j
  newest (begins f) x j es a e h = absurd (some_not j e)
  newest (repeats t) x j es a e h = absurd (some_not j e)
  newest (makes y i) x j es a e h = elim (if_some (nat_eq y x) i j None e) [ inl s ↦ subst (IsNewest S es) s.1 h | inr s ↦ absurd (some_not j s) ]
  newest (tells (Def d c)) x j es a e h = given_newest x j es a c (S.defined d) e h
  newest (tells (Use u c b)) x j es a e h = absurd (some_not j e)
  newest (tells (Block k)) x j es a e h = absurd (some_not j e)
  newest (tells (Test k o b)) x j es a e h = absurd (some_not j e)

  -- two makings of one instance are one
  made_once : (p q s t : List Deed) (a b x j : ℕ) (c d : Act) (q2 t2 : List Deed) → made_in S x c ≡ Some j → made_in S x d ≡ Some j → ds ≡ p ++ deed a c ∷ q2 → ds ≡ s ++ deed b d ∷ t2 → Cuts p q (deed a c) s t (deed b d) → (a ≡ b) × (q ≡ t)
  made_once p q s t a b x j c d q2 t2 m n e h (same ps ef qt) = (ap (λ (d : Deed). d.activation) ef, qt)
  made_once p q s t a b x j c d q2 t2 m n e h (before r is) = absurd (let lt = newest d x j s b n (placed s t2 (deed b d) h) p r (deed a c) is in let y = numbers c x j m in omega (arith, lt, y))
  made_once p q s t a b x j c d q2 t2 m n e h (behind r is) = absurd (let lt = newest c x j p a m (placed p q2 (deed a c) e) s r (deed b d) is in let z = numbers d x j n in omega (arith, lt, z))

  -- ---- a pair

  -- the act that made the cell's instance stands in front of the definition, or is the parameter's definition itself
  record Origin (a x j : ℕ) (pre : List Deed) (first : Act) (mid : List Deed) : Type 0 where
    front : List Deed
    act : Act
    gap : List Deed
    is : pre ++ deed a first ∷ mid ≡ front ++ deed a act ∷ (gap ++ mid)
    makes_it : made_in S x act ≡ Some j
    there : last_made S a x (pre ++ deed a first ∷ []) ≡ Some j

  made_here : (a x : ℕ) (act : Act) (o : Option ℕ) → made_in S x act ≡ o → last_made S a x (deed a act ∷ []) ≡ o
  made_here a x act o e = if_on (nat_eq a a) (made_in S x act) None (same_eq a) ∙ e

  origin_before : (a x j : ℕ) (pre : List Deed) (first : Act) (mid : List Deed) → made_in S x first ≡ None → last_made S a x pre ≡ Some j → Origin a x j pre first mid
  origin_before a x j pre first mid none e =
      let m = made_there S a x j pre e in
      let D : Deed = deed a first in
      let M : Deed = deed a m.act in
      record {
        front = m.front;
        act = m.act;
        gap = m.rest ++ D ∷ [];
        is = ap (λ z. z ++ D ∷ mid) m.is ∙ append_assoc m.front (M ∷ m.rest) (D ∷ mid) ∙ ap (λ z. m.front ++ M ∷ z) (sym (append_assoc m.rest (D ∷ []) mid));
        makes_it = m.makes_it;
        there = last_without S a x pre (D ∷ []) (made_here a x first None none) ∙ e;
      }

  origin_here : (a x j : ℕ) (pre : List Deed) (first : Act) (mid : List Deed) → made_in S x first ≡ Some j → Origin a x j pre first mid
  origin_here a x j pre first mid e = record {
    front = pre;
    act = first;
    gap = [];
    is = refl;
    makes_it = e;
    there = last_append S a x pre (deed a first ∷ []) ∙ ap (λ o. or_else o (last_made S a x pre)) (made_here a x first (Some j) e);
  }

  module _ (d u : ℕ) (v r : Local) (dv : S.defined d ≡ Some v) (ur : S.used u ≡ Some r) (variable : v.variable ≡ r.variable) (pair : Pair ds d u) where
    abbrev D : Deed
    D = deed pair.definer pair.first

    abbrev U : Deed
    U = deed pair.user pair.last

    abbrev j : ℕ
    j = pair.cell.instance

    abbrev name : Text
    name = S.leaf r.variable pair.cell.index

    used_is : ds ≡ (pair.pre ++ D ∷ pair.mid) ++ U ∷ pair.post
    used_is = pair.is ∙ sym (append_assoc pair.pre (D ∷ pair.mid) (U ∷ pair.post))

    -- what holds of the definition
    record Defined : Type 0 where
      origin : Origin pair.definer r.variable j pair.pre pair.first pair.mid
      named : Contains v.names name

    given_here : (b : Bool) → v.parameter ≡ b → pair.first ≡ tells (Def d pair.cell) → IsDefined S pair.pre pair.definer v pair.cell b → Defined
    given_here true e f h = record {
      origin = origin_here pair.definer r.variable j pair.pre pair.first pair.mid (ap (made_in S r.variable) f ∙ ap (given_in r.variable pair.cell) dv ∙ both_true v.parameter (nat_eq v.variable r.variable) (Some j) None e (ap (λ n. nat_eq n r.variable) variable ∙ same_eq r.variable));
      named = subst (λ n. Contains v.names (S.leaf n pair.cell.index)) variable h.1;
    }
    given_here false e f h = record {
      origin = origin_before pair.definer r.variable j pair.pre pair.first pair.mid (ap (made_in S r.variable) f ∙ ap (given_in r.variable pair.cell) dv ∙ not_given v.parameter (nat_eq v.variable r.variable) (Some j) e) (subst (λ n. last_made S pair.definer n pair.pre ≡ Some j) variable h.made);
      named = subst (λ n. Contains v.names (S.leaf n pair.cell.index)) variable h.named;
    }

    defined_at : At S pair.pre pair.definer pair.first
    defined_at = placed pair.pre (pair.mid ++ U ∷ pair.post) D pair.is

    defined_by_way : IsTold pair.first (Def d pair.cell) → Defined
    defined_by_way (inl f) = given_here v.parameter refl f (subst (DefinedAt S pair.pre pair.definer pair.cell) dv (subst (At S pair.pre pair.definer) f defined_at))
    defined_by_way (inr f) =
        let h = subst (IsRepeated S pair.pre pair.definer d pair.cell) dv (subst (At S pair.pre pair.definer) f defined_at) in
        record {
          origin = origin_before pair.definer r.variable j pair.pre pair.first pair.mid (ap (made_in S r.variable) f) (subst (λ n. last_made S pair.definer n pair.pre ≡ Some j) variable h.place.made);
          named = subst (λ n. Contains v.names (S.leaf n pair.cell.index)) variable h.place.named;
        }

    defined : Defined
    defined = defined_by_way pair.way

    abbrev until : List Deed
    until = pair.pre ++ D ∷ pair.mid

    last_at : At S until pair.user pair.last
    last_at = placed until pair.post U used_is

    used_by : IsTold pair.last (Use u pair.cell pair.noted) → (1 ≤ pair.user) × InPlace S until pair.user r pair.cell
    used_by (inl e) = subst (UsedAt S until pair.user pair.cell) ur (subst (At S until pair.user) e last_at)
    used_by (inr e) = let h = subst (IsUsedAgain S until pair.user u pair.cell) ur (subst (At S until pair.user) e last_at) in (h.active, h.place)

    used_at : (1 ≤ pair.user) × InPlace S until pair.user r pair.cell
    used_at = used_by pair.used

    -- one activation did both, and made no instance of the variable between
    record Alone : Type 0 where
      one : pair.definer ≡ pair.user
      none : last_made S pair.user r.variable pair.mid ≡ None

    alone : Alone
    alone =
        let x = r.variable in
        let o = defined.origin in
        let n = made_there S pair.user x j (pair.pre ++ D ∷ pair.mid) used_at.1.made in
        let M : Deed = deed pair.definer o.act in
        let N : Deed = deed pair.user n.act in
        let begun : ds ≡ o.front ++ M ∷ ((o.gap ++ pair.mid) ++ U ∷ pair.post) = used_is ∙ ap (λ z. z ++ U ∷ pair.post) o.is ∙ append_assoc o.front (M ∷ (o.gap ++ pair.mid)) (U ∷ pair.post) in
        let ended : ds ≡ n.front ++ N ∷ (n.rest ++ U ∷ pair.post) = used_is ∙ ap (λ z. z ++ U ∷ pair.post) n.is ∙ append_assoc n.front (N ∷ n.rest) (U ∷ pair.post) in
        let once = made_once o.front (o.gap ++ pair.mid) n.front n.rest pair.definer pair.user x j o.act n.act ((o.gap ++ pair.mid) ++ U ∷ pair.post) (n.rest ++ U ∷ pair.post) o.makes_it n.makes_it begun ended (two_cuts o.front (o.gap ++ pair.mid) M n.front n.rest N (sym o.is ∙ n.is)) in
        record { one = once.0; none = (or_none (last_made S pair.user x pair.mid) (last_made S pair.user x o.gap) (sym (last_append S pair.user x o.gap pair.mid) ∙ ap (last_made S pair.user x) once.1 ∙ n.none)).0 }

    no_made : (act : Act) (i : ℕ) → made_in S r.variable act ≡ Some i → There pair.mid pair.user act → ⊥
    no_made act i e t =
        let x = r.variable in
        let E : Deed = deed pair.user act in
        let k = or_none (last_made S pair.user x (E ∷ t.rest)) (last_made S pair.user x t.front) (sym (last_append S pair.user x t.front (E ∷ t.rest)) ∙ ap (last_made S pair.user x) (sym t.is) ∙ alone.none) in
        let l = or_none (last_made S pair.user x t.rest) (made_by S pair.user x E) k.0 in
        some_not i (sym l.1 ∙ if_on (nat_eq pair.user pair.user) (made_in S x act) None (same_eq pair.user) ∙ e)

    makes_x : (i : ℕ) → made_in S r.variable (makes r.variable i) ≡ Some i
    makes_x i = if_on (nat_eq r.variable r.variable) (Some i) None (same_eq r.variable)

    own_after : (q : List Deed) → own pair.user (pair.pre ++ D ∷ q) ≡ own pair.user pair.pre ++ pair.first ∷ own pair.user q
    own_after q = ap (λ a. own pair.user (pair.pre ++ deed a pair.first ∷ q)) alone.one ∙ own_cut pair.user pair.pre q pair.first

    -- ---- a definition between

    module _ (e : ℕ) (k : Cell) (l : Local) (t : There pair.mid pair.user (tells (Def e k))) (el : S.defined e ≡ Some l) (lv : l.variable ≡ r.variable) where
      abbrev E : Deed
      E = deed pair.user (tells (Def e k))

      between_is : ds ≡ (pair.pre ++ D ∷ t.front) ++ E ∷ (t.rest ++ U ∷ pair.post)
      between_is = pair.is ∙ ap (λ z. pair.pre ++ D ∷ (z ++ U ∷ pair.post)) t.is ∙ ap (λ z. pair.pre ++ D ∷ z) (append_assoc t.front (E ∷ t.rest) (U ∷ pair.post)) ∙ sym (append_assoc pair.pre (D ∷ t.front) (E ∷ (t.rest ++ U ∷ pair.post)))

      between_at : IsDefined S (pair.pre ++ D ∷ t.front) pair.user l k l.parameter
      between_at = subst (DefinedAt S (pair.pre ++ D ∷ t.front) pair.user k) el (placed (pair.pre ++ D ∷ t.front) (t.rest ++ U ∷ pair.post) E between_is)

      -- nothing of the variable is made from the definition to there
      none_before : last_made S pair.user r.variable t.front ≡ None
      none_before =
          let x = r.variable in
          (or_none (last_made S pair.user x (E ∷ t.rest)) (last_made S pair.user x t.front) (sym (last_append S pair.user x t.front (E ∷ t.rest)) ∙ ap (last_made S pair.user x) (sym t.is) ∙ alone.none)).1

      made_before : last_made S pair.user r.variable (pair.pre ++ D ∷ t.front) ≡ Some j
      made_before =
          ap (last_made S pair.user r.variable) (sym (append_assoc pair.pre (D ∷ []) t.front)) ∙ last_without S pair.user r.variable (pair.pre ++ D ∷ []) t.front none_before
          ∙ subst (λ a. last_made S a r.variable (pair.pre ++ D ∷ []) ≡ Some j) alone.one defined.origin.there

      abbrev ahead_of : List Deed
      ahead_of = pair.pre ++ D ∷ t.front

      same_instance : InPlace S ahead_of pair.user l k → k.instance ≡ j
      same_instance at = some_is k.instance j (sym (subst (λ n. last_made S pair.user n ahead_of ≡ Some k.instance) lv at.made) ∙ made_before)

      same_cell : InPlace S ahead_of pair.user l k → l.names ≡ S.leaf l.variable k.index ∷ [] → Contains l.names name → IsStrong S r.variable name → ⊥
      same_cell at one has strong =
          let leaf_is : S.leaf r.variable k.index ≡ name = ap (λ n. S.leaf n k.index) (sym lv) ∙ one_of (S.leaf l.variable k.index) name (subst (λ ns. Contains ns name) one has) in
          let index : k.index ≡ pair.cell.index = strong k.index pair.cell.index leaf_is refl in
          let cell : k ≡ pair.cell = ap (λ i. record { instance = i; index = k.index }) (same_instance at) ∙ ap (λ i. record { instance = j; index = i }) index in
          pair.none t.front t.rest pair.user e (tells (Def e k)) (inl (ap (λ c. tells (Def e c)) cell)) t.is

      -- one that defines a structure
      among_cells : (cells : List Cell) (rest : List Deed) → t.rest ++ U ∷ pair.post ≡ map (further pair.user e) cells ++ rest → Contains (k ∷ cells) pair.cell → ⊥
      among_cells cells rest is (zero, lt, h) = pair.none t.front t.rest pair.user e (tells (Def e k)) (inl (ap (λ c. tells (Def e c)) h)) t.is
      among_cells cells rest is (suc n, lt, h) =
          let f = further_there pair.user e cells rest t.rest pair.post U (λ c. use_other pair.last pair.user e u pair.noted pair.cell c pair.user pair.used) is pair.cell (n, omega (arith, lt), h) in
          let F : Deed = deed pair.user (repeats (Def e pair.cell)) in
          pair.none (t.front ++ E ∷ f.front) f.rest pair.user e (repeats (Def e pair.cell)) (inr refl) (t.is ∙ ap (λ z. t.front ++ E ∷ z) f.is ∙ sym (append_assoc t.front (E ∷ f.front) (F ∷ f.rest)))

      whole_cell : InPlace S ahead_of pair.user l k → IsWhole S (t.rest ++ U ∷ pair.post) pair.user e k l → Contains l.names name → IsStrong S r.variable name → ⊥
      whole_cell at w has strong =
          let i = pair.cell.index in
          let has_it : Contains l.names (S.leaf l.variable i) = subst (λ n. Contains l.names (S.leaf n i)) (sym lv) has in
          let strong_there : IsStrong S l.variable (S.leaf l.variable i) = subst (λ n. IsStrong S n (S.leaf n i)) (sym lv) strong in
          let here : Contains (k ∷ w.cells) (record { instance = k.instance; index = i }) = w.all i has_it strong_there in
          among_cells w.cells w.rest w.is (subst (λ n. Contains (k ∷ w.cells) (record { instance = n; index = i })) (same_instance at) here)

      not_making : (i : ℕ) → IsTold pair.first (Def d pair.cell) → pair.first ≡ makes l.variable i → ⊥
      not_making i (inl f) h = tells_not _ _ i (sym f ∙ h)
      not_making i (inr f) h = repeats_not _ _ i (sym f ∙ h)

      -- a definition that stands behind the making of its variable
      made_again : (front : List Act) (i : ℕ) → own pair.user (pair.pre ++ D ∷ t.front) ≡ front ++ makes l.variable i ∷ [] → ⊥
      made_again front i e =
          let all : own pair.user pair.pre ++ pair.first ∷ own pair.user t.front ≡ front ++ makes l.variable i ∷ [] = sym (own_after t.front) ∙ e in
          elim (snoc_split front (makes l.variable i) (own pair.user pair.pre) (own pair.user t.front) pair.first (sym all)) [
            | inl s ↦ not_making i pair.way s.1
            | inr s ↦ (
                let rest : pair.first ∷ own pair.user t.front ≡ pair.first ∷ (s.0 ++ makes l.variable i ∷ []) = cancel (own pair.user pair.pre) _ _ (all ∙ ap (λ z. z ++ makes l.variable i ∷ []) s.1 ∙ append_assoc (own pair.user pair.pre) (pair.first ∷ s.0) (makes l.variable i ∷ [])) in
                let h = own_there pair.user t.front s.0 [] (makes l.variable i) (tails pair.first pair.first _ _ rest) in
                no_made (makes l.variable i) i (ap (λ n. made_in S r.variable (makes n i)) lv ∙ makes_x i) (record { front = h.front; rest = h.rest ++ E ∷ t.rest; is = t.is ∙ ap (λ z. z ++ E ∷ t.rest) h.is ∙ append_assoc h.front (deed pair.user (makes l.variable i) ∷ h.rest) (E ∷ t.rest) }))
          ]

      finished_at : IsFinished S ahead_of (t.rest ++ U ∷ pair.post) pair.user e k l l.parameter
      finished_at = finished ahead_of (t.rest ++ U ∷ pair.post) pair.user e k l between_is el

      no_strong : (b : Bool) → l.parameter ≡ b → IsDefined S ahead_of pair.user l k b → IsFinished S ahead_of (t.rest ++ U ∷ pair.post) pair.user e k l b → Contains l.names name → IsStrong S r.variable name → ⊥
      no_strong true g h f has strong = no_made (tells (Def e k)) k.instance (ap (given_in r.variable k) el ∙ both_true l.parameter (nat_eq l.variable r.variable) (Some k.instance) None g (ap (λ n. nat_eq n r.variable) lv ∙ same_eq r.variable)) t
      no_strong false g h (inl (inl one)) has strong = same_cell h one has strong
      no_strong false g h (inl (inr m)) has strong = made_again m.0 m.1 m.2
      no_strong false g h (inr w) has strong = whole_cell h w has strong

    -- ---- the walk

    kills_none : (p q : List Action) → readings (own pair.user pair.mid) ≡ p ++ action.Kill r.variable ∷ q → ⊥
    kills_none p q e =
        let h = actions_there (own pair.user pair.mid) p q (action.Kill r.variable) e in
        let k = kill_is h.act r.variable h.gives in
        no_made (makes r.variable k.0) k.0 (makes_x k.0) (subst (There pair.mid pair.user) k.1 (own_there pair.user pair.mid h.front h.rest h.act h.is))

    defines_none : (p q : List Action) (e : ℕ) (l : Local) → readings (own pair.user pair.mid) ≡ p ++ action.Define e ∷ q → S.defined e ≡ Some l → l.variable ≡ r.variable → Contains l.names name → IsStrong S r.variable name → ⊥
    defines_none p q e l is el lv has strong =
        let h = actions_there (own pair.user pair.mid) p q (action.Define e) is in
        let k = define_is h.act e h.gives in
        let t = subst (There pair.mid pair.user) k.1 (own_there pair.user pair.mid h.front h.rest h.act h.is) in
        no_strong e k.0 l t el lv l.parameter refl (between_at e k.0 l t el lv) (finished_at e k.0 l t el lv) has strong

    -- what the activation did by itself, read: up to the definition, whatever it did then
    record Front : Type 0 where
      ahead : List Action
      is : (q : List Deed) → readings (own pair.user (pair.pre ++ D ∷ q)) ≡ ahead ++ action.Define d ∷ readings (own pair.user q)

    read_is : (q : List Deed) → readings (own pair.user (pair.pre ++ D ∷ q)) ≡ readings (own pair.user pair.pre) ++ read_as pair.first (readings (own pair.user q))
    read_is q = ap readings (own_after q) ∙ readings_append (own pair.user pair.pre) (pair.first ∷ own pair.user q)

    front_by : IsTold pair.first (Def d pair.cell) → Front
    front_by (inl f) = record { ahead = readings (own pair.user pair.pre); is = λ q. read_is q ∙ ap (λ a. readings (own pair.user pair.pre) ++ read_as a (readings (own pair.user q))) f }
    front_by (inr f) =
        let h = subst (IsRepeated S pair.pre pair.definer d pair.cell) dv (subst (At S pair.pre pair.definer) f defined_at) in
        let last = subst (λ a. readings (own a pair.pre) ≡ h.before ++ action.Define d ∷ []) alone.one h.last in
        record {
          ahead = h.before;
          is = λ q. let rest = readings (own pair.user q) in
              read_is q ∙ ap (λ a. readings (own pair.user pair.pre) ++ read_as a rest) f ∙ ap (λ z. z ++ rest) last ∙ append_assoc h.before (action.Define d ∷ []) rest;
        }

    front : Front
    front = front_by pair.way

    -- between the definition and the use, which may be the last thing that was done before a further event of it
    record Ended : Type 0 where
      between : List Action
      is : readings (own pair.user (pair.mid ++ U ∷ pair.post)) ≡ between ++ action.Use u ∷ readings (own pair.user pair.post)
      back : (p q : List Action) (a : Action) → between ≡ p ++ a ∷ q → (s : List Action) × (readings (own pair.user pair.mid) ≡ p ++ a ∷ s)

    read_use : readings (own pair.user (pair.mid ++ U ∷ pair.post)) ≡ readings (own pair.user pair.mid) ++ read_as pair.last (readings (own pair.user pair.post))
    read_use = ap readings (own_cut pair.user pair.mid pair.post pair.last) ∙ readings_append (own pair.user pair.mid) (pair.last ∷ own pair.user pair.post)

    -- the use is among what was read before its further event
    again : (prior : List Action) → readings (own pair.user until) ≡ prior ++ action.Use u ∷ [] → (r : List Action) × (readings (own pair.user pair.mid) ≡ r ++ action.Use u ∷ [])
    again prior e =
        let all : front.ahead ++ action.Define d ∷ readings (own pair.user pair.mid) ≡ prior ++ action.Use u ∷ [] = sym (front.is pair.mid) ∙ e in
        elim (snoc_split prior (action.Use u) front.ahead (readings (own pair.user pair.mid)) (action.Define d) (sym all)) [
          | inl s ↦ absurd (no_action d u s.1)
          | inr s ↦ (
              let same : action.Define d ∷ readings (own pair.user pair.mid) ≡ action.Define d ∷ (s.0 ++ action.Use u ∷ []) = cancel front.ahead _ _ (all ∙ ap (λ z. z ++ action.Use u ∷ []) s.1 ∙ append_assoc front.ahead (action.Define d ∷ s.0) (action.Use u ∷ [])) in
              (s.0, tails (action.Define d) (action.Define d) _ _ same))
        ]

    ended_by : IsTold pair.last (Use u pair.cell pair.noted) → Ended
    ended_by (inl f) = record {
      between = readings (own pair.user pair.mid);
      is = read_use ∙ ap (λ a. readings (own pair.user pair.mid) ++ read_as a (readings (own pair.user pair.post))) f;
      back = λ p q a e. (q, e);
    }
    ended_by (inr f) =
        let h = subst (IsUsedAgain S until pair.user u pair.cell) ur (subst (At S until pair.user) f last_at) in
        let g = again h.before h.last in
        let rest = readings (own pair.user pair.post) in
        record {
          between = g.0;
          is = read_use ∙ ap (λ a. readings (own pair.user pair.mid) ++ read_as a rest) f ∙ ap (λ z. z ++ rest) g.1 ∙ append_assoc g.0 (action.Use u ∷ []) rest;
          back = λ p q a e. (q ++ action.Use u ∷ [], g.1 ∙ ap (λ z. z ++ action.Use u ∷ []) e ∙ append_assoc p (a ∷ q) (action.Use u ∷ []));
        }

    listed_by : (P : Source) → (own pair.user ds ≡ []) ⊎ IsWalking P ds pair.user → Ended → (f : ℕ) × IsListed P S f d v u r
    listed_by P (inl none) h = absurd (longer (own pair.user pair.pre) _ pair.first (sym none ∙ ap (own pair.user) pair.is ∙ own_after (pair.mid ++ U ∷ pair.post)))
    listed_by P (inr w) h = (
      w.function,
      record {
        before = front.ahead;
        between = h.between;
        behind = readings (own pair.user pair.post);
        walk = subst (Walk P.tables P.unit w.function) (sym (ap readings w.own_is) ∙ ap (λ z. readings (own pair.user z)) pair.is ∙ front.is (pair.mid ++ U ∷ pair.post) ∙ ap (λ z. front.ahead ++ action.Define d ∷ z) h.is) w.walk;
        name = name;
        in_definition = defined.named;
        in_use = used_at.1.named;
        no_kill = λ p q e. let b = h.back p q (action.Kill r.variable) e in kills_none p b.0 b.1;
        no_define = λ p q e l is. let b = h.back p q (action.Define e) is in defines_none p b.0 e l b.1;
      },
    )

pub pairs_are_listed : PairsAreListed
pairs_are_listed P S ds placed finished walks d u v r dv ur variable has =
    let pair = pair_of ds d u has in
    listed_by S ds placed finished d u v r dv ur variable pair P (walks pair.user (used_at S ds placed finished d u v r dv ur variable pair).0) (ended_by S ds placed finished d u v r dv ur variable pair pair.used)
