-- Worked lists of deeds: one in which each definition and use is in place, and whose pair is listed; one in which a use is of an instance that
-- isn't the last one; and names that are strong or not.
use Rattle.std.proofs.Common.{◌≡◌, ◌<◌, ◌≤◌, ◌⊎◌, ℕ, zero, suc, List, [], ◌∷◌, ◌++◌, inl, inr, refl, sym, subst, ap, ◌∙◌, append-nil, append_assoc, length, arith, Option, Some, None, false}
use Rattle.std.specs.Prelude.{Contains}
use Rattle.c_events.specs.declared.events.Cell.{Cell}
use Rattle.c_events.specs.declared.events.Event.{Event}
use Rattle.c_events.specs.declared.events.Event.TheVariants as event
use Rattle.c_syntax.specs.declared.text.Text.{Text}
use Rattle.c_meaning.specs.State.{Act, begins, makes, tells, repeats, Deed}
use Rattle.c_meaning.specs.Deeds.{told}
use Rattle.c_meaning.specs.Calls.{Source}
use Rattle.c_meaning.specs.Deeds.{own}
use Rattle.flow_calls.specs.Walking.{IsWalking}
use Rattle.flow_calls.specs.Placing.{Local, Sites, number_of, IsNewest, At, AreInPlace, IsStrong, IsFinished, AreFinished}
use Rattle.flow_calls.specs.Pairs.{HasPair, IsListed}
use Rattle.flow_calls.proofs.Lists.{longer, heads, tails, some_is}
use Rattle.flow_calls.proofs.Pairs.{pairs_are_listed}

-- ---- lists in place, one deed after the other

abbrev deed : ℕ → Act → Deed
deed a b = record { activation = a; act = b }

abbrev AreBelow : Sites → List Deed → ℕ → Type 0
AreBelow S [] j = Unit {0}
AreBelow S (d ∷ ds) j = (number_of S d.act < j) × AreBelow S ds j

newest : (S : Sites) (ds : List Deed) (j : ℕ) → AreBelow S ds j → IsNewest S ds j
newest S [] j h p q d e = absurd (longer p q d e)
newest S (x ∷ ds) j h [] q d e = subst (λ (y : Deed). number_of S y.act < j) (heads x d ds q e) h.0
newest S (x ∷ ds) j h (y ∷ p) q d e = newest S ds j h.1 p q d (tails x y ds (p ++ d ∷ q) e)

-- behind these deeds
abbrev Follow : Sites → List Deed → List Deed → Type 0
Follow S front [] = Unit {0}
Follow S front (d ∷ ds) = At S front d.activation d.act × Follow S (front ++ d ∷ []) ds

follow : (S : Sites) (front ds : List Deed) → Follow S front ds → (p q : List Deed) (d : Deed) → ds ≡ p ++ d ∷ q → At S (front ++ p) d.activation d.act
follow S front [] h p q d e = absurd (longer p q d e)
follow S front (x ∷ ds) h [] q d e = subst (λ l. At S l d.activation d.act) (sym (append-nil front)) (subst (λ (y : Deed). At S front y.activation y.act) (heads x d ds q e) h.0)
follow S front (x ∷ ds) h (y ∷ p) q d e =
    subst (λ l. At S l d.activation d.act) (append_assoc front (x ∷ []) p ∙ ap (λ z. front ++ z ∷ p) (heads x y ds (p ++ d ∷ q) e)) (follow S (front ++ x ∷ []) ds h.1 p q d (tails x y ds (p ++ d ∷ q) e))

in_order : (S : Sites) (ds : List Deed) → Follow S [] ds → AreInPlace S ds
in_order S ds h p q d e = follow S [] ds h p q d e

-- and each definition defines all that it must
abbrev FinishedAt : Sites → List Deed → List Deed → ℕ → Act → Type 0
FinishedAt S front rest a (tells (event.Def d c)) = (v : Local) → S.defined d ≡ Some v → IsFinished S front rest a d c v v.parameter
FinishedAt S front rest a b = Unit {0}

abbrev Finish : Sites → List Deed → List Deed → Type 0
Finish S front [] = Unit {0}
Finish S front (d ∷ ds) = FinishedAt S front ds d.activation d.act × Finish S (front ++ d ∷ []) ds

finish : (S : Sites) (front ds : List Deed) → Finish S front ds → (p q : List Deed) (a d : ℕ) (c : Cell) (v : Local) → ds ≡ p ++ deed a (tells (event.Def d c)) ∷ q → S.defined d ≡ Some v → IsFinished S (front ++ p) q a d c v v.parameter
finish S front [] h p q a d c v e dv = absurd (longer p q (deed a (tells (event.Def d c))) e)
finish S front (x ∷ ds) h [] q a d c v e dv =
    let D : Deed = deed a (tells (event.Def d c)) in
    let here : FinishedAt S front ds a (tells (event.Def d c)) = subst (λ (y : Deed). FinishedAt S front ds y.activation y.act) (heads x D ds q e) h.0 in
    subst (λ l. IsFinished S l q a d c v v.parameter) (sym (append-nil front)) (subst (λ l. IsFinished S front l a d c v v.parameter) (tails x D ds q e) (here v dv))
finish S front (x ∷ ds) h (y ∷ p) q a d c v e dv =
    let D : Deed = deed a (tells (event.Def d c)) in
    subst (λ l. IsFinished S l q a d c v v.parameter) (append_assoc front (x ∷ []) p ∙ ap (λ z. front ++ z ∷ p) (heads x y ds (p ++ D ∷ q) e)) (finish S (front ++ x ∷ []) ds h.1 p q a d c v (tails x y ds (p ++ D ∷ q) e) dv)

in_full : (S : Sites) (ds : List Deed) → Finish S [] ds → AreFinished S ds
in_full S ds h p q a d c v e dv = finish S [] ds h p q a d c v e dv

same_local : (v w : Local) → Some v ≡ Some w → v ≡ w
same_local v w e = cc

-- ---- variable 1 is an int i

abbrev i_text : Text
i_text = 105 ∷ []

abbrev none_text : Text
none_text = []

no_text : none_text ≡ i_text → ⊥
no_text e = let l = ap length e in omega (arith, l)

abbrev i : Local
i = record { variable = 1; names = (105 ∷ []) ∷ []; parameter = false }

abbrev one_site : ℕ → Option Local
one_site zero = None
one_site (suc zero) = Some i
one_site (suc (suc n)) = None

abbrev leaf_name : ℕ → ℕ → Text
leaf_name x zero = 105 ∷ []
leaf_name x (suc n) = []

-- definition 1 and use 1 are i; the others none that is told of
abbrev sites : Sites
sites = record { defined = one_site; used = one_site; leaf = leaf_name }

abbrev cell : ℕ → Cell
cell j = record { instance = j; index = 0 }

-- a call defines i, another call its own i, and the first one uses i
abbrev two_calls : List Deed
two_calls =
    deed 1 (begins 1) ∷ deed 1 (makes 1 5) ∷ deed 1 (tells (event.Def 1 (cell 5))) ∷ deed 2 (begins 1) ∷ deed 2 (makes 1 7) ∷ deed 2 (tells (event.Def 1 (cell 7))) ∷ deed 1 (tells (event.Use 1 (cell 5) 1)) ∷ []

two_calls_in_place : AreInPlace sites two_calls
two_calls_in_place = in_order sites two_calls (
  tt,
  (
    newest sites (deed 1 (begins 1) ∷ []) 5 (omega arith, tt),
    (
      record { made = refl; named = (0, omega arith, refl) },
      (
        tt,
        (
          newest sites (deed 1 (begins 1) ∷ deed 1 (makes 1 5) ∷ deed 1 (tells (event.Def 1 (cell 5))) ∷ deed 2 (begins 1) ∷ []) 7 (omega arith, (omega arith, (omega arith, (omega arith, tt)))),
          (record { made = refl; named = (0, omega arith, refl) }, ((omega arith, record { made = refl; named = (0, omega arith, refl) }), tt)),
        ),
      ),
    ),
  ),
)

one_name : (front rest : List Deed) (a j : ℕ) (v : Local) → sites.defined 1 ≡ Some v → IsFinished sites front rest a 1 (cell j) v v.parameter
one_name front rest a j v e = subst (λ (w : Local). IsFinished sites front rest a 1 (cell j) w w.parameter) (same_local i v e) (inl (inl refl))

two_calls_in_full : AreFinished sites two_calls
two_calls_in_full =
    let used : List Deed = deed 1 (tells (event.Use 1 (cell 5) 1)) ∷ [] in
    let first : List Deed = deed 1 (begins 1) ∷ deed 1 (makes 1 5) ∷ [] in
    let other : List Deed = deed 2 (begins 1) ∷ deed 2 (makes 1 7) ∷ deed 2 (tells (event.Def 1 (cell 7))) ∷ used in
    let before : List Deed = deed 1 (begins 1) ∷ deed 1 (makes 1 5) ∷ deed 1 (tells (event.Def 1 (cell 5))) ∷ deed 2 (begins 1) ∷ deed 2 (makes 1 7) ∷ [] in
    in_full sites two_calls (tt, (tt, ((λ v e. one_name first other 1 5 v e), (tt, (tt, ((λ v e. one_name before used 2 7 v e), (tt, tt)))))))

abbrev instance_told : Event → ℕ
instance_told (event.Def d c) = c.instance
instance_told e = 0

-- the other call's definition is of another cell
no_other : (p q : List Event) (e : ℕ) → event.Def 1 (cell 7) ∷ [] ≡ p ++ event.Def e (cell 5) ∷ q → ⊥
no_other [] q e h = let k = ap instance_told (heads (event.Def 1 (cell 7)) (event.Def e (cell 5)) [] q h) in absurd (omega (arith, k))
no_other (y ∷ p) q e h = absurd (longer p q (event.Def e (cell 5)) (tails (event.Def 1 (cell 7)) y [] (p ++ event.Def e (cell 5) ∷ q) h))

pair_there : HasPair (told two_calls) 1 1
pair_there = record { cell = cell 5; user = 1; pre = []; mid = event.Def 1 (cell 7) ∷ []; post = []; is = refl; none = no_other }

-- where each call is a walk, it is listed
pair_listed : (P : Source) → ((a : ℕ) → 1 ≤ a → (own a two_calls ≡ []) ⊎ IsWalking P two_calls a) → (f : ℕ) × IsListed P sites f 1 i 1 i
pair_listed P walks = pairs_are_listed P sites two_calls two_calls_in_place two_calls_in_full walks 1 1 i i refl refl refl pair_there

-- one instance is made after the other, and the first is used
abbrev stale : List Deed
stale = deed 1 (begins 1) ∷ deed 1 (makes 1 5) ∷ deed 1 (makes 1 6) ∷ deed 1 (tells (event.Use 1 (cell 5) 1)) ∷ []

stale_use : AreInPlace sites stale → ⊥
stale_use h =
    let front : List Deed = deed 1 (begins 1) ∷ deed 1 (makes 1 5) ∷ deed 1 (makes 1 6) ∷ [] in
    let k = h front [] (deed 1 (tells (event.Use 1 (cell 5) 1))) refl in
    let e = some_is 6 5 k.1.made in
    absurd (omega (arith, e))

-- ---- names

strong_name : IsStrong sites 1 (105 ∷ [])
strong_name zero zero e h = refl
strong_name zero (suc k) e h = absurd (no_text h)
strong_name (suc j) k e h = absurd (no_text e)

-- the elements of an array have one name
abbrev elements : Sites
elements = record { defined = one_site; used = one_site; leaf = λ x n. 97 ∷ [] }

weak_name : IsStrong elements 2 (97 ∷ []) → ⊥
weak_name h = let e = h 0 1 refl refl in absurd (omega (arith, e))

-- ---- variable 1 is a structure of f and g, which is copied

abbrev f_text : Text
f_text = 102 ∷ []

abbrev g_text : Text
g_text = 103 ∷ []

abbrev fields : Local
fields = record { variable = 1; names = f_text ∷ g_text ∷ []; parameter = false }

abbrev field_name : ℕ → ℕ → Text
field_name x zero = f_text
field_name x (suc zero) = g_text
field_name x (suc (suc n)) = []

abbrev structure_sites : Sites
structure_sites = record { defined = λ d. Some fields; used = λ u. Some fields; leaf = field_name }

abbrev field : ℕ → Cell
field n = record { instance = 5; index = n }

-- the further cell is defined right behind the first
abbrev copied : List Deed
copied = deed 1 (begins 1) ∷ deed 1 (makes 1 5) ∷ deed 1 (tells (event.Block 1)) ∷ deed 1 (tells (event.Def 1 (field 0))) ∷ deed 1 (repeats (event.Def 1 (field 1))) ∷ deed 1 (tells (event.Use 1 (field 1) 1)) ∷ []

no_field : Contains (f_text ∷ g_text ∷ []) none_text → ⊥
no_field (zero, l, e) = let k = ap length e in omega (arith, k)
no_field (suc zero, l, e) = let k = ap length e in omega (arith, k)
no_field (suc (suc n), l, e) = omega (arith, l)

all_fields : (n : ℕ) → Contains (f_text ∷ g_text ∷ []) (field_name 1 n) → Contains (field 0 ∷ field 1 ∷ []) (field n)
all_fields zero c = (0, omega arith, refl)
all_fields (suc zero) c = (1, omega arith, refl)
all_fields (suc (suc n)) c = absurd (no_field c)

copied_whole : (front : List Deed) (v : Local) → structure_sites.defined 1 ≡ Some v → IsFinished structure_sites front (deed 1 (repeats (event.Def 1 (field 1))) ∷ deed 1 (tells (event.Use 1 (field 1) 1)) ∷ []) 1 1 (field 0) v v.parameter
copied_whole front v e =
    let rest : List Deed = deed 1 (tells (event.Use 1 (field 1) 1)) ∷ [] in
    subst (λ (w : Local). IsFinished structure_sites front (deed 1 (repeats (event.Def 1 (field 1))) ∷ rest) 1 1 (field 0) w w.parameter) (same_local fields v e) (inr (record { cells = field 1 ∷ []; rest = rest; is = refl; all = λ n c strong. all_fields n c }))

copied_in_full : AreFinished structure_sites copied
copied_in_full =
    let before : List Deed = deed 1 (begins 1) ∷ deed 1 (makes 1 5) ∷ deed 1 (tells (event.Block 1)) ∷ [] in
    in_full structure_sites copied (tt, (tt, (tt, ((λ v e. copied_whole before v e), (tt, (tt, tt))))))
