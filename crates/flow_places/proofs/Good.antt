-- The states of a run: all that was done is in place and finished, and what is bound is what was made last. Each step keeps it.
use Rattle.std.proofs.Common.{ℕ, suc, ◌≤◌, ◌<◌, List, [], ◌∷◌, ◌++◌, ◌≡◌, refl, subst, sym, ap, ◌∙◌, arith, Option, Some, None, false}
use Rattle.std.specs.Prelude.{nat_eq, ◌&&◌, if◌then◌else◌}
use Rattle.std.proofs.lemmas.Bool.{ne_eqb}
use Rattle.c_events.specs.declared.events.Cell.{Cell}
use Rattle.c_events.specs.declared.events.Event.{Event}
use Rattle.c_events.specs.declared.events.Event.TheVariants as event
use Rattle.c_store.specs.Cells.{Cells}
use Rattle.c_meaning.specs.State.{Act, begins, makes, tells, repeats, Bound, State, activation, did, with_bound, in_call, opened, tail_of}
use Rattle.c_meaning.specs.Calls.{activated}
use Rattle.flow_calls.specs.Placing.{Local, Sites, given_in, made_in, given_number, number_of, IsNewest, At, AreInPlace, AreFinished}
use Rattle.flow_calls.proofs.Lists.{if_on, if_off, same_eq}
use Rattle.flow_places.proofs.Bound.{Falling, falling_in, falling_left, Below, not_found, active_in, AllBound, bound_quiet, bound_made, newest_more, newest_at, placed_more, bound_opened, bound_closed, bound_left}
use Rattle.flow_places.proofs.Finished.{AreRight, OneAt, finished_more}

module _ (S : Sites) where
  -- an act that makes no instance
  pub record IsQuiet (b : Act) : Type 0 where
    pub number : number_of S b ≡ 0
    pub none : (x : ℕ) → made_in S x b ≡ None

  given_none : (x : ℕ) (c : Cell) (v : Local) → v.parameter ≡ false → given_in x c (Some v) ≡ None
  given_none x c v e = ap (λ b. if b && nat_eq v.variable x then Some c.instance else None) e

  number_none : (c : Cell) (v : Local) → v.parameter ≡ false → given_number c (Some v) ≡ 0
  number_none c v e = ap (λ b. if b then c.instance else 0) e

  -- no parameter's definition
  abbrev pub IsOther : Option Local → Type 0
  IsOther None = Unit {0}
  IsOther (Some v) = v.parameter ≡ false

  none_given : (x : ℕ) (c : Cell) (o : Option Local) → IsOther o → given_in x c o ≡ None
  none_given x c None h = refl
  none_given x c (Some v) h = given_none x c v h

  none_numbered : (c : Cell) (o : Option Local) → IsOther o → given_number c o ≡ 0
  none_numbered c None h = refl
  none_numbered c (Some v) h = number_none c v h

  pub def_quiet : (d : ℕ) (c : Cell) → IsOther (S.defined d) → IsQuiet (tells (event.Def d c))
  def_quiet d c h = record { number = none_numbered c (S.defined d) h; none = λ x. none_given x c (S.defined d) h }

  pub begins_quiet : (f : ℕ) → IsQuiet (begins f)
  begins_quiet f = record { number = refl; none = λ x. refl }

  pub repeats_quiet : (e : Event) → IsQuiet (repeats e)
  repeats_quiet e = record { number = refl; none = λ x. refl }

  pub use_quiet : (u : ℕ) (c : Cell) (a : ℕ) → IsQuiet (tells (event.Use u c a))
  use_quiet u c a = record { number = refl; none = λ x. refl }

  pub block_quiet : (k : ℕ) → IsQuiet (tells (event.Block k))
  block_quiet k = record { number = refl; none = λ x. refl }

  pub test_quiet : (k o a : ℕ) → IsQuiet (tells (event.Test k o a))
  test_quiet k o a = record { number = refl; none = λ x. refl }

  -- ---- the states

  -- where these are the variables of file scope
  pub record Good (F : List Bound) (s : State) : Type 0 where
    pub right : AreRight S s.deeds
    pub counted : IsNewest S s.deeds (suc s.store.count)
    pub bound : AllBound S s.deeds s.calls
    pub falling : Falling (suc s.last) s.calls
    pub file : s.file ≡ F

  -- whatever is finished
  pub record Sound (F : List Bound) (s : State) : Type 0 where
    pub placed : AreInPlace S s.deeds
    pub counted : IsNewest S s.deeds (suc s.store.count)
    pub bound : AllBound S s.deeds s.calls
    pub falling : Falling (suc s.last) s.calls
    pub file : s.file ≡ F

  module _ (F : List Bound) where
    pub to_sound : (s : State) → Good F s → Sound F s
    to_sound s g = record { placed = g.right.0; counted = g.counted; bound = g.bound; falling = g.falling; file = g.file }

    pub to_good : (s : State) → AreFinished S s.deeds → Sound F s → Good F s
    to_good s f g = record { right = (g.placed, f); counted = g.counted; bound = g.bound; falling = g.falling; file = g.file }

    -- an act that makes nothing, in place
    pub sound_act : (s : State) (b : Act) → IsQuiet b → At S s.deeds (activation s) b → Sound F s → Sound F (did b s)
    sound_act s b k h g =
        let z = k.number in
        record {
          placed = placed_more S s.deeds (activation s) b h g.placed;
          counted = newest_more S (suc s.store.count) (suc s.store.count) s.deeds (activation s) b (omega arith) (omega (arith, z)) g.counted;
          bound = bound_quiet S s.deeds (activation s) (suc s.last) b s.calls k.none g.falling g.bound;
          falling = g.falling;
          file = g.file;
        }

    pub good_act : (s : State) (b : Act) → IsQuiet b → At S s.deeds (activation s) b → OneAt S s.deeds (activation s) b → Good F s → Good F (did b s)
    good_act s b k h o g = to_good (did b s) (finished_more S s.deeds (activation s) b o g.right.1) (sound_act s b k h (to_sound s g))

    -- the instance of that variable is bound
    abbrev pub with_instance : Cells → ℕ → ℕ → State → State
    with_instance c x j s = record s { store = c; calls = in_call (with_bound (record { variable = x; instance = j })) s.calls }

    -- and an act makes it
    pub good_bound : (n : ℕ) (s : State) (c : Cells) (x j : ℕ) (b : Act) → n < x → s.store.count < j → j ≤ c.count → number_of S b ≤ c.count → At S s.deeds (activation s) b → OneAt S s.deeds (activation s) b → made_in S x b ≡ Some j
        → ((y : ℕ) → (y ≡ x → ⊥) → made_in S y b ≡ None) → Below n s.calls → Good F s → Good F (did b (with_instance c x j s))
    good_bound n s c x j b lt more le few h o m f w g =
        subst (λ (a : ℕ). Good F (record (with_instance c x j s) { deeds = s.deeds ++ record { activation = a; act = b } ∷ [] })) (sym (active_in (with_bound (record { variable = x; instance = j })) s.calls))
        (record {
          right = (placed_more S s.deeds (activation s) b h g.right.0, finished_more S s.deeds (activation s) b o g.right.1);
          counted = newest_more S (suc s.store.count) (suc c.count) s.deeds (activation s) b (omega (arith, more, le)) (omega (arith, few)) g.counted;
          bound = bound_made S x j b s.deeds (suc s.last) s.calls (not_found n x lt s.calls w) m f g.falling g.bound;
          falling = falling_in (with_bound (record { variable = x; instance = j })) (suc s.last) s.calls g.falling;
          file = g.file;
        })

    -- a making
    pub makes_it : (x j : ℕ) → made_in S x (makes x j) ≡ Some j
    makes_it x j = if_on (nat_eq x x) (Some j) None (same_eq x)

    pub makes_other : (x j y : ℕ) → (y ≡ x → ⊥) → made_in S y (makes x j) ≡ None
    makes_other x j y ne = if_off (nat_eq x y) (Some j) None (ne_eqb x y (λ e. ne (sym e)))

    -- nothing is done, and nothing else is bound
    pub record Still (s t : State) : Type 0 where
      pub deeds : t.deeds ≡ s.deeds
      pub calls : t.calls ≡ s.calls
      pub count : s.store.count ≤ t.store.count
      pub last : t.last ≡ s.last
      pub file : t.file ≡ s.file

    pub good_still : (s t : State) → Still s t → Good F s → Good F t
    good_still s t e g =
        let le = e.count in
        record {
          right = subst (AreRight S) (sym e.deeds) g.right;
          counted = newest_at S (suc s.store.count) (suc t.store.count) t.deeds (omega (arith, le)) (subst (λ ds. IsNewest S ds (suc s.store.count)) (sym e.deeds) g.counted);
          bound = subst (λ ds. AllBound S ds t.calls) (sym e.deeds) (subst (AllBound S s.deeds) (sym e.calls) g.bound);
          falling = subst (λ n. Falling (suc n) t.calls) (sym e.last) (subst (Falling (suc s.last)) (sym e.calls) g.falling);
          file = e.file ∙ g.file;
        }

    pub good_opened : (s : State) → Good F s → Good F (record s { calls = in_call opened s.calls })
    good_opened s g = record { right = g.right; counted = g.counted; bound = bound_opened S s.deeds s.calls g.bound; falling = falling_in opened (suc s.last) s.calls g.falling; file = g.file }

    pub good_closed : (s : State) (c : Cells) → c.count ≡ s.store.count → Good F s → Good F (record s { store = c; calls = in_call tail_of s.calls })
    good_closed s c e g = record {
      right = g.right;
      counted = newest_at S (suc s.store.count) (suc c.count) s.deeds (omega (arith, e)) g.counted;
      bound = bound_closed S s.deeds s.calls g.bound;
      falling = falling_in tail_of (suc s.last) s.calls g.falling;
      file = g.file;
    }

    pub good_left : (s : State) → Good F s → Good F (record s { calls = tail_of s.calls })
    good_left s g = record { right = g.right; counted = g.counted; bound = bound_left S s.deeds s.calls g.bound; falling = falling_left (suc s.last) s.calls g.falling; file = g.file }

    pub good_activated : (f : ℕ) (s : State) → Good F s → Good F (activated f s)
    good_activated f s g = record { right = g.right; counted = g.counted; bound = ((tt, tt), g.bound); falling = (omega arith, omega arith, g.falling); file = g.file }
