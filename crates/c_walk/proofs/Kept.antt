-- Items stay sound where one more comes.
use Rattle.std.proofs.Common.{◌≡◌, ℕ, suc, ◌+◌, ◌≤◌, ◌++◌, ◌||◌, List, [], ◌∷◌, Bool, true, false, Option, Some, None, if◌then◌else◌, refl, ap, ◌∙◌, arith}
use Rattle.std.specs.List.{AllByRecursion}
use Rattle.c_base.specs.declared.place.Pos.{Pos}
use Rattle.c_syntax.specs.Shape.{NoteShape, typed, name, dot, arrow, ExprShape, leaf, paren, suffix, index, field}
use Rattle.c_walk.specs.Items.{Direct, Outcomes, Item, block, decision, def, used}
use Rattle.c_walk.specs.Places.{is_place, has_scalar, has_structure, has_array, named, with_part, direct, direct_form}
use Rattle.c_walk.specs.declared.around.Around.{Around}
use Rattle.c_walk.specs.declared.around.Taken.{Taken}
use Rattle.c_walk.specs.declared.around.Taken.TheVariants.{Read, Written, Changed, Copied, Addressed}
use Rattle.c_walk.specs.Sound.{decision_count, IsOwner, HasValue, IsSound}
use Rattle.c_walk.specs.Tests.{is_logical_form, outcomes_of_form}
use Rattle.c_walk.specs.Walked.{Walked, with_block, with_block_if, with_decision, inside, inside_test, with_test, with_def, with_use, with_sites, with_site, is_used, is_written}

-- the items so far are sound among so many decisions
pub record Sound (s : Walked) : Type 0 where
  pub count : decision_count s.items ≡ s.decisions
  pub all : AllByRecursion (IsSound s.decisions) s.items

-- they are still sound, and no decision is lost
pub record Goes (s t : Walked) : Type 0 where
  pub sound : Sound t
  pub more : s.decisions ≤ t.decisions

pub goes_nowhere : (s : Walked) → Sound s → Goes s s
goes_nowhere s h = record { sound = h; more = omega arith }

pub goes_on : (s t u : Walked) → Goes s t → Goes t u → Goes s u
goes_on s t u a b = let m = a.more in let n = b.more in record { sound = b.sound; more = omega arith }

pub owner_on : (m n : ℕ) (o : Option ℕ) → m ≤ n → IsOwner m o → IsOwner n o
owner_on m n None h k = tt
owner_on m n (Some i) h k = let below = k.1 in (k.0, omega arith)

-- ---- one item more

sound_on : (m n : ℕ) (i : Item) → m ≤ n → IsSound m i → IsSound n i
sound_on m n (block p) h k = tt
sound_on m n (decision p o) h k = tt
sound_on m n (def p f d) h k = tt
sound_on m n (used p f d o) h k = (owner_on m n o h k.0, k.1)

all_on : (m n : ℕ) (is : List Item) → m ≤ n → AllByRecursion (IsSound m) is → AllByRecursion (IsSound n) is
all_on m n [] h k = tt
all_on m n (i ∷ is) h k = (sound_on m n i h k.0, all_on m n is h k.1)

all_last : (P : Item → Type 0) (is : List Item) (i : Item) → AllByRecursion P is → P i → AllByRecursion P (is ++ i ∷ [])
all_last P [] i h k = (k, tt)
all_last P (j ∷ is) i h k = (h.0, all_last P is i h.1 k)

last_block : (is : List Item) (p : Pos) → decision_count (is ++ block p ∷ []) ≡ decision_count is
last_block [] p = refl
last_block (block q ∷ is) p = last_block is p
last_block (decision q o ∷ is) p = ap suc (last_block is p)
last_block (def q f d ∷ is) p = last_block is p
last_block (used q f d o ∷ is) p = last_block is p

last_decision : (is : List Item) (p : Pos) (u : Outcomes) → decision_count (is ++ decision p u ∷ []) ≡ suc (decision_count is)
last_decision [] p u = refl
last_decision (block q ∷ is) p u = last_decision is p u
last_decision (decision q o ∷ is) p u = ap suc (last_decision is p u)
last_decision (def q f d ∷ is) p u = last_decision is p u
last_decision (used q f d o ∷ is) p u = last_decision is p u

last_def : (is : List Item) (p : Pos) (g : ℕ) (e : Option Direct) → decision_count (is ++ def p g e ∷ []) ≡ decision_count is
last_def [] p g e = refl
last_def (block q ∷ is) p g e = last_def is p g e
last_def (decision q o ∷ is) p g e = ap suc (last_def is p g e)
last_def (def q f d ∷ is) p g e = last_def is p g e
last_def (used q f d o ∷ is) p g e = last_def is p g e

last_use : (is : List Item) (p : Pos) (g : ℕ) (e : Option Direct) (w : Option ℕ) → decision_count (is ++ used p g e w ∷ []) ≡ decision_count is
last_use [] p g e w = refl
last_use (block q ∷ is) p g e w = last_use is p g e w
last_use (decision q o ∷ is) p g e w = ap suc (last_use is p g e w)
last_use (def q f d ∷ is) p g e w = last_use is p g e w
last_use (used q f d o ∷ is) p g e w = last_use is p g e w

pub goes_block : (p : Pos) (s : Walked) → Sound s → Goes s (with_block p s)
goes_block p s h = record {
  sound = record { count = last_block s.items p ∙ h.count; all = all_last (IsSound s.decisions) s.items (block p) h.all tt };
  more = omega arith;
}

pub goes_block_if : (b : Bool) (p : Pos) (s : Walked) → Sound s → Goes s (with_block_if b p s)
goes_block_if true p s h = goes_block p s h
goes_block_if false p s h = goes_nowhere s h

pub goes_decision : (p : Pos) (u : Outcomes) (s : Walked) → Sound s → Goes s (with_decision p u s)
goes_decision p u s h =
    let n = s.decisions + 1 in
    record {
      sound = record {
        count = let e = last_decision s.items p u in let c = h.count in omega (arith, e, c);
        all = all_last (IsSound n) s.items (decision p u) (all_on s.decisions n s.items (omega arith) h.all) tt;
      };
      more = omega arith;
    }

pub goes_def : (b : Bool) (c : Around) (p : Pos) (d : Option Direct) (s : Walked) → Sound s → Goes s (with_def b c p d s)
goes_def false c p d s h = goes_nowhere s h
goes_def true c p d s h = record {
  sound = record { count = last_def s.items p c.function d ∙ h.count; all = all_last (IsSound s.decisions) s.items (def p c.function d) h.all tt };
  more = omega arith;
}

pub goes_use : (b : Bool) (c : Around) (p : Pos) (d : Option Direct) (s : Walked) → Sound s → IsOwner s.decisions c.owner → (b ≡ true → HasValue d) → Goes s (with_use b c p d s)
goes_use false c p d s h o k = goes_nowhere s h
goes_use true c p d s h o k = record {
  sound = record { count = last_use s.items p c.function d c.owner ∙ h.count; all = all_last (IsSound s.decisions) s.items (used p c.function d c.owner) h.all (o, k refl) };
  more = omega arith;
}

-- ---- the sites of an expression

part_value : (x : List ℕ) (n : NoteShape) (d : Option Direct) → (has_scalar n || has_structure n) ≡ true → HasValue (with_part x n d)
part_value x (typed t k) None h = tt
part_value x (typed t k) (Some d) h = h
part_value x n d h = tt

named_value : (x : List ℕ) (n : NoteShape) → (has_scalar n || has_structure n) ≡ true → HasValue (named x n)
named_value x (typed t (Some k)) h = h
named_value x (typed t None) h = tt
named_value x n h = tt

direct_value : (n : NoteShape) (f : ExprShape) → is_place f ≡ true → (has_scalar n || has_structure n) ≡ true → HasValue (direct_form n f)
direct_value n (leaf (name x)) p h = named_value x n h
direct_value n (paren a) p h = cc
direct_value n (suffix a (field dot x q)) p h = part_value _ n (direct a) h
direct_value n (suffix a (field arrow x q)) p h = tt
direct_value n (suffix a (index b)) p h = part_value _ n (if has_array a then direct a else if has_array b then direct b else None) h
direct_value n _ p h = tt

or_structure : (a b : Bool) → a ≡ true → (a || b) ≡ true
or_structure true b h = refl
or_structure false b h = cc

or_scalar : (a b : Bool) → b ≡ true → (a || b) ≡ true
or_scalar true b h = refl
or_scalar false b h = h

used_value : (r : Taken) (n : NoteShape) → is_used r n ≡ true → (has_scalar n || has_structure n) ≡ true
used_value Read n h = or_structure (has_scalar n) (has_structure n) h
used_value Changed n h = or_structure (has_scalar n) (has_structure n) h
used_value Copied n h = or_scalar (has_scalar n) (has_structure n) h
used_value Written n h = cc
used_value Addressed n h = cc

goes_sites : (c : Around) (r : Taken) (p : Pos) (n : NoteShape) (f : ExprShape) (s : Walked) → is_place f ≡ true → Sound s → IsOwner s.decisions c.owner → Goes s (with_sites c r p (direct_form n f) (is_used r n) s)
goes_sites c r p n f s e h o =
    let d = direct_form n f in
    let first = goes_def (is_written r) c p d s h in
    let t = with_def (is_written r) c p d s in
    goes_on s t (with_use (is_used r n) c p d t) first (goes_use (is_used r n) c p d t first.sound (owner_on s.decisions t.decisions c.owner first.more o) (λ b. direct_value n f e (used_value r n b)))

pub goes_site : (c : Around) (r : Taken) (p : Pos) (n : NoteShape) (f : ExprShape) (s : Walked) → Sound s → IsOwner s.decisions c.owner → Goes s (with_site c r p n f s)
goes_site c r p n f s h o = by (is_place f) refl
  where
    by : (b : Bool) → is_place f ≡ b → Goes s (if b then with_sites c r p (direct_form n f) (is_used r n) s else s)
    by true e = goes_sites c r p n f s e h o
    by false e = goes_nowhere s h

-- ---- tests

pub goes_test : (p : Pos) (f : ExprShape) (s : Walked) → Sound s → Goes s (with_test p f s)
goes_test p f s h = by (is_logical_form f)
  where
    by : (b : Bool) → Goes s (if b then s else with_decision p (outcomes_of_form f) s)
    by true = goes_nowhere s h
    by false = goes_decision p (outcomes_of_form f) s h

-- what stands in the next decision has it as owner once it is there
pub owner_inside : (c : Around) (p : Pos) (u : Outcomes) (s : Walked) → IsOwner (with_decision p u s).decisions (inside c s).owner
owner_inside c p u s = (omega arith, omega arith)

pub owner_test : (c : Around) (p : Pos) (f : ExprShape) (s : Walked) → IsOwner s.decisions c.owner → IsOwner (with_test p f s).decisions (inside_test c f s).owner
owner_test c p f s o = by (is_logical_form f)
  where
    by : (b : Bool) → IsOwner (if b then s else with_decision p (outcomes_of_form f) s).decisions (if b then c else inside c s).owner
    by true = o
    by false = owner_inside c p (outcomes_of_form f) s
