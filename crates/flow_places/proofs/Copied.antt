-- A copy of a structure: all of one place is used, and all of the other is defined.
use Rattle.std.proofs.Common.{◌≡◌, ℕ, zero, suc, ◌+◌, ◌≤◌, ◌<◌, List, [], ◌∷◌, ◌++◌, map, length, inr, refl, sym, subst, ap, ◌∙◌, append-nil, append_assoc, arith, Option, Some, None, Result, Ok, Err, Bool, true, false}
use Rattle.std.specs.Prelude.{Contains, if◌then◌else◌}
use Rattle.c_events.specs.declared.events.Cell.{Cell}
use Rattle.c_events.specs.declared.events.Event.TheVariants as event
use Rattle.c_store.specs.declared.value.Value.{Value}
use Rattle.c_store.specs.declared.value.Pointer.{Pointer}
use Rattle.c_store.specs.declared.value.Fault.{Fault}
use Rattle.c_store.specs.declared.value.Fault.TheVariants.{WriteLiteral}
use Rattle.c_store.specs.Cells.{Cells, Slot, cell_of, find, is_inside, element_in, element_of, replace}
use Rattle.c_store.specs.Copies.{reached_in, reach_of, copy_of, copied_in, with_part, cells_at}
use Rattle.c_walk.specs.declared.around.Around.{Around}
use Rattle.c_walk.specs.Walked.{Walked}
use Rattle.c_walk.specs.Counted.{next_def, next_use}
use Rattle.c_meaning.specs.State.{tells, repeats, Bound, Call, Deed, State, activation, did, found_within}
use Rattle.c_meaning.specs.Results.{Got, Gives, then_do, untyped, settled}
use Rattle.c_meaning.specs.Firsts.{First, heard, cell_at}
use Rattle.c_meaning.specs.Places.{first_of, cells_used, cells_defined, alike_in_size, copied_cells, copied}
use Rattle.flow_walks.specs.declared.action.Action.TheVariants as action
use Rattle.flow_calls.specs.Placing.{Local, Sites, InPlace, UsedAt, IsDefined, DefinedAt, IsRepeated, IsUsedAgain, IsStrong, further, IsFinished}
use Rattle.flow_places.specs.Sited.{AreNamedFrom, AreAllFrom}
use Rattle.flow_places.proofs.Bound.{AllBound, one_active, found_is, deed}
use Rattle.flow_places.proofs.Finished.{finished_copy}
use Rattle.flow_places.proofs.Ends.{EndsWith, ends_told, ends_again}
use Rattle.flow_places.proofs.Good.{IsOther, def_quiet, repeats_quiet, use_quiet, Good, Sound, to_sound, to_good, sound_act}
use Rattle.flow_places.proofs.Safe.{Any, Safe, at_from, safe_gives, safe_stops, safe_if, safe_settled, safe_then, safe_did}
use Rattle.flow_places.proofs.Parts.{SameCount, if_count, wrote_safe, turns_safe, inside_of}

-- ---- what is copied is in its array

reach_if : (b : Bool) (slot : Slot) (why : Fault) → reached_in (if b then Ok slot else Err why) ≡ Ok tt → b ≡ true
reach_if true slot why e = refl
reach_if false slot why e = cc

reach_found : (o : Option Slot) (p : Pointer) → reached_in (element_in o p) ≡ Ok tt → p.index < p.length
reach_found None p e = cc
reach_found (Some slot) p e = inside_of p (length slot.cells) (reach_if (is_inside p (length slot.cells)) slot _ e)

reached_within : (c : Cells) (p : Pointer) → reach_of c p ≡ Ok tt → p.index < p.length
reached_within c p e = reach_found (find p.instance c.live) p e

copy_if : (b : Bool) (c m : Cells) (s slot : Slot) (why : Fault) (p q : Pointer) → copied_in c (Ok s) p (if b then Ok slot else Err why) q ≡ Ok m → b ≡ true
copy_if true c m s slot why p q e = refl
copy_if false c m s slot why p q e = cc

copy_found : (o : Option Slot) (c m : Cells) (s : Slot) (p q : Pointer) → copied_in c (Ok s) p (element_in o q) q ≡ Ok m → q.index < q.length
copy_found None c m s p q e = cc
copy_found (Some slot) c m s p q e = inside_of q (length slot.cells) (copy_if (is_inside q (length slot.cells)) c m s slot _ p q e)

copy_within : (r : Result Slot Fault) (c m : Cells) (p q : Pointer) → copied_in c r p (element_of c.live q) q ≡ Ok m → q.index < q.length
copy_within (Err why) c m p q e = cc
copy_within (Ok s) c m p q e = copy_found (find q.instance c.live) c m s p q e

copied_within : (c m : Cells) (p q : Pointer) → copy_of c p q ≡ Ok m → q.index < q.length
copied_within c m p q e = copy_within (element_of c.live p) c m p q e

copy_in_count : (c : Cells) (from : Result Slot Fault) (p : Pointer) (to : Result Slot Fault) (q : Pointer) (S : Sites) (F : List Bound) → SameCount S F c.count (copied_in c from p to q)
copy_in_count c (Err why) p to q S F = tt
copy_in_count c (Ok s) p (Err why) q S F = tt
copy_in_count c (Ok s) p (Ok t) q S F = if_count S F c.count t.writable (record c { live = replace q.instance (record t { cells = with_part t.cells (cell_of q) (cells_at s p) }) c.live }) WriteLiteral refl

-- ---- cells one by one

-- of so many of an instance from the base on, the k-th
abbrev pub cell_on : ℕ → ℕ → ℕ → ℕ → Pointer
cell_on j b m k = record { instance = j; base = b; length = m; size = 1; index = k }

-- so many from the k-th on
abbrev cells_on : ℕ → ℕ → ℕ → ℕ → ℕ → List Cell
cells_on j b m k zero = []
cells_on j b m k (suc i) = cell_at (cell_on j b m k) ∷ cells_on j b m (suc k) i

in_more : (c x : Cell) (cs : List Cell) → Contains cs x → Contains (c ∷ cs) x
in_more c x cs h = let lt = h.1 in (suc h.0, omega (arith, lt), h.2)

cell_among : (j b m k i n : ℕ) → n < i → Contains (cells_on j b m k i) (record { instance = j; index = b + k + n })
cell_among j b m k zero n lt = absurd (omega (arith, lt))
cell_among j b m k (suc i) zero lt = (0, omega arith, ap (λ (x : ℕ). record { instance = j; index = x }) (omega arith))
cell_among j b m k (suc i) (suc n) lt =
    in_more (cell_at (cell_on j b m k)) _ (cells_on j b m (suc k) i) (subst (λ (x : ℕ). Contains (cells_on j b m (suc k) i) (record { instance = j; index = x })) (omega arith) (cell_among j b m (suc k) i n (omega (arith, lt))))

-- the parts of a copy: each but the last goes on with the next
abbrev telling : First → Pointer → Cells → State → Got (Option Value)
telling i q c s = cells_defined tells [] i (first_of q) q.size (record s { store = c }) (λ s. Gives None s)

abbrev copying : First → Pointer → Pointer → State → Got (Option Value)
copying i q r s = then_do (settled (copy_of s.store r q) s) (telling i q)

abbrev using : First → First → Pointer → Pointer → Unit {0} → State → Got (Option Value)
using i j q r done s = cells_used tells [] j (first_of r) r.size s (copying i q r)

abbrev reaching : First → First → Pointer → Pointer → State → Got (Option Value)
reaching i j q r s = then_do (settled (reach_of s.store r) s) (using i j q r)

module _ (S : Sites) (F : List Bound) where
  -- ---- uses

  -- so many cells of an instance, from that one on
  abbrev pub AreUsed : Option Local → ℕ → ℕ → ℕ → List Call → Type 0
  AreUsed None j b m cs = Unit {0}
  AreUsed (Some v) j b m cs = (found_within v.variable cs ≡ Some j) × AreNamedFrom S v.variable v.names b m

  cell_place : (s : State) (j b m k : ℕ) (v : Local) → found_within v.variable s.calls ≡ Some j → AreNamedFrom S v.variable v.names b m → k < m → AllBound S s.deeds s.calls → InPlace S s.deeds (activation s) v (cell_at (cell_on j b m k))
  cell_place s j b m k v found named lt bound = record {
    made = found_is S s.deeds v.variable j s.calls found bound;
    named = subst (λ (i : ℕ). Contains v.names (S.leaf v.variable i)) (omega arith) (named k lt);
  }

  use_first : (s : State) (j b m k : ℕ) (o : Option Local) → AreUsed o j b m s.calls → k < m → Good S F s → UsedAt S s.deeds (activation s) (cell_at (cell_on j b m k)) o
  use_first s j b m k None h lt g = tt
  use_first s j b m k (Some v) h lt g = (one_active (suc s.last) v.variable j s.calls h.0 g.falling, cell_place s j b m k v h.0 h.1 lt g.bound)

  use_again : (s : State) (j b m k u : ℕ) (o : Option Local) → AreUsed o j b m s.calls → k < m → EndsWith (action.Use u) s → Good S F s → IsUsedAgain S s.deeds (activation s) u (cell_at (cell_on j b m k)) o
  use_again s j b m k u None h lt e g = tt
  use_again s j b m k u (Some v) h lt e g = record { active = one_active (suc s.last) v.variable j s.calls h.0 g.falling; place = cell_place s j b m k v h.0 h.1 lt g.bound; before = e.0; last = e.1 }

  module _ (n : ℕ) (c : Around) (w : Walked) (j b m : ℕ) {A : Type 0} (go : State → Got A) (Q : A → List Call → Type 0) where
    uses_again : (k i : ℕ) (s : State) → k + i ≤ m → AreUsed (S.used (next_use w)) j b m s.calls → EndsWith (action.Use (next_use w)) s → ((t : State) → t.calls ≡ s.calls → Safe S F n t (go t) Q)
        → Safe S F n s (cells_used repeats [] (heard c w) (cell_on j b m k) i s go) Q
    uses_again k zero s le h e f = f s refl
    uses_again k (suc i) s le h e f =
        let x = event.Use (next_use w) (cell_at (cell_on j b m k)) (activation s) in
        safe_did S F n (repeats x) s _ Q (repeats_quiet S x) (λ g. use_again s j b m k (next_use w) (S.used (next_use w)) h (omega (arith, le)) e g) tt
        (uses_again (suc k) i (did (repeats x) s) (omega (arith, le)) h (ends_again (action.Use (next_use w)) x s e) f)

    uses_safe : (i : ℕ) (s : State) → i ≤ m → AreUsed (S.used (next_use w)) j b m s.calls → ((t : State) → t.calls ≡ s.calls → Safe S F n t (go t) Q) → Safe S F n s (cells_used tells [] (heard c w) (cell_on j b m 0) i s go) Q
    uses_safe zero s le h f = f s refl
    uses_safe (suc i) s le h f =
        let x = event.Use (next_use w) (cell_at (cell_on j b m 0)) (activation s) in
        safe_did S F n (tells x) s _ Q (use_quiet S (next_use w) (cell_at (cell_on j b m 0)) (activation s)) (λ g. use_first s j b m 0 (S.used (next_use w)) h (omega (arith, le)) g) tt
        (uses_again 1 i (did (tells x) s) (omega (arith, le)) h (ends_told x s) f)

  -- ---- definitions

  abbrev pub AreDefined : Option Local → ℕ → ℕ → ℕ → List Call → Type 0
  AreDefined None j b m cs = Unit {0}
  AreDefined (Some v) j b m cs = (v.parameter ≡ false) × (found_within v.variable cs ≡ Some j) × AreNamedFrom S v.variable v.names b m × AreAllFrom S v.variable v.names b m

  defined_other : (j b m : ℕ) (cs : List Call) (o : Option Local) → AreDefined o j b m cs → IsOther S o
  defined_other j b m cs None h = tt
  defined_other j b m cs (Some v) h = h.0

  define_first : (s : State) (j b m k : ℕ) (o : Option Local) → AreDefined o j b m s.calls → k < m → Sound S F s → DefinedAt S s.deeds (activation s) (cell_at (cell_on j b m k)) o
  define_first s j b m k None h lt g = tt
  define_first s j b m k (Some v) h lt g = subst (IsDefined S s.deeds (activation s) v (cell_at (cell_on j b m k))) (sym h.0) (cell_place s j b m k v h.1 h.2 lt g.bound)

  define_again : (s : State) (j b m k d : ℕ) (o : Option Local) → AreDefined o j b m s.calls → k < m → EndsWith (action.Define d) s → Sound S F s → IsRepeated S s.deeds (activation s) d (cell_at (cell_on j b m k)) o
  define_again s j b m k d None h lt e g = tt
  define_again s j b m k d (Some v) h lt e g = record { no_parameter = h.0; place = cell_place s j b m k v h.1 h.2 lt g.bound; before = e.0; last = e.1 }

  -- the whole of them is defined
  all_defined : (s : State) (j b m : ℕ) (v : Local) → AreAllFrom S v.variable v.names b (suc m) → (i : ℕ) → Contains v.names (S.leaf v.variable i) → IsStrong S v.variable (S.leaf v.variable i)
      → Contains (cells_on j b (suc m) 0 (suc m)) (record { instance = j; index = i })
  all_defined s j b m v all i named strong =
      let k = all (S.leaf v.variable i) named in
      let e = strong (b + k.0) i k.2 refl in
      subst (λ (x : ℕ). Contains (cells_on j b (suc m) 0 (suc m)) (record { instance = j; index = x })) (omega (arith, e)) (cell_among j b (suc m) 0 (suc m) k.0 k.1)

  defined_whole : (ds : List Deed) (s : State) (j b m d : ℕ) (o : Option Local) (cs : List Call) → AreDefined o j b (suc m) cs → (v : Local) → o ≡ Some v
      → IsFinished S ds (map (further (activation s) d) (cells_on j b (suc m) 1 m)) (activation s) d (cell_at (cell_on j b (suc m) 0)) v v.parameter
  defined_whole ds s j b m d o cs h v e =
      let k : AreDefined (Some v) j b (suc m) cs = subst (λ o. AreDefined o j b (suc m) cs) e h in
      let cells = cells_on j b (suc m) 1 m in
      subst (IsFinished S ds (map (further (activation s) d) cells) (activation s) d (cell_at (cell_on j b (suc m) 0)) v) (sym k.0)
      (inr (record { cells = cells; rest = []; is = sym (append-nil (map (further (activation s) d) cells)); all = all_defined s j b m v k.3 }))

  module _ (c : Around) (w : Walked) (j b m : ℕ) where
    -- behind so many further events
    abbrev told_on : State → ℕ → ℕ → State
    told_on s k i = record s { deeds = s.deeds ++ map (further (activation s) (next_def w)) (cells_on j b m k i) }

    tells_on : {A : Type 0} (k i : ℕ) (s : State) (go : State → Got A) → cells_defined repeats [] (heard c w) (cell_on j b m k) i s go ≡ go (told_on s k i)
    tells_on k zero s go = ap (λ ds. go (record s { deeds = ds })) (sym (append-nil s.deeds))
    tells_on k (suc i) s go =
        let x = event.Def (next_def w) (cell_at (cell_on j b m k)) in
        tells_on (suc k) i (did (repeats x) s) go ∙ ap (λ ds. go (record s { deeds = ds })) (append_assoc s.deeds (deed (activation s) (repeats x) ∷ []) (map (further (activation s) (next_def w)) (cells_on j b m (suc k) i)))

    sound_on : (k i : ℕ) (s : State) → k + i ≤ m → AreDefined (S.defined (next_def w)) j b m s.calls → EndsWith (action.Define (next_def w)) s → Sound S F s → Sound S F (told_on s k i)
    sound_on k zero s le h e g = subst (λ ds. Sound S F (record s { deeds = ds })) (sym (append-nil s.deeds)) g
    sound_on k (suc i) s le h e g =
        let x = event.Def (next_def w) (cell_at (cell_on j b m k)) in
        let lt : k < m = omega (arith, le) in
        let gt = sound_act S F s (repeats x) (repeats_quiet S x) (define_again s j b m k (next_def w) (S.defined (next_def w)) h lt e g) g in
        subst (λ ds. Sound S F (record s { deeds = ds })) (append_assoc s.deeds (deed (activation s) (repeats x) ∷ []) (map (further (activation s) (next_def w)) (cells_on j b m (suc k) i)))
        (sound_on (suc k) i (did (repeats x) s) (omega (arith, le)) h (ends_again (action.Define (next_def w)) x s e) gt)

  -- all events of a definition at once
  copy_told : {A : Type 0} (n : ℕ) (c : Around) (w : Walked) (j b m : ℕ) (s : State) (go : State → Got A) (Q : A → List Call → Type 0) → AreDefined (S.defined (next_def w)) j b m s.calls → ((t : State) → t.calls ≡ s.calls → Safe S F n t (go t) Q)
      → Safe S F n s (cells_defined tells [] (heard c w) (cell_on j b m 0) m s go) Q
  copy_told n c w j b zero s go Q h f = f s refl
  copy_told n c w j b (suc m) s go Q h f =
      let q = cell_on j b (suc m) 0 in
      let x = event.Def (next_def w) (cell_at q) in
      let u = did (tells x) s in
      let more = map (further (activation s) (next_def w)) (cells_on j b (suc m) 1 m) in
      let t : State = record s { deeds = s.deeds ++ deed (activation s) (tells x) ∷ more } in
      let all = append_assoc s.deeds (deed (activation s) (tells x) ∷ []) more in
      subst (λ r. Safe S F n s r Q) (sym (tells_on c w j b (suc m) 1 m u go ∙ ap (λ ds. go (record s { deeds = ds })) all)) (record {
        by = λ g below.
            let gu = sound_act S F s (tells x) (def_quiet S (next_def w) (cell_at q) (defined_other j b (suc m) s.calls (S.defined (next_def w)) h)) (define_first s j b (suc m) 0 (S.defined (next_def w)) h (omega arith) (to_sound S F s g)) (to_sound S F s g) in
            let gt : Sound S F t = subst (λ ds. Sound S F (record s { deeds = ds })) all (sound_on c w j b (suc m) 1 m u (omega arith) h (ends_told x s) gu) in
            let finished = finished_copy S (activation s) (next_def w) (cell_at q) (cells_on j b (suc m) 1 m) s.deeds (defined_whole s.deeds s j b m (next_def w) (S.defined (next_def w)) s.calls h) g.right.1 in
            let k = f t refl in
            at_from S F s t (go t) Q refl (k.by (to_good S F t finished gt) below);
      })

  -- ---- the copy

  -- where the pointer isn't past the end of its array
  abbrev pub MayUseAll : Option Local → Pointer → List Call → Type 0
  MayUseAll o q cs = q.index < q.length → AreUsed o q.instance (cell_of q) q.size cs

  abbrev pub MayDefAll : Option Local → Pointer → List Call → Type 0
  MayDefAll o q cs = q.index < q.length → AreDefined o q.instance (cell_of q) q.size cs

  abbrev IsReached : Pointer → Unit {0} → List Call → Type 0
  IsReached r done cs = r.index < r.length

  pub copied_safe : (n : ℕ) (c : Around) (w v : Walked) (q r : Pointer) (s : State) → MayUseAll (S.used (next_use v)) r s.calls → MayDefAll (S.defined (next_def w)) q s.calls → Safe S F n s (copied [] [] (heard c w) (heard c v) q r s) Any
  copied_safe n c w v q r s hu hd =
      safe_if S F n (alike_in_size q r) s (copied_cells [] [] (heard c w) (heard c v) q r s) (untyped s) Any
      (turns_safe S F n r.size s (reaching (heard c w) (heard c v) q r) Any (λ t e.
      safe_then S F n t (settled (reach_of t.store r) t) (using (heard c w) (heard c v) q r) (IsReached r) Any (safe_settled S F n (reach_of t.store r) t (IsReached r) (λ done is. reached_within t.store r is)) (λ done y k lt.
      uses_safe n c v r.instance (cell_of r) r.size (copying (heard c w) q r) Any r.size y (omega arith) (subst (AreUsed (S.used (next_use v)) r.instance (cell_of r) r.size) (sym (k ∙ e)) (hu lt)) (λ z l.
      wrote_safe S F n (copy_of z.store r q) z (telling (heard c w) q) Any (copy_in_count z.store (element_of z.store.live r) r (element_of z.store.live q) q S F) (λ p is.
      copy_told n c w q.instance (cell_of q) q.size (record z { store = p }) (λ s. Gives None s) Any (subst (AreDefined (S.defined (next_def w)) q.instance (cell_of q) q.size) (sym (l ∙ k ∙ e)) (hd (copied_within z.store p r q is))) (λ t e. safe_gives S F n t None Any tt))))))
      (safe_stops S F n _ s Any)
