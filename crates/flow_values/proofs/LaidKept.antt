-- Typing keeps it that the fields of structures that have room have room.
use Rattle.std.proofs.Common.{◌≡◌, ℕ, ◌-◌, ◌≤◌, List, [], map, nat_eq, Bool, true, false, Option, Some, None, refl, sym, subst, ◌∙◌, arith}
use Rattle.std.proofs.lemmas.Bool.{false≢true}
use Rattle.std.proofs.lemmas.Bool.Decides.{nat_tests}
use Rattle.c_base.specs.declared.place.Pos.{Pos}
use Rattle.c_syntax.specs.declared.text.Text.{Text}
use Rattle.c_syntax.specs.declared.tree.Named.{Named}
use Rattle.c_syntax.specs.Shape.{DeclShapes}
use Rattle.c_type_rules.specs.Layouts.{Extent, known, numbered, structure_measure}
use Rattle.c_tables.specs.Tables.{FieldShape}
use Rattle.c_tables.specs.Rows.{row}
use Rattle.c_tree.specs.declared.meaning.Tag.{Tag}
use Rattle.c_tree.specs.State.{State, is_set, step, steps}
use Rattle.c_tree.specs.Parts.{with_structure, opened, begun_at, closed, listed_enumeration, tag_tokens, within}
use Rattle.c_tree.specs.Typing.{type_lines}
use Rattle.flow_initial.proofs.Cores.{Core, core, lines_of, Kept, KeptByAll, KeptByUnits}
use Rattle.flow_initial.proofs.Openings.{opened_keeps}
use Rattle.flow_initial.proofs.RowLists.{where_set, set_in_front, set_stays}
use Rattle.flow_initial.proofs.KeepsNodes as nodes
use Rattle.flow_initial.proofs.Follows.{Follows, OpensAt, opens, begun_there, differ, types_follow, all_follow, units_follow, heard_follows}
use Rattle.flow_values.proofs.Laid.{Laid}
use Rattle.flow_values.proofs.Closing.{new_known, new_laid, number_apart, closed_laid}

-- ---- a structure whose list was begun has no room before its end

abbrev pub IsOpen : ℕ → Core → Type 0
IsOpen n c = (is_set (row c.begun n) ≡ true) × ((e : Extent) → numbered c.rooms n ≡ known e → ⊥)

new_open : (n : ℕ) (x : Option Text) (s : State) → IsOpen n (core s) → IsOpen n (core (with_structure x s))
new_open n x s h = (where_set (nat_eq n 0) _ _ (set_in_front s.begun (n - 1)) h.0, λ e g. h.1 e (new_known s.rooms n e g))

opened_open : (n : ℕ) (alone list : Bool) (x : Option Named) (s : State) → IsOpen n (core s) → IsOpen n (core (opened alone list x s).state)
opened_open n = opened_keeps (IsOpen n) (new_open n None) (λ x s h. new_open n (Some x) s h)

begun_open : (n : ℕ) (m : Option ℕ) (s : State) → IsOpen n (core s) → IsOpen n (core (begun_at m s))
begun_open n None s h = h
begun_open n (Some m) s h = (where_set (nat_eq n 0) _ _ (set_stays (m - 1) (n - 1) s.begun) h.0, h.1)

listed_open : (n : ℕ) (p : Pos) (x : Text) (t : Option Tag) (s : State) → IsOpen n (core s) → IsOpen n (core (listed_enumeration p x t s))
listed_open n p x None s h = h
listed_open n p x (Some t) s h = h

module _ (a : Core) where
  closed_open : (n : ℕ) (m : Option ℕ) (fields : List FieldShape) (s t : State) → OpensAt m (core s) → IsOpen n (core s) → IsOpen n (core t) → IsOpen n (core (closed m fields t))
  closed_open n None fields s t o h g = g
  closed_open n (Some m) fields s t o h g =
      (g.0, λ e f. g.1 e (sym (number_apart (structure_measure t.rooms (map (λ (f : FieldShape). f.kind) fields)) m n t.rooms o.0 (λ same. differ a s.begun m n o.2 h.0 (sym same))) ∙ f))

  types_open : (n : ℕ) → Kept (λ c. Follows a c × IsOpen n c)
  types_open n =
      let f = types_follow a in
      record {
        opening = λ alone list x s h. (f.opening alone list x s h.0, opened_open n alone list x s h.1);
        beginning = λ m s h. (f.beginning m s h.0, begun_open n m s h.1);
        closing = λ alone x ds s h g. let o = opened alone true x s in
            (f.closing alone x ds s h.0 g.0, closed_open n o.number (lines_of alone x ds s).fields o.state (lines_of alone x ds s).state (opens alone x s h.0.sound) (opened_open n alone true x s h.1) g.1);
        listing = λ p x t s h. (f.listing p x t s h.0, listed_open n p x t s h.1);
        entering = λ s h. (f.entering s h.0, h.1);
        leaving = λ s h. (f.leaving s h.0, h.1);
        hushing = λ s t g h. let one = g (heard_follows a true s h.0, h.1) in (heard_follows a s.quiet t one.0, one.1);
      }

-- ---- room

-- and a structure with room was begun
abbrev pub IsLaidOut : Core → Type 0
IsLaidOut c = Laid c.rooms c.structures × ((n : ℕ) (e : Extent) → numbered c.rooms n ≡ known e → is_set (row c.begun n) ≡ true)

new_laid_out : (x : Option Text) (s : State) → IsLaidOut (core s) → IsLaidOut (core (with_structure x s))
new_laid_out x s h = (new_laid x s.rooms s.tables.structures h.0, λ n e g. where_set (nat_eq n 0) _ _ (set_in_front s.begun (n - 1)) (h.1 n e (new_known s.rooms n e g)))

opened_laid_out : (alone list : Bool) (x : Option Named) (s : State) → IsLaidOut (core s) → IsLaidOut (core (opened alone list x s).state)
opened_laid_out = opened_keeps IsLaidOut (new_laid_out None) (λ x s h. new_laid_out (Some x) s h)

begun_laid_out : (m : Option ℕ) (s : State) → IsLaidOut (core s) → IsLaidOut (core (begun_at m s))
begun_laid_out None s h = h
begun_laid_out (Some m) s h = (h.0, λ n e g. where_set (nat_eq n 0) _ _ (set_stays (m - 1) (n - 1) s.begun) (h.1 n e g))

listed_laid_out : (p : Pos) (x : Text) (t : Option Tag) (s : State) → IsLaidOut (core s) → IsLaidOut (core (listed_enumeration p x t s))
listed_laid_out p x None s h = h
listed_laid_out p x (Some t) s h = h

-- whatever is now known of room, it was begun
begun_still : (n : ℕ) (fields : List FieldShape) (t : State) → IsLaidOut (core t) → 1 ≤ n → is_set (row t.begun n) ≡ true → (m : ℕ) (e : Extent) (b : Bool) → nat_eq m n ≡ b → numbered (closed (Some n) fields t).rooms m ≡ known e → is_set (row t.begun m) ≡ true
begun_still n fields t g le set m e true i f = let same : m ≡ n = grind (arith, nat_tests) in subst (λ j. is_set (row t.begun j) ≡ true) (sym same) set
begun_still n fields t g le set m e false i f =
    let other : m ≡ n → ⊥ = grind (arith, nat_tests) in
    g.1 m e (sym (number_apart (structure_measure t.rooms (map (λ (f : FieldShape). f.kind) fields)) n m t.rooms le other) ∙ f)

module _ (a : Core) where
  end_laid_out : (n : Option ℕ) (fields : List FieldShape) (t : State) → IsLaidOut (core t) → ((m : ℕ) → n ≡ Some m → (1 ≤ m) × IsOpen m (core t)) → IsLaidOut (core (closed n fields t))
  end_laid_out None fields t g o = g
  end_laid_out (Some n) fields t g o =
      let is = o n refl in
      (closed_laid fields n t.rooms t.tables.structures is.0 is.1.1 g.0, λ m e f. begun_still n fields t g is.0 is.1.0 m e (nat_eq m n) refl f)

  lines_open : (n : Option ℕ) (tokens : ℕ) (ds : DeclShapes) (s : State) → OpensAt n (core s) → Follows a (core s) → IsLaidOut (core s)
      → (m : ℕ) → n ≡ Some m → (1 ≤ m) × IsOpen m (core (type_lines ds [] (within (step (steps tokens (begun_at n s))))).state)
  lines_open None tokens ds s o f h m e = cc
  lines_open (Some n) tokens ds s o f h m e =
      let same : n ≡ m = cc in
      let set = begun_there (Some n) s o in
      let none : (x : Extent) → numbered s.rooms n ≡ known x → ⊥ = λ x y. false≢true (sym o.2 ∙ h.1 n x y) in
      let begun : Follows a (core (begun_at (Some n) s)) = (types_follow a).beginning (Some n) s f in
      subst (λ i. (1 ≤ i) × IsOpen i (core (type_lines ds [] (within (step (steps tokens (begun_at (Some n) s))))).state)) same
      (o.0, (nodes.lines_keep (λ c. Follows a c × IsOpen n c) (types_open a n) ds [] (within (step (steps tokens (begun_at (Some n) s)))) (begun, (set, none))).1)

  lines_laid_out : (alone : Bool) (x : Option Named) (ds : DeclShapes) (s : State) → Follows a (core s) → IsLaidOut (core s) → IsLaidOut (core (lines_of alone x ds s).state)
      → IsLaidOut (core (closed (opened alone true x s).number (lines_of alone x ds s).fields (lines_of alone x ds s).state))
  lines_laid_out alone x ds s f h g =
      let o = opened alone true x s in
      end_laid_out o.number (lines_of alone x ds s).fields (lines_of alone x ds s).state g
      (lines_open o.number (tag_tokens x) ds o.state (opens alone x s f.sound) ((types_follow a).opening alone true x s f) (opened_laid_out alone true x s h))

  pub types_laid : Kept (λ c. Follows a c × IsLaidOut c)
  types_laid =
      let f = types_follow a in
      record {
        opening = λ alone list x s h. (f.opening alone list x s h.0, opened_laid_out alone list x s h.1);
        beginning = λ m s h. (f.beginning m s h.0, begun_laid_out m s h.1);
        closing = λ alone x ds s h g. (f.closing alone x ds s h.0 g.0, lines_laid_out alone x ds s h.0 h.1 g.1);
        listing = λ p x t s h. (f.listing p x t s h.0, listed_laid_out p x t s h.1);
        entering = λ s h. (f.entering s h.0, h.1);
        leaving = λ s h. (f.leaving s h.0, h.1);
        hushing = λ s t g h. let one = g (heard_follows a true s h.0, h.1) in (heard_follows a s.quiet t one.0, one.1);
      }

  pub all_laid : KeptByAll (λ c. Follows a c × IsLaidOut c)
  all_laid = record { types = types_laid; declaring = λ x k s g h. ((all_follow a).declaring x k s g h.0, h.1) }

  pub units_laid : KeptByUnits (λ c. Follows a c × IsLaidOut c)
  units_laid = record { all = all_laid; turning = λ n s h. ((units_follow a).turning n s h.0, h.1) }
