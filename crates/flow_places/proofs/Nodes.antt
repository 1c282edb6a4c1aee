-- What an expression keeps: the states are good, and the calls are as they were; and where the place of a variable is.
use Rattle.std.proofs.Common.{ℕ, ◌+◌, List, [], ◌∷◌, ◌≡◌, inl, inr, refl, sym, subst, ap, ◌∙◌, arith, Option, Some, None, Bool, true, false}
use Rattle.std.specs.Prelude.{◌⊎◌, drop, length, nat_lt, is_some, Contains, if◌then◌else◌}
use Rattle.std.proofs.lemmas.Bool.{true≢false}
use Rattle.c_base.specs.declared.place.Pos.{Pos}
use Rattle.c_events.specs.declared.events.Event.TheVariants as event
use Rattle.c_syntax.specs.declared.text.Text.{Text}
use Rattle.c_syntax.specs.declared.tree.UnaryOp.{UnaryOp}
use Rattle.c_syntax.specs.declared.tree.UnaryOp.TheVariants as front
use Rattle.c_syntax.specs.declared.tree.BinaryOp.{BinaryOp}
use Rattle.c_syntax.specs.Shape.{TypeOf, int, pointer, array, structure, nothing, NoteShape, bare, typed, known, number, char, str, name, Step, unary, before, size_of, plain, and, or, assign, comma, dot, arrow, NodeShape, node, ExprShape, leaf, paren, call, prefix, size_of_type, cast, suffix, two, choose, probe, index, field, behind, NodeShapes, no_nodes, more_nodes, used, def}
use Rattle.c_constants.specs.declared.numbers.Number.{Number}
use Rattle.c_constants.specs.Numbers.{number_of}
use Rattle.c_store.specs.declared.value.Value.{Value}
use Rattle.c_store.specs.declared.value.Value.TheVariants.{At}
use Rattle.c_store.specs.declared.value.Pointer.{Pointer}
use Rattle.c_store.specs.Cells.{cell_of}
use Rattle.c_tables.specs.Tables.{FunctionShape}
use Rattle.c_tables.specs.Rows.{row}
use Rattle.c_walk.specs.declared.around.Around.{Around}
use Rattle.c_walk.specs.declared.around.Taken.{Taken}
use Rattle.c_walk.specs.declared.around.Taken.TheVariants.{Read, Written, Changed, Copied, Addressed}
use Rattle.c_walk.specs.Places.{has_scalar, holds_structure}
use Rattle.c_walk.specs.Tests.{is_logical_form}
use Rattle.c_walk.specs.Walked.{Walked, right_taken, with_block, pos_of, next_decision, inside_test, with_test, with_site}
use Rattle.c_walk.specs.Counted.{next_def, next_use}
use Rattle.c_walk.specs.Walking.{walk_node, walk_test, walk_arm}
use Rattle.c_meaning.specs.State.{tells, Bound, Call, State, activation, did, found_in, found_within, or_else}
use Rattle.c_meaning.specs.Results.{Got, Gives, Stops, then_do, turn, untyped, settled, needed}
use Rattle.c_meaning.specs.Operators.{converted, is_true, operated, stepped_by_one, element_pointer, of_one, target, pointed}
use Rattle.c_meaning.specs.Layout.{cells}
use Rattle.c_meaning.specs.Firsts.{First, heard, outcome, noted_block}
use Rattle.c_meaning.specs.Places.{room, whole, first_cell, variable_place, marks, fetched}
use Rattle.c_meaning.specs.Constants.{type_at, kind_noted}
use Rattle.c_meaning.specs.Knot.{Knot}
use Rattle.c_meaning.specs.Builtins.{built_in, called, called_row, params_of}
use Rattle.c_meaning.specs.Expressions.{gives, operand, number_value, literal_value, noted_value, cast_value, tested, arm, last_test, written, assigned, stepped_from, step_value, meaning, form_meaning, arguments}
use Rattle.c_meaning.specs.Calls.{Source}
use Rattle.flow_names.specs.Keeping.{KeepsNames}
use Rattle.flow_calls.specs.Placing.{Local, Sites}
use Rattle.flow_calls.proofs.Lists.{some_not, some_is, or_some}
use Rattle.flow_places.specs.Sited.{IsUsedAt, IsDefinedAt, variable_named, form_names, IsUse, IsDefinition, IsUsedWhole, IsDefinedWhole, IsReadSite, IsUsedSite, IsDefinedSite, IsCopied, IsSited, IsFormSited, IsTestSited, IsArmSited, AreSited}
use Rattle.flow_places.proofs.Good.{Good, test_quiet}
use Rattle.flow_places.proofs.Safe.{Any, GoodAt, Safe, safe_gives, safe_stops, safe_then, safe_turn, safe_if, safe_settled, safe_needed, safe_did, ForUse, ForDef}
use Rattle.flow_places.proofs.Copied.{MayUseAll, MayDefAll, copied_safe}
use Rattle.flow_places.proofs.Unmarked.{unmarked}
use Rattle.flow_places.proofs.Parts.{MayUse, MayDef, block_safe, loaded_safe, stored_safe, fetched_safe, variable_safe, field_safe, built_in_safe}

module _ (S : Sites) (F : List Bound) where
  to_at : {A : Type 0} (s : State) (r : Got A) (Q R : A → List Call → Type 0) → ((a : A) (cs : List Call) → Q a cs → R a cs) → GoodAt S F s r Q → GoodAt S F s r R
  to_at s (Gives a t) Q R h g = (g.0, g.1, h a s.calls g.2)
  to_at s (Stops why t) Q R h g = g

  pub safe_to : {A : Type 0} (n : ℕ) (s : State) (r : Got A) (Q R : A → List Call → Type 0) → ((a : A) (cs : List Call) → Q a cs → R a cs) → Safe S F n s r Q → Safe S F n s r R
  safe_to n s r Q R h f = record { by = λ g w. to_at s r Q R h (f.by g w) }

  with_good : {A : Type 0} (n : ℕ) (s : State) (r : Got A) (Q : A → List Call → Type 0) → (Good S F s → Safe S F n s r Q) → Safe S F n s r Q
  with_good n s r Q f = record { by = λ g w. let k = f g in k.by g w }

  -- ---- the place of a variable

  -- in the instance that it stands for in the active call, at its first cell
  abbrev pub Itself : ℕ → Pointer → List Call → Type 0
  Itself x q cs = (found_within x cs ≡ Some q.instance) × (cell_of q ≡ 0)

  found_from : (o p : Option ℕ) (j : ℕ) → or_else o p ≡ Some j → p ≡ None → o ≡ Some j
  found_from o p j e h = elim (or_some o p j e) [ inl k ↦ k | inr k ↦ absurd (some_not j (sym h ∙ k.1)) ]

  use_of : (v : Local) (q : Pointer) (cs : List Call) → Contains v.names (S.leaf v.variable 0) → Itself v.variable q cs → ForUse S F (Some v) q cs
  use_of v q cs h k = (k.0, subst (λ (i : ℕ). Contains v.names (S.leaf v.variable i)) (sym k.1) h)

  def_of : (v : Local) (q : Pointer) (cs : List Call) → v.parameter ≡ false → v.names ≡ S.leaf v.variable 0 ∷ [] → Itself v.variable q cs → ForDef S F (Some v) q cs
  def_of v q cs e h k = (e, k.0, subst (λ (i : ℕ). v.names ≡ S.leaf v.variable i ∷ []) (sym k.1) h)

  module _ (P : Source) (kn : Knot) (keeps : KeepsNames kn) where
    first_of : (x v j m : ℕ) (cs : List Call) → v ≡ x → found_within v cs ≡ Some j → Itself x (whole j m) cs
    first_of x v j m cs e h = (subst (λ (y : ℕ). found_within y cs ≡ Some j) e h, omega arith)

    name_place : (y : TypeOf) (v x : ℕ) → v ≡ x → found_in x F ≡ None → (n : ℕ) (s : State) → Safe S F n s (turn s (variable_place P.tables y v)) (Itself x)
    name_place y v x e h n s = safe_turn S F n s _ (Itself x) (λ t k. with_good n t _ (Itself x) (λ g.
        variable_safe S F n P.tables y v t (Itself x) (λ j found. first_of x v j (cells P.tables y) t.calls e (found_from (found_within v t.calls) (found_in v t.file) j found (subst (λ (z : ℕ). found_in z t.file ≡ None) (sym e) (ap (found_in x) g.file ∙ h))))))

    mutual
      named_place : (a : NodeShape) (x : ℕ) → variable_named a ≡ Some x → found_in x F ≡ None → (r : Taken) (i : First) (n : ℕ) (s : State) → Safe S F n s ((meaning P.tables kn a).place r i s) (Itself x)
      named_place (node p o y f) x e h r i n s = form_named p y f x e h r i n s

      form_named : (p : Pos) (y : NoteShape) (f : ExprShape) (x : ℕ) → form_names y f ≡ Some x → found_in x F ≡ None → (r : Taken) (i : First) (n : ℕ) (s : State) → Safe S F n s ((form_meaning P.tables kn p y f).place r i s) (Itself x)
      form_named p (typed k (Some v)) (leaf (name z)) x e h r i n s = name_place k v x (some_is v x e) h n s
      form_named p (typed k None) (leaf (name z)) x e h r i n s = absurd (some_not x e)
      form_named p (known k v) (leaf (name z)) x e h r i n s = absurd (some_not x e)
      form_named p bare (leaf (name z)) x e h r i n s = absurd (some_not x e)
      form_named p y (paren a) x e h r i n s = named_place a x e h r i n s
      form_named p y (leaf (number z)) x e h r i n s = absurd (some_not x e)
      form_named p y (leaf (char z)) x e h r i n s = absurd (some_not x e)
      form_named p y (leaf (str z)) x e h r i n s = absurd (some_not x e)
      form_named p y (call z args) x e h r i n s = absurd (some_not x e)
      form_named p y (prefix u a) x e h r i n s = absurd (some_not x e)
      form_named p y (size_of_type z) x e h r i n s = absurd (some_not x e)
      form_named p y (cast z a) x e h r i n s = absurd (some_not x e)
      form_named p y (suffix a u) x e h r i n s = absurd (some_not x e)
      form_named p y (two u a b) x e h r i n s = absurd (some_not x e)
      form_named p y (choose a b d) x e h r i n s = absurd (some_not x e)
      form_named p y (probe u a) x e h r i n s = absurd (some_not x e)

    -- what holds wherever the place is found
    found_at : (s : State) (r : Got Pointer) (Q : Pointer → List Call → Type 0) → ((u : State) (q : Pointer) → r ≡ Gives q u → Q q u.calls) → GoodAt S F s r Any → GoodAt S F s r Q
    found_at s (Gives q u) Q f h = (h.0, h.1, subst (Q q) h.1 (f u q refl))
    found_at s (Stops why u) Q f h = h

    found_safe : (n : ℕ) (s : State) (r : Got Pointer) (Q : Pointer → List Call → Type 0) → (s.file ≡ F → (u : State) (q : Pointer) → r ≡ Gives q u → Q q u.calls) → Safe S F n s r Any → Safe S F n s r Q
    found_safe n s r Q f h = record { by = λ g w. found_at s r Q (f g.file) (h.by g w) }

    use_itself : (a : NodeShape) (o : Option Local) → IsUse S F (variable_named a) o → (r : Taken) (i : First) (n : ℕ) (s : State) → Safe S F n s ((meaning P.tables kn a).place r i s) Any → Safe S F n s ((meaning P.tables kn a).place r i s) (MayUse S F o)
    use_itself a None h r i n s f = safe_to n s _ Any (MayUse S F None) (λ q cs k lt. tt) f
    use_itself a (Some v) h r i n s f = safe_to n s _ (Itself v.variable) (MayUse S F (Some v)) (λ q cs k lt. use_of v q cs h.1 k) (named_place a v.variable h.0.is h.0.local r i n s)

    use_found : (a : NodeShape) (o : Option Local) → IsUsedAt S F P.tables a o → (r : Taken) (i : First) (n : ℕ) (s : State) → Safe S F n s ((meaning P.tables kn a).place r i s) Any → Safe S F n s ((meaning P.tables kn a).place r i s) (MayUse S F o)
    use_found a None h r i n s f = absurd h
    use_found a (Some v) h r i n s f = found_safe n s _ (MayUse S F (Some v)) (λ e u q is lt. h.by kn keeps r i s u q e is lt) f

    use_place : (a : NodeShape) (o : Option Local) → IsUse S F (variable_named a) o ⊎ IsUsedAt S F P.tables a o → (r : Taken) (i : First) (n : ℕ) (s : State) → Safe S F n s ((meaning P.tables kn a).place r i s) Any
        → Safe S F n s ((meaning P.tables kn a).place r i s) (MayUse S F o)
    use_place a o (inl h) r i n s f = use_itself a o h r i n s f
    use_place a o (inr h) r i n s f = use_found a o h r i n s f

    def_itself : (a : NodeShape) (o : Option Local) → IsDefinition S F (variable_named a) o → (r : Taken) (i : First) (n : ℕ) (s : State) → Safe S F n s ((meaning P.tables kn a).place r i s) Any → Safe S F n s ((meaning P.tables kn a).place r i s) (MayDef S F o)
    def_itself a None h r i n s f = safe_to n s _ Any (MayDef S F None) (λ q cs k lt. tt) f
    def_itself a (Some v) h r i n s f = safe_to n s _ (Itself v.variable) (MayDef S F (Some v)) (λ q cs k lt. def_of v q cs h.1 h.2 k) (named_place a v.variable h.0.is h.0.local r i n s)

    def_found : (a : NodeShape) (o : Option Local) → IsDefinedAt S F P.tables a o → (r : Taken) (i : First) (n : ℕ) (s : State) → Safe S F n s ((meaning P.tables kn a).place r i s) Any → Safe S F n s ((meaning P.tables kn a).place r i s) (MayDef S F o)
    def_found a None h r i n s f = absurd h
    def_found a (Some v) h r i n s f = found_safe n s _ (MayDef S F (Some v)) (λ e u q is lt. let k = h.1.by kn keeps r i s u q e is lt in (h.0, k.0, k.1)) f

    def_place : (a : NodeShape) (o : Option Local) → IsDefinition S F (variable_named a) o ⊎ IsDefinedAt S F P.tables a o → (r : Taken) (i : First) (n : ℕ) (s : State) → Safe S F n s ((meaning P.tables kn a).place r i s) Any
        → Safe S F n s ((meaning P.tables kn a).place r i s) (MayDef S F o)
    def_place a o (inl h) r i n s f = def_itself a o h r i n s f
    def_place a o (inr h) r i n s f = def_found a o h r i n s f

    -- all of a structure
    use_whole : (a : NodeShape) (o : Option Local) → IsUsedWhole S F P.tables a o → (r : Taken) (i : First) (n : ℕ) (s : State) → Safe S F n s ((meaning P.tables kn a).place r i s) Any → Safe S F n s ((meaning P.tables kn a).place r i s) (MayUseAll S F o)
    use_whole a None h r i n s f = safe_to n s _ Any (MayUseAll S F None) (λ q cs k lt. tt) f
    use_whole a (Some v) h r i n s f = found_safe n s _ (MayUseAll S F (Some v)) (λ e u q is lt. h.by kn keeps r i s u q e is lt) f

    def_whole : (a : NodeShape) (o : Option Local) → IsDefinedWhole S F P.tables a o → (r : Taken) (i : First) (n : ℕ) (s : State) → Safe S F n s ((meaning P.tables kn a).place r i s) Any → Safe S F n s ((meaning P.tables kn a).place r i s) (MayDefAll S F o)
    def_whole a None h r i n s f = safe_to n s _ Any (MayDefAll S F None) (λ q cs k lt. tt) f
    def_whole a (Some v) h r i n s f = found_safe n s _ (MayDefAll S F (Some v)) (λ e u q is lt. let k = h.1.by kn keeps r i s u q e is lt in (h.0, k.0, k.1.0, k.1.1)) f

    -- where it is used, and then defined
    abbrev pub ForBoth : Option Local → Option Local → Pointer → List Call → Type 0
    ForBoth o d q cs = MayUse S F o q cs × MayDef S F d q cs

    both_at : (s : State) (r : Got Pointer) (o d : Option Local) → GoodAt S F s r (MayUse S F o) → GoodAt S F s r (MayDef S F d) → GoodAt S F s r (ForBoth o d)
    both_at s (Gives a t) o d h g = (h.0, h.1, (h.2, g.2))
    both_at s (Stops why t) o d h g = h

    both_place : (a : NodeShape) (o d : Option Local) → IsUse S F (variable_named a) o ⊎ IsUsedAt S F P.tables a o → IsDefinition S F (variable_named a) d ⊎ IsDefinedAt S F P.tables a d → (r : Taken) (i : First) (n : ℕ) (s : State) → Safe S F n s ((meaning P.tables kn a).place r i s) Any
        → Safe S F n s ((meaning P.tables kn a).place r i s) (ForBoth o d)
    both_place a o d h k r i n s f = record { by = λ g w. let x = use_place a o h r i n s f in let y = def_place a d k r i n s f in both_at s _ o d (x.by g w) (y.by g w) }

    -- ---- what a place gives as a value

    fetch_by : (p : Pos) (y : NoteShape) (f : ExprShape) (c : Around) (w : Walked) (b : Bool) → has_scalar y ≡ b → (b ≡ true → IsUse S F (form_names y f) (S.used (next_use w)) ⊎ IsUsedAt S F P.tables (node p p y f) (S.used (next_use w))) → (n : ℕ) (s : State)
        → Safe S F n s ((form_meaning P.tables kn p y f).place Read (heard c w) s) Any → Safe S F n s (then_do ((form_meaning P.tables kn p y f).place Read (heard c w) s) (fetched P.tables y [] (heard c w))) Any
    fetch_by p y f c w true e h n s g = safe_then S F n s _ _ (MayUse S F (S.used (next_use w))) Any (use_place (node p p y f) (S.used (next_use w)) (h refl) Read (heard c w) n s g) (λ q t k m.
        fetched_safe S F n P.tables y [] c w q t (λ z. subst (MayUse S F (S.used (next_use w)) q) (sym k) m))
    fetch_by p y f c w false e h n s g = safe_then S F n s _ _ Any Any g (λ q t k m. fetched_safe S F n P.tables y [] c w q t (λ z. absurd (true≢false (sym z ∙ e))))

    fetch : (p : Pos) (y : NoteShape) (f : ExprShape) (c : Around) (w : Walked) → (has_scalar y ≡ true → IsUse S F (form_names y f) (S.used (next_use w)) ⊎ IsUsedAt S F P.tables (node p p y f) (S.used (next_use w))) → (n : ℕ) (s : State)
        → Safe S F n s ((form_meaning P.tables kn p y f).place Read (heard c w) s) Any → Safe S F n s (then_do ((form_meaning P.tables kn p y f).place Read (heard c w) s) (fetched P.tables y [] (heard c w))) Any
    fetch p y f c w h n s g = fetch_by p y f c w (has_scalar y) refl h n s g

    -- ---- parts of operators

    -- an expression as a value, and as a place that is taken so
    abbrev pub Values : Around → NodeShape → Walked → Type 0
    Values c a w = (n : ℕ) (s : State) → Safe S F n s ((meaning P.tables kn a).value (heard c w) s) Any

    abbrev pub Places : Around → Taken → NodeShape → Walked → Type 0
    Places c r a w = (n : ℕ) (s : State) → Safe S F n s ((meaning P.tables kn a).place r (heard c w) s) Any

    wanted : (c : Around) (a : NodeShape) (w : Walked) → Values c a w → (n : ℕ) (s : State) → Safe S F n s (needed ((meaning P.tables kn a).value (heard c w) s)) Any
    wanted c a w va n s = safe_needed S F n s _ (va n s)

    noted_safe : (n d : ℕ) (b x : Bool) (s : State) → Safe S F n s (Gives x (if b then s else did (tells (event.Test d (outcome x) (activation s))) s)) Any
    noted_safe n d true x s = safe_gives S F n s x Any tt
    noted_safe n d false x s = safe_did S F n (tells (event.Test d (outcome x) (activation s))) s _ Any (test_quiet S d (outcome x) (activation s)) (λ g. tt) tt (safe_gives S F n (did (tells (event.Test d (outcome x) (activation s))) s) x Any tt)

    -- at a test position
    abbrev pub Tests : Around → NodeShape → Walked → Type 0
    Tests c (node p o y f) w = (n : ℕ) (s : State) → Safe S F n s ((form_meaning P.tables kn p y f).value (heard (inside_test c f w) (with_test p f w)) s) Any

    pub tested_safe : (c : Around) (a : NodeShape) (w : Walked) → Tests c a w → (n : ℕ) (s : State) → Safe S F n s (tested a (meaning P.tables kn a) (heard c w) s) Any
    tested_safe c (node p o y f) w va n s = safe_then S F n s _ _ Any Any (safe_needed S F n s _ (va n s)) (λ v t e k. noted_safe n (next_decision w) (is_logical_form f) (is_true v) t)

    -- an expression that is a block
    abbrev pub Arms : Around → NodeShape → Walked → Type 0
    Arms c a w = (n : ℕ) (s : State) → Safe S F n s ((meaning P.tables kn a).value (heard c (with_block (pos_of a) w)) s) Any

    pub arm_safe : (c : Around) (a : NodeShape) (w : Walked) → Arms c a w → (n : ℕ) (s : State) → Safe S F n s (arm a (heard c w) s (meaning P.tables kn a).value) Any
    arm_safe c a w va n s = block_safe S F n true c w s _ Any (va n (noted_block true (heard c w) s))

    last_safe : (c : Around) (a : NodeShape) (w : Walked) → Tests c a (with_block (pos_of a) w) → (n : ℕ) (s : State) → Safe S F n s (last_test a (meaning P.tables kn a) (heard c w) s) Any
    last_safe c a w va n s = block_safe S F n true c w s _ Any
        (safe_then S F n (noted_block true (heard c w) s) _ _ Any Any (tested_safe c a (with_block (pos_of a) w) va n (noted_block true (heard c w) s)) (λ x t e k. safe_gives S F n t _ Any tt))

    -- ---- constants and names

    number_safe : (n : ℕ) (x : Option Number) (s : State) → Safe S F n s (number_value x s) Any
    number_safe n None s = safe_stops S F n _ s Any
    number_safe n (Some x) s = safe_gives S F n s _ Any tt

    literal_safe : (n : ℕ) (y : NoteShape) (x : Text) (s : State) → Safe S F n s (literal_value y x s) Any
    literal_safe n (typed k (Some j)) x s = safe_if S F n (nat_lt (length x) room) s (gives (At (first_cell j (length x + 1))) s) (untyped s) Any (safe_gives S F n s _ Any tt) (safe_stops S F n _ s Any)
    literal_safe n (typed k None) x s = safe_stops S F n _ s Any
    literal_safe n (known k v) x s = safe_stops S F n _ s Any
    literal_safe n bare x s = safe_stops S F n _ s Any

    noted_value_safe : (n : ℕ) (y : NoteShape) (s : State) → Safe S F n s (noted_value y s) Any
    noted_value_safe n (known k v) s = safe_gives S F n s _ Any tt
    noted_value_safe n (typed k j) s = safe_stops S F n _ s Any
    noted_value_safe n bare s = safe_stops S F n _ s Any

    name_place_any : (n : ℕ) (k : TypeOf) (v : ℕ) (s : State) → Safe S F n s (turn s (variable_place P.tables k v)) Any
    name_place_any n k v s = safe_turn S F n s _ Any (λ t e. variable_safe S F n P.tables k v t Any (λ j h. tt))

    name_safe : (p : Pos) (y : NoteShape) (x : Text) (c : Around) (w : Walked) → IsReadSite S F P.tables Read p y (leaf (name x)) w → (n : ℕ) (s : State) → Safe S F n s ((form_meaning P.tables kn p y (leaf (name x))).value (heard c w) s) Any
    name_safe p (typed k (Some v)) x c w g n s = fetch p (typed k (Some v)) (leaf (name x)) c w g n s (name_place_any n k v s)
    name_safe p (typed k None) x c w g n s = safe_turn S F n s _ Any (λ t e. safe_stops S F n _ t Any)
    name_safe p (known k v) x c w g n s = safe_turn S F n s _ Any (λ t e. safe_gives S F n t _ Any tt)
    name_safe p bare x c w g n s = safe_turn S F n s _ Any (λ t e. safe_stops S F n _ t Any)

    name_places : (p : Pos) (y : NoteShape) (x : Text) (r : Taken) (i : First) (n : ℕ) (s : State) → Safe S F n s ((form_meaning P.tables kn p y (leaf (name x))).place r i s) Any
    name_places p (typed k (Some v)) x r i n s = name_place_any n k v s
    name_places p (typed k None) x r i n s = safe_stops S F n _ s Any
    name_places p (known k v) x r i n s = safe_stops S F n _ s Any
    name_places p bare x r i n s = safe_stops S F n _ s Any

    -- ---- calls

    -- what is behind a call
    abbrev pub Calling : Type 0
    Calling = (n f : ℕ) (vs : List Value) (s : State) → Safe S F n s (kn.call f vs s) Any

    row_safe : (n f : ℕ) (r : Option FunctionShape) (vs : List Value) (s : State) → Calling → Safe S F n s (called_row kn f r vs s) Any
    row_safe n f None vs s calling = safe_stops S F n _ s Any
    row_safe n f (Some r) vs s calling = safe_if S F n (is_some r.defined) s (kn.call f vs s) (built_in r.name vs s) Any (calling n f vs s) (built_in_safe S F n r.name vs s)

    called_safe : (n : ℕ) (y : NoteShape) (vs : List Value) (s : State) → Calling → Safe S F n s (called P.tables kn y vs s) Any
    called_safe n (typed k (Some f)) vs s calling = row_safe n f (row P.tables.functions f) vs s calling
    called_safe n (typed k None) vs s calling = safe_stops S F n _ s Any
    called_safe n (known k v) vs s calling = safe_stops S F n _ s Any
    called_safe n bare vs s calling = safe_stops S F n _ s Any

    -- ---- forms of a place

    deref_safe : (r : Taken) (p : Pos) (y : NoteShape) (a : NodeShape) (c : Around) (w : Walked) → Values c a (with_site c r p y (prefix (unary front.Deref) a) w) → (n : ℕ) (s : State) → Safe S F n s ((form_meaning P.tables kn p y (prefix (unary front.Deref) a)).place r (heard c w) s) Any
    deref_safe r p y a c w va n s = safe_turn S F n s _ Any (λ s e.
        safe_then S F n s _ _ Any Any (wanted c a (with_site c r p y (prefix (unary front.Deref) a) w) va n s) (λ v s e k. safe_settled S F n (target v) s Any (λ q e. tt)))

    index_safe : (r : Taken) (p : Pos) (y : NoteShape) (a b : NodeShape) (c : Around) (w : Walked)
        → (let j = with_site c r p y (suffix a (index b)) w in Values c a j → Values c b (walk_node c Read a j) → (n : ℕ) (s : State) → Safe S F n s ((form_meaning P.tables kn p y (suffix a (index b))).place r (heard c w) s) Any)
    index_safe r p y a b c w va vb n s =
        let j = with_site c r p y (suffix a (index b)) w in
        safe_turn S F n s _ Any (λ s e.
        safe_then S F n s _ _ Any Any (wanted c a j va n s) (λ v s e k.
        safe_then S F n s _ _ Any Any (wanted c b (walk_node c Read a j) vb n s) (λ u s e k.
        safe_then S F n s _ _ Any Any (safe_settled S F n (element_pointer (operand a) (operand b) v u) s Any (λ q e. tt)) (λ v s e k. safe_settled S F n (target v) s Any (λ q e. tt)))))

    dot_safe : (r : Taken) (p q : Pos) (y : NoteShape) (a : NodeShape) (x : Text) (c : Around) (w : Walked) → Places c Read a (with_site c r p y (suffix a (field dot x q)) w) → (n : ℕ) (s : State) → Safe S F n s ((form_meaning P.tables kn p y (suffix a (field dot x q))).place r (heard c w) s) Any
    dot_safe r p q y a x c w pa n s = safe_turn S F n s _ Any (λ s e. safe_then S F n s _ _ Any Any (pa n s) (λ z s e k. field_safe S F n P.tables x (type_at a) z s))

    arrow_safe : (r : Taken) (p q : Pos) (y : NoteShape) (a : NodeShape) (x : Text) (c : Around) (w : Walked) → Values c a (with_site c r p y (suffix a (field arrow x q)) w) → (n : ℕ) (s : State) → Safe S F n s ((form_meaning P.tables kn p y (suffix a (field arrow x q))).place r (heard c w) s) Any
    arrow_safe r p q y a x c w va n s = safe_turn S F n s _ Any (λ s e.
        safe_then S F n s _ _ Any Any (wanted c a (with_site c r p y (suffix a (field arrow x q)) w) va n s) (λ v s e k.
        safe_then S F n s _ _ Any Any (safe_settled S F n (target v) s Any (λ q e. tt)) (λ z s e k. field_safe S F n P.tables x (pointed (operand a)) z s)))

    -- ---- operators

    unary_safe : (u : UnaryOp) (y : TypeOf) (a : NodeShape) (c : Around) (w : Walked) → Values c a w → (n : ℕ) (s : State) → Safe S F n s (turn s (λ s. then_do (needed ((meaning P.tables kn a).value (heard c w) s)) (λ v s. then_do (settled (of_one u y v) s) gives))) Any
    unary_safe u y a c w va n s = safe_turn S F n s _ Any (λ s e.
        safe_then S F n s _ _ Any Any (wanted c a w va n s) (λ v s e k. safe_then S F n s _ _ Any Any (safe_settled S F n (of_one u y v) s Any (λ q e. tt)) (λ v s e k. safe_gives S F n s _ Any tt)))

    cast_safe : (n : ℕ) (y : TypeOf) (s : State) (r : Got (Option Value)) → Safe S F n s r Any → Safe S F n s (cast_value y r) Any
    cast_safe n nothing s r h = safe_then S F n s r _ Any Any h (λ v s e k. safe_gives S F n s _ Any tt)
    cast_safe n (int y) s r h = safe_then S F n s _ _ Any Any (safe_needed S F n s r h) (λ v s e k. safe_gives S F n s _ Any tt)
    cast_safe n (pointer y) s r h = safe_then S F n s _ _ Any Any (safe_needed S F n s r h) (λ v s e k. safe_gives S F n s _ Any tt)
    cast_safe n (array y m) s r h = safe_then S F n s _ _ Any Any (safe_needed S F n s r h) (λ v s e k. safe_gives S F n s _ Any tt)
    cast_safe n (structure m) s r h = safe_then S F n s _ _ Any Any (safe_needed S F n s r h) (λ v s e k. safe_gives S F n s _ Any tt)

    written_safe : (n : ℕ) (y : TypeOf) (xs : List Text) (c : Around) (w : Walked) (q : Pointer) (v : Value) (s : State) → MayDef S F (S.defined (next_def w)) q s.calls → Safe S F n s (written y xs (heard c w) q v s) Any
    written_safe n y xs c w q v s k = safe_then S F n s _ _ Any Any (stored_safe S F n xs c w q (converted y v) s k) (λ v s e k. safe_gives S F n s _ Any tt)

    stepped_safe : (n : ℕ) (f : Bool) (x : Value) (v : Option Value) (s : State) → Safe S F n s (stepped_from f x v s) Any
    stepped_safe n true x v s = safe_gives S F n s _ Any tt
    stepped_safe n false x v s = safe_gives S F n s _ Any tt

    step_safe : (f : Bool) (u : Step) (c : Around) (a : NodeShape) (w : Walked) → Places c Changed a w → IsUsedSite S F P.tables a w → IsDefinedSite S F P.tables a w → (n : ℕ) (s : State) → Safe S F n s (turn s (step_value f u a (meaning P.tables kn a) (heard c w))) Any
    step_safe f u c a w pa hu hd n s =
        let o = S.used (next_use w) in
        let d = S.defined (next_def w) in
        safe_turn S F n s _ Any (λ s e.
        safe_then S F n s _ _ (ForBoth o d) Any (both_place a o d hu hd Changed (heard c w) n s (pa n s)) (λ q t e k.
        safe_then S F n t _ _ Any Any (loaded_safe S F n (marks used a) c w q t (subst (MayUse S F o q) (sym e) k.0)) (λ x v h z.
        safe_then S F n v _ _ Any Any (safe_settled S F n (stepped_by_one u (operand a) x) v Any (λ q e. tt)) (λ y r g z.
        safe_then S F n r _ _ Any Any (written_safe n (type_at a) (marks def a) c w q y r (subst (MayDef S F d q) (sym (g ∙ h ∙ e)) k.1)) (λ y r g z. stepped_safe n f x y r)))))

    -- a structure's place that is copied, or a value that is written
    copy_assigned : (c : Around) (a b : NodeShape) (w : Walked) → marks def a ≡ [] → marks used b ≡ [] → Places c Copied b (walk_node c Written a w) → IsUsedWhole S F P.tables b (S.used (next_use (walk_node c Written a w))) → (n : ℕ) (q : Pointer) (s : State)
        → MayDefAll S F (S.defined (next_def w)) q s.calls → Safe S F n s (assigned true (type_at a) (marks def a) (marks used b) (meaning P.tables kn b) (heard c w) (heard c (walk_node c Written a w)) q s) Any
    copy_assigned c a b w ea eb pb hu n q s k =
        let v = walk_node c Written a w in
        subst (λ (ds : List Text). Safe S F n s (assigned true (type_at a) ds (marks used b) (meaning P.tables kn b) (heard c w) (heard c v) q s) Any) (sym ea) (
        subst (λ (us : List Text). Safe S F n s (assigned true (type_at a) [] us (meaning P.tables kn b) (heard c w) (heard c v) q s) Any) (sym eb) (
        safe_then S F n s _ _ (MayUseAll S F (S.used (next_use v))) Any (use_whole b (S.used (next_use v)) hu Copied (heard c v) n s (pb n s)) (λ r t e z.
        copied_safe S F n c w v q r t (subst (MayUseAll S F (S.used (next_use v)) r) (sym e) z) (subst (MayDefAll S F (S.defined (next_def w)) q) (sym e) k))))

    value_assigned : (c : Around) (a b : NodeShape) (w : Walked) → Values c b (walk_node c Written a w) → (n : ℕ) (q : Pointer) (s : State)
        → MayDef S F (S.defined (next_def w)) q s.calls → Safe S F n s (assigned false (type_at a) (marks def a) (marks used b) (meaning P.tables kn b) (heard c w) (heard c (walk_node c Written a w)) q s) Any
    value_assigned c a b w vb n q s k =
        safe_then S F n s _ _ Any Any (wanted c b (walk_node c Written a w) vb n s) (λ v r h z. written_safe n (type_at a) (marks def a) c w q v r (subst (MayDef S F (S.defined (next_def w)) q) (sym h) k))

    assign_by : (z : Bool) (c : Around) (a b : NodeShape) (w : Walked) → Places c Written a w → marks def a ≡ [] → marks used b ≡ [] → (z ≡ false → IsDefinedSite S F P.tables a w) → Places c (if z then Copied else Read) b (walk_node c Written a w) → (z ≡ false → Values c b (walk_node c Written a w))
        → (z ≡ true → IsCopied S F P.tables a b w (walk_node c Written a w)) → (n : ℕ) (s : State)
        → Safe S F n s (then_do ((meaning P.tables kn a).place Written (heard c w) s) (assigned z (type_at a) (marks def a) (marks used b) (meaning P.tables kn b) (heard c w) (heard c (walk_node c Written a w)))) Any
    assign_by true c a b w pa ea eb hd pb vb hu n s =
        let d = S.defined (next_def w) in
        let h = hu refl in
        safe_then S F n s _ _ (MayDefAll S F d) Any (def_whole a d h.0 Written (heard c w) n s (pa n s)) (λ q t e k. copy_assigned c a b w ea eb pb h.1 n q t (subst (MayDefAll S F d q) (sym e) k))
    assign_by false c a b w pa ea eb hd pb vb hu n s =
        let d = S.defined (next_def w) in
        safe_then S F n s _ _ (MayDef S F d) Any (def_place a d (hd refl) Written (heard c w) n s (pa n s)) (λ q t e k. value_assigned c a b w (vb refl) n q t (subst (MayDef S F d q) (sym e) k))

    assign_safe : (c : Around) (p : Pos) (y : NoteShape) (a b : NodeShape) (w : Walked) → Places c Written a w → marks def a ≡ [] → marks used b ≡ [] → (holds_structure a ≡ false → IsDefinedSite S F P.tables a w) → Places c (right_taken None a) b (walk_node c Written a w)
        → (holds_structure a ≡ false → Values c b (walk_node c Written a w)) → (holds_structure a ≡ true → IsCopied S F P.tables a b w (walk_node c Written a w)) → (n : ℕ) (s : State) → Safe S F n s ((form_meaning P.tables kn p y (two (assign None) a b)).value (heard c w) s) Any
    assign_safe c p y a b w pa ea eb hd pb vb hu n s = safe_turn S F n s _ Any (λ s e. assign_by (holds_structure a) c a b w pa ea eb hd pb vb hu n s)

    change_safe : (u : BinaryOp) (c : Around) (p : Pos) (y : NoteShape) (a b : NodeShape) (w : Walked) → Places c Changed a w → IsUsedSite S F P.tables a w → IsDefinedSite S F P.tables a w → Values c b (walk_node c Changed a w) → (n : ℕ) (s : State)
        → Safe S F n s ((form_meaning P.tables kn p y (two (assign (Some u)) a b)).value (heard c w) s) Any
    change_safe u c p y a b w pa hu hd vb n s =
        let o = S.used (next_use w) in
        let d = S.defined (next_def w) in
        safe_turn S F n s _ Any (λ s e.
        safe_then S F n s _ _ (ForBoth o d) Any (both_place a o d hu hd Changed (heard c w) n s (pa n s)) (λ q t e k.
        safe_then S F n t _ _ Any Any (loaded_safe S F n (marks used a) c w q t (subst (MayUse S F o q) (sym e) k.0)) (λ x v h z.
        safe_then S F n v _ _ Any Any (wanted c b (walk_node c Changed a w) vb n v) (λ x2 r g z.
        safe_then S F n r _ _ Any Any (safe_settled S F n (operated u (operand a) (operand b) x x2) r Any (λ q e. tt)) (λ x3 m l z.
        written_safe n (type_at a) (marks def a) c w q x3 m (subst (MayDef S F d q) (sym (l ∙ g ∙ h ∙ e)) k.1))))))

    plain_safe : (u : BinaryOp) (c : Around) (p : Pos) (y : NoteShape) (a b : NodeShape) (w : Walked) → Values c a w → Values c b (walk_node c Read a w) → (n : ℕ) (s : State) → Safe S F n s ((form_meaning P.tables kn p y (two (plain u) a b)).value (heard c w) s) Any
    plain_safe u c p y a b w va vb n s = safe_turn S F n s _ Any (λ s e.
        safe_then S F n s _ _ Any Any (wanted c a w va n s) (λ v s e k.
        safe_then S F n s _ _ Any Any (wanted c b (walk_node c Read a w) vb n s) (λ x s e k.
        safe_then S F n s _ _ Any Any (safe_settled S F n (operated u (operand a) (operand b) v x) s Any (λ q e. tt)) (λ v s e k. safe_gives S F n s _ Any tt))))

    and_safe : (c : Around) (p : Pos) (y : NoteShape) (a b : NodeShape) (w : Walked) → Tests c a w → Tests c b (with_block (pos_of b) (walk_test c a w)) → (n : ℕ) (s : State) → Safe S F n s ((form_meaning P.tables kn p y (two and a b)).value (heard c w) s) Any
    and_safe c p y a b w va vb n s = safe_turn S F n s _ Any (λ s e.
        safe_then S F n s _ _ Any Any (tested_safe c a w va n s) (λ x s e k. safe_if S F n x s _ _ Any (last_safe c b (walk_test c a w) vb n s) (safe_gives S F n s _ Any tt)))

    or_safe : (c : Around) (p : Pos) (y : NoteShape) (a b : NodeShape) (w : Walked) → Tests c a w → Tests c b (with_block (pos_of b) (walk_test c a w)) → (n : ℕ) (s : State) → Safe S F n s ((form_meaning P.tables kn p y (two or a b)).value (heard c w) s) Any
    or_safe c p y a b w va vb n s = safe_turn S F n s _ Any (λ s e.
        safe_then S F n s _ _ Any Any (tested_safe c a w va n s) (λ x s e k. safe_if S F n x s _ _ Any (safe_gives S F n s _ Any tt) (last_safe c b (walk_test c a w) vb n s)))

    choose_safe : (c : Around) (p : Pos) (y : NoteShape) (a b d : NodeShape) (w : Walked) → Tests c a w → Arms c b (walk_test c a w) → Arms c d (walk_arm c b (walk_test c a w)) → (n : ℕ) (s : State) → Safe S F n s ((form_meaning P.tables kn p y (choose a b d)).value (heard c w) s) Any
    choose_safe c p y a b d w va vb vd n s = safe_turn S F n s _ Any (λ s e.
        safe_then S F n s _ _ Any Any (tested_safe c a w va n s) (λ x s e k.
        safe_then S F n s _ _ Any Any (safe_if S F n x s _ _ Any (arm_safe c b (walk_test c a w) vb n s) (arm_safe c d (walk_arm c b (walk_test c a w)) vd n s)) (λ v s e k. safe_gives S F n s _ Any tt)))

    -- ---- expressions

    module _ (calling : Calling) where
      mutual
        pub value_safe : (c : Around) (a : NodeShape) (w : Walked) → IsSited S F P.tables c Read a w → (n : ℕ) (s : State) → Safe S F n s ((meaning P.tables kn a).value (heard c w) s) Any
        value_safe c (node p o y f) w g n s = form_safe c p y f w g n s

        pub test_safe : (c : Around) (a : NodeShape) (w : Walked) → IsTestSited S F P.tables c a w → Tests c a w
        test_safe c (node p o y f) w g = λ n s. form_safe (inside_test c f w) p y f (with_test p f w) g n s

        pub block_arm_safe : (c : Around) (a : NodeShape) (w : Walked) → IsArmSited S F P.tables c a w → Arms c a w
        block_arm_safe c (node p o y f) w g = λ n s. form_safe c p y f (with_block p w) g n s

        form_safe : (c : Around) (p : Pos) (y : NoteShape) (f : ExprShape) (w : Walked) → IsFormSited S F P.tables c Read p y f w → (n : ℕ) (s : State) → Safe S F n s ((form_meaning P.tables kn p y f).value (heard c w) s) Any
        form_safe c p y (leaf (number x)) w g n s = safe_turn S F n s _ Any (λ s e. number_safe n (number_of x) s)
        form_safe c p y (leaf (char x)) w g n s = safe_turn S F n s _ Any (λ s e. safe_gives S F n s _ Any tt)
        form_safe c p y (leaf (str x)) w g n s = safe_turn S F n s _ Any (λ s e. literal_safe n y x s)
        form_safe c p y (leaf (name x)) w g n s = name_safe p y x c w g n s
        form_safe c p y (paren a) w g n s = value_safe c a w g n s
        form_safe c p y (call x args) w g n s = safe_turn S F n s _ Any (λ s e.
            safe_then S F n s _ _ Any Any (arguments_safe c args w g (params_of P.tables y) n s) (λ vs s e k. called_safe n y vs s calling))
        form_safe c p y (prefix (unary front.AddressOf) a) w g n s = safe_turn S F n s _ Any (λ s e.
            safe_then S F n s _ _ Any Any (place_safe c Addressed a w g.1 n s) (λ q s e k. safe_gives S F n s _ Any tt))
        form_safe c p y (prefix (unary front.Deref) a) w g n s = fetch p y (prefix (unary front.Deref) a) c w g.0 n s (deref_safe Read p y a c w (value_safe c a _ g.1) n s)
        form_safe c p y (prefix (unary front.Plus) a) w g n s = unary_safe front.Plus (operand a) a c w (value_safe c a w g.1) n s
        form_safe c p y (prefix (unary front.Minus) a) w g n s = unary_safe front.Minus (operand a) a c w (value_safe c a w g.1) n s
        form_safe c p y (prefix (unary front.Flip) a) w g n s = unary_safe front.Flip (operand a) a c w (value_safe c a w g.1) n s
        form_safe c p y (prefix (unary front.Not) a) w g n s = unary_safe front.Not (operand a) a c w (value_safe c a w g.1) n s
        form_safe c p y (prefix (before u) a) w g n s = step_safe true u c a w (place_safe c Changed a w g.0) g.1 g.2 n s
        form_safe c p y (prefix size_of a) w g n s = safe_turn S F n s _ Any (λ s e. noted_value_safe n y s)
        form_safe c p y (size_of_type z) w g n s = safe_turn S F n s _ Any (λ s e. noted_value_safe n y s)
        form_safe c p y (cast z a) w g n s = safe_turn S F n s _ Any (λ s e. cast_safe n (kind_noted y) s _ (value_safe c a w g n s))
        form_safe c p y (suffix a (index b)) w g n s = fetch p y (suffix a (index b)) c w g.0 n s (index_safe Read p y a b c w (value_safe c a _ g.1) (value_safe c b _ g.2) n s)
        form_safe c p y (suffix a (field dot x q)) w g n s = fetch p y (suffix a (field dot x q)) c w g.0 n s (dot_safe Read p q y a x c w (place_safe c Read a _ g.1) n s)
        form_safe c p y (suffix a (field arrow x q)) w g n s = fetch p y (suffix a (field arrow x q)) c w g.0 n s (arrow_safe Read p q y a x c w (value_safe c a _ g.1) n s)
        form_safe c p y (suffix a (behind u)) w g n s = step_safe false u c a w (place_safe c Changed a w g.0) g.1 g.2 n s
        form_safe c p y (two (assign None) a b) w g n s =
            let v = walk_node c Written a w in
            assign_safe c p y a b w (place_safe c Written a w g.0) (unmarked S F P.tables def c Written a w g.0) (unmarked S F P.tables used c (right_taken None a) b v g.2) g.1 (place_safe c (right_taken None a) b v g.2) (λ e. value_safe c b v (subst (λ z. IsSited S F P.tables c (if z then Copied else Read) b v) e g.2)) g.3 n s
        form_safe c p y (two (assign (Some u)) a b) w g n s = change_safe u c p y a b w (place_safe c Changed a w g.0) g.1 g.2 (value_safe c b _ g.3) n s
        form_safe c p y (two (plain u) a b) w g n s = plain_safe u c p y a b w (value_safe c a w g.0) (value_safe c b _ g.1) n s
        form_safe c p y (two and a b) w g n s = and_safe c p y a b w (test_safe c a w g.0) (test_safe c b _ g.1) n s
        form_safe c p y (two or a b) w g n s = or_safe c p y a b w (test_safe c a w g.0) (test_safe c b _ g.1) n s
        form_safe c p y (two comma a b) w g n s = safe_turn S F n s _ Any (λ s e.
            safe_then S F n s _ _ Any Any (value_safe c a w g.0 n s) (λ v s e k. value_safe c b (walk_node c Read a w) g.1 n s))
        form_safe c p y (choose a b d) w g n s = choose_safe c p y a b d w (test_safe c a w g.0) (block_arm_safe c b _ g.1) (block_arm_safe c d _ g.2) n s
        form_safe c p y (probe u a) w g n s = absurd g

        pub place_safe : (c : Around) (r : Taken) (a : NodeShape) (w : Walked) → IsSited S F P.tables c r a w → (n : ℕ) (s : State) → Safe S F n s ((meaning P.tables kn a).place r (heard c w) s) Any
        place_safe c r (node p o y f) w g n s = form_place c r p y f w g n s

        form_place : (c : Around) (r : Taken) (p : Pos) (y : NoteShape) (f : ExprShape) (w : Walked) → IsFormSited S F P.tables c r p y f w → (n : ℕ) (s : State) → Safe S F n s ((form_meaning P.tables kn p y f).place r (heard c w) s) Any
        form_place c r p y (leaf (name x)) w g n s = name_places p y x r (heard c w) n s
        form_place c r p y (paren a) w g n s = place_safe c r a w g n s
        form_place c r p y (prefix (unary front.Deref) a) w g n s = deref_safe r p y a c w (value_safe c a _ g.1) n s
        form_place c r p y (suffix a (index b)) w g n s = index_safe r p y a b c w (value_safe c a _ g.1) (value_safe c b _ g.2) n s
        form_place c r p y (suffix a (field dot x q)) w g n s = dot_safe r p q y a x c w (place_safe c Read a _ g.1) n s
        form_place c r p y (suffix a (field arrow x q)) w g n s = arrow_safe r p q y a x c w (value_safe c a _ g.1) n s
        form_place c r p y (two comma a b) w g n s = safe_turn S F n s _ Any (λ s e.
            safe_then S F n s _ _ Any Any (value_safe c a w g.0 n s) (λ v s e k. place_safe c Read b (walk_node c Read a w) g.1 n s))
        form_place c r p y (leaf (number x)) w g n s = safe_stops S F n _ s Any
        form_place c r p y (leaf (char x)) w g n s = safe_stops S F n _ s Any
        form_place c r p y (leaf (str x)) w g n s = safe_stops S F n _ s Any
        form_place c r p y (call x args) w g n s = safe_stops S F n _ s Any
        form_place c r p y (prefix (unary front.AddressOf) a) w g n s = safe_stops S F n _ s Any
        form_place c r p y (prefix (unary front.Plus) a) w g n s = safe_stops S F n _ s Any
        form_place c r p y (prefix (unary front.Minus) a) w g n s = safe_stops S F n _ s Any
        form_place c r p y (prefix (unary front.Flip) a) w g n s = safe_stops S F n _ s Any
        form_place c r p y (prefix (unary front.Not) a) w g n s = safe_stops S F n _ s Any
        form_place c r p y (prefix (before u) a) w g n s = safe_stops S F n _ s Any
        form_place c r p y (prefix size_of a) w g n s = safe_stops S F n _ s Any
        form_place c r p y (size_of_type z) w g n s = safe_stops S F n _ s Any
        form_place c r p y (cast z a) w g n s = safe_stops S F n _ s Any
        form_place c r p y (suffix a (behind u)) w g n s = safe_stops S F n _ s Any
        form_place c r p y (two (plain u) a b) w g n s = safe_stops S F n _ s Any
        form_place c r p y (two and a b) w g n s = safe_stops S F n _ s Any
        form_place c r p y (two or a b) w g n s = safe_stops S F n _ s Any
        form_place c r p y (two (assign None) a b) w g n s = safe_stops S F n _ s Any
        form_place c r p y (two (assign (Some u)) a b) w g n s = safe_stops S F n _ s Any
        form_place c r p y (choose a b d) w g n s = safe_stops S F n _ s Any
        form_place c r p y (probe u a) w g n s = absurd g

        arguments_safe : (c : Around) (args : NodeShapes) (w : Walked) → AreSited S F P.tables c args w → (ts : List TypeOf) (n : ℕ) (s : State) → Safe S F n s (arguments P.tables kn args ts (heard c w) s) Any
        arguments_safe c no_nodes w g ts n s = safe_gives S F n s _ Any tt
        arguments_safe c (more_nodes a rest) w g ts n s =
            safe_then S F n s _ _ Any Any (wanted c a w (value_safe c a w g.0) n s) (λ v s e k.
            safe_then S F n s _ _ Any Any (arguments_safe c rest (walk_node c Read a w) g.1 (drop 1 ts) n s) (λ vs s e k. safe_gives S F n s _ Any tt))
