-- What calls keep: from the parameters to the return; and the knot, as often as it is tied.
use Rattle.std.proofs.Common.{ℕ, zero, suc, ◌+◌, ◌≤◌, List, [], ◌∷◌, ◌≡◌, refl, sym, subst, ap, ◌∙◌, length, map, arith, Option, Some, None, Result, Ok, Err, Bool, true, false}
use Rattle.std.specs.Prelude.{nat_eq, nat_lt, nat_le, ◌&&◌, replicate, Contains, if◌then◌else◌}
use Rattle.std.proofs.lemmas.Bool.{ne_eqb}
use Rattle.c_base.specs.declared.place.Pos.{Pos}
use Rattle.c_events.specs.declared.events.Cell.{Cell}
use Rattle.c_events.specs.declared.events.Event.TheVariants as event
use Rattle.c_syntax.specs.declared.tree.Named.{Named}
use Rattle.c_syntax.specs.declared.tree.ProbeMark.{ProbeMark}
use Rattle.c_syntax.specs.Shape.{TypeOf, DeclShape, decl, DeclShapes, no_decls, more_decls, declarator, no_declarators, more_declarators, DeclFormShape, arrays, function, empty, void, params, CompoundShape, braces, ExternalShape, defined, declared}
use Rattle.c_store.specs.declared.value.Value.{Value}
use Rattle.c_store.specs.declared.value.Fault.{Fault}
use Rattle.c_store.specs.Cells.{Cells, write_of, cell_count}
use Rattle.c_tables.specs.Rows.{row, text_of}
use Rattle.c_walk.specs.declared.around.Around.{Around}
use Rattle.c_walk.specs.Walked.{Walked, with_block}
use Rattle.c_walk.specs.Counted.{next_block, next_def}
use Rattle.c_walk.specs.Stating.{with_variable}
use Rattle.c_walk.specs.Units as units
use Rattle.c_walk.specs.Units.{function_of, in_function, define_decl, define_decls, define_parameters, walk_external}
use Rattle.c_meaning.specs.declared.end.Flow.{Flow}
use Rattle.c_meaning.specs.declared.end.Flow.TheVariants.{Next, Break, Continue, Return}
use Rattle.c_meaning.specs.declared.end.Stop.TheVariants as stop
use Rattle.c_meaning.specs.State.{tells, begins, Bound, State, activation, did, in_call, tail_of, top_within}
use Rattle.c_meaning.specs.Results.{Got, Gives, Stops, then_do, settled}
use Rattle.c_meaning.specs.Layout.{cells, variable_kind}
use Rattle.c_meaning.specs.Operators.{converted}
use Rattle.c_meaning.specs.Firsts.{heard, cell_at, noted_block, noted_def}
use Rattle.c_meaning.specs.Places.{whole, logs, log_def}
use Rattle.c_meaning.specs.Knot.{Knot}
use Rattle.c_meaning.specs.Expressions.{log_block}
use Rattle.c_meaning.specs.Declarations.{make, name_marks, bind, scalar_written}
use Rattle.c_meaning.specs.Statements.{ended_all}
use Rattle.c_meaning.specs.Calls.{Source, Routine, given_variable, given, given_all, activated, past_signature, body_flow, left, result_in, returned, called_found, routine_in, knot}
use Rattle.c_meaning.specs.Runs.{audible}
use Rattle.flow_calls.specs.Placing.{Local, Sites, given_in, given_number, IsNewest, IsDefined, DefinedAt}
use Rattle.flow_calls.proofs.Lists.{same_eq, are_equal}
use Rattle.flow_places.specs.Declared.{IsParameter, IsParameterOf, AreSitedLines, IsSitedLine, IsSitedSignature, IsSitedFunction, AreSitedExternals}
use Rattle.flow_places.proofs.Bound.{Below, made_below, made_tail}
use Rattle.flow_places.proofs.Finished.{HasOne, IsOne}
use Rattle.flow_places.proofs.Good.{begins_quiet, block_quiet, Good, Still, good_act, good_bound, with_instance, good_still, good_closed, good_left, good_activated}
use Rattle.flow_places.proofs.Safe.{Any, GoodAt, Safe, safe_gives, safe_stops}
use Rattle.flow_places.proofs.Parts.{SameCount, write_count}
use Rattle.flow_names.specs.Keeping.{KeepsNames}
use Rattle.flow_names.proofs.Names.{knots_keep_names}
use Rattle.flow_places.proofs.Nodes.{Calling}
use Rattle.flow_places.proofs.Declarations.{logs_then, TopAt, Opens, opens_then, opens_safe, opens_stops, opens_turn, opens_logs, opens_did, opens_present, fits_opens, grown}
use Rattle.flow_places.proofs.Flows.{ended_count, Turning, opened_to, compound_opens, turn_safe}

module _ (S : Sites) where
  -- ---- a parameter's definition makes its instance

  param_made : (x : ℕ) (c : Cell) (o : Option Local) → IsParameter S x o → given_in x c o ≡ Some c.instance
  param_made x c None h = absurd h
  param_made x c (Some v) h = ap (λ b. if b && nat_eq v.variable x then Some c.instance else None) h.1 ∙ ap (λ b. if b then Some c.instance else None) (ap (λ (y : ℕ). nat_eq y x) h.0 ∙ same_eq x)

  param_other : (x y : ℕ) (c : Cell) (o : Option Local) → IsParameter S x o → (y ≡ x → ⊥) → given_in y c o ≡ None
  param_other x y c None h ne = absurd h
  param_other x y c (Some v) h ne =
      ap (λ b. if b && nat_eq v.variable y then Some c.instance else None) h.1 ∙ ap (λ b. if b then Some c.instance else None) (ap (λ (z : ℕ). nat_eq z y) h.0 ∙ ne_eqb x y (λ e. ne (sym e)))

  param_number : (x n : ℕ) (c : Cell) (o : Option Local) → IsParameter S x o → c.instance ≤ n → given_number c o ≤ n
  param_number x n c None h le = absurd h
  param_number x n c (Some v) h le = subst (λ (k : ℕ). k ≤ n) (sym (ap (λ b. if b then c.instance else 0) h.1)) le

  param_at : (ds : _) (a x : ℕ) (c : Cell) (o : Option Local) → IsParameter S x o → IsNewest S ds c.instance → c.index ≡ 0 → DefinedAt S ds a c o
  param_at ds a x c None h new e = absurd h
  param_at ds a x c (Some v) h new e = subst (IsDefined S ds a v c) (sym h.1) (new, subst (λ (i : ℕ). Contains v.names (S.leaf v.variable i)) (sym e) h.2)

  param_one : (ds : _) (a x : ℕ) (c : Cell) (o : Option Local) → IsParameter S x o → IsOne S ds a c o
  param_one ds a x c None h = absurd h
  param_one ds a x c (Some v) h = subst (HasOne S ds a c v) (sym h.1) tt

module _ (S : Sites) (F : List Bound) (P : Source) where
  -- ---- parameters

  stored_by : (n : ℕ) (name : Option Named) (c : Around) (w : Walked) (v : Value) (xs : List (Option Value)) (s : State) → n ≤ w.variables → IsParameter S (suc w.variables) (S.defined (next_def (with_variable w))) → Good S F s → Below n s.calls
      → (r : Result Cells Fault) → SameCount S F (suc s.store.count) r
      → (let i = heard c (with_variable w) in
      let q = whole (suc s.store.count) 1 in
      let u = bind (suc w.variables) (suc s.store.count) (record s { store = grown S F xs s.store }) in
      TopAt S F (suc w.variables) s (then_do (then_do (settled r u) (λ p s. logs (log_def q) (name_marks name) (noted_def tells i q (record s { store = p })) (λ s. Gives v s))) (λ v. Gives Next)))
  stored_by n name c w v xs s le h g b (Err why) e = g.right
  stored_by n name c w v xs s le h g b (Ok p) e =
      let x = suc w.variables in
      let j = suc s.store.count in
      let q = whole j 1 in
      let d = next_def (with_variable w) in
      let o = S.defined d in
      let a = tells (event.Def d (cell_at q)) in
      let t = did a (with_instance S F p x j s) in
      let few : j ≤ p.count = omega (arith, e) in
      let gt : Good S F t = good_bound S F n s p x j a (omega (arith, le)) (omega arith) few (param_number S x p.count (cell_at q) o h few)
      (param_at S s.deeds (activation s) x (cell_at q) o h g.counted (omega arith)) (param_one S s.deeds (activation s) x (cell_at q) o h) (param_made S x (cell_at q) o h) (λ y ne. param_other S x y (cell_at q) o h ne) b g in
      logs_then (TopAt S F x s) q v (λ v. Gives Next) (name_marks name) t
      (λ l. (good_still S F t (record t { log = l }) (record { deeds = refl; calls = refl; count = omega arith; last = refl; file = refl }) gt, made_tail (record { variable = x; instance = j }) s.calls, made_below n x j (omega (arith, le)) s.calls b))
      (λ why l. gt.right)

  variable_opens : (n : ℕ) (name : Option Named) (c : Around) (w : Walked) (v : Value) (y : TypeOf) (s : State) → n ≤ w.variables → IsParameter S (suc w.variables) (S.defined (next_def (with_variable w)))
      → Opens S F n (suc w.variables) s (then_do (make P.tables y s) (λ j s. scalar_written name (heard c (with_variable w)) j v (bind (suc w.variables) j s)))
  variable_opens n name c w v y s le h =
      let xs = replicate (cells P.tables y) None in
      fits_opens S F n (suc w.variables) (nat_le (cell_count s.store.live + length xs) s.store.most) (grown S F xs s.store) s (λ j s. scalar_written name (heard c (with_variable w)) j v (bind (suc w.variables) j s)) (record {
        by = λ g b.
            stored_by n name c w v xs s le h g b (write_of (grown S F xs s.store) (whole (suc s.store.count) 1) v) (write_count S F (grown S F xs s.store) (whole (suc s.store.count) 1) v);
      })

  stays : (s : State) → Still S F s s
  stays s = record { deeds = refl; calls = refl; count = omega arith; last = refl; file = refl }

  param_opens : (n : ℕ) (d : DeclShape) (c : Around) (w : Walked) (v : Value) (y : TypeOf) (s : State) → variable_kind P.tables (suc w.variables) ≡ Some y → n ≤ w.variables → IsSitedLine S F P.tables c.function d w → Opens S F n (define_decl P.tables c.function d w).variables s (given_variable P.tables d (heard c w) v y s)
  param_opens n (decl p specs (more_declarators (declarator stars x (arrays ls) e) no_declarators)) c w v y s known le h =
      subst (λ (m : ℕ). Opens S F n m s (given_variable P.tables (decl p specs (more_declarators (declarator stars x (arrays ls) e) no_declarators)) (heard c w) v y s)) (omega arith) (variable_opens n x c w v y s le (subst (λ (o : Option TypeOf). IsParameterOf S (suc w.variables) o (S.defined (next_def (with_variable w)))) known h.0))
  param_opens n (decl p specs no_declarators) c w v y s known le h = opens_stops S F n _ _ s s (stays s)
  param_opens n (decl p specs (more_declarators (declarator stars x (function ps) e) no_declarators)) c w v y s known le h = opens_stops S F n _ _ s s (stays s)
  param_opens n (decl p specs (more_declarators (declarator stars x (arrays ls) e) (more_declarators d rest))) c w v y s known le h = opens_stops S F n _ _ s s (stays s)
  param_opens n (decl p specs (more_declarators (declarator stars x (function ps) e) (more_declarators d rest))) c w v y s known le h = opens_stops S F n _ _ s s (stays s)

  given_opens : (n : ℕ) (ds : DeclShapes) (c : Around) (w : Walked) (vs : List Value) (s : State) → n ≤ w.variables → AreSitedLines S F P.tables c.function ds w → Opens S F n (define_decls P.tables c.function ds w).variables s (given P.tables ds (heard c w) vs s)
  given_opens n no_decls c w [] s le h = opens_safe S F n w.variables s _ le (safe_gives S F n s Next Any tt)
  given_opens n no_decls c w (v ∷ vs) s le h = opens_stops S F n _ _ s s (stays s)
  given_opens n (more_decls d rest) c w [] s le h = opens_stops S F n _ _ s s (stays s)
  given_opens n (more_decls d rest) c w (v ∷ vs) s le h =
      let u = define_decl P.tables c.function d w in
      opens_present S F n _ (variable_kind P.tables (suc w.variables)) s _ (λ y e.
      opens_then S F n u.variables _ s _ _ (param_opens n d c w v y s e le h.0) (λ f t. given_opens u.variables rest c u vs t (omega arith) h.1))

  signature_opens : (n : ℕ) (d : DeclFormShape) (c : Around) (w : Walked) (vs : List Value) (s : State) → n ≤ w.variables → IsSitedSignature S F P.tables c.function d w → Opens S F n (define_parameters P.tables c.function d w).variables s (given_all P.tables d (heard c w) vs s)
  signature_opens n (function (params ds)) c w vs s le h = given_opens n ds c w vs s le h
  signature_opens n (function empty) c w [] s le h = opens_safe S F n w.variables s _ le (safe_gives S F n s Next Any tt)
  signature_opens n (function empty) c w (v ∷ vs) s le h = opens_stops S F n _ _ s s (stays s)
  signature_opens n (function void) c w [] s le h = opens_safe S F n w.variables s _ le (safe_gives S F n s Next Any tt)
  signature_opens n (function void) c w (v ∷ vs) s le h = opens_stops S F n _ _ s s (stays s)
  signature_opens n (arrays ls) c w vs s le h = opens_stops S F n _ _ s s (stays s)

  past_is : (d : DeclFormShape) (c : Around) (w : Walked) → past_signature P.tables d (heard c w) ≡ heard c (define_parameters P.tables c.function d w)
  past_is (function (params ds)) c w = refl
  past_is (function empty) c w = refl
  past_is (function void) c w = refl
  past_is (arrays ls) c w = refl

  abbrev place_of : CompoundShape → Pos
  place_of (braces p ds items) = p

  -- ---- a whole call

  -- whichever variables stand in the caller's scopes
  pub record Over {A : Type 0} (s : State) (r : Got A) : Type 0 where
    pub by : Good S F s → GoodAt S F s r Any

  pub over_safe : {A : Type 0} (n : ℕ) (s : State) (r : Got A) → Over s r → Safe S F n s r Any
  over_safe n s r h = record { by = λ g w. h.by g }

  over_stops : {A : Type 0} (why : _) (s : State) → Over {A = A} s (Stops why s)
  over_stops why s = record { by = λ g. g.right }

  -- the call that begins there
  abbrev begun : ℕ → State → State
  begun f s = did (begins f) (activated f s)

  left_at : (f m : ℕ) (s t : State) (v : Option Value) → TopAt S F m (begun f s) (Gives v t) → GoodAt S F s (Gives v (left t)) Any
  left_at f m s t v h =
      let c : State = record t { store = ended_all (top_within t.calls) t.store; calls = in_call tail_of t.calls } in
      (good_left S F c (good_closed S F t (ended_all (top_within t.calls) t.store) (ended_count (top_within t.calls) t.store) h.0), ap tail_of h.1, tt)

  returned_at : (f m : ℕ) (s : State) (y : TypeOf) (r : Got Flow) → TopAt S F m (begun f s) r → GoodAt S F s (then_do r (returned y)) Any
  returned_at f m s y (Gives (Return (Some v)) t) h = left_at f m s t (Some (converted y v)) h
  returned_at f m s y (Gives (Return None) t) h = left_at f m s t None h
  returned_at f m s y (Gives Next t) h = left_at f m s t None h
  returned_at f m s y (Gives Break t) h = h.0.right
  returned_at f m s y (Gives Continue t) h = h.0.right
  returned_at f m s y (Stops why t) h = h

  then_assoc : {A B C : Type 0} (r : Got A) (go : A → State → Got B) (on : B → State → Got C) → then_do (then_do r go) on ≡ then_do r (λ a s. then_do (go a s) on)
  then_assoc (Gives a s) go on = refl
  then_assoc (Stops why s) go on = refl

  deep_over : (f n m : ℕ) (s : State) (y : TypeOf) (b : Bool) (r : Got Flow) (go : Flow → State → Got Flow) → Opens S F n m (begun f s) (then_do r go) → Over s (then_do (if b then r else Stops stop.Depth s) (λ g s. then_do (go g s) (returned y)))
  deep_over f n m s y true r go h = record {
    by = λ g.
        subst (λ z. GoodAt S F s z Any) (then_assoc r go (returned y))
        (returned_at f m s y (then_do r go) (h.by (good_act S F (activated f s) (begins f) (begins_quiet S f) tt tt (good_activated S F f s g)) (tt, tt)));
  }
  deep_over f n m s y false r go h = over_stops _ s

  module _ (kn : Knot) (keeps : KeepsNames kn) (calling : Calling S F P kn keeps) (turning : Turning S F P kn keeps) where
    body_opens : (ms : List ProbeMark) (b : CompoundShape) (f : ℕ) (d : DeclFormShape) (w : Walked) → IsSitedFunction S F P.tables f d b w → (vs : List Value) (s : State)
        → Opens S F w.variables (opened_to P.tables (in_function f) b (with_block (place_of b) (define_parameters P.tables f d w))) s (then_do (given_all P.tables d (heard (in_function f) w) vs s) (λ g s. body_flow P.tables kn ms b (past_signature P.tables d (heard (in_function f) w)) s))
    body_opens ms (braces p ds items) f d w h vs s =
        let c = in_function f in
        let j = define_parameters P.tables f d w in
        let u = with_block p j in
        opens_then S F w.variables j.variables _ s _ _ (signature_opens w.variables d c w vs s (omega arith) h.0) (λ g s.
        subst (λ i. Opens S F j.variables (opened_to P.tables c (braces p ds items) u) s (body_flow P.tables kn ms (braces p ds items) i s)) (sym (past_is d c w))
        (opens_did S F j.variables _ (tells (event.Block (next_block j))) s _ (block_quiet S (next_block j)) (λ g. tt) tt
        (opens_logs S F j.variables _ log_block (map (λ m. m.number) ms) (noted_block true (heard c j) s) _ (λ m s. record { deeds = refl; calls = refl; count = omega arith; last = refl; file = refl }) (λ t.
        opens_turn S F j.variables _ t _ (λ v. compound_opens S F P kn keeps calling turning j.variables (braces p ds items) c u (omega arith) h.1 v)))))

    found_over : (ms : List ProbeMark) (b : CompoundShape) (f : ℕ) (d : DeclFormShape) (w : Walked) → IsSitedFunction S F P.tables f d b w → (vs : List Value) (s : State)
        → Over s (called_found P.tables kn f (Some (record { params = d; marks = ms; body = b; first = heard (in_function f) w })) vs s)
    found_over ms b f d w h vs s =
        let i = heard (in_function f) w in
        deep_over f w.variables _ s (result_in (row P.tables.functions f)) (nat_lt (length s.calls) 4000) (given_all P.tables d i vs (begun f s)) (λ g s. body_flow P.tables kn ms b (past_signature P.tables d i) s) (body_opens ms b f d w h vs (begun f s))

    one_over : (f g : ℕ) (b : Bool) → nat_eq g f ≡ b → (ms : List ProbeMark) (a : CompoundShape) (d : DeclFormShape) (w : Walked) → IsSitedFunction S F P.tables g d a w → (o : Option Routine) (vs : List Value) (s : State)
        → Over s (called_found P.tables kn f o vs s) → Over s (called_found P.tables kn f (if b then Some (record { params = d; marks = ms; body = a; first = heard (in_function f) w }) else o) vs s)
    one_over f g true e ms a d w h o vs s k = found_over ms a f d w (subst (λ (n : ℕ). IsSitedFunction S F P.tables n d a w) (are_equal g f e) h) vs s
    one_over f g false e ms a d w h o vs s k = k

    -- the function of that number among external declarations
    routine_over : (c : Around) (es : List ExternalShape) (w : Walked) → AreSitedExternals S F P.tables es w → (f : ℕ) (vs : List Value) (s : State) → Over s (called_found P.tables kn f (routine_in P.tables f (heard c w) es) vs s)
    routine_over c [] w h f vs s = over_stops _ s
    routine_over c (declared d ∷ rest) w h f vs s = routine_over c rest (walk_external P.tables (declared d) w) h f vs s
    routine_over c (defined specs (declarator stars x d e) ms b ∷ rest) w h f vs s =
        let u = walk_external P.tables (defined specs (declarator stars x d e) ms b) w in
        let n = function_of P.tables (text_of x) in
        one_over f n (nat_eq n f) refl ms b d w h.0 (routine_in P.tables f (heard c u) rest) vs s (routine_over c rest u h.1 f vs s)

  pub record Knotted (n : ℕ) : Type 0 where
    pub turning : Turning S F P (knot P audible n) (knots_keep_names P audible n)
    pub over : (f : ℕ) (vs : List Value) (s : State) → Over s ((knot P audible n).call f vs s)

  calling_in : (n : ℕ) → ((f : ℕ) (vs : List Value) (s : State) → Over s ((knot P audible n).call f vs s)) → Calling S F P (knot P audible n) (knots_keep_names P audible n)
  calling_in n h m f vs s = over_safe m s _ (h f vs s)

  pub knotted : AreSitedExternals S F P.tables P.unit.externals units.no_items → (n : ℕ) → Knotted n
  knotted o zero = record { turning = λ m c f v a w g u hf ha hg le s. safe_stops S F m _ s Any; over = λ f vs s. over_stops _ s }
  knotted o (suc n) =
      let k = knotted o n in
      let kn = knot P audible n in
      let keeps = knots_keep_names P audible n in
      record {
        turning = λ m c f v a w g u hf ha hg le s. turn_safe S F P kn keeps (calling_in n k.over) k.turning m c f v a w g u hf ha hg le s;
        over = λ f vs s. routine_over kn keeps (calling_in n k.over) k.turning (in_function 0) P.unit.externals units.no_items o f vs s;
      }
