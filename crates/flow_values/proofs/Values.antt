-- Each typed expression of which nothing is complained has what typing knows of it: a value, or a place of file scope.
use Rattle.std.proofs.Common.{◌≡◌, ℕ, zero, suc, ◌-◌, List, [], ◌∷◌, ◌++◌, Bool, true, false, Option, Some, None, refl, sym, ap, ◌∙◌, subst}
use Rattle.std.specs.Prelude.{nat_eq, slice_get, is_some, if◌then◌else◌}
use Rattle.std.specs.List.{AllByRecursion}
use Rattle.c_arith.specs.declared.ArithUnary.TheVariants as arithmetic
use Rattle.c_base.specs.declared.place.Pos.{Pos}
use Rattle.c_syntax.specs.declared.text.Text.{Text}
use Rattle.c_syntax.specs.declared.tree.UnaryOp.{UnaryOp}
use Rattle.c_syntax.specs.declared.tree.UnaryOp.TheVariants as front
use Rattle.c_syntax.specs.Shape.{TypeOf, NoteShape, number, char, str, name, unary, before, size_of, plain, and, or, assign, comma, Probing, block, test, used, def, NodeShape, node, ExprShape, leaf, paren, call, prefix, size_of_type, cast, suffix, two, choose, probe, index, field, behind, simple, select}
use Rattle.c_syntax.specs.Shaped.{Shaped, ShapedExpr}
use Rattle.c_type_rules.specs.Layouts.{Measure, known, incomplete, too_large, measure}
use Rattle.c_type_rules.specs.Verdicts.{probed_type}
use Rattle.c_constants.specs.declared.numbers.Number.{Number}
use Rattle.c_constants.specs.declared.constants.Constant.{Constant}
use Rattle.c_constants.specs.declared.constants.Constant.TheVariants.{No, Faulty, Known, Variable, Part, Address, Literal}
use Rattle.c_constants.specs.Numbers.{number_of}
use Rattle.c_constants.specs.Constants as constants
use Rattle.c_scopes.specs.Scoping.{find}
use Rattle.c_tables.specs.Tables.{FunctionShape, VariableShape, TablesShape}
use Rattle.c_tables.specs.Rows.{row}
use Rattle.c_tree.specs.declared.meaning.Side.{Side}
use Rattle.c_tree.specs.declared.meaning.Side.TheVariants.{Neither}
use Rattle.c_tree.specs.State.{State, step, steps, is_clean}
use Rattle.c_tree.specs.Rulings.{by, then_rule, rule, kind_at, of_kind, allowed_if, whole, size_in, size_constant}
use Rattle.c_tree.specs.Sorts.{Typing, note_of, cleared, pos_in}
use Rattle.c_tree.specs.Operators.{string_type, number_sort, unary_sort, sided, called, Given, call_of, typed_call, unary_rule, place_rule, hushed, element_rule, holder, field_rule, is_copied, probe_rule, claim, entering}
use Rattle.c_tree.specs.Typing.{opening, type_node, type_form, type_arguments, type_type}
use Rattle.c_tree.proofs.Grows.{rule_grows, node_grows, form_grows}
use Rattle.c_meaning.specs.State.{Bound}
use Rattle.c_meaning.specs.Constants.{constant, place_in, integer_in, value_in, literal_in}
use Rattle.probe_laws.proofs.Settled.{IsClean}
use Rattle.probe_laws.proofs.Rules.{back}
use Rattle.probe_laws.proofs.Known.{Knows}
use Rattle.probe_laws.proofs.KnownParts.{claim_goes, is_still_clean}
use Rattle.probe_laws.proofs.KnownNodes.{node_knows, form_knows}
use Rattle.flow_initial.specs.Lengths.{IsFilled}
use Rattle.flow_initial.proofs.Cores.{Core, core, KeptByAll, ◌▸◌}
use Rattle.flow_initial.proofs.KeepsNodes as nodes
use Rattle.flow_values.specs.Bodies.{Good, Reaches}
use Rattle.flow_values.proofs.Reaching.{passed, before as reached}
use Rattle.flow_values.specs.Made.{HaveRoom, AreBound, MadeGiveConstants}
use Rattle.flow_values.proofs.Placed.{ForPlace, Round, there, round_place, no_array, node_right}
use Rattle.flow_values.proofs.Integers.{IsInteger, IsSame, note_in, node_integer, form_integer, probed_integer, arithmetic_integer, binary_integer, both_integer, either_integer, choice_integer, cast_integer}
use Rattle.flow_values.proofs.Strings.{string_some}
use Rattle.flow_values.proofs.Noted.{node_type}
use Rattle.flow_values.proofs.Standing.{Stands}
use Rattle.flow_values.proofs.Told.{Has, IsMade, ToldOf, Told, integer_told, none_told, address_told, entity_told, index_told, field_told}

number_integer : (n : Option Number) → IsInteger (number_sort n).constant
number_integer None = refl
number_integer (Some n) = refl

size_integer : (m : Measure) → IsInteger (size_in m)
size_integer (known e) = refl
size_integer incomplete = refl
size_integer too_large = refl

sized_integer : (rooms : List Measure) (k : Option TypeOf) → IsInteger (size_constant rooms k)
sized_integer rooms None = refl
sized_integer rooms (Some k) = size_integer (measure rooms k)

-- ---- rows of variables

row_in_front : (vs more : List VariableShape) (i : ℕ) (v : VariableShape) → slice_get vs i ≡ Some v → slice_get (vs ++ more) i ≡ Some v
row_in_front [] more i v e = cc
row_in_front (x ∷ vs) more zero v e = e
row_in_front (x ∷ vs) more (suc i) v e = row_in_front vs more i v e

filled_at : (vs : List VariableShape) (i : ℕ) (v : VariableShape) → AllByRecursion (λ (v : VariableShape). IsFilled v.kind) vs → slice_get vs i ≡ Some v → IsFilled v.kind
filled_at [] i v h e = cc
filled_at (x ∷ vs) zero v h e = let same : x ≡ v = cc in subst (λ (y : VariableShape). IsFilled y.kind) same h.0
filled_at (x ∷ vs) (suc i) v h e = filled_at vs i v h.1 e

where_row : (is : Bool) (o p : Option VariableShape) (v : VariableShape) → (o ≡ Some v → p ≡ Some v) → (if is then None else o) ≡ Some v → (if is then None else p) ≡ Some v
where_row true o p v f e = e
where_row false o p v f e = f e

where_filled : (is : Bool) (o : Option VariableShape) (v : VariableShape) → (o ≡ Some v → IsFilled v.kind) → (if is then None else o) ≡ Some v → IsFilled v.kind
where_filled true o v f e = cc
where_filled false o v f e = f e

module _ (t : TablesShape) (b : List Bound) (has : HaveRoom t) (bound : AreBound t b) where
  row_made : (s : State) (n : ℕ) (v : VariableShape) → Good (core s) → Reaches t (core s) → row s.tables.variables n ≡ Some v → IsFilled v.kind × (v.function ≡ 0 → IsMade t b n v.kind)
  row_made s n v g reach e =
      let vs = s.tables.variables in
      let there = where_row (nat_eq n 0) (slice_get vs (n - 1)) (slice_get (vs ++ reach.more) (n - 1)) v (row_in_front vs reach.more (n - 1) v) e in
      let at = ap (λ ws. row ws n) reach.added ∙ there in
      (where_filled (nat_eq n 0) (slice_get vs (n - 1)) v (filled_at vs (n - 1) v g.1.1) e, λ o. (bound n v at o, has n v at o))

  abbrev pub IsTold : Typing → Pos → Pos → ExprShape → Type 0
  IsTold x p o f = Told t b x.sort.kind x.sort.constant (node p o (note_in x) f)

  clear_told : (x : Typing) (p o : Pos) (f : ExprShape) (is : Bool) → is ≡ true → IsTold x p o f → Told t b (cleared is x.sort).kind (cleared is x.sort).constant (node p o (note_of (cleared is x.sort).kind x.sort.constant x.names x.valued) f)
  clear_told x p o f true e h = h
  clear_told x p o f false e h = cc

  -- in parentheses, and round a place
  paren_told : (k : Option TypeOf) (c : Constant) (p o : Pos) (n : NoteShape) (a : NodeShape) → Told t b k c a → Told t b k c (node p o n (paren a))
  paren_told None c p o n a h = tt
  paren_told (Some k) No p o n a h = h
  paren_told (Some k) (Faulty j) p o n a h = h
  paren_told (Some k) (Known j v) p o n a h = h
  paren_told (Some k) Variable p o n a h = h
  paren_told (Some k) Part p o n a h = h
  paren_told (Some k) Address p o n a h = h
  paren_told (Some k) Literal p o n a h = h

  round_told : (k : TypeOf) (c : Constant) (p o : Pos) (n : NoteShape) (u : Probing) (x : Text) (a : NodeShape) → (place_in t b (node p o n (probe (simple u x) a)) ≡ place_in t b a) → constants.is_array k ≡ false → ForPlace c → ToldOf t b k c a
      → ToldOf t b k c (node p o n (probe (simple u x) a))
  round_told k No p o n u x a e none is h = tt
  round_told k Variable p o n u x a e none is h = (subst (λ q. Stands t k q) (sym e) h.0, λ f. cc)
  round_told k Part p o n u x a e none is h = subst (λ q. Stands t k q) (sym e) h
  round_told k (Faulty j) p o n u x a e none is h = absurd is
  round_told k (Known j v) p o n u x a e none is h = absurd is
  round_told k Address p o n u x a e none is h = absurd is
  round_told k Literal p o n u x a e none is h = absurd is

  row_told : (p : Pos) (token : ℕ) (clean : Bool) (n : ℕ) (f : Option FunctionShape) (gs : List Given) (s : State) (a : NodeShape) → (let y = (call_of p token clean n f gs s).typing in Told t b y.sort.kind y.sort.constant a)
  row_told p token clean n None gs s a = tt
  row_told p token clean n (Some f) gs s a = tt

  call_told : (p : Pos) (token : ℕ) (clean : Bool) (f : Option ℕ) (gs : List Given) (s : State) (a : NodeShape) → (let y = (typed_call p token clean f gs s).typing in Told t b y.sort.kind y.sort.constant a)
  call_told p token clean None gs s a = tt
  call_told p token clean (Some n) gs s a = row_told p token clean n (row s.tables.functions n) gs s a

  -- the state before the last step reaches these tables too
  near : (s u : State) → ((J : Core → Type 0) → KeptByAll J → J (core s) → J (core u)) → Good (core s) → Reaches t (core u) → Reaches t (core s)
  near s u f g reach = reached t (core s) (core u) (passed s u f g).0 reach

  whole_told : (x : Typing) (p o : Pos) (f : ExprShape) → IsInteger x.sort.constant → value_in t b (node p o (note_in x) f) ≡ integer_in (constant (node p o (note_in x) f)) → IsSame (node p o (note_in x) f) x.sort.constant → IsTold x p o f
  whole_told x p o f is e same = integer_told t b x.sort.kind x.sort.constant (node p o (note_in x) f) is e same

  literal_told : (p o : Pos) (x : Text) (k : Option TypeOf) (n : NoteShape) → is_some (literal_in n x) ≡ true → Told t b k Literal (node p o n (leaf (str x)))
  literal_told p o x None n h = tt
  literal_told p o x (Some k) n h = h

  unary_integer : (u : UnaryOp) (k : Option TypeOf) (c : Constant) (p o : Pos) (n : NoteShape) (a : NodeShape) → (u ≡ front.AddressOf → ⊥) → IsSame (node p o n (prefix (unary u) a)) (unary_sort u k c).constant
      → Told t b (unary_sort u k c).kind (unary_sort u k c).constant (node p o n (prefix (unary u) a))
  unary_integer front.Plus k c p o n a f same = integer_told t b k _ _ (arithmetic_integer arithmetic.Plus c) refl same
  unary_integer front.Minus k c p o n a f same = integer_told t b k _ _ (arithmetic_integer arithmetic.Minus c) refl same
  unary_integer front.Flip k c p o n a f same = integer_told t b k _ _ (arithmetic_integer arithmetic.Flip c) refl same
  unary_integer front.Not k c p o n a f same = integer_told t b k _ _ (arithmetic_integer arithmetic.Not c) refl same
  unary_integer front.Deref k c p o n a f same = none_told t b k _
  unary_integer front.AddressOf k c p o n a f same = absurd (f refl)

  -- round a place
  probed_told : (u : Probing) (k : Option TypeOf) (z : Bool) (c : Constant) (p o : Pos) (n : Option TypeOf → NoteShape) (x : Text) (a : NodeShape) (d : Side) → ((m : NoteShape) → place_in t b (node p o m (probe (simple u x) a)) ≡ place_in t b a)
      → Round (is_copied u d) k z → ForPlace c → Told t b k c a
      → (let r = kind_at (then_rule (by 33 (probed_type (is_copied u d) k)) (allowed_if z 33)) in Told t b r c (node p o (n r) (probe (simple u x) a)))
  probed_told u k z c p o n x a d e r is h =
      subst (λ q. Told t b q c (node p o (n q) (probe (simple u x) a))) (sym r.same)
      (round_told r.type c p o (n (Some r.type)) u x a (e (n (Some r.type))) (no_array (is_copied u d) r.type r.fits) is (subst (λ q. Told t b q c a) r.inside h))

  mutual
    pub node_told : (a : NodeShape) (s : State) → Shaped a → Knows false s → Good (core s) → Reaches t (core (type_node a s).state) → IsClean (type_node a s).state → Told t b (type_node a s).sort.kind (type_node a s).sort.constant (type_node a s).node
    node_told (node p o n f) s is h g reach c =
        let u = entering f s in
        let x = type_form p o f u in
        clear_told x.typing p o x.form (is_clean s x.state) (is_still_clean s x.state (back (form_grows p o f u) c) c) (form_told p o f u is.1 h g reach c)

    form_told : (p o : Pos) (f : ExprShape) (s : State) → ShapedExpr f → Knows false s → Good (core s) → Reaches t (core (type_form p o f s).state) → IsClean (type_form p o f s).state
        → IsTold (type_form p o f s).typing p o (type_form p o f s).form
    form_told p o (leaf (number x)) s is h g reach c = whole_told (type_form p o (leaf (number x)) s).typing p o (type_form p o (leaf (number x)) s).form (number_integer (number_of x)) refl (form_integer p o (leaf (number x)) s is h c)
    form_told p o (leaf (char x)) s is h g reach c = refl
    form_told p o (leaf (str x)) s is h g reach c =
        literal_told p o x (kind_at (whole s.rooms (string_type x))) _ (string_some x s g.2 (form_knows p o (leaf (str x)) s is h c).0)
    form_told p o (leaf (name x)) s is h g reach c =
        entity_told t b p o x (find x s.names) s (λ n v e. row_made s n v g (near s (type_form p o (leaf (name x)) s).state (λ J kept. nodes.form_keeps J kept.types p o (leaf (name x)) s) g reach) e)
    form_told p o (paren a) s is h g reach c = let x = type_node a (step s) in paren_told x.sort.kind x.sort.constant p o _ x.node (node_told a (step s) is h g reach c)
    form_told p o (call x args) s is h g reach c =
        let f = called p x s in
        let y = type_arguments [] args (steps (opening args) f.state) in
        call_told p s.at (is_clean f.state y.state) f.function y.given y.state _
    form_told p o (prefix (unary front.AddressOf) a) s is h g reach c =
        let x = type_node a (step s) in
        let q = place_rule front.AddressOf x.sort in
        let v = rule q (step s).at (pos_in a) x.state in
        let r = unary_rule front.AddressOf x.state.rooms x.sort in
        let early = back (rule_grows q (step s).at (pos_in a) x.state) (back (rule_grows r s.at o v) c) in
        let good = (passed s x.state (λ J kept. nodes.node_keeps J kept.types a (step s)) g).1 in
        let close = near x.state (rule r s.at o v) (λ J kept. nodes.rule_keeps J kept.types q (step s).at (pos_in a) x.state ▸ nodes.rule_keeps J kept.types r s.at o v) good reach in
        address_told t b (kind_at r) x.sort.kind x.sort.constant p o _ x.node (node_knows a (step s) is.1 h early).0 (node_told a (step s) is.1 h g close early)
    form_told p o (prefix (unary front.Plus) a) s is h g reach c = unary_integer front.Plus _ (type_node a (step s)).sort.constant p o _ _ (λ e. cc) (form_integer p o (prefix (unary front.Plus) a) s is h c)
    form_told p o (prefix (unary front.Minus) a) s is h g reach c = unary_integer front.Minus _ (type_node a (step s)).sort.constant p o _ _ (λ e. cc) (form_integer p o (prefix (unary front.Minus) a) s is h c)
    form_told p o (prefix (unary front.Flip) a) s is h g reach c = unary_integer front.Flip _ (type_node a (step s)).sort.constant p o _ _ (λ e. cc) (form_integer p o (prefix (unary front.Flip) a) s is h c)
    form_told p o (prefix (unary front.Not) a) s is h g reach c = unary_integer front.Not _ (type_node a (step s)).sort.constant p o _ _ (λ e. cc) (form_integer p o (prefix (unary front.Not) a) s is h c)
    form_told p o (prefix (unary front.Deref) a) s is h g reach c = none_told t b _ _
    form_told p o (prefix (before u) a) s is h g reach c = none_told t b _ _
    form_told p o (prefix size_of a) s is h g reach c =
        let x = type_node a (hushed (step s)) in
        whole_told (type_form p o (prefix size_of a) s).typing p o (type_form p o (prefix size_of a) s).form (sized_integer x.state.rooms x.sort.kind) refl (form_integer p o (prefix size_of a) s is h c)
    form_told p o (size_of_type y) s is h g reach c =
        let x = type_type y (steps 2 s) in
        whole_told (type_form p o (size_of_type y) s).typing p o (type_form p o (size_of_type y) s).form (sized_integer x.state.rooms x.kind) refl (form_integer p o (size_of_type y) s is h c)
    form_told p o (cast y a) s is h g reach c =
        let k = type_type y (step s) in
        whole_told (type_form p o (cast y a) s).typing p o (type_form p o (cast y a) s).form (cast_integer k.kind (type_node a (step k.state)).sort.constant) refl (form_integer p o (cast y a) s is h c)
    form_told p o (suffix a (index e)) s is h g reach c =
        let x = type_node a s in
        let y = type_node e (step x.state) in
        let r = element_rule y.state.rooms x.sort y.sort in
        let late = back (rule_grows r x.state.at o y.state) c in
        let early = back (node_grows e (step x.state)) late in
        let first = node_knows a s is.1 h early in
        let good = (passed s x.state (λ J kept. nodes.node_keeps J kept.types a s) g).1 in
        let better = (passed x.state y.state (λ J kept. nodes.node_keeps J kept.types e (step x.state)) good).1 in
        let close = near y.state (rule r x.state.at o y.state) (λ J kept. nodes.rule_keeps J kept.types r x.state.at o y.state) better reach in
        let closer = near x.state y.state (λ J kept. nodes.node_keeps J kept.types e (step x.state)) good close in
        index_told t b y.state.rooms x.sort.kind y.sort.kind x.sort.constant y.sort.constant p o x.node y.node (node_type a s) (node_type e (step x.state)) (node_integer a s is.1 h early) (node_integer e (step x.state) is.2 first.1.0 late)
        (node_told a s is.1 h g closer early) (node_told e (step x.state) is.2 first.1.0 good close late) (form_knows p o (suffix a (index e)) s is h c).0
    form_told p o (suffix a (field w x q)) s is h g reach c =
        let y = type_node a s in
        let r = holder w y.state.rooms y.sort.kind in
        let v = step (rule r y.state.at o y.state) in
        let f = of_kind (kind_at r) (field_rule x y.state) in
        let early = back (rule_grows r y.state.at o y.state) (back (rule_grows f v.at q v) c) in
        let good = (passed s y.state (λ J kept. nodes.node_keeps J kept.types a s) g).1 in
        let close = near y.state (rule f v.at q v) (λ J kept. nodes.rule_keeps J kept.types r y.state.at o y.state ▸ nodes.rule_keeps J kept.types f v.at q v) good reach in
        field_told t b w y.state.rooms y.sort.kind y.sort.constant x q p o y.state y.node good close (node_type a s) (node_told a s is.1 h g close early)
    form_told p o (suffix a (behind u)) s is h g reach c = none_told t b _ _
    form_told p o (two (plain u) a e) s is h g reach c = let x = type_node a (sided Neither s) in let y = type_node e (sided Neither (step x.state)) in whole_told (type_form p o (two (plain u) a e) s).typing p o (type_form p o (two (plain u) a e) s).form (binary_integer u x.sort.constant y.sort.constant) refl (form_integer p o (two (plain u) a e) s is h c)
    form_told p o (two and a e) s is h g reach c = let x = type_node a (sided Neither s) in let y = type_node e (sided Neither (step x.state)) in whole_told (type_form p o (two and a e) s).typing p o (type_form p o (two and a e) s).form (both_integer x.sort.constant y.sort.constant) refl (form_integer p o (two and a e) s is h c)
    form_told p o (two or a e) s is h g reach c = let x = type_node a (sided Neither s) in let y = type_node e (sided Neither (step x.state)) in whole_told (type_form p o (two or a e) s).typing p o (type_form p o (two or a e) s).form (either_integer x.sort.constant y.sort.constant) refl (form_integer p o (two or a e) s is h c)
    form_told p o (two (assign u) a e) s is h g reach c = none_told t b _ _
    form_told p o (two comma a e) s is h g reach c = none_told t b _ _
    form_told p o (choose a e f) s is h g reach c = let x = type_node a s in let y = type_node e (step x.state) in let z = type_node f (step y.state) in whole_told (type_form p o (choose a e f) s).typing p o (type_form p o (choose a e f) s).form (choice_integer x.sort.constant y.sort.constant z.sort.constant) refl (form_integer p o (choose a e f) s is h c)
    form_told p o (probe (simple block x) a) s is h g reach c = whole_told (type_form p o (probe (simple block x) a) s).typing p o (type_form p o (probe (simple block x) a) s).form (probed_integer (type_node a (steps 4 (claim block x s.at p s))).sort.constant) refl (form_integer p o (probe (simple block x) a) s is h c)
    form_told p o (probe (simple test x) a) s is h g reach c = whole_told (type_form p o (probe (simple test x) a) s).typing p o (type_form p o (probe (simple test x) a) s).form (probed_integer (type_node a (steps 4 (claim test x s.at p s))).sort.constant) refl (form_integer p o (probe (simple test x) a) s is h c)
    form_told p o (probe (simple used x) a) s is h g reach c =
        let v = steps 4 (claim used x s.at p s) in
        let y = type_node a v in
        let q = probe_rule used s.side y.sort in
        let r = round_place (is_copied used s.side) y.sort.kind y.sort.place (form_knows p o (probe (simple used x) a) s is h c).0 in
        let early = back (rule_grows q s.at p y.state) c in
        let begun = (passed s v (λ J kept. nodes.claim_keeps J kept.types used x s.at p s) g).1 in
        let good = (passed v y.state (λ J kept. nodes.node_keeps J kept.types a v) begun).1 in
        let close = near y.state (rule q s.at p y.state) (λ J kept. nodes.rule_keeps J kept.types q s.at p y.state) good reach in
        probed_told used y.sort.kind y.sort.place y.sort.constant p o (λ k. note_of k y.sort.constant None false) x y.node s.side (λ m. refl) r
        (node_right a v (there y.sort.kind r.type r.inside) r.placed) (node_told a v is.1 (claim_goes used x s.at p s h).0 begun close early)
    form_told p o (probe (simple def x) a) s is h g reach c =
        let v = steps 4 (claim def x s.at p s) in
        let y = type_node a v in
        let q = probe_rule def s.side y.sort in
        let r = round_place (is_copied def s.side) y.sort.kind y.sort.place (form_knows p o (probe (simple def x) a) s is h c).0 in
        let early = back (rule_grows q s.at p y.state) c in
        let begun = (passed s v (λ J kept. nodes.claim_keeps J kept.types def x s.at p s) g).1 in
        let good = (passed v y.state (λ J kept. nodes.node_keeps J kept.types a v) begun).1 in
        let close = near y.state (rule q s.at p y.state) (λ J kept. nodes.rule_keeps J kept.types q s.at p y.state) good reach in
        probed_told def y.sort.kind y.sort.place y.sort.constant p o (λ k. note_of k y.sort.constant None false) x y.node s.side (λ m. refl) r
        (node_right a v (there y.sort.kind r.type r.inside) r.placed) (node_told a v is.1 (claim_goes def x s.at p s h).0 begun close early)
    form_told p o (probe (select x cs) a) s is h g reach c = none_told t b _ _

  initialiser_has : (k : TypeOf) (c : Constant) (a : NodeShape) → constants.initialises k c ≡ true → ToldOf t b k c a → Has t b a
  initialiser_has k (Known j v) a e h = h
  initialiser_has k Address a e h = h
  initialiser_has k Literal a e h = h
  initialiser_has k Variable a e h = h.1 e
  initialiser_has k No a e h = cc
  initialiser_has k (Faulty j) a e h = cc
  initialiser_has k Part a e h = cc

pub made_give_constants : MadeGiveConstants
made_give_constants t b has bound a k s is h g reach c e i =
    let x = type_node a s in
    initialiser_has t b has bound k x.sort.constant x.node i (subst (λ z. Told t b z x.sort.constant x.node) e (node_told t b has bound a s is h g reach c))
