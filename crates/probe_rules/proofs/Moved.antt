-- States of typing that differ in how many tokens stand before, in which probes were seen and in what was complained of before: what typing asks of
-- a state, and the parts of what it does, depend on none of these.
use Rattle.std.proofs.Common.{◌≡◌, ℕ, suc, ◌+◌, List, [], ◌∷◌, ◌++◌, length, Option, Some, None, Bool, true, false, ◌∙◌, refl, sym, ap, ap₂, subst, arith, length-append}
use Rattle.std.specs.Prelude.{nat_eq, not, min, ◌-◌, ◌^◌, ◌&&◌, if◌then◌else◌}
use Rattle.c_base.specs.declared.place.Pos.{Pos}
use Rattle.c_syntax.specs.declared.text.Text.{Text}
use Rattle.c_syntax.specs.declared.tree.Named.{Named}
use Rattle.c_syntax.specs.declared.tree.UnaryOp.{UnaryOp}
use Rattle.c_syntax.specs.Shape.{TypeOf, int, pointer, array, structure, nothing, Infix, plain, and, or, assign, comma, Access, node, ExprShape}
use Rattle.c_type_rules.specs.Verdicts.{fits_type, cast_type, logical_type}
use Rattle.c_constants.specs.declared.constants.Constant.{Constant}
use Rattle.c_scopes.specs.Scoping.{find_here, find}
use Rattle.c_tables.specs.Tables.{FunctionShape, VariableShape, FieldShape}
use Rattle.c_tables.specs.Builtins.{builtin_name, builtin_result, builtin_params}
use Rattle.c_tree.specs.declared.meaning.Complaint.{Complaint}
use Rattle.c_tree.specs.declared.meaning.Entity.{Entity}
use Rattle.c_tree.specs.declared.meaning.Entity.TheVariants as entity
use Rattle.c_tree.specs.declared.meaning.Tag.{Tag}
use Rattle.c_tree.specs.declared.meaning.Tag.TheVariants as tag
use Rattle.c_tree.specs.State.{Seen, State, step, steps, complain, demand, counts, is_set, is_clean, function_number, numbered_or, pushed_function}
use Rattle.c_tables.specs.Rows.{row}
use Rattle.c_tree.specs.Rulings.{Ruled, allowed, unsettled, refused, by, rule, kind_at, of_kind, whole, sized}
use Rattle.c_tree.specs.Sorts.{Sort, TypedType, null, Typing, Outcome, Formed, TypedNode, formed, noted, note_of, node_sort, cleared, changeable}
use Rattle.c_tree.specs.Operators.{named_variable, named_parameter, named_entity, typed_string, string_type, unary_rule, step_rule, plain_rule, assigned_rule, choice_rule, element_rule, field_rule, field_constant, heard, held_field, Called, called_entity, called_builtin, Given, fit_all, judged, call_of, typed_call, place_rule, typed_unary, typed_step, typed_size, typed_type_size, typed_cast, left_side, typed_infix, typed_choice, typed_index, typed_field, holder, sided, kept_side, entering}
use Rattle.c_tree.specs.Parts.{TypedNodes, TypedLengths, TypedSpecs, TypedSpec, TypedDecls, TypedNames, TypedRows, Opened, twice, known_structure, listed_structure, opened, begun_at, closed, outside, field_state, Valued, declared_at, declare, enumeration, known_enumeration, listed_enumeration}
use Rattle.c_tree.specs.declared.meaning.Side.{Side}

pub three : {A B C D : Type 0} (k : A → B → C → D) {a b : A} {c d : B} {e f : C} → a ≡ b → c ≡ d → e ≡ f → k a c e ≡ k b d f
three k {a} {b} {c} {d} {e} {f} p q r = ap (λ x. k x c e) p ∙ ap₂ (k b) q r

abbrev pub moved : ℕ → Seen → List Complaint → State → State
moved a seen cs s = record s { at = a; seen = seen; complaints = cs }

-- In the first run so many complaints stand before, in the second so many; and these probes were seen before.
module _ (n m : ℕ) (seen : Seen) where
  -- the second state is the first one moved; n complaints of the first run stand before, m of the second
  pub record Alike (s t : State) : Type 0 where
    pub at : ℕ
    pub complaints : List Complaint
    pub is : t ≡ moved at seen complaints s
    pub count : length s.complaints + m ≡ length complaints + n

  abbrev pub Counts : State → List Complaint → Type 0
  Counts s cs = length s.complaints + m ≡ length cs + n

  pub moves : (s : State) (a : ℕ) (cs : List Complaint) → Counts s cs → Alike s (moved a seen cs s)
  moves s a cs count = record { at = a; complaints = cs; is = refl; count = count }

  -- what holds of each moved state
  pub on_moved : {s t : State} (P : State → Type 0) → Alike s t → ((a : ℕ) (cs : List Complaint) → Counts s cs → P (moved a seen cs s)) → P t
  on_moved P al go = subst P (sym al.is) (go al.at al.complaints al.count)

  pub clean_alike : (s t u v : State) → Alike s u → Alike t v → is_clean u v ≡ is_clean s t
  clean_alike s t u v p q = on_moved (λ z. is_clean z v ≡ is_clean s t) p (λ a cs i. on_moved (λ z. is_clean (moved a seen cs s) z ≡ is_clean s t) q (λ b ds j. same (length s.complaints) (length t.complaints) (length cs) (length ds) i j))
    where
      same : (a b c d : ℕ) → a + m ≡ c + n → b + m ≡ d + n → nat_eq c d ≡ nat_eq a b
      same a b c d i j = grind arith

  -- ---- complaints

  pub steps_alike : (k : ℕ) {s t : State} → Alike s t → Alike (steps k s) (steps k t)
  steps_alike k {s} {t} al = record { at = min (al.at + k) (2 ^ 32 - 1); complaints = al.complaints; is = ap (steps k) al.is; count = al.count }

  pub complain_alike : (k token token' : ℕ) (p q : Pos) {s t : State} → Alike s t → Alike (complain k token p s) (complain k token' q t)
  complain_alike k token token' p q {s} {t} al = record {
    at = al.at;
    complaints = al.complaints ++ record { token = token'; number = k; pos = q } ∷ [];
    is = ap (complain k token' q) al.is;
    count = omega (arith, al.count, length-append s.complaints (record { token = token; number = k; pos = p } ∷ []), length-append al.complaints (record { token = token'; number = k; pos = q } ∷ []));
  }

  pub demand_alike : (b : Bool) (k token token' : ℕ) (p : Pos) {s t : State} → Alike s t → Alike (demand b k token p s) (demand b k token' p t)
  demand_alike true k token token' p al = al
  demand_alike false k token token' p al = complain_alike k token token' p p al

  pub rule_alike : (r : Ruled) (token token' : ℕ) (p q : Pos) {s t : State} → Alike s t → Alike (rule r token p s) (rule r token' q t)
  rule_alike (allowed k) token token' p q al = al
  rule_alike unsettled token token' p q al = al
  rule_alike (refused k) token token' p q al = complain_alike k token token' p q al

  -- ---- what comes of an expression

  pub record AlikeOutcome (x y : Outcome) : Type 0 where
    pub typing : y.typing ≡ x.typing
    pub state : Alike x.state y.state

  pub record AlikeFormed (x y : Formed) : Type 0 where
    pub form : y.form ≡ x.form
    pub typing : y.typing ≡ x.typing
    pub state : Alike x.state y.state

  pub record AlikeNode (x y : TypedNode) : Type 0 where
    pub node : y.node ≡ x.node
    pub sort : y.sort ≡ x.sort
    pub state : Alike x.state y.state

  pub formed_alike : (f g : ExprShape) (x y : Outcome) → g ≡ f → AlikeOutcome x y → AlikeFormed (formed f x) (formed g y)
  formed_alike f g x y e al = record { form = e; typing = al.typing; state = al.state }

  pub noted_alike : (p o : Pos) (s t : State) (x y : Formed) → Alike s t → AlikeFormed x y → AlikeNode (noted p o s x) (noted p o t y)
  noted_alike p o s t x y begun al =
      let sort : node_sort t y ≡ node_sort s x = ap (λ b. cleared b y.typing.sort) (clean_alike s x.state t y.state begun al.state) ∙ ap (λ (z : Typing). cleared (is_clean s x.state) z.sort) al.typing in
      record {
        node = ap (λ (z : Sort). node p o (note_of z.kind y.typing.sort.constant y.typing.names y.typing.valued) y.form) sort
            ∙ (ap (λ (z : Typing). node p o (note_of (node_sort s x).kind z.sort.constant z.names z.valued) y.form) al.typing ∙ ap (λ z. node p o (note_of (node_sort s x).kind x.typing.sort.constant x.typing.names x.typing.valued) z) al.form);
        sort = sort;
        state = al.state;
      }

  -- ---- names, calls and operators

  variable_alike : (p : Pos) (k : ℕ) (v : Option VariableShape) {s t : State} → Alike s t → AlikeOutcome (named_variable p k v s) (named_variable p k v t)
  variable_alike p k None {s} {t} al = record { typing = refl; state = steps_alike 1 (complain_alike 30 s.at t.at p p al) }
  variable_alike p k (Some v) al = record { typing = refl; state = steps_alike 1 al }

  parameter_alike : (p : Pos) (k : Option TypeOf) {s t : State} → Alike s t → AlikeOutcome (named_parameter p k s) (named_parameter p k t)
  parameter_alike p None {s} {t} al = record { typing = refl; state = steps_alike 1 (complain_alike 30 s.at t.at p p al) }
  parameter_alike p (Some k) al = record { typing = refl; state = steps_alike 1 al }

  entity_moved : (p : Pos) (e : Option Entity) (s : State) (a : ℕ) (cs : List Complaint) → Counts s cs → AlikeOutcome (named_entity p e s) (named_entity p e (moved a seen cs s))
  entity_moved p (Some (entity.Variable k)) s a cs i = variable_alike p k (row s.tables.variables k) (moves s a cs i)
  entity_moved p (Some (entity.Parameter k)) s a cs i = parameter_alike p (row s.params k) (moves s a cs i)
  entity_moved p (Some (entity.Constant v)) s a cs i = record { typing = refl; state = steps_alike 1 (moves s a cs i) }
  entity_moved p (Some entity.Unknown) s a cs i = record { typing = refl; state = steps_alike 1 (moves s a cs i) }
  entity_moved p (Some (entity.Function k)) s a cs i = record { typing = refl; state = steps_alike 1 (complain_alike 30 s.at a p p (moves s a cs i)) }
  entity_moved p (Some (entity.Builtin b)) s a cs i = record { typing = refl; state = steps_alike 1 (complain_alike 30 s.at a p p (moves s a cs i)) }
  entity_moved p None s a cs i = record { typing = refl; state = steps_alike 1 (complain_alike 30 s.at a p p (moves s a cs i)) }

  pub name_alike : (p : Pos) (x : Text) {s t : State} → Alike s t → AlikeOutcome (named_entity p (find x s.names) s) (named_entity p (find x t.names) t)
  name_alike p x {s} al = on_moved (λ z. AlikeOutcome (named_entity p (find x s.names) s) (named_entity p (find x z.names) z)) al (λ a cs i. entity_moved p (find x s.names) s a cs i)

  pub record AlikeCalled (x y : Called) : Type 0 where
    pub function : y.function ≡ x.function
    pub state : Alike x.state y.state

  mention_moved : (x : Text) (k : TypeOf) (ks : List TypeOf) (o : Option ℕ) (s : State) (a : ℕ) (cs : List Complaint) → Counts s cs → AlikeCalled (called_builtin (numbered_or o s (pushed_function x k ks s))) (called_builtin (numbered_or o (moved a seen cs s) (pushed_function x k ks (moved a seen cs s))))
  mention_moved x k ks (Some j) s a cs i = record { function = refl; state = moves s a cs i }
  mention_moved x k ks None s a cs i = record { function = refl; state = record { at = a; complaints = cs; is = refl; count = i } }

  called_moved : (p : Pos) (e : Option Entity) (s : State) (a : ℕ) (cs : List Complaint) → Counts s cs → AlikeCalled (called_entity p e s) (called_entity p e (moved a seen cs s))
  called_moved p (Some (entity.Function k)) s a cs i = record { function = refl; state = demand_alike (counts s.known k) 40 s.at a p (moves s a cs i) }
  called_moved p (Some (entity.Builtin b)) s a cs i = mention_moved (builtin_name b) (builtin_result b) (builtin_params b) (function_number (builtin_name b) (builtin_result b) (builtin_params b) s.tables.functions) s a cs i
  called_moved p (Some entity.Unknown) s a cs i = record { function = refl; state = moves s a cs i }
  called_moved p (Some (entity.Variable k)) s a cs i = record { function = refl; state = complain_alike 30 s.at a p p (moves s a cs i) }
  called_moved p (Some (entity.Parameter k)) s a cs i = record { function = refl; state = complain_alike 30 s.at a p p (moves s a cs i) }
  called_moved p (Some (entity.Constant v)) s a cs i = record { function = refl; state = complain_alike 30 s.at a p p (moves s a cs i) }
  called_moved p None s a cs i = record { function = refl; state = complain_alike 30 s.at a p p (moves s a cs i) }

  pub called_alike : (p : Pos) (x : Text) {s t : State} → Alike s t → AlikeCalled (called_entity p (find x s.names) s) (called_entity p (find x t.names) t)
  called_alike p x {s} al = on_moved (λ z. AlikeCalled (called_entity p (find x s.names) s) (called_entity p (find x z.names) z)) al (λ a cs i. called_moved p (find x s.names) s a cs i)

  -- ---- arguments

  -- the same but for their tokens
  abbrev pub AlikeGiven : List Given → List Given → Type 0
  AlikeGiven [] [] = Unit {0}
  AlikeGiven [] (h ∷ hs) = ⊥
  AlikeGiven (g ∷ gs) [] = ⊥
  AlikeGiven (g ∷ gs) (h ∷ hs) = (h.kind ≡ g.kind) × (h.null ≡ g.null) × AlikeGiven gs hs

  pub given_then : (gs hs : List Given) (g h : Given) → AlikeGiven gs hs → h.kind ≡ g.kind → h.null ≡ g.null → AlikeGiven (gs ++ g ∷ []) (hs ++ h ∷ [])
  given_then [] [] g h al kind null = (kind, null, tt)
  given_then [] (y ∷ hs) g h al kind null = absurd al
  given_then (x ∷ gs) [] g h al kind null = absurd al
  given_then (x ∷ gs) (y ∷ hs) g h al kind null = (al.0, al.1, given_then gs hs g h al.2 kind null)

  given_length : (gs hs : List Given) → AlikeGiven gs hs → length hs ≡ length gs
  given_length [] [] al = refl
  given_length [] (y ∷ hs) al = absurd al
  given_length (x ∷ gs) [] al = absurd al
  given_length (x ∷ gs) (y ∷ hs) al = ap suc (given_length gs hs al.2)

  fit_alike : (ks : List TypeOf) (gs hs : List Given) {s t : State} → AlikeGiven gs hs → Alike s t → Alike (fit_all ks gs s) (fit_all ks hs t)
  fit_alike [] gs hs same al = al
  fit_alike (k ∷ ks) [] [] same al = al
  fit_alike (k ∷ ks) [] (h ∷ hs) same al = absurd same
  fit_alike (k ∷ ks) (g ∷ gs) [] same al = absurd same
  fit_alike (k ∷ ks) (g ∷ gs) (h ∷ hs) {s} {t} same al =
      fit_alike ks gs hs same.2 (subst (λ r. Alike (rule (by 33 (fits_type (Some k) g.kind g.null)) g.token g.pos s) (rule r h.token h.pos t)) (ap₂ (λ y z. by 33 (fits_type (Some k) y z)) (sym same.0) (sym same.1)) (rule_alike (by 33 (fits_type (Some k) g.kind g.null)) g.token h.token g.pos h.pos al))

  pick_alike : (b : Bool) {s t u v : State} → Alike s t → Alike u v → Alike (if b then s else u) (if b then t else v)
  pick_alike true p q = p
  pick_alike false p q = q

  judged_alike : (token token' : ℕ) (p : Pos) (clean : Bool) (ks : List TypeOf) (gs hs : List Given) {s t : State} → AlikeGiven gs hs → Alike s t → Alike (judged token p clean ks gs s) (judged token' p clean ks hs t)
  judged_alike token token' p clean ks gs hs {s} {t} same al =
      subst (λ j. Alike (judged token p clean ks gs s) (if clean && not (nat_eq (length ks) j) then complain 34 token' p t else fit_all ks hs t)) (sym (given_length gs hs same))
      (pick_alike (clean && not (nat_eq (length ks) (length gs))) (complain_alike 34 token token' p p al) (fit_alike ks gs hs same al))

  call_alike : (p : Pos) (token token' : ℕ) (clean : Bool) (k : ℕ) (f : Option FunctionShape) (gs hs : List Given) {s t : State} → AlikeGiven gs hs → Alike s t → AlikeOutcome (call_of p token clean k f gs s) (call_of p token' clean k f hs t)
  call_alike p token token' clean k None gs hs same al = record { typing = refl; state = steps_alike 1 al }
  call_alike p token token' clean k (Some f) gs hs same al = record { typing = refl; state = steps_alike 1 (judged_alike token token' p clean f.params gs hs same al) }

  pub typed_call_alike : (p : Pos) (token token' : ℕ) (clean : Bool) (f : Option ℕ) (gs hs : List Given) {s t : State} → AlikeGiven gs hs → Alike s t → AlikeOutcome (typed_call p token clean f gs s) (typed_call p token' clean f hs t)
  typed_call_alike p token token' clean None gs hs same al = record { typing = refl; state = steps_alike 1 al }
  typed_call_alike p token token' clean (Some k) gs hs {s} same al =
      on_moved (λ z. AlikeOutcome (call_of p token clean k (row s.tables.functions k) gs s) (call_of p token' clean k (row z.tables.functions k) hs z)) al (λ a cs i. call_alike p token token' clean k (row s.tables.functions k) gs hs same (moves s a cs i))

  -- ---- operators

  literal_alike : (b : Bool) (x : Text) (s : State) (a : ℕ) (cs : List Complaint) → Counts s cs → (let f : State → State = λ z. record z { tables = record z.tables { literals = z.tables.literals ++ x ∷ [] } } in Alike (if b then s else f s) (if b then moved a seen cs s else f (moved a seen cs s)))
  literal_alike true x s a cs i = moves s a cs i
  literal_alike false x s a cs i = record { at = a; complaints = cs; is = refl; count = i }

  pub string_alike : (p : Pos) (x : Text) {s t : State} → Alike s t → AlikeOutcome (typed_string p x s) (typed_string p x t)
  string_alike p x {s} al = on_moved (λ z. AlikeOutcome (typed_string p x s) (typed_string p x z)) al (λ a cs i.
      record { typing = refl; state = steps_alike 1 (rule_alike (whole s.rooms (string_type x)) s.at a p p (literal_alike s.quiet x s a cs i)) })

  pub unary_alike : (token token' : ℕ) (o : Pos) (head head' : ℕ) (p : Pos) (u : UnaryOp) (a b : Sort) {s t : State} → b ≡ a → Alike s t → AlikeOutcome (typed_unary token o head p u a s) (typed_unary token' o head' p u b t)
  unary_alike token token' o head head' p u a b {s} {t} same al = subst (λ z. AlikeOutcome (typed_unary token o head p u a s) (typed_unary token' o head' p u z t)) (sym same)
      (on_moved (λ z. AlikeOutcome (typed_unary token o head p u a s) (typed_unary token' o head' p u a z)) al (λ n cs i.
      record { typing = refl; state = rule_alike (unary_rule u s.rooms a) token token' o o (rule_alike (place_rule u a) head head' p p (moves s n cs i)) }))

  pub step_alike : (token token' : ℕ) (o : Pos) (head head' : ℕ) (p : Pos) (a b : Sort) {s t : State} → b ≡ a → Alike s t → AlikeOutcome (typed_step token o head p a s) (typed_step token' o head' p b t)
  step_alike token token' o head head' p a b {s} {t} same al = subst (λ z. AlikeOutcome (typed_step token o head p a s) (typed_step token' o head' p z t)) (sym same)
      (on_moved (λ z. AlikeOutcome (typed_step token o head p a s) (typed_step token' o head' p a z)) al (λ n cs i.
      record { typing = refl; state = rule_alike (step_rule s.rooms a) token token' o o (rule_alike (changeable a) head head' p p (moves s n cs i)) }))

  pub size_alike : (token token' : ℕ) (o : Pos) (k l : Option TypeOf) {s t : State} → l ≡ k → Alike s t → AlikeOutcome (typed_size token o k s) (typed_size token' o l t)
  size_alike token token' o k l {s} {t} same al = subst (λ z. AlikeOutcome (typed_size token o k s) (typed_size token' o z t)) (sym same)
      (on_moved (λ z. AlikeOutcome (typed_size token o k s) (typed_size token' o k z)) al (λ n cs i. record { typing = refl; state = rule_alike (of_kind k (sized s.rooms)) token token' o o (moves s n cs i) }))

  pub type_size_alike : (token token' : ℕ) (o : Pos) (k l : Option TypeOf) {s t : State} → l ≡ k → Alike s t → AlikeOutcome (typed_type_size token o k s) (typed_type_size token' o l t)
  type_size_alike token token' o k l {s} {t} same al = subst (λ z. AlikeOutcome (typed_type_size token o k s) (typed_type_size token' o z t)) (sym same)
      (on_moved (λ z. AlikeOutcome (typed_type_size token o k s) (typed_type_size token' o k z)) al (λ n cs i. record { typing = refl; state = rule_alike (of_kind k (whole s.rooms)) token token' o o (steps_alike 1 (moves s n cs i)) }))

  pub cast_alike : (token token' : ℕ) (o : Pos) (k l : Option TypeOf) (a b : Sort) {s t : State} → l ≡ k → b ≡ a → Alike s t → AlikeOutcome (typed_cast token o k a s) (typed_cast token' o l b t)
  cast_alike token token' o k l a b {s} {t} kind same al = subst (λ y. AlikeOutcome (typed_cast token o k a s) (typed_cast token' o y b t)) (sym kind) (subst (λ z. AlikeOutcome (typed_cast token o k a s) (typed_cast token' o k z t)) (sym same)
      (record { typing = refl; state = rule_alike (by 33 (cast_type k a.kind)) token token' o o al }))

  infix_moved : (token token' : ℕ) (o : Pos) (head head' : ℕ) (p : Pos) (u : Infix) (a b : Sort) (s : State) (n' : ℕ) (cs : List Complaint) → Counts s cs → AlikeOutcome (typed_infix token o head p u a b s) (typed_infix token' o head' p u a b (moved n' seen cs s))
  infix_moved token token' o head head' p (plain u) a b s n' cs i = record { typing = refl; state = rule_alike (plain_rule u s.rooms a b) token token' o o (moves s n' cs i) }
  infix_moved token token' o head head' p and a b s n' cs i = record { typing = refl; state = rule_alike (by 33 (logical_type a.kind b.kind)) token token' o o (moves s n' cs i) }
  infix_moved token token' o head head' p or a b s n' cs i = record { typing = refl; state = rule_alike (by 33 (logical_type a.kind b.kind)) token token' o o (moves s n' cs i) }
  infix_moved token token' o head head' p (assign u) a b s n' cs i = record { typing = refl; state = rule_alike (assigned_rule u s.rooms a b) token token' o o (rule_alike (left_side a b) head head' p p (moves s n' cs i)) }
  infix_moved token token' o head head' p comma a b s n' cs i = record { typing = refl; state = moves s n' cs i }

  pub infix_alike : (token token' : ℕ) (o : Pos) (head head' : ℕ) (p : Pos) (u : Infix) (a a' b b' : Sort) {s t : State} → a' ≡ a → b' ≡ b → Alike s t → AlikeOutcome (typed_infix token o head p u a b s) (typed_infix token' o head' p u a' b' t)
  infix_alike token token' o head head' p u a a' b b' {s} {t} e d al = subst (λ y. AlikeOutcome (typed_infix token o head p u a b s) (typed_infix token' o head' p u y b' t)) (sym e) (subst (λ z. AlikeOutcome (typed_infix token o head p u a b s) (typed_infix token' o head' p u a z t)) (sym d)
      (on_moved (λ z. AlikeOutcome (typed_infix token o head p u a b s) (typed_infix token' o head' p u a b z)) al (λ n' cs i. infix_moved token token' o head head' p u a b s n' cs i)))

  pub choice_alike : (token token' : ℕ) (o : Pos) (a a' b b' c c' : Sort) {s t : State} → a' ≡ a → b' ≡ b → c' ≡ c → Alike s t → AlikeOutcome (typed_choice token o a b c s) (typed_choice token' o a' b' c' t)
  choice_alike token token' o a a' b b' c c' {s} {t} e d f al =
      subst (λ x. AlikeOutcome (typed_choice token o a b c s) (typed_choice token' o x b' c' t)) (sym e)
      (subst (λ y. AlikeOutcome (typed_choice token o a b c s) (typed_choice token' o a y c' t)) (sym d)
      (subst (λ z. AlikeOutcome (typed_choice token o a b c s) (typed_choice token' o a b z t)) (sym f) (record { typing = refl; state = rule_alike (choice_rule a b c) token token' o o al })))

  pub index_alike : (token token' : ℕ) (o : Pos) (a a' b b' : Sort) {s t : State} → a' ≡ a → b' ≡ b → Alike s t → AlikeOutcome (typed_index token o a b s) (typed_index token' o a' b' t)
  index_alike token token' o a a' b b' {s} {t} e d al = subst (λ y. AlikeOutcome (typed_index token o a b s) (typed_index token' o y b' t)) (sym e) (subst (λ z. AlikeOutcome (typed_index token o a b s) (typed_index token' o a z t)) (sym d)
      (on_moved (λ z. AlikeOutcome (typed_index token o a b s) (typed_index token' o a b z)) al (λ n' cs i. record { typing = refl; state = steps_alike 1 (rule_alike (element_rule s.rooms a b) token token' o o (moves s n' cs i)) })))

  -- the field's rule, by the structure before the point or arrow
  held_alike : (q : Pos) (f : TypeOf → Ruled) (r : Ruled) (c : Constant) {s t : State} → Alike s t → AlikeOutcome (held_field q r c s) (held_field q r c t)
  held_alike q f r c {s} {t} al = record { typing = refl; state = steps_alike 1 (rule_alike r s.at t.at q q al) }

  field_rule_moved : (k : Option TypeOf) (x : Text) (s : State) (a : ℕ) (cs : List Complaint) → of_kind k (field_rule x (moved a seen cs s)) ≡ of_kind k (field_rule x s)
  field_rule_moved None x s a cs = refl
  field_rule_moved (Some (int k)) x s a cs = refl
  field_rule_moved (Some (pointer k)) x s a cs = refl
  field_rule_moved (Some (array k j)) x s a cs = refl
  field_rule_moved (Some (structure j)) x s a cs = refl
  field_rule_moved (Some nothing) x s a cs = refl

  pub field_alike : (token token' : ℕ) (o : Pos) (h : Access) (x : Text) (q : Pos) (a b : Sort) {s t : State} → b ≡ a → Alike s t → AlikeOutcome (typed_field token o h x q a s) (typed_field token' o h x q b t)
  field_alike token token' o h x q a b {s} {t} same al = subst (λ z. AlikeOutcome (typed_field token o h x q a s) (typed_field token' o h x q z t)) (sym same)
      (on_moved (λ z. AlikeOutcome (typed_field token o h x q a s) (typed_field token' o h x q a z)) al (λ n' cs i.
      let r = holder h s.rooms a.kind in
      let f = of_kind (kind_at r) (field_rule x s) in
      let v = steps_alike 1 (rule_alike r token token' o o (moves s n' cs i)) in
      subst (λ g. AlikeOutcome (held_field q f (field_constant h a.constant) (step (rule r token o s))) (held_field q g (field_constant h a.constant) (step (rule r token' o (moved n' seen cs s))))) (sym (field_rule_moved (kind_at r) x s n' cs))
      (record { typing = refl; state = steps_alike 1 (rule_alike f (step (rule r token o s)).at (step (rule r token' o (moved n' seen cs s))).at q q v) })))

  -- ---- structures and enumerations

  pub record AlikeOpened (x y : Opened) : Type 0 where
    pub number : y.number ≡ x.number
    pub state : Alike x.state y.state

  twice_moved : (p : Pos) (s : State) (a : ℕ) (cs : List Complaint) → Counts s cs → AlikeOpened (twice p s) (twice p (moved a seen cs s))
  twice_moved p s a cs i = record { number = refl; state = complain_alike 31 s.at a p p (moves s a cs i) }

  known_moved : (p : Pos) (x : Text) (o : Option Tag) (s : State) (a : ℕ) (cs : List Complaint) → Counts s cs → AlikeOpened (known_structure p x o s) (known_structure p x o (moved a seen cs s))
  known_moved p x None s a cs i = record { number = refl; state = record { at = a; complaints = cs; is = refl; count = i } }
  known_moved p x (Some (tag.Structure k)) s a cs i = record { number = refl; state = moves s a cs i }
  known_moved p x (Some tag.Enumeration) s a cs i = twice_moved p s a cs i

  pick_opened : (b : Bool) (u v x y : Opened) → AlikeOpened u v → AlikeOpened x y → AlikeOpened (if b then u else x) (if b then v else y)
  pick_opened true u v x y p q = p
  pick_opened false u v x y p q = q

  listed_moved : (p : Pos) (x : Text) (o : Option Tag) (s : State) (a : ℕ) (cs : List Complaint) → Counts s cs → AlikeOpened (listed_structure p x o s) (listed_structure p x o (moved a seen cs s))
  listed_moved p x None s a cs i = record { number = refl; state = record { at = a; complaints = cs; is = refl; count = i } }
  listed_moved p x (Some (tag.Structure k)) s a cs i = pick_opened (is_set (row s.begun k)) _ _ _ _ (twice_moved p s a cs i) (record { number = refl; state = moves s a cs i })
  listed_moved p x (Some tag.Enumeration) s a cs i = twice_moved p s a cs i

  opened_moved : (alone list : Bool) (x : Option Named) (s : State) (a : ℕ) (cs : List Complaint) → Counts s cs → AlikeOpened (opened alone list x s) (opened alone list x (moved a seen cs s))
  opened_moved alone true None s a cs i = record { number = refl; state = record { at = a; complaints = cs; is = refl; count = i } }
  opened_moved alone true (Some x) s a cs i = listed_moved x.pos x.text (find_here x.text s.tags) s a cs i
  opened_moved alone false None s a cs i = record { number = refl; state = moves s a cs i }
  opened_moved alone false (Some x) s a cs i = known_moved x.pos x.text (if alone then find_here x.text s.tags else find x.text s.tags) s a cs i

  pub opened_alike : (alone list : Bool) (x : Option Named) {s t : State} → Alike s t → AlikeOpened (opened alone list x s) (opened alone list x t)
  opened_alike alone list x {s} al = on_moved (λ z. AlikeOpened (opened alone list x s) (opened alone list x z)) al (λ a cs i. opened_moved alone list x s a cs i)

  pub begun_alike : (o o' : Option ℕ) {s t : State} → o' ≡ o → Alike s t → Alike (begun_at o s) (begun_at o' t)
  begun_alike o o' {s} {t} e al = subst (λ z. Alike (begun_at o s) (begun_at z t)) (sym e) (on_moved (λ z. Alike (begun_at o s) (begun_at o z)) al (λ a cs i. begun_moved o s a cs i))
    where
      begun_moved : (o : Option ℕ) (s : State) (a : ℕ) (cs : List Complaint) → Counts s cs → Alike (begun_at o s) (begun_at o (moved a seen cs s))
      begun_moved None s a cs i = moves s a cs i
      begun_moved (Some k) s a cs i = record { at = a; complaints = cs; is = refl; count = i }

  pub closed_alike : (o o' : Option ℕ) (fields fields' : List FieldShape) {s t : State} → o' ≡ o → fields' ≡ fields → Alike s t → Alike (closed o fields s) (closed o' fields' t)
  closed_alike o o' fields fields' {s} {t} e d al = subst (λ y. Alike (closed o fields s) (closed y fields' t)) (sym e) (subst (λ z. Alike (closed o fields s) (closed o z t)) (sym d)
      (on_moved (λ z. Alike (closed o fields s) (closed o fields z)) al (λ a cs i. closed_moved o fields s a cs i)))
    where
      closed_moved : (o : Option ℕ) (fields : List FieldShape) (s : State) (a : ℕ) (cs : List Complaint) → Counts s cs → Alike (closed o fields s) (closed o fields (moved a seen cs s))
      closed_moved None fields s a cs i = moves s a cs i
      closed_moved (Some k) fields s a cs i = record { at = a; complaints = cs; is = refl; count = i }

  pub outside_alike : (file file' : Bool) {s t : State} → file' ≡ file → Alike s t → Alike (outside file s) (outside file' t)
  outside_alike file file' {s} {t} e al = subst (λ y. Alike (outside file s) (outside y t)) (sym e) (record { at = al.at; complaints = al.complaints; is = ap (outside file) al.is; count = al.count })

  pub quiet_alike : (quiet quiet' : Bool) {s t : State} → quiet' ≡ quiet → Alike s t → Alike (heard quiet s) (heard quiet' t)
  quiet_alike quiet quiet' {s} {t} e al = subst (λ y. Alike (heard quiet s) (heard y t)) (sym e) (record { at = al.at; complaints = al.complaints; is = ap (heard quiet) al.is; count = al.count })

  pub sided_alike : (d d' : Side) {s t : State} → d' ≡ d → Alike s t → Alike (sided d s) (sided d' t)
  sided_alike d d' {s} {t} e al = subst (λ y. Alike (sided d s) (sided y t)) (sym e) (record { at = al.at; complaints = al.complaints; is = ap (sided d) al.is; count = al.count })

  pub entering_alike : (f : ExprShape) {s t : State} → Alike s t → Alike (entering f s) (entering f t)
  entering_alike f {s} {t} al = sided_alike (kept_side f s.side) (kept_side f t.side) (ap (λ (z : State). kept_side f z.side) al.is) al

  pub field_state_alike : (token token' : ℕ) (p : Pos) (free free' : Bool) (k k' : Option TypeOf) {s t : State} → free' ≡ free → k' ≡ k → Alike s t → Alike (field_state token p free k s) (field_state token' p free' k' t)
  field_state_alike token token' p free free' k k' {s} {t} e d al = subst (λ y. Alike (field_state token p free k s) (field_state token' p y k' t)) (sym e) (subst (λ z. Alike (field_state token p free k s) (field_state token' p free z t)) (sym d)
      (on_moved (λ z. Alike (field_state token p free k s) (field_state token' p free k z)) al (λ a cs i. rule_alike (of_kind k (whole s.rooms)) token token' p p (demand_alike free 31 token token' p (moves s a cs i)))))

  declared_moved : (token token' : ℕ) (p : Pos) (x : Text) (e : Entity) (o : Option Entity) (s : State) (a : ℕ) (cs : List Complaint) → Counts s cs → Alike (declared_at token p x e o s) (declared_at token' p x e o (moved a seen cs s))
  declared_moved token token' p x e None s a cs i = record { at = a; complaints = cs; is = refl; count = i }
  declared_moved token token' p x e (Some o) s a cs i = complain_alike 31 token token' p p (moves s a cs i)

  pub declare_alike : (token token' : ℕ) (p : Pos) (x : Text) (e e' : Entity) {s t : State} → e' ≡ e → Alike s t → Alike (declare token p x e s) (declare token' p x e' t)
  declare_alike token token' p x e e' {s} {t} d al = subst (λ y. Alike (declare token p x e s) (declare token' p x y t)) (sym d) (on_moved (λ z. Alike (declare token p x e s) (declare token' p x e z)) al (λ a cs i. declared_moved token token' p x e (find_here x s.names) s a cs i))

  listed_enum_moved : (p : Pos) (x : Text) (o : Option Tag) (s : State) (a : ℕ) (cs : List Complaint) → Counts s cs → Alike (listed_enumeration p x o s) (listed_enumeration p x o (moved a seen cs s))
  listed_enum_moved p x None s a cs i = record { at = a; complaints = cs; is = refl; count = i }
  listed_enum_moved p x (Some o) s a cs i = complain_alike 31 s.at a p p (moves s a cs i)

  known_enum_moved : (p : Pos) (o : Option Tag) (s : State) (a : ℕ) (cs : List Complaint) → Counts s cs → Alike (known_enumeration p o s) (known_enumeration p o (moved a seen cs s))
  known_enum_moved p (Some tag.Enumeration) s a cs i = moves s a cs i
  known_enum_moved p (Some (tag.Structure k)) s a cs i = complain_alike 31 s.at a p p (moves s a cs i)
  known_enum_moved p None s a cs i = complain_alike 30 s.at a p p (moves s a cs i)

  enumeration_moved : (list : Bool) (x : Option Named) (s : State) (a : ℕ) (cs : List Complaint) → Counts s cs → Alike (enumeration list x s) (enumeration list x (moved a seen cs s))
  enumeration_moved true None s a cs i = moves s a cs i
  enumeration_moved false None s a cs i = moves s a cs i
  enumeration_moved true (Some x) s a cs i = listed_enum_moved x.pos x.text (find_here x.text s.tags) s a cs i
  enumeration_moved false (Some x) s a cs i = known_enum_moved x.pos (find x.text s.tags) s a cs i

  pub enumeration_alike : (list : Bool) (x : Option Named) {s t : State} → Alike s t → Alike (enumeration list x s) (enumeration list x t)
  enumeration_alike list x {s} al = on_moved (λ z. Alike (enumeration list x s) (enumeration list x z)) al (λ a cs i. enumeration_moved list x s a cs i)

  -- ---- what comes of a type

  pub record AlikeNodes (x y : TypedNodes) : Type 0 where
    pub nodes : y.nodes ≡ x.nodes
    pub given : AlikeGiven x.given y.given
    pub state : Alike x.state y.state

  pub record AlikeType (x y : TypedType) : Type 0 where
    pub type : y.type ≡ x.type
    pub kind : y.kind ≡ x.kind
    pub state : Alike x.state y.state

  pub record AlikeLengths (x y : TypedLengths) : Type 0 where
    pub lengths : y.lengths ≡ x.lengths
    pub counts : y.counts ≡ x.counts
    pub state : Alike x.state y.state

  pub record AlikeSpecs (x y : TypedSpecs) : Type 0 where
    pub specs : y.specs ≡ x.specs
    pub spelled : y.spelled ≡ x.spelled
    pub state : Alike x.state y.state

  pub record AlikeSpec (x y : TypedSpec) : Type 0 where
    pub spec : y.spec ≡ x.spec
    pub kind : y.kind ≡ x.kind
    pub state : Alike x.state y.state

  pub record AlikeDecls (x y : TypedDecls) : Type 0 where
    pub decls : y.decls ≡ x.decls
    pub fields : y.fields ≡ x.fields
    pub state : Alike x.state y.state

  pub record AlikeNames (x y : TypedNames) : Type 0 where
    pub names : y.names ≡ x.names
    pub fields : y.fields ≡ x.fields
    pub state : Alike x.state y.state

  pub record AlikeRows (x y : TypedRows) : Type 0 where
    pub rows : y.rows ≡ x.rows
    pub state : Alike x.state y.state

  pub record AlikeValued (x y : Valued) : Type 0 where
    pub node : y.node ≡ x.node
    pub value : y.value ≡ x.value
    pub state : Alike x.state y.state

  -- a rule by what is known of an expression, behind it
  pub judged_by : (rule_of : Sort → Ruled) (x y : TypedNode) (token token' : ℕ) (p : Pos) → AlikeNode x y → Alike (rule (rule_of x.sort) token p x.state) (rule (rule_of y.sort) token' p y.state)
  judged_by rule_of x y token token' p i = subst (λ z. Alike (rule (rule_of x.sort) token p x.state) (rule (rule_of z) token' p y.state)) (sym i.sort) (rule_alike (rule_of x.sort) token token' p p i.state)

  pub ruled_alike : (r r' : Ruled) (token token' : ℕ) (p : Pos) {s t : State} → r' ≡ r → Alike s t → Alike (rule r token p s) (rule r' token' p t)
  ruled_alike r r' token token' p {s} {t} e al = subst (λ z. Alike (rule r token p s) (rule z token' p t)) (sym e) (rule_alike r token token' p p al)

  -- the file, as it was
  pub file_alike : {s t : State} → Alike s t → t.file ≡ s.file
  file_alike al = ap (λ (z : State). z.file) al.is

  pub was_quiet : {s t : State} → Alike s t → t.quiet ≡ s.quiet
  was_quiet al = ap (λ (z : State). z.quiet) al.is

  pub call_of_alike : (p : Pos) (token token' : ℕ) (clean clean' : Bool) (f f' : Option ℕ) (gs hs : List Given) {s t : State} → clean' ≡ clean → f' ≡ f → AlikeGiven gs hs → Alike s t → AlikeOutcome (typed_call p token clean f gs s) (typed_call p token' clean' f' hs t)
  call_of_alike p token token' clean clean' f f' gs hs {s} {t} e d same al =
      subst (λ y. AlikeOutcome (typed_call p token clean f gs s) (typed_call p token' y f' hs t)) (sym e) (subst (λ z. AlikeOutcome (typed_call p token clean f gs s) (typed_call p token' clean z hs t)) (sym d) (typed_call_alike p token token' clean f gs hs same al))
