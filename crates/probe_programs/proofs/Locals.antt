-- Local declarations with their probes are typed as they stand.
use Rattle.std.proofs.Common.{◌≡◌, ℕ, List, [], ◌∷◌, Bool, true, false, Option, Some, None, ◌∙◌, refl, sym, ap, ap₂, subst, inl}
use Rattle.std.specs.Prelude.{◌||◌, nat_eq, nat_le}
use Rattle.c_base.specs.declared.place.Pos.{Pos}
use Rattle.c_base.specs.declared.place.IntKind.TheVariants.{Char}
use Rattle.c_syntax.specs.declared.text.Text.{Text}
use Rattle.c_syntax.specs.declared.tree.Named.{Named}
use Rattle.c_syntax.specs.declared.tree.ProbeMark.{ProbeMark}
use Rattle.c_syntax.specs.declared.tree.Star.{Star}
use Rattle.c_syntax.specs.declared.tree.UnaryOp.TheVariants as front
use Rattle.c_syntax.specs.Shape.{TypeOf, int, number, char, str, name, unary, before, size_of, plain, and, or, assign, comma, Prefix, Infix, NodeShape, node, ExprShape, leaf, paren, call, prefix, size_of_type, cast, suffix, two, choose, probe, index, field, behind, simple, select, def, SuffixShape, ProbeShape, NodeShapes, TypeShape, SpecShapes, no_specs, NoteShape, LengthShapes, DeclShape, decl, no_decls, more_decls, DeclaratorShape, declarator, DeclaratorShapes, no_declarators, more_declarators, arrays, function, MaybeInit, no_init, one_init, InitShape, one, listed, InitShapes}
use Rattle.c_syntax.specs.Shaped.{in_names, Shaped, ShapedLengths, ShapedDecl, ShapedDeclarators, ShapedDeclarator}
use Rattle.c_tables.specs.Tables.{TablesShape}
use Rattle.c_tables.specs.Rows.{first_place, text_of, name_pos}
use Rattle.c_scopes.specs.Scoping.{find_here}
use Rattle.c_tree.specs.State.{State, step, steps}
use Rattle.c_tree.specs.Rulings.{rule, kind_at, allowed_if}
use Rattle.c_tree.specs.Sorts.{pos_in}
use Rattle.c_tree.specs.Operators.{claim, hushed, heard}
use Rattle.c_tree.specs.Parts.{Length, left_out, counted, unclear, TypedLengths, pointed, star_tokens, unspelled, spelled_rule}
use Rattle.c_tree.specs.Typing.{type_node, type_specs, type_lengths}
use Rattle.c_tree.specs.Initialisers.{length_in, length_in_form, lengths_with, form_in, filled, chars_of, one_init_of, constant_init, fits, TypedInit, type_init}
use Rattle.c_tree.specs.Declaring.{name_tokens, claim_name, token_of_name, declare_variable, variable_rule, has_init, type_maybe_init, TypedDeclarator, type_variable, type_declarator, TypedDeclarators, type_declarators, none_declared, semicolon, type_decl, TypedDecl, type_decls, plain_declarator}
use Rattle.c_tree.proofs.Again.{lengths_again, specs_again}
use Rattle.c_tree.proofs.AgainUnits.{length_again, init_again, function_again}
use Rattle.c_walk.specs.declared.around.Around.{Around}
use Rattle.c_walk.specs.declared.around.Taken.TheVariants.{Read}
use Rattle.c_walk.specs.Walked.{Walked}
use Rattle.c_walk.specs.Walking.{walk_node}
use Rattle.c_walk.specs.Stating.{whole, with_variable, with_whole_def, walk_declarator, walk_declarators, walk_decl}
use Rattle.c_meaning.specs.Counts.{IsBefore}
use Rattle.c_meaning.proofs.Walks.{node_on, decl_on, decls_on}
use Rattle.c_sites_probes.specs.Marked.{first, name_mark, node_mark, lengths_mark, specs_mark, declarator_mark, declarators_mark, decl_mark, decls_mark, maybe_init_mark, init_mark}
use Rattle.probe_rules.specs.Fitting.{HasFewItems}
use Rattle.probe_rules.specs.Marks.{mark_at, in_use}
use Rattle.c_walk.specs.Counted.{next_def}
use Rattle.probe_rules.specs.ProbedExpressions.{probed_node}
use Rattle.probe_rules.specs.ProbedStatements.{probed_declarator, probed_declarators, probed_decl}
use Rattle.probe_rules.proofs.ReadyUnits.{none_first, none_second}
use Rattle.c_tree.proofs.Grows.{rule_grows}
use Rattle.c_tree.proofs.GrowsUnits.{maybe_init_grows, variable_at_grows, declarators_grow, decls_grow}
use Rattle.probe_rules.proofs.Moved.{AlikeSpecs, steps_alike, rule_alike, ruled_alike, quiet_alike}
use Rattle.probe_rules.proofs.MovedNodes.{specs_alike}
use Rattle.probe_rules.proofs.Claims.{seen_at, def_claimed}
use Rattle.probe_rules.proofs.Few.{few_before, few_defs}
use Rattle.probe_laws.proofs.Settled.{IsThere, IsClean, type_there}
use Rattle.probe_laws.proofs.Rules.{back}
use Rattle.probe_laws.proofs.Known.{Knows, rule_goes}
use Rattle.probe_laws.proofs.KnownParts.{pointed_there, spelled_settled}
use Rattle.probe_laws.proofs.KnownNodes.{lengths_know, specs_know, all_specs, decl_parts}
use Rattle.probe_laws.proofs.FitDecls.{name_goes, declarator_fits, variable_at_goes, with_clear, variable_settled, decl_fits}
use Rattle.probe_moved.proofs.States.{function_same, quiet_same, judged_variable}
use Rattle.probe_moved.proofs.Decls as plain_ones
use Rattle.probe_moved.specs.Moved.{marked}
use Rattle.probe_moved.proofs.Marked.{variable_lengths, variable_kind, variable_state, AlikeVariable, variable_marked}
use Rattle.probe_typed.specs.Typed.{Follows}
use Rattle.probe_typed.proofs.Parts.{nodes_typed}
use Rattle.probe_programs.specs.Stated.{DeclsAreTypedAs}

three : {A B C D : Type 0} (k : A → B → C → D) {a b : A} {c d : B} {e f : C} → a ≡ b → c ≡ d → e ≡ f → k a c e ≡ k b d f
three k {a} {b} {c} {d} {e} {f} p q r = ap (λ x. k x c e) p ∙ ap₂ (k b) q r

-- ---- strings are those of the plain expression

-- what is asked of a form: something of a string, and the same of all others
record AsksOfStrings {A : Type 0} (known : ExprShape → A) (other : A) : Type 0 where
  number : (x : Text) → known (leaf (number x)) ≡ other
  char : (x : ℕ) → known (leaf (char x)) ≡ other
  name : (x : Text) → known (leaf (name x)) ≡ other
  paren : (a : NodeShape) → known (paren a) ≡ other
  call : (x : Text) (args : NodeShapes) → known (call x args) ≡ other
  prefix : (u : Prefix) (a : NodeShape) → known (prefix u a) ≡ other
  size_of_type : (y : TypeShape) → known (size_of_type y) ≡ other
  cast : (y : TypeShape) (a : NodeShape) → known (cast y a) ≡ other
  suffix : (a : NodeShape) (u : SuffixShape) → known (suffix a u) ≡ other
  two : (u : Infix) (a b : NodeShape) → known (two u a b) ≡ other
  choose : (a b c : NodeShape) → known (choose a b c) ≡ other
  probe : (u : ProbeShape) (a : NodeShape) → known (probe u a) ≡ other

asks_lengths : AsksOfStrings length_in_form left_out
asks_lengths = record { number = λ x. refl; char = λ x. refl; name = λ x. refl; paren = λ a. refl; call = λ x args. refl; prefix = λ u a. refl; size_of_type = λ y. refl; cast = λ y a. refl; suffix = λ a u. refl; two = λ u a b. refl; choose = λ a b c. refl; probe = λ u a. refl }

asks_chars : (n : Option ℕ) → AsksOfStrings (filled n) None
asks_chars None = record { number = λ x. refl; char = λ x. refl; name = λ x. refl; paren = λ a. refl; call = λ x args. refl; prefix = λ u a. refl; size_of_type = λ y. refl; cast = λ y a. refl; suffix = λ a u. refl; two = λ u a b. refl; choose = λ a b c. refl; probe = λ u a. refl }
asks_chars (Some n) = record { number = λ x. refl; char = λ x. refl; name = λ x. refl; paren = λ a. refl; call = λ x args. refl; prefix = λ u a. refl; size_of_type = λ y. refl; cast = λ y a. refl; suffix = λ a u. refl; two = λ u a b. refl; choose = λ a b c. refl; probe = λ u a. refl }

module _ {A : Type 0} (known : ExprShape → A) (other : A) (asks : AsksOfStrings known other) where
  used_other : (b : Bool) (w : Walked) (p o : Pos) (n : NoteShape) (f : ExprShape) → known f ≡ other → known (form_in (in_use b w (node p o n f))) ≡ other
  used_other true w p o n f e = asks.probe _ _
  used_other false w p o n f e = e

  -- typed, and with its probes, a form is a string where it was one
  probed_asked : (c : Around) (p o : Pos) (n : NoteShape) (f : ExprShape) (s : State) (w : Walked) → known (form_in (probed_node c Read (type_node (node p o n f) s).node w)) ≡ known f
  probed_asked c p o n (leaf (number x)) s w = refl
  probed_asked c p o n (leaf (char x)) s w = refl
  probed_asked c p o n (leaf (str x)) s w = refl
  probed_asked c p o n (leaf (name x)) s w = used_other _ _ p o _ _ (asks.name x) ∙ sym (asks.name x)
  probed_asked c p o n (paren a) s w = asks.paren _ ∙ sym (asks.paren a)
  probed_asked c p o n (call x args) s w = asks.call _ _ ∙ sym (asks.call x args)
  probed_asked c p o n (prefix (unary front.Deref) a) s w = used_other _ _ p o _ _ (asks.prefix _ _) ∙ sym (asks.prefix _ a)
  probed_asked c p o n (prefix (unary front.AddressOf) a) s w = asks.prefix _ _ ∙ sym (asks.prefix _ a)
  probed_asked c p o n (prefix (unary front.Plus) a) s w = asks.prefix _ _ ∙ sym (asks.prefix _ a)
  probed_asked c p o n (prefix (unary front.Minus) a) s w = asks.prefix _ _ ∙ sym (asks.prefix _ a)
  probed_asked c p o n (prefix (unary front.Flip) a) s w = asks.prefix _ _ ∙ sym (asks.prefix _ a)
  probed_asked c p o n (prefix (unary front.Not) a) s w = asks.prefix _ _ ∙ sym (asks.prefix _ a)
  probed_asked c p o n (prefix (before u) a) s w = asks.prefix _ _ ∙ sym (asks.prefix _ a)
  probed_asked c p o n (prefix size_of a) s w = asks.prefix _ _ ∙ sym (asks.prefix _ a)
  probed_asked c p o n (size_of_type y) s w = asks.size_of_type _ ∙ sym (asks.size_of_type y)
  probed_asked c p o n (cast y a) s w = asks.cast _ _ ∙ sym (asks.cast y a)
  probed_asked c p o n (suffix a (index b)) s w = used_other _ _ p o _ _ (asks.suffix _ _) ∙ sym (asks.suffix a _)
  probed_asked c p o n (suffix a (field h x q)) s w = used_other _ _ p o _ _ (asks.suffix _ _) ∙ sym (asks.suffix a _)
  probed_asked c p o n (suffix a (behind u)) s w = asks.suffix _ _ ∙ sym (asks.suffix a _)
  probed_asked c p o n (two and a b) s w = asks.two _ _ _ ∙ sym (asks.two and a b)
  probed_asked c p o n (two or a b) s w = asks.two _ _ _ ∙ sym (asks.two or a b)
  probed_asked c p o n (two (assign u) a b) s w = asks.two _ _ _ ∙ sym (asks.two (assign u) a b)
  probed_asked c p o n (two (plain u) a b) s w = asks.two _ _ _ ∙ sym (asks.two (plain u) a b)
  probed_asked c p o n (two comma a b) s w = asks.two _ _ _ ∙ sym (asks.two comma a b)
  probed_asked c p o n (choose a b d) s w = asks.choose _ _ _ ∙ sym (asks.choose a b d)
  probed_asked c p o n (probe (simple u x) a) s w = asks.probe _ _ ∙ sym (asks.probe _ a)
  probed_asked c p o n (probe (select x cs) a) s w = asks.probe _ _ ∙ sym (asks.probe _ a)

-- ---- initialisers

-- as it stands
record IsInitTypedAs (v : Walked) (x : TypedInit) (i : InitShape) (y : TypedInit) : Type 0 where
  init : y.init ≡ i
  state : Follows v x.state y.state

-- the expression, as it is typed there
abbrev value_node : Option (ℕ × ℕ) → NodeShape → State → NodeShape
value_node (Some x) a s = (type_node a (hushed s)).node
value_node None a s = (type_node a s).node

module _ (c : Around) (k : Option TypeOf) (a : NodeShape) (w : Walked) (s t : State) (is : Shaped a) (m : node_mark a ≡ None) (h : Knows false s) (al : Follows w s t) where
  -- a string by itself, which is typed quietly
  string_typed : (bytes elements : ℕ) (constant : Bool) → (
      let x = one_init_of (Some (bytes, elements)) constant k a s in
      let b = probed_node c Read (type_node a (hushed s)).node w in
      let v = walk_node c Read (type_node a (hushed s)).node w in
      IsClean x.state → HasFewItems v → IsInitTypedAs v x (one b) (one_init_of (Some (bytes, elements)) constant k b t))
  string_typed bytes elements constant clean few =
      let u = type_node a (hushed s) in
      let r = allowed_if (nat_le bytes elements) 33 (int Char) in
      let b = probed_node c Read u.node w in
      let v = walk_node c Read u.node w in
      let i = nodes_typed false c Read a w (hushed s) (hushed t) is m h (back (rule_grows r s.at (pos_in a) (heard s.quiet u.state)) clean) tt few (quiet_alike 0 0 (seen_at w) true true refl al) in
      record { init = ap one i.node; state = rule_alike 0 0 (seen_at v) r s.at t.at (pos_in a) (pos_in b) (quiet_alike 0 0 (seen_at v) s.quiet t.quiet (quiet_same 0 0 (seen_at w) al) i.state) }

  value_typed : (constant : Bool) → (
      let x = one_init_of None constant k a s in
      let b = probed_node c Read (type_node a s).node w in
      let v = walk_node c Read (type_node a s).node w in
      IsClean x.state → HasFewItems v → IsInitTypedAs v x (one b) (one_init_of None constant k b t))
  value_typed constant clean few =
      let u = type_node a s in
      let b = probed_node c Read u.node w in
      let v = walk_node c Read u.node w in
      let y = type_node b t in
      let z = rule (fits k u.sort) s.at (pos_in a) u.state in
      let early = back (rule_grows (fits k u.sort) s.at (pos_in a) u.state) (back (rule_grows (constant_init constant u.sort) s.at (pos_in a) z) clean) in
      let i = nodes_typed false c Read a w s t is m h early tt few al in
      let fitting = rule_alike 0 0 (seen_at v) (fits k u.sort) s.at t.at (pos_in a) (pos_in b) i.state in
      let judged = rule_alike 0 0 (seen_at v) (constant_init constant u.sort) s.at t.at (pos_in a) (pos_in b) fitting in
      record { init = ap one i.node; state = subst (λ q. Follows v (rule (constant_init constant u.sort) s.at (pos_in a) z) (rule (constant_init constant q) t.at (pos_in b) (rule (fits k q) t.at (pos_in b) y.state))) (sym i.sort) judged }

  one_typed : (o : Option (ℕ × ℕ)) (constant : Bool) → (
      let x = one_init_of o constant k a s in
      let b = probed_node c Read (value_node o a s) w in
      let v = walk_node c Read (value_node o a s) w in
      (x.init ≡ one (value_node o a s)) × (IsClean x.state → HasFewItems v → IsInitTypedAs v x (one b) (one_init_of o constant k b t)))
  one_typed (Some (bytes, elements)) constant = (refl, λ clean few. string_typed bytes elements constant clean few)
  one_typed None constant = (refl, λ clean few. value_typed constant clean few)

-- ---- variables

-- the name comes out with its probe, and the declarator as it stands
record IsNameTypedAs (v : Walked) (x : TypedDeclarator) (d : DeclaratorShape) (y : TypedDeclarator) : Type 0 where
  name : y.name ≡ d
  state : Follows v x.state y.state

-- a variable behind its lengths
abbrev variable_of : Option TypeOf → List Star → Option Named → MaybeInit → State → TypedLengths → TypedDeclarator
variable_of k stars x i s l =
    let begun = steps (star_tokens stars) s in
    let token = token_of_name begun.at x begun in
    let r = variable_rule l.state.rooms (lengths_with i l.counts) (pointed stars k) in
    let d = declare_variable token (name_pos first_place x) (text_of x) (kind_at r) (rule r token (name_pos first_place x) l.state) in
    let j = type_maybe_init (nat_eq s.function 0) (kind_at r) i d in
    record { name = declarator stars x (arrays l.lengths) j.init; state = j.state }

-- with its lengths typed once more it is the same
variable_again : (k : Option TypeOf) (stars : List Star) (x : Option Named) (ls : LengthShapes) (i : MaybeInit) (s : State) → type_variable k stars x (variable_lengths stars x ls i s).lengths i s ≡ type_variable k stars x ls i s
variable_again k stars x ls i s =
    let v = steps (name_tokens x) (claim_name (nat_eq s.function 0 || has_init i) x (steps (star_tokens stars) s)) in
    ap (variable_of k stars x i s) (lengths_again [] [] ls v v)

-- where no initialiser stands, or the name is none of a variable, no probe stands there either
plain_name : (seen : Walked) (k k' : Option TypeOf) (d : DeclaratorShape) (x : TypedDeclarator) (s t : State) → k' ≡ k → declarator_mark d ≡ None → type_declarator k d s ≡ x → x.name ≡ d → Follows seen s t → IsNameTypedAs seen x d (type_declarator k' d t)
plain_name seen k k' d x s t e none again same al =
    let i = plain_ones.declarator_alike 0 0 (seen_at seen) k k' d e none al in
    record {
      name = i.name ∙ (ap (λ (z : TypedDeclarator). z.name) again ∙ same);
      state = subst (λ (z : TypedDeclarator). Follows seen z.state (type_declarator k' d t).state) again i.state;
    }

same_first : (i j : InitShape) (cs : List Length) → length_in j ≡ length_in i → lengths_with (one_init j) cs ≡ lengths_with (one_init i) cs
same_first i j [] e = refl
same_first i j (left_out ∷ cs) e = ap (λ l. l ∷ cs) e
same_first i j (counted n ∷ cs) e = refl
same_first i j (unclear ∷ cs) e = refl

length_of_form : (a : NodeShape) → length_in (one a) ≡ length_in_form (form_in a)
length_of_form (node p o n f) = refl

-- so many elements a string gives, with probes as without
length_probed : (c : Around) (o : Option (ℕ × ℕ)) (a : NodeShape) (s : State) (w : Walked) → length_in (one (probed_node c Read (value_node o a s) w)) ≡ length_in (one a)
length_probed c (Some x) (node p q n f) s w = length_of_form _ ∙ probed_asked length_in_form left_out asks_lengths c p q n f (hushed s) w
length_probed c None (node p q n f) s w = length_of_form _ ∙ probed_asked length_in_form left_out asks_lengths c p q n f s w

filled_probed : (c : Around) (m : Option ℕ) (o : Option (ℕ × ℕ)) (a : NodeShape) (s : State) (w : Walked) → filled m (form_in (probed_node c Read (value_node o a s) w)) ≡ filled m (form_in a)
filled_probed c m (Some x) (node p q n f) s w = probed_asked (filled m) None (asks_chars m) c p q n f (hushed s) w
filled_probed c m None (node p q n f) s w = probed_asked (filled m) None (asks_chars m) c p q n f s w

or_true : (b : Bool) → (b || true) ≡ true
or_true true = refl
or_true false = refl

-- at its name
module _ (tables : TablesShape) (c : Around) (k k' : Option TypeOf) (stars : List Star) (y : Named) (ls : LengthShapes) (w : Walked) (s t : State) where
  abbrev behind_name : Walked
  behind_name = with_whole_def tables c.function (Some y) (with_variable w)

  abbrev mark : ProbeMark
  mark = mark_at y.pos (next_def (with_variable w))

  claimed : HasFewItems behind_name → Follows w s t → (let b = steps (star_tokens stars) t in Follows behind_name (steps (star_tokens stars) s) (claim def mark.number b.at mark.pos b))
  claimed few al =
      let b = steps (star_tokens stars) t in
      def_claimed 0 0 b.at y.pos (name_pos first_place (Some y)) c.function (whole tables (with_variable w).variables) (with_variable w) (few_defs (name_pos first_place (Some y)) c.function (whole tables (with_variable w).variables) (with_variable w) few)
      (steps_alike 0 0 (seen_at w) (star_tokens stars) al)

  -- up to the initialiser, with the lengths as they were typed
  record Begins (i i' : MaybeInit) : Type 0 where
    lengths : (variable_lengths stars (Some (marked mark y)) (variable_lengths stars (Some y) ls i s).lengths i' t).lengths ≡ (variable_lengths stars (Some y) ls i s).lengths
    kind : variable_kind k' stars (Some (marked mark y)) (variable_lengths stars (Some y) ls i s).lengths i' t ≡ variable_kind k stars (Some y) ls i s
    state : Follows behind_name (variable_state k stars y ls i s) (variable_state k' stars (marked mark y) (variable_lengths stars (Some y) ls i s).lengths i' t)

  begins : (i i' : InitShape) → k' ≡ k → name_mark (Some y) ≡ None → lengths_mark (variable_lengths stars (Some y) ls (one_init i) s).lengths ≡ None → length_in i' ≡ length_in i → HasFewItems behind_name → Follows w s t → Begins (one_init i) (one_init i')
  begins i i' e none long same few al =
      let v = steps (name_tokens (Some y)) (claim_name (nat_eq s.function 0 || true) (Some y) (steps (star_tokens stars) s)) in
      let l = type_lengths [] ls v in
      let again : type_lengths [] l.lengths v ≡ l = lengths_again [] [] ls v v in
      let r : AlikeVariable 0 0 (seen_at behind_name) k k' stars y mark l.lengths (one_init i) (one_init i') s t = variable_marked 0 0 (seen_at behind_name) k k' stars y mark l.lengths (one_init i) (one_init i') e none long (λ cs. same_first i i' cs same) s t (or_true (nat_eq t.function 0)) (claimed few al) in
      let begun = steps (star_tokens stars) s in
      record {
        lengths = r.lengths ∙ ap (λ (z : TypedLengths). z.lengths) again;
        kind = r.kind ∙ ap (λ (z : TypedLengths). kind_at (variable_rule z.state.rooms (lengths_with (one_init i) z.counts) (pointed stars k))) again;
        state = subst (λ (z : TypedLengths). Follows behind_name (judged_variable (token_of_name begun.at (Some y) begun) y.pos y.text (lengths_with (one_init i) z.counts) (pointed stars k) z.state) (variable_state k' stars (marked mark y) l.lengths (one_init i') t)) again r.state;
      }

  -- what is known there
  known : (i : MaybeInit) → ShapedLengths true ls → IsThere k → Knows false s → IsClean (variable_state k stars y ls i s) → Knows false (variable_state k stars y ls i s)
  known i is there h declared =
      let b = steps (star_tokens stars) s in
      let fit = nat_eq s.function 0 || has_init i in
      let v = steps (name_tokens (Some y)) (claim_name fit (Some y) b) in
      let l = type_lengths [] ls v in
      let token = token_of_name b.at (Some y) b in
      let counts = lengths_with i l.counts in
      let r = variable_rule l.state.rooms counts (pointed stars k) in
      let u = rule r token y.pos l.state in
      let here = find_here y.text u.names in
      let ruled = back (variable_at_grows token y.pos y.text (kind_at r) here u) declared in
      let one = name_goes fit (Some y) b h in
      let two = lengths_know true [] ls v is tt one.0 (back (rule_grows r token y.pos l.state) ruled) in
      let three = rule_goes r token y.pos l.state two.1.0 in
      let typed = type_there r token y.pos l.state (variable_settled l.state.rooms counts (pointed stars k) (with_clear i l.counts two.0) (pointed_there stars k there)) ruled in
      (variable_at_goes token y.pos y.text (kind_at r) here u typed three.0).0

  -- with an expression
  abbrev Comes : InitShape → InitShape → Type 0
  Comes i j =
      let x = type_variable k stars (Some y) ls (one_init i) s in
      let d = declarator stars (Some y) (arrays (variable_lengths stars (Some y) ls (one_init i) s).lengths) (one_init j) in
      let p = probed_declarator tables c d w in
      let v = walk_declarator tables c d w in
      HasFewItems v → IsNameTypedAs v x p (type_declarator k' p t)

  with_one : (a : NodeShape) → k' ≡ k → name_mark (Some y) ≡ None → lengths_mark (variable_lengths stars (Some y) ls (one_init (one a)) s).lengths ≡ None → Shaped a → node_mark a ≡ None → ShapedLengths true ls → IsThere k → Knows false s
      → (let x = type_variable k stars (Some y) ls (one_init (one a)) s in IsClean x.state → Follows w s t
      → (let q = variable_kind k stars (Some y) ls (one_init (one a)) s in let d = variable_state k stars y ls (one_init (one a)) s in Comes (one a) (one (value_node (filled (chars_of q) (form_in a)) a (step d)))))
  with_one a e none long is m its there h clean al few =
      let i = one_init (one a) in
      let q = variable_kind k stars (Some y) ls i s in
      let d = variable_state k stars y ls i s in
      let o = filled (chars_of q) (form_in a) in
      let n = value_node o a (step d) in
      let b = probed_node c Read n behind_name in
      let few_w : HasFewItems behind_name = few_before (node_on c Read n behind_name) few in
      let l = (variable_lengths stars (Some y) ls i s).lengths in
      let r = begins (one a) (one b) e none long (length_probed c o a (step d) behind_name) few_w al in
      let d' = variable_state k' stars (marked mark y) l (one_init (one b)) t in
      let q' = variable_kind k' stars (Some (marked mark y)) l (one_init (one b)) t in
      let declared = back (maybe_init_grows (nat_eq s.function 0) q i d) clean in
      let done = (one_typed c q a behind_name (step d) (step d') is m (known i its there h declared) (steps_alike 0 0 (seen_at behind_name) 1 r.state) o (nat_eq s.function 0)).1 clean few in
      let same : one_init_of (filled (chars_of q') (form_in b)) (nat_eq t.function 0) q' b (step d') ≡ one_init_of o (nat_eq s.function 0) q b (step d') =
      three (λ x z g. one_init_of x z g b (step d')) (ap (λ g. filled (chars_of g) (form_in b)) r.kind ∙ filled_probed c (chars_of q) o a (step d) behind_name) (ap (λ f. nat_eq f 0) (function_same 0 0 (seen_at w) al)) r.kind in
      record {
        name = ap₂ (λ x z. declarator stars (Some (marked mark y)) (arrays x) (one_init z)) r.lengths (ap (λ (z : TypedInit). z.init) same ∙ done.init);
        state = subst (λ (z : TypedInit). Follows (walk_node c Read n behind_name) (one_init_of o (nat_eq s.function 0) q a (step d)).state z.state) (sym same) done.state;
      }

  -- with a list in braces
  with_list : (p : Pos) (items : InitShapes) (last : Bool) → k' ≡ k → name_mark (Some y) ≡ None → (
      let i = listed p items last in
      let q = variable_kind k stars (Some y) ls (one_init i) s in
      let d = variable_state k stars y ls (one_init i) s in
      let j = (type_init (nat_eq s.function 0) q i (step d)).init in
      lengths_mark (variable_lengths stars (Some y) ls (one_init i) s).lengths ≡ None → init_mark j ≡ None → Follows w s t → Comes i j)
  with_list p items last e none long nm al few =
      let i = listed p items last in
      let q = variable_kind k stars (Some y) ls (one_init i) s in
      let d = variable_state k stars y ls (one_init i) s in
      let constant = nat_eq s.function 0 in
      let j = (type_init constant q i (step d)).init in
      let l = (variable_lengths stars (Some y) ls (one_init i) s).lengths in
      let r = begins i j e none long (length_again i constant q (step d)) few al in
      let d' = variable_state k' stars (marked mark y) l (one_init j) t in
      let q' = variable_kind k' stars (Some (marked mark y)) l (one_init j) t in
      let again : type_init constant q j (step d) ≡ type_init constant q i (step d) = init_again constant constant q q i (step d) (step d) in
      let done = plain_ones.init_alike 0 0 (seen_at behind_name) constant (nat_eq t.function 0) q q' j (ap (λ f. nat_eq f 0) (function_same 0 0 (seen_at w) al)) r.kind nm (steps_alike 0 0 (seen_at behind_name) 1 r.state) in
      record {
        name = ap₂ (λ x z. declarator stars (Some (marked mark y)) (arrays x) (one_init z)) r.lengths (done.init ∙ ap (λ (z : TypedInit). z.init) again);
        state = subst (λ (z : TypedInit). Follows behind_name z.state (type_init (nat_eq t.function 0) q' j (step d')).state) again done.state;
      }

-- ---- declarators

-- what one_init_of makes of an expression
init_is : (o : Option (ℕ × ℕ)) (constant : Bool) (k : Option TypeOf) (a : NodeShape) (s : State) → (one_init_of o constant k a s).init ≡ one (value_node o a s)
init_is (Some x) constant k a s = refl
init_is None constant k a s = refl

declarator_typed : (tables : TablesShape) (c : Around) (k k' : Option TypeOf) (d : DeclaratorShape) (w : Walked) (s t : State) → k' ≡ k → ShapedDeclarator in_names d → declarator_mark d ≡ None → IsThere k → Knows false s → (
    let x = type_declarator k d s in
    let p = probed_declarator tables c x.name w in
    let v = walk_declarator tables c x.name w in
    declarator_mark x.name ≡ None → IsClean x.state → HasFewItems v → Follows w s t → IsNameTypedAs v x p (type_declarator k' p t))
declarator_typed tables c k k' (declarator stars x (function ps) i) w s t e is m there h n clean few al =
    let f = type_declarator k (declarator stars x (function ps) i) s in
    plain_name w k k' f.name f s t e n (ap plain_declarator (function_again false k stars x ps i _ s)) refl al
declarator_typed tables c k k' (declarator stars x (arrays ls) no_init) w s t e is m there h n clean few al =
    let f = type_declarator k (declarator stars x (arrays ls) no_init) s in
    plain_name (with_variable w) k k' f.name f s t e n (variable_again k stars x ls no_init s) refl al
declarator_typed tables c k k' (declarator stars None (arrays ls) (one_init i)) w s t e is m there h n clean few al = let none = is.0 in absurd (cc)
declarator_typed tables c k k' (declarator stars (Some y) (arrays ls) (one_init (one a))) w s t e is m there h n clean few al =
    let q = variable_kind k stars (Some y) ls (one_init (one a)) s in
    let d = variable_state k stars y ls (one_init (one a)) s in
    let o = filled (chars_of q) (form_in a) in
    let f = type_declarator k (declarator stars (Some y) (arrays ls) (one_init (one a))) s in
    let l = (variable_lengths stars (Some y) ls (one_init (one a)) s).lengths in
    let last = none_second (name_mark (Some y)) (first (lengths_mark ls) (node_mark a)) m in
    let long = none_first (lengths_mark l) (maybe_init_mark (one_init (one_init_of o (nat_eq s.function 0) q a (step d)).init)) (none_second (name_mark (Some y)) (first (lengths_mark l) (maybe_init_mark (one_init (one_init_of o (nat_eq s.function 0) q a (step d)).init))) n) in
    subst (Comes tables c k k' stars y ls w s t (one a)) (sym (init_is o (nat_eq s.function 0) q a (step d)))
    (with_one tables c k k' stars y ls w s t a e (none_first (name_mark (Some y)) (first (lengths_mark ls) (node_mark a)) m) long is.2.1.1 (none_second (lengths_mark ls) (node_mark a) last) is.1 there h clean al) few
declarator_typed tables c k k' (declarator stars (Some y) (arrays ls) (one_init (listed p items end))) w s t e is m there h n clean few al =
    let i = listed p items end in
    let q = variable_kind k stars (Some y) ls (one_init i) s in
    let d = variable_state k stars y ls (one_init i) s in
    let l = (variable_lengths stars (Some y) ls (one_init i) s).lengths in
    let j = (type_init (nat_eq s.function 0) q i (step d)).init in
    let last = none_second (name_mark (Some y)) (first (lengths_mark l) (init_mark j)) n in
    with_list tables c k k' stars y ls w s t p items end e (none_first (name_mark (Some y)) (first (lengths_mark ls) (init_mark i)) m) (none_first (lengths_mark l) (init_mark j) last) (none_second (lengths_mark l) (init_mark j) last) al few

-- ---- declarations

record AreNamesTypedAs (v : Walked) (x : TypedDeclarators) (ds : DeclaratorShapes) (y : TypedDeclarators) : Type 0 where
  names : y.names ≡ ds
  state : Follows v x.state y.state

names_on : (tables : TablesShape) (c : Around) (ds : DeclaratorShapes) (w : Walked) → IsBefore w (walk_declarators tables c ds w)
names_on tables c ds w = decl_on tables c (decl first_place no_specs ds) w

declarators_typed : (tables : TablesShape) (c : Around) (k k' : Option TypeOf) (ds : DeclaratorShapes) (w : Walked) (s t : State) → k' ≡ k → ShapedDeclarators in_names ds → declarators_mark ds ≡ None → IsThere k → Knows false s → (
    let x = type_declarators k ds s in
    let ps = probed_declarators tables c x.names w in
    let v = walk_declarators tables c x.names w in
    declarators_mark x.names ≡ None → IsClean x.state → HasFewItems v → Follows w s t → AreNamesTypedAs v x ps (type_declarators k' ps t))
declarators_typed tables c k k' no_declarators w s t e is m there h n clean few al = record { names = refl; state = al }
declarators_typed tables c k k' (more_declarators d rest) w s t e is m there h n clean few al =
    let x = type_declarator k d s in
    let y = type_declarators k rest (step x.state) in
    let v = walk_declarator tables c x.name w in
    let late = back (declarators_grow k rest (step x.state)) clean in
    let nm = none_first (declarator_mark x.name) (declarators_mark y.names) n in
    let i = declarator_typed tables c k k' d w s t e is.0 (none_first (declarator_mark d) (declarators_mark rest) m) there h nm late (few_before (names_on tables c y.names v) few) al in
    let known_then = (declarator_fits k d s is.0 nm there h late).0.0 in
    let j = declarators_typed tables c k k' rest v (step x.state) (step (type_declarator k' (probed_declarator tables c x.name w) t).state) e is.1 (none_second (declarator_mark d) (declarators_mark rest) m) there known_then (none_second (declarator_mark x.name) (declarators_mark y.names) n) clean few (steps_alike 0 0 (seen_at v) 1 i.state) in
    record { names = ap₂ more_declarators i.name j.names; state = j.state }

none_probed : (tables : TablesShape) (c : Around) (k : Option TypeOf) (ds : DeclaratorShapes) (s : State) (w : Walked) → (none_declared (probed_declarators tables c (type_declarators k ds s).names w) ≡ none_declared ds) × (semicolon (probed_declarators tables c (type_declarators k ds s).names w) ≡ semicolon ds)
none_probed tables c k no_declarators s w = (refl, refl)
none_probed tables c k (more_declarators d rest) s w = (refl, refl)

record IsDeclTypedAs (v : Walked) (x : TypedDecl) (d : DeclShape) (y : TypedDecl) : Type 0 where
  decl : y.decl ≡ d
  state : Follows v x.state y.state

-- a declaration, by its specifiers and names
abbrev decl_with : Pos → Bool → ℕ → SpecShapes → DeclaratorShapes → State → TypedDecl
decl_with p none end specs names s =
    let t = type_specs none specs unspelled s in
    let r = spelled_rule t.spelled in
    let n = type_declarators (kind_at r) names (steps end (rule r s.at p t.state)) in
    record { decl = decl p t.specs n.names; state = n.state }

decl_typed : (tables : TablesShape) (c : Around) (d : DeclShape) (w : Walked) (s t : State) → ShapedDecl in_names d → decl_mark d ≡ None → Knows false s → (
    let x = type_decl d s in
    let p = probed_decl tables c x.decl w in
    let v = walk_decl tables c x.decl w in
    decl_mark x.decl ≡ None → IsClean x.state → HasFewItems v → Follows w s t → IsDeclTypedAs v x p (type_decl p t))
decl_typed tables c (decl p specs names) w s t is m h n clean few al =
    let none = none_declared names in
    let end = semicolon names in
    let x = type_specs none specs unspelled s in
    let r = spelled_rule x.spelled in
    let u = rule r s.at p x.state in
    let y = type_declarators (kind_at r) names (steps end u) in
    let parts = decl_parts in_names p specs names is in
    let ruled = back (declarators_grow (kind_at r) names (steps end u)) clean in
    let one = specs_know none specs unspelled s (all_specs specs parts.0) (inl refl) h (back (rule_grows r s.at p x.state) ruled) in
    let two = rule_goes r s.at p x.state one.1.0 in
    let spelled = type_there r s.at p x.state (spelled_settled x.spelled one.0) ruled in
    let ps = probed_declarators tables c y.names w in
    let again : type_specs none x.specs unspelled s ≡ x = specs_again none specs unspelled unspelled s s in
    let i = subst (λ z. AlikeSpecs 0 0 (seen_at w) z (type_specs none x.specs unspelled t)) again (specs_alike 0 0 (seen_at w) none x.specs (none_first (specs_mark x.specs) (declarators_mark y.names) n) unspelled unspelled refl al) in
    let r' = ap spelled_rule i.spelled in
    let z = type_specs none x.specs unspelled t in
    let j = declarators_typed tables c (kind_at r) (kind_at (spelled_rule z.spelled)) names w (steps end u) (steps end (rule (spelled_rule z.spelled) t.at p z.state)) (ap kind_at r') parts.1 (none_second (specs_mark specs) (declarators_mark names) m) spelled two.0 (none_second (specs_mark x.specs) (declarators_mark y.names) n) clean few
    (steps_alike 0 0 (seen_at w) end (ruled_alike 0 0 (seen_at w) _ _ s.at t.at p r' i.state)) in
    let same = none_probed tables c (kind_at r) names (steps end u) w in
    let whole_same : type_decl (decl p x.specs ps) t ≡ decl_with p none end x.specs ps t = ap₂ (λ b k. decl_with p b k x.specs ps t) same.0 same.1 in
    record {
      decl = ap (λ (q : TypedDecl). q.decl) whole_same ∙ ap₂ (decl p) i.specs j.names;
      state = subst (λ (q : TypedDecl). Follows (walk_declarators tables c y.names w) y.state q.state) (sym whole_same) j.state;
    }

pub decls_typed : DeclsAreTypedAs
decls_typed tables c no_decls w s t is m h n clean few al = record { decls = refl; state = al }
decls_typed tables c (more_decls d rest) w s t is m h n clean few al =
    let x = type_decl d s in
    let y = type_decls rest x.state in
    let v = walk_decl tables c x.decl w in
    let late = back (decls_grow rest x.state) clean in
    let nm = none_first (decl_mark x.decl) (decls_mark y.decls) n in
    let i = decl_typed tables c d w s t is.0 (none_first (decl_mark d) (decls_mark rest) m) h nm late (few_before (decls_on tables c y.decls v) few) al in
    let known_then = (decl_fits d s is.0 nm h late).0.0 in
    let j = decls_typed tables c rest v x.state (type_decl (probed_decl tables c x.decl w) t).state is.1 (none_second (decl_mark d) (decls_mark rest) m) known_then (none_second (decl_mark x.decl) (decls_mark y.decls) n) clean few i.state in
    record { decls = ap₂ more_decls i.decl j.decls; state = j.state }
