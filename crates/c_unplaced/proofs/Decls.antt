-- Initialisers, declarators, parameters and declarations are typed alike without their places.
use Rattle.std.proofs.Common.{◌≡◌, ℕ, ◌+◌, List, [], ◌∷◌, ◌||◌, map, nat_eq, Option, Some, None, option_map, Bool, true, refl, ap, ◌∙◌}
use Rattle.c_base.specs.declared.place.Pos.{Pos}
use Rattle.c_syntax.specs.declared.text.Text.{Text}
use Rattle.c_syntax.specs.declared.tree.Named.{Named}
use Rattle.c_syntax.specs.declared.tree.ProbeMark.{ProbeMark}
use Rattle.c_syntax.specs.declared.tree.Star.{Star}
use Rattle.c_syntax.specs.Start.{start}
use Rattle.c_syntax.specs.Shape.{TypeOf, int, pointer, array, structure, nothing, def, number, char, str, name, NodeShape, node, ExprShape, leaf, paren, call, prefix, size_of_type, cast, suffix, two, choose, probe, LengthShapes, declarator, arrays, MaybeInit, no_init, one_init, InitShape, one, listed, InitShapes, no_inits, more_inits}
use Rattle.c_scopes.specs.Scoping.{find_here}
use Rattle.c_tables.specs.Rows.{text_of, name_pos}
use Rattle.c_tree.specs.declared.meaning.Entity.{Entity}
use Rattle.c_tree.specs.Complaints.{declared_twice, stray}
use Rattle.c_tree.specs.State.{State, steps, step, demand}
use Rattle.c_tree.specs.Rulings.{rule, kind_at, of_kind}
use Rattle.c_tree.specs.Sorts.{TypedNode, pos_in}
use Rattle.c_tree.specs.Operators.{claim, heard, hushed}
use Rattle.c_tree.specs.Parts.{Length, counted, left_out, unclear, TypedLengths, pointed, star_tokens}
use Rattle.c_tree.specs.Typing.{type_node, type_lengths}
use Rattle.c_tree.specs.Initialisers.{count_items, kept, length_in_form, length_in, lengths_with, TypedInit, chars_of, filled, form_in, string_init, constant_init, fits, value_init, one_init_of, Slots, slots_in, slots, list_rule, slot, slot_rule, further, init_pos, TypedInits, one_item, list_end, type_init, type_inits}
use Rattle.c_tree.specs.Declaring.{probe_tokens, name_tokens, claim_mark, claim_name, token_of_name, with_variable, variable_at, declare_variable, variable_rule, has_init, TypedMaybeInit, an_init, type_maybe_init, TypedDeclarator, type_variable, TypedParam, TypedParams, TypedSignature, TypedFunction, TypedDeclarators, TypedDecl, TypedDeclList}
use Rattle.c_placing.specs.Unplaced.{unplaced_mark, unplaced_named, unplaced_star, unplaced_node, unplaced_form, unplaced_lengths, unplaced_decl, unplaced_decls, unplaced_name, unplaced_names, unplaced_params, unplaced_maybe_init, unplaced_init, unplaced_inits}
use Rattle.c_unplaced.specs.Unplaced.{unplaced_state}
use Rattle.c_unplaced.proofs.Rules.{complained, ruled, demanded, number_taken}
use Rattle.c_unplaced.proofs.Nodes.{unplaced_typed, unplaced_counts, pos_start, stars_same, pointed_same, text_same, name_start, node_typed, lengths_typed}

-- ---- what is typed, without its places

abbrev pub unplaced_item : TypedInit → TypedInit
unplaced_item t = record { init = unplaced_init t.init; state = unplaced_state t.state }

abbrev pub unplaced_list : TypedInits → TypedInits
unplaced_list t = record { inits = unplaced_inits t.inits; state = unplaced_state t.state }

abbrev pub unplaced_maybe_item : TypedMaybeInit → TypedMaybeInit
unplaced_maybe_item t = record { init = unplaced_maybe_init t.init; state = unplaced_state t.state }

abbrev pub unplaced_variable : TypedDeclarator → TypedDeclarator
unplaced_variable t = record { name = unplaced_name t.name; state = unplaced_state t.state }

abbrev pub unplaced_param : TypedParam → TypedParam
unplaced_param t = record { param = unplaced_decl t.param; kind = t.kind; state = unplaced_state t.state }

abbrev pub unplaced_param_list : TypedParams → TypedParams
unplaced_param_list t = record { params = unplaced_decls t.params; given = t.given; state = unplaced_state t.state }

abbrev pub unplaced_signature : TypedSignature → TypedSignature
unplaced_signature t = record { params = unplaced_params t.params; given = t.given; state = unplaced_state t.state }

abbrev pub unplaced_function : TypedFunction → TypedFunction
unplaced_function t = record { name = unplaced_name t.name; number = t.number; given = t.given; state = unplaced_state t.state }

abbrev pub unplaced_declarators : TypedDeclarators → TypedDeclarators
unplaced_declarators t = record { names = unplaced_names t.names; state = unplaced_state t.state }

abbrev pub unplaced_declared : TypedDecl → TypedDecl
unplaced_declared t = record { decl = unplaced_decl t.decl; state = unplaced_state t.state }

abbrev pub unplaced_decl_list : TypedDeclList → TypedDeclList
unplaced_decl_list t = record { decls = unplaced_decls t.decls; state = unplaced_state t.state }

-- ---- initialisers

count_same : (list : InitShapes) → count_items (unplaced_inits list) ≡ count_items list
count_same no_inits = refl
count_same (more_inits i rest) = ap (λ n. 1 + n) (count_same rest)

form_length : (f : ExprShape) → length_in_form (unplaced_form f) ≡ length_in_form f
form_length (leaf (number t)) = refl
form_length (leaf (char c)) = refl
form_length (leaf (str t)) = refl
form_length (leaf (name x)) = refl
form_length (paren a) = refl
form_length (call x args) = refl
form_length (prefix u a) = refl
form_length (size_of_type t) = refl
form_length (cast t a) = refl
form_length (suffix a s) = refl
form_length (two u a b) = refl
form_length (choose a b c) = refl
form_length (probe u a) = refl

length_same : (i : InitShape) → length_in (unplaced_init i) ≡ length_in i
length_same (one (node p o n f)) = form_length f
length_same (listed p list last) = ap kept (count_same list)

lengths_same : (i : MaybeInit) (ls : List Length) → lengths_with (unplaced_maybe_init i) ls ≡ lengths_with i ls
lengths_same no_init ls = refl
lengths_same (one_init i) [] = refl
lengths_same (one_init i) (left_out ∷ ls) = ap (λ l. l ∷ ls) (length_same i)
lengths_same (one_init i) (counted n ∷ ls) = refl
lengths_same (one_init i) (unclear ∷ ls) = refl

form_filled : (n : Option ℕ) (f : ExprShape) → filled n (unplaced_form f) ≡ filled n f
form_filled None f = refl
form_filled (Some n) (leaf (number t)) = refl
form_filled (Some n) (leaf (char c)) = refl
form_filled (Some n) (leaf (str t)) = refl
form_filled (Some n) (leaf (name x)) = refl
form_filled (Some n) (paren a) = refl
form_filled (Some n) (call x args) = refl
form_filled (Some n) (prefix u a) = refl
form_filled (Some n) (size_of_type t) = refl
form_filled (Some n) (cast t a) = refl
form_filled (Some n) (suffix a s) = refl
form_filled (Some n) (two u a b) = refl
form_filled (Some n) (choose a b c) = refl
form_filled (Some n) (probe u a) = refl

node_filled : (n : Option ℕ) (a : NodeShape) → filled n (form_in (unplaced_node a)) ≡ filled n (form_in a)
node_filled n (node p o m f) = form_filled n f

slots_of : (t : TypeOf) (s : State) → slots_in t (unplaced_state s) ≡ slots_in t s
slots_of (int k) s = refl
slots_of (pointer t) s = refl
slots_of (array t n) s = refl
slots_of (structure n) s = refl
slots_of nothing s = refl

slots_same : (k : Option TypeOf) (s : State) → slots k (unplaced_state s) ≡ slots k s
slots_same None s = refl
slots_same (Some t) s = slots_of t s

init_start : (i : InitShape) → init_pos (unplaced_init i) ≡ start
init_start (one a) = pos_start a
init_start (listed p list last) = refl

string_typed : (bytes elements : ℕ) (p : Pos) (token : ℕ) (quiet : Bool) (t : TypedNode) → string_init bytes elements start token quiet (unplaced_typed t) ≡ unplaced_item (string_init bytes elements p token quiet t)
string_typed bytes elements p token quiet t = ap (λ u. record { init = one (unplaced_node t.node); state = u }) (ruled _ token p (heard quiet t.state))

value_typed : (c : Bool) (k : Option TypeOf) (token : ℕ) (p : Pos) (t : TypedNode) → value_init c k token start (unplaced_typed t) ≡ unplaced_item (value_init c k token p t)
value_typed c k token p t =
    ap (λ u. record { init = one (unplaced_node t.node); state = rule (constant_init c t.sort) token start u }) (ruled (fits k t.sort) token p t.state)
    ∙ ap (λ u. record { init = one (unplaced_node t.node); state = u }) (ruled (constant_init c t.sort) token p (rule (fits k t.sort) token p t.state))

one_typed : (o : Option (ℕ × ℕ)) (c : Bool) (k : Option TypeOf) (a : NodeShape) (s : State) → one_init_of o c k (unplaced_node a) (unplaced_state s) ≡ unplaced_item (one_init_of o c k a s)
one_typed (Some (bytes, elements)) c k a s =
    ap (λ q. string_init bytes elements q s.at s.quiet (type_node (unplaced_node a) (unplaced_state (hushed s)))) (pos_start a)
    ∙ (ap (string_init bytes elements start s.at s.quiet) (node_typed a (hushed s)) ∙ string_typed bytes elements (pos_in a) s.at s.quiet (type_node a (hushed s)))
one_typed None c k a s =
    ap (λ q. value_init c k s.at q (type_node (unplaced_node a) (unplaced_state s))) (pos_start a)
    ∙ (ap (value_init c k s.at start) (node_typed a s) ∙ value_typed c k s.at (pos_in a) (type_node a s))

mutual
  pub init_typed : (c : Bool) (k : Option TypeOf) (i : InitShape) (s : State) → type_init c k (unplaced_init i) (unplaced_state s) ≡ unplaced_item (type_init c k i s)
  init_typed c k (one a) s = ap (λ o. one_init_of o c k (unplaced_node a) (unplaced_state s)) (node_filled (chars_of k) a) ∙ one_typed (filled (chars_of k) (form_in a)) c k a s
  init_typed c k (listed p list last) s =
      let r = of_kind k list_rule in
      let u = step (rule r s.at p s) in
      ap (λ l. let t = type_inits l (unplaced_inits list) (step (rule r s.at start (unplaced_state s))) in record { init = listed start t.inits last; state = steps (list_end last) t.state }) (slots_same k s)
      ∙ (ap (λ v. let t = type_inits (slots k s) (unplaced_inits list) (step v) in record { init = listed start t.inits last; state = steps (list_end last) t.state }) (ruled r s.at p s)
      ∙ ap (λ t. record { init = listed start t.inits last; state = steps (list_end last) t.state }) (inits_typed (slots k s) list u))

  pub inits_typed : (l : Slots) (list : InitShapes) (s : State) → type_inits l (unplaced_inits list) (unplaced_state s) ≡ unplaced_list (type_inits l list s)
  inits_typed l no_inits s = refl
  inits_typed l (more_inits i rest) s =
      let u = rule (slot_rule l) s.at (init_pos i) s in
      let t = type_init true (slot l) i u in
      ap (λ q. let x = type_init true (slot l) (unplaced_init i) (rule (slot_rule l) s.at q (unplaced_state s)) in one_item x (type_inits (further l) (unplaced_inits rest) (step x.state))) (init_start i)
      ∙ (ap (λ v. let x = type_init true (slot l) (unplaced_init i) v in one_item x (type_inits (further l) (unplaced_inits rest) (step x.state))) (ruled (slot_rule l) s.at (init_pos i) s)
      ∙ (ap (λ x. one_item x (type_inits (further l) (unplaced_inits rest) (step x.state))) (init_typed true (slot l) i u)
      ∙ ap (one_item (unplaced_item t)) (inits_typed (further l) rest (step t.state))))

-- ---- declared names

probe_same : (n : ℕ) (m : Option ProbeMark) → probe_tokens n (option_map unplaced_mark m) ≡ probe_tokens n m
probe_same n None = refl
probe_same n (Some m) = refl

pub tokens_same : (x : Option Named) → name_tokens (option_map unplaced_named x) ≡ name_tokens x
tokens_same None = refl
tokens_same (Some x) = ap (λ n. 1 + n) (probe_same 5 x.probe)

pub token_same : (first : ℕ) (x : Option Named) (s : State) → token_of_name first (option_map unplaced_named x) (unplaced_state s) ≡ token_of_name first x s
token_same first None s = refl
token_same first (Some x) s = ap (λ n. (steps n s).at) (probe_same 4 x.probe)

mark_claimed : (may : Bool) (m : Option ProbeMark) (s : State) → claim_mark may (option_map unplaced_mark m) (unplaced_state s) ≡ unplaced_state (claim_mark may m s)
mark_claimed may None s = refl
mark_claimed may (Some m) s = ap (demand may stray s.at start) (number_taken def m.number s.at m.pos s) ∙ demanded may stray s.at m.pos (claim def m.number s.at m.pos s)

pub name_claimed : (may : Bool) (x : Option Named) (s : State) → claim_name may (option_map unplaced_named x) (unplaced_state s) ≡ unplaced_state (claim_name may x s)
name_claimed may None s = refl
name_claimed may (Some x) s = mark_claimed may x.probe s

init_same : (i : MaybeInit) → has_init (unplaced_maybe_init i) ≡ has_init i
init_same no_init = refl
init_same (one_init i) = refl

pub variable_made : (x : Text) (k : Option TypeOf) (s : State) → with_variable x k (unplaced_state s) ≡ unplaced_state (with_variable x k s)
variable_made x None s = refl
variable_made x (Some t) s = refl

variable_declared : (token : ℕ) (p : Pos) (x : Text) (k : Option TypeOf) (s : State) → declare_variable token start x k (unplaced_state s) ≡ unplaced_state (declare_variable token p x k s)
variable_declared token p x k s = at_it (find_here x s.names)
  where
    at_it : (o : Option Entity) → variable_at token start x k o (unplaced_state s) ≡ unplaced_state (variable_at token p x k o s)
    at_it None = variable_made x k s
    at_it (Some e) = complained declared_twice token p s

maybe_init_typed : (c : Bool) (k : Option TypeOf) (i : MaybeInit) (s : State) → type_maybe_init c k (unplaced_maybe_init i) (unplaced_state s) ≡ unplaced_maybe_item (type_maybe_init c k i s)
maybe_init_typed c k no_init s = refl
maybe_init_typed c k (one_init i) s = ap an_init (init_typed c k i (step s))

-- a variable, by its lengths and what they are with its initialiser
abbrev variable_by : List Star → Option Named → MaybeInit → Bool → Option TypeOf → ℕ → TypedLengths → List Length → Pos → Text → TypedDeclarator
variable_by xs y i c k token l counts q v =
    let r = variable_rule l.state.rooms counts k in
    let d = declare_variable token q v (kind_at r) (rule r token q l.state) in
    let j = type_maybe_init c (kind_at r) i d in
    record { name = declarator xs y (arrays l.lengths) j.init; state = j.state }

abbrev variable_with : List Star → Option Named → MaybeInit → Bool → Option TypeOf → ℕ → TypedLengths → TypedDeclarator
variable_with xs y i c k token l = variable_by xs y i c k token l (lengths_with i l.counts) (name_pos start y) (text_of y)

abbrev variable_from : List Star → Option Named → LengthShapes → MaybeInit → Bool → Option TypeOf → Bool → State → TypedDeclarator
variable_from xs y ls i c k may begun = variable_with xs y i c (pointed xs k) (token_of_name begun.at y begun) (type_lengths [] ls (steps (name_tokens y) (claim_name may y begun)))

abbrev ended_with : List Star → Option Named → TypedLengths → TypedMaybeInit → TypedDeclarator
ended_with xs y l m = record { name = declarator xs y (arrays (unplaced_lengths l.lengths)) m.init; state = m.state }

abbrev ended_by : List Star → Option Named → TypedLengths → MaybeInit → Bool → Option TypeOf → State → TypedDeclarator
ended_by xs y l i c k d = ended_with xs y l (type_maybe_init c k i d)

pub variable_typed : (k : Option TypeOf) (stars : List Star) (x : Option Named) (ls : LengthShapes) (i : MaybeInit) (s : State) → type_variable k (map unplaced_star stars) (option_map unplaced_named x) (unplaced_lengths ls) (unplaced_maybe_init i) (unplaced_state s) ≡ unplaced_variable (type_variable k stars x ls i s)
variable_typed k stars x ls i s =
    let xs = map unplaced_star stars in
    let y = option_map unplaced_named x in
    let zs = unplaced_lengths ls in
    let j = unplaced_maybe_init i in
    let c = nat_eq s.function 0 in
    let begun = steps (star_tokens stars) s in
    let may = c || has_init i in
    let u = claim_name may x begun in
    let l = type_lengths [] ls (steps (name_tokens x) u) in
    let token = token_of_name begun.at x begun in
    let p = name_pos start x in
    let r = variable_rule l.state.rooms (lengths_with i l.counts) (pointed stars k) in
    let v = rule r token p l.state in
    let d = declare_variable token p (text_of x) (kind_at r) v in
    ap (λ n. variable_from xs y zs j c k (c || has_init j) (steps n (unplaced_state s))) (stars_same stars)
    ∙ (ap (λ b. variable_from xs y zs j c k (c || b) (unplaced_state begun)) (init_same i)
    ∙ (ap (λ w. variable_with xs y j c (pointed xs k) (token_of_name begun.at y (unplaced_state begun)) (type_lengths [] zs (steps (name_tokens y) w))) (name_claimed may x begun)
    ∙ (ap (λ n. variable_with xs y j c (pointed xs k) (token_of_name begun.at y (unplaced_state begun)) (type_lengths [] zs (steps n (unplaced_state u)))) (tokens_same x)
    ∙ (ap (λ w. variable_with xs y j c (pointed xs k) (token_of_name begun.at y (unplaced_state begun)) w) (lengths_typed [] ls (steps (name_tokens x) u))
    ∙ (ap (λ w. variable_with xs y j c w (token_of_name begun.at y (unplaced_state begun)) (unplaced_counts l)) (pointed_same stars k)
    ∙ (ap (λ n. variable_with xs y j c (pointed stars k) n (unplaced_counts l)) (token_same begun.at x begun)
    ∙ (ap (λ w. variable_by xs y j c (pointed stars k) token (unplaced_counts l) w (name_pos start y) (text_of y)) (lengths_same i l.counts)
    ∙ (ap (λ q. variable_by xs y j c (pointed stars k) token (unplaced_counts l) (lengths_with i l.counts) q (text_of y)) (name_start x)
    ∙ (ap (λ w. variable_by xs y j c (pointed stars k) token (unplaced_counts l) (lengths_with i l.counts) start w) (text_same x)
    ∙ (ap (λ w. ended_by xs y l j c (kind_at r) (declare_variable token start (text_of x) (kind_at r) w)) (ruled r token p l.state)
    ∙ (ap (ended_by xs y l j c (kind_at r)) (variable_declared token p (text_of x) (kind_at r) v)
    ∙ ap (ended_with xs y l) (maybe_init_typed c (kind_at r) i d))))))))))))
