-- Initialisers, variables and parameters are typed alike without their notes.
use Rattle.std.proofs.Common.{◌≡◌, ℕ, ◌+◌, List, [], ◌∷◌, ◌||◌, nat_eq, Option, Some, None, Bool, true, false, refl, ap, ◌∙◌}
use Rattle.c_base.specs.declared.place.Pos.{Pos}
use Rattle.c_syntax.specs.declared.tree.Named.{Named}
use Rattle.c_syntax.specs.declared.tree.Star.{Star}
use Rattle.c_syntax.specs.Shape.{TypeOf, number, char, str, name, NodeShape, node, ExprShape, leaf, paren, call, prefix, size_of_type, cast, suffix, two, choose, probe, LengthShapes, SpecShapes, DeclShape, decl, DeclShapes, no_decls, more_decls, declarator, no_declarators, more_declarators, arrays, function, ParamsShape, empty, void, params, MaybeInit, no_init, one_init, InitShape, one, listed, InitShapes, no_inits, more_inits}
use Rattle.c_tables.specs.Rows.{first_place, text_of, name_pos}
use Rattle.c_tree.specs.Complaints.{wrong_type}
use Rattle.c_tree.specs.State.{State, steps, step, complain}
use Rattle.c_tree.specs.Rulings.{rule, kind_at, of_kind}
use Rattle.c_tree.specs.Sorts.{pos_in}
use Rattle.c_tree.specs.Operators.{hushed}
use Rattle.c_tree.specs.Parts.{Length, counted, left_out, unclear, TypedLengths, pointed, star_tokens, unspelled, spelled_rule, TypedSpecs}
use Rattle.c_tree.specs.Typing.{type_node, type_lengths, type_specs}
use Rattle.c_tree.specs.Initialisers.{count_items, kept, length_in_form, length_in, lengths_with, TypedInit, chars_of, filled, form_in, string_init, value_init, one_init_of, Slots, slots, list_rule, slot, slot_rule, further, init_pos, TypedInits, one_item, list_end, type_init, type_inits}
use Rattle.c_tree.specs.Declaring.{name_tokens, claim_name, token_of_name, declare_variable, variable_rule, has_init, TypedMaybeInit, an_init, type_maybe_init, TypedDeclarator, type_variable, TypedParam, TypedParams, declare_parameter, parameter_rule, name_demand, type_param, one_param, type_param_list, TypedSignature, listed_params, type_params}
use Rattle.c_tree.specs.Unnoted.{bare_node, bare_form, bare_lengths, bare_specs, bare_decl, bare_decls, bare_params, bare_maybe_init, bare_init, bare_inits}
use Rattle.c_unnoted.specs.Written.{written_lengths, written_specs, written_init, written_inits, written_maybe_init, written_param, written_param_list, written_params, written_name}
use Rattle.c_unnoted.proofs.Nodes.{written_counts, pos_same, node_typed, lengths_typed, specs_typed}

-- ---- what is typed, with the notes that typing writes

abbrev written_item : TypedInit → TypedInit
written_item t = record { init = written_init t.init; state = t.state }

abbrev written_items : TypedInits → TypedInits
written_items t = record { inits = written_inits t.inits; state = t.state }

abbrev written_maybe_item : TypedMaybeInit → TypedMaybeInit
written_maybe_item t = record { init = written_maybe_init t.init; state = t.state }

abbrev pub written_variable : TypedDeclarator → TypedDeclarator
written_variable t = record { name = written_name t.name; state = t.state }

abbrev written_one : TypedParam → TypedParam
written_one t = record { param = written_param t.param; kind = t.kind; state = t.state }

abbrev written_given : TypedParams → TypedParams
written_given t = record { params = written_param_list t.params; given = t.given; state = t.state }

abbrev pub written_signature : TypedSignature → TypedSignature
written_signature t = record { params = written_params t.params; given = t.given; state = t.state }

-- ---- initialisers

count_same : (list : InitShapes) → count_items (bare_inits list) ≡ count_items list
count_same no_inits = refl
count_same (more_inits i rest) = ap (λ n. 1 + n) (count_same rest)

form_length : (f : ExprShape) → length_in_form (bare_form f) ≡ length_in_form f
form_length (leaf (number t)) = refl
form_length (leaf (char c)) = refl
form_length (leaf (str t)) = refl
form_length (leaf (name x)) = refl
form_length (paren a) = refl
form_length (call x args) = refl
form_length (prefix u a) = refl
form_length (size_of_type t) = refl
form_length (cast t a) = refl
form_length (suffix a s) = refl
form_length (two u a b) = refl
form_length (choose a b c) = refl
form_length (probe u a) = refl

length_same : (i : InitShape) → length_in (bare_init i) ≡ length_in i
length_same (one (node p o n f)) = form_length f
length_same (listed p list last) = ap kept (count_same list)

lengths_same : (i : MaybeInit) (ls : List Length) → lengths_with (bare_maybe_init i) ls ≡ lengths_with i ls
lengths_same no_init ls = refl
lengths_same (one_init i) [] = refl
lengths_same (one_init i) (left_out ∷ ls) = ap (λ l. l ∷ ls) (length_same i)
lengths_same (one_init i) (counted n ∷ ls) = refl
lengths_same (one_init i) (unclear ∷ ls) = refl

form_filled : (n : Option ℕ) (f : ExprShape) → filled n (bare_form f) ≡ filled n f
form_filled None f = refl
form_filled (Some n) (leaf (number t)) = refl
form_filled (Some n) (leaf (char c)) = refl
form_filled (Some n) (leaf (str t)) = refl
form_filled (Some n) (leaf (name x)) = refl
form_filled (Some n) (paren a) = refl
form_filled (Some n) (call x args) = refl
form_filled (Some n) (prefix u a) = refl
form_filled (Some n) (size_of_type t) = refl
form_filled (Some n) (cast t a) = refl
form_filled (Some n) (suffix a s) = refl
form_filled (Some n) (two u a b) = refl
form_filled (Some n) (choose a b c) = refl
form_filled (Some n) (probe u a) = refl

node_filled : (n : Option ℕ) (a : NodeShape) → filled n (form_in (bare_node a)) ≡ filled n (form_in a)
node_filled n (node p o m f) = form_filled n f

init_same : (i : InitShape) → init_pos (bare_init i) ≡ init_pos i
init_same (one a) = pos_same a
init_same (listed p list last) = refl

one_typed : (o : Option (ℕ × ℕ)) (c : Bool) (k : Option TypeOf) (a : NodeShape) (s : State) → one_init_of o c k (bare_node a) s ≡ written_item (one_init_of o c k a s)
one_typed (Some (bytes, elements)) c k a s =
    ap (λ q. string_init bytes elements q s.at s.quiet (type_node (bare_node a) (hushed s))) (pos_same a)
    ∙ ap (string_init bytes elements (pos_in a) s.at s.quiet) (node_typed a (hushed s))
one_typed None c k a s =
    ap (λ q. value_init c k s.at q (type_node (bare_node a) s)) (pos_same a)
    ∙ ap (value_init c k s.at (pos_in a)) (node_typed a s)

mutual
  init_typed : (c : Bool) (k : Option TypeOf) (i : InitShape) (s : State) → type_init c k (bare_init i) s ≡ written_item (type_init c k i s)
  init_typed c k (one a) s = ap (λ o. one_init_of o c k (bare_node a) s) (node_filled (chars_of k) a) ∙ one_typed (filled (chars_of k) (form_in a)) c k a s
  init_typed c k (listed p list last) s =
      ap (λ t. record { init = listed p t.inits last; state = steps (list_end last) t.state }) (inits_typed (slots k s) list (step (rule (of_kind k list_rule) s.at p s)))

  inits_typed : (l : Slots) (list : InitShapes) (s : State) → type_inits l (bare_inits list) s ≡ written_items (type_inits l list s)
  inits_typed l no_inits s = refl
  inits_typed l (more_inits i rest) s =
      let u = rule (slot_rule l) s.at (init_pos i) s in
      let t = type_init true (slot l) i u in
      ap (λ q. let x = type_init true (slot l) (bare_init i) (rule (slot_rule l) s.at q s) in one_item x (type_inits (further l) (bare_inits rest) (step x.state))) (init_same i)
      ∙ (ap (λ x. one_item x (type_inits (further l) (bare_inits rest) (step x.state))) (init_typed true (slot l) i u)
      ∙ ap (one_item (written_item t)) (inits_typed (further l) rest (step t.state)))

-- ---- variables

has_same : (i : MaybeInit) → has_init (bare_maybe_init i) ≡ has_init i
has_same no_init = refl
has_same (one_init i) = refl

maybe_init_typed : (c : Bool) (k : Option TypeOf) (i : MaybeInit) (s : State) → type_maybe_init c k (bare_maybe_init i) s ≡ written_maybe_item (type_maybe_init c k i s)
maybe_init_typed c k no_init s = refl
maybe_init_typed c k (one_init i) s = ap an_init (init_typed c k i (step s))

abbrev ended_with : List Star → Option Named → LengthShapes → TypedMaybeInit → TypedDeclarator
ended_with stars x ls m = record { name = declarator stars x (arrays ls) m.init; state = m.state }

-- a variable, by its lengths and what they are with its initialiser
abbrev variable_by : List Star → Option Named → MaybeInit → Bool → Option TypeOf → ℕ → TypedLengths → List Length → TypedDeclarator
variable_by stars x i c k token l counts =
    let r = variable_rule l.state.rooms counts k in
    let p = name_pos first_place x in
    ended_with stars x l.lengths (type_maybe_init c (kind_at r) i (declare_variable token p (text_of x) (kind_at r) (rule r token p l.state)))

abbrev variable_from : List Star → Option Named → LengthShapes → MaybeInit → Bool → Option TypeOf → State → Bool → TypedDeclarator
variable_from stars x ls i c k begun may =
    let l = type_lengths [] ls (steps (name_tokens x) (claim_name may x begun)) in
    variable_by stars x i c (pointed stars k) (token_of_name begun.at x begun) l (lengths_with i l.counts)

pub variable_typed : (k : Option TypeOf) (stars : List Star) (x : Option Named) (ls : LengthShapes) (i : MaybeInit) (s : State) →
    type_variable k stars x (bare_lengths ls) (bare_maybe_init i) s ≡ written_variable (type_variable k stars x ls i s)
variable_typed k stars x ls i s =
    let c = nat_eq s.function 0 in
    let begun = steps (star_tokens stars) s in
    let j = bare_maybe_init i in
    let u = steps (name_tokens x) (claim_name (c || has_init i) x begun) in
    let l = type_lengths [] ls u in
    let token = token_of_name begun.at x begun in
    let p = name_pos first_place x in
    let r = variable_rule l.state.rooms (lengths_with i l.counts) (pointed stars k) in
    ap (λ b. variable_from stars x (bare_lengths ls) j c k begun (c || b)) (has_same i)
    ∙ (ap (λ y. variable_by stars x j c (pointed stars k) token y (lengths_with j y.counts)) (lengths_typed [] ls u)
    ∙ (ap (variable_by stars x j c (pointed stars k) token (written_counts l)) (lengths_same i l.counts)
    ∙ ap (ended_with stars x (written_lengths l.lengths)) (maybe_init_typed c (kind_at r) i (declare_variable token p (text_of x) (kind_at r) (rule r token p l.state)))))

-- ---- parameters

-- a parameter, by its lengths, and by its specifiers
abbrev param_by : Bool → Pos → SpecShapes → List Star → Option Named → MaybeInit → ℕ → ℕ → Option TypeOf → TypedLengths → TypedParam
param_by defining p specs stars x i first token k l =
    let r = parameter_rule l.state.rooms l.counts (pointed stars k) in
    let d = declare_parameter token x (kind_at r) (rule r token (name_pos p x) (name_demand defining x first p l.state)) in
    record { param = decl p specs (more_declarators (declarator stars x (arrays l.lengths) i) no_declarators); kind = kind_at r; state = d }

abbrev param_from : Bool → Pos → List Star → Option Named → LengthShapes → MaybeInit → State → TypedSpecs → TypedParam
param_from defining p stars x ls i s t =
    let r = spelled_rule t.spelled in
    let begun = steps (star_tokens stars) (rule r s.at p t.state) in
    param_by defining p t.specs stars x i s.at (token_of_name s.at x begun) (kind_at r) (type_lengths [] ls (steps (name_tokens x) (claim_name defining x begun)))

param_typed : (defining : Bool) (p : Pos) (specs : SpecShapes) (stars : List Star) (x : Option Named) (ls : LengthShapes) (i : MaybeInit) (s : State) →
    type_param defining p (bare_specs specs) stars x (bare_lengths ls) (bare_maybe_init i) s ≡ written_one (type_param defining p specs stars x ls i s)
param_typed defining p specs stars x ls i s =
    let t = type_specs false specs unspelled s in
    let r = spelled_rule t.spelled in
    let begun = steps (star_tokens stars) (rule r s.at p t.state) in
    ap (param_from defining p stars x (bare_lengths ls) (bare_maybe_init i) s) (specs_typed false specs unspelled s)
    ∙ ap (param_by defining p (written_specs t.specs) stars x (bare_maybe_init i) s.at (token_of_name s.at x begun) (kind_at r)) (lengths_typed [] ls (steps (name_tokens x) (claim_name defining x begun)))

abbrev no_param : DeclShape → TypedParams → TypedParams
no_param d r = record r { params = more_decls d r.params }

param_list_typed : (defining : Bool) (ds : DeclShapes) (s : State) → type_param_list defining (bare_decls ds) s ≡ written_given (type_param_list defining ds s)
param_list_typed defining no_decls s = refl
param_list_typed defining (more_decls (decl p specs (more_declarators (declarator stars x (arrays ls) i) no_declarators)) rest) s =
    let a = type_param defining p specs stars x ls i s in
    ap (λ b. one_param x b (type_param_list defining (bare_decls rest) (step b.state))) (param_typed defining p specs stars x ls i s)
    ∙ ap (one_param x (written_one a)) (param_list_typed defining rest (step a.state))
param_list_typed defining (more_decls (decl p specs no_declarators) rest) s =
    ap (no_param (bare_decl (decl p specs no_declarators))) (param_list_typed defining rest (step (complain wrong_type s.at first_place s)))
param_list_typed defining (more_decls (decl p specs (more_declarators (declarator stars x (function ps) i) no_declarators)) rest) s =
    ap (no_param (bare_decl (decl p specs (more_declarators (declarator stars x (function ps) i) no_declarators)))) (param_list_typed defining rest (step (complain wrong_type s.at first_place s)))
param_list_typed defining (more_decls (decl p specs (more_declarators (declarator stars x (function ps) i) (more_declarators d more))) rest) s =
    ap (no_param (bare_decl (decl p specs (more_declarators (declarator stars x (function ps) i) (more_declarators d more))))) (param_list_typed defining rest (step (complain wrong_type s.at first_place s)))
param_list_typed defining (more_decls (decl p specs (more_declarators (declarator stars x (arrays ls) i) (more_declarators d more))) rest) s =
    ap (no_param (bare_decl (decl p specs (more_declarators (declarator stars x (arrays ls) i) (more_declarators d more))))) (param_list_typed defining rest (step (complain wrong_type s.at first_place s)))

pub params_typed : (defining : Bool) (ps : ParamsShape) (s : State) → type_params defining (bare_params ps) s ≡ written_signature (type_params defining ps s)
params_typed defining empty s = refl
params_typed defining void s = refl
params_typed defining (params ds) s = ap listed_params (param_list_typed defining ds (step (record s { params = [] })))
