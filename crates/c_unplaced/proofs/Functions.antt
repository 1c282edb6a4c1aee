-- Parameters, functions and declarations are typed alike without their places.
use Rattle.std.proofs.Common.{◌≡◌, ℕ, ◌+◌, List, [], ◌∷◌, ◌&&◌, length, map, not, Option, Some, None, option_map, Bool, true, false, refl, ap, ◌∙◌}
use Rattle.c_base.specs.declared.place.Pos.{Pos}
use Rattle.c_syntax.specs.declared.text.Text.{Text}
use Rattle.c_syntax.specs.declared.tree.Named.{Named}
use Rattle.c_syntax.specs.declared.tree.Star.{Star}
use Rattle.c_syntax.specs.Start.{start}
use Rattle.c_syntax.specs.Shape.{TypeOf, LengthShapes, SpecShapes, DeclShape, decl, DeclShapes, no_decls, more_decls, DeclaratorShape, declarator, DeclaratorShapes, no_declarators, more_declarators, arrays, function, ParamsShape, empty, void, params, MaybeInit}
use Rattle.c_type_rules.specs.Verdicts.{result_type}
use Rattle.c_scopes.specs.Scoping.{find_here}
use Rattle.c_tables.specs.Rows.{text_of, name_pos}
use Rattle.c_tree.specs.declared.meaning.Entity.{Entity}
use Rattle.c_tree.specs.declared.meaning.Entity.TheVariants as entity
use Rattle.c_tree.specs.Complaints.{declared_twice, stray, wrong_type}
use Rattle.c_tree.specs.State.{State, steps, step, complain, demand, mention, Numbered}
use Rattle.c_tree.specs.Rulings.{Ruled, by, rule, kind_at}
use Rattle.c_tree.specs.Parts.{TypedLengths, pointed, star_tokens, spelled_rule, unspelled, TypedSpecs}
use Rattle.c_tree.specs.Typing.{type_lengths, type_specs}
use Rattle.c_tree.specs.Declaring.{name_tokens, claim_name, token_of_name, TypedParam, TypedParams, with_parameter, parameter_at, declare_parameter, parameter_rule, name_demand, type_param, one_param, type_param_list, listed_params, type_params, TypedSignature, opened_scope, all_kinds, Signature, signature_of, function_entity, same_function, names_function, is_defined, function_at, unclear_at, bodied, mentioned, declare_function, TypedFunction, closed_params, type_function, plain_declarator, type_declarator, type_declarators, none_declared, semicolon, TypedDecl, type_decl, type_decls}
use Rattle.c_placing.specs.Unplaced.{unplaced_named, unplaced_star, unplaced_lengths, unplaced_specs, unplaced_decl, unplaced_decls, unplaced_name, unplaced_names, unplaced_params, unplaced_maybe_init}
use Rattle.c_unplaced.specs.Unplaced.{unplaced_state}
use Rattle.c_unplaced.proofs.Rules.{unplaced_numbered, complained, ruled, demanded, mentioned as function_mentioned}
use Rattle.c_unplaced.proofs.Nodes.{unplaced_counts, unplaced_spelled, stars_same, pointed_same, text_same, name_start, lengths_typed, specs_typed}
use Rattle.c_unplaced.proofs.Decls.{unplaced_variable, unplaced_param, unplaced_param_list, unplaced_signature, unplaced_function, unplaced_declarators, unplaced_declared, unplaced_decl_list, tokens_same, token_same, name_claimed, variable_typed}

-- ---- parameters

parameter_made : (x : Text) (k : Option TypeOf) (s : State) → with_parameter x k (unplaced_state s) ≡ unplaced_state (with_parameter x k s)
parameter_made x None s = refl
parameter_made x (Some t) s = refl

parameter_entered : (token : ℕ) (p : Pos) (x : Text) (k : Option TypeOf) (o : Option Entity) (s : State) → parameter_at token start x k o (unplaced_state s) ≡ unplaced_state (parameter_at token p x k o s)
parameter_entered token p x k None s = parameter_made x k s
parameter_entered token p x k (Some e) s = complained declared_twice token p s

parameter_declared : (token : ℕ) (x : Option Named) (k : Option TypeOf) (s : State) → declare_parameter token (option_map unplaced_named x) k (unplaced_state s) ≡ unplaced_state (declare_parameter token x k s)
parameter_declared token None k s = refl
parameter_declared token (Some x) k s = parameter_entered token x.pos x.text k (find_here x.text s.names) s

name_demanded : (defining : Bool) (x : Option Named) (first : ℕ) (p : Pos) (s : State) → name_demand defining (option_map unplaced_named x) first start (unplaced_state s) ≡ unplaced_state (name_demand defining x first p s)
name_demanded true None first p s = complained stray first p s
name_demanded true (Some x) first p s = refl
name_demanded false None first p s = refl
name_demanded false (Some x) first p s = refl

-- a parameter at its end, by its type and lengths, and behind its stars
abbrev param_end : SpecShapes → List Star → Option Named → MaybeInit → TypedLengths → Option TypeOf → State → TypedParam
param_end specs xs y i l k u = record { param = decl start specs (more_declarators (declarator xs y (arrays l.lengths) i) no_declarators); kind = k; state = u }

abbrev param_by : Bool → SpecShapes → List Star → Option Named → MaybeInit → ℕ → ℕ → Pos → Option TypeOf → TypedLengths → TypedParam
param_by defining specs xs y i first token q k l =
    let r = parameter_rule l.state.rooms l.counts k in
    param_end specs xs y i l (kind_at r) (declare_parameter token y (kind_at r) (rule r token q (name_demand defining y first start l.state)))

abbrev param_from : Bool → List Star → Option Named → LengthShapes → MaybeInit → ℕ → TypedSpecs → State → TypedParam
param_from defining xs y ls i first t begun = param_by defining t.specs xs y i first (token_of_name first y begun) (name_pos start y) (pointed xs (kind_at (spelled_rule t.spelled))) (type_lengths [] ls (steps (name_tokens y) (claim_name defining y begun)))

param_typed : (defining : Bool) (p : Pos) (specs : SpecShapes) (stars : List Star) (x : Option Named) (ls : LengthShapes) (i : MaybeInit) (s : State) →
    type_param defining start (unplaced_specs specs) (map unplaced_star stars) (option_map unplaced_named x) (unplaced_lengths ls) (unplaced_maybe_init i) (unplaced_state s) ≡ unplaced_param (type_param defining p specs stars x ls i s)
param_typed defining p specs stars x ls i s =
    let xs = map unplaced_star stars in
    let y = option_map unplaced_named x in
    let zs = unplaced_lengths ls in
    let j = unplaced_maybe_init i in
    let t = type_specs false specs unspelled s in
    let ts = unplaced_specs t.specs in
    let r = spelled_rule t.spelled in
    let u = rule r s.at p t.state in
    let begun = steps (star_tokens stars) u in
    let c = claim_name defining x begun in
    let l = type_lengths [] ls (steps (name_tokens x) c) in
    let token = token_of_name s.at x begun in
    let k = parameter_rule l.state.rooms l.counts (pointed stars (kind_at r)) in
    let d = name_demand defining x s.at p l.state in
    let e = rule k token (name_pos p x) d in
    ap (λ v. param_from defining xs y zs j s.at v (steps (star_tokens xs) (rule (spelled_rule v.spelled) s.at start v.state))) (specs_typed false specs unspelled s)
    ∙ (ap (λ w. param_from defining xs y zs j s.at (unplaced_spelled t) (steps (star_tokens xs) w)) (ruled r s.at p t.state)
    ∙ (ap (λ n. param_from defining xs y zs j s.at (unplaced_spelled t) (steps n (unplaced_state u))) (stars_same stars)
    ∙ (ap (λ w. param_by defining ts xs y j s.at (token_of_name s.at y (unplaced_state begun)) (name_pos start y) (pointed xs (kind_at r)) (type_lengths [] zs (steps (name_tokens y) w))) (name_claimed defining x begun)
    ∙ (ap (λ n. param_by defining ts xs y j s.at (token_of_name s.at y (unplaced_state begun)) (name_pos start y) (pointed xs (kind_at r)) (type_lengths [] zs (steps n (unplaced_state c)))) (tokens_same x)
    ∙ (ap (param_by defining ts xs y j s.at (token_of_name s.at y (unplaced_state begun)) (name_pos start y) (pointed xs (kind_at r))) (lengths_typed [] ls (steps (name_tokens x) c))
    ∙ (ap (λ w. param_by defining ts xs y j s.at (token_of_name s.at y (unplaced_state begun)) (name_pos start y) w (unplaced_counts l)) (pointed_same stars (kind_at r))
    ∙ (ap (λ n. param_by defining ts xs y j s.at n (name_pos start y) (pointed stars (kind_at r)) (unplaced_counts l)) (token_same s.at x begun)
    ∙ (ap (λ q. param_by defining ts xs y j s.at token q (pointed stars (kind_at r)) (unplaced_counts l)) (name_start x)
    ∙ (ap (λ w. param_end ts xs y j (unplaced_counts l) (kind_at k) (declare_parameter token y (kind_at k) (rule k token start w))) (name_demanded defining x s.at p l.state)
    ∙ (ap (λ w. param_end ts xs y j (unplaced_counts l) (kind_at k) (declare_parameter token y (kind_at k) w)) (ruled k token (name_pos p x) d)
    ∙ ap (param_end ts xs y j (unplaced_counts l) (kind_at k)) (parameter_declared token x (kind_at k) e)))))))))))

abbrev no_param : DeclShape → TypedParams → TypedParams
no_param d r = record r { params = more_decls d r.params }

-- other declarations than parameters
others_typed : (defining : Bool) (d : DeclShape) (rest : DeclShapes) (s : State) →
    (type_param_list defining (unplaced_decls rest) (unplaced_state (step (complain wrong_type s.at start s))) ≡ unplaced_param_list (type_param_list defining rest (step (complain wrong_type s.at start s)))) →
    no_param (unplaced_decl d) (type_param_list defining (unplaced_decls rest) (step (complain wrong_type s.at start (unplaced_state s))))
    ≡ unplaced_param_list (no_param d (type_param_list defining rest (step (complain wrong_type s.at start s))))
others_typed defining d rest s e =
    ap (λ u. no_param (unplaced_decl d) (type_param_list defining (unplaced_decls rest) (step u))) (complained wrong_type s.at start s)
    ∙ ap (no_param (unplaced_decl d)) e

param_list_typed : (defining : Bool) (ds : DeclShapes) (s : State) → type_param_list defining (unplaced_decls ds) (unplaced_state s) ≡ unplaced_param_list (type_param_list defining ds s)
param_list_typed defining no_decls s = refl
param_list_typed defining (more_decls (decl p specs (more_declarators (declarator stars x (arrays ls) i) no_declarators)) rest) s =
    let a = type_param defining p specs stars x ls i s in
    let y = option_map unplaced_named x in
    ap (λ b. one_param y b (type_param_list defining (unplaced_decls rest) (step b.state))) (param_typed defining p specs stars x ls i s)
    ∙ (ap (one_param y (unplaced_param a)) (param_list_typed defining rest (step a.state))
    ∙ ap (λ v. record { params = more_decls (unplaced_decl a.param) (unplaced_decls (type_param_list defining rest (step a.state)).params); given = (v, a.kind) ∷ (type_param_list defining rest (step a.state)).given; state = unplaced_state (type_param_list defining rest (step a.state)).state }) (text_same x))
param_list_typed defining (more_decls (decl p specs no_declarators) rest) s = others_typed defining (decl p specs no_declarators) rest s (param_list_typed defining rest (step (complain wrong_type s.at start s)))
param_list_typed defining (more_decls (decl p specs (more_declarators (declarator stars x (function ps) i) no_declarators)) rest) s = others_typed defining (decl p specs (more_declarators (declarator stars x (function ps) i) no_declarators)) rest s (param_list_typed defining rest (step (complain wrong_type s.at start s)))
param_list_typed defining (more_decls (decl p specs (more_declarators (declarator stars x (function ps) i) (more_declarators d more))) rest) s = others_typed defining (decl p specs (more_declarators (declarator stars x (function ps) i) (more_declarators d more))) rest s (param_list_typed defining rest (step (complain wrong_type s.at start s)))
param_list_typed defining (more_decls (decl p specs (more_declarators (declarator stars x (arrays ls) i) (more_declarators d more))) rest) s = others_typed defining (decl p specs (more_declarators (declarator stars x (arrays ls) i) (more_declarators d more))) rest s (param_list_typed defining rest (step (complain wrong_type s.at start s)))

params_typed : (defining : Bool) (ps : ParamsShape) (s : State) → type_params defining (unplaced_params ps) (unplaced_state s) ≡ unplaced_signature (type_params defining ps s)
params_typed defining empty s = refl
params_typed defining void s = refl
params_typed defining (params ds) s = ap listed_params (param_list_typed defining ds (step (record s { params = [] })))

-- ---- functions

params_closed : (defining : Bool) (s : State) → closed_params defining (unplaced_state s) ≡ unplaced_state (closed_params defining s)
params_closed true s = refl
params_closed false s = refl

body_noted : (defining : Bool) (x : Text) (s : State) → bodied defining x (unplaced_state s) ≡ unplaced_state (bodied defining x s)
body_noted true x s = refl
body_noted false x s = refl

defined_same : (e : Entity) (s : State) → is_defined e (unplaced_state s) ≡ is_defined e s
defined_same (entity.Function n) s = refl
defined_same (entity.Builtin b) s = refl
defined_same entity.Unknown s = refl
defined_same (entity.Variable n) s = refl
defined_same (entity.Parameter n) s = refl
defined_same (entity.Constant v) s = refl

function_entered : (defining : Bool) (token : ℕ) (p : Pos) (x : Text) (e : Entity) (o : Option Entity) (s : State) → function_at defining token start x e o (unplaced_state s) ≡ unplaced_state (function_at defining token p x e o s)
function_entered defining token p x e None s = refl
function_entered defining token p x e (Some o) s =
    ap (λ b. demand (same_function e o && not (defining && b)) declared_twice token start (unplaced_state s)) (defined_same e s)
    ∙ demanded (same_function e o && not (defining && is_defined e s)) declared_twice token p s

unclear_entered : (defining : Bool) (token : ℕ) (p : Pos) (x : Text) (o : Option Entity) (s : State) → unclear_at defining token start x o (unplaced_state s) ≡ unplaced_state (unclear_at defining token p x o s)
unclear_entered defining token p x None s = refl
unclear_entered defining token p x (Some o) s =
    ap (λ b. demand (names_function o && not (defining && b)) declared_twice token start (unplaced_state s)) (defined_same o s)
    ∙ demanded (names_function o && not (defining && is_defined o s)) declared_twice token p s

mention_entered : (defining : Bool) (token : ℕ) (p : Pos) (x : Text) (f : Signature) (m : Numbered) → mentioned defining token start x f (unplaced_numbered m) ≡ unplaced_numbered (mentioned defining token p x f m)
mention_entered defining token p x f m = ap (λ u. record { number = m.number; state = u }) (function_entered defining token p x (function_entity x f m.number) (find_here x m.state.names) m.state)

function_declared : (defining : Bool) (token : ℕ) (p : Pos) (x : Text) (f : Option Signature) (s : State) → declare_function defining token start x f (unplaced_state s) ≡ unplaced_numbered (declare_function defining token p x f s)
function_declared defining token p x None s =
    let n = length s.tables.functions + 1 in
    ap (λ u. record { number = n; state = bodied defining x u }) (unclear_entered defining token p x (find_here x s.names) s)
    ∙ ap (λ u. record { number = n; state = u }) (body_noted defining x (unclear_at defining token p x (find_here x s.names) s))
function_declared defining token p x (Some f) s =
    ap (mentioned defining token start x f) (function_mentioned x f.result f.params s) ∙ mention_entered defining token p x f (mention x f.result f.params s)

abbrev function_end : List Star → Option Named → MaybeInit → TypedSignature → Numbered → TypedFunction
function_end xs y i q d = record { name = declarator xs y (function q.params) i; number = d.number; given = q.given; state = d.state }

-- a function, by its parameters; and behind its stars
abbrev function_by : Bool → List Star → Option Named → MaybeInit → Bool → Ruled → ℕ → Pos → Text → TypedSignature → TypedFunction
function_by defining xs y i file r token p v q =
    function_end xs y i q (declare_function defining token p v (signature_of (kind_at r) (all_kinds q.given)) (record (rule r token p (closed_params defining q.state)) { file = file }))

abbrev function_with : Bool → List Star → Option Named → MaybeInit → Bool → Option TypeOf → ℕ → TypedSignature → TypedFunction
function_with defining xs y i file k token q = function_by defining xs y i file (by wrong_type (result_type k)) token (name_pos start y) (text_of y) q

abbrev inside : State → State
inside s = record (opened_scope s) { file = false }

pub function_typed : (defining : Bool) (k : Option TypeOf) (stars : List Star) (x : Option Named) (ps : ParamsShape) (i : MaybeInit) (s : State) →
    type_function defining k (map unplaced_star stars) (option_map unplaced_named x) (unplaced_params ps) (unplaced_maybe_init i) (unplaced_state s) ≡ unplaced_function (type_function defining k stars x ps i s)
function_typed defining k stars x ps i s =
    let xs = map unplaced_star stars in
    let y = option_map unplaced_named x in
    let zs = unplaced_params ps in
    let j = unplaced_maybe_init i in
    let begun = steps (star_tokens stars) s in
    let token = token_of_name begun.at x begun in
    let p = name_pos start x in
    let r = by wrong_type (result_type (pointed stars k)) in
    let c = claim_name false x begun in
    let q = type_params defining ps (inside (steps (name_tokens x) c)) in
    let f = signature_of (kind_at r) (all_kinds q.given) in
    let u = closed_params defining q.state in
    let v = record (rule r token p u) { file = s.file } in
    ap (λ n. let b = steps n (unplaced_state s) in function_with defining xs y j s.file (pointed xs k) (token_of_name b.at y b) (type_params defining zs (inside (steps (name_tokens y) (claim_name false y b))))) (stars_same stars)
    ∙ (ap (λ w. function_with defining xs y j s.file (pointed xs k) (token_of_name begun.at y (unplaced_state begun)) (type_params defining zs (inside (steps (name_tokens y) w)))) (name_claimed false x begun)
    ∙ (ap (λ n. function_with defining xs y j s.file (pointed xs k) (token_of_name begun.at y (unplaced_state begun)) (type_params defining zs (inside (steps n (unplaced_state c))))) (tokens_same x)
    ∙ (ap (function_with defining xs y j s.file (pointed xs k) (token_of_name begun.at y (unplaced_state begun))) (params_typed defining ps (inside (steps (name_tokens x) c)))
    ∙ (ap (λ w. function_with defining xs y j s.file w (token_of_name begun.at y (unplaced_state begun)) (unplaced_signature q)) (pointed_same stars k)
    ∙ (ap (λ n. function_with defining xs y j s.file (pointed stars k) n (unplaced_signature q)) (token_same begun.at x begun)
    ∙ (ap (λ w. function_by defining xs y j s.file r token w (text_of y) (unplaced_signature q)) (name_start x)
    ∙ (ap (λ w. function_by defining xs y j s.file r token start w (unplaced_signature q)) (text_same x)
    ∙ (ap (λ w. function_end xs y j (unplaced_signature q) (declare_function defining token start (text_of x) f (record (rule r token start w) { file = s.file }))) (params_closed defining q.state)
    ∙ (ap (λ w. function_end xs y j (unplaced_signature q) (declare_function defining token start (text_of x) f (record w { file = s.file }))) (ruled r token p u)
    ∙ ap (function_end xs y j (unplaced_signature q)) (function_declared defining token p (text_of x) f v))))))))))

-- ---- declarations

declarator_typed : (k : Option TypeOf) (d : DeclaratorShape) (s : State) → type_declarator k (unplaced_name d) (unplaced_state s) ≡ unplaced_variable (type_declarator k d s)
declarator_typed k (declarator stars x (arrays ls) i) s = variable_typed k stars x ls i s
declarator_typed k (declarator stars x (function ps) i) s = ap plain_declarator (function_typed false k stars x ps i s)

declarators_typed : (k : Option TypeOf) (ds : DeclaratorShapes) (s : State) → type_declarators k (unplaced_names ds) (unplaced_state s) ≡ unplaced_declarators (type_declarators k ds s)
declarators_typed k no_declarators s = refl
declarators_typed k (more_declarators d rest) s =
    let t = type_declarator k d s in
    ap (λ v. let r = type_declarators k (unplaced_names rest) (step v.state) in record { names = more_declarators v.name r.names; state = r.state }) (declarator_typed k d s)
    ∙ ap (λ r. record { names = more_declarators (unplaced_name t.name) r.names; state = r.state }) (declarators_typed k rest (step t.state))

none_same : (ds : DeclaratorShapes) → none_declared (unplaced_names ds) ≡ none_declared ds
none_same no_declarators = refl
none_same (more_declarators d rest) = refl

semicolon_same : (ds : DeclaratorShapes) → semicolon (unplaced_names ds) ≡ semicolon ds
semicolon_same no_declarators = refl
semicolon_same (more_declarators d rest) = refl

-- a declaration, by its specifiers
abbrev declared_with : DeclaratorShapes → State → ℕ → TypedSpecs → TypedDecl
declared_with names s semicolons t =
    let r = spelled_rule t.spelled in
    let n = type_declarators (kind_at r) names (steps semicolons (rule r s.at start t.state)) in
    record { decl = decl start t.specs n.names; state = n.state }

pub decl_typed : (d : DeclShape) (s : State) → type_decl (unplaced_decl d) (unplaced_state s) ≡ unplaced_declared (type_decl d s)
decl_typed (decl p specs names) s =
    let ns = unplaced_names names in
    let t = type_specs (none_declared names) specs unspelled s in
    let ts = unplaced_specs t.specs in
    let r = spelled_rule t.spelled in
    let u = rule r s.at p t.state in
    ap (λ b. declared_with ns s (semicolon ns) (type_specs b (unplaced_specs specs) unspelled (unplaced_state s))) (none_same names)
    ∙ (ap (λ n. declared_with ns s n (type_specs (none_declared names) (unplaced_specs specs) unspelled (unplaced_state s))) (semicolon_same names)
    ∙ (ap (declared_with ns s (semicolon names)) (specs_typed (none_declared names) specs unspelled s)
    ∙ (ap (λ w. let n = type_declarators (kind_at r) ns (steps (semicolon names) w) in record { decl = decl start ts n.names; state = n.state }) (ruled r s.at p t.state)
    ∙ ap (λ n. record { decl = decl start ts n.names; state = n.state }) (declarators_typed (kind_at r) names (steps (semicolon names) u)))))

pub decls_typed : (ds : DeclShapes) (s : State) → type_decls (unplaced_decls ds) (unplaced_state s) ≡ unplaced_decl_list (type_decls ds s)
decls_typed no_decls s = refl
decls_typed (more_decls d rest) s =
    let t = type_decl d s in
    ap (λ v. let r = type_decls (unplaced_decls rest) v.state in record { decls = more_decls v.decl r.decls; state = r.state }) (decl_typed d s)
    ∙ ap (λ r. record { decls = more_decls (unplaced_decl t.decl) r.decls; state = r.state }) (decls_typed rest t.state)
