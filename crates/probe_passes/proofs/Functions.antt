-- Parameters, functions and declarations are typed alike in the first pass, where nothing is complained of.
use Rattle.std.proofs.Common.{◌≡◌, ℕ, ◌+◌, List, [], ◌&&◌, length, not, Option, Some, None, Bool, true, false, refl, ap, ◌∙◌}
use Rattle.c_base.specs.declared.place.Pos.{Pos}
use Rattle.c_syntax.specs.declared.text.Text.{Text}
use Rattle.c_syntax.specs.declared.tree.Named.{Named}
use Rattle.c_syntax.specs.declared.tree.Star.{Star}
use Rattle.c_syntax.specs.Shape.{TypeOf, LengthShapes, SpecShapes, DeclShape, decl, DeclShapes, no_decls, more_decls, DeclaratorShape, declarator, DeclaratorShapes, no_declarators, more_declarators, arrays, function, ParamsShape, empty, void, params, MaybeInit}
use Rattle.c_type_rules.specs.Verdicts.{result_type}
use Rattle.c_scopes.specs.Scoping.{find_here}
use Rattle.c_tables.specs.Rows.{first_place, text_of, name_pos}
use Rattle.c_tree.specs.declared.meaning.Entity.{Entity}
use Rattle.c_tree.specs.declared.meaning.Entity.TheVariants as entity
use Rattle.c_tree.specs.Complaints.{declared_twice, wrong_type}
use Rattle.c_tree.specs.State.{State, steps, step, complain, demand, mention, Numbered}
use Rattle.c_tree.specs.Rulings.{by, rule, kind_at}
use Rattle.c_tree.specs.Parts.{TypedLengths, pointed, star_tokens, spelled_rule, unspelled, TypedSpecs}
use Rattle.c_tree.specs.Typing.{type_lengths, type_specs}
use Rattle.c_tree.specs.Declaring.{name_tokens, claim_name, token_of_name, TypedParam, TypedParams, with_parameter, parameter_at, declare_parameter, parameter_rule, name_demand, type_param, one_param, type_param_list, listed_params, type_params, TypedSignature, opened_scope, all_kinds, Signature, signature_of, function_entity, same_function, names_function, is_defined, function_at, unclear_at, bodied, mentioned, declare_function, TypedFunction, closed_params, type_function, plain_declarator, type_declarator, TypedDeclarators, type_declarators, none_declared, semicolon, TypedDecl, type_decl, TypedDeclList, type_decls}
use Rattle.c_tree.proofs.Grows.{◌▸◌, rule_grows, lengths_grow}
use Rattle.c_tree.proofs.GrowsUnits.{name_grows, parameter_grows, name_demand_grows, list_grows, declared_grows, closed_params_grows, declarators_grow, decls_grow}
use Rattle.probe_passes.specs.Passes.{first_pass}
use Rattle.probe_passes.proofs.Rules.{IsClean, first_numbered, ruled, demanded, mentioned as function_mentioned}
use Rattle.probe_passes.proofs.Nodes.{first_spelled, lengths_typed, specs_typed}
use Rattle.probe_passes.proofs.Decls.{first_variable, token_same, name_claimed, variable_typed}

-- ---- what is typed, in the first pass

abbrev pub first_param : TypedParam → TypedParam
first_param t = record t { state = first_pass t.state }

abbrev pub first_param_list : TypedParams → TypedParams
first_param_list t = record t { state = first_pass t.state }

abbrev pub first_signature : TypedSignature → TypedSignature
first_signature t = record t { state = first_pass t.state }

abbrev pub first_function : TypedFunction → TypedFunction
first_function t = record t { state = first_pass t.state }

abbrev pub first_declarators : TypedDeclarators → TypedDeclarators
first_declarators t = record t { state = first_pass t.state }

abbrev pub first_declared : TypedDecl → TypedDecl
first_declared t = record t { state = first_pass t.state }

abbrev pub first_decl_list : TypedDeclList → TypedDeclList
first_decl_list t = record t { state = first_pass t.state }

-- ---- parameters

parameter_made : (x : Text) (k : Option TypeOf) (s : State) → with_parameter x k (first_pass s) ≡ first_pass (with_parameter x k s)
parameter_made x None s = refl
parameter_made x (Some t) s = refl

parameter_entered : (token : ℕ) (p : Pos) (x : Text) (k : Option TypeOf) (o : Option Entity) (s : State) → parameter_at token p x k o (first_pass s) ≡ first_pass (parameter_at token p x k o s)
parameter_entered token p x k None s = parameter_made x k s
parameter_entered token p x k (Some e) s = refl

parameter_declared : (token : ℕ) (x : Option Named) (k : Option TypeOf) (s : State) → declare_parameter token x k (first_pass s) ≡ first_pass (declare_parameter token x k s)
parameter_declared token None k s = refl
parameter_declared token (Some x) k s = parameter_entered token x.pos x.text k (find_here x.text s.names) s

name_demanded : (defining : Bool) (x : Option Named) (first : ℕ) (p : Pos) (s : State) → name_demand defining x first p (first_pass s) ≡ first_pass (name_demand defining x first p s)
name_demanded true None first p s = refl
name_demanded true (Some x) first p s = refl
name_demanded false None first p s = refl
name_demanded false (Some x) first p s = refl

-- a parameter at its end, by its type and lengths, and behind its stars
abbrev param_end : Pos → SpecShapes → List Star → Option Named → MaybeInit → TypedLengths → Option TypeOf → State → TypedParam
param_end p specs stars x i l k u = record { param = decl p specs (more_declarators (declarator stars x (arrays l.lengths) i) no_declarators); kind = k; state = u }

abbrev param_by : Bool → Pos → SpecShapes → List Star → Option Named → MaybeInit → ℕ → ℕ → Option TypeOf → TypedLengths → TypedParam
param_by defining p specs stars x i first token k l =
    let r = parameter_rule l.state.rooms l.counts k in
    param_end p specs stars x i l (kind_at r) (declare_parameter token x (kind_at r) (rule r token (name_pos p x) (name_demand defining x first p l.state)))

abbrev param_from : Bool → Pos → List Star → Option Named → LengthShapes → MaybeInit → ℕ → TypedSpecs → State → TypedParam
param_from defining p stars x ls i first t begun = param_by defining p t.specs stars x i first (token_of_name first x begun) (pointed stars (kind_at (spelled_rule t.spelled))) (type_lengths [] ls (steps (name_tokens x) (claim_name defining x begun)))

param_typed : (defining : Bool) (p : Pos) (specs : SpecShapes) (stars : List Star) (x : Option Named) (ls : LengthShapes) (i : MaybeInit) (s : State) → IsClean (type_param defining p specs stars x ls i s).state →
    type_param defining p specs stars x ls i (first_pass s) ≡ first_param (type_param defining p specs stars x ls i s)
param_typed defining p specs stars x ls i s c =
    let t = type_specs false specs unspelled s in
    let r = spelled_rule t.spelled in
    let begun = steps (star_tokens stars) (rule r s.at p t.state) in
    let u = claim_name defining x begun in
    let v = steps (name_tokens x) u in
    let l = type_lengths [] ls v in
    let token = token_of_name s.at x begun in
    let j = pointed stars (kind_at r) in
    let k = parameter_rule l.state.rooms l.counts j in
    let d = name_demand defining x s.at p l.state in
    let e = rule k token (name_pos p x) d in
    let late = name_demand_grows defining x s.at p l.state ▸ (rule_grows k token (name_pos p x) d ▸ (parameter_grows token x (kind_at k) e ▸ c)) in
    let early = rule_grows r s.at p t.state ▸ (name_grows defining x begun ▸ (lengths_grow [] ls v ▸ late)) in
    ap (λ y. param_from defining p stars x ls i s.at y (steps (star_tokens stars) (rule (spelled_rule y.spelled) s.at p y.state))) (specs_typed false specs unspelled s early)
    ∙ (ap (λ w. param_from defining p stars x ls i s.at (first_spelled t) (steps (star_tokens stars) w)) (ruled r s.at p t.state)
    ∙ (ap (λ n. param_by defining p t.specs stars x i s.at n j (type_lengths [] ls (steps (name_tokens x) (claim_name defining x (first_pass begun))))) (token_same s.at x begun)
    ∙ (ap (λ w. param_by defining p t.specs stars x i s.at token j (type_lengths [] ls (steps (name_tokens x) w))) (name_claimed defining x begun)
    ∙ (ap (param_by defining p t.specs stars x i s.at token j) (lengths_typed [] ls v late)
    ∙ (ap (λ w. param_end p t.specs stars x i l (kind_at k) (declare_parameter token x (kind_at k) (rule k token (name_pos p x) w))) (name_demanded defining x s.at p l.state)
    ∙ (ap (λ w. param_end p t.specs stars x i l (kind_at k) (declare_parameter token x (kind_at k) w)) (ruled k token (name_pos p x) d)
    ∙ ap (param_end p t.specs stars x i l (kind_at k)) (parameter_declared token x (kind_at k) e)))))))

abbrev no_param : DeclShape → TypedParams → TypedParams
no_param d r = record r { params = more_decls d r.params }

param_list_typed : (defining : Bool) (ds : DeclShapes) (s : State) → IsClean (type_param_list defining ds s).state → type_param_list defining ds (first_pass s) ≡ first_param_list (type_param_list defining ds s)
param_list_typed defining no_decls s c = refl
param_list_typed defining (more_decls (decl p specs (more_declarators (declarator stars x (arrays ls) i) no_declarators)) rest) s c =
    let a = type_param defining p specs stars x ls i s in
    ap (λ b. one_param x b (type_param_list defining rest (step b.state))) (param_typed defining p specs stars x ls i s (list_grows defining rest (step a.state) ▸ c))
    ∙ ap (one_param x a) (param_list_typed defining rest (step a.state) c)
param_list_typed defining (more_decls (decl p specs no_declarators) rest) s c = ap (no_param (decl p specs no_declarators)) (param_list_typed defining rest (step (complain wrong_type s.at first_place s)) c)
param_list_typed defining (more_decls (decl p specs (more_declarators (declarator stars x (function ps) i) no_declarators)) rest) s c =
    ap (no_param (decl p specs (more_declarators (declarator stars x (function ps) i) no_declarators))) (param_list_typed defining rest (step (complain wrong_type s.at first_place s)) c)
param_list_typed defining (more_decls (decl p specs (more_declarators (declarator stars x (function ps) i) (more_declarators d more))) rest) s c =
    ap (no_param (decl p specs (more_declarators (declarator stars x (function ps) i) (more_declarators d more)))) (param_list_typed defining rest (step (complain wrong_type s.at first_place s)) c)
param_list_typed defining (more_decls (decl p specs (more_declarators (declarator stars x (arrays ls) i) (more_declarators d more))) rest) s c =
    ap (no_param (decl p specs (more_declarators (declarator stars x (arrays ls) i) (more_declarators d more)))) (param_list_typed defining rest (step (complain wrong_type s.at first_place s)) c)

params_typed : (defining : Bool) (ps : ParamsShape) (s : State) → IsClean (type_params defining ps s).state → type_params defining ps (first_pass s) ≡ first_signature (type_params defining ps s)
params_typed defining empty s c = refl
params_typed defining void s c = refl
params_typed defining (params ds) s c = ap listed_params (param_list_typed defining ds (step (record s { params = [] })) c)

-- ---- functions

params_closed : (defining : Bool) (s : State) → closed_params defining (first_pass s) ≡ first_pass (closed_params defining s)
params_closed true s = refl
params_closed false s = refl

body_noted : (defining : Bool) (x : Text) (s : State) → bodied defining x (first_pass s) ≡ first_pass (bodied defining x s)
body_noted true x s = refl
body_noted false x s = refl

defined_same : (e : Entity) (s : State) → is_defined e (first_pass s) ≡ is_defined e s
defined_same (entity.Function n) s = refl
defined_same (entity.Builtin b) s = refl
defined_same entity.Unknown s = refl
defined_same (entity.Variable n) s = refl
defined_same (entity.Parameter n) s = refl
defined_same (entity.Constant v) s = refl

function_entered : (defining : Bool) (token : ℕ) (p : Pos) (x : Text) (e : Entity) (o : Option Entity) (s : State) → function_at defining token p x e o (first_pass s) ≡ first_pass (function_at defining token p x e o s)
function_entered defining token p x e None s = refl
function_entered defining token p x e (Some o) s =
    ap (λ b. demand (same_function e o && not (defining && b)) declared_twice token p (first_pass s)) (defined_same e s)
    ∙ demanded (same_function e o && not (defining && is_defined e s)) declared_twice token p s

unclear_entered : (defining : Bool) (token : ℕ) (p : Pos) (x : Text) (o : Option Entity) (s : State) → unclear_at defining token p x o (first_pass s) ≡ first_pass (unclear_at defining token p x o s)
unclear_entered defining token p x None s = refl
unclear_entered defining token p x (Some o) s =
    ap (λ b. demand (names_function o && not (defining && b)) declared_twice token p (first_pass s)) (defined_same o s)
    ∙ demanded (names_function o && not (defining && is_defined o s)) declared_twice token p s

mention_entered : (defining : Bool) (token : ℕ) (p : Pos) (x : Text) (f : Signature) (m : Numbered) → mentioned defining token p x f (first_numbered m) ≡ first_numbered (mentioned defining token p x f m)
mention_entered defining token p x f m = ap (λ u. record { number = m.number; state = u }) (function_entered defining token p x (function_entity x f m.number) (find_here x m.state.names) m.state)

function_declared : (defining : Bool) (token : ℕ) (p : Pos) (x : Text) (f : Option Signature) (s : State) → declare_function defining token p x f (first_pass s) ≡ first_numbered (declare_function defining token p x f s)
function_declared defining token p x None s =
    let n = length s.tables.functions + 1 in
    ap (λ u. record { number = n; state = bodied defining x u }) (unclear_entered defining token p x (find_here x s.names) s)
    ∙ ap (λ u. record { number = n; state = u }) (body_noted defining x (unclear_at defining token p x (find_here x s.names) s))
function_declared defining token p x (Some f) s =
    ap (mentioned defining token p x f) (function_mentioned x f.result f.params s) ∙ mention_entered defining token p x f (mention x f.result f.params s)

-- a function at its end, and by its parameters
abbrev function_end : List Star → Option Named → MaybeInit → TypedSignature → Numbered → TypedFunction
function_end stars x i q d = record { name = declarator stars x (function q.params) i; number = d.number; given = q.given; state = d.state }

abbrev function_by : Bool → List Star → Option Named → MaybeInit → Bool → Option TypeOf → ℕ → TypedSignature → TypedFunction
function_by defining stars x i file k token q =
    let r = by wrong_type (result_type k) in
    let p = name_pos first_place x in
    function_end stars x i q (declare_function defining token p (text_of x) (signature_of (kind_at r) (all_kinds q.given)) (record (rule r token p (closed_params defining q.state)) { file = file }))

abbrev inside : State → State
inside s = record (opened_scope s) { file = false }

pub function_typed : (defining : Bool) (k : Option TypeOf) (stars : List Star) (x : Option Named) (ps : ParamsShape) (i : MaybeInit) (s : State) → IsClean (type_function defining k stars x ps i s).state →
    type_function defining k stars x ps i (first_pass s) ≡ first_function (type_function defining k stars x ps i s)
function_typed defining k stars x ps i s c =
    let begun = steps (star_tokens stars) s in
    let token = token_of_name begun.at x begun in
    let p = name_pos first_place x in
    let j = pointed stars k in
    let r = by wrong_type (result_type j) in
    let d = claim_name false x begun in
    let q = type_params defining ps (inside (steps (name_tokens x) d)) in
    let f = signature_of (kind_at r) (all_kinds q.given) in
    let u = closed_params defining q.state in
    let v = record (rule r token p u) { file = s.file } in
    let late = closed_params_grows defining q.state ▸ (rule_grows r token p u ▸ (declared_grows defining token p (text_of x) f v ▸ c)) in
    ap (λ n. function_by defining stars x i s.file j n (type_params defining ps (inside (steps (name_tokens x) (claim_name false x (first_pass begun)))))) (token_same begun.at x begun)
    ∙ (ap (λ w. function_by defining stars x i s.file j token (type_params defining ps (inside (steps (name_tokens x) w)))) (name_claimed false x begun)
    ∙ (ap (function_by defining stars x i s.file j token) (params_typed defining ps (inside (steps (name_tokens x) d)) late)
    ∙ (ap (λ w. function_end stars x i q (declare_function defining token p (text_of x) f (record (rule r token p w) { file = s.file }))) (params_closed defining q.state)
    ∙ (ap (λ w. function_end stars x i q (declare_function defining token p (text_of x) f (record w { file = s.file }))) (ruled r token p u)
    ∙ ap (function_end stars x i q) (function_declared defining token p (text_of x) f v)))))

-- ---- declarations

declarator_typed : (k : Option TypeOf) (d : DeclaratorShape) (s : State) → IsClean (type_declarator k d s).state → type_declarator k d (first_pass s) ≡ first_variable (type_declarator k d s)
declarator_typed k (declarator stars x (arrays ls) i) s c = variable_typed k stars x ls i s c
declarator_typed k (declarator stars x (function ps) i) s c = ap plain_declarator (function_typed false k stars x ps i s c)

declarators_typed : (k : Option TypeOf) (ds : DeclaratorShapes) (s : State) → IsClean (type_declarators k ds s).state → type_declarators k ds (first_pass s) ≡ first_declarators (type_declarators k ds s)
declarators_typed k no_declarators s c = refl
declarators_typed k (more_declarators d rest) s c =
    let t = type_declarator k d s in
    ap (λ v. let r = type_declarators k rest (step v.state) in record { names = more_declarators v.name r.names; state = r.state }) (declarator_typed k d s (declarators_grow k rest (step t.state) ▸ c))
    ∙ ap (λ r. record { names = more_declarators t.name r.names; state = r.state }) (declarators_typed k rest (step t.state) c)

-- a declaration, by its specifiers
abbrev declared_with : Pos → DeclaratorShapes → ℕ → TypedSpecs → TypedDecl
declared_with p names at t =
    let r = spelled_rule t.spelled in
    let n = type_declarators (kind_at r) names (steps (semicolon names) (rule r at p t.state)) in
    record { decl = decl p t.specs n.names; state = n.state }

pub decl_typed : (d : DeclShape) (s : State) → IsClean (type_decl d s).state → type_decl d (first_pass s) ≡ first_declared (type_decl d s)
decl_typed (decl p specs names) s c =
    let t = type_specs (none_declared names) specs unspelled s in
    let r = spelled_rule t.spelled in
    let u = steps (semicolon names) (rule r s.at p t.state) in
    ap (declared_with p names s.at) (specs_typed (none_declared names) specs unspelled s (rule_grows r s.at p t.state ▸ (declarators_grow (kind_at r) names u ▸ c)))
    ∙ (ap (λ w. let n = type_declarators (kind_at r) names (steps (semicolon names) w) in record { decl = decl p t.specs n.names; state = n.state }) (ruled r s.at p t.state)
    ∙ ap (λ n. record { decl = decl p t.specs n.names; state = n.state }) (declarators_typed (kind_at r) names u c))

pub decls_typed : (ds : DeclShapes) (s : State) → IsClean (type_decls ds s).state → type_decls ds (first_pass s) ≡ first_decl_list (type_decls ds s)
decls_typed no_decls s c = refl
decls_typed (more_decls d rest) s c =
    let t = type_decl d s in
    ap (λ v. let r = type_decls rest v.state in record { decls = more_decls v.decl r.decls; state = r.state }) (decl_typed d s (decls_grow rest t.state ▸ c))
    ∙ ap (λ r. record { decls = more_decls t.decl r.decls; state = r.state }) (decls_typed rest t.state c)
