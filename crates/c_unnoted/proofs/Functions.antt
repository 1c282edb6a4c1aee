-- Functions and declarations are typed alike without their notes.
use Rattle.std.proofs.Common.{◌≡◌, ℕ, List, Option, Bool, false, refl, ap, ◌∙◌}
use Rattle.c_base.specs.declared.place.Pos.{Pos}
use Rattle.c_syntax.specs.declared.tree.Named.{Named}
use Rattle.c_syntax.specs.declared.tree.Star.{Star}
use Rattle.c_syntax.specs.Shape.{TypeOf, DeclShape, decl, DeclShapes, no_decls, more_decls, DeclaratorShape, declarator, DeclaratorShapes, no_declarators, more_declarators, arrays, function, ParamsShape, MaybeInit}
use Rattle.c_type_rules.specs.Verdicts.{result_type}
use Rattle.c_tables.specs.Rows.{first_place, text_of, name_pos}
use Rattle.c_tree.specs.Complaints.{wrong_type}
use Rattle.c_tree.specs.State.{State, steps, step}
use Rattle.c_tree.specs.Rulings.{by, rule, kind_at}
use Rattle.c_tree.specs.Parts.{pointed, star_tokens, spelled_rule, unspelled, TypedSpecs}
use Rattle.c_tree.specs.Typing.{type_specs}
use Rattle.c_tree.specs.Declaring.{name_tokens, claim_name, token_of_name, TypedSignature, opened_scope, all_kinds, signature_of, declare_function, TypedFunction, closed_params, type_function, plain_declarator, type_declarator, TypedDeclarators, type_declarators, none_declared, semicolon, TypedDecl, type_decl, TypedDeclList, type_decls}
use Rattle.c_tree.specs.Unnoted.{bare_specs, bare_decl, bare_decls, bare_name, bare_names, bare_params, bare_maybe_init}
use Rattle.c_unnoted.specs.Written.{written_specs, written_decl, written_decls, written_name, written_names}
use Rattle.c_unnoted.proofs.Nodes.{specs_typed}
use Rattle.c_unnoted.proofs.Decls.{written_variable, variable_typed, params_typed}

-- ---- what is typed, with the notes that typing writes

abbrev pub written_function : TypedFunction → TypedFunction
written_function t = record { name = written_name t.name; number = t.number; given = t.given; state = t.state }

abbrev written_declarators : TypedDeclarators → TypedDeclarators
written_declarators t = record { names = written_names t.names; state = t.state }

abbrev pub written_declared : TypedDecl → TypedDecl
written_declared t = record { decl = written_decl t.decl; state = t.state }

abbrev written_decl_list : TypedDeclList → TypedDeclList
written_decl_list t = record { decls = written_decls t.decls; state = t.state }

-- ---- functions

-- a function, by its parameters
abbrev function_by : Bool → Option TypeOf → List Star → Option Named → MaybeInit → Bool → ℕ → TypedSignature → TypedFunction
function_by defining k stars x i file token q =
    let p = name_pos first_place x in
    let r = by wrong_type (result_type (pointed stars k)) in
    let d = declare_function defining token p (text_of x) (signature_of (kind_at r) (all_kinds q.given)) (record (rule r token p (closed_params defining q.state)) { file = file }) in
    record { name = declarator stars x (function q.params) i; number = d.number; given = q.given; state = d.state }

pub function_typed : (defining : Bool) (k : Option TypeOf) (stars : List Star) (x : Option Named) (ps : ParamsShape) (i : MaybeInit) (s : State) →
    type_function defining k stars x (bare_params ps) (bare_maybe_init i) s ≡ written_function (type_function defining k stars x ps i s)
function_typed defining k stars x ps i s =
    let begun = steps (star_tokens stars) s in
    ap (function_by defining k stars x (bare_maybe_init i) s.file (token_of_name begun.at x begun)) (params_typed defining ps (record (opened_scope (steps (name_tokens x) (claim_name false x begun))) { file = false }))

-- ---- declarations

declarator_typed : (k : Option TypeOf) (d : DeclaratorShape) (s : State) → type_declarator k (bare_name d) s ≡ written_variable (type_declarator k d s)
declarator_typed k (declarator stars x (arrays ls) i) s = variable_typed k stars x ls i s
declarator_typed k (declarator stars x (function ps) i) s = ap plain_declarator (function_typed false k stars x ps i s)

declarators_typed : (k : Option TypeOf) (ds : DeclaratorShapes) (s : State) → type_declarators k (bare_names ds) s ≡ written_declarators (type_declarators k ds s)
declarators_typed k no_declarators s = refl
declarators_typed k (more_declarators d rest) s =
    let t = type_declarator k d s in
    ap (λ v. let r = type_declarators k (bare_names rest) (step v.state) in record { names = more_declarators v.name r.names; state = r.state }) (declarator_typed k d s)
    ∙ ap (λ r. record { names = more_declarators (written_name t.name) r.names; state = r.state }) (declarators_typed k rest (step t.state))

none_same : (ds : DeclaratorShapes) → none_declared (bare_names ds) ≡ none_declared ds
none_same no_declarators = refl
none_same (more_declarators d rest) = refl

semicolon_same : (ds : DeclaratorShapes) → semicolon (bare_names ds) ≡ semicolon ds
semicolon_same no_declarators = refl
semicolon_same (more_declarators d rest) = refl

-- a declaration, by its specifiers
abbrev declared_with : Pos → DeclaratorShapes → ℕ → ℕ → TypedSpecs → TypedDecl
declared_with p names token semicolons t =
    let r = spelled_rule t.spelled in
    let n = type_declarators (kind_at r) names (steps semicolons (rule r token p t.state)) in
    record { decl = decl p t.specs n.names; state = n.state }

pub decl_typed : (d : DeclShape) (s : State) → type_decl (bare_decl d) s ≡ written_declared (type_decl d s)
decl_typed (decl p specs names) s =
    let ns = bare_names names in
    let t = type_specs (none_declared names) specs unspelled s in
    let r = spelled_rule t.spelled in
    ap (λ b. declared_with p ns s.at (semicolon ns) (type_specs b (bare_specs specs) unspelled s)) (none_same names)
    ∙ (ap (λ n. declared_with p ns s.at n (type_specs (none_declared names) (bare_specs specs) unspelled s)) (semicolon_same names)
    ∙ (ap (declared_with p ns s.at (semicolon names)) (specs_typed (none_declared names) specs unspelled s)
    ∙ ap (λ n. record { decl = decl p (written_specs t.specs) n.names; state = n.state }) (declarators_typed (kind_at r) names (steps (semicolon names) (rule r s.at p t.state)))))

pub decls_typed : (ds : DeclShapes) (s : State) → type_decls (bare_decls ds) s ≡ written_decl_list (type_decls ds s)
decls_typed no_decls s = refl
decls_typed (more_decls d rest) s =
    let t = type_decl d s in
    ap (λ v. let r = type_decls (bare_decls rest) v.state in record { decls = more_decls v.decl r.decls; state = r.state }) (decl_typed d s)
    ∙ ap (λ r. record { decls = more_decls (written_decl t.decl) r.decls; state = r.state }) (decls_typed rest t.state)
