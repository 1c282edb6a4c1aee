-- What is typed of a unit with its probes, behind a typing of the unit without them in which nothing is complained of: it comes out as it
-- stands, with the same tables, and nothing is complained of.
use Rattle.std.specs.Prelude.{◌≡◌, ℕ, List, [], Bool, true, false, is_some, Option, None}
use Rattle.c_syntax.specs.declared.text.Text.{Text}
use Rattle.c_syntax.specs.declared.tree.Named.{Named}
use Rattle.c_syntax.specs.declared.tree.Star.{Star}
use Rattle.c_syntax.specs.Shape.{TypeOf, DeclShape, DeclaratorShape, declarator, function, ParamsShape, MaybeInit, ExternalShape, UnitShape}
use Rattle.c_syntax.specs.Shaped.{in_names, ShapedDecl, ShapedParams, ShapedExternal, ShapedUnit}
use Rattle.c_constants.specs.Probes.{digest_of}
use Rattle.c_tables.specs.Tables.{TablesShape}
use Rattle.c_tree.specs.State.{State, steps}
use Rattle.c_tree.specs.Parts.{star_tokens}
use Rattle.c_tree.specs.Declaring.{name_tokens, claim_name, opened_scope, type_params, TypedFunction, type_function, TypedDecl, type_decl}
use Rattle.c_tree.specs.Units.{TypedExternal, type_external, TypedUnit, type_unit}
use Rattle.c_walk.specs.Walked.{Walked}
use Rattle.c_walk.specs.Units.{define_decl, define_params, walk_external, walk_externals, no_items}
use Rattle.c_sites_probes.specs.Marked.{name_mark, params_mark, decl_mark, external_mark, unit_mark}
use Rattle.probe_rules.specs.Fitting.{HasFewItems}
use Rattle.probe_rules.specs.Instrumented.{defined_params, defined_decl, probed_external, instrumented_unit}
use Rattle.probe_laws.proofs.Settled.{IsThere, IsClean}
use Rattle.probe_laws.proofs.Known.{Knows}
use Rattle.probe_typed.specs.Typed.{Follows}
use Rattle.probe_programs.specs.Stated.{CompoundsAreTypedAs}

-- ---- declarations of file scope, outside functions: each variable is defined at its name

pub record IsDeclDefinedAs (v : Walked) (x : TypedDecl) (d : DeclShape) (y : TypedDecl) : Type 0 where
  pub decl : y.decl ≡ d
  pub state : Follows v x.state y.state

abbrev pub DeclsAreDefinedAs : Type 0
DeclsAreDefinedAs = (tables : TablesShape) (d : DeclShape) (w : Walked) (s t : State) → ShapedDecl in_names d → Knows false s → s.function ≡ 0 → (
    let x = type_decl d s in
    let p = defined_decl tables 0 x.decl w in
    let v = define_decl tables 0 x.decl w in
    decl_mark x.decl ≡ None → IsClean x.state → HasFewItems v → Follows w s t → IsDeclDefinedAs v x p (type_decl p t))

-- ---- functions with bodies: each parameter is defined at its name

pub record IsFunctionDefinedAs (v : Walked) (x : TypedFunction) (d : DeclaratorShape) (y : TypedFunction) : Type 0 where
  pub name : y.name ≡ d
  pub number : y.number ≡ x.number
  pub given : y.given ≡ x.given
  pub state : Follows v x.state y.state

-- where the parentheses begin
abbrev pub at_params : List Star → Option Named → State → State
at_params stars x s = record (opened_scope (steps (name_tokens x) (claim_name false x (steps (star_tokens stars) s)))) { file = false }

-- the declarator of function f, behind specifiers of the same type
abbrev pub FunctionsAreDefinedAs : Type 0
FunctionsAreDefinedAs = (tables : TablesShape) (f : ℕ) (k k' : Option TypeOf) (stars : List Star) (n : Option Named) (ps : ParamsShape) (i : MaybeInit) (w : Walked) (s t : State) → k' ≡ k → ShapedParams ps → IsThere k → Knows false s → (
    let x = type_function true k stars n ps i s in
    let list = (type_params true ps (at_params stars n s)).params in
    let qs = defined_params tables f list w in
    let v = define_params tables f list w in
    name_mark n ≡ None → params_mark list ≡ None → IsClean x.state → HasFewItems v → Follows w s t → IsFunctionDefinedAs v x (declarator stars n (function qs) i) (type_function true k' stars n qs i t))

-- ---- declarations and functions of a unit, where bodies of functions are typed as they stand: each body is a block

pub record IsExternalTypedAs (v : Walked) (x : TypedExternal) (e : ExternalShape) (y : TypedExternal) : Type 0 where
  pub external : y.external ≡ e
  pub state : Follows v x.state y.state

abbrev pub ExternalsAreTypedAs : Type 0
ExternalsAreTypedAs = CompoundsAreTypedAs → (tables : TablesShape) (e : ExternalShape) (w : Walked) (s t : State) → ShapedExternal e → external_mark e ≡ None → Knows false s → s.function ≡ 0 → (
    let x = type_external e s in
    let p = probed_external tables x.external w in
    let v = walk_external tables x.external w in
    external_mark x.external ≡ None → IsClean x.state → HasFewItems v → Follows w s t → IsExternalTypedAs v x p (type_external p t))

-- ---- units

pub record IsUnitTypedAs (x : TypedUnit) (q : UnitShape) (y : TypedUnit) : Type 0 where
  pub unit : y.unit ≡ q
  pub tables : y.state.tables ≡ x.state.tables
  pub complaints : y.state.complaints ≡ []

-- a plain unit behind the program line with that digest, whichever functions count as defined and whatever tables give the numbers of items
abbrev pub UnitsAreTypedAs : Type 0
UnitsAreTypedAs = CompoundsAreTypedAs → (known : Option (List Bool)) (digest : Text) (tables : TablesShape) (u : UnitShape) → ShapedUnit u → unit_mark u ≡ None → is_some (digest_of digest) ≡ true → (
    let x = type_unit known u in
    let q = instrumented_unit digest tables x.unit in
    unit_mark x.unit ≡ None → IsClean x.state → HasFewItems (walk_externals tables x.unit.externals no_items) → IsUnitTypedAs x q (type_unit known q))
