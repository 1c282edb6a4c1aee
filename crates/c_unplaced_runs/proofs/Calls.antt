-- Calls do the same without places, within as many turns.
use Rattle.std.proofs.Common.{◌≡◌, ℕ, zero, suc, ◌+◌, List, [], ◌∷◌, map, Option, Some, Bool, true, false, if◌then◌else◌, refl, sym, ap, ◌∙◌}
use Rattle.std.specs.Prelude.{nat_eq, nat_lt, length}
use Rattle.c_syntax.specs.declared.tree.ProbeMark.{ProbeMark}
use Rattle.c_syntax.specs.Shape.{TypeOf, DeclShape, decl, DeclShapes, no_decls, more_decls, declarator, no_declarators, more_declarators, DeclFormShape, arrays, function, ParamsShape, empty, void, params, CompoundShape, braces, ExternalShape, defined, declared}
use Rattle.c_store.specs.declared.value.Value.{Value}
use Rattle.c_tables.specs.Tables.{TablesShape}
use Rattle.c_tables.specs.Rows.{text_of}
use Rattle.c_placing.specs.Unplaced.{unplaced, unplaced_mark, unplaced_decl, unplaced_decls, unplaced_behind, unplaced_params, unplaced_compound, unplaced_external}
use Rattle.c_walk.specs.Units.{function_of}
use Rattle.c_meaning.specs.State.{State}
use Rattle.c_meaning.specs.Results.{present}
use Rattle.c_meaning.specs.Layout.{variable_kind}
use Rattle.c_meaning.specs.Firsts.{quiet}
use Rattle.c_meaning.specs.Declarations.{make, bind}
use Rattle.c_meaning.specs.Counts.{params_variables, external_variables}
use Rattle.c_meaning.specs.Knot.{Knot}
use Rattle.c_meaning.specs.Calls.{Source, Routine, routine_in, given_variable, given, given_params, given_all, activated, body_flow, past_signature, called_routine, called_found, knot, calls}
use Rattle.c_meaning.specs.Runs.{silent}
use Rattle.c_unplaced_runs.proofs.Same.{text_same, decl_count, params_count, external_count}
use Rattle.c_unplaced_runs.proofs.Results.{then_same, both, turned, chosen}
use Rattle.c_unplaced_runs.proofs.Expressions.{Follows}
use Rattle.c_unplaced_runs.proofs.Statements.{scalar_alike, marks_alike, compound_alike, loop_alike}

-- ---- parameters

param_given : (t : TablesShape) (d : DeclShape) (i : ℕ) (v : Value) (y : TypeOf) (s : State) → given_variable t (unplaced_decl d) (quiet i) v y s ≡ given_variable t d (quiet i) v y s
param_given t (decl p specs no_declarators) i v y s = refl
param_given t (decl p specs (more_declarators (declarator stars x (arrays ls) e) no_declarators)) i v y s = then_same (make t y s) _ _ (λ j s. scalar_alike x (i + 1) j v (bind (suc i) j s))
param_given t (decl p specs (more_declarators (declarator stars x (function ps) e) no_declarators)) i v y s = refl
param_given t (decl p specs (more_declarators (declarator stars x (arrays ls) e) (more_declarators d rest))) i v y s = refl
param_given t (decl p specs (more_declarators (declarator stars x (function ps) e) (more_declarators d rest))) i v y s = refl

list_given : (t : TablesShape) (ds : DeclShapes) (i : ℕ) (vs : List Value) (s : State) → given t (unplaced_decls ds) (quiet i) vs s ≡ given t ds (quiet i) vs s
list_given t no_decls i [] s = refl
list_given t no_decls i (v ∷ vs) s = refl
list_given t (more_decls d rest) i [] s = refl
list_given t (more_decls d rest) i (v ∷ vs) s =
    then_same (present (variable_kind t (suc i)) s) _ _ (λ y s. both _ _ _ _ (param_given t d i v y s) (λ f s. ap (λ n. given t (unplaced_decls rest) (quiet (i + n)) vs s) (decl_count d) ∙ list_given t rest _ vs s))

params_given : (t : TablesShape) (ps : ParamsShape) (i : ℕ) (vs : List Value) (s : State) → given_params t (unplaced_params ps) (quiet i) vs s ≡ given_params t ps (quiet i) vs s
params_given t (params ds) i vs s = list_given t ds i vs s
params_given t empty i [] s = refl
params_given t empty i (v ∷ vs) s = refl
params_given t void i [] s = refl
params_given t void i (v ∷ vs) s = refl

all_given : (t : TablesShape) (d : DeclFormShape) (i : ℕ) (vs : List Value) (s : State) → given_all t (unplaced_behind d) (quiet i) vs s ≡ given_all t d (quiet i) vs s
all_given t (function ps) i vs s = params_given t ps i vs s
all_given t (arrays ls) i vs s = refl

past_same : (t : TablesShape) (d : DeclFormShape) (i : ℕ) → past_signature t (unplaced_behind d) (quiet i) ≡ past_signature t d (quiet i)
past_same t (function ps) i = ap (λ n. quiet (i + n)) (params_count ps)
past_same t (arrays ls) i = refl

variables_past : (t : TablesShape) (d : DeclFormShape) (i : ℕ) → (n : ℕ) × (past_signature t d (quiet i) ≡ quiet n)
variables_past t (function ps) i = (i + params_variables ps, refl)
variables_past t (arrays ls) i = (i, refl)

-- ---- calls

module _ (t : TablesShape) (k l : Knot) (follows : Follows k l) where
  body_alike : (ms : List ProbeMark) (c : CompoundShape) (i : ℕ) (s : State) → body_flow t k (map unplaced_mark ms) (unplaced_compound c) (quiet i) s ≡ body_flow t l ms c (quiet i) s
  body_alike ms (braces p ds items) i s = marks_alike t k l follows ms s _ _ (λ s. turned s _ _ (λ s. compound_alike t k l follows (braces p ds items) i s))

  body_past : (ms : List ProbeMark) (d : DeclFormShape) (c : CompoundShape) (i : ℕ) (s : State) → body_flow t k (map unplaced_mark ms) (unplaced_compound c) (past_signature t (unplaced_behind d) (quiet i)) s ≡ body_flow t l ms c (past_signature t d (quiet i)) s
  body_past ms d c i s =
      let past = variables_past t d i in
      ap (λ z. body_flow t k (map unplaced_mark ms) (unplaced_compound c) z s) (past_same t d i ∙ past.1)
      ∙ (body_alike ms c past.0 s ∙ ap (λ z. body_flow t l ms c z s) (sym past.1))

  routine_alike : (f : ℕ) (d : DeclFormShape) (ms : List ProbeMark) (c : CompoundShape) (i : ℕ) (vs : List Value) (s : State) → called_routine t k f (record { params = unplaced_behind d; marks = map unplaced_mark ms; body = unplaced_compound c; first = quiet i }) vs s ≡ called_routine t l f (record { params = d; marks = ms; body = c; first = quiet i }) vs s
  routine_alike f d ms c i vs s =
      both _ _ _ _ (chosen (nat_lt (length s.calls) 4000) _ _ _ _ (all_given t d i vs (activated f s)) refl) (λ g s.
      both _ _ _ _ (body_past ms d c i s) (λ g s. refl))

  found_alike : (f : ℕ) (b : Bool) (q r : Option Routine) (x y : Routine) (vs : List Value) (s : State) → called_routine t k f x vs s ≡ called_routine t l f y vs s → called_found t k f q vs s ≡ called_found t l f r vs s → called_found t k f (if b then Some x else q) vs s ≡ called_found t l f (if b then Some y else r) vs s
  found_alike f true q r x y vs s e g = e
  found_alike f false q r x y vs s e g = g

  pub call_alike : (f : ℕ) (es : List ExternalShape) (i : ℕ) (vs : List Value) (s : State) → called_found t k f (routine_in t f (quiet i) (map unplaced_external es)) vs s ≡ called_found t l f (routine_in t f (quiet i) es) vs s
  call_alike f [] i vs s = refl
  call_alike f (declared d ∷ rest) i vs s = ap (λ n. called_found t k f (routine_in t f (quiet (i + n)) (map unplaced_external rest)) vs s) (external_count (declared d)) ∙ call_alike f rest _ vs s
  call_alike f (defined specs (declarator stars x d e) ms c ∷ rest) i vs s =
      ap (λ z. called_found t k f (if nat_eq (function_of t z) f then Some (record { params = unplaced_behind d; marks = map unplaced_mark ms; body = unplaced_compound c; first = quiet i }) else routine_in t f (quiet (i + external_variables (unplaced_external (defined specs (declarator stars x d e) ms c)))) (map unplaced_external rest)) vs s) (text_same x)
      ∙ found_alike f (nat_eq (function_of t (text_of x)) f) _ _ _ _ vs s (routine_alike f d ms c i vs s)
      (ap (λ n. called_found t k f (routine_in t f (quiet (i + n)) (map unplaced_external rest)) vs s) (external_count (defined specs (declarator stars x d e) ms c)) ∙ call_alike f rest _ vs s)

-- ---- the knot

abbrev pub placeless : Source → Source
placeless P = record P { unit = unplaced P.unit }

knots_follow : (P : Source) (n : ℕ) → Follows (knot (placeless P) silent n) (knot P silent n)
knots_follow P zero = record { call = λ f vs s. refl; again = λ e n a m g j s. refl }
knots_follow P (suc n) =
    let k = knot (placeless P) silent n in
    let l = knot P silent n in
    record {
      call = λ f vs s. call_alike P.tables k l (knots_follow P n) f P.unit.externals 0 vs s;
      again = λ e n' a m g j s. loop_alike P.tables k l (knots_follow P n) e n' a m g j s;
    }

pub calls_follow : (P : Source) → Follows (calls (placeless P) silent) (calls P silent)
unfolding calls
calls_follow P = record {
  call = λ f vs s. (knots_follow P (suc s.turns)).call f vs s;
  again = λ e n a m g j s. (knots_follow P (suc s.turns)).again e n a m g j s;
}
