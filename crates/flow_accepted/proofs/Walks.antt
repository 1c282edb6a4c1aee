-- Where the rows that the walk counts for parameters are those of scalars, the parameters are scalars.
use Rattle.std.proofs.Common.{◌≡◌, ℕ, zero, suc, ◌+◌, ◌-◌, ◌<◌, ◌≤◌, List, [], ◌∷◌, ◌++◌, length, Option, refl, sym, ap, ◌∙◌, subst, arith}
use Rattle.std.specs.Prelude.{slice_get}
use Rattle.c_syntax.specs.Shape.{decl, DeclShapes, no_decls, more_decls, DeclaratorShapes, no_declarators, more_declarators, declarator, DeclFormShape, arrays, function, ParamsShape, empty, void, params}
use Rattle.c_tables.specs.Tables.{VariableShape, TablesShape}
use Rattle.c_tables.specs.Rows.{row}
use Rattle.c_walk.specs.Walked.{Walked}
use Rattle.c_walk.specs.Units.{define_declarator, define_decl}
use Rattle.c_meaning.specs.Layout.{kind_in, variable_kind}
use Rattle.c_meaning.specs.Counts.{variables_among, decls_variables, params_variables, signature_variables}
use Rattle.c_meaning.proofs.Declared.{param_count, defined_count}
use Rattle.flow_initial.proofs.RowLists.{row_at}
use Rattle.flow_parts.specs.Parameters.{IsScalarKind, AreScalarParams, AreScalarLines, HasScalarParameters}
use Rattle.flow_accepted.proofs.Given.{ScalarFrom}

-- so many variables behind so many others are scalars
abbrev pub ScalarRange : TablesShape → ℕ → ℕ → Type 0
ScalarRange t n m = (i : ℕ) → n ≤ i → i < n + m → IsScalarKind (variable_kind t (suc i))

in_front : (vs more : List VariableShape) (i : ℕ) → i < length vs → slice_get (vs ++ more) i ≡ slice_get vs i
in_front [] more i h = absurd (omega (arith, h))
in_front (v ∷ vs) more zero h = refl
in_front (v ∷ vs) more (suc i) h = in_front vs more i (omega (arith, h))

next_row : (vs : List VariableShape) (i : ℕ) → row vs (suc i) ≡ slice_get vs i
next_row vs i = row_at vs (suc i) (omega arith) ∙ ap (λ (j : ℕ). slice_get vs j) (let same : suc i - 1 ≡ i = omega arith in same)

-- tables that have these variables, and more behind them
pub range_in : (t : TablesShape) (vs more : List VariableShape) (n m : ℕ) → t.variables ≡ vs ++ more → length vs ≡ n + m → ScalarFrom n vs → ScalarRange t n m
range_in t vs more n m e size h i low high =
    let there = next_row t.variables i ∙ ap (λ (us : List VariableShape). slice_get us i) e ∙ in_front vs more i (omega (arith, high, size)) in
    subst (λ (o : Option VariableShape). IsScalarKind (kind_in o)) (sym there) (h i low)

module _ (t : TablesShape) (f : ℕ) where
  names_scalar : (ds : DeclaratorShapes) (w : Walked) → ScalarRange t w.variables (variables_among ds) → AreScalarParams t f ds w
  names_scalar no_declarators w h = tt
  names_scalar (more_declarators (declarator stars x (arrays ls) i) rest) w h =
      let d = declarator stars x (arrays ls) i in
      let one = defined_count t f d w in
      (h w.variables (omega arith) (omega arith), names_scalar rest (define_declarator t f d w) (λ j low high. h j (omega (arith, low, one)) (omega (arith, high, one))))
  names_scalar (more_declarators (declarator stars x (function ps) i) rest) w h = (tt, names_scalar rest w (λ j low high. h j low (omega (arith, high))))

  lines_scalar : (ds : DeclShapes) (w : Walked) → ScalarRange t w.variables (decls_variables ds) → AreScalarLines t f ds w
  lines_scalar no_decls w h = tt
  lines_scalar (more_decls (decl p specs names) rest) w h =
      let d = decl p specs names in
      let one = param_count t f d w in
      (names_scalar names w (λ j low high. h j low (omega (arith, high))), lines_scalar rest (define_decl t f d w) (λ j low high. h j (omega (arith, low, one)) (omega (arith, high, one))))

  params_scalar : (ps : ParamsShape) (w : Walked) → ScalarRange t w.variables (params_variables ps) → HasScalarParameters t f (function ps) w
  params_scalar empty w h = tt
  params_scalar void w h = tt
  params_scalar (params ds) w h = lines_scalar ds w h

  pub form_scalar : (d : DeclFormShape) (w : Walked) → ScalarRange t w.variables (signature_variables d) → HasScalarParameters t f d w
  form_scalar (function ps) w h = params_scalar ps w h
  form_scalar (arrays ls) w h = tt
