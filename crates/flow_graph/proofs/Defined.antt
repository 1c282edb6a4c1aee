-- Parameters that are laid in turn, and declarations that are counted.
use Rattle.std.proofs.Common.{ℕ, ◌+◌, ◌<◌, ◌≡◌, List, ◌∷◌, [], ◌++◌, take, get_or, length, true, Option, refl, sym, subst, ap, ◌∙◌}
use Rattle.std.proofs.lemmas.List.{take_more}
use Rattle.c_base.specs.declared.place.Pos.{Pos}
use Rattle.c_syntax.specs.declared.tree.Named.{Named}
use Rattle.c_syntax.specs.declared.tree.Param.{Param}
use Rattle.c_syntax.specs.declared.tree.Declarator.{Declarator}
use Rattle.c_syntax.specs.Shape.{DeclShape, decl, DeclShapes, no_decls, more_decls, DeclaratorShape, declarator, DeclaratorShapes, no_declarators, more_declarators, DeclFormShape, arrays, function, ParamsShape, empty, void, params}
use Rattle.c_syntax.specs.View.{declarator_shape, declarator_list, param_shape, param_list}
use Rattle.c_tables.specs.Tables.{TablesShape}
use Rattle.c_tables.specs.Rows.{first_place, name_pos}
use Rattle.c_walk.specs.Items.{Direct}
use Rattle.c_walk.specs.Walked.{Walked, with_def}
use Rattle.c_walk.specs.Counted.{next_def}
use Rattle.c_walk.specs.Stating.{whole, with_variable, with_whole_def}
use Rattle.c_walk.specs.Units.{in_function, define_declarator, define_declarators, define_decl, define_decls, define_params}
use Rattle.flow_walks.specs.declared.action.Action.TheVariants.{Define}
use Rattle.flow_walks.specs.Comes.{Comes, act, emit}
use Rattle.flow_walks.specs.Walks.{parameter_goes, parameters_of, parameter_line, parameter_lines, parameters_go}
use Rattle.flow_walks.proofs.More.{In, emit_in}
use Rattle.flow_rows.specs.Paths.{Graph}
use Rattle.flow_rows.specs.Counts.{counts, Counted}
use Rattle.flow_rows.specs.Laying.{Grown, Lays, LaidAt, Placed}
use Rattle.flow_rows.specs.declared.numbers.Numbers.{Numbers}
use Rattle.flow_rows.proofs.Runs.{Run}

-- ---- one parameter

pub parameter_placed : (t : TablesShape) (x : Option Named) (g h : Graph) (n l m : Numbers) (d at y : ℕ) → Grown g h → LaidAt h at (λ k. emit (act (Define d)) (k y))
    → Counted n l (λ c w. with_variable w) → ((w : Walked) → counts w ≡ l → d ≡ next_def w) → ((p : Pos) (i : Option Direct) → Counted l m (λ c w. with_def true c p i w))
    → Placed g h n m at (λ c w k. emit (act (Define (next_def (with_variable w)))) (k y)) (λ c w. with_whole_def t c.function x (with_variable w))
parameter_placed t x g h n l m d at y gh row first number second = record {
  grown = gh;
  laid = λ c w e j k. subst (λ d. Lays j at (λ k. emit (act (Define d)) (k y))) (number (with_variable w) (first c w e)) (row j k);
  counted = λ c w e. second (name_pos first_place x) (whole t (with_variable w).variables) c (with_variable w) (first c w e);
}

pub name_counted : (t : TablesShape) (f : ℕ) (x : Option Named) (n l m : Numbers) → Counted n l (λ c w. with_variable w) → ((p : Pos) (i : Option Direct) → Counted l m (λ c w. with_def true c p i w)) → Counted n m (λ c w. with_whole_def t f x (with_variable w))
name_counted t f x n l m first second c w e = second (name_pos first_place x) (whole t (with_variable w).variables) (in_function f) (with_variable w) (first c w e)

pub list_placed : (t : TablesShape) (g h : Graph) (n m : Numbers) (at y : ℕ) (f : ParamsShape) (ds : DeclShapes) → f ≡ params ds → Placed g h n m at (λ c w k. parameter_lines t c.function ds w (k y)) (λ c w. define_decls t c.function ds w)
    → Placed g h n m at (λ c w k. parameters_go t c.function (function f) w (k y)) (λ c w. define_params t c.function f w)
list_placed t g h n m at y f ds is part = subst (λ f. Placed g h n m at (λ c w k. parameters_go t c.function (function f) w (k y)) (λ c w. define_params t c.function f w)) (sym is) part

-- ---- where more may come behind them, more may come with them

module _ (t : TablesShape) (f : ℕ) where
  parameter_in : (d : DeclaratorShape) (s : Walked) (j k : Comes) → In j k → In (parameter_goes t f d s j) (parameter_goes t f d s k)
  parameter_in (declarator stars x (arrays ls) i) s j k h = emit_in _ j k h
  parameter_in (declarator stars x (function ps) i) s j k h = h

  names_in : (ds : DeclaratorShapes) (s : Walked) (j k : Comes) → In j k → In (parameters_of t f ds s j) (parameters_of t f ds s k)
  names_in no_declarators s j k h = h
  names_in (more_declarators d rest) s j k h = parameter_in d s _ _ (names_in rest (define_declarator t f d s) j k h)

  line_in : (d : DeclShape) (s : Walked) (j k : Comes) → In j k → In (parameter_line t f d s j) (parameter_line t f d s k)
  line_in (decl p specs names) s j k h = names_in names s j k h

  pub lines_in : (ds : DeclShapes) (s : Walked) (j k : Comes) → In j k → In (parameter_lines t f ds s j) (parameter_lines t f ds s k)
  lines_in no_decls s j k h = h
  lines_in (more_decls d rest) s j k h = line_in d s _ _ (lines_in rest (define_decl t f d s) j k h)

  pub parameters_in : (d : DeclFormShape) (s : Walked) (j k : Comes) → In j k → In (parameters_go t f d s j) (parameters_go t f d s k)
  parameters_in (function (params ds)) s j k h = lines_in ds s j k h
  parameters_in (function empty) s j k h = h
  parameters_in (function void) s j k h = h
  parameters_in (arrays ls) s j k h = h

  -- ---- in turn

  pub lines_more : (xs : List Param) (x : Param) (w : Walked) (j : Comes) → parameter_lines t f (param_list (xs ++ x ∷ [])) w j ≡ parameter_lines t f (param_list xs) w (parameter_line t f (param_shape x) (define_decls t f (param_list xs) w) j)
  lines_more [] x w j = refl
  lines_more (y ∷ ys) x w j = ap (λ (k : Comes). parameter_line t f (param_shape y) w k) (lines_more ys x (define_decl t f (param_shape y) w) j)

  pub lines_walk : (xs : List Param) (x : Param) (w : Walked) → define_decls t f (param_list (xs ++ x ∷ [])) w ≡ define_decl t f (param_shape x) (define_decls t f (param_list xs) w)
  lines_walk [] x w = refl
  lines_walk (y ∷ ys) x w = lines_walk ys x (define_decl t f (param_shape y) w)

  names_walk : (xs : List Declarator) (x : Declarator) (w : Walked) → define_declarators t f (declarator_list (xs ++ x ∷ [])) w ≡ define_declarator t f (declarator_shape x) (define_declarators t f (declarator_list xs) w)
  names_walk [] x w = refl
  names_walk (y ∷ ys) x w = names_walk ys x (define_declarator t f (declarator_shape y) w)

  pub names_next : (n m l : Numbers) (all : List Declarator) (o : ℕ) (x : Declarator) → o < length all → x ≡ get_or all o x → Counted n m (λ c w. define_declarators t f (declarator_list (take o all)) w) → Counted m l (λ c w. define_declarator t f (declarator_shape x) w)
      → Counted n l (λ c w. define_declarators t f (declarator_list (take (o + 1) all)) w)
  names_next n m l all o x lt is before one c w e =
      subst (λ xs. counts (define_declarators t f (declarator_list xs) w) ≡ l) (ap (λ y. take o all ++ y ∷ []) is ∙ sym (take_more all o x lt))
      (ap counts (names_walk (take o all) x w) ∙ one c (define_declarators t f (declarator_list (take o all)) w) (before c w e))

abbrev pub params_run : TablesShape → Run Param
params_run t = record {
  goes = λ c xs w k j. parameter_lines t c.function (param_list xs) w j;
  walk = λ c xs w. define_decls t c.function (param_list xs) w;
  one = λ c xs x w k j. parameter_line t c.function (param_shape x) w j;
  step = λ c xs x w. define_decl t c.function (param_shape x) w;
  none_goes = λ c w k j. refl;
  none_walk = λ c w. refl;
  more_goes = λ c xs x w k j. lines_more t c.function xs x w j;
  more_walk = λ c xs x w. lines_walk t c.function xs x w;
  goes_in = λ c xs w k i j h. lines_in t c.function (param_list xs) w i j h;
}
