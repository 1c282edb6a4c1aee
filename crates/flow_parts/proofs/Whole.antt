-- What is defined at its name is a variable as a whole; outside of functions it is one of those that are declared there.
use Rattle.std.proofs.Common.{◌≡◌, ◌⊎◌, ℕ, zero, suc, ◌≤◌, ◌<◌, ◌++◌, List, [], ◌∷◌, Option, Some, None, Bool, true, false, inl, inr, refl, ap, sym, subst, ◌∙◌, arith}
use Rattle.std.specs.Prelude.{nat_eq, ◌||◌, option_map}
use Rattle.c_syntax.specs.declared.tree.Named.{Named}
use Rattle.c_syntax.specs.Shape.{DeclShape, decl, DeclShapes, no_decls, more_decls, DeclaratorShape, declarator, DeclaratorShapes, no_declarators, more_declarators, DeclFormShape, arrays, function, empty, void, params}
use Rattle.c_tables.specs.Tables.{TablesShape, VariableShape}
use Rattle.c_tables.specs.Rows.{row, first_place, name_pos}
use Rattle.c_walk.specs.Items.{Direct, Item, block, decision, def, used}
use Rattle.c_walk.specs.Counted.{def_count}
use Rattle.c_walk.specs.Walked.{Walked}
use Rattle.c_walk.specs.Stating.{whole_of, whole, with_variable, with_whole_def}
use Rattle.c_walk.specs.Units.{define_declarator, define_declarators, define_decl, define_decls, define_parameters}
use Rattle.flow_walks.proofs.Appended.{defs_both}
use Rattle.flow_parts.specs.Items.{def_at, outer_names, is_among}
use Rattle.flow_parts.proofs.Found.{def_there}
use Rattle.flow_parts.proofs.Grown.{Grows, defines_grow, define_decls_grow}

-- ---- the n-th definition of a list and of a longer one

pub def_front : (k : ℕ) (xs ys : List Item) → 1 ≤ k → k ≤ def_count xs → def_at k (xs ++ ys) ≡ def_at k xs
def_front k [] ys a b = absurd (omega (arith, a, b))
def_front k (block p ∷ xs) ys a b = def_front k xs ys a b
def_front k (decision p o ∷ xs) ys a b = def_front k xs ys a b
def_front k (used p f d o ∷ xs) ys a b = def_front k xs ys a b
def_front zero (def p f d ∷ xs) ys a b = absurd (omega (arith, a))
def_front (suc zero) (def p f d ∷ xs) ys a b = refl
def_front (suc (suc k)) (def p f d ∷ xs) ys a b = def_front (suc k) xs ys (omega arith) (omega (arith, b))

pub up_to : (k n : ℕ) → (k ≤ n) ⊎ (n < k)
up_to zero n = inl (omega arith)
up_to (suc k) zero = inr (omega arith)
up_to (suc k) (suc n) = elim (up_to k n) [ inl a ↦ inl (omega (arith, a)) | inr b ↦ inr (omega (arith, b)) ]

module _ (Q : Direct → Type 0) where
  -- each direct place that is defined between is such a one
  abbrev pub Between : Walked → Walked → Type 0
  Between s u = (k : ℕ) (d : Direct) → def_count s.items < k → k ≤ def_count u.items → def_at k u.items ≡ Some d → Q d

  between_none : (s : Walked) → Between s s
  between_none s k d a b e = absurd (omega (arith, a, b))

  between_on : (s u v : Walked) → Grows u v → Between s u → Between u v → Between s v
  between_on s u v g f h k d a b e = elim (up_to k (def_count u.items)) [
    | inl le ↦ f k d a le (sym (ap (def_at k) g.items ∙ def_front k u.items g.more (omega (arith, a)) le) ∙ e)
    | inr lt ↦ h k d lt b e
  ]

  between_whole : (t : TablesShape) (f : ℕ) (x : Option Named) (s : Walked) → ((d : Direct) → whole t s.variables ≡ Some d → Q d) → Between s (with_whole_def t f x s)
  between_whole t f x s h k d a b e =
      let p = name_pos first_place x in
      let o = whole t s.variables in
      let n = defs_both s.items (def p f o ∷ []) in
      let is : k ≡ suc (def_count s.items) = omega (arith, a, b, n) in
      h d (sym (def_there s.items p f o []) ∙ ap (λ (m : ℕ). def_at m (s.items ++ def p f o ∷ [])) (sym is) ∙ e)

abbrev variable_in : Option Direct → ℕ
variable_in None = 0
variable_in (Some d) = d.variable

-- ---- parameters

module _ (t : TablesShape) where
  abbrev pub IsWhole : Direct → Type 0
  IsWhole d = (n : ℕ) × (whole t n ≡ Some d)

  module _ (f : ℕ) where
    declarator_whole : (d : DeclaratorShape) (s : Walked) → Between IsWhole s (define_declarator t f d s)
    declarator_whole (declarator stars x (arrays ls) i) s = between_whole IsWhole t f x (with_variable s) (λ d e. ((with_variable s).variables, e))
    declarator_whole (declarator stars x (function ps) i) s = between_none IsWhole s

    declarators_whole : (ds : DeclaratorShapes) (s : Walked) → Between IsWhole s (define_declarators t f ds s)
    declarators_whole no_declarators s = between_none IsWhole s
    declarators_whole (more_declarators d rest) s =
        let u = define_declarator t f d s in
        between_on IsWhole s u (define_declarators t f rest u) (defines_grow t f rest u) (declarator_whole d s) (declarators_whole rest u)

    decl_whole : (d : DeclShape) (s : Walked) → Between IsWhole s (define_decl t f d s)
    decl_whole (decl p specs names) s = declarators_whole names s

    decls_whole : (ds : DeclShapes) (s : Walked) → Between IsWhole s (define_decls t f ds s)
    decls_whole no_decls s = between_none IsWhole s
    decls_whole (more_decls d rest) s =
        let u = define_decl t f d s in
        between_on IsWhole s u (define_decls t f rest u) (define_decls_grow t f rest u) (decl_whole d s) (decls_whole rest u)

    pub parameters_whole : (d : DeclFormShape) (s : Walked) → Between IsWhole s (define_parameters t f d s)
    parameters_whole (function (params ds)) s = decls_whole ds s
    parameters_whole (function empty) s = between_none IsWhole s
    parameters_whole (function void) s = between_none IsWhole s
    parameters_whole (arrays ls) s = between_none IsWhole s

  pub whole_variable : (n : ℕ) (o : Option VariableShape) (d : Direct) → option_map (whole_of n) o ≡ Some d → d.variable ≡ n
  whole_variable n None d e = cc
  whole_variable n (Some v) d e = sym (ap variable_in e)

  -- ---- outside of functions

  or_true : (a b : Bool) → b ≡ true → (a || b) ≡ true
  or_true true b e = refl
  or_true false b e = e

  equal_true : (n m : ℕ) → m ≡ n → nat_eq n m ≡ true
  equal_true n m e = subst (λ (k : ℕ). nat_eq n k ≡ true) (sym e) (grind arith)

  abbrev IsOuter : DeclaratorShapes → Walked → Direct → Type 0
  IsOuter names s d = is_among d.variable (outer_names t names s) ≡ true

  first_outer : (rest : DeclaratorShapes) (s u : Walked) (d : Direct) → d.variable ≡ suc s.variables → (nat_eq (suc s.variables) d.variable || is_among d.variable (outer_names t rest u)) ≡ true
  first_outer rest s u d e = ap (λ b. b || is_among d.variable (outer_names t rest u)) (equal_true (suc s.variables) d.variable e)

  pub names_outer : (names : DeclaratorShapes) (s : Walked) → Between (IsOuter names s) s (define_declarators t 0 names s)
  names_outer no_declarators s = between_none (IsOuter no_declarators s) s
  names_outer (more_declarators (declarator stars x (arrays ls) i) rest) s =
      let d = declarator stars x (arrays ls) i in
      let Q = IsOuter (more_declarators d rest) s in
      let u = define_declarator t 0 d s in
      between_on Q s u (define_declarators t 0 rest u) (defines_grow t 0 rest u)
      (between_whole Q t 0 x (with_variable s) (λ c e. first_outer rest s u c (let n = whole_variable (with_variable s).variables (row t.variables (with_variable s).variables) c e in omega (arith, n))))
      (λ k c a b e. or_true (nat_eq (suc s.variables) c.variable) _ (names_outer rest u k c a b e))
  names_outer (more_declarators (declarator stars x (function ps) i) rest) s = names_outer rest s
