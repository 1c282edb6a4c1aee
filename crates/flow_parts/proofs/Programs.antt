-- Each site of a program stands where the walk counts it; a parameter's is told of as one, and none at file scope is.
use Rattle.std.proofs.Common.{ℕ, suc, ◌≤◌, ◌<◌, ◌++◌, ◌≡◌, List, [], ◌∷◌, refl, sym, subst, ap, ◌∙◌, append_assoc, arith, Option, Some, None, Bool, true, false}
use Rattle.std.specs.Prelude.{Contains, nat_le, option_map, if◌then◌else◌}
use Rattle.c_base.specs.declared.place.Pos.{Pos}
use Rattle.c_syntax.specs.declared.tree.Named.{Named}
use Rattle.c_syntax.specs.declared.tree.Star.{Star}
use Rattle.c_syntax.specs.declared.tree.ProbeMark.{ProbeMark}
use Rattle.c_syntax.specs.Shape.{SpecShapes, MaybeInit, DeclShape, decl, DeclShapes, no_decls, more_decls, DeclaratorShape, declarator, DeclaratorShapes, no_declarators, more_declarators, DeclFormShape, empty, void, params, arrays, function, CompoundShape, braces, ExternalShape, defined, declared}
use Rattle.c_tables.specs.Tables.{VariableShape}
use Rattle.c_tables.specs.Rows.{row, text_of, first_place, name_pos}
use Rattle.c_walk.specs.Items.{Item, Direct, def}
use Rattle.c_walk.specs.Walked.{Walked, with_item, with_block}
use Rattle.c_walk.specs.Counted.{def_count, next_def}
use Rattle.c_walk.specs.Stating.{whole_of, whole, with_variable, walk_compound}
use Rattle.c_walk.specs.Units.{function_of, in_function, define_declarator, define_declarators, define_decl, define_decls, define_parameters, walk_function, walk_external, walk_externals}
use Rattle.c_meaning.specs.State.{Bound}
use Rattle.c_meaning.specs.Layout.{kind_in, variable_kind}
use Rattle.c_meaning.specs.Calls.{Source}
use Rattle.flow_calls.specs.Orderly.{IsOrderlyFunction, AreOrderlyExternals}
use Rattle.flow_calls.proofs.Cases.{le_not, le_is}
use Rattle.flow_places.specs.Declared.{IsParameterOf, IsSitedParam, AreSitedParams, IsSitedLine, AreSitedLines, IsSitedSignature, IsUnsited, AreUnsited, IsSitedFunction, AreSitedExternals, AreUnsitedExternals}
use Rattle.flow_initial.specs.Lengths.{AreFilled}
use Rattle.flow_leaves.specs.KindedPrograms.{IsKindedCompound, AreKindedExternals}
use Rattle.flow_leaves.specs.CellNames.{AreLayered}
use Rattle.flow_parts.specs.Items.{def_at}
use Rattle.flow_leaves.specs.Leaves.{name_in}
use Rattle.flow_owned.specs.Own as owned
use Rattle.flow_owned.specs.Own.{IsOwnCompound, AreOwnExternals}
use Rattle.flow_parts.specs.Parameters.{IsScalarKind, IsScalarParam, AreScalarParams, IsScalarLine, AreScalarLines, HasScalarParameters, AreScalarParameters}
use Rattle.flow_parts.specs.Parts.{leaf_at, part_of, parameter_of, defined_in}
use Rattle.flow_parts.proofs.More.{More, on_same, on_further, more_defs, defs_both, block_on, defined_on, all_defined_on, param_on, given_on, signature_on, compound_on, external_on, externals_on}
use Rattle.flow_parts.proofs.Found.{def_there}
use Rattle.flow_parts.proofs.Sites.{AreOutside, Body, S, outside, all, one_leaf}
use Rattle.flow_parts.proofs.Bodies.{own_name, one_there, compound_sited}

-- ---- tests of numbers

le_by : {A : Type 0} (m n : ℕ) (b : Bool) → nat_le m n ≡ b → (x y : A) → m ≤ n → (if b then x else y) ≡ x
le_by m n true e x y h = refl
le_by m n false e x y h = let k = le_not m n e in absurd (omega (arith, k, h))

le_on : {A : Type 0} (m n : ℕ) (x y : A) → m ≤ n → (if nat_le m n then x else y) ≡ x
le_on m n x y h = le_by m n (nat_le m n) refl x y h

off_by : {A : Type 0} (m n : ℕ) (b : Bool) → nat_le m n ≡ b → (x y : A) → n < m → (if b then x else y) ≡ y
off_by m n true e x y h = let k = le_is m n e in absurd (omega (arith, k, h))
off_by m n false e x y h = refl

le_off : {A : Type 0} (m n : ℕ) (x y : A) → n < m → (if nat_le m n then x else y) ≡ y
le_off m n x y h = off_by m n (nat_le m n) refl x y h

function_past : (P : Source) (f : ℕ) (d : DeclFormShape) (a : CompoundShape) (w : Walked) → More (define_parameters P.tables f d w) (walk_function P.tables f d a w)
function_past P f d (braces p ds items) w =
    let j = define_parameters P.tables f d w in
    let v = with_block p j in
    on_further j v (walk_compound P.tables (in_function f) (braces p ds items) v) (block_on p j) (compound_on P.tables (in_function f) (braces p ds items) v)

module _ (P : Source) (F : List Bound) where
  -- ---- parameters

  -- by its one leaf name
  whole_parameter : (x : ℕ) (o : Option VariableShape) → row P.tables.variables x ≡ o → IsScalarKind (kind_in o) → IsParameterOf (S P F) x (kind_in o) (parameter_of P.tables (option_map (whole_of x) o))
  whole_parameter x None e h = tt
  whole_parameter x (Some v) e h =
      let first : leaf_at P.tables x 0 ≡ v.name = ap (λ r. name_in P.tables (owned.name_in r) (kind_in r) 0) e ∙ own_name P.tables v.name v.kind h in
      (refl, refl, subst (λ xs. Contains xs (leaf_at P.tables x 0)) (sym (one_leaf P.tables.structures v.name v.kind h)) (one_there v.name (leaf_at P.tables x 0) (sym first)))

  -- from before them to behind them
  record Params (start end : Walked) : Type 0 where
    defined_is : (k : ℕ) → def_count start.items < k → k ≤ def_count end.items → (S P F).defined k ≡ parameter_of P.tables (def_at k (all P F))
    rest : List Item
    front : all P F ≡ end.items ++ rest

  def_here : (start end : Walked) (rest : List Item) (f : ℕ) (p : Pos) (d : Option Direct) (w : Walked) → all P F ≡ end.items ++ rest → More (with_item (def p f d) w) end → def_at (next_def w) (all P F) ≡ d
  def_here start end rest f p d w e m =
      ap (def_at (next_def w)) (e ∙ ap (λ l. l ++ rest) m.is ∙ append_assoc (w.items ++ def p f d ∷ []) m.rest rest ∙ append_assoc w.items (def p f d ∷ []) (m.rest ++ rest)) ∙ def_there w.items p f d (m.rest ++ rest)

  module _ (start end : Walked) (ps : Params start end) where
    param_sited : (f : ℕ) (d : DeclaratorShape) (w : Walked) → IsScalarParam P.tables d w → More start w → More (define_declarator P.tables f d w) end → IsSitedParam (S P F) F P.tables f d w
    param_sited f (declarator stars x (arrays ls) i) w h lo m =
        let v = with_variable w in
        let k = next_def v in
        let p = name_pos first_place x in
        let o = whole P.tables v.variables in
        let a = more_defs start w lo in
        let b = more_defs (with_item (def p f o) v) end m in
        let e = defs_both v.items (def p f o ∷ []) in
        let is = ps.defined_is k (omega (arith, a)) (omega (arith, b, e)) ∙ ap (parameter_of P.tables) (def_here start end ps.rest f p o v ps.front m) in
        subst (IsParameterOf (S P F) (suc w.variables) (variable_kind P.tables (suc w.variables))) (sym is)
        (subst (λ (n : ℕ). IsParameterOf (S P F) (suc w.variables) (variable_kind P.tables (suc w.variables)) (parameter_of P.tables (whole P.tables n))) (omega arith) (whole_parameter (suc w.variables) (row P.tables.variables (suc w.variables)) refl h))
    param_sited f (declarator stars x (function qs) i) w h lo m = tt

    names_sited : (f : ℕ) (ds : DeclaratorShapes) (w : Walked) → AreScalarParams P.tables f ds w → More start w → More (define_declarators P.tables f ds w) end → AreSitedParams (S P F) F P.tables f ds w
    names_sited f no_declarators w h lo m = tt
    names_sited f (more_declarators d rest) w h lo m =
        let v = define_declarator P.tables f d w in
        (param_sited f d w h.0 lo (on_further v (define_declarators P.tables f rest v) end (all_defined_on P.tables f rest v) m), names_sited f rest v h.1 (on_further start w v lo (defined_on P.tables f d w)) m)

    line_sited : (f : ℕ) (d : DeclShape) (w : Walked) → IsScalarLine P.tables f d w → More start w → More (define_decl P.tables f d w) end → IsSitedLine (S P F) F P.tables f d w
    line_sited f (decl p specs names) w h lo m = names_sited f names w h lo m

    lines_sited : (f : ℕ) (ds : DeclShapes) (w : Walked) → AreScalarLines P.tables f ds w → More start w → More (define_decls P.tables f ds w) end → AreSitedLines (S P F) F P.tables f ds w
    lines_sited f no_decls w h lo m = tt
    lines_sited f (more_decls d rest) w h lo m =
        let v = define_decl P.tables f d w in
        (line_sited f d w h.0 lo (on_further v (define_decls P.tables f rest v) end (given_on P.tables f rest v) m), lines_sited f rest v h.1 (on_further start w v lo (param_on P.tables f d w)) m)

    signature_sited : (f : ℕ) (d : DeclFormShape) (w : Walked) → HasScalarParameters P.tables f d w → More start w → More (define_parameters P.tables f d w) end → IsSitedSignature (S P F) F P.tables f d w
    signature_sited f (function (params ds)) w h lo m = lines_sited f ds w h lo m
    signature_sited f (function empty) w h lo m = tt
    signature_sited f (function void) w h lo m = tt
    signature_sited f (arrays ls) w h lo m = tt

  -- ---- programs

  -- behind what was walked through the definitions are those of the rest
  abbrev Ahead : List ExternalShape → Walked → Type 0
  Ahead es w = (k : ℕ) → def_count w.items < k → (S P F).defined k ≡ defined_in P.tables (all P F) (outside P F) es w k

  abbrev Front : Walked → Type 0
  Front w = (rest : List Item) × (all P F ≡ w.items ++ rest)

  front_back : (v w : Walked) → More v w → Front w → Front v
  front_back v w m f = (m.rest ++ f.0, f.1 ∙ ap (λ l. l ++ f.0) m.is ∙ append_assoc v.items m.rest f.0)

  ahead_declared : (d : DeclShape) (rest : List ExternalShape) (w : Walked) → Ahead (declared d ∷ rest) w → Ahead rest (walk_external P.tables (declared d) w)
  ahead_declared d rest w h k lt =
      let u = walk_external P.tables (declared d) w in
      let a = more_defs w u (external_on P.tables (declared d) w) in
      h k (omega (arith, lt, a)) ∙ le_off k (def_count u.items) None (defined_in P.tables (all P F) (outside P F) rest u k) lt

  module _ (specs : SpecShapes) (stars : List Star) (x : Option Named) (d : DeclFormShape) (i : MaybeInit) (ms : List ProbeMark) (a : CompoundShape) (rest : List ExternalShape) (w : Walked) where
    abbrev this : ExternalShape
    this = defined specs (declarator stars x d i) ms a

    abbrev number : ℕ
    number = function_of P.tables (text_of x)

    abbrev behind_params : Walked
    behind_params = define_parameters P.tables number d w

    abbrev behind : Walked
    behind = walk_external P.tables this w

    ahead_defined : Ahead (this ∷ rest) w → Ahead rest behind
    ahead_defined h k lt =
        let l = defined_in P.tables (all P F) (outside P F) rest behind k in
        let b = more_defs w behind (external_on P.tables this w) in
        let c = more_defs behind_params behind (function_past P number d a w) in
        h k (omega (arith, lt, b)) ∙ le_off k (def_count behind_params.items) (parameter_of P.tables (def_at k (all P F))) (if nat_le k (def_count behind.items) then part_of P.tables (outside P F) (def_at k (all P F)) else l) (omega (arith, lt, c))
        ∙ le_off k (def_count behind.items) (part_of P.tables (outside P F) (def_at k (all P F))) l lt

    params_of : Ahead (this ∷ rest) w → Front behind → Params w behind_params
    params_of h f =
        let g = front_back behind_params behind (function_past P number d a w) f in
        record {
          defined_is = λ k lt le. h k lt ∙ le_on k (def_count behind_params.items) (parameter_of P.tables (def_at k (all P F))) (if nat_le k (def_count behind.items) then part_of P.tables (outside P F) (def_at k (all P F)) else defined_in P.tables (all P F) (outside P F) rest behind k) le;
          rest = g.0;
          front = g.1;
        }

    body_of : Ahead (this ∷ rest) w → Front behind → Body P F behind_params behind
    body_of h f =
        let b = more_defs w behind_params (signature_on P.tables number d w) in
        record {
          defined_is = λ k lt le. h k (omega (arith, lt, b)) ∙ le_off k (def_count behind_params.items) (parameter_of P.tables (def_at k (all P F))) (if nat_le k (def_count behind.items) then part_of P.tables (outside P F) (def_at k (all P F)) else defined_in P.tables (all P F) (outside P F) rest behind k) lt
              ∙ le_on k (def_count behind.items) (part_of P.tables (outside P F) (def_at k (all P F))) (defined_in P.tables (all P F) (outside P F) rest behind k) le;
          rest = f.0;
          front = f.1;
        }

  -- ---- no site at file scope

  module _ (start end : Walked) (none : (k : ℕ) → def_count start.items < k → k ≤ def_count end.items → (S P F).defined k ≡ None) where
    name_unsited : (d : DeclaratorShape) (w : Walked) → More start w → More (define_declarator P.tables 0 d w) end → IsUnsited (S P F) [] P.tables d w
    name_unsited (declarator stars x (arrays ls) i) w lo m =
        let v = with_variable w in
        let p = name_pos first_place x in
        let o = whole P.tables v.variables in
        let a = more_defs start w lo in
        let b = more_defs (with_item (def p 0 o) v) end m in
        let e = defs_both v.items (def p 0 o ∷ []) in
        none (next_def v) (omega (arith, a)) (omega (arith, b, e))
    name_unsited (declarator stars x (function qs) i) w lo m = tt

    names_unsited : (ds : DeclaratorShapes) (w : Walked) → More start w → More (define_declarators P.tables 0 ds w) end → AreUnsited (S P F) [] P.tables ds w
    names_unsited no_declarators w lo m = tt
    names_unsited (more_declarators d rest) w lo m =
        let v = define_declarator P.tables 0 d w in
        (name_unsited d w lo (on_further v (define_declarators P.tables 0 rest v) end (all_defined_on P.tables 0 rest v) m), names_unsited rest v (on_further start w v lo (defined_on P.tables 0 d w)) m)

  pub externals_unsited : (es : List ExternalShape) (w : Walked) → Ahead es w → AreUnsitedExternals (S P F) [] P.tables es w
  externals_unsited [] w h = tt
  externals_unsited (declared (decl p specs names) ∷ rest) w h =
      let u = walk_external P.tables (declared (decl p specs names)) w in (
        names_unsited w u (λ k lt le. h k lt ∙ le_on k (def_count u.items) None (defined_in P.tables (all P F) (outside P F) rest u k) le) names w (on_same w) (on_same u),
        externals_unsited rest u (ahead_declared (decl p specs names) rest w h),
      )
  externals_unsited (defined specs (declarator stars x d i) ms a ∷ rest) w h = externals_unsited rest (behind specs stars x d i ms a rest w) (ahead_defined specs stars x d i ms a rest w h)

  -- ---- functions

  module _ (layered : AreLayered P.tables) (filled : AreFilled P.tables) (free : AreOutside P F) where
    function_sited : (f : ℕ) (d : DeclFormShape) (a : CompoundShape) (w : Walked) → (let j = define_parameters P.tables f d w in Params w j → Body P F j (walk_function P.tables f d a w) → HasScalarParameters P.tables f d w → IsOrderlyFunction P.tables F f d a w → IsKindedCompound P.tables a → IsOwnCompound P.tables.variables a → IsSitedFunction (S P F) F P.tables f d a w)
    function_sited f d (braces p ds items) w ps body sc g h i =
        let j = define_parameters P.tables f d w in (
          signature_sited w j ps f d w sc (on_same w) (on_same j),
          compound_sited P F layered filled free j (walk_function P.tables f d (braces p ds items) w) body (in_function f) (braces p ds items) (with_block p j) g h i (block_on p j) (on_same (walk_function P.tables f d (braces p ds items) w)),
        )

    pub externals_sited : (es : List ExternalShape) (w : Walked) → Ahead es w → Front (walk_externals P.tables es w) → AreScalarParameters P.tables es w → AreOrderlyExternals P.tables F es w → AreKindedExternals P.tables es → AreOwnExternals P.tables.variables es → AreSitedExternals (S P F) F P.tables es w
    externals_sited [] w h f sc g k o = tt
    externals_sited (declared d ∷ rest) w h f sc g k o = externals_sited rest (walk_external P.tables (declared d) w) (ahead_declared d rest w h) f sc g k.1 o.1
    externals_sited (defined specs (declarator stars x d i) ms a ∷ rest) w h f sc g k o =
        let u = behind specs stars x d i ms a rest w in
        let at = front_back u (walk_externals P.tables rest u) (externals_on P.tables rest u) f in (
          function_sited (function_of P.tables (text_of x)) d a w (params_of specs stars x d i ms a rest w h at) (body_of specs stars x d i ms a rest w h at) sc.0 g.0 k.0 o.0,
          externals_sited rest u (ahead_defined specs stars x d i ms a rest w h) f sc.1 g.1 k.1 o.1,
        )
