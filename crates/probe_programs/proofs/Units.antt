-- Functions with bodies, and units, are typed with their probes as they stand, where bodies are.
use Rattle.std.proofs.Common.{◌≡◌, ℕ, ◌-◌, inl, List, [], ◌∷◌, length, Bool, false, true, Option, Some, None, ◌∙◌, refl, sym, ap, ap₂, subst, arith}
use Rattle.std.specs.Prelude.{is_some}
use Rattle.c_syntax.specs.declared.tree.ProgramLine.{ProgramLine}
use Rattle.c_syntax.specs.declared.tree.Star.{Star}
use Rattle.c_syntax.specs.Shape.{TypeOf, declarator, arrays, function, CompoundShape, braces, ExternalShape, defined, declared}
use Rattle.c_syntax.specs.Shaped.{ShapedCompound, ShapedExternal, ShapedExternals}
use Rattle.c_constants.specs.Probes.{digest_of}
use Rattle.c_type_rules.specs.Verdicts.{result_type}
use Rattle.c_tables.specs.Tables.{TablesShape}
use Rattle.c_tables.specs.Rows.{first_place, text_of}
use Rattle.c_tree.specs.declared.meaning.Complaint.{Complaint}
use Rattle.c_tree.specs.State.{State}
use Rattle.c_tree.specs.Rulings.{by, rule, kind_at}
use Rattle.c_tree.specs.Parts.{unspelled, spelled_rule, pointed}
use Rattle.c_tree.specs.Typing.{type_specs}
use Rattle.c_tree.specs.Declaring.{type_params, type_function}
use Rattle.c_tree.specs.Stating.{Surroundings, type_compound}
use Rattle.c_tree.specs.Units.{specs_place, begun_function, type_external, TypedExternals, type_externals, start, type_line, any_main}
use Rattle.c_tree.proofs.Again.{specs_again}
use Rattle.c_walk.specs.Walked.{Walked, with_block}
use Rattle.c_walk.specs.Stating.{walk_compound}
use Rattle.c_walk.specs.Counted.{next_block}
use Rattle.c_walk.specs.Units.{define_params, function_of, in_function, walk_external, walk_externals, no_items}
use Rattle.c_meaning.proofs.Walks.{block_on, compound_on, externals_on}
use Rattle.c_sites_probes.specs.Marked.{first, mark_among, name_mark, specs_mark, params_mark, maybe_init_mark, declarator_mark, compound_mark, external_mark, externals_mark, line_mark}
use Rattle.probe_rules.specs.Fitting.{HasFewItems}
use Rattle.probe_rules.specs.Marks.{mark_at}
use Rattle.probe_rules.specs.ProbedStatements.{probed_compound}
use Rattle.probe_rules.specs.Instrumented.{defined_params, probed_external, probed_externals, instrumented_unit}
use Rattle.probe_rules.proofs.ReadyUnits.{some_none, none_first, none_second}
use Rattle.c_tree.proofs.Grows.{rule_grows, demand_grows}
use Rattle.c_tree.proofs.GrowsUnits.{function_grows, variables_grow, compound_grows, externals_grow}
use Rattle.probe_rules.proofs.Moved.{AlikeSpecs}
use Rattle.probe_rules.proofs.MovedNodes.{specs_alike}
use Rattle.probe_rules.proofs.Claims.{seen_at, block_claimed}
use Rattle.probe_rules.proofs.Few.{few_before, few_blocks}
use Rattle.probe_laws.proofs.Settled.{IsClean, type_there}
use Rattle.probe_laws.proofs.Rules.{back}
use Rattle.probe_laws.proofs.Known.{Knows, rule_goes}
use Rattle.probe_laws.proofs.KnownParts.{spelled_settled}
use Rattle.probe_laws.proofs.KnownNodes.{all_specs, specs_know}
use Rattle.probe_laws.proofs.FitDecls.{function_fits}
use Rattle.probe_laws.proofs.FitUnits.{begun_goes, external_fits, start_knows}
use Rattle.probe_moved.proofs.States.{tables_same, further_alike, line_alike, demanded_alike, begun_function_alike, ended_function_alike}
use Rattle.probe_moved.proofs.KeptUnits.{external_kept}
use Rattle.probe_moved.proofs.Statements.{ruled_there}
use Rattle.probe_typed.specs.Typed.{Follows}
use Rattle.probe_programs.specs.Stated.{IsCompoundTypedAs, CompoundsAreTypedAs}
use Rattle.probe_programs.specs.Units.{at_params, IsExternalTypedAs, ExternalsAreTypedAs, UnitsAreTypedAs}
use Rattle.probe_programs.proofs.Params.{function_typed}
use Rattle.probe_programs.proofs.FileScope.{decl_typed}

record AreExternalsTypedAs (v : Walked) (x : TypedExternals) (es : List ExternalShape) (y : TypedExternals) : Type 0 where
  externals : y.externals ≡ es
  state : Follows v x.state y.state

three : {A B C D : Type 0} (k : A → B → C → D) {a b : A} {c d : B} {e f : C} → a ≡ b → c ≡ d → e ≡ f → k a c e ≡ k b d f
three k {a} {b} {c} {d} {e} {f} p q r = ap (λ x. k x c e) p ∙ ap₂ (k b) q r

-- in a function of that result
abbrev in_body : List Star → Option TypeOf → Surroundings
in_body stars k = record { loop = false; breakable = false; result = kind_at (by 33 (result_type (pointed stars k))) }

module _ (compounds : CompoundsAreTypedAs) (tables : TablesShape) where
  body_typed : (n : ℕ) (stars : List Star) (k k' : Option TypeOf) (b : CompoundShape) (w : Walked) (s t : State) → k' ≡ k → ShapedCompound b → compound_mark b ≡ None → Knows false s → (
      let x = type_compound (in_body stars k) b s in
      let p = probed_compound tables (in_function n) x.compound w in
      let v = walk_compound tables (in_function n) x.compound w in
      compound_mark x.compound ≡ None → IsClean x.state → HasFewItems v → Follows w s t → IsCompoundTypedAs v x p (type_compound (in_body stars k') p t))
  body_typed n stars k k' b w s t same is m h none clean few al =
      let x = type_compound (in_body stars k) b s in
      let p = probed_compound tables (in_function n) x.compound w in
      subst (λ z. IsCompoundTypedAs (walk_compound tables (in_function n) x.compound w) x p (type_compound (in_body stars z) p t)) (sym same)
      (compounds tables (in_function n) (in_body stars k) b w s t is m h none clean few al)

  external_typed : (e : ExternalShape) (w : Walked) (s t : State) → ShapedExternal e → external_mark e ≡ None → Knows false s → s.function ≡ 0 → (
      let x = type_external e s in
      let p = probed_external tables x.external w in
      let v = walk_external tables x.external w in
      external_mark x.external ≡ None → IsClean x.state → HasFewItems v → Follows w s t → IsExternalTypedAs v x p (type_external p t))
  external_typed (declared d) w s t is m h zero none clean few al =
      let i = decl_typed tables d w s t is h zero none clean few al in
      record { external = ap declared i.decl; state = i.state }
  external_typed (defined specs (declarator stars x (arrays ls) i) marks c) w s t is m h zero none clean few al = absurd is.1
  external_typed (defined specs (declarator stars x (function ps) i) (g ∷ gs) c) w s t is m h zero none clean few al =
      let d = declarator stars x (function ps) i in
      let rest = first (mark_among (g ∷ gs)) (compound_mark c) in
      absurd (some_none g.pos (none_first (mark_among (g ∷ gs)) (compound_mark c) (none_second (declarator_mark d) rest (none_second (specs_mark specs) (first (declarator_mark d) rest) m))))
  external_typed (defined specs (declarator stars x (function ps) i) [] (braces p ds items)) w s t is m h zero none clean few al =
      let c = braces p ds items in
      let d = declarator stars x (function ps) i in
      let a = type_specs false specs unspelled s in
      let r = spelled_rule a.spelled in
      let k = kind_at r in
      let q = specs_place specs in
      let v = rule r s.at q a.state in
      let f = type_function true k stars x ps i v in
      let b = begun_function f f.state in
      let y = type_compound (in_body stars k) c b in
      let list = (type_params true ps (at_params stars x v)).params in
      -- nothing is complained of before
      let declared = back (variables_grow f.given _) (back (compound_grows (in_body stars k) c b) clean) in
      let ruled = back (function_grows true k stars x ps i v) declared in
      -- what is known
      let one = specs_know false specs unspelled s (all_specs specs is.0) (inl refl) h (back (rule_grows r s.at q a.state) ruled) in
      let two = rule_goes r s.at q a.state one.1.0 in
      let there = type_there r s.at q a.state (spelled_settled a.spelled one.0) ruled in
      let three_of = function_fits true k stars x ps i v is.2.1.1 there two.0 declared in
      let known = (begun_goes f f.state three_of.1 three_of.0.0).0 in
      -- the marks
      let before = none_second (declarator_mark d) (compound_mark c) (none_second (specs_mark specs) (first (declarator_mark d) (compound_mark c)) m) in
      let no_specs_mark = none_first (specs_mark a.specs) (first (declarator_mark f.name) (compound_mark y.compound)) none in
      let behind = none_second (specs_mark a.specs) (first (declarator_mark f.name) (compound_mark y.compound)) none in
      let named = none_first (declarator_mark f.name) (compound_mark y.compound) behind in
      let no_name = none_first (name_mark x) (first (params_mark list) (maybe_init_mark i)) named in
      let no_params = none_first (params_mark list) (maybe_init_mark i) (none_second (name_mark x) (first (params_mark list) (maybe_init_mark i)) named) in
      -- how many are counted
      let n = function_of tables (text_of x) in
      let w1 = define_params tables n list w in
      let w2 = with_block p w1 in
      let w3 = walk_compound tables (in_function n) y.compound w2 in
      let few_w2 : HasFewItems w2 = few_before (compound_on tables (in_function n) y.compound w2) few in
      let few_w1 : HasFewItems w1 = few_before (block_on p w1) few_w2 in
      -- the second run
      let again : type_specs false a.specs unspelled s ≡ a = specs_again false specs unspelled unspelled s s in
      let a' = type_specs false a.specs unspelled t in
      let j = subst (λ z. AlikeSpecs 0 0 (seen_at w) z a') again (specs_alike 0 0 (seen_at w) false a.specs no_specs_mark unspelled unspelled refl al) in
      let same = ap spelled_rule j.spelled in
      let k' = kind_at (spelled_rule a'.spelled) in
      let v' = rule (spelled_rule a'.spelled) t.at (specs_place a.specs) a'.state in
      let g = function_typed tables n k k' stars x ps i w v v' (ap kind_at same) is.2.1.1 there two.0 no_name no_params declared few_w1 (ruled_there 0 0 (seen_at w) r (spelled_rule a'.spelled) s.at t.at q (specs_place a.specs) same j.state) in
      let f' = type_function true k' stars x (defined_params tables n list w) i v' in
      let b' = begun_function f' f'.state in
      let marked : Follows w2 b _ = further_alike 0 0 (seen_at w2) 5 (block_claimed 0 0 b'.at p p w1 (few_blocks p w1 few_w2) (begun_function_alike 0 0 (seen_at w1) f f' g.number g.given g.state)) in
      let l = body_typed n stars k k' c w2 b _ (ap kind_at same) is.3 before known (none_second (declarator_mark f.name) (compound_mark y.compound) behind) clean few marked in
      record { external = three (λ o u z. defined o u (mark_at p (next_block w1) ∷ []) z) j.specs g.name l.compound; state = ended_function_alike 0 0 (seen_at w3) l.state }

  externals_typed : (es : List ExternalShape) (w : Walked) (s t : State) → ShapedExternals es → externals_mark es ≡ None → Knows false s → s.function ≡ 0 → (
      let x = type_externals es s in
      let ps = probed_externals tables x.externals w in
      let v = walk_externals tables x.externals w in
      externals_mark x.externals ≡ None → IsClean x.state → HasFewItems v → Follows w s t → AreExternalsTypedAs v x ps (type_externals ps t))
  externals_typed [] w s t is m h zero none clean few al = record { externals = refl; state = al }
  externals_typed (e ∷ rest) w s t is m h zero none clean few al =
      let x = type_external e s in
      let y = type_externals rest x.state in
      let v = walk_external tables x.external w in
      let late = back (externals_grow rest x.state) clean in
      let here = none_first (external_mark x.external) (externals_mark y.externals) none in
      let i = external_typed e w s t is.0 (none_first (external_mark e) (externals_mark rest) m) h zero here late (few_before (externals_on tables y.externals v) few) al in
      let known = (external_fits e s is.0 here h late).0.0 in
      let z = type_external (probed_external tables x.external w) t in
      let j = externals_typed rest v x.state z.state is.1 (none_second (external_mark e) (externals_mark rest) m) known (external_kept e s zero) (none_second (external_mark x.external) (externals_mark y.externals) none) clean few i.state in
      record { externals = ap₂ (λ a b. a ∷ b) i.external j.externals; state = j.state }

pub external_so : ExternalsAreTypedAs
external_so compounds tables e w s t is m h zero none clean few al = external_typed compounds tables e w s t is m h zero none clean few al

-- ---- units

-- before the first token, and behind the program line
line_followed : (o : Option ProgramLine) (l : ProgramLine) (known : Option (List Bool)) → line_mark o ≡ None → is_some (digest_of l.digest) ≡ true → Follows no_items (type_line o (start known)) (type_line (Some l) (start known))
line_followed None l known none e = line_alike 0 0 (seen_at no_items) l e (record { at = 0; complaints = []; is = refl; count = refl })
line_followed (Some k) l known none e = absurd (some_none k.pos none)

line_known : (o : Option ProgramLine) (known : Option (List Bool)) → line_mark o ≡ None → Knows false (type_line o (start known)) × ((type_line o (start known)).function ≡ 0)
line_known None known none = (start_knows known, refl)
line_known (Some k) known none = absurd (some_none k.pos none)

-- in both runs there are as many complaints
clean_too : (w : Walked) {s t : State} → Follows w s t → IsClean s → IsClean t
clean_too w al c = omega (arith, ap (λ (z : State). length z.complaints) al.is, al.count, c)

no_complaints : (cs : List Complaint) → length cs ≡ 0 → cs ≡ []
no_complaints [] e = refl
no_complaints (c ∷ cs) e = cc

pub units_typed : UnitsAreTypedAs
units_typed compounds known digest tables u is m e none clean few =
    let l : ProgramLine = record { pos = first_place; digest = digest } in
    let s = type_line u.line (start known) in
    let t = type_line (Some l) (start known) in
    let x = type_externals u.externals s in
    let no_line = none_first (line_mark u.line) (externals_mark u.externals) m in
    let begun = line_known u.line known no_line in
    let v = walk_externals tables x.externals no_items in
    let late = back (demand_grows (any_main x.state.tables.functions) 38 (x.state.at - 1) u.last x.state) clean in
    let i = externals_typed compounds tables u.externals no_items s t is.all (none_second (line_mark u.line) (externals_mark u.externals) m) begun.0 begun.1 (none_second (line_mark u.line) (externals_mark x.externals) none) late few (line_followed u.line l known no_line e) in
    let y = type_externals (probed_externals tables x.externals no_items) t in
    let ended = demanded_alike 0 0 (seen_at v) (any_main x.state.tables.functions) (any_main y.state.tables.functions) 38 (x.state.at - 1) (y.state.at - 1) u.last (ap (λ (z : TablesShape). any_main z.functions) (tables_same 0 0 (seen_at v) i.state)) i.state in
    record {
      unit = ap (λ z. record (instrumented_unit digest tables (record u { externals = x.externals })) { externals = z }) i.externals;
      tables = tables_same 0 0 (seen_at v) ended;
      complaints = no_complaints _ (clean_too v ended clean);
    }
