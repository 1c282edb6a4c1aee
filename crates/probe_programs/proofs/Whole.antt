-- A program with its probes, typed without its notes, has them again: in both passes. So it is a program.
use Rattle.std.proofs.Common.{◌≡◌, [], map, Some, None, is_some, length, ◌∙◌, sym, ap, subst}
use Rattle.c_syntax.specs.declared.text.Text.{Text}
use Rattle.c_syntax.specs.Shape.{UnitShape}
use Rattle.c_syntax.specs.Shaped.{ShapedUnit}
use Rattle.c_tables.specs.Tables.{TablesShape}
use Rattle.c_tree.specs.Units.{TypedUnit, type_unit, typed_unit, bodies, complaints}
use Rattle.c_syntax.specs.Grammar.{tokens_of}
use Rattle.c_tree.specs.Lexed.{AreLexed}
use Rattle.c_tree.specs.Programs.{IsSound, IsProgram}
use Rattle.c_tree.specs.Unnoted.{bare_unit}
use Rattle.c_tree.proofs.Bare.{unit_bare}
use Rattle.c_tree.proofs.BareForms.{tokens_same}
use Rattle.c_tree.proofs.Programs.{typed_again, program_typed, program_lexed}
use Rattle.c_meaning.specs.Calls.{Source}
use Rattle.c_walk.specs.Units.{walk_externals, no_items}
use Rattle.c_sites_probes.specs.Marked.{unit_mark}
use Rattle.c_unnoted.specs.Unnoted.{Written}
use Rattle.c_unnoted.proofs.Units.{units_unnoted}
use Rattle.probe_rules.specs.Fitting.{HasFewItems}
use Rattle.probe_rules.specs.Instrumented.{instrumented, instrumented_unit}
use Rattle.probe_laws.proofs.BareMarks.{typed_mark}
use Rattle.probe_passes.proofs.Units.{passes_agree}
use Rattle.probe_parsed.proofs.FirmUnits.{instrumented_is_shaped}
use Rattle.probe_parsed.proofs.Readable.{instrumented_lexed}
use Rattle.probe_programs.proofs.Bodies.{compounds_typed}
use Rattle.probe_programs.proofs.Units.{units_typed}
use Rattle.probe_programs.specs.Programs.{IsDigest, IsPlainProgram, IsTypedAs, ProbedIsTypedAs, ProbedIsProgram}
use Rattle.probe_programs.proofs.Digests.{digest_bytes}
use Rattle.probe_programs.proofs.ShapedBare.{shaped_bare}
use Rattle.probe_programs.proofs.ShapedWritten.{shaped_written}

-- ---- both passes

module _ (digest : Text) (tables : TablesShape) (u : UnitShape) where
  abbrev probed : UnitShape → UnitShape
  probed v = instrumented_unit digest tables v

  typed_so : IsDigest digest → ShapedUnit u → unit_mark u ≡ None → unit_mark (typed_unit u).unit ≡ None → complaints u ≡ [] → (typed_unit u).state.tables ≡ tables → HasFewItems (walk_externals tables (typed_unit u).unit.externals no_items)
      → ShapedUnit (bare_unit (probed (typed_unit u).unit)) → IsTypedAs (probed (typed_unit u).unit) tables
  typed_so fits shaped plain still clean same few allowed =
      let b = bodies u in
      let x = typed_unit u in
      let q = probed x.unit in
      let x0 = type_unit None u in
      let agree = passes_agree b u clean in
      let unit0 : x0.unit ≡ x.unit = ap (λ (z : TypedUnit). z.unit) agree in
      let first = units_typed compounds_typed None digest tables u shaped plain fits (ap unit_mark unit0 ∙ still) (ap (λ (z : TypedUnit). length z.state.complaints) agree ∙ ap length clean) (subst (λ (v : UnitShape). HasFewItems (walk_externals tables v.externals no_items)) (sym unit0) few) in
      let tables0 : (type_unit None q).state.tables ≡ x0.state.tables = subst (λ (v : UnitShape). (type_unit None (probed v)).state.tables ≡ x0.state.tables) unit0 first.tables in
      let bodies_same : bodies q ≡ b = ap (λ (t : TablesShape). map (λ f. is_some f.defined) t.functions) tables0 in
      let second = units_typed compounds_typed (Some b) digest tables u shaped plain fits still (ap length clean) few in
      let pass : typed_unit q ≡ type_unit (Some b) q = ap (λ k. type_unit (Some k) q) bodies_same in
      let unit : (typed_unit q).unit ≡ q = ap (λ (z : TypedUnit). z.unit) pass ∙ second.unit in
      let bare = units_unnoted q in
      let whole : typed_unit (bare_unit q) ≡ typed_unit q = bare.typed (subst Written (sym unit) (shaped_written q allowed)) in
      record {
        unit = ap (λ (z : TypedUnit). z.unit) whole ∙ unit;
        tables = ap (λ (z : TypedUnit). z.state.tables) whole ∙ (ap (λ (z : TypedUnit). z.state.tables) pass ∙ (second.tables ∙ same));
        clean = bare.complaints ∙ (ap (λ (z : TypedUnit). z.state.complaints) pass ∙ second.complaints);
      }

-- ---- programs

pub shaped_program : (P : Source) → IsProgram P.unit P.tables → ShapedUnit (bare_unit P.unit)
shaped_program P is =
    let source = is.source in
    subst ShapedUnit (sym (ap bare_unit is.typed ∙ (unit_bare (Some (bodies source)) source ∙ shaped_bare source is.sound.shaped))) is.sound.shaped

probed_shaped : (digest : Text) (P : Source) → IsPlainProgram P → ShapedUnit (bare_unit (instrumented digest P).unit)
probed_shaped digest P is = instrumented_is_shaped digest P is.plain is.few (shaped_program P is.program)

pub probed_is_typed : ProbedIsTypedAs
probed_is_typed digest P fits is =
    let u = is.program.source in
    let x = typed_unit u in
    let e : P.unit ≡ x.unit = is.program.typed in
    let again : typed_unit P.unit ≡ x = ap typed_unit e ∙ typed_again u in
    let plain : unit_mark x.unit ≡ None = ap unit_mark (sym e) ∙ is.plain in
    let clean : complaints u ≡ [] = ap (λ (z : TypedUnit). z.state.complaints) (sym again) ∙ is.program.clean in
    let same : x.state.tables ≡ P.tables = ap (λ (z : TypedUnit). z.state.tables) (sym again) ∙ is.program.tables in
    let few = subst (λ (v : UnitShape). HasFewItems (walk_externals P.tables v.externals no_items)) e is.few in
    let allowed = subst (λ (v : UnitShape). ShapedUnit (bare_unit (instrumented_unit digest P.tables v))) e (probed_shaped digest P is) in
    subst (λ (v : UnitShape). IsTypedAs (instrumented_unit digest P.tables v) P.tables) (sym e)
    (typed_so digest P.tables u fits is.program.sound.shaped (sym (typed_mark u) ∙ plain) plain clean same few allowed)

probed_lexed : (digest : Text) (P : Source) → IsDigest digest → IsPlainProgram P → AreLexed (tokens_of (bare_unit (instrumented digest P).unit))
probed_lexed digest P fits is =
    subst AreLexed (sym (tokens_same (instrumented digest P).unit)) (instrumented_lexed digest P (digest_bytes digest fits) is.plain is.few (program_lexed P.unit P.tables is.program))

pub probed_is_program : ProbedIsProgram
probed_is_program digest P fits is =
    let q = (instrumented digest P).unit in
    let b = bare_unit q in
    let typed = probed_is_typed digest P fits is in
    let sound : IsSound b = record { shaped = probed_shaped digest P is; lexed = probed_lexed digest P fits is } in
    subst (λ t. IsProgram q t) typed.tables (subst (λ u. IsProgram u (typed_unit b).state.tables) typed.unit (program_typed b sound typed.clean))
