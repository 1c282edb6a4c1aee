use Rattle.std.proofs.Common.{◌∙◌, ap, sym, refl, length, Some, None}
use Rattle.std.proofs.lemmas.Option.{slice_get_past, slice_get_read}
use Rattle.c_syntax.specs.View.{unit_shape}
use Rattle.c_syntax.specs.declared.tree.Unit as tree
use Rattle.c_plan.specs.Routines.{row_routine}
use Rattle.c_meaning.specs.Sources.{source_of}
use Rattle.c_plan.proofs.Rows.{at_row, at_index}
use Rattle.c_plan.proofs.routines.Routines.find.Goals as goal

pub returns-in-None : goal.returns-in-None
returns-in-None c =
    ap (λ r. row_routine (unit_shape c.args.program.now.unit).externals r) (sym c.in-None.is) ∙
    at_row (source_of c.args.program.now) c.args.self.now c.deref.result.now c.args.function c.row_at.result c.requires (c.deref.ensures.value ∙ c.self.view_is) c.row_at.ensures

pub returns-in-None-get : goal.returns-in-None-get
returns-in-None-get c =
    at_index c.args.program.now.unit.externals.items c.deref-in-Some.result.now c.in-Some.row.index c.in-Some.row.before None (c.deref-in-Some.ensures.value ∙ ap (λ (u : tree.Unit). u.externals.items) c.unit.ensures.unit) (slice_get_past c.deref-in-Some.result.now c.in-Some.row.index c.in-None-get.ensures.lookup.3) ∙
    ap (λ r. row_routine (unit_shape c.args.program.now.unit).externals r) (sym c.in-Some.is) ∙
    at_row (source_of c.args.program.now) c.args.self.now c.deref.result.now c.args.function c.row_at.result c.requires (c.deref.ensures.value ∙ c.self.view_is) c.row_at.ensures

pub returns-in-Some-get : goal.returns-in-Some-get
returns-in-Some-get c =
    c.routine_in.ensures ∙
    at_index c.args.program.now.unit.externals.items c.deref-in-Some.result.now c.in-Some.row.index c.in-Some.row.before (Some c.in-Some-get.external.now) (c.deref-in-Some.ensures.value ∙ ap (λ (u : tree.Unit). u.externals.items) c.unit.ensures.unit) (slice_get_read c.deref-in-Some.result.now (length c.deref-in-Some.result.now) c.in-Some.row.index c.in-Some-get.external.now refl c.in-Some-get.ensures.lookup.3.0 c.in-Some-get.ensures.lookup.1) ∙
    ap (λ r. row_routine (unit_shape c.args.program.now.unit).externals r) (sym c.in-Some.is) ∙
    at_row (source_of c.args.program.now) c.args.self.now c.deref.result.now c.args.function c.row_at.result c.requires (c.deref.ensures.value ∙ c.self.view_is) c.row_at.ensures
