use Rattle.std.proofs.Common.{◌∙◌, ◌+◌, bytes_eq, sym, ap, arith}
use Rattle.c_tables.specs.Tables.{tables_shape}
use Rattle.c_base.specs.Kept.{kept}
use Rattle.c_compute.proofs.Offsets.{part_here, part_past}
use Rattle.c_compute.proofs.layout.part_among.Goals as goal

pub returns-then-eq : goal.returns-then-eq
returns-then-eq c =
    let same = ap (bytes_eq c.args.name.now) (sym c.bytes.ensures) ∙ sym c.eq.ensures ∙ c.if-eq.true in
    sym (part_here (tables_shape c.args.tables.now) c.args.fields.now c.loop-field.field-index c.loop-field.offset c.field-item.result c.args.name.now c.loop-field-test.true c.field-item.is same c.loop-field.invariant.small)
    ∙ c.loop-field.invariant.rest

pub loop-field-preserved : goal.loop-field-preserved
loop-field-preserved c =
    let other = ap (bytes_eq c.args.name.now) (sym c.bytes.ensures) ∙ sym c.eq.ensures ∙ c.if-eq.false in
    let behind = c.saturating_add-offset.ensures ∙ ap (λ n. kept (c.loop-field.offset + n)) c.cells.ensures in
    record {
      rest = part_past (tables_shape c.args.tables.now) c.args.fields.now c.loop-field.field-index c.loop-field.offset c.saturating_add-offset.result c.field-item.result c.args.name.now c.loop-field-test.true c.field-item.is other behind
          ∙ c.loop-field.invariant.rest;
      small = omega arith;
    }
