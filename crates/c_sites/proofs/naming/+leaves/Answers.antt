use Rattle.std.proofs.Common.{◌≡◌, map, take, length, refl, sym, ap, ◌∙◌, subst, arith}
use Rattle.c_syntax.specs.View.{type_of}
use Rattle.c_tables.specs.Tables.{tables_shape, field_shape}
use Rattle.c_sites.specs.Names.{leaves, field_leaves}
use Rattle.c_sites.specs.SpellingView.{IsNamed}
use Rattle.c_sites.proofs.Spellings.{fields_named, fields_taken, deep_named}
use Rattle.c_sites.proofs.naming.+leaves.Goals as goal

pub put_fields-loop-field-preserved : goal.put_fields-loop-field-preserved
put_fields-loop-field-preserved t c =
    let at = c.loop-field in
    let inner = leaves c.args.depth (tables_shape c.args.tables.now).structures in
    let x = c.args.site.now.text.items in
    let fs = map field_shape (take at.field-index c.args.fields.now) in
    let f = field_shape c.field-item.result in
    let more = fields_named c.args.names.now at.names c.put_field.new.names c.args.site.now at.site c.put_field.new.site inner fs f at.invariant c.in_ok-put_field.ensures in
    let taken = fields_taken c.args.fields.now at.field-index c.field-item.result c.loop-field-test.true c.field-item.is in
    subst (λ l. IsNamed c.args.names.now c.put_field.new.names c.args.site.now c.put_field.new.site (field_leaves inner x l)) (sym taken) more

pub put_leaves-returns : goal.put_leaves-returns
put_leaves-returns t c =
    let s = c.args.site.now in
    let q = c.put_element.new.site in
    let length_is : c.len-length.result ≡ length s.text.items = omega arith in
    deep_named c.args.names.now c.put_element.new.names s (record s { text = c.put_elements.new.text }) q (record q { text = c.truncate.new.self }) c.args.depth (tables_shape c.args.tables.now).structures
    (type_of c.args.kind.now) (type_of c.element.result.now) (omega arith) refl refl c.in_ok-put_elements.ensures c.element.ensures c.in_ok-put_element.ensures refl refl
    (c.truncate.ensures.items ∙ ap (λ n. take n q.text.items) length_is)
