use Rattle.std.proofs.Common.{◌≡◌, map, None, sym, ap, ◌∙◌}
use Rattle.c_syntax.specs.View.{unit_shape}
use Rattle.c_tables.specs.Tables.{TablesShape, tables_shape}
use Rattle.c_walk.specs.ItemView.{item_shape}
use Rattle.c_walk.specs.Units.{items_of}
use Rattle.c_sites_probes.specs.Marked.{unit_mark}
use Rattle.c_sites.specs.Limits as limits
use Rattle.c_sites.specs.Numbers.{names_of}
use Rattle.c_sites.specs.Refused.{refusal_at}
use Rattle.c_sites_counts.specs.Counts.{no_counts, with_all}
use Rattle.c_sites_counts.proofs.Counted.{counted}
use Rattle.c_sites_counts.proofs.counting.count.Goals as goal

pub returns : goal.returns
returns c =
    let p = c.args.program.now in
    let t = tables_shape p.tables in
    let u = unit_shape p.unit in
    let same_tables : tables_shape c.tables-tables.result.now ≡ t = ap tables_shape c.tables-tables.ensures.tables in
    let same_unit : unit_shape c.unit-unit.result.now ≡ u = ap unit_shape c.unit-unit.ensures.unit in
    let marked : unit_mark u ≡ None = sym (ap unit_mark same_unit) ∙ sym c.unit_mark.ensures ∙ c.in_default.is in
    let items : map item_shape c.in-Ok.items.items ≡ items_of t u =
    c.in-Ok.ensures.items ∙ ap (λ (x : TablesShape). items_of x (unit_shape c.unit-unit.result.now)) same_tables ∙ ap (items_of t) same_unit in
    let few : limits.excess t.structures limits.no_counts (items_of t u) ≡ None =
    sym (
    ap (λ is. limits.excess (tables_shape c.tables-tables.result.now).structures limits.no_counts is) (ap (map item_shape) c.deref.ensures.value ∙ items)
    ∙ ap (λ (x : TablesShape). limits.excess x.structures limits.no_counts (items_of t u)) same_tables
    )
    ∙ sym c.excess.ensures ∙ c.in_default-excess.is in
    record {
      clean = ap (λ m. refusal_at m (limits.excess t.structures limits.no_counts (items_of t u))) marked ∙ ap (refusal_at None) few;
      are = c.counted.ensures ∙ ap (λ is. with_all is no_counts) (ap (map item_shape) c.deref-2.ensures.value ∙ items) ∙ counted (names_of t.structures (items_of t u)) t.structures (items_of t u) few;
    }
