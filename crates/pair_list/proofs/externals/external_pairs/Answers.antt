use Rattle.std.proofs.Common.{ℕ, ◌+◌, ◌<◌, ◌≡◌, length, option_map, Some, refl, ap, sym, subst, ◌∙◌, arith}
use Rattle.std.specs.Prelude.{slice_get}
use Rattle.std.proofs.lemmas.Option.{slice_get-map, slice_get_read}
use Rattle.c_syntax.specs.Shape.{ExternalShape}
use Rattle.c_syntax.specs.View.{unit_shape, external_shape}
use Rattle.c_tables.specs.Tables.{tables_shape}
use Rattle.flow_marks.specs.Paths.{IsStep}
use Rattle.flow_rows.specs.Counts.{counts}
use Rattle.flow_graph.specs.Graphs.{IsLaid}
use Rattle.pair_list.specs.Runs.{behind, AreRowsOf}
use Rattle.pair_list.proofs.Belonging.{behind_more}
use Rattle.pair_list.proofs.Joining.{rows_are, no_fewer, all_there, so_far_none}
use Rattle.pair_list.proofs.externals.external_pairs.Goals as goal

pub returns-in-None-clause-so_far : goal.returns-in-None-clause-so_far
returns-in-None-clause-so_far c =
    let t = tables_shape c.args.tables.now in
    let u = unit_shape c.args.unit.now in
    let e = external_shape c.index-external.result.now in
    let k = c.args.k in
    let items = c.args.unit.now.externals.items in
    let here : slice_get u.externals k ≡ Some e = slice_get-map external_shape items k ∙ ap (option_map external_shape) (slice_get_read items (length items) k c.index-external.result.now refl c.requires.there c.index-external.ensures) in
    let counted : counts (behind t u (k + 1)) ≡ c.lay_external.new.numbers = ap counts (behind_more t u k (k + 1) e (omega arith) here) ∙ c.in-Ok.ensures.counted (behind t u k) c.requires.so_far.counted in
    so_far_none t u c.args.sites.now c.requires.numbered k e here c.args.numbers.now c.lay_external.new.numbers c.args.pairs.now.items c.args.items c.requires.so_far counted (subst (IsLaid t e c.args.numbers.now) c.in-None.is c.in-Ok.ensures.graph)

pub function_pairs-requires-clause-in_range : goal.function_pairs-requires-clause-in_range
function_pairs-requires-clause-in_range c = subst (λ l. (row to : ℕ) → IsStep l row to → to < length l) (sym c.deref.ensures.value) c.in-Ok-into_flow.ensures.in_range

pub function_pairs-requires-clause-rows : goal.function_pairs-requires-clause-rows
function_pairs-requires-clause-rows c = λ x at.
    let t = tables_shape c.args.tables.now in
    let u = unit_shape c.args.unit.now in
    let e = external_shape c.index-external.result.now in
    let k = c.args.k in
    let items = c.args.unit.now.externals.items in
    let here : slice_get u.externals k ≡ Some e = slice_get-map external_shape items k ∙ ap (option_map external_shape) (slice_get_read items (length items) k c.index-external.result.now refl c.requires.there c.index-external.ensures) in
    let same : e ≡ x = some_same e x (sym here ∙ at) in
    subst (λ y. AreRowsOf t y (behind t u k) c.deref.result.now) same
    (rows_are t e (behind t u k) c.in-Some.graph c.in-Ok-into_flow.flow.items c.deref.result.now c.deref.ensures.value (subst (IsLaid t e c.args.numbers.now) c.in-Some.is c.in-Ok.ensures.graph (behind t u k) c.requires.so_far.counted) c.in-Ok-into_flow.ensures.walks)
  where
    some_same : (y z : ExternalShape) → Some y ≡ Some z → y ≡ z
    some_same y z h = cc

pub function_pairs-requires-clause-counted : goal.function_pairs-requires-clause-counted
function_pairs-requires-clause-counted c =
    let t = tables_shape c.args.tables.now in
    let u = unit_shape c.args.unit.now in
    let e = external_shape c.index-external.result.now in
    let k = c.args.k in
    let items = c.args.unit.now.externals.items in
    let here : slice_get u.externals k ≡ Some e = slice_get-map external_shape items k ∙ ap (option_map external_shape) (slice_get_read items (length items) k c.index-external.result.now refl c.requires.there c.index-external.ensures) in
    let counted : counts (behind t u (k + 1)) ≡ c.lay_external.new.numbers = ap counts (behind_more t u k (k + 1) e (omega arith) here) ∙ c.in-Ok.ensures.counted (behind t u k) c.requires.so_far.counted in
    counted

pub function_pairs-requires-clause-order : goal.function_pairs-requires-clause-order
function_pairs-requires-clause-order c =
    let t = tables_shape c.args.tables.now in
    let u = unit_shape c.args.unit.now in
    let e = external_shape c.index-external.result.now in
    let k = c.args.k in
    let items = c.args.unit.now.externals.items in
    let here : slice_get u.externals k ≡ Some e = slice_get-map external_shape items k ∙ ap (option_map external_shape) (slice_get_read items (length items) k c.index-external.result.now refl c.requires.there c.index-external.ensures) in
    let counted : counts (behind t u (k + 1)) ≡ c.lay_external.new.numbers = ap counts (behind_more t u k (k + 1) e (omega arith) here) ∙ c.in-Ok.ensures.counted (behind t u k) c.requires.so_far.counted in
    no_fewer t u c.args.sites.now c.requires.numbered k e here c.args.numbers.now c.lay_external.new.numbers c.args.pairs.now.items c.args.items c.requires.so_far counted

pub function_pairs-requires-clause-last : goal.function_pairs-requires-clause-last
function_pairs-requires-clause-last c =
    let t = tables_shape c.args.tables.now in
    let u = unit_shape c.args.unit.now in
    let e = external_shape c.index-external.result.now in
    let k = c.args.k in
    let items = c.args.unit.now.externals.items in
    let here : slice_get u.externals k ≡ Some e = slice_get-map external_shape items k ∙ ap (option_map external_shape) (slice_get_read items (length items) k c.index-external.result.now refl c.requires.there c.index-external.ensures) in
    let counted : counts (behind t u (k + 1)) ≡ c.lay_external.new.numbers = ap counts (behind_more t u k (k + 1) e (omega arith) here) ∙ c.in-Ok.ensures.counted (behind t u k) c.requires.so_far.counted in
    all_there t u c.args.sites.now c.requires.numbered k e here c.args.numbers.now c.lay_external.new.numbers c.args.pairs.now.items c.args.items c.requires.so_far counted
