use Rattle.std.proofs.Common.{◌≡◌, ◌<◌, length, map, option_map, Some, sym, ap, ◌∙◌}
use Rattle.std.specs.Prelude.{slice_get}
use Rattle.std.specs.String.{string_bytes}
use Rattle.std.proofs.lemmas.Option.{slice_get-map, slice_get-get_or}
use Rattle.pair_list.proofs.Rowing.{names_more}
use Rattle.pair_list.proofs.kinds.put_names.Goals as goal

pub loop-i-preserved : goal.loop-i-preserved
loop-i-preserved c =
    let texts = c.args.texts.now in
    let within : c.loop-i.i < length texts = c.loop-i-test.true in
    let at : slice_get (map string_bytes texts) c.loop-i.i ≡ Some c.as_str-name.result.now =
    slice_get-map string_bytes texts c.loop-i.i ∙ ap (option_map string_bytes) (slice_get-get_or texts c.loop-i.i c.index-texts-i.result within ∙ ap Some (sym c.index-texts-i.is)) ∙ ap Some (sym c.as_str-name.ensures.value) in
    names_more c.args.items.now c.loop-i.items c.put_name.new.items (map string_bytes texts) c.loop-i.i c.as_str-name.result.now at c.loop-i.invariant c.in_ok-put_name.ensures
