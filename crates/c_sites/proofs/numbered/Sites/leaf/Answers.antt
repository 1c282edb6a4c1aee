use Rattle.std.proofs.Common.{◌-◌, ◌<◌, length, option_map, Some, sym, ap, ◌∙◌, arith}
use Rattle.std.proofs.lemmas.List.{length-map}
use Rattle.std.proofs.lemmas.Option.{slice_get-map, slice_get-get_or}
use Rattle.std.specs.String.{string_bytes}
use Rattle.c_sites.proofs.numbered.Sites.leaf.Goals as goal

pub index-requires : goal.index-requires
index-requires c =
    let texts = c.args.self.now.texts in
    let below = c.args.self.now.named c.args.name c.requires in
    let count = length-map texts.items string_bytes in
    let some = c.requires.0 in
    omega arith

pub returns : goal.returns
returns c =
    let texts = c.args.self.now.texts.items in
    let below = c.args.self.now.named c.args.name c.requires in
    let count = length-map texts string_bytes in
    let some = c.requires.0 in
    let i = c.args.name - 1 in
    let within : i < length texts = omega arith in
    slice_get-map string_bytes texts i ∙ ap (option_map string_bytes) (slice_get-get_or texts i c.index.result.now within ∙ ap Some (sym c.index.ensures)) ∙ ap Some (sym c.as_str.ensures.value)
