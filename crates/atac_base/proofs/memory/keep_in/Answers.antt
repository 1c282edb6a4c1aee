-- The other names keep what they held.
use Rattle.std.proofs.Common.{ap, sym, ◌∙◌, ◌≡◌, false, Some}
use Rattle.std.proofs.lemmas.Map.Text.{btree_map_updates_text}
use Rattle.std.proofs.lemmas.Bool.{false_from_ne_true}
use Rattle.std.proofs.lemmas.Slice.Eq.{bytes_eq-Decides}
use Rattle.std.specs.Prelude.{string_bytes, option_map, bytes_eq}
use Rattle.atac_base.proofs.memory.keep_in.Goals as goal

pub returns-in-Ok-insert-clause-others : goal.returns-in-Ok-insert-clause-others
returns-in-Ok-insert-clause-others c = λ other ne.
    let key = c.in-Ok-from_str.key in
    let step = btree_map_updates_text (string_bytes key) c.args.files.now c.insert.new.self _ c.in-Ok-insert.ensures.updates other in
    let differs : bytes_eq (string_bytes key) other ≡ false = false_from_ne_true _ (λ e. ne (sym ((bytes_eq-Decides (string_bytes key) other).0 e) ∙ c.in-Ok-from_str.ensures.ok)) in
    ap (λ o. Some (option_map (λ bytes. bytes.items) o)) (step ∙ rw differs)
