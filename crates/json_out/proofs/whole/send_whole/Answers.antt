-- The object has its four lists.
use Rattle.atac_facts.specs.Sets.{holds}
use Rattle.serde_json.specs.Data.{array}
use Rattle.json_out.specs.Json.{blocks_json, each_json, outcome_json, c_use_json, p_use_json}
use Rattle.json_out.proofs.Objects.{adds, four}
use Rattle.json_out.proofs.whole.send_whole.Goals as goal

pub returns : goal.returns
returns g c =
    let items = c.args.covered.items.now in
    let covers = holds c.args.covered.facts.now in
    four _ _ _ _ _ _ _ _ _ _ _ _ _ _ _ c.in_ok-begin_map.ensures
    (adds _ (array (blocks_json covers 0 items.blocks)) _ _ _ c.in_ok-key.ensures c.in_ok-send_blocks.ensures)
    (adds _ (array (each_json (c_use_json covers items.names) items.c_uses)) _ _ _ c.in_ok-key-2.ensures c.in_ok-send_c_uses.ensures)
    (adds _ (array (each_json (outcome_json covers) items.outcomes)) _ _ _ c.in_ok-key-3.ensures c.in_ok-send_outcomes.ensures)
    (adds _ (array (each_json (p_use_json covers items.names) items.p_uses)) _ _ _ c.in_ok-key-4.ensures c.in_ok-send_p_uses.ensures)
    c.in_ok-end_map.ensures
