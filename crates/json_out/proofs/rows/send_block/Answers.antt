-- The object has its members.
use Rattle.json_out.proofs.Objects.{four}
use Rattle.json_out.proofs.rows.send_block.Goals as goal

pub returns : goal.returns
returns g c = four _ _ _ _ _ _ _ _ _ _ _ _ _ _ _ c.in_ok-begin_map.ensures c.in_ok-put_number.ensures c.in_ok-put_covered.ensures c.in_ok-put_number-2.ensures c.in_ok-put_number-3.ensures c.in_ok-end_map.ensures
