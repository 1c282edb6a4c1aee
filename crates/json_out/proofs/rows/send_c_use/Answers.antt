-- The object has its members.
use Rattle.json_out.proofs.Objects.{four}
use Rattle.json_out.proofs.rows.send_c_use.Goals as goal

pub returns : goal.returns
returns g c = four _ _ _ _ _ _ _ _ _ _ _ _ _ _ _ c.in_ok-begin_map.ensures c.in_ok-put_covered.ensures c.in_ok-put_site.ensures c.in_ok-put_name.ensures c.in_ok-put_site-2.ensures c.in_ok-end_map.ensures
