use Rattle.std.proofs.Common.{None}
use Rattle.c_sites_probes.proofs.Rows.{here_in, only_none}
use Rattle.c_sites_probes.proofs.owners.no_rows.Goals as goal

pub returns-in-Ok-clause-none : goal.returns-in-Ok-clause-none
returns-in-Ok-clause-none c u h = here_in 65536 None c.in-Ok.rows.items u (c.in-Ok.ensures.items_if_clones_equal (only_none _ (λ x k. k))) h
