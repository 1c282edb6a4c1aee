use Rattle.std.proofs.Common.{◌≡◌, [], drop, map}
use Rattle.c_syntax.specs.View.{external_shape}
use Rattle.c_sites_probes.specs.Owned.{own_externals}
use Rattle.c_sites_probes.proofs.owned.owned_in.Given as goal

abbrev pub invariant-loop-external : goal.invariant-loop-external
invariant-loop-external l = own_externals (map external_shape (drop l.external-index l.external-items)) l.out.items ≡ own_externals (map external_shape l.external-items) []
