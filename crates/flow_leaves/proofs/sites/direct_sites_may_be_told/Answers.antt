use Rattle.flow_leaves.proofs.Leaves as leaves
use Rattle.flow_leaves.proofs.Wholes as wholes
use Rattle.flow_leaves.proofs.sites.direct_sites_may_be_told.Goals as goal

pub returns-clause-places : goal.returns-clause-places
returns-clause-places c = leaves.places_are_found

pub returns-clause-sites : goal.returns-clause-sites
returns-clause-sites c = leaves.sites_may_be_told

pub returns-clause-wholes : goal.returns-clause-wholes
returns-clause-wholes c = wholes.wholes_are_found
