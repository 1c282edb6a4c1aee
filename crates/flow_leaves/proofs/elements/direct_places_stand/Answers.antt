use Rattle.flow_leaves.proofs.Places as places
use Rattle.flow_leaves.proofs.elements.direct_places_stand.Goals as goal

pub returns-clause-places : goal.returns-clause-places
returns-clause-places c = places.places_stand

pub returns-clause-arrays : goal.returns-clause-arrays
returns-clause-arrays c = places.arrays_begin
