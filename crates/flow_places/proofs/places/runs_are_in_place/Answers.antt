use Rattle.flow_places.proofs.Laws.{runs_are_in_place, run_pairs_are_listed}
use Rattle.flow_places.proofs.places.runs_are_in_place.Goals as goal

pub returns-clause-places : goal.returns-clause-places
returns-clause-places c = runs_are_in_place

pub returns-clause-pairs : goal.returns-clause-pairs
returns-clause-pairs c = run_pairs_are_listed
