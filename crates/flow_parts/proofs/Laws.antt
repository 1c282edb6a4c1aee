-- The sites of a program's local variables, and of what is in them, may be told of, and the pairs of them that a run makes and covers are listed.
use Rattle.std.proofs.Common.{[], refl, sym, append-nil}
use Rattle.c_walk.specs.Units as units
use Rattle.c_walk.specs.Units.{walk_externals}
use Rattle.c_meaning.specs.State.{start}
use Rattle.c_meaning.specs.Runs.{all_made, audible}
use Rattle.flow_places.proofs.Laws as places
use Rattle.flow_parts.specs.Parts.{parts_of, PartsAreSites, PartPairsAreListed}
use Rattle.flow_parts.proofs.Outside.{made_none, at_gives}
use Rattle.flow_parts.proofs.Programs.{externals_unsited, externals_sited}

pub parts_are_sites : PartsAreSites
parts_are_sites P has =
    let es = P.unit.externals in
    record {
      outside = externals_unsited P [] es units.no_items (λ k lt. refl);
      inside = λ input limit f s e.
          let made = all_made P audible (start input limit) in
          externals_sited P s.file has.layered has.filled (λ x h. at_gives x made f s e (made_none x P units.no_items (start input limit) h refl)) es units.no_items (λ k lt. refl) ([], sym (append-nil (walk_externals P.tables es units.no_items).items)) has.scalars (has.orderly input limit f s e) has.kinded has.own;
    }

pub part_pairs_are_listed : PartPairsAreListed
part_pairs_are_listed P has input limit d u v r dv ur same pair = places.run_pairs_are_listed P (parts_of P) has.orderly (parts_are_sites P has) input limit d u v r dv ur same pair
