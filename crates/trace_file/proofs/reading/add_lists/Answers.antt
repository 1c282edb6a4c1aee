-- The four lists, whose rows are sound.
use Rattle.trace_file.specs.Reading.{all_seen}
use Rattle.trace_file.proofs.Gaining.{sound_parts, gains_parts}
use Rattle.trace_file.proofs.reading.add_lists.Goals as goal

pub add_list-requires-clause-sound : goal.add_list-requires-clause-sound
add_list-requires-clause-sound c = let s = sound_parts c.args.counted (all_seen c.args.parts.now) c.requires.orderly in s.0

pub add_list-requires-2-clause-sound : goal.add_list-requires-2-clause-sound
add_list-requires-2-clause-sound c = let s = sound_parts c.args.counted (all_seen c.args.parts.now) c.requires.orderly in s.1

pub add_list-requires-3-clause-sound : goal.add_list-requires-3-clause-sound
add_list-requires-3-clause-sound c = let s = sound_parts c.args.counted (all_seen c.args.parts.now) c.requires.orderly in s.2

pub add_list-requires-4-clause-sound : goal.add_list-requires-4-clause-sound
add_list-requires-4-clause-sound c = let s = sound_parts c.args.counted (all_seen c.args.parts.now) c.requires.orderly in s.3

pub returns : goal.returns
returns c = gains_parts c.args.counted (all_seen c.args.parts.now) c.args.facts.now c.add_list.new.facts c.add_list-2.new.facts c.add_list-3.new.facts c.add_list-4.new.facts c.requires.orderly c.in_ok-add_list.ensures c.in_ok-add_list-2.ensures c.in_ok-add_list-3.ensures c.in_ok-add_list-4.ensures
