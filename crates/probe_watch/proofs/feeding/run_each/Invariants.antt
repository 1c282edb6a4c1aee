use Rattle.std.proofs.Common.{◌≡◌, List, ◌++◌, take, map}
use Rattle.c_events.specs.declared.events.Event.{Event}
use Rattle.c_meaning.specs.Sources.{source_of}
use Rattle.probe_watch.specs.Logs.{bytes_in, ends_of, log_of}
use Rattle.probe_watch.proofs.feeding.run_each.Given as goal

-- the inputs so far have been run on, and the probes were told what these runs log
abbrev pub invariant-loop-input : goal.invariant-loop-input
invariant-loop-input g l =
    let so_far = map bytes_in (take l.input-index l.inputs) in
    record {
      ends : l.ends.items ≡ ends_of (source_of l.program) l.limit so_far;
      told : (h : List Event) → g.P.Probes.stands_for l.fn.probes h → g.P.Probes.stands_for l.probes (h ++ log_of (source_of l.program) l.limit so_far);
    }
