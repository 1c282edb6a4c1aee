use Rattle.std.proofs.Common.{◌≡◌, None, take, find}
use Rattle.std.specs.Str.{bytes_eq}
use Rattle.probe_watch.proofs.feeding.place_called.Given as goal

-- none of those so far has the name
abbrev pub invariant-loop-i : goal.invariant-loop-i
invariant-loop-i g l = find (λ w. bytes_eq ((goal.Watcher-dyn g (w.vtable, w.value)).called w.value) l.name) (take l.i l.watchers) ≡ None
