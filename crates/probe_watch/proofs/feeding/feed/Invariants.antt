use Rattle.probe_watch.proofs.feeding.feed.Given as goal

-- the texts of the watcher that is told
abbrev pub ghosts-feed_one : goal.ghosts-feed_one
ghosts-feed_one g a = record { text = λ h. (g.dyn-1.0.entry a.watcher.vtable).1.text_of a.watcher.value h }
