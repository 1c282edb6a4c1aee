use Rattle.probe_in.proofs.declarations.probed_variable.Goals as goal

pub returns-in_ok-made-in-Some : goal.returns-in_ok-made-in-Some
returns-in_ok-made-in-Some c t ls e c' w h = rw c.in-Some.is (c.in_ok-made-in-Some.ensures t ls e c' w h)
