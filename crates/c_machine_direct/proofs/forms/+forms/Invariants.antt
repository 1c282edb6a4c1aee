use Rattle.std.proofs.Common.{◌≡◌, drop, true}
use Rattle.c_machine_direct.specs.Forms.{are_direct}
use Rattle.c_machine_direct.proofs.forms.+forms.Given as goal

abbrev pub invariant-are_direct-loop-item : goal.invariant-are_direct-loop-item
invariant-are_direct-loop-item l = are_direct (drop l.item-index l.items) ≡ true → are_direct l.items ≡ true
