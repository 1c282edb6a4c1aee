-- The exit codes.
use Rattle.std.specs.Prelude.{ℕ}
use Rattle.atac_steps.specs.declared.status.Status.{Status}
use Rattle.atac_steps.specs.declared.status.Status.TheVariants.{Done, Usage, Refused, Absent, Long, BadTrace, ReadFault, WriteFault, KeepFault, NoMemory, NoWatcher}

abbrev pub code_of : Status → ℕ
code_of Done = 0
code_of Usage = 2
code_of Refused = 3
code_of Absent = 4
code_of Long = 5
code_of BadTrace = 6
code_of ReadFault = 7
code_of WriteFault = 8
code_of KeepFault = 9
code_of NoMemory = 10
code_of NoWatcher = 11
