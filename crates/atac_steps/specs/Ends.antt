-- How a call can end: its status, and the line that it puts to the error sink.
use Rattle.std.specs.Prelude.{ℕ, List, [], ◌∷◌, ◌++◌, codes}
use Rattle.atac_steps.specs.declared.stop.TraceFault.{TraceFault}
use Rattle.atac_steps.specs.declared.stop.TraceFault.TheVariants as fault
use Rattle.atac_steps.specs.declared.status.Status.{Status}
use Rattle.atac_steps.specs.declared.status.Status.TheVariants.{Done, Usage, Refused, Absent, Long, BadTrace, ReadFault, WriteFault, KeepFault, NoMemory, NoWatcher}

pub data End : Type 0 where
  IsDone : End
  BadWords : End
  -- with what is said of the program: a place, a number and a name
  NotAccepted : (file said : List ℕ) → End
  NotHeld : (file : List ℕ) → End
  TooLong : (file : List ℕ) → End
  -- with what is wrong with the trace
  NoTrace : (file : List ℕ) (why : TraceFault) → End
  ReadFailed : (file : List ℕ) → End
  WriteFailed : End
  KeepFailed : (file : List ℕ) → End
  -- no watcher has the name
  NotWatched : (name : List ℕ) → End
  OutOfMemory : End

abbrev pub status_of : End → Status
status_of IsDone = Done
status_of BadWords = Usage
status_of (NotAccepted file said) = Refused
status_of (NotHeld file) = Absent
status_of (TooLong file) = Long
status_of (NoTrace file why) = BadTrace
status_of (ReadFailed file) = ReadFault
status_of WriteFailed = WriteFault
status_of (KeepFailed file) = KeepFault
status_of OutOfMemory = NoMemory
status_of (NotWatched name) = NoWatcher

-- The two parts of the line between `atac: ` and the newline: the name of a file or of a watcher, and what is said of it.
abbrev pub file_of : End → List ℕ
file_of (NotAccepted file said) = file
file_of (NotHeld file) = file
file_of (TooLong file) = file
file_of (NoTrace file why) = file
file_of (ReadFailed file) = file
file_of (KeepFailed file) = file
file_of (NotWatched name) = name
file_of end = []

-- What is wrong with a trace: a number and its name.
abbrev pub fault_text : TraceFault → List ℕ
fault_text fault.NotATrace = codes "60 NotATrace"
fault_text fault.Version = codes "61 Version"
fault_text fault.Length = codes "62 Length"
fault_text fault.Order = codes "63 Order"
fault_text fault.Damaged = codes "64 Damaged"
fault_text fault.OtherProgram = codes "65 OtherProgram"
fault_text fault.TooMuch = codes "66 TooMuch"

abbrev pub said_of : End → List ℕ
said_of IsDone = []
said_of BadWords = codes "bad usage"
said_of (NotAccepted file said) = said
said_of (NotHeld file) = codes ": absent"
said_of (TooLong file) = codes ": too long"
said_of (NoTrace file why) = codes ": " ++ fault_text why
said_of (ReadFailed file) = codes ": read fault"
said_of WriteFailed = codes "write fault"
said_of (KeepFailed file) = codes ": keep fault"
said_of OutOfMemory = codes "no memory"
said_of (NotWatched name) = codes ": no watcher"

-- The line, with its newline. A call that is done puts none.
abbrev pub line_of : End → List ℕ
line_of IsDone = []
line_of end = codes "atac: " ++ (file_of end ++ (said_of end ++ 10 ∷ []))
