-- The stops of the code as ends of a call.
use Rattle.std.specs.Prelude.{Result, Ok, Err, string_bytes}
use Rattle.atac_steps.specs.declared.stop.Stop.{Stop}
use Rattle.atac_steps.specs.declared.stop.Stop.TheVariants as stop
use Rattle.atac_steps.specs.Ends.{End, IsDone, NotAccepted, NotHeld, TooLong, NoTrace, ReadFailed, WriteFailed, KeepFailed, OutOfMemory, NotWatched}

abbrev pub end_of : Stop → End
end_of (stop.NotAccepted file said) = NotAccepted file.now (string_bytes said)
end_of (stop.NotHeld file) = NotHeld file.now
end_of (stop.TooLong file) = TooLong file.now
end_of (stop.NoTrace file why) = NoTrace file.now why
end_of (stop.ReadFailed file) = ReadFailed file.now
end_of stop.WriteFailed = WriteFailed
end_of (stop.KeepFailed file) = KeepFailed file.now
end_of stop.NoMemory = OutOfMemory
end_of (stop.NotWatched name) = NotWatched name.now

-- How a command ends that answers this.
abbrev pub ended : {T : Type 0} → Result T Stop → End
ended (Ok x) = IsDone
ended (Err stop) = end_of stop
