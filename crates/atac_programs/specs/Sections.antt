-- The text of one run: the input's name, the output, and how the run ended.
use Rattle.std.specs.Prelude.{ℕ, List, [], ◌∷◌, ◌++◌, length, codes}
use Rattle.std.specs.Fmt.{decimal, signed_decimal}
use Rattle.c_store.specs.declared.value.Fault.{Fault}
use Rattle.c_store.specs.declared.value.Fault.TheVariants as fault
use Rattle.c_meaning.specs.declared.end.End.{End}
use Rattle.c_meaning.specs.declared.end.End.TheVariants as end
use Rattle.c_meaning.specs.declared.end.RunEnd.{RunEnd}
use Rattle.c_meaning.specs.Runs.{Outcome}

-- a fault's number and name
abbrev pub fault_text : Fault → List ℕ
fault_text fault.DivideByZero = codes "1 DivideByZero"
fault_text fault.Overflow = codes "2 Overflow"
fault_text fault.ShiftCount = codes "3 ShiftCount"
fault_text fault.Null = codes "4 Null"
fault_text fault.Dangling = codes "5 Dangling"
fault_text fault.OutOfBounds = codes "6 OutOfBounds"
fault_text fault.Uninitialised = codes "7 Uninitialised"
fault_text fault.OtherArray = codes "8 OtherArray"
fault_text fault.WriteLiteral = codes "9 WriteLiteral"
fault_text fault.NoResult = codes "10 NoResult"

abbrev pub end_text : End → List ℕ
end_text (end.Returned v) = codes "returned " ++ signed_decimal v
end_text (end.Exited v) = codes "exited " ++ signed_decimal v
end_text (end.Fault fault function) = codes "fault " ++ (fault_text fault ++ (codes " in " ++ function))
end_text end.Turns = codes "turn limit"
end_text end.Depth = codes "depth limit"
end_text end.Room = codes "room limit"

-- == END turns T bytes B
abbrev pub end_line_of : List ℕ → ℕ → End → List ℕ
end_line_of output turns end = codes "== " ++ (end_text end ++ ((codes " turns " ++ decimal turns) ++ ((codes " bytes " ++ decimal (length output)) ++ 10 ∷ [])))

abbrev pub section_of : List ℕ → List ℕ → ℕ → End → List ℕ
section_of input output turns end = codes "== " ++ (input ++ (10 ∷ (output ++ 10 ∷ end_line_of output turns end)))

-- the line of how a run ended
abbrev pub end_line_text : Outcome → List ℕ
end_line_text run = end_line_of run.output run.turns run.end

abbrev pub ended_line : RunEnd → List ℕ
ended_line e = end_line_of e.output e.turns e.end

-- the section of a run on an input of this name
abbrev pub section_text : List ℕ → Outcome → List ℕ
section_text input run = section_of input run.output run.turns run.end
