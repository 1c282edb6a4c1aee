-- The types whose values are ints as operands (C89, 3.2.1.1), and steps.
use Rattle.std.specs.Prelude.{ℤ, Bool, true, false, Result, Ok}
use Rattle.c_base.specs.declared.place.IntKind.{IntKind}
use Rattle.c_base.specs.declared.place.IntKind.TheVariants.{Char, Short, Int, Long, UChar, UShort, UInt, ULong}
use Rattle.c_syntax.specs.declared.tree.StepOp.{StepOp}
use Rattle.c_syntax.specs.declared.tree.StepOp.TheVariants.{PreInc, PreDec, PostInc, PostDec}
use Rattle.c_syntax.specs.Shape.{Step, up, down}
use Rattle.c_store.specs.declared.value.Value.{Value}
use Rattle.c_store.specs.declared.value.Value.TheVariants as value
use Rattle.c_store.specs.declared.value.Fault.{Fault}

-- it is promoted to int
abbrev pub is_narrow : IntKind → Bool
is_narrow Char = true
is_narrow Short = true
is_narrow Int = true
is_narrow Long = false
is_narrow UChar = true
is_narrow UShort = true
is_narrow UInt = false
is_narrow ULong = false

-- the number, with no fault
abbrev pub given : ℤ → Result Value Fault
given z = Ok (value.Int z)

-- whether it adds 1 or takes it away
abbrev pub direction : StepOp → Step
direction PreInc = up
direction PreDec = down
direction PostInc = up
direction PostDec = down
