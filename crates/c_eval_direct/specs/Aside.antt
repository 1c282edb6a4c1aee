-- A value that is a number by itself, or what stands aside.
use Rattle.std.specs.Prelude.{ℤ, Option, Some, None}
use Rattle.c_store.specs.declared.value.Value.TheVariants.{Int}
use Rattle.c_eval_once.specs.declared.reply.Answer.{Answer}
use Rattle.c_eval_once.specs.declared.reply.Answer.TheVariants as answer

-- a number is the value by itself, and all else stands aside
abbrev pub given : Option ℤ → Answer → Answer
given (Some n) a = answer.Value (Int n)
given None a = a
