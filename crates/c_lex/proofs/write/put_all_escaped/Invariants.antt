use Rattle.std.proofs.Common.{◌≡◌, ◌++◌, drop}
use Rattle.c_lex_pieces.specs.Written.{values_bytes}
use Rattle.c_lex.proofs.write.put_all_escaped.Given as goal

abbrev pub invariant-loop-b : goal.invariant-loop-b
invariant-loop-b l = l.out.items ++ values_bytes (drop l.b-index l.bytes) ≡ l.fn.out.items ++ values_bytes l.bytes
