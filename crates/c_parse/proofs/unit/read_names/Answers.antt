use Rattle.std.proofs.Common.{rules, ◌≡◌, ◌+◌, ◌<◌, ◌≤◌, length, Some, None, IfOk, IsErrOf, ℕ, ◌-◌, ◌*◌, ◌/◌, ◌%◌, Bool, true, false, nat_eq, nat_lt, List, [], ◌∷◌, ◌++◌, slice_index_or, slice_set, bit_and, bit_or, Fits, w8, w32, w64, Bor, MutBor}
use Rattle.std.proofs.lemmas.Result.{IfOk-weaker}
use Rattle.c_syntax.specs.View.{spec_list, declarator_shape}
use Rattle.c_parse.proofs.UnitRead.{named_unread}
use Rattle.c_parse.proofs.unit.read_names.Goals as goal

pub returns-clause-fails : goal.returns-clause-fails
returns-clause-fails c = λ e. named_unread c.args.pos (spec_list c.args.specs.items) _ _ _ _ c.in_default.ensures.found c.in_ok-name.ensures.found (c.read_behind.ensures.fails e)
