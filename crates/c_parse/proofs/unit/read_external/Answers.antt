use Rattle.std.proofs.Common.{rules, ◌≡◌, ◌+◌, ◌<◌, ◌≤◌, length, Some, None, IfOk, IsErrOf, ℕ, ◌-◌, ◌*◌, ◌/◌, ◌%◌, Bool, true, false, nat_eq, nat_lt, List, [], ◌∷◌, ◌++◌, slice_index_or, slice_set, bit_and, bit_or, Fits, w8, w32, w64, Bor, MutBor}
use Rattle.std.proofs.lemmas.Result.{IfOk-weaker}
use Rattle.c_syntax.specs.View.{spec_list, declarator_shape}
use Rattle.c_parse.proofs.UnitRead.{external_unread}
use Rattle.c_parse.proofs.unit.read_external.Goals as goal

pub returns-clause-fails : goal.returns-clause-fails
returns-clause-fails c = λ e. external_unread c.first_place.result (spec_list c.in_ok-specs.specs.items) _ _ _ c.in_ok-specs.ensures.found c.first_place.ensures (c.read_names.ensures.fails e)
