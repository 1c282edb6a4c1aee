use Rattle.std.proofs.Common.{rules, ◌≡◌, ◌+◌, ◌<◌, ◌≤◌, length, Some, None, IfOk, IsErrOf, ℕ, ◌-◌, ◌*◌, ◌/◌, ◌%◌, Bool, true, false, nat_eq, nat_lt, List, [], ◌∷◌, ◌++◌, slice_index_or, slice_set, bit_and, bit_or, Fits, w8, w32, w64, Bor, MutBor}
use Rattle.std.proofs.lemmas.Result.{IfOk-weaker}
use Rattle.c_syntax.specs.View.{spec_list, declarator_shape}
use Rattle.c_parse.proofs.UnitRead.{unit_is_shaped, unit_is_only, lineless, bare}
use Rattle.c_parse.proofs.unit.parse.Goals as goal

pub returns-in-Err-Syntax-clause-refused : goal.returns-in-Err-Syntax-clause-refused
returns-in-Err-Syntax-clause-refused c = lineless c.args.tokens.now c.first_place.result (c.in-Err-Syntax.ensures.fails (search rules)) c.first_place.ensures

pub returns-then-is_empty-clause-refused : goal.returns-then-is_empty-clause-refused
returns-then-is_empty-clause-refused c = bare c.in-Ok.read.0 c.args.tokens.now c.in-Ok.read.1.now c.first_place-then-is_empty.result c.in-Ok.ensures.found (search rules) c.first_place-then-is_empty.ensures

pub returns-clause-shaped : goal.returns-clause-shaped
returns-clause-shaped c = unit_is_shaped c.first_place-2.result c.place_of_last.result c.in-Ok.read.0 c.in_ok-externals.externals.items c.args.tokens.now c.in-Ok.read.1.now c.in-Ok.ensures.found c.in_ok-externals.ensures.found (search rules)

pub returns-clause-only : goal.returns-clause-only
returns-clause-only c = unit_is_only c.first_place-2.result c.place_of_last.result c.in-Ok.read.0 c.in_ok-externals.externals.items c.args.tokens.now c.in-Ok.read.1.now c.in-Ok.ensures.found c.in_ok-externals.ensures.found (search rules) c.first_place-2.ensures c.place_of_last.ensures
