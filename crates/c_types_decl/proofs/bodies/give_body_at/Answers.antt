use Rattle.std.proofs.Common.{◌≡◌, true, false, sym, ◌∙◌}
use Rattle.c_tables.specs.Tables.{tables_shape, function_shape}
use Rattle.c_types_decl.proofs.Named.{given_body, given_none}
use Rattle.c_types_decl.proofs.bodies.give_body_at.Goals as goal

pub returns-then-not-has_name-clause-rows : goal.returns-then-not-has_name-clause-rows
returns-then-not-has_name-clause-rows c =
    let e : c.has_name.result ≡ false = cc in
    given_none c.args.name.now c.args.i (tables_shape c.args.tables.now) (function_shape c.function.result.now) c.function.ensures (sym c.has_name.ensures ∙ e)

pub returns-clause-rows : goal.returns-clause-rows
returns-clause-rows c =
    let e : c.has_name.result ≡ true = cc in
    let d = given_body c.args.name.now c.args.i (tables_shape c.args.tables.now) (function_shape c.function.result.now) c.function.ensures (sym c.has_name.ensures ∙ e) in
    cc
