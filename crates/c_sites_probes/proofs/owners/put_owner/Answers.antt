use Rattle.std.proofs.Common.{◌≡◌, slice_get, Some, None, sym, ap, ◌∙◌, arith}
use Rattle.std.proofs.lemmas.Option.{slice_get-get_or}
use Rattle.c_sites_probes.proofs.Rows.{put_owned, kept_owned, is_empty, is_full}
use Rattle.c_sites_probes.proofs.owners.put_owner.Goals as goal

pub returns-then-is_none-clause-owners : goal.returns-then-is_none-clause-owners
returns-then-is_none-clause-owners c found h =
    let rows = c.args.rows.now.items in
    let row = c.index.result.now in
    let read : slice_get rows c.args.number ≡ Some row = slice_get-get_or rows c.args.number row (omega arith) ∙ ap Some (sym c.index.ensures) in
    let none : row ≡ None = is_empty row c.is_none.result c.is_none.ensures c.if-is_none.true in
    put_owned found rows c.args.number c.args.owner c.requires (omega arith) (read ∙ ap Some none) h

pub returns-else-is_none-clause-owners : goal.returns-else-is_none-clause-owners
returns-else-is_none-clause-owners c found h =
    let rows = c.args.rows.now.items in
    let row = c.index.result.now in
    let read : slice_get rows c.args.number ≡ Some row = slice_get-get_or rows c.args.number row (omega arith) ∙ ap Some (sym c.index.ensures) in
    let some = is_full row c.is_none.result c.is_none.ensures c.if-is_none.false in
    kept_owned found rows c.args.number some.0 c.args.owner (read ∙ ap Some some.1) h
