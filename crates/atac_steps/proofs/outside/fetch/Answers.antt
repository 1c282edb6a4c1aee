-- After a fault or want of memory nothing is known of what the shelf holds.
use Rattle.std.proofs.Common.{rules}
use Rattle.atac_steps.proofs.Found.{guess, guess_agrees}
use Rattle.atac_steps.proofs.outside.fetch.Goals as goal

pub returns-in-Err-Failed : goal.returns-in-Err-Failed
returns-in-Err-Failed g c =
    let said = (g.S.Shelf.state c.args.shelf.now).says c.args.name.now in
    record { found = guess said; agrees = guess_agrees said; gives = search rules; few = search rules; says = search rules; grows = search rules }

pub returns : goal.returns
returns g c =
    let said = (g.S.Shelf.state c.args.shelf.now).says c.args.name.now in
    record { found = guess said; agrees = guess_agrees said; gives = search rules; few = search rules; says = search rules; grows = search rules }
