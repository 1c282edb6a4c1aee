-- More bytes were held than the limit; which ones isn't told.
use Rattle.std.proofs.Common.{◌<◌, ◌+◌, length, replicate, arith}
use Rattle.std.proofs.lemmas.List.{length-replicate}
use Rattle.atac_cli.proofs.shelf.FolderShelfShelf.fetch.Goals as goal

pub returns-in-Full-clause-found : goal.returns-in-Full-clause-found
returns-in-Full-clause-found g c =
    let longer : c.args.most < length (replicate (c.args.most + 1) 0) = simp length-replicate (omega arith) in
    (c.clear-in-Full.ensures.items, (replicate (c.args.most + 1) 0, longer, tt))
