-- No input is left; one that stops; and one that is gathered before the others.
use Rattle.std.proofs.Common.{refl, sym, subst, map, ◌++◌, ◌∷◌, []}
use Rattle.std.proofs.lemmas.Result.{err_from_is_err_and}
use Rattle.std.specs.Prelude.{string_bytes, Ok}
use Rattle.c_sites.proofs.Joined.{nothing_left}
use Rattle.atac_commands.specs.Gathering.{Gathers, GatherGoes}
use Rattle.atac_commands.proofs.Gathered.{gathered, gather_fetch, gather_wants, gather_on}
use Rattle.atac_commands.proofs.picking.Gathering.+gather.Goals as goal

pub returns-in_default : goal.returns-in_default
returns-in_default g t c = λ P items got h. subst (λ xs. GatherGoes P items c.args.limit got (map string_bytes xs) c.args.self.now (g.S.Shelf.state c.args.shelf.now) (g.S.Shelf.state c.args.shelf.now) (Ok tt)) (sym (nothing_left _ c.in_default.ensures.cases)) (gathered P items c.args.limit got _ _ h)

pub returns-in_err-bytes : goal.returns-in_err-bytes
returns-in_err-bytes g t c = λ P items got h.
    let p = err_from_is_err_and c.from_residual.result c.from_residual.ensures.1 in
    let f = c.in_err-bytes.ensures in
    rw (p.1, c.in-Some.ensures.cases.0, ← c.as_str.ensures.value) (gather_fetch P items c.args.limit got c.as_str.result.now _ _ _ f.found f.agrees f.says f.grows _ p.0 (rw p.2 f.gives))

pub returns-in_err-run_on : goal.returns-in_err-run_on
returns-in_err-run_on g t c = λ P items got h.
    let p = err_from_is_err_and c.from_residual-in_err-run_on.result c.from_residual-in_err-run_on.ensures.1 in
    let f = c.in_ok-bytes.ensures in
    rw (p.1, c.in-Some.ensures.cases.0, ← c.as_str.ensures.value) (gather_wants P items c.args.limit got c.as_str.result.now _ _ _ f.found f.agrees f.says f.grows _ p.0 (rw p.2 refl))

pub returns : goal.returns
returns g t c = λ P items got h.
    let f = c.in_ok-bytes.ensures in
    let on = c.in_ok-run_on.ensures P items got h in
    rw (c.in-Some.ensures.cases.0, ← c.as_str.ensures.value)
    (gather_on P items c.args.limit got c.as_str.result.now _ _ (g.S.Shelf.state c.fetch.new.shelf) f.found f.agrees f.says f.grows c.in_ok-bytes.bytes.items f.gives _ _ _
    (c.gather.ensures P items (got ++ c.in_ok-bytes.bytes.items ∷ []) (subst (λ b. Gathers P items c.args.limit (got ++ b ∷ []) c.run_on.new.self) c.as_slice.ensures.value on)))
