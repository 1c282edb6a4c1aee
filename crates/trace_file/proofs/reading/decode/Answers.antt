-- What was read, with the bytes as its rows.
use Rattle.std.proofs.Common.{subst, List, ℕ}
use Rattle.std.proofs.lemmas.Result.{err_from_is_err_and}
use Rattle.std.specs.Prelude.{Ok, Err}
use Rattle.trace_file.specs.Reading.{headed, IsBytes, Refuses}
use Rattle.trace_file.proofs.Steps.{kept}
use Rattle.trace_file.proofs.Whole.{is_found, is_only}
use Rattle.trace_file.proofs.reading.decode.Goals as goal

pub returns-in_err-digest-clause-only : goal.returns-in_err-digest-clause-only
returns-in_err-digest-clause-only c = λ t typed sound spells.
    let p = err_from_is_err_and c.from_residual.result c.from_residual.ensures.1 in
    let e = c.in_err-digest.field-0.0 in
    let refuses = subst (λ (b : List ℕ). Refuses b e) c.as_slice-2.ensures.value c.in_err-digest.ensures in
    rw (p.1, p.2) (is_only c.args.bytes.items (Err e) t refuses typed sound spells)

pub returns-clause-found : goal.returns-clause-found
returns-clause-found c =
    let head = c.in_ok-digest.field-0 in
    is_found c.args.bytes.items (Ok (headed head c.read-2.result)) (subst IsBytes c.as_slice.ensures.value c.are_bytes.ensures) (kept c.args.bytes.items c.as_slice-2.result.now head c.read-2.result c.as_slice-2.ensures.value c.read-2.ensures c.in_ok-digest.ensures)

pub returns-clause-only : goal.returns-clause-only
returns-clause-only c = λ t typed sound spells.
    let head = c.in_ok-digest.field-0 in
    is_only c.args.bytes.items (Ok (headed head c.read-2.result)) t (kept c.args.bytes.items c.as_slice-2.result.now head c.read-2.result c.as_slice-2.ensures.value c.read-2.ensures c.in_ok-digest.ensures) typed sound spells
