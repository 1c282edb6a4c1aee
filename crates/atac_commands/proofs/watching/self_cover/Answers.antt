-- Each way out of `self`.
use Rattle.std.proofs.Common.{refl, ap, ◌∙◌, map, length}
use Rattle.std.proofs.lemmas.Result.{err_from_is_err_and}
use Rattle.probe_watch.specs.Logs.{bytes_in}
use Rattle.atac_programs.specs.Programs.{program_in}
use Rattle.atac_programs.proofs.Reading.{read_refused, read_given}
use Rattle.atac_commands.proofs.Watched.{handed_in, self_wants_at_once, self_refused, self_feeds, self_ends, sum_is}
use Rattle.atac_commands.proofs.watching.self_cover.Goals as goal

pub returns-in_err-made : goal.returns-in_err-made
returns-in_err-made g c = λ shelf.
    let p = err_from_is_err_and c.from_residual.result c.from_residual.ensures.1 in
    let ws = handed_in c.args.watchers.items (λ w. (g.dyn-1.0.entry w.vtable).1.called w.value) (λ w. (g.dyn-1.0.entry w.vtable).1.stands_for w.value) (λ w. (g.dyn-1.0.entry w.vtable).1.text_of w.value) in
    rw (p.1, p.2) (self_wants_at_once ws c.args.limit c.args.seed shelf _)

pub returns-then-length-gt-PROGRAM_MOST : goal.returns-then-length-gt-PROGRAM_MOST
returns-then-length-gt-PROGRAM_MOST g c = λ shelf.
    let ws = handed_in c.args.watchers.items (λ w. (g.dyn-1.0.entry w.vtable).1.called w.value) (λ w. (g.dyn-1.0.entry w.vtable).1.stands_for w.value) (λ w. (g.dyn-1.0.entry w.vtable).1.text_of w.value) in
    self_wants_at_once ws c.args.limit c.args.seed shelf _

pub returns-in_err-said : goal.returns-in_err-said
returns-in_err-said g c = λ shelf.
    let p = err_from_is_err_and c.from_residual-in_err-said.result c.from_residual-in_err-said.ensures.1 in
    let ws = handed_in c.args.watchers.items (λ w. (g.dyn-1.0.entry w.vtable).1.called w.value) (λ w. (g.dyn-1.0.entry w.vtable).1.stands_for w.value) (λ w. (g.dyn-1.0.entry w.vtable).1.text_of w.value) in
    rw (p.1, p.2) (self_wants_at_once ws c.args.limit c.args.seed shelf _)

pub returns-in-Refuses : goal.returns-in-Refuses
returns-in-Refuses g c = λ shelf.
    let ws = handed_in c.args.watchers.items (λ w. (g.dyn-1.0.entry w.vtable).1.called w.value) (λ w. (g.dyn-1.0.entry w.vtable).1.stands_for w.value) (λ w. (g.dyn-1.0.entry w.vtable).1.text_of w.value) in
    self_refused ws c.args.limit c.args.seed shelf _ _ (read_refused _ c.in-Refuses.said _ _ c.in-Refuses.is (c.as_slice-source.ensures.value ∙ c.in_ok-made.ensures.program) c.in_ok-said.ensures)

pub returns-in_err-text : goal.returns-in_err-text
returns-in_err-text g c = λ shelf.
    let p = err_from_is_err_and c.from_residual-in_err-text.result c.from_residual-in_err-text.ensures.1 in
    let u = c.in-Covers.understood in
    let q = read_given _ u _ _ c.in-Covers.is (c.as_slice-source.ensures.value ∙ c.in_ok-made.ensures.program) c.in_ok-said.ensures in
    let ws = handed_in c.args.watchers.items (λ w. (g.dyn-1.0.entry w.vtable).1.called w.value) (λ w. (g.dyn-1.0.entry w.vtable).1.stands_for w.value) (λ w. (g.dyn-1.0.entry w.vtable).1.text_of w.value) in
    rw (p.1, p.2) (self_feeds ws c.args.limit c.args.seed shelf _ (program_in q.accepted) u.items (record { accepted = q.accepted; program = refl; has = q.has }) _ c.in_err-text.ensures.stops)

pub returns : goal.returns
returns g c = λ shelf.
    let u = c.in-Covers.understood in
    let q = read_given _ u _ _ c.in-Covers.is (c.as_slice-source.ensures.value ∙ c.in_ok-made.ensures.program) c.in_ok-said.ensures in
    let P = program_in q.accepted in
    let t = c.in_ok-text.ensures.text P q.holds in
    let ws = handed_in c.args.watchers.items (λ w. (g.dyn-1.0.entry w.vtable).1.called w.value) (λ w. (g.dyn-1.0.entry w.vtable).1.stands_for w.value) (λ w. (g.dyn-1.0.entry w.vtable).1.text_of w.value) in
    let s = sum_is ws P u.items c.args.limit c.args.seed _ _ _ t (ap length (c.as_slice-source.ensures.value ∙ c.in_ok-made.ensures.program)) (ap (map bytes_in) c.as_slice.ensures.value ∙ c.in_ok-made.ensures.inputs) in
    self_ends ws c.args.limit c.args.seed shelf _ P u.items (record { accepted = q.accepted; program = refl; has = q.has }) s.said s.says _ _ c.put.result c.put.ensures (c.as_slice-2.ensures.value ∙ s.is)
