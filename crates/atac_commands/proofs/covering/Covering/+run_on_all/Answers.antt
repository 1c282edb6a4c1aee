-- No input; and one before the others.
use Rattle.std.proofs.Common.{ap, sym, ◌∙◌, subst, [], ◌∷◌, ◌++◌, map, append-nil, append_assoc}
use Rattle.c_sites.proofs.Joined.{nothing_left}
use Rattle.probe_watch.specs.Logs.{bytes_in}
use Rattle.atac_programs.specs.Programs.{shown, with_run}
use Rattle.atac_commands.specs.Progress.{Stands}
use Rattle.atac_commands.proofs.Inputs.{stands_on}
use Rattle.atac_commands.proofs.covering.Covering.+run_on_all.Goals as goal

pub returns-in_default : goal.returns-in_default
returns-in_default t c = λ P items got h. subst (λ xs. Stands P items (shown P c.args.limit xs) c.args.self.now) (sym (ap (λ l. got ++ map bytes_in l) (nothing_left _ c.in_default.ensures.cases) ∙ append-nil got)) h

pub returns : goal.returns
returns t c = λ P items got h.
    let one = stands_on P items c.args.limit got c.in-Some.first.now.items _ (subst (λ b. Stands P items (with_run P c.args.limit b (shown P c.args.limit got)) c.run_on.new.self) c.as_slice.ensures.value (c.in_ok-run_on.ensures.stands P items (shown P c.args.limit got) h)) in
    subst (λ xs. Stands P items (shown P c.args.limit xs) c.run_on_all.new.self) (append_assoc got (c.in-Some.first.now.items ∷ []) (map bytes_in c.in-Some.rest.now) ∙ ap (λ l. got ++ map bytes_in l) (sym c.in-Some.ensures.cases.0)) (c.in_ok-run_on_all.ensures P items (got ++ c.in-Some.first.now.items ∷ []) one)
