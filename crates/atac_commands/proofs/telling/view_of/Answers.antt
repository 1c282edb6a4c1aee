-- Each text, by the sum that its traces have.
use Rattle.std.proofs.Common.{ap, ◌∙◌, ◌++◌, ◌∷◌, []}
use Rattle.std.specs.Prelude.{◌==◌}
use Rattle.serde_json.specs.Written.{compact_text}
use Rattle.json_out.specs.Json.{json_of}
use Rattle.cover_report.specs.Texts.{report_text}
use Rattle.cover_show.specs.Shown.{show_text}
use Rattle.cover_hits.specs.Hits.{hits_text}
use Rattle.atac_facts.specs.Tallies.{count_of}
use Rattle.atac_commands.specs.Readings.{are_exact}
use Rattle.atac_commands.proofs.Sums.{if_ok, met_same, counts_same, exact_same}
use Rattle.atac_commands.proofs.telling.view_of.Goals as goal

pub returns-in_ok-facts-in-Report : goal.returns-in_ok-facts-in-Report
returns-in_ok-facts-in-Report c =
    if_ok c.report.result _ _ (λ told h. λ digest ts s. rw c.in-Report.is (h ∙ ap (report_text c.args.items.now) (met_same digest ts c.args.sum s c.in_ok-facts-in-Report.facts c.in_ok-facts-in-Report.ensures))) c.report.ensures

pub returns-in_ok-facts-in-Show : goal.returns-in_ok-facts-in-Show
returns-in_ok-facts-in-Show c =
    if_ok c.show.result _ _ (λ told h. λ digest ts s. rw c.in-Show.is (h ∙ ap (show_text c.args.text.now c.args.items.now) (met_same digest ts c.args.sum s c.in_ok-facts-in-Show.facts c.in_ok-facts-in-Show.ensures))) c.show.ensures

pub returns-in_ok-tally-in-Hits : goal.returns-in_ok-tally-in-Hits
returns-in_ok-tally-in-Hits c =
    if_ok c.hits.result _ _ (λ told h. λ digest ts s. rw c.in-Hits.is
    (h ∙ ap (λ n. hits_text (c.args.sum.old_runs == 0) c.args.items.now (count_of n)) c.in_ok-tally-in-Hits.ensures ∙ ap (λ b. hits_text b c.args.items.now (count_of c.args.sum.tally)) (exact_same digest ts c.args.sum s)
    ∙ ap (hits_text (are_exact ts) c.args.items.now) (counts_same digest ts c.args.sum s))) c.hits.ensures

pub returns-in_ok-facts-in-Json : goal.returns-in_ok-facts-in-Json
returns-in_ok-facts-in-Json c =
    if_ok c.json_line.result _ _ (λ told h. λ digest ts s. rw c.in-Json.is (h ∙ ap (λ f. compact_text (json_of c.args.items.now f) ++ 10 ∷ []) (met_same digest ts c.args.sum s c.in_ok-facts-in-Json.facts c.in_ok-facts-in-Json.ensures))) c.json_line.ensures
