-- The bytes, with their digest behind them.
use Rattle.std.proofs.Common.{◌-◌, leb, length, List, sym, ap, ◌∙◌}
use Rattle.std.specs.List.{sum_by}
use Rattle.atac_facts.specs.declared.tally.Counted.{Counted}
use Rattle.trace_file.proofs.Lengths.{few_rows, enough, too_much, too_small, size_of, written_so}
use Rattle.trace_file.proofs.writing.encode_rows.Goals as goal

pub returns-then-most-lt94-clause-much : goal.returns-then-most-lt94-clause-much
returns-then-most-lt94-clause-much c = λ is. too_small c.args.trace.now c.args.most (ap length (sym c.digest_of.ensures.value) ∙ c.digest_of.ensures.len) c.if-most-lt94.true

pub returns-then-not-may_take-clause-much : goal.returns-then-not-may_take-clause-much
returns-then-not-may_take-clause-much c = λ is.
    let F = λ (rows : List Counted). leb (sum_by size_of rows) (c.args.most - 94) in
    too_much c.args.trace.now c.args.most c.may_take.result (ap length (sym c.digest_of.ensures.value) ∙ c.digest_of.ensures.len) c.if-most-lt94.false c.if-not-may_take.true (c.may_take.ensures ∙ ap F c.requires.same)

pub put_all-requires-clause-few : goal.put_all-requires-clause-few
put_all-requires-clause-few c =
    let F = λ (rows : List Counted). leb (sum_by size_of rows) (c.args.most - 94) in
    rw c.requires.same (few_rows c.args.trace.now.tally c.args.most c.may_take.result c.if-not-may_take.false (c.may_take.ensures ∙ ap F c.requires.same) c.requires.most)

pub returns-clause-spells : goal.returns-clause-spells
returns-clause-spells c =
    let F = λ (rows : List Counted). leb (sum_by size_of rows) (c.args.most - 94) in
    written_so _ c.args.trace.now c.in_ok-bytes.ensures (few_rows c.args.trace.now.tally c.args.most c.may_take.result c.if-not-may_take.false (c.may_take.ensures ∙ ap F c.requires.same) c.requires.most)

pub returns-clause-few : goal.returns-clause-few
returns-clause-few c =
    let F = λ (rows : List Counted). leb (sum_by size_of rows) (c.args.most - 94) in
    enough c.args.trace.now c.args.most c.may_take.result (ap length (sym c.digest_of.ensures.value) ∙ c.digest_of.ensures.len) c.if-most-lt94.false c.if-not-may_take.false (c.may_take.ensures ∙ ap F c.requires.same)
