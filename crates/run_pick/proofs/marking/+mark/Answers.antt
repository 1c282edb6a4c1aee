-- The marks of no fresh fact, of one run, and of two halves.
use Rattle.std.proofs.lemmas.List.{nil_from_length}
use Rattle.std.proofs.lemmas.Grind.{common_steps}
use Rattle.std.proofs.Common.{arith}
use Rattle.atac_facts.specs.Sets.{holds}
use Rattle.run_pick.proofs.Halves.{marks_none, taken_none, marks_one, taken_one, only_one, halves, marks_halves, taken_halves}
use Rattle.run_pick.proofs.marking.+mark.Goals as goal

pub returns-then-is_empty-clause-marks : goal.returns-then-is_empty-clause-marks
returns-then-is_empty-clause-marks t c = marks_none _ _ _ _ _ (nil_from_length _ (grind (arith, common_steps))) c.in_ok-drop_all.ensures

pub returns-then-is_empty-clause-taken : goal.returns-then-is_empty-clause-taken
returns-then-is_empty-clause-taken t c = λ fact. taken_none (holds c.args.taken.now) _ c.args.runs.now fact (nil_from_length _ (grind (arith, common_steps)))

pub returns-in_ok-mark_one-in-len1-clause-marks : goal.returns-in_ok-mark_one-in-len1-clause-marks
returns-in_ok-mark_one-in-len1-clause-marks t c =
    marks_one _ _ _ _ _ _ _ (only_one _ _ c.in-len1.len_at_least c.in-len1.len_below c.run-item.is) c.deref.ensures.value c.in_ok-mark_one-in-len1.ensures.mark

pub returns-in_ok-mark_one-in-len1-clause-taken : goal.returns-in_ok-mark_one-in-len1-clause-taken
returns-in_ok-mark_one-in-len1-clause-taken t c =
    taken_one (holds c.args.taken.now) (holds c.mark_one.new.taken) _ _ _ _ (only_one _ _ c.in-len1.len_at_least c.in-len1.len_below c.run-item.is) c.deref.ensures.value c.in_ok-mark_one-in-len1.ensures.taken

pub returns-in_ok-mark-in_default-2-clause-marks : goal.returns-in_ok-mark-in_default-2-clause-marks
returns-in_ok-mark-in_default-2-clause-marks t c =
    marks_halves _ _ _ _ _ _ _ _ _ (record {
      parts = halves _ _ _ _ c.split_at.ensures.front c.split_at.ensures.back;
      same = c.deref-in_default.ensures.value;
      inside_is = c.in_ok-parted-in_default.ensures.inside;
      outside_is = c.in_ok-parted-in_default.ensures.outside;
      between_is = c.in_ok-mark-in_default.ensures.taken;
    }) _ _ _ c.in_ok-mark-in_default.ensures.marks c.in_ok-mark-in_default-2.ensures.marks

pub returns-in_ok-mark-in_default-2-clause-taken : goal.returns-in_ok-mark-in_default-2-clause-taken
returns-in_ok-mark-in_default-2-clause-taken t c =
    taken_halves (holds c.args.taken.now) (holds c.mark.new.taken) _ _ _ _ _ _ _ (record {
      parts = halves _ _ _ _ c.split_at.ensures.front c.split_at.ensures.back;
      same = c.deref-in_default.ensures.value;
      inside_is = c.in_ok-parted-in_default.ensures.inside;
      outside_is = c.in_ok-parted-in_default.ensures.outside;
      between_is = c.in_ok-mark-in_default.ensures.taken;
    }) _ c.in_ok-mark-in_default-2.ensures.taken
