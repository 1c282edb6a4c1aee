use Rattle.std.proofs.Common.{◌+◌, ◌*◌}
use Rattle.c_eval_direct.specs.Direct.{parts}
use Rattle.c_eval_direct.proofs.values.+values.Given as goal

abbrev pub decreases-evaluate : goal.decreases-evaluate
decreases-evaluate a = 8 * parts a.node.now.form + 6

abbrev pub decreases-value_with : goal.decreases-value_with
decreases-value_with a = 8 * parts a.node.now.form + 7

abbrev pub decreases-read : goal.decreases-read
decreases-read a = 8 * parts a.node.now.form + 5

abbrev pub decreases-direct_place : goal.decreases-direct_place
decreases-direct_place a = 8 * parts a.node.now.form + 4

abbrev pub decreases-truth : goal.decreases-truth
decreases-truth a = 8 * parts a.node.now.form + 8

abbrev pub decreases-met : goal.decreases-met
decreases-met a = 8 * (parts a.a.now.form + parts a.b.now.form) + 9

abbrev pub decreases-both : goal.decreases-both
decreases-both a = 8 * (parts a.a.now.form + parts a.b.now.form) + 10

abbrev pub decreases-either : goal.decreases-either
decreases-either a = 8 * (parts a.a.now.form + parts a.b.now.form) + 10

abbrev pub decreases-element : goal.decreases-element
decreases-element a = 8 * (parts a.a.now.form + parts a.b.now.form) + 9

abbrev pub decreases-assigned : goal.decreases-assigned
decreases-assigned a = 8 * (parts a.a.now.form + parts a.b.now.form) + 9

abbrev pub decreases-changed : goal.decreases-changed
decreases-changed a = 8 * (parts a.a.now.form + parts a.b.now.form) + 9

abbrev pub decreases-turned : goal.decreases-turned
decreases-turned a = 8 * parts a.a.now.form + 9

abbrev pub decreases-pointed : goal.decreases-pointed
decreases-pointed a = 8 * parts a.a.now.form + 9

abbrev pub decreases-stepped : goal.decreases-stepped
decreases-stepped a = 8 * parts a.a.now.form + 9

abbrev pub decreases-entered : goal.decreases-entered
decreases-entered a = 8 * parts a.a.now.form + 9

abbrev pub decreases-judged : goal.decreases-judged
decreases-judged a = 8 * parts a.a.now.form + 9
