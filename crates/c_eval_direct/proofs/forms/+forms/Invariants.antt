use Rattle.std.proofs.Common.{◌+◌, ◌*◌}
use Rattle.c_eval_direct.proofs.forms.+forms.Given as goal

abbrev pub decreases-is_direct : goal.decreases-is_direct
decreases-is_direct a = 3 * a.levels + 1

abbrev pub decreases-is_direct_place : goal.decreases-is_direct_place
decreases-is_direct_place a = 3 * a.levels

abbrev pub decreases-is_direct_probe : goal.decreases-is_direct_probe
decreases-is_direct_probe a = 3 * a.levels + 2

abbrev pub decreases-is_composed : goal.decreases-is_composed
decreases-is_composed a = 3 * a.levels
