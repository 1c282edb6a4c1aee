use Rattle.std.proofs.Common.{◌≡◌, ℕ, ◌<◌, Contains, slice_index_or}
use Rattle.c_tree.specs.declared.meaning.Complaint.{Complaint}
use Rattle.c_tree.specs.Units.{comes_before}
use Rattle.c_tree.proofs.complaints.first.Given as goal

abbrev pub invariant-loop-i : goal.invariant-loop-i
invariant-loop-i l = record {
  one : Contains l.complaints l.best;
  first : (k : ℕ) (d : Complaint) → k < l.i → comes_before l.best (slice_index_or l.complaints k d);
}
