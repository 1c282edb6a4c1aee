use Rattle.std.proofs.Common.{◌≡◌, length, take}
use Rattle.c_sites_probes.specs.Owners.{AreOwners}
use Rattle.c_sites_probes.proofs.owners.owners_of.Given as goal

-- the rows have the owners that are found so far
abbrev pub invariant-loop-owned : goal.invariant-loop-owned
invariant-loop-owned l = record {
  whole : length l.rows.items ≡ 65536;
  owners : AreOwners (take l.owned-index l.found) l.rows.items;
}
