-- Two points of an ordered list.
use Rattle.std.proofs.Common.{rules}
use Rattle.std.specs.Prelude.{nat_lt, nat_le}
use Rattle.std.proofs.lemmas.List.Sorted.{IsPartitionPoint-from_clause, IsPartitionedBy-ltb, IsPartitionedBy-leb}
use Rattle.cover_parts.specs.declared.pending.Wait.{Wait}
use Rattle.cover_parts.proofs.Order.{bounds_from}
use Rattle.cover_parts.proofs.pending.bounds.Goals as goal

pub returns : goal.returns
returns c =
    let low = IsPartitionPoint-from_clause (λ (w : Wait). nat_lt w.activation c.args.activation) c.args.waits.now c.partition_point-low.result c.partition_point-low.ensures.partitioned (IsPartitionedBy-ltb (λ (w : Wait). w.activation) c.args.waits.now c.args.activation c.requires) (λ a r q k. search rules) in
    let high = IsPartitionPoint-from_clause (λ (w : Wait). nat_le w.activation c.args.activation) c.args.waits.now c.partition_point-high.result c.partition_point-high.ensures.partitioned (IsPartitionedBy-leb (λ (w : Wait). w.activation) c.args.waits.now c.args.activation c.requires) (λ a r q k. search rules) in
    bounds_from c.args.activation c.args.waits.now c.partition_point-low.result c.partition_point-high.result c.partition_point-low.ensures.bound c.partition_point-high.ensures.bound low high
