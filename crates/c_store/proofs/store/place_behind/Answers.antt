use Rattle.std.proofs.Common.{◌∙◌, ap, arith}
use Rattle.c_store.specs.declared.instance.Instance.{Instance}
use Rattle.c_store.proofs.Places.{stands_at}
use Rattle.c_store.proofs.store.place_behind.Goals as goal

pub returns-then-instances-near : goal.returns-then-instances-near
returns-then-instances-near c = stands_at c.requires.0 c.args.number c.args.instances.now _ c.index-instances-near.result c.requires.1 (omega (arith, c.if-count-eq0.false)) c.index-instances-near.is (ap (λ (q : Instance). q.number) c.index-instances-near.is ∙ c.if-instances-near.true)
