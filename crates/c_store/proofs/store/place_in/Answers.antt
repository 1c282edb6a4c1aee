use Rattle.std.proofs.Common.{◌∙◌, ap}
use Rattle.c_store.specs.declared.instance.Instance.{Instance}
use Rattle.c_store.proofs.Places.{stands_at}
use Rattle.c_store.proofs.store.place_in.Goals as goal

pub returns-then-instances-first : goal.returns-then-instances-first
returns-then-instances-first c = stands_at c.requires.0 c.args.number c.args.instances.now _ c.index-instances-first.result c.requires.1 c.if-first-instances.true c.index-instances-first.is (ap (λ (q : Instance). q.number) c.index-instances-first.is ∙ c.if-instances-first.true)
