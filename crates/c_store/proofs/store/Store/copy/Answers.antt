use Rattle.std.proofs.Common.{◌≡◌, ◌∙◌, length, List, subst, arith}
use Rattle.std.proofs.lemmas.List.{with_items_is}
use Rattle.c_store.specs.declared.instance.Instance.{Instance}
use Rattle.c_store.proofs.Copied.{Copied, copy_done}
use Rattle.c_store.proofs.store.Store.copy.Goals as goal

pub invariant_of-self : goal.invariant_of-self
invariant_of-self c =
    let copied : Copied c.self.inside.instances.items c.copy_cells.new.instances c.args.from c.args.to = subst (λ (all : List Instance). Copied all c.copy_cells.new.instances c.args.from c.args.to) c.deref_mut.ensures.value c.copy_cells.ensures in
    let d = copy_done c.args.self.now c.self.inside.most c.self.inside.count c.self.inside.instances.items c.copy_cells.new.instances c.args.from c.args.to c.in_ok-i.i c.in_ok-j.j c.index.result.now c.self.view_is c.in_ok-i.ensures.element c.in_ok-j.ensures.element c.requires copied c.index.ensures c.if-not-index.false c.self.invariant.0 in
    let same : length c.copy_cells.new.instances ≡ c.self.inside.instances.len = omega (arith, c.copy_cells.auto.instances, c.deref_mut.ensures.len) in
    rw (with_items_is c.self.inside.instances c.copy_cells.new.instances same) (d.ascending, c.self.invariant.1 ∙ d.counted, c.self.invariant.2, c.self.invariant.3)

pub returns-clause-is : goal.returns-clause-is
returns-clause-is c =
    let copied : Copied c.self.inside.instances.items c.copy_cells.new.instances c.args.from c.args.to = subst (λ (all : List Instance). Copied all c.copy_cells.new.instances c.args.from c.args.to) c.deref_mut.ensures.value c.copy_cells.ensures in
    let d = copy_done c.args.self.now c.self.inside.most c.self.inside.count c.self.inside.instances.items c.copy_cells.new.instances c.args.from c.args.to c.in_ok-i.i c.in_ok-j.j c.index.result.now c.self.view_is c.in_ok-i.ensures.element c.in_ok-j.ensures.element c.requires copied c.index.ensures c.if-not-index.false c.self.invariant.0 in
    let same : length c.copy_cells.new.instances ≡ c.self.inside.instances.len = omega (arith, c.copy_cells.auto.instances, c.deref_mut.ensures.len) in
    rw (with_items_is c.self.inside.instances c.copy_cells.new.instances same) d.done
