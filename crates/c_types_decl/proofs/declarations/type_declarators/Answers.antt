use Rattle.std.proofs.Common.{◌<◌, length, sym, ◌∙◌, arith}
use Rattle.std.proofs.lemmas.List.{length-set}
use Rattle.c_types_decl.proofs.Lists.{declarators_next, declarators_state, declarators_done}
use Rattle.c_types_decl.proofs.declarations.type_declarators.Goals as goal

pub loop-i-preserved : goal.loop-i-preserved
loop-i-preserved c =
    let xs = c.loop-i.names.items in
    let h : c.loop-i.i < length xs = omega arith in
    let r = c.index_mut.ensures.value in
    let m = c.in_ok-type_declarator.ensures in
    record {
      tree = declarators_next _ xs c.loop-i.i _ _ _ _ _ h r m.state c.step.ensures m.tree ∙ c.loop-i.invariant.tree;
      state = declarators_state _ xs c.loop-i.i _ _ _ _ _ h r m.state c.step.ensures ∙ c.loop-i.invariant.state;
      count = length-set xs _ _ ∙ c.loop-i.invariant.count;
    }

pub returns-clause-tree : goal.returns-clause-tree
returns-clause-tree c = sym (declarators_done _ _ _ _ (omega arith)) ∙ c.loop-i.invariant.tree
