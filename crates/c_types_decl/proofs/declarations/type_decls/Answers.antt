use Rattle.std.proofs.Common.{◌<◌, length, sym, ◌∙◌, arith}
use Rattle.std.proofs.lemmas.List.{length-set}
use Rattle.c_types_decl.proofs.Lists.{decls_next, decls_state, decls_done}
use Rattle.c_types_decl.proofs.declarations.type_decls.Goals as goal

pub loop-i-preserved : goal.loop-i-preserved
loop-i-preserved c =
    let xs = c.loop-i.decls.items in
    let h : c.loop-i.i < length xs = omega arith in
    let r = c.index_mut.ensures.value in
    let m = c.in_ok-type_decl.ensures in
    record {
      tree = decls_next xs c.loop-i.i _ _ _ _ h r m.state m.tree ∙ c.loop-i.invariant.tree;
      state = decls_state xs c.loop-i.i _ _ _ _ h r m.state ∙ c.loop-i.invariant.state;
      count = length-set xs _ _ ∙ c.loop-i.invariant.count;
    }

pub returns-clause-tree : goal.returns-clause-tree
returns-clause-tree c = sym (decls_done _ _ _ (omega arith)) ∙ c.loop-i.invariant.tree
