use Rattle.std.proofs.Common.{◌<◌, length, map, sym, ◌∙◌, arith}
use Rattle.std.proofs.lemmas.List.{length-set}
use Rattle.c_checker.specs.CheckerView.{state_of}
use Rattle.c_types_decl.specs.GivenView.{parameter_of}
use Rattle.c_types_decl.proofs.Lists.{params_next, params_given, params_state, params_done, all_given}
use Rattle.c_types_decl.proofs.signatures.type_list.Goals as goal

pub loop-i-preserved : goal.loop-i-preserved
loop-i-preserved c =
    let xs = c.loop-i.params.items in
    let h : c.loop-i.i < length xs = omega arith in
    let r = c.index_mut.ensures.value in
    let m = c.in_ok-type_item.ensures in
    record {
      tree = params_next _ xs c.loop-i.i _ _ _ _ _ h r m.state c.step.ensures m.tree ∙ c.loop-i.invariant.tree;
      given = params_given _ xs c.loop-i.i _ _ _ _ _ h r m.state c.step.ensures _ _ m.given ∙ c.loop-i.invariant.given;
      state = params_state _ xs c.loop-i.i _ _ _ _ _ h r m.state c.step.ensures ∙ c.loop-i.invariant.state;
      count = length-set xs _ _ ∙ c.loop-i.invariant.count;
    }

pub returns-clause-tree : goal.returns-clause-tree
returns-clause-tree c = sym (params_done c.args.defining c.loop-i.params.items c.loop-i.i (state_of c.loop-i.checker) (omega arith)) ∙ c.loop-i.invariant.tree

pub returns-clause-given : goal.returns-clause-given
returns-clause-given c = sym (all_given c.args.defining c.loop-i.params.items c.loop-i.i (map parameter_of c.loop-i.given.items) (state_of c.loop-i.checker) (omega arith)) ∙ c.loop-i.invariant.given
