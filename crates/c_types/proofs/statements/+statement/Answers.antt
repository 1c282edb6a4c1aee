use Rattle.std.proofs.Common.{arith, rules, ap, ◌∙◌}
use Rattle.c_type_rules.specs.Kinds.{type_in}
use Rattle.std.specs.declared.boxed.Box.{Box}
use Rattle.std.specs.declared.alloc.Global.{Global}
use Rattle.c_syntax.specs.declared.tree.Stmt.{Stmt}
use Rattle.c_syntax.proofs.Open.{switch_open}
use Rattle.c_types.proofs.Compounds.{half_weight, compound_tree, compound_state}
use Rattle.c_types.proofs.Forms.{moved, moved_both, while_form, do_form, switch_form, switch_weight}
use Rattle.c_types.proofs.Listed.{none_before, next_item, rest_weight, items_done}
use Rattle.c_tree.specs.Stating.{TypedBody, TypedItems}
use Rattle.c_checker.specs.CheckerView.{state_of}
use Rattle.c_types.specs.Around.{around}
use Rattle.c_types.proofs.statements.+statement.Goals as goal

pub type_compound-type_items-requires : goal.type_compound-type_items-requires
type_compound-type_items-requires t c = (omega (arith, half_weight, c.decreases), tt)

pub type_compound-returns-clause-tree : goal.type_compound-returns-clause-tree
type_compound-returns-clause-tree t c = compound_tree (around c.args.jumps (type_in c.args.gives.now)) c.args.body.now _ c.type_items.new.items (state_of c.args.checker.now) (state_of c.step.new.self) _ (state_of c.type_items.new.checker) c.step.ensures c.in_ok-type_decls.ensures.tree c.in_ok-type_decls.ensures.state c.in_ok-type_items.ensures.tree

pub type_compound-returns-clause-state : goal.type_compound-returns-clause-state
type_compound-returns-clause-state t c = c.step-2.ensures ∙ compound_state (around c.args.jumps (type_in c.args.gives.now)) c.args.body.now _ c.type_items.new.items (state_of c.args.checker.now) (state_of c.step.new.self) _ (state_of c.type_items.new.checker) c.step.ensures c.in_ok-type_decls.ensures.tree c.in_ok-type_decls.ensures.state c.in_ok-type_items.ensures.state

pub type_form-type_switch-requires : goal.type_form-type_switch-requires
type_form-type_switch-requires t c = let w = switch_weight c.args.form.now c.in-Switch.test c.in-Switch.items _ c.in-Switch.is c.in-Switch.items-is in (omega (arith, w, c.decreases), tt)

pub type_form-returns-in-While-clause-tree : goal.type_form-returns-in-While-clause-tree
type_form-returns-in-While-clause-tree t c =
    moved c.type_while.result (λ (b : TypedBody). b.form) _ _ _ (while_form (around c.args.jumps (type_in c.args.gives.now)) c.args.pos c.args.form.now (state_of c.args.checker.now) c.in-While.test _ c.in-While.body _ c.in-While.is c.in-While.test-is (c.deref_mut-in-While.ensures.value ∙ ap (λ (b : Box Stmt Global). b.value) c.in-While.body-is)) c.type_while.ensures.tree

pub type_form-returns-in-While-clause-state : goal.type_form-returns-in-While-clause-state
type_form-returns-in-While-clause-state t c =
    moved c.type_while.result (λ (b : TypedBody). b.state) _ _ _ (while_form (around c.args.jumps (type_in c.args.gives.now)) c.args.pos c.args.form.now (state_of c.args.checker.now) c.in-While.test _ c.in-While.body _ c.in-While.is c.in-While.test-is (c.deref_mut-in-While.ensures.value ∙ ap (λ (b : Box Stmt Global). b.value) c.in-While.body-is)) c.type_while.ensures.state

pub type_form-returns-in-Do-clause-state : goal.type_form-returns-in-Do-clause-state
type_form-returns-in-Do-clause-state t c =
    moved c.type_do.result (λ (b : TypedBody). b.state) _ _ _ (do_form (around c.args.jumps (type_in c.args.gives.now)) c.args.pos c.args.form.now (state_of c.args.checker.now) c.in-Do.test _ c.in-Do.body _ c.in-Do.is c.in-Do.test-is (c.deref_mut-in-Do.ensures.value ∙ ap (λ (b : Box Stmt Global). b.value) c.in-Do.body-is)) c.type_do.ensures.state

pub type_form-returns-in-Switch-clause-tree : goal.type_form-returns-in-Switch-clause-tree
type_form-returns-in-Switch-clause-tree t c =
    moved_both c.type_switch.result (λ (b : TypedBody). b.form) _ _ _ _ (switch_open c.type_switch.new.test c.type_switch.new.items) (switch_form (around c.args.jumps (type_in c.args.gives.now)) c.args.pos c.args.form.now (state_of c.args.checker.now) c.in-Switch.test _ c.in-Switch.items _ c.in-Switch.is c.in-Switch.test-is c.in-Switch.items-is) c.type_switch.ensures.tree

pub type_form-returns-in-Switch-clause-state : goal.type_form-returns-in-Switch-clause-state
type_form-returns-in-Switch-clause-state t c =
    moved c.type_switch.result (λ (b : TypedBody). b.state) _ _ _ (switch_form (around c.args.jumps (type_in c.args.gives.now)) c.args.pos c.args.form.now (state_of c.args.checker.now) c.in-Switch.test _ c.in-Switch.items _ c.in-Switch.is c.in-Switch.test-is c.in-Switch.items-is) c.type_switch.ensures.state

pub type_items-loop-i-init : goal.type_items-loop-i-init
type_items-loop-i-init t c = record { same = none_before _; left = omega arith; count = search rules }

pub type_items-loop-i-preserved : goal.type_items-loop-i-preserved
type_items-loop-i-preserved t c = record {
  same = next_item c.loop-i.items.items c.loop-i.i c.index_mut.result.now c.type_item.new.item (omega arith) _ _ _ _ _ _ c.index_mut.ensures.value c.in_ok-type_item.ensures.labelled c.in_ok-type_item.ensures.stmt c.in_ok-type_item.ensures.labels c.in_ok-type_item.ensures.state c.loop-i.invariant.same;
  left = rest_weight c.loop-i.items.items c.loop-i.i c.index_mut.result.now c.type_item.new.item (omega arith) c.index_mut.ensures.value _ c.loop-i.invariant.left;
  count = search rules;
}

pub type_items-returns-clause-tree : goal.type_items-returns-clause-tree
type_items-returns-clause-tree t c = ap (λ (r : TypedItems). r.items) (items_done c.loop-i.items.items c.loop-i.i _ _ _ _ (omega arith) c.loop-i.invariant.same)

pub type_items-returns-clause-state : goal.type_items-returns-clause-state
type_items-returns-clause-state t c = ap (λ (r : TypedItems). r.state) (items_done c.loop-i.items.items c.loop-i.i _ _ _ _ (omega arith) c.loop-i.invariant.same)
