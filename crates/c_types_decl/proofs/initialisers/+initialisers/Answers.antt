use Rattle.std.proofs.Common.{rules, map, sym, ap, ◌∙◌, arith}
use Rattle.c_syntax.specs.View.{type_of}
use Rattle.c_tree.specs.Initialisers.{TypedInits}
use Rattle.c_checker.specs.CheckerView.{state_of}
use Rattle.c_types_decl.specs.SlotsView.{type_behind, slots_of}
use Rattle.c_types_decl.proofs.Items.{next_item, items_end}
use Rattle.c_types_decl.proofs.Listed.{list_typed, list_in_place, behind_brace}
use Rattle.c_types_decl.proofs.initialisers.+initialisers.Goals as goal

pub type_for-returns-in_ok-type_list-in-List-clause-tree :
    goal.type_for-returns-in_ok-type_list-in-List-clause-tree
type_for-returns-in_ok-type_list-in-List-clause-tree t c =
    list_in_place c.args.constant (type_behind c.args.kind) c.args.init.now c.in-List.pos _ c.in-List.items c.type_list.new.items c.in-List.last _ (state_of c.args.checker.now) c.in-List.is c.in-List.pos-is c.in-List.last-is (search rules)

pub type_for-returns-in_ok-type_list-in-List-clause-state :
    goal.type_for-returns-in_ok-type_list-in-List-clause-state
type_for-returns-in_ok-type_list-in-List-clause-state t c =
    let e = list_typed c.args.constant (type_behind c.args.kind) c.args.init.now c.in-List.pos c.in-List.items c.in-List.last (state_of c.args.checker.now) c.in-List.is in
    rw e (search rules)

pub type_items-loop-i-preserved : goal.type_items-loop-i-preserved
type_items-loop-i-preserved t c = record {
  typed = next_item c.loop-i.items.items c.loop-i.i c.index_mut-item.result.now c.type_for.new.init c.init_pos.result (type_behind c.kind.result) (slots_of c.loop-i.slots) (slots_of c.further-slots.result) (state_of c.loop-i.checker) (state_of c.judge_slot.new.checker) (state_of c.type_for.new.checker) (state_of c.step.new.self) (omega arith) c.index_mut-item.ensures.value c.init_pos.ensures c.in_ok-judge_slot.ensures c.kind.ensures c.in_ok-type_for.ensures.tree c.in_ok-type_for.ensures.state c.step.ensures c.further-slots.ensures ∙ c.loop-i.invariant.typed;
  unvisited = search rules;
}

pub type_items-returns-clause-tree : goal.type_items-returns-clause-tree
type_items-returns-clause-tree t c =
    let e = items_end c.loop-i.items.items c.loop-i.i (slots_of c.loop-i.slots) (state_of c.loop-i.checker) (omega arith) in
    ap (λ (r : TypedInits). r.inits) (sym e ∙ c.loop-i.invariant.typed)

pub type_list-returns : goal.type_list-returns
type_list-returns t c =
    let e = behind_brace (type_behind c.args.kind) (map type_of c.deref.result.now) c.len.result c.args.items.now.items c.args.pos (slots_of c.slots_with.result) (state_of c.args.checker.now) (state_of c.judge_list.new.checker) (state_of c.step.new.self) (search rules) (search rules) c.in_ok-judge_list.ensures c.step.ensures c.slots_with.ensures in
    record {
      tree = c.in_ok-type_items.ensures.tree ∙ ap (λ (r : TypedInits). r.inits) e;
      state = c.in_ok-type_items.ensures.state ∙ ap (λ (r : TypedInits). r.state) e;
    }
