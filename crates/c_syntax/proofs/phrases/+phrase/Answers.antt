use Rattle.std.proofs.Common.{arith, sym}
use Rattle.std.proofs.lemmas.Grind.{common_steps}
use Rattle.c_syntax.specs.View.{node_shape, probe_shape}
use Rattle.c_syntax.specs.Grammar.{node_form}
use Rattle.c_syntax.proofs.Made.{nodes_made, inits_made, members_made, rows_made}
use Rattle.c_syntax.proofs.Fronts.{probe_split}
use Rattle.c_syntax.proofs.phrases.+phrase.Goals as goal

pub put_node-returns-in-Call : goal.put_node-returns-in-Call
put_node-returns-in-Call t c = rw (c.in-Call.is, nodes_made c.in-Call.args, sym c.deref-in-Call.ensures.value) c.put_call.ensures

pub put_node-returns-in_ok-put_front-in-Probe : goal.put_node-returns-in_ok-put_front-in-Probe
put_node-returns-in_ok-put_front-in-Probe t c =
    let split = probe_split c.args.node.now.op (probe_shape c.in-Probe.probe) (node_form (node_shape c.in-Probe.a.value)) in
    rw (c.in-Probe.is, split) (grind (arith, common_steps))

pub put_front-returns-in-Select : goal.put_front-returns-in-Select
put_front-returns-in-Select t c = rw (c.in-Select.is, nodes_made c.in-Select.cases, sym c.deref.ensures.value) c.put_select.ensures

pub put_init-returns-in-List : goal.put_init-returns-in-List
put_init-returns-in-List t c = rw (c.in-List.is, inits_made c.in-List.list, sym c.deref.ensures.value) c.put_init_list.ensures

pub put_spec-returns-in-Some : goal.put_spec-returns-in-Some
put_spec-returns-in-Some t c = rw (c.in-Struct.is, members_made c.in-Struct.decls, c.in-Some.is, sym c.deref.ensures.value) (grind (arith, common_steps))

pub put_spec-returns-in-Some-enumers : goal.put_spec-returns-in-Some-enumers
put_spec-returns-in-Some-enumers t c = rw (c.in-Enum.is, rows_made c.in-Enum.enumers, c.in-Some-enumers.is, sym c.deref-in-Some-enumers.ensures.value) (grind (arith, common_steps))
