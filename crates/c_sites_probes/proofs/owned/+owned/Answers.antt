use Rattle.std.proofs.Common.{sym}
use Rattle.c_syntax.proofs.Made.{nodes_made, inits_made, members_made, rows_made}
use Rattle.c_sites_probes.proofs.owned.+owned.Goals as goal

pub own_form-returns-in-Call : goal.own_form-returns-in-Call
own_form-returns-in-Call t c = rw (c.in-Call.is, nodes_made c.in-Call.args, sym c.deref.ensures.value) c.own_nodes.ensures

pub own_init-returns-in-List : goal.own_init-returns-in-List
own_init-returns-in-List t c = rw (c.in-List.is, inits_made c.in-List.list, sym c.deref.ensures.value) c.own_inits.ensures

pub own_spec-returns-in-Some : goal.own_spec-returns-in-Some
own_spec-returns-in-Some t c = rw (c.in-Struct.is, members_made c.in-Struct.decls, c.in-Some.is, sym c.deref.ensures.value) c.own_decls.ensures

pub own_spec-returns-in-Some-enumers : goal.own_spec-returns-in-Some-enumers
own_spec-returns-in-Some-enumers t c = rw (c.in-Enum.is, rows_made c.in-Enum.enumers, c.in-Some-enumers.is, sym c.deref-in-Some-enumers.ensures.value) c.own_enumers.ensures

pub own_constants-returns-in-Select : goal.own_constants-returns-in-Select
own_constants-returns-in-Select t c = rw (c.in-Select.is, nodes_made c.in-Select.cases, sym c.deref.ensures.value) c.own_nodes.ensures
