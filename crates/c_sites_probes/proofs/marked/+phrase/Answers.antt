use Rattle.std.proofs.Common.{sym}
use Rattle.c_syntax.proofs.Made.{nodes_made, inits_made, members_made, rows_made}
use Rattle.c_sites_probes.proofs.marked.+phrase.Goals as goal

pub form_mark-returns-in-Call : goal.form_mark-returns-in-Call
form_mark-returns-in-Call t c = rw (c.in-Call.is, nodes_made c.in-Call.args, sym c.deref.ensures.value) c.nodes_mark.ensures

pub init_mark-returns-in-List : goal.init_mark-returns-in-List
init_mark-returns-in-List t c = rw (c.in-List.is, inits_made c.in-List.list, sym c.deref.ensures.value) c.inits_mark.ensures

pub spec_mark-returns-in-Some : goal.spec_mark-returns-in-Some
spec_mark-returns-in-Some t c = rw (c.in-Struct.is, members_made c.in-Struct.decls, c.in-Some.is, sym c.deref.ensures.value) c.struct_mark.ensures

pub spec_mark-returns-in-Some-enumers : goal.spec_mark-returns-in-Some-enumers
spec_mark-returns-in-Some-enumers t c = rw (c.in-Enum.is, rows_made c.in-Enum.enumers, c.in-Some-enumers.is, sym c.deref-in-Some-enumers.ensures.value) c.enum_mark.ensures
