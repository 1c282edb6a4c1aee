use Rattle.std.proofs.Common.{sym}
use Rattle.c_syntax.proofs.Made.{params_made}
use Rattle.probe_in.proofs.defining.defined_params.Goals as goal

pub returns-in_ok-defined_param_list-in-List : goal.returns-in_ok-defined_param_list-in-List
returns-in_ok-defined_param_list-in-List c = rw (c.in-List.is, params_made c.in-List.list, sym c.deref.ensures.value) c.in_ok-defined_param_list-in-List.ensures
