use Rattle.std.proofs.Common.{◌∙◌}
use Rattle.probe_in.proofs.Functions.{variable_defined}
use Rattle.probe_in.proofs.defining.defined_variable.Goals as goal

pub returns : goal.returns
returns c t f ls e =
    variable_defined t f _ _ _ _ _ _ _ ls _ _ _ c.in_ok-made.ensures (c.in_ok-stars.ensures ∙ c.deref.ensures.value) c.in_ok-named.ensures (c.in_ok-form.ensures ∙ e) c.in_ok-init.ensures c.in_ok-def.ensures
