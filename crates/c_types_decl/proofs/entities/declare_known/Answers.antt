use Rattle.std.proofs.Common.{ap, map}
use Rattle.c_syntax.specs.View.{type_of}
use Rattle.c_types_decl.proofs.Parts.{known_state}
use Rattle.c_types_decl.proofs.entities.declare_known.Goals as goal

pub returns-clause-state : goal.returns-clause-state
returns-clause-state c =
    known_state c.args.defining c.args.token c.args.pos _ _ (type_of c.args.gives) (map type_of c.args.params.items) _ _ _ _ _ _ _ c.bytes_of-name.ensures.bytes (ap (map type_of) c.deref.ensures.value) c.builtin_of-builtin.ensures c.in_ok-number.ensures.number c.in_ok-number.ensures.state c.entity_or.ensures c.in_ok-function_at.ensures
