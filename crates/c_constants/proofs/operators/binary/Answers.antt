use Rattle.c_constants.proofs.Held.{result_held}
use Rattle.c_constants.proofs.operators.binary.Goals as goal

pub given-requires : goal.given-requires
given-requires c = record {
  held = result_held c.args.op c.in-Some-Some.left c.in-Some-Some.right c.result_kind.result c.computing_kind-kind.result c.computed-computed.result c.computing_kind-kind.ensures.value c.result_kind.ensures c.computed-computed.ensures.held c.computed-computed.ensures.truth;
}
