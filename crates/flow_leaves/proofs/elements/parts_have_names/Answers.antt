use Rattle.flow_leaves.proofs.Layers as layers
use Rattle.flow_leaves.proofs.elements.parts_have_names.Goals as goal

pub returns : goal.returns
returns c = layers.parts_have_names
