use Rattle.links.proofs.of_seal.SealedFrames.{tag_inputs, key_inputs}
use Rattle.links.proofs.seal.theorems.inputs_are_told_apart.Goals as goal

pub returns : goal.returns
returns c = record { tags = tag_inputs; keys = key_inputs }
