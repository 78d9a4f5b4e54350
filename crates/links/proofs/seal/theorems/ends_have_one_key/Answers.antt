use Rattle.links.proofs.of_seal.SealedFrames.{one_key}
use Rattle.links.proofs.seal.theorems.ends_have_one_key.Goals as goal

pub returns : goal.returns
returns c = one_key
