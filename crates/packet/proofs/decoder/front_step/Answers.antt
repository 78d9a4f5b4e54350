use Rattle.packet.proofs.After.{verdict_after}
use Rattle.packet.proofs.decoder.front_step.Goals as goal

pub returns-in-Ok-clause-exact : goal.returns-in-Ok-clause-exact
returns-in-Ok-clause-exact c =
    verdict_after c.args.bytes.now c.in-Ok.packet c.in-Ok.len c.in-len1-up.len_at_least c.in-Ok.ensures.exact
