use Rattle.std.proofs.Common.{arith}
use Rattle.packet.proofs.After.{is_found, is_read}
use Rattle.packet.proofs.decoder.decode.Goals as goal

pub returns-clause-found : goal.returns-clause-found
returns-clause-found c =
    is_found c.args.bytes.now c.front_step.result (λ i. omega (arith, c.type_inv.bytes i)) c.front_step.ensures.exact

pub returns-clause-only : goal.returns-clause-only
returns-clause-only c =
    is_read c.args.bytes.now c.front_step.result c.front_step.ensures.exact c.front_step.ensures.within
