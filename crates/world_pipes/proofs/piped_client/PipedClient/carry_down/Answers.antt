use Rattle.std.proofs.Common.{rules}
use Rattle.world_pipes.specs.Piped.{piped}
use Rattle.world_pipes.proofs.Sent.{held_carrying}
use Rattle.world_pipes.proofs.CarryingFollows.{carrying_follows}
use Rattle.world_pipes.proofs.piped_client.PipedClient.carry_down.Goals as goal

pub invariant_of-self : goal.invariant_of-self
invariant_of-self c =
    held_carrying c.args.count (piped c.self.inside.core c.self.inside.pairs.items) (piped c.carry_down_on-answer.new.core c.carry_down_on-answer.new.pairs.items)
    c.carry_down_on-answer.result _ (search rules) c.carry_down_on-answer.ensures c.stays_open-self-inside.ensures

pub returns-clause-goes : goal.returns-clause-goes
returns-clause-goes c =
    rw (← c.self.view_is)
    (λ m s. carrying_follows c.args.count (piped c.self.inside.core c.self.inside.pairs.items) (piped c.carry_down_on-answer.new.core c.carry_down_on-answer.new.pairs.items)
    c.carry_down_on-answer.result m s (search rules) c.carry_down_on-answer.ensures)
