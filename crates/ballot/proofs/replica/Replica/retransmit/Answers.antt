use Rattle.std.proofs.Common.{refl}
use Rattle.ballot.proofs.MessagesTaken.{went_told}
use Rattle.ballot.proofs.TicksTaken.{tick_taken}
use Rattle.ballot.proofs.replica.Replica.retransmit.Goals as goal

pub returns-clause-step : goal.returns-clause-step
returns-clause-step g c =
    let steps = g.M.Machine.rules in
    λ running. went_told _ (tick_taken steps c.args.self.now _ _ c.send_repeats-whole.result c.send_repeats-whole.ensures)
    (rw (← c.self.view_is) refl) (rw (← c.self.view_is) c.counted-self-inside.ensures)
