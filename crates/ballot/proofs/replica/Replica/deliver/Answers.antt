use Rattle.std.proofs.Common.{refl}
use Rattle.ballot.proofs.MessagesTaken.{went_told, went_quiet}
use Rattle.ballot.proofs.replica.Replica.deliver.Goals as goal

pub returns-clause-step : goal.returns-clause-step
returns-clause-step g c = λ running.
    went_told _ c.on_body-whole.ensures.step
    (rw (← c.self-2.view_is) refl) (rw (← c.self-2.view_is) c.counted-self-inside.ensures)

pub returns-clause-quiet : goal.returns-clause-quiet
returns-clause-quiet g c = λ running quiet read. went_quiet c.on_body-whole.ensures.step quiet read
