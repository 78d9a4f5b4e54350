use Rattle.std.proofs.Common.{◌≤◌, refl, arith}
use Rattle.ballot_base.specs.Service.{least}
use Rattle.ballot_base.proofs.StepRows.{least-le}
use Rattle.ballot.proofs.Committed.{add_done}
use Rattle.ballot.proofs.replica.Replica.add.Goals as goal

pub commit_at-requires-clause-within : goal.commit_at-requires-clause-within
commit_at-requires-clause-within g c =
    rw c.least_held-held.ensures
    (let below : least c.places.result c.deref.result.now ≤ c.places.result = least-le _ c.deref.result.now in
    omega (arith, below, c.places.ensures))

pub returns-in-Ok-commit_at-clause-outcome : goal.returns-in-Ok-commit_at-clause-outcome
returns-in-Ok-commit_at-clause-outcome g c =
    let steps = g.M.Machine.rules in
    rw (← c.self.view_is)
    (add_done steps _ _ c.commit_at.new.self c.args.command c.push.new.self
    c.deref.result.now c.places.result c.least_held-held.result
    c.send_next-sent.result c.in-Ok-commit_at.commits_sent _ _ _
    (rw (← c.self.view_is) at c.send_next-sent.ensures)
    c.in-Ok.ensures.ok
    refl
    c.places.ensures
    c.deref.ensures.value
    c.least_held-held.ensures
    c.in-Ok-commit_at.ensures.state
    c.in-Ok-commit_at.ensures.effects)
