use Rattle.std.proofs.Common.{◌≡◌, ◌≤◌, length, refl, ap, ◌∙◌, arith}
use Rattle.ballot_base.specs.Logs.{places}
use Rattle.ballot_base.specs.Replica.{CountedReplica}
use Rattle.ballot_base.specs.Service.{least}
use Rattle.ballot_base.proofs.StepRows.{least-le}
use Rattle.ballot.proofs.ActivationTaken.{told_commit, start_sent}
use Rattle.ballot.proofs.replica.Replica.send_start.Goals as goal

pub commit_at-requires-clause-within : goal.commit_at-requires-clause-within
commit_at-requires-clause-within g c =
    let below : least c.places.result c.deref-2.result.now ≤ c.places.result = least-le _ c.deref-2.result.now in
    rw (← c.self.view_is, c.least_held-held.ensures) (omega (arith, below, c.places.ensures))

pub returns-clause-state : goal.returns-clause-state
returns-clause-state g c =
    let steps = g.M.Machine.rules in
    let long : c.places.result ≡ places c.args.self.now.state.log =
    rw (← c.self.view_is) c.places.ensures in
    c.in_ok-committed.ensures.state
    ∙ ap (λ s. let z : CountedReplica _ _ = record { state = s; losses = c.args.self.now.losses } in z)
    (ap (λ o. o.state) (told_commit steps c.args.self.now.state c.least_held-held.result c.places.result c.deref-2.result.now
    c.least_held-held.ensures long (rw (← c.self.view_is) c.deref-2.ensures.value)))

pub returns-clause-effects : goal.returns-clause-effects
returns-clause-effects g c front last e =
    let steps = g.M.Machine.rules in
    let long : c.places.result ≡ places c.args.self.now.state.log =
    rw (← c.self.view_is) c.places.ensures in
    start_sent steps c.args.self.now.state front last c.index-rest-last.result c.rest-rest.result.now c.base.result (length c.rest-rest.result.now)
    c.least_held-held.result c.places.result c.deref.result.now c.deref-2.result.now _ _ _ c.send_appends-sent.result c.in_ok-committed.committed
    e (rw (← c.self.view_is) c.rest-rest.ensures) (rw (← c.self.view_is) c.base.ensures.base) refl c.index-rest-last.is
    (rw (← c.self.view_is) c.deref.ensures.value)
    (rw (← c.self.view_is) c.send_appends-sent.ensures)
    c.least_held-held.ensures long (rw (← c.self.view_is) c.deref-2.ensures.value)
    c.in_ok-committed.ensures.effects
