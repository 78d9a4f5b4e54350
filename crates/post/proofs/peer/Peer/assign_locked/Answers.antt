use Rattle.post.proofs.peer.Peer.assign_locked.Goals as goal

pub returns-clause-bad : goal.returns-clause-bad
returns-clause-bad g c = λ error.
    c.assign.ensures.unlawful error

pub returns-clause-spent : goal.returns-clause-spent
returns-clause-spent g c = λ error.
    c.assign.ensures.lawful error
