use Rattle.ballot.proofs.replica.Replica.send_next.Goals as goal

pub returns : goal.returns
returns g c =
    rw (← c.self.view_is)
    (rw (c.places-place.ensures, c.deref.ensures.value) at c.send_appends.ensures)
