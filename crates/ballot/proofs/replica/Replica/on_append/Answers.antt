use Rattle.std.proofs.Common.{◌≤◌, ◌<◌, ap, refl, sym, ◌∙◌, arith}
use Rattle.ballot_base.specs.Logs.{places}
use Rattle.ballot_base.specs.Replica.{CountedReplica}
use Rattle.ballot_base.proofs.MessageRows.{on_append-elsewhere, on_append-gap}
use Rattle.ballot.proofs.MessagesTaken.{went_same, append_taken, append_lost}
use Rattle.ballot.proofs.replica.Replica.on_append.Goals as goal

pub returns-then-not-follows-clause-step : goal.returns-then-not-follows-clause-step
returns-then-not-follows-clause-step g c =
    went_same _ _ _ (on_append-elsewhere _ _ c.args.from c.args.ballot c.args.place c.args.command
    (sym c.follows.ensures ∙ c.if-not-follows.true))

pub returns-then-place-places-clause-step : goal.returns-then-place-places-clause-step
returns-then-place-places-clause-step g c =
    let gap : places c.args.self.now.state.log < c.args.place =
    rw (← c.self.view_is) (omega (arith, c.places.ensures, c.if-place-places.true)) in
    went_same _ _ _ (on_append-gap _ _ c.args.from c.args.ballot c.args.place c.args.command
    (sym c.follows.ensures ∙ c.if-not-follows.false) gap)

pub returns-then-not-append_next-clause-step : goal.returns-then-not-append_next-clause-step
returns-then-not-append_next-clause-step g c =
    append_lost _ c.args.self.now _ c.args.from c.args.ballot c.args.place c.args.command _
    (sym c.follows.ensures ∙ c.if-not-follows.false)
    (rw (← c.self.view_is) c.if-not-append_next.ensures.lost.1)
    (rw (← c.self.view_is, c.if-not-append_next.ensures.lost.0) refl)
    (rw (← c.self.view_is) refl)

pub returns-clause-step : goal.returns-clause-step
returns-clause-step g c =
    let within : c.args.place ≤ places c.args.self.now.state.log =
    rw (← c.self.view_is) (omega (arith, c.places.ensures, c.if-place-places.false)) in
    append_taken _ c.args.self.now _ c.args.from c.args.ballot c.args.place c.args.command c.append_next.new.log
    c.places-2.result _ _ c.send_one.result
    (sym c.follows.ensures ∙ c.if-not-follows.false)
    within
    (rw (← c.self.view_is) c.if-not-append_next.ensures.taken)
    c.places-2.ensures
    (ap (λ (z : CountedReplica _ _). let y : CountedReplica _ _ = record z {
      state = record z.state { log = c.append_next.new.log };
    } in y) c.self.view_is)
    c.send_one.ensures
