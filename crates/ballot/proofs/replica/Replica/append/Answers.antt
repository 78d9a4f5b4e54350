use Rattle.std.proofs.Common.{◌≡◌, ◌≤◌, ◌<◌, true, false, refl, ap, sym, ◌∙◌, arith}
use Rattle.ballot_base.specs.Logs.{places}
use Rattle.ballot_base.specs.Replica.{CountedReplica, is_active}
use Rattle.ballot_base.specs.Service.{max_places}
use Rattle.ballot_base.proofs.StepRows.{proposed-not_active, proposed-full, added-stopped}
use Rattle.ballot.proofs.ProposalAnswered.{stays_told, added_told, proposed_told, lacks_told}
use Rattle.ballot.proofs.replica.Replica.append.Goals as goal

pub returns-then-not-is_active-clause-step : goal.returns-then-not-is_active-clause-step
returns-then-not-is_active-clause-step g c =
    let steps = g.M.Machine.rules in
    rw (← c.self.view_is) (λ running. stays_told steps _ _ _
    (proposed-not_active steps _ c.args.command (sym c.is_active.ensures ∙ c.if-not-is_active.true)))

pub returns-then-places-ge-MAX_PLACES-clause-step : goal.returns-then-places-ge-MAX_PLACES-clause-step
returns-then-places-ge-MAX_PLACES-clause-step g c =
    let steps = g.M.Machine.rules in
    let full : max_places ≤ places c.self.inside.log = omega (arith, c.places.ensures) in
    rw (← c.self.view_is) (λ running. stays_told steps _ _ _
    (proposed-full steps _ c.args.command (sym c.is_active.ensures ∙ c.if-not-is_active.false) full))

pub returns-in-Ok-clause-step : goal.returns-in-Ok-clause-step
returns-in-Ok-clause-step g c = λ running.
    let steps = g.M.Machine.rules in
    let active : is_active c.args.self.now.state.role ≡ true =
    rw (← c.self.view_is) (sym c.is_active.ensures ∙ c.if-not-is_active.false) in
    let room : places c.args.self.now.state.log < max_places =
    rw (← c.self.view_is) (omega (arith, c.places.ensures)) in
    proposed_told steps c.args.self.now c.args.command c.in-Ok.whole _ _ _ active room
    (added_told _ _ _ c.add.new.self _ _ _ c.in-Ok.ensures.outcome (rw (← c.self-2.view_is) refl) (rw (← c.self-2.view_is) c.counted-self-inside.ensures))

pub returns-in-Ok-clause-halted : goal.returns-in-Ok-clause-halted
returns-in-Ok-clause-halted g c =
    let steps = g.M.Machine.rules in
    let running : c.args.self.now.state.stopped ≡ false = rw (← c.self.view_is) c.if-self.false in
    let runs : c.self-2.inside.stopped ≡ false =
    ap (λ (z : CountedReplica _ _). z.state.stopped) (c.self-2.view_is ∙ c.in-Ok.ensures.outcome.0)
    ∙ added-stopped steps c.args.self.now.state c.args.command ∙ running in
    (λ h. cc, λ h. let f = sym h ∙ runs in cc)

pub returns-in-Err-clause-step : goal.returns-in-Err-clause-step
returns-in-Err-clause-step g c = λ running.
    let steps = g.M.Machine.rules in
    lacks_told steps c.in-Err.error c.args.self.now _ c.add.new.self _ _ _ c.in-Err.ensures.outcome (rw (← c.self-2.view_is) refl)
    (rw (← c.self-2.view_is) c.counted-self-inside-in-Err.ensures) c.in-Err.ensures.err
