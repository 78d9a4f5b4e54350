use Rattle.std.proofs.Common.{◌≡◌, false, cond, ap, ◌≤◌, ◌<◌, refl, sym, ◌∙◌, arith}
use Rattle.ballot_base.specs.Logs.{part, places}
use Rattle.ballot_base.specs.Replica.{CountedReplica}
use Rattle.ballot_base.proofs.MessageRows.{on_commit-elsewhere, on_commit-past}
use Rattle.ballot.proofs.MachineShown.{shown_applied}
use Rattle.ballot.proofs.MessagesTaken.{went_same, commit_known, commit_more, commit_taken, commit_halted}
use Rattle.ballot.proofs.replica.Replica.on_commit.Goals as goal

pub returns-then-not-follows-clause-step : goal.returns-then-not-follows-clause-step
returns-then-not-follows-clause-step g c =
    let steps = g.M.Machine.rules in
    went_same _ _ _ (on_commit-elsewhere steps _ c.args.ballot c.args.held (sym c.follows.ensures ∙ c.if-not-follows.true))

pub returns-then-held-places-clause-step : goal.returns-then-held-places-clause-step
returns-then-held-places-clause-step g c =
    let steps = g.M.Machine.rules in
    let past : places c.args.self.now.state.log < c.args.held =
    rw (← c.self.view_is) (omega (arith, c.places.ensures, c.if-held-places.true)) in
    went_same _ _ _ (on_commit-past steps _ c.args.ballot c.args.held (sym c.follows.ensures ∙ c.if-not-follows.false) past)

pub returns-then-held-self-clause-step : goal.returns-then-held-self-clause-step
returns-then-held-self-clause-step g c =
    let steps = g.M.Machine.rules in
    let within : c.args.held ≤ places c.args.self.now.state.log =
    rw (← c.self.view_is) (omega (arith, c.places.ensures, c.if-held-places.false)) in
    let known : c.args.held ≤ c.args.self.now.state.committed = rw (← c.self.view_is) c.if-held-self.true in
    went_same _ _ _ (commit_known steps _ c.args.ballot c.args.held (sym c.follows.ensures ∙ c.if-not-follows.false) within known)

pub returns-in-Ok-clause-step : goal.returns-in-Ok-clause-step
returns-in-Ok-clause-step g c =
    let steps = g.M.Machine.rules in
    let within : c.args.held ≤ places c.args.self.now.state.log =
    rw (← c.self.view_is) (omega (arith, c.places.ensures, c.if-held-places.false)) in
    let above : c.args.self.now.state.committed < c.args.held = rw (← c.self.view_is) c.if-held-self.false in
    let running : c.self.inside.stopped ≡ false = ap (λ (z : CountedReplica _ _). z.state.stopped) c.self.view_is ∙ c.requires in
    commit_taken steps c.args.self.now _ c.args.ballot c.args.held
    (cond c.self.inside.stopped g.M.Machine.rules.opening c.apply_dropping.new.machine)
    (sym c.follows.ensures ∙ c.if-not-follows.false) within above
    (rw (← c.self.view_is) refl)
    (rw (← c.self.view_is) (shown_applied steps c.self.inside.stopped g.M.Machine.rules.opening c.self.inside.machine
    c.apply_dropping.new.machine
    (part c.self.inside.log c.self.inside.committed c.args.held) running
    c.in-Ok.ensures.state))
    (rw (← c.self.view_is) refl)

pub returns-in-Err-clause-step : goal.returns-in-Err-clause-step
returns-in-Err-clause-step g c =
    let steps = g.M.Machine.rules in
    let within : c.args.held ≤ places c.args.self.now.state.log =
    rw (← c.self.view_is) (omega (arith, c.places.ensures, c.if-held-places.false)) in
    let above : c.args.self.now.state.committed < c.args.held = rw (← c.self.view_is) c.if-held-self.false in
    commit_halted steps c.args.self.now _ c.args.ballot c.args.held (sym c.follows.ensures ∙ c.if-not-follows.false) within above
    (rw (← c.self.view_is) refl) (rw (← c.self.view_is) refl)

pub returns-in-Ok-clause-commits : goal.returns-in-Ok-clause-commits
returns-in-Ok-clause-commits g c stopped =
    let running : c.self.inside.stopped ≡ false = ap (λ (z : CountedReplica _ _). z.state.stopped) c.self.view_is ∙ c.requires in
    let f = sym stopped ∙ running in cc

pub returns-in-Err-clause-commits : goal.returns-in-Err-clause-commits
returns-in-Err-clause-commits g c stopped =
    let within : c.args.held ≤ places c.args.self.now.state.log =
    rw (← c.self.view_is) (omega (arith, c.places.ensures, c.if-held-places.false)) in
    let above : c.args.self.now.state.committed < c.args.held = rw (← c.self.view_is) c.if-held-self.false in
    commit_more g.M.Machine.rules c.args.self.now c.args.ballot c.args.held (sym c.follows.ensures ∙ c.if-not-follows.false) within above
