use Rattle.std.proofs.Common.{◌≡◌, false, refl, ap, ◌∙◌}
use Rattle.ballot_base.specs.Logs.{part}
use Rattle.ballot_base.specs.Replica.{CountedReplica}
use Rattle.ballot.proofs.MachineShown.{shown, shown_applied}
use Rattle.ballot.proofs.Committed.{commit_stays, commit_gives_nothing, commit_goes, commit_gives}
use Rattle.ballot.proofs.replica.Replica.commit_at.Goals as goal

pub returns-then-held-self-clause-state : goal.returns-then-held-self-clause-state
returns-then-held-self-clause-state g c =
    let rules = g.M.Machine.rules in
    rw (← c.self.view_is) (commit_stays rules _ c.args.held c.if-held-self.true)

pub returns-then-held-self-clause-effects : goal.returns-then-held-self-clause-effects
returns-then-held-self-clause-effects g c =
    let rules = g.M.Machine.rules in
    rw (← c.self.view_is) (commit_gives_nothing rules _ c.args.held _ c.if-held-self.true)

pub returns-in-Ok-clause-state : goal.returns-in-Ok-clause-state
returns-in-Ok-clause-state g c =
    let rules = g.M.Machine.rules in
    let running : c.self.inside.stopped ≡ false = ap (λ (z : CountedReplica _ _). z.state.stopped) c.self.view_is ∙ c.requires.running in
    rw (← c.self.view_is) (commit_goes rules _ _ c.args.held _ c.if-held-self.false refl
    (shown_applied rules c.self.inside.stopped g.M.Machine.rules.opening c.self.inside.machine c.apply_places.new.machine
    (part c.self.inside.log c.self.inside.committed c.args.held) running
    c.in-Ok.ensures.state))

pub returns-in-Ok-clause-effects : goal.returns-in-Ok-clause-effects
returns-in-Ok-clause-effects g c =
    let rules = g.M.Machine.rules in
    let running : c.self.inside.stopped ≡ false = ap (λ (z : CountedReplica _ _). z.state.stopped) c.self.view_is ∙ c.requires.running in
    rw (← c.self.view_is) (commit_gives rules _ c.args.held c.self.inside.machine _ _ _ _ _ _ c.if-held-self.false
    (shown c.self.inside.stopped g.M.Machine.rules.opening c.self.inside.machine running)
    refl c.deref.ensures.value c.in-Ok.ensures.outputs c.send_commits.ensures)
