use Rattle.std.proofs.Common.{◌≡◌, ◌≤◌, false, length, refl, ap, sym, ◌∙◌, arith}
use Rattle.ballot_base.specs.Logs.{places}
use Rattle.ballot_base.specs.Replica.{CountedReplica}
use Rattle.ballot_base.specs.Service.{least, raised}
use Rattle.ballot_base.proofs.StepRows.{least-le, commit_at-stopped}
use Rattle.ballot_base.proofs.MessageRows.{on_held-elsewhere}
use Rattle.ballot.proofs.MessagesTaken.{went_same, held_more, held_taken, held_halted, written_back, taken_back}
use Rattle.ballot.proofs.replica.Replica.on_held.Goals as goal

pub returns-then-not-leads-clause-step : goal.returns-then-not-leads-clause-step
returns-then-not-leads-clause-step g c =
    let steps = g.M.Machine.rules in
    went_same _ _ _ (on_held-elsewhere steps _ c.args.from c.args.ballot c.args.held
    (sym c.leads.ensures ∙ c.if-not-leads.true))

pub commit_at-requires-clause-within : goal.commit_at-requires-clause-within
commit_at-requires-clause-within g c =
    let below : least c.places.result (raised c.args.from c.args.held c.deref.result.now) ≤ c.places.result =
    least-le _ (raised c.args.from c.args.held c.deref.result.now) in
    rw (← c.self.view_is, c.least_raised-least.ensures) (omega (arith, below, c.places.ensures))

pub returns-in-Ok-clause-step : goal.returns-in-Ok-clause-step
returns-in-Ok-clause-step g c =
    let steps = g.M.Machine.rules in
    let long : c.places.result ≡ places c.args.self.now.state.log =
    rw (← c.self.view_is) c.places.ensures in
    let written : length c.raise.new.progress ≡ c.self-2.inside.progress.len =
    omega (arith, c.raise.auto.progress, ap length c.deref_mut.ensures.value, c.self-2.inside.progress.ok.0) in
    held_taken steps c.args.self.now c.commit_at.new.self _ c.args.from c.args.ballot c.args.held c.least_raised-least.result
    c.deref.result.now _ c.places.result _ _ c.in-Ok.commits_sent
    (sym c.leads.ensures ∙ c.if-not-leads.false)
    (rw (← c.self.view_is) c.deref.ensures.value)
    long
    c.least_raised-least.ensures
    c.in-Ok.ensures.state
    c.in-Ok.ensures.effects
    (written_back c.self-2.inside.progress.len c.raise.new.progress c.self-2.inside.progress.items written
    ∙ c.raise.ensures ∙ ap (raised c.args.from c.args.held) c.deref_mut.ensures.value
    ∙ ap (λ (z : CountedReplica _ _). raised c.args.from c.args.held z.state.progress) c.self-2.view_is)
    (rw (← c.self-2.view_is) refl)
    (rw (← c.self-2.view_is) refl)

pub returns-in-Ok-clause-stops : goal.returns-in-Ok-clause-stops
returns-in-Ok-clause-stops g c stopped =
    let steps = g.M.Machine.rules in
    let runs : c.self-2.inside.stopped ≡ false =
    ap (λ (z : CountedReplica _ _). z.state.stopped) (c.self-2.view_is ∙ c.in-Ok.ensures.state)
    ∙ commit_at-stopped steps c.args.self.now.state c.least_raised-least.result ∙ c.requires in
    let f = sym stopped ∙ runs in cc

pub returns-in-Err-clause-step : goal.returns-in-Err-clause-step
returns-in-Err-clause-step g c =
    let steps = g.M.Machine.rules in
    let long : c.places.result ≡ places c.args.self.now.state.log =
    rw (← c.self.view_is) c.places.ensures in
    held_halted steps c.args.self.now c.commit_at.new.self _ c.args.from c.args.ballot c.args.held c.least_raised-least.result
    c.deref.result.now c.places.result _ _
    (sym c.leads.ensures ∙ c.if-not-leads.false)
    (rw (← c.self.view_is) c.deref.ensures.value)
    long
    c.least_raised-least.ensures
    c.in-Err.ensures.needed
    c.in-Err.ensures.stops
    refl
    (taken_back _ c.len-before.result c.in-Err.ensures.err
    (omega (arith, c.len-before.ensures, c.args.out.now.ok.0)) c.truncate.ensures.items)

pub returns-in-Ok-clause-commits : goal.returns-in-Ok-clause-commits
returns-in-Ok-clause-commits g c stopped =
    let steps = g.M.Machine.rules in
    let runs : c.self-2.inside.stopped ≡ false =
    ap (λ (z : CountedReplica _ _). z.state.stopped) (c.self-2.view_is ∙ c.in-Ok.ensures.state)
    ∙ commit_at-stopped steps c.args.self.now.state c.least_raised-least.result ∙ c.requires in
    let f = sym stopped ∙ runs in cc

pub returns-in-Err-clause-commits : goal.returns-in-Err-clause-commits
returns-in-Err-clause-commits g c stopped =
    let long : c.places.result ≡ places c.args.self.now.state.log =
    rw (← c.self.view_is) c.places.ensures in
    held_more g.M.Machine.rules c.args.self.now c.args.from c.args.ballot c.args.held c.least_raised-least.result
    c.deref.result.now c.places.result
    (sym c.leads.ensures ∙ c.if-not-leads.false)
    (rw (← c.self.view_is) c.deref.ensures.value)
    long
    c.least_raised-least.ensures
    c.in-Err.ensures.needed
