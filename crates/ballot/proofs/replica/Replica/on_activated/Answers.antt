use Rattle.std.proofs.Common.{◌≤◌, ap, sym, ◌∙◌}
use Rattle.ballot_base.specs.Logs.{places}
use Rattle.ballot_base.specs.Replica.{CountedReplica}
use Rattle.ballot_base.proofs.ChangeRows.{on_activated-stays}
use Rattle.ballot.proofs.MessagesTaken.{went_same}
use Rattle.ballot.proofs.ActivationTaken.{activated_lost, activated_halted, become_active_is, activated_begun, begun_stops, start_after, start_after_active, start_after_stopped}
use Rattle.ballot.proofs.replica.Replica.on_activated.Goals as goal

pub returns-then-not-may_begin-clause-step : goal.returns-then-not-may_begin-clause-step
returns-then-not-may_begin-clause-step g c =
    let steps = g.M.Machine.rules in
    went_same _ _ _ (on_activated-stays steps _ c.args.ballot (sym c.may_begin.ensures ∙ c.if-not-may_begin.true))

pub returns-in_default-clause-step : goal.returns-in_default-clause-step
returns-in_default-clause-step g c =
    let steps = g.M.Machine.rules in
    activated_lost steps c.args.self.now _ c.args.ballot _ (sym c.may_begin.ensures ∙ c.if-not-may_begin.false) c.in_default.ensures.err

pub become_active-requires-clause-after : goal.become_active-requires-clause-after
become_active-requires-clause-after g c =
    let within : c.args.self.now.state.committed ≤ places c.args.self.now.state.log = rw (← c.self.view_is) c.self.invariant.1 in
    start_after c.args.self.now c.add_start.new.self _ c.in-Ok.ensures.state within

pub begin-requires-clause-after : goal.begin-requires-clause-after
begin-requires-clause-after g c =
    let steps = g.M.Machine.rules in
    let within : c.args.self.now.state.committed ≤ places c.args.self.now.state.log = rw (← c.self.view_is) c.self.invariant.1 in
    start_after_active steps c.args.self.now c.become_active.new.self c.args.ballot c.self.inside.committed
    (become_active_is steps c.args.self.now c.add_start.new.self c.become_active.new.self c.args.ballot c.in-Ok.progress.items
    c.in-Ok.ensures.state c.in-Ok.ensures.progress c.in-Ok-become_active.ensures.state)
    (ap (λ (z : CountedReplica _ _). z.state.committed) c.self.view_is) within

pub take_back_start-requires : goal.take_back_start-requires
take_back_start-requires g c =
    let steps = g.M.Machine.rules in
    let within : c.args.self.now.state.committed ≤ places c.args.self.now.state.log = rw (← c.self.view_is) c.self.invariant.1 in
    record {
      after = start_after_stopped steps c.add_start.new.self c.become_active.new.self c.in-Err.ensures.stops
          (start_after c.args.self.now c.add_start.new.self _ c.in-Ok.ensures.state within);
    }

pub returns-in-Ok-become_active-clause-step : goal.returns-in-Ok-become_active-clause-step
returns-in-Ok-become_active-clause-step g c =
    let steps = g.M.Machine.rules in
    activated_begun steps c.begin.result c.args.self.now c.become_active.new.self c.begin.new.self c.args.ballot c.self.inside.committed
    c.in-Ok-become_active.waiting.items _ _ (sym c.may_begin.ensures ∙ c.if-not-may_begin.false)
    (become_active_is steps c.args.self.now c.add_start.new.self c.become_active.new.self c.args.ballot c.in-Ok.progress.items
    c.in-Ok.ensures.state c.in-Ok.ensures.progress c.in-Ok-become_active.ensures.state)
    (ap (λ (z : CountedReplica _ _). z.state.committed) c.self.view_is)
    (c.in-Ok-become_active.ensures.earlier ∙ ap (λ (z : CountedReplica _ _). z.state.progress) c.in-Ok.ensures.state)
    c.begin.ensures

pub returns-in-Ok-become_active-clause-stops : goal.returns-in-Ok-become_active-clause-stops
returns-in-Ok-become_active-clause-stops g c stopped =
    let steps = g.M.Machine.rules in
    begun_stops steps c.begin.result c.args.self.now c.become_active.new.self c.begin.new.self c.args.ballot c.self.inside.committed
    c.in-Ok-become_active.waiting.items _ _
    (become_active_is steps c.args.self.now c.add_start.new.self c.become_active.new.self c.args.ballot c.in-Ok.progress.items
    c.in-Ok.ensures.state c.in-Ok.ensures.progress c.in-Ok-become_active.ensures.state) c.requires c.begin.ensures stopped

pub returns-in-Err-clause-step : goal.returns-in-Err-clause-step
returns-in-Err-clause-step g c =
    let steps = g.M.Machine.rules in
    activated_halted steps c.args.self.now c.add_start.new.self c.become_active.new.self _ c.args.ballot _
    (sym c.may_begin.ensures ∙ c.if-not-may_begin.false) c.in-Ok.ensures.state c.in-Err.ensures.stops c.take_back_start.ensures
