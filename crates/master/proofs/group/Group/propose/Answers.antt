use Rattle.std.proofs.Common.{◌≡◌, refl, ap, ◌∙◌}
use Rattle.ballot_base.specs.Protocol.Input.{Proposes}
use Rattle.ballot_base.specs.Replica.{status_of}
use Rattle.master.specs.declared.event.Event.TheVariants.{Propose}
use Rattle.master.proofs.Counting.{takes_nothing, takes_turn, cannot_take, proposal_refused, proposal_taken, some_idle, steps_turn, steps_lost, steps_idle}
use Rattle.master.proofs.Quiet.{exactly_none, node_needs, proposal_does}
use Rattle.master.proofs.StepsOfNodes.{same_replica}
use Rattle.master.proofs.group.Group.propose.Goals as goal

pub returns-then-not-is_active-clause-step : goal.returns-then-not-is_active-clause-step
returns-then-not-is_active-clause-step g c =
    let rules = g.M.Machine.rules in
    let x = c.in-Some.ensures.some in
    let inside = rw (← c.self.view_is) at x.stands in
    let same = same_replica c.self.inside.nodes.items c.in-Some.at c.index.result.now x.replica c.index.ensures inside in
    let status : c.status-status.result ≡ status_of x.replica = c.status-status.ensures ∙ ap status_of same in
    let idle = cannot_take rules c.args.self.now.moment.world c.args.node c.in-Some.at (Proposes c.args.command.now) x
    (proposal_refused x.replica c.status-status.result c.is_active.result c.args.command.now status c.is_active.ensures c.then-not-is_active.either) in
    steps_idle rules c.args.self.now (Propose c.args.node c.args.command.now) idle

pub returns-then-not-is_active-clause-idle : goal.returns-then-not-is_active-clause-idle
returns-then-not-is_active-clause-idle g c =
    let rules = g.M.Machine.rules in
    let x = c.in-Some.ensures.some in
    let inside = rw (← c.self.view_is) at x.stands in
    let same = same_replica c.self.inside.nodes.items c.in-Some.at c.index.result.now x.replica c.index.ensures inside in
    let status : c.status-status.result ≡ status_of x.replica = c.status-status.ensures ∙ ap status_of same in
    let idle = cannot_take rules c.args.self.now.moment.world c.args.node c.in-Some.at (Proposes c.args.command.now) x
    (proposal_refused x.replica c.status-status.result c.is_active.result c.args.command.now status c.is_active.ensures c.then-not-is_active.either) in
    (λ h. idle, λ e. refl)

pub returns-in-Ok-clause-step : goal.returns-in-Ok-clause-step
returns-in-Ok-clause-step g c =
    let rules = g.M.Machine.rules in
    let x = c.in-Some.ensures.some in
    let inside = rw (← c.self.view_is) at x.stands in
    let same = same_replica c.self.inside.nodes.items c.in-Some.at c.index.result.now x.replica c.index.ensures inside in
    let status : c.status-status.result ≡ status_of x.replica = c.status-status.ensures ∙ ap status_of same in
    let can = proposal_taken x.replica c.status-status.result c.is_active.result c.args.command.now status c.is_active.ensures c.if-not-is_active.false c.if-status-ge-MAX_PLACES.false in
    let goes = takes_turn rules c.args.self.now.moment.world c.args.node c.in-Some.at (Proposes c.args.command.now) x can in
    let turned = c.take_input.ensures x.replica x.stands in
    steps_turn rules c.args.self.now c.take_input.new.self (Propose c.args.node c.args.command.now) _ goes
    (rw c.in-Ok.ensures.same at turned)

pub returns-in-Ok-clause-idle : goal.returns-in-Ok-clause-idle
returns-in-Ok-clause-idle g c =
    let rules = g.M.Machine.rules in
    let x = c.in-Some.ensures.some in
    let inside = rw (← c.self.view_is) at x.stands in
    let same = same_replica c.self.inside.nodes.items c.in-Some.at c.index.result.now x.replica c.index.ensures inside in
    let status : c.status-status.result ≡ status_of x.replica = c.status-status.ensures ∙ ap status_of same in
    let can = proposal_taken x.replica c.status-status.result c.is_active.result c.args.command.now status c.is_active.ensures c.if-not-is_active.false c.if-status-ge-MAX_PLACES.false in
    let goes = takes_turn rules c.args.self.now.moment.world c.args.node c.in-Some.at (Proposes c.args.command.now) x can in
    (λ h. cc, λ e. some_idle goes e)

pub returns-in-Err-clause-step : goal.returns-in-Err-clause-step
returns-in-Err-clause-step g c =
    let rules = g.M.Machine.rules in
    steps_lost rules c.args.self.now _ (Propose c.args.node c.args.command.now) c.count_loss.ensures

pub returns-in-Err-clause-idle : goal.returns-in-Err-clause-idle
returns-in-Err-clause-idle g c =
    let rules = g.M.Machine.rules in
    let x = c.in-Some.ensures.some in
    let inside = rw (← c.self.view_is) at x.stands in
    let same = same_replica c.self.inside.nodes.items c.in-Some.at c.index.result.now x.replica c.index.ensures inside in
    let status : c.status-status.result ≡ status_of x.replica = c.status-status.ensures ∙ ap status_of same in
    let can = proposal_taken x.replica c.status-status.result c.is_active.result c.args.command.now status c.is_active.ensures c.if-not-is_active.false c.if-status-ge-MAX_PLACES.false in
    let goes = takes_turn rules c.args.self.now.moment.world c.args.node c.in-Some.at (Proposes c.args.command.now) x can in
    (λ h. cc, λ e. some_idle goes e)

pub returns-in_default-clause-quiet : goal.returns-in_default-clause-quiet
returns-in_default-clause-quiet g c =
    let rules = g.M.Machine.rules in
    λ q. exactly_none rules c.args.self.now (Propose c.args.node c.args.command.now) (takes_nothing rules c.args.self.now.moment.world c.args.node (Proposes c.args.command.now) (c.in_default.ensures.none refl))

pub returns-then-not-is_active-clause-quiet : goal.returns-then-not-is_active-clause-quiet
returns-then-not-is_active-clause-quiet g c =
    let rules = g.M.Machine.rules in
    let x = c.in-Some.ensures.some in
    let inside = rw (← c.self.view_is) at x.stands in
    let same = same_replica c.self.inside.nodes.items c.in-Some.at c.index.result.now x.replica c.index.ensures inside in
    let status : c.status-status.result ≡ status_of x.replica = c.status-status.ensures ∙ ap status_of same in
    let idle = cannot_take rules c.args.self.now.moment.world c.args.node c.in-Some.at (Proposes c.args.command.now) x
    (proposal_refused x.replica c.status-status.result c.is_active.result c.args.command.now status c.is_active.ensures c.then-not-is_active.either) in
    λ q. exactly_none rules c.args.self.now (Propose c.args.node c.args.command.now) idle

pub returns-in-Ok-clause-quiet : goal.returns-in-Ok-clause-quiet
returns-in-Ok-clause-quiet g c =
    let rules = g.M.Machine.rules in
    let x = c.in-Some.ensures.some in
    let inside = rw (← c.self.view_is) at x.stands in
    let same = same_replica c.self.inside.nodes.items c.in-Some.at c.index.result.now x.replica c.index.ensures inside in
    let status : c.status-status.result ≡ status_of x.replica = c.status-status.ensures ∙ ap status_of same in
    let can = proposal_taken x.replica c.status-status.result c.is_active.result c.args.command.now status c.is_active.ensures c.if-not-is_active.false c.if-status-ge-MAX_PLACES.false in
    let goes = takes_turn rules c.args.self.now.moment.world c.args.node c.in-Some.at (Proposes c.args.command.now) x can in
    node_needs rules c.args.self.now.moment (Propose c.args.node c.args.command.now) _ goes (λ n f. cc) (λ f. proposal_does rules x.replica c.args.command.now can f)

pub returns-in-Err-clause-quiet : goal.returns-in-Err-clause-quiet
returns-in-Err-clause-quiet g c =
    let rules = g.M.Machine.rules in
    let x = c.in-Some.ensures.some in
    let inside = rw (← c.self.view_is) at x.stands in
    let same = same_replica c.self.inside.nodes.items c.in-Some.at c.index.result.now x.replica c.index.ensures inside in
    let status : c.status-status.result ≡ status_of x.replica = c.status-status.ensures ∙ ap status_of same in
    let can = proposal_taken x.replica c.status-status.result c.is_active.result c.args.command.now status c.is_active.ensures c.if-not-is_active.false c.if-status-ge-MAX_PLACES.false in
    let goes = takes_turn rules c.args.self.now.moment.world c.args.node c.in-Some.at (Proposes c.args.command.now) x can in
    node_needs rules c.args.self.now.moment (Propose c.args.node c.args.command.now) _ goes (λ n f. cc) (λ f. proposal_does rules x.replica c.args.command.now can f)
