use Rattle.std.proofs.Common.{refl}
use Rattle.ballot_base.specs.Protocol.Input.{Ticks}
use Rattle.master.specs.declared.event.Event.TheVariants.{Tick}
use Rattle.master.proofs.Counting.{some_idle, takes_nothing, takes_turn, steps_turn}
use Rattle.master.proofs.Quiet.{exactly_none, steps_exactly_done, tick_says, tick_silent}
use Rattle.master.proofs.StepsOfNodes.{same_replica}
use Rattle.master.proofs.group.Group.tick.Goals as goal

pub returns-clause-step : goal.returns-clause-step
returns-clause-step g c =
    let rules = g.M.Machine.rules in
    let x = c.in-Some.ensures.some in
    steps_turn rules c.args.self.now c.take_input.new.self (Tick c.args.node) _
    (takes_turn rules c.args.self.now.moment.world c.args.node c.in-Some.at Ticks x refl) (c.take_input.ensures x.replica x.stands)

pub returns-in_default-clause-quiet : goal.returns-in_default-clause-quiet
returns-in_default-clause-quiet g c =
    let rules = g.M.Machine.rules in
    λ q. exactly_none rules c.args.self.now (Tick c.args.node) (takes_nothing rules c.args.self.now.moment.world c.args.node Ticks (c.in_default.ensures.none refl))

pub returns-then-not-speaks-clause-step : goal.returns-then-not-speaks-clause-step
returns-then-not-speaks-clause-step g c =
    let rules = g.M.Machine.rules in
    let x = c.in-Some.ensures.some in
    let inside = rw (← c.self.view_is) at x.stands in
    let same = same_replica c.self.inside.nodes.items c.in-Some.at c.index.result.now x.replica c.index.ensures inside in
    steps_exactly_done rules c.args.self.now (Tick c.args.node) (tick_silent rules c.args.self.now c.args.node c.in-Some.at x c.index.result.now.state c.speaks.result same c.speaks.ensures c.if-not-speaks.true)

pub returns-then-not-speaks-clause-idle : goal.returns-then-not-speaks-clause-idle
returns-then-not-speaks-clause-idle g c =
    let rules = g.M.Machine.rules in
    let x = c.in-Some.ensures.some in
    (λ h. cc, λ e. some_idle (takes_turn rules c.args.self.now.moment.world c.args.node c.in-Some.at Ticks x refl) e)

pub returns-then-not-speaks-clause-quiet : goal.returns-then-not-speaks-clause-quiet
returns-then-not-speaks-clause-quiet g c =
    let rules = g.M.Machine.rules in
    let x = c.in-Some.ensures.some in
    let inside = rw (← c.self.view_is) at x.stands in
    let same = same_replica c.self.inside.nodes.items c.in-Some.at c.index.result.now x.replica c.index.ensures inside in
    λ q. tick_silent rules c.args.self.now c.args.node c.in-Some.at x c.index.result.now.state c.speaks.result same c.speaks.ensures c.if-not-speaks.true

pub returns-clause-quiet : goal.returns-clause-quiet
returns-clause-quiet g c =
    let rules = g.M.Machine.rules in
    let x = c.in-Some.ensures.some in
    let inside = rw (← c.self.view_is) at x.stands in
    let same = same_replica c.self.inside.nodes.items c.in-Some.at c.index.result.now x.replica c.index.ensures inside in
    λ q. tick_says rules c.args.self.now c.args.node c.in-Some.at x c.index.result.now.state c.speaks.result same c.speaks.ensures c.if-not-speaks.false q
