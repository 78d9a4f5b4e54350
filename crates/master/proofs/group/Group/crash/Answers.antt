use Rattle.std.proofs.Common.{◌-◌, ap, refl, arith, rules as rules_of}
use Rattle.ballot_base.specs.Replica.{CountedReplica}
use Rattle.master.specs.declared.event.Event.TheVariants.{Crash}
use Rattle.master.proofs.Counting.{some_idle, steps_idle, stops_turn, steps_turn}
use Rattle.master.proofs.Groups.{group_stops}
use Rattle.master.proofs.LossesCounted.{counts_at, counts_set}
use Rattle.master.proofs.StepsOfNodes.{below_of, crash_group, crash_turn}
use Rattle.master.proofs.Quiet.{exactly_none, exactly_stopped}
use Rattle.master.specs.Outcomes.{stopping}
use Rattle.master.proofs.group.Group.crash.Goals as goal

pub invariant_of-self : goal.invariant_of-self
invariant_of-self g c =
    let rules = g.M.Machine.rules in
    let x = rw (← c.self.view_is) at c.in-Some.ensures.some in
    let took = crash_turn rules c.self.inside.archive.items c.self.inside.master c.self.inside.nodes.items c.self.inside.sent.items c.self.inside.left.items c.self.inside.losses c.in-Some.at
    c.index_mut-replica.result.now c.stop.new.self x.replica c.index_mut-replica.ensures.value x.stands
    (ap (λ (z : CountedReplica g.row.M.Denot g.row.M-Command.Denot). z.state) c.stop.ensures) in
    let same = ap (λ (z : CountedReplica g.row.M.Denot g.row.M-Command.Denot). z.losses) c.stop.ensures in
    let low = counts_at c.self.inside.losses c.self.inside.nodes.items c.in-Some.at c.index_mut-replica.result.now c.self.invariant.2
    (below_of c.self.inside.nodes.items c.in-Some.at x.replica x.stands) c.index_mut-replica.ensures.value in (
      c.self.invariant.0,
      group_stops rules _ _ c.self.inside.told c.self.inside.next _ _ c.in-Some.at x.replica c.self.invariant.1 refl refl x.stands x.going took refl,
      counts_set c.self.inside.losses c.self.inside.nodes.items c.in-Some.at c.stop.new.self c.self.invariant.2 (omega (arith, same, low)),
    )

pub returns-clause-step : goal.returns-clause-step
returns-clause-step g c =
    let rules = g.M.Machine.rules in
    let x = rw (← c.self.view_is) at c.in-Some.ensures.some in
    rw (← c.self.view_is) (steps_turn rules _ _ (Crash c.args.node) _ (stops_turn rules _ c.args.node c.in-Some.at x)
    (crash_turn rules c.self.inside.archive.items c.self.inside.master c.self.inside.nodes.items c.self.inside.sent.items c.self.inside.left.items c.self.inside.losses c.in-Some.at
    c.index_mut-replica.result.now c.stop.new.self x.replica c.index_mut-replica.ensures.value x.stands
    (ap (λ (z : CountedReplica g.row.M.Denot g.row.M-Command.Denot). z.state) c.stop.ensures)))

pub returns-in_default-clause-quiet : goal.returns-in_default-clause-quiet
returns-in_default-clause-quiet g c =
    let rules = g.M.Machine.rules in
    λ q. exactly_none rules c.args.self.now (Crash c.args.node) (ap (stopping rules (c.args.node - 1)) (c.in_default.ensures.none refl))

pub returns-clause-quiet : goal.returns-clause-quiet
returns-clause-quiet g c =
    let rules = g.M.Machine.rules in
    let x = rw (← c.self.view_is) at c.in-Some.ensures.some in
    rw (← c.self.view_is) (λ q. exactly_stopped rules _ _ c.args.node c.in-Some.at x
    (crash_group rules c.self.inside.archive.items c.self.inside.master c.self.inside.nodes.items c.self.inside.sent.items c.self.inside.left.items c.self.inside.losses c.in-Some.at
    c.index_mut-replica.result.now c.stop.new.self x.replica c.index_mut-replica.ensures.value x.stands
    (ap (λ (z : CountedReplica g.row.M.Denot g.row.M-Command.Denot). z.state) c.stop.ensures)))

pub returns-in_default-clause-step : goal.returns-in_default-clause-step
returns-in_default-clause-step g c =
    let rules = g.M.Machine.rules in
    let none = ap (stopping rules (c.args.node - 1)) (c.in_default.ensures.none refl) in
    steps_idle rules c.args.self.now (Crash c.args.node) none

pub returns-in_default-clause-idle : goal.returns-in_default-clause-idle
returns-in_default-clause-idle g c =
    let rules = g.M.Machine.rules in
    let none = ap (stopping rules (c.args.node - 1)) (c.in_default.ensures.none refl) in
    (λ h. none, λ e. search rules_of)

pub returns-clause-idle : goal.returns-clause-idle
returns-clause-idle g c =
    let rules = g.M.Machine.rules in
    (λ h. cc, λ e. some_idle (stops_turn rules c.args.self.now.moment.world.nodes c.args.node c.in-Some.at c.in-Some.ensures.some) e)
