use Rattle.std.proofs.Common.{refl, arith}
use Rattle.world.proofs.AgreedOnlyGrows.{agreed_grows}
use Rattle.world.proofs.AskedSo.{asked_on_more, none_asked}
use Rattle.world.proofs.ItemsMet.{run_on}
use Rattle.world.proofs.Joined.{world_on_join, world_on_rest}
use Rattle.world.proofs.StaysReached.{stays_reached}
use Rattle.world.proofs.world.World.run.Goals as goal

pub loop-event-init : goal.loop-event-init
loop-event-init c = record { group = world_on_rest _ _ refl; asks = none_asked _ _ refl; runs = refl }

pub loop-event-preserved : goal.loop-event-preserved
loop-event-preserved c =
    record {
      group = world_on_join _ _ _ c.loop-event.invariant.group c.step.ensures.group;
      asks = asked_on_more c.args.events.now c.loop-event.event-index c.event-item.result _ c.loop-event.self c.step.new.self c.step.result (omega arith) c.event-item.is c.loop-event.invariant.asks
          c.step.ensures.happens c.step.ensures.exact;
      runs = run_on c.args.events.now c.loop-event.event-index c.event-item.result _ c.loop-event.self c.step.new.self c.step.result (omega arith) c.event-item.is c.loop-event.invariant.runs
          c.step.ensures.happens;
    }

pub returns-clause-group : goal.returns-clause-group
returns-clause-group c = c.loop-event.invariant.group

pub returns-clause-grown : goal.returns-clause-grown
returns-clause-grown c = agreed_grows _ _ c.loop-event.invariant.group.goes

pub returns-clause-reached : goal.returns-clause-reached
returns-clause-reached c = stays_reached _ _ c.loop-event.invariant.group.goes
