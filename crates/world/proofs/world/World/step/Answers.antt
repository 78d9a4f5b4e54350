use Rattle.std.proofs.Common.{refl, Ok, ap}
use Rattle.std.proofs.lemmas.Result.{err_from_is_err_and}
use Rattle.world.specs.World.{WorldState}
use Rattle.world.proofs.AgreedOnlyGrows.{agreed_grows}
use Rattle.world.proofs.AskedSo.{idle_asks, step_asks}
use Rattle.world.proofs.CountedOnce.{step_once}
use Rattle.world.proofs.ItemsMet.{step_happens}
use Rattle.world.proofs.Joined.{goes_on_rest, goes_on_still, goes_on_then, world_goes_on}
use Rattle.world.proofs.StaysReached.{stays_reached}
use Rattle.world.proofs.QuietEvents.{idle_exactly, quiet_by}
use Rattle.world.proofs.world.World.step.Goals as goal

pub returns-in_err-happen-clause-exact : goal.returns-in_err-happen-clause-exact
returns-in_err-happen-clause-exact c =
    let p = err_from_is_err_and c.from_residual.result c.from_residual.ensures.1 in
    idle_asks c.args.event.now c.args.self.now p.0 c.from_residual.result c.happen.new.self p.1 c.in_err-happen.ensures.meets.1

pub returns-in_err-happen-clause-group : goal.returns-in_err-happen-clause-group
returns-in_err-happen-clause-group c = world_goes_on _ _ _ (goes_on_rest _ _ c.in_err-happen.ensures.meets.1)

pub returns-in_err-happen-clause-reached : goal.returns-in_err-happen-clause-reached
returns-in_err-happen-clause-reached c = stays_reached _ _ (goes_on_rest _ _ c.in_err-happen.ensures.meets.1).nodes.goes

pub returns-clause-exact : goal.returns-clause-exact
returns-clause-exact c =
    step_asks c.args.event.now c.args.self.now c.happen.new.self c.count.new.self c.losses-before.result c.self.inside.losses (rw (← c.self.view_is) refl)
    c.in_ok-happen.ensures.asked c.count.ensures.counts (goes_on_still _ _ c.count.ensures.nodes c.count.ensures.clients c.count.ensures.rises)

pub returns-clause-group : goal.returns-clause-group
returns-clause-group c =
    world_goes_on _ _ _ (goes_on_then c.happen.ensures.asked.asked c.args.self.now c.happen.new.self c.count.new.self c.happen.ensures.asked.goes (goes_on_still _ _ c.count.ensures.nodes c.count.ensures.clients c.count.ensures.rises))

pub returns-clause-reached : goal.returns-clause-reached
returns-clause-reached c =
    stays_reached c.args.self.now.nodes c.count.new.self.nodes (goes_on_then c.happen.ensures.asked.asked c.args.self.now c.happen.new.self c.count.new.self c.happen.ensures.asked.goes (goes_on_still _ _ c.count.ensures.nodes c.count.ensures.clients c.count.ensures.rises)).nodes.goes

pub returns-clause-happens : goal.returns-clause-happens
returns-clause-happens c =
    step_happens c.args.event.now c.args.self.now c.happen.new.self c.count.new.self c.losses-before.result c.self.inside.losses (rw (← c.self.view_is) c.losses-before.ensures)
    (rw (← c.self.view_is) refl) c.in_ok-happen.ensures.meets c.happen.ensures.quiet c.count.ensures.counts

pub returns-in_err-happen-clause-grown : goal.returns-in_err-happen-clause-grown
returns-in_err-happen-clause-grown c = agreed_grows _ _ (goes_on_rest _ _ c.in_err-happen.ensures.meets.1).nodes.goes

pub returns-clause-grown : goal.returns-clause-grown
returns-clause-grown c =
    agreed_grows c.args.self.now.nodes c.count.new.self.nodes (goes_on_then c.happen.ensures.asked.asked c.args.self.now c.happen.new.self c.count.new.self c.happen.ensures.asked.goes (goes_on_still _ _ c.count.ensures.nodes c.count.ensures.clients c.count.ensures.rises)).nodes.goes

pub returns-clause-count : goal.returns-clause-count
returns-clause-count c =
    step_once c.args.self.now c.happen.new.self c.count.new.self c.losses-before.result c.self.inside.losses (rw (← c.self.view_is) refl) c.happen.ensures.once c.count.ensures.counts

pub returns-in_err-happen-clause-quiet : goal.returns-in_err-happen-clause-quiet
returns-in_err-happen-clause-quiet c = λ none low. ap (λ (w : WorldState). w.losses) c.in_err-happen.ensures.meets.1

pub returns-in_err-happen-clause-idle : goal.returns-in_err-happen-clause-idle
returns-in_err-happen-clause-idle c =
    let p = err_from_is_err_and c.from_residual.result c.from_residual.ensures.1 in
    rw p.1 ((λ err. c.in_err-happen.ensures.meets.0), (λ cannot. refl))

pub returns-clause-quiet : goal.returns-clause-quiet
returns-clause-quiet c =
    quiet_by c.args.event.now c.args.self.now (Ok tt) c.count.new.self
    (step_happens c.args.event.now c.args.self.now c.happen.new.self c.count.new.self c.losses-before.result c.self.inside.losses (rw (← c.self.view_is) c.losses-before.ensures)
    (rw (← c.self.view_is) refl) c.in_ok-happen.ensures.meets c.happen.ensures.quiet c.count.ensures.counts)

pub returns-clause-idle : goal.returns-clause-idle
returns-clause-idle c =
    idle_exactly c.args.event.now c.args.self.now (Ok tt) c.count.new.self
    (step_happens c.args.event.now c.args.self.now c.happen.new.self c.count.new.self c.losses-before.result c.self.inside.losses (rw (← c.self.view_is) c.losses-before.ensures)
    (rw (← c.self.view_is) refl) c.in_ok-happen.ensures.meets c.happen.ensures.quiet c.count.ensures.counts)
