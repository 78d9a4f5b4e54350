use Rattle.std.proofs.Common.{◌∙◌, ap, inl, inr, subst, Bool}
use Rattle.world.specs.Inside.Transport.{CarriesUpOnWhere}
use Rattle.world.specs.World.{WorldState}
use Rattle.world.proofs.ItemsMet.{carries_up, lost_up}
use Rattle.world.proofs.Joined.{goes_on_join, goes_on_still}
use Rattle.world.proofs.world.World.carry_up_on.Goals as goal

pub returns-then-whole-clause-goes : goal.returns-then-whole-clause-goes
returns-then-whole-clause-goes c = goes_on_join _ _ _ c.carry_to_node.ensures.goes c.gather.ensures.goes

pub returns-then-whole-clause-meets : goal.returns-then-whole-clause-meets
returns-then-whole-clause-meets c =
    inl (carries_up c.args.number c.args.slot c.args.count c.args.self.now c.carry_to_node.new.self c.gather.new.self c.requires.stands c.requires.positive c.requires.up
    (subst (λ (whole : Bool). CarriesUpOnWhere whole c.args.number c.args.slot c.args.count c.args.self.now c.carry_to_node.new.self) c.if-whole.true c.in_ok-whole.ensures.carries)
    c.gather.ensures.gathers (c.gather.ensures.still ∙ c.carry_to_node.ensures.still))

pub returns-else-whole-clause-goes : goal.returns-else-whole-clause-goes
returns-else-whole-clause-goes c =
    goes_on_join _ _ _ c.carry_to_node.ensures.goes
    (goes_on_still _ _ (ap (λ (w : WorldState). w.nodes) c.count_loss.ensures.lost) (ap (λ (w : WorldState). w.clients) c.count_loss.ensures.lost) c.count_loss.ensures.rises)

pub returns-else-whole-clause-meets : goal.returns-else-whole-clause-meets
returns-else-whole-clause-meets c =
    inr (lost_up c.args.number c.args.slot c.args.count c.args.self.now c.carry_to_node.new.self c.count_loss.new.self c.requires.stands c.requires.positive c.requires.up
    (subst (λ (whole : Bool). CarriesUpOnWhere whole c.args.number c.args.slot c.args.count c.args.self.now c.carry_to_node.new.self) c.if-whole.false c.in_ok-whole.ensures.carries)
    c.count_loss.ensures.lost)
