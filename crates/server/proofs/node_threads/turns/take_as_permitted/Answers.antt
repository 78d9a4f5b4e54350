use Rattle.std.proofs.Common.{refl, ◌∙◌, ap, sym}
use Rattle.mailbox.specs.Ends.{LaneView, ReceiverView}
use Rattle.world_base.specs.declared.node_core.item.Item.{Item}
use Rattle.server.specs.node_threads.Turns.Turns.{takes}
use Rattle.server.proofs.of_node_threads.GivenBySteps.{given_more}
use Rattle.server.proofs.of_node_threads.TurnsEnd.{found_none, given_none}
use Rattle.server.proofs.node_threads.turns.take_as_permitted.Goals as goal

pub loop-init : goal.loop-init
loop-init g c = record {
  given = (given_none c.args.node.now _ c.new-effects.ensures.items).0;
  turns = (given_none c.args.node.now _ c.new-effects.ensures.items).1;
  lane = refl;
  inbox = c.requires.inbox;
}

pub loop-preserved : goal.loop-preserved
loop-preserved g c = record {
  given =
      given_more c.loop.node c.take_one.new.self c.loop.effects.items c.take_one.new.effects.items
      (c.if-not-take_one.ensures.took refl) c.loop.invariant.given;
  turns = takes _ _ c.loop.invariant.turns (c.if-not-take_one.ensures.took refl);
  lane = c.receipt-receipt.ensures.same ∙ c.loop.invariant.lane;
  inbox =
      ap (λ (lane : LaneView Item). lane.inbox) c.receipt-receipt.ensures.same ∙ c.loop.invariant.inbox
      ∙ sym (ap (λ (receiver : ReceiverView Item). receiver.inbox) (c.if-not-take_one.ensures.took refl).taken);
}

pub returns-then-not-take_one-clause-given : goal.returns-then-not-take_one-clause-given
returns-then-not-take_one-clause-given g c =
    found_none c.args.node.now c.loop.node c.meet.new.self c.loop.effects.items c.new.result c.loop.invariant.turns
    (c.meet.ensures.same ∙ c.if-not-take_one.ensures.same refl)
    (c.new.ensures ∙ (c.new-given.ensures ∙ c.if-not-take_one.ensures.silent refl))
