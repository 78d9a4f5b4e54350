use Rattle.std.proofs.Common.{refl, ap, ◌∙◌, subst}
use Rattle.world_base.specs.declared.node_core.item.Item.{Item}
use Rattle.node.specs.Growth.{grown, saturated}
use Rattle.node.specs.State.{NodeStateView, TakesOne}
use Rattle.node.proofs.CountsInRun.{counts_stepped}
use Rattle.node.proofs.Growing.{grown_since}
use Rattle.node.proofs.Recorded.{is_recorded, one_more_of_lanes, tallies_more, took_seen}
use Rattle.node.proofs.Replaying.{stepped}
use Rattle.node.proofs.node_state.NodeState.take_one.Goals as goal

pub invariant_of-self : goal.invariant_of-self
invariant_of-self g c =
    let tallies = tallies_more _ _ (c.in-Some.field-0-0, c.in-Some.sent) _ _ _ _ c.in-Some.ensures.taken c.take_sent.ensures (c.self.invariant.2, c.self.invariant.3) in (
      stepped g.J.NodeNaming.first_of _ _ (c.in-Some.field-0-0, c.in-Some.sent) _ _ _ _ c.in-Some.ensures.taken
          c.self.invariant.0 c.take_sent.ensures.stepped,
      grown_since _ _ _ _ (c.in-Some.field-0-0, c.in-Some.sent) c.in-Some.ensures.taken c.self.invariant.1
          (c.grown-self-inside.ensures ∙ ap (λ (i : Item). saturated (grown c.self.inside.grown i)) c.item.ensures),
      tallies.0,
      tallies.1,
      one_more_of_lanes c.self.inside.receiver _ (c.in-Some.field-0-0, c.in-Some.sent) c.in-Some.ensures.taken c.in-Some.ensures.lane c.self.invariant.4,
      counts_stepped g.H.RunNaming.nodes g.H.RunNaming.config _ _ c.in-Some.sent _ _ c.self.inside.counts c.take_sent.ensures c.self.invariant.5,
    )

pub returns-in-Some-clause-took : goal.returns-in-Some-clause-took
returns-in-Some-clause-took g c = λ _.
    let old : NodeStateView = record { receiver = c.self.inside.receiver; node = c.self.inside.node.node; log = c.self.inside.node.log; takings = c.self.inside.takings; counts = c.self.inside.counts } in
    let new : NodeStateView = record { receiver = c.take.new.self; node = c.take_sent.new.self.node; log = c.take_sent.new.self.log; takings = c.saturating_add-self-inside.result; counts = c.self.inside.counts } in
    let tallies = tallies_more _ _ (c.in-Some.field-0-0, c.in-Some.sent) _ _ _ _ c.in-Some.ensures.taken c.take_sent.ensures (c.self.invariant.2, c.self.invariant.3) in
    subst (λ (s : NodeStateView). TakesOne s new c.args.effects.now.items c.take_sent.new.effects.items) c.self.view_is
    (record {
      lane = c.in-Some.field-0-0;
      item = c.in-Some.sent;
      taken = c.in-Some.ensures.taken;
      stepped = c.take_sent.ensures.stepped;
      counts = refl;
      in_run = took_seen old new c.self.inside.node c.take_sent.new.self _ _ _ (is_recorded old _ c.self.invariant.2 refl refl) (is_recorded new _ tallies.0 refl refl) c.take_sent.ensures;
    })
