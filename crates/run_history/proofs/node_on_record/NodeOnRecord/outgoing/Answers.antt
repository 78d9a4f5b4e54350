use Rattle.std.proofs.Common.{◌≡◌, ◌+◌, List, [], refl, ap, sym, ◌∙◌, subst}
use mathlib.Core.List.{IsPrefix}
use Rattle.world_base.specs.node_core.Core.{CountedCore}
use Rattle.world_base.specs.node_core.PortOutput.{hands_over}
use Rattle.run_history.specs.declared.event.NodeAct.TheVariants.{HandsOver}
use Rattle.run_history.specs.declared.event.NodeEvent.{NodeEvent}
use Rattle.run_history.specs.declared.event.RunEvent.{RunEvent}
use Rattle.run_history.specs.History.{IsNodeOf}
use Rattle.run_history.specs.Rules.MayAdd.{node_may}
use Rattle.run_history.proofs.Knowing.{handed_so, node_after}
use Rattle.run_history.proofs.Prefixes.{prefix_self}
use Rattle.run_history.proofs.node_on_record.NodeOnRecord.outgoing.Goals as goal

pub add_or_wait-requires-clause-may : goal.add_or_wait-requires-clause-may
add_or_wait-requires-clause-may g c =
    let me = c.self.inside in
    let is_next : c.of-after.result.value ≡ c.outgoing.new.self = c.of-after.ensures in
    let left : c.outgoing.new.self ≡ record me.core { core = hands_over c.args.port me.core.core } = c.in_ok-handed.ensures.left in
    let event : NodeEvent = record { node = me.index; act = HandsOver c.args.port; after = c.of-after.result.value; given = [] } in
    let begins : IsPrefix me.seen c.again-seen.result = subst (λ (l : List RunEvent). IsPrefix me.seen l) (sym c.again-seen.ensures) (prefix_self me.seen) in
    node_may event me.seen me.core.core begins c.self.invariant.2 c.self.invariant.1 (ap (λ (k : CountedCore). k.core) (is_next ∙ left), refl)

pub invariant_of-self-2 : goal.invariant_of-self-2
invariant_of-self-2 g c =
    let nodes = g.H.RunNaming.nodes in
    let config = g.H.RunNaming.config in
    let me = c.self.inside in
    let v = c.again-seen.result in
    let w = c.add_or_wait.new.self in
    let event : NodeEvent = record { node = me.index; act = HandsOver c.args.port; after = c.of-after.result.value; given = [] } in
    let begins : IsPrefix me.seen v = subst (λ (l : List RunEvent). IsPrefix me.seen l) (sym c.again-seen.ensures) (prefix_self me.seen) in
    let after : IsNodeOf nodes config w me.index c.of-after.result.value.core (me.count + 1) = node_after nodes config me.seen v w event me.core.core me.count begins c.self.invariant.2 c.add_or_wait.ensures in
    (c.self.invariant.0, c.self.invariant.1, subst (λ (n : CountedCore). IsNodeOf nodes config w me.index n.core (me.count + 1)) c.of-after.ensures after)

pub returns-clause-hands : goal.returns-clause-hands
returns-clause-hands g c =
    let me = c.self.inside in
    let v = c.again-seen.result in
    let begins : IsPrefix me.seen v = subst (λ (l : List RunEvent). IsPrefix me.seen l) (sym c.again-seen.ensures) (prefix_self me.seen) in
    rw (← c.self.view_is) (handed_so _ _ v c.args.port c.of-after.result.value me.count begins c.add_or_wait.ensures c.of-after.ensures c.self.invariant.2.counted refl c.in_ok-handed.ensures.left)
