use Rattle.std.proofs.Common.{◌≡◌, ◌-◌, List, ◌∙◌, ap, length, sym, arith}
use Rattle.std.proofs.lemmas.Bool.{ltb-false, ltb-true}
use Rattle.world_base.specs.node_core.Core.{CountedCore}
use Rattle.world_nodes.specs.Inside.{held_at}
use Rattle.world_nodes.proofs.AgreedCounted.{held_nowhere, held_there}
use Rattle.world_nodes.proofs.nodes.Nodes.held.Goals as goal

pub returns-in-Some : goal.returns-in-Some
returns-in-Some c =
    let place : c.saturating_sub.result ≡ c.args.node - 1 = omega (arith, c.saturating_sub.ensures) in
    rw (← c.self.view_is) (held_there c.deref.result.now c.args.node c.saturating_sub.result c.in-Some.core.now c.status.result place
    (ltb-true c.saturating_sub.result (length c.deref.result.now) (sym c.in-Some.ensures.lookup.0)) c.in-Some.ensures.lookup.1 c.status.ensures
    ∙ ap (λ (l : List CountedCore). held_at l c.args.node) c.deref.ensures.value)

pub returns-in-None : goal.returns-in-None
returns-in-None c =
    let place : c.saturating_sub.result ≡ c.args.node - 1 = omega (arith, c.saturating_sub.ensures) in
    rw (← c.self.view_is) (held_nowhere c.deref.result.now c.args.node c.saturating_sub.result place
    (ltb-false c.saturating_sub.result (length c.deref.result.now) (sym c.in-None.ensures.lookup.0))
    ∙ ap (λ (l : List CountedCore). held_at l c.args.node) c.deref.ensures.value)
