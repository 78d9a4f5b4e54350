-- The agreed list begins a log, and each log keeps the order of proposing.
use Rattle.std.proofs.Common.{Bool, List, filter, ap, ◌∙◌, subst}
use Rattle.machine.specs.Machine.{Rules}
use Rattle.lists.specs.Lists.{IsPrefixOf}
use Rattle.lists.proofs.Prefixes.{prefix_then}
use Rattle.agreement.specs.cut_logs.Orders.{KeepsTheOrder}
use Rattle.agreement.specs.cut_logs.Theorems.{NodesAgree}
use Rattle.agreement.specs.cut_logs.Proposals.{taken_of}
use Rattle.agreement.specs.cut_logs.Whole.{whole}
use Rattle.agreement.specs.Proposals.{commands_of}
use Rattle.agreement.specs.whole_logs.Replica.{ReplicaState as WholeState}
use Rattle.agreement.proofs.of_cut_logs.Orders.{node_at}
use Rattle.headline.specs.packet_world.Agreed.{AgreedKeepsTheOrder}
use Rattle.headline.proofs.of_packet_world.NextPackets.{filter_joined}

filter_front : {X : Type 0} (test : X → Bool) (xs ys : List X) → IsPrefixOf xs ys → IsPrefixOf (filter test xs) (filter test ys)
filter_front test xs ys front = record { rest = filter test front.rest; is = ap (filter test) front.is ∙ filter_joined test xs front.rest }

pub agreed_in_order : {S C O : Type 0} (rules : Rules S C O) → KeepsTheOrder rules → NodesAgree rules → AgreedKeepsTheOrder rules
agreed_in_order {S = S} {C = C} rules keeps agree config a moments agreed came is =
    let order = keeps config a moments came in
    let holds = (agree config a moments agreed came is).1 in
    let at = node_at (whole a.world.archive) a.world.nodes holds.node holds.replica holds.stands in (
      order.0,
      λ names ballot own.
          prefix_then (filter_front names agreed holds.replica.log holds.held)
          (subst (λ (l : List C). IsPrefixOf (filter names l) (filter names (commands_of (taken_of came)))) (ap (λ (w : WholeState S C). w.log) at.2)
          (order.1 names ballot own holds.node at.0 at.1)),
    )
