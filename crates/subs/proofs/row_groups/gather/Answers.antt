-- None is left: all were added.
use Rattle.std.proofs.Common.{rules, ◌≡◌, ◌∙◌, [], ap, sym, subst, ℕ, List}
use Rattle.std.specs.BTreeMap.{BTreeMap}
use Rattle.packet_base.specs.declared.qos.QoS.{QoS}
use Rattle.subs_base.specs.Inside.{listed, AreOrdered}
use Rattle.subs.specs.Gathered.{gathered, groups_as_lists, clients_set}
use Rattle.subs.proofs.RowsGathered.{list_set}
use Rattle.subs.proofs.row_groups.gather.Goals as goal

pub returns : goal.returns
returns c =
    let done : c.loop-client.client-iterator ≡ [] = search rules in
    let left : AreOrdered (listed c.loop-client.client-iterator) = subst (λ (es : List (List ℕ × BTreeMap (List ℕ) QoS)). AreOrdered (listed es)) (sym done) tt in
    sym (ap (λ (es : List (List ℕ × BTreeMap (List ℕ) QoS)). clients_set (listed es) (gathered (groups_as_lists c.loop-client.groups.entries))) done)
    ∙ c.loop-client.invariant.whole
    ∙ list_set c.args.clients.now.entries c.loop-client.invariant.sorted (c.loop-client.invariant.ordered left)
