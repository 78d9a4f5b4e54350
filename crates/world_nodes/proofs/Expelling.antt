-- A node that runs and has room takes the item Expel, or there was no memory for it.
use Rattle.std.proofs.Common.{◌≡◌, inl, inr, ◌-◌, ℕ, refl, subst}
use Rattle.std.specs.Prelude.{OnOk, Result, Ok, Err}
use Rattle.broker_spec.specs.Place.{Client}
use Rattle.master.specs.declared.event.Idle.{Idle}
use Rattle.world_base.specs.declared.node_core.item.Item.TheVariants.{Expel}
use Rattle.headline.specs.node_moves.Moves.NodeCall.{takes}
use Rattle.world_nodes.specs.Nodes.{NodesState}
use Rattle.world_nodes.specs.ExactSteps.{NodeDoesCall, TakesExactly}
use Rattle.world_nodes.specs.Steps.{NodeExpelOrLost, NodeItemOrLost, NodesLoseNothing, nodes_with_loss}
use Rattle.world_nodes.specs.GroupSteps.{NodeCallOrLost}
use Rattle.world_nodes.proofs.Exactly.{exactly}
use Rattle.world_nodes.proofs.MasterActs.{counts}

expels_exactly : (client : Client) (node : ℕ) (old new : NodesState) → NodeExpelOrLost client node old new → NodesLoseNothing old new → TakesExactly node (Expel client) old new
expels_exactly client node old new (inl took) none = exactly node (Expel client) old new took none
expels_exactly client node old new (inr is) none = absurd (counts (nodes_with_loss old) old new refl is none)

-- ---- of a result, if the item has a copy of the identifier

pub expels_on : {X : Type 0} (r : Result X Idle) (client copy : Client) (node : ℕ) (old new : NodesState) → copy ≡ client → OnOk r (NodeItemOrLost node (Expel copy) old new)
    → OnOk r (NodeExpelOrLost client node old new)
expels_on (Ok x) client copy node old new same took = inl (subst (λ (z : Client). NodeItemOrLost node (Expel z) old new) same took)
expels_on (Err e) client copy node old new same took = tt

pub proposes_on : {X : Type 0} (r : Result X Idle) (client : Client) (node : ℕ) (old new : NodesState) → OnOk r (NodeExpelOrLost client node old new) → NodesLoseNothing old new
    → OnOk r (TakesExactly node (Expel client) old new)
proposes_on (Ok x) client node old new expels none = expels_exactly client node old new expels none
proposes_on (Err e) client node old new expels none = tt

pub may_expel_on : {X : Type 0} (r : Result X Idle) (client copy : Client) (node : ℕ) (old new : NodesState) → copy ≡ client → OnOk r (NodeDoesCall (node - 1) (takes (Expel copy)) old new)
    → OnOk r (NodeCallOrLost (node - 1) (takes (Expel client)) old new)
may_expel_on (Ok x) client copy node old new same acts = inl (subst (λ (z : Client). NodeDoesCall (node - 1) (takes (Expel z)) old new) same acts)
may_expel_on (Err e) client copy node old new same acts = tt
