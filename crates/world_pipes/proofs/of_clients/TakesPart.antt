-- TakesPart.antt: bytes that come to a node were in transit, and the connection leads on to it.
use Rattle.std.proofs.Common.{◌≡◌, ◌<◌, ◌≤◌, ◌-◌, ℕ, List, Some, None, length, slice_get, refl, ap, ◌∙◌, subst, arith}
use Rattle.std.specs.Prelude.{IfSome, drop, take}
use Rattle.world_base.specs.declared.node_core.item.Item.TheVariants.{Bytes}
use Rattle.world_base.specs.declared.node_connections.port.Port.{Port}
use Rattle.headline.specs.node_moves.Moves.NodeCall.{takes}
use Rattle.world_nodes.specs.ExactSteps.{NodeDoesCall}
use Rattle.world_nodes.specs.RunningNodes.{running}
use Rattle.world_nodes.specs.Nodes.{NodesState}
use Rattle.world_nodes.specs.Steps.{NodeItemOrLost}
use Rattle.world_pipes.specs.declared.pair.PipePair.{PipePair}
use Rattle.world_pipes.specs.Piped.{Piped}
use Rattle.world_pipes.specs.declared.clients.connection_slot.ConnectionSlot.{ConnectionSlot}
use Rattle.world_pipes.specs.clients.SlotsAreValid.{connection_targets}
use Rattle.world_pipes.specs.clients.Transport.{with_less, CanCarryUp, CarriesUp}
use Rattle.world_pipes.proofs.of_clients.LeadsKept.{leads_set}
use Rattle.world_pipes.proofs.of_clients.Turned.{there}

-- what comes is what was in transit
pub takes_part : (place : ConnectionSlot) (port : Port) (count : ℕ) (old : NodesState) (client : Piped) (new : NodesState) (later : Piped) (waiting piece : List ℕ)
    → place.at < length client.pairs → IfSome (slice_get client.pairs place.at) (λ pair. waiting ≡ pair.up) → 0 < count → count ≤ length waiting
    → (running old.nodes place.node ≡ None → ⊥) → piece ≡ take count waiting
    → IfSome (slice_get client.pairs place.at) (λ pair. later ≡ with_less place.at count pair client) → NodeItemOrLost place.node (Bytes port piece 0) old new
    → NodeDoesCall (place.node - 1) (takes (Bytes port piece 0)) old new → CarriesUp place port count old client new later
takes_part place port count old client new later waiting piece below up some part runs is less step acts =
    let w = there client.pairs place.at below in
    let waits : waiting ≡ w.0.up = of_some (λ (pair : PipePair). waiting ≡ pair.up) w.0 w.1 up in
    record {
      pair = w.0;
      found = w.1;
      some = some;
      runs = runs;
      part = (let e = ap length waits in omega (arith, e, part));
      step = subst (λ (l : List ℕ). NodeItemOrLost place.node (Bytes port l 0) old new) (is ∙ ap (take count) waits) step;
      acts = subst (λ (l : List ℕ). NodeDoesCall (place.node - 1) (takes (Bytes port l 0)) old new) (is ∙ ap (take count) waits) acts;
      is = of_some (λ (pair : PipePair). later ≡ with_less place.at count pair client) w.0 w.1 less;
    }
  where
    of_some : (P : PipePair → Type 0) (pair : PipePair) → slice_get client.pairs place.at ≡ Some pair → IfSome (slice_get client.pairs place.at) P → P pair
    of_some P pair e i = subst (λ o. IfSome o P) e i

-- if there is no memory for it, it could have come
pub can_take : (place : ConnectionSlot) (count : ℕ) (old : NodesState) (client : Piped) (waiting : List ℕ) → place.at < length client.pairs → IfSome (slice_get client.pairs place.at) (λ pair. waiting ≡ pair.up)
    → 0 < count → count ≤ length waiting → (running old.nodes place.node ≡ None → ⊥) → CanCarryUp place count old client
can_take place count old client waiting below up some part runs =
    let w = there client.pairs place.at below in
    let waits : waiting ≡ w.0.up = of_some (λ (pair : PipePair). waiting ≡ pair.up) w.0 w.1 up in
    record { pair = w.0; found = w.1; some = some; part = (let e = ap length waits in omega (arith, e, part)); runs = runs }
  where
    of_some : (P : PipePair → Type 0) (pair : PipePair) → slice_get client.pairs place.at ≡ Some pair → IfSome (slice_get client.pairs place.at) P → P pair
    of_some P pair e i = subst (λ o. IfSome o P) e i

-- and the connection leads to the same node
pub less_leads : (client later : Piped) (at count : ℕ) (pair : PipePair) → slice_get client.pairs at ≡ Some pair
    → IfSome (slice_get client.pairs at) (λ pair. later ≡ with_less at count pair client) → connection_targets later.pairs ≡ connection_targets client.pairs
less_leads client later at count pair found less =
    ap (λ (p : Piped). connection_targets p.pairs) (of_some found less) ∙ leads_set client.pairs at pair (record pair { up = drop count pair.up }) found refl
  where
    of_some : slice_get client.pairs at ≡ Some pair → IfSome (slice_get client.pairs at) (λ w. later ≡ with_less at count w client) → later ≡ with_less at count pair client
    of_some e i = subst (λ o. IfSome o (λ w. later ≡ with_less at count w client)) e i
