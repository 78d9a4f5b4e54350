-- Bytes reach a node, or a client.
use Rattle.std.specs.Prelude.{◌≡◌, ◌⊎◌, ◌<◌, ℕ, suc, ◌==◌, ◌&&◌, Bool, true, false, List, Some, None, length, slice_get, ◌-◌, drop, set, ◌≤◌, Err, take, Result}
use Rattle.world_nodes.specs.RunningNodes.{running}
use Rattle.world_pipes.specs.declared.pair.PipePair.{PipePair}
use Rattle.world_pipes.specs.Piped.{is_holding, Piped, CarriesDown}
use Rattle.world_pipes.specs.declared.clients.connection_slot.ConnectionSlot.{ConnectionSlot}
use Rattle.world_base.specs.declared.node_connections.port.Port.{Port}
use Rattle.world_base.specs.declared.node_core.item.Item.TheVariants.{Bytes}
use Rattle.headline.specs.node_moves.Moves.NodeCall.{takes}
use Rattle.world_nodes.specs.ExactSteps.{NodeDoesCall}
use Rattle.world_nodes.specs.Nodes.{NodesState}
use Rattle.world_nodes.specs.Steps.{NodeItemOrLost}
use Rattle.client_base.specs.declared.error.ClientError.TheVariants as errors
use Rattle.client_base.specs.declared.error.ClientError.{ClientError}

-- no bytes, or more than wait
abbrev pub IsNoPart : ℕ → List ℕ → Type 0
IsNoPart count waiting = (count ≡ 0) ⊎ (length waiting < count)

-- this many bytes are removed from the front of those in transit up
abbrev pub with_less : ℕ → ℕ → PipePair → Piped → Piped
with_less at count pair client =
    record client { pairs = set client.pairs at (record pair { up = drop count pair.up }) }

-- this many bytes in transit up on this connection reach its node, which runs, and are removed from
-- it
pub record CarriesUp (slot : ConnectionSlot) (port : Port) (count : ℕ) (old : NodesState)
    (client : Piped) (new : NodesState) (later : Piped) : Type 0 where
  pub pair : PipePair
  pub found : slice_get client.pairs slot.at ≡ Some pair
  pub some : 0 < count
  pub part : count ≤ length pair.up
  pub runs : running old.nodes slot.node ≡ None → ⊥
  pub step : NodeItemOrLost slot.node (Bytes port (take count pair.up) 0) old new
  pub acts : NodeDoesCall (slot.node - 1) (takes (Bytes port (take count pair.up) 0)) old new
  pub is : later ≡ with_less slot.at count pair client

-- that many bytes wait, and the node runs
pub record CanCarryUp (slot : ConnectionSlot) (count : ℕ) (nodes : NodesState)
    (client : Piped) : Type 0 where
  pub pair : PipePair
  pub found : slice_get client.pairs slot.at ≡ Some pair
  pub some : 0 < count
  pub part : count ≤ length pair.up
  pub runs : running nodes.nodes slot.node ≡ None → ⊥

-- if there is no memory for them, nothing happens
abbrev pub CarriesUpWhere : Bool → ConnectionSlot → Port → ℕ → NodesState → Piped → NodesState →
    Piped → Type 0
CarriesUpWhere true slot port count old client new later =
    CarriesUp slot port count old client new later
CarriesUpWhere false slot port count old client new later =
    (new ≡ old) × (later ≡ client) × CanCarryUp slot count old client

-- they cannot: too few wait, or the node has stopped
abbrev pub CannotCarryUp : ConnectionSlot → ℕ → NodesState → Piped → Type 0
CannotCarryUp slot count nodes client =
    (pair : PipePair) → slice_get client.pairs slot.at ≡ Some pair →
    (running nodes.nodes slot.node ≡ None) ⊎ IsNoPart count pair.up

-- bytes are carried to the client, whatever it does with them; it runs out of memory only if losses
-- are allowed
abbrev pub CarriesDownWhere : Bool → ℕ → Piped → Piped → Type 0
CarriesDownWhere whole count old new =
    (result : Result (Unit {0}) ClientError) × (whole ≡ true → result ≡ Err errors.Memory → ⊥)
    × CarriesDown count old result new

-- it holds the connection at this index, some bytes wait there, and it receives them, with memory
-- for all or not; or that is impossible
pub record CarriesDownOn (whole : Bool) (at count : ℕ) (old new : Piped) : Type 0 where
  pub held : (is_holding old && (suc at == length old.pairs)) ≡ true
  pub some : (pair : PipePair) → slice_get old.pairs at ≡ Some pair → IsNoPart count pair.down → ⊥
  pub carries : CarriesDownWhere whole count old new
  pub lost : whole ≡ false → CarriesDown count old (Err errors.Memory) new

-- it does not hold the connection at this index, or too few bytes wait there
abbrev pub CannotCarryDown : ℕ → ℕ → Piped → Type 0
CannotCarryDown at count client =
    (pair : PipePair) → slice_get client.pairs at ≡ Some pair →
    ((is_holding client && (suc at == length client.pairs)) ≡ false) ⊎ IsNoPart count pair.down
