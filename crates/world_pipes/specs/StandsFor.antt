-- Which client of the model of worlds a `PipedClient` corresponds to. History is only in the model.
use Rattle.std.specs.Prelude.{◌≡◌, true, false, IsTrue, List, [], ◌∷◌, ◌++◌, length, reverse}
use Rattle.packet_base.specs.Spelling.{IsId}
use Rattle.packet_base.specs.ClientId.{is_client}
use Rattle.packet.specs.Spelling.{IsPacket}
use Rattle.lists.specs.Lists.{Each, IsPrefixOf}
use Rattle.client_base.specs.declared.unacknowledged_publication.UnacknowledgedPublication.{UnacknowledgedPublication}
use Rattle.client_base.specs.State.{ClientState, publish_kept}
use Rattle.client_base.specs.History as history
use Rattle.exactly_once.specs.Acceptance.{accepted_on}
use Rattle.exactly_once.specs.Sides.{ClientConnection}
use Rattle.headline.specs.byte_world.Accepted.{accepted_at_qos2}
use Rattle.headline.specs.byte_world.World.{ClientPipes, Pipe}
use Rattle.world_pipes.specs.declared.pair.PipePair.{PipePair}
use Rattle.world_pipes.specs.Piped.{Piped, is_holding}

-- A connection leads where the model's does. Of what is in transit up, the end may be missing if
-- memory ran out: then the connection is lost.
pub record IsPipePair (pair : PipePair) (pipe : Pipe) : Type 0 where
  pub node : pipe.node ≡ pair.node
  pub port : pipe.port ≡ pair.port
  pub up : IsPrefixOf pair.up pipe.up
  pub down : pipe.down ≡ pair.down

-- the connections correspond to the model's pipes, one to one and in the same order
abbrev pub ArePipePairs : List PipePair → List Pipe → Type 0
ArePipePairs (pair ∷ pairs) (pipe ∷ pipes) = IsPipePair pair pipe × ArePipePairs pairs pipes
ArePipePairs [] [] = Unit {0}
ArePipePairs _ _ = ⊥

-- the connection that is held, from end to end: what came and is not handled is what the client did
-- not read
pub record IsHolding (client : Piped) (model : ClientPipes) : Type 0 where
  pub connection : ClientConnection
  pub others : List ClientConnection
  pub connections : model.connections ≡ connection ∷ others
  pub pipe : Pipe
  pub further : List Pipe
  pub pipes : model.pipes ≡ pipe ∷ further
  pub older : List PipePair
  pub pair : PipePair
  pub pairs : client.pairs ≡ older ++ pair ∷ []
  pub up : pipe.up ≡ pair.up
  pub came : pipe.came ≡ client.core.unread
  pub sent : client.core.out ≡ []

-- the client's keep alive is 0, and what it keeps can be encoded when it is sent again
pub record CanGoOut (state : ClientState) : Type 0 where
  pub keep_alive : state.keep_alive ≡ 0
  pub client : IsTrue (is_client state.client)
  pub released : Each IsId state.released
  pub sent : Each
      (λ (kept : UnacknowledgedPublication). IsPacket (publish_kept false kept)) state.sent
  pub queued : Each
      (λ (kept : UnacknowledgedPublication). IsPacket (publish_kept false kept)) state.queued

-- the client in code corresponds to this one of the model
pub record ClientStandsFor (client : Piped) (model : ClientPipes) : Type 0 where
  pub keeper : history.KeeperStandsFor model.keeper client.core.state
  pub fits : CanGoOut client.core.state
  -- at QoS 2 it shows what the model's client accepted, connection by connection
  pub accepted : accepted_at_qos2 client.core.state.accepted ≡ accepted_on model.connections
  pub many : length model.connections ≡ length model.pipes
  pub pairs : ArePipePairs (reverse client.pairs) model.pipes
  pub held : is_holding client ≡ true → IsHolding client model
