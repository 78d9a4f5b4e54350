-- Each call of a `PipedClient` is a run of steps of the model's client.
use Rattle.std.specs.Prelude.{◌≡◌, ℕ, true, false, List, [], Result, Ok, Err}
use Rattle.packet.specs.Spelling.{IsPacket}
use Rattle.packet.specs.declared.packet.Packet.TheVariants as packets
use Rattle.broker_spec.specs.Commands.{usual_limits}
use Rattle.broker_spec.specs.Connection.{ConnectionName}
use Rattle.client_base.specs.declared.error.ClientError.{ClientError}
use Rattle.client_base.specs.Handled.{lost}
use Rattle.headline.specs.packet_world.Steps.{is_call}
use Rattle.session_base.specs.declared.publication.Publication.{Publication}
use Rattle.exactly_once.specs.Story.{StoryStep, Story}
use Rattle.world_base.specs.declared.node_connections.port.Port.{Port}
use Rattle.headline.specs.byte_world.World.{ClientPipes, after_writing}
use Rattle.headline.specs.byte_world.ClientSteps.{WritesCanBeSpelled, after_connecting, story_alone}
use Rattle.headline.specs.byte_world.Published.{published_by_call}
use Rattle.world_pipes.specs.declared.sending.Sending.{Sending}
use Rattle.world_pipes.specs.declared.sending.Sending.TheVariants as sendings
use Rattle.world_pipes.specs.Steps.{ClientTrace, published_in_steps}
use Rattle.world_pipes.specs.Piped.{CarriesDown, Piped, is_holding}
use Rattle.world_pipes.specs.StandsFor.{ClientStandsFor}

-- the model's client moves by steps in which it publishes this, and the client in code corresponds
-- to the one after them
pub record ModelFollows (published : List Publication) (model : ClientPipes) (new : Piped)
    : Type 0 where
  pub next : ClientPipes
  pub goes : ClientTrace model next
  pub publishes : published_in_steps goes ≡ published
  pub stands : ClientStandsFor new next

-- each client of the model that corresponded to it before follows, and publishes this
abbrev pub FollowsBy : List Publication → Piped → Piped → Type 0
FollowsBy published old new =
    (model : ClientPipes) → ClientStandsFor old model → ModelFollows published model new

-- each client of the model that corresponded to it before follows, and publishes nothing
abbrev pub FollowsAll : Piped → Piped → Type 0
FollowsAll old new = FollowsBy [] old new

-- ---- a lost connection

-- a client that loses its connection writes nothing
abbrev pub after_losing : ClientPipes → ClientPipes
after_losing client = after_writing (lost client.keeper) client.connections client

-- the model's client loses its connection, and publishes nothing
abbrev pub FollowsLosing : Piped → Piped → Type 0
FollowsLosing old new =
    (model : ClientPipes) → ClientStandsFor old model →
    ClientStandsFor new (after_losing model) × (goes : ClientTrace model (after_losing model))
    × (published_in_steps goes ≡ [])

-- ---- a new connection: the model's, under any name that its node gives it

-- the model's client gets a new connection, or moves without one after an error
abbrev pub ConnectingFollows : ℕ → Port → Piped → Result (Unit {0}) ClientError → Piped → Type 0
ConnectingFollows node port old (Ok done) new =
    (model : ClientPipes) (name : ConnectionName) → ClientStandsFor old model →
    ClientStandsFor new (after_connecting name node port model)
    × IsPacket (packets.Connect
    (record { client = model.keeper.client; clean = false; keep_alive = 0 }))
ConnectingFollows node port old (Err cause) new = FollowsAll old new

-- ---- a call

-- one call of the model's client, which publishes this, leads to one that the client in code
-- corresponds to
pub record FollowsCalling (published : List Publication) (model : ClientPipes)
    (new : Piped) : Type 0 where
  pub story : Story
  pub call : StoryStep usual_limits (story_alone model) story
  pub is_one : is_call call ≡ true
  pub publishes : published_by_call call ≡ published
  pub spelled : WritesCanBeSpelled model.connections story.connections
  pub stands : ClientStandsFor new (after_writing story.keeper story.connections model)

-- A refusal changes nothing, and nothing is published. If there was no memory for what was written,
-- the model's client lost its connection after its call.
abbrev pub CallingFollows : List Publication → Piped → Result Sending ClientError → Piped → Type 0
CallingFollows published old (Ok sendings.Sent) new =
    (model : ClientPipes) → ClientStandsFor old model → FollowsCalling published model new
CallingFollows published old (Ok sendings.Lost) new = FollowsBy published old new
CallingFollows published old (Err cause) new = new ≡ old

-- ---- receiving: a piece arrives, whole packets are handled, and the connection may be lost

-- whatever a client does with bytes, the model's client may do, and publishes nothing
abbrev pub CarryingFollows : Type 0
CarryingFollows =
    (count : ℕ) (old new : Piped) (result : Result (Unit {0}) ClientError) (model : ClientPipes) →
    ClientStandsFor old model → is_holding old ≡ true →
    CarriesDown count old result new → ModelFollows [] model new
