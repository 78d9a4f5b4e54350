-- How a group of nodes serves a world: what its nodes take is what the ends of the world's
-- connections read.
use Rattle.std.specs.Prelude.{◌≡◌, ℕ, true, false, List, ◌∷◌, filter, take}
use Rattle.machine.specs.Machine.{Rules}
use Rattle.ballot_base.specs.declared.config.Config.{Config}
use Rattle.broker_spec.specs.Connection.{ConnectionName}
use Rattle.broker_spec.specs.declared.command.Command.{Command}
use Rattle.broker_spec.specs.declared.command.Output.{Output}
use Rattle.broker_base.specs.State.{State}
use Rattle.lists.specs.Lists.{In}
use Rattle.agreement.specs.cut_logs.Moments.{Moment, Moments, IsAgreed}
use Rattle.agreement.specs.cut_logs.AgreedLists.{IsPrimary}
use Rattle.agreement.specs.Proposals.{commands_of}
use Rattle.agreement.specs.cut_logs.Proposals.{taken_at, taken_of}
use Rattle.exactly_once.specs.Sides.{ClientConnection}
use Rattle.exactly_once.specs.StoryCommands.{is_packet_of}
use Rattle.headline.specs.packet_world.World.{End, ClientEnds, PacketWorld}
use Rattle.headline.specs.packet_world.Steps.{HasPipe, is_of_connection}
use Rattle.headline.specs.packet_world.Exact.{commands_from}
use Rattle.headline.specs.packet_world.Served.{IsOfPipe, ServesWorld}

-- A node that was the active primary of a connection's ballot, and took of its packets those that
-- its end has read.
pub record ReadsAt {rules : Rules State Command Output} {config : Config}
    {moments : List (Moment State Command Output)} (came : Moments rules config moments)
    (connection : ClientConnection) (end : End) : Type 0 where
  pub node : ℕ
  pub moment : Moment State Command Output
  pub among : In moment moments
  pub primary : IsPrimary moment.world node connection.name.ballot
  pub taken : filter (λ command. is_packet_of command connection.name)
      (commands_of (taken_at node came))
      ≡ commands_from connection.name 0 (take end.read connection.written)

-- The premise about the nodes: they take commands of a connection only in the ballot of its name,
-- for each connection the packets that its end has read, in order, and nothing of others.
pub record TakesAsRead {rules : Rules State Command Output} {config : Config}
    {moments : List (Moment State Command Output)} (came : Moments rules config moments)
    (world : PacketWorld) : Type 0 where
  pub ballots : (row : ℕ × Command) → In row (taken_of came) → (name : ConnectionName) →
      is_packet_of row.1 name ≡ true → row.0 ≡ name.ballot
  pub ends : (index nth : ℕ) (client : ClientEnds) (connection : ClientConnection)
      (end : End) → HasPipe world index client nth connection end →
      ReadsAt came connection end
  pub known : (row : ℕ × Command) → In row (taken_of came) → is_of_connection row.1 ≡ true →
      IsOfPipe world row.1

-- If nodes take what their ends read (`TakesAsRead`), what is agreed at one moment is served by
-- what is agreed at the next: it has grown, and has of each connection a prefix of the packets that
-- were read, in order.
abbrev pub GroupsServe : Type 0
GroupsServe =
    (rules : Rules State Command Output) →
    ((ballot : ℕ) → is_of_connection (rules.start_of ballot) ≡ false) →
    (config : Config) (moment : Moment State Command Output)
    (moments : List (Moment State Command Output)) (world : PacketWorld) (later : List Command) →
    (came : Moments rules config (moment ∷ moments)) → IsAgreed config moments world.agreed →
    IsAgreed config (moment ∷ moments) later → TakesAsRead came world → ServesWorld world later
