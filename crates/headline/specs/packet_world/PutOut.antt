-- The outputs of a node are sent on the ends of its connections.
use Rattle.std.specs.Prelude.{◌≡◌, ◌≤◌, ℕ, true, List, ◌∷◌, ◌++◌, length, map, set, slice_get, Some}
use Rattle.agreement.specs.whole_logs.Application.{outputs_between}
use Rattle.ballot_base.specs.declared.config.Config.{Config}
use Rattle.ballot_base.specs.Replica.{ReplicaState}
use Rattle.agreement.specs.cut_logs.NodeOutputs.{LeadsOn, given_of}
use Rattle.agreement.specs.cut_logs.Moments.{Moment, Moments, IsAgreed}
use Rattle.agreement.specs.World.{outputs}
use Rattle.broker_spec.specs.Connection.{ConnectionName}
use Rattle.broker_spec.specs.Place.{Client}
use Rattle.broker_spec.specs.declared.command.Command.{Command}
use Rattle.broker_spec.specs.declared.command.Output.{Output}
use Rattle.broker_base.specs.State.{State}
use Rattle.broker_base.specs.form.BrokerRules.{broker_rules}
use Rattle.exactly_once.specs.Sends.{sends_to}
use Rattle.exactly_once.specs.Sides.{ClientConnection}
use Rattle.headline.specs.packet_world.World.{End, ClientEnds, PacketWorld, with_client}
use Rattle.headline.specs.packet_world.Steps.{HasPipe, Reached}

-- the outputs that a node returned, without their places
abbrev pub outputs_alone : List (ℕ × Output) → List Output
outputs_alone given = map (λ (row : ℕ × Output). row.1) given

-- the end of a connection whose node has applied the list up to a place and output this, of which
-- it sent what is for the connection
abbrev pub end_given : ConnectionName → ℕ → List (ℕ × Output) → End → End
end_given name places given end =
    record end { seen = places; put = end.put ++ sends_to name (outputs_alone given) }

-- The outputs of the machine at the next places of the agreed list, none left out, may be sent on
-- an open end: the world reaches a state that has them.
abbrev pub GivenIsPutOut : Type 0
GivenIsPutOut =
    (clients : List Client) (world : PacketWorld) (index nth : ℕ) (client : ClientEnds)
    (connection : ClientConnection) (end : End) (places : ℕ) →
    Reached clients world → HasPipe world index client nth connection end →
    end.is_open ≡ true → end.seen ≤ places → places ≤ length world.agreed →
    Reached clients (with_client index
    (record client {
      ends = set client.ends nth
          (end_given connection.name places
          (outputs (outputs_between broker_rules world.agreed end.seen places)) end);
    }) world)

-- All outputs of a node of a group between two moments of a ballot that it leads may be sent on an
-- open end that has what the node output before.
abbrev pub GroupsPutOut : Type 0
GroupsPutOut =
    (config : Config) (first last : Moment State Command Output)
    (moments later : List (Moment State Command Output))
    (came : Moments broker_rules config (first ∷ moments))
    (more : Moments broker_rules config (last ∷ later))
    (node ballot : ℕ) → LeadsOn node ballot came last later more →
    (old new : ReplicaState State Command) → slice_get first.world.nodes node ≡ Some old →
    slice_get last.world.nodes node ≡ Some new →
    (given : List (ℕ × Output)) → given_of node more ≡ given_of node came ++ given →
    (clients : List Client) (world : PacketWorld) → Reached clients world →
    IsAgreed config (last ∷ later) world.agreed →
    (index nth : ℕ) (client : ClientEnds) (connection : ClientConnection) (end : End) →
    HasPipe world index client nth connection end →
    end.is_open ≡ true → end.seen ≡ old.committed →
    Reached clients (with_client index
    (record client {
      ends = set client.ends nth (end_given connection.name new.committed given end);
    }) world)
