-- How connections change in a step in which memory may run out: one with a gap is closed.
use Rattle.std.specs.Prelude.{◌≡◌, ◌⊎◌, ℕ, true, false, if◌then◌else◌, List, [], ◌∷◌, ◌++◌}
use Rattle.broker_spec.specs.Connection.{ConnectionName, same_connection}
use Rattle.broker_spec.specs.declared.command.Command.{Command}
use Rattle.broker_spec.specs.declared.command.Output.{Output}
use Rattle.broker_spec.specs.declared.command.Output.TheVariants as outputs
use Rattle.packet_base.specs.declared.refusal_code.RefusalCode.{RefusalCode}
use Rattle.packet.specs.declared.packet.Packet.TheVariants as packets
use Rattle.packet.specs.declared.connack.Connack.TheVariants as connacks
use Rattle.packet.specs.Spelling.{spelling}
use Rattle.lists.specs.Lists.{Each, IsPrefixOf}
use Rattle.ballot_base.specs.declared.message.Effect.{Effect}
use Rattle.ballot_base.specs.declared.message.Effect.TheVariants.{To, Out}
use Rattle.world_base.specs.declared.node_core.item.Item.{Item}
use Rattle.world_base.specs.declared.node_core.item.Item.TheVariants.{Opened}
use Rattle.world_base.specs.declared.node_connections.connection.Connection.{Connection}
use Rattle.world_base.specs.node_connections.Connections.{fresh, is_closed}
use Rattle.world_base.specs.node_core.Core.{CoreState}
use Rattle.world_base.specs.node_core.Lossy.{Account}
use Rattle.world_base.specs.node_core.LossyStep.{ActsOn}
use Rattle.world_base.specs.node_core.Step.{next_name}

-- the bytes of one output for a connection: none if it is for another
abbrev pub bytes_by : Output → ConnectionName → List ℕ
bytes_by (outputs.Send to packet) name = if same_connection name to then spelling packet else []
bytes_by (outputs.Close to) name = []

-- the bytes of all that the replica output for a connection, in order
abbrev pub bytes_for : List (Effect Command Output) → ConnectionName → List ℕ
bytes_for [] name = []
bytes_for (Out place output ∷ given) name = bytes_by output name ++ bytes_for given name
bytes_for (To receiver message ∷ given) name = bytes_for given name

-- the answer of the node itself to a CONNECT that is refused with a code (MQTT 3.2.2.3)
abbrev pub IsRefusalOfConnect : List ℕ → Type 0
IsRefusalOfConnect bytes =
    (code : RefusalCode) × (bytes ≡ spelling (packets.Connack (connacks.Refused code)))

-- A connection keeps its port and its name in a step. If it was closed, it still is, with the same
-- pending output. If it is open, it was open, and all these bytes were queued. If it was closed in
-- the step, a prefix of them was queued, and perhaps the node's refusal.
pub record ConnectionGoesOn (bytes : List ℕ) (old new : Connection) : Type 0 where
  pub port : new.port ≡ old.port
  pub name : new.name ≡ old.name
  pub closed : is_closed old.stage ≡ true →
      (is_closed new.stage ≡ true) × (new.pending ≡ old.pending)
  pub whole : is_closed new.stage ≡ false → new.pending ≡ old.pending ++ bytes
  pub prefix : List ℕ
  pub answer : List ℕ
  pub begins : IsPrefixOf prefix bytes
  pub refusal : (answer ≡ []) ⊎ IsRefusalOfConnect answer
  pub put : new.pending ≡ old.pending ++ (prefix ++ answer)

-- each connection of a list goes on (`ConnectionGoesOn`), in order, and none is added or removed
abbrev pub EachGoesOn : List (Effect Command Output) → List Connection → List Connection → Type 0
EachGoesOn given [] [] = Unit {0}
EachGoesOn given [] (new ∷ after) = ⊥
EachGoesOn given (old ∷ before) [] = ⊥
EachGoesOn given (old ∷ before) (new ∷ after) =
    ConnectionGoesOn (bytes_for given old.name) old new × EachGoesOn given before after

-- no two have the same name
abbrev pub AreNamedApart : List Connection → Type 0
AreNamedApart [] = Unit {0}
AreNamedApart (one ∷ others) =
    Each (λ (other : Connection). same_connection other.name one.name ≡ false) others
    × AreNamedApart others

-- an item opens at most one connection, at its port, with the next name
abbrev pub OpensAtMostOne : Item → CoreState → List Connection → Type 0
OpensAtMostOne (Opened port now) core new = (new ≡ []) ⊎ (new ≡ fresh port (next_name core) ∷ [])
OpensAtMostOne _ core new = new ≡ []

-- what a step does before connections are settled, if no two have the same name, or will get one
pub record GoOn (item : Item) (core : CoreState) (account : Account) : Type 0 where
  pub new : List Connection
  pub is_new : OpensAtMostOne item core new
  pub each : AreNamedApart (core.connections ++ new) →
      EachGoesOn account.given (core.connections ++ new) account.core.connections

-- connections go on (`GoOn`) in each step that is allowed on an item, even if memory runs out
abbrev pub AGapIsClosed : Type 0
AGapIsClosed =
    (item : Item) (core : CoreState) (account : Account) →
    ActsOn item core account → GoOn item core account
