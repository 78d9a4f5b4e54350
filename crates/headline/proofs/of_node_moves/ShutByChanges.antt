-- What changes of the open connection of a port, and proposals after them, make of a connection
-- that may be closed.
use Rattle.std.proofs.Common.{◌≡◌, ℕ, Bool, true, false, if◌then◌else◌, List, [], ◌∷◌, Some, refl, sym, ap, subst}
use Rattle.std.proofs.lemmas.List.{append-nil}
use Rattle.packet.specs.declared.packet.Packet.TheVariants as packets
use Rattle.packet.specs.declared.connack.Connack.TheVariants as connacks
use Rattle.packet_base.specs.declared.refusal_code.RefusalCode.{RefusalCode}
use Rattle.packet.specs.Spelling.{spelling}
use Rattle.ballot_base.specs.declared.message.Effect.{Effect}
use Rattle.ballot_base.specs.Replica.{CountedReplica}
use Rattle.ballot_base.specs.Service.{proposed}
use Rattle.broker_spec.specs.declared.command.Command.{Command}
use Rattle.broker_base.specs.State.{State}
use Rattle.broker_spec.specs.declared.command.Output.{Output}
use Rattle.broker_spec.specs.Connection.{ConnectionName, same_connection}
use Rattle.world_base.specs.declared.node_connections.port.Port.{Port}
use Rattle.world_base.specs.declared.node_connections.connection.Connection.{Connection}
use Rattle.world_base.specs.node_connections.Connections.{is_at, is_open_at}
use Rattle.world_base.specs.node_connections.ConnectionChanges.{noted_proposed, with_unread, left_with}
use Rattle.world_base.specs.node_core.Core.{CoreState, rules, serves}
use Rattle.world_base.specs.node_core.PacketInput.{changes, open_at}
use Rattle.world_base.specs.node_connections.Refusals.{connect_refused}
use Rattle.world_base.specs.node_core.Effects.{has_room, proposes}
use Rattle.headline.specs.node_moves.Closed.{listed_named}
use Rattle.headline.specs.node_moves.Ends.{IsOrderly}
use Rattle.headline.specs.node_moves.Puts.{spelled}
use Rattle.headline.proofs.of_node_moves.NamesInOrder.{same_le}
use Rattle.headline.proofs.of_node_moves.Views.{found_passes}
use Rattle.headline.proofs.of_node_moves.Kept.{changed_orderly, left_true, live, named}
use Rattle.headline.proofs.of_node_moves.Shut.{Shuts, shuts_joined, shuts_nothing, shuts_on, shuts_others}
use Rattle.headline.proofs.of_node_moves.Shut.Shuts.{stays_open, is_shut}
use Rattle.headline.proofs.of_node_moves.ShutByOutputs.{bytes_for, given_by, proposed_shuts}

-- ---- changes of the open connection of a port

pub at_shuts : (x : ConnectionName) (port : Port) (f : Connection → Connection) (core : CoreState) → IsOrderly core → ((d : Connection) → (f d).name ≡ d.name)
    → ((d : Connection) → live d ≡ true → Shuts [] (Some d) (Some (f d))) → Shuts [] (listed_named x core) (listed_named x (changes port f core))
unfolding changes
at_shuts x port f core o name each =
    shuts_nothing x (is_open_at port) f core.connections (o.names x) (λ d e. left_true (live d) (is_at port d) e) name each

pub at_orderly : (port : Port) (f : Connection → Connection) (core : CoreState) → IsOrderly core → ((d : Connection) → (f d).name ≡ d.name) → IsOrderly (changes port f core)
unfolding changes
at_orderly port f core o name = changed_orderly core (changes port f core) (is_open_at port) f o refl refl (same_le core.replica.state.joined) name

pub at_replica : (port : Port) (f : Connection → Connection) (core : CoreState) → (changes port f core).replica ≡ core.replica
unfolding changes
at_replica port f core = refl

pub holding_shuts : (piece : List ℕ) (d : Connection) → live d ≡ true → Shuts [] (Some d) (Some (with_unread piece d))
holding_shuts piece d e = stays_open e e (sym (append-nil d.pending))

pub left_shuts : (now : ℕ) (rest : List ℕ) (d : Connection) → live d ≡ true → Shuts [] (Some d) (Some (left_with now rest d))
left_shuts now rest d e = stays_open e e (sym (append-nil d.pending))

pub asked_shuts : (keep_alive : ℕ) (d : Connection) → live d ≡ true → Shuts [] (Some d) (Some (noted_proposed keep_alive d))
asked_shuts keep_alive d e = stays_open e refl (sym (append-nil d.pending))

-- a proposal after a change of connections
pub after_shuts : (x : ConnectionName) (command : Command) (core between : CoreState) → Shuts [] (listed_named x core) (listed_named x between) → IsOrderly between
    → between.replica ≡ core.replica
    → Shuts (bytes_for x (given_by command (serves core) core.replica.state)) (listed_named x core) (listed_named x (proposes command between).core)
after_shuts x command core between first o same =
    shuts_joined first
    (subst (λ (l : List (Effect Command Output)). Shuts (bytes_for x l) (listed_named x between) (listed_named x (proposes command between).core)) (ap given_of same)
    (proposed_shuts x command between o))
  where
    given_of : CountedReplica State Command → List (Effect Command Output)
    given_of r = given_by command (serves (let k : CoreState = record { replica = r; last_name = record { ballot = 0; count = 0 }; connections = [] } in k)) r.state

pub with_room : (x : ConnectionName) (command : Command) (core between : CoreState) → has_room core ≡ true
    → Shuts (bytes_for x (given_by command (serves core) core.replica.state)) (listed_named x core) (listed_named x (proposes command between).core)
    → Shuts (bytes_for x (proposed rules core.replica.state command).effects) (listed_named x core) (listed_named x (proposes command between).core)
with_room x command core between room h =
    subst (λ (b : Bool). Shuts (bytes_for x (given_by command b core.replica.state)) (listed_named x core) (listed_named x (proposes command between).core))
    (left_true (serves core) _ room) h

-- a CONNECT that is refused with a code
refusing_shuts : (x : ConnectionName) (port : Port) (c : Connection) (code : RefusalCode) (core : CoreState) → IsOrderly core → open_at port core ≡ Some c
    → (b : Bool) → named x c ≡ b
    → Shuts (spelled (if b then packets.Connack (connacks.Refused code) ∷ [] else [])) (listed_named x core) (listed_named x (changes port (connect_refused code) core))
unfolding changes
refusing_shuts x port c code core o at true is =
    shuts_on x (is_open_at port) (connect_refused code) core.connections c _ (o.names x) (λ d. refl) at is
    (is_shut (spelling (packets.Connack (connacks.Refused code))) (left_true (live c) (is_at port c) (found_passes (is_open_at port) core.connections c at)) refl refl
    (record { rest = []; is = refl }))
refusing_shuts x port c code core o at false other = shuts_others x (is_open_at port) (connect_refused code) core.connections c (λ d. refl) at other

pub refused_shuts : (x : ConnectionName) (port : Port) (c : Connection) (code : RefusalCode) (core : CoreState) → IsOrderly core → open_at port core ≡ Some c
    → Shuts (spelled (if same_connection c.name x then packets.Connack (connacks.Refused code) ∷ [] else [])) (listed_named x core)
    (listed_named x (changes port (connect_refused code) core))
refused_shuts x port c code core o at = refusing_shuts x port c code core o at (named x c) refl
