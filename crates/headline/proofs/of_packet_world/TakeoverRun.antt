-- The run of the row, event by event.
use Rattle.std.specs.Prelude.{nat_lt, nat_le}
use Rattle.std.proofs.Common.{◌≡◌, ◌<◌, ◌≤◌, ℕ, true, false, List, [], ◌∷◌, ◌++◌, refl, arith}
use Rattle.packet.specs.declared.connack.Connack.TheVariants as connacks
use Rattle.packet.specs.declared.suback.SubackCode.TheVariants as codes
use Rattle.packet.specs.declared.packet.Packet.TheVariants as packets
use Rattle.session_base.specs.Publication.{publish_for}
use Rattle.packet_base.specs.declared.qos.QoS.TheVariants as qos_levels
use Rattle.broker_spec.specs.Sessions.{current_connection, clean_session_of}
use Rattle.broker_spec.specs.Owner.{named}
use Rattle.broker_spec.specs.Subscriptions.{subscriptions_of}
use Rattle.broker_spec.specs.Received.{received_of}
use Rattle.broker_spec.specs.Retained.{retained_publications}
use Rattle.broker_spec.specs.Times.{entries_of}
use Rattle.broker_spec.specs.Commands.{past_from}
use Rattle.broker_spec.specs.declared.command.Command.{Command}
use Rattle.broker_spec.specs.declared.command.Command.TheVariants as commands
use Rattle.client_base.specs.Keeper.{Own, Keeper}
use Rattle.client_base.specs.Written.{plain, written_publish}
use Rattle.client_base.specs.Connected.{opening_connect}
use Rattle.exactly_once.specs.Sides.{ClientConnection}
use Rattle.exactly_once.specs.Story.StoryStep.{subscribes, publishes_one, loses}
use Rattle.exactly_once.specs.Rows.{writer, second_connection, news, asks_for_news}
use Rattle.broker_spec.specs.Connection.{first_connection}
use Rattle.headline.specs.packet_world.World.{End, ClientEnds, PacketWorld}
use Rattle.headline.specs.packet_world.Steps.{Reached}
use Rattle.headline.specs.packet_world.Steps.PacketWorldStep.{calls, opens as gets_connection, handles, reads, answers, closes, agrees, agrees_else}
use Rattle.headline.specs.packet_world.Steps.Reached.{begins, goes_on}
use Rattle.headline.specs.packet_world.Rows.{AcceptsOnce}

less_by : (n m : ℕ) → nat_lt n m ≡ true → n < m
less_by n m e = grind (arith, e)

within_by : (n m : ℕ) → nat_le n m ≡ true → n ≤ m
within_by n m e = grind (arith, e)

abbrev first_one : ClientConnection
first_one =
    record {
      name = first_connection;
      written = opening_connect writer ∷ plain (packets.Subscribe asks_for_news) ∷ written_publish false 0 1 news ∷ [];
      taken = 3;
      handled = 2;
      confirmed = true;
      accepted = [];
    }

abbrev lost_one : Keeper
lost_one =
    record {
      client = writer;
      earlier = [];
      own = Own.Sent 0 news 1 ∷ [];
      releases = [];
      requests = [];
      received = [];
      is_open = false;
      is_online = false;
      was_served = true;
    }

abbrev first_end : End
first_end =
    record {
      read = 3;
      seen = 2;
      put = packets.Connack (connacks.Accepted false) ∷ packets.Suback (record { id = 1; codes = codes.Granted qos_levels.ExactlyOnce ∷ [] }) ∷ [];
      is_open = false;
    }

abbrev lost_world : PacketWorld
lost_world =
    record {
      agreed = commands.Connect first_connection writer false ∷ commands.Packet first_connection (packets.Subscribe asks_for_news)
          ∷ commands.Packet first_connection (packets.Publish (publish_for false 1 news)) ∷ commands.Start 2 ∷ [];
      clients = (let c : ClientEnds = record { keeper = lost_one; connections = first_one ∷ []; ends = first_end ∷ [] } in c) ∷ [];
    }

until_lost : Reached (writer ∷ []) lost_world
unfolding past_from current_connection clean_session_of named subscriptions_of received_of retained_publications entries_of
until_lost =
    let e0 = goes_on begins (gets_connection 0 _ first_connection 0 refl (refl, tt) (within_by _ _ refl)) in
    let e1 = goes_on e0 (reads 0 0 _ _ _ (record { client = refl; connection = refl; end = refl }) refl (less_by _ _ refl)) in
    let e2 = goes_on e1 (agrees 0 0 _ _ _ _ (record { client = refl; connection = refl; end = refl }) (less_by _ _ refl) refl) in
    let e3 = goes_on e2 (answers 0 0 _ _ _ _ (record { client = refl; connection = refl; end = refl }) refl refl) in
    let e4 = goes_on e3 (handles 0 _ _ _ _ _ _ refl refl refl refl refl) in
    let e5 = goes_on e4 (calls 0 _ _ (subscribes asks_for_news refl refl) refl refl) in
    let e6 = goes_on e5 (reads 0 0 _ _ _ (record { client = refl; connection = refl; end = refl }) refl (less_by _ _ refl)) in
    let e7 = goes_on e6 (agrees 0 0 _ _ _ _ (record { client = refl; connection = refl; end = refl }) (less_by _ _ refl) refl) in
    let e8 = goes_on e7 (answers 0 0 _ _ _ _ (record { client = refl; connection = refl; end = refl }) refl refl) in
    let e9 = goes_on e8 (handles 0 _ _ _ _ _ _ refl refl refl refl refl) in
    let e10 = goes_on e9 (calls 0 _ _ (publishes_one news (λ e. refl)) refl refl) in
    let e11 = goes_on e10 (reads 0 0 _ _ _ (record { client = refl; connection = refl; end = refl }) refl (less_by _ _ refl)) in
    let e12 = goes_on e11 (agrees 0 0 _ _ _ _ (record { client = refl; connection = refl; end = refl }) (less_by _ _ refl) refl) in
    let e13 = goes_on e12 (closes 0 0 _ _ _ (record { client = refl; connection = refl; end = refl })) in
    let e14 = goes_on e13 (agrees_else (commands.Start 2) refl) in
    goes_on e14 (calls 0 _ _ (loses) refl refl)

-- the client has come back to another node, and its publication was sent again
abbrev second_one : ClientConnection
second_one =
    record {
      name = second_connection;
      written = opening_connect writer ∷ written_publish true 0 1 news ∷ plain (packets.Pubrec 1) ∷ [];
      taken = 2;
      handled = 2;
      confirmed = true;
      accepted = news ∷ [];
    }

abbrev back_one : Keeper
back_one = record lost_one { received = 1 ∷ []; is_open = true; is_online = true }

abbrev second_end : End
second_end =
    record {
      read = 2;
      seen = 6;
      put = packets.Connack (connacks.Accepted true) ∷ packets.Publish (publish_for true 1 news) ∷ packets.Pubrec 1 ∷ [];
      is_open = true;
    }

abbrev list_again : List Command
list_again =
    commands.Connect first_connection writer false
    ∷ commands.Packet first_connection (packets.Subscribe asks_for_news)
    ∷ commands.Packet first_connection (packets.Publish (publish_for false 1 news))
    ∷ commands.Start 2
    ∷ commands.Connect second_connection writer false
    ∷ commands.Packet second_connection (packets.Publish (publish_for true 1 news))
    ∷ []

abbrev again_world : PacketWorld
again_world =
    record {
      agreed = list_again;
      clients = (let c : ClientEnds = record { keeper = back_one; connections = second_one ∷ first_one ∷ []; ends = second_end ∷ first_end ∷ [] } in c) ∷ [];
    }

until_again : Reached (writer ∷ []) again_world
unfolding past_from current_connection clean_session_of named subscriptions_of received_of retained_publications entries_of
until_again =
    let e0 = goes_on until_lost (gets_connection 0 _ second_connection 4 refl (refl, tt) (within_by _ _ refl)) in
    let e1 = goes_on e0 (reads 0 0 _ _ _ (record { client = refl; connection = refl; end = refl }) refl (less_by _ _ refl)) in
    let e2 = goes_on e1 (agrees 0 0 _ _ _ _ (record { client = refl; connection = refl; end = refl }) (less_by _ _ refl) refl) in
    let e3 = goes_on e2 (answers 0 0 _ _ _ _ (record { client = refl; connection = refl; end = refl }) refl refl) in
    let e4 = goes_on e3 (handles 0 _ _ _ _ _ _ refl refl refl refl refl) in
    let e5 = goes_on e4 (handles 0 _ _ _ _ _ _ refl refl refl refl refl) in
    let e6 = goes_on e5 (reads 0 0 _ _ _ (record { client = refl; connection = refl; end = refl }) refl (less_by _ _ refl)) in
    let e7 = goes_on e6 (agrees 0 0 _ _ _ _ (record { client = refl; connection = refl; end = refl }) (less_by _ _ refl) refl) in
    goes_on e7 (answers 0 0 _ _ _ _ (record { client = refl; connection = refl; end = refl }) refl refl)

-- what it sent and what it was sent are released
abbrev released_one : ClientConnection
released_one =
    record second_one {
      written = opening_connect writer ∷ written_publish true 0 1 news ∷ plain (packets.Pubrec 1) ∷ plain (packets.Pubrel 1) ∷ plain (packets.Pubcomp 1) ∷ [];
      taken = 3;
      handled = 4;
    }

abbrev released_world : PacketWorld
released_world =
    record {
      agreed = list_again ++ commands.Packet second_connection (packets.Pubrec 1) ∷ [];
      clients = (let c : ClientEnds = record {
        keeper = record back_one { own = Own.Released 0 news 1 ∷ []; releases = 1 ∷ []; received = [] };
        connections = released_one ∷ first_one ∷ [];
        ends = record second_end { read = 3; seen = 7; put = second_end.put ++ packets.Pubrel 1 ∷ [] } ∷ first_end ∷ [];
      } in c) ∷ [];
    }

until_released : Reached (writer ∷ []) released_world
unfolding past_from current_connection clean_session_of named subscriptions_of received_of retained_publications entries_of
until_released =
    let e0 = goes_on until_again (handles 0 _ _ _ _ _ _ refl refl refl refl refl) in
    let e1 = goes_on e0 (reads 0 0 _ _ _ (record { client = refl; connection = refl; end = refl }) refl (less_by _ _ refl)) in
    let e2 = goes_on e1 (agrees 0 0 _ _ _ _ (record { client = refl; connection = refl; end = refl }) (less_by _ _ refl) refl) in
    let e3 = goes_on e2 (answers 0 0 _ _ _ _ (record { client = refl; connection = refl; end = refl }) refl refl) in
    goes_on e3 (handles 0 _ _ _ _ _ _ refl refl refl refl refl)

-- to the end
pub accepts_once : AcceptsOnce
unfolding past_from current_connection clean_session_of named subscriptions_of received_of retained_publications entries_of
accepts_once =
    let e0 = goes_on until_released (reads 0 0 _ _ _ (record { client = refl; connection = refl; end = refl }) refl (less_by _ _ refl)) in
    let e1 = goes_on e0 (agrees 0 0 _ _ _ _ (record { client = refl; connection = refl; end = refl }) (less_by _ _ refl) refl) in
    let e2 = goes_on e1 (answers 0 0 _ _ _ _ (record { client = refl; connection = refl; end = refl }) refl refl) in
    let e3 = goes_on e2 (handles 0 _ _ _ _ _ _ refl refl refl refl refl) in
    let e4 = goes_on e3 (reads 0 0 _ _ _ (record { client = refl; connection = refl; end = refl }) refl (less_by _ _ refl)) in
    let e5 = goes_on e4 (agrees 0 0 _ _ _ _ (record { client = refl; connection = refl; end = refl }) (less_by _ _ refl) refl) in
    record { end = _; reached = e5; agreed = refl; accepted = refl }
