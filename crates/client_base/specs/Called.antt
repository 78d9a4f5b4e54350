-- The effect of a call on a client with its history (MQTT 3.1, 3.3, 3.8, 3.10, 3.14).
use Rattle.std.specs.Prelude.{ℕ, false, if◌then◌else◌, List, [], ◌∷◌, ◌++◌}
use Rattle.packet_base.specs.declared.qos.QoS.{QoS}
use Rattle.packet.specs.declared.packet.Packet.{Packet}
use Rattle.packet.specs.declared.packet.Packet.TheVariants as packets
use Rattle.session_base.specs.declared.publication.Publication.{Publication}
use Rattle.session_base.specs.Publication.{is_answered}
use Rattle.session_base.specs.Identifiers.{least_free}
use Rattle.client_base.specs.declared.request.Request.{Request}
use Rattle.client_base.specs.declared.request.Request.TheVariants as requests
use Rattle.client_base.specs.Keeper.{Own, Written, Keeper, Side}
use Rattle.client_base.specs.Keeper.{ids_in_use, next_own_number}
use Rattle.client_base.specs.Written.{plain, written_publish, writes}
use Rattle.client_base.specs.Handled.{lost, packet_handled}
use Rattle.client_base.specs.Steps.{Call}
use Rattle.client_base.specs.Connected.{opened, disconnects}

-- ---- publishing and asking

-- a client's publications after one more: at QoS 0 it is done at once, otherwise it is sent if the
-- client is online and queued if not
abbrev pub adds_own : Publication → Keeper → Keeper
adds_own publication keeper =
    record keeper {
      own = keeper.own
          ++ (if is_answered publication.qos
          then (if keeper.is_online
          then Own.Sent (next_own_number keeper) publication (least_free (ids_in_use keeper))
          else Own.Queued (next_own_number keeper) publication (least_free (ids_in_use keeper)))
          else Own.Done (next_own_number keeper) publication) ∷ [];
    }

-- what is written for a publication: its PUBLISH if the client is online
abbrev pub written_for : Publication → Keeper → List Written
written_for publication keeper =
    if keeper.is_online
    then written_publish false (next_own_number keeper) (least_free (ids_in_use keeper)) publication
    ∷ []
    else []

-- one more request waits for its acknowledgement
abbrev pub with_request : Request → Keeper → Keeper
with_request request keeper = record keeper { requests = keeper.requests ++ request ∷ [] }

-- the SUBSCRIBE to one filter, with the least free identifier
abbrev pub next_subscribe : List ℕ → QoS → Keeper → Packet
next_subscribe filter qos keeper =
    packets.Subscribe (record {
      id = least_free (ids_in_use keeper);
      filters = record { filter = filter; qos = qos } ∷ [];
    })

-- the UNSUBSCRIBE from one filter, with the least free identifier
abbrev pub next_unsubscribe : List ℕ → Keeper → Packet
next_unsubscribe filter keeper =
    packets.Unsubscribe (record { id = least_free (ids_in_use keeper); filters = filter ∷ [] })

-- ---- the step: a call without an error, or a packet, on the connection that was opened last; a
-- connection that it opens gets the fresh name

-- the effect of a call without an error
abbrev pub keeper_goes : {Name : Type 0} → Name → Call → Side Name → Side Name
keeper_goes fresh Call.Opens side = opened 0 fresh side.keeper
keeper_goes fresh (Call.Publishes publication) side =
    record {
      keeper = adds_own publication side.keeper;
      connection = writes (written_for publication side.keeper) side.connection;
    }
keeper_goes fresh (Call.Subscribes filter qos) side =
    record {
      keeper = with_request (requests.Subscribes (least_free (ids_in_use side.keeper))) side.keeper;
      connection = writes (plain (next_subscribe filter qos side.keeper) ∷ []) side.connection;
    }
keeper_goes fresh (Call.Unsubscribes filter) side =
    record {
      keeper = with_request (requests.Unsubscribes (least_free (ids_in_use side.keeper)))
          side.keeper;
      connection = writes (plain (next_unsubscribe filter side.keeper) ∷ []) side.connection;
    }
keeper_goes fresh (Call.Receives packet) side = packet_handled packet side
keeper_goes fresh Call.Loses side = record side { keeper = lost side.keeper }
keeper_goes fresh Call.Disconnects side =
    record {
      keeper = lost side.keeper;
      connection = writes (disconnects side.keeper) side.connection;
    }
