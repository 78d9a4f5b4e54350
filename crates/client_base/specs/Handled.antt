-- The effect of a packet from the server on a client with its history (MQTT 3.2, 4.3, 4.4).
use Rattle.std.specs.Prelude.{ℕ, suc, Bool, true, false, not, ◌&&◌, if◌then◌else◌, [], ◌∷◌, ◌++◌}
use Rattle.std.specs.Prelude.{map, filter}
use Rattle.packet.specs.declared.connack.Connack.TheVariants as connacks
use Rattle.packet.specs.declared.packet.Packet.{Packet}
use Rattle.packet.specs.declared.packet.Packet.TheVariants as packets
use Rattle.session_base.specs.Publication.{publication_of}
use Rattle.client_base.specs.declared.request.Request.{Request}
use Rattle.client_base.specs.Answered.{is_subscribe, is_unsubscribe}
use Rattle.session_base.specs.Identifiers.{without_id}
use Rattle.client_base.specs.Keeper.{Keeper, Side, all_own}
use Rattle.client_base.specs.Written.{plain, resent_written, sent_all, writing}
use Rattle.client_base.specs.Handshakes.{own_at_puback, own_at_pubcomp, pubrec_answered, takes_in}

-- ---- CONNACK 0, and the end of a connection

-- the session is lost; what the client published stays in its history
abbrev pub discarded : Keeper → Keeper
discarded keeper =
    record keeper { earlier = all_own keeper; own = []; releases = []; received = [] }

-- a CONNACK 0: what was kept is dropped if the server lost the session, and sent otherwise
abbrev pub confirmed : {Name : Type 0} → Bool → Side Name → Side Name
confirmed present side =
    let kept =
    if not present && side.keeper.was_served then discarded side.keeper else side.keeper in
    record {
      keeper = record kept { own = sent_all kept.own; is_online = true; was_served = true };
      connection = record side.connection {
        written = side.connection.written ++ resent_written kept;
        confirmed = true;
      };
    }

-- a client without its connection: its requests end, the rest stays
abbrev pub lost : Keeper → Keeper
lost keeper = record keeper { requests = []; is_open = false; is_online = false }

-- ---- each packet; one that only a client sends, a second CONNACK, or another first packet ends
-- the connection

-- whether SUBACK with this identifier leaves the request
abbrev pub not_subscribes : ℕ → Request → Bool
not_subscribes id request = not (is_subscribe id request)

-- whether UNSUBACK with this identifier leaves it
abbrev pub not_unsubscribes : ℕ → Request → Bool
not_unsubscribes id request = not (is_unsubscribe id request)

-- a packet to a client that is online
abbrev pub handled_online : {Name : Type 0} → Packet → Side Name → Side Name
handled_online (packets.Publish publish) side =
    takes_in publish.delivery (publication_of publish) side
handled_online (packets.Puback id) side =
    record side { keeper = record side.keeper { own = map (own_at_puback id) side.keeper.own } }
handled_online (packets.Pubrec id) side = pubrec_answered id side
handled_online (packets.Pubcomp id) side =
    record side {
      keeper = record side.keeper {
        own = map (own_at_pubcomp id) side.keeper.own;
        releases = without_id id side.keeper.releases;
      };
    }
handled_online (packets.Pubrel id) side =
    writing (plain (packets.Pubcomp id) ∷ [])
    (record side { keeper = record side.keeper { received = without_id id side.keeper.received } })
handled_online (packets.Suback suback) side =
    record side {
      keeper =
          record side.keeper { requests = filter (not_subscribes suback.id) side.keeper.requests };
    }
handled_online (packets.Unsuback id) side =
    record side {
      keeper =
          record side.keeper { requests = filter (not_unsubscribes id) side.keeper.requests };
    }
handled_online packets.Pingresp side = side
handled_online _ side = record side { keeper = lost side.keeper }

-- the first packet on a connection, which has to be CONNACK 0
abbrev pub handled_first : {Name : Type 0} → Packet → Side Name → Side Name
handled_first (packets.Connack (connacks.Accepted present)) side = confirmed present side
handled_first _ side = record side { keeper = lost side.keeper }

-- a packet is handled and counted
abbrev pub packet_handled : {Name : Type 0} → Packet → Side Name → Side Name
packet_handled packet side =
    let counted = record side
    { connection = record side.connection { handled = suc side.connection.handled } } in
    if side.keeper.is_online then handled_online packet counted else handled_first packet counted
