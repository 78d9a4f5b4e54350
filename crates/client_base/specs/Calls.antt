-- The effect of opening a connection, and of each packet from the server (MQTT 3, 4.3, 4.4).
use Rattle.std.specs.Prelude.{◌+◌, ◌-◌, ◌^◌, Bool, false, not, ◌&&◌, ◌==◌, min, nat_lt}
use Rattle.std.specs.Prelude.{if◌then◌else◌, [], ◌∷◌, ◌++◌, Some, None}
use Rattle.packet.specs.declared.connack.Connack.TheVariants as connacks
use Rattle.packet.specs.declared.packet.Packet.{Packet}
use Rattle.packet.specs.declared.packet.Packet.TheVariants as packets
use Rattle.client_base.specs.declared.error.ClientError.{ClientError}
use Rattle.client_base.specs.declared.error.ClientError.TheVariants as errors
use Rattle.client_base.specs.declared.stage.Stage.{Stage}
use Rattle.client_base.specs.declared.stage.Stage.TheVariants as stages
use Rattle.client_base.specs.State.{ClientState, resent, lost}
use Rattle.client_base.specs.Answered.{ClientOutcome, going_on, ending, on_publish, on_pubrel, on_puback}
use Rattle.client_base.specs.Answered.{on_pubrec, on_pubcomp, is_subscribe}
use Rattle.client_base.specs.Answered.{is_unsubscribe, answered}

-- nothing changes, and this error is returned
abbrev pub refused_call : ClientError → ClientState → ClientOutcome
refused_call cause state = record { state = state; writes = []; refusal = Some cause }

-- ---- a connection begins

-- CONNECT with CleanSession 0, on a new connection
abbrev pub opened : ClientState → ClientOutcome
opened state =
    going_on (record (lost state) { stage = stages.Opened })
    (packets.Connect
    (record { client = state.client; clean = false; keep_alive = state.keep_alive }) ∷ [])

-- whether the server lost the session of a client that had one
abbrev pub loses_session : Bool → ClientState → Bool
loses_session present state = not present && nat_lt 0 state.session

-- what is kept is dropped, and the next session begins; its number stays below 2^64
abbrev pub discarded : ClientState → ClientState
discarded state =
    record state {
      released = [];
      sent = [];
      queued = [];
      received = [];
      session = min (state.session + 1) (2 ^ 64 - 1);
    }

-- the first session has number 1
abbrev pub numbered : ClientState → ClientState
numbered state = record state { session = if state.session == 0 then 1 else state.session }

-- CONNACK 0: what is in flight is retransmitted, then what is queued is sent (MQTT 3.2.2, 4.4)
abbrev pub on_connack : Bool → ClientState → ClientOutcome
on_connack present state =
    let lacking = loses_session present state in
    let kept = if lacking then discarded state else numbered state in
    record {
      state = record kept {
        sent = kept.sent ++ kept.queued;
        queued = [];
        stage = stages.Online;
        session_present = present;
      };
      writes = resent kept;
      refusal = if lacking then Some errors.SessionLost else None;
    }

-- ---- packets of the server

-- the first one on a connection has to be CONNACK (MQTT 3.2)
abbrev pub on_first : Packet → ClientState → ClientOutcome
on_first (packets.Connack (connacks.Accepted present)) state = on_connack present state
on_first (packets.Connack (connacks.Refused code)) state = ending errors.NotActive state
on_first _ state = ending errors.Protocol state

-- a later one; a second CONNACK, or a packet that only a client sends, ends the connection
abbrev pub on_later : Packet → ClientState → ClientOutcome
on_later (packets.Publish publish) state = on_publish publish publish.delivery state
on_later (packets.Puback id) state = on_puback id state
on_later (packets.Pubrec id) state = on_pubrec id state
on_later (packets.Pubcomp id) state = on_pubcomp id state
on_later (packets.Pubrel id) state = on_pubrel id state
on_later (packets.Suback suback) state = answered (is_subscribe suback.id) state
on_later (packets.Unsuback id) state = answered (is_unsubscribe id) state
on_later packets.Pingresp state = going_on state []
on_later _ state = ending errors.Protocol state

-- a packet from the server, by the stage of the connection
abbrev pub client_receives : Packet → Stage → ClientState → ClientOutcome
client_receives packet stages.Closed state = refused_call errors.NotActive state
client_receives packet stages.Opened state = on_first packet state
client_receives packet stages.Online state = on_later packet state
