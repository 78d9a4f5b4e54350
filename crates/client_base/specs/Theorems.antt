-- Under a kept identifier no publication at QoS 2 is accepted once more (MQTT 4.3.3).
use Rattle.std.specs.Prelude.{◌≡◌, ℕ, Bool, true, false, ◌⊎◌}
use Rattle.packet.specs.declared.connack.Connack.TheVariants as connacks
use Rattle.packet.specs.declared.delivery.Delivery.TheVariants as deliveries
use Rattle.packet.specs.declared.publish.Publish.{Publish}
use Rattle.packet.specs.declared.packet.Packet.TheVariants as packets
use Rattle.lists.specs.Lists.{has_id}
use Rattle.client_base.specs.State.{ClientState}
use Rattle.client_base.specs.Answered.{on_publish, accepting}
use Rattle.client_base.specs.Steps.{Call, keeper_step}

-- Under a kept identifier nothing is accepted; under any other the publication is, and the
-- identifier is kept from then on.
abbrev pub AcceptsUnlessKept : Type 0
AcceptsUnlessKept =
    (publish : Publish) (dup : Bool) (id : ℕ) (state : ClientState) →
    let after = (on_publish publish (deliveries.ExactlyOnce dup id) state).state in
    (has_id id state.received ≡ true → after ≡ state)
    × (has_id id state.received ≡ false → after.accepted ≡ (accepting publish state).accepted)
    × (has_id id after.received ≡ true)

-- An identifier stays kept until its PUBREL, or a CONNACK 0 without a session.
abbrev pub StaysKept : Type 0
StaysKept =
    (id : ℕ) (call : Call) (state : ClientState) → has_id id state.received ≡ true →
    (has_id id (keeper_step call state).state.received ≡ true)
    ⊎ ((call ≡ Call.Receives (packets.Pubrel id))
    ⊎ (call ≡ Call.Receives (packets.Connack (connacks.Accepted false))))
