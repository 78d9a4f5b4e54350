-- Each event of a story is a run of the handshake in which the client publishes.
use Rattle.std.proofs.Common.{◌≡◌, true, List, [], ◌∷◌, ◌++◌, Some, refl, sym, subst}
use Rattle.std.specs.Prelude.{slice_get}
use Rattle.packet.specs.declared.packet.Packet.{Packet}
use Rattle.packet.specs.declared.packet.Packet.TheVariants as packets
use Rattle.broker_spec.specs.Place.{Limits}
use Rattle.lists.specs.Lists.{Each}
use Rattle.exactly_once.specs.HandshakeInvariant.{IsGood}
use Rattle.exactly_once.specs.Sends.{put_to}
use Rattle.exactly_once.specs.Sides.{ClientConnection}
use Rattle.client_base.specs.declared.request.Request.TheVariants as requests
use Rattle.client_base.specs.Written.{plain}
use Rattle.client_base.specs.Handled.{packet_handled}
use Rattle.exactly_once.specs.Story.{Story, with_side}
use Rattle.exactly_once.specs.Story.StoryStep.{takes, others_take, receives, opens_anew, loses, disconnects, publishes_one, subscribes, unsubscribes}
use Rattle.exactly_once.specs.Inside.Projections.{as_publisher, GoesTo}
use Rattle.exactly_once.specs.Inside.Shape.{HeldInShape, HasShape}
use Rattle.exactly_once.specs.Inside.EachEvent.{EventPublishes}
use Rattle.exactly_once.specs.Inside.ConnectionShape.{ConnectionInShape}
use Rattle.exactly_once.proofs.publishing.Calls.{loses_it, opens_another, disconnects_it, writes_quietly}
use Rattle.exactly_once.proofs.publishing.events.PublishesOne.{publishes_it}
use Rattle.exactly_once.proofs.publishing.events.Receives.{receives_it}
use Rattle.exactly_once.proofs.publishing.events.Takes.{takes_it}
use Rattle.exactly_once.proofs.publishing.events.Others.{others_take_it}

-- what a packet does on the newest connection
receives_there : (limits : Limits) (s : Story) (connections others : List ClientConnection) (κ : ClientConnection) (packet : Packet) → connections ≡ κ ∷ others → HasShape limits (record s { connections = connections })
    → IsGood (as_publisher limits (record s { connections = connections })) → s.keeper.is_open ≡ true → slice_get (put_to limits s.past κ.name) κ.handled ≡ Some packet
    → GoesTo (as_publisher limits (record s { connections = connections }))
    (as_publisher limits (with_side s others (packet_handled packet (record { keeper = s.keeper; connection = κ }))))
receives_there limits s connections others κ packet are shape good opened next =
    subst (λ (cs : List ClientConnection). GoesTo (as_publisher limits (record s { connections = cs }))
    (as_publisher limits (with_side s others (packet_handled packet (record { keeper = s.keeper; connection = κ }))))) (sym are)
    (receives_it limits s.past s.keeper κ others packet shape.own
    (subst (λ (cs : List ClientConnection). Each (ConnectionInShape limits s.past s.keeper.client) cs) are shape.connections)
    (subst (λ (cs : List ClientConnection). HeldInShape limits s.past s.keeper cs) are shape.held) opened next
    (subst (λ (cs : List ClientConnection). IsGood (as_publisher limits (record s { connections = cs }))) are good))

pub events_publish : EventPublishes
events_publish limits s t sound (takes i κ w stands next) = takes_it limits s.past s.keeper s.connections i κ w sound.shape stands next
events_publish limits s t sound (others_take command other none) = others_take_it limits s.past s.keeper s.connections command sound.shape other none
events_publish limits s t sound (receives κ others packet are opened next) = receives_there limits s s.connections others κ packet are sound.shape sound.publisher opened next
events_publish limits s t sound (opens_anew x fresh none uncounted) = opens_another limits s x uncounted
events_publish limits s t sound loses = loses_it limits s
events_publish limits s t sound disconnects = disconnects_it limits s.past s.keeper s.connections sound.shape.connections sound.shape.held
events_publish limits s t sound (publishes_one p needs) = publishes_it limits s.past s.keeper s.connections p sound.shape.own sound.shape.connections sound.shape.held needs
events_publish limits s t sound (subscribes p on id) =
    writes_quietly limits s.past s.keeper (record s.keeper { requests = s.keeper.requests ++ requests.Subscribes p.id ∷ [] }) s.connections (plain (packets.Subscribe p) ∷ [])
    sound.shape.connections sound.shape.held on refl refl refl refl
events_publish limits s t sound (unsubscribes p on id) =
    writes_quietly limits s.past s.keeper (record s.keeper { requests = s.keeper.requests ++ requests.Unsubscribes p.id ∷ [] }) s.connections (plain (packets.Unsubscribe p) ∷ [])
    sound.shape.connections sound.shape.held on refl refl refl refl
