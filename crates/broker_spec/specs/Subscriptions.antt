-- The subscriptions of a session, and at which QoS it gets a publication (MQTT 3.3.5, 3.8.4,
-- 3.10.4).
use Rattle.std.specs.Prelude.{ℕ, Bool, if◌then◌else◌, List, [], ◌∷◌, map, bytes_eq}
use Rattle.std.specs.Prelude.{Option, Some, None, option_map}
use Rattle.packet_base.specs.declared.qos.QoS.{QoS}
use Rattle.packet.specs.declared.subscribe.Subscription.{Subscription}
use Rattle.packet.specs.declared.packet.Packet.TheVariants as packets
use Rattle.broker_spec.specs.Place.{Client, same_client, Mark, Past}
use Rattle.broker_spec.specs.Sessions.{clean_session_of, begins, in_session}
use Rattle.session_base.specs.declared.publication.Publication.{Publication}
use Rattle.packet_base.specs.QoS.{lower_qos}
use Rattle.session_base.specs.Subscriptions.{GrantedSubscription, with_subscriptions}
use Rattle.session_base.specs.Subscriptions.{without_filters, granted_qos}
use Rattle.broker_spec.specs.declared.command.Command.{Command}
use Rattle.broker_spec.specs.declared.command.Command.TheVariants as commands

-- a requested subscription, as a session holds it
abbrev pub as_granted : Subscription → GrantedSubscription
as_granted subscription = (subscription.filter, subscription.qos)

-- the QoS of exactly this filter in a list of subscriptions
abbrev pub qos_asked : List ℕ → List GrantedSubscription → Option QoS
qos_asked filter (subscription ∷ more) =
    if bytes_eq filter subscription.0 then Some subscription.1 else qos_asked filter more
qos_asked filter [] = None

-- the elements of the list that are granted
abbrev pub granted_of : {A : Type 0} → List A → List Bool → List A
granted_of (element ∷ more) (granted ∷ others) =
    if granted then element ∷ granted_of more others else granted_of more others
granted_of _ _ = []

-- the subscriptions after a SUBSCRIBE or UNSUBSCRIBE of the client
abbrev pub subscriptions_after : Command → Mark → Client → List GrantedSubscription →
    List GrantedSubscription
subscriptions_after (commands.Packet connection (packets.Subscribe subscribe))
    (Mark.Granted sender which) client subscriptions =
    if same_client sender client
    then with_subscriptions (map as_granted (granted_of subscribe.filters which)) subscriptions
    else subscriptions
subscriptions_after (commands.Packet connection (packets.Unsubscribe unsubscribe))
    (Mark.Handled sender) client subscriptions =
    if same_client sender client then without_filters unsubscribe.filters subscriptions
    else subscriptions
subscriptions_after _ _ client subscriptions = subscriptions

-- The subscriptions of a client's session: each filter with the QoS of its last grant, unless it
-- was removed since; in the order in which they were first granted.
unfoldable pub subscriptions_of : Past → Client → List GrantedSubscription
subscriptions_of [] client = []
subscriptions_of (place ∷ past) client =
    in_session (clean_session_of (place ∷ past) client) (begins place past client) []
    (subscriptions_after place.command place.mark client (subscriptions_of past client))

-- the QoS at which a client's session gets a publication; none if no filter of it matches (MQTT
-- 3.3.5)
abbrev pub effective_qos : Past → Client → Publication → Option QoS
effective_qos past client publication =
    option_map (lower_qos publication.qos)
    (granted_qos publication.topic (subscriptions_of past client))
