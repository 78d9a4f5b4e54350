-- How an index of the sessions' subscriptions has to change with each step to stay in agreement
-- with them (MQTT 3.1.2.4, 3.8.4, 3.10.4).
use Rattle.std.specs.Prelude.{◌≡◌, ℕ, Bool, if◌then◌else◌, List, Some}
use Rattle.std.specs.BTreeMap.{insert_entry}
use Rattle.packet.specs.declared.delivery.Delivery.{Delivery}
use Rattle.session_base.specs.declared.publication.Publication.{Publication}
use Rattle.session_base.specs.Subscriptions.{GrantedSubscription, with_subscriptions}
use Rattle.session_base.specs.Subscriptions.{without_filters}
use Rattle.subs_base.specs.Content.{no_subscriptions, without_client}
use Rattle.subs_base.specs.Granted.{Row}
use Rattle.broker_spec.specs.Connection.{ConnectionName}
use Rattle.broker_spec.specs.Place.{Client, by_bytes}
use Rattle.broker_base.specs.ClientSession.{ClientSession}
use Rattle.broker_base.specs.SessionStep.{session_anew}
use Rattle.broker_base.specs.State.{Sessions, session_in}
use Rattle.broker_base.specs.StateTheorems.{AllSound, AreByClient}
use Rattle.broker_base.specs.rows.Touched.{written}
use Rattle.broker_base.specs.rows.Served.{left_off}
use Rattle.broker_base.specs.rows.ConnectTheorems.{all_left_off}
use Rattle.broker_base.specs.rows.Published.{session_changed, received_on, all_delivered}
use Rattle.broker_base.specs.rows.Indexed.{content_in, all_set, all_cleared, all_dropped}
use Rattle.broker_base.specs.rows.Indexed.{clean_clients, all_subscribed}

-- writing a session with the subscriptions that it had changes nothing
abbrev pub WritingKeepsContent : Type 0
WritingKeepsContent =
    (client : Client) → (old new : ClientSession) → (rows : Sessions) → AreByClient rows →
    session_in client rows ≡ Some old →
    new.state.subscriptions ≡ old.state.subscriptions →
    content_in (written client (Some new) rows) ≡ content_in rows

-- a SUBSCRIBE sets each filter that is granted (MQTT 3.8.4)
abbrev pub SubscribingSets : Type 0
SubscribingSets =
    (client : Client) → (old new : ClientSession) → (granted : List GrantedSubscription) →
    (rows : Sessions) → AreByClient rows →
    session_in client rows ≡ Some old →
    new.state.subscriptions ≡ with_subscriptions granted old.state.subscriptions →
    content_in (written client (Some new) rows) ≡ all_set client granted (content_in rows)

-- an UNSUBSCRIBE clears each of its filters (MQTT 3.10.4)
abbrev pub UnsubscribingClears : Type 0
UnsubscribingClears =
    (client : Client) → (old new : ClientSession) → (filters : List (List ℕ)) → (rows : Sessions) →
    AreByClient rows →
    session_in client rows ≡ Some old →
    new.state.subscriptions ≡ without_filters filters old.state.subscriptions →
    content_in (written client (Some new) rows) ≡ all_cleared client filters (content_in rows)

-- if a connection ends, the client of a clean session is dropped (MQTT 3.1.2.4)
abbrev pub LeavingDropsTheClean : Type 0
LeavingDropsTheClean =
    (client : Client) → (kept : ClientSession) → (rows : Sessions) → AreByClient rows →
    session_in client rows ≡ Some kept →
    content_in (written client (left_off kept) rows)
    ≡ (if kept.clean then without_client (content_in rows) client else content_in rows)

-- if a session begins, the client's old subscriptions are dropped (MQTT 3.1.2.4)
abbrev pub BeginningDrops : Type 0
BeginningDrops =
    (client : Client) → (opened : ConnectionName × Bool) → (rows : Sessions) → AreByClient rows →
    content_in (insert_entry by_bytes rows client (session_anew opened))
    ≡ without_client (content_in rows) client

-- a Start drops the clients of the clean sessions
abbrev pub StartDropsTheClean : Type 0
StartDropsTheClean =
    (rows : Sessions) → AreByClient rows →
    content_in (all_left_off rows) ≡ all_dropped (clean_clients rows) (content_in rows)

-- taking and delivering a publication changes nothing
abbrev pub PublishingKeepsContent : Type 0
PublishingKeepsContent =
    (window : ℕ) → (publication : Publication) → (granted : List Row) → (publisher : Client) →
    (delivery : Delivery) → (rows : Sessions) →
    content_in (all_delivered window publication granted
    (session_changed publisher (received_on delivery) rows))
    ≡ content_in rows

-- an index that is rebuilt from the sessions has each session's filters
abbrev pub IndexMadeAnew : Type 0
IndexMadeAnew =
    (rows : Sessions) → AreByClient rows → AllSound rows
    → content_in rows ≡ all_subscribed rows no_subscriptions
