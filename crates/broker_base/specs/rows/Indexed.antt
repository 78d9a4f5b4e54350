-- The content of an index of the sessions' subscriptions.
use Rattle.std.specs.Prelude.{ℕ, List, [], ◌∷◌, filter, Option, Some, None}
use Rattle.std.specs.Map.{keys_of}
use Rattle.packet_base.specs.declared.qos.QoS.{QoS}
use Rattle.session_base.specs.Subscriptions.{GrantedSubscription}
use Rattle.broker_spec.specs.Subscriptions.{qos_asked}
use Rattle.broker_spec.specs.Place.{Client}
use Rattle.broker_base.specs.ClientSession.{ClientSession}
use Rattle.broker_base.specs.State.{Sessions, session_in}
use Rattle.subs_base.specs.Content.{Content, with_row, without_row, without_client}

-- the QoS of this filter in a session, if it has it
abbrev pub subscribed_in : List ℕ → Option ClientSession → Option QoS
subscribed_in filter (Some kept) = qos_asked filter kept.state.subscriptions
subscribed_in filter None = None

-- the content of an index that holds the subscriptions of these sessions
abbrev pub content_in : Sessions → Content
content_in sessions client filter = subscribed_in filter (session_in client sessions)

-- ---- how an index changes for one client

-- these filters are subscribed, one by one (MQTT 3.8.4)
abbrev pub all_set : List ℕ → List GrantedSubscription → Content → Content
all_set client (subscription ∷ more) content =
    all_set client more (with_row content client subscription.0 subscription.1)
all_set client [] content = content

-- these filters are unsubscribed, one by one (MQTT 3.10.4)
abbrev pub all_cleared : List ℕ → List (List ℕ) → Content → Content
all_cleared client (filter ∷ more) content =
    all_cleared client more (without_row content client filter)
all_cleared client [] content = content

-- ---- how it changes for several clients

-- these clients are dropped, one by one
abbrev pub all_dropped : List (List ℕ) → Content → Content
all_dropped (client ∷ more) content = all_dropped more (without_client content client)
all_dropped [] content = content

-- the clients whose sessions are clean
abbrev pub clean_clients : Sessions → List (List ℕ)
clean_clients sessions = keys_of (filter (λ (row : Client × ClientSession). row.1.clean) sessions)

-- the filters of all these sessions are subscribed, client by client
abbrev pub all_subscribed : Sessions → Content → Content
all_subscribed (row ∷ rows) content =
    all_subscribed rows (all_set row.0 row.1.state.subscriptions content)
all_subscribed [] content = content
