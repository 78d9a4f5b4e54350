-- Worked examples: the sessions of three clients, and what the definitions say about them. Client a
-- is clean and served on connection 1; b is offline and has subscribed to t/# at QoS 1; c is clean,
-- served on connection 2 and has subscribed to t/1 at QoS 2.
use Rattle.std.specs.Prelude.{◌≡◌, ℕ, Bool, true, false, List, [], ◌∷◌, Option, Some, None, codes}
use Rattle.packet_base.specs.declared.qos.QoS.{QoS}
use Rattle.packet_base.specs.declared.qos.QoS.TheVariants as qos_levels
use Rattle.packet.specs.declared.delivery.Delivery.{Delivery}
use Rattle.packet.specs.declared.delivery.Delivery.TheVariants as deliveries
use Rattle.session_base.specs.declared.publication.Publication.{Publication}
use Rattle.session_base.specs.declared.awaits.Awaits.TheVariants as waits_for
use Rattle.session_base.specs.Subscriptions.{GrantedSubscription}
use Rattle.session_base.specs.Queue.{Queue, empty_queue}
use Rattle.broker_spec.specs.Connection.{ConnectionName}
use Rattle.broker_spec.specs.Place.{Client}
use Rattle.broker_base.specs.ClientSession.{ClientSession}
use Rattle.broker_base.specs.State.{Sessions}
use Rattle.broker_spec.specs.RowWords.{a, b, nth, sends, publish}
use Rattle.broker_base.specs.rows.Owners.{owners_in, with_owner, without_owner}
use Rattle.broker_base.specs.rows.Indexed.{content_in, all_set, all_cleared, all_dropped, clean_clients}
use Rattle.broker_base.specs.rows.Published.{granted_rows, session_changed, received_on}
use Rattle.broker_base.specs.rows.Published.{all_delivered, answered_in_turn}
use Rattle.broker_base.specs.rows.ConnectTheorems.{all_left_off}

-- the third client
abbrev pub c : Client
c = codes "c"

-- a client's row with this session
abbrev pub row : Client → Bool → Option ConnectionName → List GrantedSubscription → List ℕ → Queue →
    Client × ClientSession
row client clean connection subscriptions received queue = (
  client,
  record {
    clean = clean;
    connection = connection;
    state = record { subscriptions = subscriptions; received = received; queue = queue };
  },
)

-- the subscriptions of b
abbrev pub of_b : List GrantedSubscription
of_b = (codes "t/#", qos_levels.AtLeastOnce) ∷ []

-- the subscriptions of c
abbrev pub of_c : List GrantedSubscription
of_c = (codes "t/1", qos_levels.ExactlyOnce) ∷ []

-- the three sessions: a and c are connected, b is offline
abbrev pub three : Sessions
three =
    row a true (Some (nth 1)) [] [] empty_queue
    ∷ row b false None of_b [] empty_queue
    ∷ row c true (Some (nth 2)) of_c [] empty_queue ∷ []

-- ---- a publishes o at QoS 2 on t/1, with the identifier 7

-- the publication at a QoS
abbrev pub o_at : QoS → Publication
o_at qos = record { retain = false; qos = qos; topic = codes "t/1"; payload = codes "o" }

-- the delivery at QoS 2 with the identifier 7
abbrev pub seventh : Delivery
seventh = deliveries.ExactlyOnce false 7

-- b and c are granted the publication, each at its own QoS
abbrev pub TwoAreGranted : Type 0
TwoAreGranted =
    granted_rows (codes "t/1") three
    ≡ (b, qos_levels.AtLeastOnce) ∷ (c, qos_levels.ExactlyOnce) ∷ []

-- a's session registers 7, o waits for b, and c is sent o and has to answer with PUBREC
abbrev pub EachGetsItsCopy : Type 0
EachGetsItsCopy =
    all_delivered 16 (o_at qos_levels.ExactlyOnce) (granted_rows (codes "t/1") three)
    (session_changed a (received_on seventh) three)
    ≡ row a true (Some (nth 1)) [] (7 ∷ []) empty_queue
    ∷ row b false None of_b []
    (record { in_flight = []; waiting = o_at qos_levels.AtLeastOnce ∷ [] })
    ∷ row c true (Some (nth 2)) of_c []
    (record { in_flight = (1, waits_for.Pubrec (o_at qos_levels.ExactlyOnce)) ∷ []; waiting = [] })
    ∷ []

-- only c is sent o at once
abbrev pub OneIsAnswered : Type 0
OneIsAnswered =
    answered_in_turn 16 (o_at qos_levels.ExactlyOnce) (granted_rows (codes "t/1") three)
    (session_changed a (received_on seventh) three)
    ≡ sends 2 (publish (deliveries.ExactlyOnce false 1) false (codes "o")) ∷ []

-- ---- the maps

-- connection 1 is a's until it ends, and c's if c connects on it
abbrev pub EachOwnsItsConnection : Type 0
EachOwnsItsConnection =
    (owners_in three (nth 1) ≡ Some a) × (owners_in three (nth 2) ≡ Some c)
    × (owners_in three (nth 3) ≡ None)
    × (without_owner (Some (nth 1)) (owners_in three) (nth 1) ≡ None)
    × (without_owner (Some (nth 1)) (owners_in three) (nth 2) ≡ Some c)
    × (with_owner (nth 1) c (owners_in three) (nth 1) ≡ Some c)

-- a filter is compared character by character, replaced, removed, and dropped with its client
abbrev pub EachHoldsItsFilters : Type 0
EachHoldsItsFilters =
    (content_in three b (codes "t/#") ≡ Some qos_levels.AtLeastOnce)
    × (content_in three b (codes "t/1") ≡ None)
    × (content_in three a (codes "t/#") ≡ None)
    × (all_set b ((codes "t/#", qos_levels.ExactlyOnce) ∷ []) (content_in three) b (codes "t/#")
    ≡ Some qos_levels.ExactlyOnce)
    × (all_cleared b (codes "t/#" ∷ []) (content_in three) b (codes "t/#") ≡ None)
    × (all_dropped (clean_clients three) (content_in three) c (codes "t/1") ≡ None)
    × (all_dropped (clean_clients three) (content_in three) b (codes "t/#")
    ≡ Some qos_levels.AtLeastOnce)

-- a Start leaves only b's session
abbrev pub OneIsLeftByAStart : Type 0
OneIsLeftByAStart =
    (all_left_off three ≡ row b false None of_b [] empty_queue ∷ [])
    × (clean_clients three ≡ a ∷ c ∷ [])
