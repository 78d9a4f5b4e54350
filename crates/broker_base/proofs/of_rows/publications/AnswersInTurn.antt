-- The answers to a taken PUBLISH, if those of each granted row are made when its session gets its
-- copy.
use Rattle.std.proofs.Common.{◌≡◌, ℕ, List, [], ◌∷◌, ◌++◌, Option, Some, None, refl, ap, ap₂, ◌∙◌, sym}
use Rattle.std.specs.Prelude.{flat_map}
use Rattle.std.specs.Ordering.{is_eq}
use Rattle.std.specs.List.Sorted.{IsStrictlySortedBy}
use Rattle.packet_base.specs.declared.qos.QoS.{QoS}
use Rattle.packet.specs.declared.delivery.Delivery.{Delivery}
use Rattle.session_base.specs.declared.publication.Publication.{Publication}
use Rattle.session_base.specs.Subscriptions.{granted_qos}
use Rattle.broker_spec.specs.Place.{Client}
use Rattle.broker_base.specs.ClientSession.{ClientSession}
use Rattle.broker_base.specs.State.{Sessions, session_in}
use Rattle.broker_base.specs.StateTheorems.{AreByClient}
use Rattle.subs_base.specs.Granted.{Row, row_of}
use Rattle.broker_base.specs.rows.Published.{granted_rows, session_changed, received_on, delivered_on, copy_answered, answered_in_turn}
use Rattle.broker_base.proofs.of_rows.publications.OneChanged.{changed_as, other_stays}
use Rattle.broker_base.proofs.of_rows.publications.PublishLeft.{GrantedAfter, after_rows}

-- the granted rows rise
abbrev pub AreRising : List Row → Type 0
AreRising (row ∷ granted) = GrantedAfter row.0 granted × AreRising granted
AreRising [] = Unit {0}

-- as the sessions do
pub granted_rise : (topic : List ℕ) (rows : Sessions) → AreByClient rows → AreRising (granted_rows topic rows)
unfolding IsStrictlySortedBy
granted_rise topic [] by_client = tt
granted_rise topic (row ∷ rows) by_client = by (granted_qos topic row.1.state.subscriptions) (granted_rise topic rows by_client.1)
  where
    by : (o : Option QoS) → AreRising (granted_rows topic rows) → AreRising (row_of row.0 o ++ granted_rows topic rows)
    by None more = more
    by (Some qos) more = (after_rows row.0 topic rows by_client.0, more)

-- the answers of rows after one that is changed stay
answers_after : (w : ℕ) (p : Publication) (d : Client) (change : ClientSession → ClientSession) (granted : List Row) (rows : Sessions) → GrantedAfter d granted →
    flat_map (λ row. copy_answered w p row.1 (session_in row.0 (session_changed d change rows))) granted
    ≡ flat_map (λ row. copy_answered w p row.1 (session_in row.0 rows)) granted
answers_after w p d change [] rows after = refl
answers_after w p d change (row ∷ granted) rows after =
    ap₂ (λ found more. copy_answered w p row.1 found ++ more) (other_stays d row.0 change rows (ap is_eq after.0)) (answers_after w p d change granted rows after.1)

-- in turn or from the first sessions, the answers are the same
in_turn : (w : ℕ) (p : Publication) (granted : List Row) (rows : Sessions) → AreRising granted →
    answered_in_turn w p granted rows ≡ flat_map (λ row. copy_answered w p row.1 (session_in row.0 rows)) granted
in_turn w p [] rows rise = refl
in_turn w p (row ∷ granted) rows rise =
    ap (λ more. copy_answered w p row.1 (session_in row.0 rows) ++ more)
    (in_turn w p granted (session_changed row.0 (delivered_on w p row.1) rows) rise.1 ∙ answers_after w p row.0 (delivered_on w p row.1) granted rows rise.0)

-- the publisher's identifier changes no answer
noted_all : (w : ℕ) (p : Publication) (d : Client) (delivery : Delivery) (granted : List Row) (rows : Sessions) →
    flat_map (λ row. copy_answered w p row.1 (session_in row.0 (session_changed d (received_on delivery) rows))) granted
    ≡ flat_map (λ row. copy_answered w p row.1 (session_in row.0 rows)) granted
noted_all w p d delivery [] rows = refl
noted_all w p d delivery (row ∷ granted) rows =
    ap₂ (λ here more. here ++ more) (changed_as (copy_answered w p row.1) d (received_on delivery) row.0 rows (λ kept. refl))
    (noted_all w p d delivery granted rows)

-- so one loop may note, deliver and answer
pub answered_from_noted : (w : ℕ) (p : Publication) (d : Client) (delivery : Delivery) (rows : Sessions) → AreByClient rows →
    flat_map (λ row. copy_answered w p row.1 (session_in row.0 rows)) (granted_rows p.topic rows)
    ≡ answered_in_turn w p (granted_rows p.topic rows) (session_changed d (received_on delivery) rows)
answered_from_noted w p d delivery rows by_client =
    sym (in_turn w p (granted_rows p.topic rows) (session_changed d (received_on delivery) rows) (granted_rise p.topic rows by_client)
    ∙ noted_all w p d delivery (granted_rows p.topic rows) rows)
