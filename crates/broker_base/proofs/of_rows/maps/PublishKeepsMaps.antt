-- A taken PUBLISH leaves every connection its owner, and every subscription.
use Rattle.std.proofs.Common.{◌≡◌, ℕ, List, [], ◌∷◌, refl, ap, ◌∙◌}
use Rattle.session_base.specs.declared.publication.Publication.{Publication}
use Rattle.broker_spec.specs.Connection.{ConnectionName}
use Rattle.broker_spec.specs.Place.{Client}
use Rattle.broker_base.specs.ClientSession.{ClientSession}
use Rattle.broker_base.specs.State.{Sessions}
use Rattle.subs_base.specs.Granted.{Row}
use Rattle.broker_base.specs.rows.Published.{session_changed, received_on, delivered_on, all_delivered}
use Rattle.broker_base.specs.rows.Indexed.{subscribed_in, content_in}
use Rattle.broker_spec.specs.Subscriptions.{qos_asked}
use Rattle.broker_base.specs.rows.Owners.{owners_in}
use Rattle.broker_base.specs.rows.OwnerTheorems.{PublishingKeepsOwners}
use Rattle.broker_base.specs.rows.IndexTheorems.{PublishingKeepsContent}
use Rattle.broker_base.proofs.of_rows.publications.OneChanged.{changed_as}
use Rattle.broker_base.proofs.of_rows.maps.OwnersStay.{owners_changed}

-- a row is changed, except its subscriptions
content_changed : (d : Client) (change : ClientSession → ClientSession) (rows : Sessions) (c : Client) (f : List ℕ) →
    ((kept : ClientSession) → (change kept).state.subscriptions ≡ kept.state.subscriptions) →
    content_in (session_changed d change rows) c f ≡ content_in rows c f
content_changed d change rows c f same = changed_as (subscribed_in f) d change c rows (λ kept. ap (qos_asked f) (same kept))

-- copies, one by one
owners_delivered : (w : ℕ) (p : Publication) (granted : List Row) (rows : Sessions) (y : ConnectionName) → owners_in (all_delivered w p granted rows) y ≡ owners_in rows y
owners_delivered w p [] rows y = refl
owners_delivered w p (row ∷ granted) rows y =
    owners_delivered w p granted (session_changed row.0 (delivered_on w p row.1) rows) y ∙ owners_changed row.0 (delivered_on w p row.1) rows y (λ kept. refl)

-- of the subscriptions
content_delivered : (w : ℕ) (p : Publication) (granted : List Row) (rows : Sessions) (c : Client) (f : List ℕ) → content_in (all_delivered w p granted rows) c f ≡ content_in rows c f
content_delivered w p [] rows c f = refl
content_delivered w p (row ∷ granted) rows c f =
    content_delivered w p granted (session_changed row.0 (delivered_on w p row.1) rows) c f ∙ content_changed row.0 (delivered_on w p row.1) rows c f (λ kept. refl)

-- the owners after it
pub publishing_keeps_owners : PublishingKeepsOwners
publishing_keeps_owners w p granted d delivery rows y =
    owners_delivered w p granted (session_changed d (received_on delivery) rows) y ∙ owners_changed d (received_on delivery) rows y (λ kept. refl)

-- the subscriptions after it
pub publishing_keeps_content : PublishingKeepsContent
publishing_keeps_content w p granted d delivery rows =
    λ i c f. (content_delivered w p granted (session_changed d (received_on delivery) rows) c f ∙ content_changed d (received_on delivery) rows c f (λ kept. refl)) i
