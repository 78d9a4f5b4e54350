-- A granted row's session that has room for a publication has it still when its turn comes.
use Rattle.std.proofs.Common.{◌≡◌, ℕ, false, ◌||◌, List, [], ◌∷◌, refl, ap, ap₂, ◌∙◌}
use Rattle.std.specs.List.{list_any}
use Rattle.std.specs.Ordering.{is_eq}
use Rattle.std.proofs.lemmas.Bool.{or_parts}
use Rattle.packet.specs.declared.delivery.Delivery.{Delivery}
use Rattle.session_base.specs.declared.publication.Publication.{Publication}
use Rattle.broker_spec.specs.Place.{Client, Limits}
use Rattle.broker_base.specs.ClientSession.{ClientSession}
use Rattle.broker_base.specs.State.{Sessions, session_in}
use Rattle.subs_base.specs.Granted.{Row}
use Rattle.broker_base.specs.rows.Published.{granted_rows, session_changed, received_on, delivered_on, session_lacks_room}
use Rattle.broker_base.specs.rows.PublishTheorems.{HaveRoomInTurn, RoomLastsToItsTurn}
use Rattle.broker_base.proofs.of_rows.publications.OneChanged.{changed_as, other_stays}
use Rattle.broker_base.proofs.of_rows.publications.PublishLeft.{GrantedAfter}
use Rattle.broker_base.proofs.of_rows.publications.AnswersInTurn.{AreRising, granted_rise}

-- the rows after one that is changed
full_after : (limits : Limits) (p : Publication) (d : Client) (change : ClientSession → ClientSession) (granted : List Row) (rows : Sessions) → GrantedAfter d granted →
    list_any (λ row. session_lacks_room limits p row.1 (session_in row.0 (session_changed d change rows))) granted
    ≡ list_any (λ row. session_lacks_room limits p row.1 (session_in row.0 rows)) granted
full_after limits p d change [] rows after = refl
full_after limits p d change (row ∷ granted) rows after =
    ap₂ (λ found more. session_lacks_room limits p row.1 found || more) (other_stays d row.0 change rows (ap is_eq after.0)) (full_after limits p d change granted rows after.1)

-- each at its turn
in_turn : (limits : Limits) (w : ℕ) (p : Publication) (granted : List Row) (rows : Sessions) → AreRising granted →
    list_any (λ row. session_lacks_room limits p row.1 (session_in row.0 rows)) granted ≡ false → HaveRoomInTurn limits w p granted rows
in_turn limits w p [] rows rise none = tt
in_turn limits w p (row ∷ granted) rows rise none =
    let parts = or_parts (session_lacks_room limits p row.1 (session_in row.0 rows)) (list_any (λ other. session_lacks_room limits p other.1 (session_in other.0 rows)) granted) none in (
      parts.0,
      in_turn limits w p granted (session_changed row.0 (delivered_on w p row.1) rows) rise.1
          (full_after limits p row.0 (delivered_on w p row.1) granted rows rise.0 ∙ parts.1),
    )

-- the publisher's identifier takes no room
noted_full : (limits : Limits) (p : Publication) (d : Client) (delivery : Delivery) (granted : List Row) (rows : Sessions) →
    list_any (λ row. session_lacks_room limits p row.1 (session_in row.0 (session_changed d (received_on delivery) rows))) granted
    ≡ list_any (λ row. session_lacks_room limits p row.1 (session_in row.0 rows)) granted
noted_full limits p d delivery [] rows = refl
noted_full limits p d delivery (row ∷ granted) rows =
    ap₂ (λ here more. here || more) (changed_as (session_lacks_room limits p row.1) d (received_on delivery) row.0 rows (λ kept. refl))
    (noted_full limits p d delivery granted rows)

-- the same holds for all
pub room_lasts : RoomLastsToItsTurn
room_lasts limits w p c delivery rows by_client none =
    in_turn limits w p (granted_rows p.topic rows) (session_changed c (received_on delivery) rows) (granted_rise p.topic rows by_client)
    (noted_full limits p c delivery (granted_rows p.topic rows) rows ∙ none)
