-- Whether a session is full for a publication depends only on the granted rows.
use Rattle.std.proofs.Common.{◌≡◌, ◌&&◌, ◌||◌, ◌==◌, [], ◌∷◌, ◌++◌, Option, Some, None, refl, ap₂, sym}
use Rattle.std.specs.Prelude.{option_map}
use Rattle.std.specs.List.{list_any}
use Rattle.packet_base.specs.declared.qos.QoS.{QoS}
use Rattle.session_base.specs.declared.publication.Publication.{Publication}
use Rattle.packet_base.specs.QoS.{lower_qos}
use Rattle.session_base.specs.Queue.{room}
use Rattle.broker_spec.specs.Place.{Client, Limits}
use Rattle.session_base.specs.Subscriptions.{granted_qos}
use Rattle.broker_spec.specs.Marks.{is_queued_at}
use Rattle.broker_base.specs.ClientSession.{ClientSession}
use Rattle.broker_base.specs.State.{Sessions, session_in}
use Rattle.broker_base.specs.Decisions.{row_lacks_room}
use Rattle.broker_base.specs.StateTheorems.{AreByClient}
use Rattle.subs_base.specs.Granted.{row_of}
use Rattle.broker_base.specs.rows.Published.{granted_rows, session_lacks_room}
use Rattle.broker_base.proofs.of_rows.FindsEach.{Finds, finds_each}

-- with any look-up that finds each row's session
full_by : (limits : Limits) (p : Publication) (look : Client → Option ClientSession) (rows : Sessions) → Finds look rows →
    list_any (row_lacks_room limits p) rows ≡ list_any (λ row. session_lacks_room limits p row.1 (look row.0)) (granted_rows p.topic rows)
full_by limits p look [] finds = refl
full_by limits p look (row ∷ rows) finds = by (granted_qos p.topic row.1.state.subscriptions) (full_by limits p look rows finds.1)
  where
    by : (granted : Option QoS) →
        list_any (row_lacks_room limits p) rows ≡ list_any (λ row. session_lacks_room limits p row.1 (look row.0)) (granted_rows p.topic rows) →
        ((is_queued_at (option_map (lower_qos p.qos) granted) && (room limits.entries row.1.state.queue == 0)) || list_any (row_lacks_room limits p) rows)
        ≡ list_any (λ row. session_lacks_room limits p row.1 (look row.0)) (row_of row.0 granted ++ granted_rows p.topic rows)
    by None more = more
    by (Some qos) more = ap₂ (λ found b. session_lacks_room limits p qos found || b) (sym finds.0) more

-- with the look-up in the sessions themselves
pub full_of_granted : (limits : Limits) (p : Publication) (rows : Sessions) → AreByClient rows →
    list_any (row_lacks_room limits p) rows ≡ list_any (λ row. session_lacks_room limits p row.1 (session_in row.0 rows)) (granted_rows p.topic rows)
full_of_granted limits p rows by_client = full_by limits p (λ c. session_in c rows) rows (finds_each rows by_client)
