-- How an index changes if one client's session is written, ends, or begins.
use Rattle.std.proofs.Common.{◌≡◌, Bool, true, false, if◌then◌else◌, Some, None, refl}
use Rattle.broker_base.specs.SessionStep.{session_anew}
use Rattle.broker_base.specs.State.{put_session}
use Rattle.subs_base.specs.Content.{without_client}
use Rattle.broker_base.specs.rows.Touched.{written}
use Rattle.broker_base.specs.rows.Indexed.{content_in}
use Rattle.broker_base.specs.rows.IndexTheorems.{WritingKeepsContent, SubscribingSets, UnsubscribingClears, LeavingDropsTheClean, BeginningDrops}
use Rattle.broker_base.proofs.of_rows.maps.SessionWritten.{session_written, session_put}
use Rattle.broker_base.proofs.of_rows.maps.ContentAfter.{content_stays, content_set, content_cleared, content_dropped}

-- the same subscriptions
pub writing_keeps_content : WritingKeepsContent
writing_keeps_content c old new rows by_client found same =
    content_stays c old new rows (written c (Some new) rows) (λ d. session_written c old (Some new) rows d by_client found) found same

-- a SUBSCRIBE
pub subscribing_sets : SubscribingSets
subscribing_sets c old new granted rows by_client found is =
    content_set c old new granted rows (written c (Some new) rows) (λ d. session_written c old (Some new) rows d by_client found) found is

-- an UNSUBSCRIBE
pub unsubscribing_clears : UnsubscribingClears
unsubscribing_clears c old new filters rows by_client found is =
    content_cleared c old new filters rows (written c (Some new) rows) (λ d. session_written c old (Some new) rows d by_client found) found is

-- the end of a connection
pub leaving_drops_the_clean : LeavingDropsTheClean
leaving_drops_the_clean c kept rows by_client found =
    elim kept.clean as (λ (b : Bool).
    content_in (written c (if b then None else Some (record { clean = kept.clean; connection = None; state = kept.state })) rows)
    ≡ (if b then without_client (content_in rows) c else content_in rows)) [
      | true ↦
          content_dropped c None rows (written c None rows) (λ d. session_written c kept None rows d by_client found) (λ f. refl)
      | false ↦ writing_keeps_content c kept (record { clean = kept.clean; connection = None; state = kept.state }) rows by_client found refl
    ]

-- a session that begins
pub beginning_drops : BeginningDrops
beginning_drops c opened rows by_client =
    content_dropped c (Some (session_anew opened)) rows (put_session c (session_anew opened) rows) (λ d. session_put c (session_anew opened) rows d by_client) (λ f. refl)
