-- A taken PUBLISH changes the publisher's row and the granted rows, one by one, and no other.
use Rattle.std.proofs.Common.{◌≡◌, ℕ, Bool, true, false, if◌then◌else◌, List, [], ◌∷◌, ◌++◌, Option, Some, None, refl, ap, ap₂, ◌∙◌, sym, subst}
use Rattle.std.specs.Ordering.{is_eq}
use Rattle.std.specs.declared.cmp.Ordering.TheVariants.{Less}
use Rattle.std.specs.List.Sorted.{IsStrictlySortedBy}
use Rattle.packet_base.specs.declared.qos.QoS.{QoS}
use Rattle.packet.specs.declared.publish.Publish.{Publish}
use Rattle.retained.specs.Retained.{RetainedTopics}
use Rattle.session_base.specs.declared.publication.Publication.{Publication}
use Rattle.session_base.specs.Publication.{publication_of}
use Rattle.session_base.specs.Subscriptions.{granted_qos}
use Rattle.broker_spec.specs.Connection.{ConnectionName}
use Rattle.broker_spec.specs.Place.{Client, by_bytes, same_client}
use Rattle.broker_spec.specs.EntryTheorems.{place_of_taken}
use Rattle.broker_base.specs.ClientSession.{ClientSession}
use Rattle.broker_base.specs.State.{Sessions, keyed}
use Rattle.broker_base.specs.Step.{sessions_left}
use Rattle.broker_base.specs.StateTheorems.{AreByClient}
use Rattle.broker_spec.proofs.ClientsInOrder.{same_self, same_is, less_turned}
use Rattle.broker_base.proofs.SessionsStayByClient.{ComesBefore}
use Rattle.subs_base.specs.Granted.{Row, row_of}
use Rattle.broker_base.specs.rows.Published.{granted_rows, session_changed, received_on, delivered_on, all_delivered}
use Rattle.broker_base.proofs.of_rows.publications.OneChanged.{changed_next, changed_none}
use Rattle.broker_base.proofs.of_rows.publications.RowOfPublish.{received_if, delivered_if, published_is}

-- the publisher's identifier is noted in the first row, and in those after it
changed_first : (d : Client) (p : Publish) (row : Client × ClientSession) (rows : Sessions) → ComesBefore row.0 rows →
    session_changed d (received_on p.delivery) (row ∷ rows) ≡ (row.0, received_if (same_client d row.0) p.delivery row.1) ∷ session_changed d (received_on p.delivery) rows
changed_first d p row rows before = changed_next d (received_on p.delivery) row rows ∙ by (same_client d row.0) refl
  where
    by : (mine : Bool) → same_client d row.0 ≡ mine →
        (if mine then (row.0, received_on p.delivery row.1) ∷ rows else row ∷ session_changed d (received_on p.delivery) rows)
        ≡ (row.0, received_if mine p.delivery row.1) ∷ session_changed d (received_on p.delivery) rows
    by true e =
        ap (λ rest. (row.0, received_on p.delivery row.1) ∷ rest)
        (sym (changed_none d (received_on p.delivery) rows (subst (λ (c : Client). ComesBefore c rows) (sym (same_is d row.0 e)) before)))
    by false e = refl

-- ---- the granted rows

-- the client comes before each granted one
abbrev pub GrantedAfter : Client → List Row → Type 0
GrantedAfter c (granted ∷ others) = (by_bytes c granted.0 ≡ Less) × GrantedAfter c others
GrantedAfter c [] = Unit {0}

-- as it comes before each session
pub after_rows : (c : Client) (topic : List ℕ) (rows : Sessions) → ComesBefore c rows → GrantedAfter c (granted_rows topic rows)
after_rows c topic [] before = tt
after_rows c topic (row ∷ rows) before = by (granted_qos topic row.1.state.subscriptions) (after_rows c topic rows before.1)
  where
    by : (o : Option QoS) → GrantedAfter c (granted_rows topic rows) → GrantedAfter c (row_of row.0 o ++ granted_rows topic rows)
    by None more = more
    by (Some qos) more = (before.0, more)

-- then its row stays
delivered_after : (w : ℕ) (p : Publication) (c : Client) (kept : ClientSession) (granted : List Row) (rest : Sessions) → GrantedAfter c granted →
    all_delivered w p granted ((c, kept) ∷ rest) ≡ (c, kept) ∷ all_delivered w p granted rest
delivered_after w p c kept [] rest after = refl
delivered_after w p c kept (row ∷ granted) rest after =
    ap (all_delivered w p granted)
    (changed_next row.0 (delivered_on w p row.1) (c, kept) rest
    ∙ ap (λ o. if is_eq o then (c, delivered_on w p row.1 kept) ∷ rest else (c, kept) ∷ session_changed row.0 (delivered_on w p row.1) rest) (less_turned c row.0 after.0))
    ∙ delivered_after w p c kept granted (session_changed row.0 (delivered_on w p row.1) rest) after.1

-- the first row gets what it is granted
delivered_first : (w : ℕ) (p : Publication) (c : Client) (kept : ClientSession) (o : Option QoS) (granted : List Row) (rest : Sessions) → GrantedAfter c granted →
    all_delivered w p (row_of c o ++ granted) ((c, kept) ∷ rest) ≡ (c, delivered_if w p o kept) ∷ all_delivered w p granted rest
delivered_first w p c kept None granted rest after = delivered_after w p c kept granted rest after
delivered_first w p c kept (Some qos) granted rest after =
    ap (all_delivered w p granted)
    (changed_next c (delivered_on w p qos) (c, kept) rest
    ∙ ap (λ b. if b then (c, delivered_on w p qos kept) ∷ rest else (c, kept) ∷ session_changed c (delivered_on w p qos) rest) (same_self c))
    ∙ delivered_after w p c (delivered_on w p qos kept) granted rest after

-- ---- all rows

-- the rows after a taken PUBLISH
pub publish_left : (w : ℕ) (x : ConnectionName) (p : Publish) (d : Client) (content : RetainedTopics) (rows : Sessions) → AreByClient rows →
    sessions_left w (place_of_taken x p d) content rows
    ≡ all_delivered w (publication_of p) (granted_rows p.topic rows) (session_changed d (received_on p.delivery) rows)
unfolding IsStrictlySortedBy
publish_left w x p d content [] by_client = refl
publish_left w x p d content (row ∷ rows) by_client =
    ap₂ (λ o rest. keyed row.0 o rest) (published_is w x p d content row.0 row.1) (publish_left w x p d content rows by_client.1)
    ∙ sym (delivered_first w (publication_of p) row.0 (received_if (same_client d row.0) p.delivery row.1) (granted_qos p.topic row.1.state.subscriptions)
    (granted_rows p.topic rows) (session_changed d (received_on p.delivery) rows) (after_rows row.0 p.topic rows by_client.0))
    ∙ ap (λ rest. all_delivered w (publication_of p) (granted_rows p.topic (row ∷ rows)) rest) (sym (changed_first d p row rows by_client.0))
