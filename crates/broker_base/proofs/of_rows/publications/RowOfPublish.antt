-- What a taken PUBLISH leaves of one session: its identifier noted, and the copy delivered.
use Rattle.std.proofs.Common.{◌≡◌, ℕ, Bool, true, false, not, ◌&&◌, ◌||◌, if◌then◌else◌, [], Option, Some, None, refl, ap, ◌∙◌}
use Rattle.std.specs.Prelude.{is_some, option_map}
use Rattle.packet_base.specs.declared.qos.QoS.{QoS}
use Rattle.packet.specs.declared.delivery.Delivery.{Delivery}
use Rattle.packet.specs.declared.publish.Publish.{Publish}
use Rattle.packet.specs.declared.packet.Packet.TheVariants as packets
use Rattle.retained.specs.Retained.{RetainedTopics}
use Rattle.session_base.specs.declared.publication.Publication.{Publication}
use Rattle.session_base.specs.Publication.{publication_of}
use Rattle.packet_base.specs.QoS.{lower_qos}
use Rattle.session_base.specs.Subscriptions.{granted_qos}
use Rattle.session_base.specs.Queue.{Queue}
use Rattle.broker_spec.specs.Connection.{ConnectionName}
use Rattle.broker_spec.specs.Place.{Client, Mark, same_client, only_if}
use Rattle.broker_spec.specs.EntryTheorems.{place_of_taken}
use Rattle.broker_spec.specs.Received.{receives}
use Rattle.broker_spec.specs.Entries.{copy_of}
use Rattle.broker_base.specs.ClientSession.{ClientSession}
use Rattle.broker_base.specs.SessionStep.{copied_queue, session_on, session_touched}
use Rattle.broker_base.specs.Step.{session_after}
use Rattle.broker_base.proofs.flights.IdentifiersInFlight.{append_none}
use Rattle.broker_base.specs.rows.Published.{received_on, delivered_on}
use Rattle.broker_base.proofs.of_rows.ServedGoesOn.{stays_on, stays_there}

-- the publisher's session takes note
abbrev pub received_if : Bool → Delivery → ClientSession → ClientSession
received_if mine delivery kept = if mine then received_on delivery kept else kept

-- a session that is granted a QoS gets a copy
abbrev pub delivered_if : ℕ → Publication → Option QoS → ClientSession → ClientSession
delivered_if w p (Some qos) kept = delivered_on w p qos kept
delivered_if w p None kept = kept

-- without copies a queue stays
uncopied : (w : ℕ) (connection : Option ConnectionName) (queue : Queue) → copied_queue w connection [] queue ≡ queue
uncopied w None queue = ap (λ waiting. record { in_flight = queue.in_flight; waiting = waiting }) (append_none queue.waiting)
uncopied w (Some x) queue = refl

-- what the step does to a session that it touches
abbrev published : ℕ → Publish → Bool → Option QoS → ClientSession → ClientSession
published w p mine granted kept = record {
  clean = kept.clean;
  connection = kept.connection;
  state = record {
    subscriptions = kept.state.subscriptions;
    received = if mine then receives p.delivery kept.state.received else kept.state.received;
    queue = copied_queue w kept.connection (copy_of (publication_of p) (option_map (lower_qos (publication_of p).qos) granted)) kept.state.queue;
  };
}

-- it does so
kept_published : (w : ℕ) (x : ConnectionName) (p : Publish) (d : Client) (content : RetainedTopics) (c : Client) (kept : ClientSession) →
    session_touched w (place_of_taken x p d) content c (Some kept) ≡ Some (published w p (same_client d c) (granted_qos p.topic kept.state.subscriptions) kept)
kept_published w x p d content c kept =
    ap (λ b. only_if (not (kept.clean && b)) (Some (session_on w (place_of_taken x p d) content c (only_if (not b) kept.connection) kept)))
    (stays_on x (packets.Publish p) (Mark.Taken d) kept.connection refl)
    ∙ stays_there kept.clean (published w p (same_client d c) (granted_qos p.topic kept.state.subscriptions) kept)

-- by whether it is the publisher's, and what it is granted
by_parts : (w : ℕ) (p : Publish) (kept : ClientSession) (mine : Bool) (granted : Option QoS) →
    (if mine || is_some granted then Some (published w p mine granted kept) else Some kept)
    ≡ Some (delivered_if w (publication_of p) granted (received_if mine p.delivery kept))
by_parts w p kept true (Some qos) = refl
by_parts w p kept false (Some qos) = refl
by_parts w p kept true None =
    ap (λ queue. Some (record {
      clean = kept.clean;
      connection = kept.connection;
      state = record { subscriptions = kept.state.subscriptions; received = receives p.delivery kept.state.received; queue = queue };
    })) (uncopied w kept.connection kept.state.queue)
by_parts w p kept false None = refl

-- a session after a taken PUBLISH
pub published_is : (w : ℕ) (x : ConnectionName) (p : Publish) (d : Client) (content : RetainedTopics) (c : Client) (kept : ClientSession) →
    session_after w (place_of_taken x p d) content c kept
    ≡ Some (delivered_if w (publication_of p) (granted_qos p.topic kept.state.subscriptions) (received_if (same_client d c) p.delivery kept))
published_is w x p d content c kept =
    ap (λ over. if over || (same_client d c || is_some (granted_qos p.topic kept.state.subscriptions)) then session_touched w (place_of_taken x p d) content c (Some kept) else Some kept)
    (stays_on x (packets.Publish p) (Mark.Taken d) kept.connection refl)
    ∙ ap (λ o. if same_client d c || is_some (granted_qos p.topic kept.state.subscriptions) then o else Some kept) (kept_published w x p d content c kept)
    ∙ by_parts w p kept (same_client d c) (granted_qos p.topic kept.state.subscriptions)
