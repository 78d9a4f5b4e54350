-- What a packet does to its sender's session, if the connection continues.
use Rattle.std.proofs.Common.{◌≡◌, ℕ, Bool, true, false, not, ◌&&◌, ◌||◌, if◌then◌else◌, List, [], Option, Some, None, refl, ap, ◌∙◌, sym}
use Rattle.packet.specs.declared.subscribe.Subscribe.{Subscribe}
use Rattle.packet.specs.declared.publish.Publish.{Publish}
use Rattle.packet.specs.declared.packet.Packet.{Packet}
use Rattle.packet.specs.declared.packet.Packet.TheVariants as packets
use Rattle.std.specs.Prelude.{map}
use Rattle.retained.specs.Retained.{RetainedTopics}
use Rattle.session_base.specs.Identifiers.{without_id}
use Rattle.session_base.specs.Session.{with_granted, with_received, with_queue, with_flights}
use Rattle.session_base.specs.Subscriptions.{GrantedSubscription, with_subscriptions, without_filters}
use Rattle.session_base.specs.Queue.{Queue, on_puback, on_pubrec, on_pubcomp, fill}
use Rattle.session_base.specs.Copies.{copies_left}
use Rattle.broker_spec.specs.Connection.{ConnectionName}
use Rattle.broker_spec.specs.Place.{Client, Mark, Place, only_if}
use Rattle.broker_spec.specs.Sessions.{ends_any, is_leaving}
use Rattle.broker_spec.specs.Subscriptions.{as_granted, granted_of}
use Rattle.broker_spec.specs.Entries.{copies_for_all}
use Rattle.broker_base.specs.ClientSession.{ClientSession}
use Rattle.broker_base.specs.SessionStep.{session_on, session_touched}
use Rattle.broker_base.specs.Step.{is_about, session_after}
use Rattle.broker_spec.specs.declared.command.Command.TheVariants as commands
use Rattle.broker_spec.proofs.ClientsInOrder.{same_self}
use Rattle.broker_base.specs.rows.Served.{with_content}
use Rattle.broker_base.specs.rows.PacketTheorems.{handled_state, subscribed_to}

-- the place of a packet
abbrev pub packet_at : ConnectionName → Packet → Mark → Place
packet_at x packet mark = record { command = commands.Packet x packet; mark = mark }

-- a mark that does not leave ends no connection
pub stays_on : (x : ConnectionName) (packet : Packet) (mark : Mark) (connection : Option ConnectionName) → is_leaving mark ≡ false → ends_any (packet_at x packet mark) [] connection ≡ false
stays_on x packet mark None e = refl
stays_on x packet mark (Some y) e = both _ e
  where
    both : (b : Bool) → is_leaving mark ≡ false → (b && is_leaving mark) ≡ false
    both true e = e
    both false e = refl

-- a session whose connection stays is there still
pub stays_there : (clean : Bool) (kept : ClientSession) → only_if (not (clean && false)) (Some kept) ≡ Some kept
stays_there true kept = refl
stays_there false kept = refl

module _ (w : ℕ) (x : ConnectionName) (content : RetainedTopics) (c : Client) (kept : ClientSession) (on : kept.connection ≡ Some x) where
  -- a packet that is about its sender's session, and leaves it its connection
  goes_on : (packet : Packet) (mark : Mark) → is_leaving mark ≡ false → is_about (commands.Packet x packet) mark c kept.state.subscriptions ≡ true →
      session_after w (packet_at x packet mark) content c kept ≡ Some (session_on w (packet_at x packet mark) content c (Some x) kept)
  goes_on packet mark stays about =
      ap (λ b. if b || is_about (commands.Packet x packet) mark c kept.state.subscriptions then session_touched w (packet_at x packet mark) content c (Some kept) else Some kept)
      (stays_on x packet mark kept.connection stays)
      ∙ ap (λ b. if b then session_touched w (packet_at x packet mark) content c (Some kept) else Some kept) about
      ∙ ap (λ b. only_if (not (kept.clean && b)) (Some (session_on w (packet_at x packet mark) content c (only_if (not b) kept.connection) kept)))
      (stays_on x packet mark kept.connection stays)
      ∙ stays_there kept.clean (session_on w (packet_at x packet mark) content c kept.connection kept)
      ∙ ap (λ connection. Some (session_on w (packet_at x packet mark) content c connection kept)) on

  -- the session with these, on its connection
  back_on : (filters : List GrantedSubscription) (ids : List ℕ) (queue : Queue) →
      Some (record { clean = kept.clean; connection = Some x; state = record { subscriptions = filters; received = ids; queue = queue } })
      ≡ Some (with_content (record { subscriptions = filters; received = ids; queue = queue }) kept)
  back_on filters ids queue =
      ap (λ connection. Some (record { clean = kept.clean; connection = connection; state = record { subscriptions = filters; received = ids; queue = queue } })) (sym on)

  -- a handled packet is about its sender's session
  about_sender : (packet : Packet) → is_about (commands.Packet x packet) (Mark.Handled c) c kept.state.subscriptions ≡ true
  about_sender (packets.Publish p) = same_self c
  about_sender _ = same_self c

  -- a packet that is handled
  pub handled_is : (packet : Packet) → session_after w (packet_at x packet (Mark.Handled c)) content c kept ≡ Some (with_content (handled_state w packet kept.state) kept)
  handled_is packet = goes_on packet (Mark.Handled c) refl (about_sender packet) ∙ by packet
    where
      by : (packet : Packet) → Some (session_on w (packet_at x packet (Mark.Handled c)) content c (Some x) kept) ≡ Some (with_content (handled_state w packet kept.state) kept)
      by (packets.Puback id) =
          ap (λ b. Some (record { clean = kept.clean; connection = Some x; state = with_queue (if b then fill w (on_puback id kept.state.queue.in_flight) kept.state.queue.waiting else kept.state.queue) kept.state })) (same_self c)
          ∙ back_on kept.state.subscriptions kept.state.received (fill w (on_puback id kept.state.queue.in_flight) kept.state.queue.waiting)
      by (packets.Pubrec id) =
          ap (λ b. Some (record { clean = kept.clean; connection = Some x; state = with_queue (if b then with_flights (on_pubrec id kept.state.queue.in_flight) kept.state.queue else kept.state.queue) kept.state })) (same_self c)
          ∙ back_on kept.state.subscriptions kept.state.received (with_flights (on_pubrec id kept.state.queue.in_flight) kept.state.queue)
      by (packets.Pubcomp id) =
          ap (λ b. Some (record { clean = kept.clean; connection = Some x; state = with_queue (if b then fill w (on_pubcomp id kept.state.queue.in_flight) kept.state.queue.waiting else kept.state.queue) kept.state })) (same_self c)
          ∙ back_on kept.state.subscriptions kept.state.received (fill w (on_pubcomp id kept.state.queue.in_flight) kept.state.queue.waiting)
      by (packets.Pubrel id) =
          ap (λ b. Some (record { clean = kept.clean; connection = Some x; state = with_received (if b then without_id id kept.state.received else kept.state.received) kept.state })) (same_self c)
          ∙ back_on kept.state.subscriptions (without_id id kept.state.received) kept.state.queue
      by (packets.Unsubscribe u) =
          ap (λ b. Some (record { clean = kept.clean; connection = Some x; state = with_granted (if b then without_filters u.filters kept.state.subscriptions else kept.state.subscriptions) kept.state })) (same_self c)
          ∙ back_on (without_filters u.filters kept.state.subscriptions) kept.state.received kept.state.queue
      by _ = back_on kept.state.subscriptions kept.state.received kept.state.queue

  -- SUBSCRIBE: the granted filters are held, and their retained copies come
  pub subscribe_is : (s : Subscribe) (which : List Bool) →
      session_after w (packet_at x (packets.Subscribe s) (Mark.Granted c which)) content c kept
      ≡ Some (with_content (subscribed_to w content (granted_of s.filters which) kept.state) kept)
  subscribe_is s which =
      goes_on (packets.Subscribe s) (Mark.Granted c which) refl (same_self c)
      ∙ ap (λ b. Some (record {
        clean = kept.clean;
        connection = Some x;
        state = record {
          subscriptions = if b then with_subscriptions (map as_granted (granted_of s.filters which)) kept.state.subscriptions else kept.state.subscriptions;
          received = kept.state.received;
          queue = copies_left w (if b then copies_for_all content (granted_of s.filters which) else []) kept.state.queue;
        };
      })) (same_self c)
      ∙ back_on (with_subscriptions (map as_granted (granted_of s.filters which)) kept.state.subscriptions) kept.state.received
      (copies_left w (copies_for_all content (granted_of s.filters which)) kept.state.queue)

  -- a PUBLISH that was taken before leaves it
  pub repeat_is : (p : Publish) → session_after w (packet_at x (packets.Publish p) (Mark.Repeat c)) content c kept ≡ Some kept
  repeat_is p =
      ap (λ b. if b || false then session_touched w (packet_at x (packets.Publish p) (Mark.Repeat c)) content c (Some kept) else Some kept)
      (stays_on x (packets.Publish p) (Mark.Repeat c) kept.connection refl)
