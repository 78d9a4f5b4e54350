-- What a command is not about stays, of plain values.
use Rattle.std.proofs.Common.{◌≡◌, ℕ, Bool, true, false, not, ◌&&◌, ◌||◌, if◌then◌else◌, Option, Some, None, List, [], ◌∷◌, refl, ap, ap₂, ◌∙◌}
use Rattle.std.proofs.lemmas.Bool.{or_parts}
use Rattle.session_base.specs.Subscriptions.{GrantedSubscription, granted_qos}
use Rattle.packet.specs.declared.packet.Packet.TheVariants as packets
use Rattle.retained.specs.Retained.{RetainedTopics}
use Rattle.session_base.specs.Queue.{Queue}
use Rattle.broker_spec.specs.Connection.{ConnectionName}
use Rattle.broker_spec.specs.Place.{Client, same_client, Mark, Place, Past, Limits, only_if}
use Rattle.broker_spec.specs.Sessions.{accepts, any_connection, ends, expels, ends_any}
use Rattle.session_base.specs.Publication.{publication_of}
use Rattle.packet_base.specs.QoS.{lower_qos}
use Rattle.packet_base.specs.declared.qos.QoS.{QoS}
use Rattle.std.specs.Prelude.{option_map, is_some}
use Rattle.broker_spec.specs.Subscriptions.{subscriptions_after}
use Rattle.broker_spec.specs.Received.{received_by}
use Rattle.broker_spec.specs.Entries.{copy_of}
use Rattle.broker_spec.specs.Times.{window_at}
use Rattle.broker_spec.specs.Commands.{is_start}
use Rattle.broker_base.specs.ClientSession.{ClientSession}
use Rattle.broker_base.specs.SessionStep.{copies_with, answered_queue, copied_queue, session_by, session_touched}
use Rattle.broker_base.specs.Step.{is_about, IsWindow}
use Rattle.broker_spec.specs.declared.command.Command.{Command}
use Rattle.broker_spec.specs.declared.command.Command.TheVariants as commands
use Rattle.broker_base.proofs.flights.IdentifiersInFlight.{append_none}

if_no : {A : Type 0} (b : Bool) (x y : A) → b ≡ false → (if b then x else y) ≡ y
if_no true x y e = absurd (cc)
if_no false x y e = refl

pub not_opened : (command : Command) (mark : Mark) (c : Client) (held : List GrantedSubscription) → is_about command mark c held ≡ false → accepts command mark c ≡ None
not_opened (commands.Connect x d clean) Mark.Accepted c held e = ap (λ b. only_if b (Some (x, clean))) e
not_opened _ _ c held e = refl

subscribed_same : (command : Command) (mark : Mark) (c : Client) (held : List GrantedSubscription) → is_about command mark c held ≡ false → subscriptions_after command mark c held ≡ held
subscribed_same (commands.Packet x (packets.Subscribe s)) (Mark.Granted d which) c held e = if_no (same_client d c) _ held e
subscribed_same (commands.Packet x (packets.Unsubscribe u)) (Mark.Handled d) c held e = if_no (same_client d c) _ held e
subscribed_same _ _ c held e = refl

received_same : (command : Command) (mark : Mark) (c : Client) (held : List GrantedSubscription) (ids : List ℕ) → is_about command mark c held ≡ false → received_by command mark c ids ≡ ids
received_same (commands.Packet x (packets.Publish p)) (Mark.Taken d) c held ids e = if_no (same_client d c) _ ids (or_parts (same_client d c) (is_some (granted_qos p.topic held)) e).0
received_same (commands.Packet x (packets.Pubrel id)) (Mark.Handled d) c held ids e = if_no (same_client d c) _ ids e
received_same _ _ c held ids e = refl

answered_same : (w : ℕ) (command : Command) (mark : Mark) (c : Client) (held : List GrantedSubscription) (connection : Option ConnectionName) (q : Queue) → is_about command mark c held ≡ false →
    answered_queue w command mark c connection q ≡ q
answered_same w (commands.Packet x (packets.Puback i)) (Mark.Handled d) c held connection q e = if_no (same_client d c) _ q e
answered_same w (commands.Packet x (packets.Pubrec i)) (Mark.Handled d) c held connection q e = if_no (same_client d c) _ q e
answered_same w (commands.Packet x (packets.Pubcomp i)) (Mark.Handled d) c held connection q e = if_no (same_client d c) _ q e
answered_same w _ _ c held connection q e = refl

no_copies : (command : Command) (mark : Mark) (content : RetainedTopics) (c : Client) (held : List GrantedSubscription) → is_about command mark c held ≡ false → copies_with command mark content c held ≡ []
no_copies (commands.Packet x (packets.Publish p)) (Mark.Taken d) content c held e =
    none (granted_qos p.topic held) (or_parts (same_client d c) (is_some (granted_qos p.topic held)) e).1
  where
    none : (found : Option QoS) → is_some found ≡ false → copy_of (publication_of p) (option_map (lower_qos (publication_of p).qos) found) ≡ []
    none (Some qos) e = absurd (cc)
    none None e = refl
no_copies (commands.Packet x (packets.Subscribe s)) (Mark.Granted d which) content c held e = if_no (same_client d c) _ [] e
no_copies _ _ content c held e = refl

-- a Start ends each connection, and only it changes the window
pub no_start : (command : Command) (mark : Mark) (x : ConnectionName) → ends command mark x ≡ false → is_start command ≡ false
no_start (commands.Packet y packet) mark x e = refl
no_start (commands.Connect y d clean) mark x e = refl
no_start (commands.Lost y) mark x e = refl
no_start (commands.Start ballot) mark x e = absurd (cc)
no_start (commands.Expel d) mark x e = refl

pub same_window : (limits : Limits) (later : ℕ) → IsWindow limits later → (place : Place) (past : Past) → is_start place.command ≡ false → window_at limits (place ∷ past) ≡ window_at limits past
same_window limits later follows place past e = follows place past ∙ if_no (is_start place.command) later (limits.window past) e

no_copy : (w : ℕ) (connection : Option ConnectionName) (q : Queue) → copied_queue w connection [] q ≡ q
no_copy w None q = ap (λ ms. record { in_flight = q.in_flight; waiting = ms }) (append_none q.waiting)
no_copy w (Some x) q = refl

-- what is kept, with these parts
abbrev pub parts : ClientSession → Bool → Bool → List GrantedSubscription → List ℕ → Queue → Option ClientSession
parts kept expelled over held ids q =
    only_if (not (expelled || (kept.clean && over)))
    (Some (record {
      clean = kept.clean;
      connection = only_if (not over) kept.connection;
      state = record { subscriptions = held; received = ids; queue = q };
    }))

-- an Expel of the client ends whatever connection it has, or none
not_expelled : (expelled over : Bool) → (expelled || over) ≡ false → expelled ≡ false
not_expelled true over e = e
not_expelled false over e = refl

still_there : (clean : Bool) (kept : ClientSession) → only_if (not (clean && false)) (Some kept) ≡ Some kept
still_there true kept = refl
still_there false kept = refl

pub kept_stays : (w : ℕ) (place : Place) (content : RetainedTopics) (c : Client) (kept : ClientSession) → ends_any place c kept.connection ≡ false → is_about place.command place.mark c kept.state.subscriptions ≡ false →
    session_touched w place content c (Some kept) ≡ Some kept
kept_stays w place content c kept not_ended not_about =
    ap (λ opened. session_by w place content c opened (Some kept)) (not_opened place.command place.mark c kept.state.subscriptions not_about)
    ∙ ap₂ (λ expelled over. parts kept expelled over (subscriptions_after place.command place.mark c kept.state.subscriptions) (received_by place.command place.mark c kept.state.received)
    (copied_queue w (only_if (not over) kept.connection) (copies_with place.command place.mark content c kept.state.subscriptions)
    (answered_queue w place.command place.mark c (only_if (not over) kept.connection) kept.state.queue)))
    (not_expelled (expels place.command c) (any_connection (ends place.command place.mark) kept.connection) not_ended) not_ended
    ∙ ap₂ (λ held ids. parts kept false false held ids (copied_queue w kept.connection (copies_with place.command place.mark content c kept.state.subscriptions)
    (answered_queue w place.command place.mark c kept.connection kept.state.queue)))
    (subscribed_same place.command place.mark c kept.state.subscriptions not_about) (received_same place.command place.mark c kept.state.subscriptions kept.state.received not_about)
    ∙ ap₂ (λ copies q. parts kept false false kept.state.subscriptions kept.state.received (copied_queue w kept.connection copies q))
    (no_copies place.command place.mark content c kept.state.subscriptions not_about)
    (answered_same w place.command place.mark c kept.state.subscriptions kept.connection kept.state.queue not_about)
    ∙ ap (parts kept false false kept.state.subscriptions kept.state.received) (no_copy w kept.connection kept.state.queue)
    ∙ still_there kept.clean kept
