-- Where a command ends a session's connection, a clean session goes, and another stays without a connection.
use Rattle.std.proofs.Common.{◌≡◌, ℕ, Bool, true, false, not, ◌&&◌, ◌||◌, if◌then◌else◌, List, [], Some, None, refl, ap, ap₂, ◌∙◌}
use Rattle.packet.specs.declared.packet.Packet.TheVariants as packets
use Rattle.retained.specs.Retained.{RetainedTopics}
use Rattle.session_base.specs.Subscriptions.{GrantedSubscription}
use Rattle.session_base.specs.Queue.{Queue}
use Rattle.broker_spec.specs.Place.{Client, Mark, Place, only_if}
use Rattle.broker_spec.specs.Sessions.{accepts, ends_any, expels}
use Rattle.broker_spec.specs.Subscriptions.{subscriptions_after}
use Rattle.broker_spec.specs.Received.{received_by}
use Rattle.broker_base.specs.ClientSession.{ClientSession}
use Rattle.broker_base.specs.SessionStep.{copies_with, answered_queue, copied_queue, session_on, session_by, session_touched}
use Rattle.broker_base.specs.Step.{is_about, session_after}
use Rattle.broker_spec.specs.declared.command.Command.{Command}
use Rattle.broker_spec.specs.declared.command.Command.TheVariants as commands
use Rattle.broker_base.proofs.flights.IdentifiersInFlight.{append_none}
use Rattle.broker_base.specs.rows.Served.{left_off}

-- the mark is that of a command that may end a connection, and does nothing else
abbrev pub IsParting : Mark → Type 0
IsParting Mark.Unmarked = Unit {0}
IsParting (Mark.Leaves c) = Unit {0}
IsParting (Mark.Refused c) = Unit {0}
IsParting _ = ⊥

-- nothing opens
opens_none : (command : Command) (mark : Mark) (c : Client) → IsParting mark → accepts command mark c ≡ None
opens_none (commands.Connect x d clean) Mark.Accepted c parting = absurd parting
opens_none _ _ c parting = refl

-- the subscriptions stay
filters_same : (command : Command) (mark : Mark) (c : Client) (held : List GrantedSubscription) → IsParting mark → subscriptions_after command mark c held ≡ held
filters_same (commands.Packet x (packets.Subscribe s)) (Mark.Granted d which) c held parting = absurd parting
filters_same (commands.Packet x (packets.Unsubscribe u)) (Mark.Handled d) c held parting = absurd parting
filters_same _ _ c held parting = refl

-- the identifiers stay
received_same : (command : Command) (mark : Mark) (c : Client) (ids : List ℕ) → IsParting mark → received_by command mark c ids ≡ ids
received_same (commands.Packet x (packets.Publish p)) (Mark.Taken d) c ids parting = absurd parting
received_same (commands.Packet x (packets.Pubrel id)) (Mark.Handled d) c ids parting = absurd parting
received_same _ _ c ids parting = refl

-- the queue stays
queue_same : (w : ℕ) (command : Command) (mark : Mark) (c : Client) (queue : Queue) → IsParting mark → answered_queue w command mark c None queue ≡ queue
queue_same w (commands.Packet x (packets.Puback i)) (Mark.Handled d) c queue parting = absurd parting
queue_same w (commands.Packet x (packets.Pubrec i)) (Mark.Handled d) c queue parting = absurd parting
queue_same w (commands.Packet x (packets.Pubcomp i)) (Mark.Handled d) c queue parting = absurd parting
queue_same w _ _ c queue parting = refl

-- no copies are made
no_copies : (command : Command) (mark : Mark) (content : RetainedTopics) (c : Client) (held : List GrantedSubscription) → IsParting mark → copies_with command mark content c held ≡ []
no_copies (commands.Packet x (packets.Publish p)) (Mark.Taken d) content c held parting = absurd parting
no_copies (commands.Packet x (packets.Subscribe s)) (Mark.Granted d which) content c held parting = absurd parting
no_copies _ _ content c held parting = refl

-- by whether the session is clean
by_clean : (clean : Bool) (later : ClientSession) → only_if (not (clean && true)) (Some later) ≡ (if clean then None else Some later)
by_clean true later = refl
by_clean false later = refl

-- the session without its connection, with these
abbrev off : ClientSession → List GrantedSubscription → List ℕ → Queue → ClientSession
off kept held ids queue = record { clean = kept.clean; connection = None; state = record { subscriptions = held; received = ids; queue = queue } }

-- a session continues without its connection as it was
kept_off : (w : ℕ) (place : Place) (content : RetainedTopics) (c : Client) (kept : ClientSession) → IsParting place.mark →
    session_on w place content c None kept ≡ record { clean = kept.clean; connection = None; state = kept.state }
kept_off w place content c kept parting =
    ap₂ (λ held ids. off kept held ids (copied_queue w None (copies_with place.command place.mark content c kept.state.subscriptions) (answered_queue w place.command place.mark c None kept.state.queue)))
    (filters_same place.command place.mark c kept.state.subscriptions parting) (received_same place.command place.mark c kept.state.received parting)
    ∙ ap₂ (λ copies queue. off kept kept.state.subscriptions kept.state.received (copied_queue w None copies queue))
    (no_copies place.command place.mark content c kept.state.subscriptions parting) (queue_same w place.command place.mark c kept.state.queue parting)
    ∙ ap (λ waiting. off kept kept.state.subscriptions kept.state.received (record { in_flight = kept.state.queue.in_flight; waiting = waiting })) (append_none kept.state.queue.waiting)

-- what is left of the session
pub parted_is : (w : ℕ) (place : Place) (content : RetainedTopics) (c : Client) (kept : ClientSession) → IsParting place.mark → expels place.command c ≡ false → ends_any place c kept.connection ≡ true →
    session_after w place content c kept ≡ left_off kept
parted_is w place content c kept parting spared over =
    ap (λ b. if b || is_about place.command place.mark c kept.state.subscriptions then session_touched w place content c (Some kept) else Some kept) over
    ∙ ap (λ opened. session_by w place content c opened (Some kept)) (opens_none place.command place.mark c parting)
    ∙ ap₂ (λ a b. only_if (not (a || (kept.clean && b))) (Some (session_on w place content c (only_if (not b) kept.connection) kept))) spared over
    ∙ by_clean kept.clean (session_on w place content c None kept)
    ∙ ap (λ later. if kept.clean then None else Some later) (kept_off w place content c kept parting)
