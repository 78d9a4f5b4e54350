-- If a connected client's queue is filled, a fill after every command is a fill where entries may
-- start: at a Connect, after PUBACK and PUBCOMP, and after each copy that is enqueued.
use Rattle.std.proofs.Common.{◌≡◌, ℕ, ◌≤◌, Bool, true, false, not, ◌&&◌, ◌||◌, inl, inr, if◌then◌else◌, Option, Some, None, List, [], ◌++◌, length, refl, ap, ◌∙◌, sym, subst}
use Rattle.packet.specs.declared.packet.Packet.TheVariants as packets
use Rattle.retained.specs.Retained.{RetainedTopics}
use Rattle.session_base.specs.declared.publication.Publication.{Publication}
use Rattle.session_base.specs.Theorems.{IsFilledQueue}
use Rattle.session_base.specs.Subscriptions.{GrantedSubscription}
use Rattle.session_base.specs.Queue.{Flight, on_puback, on_pubrec, on_pubcomp, fill}
use Rattle.session_base.proofs.CopiesOneByOne.{fill_quiet, copies_are_one_fill}
use Rattle.broker_spec.specs.Connection.{ConnectionName}
use Rattle.broker_spec.specs.Place.{Client, same_client, Mark, Place, only_if}
use Rattle.broker_spec.specs.Sessions.{expels, ends_any}
use Rattle.broker_spec.specs.Subscriptions.{subscriptions_after}
use Rattle.broker_spec.specs.Received.{received_by}
use Rattle.broker_spec.specs.Entries.{queued}
use Rattle.broker_base.specs.ClientSession.{ClientSession}
use Rattle.broker_base.specs.SessionStep.{copies_with, filled_on, answered_queue, copied_queue, session_anew, session_resumed, session_by, session_later, session_touched}
use Rattle.broker_spec.specs.declared.command.Command.{Command}
use Rattle.broker_spec.specs.declared.command.Command.TheVariants as commands
use Rattle.broker_base.proofs.flights.IdentifiersInFlight.{append_none}
use Rattle.broker_base.proofs.flights.FillingAlways.{answered_flights, filled_kept, filled_by, filled_later, filled_after}

-- a queue that a fill does not change, and does not change after a PUBREC
abbrev pub IsAtRest : ℕ → List Flight → List Publication → Type 0
IsAtRest w fs ms = IsFilledQueue w fs ms × ((id : ℕ) → length (on_pubrec id fs) ≡ length fs)

pub still_quiet : (w : ℕ) (fs gs : List Flight) (ms : List Publication) → length gs ≡ length fs → IsFilledQueue w fs ms → IsFilledQueue w gs ms
still_quiet w fs gs ms e (inl none) = inl none
still_quiet w fs gs ms e (inr full) = inr (subst (λ (n : ℕ). w ≤ n) (sym e) full)

-- ---- queues

copies_same : (w : ℕ) (connection : Option ConnectionName) (copies : List Publication) (fs : List Flight) (ms : List Publication) →
    ((x : ConnectionName) → connection ≡ Some x → IsAtRest w fs ms) →
    filled_on connection w fs (ms ++ queued copies) ≡ copied_queue w connection copies (record { in_flight = fs; waiting = ms })
copies_same w None copies fs ms h = refl
copies_same w (Some x) copies fs ms h = sym (copies_are_one_fill w fs ms copies (h x refl).0)

-- an answer that changes what is in flight, and after which what may start starts
finishes : (w : ℕ) (b : Bool) (connection : Option ConnectionName) (fs gs : List Flight) (ms : List Publication) →
    ((x : ConnectionName) → connection ≡ Some x → IsAtRest w fs ms) →
    filled_on connection w (if b then gs else fs) (ms ++ [])
    ≡ copied_queue w connection [] (if b then filled_on connection w gs ms else record { in_flight = fs; waiting = ms })
finishes w true None fs gs ms h = refl
finishes w false None fs gs ms h = refl
finishes w true (Some x) fs gs ms h = ap (fill w gs) (append_none ms)
finishes w false (Some x) fs gs ms h = ap (fill w fs) (append_none ms) ∙ fill_quiet w fs ms (h x refl).0

releases : (w i : ℕ) (b : Bool) (connection : Option ConnectionName) (fs : List Flight) (ms : List Publication) →
    ((x : ConnectionName) → connection ≡ Some x → IsAtRest w fs ms) →
    filled_on connection w (if b then on_pubrec i fs else fs) (ms ++ [])
    ≡ copied_queue w connection [] (if b then record { in_flight = on_pubrec i fs; waiting = ms } else record { in_flight = fs; waiting = ms })
releases w i true None fs ms h = refl
releases w i false None fs ms h = refl
releases w i true (Some x) fs ms h =
    ap (fill w (on_pubrec i fs)) (append_none ms)
    ∙ fill_quiet w (on_pubrec i fs) ms (still_quiet w fs (on_pubrec i fs) ms ((h x refl).1 i) (h x refl).0)
releases w i false (Some x) fs ms h = ap (fill w fs) (append_none ms) ∙ fill_quiet w fs ms (h x refl).0

queues_same : (w : ℕ) (command : Command) (mark : Mark) (content : RetainedTopics) (c : Client) (connection : Option ConnectionName) (held : List GrantedSubscription) (fs : List Flight) (ms : List Publication) →
    ((x : ConnectionName) → connection ≡ Some x → IsAtRest w fs ms) →
    filled_on connection w (answered_flights command mark c fs) (ms ++ queued (copies_with command mark content c held))
    ≡ copied_queue w connection (copies_with command mark content c held) (answered_queue w command mark c connection (record { in_flight = fs; waiting = ms }))
queues_same w (commands.Packet x (packets.Puback i)) (Mark.Handled d) content c connection held fs ms h = finishes w (same_client d c) connection fs (on_puback i fs) ms h
queues_same w (commands.Packet x (packets.Pubrec i)) (Mark.Handled d) content c connection held fs ms h = releases w i (same_client d c) connection fs ms h
queues_same w (commands.Packet x (packets.Pubcomp i)) (Mark.Handled d) content c connection held fs ms h = finishes w (same_client d c) connection fs (on_pubcomp i fs) ms h
queues_same w command mark content c connection held fs ms h = copies_same w connection (copies_with command mark content c held) fs ms h

-- ---- sessions

-- the queue of a session whose connection the place leaves is at rest
abbrev pub RestsAt : ℕ → Place → Client → Option ClientSession → Type 0
RestsAt w place c (Some old) =
    (x : ConnectionName) → only_if (not (ends_any place c old.connection)) old.connection ≡ Some x → IsAtRest w old.state.queue.in_flight old.state.queue.waiting
RestsAt w place c None = Unit {0}

later_same : (w : ℕ) (place : Place) (content : RetainedTopics) (c : Client) (old : Option ClientSession) → RestsAt w place c old →
    filled_later w place content c old ≡ session_later w place content c old
later_same w place content c None h = refl
later_same w place content c (Some old) h =
    ap (λ q. only_if (not (expels place.command c || (old.clean && ends_any place c old.connection))) (Some (record {
      clean = old.clean;
      connection = only_if (not (ends_any place c old.connection)) old.connection;
      state = record {
        subscriptions = subscriptions_after place.command place.mark c old.state.subscriptions;
        received = received_by place.command place.mark c old.state.received;
        queue = q;
      };
    })))
    (queues_same w place.command place.mark content c (only_if (not (ends_any place c old.connection)) old.connection) old.state.subscriptions old.state.queue.in_flight old.state.queue.waiting h)

connected_same : (w : ℕ) (content : RetainedTopics) (c d : Client) (x : ConnectionName) (clean : Bool) (old : Option ClientSession) →
    filled_by w (record { command = commands.Connect x d clean; mark = Mark.Accepted }) content c (Some (x, clean)) old
    ≡ session_by w (record { command = commands.Connect x d clean; mark = Mark.Accepted }) content c (Some (x, clean)) old
connected_same w content c d x clean None = refl
connected_same w content c d x clean (Some old) =
    elim (clean || old.clean) as (λ (b : Bool). Some (if b then session_anew (x, clean) else filled_kept w (record { command = commands.Connect x d clean; mark = Mark.Accepted }) content c clean (Some x) old)
    ≡ Some (if b then session_anew (x, clean) else session_resumed w (x, clean) old)) [
      | true ↦ refl
      | false ↦ ap (λ ms. Some (record {
        clean = clean;
        connection = Some x;
        state = record { subscriptions = old.state.subscriptions; received = old.state.received; queue = fill w old.state.queue.in_flight ms };
      })) (append_none old.state.queue.waiting)
    ]

after_by : (w : ℕ) (command : Command) (mark : Mark) (content : RetainedTopics) (c : Client) (old : Option ClientSession) → RestsAt w (record { command = command; mark = mark }) c old →
    filled_after w (record { command = command; mark = mark }) content c old ≡ session_touched w (record { command = command; mark = mark }) content c old
after_by w (commands.Connect x d clean) Mark.Accepted content c old h =
    elim (same_client d c) as (λ (b : Bool).
    filled_by w (record { command = commands.Connect x d clean; mark = Mark.Accepted }) content c (only_if b (Some (x, clean))) old
    ≡ session_by w (record { command = commands.Connect x d clean; mark = Mark.Accepted }) content c (only_if b (Some (x, clean))) old) [
      | true ↦ connected_same w content c d x clean old
      | false ↦ later_same w (record { command = commands.Connect x d clean; mark = Mark.Accepted }) content c old h
    ]
after_by w command mark content c old h = later_same w (record { command = command; mark = mark }) content c old h

pub after_same : (w : ℕ) (place : Place) (content : RetainedTopics) (c : Client) (old : Option ClientSession) → RestsAt w place c old →
    filled_after w place content c old ≡ session_touched w place content c old
after_same w place content c old h = after_by w place.command place.mark content c old h
