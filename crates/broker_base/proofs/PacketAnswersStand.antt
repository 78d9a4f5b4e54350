-- The answers that the state gives to a packet are those that the past gives.
use Rattle.std.proofs.Common.{◌≡◌, ℕ, Bool, true, false, ◌&&◌, if◌then◌else◌, Option, Some, None, List, [], ◌∷◌, ◌++◌, length, map, filter, refl, ap, ap₂, ◌∙◌, sym}
use Rattle.std.specs.Prelude.{option_map, is_some, flat_map}
use Rattle.packet.specs.declared.packet.Packet.{Packet}
use Rattle.packet.specs.declared.packet.Packet.TheVariants as packets
use Rattle.packet.specs.declared.publish.Publish.{Publish}
use Rattle.session_base.specs.Queue.{on_puback, on_pubcomp}
use Rattle.session_base.specs.EntryPackets.{fill_sends}
use Rattle.broker_spec.specs.Connection.{ConnectionName, same_connection}
use Rattle.broker_spec.specs.Place.{Client, Mark, Place, Past, Limits}
use Rattle.broker_spec.specs.Sessions.{any_connection, current_connection, clean_session_of}
use Rattle.broker_spec.specs.Owner.{named}
use Rattle.broker_spec.specs.Retained.{retained_publications}
use Rattle.broker_spec.specs.Times.{at_pubrec, window_at, entries_of}
use Rattle.broker_spec.specs.Sends.{deliveries_to}
use Rattle.broker_spec.specs.Answers.{acknowledged, codes_of, other_answers, packet_answers}
use Rattle.broker_base.specs.ClientSession.{ClientSession, client_session}
use Rattle.broker_base.specs.State.{keyed, table, state_of}
use Rattle.broker_base.specs.Step.{IsWindow}
use Rattle.broker_base.specs.StepAnswers.{copies_answered, copies_to, while_connected, handled_of, handled_in, packet_answers_in}
use Rattle.broker_spec.specs.declared.command.Command.TheVariants as commands
use Rattle.broker_spec.specs.declared.command.Output.TheVariants.{Send}
use Rattle.broker_spec.proofs.ClientsInOrder.{same_self}
use Rattle.broker_base.proofs.SessionsAfter.{at, session_is}
use Rattle.broker_base.proofs.UntouchedStays.{same_window}
use Rattle.broker_base.proofs.CopiesOfSessions.{deliveries_are}
use Rattle.broker_base.proofs.AnswersAfter.{fills_after, starts_are}
use Rattle.broker_base.proofs.flights.PubrelsAfter.{pubrels_after, pubrec_is}
use Rattle.broker_base.proofs.KeptAfter.{kept_now}

-- a packet that leaves nothing ends no connection
not_ending : (x : ConnectionName) (connection : Option ConnectionName) → any_connection (λ y. same_connection x y && false) connection ≡ false
not_ending x None = refl
not_ending x (Some y) = no (same_connection x y)
  where
    no : (b : Bool) → (b && false) ≡ false
    no true = refl
    no false = refl

-- ---- a taken PUBLISH

to_all : (limits : Limits) (later : ℕ) → IsWindow limits later → (past : Past) (x : ConnectionName) (p : Publish) (owner : Client) (ds : List Client) →
    flat_map (copies_answered (window_at limits (at (commands.Packet x (packets.Publish p)) (Mark.Taken owner) ∷ past)) (at (commands.Packet x (packets.Publish p)) (Mark.Taken owner)) (retained_publications past)) (table (client_session limits past) ds)
    ≡ flat_map (deliveries_to limits (at (commands.Packet x (packets.Publish p)) (Mark.Taken owner)) past) (filter (λ c. is_some (clean_session_of past c)) ds)
to_all limits later follows past x p owner [] = refl
to_all limits later follows past x p owner (d ∷ ds) =
    by (clean_session_of past d) (to_all limits later follows past x p owner ds)
    (sym (deliveries_are limits (at (commands.Packet x (packets.Publish p)) (Mark.Taken owner)) past d refl (not_ending x (current_connection past d)) refl
    (same_window limits later follows (at (commands.Packet x (packets.Publish p)) (Mark.Taken owner)) past refl)))
  where
    place : Place
    place = at (commands.Packet x (packets.Publish p)) (Mark.Taken owner)

    by : (session : Option Bool) →
        flat_map (copies_answered (window_at limits (at (commands.Packet x (packets.Publish p)) (Mark.Taken owner) ∷ past)) (at (commands.Packet x (packets.Publish p)) (Mark.Taken owner)) (retained_publications past)) (table (client_session limits past) ds)
        ≡ flat_map (deliveries_to limits (at (commands.Packet x (packets.Publish p)) (Mark.Taken owner)) past) (filter (λ c. is_some (clean_session_of past c)) ds) →
        copies_to (window_at limits (at (commands.Packet x (packets.Publish p)) (Mark.Taken owner) ∷ past)) (at (commands.Packet x (packets.Publish p)) (Mark.Taken owner)) (retained_publications past) d (option_map (kept_now limits past d) session)
        ≡ deliveries_to limits (at (commands.Packet x (packets.Publish p)) (Mark.Taken owner)) past d →
        flat_map (copies_answered (window_at limits (at (commands.Packet x (packets.Publish p)) (Mark.Taken owner) ∷ past)) (at (commands.Packet x (packets.Publish p)) (Mark.Taken owner)) (retained_publications past))
        (keyed d (option_map (kept_now limits past d) session) (table (client_session limits past) ds))
        ≡ flat_map (deliveries_to limits (at (commands.Packet x (packets.Publish p)) (Mark.Taken owner)) past)
        (if is_some session then d ∷ filter (λ c. is_some (clean_session_of past c)) ds else filter (λ c. is_some (clean_session_of past c)) ds)
    by None e here = e
    by (Some clean) e here = ap₂ (λ xs ys. xs ++ ys) here e

-- ---- the client's answers

after_puback : (w : ℕ) (x : ConnectionName) (c : Client) (i : ℕ) (old : Option ClientSession) →
    fills_after w (commands.Packet x (packets.Puback i)) (Mark.Handled c) c old ≡ handled_of w (packets.Puback i) old
after_puback w x c i None = refl
after_puback w x c i (Some kept) =
    ap (λ b. while_connected kept.connection (fill_sends w (if b then on_puback i kept.state.queue.in_flight else kept.state.queue.in_flight) kept.state.queue.waiting)) (same_self c)

after_pubcomp : (w : ℕ) (x : ConnectionName) (c : Client) (i : ℕ) (old : Option ClientSession) →
    fills_after w (commands.Packet x (packets.Pubcomp i)) (Mark.Handled c) c old ≡ handled_of w (packets.Pubcomp i) old
after_pubcomp w x c i None = refl
after_pubcomp w x c i (Some kept) =
    ap (λ b. while_connected kept.connection (fill_sends w (if b then on_pubcomp i kept.state.queue.in_flight else kept.state.queue.in_flight) kept.state.queue.waiting)) (same_self c)

after_pubrec : (w : ℕ) (i : ℕ) (old : Option ClientSession) → pubrels_after i old ≡ handled_of w (packets.Pubrec i) old
after_pubrec w i None = refl
after_pubrec w i (Some kept) = refl

nothing : (x : ConnectionName) (w : ℕ) (packet : Packet) (old : Option ClientSession) → ((kept : ClientSession) → handled_of w packet (Some kept) ≡ []) → map (Send x) (handled_of w packet old) ≡ []
nothing x w packet None h = refl
nothing x w packet (Some kept) h = ap (map (Send x)) (h kept)

handled_are : (limits : Limits) (later : ℕ) → IsWindow limits later → (past : Past) (x : ConnectionName) (c : Client) (packet : Packet) →
    handled_in (window_at limits (at (commands.Packet x packet) (Mark.Handled c) ∷ past)) x (client_session limits past c) packet
    ≡ other_answers limits (at (commands.Packet x packet) (Mark.Handled c)) past x c packet
handled_are limits later follows past x c (packets.Unsubscribe u) = refl
handled_are limits later follows past x c (packets.Pubrel id) = refl
handled_are limits later follows past x c packets.Pingreq = refl
handled_are limits later follows past x c (packets.Puback i) =
    ap (map (Send x)) (sym (after_puback (window_at limits (at (commands.Packet x (packets.Puback i)) (Mark.Handled c) ∷ past)) x c i (client_session limits past c)))
    ∙ sym (starts_are limits (at (commands.Packet x (packets.Puback i)) (Mark.Handled c)) past c x refl (not_ending x (current_connection past c)) refl)
handled_are limits later follows past x c (packets.Pubcomp i) =
    ap (map (Send x)) (sym (after_pubcomp (window_at limits (at (commands.Packet x (packets.Pubcomp i)) (Mark.Handled c) ∷ past)) x c i (client_session limits past c)))
    ∙ sym (starts_are limits (at (commands.Packet x (packets.Pubcomp i)) (Mark.Handled c)) past c x refl (not_ending x (current_connection past c)) refl)
handled_are limits later follows past x c (packets.Pubrec i) =
    ap (map (Send x)) (sym (after_pubrec (window_at limits (at (commands.Packet x (packets.Pubrec i)) (Mark.Handled c) ∷ past)) i (client_session limits past c)))
    ∙ sym (pubrec_is limits (at (commands.Packet x (packets.Pubrec i)) (Mark.Handled c)) past c x i refl (not_ending x (current_connection past c)) refl
    (ap (λ b. if b then map (at_pubrec (length past) i) (entries_of limits past c) else entries_of limits past c) (same_self c)))
handled_are limits later follows past x c packet =
    nothing x (window_at limits (at (commands.Packet x packet) (Mark.Handled c) ∷ past)) packet (client_session limits past c) (λ kept. refl)

pub packet_answers_are : (limits : Limits) (later : ℕ) → IsWindow limits later → (past : Past) (x : ConnectionName) (packet : Packet) (mark : Mark) →
    packet_answers_in (window_at limits (at (commands.Packet x packet) mark ∷ past)) (at (commands.Packet x packet) mark) (state_of limits past) x packet mark
    ≡ packet_answers limits (at (commands.Packet x packet) mark) past x packet mark
packet_answers_are limits later follows past x (packets.Publish p) (Mark.Taken c) =
    ap (λ answers. acknowledged x p.delivery ++ answers) (to_all limits later follows past x p c (named past))
packet_answers_are limits later follows past x (packets.Publish p) (Mark.Repeat c) = refl
packet_answers_are limits later follows past x (packets.Subscribe s) (Mark.Granted c which) =
    ap (λ answers. Send x (packets.Suback (record { id = s.id; codes = codes_of s.filters which })) ∷ answers)
    (ap (copies_to (window_at limits (at (commands.Packet x (packets.Subscribe s)) (Mark.Granted c which) ∷ past)) (at (commands.Packet x (packets.Subscribe s)) (Mark.Granted c which)) (retained_publications past) c) (session_is limits past c)
    ∙ sym (deliveries_are limits (at (commands.Packet x (packets.Subscribe s)) (Mark.Granted c which)) past c refl (not_ending x (current_connection past c)) refl
    (same_window limits later follows (at (commands.Packet x (packets.Subscribe s)) (Mark.Granted c which)) past refl)))
packet_answers_are limits later follows past x packet (Mark.Handled c) =
    ap (λ old. handled_in (window_at limits (at (commands.Packet x packet) (Mark.Handled c) ∷ past)) x old packet) (session_is limits past c)
    ∙ handled_are limits later follows past x c packet
packet_answers_are limits later follows past x packet mark = refl
