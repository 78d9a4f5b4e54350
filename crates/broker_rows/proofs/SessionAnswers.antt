-- SessionAnswers.antt: steps about a session: what each gives, and by its word.
use Rattle.std.proofs.Common.{◌≡◌, ◌≢◌, ℕ, Bool, true, List, [], ◌∷◌, map, length, Option, Some, None, Result, Ok, Err, codes, bytes_eq, refl, sym, ap, subst, ◌∙◌}
use Rattle.rows.specs.Fields.{Text, number_of}
use Rattle.rows.specs.Playing.{Answers}
use Rattle.rows.specs.Answers.{counted, yes_or_no}
use Rattle.rows.specs.Answers.{word as word_answer}
use Rattle.lists.specs.Lists.{has_id}
use Rattle.packet_base.specs.declared.qos.QoS.{QoS}
use Rattle.packet.specs.declared.packet.Packet.{Packet}
use Rattle.session_base.specs.declared.publication.Publication.{Publication}
use Rattle.session_base.specs.Identifiers.{with_id, without_id}
use Rattle.session_base.specs.Subscriptions.{is_subscribed, with_subscription, without_filter, granted_qos}
use Rattle.session_base.specs.Queue.{enqueue, filled, on_puback, on_pubrec, on_pubcomp, room}
use Rattle.session_base.specs.EntryPackets.{fill_sends, pubrec_sends, resend}
use Rattle.session_base.specs.SessionForm.{state_at}
use Rattle.session_base.specs.Session.{SessionState, max_entries, with_flights, with_granted, with_queue, with_received}
use Rattle.session.specs.declared.session.TheConstants.{WINDOW}
use Rattle.session.specs.declared.arrival.Arrival.{Arrival}
use Rattle.session.specs.declared.arrival.Arrival.TheVariants as arrivals
use Rattle.broker_rows.specs.Values.{qos_text, packet_fields}
use Rattle.broker_rows.specs.SessionValues.{granted_fields, publication_of, thawed}
use Rattle.broker_rows.specs.SessionSteps.{SessionStep}
use Rattle.broker_rows.proofs.Words.{same_one, same_two, with_word}

of_word : (old new : SessionState) (word other : Text) (fields : List Text) (answers : Answers)
    → bytes_eq word other ≡ true → SessionStep old (other ∷ fields) answers new
    → SessionStep old (word ∷ fields) answers new
of_word old new word other fields answers is step =
    subst (λ (s : List Text). SessionStep old s answers new) (sym (with_word word other fields is)) step

-- the packets that are sent
sent : (out slice sends : List Packet) (answers : Answers) → out ≡ sends → slice ≡ out → answers ≡ map packet_fields slice
    → answers ≡ map packet_fields sends
sent out slice sends answers is_out same is = is ∙ ap (map packet_fields) (same ∙ is_out)

-- the only answer
alone : (answer wanted : List Text) (answers : Answers) → answer ≡ wanted → answers ≡ answer ∷ [] → answers ≡ wanted ∷ []
alone answer wanted answers is only = only ∙ ap (λ (a : List Text). a ∷ []) is

pub send_gives : (old new : SessionState) (out slice : List Packet) (answers : Answers)
    → out ≡ fill_sends WINDOW old.queue.in_flight old.queue.waiting → slice ≡ out → answers ≡ map packet_fields slice
    → new ≡ with_queue (filled WINDOW old.queue) old → SessionStep old (codes "send" ∷ []) answers new
send_gives old new out slice answers is_out same is gives =
    SessionStep.send refl (sent out slice _ answers is_out same is) gives

pub send_within_gives : (old new : SessionState) (digits : Text) (window : ℕ) (out slice : List Packet) (answers : Answers)
    → number_of digits ≡ Some window → out ≡ fill_sends window old.queue.in_flight old.queue.waiting → slice ≡ out
    → answers ≡ map packet_fields slice → new ≡ with_queue (filled window old.queue) old
    → SessionStep old (codes "send" ∷ digits ∷ []) answers new
send_within_gives old new digits window out slice answers read is_out same is gives =
    SessionStep.send_within digits window refl read (sent out slice _ answers is_out same is) gives

pub resend_gives : (old new : SessionState) (out slice : List Packet) (answers : Answers) → out ≡ resend old.queue.in_flight
    → slice ≡ out → answers ≡ map packet_fields slice → new ≡ old → SessionStep old (codes "resend" ∷ []) answers new
resend_gives old new out slice answers is_out same is stays =
    SessionStep.resend_all refl (sent out slice _ answers is_out same is) stays

pub room_gives : (old new : SessionState) (answer : List Text) (answers : Answers)
    → answer ≡ counted (codes "room") (room max_entries old.queue) → answers ≡ answer ∷ [] → new ≡ old
    → SessionStep old (codes "room" ∷ []) answers new
room_gives old new answer answers is only same = SessionStep.room_left refl (alone answer _ answers is only) same

pub subscriptions_gives : (old new : SessionState) (answer : List Text) (answers : Answers)
    → answer ≡ counted (codes "subscriptions") (length old.subscriptions) → answers ≡ answer ∷ [] → new ≡ old
    → SessionStep old (codes "subscriptions" ∷ []) answers new
subscriptions_gives old new answer answers is only same =
    SessionStep.subscriptions refl (alone answer _ answers is only) same

pub puback_gives : (old new : SessionState) (digits : Text) (id : ℕ) (answers : Answers) → number_of digits ≡ Some id
    → answers ≡ [] → new ≡ with_queue (with_flights (on_puback id old.queue.in_flight) old.queue) old
    → SessionStep old (codes "puback" ∷ digits ∷ []) answers new
puback_gives old new digits id answers read none gives = SessionStep.puback digits id refl read none gives

pub pubcomp_gives : (old new : SessionState) (digits : Text) (id : ℕ) (answers : Answers) → number_of digits ≡ Some id
    → answers ≡ [] → new ≡ with_queue (with_flights (on_pubcomp id old.queue.in_flight) old.queue) old
    → SessionStep old (codes "pubcomp" ∷ digits ∷ []) answers new
pubcomp_gives old new digits id answers read none gives = SessionStep.pubcomp digits id refl read none gives

pub pubrec_gives : (old new : SessionState) (digits : Text) (id : ℕ) (out slice : List Packet) (answers : Answers)
    → number_of digits ≡ Some id → out ≡ pubrec_sends id (on_pubrec id old.queue.in_flight) → slice ≡ out
    → answers ≡ map packet_fields slice
    → new ≡ with_queue (with_flights (on_pubrec id old.queue.in_flight) old.queue) old
    → SessionStep old (codes "pubrec" ∷ digits ∷ []) answers new
pubrec_gives old new digits id out slice answers read is_out same is gives =
    SessionStep.pubrec digits id refl read (sent out slice _ answers is_out same is) gives

pub first_gives : (old new : SessionState) (digits : Text) (id : ℕ) (answer : List Text) (answers : Answers)
    → number_of digits ≡ Some id → answer ≡ word_answer (codes "new") → answers ≡ answer ∷ []
    → new ≡ with_received (with_id id old.received) old → SessionStep old (codes "publish" ∷ digits ∷ []) answers new
first_gives old new digits id answer answers read is only gives =
    SessionStep.first digits id refl read (alone answer _ answers is only) gives

-- a repeat, and nothing else
abbrev is_repeat : {E : Type 0} → Result Arrival E → Type 0
is_repeat (Ok arrivals.Again) = Unit {0}
is_repeat (Ok arrivals.First) = ⊥
is_repeat (Err error) = ⊥

pub not_first : {E : Type 0} (result : Result Arrival E) → result ≡ Ok arrivals.Again → result ≢ Ok arrivals.First
not_first result again first = subst is_repeat (sym again ∙ first) tt

pub again_gives : (old new : SessionState) (digits : Text) (id : ℕ) (answer : List Text) (answers : Answers)
    → number_of digits ≡ Some id → has_id id old.received ≡ true → answer ≡ word_answer (codes "repeat")
    → answers ≡ answer ∷ [] → new ≡ old → SessionStep old (codes "publish" ∷ digits ∷ []) answers new
again_gives old new digits id answer answers read had is only same =
    SessionStep.again digits id refl read had (alone answer _ answers is only) same

pub pubrel_gives : (old new : SessionState) (digits : Text) (id : ℕ) (answers : Answers) → number_of digits ≡ Some id
    → answers ≡ [] → new ≡ with_received (without_id id old.received) old
    → SessionStep old (codes "pubrel" ∷ digits ∷ []) answers new
pubrel_gives old new digits id answers read none gives = SessionStep.pubrel digits id refl read none gives

pub received_gives : (old new : SessionState) (digits : Text) (id : ℕ) (was : Bool) (answer : List Text) (answers : Answers)
    → number_of digits ≡ Some id → was ≡ has_id id old.received → answer ≡ yes_or_no was → answers ≡ answer ∷ [] → new ≡ old
    → SessionStep old (codes "received" ∷ digits ∷ []) answers new
received_gives old new digits id was answer answers read had is only same =
    SessionStep.received digits id refl read (alone answer _ answers (is ∙ ap yes_or_no had) only) same

pub subscribe_gives : (old new : SessionState) (one two filter : Text) (qos : QoS) (answers : Answers) → filter ≡ one
    → two ≡ qos_text qos → answers ≡ [] → new ≡ with_granted (with_subscription (filter, qos) old.subscriptions) old
    → SessionStep old (codes "subscribe" ∷ one ∷ two ∷ []) answers new
subscribe_gives old new one two filter qos answers is_one is_two none gives =
    SessionStep.subscribe filter qos (same_two (codes "subscribe") one two is_one (sym is_two)) none gives

pub unsubscribe_gives : (old new : SessionState) (one filter : Text) (answers : Answers) → filter ≡ one → answers ≡ []
    → new ≡ with_granted (without_filter filter old.subscriptions) old
    → SessionStep old (codes "unsubscribe" ∷ one ∷ []) answers new
unsubscribe_gives old new one filter answers is_one none gives =
    SessionStep.unsubscribe filter (same_one (codes "unsubscribe") one is_one) none gives

pub subscribed_gives : (old new : SessionState) (one filter : Text) (was : Bool) (answer : List Text) (answers : Answers)
    → filter ≡ one → was ≡ is_subscribed filter old.subscriptions → answer ≡ yes_or_no was → answers ≡ answer ∷ []
    → new ≡ old → SessionStep old (codes "subscribed" ∷ one ∷ []) answers new
subscribed_gives old new one filter was answer answers is_one had is only same =
    SessionStep.subscribed filter (same_one (codes "subscribed") one is_one)
    (alone answer _ answers (is ∙ ap yes_or_no had) only) same

pub granted_gives : (old new : SessionState) (one topic : Text) (granted : Option QoS) (answer : List Text) (answers : Answers)
    → topic ≡ one → granted ≡ granted_qos topic old.subscriptions → answer ≡ granted_fields granted → answers ≡ answer ∷ []
    → new ≡ old → SessionStep old (codes "granted" ∷ one ∷ []) answers new
granted_gives old new one topic granted answer answers is_one had is only same =
    SessionStep.granted topic (same_one (codes "granted") one is_one)
    (alone answer _ answers (is ∙ ap granted_fields had) only) same

pub queue_gives : (old new : SessionState) (one two three : Text) (qos : QoS) (publication : Publication) (answers : Answers)
    → publication ≡ publication_of one qos three → two ≡ qos_text qos → answers ≡ []
    → new ≡ with_queue (enqueue publication old.queue) old → SessionStep old (codes "queue" ∷ one ∷ two ∷ three ∷ []) answers new
queue_gives old new one two three qos publication answers is is_two none gives =
    SessionStep.queue one three qos (ap (λ (t : Text). codes "queue" ∷ one ∷ t ∷ three ∷ []) is_two) none
    (gives ∙ ap (λ (p : Publication). with_queue (enqueue p old.queue) old) is)

pub thaw_gives : (old new : SessionState) (bytes before : List ℕ) (left : ℕ) (answer : List Text) (answers : Answers)
    → before ≡ bytes → Some (new, left) ≡ thawed (state_at WINDOW before) → answer ≡ counted (codes "left") left
    → answers ≡ answer ∷ [] → SessionStep old (codes "thaw" ∷ bytes ∷ []) answers new
thaw_gives old new bytes before left answer answers same read is only =
    SessionStep.thaw bytes left refl (subst (λ (b : List ℕ). thawed (state_at WINDOW b) ≡ Some (new, left)) same (sym read))
    (alone answer _ answers is only)

pub no_thaw_gives : (old new : SessionState) (bytes before : List ℕ) (answer : List Text) (answers : Answers)
    → before ≡ bytes → None ≡ thawed (state_at WINDOW before) → answer ≡ word_answer (codes "refused")
    → answers ≡ answer ∷ [] → new ≡ old → SessionStep old (codes "thaw" ∷ bytes ∷ []) answers new
no_thaw_gives old new bytes before answer answers same read is only stays =
    SessionStep.no_thaw bytes refl (subst (λ (b : List ℕ). thawed (state_at WINDOW b) ≡ None) same (sym read))
    (alone answer _ answers is only) stays

-- by its word
pub send_step : (old new : SessionState) (word : Text) (answers : Answers) → bytes_eq word (codes "send") ≡ true
    → SessionStep old (codes "send" ∷ []) answers new → SessionStep old (word ∷ []) answers new
send_step old new word answers is step = of_word old new word (codes "send") ([]) answers is step

pub resend_step : (old new : SessionState) (word : Text) (answers : Answers) → bytes_eq word (codes "resend") ≡ true
    → SessionStep old (codes "resend" ∷ []) answers new → SessionStep old (word ∷ []) answers new
resend_step old new word answers is step = of_word old new word (codes "resend") ([]) answers is step

pub room_step : (old new : SessionState) (word : Text) (answers : Answers) → bytes_eq word (codes "room") ≡ true
    → SessionStep old (codes "room" ∷ []) answers new → SessionStep old (word ∷ []) answers new
room_step old new word answers is step = of_word old new word (codes "room") ([]) answers is step

pub subscriptions_step : (old new : SessionState) (word : Text) (answers : Answers) → bytes_eq word (codes "subscriptions") ≡ true
    → SessionStep old (codes "subscriptions" ∷ []) answers new → SessionStep old (word ∷ []) answers new
subscriptions_step old new word answers is step = of_word old new word (codes "subscriptions") ([]) answers is step

pub send_within_step : (old new : SessionState) (word window : Text) (answers : Answers) → bytes_eq word (codes "send") ≡ true
    → SessionStep old (codes "send" ∷ window ∷ []) answers new → SessionStep old (word ∷ window ∷ []) answers new
send_within_step old new word window answers is step = of_word old new word (codes "send") (window ∷ []) answers is step

pub unsubscribe_step : (old new : SessionState) (word filter : Text) (answers : Answers) → bytes_eq word (codes "unsubscribe") ≡ true
    → SessionStep old (codes "unsubscribe" ∷ filter ∷ []) answers new → SessionStep old (word ∷ filter ∷ []) answers new
unsubscribe_step old new word filter answers is step = of_word old new word (codes "unsubscribe") (filter ∷ []) answers is step

pub subscribed_step : (old new : SessionState) (word filter : Text) (answers : Answers) → bytes_eq word (codes "subscribed") ≡ true
    → SessionStep old (codes "subscribed" ∷ filter ∷ []) answers new → SessionStep old (word ∷ filter ∷ []) answers new
subscribed_step old new word filter answers is step = of_word old new word (codes "subscribed") (filter ∷ []) answers is step

pub granted_step : (old new : SessionState) (word topic : Text) (answers : Answers) → bytes_eq word (codes "granted") ≡ true
    → SessionStep old (codes "granted" ∷ topic ∷ []) answers new → SessionStep old (word ∷ topic ∷ []) answers new
granted_step old new word topic answers is step = of_word old new word (codes "granted") (topic ∷ []) answers is step

pub thaw_step : (old new : SessionState) (word bytes : Text) (answers : Answers) → bytes_eq word (codes "thaw") ≡ true
    → SessionStep old (codes "thaw" ∷ bytes ∷ []) answers new → SessionStep old (word ∷ bytes ∷ []) answers new
thaw_step old new word bytes answers is step = of_word old new word (codes "thaw") (bytes ∷ []) answers is step

pub puback_step : (old new : SessionState) (word id : Text) (answers : Answers) → bytes_eq word (codes "puback") ≡ true
    → SessionStep old (codes "puback" ∷ id ∷ []) answers new → SessionStep old (word ∷ id ∷ []) answers new
puback_step old new word id answers is step = of_word old new word (codes "puback") (id ∷ []) answers is step

pub pubrec_step : (old new : SessionState) (word id : Text) (answers : Answers) → bytes_eq word (codes "pubrec") ≡ true
    → SessionStep old (codes "pubrec" ∷ id ∷ []) answers new → SessionStep old (word ∷ id ∷ []) answers new
pubrec_step old new word id answers is step = of_word old new word (codes "pubrec") (id ∷ []) answers is step

pub pubcomp_step : (old new : SessionState) (word id : Text) (answers : Answers) → bytes_eq word (codes "pubcomp") ≡ true
    → SessionStep old (codes "pubcomp" ∷ id ∷ []) answers new → SessionStep old (word ∷ id ∷ []) answers new
pubcomp_step old new word id answers is step = of_word old new word (codes "pubcomp") (id ∷ []) answers is step

pub publish_step : (old new : SessionState) (word id : Text) (answers : Answers) → bytes_eq word (codes "publish") ≡ true
    → SessionStep old (codes "publish" ∷ id ∷ []) answers new → SessionStep old (word ∷ id ∷ []) answers new
publish_step old new word id answers is step = of_word old new word (codes "publish") (id ∷ []) answers is step

pub pubrel_step : (old new : SessionState) (word id : Text) (answers : Answers) → bytes_eq word (codes "pubrel") ≡ true
    → SessionStep old (codes "pubrel" ∷ id ∷ []) answers new → SessionStep old (word ∷ id ∷ []) answers new
pubrel_step old new word id answers is step = of_word old new word (codes "pubrel") (id ∷ []) answers is step

pub received_step : (old new : SessionState) (word id : Text) (answers : Answers) → bytes_eq word (codes "received") ≡ true
    → SessionStep old (codes "received" ∷ id ∷ []) answers new → SessionStep old (word ∷ id ∷ []) answers new
received_step old new word id answers is step = of_word old new word (codes "received") (id ∷ []) answers is step

pub subscribe_step : (old new : SessionState) (word filter qos : Text) (answers : Answers) → bytes_eq word (codes "subscribe") ≡ true
    → SessionStep old (codes "subscribe" ∷ filter ∷ qos ∷ []) answers new → SessionStep old (word ∷ filter ∷ qos ∷ []) answers new
subscribe_step old new word filter qos answers is step = of_word old new word (codes "subscribe") (filter ∷ qos ∷ []) answers is step

pub queue_step : (old new : SessionState) (word topic qos payload : Text) (answers : Answers) → bytes_eq word (codes "queue") ≡ true
    → SessionStep old (codes "queue" ∷ topic ∷ qos ∷ payload ∷ []) answers new → SessionStep old (word ∷ topic ∷ qos ∷ payload ∷ []) answers new
queue_step old new word topic qos payload answers is step = of_word old new word (codes "queue") (topic ∷ qos ∷ payload ∷ []) answers is step
