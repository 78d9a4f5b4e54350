-- A number, a publication, a filter and an entry that are read are in their ranges.
use Rattle.std.proofs.Common.{◌≡◌, ℕ, ◌+◌, ◌≤◌, suc, Bool, true, false, not, ◌==◌, nat_le, nat_lt, if◌then◌else◌, List, [], ◌++◌, length, Result, Ok, Err, refl, arith}
use Rattle.std.specs.Prelude.{IfOk}
use Rattle.std.proofs.lemmas.Bool.{leb-true}
use Rattle.std.proofs.lemmas.List.{length-append}
use Rattle.topics.specs.Text.{is_topic, is_filter}
use Rattle.packet_base.specs.declared.stop.Stop.{Stop}
use Rattle.packet_base.specs.Spelling.{IsId, number, text}
use Rattle.packet_base.specs.Readers.{AreBytes, byte_at, front_at, number_at, id_at}
use Rattle.packet_base.specs.TopicFields.{topic_at, filter_at}
use Rattle.packet_base.proofs.Steps.{then_if, check_if}
use Rattle.packet_base.proofs.FieldsFound.{Splits, byte_found, front_found, number_found, id_found, topic_found, filter_found}
use Rattle.packet.specs.Spelling.{max_body}
use Rattle.packet_base.specs.QoS.{qos_of}
use Rattle.packet_base.specs.declared.qos.QoS.{QoS}
use Rattle.packet_base.specs.declared.qos.QoS.TheVariants as qos_levels
use Rattle.session_base.specs.declared.publication.Publication.{Publication}
use Rattle.session_base.specs.declared.awaits.Awaits.{Awaits}
use Rattle.session_base.specs.declared.awaits.Awaits.TheVariants as waits_for
use Rattle.session_base.specs.Publication.{is_answered, is_qos1}
use Rattle.session_base.specs.Subscriptions.{GrantedSubscription}
use Rattle.session_base.specs.Queue.{Flight}
use Rattle.session_base.specs.InRange.{CanBeSent, MayWait, IsInFlight, IsGrantedSubscription}
use Rattle.session_base.specs.Form.{flag_at, qos_at, long_number_at, body_length, sized, publication_at, granted_subscription_at, waiting_at, sent_at, awaits_at, flight_at}
use Rattle.session_base.proofs.Found.{IsFound, weaker}

-- something that is read, whatever it is
abbrev pub Anything : {A : Type 0} → A → Type 0
Anything one = Unit {0}

pub a_byte : IsFound byte_at Anything
a_byte bytes fits = weaker (byte_at bytes) _ _ (byte_found bytes fits) (λ x h. (tt, h.0.left))

pub a_number : IsFound number_at Anything
a_number bytes fits = weaker (number_at bytes) _ _ (number_found bytes fits) (λ x h. (tt, h.0.left))

pub an_id : IsFound id_at IsId
an_id bytes fits = weaker (id_at bytes) _ _ (id_found bytes fits) (λ x h. ((h.2, h.1), h.0.left))

pub a_flag : IsFound flag_at Anything
unfolding flag_at
a_flag bytes fits =
    let Q : Bool × List ℕ → Type 0 = λ x. Unit {0} × AreBytes x.1 in
    then_if (byte_at bytes) _ (λ x. Unit {0} × AreBytes x.1) Q (a_byte bytes fits) (λ x h. check_if (nat_lt x.0 2) _ _ Q (λ test. h))

pub a_qos : IsFound qos_at Anything
unfolding qos_at
a_qos bytes fits =
    let Q : QoS × List ℕ → Type 0 = λ x. Unit {0} × AreBytes x.1 in
    then_if (byte_at bytes) _ (λ x. Unit {0} × AreBytes x.1) Q (a_byte bytes fits) (λ x h.
    then_if (qos_of x.0) _ (λ q. Unit {0}) Q (any (qos_of x.0)) (λ q k. h))
  where
    any : (r : Result QoS Stop) → IfOk r (λ q. Unit {0})
    any (Ok q) = tt
    any (Err stop) = tt

pub a_front : (len : ℕ) → IsFound (front_at len) Anything
a_front len bytes fits = weaker (front_at len bytes) _ _ (front_found len bytes fits) (λ x h. (tt, h.0.left))

pub a_long_number : IsFound long_number_at Anything
unfolding long_number_at
a_long_number bytes fits =
    let Q : ℕ × List ℕ → Type 0 = λ x. Unit {0} × AreBytes x.1 in
    then_if (front_at 4 bytes) _ (λ x. Unit {0} × AreBytes x.1) Q (a_front 4 bytes fits) (λ x h. h)

-- ---- publications

-- a body within the limit is one that can be sent
pub sent_of : (p : Publication) → is_topic p.topic ≡ true → body_length p ≤ max_body → CanBeSent p
sent_of p topic h = by p.qos h
  where
    with_id : 2 + length p.topic + 2 + length p.payload ≤ max_body → length ((text p.topic ++ number 1) ++ p.payload) ≤ max_body
    with_id k =
        let e = length-append (p.topic ++ number 1) p.payload in let f : length (p.topic ++ number 1) ≡ length p.topic + 2 = length-append p.topic (number 1) in
        let goal : suc (suc (length ((p.topic ++ number 1) ++ p.payload))) ≤ max_body = omega (arith, e, f, k) in goal

    without_id : 2 + length p.topic + 0 + length p.payload ≤ max_body → length ((text p.topic ++ []) ++ p.payload) ≤ max_body
    without_id k =
        let e = length-append (p.topic ++ []) p.payload in let f : length (p.topic ++ []) ≡ length p.topic + 0 = length-append p.topic [] in
        let goal : suc (suc (length ((p.topic ++ []) ++ p.payload))) ≤ max_body = omega (arith, e, f, k) in goal

    by : (q : QoS) → 2 + length p.topic + (if is_answered q then 2 else 0) + length p.payload ≤ max_body →
        CanBeSent (record { retain = p.retain; qos = q; topic = p.topic; payload = p.payload })
    by qos_levels.AtMostOnce k = ((topic, tt), tt, without_id k)
    by qos_levels.AtLeastOnce k = ((topic, (omega arith, omega arith)), tt, with_id k)
    by qos_levels.ExactlyOnce k = ((topic, (omega arith, omega arith)), tt, with_id k)

pub sized_found : (p : Publication) → is_topic p.topic ≡ true → IfOk (sized p) CanBeSent
sized_found p topic = check_if (nat_le (body_length p) max_body) _ _ CanBeSent (λ test. sent_of p topic (leb-true _ _ test))

pub a_publication : IsFound publication_at CanBeSent
unfolding publication_at
a_publication bytes fits =
    let Q : Publication × List ℕ → Type 0 = λ x. CanBeSent x.0 × AreBytes x.1 in
    then_if (flag_at bytes) _ (λ x. Unit {0} × AreBytes x.1) Q (a_flag bytes fits) (λ retain a.
    then_if (qos_at retain.1) _ (λ x. Unit {0} × AreBytes x.1) Q (a_qos retain.1 a.1) (λ qos b.
    then_if (topic_at qos.1) _ (λ x. Splits qos.1 (text x.0) x.1 × (is_topic x.0 ≡ true)) Q (topic_found qos.1 b.1) (λ topic c.
    then_if (long_number_at topic.1) _ (λ x. Unit {0} × AreBytes x.1) Q (a_long_number topic.1 c.0.left) (λ len d.
    then_if (front_at len.0 len.1) _ (λ x. Unit {0} × AreBytes x.1) Q (a_front len.0 len.1 d.1) (λ payload e.
    then_if (sized (record { retain = retain.0; qos = qos.0; topic = topic.0; payload = payload.0 })) _ CanBeSent Q (sized_found _ c.1) (λ p f. (f, e.1)))))))

pub a_waiting_one : IsFound waiting_at MayWait
unfolding waiting_at
a_waiting_one bytes fits =
    let Q : Publication × List ℕ → Type 0 = λ x. MayWait x.0 × AreBytes x.1 in
    then_if (publication_at bytes) _ (λ x. CanBeSent x.0 × AreBytes x.1) Q (a_publication bytes fits) (λ p h.
    check_if (is_answered p.0.qos) _ _ Q (λ test. ((test, h.0), h.1)))

-- ---- filters

pub a_held_one : IsFound granted_subscription_at IsGrantedSubscription
unfolding granted_subscription_at
a_held_one bytes fits =
    let Q : GrantedSubscription × List ℕ → Type 0 = λ x. IsGrantedSubscription x.0 × AreBytes x.1 in
    then_if (filter_at bytes) _ (λ x. Splits bytes (text x.0) x.1 × (is_filter x.0 ≡ true)) Q (filter_found bytes fits) (λ filter h.
    then_if (qos_at filter.1) _ (λ x. Unit {0} × AreBytes x.1) Q (a_qos filter.1 h.0.left) (λ qos k. (h.1, k.1)))

-- ---- entries

-- what an entry waits for, whichever identifier it has
abbrev Awaiting : Awaits → Type 0
Awaiting awaits = (id : ℕ) → IsId id → IsInFlight (id, awaits)

of_qos_1 : (q : QoS) → is_qos1 q ≡ true → is_answered q ≡ true → q ≡ qos_levels.AtLeastOnce
of_qos_1 qos_levels.AtMostOnce e f = absurd (cc)
of_qos_1 qos_levels.AtLeastOnce e f = refl
of_qos_1 qos_levels.ExactlyOnce e f = absurd (cc)

of_qos_2 : (q : QoS) → not (is_qos1 q) ≡ true → is_answered q ≡ true → q ≡ qos_levels.ExactlyOnce
of_qos_2 qos_levels.AtMostOnce e f = absurd (cc)
of_qos_2 qos_levels.AtLeastOnce e f = absurd (cc)
of_qos_2 qos_levels.ExactlyOnce e f = refl

a_sent_one : (acknowledged : Bool) → IsFound (sent_at acknowledged) Awaiting
unfolding sent_at
a_sent_one true bytes fits =
    let Q : Awaits × List ℕ → Type 0 = λ x. Awaiting x.0 × AreBytes x.1 in
    then_if (waiting_at bytes) _ (λ x. MayWait x.0 × AreBytes x.1) Q (a_waiting_one bytes fits) (λ p h.
    check_if (is_qos1 p.0.qos) _ _ Q (λ test. ((λ id i. (i, of_qos_1 p.0.qos test h.0.0, h.0.1)), h.1)))
a_sent_one false bytes fits =
    let Q : Awaits × List ℕ → Type 0 = λ x. Awaiting x.0 × AreBytes x.1 in
    then_if (waiting_at bytes) _ (λ x. MayWait x.0 × AreBytes x.1) Q (a_waiting_one bytes fits) (λ p h.
    check_if (not (is_qos1 p.0.qos)) _ _ Q (λ test. ((λ id i. (i, of_qos_2 p.0.qos test h.0.0, h.0.1)), h.1)))

an_awaiting_one : IsFound awaits_at Awaiting
unfolding awaits_at
an_awaiting_one bytes fits =
    let Q : Awaits × List ℕ → Type 0 = λ x. Awaiting x.0 × AreBytes x.1 in
    then_if (byte_at bytes) _ (λ x. Unit {0} × AreBytes x.1) Q (a_byte bytes fits) (λ state h.
    check_if (nat_lt state.0 3) _ _ Q (λ test. by (state.0 == 2) state.0 state.1 h.1))
  where
    by : (b : Bool) (state : ℕ) (rest : List ℕ) → AreBytes rest →
        IfOk (if b then Ok (waits_for.Pubcomp, rest) else sent_at (state == 0) rest) (λ x. Awaiting x.0 × AreBytes x.1)
    by true state rest fits = ((λ id i. i), fits)
    by false state rest fits = a_sent_one (state == 0) rest fits

pub a_flight : IsFound flight_at IsInFlight
unfolding flight_at
a_flight bytes fits =
    let Q : Flight × List ℕ → Type 0 = λ x. IsInFlight x.0 × AreBytes x.1 in
    then_if (id_at bytes) _ (λ x. IsId x.0 × AreBytes x.1) Q (an_id bytes fits) (λ id h.
    then_if (awaits_at id.1) _ (λ x. Awaiting x.0 × AreBytes x.1) Q (an_awaiting_one id.1 h.1) (λ awaits k. (k.0 id.0 h.0, k.1)))
