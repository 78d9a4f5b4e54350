-- A publication, a filter and an entry that were written are read again, whatever follows them.
use Rattle.std.proofs.Common.{◌≡◌, ℕ, ◌+◌, ◌≤◌, ◌<◌, ◌^◌, suc, Bool, true, false, if◌then◌else◌, List, [], ◌∷◌, ◌++◌, length, Ok, refl, ap, ◌∙◌, arith, append_assoc}
use Rattle.std.proofs.lemmas.Bool.{le-leb}
use Rattle.std.proofs.lemmas.List.{length-append}
use Rattle.std.proofs.lemmas.Nat.{from_be_bytes-to_be_bytes_4}
use Rattle.packet_base.specs.Spelling.{IsId, number, text, bit}
use Rattle.packet_base.proofs.FieldsAgain.{front_again, id_again, topic_again, filter_again}
use Rattle.packet_base.specs.QoS.{qos_number}
use Rattle.packet.specs.Spelling.{max_body}
use Rattle.packet_base.specs.declared.qos.QoS.{QoS}
use Rattle.packet_base.specs.declared.qos.QoS.TheVariants as qos_levels
use Rattle.session_base.specs.declared.publication.Publication.{Publication}
use Rattle.session_base.specs.declared.awaits.Awaits.{Awaits}
use Rattle.session_base.specs.declared.awaits.Awaits.TheVariants as waits_for
use Rattle.session_base.specs.Publication.{is_answered, is_qos1}
use Rattle.session_base.specs.Subscriptions.{GrantedSubscription}
use Rattle.session_base.specs.Queue.{Flight}
use Rattle.session_base.specs.InRange.{CanBeSent, MayWait, IsInFlight, IsGrantedSubscription}
use Rattle.session_base.specs.Form.{long_number, one_byte, publication_bytes, granted_subscription_bytes, awaits_bytes, flight_bytes, flag_at, long_number_at, qos_at, body_length, publication_at, granted_subscription_at, waiting_at, sent_at, awaits_at, flight_at}
use Rattle.session_base.proofs.Counted.{IsReadAgain}

pub flag_again : (b : Bool) (rest : List ℕ) → flag_at (bit b ∷ rest) ≡ Ok (b, rest)
unfolding flag_at
flag_again true rest = refl
flag_again false rest = refl

pub qos_again : (q : QoS) (rest : List ℕ) → qos_at (qos_number q ∷ rest) ≡ Ok (q, rest)
unfolding qos_at
qos_again qos_levels.AtMostOnce rest = refl
qos_again qos_levels.AtLeastOnce rest = refl
qos_again qos_levels.ExactlyOnce rest = refl

pub long_again : (n : ℕ) (rest : List ℕ) → n < 2 ^ 32 → long_number_at (long_number n ++ rest) ≡ Ok (n, rest)
unfolding long_number_at
long_again n rest small = rw (front_again (long_number n) rest 4 refl, from_be_bytes-to_be_bytes_4 n small) refl

-- ---- publications

-- a publication that can be sent has a body within the limit
pub size_of : (p : Publication) → CanBeSent p → body_length p ≤ max_body
size_of p h = by p.qos h
  where
    with_id : length ((text p.topic ++ number 1) ++ p.payload) ≤ max_body → 2 + length p.topic + 2 + length p.payload ≤ max_body
    with_id k =
        let e = length-append (p.topic ++ number 1) p.payload in let f : length (p.topic ++ number 1) ≡ length p.topic + 2 = length-append p.topic (number 1) in
        let k : suc (suc (length ((p.topic ++ number 1) ++ p.payload))) ≤ max_body = k in omega (arith, e, f, k)

    without_id : length ((text p.topic ++ []) ++ p.payload) ≤ max_body → 2 + length p.topic + 0 + length p.payload ≤ max_body
    without_id k =
        let e = length-append (p.topic ++ []) p.payload in let f : length (p.topic ++ []) ≡ length p.topic + 0 = length-append p.topic [] in
        let k : suc (suc (length ((p.topic ++ []) ++ p.payload))) ≤ max_body = k in omega (arith, e, f, k)

    by : (q : QoS) → CanBeSent (record { retain = p.retain; qos = q; topic = p.topic; payload = p.payload }) →
        2 + length p.topic + (if is_answered q then 2 else 0) + length p.payload ≤ max_body
    by qos_levels.AtMostOnce h = without_id h.2
    by qos_levels.AtLeastOnce h = with_id h.2
    by qos_levels.ExactlyOnce h = with_id h.2

regrouped : (a b c rest : List ℕ) → (a ++ (b ++ c)) ++ rest ≡ a ++ (b ++ (c ++ rest))
regrouped a b c rest = append_assoc a (b ++ c) rest ∙ ap (λ (z : List ℕ). a ++ z) (append_assoc b c rest)

pub publication_again : (p : Publication) → CanBeSent p → IsReadAgain publication_bytes publication_at p
unfolding publication_at
publication_again p h rest =
    let size = size_of p h in
    ap (λ (z : List ℕ). publication_at (bit p.retain ∷ qos_number p.qos ∷ z)) (regrouped (text p.topic) (long_number (length p.payload)) p.payload rest)
    ∙ rw (
      flag_again p.retain (qos_number p.qos ∷ (text p.topic ++ (long_number (length p.payload) ++ (p.payload ++ rest)))),
      qos_again p.qos (text p.topic ++ (long_number (length p.payload) ++ (p.payload ++ rest))),
      topic_again p.topic (long_number (length p.payload) ++ (p.payload ++ rest)) h.0.0,
      long_again (length p.payload) (p.payload ++ rest) (omega (arith, size)),
      front_again p.payload rest (length p.payload) refl,
      le-leb _ _ size,
    ) refl

pub waiting_again : (p : Publication) → MayWait p → IsReadAgain publication_bytes waiting_at p
unfolding waiting_at
waiting_again p h rest = rw (publication_again p h.1 rest, h.0) refl

-- ---- filters

pub held_again : (held : GrantedSubscription) → IsGrantedSubscription held → IsReadAgain granted_subscription_bytes granted_subscription_at held
unfolding granted_subscription_at
held_again held h rest =
    ap (λ (z : List ℕ). granted_subscription_at z) (append_assoc (text held.0) (one_byte (qos_number held.1)) rest)
    ∙ rw (filter_again held.0 (one_byte (qos_number held.1) ++ rest) h, qos_again held.1 rest) refl

-- ---- entries

waits : (p : Publication) → (q : QoS) → p.qos ≡ q → is_answered q ≡ true → CanBeSent p → MayWait p
waits p q e a h = (ap is_answered e ∙ a, h)

awaits_again : (id : ℕ) (awaits : Awaits) (rest : List ℕ) → IsInFlight (id, awaits) → awaits_at (awaits_bytes awaits ++ rest) ≡ Ok (awaits, rest)
unfolding awaits_at sent_at
awaits_again id (waits_for.Puback p) rest h =
    rw (waiting_again p (waits p qos_levels.AtLeastOnce h.1 refl h.2) rest, ap is_qos1 h.1) refl
awaits_again id (waits_for.Pubrec p) rest h =
    rw (waiting_again p (waits p qos_levels.ExactlyOnce h.1 refl h.2) rest, ap is_qos1 h.1) refl
awaits_again id waits_for.Pubcomp rest h = refl

id_of : (id : ℕ) (awaits : Awaits) → IsInFlight (id, awaits) → IsId id
id_of id (waits_for.Puback p) h = h.0
id_of id (waits_for.Pubrec p) h = h.0
id_of id waits_for.Pubcomp h = h

pub flight_again : (flight : Flight) → IsInFlight flight → IsReadAgain flight_bytes flight_at flight
unfolding flight_at
flight_again (id, awaits) h rest =
    let i = id_of id awaits h in
    ap (λ (z : List ℕ). flight_at z) (append_assoc (number id) (awaits_bytes awaits) rest)
    ∙ rw (id_again id (awaits_bytes awaits ++ rest) i.0 i.1, awaits_again id awaits rest h) refl
