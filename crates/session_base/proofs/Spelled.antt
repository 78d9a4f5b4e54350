-- Spelled.antt: what was read is written as it was in the bytes.
use Rattle.std.proofs.Common.{◌≡◌, ℕ, zero, suc, ◌-◌, ◌<◌, Bool, true, false, not, ◌==◌, nat_le, nat_lt, if◌then◌else◌, List, [], ◌∷◌, ◌++◌, length, Ok, refl, sym, ap, ◌∙◌, subst, append_assoc, append-nil, arith}
use Rattle.std.specs.Prelude.{IfOk, flat_map}
use Rattle.std.proofs.lemmas.Bool.{ltb-true}
use Rattle.std.proofs.lemmas.Nat.{be_bytes_4}
use Rattle.topics.specs.Text.{is_topic, is_filter}
use Rattle.packet_base.specs.Lists.{ItemAt}
use Rattle.packet_base.specs.Spelling.{number, text, bit}
use Rattle.packet_base.specs.Readers.{AreBytes, byte_at, front_at, number_at, id_at}
use Rattle.packet_base.specs.TopicFields.{topic_at, filter_at}
use Rattle.packet_base.proofs.Steps.{then_if, check_if}
use Rattle.packet_base.proofs.FieldsFound.{Splits, Splits-then, byte_found, front_found, number_found, id_found, topic_found, filter_found}
use Rattle.packet_base.specs.QoS.{qos_number, qos_of}
use Rattle.packet.specs.Spelling.{max_body}
use Rattle.packet_base.specs.declared.qos.QoS.{QoS}
use Rattle.packet_base.proofs.QoSReads.{qos_found}
use Rattle.session_base.specs.declared.publication.Publication.{Publication}
use Rattle.session_base.specs.declared.awaits.Awaits.{Awaits}
use Rattle.session_base.specs.declared.awaits.Awaits.TheVariants as waits_for
use Rattle.session_base.specs.Publication.{is_answered, is_qos1}
use Rattle.session_base.specs.Session.{SessionState}
use Rattle.session_base.specs.Counted.{counted_bytes, counted_items_at, items_after}
use Rattle.session_base.specs.Form.{long_number, one_byte, publication_bytes, granted_subscription_bytes, awaits_bytes, flight_bytes, state_bytes, flag_at, long_number_at, qos_at, body_length, sized, publication_at, granted_subscription_at, waiting_at, sent_at, awaits_at, flight_at, is_new_filter, is_above, may_follow, anything}
use Rattle.session_base.specs.SessionForm.{state_at}
use Rattle.session_base.specs.FormTheorems.{ReadIsFrozen}
use Rattle.session_base.proofs.Found.{weaker}

-- an item that is read is in front as it is written
abbrev pub IsSpelled : {A : Type 0} → (A → List ℕ) → ItemAt A → Type 0
IsSpelled {A} bytes item = (given : List ℕ) → AreBytes given → IfOk (item given) (λ x. Splits given (bytes x.0) x.1)

-- ---- numbers

pub byte_spelled : IsSpelled one_byte byte_at
byte_spelled given fits = weaker (byte_at given) _ _ (byte_found given fits) (λ x h. h.0)

pub number_spelled : IsSpelled number number_at
number_spelled given fits = weaker (number_at given) _ _ (number_found given fits) (λ x h. h.0)

pub id_spelled : IsSpelled number id_at
id_spelled given fits = weaker (id_at given) _ _ (id_found given fits) (λ x h. h.0)

-- a flag as its byte
abbrev pub flag_byte : Bool → List ℕ
flag_byte flag = one_byte (bit flag)

bit_of : (n : ℕ) → n < 2 → bit (n == 1) ≡ n
bit_of zero small = refl
bit_of (suc zero) small = refl
bit_of (suc (suc n)) small = absurd (omega (arith, small))

pub flag_spelled : IsSpelled flag_byte flag_at
unfolding flag_at
flag_spelled given fits =
    let Q : Bool × List ℕ → Type 0 = λ x. Splits given (flag_byte x.0) x.1 in
    then_if (byte_at given) _ (λ x. Splits given (x.0 ∷ []) x.1 × (x.0 < 256)) Q (byte_found given fits) (λ x h.
    check_if (nat_lt x.0 2) _ _ Q (λ test.
    subst (λ (n : ℕ). Splits given (n ∷ []) x.1) (sym (bit_of x.0 (ltb-true _ _ test))) h.0))

-- a QoS as its byte
abbrev pub qos_byte : QoS → List ℕ
qos_byte qos = one_byte (qos_number qos)

pub qos_spelled : IsSpelled qos_byte qos_at
unfolding qos_at
qos_spelled given fits =
    let Q : QoS × List ℕ → Type 0 = λ x. Splits given (qos_byte x.0) x.1 in
    then_if (byte_at given) _ (λ x. Splits given (x.0 ∷ []) x.1 × (x.0 < 256)) Q (byte_found given fits) (λ x h.
    then_if (qos_of x.0) _ (λ q. x.0 ≡ qos_number q) Q (qos_found x.0) (λ q is.
    subst (λ (n : ℕ). Splits given (n ∷ []) x.1) is h.0))

pub long_spelled : IsSpelled long_number long_number_at
unfolding long_number_at
long_spelled given fits =
    let Q : ℕ × List ℕ → Type 0 = λ x. Splits given (long_number x.0) x.1 in
    then_if (front_at 4 given) _ (λ x. Splits given x.0 x.1 × (length x.0 ≡ 4) × AreBytes x.0) Q (front_found 4 given fits) (λ x h.
    subst (λ (front : List ℕ). Splits given front x.1) (sym (be_bytes_4 x.0 _ h.1 h.2 refl)) h.0)

-- ---- publications and filters

sized_is : (p : Publication) → IfOk (sized p) (λ q. q ≡ p)
sized_is p = check_if (nat_le (body_length p) max_body) _ _ (λ (q : Publication). q ≡ p) (λ test. refl)

-- a payload with its length
pub payload_spelled : (given : List ℕ) (n : ℕ) (middle payload rest : List ℕ) → Splits given (long_number n) middle → Splits middle payload rest → length payload ≡ n →
    Splits given (long_number (length payload) ++ payload) rest
payload_spelled given n middle payload rest h k e =
    subst (λ (m : ℕ). Splits given (long_number m ++ payload) rest) (sym e) (Splits-then given (long_number n) middle payload rest h k)

pub publication_spelled : IsSpelled publication_bytes publication_at
unfolding publication_at
publication_spelled given fits =
    let Q : Publication × List ℕ → Type 0 = λ x. Splits given (publication_bytes x.0) x.1 in
    then_if (flag_at given) _ (λ x. Splits given (flag_byte x.0) x.1) Q (flag_spelled given fits) (λ retain a.
    then_if (qos_at retain.1) _ (λ x. Splits retain.1 (qos_byte x.0) x.1) Q (qos_spelled retain.1 a.left) (λ qos b.
    then_if (topic_at qos.1) _ (λ x. Splits qos.1 (text x.0) x.1 × (is_topic x.0 ≡ true)) Q (topic_found qos.1 b.left) (λ topic c.
    then_if (long_number_at topic.1) _ (λ x. Splits topic.1 (long_number x.0) x.1) Q (long_spelled topic.1 c.0.left) (λ len d.
    then_if (front_at len.0 len.1) _ (λ x. Splits len.1 x.0 x.1 × (length x.0 ≡ len.0) × AreBytes x.0) Q (front_found len.0 len.1 d.left) (λ payload e.
    then_if (sized (record { retain = retain.0; qos = qos.0; topic = topic.0; payload = payload.0 })) _
    (λ p. p ≡ record { retain = retain.0; qos = qos.0; topic = topic.0; payload = payload.0 }) Q (sized_is _) (λ p is.
    let body = payload_spelled topic.1 len.0 len.1 payload.0 payload.1 d e.0 e.1 in
    let named = Splits-then qos.1 (text topic.0) topic.1 (long_number (length payload.0) ++ payload.0) payload.1 c.0 body in
    let rest = Splits-then retain.1 (qos_byte qos.0) qos.1 (text topic.0 ++ (long_number (length payload.0) ++ payload.0)) payload.1 b named in
    subst (λ (z : Publication). Splits given (publication_bytes z) payload.1) (sym is)
    (Splits-then given (flag_byte retain.0) retain.1 (qos_number qos.0 ∷ (text topic.0 ++ (long_number (length payload.0) ++ payload.0))) payload.1 a rest)))))))

pub waiting_spelled : IsSpelled publication_bytes waiting_at
unfolding waiting_at
waiting_spelled given fits =
    let Q : Publication × List ℕ → Type 0 = λ x. Splits given (publication_bytes x.0) x.1 in
    then_if (publication_at given) _ (λ x. Splits given (publication_bytes x.0) x.1) Q (publication_spelled given fits) (λ p h.
    check_if (is_answered p.0.qos) _ _ Q (λ test. h))

pub held_spelled : IsSpelled granted_subscription_bytes granted_subscription_at
unfolding granted_subscription_at
held_spelled given fits =
    then_if (filter_at given) _ (λ x. Splits given (text x.0) x.1 × (is_filter x.0 ≡ true)) (λ x. Splits given (granted_subscription_bytes x.0) x.1) (filter_found given fits) (λ filter h.
    then_if (qos_at filter.1) _ (λ x. Splits filter.1 (qos_byte x.0) x.1) (λ x. Splits given (granted_subscription_bytes x.0) x.1) (qos_spelled filter.1 h.0.left) (λ qos k.
    Splits-then given (text filter.0) filter.1 (qos_byte qos.0) qos.1 h.0 k))

-- ---- entries

-- what an entry waits for, with its publication, after the byte that says so
sent_spelled : (acknowledged : Bool) (given rest : List ℕ) → Splits given (one_byte (if acknowledged then 0 else 1)) rest →
    IfOk (sent_at acknowledged rest) (λ x. Splits given (awaits_bytes x.0) x.1)
unfolding sent_at
sent_spelled true given rest h =
    let Q : Awaits × List ℕ → Type 0 = λ x. Splits given (awaits_bytes x.0) x.1 in
    then_if (waiting_at rest) _ (λ x. Splits rest (publication_bytes x.0) x.1) Q (waiting_spelled rest h.left) (λ p k.
    check_if (is_qos1 p.0.qos) _ _ Q (λ test. Splits-then given (0 ∷ []) rest (publication_bytes p.0) p.1 h k))
sent_spelled false given rest h =
    let Q : Awaits × List ℕ → Type 0 = λ x. Splits given (awaits_bytes x.0) x.1 in
    then_if (waiting_at rest) _ (λ x. Splits rest (publication_bytes x.0) x.1) Q (waiting_spelled rest h.left) (λ p k.
    check_if (not (is_qos1 p.0.qos)) _ _ Q (λ test. Splits-then given (1 ∷ []) rest (publication_bytes p.0) p.1 h k))

by_state : (given : List ℕ) (state : ℕ) (rest : List ℕ) → state < 3 → Splits given (state ∷ []) rest →
    IfOk (if state == 2 then Ok (waits_for.Pubcomp, rest) else sent_at (state == 0) rest) (λ x. Splits given (awaits_bytes x.0) x.1)
by_state given zero rest small h = sent_spelled true given rest h
by_state given (suc zero) rest small h = sent_spelled false given rest h
by_state given (suc (suc zero)) rest small h = h
by_state given (suc (suc (suc n))) rest small h = absurd (omega (arith, small))

pub awaits_spelled : IsSpelled awaits_bytes awaits_at
unfolding awaits_at
awaits_spelled given fits =
    let Q : Awaits × List ℕ → Type 0 = λ x. Splits given (awaits_bytes x.0) x.1 in
    then_if (byte_at given) _ (λ x. Splits given (x.0 ∷ []) x.1 × (x.0 < 256)) Q (byte_found given fits) (λ state h.
    check_if (nat_lt state.0 3) _ _ Q (λ test. by_state given state.0 state.1 (ltb-true _ _ test) h.0))

pub flight_spelled : IsSpelled flight_bytes flight_at
unfolding flight_at
flight_spelled given fits =
    then_if (id_at given) _ (λ x. Splits given (number x.0) x.1) (λ x. Splits given (flight_bytes x.0) x.1) (id_spelled given fits) (λ id h.
    then_if (awaits_at id.1) _ (λ x. Splits id.1 (awaits_bytes x.0) x.1) (λ x. Splits given (flight_bytes x.0) x.1) (awaits_spelled id.1 h.left) (λ awaits k.
    Splits-then given (number id.0) id.1 (awaits_bytes awaits.0) awaits.1 h k))

-- ---- lists with their count

-- the items after those in front, as they were
record AreWritten {A : Type 0} (bytes : A → List ℕ) (many : ℕ) (front all : List A) (given rest : List ℕ) : Type 0 where
  items : List A
  joined : all ≡ front ++ items
  many_are : length items ≡ many
  spelled : Splits given (flat_map bytes items) rest

items_spelled : {A : Type 0} (follows : List A → A → Bool) (bytes : A → List ℕ) (item : ItemAt A) → IsSpelled bytes item →
    (many : ℕ) (front : List A) (given : List ℕ) → AreBytes given →
    IfOk (items_after follows item many front given) (λ x. AreWritten bytes many front x.0 given x.1)
unfolding items_after
items_spelled follows bytes item each zero front given fits =
    record { items = []; joined = sym (append-nil front); many_are = refl; spelled = record { parts = refl; left = fits } }
items_spelled {A} follows bytes item each (suc more) front given fits =
    let Q : List A × List ℕ → Type 0 = λ x. AreWritten bytes (suc more) front x.0 given x.1 in
    then_if (item given) _ (λ x. Splits given (bytes x.0) x.1) Q (each given fits) (λ one h.
    check_if (follows front one.0) _ _ Q (λ test.
    weaker (items_after follows item more (front ++ one.0 ∷ []) one.1) (λ x. AreWritten bytes more (front ++ one.0 ∷ []) x.0 one.1 x.1) Q
    (items_spelled follows bytes item each more (front ++ one.0 ∷ []) one.1 h.left)
    (λ x k. record {
      items = one.0 ∷ k.items;
      joined = k.joined ∙ append_assoc front (one.0 ∷ []) k.items;
      many_are = ap suc k.many_are;
      spelled = Splits-then given (bytes one.0) one.1 (flat_map bytes k.items) x.1 h k.spelled;
    })))

pub counted_spelled : {A : Type 0} (count : ℕ → List ℕ) (count_at : ItemAt ℕ) (follows : List A → A → Bool) (bytes : A → List ℕ) (item : ItemAt A) (most : ℕ) →
    IsSpelled count count_at → IsSpelled bytes item → IsSpelled (counted_bytes count bytes) (counted_items_at count_at follows item most)
unfolding counted_items_at
counted_spelled {A} count count_at follows bytes item most counts each given fits =
    let Q : List A × List ℕ → Type 0 = λ x. Splits given (counted_bytes count bytes x.0) x.1 in
    then_if (count_at given) _ (λ x. Splits given (count x.0) x.1) Q (counts given fits) (λ many h.
    check_if (nat_le many.0 most) _ _ Q (λ test.
    weaker (items_after follows item many.0 [] many.1) (λ x. AreWritten bytes many.0 [] x.0 many.1 x.1) Q
    (items_spelled follows bytes item each many.0 [] many.1 h.left)
    (λ x k.
    let whole = Splits-then given (count many.0) many.1 (flat_map bytes k.items) x.1 h k.spelled in
    let counted_so : Splits given (counted_bytes count bytes k.items) x.1 = subst (λ (n : ℕ). Splits given (count n ++ flat_map bytes k.items) x.1) (sym k.many_are) whole in
    subst (λ (zs : List A). Splits given (counted_bytes count bytes zs) x.1) (sym k.joined) counted_so)))

-- ---- a session

pub state_spelled : (window : ℕ) → IsSpelled state_bytes (state_at window)
unfolding state_at
state_spelled window given fits =
    let Q : SessionState × List ℕ → Type 0 = λ x. Splits given (state_bytes x.0) x.1 in
    then_if (counted_items_at byte_at is_new_filter granted_subscription_at 64 given) _ (λ x. Splits given (counted_bytes one_byte granted_subscription_bytes x.0) x.1) Q
    (counted_spelled one_byte byte_at is_new_filter granted_subscription_bytes granted_subscription_at 64 byte_spelled held_spelled given fits) (λ filters a.
    then_if (counted_items_at number_at is_above id_at 65535 filters.1) _ (λ x. Splits filters.1 (counted_bytes number number x.0) x.1) Q
    (counted_spelled number number_at is_above number id_at 65535 number_spelled id_spelled filters.1 a.left) (λ ids b.
    then_if (counted_items_at number_at may_follow flight_at window ids.1) _ (λ x. Splits ids.1 (counted_bytes number flight_bytes x.0) x.1) Q
    (counted_spelled number number_at may_follow flight_bytes flight_at window number_spelled flight_spelled ids.1 b.left) (λ flights c.
    then_if (counted_items_at number_at anything waiting_at (4096 - length flights.0) flights.1) _ (λ x. Splits flights.1 (counted_bytes number publication_bytes x.0) x.1) Q
    (counted_spelled number number_at anything publication_bytes waiting_at (4096 - length flights.0) number_spelled waiting_spelled flights.1 c.left) (λ waiting d.
    let queue = Splits-then ids.1 (counted_bytes number flight_bytes flights.0) flights.1 (counted_bytes number publication_bytes waiting.0) waiting.1 c d in
    let rest = Splits-then filters.1 (counted_bytes number number ids.0) ids.1
    (counted_bytes number flight_bytes flights.0 ++ counted_bytes number publication_bytes waiting.0) waiting.1 b queue in
    Splits-then given (counted_bytes one_byte granted_subscription_bytes filters.0) filters.1
    (counted_bytes number number ids.0 ++ (counted_bytes number flight_bytes flights.0 ++ counted_bytes number publication_bytes waiting.0)) waiting.1 a rest))))

pub read_is_frozen : ReadIsFrozen
read_is_frozen window bytes fits = weaker (state_at window bytes) _ _ (state_spelled window bytes fits) (λ x h. h.parts)
