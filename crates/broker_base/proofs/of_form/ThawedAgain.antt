-- ThawedAgain.antt: a broker that was thawed is frozen to the bytes from which it was thawed.
use Rattle.std.proofs.Common.{◌≡◌, ℕ, ◌<◌, ◌^◌, Bool, true, false, not, ◌||◌, ◌==◌, ◌⊎◌, inl, inr, if◌then◌else◌, List, [], ◌∷◌, ◌++◌, length, Option, Some, None, Result, Ok, Err, refl, sym, ap, ◌∙◌, subst}
use Rattle.std.specs.Prelude.{IfOk, is_some}
use Rattle.std.proofs.lemmas.Bool.{eqb-true}
use Rattle.std.proofs.lemmas.Nat.{be_bytes_8}
use Rattle.packet_base.specs.declared.stop.Stop.{Stop}
use Rattle.packet_base.specs.Spelling.{number, text, bit}
use Rattle.packet_base.specs.Readers.{AreBytes, byte_at, front_at, number_at, text_at, ended, is_text}
use Rattle.packet_base.specs.TopicFields.{topic_at}
use Rattle.topics.specs.Text.{is_topic}
use Rattle.packet_base.proofs.Steps.{then_if, seq_if, check_if}
use Rattle.packet_base.proofs.FieldsFound.{Splits, Splits-then, Splits-all, byte_found, front_found, text_found, topic_found, ended_found}
use Rattle.packet_base.specs.ClientId.{is_client}
use Rattle.retained.specs.declared.retained_publication.RetainedPublication.{RetainedPublication}
use Rattle.session_base.specs.Counted.{counted_bytes, counted_items_at}
use Rattle.session_base.specs.Form.{long_number, long_number_at, flag_at, qos_at, state_bytes}
use Rattle.session_base.specs.SessionForm.{state_at}
use Rattle.session_base.proofs.Found.{weaker}
use Rattle.session_base.proofs.Spelled.{IsSpelled, flag_byte, qos_byte, flag_spelled, qos_spelled, long_spelled, payload_spelled, number_spelled, counted_spelled, state_spelled}
use Rattle.broker_spec.specs.Connection.{ConnectionName, is_connection_name}
use Rattle.broker_spec.specs.Place.{Client}
use Rattle.broker_spec.specs.Window.{is_window_size}
use Rattle.broker_base.specs.ClientSession.{ClientSession}
use Rattle.broker_base.specs.State.{State}
use Rattle.broker_base.specs.form.Form.{wide_number_at, name_at, connection_at, client_at, row_at, is_retainable, retainable, retained_at, size_at, head_at, content_at, broker_at, found}
use Rattle.broker_base.specs.form.Follows.{row_follows, topic_follows}
use Rattle.broker_base.specs.form.Bytes.{wide_number, connection_bytes, row_bytes, retained_bytes, content_bytes, frozen, frozen_before}
use Rattle.broker_base.specs.form.FormTheorems.{ThawedIsFrozen}

-- ---- a client's session

wide_spelled : IsSpelled wide_number wide_number_at
unfolding wide_number_at
wide_spelled given fits =
    let Q : ℕ × List ℕ → Type 0 = λ x. Splits given (wide_number x.0) x.1 in
    then_if (front_at 8 given) _ (λ x. Splits given x.0 x.1 × (length x.0 ≡ 8) × AreBytes x.0) Q (front_found 8 given fits) (λ x h.
    subst (λ (front : List ℕ). Splits given front x.1) (sym (be_bytes_8 x.0 _ h.1 h.2 refl)) h.0)

-- the name of a connection, after the byte that says that there is one
name_spelled : (given rest : List ℕ) → Splits given (1 ∷ []) rest → IfOk (name_at rest) (λ x. Splits given (connection_bytes x.0) x.1)
unfolding name_at
name_spelled given rest h =
    let Q : Option ConnectionName × List ℕ → Type 0 = λ x. Splits given (connection_bytes x.0) x.1 in
    then_if (wide_number_at rest) _ (λ x. Splits rest (wide_number x.0) x.1) Q (wide_spelled rest h.left) (λ ballot a.
    then_if (wide_number_at ballot.1) _ (λ x. Splits ballot.1 (wide_number x.0) x.1) Q (wide_spelled ballot.1 a.left) (λ count b.
    check_if (is_connection_name (record { ballot = ballot.0; count = count.0 })) _ _ Q (λ test.
    Splits-then given (1 ∷ []) rest (wide_number ballot.0 ++ wide_number count.0) count.1 h
    (Splits-then rest (wide_number ballot.0) ballot.1 (wide_number count.0) count.1 a b))))

connection_spelled : IsSpelled connection_bytes connection_at
unfolding connection_at
connection_spelled given fits =
    let Q : Option ConnectionName × List ℕ → Type 0 = λ x. Splits given (connection_bytes x.0) x.1 in
    then_if (flag_at given) _ (λ x. Splits given (flag_byte x.0) x.1) Q (flag_spelled given fits) (λ flag h. by flag.0 flag.1 h)
  where
    by : (b : Bool) (rest : List ℕ) → Splits given (flag_byte b) rest → IfOk (if b then name_at rest else Ok (None, rest)) (λ x. Splits given (connection_bytes x.0) x.1)
    by true rest h = name_spelled given rest h
    by false rest h = h

client_spelled : IsSpelled text client_at
unfolding client_at
client_spelled given fits =
    let Q : Client × List ℕ → Type 0 = λ x. Splits given (text x.0) x.1 in
    then_if (text_at given) _ (λ x. Splits given (text x.0) x.1 × (length x.0 < 2 ^ 16) × (is_text x.0 ≡ true)) Q (text_found given fits) (λ client h.
    check_if (is_client client.0) _ _ Q (λ test. h.0))

row_spelled : (window : ℕ) → IsSpelled row_bytes (row_at window)
unfolding row_at
row_spelled window given fits =
    let Q : (Client × ClientSession) × List ℕ → Type 0 = λ x. Splits given (row_bytes x.0) x.1 in
    then_if (client_at given) _ (λ x. Splits given (text x.0) x.1) Q (client_spelled given fits) (λ client a.
    then_if (flag_at client.1) _ (λ x. Splits client.1 (flag_byte x.0) x.1) Q (flag_spelled client.1 a.left) (λ clean b.
    then_if (connection_at clean.1) _ (λ x. Splits clean.1 (connection_bytes x.0) x.1) Q (connection_spelled clean.1 b.left) (λ connection c.
    check_if (not clean.0 || is_some connection.0) _ _ Q (λ test.
    then_if (state_at window connection.1) _ (λ x. Splits connection.1 (state_bytes x.0) x.1) Q (state_spelled window connection.1 c.left) (λ state d.
    let served = Splits-then clean.1 (connection_bytes connection.0) connection.1 (state_bytes state.0) state.1 c d in
    let rest = Splits-then client.1 (flag_byte clean.0) clean.1 (connection_bytes connection.0 ++ state_bytes state.0) state.1 b served in
    Splits-then given (text client.0) client.1 (bit clean.0 ∷ (connection_bytes connection.0 ++ state_bytes state.0)) state.1 a rest)))))

-- ---- a retained publication

retainable_is : (row : List ℕ × RetainedPublication) → IfOk (retainable row) (λ x. x ≡ row)
retainable_is row = check_if (is_retainable row) _ _ (λ (x : List ℕ × RetainedPublication). x ≡ row) (λ test. refl)

topic_spelled : IsSpelled retained_bytes retained_at
unfolding retained_at
topic_spelled given fits =
    let Q : (List ℕ × RetainedPublication) × List ℕ → Type 0 = λ x. Splits given (retained_bytes x.0) x.1 in
    then_if (qos_at given) _ (λ x. Splits given (qos_byte x.0) x.1) Q (qos_spelled given fits) (λ qos a.
    then_if (topic_at qos.1) _ (λ x. Splits qos.1 (text x.0) x.1 × (is_topic x.0 ≡ true)) Q (topic_found qos.1 a.left) (λ topic b.
    then_if (long_number_at topic.1) _ (λ x. Splits topic.1 (long_number x.0) x.1) Q (long_spelled topic.1 b.0.left) (λ len c.
    then_if (front_at len.0 len.1) _ (λ x. Splits len.1 x.0 x.1 × (length x.0 ≡ len.0) × AreBytes x.0) Q (front_found len.0 len.1 c.left) (λ payload d.
    then_if (retainable (topic.0, record { qos = qos.0; payload = payload.0 })) _ (λ x. x ≡ (topic.0, record { qos = qos.0; payload = payload.0 })) Q (retainable_is (topic.0, record { qos = qos.0; payload = payload.0 })) (λ row is.
    let body = payload_spelled topic.1 len.0 len.1 payload.0 payload.1 c d.0 d.1 in
    let named = Splits-then qos.1 (text topic.0) topic.1 (long_number (length payload.0) ++ payload.0) payload.1 b.0 body in
    subst (λ (z : List ℕ × RetainedPublication). Splits given (retained_bytes z) payload.1) (sym is)
    (Splits-then given (qos_byte qos.0) qos.1 (text topic.0 ++ (long_number (length payload.0) ++ payload.0)) payload.1 a named))))))

-- ---- the head

-- the front of form 2 with this window, or of form 1, whose window is 16
abbrev Heads : List ℕ → ℕ → List ℕ → Type 0
Heads given window rest = Splits given (2 ∷ window ∷ []) rest ⊎ ((window ≡ 16) × Splits given (1 ∷ []) rest)

size_spelled : (given rest : List ℕ) → Splits given (2 ∷ []) rest → IfOk (size_at rest) (λ x. Heads given x.0 x.1)
unfolding size_at
size_spelled given rest h =
    let Q : ℕ × List ℕ → Type 0 = λ x. Heads given x.0 x.1 in
    then_if (byte_at rest) _ (λ x. Splits rest (x.0 ∷ []) x.1 × (x.0 < 256)) Q (byte_found rest h.left) (λ size k.
    check_if (is_window_size size.0) _ _ Q (λ test. inl (Splits-then given (2 ∷ []) rest (size.0 ∷ []) size.1 h k.0)))

by_form : (given : List ℕ) (form : ℕ) (rest : List ℕ) → (a b : Bool) → (form == 1) ≡ a → (form == 2) ≡ b → (a || b) ≡ true → Splits given (form ∷ []) rest →
    IfOk (if a then Ok (16, rest) else size_at rest) (λ x. Heads given x.0 x.1)
by_form given form rest true b e f k h = inr (refl, subst (λ (n : ℕ). Splits given (n ∷ []) rest) (eqb-true form 1 e) h)
by_form given form rest false true e f k h = size_spelled given rest (subst (λ (n : ℕ). Splits given (n ∷ []) rest) (eqb-true form 2 f) h)
by_form given form rest false false e f k h = absurd cc

head_spelled : (given : List ℕ) → AreBytes given → IfOk (head_at given) (λ x. Heads given x.0 x.1)
unfolding head_at
head_spelled given fits =
    let Q : ℕ × List ℕ → Type 0 = λ x. Heads given x.0 x.1 in
    then_if (byte_at given) _ (λ x. Splits given (x.0 ∷ []) x.1 × (x.0 < 256)) Q (byte_found given fits) (λ form h.
    check_if ((form.0 == 1) || (form.0 == 2)) _ _ Q (λ test. by_form given form.0 form.1 (form.0 == 1) (form.0 == 2) refl refl test h.0))

-- ---- the broker

-- the content, with this window
abbrev IsContent : ℕ → List ℕ → State → Type 0
IsContent window given state = (state.window ≡ window) × (given ≡ content_bytes state)

content_spelled : (window : ℕ) (given : List ℕ) → AreBytes given → IfOk (content_at window given) (IsContent window given)
content_spelled window given fits =
    then_if (counted_items_at number_at row_follows (row_at window) 4096 given) _ (λ x. Splits given (counted_bytes number row_bytes x.0) x.1) (IsContent window given)
    (counted_spelled number number_at row_follows row_bytes (row_at window) 4096 number_spelled (row_spelled window) given fits) (λ sessions a.
    then_if (counted_items_at number_at topic_follows retained_at 16384 sessions.1) _ (λ x. Splits sessions.1 (counted_bytes number retained_bytes x.0) x.1) (IsContent window given)
    (counted_spelled number number_at topic_follows retained_bytes retained_at 16384 number_spelled topic_spelled sessions.1 a.left) (λ retained b.
    seq_if (ended retained.1) _ (retained.1 ≡ []) (IsContent window given) (ended_found retained.1) (λ e.
    let both = Splits-then given (counted_bytes number row_bytes sessions.0) sessions.1 (counted_bytes number retained_bytes retained.0) retained.1 a b in
    let whole : Splits given (counted_bytes number row_bytes sessions.0 ++ counted_bytes number retained_bytes retained.0) [] =
    subst (λ (rest : List ℕ). Splits given (counted_bytes number row_bytes sessions.0 ++ counted_bytes number retained_bytes retained.0) rest) e both in
    (refl, Splits-all given (counted_bytes number row_bytes sessions.0 ++ counted_bytes number retained_bytes retained.0) whole))))

-- the bytes are those to which the broker is frozen
abbrev IsFrozen : List ℕ → State → Type 0
IsFrozen given state = (frozen state ≡ given) ⊎ ((state.window ≡ 16) × (frozen_before state ≡ given))

with_head : (given rest : List ℕ) (window : ℕ) (state : State) → Heads given window rest → IsContent window rest state → IsFrozen given state
with_head given rest window state (inl h) k =
    let e : 2 ∷ state.window ∷ content_bytes state ≡ 2 ∷ window ∷ rest = ap (λ (w : ℕ). 2 ∷ w ∷ content_bytes state) k.0 ∙ ap (λ (z : List ℕ). 2 ∷ window ∷ z) (sym k.1) in
    inl (e ∙ sym h.parts)
with_head given rest window state (inr h) k =
    let e : 1 ∷ content_bytes state ≡ 1 ∷ rest = ap (λ (z : List ℕ). 1 ∷ z) (sym k.1) in
    inr (k.0 ∙ h.0, e ∙ sym h.1.parts)

left_of : (given rest : List ℕ) (window : ℕ) → Heads given window rest → AreBytes rest
left_of given rest window (inl h) = h.left
left_of given rest window (inr h) = h.1.left

broker_spelled : (given : List ℕ) → AreBytes given → IfOk (broker_at given) (IsFrozen given)
unfolding broker_at
broker_spelled given fits =
    then_if (head_at given) _ (λ x. Heads given x.0 x.1) (IsFrozen given) (head_spelled given fits) (λ head h.
    weaker (content_at head.0 head.1) (IsContent head.0 head.1) (IsFrozen given) (content_spelled head.0 head.1 (left_of given head.1 head.0 h))
    (λ state k. with_head given head.1 head.0 state h k))

the_found : (r : Result State Stop) (state : State) (Q : State → Type 0) → IfOk r Q → found r ≡ Some state → Q state
the_found (Ok read) state Q h e = subst Q (some_is read state e) h
  where
    some_is : (x y : State) → Some x ≡ Some y → x ≡ y
    some_is x y e = cc
the_found (Err stop) state Q h e = absurd cc

pub thawed_is_frozen : ThawedIsFrozen
thawed_is_frozen bytes state fits e = the_found (broker_at bytes) state (IsFrozen bytes) (broker_spelled bytes fits) e
