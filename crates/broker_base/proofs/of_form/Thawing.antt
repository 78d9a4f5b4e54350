-- What a broker is frozen to is thawed as that broker, and what is thawed is in its ranges.
use Rattle.std.proofs.Common.{◌≡◌, ℕ, ◌≤◌, ◌<◌, ◌^◌, Bool, true, false, not, ◌&&◌, ◌||◌, ◌==◌, nat_lt, nat_le, if◌then◌else◌, List, [], ◌∷◌, ◌++◌, length, Option, None, Ok, refl, sym, ap, ◌∙◌, subst, arith}
use Rattle.std.specs.Prelude.{IfOk, IsTrue, is_some}
use Rattle.std.specs.List.{AllByRecursion}
use Rattle.std.proofs.lemmas.Bool.{leb-true, ltb-true}
use Rattle.std.proofs.lemmas.List.{append-nil}
use Rattle.packet_base.specs.Spelling.{number, text}
use Rattle.packet_base.specs.Readers.{AreBytes, byte_at, front_at, number_at, text_at, ended, is_text}
use Rattle.packet_base.specs.TopicFields.{topic_at}
use Rattle.packet_base.proofs.Steps.{then_if, check_if, seq_if}
use Rattle.packet_base.proofs.FieldsAgain.{number_again}
use Rattle.packet_base.proofs.FieldsFound.{Splits, text_found, topic_found, ended_found}
use Rattle.topics.specs.Text.{is_topic}
use Rattle.packet_base.specs.ClientId.{is_client}
use Rattle.packet.specs.Spelling.{max_body}
use Rattle.retained.specs.declared.retained_publication.RetainedPublication.{RetainedPublication}
use Rattle.retained.specs.Retained.{RetainedTopics}
use Rattle.session_base.specs.Counted.{counted_bytes, counted_items_at}
use Rattle.session_base.specs.Form.{flag_at, qos_at, long_number_at, body_length}
use Rattle.session_base.specs.SessionForm.{state_at}
use Rattle.session_base.specs.FormTheorems.{HasForm, FitsIn}
use Rattle.session_base.proofs.Counted.{AllFollow, IsReadAgain, counted_again}
use Rattle.session_base.proofs.Found.{IsFound, AreRead, counted_found}
use Rattle.session_base.proofs.FieldsFound.{a_byte, a_number, a_flag, a_front, a_long_number, a_qos, sent_of}
use Rattle.session_base.proofs.FormFound.{read_has_form}
use Rattle.broker_spec.specs.Commands.{usual_limits}
use Rattle.broker_spec.specs.Connection.{ConnectionName, is_connection_name}
use Rattle.broker_spec.specs.Place.{Client}
use Rattle.broker_spec.specs.Window.{is_window_size, IsWindowSize}
use Rattle.broker_base.specs.ClientSession.{ClientSession}
use Rattle.broker_base.specs.State.{Sessions, State}
use Rattle.broker_base.specs.StateTheorems.{IsSoundSession, FitsWindow, AllSound, AllInWindow}
use Rattle.broker_base.specs.form.InRange.{IsNamed, IsRetained, IsSession, as_publication}
use Rattle.broker_base.specs.form.Form.{wide_number_at, name_at, connection_at, client_at, row_at, is_retainable, retainable, retained_at, size_at, head_at, content_at, broker_at, found}
use Rattle.broker_base.specs.form.Follows.{row_follows, topic_follows}
use Rattle.broker_base.specs.form.Bytes.{row_bytes, retained_bytes, content_bytes, frozen, frozen_before}
use Rattle.broker_base.specs.form.FormTheorems.{IsUsualState, FrozenIsThawed, FrozenBeforeIsThawed, ThawedIsInRange}
use Rattle.broker_base.proofs.of_form.Windows.{no_more}
use Rattle.broker_base.proofs.of_form.RowsAgain.{row_again, topic_row_again}
use Rattle.broker_base.proofs.of_form.RowsFollow.{After, rows_after, rows_rise, sessions_follow, sessions_are}

-- ---- frozen and thawed

rows_again : (window : ℕ) → window ≤ 4096 → (rows : Sessions) → AllSound rows → AllByRecursion (λ row. IsSession usual_limits row.0 row.1) rows → AllInWindow window rows →
    AllByRecursion (IsReadAgain row_bytes (row_at window)) rows
rows_again window small [] sound h fits = tt
rows_again window small (row ∷ rows) sound h fits = (row_again window small row sound.0 h.0 fits.0, rows_again window small rows sound.1 h.1 fits.1)

topics_again : (content : RetainedTopics) → AllByRecursion IsRetained content → AllByRecursion (IsReadAgain retained_bytes retained_at) content
topics_again [] h = tt
topics_again (row ∷ content) h = (topic_row_again row h.0, topics_again content h.1)

topics_follow : (front content : RetainedTopics) → After front content → AllFollow topic_follows front content
topics_follow front [] h = tt
topics_follow front (row ∷ content) h = (h.0, topics_follow (front ++ row ∷ []) content h.1)

-- after the head comes the content
content_again : (state : State) (window : ℕ) → IsUsualState state → state.window ≡ window →
    content_at window (content_bytes state) ≡ Ok state
content_again state window h e =
    let few = h.0.few_sessions in let topics = h.0.few_topics in
    let wide : state.window ≤ 64 = no_more state.window h.1 in
    let fits : AllInWindow window state.sessions = subst (λ w. AllInWindow w state.sessions) e h.2 in
    let retained : counted_items_at number_at topic_follows retained_at 16384 (counted_bytes number retained_bytes state.retained) ≡ Ok (state.retained, []) =
    ap (λ (z : List ℕ). counted_items_at number_at topic_follows retained_at 16384 z) (sym (append-nil (counted_bytes number retained_bytes state.retained)))
    ∙ counted_again number number_at topic_follows retained_bytes retained_at 16384 state.retained []
    (λ n small rest. number_again n rest (omega (arith, small))) topics (topics_again state.retained h.0.retained)
    (topics_follow [] state.retained (rows_after state.retained h.0.rising)) in
    rw (
      counted_again number number_at row_follows row_bytes (row_at window) 4096 state.sessions (counted_bytes number retained_bytes state.retained)
          (λ n small rest. number_again n rest (omega (arith, small))) few (rows_again window (omega (arith, wide, e)) state.sessions h.0.sound.sessions h.0.sessions fits)
          (sessions_follow state.sessions h.0.sound.by_client h.0.sound.apart),
      retained,
    ) (ap (λ n. Ok (record { window = n; sessions = state.sessions; retained = state.retained })) (sym e))

broker_again : (state : State) → IsUsualState state → broker_at (frozen state) ≡ Ok state
unfolding broker_at head_at size_at
broker_again state h = rw h.1 (content_again state state.window h refl)

before_again : (state : State) → IsUsualState state → state.window ≡ 16 → broker_at (frozen_before state) ≡ Ok state
unfolding broker_at head_at
before_again state h e = content_again state 16 h e

pub frozen_is_thawed : FrozenIsThawed
frozen_is_thawed state h = ap found (broker_again state h)

pub frozen_before_is_thawed : FrozenBeforeIsThawed
frozen_before_is_thawed state h e = ap found (before_again state h e)

-- ---- what is thawed is in its ranges

a_wide_number : IsFound wide_number_at (λ n. Unit {0})
unfolding wide_number_at
a_wide_number bytes fits =
    then_if (front_at 8 bytes) _ (λ x. Unit {0} × AreBytes x.1) (λ x. Unit {0} × AreBytes x.1) (a_front 8 bytes fits) (λ x h. h)

a_name : IsFound name_at IsNamed
unfolding name_at
a_name bytes fits =
    let Q : Option ConnectionName × List ℕ → Type 0 = λ x. IsNamed x.0 × AreBytes x.1 in
    then_if (wide_number_at bytes) _ (λ x. Unit {0} × AreBytes x.1) Q (a_wide_number bytes fits) (λ ballot a.
    then_if (wide_number_at ballot.1) _ (λ x. Unit {0} × AreBytes x.1) Q (a_wide_number ballot.1 a.1) (λ count b.
    check_if (is_connection_name (record { ballot = ballot.0; count = count.0 })) _ _ Q (λ test. (test, b.1))))

a_connection : IsFound connection_at IsNamed
unfolding connection_at
a_connection bytes fits =
    let Q : Option ConnectionName × List ℕ → Type 0 = λ x. IsNamed x.0 × AreBytes x.1 in
    then_if (flag_at bytes) _ (λ x. Unit {0} × AreBytes x.1) Q (a_flag bytes fits) (λ flag h. by flag.0 flag.1 h.1)
  where
    by : (b : Bool) (rest : List ℕ) → AreBytes rest → IfOk (if b then name_at rest else Ok (None, rest)) (λ x. IsNamed x.0 × AreBytes x.1)
    by true rest fits = a_name rest fits
    by false rest fits = (tt, fits)

a_client : IsFound client_at (λ c. IsTrue (is_client c))
unfolding client_at
a_client bytes fits =
    let Q : Client × List ℕ → Type 0 = λ x. IsTrue (is_client x.0) × AreBytes x.1 in
    then_if (text_at bytes) _ (λ x. Splits bytes (text x.0) x.1 × (length x.0 < 2 ^ 16) × (is_text x.0 ≡ true)) Q (text_found bytes fits) (λ client h.
    check_if (is_client client.0) _ _ Q (λ test. (test, h.0.left)))

-- a client's session that was read
record IsRow (window : ℕ) (row : Client × ClientSession) : Type 0 where
  sound : IsSoundSession row.1
  ranges : IsSession usual_limits row.0 row.1
  fits : FitsWindow window row.1

served : (clean some : Bool) → (not clean || some) ≡ true → clean ≡ true → some ≡ true
served true some e f = e
served false some e f = absurd (cc)

a_row : (window : ℕ) → window ≤ 4096 → IsFound (row_at window) (IsRow window)
unfolding row_at
a_row window small bytes fits =
    let Q : (Client × ClientSession) × List ℕ → Type 0 = λ x. IsRow window x.0 × AreBytes x.1 in
    then_if (client_at bytes) _ (λ x. IsTrue (is_client x.0) × AreBytes x.1) Q (a_client bytes fits) (λ client a.
    then_if (flag_at client.1) _ (λ x. Unit {0} × AreBytes x.1) Q (a_flag client.1 a.1) (λ clean b.
    then_if (connection_at clean.1) _ (λ x. IsNamed x.0 × AreBytes x.1) Q (a_connection clean.1 b.1) (λ connection c.
    check_if (not clean.0 || is_some connection.0) _ _ Q (λ test.
    then_if (state_at window connection.1) _ (λ x. HasForm x.0 × FitsIn window x.0 × AreBytes x.1) Q (read_has_form window small connection.1 c.1) (λ state d. (
      record {
        sound = record {
          filters = d.0.filters_apart;
          received = d.0.rising;
          identifiers = d.0.distinct;
          released_first = d.0.released_first;
          served = served clean.0 (is_some connection.0) test;
        };
        ranges = record {
          client = a.0;
          connection = c.0;
          filters = d.0.filters;
          few_filters = d.0.few_filters;
          received = d.0.received;
          queue = d.0.queue;
        };
        fits = d.1;
      },
      d.2,
    ))))))

both : (a b : Bool) → (a && b) ≡ true → (a ≡ true) × (b ≡ true)
both true b e = (refl, e)
both false b e = absurd (cc)

retainable_found : (row : List ℕ × RetainedPublication) → is_topic row.0 ≡ true → IfOk (retainable row) IsRetained
retainable_found row topic =
    check_if (is_retainable row) _ _ IsRetained (λ test.
    let parts = both (nat_lt 0 (length row.1.payload)) (nat_le (body_length (as_publication row)) max_body) test in
    let some : 0 < length row.1.payload = ltb-true _ _ parts.0 in
    (omega (arith, some), sent_of (as_publication row) topic (leb-true _ _ parts.1)))

a_topic_row : IsFound retained_at IsRetained
unfolding retained_at
a_topic_row bytes fits =
    let Q : (List ℕ × RetainedPublication) × List ℕ → Type 0 = λ x. IsRetained x.0 × AreBytes x.1 in
    then_if (qos_at bytes) _ (λ x. Unit {0} × AreBytes x.1) Q (a_qos bytes fits) (λ qos a.
    then_if (topic_at qos.1) _ (λ x. Splits qos.1 (text x.0) x.1 × (is_topic x.0 ≡ true)) Q (topic_found qos.1 a.1) (λ topic b.
    then_if (long_number_at topic.1) _ (λ x. Unit {0} × AreBytes x.1) Q (a_long_number topic.1 b.0.left) (λ len c.
    then_if (front_at len.0 len.1) _ (λ x. Unit {0} × AreBytes x.1) Q (a_front len.0 len.1 c.1) (λ payload d.
    then_if (retainable (topic.0, record { qos = qos.0; payload = payload.0 })) _ IsRetained Q (retainable_found _ b.1) (λ row e. (e, d.1))))))

all_sound : (window : ℕ) (rows : Sessions) → AllByRecursion (IsRow window) rows → AllSound rows
all_sound window [] h = tt
all_sound window (row ∷ rows) h = (h.0.sound, all_sound window rows h.1)

all_in_range : (window : ℕ) (rows : Sessions) → AllByRecursion (IsRow window) rows → AllByRecursion (λ row. IsSession usual_limits row.0 row.1) rows
all_in_range window [] h = tt
all_in_range window (row ∷ rows) h = (h.0.ranges, all_in_range window rows h.1)

all_fit : (window : ℕ) (rows : Sessions) → AllByRecursion (IsRow window) rows → AllInWindow window rows
all_fit window [] h = tt
all_fit window (row ∷ rows) h = (h.0.fits, all_fit window rows h.1)

topics_after : (front content : RetainedTopics) → AllFollow topic_follows front content → After front content
topics_after front [] h = tt
topics_after front (row ∷ content) h = (h.0, topics_after (front ++ row ∷ []) content h.1)

-- ---- the head

a_size : IsFound size_at IsWindowSize
unfolding size_at
a_size bytes fits =
    let Q : ℕ × List ℕ → Type 0 = λ x. IsWindowSize x.0 × AreBytes x.1 in
    then_if (byte_at bytes) _ (λ x. Unit {0} × AreBytes x.1) Q (a_byte bytes fits) (λ size a.
    check_if (is_window_size size.0) _ _ Q (λ test. (test, a.1)))

a_head : IsFound head_at IsWindowSize
unfolding head_at
a_head bytes fits =
    let Q : ℕ × List ℕ → Type 0 = λ x. IsWindowSize x.0 × AreBytes x.1 in
    then_if (byte_at bytes) _ (λ x. Unit {0} × AreBytes x.1) Q (a_byte bytes fits) (λ form a.
    check_if ((form.0 == 1) || (form.0 == 2)) _ _ Q (λ test. by (form.0 == 1) form.1 a.1))
  where
    by : (b : Bool) (rest : List ℕ) → AreBytes rest → IfOk (if b then Ok (16, rest) else size_at rest) (λ x. IsWindowSize x.0 × AreBytes x.1)
    by true rest fits = (refl, fits)
    by false rest fits = a_size rest fits

-- ---- the broker

content_found : (window : ℕ) → IsWindowSize window → (bytes : List ℕ) → AreBytes bytes → IfOk (content_at window bytes) IsUsualState
content_found window size bytes fits =
    let wide = no_more window size in
    then_if (counted_items_at number_at row_follows (row_at window) 4096 bytes) _ (λ x. AreRead row_follows (IsRow window) 4096 x.0 × AreBytes x.1) IsUsualState
    (counted_found number_at row_follows (row_at window) (IsRow window) 4096 a_number (a_row window (omega (arith, wide))) bytes fits) (λ sessions b.
    then_if (counted_items_at number_at topic_follows retained_at 16384 sessions.1) _ (λ x. AreRead topic_follows IsRetained 16384 x.0 × AreBytes x.1) IsUsualState
    (counted_found number_at topic_follows retained_at IsRetained 16384 a_number a_topic_row sessions.1 b.1) (λ retained c.
    seq_if (ended retained.1) _ (retained.1 ≡ []) IsUsualState (ended_found retained.1) (λ e.
    let rows = sessions_are sessions.0 b.0.follow in (
      record {
        sound = record { by_client = rows.0; apart = rows.1; sessions = all_sound window sessions.0 b.0.each };
        few_sessions = b.0.few;
        sessions = all_in_range window sessions.0 b.0.each;
        rising = rows_rise retained.0 (topics_after [] retained.0 c.0.follow);
        few_topics = c.0.few;
        retained = c.0.each;
      },
      size,
      all_fit window sessions.0 b.0.each,
    ))))

pub thawed_is_in_range : ThawedIsInRange
unfolding broker_at
thawed_is_in_range bytes fits =
    then_if (head_at bytes) _ (λ x. IsWindowSize x.0 × AreBytes x.1) IsUsualState (a_head bytes fits) (λ head a.
    content_found head.0 a.0 head.1 a.1)
