-- A step leaves no more sessions and retained topics than the limits allow.
use Rattle.std.proofs.Common.{◌≡◌, ℕ, ◌≤◌, suc, Bool, true, false, not, ◌&&◌, ◌||◌, nat_lt, nat_le, if◌then◌else◌, Option, Some, None, List, [], ◌∷◌, length, refl, sym, ap, subst, arith}
use Rattle.std.specs.Prelude.{is_some, is_none}
use Rattle.std.specs.List.{AllByRecursion, list_any}
use Rattle.packet.specs.declared.packet.Packet.TheVariants as packets
use Rattle.packet.specs.declared.publish.Publish.{Publish}
use Rattle.retained.specs.declared.retained_publication.RetainedPublication.{RetainedPublication}
use Rattle.retained.specs.Retained.{RetainedTopics, IsRising, is_empty, publication_on, after_put}
use Rattle.session_base.specs.declared.publication.Publication.{Publication}
use Rattle.session_base.specs.Publication.{publication_of}
use Rattle.broker_spec.specs.Connection.{ConnectionName}
use Rattle.broker_spec.specs.Place.{Client, same_client, Mark, Place, Limits, only_if}
use Rattle.broker_spec.specs.Sessions.{ends_any}
use Rattle.broker_spec.specs.Retained.{retains, retained_by}
use Rattle.broker_spec.proofs.ClientsInOrder.{equal_is}
use Rattle.broker_spec.specs.declared.command.Command.{Command}
use Rattle.broker_spec.specs.declared.command.Command.TheVariants as commands
use Rattle.broker_base.specs.ClientSession.{ClientSession}
use Rattle.broker_base.specs.SessionStep.{session_connected, session_by}
use Rattle.broker_base.specs.State.{Sessions, State, keyed, session_in, owner_in, put_session}
use Rattle.broker_base.specs.StateTheorems.{AreByClient}
use Rattle.broker_base.specs.Decisions.{is_one_topic_over, row_lacks_room, is_refused_in, repeats_taken, packet_mark_in, connect_mark_in, place_in}
use Rattle.broker_base.specs.Step.{session_after, sessions_left, sessions_with, window_after, step}
use Rattle.broker_base.proofs.SessionsStayByClient.{left_by_client}
use Rattle.session_base.specs.InRange.{CanBeSent}
use Rattle.broker_base.specs.form.InRange.{IsRetained}
use Rattle.broker_base.proofs.of_form.Publications.{made, marked}
use Rattle.lists.proofs.Tables.{put_one_more, put_known, put_rises, without_rises, without_fewer, all_put, all_without}

-- ---- sessions

keyed_more : (c : Client) (o : Option ClientSession) (rows : Sessions) → length (keyed c o rows) ≤ suc (length rows)
keyed_more c None rows = omega arith
keyed_more c (Some kept) rows = omega arith

left_fewer : (w : ℕ) (place : Place) (content : RetainedTopics) (rows : Sessions) → length (sessions_left w place content rows) ≤ length rows
left_fewer w place content [] = omega arith
left_fewer w place content (row ∷ rows) =
    let k = left_fewer w place content rows in
    let one = keyed_more row.0 (session_after w place content row.0 row.1) (sessions_left w place content rows) in
    omega (arith, k, one)

-- the place of an accepted Connect
abbrev opening : ConnectionName → Client → Bool → Place
opening x c clean = record { command = commands.Connect x c clean; mark = Mark.Accepted }

-- its client's session stays where it was
own_stays : (w : ℕ) (x : ConnectionName) (c : Client) (clean : Bool) (content : RetainedTopics) (row : Client × ClientSession) → same_client c row.0 ≡ true →
    session_after w (opening x c clean) content row.0 row.1 ≡ Some (session_connected w (x, clean) (Some row.1))
own_stays w x c clean content row e =
    elim (ends_any (opening x c clean) row.0 row.1.connection) as (λ (ends : Bool). (if ends || same_client c row.0 then
    session_by w (opening x c clean) content row.0 (only_if (same_client c row.0) (Some (x, clean))) (Some row.1) else Some row.1)
    ≡ Some (session_connected w (x, clean) (Some row.1))) [
      | true ↦ ap (λ b. session_by w (opening x c clean) content row.0 (only_if b (Some (x, clean))) (Some row.1)) e
      | false ↦ ap (λ b. if b then session_by w (opening x c clean) content row.0 (only_if b (Some (x, clean))) (Some row.1) else Some row.1) e
    ]

abbrev Known : Client → Sessions → Type 0
Known c rows = is_some (session_in c rows) ≡ true

known_keyed : (c d : Client) (o : Option ClientSession) (rows : Sessions) → Known c rows → Known c (keyed d o rows)
known_keyed c d None rows h = h
known_keyed c d (Some kept) rows h = by (same_client c d)
  where
    by : (b : Bool) → is_some (if b then Some kept else session_in c rows) ≡ true
    by true = refl
    by false = h

left_known : (w : ℕ) (x : ConnectionName) (c : Client) (clean : Bool) (content : RetainedTopics) (rows : Sessions) → Known c rows →
    Known c (sessions_left w (opening x c clean) content rows)
left_known w x c clean content [] h = absurd (cc)
left_known w x c clean content (row ∷ rows) h =
    elim (same_client c row.0) as (λ (b : Bool). same_client c row.0 ≡ b → is_some (if b then Some row.1 else session_in c rows) ≡ true →
    Known c (keyed row.0 (session_after w (opening x c clean) content row.0 row.1) (sessions_left w (opening x c clean) content rows))) [
      | true ↦ λ e h. here e
      | false ↦ λ e h. known_keyed c row.0 (session_after w (opening x c clean) content row.0 row.1) (sessions_left w (opening x c clean) content rows)
          (left_known w x c clean content rows h)
    ] refl h
  where
    here : same_client c row.0 ≡ true → Known c (keyed row.0 (session_after w (opening x c clean) content row.0 row.1) (sessions_left w (opening x c clean) content rows))
    here e =
        subst (λ (o : Option ClientSession). Known c (keyed row.0 o (sessions_left w (opening x c clean) content rows))) (sym (own_stays w x c clean content row e))
        (ap (λ b. is_some (if b then Some (session_connected w (x, clean) (Some row.1)) else session_in c (sessions_left w (opening x c clean) content rows))) e)

connected_few : (w : ℕ) (limits : Limits) (x : ConnectionName) (c : Client) (clean : Bool) (content : RetainedTopics) (rows : Sessions) → AreByClient rows →
    length rows ≤ limits.sessions → (is_some (session_in c rows) || nat_lt (length rows) limits.sessions) ≡ true →
    (kept : ClientSession) → length (put_session c kept (sessions_left w (opening x c clean) content rows)) ≤ limits.sessions
connected_few w limits x c clean content rows sorted few e kept =
    elim (is_some (session_in c rows)) as (λ (b : Bool). is_some (session_in c rows) ≡ b → (b || nat_lt (length rows) limits.sessions) ≡ true →
    length (put_session c kept (sessions_left w (opening x c clean) content rows)) ≤ limits.sessions) [
      | true ↦ λ known e. again known
      | false ↦ λ none e.
          let more = put_one_more c kept (sessions_left w (opening x c clean) content rows) in
          let fewer = left_fewer w (opening x c clean) content rows in
          let less : suc (length rows) ≤ limits.sessions = grind (arith, e) in omega (arith, more, fewer, less)
    ] refl e
  where
    there : (o : Option ClientSession) → is_some o ≡ true → session_in c (sessions_left w (opening x c clean) content rows) ≡ o →
        length (put_session c kept (sessions_left w (opening x c clean) content rows)) ≤ limits.sessions
    there (Some old) h e =
        let same = put_known c kept old (sessions_left w (opening x c clean) content rows) (left_by_client w (opening x c clean) content rows sorted) e in
        let fewer = left_fewer w (opening x c clean) content rows in omega (arith, same, fewer, few)
    there None h e = absurd (cc)

    again : is_some (session_in c rows) ≡ true → length (put_session c kept (sessions_left w (opening x c clean) content rows)) ≤ limits.sessions
    again known = there (session_in c (sessions_left w (opening x c clean) content rows)) (left_known w x c clean content rows known) refl

left_few : (w : ℕ) (limits : Limits) (place : Place) (content : RetainedTopics) (rows : Sessions) → length rows ≤ limits.sessions →
    length (sessions_left w place content rows) ≤ limits.sessions
left_few w limits place content rows few = let k = left_fewer w place content rows in omega (arith, k, few)

pub few_sessions : (limits : Limits) (later : ℕ) (state : State) (command : Command) → AreByClient state.sessions → length state.sessions ≤ limits.sessions →
    length (step limits later state command).0.sessions ≤ limits.sessions
few_sessions limits later state (commands.Connect x c clean) sorted few =
    elim (owner_in x state.sessions) as (λ (o : Option (Client × ClientSession)). Few (connect_mark_in limits state c o)) [
      | Some owner ↦ left_few state.window limits (record { command = commands.Connect x c clean; mark = Mark.Leaves owner.0 }) state.retained state.sessions few
      | None ↦
          elim (is_some (session_in c state.sessions) || nat_lt (length state.sessions) limits.sessions) as (λ (b : Bool).
          (is_some (session_in c state.sessions) || nat_lt (length state.sessions) limits.sessions) ≡ b → Few (if b then Mark.Accepted else Mark.Full)) [
            | true ↦ λ e. connected_few state.window limits x c clean state.retained state.sessions sorted few e (session_connected state.window (x, clean) (session_in c state.sessions))
            | false ↦ λ e. left_few state.window limits (record { command = commands.Connect x c clean; mark = Mark.Full }) state.retained state.sessions few
          ] refl
    ]
  where
    Few : Mark → Type 0
    Few mark =
        length (sessions_with state.window (record { command = commands.Connect x c clean; mark = mark }) state.retained state.sessions (commands.Connect x c clean) mark)
        ≤ limits.sessions
few_sessions limits later state command sorted few =
    left_few (window_after later command state.window) limits (place_in limits state command) state.retained state.sessions few

-- ---- retained publications

-- what is retained is in its range, in order, and within the limit
pub record AreRetained (limits : Limits) (content : RetainedTopics) : Type 0 where
  pub rising : IsRising content
  pub few : length content ≤ limits.retained
  pub each : AllByRecursion IsRetained content

not_empty : (byte : ℕ) (payload : List ℕ) → not (is_empty (byte ∷ payload)) ≡ true
not_empty byte payload = grind arith

last_no : (a b c d : Bool) → (a && b && c && d) ≡ false → a ≡ true → b ≡ true → c ≡ true → d ≡ false
last_no true true true d e on full none = e
last_no true true false d e on full none = absurd (cc)
last_no true false c d e on full none = absurd (cc)
last_no false b c d e on full none = absurd (cc)

put_retained : (limits : Limits) (content : RetainedTopics) (p : Publication) → CanBeSent p → AreRetained limits content → p.retain ≡ true →
    is_one_topic_over limits content p ≡ false → AreRetained limits (after_put content p.topic p.qos p.payload)
put_retained limits content p sent h on over = by p.payload sent over
  where
    by : (payload : List ℕ) → CanBeSent (made p.retain p.qos p.topic payload) → is_one_topic_over limits content (made p.retain p.qos p.topic payload) ≡ false →
        AreRetained limits (after_put content p.topic p.qos payload)
    by [] sent over = record {
      rising = without_rises p.topic content h.rising;
      few = (let k = without_fewer p.topic content in let few = h.few in omega (arith, k, few));
      each = all_without IsRetained p.topic content h.each;
    }
    by (byte ∷ payload) sent over = record {
      rising = put_rises p.topic (record { qos = p.qos; payload = byte ∷ payload }) content h.rising;
      few = room (publication_on p.topic content) refl;
      each = all_put IsRetained p.topic (record { qos = p.qos; payload = byte ∷ payload }) content one
          (λ b e. subst (λ (topic : List ℕ). IsRetained (topic, record { qos = p.qos; payload = byte ∷ payload })) (equal_is p.topic b e) one) h.each;
    }
      where
        one : IsRetained (p.topic, record { qos = p.qos; payload = byte ∷ payload })
        one = (omega arith, marked p.retain true p.qos p.topic (byte ∷ payload) sent)

        room : (o : Option RetainedPublication) → publication_on p.topic content ≡ o →
            length (after_put content p.topic p.qos (byte ∷ payload)) ≤ limits.retained
        room (Some old) e =
            let k = put_known p.topic (record { qos = p.qos; payload = byte ∷ payload }) old content h.rising e in let few = h.few in omega (arith, k, few)
        room None e =
            let k = put_one_more p.topic (record { qos = p.qos; payload = byte ∷ payload }) content in
            let none : is_none (publication_on p.topic content) ≡ true = ap is_none e in
            let full = last_no p.retain (not (is_empty (byte ∷ payload))) (is_none (publication_on p.topic content)) (nat_le limits.retained (length content)) over on (not_empty byte payload) none in
            let less : suc (length content) ≤ limits.retained = grind (arith, full) in omega (arith, k, less)

pub stays_retained : (limits : Limits) (state : State) (command : Command) → ((x : ConnectionName) (p : Publish) → command ≡ commands.Packet x (packets.Publish p) → CanBeSent (publication_of p)) →
    AreRetained limits state.retained → AreRetained limits (retained_by (place_in limits state command).command (place_in limits state command).mark state.retained)
stays_retained limits state (commands.Packet x (packets.Publish p)) sent h =
    elim (owner_in x state.sessions) as (λ (o : Option (Client × ClientSession)). Kept (packet_mark_in limits state (packets.Publish p) o)) [
      | Some owner ↦
          elim (repeats_taken owner.1 p.delivery) as (λ (b : Bool). Kept (if b then Mark.Repeat owner.0 else if is_refused_in limits state (publication_of p) then Mark.Refused owner.0 else Mark.Taken owner.0)) [
            | true ↦ h
            | false ↦ elim (is_refused_in limits state (publication_of p)) as (λ (b : Bool). is_refused_in limits state (publication_of p) ≡ b → Kept (if b then Mark.Refused owner.0 else Mark.Taken owner.0)) [
              | true ↦ λ e. h
              | false ↦ λ e. taken (second_no (list_any (row_lacks_room limits (publication_of p)) state.sessions) (is_one_topic_over limits state.retained (publication_of p)) e)
            ] refl
          ]
      | None ↦ h
    ]
  where
    Kept : Mark → Type 0
    Kept mark = AreRetained limits (retained_by (commands.Packet x (packets.Publish p)) mark state.retained)

    second_no : (a b : Bool) → (a || b) ≡ false → b ≡ false
    second_no true b e = absurd (cc)
    second_no false b e = e

    taken : is_one_topic_over limits state.retained (publication_of p) ≡ false → AreRetained limits (retains (publication_of p) state.retained)
    taken over =
        elim p.retain as (λ (b : Bool). p.retain ≡ b → AreRetained limits (if b then after_put state.retained p.topic (publication_of p).qos p.payload else state.retained)) [
          | true ↦ λ on. put_retained limits state.retained (publication_of p) (sent x p refl) h on over
          | false ↦ λ off. h
        ] refl
stays_retained limits state (commands.Packet x packet) sent h = h
stays_retained limits state (commands.Connect x c clean) sent h = h
stays_retained limits state (commands.Lost x) sent h = h
stays_retained limits state (commands.Start ballot) sent h = h
stays_retained limits state (commands.Expel c) sent h = h
