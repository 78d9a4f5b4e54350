-- A packet that the client handles keeps what holds for its life.
use Rattle.std.proofs.Common.{◌≡◌, ℕ, true, false, ◌||◌, List, [], ◌∷◌, Option, Some, None, refl, sym, ◌∙◌, ap, subst, inl, inr, ◌⊎◌, length, arith}
use Rattle.std.specs.Prelude.{slice_get}
use Rattle.std.proofs.lemmas.Bool.{both_ways}
use Rattle.packet.specs.declared.packet.Packet.{Packet}
use Rattle.broker_spec.specs.Connection.{same_connection}
use Rattle.broker_spec.specs.Place.{Client, Past, Limits}
use Rattle.client_base.specs.Keeper.{Keeper, Written}
use Rattle.client_base.specs.Handled.{packet_handled}
use Rattle.exactly_once.specs.Sides.{ClientConnection, Side}
use Rattle.exactly_once.specs.Sends.{put_to}
use Rattle.exactly_once.specs.StoryCommands.{any_named, packet_count}
use Rattle.exactly_once.specs.InStep.{has_begun, opened_in}
use Rattle.exactly_once.proofs.publishing.kept.KeepsNobody.{nobody_named}
use Rattle.exactly_once.proofs.subscribing.Given.{Stays, one_handled, stays_handled}
use Rattle.exactly_once.proofs.keeping.Settled.{IsSettled, settled_handled, IsWelcome, served_handled}
use Rattle.exactly_once.proofs.keeping.KeepsServed.{packet_at}
use Rattle.exactly_once.proofs.sessions.Anew.{IsUntouched}
use Rattle.exactly_once.proofs.sessions.Openings.{opened_begun}
use Rattle.exactly_once.proofs.sessions.KeepsKeeper.{unwelcome_ends, unserved_handled, unserved_ends}
use Rattle.exactly_once.proofs.sessions.OfflineUnasked.{unasked_handled}
use Rattle.exactly_once.proofs.sessions.Life.{is_welcome, IsShut, IsShutUnopened, IsHeld, HasConnections, HasKeeper, IsCounted}
use Rattle.client_base.proofs.NumbersStay.{handled_numbers}
use Rattle.exactly_once.proofs.publishing.Grown.{handled_grows}
use Rattle.std.proofs.lemmas.List.{length-append}

held_settled : (side : Side) (others : List ClientConnection) → IsSettled side → IsHeld side.keeper (side.connection ∷ others)
held_settled side others (inl h) = (λ e. h.2 ∙ sym h.1, λ e. h.0)
held_settled side others (inr h) = (λ e. absurd (both_ways side.keeper.is_open h.0 e), λ e. absurd (both_ways side.keeper.is_online h.1 e))

-- it was sent, so a packet of the connection was taken
was_taken : (limits : Limits) (past : Past) (c : Client) (κ : ClientConnection) (packet : Packet) → (κ.taken ≡ 0 → IsUntouched limits past c κ) → slice_get (put_to limits past κ.name) κ.handled ≡ Some packet → κ.taken ≡ 0 → ⊥
was_taken limits past c κ packet h next new = let e : slice_get [] κ.handled ≡ Some packet = sym (ap (λ (l : List Packet). slice_get l κ.handled) (h new).queued) ∙ next in cc

shut_handled : (limits : Limits) (past : Past) (c : Client) (keeper : Keeper) (κ : ClientConnection) (packet : Packet) → keeper.is_open ≡ true → (keeper.is_open ≡ true → κ.confirmed ≡ keeper.is_online)
    → slice_get (put_to limits past κ.name) κ.handled ≡ Some packet → IsShutUnopened limits past c κ → IsShutUnopened limits past c (packet_handled packet (let side : Side = record { keeper = keeper; connection = κ } in side)).connection
shut_handled limits past c keeper κ packet opened held next h e =
    let side : Side = record { keeper = keeper; connection = κ } in
    let s = h (ap (opened_in past c) (sym (stays_handled packet side).name) ∙ e) in
    let unwelcome = packet_at (λ (p : Packet). is_welcome p ≡ false) (put_to limits past κ.name) κ.handled packet s.unwelcome next in
    subst (λ (z : Side). IsShut limits past z.connection) (sym (unwelcome_ends packet side (sym (held opened) ∙ s.unconfirmed) unwelcome))
    (record { unconfirmed = s.unconfirmed; nothing = s.nothing; unwelcome = s.unwelcome })

begun_handled : (limits : Limits) (past : Past) (c : Client) (keeper : Keeper) (κ : ClientConnection) (packet : Packet) → slice_get (put_to limits past κ.name) κ.handled ≡ Some packet → IsShutUnopened limits past c κ
    → (keeper.was_served ≡ true → has_begun past c ≡ true) → (packet_handled packet (let side : Side = record { keeper = keeper; connection = κ } in side)).keeper.was_served ≡ true → has_begun past c ≡ true
begun_handled limits past c keeper κ packet next h begun e = by (served_handled packet (record { keeper = keeper; connection = κ }) e)
  where
    two : (o : Option ℕ) → opened_in past c κ.name ≡ o → IsWelcome packet → has_begun past c ≡ true
    two (Some n) f w = opened_begun past c κ.name n f
    two None f w =
        absurd (both_ways (is_welcome packet) (packet_at (λ (p : Packet). is_welcome p ≡ false) (put_to limits past κ.name) κ.handled packet (h f).unwelcome next) (ap is_welcome w.1))

    by : (keeper.was_served ≡ true) ⊎ IsWelcome packet → has_begun past c ≡ true
    by (inl f) = begun f
    by (inr w) = two (opened_in past c κ.name) refl w

counted_handled : (past : Past) (keeper : Keeper) (κ : ClientConnection) (packet : Packet) → IsCounted past κ → IsCounted past (packet_handled packet (let side : Side = record { keeper = keeper; connection = κ } in side)).connection
counted_handled past keeper κ packet h =
    let grown = handled_grows κ keeper packet in
    record {
      counted = ap (λ x. packet_count x past) grown.name ∙ h.counted ∙ sym grown.taken;
      within = let w = h.within in let l = length-append κ.written grown.more in let m = ap (λ (ws : List Written). length ws) grown.written in let t = grown.taken in omega (arith, w, l, m, t);
    }

pub life_received : (limits : Limits) (c : Client) (past : Past) (keeper : Keeper) (κ : ClientConnection) (others : List ClientConnection) (packet : Packet) → keeper.is_open ≡ true
    → slice_get (put_to limits past κ.name) κ.handled ≡ Some packet → HasConnections limits c past (κ ∷ others) → HasKeeper c past keeper (κ ∷ others) → (side : Side) → side ≡ record { keeper = keeper; connection = κ }
    → HasConnections limits c past ((packet_handled packet side).connection ∷ others) × HasKeeper c past (packet_handled packet side).keeper ((packet_handled packet side).connection ∷ others)
life_received limits c past keeper κ others packet opened next h k side is = subst P (sym is) (connections, client)
  where
    P : Side → Type 0
    P side = HasConnections limits c past ((packet_handled packet side).connection ∷ others) × HasKeeper c past (packet_handled packet side).keeper ((packet_handled packet side).connection ∷ others)

    before : Side
    before = record { keeper = keeper; connection = κ }

    st : Stays (one_handled before) (packet_handled packet before)
    st = stays_handled packet before

    connections : HasConnections limits c past ((packet_handled packet before).connection ∷ others)
    connections =
        record {
          names = (ap (λ x. any_named (same_connection x) others) st.name ∙ h.names.0, h.names.1);
          untouched = (λ new. absurd (was_taken limits past c κ packet h.untouched.0 next (sym st.taken ∙ new)), h.untouched.1);
          shut = (shut_handled limits past c keeper κ packet opened k.held.0 next h.shut.0, h.shut.1);
          nobody = nobody_named past c (κ ∷ others) ((packet_handled packet before).connection ∷ others) (λ test. ap (λ x. test x || any_named test others) st.name) h.nobody;
          counted = (counted_handled past keeper κ packet h.counted.0, h.counted.1);
        }

    client : HasKeeper c past (packet_handled packet before).keeper ((packet_handled packet before).connection ∷ others)
    client =
        record {
          client = st.client ∙ k.client;
          held = held_settled (packet_handled packet before) others (settled_handled packet before opened (k.held.0 opened));
          unserved = unserved_handled c packet before k.unserved;
          silent = λ e.
              let ends = unserved_ends c packet before k.unserved e in
              let all = k.silent ends.0 in
              (ap (λ (z : Side). z.connection.written) ends.1 ∙ all.0, all.1);
          numbers = handled_numbers packet before k.numbers;
          unasked = unasked_handled packet before;
          begun = begun_handled limits past c keeper κ packet next h.shut.0 k.begun;
        }
