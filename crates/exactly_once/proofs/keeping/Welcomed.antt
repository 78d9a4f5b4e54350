-- A row that shape needs in addition to the others, kept by every event: if a CONNACK 0 is among
-- the answers to one of the client's connections, the client has a session, and it is not clean.
use Rattle.std.proofs.Common.{◌≡◌, ℕ, zero, suc, Bool, true, false, if◌then◌else◌, List, [], ◌∷◌, Option, Some, None, refl, ap, sym, ◌∙◌, subst, inl, inr}
use Rattle.std.proofs.lemmas.Bool.{both_ways}
use Rattle.packet.specs.declared.packet.Packet.{Packet}
use Rattle.packet.specs.declared.packet.Packet.TheVariants as packets
use Rattle.broker_spec.specs.Connection.{ConnectionName}
use Rattle.broker_spec.specs.Place.{Client, Mark, Place, Past, Limits, only_if}
use Rattle.broker_spec.specs.Sessions.{accepts, clean_session_of}
use Rattle.broker_spec.specs.AnswersInOrder.{answers_at}
use Rattle.broker_spec.specs.Commands.{place_of}
use Rattle.broker_spec.specs.declared.command.Command.TheVariants as commands
use Rattle.broker_spec.proofs.ClientsInOrder.{same_self}
use Rattle.lists.specs.Lists.{Each}
use Rattle.lists.proofs.OfEach.{each_then}
use Rattle.lists.proofs.Tests.{or_none}
use Rattle.exactly_once.specs.Sends.{sends_to, put_to}
use Rattle.client_base.specs.Keeper.{Written}
use Rattle.exactly_once.specs.Sides.{ClientConnection, Side}
use Rattle.client_base.specs.Written.{plain}
use Rattle.client_base.specs.Handled.{packet_handled}
use Rattle.exactly_once.specs.Story.{Story, StoryStep}
use Rattle.exactly_once.specs.StoryCommands.{any_named, is_packet_of, command_of, with_one_counted}
use Rattle.client_base.specs.Written.{writes_first}
use Rattle.client_base.specs.Called.{written_for}
use Rattle.exactly_once.specs.Story.StoryStep.{takes, others_take, receives, opens_anew, loses, disconnects, publishes_one, subscribes, unsubscribes}
use Rattle.exactly_once.specs.Inside.Shape.{IsMeant, IsWelcomed, AreWelcomed, IsSoundStory}
use Rattle.exactly_once.specs.Inside.ConnectionShape.{is_connack, ConnectionInShape}
use Rattle.exactly_once.proofs.places.After.{IsKeptSession, IsSpared, session_spared, session_opens}
use Rattle.exactly_once.proofs.publishing.kept.KeepsNames.{events_keep_session}
use Rattle.exactly_once.proofs.publishing.Last.{each_there}
use Rattle.exactly_once.proofs.subscribing.Given.{stays_handled}
use Rattle.exactly_once.proofs.subscribing.events.OtherConnects.{at_connect}
use Rattle.exactly_once.proofs.keeping.Connacks.{IsAsked, own_sends, other_sends, put_each}
use Rattle.exactly_once.proofs.places.Spared.{taken_spares, other_spares}

-- ---- places

-- a session that is there and not clean stays if none ends
pub still_there : (place : Place) (past : Past) (c : Client) → IsSpared place.command past c → clean_session_of past c ≡ Some false → IsKeptSession (clean_session_of (place ∷ past) c) → clean_session_of (place ∷ past) c ≡ Some false
still_there place past c spared there (inr e) = e
still_there place past c spared there (inl none) = by (accepts place.command place.mark c) refl
  where
    by : (o : Option (ConnectionName × Bool)) → accepts place.command place.mark c ≡ o → clean_session_of (place ∷ past) c ≡ Some false
    by (Some opened) e = absurd (let f : None ≡ Some opened.1 = sym none ∙ session_opens place past c opened e in cc)
    by None e = session_spared place past c e spared (inr there) ∙ there

-- a packet that is no CONNACK 0
pub asks_meant : (c : Client) (past : Past) → IsAsked (λ (place : Place) (packet : Packet). IsMeant c (place ∷ past) packet)
asks_meant c past =
    record {
      quiet = λ place packet q b e. absurd (both_ways (is_connack packet) q (ap is_connack e));
      refused = λ place b e. absurd (cc);
    }

-- an accepted Connect of the client
opened_there : (past : Past) (x : ConnectionName) (c : Client) (mark : Mark) → mark ≡ Mark.Accepted → clean_session_of (at_connect x c false mark ∷ past) c ≡ Some false
opened_there past x c mark e =
    session_opens (at_connect x c false mark) past c (x, false) (ap (λ (m : Mark). accepts (commands.Connect x c false) m c) e ∙ ap (λ b. only_if b (Some (x, false))) (same_self c))

-- what was sent before
meant_before : (limits : Limits) (place : Place) (past : Past) (c : Client) (x : ConnectionName) → IsSpared place.command past c → IsKeptSession (clean_session_of (place ∷ past) c) → IsWelcomed limits past c x
    → Each (IsMeant c (place ∷ past)) (put_to limits past x)
meant_before limits place past c x spared kept = each_then (IsMeant c past) (IsMeant c (place ∷ past)) (put_to limits past x) (λ packet h b e. still_there place past c spared (h b e) kept)

-- ---- connections

-- one more is taken of one
pub welcomed_counted : (limits : Limits) (past : Past) (c : Client) (i : ℕ) (connections : List ClientConnection) → AreWelcomed limits past c connections → AreWelcomed limits past c (with_one_counted i connections)
welcomed_counted limits past c i [] h = tt
welcomed_counted limits past c zero (κ ∷ others) h = (h.0, h.1)
welcomed_counted limits past c (suc i) (κ ∷ others) h = (h.0, welcomed_counted limits past c i others h.1)

-- more is written
welcomed_written : (limits : Limits) (past : Past) (c : Client) (more : List Written) (connections : List ClientConnection) → AreWelcomed limits past c connections → AreWelcomed limits past c (writes_first more connections)
welcomed_written limits past c more [] h = tt
welcomed_written limits past c more (κ ∷ others) h = (h.0, h.1)

-- a command of none of them is taken
welcomed_other : (limits : Limits) (place : Place) (past : Past) (c : Client) (connections : List ClientConnection) → IsSpared place.command past c → IsKeptSession (clean_session_of (place ∷ past) c)
    → any_named (is_packet_of place.command) connections ≡ false → ((y : ConnectionName) → is_packet_of place.command y ≡ false → Each (IsMeant c (place ∷ past)) (sends_to y (answers_at limits place past)))
    → AreWelcomed limits past c connections → AreWelcomed limits (place ∷ past) c connections
welcomed_other limits place past c [] spared kept none sends h = tt
welcomed_other limits place past c (κ ∷ others) spared kept none sends h =
    let two = or_none (is_packet_of place.command κ.name) (any_named (is_packet_of place.command) others) none in (
      put_each (IsMeant c (place ∷ past)) limits place past κ.name (meant_before limits place past c κ.name spared kept h.0) (sends κ.name two.0),
      welcomed_other limits place past c others spared kept two.1 sends h.1,
    )

-- ---- the events

-- the row is kept
pub events_keep_welcomed : (limits : Limits) (s t : Story) → IsSoundStory limits s → AreWelcomed limits s.past s.keeper.client s.connections → StoryStep limits s t
    → AreWelcomed limits t.past t.keeper.client t.connections
events_keep_welcomed limits s t sound h (takes i κ w stands next) =
    let c = s.keeper.client in
    let place = place_of limits s.past (command_of κ.name κ.taken w.packet) in
    let this = each_there (ConnectionInShape limits s.past c) i s.connections κ stands sound.shape.connections in
    let kept = events_keep_session limits s t sound (takes i κ w stands next) in
    welcomed_counted limits (place ∷ s.past) c i s.connections
    (each_then (λ (μ : ClientConnection). IsWelcomed limits s.past c μ.name) (λ (μ : ClientConnection). IsWelcomed limits (place ∷ s.past) c μ.name) s.connections
    (λ μ g. put_each (IsMeant c (place ∷ s.past)) limits place s.past μ.name (meant_before limits place s.past c μ.name (inl (taken_spares κ.name κ.taken w.packet c)) kept g)
    (own_sends (λ (place : Place) (packet : Packet). IsMeant c (place ∷ s.past) packet) (asks_meant c s.past) limits s.past c κ w μ.name this next
    (λ mark e b f. opened_there s.past κ.name c mark e))) h)
events_keep_welcomed limits s t sound h (others_take command other none) =
    let c = s.keeper.client in
    let place = place_of limits s.past command in
    welcomed_other limits place s.past c s.connections (other_spares s.past c command other) (events_keep_session limits s t sound (others_take command other none)) none
    (other_sends (λ (place : Place) (packet : Packet). IsMeant c (place ∷ s.past) packet) (asks_meant c s.past) limits s.past command) h
events_keep_welcomed limits s t sound h (receives κ others packet are opened next) =
    let side : Side = record { keeper = s.keeper; connection = κ } in
    let st = stays_handled packet side in
    let mine = subst (AreWelcomed limits s.past s.keeper.client) are h in
    subst (λ (c : Client). AreWelcomed limits s.past c ((packet_handled packet side).connection ∷ others)) (sym st.client)
    (subst (IsWelcomed limits s.past s.keeper.client) (sym st.name) mine.0, mine.1)
events_keep_welcomed limits s t sound h (opens_anew x fresh none uncounted) = (subst (Each (IsMeant s.keeper.client s.past)) (sym none) tt, h)
events_keep_welcomed limits s t sound h loses = h
events_keep_welcomed limits s t sound h disconnects = by s.keeper.is_online
  where
    by : (b : Bool) → AreWelcomed limits s.past s.keeper.client (if b then writes_first (plain packets.Disconnect ∷ []) s.connections else s.connections)
    by true = welcomed_written limits s.past s.keeper.client (plain packets.Disconnect ∷ []) s.connections h
    by false = h
events_keep_welcomed limits s t sound h (publishes_one p needs) = welcomed_written limits s.past s.keeper.client (written_for p s.keeper) s.connections h
events_keep_welcomed limits s t sound h (subscribes p on id) = welcomed_written limits s.past s.keeper.client (plain (packets.Subscribe p) ∷ []) s.connections h
events_keep_welcomed limits s t sound h (unsubscribes p on id) = welcomed_written limits s.past s.keeper.client (plain (packets.Unsubscribe p) ∷ []) s.connections h
