-- While a session of a client lasts each event keeps what the client accepted in it and before it.
use Rattle.std.proofs.Common.{◌≡◌, ℕ, Bool, true, false, if◌then◌else◌, List, [], ◌∷◌, ◌++◌, length, Some, None, refl, sym, ◌∙◌, ap, ap₂, subst, inl, inr, ◌⊎◌}
use Rattle.lists.proofs.Tests.{eq_same}
use Rattle.packet.specs.declared.packet.Packet.TheVariants as packets
use Rattle.broker_spec.specs.Place.{Client, Place, Past, Limits}
use Rattle.broker_spec.specs.Sessions.{accepts, session_start}
use Rattle.broker_spec.specs.Commands.{place_of}
use Rattle.client_base.specs.Keeper.{Written}
use Rattle.client_base.specs.Called.{written_for}
use Rattle.client_base.specs.Connected.{new_connection}
use Rattle.client_base.specs.Handled.{packet_handled}
use Rattle.client_base.specs.Written.{plain, writes_first}
use Rattle.exactly_once.specs.Sides.{ClientConnection, Side}
use Rattle.exactly_once.specs.Story.{Story, StoryStep}
use Rattle.exactly_once.specs.StoryCommands.{command_of, names_client}
use Rattle.exactly_once.specs.Story.StoryStep.{takes, others_take, receives, opens_anew, loses, disconnects, publishes_one, subscribes, unsubscribes}
use Rattle.exactly_once.specs.Acceptance.{accepted_on}
use Rattle.exactly_once.specs.Carried.{is_this}
use Rattle.exactly_once.specs.InStep.{IsInStep, opens_on, opened_in, accepted_in}
use Rattle.exactly_once.proofs.keeping.CurrentOnes.{none_opened}
use Rattle.exactly_once.proofs.places.Spared.{other_spares}
use Rattle.exactly_once.proofs.publishing.Last.{each_there}
use Rattle.exactly_once.proofs.publishing.kept.KeepsNames.{kept_other}
use Rattle.exactly_once.proofs.subscribing.Given.{stays_handled}
use Rattle.exactly_once.proofs.sessions.Beside.{kept_of, IsHeadKept, HasBeside, flags_after, goes_beside}
use Rattle.exactly_once.proofs.sessions.Anew.{IsUntouched}
use Rattle.exactly_once.proofs.sessions.Awaiting.{HasAwaiting, IsSettled, awaiting_goes}
use Rattle.exactly_once.proofs.sessions.EachPlaced.{IsFresh, own_fresh, counted_none}
use Rattle.exactly_once.proofs.sessions.Openings.{unopened}
use Rattle.exactly_once.proofs.sessions.AcceptedShares.{accepts_same, accepted_head, accepted_new}
use Rattle.exactly_once.proofs.sessions.Life.{AreShutUnopened, IsLife}
use Rattle.exactly_once.proofs.sessions.LifePlaces.{life_command, own_opens, own_spares}
use Rattle.exactly_once.proofs.sessions.Lasting.{IsHeadOpened, after_first, Lasts, lasts_placed}
use Rattle.lists.specs.Lists.{Each}

-- ---- the whole of this session

on_none : (flags : List Bool) → accepted_on (kept_of flags []) ≡ []
on_none [] = refl
on_none (true ∷ flags) = refl
on_none (false ∷ flags) = refl

on_head : (flags : List Bool) (κ : ClientConnection) (others : List ClientConnection) → IsHeadKept flags → accepted_on (kept_of flags (κ ∷ others)) ≡ accepted_on (kept_of (after_first flags) others) ++ κ.accepted
on_head [] κ others h = refl
on_head (true ∷ flags) κ others h = refl
on_head (false ∷ flags) κ others h = absurd h

-- what it accepted in it, it accepted on the connections that are kept
pub all_kept : (limits : Limits) (c : Client) (flags : List Bool) (past : Past) (connections : List ClientConnection) (start : ℕ) → IsHeadKept flags → AreShutUnopened limits past c connections
    → Lasts limits c flags past connections → session_start past c ≡ Some start → accepted_in past c start connections ≡ accepted_on (kept_of flags connections)
all_kept limits c flags past [] start head shut h e = sym (on_none flags)
all_kept limits c flags past (κ ∷ others) start head shut h e = ap₂ (λ a b. a ++ b) (h.tail start e) (by h.head) ∙ sym (on_head flags κ others head)
  where
    by : (opened_in past c κ.name ≡ None) ⊎ (opened_in past c κ.name ≡ session_start past c) → (if is_this start (opened_in past c κ.name) then κ.accepted else []) ≡ κ.accepted
    by (inl none) = ap (λ o. if is_this start o then κ.accepted else []) none ∙ sym (shut.0 none).nothing
    by (inr same) = ap (λ o. if is_this start o then κ.accepted else []) (same ∙ e) ∙ ap (λ b. if b then κ.accepted else []) (eq_same start)

-- ---- the first connection

head_elsewhere : (past : Past) (c : Client) (start : ℕ) (κ : ClientConnection) (others : List ClientConnection) → IsHeadOpened past c (κ ∷ others) → is_this start (session_start past c) ≡ false
    → is_this start (opened_in past c κ.name) ≡ false
head_elsewhere past c start κ others (inl none) e = ap (is_this start) none
head_elsewhere past c start κ others (inr same) e = ap (is_this start) same ∙ e

pub lasts_head : (limits : Limits) (c : Client) (flags : List Bool) (past : Past) (κ κ' : ClientConnection) (others : List ClientConnection) → κ'.name ≡ κ.name → Lasts limits c flags past (κ ∷ others)
    → Lasts limits c flags past (κ' ∷ others)
lasts_head limits c flags past κ κ' others name h =
    record {
      head = subst (λ x. (opened_in past c x ≡ None) ⊎ (opened_in past c x ≡ session_start past c)) (sym name) h.head;
      tail = h.tail;
      unbegun = h.unbegun;
      elsewhere = λ start e. accepts_same limits c past past (κ ∷ others) (κ' ∷ others) start refl (accepted_head past c start κ κ' others name (head_elsewhere past c start κ others h.head e)) (h.elsewhere start e);
    }

pub lasts_written : (limits : Limits) (c : Client) (flags : List Bool) (past : Past) (more : List Written) (connections : List ClientConnection) → Lasts limits c flags past connections
    → Lasts limits c flags past (writes_first more connections)
lasts_written limits c flags past more [] h = h
lasts_written limits c flags past more (κ ∷ others) h = lasts_head limits c flags past κ (record κ { written = κ.written ++ more }) others refl h

lasts_maybe : (limits : Limits) (c : Client) (flags : List Bool) (past : Past) (b : Bool) (more : List Written) (connections : List ClientConnection) → Lasts limits c flags past connections
    → Lasts limits c flags past (if b then writes_first more connections else connections)
lasts_maybe limits c flags past true more connections h = lasts_written limits c flags past more connections h
lasts_maybe limits c flags past false more connections h = h

lasts_opened : (limits : Limits) (c : Client) (flags : List Bool) (past : Past) (κ : ClientConnection) (connections : List ClientConnection) → IsHeadKept flags → AreShutUnopened limits past c connections
    → opened_in past c κ.name ≡ None → κ.accepted ≡ [] → Lasts limits c flags past connections → Lasts limits c (true ∷ flags) past (κ ∷ connections)
lasts_opened limits c flags past κ connections head shut none nothing h =
    record {
      head = inl none;
      tail = λ start e. all_kept limits c flags past connections start head shut h e;
      unbegun = h.unbegun;
      elsewhere = λ start e. accepts_same limits c past past connections (κ ∷ connections) start refl (accepted_new past c start κ connections nothing) (h.elsewhere start e);
    }

-- ---- the events

-- a place that opens none of the client's
pub all_fresh : (place : Place) (c : Client) (connections : List ClientConnection) → accepts place.command place.mark c ≡ None → Each (IsFresh place c) connections
all_fresh place c [] none = tt
all_fresh place c (κ ∷ connections) none = (inl (ap (opens_on κ.name) none), all_fresh place c connections none)

-- the life has a story of the session
abbrev pub Stands : Limits → Client → List Bool → Story → Type 0
Stands limits c flags s = HasAwaiting limits c flags s ⊎ HasBeside limits c flags s

pub stands_head : (limits : Limits) (c : Client) (flags : List Bool) (s : Story) → Stands limits c flags s → IsHeadKept flags
stands_head limits c flags s (inl a) = a.awaits.head
stands_head limits c flags s (inr b) = b.head

pub stands_goes : (limits : Limits) (c : Client) (flags : List Bool) (s t : Story) → IsLife limits c s → Stands limits c flags s → (h : StoryStep limits s t) → IsInStep t → Stands limits c (flags_after flags h) t
stands_goes limits c flags s t life (inl a) h step = by (awaiting_goes limits c flags s t life.connections.names a h life.keeper.numbers step)
  where
    by : HasAwaiting limits c (flags_after flags h) t ⊎ IsSettled limits c (flags_after flags h) s t → Stands limits c (flags_after flags h) t
    by (inl later) = inl later
    by (inr settled) = inr settled.beside
stands_goes limits c flags s t life (inr b) h step = inr (goes_beside limits c flags s t life.connections.names b h)

pub lasts_goes : (limits : Limits) (c : Client) (flags : List Bool) (s t : Story) → IsLife limits c s → IsHeadKept flags → Lasts limits c flags s.past s.connections → (h : StoryStep limits s t)
    → Lasts limits c (flags_after flags h) t.past t.connections
lasts_goes limits c flags s t life head l (takes i κ w stands next) =
    let command = command_of κ.name κ.taken w.packet in
    let kind = life_command limits c s i κ w life stands next in
    let untouched = each_there (λ (μ : ClientConnection). μ.taken ≡ 0 → IsUntouched limits s.past c μ) i s.connections κ stands life.connections.untouched in
    lasts_placed limits c flags (place_of limits s.past command) s.past i s.connections life.session (own_opens limits s.past c κ w.packet command kind) (own_spares s.past c κ w.packet command kind)
    (own_fresh limits s.past c i κ w.packet command s.connections kind untouched stands life.connections.names) life.connections.shut l
lasts_goes limits c flags s t life head l (others_take command other none) =
    let place = place_of limits s.past command in
    let mine = subst (λ (d : Client). names_client s.past d command → ⊥) life.keeper.client other in
    subst (Lasts limits c flags (place ∷ s.past)) (counted_none s.connections)
    (lasts_placed limits c flags place s.past (length s.connections) s.connections life.session (kept_other s.past c command place.mark mine) (other_spares s.past c command mine)
    (all_fresh place c s.connections (none_opened s.past c command place.mark mine)) life.connections.shut l)
lasts_goes limits c flags s t life head l (receives κ others packet are opened next) =
    let side : Side = record { keeper = s.keeper; connection = κ } in
    lasts_head limits c flags s.past κ (packet_handled packet side).connection others (stays_handled packet side).name (subst (Lasts limits c flags s.past) are l)
lasts_goes limits c flags s t life head l (opens_anew x fresh none uncounted) =
    lasts_opened limits c flags s.past (new_connection s.keeper.client x) s.connections head life.connections.shut (unopened s.past c x uncounted) refl l
lasts_goes limits c flags s t life head l loses = l
lasts_goes limits c flags s t life head l disconnects = lasts_maybe limits c flags s.past s.keeper.is_online (plain packets.Disconnect ∷ []) s.connections l
lasts_goes limits c flags s t life head l (publishes_one p needs) = lasts_written limits c flags s.past (written_for p s.keeper) s.connections l
lasts_goes limits c flags s t life head l (subscribes p on id) = lasts_written limits c flags s.past (plain (packets.Subscribe p) ∷ []) s.connections l
lasts_goes limits c flags s t life head l (unsubscribes p on id) = lasts_written limits c flags s.past (plain (packets.Unsubscribe p) ∷ []) s.connections l
