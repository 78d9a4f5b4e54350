-- A session that has ended, of which the client still receives packets: each event continues in it,
-- or the client opens a further connection.
use Rattle.std.proofs.Common.{◌≡◌, Bool, true, false, if◌then◌else◌, List, [], ◌∷◌, ◌++◌, Some, refl, sym, ◌∙◌, ap, subst, inl, inr, ◌⊎◌}
use Rattle.std.specs.Prelude.{slice_get}
use Rattle.packet.specs.declared.packet.Packet.{Packet}
use Rattle.packet.specs.declared.packet.Packet.TheVariants as packets
use Rattle.broker_spec.specs.Place.{Client, Limits}
use Rattle.broker_spec.specs.NobodyTheorems.{IsSteady}
use Rattle.broker_spec.specs.Marks.{mark_of}
use Rattle.broker_spec.specs.Commands.{place_of}
use Rattle.client_base.specs.Keeper.{Written, Keeper}
use Rattle.client_base.specs.Called.{written_for}
use Rattle.client_base.specs.Connected.{new_connection}
use Rattle.client_base.specs.Handled.{packet_handled, lost}
use Rattle.client_base.specs.Written.{plain, writes_first}
use Rattle.exactly_once.specs.Sides.{ClientConnection, Side}
use Rattle.exactly_once.specs.Sends.{put_to}
use Rattle.exactly_once.specs.Story.{Story, StoryStep, with_side}
use Rattle.exactly_once.specs.StoryCommands.{command_of, with_one_counted, names_client, is_packet_of}
use Rattle.exactly_once.specs.Story.StoryStep.{takes, others_take, receives, opens_anew, loses, disconnects, publishes_one, subscribes, unsubscribes}
use Rattle.exactly_once.specs.InStep.{AreWelcome, IsInStep}
use Rattle.exactly_once.proofs.keeping.CurrentOnes.{none_opened}
use Rattle.exactly_once.proofs.subscribing.Given.{stays_handled}
use Rattle.exactly_once.proofs.sessions.Beside.{with_connections}
use Rattle.exactly_once.proofs.sessions.Openings.{unopened}
use Rattle.exactly_once.proofs.sessions.AcceptedShares.{accepts_same, accepted_new}
use Rattle.exactly_once.proofs.sessions.Life.{IsLife}
use Rattle.exactly_once.proofs.sessions.Parted.{Parts}
use Rattle.exactly_once.proofs.sessions.HandledCounted.{counting, handled_counted}
use Rattle.exactly_once.proofs.sessions.Lingering.{IsFrozen, IsSince, Lingers, lingers_accepts, frozen_goes}
use Rattle.exactly_once.proofs.sessions.LingersPlaced.{lingers_takes, lingers_other, none_of_head}

-- with the same connections
with_keeper : (limits : Limits) (c : Client) (s : Story) (later : Keeper) (l : Lingers limits c s) → IsFrozen limits c l.flags l.earlier later l.newest l.before → Lingers limits c (record s { keeper = later })
with_keeper limits c s later l f =
    record { flags = l.flags; earlier = l.earlier; newest = l.newest; count = l.count; others = l.others; before = l.before; are = l.are; frozen = f; since = l.since }

-- it writes on the newest one
with_written : (limits : Limits) (c : Client) (s : Story) (later : Keeper) (more : List Written) (l : Lingers limits c s) → IsFrozen limits c l.flags l.earlier later (record l.newest { written = l.newest.written ++ more }) l.before
    → Lingers limits c (with_connections s.past later (writes_first more s.connections))
with_written limits c s later more l f =
    record {
      flags = l.flags;
      earlier = l.earlier;
      newest = record l.newest { written = l.newest.written ++ more };
      count = l.count;
      others = l.others;
      before = l.before;
      are = ap (writes_first more) l.are;
      frozen = f;
      since = l.since;
    }

-- it handles a packet there
with_handled : (limits : Limits) (c : Client) (s : Story) (κ : ClientConnection) (others : List ClientConnection) (packet : Packet) → s.connections ≡ κ ∷ others → s.keeper.is_open ≡ true
    → slice_get (put_to limits s.past κ.name) κ.handled ≡ Some packet → (l : Lingers limits c s) → Lingers limits c (with_side s others (packet_handled packet (record { keeper = s.keeper; connection = κ })))
with_handled limits c s κ others packet are opened next l =
    subst (λ (z : ClientConnection). Lingers limits c (with_side s others (packet_handled packet (side_of z)))) (sym one)
    (subst (λ (z : Side). Lingers limits c (with_side s others z)) (sym counted)
    (record {
      flags = l.flags;
      earlier = l.earlier;
      newest = (packet_handled packet before).connection;
      count = l.count;
      others = l.others;
      before = l.before;
      are = ap (λ rest. record (packet_handled packet before).connection { taken = l.count } ∷ rest) rest;
      frozen = frozen_goes limits c l.flags l.earlier s.keeper (packet_handled packet before).keeper l.newest (packet_handled packet before).connection l.before ((packet_handled packet before).connection ∷ l.before) l.frozen
          (receives l.newest l.before packet refl opened here) refl refl;
      since = subst (λ x. IsSince limits c s.past l.earlier x l.count l.others l.before) (sym (stays_handled packet before).name) l.since;
    }))
  where
    side_of : ClientConnection → Side
    side_of z = record { keeper = s.keeper; connection = z }

    before : Side
    before = record { keeper = s.keeper; connection = l.newest }

    both : κ ∷ others ≡ record l.newest { taken = l.count } ∷ l.others
    both = sym are ∙ l.are

    one : κ ≡ record l.newest { taken = l.count }
    one = cc

    rest : others ≡ l.others
    rest = cc

    counted : packet_handled packet (side_of (record l.newest { taken = l.count })) ≡ counting l.count (packet_handled packet before)
    counted = handled_counted l.count packet before

    here : slice_get (put_to limits l.earlier l.newest.name) l.newest.handled ≡ Some packet
    here = ap (λ put. slice_get put l.newest.handled) (sym l.since.put) ∙ ap (λ (z : ClientConnection). slice_get (put_to limits s.past z.name) z.handled) (sym one) ∙ next

-- ---- the events

pub lingers_goes : (limits : Limits) → IsSteady limits → (c : Client) (s t : Story) → IsLife limits c s → Lingers limits c s → StoryStep limits s t → IsInStep t → Lingers limits c t ⊎ Parts limits c t.past t.connections
lingers_goes limits steady c s t life l (takes i κ w stands next) step =
    inl (lingers_takes limits c s i κ w life l stands next
    (subst (λ (d : Client). AreWelcome (place_of limits s.past (command_of κ.name κ.taken w.packet) ∷ s.past) d (with_one_counted i s.connections)) life.keeper.client step))
lingers_goes limits steady c s t life l (others_take command other none) step =
    let mine = subst (λ (d : Client). names_client s.past d command → ⊥) life.keeper.client other in
    inl (lingers_other limits c s command life l (none_opened s.past c command (mark_of limits s.past command) mine) (none_of_head (is_packet_of command) s.connections l.newest l.count l.others l.are none))
lingers_goes limits steady c s t life l (receives κ others packet are opened next) step = inl (with_handled limits c s κ others packet are opened next l)
lingers_goes limits steady c s t life l (opens_anew x fresh none uncounted) step =
    let κ = new_connection s.keeper.client x in
    inr (record {
      none = l.since.none;
      begun = l.since.begun;
      head = unopened s.past c x uncounted;
      all = λ start. accepts_same limits c s.past s.past s.connections (κ ∷ s.connections) start refl (accepted_new s.past c start κ s.connections refl) (lingers_accepts limits steady c s l start);
    })
lingers_goes limits steady c s t life l loses step =
    inl (with_keeper limits c s (lost s.keeper) l (frozen_goes limits c l.flags l.earlier s.keeper (lost s.keeper) l.newest l.newest l.before (l.newest ∷ l.before) l.frozen loses refl refl))
lingers_goes limits steady c s t life l disconnects step = inl (by s.keeper.is_online refl)
  where
    more : List Written
    more = plain packets.Disconnect ∷ []

    P : Bool → Type 0
    P b = Lingers limits c (with_connections s.past (lost s.keeper) (if b then writes_first more s.connections else s.connections))

    by : (b : Bool) → s.keeper.is_online ≡ b → P b
    by true e =
        with_written limits c s (lost s.keeper) more l
        (frozen_goes limits c l.flags l.earlier s.keeper (lost s.keeper) l.newest (record l.newest { written = l.newest.written ++ more }) l.before
        (if s.keeper.is_online then writes_first more (l.newest ∷ l.before) else (l.newest ∷ l.before)) l.frozen disconnects refl
        (ap (λ b. if b then writes_first more (l.newest ∷ l.before) else (l.newest ∷ l.before)) e))
    by false e =
        with_keeper limits c s (lost s.keeper) l (frozen_goes limits c l.flags l.earlier s.keeper (lost s.keeper) l.newest l.newest l.before (l.newest ∷ l.before) l.frozen loses refl refl)
lingers_goes limits steady c s t life l (publishes_one p needs) step =
    inl (with_written limits c s t.keeper (written_for p s.keeper) l
    (frozen_goes limits c l.flags l.earlier s.keeper t.keeper l.newest (record l.newest { written = l.newest.written ++ written_for p s.keeper }) l.before
    (writes_first (written_for p s.keeper) (l.newest ∷ l.before)) l.frozen (publishes_one p needs) refl refl))
lingers_goes limits steady c s t life l (subscribes p on id) step =
    inl (with_written limits c s t.keeper (plain (packets.Subscribe p) ∷ []) l
    (frozen_goes limits c l.flags l.earlier s.keeper t.keeper l.newest (record l.newest { written = l.newest.written ++ plain (packets.Subscribe p) ∷ [] }) l.before
    (writes_first (plain (packets.Subscribe p) ∷ []) (l.newest ∷ l.before)) l.frozen (subscribes p on id) refl refl))
lingers_goes limits steady c s t life l (unsubscribes p on id) step =
    inl (with_written limits c s t.keeper (plain (packets.Unsubscribe p) ∷ []) l
    (frozen_goes limits c l.flags l.earlier s.keeper t.keeper l.newest (record l.newest { written = l.newest.written ++ plain (packets.Unsubscribe p) ∷ [] }) l.before
    (writes_first (plain (packets.Unsubscribe p) ∷ []) (l.newest ∷ l.before)) l.frozen (unsubscribes p on id) refl refl))
