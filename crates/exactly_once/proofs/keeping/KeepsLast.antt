-- The row of shape that the current connection is the last confirmed one, or an unconfirmed one, is kept by every event.
use Rattle.std.proofs.Common.{Bool, true, false, if◌then◌else◌, [], ◌∷◌, refl, sym, subst}
use Rattle.packet.specs.declared.packet.Packet.TheVariants as packets
use Rattle.broker_spec.specs.Place.{Client, Limits}
use Rattle.broker_spec.specs.Sessions.{current_connection}
use Rattle.broker_spec.specs.Marks.{mark_of}
use Rattle.broker_spec.specs.Commands.{place_of}
use Rattle.lists.specs.Lists.{Each}
use Rattle.exactly_once.specs.Sends.{put_to}
use Rattle.exactly_once.specs.Sides.{Side}
use Rattle.client_base.specs.Written.{plain}
use Rattle.client_base.specs.Handled.{packet_handled}
use Rattle.exactly_once.specs.Story.{Story, StoryStep}
use Rattle.client_base.specs.Called.{written_for}
use Rattle.client_base.specs.Connected.{new_connection}
use Rattle.client_base.specs.Written.{writes_first}
use Rattle.exactly_once.specs.Story.StoryStep.{takes, others_take, receives, opens_anew, loses, disconnects, publishes_one, subscribes, unsubscribes}
use Rattle.exactly_once.specs.Inside.Shape.{LastIsCurrent, NewestIsServed, NamesApart, HasShape, IsSoundStory}
use Rattle.exactly_once.specs.Inside.ConnectionShape.{ConnectionInShape}
use Rattle.exactly_once.proofs.subscribing.Newest.{stays_or_none}
use Rattle.exactly_once.proofs.subscribing.Given.{stays_handled}
use Rattle.exactly_once.proofs.keeping.CurrentOnes.{IsTopOne, top_one, last_one, top_stays, none_opened, one_written, one_taken, one_handled, some_taken, one_new}

-- said from the newest connection on
keeps_top : (limits : Limits) (s t : Story) → HasShape limits s → StoryStep limits s t → IsTopOne (current_connection t.past t.keeper.client) t.connections
keeps_top limits s t shape h = by h (top_one (current_connection s.past s.keeper.client) s.connections shape.names_apart shape.last_is_current)
  where
    by : {t : Story} → StoryStep limits s t → IsTopOne (current_connection s.past s.keeper.client) s.connections → IsTopOne (current_connection t.past t.keeper.client) t.connections
    by (takes i κ w stands next) g = one_taken limits s shape g i κ w stands next
    by (others_take command other none) g =
        top_stays (current_connection s.past s.keeper.client) (current_connection (place_of limits s.past command ∷ s.past) s.keeper.client) s.connections g
        (stays_or_none (place_of limits s.past command) s.past s.keeper.client (none_opened s.past s.keeper.client command (mark_of limits s.past command) other))
    by (receives κ others packet are opened next) g =
        let side : Side = record { keeper = s.keeper; connection = κ } in
        let st = stays_handled packet side in
        let of_first = (subst (Each (ConnectionInShape limits s.past s.keeper.client)) are shape.connections).0 in
        let current = current_connection s.past s.keeper.client in
        subst (λ (c : Client). IsTopOne (current_connection s.past c) ((packet_handled packet side).connection ∷ others)) (sym st.client)
        (one_handled current κ (packet_handled packet side).connection others (subst NamesApart are shape.names_apart) st.name
        (some_taken κ.taken (put_to limits s.past κ.name) κ.handled packet of_first.connack_first next)
        (subst (NewestIsServed current) are shape.newest_is_served) (subst (IsTopOne current) are g))
    by (opens_anew x fresh none uncounted) g = one_new (current_connection s.past s.keeper.client) (new_connection s.keeper.client x) s.connections refl g
    by loses g = g
    by disconnects g = either s.keeper.is_online
      where
        either : (b : Bool) → IsTopOne (current_connection s.past s.keeper.client) (if b then writes_first (plain packets.Disconnect ∷ []) s.connections else s.connections)
        either true = one_written (current_connection s.past s.keeper.client) (plain packets.Disconnect ∷ []) s.connections g
        either false = g
    by (publishes_one p needs) g = one_written (current_connection s.past s.keeper.client) (written_for p s.keeper) s.connections g
    by (subscribes p on id) g = one_written (current_connection s.past s.keeper.client) (plain (packets.Subscribe p) ∷ []) s.connections g
    by (unsubscribes p on id) g = one_written (current_connection s.past s.keeper.client) (plain (packets.Unsubscribe p) ∷ []) s.connections g

-- the row is kept
pub events_keep_last : (limits : Limits) (s t : Story) → IsSoundStory limits s → StoryStep limits s t → LastIsCurrent (current_connection t.past t.keeper.client) t.connections
events_keep_last limits s t sound h = last_one (current_connection t.past t.keeper.client) t.connections (keeps_top limits s t sound.shape h)
