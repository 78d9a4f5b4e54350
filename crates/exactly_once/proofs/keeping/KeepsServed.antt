-- The row of shape that a client that was served has a session, and it is not clean, is kept by every event.
use Rattle.std.proofs.Common.{◌≡◌, ℕ, zero, suc, true, false, List, [], ◌∷◌, Some, sym, subst, ◌⊎◌, inl, inr}
use Rattle.std.specs.Prelude.{slice_get}
use Rattle.packet.specs.declared.packet.Packet.{Packet}
use Rattle.broker_spec.specs.Place.{Client, Limits}
use Rattle.broker_spec.specs.Sessions.{clean_session_of}
use Rattle.broker_spec.specs.Commands.{place_of}
use Rattle.lists.specs.Lists.{Each}
use Rattle.exactly_once.specs.Sends.{put_to}
use Rattle.exactly_once.specs.Sides.{Side}
use Rattle.exactly_once.specs.Story.{Story, StoryStep}
use Rattle.exactly_once.specs.StoryCommands.{command_of}
use Rattle.exactly_once.specs.Story.StoryStep.{takes, others_take, receives, opens_anew, loses, disconnects, publishes_one, subscribes, unsubscribes}
use Rattle.exactly_once.specs.Inside.Shape.{IsMeant, AreWelcomed, IsSoundStory}
use Rattle.exactly_once.proofs.publishing.kept.KeepsNames.{events_keep_session}
use Rattle.exactly_once.proofs.subscribing.Given.{stays_handled}
use Rattle.exactly_once.proofs.keeping.Settled.{IsWelcome, served_handled}
use Rattle.exactly_once.proofs.keeping.Welcomed.{still_there}
use Rattle.exactly_once.proofs.places.Spared.{taken_spares, other_spares}

-- it holds for the one that is there
pub packet_at : (P : Packet → Type 0) (xs : List Packet) (n : ℕ) (x : Packet) → Each P xs → slice_get xs n ≡ Some x → P x
packet_at P [] n x h e = absurd (cc)
packet_at P (y ∷ xs) zero x h e = let f : y ≡ x = cc in subst P f h.0
packet_at P (y ∷ xs) (suc n) x h e = packet_at P xs n x h.1 e

-- the row is kept
pub events_keep_served : (limits : Limits) (s t : Story) → IsSoundStory limits s → AreWelcomed limits s.past s.keeper.client s.connections → StoryStep limits s t
    → t.keeper.was_served ≡ true → clean_session_of t.past t.keeper.client ≡ Some false
events_keep_served limits s t sound h (takes i κ w stands next) e =
    still_there (place_of limits s.past (command_of κ.name κ.taken w.packet)) s.past s.keeper.client (inl (taken_spares κ.name κ.taken w.packet s.keeper.client)) (sound.shape.served e) (events_keep_session limits s t sound (takes i κ w stands next))
events_keep_served limits s t sound h (others_take command other none) e =
    still_there (place_of limits s.past command) s.past s.keeper.client (other_spares s.past s.keeper.client command other) (sound.shape.served e) (events_keep_session limits s t sound (others_take command other none))
events_keep_served limits s t sound h (receives κ others packet are opened next) e =
    let side : Side = record { keeper = s.keeper; connection = κ } in
    subst (λ (c : Client). clean_session_of s.past c ≡ Some false) (sym (stays_handled packet side).client) (by (served_handled packet side e))
  where
    by : (s.keeper.was_served ≡ true) ⊎ IsWelcome packet → clean_session_of s.past s.keeper.client ≡ Some false
    by (inl f) = sound.shape.served f
    by (inr f) =
        let mine = (subst (AreWelcomed limits s.past s.keeper.client) are h).0 in
        packet_at (IsMeant s.keeper.client s.past) (put_to limits s.past κ.name) κ.handled packet mine next f.0 f.1
events_keep_served limits s t sound h (opens_anew x fresh none uncounted) e = sound.shape.served e
events_keep_served limits s t sound h loses e = sound.shape.served e
events_keep_served limits s t sound h disconnects e = sound.shape.served e
events_keep_served limits s t sound h (publishes_one p needs) e = sound.shape.served e
events_keep_served limits s t sound h (subscribes p on id) e = sound.shape.served e
events_keep_served limits s t sound h (unsubscribes p on id) e = sound.shape.served e
