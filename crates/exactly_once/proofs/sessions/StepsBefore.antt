-- A client that is in step at the end was in step all along.
use Rattle.std.proofs.Common.{◌≡◌, ℕ, zero, suc, Bool, true, false, ◌&&◌, ◌||◌, if◌then◌else◌, List, [], ◌∷◌, refl, sym, subst}
use Rattle.lists.specs.Lists.{Each}
use Rattle.packet.specs.declared.packet.Packet.TheVariants as packets
use Rattle.broker_spec.specs.Connection.{ConnectionName}
use Rattle.broker_spec.specs.Place.{Client, Place, Past, Limits}
use Rattle.broker_spec.specs.Sessions.{accepts, begins}
use Rattle.broker_spec.specs.Commands.{place_of}
use Rattle.broker_spec.specs.declared.command.Command.TheVariants as commands
use Rattle.client_base.specs.Keeper.{Written}
use Rattle.client_base.specs.Called.{written_for}
use Rattle.client_base.specs.Written.{plain, writes_first}
use Rattle.exactly_once.specs.Sides.{ClientConnection, Side}
use Rattle.exactly_once.specs.Story.{Story, StoryStep}
use Rattle.exactly_once.specs.StoryCommands.{command_of, with_one_counted}
use Rattle.exactly_once.specs.Story.StoryStep.{takes, others_take, receives, opens_anew, loses, disconnects, publishes_one, subscribes, unsubscribes}
use Rattle.exactly_once.specs.InStep.{opens_on, has_begun, began_again, WasWelcome, AreWelcome, IsInStep}
use Rattle.exactly_once.proofs.subscribing.Given.{stays_handled}

or_there : (a b : Bool) → b ≡ true → (a || b) ≡ true
or_there true b e = refl
or_there false b e = e

-- a Connect that began a session did so in every later past
pub began_stays : (place : Place) (past : Past) (c : Client) (x : ConnectionName) → began_again past c x ≡ true → began_again (place ∷ past) c x ≡ true
began_stays place past c x e = or_there (opens_on x (accepts place.command place.mark c) && (begins place past c && has_begun past c)) (began_again past c x) e

-- one place earlier
below_all : (place : Place) (past : Past) (c : Client) (connections : List ClientConnection) → Each (WasWelcome (place ∷ past) c) connections → Each (WasWelcome past c) connections
below_all place past c [] h = tt
below_all place past c (κ ∷ connections) h = (λ e. h.0 (began_stays place past c κ.name e), below_all place past c connections h.1)

pub below_welcome : (place : Place) (past : Past) (c : Client) (connections : List ClientConnection) → AreWelcome (place ∷ past) c connections → AreWelcome past c connections
below_welcome place past c [] h = tt
below_welcome place past c (κ ∷ connections) h = below_all place past c connections h

-- one packet fewer is taken
fewer_all : (past : Past) (c : Client) (i : ℕ) (connections : List ClientConnection) → Each (WasWelcome past c) (with_one_counted i connections) → Each (WasWelcome past c) connections
fewer_all past c i [] h = tt
fewer_all past c zero (κ ∷ connections) h = (h.0, h.1)
fewer_all past c (suc i) (κ ∷ connections) h = (h.0, fewer_all past c i connections h.1)

fewer_welcome : (past : Past) (c : Client) (i : ℕ) (connections : List ClientConnection) → AreWelcome past c (with_one_counted i connections) → AreWelcome past c connections
fewer_welcome past c i [] h = tt
fewer_welcome past c zero (κ ∷ connections) h = h
fewer_welcome past c (suc i) (κ ∷ connections) h = fewer_all past c i connections h

-- less is written
unwritten_welcome : (past : Past) (c : Client) (more : List Written) (connections : List ClientConnection) → AreWelcome past c (writes_first more connections) → AreWelcome past c connections
unwritten_welcome past c more [] h = tt
unwritten_welcome past c more (κ ∷ connections) h = h

-- a connection fewer is opened
unopened_welcome : (past : Past) (c : Client) (connections : List ClientConnection) → Each (WasWelcome past c) connections → AreWelcome past c connections
unopened_welcome past c [] h = tt
unopened_welcome past c (κ ∷ connections) h = h.1

-- an event keeps who is out of step out of step
pub in_step_before : (limits : Limits) (s t : Story) → StoryStep limits s t → IsInStep t → IsInStep s
in_step_before limits s t (takes i κ w stands next) h =
    let place = place_of limits s.past (command_of κ.name κ.taken w.packet) in
    below_welcome place s.past s.keeper.client s.connections (fewer_welcome (place ∷ s.past) s.keeper.client i s.connections h)
in_step_before limits s t (others_take command other none) h = below_welcome (place_of limits s.past command) s.past s.keeper.client s.connections h
in_step_before limits s t (receives κ others packet are opened next) h =
    subst (AreWelcome s.past s.keeper.client) (sym are)
    (subst (λ (c : Client). Each (WasWelcome s.past c) others) (stays_handled packet (let side : Side = record { keeper = s.keeper; connection = κ } in side)).client h)
in_step_before limits s t (opens_anew x fresh none uncounted) h = unopened_welcome s.past s.keeper.client s.connections h
in_step_before limits s t loses h = h
in_step_before limits s t disconnects h = by s.keeper.is_online h
  where
    by : (b : Bool) → AreWelcome s.past s.keeper.client (if b then writes_first (plain packets.Disconnect ∷ []) s.connections else s.connections) → AreWelcome s.past s.keeper.client s.connections
    by true g = unwritten_welcome s.past s.keeper.client (plain packets.Disconnect ∷ []) s.connections g
    by false g = g
in_step_before limits s t (publishes_one p needs) h = unwritten_welcome s.past s.keeper.client (written_for p s.keeper) s.connections h
in_step_before limits s t (subscribes p on id) h = unwritten_welcome s.past s.keeper.client (plain (packets.Subscribe p) ∷ []) s.connections h
in_step_before limits s t (unsubscribes p on id) h = unwritten_welcome s.past s.keeper.client (plain (packets.Unsubscribe p) ∷ []) s.connections h

-- an Expel does, too
pub in_step_expelled : (limits : Limits) (c : Client) (s : Story) → IsInStep (record s { past = place_of limits s.past (commands.Expel c) ∷ s.past }) → IsInStep s
in_step_expelled limits c s h = below_welcome (place_of limits s.past (commands.Expel c)) s.past s.keeper.client s.connections h
