-- What every world keeps, if a client calls.
use Rattle.std.proofs.Common.{◌≡◌, ℕ, Bool, true, false, if◌then◌else◌, List, [], ◌∷◌, Some, refl, sym, subst}
use Rattle.std.specs.Prelude.{slice_get}
use Rattle.std.proofs.lemmas.Bool.{both_ways}
use Rattle.packet.specs.declared.packet.Packet.TheVariants as packets
use Rattle.broker_spec.specs.Connection.{ConnectionName}
use Rattle.broker_spec.specs.Place.{Client, Past, Limits}
use Rattle.broker_spec.specs.Commands.{past_of, usual_limits}
use Rattle.broker_spec.specs.declared.command.Command.{Command}
use Rattle.client_base.specs.Keeper.{Written}
use Rattle.client_base.specs.Written.{plain, writes_first}
use Rattle.client_base.specs.Called.{written_for}
use Rattle.exactly_once.specs.Sides.{ClientConnection}
use Rattle.exactly_once.specs.Story.{Story, StoryStep}
use Rattle.exactly_once.specs.StoryCommands.{any_named}
use Rattle.exactly_once.specs.Lives.{Lived}
use Rattle.exactly_once.specs.Lives.Lived.{goes_on}
use Rattle.exactly_once.specs.Story.StoryStep.{takes, others_take, receives, opens_anew, loses, disconnects, publishes_one, subscribes, unsubscribes}
use Rattle.exactly_once.proofs.keeping.KeepsShape.{same_story}
use Rattle.headline.specs.packet_world.World.{End, ClientEnds, PacketWorld, story_of, with_client}
use Rattle.headline.specs.packet_world.Steps.{is_call}
use Rattle.headline.proofs.of_packet_world.Lists.{each_get}
use Rattle.headline.proofs.of_packet_world.Ends.{PipesHold, first_written}
use Rattle.headline.proofs.of_packet_world.Holds.{IsTold, HasPipes, Holds, keeps_party}

call_past : {limits : Limits} {s t : Story} (h : StoryStep limits s t) → is_call h ≡ true → t.past ≡ s.past
call_past (takes i κ w stands next) e = absurd (both_ways false refl e)
call_past (others_take command other none) e = absurd (both_ways false refl e)
call_past (receives κ others packet are opened next) e = absurd (both_ways false refl e)
call_past (opens_anew x fresh none uncounted) e = absurd (both_ways false refl e)
call_past loses e = refl
call_past disconnects e = refl
call_past (publishes_one p needs) e = refl
call_past (subscribes p on id) e = refl
call_past (unsubscribes p on id) e = refl

written_named : (test : ConnectionName → Bool) (more : List Written) (connections : List ClientConnection) → any_named test (writes_first more connections) ≡ any_named test connections
written_named test more [] = refl
written_named test more (κ ∷ connections) = refl

call_named : {limits : Limits} {s t : Story} (h : StoryStep limits s t) → is_call h ≡ true → (test : ConnectionName → Bool) → any_named test t.connections ≡ any_named test s.connections
call_named (takes i κ w stands next) e test = absurd (both_ways false refl e)
call_named (others_take command other none) e test = absurd (both_ways false refl e)
call_named (receives κ others packet are opened next) e test = absurd (both_ways false refl e)
call_named (opens_anew x fresh none uncounted) e test = absurd (both_ways false refl e)
call_named loses e test = refl
call_named {s = s} disconnects e test = by s.keeper.is_online
  where
    by : (b : Bool) → any_named test (if b then writes_first (plain packets.Disconnect ∷ []) s.connections else s.connections) ≡ any_named test s.connections
    by true = written_named test (plain packets.Disconnect ∷ []) s.connections
    by false = refl
call_named {s = s} (publishes_one p needs) e test = written_named test (written_for p s.keeper) s.connections
call_named {s = s} (subscribes p on id) e test = written_named test (plain (packets.Subscribe p) ∷ []) s.connections
call_named {s = s} (unsubscribes p on id) e test = written_named test (plain (packets.Unsubscribe p) ∷ []) s.connections

call_pipes : {limits : Limits} {s t : Story} (agreed : List Command) (ends : List End) (h : StoryStep limits s t) → is_call h ≡ true → PipesHold agreed s.connections ends → PipesHold agreed t.connections ends
call_pipes agreed ends (takes i κ w stands next) e p = absurd (both_ways false refl e)
call_pipes agreed ends (others_take command other none) e p = absurd (both_ways false refl e)
call_pipes agreed ends (receives κ others packet are opened next) e p = absurd (both_ways false refl e)
call_pipes agreed ends (opens_anew x fresh none uncounted) e p = absurd (both_ways false refl e)
call_pipes agreed ends loses e p = p
call_pipes {s = s} agreed ends disconnects e p = by s.keeper.is_online
  where
    by : (b : Bool) → PipesHold agreed (if b then writes_first (plain packets.Disconnect ∷ []) s.connections else s.connections) ends
    by true = first_written agreed s.connections ends (plain packets.Disconnect ∷ []) p
    by false = p
call_pipes {s = s} agreed ends (publishes_one q needs) e p = first_written agreed s.connections ends (written_for q s.keeper) p
call_pipes {s = s} agreed ends (subscribes q on id) e p = first_written agreed s.connections ends (plain (packets.Subscribe q) ∷ []) p
call_pipes {s = s} agreed ends (unsubscribes q on id) e p = first_written agreed s.connections ends (plain (packets.Unsubscribe q) ∷ []) p

pub keeps_call : (w : PacketWorld) (i : ℕ) (c : ClientEnds) (t : Story) (h : StoryStep usual_limits (story_of w.agreed c) t) → Holds w → slice_get w.clients i ≡ Some c → is_call h ≡ true
    → Holds (with_client i (record c { keeper = t.keeper; connections = t.connections }) w)
keeps_call w i c t h holds there' call =
    let later : ClientEnds = record c { keeper = t.keeper; connections = t.connections } in
    let s = story_of w.agreed c in
    let same = same_story usual_limits s t h in
    let told : Lived usual_limits c.keeper.client t = goes_on (each_get (IsTold w.agreed) w.clients i c holds.told there') h in
    let past : t.past ≡ past_of usual_limits w.agreed = call_past h call in
    keeps_party w i c later holds there'
    (subst (λ (d : Client). Lived usual_limits d (story_of w.agreed later)) (sym same)
    (subst (λ (p : Past). Lived usual_limits c.keeper.client (let z : Story = record t { past = p } in z)) past told))
    (call_pipes w.agreed c.ends h call (each_get (HasPipes w.agreed) w.clients i c holds.pipes there'))
    (record { client = same; names = call_named h call })
