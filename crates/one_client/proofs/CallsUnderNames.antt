-- A client calls whatever the names of its connections are.
use Rattle.std.proofs.Common.{◌≡◌, Bool, true, false, if◌then◌else◌, List, [], ◌∷◌, ◌++◌, length, refl, ap, ◌∙◌}
use Rattle.packet.specs.declared.packet.Packet.TheVariants as packets
use Rattle.session_base.specs.declared.publication.Publication.{Publication}
use Rattle.broker_spec.specs.Commands.{usual_limits}
use Rattle.broker_spec.specs.Connection.{ConnectionName}
use Rattle.client_base.specs.Called.{adds_own, written_for}
use Rattle.client_base.specs.Handled.{lost}
use Rattle.client_base.specs.Keeper.{Written}
use Rattle.client_base.specs.Written.{plain, writes_first}
use Rattle.client_base.specs.declared.request.Request.TheVariants as requests
use Rattle.exactly_once.specs.Acceptance.{accepted_on}
use Rattle.exactly_once.specs.Sides.{ClientConnection}
use Rattle.exactly_once.specs.Story.{StoryStep, Story}
use Rattle.exactly_once.specs.Story.StoryStep.{takes, others_take, receives, opens_anew, loses, disconnects, publishes_one, subscribes, unsubscribes}
use Rattle.headline.specs.packet_world.Steps.{is_call}
use Rattle.headline.specs.byte_world.Published.{published_by_call}
use Rattle.headline.specs.byte_world.World.{newly_written}
use Rattle.headline.proofs.of_byte_world.WorldsKeep.{call_writes}
use Rattle.one_client.specs.Ports.{under_names}

-- ---- what is written

written_under : (more : List Written) (connections : List ClientConnection) (names : List ConnectionName) → writes_first more (under_names connections names) ≡ under_names (writes_first more connections) names
written_under more [] names = refl
written_under more (κ ∷ connections) [] = refl
written_under more (κ ∷ connections) (x ∷ names) = refl

if_written : (online : Bool) (more : List Written) (connections : List ClientConnection) (names : List ConnectionName)
    → (if online then writes_first more (under_names connections names) else under_names connections names) ≡ under_names (if online then writes_first more connections else connections) names
if_written true more connections names = written_under more connections names
if_written false more connections names = refl

pub newly_under : (before after : List ClientConnection) (names : List ConnectionName) → newly_written (under_names before names) (under_names after names) ≡ newly_written before after
newly_under [] after names = refl
newly_under (κ ∷ before) [] [] = refl
newly_under (κ ∷ before) [] (x ∷ names) = refl
newly_under (κ ∷ before) (μ ∷ after) [] = refl
newly_under (κ ∷ before) (μ ∷ after) (x ∷ names) = refl

pub accepted_under : (connections : List ClientConnection) (names : List ConnectionName) → accepted_on (under_names connections names) ≡ accepted_on connections
accepted_under [] names = refl
accepted_under (κ ∷ connections) [] = refl
accepted_under (κ ∷ connections) (x ∷ names) = ap (λ l. l ++ κ.accepted) (accepted_under connections names)

-- ---- as many connections

long_written : (more : List Written) (connections : List ClientConnection) → length (writes_first more connections) ≡ length connections
long_written more [] = refl
long_written more (κ ∷ connections) = refl

pub call_long : (s t : Story) (h : StoryStep usual_limits s t) → is_call h ≡ true → length t.connections ≡ length s.connections
call_long s t h is = let new = call_writes h is in ap length new.1 ∙ long_written new.0 s.connections

-- ---- the call

abbrev pub story_under : List ConnectionName → Story → Story
story_under names s = record s { connections = under_names s.connections names }

-- the same call under other names
pub record CallUnder (names : List ConnectionName) (s t : Story) (publishes : List Publication) : Type 0 where
  pub after : Story
  pub happens : StoryStep usual_limits (story_under names s) after
  pub is : is_call happens ≡ true
  pub keeper : after.keeper ≡ t.keeper
  pub connections : after.connections ≡ under_names t.connections names
  pub published : published_by_call happens ≡ publishes

pub call_under : (names : List ConnectionName) (s t : Story) (h : StoryStep usual_limits s t) → is_call h ≡ true → CallUnder names s t (published_by_call h)
call_under names s t (takes i κ w stands next) is = cc
call_under names s t (others_take command other none) is = cc
call_under names s t (receives κ others packet are opened next) is = cc
call_under names s t (opens_anew x fresh none uncounted) is = cc
call_under names s t loses is =
    record {
      after = record (story_under names s) { keeper = lost s.keeper };
      happens = loses;
      is = refl;
      keeper = refl;
      connections = refl;
      published = refl;
    }
call_under names s t disconnects is =
    record {
      after = record {
        past = s.past;
        connections = if s.keeper.is_online then writes_first (plain packets.Disconnect ∷ []) (under_names s.connections names) else under_names s.connections names;
        keeper = lost s.keeper;
      };
      happens = disconnects;
      is = refl;
      keeper = refl;
      connections = if_written s.keeper.is_online (plain packets.Disconnect ∷ []) s.connections names;
      published = refl;
    }
call_under names s t (publishes_one p needs) is =
    record {
      after = record {
        past = s.past;
        connections = writes_first (written_for p s.keeper) (under_names s.connections names);
        keeper = adds_own p s.keeper;
      };
      happens = publishes_one p needs;
      is = refl;
      keeper = refl;
      connections = written_under (written_for p s.keeper) s.connections names;
      published = refl;
    }
call_under names s t (subscribes p on id) is =
    record {
      after = record {
        past = s.past;
        connections = writes_first (plain (packets.Subscribe p) ∷ []) (under_names s.connections names);
        keeper = record s.keeper { requests = s.keeper.requests ++ requests.Subscribes p.id ∷ [] };
      };
      happens = subscribes p on id;
      is = refl;
      keeper = refl;
      connections = written_under (plain (packets.Subscribe p) ∷ []) s.connections names;
      published = refl;
    }
call_under names s t (unsubscribes p on id) is =
    record {
      after = record {
        past = s.past;
        connections = writes_first (plain (packets.Unsubscribe p) ∷ []) (under_names s.connections names);
        keeper = record s.keeper { requests = s.keeper.requests ++ requests.Unsubscribes p.id ∷ [] };
      };
      happens = unsubscribes p on id;
      is = refl;
      keeper = refl;
      connections = written_under (plain (packets.Unsubscribe p) ∷ []) s.connections names;
      published = refl;
    }
