-- A client calls whatever is counted as taken of what it wrote, and whatever the list of commands is.
use Rattle.std.proofs.Common.{◌≡◌, Bool, true, false, if◌then◌else◌, List, [], ◌∷◌, ◌++◌, map, refl, ap, sym, ◌∙◌, subst}
use Rattle.packet.specs.declared.packet.Packet.TheVariants as packets
use Rattle.broker_spec.specs.Place.{Limits, Past}
use Rattle.client_base.specs.Called.{adds_own, written_for}
use Rattle.client_base.specs.Handled.{lost}
use Rattle.client_base.specs.Keeper.{Keeper, Written}
use Rattle.client_base.specs.Written.{plain, writes_first}
use Rattle.client_base.specs.declared.request.Request.TheVariants as requests
use Rattle.exactly_once.specs.Sides.{ClientConnection}
use Rattle.exactly_once.specs.Story.{StoryStep, Story}
use Rattle.exactly_once.specs.Story.StoryStep.{takes, others_take, receives, opens_anew, loses, disconnects, publishes_one, subscribes, unsubscribes}
use Rattle.headline.specs.packet_world.Steps.{is_call}
use Rattle.headline.proofs.Untaken.{AreSameUntaken, untaken_connection}

-- ---- what is written on the newest connection

written_untaken : (more : List Written) (connections : List ClientConnection) → map untaken_connection (writes_first more connections) ≡ writes_first more (map untaken_connection connections)
written_untaken more [] = refl
written_untaken more (κ ∷ connections) = refl

-- on two lists of connections
pub same_written : (more : List Written) (connections others : List ClientConnection) → AreSameUntaken connections others
    → AreSameUntaken (writes_first more connections) (writes_first more others)
same_written more connections others same = written_untaken more connections ∙ ap (writes_first more) same ∙ sym (written_untaken more others)

-- what is written may come after a test
if_written : (online : Bool) (more : List Written) (connections others : List ClientConnection) → AreSameUntaken connections others
    → AreSameUntaken (if online then writes_first more connections else connections) (if online then writes_first more others else others)
if_written true more connections others same = same_written more connections others same
if_written false more connections others same = same

-- ---- the call

-- the same call of another story
pub record SameCall (limits : Limits) (s t : Story) : Type 0 where
  pub after : Story
  pub happens : StoryStep limits s after
  pub is : is_call happens ≡ true
  pub past : after.past ≡ s.past
  pub keeper : after.keeper ≡ t.keeper
  pub connections : AreSameUntaken after.connections t.connections

-- of a story with the same keeper
called : (limits : Limits) (past : Past) (connections : List ClientConnection) (s t : Story) (h : StoryStep limits s t) → is_call h ≡ true → AreSameUntaken connections s.connections
    → SameCall limits (record { past = past; connections = connections; keeper = s.keeper }) t
called limits past connections s t (takes i κ w stands next) is same = cc
called limits past connections s t (others_take command other none) is same = cc
called limits past connections s t (receives κ others packet are opened next) is same = cc
called limits past connections s t (opens_anew x fresh none uncounted) is same = cc
called limits past connections s t loses is same =
    record {
      after = record { past = past; connections = connections; keeper = lost s.keeper };
      happens = loses;
      is = refl;
      past = refl;
      keeper = refl;
      connections = same;
    }
called limits past connections s t disconnects is same =
    record {
      after = record {
        past = past;
        connections = if s.keeper.is_online then writes_first (plain packets.Disconnect ∷ []) connections else connections;
        keeper = lost s.keeper;
      };
      happens = disconnects;
      is = refl;
      past = refl;
      keeper = refl;
      connections = if_written s.keeper.is_online (plain packets.Disconnect ∷ []) connections s.connections same;
    }
called limits past connections s t (publishes_one p needs) is same =
    record {
      after = record { past = past; connections = writes_first (written_for p s.keeper) connections; keeper = adds_own p s.keeper };
      happens = publishes_one p needs;
      is = refl;
      past = refl;
      keeper = refl;
      connections = same_written (written_for p s.keeper) connections s.connections same;
    }
called limits past connections s t (subscribes p on id) is same =
    record {
      after = record {
        past = past;
        connections = writes_first (plain (packets.Subscribe p) ∷ []) connections;
        keeper = record s.keeper { requests = s.keeper.requests ++ requests.Subscribes p.id ∷ [] };
      };
      happens = subscribes p on id;
      is = refl;
      past = refl;
      keeper = refl;
      connections = same_written (plain (packets.Subscribe p) ∷ []) connections s.connections same;
    }
called limits past connections s t (unsubscribes p on id) is same =
    record {
      after = record {
        past = past;
        connections = writes_first (plain (packets.Unsubscribe p) ∷ []) connections;
        keeper = record s.keeper { requests = s.keeper.requests ++ requests.Unsubscribes p.id ∷ [] };
      };
      happens = unsubscribes p on id;
      is = refl;
      past = refl;
      keeper = refl;
      connections = same_written (plain (packets.Unsubscribe p) ∷ []) connections s.connections same;
    }

pub same_call : (limits : Limits) (s t other : Story) (h : StoryStep limits s t) → is_call h ≡ true → other.keeper ≡ s.keeper → AreSameUntaken other.connections s.connections
    → SameCall limits other t
same_call limits s t other h is keeper same =
    subst (λ (k : Keeper). SameCall limits (record { past = other.past; connections = other.connections; keeper = k }) t) (sym keeper)
    (called limits other.past other.connections s t h is same)
