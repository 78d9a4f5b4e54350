-- No event changes which publications the places of the list carry.
use Rattle.std.proofs.Common.{Bool, true, false, if◌then◌else◌, List, [], ◌∷◌, refl, sym, subst, ◌≤◌, length}
use Rattle.packet.specs.declared.packet.Packet.TheVariants as packets
use Rattle.broker_spec.specs.Place.{Past, Limits}
use Rattle.lists.specs.Lists.{Each}
use Rattle.client_base.specs.Keeper.{Written}
use Rattle.client_base.specs.Written.{plain, writes, writes_first}
use Rattle.client_base.specs.Called.{written_for}
use Rattle.client_base.specs.Connected.{new_connection}
use Rattle.client_base.specs.Handled.{packet_handled}
use Rattle.exactly_once.specs.Sides.{ClientConnection}
use Rattle.exactly_once.specs.Story.{Story, StoryStep}
use Rattle.exactly_once.specs.StoryCommands.{packet_count}
use Rattle.exactly_once.specs.Story.StoryStep.{takes, others_take, receives, opens_anew, loses, disconnects, publishes_one, subscribes, unsubscribes}
use Rattle.exactly_once.specs.Inside.Shape.{HasShape}
use Rattle.exactly_once.specs.Inside.ConnectionShape.{ConnectionInShape}
use Rattle.exactly_once.proofs.publishing.First.{counted_within}
use Rattle.exactly_once.proofs.publishing.Grown.{handled_grows}
use Rattle.exactly_once.proofs.publishing.kept.Numbers.{SameNumbers, same_written, same_counted, same_opened}
use Rattle.lists.proofs.OfEach.{each_then}

-- nothing changes
pub same_itself : (past : Past) (connections : List ClientConnection) → SameNumbers connections connections past
same_itself past connections x j less = refl

-- the packets that are taken are among those written
abbrev pub AreWithin : Past → List ClientConnection → Type 0
AreWithin past = Each (λ (κ : ClientConnection). packet_count κ.name past ≤ length κ.written)

-- more is written on the newest one
pub first_written : (past : Past) (connections : List ClientConnection) (more : List Written) → AreWithin past connections → SameNumbers connections (writes_first more connections) past
first_written past [] more within = same_itself past []
first_written past (κ ∷ others) more within = same_written past κ (writes more κ) others more refl refl within.0

pub numbers_keep : (limits : Limits) (s t : Story) → AreWithin s.past s.connections → StoryStep limits s t → SameNumbers s.connections t.connections s.past
numbers_keep limits s t within (takes i κ w stands next) = same_counted s.past i s.connections
numbers_keep limits s t within (others_take command other none) = same_itself s.past s.connections
numbers_keep limits s t within (receives κ others packet are opened next) =
    let mine = subst (AreWithin s.past) are within in
    let after = (packet_handled packet (record { keeper = s.keeper; connection = κ })).connection in
    let grown = handled_grows κ s.keeper packet in
    subst (λ (cs : List ClientConnection). SameNumbers cs (after ∷ others) s.past) (sym are) (same_written s.past κ after others grown.more grown.name grown.written mine.0)
numbers_keep limits s t within (opens_anew x fresh none uncounted) = same_opened s.past (new_connection s.keeper.client x) s.connections uncounted
numbers_keep limits s t within loses = same_itself s.past s.connections
numbers_keep limits s t within disconnects = by s.keeper.is_online
  where
    by : (b : Bool) → SameNumbers s.connections (if b then writes_first (plain packets.Disconnect ∷ []) s.connections else s.connections) s.past
    by true = first_written s.past s.connections (plain packets.Disconnect ∷ []) within
    by false = same_itself s.past s.connections
numbers_keep limits s t within (publishes_one p needs) = first_written s.past s.connections (written_for p s.keeper) within
numbers_keep limits s t within (subscribes p on id) = first_written s.past s.connections (plain (packets.Subscribe p) ∷ []) within
numbers_keep limits s t within (unsubscribes p on id) = first_written s.past s.connections (plain (packets.Unsubscribe p) ∷ []) within

-- so in every story
pub shape_within : (limits : Limits) (s : Story) → HasShape limits s → AreWithin s.past s.connections
shape_within limits s shape =
    each_then (ConnectionInShape limits s.past s.keeper.client) (λ (κ : ClientConnection). packet_count κ.name s.past ≤ length κ.written) s.connections (λ κ. counted_within limits s.past s.keeper κ) shape.connections

pub events_keep_numbers : (limits : Limits) (s t : Story) → HasShape limits s → StoryStep limits s t → SameNumbers s.connections t.connections s.past
events_keep_numbers limits s t shape = numbers_keep limits s t (shape_within limits s shape)
