-- The invariant of every world that a group reaches: its messages, nodes and outputs.
use Rattle.std.specs.Prelude.{ℕ, ◌+◌, ◌<◌, ◌≤◌, ◌≡◌, ◌⊎◌, List, length, take, slice_get, Some}
use Rattle.std.specs.List.{flat_map}
use Rattle.machine.specs.Machine.{Rules}
use Rattle.agreement.specs.whole_logs.Messages.{Message}
use Rattle.agreement.specs.whole_logs.Replica.{ReplicaState}
use Rattle.agreement.specs.whole_logs.Application.{outputs_between}
use Rattle.agreement.specs.World.{GroupWorld, outputs}
use Rattle.lists.specs.Lists.{In, IsPrefixOf}
use Rattle.agreement.specs.Inside.Ballots.{Given, Line, History, Acknowledged, IsChosenIn}
use Rattle.agreement.specs.Inside.BallotsStand.{AreBallots, BallotListsStand}
use Rattle.agreement.specs.Inside.SoundNodes.{IsSoundNode}
use Rattle.agreement.specs.LeftOutputs.{AreInOrder, Segment}
use Rattle.agreement.specs.Inside.MessageMeaning.{SpeaksTruth}

-- the outputs that left belong to segments in order, each a part of what is chosen in its ballot
pub record LeftIs {S C O : Type 0} (rules : Rules S C O) (world : GroupWorld S C O)
    (history : History C) : Type 0 where
  pub segments : List Segment
  pub left : (agreed : List C) → ((ballot places : ℕ) (line : Line C) →
      In ballot history.activated → history.line ballot ≡ Some line →
      IsChosenIn world history ballot places → IsPrefixOf (take places line.list) agreed) →
      world.left ≡ flat_map
      (λ segment. outputs (outputs_between rules agreed segment.first segment.end)) segments
  pub chosen : (segment : Segment) → In segment segments →
      In segment.ballot history.activated × (segment.first < segment.end)
      × IsChosenIn world history segment.ballot segment.end
      × ((line : Line C) × (history.line segment.ballot ≡ Some line)
      × (length line.base ≤ segment.first))
  pub applied : (segment : Segment) → In segment segments → (given : Given) →
      history.given segment.ballot ≡ Some given → (node : ℕ) → given.primary ≡ node + 1 →
      (replica : ReplicaState S C) → slice_get world.nodes node ≡ Some replica →
      segment.end ≤ replica.committed
  pub in_order : AreInOrder segments

-- a world satisfies the invariant
pub record IsSoundWorld {S C O : Type 0} (rules : Rules S C O) (world : GroupWorld S C O)
    (history : History C) : Type 0 where
  pub ballots : AreBallots history
  pub lines : BallotListsStand world history
  pub within : (member ballot places : ℕ) → Acknowledged world history member ballot places →
      (places ≡ 0) ⊎ ((line : Line C) × (history.line ballot ≡ Some line)
      × (places ≤ length line.list))
  pub said : (to : ℕ) (message : Message C) → In (to, message) world.sent →
      SpeaksTruth world history to message.from message.body
  pub nodes : (node : ℕ) (replica : ReplicaState S C) → slice_get world.nodes node ≡ Some replica →
      IsSoundNode world history node replica
  pub left : LeftIs rules world history
