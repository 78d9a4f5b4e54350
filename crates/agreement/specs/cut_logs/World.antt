-- Nodes that cut their logs, all messages, the outputs that left, and the record of places; what
-- may happen to a node there.
use Rattle.std.specs.Prelude.{ℕ, ◌+◌, ◌<◌, ◌≡◌, false, List, [], ◌∷◌, ◌++◌, length, map, take, drop}
use Rattle.std.specs.Prelude.{slice_get, slice_set, Some}
use Rattle.machine.specs.Machine.{Rules}
use Rattle.agreement.specs.World.{GroupWorld as WholeWorld}
use Rattle.agreement.specs.whole_logs.Messages.{Message as WholeMessage}
use Rattle.lists.specs.Lists.{In}
use Rattle.agreement.specs.cut_logs.Whole.{whole_log, whole, whole_message}
use Rattle.ballot_base.specs.declared.message.Effect.{Effect}
use Rattle.ballot_base.specs.declared.message.Effect.TheVariants.{To, Out}
use Rattle.ballot_base.specs.declared.message.Message.{Message}
use Rattle.ballot_base.specs.Losses.{Loses, halted}
use Rattle.ballot_base.specs.Replica.{ReplicaState}
use Rattle.ballot_base.specs.Protocol.{Input, replica_step}
use Rattle.ballot_base.specs.Compaction.{cut}
use Rattle.ballot_base.specs.Protocol.Input.{Receives, Proposes, Ticks}

-- the nodes, number n + 1 at index n
pub record CutGroupWorld (S C O : Type 0) : Type 0 where
  pub nodes : List (ReplicaState S C)
  pub sent : List (ℕ × Message C)
  pub left : List (ℕ × O)
  -- the places below all bases
  pub archive : List C

-- a sent message on whole logs, with its receiver
abbrev pub whole_sent : {C : Type 0} → List C → ℕ × Message C → ℕ × WholeMessage C
whole_sent archive sent = (sent.0, whole_message archive sent.1)

-- all nodes and messages on whole logs
abbrev pub whole_world : {S C O : Type 0} → CutGroupWorld S C O → WholeWorld S C O
whole_world world =
    record {
      nodes = map (whole world.archive) world.nodes;
      sent = map (whole_sent world.archive) world.sent;
      left = world.left;
    }

-- the messages among effects, each with its receiver
abbrev pub messages : {C O : Type 0} → List (Effect C O) → List (ℕ × Message C)
messages [] = []
messages (To receiver message ∷ effects) = (receiver, message) ∷ messages effects
messages (Out place output ∷ effects) = messages effects

-- the outputs, each with its place
abbrev pub outputs : {C O : Type 0} → List (Effect C O) → List (ℕ × O)
outputs [] = []
outputs (To receiver message ∷ effects) = outputs effects
outputs (Out place output ∷ effects) = (place, output) ∷ outputs effects

-- the node at an index changed and returned effects
abbrev pub moved : {S C O : Type 0} → CutGroupWorld S C O → ℕ → ReplicaState S C →
    List (Effect C O) →
    CutGroupWorld S C O
moved world node new given =
    record world {
      nodes = slice_set world.nodes node new;
      sent = world.sent ++ messages given;
      left = world.left ++ outputs given;
    }

-- the record after a cut: it has the places below what the node committed, or has more already
abbrev pub recorded : {S C : Type 0} → List C → ReplicaState S C → List C
recorded archive replica =
    archive ++ drop (length archive) (take replica.committed (whole_log archive replica.log))

-- a node takes a message that was sent to it
abbrev pub MayTake : {S C O : Type 0} → CutGroupWorld S C O → ℕ → Input C → Type 0
MayTake world node (Receives message) = In (node + 1, message) world.sent
MayTake world node (Proposes command) = Unit {0}
MayTake world node Ticks = Unit {0}

-- what may happen to a node; a machine that is cut is thawed from its bytes
pub data NodeGoes {S C O : Type 0} (rules : Rules S C O)
    (world : CutGroupWorld S C O) : CutGroupWorld S C O → Type 0 where
  -- it receives a message that was sent to it, takes a proposal, or ticks, perhaps with losses
  takes : (node : ℕ) (replica : ReplicaState S C) (input : Input C) {new : ReplicaState S C}
      {given : List (Effect C O)} →
      slice_get world.nodes node ≡ Some replica → replica.stopped ≡ false →
      MayTake world node input → Loses rules replica (replica_step rules replica input) new given →
      NodeGoes rules world (moved world node new given)
  -- it stops
  stops : (node : ℕ) (replica : ReplicaState S C) → slice_get world.nodes node ≡ Some replica →
      NodeGoes rules world (moved world node (halted rules replica) [])
  -- it cuts its log at what it has applied, and the record keeps what it cut
  cuts : (node : ℕ) (replica : ReplicaState S C) → slice_get world.nodes node ≡ Some replica →
      replica.stopped ≡ false → replica.log.base < replica.committed →
      rules.thawed (rules.frozen replica.machine) ≡ Some replica.machine →
      NodeGoes rules world (record (moved world node (cut rules replica) [])
      { archive = recorded world.archive replica })
