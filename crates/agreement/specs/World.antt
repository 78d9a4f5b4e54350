-- Nodes, all messages that they ever sent, the outputs that left, and how they open.
use Rattle.std.specs.Prelude.{Option, Some, None, ℕ, zero, suc, Bool, ◌+◌, List, [], ◌∷◌, ◌++◌}
use Rattle.std.specs.Prelude.{slice_set, ◌&&◌, nat_le}
use Rattle.std.specs.List.{list_all}
use Rattle.machine.specs.Machine.{Rules}
use Rattle.ballot_base.specs.LawfulConfig.{is_lawful}
use Rattle.ballot_base.specs.declared.config.Config.{Config}
use Rattle.agreement.specs.whole_logs.Messages.{Message, Effect}
use Rattle.agreement.specs.whole_logs.Messages.Effect.{To, Out}
use Rattle.agreement.specs.whole_logs.Replica.{ReplicaState, opening}

-- the nodes, number n + 1 at index n, the messages with their receivers in the order of sending,
-- and the outputs that left with their places
pub record GroupWorld (S C O : Type 0) : Type 0 where
  pub nodes : List (ReplicaState S C)
  pub sent : List (ℕ × Message C)
  pub left : List (ℕ × O)

-- nodes open, with numbers up to a greatest one, in a lawful configuration whose members are among
-- them
abbrev pub can_open : ℕ → ℕ → Config → Bool
can_open greatest nodes config =
    nat_le nodes greatest
    && (is_lawful greatest config.members config.primary
    && list_all (λ member. nat_le member nodes) config.members)

-- the nodes as they open
abbrev pub opening_nodes : {S C O : Type 0} → Rules S C O → ℕ → Config → List (ReplicaState S C)
opening_nodes rules zero config = []
opening_nodes rules (suc count) config =
    opening_nodes rules count config ++ opening rules (count + 1) config ∷ []

-- the world in which nothing was sent
abbrev pub opening_world : {S C O : Type 0} → Rules S C O → ℕ → Config → GroupWorld S C O
opening_world rules nodes config =
    record { nodes = opening_nodes rules nodes config; sent = []; left = [] }

-- the messages among effects, each with its receiver
abbrev pub messages : {C O : Type 0} → List (Effect C O) → List (ℕ × Message C)
messages [] = []
messages (To receiver message ∷ effects) = (receiver, message) ∷ messages effects
messages (Out place output ∷ effects) = messages effects

-- the outputs, each with its place
abbrev pub outputs : {C O : Type 0} → List (Effect C O) → List (ℕ × O)
outputs [] = []
outputs (To receiver message ∷ effects) = outputs effects
outputs (Out place output ∷ effects) = (place, output) ∷ outputs effects

-- a world after the node at an index changed and returned effects
abbrev pub moved : {S C O : Type 0} →
    GroupWorld S C O → ℕ → ReplicaState S C → List (Effect C O) → GroupWorld S C O
moved world node new given =
    record {
      nodes = slice_set world.nodes node new;
      sent = world.sent ++ messages given;
      left = world.left ++ outputs given;
    }

-- the log of a node, if the node exists
abbrev pub log_of : {S C : Type 0} → Option (ReplicaState S C) → List C
log_of None = []
log_of (Some replica) = replica.log
