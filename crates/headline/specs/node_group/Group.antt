-- A group: nodes with the connections of their clients, one master, and the messages between them.
use Rattle.std.specs.Prelude.{ℕ, zero, suc, ◌+◌, List, [], ◌∷◌, ◌++◌, map, slice_set}
use Rattle.ballot_base.specs.declared.config.Config.{Config}
use Rattle.ballot_base.specs.declared.message.Message.{Message}
use Rattle.ballot_base.specs.declared.message.Effect.{Effect}
use Rattle.ballot_base.specs.Replica.{ReplicaState}
use Rattle.ballot_base.specs.StepOutcome.{master}
use Rattle.broker_base.specs.State.{State}
use Rattle.broker_spec.specs.declared.command.Command.{Command}
use Rattle.broker_spec.specs.declared.command.Output.{Output}
use Rattle.agreement.specs.MasterState.{MasterState, opening_master}
use Rattle.agreement.specs.cut_logs.Masters.{MasterOutcome}
use Rattle.agreement.specs.cut_logs.Moments.{Moment}
use Rattle.agreement.specs.cut_logs.World.{messages, outputs}
use Rattle.world_base.specs.node_core.Core.{CoreState, StepOutcome, opening_core}

-- Node n + 1 is at index n. All messages that were ever sent stay, each with its receiver: any may
-- come late, again or never. So do the outputs that replicas returned, with their places in the
-- log. The record has the places below the bases of all logs.
pub record Group : Type 0 where
  pub master : MasterState
  pub nodes : List CoreState
  pub sent : List (ℕ × Message Command)
  pub left : List (ℕ × Output)
  pub archive : List Command

-- ---- as it opens

-- this many nodes as they open, the node of number 1 first
abbrev pub opening_cores : ℕ → Config → List CoreState
opening_cores zero config = []
opening_cores (suc count) config =
    opening_cores count config ++ opening_core (count + 1) config ∷ []

-- members may have numbers up to a greatest one, no message was sent yet, and nothing was recorded
abbrev pub opening_group : ℕ → ℕ → Config → Group
opening_group greatest nodes config =
    record {
      master = opening_master greatest config;
      nodes = opening_cores nodes config;
      sent = [];
      left = [];
      archive = [];
    }

-- ---- after what happens

-- after this outcome of a step of the node at this index, in which its replica returned this
abbrev pub group_after_outcome : Group → ℕ → StepOutcome → List (Effect Command Output) → Group
group_after_outcome group node outcome given =
    record group {
      nodes = slice_set group.nodes node outcome.core;
      sent = group.sent ++ messages outcome.messages;
      left = group.left ++ outputs given;
    }

-- after a message of the master
abbrev pub told_by_master : Group → MasterOutcome Command → Group
told_by_master group outcome =
    record group {
      sent = group.sent
          ++ (outcome.receiver, record { from = master; body = outcome.body }) ∷ [];
    }

-- the group with another state of the master
abbrev pub with_master : Group → MasterState → Group
with_master group state = record group { master = state }

-- the group with another record of places
abbrev pub with_record : Group → List Command → Group
with_record group archive = record group { archive = archive }

-- ---- its replicas, as they are seen if nodes agree

-- the replica of a node
abbrev pub replica_of : CoreState → ReplicaState State Command
replica_of core = core.replica.state

-- the group without the connections of its nodes
abbrev pub moment_of_nodes : Group → Moment State Command Output
moment_of_nodes group =
    record {
      master = group.master;
      world = record {
        nodes = map replica_of group.nodes;
        sent = group.sent;
        left = group.left;
        archive = group.archive;
      };
    }
