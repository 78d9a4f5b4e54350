-- What it means that nodes agree on a list.
--
-- No field of any node keeps the past: agreement is a statement about every trace of moments
-- (`Moments`) that leads to the value in hand. The theorems rest on four invariants. A ballot has
-- one primary, the one that the master assigned. While a node holds its log in one ballot the log
-- only grows, so an acknowledged length names a prefix. A ballot becomes active only when all its
-- members hold its log. And that log came from a member of the ballot that was active before, which
-- has everything chosen there. So the list chosen in a ballot is a prefix of the list of each later
-- one.
use Rattle.std.specs.Prelude.{ℕ, ◌+◌, ◌≡◌, ◌⊎◌, List, take, slice_get, Some}
use Rattle.machine.specs.Machine.{Rules}
use Rattle.agreement.specs.whole_logs.Replica.{ReplicaState}
use Rattle.agreement.specs.World.{GroupWorld}
use Rattle.lists.specs.Lists.{In, IsPrefixOf}
use Rattle.agreement.specs.MasterState.{MasterState}

-- the nodes agree on a list
pub record Agrees {S C O : Type 0} (rules : Rules S C O) (master : MasterState)
    (world : GroupWorld S C O) (list : List C) : Type 0 where
  -- what is applied anywhere is a prefix of it
  pub applied : (node : ℕ) (replica : ReplicaState S C) →
      slice_get world.nodes node ≡ Some replica →
      IsPrefixOf (take replica.committed replica.log) list
  -- each member of the active configuration holds it
  pub held : (node : ℕ) (replica : ReplicaState S C) → slice_get world.nodes node ≡ Some replica →
      In (node + 1) master.members → IsPrefixOf list replica.log
  -- of two logs that were installed in one ballot one is a prefix of the other
  pub fronts : (first second : ℕ) (first_replica second_replica : ReplicaState S C) →
      slice_get world.nodes first ≡ Some first_replica →
      slice_get world.nodes second ≡ Some second_replica →
      first_replica.held_in ≡ second_replica.held_in →
      IsPrefixOf first_replica.log second_replica.log
      ⊎ IsPrefixOf second_replica.log first_replica.log

-- some member of the active ballot is a node whose log begins with the agreed list
pub record Holds {S C O : Type 0} (master : MasterState) (world : GroupWorld S C O)
    (list : List C) : Type 0 where
  pub node : ℕ
  pub replica : ReplicaState S C
  pub stands : slice_get world.nodes node ≡ Some replica
  pub member : In (node + 1) master.members
  pub held : IsPrefixOf list replica.log
