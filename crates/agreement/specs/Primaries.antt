-- Who is the active primary of a ballot.
use Rattle.std.specs.Prelude.{ℕ, true, ◌≡◌, slice_get, Some}
use Rattle.agreement.specs.whole_logs.Replica.{ReplicaState}
use Rattle.ballot_base.specs.Replica.{is_active}
use Rattle.agreement.specs.World.{GroupWorld}

-- the node at an index is the active primary of a ballot, which it has joined
pub record IsPrimary {S C O : Type 0} (world : GroupWorld S C O) (node ballot : ℕ) : Type 0 where
  pub replica : ReplicaState S C
  pub stands : slice_get world.nodes node ≡ Some replica
  pub active : is_active replica.role ≡ true
  pub joined : replica.joined ≡ ballot
