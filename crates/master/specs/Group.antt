-- The model of a group.
use Rattle.std.specs.Prelude.{ℕ}
use Rattle.agreement.specs.cut_logs.Moments.{Moment}

-- a group: its moment, which is its master with the nodes, the messages and the outputs that left,
-- and the number of its steps in which something was lost
pub record GroupState (S C O : Type 0) : Type 0 where
  pub moment : Moment S C O
  pub losses : ℕ
