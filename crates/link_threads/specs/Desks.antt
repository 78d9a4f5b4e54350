-- What lies between a node and its links.
use Rattle.std.specs.Prelude.{ℕ, List}
use Rattle.broker_spec.specs.declared.command.Command.{Command}
use Rattle.links.specs.declared.link_queue.queue.Waiting.{Waiting}
use Rattle.links.specs.declared.parcel.Parcel.{Parcel}
use Rattle.link_threads.specs.declared.incoming.LeftLog.{LeftLog}

-- what is to go out by a link, oldest first, and the number of the node that it is for
pub record OutgoingView : Type 0 where
  pub number : ℕ
  pub messages : List (Waiting Command)

-- what links brought, oldest first, and the logs that left by them
pub record IncomingView : Type 0 where
  pub parcels : List Parcel
  pub left : List LeftLog
