-- Which parcels may come over a link.
use Rattle.std.specs.Prelude.{ℕ, ◌==◌, if◌then◌else◌, Option, Some, None}
use Rattle.links.specs.declared.parcel.Parcel.{Parcel}
use Rattle.links.specs.declared.parcel.Parcel.TheVariants as parcels
use Rattle.links.specs.declared.parcel.Way.{Way}
use Rattle.links.specs.declared.parcel.Way.TheVariants.{NodeToNode, NodeToMaster, MasterToNode}
use Rattle.links.specs.declared.parcel.WayFault.{WayFault}
use Rattle.links.specs.declared.parcel.WayFault.TheVariants.{Sender, Notice}

-- the number of the end that sends; the master has 0
abbrev pub sender_of : Way → ℕ
sender_of (NodeToNode number) = number
sender_of (NodeToMaster number) = number
sender_of MasterToNode = 0

-- a node reports its status to the master; the master tells a node its number, and passes on orders
abbrev pub notice_fault : Way → Parcel → Option WayFault
notice_fault (NodeToMaster number) (parcels.Report status) = None
notice_fault MasterToNode (parcels.Welcome number) = None
notice_fault MasterToNode (parcels.Expel client) = None
notice_fault MasterToNode parcels.Crash = None
notice_fault way parcel = Some Notice

-- why a parcel may not come this way: a message comes from the end that sends it
abbrev pub fault_of : Way → Parcel → Option WayFault
fault_of way (parcels.Message message) =
    if message.from == sender_of way then None else Some Sender
fault_of way notice = notice_fault way notice
