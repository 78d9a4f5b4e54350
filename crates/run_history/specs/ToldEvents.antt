-- The event that the code tells as it adds one.
use Rattle.std.specs.Prelude.{[], drop, false}
use Rattle.run_history.specs.declared.event.MasterAct.TheVariants.{Assigns, Answers}
use Rattle.run_history.specs.declared.event.NodeAct.TheVariants.{Takes, HandsOver}
use Rattle.run_history.specs.declared.event.RunEvent.{RunEvent}
use Rattle.run_history.specs.declared.event.RunEvent.TheVariants.{ByNode, ByMaster, ByLink}
use Rattle.run_history.specs.declared.told.Told.{Told}
use Rattle.run_history.specs.declared.told.Told.TheVariants as told
use Rattle.run_history.specs.Log.{opening_event}

-- an event that is never added
abbrev pub no_event : RunEvent
no_event = opening_event 0 (record { members = []; primary = 0 }) false

-- the event that was told
abbrev pub event_of : Told → RunEvent
event_of (told.Taken taken) =
    ByNode (record {
      node = taken.node;
      act = Takes taken.item.value;
      after = taken.after.value;
      given = drop taken.before taken.effects.value.items;
    })
event_of (told.HandedOver handed) =
    ByNode (record {
      node = handed.node;
      act = HandsOver handed.port;
      after = handed.after.value;
      given = [];
    })
event_of (told.Assigned assigned) =
    ByMaster (record {
      act = Assigns assigned.config.value;
      after = assigned.after.value;
      receiver = assigned.receiver;
      message = assigned.message.value;
    })
event_of (told.Answered answered) =
    ByMaster (record {
      act = Answers answered.from answered.ballot;
      after = answered.after.value;
      receiver = answered.from;
      message = answered.message.value;
    })
event_of (told.Brought brought) =
    ByLink (record { receiver = brought.receiver; message = brought.message.value })
