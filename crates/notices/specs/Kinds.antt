-- The kinds of notices.
use Rattle.std.specs.Prelude.{ℕ, List, codes}
use Rattle.log.specs.declared.level.Level.{Level}
use Rattle.log.specs.declared.level.Level.TheVariants.{Error, Warn, Info, Debug}
use Rattle.notices.specs.declared.kind.NoticeKind.{NoticeKind}
use Rattle.notices.specs.declared.kind.NoticeKind.TheVariants.{
  Connected,
  KeepAlive,
  Protocol,
  Replaced,
  FullQueue,
  FullRetained,
  Connections,
  Connack,
  Expelled,
  Unread,
  NoConnect,
  NotPrimary,
  Lost,
  QueueHalf,
  QueueFull,
  QueueRoom,
  Crashed,
  Halted,
  TakeoverBegun,
  TakeoverActive,
  OrderRefused,
}

-- the level of its lines: an error if a node is gone, a warning if somebody has to act, debug for
-- what is usual
abbrev pub kind_level : NoticeKind → Level
kind_level Connected = Debug
kind_level KeepAlive = Info
kind_level Protocol = Warn
kind_level Replaced = Info
kind_level FullQueue = Warn
kind_level FullRetained = Warn
kind_level Connections = Warn
kind_level Connack = Warn
kind_level Expelled = Info
kind_level Unread = Warn
kind_level NoConnect = Info
kind_level NotPrimary = Info
kind_level Lost = Info
kind_level QueueHalf = Warn
kind_level QueueFull = Warn
kind_level QueueRoom = Info
kind_level Crashed = Error
kind_level Halted = Error
kind_level TakeoverBegun = Info
kind_level TakeoverActive = Info
kind_level OrderRefused = Warn

-- its number, another for each kind
abbrev pub kind_number : NoticeKind → ℕ
kind_number Connected = 0
kind_number KeepAlive = 1
kind_number Protocol = 2
kind_number Replaced = 3
kind_number FullQueue = 4
kind_number FullRetained = 5
kind_number Connections = 6
kind_number Connack = 7
kind_number Expelled = 8
kind_number Unread = 9
kind_number NoConnect = 10
kind_number NotPrimary = 11
kind_number Lost = 12
kind_number QueueHalf = 13
kind_number QueueFull = 14
kind_number QueueRoom = 15
kind_number Crashed = 16
kind_number Halted = 17
kind_number TakeoverBegun = 18
kind_number TakeoverActive = 19
kind_number OrderRefused = 20

-- its name, as it stands in lines
abbrev pub kind_name : NoticeKind → List ℕ
kind_name Connected = codes "connected"
kind_name KeepAlive = codes "keep alive ended"
kind_name Protocol = codes "protocol fault"
kind_name Replaced = codes "another connection has its identifier"
kind_name FullQueue = codes "full queue"
kind_name FullRetained = codes "no room for another retained topic"
kind_name Connections = codes "too many connections"
kind_name Connack = codes "CONNACK"
kind_name Expelled = codes "expelled"
kind_name Unread = codes "too much unread"
kind_name NoConnect = codes "no CONNECT in time"
kind_name NotPrimary = codes "not the active primary"
kind_name Lost = codes "no DISCONNECT"
kind_name QueueHalf = codes "queue half full"
kind_name QueueFull = codes "queue full"
kind_name QueueRoom = codes "queue has room again"
kind_name Crashed = codes "crashed"
kind_name Halted = codes "out of memory"
kind_name TakeoverBegun = codes "takeover begun"
kind_name TakeoverActive = codes "takeover active"
kind_name OrderRefused = codes "order refused"
