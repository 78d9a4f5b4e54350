-- The kind and the line of a notice.
use Rattle.std.specs.Prelude.{ℕ, List, ◌++◌, Option, None, Some, codes, decimal}
use Rattle.std.specs.Fmt.{◌++?◌}
use denote.Ref.{Bor}
use Rattle.packet_base.specs.RefusalCode.{code_number}
use Rattle.notices.specs.Escaping.{quoted}
use Rattle.notices.specs.Kinds.{kind_name}
use Rattle.notices.specs.declared.close_reason.CloseReason.{CloseReason}
use Rattle.notices.specs.declared.close_reason.CloseReason.TheVariants as reason
use Rattle.notices.specs.declared.kind.NoticeKind.{NoticeKind}
use Rattle.notices.specs.declared.kind.NoticeKind.TheVariants as kind
use Rattle.notices.specs.declared.notice.Notice.{Notice}
use Rattle.notices.specs.declared.notice.Notice.TheVariants as notice
use Rattle.notices.specs.declared.notice.QueueState.{QueueState}
use Rattle.notices.specs.declared.notice.QueueState.TheVariants as queue

-- the kind of a notice that a connection was closed
abbrev pub reason_kind : CloseReason → NoticeKind
reason_kind reason.KeepAlive = kind.KeepAlive
reason_kind (reason.Protocol fault) = kind.Protocol
reason_kind reason.Replaced = kind.Replaced
reason_kind (reason.FullQueue session) = kind.FullQueue
reason_kind reason.FullRetained = kind.FullRetained
reason_kind reason.Connections = kind.Connections
reason_kind (reason.Connack code) = kind.Connack
reason_kind reason.Expelled = kind.Expelled
reason_kind reason.Unread = kind.Unread
reason_kind reason.NoConnect = kind.NoConnect
reason_kind reason.NotPrimary = kind.NotPrimary
reason_kind reason.Lost = kind.Lost

-- the kind of a notice on a queue
abbrev pub queue_kind : QueueState → NoticeKind
queue_kind queue.HalfFull = kind.QueueHalf
queue_kind queue.Full = kind.QueueFull
queue_kind queue.HasRoom = kind.QueueRoom

-- the kind of a notice
abbrev pub notice_kind : Notice → NoticeKind
notice_kind (notice.Connected client node) = kind.Connected
notice_kind (notice.Closed client node why) = reason_kind why
notice_kind (notice.Queue session state queued limit) = queue_kind state
notice_kind (notice.Crashed node) = kind.Crashed
notice_kind (notice.Halted node) = kind.Halted
notice_kind (notice.TakeoverBegun ballot primary) = kind.TakeoverBegun
notice_kind (notice.TakeoverActive ballot primary) = kind.TakeoverActive
notice_kind (notice.OrderRefused order number) = kind.OrderRefused

-- why a connection was closed: the name of the kind, and what tells more; of a protocol fault
-- nothing is said here
abbrev pub reason_text : CloseReason → Option (List ℕ)
reason_text (reason.Protocol fault) = None
reason_text (reason.FullQueue session) =
    Some (kind_name kind.FullQueue ++ codes " of " ++ quoted session.now)
reason_text (reason.Connack code) =
    Some (kind_name kind.Connack ++ codes " " ++ decimal (code_number code))
reason_text why = Some (kind_name (reason_kind why))

-- whose connection was closed
abbrev pub subject_text : Option (Bor (List ℕ)) → List ℕ
subject_text None = codes "connection"
subject_text (Some client) = codes "client " ++ quoted client.now

-- that a connection was closed, and why
abbrev pub closed_text : Option (Bor (List ℕ)) → ℕ → CloseReason → Option (List ℕ)
closed_text client node why =
    Some (subject_text client ++ codes " closed by node " ++ decimal node ++ codes ": ")
    ++? reason_text why

-- how full a queue is
abbrev pub queue_text : List ℕ → NoticeKind → ℕ → ℕ → List ℕ
queue_text session kind queued limit =
    codes "session " ++ quoted session ++ codes ": " ++ kind_name kind ++ codes ", "
    ++ decimal queued ++ codes " of " ++ decimal limit ++ codes " messages"

-- how far a takeover is
abbrev pub takeover_text : List ℕ → ℕ → ℕ → List ℕ
takeover_text state ballot primary =
    codes "takeover " ++ state ++ codes ": ballot " ++ decimal ballot
    ++ codes ", primary " ++ decimal primary

-- the line of a notice
abbrev pub notice_text : Notice → Option (List ℕ)
notice_text (notice.Connected client node) =
    Some (codes "client " ++ quoted client.now ++ codes " connected to node " ++ decimal node)
notice_text (notice.Closed client node why) = closed_text client node why
notice_text (notice.Queue session state queued limit) =
    Some (queue_text session.now (queue_kind state) queued limit)
notice_text (notice.Crashed node) = Some (codes "node " ++ decimal node ++ codes " crashed")
notice_text (notice.Halted node) =
    Some (codes "node " ++ decimal node ++ codes " stopped: out of memory")
notice_text (notice.TakeoverBegun ballot primary) =
    Some (takeover_text (codes "begun") ballot primary)
notice_text (notice.TakeoverActive ballot primary) =
    Some (takeover_text (codes "active") ballot primary)
notice_text (notice.OrderRefused order number) =
    Some (codes "order " ++ quoted order.now ++ codes " refused " ++ decimal number)
