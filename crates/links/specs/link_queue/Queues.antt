-- What waits for a link.
use Rattle.std.specs.Prelude.{ℕ, ◌+◌, ◌-◌, ◌≤◌, Bool, false, ◌&&◌, ◌||◌, not, nat_lt, nat_le, if◌then◌else◌, List, [], ◌∷◌, ◌++◌, length, take, Option, Some, None, slice_get}
use Rattle.std.specs.List.{list_any}
use Rattle.ballot_base.specs.Losses.{one_more}
use Rattle.ballot_base.specs.declared.message.Message.{Message}
use Rattle.links.specs.declared.link_queue.logs.LogName.{LogName}
use Rattle.links.specs.declared.link_queue.queue.Waiting.{Waiting}
use Rattle.links.specs.declared.link_queue.queue.Fate.{Fate}
use Rattle.links.specs.declared.link_queue.queue.Fate.TheVariants.{Queued, Repeated, Full}
use Rattle.links.specs.link_queue.Covering.{covers}
use Rattle.links.specs.link_queue.Logs.{is_named, is_same, log_name}

-- what waits, the oldest first, each message with the bytes of its payload; the logs that wait or
-- were taken and have not left; how many messages were dropped
pub record QueueView (C : Type 0) : Type 0 where
  pub waiting : List (Waiting C)
  pub logs : List LogName
  pub dropped : ℕ

-- the most messages, and the most bytes of payloads
abbrev pub max_waiting : ℕ
max_waiting = 524288

abbrev pub max_bytes : ℕ
max_bytes = 134217728

-- the bytes of payloads
abbrev pub bytes_of : {C : Type 0} → List (Waiting C) → ℕ
bytes_of [] = 0
bytes_of (first ∷ rest) = first.size + bytes_of rest

-- the newest is covered by this message
abbrev pub covers_one : {C : Type 0} → Message C → Option (Waiting C) → Bool
covers_one message (Some newest) = covers message newest.message
covers_one message None = false

abbrev pub covers_newest : {C : Type 0} → Message C → List (Waiting C) → Bool
covers_newest message waiting = covers_one message (slice_get waiting (length waiting - 1))

-- what still waits when a message is queued: all but the newest, if that is covered
abbrev pub still_waiting : {C : Type 0} → Message C → List (Waiting C) → List (Waiting C)
still_waiting message waiting =
    if covers_newest message waiting then take (length waiting - 1) waiting else waiting

-- a log of this name waits or is in transit
abbrev pub has_name : LogName → List LogName → Bool
has_name name logs = list_any (λ other. is_same name other) logs

abbrev pub is_there : List LogName → Option LogName → Bool
is_there logs (Some name) = has_name name logs
is_there logs None = false

-- a message carries a log that waits or is in transit
abbrev pub is_repeated : {C : Type 0} → QueueView C → Message C → Bool
is_repeated queue message = is_there queue.logs (log_name message)

-- the logs after a message was queued
abbrev pub with_log : List LogName → Option LogName → List LogName
with_log logs (Some name) = logs ++ name ∷ []
with_log logs None = logs

-- one more message of so many bytes is within the bounds
abbrev pub fits : {C : Type 0} → List (Waiting C) → ℕ → Bool
fits waiting size =
    nat_lt (length waiting) max_waiting && nat_le (bytes_of waiting + size) max_bytes

-- a message is queued
abbrev pub with_message : {C : Type 0} → QueueView C → Message C → ℕ → QueueView C
with_message queue message size = record queue {
  waiting = still_waiting message queue.waiting
      ++ (record { message = message; size = size }) ∷ [];
  logs = with_log queue.logs (log_name message);
}

-- a message is dropped
abbrev pub without_message : {C : Type 0} → QueueView C → QueueView C
without_message queue = record queue { dropped = one_more queue.dropped }

-- the bounds hold
pub record IsBounded {C : Type 0} (waiting : List (Waiting C)) : Type 0 where
  pub messages : length waiting ≤ max_waiting
  pub bytes : bytes_of waiting ≤ max_bytes

-- what becomes of a message, if there is memory
abbrev pub fate_of : {C : Type 0} → QueueView C → Message C → ℕ → Fate
fate_of queue message size =
    if is_repeated queue message then Repeated else
    if fits (still_waiting message queue.waiting) size then Queued else Full

-- a log of this name waits
abbrev pub has_waiting : {C : Type 0} → List (Waiting C) → LogName → Bool
has_waiting waiting name = list_any (λ each. is_named name each.message) waiting

-- when the logs of a name have left, this other one is still there: it is another, or it waits
abbrev pub stays : {C : Type 0} → List (Waiting C) → LogName → LogName → Bool
stays waiting name other = not (is_same name other) || has_waiting waiting other

-- there is room for the name of a log, if there is one
abbrev pub HasRoom : Option LogName → ℕ → ℕ → Type 0
HasRoom (Some name) len capacity = len + 1 ≤ capacity
HasRoom None len capacity = Unit {0}
