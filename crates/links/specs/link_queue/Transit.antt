-- Theorems about logs that wait or are in transit, proved by `src/theorems.rt`.
use Rattle.std.specs.Prelude.{◌≡◌, ℕ, ◌≤◌, Bool, true, false, List, [], ◌++◌, length, filter, not, Option, Some, None}
use Rattle.std.specs.List.{list_any}
use Rattle.ballot_base.specs.declared.message.Message.{Message}
use Rattle.links.specs.declared.link_queue.logs.LogName.{LogName}
use Rattle.links.specs.declared.link_queue.queue.Fate.TheVariants.{Queued}
use Rattle.links.specs.link_queue.Logs.{is_named, log_name}
use Rattle.links.specs.link_queue.Queues.{QueueView, fate_of, has_waiting, is_repeated, stays}
use Rattle.links.specs.link_queue.Queues.{with_message, without_message}
use Rattle.links.specs.link_queue.Theorems.{messages}

-- A queue after a sequence of calls, and before it the messages that were taken from it and are in
-- transit: none of them has left, and the connection has not broken since.
pub data Linked {C : Type 0} : List (Message C) → QueueView C → Type 0 where
  -- no call yet
  opens : Linked [] (record { waiting = []; logs = []; dropped = 0 })
  -- a message is queued
  queues : {transit : List (Message C)} {queue : QueueView C} (message : Message C) (size : ℕ)
      → Linked transit queue → fate_of queue message size ≡ Queued
      → Linked transit (with_message queue message size)
  -- a message is dropped
  drops : {transit : List (Message C)} {queue : QueueView C}
      → Linked transit queue → Linked transit (without_message queue)
  -- all that waits is taken
  takes : {transit : List (Message C)} {queue : QueueView C} → Linked transit queue
      → Linked (transit ++ messages queue.waiting) (record queue { waiting = [] })
  -- the logs of a name have left
  leaves : {transit : List (Message C)} {queue : QueueView C} (name : LogName)
      → Linked transit queue
      → Linked (filter (λ message. not (is_named name message)) transit)
      (record queue { logs = filter (λ other. stays queue.waiting name other) queue.logs })
  -- the connection broke
  breaks : {transit : List (Message C)} {queue : QueueView C} → Linked transit queue
      → Linked []
      (record queue { logs = filter (λ name. has_waiting queue.waiting name) queue.logs })
  -- another life of the node answers
  clears : {transit : List (Message C)} {queue : QueueView C} → Linked transit queue
      → Linked [] (record queue { waiting = []; logs = [] })

-- the messages that carry a log of this name
abbrev pub named : {C : Type 0} → LogName → List (Message C) → List (Message C)
named name sent = filter (λ message. is_named name message) sent

-- a log of one kind and ballot waits or is in transit at most once
abbrev pub EachLogIsThereOnce : Type 0 → Type 0
EachLogIsThereOnce C = (transit : List (Message C)) (queue : QueueView C) (name : LogName)
    → Linked transit queue → length (named name (transit ++ messages queue.waiting)) ≤ 1

-- one of these messages carries a log of the same kind and ballot
abbrev pub carries_log : {C : Type 0} → Option LogName → List (Message C) → Bool
carries_log (Some name) sent = list_any (λ message. is_named name message) sent
carries_log None sent = false

-- a message is dropped as repeated only if a log of its kind and ballot waits or is in transit
abbrev pub WhatIsRepeatedIsThere : Type 0 → Type 0
WhatIsRepeatedIsThere C =
    (transit : List (Message C)) (queue : QueueView C) (message : Message C)
    → Linked transit queue → is_repeated queue message ≡ true
    → carries_log (log_name message) (transit ++ messages queue.waiting) ≡ true
