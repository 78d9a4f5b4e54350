-- Theorems about queues of links, proved by `src/theorems.rt`.
use Rattle.std.specs.Prelude.{◌≡◌, ℕ, ◌+◌, true, List, [], ◌∷◌, ◌++◌, map}
use Rattle.ballot_base.specs.declared.message.Message.{Message}
use Rattle.links.specs.link_queue.Covering.{covers}
use Rattle.links.specs.declared.link_queue.queue.Waiting.{Waiting}
use Rattle.links.specs.link_queue.Queues.{still_waiting}

-- the messages that wait
abbrev pub messages : {C : Type 0} → List (Waiting C) → List (Message C)
messages waiting = map (λ each. each.message) waiting

-- A queue after a sequence of calls: the messages that it was asked to queue, those that were
-- taken, how many were dropped, and what waits. A call that changes nothing of it needs no case.
pub data Ran {C : Type 0} : (asked taken : List (Message C)) → ℕ → List (Waiting C) → Type 0 where
  -- no call yet
  opens : Ran [] [] 0 []
  -- a message is queued
  queues : {asked taken : List (Message C)} {dropped : ℕ} {waiting : List (Waiting C)}
      (message : Message C) (size : ℕ) → Ran asked taken dropped waiting
      → Ran (asked ++ message ∷ []) taken dropped
      (still_waiting message waiting ++ (record { message = message; size = size }) ∷ [])
  -- a message is dropped
  drops : {asked taken : List (Message C)} {dropped : ℕ} {waiting : List (Waiting C)}
      (message : Message C) → Ran asked taken dropped waiting
      → Ran (asked ++ message ∷ []) taken (dropped + 1) waiting
  -- all that waits is taken
  takes : {asked taken : List (Message C)} {dropped : ℕ} {waiting : List (Waiting C)}
      → Ran asked taken dropped waiting → Ran asked (taken ++ messages waiting) dropped []

-- the first list is in the second, in its order, each element once
pub data IsWithin {X : Type 0} : List X → List X → Type 0 where
  nothing : IsWithin [] []
  keeps : {xs ys : List X} (x : X) → IsWithin xs ys → IsWithin (xs ++ x ∷ []) (ys ++ x ∷ [])
  skips : {xs ys : List X} (y : X) → IsWithin xs ys → IsWithin xs (ys ++ y ∷ [])

-- what comes out, and what waits behind it, is in the order in which it was queued, each once
abbrev pub ComesOutInOrder : Type 0 → Type 0
ComesOutInOrder C =
    (asked taken : List (Message C)) (dropped : ℕ) (waiting : List (Waiting C))
    → Ran asked taken dropped waiting → IsWithin (taken ++ messages waiting) asked

-- What became of messages: each stands in the second list, or is covered by the one that was queued
-- in its place, or was dropped and counted.
pub data Accounts {C : Type 0} : List (Message C) → List (Message C) → ℕ → Type 0 where
  begins : Accounts [] [] 0
  stands : {asked out : List (Message C)} {dropped : ℕ} (message : Message C)
      → Accounts asked out dropped
      → Accounts (asked ++ message ∷ []) (out ++ message ∷ []) dropped
  replaces : {asked : List (Message C)} {dropped : ℕ} (out : List (Message C))
      (message older : Message C)
      → Accounts asked (out ++ older ∷ []) dropped → covers message older ≡ true
      → Accounts (asked ++ message ∷ []) (out ++ message ∷ []) dropped
  loses : {asked out : List (Message C)} {dropped : ℕ} (message : Message C)
      → Accounts asked out dropped → Accounts (asked ++ message ∷ []) out (dropped + 1)

-- nothing else is lost
abbrev pub NothingElseIsLost : Type 0 → Type 0
NothingElseIsLost C =
    (asked taken : List (Message C)) (dropped : ℕ) (waiting : List (Waiting C))
    → Ran asked taken dropped waiting → Accounts asked (taken ++ messages waiting) dropped
