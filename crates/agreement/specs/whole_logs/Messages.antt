-- The messages between nodes that hold their whole logs, and the effects of a step.
use Rattle.std.specs.Prelude.{ℕ, List}

-- the kinds of message; the first number of each is its ballot
pub data Body (C : Type 0) : Type 0 where
  -- the master assigns a ballot: its members, the ballot that was active then, and the members of
  -- that one
  NewBallot : ℕ → List ℕ → ℕ → List ℕ → Body C
  -- leave all lower ballots and send your log; the other number is the earlier ballot of that log
  Join : ℕ → ℕ → Body C
  State : ℕ → List C → Body C  -- the sender's log
  Install : ℕ → List C → Body C  -- take this log
  Installed : ℕ → ℕ → Body C  -- the sender took a log of this length
  Activate : ℕ → Body C  -- all members hold the log: the master may activate the ballot
  Activated : ℕ → Body C  -- the ballot is active
  Superseded : ℕ → Body C  -- a later ballot was given
  Append : ℕ → ℕ → C → Body C  -- the command at a place
  Held : ℕ → ℕ → Body C  -- how many places the sender holds
  Commit : ℕ → ℕ → Body C  -- how many places every member holds

-- a message with its sender; node 0 is the master
pub record Message (C : Type 0) : Type 0 where
  pub from : ℕ
  pub body : Body C

-- a message to a node, or an output of the command at a place
pub data Effect (C O : Type 0) : Type 0 where
  To : ℕ → Message C → Effect C O  -- a message to the node of this number
  Out : ℕ → O → Effect C O  -- an output of the command at this place
