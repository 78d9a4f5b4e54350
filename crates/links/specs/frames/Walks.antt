-- How far the parts at the front of a stream were looked at. Cited by private clauses alone.
use Rattle.std.specs.Prelude.{◌≡◌, ℕ, ◌-◌, ◌<◌, ◌≤◌, List, ◌++◌, length, drop}
use Rattle.links.specs.declared.frames.joiner.Walk.{Walk}
use Rattle.links.specs.declared.frames.joiner.Found.{Found}
use Rattle.links.specs.declared.frames.joiner.Found.TheVariants as found
use Rattle.links.specs.frames.Fronts.{Front, Begins, behind}
use Rattle.links.specs.frames.Fronts.Front.{whole, unfinished, broken}

-- The walk ends where a part begins: whatever comes later, the stream begins with what stands
-- there, behind the bytes of the message that were passed.
pub record HasWalked (limit : ℕ) (stream : List ℕ) (walk : Walk) : Type 0 where
  pub message : List ℕ
  pub counts : walk.joined ≡ length message
  pub fits : walk.joined ≤ limit
  pub within : walk.at ≤ length stream
  pub goes : (later : List ℕ) (front : Front)
      → Begins (limit - walk.joined) (drop walk.at stream ++ later) front
      → Begins limit (stream ++ later) (behind message front)

-- a whole message of so many bytes stands at the front, and ends here
pub record EndsAt (limit : ℕ) (stream : List ℕ) (end size : ℕ) : Type 0 where
  pub message : List ℕ
  pub within : end ≤ length stream
  pub counts : size ≡ length message
  pub begins : Begins limit stream (whole message (drop end stream))

-- what was found by a walk
abbrev pub Finds : ℕ → List ℕ → Found → Type 0
Finds limit stream (found.Unfinished walk) =
    HasWalked limit stream walk × Begins limit stream unfinished
Finds limit stream (found.End end size) = EndsAt limit stream end size
Finds limit stream (found.Fault fault) = Begins limit stream (broken fault)

-- the message at the front
abbrev pub IsAtFront : ℕ → List ℕ → List ℕ → Type 0
IsAtFront limit stream message = (rest : List ℕ) × Begins limit stream (whole message rest)

-- a message of at least one byte stands at the front
abbrev pub HasSome : ℕ → List ℕ → Type 0
HasSome limit stream = (message : List ℕ) × (0 < length message) × IsAtFront limit stream message
