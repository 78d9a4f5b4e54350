-- How much of the queued bytes is written, in order, and what is left.
use Rattle.std.specs.Prelude.{◌≡◌, ℕ, ◌<◌, ◌⊎◌, List, [], ◌++◌, length, Option}
use Rattle.std.specs.Io.KnownBytes.{Appends}
use Rattle.node_base.specs.devices.Counted.{counted_once}
use Rattle.world_base.specs.declared.node_connections.handed.Handed.{Handed}
use Rattle.world_base.specs.declared.node_connections.handed.Handed.TheVariants as answers
use Rattle.node_base.specs.declared.connection.left_write.LeftWrite.{LeftWrite}
use Rattle.node_base.specs.declared.connection.left_write.LeftWrite.TheVariants as left_writes
use Rattle.node_base.specs.declared.connection.flow.Flow.{Flow}
use Rattle.node_base.specs.declared.connection.flow.Flow.TheVariants as flows

-- a prefix of the bytes was appended to the device's, and the rest is left
pub record Writes (old new : Option (List ℕ)) (bytes left : List ℕ) : Type 0 where
  pub taken : List ℕ
  pub is : bytes ≡ taken ++ left
  pub written : Appends old new taken

-- what is left, by how far a write came
abbrev pub LeavesSo : LeftWrite → List ℕ → Type 0
LeavesSo left_writes.Whole left = left ≡ []
LeavesSo left_writes.Full left = 0 < length left
LeavesSo left_writes.Stopped left = 0 < length left
LeavesSo left_writes.Fault left = 0 < length left

module _ {T : Type 0} where
  -- these bytes are handed over with this answer, and were appended to the list
  pub record HandsOver
      (hands : T → List ℕ → Handed → T → Type 0) (before : T) (answer : Handed) (after : T)
      (old new : List ℕ)
      : Type 0 where
    pub bytes : List ℕ
    pub handed : hands before bytes answer after
    pub is : new ≡ old ++ bytes

  -- these bytes are handed over; or none, because the device did not take what was left, or memory
  -- ran out
  abbrev pub HandsAny : (T → List ℕ → Handed → T → Type 0) → T → List ℕ → T → Type 0
  HandsAny hands before bytes after =
      ((answer : Handed) × hands before bytes answer after) ⊎ ((bytes ≡ []) × (after ≡ before))

  -- what is handed over, by how the writing ended
  abbrev pub HandsSo : (T → List ℕ → Handed → T → Type 0) → Flow → T → List ℕ → T → Type 0
  HandsSo hands flows.Open before bytes after = hands before bytes answers.Open after
  HandsSo hands flows.Closed before bytes after = hands before bytes answers.Closed after
  HandsSo hands flows.Blocked before bytes after = HandsAny hands before bytes after
  HandsSo hands flows.Stopped before bytes after = HandsAny hands before bytes after
  HandsSo hands flows.Fault before bytes after = HandsAny hands before bytes after

-- what is left, by how the writing ended; after `Stopped` it may be nothing, since memory may have
-- run out
abbrev pub RestsSo : Flow → List ℕ → Type 0
RestsSo flows.Open rest = rest ≡ []
RestsSo flows.Closed rest = rest ≡ []
RestsSo flows.Blocked rest = 0 < length rest
RestsSo flows.Stopped rest = Unit {0}
RestsSo flows.Fault rest = 0 < length rest

-- the count of the device's failed calls: it rises by one if a call failed, and not otherwise
abbrev pub faults_written : LeftWrite → ℕ → ℕ
faults_written left_writes.Fault faults = counted_once faults
faults_written _ faults = faults

-- the count of the device's failed calls after all writes of `write_out`
abbrev pub faults_flowed : Flow → ℕ → ℕ
faults_flowed flows.Fault faults = counted_once faults
faults_flowed _ faults = faults

-- what was left before, followed by what is handed over, is what is written, followed by what is
-- left now
pub record Flows {T : Type 0}
    (hands : T → List ℕ → Handed → T → Type 0) (flow : Flow) (before after : T)
    (old new : Option (List ℕ)) (left rest : List ℕ)
    : Type 0 where
  pub bytes : List ℕ
  pub handed : HandsSo hands flow before bytes after
  pub writes : Writes old new (left ++ bytes) rest
  pub rests : RestsSo flow rest
