-- What the private calls do with a line of a script, and with accepted publications.
use Rattle.std.specs.Prelude.{◌≡◌, ℕ, Bool, true, false, List, [], ◌∷◌, ◌++◌, Some, Result, length, map}
use Rattle.master.specs.declared.event.Idle.{Idle}
use Rattle.session_base.specs.declared.publication.Publication.{Publication}
use Rattle.script.specs.declared.script_line.ScriptLine.{ScriptLine}
use Rattle.script.specs.declared.script_line.ScriptLine.TheVariants as lines
use Rattle.play.specs.Lines.{end_line}
use Rattle.world_pipes.specs.declared.events.event.Event.{Event}
use Rattle.world.specs.Trace.{StaysReached, KeepsGroup}
use Rattle.world.specs.StandsFor.{KeepsReached}
use Rattle.world.specs.World.{WorldState}
use Rattle.world_nodes.specs.Agreed.{AgreeOnSoMany}
use Rattle.play.specs.declared.played_world.Recipient.{Recipient}
use Rattle.play.specs.Events.{asked_in, event_of}
use Rattle.play.specs.Transcripts.{EventComesTo, IsAskedIn, IsEventLine, Played, ScriptStep}
use Rattle.play.specs.AcceptedLines.{accepted_by_client, lines_after}

-- a line that makes a client call its keeper
abbrev pub is_call : ScriptLine → Bool
is_call (lines.Abandon client) = true
is_call (lines.Disconnect client) = true
is_call (lines.Publish client publication) = true
is_call (lines.Subscribe client filter qos) = true
is_call (lines.Unsubscribe client filter) = true
is_call _ = false

-- the call that a line asks of a client, whatever waits on connections
abbrev pub IsCallOf : ScriptLine → Event → Type 0
IsCallOf line event = (waiting : ℕ) → event_of waiting line ≡ Some event

-- the event that a line asks for had this result
pub record LineComesTo (line : ScriptLine) (old : WorldState) (result : Result (Unit {0}) Idle)
    (new : WorldState) : Type 0 where
  pub comes : EventComesTo (asked_in old line) old result new
  pub goes : KeepsGroup old new
  pub reached : StaysReached old.nodes new.nodes
  pub asked : List (ℕ × Publication)
  pub asks : IsAskedIn (asked_in old line) old result asked new
  pub exact : KeepsReached asked old new

-- the line of an event was appended
pub record LineWasWritten (index : ℕ) (result : Result (Unit {0}) Idle) (world : WorldState)
    (old new : List ℕ) : Type 0 where
  pub line : List ℕ
  pub is_line : IsEventLine index result world line
  pub is : new ≡ old ++ line

-- the last line of a transcript was appended
pub record EndsTranscript (world : WorldState) (old new : List ℕ) : Type 0 where
  pub agreed : ℕ
  pub are_agreed : AgreeOnSoMany world.nodes agreed
  pub is : new ≡ old ++ end_line agreed world.nodes.master.active

-- ---- clients

-- the identifiers of the clients of these recipients
abbrev pub names_of : List Recipient → List (List ℕ)
names_of recipients = map (λ (recipient : Recipient). recipient.client) recipients

-- every publication that they accepted is written
abbrev pub AreWritten : List Recipient → WorldState → Type 0
AreWritten [] world = Unit {0}
AreWritten (one ∷ more) world = (one.written ≡ length (accepted_by_client one.client world))
    × AreWritten more world

-- the lines of what is not yet written
abbrev pub lines_unwritten : List Recipient → WorldState → List ℕ
lines_unwritten [] world = []
lines_unwritten (one ∷ more) world =
    lines_after one.written one.client world ++ lines_unwritten more world

-- the recipient, with every publication that it accepted written
abbrev pub written_at : WorldState → Recipient → Recipient
written_at world recipient = record recipient {
  written =
      length (accepted_by_client recipient.client world);
}

-- a client of which nothing is written
abbrev pub new_recipient : List ℕ → Recipient
new_recipient name = record { client = name; written = 0 }

-- ---- lines of a script

-- the lines for one line of a script were appended
pub record Appends (clients : List (List ℕ)) (index : ℕ) (script_line : ScriptLine)
    (before after : WorldState) (old new : List ℕ) : Type 0 where
  pub lines : List ℕ
  pub step : ScriptStep clients index script_line before after lines
  pub is : new ≡ old ++ lines

-- the lines of a transcript for these lines of a script were appended
pub record AppendsLines (clients : List (List ℕ)) (script_lines : List ScriptLine)
    (first last : WorldState) (old new : List ℕ) : Type 0 where
  pub lines : List ℕ
  pub played : Played clients first script_lines lines last
  pub is : new ≡ old ++ lines

-- these lines and the last line were appended, with this count of losses
pub record PlaysOn (clients : List (List ℕ)) (script_lines : List ScriptLine) (first : WorldState)
    (old new : List ℕ) (losses : ℕ) : Type 0 where
  pub last : WorldState
  pub mid : List ℕ
  pub all : AppendsLines clients script_lines first last old mid
  pub ends : EndsTranscript last mid new
  pub are : last.losses ≡ losses
