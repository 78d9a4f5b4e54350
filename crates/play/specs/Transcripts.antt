-- The transcript of a script: the worlds that its lines lead through, and the lines for each.
use Rattle.std.specs.Prelude.{◌≡◌, ℕ, List, [], ◌∷◌, ◌++◌, Option, Some, None, Result, Ok, Err, IsErr, length}
use Rattle.session_base.specs.declared.publication.Publication.{Publication}
use Rattle.master.specs.declared.event.Idle.{Idle}
use Rattle.script.specs.Scripts.{IsScript, lines_of}
use Rattle.script.specs.declared.script_line.ScriptLine.{ScriptLine}
use Rattle.script.specs.declared.script_reader.Script.{Script}
use Rattle.play.specs.Lines.{done_line, end_line, idle_line}
use Rattle.world_pipes.specs.declared.events.event.Event.{Event}
use Rattle.world.specs.Trace.{AreReached, StaysReached, KeepsGroup}
use Rattle.world.specs.Events.{EventHappens, WorldOpens}
use Rattle.world.specs.Requests.{EventAsks}
use Rattle.world.specs.StandsFor.{IsReached, KeepsReached, asked_on}
use Rattle.world.specs.World.{WorldState}
use Rattle.world_nodes.specs.Agreed.{AgreeOnSoMany}
use Rattle.play.specs.Events.{asked_in}
use Rattle.play.specs.AcceptedLines.{new_lines}

-- ---- one line of a script

-- the event of a line had this result, as `World::step`; a line that names no event is idle
abbrev pub EventComesTo : Option Event → WorldState → Result (Unit {0}) Idle → WorldState → Type 0
EventComesTo None old result new = IsErr result × (new ≡ old)
EventComesTo (Some event) old result new = EventHappens event old result new

-- what the event of a line asked clients to publish
abbrev pub IsAskedIn : Option Event → WorldState → Result (Unit {0}) Idle
    → List (ℕ × Publication) → WorldState → Type 0
IsAskedIn None old result asked new = asked ≡ []
IsAskedIn (Some event) old result asked new = EventAsks event old result asked new

-- the line of event `index`: it was idle, or the line has the counts of messages sent and of
-- commands agreed so far
abbrev pub IsEventLine : ℕ → Result (Unit {0}) Idle → WorldState → List ℕ → Type 0
IsEventLine index (Err idle) new line = line ≡ idle_line index
IsEventLine index (Ok done) new line =
    (agreed : ℕ) × AgreeOnSoMany new.nodes agreed
    × (line ≡ done_line index (length new.nodes.sent) agreed)

-- One line of a script: the line of its event, and a line for each publication that a client newly
-- accepted. Even if memory ran out in it, the nodes did what they may do, and agree as before; and
-- each client stays exact, by what it was asked to publish.
pub record ScriptStep (clients : List (List ℕ)) (index : ℕ) (script_line : ScriptLine)
    (old new : WorldState) (lines : List ℕ) : Type 0 where
  pub result : Result (Unit {0}) Idle
  pub comes : EventComesTo (asked_in old script_line) old result new
  pub line : List ℕ
  pub is_line : IsEventLine index result new line
  pub whole : lines ≡ line ++ new_lines clients old new
  pub goes : KeepsGroup old new
  pub reached : StaysReached old.nodes new.nodes
  pub asked : List (ℕ × Publication)
  pub asks : IsAskedIn (asked_in old script_line) old result asked new
  pub exact : KeepsReached asked old new

-- the lines for these lines of a script, from the opening on
pub data Played (clients : List (List ℕ)) (first : WorldState)
    : List ScriptLine → List ℕ → WorldState → Type 0 where
  opens : Played clients first [] [] first  -- no line yet
  -- one more line, with the lines of its event
  goes_on : {script_lines : List ScriptLine} {lines more : List ℕ} {old new : WorldState}
      → Played clients first script_lines lines old → (script_line : ScriptLine)
      → ScriptStep clients (length script_lines) script_line old new more
      → Played clients first (script_lines ++ script_line ∷ []) (lines ++ more) new

-- A script's world opens as its first lines say, each line after them has its event, these are the
-- lines of its transcript, and the last line has the count of agreed commands.
pub record IsTranscript (script : Script) (last : WorldState) (transcript : List ℕ) : Type 0 where
  pub first : WorldState
  pub begins :
      WorldOpens script.opening.nodes script.opening.config script.opening.clients.items first
  pub opened : AreReached script.opening.nodes script.opening.config first.nodes
  pub exact :
      IsReached script.opening.nodes script.opening.config script.opening.clients.items first
  pub unasked : asked_on exact ≡ []
  pub lines : List ℕ
  pub played : Played script.opening.clients.items first script.lines.items lines last
  pub agreed : ℕ
  pub are_agreed : AgreeOnSoMany last.nodes agreed
  pub is : transcript ≡ lines ++ end_line agreed last.nodes.master.active

-- The text is a script that was played to its end, and its transcript was appended; this many
-- events lost something. Even so, at the end the nodes agree, and the promise holds for each
-- client.
pub record Plays (text old new : List ℕ) (losses : ℕ) : Type 0 where
  pub script : Script
  pub is_script : IsScript (lines_of text) script
  pub last : WorldState
  pub transcript : List ℕ
  pub is_transcript : IsTranscript script last transcript
  pub appended : new ≡ old ++ transcript
  pub losses_are : last.losses ≡ losses
  pub reached : AreReached script.opening.nodes script.opening.config last.nodes
  pub exact :
      IsReached script.opening.nodes script.opening.config script.opening.clients.items last
