-- The recovery from the world in which a script ends, and its lines.
use Rattle.std.specs.Prelude.{◌≡◌, ℕ, List, [], ◌∷◌, ◌++◌, codes}
use Rattle.std.specs.Fmt.{decimal}
use Rattle.script.specs.Scripts.{IsScript, lines_of}
use Rattle.script.specs.declared.script_reader.Script.{Script}
use Rattle.world_pipes.specs.declared.events.event.Event.{Event}
use Rattle.world_pipes.specs.declared.events.event.Event.TheVariants as events
use Rattle.world.specs.Recovery.{CanEscape, LeadsClientOut}
use Rattle.world.specs.Events.{WorldOpens}
use Rattle.world.specs.World.{WorldState}
use Rattle.play.specs.Transcripts.{Played}

-- ---- the lines

-- the members that are left, each after a comma, 44
abbrev pub more_members : List ℕ → List ℕ
more_members [] = []
more_members (member ∷ members) = 44 ∷ (decimal member ++ more_members members)

-- the text of members, as `1,2`
abbrev pub members_text : List ℕ → List ℕ
members_text [] = []
members_text (member ∷ members) = decimal member ++ more_members members

-- a line of a word and a field; the word ends with its space
abbrev pub one_field : List ℕ → List ℕ → List ℕ
one_field word field = word ++ (field ++ 10 ∷ [])

-- a line of a word and two fields, with a space, 32, between the fields
abbrev pub two_fields : List ℕ → List ℕ → List ℕ → List ℕ
two_fields word field other = word ++ (field ++ (32 ∷ (other ++ 10 ∷ [])))

-- the line of each event that a recovery may have, as a script writes it
abbrev pub event_line : Event → List ℕ
event_line (events.Assign config) =
    two_fields (codes "assign ") (members_text config.members) (decimal config.primary)
event_line (events.Deliver number) = one_field (codes "deliver ") (decimal number)
event_line (events.Open client node) = two_fields (codes "open ") client (decimal node)
event_line (events.CarryUp connection count) =
    two_fields (codes "up ") (decimal connection) (decimal count)
event_line (events.CarryDown connection count) =
    two_fields (codes "down ") (decimal connection) (decimal count)
event_line (events.Abandon client) = one_field (codes "abandon ") client
event_line _ = []

-- the lines of events, in order
abbrev pub event_lines : List Event → List ℕ
event_lines [] = []
event_lines (event ∷ more) = event_line event ++ event_lines more

-- ---- the world in which a script ends

-- the text is a script, whose lines lead from its opening world to this one, and memory ran out in
-- none of them
pub record EndsIn (text : List ℕ) (last : WorldState) : Type 0 where
  pub script : Script
  pub is_script : IsScript (lines_of text) script
  pub first : WorldState
  pub opens :
      WorldOpens script.opening.nodes script.opening.config script.opening.clients.items first
  pub lines : List ℕ
  pub played : Played script.opening.clients.items first script.lines.items lines last
  pub whole : last.losses ≡ 0

-- the lines of a recovery from that world were appended
pub record TellsRecovery (text members : List ℕ) (client : List ℕ) (old new : List ℕ) : Type 0 where
  pub last : WorldState
  pub ends : EndsIn text last
  pub possible : CanEscape members client last
  pub events : List Event
  pub leads : LeadsClientOut members client last events
  pub is : new ≡ old ++ event_lines events

-- there is no recovery
pub record HasNoRecovery (text members : List ℕ) (client : List ℕ) : Type 0 where
  pub last : WorldState
  pub ends : EndsIn text last
  pub none : CanEscape members client last → ⊥
