-- Steps of a group of nodes that add numbers, and their answers.
use Rattle.std.specs.Prelude.{◌≡◌, ℕ, List, [], ◌∷◌, ◌++◌, map, length, slice_get, codes, Some, None}
use Rattle.rows.specs.Fields.{Text, number_of}
use Rattle.rows.specs.Playing.{Answers, Agrees}
use Rattle.rows.specs.Answers.{word}
use Rattle.rows.specs.declared.line.Line.{Line}
use Rattle.ballot_base.specs.LawfulConfig.{max_node}
use Rattle.ballot_base.specs.declared.config.Config.{Config}
use Rattle.machine.specs.Tally.{tally_rules}
use Rattle.machine.specs.declared.tally.Tally.{Tally}
use Rattle.machine.specs.declared.tally.TallyCommand.{TallyCommand}
use Rattle.agreement.specs.cut_logs.Moments.{IsAgreed, Moment, Moments, opening_moment}
use Rattle.master.specs.Exact.{event_outcome}
use Rattle.master.specs.Group.{GroupState}
use Rattle.master.specs.Steps.{GroupEventOrLost}
use Rattle.master.specs.declared.event.Event.{Event}
use Rattle.node_rows.specs.Answers.{number_fields}
use Rattle.node_rows.specs.Events.{Events}
use Rattle.node_rows.specs.GroupAnswers.{alone, command_fields, members_fields, message_fields, output_fields}
use Rattle.node_rows.specs.Values.{Is, IsConfig}
use Rattle.node_rows.specs.declared.group_steps.Nodes.{Nodes}

-- a group whose machine adds numbers
abbrev pub Totals : Type 0
Totals = GroupState Tally TallyCommand ℕ

-- a group that opens in ballot 1
abbrev pub opened_group : ℕ → Config → Totals
opened_group nodes config =
    record { moment = opening_moment tally_rules max_node nodes config; losses = 0 }

-- whatever led to the group, these commands are agreed
abbrev pub AreAgreed : Moment Tally TallyCommand ℕ → List TallyCommand → Type 0
AreAgreed moment agreed = (config : Config) (moments : List (Moment Tally TallyCommand ℕ)) →
    Moments tally_rules config (moment ∷ moments) → IsAgreed config (moment ∷ moments) agreed

-- whatever led to the group, so many commands are agreed
abbrev pub IsAgreedCount : Moment Tally TallyCommand ℕ → ℕ → Type 0
IsAgreedCount moment count = (config : Config) (moments : List (Moment Tally TallyCommand ℕ))
    (agreed : List TallyCommand) → Moments tally_rules config (moment ∷ moments) →
    IsAgreed config (moment ∷ moments) agreed → count ≡ length agreed

-- `sent 2 left 0 agreed 1`: how many messages, outputs and agreed commands there are
pub data AreCounts (group : Totals) (answer : List Text) : Type 0 where
  counts : (agreed : ℕ) → IsAgreedCount group.moment agreed
      → answer ≡ number_fields (codes "sent") (length group.moment.world.sent)
      ++ number_fields (codes "left") (length group.moment.world.left)
      ++ number_fields (codes "agreed") agreed
      → AreCounts group answer

-- the agreed commands
pub data AreShown (moment : Moment Tally TallyCommand ℕ) (answers : Answers) : Type 0 where
  shown : (agreed : List TallyCommand) → AreAgreed moment agreed
      → answers ≡ map command_fields agreed → AreShown moment answers

-- an event, and its answer
pub data LetsHappen (old : Totals) (event : Event TallyCommand) (answers : Answers)
    (new : Totals) : Type 0 where
  -- it cannot happen
  idles : event_outcome tally_rules old.moment event ≡ None
      → answers ≡ word (codes "idle") ∷ [] → new ≡ old → LetsHappen old event answers new
  -- it happens, and counts no loss
  happens : (counts : List Text) → GroupEventOrLost tally_rules old event new
      → new.losses ≡ old.losses → AreCounts new counts → answers ≡ counts ∷ []
      → LetsHappen old event answers new

-- a step, its answers, and the group before and after it
pub data GroupDoes : Totals → List Text → Answers → Totals → Type 0 where
  -- an event
  event : {old new : Totals} {step : List Text} {answers : Answers}
      (event : Event TallyCommand) → Events step event → LetsHappen old event answers new
      → GroupDoes old step answers new
  -- `message 0`: what was sent, if that many messages were
  message : {old new : Totals} {word digits : Text} {answers : Answers} (number : ℕ)
      → Is word (codes "message") → number_of digits ≡ Some number
      → answers ≡ alone message_fields (slice_get old.moment.world.sent number) → new ≡ old
      → GroupDoes old (word ∷ digits ∷ []) answers new
  -- `output 0`: which total left, if that many did
  output : {old new : Totals} {word digits : Text} {answers : Answers} (number : ℕ)
      → Is word (codes "output") → number_of digits ≡ Some number
      → answers ≡ alone output_fields (slice_get old.moment.world.left number) → new ≡ old
      → GroupDoes old (word ∷ digits ∷ []) answers new
  -- `active`: the active ballot, and its members
  active : {old new : Totals} {word : Text} {answers : Answers} → Is word (codes "active")
      → answers ≡ members_fields (codes "active") old.moment.master.active
      old.moment.master.members ∷ []
      → new ≡ old → GroupDoes old (word ∷ []) answers new
  -- `agreed`: the agreed commands
  agreed : {old new : Totals} {word : Text} {answers : Answers} → Is word (codes "agreed")
      → AreShown old.moment answers → new ≡ old → GroupDoes old (word ∷ []) answers new

-- a step of a row
abbrev pub StepDoes : Nodes → List Text → Answers → Nodes → Type 0
StepDoes old step answers new = GroupDoes old.group step answers new.group

-- `open 3 x"01 02" 1`: nodes 1 to 3 open, with members 1 and 2 of which 1 is the primary
pub data OpensGroup : List Text → Totals → Type 0 where
  opens : {word digits members primary : Text} {group : Totals} (nodes : ℕ) (config : Config)
      → Is word (codes "open") → number_of digits ≡ Some nodes
      → IsConfig members primary config → group ≡ opened_group nodes config
      → OpensGroup (word ∷ digits ∷ members ∷ primary ∷ []) group

-- the first step opens a group, and the others agree with it
pub data GroupAgrees : List Line → Type 0 where
  agrees : {first : Line} {steps : List Line} (group : Totals) → OpensGroup first.fields group
      → Agrees StepDoes (record { group = group }) steps → GroupAgrees (first ∷ steps)
