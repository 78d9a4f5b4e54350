-- Steps of one node, and their answers.
use Rattle.std.specs.Prelude.{◌≡◌, ◌==◌, not, List, [], ◌∷◌, ◌++◌, map, codes, Ok}
use Rattle.rows.specs.Fields.{Text}
use Rattle.rows.specs.Playing.{Answers, Agrees}
use Rattle.rows.specs.Answers.{yes_or_no}
use Rattle.rows.specs.declared.line.Line.{Line}
use Rattle.ballot_base.specs.Compaction.{can_cut}
use Rattle.ballot_base.specs.Replica.{status_of}
use Rattle.ballot_base.specs.declared.message.Effect.{Effect}
use Rattle.ballot_base.specs.declared.message.Message.{Message}
use Rattle.broker_spec.specs.declared.command.Command.{Command}
use Rattle.broker_spec.specs.declared.command.Output.{Output}
use Rattle.world_base.specs.declared.node_connections.port.Port.{Port}
use Rattle.links.specs.message_form.Outcome.{message_of}
use Rattle.world_base.specs.declared.node_core.item.Item.{Item}
use Rattle.world_base.specs.declared.node_core.item.Item.TheVariants as items
use Rattle.world_base.specs.node_core.Core.{CountedCore}
use Rattle.world_base.specs.node_core.Losses.{ItemStepOrLost}
use Rattle.world_base.specs.node_core.PortOutput.{handed_after, hands_over, listed_at, pending_bytes}
use Rattle.node_rows.specs.Values.{Is, IsPort}
use Rattle.node_rows.specs.Items.{Items}
use Rattle.node_rows.specs.NodeAnswers.{effect_fields, handed_fields, log_fields, status_fields}
use Rattle.node_rows.specs.Answers.{lost_answers}
use Rattle.node_rows.specs.Openings.{Opens}
use Rattle.node_rows.specs.declared.openings.Node.{Node}

-- an item that counts no loss, and the messages that follow from it
pub data TakesItem (old : CountedCore) (item : Item) (answers : Answers) (new : CountedCore) :
    Type 0 where
  takes : (given : List (Effect Command Output)) → ItemStepOrLost old item new [] given
      → new.losses ≡ old.losses → answers ≡ map effect_fields given
      → TakesItem old item answers new

-- a step, its answers, and the node before and after it
pub data NodeDoes : CountedCore → List Text → Answers → CountedCore → Type 0 where
  -- an item
  item : {old new : CountedCore} {step : List Text} {answers : Answers} (item : Item)
      → Items step item → TakesItem old item answers new → NodeDoes old step answers new
  -- `unread x"03 01 .."`: a message whose snapshot is none, and whether a loss was counted
  loses : {old new : CountedCore} {word bytes : Text} {answers : Answers}
      (message : Message Command) (given : List (Effect Command Output))
      → Is word (codes "unread") → message_of bytes ≡ Ok message
      → ItemStepOrLost old (items.Peer message) new [] given
      → answers ≡ map effect_fields given ++ lost_answers (not (new.losses == old.losses))
      → NodeDoes old (word ∷ bytes ∷ []) answers new
  -- `take 1`: what it has for a port is handed over
  hands : {old new : CountedCore} {word digits : Text} {answers : Answers} (port : Port)
      → Is word (codes "take") → IsPort digits port
      → answers ≡ handed_fields (handed_after (listed_at port old.core))
      (pending_bytes (listed_at port old.core)) ∷ []
      → new ≡ record old { core = hands_over port old.core }
      → NodeDoes old (word ∷ digits ∷ []) answers new
  -- `status`
  shows : {old new : CountedCore} {word : Text} {answers : Answers} → Is word (codes "status")
      → answers ≡ status_fields (status_of old.core.replica.state) ∷ [] → new ≡ old
      → NodeDoes old (word ∷ []) answers new
  -- `log`
  keeps : {old new : CountedCore} {word : Text} {answers : Answers} → Is word (codes "log")
      → answers ≡ log_fields old.core.replica.state.log ∷ [] → new ≡ old
      → NodeDoes old (word ∷ []) answers new
  -- `uncut`: whether there is something to cut
  uncut : {old new : CountedCore} {word : Text} {answers : Answers} → Is word (codes "uncut")
      → answers ≡ yes_or_no (can_cut old.core.replica.state) ∷ [] → new ≡ old
      → NodeDoes old (word ∷ []) answers new

-- a step of a row
abbrev pub StepDoes : Node → List Text → Answers → Node → Type 0
StepDoes old step answers new = NodeDoes old.core step answers new.core

-- the first step opens a node, and the others agree with it
pub data NodeAgrees : List Line → Type 0 where
  agrees : {first : Line} {steps : List Line} (core : CountedCore) → Opens first.fields core
      → Agrees StepDoes (record { core = core }) steps → NodeAgrees (first ∷ steps)
