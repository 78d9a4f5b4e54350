-- Steps of a client, and their answers.
use Rattle.std.specs.Prelude.{◌≡◌, List, [], ◌∷◌, codes, map}
use Rattle.rows.specs.Fields.{Text}
use Rattle.rows.specs.Playing.{Answers, Agrees}
use Rattle.rows.specs.declared.line.Line.{Line}
use Rattle.client.specs.Core.{Core, new_core, without_accepted}
use Rattle.node_rows.specs.Values.{Is}
use Rattle.node_rows.specs.ClientAnswers.{accepted_fields, call_fields, state_fields}
use Rattle.node_rows.specs.ClientCalls.{Calls, Ended}
use Rattle.node_rows.specs.declared.client_steps.Client.{Client}

-- what it wrote is taken
abbrev pub without_out : Core → Core
without_out core = record core { out = [] }

-- a step, its answers, and the client after it
pub data ClientDoes : Core → List Text → Answers → Core → Type 0 where
  -- a call, after which all that was written is taken
  calls : {old new : Core} {step : List Text} {answers : Answers} (ended : Ended) (called : Core)
      → Calls step old ended called → answers ≡ call_fields ended called ∷ []
      → new ≡ without_out called → ClientDoes old step answers new
  -- `state`
  shows : {old new : Core} {word : Text} {answers : Answers} → Is word (codes "state")
      → answers ≡ state_fields old ∷ [] → new ≡ old → ClientDoes old (word ∷ []) answers new
  -- `take`: the accepted publications, which are taken
  takes : {old new : Core} {word : Text} {answers : Answers} → Is word (codes "take")
      → answers ≡ map accepted_fields old.state.accepted → new ≡ without_accepted old
      → ClientDoes old (word ∷ []) answers new

-- a step of a row
abbrev pub StepDoes : Client → List Text → Answers → Client → Type 0
StepDoes old step answers new = ClientDoes old.core step answers new.core

-- the steps agree, from a client `a` that was never connected on
abbrev pub ClientAgrees : List Line → Type 0
ClientAgrees steps = Agrees StepDoes (record { core = new_core (codes "a") 0 }) steps
