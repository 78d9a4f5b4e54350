-- Steps about retained publications, and their answers (MQTT 3.3.1.3).
use Rattle.std.specs.Prelude.{◌≡◌, ℕ, List, [], ◌∷◌, length, map, codes}
use Rattle.rows.specs.Fields.{Text}
use Rattle.rows.specs.Playing.{Answers, Agrees}
use Rattle.rows.specs.Answers.{counted}
use Rattle.rows.specs.declared.line.Line.{Line}
use Rattle.packet_base.specs.declared.qos.QoS.{QoS}
use Rattle.retained.specs.Retained.{RetainedTopics, after_put, matching_entries}
use Rattle.retained.specs.declared.retained_publication.RetainedPublication.{RetainedPublication}
use Rattle.broker_rows.specs.Values.{qos_text}
use Rattle.broker_rows.specs.declared.store_steps.Retained.{Retained}

-- `topic "t/1" qos 2 payload "x"`
abbrev pub retained_fields : (Text × RetainedPublication) → List Text
retained_fields entry = codes "topic" ∷ entry.0 ∷ codes "qos" ∷ qos_text entry.1.qos
    ∷ codes "payload" ∷ entry.1.payload ∷ []

-- a step, its answers, and what is retained before and after it
pub data StoreStep (old : RetainedTopics) (step : List Text) (answers : Answers)
    (new : RetainedTopics) : Type 0 where
  -- `retain "t/1" 2 "x"`
  retain : (topic payload : Text) (qos : QoS)
      → step ≡ codes "retain" ∷ topic ∷ qos_text qos ∷ payload ∷ [] → answers ≡ []
      → new ≡ after_put old topic qos payload → StoreStep old step answers new
  -- `find "t/#"`: each retained publication whose topic matches
  find : (filter : Text) → step ≡ codes "find" ∷ filter ∷ []
      → answers ≡ map retained_fields (matching_entries old filter) → new ≡ old
      → StoreStep old step answers new
  -- `topics`: how many topics have one
  topics : step ≡ codes "topics" ∷ [] → answers ≡ counted (codes "topics") (length old) ∷ []
      → new ≡ old → StoreStep old step answers new

-- a step of a row
abbrev pub StoreDoes : Retained → List Text → Answers → Retained → Type 0
StoreDoes old step answers new = StoreStep old.store step answers new.store

-- the steps agree with a store in which nothing is retained
abbrev pub StoreAgrees : List Line → Type 0
StoreAgrees steps = Agrees StoreDoes (record { store = [] }) steps
